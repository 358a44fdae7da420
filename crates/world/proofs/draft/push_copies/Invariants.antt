use Rattle.std.proofs.Common.{◌≡◌, ◌++◌, replicate}
use Rattle.world.proofs.draft.push_copies.Given as goal

abbrev pub invariant-loop : goal.invariant-loop
invariant-loop l = l.cycles.items ≡ l.fn.cycles.items ++ replicate l.counter l.cycle

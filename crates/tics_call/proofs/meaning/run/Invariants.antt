-- the variables after the stores so far
use Rattle.std.proofs.Common.{◌≡◌, take}
use Rattle.std.specs.Prelude.{map}
use Rattle.tics_call.specs.Run.{global_after}
use Rattle.tics_call.proofs.meaning.run.Given as goal

abbrev pub invariant-loop-store : goal.invariant-loop-store
invariant-loop-store l = l.variables.items ≡ map (global_after (take l.store-index l.stores)) l.program.names

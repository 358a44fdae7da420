use Rattle.std.proofs.Common.{◌≡◌, take}
use Rattle.world.specs.TraceFile.{cycles_of}
use Rattle.world.proofs.draft.cycles.Given as goal

abbrev pub invariant-loop-line : goal.invariant-loop-line
invariant-loop-line l = l.cycles.items ≡ cycles_of (take l.line-index l.lines)

use Rattle.std.proofs.Common.{take}
use Rattle.core_layout.specs.Laid.{IsLaid}
use Rattle.core_layout.proofs.layouts.structs_laid.Given as goal

abbrev pub invariant-loop-at : goal.invariant-loop-at
invariant-loop-at l = IsLaid l.known (take l.at l.structs)

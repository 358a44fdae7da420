use Rattle.std.proofs.Common.{take}
use Rattle.core_layout.specs.Laid.{IsNamed}
use Rattle.core_layout.proofs.names.structs_named.Given as goal

abbrev pub invariant-loop-at : goal.invariant-loop-at
invariant-loop-at l = IsNamed l.named (take l.at l.structs)

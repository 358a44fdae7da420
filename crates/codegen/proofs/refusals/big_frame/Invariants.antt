-- the first of all that is too big is the first of those that are left
use Rattle.std.proofs.Common.{◌≡◌, drop}
use Rattle.codegen.specs.Refused as spec
use Rattle.codegen.proofs.refusals.big_frame.Given as goal

abbrev pub invariant-loop-number : goal.invariant-loop-number
invariant-loop-number l =
    spec.big_frame l.core.structs 0 l.core.functions ≡ spec.big_frame l.core.structs l.number (drop l.number l.core.functions)

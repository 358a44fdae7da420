use Rattle.std.proofs.Common.{◌≡◌, length, reverse}
use Rattle.c_typing.specs.Calls as spec
use Rattle.c_names.specs.Arguments.{and_all}
use Rattle.c_names.proofs.arguments.passed.Given as goal

abbrev pub invariant-loop-operand : goal.invariant-loop-operand
invariant-loop-operand l = spec.passed l.fn.params l.fn.operands ≡ and_all l.found (spec.passed l.params (reverse l.left))

abbrev pub decreases-loop-operand : goal.decreases-loop-operand
decreases-loop-operand l = length l.left

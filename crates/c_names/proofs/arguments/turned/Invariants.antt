use Rattle.std.proofs.Common.{◌≡◌, ◌++◌, length, reverse}
use Rattle.c_names.proofs.arguments.turned.Given as goal

abbrev pub invariant-loop-operand : goal.invariant-loop-operand
invariant-loop-operand l = reverse l.fn.operands ≡ l.made ++ reverse l.left

abbrev pub decreases-loop-operand : goal.decreases-loop-operand
decreases-loop-operand l = length l.left

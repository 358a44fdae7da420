-- What the steps of a list measure, each with a weight of its node: with 1 for one node and 0 for the others it is what
-- the steps of that node measure together.
use Rattle.std.specs.Prelude.{ℕ, ◌+◌, ◌*◌, ◌≤◌, if◌then◌else◌, List, [], ◌∷◌, map}
use Rattle.core_tree.specs.declared.program.Function.{Function}
use Rattle.core_tree.specs.Costs.{function_rows}
use Rattle.core_tree.specs.Nodes.{total}
use Rattle.core_tree.specs.Numbers.{function_numbers}
use Rattle.ir.specs.declared.form.Step.{Step}
use Rattle.ir.specs.declared.form.StepKind.{StepKind}
use Rattle.ir.specs.Table.{size, uses_helper}

abbrev pub weighed : (StepKind → ℕ) → (ℕ → ℕ) → List Step → ℕ
weighed measure w [] = 0
weighed measure w (s ∷ ss) = w s.node * measure s.kind + weighed measure w ss

-- how often a step calls a helper routine
abbrev pub helper_uses : StepKind → ℕ
helper_uses k = if uses_helper k then 1 else 0

-- the weights of nodes
abbrev pub weights : (ℕ → ℕ) → List ℕ → ℕ
weights w numbers = total (map w numbers)

-- the steps of each node of a function fit the node's row of the cost table, and use one helper routine at most
pub record FitsRows (x : Function) (steps : List Step) : Type 0 where
  pub bytes : (w : ℕ → ℕ) → weighed size w steps ≤ function_rows w x
  pub helpers : (w : ℕ → ℕ) → weighed helper_uses w steps ≤ weights w (function_numbers x)

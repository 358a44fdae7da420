-- What the steps of a function keep within: the function's nodes, the temporaries that its frame has words for, and its own
-- steps.
use Rattle.std.specs.Prelude.{◌≡◌, ℕ, ◌+◌, ◌<◌, ◌≤◌, List, length, Some, slice_get}
use Rattle.core_tree.specs.declared.program.Function.{Function}
use Rattle.core_tree.specs.Heights.{height_of}
use Rattle.core_tree.specs.Numbers.{function_numbers}
use Rattle.ir.specs.declared.form.Step.{Step}
use Rattle.ir.specs.declared.form.StepKind.{StepKind}
use Rattle.ir.specs.declared.form.StepKind.TheVariants as step
use Rattle.ir.specs.Table.{reach}

-- the temporary words in the frame of a function
abbrev pub temporary_words : Function → ℕ
temporary_words x = height_of x + 2

-- no step uses more temporaries than the frame has words for
abbrev pub FitsFrame : Function → List Step → Type 0
FitsFrame x steps = (p : ℕ) (s : Step) → slice_get steps p ≡ Some s → reach s.kind ≤ temporary_words x

-- each step belongs to a node of the function
abbrev pub HaveNodes : Function → List Step → Type 0
HaveNodes x steps = (p : ℕ) (s : Step) → slice_get steps p ≡ Some s
    → (i : ℕ) × (slice_get (function_numbers x) i ≡ Some s.node)

-- where a step may jump to; the first step for one that does not jump
abbrev pub jump_of : StepKind → ℕ
jump_of (step.Jump to) = to
jump_of (step.Branch d t of when to) = to
jump_of (step.Case d of n to) = to
jump_of (step.Timely d n from k limit to) = to
jump_of (step.Open table to) = to
jump_of (step.Check table to) = to
jump_of (step.Close table to) = to
jump_of _ = 0

-- each jump goes to a step of the same function
abbrev pub JumpsInside : List Step → Type 0
JumpsInside steps = (p : ℕ) (s : Step) → slice_get steps p ≡ Some s → jump_of s.kind < length steps

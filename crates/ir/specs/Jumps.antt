-- Where jumps go in a form whose runs make few steps from mark to mark: ahead, or back to a step that makes a mark.
use Rattle.std.specs.Prelude.{◌≡◌, ℕ, ◌<◌, ◌⊎◌, Bool, true, false, List, Some, slice_get}
use Rattle.ir.specs.declared.form.IrFunction.{IrFunction}
use Rattle.ir.specs.declared.form.Step.{Step}
use Rattle.ir.specs.declared.form.StepKind.{StepKind}
use Rattle.ir.specs.declared.form.StepKind.TheVariants as step

-- the steps that stand before the test of a loop
abbrev pub is_turn : StepKind → Bool
is_turn step.Turn = true
is_turn (step.Check table to) = true
is_turn _ = false

-- a jump to a place goes ahead, or to a turn
abbrev pub Ahead : IrFunction → (from to : ℕ) → Type 0
Ahead fn p to = (p < to) ⊎ ((s : Step) × (slice_get fn.steps to ≡ Some s) × (is_turn s.kind ≡ true))

abbrev pub JumpsAhead : IrFunction → ℕ → StepKind → Type 0
JumpsAhead fn p (step.Jump to) = Ahead fn p to
JumpsAhead fn p (step.Branch d t of when to) = Ahead fn p to
JumpsAhead fn p (step.Case d of n to) = Ahead fn p to
JumpsAhead fn p (step.Timely d n from k limit to) = p < to
JumpsAhead fn p (step.Open table to) = p < to
JumpsAhead fn p (step.Check table to) = p < to
JumpsAhead fn p (step.Close table to) = p < to
JumpsAhead fn p _ = Unit {0}

-- all jumps of all functions
abbrev pub IsOrdered : List IrFunction → Type 0
IsOrdered fs = (f p : ℕ) (fn : IrFunction) (s : Step) → slice_get fs f ≡ Some fn → slice_get fn.steps p ≡ Some s
    → JumpsAhead fn p s.kind

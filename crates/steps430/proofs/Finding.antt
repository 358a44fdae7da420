-- Steps that are done where what they find is as it has to be.
use Rattle.std.proofs.Common.{◌≡◌, ℕ, List, ◌∷◌, Some}
use Rattle.std.specs.Prelude.{slice_get}
use Rattle.ideal430.specs.Ideal.{Ideal}
use Rattle.c_run.specs.Runs.{Run}
use Rattle.c_values.specs.declared.state.State.{State}
use Rattle.c_values.specs.declared.value.Value.{Value}
use Rattle.ir.specs.declared.control.Temporary.{Temporary}
use Rattle.ir.specs.declared.control.Temporary.TheVariants as temporary
use Rattle.ir.specs.declared.control.Frame.{Frame}
use Rattle.ir.specs.declared.control.Control.TheVariants.{At}
use Rattle.ir.specs.declared.form.Operand.{Operand}
use Rattle.ir.specs.declared.form.StepKind.{StepKind}
use Rattle.ir.specs.Machine.{act}
use Rattle.steps430.specs.Setting.{Setting, function_of}
use Rattle.steps430.specs.Standing.{StandsAt}
use Rattle.steps430.specs.Follows.{Follows, DoesStep}
use Rattle.steps430.proofs.Outcomes.{Gives}

-- what a step finds when it is made
abbrev pub Finds : Type 1
Finds = (s : State) (first : ℕ) (ts : List Temporary) → Type 0

-- the code of a step does the step where it finds what it has to, in at most so many instructions
abbrev pub DoesWhere : (p : Setting) (limit : ℕ) → StepKind → Finds → Type 0
DoesWhere p limit k IsFine = (f q first : ℕ) (ts : List Temporary) (below : List Frame) (node : ℕ) (r : Run) (t : Ideal)
    → slice_get (function_of p f).steps q ≡ Some (record { node = node; kind = k })
    → StandsAt p (At f q first ts below) r t
    → IsFine r.state first ts
    → Follows p limit (act p.ir p.readings node k f q first ts below r) t

-- the value of an operand is such
abbrev pub FindsOne : Operand → (State → Value → Type 0) → Finds
FindsOne x IsFine s first ts = (v : Value) (us : List Temporary) → Gives s first x ts v us → IsFine s v

-- the values of two operands are such
abbrev pub FindsTwo : (left right : Operand) → (State → Value → Value → Type 0) → Finds
FindsTwo left right IsFine s first ts =
    (a b : Value) (us ws : List Temporary) → Gives s first right ts b us → Gives s first left us a ws → IsFine s a b

-- the two topmost values are such
abbrev pub FindsTop : (State → Value → Value → Type 0) → Finds
FindsTop IsFine s first ts =
    (a b : Value) (ws : List Temporary) → ts ≡ temporary.Value b ∷ temporary.Value a ∷ ws → IsFine s a b

-- it does so wherever the machine stands, if that holds there always
pub where_always : (p : Setting) (l : ℕ) (k : StepKind) (IsFine : Finds)
    → ((s : State) (first : ℕ) (ts : List Temporary) → IsFine s first ts) → DoesWhere p l k IsFine → DoesStep p l k
where_always p l k IsFine always h =
    λ f q first ts below node r t e s. h f q first ts below node r t e s (always r.state first ts)

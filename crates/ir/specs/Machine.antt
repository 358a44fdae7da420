-- The run of a form: by cases on its steps, over the states and actions of C. It knows neither the tree nor its meaning.
use Rattle.std.specs.Prelude.{ℕ, zero, suc, ◌+◌, Bool, true, false, if◌then◌else◌, nat_eq, List, [], ◌∷◌, ◌++◌, map, length, take, Option, Some, None, slice_get, Result}
use Rattle.base16.specs.declared.image.Kind.{Kind}
use Rattle.base16.specs.declared.image.Kind.TheVariants as kind
use Rattle.base16.specs.declared.integer.IntType.{IntType}
use Rattle.base16.specs.declared.reading.Reading.{Reading}
use Rattle.core_tree.specs.declared.types.Slot.{Slot}
use Rattle.c_values.specs.declared.value.Value.{Value}
use Rattle.c_values.specs.declared.value.Value.TheVariants.{Int, Null, Undefined}
use Rattle.c_values.specs.declared.value.Location.{Location}
use Rattle.c_values.specs.declared.value.Cell.{Cell}
use Rattle.c_values.specs.declared.state.Object.{Object}
use Rattle.c_values.specs.declared.state.State.{State}
use Rattle.c_values.specs.Operators.{int_eq, truth}
use Rattle.c_values.specs.Objects.{with_cleared}
use Rattle.c_values.specs.Pointers.{at, pointed, member_at, element, sum_of, pointer_to, address, truth_of, compared, difference}
use Rattle.c_values.specs.Values.{int_value, integer, numbered, present, all_present, operated, operated_one, converted}
use Rattle.c_run.specs.Runs.{Run, Stop, Live, Ended, NeedsReading, Undefined as Broken, Wrong, Outcome, Went, Stopped, Action, ◌>>=◌, ◌>>◌, pure, stop, given, asked, changed, mark}
use Rattle.c_run.specs.Actions.{load, store, sense, emit, enter, leave, finish, with_params, stamped, timely, open_block, check_block, close_block}
use Rattle.ir.specs.declared.form.Ir.{Ir}
use Rattle.ir.specs.declared.form.IrGlobal.{IrGlobal}
use Rattle.ir.specs.declared.form.IrFunction.{IrFunction}
use Rattle.ir.specs.declared.form.Base.{Base}
use Rattle.ir.specs.declared.form.Base.TheVariants as base
use Rattle.ir.specs.declared.form.Operand.{Operand}
use Rattle.ir.specs.declared.form.Operand.TheVariants as operand
use Rattle.ir.specs.declared.form.Target.{Target}
use Rattle.ir.specs.declared.form.Target.TheVariants as target
use Rattle.ir.specs.declared.form.Operation.{Operation}
use Rattle.ir.specs.declared.form.Operation.TheVariants as operation
use Rattle.ir.specs.declared.form.Test.{Test}
use Rattle.ir.specs.declared.form.Test.TheVariants as test
use Rattle.ir.specs.declared.form.Keep.{Keep}
use Rattle.ir.specs.declared.form.Keep.TheVariants as keep
use Rattle.ir.specs.declared.form.Step.{Step}
use Rattle.ir.specs.declared.form.StepKind.{StepKind}
use Rattle.ir.specs.declared.form.StepKind.TheVariants as step
use Rattle.ir.specs.declared.form.IrState.{IrState}
use Rattle.ir.specs.declared.form.IrState.TheVariants as state
pub use Rattle.ir.specs.declared.control.Temporary.{Temporary}
use Rattle.ir.specs.declared.control.Temporary.TheVariants as temporary
pub use Rattle.ir.specs.declared.control.Frame.{Frame}
pub use Rattle.ir.specs.declared.control.Control.{Control}
pub use Rattle.ir.specs.declared.control.Control.TheVariants.{At, Calling, Returning}

-- what is met by no form that serves a program
abbrev pub stuck : {A : Type 0} → Action A
stuck = stop Wrong

unfoldable pub found : {A B : Type 0} → Option A → (A → Action B) → Action B
found (Some x) go = go x
found None go = stuck

-- ---- temporaries: a stack, the topmost first, so that the depth of one is the number of those below it

-- a step goes on where so many temporaries are left
unfoldable pub at_depth : ℕ → List Temporary → Action Control → Action Control
at_depth d ts go = if nat_eq (length ts) d then go else stuck

-- the topmost temporary is a value, and is taken away
unfoldable pub on_value : List Temporary → (Value → List Temporary → Action Control) → Action Control
on_value (temporary.Value v ∷ ts) go = go v ts
on_value _ go = stuck

-- the topmost temporary is a place, and is taken away
unfoldable pub on_place : List Temporary → (Location → List Temporary → Action Control) → Action Control
on_place (temporary.Place l ∷ ts) go = go l ts
on_place _ go = stuck

-- the topmost temporary is taken away, whatever it is
unfoldable pub on_any : List Temporary → (Temporary → List Temporary → Action Control) → Action Control
on_any (t ∷ ts) go = go t ts
on_any [] go = stuck

-- the topmost values in order, the last of them on top, before some that were taken already
unfoldable pub on_args : ℕ → List Temporary → List Value → (List Value → List Temporary → Action Control) → Action Control
on_args zero ts args go = go args ts
on_args (suc n) ts args go = on_value ts (λ v us. on_args n us (v ∷ args) go)

-- ---- operands and targets

-- the number of an object in a call whose first object has a number
abbrev pub base_number : ℕ → Base → ℕ
base_number first (base.Local n) = first + n
base_number first (base.Global n) = n

-- a scalar that is named
abbrev pub known : ℕ → Base → ℕ → Location
known first of offset = at (base_number first of) offset

unfoldable pub on_operand : ℕ → ℕ → Operand → List Temporary → (Value → List Temporary → Action Control) → Action Control
on_operand node first operand.Temporary ts go = on_value ts go
on_operand node first (operand.Constant n) ts go = go (Int n) ts
on_operand node first operand.Null ts go = go Null ts
on_operand node first (operand.Scalar of offset k) ts go = load node (known first of offset) k >>= λ v. go v ts

-- two operands, of which the right one is the topmost temporary where both are temporaries
unfoldable pub on_operands : ℕ → ℕ → Operand → Operand → List Temporary → (Value → Value → List Temporary → Action Control)
    → Action Control
on_operands node first left right ts go =
    on_operand node first right ts (λ y us. on_operand node first left us (λ x ws. go x y ws))

unfoldable pub on_target : ℕ → Target → List Temporary → (Location → List Temporary → Action Control) → Action Control
on_target first target.Temporary ts go = on_place ts go
on_target first (target.Known of offset) ts go = go (known first of offset) ts

-- ---- what is computed

abbrev pub numbered_as : Option IntType → Value → Value
numbered_as None v = v
numbered_as (Some t) v = numbered t v

abbrev pub computed : State → Operation → Value → Value → Result Value ℕ
computed s (operation.Integers o t own) x y = operated o t own x y
computed s (operation.PointerPlus minus size left right swapped) x y =
    pointer_to (sum_of s swapped minus size (numbered_as left x) (numbered_as right y))
computed s (operation.Difference size) x y = int_value (difference s size x y)
computed s (operation.ComparePointers o) x y = int_value (compared s o x y)

-- a value that is tested, as its type says
abbrev pub tested : ℕ → IntType → Value → Action Bool
tested node of v = asked node (λ s. truth_of s (numbered of v))

unfoldable pub on_test : ℕ → ℕ → Test → List Temporary → (Value → List Temporary → Action Control) → Action Control
on_test node first (test.Value x) ts go = on_operand node first x ts go
on_test node first (test.Computed op left right) ts go =
    on_operands node first left right ts (λ x y us. asked node (λ s. computed s op x y) >>= λ v. go v us)

-- where a jump is made if something comes out as it is asked for
abbrev pub branch : Bool → Bool → ℕ → ℕ → ℕ
branch true true to next = to
branch false false to next = to
branch _ _ to next = next

-- ---- stores

-- the value from before that is kept below the value of a store, and none where none is kept
unfoldable pub on_before : ℕ → Keep → List Temporary → (Value → List Temporary → Action Control) → Action Control
on_before node keep.Before ts go = on_value ts (λ b us. given node (present b) >>= λ w. go w us)
on_before node _ ts go = go Undefined ts

-- the temporaries with what a store leaves
abbrev pub kept : Keep → (stored before : Value) → List Temporary → List Temporary
kept keep.Nothing stored before ts = ts
kept keep.Stored stored before ts = temporary.Value stored ∷ ts
kept keep.Before stored before ts = temporary.Value before ∷ ts

-- a store of what is computed of the scalar at a place and a value: the old and the new value of the scalar
unfoldable pub update : ℕ → Location → Kind → Operation → Value → Bool → Action (Value × Value)
update node l k op v marked = do
  before ← load node l k
  after ← asked node (λ s. computed s op before v)
  stored ← store node l k after marked
  pure (stored, before)

-- ---- calls

-- the youngest call is left; where none is below it the run is over
unfoldable pub left : Value → List Frame → Action Control
left v [] = finish
left v (b ∷ below) = leave >> pure (Returning v (b ∷ below))

abbrev pub objects_of : IrFunction → List (List Slot)
objects_of fn = map (λ l. l.scalars) fn.locals

abbrev pub first_kind : List Slot → Kind
first_kind [] = kind.Int
first_kind (c ∷ cs) = c.kind

-- what the parameters of a function hold
abbrev pub param_kinds : IrFunction → List Kind
param_kinds fn = map (λ l. first_kind l.scalars) (take fn.params fn.locals)

-- ---- time

abbrev pub place_in : ℕ → List Slot → ℕ
place_in offset [] = 0
place_in offset (s ∷ ss) = if nat_eq s.offset offset then 0 else place_in offset ss + 1

abbrev pub stamps_if : List Slot → Option ℕ → ℕ
stamps_if cs None = 0
stamps_if cs (Some lifetime) = length cs

-- how many stamps a variable has: one for each scalar, if it is timed
abbrev pub stamps_of : IrGlobal → ℕ
stamps_of g = stamps_if g.scalars g.lifetime

-- the stamp of the scalar at an offset of a variable, with the number of stamps before
abbrev pub stamp_in : ℕ → List IrGlobal → ℕ → ℕ → ℕ
stamp_in before [] n offset = 0
stamp_in before (g ∷ gs) zero offset = before + place_in offset g.scalars
stamp_in before (g ∷ gs) (suc n) offset = stamp_in (before + stamps_of g) gs n offset

-- whether a place is in a variable
abbrev pub is_in : ℕ → Option ℕ → Bool
is_in n None = false
is_in n (Some m) = nat_eq m n

-- what is done at a place that is in a variable
unfoldable pub if_in : {A : Type 0} → ℕ → Location → Action A → Action A
if_in n l go = if is_in n l.object then go else stuck

-- where a run stands behind a step
abbrev pub next : (f p first : ℕ) → List Frame → List Temporary → Action Control
next f p first below ts = pure (At f (p + 1) first ts below)

-- behind a step that gives a value, and one that gives a place
abbrev pub gave : (f p first : ℕ) → List Frame → List Temporary → Value → Action Control
gave f p first below ts v = next f p first below (temporary.Value v ∷ ts)

abbrev pub placed : (f p first : ℕ) → List Frame → List Temporary → Location → Action Control
placed f p first below ts l = next f p first below (temporary.Place l ∷ ts)

-- where a run stands behind a step of which something is fine, and else at another place
abbrev pub flag : Bool → ℕ → ℕ → ℕ
flag fine behind to = if fine then behind else to

abbrev pub flagged : (f p first : ℕ) → List Frame → List Temporary → ℕ → Bool → Action Control
flagged f p first below ts to fine = pure (At f (flag fine (p + 1) to) first ts below)

-- the call in which a step calls a function
abbrev pub waiting : (f p first : ℕ) → List Temporary → Frame
waiting f p first ts = record { function = f; position = p + 1; first = first; temporaries = ts }

-- ---- a step

module _ (ir : Ir) (rs : List Reading) where
  -- the step of a node, at a place of a function in a call whose first object has a number
  abbrev pub act : ℕ → StepKind → (f p first : ℕ) → List Temporary → List Frame → Action Control
  act node (step.Put d x) f p first ts below = on_operand node first x ts (λ v us. at_depth d us (gave f p first below us v))
  act node (step.Nothing d) f p first ts below = at_depth d ts (gave f p first below ts Undefined)
  act node (step.Drop d) f p first ts below = on_any ts (λ t us. at_depth d us (next f p first below us))
  act node (step.Beside d op) f p first ts below =
      on_value ts (λ y us. on_value us (λ x ws. at_depth d ws (
      asked node (λ s. computed s op x y) >>= gave f p first below (temporary.Value x ∷ ws))))
  act node (step.Convert d to x) f p first ts below =
      on_operand node first x ts (λ v us. at_depth d us (given node (converted to v) >>= gave f p first below us))
  act node (step.Unary d op t x) f p first ts below =
      on_operand node first x ts (λ v us. at_depth d us (
      asked node (λ s. operated_one s op t v) >>= gave f p first below us))
  act node (step.Binary d op left right) f p first ts below =
      on_operands node first left right ts (λ x y us. at_depth d us (
      asked node (λ s. computed s op x y) >>= gave f p first below us))
  act node (step.Truth d of x) f p first ts below =
      on_operand node first x ts (λ v us. at_depth d us (
      tested node of v >>= λ b. gave f p first below us (Int (truth b))))
  act node (step.Address d of offset) f p first ts below = at_depth d ts (placed f p first below ts (known first of offset))
  act node (step.Follow d x) f p first ts below =
      on_operand node first x ts (λ v us. at_depth d us (given node (pointed v) >>= placed f p first below us))
  act node (step.Member d offset) f p first ts below =
      on_place ts (λ l us. at_depth d us (placed f p first below us (member_at l offset)))
  act node (step.Element d size own x) f p first ts below =
      on_operand node first x ts (λ i us. on_place us (λ l ws. at_depth d ws (
      asked node (λ s. element s size l (numbered own i)) >>= placed f p first below ws)))
  act node (step.Sum d size left_type right_type swapped left right) f p first ts below =
      on_operands node first left right ts (λ x y us. at_depth d us (
      asked node (λ s. sum_of s swapped false size (numbered left_type x) (numbered right_type y)) >>= placed f p first below us))
  act node (step.PointTo d) f p first ts below =
      on_place ts (λ l us. at_depth d us (asked node (λ s. address s l) >>= gave f p first below us))
  act node (step.Load d k) f p first ts below = on_place ts (λ l us. at_depth d us (load node l k >>= gave f p first below us))
  act node (step.Peek d k) f p first ts below =
      on_place ts (λ l us. at_depth d us (load node l k >>= gave f p first below (temporary.Place l ∷ us)))
  act node (step.Store d to k x keeps) f p first ts below =
      on_operand node first x ts (λ v us. on_before node keeps us (λ b ws. on_target first to ws (λ l xs. at_depth d xs (
      store node l k v true >>= λ w. next f p first below (kept keeps w b xs)))))
  act node (step.StoreLocal d n offset k x keeps) f p first ts below =
      on_operand node first x ts (λ v us. on_before node keeps us (λ b ws. at_depth d ws (
      store node (at (first + n) offset) k v false >>= λ w. next f p first below (kept keeps w b ws))))
  act node (step.Update d to k op x keeps) f p first ts below =
      on_operand node first x ts (λ v us. on_target first to us (λ l ws. at_depth d ws (
      update node l k op v true >>= λ w. next f p first below (kept keeps w.0 w.1 ws))))
  act node (step.UpdateLocal d n offset k op x keeps) f p first ts below =
      on_operand node first x ts (λ v us. at_depth d us (
      update node (at (first + n) offset) k op v false >>= λ w. next f p first below (kept keeps w.0 w.1 us)))
  act node (step.Undefine n) f p first ts below = changed (with_cleared (first + n)) >> next f p first below ts
  act node (step.Jump to) f p first ts below = pure (At f to first ts below)
  act node (step.Branch d t of when to) f p first ts below =
      on_test node first t ts (λ v us. at_depth d us (
      tested node of v >>= λ b. pure (At f (branch b when to (p + 1)) first us below)))
  act node (step.Case d of n to) f p first ts below =
      on_value ts (λ v us. at_depth d us (
      given node (integer (numbered of v)) >>= λ z.
      pure (if int_eq z n then At f to first us below else At f (p + 1) first (temporary.Value v ∷ us) below)))
  act node (step.Call d g n) f p first ts below =
      on_args n ts [] (λ args us. at_depth d us (
      given node (all_present args) >> pure (Calling g d args (waiting f p first us ∷ below))))
  act node (step.Return d x) f p first ts below =
      on_operand node first x ts (λ v us. at_depth d us (given node (present v) >>= λ w. left w below))
  act node step.ReturnNothing f p first ts below = left Undefined below
  act node step.Turn f p first ts below = mark >> next f p first below ts
  act node (step.Sense d channel) f p first ts below = at_depth d ts (sense rs channel >>= gave f p first below ts)
  act node (step.Emit d x) f p first ts below =
      on_operand node first x ts (λ v us. at_depth d us (emit node v >>= gave f p first below us))
  act node (step.Checkpoint d) f p first ts below = at_depth d ts (mark >> gave f p first below ts Undefined)
  act node (step.Stamp d n to k x) f p first ts below =
      on_operand node first x ts (λ v us. on_target first to us (λ l ws. at_depth d ws (
      if_in n l (stamped rs node l k (stamp_in 0 ir.globals n l.offset) v) >> next f p first below ws)))
  act node (step.Timely d n from k limit to) f p first ts below =
      on_target first from ts (λ l us. at_depth d us (
      if_in n l (timely rs node l k (stamp_in 0 ir.globals n l.offset) limit) >>= flagged f p first below us to))
  act node (step.Open t to) f p first ts below =
      found (slice_get ir.tables t) (λ names. open_block rs names >>= flagged f p first below ts to)
  act node (step.Check t to) f p first ts below =
      found (slice_get ir.tables t) (λ names. check_block rs names >>= flagged f p first below ts to)
  act node (step.Close t to) f p first ts below =
      found (slice_get ir.tables t) (λ names. close_block rs names >>= flagged f p first below ts to)
  act node k f p first ts below = stuck

  -- at the entry of a function stands the one step that enters it
  abbrev pub act_enter : StepKind → (f : ℕ) → IrFunction → List Value → List Frame → Action Control
  act_enter (step.Enter n) f fn args below =
      enter f fn.frame (objects_of fn) >>= λ first.
      changed (with_params first (param_kinds fn) args) >> pure (At f 1 first [] below)
  act_enter k f fn args below = stuck

  -- and behind a call the one that takes what the call gave
  abbrev pub with_result : Bool → Value → List Temporary → List Temporary
  with_result true v ts = temporary.Value v ∷ ts
  with_result false v ts = ts

  abbrev pub act_result : StepKind → Value → Frame → List Frame → Action Control
  act_result (step.Result d keeps) v b below =
      at_depth d b.temporaries (next b.function b.position b.first below (with_result keeps v b.temporaries))
  act_result k v b below = stuck

  unfoldable pub step_in : ℕ → ℕ → (IrFunction → Step → Action Control) → Action Control
  step_in f p go = found (slice_get ir.functions f) (λ fn. found (slice_get fn.steps p) (go fn))

  abbrev pub one_step : Control → Action Control
  one_step (At f p first ts below) = step_in f p (λ fn s. act s.node s.kind f p first ts below)
  one_step (Calling f d args below) = step_in f 0 (λ fn s. act_enter s.kind f fn args below)
  one_step (Returning v []) = stuck
  one_step (Returning v (b ∷ below)) = step_in b.function b.position (λ fn s. act_result s.kind v b below)

-- ---- a run

-- the steps of all functions
abbrev pub steps_in : List IrFunction → ℕ
steps_in [] = 0
steps_in (f ∷ fs) = length f.steps + steps_in fs

-- what follows a step: the steps up to the next mark, or those behind a mark
abbrev pub after_step : ℕ → (Control → Run → Stop) → (Control → Run → Stop) → Outcome Control → Stop
after_step left on again (Stopped s) = s
after_step left on again (Went c r) = if nat_eq r.left left then on c r else again c r

module _ (ir : Ir) (rs : List Reading) where
  -- at most so many steps to the next mark
  abbrev pub burst : ℕ → (Control → Run → Stop) → Control → Run → Stop
  burst zero again c r = Wrong
  burst (suc n) again c r = after_step r.left (burst n again) again (one_step ir rs c r)

  -- the run that may make so many marks before the one that stops it; from mark to mark it makes no more steps than the
  -- form has
  abbrev pub run_from : ℕ → Control → Run → Stop
  run_from zero c r = burst (steps_in ir.functions) (λ c r. Wrong) c r
  run_from (suc n) c r = burst (steps_in ir.functions) (run_from n) c r

-- what is shown of a stop: a rule that is broken, and what is met by no form that serves a program, is Stuck
abbrev pub shown : Stop → IrState
shown (Live s used) = state.Live s
shown (Ended kind s used) = state.Ended kind s
shown NeedsReading = state.NeedsReading
shown (Broken rule node) = state.Stuck
shown Wrong = state.Stuck

-- ---- the start

abbrev pub initial_cells : List Slot → List Value → List Cell
initial_cells [] vs = []
initial_cells (c ∷ cs) [] = record { offset = c.offset; kind = c.kind; value = Undefined } ∷ initial_cells cs []
initial_cells (c ∷ cs) (v ∷ vs) = record { offset = c.offset; kind = c.kind; value = v } ∷ initial_cells cs vs

abbrev pub initial_objects : ℕ → List IrGlobal → List Object
initial_objects n [] = []
initial_objects n (g ∷ gs) = record { number = n; cells = initial_cells g.scalars g.init } ∷ initial_objects (n + 1) gs

abbrev pub no_stamps : ℕ → List (Option ℕ)
no_stamps zero = []
no_stamps (suc n) = None ∷ no_stamps n

abbrev pub initial_stamps : List IrGlobal → List (Option ℕ)
initial_stamps [] = []
initial_stamps (g ∷ gs) = no_stamps (stamps_of g) ++ initial_stamps gs

unfoldable pub start : Ir → State
start ir = record {
  globals = initial_objects 0 ir.globals;
  calls = [];
  stamps = initial_stamps ir.globals;
  outputs = [];
  block = None;
  marks = 0;
}

-- the run at its start, which may make so many marks before the one that stops it
abbrev pub start_run : Ir → ℕ → Run
start_run ir left = record { state = start ir; used = 0; left = left; next = length ir.globals }

-- how the run stops, where the mark of this number is asked for
unfoldable pub stop_at : Ir → List Reading → ℕ → Stop
stop_at ir readings zero = Live (start ir) 0
stop_at ir readings (suc n) = run_from ir readings n (Calling ir.main 0 [] []) (start_run ir n)

-- the state just after a number of marks, or how the run stopped earlier
abbrev pub after : Ir → List Reading → ℕ → IrState
after ir readings s = shown (stop_at ir readings s)

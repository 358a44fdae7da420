-- The steps of a form as actions one after the other: what each takes of the temporaries, what it computes, and where it
-- leads in its function.
use Rattle.std.specs.Prelude.{ℤ, ℕ, zero, suc, ◌+◌, Bool, true, false, if◌then◌else◌, nat_eq, List, [], ◌∷◌, length, Option, Some, None, slice_get}
use Rattle.base16.specs.declared.image.Kind.{Kind}
use Rattle.base16.specs.declared.integer.IntType.{IntType}
use Rattle.base16.specs.declared.operator.UnaryOp.{UnaryOp}
use Rattle.ir.specs.declared.form.Base.{Base}
use Rattle.ir.specs.declared.form.Operation.{Operation}
use Rattle.base16.specs.declared.reading.Reading.{Reading}
use Rattle.c_values.specs.declared.value.Value.{Value}
use Rattle.c_values.specs.declared.value.Value.TheVariants.{Int, Null, Undefined}
use Rattle.c_values.specs.declared.value.Location.{Location}
use Rattle.c_values.specs.Operators.{int_eq, truth}
use Rattle.c_values.specs.Objects.{with_cleared}
use Rattle.c_values.specs.Pointers.{at, pointed, member_at, element, sum_of, address}
use Rattle.c_values.specs.Values.{integer, numbered, present, operated_one, converted}
use Rattle.c_run.specs.Runs.{Action, ◌>>=◌, ◌>>◌, pure, given, asked, changed, mark}
use Rattle.c_run.specs.Actions.{load, store, sense, emit, stamped, timely, open_block, check_block, close_block}
use Rattle.ir.specs.declared.form.Ir.{Ir}
use Rattle.ir.specs.declared.form.Operand.{Operand}
use Rattle.ir.specs.declared.form.Operand.TheVariants as operand
use Rattle.ir.specs.declared.form.Target.{Target}
use Rattle.ir.specs.declared.form.Target.TheVariants as target
use Rattle.ir.specs.declared.form.Test.{Test}
use Rattle.ir.specs.declared.form.Test.TheVariants as test
use Rattle.ir.specs.declared.form.Keep.{Keep}
use Rattle.ir.specs.declared.form.Keep.TheVariants as keep
use Rattle.ir.specs.declared.form.StepKind.{StepKind}
use Rattle.ir.specs.declared.form.StepKind.TheVariants as step
use Rattle.ir.specs.declared.control.Temporary.TheVariants as temporary
use Rattle.ir.specs.Machine as m
use Rattle.ir.specs.declared.control.Temporary.{Temporary}
use Rattle.ir.specs.Machine.{stuck}

-- ---- temporaries

-- what is taken of the temporaries, and those that are left
pub record Taken (A : Type 0) : Type 0 where
  pub value : A
  pub rest : List Temporary

-- so many temporaries are left
unfoldable pub at_depth : ℕ → List Temporary → Action (Unit {0})
at_depth d ts = if nat_eq (length ts) d then pure tt else stuck

-- the topmost temporary, which is a value
unfoldable pub top_value : List Temporary → Action (Taken Value)
top_value (temporary.Value v ∷ ts) = pure (record { value = v; rest = ts })
top_value _ = stuck

-- the topmost temporary, which is a place
unfoldable pub top_place : List Temporary → Action (Taken Location)
top_place (temporary.Place l ∷ ts) = pure (record { value = l; rest = ts })
top_place _ = stuck

-- the topmost temporary, whatever it is
unfoldable pub top_any : List Temporary → Action (Taken Temporary)
top_any (t ∷ ts) = pure (record { value = t; rest = ts })
top_any [] = stuck

-- so many topmost values in order, the last of them on top, before some that were taken already
unfoldable pub top_values : ℕ → List Temporary → List Value → Action (Taken (List Value))
top_values zero ts found = pure (record { value = found; rest = ts })
top_values (suc n) ts found = top_value ts >>= λ a. top_values n a.rest (a.value ∷ found)

-- ---- operands

-- a value that is no temporary
abbrev pub untaken : {A : Type 0} → List Temporary → A → Action (Taken A)
untaken ts a = pure (record { value = a; rest = ts })

-- the value of an operand
unfoldable pub operand_of : ℕ → ℕ → Operand → List Temporary → Action (Taken Value)
operand_of node first operand.Temporary ts = top_value ts
operand_of node first (operand.Constant n) ts = untaken ts (Int n)
operand_of node first operand.Null ts = untaken ts Null
operand_of node first (operand.Scalar of offset k) ts = load node (m.known first of offset) k >>= untaken ts

-- the values of two operands, of which the right one is the topmost temporary where both are temporaries
unfoldable pub operands_of : ℕ → ℕ → Operand → Operand → List Temporary → Action (Taken (Value × Value))
operands_of node first left right ts = do
  y ← operand_of node first right ts
  x ← operand_of node first left y.rest
  untaken x.rest (x.value, y.value)

-- the place of a target
unfoldable pub target_of : ℕ → Target → List Temporary → Action (Taken Location)
target_of first target.Temporary ts = top_place ts
target_of first (target.Known of offset) ts = untaken ts (m.known first of offset)

-- the value that a branch tests
unfoldable pub test_of : ℕ → ℕ → Test → List Temporary → Action (Taken Value)
test_of node first (test.Value x) ts = operand_of node first x ts
test_of node first (test.Computed op left right) ts = do
  a ← operands_of node first left right ts
  v ← asked node (λ s. m.computed s op a.value.0 a.value.1)
  untaken a.rest v

-- the value from before, which stands below the value of a store where it is kept
unfoldable pub before_of : ℕ → Keep → List Temporary → Action (Taken Value)
before_of node keep.Before ts = do
  v ← top_value ts
  w ← given node (present v.value)
  untaken v.rest w
before_of node _ ts = untaken ts Undefined

-- ---- steps

-- where a step leads in its function, and the temporaries behind it
pub record Moved : Type 0 where
  pub to : ℕ
  pub temporaries : List Temporary

-- to the next step
abbrev pub next : ℕ → List Temporary → Action Moved
next p ts = pure (record { to = p + 1; temporaries = ts })

abbrev pub gave : ℕ → List Temporary → Value → Action Moved
gave p ts v = next p (temporary.Value v ∷ ts)

abbrev pub placed : ℕ → List Temporary → Location → Action Moved
placed p ts l = next p (temporary.Place l ∷ ts)

-- to a place in the function
abbrev pub goes : ℕ → List Temporary → Action Moved
goes to ts = pure (record { to = to; temporaries = ts })

-- to the next step where something is fine, else to another place
abbrev pub fine_or : ℕ → ℕ → Bool → ℕ
fine_or p to fine = if fine then p + 1 else to

unfoldable pub found_in : {A : Type 0} → Option A → Action A
found_in (Some x) = pure x
found_in None = stuck

-- a place is in a variable
unfoldable pub in_variable : ℕ → Location → Action (Unit {0})
in_variable n l = if m.is_in n l.object then pure tt else stuck

module _ (ir : Ir) (rs : List Reading) where
  -- a value is given
  abbrev pub put_step : (node p first : ℕ) → ℕ → Operand → List Temporary → Action Moved
  put_step node p first d x ts = do
    a ← operand_of node first x ts
    at_depth d a.rest
    gave p a.rest a.value

  -- what nothing may use is given
  abbrev pub nothing_step : (node p first : ℕ) → ℕ → List Temporary → Action Moved
  nothing_step node p first d ts = at_depth d ts >> gave p ts Undefined

  -- a temporary is taken away
  abbrev pub drop_step : (node p first : ℕ) → ℕ → List Temporary → Action Moved
  drop_step node p first d ts = do
    a ← top_any ts
    at_depth d a.rest
    next p a.rest

  -- an operation on the two topmost values, of which the lower one stays
  abbrev pub beside_step : (node p first : ℕ) → ℕ → Operation → List Temporary → Action Moved
  beside_step node p first d op ts = do
    y ← top_value ts
    x ← top_value y.rest
    at_depth d x.rest
    w ← asked node (λ s. m.computed s op x.value y.value)
    gave p (temporary.Value x.value ∷ x.rest) w

  -- a value in an integer type
  abbrev pub convert_step : (node p first : ℕ) → ℕ → IntType → Operand → List Temporary → Action Moved
  convert_step node p first d to x ts = do
    a ← operand_of node first x ts
    at_depth d a.rest
    w ← given node (converted to a.value)
    gave p a.rest w

  -- a unary operator
  abbrev pub unary_step : (node p first : ℕ) → ℕ → UnaryOp → IntType → Operand → List Temporary → Action Moved
  unary_step node p first d op t x ts = do
    a ← operand_of node first x ts
    at_depth d a.rest
    w ← asked node (λ s. operated_one s op t a.value)
    gave p a.rest w

  -- an operation on two values
  abbrev pub binary_step : (node p first : ℕ) → ℕ → Operation → Operand → Operand → List Temporary → Action Moved
  binary_step node p first d op left right ts = do
    a ← operands_of node first left right ts
    at_depth d a.rest
    w ← asked node (λ s. m.computed s op a.value.0 a.value.1)
    gave p a.rest w

  -- whether a value is not zero
  abbrev pub truth_step : (node p first : ℕ) → ℕ → IntType → Operand → List Temporary → Action Moved
  truth_step node p first d of x ts = do
    a ← operand_of node first x ts
    at_depth d a.rest
    b ← m.tested node of a.value
    gave p a.rest (Int (truth b))

  -- a known place
  abbrev pub address_step : (node p first : ℕ) → ℕ → Base → ℕ → List Temporary → Action Moved
  address_step node p first d of offset ts = at_depth d ts >> placed p ts (m.known first of offset)

  -- where a pointer points
  abbrev pub follow_step : (node p first : ℕ) → ℕ → Operand → List Temporary → Action Moved
  follow_step node p first d x ts = do
    a ← operand_of node first x ts
    at_depth d a.rest
    l ← given node (pointed a.value)
    placed p a.rest l

  -- a part of a place
  abbrev pub member_step : (node p first : ℕ) → ℕ → ℕ → List Temporary → Action Moved
  member_step node p first d offset ts = do
    a ← top_place ts
    at_depth d a.rest
    placed p a.rest (member_at a.value offset)

  -- an element of an array
  abbrev pub element_step : (node p first : ℕ) → ℕ → ℕ → IntType → Operand → List Temporary → Action Moved
  element_step node p first d size own x ts = do
    i ← operand_of node first x ts
    a ← top_place i.rest
    at_depth d a.rest
    l ← asked node (λ s. element s size a.value (numbered own i.value))
    placed p a.rest l

  -- where the sum of a pointer and an integer points
  abbrev pub sum_step : (node p first : ℕ) → ℕ → ℕ → IntType → IntType → Bool → Operand → Operand → List Temporary → Action Moved
  sum_step node p first d size left_type right_type swapped left right ts = do
    a ← operands_of node first left right ts
    at_depth d a.rest
    l ← asked node (λ s. sum_of s swapped false size (numbered left_type a.value.0) (numbered right_type a.value.1))
    placed p a.rest l

  -- the pointer to a place
  abbrev pub point_to_step : (node p first : ℕ) → ℕ → List Temporary → Action Moved
  point_to_step node p first d ts = do
    a ← top_place ts
    at_depth d a.rest
    v ← asked node (λ s. address s a.value)
    gave p a.rest v

  -- the scalar at a place
  abbrev pub load_step : (node p first : ℕ) → ℕ → Kind → List Temporary → Action Moved
  load_step node p first d k ts = do
    a ← top_place ts
    at_depth d a.rest
    v ← load node a.value k
    gave p a.rest v

  -- the same, the place stays
  abbrev pub peek_step : (node p first : ℕ) → ℕ → Kind → List Temporary → Action Moved
  peek_step node p first d k ts = do
    a ← top_place ts
    at_depth d a.rest
    v ← load node a.value k
    gave p (temporary.Place a.value ∷ a.rest) v

  -- a store with a mark
  abbrev pub store_step : (node p first : ℕ) → ℕ → Target → Kind → Operand → Keep → List Temporary → Action Moved
  store_step node p first d to k x keeps ts = do
    v ← operand_of node first x ts
    b ← before_of node keeps v.rest
    a ← target_of first to b.rest
    at_depth d a.rest
    w ← store node a.value k v.value true
    next p (m.kept keeps w b.value a.rest)

  -- a store without a mark
  abbrev pub store_local_step : (node p first : ℕ) → ℕ → ℕ → ℕ → Kind → Operand → Keep → List Temporary → Action Moved
  store_local_step node p first d n offset k x keeps ts = do
    v ← operand_of node first x ts
    b ← before_of node keeps v.rest
    at_depth d b.rest
    w ← store node (at (first + n) offset) k v.value false
    next p (m.kept keeps w b.value b.rest)

  -- a store of what is computed of the scalar, with a mark
  abbrev pub update_step : (node p first : ℕ) → ℕ → Target → Kind → Operation → Operand → Keep → List Temporary → Action Moved
  update_step node p first d to k op x keeps ts = do
    v ← operand_of node first x ts
    a ← target_of first to v.rest
    at_depth d a.rest
    w ← m.update node a.value k op v.value true
    next p (m.kept keeps w.0 w.1 a.rest)

  -- the same without a mark
  abbrev pub update_local_step : (node p first : ℕ) → ℕ → ℕ → ℕ → Kind → Operation → Operand → Keep → List Temporary
      → Action Moved
  update_local_step node p first d n offset k op x keeps ts = do
    v ← operand_of node first x ts
    at_depth d v.rest
    w ← m.update node (at (first + n) offset) k op v.value false
    next p (m.kept keeps w.0 w.1 v.rest)

  -- the scalars of a local are undefined
  abbrev pub undefine_step : (node p first : ℕ) → ℕ → List Temporary → Action Moved
  undefine_step node p first n ts = changed (with_cleared (first + n)) >> next p ts

  -- a jump
  abbrev pub jump_step : (node p first : ℕ) → ℕ → List Temporary → Action Moved
  jump_step node p first to ts = goes to ts

  -- a jump where a test comes out as asked
  abbrev pub branch_step : (node p first : ℕ) → ℕ → Test → IntType → Bool → ℕ → List Temporary → Action Moved
  branch_step node p first d t of when to ts = do
    a ← test_of node first t ts
    at_depth d a.rest
    b ← m.tested node of a.value
    goes (m.branch b when to (p + 1)) a.rest

  -- a jump where the topmost temporary is a number
  abbrev pub case_step : (node p first : ℕ) → ℕ → IntType → ℤ → ℕ → List Temporary → Action Moved
  case_step node p first d of n to ts = do
    a ← top_value ts
    at_depth d a.rest
    z ← given node (integer (numbered of a.value))
    if int_eq z n then goes to a.rest else gave p a.rest a.value

  -- a mark before the test of a loop
  abbrev pub turn_step : (node p first : ℕ) → List Temporary → Action Moved
  turn_step node p first ts = mark >> next p ts

  -- a reading
  abbrev pub sense_step : (node p first : ℕ) → ℕ → ℕ → List Temporary → Action Moved
  sense_step node p first d channel ts = do
    at_depth d ts
    v ← sense rs channel
    gave p ts v

  -- an output
  abbrev pub emit_step : (node p first : ℕ) → ℕ → Operand → List Temporary → Action Moved
  emit_step node p first d x ts = do
    a ← operand_of node first x ts
    at_depth d a.rest
    w ← emit node a.value
    gave p a.rest w

  -- a mark that the program asks for
  abbrev pub checkpoint_step : (node p first : ℕ) → ℕ → List Temporary → Action Moved
  checkpoint_step node p first d ts = do
    at_depth d ts
    mark
    gave p ts Undefined

  -- a store with a stamp
  abbrev pub stamp_step : (node p first : ℕ) → ℕ → ℕ → Target → Kind → Operand → List Temporary → Action Moved
  stamp_step node p first d n to k x ts = do
    v ← operand_of node first x ts
    a ← target_of first to v.rest
    at_depth d a.rest
    in_variable n a.value
    stamped rs node a.value k (m.stamp_in 0 ir.globals n a.value.offset) v.value
    next p a.rest

  -- a jump where a stamp is too old
  abbrev pub timely_step : (node p first : ℕ) → ℕ → ℕ → Target → Kind → ℕ → ℕ → List Temporary → Action Moved
  timely_step node p first d n from k limit to ts = do
    a ← target_of first from ts
    at_depth d a.rest
    in_variable n a.value
    b ← timely rs node a.value k (m.stamp_in 0 ir.globals n a.value.offset) limit
    goes (fine_or p to b) a.rest

  -- a block is opened
  abbrev pub open_step : (node p first : ℕ) → ℕ → ℕ → List Temporary → Action Moved
  open_step node p first t to ts = do
    names ← found_in (slice_get ir.tables t)
    b ← open_block rs names
    goes (fine_or p to b) ts

  -- a block is checked
  abbrev pub check_step : (node p first : ℕ) → ℕ → ℕ → List Temporary → Action Moved
  check_step node p first t to ts = do
    names ← found_in (slice_get ir.tables t)
    b ← check_block rs names
    goes (fine_or p to b) ts

  -- a block is closed
  abbrev pub close_step : (node p first : ℕ) → ℕ → ℕ → List Temporary → Action Moved
  close_step node p first t to ts = do
    names ← found_in (slice_get ir.tables t)
    b ← close_block rs names
    goes (fine_or p to b) ts

  -- what a step does that stays in its function: the step of a node, at a place, in a call whose first object has a number
  abbrev pub does : ℕ → StepKind → (p first : ℕ) → List Temporary → Action Moved
  does node (step.Put d x) p first ts = put_step node p first d x ts
  does node (step.Nothing d) p first ts = nothing_step node p first d ts
  does node (step.Drop d) p first ts = drop_step node p first d ts
  does node (step.Beside d op) p first ts = beside_step node p first d op ts
  does node (step.Convert d to x) p first ts = convert_step node p first d to x ts
  does node (step.Unary d op t x) p first ts = unary_step node p first d op t x ts
  does node (step.Binary d op left right) p first ts = binary_step node p first d op left right ts
  does node (step.Truth d of x) p first ts = truth_step node p first d of x ts
  does node (step.Address d of offset) p first ts = address_step node p first d of offset ts
  does node (step.Follow d x) p first ts = follow_step node p first d x ts
  does node (step.Member d offset) p first ts = member_step node p first d offset ts
  does node (step.Element d size own x) p first ts = element_step node p first d size own x ts
  does node (step.Sum d size left_type right_type swapped left right) p first ts =
      sum_step node p first d size left_type right_type swapped left right ts
  does node (step.PointTo d) p first ts = point_to_step node p first d ts
  does node (step.Load d k) p first ts = load_step node p first d k ts
  does node (step.Peek d k) p first ts = peek_step node p first d k ts
  does node (step.Store d to k x keeps) p first ts = store_step node p first d to k x keeps ts
  does node (step.StoreLocal d n offset k x keeps) p first ts = store_local_step node p first d n offset k x keeps ts
  does node (step.Update d to k op x keeps) p first ts = update_step node p first d to k op x keeps ts
  does node (step.UpdateLocal d n offset k op x keeps) p first ts = update_local_step node p first d n offset k op x keeps ts
  does node (step.Undefine n) p first ts = undefine_step node p first n ts
  does node (step.Jump to) p first ts = jump_step node p first to ts
  does node (step.Branch d t of when to) p first ts = branch_step node p first d t of when to ts
  does node (step.Case d of n to) p first ts = case_step node p first d of n to ts
  does node step.Turn p first ts = turn_step node p first ts
  does node (step.Sense d channel) p first ts = sense_step node p first d channel ts
  does node (step.Emit d x) p first ts = emit_step node p first d x ts
  does node (step.Checkpoint d) p first ts = checkpoint_step node p first d ts
  does node (step.Stamp d n to k x) p first ts = stamp_step node p first d n to k x ts
  does node (step.Timely d n from k limit to) p first ts = timely_step node p first d n from k limit to ts
  does node (step.Open t to) p first ts = open_step node p first t to ts
  does node (step.Check t to) p first ts = check_step node p first t to ts
  does node (step.Close t to) p first ts = close_step node p first t to ts
  does node k p first ts = stuck

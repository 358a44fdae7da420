-- What a step of a form leaves: each object has the scalars with which it came to life, and the objects of the call that
-- runs, and of those that wait, are those of their functions.
use Rattle.std.proofs.Common.{◌≡◌, ℕ, zero, suc, ◌+◌, ◌<◌, List, [], ◌∷◌, ◌++◌, length, map, get_or, Option, Some, None, Bool, true, false, refl, sym, ap, ◌∙◌, subst, arith, cond, append_assoc, length-append, get_or-append-add}
use Rattle.std.proofs.Math.Seq.{get_or-append_seam}
use Rattle.std.specs.Prelude.{slice_get, nat_eq}
use Rattle.base16.specs.declared.image.Kind.{Kind}
use Rattle.base16.specs.declared.reading.Reading.{Reading}
use Rattle.core_tree.specs.declared.types.Slot.{Slot}
use Rattle.core_tree.specs.LawfulCore.{Every}
use Rattle.c_values.specs.declared.value.Value.{Value}
use Rattle.c_values.specs.declared.value.Value.TheVariants.{Int, Null, Undefined}
use Rattle.c_values.specs.declared.value.Location.{Location}
use Rattle.c_values.specs.declared.state.Object.{Object}
use Rattle.c_values.specs.Objects as objects
use Rattle.c_values.specs.Operators.{int_eq}
use Rattle.c_values.specs.Values.{present, all_present}
use Rattle.c_run.specs.Runs.{Run, Stop, Outcome, Went, Stopped, Action, pure, ◌>>=◌, asked}
use Rattle.c_run.specs.Actions as act
use Rattle.ir.specs.declared.form.Ir.{Ir}
use Rattle.ir.specs.declared.form.IrFunction.{IrFunction}
use Rattle.ir.specs.declared.form.IrGlobal.{IrGlobal}
use Rattle.ir.specs.declared.form.Step.{Step}
use Rattle.ir.specs.declared.form.StepKind.{StepKind}
use Rattle.ir.specs.declared.form.StepKind.TheVariants as step
use Rattle.ir.specs.declared.form.Operand.{Operand}
use Rattle.ir.specs.declared.form.Operand.TheVariants as operand
use Rattle.ir.specs.declared.form.Operation.{Operation}
use Rattle.ir.specs.declared.form.Target.{Target}
use Rattle.ir.specs.declared.form.Target.TheVariants as target
use Rattle.ir.specs.declared.form.Test.{Test}
use Rattle.ir.specs.declared.form.Test.TheVariants as test
use Rattle.ir.specs.declared.form.Keep.{Keep}
use Rattle.ir.specs.declared.form.Keep.TheVariants as keep
use Rattle.ir.specs.declared.control.Temporary.TheVariants as temporary
use Rattle.ir.specs.Machine as m
use Rattle.ir.specs.Machine.{Control, At, Calling, Returning, Frame, Temporary}
use Rattle.ir.proofs.Bounded.{same_function}
use Rattle.ir.proofs.Objects.{slots_of, Has, Sound, Keeps, went, stopped, Safe, Any, keeps_then, safe_then, safe_pure, safe_stop, safe_given, safe_asked, safe_changed, safe_if, safe_mark, safe_load, safe_store, safe_sense, safe_emit, safe_leave, safe_finish, safe_stamped, safe_timely, safe_open, safe_checked, safe_close, clear_has, params_has, enter_keeps, first_of, object_has}

-- the objects of a call, from a first number on, are those of its function
pub record Owns (ir : Ir) (born : List (List Slot)) (f first : ℕ) : Type 0 where
  pub inside : (fn : IrFunction) → slice_get ir.functions f ≡ Some fn → (n : ℕ) → n < length (m.objects_of fn)
      → first + n < length born
  pub slots : (fn : IrFunction) → slice_get ir.functions f ≡ Some fn → (n : ℕ) → n < length (m.objects_of fn)
      → get_or born (first + n) [] ≡ get_or (m.objects_of fn) n []

abbrev FrameOwns : Ir → List (List Slot) → Frame → Type 0
FrameOwns ir born b = Owns ir born b.function b.first

-- those of the call that runs and of those that wait
abbrev pub Own : Ir → List (List Slot) → Control → Type 0
Own ir born (At f p first ts below) = Owns ir born f first × Every (FrameOwns ir born) below
Own ir born (Calling f d args below) = Every (FrameOwns ir born) below
Own ir born (Returning v below) = Every (FrameOwns ir born) below

-- a run whose objects are as they came to life
pub data Holds (ir : Ir) : Outcome Control → Type 0 where
  alive : {c : Control} {r : Run} (born : List (List Slot)) → Sound born r → Own ir born c → Holds ir (Went c r)
  over : {s : Stop} → Holds ir (Stopped s)

pub holds_of : {ir : Ir} {born : List (List Slot)} {o : Outcome Control} → Keeps born (Own ir born) o → Holds ir o
holds_of (went s c) = alive _ s c
holds_of stopped = over

-- ---- the parts of a step

module _ {born : List (List Slot)} {P : Control → Type 0} where
  safe_depth : (d : ℕ) (ts : List Temporary) {go : Action Control} → Safe born P go → Safe born P (m.at_depth d ts go)
  unfolding m.at_depth
  safe_depth d ts h = safe_if (nat_eq (length ts) d) h safe_stop

  safe_value : (ts : List Temporary) {go : Value → List Temporary → Action Control}
      → ((v : Value) (us : List Temporary) → Safe born P (go v us)) → Safe born P (m.on_value ts go)
  unfolding m.on_value
  safe_value (temporary.Value v ∷ ts) h = h v ts
  safe_value (temporary.Place l ∷ ts) h = safe_stop
  safe_value [] h = safe_stop

  safe_place : (ts : List Temporary) {go : Location → List Temporary → Action Control}
      → ((l : Location) (us : List Temporary) → Safe born P (go l us)) → Safe born P (m.on_place ts go)
  unfolding m.on_place
  safe_place (temporary.Place l ∷ ts) h = h l ts
  safe_place (temporary.Value v ∷ ts) h = safe_stop
  safe_place [] h = safe_stop

  safe_any : (ts : List Temporary) {go : Temporary → List Temporary → Action Control}
      → ((t : Temporary) (us : List Temporary) → Safe born P (go t us)) → Safe born P (m.on_any ts go)
  unfolding m.on_any
  safe_any (t ∷ ts) h = h t ts
  safe_any [] h = safe_stop

  safe_args : (k : ℕ) (ts : List Temporary) (args : List Value) {go : List Value → List Temporary → Action Control}
      → ((vs : List Value) (us : List Temporary) → Safe born P (go vs us)) → Safe born P (m.on_args k ts args go)
  unfolding m.on_args m.on_value
  safe_args zero ts args h = h args ts
  safe_args (suc k) [] args h = safe_stop
  safe_args (suc k) (temporary.Place l ∷ ts) args h = safe_stop
  safe_args (suc k) (temporary.Value v ∷ ts) args h = safe_args k ts (v ∷ args) h

  safe_operand : (node first : ℕ) (x : Operand) (ts : List Temporary) {go : Value → List Temporary → Action Control}
      → ((v : Value) (us : List Temporary) → Safe born P (go v us)) → Safe born P (m.on_operand node first x ts go)
  unfolding m.on_operand
  safe_operand node first operand.Temporary ts h = safe_value ts h
  safe_operand node first (operand.Constant n) ts h = h (Int n) ts
  safe_operand node first operand.Null ts h = h Null ts
  safe_operand node first (operand.Scalar of offset k) ts h = safe_then (safe_load node _ k) (λ v e. h v ts)

  safe_operands : (node first : ℕ) (x y : Operand) (ts : List Temporary)
      {go : Value → Value → List Temporary → Action Control}
      → ((v w : Value) (us : List Temporary) → Safe born P (go v w us)) → Safe born P (m.on_operands node first x y ts go)
  unfolding m.on_operands
  safe_operands node first x y ts {go} h = safe_operand node first y ts {go = λ w us. m.on_operand node first x us
      (λ v ws. go v w ws)} (λ w us. safe_operand node first x us {go = λ v ws. go v w ws} (λ v ws. h v w ws))

  safe_target : (first : ℕ) (to : Target) (ts : List Temporary) {go : Location → List Temporary → Action Control}
      → ((l : Location) (us : List Temporary) → Safe born P (go l us)) → Safe born P (m.on_target first to ts go)
  unfolding m.on_target
  safe_target first target.Temporary ts h = safe_place ts h
  safe_target first (target.Known of offset) ts h = h (m.known first of offset) ts

  safe_before : (node : ℕ) (k : Keep) (ts : List Temporary) {go : Value → List Temporary → Action Control}
      → ((v : Value) (us : List Temporary) → Safe born P (go v us)) → Safe born P (m.on_before node k ts go)
  unfolding m.on_before
  safe_before node keep.Before ts h = safe_value ts (λ v us. safe_then (safe_given node (present v)) (λ w e. h w us))
  safe_before node keep.Nothing ts h = h Undefined ts
  safe_before node keep.Stored ts h = h Undefined ts

  safe_test : (node first : ℕ) (t : Test) (ts : List Temporary) {go : Value → List Temporary → Action Control}
      → ((v : Value) (us : List Temporary) → Safe born P (go v us)) → Safe born P (m.on_test node first t ts go)
  unfolding m.on_test
  safe_test node first (test.Value x) ts h = safe_operand node first x ts h
  safe_test node first (test.Computed op x y) ts {go} h =
      safe_operands node first x y ts {go = λ v w us. asked node (λ s. m.computed s op v w) >>= λ z. go z us}
      (λ v w us. safe_then (safe_asked node (λ s. m.computed s op v w)) (λ z e. h z us))

  safe_found : {A : Type 0} (o : Option A) {go : A → Action Control} → ((a : A) → Safe born P (go a))
      → Safe born P (m.found o go)
  unfolding m.found
  safe_found (Some a) h = h a
  safe_found None h = safe_stop

safe_in : {born : List (List Slot)} {A : Type 0} {P : A → Type 0} (n : ℕ) (l : Location) {go : Action A} → Safe born P go
    → Safe born P (m.if_in n l go)
unfolding m.if_in
safe_in n l h = safe_if (m.is_in n l.object) h safe_stop

safe_update : {born : List (List Slot)} (node : ℕ) (l : Location) (k : Kind) (op : Operation) (v : Value) (marked : Bool)
    → Safe born Any (m.update node l k op v marked)
unfolding m.update
safe_update node l k op v marked =
    safe_then (safe_load node l k) (λ before e. safe_then (safe_asked node _) (λ after e2.
    safe_then (safe_store node l k after marked) (λ stored e3. safe_pure (stored, before) tt)))

module _ (ir : Ir) (rs : List Reading) {born : List (List Slot)} where
  safe_left : (v : Value) (below : List Frame) → Every (FrameOwns ir born) below → Safe born (Own ir born) (m.left v below)
  unfolding m.left
  safe_left v [] e = safe_finish
  safe_left v (b ∷ below) e = safe_then safe_leave (λ u e2. safe_pure (Returning v (b ∷ below)) e)

  module _ (f first : ℕ) (below : List Frame) (owns : Owns ir born f first) (waits : Every (FrameOwns ir born) below) where
    abbrev SafeAct : Action Control → Type 0
    SafeAct go = Safe born (Own ir born) go

    -- on in the same call
    on : (p : ℕ) (ts : List Temporary) → SafeAct (pure (At f p first ts below))
    on p ts = safe_pure (At f p first ts below) (owns, waits)

    on_either : (b : Bool) (p q : ℕ) (ts us : List Temporary)
        → SafeAct (pure (cond b (At f p first ts below) (At f q first us below)))
    on_either true p q ts us = on p ts
    on_either false p q ts us = on q us

    -- a step of each kind
    safe_act : (node : ℕ) (k : StepKind) (p : ℕ) (ts : List Temporary) → SafeAct (m.act ir rs node k f p first ts below)
    safe_act node (step.Put d x) p ts = safe_operand node first x ts (λ v us. safe_depth d us (on (p + 1) _))
    safe_act node (step.Nothing d) p ts = safe_depth d ts (on (p + 1) _)
    safe_act node (step.Drop d) p ts = safe_any ts (λ t us. safe_depth d us (on (p + 1) _))
    safe_act node (step.Beside d op) p ts = safe_value ts (λ y us. safe_value us (λ x ws. safe_depth d ws
        (safe_then (safe_asked node _) (λ z e. on (p + 1) _))))
    safe_act node (step.Convert d to x) p ts = safe_operand node first x ts (λ v us. safe_depth d us
        (safe_then (safe_given node _) (λ w e. on (p + 1) _)))
    safe_act node (step.Unary d op t x) p ts = safe_operand node first x ts (λ v us. safe_depth d us
        (safe_then (safe_asked node _) (λ w e. on (p + 1) _)))
    safe_act node (step.Binary d op x y) p ts = safe_operands node first x y ts (λ v w us. safe_depth d us
        (safe_then (safe_asked node _) (λ z e. on (p + 1) _)))
    safe_act node (step.Truth d of x) p ts = safe_operand node first x ts (λ v us. safe_depth d us
        (safe_then (safe_asked node _) (λ b e. on (p + 1) _)))
    safe_act node (step.Address d of offset) p ts = safe_depth d ts (on (p + 1) _)
    safe_act node (step.Follow d x) p ts = safe_operand node first x ts (λ v us. safe_depth d us
        (safe_then (safe_given node _) (λ w e. on (p + 1) _)))
    safe_act node (step.Member d offset) p ts = safe_place ts (λ l us. safe_depth d us (on (p + 1) _))
    safe_act node (step.Element d size own x) p ts = safe_operand node first x ts (λ i us. safe_place us (λ l ws.
        safe_depth d ws (safe_then (safe_asked node _) (λ w e. on (p + 1) _))))
    safe_act node (step.Sum d size lt rt swapped x y) p ts = safe_operands node first x y ts (λ v w us. safe_depth d us
        (safe_then (safe_asked node _) (λ z e. on (p + 1) _)))
    safe_act node (step.PointTo d) p ts = safe_place ts (λ l us. safe_depth d us
        (safe_then (safe_asked node _) (λ w e. on (p + 1) _)))
    safe_act node (step.Load d k) p ts = safe_place ts (λ l us. safe_depth d us
        (safe_then (safe_load node l k) (λ w e. on (p + 1) _)))
    safe_act node (step.Peek d k) p ts = safe_place ts (λ l us. safe_depth d us
        (safe_then (safe_load node l k) (λ w e. on (p + 1) _)))
    safe_act node (step.Store d to k x keeps) p ts = safe_operand node first x ts (λ v us. safe_before node keeps us (λ b ws.
        safe_target first to ws (λ l xs. safe_depth d xs (safe_then (safe_store node l k v true) (λ w e. on (p + 1) _)))))
    safe_act node (step.StoreLocal d n offset k x keeps) p ts = safe_operand node first x ts (λ v us.
        safe_before node keeps us (λ b ws. safe_depth d ws (safe_then (safe_store node _ k v false) (λ w e. on (p + 1) _))))
    safe_act node (step.Update d to k op x keeps) p ts = safe_operand node first x ts (λ v us. safe_target first to us
        (λ l ws. safe_depth d ws (safe_then (safe_update node l k op v true) (λ w e. on (p + 1) _))))
    safe_act node (step.UpdateLocal d n offset k op x keeps) p ts = safe_operand node first x ts (λ v us. safe_depth d us
        (safe_then (safe_update node _ k op v false) (λ w e. on (p + 1) _)))
    safe_act node (step.Undefine n) p ts = safe_then (safe_changed _ (clear_has born (first + n))) (λ u e. on (p + 1) ts)
    safe_act node (step.Jump to) p ts = on to ts
    safe_act node (step.Branch d t of when to) p ts = safe_test node first t ts (λ v us. safe_depth d us
        (safe_then (safe_asked node _) (λ b e. on (m.branch b when to (p + 1)) us)))
    safe_act node (step.Case d of n to) p ts = safe_value ts (λ v us. safe_depth d us
        (safe_then (safe_given node _) (λ z e. on_either (int_eq z n) to (p + 1) us _)))
    safe_act node (step.Call d g k) p ts = safe_args k ts [] (λ vs us. safe_depth d us
        (safe_then (safe_given node (all_present vs)) (λ u e.
        safe_pure (Calling g d vs (m.waiting f p first us ∷ below)) (owns, waits))))
    safe_act node (step.Return d x) p ts = safe_operand node first x ts (λ v us. safe_depth d us
        (safe_then (safe_given node (present v)) (λ w e. safe_left w below waits)))
    safe_act node step.ReturnNothing p ts = safe_left Undefined below waits
    safe_act node step.Turn p ts = safe_then safe_mark (λ u e. on (p + 1) ts)
    safe_act node (step.Sense d c) p ts = safe_depth d ts (safe_then (safe_sense rs c) (λ v e. on (p + 1) _))
    safe_act node (step.Emit d x) p ts = safe_operand node first x ts (λ v us. safe_depth d us
        (safe_then (safe_emit node v) (λ w e. on (p + 1) _)))
    safe_act node (step.Checkpoint d) p ts = safe_depth d ts (safe_then safe_mark (λ u e. on (p + 1) _))
    safe_act node (step.Stamp d n to k x) p ts = safe_operand node first x ts (λ v us. safe_target first to us (λ l ws.
        safe_depth d ws (safe_then (safe_in n l (safe_stamped rs node l k (m.stamp_in 0 ir.globals n l.offset) v))
        (λ u e. on (p + 1) ws))))
    safe_act node (step.Timely d n from k limit to) p ts = safe_target first from ts (λ l us. safe_depth d us
        (safe_then (safe_in n l (safe_timely rs node l k (m.stamp_in 0 ir.globals n l.offset) limit))
        (λ b e. on (m.flag b (p + 1) to) us)))
    safe_act node (step.Open t to) p ts = safe_found (slice_get ir.tables t) (λ names.
        safe_then (safe_open rs names) (λ b e. on (m.flag b (p + 1) to) ts))
    safe_act node (step.Check t to) p ts = safe_found (slice_get ir.tables t) (λ names.
        safe_then (safe_checked rs names) (λ b e. on (m.flag b (p + 1) to) ts))
    safe_act node (step.Close t to) p ts = safe_found (slice_get ir.tables t) (λ names.
        safe_then (safe_close rs names) (λ b e. on (m.flag b (p + 1) to) ts))
    safe_act node k p ts = safe_stop

    safe_result : (k : StepKind) (v : Value) (p : ℕ) (us : List Temporary) → SafeAct (m.act_result ir rs k v
        (record { function = f; position = p; first = first; temporaries = us }) below)
    safe_result (step.Result d keeps) v p us = safe_depth d us (on (p + 1) _)
    safe_result k v p us = safe_stop

-- more objects come to life

owns_more : (ir : Ir) (born more : List (List Slot)) (f first : ℕ) → Owns ir born f first → Owns ir (born ++ more) f first
owns_more ir born more f first h = record {
  inside = λ fn is n l. omega (arith, h.inside fn is n l, length-append born more);
  slots = λ fn is n l. first_of born more (first + n) (h.inside fn is n l) ∙ h.slots fn is n l;
}

waits_more : (ir : Ir) (born more : List (List Slot)) (below : List Frame) → Every (FrameOwns ir born) below
    → Every (FrameOwns ir (born ++ more)) below
waits_more ir born more [] h = tt
waits_more ir born more (b ∷ below) h = (owns_more ir born more b.function b.first h.0, waits_more ir born more below h.1)

owns_fresh : (ir : Ir) (born : List (List Slot)) (f : ℕ) (fn : IrFunction) → slice_get ir.functions f ≡ Some fn
    → Owns ir (born ++ m.objects_of fn) f (length born)
owns_fresh ir born f fn is = record {
  inside = λ gn e n l. omega (arith, length-append born (m.objects_of fn), within gn e n l);
  slots = λ gn e n l. get_or-append-add born (m.objects_of fn) n []
      ∙ ap (λ g. get_or (m.objects_of g) n []) (same_function ir.functions f fn gn is e);
}
  where
    within : (gn : IrFunction) → slice_get ir.functions f ≡ Some gn → (n : ℕ) → n < length (m.objects_of gn)
        → n < length (m.objects_of fn)
    within gn e n l = subst (λ g. n < length (m.objects_of g)) (same_function ir.functions f gn fn e is) l

module _ (ir : Ir) (rs : List Reading) where
  enter_holds : (born : List (List Slot)) (k : StepKind) (f : ℕ) (fn : IrFunction) (args : List Value) (below : List Frame)
      (r : Run) → slice_get ir.functions f ≡ Some fn → Sound born r → Every (FrameOwns ir born) below
      → Holds ir (m.act_enter ir rs k f fn args below r)
  enter_holds born (step.Enter n) f fn args below r is s waits =
      holds_of (keeps_then (act.enter f fn.frame (m.objects_of fn) r) _
      (enter_keeps born f fn.frame (m.objects_of fn) r s) (λ first e.
      safe_then (safe_changed _ (params_has (born ++ m.objects_of fn) first (m.param_kinds fn) args)) (λ u e2.
      safe_pure (At f 1 first [] below) (
        subst (Owns ir (born ++ m.objects_of fn) f) (sym e) (owns_fresh ir born f fn is),
        waits_more ir born (m.objects_of fn) below waits,
      ))))
  enter_holds born k f fn args below r is s waits = over

  -- what a step leaves
  pub holds_step : (c : Control) (r : Run) → Holds ir (Went c r) → Holds ir (m.one_step ir rs c r)
  unfolding m.step_in m.found
  holds_step (At f p first ts below) r (alive born s own) =
      holds_of ((safe_found (slice_get ir.functions f) (λ fn. safe_found (slice_get fn.steps p) (λ st.
      safe_act ir rs f first below own.0 own.1 st.node st.kind p ts))).runs r s)
  holds_step (Calling f d args below) r (alive born s own) = by_function (slice_get ir.functions f) refl
    where
      by_step : (fn : IrFunction) → slice_get ir.functions f ≡ Some fn → (o : Option Step)
          → Holds ir (m.found o (λ st. m.act_enter ir rs st.kind f fn args below) r)
      by_step fn is None = over
      by_step fn is (Some st) = enter_holds born st.kind f fn args below r is s own

      by_function : (o : Option IrFunction) → slice_get ir.functions f ≡ o
          → Holds ir (m.found o (λ fn. m.found (slice_get fn.steps 0) (λ st. m.act_enter ir rs st.kind f fn args below)) r)
      by_function None e = over
      by_function (Some fn) e = by_step fn e (slice_get fn.steps 0)
  holds_step (Returning v []) r h = over
  holds_step (Returning v (b ∷ below)) r (alive born s own) =
      holds_of ((safe_found (slice_get ir.functions b.function) (λ fn. safe_found (slice_get fn.steps b.position) (λ st.
      safe_result ir rs b.function b.first below own.0 own.1 st.kind v b.position b.temporaries))).runs r s)

  -- the object of a local of the call that runs has the local's scalars
  pub local_has : (f p first : ℕ) (ts : List Temporary) (below : List Frame) (r : Run) (fn : IrFunction) (n : ℕ) (o : Object)
      → Holds ir (Went (At f p first ts below) r) → slice_get ir.functions f ≡ Some fn → n < length (m.objects_of fn)
      → objects.object_of r.state (first + n) ≡ Some o → slots_of o.cells ≡ get_or (m.objects_of fn) n []
  local_has f p first ts below r fn n o (alive born s own) is l e =
      object_has r.state (first + n) o s.state e ∙ own.0.slots fn is n l

-- ---- the start

abbrev first_born : List IrGlobal → List (List Slot)
first_born gs = map (λ (g : IrGlobal). g.scalars) gs

start_slots : (cs : List Slot) (vs : List Value) → slots_of (m.initial_cells cs vs) ≡ cs
start_slots [] vs = refl
start_slots (c ∷ cs) [] = ap (λ l. c ∷ l) (start_slots cs [])
start_slots (c ∷ cs) (v ∷ vs) = ap (λ l. c ∷ l) (start_slots cs vs)

start_has : (gs : List IrGlobal) (born : List (List Slot)) (n : ℕ) → n ≡ length born
    → Every (Has (born ++ first_born gs)) (m.initial_objects n gs)
start_has [] born n e = tt
start_has (g ∷ gs) born n e =
    let long : n + 1 ≡ length (born ++ g.scalars ∷ []) = omega (arith, e, length-append born (g.scalars ∷ [])) in (
      record {
        known = omega (arith, e, length-append born (g.scalars ∷ first_born gs));
        slots = start_slots g.scalars g.init
            ∙ sym (ap (λ k. get_or (born ++ g.scalars ∷ first_born gs) k []) e
            ∙ get_or-append_seam born g.scalars (first_born gs) []);
      },
      subst (λ l. Every (Has l) (m.initial_objects (n + 1) gs)) (append_assoc born (g.scalars ∷ []) (first_born gs))
          (start_has gs (born ++ g.scalars ∷ []) (n + 1) long),
    )

many_born : (gs : List IrGlobal) → length (first_born gs) ≡ length gs
many_born [] = refl
many_born (g ∷ gs) = ap suc (many_born gs)

pub start_holds : (ir : Ir) (f left : ℕ) → Holds ir (Went (Calling f 0 [] []) (m.start_run ir left))
unfolding m.start
start_holds ir f left = alive (first_born ir.globals)
    (record {
      many = many_born ir.globals;
      state = record { globals = start_has ir.globals [] 0 refl; calls = tt; block = tt };
    })
    tt

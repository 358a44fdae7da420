-- Every step of a form conserves marks: what a run has made and may still make stays one sum, and a step makes one at most.
use Rattle.std.proofs.Common.{ℕ, zero, suc, ◌+◌, Bool, true, false, List, [], ◌∷◌, length, Option, Some, None}
use Rattle.std.specs.Prelude.{slice_get, nat_eq}
use Rattle.base16.specs.declared.image.Kind.{Kind}
use Rattle.base16.specs.declared.reading.Reading.{Reading}
use Rattle.c_values.specs.Pointers.{at as location}
use Rattle.c_values.specs.Values.{present}
use Rattle.c_values.specs.declared.value.Location.{Location}
use Rattle.c_values.specs.declared.value.Value.{Value}
use Rattle.c_values.specs.declared.value.Value.TheVariants.{Int, Null, Undefined}
use Rattle.c_run.specs.Actions.{leave, finish}
use Rattle.c_run.specs.Runs.{Wrong, Action, ◌>>=◌, pure, given, asked}
use Rattle.c_run.proofs.Counting.{over, Counting, counting_then, counting_seq, counting_pure, counting_stop, counting_given, counting_asked, counting_if, counting_load, counting_store, counting_mark, counting_sense, counting_emit, counting_enter, counting_leave, counting_params, counting_cleared, counting_stamped, counting_timely, counting_open, counting_check, counting_close}
use Rattle.ir.specs.declared.form.Ir.{Ir}
use Rattle.ir.specs.declared.form.IrFunction.{IrFunction}
use Rattle.ir.specs.declared.form.Step.{Step}
use Rattle.ir.specs.declared.form.StepKind.{StepKind}
use Rattle.ir.specs.declared.form.StepKind.TheVariants as step
use Rattle.ir.specs.declared.form.Operand.{Operand}
use Rattle.ir.specs.declared.form.Operand.TheVariants as operand
use Rattle.ir.specs.declared.form.Operation.{Operation}
use Rattle.ir.specs.declared.form.Target.{Target}
use Rattle.ir.specs.declared.form.Target.TheVariants as target
use Rattle.ir.specs.declared.form.Test.{Test}
use Rattle.ir.specs.declared.form.Test.TheVariants as test
use Rattle.ir.specs.declared.form.Keep.{Keep}
use Rattle.ir.specs.declared.form.Keep.TheVariants as keep
use Rattle.ir.specs.declared.control.Temporary.TheVariants as temporary
use Rattle.ir.specs.Machine as m
use Rattle.ir.specs.declared.control.Temporary.{Temporary}
use Rattle.ir.specs.declared.control.Frame.{Frame}
use Rattle.ir.specs.declared.control.Control.{Control}
use Rattle.ir.specs.declared.control.Control.TheVariants.{At, Calling, Returning}

-- what no form that serves a program meets
counting_stuck : {A : Type 0} → Counting (m.stuck {A = A})
counting_stuck = counting_stop Wrong tt

counting_depth : (d : ℕ) (ts : List Temporary) {go : Action Control} → Counting go → Counting (m.at_depth d ts go)
unfolding m.at_depth
counting_depth d ts {go} h = counting_if (nat_eq (length ts) d) go m.stuck h counting_stuck

counting_value : (ts : List Temporary) {go : Value → List Temporary → Action Control}
    → ((v : Value) (us : List Temporary) → Counting (go v us)) → Counting (m.on_value ts go)
unfolding m.on_value
counting_value (temporary.Value v ∷ ts) h = h v ts
counting_value (temporary.Place l ∷ ts) h = counting_stuck
counting_value [] h = counting_stuck

counting_place : (ts : List Temporary) {go : Location → List Temporary → Action Control}
    → ((l : Location) (us : List Temporary) → Counting (go l us)) → Counting (m.on_place ts go)
unfolding m.on_place
counting_place (temporary.Place l ∷ ts) h = h l ts
counting_place (temporary.Value v ∷ ts) h = counting_stuck
counting_place [] h = counting_stuck

counting_any : (ts : List Temporary) {go : Temporary → List Temporary → Action Control}
    → ((t : Temporary) (us : List Temporary) → Counting (go t us)) → Counting (m.on_any ts go)
unfolding m.on_any
counting_any (t ∷ ts) h = h t ts
counting_any [] h = counting_stuck

counting_args : (k : ℕ) (ts : List Temporary) (args : List Value) {go : List Value → List Temporary → Action Control}
    → ((vs : List Value) (us : List Temporary) → Counting (go vs us)) → Counting (m.on_args k ts args go)
unfolding m.on_args m.on_value
counting_args zero ts args h = h args ts
counting_args (suc k) [] args h = counting_stuck
counting_args (suc k) (temporary.Place l ∷ ts) args h = counting_stuck
counting_args (suc k) (temporary.Value v ∷ ts) args h = counting_args k ts (v ∷ args) h

counting_operand : (node first : ℕ) (x : Operand) (ts : List Temporary) {go : Value → List Temporary → Action Control}
    → ((v : Value) (us : List Temporary) → Counting (go v us)) → Counting (m.on_operand node first x ts go)
unfolding m.on_operand
counting_operand node first operand.Temporary ts h = counting_value ts h
counting_operand node first (operand.Constant n) ts h = h (Int n) ts
counting_operand node first operand.Null ts h = h Null ts
counting_operand node first (operand.Scalar of offset k) ts h = counting_then _ _ (counting_load node _ k) (λ v. h v ts)

counting_operands : (node first : ℕ) (x y : Operand) (ts : List Temporary) {go : Value → Value → List Temporary → Action Control}
    → ((v w : Value) (us : List Temporary) → Counting (go v w us)) → Counting (m.on_operands node first x y ts go)
unfolding m.on_operands
counting_operands node first x y ts {go} h = counting_operand node first y ts {go = λ w us. m.on_operand node first x us
    (λ v ws. go v w ws)} (λ w us. counting_operand node first x us {go = λ v ws. go v w ws} (λ v ws. h v w ws))

counting_target : (first : ℕ) (to : Target) (ts : List Temporary) {go : Location → List Temporary → Action Control}
    → ((l : Location) (us : List Temporary) → Counting (go l us)) → Counting (m.on_target first to ts go)
unfolding m.on_target
counting_target first target.Temporary ts h = counting_place ts h
counting_target first (target.Known of offset) ts h = h (m.known first of offset) ts

counting_before : (node : ℕ) (k : Keep) (ts : List Temporary) {go : Value → List Temporary → Action Control}
    → ((v : Value) (us : List Temporary) → Counting (go v us)) → Counting (m.on_before node k ts go)
unfolding m.on_before
counting_before node keep.Before ts {go} h =
    counting_value ts {go = λ b us. given node (present b) >>= λ w. go w us}
    (λ b us. counting_then _ _ (counting_given node (present b)) (λ w. h w us))
counting_before node keep.Nothing ts h = h Undefined ts
counting_before node keep.Stored ts h = h Undefined ts

counting_test : (node first : ℕ) (t : Test) (ts : List Temporary) {go : Value → List Temporary → Action Control}
    → ((v : Value) (us : List Temporary) → Counting (go v us)) → Counting (m.on_test node first t ts go)
unfolding m.on_test
counting_test node first (test.Value x) ts h = counting_operand node first x ts h
counting_test node first (test.Computed op x y) ts {go} h =
    counting_operands node first x y ts {go = λ v w us. asked node (λ s. m.computed s op v w) >>= λ z. go z us}
    (λ v w us. counting_then _ _ (counting_asked node (λ s. m.computed s op v w)) (λ z. h z us))

counting_found : {A : Type 0} (o : Option A) {go : A → Action Control} → ((a : A) → Counting (go a)) → Counting (m.found o go)
unfolding m.found
counting_found (Some a) h = h a
counting_found None h = counting_stuck

counting_in : {A : Type 0} (n : ℕ) (l : Location) (go : Action A) → Counting go → Counting (m.if_in n l go)
unfolding m.if_in
counting_in n l go h = counting_if (m.is_in n l.object) go m.stuck h counting_stuck

counting_update : (node : ℕ) (l : Location) (k : Kind) (op : Operation) (v : Value) (marked : Bool)
    → Counting (m.update node l k op v marked)
unfolding m.update
counting_update node l k op v marked =
    counting_then _ _ (counting_load node l k) (λ before. counting_then _ _ (counting_asked node _) (λ after.
    counting_then _ _ (counting_store node l k after marked) (λ stored. counting_pure _)))

counting_left : (v : Value) (below : List Frame) → Counting (m.left v below)
unfolding m.left finish
counting_left v [] = λ r. over tt
counting_left v (b ∷ below) = counting_seq leave (pure (Returning v (b ∷ below))) counting_leave (counting_pure _)

module _ (ir : Ir) (rs : List Reading) where
  counting_act : (node : ℕ) (k : StepKind) (f p first : ℕ) (ts : List Temporary) (below : List Frame)
      → Counting (m.act ir rs node k f p first ts below)
  counting_act node (step.Put d x) f p first ts below =
      counting_operand node first x ts (λ v us. counting_depth d us (counting_pure _))
  counting_act node (step.Nothing d) f p first ts below = counting_depth d ts (counting_pure _)
  counting_act node (step.Drop d) f p first ts below = counting_any ts (λ t us. counting_depth d us (counting_pure _))
  counting_act node (step.Beside d o) f p first ts below =
      counting_value ts (λ y us. counting_value us (λ x ws. counting_depth d ws (counting_then _ _ (counting_asked node _)
      (λ v. counting_pure _))))
  counting_act node (step.Convert d to x) f p first ts below =
      counting_operand node first x ts (λ v us. counting_depth d us (counting_then _ _ (counting_given node _)
      (λ w. counting_pure _)))
  counting_act node (step.Unary d o t x) f p first ts below =
      counting_operand node first x ts (λ v us. counting_depth d us (counting_then _ _ (counting_asked node _)
      (λ w. counting_pure _)))
  counting_act node (step.Binary d o x y) f p first ts below =
      counting_operands node first x y ts (λ v w us. counting_depth d us (counting_then _ _ (counting_asked node _)
      (λ z. counting_pure _)))
  counting_act node (step.Truth d of x) f p first ts below =
      counting_operand node first x ts (λ v us. counting_depth d us (counting_then _ _ (counting_asked node _)
      (λ w. counting_pure _)))
  counting_act node (step.Address d of offset) f p first ts below = counting_depth d ts (counting_pure _)
  counting_act node (step.Follow d x) f p first ts below =
      counting_operand node first x ts (λ v us. counting_depth d us (counting_then _ _ (counting_given node _)
      (λ w. counting_pure _)))
  counting_act node (step.Member d offset) f p first ts below =
      counting_place ts (λ l us. counting_depth d us (counting_pure _))
  counting_act node (step.Element d bytes own x) f p first ts below =
      counting_operand node first x ts (λ i us. counting_place us (λ l ws. counting_depth d ws (counting_then _ _
      (counting_asked node _) (λ w. counting_pure _))))
  counting_act node (step.Sum d bytes lt rt swapped x y) f p first ts below =
      counting_operands node first x y ts (λ v w us. counting_depth d us (counting_then _ _ (counting_asked node _)
      (λ z. counting_pure _)))
  counting_act node (step.PointTo d) f p first ts below =
      counting_place ts (λ l us. counting_depth d us (counting_then _ _ (counting_asked node _) (λ w. counting_pure _)))
  counting_act node (step.Load d k) f p first ts below =
      counting_place ts (λ l us. counting_depth d us (counting_then _ _ (counting_load node l k) (λ w. counting_pure _)))
  counting_act node (step.Peek d k) f p first ts below =
      counting_place ts (λ l us. counting_depth d us (counting_then _ _ (counting_load node l k) (λ w. counting_pure _)))
  counting_act node (step.Store d to k x keeps) f p first ts below =
      counting_operand node first x ts (λ v us. counting_before node keeps us (λ b ws. counting_target first to ws
      (λ l xs. counting_depth d xs (counting_then _ _ (counting_store node l k v true) (λ w. counting_pure _)))))
  counting_act node (step.StoreLocal d n offset k x keeps) f p first ts below =
      counting_operand node first x ts (λ v us. counting_before node keeps us (λ b ws. counting_depth d ws
      (counting_then _ _ (counting_store node (location (first + n) offset) k v false) (λ w. counting_pure _))))
  counting_act node (step.Update d to k op x keeps) f p first ts below =
      counting_operand node first x ts (λ v us. counting_target first to us (λ l ws. counting_depth d ws
      (counting_then _ _ (counting_update node l k op v true) (λ w. counting_pure _))))
  counting_act node (step.UpdateLocal d n offset k op x keeps) f p first ts below =
      counting_operand node first x ts (λ v us. counting_depth d us
      (counting_then _ _ (counting_update node (location (first + n) offset) k op v false) (λ w. counting_pure _)))
  counting_act node (step.Undefine n) f p first ts below = counting_seq _ _ (counting_cleared (first + n)) (counting_pure _)
  counting_act node (step.Jump to) f p first ts below = counting_pure _
  counting_act node (step.Branch d t of when to) f p first ts below =
      counting_test node first t ts (λ v us. counting_depth d us (counting_then _ _ (counting_asked node _)
      (λ b. counting_pure _)))
  counting_act node (step.Case d of n to) f p first ts below =
      counting_value ts (λ v us. counting_depth d us (counting_then _ _ (counting_given node _) (λ z. counting_pure _)))
  counting_act node (step.Call d g n) f p first ts below =
      counting_args n ts [] (λ args us. counting_depth d us (counting_seq _ _ (counting_given node _) (counting_pure _)))
  counting_act node (step.Return d x) f p first ts below =
      counting_operand node first x ts (λ v us. counting_depth d us (counting_then _ _ (counting_given node (present v))
      (λ w. counting_left w below)))
  counting_act node step.ReturnNothing f p first ts below = counting_left Undefined below
  counting_act node step.Turn f p first ts below = counting_seq _ _ counting_mark (counting_pure _)
  counting_act node (step.Sense d channel) f p first ts below =
      counting_depth d ts (counting_then _ _ (counting_sense rs channel) (λ v. counting_pure _))
  counting_act node (step.Emit d x) f p first ts below =
      counting_operand node first x ts (λ v us. counting_depth d us (counting_then _ _ (counting_emit node v)
      (λ w. counting_pure _)))
  counting_act node (step.Checkpoint d) f p first ts below =
      counting_depth d ts (counting_seq _ _ counting_mark (counting_pure _))
  counting_act node (step.Stamp d n to k x) f p first ts below =
      counting_operand node first x ts (λ v us. counting_target first to us (λ l ws. counting_depth d ws
      (counting_seq _ _ (counting_in n l _ (counting_stamped rs node l k (m.stamp_in 0 ir.globals n l.offset) v))
      (counting_pure _))))
  counting_act node (step.Timely d n from k limit to) f p first ts below =
      counting_target first from ts (λ l us. counting_depth d us (counting_then _ _
      (counting_in n l _ (counting_timely rs node l k (m.stamp_in 0 ir.globals n l.offset) limit)) (λ b. counting_pure _)))
  counting_act node (step.Open t to) f p first ts below =
      counting_found (slice_get ir.tables t) (λ names. counting_then _ _ (counting_open rs names) (λ b. counting_pure _))
  counting_act node (step.Check t to) f p first ts below =
      counting_found (slice_get ir.tables t) (λ names. counting_then _ _ (counting_check rs names) (λ b. counting_pure _))
  counting_act node (step.Close t to) f p first ts below =
      counting_found (slice_get ir.tables t) (λ names. counting_then _ _ (counting_close rs names) (λ b. counting_pure _))
  counting_act node k f p first ts below = counting_stuck

  counting_enters : (k : StepKind) (f : ℕ) (fn : IrFunction) (args : List Value) (below : List Frame)
      → Counting (m.act_enter ir rs k f fn args below)
  counting_enters (step.Enter n) f fn args below =
      counting_then _ _ (counting_enter f fn.frame (m.objects_of fn)) (λ first.
      counting_seq _ _ (counting_params first (m.param_kinds fn) args) (counting_pure _))
  counting_enters k f fn args below = counting_stuck

  counting_results : (k : StepKind) (v : Value) (b : Frame) (below : List Frame) → Counting (m.act_result ir rs k v b below)
  counting_results (step.Result d keeps) v b below = counting_depth d b.temporaries (counting_pure _)
  counting_results k v b below = counting_stuck

  counting_in_step : (f p : ℕ) {go : IrFunction → Step → Action Control} → ((fn : IrFunction) (s : Step) → Counting (go fn s))
      → Counting (m.step_in ir rs f p go)
  unfolding m.step_in
  counting_in_step f p h = counting_found (slice_get ir.functions f) (λ fn. counting_found (slice_get fn.steps p) (λ s. h fn s))

  -- each step conserves marks
  pub counting_step : (c : Control) → Counting (m.one_step ir rs c)
  counting_step (At f p first ts below) = counting_in_step f p (λ fn s. counting_act s.node s.kind f p first ts below)
  counting_step (Calling f d args below) = counting_in_step f 0 (λ fn s. counting_enters s.kind f fn args below)
  counting_step (Returning v []) = counting_stuck
  counting_step (Returning v (b ∷ below)) = counting_in_step b.function b.position (λ fn s. counting_results s.kind v b below)

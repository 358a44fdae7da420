-- What a step does to the marks and to where a run stands: without a mark it comes to what Q holds of, with one mark to
-- what M holds of.
use Rattle.std.proofs.Common.{◌≡◌, ℕ, zero, suc, ◌+◌, ◌<◌, inl, inr, List, [], ◌∷◌, length, Option, Some, None, Bool, true, false, refl, ◌∙◌, arith, cond}
use Rattle.std.specs.Prelude.{slice_get, nat_eq}
use Rattle.base16.specs.declared.image.Kind.{Kind}
use Rattle.base16.specs.declared.reading.Reading.{Reading}
use Rattle.c_values.specs.declared.value.Value.{Value}
use Rattle.c_values.specs.declared.value.Value.TheVariants.{Int, Null, Undefined}
use Rattle.c_values.specs.declared.value.Location.{Location}
use Rattle.c_values.specs.Pointers.{at as location}
use Rattle.c_values.specs.Operators.{int_eq}
use Rattle.c_run.specs.Runs.{Run, Stop, Outcome, Went, Stopped, Action, and_then, pure, given, asked}
use Rattle.c_run.specs.Actions.{load, store, leave, finish}
use Rattle.c_values.specs.Values.{present, all_present}
use Rattle.ir.specs.declared.form.Ir.{Ir}
use Rattle.ir.specs.declared.form.IrFunction.{IrFunction}
use Rattle.ir.specs.declared.form.Step.{Step}
use Rattle.ir.specs.declared.form.StepKind.{StepKind}
use Rattle.ir.specs.declared.form.StepKind.TheVariants as step
use Rattle.ir.specs.declared.form.Operand.{Operand}
use Rattle.ir.specs.declared.form.Operand.TheVariants as operand
use Rattle.ir.specs.declared.form.Target.{Target}
use Rattle.ir.specs.declared.form.Target.TheVariants as target
use Rattle.ir.specs.declared.form.Operation.{Operation}
use Rattle.ir.specs.declared.form.Test.{Test}
use Rattle.ir.specs.declared.form.Test.TheVariants as test
use Rattle.ir.specs.declared.form.Keep.{Keep}
use Rattle.ir.specs.declared.form.Keep.TheVariants as keep
use Rattle.ir.specs.declared.control.Temporary.TheVariants as temporary
use Rattle.ir.specs.Machine as m
use Rattle.ir.specs.Machine.{Control, At, Calling, Returning, Frame, Temporary}
use Rattle.ir.specs.Jumps.{is_turn, Ahead, JumpsAhead}
use Rattle.ir.proofs.Marks.{Keeps, kept, Marks, marked as marked_one, marked_stop, keeps_then, keeps_at, marks_at, keeps_marks, given_keeps, mark_marks, load_keeps, store_keeps, store_marks, sense_marks, emit_marks, enter_marks, leave_marks, stamped_marks, timely_marks, open_marks, checked_marks, close_marks}

-- what a step does: it stops, makes no mark and comes to Q, or makes one mark and comes to M
pub data Advance (Q M : Control → Type 0) : ℕ → Outcome Control → Type 0 where
  halted : {left : ℕ} {s : Stop} → Advance Q M left (Stopped s)
  on : {left : ℕ} {c : Control} {r : Run} → r.left ≡ left → Q c → Advance Q M left (Went c r)
  marked : {left : ℕ} {c : Control} {r : Run} → suc r.left ≡ left → M c → Advance Q M left (Went c r)

-- what is asked of Q and M at a step
pub record Here (Q M : Control → Type 0) (fn : IrFunction) (f p : ℕ) (below : List Frame) : Type 0 where
  pub ahead : (to first : ℕ) (ts : List Temporary) → p < to → Q (At f to first ts below)
  pub turned : (to first : ℕ) (ts : List Temporary) (s : Step) → slice_get fn.steps to ≡ Some s → is_turn s.kind ≡ true
      → Q (At f to first ts below)
  pub called : (g d first : ℕ) (args : List Value) (ts : List Temporary)
      → Q (Calling g d args (record { function = f; position = p + 1; first = first; temporaries = ts } ∷ below))
  pub anew : (to first : ℕ) (ts : List Temporary) → p < to → M (At f to first ts below)
  pub returned : (v : Value) (b : Frame) (rest : List Frame) → below ≡ b ∷ rest → M (Returning v (b ∷ rest))

next : {Q M : Control → Type 0} {fn : IrFunction} {f p : ℕ} {below : List Frame} → Here Q M fn f p below
    → (first : ℕ) (ts : List Temporary) → Q (At f (p + 1) first ts below)
next {p = p} h first ts = h.ahead (p + 1) first ts (omega arith)

jumped : {Q M : Control → Type 0} {fn : IrFunction} {f p : ℕ} {below : List Frame} (h : Here Q M fn f p below)
    (to first : ℕ) (ts : List Temporary) → Ahead fn p to → Q (At f to first ts below)
jumped h to first ts (inl lt) = h.ahead to first ts lt
jumped h to first ts (inr s) = h.turned to first ts s.0 s.1 s.2

renewed : {Q M : Control → Type 0} {fn : IrFunction} {f p : ℕ} {below : List Frame} → Here Q M fn f p below
    → (first : ℕ) (ts : List Temporary) → M (At f (p + 1) first ts below)
renewed {p = p} h first ts = h.anew (p + 1) first ts (omega arith)

-- ---- what follows an action without a mark, and one with a mark

module _ {Q M : Control → Type 0} {left : ℕ} where
  adv_kept : {A : Type 0} (q : Run) → q.left ≡ left → (o : Outcome A) (k : A → Action Control) → Keeps q.left o
      → ((a : A) (q2 : Run) → q2.left ≡ left → Advance Q M left (k a q2)) → Advance Q M left (and_then o k)
  adv_kept q same (Went a q2) k (kept e) h = h a q2 (e ∙ same)
  adv_kept q same (Stopped s) k w h = halted

  pub adv_marked : {A : Type 0} (q : Run) → q.left ≡ left → (o : Outcome A) (k : A → Action Control) → Marks q.left o
      → ((a : A) (q2 : Run) → suc q2.left ≡ left → Advance Q M left (k a q2)) → Advance Q M left (and_then o k)
  adv_marked q same (Went a q2) k (marked_one e) h = h a q2 (e ∙ same)
  adv_marked q same (Stopped s) k w h = halted

  adv_if : (b : Bool) (x y : Action Control) (q : Run) → Advance Q M left (x q) → Advance Q M left (y q)
      → Advance Q M left (cond b x y q)
  adv_if true x y q h g = h
  adv_if false x y q h g = g

  -- ---- the parts of a step

  adv_depth : (d : ℕ) (ts : List Temporary) (go : Action Control) (q : Run) → Advance Q M left (go q)
      → Advance Q M left (m.at_depth d ts go q)
  unfolding m.at_depth
  adv_depth d ts go q h = adv_if (nat_eq (length ts) d) go m.stuck q h halted

  adv_value : (ts : List Temporary) (q : Run) (go : Value → List Temporary → Action Control)
      → ((v : Value) (us : List Temporary) → Advance Q M left (go v us q)) → Advance Q M left (m.on_value ts go q)
  unfolding m.on_value
  adv_value (temporary.Value v ∷ ts) q go h = h v ts
  adv_value (temporary.Place l ∷ ts) q go h = halted
  adv_value [] q go h = halted

  adv_place : (ts : List Temporary) (q : Run) (go : Location → List Temporary → Action Control)
      → ((l : Location) (us : List Temporary) → Advance Q M left (go l us q)) → Advance Q M left (m.on_place ts go q)
  unfolding m.on_place
  adv_place (temporary.Place l ∷ ts) q go h = h l ts
  adv_place (temporary.Value v ∷ ts) q go h = halted
  adv_place [] q go h = halted

  adv_any : (ts : List Temporary) (q : Run) (go : Temporary → List Temporary → Action Control)
      → ((t : Temporary) (us : List Temporary) → Advance Q M left (go t us q)) → Advance Q M left (m.on_any ts go q)
  unfolding m.on_any
  adv_any (t ∷ ts) q go h = h t ts
  adv_any [] q go h = halted

  adv_args : (k : ℕ) (ts : List Temporary) (args : List Value) (q : Run) (go : List Value → List Temporary → Action Control)
      → ((vs : List Value) (us : List Temporary) → Advance Q M left (go vs us q)) → Advance Q M left (m.on_args k ts args go q)
  unfolding m.on_args m.on_value
  adv_args zero ts args q go h = h args ts
  adv_args (suc k) [] args q go h = halted
  adv_args (suc k) (temporary.Place l ∷ ts) args q go h = halted
  adv_args (suc k) (temporary.Value v ∷ ts) args q go h = adv_args k ts (v ∷ args) q go h

  adv_operand : (node first : ℕ) (x : Operand) (ts : List Temporary) (q : Run) → q.left ≡ left → (go : Value
      → List Temporary → Action Control)
      → ((v : Value) (us : List Temporary) (q2 : Run) → q2.left ≡ left → Advance Q M left (go v us q2))
      → Advance Q M left (m.on_operand node first x ts go q)
  unfolding m.on_operand
  adv_operand node first operand.Temporary ts q same go h = adv_value ts q go (λ v us. h v us q same)
  adv_operand node first (operand.Constant n) ts q same go h = h (Int n) ts q same
  adv_operand node first operand.Null ts q same go h = h Null ts q same
  adv_operand node first (operand.Scalar of offset k) ts q same go h =
      adv_kept q same (load node (m.known first of offset) k q) (λ v. go v ts) (load_keeps node _ k q) (λ v q2 e. h v ts q2 e)

  adv_operands : (node first : ℕ) (x y : Operand) (ts : List Temporary) (q : Run) → q.left ≡ left → (go : Value → Value
      → List Temporary → Action Control)
      → ((v w : Value) (us : List Temporary) (q2 : Run) → q2.left ≡ left → Advance Q M left (go v w us q2))
      → Advance Q M left (m.on_operands node first x y ts go q)
  unfolding m.on_operands
  adv_operands node first x y ts q same go h =
      adv_operand node first y ts q same (λ w us. m.on_operand node first x us (λ v ws. go v w ws))
      (λ w us q2 e. adv_operand node first x us q2 e (λ v ws. go v w ws) (λ v ws q3 e3. h v w ws q3 e3))

  adv_target : (first : ℕ) (to : Target) (ts : List Temporary) (q : Run) (go : Location → List Temporary → Action Control)
      → ((l : Location) (us : List Temporary) → Advance Q M left (go l us q)) → Advance Q M left (m.on_target first to ts go q)
  unfolding m.on_target
  adv_target first target.Temporary ts q go h = adv_place ts q go h
  adv_target first (target.Known of offset) ts q go h = h (m.known first of offset) ts

  adv_before : (node : ℕ) (k : Keep) (ts : List Temporary) (q : Run) → q.left ≡ left
      → (go : Value → List Temporary → Action Control)
      → ((v : Value) (us : List Temporary) (q2 : Run) → q2.left ≡ left → Advance Q M left (go v us q2))
      → Advance Q M left (m.on_before node k ts go q)
  unfolding m.on_before
  adv_before node keep.Before ts q same go h =
      adv_value ts q (λ v us. λ r. and_then (given node (present v) r) (λ w. go w us))
      (λ v us. adv_kept q same (given node (present v) q) (λ w. go w us) (given_keeps node _ q) (λ w q2 e. h w us q2 e))
  adv_before node keep.Nothing ts q same go h = h Undefined ts q same
  adv_before node keep.Stored ts q same go h = h Undefined ts q same

  adv_test : (node first : ℕ) (t : Test) (ts : List Temporary) (q : Run) → q.left ≡ left → (go : Value → List Temporary
      → Action Control)
      → ((v : Value) (us : List Temporary) (q2 : Run) → q2.left ≡ left → Advance Q M left (go v us q2))
      → Advance Q M left (m.on_test node first t ts go q)
  unfolding m.on_test
  adv_test node first (test.Value x) ts q same go h = adv_operand node first x ts q same go h
  adv_test node first (test.Computed op x y) ts q same go h =
      adv_operands node first x y ts q same (λ v w us. λ r. and_then (asked node (λ s. m.computed s op v w) r) (λ z. go z us))
      (λ v w us q2 e. adv_kept q2 e (asked node (λ s. m.computed s op v w) q2) (λ z. go z us) (given_keeps node _ q2)
      (λ z q3 e3. h z us q3 e3))

  adv_found : {A : Type 0} (o : Option A) (go : A → Action Control) (q : Run) → ((a : A) → Advance Q M left (go a q))
      → Advance Q M left (m.found o go q)
  unfolding m.found
  adv_found (Some a) go q h = h a
  adv_found None go q h = halted

updated_keeps : (node : ℕ) (l : Location) (k : Kind) (op : Operation) (v : Value) (r : Run)
    → Keeps r.left (m.update node l k op v false r)
unfolding m.update
updated_keeps node l k op v r =
    keeps_then r.left (load node l k r) _ (load_keeps node l k r) (λ before q e. keeps_at q.left r.left _ e
    (keeps_then q.left (asked node (λ s. m.computed s op before v) q) _ (given_keeps node
    (m.computed q.state op before v) q) (λ after q2 e2. keeps_at q2.left q.left _ e2
    (keeps_then q2.left (store node l k after false q2) _ (store_keeps node l k after q2) (λ stored q3 e3. kept e3)))))

marked_pure : {A B : Type 0} (f : A → B) (left : ℕ) (o : Outcome A) → Marks left o → Marks left (and_then o (λ a. pure (f a)))
marked_pure f left (Went a q) (marked_one e) = marked_one e
marked_pure f left (Stopped s) w = marked_stop

updated_marks : (node : ℕ) (l : Location) (k : Kind) (op : Operation) (v : Value) (r : Run)
    → Marks r.left (m.update node l k op v true r)
unfolding m.update
updated_marks node l k op v r =
    keeps_marks r.left (load node l k r) _ (load_keeps node l k r) (λ before q e. marks_at q.left r.left _ e
    (keeps_marks q.left (asked node (λ s. m.computed s op before v) q) _ (given_keeps node
    (m.computed q.state op before v) q) (λ after q2 e2. marks_at q2.left q.left _ e2
    (marked_pure (λ stored. (stored, before)) q2.left (store node l k after true q2) (store_marks node l k after q2)))))

in_marks : {A : Type 0} (n : ℕ) (l : Location) (go : Action A) (r : Run) → Marks r.left (go r) → Marks r.left (m.if_in n l go r)
unfolding m.if_in
in_marks {A} n l go r h = both (m.is_in n l.object)
  where
    both : (b : Bool) → Marks r.left (cond b go m.stuck r)
    both true = h
    both false = marked_stop

adv_left : {Q M : Control → Type 0} {left : ℕ} (v : Value) (below : List Frame) (q : Run) → q.left ≡ left
    → ((b : Frame) (rest : List Frame) → below ≡ b ∷ rest → M (Returning v (b ∷ rest))) → Advance Q M left (m.left v below q)
unfolding m.left finish
adv_left v [] q same h = halted
adv_left v (b ∷ below) q same h = adv_marked q same (leave q) _ (leave_marks q) (λ u q2 e. marked e (h b below refl))

adv_branch : {Q M : Control → Type 0} {fn : IrFunction} {f p : ℕ} {below : List Frame} (h : Here Q M fn f p below)
    (b when : Bool) (to first : ℕ) (ts : List Temporary) → Ahead fn p to → Q (At f (m.branch b when to (p + 1)) first ts below)
adv_branch h true true to first ts j = jumped h to first ts j
adv_branch h false false to first ts j = jumped h to first ts j
adv_branch h true false to first ts j = next h first ts
adv_branch h false true to first ts j = next h first ts

adv_flag : {Q M : Control → Type 0} {fn : IrFunction} {f p : ℕ} {below : List Frame} (h : Here Q M fn f p below) (b : Bool)
    (to first : ℕ) (ts : List Temporary) → p < to → M (At f (m.flag b (p + 1) to) first ts below)
adv_flag h true to first ts j = renewed h first ts
adv_flag h false to first ts j = h.anew to first ts j

chosen : (Q : Control → Type 0) (b : Bool) (c d : Control) → Q c → Q d → Q (cond b c d)
chosen Q true c d h g = h
chosen Q false c d h g = g

module _ (ir : Ir) (rs : List Reading) where
  -- a step of each kind
  pub adv_act : {Q M : Control → Type 0} {fn : IrFunction} {f p : ℕ} {below : List Frame} (h : Here Q M fn f p below)
      (node : ℕ) (k : StepKind) (first : ℕ) (ts : List Temporary) (r : Run) → JumpsAhead fn p k
      → Advance Q M r.left (m.act ir rs node k f p first ts below r)
  adv_act h node (step.Put d x) first ts r j = adv_operand node first x ts r refl _ (λ v us q e. adv_depth d us _ q (on e
      (next h first _)))
  adv_act h node (step.Nothing d) first ts r j = adv_depth d ts _ r (on refl (next h first _))
  adv_act h node (step.Drop d) first ts r j = adv_any ts r _ (λ t us. adv_depth d us _ r (on refl (next h first us)))
  adv_act h node (step.Beside d op) first ts r j = adv_value ts r _ (λ y us. adv_value us r _ (λ x ws. adv_depth d ws _ r
      (adv_kept r refl _ _ (given_keeps node _ r) (λ z q2 e2. on e2 (next h first _)))))
  adv_act h node (step.Convert d to x) first ts r j = adv_operand node first x ts r refl _ (λ v us q e. adv_depth d us _ q
      (adv_kept q e _ _ (given_keeps node _ q) (λ w q2 e2. on e2 (next h first _))))
  adv_act h node (step.Unary d op t x) first ts r j = adv_operand node first x ts r refl _ (λ v us q e. adv_depth d us _ q
      (adv_kept q e _ _ (given_keeps node _ q) (λ w q2 e2. on e2 (next h first _))))
  adv_act h node (step.Binary d op x y) first ts r j = adv_operands node first x y ts r refl _
      (λ v w us q e. adv_depth d us _ q (adv_kept q e _ _ (given_keeps node _ q) (λ z q2 e2. on e2 (next h first _))))
  adv_act h node (step.Truth d of x) first ts r j = adv_operand node first x ts r refl _ (λ v us q e. adv_depth d us _ q
      (adv_kept q e _ _ (given_keeps node _ q) (λ w q2 e2. on e2 (next h first _))))
  adv_act h node (step.Address d of offset) first ts r j = adv_depth d ts _ r (on refl (next h first _))
  adv_act h node (step.Follow d x) first ts r j = adv_operand node first x ts r refl _ (λ v us q e. adv_depth d us _ q
      (adv_kept q e _ _ (given_keeps node _ q) (λ w q2 e2. on e2 (next h first _))))
  adv_act h node (step.Member d offset) first ts r j = adv_place ts r _ (λ l us. adv_depth d us _ r (on refl (next h first _)))
  adv_act h node (step.Element d size own x) first ts r j = adv_operand node first x ts r refl _
      (λ i us q e. adv_place us q _ (λ l ws. adv_depth d ws _ q (adv_kept q e _ _ (given_keeps node _ q) (λ w q2 e2. on e2
      (next h first _)))))
  adv_act h node (step.Sum d size lt rt swapped x y) first ts r j = adv_operands node first x y ts r refl _
      (λ v w us q e. adv_depth d us _ q (adv_kept q e _ _ (given_keeps node _ q) (λ z q2 e2. on e2 (next h first _))))
  adv_act h node (step.PointTo d) first ts r j = adv_place ts r _ (λ l us. adv_depth d us _ r (adv_kept r refl _ _
      (given_keeps node _ r) (λ w q2 e2. on e2 (next h first _))))
  adv_act h node (step.Load d k) first ts r j = adv_place ts r _ (λ l us. adv_depth d us _ r (adv_kept r refl _ _
      (load_keeps node l k r) (λ w q2 e2. on e2 (next h first _))))
  adv_act h node (step.Peek d k) first ts r j = adv_place ts r _ (λ l us. adv_depth d us _ r (adv_kept r refl _ _
      (load_keeps node l k r) (λ w q2 e2. on e2 (next h first _))))
  adv_act h node (step.Store d to k x keeps) first ts r j =
      adv_operand node first x ts r refl _ (λ v us q e. adv_before node keeps us q e _ (λ b ws q1 e1. adv_target first to ws q1 _
      (λ l xs. adv_depth d xs _ q1 (adv_marked q1 e1 _ _ (store_marks node l k v q1) (λ w q2 e2. marked e2
      (renewed h first _))))))
  adv_act h node (step.StoreLocal d n offset k x keeps) first ts r j =
      adv_operand node first x ts r refl _ (λ v us q e. adv_before node keeps us q e _ (λ b ws q1 e1. adv_depth d ws _ q1
      (adv_kept q1 e1 _ _ (store_keeps node (location (first + n) offset) k v q1) (λ w q2 e2. on e2 (next h first _)))))
  adv_act h node (step.Update d to k op x keeps) first ts r j =
      adv_operand node first x ts r refl _ (λ v us q e. adv_target first to us q _ (λ l ws. adv_depth d ws _ q
      (adv_marked q e _ _ (updated_marks node l k op v q) (λ w q2 e2. marked e2 (renewed h first _)))))
  adv_act h node (step.UpdateLocal d n offset k op x keeps) first ts r j =
      adv_operand node first x ts r refl _ (λ v us q e. adv_depth d us _ q (adv_kept q e _ _ (updated_keeps node (location
      (first + n) offset) k op v q) (λ w q2 e2. on e2 (next h first _))))
  adv_act h node (step.Undefine n) first ts r j = on refl (next h first ts)
  adv_act h node (step.Jump to) first ts r j = on refl (jumped h to first ts j)
  adv_act h node (step.Branch d t of when to) first ts r j =
      adv_test node first t ts r refl _ (λ v us q e. adv_depth d us _ q (adv_kept q e _ _ (given_keeps node _ q)
      (λ b q2 e2. on e2 (adv_branch h b when to first us j))))
  adv_act {Q = Q} h node (step.Case d of n to) first ts r j =
      adv_value ts r _ (λ v us. adv_depth d us _ r (adv_kept r refl _ _ (given_keeps node _ r) (λ z q2 e2. on e2 (chosen Q
      (int_eq z n) _ _ (jumped h to first us j) (next h first _)))))
  adv_act h node (step.Call d g k) first ts r j =
      adv_args k ts [] r _ (λ vs us. adv_depth d us _ r (adv_kept r refl _ _ (given_keeps node (all_present vs) r)
      (λ u q2 e2. on e2 (h.called g d first vs us))))
  adv_act {below = below} h node (step.Return d x) first ts r j =
      adv_operand node first x ts r refl _ (λ v us q e. adv_depth d us _ q (adv_kept q e (given node (present v) q)
      (λ w. m.left w below) (given_keeps node _ q) (λ w q2 e2. adv_left w below q2 e2 (h.returned w))))
  adv_act h node step.ReturnNothing first ts r j = adv_left Undefined _ r refl (h.returned Undefined)
  adv_act h node step.Turn first ts r j = adv_marked r refl _ _ (mark_marks r) (λ u q e. marked e (renewed h first ts))
  adv_act h node (step.Sense d c) first ts r j = adv_depth d ts _ r (adv_marked r refl _ _ (sense_marks rs c r)
      (λ v q e. marked e (renewed h first _)))
  adv_act h node (step.Emit d x) first ts r j = adv_operand node first x ts r refl _ (λ v us q e. adv_depth d us _ q
      (adv_marked q e _ _ (emit_marks node v q) (λ w q2 e2. marked e2 (renewed h first _))))
  adv_act h node (step.Checkpoint d) first ts r j = adv_depth d ts _ r (adv_marked r refl _ _ (mark_marks r)
      (λ u q e. marked e (renewed h first _)))
  adv_act h node (step.Stamp d n to k x) first ts r j =
      adv_operand node first x ts r refl _ (λ v us q e. adv_target first to us q _ (λ l ws. adv_depth d ws _ q
      (adv_marked q e _ _ (in_marks n l _ q (stamped_marks rs node l k (m.stamp_in 0 ir.globals n l.offset) v q))
      (λ u q2 e2. marked e2 (renewed h first ws)))))
  adv_act h node (step.Timely d n from k limit to) first ts r j =
      adv_target first from ts r _ (λ l us. adv_depth d us _ r (adv_marked r refl _ _ (in_marks n l _ r
      (timely_marks rs node l k (m.stamp_in 0 ir.globals n l.offset) limit r)) (λ b q2 e2. marked e2
      (adv_flag h b to first us j))))
  adv_act h node (step.Open t to) first ts r j = adv_found (slice_get ir.tables t) _ r (λ names. adv_marked r refl _ _
      (open_marks rs names r) (λ b q2 e2. marked e2 (adv_flag h b to first ts j)))
  adv_act h node (step.Check t to) first ts r j = adv_found (slice_get ir.tables t) _ r (λ names. adv_marked r refl _ _
      (checked_marks rs names r) (λ b q2 e2. marked e2 (adv_flag h b to first ts j)))
  adv_act h node (step.Close t to) first ts r j = adv_found (slice_get ir.tables t) _ r (λ names. adv_marked r refl _ _
      (close_marks rs names r) (λ b q2 e2. marked e2 (adv_flag h b to first ts j)))
  adv_act h node k first ts r j = halted

  -- a store with a mark stops or makes its mark
  pub store_only_marks : (node d : ℕ) (to : Target) (k : Kind) (x : Operand) (keeps : Keep) (f p first : ℕ)
      (ts : List Temporary) (below : List Frame) (r : Run)
      → Advance (λ c. ⊥) (λ c. Unit {0}) r.left (m.act ir rs node (step.Store d to k x keeps) f p first ts below r)
  store_only_marks node d to k x keeps f p first ts below r =
      adv_operand node first x ts r refl _ (λ v us q e. adv_before node keeps us q e _ (λ b ws q1 e1. adv_target first to ws q1 _
      (λ l xs. adv_depth d xs _ q1 (adv_marked q1 e1 _ _ (store_marks node l k v q1) (λ w q2 e2. marked e2 tt)))))

  -- a turn makes a mark, wherever it stands
  pub adv_turn : {Q M : Control → Type 0} (f p : ℕ) (below : List Frame) (fn : IrFunction)
      → ((to first : ℕ) (ts : List Temporary) → p < to → M (At f to first ts below))
      → (node : ℕ) (k : StepKind) (first : ℕ) (ts : List Temporary) (r : Run)
      → is_turn k ≡ true → JumpsAhead fn p k → Advance Q M r.left (m.act ir rs node k f p first ts below r)
  adv_turn f p below fn g node step.Turn first ts r e j = adv_marked r refl _ _ (mark_marks r) (λ u q e2. marked e2 (g
      (p + 1) first ts (omega arith)))
  adv_turn {Q} {M} f p below fn g node (step.Check t to) first ts r e j =
      adv_found (slice_get ir.tables t) _ r (λ names. adv_marked r refl _ _ (checked_marks rs names r) (λ b q2 e2. marked e2
      (either b)))
    where
      either : (b : Bool) → M (At f (m.flag b (p + 1) to) first ts below)
      either true = g (p + 1) first ts (omega arith)
      either false = g to first ts j
  adv_turn f p below fn g node k first ts r e j = absurd (grind (arith, e))

  pub adv_enter : {Q M : Control → Type 0} (f : ℕ) (below : List Frame) (k : StepKind) (fn : IrFunction) (args : List Value)
      (r : Run) → ((first : ℕ) → M (At f 1 first [] below)) → Advance Q M r.left (m.act_enter ir rs k f fn args below r)
  adv_enter f below (step.Enter n) fn args r h = adv_marked r refl _ _ (enter_marks f fn.frame (m.objects_of fn) r)
      (λ first q e. marked e (h first))
  adv_enter f below k fn args r h = halted

  pub adv_result : {Q M : Control → Type 0} (k : StepKind) (v : Value) (b : Frame) (below : List Frame) (r : Run)
      → (is_turn k ≡ false → (ts : List Temporary) → Q (At b.function (b.position + 1) b.first ts below))
      → Advance Q M r.left (m.act_result ir rs k v b below r)
  adv_result (step.Result d keeps) v b below r h = adv_depth d b.temporaries _ r (on refl (h refl _))
  adv_result k v b below r h = halted

  -- what is found at a place
  pub adv_step_in : {Q M : Control → Type 0} {left : ℕ} (f p : ℕ) (r : Run) (go : IrFunction → Step → Action Control)
      → ((fn : IrFunction) (s : Step) → slice_get ir.functions f ≡ Some fn → slice_get fn.steps p ≡ Some s
      → Advance Q M left (go fn s r)) → Advance Q M left (m.step_in ir rs f p go r)
  unfolding m.step_in m.found
  adv_step_in {Q} {M} {left} f p r go h = by_function (slice_get ir.functions f) refl
    where
      by_step : (fn : IrFunction) → slice_get ir.functions f ≡ Some fn → (o : Option Step) → slice_get fn.steps p ≡ o
          → Advance Q M left (m.found o (go fn) r)
      by_step fn is None e = halted
      by_step fn is (Some s) e = h fn s is e

      by_function : (o : Option IrFunction) → slice_get ir.functions f ≡ o
          → Advance Q M left (m.found o (λ fn. m.found (slice_get fn.steps p) (go fn)) r)
      by_function None e = halted
      by_function (Some fn) e = by_step fn e (slice_get fn.steps p) refl

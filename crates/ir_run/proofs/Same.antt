-- The steps as actions one after the other are those of the form's run.
use Rattle.std.proofs.Common.{◌≡◌, ℕ, zero, suc, ◌+◌, List, [], ◌∷◌, length, Option, Some, None, Bool, true, false, refl, sym, ap, ◌∙◌, cond}
use Rattle.std.specs.Prelude.{slice_get, nat_eq}
use Rattle.base16.specs.declared.reading.Reading.{Reading}
use Rattle.c_values.specs.declared.value.Value.{Value}
use Rattle.c_values.specs.declared.value.Value.TheVariants.{Int, Null, Undefined}
use Rattle.c_values.specs.declared.value.Location.{Location}
use Rattle.c_values.specs.Operators.{int_eq, truth}
use Rattle.c_values.specs.Values.{present}
use Rattle.c_run.specs.Runs.{Run, Outcome, Went, Stopped, Action, and_then, pure, given, asked, mark}
use Rattle.c_run.specs.Actions.{load}
use Rattle.ir.specs.declared.form.Ir.{Ir}
use Rattle.ir.specs.declared.form.Operand.{Operand}
use Rattle.ir.specs.declared.form.Operand.TheVariants as operand
use Rattle.ir.specs.declared.form.Target.{Target}
use Rattle.ir.specs.declared.form.Target.TheVariants as target
use Rattle.ir.specs.declared.form.Test.{Test}
use Rattle.ir.specs.declared.form.Test.TheVariants as test
use Rattle.ir.specs.declared.form.Keep.{Keep}
use Rattle.ir.specs.declared.form.Keep.TheVariants as keep
use Rattle.ir.specs.declared.form.StepKind.{StepKind}
use Rattle.ir.specs.declared.form.StepKind.TheVariants as step
use Rattle.ir.specs.declared.control.Temporary.TheVariants as temporary
use Rattle.ir.specs.Machine as m
use Rattle.ir.specs.declared.control.Control.{Control}
use Rattle.ir.specs.declared.control.Control.TheVariants.{At, Calling}
use Rattle.ir.specs.declared.control.Frame.{Frame}
use Rattle.ir.specs.declared.control.Temporary.{Temporary}
use Rattle.ir_steps.specs.Doing as d
use Rattle.ir_run.specs.Going as going
use Rattle.ir_steps.specs.Doing.{Taken, Moved}

-- ---- the parts, where what follows in the one leads as what follows in the other and then `k`

module _ {B : Type 0} (k : B → Action Control) where
  then_same : {A : Type 0} (o : Outcome A) (f : A → Action Control) (g : A → Action B)
      → ((a : A) (q : Run) → f a q ≡ and_then (g a q) k)
      → and_then o f ≡ and_then (and_then o g) k
  then_same (Went a q) f g h = h a q
  then_same (Stopped s) f g h = refl

  depth_same : (n : ℕ) (ts : List Temporary) (r : Run) (f : Action Control) (g : Unit {0} → Action B) → f r ≡ and_then (g tt r) k
      → m.at_depth n ts f r ≡ and_then (and_then (d.at_depth n ts r) g) k
  unfolding m.at_depth d.at_depth
  depth_same n ts r f g h = by_test (nat_eq (length ts) n)
    where
      by_test : (b : Bool) → cond b f m.stuck r ≡ and_then (and_then (cond b (pure {A = Unit {0}} tt) m.stuck r) g) k
      by_test true = h
      by_test false = refl

  value_same : (ts : List Temporary) (r : Run) (f : Value → List Temporary → Action Control) (g : Taken Value → Action B)
      → ((v : Value) (us : List Temporary) → f v us r ≡ and_then (g (record { value = v; rest = us }) r) k)
      → m.on_value ts f r ≡ and_then (and_then (d.top_value ts r) g) k
  unfolding m.on_value d.top_value
  value_same (temporary.Value v ∷ ts) r f g h = h v ts
  value_same (temporary.Place l ∷ ts) r f g h = refl
  value_same [] r f g h = refl

  place_same : (ts : List Temporary) (r : Run) (f : Location → List Temporary → Action Control) (g : Taken Location → Action B)
      → ((l : Location) (us : List Temporary) → f l us r ≡ and_then (g (record { value = l; rest = us }) r) k)
      → m.on_place ts f r ≡ and_then (and_then (d.top_place ts r) g) k
  unfolding m.on_place d.top_place
  place_same (temporary.Place l ∷ ts) r f g h = h l ts
  place_same (temporary.Value v ∷ ts) r f g h = refl
  place_same [] r f g h = refl

  any_same : (ts : List Temporary) (r : Run) (f : Temporary → List Temporary → Action Control) (g : Taken Temporary → Action B)
      → ((t : Temporary) (us : List Temporary) → f t us r ≡ and_then (g (record { value = t; rest = us }) r) k)
      → m.on_any ts f r ≡ and_then (and_then (d.top_any ts r) g) k
  unfolding m.on_any d.top_any
  any_same (t ∷ ts) r f g h = h t ts
  any_same [] r f g h = refl

  values_same : (n : ℕ) (ts : List Temporary) (found : List Value) (r : Run) (f : List Value → List Temporary
      → Action Control) (g : Taken (List Value) → Action B)
      → ((vs : List Value) (us : List Temporary) → f vs us r ≡ and_then (g (record { value = vs; rest = us }) r) k)
      → m.on_args n ts found f r ≡ and_then (and_then (d.top_values n ts found r) g) k
  unfolding m.on_args m.on_value d.top_values d.top_value
  values_same zero ts found r f g h = h found ts
  values_same (suc n) (temporary.Value v ∷ ts) found r f g h = values_same n ts (v ∷ found) r f g h
  values_same (suc n) (temporary.Place l ∷ ts) found r f g h = refl
  values_same (suc n) [] found r f g h = refl

  operand_same : (node first : ℕ) (x : Operand) (ts : List Temporary) (r : Run) (f : Value → List Temporary
      → Action Control) (g : Taken Value → Action B)
      → ((v : Value) (us : List Temporary) (q : Run) → f v us q ≡ and_then (g (record { value = v; rest = us }) q) k)
      → m.on_operand node first x ts f r ≡ and_then (and_then (d.operand_of node first x ts r) g) k
  unfolding m.on_operand d.operand_of
  operand_same node first operand.Temporary ts r f g h = value_same ts r f g (λ v us. h v us r)
  operand_same node first (operand.Constant n) ts r f g h = h (Int n) ts r
  operand_same node first operand.Null ts r f g h = h Null ts r
  operand_same node first (operand.Scalar of offset kind) ts r f g h = by_load (load node (m.known first of offset) kind r)
    where
      by_load : (o : Outcome Value) → and_then o (λ v. f v ts) ≡ and_then (and_then (and_then o (d.untaken ts)) g) k
      by_load (Went v q) = h v ts q
      by_load (Stopped s) = refl

-- what follows two parts of which the second follows the first
assoc : {A B C : Type 0} (o : Outcome A) (f : A → Action B) (g : B → Action C)
    → and_then (and_then o f) g ≡ and_then o (λ a. λ q. and_then (f a q) g)
assoc (Went a q) f g = refl
assoc (Stopped s) f g = refl

same_ends : {A B : Type 0} (o : Outcome A) (f g : A → Action B) → ((a : A) (q : Run) → f a q ≡ g a q)
    → and_then o f ≡ and_then o g
same_ends (Went a q) f g h = h a q
same_ends (Stopped s) f g h = refl

module _ {B : Type 0} (k : B → Action Control) where
  operands_same : (node first : ℕ) (x y : Operand) (ts : List Temporary) (r : Run) (f : Value → Value → List Temporary
      → Action Control) (g : Taken (Value × Value) → Action B)
      → ((v w : Value) (us : List Temporary) (q : Run) → f v w us q ≡ and_then (g (record { value = (v, w); rest = us }) q) k)
      → m.on_operands node first x y ts f r ≡ and_then (and_then (d.operands_of node first x y ts r) g) k
  unfolding m.on_operands d.operands_of
  operands_same node first x y ts r f g h =
      operand_same k node first y ts r (λ w us. m.on_operand node first x us (λ v ws. f v w ws))
      (λ b. λ q. and_then (and_then (d.operand_of node first x b.rest q) (λ a. d.untaken a.rest (a.value, b.value))) g)
      (λ w us q. operand_same k node first x us q (λ v ws. f v w ws)
      (λ a. g (record { value = (a.value, w); rest = a.rest })) (λ v ws q2. h v w ws q2)
      ∙ ap (λ o. and_then o k) (sym (assoc (d.operand_of node first x us q) (λ a. d.untaken a.rest (a.value, w)) g)))
      ∙ ap (λ o. and_then o k) (sym (assoc (d.operand_of node first y ts r) _ g))

  target_same : (first : ℕ) (to : Target) (ts : List Temporary) (r : Run) (f : Location → List Temporary
      → Action Control) (g : Taken Location → Action B)
      → ((l : Location) (us : List Temporary) → f l us r ≡ and_then (g (record { value = l; rest = us }) r) k)
      → m.on_target first to ts f r ≡ and_then (and_then (d.target_of first to ts r) g) k
  unfolding m.on_target d.target_of
  target_same first target.Temporary ts r f g h = place_same k ts r f g h
  target_same first (target.Known of offset) ts r f g h = h (m.known first of offset) ts

  before_same : (node : ℕ) (keeps : Keep) (ts : List Temporary) (r : Run) (f : Value → List Temporary
      → Action Control) (g : Taken Value → Action B)
      → ((v : Value) (us : List Temporary) (q : Run) → f v us q ≡ and_then (g (record { value = v; rest = us }) q) k)
      → m.on_before node keeps ts f r ≡ and_then (and_then (d.before_of node keeps ts r) g) k
  unfolding m.on_before d.before_of
  before_same node keep.Before ts r f g h =
      value_same k ts r (λ v us. λ q. and_then (given node (present v) q) (λ w. f w us))
      (λ v. λ q. and_then (and_then (given node (present v.value) q) (λ w. d.untaken v.rest w)) g)
      (λ v us. then_same k (given node (present v) r) (λ w. f w us) (λ w. g (record { value = w; rest = us }))
      (λ w q2. h w us q2) ∙ ap (λ o. and_then o k) (sym (assoc (given node (present v) r) (λ w. d.untaken us w) g)))
      ∙ ap (λ o. and_then o k) (sym (assoc (d.top_value ts r)
      (λ v. λ q. and_then (given node (present v.value) q) (λ w. d.untaken v.rest w)) g))
  before_same node keep.Nothing ts r f g h = h Undefined ts r
  before_same node keep.Stored ts r f g h = h Undefined ts r

  test_same : (node first : ℕ) (t : Test) (ts : List Temporary) (r : Run) (f : Value → List Temporary
      → Action Control) (g : Taken Value → Action B)
      → ((v : Value) (us : List Temporary) (q : Run) → f v us q ≡ and_then (g (record { value = v; rest = us }) q) k)
      → m.on_test node first t ts f r ≡ and_then (and_then (d.test_of node first t ts r) g) k
  unfolding m.on_test d.test_of
  test_same node first (test.Value x) ts r f g h = operand_same k node first x ts r f g h
  test_same node first (test.Computed op x y) ts r f g h =
      operands_same node first x y ts r (λ v w us. λ q. and_then (asked node (λ s. m.computed s op v w) q) (λ z. f z us))
      (λ a. λ q. and_then (and_then (asked node (λ s. m.computed s op a.value.0 a.value.1) q) (d.untaken a.rest)) g)
      (λ v w us q. then_same k (asked node (λ s. m.computed s op v w) q) (λ z. f z us)
      (λ z. g (record { value = z; rest = us })) (λ z q2. h z us q2)
      ∙ ap (λ o. and_then o k) (sym (assoc (asked node (λ s. m.computed s op v w) q) (d.untaken us) g)))
      ∙ ap (λ o. and_then o k) (sym (assoc (d.operands_of node first x y ts r) _ g))

  found_same : {A : Type 0} (o : Option A) (r : Run) (f : A → Action Control) (g : A → Action B)
      → ((a : A) → f a r ≡ and_then (g a r) k)
      → m.found o f r ≡ and_then (and_then (d.found_in o r) g) k
  unfolding m.found d.found_in
  found_same (Some a) r f g h = h a
  found_same None r f g h = refl

  in_same : {A : Type 0} (n : ℕ) (l : Location) (p : Action A) (r : Run) (f : A → Action Control) (g : Unit {0} → Action B)
      → and_then (p r) f ≡ and_then (g tt r) k → and_then (m.if_in n l p r) f ≡ and_then (and_then (d.in_variable n l r) g) k
  unfolding m.if_in d.in_variable
  in_same {A} n l p r f g h = by_test (m.is_in n l.object)
    where
      by_test : (b : Bool) → and_then (cond b p m.stuck r) f ≡ and_then (and_then (cond b (pure {A = Unit {0}} tt) m.stuck r) g) k
      by_test true = h
      by_test false = refl

-- ---- the steps

module _ (ir : Ir) (rs : List Reading) (f p first : ℕ) (below : List Frame) where
  abbrev arrive : Moved → Action Control
  arrive x = pure (At f x.to first x.temporaries below)

  chosen : (b : Bool) (to : ℕ) (ts : List Temporary) (v : Value) (q : Run)
      → pure (cond b (At f to first ts below) (At f (p + 1) first (temporary.Value v ∷ ts) below)) q
      ≡ and_then (cond b (d.goes to ts) (d.gave p ts v) q) arrive
  chosen true to ts v q = refl
  chosen false to ts v q = refl

  pub does_same : (node : ℕ) (k : StepKind) (ts : List Temporary) (r : Run)
      → m.act ir rs node k f p first ts below r ≡ going.acts ir rs node k f p first ts below r
  does_same node (step.Put n x) ts r = operand_same arrive node first x ts r _ _ (λ v us q. depth_same arrive n us q _ _ refl)
  does_same node (step.Nothing n) ts r = depth_same arrive n ts r _ _ refl
  does_same node (step.Drop n) ts r = any_same arrive ts r _ _ (λ t us. depth_same arrive n us r _ _ refl)
  does_same node (step.Beside n op) ts r =
      value_same arrive ts r _ _ (λ y us. value_same arrive us r _ _ (λ x ws.
      depth_same arrive n ws r _ _ (then_same arrive _ _ (d.gave p (temporary.Value x ∷ ws)) (λ w q2. refl))))
  does_same node (step.Convert n to x) ts r =
      operand_same arrive node first x ts r _ _
      (λ v us q. depth_same arrive n us q _ _ (then_same arrive _ _ (d.gave p us) (λ w q2. refl)))
  does_same node (step.Unary n op t x) ts r =
      operand_same arrive node first x ts r _ _
      (λ v us q. depth_same arrive n us q _ _ (then_same arrive _ _ (d.gave p us) (λ w q2. refl)))
  does_same node (step.Binary n op x y) ts r =
      operands_same arrive node first x y ts r _ _
      (λ v w us q. depth_same arrive n us q _ _ (then_same arrive _ _ (d.gave p us) (λ z q2. refl)))
  does_same node (step.Truth n of x) ts r =
      operand_same arrive node first x ts r _ _
      (λ v us q. depth_same arrive n us q _ _ (then_same arrive _ _ (λ b. d.gave p us (Int (truth b))) (λ w q2. refl)))
  does_same node (step.Address n of offset) ts r = depth_same arrive n ts r _ _ refl
  does_same node (step.Follow n x) ts r =
      operand_same arrive node first x ts r _ _
      (λ v us q. depth_same arrive n us q _ _ (then_same arrive _ _ (d.placed p us) (λ w q2. refl)))
  does_same node (step.Member n offset) ts r = place_same arrive ts r _ _ (λ l us. depth_same arrive n us r _ _ refl)
  does_same node (step.Element n size own x) ts r =
      operand_same arrive node first x ts r _ _
      (λ i us q. place_same arrive us q _ _
      (λ l ws. depth_same arrive n ws q _ _ (then_same arrive _ _ (d.placed p ws) (λ w q2. refl))))
  does_same node (step.Sum n size lt rt swapped x y) ts r =
      operands_same arrive node first x y ts r _ _
      (λ v w us q. depth_same arrive n us q _ _ (then_same arrive _ _ (d.placed p us) (λ z q2. refl)))
  does_same node (step.PointTo n) ts r =
      place_same arrive ts r _ _ (λ l us. depth_same arrive n us r _ _ (then_same arrive _ _ (d.gave p us) (λ z q2. refl)))
  does_same node (step.Load n k) ts r =
      place_same arrive ts r _ _ (λ l us. depth_same arrive n us r _ _ (then_same arrive _ _ (d.gave p us) (λ z q2. refl)))
  does_same node (step.Peek n k) ts r =
      place_same arrive ts r _ _
      (λ l us. depth_same arrive n us r _ _ (then_same arrive _ _ (d.gave p (temporary.Place l ∷ us)) (λ z q2. refl)))
  does_same node (step.Store n to k x keeps) ts r =
      operand_same arrive node first x ts r _ _
      (λ v us q. before_same arrive node keeps us q _ _ (λ b ws q1. target_same arrive first to ws q1 _ _ (λ l xs.
      depth_same arrive n xs q1 _ _ (then_same arrive _ _ (λ w. d.next p (m.kept keeps w b xs)) (λ w q2. refl)))))
  does_same node (step.StoreLocal n local offset k x keeps) ts r =
      operand_same arrive node first x ts r _ _
      (λ v us q. before_same arrive node keeps us q _ _
      (λ b ws q1. depth_same arrive n ws q1 _ _ (then_same arrive _ _ (λ w. d.next p (m.kept keeps w b ws)) (λ w q2. refl))))
  does_same node (step.Update n to k op x keeps) ts r =
      operand_same arrive node first x ts r _ _
      (λ v us q. target_same arrive first to us q _ _
      (λ l xs. depth_same arrive n xs q _ _ (then_same arrive _ _ (λ w. d.next p (m.kept keeps w.0 w.1 xs)) (λ w q2. refl))))
  does_same node (step.UpdateLocal n local offset k op x keeps) ts r =
      operand_same arrive node first x ts r _ _
      (λ v us q. depth_same arrive n us q _ _ (then_same arrive _ _ (λ w. d.next p (m.kept keeps w.0 w.1 us)) (λ w q2. refl)))
  does_same node (step.Undefine n) ts r = refl
  does_same node (step.Jump to) ts r = refl
  does_same node (step.Branch n t of when to) ts r =
      test_same arrive node first t ts r _ _
      (λ v us q. depth_same arrive n us q _ _
      (then_same arrive _ _ (λ b. d.goes (m.branch b when to (p + 1)) us) (λ w q2. refl)))
  does_same node (step.Case n of z to) ts r =
      value_same arrive ts r _ _
      (λ v us. depth_same arrive n us r _ _
      (then_same arrive _ _ (λ i. cond (int_eq i z) (d.goes to us) (d.gave p us v)) (λ i q2. chosen (int_eq i z) to us v q2)))
  does_same node (step.Call n g count) ts r =
      sym (named (m.on_args count ts [] _ r) _
      (values_same pure_at count ts [] r _ _
      (λ vs us. depth_same pure_at n us r _ _
      (then_same pure_at _ _ (λ u. pure (Calling g n vs (m.waiting f p first us ∷ below))) (λ u q2. refl)))))
    where
      pure_at : Control → Action Control
      pure_at c = pure c

      named : (a b : Outcome Control) → a ≡ and_then b pure_at → b ≡ a
      named a (Went c q) e = sym e
      named a (Stopped s) e = sym e
  does_same node (step.Return n x) ts r =
      sym (named (m.on_operand node first x ts _ r) _
      (operand_same pure_at node first x ts r _ _
      (λ v us q. depth_same pure_at n us q _ _
      (then_same pure_at _ _ (λ w. m.left w below) (λ w q2. same (m.left w below q2))))))
    where
      pure_at : Control → Action Control
      pure_at c = pure c

      same : (b : Outcome Control) → b ≡ and_then b pure_at
      same (Went c q) = refl
      same (Stopped s) = refl

      named : (a b : Outcome Control) → a ≡ and_then b pure_at → b ≡ a
      named a (Went c q) e = sym e
      named a (Stopped s) e = sym e
  does_same node step.ReturnNothing ts r = refl
  does_same node step.Turn ts r = then_same arrive (mark r) _ (λ u. d.next p ts) (λ u q2. refl)
  does_same node (step.Sense n channel) ts r = depth_same arrive n ts r _ _ (then_same arrive _ _ (d.gave p ts) (λ w q2. refl))
  does_same node (step.Emit n x) ts r =
      operand_same arrive node first x ts r _ _
      (λ v us q. depth_same arrive n us q _ _ (then_same arrive _ _ (d.gave p us) (λ w q2. refl)))
  does_same node (step.Checkpoint n) ts r =
      depth_same arrive n ts r _ _ (then_same arrive _ _ (λ u. d.gave p ts Undefined) (λ w q2. refl))
  does_same node (step.Stamp n g to k x) ts r =
      operand_same arrive node first x ts r _ _
      (λ v us q. target_same arrive first to us q _ _ (λ l xs. depth_same arrive n xs q _ _
      (in_same arrive g l _ q _ _ (then_same arrive _ _ (λ u. d.next p xs) (λ w q2. refl)))))
  does_same node (step.Timely n g from k limit to) ts r =
      target_same arrive first from ts r _ _
      (λ l xs. depth_same arrive n xs r _ _
      (in_same arrive g l _ r _ _ (then_same arrive _ _ (λ b. d.goes (d.fine_or p to b) xs) (λ w q2. refl))))
  does_same node (step.Open t to) ts r =
      found_same arrive (slice_get ir.tables t) r _ _
      (λ names. then_same arrive _ _ (λ b. d.goes (d.fine_or p to b) ts) (λ b q2. refl))
  does_same node (step.Check t to) ts r =
      found_same arrive (slice_get ir.tables t) r _ _
      (λ names. then_same arrive _ _ (λ b. d.goes (d.fine_or p to b) ts) (λ b q2. refl))
  does_same node (step.Close t to) ts r =
      found_same arrive (slice_get ir.tables t) r _ _
      (λ names. then_same arrive _ _ (λ b. d.goes (d.fine_or p to b) ts) (λ b q2. refl))
  does_same node k ts r = refl

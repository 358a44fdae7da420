-- Codes that do what an action does: one step, and one code after the other.
use Rattle.std.proofs.Common.{◌≡◌, ℕ, ◌+◌, List, [], ◌∷◌, ◌++◌, length, Some, Result, Ok, Err, refl, ap, ◌∙◌, subst, arith, length-append}
use Rattle.std.specs.Prelude.{slice_get}
use Rattle.base16.specs.declared.image.Kind.{Kind}
use Rattle.base16.specs.declared.reading.Reading.{Reading}
use Rattle.c_values.specs.declared.value.Value.{Value}
use Rattle.c_values.specs.declared.value.Value.TheVariants.{Int, Pointer, Null, Undefined}
use Rattle.c_values.specs.declared.value.Location.{Location}
use Rattle.c_values.specs.Objects.{accessed}
use Rattle.c_values.specs.Values.{present, defined}
use Rattle.c_run.specs.Runs.{Run, Outcome, Went, Action, and_then, pure, ◌>>=◌, ◌>>◌, given}
use Rattle.c_run.specs.Actions.{load}
use Rattle.ir.specs.declared.form.Ir.{Ir}
use Rattle.ir.specs.declared.form.IrFunction.{IrFunction}
use Rattle.ir.specs.declared.form.Operand.TheVariants as operand
use Rattle.ir.specs.declared.form.Target.TheVariants as target
use Rattle.ir.specs.declared.form.Keep.TheVariants as keep
use Rattle.ir.specs.declared.form.StepKind.{StepKind}
use Rattle.ir.specs.declared.form.StepKind.TheVariants as step
use Rattle.ir.specs.declared.control.Control.{Control}
use Rattle.ir.specs.declared.control.Control.TheVariants.{At}
use Rattle.ir.specs.declared.control.Frame.{Frame}
use Rattle.ir.specs.declared.control.Temporary.{Temporary}
use Rattle.ir.specs.declared.control.Temporary.TheVariants as temporary
use Rattle.ir.specs.Machine as m
use Rattle.ir.proofs.Leading.{Stands, stands_front, stands_back, Leads, Gives, gave, stopped, leads_by, leads_same, chain, chain_given, made, at_depth_is}
use Rattle.ir_gen.specs.Code.{Code, at_node, single, then_code, above}

-- ---- what is loaded is there

abbrev pub IsPresent : Value → Type 0
IsPresent v = present v ≡ Ok v

pub loaded_present : (node : ℕ) (l : Location) (k : Kind) (r : Run) → Gives IsPresent (load node l k r)
unfolding load
loaded_present node l k r = by_access (accessed r.state l k)
  where
    by_access : (o : Result Value ℕ) → Gives IsPresent (given node (defined o) r)
    by_access (Ok (Int z)) = gave refl
    by_access (Ok (Pointer n offset)) = gave refl
    by_access (Ok Null) = gave refl
    by_access (Ok Undefined) = stopped
    by_access (Err rule) = stopped

-- ---- what a step finds on the stack

pub one_is : (node first d : ℕ) (ts : List Temporary) (v : Value) (go : Value → List Temporary → Action Control) → length ts ≡ d
    → m.on_operand node first operand.Temporary (temporary.Value v ∷ ts) (λ x us. m.at_depth d us (go x us)) ≡ go v ts
unfolding m.on_operand m.on_value
one_is node first d ts v go e = at_depth_is d ts (go v ts) e

pub two_is : (node first d : ℕ) (ts : List Temporary) (x y : Value) (go : Value → Value → List Temporary → Action Control)
    → length ts ≡ d
    → m.on_operands node first operand.Temporary operand.Temporary (temporary.Value y ∷ temporary.Value x ∷ ts)
    (λ a b us. m.at_depth d us (go a b us)) ≡ go x y ts
unfolding m.on_operands m.on_operand m.on_value
two_is node first d ts x y go e = at_depth_is d ts (go x y ts) e

pub beside_is : (d : ℕ) (ts : List Temporary) (x y : Value) (go : Value → Value → List Temporary → Action Control) → length ts
    ≡ d
    → m.on_value (temporary.Value y ∷ temporary.Value x ∷ ts) (λ b us. m.on_value us (λ a ws. m.at_depth d ws (go a b ws)))
    ≡ go x y ts
unfolding m.on_value
beside_is d ts x y go e = at_depth_is d ts (go x y ts) e

pub place_is : (d : ℕ) (ts : List Temporary) (l : Location) (go : Location → List Temporary → Action Control) → length ts ≡ d
    → m.on_place (temporary.Place l ∷ ts) (λ x us. m.at_depth d us (go x us)) ≡ go l ts
unfolding m.on_place
place_is d ts l go e = at_depth_is d ts (go l ts) e

pub any_is : (d : ℕ) (ts : List Temporary) (t : Temporary) (go : Temporary → List Temporary → Action Control) → length ts ≡ d
    → m.on_any (t ∷ ts) (λ x us. m.at_depth d us (go x us)) ≡ go t ts
unfolding m.on_any
any_is d ts t go e = at_depth_is d ts (go t ts) e

pub element_is : (node first d : ℕ) (ts : List Temporary) (l : Location) (v : Value)
    (go : Value → Location → List Temporary → Action Control) → length ts ≡ d
    → m.on_operand node first operand.Temporary (temporary.Value v ∷ temporary.Place l ∷ ts)
    (λ x us. m.on_place us (λ y ws. m.at_depth d ws (go x y ws))) ≡ go v l ts
unfolding m.on_operand m.on_value m.on_place
element_is node first d ts l v go e = at_depth_is d ts (go v l ts) e

pub stored_is : (node first d : ℕ) (ts : List Temporary) (l : Location) (v : Value)
    (go : Value → Value → Location → List Temporary → Action Control) → length ts ≡ d
    → m.on_operand node first operand.Temporary (temporary.Value v ∷ temporary.Place l ∷ ts)
    (λ x us. m.on_before node keep.Stored us (λ b ws. m.on_target first target.Temporary ws (λ y xs. m.at_depth d xs
    (go x b y xs)))) ≡ go v Undefined l ts
unfolding m.on_operand m.on_value m.on_before m.on_target m.on_place
stored_is node first d ts l v go e = at_depth_is d ts (go v Undefined l ts) e

-- the value from before is there
pub before_is : (node first d : ℕ) (ts : List Temporary) (l : Location) (b v : Value)
    (go : Value → Value → Location → List Temporary → Action Control) → length ts ≡ d → IsPresent b
    → m.on_operand node first operand.Temporary (temporary.Value v ∷ temporary.Value b ∷ temporary.Place l ∷ ts)
    (λ x us. m.on_before node keep.Before us (λ b ws. m.on_target first target.Temporary ws (λ y xs. m.at_depth d xs
    (go x b y xs)))) ≡ go v b l ts
unfolding m.on_operand m.on_value m.on_before m.on_target m.on_place
before_is node first d ts l b v go e there =
    ap (λ (o : Result Value ℕ). given node o >>= λ w. m.at_depth d ts (go v w l ts)) there ∙ at_depth_is d ts (go v b l ts) e

pub local_stored_is : (node first d : ℕ) (ts : List Temporary) (v : Value)
    (go : Value → Value → List Temporary → Action Control) → length ts ≡ d
    → m.on_operand node first operand.Temporary (temporary.Value v ∷ ts)
    (λ x us. m.on_before node keep.Stored us (λ b ws. m.at_depth d ws (go x b ws))) ≡ go v Undefined ts
unfolding m.on_operand m.on_value m.on_before
local_stored_is node first d ts v go e = at_depth_is d ts (go v Undefined ts) e

pub local_before_is : (node first d : ℕ) (ts : List Temporary) (b v : Value)
    (go : Value → Value → List Temporary → Action Control) → length ts ≡ d → IsPresent b
    → m.on_operand node first operand.Temporary (temporary.Value v ∷ temporary.Value b ∷ ts)
    (λ x us. m.on_before node keep.Before us (λ b ws. m.at_depth d ws (go x b ws))) ≡ go v b ts
unfolding m.on_operand m.on_value m.on_before
local_before_is node first d ts b v go e there =
    ap (λ (o : Result Value ℕ). given node o >>= λ w. m.at_depth d ts (go v w ts)) there ∙ at_depth_is d ts (go v b ts) e

abbrev pub Even : Code → Type 0
Even code = (p d : ℕ) → length (code.steps p d) ≡ code.size

pub even_then : (a b : Code) → Even a → Even b → Even (then_code a b)
even_then a b ea eb = λ p d. length-append (a.steps p d) (b.steps (p + a.size) d)
    ∙ (ap (λ n. n + length (b.steps (p + a.size) d)) (ea p d) ∙ ap (λ n. a.size + n) (eb (p + a.size) d))

pub even_above : (n : ℕ) (a : Code) → Even a → Even (above n a)
even_above n a ea = λ p d. ea p (d + n)

-- an expression's value and a place as temporaries
abbrev pub value : Value → Temporary
value v = temporary.Value v

abbrev pub placed : Location → Temporary
placed l = temporary.Place l

module _ (ir : Ir) (rs : List Reading) (f : ℕ) (fn : IrFunction) (is : slice_get ir.functions f ≡ Some fn) (first : ℕ)
    (below : List Frame) where
  -- a run at a place of the function
  abbrev pub here : ℕ → List Temporary → Run → Outcome Control
  here p ts r = Went (At f p first ts below) r

  abbrev pub Leading : Outcome Control → Outcome Control → Type 0
  Leading = Leads ir rs

  -- the code does what the action does, takes some temporaries and gives others
  abbrev pub Does : {A : Type 0} → List Temporary → Action A → (A → List Temporary) → Code → Type 0
  Does us act vs code = (p d e : ℕ) (ts : List Temporary) (r : Run) → length ts ≡ d → p + code.size ≡ e
      → Stands fn.steps p (code.steps p d)
      → Leading (here p (us ++ ts) r) (and_then (act r) (λ a. here e (vs a ++ ts)))

  -- a step by itself
  pub one_made : {A : Type 0} (p e node : ℕ) (k : StepKind) (us : List Temporary) (act : Action A) (vs : A → List Temporary)
      (r : Run) → slice_get fn.steps p ≡ Some (at_node node k) → p + 1 ≡ e
      → m.act ir rs node k f p first us below ≡ (act >>= λ a. pure (At f (p + 1) first (vs a) below))
      → Leading (here p us r) (and_then (act r) (λ a. here e (vs a)))
  one_made p e node k us act vs r at_ same eq =
      subst (λ x. Leading (here p us r) (and_then (act r) (λ a. here x (vs a)))) same
      (subst (λ (x : Action Control). Leading (here p us r) (x r)) eq
      (made ir rs f fn is p first us below r (at_node node k) at_))

  pub does_step : {A : Type 0} (us : List Temporary) (act : Action A) (vs : A → List Temporary) (node : ℕ) (k : ℕ → StepKind)
      → ((p d : ℕ) (ts : List Temporary) → length ts ≡ d → m.act ir rs node (k d) f p first (us ++ ts) below
      ≡ (act >>= λ a. pure (At f (p + 1) first (vs a ++ ts) below)))
      → Does us act vs (single node k)
  does_step us act vs node k acts = λ p d e ts r hd he st. one_made p e node (k d) (us ++ ts) act (λ a. vs a ++ ts) r st.0 he
      (acts p d ts hd)

  -- what follows may know something of what is given
  pub does_known : {A B : Type 0} (P : A → Type 0) (us : List Temporary) (act : Action A) (ms : A → List Temporary)
      (g : A → Action B) (vs : B → List Temporary) (a b : Code) → Even a → ((r : Run) → Gives P (act r)) → Does us act ms a
      → ((x : A) → P x → Does (ms x) (g x) vs b) → Does us (act >>= g) vs (then_code a b)
  does_known P us act ms g vs a b even known da db = λ p d e ts r hd he st.
      let st1 = stands_front fn.steps p (a.steps p d) _ st in
      let st2 = stands_back fn.steps p (p + a.size) (a.steps p d) _ (ap (λ n. p + n) (even p d)) st in
      let he2 : p + a.size + b.size ≡ e = omega (arith, he) in
      leads_by ir rs _ _ _ (da p d (p + a.size) ts r hd refl st1)
      (chain_given ir rs P (act r) g (λ w. here e (vs w ++ ts)) (λ x. here (p + a.size) (ms x ++ ts)) (known r)
      (λ x q is. db x is (p + a.size) d e ts q hd he2 st2))

  pub does_then : {A B : Type 0} (us : List Temporary) (act : Action A) (ms : A → List Temporary) (g : A → Action B)
      (vs : B → List Temporary) (a b : Code)
      → Even a → Does us act ms a → ((x : A) → Does (ms x) (g x) vs b) → Does us (act >>= g) vs (then_code a b)
  does_then us act ms g vs a b even da db = λ p d e ts r hd he st.
      let st1 = stands_front fn.steps p (a.steps p d) _ st in
      let st2 = stands_back fn.steps p (p + a.size) (a.steps p d) _ (ap (λ n. p + n) (even p d)) st in
      let he2 : p + a.size + b.size ≡ e = omega (arith, he) in
      leads_by ir rs _ _ _ (da p d (p + a.size) ts r hd refl st1)
      (chain ir rs (act r) g (λ w. here e (vs w ++ ts)) (λ x. here (p + a.size) (ms x ++ ts))
      (λ x q. db x (p + a.size) d e ts q hd he2 st2))

  -- what is given is changed at no cost
  pub does_pure : {A B : Type 0} (us : List Temporary) (act : Action A) (h : A → B) (vs : B → List Temporary) (a : Code)
      → Does us act (λ x. vs (h x)) a → Does us (act >>= λ x. pure (h x)) vs a
  does_pure us act h vs a da = λ p d e ts r hd he st.
      leads_by ir rs _ _ _ (da p d e ts r hd he st)
      (chain ir rs (act r) (λ x. pure (h x)) (λ w. here e (vs w ++ ts)) (λ x. here e (vs (h x) ++ ts))
      (λ x q. leads_same ir rs (here e (vs (h x) ++ ts) q)))

  -- a code does what its action does, and what that gives comes on top
  pub record Sim {A : Type 0} (carry : A → Temporary) (act : Action A) (code : Code) : Type 0 where
    pub even : Even code
    pub does : Does [] act (λ a. carry a ∷ []) code

  pub sim_same : {A : Type 0} (carry : A → Temporary) (a b : Action A) (code : Code) → a ≡ b → Sim carry a code
      → Sim carry b code
  sim_same carry a b code h s = subst (λ x. Sim carry x code) h s

  -- above others
  pub does_above : {A : Type 0} (carry : A → Temporary) (n : ℕ) (us : List Temporary) (act : Action A) (a : Code) → length us
      ≡ n → Sim carry act a
      → Does us act (λ x. carry x ∷ us) (above n a)
  does_above carry n us act a many s = λ p d e ts r hd he st.
      let deep : length (us ++ ts) ≡ d + n = omega (arith, length-append us ts, many, hd) in
      s.does p (d + n) e (us ++ ts) r deep he st

  pub sim_step : {A : Type 0} (carry : A → Temporary) (act : Action A) (node : ℕ) (k : ℕ → StepKind)
      → ((p d : ℕ) (ts : List Temporary) → length ts ≡ d → m.act ir rs node (k d) f p first ts below
      ≡ (act >>= λ a. pure (At f (p + 1) first (carry a ∷ ts) below)))
      → Sim carry act (single node k)
  sim_step carry act node k acts = record {
    even = λ p d. refl;
    does = does_step [] act (λ a. carry a ∷ []) node k acts;
  }

  -- something, and a step that takes it
  pub sim_one : {A B : Type 0} (carry : A → Temporary) (take : B → Temporary) (act : Action A) (code : Code) (node : ℕ)
      (k : ℕ → StepKind) (g : A → Action B)
      → Sim carry act code
      → ((x : A) (p d : ℕ) (ts : List Temporary) → length ts ≡ d → m.act ir rs node (k d) f p first (carry x ∷ ts) below
      ≡ (g x >>= λ w. pure (At f (p + 1) first (take w ∷ ts) below)))
      → Sim take (act >>= g) (then_code code (single node k))
  sim_one carry take act code node k g s acts = record {
    even = even_then code (single node k) s.even (λ p d. refl);
    does = does_then [] act (λ x. carry x ∷ []) g (λ w. take w ∷ []) code (single node k) s.even s.does
        (λ x. does_step (carry x ∷ []) (g x) (λ w. take w ∷ []) node k (λ p d ts hd. acts x p d ts hd));
  }

  -- something, a value above it, and a step that takes both
  pub sim_two : {A B : Type 0} (carry : A → Temporary) (take : B → Temporary) (a : Action A) (b : Action Value) (ca cb : Code)
      (node : ℕ) (k : ℕ → StepKind) (g : A → Value → Action B)
      → Sim carry a ca → Sim value b cb
      → ((x : A) (y : Value) (p d : ℕ) (ts : List Temporary) → length ts ≡ d
      → m.act ir rs node (k d) f p first (value y ∷ carry x ∷ ts) below
      ≡ (g x y >>= λ w. pure (At f (p + 1) first (take w ∷ ts) below)))
      → Sim take (a >>= λ x. b >>= g x) (then_code ca (then_code (above 1 cb) (single node k)))
  sim_two carry take a b ca cb node k g sa sb acts = record {
    even = even_then ca (then_code (above 1 cb) (single node k)) sa.even
        (even_then (above 1 cb) (single node k) (even_above 1 cb sb.even) (λ p d. refl));
    does = does_then [] a (λ x. carry x ∷ []) (λ x. b >>= g x) (λ w. take w ∷ []) ca
        (then_code (above 1 cb) (single node k)) sa.even sa.does
        (λ x. does_then (carry x ∷ []) b (λ y. value y ∷ carry x ∷ []) (g x) (λ w. take w ∷ []) (above 1 cb) (single node k)
        (even_above 1 cb sb.even)
        (does_above value 1 (carry x ∷ []) b cb refl sb)
        (λ y. does_step (value y ∷ carry x ∷ []) (g x y) (λ w. take w ∷ []) node k (λ p d ts hd. acts x y p d ts hd)));
  }

  -- a value, and then another code without it
  pub sim_after : (a b : Action Value) (ca cb : Code) (node : ℕ) → Sim value a ca → Sim value b cb
      → Sim value (a >> b) (then_code ca (then_code (single node step.Drop) cb))
  sim_after a b ca cb node sa sb = record {
    even = even_then ca (then_code (single node step.Drop) cb) sa.even
        (even_then (single node step.Drop) cb (λ p d. refl) sb.even);
    does = does_then [] a (λ x. value x ∷ []) (λ x. b) (λ w. value w ∷ []) ca
        (then_code (single node step.Drop) cb) sa.even sa.does (λ x. dropped x);
  }
    where
      dropped : (x : Value) → Does (value x ∷ []) b (λ w. value w ∷ []) (then_code (single node step.Drop) cb)
      dropped x = does_then (value x ∷ []) (pure {A = Unit {0}} tt) (λ u. []) (λ u. b) (λ w. value w ∷ [])
          (single node step.Drop) cb (λ p d. refl)
          (does_step (value x ∷ []) (pure {A = Unit {0}} tt) (λ u. []) node step.Drop (λ p d ts hd. any_is d ts (value x) _ hd))
          (λ u. sb.does)

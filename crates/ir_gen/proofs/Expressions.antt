-- The codes of tests, stores, updates and calls do what these mean.
use Rattle.std.proofs.Common.{◌≡◌, ℕ, suc, ◌+◌, List, [], ◌∷◌, ◌++◌, length, Option, Some, None, Bool, true, false, refl, sym, ap, ◌∙◌, subst, arith, cond, length-append}
use Rattle.std.proofs.Math.Path.{fun_ext}
use Rattle.std.specs.Prelude.{slice_get, ℤ}
use Rattle.base16.specs.declared.image.Kind.{Kind}
use Rattle.base16.specs.declared.integer.IntType.{IntType}
use Rattle.base16.specs.declared.reading.Reading.{Reading}
use Rattle.c_values.specs.declared.value.Value.{Value}
use Rattle.c_values.specs.declared.value.Value.TheVariants.{Int, Null}
use Rattle.c_values.specs.declared.value.Location.{Location}
use Rattle.c_values.specs.Pointers.{at}
use Rattle.c_values.specs.Values.{all_present}
use Rattle.c_run.specs.Runs.{Run, Outcome, Went, Stopped, Action, and_then, pure, ◌>>=◌, given, asked}
use Rattle.c_run.specs.Actions.{load, store}
use Rattle.c_meaning.specs.Meaning as mean
use Rattle.ir.specs.declared.form.Ir.{Ir}
use Rattle.ir.specs.declared.form.IrFunction.{IrFunction}
use Rattle.ir.specs.declared.form.Base.TheVariants as base
use Rattle.ir.specs.declared.form.Operand.TheVariants as operand
use Rattle.ir.specs.declared.form.Operation.{Operation}
use Rattle.ir.specs.declared.form.Keep.TheVariants as keep
use Rattle.ir.specs.declared.form.Step.{Step}
use Rattle.ir.specs.declared.form.StepKind.TheVariants as step
use Rattle.ir.specs.declared.control.Control.{Control}
use Rattle.ir.specs.declared.control.Control.TheVariants.{At, Calling, Returning}
use Rattle.ir.specs.declared.control.Frame.{Frame}
use Rattle.ir.specs.declared.control.Temporary.{Temporary}
use Rattle.ir.specs.Machine as m
use Rattle.ir.proofs.Leading.{Stands, stands_front, stands_back, Leads, Gives, gave, stopped, leads_by, leads_same, leads_step, chain, chain_given, led, made, at_depth_is, stacked, args_is}
use Rattle.ir_gen.specs.Code as c
use Rattle.ir_gen.specs.Code.{Code, Part, at_node, single, then_code, above, choice}
use Rattle.ir_gen.proofs.Doing as d
use Rattle.ir_gen.proofs.Doing.{IsPresent, loaded_present, Even, even_then, even_above, value, placed, one_is, two_is, beside_is, place_is, stored_is, before_is, local_stored_is, local_before_is}

pub put_constant : (node first d : ℕ) (n : ℤ) (ts : List Temporary) (go : Value → List Temporary → Action Control) → length ts
    ≡ d
    → m.on_operand node first (operand.Constant n) ts (λ x us. m.at_depth d us (go x us)) ≡ go (Int n) ts
unfolding m.on_operand
put_constant node first d n ts go e = at_depth_is d ts (go (Int n) ts) e

pub put_null : (node first d : ℕ) (ts : List Temporary) (go : Value → List Temporary → Action Control) → length ts ≡ d
    → m.on_operand node first operand.Null ts (λ x us. m.at_depth d us (go x us)) ≡ go Null ts
unfolding m.on_operand
put_null node first d ts go e = at_depth_is d ts (go Null ts) e

pub put_scalar : (node first d n offset : ℕ) (k : Kind) (ts : List Temporary) (go : Value → List Temporary → Action Control)
    → length ts ≡ d
    → m.on_operand node first (operand.Scalar (base.Local n) offset k) ts (λ x us. m.at_depth d us (go x us))
    ≡ (load node (at (first + n) offset) k >>= λ v. go v ts)
unfolding m.on_operand
put_scalar node first d n offset k ts go e = ap (λ (g : Value → Action Control). load node (at (first + n) offset) k >>= g)
    (fun_ext (λ v. at_depth_is d ts (go v ts) e))

-- a place is a part of a local
pub data IsPart (first : ℕ) (act : Action Location) : Option Part → Type 0 where
  is_part : {q : Part} → act ≡ pure (at (first + q.local) q.offset) → IsPart first act (Some q)

stacked_one : (found : List Value) (v : Value) (ts : List Temporary) → value v ∷ stacked found ts ≡ stacked (found ++ v ∷ []) ts
stacked_one [] v ts = refl
stacked_one (x ∷ found) v ts = stacked_one found v (value x ∷ ts)

gives_then : {A B : Type 0} (P : B → Type 0) (o : Outcome A) (g : A → Action B) → ((a : A) (q : Run) → Gives P (g a q))
    → Gives P (and_then o g)
gives_then P (Went a q) g h = h a q
gives_then P (Stopped s) g h = stopped

-- calls do what they mean
abbrev pub Served : Ir → List Reading → mean.Calls → List Frame → Type 0
Served ir rs call below = (g d : ℕ) (vs : List Value) (b : Frame) (r : Run)
    → Leads ir rs (Went (Calling g d vs (b ∷ below)) r) (and_then (call g vs r) (λ v q. Went (Returning v (b ∷ below)) q))

module _ (ir : Ir) (rs : List Reading) (f : ℕ) (fn : IrFunction) (is : slice_get ir.functions f ≡ Some fn) (first : ℕ)
    (below : List Frame) where
  abbrev here : ℕ → List Temporary → Run → Outcome Control
  here p ts r = Went (At f p first ts below) r

  abbrev Leading : Outcome Control → Outcome Control → Type 0
  Leading = Leads ir rs

  abbrev Does : {A : Type 0} → List Temporary → Action A → (A → List Temporary) → Code → Type 0
  Does = d.Does ir rs f fn is first below

  abbrev Sim : {A : Type 0} (carry : A → Temporary) (act : Action A) (code : Code) → Type 0
  Sim = d.Sim ir rs f fn is first below

  -- ---- a test, and the one or the other side

  pub sim_choice : {A : Type 0} (carry : A → Temporary) (test : Action Value) (one other : Action A) (ct c1 c2 : Code)
      (node : ℕ) (t : IntType) → Sim value test ct → Sim carry one c1 → Sim carry other c2
      → Sim carry (test >>= λ v. m.tested node t v >>= λ b. cond b one other) (choice node t ct c1 c2)
  unfolding m.on_test
  sim_choice carry test one other ct c1 c2 node t st s1 s2 = record {
    even = λ p d. omega (
      arith,
      st.even p d,
      s1.even (p + ct.size + 1) d,
      s2.even (p + ct.size + 1 + c1.size + 1) d,
      length-append (ct.steps p d) (at_node node (c.unless t (p + ct.size + 1 + c1.size + 1) d)
          ∷ (c1.steps (p + ct.size + 1) d ++ (at_node node (step.Jump (p + ct.size + 1 + c1.size + 1 + c2.size))
          ∷ c2.steps (p + ct.size + 1 + c1.size + 1) d))),
      length-append (c1.steps (p + ct.size + 1) d)
          (at_node node (step.Jump (p + ct.size + 1 + c1.size + 1 + c2.size)) ∷ c2.steps (p + ct.size + 1 + c1.size + 1) d),
    );
    does = λ p d e ts r hd he st0.
        let a1 = stands_front fn.steps p (ct.steps p d) _ st0 in
        let a2 = stands_back fn.steps p (p + ct.size) (ct.steps p d) _ (ap (λ n. p + n) (st.even p d)) st0 in
        let a3 = stands_front fn.steps (p + ct.size + 1) (c1.steps (p + ct.size + 1) d) _ a2.1 in
        let a4 = stands_back fn.steps (p + ct.size + 1) (p + ct.size + 1 + c1.size) (c1.steps (p + ct.size + 1) d) _
        (ap (λ n. p + ct.size + 1 + n) (s1.even (p + ct.size + 1) d)) a2.1 in
        let he2 : p + ct.size + 1 + c1.size + 1 + c2.size ≡ e = omega (arith, he) in
        leads_by ir rs _ _ _ (st.does p d (p + ct.size) ts r hd refl a1)
        (chain ir rs (test r) (λ v. m.tested node t v >>= λ b. cond b one other) (λ w. here e (carry w ∷ ts))
        (λ v. here (p + ct.size) (value v ∷ ts))
        (λ v q. leads_by ir rs _ _ _ (branched p d ts v q hd a2.0)
        (chain ir rs (m.tested node t v q) (λ b. cond b one other) (λ w. here e (carry w ∷ ts))
        (λ b. here (m.branch b false (p + ct.size + 1 + c1.size + 1) (p + ct.size + 1)) ts)
        (λ b q2. sides p d e ts b q2 hd he2 a3 a4.0 a4.1))));
  }
    where
      branched : (p d : ℕ) (ts : List Temporary) (v : Value) (q : Run) → length ts ≡ d → slice_get fn.steps (p + ct.size)
          ≡ Some (at_node node (c.unless t (p + ct.size + 1 + c1.size + 1) d))
          → Leading (here (p + ct.size) (value v ∷ ts) q)
          (and_then (m.tested node t v q) (λ b. here
          (m.branch b false (p + ct.size + 1 + c1.size + 1) (p + ct.size + 1)) ts))
      branched p d ts v q hd at_ = subst (λ (x : Action Control). Leading (here (p + ct.size) (value v ∷ ts) q) (x q))
          (one_is node first d ts v _ hd) (made ir rs f fn is (p + ct.size) first (value v ∷ ts) below q
          (at_node node (c.unless t (p + ct.size + 1 + c1.size + 1) d)) at_)

      sides : (p d e : ℕ) (ts : List Temporary) (b : Bool) (q : Run) → length ts ≡ d → p + ct.size + 1 + c1.size + 1 + c2.size
          ≡ e
          → Stands fn.steps (p + ct.size + 1) (c1.steps (p + ct.size + 1) d)
          → slice_get fn.steps (p + ct.size + 1 + c1.size)
          ≡ Some (at_node node (step.Jump (p + ct.size + 1 + c1.size + 1 + c2.size)))
          → Stands fn.steps (p + ct.size + 1 + c1.size + 1) (c2.steps (p + ct.size + 1 + c1.size + 1) d)
          → Leading (here (m.branch b false (p + ct.size + 1 + c1.size + 1) (p + ct.size + 1)) ts q)
          (and_then (cond b one other q) (λ w. here e (carry w ∷ ts)))
      sides p d e ts true q hd he a3 at_ a4 =
          leads_by ir rs _ _ _ (s1.does (p + ct.size + 1) d (p + ct.size + 1 + c1.size) ts q hd refl a3)
          (led ir rs (one q) (λ w. here (p + ct.size + 1 + c1.size) (carry w ∷ ts)) (λ w. here e (carry w ∷ ts))
          (λ w q2. subst (λ x. Leading (here (p + ct.size + 1 + c1.size) (carry w ∷ ts) q2) (here x (carry w ∷ ts) q2)) he
          (made ir rs f fn is (p + ct.size + 1 + c1.size) first (carry w ∷ ts) below q2
          (at_node node (step.Jump (p + ct.size + 1 + c1.size + 1 + c2.size))) at_)))
      sides p d e ts false q hd he a3 at_ a4 = s2.does (p + ct.size + 1 + c1.size + 1) d e ts q hd he a4

  -- ---- values

  pub sim_constant : (node : ℕ) (pointer : Bool) (v : ℤ)
      → Sim value (pure (mean.constant pointer v)) (c.put node (c.constant pointer v))
  sim_constant node true v = d.sim_step ir rs f fn is first below value (pure Null) node (λ d. step.Put d operand.Null)
      (λ p d ts hd. put_null node first d ts _ hd)
  sim_constant node false v = d.sim_step ir rs f fn is first below value (pure (Int v)) node
      (λ d. step.Put d (operand.Constant v)) (λ p d ts hd. put_constant node first d v ts _ hd)

  -- the result of a test as 0 or 1
  pub sim_truth : (a : Action Value) (ca : Code) (node : ℕ) (t : IntType) → Sim value a ca
      → Sim value (a >>= λ v. m.tested node t v >>= λ y. pure (mean.int_of y)) (c.truth_code node t ca)
  sim_truth a ca node t sa = record {
    even = even_then ca (single node (λ d. step.Truth d t operand.Temporary)) sa.even (λ p d. refl);
    does = d.does_then ir rs f fn is first below [] a (λ x. value x ∷ []) (λ v. m.tested node t v >>= λ y. pure (mean.int_of y))
        (λ w. value w ∷ []) ca (single node (λ d. step.Truth d t operand.Temporary)) sa.even sa.does
        (λ v. d.does_pure ir rs f fn is first below (value v ∷ []) (m.tested node t v) mean.int_of (λ w. value w ∷ [])
        (single node (λ d. step.Truth d t operand.Temporary))
        (d.does_step ir rs f fn is first below (value v ∷ []) (m.tested node t v) (λ y. value (mean.int_of y) ∷ []) node
        (λ d. step.Truth d t operand.Temporary) (λ p d ts hd. one_is node first d ts v _ hd)));
  }

  -- ---- stores

  pub sim_assign : (node : ℕ) (k : Kind) (a : Action Location) (b : Action Value) (ca cb : Code) → Sim placed a ca
      → Sim value b cb
      → Sim value (a >>= λ l. b >>= λ v. store node l k v true) (c.both_then ca cb node (c.store_step k keep.Stored))
  sim_assign node k a b ca cb sa sb =
      d.sim_two ir rs f fn is first below placed value a b ca cb node (c.store_step k keep.Stored)
      (λ l v. store node l k v true) sa sb
      (λ l v p d ts hd. stored_is node first d ts l v _ hd)

  pub sim_assign_local : (node : ℕ) (k : Kind) (a : Action Location) (b : Action Value) (part : Option Part) (cb : Code)
      → IsPart first a part → Sim value b cb
      → Sim value (a >>= λ l. b >>= λ v. store node l k v false) (then_code cb (c.store_local node part k keep.Stored))
  sim_assign_local node k a b None cb x sb = elim x [ ]
  sim_assign_local node k a b (Some q) cb (is_part e) sb =
      d.sim_same ir rs f fn is first below value (b >>= λ v. store node (at (first + q.local) q.offset) k v false)
      (a >>= λ l. b >>= λ v. store node l k v false) (then_code cb (c.store_local node (Some q) k keep.Stored))
      (ap (λ (x : Action Location). x >>= λ l. b >>= λ v. store node l k v false) (sym e))
      (d.sim_one ir rs f fn is first below value value b cb node
      (λ d. step.StoreLocal d q.local q.offset k operand.Temporary keep.Stored)
      (λ v. store node (at (first + q.local) q.offset) k v false) sb
      (λ v p d ts hd. local_stored_is node first d ts v _ hd))

  -- ---- updates

  abbrev pub updating : ℕ → Kind → Operation → Action Location → Action Value → Bool → Bool → Action Value
  updating node k o a b old marked =
      a >>= λ l. load node l k >>= λ before. b >>= λ v. asked node (λ s. m.computed s o before v) >>= λ after.
      store node l k after marked >>= λ stored. pure (cond old before stored)

  pub sim_update_stored : (node : ℕ) (k : Kind) (o : Operation) (a : Action Location) (b : Action Value) (ca cb : Code)
      → Sim placed a ca → Sim value b cb
      → Sim value (updating node k o a b false true) (c.update_stored node ca k o cb)
  sim_update_stored node k o a b ca cb sa sb = record {
    even = even_then ca more sa.even (even_then peek more1 (λ p d. refl)
        (even_then (above 2 cb) more2 (even_above 2 cb sb.even) (λ p d. refl)));
    does = d.does_then ir rs f fn is first below [] a (λ l. placed l ∷ [])
        (λ l. load node l k >>= λ before. b >>= λ v. asked node (λ s. m.computed s o before v)
        >>= λ after. store node l k after true >>= λ stored. pure stored)
        (λ w. value w ∷ []) ca more sa.even sa.does (λ l. from_place l);
  }
    where
      peek : Code
      peek = single node (λ d. step.Peek d k)

      more2 : Code
      more2 = then_code (single node (λ d. step.Binary (d + 1) o operand.Temporary operand.Temporary))
          (single node (c.store_step k keep.Stored))

      more1 : Code
      more1 = then_code (above 2 cb) more2

      more : Code
      more = then_code peek more1

      from_place : (l : Location) → Does (placed l ∷ [])
          (load node l k >>= λ before. b >>= λ v. asked node (λ s. m.computed s o before v)
          >>= λ after. store node l k after true >>= λ stored. pure stored) (λ w. value w ∷ []) more
      from_place l = d.does_then ir rs f fn is first below (placed l ∷ []) (load node l k)
          (λ before. value before ∷ placed l ∷ [])
          (λ before. b >>= λ v. asked node (λ s. m.computed s o before v) >>= λ after. store node l k after true
          >>= λ stored. pure stored)
          (λ w. value w ∷ []) peek more1 (λ p d. refl)
          (d.does_step ir rs f fn is first below (placed l ∷ []) (load node l k) (λ before. value before ∷ placed l ∷ []) node
          (λ d. step.Peek d k) (λ p d ts hd. place_is d ts l _ hd))
          (λ before. d.does_then ir rs f fn is first below (value before ∷ placed l ∷ []) b
          (λ v. value v ∷ value before ∷ placed l ∷ [])
          (λ v. asked node (λ s. m.computed s o before v) >>= λ after. store node l k after true
          >>= λ stored. pure stored)
          (λ w. value w ∷ []) (above 2 cb) more2 (even_above 2 cb sb.even)
          (d.does_above ir rs f fn is first below value 2 (value before ∷ placed l ∷ []) b cb refl sb)
          (λ v. d.does_then ir rs f fn is first below (value v ∷ value before ∷ placed l ∷ [])
          (asked node (λ s. m.computed s o before v)) (λ after. value after ∷ placed l ∷ [])
          (λ after. store node l k after true >>= λ stored. pure stored)
          (λ w. value w ∷ []) (single node (λ d. step.Binary (d + 1) o operand.Temporary operand.Temporary))
          (single node (c.store_step k keep.Stored)) (λ p d. refl)
          (d.does_step ir rs f fn is first below (value v ∷ value before ∷ placed l ∷ [])
          (asked node (λ s. m.computed s o before v)) (λ after. value after ∷ placed l ∷ []) node
          (λ d. step.Binary (d + 1) o operand.Temporary operand.Temporary)
          (λ p d ts hd. let deep : suc (length ts) ≡ d + 1 = omega (arith, hd) in
          two_is node first (d + 1) (placed l ∷ ts) before v _ deep))
          (λ after. d.does_pure ir rs f fn is first below (value after ∷ placed l ∷ []) (store node l k after true) (λ x. x)
          (λ w. value w ∷ []) (single node (c.store_step k keep.Stored))
          (d.does_step ir rs f fn is first below (value after ∷ placed l ∷ []) (store node l k after true)
          (λ w. value w ∷ []) node (c.store_step k keep.Stored) (λ p d ts hd. stored_is node first d ts l after _ hd)))))

  pub sim_update_before : (node : ℕ) (k : Kind) (o : Operation) (a : Action Location) (b : Action Value) (ca cb : Code)
      → Sim placed a ca → Sim value b cb
      → Sim value (updating node k o a b true true) (c.update_before node ca k o cb)
  sim_update_before node k o a b ca cb sa sb = record {
    even = even_then ca more sa.even (even_then peek more1 (λ p d. refl)
        (even_then (above 2 cb) more2 (even_above 2 cb sb.even) (λ p d. refl)));
    does = d.does_then ir rs f fn is first below [] a (λ l. placed l ∷ [])
        (λ l. load node l k >>= λ before. b >>= λ v. asked node (λ s. m.computed s o before v)
        >>= λ after. store node l k after true >>= λ stored. pure before)
        (λ w. value w ∷ []) ca more sa.even sa.does (λ l. from_place l);
  }
    where
      peek : Code
      peek = single node (λ d. step.Peek d k)

      more2 : Code
      more2 = then_code (single node (λ d. step.Beside (d + 1) o)) (single node (c.store_step k keep.Before))

      more1 : Code
      more1 = then_code (above 2 cb) more2

      more : Code
      more = then_code peek more1

      from_place : (l : Location) → Does (placed l ∷ [])
          (load node l k >>= λ before. b >>= λ v. asked node (λ s. m.computed s o before v)
          >>= λ after. store node l k after true >>= λ stored. pure before) (λ w. value w ∷ []) more
      from_place l = d.does_known ir rs f fn is first below IsPresent (placed l ∷ []) (load node l k)
          (λ before. value before ∷ placed l ∷ [])
          (λ before. b >>= λ v. asked node (λ s. m.computed s o before v) >>= λ after. store node l k after true
          >>= λ stored. pure before)
          (λ w. value w ∷ []) peek more1 (λ p d. refl) (loaded_present node l k)
          (d.does_step ir rs f fn is first below (placed l ∷ []) (load node l k) (λ before. value before ∷ placed l ∷ []) node
          (λ d. step.Peek d k) (λ p d ts hd. place_is d ts l _ hd))
          (λ before there. d.does_then ir rs f fn is first below (value before ∷ placed l ∷ []) b
          (λ v. value v ∷ value before ∷ placed l ∷ [])
          (λ v. asked node (λ s. m.computed s o before v) >>= λ after. store node l k after true
          >>= λ stored. pure before)
          (λ w. value w ∷ []) (above 2 cb) more2 (even_above 2 cb sb.even)
          (d.does_above ir rs f fn is first below value 2 (value before ∷ placed l ∷ []) b cb refl sb)
          (λ v. d.does_then ir rs f fn is first below (value v ∷ value before ∷ placed l ∷ [])
          (asked node (λ s. m.computed s o before v)) (λ after. value after ∷ value before ∷ placed l ∷ [])
          (λ after. store node l k after true >>= λ stored. pure before)
          (λ w. value w ∷ []) (single node (λ d. step.Beside (d + 1) o))
          (single node (c.store_step k keep.Before)) (λ p d. refl)
          (d.does_step ir rs f fn is first below (value v ∷ value before ∷ placed l ∷ [])
          (asked node (λ s. m.computed s o before v)) (λ after. value after ∷ value before ∷ placed l ∷ []) node
          (λ d. step.Beside (d + 1) o)
          (λ p d ts hd. let deep : suc (length ts) ≡ d + 1 = omega (arith, hd) in
          beside_is (d + 1) (placed l ∷ ts) before v _ deep))
          (λ after. d.does_pure ir rs f fn is first below (value after ∷ value before ∷ placed l ∷ [])
          (store node l k after true) (λ x. before) (λ w. value w ∷ []) (single node (c.store_step k keep.Before))
          (d.does_step ir rs f fn is first below (value after ∷ value before ∷ placed l ∷ []) (store node l k after true)
          (λ w. value before ∷ []) node (c.store_step k keep.Before)
          (λ p d ts hd. before_is node first d ts l before after _ hd there)))))

  -- without a mark
  sim_scalar : (node : ℕ) (q : Part) (k : Kind) → Sim value (load node (at (first + q.local) q.offset) k)
      (c.put node (c.scalar_of q k))
  sim_scalar node q k = d.sim_step ir rs f fn is first below value (load node (at (first + q.local) q.offset) k) node
      (λ d. step.Put d (c.scalar_of q k)) (λ p d ts hd. put_scalar node first d q.local q.offset k ts _ hd)

  abbrev from_load : ℕ → Kind → Operation → Location → Action Value → Bool → Value → Action Value
  from_load node k o l b old before = b >>= λ v. asked node (λ s. m.computed s o before v)
      >>= λ after. store node l k after false >>= λ stored. pure (cond old before stored)

  pub sim_update_local : (node : ℕ) (k : Kind) (o : Operation) (a : Action Location) (b : Action Value) (part : Option Part)
      (cb : Code) (old : Bool) → IsPart first a part → Sim value b cb
      → Sim value (updating node k o a b old false) (c.update_local node part k o cb old)
  sim_update_local node k o a b None cb old x sb = elim x [ ]
  sim_update_local node k o a b (Some q) cb false (is_part e) sb =
      d.sim_same ir rs f fn is first below value (load node (at (first + q.local) q.offset) k
      >>= from_load node k o (at (first + q.local) q.offset) b false) (updating node k o a b false false)
      (c.update_local node (Some q) k o cb false)
      (ap (λ (x : Action Location). updating node k o x b false false) (sym e))
      (record {
        even = even_then (c.put node (c.scalar_of q k)) more1 (λ p d. refl)
            (even_then (above 1 cb) more2 (even_above 1 cb sb.even) (λ p d. refl));
        does = d.does_then ir rs f fn is first below [] (load node loc k) (λ before. value before ∷ [])
            (from_load node k o loc b false) (λ w. value w ∷ []) (c.put node (c.scalar_of q k)) more1 (λ p d. refl)
            (sim_scalar node q k).does
            (λ before. d.does_then ir rs f fn is first below (value before ∷ []) b (λ v. value v ∷ value before ∷ [])
            (λ v. asked node (λ s. m.computed s o before v) >>= λ after. store node loc k after false
            >>= λ stored. pure stored)
            (λ w. value w ∷ []) (above 1 cb) more2 (even_above 1 cb sb.even)
            (d.does_above ir rs f fn is first below value 1 (value before ∷ []) b cb refl sb)
            (λ v. d.does_then ir rs f fn is first below (value v ∷ value before ∷ [])
            (asked node (λ s. m.computed s o before v)) (λ after. value after ∷ [])
            (λ after. store node loc k after false >>= λ stored. pure stored)
            (λ w. value w ∷ []) (single node (λ d. step.Binary d o operand.Temporary operand.Temporary))
            (c.store_local node (Some q) k keep.Stored) (λ p d. refl)
            (d.does_step ir rs f fn is first below (value v ∷ value before ∷ []) (asked node (λ s. m.computed s o before v))
            (λ after. value after ∷ []) node (λ d. step.Binary d o operand.Temporary operand.Temporary)
            (λ p d ts hd. two_is node first d ts before v _ hd))
            (λ after. d.does_pure ir rs f fn is first below (value after ∷ []) (store node loc k after false) (λ x. x)
            (λ w. value w ∷ []) (c.store_local node (Some q) k keep.Stored)
            (d.does_step ir rs f fn is first below (value after ∷ []) (store node loc k after false) (λ w. value w ∷ []) node
            (λ d. step.StoreLocal d q.local q.offset k operand.Temporary keep.Stored)
            (λ p d ts hd. local_stored_is node first d ts after _ hd)))));
      })
    where
      loc : Location
      loc = at (first + q.local) q.offset

      more2 : Code
      more2 = then_code (single node (λ d. step.Binary d o operand.Temporary operand.Temporary))
          (c.store_local node (Some q) k keep.Stored)

      more1 : Code
      more1 = then_code (above 1 cb) more2
  sim_update_local node k o a b (Some q) cb true (is_part e) sb =
      d.sim_same ir rs f fn is first below value (load node (at (first + q.local) q.offset) k
      >>= from_load node k o (at (first + q.local) q.offset) b true) (updating node k o a b true false)
      (c.update_local node (Some q) k o cb true)
      (ap (λ (x : Action Location). updating node k o x b true false) (sym e))
      (record {
        even = even_then (c.put node (c.scalar_of q k)) more1 (λ p d. refl)
            (even_then (above 1 cb) more2 (even_above 1 cb sb.even) (λ p d. refl));
        does = d.does_known ir rs f fn is first below IsPresent [] (load node loc k) (λ before. value before ∷ [])
            (from_load node k o loc b true) (λ w. value w ∷ []) (c.put node (c.scalar_of q k)) more1 (λ p d. refl)
            (loaded_present node loc k) (sim_scalar node q k).does
            (λ before there. d.does_then ir rs f fn is first below (value before ∷ []) b (λ v. value v ∷ value before ∷ [])
            (λ v. asked node (λ s. m.computed s o before v) >>= λ after. store node loc k after false
            >>= λ stored. pure before)
            (λ w. value w ∷ []) (above 1 cb) more2 (even_above 1 cb sb.even)
            (d.does_above ir rs f fn is first below value 1 (value before ∷ []) b cb refl sb)
            (λ v. d.does_then ir rs f fn is first below (value v ∷ value before ∷ [])
            (asked node (λ s. m.computed s o before v)) (λ after. value after ∷ value before ∷ [])
            (λ after. store node loc k after false >>= λ stored. pure before)
            (λ w. value w ∷ []) (single node (λ d. step.Beside d o))
            (c.store_local node (Some q) k keep.Before) (λ p d. refl)
            (d.does_step ir rs f fn is first below (value v ∷ value before ∷ []) (asked node (λ s. m.computed s o before v))
            (λ after. value after ∷ value before ∷ []) node (λ d. step.Beside d o)
            (λ p d ts hd. beside_is d ts before v _ hd))
            (λ after. d.does_pure ir rs f fn is first below (value after ∷ value before ∷ []) (store node loc k after false)
            (λ x. before) (λ w. value w ∷ []) (c.store_local node (Some q) k keep.Before)
            (d.does_step ir rs f fn is first below (value after ∷ value before ∷ []) (store node loc k after false)
            (λ w. value before ∷ []) node (λ d. step.StoreLocal d q.local q.offset k operand.Temporary keep.Before)
            (λ p d ts hd. local_before_is node first d ts before after _ hd there)))));
      })
    where
      loc : Location
      loc = at (first + q.local) q.offset

      more2 : Code
      more2 = then_code (single node (λ d. step.Beside d o)) (c.store_local node (Some q) k keep.Before)

      more1 : Code
      more1 = then_code (above 1 cb) more2

  -- ---- calls

  -- arguments behind those that were found, the last on top
  pub record SimAll (n : ℕ) (act : List Value → Action (List Value)) (code : Code) : Type 0 where
    pub even : Even code
    pub many : (found : List Value) (r : Run) → Gives (λ vs. length vs ≡ length found + n) (act found r)
    pub does : (p d e : ℕ) (found : List Value) (ts : List Temporary) (r : Run) → length (stacked found ts) ≡ d → p + code.size
        ≡ e → Stands fn.steps p (code.steps p d)
        → Leading (here p (stacked found ts) r) (and_then (act found r) (λ vs. here e (stacked vs ts)))

  pub sim_none : SimAll 0 pure c.no_code
  sim_none = record {
    even = λ p d. refl;
    many = λ found r. gave (omega arith);
    does = λ p d e found ts r hd he st. let same : p ≡ e = omega (arith, he) in
        subst (λ x. Leading (here p (stacked found ts) r) (here x (stacked found ts) r)) same
        (leads_same ir rs (here p (stacked found ts) r));
  }

  pub sim_more : (n : ℕ) (a : Action Value) (b : List Value → Action (List Value)) (ca cb : Code) → Sim value a ca
      → SimAll n b cb
      → SimAll (suc n) (λ found. a >>= λ v. b (found ++ v ∷ [])) (then_code ca (above 1 cb))
  sim_more n a b ca cb sa sb = record {
    even = even_then ca (above 1 cb) sa.even (even_above 1 cb sb.even);
    many = λ found r. gives_then (λ vs. length vs ≡ length found + suc n) (a r) _ (λ v q.
        let same : length (found ++ v ∷ []) + n ≡ length found + suc n = omega (arith, length-append found (v ∷ [])) in
        subst (λ k. Gives (λ vs. length vs ≡ k) (b (found ++ v ∷ []) q)) same (sb.many (found ++ v ∷ []) q));
    does = λ p d e found ts r hd he st.
        let st1 = stands_front fn.steps p (ca.steps p d) _ st in
        let st2 = stands_back fn.steps p (p + ca.size) (ca.steps p d) _ (ap (λ n. p + n) (sa.even p d)) st in
        let he2 : p + ca.size + cb.size ≡ e = omega (arith, he) in
        leads_by ir rs _ _ _ (sa.does p d (p + ca.size) (stacked found ts) r hd refl st1)
        (chain ir rs (a r) (λ v. b (found ++ v ∷ [])) (λ vs. here e (stacked vs ts))
        (λ v. here (p + ca.size) (value v ∷ stacked found ts))
        (λ v q. let hd2 : length (stacked (found ++ v ∷ []) ts) ≡ d + 1
        = ap (λ (l : List Temporary). length l) (sym (stacked_one found v ts)) ∙ (ap suc hd ∙ omega arith) in
        subst (λ l. Leading (here (p + ca.size) l q) (and_then (b (found ++ v ∷ []) q) (λ vs. here e (stacked vs ts))))
        (sym (stacked_one found v ts))
        (sb.does (p + ca.size) (d + 1) e (found ++ v ∷ []) ts q hd2 he2 st2)));
  }

  module _ (call : mean.Calls) (served : Served ir rs call below) where
    result_taken : (p e d node : ℕ) (ts : List Temporary) (v : Value) (q : Run) → length ts ≡ d → p + 1 ≡ e
        → slice_get fn.steps p ≡ Some (at_node node (step.Result d true))
        → Leading (Went (Returning v (record { function = f; position = p; first = first; temporaries = ts } ∷ below)) q)
        (here e (value v ∷ ts) q)
    unfolding m.step_in m.found
    result_taken p e d node ts v q hd he at_ =
        subst (λ x. Leading (Went (Returning v (record { function = f; position = p; first = first; temporaries = ts } ∷ below))
        q) (here x (value v ∷ ts) q)) he
        (subst (λ o. Leading
        (Went (Returning v (record { function = f; position = p; first = first; temporaries = ts } ∷ below)) q) o) same
        (leads_step ir rs (Returning v (record { function = f; position = p; first = first; temporaries = ts } ∷ below)) q))
      where
        same : m.one_step ir rs (Returning v (record { function = f; position = p; first = first; temporaries = ts } ∷ below)) q
            ≡ here (p + 1) (value v ∷ ts) q
        same = ap (λ (o : Option IrFunction). m.found o
            (λ g. m.found (slice_get g.steps p) (λ s. m.act_result ir rs s.kind v
            (record { function = f; position = p; first = first; temporaries = ts }) below)) q) is
            ∙ (ap (λ (o : Option Step). m.found o (λ s. m.act_result ir rs s.kind v
            (record { function = f; position = p; first = first; temporaries = ts }) below) q) at_
            ∙ ap (λ (x : Action Control). x q) (at_depth_is d ts (pure (At f (p + 1) first (value v ∷ ts) below)) hd))

    pub sim_call : (n g node : ℕ) (a : List Value → Action (List Value)) (ca : Code) → SimAll n a ca
        → Sim value (a [] >>= λ vs. mean.passed call node g vs) (c.call_code node g n ca)
    sim_call n g node a ca sa = record {
      even = even_then ca (then_code (single node (λ d. step.Call d g n)) (single node (λ d. step.Result d true))) sa.even
          (λ p d. refl);
      does = λ p d e ts r hd he st.
          let st1 = stands_front fn.steps p (ca.steps p d) _ st in
          let st2 = stands_back fn.steps p (p + ca.size) (ca.steps p d) _ (ap (λ n. p + n) (sa.even p d)) st in
          let he2 : p + ca.size + 1 + 1 ≡ e = omega (arith, he) in
          leads_by ir rs _ _ _ (sa.does p d (p + ca.size) [] ts r hd refl st1)
          (chain_given ir rs (λ vs. length vs ≡ 0 + n) (a [] r) (mean.passed call node g) (λ w. here e (value w ∷ ts))
          (λ vs. here (p + ca.size) (stacked vs ts)) (sa.many [] r)
          (λ vs q many. leads_by ir rs _ _ _ (gone p d ts vs q hd (omega (arith, many)) st2.0)
          (chain ir rs (given node (all_present vs) q) (λ u. call g vs) (λ w. here e (value w ∷ ts))
          (λ u. pure (Calling g d vs (m.waiting f (p + ca.size) first ts ∷ below)))
          (λ u q2. leads_by ir rs _ _ _ (served g d vs (m.waiting f (p + ca.size) first ts) q2)
          (led ir rs (call g vs q2) (λ v q3. Went (Returning v (m.waiting f (p + ca.size) first ts ∷ below)) q3)
          (λ w. here e (value w ∷ ts))
          (λ v q3. result_taken (p + ca.size + 1) e d node ts v q3 hd he2 st2.1.0))))));
    }
      where
        gone : (p d : ℕ) (ts : List Temporary) (vs : List Value) (q : Run) → length ts ≡ d → length vs ≡ n
            → slice_get fn.steps (p + ca.size) ≡ Some (at_node node (step.Call d g n))
            → Leading (here (p + ca.size) (stacked vs ts) q)
            (and_then (given node (all_present vs) q)
            (λ u. pure (Calling g d vs (m.waiting f (p + ca.size) first ts ∷ below))))
        gone p d ts vs q hd many at_ =
            subst (λ (x : Action Control). Leading (here (p + ca.size) (stacked vs ts) q) (x q))
            (args_is n vs ts _ many ∙ at_depth_is d ts _ hd)
            (made ir rs f fn is (p + ca.size) first (stacked vs ts) below q (at_node node (step.Call d g n)) at_)

-- The steps of initialisers do what these mean: the scalar that is set has the kind that its local's layout has there.
use Rattle.std.proofs.Common.{◌≡◌, ℕ, ◌+◌, ◌<◌, List, [], ◌∷◌, ◌++◌, length, get_or, Option, Some, None, Result, Ok, Err, Bool, true, false, refl, sym, ap, ◌∙◌, subst, arith, cond, length-append}
use Rattle.std.specs.Prelude.{slice_get, nat_eq}
use Rattle.base16.specs.declared.image.Kind.{Kind}
use Rattle.base16.specs.declared.image.Kind.TheVariants as kind
use Rattle.base16.specs.declared.reading.Reading.{Reading}
use Rattle.core_tree.specs.declared.program.Core.{Core}
use Rattle.core_tree.specs.declared.expressions.Expr.{Expr}
use Rattle.core_tree.specs.declared.statements.Init.{Init}
use Rattle.core_tree.specs.declared.types.Slot.{Slot}
use Rattle.c_values.specs.declared.value.Value.{Value}
use Rattle.c_values.specs.declared.value.Cell.{Cell}
use Rattle.c_values.specs.declared.state.Object.{Object}
use Rattle.c_values.specs.Objects as objects
use Rattle.c_values.specs.Pointers.{at}
use Rattle.c_values.specs.Values.{zero_of}
use Rattle.c_run.specs.Runs.{Run, Outcome, Went, Action, and_then, pure, ◌>>=◌, given, asked}
use Rattle.c_run.specs.Actions.{store}
use Rattle.c_meaning.specs.Meaning as mean
use Rattle.c_meaning.specs.Statements as st
use Rattle.ir.specs.declared.form.Ir.{Ir}
use Rattle.ir.specs.declared.form.IrFunction.{IrFunction}
use Rattle.ir.specs.declared.form.Operand.{Operand}
use Rattle.ir.specs.declared.form.Operand.TheVariants as operand
use Rattle.ir.specs.declared.control.Control.{Control}
use Rattle.ir.specs.declared.control.Control.TheVariants.{At}
use Rattle.ir.specs.declared.control.Frame.{Frame}
use Rattle.ir.specs.declared.control.Temporary.{Temporary}
use Rattle.ir.specs.Machine as m
use Rattle.ir.proofs.Objects.{slots_of}
use Rattle.ir.proofs.Holding.{Holds, local_has}
use Rattle.ir.proofs.Leading.{Stands, stands_front, stands_back, Leads, leads_by, leads_same, leads_known, chain, past_given}
use Rattle.ir_gen.specs.Code as code
use Rattle.ir_gen.specs.Code.{at_node}
use Rattle.ir_gen.specs.Body as c
use Rattle.ir_gen.specs.Body.{Part}
use Rattle.ir_gen.specs.Built as built
use Rattle.ir_gen.proofs.Doing.{value}
use Rattle.ir_gen.proofs.Expressions.{Served}
use Rattle.ir_gen.proofs.Statements as s
use Rattle.ir_gen.proofs.Tree.{sim_expr, both_left, both_right}

-- ---- the kind of a scalar, in an object and in a layout

kind_in_slots : (offset : ℕ) (cs : List Cell) (k : Kind) → objects.kind_in (objects.find_cell offset cs) ≡ Ok k
    → k ≡ c.kind_in offset (slots_of cs)
kind_in_slots offset [] k e = absurd (grind (arith, e))
kind_in_slots offset (x ∷ cs) k e = by_bool (λ f. kind_in_slots offset cs k f) (nat_eq x.offset offset) e
  where
    or_this : Kind → Result Kind ℕ → Kind
    or_this d (Err n) = d
    or_this d (Ok z) = z

    by_bool : (objects.kind_in (objects.find_cell offset cs) ≡ Ok k → k ≡ c.kind_in offset (slots_of cs)) → (b : Bool)
        → objects.kind_in (cond b (Some x) (objects.find_cell offset cs)) ≡ Ok k
        → k ≡ cond b x.kind (c.kind_in offset (slots_of cs))
    by_bool more true f = sym (ap (or_this k) f)
    by_bool more false f = more f

module _ (ir : Ir) (rs : List Reading) (f : ℕ) (fn : IrFunction) (is : slice_get ir.functions f ≡ Some fn) (first : ℕ)
    (below : List Frame) (slots : List (List Slot)) (own : m.objects_of fn ≡ slots) where
  abbrev Leading : Outcome Control → Outcome Control → Type 0
  Leading = Leads ir rs

  abbrev here : ℕ → Run → Outcome Control
  here p r = Went (At f p first [] below) r

  abbrev SimPart : Action (Unit {0}) → Part → Type 0
  SimPart = s.SimPart ir rs f fn is first below

  -- a local of the call that runs has the kinds of its layout
  kind_known : (p n offset : ℕ) (ts : List Temporary) (r : Run) (k : Kind) → n < length slots
      → Holds ir (Went (At f p first ts below) r) → objects.kind_at r.state (first + n) offset ≡ Ok k
      → k ≡ c.local_kind slots n offset
  unfolding objects.kind_at
  kind_known p n offset ts r k inside h e = by_object (objects.object_of r.state (first + n)) refl e
    where
      by_object : (o : Option Object) → objects.object_of r.state (first + n) ≡ o
          → objects.kind_of_object offset o ≡ Ok k → k ≡ c.local_kind slots n offset
      by_object None found e2 = absurd (grind (arith, e2))
      by_object (Some o) found e2 =
          let inside2 : n < length (m.objects_of fn) = subst (λ l. n < length l) (sym own) inside in
          kind_in_slots offset o.cells k e2
          ∙ ap (c.kind_in offset) (local_has ir rs f p first ts below r fn n o h is inside2 found
          ∙ ap (λ l. get_or l n []) own)

  -- ---- a step that sets a scalar of a local

  value_set : (p node n offset : ℕ) (k : Kind) (marked : Bool) (v : Value)
      → m.act ir rs node (c.init_step n offset k marked operand.Temporary) f p first (value v ∷ []) below
      ≡ (store node (at (first + n) offset) k v marked >>= λ w. pure (At f (p + 1) first [] below))
  unfolding m.on_operand m.on_value m.on_before m.on_target m.at_depth
  value_set p node n offset k true v = refl
  value_set p node n offset k false v = refl

  zero_set : (p node n offset : ℕ) (k : Kind) (marked : Bool)
      → m.act ir rs node (c.init_step n offset k marked (c.zero_of k)) f p first [] below
      ≡ (store node (at (first + n) offset) k (zero_of k) marked >>= λ w. pure (At f (p + 1) first [] below))
  unfolding m.on_operand m.on_value m.on_before m.on_target m.at_depth
  zero_set p node n offset kind.Char true = refl
  zero_set p node n offset kind.Char false = refl
  zero_set p node n offset kind.Int true = refl
  zero_set p node n offset kind.Int false = refl
  zero_set p node n offset kind.UInt true = refl
  zero_set p node n offset kind.UInt false = refl
  zero_set p node n offset kind.Pointer true = refl
  zero_set p node n offset kind.Pointer false = refl

  abbrev setting : (node n offset : ℕ) (marked : Bool) → (Kind → Value) → Action (Unit {0}) → Action (Unit {0})
  setting node n offset marked v rest = asked node (λ s. objects.kind_at s (first + n) offset)
      >>= λ k. store node (at (first + n) offset) k (v k) marked >>= λ w. rest

  scalar_set : (p end node n offset : ℕ) (marked : Bool) (x : Operand) (ts : List Temporary) (v : Kind → Value)
      (rest : Action (Unit {0})) (q : Run) → n < length slots
      → m.act ir rs node (c.init_step n offset (c.local_kind slots n offset) marked x) f p first ts below
      ≡ (store node (at (first + n) offset) (c.local_kind slots n offset) (v (c.local_kind slots n offset)) marked
      >>= λ w. pure (At f (p + 1) first [] below))
      → slice_get fn.steps p ≡ Some (at_node node (c.init_step n offset (c.local_kind slots n offset) marked x))
      → ((q2 : Run) → Leading (here (p + 1) q2) (and_then (rest q2) (λ u. here end)))
      → Leading (Went (At f p first ts below) q) (and_then (setting node n offset marked v rest q) (λ u. here end))
  scalar_set p end node n offset marked x ts v rest q inside acts at_ after =
      leads_known ir rs (Went (At f p first ts below) q) (and_then (setting node n offset marked v rest q) (λ u. here end))
      (λ h. by_kind h (objects.kind_at q.state (first + n) offset) refl)
    where
      by_kind : Holds ir (Went (At f p first ts below) q) → (o : Result Kind ℕ)
          → objects.kind_at q.state (first + n) offset ≡ o → Leading (Went (At f p first ts below) q)
          (and_then (and_then (given node o q) (λ k. store node (at (first + n) offset) k (v k) marked >>= λ w. rest))
          (λ u. here end))
      by_kind h (Err e) found = past_given ir rs {A = ⊥} node (Err e) (Went (At f p first ts below) q) (λ a. absurd a) q
          (λ a. absurd a)
      by_kind h (Ok k) found =
          subst (λ z. Leading (Went (At f p first ts below) q)
          (and_then (and_then (store node (at (first + n) offset) z (v z) marked q) (λ w. rest)) (λ u. here end)))
          (sym (kind_known p n offset ts q k inside h found))
          (leads_by ir rs _ _ _ (s.one_step ir rs f fn is first below p node
          (c.init_step n offset (c.local_kind slots n offset) marked x) ts q
          (store node (at (first + n) offset) (c.local_kind slots n offset) (v (c.local_kind slots n offset)) marked
          >>= λ w. pure (At f (p + 1) first [] below)) at_ acts)
          (chain ir rs (store node (at (first + n) offset) (c.local_kind slots n offset) (v (c.local_kind slots n offset))
          marked q) (λ w. rest) (λ u. here end) (λ w. here (p + 1)) (λ w q2. after q2)))

  -- ---- the initialisers of a local

  module _ (core : Core) (call : mean.Calls) (served : Served ir rs call below) where
    -- one, and the others behind it
    init_then : (node n offset : ℕ) (marked : Bool) (e : Option Expr) (rest : Action (Unit {0})) (cr : Part)
        → n < length slots → built.if_some built.expr e ≡ true → SimPart rest cr
        → SimPart (st.init_value core rs call first e
        >>= λ v. setting node n offset marked (λ k. st.optional (zero_of k) v) rest)
        (c.then_part (c.init_value core.structs slots node n offset marked e) cr)
    init_then node n offset marked None rest cr inside fine sr = record {
      even = λ p. omega (arith, sr.even (p + 1));
      leads = λ p end r he h. scalar_set p end node n offset marked (c.zero_of (c.local_kind slots n offset)) [] zero_of rest r
          inside (zero_set p node n offset (c.local_kind slots n offset) marked) h.0
          (λ q. sr.leads (p + 1) end q (omega (arith, he)) h.1);
    }
    init_then node n offset marked (Some e) rest cr inside fine sr =
        let se = sim_expr core.structs rs call first ir f fn is below served e fine in
        let ce = code.expr core.structs e in
        record {
          even = λ p. omega (
            arith,
            length-append (ce.steps p 0 ++ at_node node
                (c.init_step n offset (c.local_kind slots n offset) marked operand.Temporary) ∷ [])
                (cr.steps (p + (ce.size + 1))),
            length-append (ce.steps p 0)
                (at_node node (c.init_step n offset (c.local_kind slots n offset) marked operand.Temporary) ∷ []),
            se.even p 0,
            sr.even (p + (ce.size + 1)),
          );
          leads = λ p end r he h.
              let h1 = stands_front fn.steps p (ce.steps p 0 ++ at_node node
              (c.init_step n offset (c.local_kind slots n offset) marked operand.Temporary) ∷ []) _ h in
              let long : p + length (ce.steps p 0 ++ at_node node
              (c.init_step n offset (c.local_kind slots n offset) marked operand.Temporary) ∷ []) ≡ p + (ce.size + 1) = omega (
                arith,
                length-append (ce.steps p 0)
                    (at_node node (c.init_step n offset (c.local_kind slots n offset) marked operand.Temporary) ∷ []),
                se.even p 0,
              ) in
              let h2 = stands_back fn.steps p (p + (ce.size + 1)) (ce.steps p 0 ++ at_node node
              (c.init_step n offset (c.local_kind slots n offset) marked operand.Temporary) ∷ []) _ long h in
              let h3 = stands_front fn.steps p (ce.steps p 0) _ h1 in
              let h4 = stands_back fn.steps p (p + ce.size) (ce.steps p 0) _ (ap (λ k. p + k) (se.even p 0)) h1 in
              let there : p + (ce.size + 1) ≡ p + ce.size + 1 = omega arith in
              let h5 = subst (λ k. Stands fn.steps k (cr.steps k)) there h2 in
              let he2 : p + ce.size + 1 + cr.size ≡ end = omega (arith, he) in
              valued node n offset marked e rest inside p end (p + ce.size) r (se.does p 0 (p + ce.size) [] r refl refl h3) h4.0
              (λ q. sr.leads (p + ce.size + 1) end q he2 h5);
        }
      where
        valued : (node n offset : ℕ) (marked : Bool) (e : Expr) (rest : Action (Unit {0})) → n < length slots
            → (p end behind : ℕ) (r : Run)
            → Leading (here p r) (and_then (mean.expr core.structs rs call first e r)
            (λ v q. Went (At f behind first (value v ∷ []) below) q))
            → slice_get fn.steps behind
            ≡ Some (at_node node (c.init_step n offset (c.local_kind slots n offset) marked operand.Temporary))
            → ((q : Run) → Leading (here (behind + 1) q) (and_then (rest q) (λ u. here end)))
            → Leading (here p r) (and_then ((st.init_value core rs call first (Some e)
            >>= λ v. setting node n offset marked (λ k. st.optional (zero_of k) v) rest) r) (λ u. here end))
        valued node n offset marked e rest inside p end behind r ran at_ after =
            let a = mean.expr core.structs rs call first e r in
            leads_by ir rs _ _ _ ran
            (leads_by ir rs _ _ _
            (chain ir rs a (λ v. pure (Some v))
            (λ v q. and_then (setting node n offset marked (λ k. st.optional (zero_of k) v) rest q) (λ u. here end))
            (λ v q. Went (At f behind first (value v ∷ []) below) q)
            (λ v q. scalar_set behind end node n offset marked operand.Temporary (value v ∷ []) (λ k. v) rest q inside
            (value_set behind node n offset (c.local_kind slots n offset) marked v) at_ after))
            (chain ir rs (and_then a (λ v. pure (Some v)))
            (λ v. setting node n offset marked (λ k. st.optional (zero_of k) v) rest) (λ u. here end)
            (λ v q. and_then (setting node n offset marked (λ k. st.optional (zero_of k) v) rest q) (λ u. here end))
            (λ v q. leads_same ir rs
            (and_then (setting node n offset marked (λ k. st.optional (zero_of k) v) rest q) (λ u. here end)))))

    -- all of them, in order
    pub sim_inits : (node n : ℕ) → n < length slots → (all : List Init) → built.inits all ≡ true
        → SimPart (st.initialised core rs call first node (first + n) all) (c.init_parts core.structs slots node n all)
    sim_inits node n inside [] fine = s.sim_no_part ir rs f fn is first below
    sim_inits node n inside (i ∷ more) fine =
        init_then node n i.offset i.marked i.value (st.initialised core rs call first node (first + n) more)
        (c.init_parts core.structs slots node n more) inside (both_left (built.if_some built.expr i.value) _ fine)
        (sim_inits node n inside more (both_right (built.if_some built.expr i.value) _ fine))

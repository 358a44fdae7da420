-- The code of a switch does what the switch means.
use Rattle.std.proofs.Common.{◌≡◌, ℕ, suc, ◌+◌, List, [], ◌∷◌, ◌++◌, length, Option, Some, None, Result, Ok, Err, Bool, true, false, ◌||◌, refl, sym, ap, ◌∙◌, subst, arith, cond, length-append}
use Rattle.std.specs.Prelude.{slice_get, ℤ}
use Rattle.base16.specs.declared.integer.IntType.{IntType}
use Rattle.base16.specs.declared.reading.Reading.{Reading}
use Rattle.c_values.specs.declared.value.Value.{Value}
use Rattle.c_values.specs.Operators.{int_eq}
use Rattle.c_values.specs.Values.{integer, numbered}
use Rattle.c_run.specs.Runs.{Run, Outcome, Went, Action, and_then, pure, ◌>>=◌, given}
use Rattle.c_meaning.specs.Statements as st
use Rattle.c_meaning.specs.Statements.{Labelled}
use Rattle.c_meaning.specs.declared.flow.Flow.{Flow}
use Rattle.c_meaning.specs.declared.flow.Flow.TheVariants.{Normal, Break, Continue, Return, Caught}
use Rattle.ir.specs.declared.form.Ir.{Ir}
use Rattle.ir.specs.declared.form.IrFunction.{IrFunction}
use Rattle.ir.specs.declared.form.StepKind.TheVariants as step
use Rattle.ir.specs.declared.control.Control.{Control}
use Rattle.ir.specs.declared.control.Control.TheVariants.{At}
use Rattle.ir.specs.declared.control.Frame.{Frame}
use Rattle.ir.specs.Machine as m
use Rattle.ir.proofs.Leading.{Stands, stands_front, stands_back, Leads, leads_by, leads_same, chain, made, past_given, at_depth_is}
use Rattle.ir_gen.specs.Code.{Code, at_node}
use Rattle.ir_gen.specs.Body as c
use Rattle.ir_gen.specs.Body.{Body, Grouped}
use Rattle.ir_gen.proofs.Doing as d
use Rattle.ir_gen.proofs.Doing.{value, any_is}
use Rattle.ir_gen.proofs.Statements as s
use Rattle.ir_gen.proofs.Statements.{go_to}

-- a number is among the labels of some group
abbrev pub some_case : ℤ → List Grouped → Bool
some_case z [] = false
some_case z (g ∷ gs) = st.has_case z g.labels || some_case z gs

pub label_steps : (node : ℕ) (t : IntType) (to : ℕ) (ls : List (Option ℤ)) → length (c.label_cases node t to ls)
    ≡ c.label_count ls
label_steps node t to [] = refl
label_steps node t to (None ∷ ls) = label_steps node t to ls
label_steps node t to (Some n ∷ ls) = ap suc (label_steps node t to ls)

pub case_steps : (node : ℕ) (t : IntType) (p : ℕ) (gs : List Grouped) → length (c.cases node t p gs) ≡ c.case_count gs
case_steps node t p [] = refl
case_steps node t p (g ∷ gs) =
    length-append (c.label_cases node t p g.labels) (c.cases node t (p + g.body.size) gs)
    ∙ (ap (λ n. n + length (c.cases node t (p + g.body.size) gs)) (label_steps node t p g.labels)
    ∙ ap (λ n. c.label_count g.labels + n) (case_steps node t (p + g.body.size) gs))

module _ (ir : Ir) (rs : List Reading) (f : ℕ) (fn : IrFunction) (is : slice_get ir.functions f ≡ Some fn) (first : ℕ)
    (below : List Frame) where
  abbrev Leading : Outcome Control → Outcome Control → Type 0
  Leading = Leads ir rs

  abbrev here : ℕ → Run → Outcome Control
  here p r = Went (At f p first [] below) r

  -- with the value still on the stack
  abbrev asking : ℕ → Value → Run → Outcome Control
  asking p v r = Went (At f p first (value v ∷ []) below) r

  abbrev SimStmt : Action Flow → Body → Type 0
  SimStmt = s.SimStmt ir rs f fn is first below

  -- the groups of the form are those of the tree, in order
  pub data Groups : List Labelled → List Grouped → Type 0 where
    no_groups : Groups [] []
    one_group : {l : Labelled} {g : Grouped} {ls : List Labelled} {gs : List Grouped} → l.labels ≡ g.labels
        → SimStmt (l.act None) g.body → Groups ls gs → Groups (l ∷ ls) (g ∷ gs)

  abbrev go : (end brk cont catch : ℕ) → Flow → Action Control
  go = go_to ir rs f fn is first below

  pub groups_even : {ls : List Labelled} {gs : List Grouped} → Groups ls gs → (p brk cont : ℕ)
      → length ((c.groups_body gs).steps p brk cont) ≡ (c.groups_body gs).size
  groups_even no_groups p brk cont = refl
  groups_even (one_group {g = g} {gs = gs} e h more) p brk cont =
      omega (
        arith,
        length-append (g.body.steps p brk cont)
            ((c.groups_body gs).steps (p + g.body.size) brk cont),
        h.even p brk cont,
        groups_even more (p + g.body.size) brk cont,
      )

  -- all groups, one after the other
  pub all_groups : {ls : List Labelled} {gs : List Grouped} → Groups ls gs
      → SimStmt (st.in_order (st.acts ls) None) (c.groups_body gs)
  all_groups no_groups = s.sim_nothing ir rs f fn is first below
  all_groups (one_group {l = l} {g = g} {ls = ls} {gs = gs} e h more) =
      s.sim_then ir rs f fn is first below (l.act None) (st.in_order (st.acts ls) None) g.body (c.groups_body gs) h
      (all_groups more)

  -- those from the first whose labels pass
  pub from_first : {ls : List Labelled} {gs : List Grouped} (passes : List (Option ℤ) → Bool) → Groups ls gs
      → (p end brk cont catch : ℕ) (r : Run) → p + (c.groups_body gs).size ≡ end
      → Stands fn.steps p ((c.groups_body gs).steps p brk cont)
      → Leading (here (c.place_of passes p gs) r) (and_then (st.in_order (st.acts (st.from_group passes ls)) None r)
      (go end brk cont catch))
  from_first passes no_groups p end brk cont catch r he h =
      let same : p ≡ end = omega (arith, he) in subst (λ x. Leading (here p r) (here x r)) same (leads_same ir rs (here p r))
  from_first passes (one_group {l = l} {g = g} {ls = ls} {gs = gs} e one more) p end brk cont catch r he h =
      subst (λ b. Leading (here (c.place_of passes p (g ∷ gs)) r)
      (and_then (st.in_order (st.acts (cond b (l ∷ ls) (st.from_group passes ls))) None r) (go end brk cont catch)))
      (ap passes (sym e))
      (by_label (from_first passes more (p + g.body.size) end brk cont catch r (omega (arith, he))
      (stands_back fn.steps p (p + g.body.size) (g.body.steps p brk cont) _ (ap (λ n. p + n) (one.even p brk cont)) h))
      (passes g.labels))
    where
      by_label : Leading (here (c.place_of passes (p + g.body.size) gs) r)
          (and_then (st.in_order (st.acts (st.from_group passes ls)) None r) (go end brk cont catch))
          → (b : Bool) → Leading (here (cond b p (c.place_of passes (p + g.body.size) gs)) r)
          (and_then (st.in_order (st.acts (cond b (l ∷ ls) (st.from_group passes ls))) None r) (go end brk cont catch))
      by_label later true = (all_groups (one_group {l = l} {g = g} {ls = ls} {gs = gs} e one more)).leads p end brk cont catch r
          he h
      by_label later false = later

  -- ---- the steps of the labels

  module _ (node : ℕ) (t : IntType) (v : Value) (z : ℤ) (is_number : integer (numbered t v) ≡ Ok z) where
    one_case : (p to : ℕ) (n : ℤ) (q : Run) → slice_get fn.steps p ≡ Some (at_node node (step.Case 0 t n to))
        → Leading (asking p v q) (cond (int_eq z n) (here to q) (asking (p + 1) v q))
    unfolding m.on_value
    one_case p to n q h =
        leads_by ir rs _ _ _
        (subst (λ (x : Action Control). Leading (asking p v q) (x q))
        (at_depth_is 0 [] _ refl ∙ ap (λ (x : Result ℤ ℕ). given node x
        >>= λ y. pure (cond (int_eq y n) (At f to first [] below) (At f (p + 1) first (value v ∷ []) below))) is_number)
        (made ir rs f fn is p first (value v ∷ []) below q (at_node node (step.Case 0 t n to)) h))
        (by_bool (int_eq z n))
      where
        by_bool : (b : Bool) → Leading (Went (cond b (At f to first [] below) (At f (p + 1) first (value v ∷ []) below)) q)
            (cond b (here to q) (asking (p + 1) v q))
        by_bool true = leads_same ir rs (here to q)
        by_bool false = leads_same ir rs (asking (p + 1) v q)

    through_labels : (ls : List (Option ℤ)) (p e to : ℕ) (q : Run) → p + c.label_count ls ≡ e
        → Stands fn.steps p (c.label_cases node t to ls)
        → Leading (asking p v q) (cond (st.has_case z ls) (here to q) (asking e v q))
    through_labels [] p e to q he h = let same : p ≡ e = omega (arith, he) in
        subst (λ x. Leading (asking p v q) (asking x v q)) same (leads_same ir rs (asking p v q))
    through_labels (None ∷ ls) p e to q he h = through_labels ls p e to q he h
    through_labels (Some n ∷ ls) p e to q he h = leads_by ir rs _ _ _ (one_case p to n q h.0)
        (by_bool (through_labels ls (p + 1) e to q (omega (arith, he)) h.1) (int_eq z n))
      where
        by_bool : Leading (asking (p + 1) v q) (cond (st.has_case z ls) (here to q) (asking e v q)) → (b : Bool)
            → Leading (cond b (here to q) (asking (p + 1) v q)) (cond (b || st.has_case z ls) (here to q) (asking e v q))
        by_bool later true = leads_same ir rs (here to q)
        by_bool later false = later

    through_cases : (gs : List Grouped) (p e to : ℕ) (q : Run) → p + c.case_count gs ≡ e
        → Stands fn.steps p (c.cases node t to gs)
        → Leading (asking p v q) (cond (some_case z gs) (here (c.place_of (st.has_case z) to gs) q) (asking e v q))
    through_cases [] p e to q he h = let same : p ≡ e = omega (arith, he) in
        subst (λ x. Leading (asking p v q) (asking x v q)) same (leads_same ir rs (asking p v q))
    through_cases (g ∷ gs) p e to q he h =
        leads_by ir rs _ _ _ (through_labels g.labels p (p + c.label_count g.labels) to q refl
        (stands_front fn.steps p (c.label_cases node t to g.labels) _ h))
        (by_bool (through_cases gs (p + c.label_count g.labels) e (to + g.body.size) q (omega (arith, he))
        (stands_back fn.steps p (p + c.label_count g.labels) (c.label_cases node t to g.labels) _
        (ap (λ n. p + n) (label_steps node t to g.labels)) h)) (st.has_case z g.labels))
      where
        by_bool : Leading (asking (p + c.label_count g.labels) v q)
            (cond (some_case z gs) (here (c.place_of (st.has_case z) (to + g.body.size) gs) q) (asking e v q))
            → (b : Bool) → Leading (cond b (here to q) (asking (p + c.label_count g.labels) v q))
            (cond (b || some_case z gs) (here (cond b to (c.place_of (st.has_case z) (to + g.body.size) gs)) q)
            (asking e v q))
        by_bool later true = leads_same ir rs (here to q)
        by_bool later false = later

  -- ---- which groups are selected

  none_passes : {ls : List Labelled} {gs : List Grouped} (z : ℤ) → Groups ls gs → some_case z gs ≡ false
      → st.from_group (st.has_case z) ls ≡ []
  none_passes z no_groups e = refl
  none_passes z (one_group {l = l} {g = g} {ls = ls} {gs = gs} same one more) e =
      ap (λ b. cond b (l ∷ ls) (st.from_group (st.has_case z) ls))
      (ap (st.has_case z) same ∙ left (st.has_case z g.labels) (some_case z gs) e)
      ∙ none_passes z more (right (st.has_case z g.labels) (some_case z gs) e)
    where
      left : (a b : Bool) → (a || b) ≡ false → a ≡ false
      left true b e = e
      left false b e = refl

      right : (a b : Bool) → (a || b) ≡ false → b ≡ false
      right true b e = absurd (grind (arith, e))
      right false b e = e

  some_passes : {ls : List Labelled} {gs : List Grouped} (z : ℤ) (all : List Labelled) → Groups ls gs → some_case z gs ≡ true
      → st.or_default (st.from_group (st.has_case z) ls) all ≡ st.from_group (st.has_case z) ls
  some_passes z all no_groups e = absurd (grind (arith, e))
  some_passes z all (one_group {l = l} {g = g} {ls = ls} {gs = gs} same one more) e =
      subst (λ b. st.or_default (cond b (l ∷ ls) (st.from_group (st.has_case z) ls)) all
      ≡ cond b (l ∷ ls) (st.from_group (st.has_case z) ls)) (ap (st.has_case z) (sym same))
      (by_bool (λ h. some_passes z all more h) (st.has_case z g.labels) e)
    where
      by_bool : (some_case z gs ≡ true → st.or_default (st.from_group (st.has_case z) ls) all
          ≡ st.from_group (st.has_case z) ls)
          → (b : Bool) → (b || some_case z gs) ≡ true → st.or_default (cond b (l ∷ ls) (st.from_group (st.has_case z) ls)) all
          ≡ cond b (l ∷ ls) (st.from_group (st.has_case z) ls)
      by_bool later true h = refl
      by_bool later false h = later h

  -- ---- the whole

  module _ (node : ℕ) (t : IntType) (ca : Code) (ls : List Labelled) (gs : List Grouped) (groups : Groups ls gs) where
    abbrev rest : ℤ → Action Flow
    rest z = st.in_order (st.selected z ls) None >>= λ w. pure (st.broken_out w)

    -- a break has left the switch
    out : (end brk cont catch : ℕ) (w : Flow) (q : Run)
        → Leading (go end end cont catch w q) (go end brk cont catch (st.broken_out w) q)
    out end brk cont catch Normal q = leads_same ir rs (here end q)
    out end brk cont catch Break q = leads_same ir rs (here end q)
    out end brk cont catch Continue q = leads_same ir rs (here cont q)
    out end brk cont catch (Return v) q = leads_same ir rs (m.left v below q)
    out end brk cont catch Caught q = leads_same ir rs (here catch q)

    -- the groups that are selected
    entered : (o : Outcome Control) (end brk cont catch : ℕ) (ws : List Labelled) (q : Run)
        → Leading o (and_then (st.in_order (st.acts ws) None q) (go end end cont catch))
        → Leading o (and_then ((st.in_order (st.acts ws) None >>= λ w. pure (st.broken_out w)) q) (go end brk cont catch))
    entered o end brk cont catch ws q h = leads_by ir rs _ _ _ h
        (chain ir rs (st.in_order (st.acts ws) None q) (λ w. pure (st.broken_out w)) (go end brk cont catch)
        (go end end cont catch) (λ w q2. out end brk cont catch w q2))

    dropped : (p brk cont catch : ℕ) (v : Value) (q : Run)
        → slice_get fn.steps (p + ca.size + c.case_count gs) ≡ Some (at_node node (step.Drop 0))
        → slice_get fn.steps (p + ca.size + c.case_count gs + 1)
        ≡ Some (at_node node (step.Jump (c.place_of st.has_default (c.groups_at p ca gs) gs)))
        → Leading (asking (p + ca.size + c.case_count gs) v q) (here (c.place_of st.has_default (c.groups_at p ca gs) gs) q)
    dropped p brk cont catch v q g1 g2 =
        leads_by ir rs _ _ _ (s.one_step ir rs f fn is first below (p + ca.size + c.case_count gs) node (step.Drop 0)
        (value v ∷ []) q (pure (At f (p + ca.size + c.case_count gs + 1) first [] below)) g1 (any_is 0 [] (value v) _ refl))
        (s.one_step ir rs f fn is first below (p + ca.size + c.case_count gs + 1) node
        (step.Jump (c.place_of st.has_default (c.groups_at p ca gs) gs)) [] q
        (pure (At f (c.place_of st.has_default (c.groups_at p ca gs) gs) first [] below)) g2 refl)

    with_number : (p end brk cont catch : ℕ) (v : Value) (z : ℤ) (q : Run) → c.groups_end p ca gs ≡ end
        → slice_get fn.steps (p + ca.size + c.case_count gs) ≡ Some (at_node node (step.Drop 0))
        → slice_get fn.steps (p + ca.size + c.case_count gs + 1)
        ≡ Some (at_node node (step.Jump (c.place_of st.has_default (c.groups_at p ca gs) gs)))
        → Stands fn.steps (c.groups_at p ca gs) ((c.groups_body gs).steps (c.groups_at p ca gs) (c.groups_end p ca gs) cont)
        → (b : Bool) → some_case z gs ≡ b
        → Leading (cond b (here (c.place_of (st.has_case z) (c.groups_at p ca gs) gs) q)
        (asking (p + ca.size + c.case_count gs) v q)) (and_then (rest z q) (go end brk cont catch))
    with_number p end brk cont catch v z q he g1 g2 g3 true e =
        entered (here (c.place_of (st.has_case z) (c.groups_at p ca gs) gs) q) end brk cont catch
        (st.or_default (st.from_group (st.has_case z) ls) ls) q
        (subst (λ (ws : List Labelled). Leading (here (c.place_of (st.has_case z) (c.groups_at p ca gs) gs) q)
        (and_then (st.in_order (st.acts ws) None q) (go end end cont catch))) (sym (some_passes z ls groups e))
        (from_first (st.has_case z) groups (c.groups_at p ca gs) end end cont catch q he
        (subst (λ x. Stands fn.steps (c.groups_at p ca gs) ((c.groups_body gs).steps (c.groups_at p ca gs) x cont)) he g3)))
    with_number p end brk cont catch v z q he g1 g2 g3 false e =
        leads_by ir rs _ _ _ (dropped p brk cont catch v q g1 g2)
        (entered (here (c.place_of st.has_default (c.groups_at p ca gs) gs) q) end brk cont catch
        (st.or_default (st.from_group (st.has_case z) ls) ls) q
        (subst (λ (ws : List Labelled). Leading (here (c.place_of st.has_default (c.groups_at p ca gs) gs) q)
        (and_then (st.in_order (st.acts (st.or_default ws ls)) None q) (go end end cont catch)))
        (sym (none_passes z groups e))
        (from_first st.has_default groups (c.groups_at p ca gs) end end cont catch q he
        (subst (λ x. Stands fn.steps (c.groups_at p ca gs) ((c.groups_body gs).steps (c.groups_at p ca gs) x cont)) he g3))))

    by_number : (p end brk cont catch : ℕ) (v : Value) (q : Run) → c.groups_end p ca gs ≡ end
        → Stands fn.steps (p + ca.size) (c.cases node t (c.groups_at p ca gs) gs)
        → slice_get fn.steps (p + ca.size + c.case_count gs) ≡ Some (at_node node (step.Drop 0))
        → slice_get fn.steps (p + ca.size + c.case_count gs + 1)
        ≡ Some (at_node node (step.Jump (c.place_of st.has_default (c.groups_at p ca gs) gs)))
        → Stands fn.steps (c.groups_at p ca gs) ((c.groups_body gs).steps (c.groups_at p ca gs) (c.groups_end p ca gs) cont)
        → (o : Result ℤ ℕ) → integer (numbered t v) ≡ o
        → Leading (asking (p + ca.size) v q) (and_then (and_then (given node o q) rest) (go end brk cont catch))
    by_number p end brk cont catch v q he h3 g1 g2 g3 (Ok z) e =
        leads_by ir rs _ _ _ (through_cases node t v z e gs (p + ca.size) (p + ca.size + c.case_count gs)
        (c.groups_at p ca gs) q refl h3)
        (with_number p end brk cont catch v z q he g1 g2 g3 (some_case z gs) refl)
    by_number p end brk cont catch v q he h3 g1 g2 g3 (Err n) e
        = past_given ir rs {A = ⊥} node (Err n) (asking (p + ca.size) v q) (λ a. absurd a) q (λ a. absurd a)

    pub sim_switch : (a : Action Value) → d.Sim ir rs f fn is first below value a ca
        → SimStmt (a >>= λ v. given node (integer (numbered t v)) >>= λ z. st.in_order (st.selected z ls) None
        >>= λ w. pure (st.broken_out w)) (c.switch_body node t ca gs)
    sim_switch a sa = record {
      even = λ p brk cont. omega (
        arith,
        length-append (ca.steps p 0) (c.cases node t (c.groups_at p ca gs) gs
            ++ (at_node node (step.Drop 0) ∷ (at_node node (step.Jump (c.place_of st.has_default (c.groups_at p ca gs) gs))
            ∷ (c.groups_body gs).steps (c.groups_at p ca gs) (c.groups_end p ca gs) cont))),
        length-append (c.cases node t (c.groups_at p ca gs) gs)
            (at_node node (step.Drop 0) ∷ (at_node node (step.Jump (c.place_of st.has_default (c.groups_at p ca gs) gs))
            ∷ (c.groups_body gs).steps (c.groups_at p ca gs) (c.groups_end p ca gs) cont)),
        sa.even p 0,
        case_steps node t (c.groups_at p ca gs) gs,
        groups_even groups (c.groups_at p ca gs) (c.groups_end p ca gs) cont,
      );
      leads = λ p end brk cont catch r he h.
          let h1 = stands_front fn.steps p (ca.steps p 0) _ h in
          let h2 = stands_back fn.steps p (p + ca.size) (ca.steps p 0) _ (ap (λ n. p + n) (sa.even p 0)) h in
          let h3 = stands_front fn.steps (p + ca.size) (c.cases node t (c.groups_at p ca gs) gs) _ h2 in
          let h4 = stands_back fn.steps (p + ca.size) (p + ca.size + c.case_count gs)
          (c.cases node t (c.groups_at p ca gs) gs) _
          (ap (λ n. p + ca.size + n) (case_steps node t (c.groups_at p ca gs) gs)) h2 in
          let he2 : c.groups_end p ca gs ≡ end = omega (arith, he) in
          leads_by ir rs _ _ _ (sa.does p 0 (p + ca.size) [] r refl refl h1)
          (chain ir rs (a r) _ (go end brk cont catch) (λ v. asking (p + ca.size) v)
          (λ v q. by_number p end brk cont catch v q he2 h3 h4.0 h4.1.0 h4.1.1 (integer (numbered t v)) refl));
    }

-- Where steps and functions stand among the items of all functions.
use Rattle.std.proofs.Common.{◌≡◌, ℕ, zero, suc, ◌+◌, ◌<◌, refl, sym, ap, ◌∙◌, subst, arith, List, [], ◌∷◌, ◌++◌, length, append_assoc, Some, None}
use Rattle.std.specs.Prelude.{slice_get}
use Rattle.asm430.specs.declared.item.Item.{Item}
use Rattle.asm430.specs.declared.item.Item.TheVariants.{Label}
use Rattle.asm430.specs.Instructions.{LabelsIn}
use Rattle.asm430.proofs.Laying.{labels_append, labels_wider}
use Rattle.ir.specs.declared.form.Ir.{Ir}
use Rattle.ir.specs.declared.form.IrFunction.{IrFunction}
use Rattle.ir.specs.declared.form.Step.{Step}
use Rattle.select430.specs.Labels.{function_label, step_label, inner_label, step_end}
use Rattle.select430.specs.Code.{code_of_step}
use Rattle.select430.specs.Items.{items_of, block, steps_items, function_items, functions_items}
use Rattle.select430.proofs.Resolving.{parts_labels}

module _ (ir : Ir) where
  -- ---- steps of one function

  pub block_labels : (fn : IrFunction) (g p : ℕ) (s : Step) → LabelsIn (step_label g p) (step_end g p) (block ir fn g p s)
  block_labels fn g p s = (
    (omega arith, omega arith),
    labels_wider (inner_label g p) (step_label g p) (step_end g p) (step_end g p) (items_of ir fn g p s.kind) (omega arith) (omega arith) (parts_labels g p (code_of_step ir fn s.kind)),
  )

  pub steps_labels : (fn : IrFunction) (g q : ℕ) (ss : List Step) → LabelsIn (step_label g q) (step_label g (q + length ss)) (steps_items ir fn g q ss)
  steps_labels fn g q [] = tt
  steps_labels fn g q (s ∷ ss) =
      labels_append (step_label g q) (step_label g (q + suc (length ss))) (block ir fn g q s) (steps_items ir fn g (suc q) ss)
      (labels_wider (step_label g q) (step_label g q) (step_end g q) (step_label g (q + suc (length ss))) (block ir fn g q s) (omega arith) (omega arith) (block_labels fn g q s))
      (labels_wider (step_label g (suc q)) (step_label g q) (step_label g (suc q + length ss)) (step_label g (q + suc (length ss))) (steps_items ir fn g (suc q) ss) (omega arith) (omega arith) (steps_labels fn g (suc q) ss))

  -- items begin with a label, and those behind it have greater ones, below a limit
  pub record Begins (l hi : ℕ) (items : List Item) : Type 0 where
    pub rest : List Item
    pub is : items ≡ Label l ∷ rest
    pub behind : LabelsIn (l + 1) hi rest

  -- a step of a list of steps that begin at the place q: n steps are before it, and r is its place
  pub record InSteps (fn : IrFunction) (g q : ℕ) (ss : List Step) (n r : ℕ) (s : Step) : Type 0 where
    pub pre : List Item
    pub post : List Item
    pub is : steps_items ir fn g q ss ≡ pre ++ (Label (step_label g r) ∷ (items_of ir fn g r s.kind ++ post))
    pub before : LabelsIn (step_label g q) (step_label g r) pre
    pub behind : LabelsIn (step_end g r) (step_label g (q + length ss)) post
    pub next : (t : Step) → slice_get ss (suc n) ≡ Some t → Begins (step_label g (suc r)) (step_label g (q + length ss)) post
    pub first : n ≡ 0 → pre ≡ []

  no_step : (t : Step) → None ≡ Some t → ⊥
  no_step t e = cc

  here : (fn : IrFunction) (g q : ℕ) (s : Step) (ss : List Step) → InSteps fn g q (s ∷ ss) 0 q s
  here fn g q s ss = record {
    pre = [];
    post = steps_items ir fn g (suc q) ss;
    is = refl;
    before = tt;
    behind = labels_wider (step_label g (suc q)) (step_end g q) (step_label g (suc q + length ss)) (step_label g (q + suc (length ss))) (steps_items ir fn g (suc q) ss) (omega arith) (omega arith) (steps_labels fn g (suc q) ss);
    next = λ t e. behind_of ss t e;
    first = λ e. refl;
  }
    where
      behind_of : (rest : List Step) (t : Step) → slice_get rest 0 ≡ Some t → Begins (step_label g (suc q)) (step_label g (q + suc (length rest))) (steps_items ir fn g (suc q) rest)
      behind_of [] t e = absurd (no_step t e)
      behind_of (u ∷ us) t e =
          let hi : ℕ = step_label g (q + suc (suc (length us))) in
          record {
            rest = items_of ir fn g (suc q) u.kind ++ steps_items ir fn g (suc (suc q)) us;
            is = refl;
            behind = labels_append (inner_label g (suc q)) hi (items_of ir fn g (suc q) u.kind) (steps_items ir fn g (suc (suc q)) us)
                (labels_wider (inner_label g (suc q)) (inner_label g (suc q)) (step_end g (suc q)) hi (items_of ir fn g (suc q) u.kind) (omega arith) (omega arith) (parts_labels g (suc q) (code_of_step ir fn u.kind)))
                (labels_wider (step_label g (suc (suc q))) (inner_label g (suc q)) (step_label g (suc (suc q) + length us)) hi (steps_items ir fn g (suc (suc q)) us) (omega arith) (omega arith) (steps_labels fn g (suc (suc q)) us));
          }

  further : (fn : IrFunction) (g q : ℕ) (s0 : Step) (ss : List Step) (n r : ℕ) (s : Step) → r ≡ suc q + n → InSteps fn g (suc q) ss n r s → InSteps fn g q (s0 ∷ ss) (suc n) r s
  further fn g q s0 ss n r s e h = record {
    pre = block ir fn g q s0 ++ h.pre;
    post = h.post;
    is = ap (λ (k : List Item). block ir fn g q s0 ++ k) h.is ∙ sym (append_assoc (block ir fn g q s0) h.pre (Label (step_label g r) ∷ (items_of ir fn g r s.kind ++ h.post)));
    before = labels_append (step_label g q) (step_label g r) (block ir fn g q s0) h.pre
        (labels_wider (step_label g q) (step_label g q) (step_end g q) (step_label g r) (block ir fn g q s0) (omega arith) (omega arith) (block_labels fn g q s0))
        (labels_wider (step_label g (suc q)) (step_label g q) (step_label g r) (step_label g r) h.pre (omega arith) (omega arith) h.before);
    behind = labels_wider (step_end g r) (step_end g r) (step_label g (suc q + length ss)) (step_label g (q + suc (length ss))) h.post (omega arith) (omega arith) h.behind;
    next = λ t j. let b = h.next t j in record { rest = b.rest; is = b.is; behind = labels_wider (step_label g (suc r) + 1) (step_label g (suc r) + 1) (step_label g (suc q + length ss)) (step_label g (q + suc (length ss))) b.rest (omega arith) (omega arith) b.behind };
    first = λ z. absurd (omega arith);
  }

  pub in_steps : (fn : IrFunction) (g q : ℕ) (ss : List Step) (n r : ℕ) (s : Step) → r ≡ q + n → slice_get ss n ≡ Some s → InSteps fn g q ss n r s
  in_steps fn g q [] n r s e get = absurd (no_step s get)
  in_steps fn g q (x ∷ ss) zero r s e get =
      let same : x ≡ s = cc in
      let place : q ≡ r = omega arith in
      subst (λ (y : Step). InSteps fn g q (x ∷ ss) 0 r y) same (subst (λ (k : ℕ). InSteps fn g q (x ∷ ss) 0 k x) place (here fn g q x ss))
  in_steps fn g q (x ∷ ss) (suc n) r s e get =
      let at : r ≡ suc q + n = omega arith in
      further fn g q x ss n r s at (in_steps fn g (suc q) ss n r s at get)

  -- ---- functions

  pub function_labels_in : (g : ℕ) (fn : IrFunction) → length fn.steps < 4294967296 → LabelsIn (function_label g) (function_label (suc g)) (function_items ir g fn)
  function_labels_in g fn few = (
    (omega arith, omega arith),
    labels_wider (step_label g 0) (function_label g) (step_label g (0 + length fn.steps)) (function_label (suc g)) (steps_items ir fn g 0 fn.steps) (omega arith) (omega arith) (steps_labels fn g 0 fn.steps),
  )

  abbrev pub AreShort : List IrFunction → Type 0
  AreShort fns = (n : ℕ) (fn : IrFunction) → slice_get fns n ≡ Some fn → length fn.steps < 4294967296

  pub functions_labels : (g : ℕ) (fns : List IrFunction) → AreShort fns → LabelsIn (function_label g) (function_label (g + length fns)) (functions_items ir g fns)
  functions_labels g [] h = tt
  functions_labels g (fn ∷ fns) h =
      labels_append (function_label g) (function_label (g + suc (length fns))) (function_items ir g fn) (functions_items ir (suc g) fns)
      (labels_wider (function_label g) (function_label g) (function_label (suc g)) (function_label (g + suc (length fns))) (function_items ir g fn) (omega arith) (omega arith) (function_labels_in g fn (h 0 fn refl)))
      (labels_wider (function_label (suc g)) (function_label g) (function_label (suc g + length fns)) (function_label (g + suc (length fns))) (functions_items ir (suc g) fns) (omega arith) (omega arith) (functions_labels (suc g) fns (λ n. h (suc n))))

  pub record InFunctions (f : ℕ) (fns : List IrFunction) (r : ℕ) (fn : IrFunction) : Type 0 where
    pub pre : List Item
    pub post : List Item
    pub is : functions_items ir f fns ≡ pre ++ (function_items ir r fn ++ post)
    pub before : LabelsIn (function_label f) (function_label r) pre
    pub behind : LabelsIn (function_label (suc r)) (function_label (f + length fns)) post
    pub low : r < f + length fns

  no_function : (fn : IrFunction) → None ≡ Some fn → ⊥
  no_function fn e = cc

  pub in_functions : (f : ℕ) (fns : List IrFunction) → AreShort fns → (n r : ℕ) (fn : IrFunction) → r ≡ f + n → slice_get fns n ≡ Some fn → InFunctions f fns r fn
  in_functions f [] short n r fn e get = absurd (no_function fn get)
  in_functions f (x ∷ fns) short zero r fn e get =
      let same : x ≡ fn = cc in
      let place : f ≡ r = omega arith in
      subst (λ (y : IrFunction). InFunctions f (x ∷ fns) r y) same (subst (λ (k : ℕ). InFunctions f (x ∷ fns) k x) place (record {
        pre = [];
        post = functions_items ir (suc f) fns;
        is = refl;
        before = tt;
        behind = labels_wider (function_label (suc f)) (function_label (suc f)) (function_label (suc f + length fns)) (function_label (f + suc (length fns))) (functions_items ir (suc f) fns) (omega arith) (omega arith) (functions_labels (suc f) fns (λ n. short (suc n)));
        low = omega arith;
      }))
  in_functions f (x ∷ fns) short (suc n) r fn e get =
      let at : r ≡ suc f + n = omega arith in
      let h = in_functions (suc f) fns (λ k. short (suc k)) n r fn at get in
      let low = h.low in
      record {
        pre = function_items ir f x ++ h.pre;
        post = h.post;
        is = ap (λ (k : List Item). function_items ir f x ++ k) h.is ∙ sym (append_assoc (function_items ir f x) h.pre (function_items ir r fn ++ h.post));
        before = labels_append (function_label f) (function_label r) (function_items ir f x) h.pre
            (labels_wider (function_label f) (function_label f) (function_label (suc f)) (function_label r) (function_items ir f x) (omega arith) (omega arith) (function_labels_in f x (short 0 x refl)))
            (labels_wider (function_label (suc f)) (function_label f) (function_label r) (function_label r) h.pre (omega arith) (omega arith) h.before);
        behind = labels_wider (function_label (suc r)) (function_label (suc r)) (function_label (suc f + length fns)) (function_label (f + suc (length fns))) h.post (omega arith) (omega arith) h.behind;
        low = omega arith;
      }

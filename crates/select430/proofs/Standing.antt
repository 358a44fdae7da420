-- The code of each step stands where its label says.
use Rattle.std.proofs.Common.{◌≡◌, ℕ, zero, suc, ◌+◌, ◌*◌, ◌<◌, ◌≤◌, sym, ap, ◌∙◌, subst, arith, List, [], ◌∷◌, ◌++◌, length, append_assoc, Some, None}
use Rattle.std.specs.Prelude.{slice_get, IsTrue}
use Rattle.isa430.specs.declared.instr.Instr.{Instr}
use Rattle.run430.specs.Code.{Placed}
use Rattle.asm430.specs.declared.item.Item.{Item}
use Rattle.asm430.specs.declared.item.Item.TheVariants.{Label}
use Rattle.asm430.specs.Assembly.{words_in, place_of, address}
use Rattle.asm430.specs.Instructions.{LabelsIn, instrs_from, are_code}
use Rattle.asm430.proofs.Labels.{words_append}
use Rattle.asm430.proofs.Laying.{labels_append, labels_wider, label_place}
use Rattle.placed430.specs.Assembled.{address_of, end_of, size_of_code}
use Rattle.ir.specs.declared.form.Ir.{Ir}
use Rattle.ir.specs.declared.form.IrFunction.{IrFunction}
use Rattle.ir.specs.declared.form.Step.{Step}
use Rattle.select430.specs.Labels.{function_label, step_label, inner_label, step_end, first_helper_label}
use Rattle.select430.specs.Parts.{parts_code}
use Rattle.select430.specs.Code.{code_of_step}
use Rattle.select430.specs.Items.{items_of, function_items, functions_items}
use Rattle.select430.specs.Laying.{all_items, LeavesLabels, addresses, Stands}
use Rattle.select430.proofs.Fitting.{step_fits}
use Rattle.select430.proofs.Resolving.{parts_are_code, parts_labels, among}
use Rattle.select430.proofs.Places.{Begins, in_steps, in_functions}

-- lists inside lists
nested : (front fs back p f q l m i n : List Item) → fs ≡ p ++ (f ++ q) → f ≡ l ++ (m ++ (i ++ n)) → front ++ (fs ++ back) ≡ (front ++ p) ++ (l ++ (m ++ (i ++ (n ++ (q ++ back)))))
nested front fs back p f q l m i n e d =
    ap (λ (k : List Item). front ++ (k ++ back)) e
    ∙ ap (λ (k : List Item). front ++ k) (append_assoc p (f ++ q) back)
    ∙ ap (λ (k : List Item). front ++ (p ++ k)) (append_assoc f q back)
    ∙ ap (λ (k : List Item). front ++ (p ++ (k ++ (q ++ back)))) d
    ∙ ap (λ (k : List Item). front ++ (p ++ k)) (append_assoc l (m ++ (i ++ n)) (q ++ back))
    ∙ ap (λ (k : List Item). front ++ (p ++ (l ++ k))) (append_assoc m (i ++ n) (q ++ back))
    ∙ ap (λ (k : List Item). front ++ (p ++ (l ++ (m ++ k)))) (append_assoc i n (q ++ back))
    ∙ sym (append_assoc front p (l ++ (m ++ (i ++ (n ++ (q ++ back))))))

module _ (ir : Ir) (front back : List Item) (top : ℕ) (leaves : LeavesLabels ir front back top) where
  abbrev all : List Item
  all = all_items ir front back

  -- a step among all items: what is before its function, the steps before it, and what is behind it
  record Found (g : ℕ) (fn : IrFunction) (p : ℕ) (s : Step) : Type 0 where
    pre : List Item
    mid : List Item
    post : List Item
    is : all ≡ pre ++ (Label (function_label g) ∷ (mid ++ (Label (step_label g p) ∷ (items_of ir fn g p s.kind ++ post))))
    before : LabelsIn 0 (function_label g) pre
    between : LabelsIn (step_label g 0) (step_label g p) mid
    behind : LabelsIn (step_end g p) top post
    next : (t : Step) → slice_get fn.steps (suc p) ≡ Some t → Begins ir (step_label g (suc p)) top post
    first : p ≡ 0 → mid ≡ []
    bound : step_end g p ≤ top
    further : (t : Step) → slice_get fn.steps (suc p) ≡ Some t → step_label g (suc p) + 1 ≤ top

  found : (g : ℕ) (fn : IrFunction) (p : ℕ) (s : Step) → slice_get ir.functions g ≡ Some fn → slice_get fn.steps p ≡ Some s → Found g fn p s
  found g fn p s eg ep =
      let f = in_functions ir 0 ir.functions leaves.steps g g fn (omega arith) eg in
      let h = in_steps ir fn g 0 fn.steps p p s (omega arith) ep in
      let few = leaves.functions in
      let short = leaves.steps g fn eg in
      let up = leaves.room in
      let low = f.low in
      let rest : LabelsIn (function_label (suc g)) top (f.post ++ back) =
      labels_append (function_label (suc g)) top f.post back
      (labels_wider (function_label (suc g)) (function_label (suc g)) (function_label (0 + length ir.functions)) top f.post (omega arith) (omega arith) f.behind)
      (labels_wider first_helper_label (function_label (suc g)) top top back (omega arith) (omega arith) leaves.behind) in
      record {
        pre = front ++ f.pre;
        mid = h.pre;
        post = h.post ++ (f.post ++ back);
        is = nested front (functions_items ir 0 ir.functions) back f.pre (function_items ir g fn) f.post (Label (function_label g) ∷ []) h.pre (Label (step_label g p) ∷ items_of ir fn g p s.kind) h.post f.is (ap (λ (k : List Item). Label (function_label g) ∷ k) h.is);
        before = labels_append 0 (function_label g) front f.pre (labels_wider 0 0 0 (function_label g) front (omega arith) (omega arith) leaves.before) (labels_wider (function_label 0) 0 (function_label g) (function_label g) f.pre (omega arith) (omega arith) f.before);
        between = h.before;
        behind = labels_append (step_end g p) top h.post (f.post ++ back)
            (labels_wider (step_end g p) (step_end g p) (step_label g (0 + length fn.steps)) top h.post (omega arith) (omega arith) h.behind)
            (labels_wider (function_label (suc g)) (step_end g p) top top (f.post ++ back) (reach p fn.steps s ep short) (omega arith) rest);
        next = λ t e.
            let b = h.next t e in
            record {
              rest = b.rest ++ (f.post ++ back);
              is = ap (λ (k : List Item). k ++ (f.post ++ back)) b.is;
              behind = labels_append (step_label g (suc p) + 1) top b.rest (f.post ++ back)
                  (labels_wider (step_label g (suc p) + 1) (step_label g (suc p) + 1) (step_label g (0 + length fn.steps)) top b.rest (omega arith) (omega arith) b.behind)
                  (labels_wider (function_label (suc g)) (step_label g (suc p) + 1) top top (f.post ++ back) (further p fn.steps t e short) (omega arith) rest);
            };
        first = h.first;
        bound = let r = reach p fn.steps s ep short in omega arith;
        further = λ t e. let r = further p fn.steps t e short in omega arith;
      }
    where
      no : (x : Step) → None ≡ Some x → ⊥
      no x e = cc

      inside : (n : ℕ) (ss : List Step) (x : Step) → slice_get ss n ≡ Some x → n < length ss
      inside n [] x e = absurd (no x e)
      inside zero (y ∷ ss) x e = omega arith
      inside (suc n) (y ∷ ss) x e = let h = inside n ss x e in omega arith

      reach : (n : ℕ) (ss : List Step) (x : Step) → slice_get ss n ≡ Some x → length ss < 4294967296 → step_end g n ≤ function_label (suc g)
      reach n ss x e short = let h = inside n ss x e in omega arith

      further : (n : ℕ) (ss : List Step) (x : Step) → slice_get ss (suc n) ≡ Some x → length ss < 4294967296 → step_label g (suc n) + 1 ≤ function_label (suc g)
      further n ss x e short = let h = inside (suc n) ss x e in omega arith

  -- what the assembler's items are in memory
  abbrev pub IsPlaced : (ℕ → ℕ) → Type 0
  IsPlaced m = (front part back : List Item) → all ≡ front ++ (part ++ back) → IsTrue (are_code part) → Placed m 0x8000 (end_of all) (address_of front) (instrs_from all (words_in front) part)

  abbrev pub IsSized : Type 0
  IsSized = (start : ℕ) (part : List Item) → IsTrue (are_code part) → size_of_code (instrs_from all start part) ≡ 2 * words_in part

  module _ (g : ℕ) (fn : IrFunction) (p : ℕ) (s : Step) (f : Found g fn p s) where
    abbrev own : List Item
    own = items_of ir fn g p s.kind

    -- what is before the step's label
    abbrev ahead : List Item
    ahead = f.pre ++ (Label (function_label g) ∷ f.mid)

    cut : all ≡ ahead ++ (Label (step_label g p) ∷ (own ++ f.post))
    cut = f.is ∙ sym (append_assoc f.pre (Label (function_label g) ∷ f.mid) (Label (step_label g p) ∷ (own ++ f.post)))

    ahead_labels : LabelsIn 0 (step_label g p) ahead
    ahead_labels =
        labels_append 0 (step_label g p) f.pre (Label (function_label g) ∷ f.mid)
        (labels_wider 0 0 (function_label g) (step_label g p) f.pre (omega arith) (omega arith) f.before)
        ((omega arith, omega arith), labels_wider (step_label g 0) 0 (step_label g p) (step_label g p) f.mid (omega arith) (omega arith) f.between)

    own_labels : LabelsIn (inner_label g p) (step_end g p) own
    own_labels = parts_labels g p (code_of_step ir fn s.kind)

    back_labels : LabelsIn (inner_label g p) top (own ++ f.post)
    back_labels =
        let b = f.bound in
        labels_append (inner_label g p) top own f.post
        (labels_wider (inner_label g p) (inner_label g p) (step_end g p) top own (omega arith) b own_labels)
        (labels_wider (step_end g p) (inner_label g p) top top f.post (omega arith) (omega arith) f.behind)

    step_place : place_of all (step_label g p) ≡ Some (words_in ahead)
    step_place =
        ap (λ (k : List Item). place_of k (step_label g p)) cut
        ∙ label_place (step_label g p) 0 (step_label g p) (inner_label g p) top ahead (own ++ f.post) ahead_labels back_labels (omega arith) (omega arith)

    function_place : place_of all (function_label g) ≡ Some (words_in f.pre)
    function_place =
        let b = f.bound in
        let lo : ℕ = function_label g + 1 in
        ap (λ (k : List Item). place_of k (function_label g)) f.is
        ∙ label_place (function_label g) 0 (function_label g) lo top f.pre (f.mid ++ (Label (step_label g p) ∷ (own ++ f.post))) f.before
        (labels_append lo top f.mid (Label (step_label g p) ∷ (own ++ f.post))
        (labels_wider (step_label g 0) lo (step_label g p) top f.mid (omega arith) (omega arith) f.between)
        ((omega arith, omega arith), labels_wider (inner_label g p) lo top top (own ++ f.post) (omega arith) (omega arith) back_labels))
        (omega arith) (omega arith)

    -- ---- its instructions

    abbrev upto : List Item
    upto = ahead ++ (Label (step_label g p) ∷ [])

    cut_code : all ≡ upto ++ (own ++ f.post)
    cut_code = cut ∙ sym (append_assoc ahead (Label (step_label g p) ∷ []) (own ++ f.post))

    upto_long : words_in upto ≡ words_in ahead
    upto_long = let w = words_append ahead (Label (step_label g p) ∷ []) in omega arith

    instructions : instrs_from all (words_in upto) own ≡ parts_code (addresses all g) (code_of_step ir fn s.kind)
    instructions =
        subst (λ (k : List Item). instrs_from k (words_in upto) own ≡ parts_code (addresses k g) (code_of_step ir fn s.kind)) (sym cut_code)
        (among upto f.post g p top (code_of_step ir fn s.kind) (step_fits ir fn s.kind).skip
        (labels_append 0 (inner_label g p) ahead (Label (step_label g p) ∷ [])
        (labels_wider 0 0 (step_label g p) (inner_label g p) ahead (omega arith) (omega arith) ahead_labels) ((omega arith, omega arith), tt))
        f.behind)

    at_step : address_of upto ≡ (addresses all g).step p
    at_step = ap (λ (n : ℕ). 0x8000 + 2 * n) upto_long ∙ sym (ap address step_place)

    -- ---- the next step

    -- the bytes of its instructions, once they are those of its items
    next_place : (t : Step) → slice_get fn.steps (suc p) ≡ Some t → place_of all (step_label g (suc p)) ≡ Some (words_in ahead + words_in own)
    next_place t e =
        let b = f.next t e in
        let r = f.further t e in
        let long : words_in (upto ++ own) ≡ words_in ahead + words_in own = words_append upto own ∙ ap (λ (n : ℕ). n + words_in own) upto_long in
        let here : all ≡ (upto ++ own) ++ (Label (step_label g (suc p)) ∷ b.rest) = cut_code ∙ ap (λ (k : List Item). upto ++ (own ++ k)) b.is ∙ sym (append_assoc upto own (Label (step_label g (suc p)) ∷ b.rest)) in
        ap (λ (k : List Item). place_of k (step_label g (suc p))) here
        ∙ label_place (step_label g (suc p)) 0 (step_label g (suc p)) (step_label g (suc p) + 1) top (upto ++ own) b.rest
        (labels_append 0 (step_label g (suc p)) upto own
        (labels_append 0 (step_label g (suc p)) ahead (Label (step_label g p) ∷ [])
        (labels_wider 0 0 (step_label g p) (step_label g (suc p)) ahead (omega arith) (omega arith) ahead_labels) ((omega arith, omega arith), tt))
        (labels_wider (inner_label g p) 0 (step_end g p) (step_label g (suc p)) own (omega arith) (omega arith) own_labels))
        b.behind (omega arith) (omega arith)
        ∙ ap Some long

    stands_so : (m : ℕ → ℕ) → IsPlaced m → IsSized → Stands ir all m g fn p s
    stands_so m placed sized =
        let code = parts_are_code g p (code_of_step ir fn s.kind) in
        let size : size_of_code (parts_code (addresses all g) (code_of_step ir fn s.kind)) ≡ 2 * words_in own = ap size_of_code (sym instructions) ∙ sized (words_in upto) own code in
        record {
          code = subst (λ (a : ℕ). Placed m 0x8000 (end_of all) a (parts_code (addresses all g) (code_of_step ir fn s.kind))) at_step
              (subst (λ (is : List Instr). Placed m 0x8000 (end_of all) (address_of upto) is) instructions (placed upto own f.post cut_code code));
          next = λ t e.
              let there : (addresses all g).step (suc p) ≡ 0x8000 + 2 * (words_in ahead + words_in own) = ap address (next_place t e) in
              let here : (addresses all g).step p ≡ 0x8000 + 2 * words_in ahead = ap address step_place in
              omega arith;
          first = λ z.
              let none = f.first z in
              let long : words_in ahead ≡ words_in f.pre = words_append f.pre (Label (function_label g) ∷ f.mid) ∙ ap (λ (k : List Item). words_in f.pre + (0 + words_in k)) none ∙ (let e : words_in f.pre + (0 + 0) ≡ words_in f.pre = omega arith in e) in
              ap address (function_place ∙ ap Some (sym long) ∙ sym step_place);
        }

  pub stands : (g : ℕ) (fn : IrFunction) (p : ℕ) (s : Step) → slice_get ir.functions g ≡ Some fn → slice_get fn.steps p ≡ Some s → (m : ℕ → ℕ) → IsPlaced m → IsSized → Stands ir all m g fn p s
  stands g fn p s eg ep m placed sized = stands_so g fn p s (found g fn p s eg ep) m placed sized

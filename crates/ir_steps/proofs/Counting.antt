-- Stamps, counted variable by variable.
use Rattle.std.proofs.Common.{◌≡◌, ℕ, suc, ◌+◌, ◌-◌, ◌<◌, ◌≤◌, nat_eq, cond, List, ◌∷◌, drop, length, get_or, arith, ap, sym, ◌∙◌, add-one, drop-cons}
use Rattle.std.proofs.lemmas.List.{drop_all}
use Rattle.core_tree.specs.declared.types.Slot.{Slot}
use Rattle.ir.specs.declared.form.IrGlobal.{IrGlobal}
use Rattle.ir.specs.Machine.{stamps_of, place_in, stamp_in}

pub place_turn : (offset : ℕ) (ss : List Slot) (i : ℕ) (s : Slot) → i < length ss → s ≡ get_or ss i s
    → place_in offset (drop i ss) ≡ cond (nat_eq s.offset offset) 0 (place_in offset (drop (i + 1) ss) + 1)
place_turn offset ss i s h is =
    let cut : drop i ss ≡ s ∷ drop (i + 1) ss =
    rw (add-one) (drop-cons ss i s h) ∙ ap (λ (x : Slot). x ∷ drop (i + 1) ss) (sym is) in
    ap (place_in offset) cut

pub place_end : (offset : ℕ) (ss : List Slot) (i : ℕ) → length ss ≤ i → place_in offset (drop i ss) ≡ 0
place_end offset ss i h = ap (place_in offset) (drop_all i ss h)

cut_at : (gs : List IrGlobal) (i : ℕ) (g : IrGlobal) → i < length gs → g ≡ get_or gs i g → drop i gs ≡ g ∷ drop (i + 1) gs
cut_at gs i g h is = rw (add-one) (drop-cons gs i g h) ∙ ap (λ (x : IrGlobal). x ∷ drop (i + 1) gs) (sym is)

pub stamp_here : (before : ℕ) (gs : List IrGlobal) (i number offset : ℕ) (g : IrGlobal) → i < length gs → g ≡ get_or gs i g
    → i ≡ number
    → stamp_in before (drop i gs) (number - i) offset ≡ before + place_in offset g.scalars
stamp_here before gs i number offset g h is same =
    let none : number - i ≡ 0 = omega arith in
    ap (λ (xs : List IrGlobal). stamp_in before xs (number - i) offset) (cut_at gs i g h is)
    ∙ ap (λ (n : ℕ). stamp_in before (g ∷ drop (i + 1) gs) n offset) none

pub stamp_later : (before : ℕ) (gs : List IrGlobal) (i number offset : ℕ) (g : IrGlobal) → i < length gs → g ≡ get_or gs i g
    → i < number
    → stamp_in before (drop i gs) (number - i) offset
    ≡ stamp_in (before + stamps_of g) (drop (i + 1) gs) (number - (i + 1)) offset
stamp_later before gs i number offset g h is less =
    let more : number - i ≡ suc (number - (i + 1)) = omega arith in
    ap (λ (xs : List IrGlobal). stamp_in before xs (number - i) offset) (cut_at gs i g h is)
    ∙ ap (λ (n : ℕ). stamp_in before (g ∷ drop (i + 1) gs) n offset) more

pub stamp_end : (before : ℕ) (gs : List IrGlobal) (i number offset : ℕ) → length gs ≤ i
    → stamp_in before (drop i gs) (number - i) offset ≡ 0
stamp_end before gs i number offset h = ap (λ (xs : List IrGlobal). stamp_in before xs (number - i) offset) (drop_all i gs h)

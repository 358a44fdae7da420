-- Stamps, counted variable by variable.
use Rattle.std.proofs.Common.{◌≡◌, ℕ, suc, ◌+◌, ◌-◌, ◌<◌, ◌≤◌, nat_eq, cond, List, ◌∷◌, drop, length, get_or, arith, ap, sym, ◌∙◌, add-one, drop-cons}
use Rattle.std.proofs.lemmas.List.{drop_all}
use Rattle.core_tree.specs.declared.types.Slot.{Slot}
use Rattle.core_tree.specs.declared.types.Struct.{Struct}
use Rattle.core_tree.specs.declared.program.Global.{Global}
use Rattle.c_meaning.specs.Stamps.{slots_of, stamps_of, place_in, lifetime_or, timed_in}

pub place_turn : (offset : ℕ) (ss : List Slot) (i : ℕ) (s : Slot) → i < length ss → s ≡ get_or ss i s
    → place_in offset (drop i ss) ≡ cond (nat_eq s.offset offset) 0 (place_in offset (drop (i + 1) ss) + 1)
place_turn offset ss i s h is =
    let cut : drop i ss ≡ s ∷ drop (i + 1) ss =
    rw (add-one) (drop-cons ss i s h) ∙ ap (λ (x : Slot). x ∷ drop (i + 1) ss) (sym is) in
    ap (place_in offset) cut

pub place_end : (offset : ℕ) (ss : List Slot) (i : ℕ) → length ss ≤ i → place_in offset (drop i ss) ≡ 0
place_end offset ss i h = ap (place_in offset) (drop_all i ss h)

cut_at : (gs : List Global) (i : ℕ) (g : Global) → i < length gs → g ≡ get_or gs i g → drop i gs ≡ g ∷ drop (i + 1) gs
cut_at gs i g h is = rw (add-one) (drop-cons gs i g h) ∙ ap (λ (x : Global). x ∷ drop (i + 1) gs) (sym is)

pub timed_here : (structs : List Struct) (before : ℕ) (gs : List Global) (i number offset : ℕ) (g : Global) → i < length gs → g ≡ get_or gs i g → i ≡ number
    → timed_in structs before (drop i gs) (number - i) offset
    ≡ record { stamp = before + place_in offset (slots_of structs g); lifetime = lifetime_or 0 g.lifetime }
timed_here structs before gs i number offset g h is same =
    let none : number - i ≡ 0 = omega arith in
    ap (λ (xs : List Global). timed_in structs before xs (number - i) offset) (cut_at gs i g h is)
    ∙ ap (λ (n : ℕ). timed_in structs before (g ∷ drop (i + 1) gs) n offset) none

pub timed_later : (structs : List Struct) (before : ℕ) (gs : List Global) (i number offset : ℕ) (g : Global) → i < length gs → g ≡ get_or gs i g → i < number
    → timed_in structs before (drop i gs) (number - i) offset
    ≡ timed_in structs (before + stamps_of structs g) (drop (i + 1) gs) (number - (i + 1)) offset
timed_later structs before gs i number offset g h is less =
    let more : number - i ≡ suc (number - (i + 1)) = omega arith in
    ap (λ (xs : List Global). timed_in structs before xs (number - i) offset) (cut_at gs i g h is)
    ∙ ap (λ (n : ℕ). timed_in structs before (g ∷ drop (i + 1) gs) n offset) more

pub timed_end : (structs : List Struct) (before : ℕ) (gs : List Global) (i number offset : ℕ) → length gs ≤ i
    → timed_in structs before (drop i gs) (number - i) offset ≡ record { stamp = before; lifetime = 0 }
timed_end structs before gs i number offset h =
    ap (λ (xs : List Global). timed_in structs before xs (number - i) offset) (drop_all i gs h)

-- What stands in the start state, one after the other.
use Rattle.std.proofs.Common.{◌≡◌, ℕ, zero, suc, ◌+◌, ◌-◌, ◌<◌, ◌≤◌, List, [], ◌∷◌, ◌++◌, length, get_or, drop, slice_get, Option, None, ap, sym, refl, ◌∙◌, arith, add-one, drop-cons, append_assoc}
use Rattle.std.proofs.Math.Seq.{drop-nil}
use Rattle.core_tree.specs.declared.types.Struct.{Struct}
use Rattle.core_tree.specs.declared.types.Slot.{Slot}
use Rattle.core_tree.specs.declared.program.Global.{Global}
use Rattle.core_tree.specs.declared.program.Initial.{Initial}
use Rattle.c_meaning.specs.After.{initial_cells, initial_objects, initial_stamps, no_stamps}
use Rattle.c_meaning.specs.Stamps.{slots_of, stamps_of}
use Rattle.c_start.specs.Starting.{initial_cell}

cells_alone : (ss : List Slot) (i : ℕ) (s : Slot) → i < length ss
    → initial_cells (drop i ss) [] ≡ initial_cell (get_or ss i s) None ∷ initial_cells (drop (suc i) ss) []
cells_alone [] i s h = absurd (omega arith)
cells_alone (x ∷ xs) zero s h = refl
cells_alone (x ∷ xs) (suc i) s h = cells_alone xs i s (omega arith)

cells_next : (ss : List Slot) (is : List Initial) (i : ℕ) (s : Slot) → i < length ss
    → initial_cells (drop i ss) (drop i is)
    ≡ initial_cell (get_or ss i s) (slice_get is i) ∷ initial_cells (drop (suc i) ss) (drop (suc i) is)
cells_next [] is i s h = absurd (omega arith)
cells_next (x ∷ xs) [] i s h = rw (drop-nil) (cells_alone (x ∷ xs) i s h)
cells_next (x ∷ xs) (j ∷ js) zero s h = refl
cells_next (x ∷ xs) (j ∷ js) (suc i) s h = cells_next xs js i s (omega arith)

pub cells_turn : (ss : List Slot) (is : List Initial) (i : ℕ) (s : Slot) → i < length ss
    → initial_cells (drop i ss) (drop i is)
    ≡ initial_cell (get_or ss i s) (slice_get is i) ∷ initial_cells (drop (i + 1) ss) (drop (i + 1) is)
cells_turn ss is i s h = rw (add-one) (cells_next ss is i s h)

pub globals_turn : (structs : List Struct) (gs : List Global) (i n : ℕ) (g : Global) → i < length gs → g ≡ get_or gs i g
    → initial_objects structs n (drop i gs)
    ≡ record { number = n; cells = initial_cells (slots_of structs g) g.init } ∷ initial_objects structs (n + 1) (drop (i + 1) gs)
globals_turn structs gs i n g h is =
    let cut : drop i gs ≡ get_or gs i g ∷ drop (i + 1) gs = rw (add-one) (drop-cons gs i g h) in
    ap (λ xs. initial_objects structs n xs) cut
    ∙ ap (λ (y : Global). record { number = n; cells = initial_cells (slots_of structs y) y.init }
    ∷ initial_objects structs (n + 1) (drop (i + 1) gs)) (sym is)

none_turn : (n i : ℕ) → i < n → no_stamps (n - i) ≡ None ∷ no_stamps (n - (i + 1))
none_turn n i h = let s : n - i ≡ suc (n - (i + 1)) = omega arith in ap no_stamps s

pub none_more : (all before now : List (Option ℕ)) (n i : ℕ)
    → all ≡ before ++ no_stamps (n - i) → i < n → now ≡ before ++ None ∷ []
    → all ≡ now ++ no_stamps (n - (i + 1))
none_more all before now n i e h more =
    e ∙ ap (λ ns. before ++ ns) (none_turn n i h)
    ∙ sym (append_assoc before (None ∷ []) (no_stamps (n - (i + 1))))
    ∙ ap (λ ns. ns ++ no_stamps (n - (i + 1))) (sym more)

pub none_end : (n i : ℕ) → n ≤ i → no_stamps (n - i) ≡ []
none_end n i h = let s : n - i ≡ 0 = omega arith in ap no_stamps s

pub stamps_turn : (structs : List Struct) (gs : List Global) (i : ℕ) (g : Global) → i < length gs → g ≡ get_or gs i g
    → initial_stamps structs (drop i gs) ≡ no_stamps (stamps_of structs g) ++ initial_stamps structs (drop (i + 1) gs)
stamps_turn structs gs i g h is =
    let cut : drop i gs ≡ get_or gs i g ∷ drop (i + 1) gs = rw (add-one) (drop-cons gs i g h) in
    ap (λ xs. initial_stamps structs xs) cut
    ∙ ap (λ (y : Global). no_stamps (stamps_of structs y) ++ initial_stamps structs (drop (i + 1) gs)) (sym is)

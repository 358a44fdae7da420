-- What stands in the start state, one after the other.
use Rattle.std.proofs.Common.{◌≡◌, ℕ, zero, suc, ◌+◌, ◌-◌, ◌<◌, ◌≤◌, List, [], ◌∷◌, ◌++◌, length, get_or, drop, slice_get, Option, None, ap, sym, refl, ◌∙◌, arith, add-one, drop-cons, append_assoc, map, subst}
use Rattle.std.specs.Prelude.{take}
use Rattle.std.proofs.lemmas.List.{drop_all}
use Rattle.std.proofs.Math.Seq.{drop-nil}
use Rattle.core_tree.specs.declared.types.Slot.{Slot}
use Rattle.c_values.specs.declared.value.Value.{Value}
use Rattle.base16.specs.declared.image.Kind.{Kind}
use Rattle.ir.specs.declared.form.IrGlobal.{IrGlobal}
use Rattle.ir.specs.declared.form.IrLocal.{IrLocal}
use Rattle.ir.specs.declared.form.IrFunction.{IrFunction}
use Rattle.ir.specs.Machine.{initial_cells, initial_objects, initial_stamps, no_stamps, stamps_of, first_kind, steps_in}
use Rattle.ir_run.specs.Starting.{initial_cell}

cells_alone : (ss : List Slot) (i : ℕ) (s : Slot) → i < length ss
    → initial_cells (drop i ss) [] ≡ initial_cell (get_or ss i s) None ∷ initial_cells (drop (suc i) ss) []
cells_alone [] i s h = absurd (omega arith)
cells_alone (x ∷ xs) zero s h = refl
cells_alone (x ∷ xs) (suc i) s h = cells_alone xs i s (omega arith)

cells_next : (ss : List Slot) (is : List Value) (i : ℕ) (s : Slot) → i < length ss
    → initial_cells (drop i ss) (drop i is)
    ≡ initial_cell (get_or ss i s) (slice_get is i) ∷ initial_cells (drop (suc i) ss) (drop (suc i) is)
cells_next [] is i s h = absurd (omega arith)
cells_next (x ∷ xs) [] i s h = rw (drop-nil) (cells_alone (x ∷ xs) i s h)
cells_next (x ∷ xs) (j ∷ js) zero s h = refl
cells_next (x ∷ xs) (j ∷ js) (suc i) s h = cells_next xs js i s (omega arith)

pub cells_turn : (ss : List Slot) (is : List Value) (i : ℕ) (s : Slot) → i < length ss
    → initial_cells (drop i ss) (drop i is)
    ≡ initial_cell (get_or ss i s) (slice_get is i) ∷ initial_cells (drop (i + 1) ss) (drop (i + 1) is)
cells_turn ss is i s h = rw (add-one) (cells_next ss is i s h)

pub globals_turn : (gs : List IrGlobal) (i n : ℕ) (g : IrGlobal) → i < length gs → g ≡ get_or gs i g
    → initial_objects n (drop i gs)
    ≡ record { number = n; cells = initial_cells g.scalars g.init } ∷ initial_objects (n + 1) (drop (i + 1) gs)
globals_turn gs i n g h is =
    let cut : drop i gs ≡ get_or gs i g ∷ drop (i + 1) gs = rw (add-one) (drop-cons gs i g h) in
    ap (λ xs. initial_objects n xs) cut
    ∙ ap (λ (y : IrGlobal). record { number = n; cells = initial_cells y.scalars y.init }
    ∷ initial_objects (n + 1) (drop (i + 1) gs)) (sym is)

none_turn : (n i : ℕ) → i < n → no_stamps (n - i) ≡ None ∷ no_stamps (n - (i + 1))
none_turn n i h = let s : n - i ≡ suc (n - (i + 1)) = omega arith in ap no_stamps s

pub none_more : (all before now : List (Option ℕ)) (n i : ℕ)
    → all ≡ before ++ no_stamps (n - i) → i < n → now ≡ before ++ None ∷ []
    → all ≡ now ++ no_stamps (n - (i + 1))
none_more all before now n i e h more =
    e ∙ ap (λ ns. before ++ ns) (none_turn n i h)
    ∙ sym (append_assoc before (None ∷ []) (no_stamps (n - (i + 1))))
    ∙ ap (λ ns. ns ++ no_stamps (n - (i + 1))) (sym more)

pub none_end : (n i : ℕ) → n ≤ i → no_stamps (n - i) ≡ []
none_end n i h = let s : n - i ≡ 0 = omega arith in ap no_stamps s

pub stamps_turn : (gs : List IrGlobal) (i : ℕ) (g : IrGlobal) → i < length gs → g ≡ get_or gs i g
    → initial_stamps (drop i gs) ≡ no_stamps (stamps_of g) ++ initial_stamps (drop (i + 1) gs)
stamps_turn gs i g h is =
    let cut : drop i gs ≡ get_or gs i g ∷ drop (i + 1) gs = rw (add-one) (drop-cons gs i g h) in
    ap (λ xs. initial_stamps xs) cut
    ∙ ap (λ (y : IrGlobal). no_stamps (stamps_of y) ++ initial_stamps (drop (i + 1) gs)) (sym is)

pub objects_turn : (ls : List IrLocal) (i : ℕ) (l : IrLocal) → i < length ls → l ≡ get_or ls i l
    → map (λ (x : IrLocal). x.scalars) (drop i ls) ≡ l.scalars ∷ map (λ (x : IrLocal). x.scalars) (drop (i + 1) ls)
objects_turn ls i l h is =
    let cut : drop i ls ≡ get_or ls i l ∷ drop (i + 1) ls = rw (add-one) (drop-cons ls i l h) in
    ap (λ xs. map (λ (x : IrLocal). x.scalars) xs) cut
    ∙ ap (λ (y : IrLocal). y.scalars ∷ map (λ (x : IrLocal). x.scalars) (drop (i + 1) ls)) (sym is)

abbrev pub kinds : List IrLocal → List Kind
kinds ls = map (λ (x : IrLocal). first_kind x.scalars) ls

pub kinds_turn : (ls : List IrLocal) (n i : ℕ) (l : IrLocal) → i < length ls → l ≡ get_or ls i l → i < n
    → kinds (take (n - i) (drop i ls)) ≡ first_kind l.scalars ∷ kinds (take (n - (i + 1)) (drop (i + 1) ls))
kinds_turn ls n i l h is less =
    let cut : drop i ls ≡ l ∷ drop (i + 1) ls = rw (add-one) (drop-cons ls i l h)
    ∙ ap (λ (x : IrLocal). x ∷ drop (i + 1) ls) (sym is) in
    let more : n - i ≡ suc (n - (i + 1)) = omega arith in
    ap (λ xs. kinds (take (n - i) xs)) cut ∙ ap (λ k. kinds (take k (l ∷ drop (i + 1) ls))) more

pub kinds_full : (xs : List IrLocal) (n i : ℕ) → n ≤ i → kinds (take (n - i) xs) ≡ []
kinds_full xs n i h = let none : n - i ≡ 0 = omega arith in ap (λ k. kinds (take k xs)) none

none_taken : (n : ℕ) → kinds (take n []) ≡ []
none_taken zero = refl
none_taken (suc n) = refl

pub kinds_end : (ls : List IrLocal) (n i : ℕ) → length ls ≤ i → kinds (take (n - i) (drop i ls)) ≡ []
kinds_end ls n i h = ap (λ (xs : List IrLocal). kinds (take (n - i) xs)) (drop_all i ls h) ∙ none_taken (n - i)

pub steps_turn : (fs : List IrFunction) (i : ℕ) (f : IrFunction) → i < length fs → f ≡ get_or fs i f
    → steps_in (drop i fs) ≡ length f.steps + steps_in (drop (i + 1) fs)
steps_turn fs i f h is =
    let cut : drop i fs ≡ get_or fs i f ∷ drop (i + 1) fs = rw (add-one) (drop-cons fs i f h) in
    ap steps_in cut ∙ ap (λ (y : IrFunction). length y.steps + steps_in (drop (i + 1) fs)) (sym is)

pub steps_end : (fs : List IrFunction) (i : ℕ) → length fs ≤ i → steps_in (drop i fs) ≡ 0
steps_end fs i h = ap steps_in (drop_all i fs h)

pub kinds_more : (all before now : List Kind) (ls xs : List IrLocal) (n i : ℕ) (l : IrLocal) (k : Kind)
    → all ≡ before ++ kinds (take (n - i) (drop i ls)) → xs ≡ ls → i < length xs → l ≡ get_or xs i l → i < n
    → k ≡ first_kind l.scalars → now ≡ before ++ k ∷ []
    → all ≡ now ++ kinds (take (n - (i + 1)) (drop (i + 1) ls))
kinds_more all before now ls xs n i l k e same h is less named more =
    let there : i < length ls = subst (λ (ys : List IrLocal). i < length ys) same h in
    let item : l ≡ get_or ls i l = subst (λ (ys : List IrLocal). l ≡ get_or ys i l) same is in
    e ∙ ap (λ ks. before ++ ks) (kinds_turn ls n i l there item less)
    ∙ ap (λ (x : Kind). before ++ (x ∷ kinds (take (n - (i + 1)) (drop (i + 1) ls)))) (sym named)
    ∙ sym (append_assoc before (k ∷ []) (kinds (take (n - (i + 1)) (drop (i + 1) ls))))
    ∙ ap (λ ks. ks ++ kinds (take (n - (i + 1)) (drop (i + 1) ls))) (sym more)

-- Scalars whose offsets rise: the one at an offset stands just behind those with lower offsets.
use Rattle.std.proofs.Common.{◌≡◌, ℕ, zero, suc, ◌+◌, ◌≤◌, ◌<◌, true, List, [], ◌∷◌, length, get_or, set, map, Option, Some, None, refl, arith, ap, sym, ◌∙◌}
use Rattle.std.proofs.lemmas.Bool.Decides.{nat_tests}
use Rattle.std.specs.Prelude.{nat_eq, nat_le, ◌&&◌, if◌then◌else◌}
use Rattle.c_values.specs.declared.value.Cell.{Cell}
use Rattle.c_values.specs.declared.value.Value.{Value}
use Rattle.c_values.specs.Objects.{find_cell, put_cell, cleared_cell}
use Rattle.c_values.specs.Ordered.{rises_from, count_below}

pub below_within : (offset : ℕ) (cs : List Cell) → count_below offset cs ≤ length cs
below_within offset [] = omega arith
below_within offset (c ∷ cs) = grind (arith, nat_tests, below_within offset cs)

pub rises_low : (cs : List Cell) (low i : ℕ) (d : Cell) → rises_from low cs ≡ true → i < length cs → low ≤ (get_or cs i d).offset
rises_low [] low i d r h = absurd (omega arith)
rises_low (c ∷ cs) low zero d r h = grind (arith, nat_tests)
rises_low (c ∷ cs) low (suc i) d r h = grind (arith, nat_tests, rises_low cs (c.offset + 1) i d)

pub below_more : (cs : List Cell) (low offset i : ℕ) (d : Cell) → rises_from low cs ≡ true → i < length cs
    → (get_or cs i d).offset < offset → i < count_below offset cs
below_more [] low offset i d r h k = absurd (omega arith)
below_more (c ∷ cs) low offset zero d r h k = grind (arith, nat_tests)
below_more (c ∷ cs) low offset (suc i) d r h k = grind (arith, nat_tests, below_more cs (c.offset + 1) offset i d, rises_low cs (c.offset + 1) i d)

pub below_less : (cs : List Cell) (offset i : ℕ) (d : Cell) → i < length cs → offset ≤ (get_or cs i d).offset → count_below offset cs ≤ i
below_less [] offset i d h k = absurd (omega arith)
below_less (c ∷ cs) offset zero d h k = grind (arith, nat_tests)
below_less (c ∷ cs) offset (suc i) d h k = grind (arith, nat_tests, below_less cs offset i d)

abbrev pub at_place : ℕ → Cell → Option Cell
at_place offset c = if nat_eq c.offset offset then Some c else None

none_above : (cs : List Cell) (low offset : ℕ) → rises_from low cs ≡ true → offset < low → find_cell offset cs ≡ None
none_above [] low offset r h = refl
none_above (c ∷ cs) low offset r h = grind (arith, nat_tests, none_above cs (c.offset + 1) offset)

pub find_at : (cs : List Cell) (low offset : ℕ) (d : Cell) → rises_from low cs ≡ true → count_below offset cs < length cs
    → find_cell offset cs ≡ at_place offset (get_or cs (count_below offset cs) d)
find_at [] low offset d r h = absurd (omega arith)
find_at (c ∷ cs) low offset d r h = grind (arith, nat_tests, find_at cs (c.offset + 1) offset d, none_above cs (c.offset + 1) offset)

pub find_past : (cs : List Cell) (low offset : ℕ) → rises_from low cs ≡ true → length cs ≤ count_below offset cs → find_cell offset cs ≡ None
find_past [] low offset r h = refl
find_past (c ∷ cs) low offset r h = grind (arith, nat_tests, find_past cs (c.offset + 1) offset, none_above cs (c.offset + 1) offset)

-- a scalar that is set keeps its offset
put_offset : (offset : ℕ) (v : Value) (c : Cell) → (put_cell offset v c).offset ≡ c.offset
put_offset offset v c = grind (arith, nat_tests)

pub rises_put : (cs : List Cell) (low offset : ℕ) (v : Value) → rises_from low (map (put_cell offset v) cs) ≡ rises_from low cs
rises_put [] low offset v = refl
rises_put (c ∷ cs) low offset v = rw (put_offset offset v c, rises_put cs (c.offset + 1) offset v)

pub rises_cleared : (cs : List Cell) (low : ℕ) → rises_from low (map cleared_cell cs) ≡ rises_from low cs
rises_cleared [] low = refl
rises_cleared (c ∷ cs) low = ap (λ b. nat_le low c.offset && b) (rises_cleared cs (c.offset + 1))

put_above : (cs : List Cell) (low offset : ℕ) (v : Value) → rises_from low cs ≡ true → offset < low → map (put_cell offset v) cs ≡ cs
put_above [] low offset v r h = refl
put_above (c ∷ cs) low offset v r h = grind (arith, nat_tests, put_above cs (c.offset + 1) offset v)

pub put_none : (cs : List Cell) (low offset : ℕ) (v : Value) → rises_from low cs ≡ true → length cs ≤ count_below offset cs
    → map (put_cell offset v) cs ≡ cs
put_none [] low offset v r h = refl
put_none (c ∷ cs) low offset v r h = grind (arith, nat_tests, put_none cs (c.offset + 1) offset v)

pub put_below : (cs : List Cell) (low offset : ℕ) (v : Value) (d : Cell) → rises_from low cs ≡ true → count_below offset cs < length cs
    → map (put_cell offset v) cs ≡ set cs (count_below offset cs) (put_cell offset v (get_or cs (count_below offset cs) d))
put_below [] low offset v d r h = absurd (omega arith)
put_below (c ∷ cs) low offset v d r h = grind (arith, nat_tests, put_below cs (c.offset + 1) offset v d, put_above cs (c.offset + 1) offset v)

at_same : (offset : ℕ) (c : Cell) → c.offset ≡ offset → at_place offset c ≡ Some c
at_same offset c e = grind (arith, nat_tests)

at_other : (offset : ℕ) (c : Cell) → (c.offset ≡ offset → ⊥) → at_place offset c ≡ None
at_other offset c e = grind (arith, nat_tests)

pub find_hit : (cs : List Cell) (offset i : ℕ) (d : Cell) → rises_from 0 cs ≡ true → i ≡ count_below offset cs → i < length cs
    → (get_or cs i d).offset ≡ offset → Some (get_or cs i d) ≡ find_cell offset cs
find_hit cs offset i d r is h same =
    let f : find_cell offset cs ≡ at_place offset (get_or cs i d) =
    find_at cs 0 offset d r (omega arith) ∙ ap (λ n. at_place offset (get_or cs n d)) (sym is) in
    sym (f ∙ at_same offset (get_or cs i d) same)

pub find_miss : (cs : List Cell) (offset i : ℕ) (d : Cell) → rises_from 0 cs ≡ true → i ≡ count_below offset cs → i < length cs
    → ((get_or cs i d).offset ≡ offset → ⊥) → None ≡ find_cell offset cs
find_miss cs offset i d r is h other =
    let f : find_cell offset cs ≡ at_place offset (get_or cs i d) =
    find_at cs 0 offset d r (omega arith) ∙ ap (λ n. at_place offset (get_or cs n d)) (sym is) in
    sym (f ∙ at_other offset (get_or cs i d) other)

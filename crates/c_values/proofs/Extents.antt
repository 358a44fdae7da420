-- A scalar that is set or cleared keeps its offset and its kind, so its object reaches as far as before.
use Rattle.std.proofs.Common.{◌≡◌, ℕ, ◌+◌, ◌<◌, List, [], ◌∷◌, map, refl, arith, ap}
use Rattle.std.proofs.lemmas.Bool.Decides.{nat_tests}
use Rattle.std.specs.Prelude.{nat_eq, ◌||◌, min, max, if◌then◌else◌}
use Rattle.c_values.specs.declared.value.Cell.{Cell}
use Rattle.c_values.specs.declared.value.Value.{Value}
use Rattle.c_values.specs.Objects.{wide, reach, reach_of, some_wide, put_cell, cleared_cell}
use Rattle.c_values.specs.Extents.{end_of_cells}

put_reach : (offset : ℕ) (v : Value) (c : Cell) → reach (put_cell offset v c) ≡ reach c
put_reach offset v c = grind (arith, nat_tests)

put_wide : (offset : ℕ) (v : Value) (c : Cell) → wide (put_cell offset v c).kind ≡ wide c.kind
put_wide offset v c = grind (arith, nat_tests)

reach_put : (cs : List Cell) (offset : ℕ) (v : Value) → reach_of (map (put_cell offset v) cs) ≡ reach_of cs
reach_put [] offset v = refl
reach_put (c ∷ cs) offset v = rw (put_reach offset v c, reach_put cs offset v)

wide_put : (cs : List Cell) (offset : ℕ) (v : Value) → some_wide (map (put_cell offset v) cs) ≡ some_wide cs
wide_put [] offset v = refl
wide_put (c ∷ cs) offset v = rw (put_wide offset v c, wide_put cs offset v)

pub end_put : (cs : List Cell) (offset : ℕ) (v : Value) → end_of_cells (map (put_cell offset v) cs) ≡ end_of_cells cs
end_put cs offset v = rw (reach_put cs offset v, wide_put cs offset v)

reach_cleared : (cs : List Cell) → reach_of (map cleared_cell cs) ≡ reach_of cs
reach_cleared [] = refl
reach_cleared (c ∷ cs) = ap (max (reach c)) (reach_cleared cs)

wide_cleared : (cs : List Cell) → some_wide (map cleared_cell cs) ≡ some_wide cs
wide_cleared [] = refl
wide_cleared (c ∷ cs) = ap (λ b. wide c.kind || b) (wide_cleared cs)

pub end_cleared : (cs : List Cell) → end_of_cells (map cleared_cell cs) ≡ end_of_cells cs
end_cleared cs = rw (reach_cleared cs, wide_cleared cs)

pub end_low : (cs : List Cell) → end_of_cells cs < 65536
end_low cs = grind (arith, nat_tests)

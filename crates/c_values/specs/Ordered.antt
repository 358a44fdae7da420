-- Scalars in the order of their offsets, of which no two are equal: so one of them is found by halving.
use Rattle.std.specs.Prelude.{ℕ, suc, ◌+◌, nat_le, nat_lt, Bool, true, ◌&&◌, if◌then◌else◌, List, [], ◌∷◌}
use Rattle.c_values.specs.declared.value.Cell.{Cell}

-- whether the offsets rise, the first being at least this
abbrev pub rises_from : ℕ → List Cell → Bool
rises_from low [] = true
rises_from low (c ∷ cs) = nat_le low c.offset && rises_from (c.offset + 1) cs

-- how many scalars stand before the first whose offset is not below this
abbrev pub count_below : ℕ → List Cell → ℕ
count_below offset [] = 0
count_below offset (c ∷ cs) = if nat_lt c.offset offset then suc (count_below offset cs) else 0

-- How far the scalars of an object reach.
use Rattle.std.specs.Prelude.{ℕ, ◌+◌, ◌%◌, min, if◌then◌else◌, List}
use Rattle.c_values.specs.declared.value.Cell.{Cell}
use Rattle.c_values.specs.Objects.{reach_of, some_wide}

-- the greatest offset that a pointer into an object of these scalars has; 65,535 is the greatest of all
abbrev pub end_of_cells : List Cell → ℕ
end_of_cells cs = min (if some_wide cs then reach_of cs + reach_of cs % 2 else reach_of cs) 65535

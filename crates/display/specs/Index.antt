-- Which scalar stands at an address, told for all addresses at once.
use Rattle.std.specs.Prelude.{◌≡◌, ℕ, ◌<◌, List, Option, Some, None, slice_get, slice_set, slice_index_or, is_none, if◌then◌else◌}
use Rattle.base16.specs.Board.{data_end}
use Rattle.base16.specs.declared.image.Scalar.{Scalar}
use Rattle.display.specs.Sets.{value_number, stamp_number}

-- by an address up to the end of the data: the number of the scalar there, and of the scalar whose stamp is there
pub record Index : Type 0 where
  pub values : List (Option ℕ)
  pub stamps : List (Option ℕ)

-- It tells of these scalars.
pub record IsIndexOf (scalars : List Scalar) (index : Index) : Type 0 where
  pub values : (a : ℕ) → a < data_end → slice_get index.values a ≡ Some (value_number scalars a)
  pub stamps : (a : ℕ) → a < data_end → slice_get index.stamps a ≡ Some (stamp_number scalars a)

-- no number yet at any address of the data
abbrev pub IsBlank : List (Option ℕ) → Type 0
IsBlank places = (a : ℕ) → a < data_end → slice_get places a ≡ Some None

-- a number noted at a place, where none is noted yet
abbrev pub noted : List (Option ℕ) → (place number : ℕ) → List (Option ℕ)
noted places place number =
    if is_none (slice_index_or places place None) then slice_set places place (Some number) else places

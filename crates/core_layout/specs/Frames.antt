-- What holds of the frames of live calls: each lies in one segment of the stack, and none overlaps another.
use Rattle.std.specs.Prelude.{◌≡◌, ℕ, ◌+◌, ◌*◌, ◌/◌, ◌≤◌, ◌⊎◌, List, [], ◌∷◌, Some}
use Rattle.std.specs.List.{AllZip}
use Rattle.base16.specs.Board.{segment_bytes, stack_start, stack_end}
use Rattle.base16.specs.Placement.{place}

-- a frame of so many bytes from an address on lies in one segment of the stack
pub record IsInSegment (bytes at : ℕ) : Type 0 where
  pub above_start : stack_start ≤ at
  pub below_end : at + bytes ≤ stack_end
  pub in_one : at + bytes ≤ at / segment_bytes * segment_bytes + segment_bytes

-- one of two frames ends where the other begins, or before
abbrev pub IsApart : (bytes at other_bytes other_at : ℕ) → Type 0
IsApart bytes at other_bytes other_at = (other_at + other_bytes ≤ at) ⊎ (at + bytes ≤ other_at)

abbrev pub LieApart : (frames addresses : List ℕ) → Type 0
LieApart [] [] = Unit {0}
LieApart (bytes ∷ frames) (at ∷ addresses) =
    IsInSegment bytes at × AllZip (IsApart bytes at) frames addresses × LieApart frames addresses
LieApart _ _ = ⊥

-- frames that are placed lie in their segments, apart
abbrev pub PlacedFramesLieApart : (frames addresses : List ℕ) → Type 0
PlacedFramesLieApart frames addresses = place frames ≡ Some addresses → LieApart frames addresses

-- What the entries of the undo log tell of the memory before, whether they are valid or a commit has cleared their count.
use Rattle.std.specs.Prelude.{◌≡◌, ℕ, ◌+◌, ◌<◌, ◌≤◌, ◌%◌, if◌then◌else◌, nat_le, zero, suc, List}
use Rattle.board_map.specs.Map.{undo_address}
use Rattle.base16.specs.declared.image.Scalar.{Scalar}
use Rattle.board_map.specs.Recovered.{put_back}
use Rattle.display.specs.Display.{display_of}
use Rattle.world.specs.History.{Display}

-- the memory with the old words of the first entries put back, so many of them
abbrev pub before : (log : ℕ) → (ℕ → ℕ) → (ℕ → ℕ)
before log m = put_back (λ i. m (undo_address i)) (λ i. m (undo_address i + 2)) log m

-- an even address from `low` on, for which there is an entry
pub record IsEntered (log : ℕ) (m : ℕ → ℕ) (low a : ℕ) : Type 0 where
  pub index : ℕ
  pub below : index < log
  pub address : m (undo_address index) ≡ a
  pub even : a % 2 ≡ 0
  pub from : low ≤ a

-- no entry is for an even address from `low` on up to below `high`
abbrev pub NoneEntered : (log : ℕ) → (ℕ → ℕ) → (low high : ℕ) → Type 0
NoneEntered log m low high =
    (i : ℕ) → i < log → low ≤ m (undo_address i) → m (undo_address i) % 2 ≡ 0 → high ≤ m (undo_address i)

-- how many entries are for an address from `low` on
abbrev pub entries_from : (log : ℕ) → (ℕ → ℕ) → (low : ℕ) → ℕ
entries_from zero m low = 0
entries_from (suc n) m low = entries_from n m low + (if nat_le low (m (undo_address n)) then 1 else 0)

-- what was shown then
abbrev pub shown_before : List Scalar → (log : ℕ) → (ℕ → ℕ) → Display
shown_before scalars log m = display_of scalars (before log m)

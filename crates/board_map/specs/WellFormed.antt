-- What a memory has to be for a boot.
use Rattle.std.specs.Prelude.{ℕ, ◌<◌, ◌≤◌, ◌≡◌}
use Rattle.base16.specs.Board.{segment_count}
use Rattle.board_map.specs.Map.{magic_address, magic_word, version_address, layout_version, undo_entries, block_entries}
use Rattle.board_map.specs.Map.{segment_place, block_open_place, block_length_place, undo_address, block_address}
use Rattle.board_map.specs.Map.{gate_of, count_of, segment_of, open_of, length_of, IsLoggable, IsOutside}

-- What the first three state words of a slot have to be, of a memory with this block log.
pub record IsState (slot m : ℕ → ℕ) : Type 0 where
  pub segment : slot segment_place < segment_count
  pub block_open : slot block_open_place < 2
  pub length : slot block_length_place ≤ block_entries
  pub block : (i : ℕ) → i < slot block_length_place → IsLoggable (m (block_address i))

pub record IsWellFormed (m : ℕ → ℕ) : Type 0 where
  pub magic : m magic_address ≡ magic_word
  pub version : m version_address ≡ layout_version
  pub gate : gate_of m < 2
  pub count : count_of m ≤ undo_entries
  pub undo : (i : ℕ) → i < count_of m → IsLoggable (m (undo_address i)) × IsOutside (segment_of m) (m (undo_address i))
  pub segment : segment_of m < segment_count
  pub block_open : open_of m < 2
  pub length : length_of m ≤ block_entries
  pub block : (i : ℕ) → i < length_of m → IsLoggable (m (block_address i))

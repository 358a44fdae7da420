-- The kinds of a tick that writes a word, as the argument about power failures lists them: for each kind what it may
-- write, to which machine the memory recovers then, which slot is the current one then, and how many entries of the undo
-- log are valid. A tick that writes nothing is that of an instruction.
use Rattle.std.specs.Prelude.{◌≡◌, ◌≢◌, ◌⊎◌, ℕ, ◌+◌, ◌-◌, ◌<◌, ◌≤◌, true, false}
use Rattle.board_map.specs.Map.{gate_address, count_address, slot_address, undo_address, undo_entries, slot_words}
use Rattle.board_map.specs.Map.{block_log_start, gate_of, slot_of, count_of, segment_of, in_segment, IsLoggable}
use Rattle.board_map.specs.Map.{IsOutside}
use Rattle.board_map.specs.Recovered.{Machine, lives, of_slot, recovered}
use Rattle.board_map.specs.WellFormed.{IsState, IsWellFormed}

pub data TickKind : Type 0 where
  -- an instruction's or a service's word in the working segment
  plain_word : TickKind
  -- the address word or the old word of an entry that is not valid yet
  entry_word : TickKind
  -- the count that makes an entry valid
  count_raised : TickKind
  -- a word that has a valid entry
  logged_word : TickKind
  -- a word of the slot that is not the current one, or its count
  slot_word : TickKind
  -- the gate, with which a commit is made
  gate_word : TickKind
  -- a word that a boot puts back or copies
  boot_word : TickKind
  -- the count at the end of a boot
  count_cleared : TickKind
  -- a word that does not live: a link word in a new segment, an entry of the block log at or past its length
  dead_word : TickKind

-- a valid entry is for this address, or none is
abbrev pub IsLogged : (ℕ → ℕ) → ℕ → Type 0
IsLogged m address = (i : ℕ) × (i < count_of m) × (m (undo_address i) ≡ address)

abbrev pub IsUnlogged : (ℕ → ℕ) → ℕ → Type 0
IsUnlogged m address = (i : ℕ) → i < count_of m → address ≢ m (undo_address i)

-- The count rises by one. The entry that becomes valid has the word that stands, so putting it back changes nothing.
pub record IsRaised (m : ℕ → ℕ) (address word : ℕ) : Type 0 where
  pub place : address ≡ count_address (gate_of m)
  pub value : word ≡ count_of m + 1
  pub room : count_of m < undo_entries
  pub loggable : IsLoggable (m (undo_address (count_of m)))
  pub outside : IsOutside (segment_of m) (m (undo_address (count_of m)))
  pub old : m (undo_address (count_of m) + 2) ≡ m (m (undo_address (count_of m)))

-- The gate comes to name the other slot, whose count was cleared before.
pub record IsSwitched (m : ℕ → ℕ) (address word : ℕ) : Type 0 where
  pub place : address ≡ gate_address
  pub value : word ≡ 1 - gate_of m
  pub count : m (count_address (1 - gate_of m)) ≡ 0
  pub state : IsState (slot_of m (1 - gate_of m)) m

-- The count is cleared where each word that lives outside the working segment is the recovered one already.
pub record IsCleared (m : ℕ → ℕ) (address word : ℕ) : Type 0 where
  pub place : address ≡ count_address (gate_of m)
  pub value : word ≡ 0
  pub back : (b : ℕ) → lives m b ≡ true → in_segment (segment_of m) b ≡ false → m b ≡ (recovered m).memory b

-- what a tick of a kind may write
abbrev pub MayWrite : TickKind → (ℕ → ℕ) → ℕ → ℕ → Type 0
MayWrite plain_word m address word = in_segment (segment_of m) address ≡ true
MayWrite entry_word m address word = (undo_address (count_of m) ≤ address) × (address < block_log_start)
MayWrite count_raised m address word = IsRaised m address word
MayWrite logged_word m address word = IsLogged m address
MayWrite slot_word m address word =
    ((i : ℕ) × (i < slot_words) × (address ≡ slot_address (1 - gate_of m) i)) ⊎ (address ≡ count_address (1 - gate_of m))
MayWrite gate_word m address word = IsSwitched m address word
MayWrite boot_word m address word = IsLogged m address ⊎ (in_segment (segment_of m) address ≡ true)
MayWrite count_cleared m address word = IsCleared m address word
MayWrite dead_word m address word = (block_log_start ≤ address) × (lives m address ≡ false)

-- the machine after it: with the gate the one in the other slot, over the words that stand, and else the same as before
abbrev pub machine_after : TickKind → (ℕ → ℕ) → Machine
machine_after gate_word m = of_slot (slot_of m (1 - gate_of m)) m
machine_after plain_word m = recovered m
machine_after entry_word m = recovered m
machine_after count_raised m = recovered m
machine_after logged_word m = recovered m
machine_after slot_word m = recovered m
machine_after boot_word m = recovered m
machine_after count_cleared m = recovered m
machine_after dead_word m = recovered m

-- the current slot after it
abbrev pub gate_after : TickKind → (ℕ → ℕ) → ℕ
gate_after gate_word m = 1 - gate_of m
gate_after plain_word m = gate_of m
gate_after entry_word m = gate_of m
gate_after count_raised m = gate_of m
gate_after logged_word m = gate_of m
gate_after slot_word m = gate_of m
gate_after boot_word m = gate_of m
gate_after count_cleared m = gate_of m
gate_after dead_word m = gate_of m

-- the valid entries after it
abbrev pub entries_after : TickKind → (ℕ → ℕ) → ℕ
entries_after count_raised m = count_of m + 1
entries_after gate_word m = 0
entries_after count_cleared m = 0
entries_after plain_word m = count_of m
entries_after entry_word m = count_of m
entries_after logged_word m = count_of m
entries_after slot_word m = count_of m
entries_after boot_word m = count_of m
entries_after dead_word m = count_of m

-- what a tick of a kind does from one memory to the next
pub record Keeps (kind : TickKind) (old new : ℕ → ℕ) : Type 0 where
  pub well_formed : IsWellFormed new
  pub recovered : recovered new ≡ machine_after kind old
  pub gate : gate_of new ≡ gate_after kind old
  pub entries : count_of new ≡ entries_after kind old

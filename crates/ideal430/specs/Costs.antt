-- What a service takes in ticks, and when a checkpoint is due, over numbers. The machine with unbroken power counts by
-- them, and the board writes by them.
use Rattle.std.specs.Prelude.{ℕ, ◌+◌, Bool, true, false, not, ◌&&◌, ◌||◌, nat_eq, nat_le, nat_lt, if◌then◌else◌, List, [], ◌∷◌, length}
use Rattle.ideal430.specs.Places.{is_in_segment}
use Rattle.ideal430.specs.Service.{Block, is_open, BlockChange, Stays, Opens, Closes, Effect, Deed, Refuses, Does, store_address}
use Rattle.ideal430.specs.declared.service.Store.{Store}
use Rattle.ideal430.specs.declared.service.Store.TheVariants.{Word, Byte, Link}

-- ---- ticks

-- a word through the undo log: the entry's two words, the count, the word
abbrev pub logged_ticks : ℕ
logged_ticks = 4

-- a word that an open block notes: its address and the word before
abbrev pub note_ticks : ℕ
note_ticks = 2

-- the words of a slot, its count and the gate
abbrev pub commit_ticks : ℕ
commit_ticks = 155

-- a word of the working segment is written straight, and so is the link word of a new one; any other goes through the
-- undo log
abbrev pub is_logged : (segment : ℕ) → Store → Bool
is_logged segment (Word a w) = not (is_in_segment segment a)
is_logged segment (Byte a v) = not (is_in_segment segment (store_address (Byte a v)))
is_logged segment (Link a w) = false

-- the ticks of a store, where the segment works that works before the service, and where it is noted first or not
abbrev pub store_ticks : (segment : ℕ) (notes : Bool) → Store → ℕ
store_ticks segment notes store = (if is_logged segment store then logged_ticks else 1) + (if notes then note_ticks else 0)

abbrev pub stores_ticks : (segment : ℕ) (notes : Bool) → List Store → ℕ
stores_ticks segment notes [] = 0
stores_ticks segment notes (store ∷ rest) = store_ticks segment notes store + stores_ticks segment notes rest

-- how many entries of the undo log stores make
abbrev pub stores_entries : (segment : ℕ) → List Store → ℕ
stores_entries segment [] = 0
stores_entries segment (store ∷ rest) = (if is_logged segment store then 1 else 0) + stores_entries segment rest

-- whether an effect notes its stores
abbrev pub is_noting : Block → Effect → Bool
is_noting block e = is_open block && e.noted

-- the ticks of an effect without a commit, and the entries that it makes
abbrev pub effect_ticks : (segment : ℕ) → Block → Effect → ℕ
effect_ticks segment block e = stores_ticks segment (is_noting block e) e.stores

abbrev pub effect_entries : (segment : ℕ) → Effect → ℕ
effect_entries segment e = stores_entries segment e.stores

-- the length of the block log after an effect
abbrev pub length_by : BlockChange → (notes : Bool) (stores length : ℕ) → ℕ
length_by Opens notes stores length = 0
length_by Closes notes stores length = 0
length_by Stays notes stores length = if notes then length + stores else length

abbrev pub length_after : Block → Effect → ℕ → ℕ
length_after block e before = length_by e.block (is_noting block e) (length e.stores) before

-- ---- the policy

abbrev pub is_opening : BlockChange → Bool
is_opening Opens = true
is_opening Stays = false
is_opening Closes = false

-- A mark is due where so many ticks since the last commit or the end of the last boot reach the period, where it changed
-- the working segment, where the undo log has room for fewer than 8 entries and the block log's length, where it asked
-- for a checkpoint, where it left the outermost main, or where it opened a block. All is counted after its effect.
abbrev pub is_due : (ticks period entries length : ℕ) (changes asks ends opens : Bool) → Bool
is_due ticks period entries length changes asks ends opens =
    nat_le period ticks || (changes || (nat_lt 256 (entries + 8 + length) || (asks || (ends || opens))))

-- the same of an effect, from the numbers before it; what is no mark is never due
abbrev pub due_of : (segment : ℕ) → Block → Effect → (ticks period entries length : ℕ) → Bool
due_of segment block e ticks period entries length =
    e.marks && is_due (ticks + effect_ticks segment block e) period (entries + effect_entries segment e)
    (length_after block e length)
    (not (nat_eq e.segment segment)) e.asks e.ends (is_opening e.block)

-- the ticks of a deed, its commit counted where one is due; a refused service takes none
abbrev pub deed_ticks : (segment : ℕ) → Block → Deed → (ticks period entries length : ℕ) → ℕ
deed_ticks segment block (Refuses kind) ticks period entries length = 0
deed_ticks segment block (Does e) ticks period entries length =
    effect_ticks segment block e + (if due_of segment block e ticks period entries length then commit_ticks else 0)

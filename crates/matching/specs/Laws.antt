-- What holds of matching words: statements, which the laws of the crate show.
use Rattle.std.specs.Prelude.{List, ◌≡◌, ℕ, ◌+◌, length, slice_get, Some, Ok, ◌≤◌, ◌<◌, ◌*◌, ◌/◌, ◌%◌, [], ◌∷◌, ◌++◌}
use Rattle.base16.specs.declared.image.Kind.{Kind}
use Rattle.base16.specs.Board.{data_start, most_outputs, outputs_start}
use Rattle.base16.specs.Placement.{frame_below}
use Rattle.base16.specs.Readings.{IsReadings}
use Rattle.base16.specs.declared.end.EndKind.TheVariants.{Done}
use Rattle.base16.specs.declared.reading.Reading.{Reading}
use Rattle.c_meaning.specs.After.{start, objects_of, after}
use Rattle.c_meaning.specs.declared.outcome.CState.{CState}
use Rattle.c_meaning.specs.declared.outcome.CState.TheVariants as state
use Rattle.c_run.specs.Actions.{kept, top_of, with_call, left_call, with_stamp}
use Rattle.c_run.specs.Making.{fresh_objects}
use Rattle.c_values.specs.Objects.{accessed, with_scalar, with_cleared}
use Rattle.c_values.specs.Pointers.{at}
use Rattle.c_values.specs.declared.state.Call.{Call}
use Rattle.c_values.specs.declared.state.Saved.{Saved}
use Rattle.c_values.specs.declared.state.State.{State}
use Rattle.c_values.specs.declared.value.Value.{Value}
use Rattle.cells430.specs.Cells.{Cells, Shape, Facts, set_cell, Word}
use Rattle.core430.specs.Uses.{IsWithin}
use Rattle.core_tree.specs.Data.{global_address, stamps_start, stamp_address}
use Rattle.core_tree.specs.Heights.{frame_bytes}
use Rattle.core_tree.specs.LawfulCore.{Every}
use Rattle.core_tree.specs.declared.program.Core.{Core}
use Rattle.core_tree.specs.declared.program.Function.{Function}
use Rattle.ideal430.specs.Agreement.{Agrees}
use Rattle.ideal430.specs.Ideal.{Meter, Ideal, run}
use Rattle.ideal430.specs.Loaded.{loaded, start_of}
use Rattle.ideal430.specs.Service.{Block}
use Rattle.ideal430.specs.Settled.{Bytes}
use Rattle.matching.specs.Covering.{cell_of, Covered, IsCovered, Apart, HaveCells, SameCells, AllPointBelow}
use Rattle.matching.specs.Laid.{AreLaid, IsAligned, IsMade, LiesIn, bytes_of}
use Rattle.matching.specs.Matches.{address_of, encoded, placed, WordsAre, Matches, placed_from, local_address}
use Rattle.matching.specs.Said.{said}
use Rattle.matching.specs.Simulates.{MachineMatches, Simulates}

-- what goes along with the machine matches the state that the machine's words match
abbrev pub MatchesAlong : Core → State → Ideal → Type 0
MatchesAlong core s t = (regs m : ℕ → ℕ) → (segment : ℕ) → (block : Block) → (marks : ℕ) → Agrees t regs m segment block marks
    → MachineMatches core s t → Matches core s m block

-- the same machine, with another count of ticks, entries and commits, and another period
abbrev pub metered : Ideal → Meter → Ideal
metered t meter = record t { meter = meter }

-- the C run, asked for s marks, has made them all, and this is its state just behind the last
abbrev pub ComesTo : CState → (s : ℕ) → State → Type 0
ComesTo (state.Live d) s c = d ≡ c
ComesTo (state.Ended kind d) s c = (kind ≡ Done) × (d.marks ≡ s) × (d ≡ c)
ComesTo _ s c = ⊥

-- the n-th instruction of the machine made its s-th mark
pub record HasJustMarked (start : Ideal) (n s : ℕ) : Type 0 where
  pub marks : (run n start).marks ≡ s
  pub first : (k : ℕ) → k < n → (run k start).marks < s

-- Where an image simulates a program, every memory that goes along with its machine just behind a mark matches the state of the
-- C run there, whatever the machine counts.
abbrev pub MarkIsMatched : Core → (code globals : List ℕ) → List Reading → Meter → (s : ℕ) → State → (n : ℕ) → Type 0
MarkIsMatched core code globals readings meter s c n = Simulates core code globals → IsReadings readings
    → ComesTo (after core readings s) s c → HasJustMarked (metered (start_of (loaded code globals) readings) meter) n s
    → (regs m : ℕ → ℕ) → (segment : ℕ) → (block : Block) → (marks : ℕ)
    → Agrees (run n (metered (start_of (loaded code globals) readings) meter)) regs m segment block marks
    → Matches core c m block

-- where a state has its cells, and they stand, the words match the state, by settled bytes
abbrev pub CellsMatch : Core → Saved → Cells → Type 0
CellsMatch core s f = (segment sp : ℕ) → (pointers : ℕ → ℕ) → Shape segment sp pointers f → (c : ℕ → ℕ) → (low high : ℕ)
    → (m : ℕ → ℕ) → (settled : Bytes) → Facts c low high f m settled → IsCovered core s f
    → WordsAre core s m × IsWithin (said core s) settled

-- the scalar of this kind at an offset of an object, which stands at an address, gets a value
abbrev pub StoreSetsCell : Core → State → Cells → (n address offset : ℕ) → Value → Kind → Type 0
StoreSetsCell core s f n address offset v k =
    Every (Apart n address offset k) (placed core (kept s)) → Covered f (placed core (kept s)) (placed core (kept s))
    → Covered (set_cell f (address + offset) (cell_of k (encoded (placed core (kept s)) k v)))
    (placed core (kept (with_scalar n offset v s))) (placed core (kept (with_scalar n offset v s)))

-- no two objects of a state that a run makes share a byte
abbrev pub SharesNoByte : Core → (next : ℕ) → Saved → Type 0
SharesNoByte core next s = IsMade core next s → AreLaid (placed core s)

-- the variables lie in the data, before the stamps
abbrev pub VariablesLieInData : Core → (next : ℕ) → Saved → Type 0
VariablesLieInData core next s =
    IsMade core next s → Every (LiesIn data_start (stamps_start core)) (placed_from (global_address core) 0 s.globals)

-- the objects of each call lie in its frame
abbrev pub LocalsLieInFrames : Core → (next : ℕ) → Saved → Type 0
LocalsLieInFrames core next s = IsMade core next s
    → Every (λ c. Every (LiesIn c.frame (c.frame + bytes_of core c)) (placed_from (local_address core c) 0 c.locals)) s.calls

abbrev pub WordsAreAligned : Core → (next : ℕ) → Saved → Type 0
WordsAreAligned core next s = IsMade core next s → Every IsAligned (placed core s)

-- the object n is alive and has an address, and no other scalar stands where the one at an offset of it does
pub record StandsAlone (core : Core) (s : State) (n offset : ℕ) (k : Kind) : Type 0 where
  pub address : ℕ
  pub is : address_of (placed core (kept s)) n ≡ Some address
  pub apart : Every (Apart n address offset k) (placed core (kept s))

-- a scalar that is accessed stands alone
abbrev pub AccessedStandsAlone : Core → (next : ℕ) → State → (n offset : ℕ) → Kind → Value → Type 0
AccessedStandsAlone core next s n offset k v =
    IsMade core next (kept s) → accessed s (at n offset) k ≡ Ok v → StandsAlone core s n offset k

-- Where a state has its cells, a store to a scalar that is accessed is one cell set, and keeps all others: scalars, stamps and
-- outputs, of which no more stand than there is room for.
abbrev pub StoreKeepsCovered : Core → (next : ℕ) → State → Cells → (n offset : ℕ) → Kind → (old v : Value) → Type 0
StoreKeepsCovered core next s f n offset k old v = IsMade core next (kept s) → length s.outputs ≤ most_outputs
    → IsCovered core (kept s) f → accessed s (at n offset) k ≡ Ok old
    → (x : StandsAlone core s n offset k) × IsCovered core (kept (with_scalar n offset v s))
    (set_cell f (x.address + offset) (cell_of k (encoded (placed core (kept s)) k v)))

-- A stamp that is set is two cells set, which keep the whole state covered.
abbrev pub StampSetsCells : Core → (next : ℕ) → State → Cells → (n now : ℕ) → Type 0
StampSetsCells core next s f n now = IsMade core next (kept s) → length s.outputs ≤ most_outputs → IsCovered core (kept s) f
    → IsCovered core (kept (with_stamp n now s))
    (set_cell (set_cell f (stamp_address core n) (Word (Some (now % 65536)))) (stamp_address core n + 2)
    (Word (Some (now / 65536))))

-- So is an output that is appended: its word, then the length.
abbrev pub OutputSetsCells : Core → (next : ℕ) → State → Cells → (w : ℕ) → Type 0
OutputSetsCells core next s f w = IsMade core next (kept s) → length s.outputs < most_outputs → IsCovered core (kept s) f
    → IsCovered core (kept (record s { outputs = s.outputs ++ w ∷ [] }))
    (set_cell (set_cell f (outputs_start + 2 + 2 * length s.outputs) (Word (Some w))) outputs_start
    (Word (Some (length s.outputs + 1))))

-- ---- what a run does to the objects of its state

abbrev pub StartIsMade : Core → Type 0
StartIsMade core = IsMade core (length core.globals) (kept (start core))

abbrev pub StoredIsMade : Core → (next : ℕ) → State → (n offset : ℕ) → Value → Type 0
StoredIsMade core next s n offset v = IsMade core next (kept s) → IsMade core next (kept (with_scalar n offset v s))

abbrev pub ClearedIsMade : Core → (next : ℕ) → State → (n : ℕ) → Type 0
ClearedIsMade core next s n = IsMade core next (kept s) → IsMade core next (kept (with_cleared n s))

-- a call whose objects come to life
abbrev pub fresh_call : Core → (next function frame : ℕ) → Function → Call
fresh_call core next function frame f =
    record { function = function; frame = frame; locals = fresh_objects next (objects_of core.structs f) }

-- a state with such a call more
abbrev pub with_fresh : Core → (next function frame : ℕ) → Function → State → State
with_fresh core next function frame f s = with_call (fresh_call core next function frame f) s

abbrev pub EnteredIsMade : Core → (next : ℕ) → State → (function frame : ℕ) → Function → Type 0
EnteredIsMade core next s function frame f = slice_get core.functions function ≡ Some f
    → frame_below (top_of s) (frame_bytes core.structs f) ≡ Some frame → IsMade core next (kept s)
    → IsMade core (next + length (objects_of core.structs f)) (kept (with_fresh core next function frame f s))

-- objects that came to life besides change nothing
abbrev pub LaterIsMade : Core → (next later : ℕ) → Saved → Type 0
LaterIsMade core next later s = next ≤ later → IsMade core next s → IsMade core later s

abbrev pub LeftIsMade : Core → (next : ℕ) → State → Type 0
LeftIsMade core next s = IsMade core next (kept s) → IsMade core next (kept (left_call s))

-- ---- what a run does to cells

-- the objects of a state have their cells
abbrev pub HasCells : Core → State → Cells → Type 0
HasCells core s f = Covered f (placed core (kept s)) (placed core (kept s))

-- a declaration, the end of a call, and what is done to other cells take no cell away
abbrev pub ClearedIsCovered : Core → State → Cells → (n : ℕ) → Type 0
ClearedIsCovered core s f n = HasCells core s f → HasCells core (with_cleared n s) f

abbrev pub LeftIsCovered : Core → State → Cells → Type 0
LeftIsCovered core s f = HasCells core s f → HasCells core (left_call s) f

abbrev pub ElsewhereIsCovered : Core → State → (f g : Cells) → Type 0
ElsewhereIsCovered core s f g = SameCells f g (placed core (kept s)) → HasCells core s f → HasCells core s g

-- where a function is entered, its objects have their cells if there is a cell for each of their scalars
abbrev pub EnteredIsCovered : Core → (next : ℕ) → State → (function frame : ℕ) → Function → Cells → Type 0
EnteredIsCovered core next s function frame f cells = AllPointBelow next (placed core (kept s)) → HasCells core s cells
    → HaveCells cells (placed_from (local_address core (fresh_call core next function frame f)) 0
    (fresh_objects next (objects_of core.structs f)))
    → HasCells core (with_call (fresh_call core next function frame f) s) cells

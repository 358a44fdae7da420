-- What each service of the board does, as one effect on registers and words. Power is not in it. A service is found with
-- PC at its entry and SP at the return word that the call pushed.
use Rattle.std.specs.Prelude.{◌≡◌, ℕ, zero, suc, ◌+◌, ◌-◌, ◌*◌, ◌/◌, ◌%◌, Bool, true, false, not, ◌&&◌, ◌||◌, nat_eq, nat_le, nat_lt, if◌then◌else◌, List, [], ◌∷◌, ◌++◌, length, Option, Some, None, min}
use Rattle.base16.specs.Board.{outputs_start, most_outputs, segment_count, segment_start, segment_top, most_frame_bytes, code_start, code_end, service_entry}
use Rattle.base16.specs.Memory.{put}
use Rattle.base16.specs.declared.reading.Reading.{Reading}
use Rattle.base16.specs.declared.reading.Reading.TheVariants as reading
use Rattle.base16.specs.declared.end.EndKind.{EndKind}
use Rattle.base16.specs.declared.end.EndKind.TheVariants.{StackFull, BlockFull, OutputFull, Wild}
use Rattle.core430.specs.Registers.{set_reg}
use Rattle.core430.specs.Bytes.{word_address, with_byte}
use Rattle.ideal430.specs.Places.{is_even, is_in_segment, is_above, may_store}
use Rattle.ideal430.specs.declared.service.Ask.{Ask}
use Rattle.ideal430.specs.declared.service.Ask.TheVariants.{Nothing, Sensor, Clock}
use Rattle.ideal430.specs.declared.service.Service.{Service}
use Rattle.ideal430.specs.declared.service.Service.TheVariants.{Halt, Enter, Leave, Turn, StoreWord, StoreByte, StampWord, StampByte, Sense, Emit, Open, Check, Close, Timely, Checkpoint}
use Rattle.ideal430.specs.declared.service.Store.{Store}
use Rattle.ideal430.specs.declared.service.Store.TheVariants.{Word, Byte, Link}

-- ---- which services there are

-- the services by number
abbrev pub service_of : ℕ → Option Service
service_of n =
    if nat_eq n 0 then Some Halt
    else (if nat_eq n 1 then Some Enter
    else (if nat_eq n 2 then Some Leave
    else (if nat_eq n 3 then Some Turn
    else (if nat_eq n 4 then Some StoreWord
    else (if nat_eq n 5 then Some StoreByte
    else (if nat_eq n 6 then Some StampWord
    else (if nat_eq n 7 then Some StampByte
    else (if nat_eq n 8 then Some Sense
    else (if nat_eq n 9 then Some Emit
    else (if nat_eq n 10 then Some Open
    else (if nat_eq n 11 then Some Check
    else (if nat_eq n 12 then Some Close
    else (if nat_eq n 13 then Some Timely
    else (if nat_eq n 14 then Some Checkpoint else None))))))))))))))

-- those that the board has by now; a call of another is refused as that of a number with no service is
abbrev pub is_built : Service → Bool
is_built StampWord = false
is_built StampByte = false
is_built Open = false
is_built Check = false
is_built Close = false
is_built Timely = false
is_built service = true

abbrev pub if_built : Option Service → Option Service
if_built None = None
if_built (Some service) = if is_built service then Some service else None

abbrev pub service_at : ℕ → Option Service
service_at n = if_built (service_of n)

-- ---- what a service finds

-- a word that a service stored while a block was open, with the word before
pub record Noted : Type 0 where
  pub address : ℕ
  pub old : ℕ

-- the words noted since the opening, in order; none where no block is open
abbrev pub Block : Type 0
Block = Option (List Noted)

abbrev pub is_open : Block → Bool
is_open None = false
is_open (Some noted) = true

abbrev pub noted_of : Block → List Noted
noted_of None = []
noted_of (Some noted) = noted

-- the registers with the return word popped
abbrev pub popped : (r m : ℕ → ℕ) → (ℕ → ℕ)
popped r m = set_reg (set_reg r 0 (m (r 1))) 1 (r 1 + 2)

-- how many outputs there are
abbrev pub outputs_of : (ℕ → ℕ) → ℕ
outputs_of m = min (m outputs_start) most_outputs

-- ---- stamps and check tables

-- a stamp is two words, the low one first; a high word from 8000 on is none
abbrev pub stamp_at : (ℕ → ℕ) → ℕ → Option ℕ
stamp_at m a = if nat_le 0x8000 (m (a + 2)) then None else Some (m a + 65536 * m (a + 2))

-- the clock is at most so far past the stamp
abbrev pub is_fresh : Option ℕ → (now lifetime : ℕ) → Bool
is_fresh None now lifetime = false
is_fresh (Some stamp) now lifetime = nat_le (now - stamp) lifetime

-- a row of a check table: the address of the stamp, then the lifetime, low word first
abbrev pub lifetime_at : (ℕ → ℕ) → ℕ → ℕ
lifetime_at m row = m (row + 2) + 65536 * m (row + 4)

-- nothing that the rows name has expired
abbrev pub are_fresh : (m : ℕ → ℕ) (now row rows : ℕ) → Bool
are_fresh m now row zero = true
are_fresh m now row (suc rows) = is_fresh (stamp_at m (m row)) now (lifetime_at m row) && are_fresh m now (row + 6) rows

-- ---- causes of Wild, in order, each with its address

abbrev pub wild_where : Bool → ℕ → Option ℕ → Option ℕ
wild_where holds address rest = if holds then Some address else rest

abbrev pub wild_or : Option ℕ → Option ℕ → Option ℕ
wild_or None rest = rest
wild_or (Some address) rest = Some address

-- SP points to a word of the working segment
abbrev pub has_stack : (segment sp : ℕ) → Bool
has_stack segment sp = is_even sp && is_in_segment segment sp

-- the bytes of a frame are even, from 4 to 240
abbrev pub is_frame : ℕ → Bool
is_frame bytes = is_even bytes && (nat_le 4 bytes && nat_le bytes most_frame_bytes)

-- a frame that ends here, above segment 0, has the link word behind it
abbrev pub is_linked : (segment end : ℕ) → Bool
is_linked segment end = nat_lt 0 segment && nat_eq (end + 2) (segment_top segment)

-- a link word points to a word of the segment below
abbrev pub is_link : (segment link : ℕ) → Bool
is_link segment link = has_stack (segment - 1) link

abbrev pub is_bad_link : (m : ℕ → ℕ) (segment end : ℕ) → Bool
is_bad_link m segment end = is_linked segment end && not (is_link segment (m end))

-- a word may not be stored there, or be read as part of a stamp
abbrev pub is_bad_word : (segment a : ℕ) → Bool
is_bad_word segment a = not (is_even a && may_store segment a)

abbrev pub is_bad_byte : (segment a : ℕ) → Bool
is_bad_byte segment a = not (may_store segment a)

abbrev pub stamp_wild : (segment a : ℕ) → Option ℕ → Option ℕ
stamp_wild segment a rest = wild_where (is_bad_word segment a) a (wild_where (is_bad_word segment (a + 2)) (a + 2) rest)

-- the stamps that the rows of a check table name
abbrev pub rows_wild : (m : ℕ → ℕ) (segment row rows : ℕ) → Option ℕ
rows_wild m segment row zero = None
rows_wild m segment row (suc rows) = stamp_wild segment (m row) (rows_wild m segment (row + 6) rows)

-- a check table stands at an even address, within the code range
abbrev pub is_table : (row rows : ℕ) → Bool
is_table row rows = is_even row && (nat_le code_start row && nat_le (row + 6 * rows) code_end)

abbrev pub table_wild : (r m : ℕ → ℕ) (segment : ℕ) → Option ℕ → Option ℕ
table_wild r m segment rest =
    wild_where (not (is_table (r 14) (r 15))) (r 14) (wild_or (rows_wild m segment (r 14) (r 15)) rest)

-- the causes of each service, by the registers that it finds
abbrev pub own_wild : Service → (r m : ℕ → ℕ) (segment : ℕ) → Block → Option ℕ
own_wild Halt r m segment block = None
own_wild Enter r m segment block =
    wild_where (not (is_frame (r 15))) (r 1) (wild_where (nat_eq (r 1 + 2) (segment_top segment)) (r 1) None)
own_wild Leave r m segment block =
    wild_where (not (is_frame (r 15))) (r 1)
    (wild_where (nat_lt (segment_top segment) (r 1 + 2 + r 15 + 2)) (r 1)
    (wild_where (is_bad_link m segment (r 1 + 2 + r 15)) (r 1) None))
own_wild Turn r m segment block = None
own_wild StoreWord r m segment block = wild_where (is_bad_word segment (r 14)) (r 14) None
own_wild StoreByte r m segment block = wild_where (is_bad_byte segment (r 14)) (r 14) None
own_wild StampWord r m segment block = wild_where (is_bad_word segment (r 14)) (r 14) (stamp_wild segment (r 15) None)
own_wild StampByte r m segment block = wild_where (is_bad_byte segment (r 14)) (r 14) (stamp_wild segment (r 15) None)
own_wild Sense r m segment block = wild_where (nat_lt 15 (r 15)) (service_entry 8) None
own_wild Emit r m segment block = None
own_wild Open r m segment block = table_wild r m segment (wild_where (is_open block) (service_entry 10) None)
own_wild Check r m segment block = table_wild r m segment (wild_where (not (is_open block)) (service_entry 11) None)
own_wild Close r m segment block = table_wild r m segment (wild_where (not (is_open block)) (service_entry 12) None)
own_wild Timely r m segment block = stamp_wild segment (r 14) None
own_wild Checkpoint r m segment block = None

abbrev pub wild_of : Service → (r m : ℕ → ℕ) (segment : ℕ) → Block → Option ℕ
wild_of service r m segment block =
    wild_where (not (has_stack segment (r 1))) (r 1) (own_wild service r m segment block)

-- ---- a mark that is not made: no place for a frame, an output or the words of a block

-- a frame goes below p where four bytes stay free below it
abbrev pub has_place : (segment p bytes : ℕ) → Bool
has_place segment p bytes = nat_le (segment_start segment + bytes + 4) p

-- so many words more are more than the 128 of a block
abbrev pub full_block : Block → ℕ → Option EndKind
full_block None words = None
full_block (Some noted) words = if nat_lt 128 (length noted + words) then Some BlockFull else None

-- by the registers with the return word popped
abbrev pub own_full : Service → (r m : ℕ → ℕ) (segment : ℕ) → Block → Option EndKind
own_full Enter r m segment block =
    if has_place segment (r 1) (r 15) || not (nat_eq segment (segment_count - 1)) then None else Some StackFull
own_full StoreWord r m segment block = full_block block 1
own_full StoreByte r m segment block = full_block block 1
own_full StampWord r m segment block = full_block block 3
own_full StampByte r m segment block = full_block block 3
own_full Emit r m segment block = if nat_lt (outputs_of m) most_outputs then full_block block 2 else Some OutputFull
own_full service r m segment block = None

abbrev pub refusal_or : Option ℕ → Option EndKind → Option EndKind
refusal_or None full = full
refusal_or (Some address) full = Some (Wild address)

-- how a service is refused, if it is: it has then written nothing and takes no reading
abbrev pub refusal_of : Service → (r m : ℕ → ℕ) (segment : ℕ) → Block → Option EndKind
refusal_of service r m segment block =
    refusal_or (wild_of service r m segment block) (own_full service (popped r m) m segment block)

-- ---- effects

-- what becomes of a block
pub data BlockChange : Type 0 where
  Stays : BlockChange
  Opens : BlockChange
  Closes : BlockChange

-- What a service does: registers and working segment after it; the words that it stores, in order, and whether an open
-- block notes them first; what becomes of the block; whether it is a mark, one that asks for a checkpoint, and whether
-- the run is over.
pub record Effect : Type 0 where
  pub regs : ℕ → ℕ
  pub segment : ℕ
  pub stores : List Store
  pub noted : Bool
  pub block : BlockChange
  pub marks : Bool
  pub asks : Bool
  pub ends : Bool

-- a service is refused, and changes nothing, or it does something
pub data Deed : Type 0 where
  Refuses : (kind : EndKind) → Deed
  Does : (effect : Effect) → Deed

-- a mark that stores these words and leaves the segment and the block as they were
abbrev pub mark : (ℕ → ℕ) → ℕ → List Store → Effect
mark r segment stores = record {
  regs = r;
  segment = segment;
  stores = stores;
  noted = true;
  block = Stays;
  marks = true;
  asks = false;
  ends = false;
}

-- R12 says whether
abbrev pub answered : (ℕ → ℕ) → Bool → (ℕ → ℕ)
answered r b = set_reg r 12 (if b then 1 else 0)

-- a frame in the next segment stands below the link word, which is SP as it was
abbrev pub link_address : ℕ → ℕ
link_address segment = segment_top (segment + 1) - 2

abbrev pub enter_effect : (ℕ → ℕ) → ℕ → Effect
enter_effect r segment =
    if has_place segment (r 1) (r 15) then mark (set_reg r 1 (r 1 - r 15)) segment []
    else mark (set_reg r 1 (link_address segment - r 15)) (segment + 1) (Link (link_address segment) (r 1) ∷ [])

-- the function's return word at an address is popped
abbrev pub returned : (r m : ℕ → ℕ) → ℕ → (ℕ → ℕ)
returned r m a = set_reg (set_reg r 0 (m a)) 1 (a + 2)

-- end is where the frame ends: there stands the link word, or else the function's return word
abbrev pub leave_effect : (r m : ℕ → ℕ) (segment end : ℕ) → Effect
leave_effect r m segment end =
    if is_linked segment end then mark (returned r m (m end)) (segment - 1) []
    else (record (mark (returned r m end) segment []) { ends = nat_eq segment 0 && nat_eq end 0x20FE })

abbrev pub stamp_stores : (address ms : ℕ) → List Store
stamp_stores address ms = Word address (ms % 65536) ∷ Word (address + 2) (ms / 65536) ∷ []

abbrev pub emit_stores : (length word : ℕ) → List Store
emit_stores length word = Word (outputs_start + 2 + 2 * length) word ∷ Word outputs_start (length + 1) ∷ []

-- the noted words as they were, from the last to the first, but for those in a segment above the working one
abbrev pub undo_stores : ℕ → List Noted → List Store
undo_stores segment [] = []
undo_stores segment (x ∷ rest) =
    undo_stores segment rest ++ (if is_above segment x.address then [] else Word x.address x.old ∷ [])

-- an open block is undone and closed
abbrev pub undo_effect : (ℕ → ℕ) → ℕ → Block → Effect
undo_effect r segment block =
    record (mark (answered r false) segment (undo_stores segment (noted_of block))) { noted = false; block = Closes }

-- Each service, with the value of the reading that it takes, and by the registers with the return word popped.
abbrev pub own_effect : Service → (value : ℕ) (r m : ℕ → ℕ) (segment : ℕ) → Block → Effect
own_effect Halt value r m segment block = record (mark r segment []) { marks = false; ends = true }
own_effect Enter value r m segment block = enter_effect r segment
own_effect Leave value r m segment block = leave_effect r m segment (r 1 + r 15)
own_effect Turn value r m segment block = mark r segment []
own_effect StoreWord value r m segment block = mark r segment (Word (r 14) (r 13) ∷ [])
own_effect StoreByte value r m segment block = mark r segment (Byte (r 14) (r 13 % 256) ∷ [])
own_effect StampWord value r m segment block = mark r segment (Word (r 14) (r 13) ∷ stamp_stores (r 15) value)
own_effect StampByte value r m segment block = mark r segment (Byte (r 14) (r 13 % 256) ∷ stamp_stores (r 15) value)
own_effect Sense value r m segment block = mark (set_reg r 12 value) segment []
own_effect Emit value r m segment block = mark r segment (emit_stores (outputs_of m) (r 13))
own_effect Open value r m segment block =
    let fresh = are_fresh m value (r 14) (r 15) in
    record (mark (answered r fresh) segment []) { block = if fresh then Opens else Stays }
own_effect Check value r m segment block =
    if are_fresh m value (r 14) (r 15) then mark (answered r true) segment [] else undo_effect r segment block
own_effect Close value r m segment block =
    if are_fresh m value (r 14) (r 15) then (record (mark (answered r true) segment []) { block = Closes })
    else undo_effect r segment block
own_effect Timely value r m segment block =
    mark (answered r (is_fresh (stamp_at m (r 14)) value (r 13 + 65536 * r 15))) segment []
own_effect Checkpoint value r m segment block = record (mark r segment []) { asks = true }

abbrev pub deed_if : Option EndKind → Effect → Deed
deed_if None e = Does e
deed_if (Some kind) e = Refuses kind

-- what a service does that finds these registers, with PC at its entry, these words, this working segment and this block
abbrev pub deed_of : Service → (value : ℕ) (r m : ℕ → ℕ) (segment : ℕ) → Block → Deed
deed_of service value r m segment block =
    deed_if (refusal_of service r m segment block) (own_effect service value (popped r m) m segment block)

-- the same by number; a number with no service is refused before anything else
abbrev pub deed_if_built : Option Service → (n value : ℕ) (r m : ℕ → ℕ) (segment : ℕ) → Block → Deed
deed_if_built None n value r m segment block = Refuses (Wild (service_entry n))
deed_if_built (Some service) n value r m segment block = deed_of service value r m segment block

abbrev pub deed_at : (n value : ℕ) (r m : ℕ → ℕ) (segment : ℕ) → Block → Deed
deed_at n value r m segment block = deed_if_built (service_at n) n value r m segment block

-- ---- readings

-- what a service asks of the outside
abbrev pub own_ask : Service → (ℕ → ℕ) → Ask
own_ask StampWord r = Clock
own_ask StampByte r = Clock
own_ask Sense r = Sensor (r 15)
own_ask Open r = Clock
own_ask Check r = Clock
own_ask Close r = Clock
own_ask Timely r = Clock
own_ask service r = Nothing

abbrev pub ask_if : Option EndKind → Ask → Ask
ask_if None ask = ask
ask_if (Some kind) ask = Nothing

-- a service that is refused asks nothing
abbrev pub ask_of : Service → (r m : ℕ → ℕ) (segment : ℕ) → Block → Ask
ask_of service r m segment block = ask_if (refusal_of service r m segment block) (own_ask service r)

abbrev pub ask_if_built : Option Service → (r m : ℕ → ℕ) (segment : ℕ) → Block → Ask
ask_if_built None r m segment block = Nothing
ask_if_built (Some service) r m segment block = ask_of service r m segment block

abbrev pub ask_at : (n : ℕ) (r m : ℕ → ℕ) (segment : ℕ) → Block → Ask
ask_at n r m segment block = ask_if_built (service_at n) r m segment block

-- the readings that are taken where the outside gives this value
abbrev pub taken_of : Ask → ℕ → List Reading
taken_of Nothing value = []
taken_of (Sensor channel) value = reading.Sense channel value ∷ []
taken_of Clock value = reading.Clock value ∷ []

-- a service that asks nothing has the value 0
abbrev pub IsNothing : Ask → ℕ → Type 0
IsNothing Nothing value = value ≡ 0
IsNothing (Sensor channel) value = Unit {0}
IsNothing Clock value = Unit {0}

-- ---- stores

-- the address of the word that a store writes
abbrev pub store_address : Store → ℕ
store_address (Word a w) = a
store_address (Byte a v) = word_address a
store_address (Link a w) = a

abbrev pub store_in : (ℕ → ℕ) → Store → (ℕ → ℕ)
store_in m (Word a w) = put m a w
store_in m (Byte a v) = put m (word_address a) (with_byte a (m (word_address a)) v)
store_in m (Link a w) = put m a w

abbrev pub stores_in : (ℕ → ℕ) → List Store → (ℕ → ℕ)
stores_in m [] = m
stores_in m (s ∷ rest) = stores_in (store_in m s) rest

-- the words that an open block notes of these stores, each as it is before its store
abbrev pub noted_in : (ℕ → ℕ) → List Store → List Noted
noted_in m [] = []
noted_in m (s ∷ rest) = record { address = store_address s; old = m (store_address s) } ∷ noted_in (store_in m s) rest

abbrev pub block_by : BlockChange → Bool → List Store → (ℕ → ℕ) → Block → Block
block_by Opens noted stores m block = Some []
block_by Closes noted stores m block = None
block_by Stays noted stores m None = None
block_by Stays noted stores m (Some words) = Some (if noted then words ++ noted_in m stores else words)

-- the block after an effect
abbrev pub block_after : Effect → (ℕ → ℕ) → Block → Block
block_after e m block = block_by e.block e.noted e.stores m block

-- P of what a service does, if it is not refused
abbrev pub OnDoes : Deed → (Effect → Type 0) → Type 0
OnDoes (Refuses kind) P = Unit {0}
OnDoes (Does e) P = P e

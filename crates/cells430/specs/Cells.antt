-- What stands in memory, by address: scalars, temporaries, return words, link words, outputs, stamps. A cell has its value
-- where it is defined, and then its bytes are settled. So one map says of each address both what stands there and that it
-- counts.
use Rattle.std.specs.Prelude.{◌≡◌, ◌<◌, ◌≤◌, ℕ, ◌+◌, ◌-◌, ◌/◌, ◌%◌, true, ◌&&◌, ◌||◌, List, length, slice_get, Option, Some, None, if◌then◌else◌, nat_eq, nat_le, nat_lt}
use Rattle.base16.specs.Board.{outputs_start, outputs_end, stack_start, stack_end, segment_start, segment_top, data_start, data_end}
use Rattle.core430.specs.Bytes.{byte_at}
use Rattle.core430.specs.Uses.{AreWords}
use Rattle.ideal430.specs.Places.{is_between, is_even, is_fixed, segment_of}
use Rattle.ideal430.specs.Settled.{Bytes}

-- ---- cells

-- a word or a byte, with its value where it is defined
pub data Cell : Type 0 where
  Word : (value : Option ℕ) → Cell
  Byte : (value : Option ℕ) → Cell

-- the cells by their addresses: a word's is that of its low byte
abbrev pub Cells : Type 0
Cells = ℕ → Option Cell

-- a cell that is defined has its value in memory, and its bytes are settled; of another nothing is said
abbrev pub CellAt : (m : ℕ → ℕ) → Bytes → ℕ → Cell → Type 0
CellAt m settled a (Word (Some w)) = (m a ≡ w) × (settled a ≡ true) × (settled (a + 1) ≡ true)
CellAt m settled a (Word None) = Unit {0}
CellAt m settled a (Byte (Some v)) = (byte_at m a ≡ v) × (settled a ≡ true)
CellAt m settled a (Byte None) = Unit {0}

-- a cell is put at an address
abbrev pub set_cell : Cells → ℕ → Cell → Cells
set_cell f a x = λ b. if nat_eq b a then Some x else f b

-- ---- where cells may be

-- A byte that stays settled once it is, while the stack pointer is sp or lower: an output, global data or a stamp, the
-- working segment from sp on, an older segment from its last stack pointer on.
pub data Live (segment sp : ℕ) (pointers : ℕ → ℕ) (b : ℕ) : Type 0 where
  OfOutput : outputs_start ≤ b → b < outputs_end → Live segment sp pointers b
  OfData : data_start ≤ b → b < data_end → Live segment sp pointers b
  OfFrame : segment_start segment ≤ b → b < segment_top segment → segment_top segment ≤ stack_end → sp ≤ b
      → Live segment sp pointers b
  OfOlder : stack_start ≤ b → b < segment_start segment → segment_start segment ≤ stack_end → pointers (segment_of b) ≤ b
      → Live segment sp pointers b

-- a word stands at an even address, and no cell begins at its second byte
abbrev pub Fits : Cells → ℕ → Cell → Type 0
Fits f a (Word v) = (a % 2 ≡ 0) × (f (a + 1) ≡ None)
Fits f a (Byte v) = Unit {0}

pub record Shape (segment sp : ℕ) (pointers : ℕ → ℕ) (f : Cells) : Type 0 where
  pub live : (a : ℕ) (x : Cell) → f a ≡ Some x → Live segment sp pointers a
  pub fits : (a : ℕ) (x : Cell) → f a ≡ Some x → Fits f a x

-- ---- what stands

-- m has the words of c at the even addresses from lo to hi
pub record HasCode (c : ℕ → ℕ) (lo hi : ℕ) (m : ℕ → ℕ) : Type 0 where
  pub at : (a : ℕ) → a % 2 ≡ 0 → lo ≤ a → a < hi → m a ≡ c a

-- the code stands where it was placed, each cell stands, outputs, data and code are settled, and all words have 16 bits
pub record Facts (c : ℕ → ℕ) (lo hi : ℕ) (f : Cells) (m : ℕ → ℕ) (settled : Bytes) : Type 0 where
  pub code : HasCode c lo hi m
  pub stands : (a : ℕ) (x : Cell) → f a ≡ Some x → CellAt m settled a x
  pub lasting : (b : ℕ) → is_fixed b ≡ true → settled b ≡ true
  pub words : AreWords m

-- memory has the values of the defined cells
pub record HasValues (f : Cells) (m : ℕ → ℕ) : Type 0 where
  pub words : (a w : ℕ) → f a ≡ Some (Word (Some w)) → m a ≡ w
  pub bytes : (a v : ℕ) → f a ≡ Some (Byte (Some v)) → byte_at m a ≡ v

-- ---- cells that go with a frame or a segment

-- those of the working segment that lie below sp are gone
abbrev pub dropped : (segment sp : ℕ) → Cells → Cells
dropped segment sp f = λ b. if nat_le (segment_start segment) b && nat_lt b sp then None else f b

-- those of the segments above this one are gone, and in this one those below sp
abbrev pub unlinked : (segment sp : ℕ) → Cells → Cells
unlinked segment sp f = λ b.
    if (nat_le (segment_start segment) b && nat_lt b sp) || (nat_le (segment_top segment) b && nat_lt b stack_end) then None
    else f b

-- ---- outputs

-- the cells of the outputs: their length, the words that there are, and the places that are left of the 256
abbrev pub output_cell : List ℕ → Cells
output_cell os b =
    if nat_eq b outputs_start then Some (Word (Some (length os)))
    else (if is_even b then Some (Word (slice_get os ((b - outputs_start) / 2 - 1))) else None)

-- cells, and those of these outputs
abbrev pub with_outputs : List ℕ → Cells → Cells
with_outputs os f = λ b. if is_between outputs_start outputs_end b then output_cell os b else f b

-- ---- a frame

-- a cell with no value yet
abbrev pub IsBlank : Cell → Type 0
IsBlank (Word None) = Unit {0}
IsBlank (Byte None) = Unit {0}
IsBlank (Word (Some w)) = ⊥
IsBlank (Byte (Some v)) = ⊥

-- the cells of a new frame of so many bytes, by their offsets
pub record IsLayout (bytes : ℕ) (inner : Cells) : Type 0 where
  pub even : bytes % 2 ≡ 0
  pub within : (o : ℕ) (x : Cell) → inner o ≡ Some x → o < bytes
  pub fits : (o : ℕ) (x : Cell) → inner o ≡ Some x → Fits inner o x
  pub blank : (o : ℕ) (x : Cell) → inner o ≡ Some x → IsBlank x

-- cells, and those of a frame at sp
abbrev pub framed : (sp bytes : ℕ) → (inner f : Cells) → Cells
framed sp bytes inner f = λ b. if nat_le sp b && nat_lt b (sp + bytes) then inner (b - sp) else f b

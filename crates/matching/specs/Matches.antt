-- What the words of memory are where a C program is in a state: each scalar stands at its place in its encoding, and stamps
-- and outputs where the memory map has them. Where an expires block is open, the words with the noted ones put back are in
-- the same way what they were as it opened.
use Rattle.std.specs.Prelude.{◌≡◌, ℕ, ◌+◌, ◌/◌, ◌%◌, ℤ, nat_eq, Bool, true, false, if◌then◌else◌, List, [], ◌∷◌, ◌++◌, length, slice_get, Option, Some, None}
use Rattle.base16.specs.Board.{outputs_start}
use Rattle.base16.specs.Integer.{wrapped}
use Rattle.base16.specs.Memory.{put}
use Rattle.base16.specs.declared.image.Kind.{Kind}
use Rattle.c_run.specs.Actions.{kept}
use Rattle.c_values.specs.Objects.{wide}
use Rattle.c_values.specs.declared.state.Call.{Call}
use Rattle.c_values.specs.declared.state.Object.{Object}
use Rattle.c_values.specs.declared.state.Saved.{Saved}
use Rattle.c_values.specs.declared.state.State.{State}
use Rattle.c_values.specs.declared.value.Cell.{Cell}
use Rattle.c_values.specs.declared.value.Value.{Value}
use Rattle.c_values.specs.declared.value.Value.TheVariants.{Int, Pointer, Null, Undefined}
use Rattle.core430.specs.Bytes.{byte_at}
use Rattle.core_tree.specs.Data.{global_address, stamp_address}
use Rattle.core_tree.specs.Heights.{local_offset}
use Rattle.core_tree.specs.LawfulCore.{Every}
use Rattle.core_tree.specs.declared.program.Core.{Core}
use Rattle.core_tree.specs.declared.program.Function.{Function}
use Rattle.core_tree.specs.declared.types.Struct.{Struct}
use Rattle.ideal430.specs.Service.{Noted, Block}

-- ---- where objects stand

-- an object that is alive, and its address
pub record Placed : Type 0 where
  pub object : Object
  pub address : ℕ

-- objects in order, the first being the n-th of those that have these addresses
abbrev pub placed_from : (address : ℕ → ℕ) → (n : ℕ) → List Object → List Placed
placed_from address n [] = []
placed_from address n (o ∷ more) = record { object = o; address = address n } ∷ placed_from address (n + 1) more

-- where the n-th object of a function stands in its frame, and 0 where there is no such function
abbrev pub offset_in : List Struct → Option Function → (n : ℕ) → ℕ
offset_in structs None n = 0
offset_in structs (Some f) n = local_offset structs f n

-- a call's objects stand in its frame, each where its function has it
abbrev pub local_address : Core → Call → (n : ℕ) → ℕ
local_address core c n = c.frame + offset_in core.structs (slice_get core.functions c.function) n

abbrev pub placed_in_calls : Core → List Call → List Placed
placed_in_calls core [] = []
placed_in_calls core (c ∷ more) = placed_from (local_address core c) 0 c.locals ++ placed_in_calls core more

-- all objects that are alive: the program's variables, and those of the live calls
abbrev pub placed : Core → Saved → List Placed
placed core s = placed_from (global_address core) 0 s.globals ++ placed_in_calls core s.calls

-- ---- encodings

-- the address of the object of a number, if it is alive
abbrev pub address_of : List Placed → ℕ → Option ℕ
address_of [] n = None
address_of (p ∷ more) n = if nat_eq p.object.number n then Some p.address else address_of more n

-- a char is a byte, every other number is a word
abbrev pub number_code : Kind → ℤ → ℕ
number_code k z = if wide k then wrapped z else wrapped z % 256

-- the address that lies so many bytes behind that of an object
abbrev pub pointer_code : Option ℕ → (offset : ℕ) → Option ℕ
pointer_code None offset = None
pointer_code (Some address) offset = Some ((address + offset) % 65536)

-- How a value stands in a scalar of a kind. A value that is not defined may stand in any way, and so may a pointer to an
-- object that is gone.
abbrev pub encoded : (alive : List Placed) → Kind → Value → Option ℕ
encoded alive k (Int z) = Some (number_code k z)
encoded alive k (Pointer n offset) = pointer_code (address_of alive n) offset
encoded alive k Null = Some 0
encoded alive k Undefined = None

-- ---- scalars

-- a word stands at an address, its low byte first
pub record WordStands (m : ℕ → ℕ) (address word : ℕ) : Type 0 where
  pub low : byte_at m address ≡ word % 256
  pub high : byte_at m (address + 1) ≡ word / 256

-- a char is a byte, every other scalar a word
abbrev pub CodeStands : (m : ℕ → ℕ) → (wide : Bool) → (address code : ℕ) → Type 0
CodeStands m true address code = WordStands m address code
CodeStands m false address code = byte_at m address ≡ code

abbrev pub Says : (m : ℕ → ℕ) → Kind → (address : ℕ) → Option ℕ → Type 0
Says m k address None = Unit {0}
Says m k address (Some code) = CodeStands m (wide k) address code

-- each scalar of an object that stands at an address
abbrev pub ScalarsStand : (m : ℕ → ℕ) → (alive : List Placed) → (address : ℕ) → List Cell → Type 0
ScalarsStand m alive address cells = Every (λ c. Says m c.kind (address + c.offset) (encoded alive c.kind c.value)) cells

-- each scalar of these objects
abbrev pub ObjectsStand : (m : ℕ → ℕ) → (alive : List Placed) → List Placed → Type 0
ObjectsStand m alive objects = Every (λ p. ScalarsStand m alive p.address p.object.cells) objects

-- ---- stamps and outputs

-- a stamp is two words, the low one first, and FFFF FFFF is none
abbrev pub stamp_code : Option ℕ → ℕ
stamp_code None = 0xFFFFFFFF
stamp_code (Some ms) = ms

pub record StampStands (m : ℕ → ℕ) (address : ℕ) (stamp : Option ℕ) : Type 0 where
  pub low : WordStands m address (stamp_code stamp % 65536)
  pub high : WordStands m (address + 2) (stamp_code stamp / 65536)

-- stamps in order, the first being the program's n-th
abbrev pub StampsStand : (m : ℕ → ℕ) → Core → (n : ℕ) → List (Option ℕ) → Type 0
StampsStand m core n [] = Unit {0}
StampsStand m core n (stamp ∷ more) = StampStands m (stamp_address core n) stamp × StampsStand m core (n + 1) more

-- words one behind the other
abbrev pub WordsStand : (m : ℕ → ℕ) → (address : ℕ) → List ℕ → Type 0
WordsStand m address [] = Unit {0}
WordsStand m address (word ∷ more) = WordStands m address word × WordsStand m (address + 2) more

-- the outputs stand behind the word of their length
pub record OutputsStand (m : ℕ → ℕ) (outputs : List ℕ) : Type 0 where
  pub count : WordStands m outputs_start (length outputs)
  pub words : WordsStand m (outputs_start + 2) outputs

-- ---- states

-- The words are those of a state: of its variables and live calls, its stamps and its outputs.
pub record WordsAre (core : Core) (s : Saved) (m : ℕ → ℕ) : Type 0 where
  pub objects : ObjectsStand m (placed core s) (placed core s)
  pub stamps : StampsStand m core 0 s.stamps
  pub outputs : OutputsStand m s.outputs

-- the memory with the noted words put back, from the last to the first: so of a word that is noted twice the first counts
abbrev pub put_back : List Noted → (ℕ → ℕ) → (ℕ → ℕ)
put_back [] m = m
put_back (x ∷ later) m = put (put_back later m) x.address x.old

-- As many words are noted as the block counts, and with them put back the words are those of the state at its opening.
pub record IsKept (core : Core) (opening : Saved) (noted : List Noted) (m : ℕ → ℕ) : Type 0 where
  pub count : length noted ≡ opening.words
  pub words : WordsAre core opening (put_back noted m)

-- a block is open in the state exactly where words are noted
abbrev pub BlockMatches : Core → Option Saved → Block → (m : ℕ → ℕ) → Type 0
BlockMatches core None None m = Unit {0}
BlockMatches core (Some opening) (Some noted) m = IsKept core opening noted m
BlockMatches core _ _ m = ⊥

-- Words of memory, with those that an open block has noted, match a state of a program.
pub record Matches (core : Core) (s : State) (m : ℕ → ℕ) (noted : Block) : Type 0 where
  pub words : WordsAre core (kept s) m
  pub block : BlockMatches core s.block noted m

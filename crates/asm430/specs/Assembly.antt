-- Assembling: where items stand, which place a label denotes, the words of each item, and what is at fault.
-- A place is a number of words from the beginning of the code, which stands from byte address 8000 (hexadecimal).
use Rattle.std.specs.Prelude.{◌≡◌, ℕ, ◌+◌, ◌*◌, Bool, true, false, ◌&&◌, List, [], ◌∷◌, ◌++◌, length, take, slice_get, slice_range, Option, Some, None, if◌then◌else◌, nat_eq, nat_lt, nat_le, ℤ, pos, ◌-ℤ◌}
use Rattle.isa430.specs.declared.instr.Instr.{Instr}
use Rattle.isa430.specs.declared.instr.Instr.TheVariants.{Two, One, Jump as JumpBy}
use Rattle.isa430.specs.declared.instr.TwoOp.TheVariants.{Mov}
use Rattle.isa430.specs.declared.instr.OneOp.TheVariants.{Call}
use Rattle.isa430.specs.declared.instr.Src.TheVariants.{Immediate}
use Rattle.isa430.specs.declared.instr.Dst.TheVariants.{Reg as ToReg}
use Rattle.isa430.specs.Table.{code_of, valid, offset_formed, WordsAt}
use Rattle.asm430.specs.declared.item.Item.{Item}
use Rattle.asm430.specs.declared.item.Item.TheVariants.{Instr as Plain, Label, Jump, Branch, CallTo, AddressOf, Word}
use Rattle.asm430.specs.declared.item.AsmErr.{AsmErr}
use Rattle.asm430.specs.declared.item.AsmErr.TheVariants.{Unbound, Far, TooLong, NoMemory}

-- ---- items

-- instructions are valid, and addresses are loaded into R4 to R15
abbrev pub is_formed : Item → Bool
is_formed (Plain instr) = valid instr
is_formed (Label label) = true
is_formed (Jump cond label) = true
is_formed (Branch label) = true
is_formed (CallTo label) = true
is_formed (AddressOf label register) = nat_le 4 register && nat_lt register 16
is_formed (Word word) = true

abbrev pub are_formed : List Item → Bool
are_formed [] = true
are_formed (item ∷ rest) = is_formed item && are_formed rest

-- the words that an item takes
abbrev pub words_of : Item → ℕ
words_of (Plain instr) = length (code_of instr)
words_of (Label label) = 0
words_of (Jump cond label) = 1
words_of (Branch label) = 2
words_of (CallTo label) = 2
words_of (AddressOf label register) = 2
words_of (Word word) = 1

abbrev pub words_in : List Item → ℕ
words_in [] = 0
words_in (item ∷ rest) = words_of item + words_in rest

-- the place of an item, by its number in the list: the words of the items before it
abbrev pub place : List Item → ℕ → ℕ
place items number = words_in (take number items)

-- ---- labels

abbrev pub is_label : ℕ → Item → Bool
is_label label (Plain instr) = false
is_label label (Label other) = nat_eq other label
is_label label (Jump cond other) = false
is_label label (Branch other) = false
is_label label (CallTo other) = false
is_label label (AddressOf other register) = false
is_label label (Word word) = false

-- the places at which a label stands among items that begin at this place
abbrev pub places_from : ℕ → ℕ → List Item → List ℕ
places_from label start [] = []
places_from label start (item ∷ rest) =
    (if is_label label item then start ∷ [] else []) ++ places_from label (start + words_of item) rest

-- the one number of a list
abbrev pub the_only : List ℕ → Option ℕ
the_only [] = None
the_only (n ∷ []) = Some n
the_only (n ∷ (m ∷ rest)) = None

-- the place that a label denotes: none where it does not stand exactly once
unfoldable pub place_of : List Item → ℕ → Option ℕ
place_of items label = the_only (places_from label 0 items)

-- the byte address of a place; a label that denotes none has no address, and no words are made then
abbrev pub address : Option ℕ → ℕ
address None = 0
address (Some target) = 0x8000 + 2 * target

-- the words from the one after a jump at a place to its target
abbrev pub distance : ℕ → ℕ → ℤ
distance start target = pos target -ℤ pos (start + 1)

abbrev pub offset : ℕ → Option ℕ → ℤ
offset start None = pos 0
offset start (Some target) = distance start target

-- ---- the words

-- MOV #address,Rn
abbrev pub load : ℕ → ℕ → Instr
load value register = Two Mov false (Immediate value) (ToReg register)

-- CALL #address
abbrev pub call : ℕ → Instr
call value = One Call false (Immediate value)

-- the words of an item that stands at this place among all the items
abbrev pub item_words : List Item → ℕ → Item → List ℕ
item_words all start (Plain instr) = code_of instr
item_words all start (Label label) = []
item_words all start (Jump cond label) = code_of (JumpBy cond (offset start (place_of all label)))
item_words all start (Branch label) = code_of (load (address (place_of all label)) 0)
item_words all start (CallTo label) = code_of (call (address (place_of all label)))
item_words all start (AddressOf label register) = code_of (load (address (place_of all label)) register)
item_words all start (Word word) = word ∷ []

-- each item's words stand at its place
abbrev pub StandInOrder : List Item → List ℕ → Type 0
StandInOrder items words =
    (number : ℕ) (item : Item) → slice_get items number ≡ Some item →
    slice_range words (place items number) (place items number + words_of item) ≡ item_words items (place items number) item

-- the words of these items stand in memory, the first at this place
abbrev pub StandFrom : List Item → (ℕ → ℕ) → ℕ → List Item → Type 0
StandFrom all m start [] = Unit {0}
StandFrom all m start (item ∷ rest) =
    WordsAt m (0x8000 + 2 * start) (item_words all start item) × StandFrom all m (start + words_of item) rest

-- a memory that holds the words as code holds the words of each item at its place
abbrev pub StandInMemory : List Item → List ℕ → Type 0
StandInMemory items words = (m : ℕ → ℕ) → WordsAt m 0x8000 words → StandFrom items m 0 items

-- ---- what is at fault, in order

-- the label that an item uses
abbrev pub used : Item → Option ℕ
used (Plain instr) = None
used (Label label) = None
used (Jump cond label) = Some label
used (Branch label) = Some label
used (CallTo label) = Some label
used (AddressOf label register) = Some label
used (Word word) = None

abbrev pub unbound_at : ℕ → Option ℕ → List AsmErr
unbound_at label None = Unbound label ∷ []
unbound_at label (Some target) = []

abbrev pub unbound_by : List Item → Option ℕ → List AsmErr
unbound_by all None = []
unbound_by all (Some label) = unbound_at label (place_of all label)

-- the used labels that do not stand exactly once, in the order of their uses
abbrev pub unbound_in : List Item → List Item → List AsmErr
unbound_in all [] = []
unbound_in all (item ∷ rest) = unbound_by all (used item) ++ unbound_in all rest

abbrev pub far_to : ℕ → ℕ → Option ℕ → List AsmErr
far_to number start None = []
far_to number start (Some target) =
    if offset_formed (distance start target) then [] else Far number (distance start target) ∷ []

abbrev pub far_by : List Item → ℕ → ℕ → Item → List AsmErr
far_by all number start (Plain instr) = []
far_by all number start (Label label) = []
far_by all number start (Jump cond label) = far_to number start (place_of all label)
far_by all number start (Branch label) = []
far_by all number start (CallTo label) = []
far_by all number start (AddressOf label register) = []
far_by all number start (Word word) = []

-- the jumps whose distance is below -512 or above 511, among items that begin with this number and at this place
abbrev pub far_in : List Item → ℕ → ℕ → List Item → List AsmErr
far_in all number start [] = []
far_in all number start (item ∷ rest) =
    far_by all number start item ++ far_in all (number + 1) (start + words_of item) rest

abbrev pub too_long : ℕ → List AsmErr
too_long words = if nat_lt 14336 words then TooLong ∷ [] else []

abbrev pub faults : List Item → List AsmErr
faults items = unbound_in items items ++ (far_in items 0 0 items ++ too_long (words_in items))

abbrev pub first : List AsmErr → Option AsmErr
first [] = None
first (fault ∷ rest) = Some fault

-- an error is the first fault; only where there is none, memory may have run out
abbrev pub IsCause : List AsmErr → AsmErr → Type 0
IsCause all (Unbound label) = first all ≡ Some (Unbound label)
IsCause all (Far item distance) = first all ≡ Some (Far item distance)
IsCause all TooLong = first all ≡ Some TooLong
IsCause all NoMemory = all ≡ []

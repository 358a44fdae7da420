-- The instructions that items are, and which labels stand among items.
use Rattle.std.specs.Prelude.{ℕ, ◌+◌, ◌<◌, ◌≤◌, Bool, true, false, ◌&&◌, List, [], ◌∷◌, ◌++◌, Option, Some, None}
use Rattle.std.specs.Option.{option_to_list}
use Rattle.isa430.specs.declared.instr.Instr.{Instr}
use Rattle.isa430.specs.declared.instr.Instr.TheVariants.{Jump as JumpBy}
use Rattle.asm430.specs.declared.item.Item.{Item}
use Rattle.asm430.specs.declared.item.Item.TheVariants.{Instr as Plain, Label, Jump, Branch, CallTo, AddressOf, Word}
use Rattle.asm430.specs.Assembly.{words_of, place_of, address, offset, load, call}

-- the instruction that an item is where it stands at this place among all the items: none for a label and a plain word
abbrev pub instr_of : List Item → ℕ → Item → Option Instr
instr_of all start (Plain instr) = Some instr
instr_of all start (Label label) = None
instr_of all start (Jump cond label) = Some (JumpBy cond (offset start (place_of all label)))
instr_of all start (Branch label) = Some (load (address (place_of all label)) 0)
instr_of all start (CallTo label) = Some (call (address (place_of all label)))
instr_of all start (AddressOf label register) = Some (load (address (place_of all label)) register)
instr_of all start (Word word) = None

-- the instructions of items one after another, the first at this place
abbrev pub instrs_from : List Item → ℕ → List Item → List Instr
instrs_from all start [] = []
instrs_from all start (item ∷ rest) = option_to_list (instr_of all start item) ++ instrs_from all (start + words_of item) rest

-- an item that is an instruction or a label, and no plain word
abbrev pub is_code : Item → Bool
is_code (Plain instr) = true
is_code (Label label) = true
is_code (Jump cond label) = true
is_code (Branch label) = true
is_code (CallTo label) = true
is_code (AddressOf label register) = true
is_code (Word word) = false

abbrev pub are_code : List Item → Bool
are_code [] = true
are_code (item ∷ rest) = is_code item && are_code rest

-- where it is a label, its number is one of those from lo to below hi
abbrev pub LabelIn : ℕ → ℕ → Item → Type 0
LabelIn lo hi (Plain instr) = Unit {0}
LabelIn lo hi (Label label) = (lo ≤ label) × (label < hi)
LabelIn lo hi (Jump cond label) = Unit {0}
LabelIn lo hi (Branch label) = Unit {0}
LabelIn lo hi (CallTo label) = Unit {0}
LabelIn lo hi (AddressOf label register) = Unit {0}
LabelIn lo hi (Word word) = Unit {0}

-- the labels that stand among these items have such numbers
abbrev pub LabelsIn : ℕ → ℕ → List Item → Type 0
LabelsIn lo hi [] = Unit {0}
LabelsIn lo hi (item ∷ rest) = LabelIn lo hi item × LabelsIn lo hi rest

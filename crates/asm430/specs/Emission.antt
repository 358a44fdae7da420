-- The words of items one after another, where each can be made.
use Rattle.std.specs.Prelude.{ℕ, ◌+◌, Bool, true, ◌&&◌, List, [], ◌∷◌, ◌++◌, nat_le, nat_lt}
use Rattle.isa430.specs.Table.{valid, offset_formed}
use Rattle.asm430.specs.declared.item.Item.{Item}
use Rattle.asm430.specs.declared.item.Item.TheVariants.{Instr as Plain, Label, Jump, Branch, CallTo, AddressOf, Word}
use Rattle.asm430.specs.Assembly.{place_of, offset, words_of, item_words}

-- an item with words: its instruction, if it is one, is valid
abbrev pub is_ready : List Item → ℕ → Item → Bool
is_ready all start (Plain instr) = valid instr
is_ready all start (Label label) = true
is_ready all start (Jump cond label) = offset_formed (offset start (place_of all label))
is_ready all start (Branch label) = true
is_ready all start (CallTo label) = true
is_ready all start (AddressOf label register) = nat_le 4 register && nat_lt register 16
is_ready all start (Word word) = true

abbrev pub are_ready : List Item → ℕ → List Item → Bool
are_ready all start [] = true
are_ready all start (item ∷ rest) = is_ready all start item && are_ready all (start + words_of item) rest

abbrev pub words_from : List Item → ℕ → List Item → List ℕ
words_from all start [] = []
words_from all start (item ∷ rest) = item_words all start item ++ words_from all (start + words_of item) rest

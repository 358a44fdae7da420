-- Assembled items in memory, and the addresses of their parts.
use Rattle.std.specs.Prelude.{◌≡◌, ℕ, ◌+◌, ◌*◌, List, [], ◌∷◌, IsTrue}
use Rattle.isa430.specs.declared.instr.Instr.{Instr}
use Rattle.isa430.specs.Table.{size_of, WordsAt}
use Rattle.asm430.specs.declared.item.Item.{Item}
use Rattle.asm430.specs.Assembly.{are_formed, words_in, faults, StandInMemory}

-- these items were assembled to these words, as the contract of the assembler says it, and m holds the words as code
pub record IsAssembled (items : List Item) (words : List ℕ) (m : ℕ → ℕ) : Type 0 where
  pub formed : IsTrue (are_formed items)
  pub faultless : faults items ≡ []
  pub stands : StandInMemory items words
  pub held : WordsAt m 0x8000 words

-- the byte address of what stands after these first items
abbrev pub address_of : List Item → ℕ
address_of front = 0x8000 + 2 * words_in front

-- the byte address after the last word
abbrev pub end_of : List Item → ℕ
end_of items = 0x8000 + 2 * words_in items

-- the bytes of a list of instructions
abbrev pub size_of_code : List Instr → ℕ
size_of_code [] = 0
size_of_code (i ∷ is) = size_of i + size_of_code is

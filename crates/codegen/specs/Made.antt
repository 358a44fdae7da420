-- The image of a program.
use Rattle.std.specs.Prelude.{◌≡◌, ℕ, suc, List, [], ◌∷◌, length}
use Rattle.base16.specs.declared.image.FuncSym.{FuncSym}
use Rattle.base16.specs.declared.image.Image.{Image}
use Rattle.core_tree.specs.Data.{scalars}
use Rattle.core_tree.specs.Heights.{frame_bytes}
use Rattle.core_tree.specs.declared.program.Core.{Core}
use Rattle.core_tree.specs.declared.program.Function.{Function}
use Rattle.core_tree.specs.declared.types.Struct.{Struct}
use Rattle.asm430.specs.declared.item.Item.{Item}
use Rattle.asm430.specs.Assembly.{words_in, place_of, address, StandInOrder, StandInMemory}
use Rattle.rt430.specs.declared.words.Helper.{Helper}
use Rattle.ir.specs.declared.form.Ir.{Ir}
use Rattle.select430.specs.Labels.{function_label}
use Rattle.codegen.specs.Program.{items_of, code_items}
use Rattle.codegen.specs.Words.{global_words}

-- ---- the image

-- the functions of a program from a number on, where the labels of these items say
abbrev pub functions_from : List Item → List Struct → ℕ → List Function → List FuncSym
functions_from items structs n [] = []
functions_from items structs n (x ∷ xs) =
    record { name = x.name; address = address (place_of items (function_label n)); frame = frame_bytes structs x }
    ∷ functions_from items structs (suc n) xs

-- the words are those of the items, in order, and there are no others
pub record AreWordsOf (items : List Item) (words : List ℕ) : Type 0 where
  pub order : StandInOrder items words
  pub long : length words ≡ words_in items
  pub memory : StandInMemory items words

-- the image of a program, made of its form; each helper routine has its words
pub record IsImageOf (routine : Helper → List ℕ) (core : Core) (ir : Ir) (image : Image) : Type 0 where
  pub code : AreWordsOf (items_of routine core ir) image.code
  pub tables : image.tables ≡ words_in (code_items routine ir)
  pub globals : image.globals ≡ global_words core
  pub scalars : image.symbols.scalars ≡ scalars core
  pub functions : image.symbols.functions ≡ functions_from (items_of routine core ir) core.structs 0 core.functions

-- the image of a program and its form, where the helper routines have some words
abbrev pub IsImage : Core → Ir → Image → Type 0
IsImage core ir image = (routine : Helper → List ℕ) × IsImageOf routine core ir image

-- The listing of a program: what stands in its code and its check tables in order of address, then its symbols.
use Rattle.std.specs.Prelude.{◌≡◌, ℕ, ◌+◌, ◌*◌, Bool, true, ◌&&◌, List, [], ◌∷◌, ◌++◌, length, take, drop, Option, Some, None, codes, IsTrue}
use Rattle.std.specs.List.{flat_map}
use Rattle.std.specs.Fmt.{decimal}
use Rattle.base16.specs.Hexadecimal.{hex4}
use Rattle.base16.specs.declared.image.Scalar.{Scalar}
use Rattle.base16.specs.declared.image.FuncSym.{FuncSym}
use Rattle.base16.specs.declared.image.Image.{Image}
use Rattle.isa430.specs.declared.instr.Instr.{Instr}
use Rattle.isa430.specs.Table.{code_of, valid}

-- ---- what stands in code

-- an instruction, or a word by itself
pub data Entry : Type 0 where
  Instruction : Instr → Entry
  Datum : ℕ → Entry

abbrev pub entry_words : Entry → List ℕ
entry_words (Instruction instr) = code_of instr
entry_words (Datum word) = word ∷ []

-- the words of entries one after another
abbrev pub words_of_entries : List Entry → List ℕ
words_of_entries [] = []
words_of_entries (entry ∷ rest) = entry_words entry ++ words_of_entries rest

-- no instruction's words stand in front of these
abbrev pub BeginWithNone : List ℕ → Type 0
BeginWithNone words = (instr : Instr) (after : List ℕ) → IsTrue (valid instr) → code_of instr ++ after ≡ words → ⊥

-- before these words an entry is a valid instruction, and a word by itself only where no instruction begins with it
abbrev pub StandsBefore : List ℕ → Entry → Type 0
StandsBefore after (Instruction instr) = IsTrue (valid instr)
StandsBefore after (Datum word) = BeginWithNone (word ∷ after)

abbrev pub AreStanding : List Entry → Type 0
AreStanding [] = Unit {0}
AreStanding (entry ∷ rest) = StandsBefore (words_of_entries rest) entry × AreStanding rest

-- these words are these entries, one after another
abbrev pub IsReading : List ℕ → List Entry → Type 0
IsReading words entries = AreStanding entries × (words_of_entries entries ≡ words)

-- ---- instructions alone

abbrev pub are_valid : List Instr → Bool
are_valid [] = true
are_valid (instr ∷ rest) = valid instr && are_valid rest

abbrev pub codes_of : List Instr → List ℕ
codes_of [] = []
codes_of (instr ∷ rest) = code_of instr ++ codes_of rest

abbrev pub instructions : List Instr → List Entry
instructions [] = []
instructions (instr ∷ rest) = Instruction instr ∷ instructions rest

-- ---- lines

-- a line feed ends each line
abbrev pub line : List ℕ → List ℕ
line text = text ++ 10 ∷ []

-- a space before each word
abbrev pub spaced_words : List ℕ → List ℕ
spaced_words [] = []
spaced_words (w ∷ rest) = (32 ∷ []) ++ hex4 w ++ spaced_words rest

abbrev pub data_line : ℕ → ℕ → List ℕ
data_line address word = line (hex4 address ++ codes " data " ++ hex4 word)

-- the address of an instruction and its words, or the address of a word by itself and the word
abbrev pub entry_line : ℕ → Entry → List ℕ
entry_line address (Instruction instr) = line (hex4 address ++ spaced_words (code_of instr))
entry_line address (Datum word) = data_line address word

-- entries that stand from this address on
abbrev pub entry_lines : ℕ → List Entry → List ℕ
entry_lines address [] = []
entry_lines address (entry ∷ rest) = entry_line address entry ++ entry_lines (address + 2 * length (entry_words entry)) rest

-- words of check tables that stand from this address on
abbrev pub data_lines : ℕ → List ℕ → List ℕ
data_lines address [] = []
data_lines address (word ∷ rest) = data_line address word ++ data_lines (address + 2) rest

abbrev pub global_line : Scalar → List ℕ
global_line scalar = line (codes "global " ++ scalar.name ++ codes " " ++ hex4 scalar.address)

abbrev pub stamp_at : List ℕ → Option ℕ → List ℕ
stamp_at name None = []
stamp_at name (Some address) = line (codes "stamp " ++ name ++ codes " " ++ hex4 address)

-- only a timed scalar has a stamp
abbrev pub stamp_line : Scalar → List ℕ
stamp_line scalar = stamp_at scalar.name scalar.stamp

abbrev pub function_line : FuncSym → List ℕ
function_line function = line (codes "function " ++ function.name ++ codes " " ++ hex4 function.address ++ codes " " ++ decimal function.frame)

abbrev pub symbol_lines : Image → List ℕ
symbol_lines image =
    flat_map global_line image.symbols.scalars ++ flat_map stamp_line image.symbols.scalars ++ flat_map function_line image.symbols.functions

-- ---- the listing

-- the listing, where these entries are the instructions of the program
abbrev pub listing_text : Image → List Entry → List ℕ
listing_text image entries =
    entry_lines 0x8000 entries ++ data_lines (0x8000 + 2 * image.tables) (drop image.tables image.code) ++ symbol_lines image

-- a text is the listing of a program: its first words, before the check tables, are read as these entries
pub record IsListing (image : Image) (text : List ℕ) : Type 0 where
  pub entries : List Entry
  pub reading : IsReading (take image.tables image.code) entries
  pub lines : text ≡ listing_text image entries

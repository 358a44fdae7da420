-- The words of a program's data at its start: each scalar of a variable in the encoding of its first value, stamps that are
-- none, and 0 between them.
use Rattle.std.specs.Prelude.{ℕ, zero, suc, ◌+◌, ◌*◌, ◌/◌, ◌%◌, nat_eq, true, ◌&&◌, if◌then◌else◌, List, [], ◌∷◌, ◌++◌, Option, Some, None}
use Rattle.base16.specs.Board.{data_start}
use Rattle.c_meaning.specs.After.{start}
use Rattle.c_run.specs.Actions.{kept}
use Rattle.c_values.specs.Objects.{wide}
use Rattle.c_values.specs.declared.value.Cell.{Cell}
use Rattle.core_tree.specs.Data.{stamp_address, data_bytes}
use Rattle.core_tree.specs.declared.program.Core.{Core}
use Rattle.matching.specs.Matches.{Placed, placed, encoded, stamp_code}
use Rattle.codegen.specs.declared.data.Datum.{Datum}

-- ---- what there is

-- a scalar of an object that stands at an address
abbrev pub scalar_datum : (alive : List Placed) → (address : ℕ) → Cell → Datum
scalar_datum alive address c = record { address = address + c.offset; wide = wide c.kind; code = encoded alive c.kind c.value }

abbrev pub scalar_data : (alive : List Placed) → (address : ℕ) → List Cell → List Datum
scalar_data alive address [] = []
scalar_data alive address (c ∷ cs) = scalar_datum alive address c ∷ scalar_data alive address cs

abbrev pub object_data : (alive : List Placed) → List Placed → List Datum
object_data alive [] = []
object_data alive (p ∷ ps) = scalar_data alive p.address p.object.cells ++ object_data alive ps

abbrev pub word_datum : (address code : ℕ) → Datum
word_datum address code = record { address = address; wide = true; code = Some code }

-- a stamp is two words, the low one first
abbrev pub stamp_data : Core → (n : ℕ) → List (Option ℕ) → List Datum
stamp_data core n [] = []
stamp_data core n (stamp ∷ more) =
    word_datum (stamp_address core n) (stamp_code stamp % 65536)
    ∷ word_datum (stamp_address core n + 2) (stamp_code stamp / 65536)
    ∷ stamp_data core (n + 1) more

-- the scalars and stamps of a program at its start
abbrev pub data_of : Core → List Datum
data_of core =
    object_data (placed core (kept (start core))) (placed core (kept (start core))) ++ stamp_data core 0 (start core).stamps

-- ---- bytes and words

abbrev pub code_or_zero : Option ℕ → ℕ
code_or_zero None = 0
code_or_zero (Some code) = code

-- the byte at an address, low bytes first
abbrev pub byte_of : List Datum → ℕ → ℕ
byte_of [] a = 0
byte_of (d ∷ ds) a =
    if nat_eq d.address a then code_or_zero d.code % 256
    else (if d.wide && nat_eq (d.address + 1) a then code_or_zero d.code / 256 else byte_of ds a)

abbrev pub word_of : List Datum → ℕ → ℕ
word_of ds a = byte_of ds a + 256 * byte_of ds (a + 1)

-- so many words from an address on
abbrev pub words_from : List Datum → (address count : ℕ) → List ℕ
words_from ds a zero = []
words_from ds a (suc n) = word_of ds a ∷ words_from ds (a + 2) n

abbrev pub global_words : Core → List ℕ
global_words core = words_from (data_of core) data_start (data_bytes core / 2)

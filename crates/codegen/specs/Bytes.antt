-- The bytes of data, and the words that they are.
use Rattle.std.specs.Prelude.{ℕ, zero, suc, ◌+◌, ◌*◌, ◌/◌, ◌%◌, nat_eq, Bool, true, false, if◌then◌else◌, List, [], ◌∷◌}
use Rattle.codegen.specs.declared.data.Datum.{Datum}
use Rattle.codegen.specs.Words.{code_or_zero, byte_of}

-- so many bytes from an address on
abbrev pub bytes_from : List Datum → (address count : ℕ) → List ℕ
bytes_from ds a zero = []
bytes_from ds a (suc n) = byte_of ds a ∷ bytes_from ds (a + 1) n

-- bytes from one address on, with another byte at an address if it is among them
abbrev pub with_byte : List ℕ → (from address byte : ℕ) → List ℕ
with_byte [] a address byte = []
with_byte (x ∷ xs) a address byte = (if nat_eq address a then byte else x) ∷ with_byte xs (a + 1) address byte

-- bytes from one address on, with the high byte of a word at an address
abbrev pub with_high : Bool → List ℕ → (from address code : ℕ) → List ℕ
with_high false bytes a address code = bytes
with_high true bytes a address code = with_byte bytes a (address + 1) (code / 256)

-- bytes from one address on, with those of a datum
abbrev pub with_datum : Datum → List ℕ → (from : ℕ) → List ℕ
with_datum d bytes a =
    with_byte (with_high d.wide bytes a d.address (code_or_zero d.code)) a d.address (code_or_zero d.code % 256)

-- the words of bytes, low bytes first
abbrev pub paired : List ℕ → List ℕ
paired [] = []
paired (low ∷ []) = []
paired (low ∷ high ∷ more) = (low + 256 * high) ∷ paired more

-- Bytes in a memory of words: the low byte of a word stands at its even address, the high byte one above (MSP430
-- user's guide, 16-bit CPU, "Memory Organization").
use Rattle.std.specs.Prelude.{ℕ, ◌+◌, ◌-◌, ◌*◌, ◌/◌, ◌%◌, if◌then◌else◌, nat_eq}

-- the address of the word that a byte stands in
abbrev pub word_address : ℕ → ℕ
word_address a = a - a % 2

-- the byte at this address in its word
abbrev pub byte_in : ℕ → ℕ → ℕ
byte_in a w = if nat_eq (a % 2) 0 then w % 256 else w / 256

-- the word with the byte at this address replaced
abbrev pub with_byte : ℕ → ℕ → ℕ → ℕ
with_byte a w b = if nat_eq (a % 2) 0 then w / 256 * 256 + b else w % 256 + b * 256

abbrev pub byte_at : (ℕ → ℕ) → ℕ → ℕ
byte_at m a = byte_in a (m (word_address a))

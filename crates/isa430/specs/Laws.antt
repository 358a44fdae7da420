-- Encoding and decoding are inverse on the table.
use Rattle.std.specs.Prelude.{◌≡◌, ℕ, ◌+◌, [], ◌∷◌, length, take, Some}
use Rattle.isa430.specs.declared.instr.Instr.{Instr}
use Rattle.isa430.specs.Table.{code_of, decode_of, WordsAt}

-- wherever the words of this instruction stand in a memory, it is what is decoded there, whatever stands around them
abbrev pub IsReadBack : Instr → Type 0
IsReadBack i = (m : ℕ → ℕ) (a : ℕ) → WordsAt m a (code_of i) → decode_of (m a) (m (a + 2)) (m (a + 2 + 2)) ≡ Some i

-- the words of this instruction are the first of these
abbrev pub BeginWith : ℕ → ℕ → ℕ → Instr → Type 0
BeginWith w0 w1 w2 i = take (length (code_of i)) (w0 ∷ w1 ∷ w2 ∷ []) ≡ code_of i

-- where a memory holds words that decode to this instruction, it holds the instruction's words
abbrev pub StandsWhereDecoded : Instr → Type 0
StandsWhereDecoded i = (m : ℕ → ℕ) (a : ℕ) → decode_of (m a) (m (a + 2)) (m (a + 2 + 2)) ≡ Some i → WordsAt m a (code_of i)

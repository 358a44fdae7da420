-- Code that stands in memory, apart from the words that are written.
use Rattle.std.specs.Prelude.{◌≡◌, ◌<◌, ◌≤◌, ℕ, ◌+◌, ◌%◌, Bool, true, ◌&&◌, List, [], ◌∷◌, ◌++◌, IsTrue}
use Rattle.isa430.specs.declared.instr.Instr.{Instr}
use Rattle.isa430.specs.Table.{size_of, code_of, valid, WordsAt}
use Rattle.base16.specs.Memory.{put}
use Rattle.core430.specs.Bytes.{word_address, with_byte}

-- the words of a list of instructions, one after another
abbrev pub words_of_code : List Instr → List ℕ
words_of_code [] = []
words_of_code (i ∷ is) = code_of i ++ words_of_code is

abbrev pub are_valid : List Instr → Bool
are_valid [] = true
are_valid (i ∷ is) = valid i && are_valid is

-- m has the words of c at the addresses from lo to hi
pub record Agrees (c : ℕ → ℕ) (lo hi : ℕ) (m : ℕ → ℕ) : Type 0 where
  pub at : (a : ℕ) → lo ≤ a → a < hi → m a ≡ c a

-- this instruction stands at pc, between lo and hi, and all that lies below the entries of the services
pub record Here (c : ℕ → ℕ) (lo hi pc : ℕ) (i : Instr) : Type 0 where
  pub words : WordsAt c pc (code_of i)
  pub even : pc % 2 ≡ 0
  pub low : lo ≤ pc
  pub high : pc + size_of i ≤ hi
  pub top : hi < 65280
  pub is_valid : IsTrue (valid i)

-- these instructions stand from pc on, one after another
abbrev pub Placed : (ℕ → ℕ) → ℕ → ℕ → ℕ → List Instr → Type 0
Placed c lo hi pc [] = Unit {0}
Placed c lo hi pc (i ∷ is) = Here c lo hi pc i × Placed c lo hi (pc + size_of i) is

-- every address from lo to hi is such
abbrev pub Owns : (ℕ → Type 0) → ℕ → ℕ → Type 0
Owns R lo hi = (a : ℕ) → lo ≤ a → a < hi → R a

-- a memory with one byte written
abbrev pub put_byte : (ℕ → ℕ) → ℕ → ℕ → (ℕ → ℕ)
put_byte m a v = put m (word_address a) (with_byte a (m (word_address a)) v)

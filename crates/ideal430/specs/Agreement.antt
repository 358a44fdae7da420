-- Another memory goes along with the machine: registers and state are the same, and the words agree on the bytes that count.
use Rattle.std.specs.Prelude.{◌≡◌, ℕ, true, ◌||◌, List, [], ◌∷◌, Some, None}
use Rattle.base16.specs.declared.reading.Reading.{Reading}
use Rattle.core430.specs.Bytes.{byte_in}
use Rattle.ideal430.specs.Places.{is_up_to, is_fixed, is_in_word}
use Rattle.ideal430.specs.Service.{Noted, Block}
use Rattle.ideal430.specs.Settled.{Bytes}
use Rattle.core430.specs.Uses.{SameOn}
use Rattle.ideal430.specs.Ideal.{Ideal, run, with_more}
use Rattle.ideal430.specs.Uses.{IsClean}

-- a noted word, and another: of the same address, with the same old bytes where they were settled; the outputs, the data
-- and the code were
pub record NotesSame (settled : Bytes) (x y : Noted) : Type 0 where
  pub fixed : (b : ℕ) → is_fixed b ≡ true → settled b ≡ true
  pub address : x.address ≡ y.address
  pub old : (b : ℕ) → is_in_word x.address b ≡ true → settled b ≡ true → byte_in b x.old ≡ byte_in b y.old

-- lists of noted words agree, one by one
abbrev pub NotesAgree : List Bytes → List Noted → List Noted → Type 0
NotesAgree [] [] [] = Unit {0}
NotesAgree (settled ∷ earlier) (x ∷ xs) (y ∷ ys) = NotesSame settled x y × NotesAgree earlier xs ys
NotesAgree earlier xs ys = ⊥

abbrev pub BlocksAgree : List Bytes → Block → Block → Type 0
BlocksAgree earlier None None = Unit {0}
BlocksAgree earlier (Some xs) (Some ys) = NotesAgree earlier xs ys
BlocksAgree earlier x y = ⊥

-- the outputs, the data, the code and the segments up to the working one: no other byte is ever settled
abbrev pub may_settle : (segment : ℕ) → Bytes
may_settle segment b = is_fixed b || is_up_to segment b

-- These registers, this memory, working segment, block and number of marks are where the machine is.
pub record Agrees (t : Ideal) (regs m : ℕ → ℕ) (segment : ℕ) (block : Block) (marks : ℕ) : Type 0 where
  pub regs_are : t.core.regs ≡ regs
  pub memory : SameOn t.settled t.core.memory m
  pub segment_is : t.segment ≡ segment
  pub block_is : BlocksAgree t.earlier t.block block
  pub marks_are : t.marks ≡ marks
  -- the outputs, the data and the code are settled, and nothing is that does not live
  pub fixed : (b : ℕ) → is_fixed b ≡ true → t.settled b ≡ true
  pub within : (b : ℕ) → t.settled b ≡ true → may_settle segment b ≡ true

-- two machines that are at the same place, as far as it counts for the first
pub record GoesAlong (t u : Ideal) : Type 0 where
  pub agrees : Agrees t u.core.regs u.core.memory u.segment u.block u.marks
  pub left : t.left ≡ u.left
  pub status : t.status ≡ u.status

-- two machines that differ at most in what has no effect: settled bytes, pointers of older segments, the meter
pub record SameButWatched (t u : Ideal) : Type 0 where
  pub core : t.core ≡ u.core
  pub segment : t.segment ≡ u.segment
  pub block : t.block ≡ u.block
  pub marks : t.marks ≡ u.marks
  pub left : t.left ≡ u.left
  pub status : t.status ≡ u.status

-- If the first n instructions on these readings use settled bytes alone, they take all the readings, and Q holds of the
-- machine then.
abbrev pub Claim : (start : Ideal) → List Reading → (n : ℕ) → (Ideal → Type 0) → Type 0
Claim start readings n Q =
    IsClean n (with_more start readings) → ((run n (with_more start readings)).left ≡ []) × Q (run n (with_more start readings))

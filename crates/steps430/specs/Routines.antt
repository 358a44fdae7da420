-- Where a helper routine stands.
use Rattle.std.specs.Prelude.{◌≡◌, ℕ, ◌+◌, ◌*◌, ◌%◌, ◌≤◌, List, length}
use Rattle.isa430.specs.Table.{WordsAt}
use Rattle.rt430.specs.declared.words.Helper.{Helper}
use Rattle.rt430.specs.Routines.{Computes}

-- words that compute an operator stand at an address, in the code between two others
pub record HasRoutine (code : ℕ → ℕ) (low high base : ℕ) (which : Helper) : Type 0 where
  pub words : List ℕ
  pub computes : Computes which words
  pub even : base % 2 ≡ 0
  pub from : low ≤ base
  pub to : base + 2 * length words ≤ high
  pub stands : WordsAt code base words

-- What holds of the variables of a program and their stamps: none overlaps another, and each stands at its alignment.
use Rattle.std.specs.Prelude.{◌≡◌, ℕ, ◌+◌, ◌%◌, ◌≤◌, true, length, slice_get, Some}
use Rattle.core_tree.specs.declared.program.Core.{Core}
use Rattle.core_tree.specs.declared.program.Global.{Global}
use Rattle.core_tree.specs.Data.{global_address, global_layout, stamps_start}
use Rattle.core_tree.specs.Layout.{size_of}

-- the n-th variable stands at its alignment and ends before the next one begins; behind the last one, the address of the
-- next is where the variables end
pub record Lies (core : Core) (n : ℕ) (g : Global) : Type 0 where
  pub aligned : (global_layout core g).even ≡ true → global_address core n % 2 ≡ 0
  pub before_next : global_address core n + size_of core.structs g.ty ≤ global_address core (n + 1)

abbrev pub VariableLies : Core → ℕ → Global → Type 0
VariableLies core n g = slice_get core.globals n ≡ Some g → Lies core n g

-- the stamps begin behind the variables, at an even address
pub record StampsLie (core : Core) : Type 0 where
  pub behind : global_address core (length core.globals) ≤ stamps_start core
  pub aligned : stamps_start core % 2 ≡ 0

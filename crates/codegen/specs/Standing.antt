-- Where the variables and stamps of a program stand.
use Rattle.std.specs.Prelude.{ℕ, ◌+◌, List, [], ◌∷◌}
use Rattle.base16.specs.Board.{data_start}
use Rattle.core_tree.specs.Data.{global_address, stamps_start, data_bytes}
use Rattle.core_tree.specs.Layout.{Layout, aligned}
use Rattle.core_tree.specs.declared.program.Core.{Core}
use Rattle.core_tree.specs.declared.program.Global.{Global}
use Rattle.codegen.specs.declared.data.DataLaid.{DataLaid}

-- the addresses of variables, the first being the n-th of the program
abbrev pub addresses_from : Core → (n : ℕ) → List Global → List ℕ
addresses_from core n [] = []
addresses_from core n (g ∷ gs) = global_address core n ∷ addresses_from core (n + 1) gs

abbrev pub variable_addresses : Core → List ℕ
variable_addresses core = addresses_from core 0 core.globals

abbrev pub data_laid : Core → DataLaid
data_laid core = record { addresses = variable_addresses core; stamps = stamps_start core; bytes = data_bytes core }

-- ---- things with these layouts one behind the other, the first behind so many bytes

abbrev pub addresses_behind : (bytes : ℕ) → List Layout → List ℕ
addresses_behind bytes [] = []
addresses_behind bytes (l ∷ ls) = (data_start + aligned l.even bytes) ∷ addresses_behind (aligned l.even bytes + l.size) ls

-- how many bytes there are then
abbrev pub bytes_behind : (bytes : ℕ) → List Layout → ℕ
bytes_behind bytes [] = bytes
bytes_behind bytes (l ∷ ls) = bytes_behind (aligned l.even bytes + l.size) ls

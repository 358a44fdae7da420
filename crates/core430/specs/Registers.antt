-- Register files as functions from a register's number to its word (MSP430 user's guide, 16-bit CPU, "CPU Registers").
use Rattle.std.specs.Prelude.{ℕ, List, slice_index, if◌then◌else◌, nat_eq}

-- the registers of the code's array
abbrev pub view_of : List ℕ → (ℕ → ℕ)
view_of ws = λ k. slice_index ws k

-- the registers with one set
abbrev pub set_reg : (ℕ → ℕ) → ℕ → ℕ → (ℕ → ℕ)
set_reg r n v = λ k. if nat_eq k n then v else r k

-- what an instruction writes to a register: R3 stays as it is
abbrev pub write_reg : (ℕ → ℕ) → ℕ → ℕ → (ℕ → ℕ)
write_reg r n v = if nat_eq n 3 then r else set_reg r n v

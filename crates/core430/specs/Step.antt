-- One step of the core: the instruction at PC, from registers and memory to registers and memory.
use Rattle.std.specs.Prelude.{ℕ, ◌+◌, ◌-◌, ◌/◌, ◌%◌, Bool, ◌&&◌, Option, Some, None, if◌then◌else◌, nat_eq, nat_lt, nat_le}
use Rattle.base16.specs.Memory.{put}
use Rattle.isa430.specs.declared.instr.Instr.{Instr}
use Rattle.isa430.specs.Table.{size_of, decode_of}
use Rattle.core430.specs.Registers.{set_reg}
use Rattle.core430.specs.Instructions.{Effect, Sets, Stores, Faults, effect_of}

-- sixteen registers, and the word at each even byte address
pub record State : Type 0 where
  pub regs : ℕ → ℕ
  pub memory : ℕ → ℕ

-- what a step comes to: the next instruction, the service of a number, or an access that is refused
pub data Outcome : Type 0 where
  Next : (state : State) → Outcome
  Service : (number : ℕ) (state : State) → Outcome
  Wild : (address : ℕ) → Outcome

-- PC at the entry of a service: even, from FF00 to FF3F
abbrev pub is_service : ℕ → Bool
is_service pc = nat_le 65280 pc && nat_lt pc 65344 && nat_eq (pc % 2) 0

abbrev pub arrive : (ℕ → ℕ) → (ℕ → ℕ) → Outcome
arrive r m =
    if is_service (r 0) then Service ((r 0 - 65280) / 2) (record { regs = r; memory = m })
    else Next (record { regs = r; memory = m })

-- a write is refused where the address is denied
abbrev pub finish : (ℕ → Bool) → (ℕ → ℕ) → Effect → Outcome
finish denied m (Sets r) = arrive r m
finish denied m (Stores r a w) = if denied a then Wild a else arrive r (put m a w)
finish denied m (Faults a) = Wild a

-- the registers as an instruction finds them
abbrev pub past : Instr → (ℕ → ℕ) → (ℕ → ℕ)
past i r = set_reg r 0 ((r 0 + size_of i) % 65536)

abbrev pub execute : (ℕ → Bool) → Instr → State → Outcome
execute denied i s = finish denied s.memory (effect_of (s.regs 0) i (past i s.regs) s.memory)

-- a first word outside the table is refused at PC
abbrev pub execute_if : (ℕ → Bool) → Option Instr → State → Outcome
execute_if denied None s = Wild (s.regs 0)
execute_if denied (Some i) s = execute denied i s

-- the instruction that stands at an address
abbrev pub instr_at : (ℕ → ℕ) → ℕ → Option Instr
instr_at m a = decode_of (m a) (m ((a + 2) % 65536)) (m ((a + 4) % 65536))

-- the instruction at PC
abbrev pub fetched : State → Option Instr
fetched s = instr_at s.memory (s.regs 0)

unfoldable pub step : (ℕ → Bool) → State → Outcome
step denied s = if nat_eq (s.regs 0 % 2) 0 then execute_if denied (fetched s) s else Wild (s.regs 0)

-- Where operands are, mode by mode.
use Rattle.std.proofs.Common.{◌≡◌, ℕ, ◌+◌, ◌%◌, ◌<◌, refl, ap, ◌∙◌, true, false}
use Rattle.isa430.specs.declared.instr.Gen.{Gen}
use Rattle.isa430.specs.declared.instr.Src.TheVariants.{Reg, Indexed, Absolute, Indirect, Increment, Immediate, Constant}
use Rattle.isa430.specs.declared.instr.Dst.TheVariants.{Reg as ToReg, Indexed as ToIndexed, Absolute as ToAbsolute}
use Rattle.core430.specs.declared.operand.Place.TheVariants.{InRegister, InMemory, Given}
use Rattle.core430.specs.Operands.{constant_of}
use Rattle.run430.proofs.Words.{small}
use Rattle.run430.proofs.Rules.{Source, Target}

-- ---- words

pub in_register : {r : ℕ → ℕ} {n : ℕ} → Source false r (Reg n) (InRegister n)
in_register = record { is = refl; reachable = tt }

pub to_register : {r : ℕ → ℕ} {n : ℕ} → Target false r (ToReg n) (InRegister n)
to_register = record { is = refl; reachable = tt }

pub given : {r : ℕ → ℕ} {v : ℕ} → Source false r (Immediate v) (Given v)
given = record { is = refl; reachable = tt }

pub constant : {r : ℕ → ℕ} {g : Gen} → Source false r (Constant g) (Given (constant_of g))
constant = record { is = refl; reachable = tt }

-- at a register plus a word, where the register's value has a name
pub from_at : {r : ℕ → ℕ} {b x base : ℕ} → r b ≡ base → base + x < 65536 → (base + x) % 2 ≡ 0 → Source false r (Indexed b x) (InMemory (base + x))
from_at {x = x} s l e = record { is = ap (λ (k : ℕ). InMemory ((k + x) % 65536)) s ∙ ap InMemory (small l); reachable = e }

pub to_at : {r : ℕ → ℕ} {b x base : ℕ} → r b ≡ base → base + x < 65536 → (base + x) % 2 ≡ 0 → Target false r (ToIndexed b x) (InMemory (base + x))
to_at {x = x} s l e = record { is = ap (λ (k : ℕ). InMemory ((k + x) % 65536)) s ∙ ap InMemory (small l); reachable = e }

pub from_address : {r : ℕ → ℕ} {a : ℕ} → a % 2 ≡ 0 → Source false r (Absolute a) (InMemory a)
from_address e = record { is = refl; reachable = e }

pub to_address : {r : ℕ → ℕ} {a : ℕ} → a % 2 ≡ 0 → Target false r (ToAbsolute a) (InMemory a)
to_address e = record { is = refl; reachable = e }

-- at a register's value, which has a name
pub from_pointer : {r : ℕ → ℕ} {b a : ℕ} → r b ≡ a → a % 2 ≡ 0 → Source false r (Indirect b) (InMemory a)
from_pointer s e = record { is = ap InMemory s; reachable = e }

pub from_top : {r : ℕ → ℕ} {b a : ℕ} → r b ≡ a → a % 2 ≡ 0 → Source false r (Increment b) (InMemory a)
from_top s e = record { is = ap InMemory s; reachable = e }

-- ---- bytes, which may stand at odd addresses

pub byte_in_register : {r : ℕ → ℕ} {n : ℕ} → Source true r (Reg n) (InRegister n)
byte_in_register = record { is = refl; reachable = tt }

pub byte_to_register : {r : ℕ → ℕ} {n : ℕ} → Target true r (ToReg n) (InRegister n)
byte_to_register = record { is = refl; reachable = tt }

pub byte_given : {r : ℕ → ℕ} {v : ℕ} → Source true r (Immediate v) (Given v)
byte_given = record { is = refl; reachable = tt }

pub byte_constant : {r : ℕ → ℕ} {g : Gen} → Source true r (Constant g) (Given (constant_of g))
byte_constant = record { is = refl; reachable = tt }

pub byte_from_at : {r : ℕ → ℕ} {b x base : ℕ} → r b ≡ base → base + x < 65536 → Source true r (Indexed b x) (InMemory (base + x))
byte_from_at {x = x} s l = record { is = ap (λ (k : ℕ). InMemory ((k + x) % 65536)) s ∙ ap InMemory (small l); reachable = tt }

pub byte_to_at : {r : ℕ → ℕ} {b x base : ℕ} → r b ≡ base → base + x < 65536 → Target true r (ToIndexed b x) (InMemory (base + x))
byte_to_at {x = x} s l = record { is = ap (λ (k : ℕ). InMemory ((k + x) % 65536)) s ∙ ap InMemory (small l); reachable = tt }

pub byte_from_address : {r : ℕ → ℕ} {a : ℕ} → Source true r (Absolute a) (InMemory a)
byte_from_address = record { is = refl; reachable = tt }

pub byte_to_address : {r : ℕ → ℕ} {a : ℕ} → Target true r (ToAbsolute a) (InMemory a)
byte_to_address = record { is = refl; reachable = tt }

pub byte_from_pointer : {r : ℕ → ℕ} {b a : ℕ} → r b ≡ a → Source true r (Indirect b) (InMemory a)
byte_from_pointer s = record { is = ap InMemory s; reachable = tt }

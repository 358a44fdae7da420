-- Where operands are, and what stands there (MSP430 user's guide, 16-bit CPU, "Addressing Modes").
use Rattle.std.specs.Prelude.{ℕ, ◌+◌, ◌%◌, Bool, true, false, not, ◌&&◌, Option, Some, None, if◌then◌else◌, nat_eq}
use Rattle.isa430.specs.declared.instr.Gen.{Gen}
use Rattle.isa430.specs.declared.instr.Gen.TheVariants.{Zero, One, Two, Four, Eight, MinusOne}
use Rattle.isa430.specs.declared.instr.Src.{Src}
use Rattle.isa430.specs.declared.instr.Src.TheVariants.{Reg, Indexed, Absolute, Indirect, Increment, Immediate, Constant}
use Rattle.isa430.specs.declared.instr.Dst.{Dst}
use Rattle.isa430.specs.declared.instr.Dst.TheVariants.{Reg as ToReg, Indexed as ToIndexed, Absolute as ToAbsolute}
use Rattle.core430.specs.declared.operand.Place.{Place}
use Rattle.core430.specs.declared.operand.Place.TheVariants.{InRegister, InMemory, Given}
use Rattle.core430.specs.Registers.{set_reg}
use Rattle.core430.specs.Bytes.{byte_at}

-- what the constant generators give
abbrev pub constant_of : Gen → ℕ
constant_of Zero = 0
constant_of One = 1
constant_of Two = 2
constant_of Four = 4
constant_of Eight = 8
constant_of MinusOne = 65535

-- an indexed address is modulo 65536
abbrev pub src_place : (ℕ → ℕ) → Src → Place
src_place r (Reg n) = InRegister n
src_place r (Indexed n x) = InMemory ((r n + x) % 65536)
src_place r (Absolute a) = InMemory a
src_place r (Indirect n) = InMemory (r n)
src_place r (Increment n) = InMemory (r n)
src_place r (Immediate v) = Given v
src_place r (Constant g) = Given (constant_of g)

abbrev pub dst_place : (ℕ → ℕ) → Dst → Place
dst_place r (ToReg n) = InRegister n
dst_place r (ToIndexed n x) = InMemory ((r n + x) % 65536)
dst_place r (ToAbsolute a) = InMemory a

-- by how much @Rn+ raises its register: 1 for a byte, 2 for a word, and always 2 for SP
abbrev pub raise_of : Bool → ℕ → ℕ
raise_of byte n = if byte && not (nat_eq n 1) then 1 else 2

-- the registers after the source was read
abbrev pub raised : Bool → (ℕ → ℕ) → Src → (ℕ → ℕ)
raised byte r (Reg n) = r
raised byte r (Indexed n x) = r
raised byte r (Absolute a) = r
raised byte r (Indirect n) = r
raised byte r (Increment n) = set_reg r n ((r n + raise_of byte n) % 65536)
raised byte r (Immediate v) = r
raised byte r (Constant g) = r

-- what stands at a place: a byte of a register or of a given word is its low byte
abbrev pub value_at : Bool → (ℕ → ℕ) → (ℕ → ℕ) → Place → ℕ
value_at true r m (InRegister n) = r n % 256
value_at true r m (InMemory a) = byte_at m a
value_at true r m (Given v) = v % 256
value_at false r m (InRegister n) = r n
value_at false r m (InMemory a) = m a
value_at false r m (Given v) = v

-- the odd address that a word access would go to
abbrev pub odd_of : Bool → Place → Option ℕ
odd_of true p = None
odd_of false (InRegister n) = None
odd_of false (InMemory a) = if nat_eq (a % 2) 0 then None else Some a
odd_of false (Given v) = None

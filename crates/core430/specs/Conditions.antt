-- What the code's functions ask of operands.
use Rattle.std.specs.Prelude.{◌≡◌, ◌%◌, ◌<◌, ◌≤ℤ◌, pos, negsuc, Bool, true, false}
use Rattle.isa430.specs.declared.instr.OneOp.{OneOp}
use Rattle.isa430.specs.declared.instr.OneOp.TheVariants.{Rrc, Swpb, Rra, Sxt, Push, Call}
use Rattle.isa430.specs.declared.instr.Src.{Src}
use Rattle.isa430.specs.declared.instr.Src.TheVariants.{Reg, Indexed, Absolute, Indirect, Increment, Immediate, Constant}
use Rattle.isa430.specs.declared.instr.Dst.{Dst}
use Rattle.isa430.specs.declared.instr.Dst.TheVariants.{Reg as ToReg, Indexed as ToIndexed, Absolute as ToAbsolute}
use Rattle.isa430.specs.declared.instr.Instr.{Instr}
use Rattle.isa430.specs.declared.instr.Instr.TheVariants.{Two, One, Jump}
use Rattle.core430.specs.declared.operand.Place.{Place}
use Rattle.core430.specs.declared.operand.Place.TheVariants.{InRegister, InMemory, Given}
use Rattle.core430.specs.declared.change.Change.{Change}
use Rattle.core430.specs.declared.change.Change.TheVariants.{Sets, Stores, Faults}

-- the registers that a source names are there
abbrev pub HasSource : Src → Type 0
HasSource (Reg n) = n < 16
HasSource (Indexed n x) = n < 16
HasSource (Absolute a) = Unit {0}
HasSource (Indirect n) = n < 16
HasSource (Increment n) = n < 16
HasSource (Immediate v) = Unit {0}
HasSource (Constant g) = Unit {0}

abbrev pub HasDestination : Dst → Type 0
HasDestination (ToReg n) = n < 16
HasDestination (ToIndexed n x) = n < 16
HasDestination (ToAbsolute a) = Unit {0}

-- only shifts have a byte form
abbrev pub HasWidth : OneOp → Bool → Type 0
HasWidth Rrc byte = Unit {0}
HasWidth Swpb byte = byte ≡ false
HasWidth Rra byte = Unit {0}
HasWidth Sxt byte = byte ≡ false
HasWidth Push byte = byte ≡ false
HasWidth Call byte = byte ≡ false

-- the operands of an instruction are there
abbrev pub HasOperands : Instr → Type 0
HasOperands (Two op byte src dst) = HasSource src × HasDestination dst
HasOperands (One op byte src) = HasWidth op byte × HasSource src
HasOperands (Jump cond offset) = (negsuc 511 ≤ℤ offset) × (offset ≤ℤ pos 511)

-- a register that there is
abbrev pub IsInside : Place → Type 0
IsInside (InRegister n) = n < 16
IsInside (InMemory a) = Unit {0}
IsInside (Given v) = Unit {0}

-- a place that an access of this width may go to
abbrev pub IsReachable : Bool → Place → Type 0
IsReachable true p = Unit {0}
IsReachable false (InRegister n) = Unit {0}
IsReachable false (InMemory a) = a % 2 ≡ 0
IsReachable false (Given v) = Unit {0}

-- what is stored goes to an even address
abbrev pub IsEvenStore : Change → Type 0
IsEvenStore Sets = Unit {0}
IsEvenStore (Stores address word) = address % 2 ≡ 0
IsEvenStore (Faults address) = Unit {0}

-- Which bytes of memory a step uses, and which it changes. A byte is used where the registers, the bytes that are changed
-- or the end of the step may depend on it. MOV does not use its destination. A byte that is written leaves the other byte
-- of its word as it is, so that byte is neither used nor changed.
use Rattle.std.specs.Prelude.{◌≡◌, ◌<◌, ◌⊎◌, ℕ, ◌+◌, ◌%◌, Bool, true, false, not, ◌&&◌, ◌||◌, Option, Some, None, nat_eq, nat_lt}
use Rattle.base16.specs.Memory.{put}
use Rattle.isa430.specs.declared.instr.TwoOp.{TwoOp}
use Rattle.isa430.specs.declared.instr.TwoOp.TheVariants.{Mov, Add, Addc, Subc, Sub, Cmp, Bit, Bic, Bis, Xor, And}
use Rattle.isa430.specs.declared.instr.OneOp.{OneOp}
use Rattle.isa430.specs.declared.instr.OneOp.TheVariants.{Rrc, Swpb, Rra, Sxt, Push, Call}
use Rattle.isa430.specs.declared.instr.Instr.{Instr}
use Rattle.isa430.specs.declared.instr.Instr.TheVariants.{Two, One, Jump}
use Rattle.isa430.specs.Table.{size_of}
use Rattle.core430.specs.declared.operand.Place.{Place}
use Rattle.core430.specs.declared.operand.Place.TheVariants.{InRegister, InMemory, Given}
use Rattle.core430.specs.Bytes.{byte_at}
use Rattle.core430.specs.Operands.{src_place, dst_place, raised}
use Rattle.core430.specs.Instructions.{Effect, Sets, Stores, Faults, is_kept, lowered, effect_of}
use Rattle.core430.specs.Step.{State, Outcome, Next, Service, Wild, past, fetched, step}

-- ---- the sets, as tests of a byte address

-- the bytes of an access of this width at an address: one, or two from there on
abbrev pub access_bytes : Bool → ℕ → ℕ → Bool
access_bytes byte a b = nat_eq b a || (not byte && nat_eq b (a + 1))

-- the bytes of an operand that is in memory
abbrev pub place_bytes : Bool → Place → ℕ → Bool
place_bytes byte (InRegister n) b = false
place_bytes byte (InMemory a) b = access_bytes byte a b
place_bytes byte (Given v) b = false

-- MOV does not use its destination
abbrev pub uses_destination : TwoOp → Bool
uses_destination Mov = false
uses_destination Add = true
uses_destination Addc = true
uses_destination Subc = true
uses_destination Sub = true
uses_destination Cmp = true
uses_destination Bit = true
uses_destination Bic = true
uses_destination Bis = true
uses_destination Xor = true
uses_destination And = true

-- the bytes that an instruction uses beside its own, from the registers with PC past it
abbrev pub operand_uses : Instr → (ℕ → ℕ) → ℕ → Bool
operand_uses (Two op byte src dst) r b =
    place_bytes byte (src_place r src) b || (uses_destination op && place_bytes byte (dst_place r dst) b)
operand_uses (One op byte src) r b = place_bytes byte (src_place r src) b
operand_uses (Jump cond offset) r b = false

-- the bytes that an instruction of one operand changes: PUSH and CALL change the word below SP
abbrev pub one_changes : OneOp → Bool → (ℕ → ℕ) → Place → ℕ → Bool
one_changes Rrc byte r p b = place_bytes byte p b
one_changes Swpb byte r p b = place_bytes byte p b
one_changes Rra byte r p b = place_bytes byte p b
one_changes Sxt byte r p b = place_bytes byte p b
one_changes Push byte r p b = access_bytes false (lowered (r 1)) b
one_changes Call byte r p b = access_bytes false (lowered (r 1)) b

-- the bytes that an instruction changes, where it is not refused
abbrev pub operand_changes : Instr → (ℕ → ℕ) → ℕ → Bool
operand_changes (Two op byte src dst) r b = is_kept op && place_bytes byte (dst_place r dst) b
operand_changes (One op byte src) r b = one_changes op byte (raised byte r src) (src_place r src) b
operand_changes (Jump cond offset) r b = false

-- the bytes of an instruction's own words, from its address and its size; an address is modulo 65536
abbrev pub own_bytes : ℕ → ℕ → ℕ → Bool
own_bytes pc size b =
    access_bytes false pc b
    || ((nat_lt 2 size && access_bytes false ((pc + 2) % 65536) b) || (nat_lt 4 size && access_bytes false ((pc + 4) % 65536) b))

-- where PC holds no instruction of the table, the first word says so
abbrev pub uses_if : Option Instr → State → ℕ → Bool
uses_if None s b = access_bytes false (s.regs 0) b
uses_if (Some i) s b = own_bytes (s.regs 0) (size_of i) b || operand_uses i (past i s.regs) b

-- the bytes that the next step uses; an odd PC is refused without any
abbrev pub step_uses : State → ℕ → Bool
step_uses s b = nat_eq (s.regs 0 % 2) 0 && uses_if (fetched s) s b

abbrev pub changes_if : Option Instr → State → ℕ → Bool
changes_if None s b = false
changes_if (Some i) s b = operand_changes i (past i s.regs) b

-- the bytes that the next step changes, where it is not refused
abbrev pub step_changes : State → ℕ → Bool
step_changes s b = nat_eq (s.regs 0 % 2) 0 && changes_if (fetched s) s b

-- ---- memories that agree on a set of bytes

-- each byte of the first set is one of the second
abbrev pub IsWithin : (ℕ → Bool) → (ℕ → Bool) → Type 0
IsWithin p q = (b : ℕ) → p b ≡ true → q b ≡ true

-- the bytes of both sets
abbrev pub joined : (ℕ → Bool) → (ℕ → Bool) → ℕ → Bool
joined p q b = p b || q b

-- two memories have the same byte at each address of the set
pub record SameOn (p : ℕ → Bool) (m k : ℕ → ℕ) : Type 0 where
  pub at : (b : ℕ) → p b ≡ true → byte_at m b ≡ byte_at k b

-- ---- what depends on them

-- an effect over m, and another over k: the same registers, the same address, and memories that then agree on the set
abbrev pub AreAlike : (ℕ → Bool) → (ℕ → ℕ) → (ℕ → ℕ) → Effect → Effect → Type 0
AreAlike p m k (Sets r) f = (f ≡ Sets r) × SameOn p m k
AreAlike p m k (Stores r a x) f = (y : ℕ) × (f ≡ Stores r a y) × SameOn p (put m a x) (put k a y)
AreAlike p m k (Faults a) f = f ≡ Faults a

-- An instruction depends on no byte but those that it uses: over memories that agree on these, and maybe on more, it does
-- the same, and then they agree on the bytes that it changes as well.
abbrev pub DependsOnUses : ℕ → Instr → (ℕ → ℕ) → Type 0
DependsOnUses pc i r =
    (p : ℕ → Bool) (m k : ℕ → ℕ) → SameOn p m k → IsWithin (operand_uses i r) p
    → AreAlike (joined p (operand_changes i r)) m k (effect_of pc i r m) (effect_of pc i r k)

-- an outcome, and another: the same end, the same registers, and memories that agree on the set
abbrev pub EndAlike : (ℕ → Bool) → Outcome → Outcome → Type 0
EndAlike p (Next s) o = (t : State) × (o ≡ Next t) × (s.regs ≡ t.regs) × SameOn p s.memory t.memory
EndAlike p (Service n s) o = (t : State) × (o ≡ Service n t) × (s.regs ≡ t.regs) × SameOn p s.memory t.memory
EndAlike p (Wild a) o = o ≡ Wild a

-- the same of a whole step
abbrev pub StepDependsOnUses : (ℕ → Bool) → State → Type 0
StepDependsOnUses denied s =
    (p : ℕ → Bool) (k : ℕ → ℕ) → SameOn p s.memory k → IsWithin (step_uses s) p
    → EndAlike (joined p (step_changes s)) (step denied s) (step denied (record { regs = s.regs; memory = k }))

-- words of 16 bits
abbrev pub AreWords : (ℕ → ℕ) → Type 0
AreWords f = (a : ℕ) → f a < 65536

-- a byte after an outcome that was not refused
abbrev pub IsLeft : (ℕ → ℕ) → ℕ → Outcome → Type 0
IsLeft m b (Next t) = byte_at t.memory b ≡ byte_at m b
IsLeft m b (Service n t) = byte_at t.memory b ≡ byte_at m b
IsLeft m b (Wild a) = Unit {0}

-- a step changes no byte but those of its set
abbrev pub ChangesItsBytes : (ℕ → Bool) → State → Type 0
ChangesItsBytes denied s = AreWords s.memory → (b : ℕ) → step_changes s b ≡ false → IsLeft s.memory b (step denied s)

-- registers and memory after an outcome that was not refused
abbrev pub LeavesWords : Outcome → Type 0
LeavesWords (Next t) = AreWords t.regs × AreWords t.memory
LeavesWords (Service n t) = AreWords t.regs × AreWords t.memory
LeavesWords (Wild a) = Unit {0}

-- a step leaves words where it found words
abbrev pub KeepsWords : (ℕ → Bool) → State → Type 0
KeepsWords denied s = AreWords s.regs → AreWords s.memory → LeavesWords (step denied s)

-- under a gate that denies more, a step is the same, or it is refused at an address that this gate alone denies
abbrev pub OnlyRefuses : (ℕ → Bool) → (ℕ → Bool) → State → Type 0
OnlyRefuses more fewer s =
    ((a : ℕ) → fewer a ≡ true → more a ≡ true)
    → (step more s ≡ step fewer s) ⊎ ((a : ℕ) × (more a ≡ true) × (fewer a ≡ false) × (step more s ≡ Wild a))

-- and the same over a memory that agrees on the bytes that the step uses
abbrev pub FollowsUnderGate : (ℕ → Bool) → (ℕ → Bool) → State → Type 0
FollowsUnderGate more fewer s =
    ((a : ℕ) → fewer a ≡ true → more a ≡ true)
    → (p : ℕ → Bool) (k : ℕ → ℕ) → SameOn p s.memory k → IsWithin (step_uses s) p
    → EndAlike (joined p (step_changes s)) (step fewer s) (step more (record { regs = s.regs; memory = k }))
    ⊎ ((a : ℕ) × (more a ≡ true) × (fewer a ≡ false) × (step more (record { regs = s.regs; memory = k }) ≡ Wild a))

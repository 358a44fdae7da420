-- What each instruction does (MSP430 user's guide, 16-bit CPU, "Instruction Set"). Registers are those that an
-- instruction finds, with PC past it.
use Rattle.std.specs.Prelude.{ℕ, ◌+◌, ◌-◌, ◌*◌, ◌%◌, Bool, true, false, not, ◌&&◌, Option, Some, None, if◌then◌else◌, nat_eq, ℤ, pos, negsuc, bit_and, bit_or, bit_xor}
use Rattle.isa430.specs.declared.instr.TwoOp.{TwoOp}
use Rattle.isa430.specs.declared.instr.TwoOp.TheVariants.{Mov, Add, Addc, Subc, Sub, Cmp, Bit, Bic, Bis, Xor, And}
use Rattle.isa430.specs.declared.instr.OneOp.{OneOp}
use Rattle.isa430.specs.declared.instr.OneOp.TheVariants.{Rrc, Swpb, Rra, Sxt, Push, Call}
use Rattle.isa430.specs.declared.instr.Cond.{Cond}
use Rattle.isa430.specs.declared.instr.Cond.TheVariants.{Nz, Z, Nc, C, N, Ge, Less, Always}
use Rattle.isa430.specs.declared.instr.Instr.{Instr}
use Rattle.isa430.specs.declared.instr.Instr.TheVariants.{Two, One, Jump}
use Rattle.core430.specs.declared.operand.Place.{Place}
use Rattle.core430.specs.declared.operand.Place.TheVariants.{InRegister, InMemory, Given}
use Rattle.core430.specs.Registers.{set_reg, write_reg}
use Rattle.core430.specs.Status.{agree, carry_of, zero_of, negative_of, overflow_of, is_off}
use Rattle.core430.specs.Arithmetic.{is_negative, sum_of, sum_status, difference_of, difference_status, logic_status, complement_of, shifted, shift_status, swapped, extended}
use Rattle.core430.specs.Bytes.{word_address, with_byte}
use Rattle.core430.specs.Operands.{src_place, dst_place, raised, value_at, odd_of}

-- what an instruction comes to: registers alone, registers and one word, or an access that is refused. At most one
-- word is written
pub data Effect : Type 0 where
  Sets : (regs : ℕ → ℕ) → Effect
  Stores : (regs : ℕ → ℕ) (address word : ℕ) → Effect
  Faults : (address : ℕ) → Effect

-- ---- two operands, by operator, width, carry, destination and source

abbrev pub two_result : TwoOp → Bool → Bool → ℕ → ℕ → ℕ
two_result Mov byte c d s = s
two_result Add byte c d s = sum_of byte false d s
two_result Addc byte c d s = sum_of byte c d s
two_result Subc byte c d s = difference_of byte (not c) d s
two_result Sub byte c d s = difference_of byte false d s
two_result Cmp byte c d s = difference_of byte false d s
two_result Bit byte c d s = bit_and d s
two_result Bic byte c d s = bit_and d (complement_of byte s)
two_result Bis byte c d s = bit_or d s
two_result Xor byte c d s = bit_xor d s
two_result And byte c d s = bit_and d s

-- the new status, if the flags change
abbrev pub two_status : TwoOp → Bool → ℕ → ℕ → ℕ → Option ℕ
two_status Mov byte status d s = None
two_status Add byte status d s = Some (sum_status byte status false d s)
two_status Addc byte status d s = Some (sum_status byte status (carry_of status) d s)
two_status Subc byte status d s = Some (difference_status byte status (not (carry_of status)) d s)
two_status Sub byte status d s = Some (difference_status byte status false d s)
two_status Cmp byte status d s = Some (difference_status byte status false d s)
two_status Bit byte status d s = Some (logic_status byte status (bit_and d s) false)
two_status Bic byte status d s = None
two_status Bis byte status d s = None
two_status Xor byte status d s = Some (logic_status byte status (bit_xor d s) (is_negative byte d && is_negative byte s))
two_status And byte status d s = Some (logic_status byte status (bit_and d s) false)

-- CMP and BIT keep nothing but the flags
abbrev pub is_kept : TwoOp → Bool
is_kept Mov = true
is_kept Add = true
is_kept Addc = true
is_kept Subc = true
is_kept Sub = true
is_kept Cmp = false
is_kept Bit = false
is_kept Bic = true
is_kept Bis = true
is_kept Xor = true
is_kept And = true

-- ---- one operand that is changed in place, by operator, width, carry and operand

abbrev pub one_result : OneOp → Bool → Bool → ℕ → ℕ
one_result Rrc byte c v = shifted byte c v
one_result Swpb byte c v = swapped v
one_result Rra byte c v = shifted byte (is_negative byte v) v
one_result Sxt byte c v = extended v
one_result Push byte c v = v
one_result Call byte c v = v

abbrev pub one_status : OneOp → Bool → ℕ → ℕ → Option ℕ
one_status Rrc byte status v = Some (shift_status byte status v (shifted byte (carry_of status) v))
one_status Swpb byte status v = None
one_status Rra byte status v = Some (shift_status byte status v (shifted byte (is_negative byte v) v))
one_status Sxt byte status v = Some (logic_status byte status (extended v) false)
one_status Push byte status v = None
one_status Call byte status v = None

-- ---- where results go

abbrev pub flagged : (ℕ → ℕ) → Option ℕ → (ℕ → ℕ)
flagged r None = r
flagged r (Some status) = set_reg r 2 status

-- a byte that goes to a register clears bits 15 to 8, and one that goes to memory is written with its word
abbrev pub deliver : Bool → (ℕ → ℕ) → (ℕ → ℕ) → Place → ℕ → Effect
deliver byte r m (InRegister n) v = Sets (write_reg r n v)
deliver byte r m (InMemory a) v =
    if byte then Stores r (word_address a) (with_byte a (m (word_address a)) v) else Stores r a v
deliver byte r m (Given x) v = Sets r

-- a word with CPUOFF that would go to the status register
abbrev pub switches_off : Place → ℕ → Bool
switches_off (InRegister n) v = nat_eq n 2 && is_off v
switches_off (InMemory a) v = false
switches_off (Given x) v = false

-- pc is the address of the instruction
abbrev pub settle : Bool → ℕ → (ℕ → ℕ) → (ℕ → ℕ) → Place → ℕ → Effect
settle byte pc r m place v = if switches_off place v then Faults pc else deliver byte r m place v

abbrev pub fault_or : Option ℕ → Effect → Effect
fault_or None e = e
fault_or (Some a) e = Faults a

-- an access to this place, and then the rest
abbrev pub when_even : Bool → Place → Effect → Effect
when_even byte place e = fault_or (odd_of byte place) e

-- ---- the stack

-- SP less 2
abbrev pub lowered : ℕ → ℕ
lowered sp = (sp + 65534) % 65536

abbrev pub push_effect : (ℕ → ℕ) → ℕ → Effect
push_effect r w = when_even false (InMemory (lowered (r 1))) (Stores (set_reg r 1 (lowered (r 1))) (lowered (r 1)) w)

-- the word that is pushed is PC, which is the address after the CALL
abbrev pub call_effect : (ℕ → ℕ) → ℕ → Effect
call_effect r a = when_even false (InMemory (lowered (r 1))) (Stores (set_reg (set_reg r 1 (lowered (r 1))) 0 a) (lowered (r 1)) (r 0))

-- ---- the three formats

abbrev pub two_effect : TwoOp → Bool → ℕ → (ℕ → ℕ) → (ℕ → ℕ) → ℕ → Place → ℕ → ℕ → Effect
two_effect op byte pc r m status place d s =
    if is_kept op then settle byte pc (flagged r (two_status op byte status d s)) m place (two_result op byte (carry_of status) d s)
    else Sets (flagged r (two_status op byte status d s))

abbrev pub change_effect : OneOp → Bool → (ℕ → ℕ) → (ℕ → ℕ) → ℕ → Place → ℕ → Effect
change_effect op byte r m status place v =
    deliver byte (flagged r (one_status op byte status v)) m place (one_result op byte (carry_of status) v)

abbrev pub one_effect : OneOp → Bool → (ℕ → ℕ) → (ℕ → ℕ) → ℕ → Place → ℕ → Effect
one_effect Rrc byte r m status place v = change_effect Rrc byte r m status place v
one_effect Swpb byte r m status place v = change_effect Swpb byte r m status place v
one_effect Rra byte r m status place v = change_effect Rra byte r m status place v
one_effect Sxt byte r m status place v = change_effect Sxt byte r m status place v
one_effect Push byte r m status place v = push_effect r v
one_effect Call byte r m status place v = call_effect r v

abbrev pub is_taken : Cond → ℕ → Bool
is_taken Nz status = not (zero_of status)
is_taken Z status = zero_of status
is_taken Nc status = not (carry_of status)
is_taken C status = carry_of status
is_taken N status = negative_of status
is_taken Ge status = agree (negative_of status) (overflow_of status)
is_taken Less status = not (agree (negative_of status) (overflow_of status))
is_taken Always status = true

-- the offset counts words from the instruction after the jump
abbrev pub jump_target : ℕ → ℤ → ℕ
jump_target next (pos n) = (next + 2 * n) % 65536
jump_target next (negsuc n) = (next + 65536 - 2 * (n + 1)) % 65536

-- what an instruction at address pc does; the source is asked before the destination
abbrev pub effect_of : ℕ → Instr → (ℕ → ℕ) → (ℕ → ℕ) → Effect
effect_of pc (Two op byte src dst) r m =
    when_even byte (src_place r src) (when_even byte (dst_place r dst)
    (two_effect op byte pc (raised byte r src) m (r 2) (dst_place r dst) (value_at byte r m (dst_place r dst)) (value_at byte r m (src_place r src))))
effect_of pc (One op byte src) r m =
    when_even byte (src_place r src) (one_effect op byte (raised byte r src) m (r 2) (src_place r src) (value_at byte r m (src_place r src)))
effect_of pc (Jump cond offset) r m = Sets (if is_taken cond (r 2) then set_reg r 0 (jump_target (r 0) offset) else r)

-- A valid instruction names registers that are there, and has an offset of ten bits.
use Rattle.std.proofs.Common.{◌≡◌, ◌<◌, ◌≤ℤ◌, ℕ, ℤ, pos, negsuc, Bool, true, false, ◌&&◌, ◌||◌, not, nat_eq, nat_lt, refl, sym, arith}
use Rattle.std.proofs.lemmas.Bool.Decides.{nat_tests}
use Rattle.std.proofs.lemmas.Int.{ints}
use Rattle.isa430.specs.declared.instr.OneOp.{OneOp}
use Rattle.isa430.specs.declared.instr.OneOp.TheVariants.{Rrc, Swpb, Rra, Sxt, Push, Call}
use Rattle.isa430.specs.declared.instr.Src.{Src}
use Rattle.isa430.specs.declared.instr.Src.TheVariants.{Reg, Indexed, Absolute, Indirect, Increment, Immediate, Constant}
use Rattle.isa430.specs.declared.instr.Dst.{Dst}
use Rattle.isa430.specs.declared.instr.Dst.TheVariants.{Reg as ToReg, Indexed as ToIndexed, Absolute as ToAbsolute}
use Rattle.isa430.specs.declared.instr.Instr.{Instr}
use Rattle.isa430.specs.declared.instr.Instr.TheVariants.{Two, One, Jump}
use Rattle.isa430.specs.Table.{valid, src_formed, dst_formed, offset_formed, one_listed, one_number, src_mode, src_register, source_listed}
use Rattle.core430.specs.Conditions.{HasOperands, HasSource, HasDestination, HasWidth}

first : (a b : Bool) → (a && b) ≡ true → a ≡ true
first true b h = refl
first false b h = h

second : (a b : Bool) → (a && b) ≡ true → b ≡ true
second true b h = h
second false b h = elim b as (λ v. v ≡ true) [ true ↦ refl | false ↦ h ]

below : (n k : ℕ) → nat_lt n k ≡ true → n < k
below n k h = grind (arith, nat_tests)

source_there : (s : Src) → src_formed s ≡ true → HasSource s
source_there (Reg n) h = below n 16 (first (nat_lt n 16) _ h)
source_there (Indexed n x) h = below n 16 (first (nat_lt n 16) _ h)
source_there (Absolute a) h = tt
source_there (Indirect n) h = below n 16 (first (nat_lt n 16) _ h)
source_there (Increment n) h = below n 16 (first (nat_lt n 16) _ h)
source_there (Immediate v) h = tt
source_there (Constant g) h = tt

destination_there : (d : Dst) → dst_formed d ≡ true → HasDestination d
destination_there (ToReg n) h = below n 16 h
destination_there (ToIndexed n x) h = below n 16 (first (nat_lt n 16) _ h)
destination_there (ToAbsolute a) h = tt

words_only : (byte : Bool) → (not byte || false) ≡ true → byte ≡ false
words_only true h = sym h
words_only false h = refl

width_there : (op : OneOp) (byte : Bool) → (not byte || (nat_eq (one_number op) 0 || nat_eq (one_number op) 2)) ≡ true → HasWidth op byte
width_there Rrc byte h = tt
width_there Swpb byte h = words_only byte h
width_there Rra byte h = tt
width_there Sxt byte h = words_only byte h
width_there Push byte h = words_only byte h
width_there Call byte h = words_only byte h

offset_there : (z : ℤ) → offset_formed z ≡ true → (negsuc 511 ≤ℤ z) × (z ≤ℤ pos 511)
offset_there (pos n) h = let l : n < 512 = below n 512 h in (omega (arith, ints), omega (arith, ints))
offset_there (negsuc n) h = let l : n < 512 = below n 512 h in (omega (arith, ints), omega (arith, ints))

pub operands_there : (i : Instr) → valid i ≡ true → HasOperands i
operands_there (Two op byte src dst) h =
    (source_there src (first (src_formed src) _ h), destination_there dst (first (dst_formed dst) _ (second (src_formed src) _ h)))
operands_there (One op byte src) h =
    let listed : one_listed (one_number op) byte (src_mode src) (src_register src) ≡ true = second (src_formed src) _ h in
    (width_there op byte (first _ _ (second (source_listed (src_mode src) (src_register src)) _ listed)), source_there src (first (src_formed src) _ h))
operands_there (Jump cond offset) h = offset_there offset h

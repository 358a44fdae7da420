-- An instruction's first word: its fields, and that it stands in the table.
use Rattle.std.proofs.Common.{◌≡◌, ◌≢◌, ℕ, ◌+◌, ◌*◌, ◌/◌, ◌%◌, ◌<◌, ◌≤◌, refl, ap, arith, Bool, true, false}
use Rattle.std.proofs.lemmas.Bool.{ne_eqb, lt-ltb, le-ltb}
use Rattle.std.proofs.lemmas.Bool.Decides.{nat_tests}
use Rattle.std.specs.Prelude.{nat_eq, nat_lt, ℤ, pos, negsuc, IsTrue}
use Rattle.isa430.specs.declared.instr.TwoOp.{TwoOp}
use Rattle.isa430.specs.declared.instr.TwoOp.TheVariants.{Mov, Add, Addc, Subc, Sub, Cmp, Bit, Bic, Bis, Xor, And}
use Rattle.isa430.specs.declared.instr.OneOp.{OneOp}
use Rattle.isa430.specs.declared.instr.OneOp.TheVariants.{Rrc, Swpb, Rra, Sxt, Push, Call}
use Rattle.isa430.specs.declared.instr.Cond.{Cond}
use Rattle.isa430.specs.declared.instr.Cond.TheVariants.{Nz, Z, Nc, C, N, Ge, Less, Always}
use Rattle.isa430.specs.declared.instr.Gen.{Gen}
use Rattle.isa430.specs.declared.instr.Gen.TheVariants.{Zero, One as ConstantOne, Two as ConstantTwo, Four, Eight, MinusOne}
use Rattle.isa430.specs.declared.instr.Src.{Src}
use Rattle.isa430.specs.declared.instr.Src.TheVariants.{Reg, Indexed, Absolute, Indirect, Increment, Immediate, Constant}
use Rattle.isa430.specs.declared.instr.Dst.{Dst}
use Rattle.isa430.specs.declared.instr.Dst.TheVariants.{Reg as ToReg, Indexed as ToIndexed, Absolute as ToAbsolute}
use Rattle.isa430.specs.Table.{two_number, one_number, cond_number, two_of, one_of, cond_of, src_of, dst_of, offset_of, gen_mode, gen_register, src_mode, src_register, src_extension, dst_mode, dst_register, dst_extension, offset_field, bit_of, plain, src_formed, dst_formed, offset_formed, WordsAt}

-- the fields of a first word of two operands
pub record TwoFields (w o b s a m d : ℕ) : Type 0 where
  pub low : nat_lt w 8192 ≡ false
  pub jump : nat_lt w 16384 ≡ false
  pub op : w / 4096 ≡ o
  pub source : w / 256 % 16 ≡ s
  pub ad : w / 128 % 2 ≡ a
  pub byte : w / 64 % 2 ≡ b
  pub mode : w / 16 % 4 ≡ m
  pub destination : w % 16 ≡ d

pub two_fields : (w o b s a m d : ℕ) → w ≡ o * 4096 + s * 256 + a * 128 + b * 64 + m * 16 + d → 4 ≤ o → o < 16 → s < 16 → a < 2 → b < 2 → m < 4 → d < 16 → TwoFields w o b s a m d
two_fields w o b s a m d e l h1 h2 h3 h4 h5 h6 = record {
  low = le-ltb w 8192 (omega arith);
  jump = le-ltb w 16384 (omega arith);
  op = omega arith;
  source = omega arith;
  ad = omega arith;
  byte = omega arith;
  mode = omega arith;
  destination = omega arith;
}

-- the fields of a first word of one operand
pub record OneFields (w o b m r : ℕ) : Type 0 where
  pub low : nat_lt w 8192 ≡ true
  pub format : w / 1024 ≡ 4
  pub op : w / 128 % 8 ≡ o
  pub byte : w / 64 % 2 ≡ b
  pub mode : w / 16 % 4 ≡ m
  pub register : w % 16 ≡ r

pub one_fields : (w o b m r : ℕ) → w ≡ 4096 + o * 128 + b * 64 + m * 16 + r → o < 8 → b < 2 → m < 4 → r < 16 → OneFields w o b m r
one_fields w o b m r e h1 h2 h3 h4 = record {
  low = lt-ltb w 8192 (omega arith);
  format = omega arith;
  op = omega arith;
  byte = omega arith;
  mode = omega arith;
  register = omega arith;
}

-- ---- operators, conditions and offsets

pub two_back : (op : TwoOp) → (two_of (two_number op) ≡ op) × (4 ≤ two_number op) × (two_number op < 16)
two_back Mov = (refl, omega arith, omega arith)
two_back Add = (refl, omega arith, omega arith)
two_back Addc = (refl, omega arith, omega arith)
two_back Subc = (refl, omega arith, omega arith)
two_back Sub = (refl, omega arith, omega arith)
two_back Cmp = (refl, omega arith, omega arith)
two_back Bit = (refl, omega arith, omega arith)
two_back Bic = (refl, omega arith, omega arith)
two_back Bis = (refl, omega arith, omega arith)
two_back Xor = (refl, omega arith, omega arith)
two_back And = (refl, omega arith, omega arith)

pub one_back : (op : OneOp) → (one_of (one_number op) ≡ op) × (one_number op < 8)
one_back Rrc = (refl, omega arith)
one_back Swpb = (refl, omega arith)
one_back Rra = (refl, omega arith)
one_back Sxt = (refl, omega arith)
one_back Push = (refl, omega arith)
one_back Call = (refl, omega arith)

pub cond_back : (c : Cond) → (cond_of (cond_number c) ≡ c) × (cond_number c < 8)
cond_back Nz = (refl, omega arith)
cond_back Z = (refl, omega arith)
cond_back Nc = (refl, omega arith)
cond_back C = (refl, omega arith)
cond_back N = (refl, omega arith)
cond_back Ge = (refl, omega arith)
cond_back Less = (refl, omega arith)
cond_back Always = (refl, omega arith)

pub byte_back : (b : Bool) → (nat_eq (bit_of b) 1 ≡ b) × (bit_of b < 2)
byte_back true = (refl, omega arith)
byte_back false = (refl, omega arith)

pub offset_back : (o : ℤ) → IsTrue (offset_formed o) → (offset_of (offset_field o) ≡ o) × (offset_field o < 1024)
offset_back (pos n) h = grind (arith, nat_tests)
offset_back (negsuc n) h = grind (arith, nat_tests)

-- ---- operands

pub plain_parts : (r : ℕ) → IsTrue (plain r) → (r < 16) × (r ≢ 0) × (r ≢ 2) × (r ≢ 3)
plain_parts r h = grind (arith, nat_tests)

gen_back : (g : Gen) (x : ℕ) → (src_of (gen_mode g) (gen_register g) x ≡ Constant g) × (gen_mode g < 4) × (gen_register g < 16)
gen_back Zero x = (refl, omega arith, omega arith)
gen_back ConstantOne x = (refl, omega arith, omega arith)
gen_back ConstantTwo x = (refl, omega arith, omega arith)
gen_back Four x = (refl, omega arith, omega arith)
gen_back Eight x = (refl, omega arith, omega arith)
gen_back MinusOne x = (refl, omega arith, omega arith)

pub src_ranges : (s : Src) → IsTrue (src_formed s) → (src_register s < 16) × (src_mode s < 4)
src_ranges (Reg r) h = grind (arith, nat_tests)
src_ranges (Indexed r x) h = ((plain_parts r h).0, omega arith)
src_ranges (Absolute a) h = omega arith
src_ranges (Indirect r) h = ((plain_parts r h).0, omega arith)
src_ranges (Increment r) h = ((plain_parts r h).0, omega arith)
src_ranges (Immediate v) h = omega arith
src_ranges (Constant g) h = ((gen_back g 0).2, (gen_back g 0).1)

pub dst_ranges : (d : Dst) → IsTrue (dst_formed d) → (dst_register d < 16) × (dst_mode d < 2)
dst_ranges (ToReg r) h = grind (arith, nat_tests)
dst_ranges (ToIndexed r x) h = ((plain_parts r h).0, omega arith)
dst_ranges (ToAbsolute a) h = omega arith

pub src_back : (s : Src) (x : ℕ) → IsTrue (src_formed s) → WordsAt (λ a. x) 0 (src_extension s) → src_of (src_mode s) (src_register s) x ≡ s
src_back (Reg r) x h e = reg_back r x h
  where
    reg_back : (r x : ℕ) → IsTrue (src_formed (Reg r)) → src_of 0 r x ≡ Reg r
    reg_back r x h = grind (arith, nat_tests)
src_back (Indexed r y) x h e = let p = plain_parts r h in simp (ne_eqb r 2 p.2, ne_eqb r 3 p.3) (ap (λ z. Indexed r z) e.0)
src_back (Absolute a) x h e = ap (λ z. Absolute z) e.0
src_back (Indirect r) x h e = let p = plain_parts r h in simp (ne_eqb r 2 p.2, ne_eqb r 3 p.3)
src_back (Increment r) x h e = let p = plain_parts r h in simp (ne_eqb r 2 p.2, ne_eqb r 3 p.3, ne_eqb r 0 p.1)
src_back (Immediate v) x h e = ap (λ z. Immediate z) e.0
src_back (Constant g) x h e = (gen_back g x).0

pub dst_back : (d : Dst) (x : ℕ) → IsTrue (dst_formed d) → WordsAt (λ a. x) 0 (dst_extension d) → dst_of (dst_mode d) (dst_register d) x ≡ d
dst_back (ToReg r) x h e = refl
dst_back (ToIndexed r y) x h e = let p = plain_parts r h in simp (ne_eqb r 2 p.2) (ap (λ z. ToIndexed r z) e.0)
dst_back (ToAbsolute a) x h e = ap (λ z. ToAbsolute z) e.0

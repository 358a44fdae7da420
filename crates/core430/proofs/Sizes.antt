-- How many bytes an instruction takes.
use Rattle.std.proofs.Common.{ℕ, ◌+◌, ◌≤◌, arith}
use Rattle.isa430.specs.declared.instr.Instr.{Instr}
use Rattle.isa430.specs.declared.instr.Instr.TheVariants.{Two, One, Jump}
use Rattle.isa430.specs.declared.instr.Src.{Src}
use Rattle.isa430.specs.declared.instr.Src.TheVariants.{Reg, Indexed, Absolute, Indirect, Increment, Immediate, Constant}
use Rattle.isa430.specs.declared.instr.Dst.{Dst}
use Rattle.isa430.specs.declared.instr.Dst.TheVariants.{Reg as ToReg, Indexed as ToIndexed, Absolute as ToAbsolute}
use Rattle.isa430.specs.Table.{src_size, dst_size, size_of}

src_small : (s : Src) → src_size s ≤ 2
src_small (Reg r) = omega arith
src_small (Indexed r x) = omega arith
src_small (Absolute a) = omega arith
src_small (Indirect r) = omega arith
src_small (Increment r) = omega arith
src_small (Immediate v) = omega arith
src_small (Constant g) = omega arith

dst_small : (s : Dst) → dst_size s ≤ 2
dst_small (ToReg r) = omega arith
dst_small (ToIndexed r x) = omega arith
dst_small (ToAbsolute a) = omega arith

-- an instruction takes 2 to 6 bytes
pub size_range : (i : Instr) → (2 ≤ size_of i) × (size_of i ≤ 6)
size_range (Two op byte src dst) = both (src_size src) (dst_size dst) (src_small src) (dst_small dst)
  where
    both : (a b : ℕ) → a ≤ 2 → b ≤ 2 → (2 ≤ 2 + a + b) × (2 + a + b ≤ 6)
    both a b h k = (omega arith, omega arith)
size_range (One op byte src) = one (src_size src) (src_small src)
  where
    one : (a : ℕ) → a ≤ 2 → (2 ≤ 2 + a) × (2 + a ≤ 6)
    one a h = (omega arith, omega arith)
size_range (Jump c o) = (omega arith, omega arith)

-- Results of bits stay inside their width.
use Rattle.std.proofs.Common.{◌<◌, ℕ, Bool, true, false, arith, bit_and, bit_or, bit_xor}
use Rattle.std.proofs.lemmas.Nat.{and_le_l, or_lt, xor_lt}
use Rattle.core430.specs.Arithmetic.{span_of}

pub and_fits : (byte : Bool) (d s : ℕ) → d < span_of byte → bit_and d s < span_of byte
and_fits byte d s l = omega (arith, and_le_l d s)

pub or_fits : (byte : Bool) (d s : ℕ) → d < span_of byte → s < span_of byte → bit_or d s < span_of byte
or_fits true d s l k = or_lt 8 d s l k
or_fits false d s l k = or_lt 16 d s l k

pub xor_fits : (byte : Bool) (d s : ℕ) → d < span_of byte → s < span_of byte → bit_xor d s < span_of byte
xor_fits true d s l k = xor_lt 8 d s l k
xor_fits false d s l k = xor_lt 16 d s l k

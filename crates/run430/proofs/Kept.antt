-- A register of R4 to R11 whose number is open.
use Rattle.std.proofs.Common.{◌≡◌, ◌≢◌, ℕ, ◌+◌, ◌<◌, ◌≤◌, ap, arith, Bool, ◌&&◌}
use Rattle.std.proofs.Math.Path.{fun_ext}
use Rattle.std.proofs.lemmas.Bool.{ne_eqb}
use Rattle.std.proofs.lemmas.Bool.Decides.{nat_tests}
use Rattle.std.specs.Prelude.{nat_eq, nat_le, nat_lt, if◌then◌else◌}
use Rattle.core430.specs.declared.operand.Place.TheVariants.{InRegister}
use Rattle.core430.specs.Registers.{set_reg}
use Rattle.core430.specs.Instructions.{Sets, deliver, settle}
use Rattle.run430.specs.Kept.{set_kept}

at_each : (f : ℕ → ℕ) (d v k : ℕ) → d < 8 → (if nat_eq k (4 + d) then v else f k) ≡ (if nat_le 4 k && nat_lt k 12 then (if nat_eq k (4 + d) then v else f k) else f k)
at_each f d v k l = grind (arith, nat_tests)

pub set_reg-kept : (f : ℕ → ℕ) (d v : ℕ) → d < 8 → set_reg f (4 + d) v ≡ set_kept f d v
set_reg-kept f d v l = fun_ext (λ k. at_each f d v k l)

-- a result that goes to such a register
pub deliver-kept : (byte : Bool) (r m : ℕ → ℕ) (d v : ℕ) → d < 8 → deliver byte r m (InRegister (4 + d)) v ≡ Sets (set_kept r d v)
deliver-kept byte r m d v l =
    let n3 : 4 + d ≢ 3 = omega arith in
    simp (ne_eqb (4 + d) 3 n3) (ap Sets (set_reg-kept r d v l))

pub settle-kept : (byte : Bool) (pc : ℕ) (r m : ℕ → ℕ) (d v : ℕ) → d < 8 → settle byte pc r m (InRegister (4 + d)) v ≡ Sets (set_kept r d v)
settle-kept byte pc r m d v l =
    let n2 : 4 + d ≢ 2 = omega arith in
    simp (ne_eqb (4 + d) 2 n2) (deliver-kept byte r m d v l)

pub kept-same : (f : ℕ → ℕ) (d v : ℕ) → d < 8 → set_kept f d v (4 + d) ≡ v
kept-same f d v l = grind (arith, nat_tests)

pub kept-other : (f : ℕ → ℕ) (d e v : ℕ) → d < 8 → e ≢ d → set_kept f d v (4 + e) ≡ f (4 + e)
kept-other f d e v l n = grind (arith, nat_tests)

-- such a register is none of the others
pub kept-past : (f : ℕ → ℕ) (d n v : ℕ) → n < 4 → set_reg f n v (4 + d) ≡ f (4 + d)
kept-past f d n v l = grind (arith, nat_tests)

pub kept-argument : (f : ℕ → ℕ) (d n v : ℕ) → d < 8 → 12 ≤ n → set_reg f n v (4 + d) ≡ f (4 + d)
kept-argument f d n v l h = grind (arith, nat_tests)

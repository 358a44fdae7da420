-- Words, registers and code after a write.
use Rattle.std.proofs.Common.{◌≡◌, ◌≢◌, ℕ, ◌%◌, ◌<◌, ◌≤◌, refl, sym, ap, ◌∙◌, arith, Bool, true, false, ◌⊎◌, inl, inr}
use Rattle.std.proofs.lemmas.Bool.{ne_eqb, eq-eqb, cases_eq}
use Rattle.std.proofs.Math.Path.{fun_ext}
use Rattle.std.specs.Prelude.{nat_eq, if◌then◌else◌}
use Rattle.base16.specs.Memory.{put}
use Rattle.base16.proofs.Writes.{put-other}
use Rattle.core430.specs.Registers.{set_reg}
use Rattle.run430.specs.Code.{Agrees}

pub set_reg-twice : (f : ℕ → ℕ) (n a b : ℕ) → set_reg (set_reg f n a) n b ≡ set_reg f n b
set_reg-twice f n a b = fun_ext (λ k. twice (nat_eq k n) b a (f k))
  where
    twice : (t : Bool) (x y z : ℕ) → (if t then x else (if t then y else z)) ≡ (if t then x else z)
    twice true x y z = refl
    twice false x y z = refl

pub set_reg-self : (f : ℕ → ℕ) (n : ℕ) → set_reg f n (f n) ≡ f
set_reg-self f n = fun_ext (λ k. self k (cases_eq k n))
  where
    self : (k : ℕ) → ((k ≡ n) ⊎ (k ≡ n → ⊥)) → (if nat_eq k n then f n else f k) ≡ f k
    self k (inl e) = simp (eq-eqb k n e) (ap f (sym e))
    self k (inr d) = simp (ne_eqb k n d)

-- a register that was not set
pub set_reg-other : (f : ℕ → ℕ) (n k v : ℕ) → k ≢ n → set_reg f n v k ≡ f k
set_reg-other f n k v d = simp (ne_eqb k n d)

-- code stays where it is when a word elsewhere is written
pub Agrees-put : (c : ℕ → ℕ) (lo hi : ℕ) (m : ℕ → ℕ) (a v : ℕ) → Agrees c lo hi m → (a < lo) ⊎ (hi ≤ a) → Agrees c lo hi (put m a v)
Agrees-put c lo hi m a v g o = record { at = λ b l h. let ne : b ≢ a = omega (arith, o) in put-other m a v b ne ∙ g.at b l h }

-- a memory agrees with itself
pub Agrees-self : (m : ℕ → ℕ) (lo hi : ℕ) → Agrees m lo hi m
Agrees-self m lo hi = record { at = λ a l h. refl }

pub small : {a : ℕ} → a < 65536 → a % 65536 ≡ a
small l = omega arith

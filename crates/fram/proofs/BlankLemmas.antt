-- A list of zeros is a memory of zeros.
use Rattle.std.proofs.Common.{◌≡◌, ℕ, ◌/◌, ◌%◌, zero, suc, Bool, true, false, cond, List, refl, ap, ◌∙◌}
use Rattle.std.specs.Prelude.{nat_eq, replicate, slice_index}
use Rattle.base16.specs.Memory.{words_of}

zeros : (n k : ℕ) → slice_index (replicate n 0) k ≡ 0
zeros zero k = refl
zeros (suc n) zero = refl
zeros (suc n) (suc k) = zeros n k

zero_or : (b : Bool) (x : ℕ) → x ≡ 0 → cond b x 0 ≡ 0
zero_or true x e = e
zero_or false x e = refl

pub words_of-zeros : (ws : List ℕ) (n a : ℕ) → ws ≡ replicate n 0 → words_of ws a ≡ 0
words_of-zeros ws n a e = zero_or (nat_eq (a % 2) 0) (slice_index ws (a / 2))
    (ap (λ l. slice_index l (a / 2)) e ∙ zeros n (a / 2))

-- A memory with one word written, and the same in a list of words.
use Rattle.std.proofs.Common.{◌≡◌, ◌≢◌, ℕ, ◌/◌, ◌%◌, ◌<◌, List, length, refl, arith, inl, inr, get_or-set_same, get_or-set_other, ◌⊎◌}
use Rattle.std.proofs.Math.Path.{fun_ext}
use Rattle.std.proofs.lemmas.Bool.{ne_eqb, eq-eqb, cases_eq}
use Rattle.std.proofs.lemmas.Bool.Decides.{nat_tests}
use Rattle.std.specs.Prelude.{slice_set, if◌then◌else◌, nat_eq}
use Rattle.base16.specs.Memory.{words_of, put}

pub put-same : (m : ℕ → ℕ) (a v : ℕ) → put m a v a ≡ v
unfolding put
put-same m a v = grind (arith, nat_tests)

pub put-at : (m : ℕ → ℕ) (a b v : ℕ) → b ≡ a → put m a v b ≡ v
unfolding put
put-at m a b v e = rw (eq-eqb b a e)

pub put-other : (m : ℕ → ℕ) (a v b : ℕ) → b ≢ a → put m a v b ≡ m b
unfolding put
put-other m a v b h = grind (arith, nat_tests)

at_each : (ws : List ℕ) (a w b : ℕ) → a % 2 ≡ 0 → a / 2 < length ws → words_of (slice_set ws (a / 2) w) b ≡ (if nat_eq b a then w else words_of ws b)
at_each ws a w b even within = by_case (cases_eq b a) (cases_eq (b % 2) 0)
  where
    by_case : ((b ≡ a) ⊎ (b ≡ a → ⊥)) → ((b % 2 ≡ 0) ⊎ (b % 2 ≡ 0 → ⊥)) → words_of (slice_set ws (a / 2) w) b ≡ (if nat_eq b a then w else words_of ws b)
    by_case (inl e) k = rw (e, eq-eqb (a % 2) 0 even, eq-eqb a a refl) (get_or-set_same ws (a / 2) w 0 within)
    by_case (inr d) (inl k) =
        let ne : b / 2 ≢ a / 2 = omega arith in
        rw (eq-eqb (b % 2) 0 k, ne_eqb b a d) (get_or-set_other ws (a / 2) (b / 2) w 0 ne)
    by_case (inr d) (inr k) = rw (ne_eqb (b % 2) 0 k, ne_eqb b a d)

-- a write to the list of words is a write to the memory
pub words_put : (ws : List ℕ) (a w : ℕ) → a % 2 ≡ 0 → a / 2 < length ws → words_of (slice_set ws (a / 2) w) ≡ put (words_of ws) a w
unfolding put
words_put ws a w even within = fun_ext (λ b. at_each ws a w b even within)

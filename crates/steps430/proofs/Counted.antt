-- Numbers along a run of the machine: few instructions between two marks.
use Rattle.std.proofs.Common.{◌≡◌, ℕ, zero, suc, ◌+◌, ◌<◌, ◌≤◌, refl, sym, ◌∙◌, subst, arith, Bool, true, false, ◌⊎◌, inl, inr}
use Rattle.std.proofs.lemmas.Bool.Decides.{nat_tests}
use Rattle.std.specs.Prelude.{nat_lt}
use Rattle.ideal430.specs.Ideal.{Ideal, run}
use Rattle.cells430.specs.Stretch.{IdealRuns}
use Rattle.cells430.proofs.Counting.{marks_later}

below_or : (a b : ℕ) → (a < b) ⊎ (b ≤ a)
below_or a b = from (nat_lt a b) refl
  where
    from : (x : Bool) → nat_lt a b ≡ x → (a < b) ⊎ (b ≤ a)
    from true e = inl (grind (arith, nat_tests))
    from false e = inr (grind (arith, nat_tests))

-- one stretch behind the other
pub runs_append : (i j k : ℕ) (s t u : Ideal) → i + j ≡ k → IdealRuns i s t → IdealRuns j t u → IdealRuns k s u
runs_append zero j k s t u e h g =
    let same : j ≡ k = omega arith in
    subst (λ (n : ℕ). IdealRuns n s u) same (subst (λ (x : Ideal). IdealRuns j x u) (sym h) g)
runs_append (suc i) j k s t u e h g =
    let same : suc (i + j) ≡ k = omega arith in
    subst (λ (n : ℕ). IdealRuns n s u) same (h.0, h.1, runs_append i j (i + j) h.0 t u refl h.2 g)

module _ (start : Ideal) where
  -- among the first n the last of those between two marks is near the first
  abbrev pub Few : (most n : ℕ) → Type 0
  Few most n = (i j : ℕ) → i ≤ j → j < n → (run i start).marks ≡ (run j start).marks → j < i + most

  -- at most so many since the last mark
  abbrev pub Near : (spent n : ℕ) → Type 0
  Near spent n = (a : ℕ) → a ≤ n → (run a start).marks ≡ (run n start).marks → n ≤ a + spent

  pub few_more : (most spent i k limit : ℕ) → Few most i → Near spent i → k ≤ limit + 1 → spent + limit < most → Few most (i + k)
  few_more most spent i k limit few near l m a j le lt e = from (below_or j i) (below_or i a)
    where
      from : ((j < i) ⊎ (i ≤ j)) → ((i < a) ⊎ (a ≤ i)) → j < a + most
      from (inl h) g = few a j le h e
      from (inr h) (inl g) = omega arith
      from (inr h) (inr g) =
          let one : (run a start).marks ≤ (run i start).marks = marks_later a i start g in
          let two : (run i start).marks ≤ (run j start).marks = marks_later i j start h in
          let same : (run a start).marks ≡ (run i start).marks = omega arith in
          let there : i ≤ a + spent = near a g same in
          omega arith

  -- no mark was made
  pub near_still : (spent i k limit : ℕ) → Near spent i → k ≤ limit → (run (i + k) start).marks ≡ (run i start).marks
      → Near (limit + spent) (i + k)
  near_still spent i k limit near l still a le e = from (below_or i a)
    where
      from : ((i < a) ⊎ (a ≤ i)) → i + k ≤ a + (limit + spent)
      from (inl g) = omega arith
      from (inr g) = let there : i ≤ a + spent = near a g (e ∙ still) in omega arith

  -- a mark was made
  pub near_new : (i k limit : ℕ) → k ≤ limit → (run (i + k) start).marks ≡ (run i start).marks + 1 → Near limit (i + k)
  near_new i k limit l more a le e = from (below_or i a)
    where
      from : ((i < a) ⊎ (a ≤ i)) → i + k ≤ a + limit
      from (inl g) = omega arith
      from (inr g) = let less : (run a start).marks ≤ (run i start).marks = marks_later a i start g in absurd (omega arith)

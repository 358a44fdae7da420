-- A turn of the loops over parts that repeat, as equations of the functions that they compute.
use Rattle.std.proofs.Common.{◌≡◌, ℕ, suc, ◌+◌, ◌-◌, ◌<◌, ◌≤◌, Bool, cond, List, [], ◌∷◌, ◌++◌, Some, None, refl, ap, length, arith}
use Rattle.c_lex.specs.declared.token.Mark.TheVariants as m
use Rattle.c_parse_expr.specs.TypeWords.{Tokens}
use Rattle.c_parse_expr.specs.Steps.{Parser, and_then, pure, eat}
use Rattle.c_parse_stmt.specs.Repeats.{commas, all_commas, many, all_many}

module _ {A : Type 0} (one : Parser A) where
  pub commas_turn : (n at : ℕ) (found : List A) (ts : Tokens) → at < n
      → commas one (n - at) found ts ≡ and_then (one ts) (λ x ts. and_then (eat m.Comma ts) (λ more. cond more (commas one (n - (at + 1)) (found ++ x ∷ [])) (pure (found ++ x ∷ []))))
  unfolding commas
  commas_turn n at found ts h = let turn : n - at ≡ suc (n - (at + 1)) = omega arith in ap (λ k. commas one k found ts) turn

  pub commas_end : (n at : ℕ) (found : List A) (ts : Tokens) → n ≤ at → commas one (n - at) found ts ≡ None
  unfolding commas
  commas_end n at found ts h = let none : n - at ≡ 0 = omega arith in ap (λ k. commas one k found ts) none

  pub all_commas_is : (ts : Tokens) → all_commas one ts ≡ commas one (length ts) [] ts
  unfolding all_commas
  all_commas_is ts = refl

  pub many_turn : (goes : Tokens → Bool) (n at : ℕ) (found : List A) (ts : Tokens) → at < n
      → many one goes (n - at) found ts ≡ cond (goes ts) (and_then (one ts) (λ x. many one goes (n - (at + 1)) (found ++ x ∷ []))) (Some (found, ts))
  unfolding many
  many_turn goes n at found ts h = let turn : n - at ≡ suc (n - (at + 1)) = omega arith in ap (λ k. many one goes k found ts) turn

  pub many_end : (goes : Tokens → Bool) (n at : ℕ) (found : List A) (ts : Tokens) → n ≤ at → many one goes (n - at) found ts ≡ Some (found, ts)
  unfolding many
  many_end goes n at found ts h = let none : n - at ≡ 0 = omega arith in ap (λ k. many one goes k found ts) none

  pub all_many_is : (goes : Tokens → Bool) (ts : Tokens) → all_many one goes ts ≡ many one goes (length ts) [] ts
  unfolding all_many
  all_many_is goes ts = refl

-- A turn of the loops over expressions, as equations of the functions that they compute.
use Rattle.std.proofs.Common.{◌≡◌, ℕ, suc, ◌+◌, ◌-◌, ◌<◌, ◌≤◌, cond, List, [], ◌∷◌, ◌++◌, Some, None, refl, ap, length, arith}
use Rattle.c_lex.specs.declared.token.Mark.TheVariants as m
use Rattle.c_tree.specs.declared.expression.Expr.{Expr}
use Rattle.c_parse_expr.specs.TypeWords.{Tokens}
use Rattle.c_parse_expr.specs.Steps.{Parser, and_then, pure, eat}
use Rattle.c_parse_expr.specs.Reading.{goes_on, listed, all_listed, bound, bounds, all_bounds, climb, grow}

module _ (expr : ℕ → Parser Expr) where
  pub listed_turn : (n at : ℕ) (found : List Expr) (ts : Tokens) → at < n
      → listed expr (n - at) found ts ≡ and_then (expr 2 ts) (λ e ts. and_then (eat m.Comma ts) (λ more. cond more (listed expr (n - (at + 1)) (found ++ e ∷ [])) (pure (found ++ e ∷ []))))
  unfolding listed
  listed_turn n at found ts h = let turn : n - at ≡ suc (n - (at + 1)) = omega arith in ap (λ k. listed expr k found ts) turn

  pub listed_end : (n at : ℕ) (found : List Expr) (ts : Tokens) → n ≤ at → listed expr (n - at) found ts ≡ None
  unfolding listed
  listed_end n at found ts h = let none : n - at ≡ 0 = omega arith in ap (λ k. listed expr k found ts) none

  pub all_listed_is : (ts : Tokens) → all_listed expr ts ≡ listed expr (length ts) [] ts
  unfolding all_listed
  all_listed_is ts = refl

  pub bounds_turn : (n at : ℕ) (found : List Expr) (ts : Tokens) → at < n
      → bounds expr (n - at) found ts ≡ and_then (eat m.LeftBracket ts) (λ is_bound. cond is_bound (λ ts. and_then (bound expr ts) (λ e. bounds expr (n - (at + 1)) (found ++ e ∷ []))) (pure found))
  unfolding bounds
  bounds_turn n at found ts h = let turn : n - at ≡ suc (n - (at + 1)) = omega arith in ap (λ k. bounds expr k found ts) turn

  pub bounds_end : (n at : ℕ) (found : List Expr) (ts : Tokens) → n ≤ at → bounds expr (n - at) found ts ≡ Some (found, ts)
  unfolding bounds
  bounds_end n at found ts h = let none : n - at ≡ 0 = omega arith in ap (λ k. bounds expr k found ts) none

  pub all_bounds_is : (ts : Tokens) → all_bounds expr ts ≡ bounds expr (length ts) [] ts
  unfolding all_bounds
  all_bounds_is ts = refl

  pub climb_turn : (top least line n at : ℕ) (e : Expr) (ts : Tokens) → at < n
      → climb expr top least line (n - at) e ts ≡ cond (goes_on least e ts) (and_then (grow expr top line e ts) (climb expr top least line (n - (at + 1)))) (Some (e, ts))
  unfolding climb
  climb_turn top least line n at e ts h = let turn : n - at ≡ suc (n - (at + 1)) = omega arith in ap (λ k. climb expr top least line k e ts) turn

  pub climb_end : (top least line n at : ℕ) (e : Expr) (ts : Tokens) → n ≤ at → climb expr top least line (n - at) e ts ≡ Some (e, ts)
  unfolding climb
  climb_end top least line n at e ts h = let none : n - at ≡ 0 = omega arith in ap (λ k. climb expr top least line k e ts) none

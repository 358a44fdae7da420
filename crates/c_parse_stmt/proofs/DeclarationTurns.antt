-- A turn of the loop over the items of a brace list, and a step down in height, as equations of the functions that they compute.
use Rattle.std.proofs.Common.{◌≡◌, ℕ, zero, suc, ◌+◌, ◌-◌, ◌<◌, ◌≤◌, true, false, cond, List, [], ◌∷◌, ◌++◌, Some, None, refl, ap, arith}
use Rattle.c_lex.specs.declared.token.Mark.TheVariants as m
use Rattle.c_tree.specs.declared.declarations.Initial.{Initial}
use Rattle.c_parse_expr.specs.TypeWords.{Tokens, line_at}
use Rattle.c_parse_expr.specs.TypeReading.{spec}
use Rattle.c_parse_expr.specs.Reading.{expr}
use Rattle.c_parse_expr.specs.Steps.{Parser, and_then, pure, eat, mark_next}
use Rattle.c_parse_stmt.specs.DeclarationReading.{items, brace_list, valued, initialiser, declared_at, declaration}

module _ (one : Parser Initial) where
  pub items_turn : (n at : ℕ) (found : List Initial) (ts : Tokens) → at < n
      → items one (n - at) found ts ≡ and_then (one ts) (λ i ts. and_then (eat m.Comma ts) (λ is_more. cond is_more
      (λ ts. cond (mark_next m.RightBrace ts) (Some ((found ++ i ∷ [], true), ts)) (items one (n - (at + 1)) (found ++ i ∷ []) ts)) (pure (found ++ i ∷ [], false))))
  unfolding items
  items_turn n at found ts h = let turn : n - at ≡ suc (n - (at + 1)) = omega arith in ap (λ k. items one k found ts) turn

  pub items_end : (n at : ℕ) (found : List Initial) (ts : Tokens) → n ≤ at → items one (n - at) found ts ≡ None
  unfolding items
  items_end n at found ts h = let none : n - at ≡ 0 = omega arith in ap (λ k. items one k found ts) none

pub initialiser_none : (d : ℕ) (ts : Tokens) → d ≡ 0 → initialiser d ts ≡ None
unfolding initialiser
initialiser_none d ts none = ap (λ n. initialiser n ts) none

pub initialiser_some : (d : ℕ) (ts : Tokens) → 0 < d
    → initialiser d ts ≡ and_then (eat m.LeftBrace ts) (λ is_list. cond is_list (brace_list (initialiser (d - 1)) (line_at ts)) (valued (expr d)))
unfolding initialiser
initialiser_some zero ts h = absurd (omega (arith, h))
initialiser_some (suc d) ts h = let down : suc d - 1 ≡ d = omega arith in rw down refl

pub declaration_none : (d : ℕ) (ts : Tokens) → d ≡ 0 → declaration d ts ≡ None
unfolding declaration
declaration_none d ts none = ap (λ n. declaration n ts) none

pub declaration_some : (d : ℕ) (ts : Tokens) → 0 < d → declaration d ts ≡ and_then (spec ts) (λ s ts. declared_at (d - 1) s (line_at ts) ts)
unfolding declaration
declaration_some zero ts h = absurd (omega (arith, h))
declaration_some (suc d) ts h = let down : suc d - 1 ≡ d = omega arith in rw down refl

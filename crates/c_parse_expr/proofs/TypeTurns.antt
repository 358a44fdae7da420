-- A turn of the loops over the words of a type, as equations of the functions that they compute.
use Rattle.std.proofs.Common.{◌≡◌, ℕ, suc, ◌+◌, ◌-◌, ◌<◌, ◌≤◌, cond, List, [], ◌∷◌, ◌++◌, Some, None, refl, ap, length, arith}
use Rattle.c_lex.specs.declared.token.Token.{Token}
use Rattle.c_lex.specs.declared.token.Mark.TheVariants as m
use Rattle.c_tree.specs.declared.qualified.Qual.{Qual}
use Rattle.c_parse_expr.specs.TypeWords.{Tokens, qual_of}
use Rattle.c_parse_expr.specs.Steps.{and_then, pure, eat}
use Rattle.c_parse_expr.specs.TypeReading.{quals, stars, all_stars}

pub quals_more : (found : List Qual) (t : Token) (ts : Tokens) (q : Qual) → qual_of t.kind ≡ Some q → quals found (t ∷ ts) ≡ quals (found ++ q ∷ []) ts
unfolding quals
quals_more found t ts q is = rw is refl

pub quals_stop : (found : List Qual) (t : Token) (ts : Tokens) → qual_of t.kind ≡ None → quals found (t ∷ ts) ≡ Some (found, t ∷ ts)
unfolding quals
quals_stop found t ts is = rw is refl

pub quals_end : (found : List Qual) (ts : Tokens) → length ts ≤ 0 → quals found ts ≡ Some (found, ts)
unfolding quals
quals_end found [] h = refl
quals_end found (t ∷ ts) h = absurd (omega arith)

pub stars_turn : (n at : ℕ) (found : List (List Qual)) (ts : Tokens) → at < n
    → stars (n - at) found ts ≡ and_then (eat m.Star ts) (λ is_star. cond is_star (λ ts. and_then (quals [] ts) (λ qs. stars (n - (at + 1)) (found ++ qs ∷ []))) (pure found))
unfolding stars
stars_turn n at found ts h = let turn : n - at ≡ suc (n - (at + 1)) = omega arith in ap (λ k. stars k found ts) turn

pub stars_end : (n at : ℕ) (found : List (List Qual)) (ts : Tokens) → n ≤ at → stars (n - at) found ts ≡ Some (found, ts)
unfolding stars
stars_end n at found ts h = let none : n - at ≡ 0 = omega arith in ap (λ k. stars k found ts) none

pub all_stars_is : (ts : Tokens) → all_stars ts ≡ stars (length ts) [] ts
unfolding all_stars
all_stars_is ts = refl

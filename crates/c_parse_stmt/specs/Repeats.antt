-- Parts that repeat: with commas between, or one behind the other.
use Rattle.std.specs.Prelude.{◌≡◌, ℕ, zero, suc, Bool, if◌then◌else◌, List, [], ◌∷◌, ◌++◌, length, Some}
use Rattle.c_lex.specs.declared.token.Token.{Token}
use Rattle.c_lex.specs.declared.token.TokenKind.TheVariants.{Mark}
use Rattle.c_lex.specs.declared.token.Mark.TheVariants as m
use Rattle.c_parse_expr.specs.TypeWords.{Tokens}
use Rattle.c_parse_expr.specs.Steps.{Parser, ◌>>=◌, pure, refuse, eat}

-- one or more, with commas between
pub data SpellsCommas {A : Type 0} (One : A → Tokens → Tokens → Type 0) : List A → Tokens → Tokens → Type 0 where
  last : {x : A} {ts rest : Tokens} → One x ts rest → SpellsCommas One (x ∷ []) ts rest
  further : {x : A} {xs : List A} {t : Token} {ts others rest : Tokens} → One x ts (t ∷ others) → t.kind ≡ Mark m.Comma → SpellsCommas One xs others rest
      → SpellsCommas One (x ∷ xs) ts rest

-- any number
pub data SpellsMany {A : Type 0} (One : A → Tokens → Tokens → Type 0) : List A → Tokens → Tokens → Type 0 where
  no_more : {ts : Tokens} → SpellsMany One [] ts ts
  one_more : {x : A} {xs : List A} {ts mid rest : Tokens} → One x ts mid → SpellsMany One xs mid rest → SpellsMany One (x ∷ xs) ts rest

module _ {A : Type 0} (one : Parser A) where
  unfoldable pub commas : ℕ → List A → Parser (List A)
  commas zero found = refuse
  commas (suc n) found = do
    x ← one
    is_more ← eat m.Comma
    if is_more then commas n (found ++ x ∷ []) else pure (found ++ x ∷ [])

  -- Each turn takes a token, so their count is enough.
  unfoldable pub all_commas : Parser (List A)
  all_commas = λ ts. commas (length ts) [] ts

  unfoldable pub others : A → Parser (List A)
  others x = do
    rest ← all_commas
    pure (x ∷ rest)

  -- what follows the first
  unfoldable pub more_commas : A → Parser (List A)
  more_commas x = do
    is_more ← eat m.Comma
    if is_more then others x else pure (x ∷ [])

  -- as long as what comes next goes on
  unfoldable pub many : (Tokens → Bool) → ℕ → List A → Parser (List A)
  many goes zero found = pure found
  many goes (suc n) found = λ ts. if goes ts then (one >>= λ x. many goes n (found ++ x ∷ [])) ts else Some (found, ts)

  unfoldable pub all_many : (Tokens → Bool) → Parser (List A)
  all_many goes = λ ts. many goes (length ts) [] ts

-- Readers of lists of tokens: what is in front, and the tokens behind it.
use Rattle.std.specs.Prelude.{ℕ, Bool, true, false, if◌then◌else◌, List, [], ◌∷◌, Option, Some, None}
use Rattle.c_lex.specs.declared.token.TokenKind.{TokenKind}
use Rattle.c_lex.specs.declared.token.TokenKind.TheVariants.{Word}
use Rattle.c_lex.specs.declared.token.Mark.{Mark as AMark}
use Rattle.c_lex.specs.declared.token.Keyword.{Keyword as AKeyword}
use Rattle.c_parse_expr.specs.declared.wanted.Wanted.{Wanted}
use Rattle.c_parse_expr.specs.declared.wanted.Wanted.TheVariants as want
use Rattle.c_parse_expr.specs.Expected.{fits}
use Rattle.c_parse_expr.specs.TypeWords.{Tokens}

abbrev pub Outcome : Type 0 → Type 0
Outcome A = Option (A × Tokens)

abbrev pub Parser : Type 0 → Type 0
Parser A = Tokens → Outcome A

abbrev pub and_then : {A B : Type 0} → Outcome A → (A → Parser B) → Outcome B
and_then None f = None
and_then (Some p) f = f p.0 p.1

infixl 10 ◌>>=◌
abbrev pub ◌>>=◌ : {A B : Type 0} → Parser A → (A → Parser B) → Parser B
p >>= f = λ ts. and_then (p ts) f

infixl 10 ◌>>◌
abbrev pub ◌>>◌ : {A B : Type 0} → Parser A → Parser B → Parser B
p >> q = p >>= (λ _. q)

abbrev pub pure : {A : Type 0} → A → Parser A
pure a = λ ts. Some (a, ts)

abbrev pub refuse : {A : Type 0} → Parser A
refuse = λ ts. None

-- takes the token that is wanted, if it comes next
unfoldable pub take_if : Wanted → Parser Bool
take_if x [] = Some (false, [])
take_if x (t ∷ ts) = if fits x t.kind then Some (true, ts) else Some (false, t ∷ ts)

unfoldable pub expect : Wanted → Parser (Unit {0})
expect x = do
  found ← take_if x
  if found then pure tt else refuse

abbrev pub eat : AMark → Parser Bool
eat x = take_if (want.Mark x)

abbrev pub eat_word : AKeyword → Parser Bool
eat_word x = take_if (want.Keyword x)

abbrev pub closing : AMark → Parser (Unit {0})
closing x = expect (want.Mark x)

-- takes a name
abbrev pub word_by : TokenKind → Parser (List ℕ)
word_by (Word n) = pure n
word_by _ = refuse

unfoldable pub word : Parser (List ℕ)
word [] = None
word (t ∷ ts) = word_by t.kind ts

-- whether this mark comes next
abbrev pub mark_next : AMark → Tokens → Bool
mark_next x [] = false
mark_next x (t ∷ _) = fits (want.Mark x) t.kind

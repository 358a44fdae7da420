-- How the words of a type are read.
use Rattle.std.specs.Prelude.{ℕ, zero, suc, Bool, true, false, if◌then◌else◌, List, [], ◌∷◌, ◌++◌, length, Option, Some, None}
use Rattle.c_lex.specs.declared.token.TokenKind.{TokenKind}
use Rattle.c_lex.specs.declared.token.TokenKind.TheVariants.{Keyword}
use Rattle.c_lex.specs.declared.token.Keyword.TheVariants as w
use Rattle.c_lex.specs.declared.token.Mark.TheVariants as m
use Rattle.c_tree.specs.declared.qualified.Qual.{Qual}
use Rattle.c_tree.specs.declared.qualified.Sign.{Sign}
use Rattle.c_tree.specs.declared.qualified.Sign.TheVariants as sign
use Rattle.c_tree.specs.declared.qualified.Base.{Base}
use Rattle.c_tree.specs.declared.qualified.Base.TheVariants as base
use Rattle.c_tree.specs.declared.qualified.Spec.{Spec}
use Rattle.c_parse_expr.specs.Steps.{Parser, Outcome, ◌>>=◌, pure, refuse, eat, eat_word, word}
use Rattle.c_parse_expr.specs.TypeWords.{qual_of}

-- the qualifiers in front, all of them
abbrev pub quals_by : (List Qual → Outcome (List Qual)) → Option Qual → List Qual → Parser (List Qual)
quals_by again None found ts = Some (found, ts)
quals_by again (Some q) found ts = again (found ++ q ∷ [])

unfoldable pub quals : List Qual → Parser (List Qual)
quals found [] = Some (found, [])
quals found (t ∷ ts) = quals_by (λ more. quals more ts) (qual_of t.kind) found (t ∷ ts)

unfoldable pub short_rest : Option Sign → Parser Base
short_rest s = do
  with_int ← eat_word w.Int
  pure (base.Short s with_int)

unfoldable pub unsigned_int : Parser Base
unsigned_int = do
  with_int ← eat_word w.Int
  pure (base.Unsigned with_int)

unfoldable pub unsigned_rest : Parser Base
unsigned_rest = do
  is_char ← eat_word w.Char
  if is_char then pure base.UnsignedChar else do
    is_short ← eat_word w.Short
    if is_short then short_rest (Some sign.Unsigned) else unsigned_int

unfoldable pub signed_rest : Parser Base
signed_rest = do
  is_int ← eat_word w.Int
  if is_int then pure (base.Int true) else do
    is_short ← eat_word w.Short
    if is_short then short_rest (Some sign.Signed) else pure base.Signed

unfoldable pub struct_rest : Parser Base
struct_rest = do
  n ← word
  pure (base.Struct n)

-- the word that it begins with is taken already
abbrev pub base_by : TokenKind → Parser Base
base_by (Keyword w.Void) = pure base.Void
base_by (Keyword w.Char) = pure base.Char
base_by (Keyword w.Struct) = struct_rest
base_by (Keyword w.Int) = pure (base.Int false)
base_by (Keyword w.Signed) = signed_rest
base_by (Keyword w.Unsigned) = unsigned_rest
base_by (Keyword w.Short) = short_rest None
base_by _ = refuse

unfoldable pub a_base : Parser Base
a_base [] = None
a_base (t ∷ ts) = base_by t.kind ts

unfoldable pub spec : Parser Spec
spec = do
  before ← quals []
  b ← a_base
  behind ← quals []
  pure (record { before = before; base = b; after = behind })

-- the qualifiers of each star. Each turn takes a token, so their count is enough.
unfoldable pub stars : ℕ → List (List Qual) → Parser (List (List Qual))
stars zero found = pure found
stars (suc n) found = do
  is_star ← eat m.Star
  if is_star then (quals [] >>= λ qs. stars n (found ++ qs ∷ [])) else pure found

unfoldable pub all_stars : Parser (List (List Qual))
all_stars = λ ts. stars (length ts) [] ts

-- what a type begins with
abbrev pub names_type : TokenKind → Bool
names_type (Keyword w.Const) = true
names_type (Keyword w.Volatile) = true
names_type (Keyword w.Void) = true
names_type (Keyword w.Char) = true
names_type (Keyword w.Struct) = true
names_type (Keyword w.Int) = true
names_type (Keyword w.Signed) = true
names_type (Keyword w.Unsigned) = true
names_type (Keyword w.Short) = true
names_type _ = false

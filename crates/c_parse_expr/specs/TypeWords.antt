-- The words of a type: qualifiers, the base, and stars (C99 6.7.2, 6.7.3 and 6.7.5.1). Each relation says what stands in
-- the first list of tokens before the second.
use Rattle.std.specs.Prelude.{◌≡◌, ℕ, Bool, true, false, List, [], ◌∷◌, Option, Some, None}
use Rattle.c_lex.specs.declared.token.Token.{Token}
use Rattle.c_lex.specs.declared.token.TokenKind.{TokenKind}
use Rattle.c_lex.specs.declared.token.TokenKind.TheVariants.{Word, Keyword, Mark}
use Rattle.c_lex.specs.declared.token.Keyword.{Keyword as AKeyword}
use Rattle.c_lex.specs.declared.token.Keyword.TheVariants as w
use Rattle.c_lex.specs.declared.token.Mark.TheVariants as m
use Rattle.c_tree.specs.declared.qualified.Qual.{Qual}
use Rattle.c_tree.specs.declared.qualified.Qual.TheVariants as qual
use Rattle.c_tree.specs.declared.qualified.Sign.{Sign}
use Rattle.c_tree.specs.declared.qualified.Sign.TheVariants as sign
use Rattle.c_tree.specs.declared.qualified.Base.{Base}
use Rattle.c_tree.specs.declared.qualified.Base.TheVariants as base
use Rattle.c_tree.specs.declared.qualified.Spec.{Spec}

abbrev pub Tokens : Type 0
Tokens = List Token

-- the line of the first token
abbrev pub line_at : Tokens → ℕ
line_at [] = 0
line_at (t ∷ _) = t.line

abbrev pub keyword_qual : AKeyword → Option Qual
keyword_qual w.Const = Some qual.Const
keyword_qual w.Volatile = Some qual.Volatile
keyword_qual _ = None

abbrev pub qual_of : TokenKind → Option Qual
qual_of (Keyword x) = keyword_qual x
qual_of _ = None

pub data SpellsQuals : List Qual → Tokens → Tokens → Type 0 where
  no_qual : {ts : Tokens} → SpellsQuals [] ts ts
  a_qual : {q : Qual} {qs : List Qual} {t : Token} {ts rest : Tokens} → qual_of t.kind ≡ Some q → SpellsQuals qs ts rest → SpellsQuals (q ∷ qs) (t ∷ ts) rest

-- a keyword that may be left out
pub data SpellsKeyword (x : AKeyword) : Bool → Tokens → Tokens → Type 0 where
  said : {t : Token} {rest : Tokens} → t.kind ≡ Keyword x → SpellsKeyword x true (t ∷ rest) rest
  unsaid : {ts : Tokens} → SpellsKeyword x false ts ts

pub data SpellsSign : Option Sign → Tokens → Tokens → Type 0 where
  no_sign : {ts : Tokens} → SpellsSign None ts ts
  signed : {t : Token} {rest : Tokens} → t.kind ≡ Keyword w.Signed → SpellsSign (Some sign.Signed) (t ∷ rest) rest
  unsigned : {t : Token} {rest : Tokens} → t.kind ≡ Keyword w.Unsigned → SpellsSign (Some sign.Unsigned) (t ∷ rest) rest

pub data SpellsBase : Base → Tokens → Tokens → Type 0 where
  void : {t : Token} {rest : Tokens} → t.kind ≡ Keyword w.Void → SpellsBase base.Void (t ∷ rest) rest
  char : {t : Token} {rest : Tokens} → t.kind ≡ Keyword w.Char → SpellsBase base.Char (t ∷ rest) rest
  unsigned_char : {t u : Token} {rest : Tokens} → t.kind ≡ Keyword w.Unsigned → u.kind ≡ Keyword w.Char → SpellsBase base.UnsignedChar (t ∷ u ∷ rest) rest
  struct : {t u : Token} {n : List ℕ} {rest : Tokens} → t.kind ≡ Keyword w.Struct → u.kind ≡ Word n → SpellsBase (base.Struct n) (t ∷ u ∷ rest) rest
  int : {b : Bool} {t : Token} {ts rest : Tokens} → SpellsKeyword w.Signed b ts (t ∷ rest) → t.kind ≡ Keyword w.Int → SpellsBase (base.Int b) ts rest
  signed_alone : {t : Token} {rest : Tokens} → t.kind ≡ Keyword w.Signed → SpellsBase base.Signed (t ∷ rest) rest
  unsigned_int : {b : Bool} {t : Token} {ts rest : Tokens} → t.kind ≡ Keyword w.Unsigned → SpellsKeyword w.Int b ts rest → SpellsBase (base.Unsigned b) (t ∷ ts) rest
  short : {s : Option Sign} {b : Bool} {t : Token} {ts mid rest : Tokens} → SpellsSign s ts (t ∷ mid) → t.kind ≡ Keyword w.Short → SpellsKeyword w.Int b mid rest
      → SpellsBase (base.Short s b) ts rest

pub data SpellsSpec : Spec → Tokens → Tokens → Type 0 where
  specified : {before after : List Qual} {b : Base} {ts mid others rest : Tokens} → SpellsQuals before ts mid → SpellsBase b mid others → SpellsQuals after others rest
      → SpellsSpec (record { before = before; base = b; after = after }) ts rest

-- the qualifiers of each star
pub data SpellsStars : List (List Qual) → Tokens → Tokens → Type 0 where
  no_star : {ts : Tokens} → SpellsStars [] ts ts
  a_star : {qs : List Qual} {qss : List (List Qual)} {t : Token} {ts mid rest : Tokens} → t.kind ≡ Mark m.Star → SpellsQuals qs ts mid → SpellsStars qss mid rest
      → SpellsStars (qs ∷ qss) (t ∷ ts) rest

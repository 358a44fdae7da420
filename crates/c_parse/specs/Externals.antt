-- Which tokens spell a whole source (C99 6.9).
use Rattle.std.specs.Prelude.{◌≡◌, ℕ, ◌≤◌, Bool, true, false, ◌&&◌, List, [], ◌∷◌, Option, Some, None, is_some}
use Rattle.c_lex.specs.declared.token.Token.{Token}
use Rattle.c_lex.specs.declared.token.TokenKind.TheVariants.{Word, Keyword, Mark, Note}
use Rattle.c_lex.specs.declared.token.Keyword.TheVariants as w
use Rattle.c_lex.specs.declared.token.Mark.TheVariants as m
use Rattle.c_lex.specs.declared.token.Note.TheVariants as note
use Rattle.c_tree.specs.declared.qualified.Qual.{Qual}
use Rattle.c_tree.specs.declared.qualified.Spec.{Spec}
use Rattle.c_tree.specs.declared.expression.Expr.{Expr}
use Rattle.c_tree.specs.declared.declarations.Duration.{Duration}
use Rattle.c_tree.specs.declared.declarations.Declr.{Declr}
use Rattle.c_tree.specs.declared.declarations.Init.{Init}
use Rattle.c_tree.specs.declared.declarations.Declaration.{Declaration}
use Rattle.c_tree.specs.declared.statements.Compound.{Compound}
use Rattle.c_tree.specs.declared.unit.Member.{Member}
use Rattle.c_tree.specs.declared.unit.Struct.{Struct}
use Rattle.c_tree.specs.declared.unit.Param.{Param}
use Rattle.c_tree.specs.declared.unit.Params.{Params}
use Rattle.c_tree.specs.declared.unit.Params.TheVariants as params
use Rattle.c_tree.specs.declared.unit.Function.{Function}
use Rattle.c_tree.specs.declared.unit.External.{External}
use Rattle.c_tree.specs.declared.unit.External.TheVariants as external
use Rattle.c_tree.specs.declared.unit.Tree.{Tree}
use Rattle.c_parse_expr.specs.declared.wanted.Wanted.TheVariants as want
use Rattle.c_parse_expr.specs.Expected.{fits}
use Rattle.c_parse_expr.specs.Ranks.{conditional_rank, rank}
use Rattle.c_parse_expr.specs.TypeWords.{Tokens, line_at, SpellsKeyword, SpellsSpec, SpellsStars}
use Rattle.c_parse_expr.specs.Grammar.{Spells, SpellsBounds}
use Rattle.c_parse_stmt.specs.Repeats.{SpellsCommas, SpellsMany}
use Rattle.c_parse_stmt.specs.Declarations.{Lasts, Declares, SpellsInit, SpellsDeclaration}
use Rattle.c_parse_stmt.specs.Statements.{Composes}

pub data SpellsMember : Member → Tokens → Tokens → Type 0 where
  members : {spec : Spec} {ds : List Declr} {t : Token} {ts mid rest : Tokens} → SpellsSpec spec ts mid
      → SpellsCommas Declares ds mid (t ∷ rest) → t.kind ≡ Mark m.Semicolon
      → SpellsMember (record { spec = spec; declrs = ds }) ts rest

pub data SpellsStruct : Struct → Tokens → Tokens → Type 0 where
  structure : {n : List ℕ} {x : Member} {xs : List Member} {t u v z : Token} {ts rest : Tokens} → t.kind ≡ Keyword w.Struct
      → u.kind ≡ Word n → v.kind ≡ Mark m.LeftBrace
      → SpellsMany SpellsMember (x ∷ xs) ts (z ∷ rest) → z.kind ≡ Mark m.RightBrace
      → SpellsStruct (record { name = n; members = x ∷ xs; line = t.line }) (t ∷ u ∷ v ∷ ts) rest

-- the name of a parameter, which a prototype may leave out
pub data SpellsTitle : Option (List ℕ) → Tokens → Tokens → Type 0 where
  untitled : {ts : Tokens} → SpellsTitle None ts ts
  titled : {n : List ℕ} {t : Token} {rest : Tokens} → t.kind ≡ Word n → SpellsTitle (Some n) (t ∷ rest) rest

-- the size in the first brackets of a parameter
pub data SpellsSize : Option Expr → Tokens → Tokens → Type 0 where
  unsized : {ts : Tokens} → SpellsSize None ts ts
  sized : {e : Expr} {ts rest : Tokens} → Spells e ts rest → conditional_rank ≤ rank e → SpellsSize (Some e) ts rest

-- the brackets of a parameter: the first may be empty
pub data SpellsBrackets : Option (Option Expr) → List Expr → Tokens → Tokens → Type 0 where
  no_bracket : {ts : Tokens} → SpellsBrackets None [] ts ts
  a_bracket : {e : Option Expr} {es : List Expr} {t u : Token} {ts mid rest : Tokens} → t.kind ≡ Mark m.LeftBracket
      → SpellsSize e ts (u ∷ mid) → u.kind ≡ Mark m.RightBracket
      → SpellsBounds es mid rest → SpellsBrackets (Some e) es (t ∷ ts) rest

pub data Parametrises : Param → Tokens → Tokens → Type 0 where
  parametrises : {spec : Spec} {stars : List (List Qual)} {name : Option (List ℕ)} {size : Option (Option Expr)}
      {es : List Expr} {ts mid others behind rest : Tokens}
      → SpellsSpec spec ts mid → SpellsStars stars mid others → SpellsTitle name others behind
      → SpellsBrackets size es behind rest
      → Parametrises (record { spec = spec; stars = stars; name = name; first_bound = size; bounds = es }) ts rest

-- `void` and the parenthesis that closes
abbrev pub void_alone : Tokens → Bool
void_alone [] = false
void_alone (t ∷ []) = false
void_alone (t ∷ u ∷ _) = fits (want.Keyword w.Void) t.kind && fits (want.Mark m.RightParen) u.kind

-- `(void)` has no parameter
pub data Takes : Params → Tokens → Tokens → Type 0 where
  nothing_taken : {b : Bool} {ts rest : Tokens} → SpellsKeyword w.Void b ts rest → Takes (params.Void b) ts rest
  taken : {ps : List Param} {ts rest : Tokens} → SpellsCommas Parametrises ps ts rest → void_alone ts ≡ false
      → Takes (params.List ps) ts rest

abbrev pub all_named : List Param → Bool
all_named [] = true
all_named (p ∷ ps) = is_some p.name && all_named ps

abbrev pub named_in : Params → Bool
named_in (params.Void _) = true
named_in (params.List ps) = all_named ps

-- what ends a function: a parameter without a name stands in prototypes only
pub data Ends : Params → Option Compound → Tokens → Tokens → Type 0 where
  prototype : {ps : Params} {t : Token} {rest : Tokens} → t.kind ≡ Mark m.Semicolon → Ends ps None (t ∷ rest) rest
  with_body : {ps : Params} {body : Compound} {ts rest : Tokens} → named_in ps ≡ true → Composes false false body ts rest
      → Ends ps (Some body) ts rest

pub data SpellsFunction : Function → Tokens → Tokens → Type 0 where
  function : {spec : Spec} {stars : List (List Qual)} {n : List ℕ} {ps : Params} {body : Option Compound} {t u v : Token}
      {ts mid others behind rest : Tokens}
      → SpellsSpec spec ts mid → SpellsStars stars mid (t ∷ u ∷ others) → t.kind ≡ Word n → u.kind ≡ Mark m.LeftParen
      → Takes ps others (v ∷ behind) → v.kind ≡ Mark m.RightParen
      → Ends ps body behind rest
      → SpellsFunction (record { spec = spec; stars = stars; name = n; params = ps; body = body; line = line_at ts }) ts rest

pub data SpellsLifetime : Option Duration → Tokens → Tokens → Type 0 where
  for_ever : {ts : Tokens} → SpellsLifetime None ts ts
  expires_after : {x : Duration} {t u v : Token} {ts rest : Tokens} → t.kind ≡ Note note.ExpiresAfter
      → u.kind ≡ Mark m.LeftParen → Lasts x ts (v ∷ rest)
      → v.kind ≡ Mark m.RightParen → SpellsLifetime (Some x) (t ∷ u ∷ ts) rest

-- declarators that may be left out
pub data SpellsInits : List Init → Tokens → Tokens → Type 0 where
  no_inits : {ts : Tokens} → SpellsInits [] ts ts
  some_inits : {is : List Init} {ts rest : Tokens} → SpellsCommas SpellsInit is ts rest → SpellsInits is ts rest

pub data SpellsExternal : External → Tokens → Tokens → Type 0 where
  a_struct : {s : Struct} {is : List Init} {t : Token} {ts mid rest : Tokens} → SpellsStruct s ts mid
      → SpellsInits is mid (t ∷ rest) → t.kind ≡ Mark m.Semicolon
      → SpellsExternal (external.Struct s is) ts rest
  a_function : {b : Bool} {f : Function} {ts mid rest : Tokens} → SpellsKeyword w.Static b ts mid → SpellsFunction f mid rest
      → SpellsExternal (external.Function b f) ts rest
  a_declaration : {b : Bool} {life : Option Duration} {x : Declaration} {ts mid others rest : Tokens}
      → SpellsKeyword w.Static b ts mid → SpellsLifetime life mid others
      → SpellsDeclaration x others rest → SpellsExternal (external.Declaration b life x) ts rest

-- the tree that these tokens spell, all of them
pub data SpellsTree : Tree → Tokens → Type 0 where
  spells_tree : {xs : List External} {ts : Tokens} → SpellsMany SpellsExternal xs ts []
      → SpellsTree (record { externals = xs }) ts

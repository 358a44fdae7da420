-- Which tokens spell a declaration (C99 6.7).
use Rattle.std.specs.Prelude.{◌≡◌, ℕ, ◌≤◌, Bool, true, false, List, [], ◌∷◌, Option, Some, None, codes}
use Rattle.c_lex.specs.declared.token.Token.{Token}
use Rattle.c_lex.specs.declared.token.TokenKind.TheVariants.{Word, Number, Mark}
use Rattle.c_lex.specs.declared.token.Mark.TheVariants as m
use Rattle.c_tree.specs.declared.qualified.Qual.{Qual}
use Rattle.c_tree.specs.declared.qualified.Spec.{Spec}
use Rattle.c_tree.specs.declared.expression.Expr.{Expr}
use Rattle.c_tree.specs.declared.declarations.TimeUnit.{TimeUnit}
use Rattle.c_tree.specs.declared.declarations.TimeUnit.TheVariants as unit
use Rattle.c_tree.specs.declared.declarations.Duration.{Duration}
use Rattle.c_tree.specs.declared.declarations.Declr.{Declr}
use Rattle.c_tree.specs.declared.declarations.Initial.{Initial}
use Rattle.c_tree.specs.declared.declarations.Initial.TheVariants as initial
use Rattle.c_tree.specs.declared.declarations.Init.{Init}
use Rattle.c_tree.specs.declared.declarations.Declaration.{Declaration}
use Rattle.c_parse_expr.specs.Ranks.{assign_rank, rank}
use Rattle.c_parse_expr.specs.TypeWords.{Tokens, line_at, SpellsSpec, SpellsStars}
use Rattle.c_parse_expr.specs.Grammar.{Spells, SpellsBounds}
use Rattle.c_parse_stmt.specs.Repeats.{SpellsCommas}

abbrev pub unit_text : TimeUnit → List ℕ
unit_text unit.Milliseconds = codes "ms"
unit_text unit.Seconds = codes "s"
unit_text unit.Minutes = codes "min"

pub data Lasts : Duration → Tokens → Tokens → Type 0 where
  lasts : {t u : Token} {n : ℕ} {decimal suffixed : Bool} {x : TimeUnit} {rest : Tokens} → t.kind ≡ Number n decimal suffixed → u.kind ≡ Word (unit_text x)
      → Lasts (record { value = n; decimal = decimal; unsigned = suffixed; unit = x }) (t ∷ u ∷ rest) rest

pub data Declares : Declr → Tokens → Tokens → Type 0 where
  declares : {stars : List (List Qual)} {n : List ℕ} {bounds : List Expr} {t : Token} {ts mid rest : Tokens} → SpellsStars stars ts (t ∷ mid) → t.kind ≡ Word n
      → SpellsBounds bounds mid rest → Declares (record { stars = stars; name = n; bounds = bounds }) ts rest

mutual
  -- what stands behind the `=` of a declarator
  pub data SpellsInitial : Initial → Tokens → Tokens → Type 0 where
    valued : {e : Expr} {ts rest : Tokens} → Spells e ts rest → assign_rank ≤ rank e → SpellsInitial (initial.Assign e) ts rest
    braced : {t u : Token} {is : List Initial} {comma : Bool} {ts rest : Tokens} → t.kind ≡ Mark m.LeftBrace → SpellsInitials is comma ts (u ∷ rest)
        → u.kind ≡ Mark m.RightBrace → SpellsInitial (initial.List is comma t.line) (t ∷ ts) rest

  -- one or more with commas between, and whether a comma stands behind the last
  pub data SpellsInitials : List Initial → Bool → Tokens → Tokens → Type 0 where
    last_item : {i : Initial} {ts rest : Tokens} → SpellsInitial i ts rest → SpellsInitials (i ∷ []) false ts rest
    last_comma : {i : Initial} {t : Token} {ts rest : Tokens} → SpellsInitial i ts (t ∷ rest) → t.kind ≡ Mark m.Comma → SpellsInitials (i ∷ []) true ts rest
    next_item : {i : Initial} {is : List Initial} {comma : Bool} {t : Token} {ts others rest : Tokens} → SpellsInitial i ts (t ∷ others) → t.kind ≡ Mark m.Comma
        → SpellsInitials is comma others rest → SpellsInitials (i ∷ is) comma ts rest

pub data Initialises : Option Initial → Tokens → Tokens → Type 0 where
  without : {ts : Tokens} → Initialises None ts ts
  with_value : {i : Initial} {t : Token} {ts rest : Tokens} → t.kind ≡ Mark m.Assign → SpellsInitial i ts rest → Initialises (Some i) (t ∷ ts) rest

pub data SpellsInit : Init → Tokens → Tokens → Type 0 where
  inits : {declr : Declr} {i : Option Initial} {ts mid rest : Tokens} → Declares declr ts mid → Initialises i mid rest
      → SpellsInit (record { declr = declr; initial = i; line = line_at ts }) ts rest

pub data SpellsDeclaration : Declaration → Tokens → Tokens → Type 0 where
  declaring : {spec : Spec} {is : List Init} {t : Token} {ts mid rest : Tokens} → SpellsSpec spec ts mid → SpellsCommas SpellsInit is mid (t ∷ rest) → t.kind ≡ Mark m.Semicolon
      → SpellsDeclaration (record { spec = spec; inits = is }) ts rest

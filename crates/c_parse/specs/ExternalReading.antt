-- How a whole source is read.
use Rattle.std.specs.Prelude.{ℕ, suc, Bool, true, false, ◌&&◌, if◌then◌else◌, List, [], ◌∷◌, Option, Some, None}
use Rattle.c_lex.specs.declared.token.TokenKind.{TokenKind}
use Rattle.c_lex.specs.declared.token.TokenKind.TheVariants.{Word}
use Rattle.c_lex.specs.declared.token.Keyword.TheVariants as w
use Rattle.c_lex.specs.declared.token.Mark.TheVariants as m
use Rattle.c_lex.specs.declared.token.Note.TheVariants as note
use Rattle.c_tree.specs.declared.qualified.Qual.{Qual}
use Rattle.c_tree.specs.declared.qualified.Spec.{Spec}
use Rattle.c_tree.specs.declared.expression.Expr.{Expr}
use Rattle.c_tree.specs.declared.declarations.Declr.{Declr}
use Rattle.c_tree.specs.declared.declarations.Init.{Init}
use Rattle.c_tree.specs.declared.statements.Compound.{Compound}
use Rattle.c_tree.specs.declared.unit.Member.{Member}
use Rattle.c_tree.specs.declared.unit.Struct.{Struct}
use Rattle.c_tree.specs.declared.unit.Param.{Param}
use Rattle.c_tree.specs.declared.unit.Params.{Params}
use Rattle.c_tree.specs.declared.unit.Params.TheVariants as params
use Rattle.c_tree.specs.declared.unit.External.{External}
use Rattle.c_tree.specs.declared.unit.External.TheVariants as external
use Rattle.c_tree.specs.declared.unit.Tree.{Tree}
use Rattle.c_parse_expr.specs.declared.wanted.Wanted.TheVariants as want
use Rattle.c_parse_expr.specs.Expected.{fits}
use Rattle.c_parse_expr.specs.Ranks.{conditional_rank}
use Rattle.c_parse_expr.specs.TypeWords.{Tokens, line_at}
use Rattle.c_parse_expr.specs.Steps.{Parser, Outcome, ◌>>=◌, ◌>>◌, pure, expect, eat, eat_word, closing, word, mark_next}
use Rattle.c_parse_expr.specs.TypeReading.{spec, all_stars}
use Rattle.c_parse_expr.specs.Reading as e
use Rattle.c_parse_stmt.specs.Repeats.{all_commas, all_many}
use Rattle.c_parse_stmt.specs.DeclarationReading.{duration, init, declaration, declaration_rest}
use Rattle.c_parse_stmt.specs.StatementReading.{unclosed, a_compound, statement}
use Rattle.c_parse.specs.Externals.{void_alone, named_in}

-- whether a struct is defined here
abbrev pub struct_next : Tokens → Bool
struct_next [] = false
struct_next (t ∷ []) = false
struct_next (t ∷ u ∷ ts) = fits (want.Keyword w.Struct) t.kind && mark_next m.LeftBrace ts

abbrev pub lifetime_next : Tokens → Bool
lifetime_next [] = false
lifetime_next (t ∷ _) = fits (want.Note note.ExpiresAfter) t.kind

abbrev pub title_by : TokenKind → Tokens → Parser (Option (List ℕ))
title_by (Word n) ts = pure (Some n)
title_by _ ts = λ behind. Some (None, ts)

unfoldable pub title : Parser (Option (List ℕ))
title [] = Some (None, [])
title (t ∷ ts) = title_by t.kind (t ∷ ts) ts

-- What stands in a struct or a function is of height d at most.
module _ (d : ℕ) where
  unfoldable pub declr : Parser Declr
  declr = do
    stars ← all_stars
    n ← word
    bounds ← e.all_bounds (e.expr d)
    pure (record { stars = stars; name = n; bounds = bounds })

  unfoldable pub member : Parser Member
  member = do
    s ← spec
    ds ← all_commas declr
    closing m.Semicolon
    pure (record { spec = s; declrs = ds })

  unfoldable pub structure_at : ℕ → Parser Struct
  structure_at line = do
    expect (want.Keyword w.Struct)
    n ← word
    closing m.LeftBrace
    x ← member
    xs ← all_many member unclosed
    closing m.RightBrace
    pure (record { name = n; members = x ∷ xs; line = line })

  unfoldable pub some_inits : Parser (List Init)
  some_inits = λ ts. if mark_next m.Semicolon ts then Some ([], ts) else all_commas (init d) ts

  unfoldable pub struct_external : ℕ → Parser External
  struct_external line = do
    s ← structure_at line
    is ← some_inits
    closing m.Semicolon
    pure (external.Struct s is)

  unfoldable pub given_size : Parser (Option Expr)
  given_size = do
    x ← e.expr d conditional_rank
    pure (Some x)

  unfoldable pub size : Parser (Option Expr)
  size = λ ts. if mark_next m.RightBracket ts then Some (None, ts) else given_size ts

  unfoldable pub bracket_rest : Parser (Option (Option Expr) × List Expr)
  bracket_rest = do
    x ← size
    closing m.RightBracket
    es ← e.all_bounds (e.expr d)
    pure (Some x, es)

  unfoldable pub brackets : Parser (Option (Option Expr) × List Expr)
  brackets = do
    is_open ← eat m.LeftBracket
    if is_open then bracket_rest else pure (None, [])

  unfoldable pub param : Parser Param
  param = do
    s ← spec
    stars ← all_stars
    n ← title
    b ← brackets
    pure (record { spec = s; stars = stars; name = n; first_bound = b.0; bounds = b.1 })

  unfoldable pub void_param : Parser Params
  void_param = do
    expect (want.Keyword w.Void)
    pure (params.Void true)

  unfoldable pub param_list : Parser Params
  param_list = do
    ps ← all_commas param
    pure (params.List ps)

  unfoldable pub takes : Parser Params
  takes = λ ts. if void_alone ts then void_param ts else
      (if mark_next m.RightParen ts then Some (params.Void false, ts) else param_list ts)

  unfoldable pub no_body : Parser (Option Compound)
  no_body = do
    closing m.Semicolon
    pure None

  unfoldable pub body : Parser (Option Compound)
  body = do
    x ← a_compound d (statement d) false false
    pure (Some x)

  unfoldable pub function_end : Params → Parser (Option Compound)
  function_end ps = λ ts. if mark_next m.Semicolon ts then no_body ts else (if named_in ps then body ts else None)

  -- behind the parenthesis that opens
  unfoldable pub function_rest : Bool → ℕ → Spec → List (List Qual) → List ℕ → Parser External
  function_rest b line s stars n = do
    ps ← takes
    closing m.RightParen
    x ← function_end ps
    pure (external.Function b (record { spec = s; stars = stars; name = n; params = ps; body = x; line = line }))

  unfoldable pub plain_declaration : Bool → Spec → ℕ → List (List Qual) → List ℕ → Parser External
  plain_declaration b s line stars n = do
    x ← declaration_rest d s line stars n
    pure (external.Declaration b None x)

  -- a function or a declaration, behind its base type: the lines are those where the whole and its first declarator begin
  unfoldable pub front_rest : Bool → ℕ → Spec → ℕ → Parser External
  front_rest b line s at = do
    stars ← all_stars
    n ← word
    is_function ← eat m.LeftParen
    if is_function then function_rest b line s stars n else plain_declaration b s at stars n

  unfoldable pub front : Bool → ℕ → Parser External
  front b line = do
    s ← spec
    (λ ts. front_rest b line s (line_at ts) ts)

  unfoldable pub timed_declaration : Bool → Parser External
  timed_declaration b = do
    expect (want.Note note.ExpiresAfter)
    closing m.LeftParen
    life ← duration
    closing m.RightParen
    x ← declaration (suc d)
    pure (external.Declaration b (Some life) x)

  unfoldable pub static_rest : Bool → Parser External
  static_rest b = λ ts. if lifetime_next ts then timed_declaration b ts else front b (line_at ts) ts

  unfoldable pub plain_external : Parser External
  plain_external = do
    is_static ← eat_word w.Static
    static_rest is_static

  unfoldable pub an_external : Parser External
  an_external = λ ts. if struct_next ts then struct_external (line_at ts) ts else plain_external ts

abbrev pub some_left : Tokens → Bool
some_left [] = false
some_left (t ∷ _) = true

abbrev pub at_end : Outcome (List External) → Option Tree
at_end None = None
at_end (Some (xs, [])) = Some (record { externals = xs })
at_end (Some (xs, t ∷ ts)) = None

-- the whole source; what stands in its structs and functions is of height d at most
unfoldable pub source : ℕ → Tokens → Option Tree
source d ts = at_end (all_many (an_external d) some_left ts)

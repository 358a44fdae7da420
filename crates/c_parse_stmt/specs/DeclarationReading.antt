-- How declarations are read.
use Rattle.std.specs.Prelude.{ℕ, zero, suc, Bool, true, false, if◌then◌else◌, List, [], ◌∷◌, ◌++◌, length, Option, Some, None, codes, bytes_eq}
use Rattle.c_lex.specs.declared.token.TokenKind.{TokenKind}
use Rattle.c_lex.specs.declared.token.TokenKind.TheVariants.{Number}
use Rattle.c_lex.specs.declared.token.Mark.TheVariants as m
use Rattle.c_tree.specs.declared.qualified.Qual.{Qual}
use Rattle.c_tree.specs.declared.qualified.Spec.{Spec}
use Rattle.c_tree.specs.declared.expression.Expr.{Expr}
use Rattle.c_tree.specs.declared.declarations.TimeUnit.{TimeUnit}
use Rattle.c_tree.specs.declared.declarations.TimeUnit.TheVariants as unit
use Rattle.c_tree.specs.declared.declarations.Duration.{Duration}
use Rattle.c_tree.specs.declared.declarations.Initial.{Initial}
use Rattle.c_tree.specs.declared.declarations.Initial.TheVariants as initial
use Rattle.c_tree.specs.declared.declarations.Init.{Init}
use Rattle.c_tree.specs.declared.declarations.Declaration.{Declaration}
use Rattle.c_parse_expr.specs.Ranks.{assign_rank}
use Rattle.c_parse_expr.specs.TypeWords.{Tokens, line_at}
use Rattle.c_parse_expr.specs.Steps.{Parser, and_then, ◌>>=◌, ◌>>◌, pure, refuse, eat, closing, word, mark_next}
use Rattle.c_parse_expr.specs.TypeReading.{spec, all_stars}
use Rattle.c_parse_expr.specs.Reading as e
use Rattle.c_parse_stmt.specs.Repeats.{more_commas}

-- ---- durations

abbrev pub unit_by_text : List ℕ → Parser TimeUnit
unit_by_text n = λ ts. if bytes_eq n (codes "ms") then Some (unit.Milliseconds, ts) else (if bytes_eq n (codes "s") then Some (unit.Seconds, ts) else
    (if bytes_eq n (codes "min") then Some (unit.Minutes, ts) else None))

unfoldable pub time_unit : Parser TimeUnit
time_unit = do
  n ← word
  unit_by_text n

unfoldable pub duration_rest : ℕ → Bool → Bool → Parser Duration
duration_rest n decimal suffixed = do
  x ← time_unit
  pure (record { value = n; decimal = decimal; unsigned = suffixed; unit = x })

abbrev pub duration_by : TokenKind → Parser Duration
duration_by (Number n decimal suffixed) = duration_rest n decimal suffixed
duration_by _ = refuse

unfoldable pub duration : Parser Duration
duration [] = None
duration (t ∷ ts) = duration_by t.kind ts

-- ---- initialisers

module _ (one : Parser Initial) where
  -- the items of a brace list and the brace behind it
  unfoldable pub items : ℕ → List Initial → Parser (List Initial × Bool)
  items zero found = refuse
  items (suc n) found = do
    i ← one
    is_more ← eat m.Comma
    if is_more then (λ ts. if mark_next m.RightBrace ts then Some ((found ++ i ∷ [], true), ts) else items n (found ++ i ∷ []) ts)
        else pure (found ++ i ∷ [], false)

  unfoldable pub brace_list : ℕ → Parser Initial
  brace_list line = do
    all ← (λ ts. items (length ts) [] ts)
    closing m.RightBrace
    pure (initial.List all.0 all.1 line)

unfoldable pub valued : (ℕ → Parser Expr) → Parser Initial
valued expr = do
  e ← expr assign_rank
  pure (initial.Assign e)

-- of this height at most
unfoldable pub initialiser : ℕ → Parser Initial
initialiser zero = refuse
initialiser (suc d) = λ ts. and_then (eat m.LeftBrace ts) (λ is_list. if is_list then brace_list (initialiser d) (line_at ts) else valued (e.expr (suc d)))

-- ---- declarators. What stands in them is of height d at most.

module _ (d : ℕ) where
  unfoldable pub initialised : Parser (Option Initial)
  initialised = do
    is_given ← eat m.Assign
    if is_given then (initialiser d >>= λ i. pure (Some i)) else pure None

  -- behind the name
  unfoldable pub init_rest : ℕ → List (List Qual) → List ℕ → Parser Init
  init_rest line stars n = do
    bounds ← e.all_bounds (e.expr d)
    i ← initialised
    pure (record { declr = record { stars = stars; name = n; bounds = bounds }; initial = i; line = line })

  unfoldable pub init_at : ℕ → Parser Init
  init_at line = do
    stars ← all_stars
    n ← word
    init_rest line stars n

  unfoldable pub init : Parser Init
  init = λ ts. init_at (line_at ts) ts

  -- behind the first declarator
  unfoldable pub after_first : Spec → Init → Parser Declaration
  after_first s first = do
    all ← more_commas init first
    closing m.Semicolon
    pure (record { spec = s; inits = all })

  -- behind the base type, the stars and the name of the first declarator, which began on this line
  unfoldable pub declaration_rest : Spec → ℕ → List (List Qual) → List ℕ → Parser Declaration
  declaration_rest s line stars n = init_rest line stars n >>= after_first s

  -- behind the base type
  unfoldable pub declared_at : Spec → ℕ → Parser Declaration
  declared_at s line = do
    stars ← all_stars
    n ← word
    declaration_rest s line stars n

-- of this height at most
unfoldable pub declaration : ℕ → Parser Declaration
declaration zero = refuse
declaration (suc d) = do
  s ← spec
  (λ ts. declared_at d s (line_at ts) ts)

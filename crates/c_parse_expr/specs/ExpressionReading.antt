-- What the parser answers for a list of tokens that is one expression of height 400 at most.
use Rattle.std.specs.Prelude.{[], ◌∷◌, Option, Some, None}
use Rattle.c_tree.specs.declared.expression.Expr.{Expr}
use Rattle.c_parse_expr.specs.Ranks.{comma_rank}
use Rattle.c_parse_expr.specs.TypeWords.{Tokens}
use Rattle.c_parse_expr.specs.Steps.{Outcome}
use Rattle.c_parse_expr.specs.Reading.{expr}

abbrev pub at_end : {A : Type 0} → Outcome A → Option A
at_end None = None
at_end (Some (x, [])) = Some x
at_end (Some (x, t ∷ ts)) = None

unfoldable pub whole : Tokens → Option Expr
whole ts = at_end (expr 400 comma_rank ts)

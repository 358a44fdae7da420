-- Arguments one after another.
use Rattle.std.specs.Prelude.{Option, Some, None, List, [], ◌∷◌, ◌++◌}
use Rattle.core_tree.specs.declared.expressions.Expr.{Expr}

-- the arguments so far and one more behind them; none where one of them is none
abbrev pub and_this : Option (List Expr) → Option Expr → Option (List Expr)
and_this (Some es) (Some e) = Some (es ++ e ∷ [])
and_this _ _ = None

-- the arguments so far and those that follow; none where one of them is none
abbrev pub and_all : Option (List Expr) → Option (List Expr) → Option (List Expr)
and_all (Some es) (Some more) = Some (es ++ more)
and_all _ _ = None

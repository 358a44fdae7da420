-- What the numbers are: those from one on, a node before its parts, in the order of the text.
use Rattle.std.specs.Prelude.{◌≡◌, ℕ, ◌+◌, List, length, map}
use Rattle.core_tree.specs.declared.expressions.Expr.{Expr}
use Rattle.core_tree.specs.declared.statements.Stmt.{Stmt}
use Rattle.core_tree.specs.declared.program.Core.{Core}
use Rattle.core_tree.specs.LawfulCore.{CountsFrom}
use Rattle.core_tree.specs.Numbers.{expr_numbers, stmt_numbers, core_numbers}
use Rattle.core_tree.specs.Reaching.{joined}
use Rattle.c_checking.specs.Numbering.{each, expr_numbered, stmt_numbered, numbered}

-- these are the numbers from one on, and this is the next
pub record Counts (n next : ℕ) (numbers : List ℕ) : Type 0 where
  pub counted : CountsFrom n numbers
  pub length : next ≡ n + length numbers

-- an expression whose nodes are numbered from a number on
abbrev pub ExpressionCounts : Expr → ℕ → Type 0
ExpressionCounts e n = Counts n (expr_numbered e n).1 (expr_numbers (expr_numbered e n).0)

-- statements one after another whose nodes are numbered from a number on
abbrev pub StatementsCount : List Stmt → ℕ → Type 0
StatementsCount all n =
    Counts n (each (map stmt_numbered all) n).1 (joined (map stmt_numbers (each (map stmt_numbered all) n).0))

-- a program
abbrev pub ProgramCounts : Core → Type 0
ProgramCounts core = CountsFrom 0 (core_numbers (numbered core))

-- What numbering keeps: what is lawful in a program is lawful in the program with its nodes numbered.
use Rattle.std.specs.Prelude.{◌≡◌, ℕ, false, List, map}
use Rattle.core_tree.specs.declared.types.Ty.{Ty}
use Rattle.core_tree.specs.declared.expressions.Expr.{Expr}
use Rattle.core_tree.specs.declared.statements.Stmt.{Stmt}
use Rattle.core_tree.specs.Lawful.{Scope, IsExpr}
use Rattle.core_tree.specs.LawfulCore.{Text, AreStmts}
use Rattle.c_checking.specs.Numbering.{each, expr_numbered, stmt_numbered, numbered}

-- what the same expressions and statements see when the nodes of the program are numbered
abbrev pub numbered_scope : Scope → Scope
numbered_scope s = record s { core = numbered s.core }

abbrev pub numbered_text : Text → Text
numbered_text x = record x { scope = numbered_scope x.scope }

-- an expression whose nodes are numbered from a number on
abbrev pub ExpressionStays : Scope → Expr → Ty → ℕ → Type 0
ExpressionStays s e t n = s.annotated ≡ false → IsExpr s e t → IsExpr (numbered_scope s) (expr_numbered e n).0 t

-- statements one after another whose nodes are numbered from a number on
abbrev pub StatementsStay : Text → List Stmt → ℕ → Type 0
StatementsStay x all n =
    x.scope.annotated ≡ false → AreStmts x all → AreStmts (numbered_text x) (each (map stmt_numbered all) n).0

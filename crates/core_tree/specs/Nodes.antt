-- The nodes of a program: one for each function, parameter, statement, label of a `switch` and expression, where places
-- and conversions count as expressions. Bounds on what is made of a program are stated by their number.
use Rattle.std.specs.Prelude.{ℕ, ◌+◌, List, [], ◌∷◌, map, length}
use Rattle.core_tree.specs.declared.expressions.Expr.{Expr}
use Rattle.core_tree.specs.declared.expressions.Place.{Place}
use Rattle.core_tree.specs.declared.expressions.ExprKind.{ExprKind, fold-ExprKind}
use Rattle.core_tree.specs.declared.expressions.PlaceKind.{PlaceKind, fold-PlaceKind}
use Rattle.core_tree.specs.declared.expressions.ExprKind.TheOpen.{ExprKind-F, PlaceKind-F}
use Rattle.core_tree.specs.declared.statements.Stmt.{Stmt}
use Rattle.core_tree.specs.declared.statements.StmtKind.{StmtKind, fold-StmtKind}
use Rattle.core_tree.specs.declared.statements.Group.{Group, fold-Group}
use Rattle.core_tree.specs.declared.statements.StmtKind.TheOpen.{StmtKind-F}
use Rattle.core_tree.specs.declared.statements.Init.{Init}
use Rattle.core_tree.specs.declared.program.Function.{Function}
use Rattle.core_tree.specs.declared.program.Core.{Core}
use Rattle.core_tree.specs.Heights.{optional}

abbrev pub total : List ℕ → ℕ
total [] = 0
total (n ∷ ns) = n + total ns

-- ---- expressions and places

-- the parts of an expression in the order of the text, each by its number
abbrev pub expr_parts : {K P : Type 0} → ExprKind-F K P ℕ ℕ → List ℕ
expr_parts (ExprKind-F.Constant _) = []
expr_parts (ExprKind-F.Read place) = place ∷ []
expr_parts (ExprKind-F.Convert of) = of ∷ []
expr_parts (ExprKind-F.Unary _ of) = of ∷ []
expr_parts (ExprKind-F.Binary _ _ left right) = left ∷ right ∷ []
expr_parts (ExprKind-F.PointerPlus _ left right) = left ∷ right ∷ []
expr_parts (ExprKind-F.Difference left right) = left ∷ right ∷ []
expr_parts (ExprKind-F.ComparePointers _ left right) = left ∷ right ∷ []
expr_parts (ExprKind-F.And left right) = left ∷ right ∷ []
expr_parts (ExprKind-F.Or left right) = left ∷ right ∷ []
expr_parts (ExprKind-F.Conditional test one other) = test ∷ one ∷ other ∷ []
expr_parts (ExprKind-F.Assign place value _) = place ∷ value ∷ []
expr_parts (ExprKind-F.Update _ _ place value _ _) = place ∷ value ∷ []
expr_parts (ExprKind-F.Address place) = place ∷ []
expr_parts (ExprKind-F.Call _ args) = args
expr_parts (ExprKind-F.Sense _) = []
expr_parts (ExprKind-F.Emit of) = of ∷ []
expr_parts ExprKind-F.Checkpoint = []
expr_parts (ExprKind-F.Comma left right) = left ∷ right ∷ []

abbrev pub place_parts : {K P : Type 0} → PlaceKind-F K P ℕ ℕ → List ℕ
place_parts (PlaceKind-F.Local _) = []
place_parts (PlaceKind-F.Global _) = []
place_parts (PlaceKind-F.Deref of) = of ∷ []
place_parts (PlaceKind-F.Member of _ _) = of ∷ []
place_parts (PlaceKind-F.Element of index) = of ∷ index ∷ []
place_parts (PlaceKind-F.At left right) = left ∷ right ∷ []

abbrev pub expr_kind_nodes : ExprKind → ℕ
expr_kind_nodes =
    fold-ExprKind ℕ ℕ ℕ ℕ (λ e. 1 + total (expr_parts e)) (λ p. 1 + total (place_parts p)) (λ e. e.kind) (λ p. p.kind)

abbrev pub place_kind_nodes : PlaceKind → ℕ
place_kind_nodes =
    fold-PlaceKind ℕ ℕ ℕ ℕ (λ e. 1 + total (expr_parts e)) (λ p. 1 + total (place_parts p)) (λ e. e.kind) (λ p. p.kind)

abbrev pub expr_nodes : Expr → ℕ
expr_nodes e = expr_kind_nodes e.kind

abbrev pub place_nodes : Place → ℕ
place_nodes p = place_kind_nodes p.kind

abbrev pub init_nodes : Init → ℕ
init_nodes i = optional expr_nodes i.value

-- ---- statements

abbrev pub stmt_parts : StmtKind-F ℕ ℕ ℕ → List ℕ
stmt_parts (StmtKind-F.Expr e) = expr_nodes e ∷ []
stmt_parts (StmtKind-F.Block all) = all
stmt_parts (StmtKind-F.If test then other) = expr_nodes test ∷ then ∷ optional (λ n. n) other ∷ []
stmt_parts (StmtKind-F.While test body) = expr_nodes test ∷ body ∷ []
stmt_parts (StmtKind-F.Do body test) = body ∷ expr_nodes test ∷ []
stmt_parts (StmtKind-F.For first test step body) =
    optional (λ n. n) first ∷ optional expr_nodes test ∷ optional expr_nodes step ∷ body ∷ []
stmt_parts (StmtKind-F.Switch on groups) = expr_nodes on ∷ groups
stmt_parts StmtKind-F.Break = []
stmt_parts StmtKind-F.Continue = []
stmt_parts (StmtKind-F.Return e) = optional expr_nodes e ∷ []
stmt_parts (StmtKind-F.Stamped place value) = place_nodes place ∷ expr_nodes value ∷ []
stmt_parts (StmtKind-F.Timely place _ then other) = place_nodes place ∷ then ∷ optional (λ n. n) other ∷ []
stmt_parts (StmtKind-F.Expires names body caught) = total (map place_nodes names) ∷ total body ∷ total caught ∷ []
stmt_parts (StmtKind-F.Declare _ init) = map init_nodes init

abbrev pub stmt_kind_nodes : StmtKind → ℕ
stmt_kind_nodes = fold-StmtKind ℕ ℕ ℕ (λ s. 1 + total (stmt_parts s)) (λ g. length g.labels + total g.body) (λ s. s.kind)

abbrev pub group_nodes : Group → ℕ
group_nodes = fold-Group ℕ ℕ ℕ (λ s. 1 + total (stmt_parts s)) (λ g. length g.labels + total g.body) (λ s. s.kind)

abbrev pub stmt_nodes : Stmt → ℕ
stmt_nodes s = stmt_kind_nodes s.kind

-- ---- the whole

abbrev pub function_nodes : Function → ℕ
function_nodes f = 1 + length f.params + total (map stmt_nodes f.body)

unfoldable pub nodes : Core → ℕ
nodes core = total (map function_nodes core.functions)

-- The nodes of a program with their lines, in the order of the text, and the line of a node.
use Rattle.std.specs.Prelude.{ℕ, nat_eq, if◌then◌else◌, List, [], ◌∷◌, ◌++◌, map, Option, Some, None}
use Rattle.core_tree.specs.declared.expressions.Expr.{Expr}
use Rattle.core_tree.specs.declared.expressions.Place.{Place}
use Rattle.core_tree.specs.declared.expressions.ExprKind.{ExprKind, fold-ExprKind}
use Rattle.core_tree.specs.declared.expressions.PlaceKind.{fold-PlaceKind}
use Rattle.core_tree.specs.declared.expressions.ExprKind.TheOpen.{ExprKind-F, PlaceKind-F}
use Rattle.core_tree.specs.declared.statements.Stmt.{Stmt}
use Rattle.core_tree.specs.declared.statements.Group.{Group, fold-Group}
use Rattle.core_tree.specs.declared.statements.StmtKind.{StmtKind, fold-StmtKind}
use Rattle.core_tree.specs.declared.statements.StmtKind.TheOpen.{StmtKind-F}
use Rattle.core_tree.specs.declared.statements.Init.{Init}
use Rattle.core_tree.specs.declared.program.Function.{Function}
use Rattle.core_tree.specs.declared.program.Core.{Core}
use Rattle.report_state.specs.declared.node_lines.Node.{Node}

abbrev pub Nodes : Type 0
Nodes = List Node

abbrev pub joined : List Nodes → Nodes
joined [] = []
joined (xs ∷ more) = xs ++ joined more

-- a part that may be left out
abbrev pub optional : {A : Type 0} → (A → Nodes) → Option A → Nodes
optional nodes None = []
optional nodes (Some a) = nodes a

-- ---- the nodes below an expression, a place and a statement

abbrev pub expr_parts : {K P : Type 0} → ExprKind-F K P Nodes Nodes → Nodes
expr_parts (ExprKind-F.Constant _) = []
expr_parts (ExprKind-F.Read place) = place
expr_parts (ExprKind-F.Convert of) = of
expr_parts (ExprKind-F.Unary _ of) = of
expr_parts (ExprKind-F.Binary _ _ left right) = left ++ right
expr_parts (ExprKind-F.PointerPlus _ left right) = left ++ right
expr_parts (ExprKind-F.Difference left right) = left ++ right
expr_parts (ExprKind-F.ComparePointers _ left right) = left ++ right
expr_parts (ExprKind-F.And left right) = left ++ right
expr_parts (ExprKind-F.Or left right) = left ++ right
expr_parts (ExprKind-F.Conditional test one other) = test ++ one ++ other
expr_parts (ExprKind-F.Assign place value _) = place ++ value
expr_parts (ExprKind-F.Update _ _ place value _ _) = place ++ value
expr_parts (ExprKind-F.Address place) = place
expr_parts (ExprKind-F.Call _ args) = joined args
expr_parts (ExprKind-F.Sense _) = []
expr_parts (ExprKind-F.Emit of) = of
expr_parts ExprKind-F.Checkpoint = []
expr_parts (ExprKind-F.Comma left right) = left ++ right

abbrev pub place_parts : {K P : Type 0} → PlaceKind-F K P Nodes Nodes → Nodes
place_parts (PlaceKind-F.Local _) = []
place_parts (PlaceKind-F.Global _) = []
place_parts (PlaceKind-F.Deref of) = of
place_parts (PlaceKind-F.Member of _ _) = of
place_parts (PlaceKind-F.Element of index) = of ++ index
place_parts (PlaceKind-F.At left right) = left ++ right

abbrev pub below_expr : ExprKind → Nodes
below_expr = fold-ExprKind Nodes Nodes Nodes Nodes expr_parts place_parts
    (λ x. record { node = x.node; line = x.line } ∷ x.kind) (λ p. record { node = p.node; line = p.line } ∷ p.kind)

abbrev pub below_place : Place → Nodes
below_place p = fold-PlaceKind Nodes Nodes Nodes Nodes expr_parts place_parts
    (λ x. record { node = x.node; line = x.line } ∷ x.kind) (λ y. record { node = y.node; line = y.line } ∷ y.kind) p.kind

abbrev pub expr_nodes : Expr → Nodes
expr_nodes e = record { node = e.node; line = e.line } ∷ below_expr e.kind

abbrev pub place_nodes : Place → Nodes
place_nodes p = record { node = p.node; line = p.line } ∷ below_place p

abbrev pub init_nodes : Init → Nodes
init_nodes i = optional expr_nodes i.value

abbrev pub stmt_parts : {K : Type 0} → StmtKind-F K Nodes Nodes → Nodes
stmt_parts (StmtKind-F.Expr e) = expr_nodes e
stmt_parts (StmtKind-F.Block all) = joined all
stmt_parts (StmtKind-F.If test one other) = expr_nodes test ++ one ++ optional (λ s. s) other
stmt_parts (StmtKind-F.While test body) = expr_nodes test ++ body
stmt_parts (StmtKind-F.Do body test) = body ++ expr_nodes test
stmt_parts (StmtKind-F.For first test step body) =
    optional (λ s. s) first ++ optional expr_nodes test ++ optional expr_nodes step ++ body
stmt_parts (StmtKind-F.Switch on groups) = expr_nodes on ++ joined groups
stmt_parts StmtKind-F.Break = []
stmt_parts StmtKind-F.Continue = []
stmt_parts (StmtKind-F.Return e) = optional expr_nodes e
stmt_parts (StmtKind-F.Stamped place value) = place_nodes place ++ expr_nodes value
stmt_parts (StmtKind-F.Timely place _ one other) = place_nodes place ++ one ++ optional (λ s. s) other
stmt_parts (StmtKind-F.Expires names body caught) = joined (map place_nodes names) ++ joined body ++ joined caught
stmt_parts (StmtKind-F.Declare _ init) = joined (map init_nodes init)

abbrev pub below_kind : StmtKind → Nodes
below_kind =
    fold-StmtKind Nodes Nodes Nodes stmt_parts (λ g. joined g.body) (λ x. record { node = x.node; line = x.line } ∷ x.kind)

abbrev pub group_nodes : Group → Nodes
group_nodes =
    fold-Group Nodes Nodes Nodes stmt_parts (λ g. joined g.body) (λ x. record { node = x.node; line = x.line } ∷ x.kind)

abbrev pub stmt_nodes : Stmt → Nodes
stmt_nodes s = record { node = s.node; line = s.line } ∷ below_kind s.kind

-- ---- the whole

abbrev pub function_nodes : Function → Nodes
function_nodes f = record { node = f.node; line = f.line } ∷ joined (map stmt_nodes f.body)

abbrev pub core_nodes : Core → Nodes
core_nodes core = joined (map function_nodes core.functions)

-- the line of the node of a number among some
abbrev pub line_in : ℕ → Nodes → Option ℕ
line_in n [] = None
line_in n (x ∷ xs) = if nat_eq x.node n then Some x.line else line_in n xs

abbrev pub line_or_none : Option ℕ → ℕ
line_or_none None = 0
line_or_none (Some line) = line

-- the line of the node of a number, 0 where there is none
unfoldable pub line_of : Core → ℕ → ℕ
line_of core n = line_or_none (line_in n (core_nodes core))

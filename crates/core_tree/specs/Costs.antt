-- What the nodes of a program cost, in bytes of code. The code that is made of a node is never longer than its row.
use Rattle.std.specs.Prelude.{ℕ, ◌+◌, ◌*◌, min, nat_eq, Bool, true, false, if◌then◌else◌, List, [], ◌∷◌, map, length, Option, Some, None}
use Rattle.base16.specs.declared.integer.IntType.{IntType}
use Rattle.base16.specs.declared.operator.BinaryOp.{BinaryOp}
use Rattle.base16.specs.declared.operator.BinaryOp.TheVariants as op
use Rattle.base16.specs.declared.operator.UnaryOp.{UnaryOp}
use Rattle.base16.specs.declared.operator.UnaryOp.TheVariants as un
use Rattle.core_tree.specs.declared.expressions.Expr.{Expr}
use Rattle.core_tree.specs.declared.expressions.Place.{Place}
use Rattle.core_tree.specs.declared.expressions.ExprKind.{ExprKind, fold-ExprKind}
use Rattle.core_tree.specs.declared.expressions.PlaceKind.{PlaceKind, fold-PlaceKind}
use Rattle.core_tree.specs.declared.expressions.ExprKind.TheOpen.{ExprKind-F, PlaceKind-F}
use Rattle.core_tree.specs.declared.statements.Stmt.{Stmt}
use Rattle.core_tree.specs.declared.statements.StmtKind.{StmtKind, fold-StmtKind}
use Rattle.core_tree.specs.declared.statements.Group.{Group, fold-Group}
use Rattle.core_tree.specs.declared.statements.StmtKind.TheOpen.{StmtKind-F}
use Rattle.core_tree.specs.declared.statements.Init.{Init}
use Rattle.core_tree.specs.declared.program.Function.{Function}
use Rattle.core_tree.specs.declared.program.Core.{Core}
use Rattle.core_tree.specs.Heights.{optional}
use Rattle.core_tree.specs.Nodes.{total, expr_parts, place_parts}

-- ---- the rows

abbrev pub constant_row : ℕ
constant_row = 12

abbrev pub unary_row : UnaryOp → ℕ
unary_row un.Plus = 0
unary_row un.Minus = 16
unary_row un.Complement = 16
unary_row un.Not = 24

abbrev pub binary_row : BinaryOp → ℕ
binary_row op.Add = 20
binary_row op.Sub = 20
binary_row op.And = 20
binary_row op.Xor = 20
binary_row op.Or = 20
binary_row op.Less = 32
binary_row op.Greater = 32
binary_row op.LessEq = 32
binary_row op.GreaterEq = 32
binary_row op.Equal = 32
binary_row op.NotEqual = 32
binary_row op.Mul = 24
binary_row op.Div = 24
binary_row op.Rem = 24
binary_row op.Shl = 24
binary_row op.Shr = 24

-- the sum of a pointer and an integer, a difference of pointers, an index
abbrev pub pointer_row : ℕ
pointer_row = 28

-- the operator of an update; of a pointer where it has no type
abbrev pub operator_row : BinaryOp → Option IntType → ℕ
operator_row o None = pointer_row
operator_row o (Some at) = binary_row o

-- a store that is a mark, or none
abbrev pub store_row : Bool → ℕ
store_row true = 28
store_row false = 16

-- an update with its store and its operator
abbrev pub update_row : BinaryOp → Option IntType → Bool → ℕ
update_row o at marked = 24 + store_row marked + operator_row o at

abbrev pub expr_row : {K P E Q : Type 0} → ExprKind-F K P E Q → ℕ
expr_row (ExprKind-F.Constant _) = constant_row
expr_row (ExprKind-F.Read _) = 12
expr_row (ExprKind-F.Convert _) = 12
expr_row (ExprKind-F.Unary o _) = unary_row o
expr_row (ExprKind-F.Binary o _ _ _) = binary_row o
expr_row (ExprKind-F.PointerPlus _ _ _) = pointer_row
expr_row (ExprKind-F.Difference _ _) = pointer_row
expr_row (ExprKind-F.ComparePointers _ _ _) = 32
expr_row (ExprKind-F.And _ _) = 40
expr_row (ExprKind-F.Or _ _) = 40
expr_row (ExprKind-F.Conditional _ _ _) = 40
expr_row (ExprKind-F.Assign _ _ marked) = store_row marked
expr_row (ExprKind-F.Update o at _ _ _ marked) = update_row o at marked
expr_row (ExprKind-F.Address _) = 12
expr_row (ExprKind-F.Call _ args) = 24 + 12 * length args
expr_row (ExprKind-F.Sense _) = 20
expr_row (ExprKind-F.Emit _) = 16
expr_row ExprKind-F.Checkpoint = 8
expr_row (ExprKind-F.Comma _ _) = 0

abbrev pub place_row : {K P E Q : Type 0} → PlaceKind-F K P E Q → ℕ
place_row (PlaceKind-F.Local _) = 12
place_row (PlaceKind-F.Global _) = 12
place_row (PlaceKind-F.Deref _) = 16
place_row (PlaceKind-F.Member _ _ _) = 16
place_row (PlaceKind-F.Element _ _) = pointer_row
place_row (PlaceKind-F.At _ _) = pointer_row

-- an initialiser stores to each scalar that it sets, a constant besides where its list leaves one out
abbrev pub left_out_row : Option Expr → ℕ
left_out_row None = constant_row
left_out_row (Some e) = 0

abbrev pub init_row : Init → ℕ
init_row i = store_row i.marked + left_out_row i.value

-- a loop, which costs more where it stands in the text of an `@expires` block
abbrev pub loop_row : Bool → ℕ
loop_row inside = if inside then 56 + 16 else 56

-- the groups of a `switch`: how many labels they have, and what their statements cost, in such a text or not
pub record Grouped : Type 0 where
  pub labels : ℕ
  pub rows : Bool → ℕ

abbrev pub stmt_row : {K S : Type 0} → Bool → StmtKind-F K Grouped S → ℕ
stmt_row inside (StmtKind-F.Expr _) = 0
stmt_row inside (StmtKind-F.Block _) = 0
stmt_row inside (StmtKind-F.If _ _ _) = 24
stmt_row inside (StmtKind-F.While _ _) = loop_row inside
stmt_row inside (StmtKind-F.Do _ _) = loop_row inside
stmt_row inside (StmtKind-F.For _ _ _ _) = loop_row inside
stmt_row inside (StmtKind-F.Switch _ groups) = 24 + 20 * total (map (λ g. g.labels) groups)
stmt_row inside StmtKind-F.Break = 20
stmt_row inside StmtKind-F.Continue = 20
stmt_row inside (StmtKind-F.Return _) = 20
stmt_row inside (StmtKind-F.Stamped _ _) = 32
stmt_row inside (StmtKind-F.Timely _ _ _ _) = 48
stmt_row inside (StmtKind-F.Expires names _ _) = 72 + 6 * length names
stmt_row inside (StmtKind-F.Declare _ init) = total (map init_row init)

abbrev pub function_row : Function → ℕ
function_row f = 48 + 12 * length f.params

-- ---- the rows of all nodes, each with a weight of its node's number: with 1 for each node that is the cost of the
-- whole, with 1 for one node and 0 for the others it is the row of that node

module _ (w : ℕ → ℕ) where
  abbrev pub expr_kind_rows : ExprKind → ℕ → ℕ
  expr_kind_rows = fold-ExprKind (ℕ → ℕ) (ℕ → ℕ) ℕ ℕ
      (λ e node. w node * expr_row e + total (expr_parts e)) (λ p node. w node * place_row p + total (place_parts p))
      (λ e. e.kind e.node) (λ p. p.kind p.node)

  abbrev pub place_kind_rows : PlaceKind → ℕ → ℕ
  place_kind_rows = fold-PlaceKind (ℕ → ℕ) (ℕ → ℕ) ℕ ℕ
      (λ e node. w node * expr_row e + total (expr_parts e)) (λ p node. w node * place_row p + total (place_parts p))
      (λ e. e.kind e.node) (λ p. p.kind p.node)

  abbrev pub expr_rows : Expr → ℕ
  expr_rows e = expr_kind_rows e.kind e.node

  abbrev pub place_rows : Place → ℕ
  place_rows p = place_kind_rows p.kind p.node

  abbrev pub init_rows : Init → ℕ
  init_rows i = optional expr_rows i.value

  -- the parts of a statement; the last argument says whether it stands in the text of an `@expires` block
  abbrev pub stmt_row_parts : {K : Type 0} → StmtKind-F K Grouped (Bool → ℕ) → Bool → List ℕ
  stmt_row_parts (StmtKind-F.Expr e) inside = expr_rows e ∷ []
  stmt_row_parts (StmtKind-F.Block all) inside = map (λ s. s inside) all
  stmt_row_parts (StmtKind-F.If test one other) inside = expr_rows test ∷ one inside ∷ optional (λ s. s inside) other ∷ []
  stmt_row_parts (StmtKind-F.While test body) inside = expr_rows test ∷ body inside ∷ []
  stmt_row_parts (StmtKind-F.Do body test) inside = body inside ∷ expr_rows test ∷ []
  stmt_row_parts (StmtKind-F.For first test step body) inside =
      optional (λ s. s inside) first ∷ optional expr_rows test ∷ optional expr_rows step ∷ body inside ∷ []
  stmt_row_parts (StmtKind-F.Switch on groups) inside = expr_rows on ∷ map (λ g. g.rows inside) groups
  stmt_row_parts StmtKind-F.Break inside = []
  stmt_row_parts StmtKind-F.Continue inside = []
  stmt_row_parts (StmtKind-F.Return e) inside = optional expr_rows e ∷ []
  stmt_row_parts (StmtKind-F.Stamped place value) inside = place_rows place ∷ expr_rows value ∷ []
  stmt_row_parts (StmtKind-F.Timely place _ one other) inside =
      place_rows place ∷ one inside ∷ optional (λ s. s inside) other ∷ []
  stmt_row_parts (StmtKind-F.Expires names body caught) inside =
      total (map place_rows names) ∷ total (map (λ s. s true) body) ∷ total (map (λ s. s inside) caught) ∷ []
  stmt_row_parts (StmtKind-F.Declare _ init) inside = map init_rows init

  abbrev pub stmt_kind_rows : StmtKind → Bool → ℕ → ℕ
  stmt_kind_rows = fold-StmtKind (Bool → ℕ → ℕ) Grouped (Bool → ℕ)
      (λ s inside node. w node * stmt_row inside s + total (stmt_row_parts s inside))
      (λ g. record { labels = length g.labels; rows = λ inside. total (map (λ s. s inside) g.body) })
      (λ s inside. s.kind inside s.node)

  abbrev pub grouped : Group → Grouped
  grouped = fold-Group (Bool → ℕ → ℕ) Grouped (Bool → ℕ)
      (λ s inside node. w node * stmt_row inside s + total (stmt_row_parts s inside))
      (λ g. record { labels = length g.labels; rows = λ inside. total (map (λ s. s inside) g.body) })
      (λ s inside. s.kind inside s.node)

  abbrev pub stmt_rows : Stmt → Bool → ℕ
  stmt_rows s inside = stmt_kind_rows s.kind inside s.node

  abbrev pub function_rows : Function → ℕ
  function_rows f = w f.node * function_row f + total (map (λ s. stmt_rows s false) f.body)

  abbrev pub core_rows : Core → ℕ
  core_rows core = total (map function_rows core.functions)

abbrev pub each : ℕ → ℕ
each node = 1

abbrev pub only : ℕ → ℕ → ℕ
only one node = if nat_eq node one then 1 else 0

-- the bytes of code of a program at most
unfoldable pub code_cost : Core → ℕ
code_cost core = core_rows each core

-- the bytes of code of one node at most
unfoldable pub node_cost : Core → ℕ → ℕ
node_cost core node = core_rows (only node) core

-- ---- what the call answers: 2^64 - 1 stands for every greater number

abbrev pub most_cost : ℕ
most_cost = 18446744073709551615

abbrev pub capped_cost : ℕ → ℕ
capped_cost n = min n most_cost

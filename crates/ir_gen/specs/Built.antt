-- Which trees a form is made of: those without annotated statements in which each store without a mark goes to a part of
-- a local, as it does in every lawful tree.
use Rattle.std.specs.Prelude.{Bool, true, false, ◌&&◌, ◌||◌, List, [], ◌∷◌, map, Option, Some, None}
use Rattle.core_tree.specs.declared.expressions.Expr.{Expr}
use Rattle.core_tree.specs.declared.expressions.ExprKind.{ExprKind, fold-ExprKind}
use Rattle.core_tree.specs.declared.expressions.PlaceKind.{PlaceKind, fold-PlaceKind}
use Rattle.core_tree.specs.declared.expressions.ExprKind.TheOpen.{ExprKind-F, PlaceKind-F}
use Rattle.core_tree.specs.declared.statements.Stmt.{Stmt}
use Rattle.core_tree.specs.declared.statements.StmtKind.{StmtKind, fold-StmtKind}
use Rattle.core_tree.specs.declared.statements.Group.{Group, fold-Group}
use Rattle.core_tree.specs.declared.statements.StmtKind.TheOpen.{StmtKind-F}
use Rattle.core_tree.specs.declared.statements.Init.{Init}

abbrev pub all_true : List Bool → Bool
all_true [] = true
all_true (b ∷ bs) = b && all_true bs

-- whether a place is built, and whether it is a part of a local
pub record BuiltPlace : Type 0 where
  pub built : Bool
  pub local : Bool

abbrev pub expr_layer : ExprKind-F Bool BuiltPlace Bool BuiltPlace → Bool
expr_layer (ExprKind-F.Constant v) = true
expr_layer (ExprKind-F.Read place) = place.built
expr_layer (ExprKind-F.Convert of) = of
expr_layer (ExprKind-F.Unary o of) = of
expr_layer (ExprKind-F.Binary o t left right) = left && right
expr_layer (ExprKind-F.PointerPlus minus left right) = left && right
expr_layer (ExprKind-F.Difference left right) = left && right
expr_layer (ExprKind-F.ComparePointers o left right) = left && right
expr_layer (ExprKind-F.And left right) = left && right
expr_layer (ExprKind-F.Or left right) = left && right
expr_layer (ExprKind-F.Conditional test one other) = test && (one && other)
expr_layer (ExprKind-F.Assign place value marked) = place.built && (value && (marked || place.local))
expr_layer (ExprKind-F.Update o t place value old marked) = place.built && (value && (marked || place.local))
expr_layer (ExprKind-F.Address place) = place.built
expr_layer (ExprKind-F.Call function args) = all_true args
expr_layer (ExprKind-F.Sense channel) = true
expr_layer (ExprKind-F.Emit of) = of
expr_layer ExprKind-F.Checkpoint = true
expr_layer (ExprKind-F.Comma left right) = left && right

abbrev pub place_layer : PlaceKind-F Bool BuiltPlace Bool BuiltPlace → BuiltPlace
place_layer (PlaceKind-F.Local n) = record { built = true; local = true }
place_layer (PlaceKind-F.Global n) = record { built = true; local = false }
place_layer (PlaceKind-F.Deref of) = record { built = of; local = false }
place_layer (PlaceKind-F.Member of tag member) = of
place_layer (PlaceKind-F.Element of index) = record { built = of.built && index; local = false }
place_layer (PlaceKind-F.At left right) = record { built = left && right; local = false }

abbrev pub expr_kind : ExprKind → Bool
expr_kind = fold-ExprKind Bool BuiltPlace Bool BuiltPlace expr_layer place_layer (λ e. e.kind) (λ p. p.kind)

abbrev pub place_kind : PlaceKind → BuiltPlace
place_kind = fold-PlaceKind Bool BuiltPlace Bool BuiltPlace expr_layer place_layer (λ e. e.kind) (λ p. p.kind)

abbrev pub expr : Expr → Bool
expr e = expr_kind e.kind

-- ---- statements

abbrev pub if_some : {A : Type 0} → (A → Bool) → Option A → Bool
if_some f None = true
if_some f (Some x) = f x

-- the values of initialisers
abbrev pub inits : List Init → Bool
inits [] = true
inits (i ∷ is) = if_some expr i.value && inits is

abbrev pub stmt_layer : StmtKind-F Bool Bool Bool → Bool
stmt_layer (StmtKind-F.Expr e) = expr e
stmt_layer (StmtKind-F.Block all) = all_true all
stmt_layer (StmtKind-F.If test one other) = expr test && (one && if_some (λ b. b) other)
stmt_layer (StmtKind-F.While test body) = expr test && body
stmt_layer (StmtKind-F.Do body test) = expr test && body
stmt_layer (StmtKind-F.For begin test part body) = if_some (λ b. b) begin && (if_some expr test && (if_some expr part && body))
stmt_layer (StmtKind-F.Switch on groups) = expr on && all_true groups
stmt_layer StmtKind-F.Break = true
stmt_layer StmtKind-F.Continue = true
stmt_layer (StmtKind-F.Return e) = if_some expr e
stmt_layer (StmtKind-F.Stamped place value) = false
stmt_layer (StmtKind-F.Timely place limit one other) = false
stmt_layer (StmtKind-F.Expires names body caught) = false
stmt_layer (StmtKind-F.Declare n init) = inits init

abbrev pub stmt_kind : StmtKind → Bool
stmt_kind = fold-StmtKind Bool Bool Bool stmt_layer (λ g. all_true g.body) (λ s. s.kind)

abbrev pub group : Group → Bool
group = fold-Group Bool Bool Bool stmt_layer (λ g. all_true g.body) (λ s. s.kind)

abbrev pub stmt : Stmt → Bool
stmt s = stmt_kind s.kind

abbrev pub stmts : List Stmt → Bool
stmts ss = all_true (map stmt ss)

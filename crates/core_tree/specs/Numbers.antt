-- The numbers of the nodes of a program in the order of the text, a node before its parts.
use Rattle.std.specs.Prelude.{ℕ, List, [], ◌∷◌, ◌++◌, map}
use Rattle.core_tree.specs.declared.expressions.Expr.{Expr}
use Rattle.core_tree.specs.declared.expressions.Place.{Place}
use Rattle.core_tree.specs.declared.expressions.ExprKind.{fold-ExprKind}
use Rattle.core_tree.specs.declared.expressions.PlaceKind.{fold-PlaceKind}
use Rattle.core_tree.specs.declared.expressions.ExprKind.TheOpen.{ExprKind-F, PlaceKind-F}
use Rattle.core_tree.specs.declared.statements.Stmt.{Stmt}
use Rattle.core_tree.specs.declared.statements.StmtKind.{fold-StmtKind}
use Rattle.core_tree.specs.declared.statements.StmtKind.TheOpen.{StmtKind-F}
use Rattle.core_tree.specs.declared.statements.Init.{Init}
use Rattle.core_tree.specs.declared.program.Function.{Function}
use Rattle.core_tree.specs.declared.program.Core.{Core}
use Rattle.core_tree.specs.Reaching.{joined, some_of}

abbrev pub Numbers : Type 0
Numbers = List ℕ

abbrev pub expr_step : {K P : Type 0} → ExprKind-F K P Numbers Numbers → Numbers
expr_step (ExprKind-F.Constant _) = []
expr_step (ExprKind-F.Read place) = place
expr_step (ExprKind-F.Convert of) = of
expr_step (ExprKind-F.Unary _ of) = of
expr_step (ExprKind-F.Binary _ _ left right) = left ++ right
expr_step (ExprKind-F.PointerPlus _ left right) = left ++ right
expr_step (ExprKind-F.Difference left right) = left ++ right
expr_step (ExprKind-F.ComparePointers _ left right) = left ++ right
expr_step (ExprKind-F.And left right) = left ++ right
expr_step (ExprKind-F.Or left right) = left ++ right
expr_step (ExprKind-F.Conditional test one other) = test ++ one ++ other
expr_step (ExprKind-F.Assign place value _) = place ++ value
expr_step (ExprKind-F.Update _ _ place value _ _) = place ++ value
expr_step (ExprKind-F.Address place) = place
expr_step (ExprKind-F.Call _ args) = joined args
expr_step (ExprKind-F.Sense _) = []
expr_step (ExprKind-F.Emit of) = of
expr_step ExprKind-F.Checkpoint = []
expr_step (ExprKind-F.Comma left right) = left ++ right

abbrev pub place_step : {K P : Type 0} → PlaceKind-F K P Numbers Numbers → Numbers
place_step (PlaceKind-F.Local _) = []
place_step (PlaceKind-F.Global _) = []
place_step (PlaceKind-F.Deref of) = of
place_step (PlaceKind-F.Member of _ _) = of
place_step (PlaceKind-F.Element of index) = of ++ index
place_step (PlaceKind-F.At left right) = left ++ right

abbrev pub expr_numbers : Expr → Numbers
expr_numbers e = fold-ExprKind (ℕ → Numbers) (ℕ → Numbers) Numbers Numbers
    (λ x node. node ∷ expr_step x) (λ p node. node ∷ place_step p) (λ x. x.kind x.node) (λ p. p.kind p.node) e.kind e.node

abbrev pub place_numbers : Place → Numbers
place_numbers p = fold-PlaceKind (ℕ → Numbers) (ℕ → Numbers) Numbers Numbers
    (λ x node. node ∷ expr_step x) (λ y node. node ∷ place_step y) (λ x. x.kind x.node) (λ y. y.kind y.node) p.kind p.node

abbrev pub init_numbers : Init → Numbers
init_numbers i = some_of expr_numbers i.value

abbrev pub stmt_step : {K : Type 0} → StmtKind-F K Numbers Numbers → Numbers
stmt_step (StmtKind-F.Expr e) = expr_numbers e
stmt_step (StmtKind-F.Block all) = joined all
stmt_step (StmtKind-F.If test one other) = expr_numbers test ++ one ++ some_of (λ s. s) other
stmt_step (StmtKind-F.While test body) = expr_numbers test ++ body
stmt_step (StmtKind-F.Do body test) = body ++ expr_numbers test
stmt_step (StmtKind-F.For first test step body) =
    some_of (λ s. s) first ++ some_of expr_numbers test ++ some_of expr_numbers step ++ body
stmt_step (StmtKind-F.Switch on groups) = expr_numbers on ++ joined groups
stmt_step StmtKind-F.Break = []
stmt_step StmtKind-F.Continue = []
stmt_step (StmtKind-F.Return e) = some_of expr_numbers e
stmt_step (StmtKind-F.Stamped place value) = place_numbers place ++ expr_numbers value
stmt_step (StmtKind-F.Timely place _ one other) = place_numbers place ++ one ++ some_of (λ s. s) other
stmt_step (StmtKind-F.Expires names body caught) = joined (map place_numbers names) ++ joined body ++ joined caught
stmt_step (StmtKind-F.Declare _ init) = joined (map init_numbers init)

abbrev pub stmt_numbers : Stmt → Numbers
stmt_numbers s =
    fold-StmtKind (ℕ → Numbers) Numbers Numbers (λ x node. node ∷ stmt_step x) (λ g. joined g.body) (λ x. x.kind x.node) s.kind s.node

abbrev pub function_numbers : Function → Numbers
function_numbers f = f.node ∷ joined (map stmt_numbers f.body)

unfoldable pub core_numbers : Core → Numbers
core_numbers core = joined (map function_numbers core.functions)

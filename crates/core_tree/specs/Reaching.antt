-- Which functions call which, and which can come to an `@expires` block.
use Rattle.std.specs.Prelude.{◌≡◌, ℕ, nat_eq, Bool, true, false, ◌||◌, List, [], ◌∷◌, ◌++◌, map, slice_get, Option, Some, None}
use Rattle.core_tree.specs.declared.expressions.Expr.{Expr}
use Rattle.core_tree.specs.declared.expressions.Place.{Place}
use Rattle.core_tree.specs.declared.expressions.ExprKind.{fold-ExprKind}
use Rattle.core_tree.specs.declared.expressions.PlaceKind.{fold-PlaceKind}
use Rattle.core_tree.specs.declared.expressions.ExprKind.TheOpen.{ExprKind-F, PlaceKind-F}
use Rattle.core_tree.specs.declared.statements.Stmt.{Stmt}
use Rattle.core_tree.specs.declared.statements.StmtKind.{fold-StmtKind}
use Rattle.core_tree.specs.declared.statements.StmtKind.TheOpen.{StmtKind-F}
use Rattle.core_tree.specs.declared.statements.Init.{Init}
use Rattle.core_tree.specs.declared.program.Function.{Function}
use Rattle.core_tree.specs.declared.program.Core.{Core}

abbrev pub joined : {A : Type 0} → List (List A) → List A
joined [] = []
joined (xs ∷ more) = xs ++ joined more

abbrev pub some_of : {A B : Type 0} → (A → List B) → Option A → List B
some_of f None = []
some_of f (Some x) = f x

-- ---- the functions that an expression calls

abbrev pub called_by : ExprKind-F (List ℕ) (List ℕ) (List ℕ) (List ℕ) → List ℕ
called_by (ExprKind-F.Constant _) = []
called_by (ExprKind-F.Read place) = place
called_by (ExprKind-F.Convert of) = of
called_by (ExprKind-F.Unary _ of) = of
called_by (ExprKind-F.Binary _ _ left right) = left ++ right
called_by (ExprKind-F.PointerPlus _ left right) = left ++ right
called_by (ExprKind-F.Difference left right) = left ++ right
called_by (ExprKind-F.ComparePointers _ left right) = left ++ right
called_by (ExprKind-F.And left right) = left ++ right
called_by (ExprKind-F.Or left right) = left ++ right
called_by (ExprKind-F.Conditional test one other) = test ++ one ++ other
called_by (ExprKind-F.Assign place value _) = place ++ value
called_by (ExprKind-F.Update _ _ place value _ _) = place ++ value
called_by (ExprKind-F.Address place) = place
called_by (ExprKind-F.Call n args) = n ∷ joined args
called_by (ExprKind-F.Sense _) = []
called_by (ExprKind-F.Emit of) = of
called_by ExprKind-F.Checkpoint = []
called_by (ExprKind-F.Comma left right) = left ++ right

abbrev pub called_in_place : PlaceKind-F (List ℕ) (List ℕ) (List ℕ) (List ℕ) → List ℕ
called_in_place (PlaceKind-F.Local _) = []
called_in_place (PlaceKind-F.Global _) = []
called_in_place (PlaceKind-F.Deref of) = of
called_in_place (PlaceKind-F.Member of _ _) = of
called_in_place (PlaceKind-F.Element of index) = of ++ index
called_in_place (PlaceKind-F.At left right) = left ++ right

abbrev pub calls_of : Expr → List ℕ
calls_of e = fold-ExprKind (List ℕ) (List ℕ) (List ℕ) (List ℕ) called_by called_in_place (λ e. e.kind) (λ p. p.kind) e.kind

abbrev pub place_calls : Place → List ℕ
place_calls p = fold-PlaceKind (List ℕ) (List ℕ) (List ℕ) (List ℕ) called_by called_in_place (λ e. e.kind) (λ p. p.kind) p.kind

abbrev pub init_calls : Init → List ℕ
init_calls i = some_of calls_of i.value

-- ---- the functions that a statement calls, and whether it has an `@expires` block

abbrev pub stmt_calls_step : StmtKind-F (List ℕ) (List ℕ) (List ℕ) → List ℕ
stmt_calls_step (StmtKind-F.Expr e) = calls_of e
stmt_calls_step (StmtKind-F.Block all) = joined all
stmt_calls_step (StmtKind-F.If test one other) = calls_of test ++ one ++ some_of (λ s. s) other
stmt_calls_step (StmtKind-F.While test body) = calls_of test ++ body
stmt_calls_step (StmtKind-F.Do body test) = body ++ calls_of test
stmt_calls_step (StmtKind-F.For first test step body) =
    some_of (λ s. s) first ++ some_of calls_of test ++ some_of calls_of step ++ body
stmt_calls_step (StmtKind-F.Switch on groups) = calls_of on ++ joined groups
stmt_calls_step StmtKind-F.Break = []
stmt_calls_step StmtKind-F.Continue = []
stmt_calls_step (StmtKind-F.Return e) = some_of calls_of e
stmt_calls_step (StmtKind-F.Stamped place value) = place_calls place ++ calls_of value
stmt_calls_step (StmtKind-F.Timely place _ one other) = place_calls place ++ one ++ some_of (λ s. s) other
stmt_calls_step (StmtKind-F.Expires names body caught) = joined (map place_calls names) ++ joined body ++ joined caught
stmt_calls_step (StmtKind-F.Declare _ init) = joined (map init_calls init)

abbrev pub stmt_calls : Stmt → List ℕ
stmt_calls s = fold-StmtKind (List ℕ) (List ℕ) (List ℕ) stmt_calls_step (λ g. joined g.body) (λ s. s.kind) s.kind

abbrev pub any : List Bool → Bool
any [] = false
any (b ∷ bs) = b || any bs

abbrev pub option_any : Option Bool → Bool
option_any None = false
option_any (Some b) = b

abbrev pub expires_step : StmtKind-F Bool Bool Bool → Bool
expires_step (StmtKind-F.Block all) = any all
expires_step (StmtKind-F.If _ one other) = one || option_any other
expires_step (StmtKind-F.While _ body) = body
expires_step (StmtKind-F.Do body _) = body
expires_step (StmtKind-F.For first _ _ body) = option_any first || body
expires_step (StmtKind-F.Switch _ groups) = any groups
expires_step (StmtKind-F.Timely _ _ one other) = one || option_any other
expires_step (StmtKind-F.Expires _ _ _) = true
expires_step _ = false

abbrev pub has_expires : Stmt → Bool
has_expires s = fold-StmtKind Bool Bool Bool expires_step (λ g. any g.body) (λ s. s.kind) s.kind

abbrev pub function_calls : Function → List ℕ
function_calls f = joined (map stmt_calls f.body)

abbrev pub opens_block : Function → Bool
opens_block f = any (map has_expires f.body)

-- ---- reaching

abbrev pub calls_number : ℕ → List ℕ → Bool
calls_number n [] = false
calls_number n (m ∷ more) = nat_eq m n || calls_number n more

-- from a function another can be reached by calls, also in no step
pub data Reaches (core : Core) : ℕ → ℕ → Type 0 where
  itself : (n : ℕ) → Reaches core n n
  by_call : (n m l : ℕ) (f : Function) → slice_get core.functions n ≡ Some f → calls_number m (function_calls f) ≡ true
      → Reaches core m l → Reaches core n l

-- a call that may stand in the text of an `@expires` block: nothing that it reaches opens another
abbrev pub MayCall : Core → ℕ → Type 0
MayCall core n = (m : ℕ) (f : Function) → Reaches core n m → slice_get core.functions m ≡ Some f → opens_block f ≡ false

-- The functions of a lawful program declare locals of their own.
use Rattle.std.proofs.Common.{◌≡◌, ℕ, zero, suc, ◌<◌, List, [], ◌∷◌, length, map, Option, Some, None, Bool, true, ◌&&◌, refl, ◌∙◌, arith, rules}
use Rattle.std.proofs.lemmas.Bool.Decides.{nat_tests}
use Rattle.std.specs.Prelude.{slice_get, nat_lt}
use Rattle.core_tree.specs.declared.program.Core.{Core}
use Rattle.core_tree.specs.declared.program.Function.{Function}
use Rattle.core_tree.specs.declared.types.Ty.{Ty}
use Rattle.core_tree.specs.declared.expressions.Expr.{Expr}
use Rattle.core_tree.specs.declared.expressions.Place.{Place}
use Rattle.core_tree.specs.declared.statements.Init.{Init}
use Rattle.core_tree.specs.declared.statements.Group.{Group, out-Group}
use Rattle.core_tree.specs.declared.statements.Group as the_group
use Rattle.core_tree.specs.declared.statements.Stmt.{Stmt}
use Rattle.core_tree.specs.declared.statements.StmtKind.{StmtKind, the_lemmas}
use Rattle.core_tree.specs.declared.statements.StmtKind.TheVariants as k
use Rattle.core_tree.specs.LawfulCore.{Every, Text, IsStmt, AreStmts, AreGroups, IsFunction, IsLawful}
use Rattle.ir_gen.specs.Built.{all_true, if_some}
use Rattle.ir_gen.specs.Locals as locals
use Rattle.ir_gen.specs.Form.{DeclareTheirOwn}

both : (a b : Bool) → a ≡ true → b ≡ true → (a && b) ≡ true
both a b e f = grind (arith, e, f)

within : (ts : List Ty) (n : ℕ) (t : Ty) → slice_get ts n ≡ Some t → nat_lt n (length ts) ≡ true
within ts n t e = grind (arith, nat_tests, short ts n t e)
  where
    short : (ts : List Ty) (n : ℕ) (t : Ty) → slice_get ts n ≡ Some t → n < length ts
    short [] n t e = absurd (grind (arith, e))
    short (x ∷ ts) zero t e = omega arith
    short (x ∷ ts) (suc n) t e = omega (arith, short ts n t e)

-- ---- what is asked of a statement, one equation for each kind

module _ (count : ℕ) where
  own-Expr : (e : Expr) → locals.stmt_kind count (k.Expr e) ≡ true
  own-Expr e = search (rules, the_lemmas)

  own-Block : (all : List Stmt) → locals.stmt_kind count (k.Block all) ≡ locals.stmts count all
  own-Block all = search (rules, the_lemmas)

  own-If : (test : Expr) (one : Stmt) (other : Option Stmt)
      → locals.stmt_kind count (k.If test one other) ≡ (locals.stmt count one && if_some (locals.stmt count) other)
  own-If test one other = search (rules, the_lemmas)

  own-While : (test : Expr) (body : Stmt) → locals.stmt_kind count (k.While test body) ≡ locals.stmt count body
  own-While test body = search (rules, the_lemmas)

  own-Do : (body : Stmt) (test : Expr) → locals.stmt_kind count (k.Do body test) ≡ locals.stmt count body
  own-Do body test = search (rules, the_lemmas)

  own-For : (begin : Option Stmt) (test part : Option Expr) (body : Stmt)
      → locals.stmt_kind count (k.For begin test part body) ≡ (if_some (locals.stmt count) begin && locals.stmt count body)
  own-For begin test part body = search (rules, the_lemmas)

  own-Switch : (on : Expr) (groups : List Group)
      → locals.stmt_kind count (k.Switch on groups) ≡ all_true (map (locals.group count) groups)
  own-Switch on groups = search (rules, the_lemmas)

  own-Break : locals.stmt_kind count k.Break ≡ true
  own-Break = search (rules, the_lemmas)

  own-Continue : locals.stmt_kind count k.Continue ≡ true
  own-Continue = search (rules, the_lemmas)

  own-Return : (e : Option Expr) → locals.stmt_kind count (k.Return e) ≡ true
  own-Return e = search (rules, the_lemmas)

  own-Stamped : (p : Place) (e : Expr) → locals.stmt_kind count (k.Stamped p e) ≡ true
  own-Stamped p e = search (rules, the_lemmas)

  own-Timely : (p : Place) (limit : ℕ) (one : Stmt) (other : Option Stmt)
      → locals.stmt_kind count (k.Timely p limit one other) ≡ (locals.stmt count one && if_some (locals.stmt count) other)
  own-Timely p limit one other = search (rules, the_lemmas)

  own-Expires : (names : List Place) (body caught : List Stmt)
      → locals.stmt_kind count (k.Expires names body caught) ≡ (locals.stmts count body && locals.stmts count caught)
  own-Expires names body caught = search (rules, the_lemmas)

  own-Declare : (n : ℕ) (init : List Init) → locals.stmt_kind count (k.Declare n init) ≡ nat_lt n count
  own-Declare n init = search (rules, the_lemmas)

  own_group : (g : Group) → locals.group count g ≡ locals.stmts count (out-Group g).body
  own_group g = search (rules, the_group.the_lemmas)

-- ---- by induction over what is lawful

abbrev Own : Text → StmtKind → Type 0
Own x kind = locals.stmt_kind (length x.scope.objects) kind ≡ true

mutual
  stmt_own : (x : Text) (kind : StmtKind) → IsStmt x kind → Own x kind
  stmt_own _ _ (IsStmt.expression x e i) = own-Expr _ e
  stmt_own _ _ (IsStmt.block x all i) = own-Block _ all ∙ stmts_own x all i
  stmt_own _ _ (IsStmt.if x test one i j) = own-If _ test one None ∙ both _ _ (stmt_own x one.kind j) refl
  stmt_own _ _ (IsStmt.if_else x test one other i j l) =
      own-If _ test one (Some other) ∙ both _ _ (stmt_own x one.kind j) (stmt_own x other.kind l)
  stmt_own _ _ (IsStmt.while x test body i j) = own-While _ test body ∙ stmt_own _ body.kind j
  stmt_own _ _ (IsStmt.do_while x body test j i) = own-Do _ body test ∙ stmt_own _ body.kind j
  stmt_own _ _ (IsStmt.for x test step body i j l) = own-For _ None test step body ∙ both _ _ refl (stmt_own _ body.kind l)
  stmt_own _ _ (IsStmt.for_first x first test step body a o i j l) =
      own-For _ (Some first) test step body ∙ both _ _ (stmt_own x first.kind o) (stmt_own _ body.kind l)
  stmt_own _ _ (IsStmt.switch x on groups t computed i apart values j) = own-Switch _ on groups ∙ groups_own _ groups j
  stmt_own _ _ (IsStmt.break x i) = own-Break _
  stmt_own _ _ (IsStmt.continue x i) = own-Continue _
  stmt_own _ _ (IsStmt.returned x i free) = own-Return _ None
  stmt_own _ _ (IsStmt.returned_value x e i scalar free) = own-Return _ (Some e)
  stmt_own _ _ (IsStmt.stamped x p e t i j scalar free timed) = own-Stamped _ p e
  stmt_own _ _ (IsStmt.timely x p limit one i j) = own-Timely _ p limit one None ∙ both _ _ (stmt_own x one.kind j) refl
  stmt_own _ _ (IsStmt.timely_else x p limit one other i j o) =
      own-Timely _ p limit one (Some other) ∙ both _ _ (stmt_own x one.kind j) (stmt_own x other.kind o)
  stmt_own _ _ (IsStmt.expires x p names body caught i free j o) =
      own-Expires _ (p ∷ names) body caught ∙ both _ _ (stmts_own _ body j) (stmts_own x caught o)
  stmt_own _ _ (IsStmt.declared x n t init from e ok) = own-Declare _ n init ∙ within x.scope.objects n t e

  stmts_own : (x : Text) (ss : List Stmt) → AreStmts x ss → locals.stmts (length x.scope.objects) ss ≡ true
  stmts_own _ _ (AreStmts.no_stmts x) = refl
  stmts_own _ _ (AreStmts.one_more x s more i j) = both _ _ (stmt_own x s.kind i) (stmts_own x more j)

  groups_own : (x : Text) (gs : List Group) → AreGroups x gs
      → all_true (map (locals.group (length x.scope.objects)) gs) ≡ true
  groups_own _ _ (AreGroups.no_groups x) = refl
  groups_own _ _ (AreGroups.one_group x g more some i j) =
      both _ _ (own_group _ g ∙ stmts_own x (out-Group g).body i) (groups_own x more j)

functions_own : (core : Core) (annotated : Bool) (fs : List Function) → Every (IsFunction core annotated) fs
    → DeclareTheirOwn fs
functions_own core annotated [] h = tt
functions_own core annotated (f ∷ fs) h = (stmts_own _ f.body h.0.body, functions_own core annotated fs h.1)

-- the functions of a lawful program declare locals of their own
pub declare_their_own : (core : Core) (annotated : Bool) → IsLawful annotated core → DeclareTheirOwn core.functions
declare_their_own core annotated h = functions_own core annotated core.functions h.functions

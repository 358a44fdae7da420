-- What a statement of a kind does, from a run.
use Rattle.std.proofs.Common.{◌≡◌, ℕ, ◌+◌, ◌<◌, cond, List, ◌∷◌, length, get_or, drop, Option, ap, sym, ◌∙◌, add-one, drop-cons}
use Rattle.base16.specs.declared.reading.Reading.{Reading}
use Rattle.core_tree.specs.declared.program.Core.{Core}
use Rattle.core_tree.specs.declared.expressions.Expr.{Expr}
use Rattle.core_tree.specs.declared.statements.Init.{Init}
use Rattle.core_tree.specs.declared.statements.Stmt.{Stmt}
use Rattle.core_tree.specs.declared.statements.StmtKind.{StmtKind}
use Rattle.core_tree.specs.declared.statements.StmtKind.TheVariants as k
use Rattle.c_values.specs.Objects.{kind_at}
use Rattle.c_values.specs.Pointers.{at}
use Rattle.c_values.specs.Values.{zero_of}
use Rattle.c_run.specs.Runs.{Run, Action, and_then, asked, pure, ◌>>=◌}
use Rattle.c_run.specs.Actions.{store}
use Rattle.c_meaning.specs.declared.flow.Flow.{Flow}
use Rattle.c_meaning.specs.declared.flow.Flow.TheVariants.{Normal}
use Rattle.c_meaning.specs.Meaning.{Calls}
use Rattle.c_meaning.specs.Statements.{Text, stmt, stmts, stmt_kind, run_test, or_nothing, then_flow, loop, loop_test, loop_step, declared, initialised, init_value, optional}
use Rattle.c_meaning.proofs.StmtEquations.{stmt-If, stmt-For, stmt-Declare}

pub if_is : (K : Core) (R : List Reading) (C : Calls) (F : ℕ) (s : Stmt) (test : Expr) (one : Stmt) (other : Option Stmt) (text : Text) (r : Run)
    → s.kind ≡ k.If test one other
    → stmt K R C F s text r
    ≡ and_then (run_test K R C F s.node test r) (λ x. cond x (stmt K R C F one text) (or_nothing (stmt K R C F) other text))
if_is K R C F s test one other text r is =
    ap (λ (kind : StmtKind). stmt_kind K R C F kind s.node text r) is ∙ ap (λ (act : Action Flow). act r) (stmt-If K R C F test one other s.node text)

pub for_is : (K : Core) (R : List Reading) (C : Calls) (F : ℕ) (s : Stmt) (begin : Option Stmt) (test step : Option Expr) (body : Stmt) (text : Text) (r : Run)
    → s.kind ≡ k.For begin test step body
    → stmt K R C F s text r
    ≡ and_then (or_nothing (stmt K R C F) begin text r) (λ f. then_flow f (loop R text (loop_test K R C F s.node test) (stmt K R C F body text) (loop_step K R C F step)))
for_is K R C F s begin test step body text r is =
    ap (λ (kind : StmtKind). stmt_kind K R C F kind s.node text r) is
    ∙ ap (λ (act : Action Flow). act r) (stmt-For K R C F begin test step body s.node text)

pub declare_is : (K : Core) (R : List Reading) (C : Calls) (F : ℕ) (s : Stmt) (n : ℕ) (init : List Init) (text : Text) (r : Run)
    → s.kind ≡ k.Declare n init
    → stmt K R C F s text r ≡ and_then (declared K R C F s.node (F + n) init r) (λ _. pure Normal)
declare_is K R C F s n init text r is =
    ap (λ (kind : StmtKind). stmt_kind K R C F kind s.node text r) is ∙ ap (λ (act : Action Flow). act r) (stmt-Declare K R C F n init s.node text)

pub stmts_turn : (K : Core) (R : List Reading) (C : Calls) (F : ℕ) (all : List Stmt) (i : ℕ) (x : Stmt) (text : Text) (r : Run) → i < length all → x ≡ get_or all i x
    → stmts K R C F (drop i all) text r
    ≡ and_then (stmt K R C F x text r) (λ f. then_flow f (stmts K R C F (drop (i + 1) all) text))
stmts_turn K R C F all i x text r h is =
    let cut : drop i all ≡ get_or all i x ∷ drop (i + 1) all = rw (add-one) (drop-cons all i x h) in
    ap (λ ss. stmts K R C F ss text r) cut
    ∙ ap (λ (y : Stmt). and_then (stmt K R C F y text r) (λ f. then_flow f (stmts K R C F (drop (i + 1) all) text))) (sym is)

pub initialised_turn : (K : Core) (R : List Reading) (C : Calls) (F node n : ℕ) (all : List Init) (i : ℕ) (x : Init) (r : Run) → i < length all → x ≡ get_or all i x
    → initialised K R C F node n (drop i all) r
    ≡ and_then (init_value K R C F x.value r) (λ v. asked node (λ s. kind_at s n x.offset) >>= λ kind. store node (at n x.offset) kind (optional (zero_of kind) v) x.marked
    >>= λ _. initialised K R C F node n (drop (i + 1) all))
initialised_turn K R C F node n all i x r h is =
    let cut : drop i all ≡ get_or all i x ∷ drop (i + 1) all = rw (add-one) (drop-cons all i x h) in
    ap (λ xs. initialised K R C F node n xs r) cut
    ∙ ap (λ (y : Init). and_then (init_value K R C F y.value r) (λ v. asked node (λ s. kind_at s n y.offset) >>= λ kind. store node (at n y.offset) kind (optional (zero_of kind) v) y.marked
    >>= λ _. initialised K R C F node n (drop (i + 1) all))) (sym is)

-- A statement does what the equation of its kind says, and so gives what its parts do.
use Rattle.std.proofs.Common.{◌≡◌, ℕ, ℤ, Bool, true, false, cond, List, drop, Option, None, Some, ap, sym, subst, ◌∙◌}
use Rattle.std.specs.Prelude.{Result}
use Rattle.base16.specs.declared.reading.Reading.{Reading}
use Rattle.core_tree.specs.declared.program.Core.{Core}
use Rattle.core_tree.specs.declared.expressions.Expr.{Expr}
use Rattle.core_tree.specs.declared.expressions.Place.{Place}
use Rattle.core_tree.specs.declared.statements.Group.{Group}
use Rattle.core_tree.specs.declared.statements.Stmt.{Stmt}
use Rattle.core_tree.specs.declared.statements.StmtKind.{StmtKind}
use Rattle.core_tree.specs.declared.statements.StmtKind.TheVariants as k
use Rattle.c_run.specs.declared.halt.Halt.{Halt}
use Rattle.c_run.specs.Runs.{Run, Action, Outcome, Went, and_then, pure}
use Rattle.c_run.specs.declared.halt.Halt.TheVariants as halt
use Rattle.c_run.specs.Gives.{Gives, Halts}
use Rattle.c_meaning.specs.declared.flow.Flow.{Flow}
use Rattle.c_meaning.specs.declared.flow.Flow.TheVariants.{Normal}
use Rattle.c_meaning.specs.Meaning.{Calls}
use Rattle.c_meaning.specs.Statements.{Text, stmt, stmts, stmt_kind, run_test, loop_test, loop_step, loop, after_body, then_flow, or_nothing, caught_unless, broken_out}
use Rattle.c_meaning.proofs.StmtEquations.{stmt-Block, stmt-While, stmt-Do}
use Rattle.c_exec.specs.Groups.{chosen}
use Rattle.c_exec.specs.Switching.{switch_number, groups, switched}
use Rattle.c_exec.specs.Timing.{block, is_young}
use Rattle.c_exec.proofs.OneLayer.{if_is, for_is}
use Rattle.c_exec.proofs.Switches.{switch_is}
use Rattle.c_exec.proofs.TimedStatements.{timely_is, expires_is}

-- an outcome that is another one
same_gives : {A : Type 0} (o p : Outcome A) (result : Result A Halt) (new : Run) → o ≡ p → Gives p result new → Gives o result new
same_gives o p result new e g = subst (λ (z : Outcome _). Gives z result new) (sym e) g

-- an outcome whose value is known, and what follows it
went_gives : {A B : Type 0} (o : Outcome A) (a : A) (r : Run) (f : A → Action B) (result : Result B Halt) (new : Run)
    → o ≡ Went a r → Gives (f a r) result new → Gives (and_then o f) result new
went_gives o a r f result new is g = subst (λ (z : Outcome _). Gives (and_then z f) result new) (sym is) g

-- what follows an action that halts is not done
pub halted : {A B : Type 0} (o : Outcome A) (f : A → Action B) (h : Halt) (new : Run) → Halts o h new → Halts (and_then o f) h new
halted o f halt.Live new g = ap (λ (z : Outcome _). and_then z f) g
halted o f (halt.Ended kind) new g = ap (λ (z : Outcome _). and_then z f) g
halted o f halt.NeedsReading new g = ap (λ (z : Outcome _). and_then z f) g
halted o f (halt.Broken rule node) new g = ap (λ (z : Outcome _). and_then z f) g
halted o f halt.NoMemory new g = tt

test_gives : (o : Outcome Bool) (b c : Bool) (r : Run) (p q : Action Flow) (result : Result Flow Halt) (new : Run)
    → o ≡ Went b r → b ≡ c → Gives (cond c p q r) result new → Gives (and_then o (λ x. cond x p q)) result new
test_gives o b c r p q result new is same g =
    went_gives o b r (λ x. cond x p q) result new is (subst (λ (x : Bool). Gives (cond x p q r) result new) (sym same) g)

module _ (K : Core) (R : List Reading) (C : Calls) (F : ℕ) (s : Stmt) (text : Text) (r : Run) (result : Result Flow Halt) (new : Run) where
  kind_is : (kind : StmtKind) (act : Action Flow) → s.kind ≡ kind → stmt_kind K R C F kind s.node text ≡ act → stmt K R C F s text r ≡ act r
  kind_is kind act is e = ap (λ (x : StmtKind). stmt_kind K R C F x s.node text r) is ∙ ap (λ (a : Action Flow). a r) e

  pub block_gives : (all found : List Stmt) → s.kind ≡ k.Block all → found ≡ all
      → Gives (stmts K R C F found text r) result new → Gives (stmt K R C F s text r) result new
  block_gives all found is same g =
      same_gives _ _ result new (kind_is (k.Block all) (stmts K R C F all text) is (stmt-Block K R C F all s.node text))
      (subst (λ (x : List Stmt). Gives (stmts K R C F x text r) result new) same g)

  pub while_gives : (test : Expr) (inner found : Stmt) → s.kind ≡ k.While test inner → found ≡ inner
      → Gives (loop R text (run_test K R C F s.node test) (stmt K R C F found text) (pure tt) r) result new → Gives (stmt K R C F s text r) result new
  while_gives test inner found is same g =
      same_gives _ _ result new
      (kind_is (k.While test inner) (loop R text (run_test K R C F s.node test) (stmt K R C F inner text) (pure tt)) is (stmt-While K R C F test inner s.node text))
      (subst (λ (x : Stmt). Gives (loop R text (run_test K R C F s.node test) (stmt K R C F x text) (pure tt) r) result new) same g)

  abbrev do_run : Expr → Stmt → Action Flow
  do_run test inner = λ r. and_then (stmt K R C F inner text r) (λ f. after_body f (loop R text (run_test K R C F s.node test) (stmt K R C F inner text) (pure tt)))

  pub do_gives : (test : Expr) (inner found : Stmt) → s.kind ≡ k.Do inner test → found ≡ inner
      → Gives (do_run test found r) result new → Gives (stmt K R C F s text r) result new
  do_gives test inner found is same g =
      same_gives _ _ result new (kind_is (k.Do inner test) (do_run test inner) is (stmt-Do K R C F test inner s.node text))
      (subst (λ (x : Stmt). Gives (do_run test x r) result new) same g)

  abbrev for_run : Option Expr → Option Expr → Stmt → Action Flow
  for_run test step inner = loop R text (loop_test K R C F s.node test) (stmt K R C F inner text) (loop_step K R C F step)

  pub for_none_gives : (begin : Option Stmt) (test step : Option Expr) (inner found : Stmt) → s.kind ≡ k.For begin test step inner → begin ≡ None → found ≡ inner
      → Gives (for_run test step found r) result new → Gives (stmt K R C F s text r) result new
  for_none_gives begin test step inner found is none same g =
      same_gives _ _ result new (for_is K R C F s begin test step inner text r is)
      (subst (λ (b : Option Stmt). Gives (and_then (or_nothing (stmt K R C F) b text r) (λ f. then_flow f (for_run test step inner))) result new) (sym none)
      (subst (λ (x : Stmt). Gives (for_run test step x r) result new) same g))

  -- a loop whose first statement is there
  pub for_some_is : (begin : Option Stmt) (test step : Option Expr) (inner one found : Stmt) → s.kind ≡ k.For begin test step inner → begin ≡ Some one → found ≡ one
      → stmt K R C F s text r ≡ and_then (stmt K R C F found text r) (λ f. then_flow f (for_run test step inner))
  for_some_is begin test step inner one found is some same =
      for_is K R C F s begin test step inner text r is
      ∙ ap (λ (b : Option Stmt). and_then (or_nothing (stmt K R C F) b text r) (λ f. then_flow f (for_run test step inner))) some
      ∙ ap (λ (x : Stmt). and_then (stmt K R C F x text r) (λ f. then_flow f (for_run test step inner))) (sym same)

  pub for_some_gives : (begin : Option Stmt) (test step : Option Expr) (inner within one found : Stmt) (f : Flow) (u : Run)
      → s.kind ≡ k.For begin test step inner → begin ≡ Some one → found ≡ one → within ≡ inner → stmt K R C F found text r ≡ Went f u
      → Gives (then_flow f (for_run test step within) u) result new → Gives (stmt K R C F s text r) result new
  for_some_gives begin test step inner within one found f u is some same alike went g =
      same_gives _ _ result new (for_some_is begin test step inner one found is some same)
      (went_gives (stmt K R C F found text r) f u (λ f. then_flow f (for_run test step inner)) result new went
      (subst (λ (x : Stmt). Gives (then_flow f (for_run test step x) u) result new) alike g))

  pub for_some_halts : (begin : Option Stmt) (test step : Option Expr) (inner one found : Stmt) (h : Halt)
      → s.kind ≡ k.For begin test step inner → begin ≡ Some one → found ≡ one → Halts (stmt K R C F found text r) h new → Halts (stmt K R C F s text r) h new
  for_some_halts begin test step inner one found h is some same g =
      subst (λ (o : Outcome Flow). Halts o h new) (sym (for_some_is begin test step inner one found is some same))
      (halted (stmt K R C F found text r) (λ f. then_flow f (for_run test step inner)) h new g)

  pub switch_gives : (on : Expr) (gs found : List Group) → s.kind ≡ k.Switch on gs → found ≡ gs
      → Gives (switched K R C F s.node on found text r) result new → Gives (stmt K R C F s text r) result new
  switch_gives on gs found is same g =
      same_gives _ _ result new (switch_is K R C F s on gs text r is) (subst (λ (x : List Group). Gives (switched K R C F s.node on x text r) result new) same g)

  -- what is done where a test holds, and what where it does not
  yes_gives : (o : Outcome Bool) (one found : Stmt) (other : Option Stmt) (b : Bool) (u : Run)
      → stmt K R C F s text r ≡ and_then o (λ x. cond x (stmt K R C F one text) (or_nothing (stmt K R C F) other text)) → found ≡ one → o ≡ Went b u → b ≡ true
      → Gives (stmt K R C F found text u) result new → Gives (stmt K R C F s text r) result new
  yes_gives o one found other b u is same went holds g =
      same_gives _ _ result new is
      (test_gives o b true u (stmt K R C F one text) (or_nothing (stmt K R C F) other text) result new went holds
      (subst (λ (x : Stmt). Gives (stmt K R C F x text u) result new) same g))

  no_gives : (o : Outcome Bool) (one : Stmt) (other : Option Stmt) (two found : Stmt) (b : Bool) (u : Run)
      → stmt K R C F s text r ≡ and_then o (λ x. cond x (stmt K R C F one text) (or_nothing (stmt K R C F) other text)) → other ≡ Some two → found ≡ two
      → o ≡ Went b u → b ≡ false → Gives (stmt K R C F found text u) result new → Gives (stmt K R C F s text r) result new
  no_gives o one other two found b u is some same went holds g =
      same_gives _ _ result new is
      (test_gives o b false u (stmt K R C F one text) (or_nothing (stmt K R C F) other text) result new went holds
      (subst (λ (x : Option Stmt). Gives (or_nothing (stmt K R C F) x text u) result new) (sym some)
      (subst (λ (x : Stmt). Gives (stmt K R C F x text u) result new) same g)))

  pub if_yes_gives : (test : Expr) (one found : Stmt) (other : Option Stmt) (b : Bool) (u : Run) → s.kind ≡ k.If test one other → found ≡ one
      → run_test K R C F s.node test r ≡ Went b u → b ≡ true → Gives (stmt K R C F found text u) result new → Gives (stmt K R C F s text r) result new
  if_yes_gives test one found other b u is same went holds g =
      yes_gives (run_test K R C F s.node test r) one found other b u (if_is K R C F s test one other text r is) same went holds g

  pub if_no_gives : (test : Expr) (one : Stmt) (other : Option Stmt) (two found : Stmt) (b : Bool) (u : Run) → s.kind ≡ k.If test one other → other ≡ Some two
      → found ≡ two → run_test K R C F s.node test r ≡ Went b u → b ≡ false → Gives (stmt K R C F found text u) result new → Gives (stmt K R C F s text r) result new
  if_no_gives test one other two found b u is some same went holds g =
      no_gives (run_test K R C F s.node test r) one other two found b u (if_is K R C F s test one other text r is) some same went holds g

  pub young_gives : (p : Place) (limit : ℕ) (one found : Stmt) (other : Option Stmt) (b : Bool) (u : Run) → s.kind ≡ k.Timely p limit one other → found ≡ one
      → is_young K R C F s.node p limit r ≡ Went b u → b ≡ true → Gives (stmt K R C F found text u) result new → Gives (stmt K R C F s text r) result new
  young_gives p limit one found other b u is same went holds g =
      yes_gives (is_young K R C F s.node p limit r) one found other b u (timely_is K R C F s p limit one other text r is) same went holds g

  pub old_gives : (p : Place) (limit : ℕ) (one : Stmt) (other : Option Stmt) (two found : Stmt) (b : Bool) (u : Run) → s.kind ≡ k.Timely p limit one other
      → other ≡ Some two → found ≡ two → is_young K R C F s.node p limit r ≡ Went b u → b ≡ false
      → Gives (stmt K R C F found text u) result new → Gives (stmt K R C F s text r) result new
  old_gives p limit one other two found b u is some same went holds g =
      no_gives (is_young K R C F s.node p limit r) one other two found b u (timely_is K R C F s p limit one other text r is) some same went holds g

  -- a block, by what the call that ran it answered
  pub block_is : (names listed : List Place) (inner within caught : List Stmt) → s.kind ≡ k.Expires names inner caught → listed ≡ names → within ≡ inner
      → stmt K R C F s text r ≡ and_then (block K R C F listed within r) (λ fine. caught_unless fine (stmts K R C F caught text))
  block_is names listed inner within caught is same alike =
      expires_is K R C F s names inner caught text r is
      ∙ ap (λ (ps : List Place). and_then (block K R C F ps inner r) (λ fine. caught_unless fine (stmts K R C F caught text))) (sym same)
      ∙ ap (λ (ss : List Stmt). and_then (block K R C F listed ss r) (λ fine. caught_unless fine (stmts K R C F caught text))) (sym alike)

  pub fine_gives : (names listed : List Place) (inner within caught : List Stmt) (b : Bool) (u : Run) → s.kind ≡ k.Expires names inner caught → listed ≡ names
      → within ≡ inner → block K R C F listed within r ≡ Went b u → b ≡ true → stmt K R C F s text r ≡ Went Normal u
  fine_gives names listed inner within caught b u is same alike went holds =
      block_is names listed inner within caught is same alike
      ∙ ap (λ (o : Outcome Bool). and_then o (λ fine. caught_unless fine (stmts K R C F caught text))) went
      ∙ ap (λ (x : Bool). caught_unless x (stmts K R C F caught text) u) holds

  pub caught_gives : (names listed : List Place) (inner within caught found : List Stmt) (b : Bool) (u : Run) → s.kind ≡ k.Expires names inner caught
      → listed ≡ names → within ≡ inner → found ≡ caught → block K R C F listed within r ≡ Went b u → b ≡ false
      → Gives (stmts K R C F found text u) result new → Gives (stmt K R C F s text r) result new
  caught_gives names listed inner within caught found b u is same alike caught_is went holds g =
      same_gives _ _ result new
      (block_is names listed inner within caught is same alike
      ∙ ap (λ (o : Outcome Bool). and_then o (λ fine. caught_unless fine (stmts K R C F caught text))) went
      ∙ ap (λ (x : Bool). caught_unless x (stmts K R C F caught text) u) holds)
      (subst (λ (x : List Stmt). Gives (stmts K R C F x text u) result new) caught_is g)

module _ (K : Core) (R : List Reading) (C : Calls) (F node : ℕ) (on : Expr) (gs : List Group) (text : Text) (r : Run) (z : ℤ) (i : ℕ) (u : Run) where
  -- a switch, by the number of the group that it begins with
  switched_is : switch_number K R C F node on r ≡ Went z u → chosen z gs ≡ drop i gs
      → switched K R C F node on gs text r ≡ and_then (groups K R C F (drop i gs) text u) (λ f. pure (broken_out f))
  switched_is went begin =
      ap (λ (o : Outcome ℤ). and_then o (λ z s. and_then (groups K R C F (chosen z gs) text s) (λ f. pure (broken_out f)))) went
      ∙ ap (λ (xs : List Group). and_then (groups K R C F xs text u) (λ f. pure (broken_out f))) begin

  pub switched_halts : (h : Halt) (new : Run) → switch_number K R C F node on r ≡ Went z u → chosen z gs ≡ drop i gs
      → Halts (groups K R C F (drop i gs) text u) h new → Halts (switched K R C F node on gs text r) h new
  switched_halts h new went begin g =
      subst (λ (o : Outcome Flow). Halts o h new) (sym (switched_is went begin))
      (halted (groups K R C F (drop i gs) text u) (λ f. pure (broken_out f)) h new g)

  pub switched_went : (f x : Flow) (v : Run) → switch_number K R C F node on r ≡ Went z u → chosen z gs ≡ drop i gs
      → groups K R C F (drop i gs) text u ≡ Went f v → x ≡ broken_out f → switched K R C F node on gs text r ≡ Went x v
  switched_went f x v went begin done is =
      switched_is went begin
      ∙ ap (λ (o : Outcome Flow). and_then o (λ f. pure (broken_out f))) done
      ∙ ap (λ (y : Flow). Went y v) (sym is)

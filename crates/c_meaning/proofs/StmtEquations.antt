-- What each kind of statement does, one equation each.
use Rattle.std.proofs.Common.{◌≡◌, ℕ, ◌+◌, cond, List, Option, Some, None, rules}
use Rattle.base16.specs.declared.reading.Reading.{Reading}
use Rattle.core_tree.specs.declared.program.Core.{Core}
use Rattle.core_tree.specs.declared.expressions.Expr.{Expr}
use Rattle.core_tree.specs.declared.statements.Stmt.{Stmt}
use Rattle.core_tree.specs.declared.statements.Init.{Init}
use Rattle.core_tree.specs.declared.statements.StmtKind.{the_lemmas}
use Rattle.core_tree.specs.declared.statements.StmtKind.TheVariants as k
use Rattle.c_values.specs.declared.value.Value.TheVariants.{Undefined}
use Rattle.c_run.specs.Runs.{◌>>=◌, pure, given}
use Rattle.c_values.specs.Values.{present}
use Rattle.c_meaning.specs.Meaning.{Calls}
use Rattle.c_meaning.specs.declared.flow.Flow.TheVariants.{Normal, Break, Continue, Return}
use Rattle.c_meaning.specs.Statements.{Text, then_flow, or_nothing, after_body, loop, run_expr, run_test, loop_test, loop_step, declared, stmt_kind, stmt, stmts}

module _ (K : Core) (R : List Reading) (C : Calls) (F : ℕ) where
  pub stmt-Expr : (e : Expr) (n : ℕ) (text : Text) → stmt_kind K R C F (k.Expr e) n text ≡ run_expr K R C F e >>= λ _. pure Normal
  stmt-Expr e n text = search (rules, the_lemmas)

  pub stmt-Block : (all : List Stmt) (n : ℕ) (text : Text) → stmt_kind K R C F (k.Block all) n text ≡ stmts K R C F all text
  stmt-Block all n text = search (rules, the_lemmas)

  pub stmt-If : (test : Expr) (one : Stmt) (other : Option Stmt) (n : ℕ) (text : Text)
      → stmt_kind K R C F (k.If test one other) n text
      ≡ run_test K R C F n test >>= λ x. cond x (stmt K R C F one text) (or_nothing (stmt K R C F) other text)
  stmt-If test one other n text = search (rules, the_lemmas)

  pub stmt-While : (test : Expr) (body : Stmt) (n : ℕ) (text : Text)
      → stmt_kind K R C F (k.While test body) n text
      ≡ loop R text (run_test K R C F n test) (stmt K R C F body text) (pure tt)
  stmt-While test body n text = search (rules, the_lemmas)

  pub stmt-Do : (test : Expr) (body : Stmt) (n : ℕ) (text : Text)
      → stmt_kind K R C F (k.Do body test) n text
      ≡ stmt K R C F body text >>= λ f. after_body f (loop R text (run_test K R C F n test) (stmt K R C F body text) (pure tt))
  stmt-Do test body n text = search (rules, the_lemmas)

  pub stmt-Break : (n : ℕ) (text : Text) → stmt_kind K R C F k.Break n text ≡ pure Break
  stmt-Break n text = search (rules, the_lemmas)

  pub stmt-Continue : (n : ℕ) (text : Text) → stmt_kind K R C F k.Continue n text ≡ pure Continue
  stmt-Continue n text = search (rules, the_lemmas)

  pub stmt-Return-None : (n : ℕ) (text : Text) → stmt_kind K R C F (k.Return None) n text ≡ pure (Return Undefined)
  stmt-Return-None n text = search (rules, the_lemmas)

  pub stmt-Return-Some : (e : Expr) (n : ℕ) (text : Text)
      → stmt_kind K R C F (k.Return (Some e)) n text ≡ run_expr K R C F e >>= λ v. given n (present v) >>= λ w. pure (Return w)
  stmt-Return-Some e n text = search (rules, the_lemmas)

  pub stmt-Declare : (i : ℕ) (init : List Init) (n : ℕ) (text : Text)
      → stmt_kind K R C F (k.Declare i init) n text ≡ declared K R C F n (F + i) init >>= λ _. pure Normal
  stmt-Declare i init n text = search (rules, the_lemmas)

  pub stmt-For : (begin : Option Stmt) (test step : Option Expr) (body : Stmt) (n : ℕ) (text : Text)
      → stmt_kind K R C F (k.For begin test step body) n text
      ≡ or_nothing (stmt K R C F) begin text >>= λ f. then_flow f (loop R text (loop_test K R C F n test) (stmt K R C F body text) (loop_step K R C F step))
  stmt-For begin test step body n text = search (rules, the_lemmas)

-- What a switch does: the groups from the one that is chosen, one after the other.
use Rattle.std.specs.Prelude.{ℕ, ℤ, List, map}
use Rattle.base16.specs.declared.reading.Reading.{Reading}
use Rattle.core_tree.specs.declared.program.Core.{Core}
use Rattle.core_tree.specs.declared.expressions.Expr.{Expr}
use Rattle.core_tree.specs.declared.statements.Group.{Group, out-Group}
use Rattle.core_tree.specs.Layout.{int_type_of}
use Rattle.c_values.specs.Values.{integer, numbered}
use Rattle.c_run.specs.Runs.{Action, ◌>>=◌, pure, given}
use Rattle.c_meaning.specs.Meaning.{Calls}
use Rattle.c_meaning.specs.Statements.{Step, in_order, broken_out, run_expr, stmts}
use Rattle.c_exec.specs.Groups.{chosen}

module _ (core : Core) (readings : List Reading) (call : Calls) (first : ℕ) where
  -- the number on which a switch chooses
  abbrev pub switch_number : ℕ → Expr → Action ℤ
  switch_number node on = run_expr core readings call first on >>= λ v. given node (integer (numbered (int_type_of on.ty) v))

  abbrev pub group : Group → Step
  group g = stmts core readings call first (out-Group g).body

  -- groups one after the other
  abbrev pub groups : List Group → Step
  groups gs = in_order (map group gs)

  abbrev pub switched : ℕ → Expr → List Group → Step
  switched node on gs text = switch_number node on >>= λ z. groups (chosen z gs) text >>= λ f. pure (broken_out f)

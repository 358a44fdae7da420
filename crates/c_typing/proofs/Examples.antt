-- Worked examples: a few expressions where `int x; int *p; const int c; int a[3];` are declared.
use Rattle.std.proofs.Common.{◌≡◌, ℕ, Bool, true, false, List, [], ◌∷◌, Option, Some, None, Result, Ok, Err, refl, rules}
use Rattle.std.specs.Prelude.{codes, pos}
use Rattle.base16.specs.declared.integer.IntType.TheVariants.{Int, UInt}
use Rattle.base16.specs.declared.operator.BinaryOp.TheVariants as op
use Rattle.c_tree.specs.declared.expression.Expr.{Expr as Source}
use Rattle.c_tree.specs.declared.expression.ExprKind.{the_lemmas}
use Rattle.c_tree.specs.declared.expression.ExprKind.TheVariants as k
use Rattle.core_tree.specs.declared.types.Ty.{the_lemmas as type_lemmas}
use Rattle.core_tree.specs.declared.types.Ty.TheVariants as ty
use Rattle.c_typing.specs.declared.fault.Rule.TheVariants as rule
use Rattle.c_typing.specs.declared.environment.Env.{Env}
use Rattle.c_typing.specs.declared.environment.What.TheVariants as w
use Rattle.c_typing.specs.Outcome.{broken}
use Rattle.c_typing.specs.Values.{value}
use Rattle.c_typing.specs.Calls.{named}
use Rattle.c_typing.specs.Operators.{binary, pointer_integer}
use Rattle.c_typing.specs.Expressions.{kind_step, means}

env : Env
env = record {
  structs = [];
  const_members = [];
  defining = None;
  names =
      record { name = codes "x"; what = w.Local 0 (ty.Num Int) false }
      ∷ record { name = codes "p"; what = w.Local 1 (ty.Pointer (ty.Num Int) false) false }
      ∷ record { name = codes "c"; what = w.Local 2 (ty.Num Int) true }
      ∷ record { name = codes "a"; what = w.Local 3 (ty.Array (ty.Num Int) 3) false }
      ∷ [];
  functions = [];
  locals = [];
  result = ty.Void;
  start = 0;
  inside = false;
}

name_at : List ℕ → ℕ → Source
name_at name line = record { kind = k.Name name; line = line }

two : ℕ → Source
two line = record { kind = k.Number 2 true false; line = line }

-- `y`, which is not declared
unknown : means env (record { kind = k.Name (codes "y"); line = 7 }) ≡ broken rule.Unknown 7
unfolding env kind_step named
unknown = search (rules, the_lemmas)

-- `p * 2`
product : means env (record { kind = k.Binary (record { kind = k.Name (codes "p"); line = 3 }) op.Mul (record { kind = k.Number 2 true false; line = 3 }); line = 3 }) ≡ broken rule.WrongType 3
unfolding env kind_step named value binary pointer_integer
product = search (rules, the_lemmas, type_lemmas)

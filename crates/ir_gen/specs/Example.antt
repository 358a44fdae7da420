-- A small program: `int main(void) { return 0; }`.
use Rattle.std.specs.Prelude.{pos, [], ◌∷◌, Some, codes}
use Rattle.base16.specs.declared.integer.IntType.TheVariants.{Int}
use Rattle.core_tree.specs.declared.types.Ty.TheVariants as ty
use Rattle.core_tree.specs.declared.expressions.Expr.{Expr}
use Rattle.core_tree.specs.declared.expressions.ExprKind.TheVariants as k
use Rattle.core_tree.specs.declared.statements.Stmt.{Stmt}
use Rattle.core_tree.specs.declared.statements.StmtKind.TheVariants as sk
use Rattle.core_tree.specs.declared.program.Core.{Core}
use Rattle.core_tree.specs.declared.program.Function.{Function}

abbrev pub nought : Expr
nought = record { kind = k.Constant (pos 0); ty = ty.Num Int; node = 2; line = 1 }

abbrev pub given_back : Stmt
given_back = record { kind = sk.Return (Some nought); node = 1; line = 1 }

abbrev pub main_function : Function
main_function = record {
  name = codes "main";
  params = [];
  locals = [];
  result = ty.Num Int;
  body = given_back ∷ [];
  node = 0;
  line = 1;
}

abbrev pub small_program : Core
small_program = record { structs = []; globals = []; functions = main_function ∷ [] }

-- The sizes of arrays as the walk of expressions says them.
use Rattle.std.proofs.Common.{◌≡◌, List, refl}
use Rattle.c_tree.specs.declared.expression.Expr.{Expr as Source}
use Rattle.c_typing.specs.declared.environment.Env.{Env}
use Rattle.c_exprs.specs.Parts as parts
use Rattle.c_checking.specs.Declarators.{sizes}

pub sizes_are : (env : Env) (bounds : List Source) → sizes env bounds ≡ parts.sizes env bounds
sizes_are env bounds = refl

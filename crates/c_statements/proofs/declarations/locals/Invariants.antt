use Rattle.std.proofs.Common.{◌≡◌, drop, map}
use Rattle.c_checking.specs.Walk.{one_by_one, single}
use Rattle.c_checking.specs.Locals.{local, locals}
use Rattle.c_statements.specs.Sources.{behind}
use Rattle.c_statements.proofs.declarations.locals.Given as goal

abbrev pub invariant-loop-init : goal.invariant-loop-init
invariant-loop-init l =
    locals l.declaration l.fn.env
    ≡ behind l.found (one_by_one (map (λ i. single (local l.declaration.spec i)) (drop l.init-index l.declaration.inits)) l.env)

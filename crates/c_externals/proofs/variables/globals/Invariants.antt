use Rattle.std.proofs.Common.{◌≡◌, drop}
use Rattle.c_checking.specs.Declarators.{base_of}
use Rattle.c_checking.specs.Externals.{globals}
use Rattle.c_externals.proofs.variables.globals.Given as goal

abbrev pub invariant-loop-init : goal.invariant-loop-init
invariant-loop-init l =
    globals (λ env. base_of env l.sp) l.inits l.fn.draft ≡ globals (λ env. base_of env l.sp) (drop l.init-index l.inits) l.draft

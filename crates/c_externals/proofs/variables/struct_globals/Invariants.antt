use Rattle.std.proofs.Common.{◌≡◌, drop}
use Rattle.c_checking.specs.Externals.{globals, struct_base}
use Rattle.c_externals.proofs.variables.struct_globals.Given as goal

abbrev pub invariant-loop-init : goal.invariant-loop-init
invariant-loop-init l =
    globals (struct_base l.tag) l.inits l.fn.draft ≡ globals (struct_base l.tag) (drop l.init-index l.inits) l.draft

use Rattle.std.proofs.Common.{◌≡◌, ◌++◌, drop, map}
use Rattle.c_checking.specs.Numbering as spec
use Rattle.c_numbering.proofs.program.globals_numbered.Given as goal

abbrev pub invariant-loop-global : goal.invariant-loop-global
invariant-loop-global l =
    map (spec.global_numbered (l.functions, l.total)) l.all
    ≡ l.made ++ map (spec.global_numbered (l.functions, l.total)) (drop l.global-index l.all)

use Rattle.std.proofs.Common.{◌≡◌, ◌++◌, drop}
use Rattle.ir_build.specs.Laying.{variables_from}
use Rattle.ir_build.proofs.variables.globals_of.Given as goal

abbrev pub invariant-loop-global : goal.invariant-loop-global
invariant-loop-global l = variables_from l.core.structs 0 l.core.globals
    ≡ l.all ++ variables_from l.core.structs l.bytes (drop l.global-index l.core.globals)

use Rattle.std.proofs.Common.{◌≡◌, ◌++◌, drop, map}
use Rattle.ir_gen.specs.Form.{function_of}
use Rattle.ir_build.proofs.functions.functions_of.Given as goal

abbrev pub invariant-loop-at : goal.invariant-loop-at
invariant-loop-at l = map (function_of l.core.structs) l.core.functions
    ≡ l.all ++ map (function_of l.core.structs) (drop l.at l.core.functions)

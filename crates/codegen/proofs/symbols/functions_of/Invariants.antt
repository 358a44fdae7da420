-- what was told and what is left are all
use Rattle.std.proofs.Common.{◌≡◌, ◌++◌, drop}
use Rattle.codegen.specs.Symbols as spec
use Rattle.codegen.proofs.symbols.functions_of.Given as goal

abbrev pub invariant-loop-number : goal.invariant-loop-number
invariant-loop-number l =
    spec.symbols l.core 0 l.starts l.functions
    ≡ l.all ++ spec.symbols l.core l.number (drop l.number l.starts) (drop l.number l.functions)

use Rattle.std.proofs.Common.{◌≡◌, ◌+◌, drop}
use Rattle.core_tree.specs.Data as spec
use Rattle.codegen.proofs.data.stamps_of.Given as goal

abbrev pub invariant-loop-variable : goal.invariant-loop-variable
invariant-loop-variable l =
    spec.stamps_of l.core l.core.globals ≡ l.count + spec.stamps_of l.core (drop l.variable-index l.core.globals)

use Rattle.std.proofs.Common.{◌≡◌, map, take}
use Rattle.core_layout.specs.Laid.{layout_of}
use Rattle.core_tree.specs.Data as spec
use Rattle.codegen.proofs.data.globals_laid.Given as goal

abbrev pub invariant-loop-variable : goal.invariant-loop-variable
invariant-loop-variable l = map layout_of l.all ≡ spec.global_layouts l.core (take l.variable-index l.core.globals)

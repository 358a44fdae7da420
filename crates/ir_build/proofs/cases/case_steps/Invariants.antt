use Rattle.std.proofs.Common.{◌≡◌, ◌+◌, ◌++◌, length, drop, map}
use Rattle.ir_gen.specs.Body as spec
use Rattle.ir_build.specs.Grouping.{grouped}
use Rattle.ir_build.proofs.cases.case_steps.Given as goal

abbrev pub invariant-loop-group : goal.invariant-loop-group
invariant-loop-group l = record {
  steps : l.fn.code ++ spec.cases l.node l.of l.start (map (grouped l.structs l.objects) l.groups)
      ≡ l.code ++ spec.cases l.node l.of l.to (map (grouped l.structs l.objects) (drop l.group-index l.groups));
  size : length l.fn.code + spec.case_count (map (grouped l.structs l.objects) l.groups)
      ≡ length l.code + spec.case_count (map (grouped l.structs l.objects) (drop l.group-index l.groups));
}

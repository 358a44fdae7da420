use Rattle.std.proofs.Common.{◌≡◌, ◌+◌, ◌≤◌, drop, map}
use Rattle.core_tree.specs.Heights.{capped, most}
use Rattle.ir_gen.specs.Body as spec
use Rattle.ir_build.specs.Grouping.{grouped}
use Rattle.ir_build.proofs.stmt_sizes.case_size.Given as goal

abbrev pub invariant-loop-group : goal.invariant-loop-group
invariant-loop-group l = record {
  told : capped (spec.case_count (map (grouped l.structs l.objects) l.groups))
      ≡ capped (l.count + spec.case_count (map (grouped l.structs l.objects) (drop l.group-index l.groups)));
  small : l.count ≤ most;
}

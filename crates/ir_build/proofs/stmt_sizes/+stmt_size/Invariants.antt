use Rattle.std.proofs.Common.{◌≡◌, ◌+◌, ◌≤◌, drop, map}
use Rattle.core_tree.specs.Heights.{capped, most}
use Rattle.ir_gen.specs.Body as spec
use Rattle.ir_build.specs.Grouping.{grouped}
use Rattle.ir_build.proofs.stmt_sizes.+stmt_size.Given as goal

abbrev pub invariant-stmts_size-loop-stmt : goal.invariant-stmts_size-loop-stmt
invariant-stmts_size-loop-stmt l = record {
  told : capped (spec.stmts l.structs l.objects l.all).size
      ≡ capped (l.size + (spec.stmts l.structs l.objects (drop l.stmt-index l.all)).size);
  small : l.size ≤ most;
}

abbrev pub invariant-groups_size-loop-group : goal.invariant-groups_size-loop-group
invariant-groups_size-loop-group l = record {
  told : capped (spec.groups_body (map (grouped l.structs l.objects) l.groups)).size
      ≡ capped (l.size + (spec.groups_body (map (grouped l.structs l.objects) (drop l.group-index l.groups))).size);
  small : l.size ≤ most;
}

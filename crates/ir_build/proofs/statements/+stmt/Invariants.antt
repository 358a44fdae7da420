use Rattle.std.proofs.Common.{◌≡◌, ◌+◌, length, drop, map}
use Rattle.ir_gen.specs.Body as spec
use Rattle.ir_build.specs.Grouping.{between, grouped}
use Rattle.ir_build.proofs.statements.+stmt.Given as goal

abbrev pub invariant-stmts_steps-loop-stmt : goal.invariant-stmts_steps-loop-stmt
invariant-stmts_steps-loop-stmt l = record {
  steps : between l.fn.code (spec.stmts l.structs l.objects l.all) l.brk l.cont
      ≡ between l.code (spec.stmts l.structs l.objects (drop l.stmt-index l.all)) l.brk l.cont;
  size : length l.fn.code + (spec.stmts l.structs l.objects l.all).size
      ≡ length l.code + (spec.stmts l.structs l.objects (drop l.stmt-index l.all)).size;
}

abbrev pub invariant-groups_steps-loop-group : goal.invariant-groups_steps-loop-group
invariant-groups_steps-loop-group l = record {
  steps : between l.fn.code (spec.groups_body (map (grouped l.structs l.objects) l.groups)) l.brk l.cont
      ≡ between l.code (spec.groups_body (map (grouped l.structs l.objects) (drop l.group-index l.groups))) l.brk l.cont;
  size : length l.fn.code + (spec.groups_body (map (grouped l.structs l.objects) l.groups)).size
      ≡ length l.code + (spec.groups_body (map (grouped l.structs l.objects) (drop l.group-index l.groups))).size;
}

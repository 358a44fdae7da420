use Rattle.std.proofs.Common.{◌≡◌, ◌+◌, ◌≤◌, drop}
use Rattle.core_tree.specs.Heights.{capped, most}
use Rattle.ir_gen.specs.Body as spec
use Rattle.ir_build.proofs.stmt_sizes.inits_size.Given as goal

abbrev pub invariant-loop-one : goal.invariant-loop-one
invariant-loop-one l = record {
  told : capped (spec.init_parts l.structs l.objects l.node l.local l.init).size
      ≡ capped (l.size + (spec.init_parts l.structs l.objects l.node l.local (drop l.one-index l.init)).size);
  small : l.size ≤ most;
}

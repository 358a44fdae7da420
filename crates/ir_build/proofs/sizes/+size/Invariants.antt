use Rattle.std.proofs.Common.{◌≡◌, ◌+◌, ◌≤◌, drop, map}
use Rattle.core_tree.specs.Heights.{capped, most}
use Rattle.ir_gen.specs.Code as spec
use Rattle.ir_build.specs.Emitting.{coded}
use Rattle.ir_build.proofs.sizes.+size.Given as goal

abbrev pub invariant-args_size-loop-arg : goal.invariant-args_size-loop-arg
invariant-args_size-loop-arg l = record {
  told : capped (spec.args_code (map (coded l.structs) l.args)).size
      ≡ capped (l.size + (spec.args_code (map (coded l.structs) (drop l.arg-index l.args))).size);
  small : l.size ≤ most;
}

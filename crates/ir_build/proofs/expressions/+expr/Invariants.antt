use Rattle.std.proofs.Common.{◌≡◌, ◌+◌, length, drop, map}
use Rattle.ir_gen.specs.Code as spec
use Rattle.ir_build.specs.Emitting.{behind, coded}
use Rattle.ir_build.proofs.expressions.+expr.Given as goal

abbrev pub invariant-args_steps-loop-arg : goal.invariant-args_steps-loop-arg
invariant-args_steps-loop-arg l = record {
  steps : behind l.fn.code (spec.args_code (map (coded l.structs) l.args)) l.fn.depth
      ≡ behind l.code (spec.args_code (map (coded l.structs) (drop l.arg-index l.args))) l.at;
  size : length l.fn.code + (spec.args_code (map (coded l.structs) l.args)).size
      ≡ length l.code + (spec.args_code (map (coded l.structs) (drop l.arg-index l.args))).size;
}

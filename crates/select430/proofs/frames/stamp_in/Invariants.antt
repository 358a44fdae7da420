use Rattle.std.proofs.Common.{◌≡◌, ◌<◌, drop}
use Rattle.ir.specs.Machine as machine
use Rattle.select430.specs.Frames as spec
use Rattle.select430.proofs.frames.stamp_in.Given as goal

abbrev pub invariant-loop-global : goal.invariant-loop-global
invariant-loop-global l = record {
  value : spec.word (machine.stamp_in l.before (drop l.global-index l.globals) l.left l.offset) ≡ spec.word (machine.stamp_in 0 l.globals l.number l.offset);
  range : l.before < 65536;
}

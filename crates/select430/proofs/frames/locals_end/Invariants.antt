use Rattle.std.proofs.Common.{◌≡◌, ◌<◌, ◌^◌, drop}
use Rattle.std.specs.Prelude.{max}
use Rattle.select430.specs.Frames as spec
use Rattle.select430.proofs.frames.locals_end.Given as goal

abbrev pub invariant-loop-local : goal.invariant-loop-local
invariant-loop-local l = record {
  value : max l.end (spec.locals_end (drop l.local-index l.locals)) ≡ spec.locals_end l.locals;
  range : l.end < 2 ^ 33;
}

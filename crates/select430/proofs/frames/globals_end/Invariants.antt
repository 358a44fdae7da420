use Rattle.std.proofs.Common.{◌≡◌, ◌<◌, ◌^◌, drop}
use Rattle.std.specs.Prelude.{max}
use Rattle.select430.specs.Frames as spec
use Rattle.select430.proofs.frames.globals_end.Given as goal

abbrev pub invariant-loop-global : goal.invariant-loop-global
invariant-loop-global l = record {
  value : max l.end (spec.globals_end (drop l.global-index l.globals)) ≡ spec.globals_end l.globals;
  range : l.end < 2 ^ 33;
}

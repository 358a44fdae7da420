use Rattle.std.proofs.Common.{◌≡◌, ◌≤◌, drop}
use Rattle.std.specs.Prelude.{max}
use Rattle.select430.specs.Frames as spec
use Rattle.select430.proofs.frames.scalars_end.Given as goal

abbrev pub invariant-loop-scalar : goal.invariant-loop-scalar
invariant-loop-scalar l = record {
  value : max l.end (spec.scalars_end (drop l.scalar-index l.scalars)) ≡ spec.scalars_end l.scalars;
  range : l.end ≤ 65537;
}

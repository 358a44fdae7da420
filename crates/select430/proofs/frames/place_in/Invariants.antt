use Rattle.std.proofs.Common.{◌≡◌, ◌≤◌, ◌+◌, drop}
use Rattle.ir.specs.Machine as machine
use Rattle.select430.proofs.frames.place_in.Given as goal

abbrev pub invariant-loop-scalar : goal.invariant-loop-scalar
invariant-loop-scalar l = record {
  value : l.place + machine.place_in l.offset (drop l.scalar-index l.scalars) ≡ machine.place_in l.offset l.scalars;
  range : l.place ≤ l.scalar-index;
}

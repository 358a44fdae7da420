use Rattle.std.proofs.Common.{◌≡◌, ◌-◌, ◌≤◌, drop}
use Rattle.c_meaning.specs.Stamps as spec
use Rattle.c_stamps.proofs.stamps.timed_in.Given as goal

abbrev pub invariant-loop-at : goal.invariant-loop-at
invariant-loop-at l = (l.at ≤ l.number)
    × (spec.timed_in l._structs 0 l.variables l.number l.offset
    ≡ spec.timed_in l._structs l.before (drop l.at l.variables) (l.number - l.at) l.offset)

use Rattle.std.proofs.Common.{◌≤◌, ◌-◌, length}
use Rattle.c_values.specs.Ordered.{count_below}
use Rattle.c_values.proofs.cells.count_below.Given as goal

abbrev pub invariant-loop-low : goal.invariant-loop-low
invariant-loop-low l = record {
  from : l.low ≤ count_below l.offset l.cells;
  to : count_below l.offset l.cells ≤ l.high;
  within : l.high ≤ length l.cells;
}

abbrev pub decreases-loop-low : goal.decreases-loop-low
decreases-loop-low l = l.high - l.low

use Rattle.std.proofs.Common.{◌-◌, ◌<◌, ◌≤◌, length, get_or}
use Rattle.c_initialisers.proofs.scalars.member_at.Given as goal

abbrev pub invariant-loop-low : goal.invariant-loop-low
invariant-loop-low l =
    (l.low < l.high) × (l.high < length l.starts) × (get_or l.starts l.low 0 ≤ l.at) × (l.at < get_or l.starts l.high 0)

abbrev pub decreases-loop-low : goal.decreases-loop-low
decreases-loop-low l = l.high - l.low

use Rattle.std.proofs.Common.{◌≡◌, take}
use Rattle.world.specs.Plan.{ticks_of}
use Rattle.world.proofs.trace.sum_of_ticks.Given as goal

abbrev pub invariant-loop-cycle : goal.invariant-loop-cycle
invariant-loop-cycle l = l.total ≡ ticks_of (take l.cycle-index l.cycles)

use Rattle.std.proofs.Common.{◌≡◌, ◌++◌, drop, map}
use Rattle.core_layout.specs.Laid.{layout_of}
use Rattle.ir_build.specs.Laying.{slots_in}
use Rattle.ir_build.proofs.locals.all_slots.Given as goal

abbrev pub invariant-loop-one : goal.invariant-loop-one
invariant-loop-one l = slots_in (map layout_of l.laid) ≡ l.all ++ slots_in (map layout_of (drop l.one-index l.laid))

use Rattle.std.proofs.Common.{◌≡◌, ◌++◌, drop, map}
use Rattle.core_layout.specs.Laid.{layout_of}
use Rattle.ir_build.specs.Laying.{placed_from}
use Rattle.ir_build.proofs.locals.locals_of.Given as goal

abbrev pub invariant-loop-one : goal.invariant-loop-one
invariant-loop-one l = placed_from 0 (map layout_of l.laid)
    ≡ l.all ++ placed_from l.bytes (map layout_of (drop l.one-index l.laid))

use Rattle.std.proofs.Common.{◌≡◌, drop}
use Rattle.base16.specs.Placement.{placed_from}
use Rattle.base16.specs.Placement as spec
use Rattle.base16.proofs.Placing.{placed_behind}
use Rattle.base16.proofs.placement.place.Given as goal

abbrev pub invariant-loop-bytes : goal.invariant-loop-bytes
invariant-loop-bytes l = spec.place l.fn.frames ≡ placed_behind l.placed (placed_from l.sp (drop l.bytes-index l.fn.frames))

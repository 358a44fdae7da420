use Rattle.std.proofs.Common.{◌≡◌, drop, map}
use Rattle.ir_gen.specs.Body as spec
use Rattle.c_meaning.specs.Statements.{has_default}
use Rattle.ir_build.specs.Grouping.{grouped}
use Rattle.ir_build.proofs.cases.default_place.Given as goal

abbrev pub invariant-loop-group : goal.invariant-loop-group
invariant-loop-group l = spec.place_of has_default l.start (map (grouped l.structs l.objects) l.groups)
    ≡ spec.place_of has_default l.place (map (grouped l.structs l.objects) (drop l.group-index l.groups))

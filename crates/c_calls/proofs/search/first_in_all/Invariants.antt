use Rattle.std.proofs.Common.{◌≡◌, drop, map}
use Rattle.c_checking.specs.Calls as spec
use Rattle.c_calls.proofs.search.first_in_all.Given as goal

abbrev pub invariant-loop-part : goal.invariant-loop-part
invariant-loop-part g l =
    spec.first_of (map (g.T.Searched.found l.names) l.all) ≡ spec.first_of (map (g.T.Searched.found l.names) (drop l.part-index l.all))

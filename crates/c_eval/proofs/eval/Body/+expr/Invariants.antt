use Rattle.std.proofs.Common.{◌≡◌, drop, map}
use Rattle.c_meaning.specs.After.{calls}
use Rattle.c_meaning.specs.Meaning as spec
use Rattle.c_eval.proofs.eval.Body.+expr.Given as goal

abbrev pub invariant-args-loop-arg : goal.invariant-args-loop-arg
invariant-args-loop-arg g l =
    let core = l.self.core.now in
    let C = calls core l.self.readings.now l.self.depth in
    spec.each core.structs l.self.readings.now C l.self.first l.args l.fn.run
    ≡ spec.each_from l.values (map (spec.meant core.structs l.self.readings.now C l.self.first) (drop l.arg-index l.args)) l.run

use Rattle.std.proofs.Common.{◌≡◌, drop}
use Rattle.c_meaning.specs.After as whole
use Rattle.c_meaning.specs.Statements as spec
use Rattle.c_exec.proofs.parts.initialise.Given as goal

abbrev pub invariant-loop-init : goal.invariant-loop-init
invariant-loop-init g l =
    let core = l.body.core.now in
    let calls = whole.calls core l.body.readings.now l.body.depth in
    spec.initialised core l.body.readings.now calls l.body.first l.node l.object l.inits l.fn.run
    ≡ spec.initialised core l.body.readings.now calls l.body.first l.node l.object (drop l.init-index l.inits) l.run

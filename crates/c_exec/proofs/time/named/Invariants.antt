use Rattle.std.proofs.Common.{◌≡◌, drop}
use Rattle.c_meaning.specs.After as whole
use Rattle.c_meaning.specs.Statements as spec
use Rattle.c_exec.proofs.Blocks.{behind}
use Rattle.c_exec.proofs.time.named.Given as goal

abbrev pub invariant-loop-name : goal.invariant-loop-name
invariant-loop-name g l =
    let core = l.body.core.now in
    let calls = whole.calls core l.body.readings.now l.body.depth in
    spec.named core l.body.readings.now calls l.body.first l.names l.fn.run
    ≡ behind l.all (spec.named core l.body.readings.now calls l.body.first (drop l.name-index l.names) l.run)

use Rattle.std.proofs.Common.{◌≡◌, ◌-◌, drop}
use Rattle.c_run.specs.Runs as runs
use Rattle.c_meaning.specs.After as whole
use Rattle.c_meaning.specs.Statements as spec
use Rattle.c_exec.specs.Switching as switching
use Rattle.c_exec.proofs.exec.+stmt.Given as goal

abbrev pub invariant-stmts-loop-next : goal.invariant-stmts-loop-next
invariant-stmts-loop-next g l =
    let core = l.body.core.now in
    let calls = whole.calls core l.body.readings.now l.body.depth in
    spec.stmts core l.body.readings.now calls l.body.first l.all l.text l.fn.run
    ≡ spec.stmts core l.body.readings.now calls l.body.first (drop l.next-index l.all) l.text l.run

abbrev pub invariant-groups-loop-next : goal.invariant-groups-loop-next
invariant-groups-loop-next g l =
    let core = l.body.core.now in
    let calls = whole.calls core l.body.readings.now l.body.depth in
    switching.groups core l.body.readings.now calls l.body.first (drop l.fn.first l.all) l.text l.fn.run
    ≡ switching.groups core l.body.readings.now calls l.body.first (drop l.next l.all) l.text l.run

abbrev pub invariant-while_loop-loop-turn : goal.invariant-while_loop-loop-turn
invariant-while_loop-loop-turn g l =
    let core = l.body.core.now in
    let calls = whole.calls core l.body.readings.now l.body.depth in
    let test = spec.run_test core l.body.readings.now calls l.body.first l.node l.test in
    let inner = spec.stmt core l.body.readings.now calls l.body.first l.inner l.text in
    spec.loop l.body.readings.now l.text test inner (runs.pure tt) l.fn.run
    ≡ spec.turns l.body.readings.now l.text test inner (runs.pure tt) (l._turn-end - l._turn) l.run

abbrev pub invariant-for_loop-loop-turn : goal.invariant-for_loop-loop-turn
invariant-for_loop-loop-turn g l =
    let core = l.body.core.now in
    let calls = whole.calls core l.body.readings.now l.body.depth in
    let test = spec.loop_test core l.body.readings.now calls l.body.first l.node l.test in
    let inner = spec.stmt core l.body.readings.now calls l.body.first l.inner l.text in
    let step = spec.loop_step core l.body.readings.now calls l.body.first l.step in
    spec.loop l.body.readings.now l.text test inner step l.fn.run
    ≡ spec.turns l.body.readings.now l.text test inner step (l._turn-end - l._turn) l.run

use Rattle.std.proofs.Common.{◌≡◌, drop}
use Rattle.c_run.specs.Actions.{some_expired}
use Rattle.c_run.proofs.timed.some_expired.Given as goal

abbrev pub invariant-loop-name : goal.invariant-loop-name
invariant-loop-name l = some_expired l.now l.names l.stamps ≡ some_expired l.now (drop l.name-index l.names) l.stamps

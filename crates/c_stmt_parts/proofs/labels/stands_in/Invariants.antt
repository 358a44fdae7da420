use Rattle.std.proofs.Common.{◌≡◌, drop}
use Rattle.c_checking.specs.Statements.{stands_in}
use Rattle.c_stmt_parts.proofs.labels.stands_in.Given as goal

abbrev pub invariant-loop-other : goal.invariant-loop-other
invariant-loop-other l = stands_in l.labels l.label ≡ stands_in (drop l.other-index l.labels) l.label

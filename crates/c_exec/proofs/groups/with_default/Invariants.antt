use Rattle.std.proofs.Common.{◌≡◌, drop}
use Rattle.c_meaning.specs.Statements.{has_default}
use Rattle.c_exec.specs.Groups.{groups_from}
use Rattle.c_exec.proofs.groups.with_default.Given as goal

abbrev pub invariant-loop-at : goal.invariant-loop-at
invariant-loop-at l = groups_from has_default l.groups ≡ groups_from has_default (drop l.at l.groups)

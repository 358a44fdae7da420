use Rattle.std.proofs.Common.{◌≡◌, drop}
use Rattle.c_meaning.specs.Statements.{has_case}
use Rattle.c_exec.specs.Groups.{groups_from}
use Rattle.c_exec.proofs.groups.with_case.Given as goal

abbrev pub invariant-loop-at : goal.invariant-loop-at
invariant-loop-at l = groups_from (has_case l.value) l.groups ≡ groups_from (has_case l.value) (drop l.at l.groups)

use Rattle.std.proofs.Common.{◌≡◌, drop}
use Rattle.c_meaning.specs.Statements.{has_case}
use Rattle.c_exec.proofs.groups.has_case.Given as goal

abbrev pub invariant-loop-label : goal.invariant-loop-label
invariant-loop-label l = has_case l.value l.labels ≡ has_case l.value (drop l.label-index l.labels)

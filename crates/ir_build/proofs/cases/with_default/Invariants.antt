use Rattle.std.proofs.Common.{◌≡◌, drop}
use Rattle.c_meaning.specs.Statements.{has_default}
use Rattle.ir_build.proofs.cases.with_default.Given as goal

abbrev pub invariant-loop-label : goal.invariant-loop-label
invariant-loop-label l = has_default l.labels ≡ has_default (drop l.label-index l.labels)

use Rattle.std.proofs.Common.{◌≡◌, drop}
use Rattle.c_exprs.specs.Parts.{means_all, judged_all}
use Rattle.c_exprs.proofs.Turns.{behind}
use Rattle.c_exprs.proofs.expressions.+means.Given as goal

abbrev pub invariant-arguments-loop-argument : goal.invariant-arguments-loop-argument
invariant-arguments-loop-argument l =
    means_all l.env l.all ≡ behind l.found (means_all l.env (drop l.argument-index l.all))

abbrev pub invariant-bounds-loop-bound : goal.invariant-bounds-loop-bound
invariant-bounds-loop-bound l =
    judged_all l.env l.all ≡ behind l.found (judged_all l.env (drop l.bound-index l.all))

use Rattle.std.proofs.Common.{◌≡◌, drop}
use Rattle.c_types.specs.Walked.{steps}
use Rattle.c_types.proofs.walk.walk.Given as goal

abbrev pub invariant-loop-external : goal.invariant-loop-external
invariant-loop-external l =
    steps l.names l.externals l.fn.draft ≡ steps l.names (drop l.external-index l.externals) l.draft

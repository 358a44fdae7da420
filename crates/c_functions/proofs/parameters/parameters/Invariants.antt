use Rattle.std.proofs.Common.{◌≡◌, drop}
use Rattle.c_statements.specs.Sources.{behind}
use Rattle.c_functions.specs.Heads.{walked}
use Rattle.c_functions.proofs.parameters.parameters.Given as goal

abbrev pub invariant-loop-source : goal.invariant-loop-source
invariant-loop-source l =
    walked l.fn.env l.line l.all ≡ behind l.found (walked l.env l.line (drop l.source-index l.all))

use Rattle.std.proofs.Common.{◌≡◌, ◌-◌}
use Rattle.c_parse_stmt.specs.Repeats.{commas, all_commas}
use Rattle.c_parse.specs.ExternalReading.{declr}
use Rattle.c_parse.proofs.externals.declrs.Given as goal

abbrev pub invariant-loop-turn : goal.invariant-loop-turn
invariant-loop-turn l = all_commas (declr l.depth) l.fn.tokens ≡ commas (declr l.depth) (l._turn-end - l._turn) l.found l.tokens

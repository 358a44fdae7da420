use Rattle.std.proofs.Common.{◌≡◌, ◌-◌}
use Rattle.c_parse_stmt.specs.Repeats.{commas, all_commas}
use Rattle.c_parse_stmt.specs.StatementReading.{tname}
use Rattle.c_parse_stmt.proofs.statement_parts.tnames.Given as goal

abbrev pub invariant-loop-turn : goal.invariant-loop-turn
invariant-loop-turn l = all_commas (tname l.depth) l.fn.tokens ≡ commas (tname l.depth) (l._turn-end - l._turn) l.found l.tokens

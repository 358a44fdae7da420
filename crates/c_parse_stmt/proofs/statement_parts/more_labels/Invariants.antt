use Rattle.std.proofs.Common.{◌≡◌, ◌-◌}
use Rattle.c_parse_stmt.specs.Repeats.{many, all_many}
use Rattle.c_parse_stmt.specs.StatementReading.{a_label, label_next}
use Rattle.c_parse_stmt.proofs.statement_parts.more_labels.Given as goal

abbrev pub invariant-loop-turn : goal.invariant-loop-turn
invariant-loop-turn l = all_many (a_label l.depth) label_next l.fn.tokens ≡ many (a_label l.depth) label_next (l._turn-end - l._turn) l.found l.tokens

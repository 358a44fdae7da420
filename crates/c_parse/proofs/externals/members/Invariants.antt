use Rattle.std.proofs.Common.{◌≡◌, ◌-◌}
use Rattle.c_parse_stmt.specs.Repeats.{many, all_many}
use Rattle.c_parse_stmt.specs.StatementReading.{unclosed}
use Rattle.c_parse.specs.ExternalReading.{member}
use Rattle.c_parse.proofs.externals.members.Given as goal

abbrev pub invariant-loop-turn : goal.invariant-loop-turn
invariant-loop-turn l = all_many (member l.depth) unclosed l.fn.tokens
    ≡ many (member l.depth) unclosed (l._turn-end - l._turn) l.found l.tokens

use Rattle.std.proofs.Common.{◌≡◌, ◌-◌}
use Rattle.c_parse_stmt.specs.Repeats.{many, all_many}
use Rattle.c_parse.specs.ExternalReading.{an_external, some_left}
use Rattle.c_parse.proofs.externals.externals.Given as goal

abbrev pub invariant-loop-turn : goal.invariant-loop-turn
invariant-loop-turn l = all_many (an_external l.depth) some_left l.fn.tokens
    ≡ many (an_external l.depth) some_left (l._turn-end - l._turn) l.found l.tokens

use Rattle.std.proofs.Common.{◌≡◌, ◌-◌, true}
use Rattle.c_parse_stmt.specs.Repeats.{many, all_many}
use Rattle.c_parse_stmt.specs.StatementReading.{statement, runs_on}
use Rattle.c_parse_stmt.proofs.compounds.Statements.run.Given as goal

abbrev pub invariant-loop-turn : goal.invariant-loop-turn
invariant-loop-turn g l = all_many (statement l.self.depth true l.continues) runs_on l.fn.tokens
    ≡ many (statement l.self.depth true l.continues) runs_on (l._turn-end - l._turn) l.found l.tokens

use Rattle.std.proofs.Common.{◌≡◌, ◌-◌}
use Rattle.c_parse_stmt.specs.Repeats.{many, all_many}
use Rattle.c_parse_stmt.specs.StatementReading.{statement, an_item, unclosed}
use Rattle.c_parse_stmt.proofs.compounds.Statements.items.Given as goal

abbrev pub invariant-loop-turn : goal.invariant-loop-turn
invariant-loop-turn g l = all_many (an_item l.self.depth (statement l.self.depth) l.breaks l.continues) unclosed l.fn.tokens
    ≡ many (an_item l.self.depth (statement l.self.depth) l.breaks l.continues) unclosed (l._turn-end - l._turn) l.found l.tokens

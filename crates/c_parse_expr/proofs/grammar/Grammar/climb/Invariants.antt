use Rattle.std.proofs.Common.{◌≡◌, ◌-◌, ◌+◌}
use Rattle.c_parse_expr.specs.Reading.{expr, climb}
use Rattle.c_parse_expr.proofs.grammar.Grammar.climb.Given as goal

abbrev pub invariant-loop-turn : goal.invariant-loop-turn
invariant-loop-turn g l = climb (expr l.self.depth) (l.self.depth + 1) l.least l.line (l.self.depth + 1) l.fn.left l.fn.tokens
    ≡ climb (expr l.self.depth) (l.self.depth + 1) l.least l.line (l._turn-end - l._turn) l.left l.tokens

use Rattle.std.proofs.Common.{◌≡◌, ◌-◌}
use Rattle.c_parse_expr.specs.Reading.{expr, bounds, all_bounds}
use Rattle.c_parse_expr.proofs.grammar.Grammar.bounds.Given as goal

abbrev pub invariant-loop-turn : goal.invariant-loop-turn
invariant-loop-turn g l = all_bounds (expr l.self.depth) l.fn.tokens ≡ bounds (expr l.self.depth) (l._turn-end - l._turn) l.found l.tokens

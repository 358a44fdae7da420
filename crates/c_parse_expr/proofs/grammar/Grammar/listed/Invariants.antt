use Rattle.std.proofs.Common.{◌≡◌, ◌-◌}
use Rattle.c_parse_expr.specs.Reading.{expr, listed, all_listed}
use Rattle.c_parse_expr.proofs.grammar.Grammar.listed.Given as goal

abbrev pub invariant-loop-turn : goal.invariant-loop-turn
invariant-loop-turn g l = all_listed (expr l.self.depth) l.fn.tokens ≡ listed (expr l.self.depth) (l._turn-end - l._turn) l.found l.tokens

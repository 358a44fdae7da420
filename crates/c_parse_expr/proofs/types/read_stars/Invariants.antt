use Rattle.std.proofs.Common.{◌≡◌, ◌-◌}
use Rattle.c_parse_expr.specs.TypeReading.{stars, all_stars}
use Rattle.c_parse_expr.proofs.types.read_stars.Given as goal

abbrev pub invariant-loop-turn : goal.invariant-loop-turn
invariant-loop-turn l = all_stars l.fn.tokens ≡ stars (l._turn-end - l._turn) l.found l.tokens

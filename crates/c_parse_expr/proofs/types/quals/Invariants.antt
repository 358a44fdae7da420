use Rattle.std.proofs.Common.{◌≡◌, ◌≤◌, ◌-◌, [], length}
use Rattle.c_parse_expr.specs.TypeReading.{quals}
use Rattle.c_parse_expr.proofs.types.quals.Given as goal

abbrev pub invariant-loop-turn : goal.invariant-loop-turn
invariant-loop-turn l = record {
  same : quals [] l.fn.tokens ≡ quals l.found l.tokens;
  left : length l.tokens ≤ l._turn-end - l._turn;
}

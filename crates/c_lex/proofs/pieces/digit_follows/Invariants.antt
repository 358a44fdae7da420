use Rattle.std.proofs.Common.{◌≡◌, drop}
use Rattle.c_lex.specs.Pieces.{digit_follows}
use Rattle.c_lex.proofs.pieces.digit_follows.Given as goal

abbrev pub invariant-loop-b : goal.invariant-loop-b
invariant-loop-b l = digit_follows l.text ≡ digit_follows (drop l.b-index l.text)

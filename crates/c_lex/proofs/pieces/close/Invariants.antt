use Rattle.std.proofs.Common.{◌≡◌, drop}
use Rattle.c_lex.specs.Pieces.{close}
use Rattle.c_lex.proofs.Closing.{shifted}
use Rattle.c_lex.proofs.pieces.close.Given as goal

abbrev pub invariant-loop-i : goal.invariant-loop-i
invariant-loop-i l = close 0 l.text ≡ shifted l.i (close l.last (drop l.i l.text))

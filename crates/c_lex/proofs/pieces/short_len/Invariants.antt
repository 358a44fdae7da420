use Rattle.std.proofs.Common.{◌≡◌, ◌≤◌, length}
use Rattle.c_lex.specs.Measures.{is_short, greatest, short_len}
use Rattle.c_lex.proofs.pieces.short_len.Given as goal

abbrev pub invariant-loop-n : goal.invariant-loop-n
invariant-loop-n l = record {
  same : short_len l.text ≡ greatest is_short l.n l.text;
  within : l.n ≤ length l.text;
}

abbrev pub decreases-loop-n : goal.decreases-loop-n
decreases-loop-n l = l.n

use Rattle.std.proofs.Common.{◌≡◌, ◌+◌, drop}
use Rattle.c_lex.specs.Bytes.{in_line}
use Rattle.c_lex.specs.Measures.{span}
use Rattle.c_lex.proofs.bytes.line_len.Given as goal

abbrev pub invariant-loop-i : goal.invariant-loop-i
invariant-loop-i l = span in_line l.text ≡ l.i + span in_line (drop l.i l.text)

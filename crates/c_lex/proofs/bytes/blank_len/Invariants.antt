use Rattle.std.proofs.Common.{◌≡◌, ◌+◌, drop}
use Rattle.c_lex.specs.Bytes.{is_blank}
use Rattle.c_lex.specs.Measures.{span}
use Rattle.c_lex.proofs.bytes.blank_len.Given as goal

abbrev pub invariant-loop-i : goal.invariant-loop-i
invariant-loop-i l = span is_blank l.text ≡ l.i + span is_blank (drop l.i l.text)

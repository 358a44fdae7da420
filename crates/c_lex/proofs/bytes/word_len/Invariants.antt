use Rattle.std.proofs.Common.{◌≡◌, ◌+◌, drop}
use Rattle.c_lex.specs.Bytes.{continues}
use Rattle.c_lex.specs.Measures.{span}
use Rattle.c_lex.proofs.bytes.word_len.Given as goal

abbrev pub invariant-loop-i : goal.invariant-loop-i
invariant-loop-i l = span continues l.text ≡ l.i + span continues (drop l.i l.text)

use Rattle.std.proofs.Common.{◌≡◌, take}
use Rattle.c_lex.specs.Tokens.{blank_after}
use Rattle.c_lex.proofs.lexer.blank_after.Given as goal

abbrev pub invariant-loop-b : goal.invariant-loop-b
invariant-loop-b l = l.blank ≡ blank_after l.before (take l.b-index l.text)

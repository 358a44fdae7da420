use Rattle.std.proofs.Common.{◌≡◌, take, min}
use Rattle.c_lex.specs.Bytes.{value}
use Rattle.c_lex.proofs.bytes.value_of.Given as goal

abbrev pub invariant-loop-b : goal.invariant-loop-b
invariant-loop-b l = l.value ≡ min (value l.base (take l.b-index l.digits)) 65536

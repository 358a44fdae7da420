use Rattle.std.proofs.Common.{◌≡◌, ◌++◌, ◌*◌, drop}
use Rattle.codegen.specs.Bytes as spec
use Rattle.codegen.proofs.words.paired.Given as goal

abbrev pub invariant-loop-at : goal.invariant-loop-at
invariant-loop-at l = spec.paired l.bytes ≡ l.words ++ spec.paired (drop (2 * l.at) l.bytes)

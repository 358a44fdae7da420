use Rattle.std.proofs.Common.{◌≡◌, ◌≤◌, length, drop}
use Rattle.base16.specs.Board.{data_start}
use Rattle.codegen.specs.Bytes as spec
use Rattle.codegen.proofs.words.bytes_of.Given as goal

abbrev pub invariant-loop-at : goal.invariant-loop-at
invariant-loop-at l = record {
  within : l.at ≤ length l.all;
  same : l.bytes.items ≡ spec.bytes_from (drop l.at l.all) data_start l.count;
}

abbrev pub decreases-loop-at : goal.decreases-loop-at
decreases-loop-at l = l.at

use Rattle.std.proofs.Common.{◌≡◌, ℕ, ◌+◌, ◌<◌, length, slice_index}
use Rattle.base16.specs.Memory.{words_of}
use Rattle.board_map.specs.Map.{current}
use Rattle.boot.proofs.booting.registers.Given as goal

abbrev pub invariant-loop-index : goal.invariant-loop-index
invariant-loop-index l = record {
  size : length l.r ≡ 16;
  filled : (k : ℕ) → k < l.index → slice_index l.r k ≡ current (words_of l.fram.words) (128 + k);
}

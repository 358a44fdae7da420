use Rattle.std.proofs.Common.{◌≡◌, ◌*◌, ◌<◌, ℕ, length}
use Rattle.base16.specs.Memory.{words_of}
use Rattle.image.proofs.loading.clear.Given as goal

abbrev pub invariant-loop-index : goal.invariant-loop-index
invariant-loop-index l = record {
  zero : (a : ℕ) → a < 2 * l.index → words_of l.fram.words a ≡ 0;
  size : 0 < l.index → length l.fram.words ≡ 32768;
}

use Rattle.std.proofs.Common.{◌≡◌, ℕ, ◌<◌, Some, slice_get, take}
use Rattle.base16.specs.Board.{data_end}
use Rattle.display.specs.Sets.{value_number, stamp_number}
use Rattle.display.proofs.index.ScalarIndex.new.Given as goal

abbrev pub invariant-loop-n : goal.invariant-loop-n
invariant-loop-n l = record {
  values : (a : ℕ) → a < data_end → slice_get l.values.items a ≡ Some (value_number (take l.n l.scalars) a);
  stamps : (a : ℕ) → a < data_end → slice_get l.stamps.items a ≡ Some (stamp_number (take l.n l.scalars) a);
}

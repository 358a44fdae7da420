use Rattle.std.proofs.Common.{◌≡◌, ℕ, ◌-◌, ◌<◌, Some, None, length, slice_get, vec_len}
use Rattle.display.proofs.index.blank.Given as goal

abbrev pub invariant-fill : goal.invariant-fill
invariant-fill l = (a : ℕ) → a < length l.places.items → slice_get l.places.items a ≡ Some None

abbrev pub decreases-fill : goal.decreases-fill
decreases-fill l = 32768 - vec_len l.places

-- the fields so far and those of the rest are all fields
use Rattle.std.proofs.Common.{◌≡◌, ◌++◌, map, length}
use Rattle.world.specs.Text.{fields}
use Rattle.world.proofs.text.fields_of.Given as goal

abbrev pub invariant-loop-field : goal.invariant-loop-field
invariant-loop-field l = map (λ field. field.now) l.found.items ++ fields l.rest ≡ fields l.fn.line

abbrev pub decreases-loop-field : goal.decreases-loop-field
decreases-loop-field l = length l.rest

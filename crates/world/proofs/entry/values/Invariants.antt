-- the values so far and those of the rest are all values
use Rattle.std.proofs.Common.{◌≡◌, ◌++◌, map, drop, option_map}
use Rattle.world.specs.TraceFile.{values_of}
use Rattle.world.proofs.entry.values.Given as goal

abbrev pub invariant-loop-field : goal.invariant-loop-field
invariant-loop-field l = option_map (λ vs. l.values ++ vs) (values_of (map (λ f. f.now) (drop l.field-index l.args))) ≡ values_of (map (λ f. f.now) l.args)

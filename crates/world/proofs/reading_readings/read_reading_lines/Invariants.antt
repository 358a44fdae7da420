-- what the rest of the lines says after those read is what all lines say
use Rattle.std.proofs.Common.{◌≡◌, ◌+◌, map, drop}
use Rattle.world.specs.ReadingsFile.{readings_from, no_reading, IsKept}
use Rattle.world.proofs.reading_readings.read_reading_lines.Given as goal

abbrev pub invariant-loop-i : goal.invariant-loop-i
invariant-loop-i l = record {
  rest : readings_from (l.i + 1) l.draft (map (λ x. x.now) (drop l.i l.lines)) ≡ readings_from 1 no_reading (map (λ x. x.now) l.lines);
  kept : IsKept l.draft;
}

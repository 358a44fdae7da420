-- what the rest of the lines says after those read is what all lines say
use Rattle.std.proofs.Common.{◌≡◌, ◌+◌, map, drop}
use Rattle.world.specs.TraceFile.{read_from, no_line, HasRanges}
use Rattle.world.proofs.reading_trace.read_lines.Given as goal

abbrev pub invariant-loop-i : goal.invariant-loop-i
invariant-loop-i l = record {
  rest : read_from (l.i + 1) l.draft (map (λ x. x.now) (drop l.i l.lines)) ≡ read_from 1 no_line (map (λ x. x.now) l.lines);
  ranged : HasRanges l.draft;
}

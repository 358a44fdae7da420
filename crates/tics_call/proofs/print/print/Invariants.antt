-- the lines so far were put
use Rattle.std.proofs.Common.{◌≤◌, take}
use Rattle.std.specs.List.{concat}
use Rattle.edge.specs.Told.{Appends}
use Rattle.tics_call.proofs.print.print.Given as goal

abbrev pub invariant-loop-line : goal.invariant-loop-line
invariant-loop-line g l = record {
  put : Appends (g.K.Sink.bytes l.fn.out) (g.K.Sink.bytes l.out) (concat (take l.line-index l.lines));
  rises : g.K.Sink.faults l.fn.out ≤ g.K.Sink.faults l.out;
}

-- one line for each difference so far
use Rattle.std.proofs.Common.{◌≡◌, ◌++◌, take}
use Rattle.std.specs.Prelude.{map}
use Rattle.report.specs.Report.{shown_line}
use Rattle.report.proofs.lines.push_shown.Given as goal

abbrev pub invariant-loop-shown : goal.invariant-loop-shown
invariant-loop-shown l = l.lines.items ≡ l.fn.lines.items ++ map (shown_line l.scalars) (take l.shown-index l.sets)

-- the lines so far and those of the records that are left are those of all
use Rattle.std.proofs.Common.{◌≡◌, ◌++◌, drop}
use Rattle.report.specs.Report.{report_lines}
use Rattle.report.proofs.lines.report_lines.Given as goal

abbrev pub invariant-loop-entry : goal.invariant-loop-entry
invariant-loop-entry l = l.lines.items ++ report_lines l.scalars (drop l.entry-index l.records) ≡ report_lines l.scalars l.records

-- The report of the history, with the program's symbols.
use Rattle.std.proofs.Common.{◌∙◌, ap, List}
use Rattle.std.specs.List.{concat}
use Rattle.base16.specs.declared.image.Scalar.{Scalar}
use Rattle.base16.specs.declared.image.Symbols.{Symbols}
use Rattle.world.specs.declared.history.Record.{Record}
use Rattle.report.specs.Report.{report_lines}
use Rattle.tics_call.specs.Run.{symbols_of}
use Rattle.tics_call.proofs.top.run_and_report.Goals as goal

pub returns-clause-lines : goal.returns-clause-lines
returns-clause-lines c =
    ap concat (c.in_ok-lines.ensures
    ∙ (ap (λ (s : List Scalar). report_lines s c.as_slice-2.result.now) (c.as_slice.ensures
    ∙ ap (λ (s : Symbols). s.scalars) c.in_ok-symbols.ensures)
    ∙ ap (λ (r : List Record). report_lines (symbols_of c.args.program.now).scalars r) (c.as_slice-2.ensures
    ∙ c.in_ok-play.ensures.ok)))

use Rattle.std.proofs.Common.{◌≡◌, ◌++◌, drop}
use Rattle.c_checking.specs.Statements.{labels_of}
use Rattle.c_stmt_parts.specs.Sources.{behind_labels}
use Rattle.c_stmt_parts.proofs.labels.labels_of.Given as goal

abbrev pub invariant-loop-label : goal.invariant-loop-label
invariant-loop-label l =
    labels_of l.env l.line l.at_type l.before l.labels
    ≡ behind_labels l.found (labels_of l.env l.line l.at_type (l.before ++ l.found) (drop l.label-index l.labels))

use Rattle.select430.proofs.Differing.{labels_differ, inner_labels_differ}
use Rattle.select430.proofs.laws.labels_differ.Goals as goal

pub returns-clause-things : goal.returns-clause-things
returns-clause-things c = labels_differ

pub returns-clause-inside : goal.returns-clause-inside
returns-clause-inside c = inner_labels_differ

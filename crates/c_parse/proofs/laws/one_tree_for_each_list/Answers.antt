use Rattle.c_parse.proofs.ExternalComplete.{one_tree, source_again}
use Rattle.c_parse.proofs.TreeLaws.{source_is}
use Rattle.c_parse.proofs.laws.one_tree_for_each_list.Goals as goal

pub returns-clause-one : goal.returns-clause-one
returns-clause-one c x y ts a b = one_tree x y ts a b

pub returns-clause-read : goal.returns-clause-read
returns-clause-read c d x ts s h = source_again d x ts s h

pub returns-clause-spelled : goal.returns-clause-spelled
returns-clause-spelled c d x ts is = (source_is d x ts is).spells

pub returns-clause-low : goal.returns-clause-low
returns-clause-low c d x ts is = (source_is d x ts is).low

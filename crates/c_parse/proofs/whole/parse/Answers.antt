use Rattle.c_parse.proofs.ParsedTree.{spelled, low, only}
use Rattle.c_parse.proofs.whole.parse.Goals as goal

pub returns-clause-spelled : goal.returns-clause-spelled
returns-clause-spelled c = spelled c.args.tokens.now c.whole_source.result c.whole_source.ensures

pub returns-clause-low : goal.returns-clause-low
returns-clause-low c = low c.args.tokens.now c.whole_source.result c.whole_source.ensures

pub returns-clause-only : goal.returns-clause-only
returns-clause-only c = only c.args.tokens.now c.whole_source.result c.whole_source.ensures

use Rattle.segstack.proofs.Stack.{first, next, more}
use Rattle.segstack.proofs.laws.frames_are_placed_one_by_one.Goals as goal

pub returns-clause-first : goal.returns-clause-first
returns-clause-first c = first

pub returns-clause-next : goal.returns-clause-next
returns-clause-next c = next

pub returns-clause-more : goal.returns-clause-more
returns-clause-more c = more

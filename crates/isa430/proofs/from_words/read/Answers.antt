-- Each branch is one of the three formats.
use Rattle.std.proofs.Common.{◌∙◌, sym}
use Rattle.isa430.proofs.Formats.{one_is, one_none, jump_is, two_is, two_none}
use Rattle.isa430.proofs.from_words.read.Goals as goal

pub returns-then-is_one-clause-value : goal.returns-then-is_one-clause-value
returns-then-is_one-clause-value c = one_is _ _ _ _ c.if-first-lt8192.true (sym c.is_one.ensures ∙ c.if-is_one.true) c.read_one.ensures.value

pub returns-else-is_one-clause-value : goal.returns-else-is_one-clause-value
returns-else-is_one-clause-value c = one_none _ _ _ c.if-first-lt8192.true (sym c.is_one.ensures ∙ c.if-is_one.false)

pub returns-then-first-lt16384-clause-value : goal.returns-then-first-lt16384-clause-value
returns-then-first-lt16384-clause-value c = jump_is _ _ _ _ c.if-first-lt8192.false c.if-first-lt16384.true c.read_jump.ensures

pub returns-then-is_two-clause-value : goal.returns-then-is_two-clause-value
returns-then-is_two-clause-value c = two_is _ _ _ _ c.if-first-lt16384.false (sym c.is_two.ensures ∙ c.if-is_two.true) c.read_two.ensures.value

pub returns-else-is_two-clause-value : goal.returns-else-is_two-clause-value
returns-else-is_two-clause-value c = two_none _ _ _ c.if-first-lt16384.false (sym c.is_two.ensures ∙ c.if-is_two.false)

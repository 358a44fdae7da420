-- the entries of the words so far, which go on with whatever entries the words that are left are
use Rattle.std.proofs.Common.{◌-◌, length}
use Rattle.asm430.specs.Printing.{Begun}
use Rattle.asm430.proofs.printed.push_code.Given as goal

abbrev pub invariant-loop-at : goal.invariant-loop-at
invariant-loop-at l = Begun l.code l.fn.text.items l.text.items l.at

abbrev pub decreases-loop-at : goal.decreases-loop-at
decreases-loop-at l = length l.code - l.at

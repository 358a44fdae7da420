-- the words so far are added
use Rattle.std.proofs.Common.{take, map}
use Rattle.asm430.specs.declared.item.Item.TheVariants.{Word}
use Rattle.codegen.specs.Placing.{Adds}
use Rattle.codegen.proofs.adding.add_words.Given as goal

abbrev pub invariant-loop-word : goal.invariant-loop-word
invariant-loop-word l = Adds l.initial.made l.made (map Word (take l.word-index l.words))

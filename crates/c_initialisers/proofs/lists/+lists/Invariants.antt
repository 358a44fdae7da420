use Rattle.std.proofs.Common.{◌≡◌, drop}
use Rattle.c_initialisers.specs.Lists.{all_given, all_leaves, ahead, behind, each}
use Rattle.c_initialisers.proofs.lists.+lists.Given as goal

abbrev pub invariant-each-loop-initial : goal.invariant-each-loop-initial
invariant-each-loop-initial l =
    behind (all_given l.fn.into) l.fn.at.fits (each l.object l.items (ahead (all_leaves l.object) l.fn.at))
    ≡ behind (all_given l.into) l.cursor.fits (each l.object (drop l.initial-index l.items) (ahead (all_leaves l.object) l.cursor))

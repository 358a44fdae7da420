use Rattle.std.proofs.Common.{◌≡◌}
use Rattle.base16.specs.Memory.{words_of}
use Rattle.ideal430.specs.Shown.{filled}
use Rattle.image.proofs.loading.fill.Given as goal

abbrev pub invariant-loop-i : goal.invariant-loop-i
invariant-loop-i l = words_of l.fram.words ≡ filled l.start l.words l.i (words_of l.fn.fram.words)

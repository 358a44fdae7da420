use Rattle.std.proofs.Common.{◌<◌, ◌≤◌}
use Rattle.base16.specs.Memory.{words_of}
use Rattle.display.specs.Log.{IsEntered, NoneEntered}
use Rattle.display.proofs.log.next_logged.Given as goal

abbrev pub invariant-loop-index : goal.invariant-loop-index
invariant-loop-index l = record {
  bound : l.least ≤ l.high;
  found : l.least < l.high → IsEntered l.log (words_of l.fram.words) l.low l.least;
  first : NoneEntered l.index (words_of l.fram.words) l.low l.least;
}

use Rattle.std.proofs.Common.{◌≡◌, ◌-◌, ◌≤◌, length, take}
use Rattle.c_lex.specs.Tokens.{line_feeds, fresh_at}
use Rattle.c_lex.proofs.LexLaws.{Reached}
use Rattle.c_lex.proofs.lexer.read.Given as goal

abbrev pub invariant-loop-at : goal.invariant-loop-at
invariant-loop-at l = record {
  reached : Reached l.source l.at l.found.items;
  within : l.at ≤ length l.source;
  counted : l.lines ≡ line_feeds (take l.at l.source);
  few : l.lines ≤ l.at;
  fresh : l.fresh ≡ fresh_at l.source l.at;
}

abbrev pub decreases-loop-at : goal.decreases-loop-at
decreases-loop-at l = length l.source - l.at

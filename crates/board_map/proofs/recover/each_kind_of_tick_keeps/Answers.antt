-- By the kinds of a tick.
use Rattle.board_map.proofs.TickKinds.{tick_keeps}
use Rattle.board_map.proofs.recover.each_kind_of_tick_keeps.Goals as goal

pub returns : goal.returns
returns g c = λ kind address word may. tick_keeps kind (g.M.Words.words c.args.words.now) address word c.requires may

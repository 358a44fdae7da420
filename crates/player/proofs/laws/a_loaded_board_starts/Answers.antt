use Rattle.player.proofs.Starting.{load-playable, load-starts}
use Rattle.player.proofs.laws.a_loaded_board_starts.Goals as goal

pub returns-clause-playable : goal.returns-clause-playable
returns-clause-playable c = load-playable

pub returns-clause-starts : goal.returns-clause-starts
returns-clause-starts c = load-starts

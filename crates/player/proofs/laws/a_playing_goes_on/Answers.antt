use Rattle.base16.specs.declared.end.EndKind.TheVariants.{Power}
use Rattle.player.specs.Form.{IsOver, IsWhole}
use Rattle.player.proofs.Starting.{keeps-start}
use Rattle.player.proofs.laws.a_playing_goes_on.Goals as goal

pub returns-clause-power : goal.returns-clause-power
returns-clause-power c = λ o. keeps-start o (IsOver Power)

pub returns-clause-memory : goal.returns-clause-memory
returns-clause-memory c = λ o. keeps-start o IsWhole

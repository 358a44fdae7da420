use Rattle.std.proofs.Common.{◌≡◌, ◌%◌, sym}
use Rattle.core430.specs.Shown.{OnePut}
use Rattle.core430.proofs.machine.finish.Goals as goal

pub returns-in-Ok-clause-one_put : goal.returns-in-Ok-clause-one_put
returns-in-Ok-clause-one_put g c =
    let even : c.in-Stores.address % 2 ≡ 0 = rw c.in-Stores.is at c.requires in
    OnePut _ _ even (sym c.in-Ok.ensures.refused) c.in-Ok.ensures.ok

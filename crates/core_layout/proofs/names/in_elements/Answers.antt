use Rattle.std.proofs.Common.{refl}
use Rattle.core_layout.proofs.Naming.{in_one, in_many}
use Rattle.core_layout.proofs.names.in_elements.Goals as goal

pub returns-in_ok-text : goal.returns-in_ok-text
returns-in_ok-text c =
    in_one c.args.before (record { befores = c.args.before.befores; text = c.in_ok-text.text }) c.args.count
    c.if-count-eq1.true refl c.in_ok-text.ensures

pub returns-in_ok-befores : goal.returns-in_ok-befores
returns-in_ok-befores c =
    in_many c.args.before (record { befores = c.in_ok-befores.befores; text = c.new.result }) c.args.count c.new.ensures
    (rw (← c.as_slice.ensures, ← c.as_slice-else-count-eq1.ensures) c.in_ok-befores.ensures)

use Rattle.std.proofs.Common.{rules, FitsSigned}
use Rattle.std.proofs.lemmas.Int.{to_z-of_z}
use mir.Syntax.{w16}
use Rattle.core430.proofs.machine.perform.Goals as goal

pub returns-in-Jump-clause-value : goal.returns-in-Jump-clause-value
returns-in-Jump-clause-value g c =
    let fits : FitsSigned w16 c.in-Jump.offset = search rules in
    rw c.in-Jump.is (simp to_z-of_z at (c.jump.ensures.value (g.M.Memory.words c.args.memory.now)))

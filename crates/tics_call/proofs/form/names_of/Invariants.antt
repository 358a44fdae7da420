-- the names so far are those of the parts so far
use Rattle.std.proofs.Common.{take}
use Rattle.tics_call.specs.Form.{IsDeclaration, Pairs}
use Rattle.tics_call.proofs.form.names_of.Given as goal

abbrev pub invariant-loop-part : goal.invariant-loop-part
invariant-loop-part l = Pairs IsDeclaration l.names.items (take l.part-index l.parts)

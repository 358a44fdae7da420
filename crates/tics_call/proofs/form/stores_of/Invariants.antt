-- the stores so far are those of the parts so far
use Rattle.std.proofs.Common.{take}
use Rattle.tics_call.specs.Form.{IsStore, Pairs}
use Rattle.tics_call.proofs.form.stores_of.Given as goal

abbrev pub invariant-loop-part : goal.invariant-loop-part
invariant-loop-part l = Pairs IsStore l.stores.items (take l.part-index l.parts)

-- Steps that have the shapes name what is there, and are typed.
use Rattle.std.proofs.Common.{List, [], ◌∷◌, sym}
use Rattle.core_tree.specs.LawfulCore.{Every}
use Rattle.ir.specs.declared.form.Ir.{Ir}
use Rattle.ir.specs.declared.form.IrFunction.{IrFunction}
use Rattle.ir.specs.declared.form.Step.{Step}
use Rattle.ir.specs.declared.form.StepKind.{StepKind}
use Rattle.ir.specs.Typed.{IsTyped}
use Rattle.ir_gen.specs.Names.{HasNames}
use Rattle.ir_gen.specs.Shapes.{HasShape, HaveShapes}

module _ (ir : Ir) (fn : IrFunction) where
  pub shaped_names : (k : StepKind) → HasShape ir fn k → HasNames ir fn k
  shaped_names _ (HasShape.put d x h) = h
  shaped_names _ (HasShape.drop d) = tt
  shaped_names _ (HasShape.convert d to) = tt
  shaped_names _ (HasShape.unary d o t typed) = tt
  shaped_names _ (HasShape.binary d o typed) = (tt, tt)
  shaped_names _ (HasShape.beside d o typed) = tt
  shaped_names _ (HasShape.truth d of) = tt
  shaped_names _ (HasShape.address d of offset h) = h
  shaped_names _ (HasShape.follow d) = tt
  shaped_names _ (HasShape.member d offset) = tt
  shaped_names _ (HasShape.element d size own) = tt
  shaped_names _ (HasShape.sum d size left right swapped) = (tt, tt)
  shaped_names _ (HasShape.point d) = tt
  shaped_names _ (HasShape.load d k) = tt
  shaped_names _ (HasShape.peek d k) = tt
  shaped_names _ (HasShape.store d to k x keeps h g) = (h, g)
  shaped_names _ (HasShape.store_local d n offset k x keeps h g) = (h, g)
  shaped_names _ (HasShape.undefine n h) = h
  shaped_names _ (HasShape.jump to) = tt
  shaped_names _ (HasShape.unless d t to) = tt
  shaped_names _ (HasShape.label d of n to same) = tt
  shaped_names _ HasShape.turn = tt
  shaped_names _ (HasShape.called d g n callee e many) = (callee, e, many)
  shaped_names _ (HasShape.result d keeps) = tt
  shaped_names _ (HasShape.entered n own) = sym own.count
  shaped_names _ (HasShape.returned d x h) = h
  shaped_names _ HasShape.left = tt
  shaped_names _ (HasShape.sensed d channel below) = below
  shaped_names _ (HasShape.emitted d) = tt
  shaped_names _ (HasShape.checkpoint d) = tt

  step_typed : (k : StepKind) → HasShape ir fn k → IsTyped fn k
  step_typed _ (HasShape.put d x h) = tt
  step_typed _ (HasShape.drop d) = tt
  step_typed _ (HasShape.convert d to) = tt
  step_typed _ (HasShape.unary d o t typed) = typed
  step_typed _ (HasShape.binary d o typed) = typed
  step_typed _ (HasShape.beside d o typed) = typed
  step_typed _ (HasShape.truth d of) = tt
  step_typed _ (HasShape.address d of offset h) = tt
  step_typed _ (HasShape.follow d) = tt
  step_typed _ (HasShape.member d offset) = tt
  step_typed _ (HasShape.element d size own) = tt
  step_typed _ (HasShape.sum d size left right swapped) = tt
  step_typed _ (HasShape.point d) = tt
  step_typed _ (HasShape.load d k) = tt
  step_typed _ (HasShape.peek d k) = tt
  step_typed _ (HasShape.store d to k x keeps h g) = tt
  step_typed _ (HasShape.store_local d n offset k x keeps h g) = tt
  step_typed _ (HasShape.undefine n h) = tt
  step_typed _ (HasShape.jump to) = tt
  step_typed _ (HasShape.unless d t to) = tt
  step_typed _ (HasShape.label d of n to same) = same
  step_typed _ HasShape.turn = tt
  step_typed _ (HasShape.called d g n callee e many) = tt
  step_typed _ (HasShape.result d keeps) = tt
  step_typed _ (HasShape.entered n own) = own
  step_typed _ (HasShape.returned d x h) = tt
  step_typed _ HasShape.left = tt
  step_typed _ (HasShape.sensed d channel below) = below
  step_typed _ (HasShape.emitted d) = tt
  step_typed _ (HasShape.checkpoint d) = tt

  pub shaped_typed : (ss : List Step) → HaveShapes ir fn ss → Every (λ (s : Step). IsTyped fn s.kind) ss
  shaped_typed [] h = tt
  shaped_typed (s ∷ ss) h = (step_typed s.kind h.0, shaped_typed ss h.1)

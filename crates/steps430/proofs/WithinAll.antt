-- Every step but those of time is done within the limits of whole runs where all pointers are inside.
use Rattle.std.proofs.Common.{suc, ◌+◌, arith, false}
use Rattle.base16.specs.declared.integer.IntType.TheVariants as int
use Rattle.base16.specs.declared.operator.UnaryOp.TheVariants as un
use Rattle.ir.specs.declared.form.IrFunction.{IrFunction}
use Rattle.ir.specs.declared.form.StepKind.{StepKind}
use Rattle.ir.specs.declared.form.StepKind.TheVariants as step
use Rattle.ir.specs.Typed.{IsTyped}
use Rattle.steps430.specs.Setting.{Setting, IsLaid}
use Rattle.steps430.specs.Calls.{FramesLaid}
use Rattle.steps430.specs.Inside.{DoesInside}
use Rattle.steps430.specs.Lying.{ObjectsLie}
use Rattle.steps430.specs.Outside.{MeetsOutside}
use Rattle.steps430.specs.Whole.{most_of}
use Rattle.steps430.proofs.CallsMade.{call_does}
use Rattle.steps430.proofs.CallsReturn.{return_does, return_nothing_does}
use Rattle.steps430.proofs.Cases.{case_does}
use Rattle.steps430.proofs.Clearing.{undefine_does}
use Rattle.steps430.proofs.Elements.{element_does}
use Rattle.steps430.proofs.Emitting.{emit_does}
use Rattle.steps430.proofs.Limits.{brought, placing_few, keeping_enough, target_least, scaling_few, jump_fits, case_fits, truth_fits, address_fits, member_fits, load_fits, peek_fits, call_fits, return_fits, end_fits, turn_fits, sense_fits, emit_fits, checkpoint_fits}
use Rattle.steps430.proofs.Marked.{store_does}
use Rattle.steps430.proofs.Marks.{turn_does, checkpoint_does}
use Rattle.steps430.proofs.Numbers.{member_does, address_does, convert_int_does, convert_unsigned_does}
use Rattle.steps430.proofs.Passing.{follow_does}
use Rattle.steps430.proofs.Places.{point_does, load_does, peek_does}
use Rattle.steps430.proofs.Plain.{placing, put_does, nothing_does, drop_does, jump_does}
use Rattle.steps430.proofs.Plus.{sum_does}
use Rattle.steps430.proofs.Scaled.{scaling}
use Rattle.steps430.proofs.Services.{sense_does}
use Rattle.steps430.proofs.Stores.{keeping_few, local_does}
use Rattle.steps430.proofs.Truths.{truth_does, not_does}
use Rattle.steps430.proofs.Turning.{minus_does, complement_does, convert_char_does}
use Rattle.steps430.proofs.Units as units
use Rattle.steps430.proofs.WithinOperations.{does_inside, one_inside, binary_inside, beside_inside, branch_inside, update_local_inside, update_inside}

module _ (p : Setting) (lay : IsLaid p) (laid : FramesLaid p) (out : MeetsOutside p) (lie : ObjectsLie p) (fn : IrFunction) where
  -- The code of each kind of step that is typed does it.
  pub steps_inside : (k : StepKind) → IsTyped fn k → DoesInside p (most_of k) k
  steps_inside (step.Put d x) typed =
      does_inside p (placing x) (step.Put d x) (let a = placing_few x in omega arith) (put_does p lay d x)
  steps_inside (step.Nothing d) typed =
      does_inside p 0 (step.Nothing d) (omega arith) (nothing_does p lay d)
  steps_inside (step.Drop d) typed =
      does_inside p 0 (step.Drop d) (omega arith) (drop_does p lay d)
  steps_inside (step.Beside d o) typed = beside_inside p lay lie d o typed
  steps_inside (step.Convert d int.Char x) typed =
      does_inside p 3 (step.Convert d int.Char x) (let a = brought x in omega arith) (convert_char_does p lay d x)
  steps_inside (step.Convert d int.Int x) typed =
      does_inside p (placing x) (step.Convert d int.Int x) (let a = placing_few x in omega arith) (convert_int_does p lay d x)
  steps_inside (step.Convert d int.UInt x) typed =
      does_inside p (placing x) (step.Convert d int.UInt x) (let a = placing_few x in omega arith)
      (convert_unsigned_does p lay d x)
  steps_inside (step.Unary d un.Plus t x) typed =
      does_inside p (placing x) (step.Unary d un.Plus t x) (let a = placing_few x in omega arith) (units.plus_does p lay d t x)
  steps_inside (step.Unary d un.Minus t x) typed =
      does_inside p 4 (step.Unary d un.Minus t x) (let a = brought x in omega arith) (minus_does p lay d t x typed)
  steps_inside (step.Unary d un.Complement t x) typed =
      does_inside p 3 (step.Unary d un.Complement t x) (let a = brought x in omega arith) (complement_does p lay d t x typed)
  steps_inside (step.Unary d un.Not t x) typed =
      one_inside p 6 (step.Unary d un.Not t x) x (let a = brought x in omega arith) (not_does p lay lie d t x)
  steps_inside (step.Binary d o left right) typed = binary_inside p lay lie d o left right typed
  steps_inside (step.Truth d of x) typed =
      one_inside p 6 (step.Truth d of x) x (truth_fits d of x) (truth_does p lay lie d of x)
  steps_inside (step.Address d of offset) typed =
      does_inside p 3 (step.Address d of offset) (address_fits d of offset) (address_does p lay d of offset)
  steps_inside (step.Follow d x) typed =
      does_inside p (placing x) (step.Follow d x) (let a = placing_few x in omega arith) (follow_does p lay d x)
  steps_inside (step.Member d offset) typed =
      does_inside p 3 (step.Member d offset) (member_fits d offset) (member_does p lay d offset)
  steps_inside (step.Element d size own x) typed =
      does_inside p (suc (suc (scaling false size + 2))) (step.Element d size own x)
      (let a = brought x in let c = scaling_few false size in omega arith)
      (element_does p lay d size own x)
  steps_inside (step.Sum d size t u swapped left right) typed =
      does_inside p (suc (suc (scaling false size + 2))) (step.Sum d size t u swapped left right)
      (let a = brought left in let b = brought right in let c = scaling_few false size in omega arith)
      (sum_does p lay d size t u swapped left right)
  steps_inside (step.PointTo d) typed =
      does_inside p 0 (step.PointTo d) (omega arith) (point_does p lay d)
  steps_inside (step.Load d k) typed =
      does_inside p 3 (step.Load d k) (load_fits d k) (load_does p lay d k)
  steps_inside (step.Peek d k) typed =
      does_inside p 3 (step.Peek d k) (peek_fits d k) (peek_does p lay d k)
  steps_inside (step.Store d to k x keeps) typed =
      does_inside p (4 + keeping_few keeps) (step.Store d to k x keeps)
      (let a = brought x in let b = keeping_enough k keeps in let c = target_least to in omega arith)
      (store_does p lay d to k x keeps)
  steps_inside (step.StoreLocal d n offset k x keeps) typed =
      does_inside p (keeping_few keeps + 2) (step.StoreLocal d n offset k x keeps)
      (let a = brought x in let b = keeping_enough k keeps in omega arith)
      (local_does p lay d n offset k x keeps)
  steps_inside (step.Update d to k o x keeps) typed = update_inside p lay lie d to k o x keeps typed
  steps_inside (step.UpdateLocal d n offset k o x keeps) typed = update_local_inside p lay lie d n offset k o x keeps typed
  steps_inside (step.Undefine n) typed =
      does_inside p 0 (step.Undefine n) (omega arith) (undefine_does p lay n)
  steps_inside (step.Jump to) typed =
      does_inside p 1 (step.Jump to) (jump_fits to) (jump_does p lay to)
  steps_inside (step.Branch d t of when to) typed = branch_inside p lay lie d t of when to typed
  steps_inside (step.Case d of n to) typed =
      does_inside p 4 (step.Case d of n to) (case_fits d of n to) (case_does p lay d of n to typed)
  steps_inside (step.Call d g n) typed =
      does_inside p 3 (step.Call d g n) (call_fits d g n) (call_does p lay laid d g n)
  steps_inside (step.Result d keeps) typed = λ f q first ts below node r t e inside s. tt
  steps_inside (step.Enter n) typed = λ f q first ts below node r t e inside s. tt
  steps_inside (step.Return d x) typed =
      does_inside p 3 (step.Return d x) (return_fits d x) (return_does p lay laid d x)
  steps_inside step.ReturnNothing typed =
      does_inside p 2 step.ReturnNothing end_fits (return_nothing_does p lay laid)
  steps_inside step.Turn typed =
      does_inside p 1 step.Turn turn_fits (turn_does p lay)
  steps_inside (step.Sense d channel) typed =
      does_inside p 3 (step.Sense d channel) (sense_fits d channel) (sense_does p lay out.readings d channel typed)
  steps_inside (step.Emit d x) typed =
      does_inside p 2 (step.Emit d x) (emit_fits d x) (emit_does p lay out d x)
  steps_inside (step.Checkpoint d) typed =
      does_inside p 1 (step.Checkpoint d) (checkpoint_fits d) (checkpoint_does p lay d)
  steps_inside (step.Stamp d n to k x) typed = absurd typed
  steps_inside (step.Timely d n from k limit to) typed = absurd typed
  steps_inside (step.Open t to) typed = absurd typed
  steps_inside (step.Check t to) typed = absurd typed
  steps_inside (step.Close t to) typed = absurd typed

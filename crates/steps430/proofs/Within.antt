-- Steps behind calls, within the limits of whole runs.
use Rattle.std.proofs.Common.{arith, true, false}
use Rattle.ir.specs.declared.form.StepKind.{StepKind}
use Rattle.ir.specs.declared.form.StepKind.TheVariants as step
use Rattle.steps430.specs.Setting.{Setting, IsLaid}
use Rattle.steps430.specs.Calls.{DoesResult}
use Rattle.steps430.specs.Whole.{most_of}
use Rattle.steps430.proofs.Fitting.{result_weaker}
use Rattle.steps430.proofs.Results.{result_kept_does, result_left_does}

module _ (p : Setting) (lay : IsLaid p) where
  -- Behind a call stands the step that takes what the call gave, and no other goes on there.
  pub results_within : (k : StepKind) → DoesResult p (most_of k) k
  results_within (step.Result d true) =
      result_weaker p 1 (most_of (step.Result d true)) (step.Result d true) (omega arith) (result_kept_does p lay d)
  results_within (step.Result d false) =
      result_weaker p 0 (most_of (step.Result d false)) (step.Result d false) (omega arith) (result_left_does p lay d)
  results_within (step.Put d x) = λ v b below node r t e h. tt
  results_within (step.Nothing d) = λ v b below node r t e h. tt
  results_within (step.Drop d) = λ v b below node r t e h. tt
  results_within (step.Beside d o) = λ v b below node r t e h. tt
  results_within (step.Convert d to x) = λ v b below node r t e h. tt
  results_within (step.Unary d o at x) = λ v b below node r t e h. tt
  results_within (step.Binary d o left right) = λ v b below node r t e h. tt
  results_within (step.Truth d of x) = λ v b below node r t e h. tt
  results_within (step.Address d of offset) = λ v b below node r t e h. tt
  results_within (step.Follow d x) = λ v b below node r t e h. tt
  results_within (step.Member d offset) = λ v b below node r t e h. tt
  results_within (step.Element d bytes own x) = λ v b below node r t e h. tt
  results_within (step.Sum d bytes left_type right_type swapped left right) = λ v b below node r t e h. tt
  results_within (step.PointTo d) = λ v b below node r t e h. tt
  results_within (step.Load d k) = λ v b below node r t e h. tt
  results_within (step.Peek d k) = λ v b below node r t e h. tt
  results_within (step.Store d to k x keeps) = λ v b below node r t e h. tt
  results_within (step.StoreLocal d n offset k x keeps) = λ v b below node r t e h. tt
  results_within (step.Update d to k o x keeps) = λ v b below node r t e h. tt
  results_within (step.UpdateLocal d n offset k o x keeps) = λ v b below node r t e h. tt
  results_within (step.Undefine n) = λ v b below node r t e h. tt
  results_within (step.Jump to) = λ v b below node r t e h. tt
  results_within (step.Branch d t of when to) = λ v b below node r t e h. tt
  results_within (step.Case d of n to) = λ v b below node r t e h. tt
  results_within (step.Call d g n) = λ v b below node r t e h. tt
  results_within (step.Enter n) = λ v b below node r t e h. tt
  results_within (step.Return d x) = λ v b below node r t e h. tt
  results_within step.ReturnNothing = λ v b below node r t e h. tt
  results_within step.Turn = λ v b below node r t e h. tt
  results_within (step.Sense d channel) = λ v b below node r t e h. tt
  results_within (step.Emit d x) = λ v b below node r t e h. tt
  results_within (step.Checkpoint d) = λ v b below node r t e h. tt
  results_within (step.Stamp d n to k x) = λ v b below node r t e h. tt
  results_within (step.Timely d n from k limit to) = λ v b below node r t e h. tt
  results_within (step.Open t to) = λ v b below node r t e h. tt
  results_within (step.Check t to) = λ v b below node r t e h. tt
  results_within (step.Close t to) = λ v b below node r t e h. tt

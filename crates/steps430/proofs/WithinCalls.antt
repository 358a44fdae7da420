-- The steps at the entries of functions, within the limits of whole runs.
use Rattle.std.proofs.Common.{ℕ, suc, ◌≤◌, arith}
use Rattle.ir.specs.declared.form.StepKind.{StepKind}
use Rattle.ir.specs.declared.form.StepKind.TheVariants as step
use Rattle.steps430.specs.Setting.{Setting, IsLaid}
use Rattle.steps430.specs.Calls.{FramesLaid, DoesEnter}
use Rattle.steps430.specs.Inside.{EntersInside}
use Rattle.steps430.specs.Whole.{most_of}
use Rattle.steps430.proofs.CallsParams.{enter_params_does}
use Rattle.steps430.proofs.Fitting.{follows_weaker}
use Rattle.steps430.proofs.Limits.{enter_fits}
use Rattle.steps430.proofs.WithinFound.{known_of}

enter_inside : (p : Setting) (l m : ℕ) (k : StepKind) → l ≤ m → DoesEnter p l k → EntersInside p m k
enter_inside p l m k few h = λ f d args below node r t typed e inside s.
    follows_weaker p l m _ t few (h f d args below node r t typed e (known_of p.core f d args below r inside) s)

module _ (p : Setting) (lay : IsLaid p) (laid : FramesLaid p) where
  -- At an entry stands the step that enters the function, and no other goes on there.
  pub entries_inside : (k : StepKind) → EntersInside p (most_of k) k
  entries_inside (step.Enter n) =
      enter_inside p (suc (suc n)) (most_of (step.Enter n)) (step.Enter n) (let k = enter_fits n in omega arith)
      (enter_params_does p lay laid n)
  entries_inside (step.Put d x) = λ f g args below node r u typed e inside h. tt
  entries_inside (step.Nothing d) = λ f g args below node r u typed e inside h. tt
  entries_inside (step.Drop d) = λ f g args below node r u typed e inside h. tt
  entries_inside (step.Beside d o) = λ f g args below node r u typed e inside h. tt
  entries_inside (step.Convert d to x) = λ f g args below node r u typed e inside h. tt
  entries_inside (step.Unary d o at x) = λ f g args below node r u typed e inside h. tt
  entries_inside (step.Binary d o left right) = λ f g args below node r u typed e inside h. tt
  entries_inside (step.Truth d of x) = λ f g args below node r u typed e inside h. tt
  entries_inside (step.Address d of offset) = λ f g args below node r u typed e inside h. tt
  entries_inside (step.Follow d x) = λ f g args below node r u typed e inside h. tt
  entries_inside (step.Member d offset) = λ f g args below node r u typed e inside h. tt
  entries_inside (step.Element d bytes own x) = λ f g args below node r u typed e inside h. tt
  entries_inside (step.Sum d bytes left_type right_type swapped left right) = λ f g args below node r u typed e inside h. tt
  entries_inside (step.PointTo d) = λ f g args below node r u typed e inside h. tt
  entries_inside (step.Load d k) = λ f g args below node r u typed e inside h. tt
  entries_inside (step.Peek d k) = λ f g args below node r u typed e inside h. tt
  entries_inside (step.Store d to k x keeps) = λ f g args below node r u typed e inside h. tt
  entries_inside (step.StoreLocal d n offset k x keeps) = λ f g args below node r u typed e inside h. tt
  entries_inside (step.Update d to k o x keeps) = λ f g args below node r u typed e inside h. tt
  entries_inside (step.UpdateLocal d n offset k o x keeps) = λ f g args below node r u typed e inside h. tt
  entries_inside (step.Undefine n) = λ f g args below node r u typed e inside h. tt
  entries_inside (step.Jump to) = λ f g args below node r u typed e inside h. tt
  entries_inside (step.Branch d t of when to) = λ f g args below node r u typed e inside h. tt
  entries_inside (step.Case d of n to) = λ f g args below node r u typed e inside h. tt
  entries_inside (step.Call d g n) = λ f g args below node r u typed e inside h. tt
  entries_inside (step.Result d keeps) = λ f g args below node r u typed e inside h. tt
  entries_inside (step.Return d x) = λ f g args below node r u typed e inside h. tt
  entries_inside step.ReturnNothing = λ f g args below node r u typed e inside h. tt
  entries_inside step.Turn = λ f g args below node r u typed e inside h. tt
  entries_inside (step.Sense d channel) = λ f g args below node r u typed e inside h. tt
  entries_inside (step.Emit d x) = λ f g args below node r u typed e inside h. tt
  entries_inside (step.Checkpoint d) = λ f g args below node r u typed e inside h. tt
  entries_inside (step.Stamp d n to k x) = λ f g args below node r u typed e inside h. tt
  entries_inside (step.Timely d n from k limit to) = λ f g args below node r u typed e inside h. tt
  entries_inside (step.Open t to) = λ f g args below node r u typed e inside h. tt
  entries_inside (step.Check t to) = λ f g args below node r u typed e inside h. tt
  entries_inside (step.Close t to) = λ f g args below node r u typed e inside h. tt

-- A step that is done in so many instructions is done in more.
use Rattle.std.proofs.Common.{ℕ, ◌-◌, ◌≤◌, arith}
use Rattle.c_run.specs.Runs.{Live, Ended as Over, NeedsReading as Lacks, Undefined, Wrong, Outcome, Went, Stopped}
use Rattle.cells430.specs.Stretch.{Leads}
use Rattle.cells430.proofs.Lift.{leads_weaker}
use Rattle.ideal430.specs.Ideal.{Ideal}
use Rattle.ir.specs.declared.control.Control.{Control}
use Rattle.ir.specs.declared.form.StepKind.{StepKind}
use Rattle.steps430.specs.Setting.{Setting}
use Rattle.steps430.specs.Follows.{Follows}
use Rattle.steps430.specs.Calls.{DoesResult}
use Rattle.steps430.specs.Whole.{Enters}

longer : (l m : ℕ) (t : Ideal) (Q : Ideal → Type 0) → l ≤ m → Leads l t Q → Leads m t Q
longer l m t Q few h = leads_weaker l m t Q Q few (λ u k. k) h

pub follows_weaker : (p : Setting) (l m : ℕ) (o : Outcome Control) (t : Ideal) → l ≤ m → Follows p l o t → Follows p m o t
follows_weaker p l m (Went c q) t few h = longer l m t _ few h
follows_weaker p l m (Stopped (Live s used)) t few h = longer (l - 1) (m - 1) t _ (omega arith) h
follows_weaker p l m (Stopped (Over kind s used)) t few h = longer (l - 1) (m - 1) t _ (omega arith) h
follows_weaker p l m (Stopped Lacks) t few h = longer l m t _ few h
follows_weaker p l m (Stopped (Undefined rule node)) t few h = tt
follows_weaker p l m (Stopped Wrong) t few h = tt

pub enters_weaker : (p : Setting) (l m : ℕ) (k : StepKind) → l ≤ m → Enters p l k → Enters p m k
enters_weaker p l m k few h = λ f d args below node r t e s. follows_weaker p l m _ t few (h f d args below node r t e s)

pub result_weaker : (p : Setting) (l m : ℕ) (k : StepKind) → l ≤ m → DoesResult p l k → DoesResult p m k
result_weaker p l m k few h = λ v b below node r t e s. follows_weaker p l m _ t few (h v b below node r t e s)

-- Where the code of each typed step does it where pointers are inside, it does whatever step a run makes there.
use Rattle.std.proofs.Common.{◌≡◌, ℕ, zero, suc, sym, ap, ◌∙◌, subst, rules, List, [], ◌∷◌, Some}
use Rattle.std.specs.Prelude.{slice_get}
use Rattle.c_run.specs.Runs.{Run}
use Rattle.core_tree.specs.LawfulCore.{Every}
use Rattle.ideal430.specs.Ideal.{Ideal}
use Rattle.ir.specs.Between.{site_of}
use Rattle.ir.specs.Inside.{PointsInside}
use Rattle.ir.specs.Machine.{act_enter, one_step}
use Rattle.ir.specs.Typed.{IsTyped, AllTyped}
use Rattle.ir.specs.declared.control.Control.{Control}
use Rattle.ir.specs.declared.control.Control.TheVariants.{At, Calling, Returning}
use Rattle.ir.specs.declared.form.IrFunction.{IrFunction}
use Rattle.ir.specs.declared.form.Step.{Step}
use Rattle.ir.specs.declared.form.StepKind.{StepKind}
use Rattle.steps430.specs.Calls.{DoesResult}
use Rattle.steps430.specs.Follows.{Follows}
use Rattle.steps430.specs.Inside.{DoesInside, EntersInside}
use Rattle.steps430.specs.Setting.{Setting, or_none, function_of}
use Rattle.steps430.specs.Standing.{StandsAt}
use Rattle.steps430.specs.Whole.{most_of, most_at}
use Rattle.follows430.proofs.Along.{at_step}

every_slice : {A : Type 0} (P : A → Type 0) (xs : List A) (n : ℕ) (x : A) → Every P xs → slice_get xs n ≡ Some x → P x
every_slice P [] n x all e = absurd (search rules)
every_slice P (y ∷ ys) zero x all e = let is : y ≡ x = cc in subst P is all.0
every_slice P (y ∷ ys) (suc n) x all e = every_slice P ys n x all.1 e

module _ (p : Setting)
    (steps : (fn : IrFunction) (k : StepKind) → IsTyped fn k → DoesInside p (most_of k) k)
    (entries : (k : StepKind) → EntersInside p (most_of k) k)
    (results : (k : StepKind) → DoesResult p (most_of k) k)
    (typed : (g : ℕ) (fn : IrFunction) → slice_get p.ir.functions g ≡ Some fn → AllTyped fn) where
  -- the function of a number, and its steps
  same : (g : ℕ) (fn : IrFunction) → slice_get p.ir.functions g ≡ Some fn → function_of p g ≡ fn
  same g fn e = ap or_none e

  there : (g q : ℕ) (fn : IrFunction) (s : Step) → slice_get p.ir.functions g ≡ Some fn → slice_get fn.steps q ≡ Some s
      → slice_get (function_of p g).steps q ≡ Some s
  there g q fn s e k = ap (λ (y : IrFunction). slice_get y.steps q) (same g fn e) ∙ k

  is_typed : (g q : ℕ) (fn : IrFunction) (s : Step) → slice_get p.ir.functions g ≡ Some fn → slice_get fn.steps q ≡ Some s
      → IsTyped fn s.kind
  is_typed g q fn s e k = every_slice (λ (y : Step). IsTyped fn y.kind) fn.steps q s (typed g fn e) k

  -- one step, whatever the run is at
  pub follows_one : (c : Control) (r : Run) (t : Ideal) → PointsInside c r → StandsAt p c r t
      → Follows p (most_at p (site_of c)) (one_step p.ir p.readings c r) t
  follows_one (At f q first ts below) r t inside h =
      at_step p q r t _ f
      (λ fn s e k. steps fn s.kind (is_typed f q fn s e k) f q first ts below s.node r t (there f q fn s e k) inside h)
  follows_one (Calling f d args below) r t inside h =
      at_step p 0 r t _ f
      (λ fn s e k. subst (λ (y : IrFunction). Follows p (most_of s.kind) (act_enter p.ir p.readings s.kind f y args below r) t)
      (same f fn e)
      (entries s.kind f d args below s.node r t
      (subst (λ (y : IrFunction). IsTyped y s.kind) (sym (same f fn e)) (is_typed f 0 fn s e k))
      (there f 0 fn s e k) inside h))
  follows_one (Returning v []) r t inside h = tt
  follows_one (Returning v (b ∷ below)) r t inside h =
      at_step p b.position r t _ b.function
      (λ fn s e k. results s.kind v b below s.node r t (there b.function b.position fn s e k) h)

-- Jumps that are made where the sum of a pointer and a number is the null pointer, or is not: it never is.
use Rattle.std.proofs.Common.{◌≡◌, ℕ, ◌+◌, ◌≤◌, refl, sym, ◌∙◌, subst, arith, Bool, true, false, Option, Some, None, Result, Ok, Err, if◌then◌else◌}
use Rattle.std.proofs.lemmas.Bool.Decides.{nat_tests}
use Rattle.std.specs.Prelude.{ℤ, pos, negsuc, nat_le}
use Rattle.base16.specs.declared.integer.IntType.{IntType}
use Rattle.c_values.specs.Objects.{object_of}
use Rattle.c_values.specs.Pointers.{at as place_at, within, end_of, further, moved, scaled as scaled_number, sum_of, pointer_at}
use Rattle.c_values.specs.declared.state.Object.{Object}
use Rattle.c_values.specs.declared.state.State.{State}
use Rattle.c_values.specs.declared.value.Location.{Location}
use Rattle.c_values.specs.declared.value.Value.{Value}
use Rattle.ir.specs.declared.form.Operand.{Operand}
use Rattle.ir.specs.declared.form.Operation.TheVariants as operation
use Rattle.ir.specs.declared.form.Test.TheVariants as test
use Rattle.ir.specs.declared.form.StepKind.TheVariants as step
use Rattle.ir.specs.Machine.{numbered_as}
use Rattle.steps430.specs.Setting.{Setting, IsLaid}
use Rattle.steps430.specs.Lying.{StaysInside, ObjectsLie}
use Rattle.steps430.specs.Follows.{DoesStep}
use Rattle.steps430.proofs.BranchAny.{TestsZero, branch_if}
use Rattle.steps430.proofs.Computing.{Anything, plus_computes}
use Rattle.steps430.proofs.Finding.{FindsTwo, where_always}
use Rattle.steps430.proofs.Plus.{sum_is, pointer_to_is}
use Rattle.steps430.proofs.Scaled.{scaling}
use Rattle.steps430.proofs.Truths.{truth_says}

-- ---- a sum goes no further than to the end of its object

abbrev fine : Location → Result Location ℕ
fine l = Ok l

abbrev wrong : ℕ → Result Location ℕ
wrong n = Err n

same_place : (a b : Location) → fine a ≡ fine b → a ≡ b
same_place a b e = cc

same_object : (a b : Object) → Some a ≡ Some b → a ≡ b
same_object a b e = cc

no_place : {A : Type 0} (n : ℕ) (b : Location) → wrong n ≡ fine b → A
no_place n b e = absurd (differ e)
  where
    differ : wrong n ≡ fine b → ⊥
    differ k = cc

within_inside : (s : State) (n : ℕ) (z : ℤ) (o : Option Object) (l : Location) → object_of s n ≡ o → within n z o ≡ Ok l
    → StaysInside s (pointer_at l.offset l.object)
within_inside s n (pos k) (Some x) l is e = from (nat_le k (end_of x)) refl e
  where
    low : nat_le k (end_of x) ≡ true → (o : Object) → object_of s n ≡ Some o → k ≤ end_of o
    low h o i =
        let l : k ≤ end_of x = grind (arith, nat_tests) in
        subst (λ (y : Object). k ≤ end_of y) (same_object x o (sym is ∙ i)) l

    from : (b : Bool) → nat_le k (end_of x) ≡ b → (if b then fine (place_at n k) else wrong 4) ≡ fine l
        → StaysInside s (pointer_at l.offset l.object)
    from true h i =
        subst (λ (y : Location). StaysInside s (pointer_at y.offset y.object)) (same_place (place_at n k) l i) (low h)
    from false h i = no_place 4 l i
within_inside s n (negsuc k) (Some x) l is e = no_place 4 l e
within_inside s n (pos k) None l is e = no_place 6 l e
within_inside s n (negsuc k) None l is e = no_place 6 l e

moved_inside : (s : State) (n offset : ℕ) (by : ℤ) (l : Location) → moved s (place_at n offset) by ≡ Ok l
    → StaysInside s (pointer_at l.offset l.object)
unfolding moved
moved_inside s n offset by l e = within_inside s n (further offset by) (object_of s n) l refl e

-- ---- the step

plus_tests : (p : Setting) → ObjectsLie p → (minus : Bool) (size : ℕ) (t u : Option IntType) (swapped : Bool)
    → TestsZero p (operation.PointerPlus minus size t u swapped) Anything
plus_tests p lie minus size t u swapped = record {
  flags = refl;
  condition = refl;
  tells = λ s next of a b c yes w made any e sure has.
      let to = pointer_to_is (sum_of s swapped minus size (numbered_as t a) (numbered_as u b)) c e in
      let sum = sum_is swapped s minus size t u a b to.location to.is in
      let inside : StaysInside s c =
      subst (λ (v : Value). StaysInside s v) to.pointer
      (moved_inside s sum.object sum.offset (scaled_number minus sum.count size) to.location sum.moves) in
      truth_says p lie s next made of c yes w inside sure has;
}

module _ (p : Setting) (lay : IsLaid p) (lie : ObjectsLie p) where
  pub branch_plus_does : (d : ℕ) (minus : Bool) (size : ℕ) (t u : Option IntType) (swapped : Bool) (left right : Operand)
      (of : IntType) (when : Bool) (to : ℕ)
      → DoesStep p (scaling minus size + 1 + 5)
      (step.Branch d (test.Computed (operation.PointerPlus minus size t u swapped) left right) of when to)
  branch_plus_does d minus size t u swapped left right of when to =
      where_always p (scaling minus size + 1 + 5)
      (step.Branch d (test.Computed (operation.PointerPlus minus size t u swapped) left right) of when to)
      (FindsTwo left right Anything) (λ s first ts a b us ws g k. tt)
      (branch_if p lay (scaling minus size + 1) d (operation.PointerPlus minus size t u swapped) left right of when to
      Anything (plus_computes p lay minus size t u swapped) (plus_tests p lie minus size t u swapped))

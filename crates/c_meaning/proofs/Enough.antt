-- One more turn than the marks that are left is enough: with more, a loop does the same.
use Rattle.std.proofs.Common.{◌≡◌, ℕ, zero, suc, ◌<◌, Bool, true, false, cond, None, refl, arith}
use Rattle.std.specs.Prelude.{List}
use Rattle.base16.specs.declared.reading.Reading.{Reading}
use Rattle.c_meaning.specs.declared.flow.Flow.{Flow}
use Rattle.c_meaning.specs.declared.flow.Flow.TheVariants.{Normal, Break, Continue, Return, Caught}
use Rattle.c_run.specs.Runs.{Run, Action, and_then, pure, mark, mark_by}
use Rattle.c_run.proofs.Counting.{Counting, same_then}
use Rattle.c_meaning.specs.Statements.{turns, loop, after_body}

-- what follows a mark is asked only of runs with fewer marks left
turn_step : (n : ℕ) (r : Run) (f g : Bool → Action Flow) → ((s : Run) → s.left < n → f true s ≡ g true s)
    → and_then (and_then (mark_by n r) (λ _. pure true)) f ≡ and_then (and_then (mark_by n r) (λ _. pure true)) g
turn_step zero r f g h = refl
turn_step (suc n) r f g h = h _ (omega arith)

if_same : (b : Bool) (p q e : Action Flow) (r : Run) → p r ≡ q r → cond b p e r ≡ cond b q e r
if_same true p q e r h = h
if_same false p q e r h = refl

after_same : (f : Flow) (p q : Action Flow) (r : Run) → p r ≡ q r → after_body f p r ≡ after_body f q r
after_same Normal p q r h = h
after_same Continue p q r h = h
after_same Break p q r h = refl
after_same (Return v) p q r h = refl
after_same Caught p q r h = refl

module _ (R : List Reading) (test : Action Bool) (body : Action Flow) (step : Action (Unit {0}))
    (ct : Counting test) (cb : Counting body) (cs : Counting step) where
  pub turns_same : (j k : ℕ) (r : Run) → r.left < j → r.left < k → turns R None test body step j r ≡ turns R None test body step k r
  unfolding turns mark
  turns_same zero k r h i = absurd (omega arith)
  turns_same (suc j) zero r h i = absurd (omega arith)
  turns_same (suc j) (suc k) r h i =
      turn_step r.left r _ _ (λ s l. same_then _ _ (ct s) (λ more s2 l2. if_same more _ _ _ s2
      (same_then _ _ (cb s2) (λ f s3 l3. after_same f _ _ s3
      (same_then _ _ (cs s3) (λ u s4 l4. turns_same j k s4 (omega (arith, l, l2, l3, l4, h)) (omega (arith, l, l2, l3, l4, i))))))))

  -- with any more turns than the marks that are left, the same
  pub loop_more : (k : ℕ) (r : Run) → r.left < k → loop R None test body step r ≡ turns R None test body step k r
  unfolding loop
  loop_more k r h = turns_same (suc r.left) k r (omega arith) h

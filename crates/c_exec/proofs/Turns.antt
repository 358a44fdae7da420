-- The turns of a loop.
use Rattle.std.proofs.Common.{◌≡◌, ℕ, suc, ◌+◌, ◌-◌, ◌<◌, ◌≤◌, Bool, cond, arith, ap}
use Rattle.base16.specs.declared.reading.Reading.{Reading}
use Rattle.std.specs.Prelude.{List}
use Rattle.c_meaning.specs.declared.flow.Flow.{Flow}
use Rattle.c_meaning.specs.declared.flow.Flow.TheVariants.{Normal, Caught}
use Rattle.c_run.specs.Runs.{Run, Action, ◌>>=◌, ◌>>◌, pure, Stopped, Wrong}
use Rattle.c_meaning.specs.Statements.{Text, turn, turns, loop, after_body}

pub loop_is : (R : List Reading) (text : Text) (test : Action Bool) (body : Action Flow) (step : Action (Unit {0})) (n : ℕ) (r : Run) → n ≡ r.left + 1
    → loop R text test body step r ≡ turns R text test body step n r
unfolding loop
loop_is R text test body step n r e = let s : suc r.left ≡ n = omega (arith, e) in ap (λ k. turns R text test body step k r) s

pub turns_turn : (R : List Reading) (text : Text) (test : Action Bool) (body : Action Flow) (step : Action (Unit {0})) (n i : ℕ) (r : Run) → i < n
    → turns R text test body step (n - i) r
    ≡ (turn R text >>= λ fine. cond fine (test >>= λ more. cond more (body >>= λ f. after_body f (step >> turns R text test body step (n - (i + 1)))) (pure Normal)) (pure Caught)) r
unfolding turns
turns_turn R text test body step n i r h =
    let s : n - i ≡ suc (n - (i + 1)) = omega arith in ap (λ k. turns R text test body step k r) s

pub turns_end : (R : List Reading) (text : Text) (test : Action Bool) (body : Action Flow) (step : Action (Unit {0})) (n i : ℕ) (r : Run) → n ≤ i
    → turns R text test body step (n - i) r ≡ Stopped Wrong
unfolding turns
turns_end R text test body step n i r h = let s : n - i ≡ 0 = omega arith in ap (λ k. turns R text test body step k r) s

-- How a call is left, with calls waiting below it and with none.
use Rattle.std.proofs.Common.{◌≡◌, List, [], ◌∷◌, length, arith, ap, refl}
use Rattle.c_values.specs.declared.value.Value.{Value}
use Rattle.c_run.specs.declared.halt.Halt.{Halt}
use Rattle.c_run.specs.Runs.{Run, Outcome, Went, and_then, pure}
use Rattle.c_run.specs.Actions.{leave as leaving}
use Rattle.c_run.specs.Gives.{Halts}
use Rattle.ir.specs.declared.control.Control.TheVariants.{Returning}
use Rattle.ir.specs.declared.control.Frame.{Frame}
use Rattle.ir.specs.Machine as m
use Rattle.ir_run.specs.Giving.{reached}
use Rattle.ir_run.proofs.Popping.{halts_on}

pub left_none : (v : Value) (below : List Frame) (r : Run) → length below ≡ 0 → m.left v below r ≡ reached (Returning v below) r
unfolding m.left
left_none v [] r h = refl
left_none v (b ∷ below) r h = absurd (omega (arith, h))

pub left_gone : (v : Value) (below : List Frame) (u : Unit {0}) (r q : Run) → (length below ≡ 0 → ⊥) → leaving r ≡ Went u q
    → m.left v below r ≡ reached (Returning v below) q
unfolding m.left
left_gone v [] u r q h is = absurd (h refl)
left_gone v (b ∷ below) u r q h is = ap (λ (o : Outcome (Unit {0})). and_then o (λ u. pure (Returning v (b ∷ below)))) is

pub left_stop : (v : Value) (below : List Frame) (r q : Run) (h : Halt) → (length below ≡ 0 → ⊥) → Halts (leaving r) h q
    → Halts (m.left v below r) h q
unfolding m.left
left_stop v [] r q h some is = absurd (some refl)
left_stop v (b ∷ below) r q h some is = halts_on (leaving r) (λ u. pure (Returning v (b ∷ below))) h q is

-- The operator of one number that leaves it.
use Rattle.std.proofs.Common.{◌≡◌, ℕ, ◌+◌, refl, sym, ◌∙◌, subst, arith, false, List, Result, Ok, Err}
use Rattle.base16.specs.declared.integer.IntType.{IntType}
use Rattle.base16.specs.declared.operator.UnaryOp.TheVariants as un
use Rattle.c_run.specs.Actions.{kept}
use Rattle.c_values.specs.Operators.{number, unary}
use Rattle.c_values.specs.Values.{operated_one}
use Rattle.c_values.specs.declared.state.State.{State}
use Rattle.c_values.specs.declared.value.Value.{Value}
use Rattle.c_values.specs.declared.value.Value.TheVariants.{Int, Pointer, Null, Undefined}
use Rattle.ir.specs.declared.control.Temporary.TheVariants as temporary
use Rattle.ir.specs.declared.form.IrFunction.{IrFunction}
use Rattle.ir.specs.declared.form.Operand.{Operand}
use Rattle.ir.specs.declared.form.StepKind.TheVariants as step
use Rattle.ir.specs.Table.{taken}
use Rattle.matching.specs.Matches.{Placed, placed}
use Rattle.select430.specs.Frames.{temporaries_at}
use Rattle.steps430.specs.Setting.{Setting, function_of, IsLaid}
use Rattle.steps430.specs.Holds.{is_missing, HasCode, value_code}
use Rattle.steps430.specs.Follows.{DoesStep}
use Rattle.steps430.proofs.Outcomes.{operand_follows, depth_follows, asked_follows}
use Rattle.steps430.proofs.Steps.{begins, falls}
use Rattle.steps430.proofs.Plain.{room_of, placing}
use Rattle.steps430.proofs.Passing.{passes}
use Rattle.steps430.proofs.Words.{wrapped_number}

abbrev fine : Value → Result Value ℕ
fine v = Ok v

abbrev wrong : ℕ → Result Value ℕ
wrong n = Err n

same_value : (a b : Value) → fine a ≡ fine b → a ≡ b
same_value a b k = cc

no_value : {A : Type 0} (n : ℕ) (c : Value) → wrong n ≡ fine c → A
no_value n c k = absurd (differ k)
  where
    differ : wrong n ≡ fine c → ⊥
    differ j = cc

plus_there : (s : State) (t : IntType) (v c : Value) → operated_one s un.Plus t v ≡ Ok c → is_missing v ≡ false
unfolding operated_one
plus_there s t (Int z) c k = refl
plus_there s t (Pointer n o) c k = refl
plus_there s t Null c k = refl
plus_there s t Undefined c k = no_value 11 c k

plus_fit : (alive : List Placed) (s : State) (t : IntType) (v c : Value) (w : ℕ) → operated_one s un.Plus t v ≡ Ok c
    → HasCode (value_code alive v) w → HasCode (value_code alive c) w
unfolding operated_one unary
plus_fit alive s t (Int z) c w k has =
    subst (λ (y : Value). HasCode (value_code alive y) w) (same_value (Int (number t z)) c k) (has ∙ sym (wrapped_number t z))
plus_fit alive s t (Pointer n o) c w k has = no_value 0 c k
plus_fit alive s t Null c w k has = no_value 0 c k
plus_fit alive s t Undefined c w k has = no_value 11 c k

pub plus_does : (p : Setting) (lay : IsLaid p) (d : ℕ) (t : IntType) (x : Operand)
    → DoesStep p (placing x) (step.Unary d un.Plus t x)
plus_does p lay d t x f q first ts ls node r u e h =
    begins p lay (placing x) _ (step.Unary d un.Plus t x) f q first node ts ls r u e h
    (λ all own segment sp ps rr m st y stage low stands code.
    operand_follows p (placing x) _ node first x ts _ r (λ v us g.
    depth_follows p (placing x) _ d us _ r (λ depth.
    asked_follows p (placing x) _ node (λ s. operated_one s un.Plus t v) _ r (λ c ok.
    let fn : IrFunction = function_of p f in
    let room = room_of (temporaries_at fn) d (taken x) 1 fn.frame stands.room (omega arith) in
    passes p lay f q (q + 1) first ls r all own segment sp ps rr m st y x d ts v us (temporary.Value c) stage low
    (falls p lay (step.Unary d un.Plus t x) f q node (rr 0) tt stands code) g
    (plus_there r.state t v c ok) depth stands.named room
    (λ w has. plus_fit (placed p.core (kept r.state)) r.state t v c w ok has)))))

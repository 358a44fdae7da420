-- The two routines of unsigned division.
use Rattle.std.proofs.Common.{◌≡◌, ℕ, ◌+◌, ◌/◌, ◌%◌, refl, sym, ◌∙◌, subst, arith, Bool, false, List, [], ◌∷◌, ◌⊎◌, inl, inr}
use Rattle.std.proofs.lemmas.Bool.{cases_eq}
use Rattle.isa430.specs.declared.instr.TwoOp.TheVariants.{Mov}
use Rattle.isa430.specs.declared.instr.Src.TheVariants.{Reg, Increment}
use Rattle.isa430.specs.declared.instr.Dst.TheVariants.{Reg as ToReg}
use Rattle.isa430.specs.declared.instr.Instr.{Instr}
use Rattle.isa430.specs.declared.instr.Instr.TheVariants.{Two}
use Rattle.core430.specs.Step.{State}
use Rattle.run430.specs.Code.{Placed, words_of_code}
use Rattle.run430.specs.Routine.{IsCall, RoutineReads, RoutineWrites}
use Rattle.run430.proofs.Words.{Agrees-self}
use Rattle.run430.proofs.Placing.{places, moved}
use Rattle.run430.proofs.Steady.{steady_sets}
use Rattle.run430.proofs.Operands.{in_register, to_register}
use Rattle.rt430.specs.declared.words.Helper.TheVariants.{Udiv16, Umod16}
use Rattle.rt430.specs.Routines.{always_kept, kept_by, Answers, Returns, Computes}
use Rattle.run430.proofs.Return.{kept_self}
use Rattle.rt430.proofs.Stretch.{at_most, Went, then_went, owns, comes_back}
use Rattle.rt430.proofs.Divide.{divide_then, After, divides, divides_none}

abbrev return_part : List Instr
return_part = Two Mov false (Increment 1) (ToReg 0) ∷ []

abbrev rest_part : List Instr
rest_part = Two Mov false (Reg 14) (ToReg 12) ∷ return_part

abbrev pub quotient_code : List Instr
quotient_code = divide_then return_part

abbrev pub remainder_code : List Instr
remainder_code = divide_then rest_part

-- ---- the quotient

quotient_back : (denied : ℕ → Bool) (base x y a b : ℕ) (s : State) (h : IsCall denied (words_of_code quotient_code) base x y s) (placed : Placed s.memory base (base + 26) base quotient_code) → Went denied (RoutineReads base 26 (s.regs 1)) (RoutineWrites (s.regs 1)) (s.regs 1) s.memory 146 s.regs (After denied (RoutineReads base 26 (s.regs 1)) (RoutineWrites (s.regs 1)) base (base + 26) (owns base 26 (s.regs 1)) base (s.regs 1) (s.regs 11) s.regs s.memory return_part placed a b y) → Answers Udiv16 denied (words_of_code quotient_code) base a s
quotient_back denied base x y a b s h placed w =
    let e : base + 2 + 4 + 2 + 2 + 2 + 2 + 2 + 2 + 2 + 2 + 2 ≡ base + 24 = omega arith in
    let back = moved s.memory base (base + 26) _ _ return_part e placed.1.1.1.1.1.1.1.1.1.1.1 in
    comes_back denied base 26 (base + 24) 146 a (kept_by Udiv16) s (λ r a b c k. k) h.stack_even (omega arith) back.0 (record { steps = w.steps; within = w.within; end = w.end; runs = w.runs; so = record { place = w.so.place; stack = w.so.stack; answers = w.so.quotient_is; kept = (w.so.kept.0, (w.so.sign_is, (w.so.divisor_is ∙ sym h.second, w.so.kept.1))) } })

quotient_placed : (denied : ℕ → Bool) (base x y : ℕ) (s : State) → IsCall denied (words_of_code quotient_code) base x y s → Placed s.memory base (base + 26) base quotient_code
quotient_placed denied base x y s h =
    let high = h.base_high in
    places s.memory base (base + 26) (omega arith) quotient_code base h.words refl h.base_even (omega arith) (omega arith)

pub quotient_answers : Computes Udiv16 (words_of_code quotient_code)
quotient_answers denied base x y s h d =
    let placed = quotient_placed denied base x y s h in
    quotient_back denied base x y (x / y) (x % y) s h placed (divides denied (RoutineReads base 26 (s.regs 1)) (RoutineWrites (s.regs 1)) base (base + 26) (owns base 26 (s.regs 1)) base (s.regs 1) (s.regs 11) s.regs s.memory return_part placed x y s.regs (omega (arith, d)) h.second_word h.first_word h.place refl h.first h.second refl (kept_self always_kept s.regs))

pub quotient_returns : Returns Udiv16 (words_of_code quotient_code)
quotient_returns denied base x y s h = by_case (cases_eq y 0)
  where
    by_case : ((y ≡ 0) ⊎ (y ≡ 0 → ⊥)) → (answer : ℕ) × Answers Udiv16 denied (words_of_code quotient_code) base answer s
    by_case (inr d) = (x / y, quotient_answers denied base x y s h d)
    by_case (inl e) =
        let placed = quotient_placed denied base x y s h in
        let z = divides_none denied (RoutineReads base 26 (s.regs 1)) (RoutineWrites (s.regs 1)) base (base + 26) (owns base 26 (s.regs 1)) base (s.regs 1) (s.regs 11) s.regs s.memory return_part placed x s.regs h.first_word h.place refl h.first (h.second ∙ e) refl (kept_self always_kept s.regs) in
        (z.0, quotient_back denied base x 0 z.0 z.1 s (subst (λ (k : ℕ). IsCall denied (words_of_code quotient_code) base x k s) e h) placed z.2)

-- ---- the remainder

remainder_back : (denied : ℕ → Bool) (base x y a b : ℕ) (s : State) (h : IsCall denied (words_of_code remainder_code) base x y s) (placed : Placed s.memory base (base + 28) base remainder_code) → Went denied (RoutineReads base 28 (s.regs 1)) (RoutineWrites (s.regs 1)) (s.regs 1) s.memory 146 s.regs (After denied (RoutineReads base 28 (s.regs 1)) (RoutineWrites (s.regs 1)) base (base + 28) (owns base 28 (s.regs 1)) base (s.regs 1) (s.regs 11) s.regs s.memory rest_part placed a b y) → Answers Umod16 denied (words_of_code remainder_code) base b s
remainder_back denied base x y a b s h placed w =
    let e : base + 2 + 4 + 2 + 2 + 2 + 2 + 2 + 2 + 2 + 2 + 2 ≡ base + 24 = omega arith in
    let tail = moved s.memory base (base + 28) _ _ rest_part e placed.1.1.1.1.1.1.1.1.1.1.1 in
    let e2 : base + 24 + 2 ≡ base + 26 = omega arith in
    let back = moved s.memory base (base + 28) _ _ return_part e2 tail.1 in
    comes_back denied base 28 (base + 26) 147 b (kept_by Umod16) s (λ r a b c k. k) h.stack_even (omega arith) back.0
    (then_went denied (RoutineReads base 28 (s.regs 1)) (RoutineWrites (s.regs 1)) (s.regs 1) s.memory 146 1 s.regs _ _ w (λ t f.
    let p = moved s.memory base (base + 28) _ _ rest_part (sym f.place) tail in
    let place : t 0 + 2 ≡ base + 26 = omega (arith, f.place) in
    record {
      steps = 1;
      within = omega arith;
      end = _;
      runs = steady_sets denied (RoutineReads base 28 (s.regs 1)) (RoutineWrites (s.regs 1)) s.memory base (base + 28) (owns base 28 (s.regs 1)) (s.regs 1) 0 _ _ _ Mov false (Reg 14) (ToReg 12) _ _ _ (Agrees-self s.memory base (base + 28)) p.0 in_register to_register refl tt tt refl (at_most f.stack) refl;
      so = record { place = place; stack = f.stack; answers = f.remainder_is; kept = (f.kept.0, (f.sign_is, (f.divisor_is ∙ sym h.second, f.kept.1))) };
    }))

remainder_placed : (denied : ℕ → Bool) (base x y : ℕ) (s : State) → IsCall denied (words_of_code remainder_code) base x y s → Placed s.memory base (base + 28) base remainder_code
remainder_placed denied base x y s h =
    let high = h.base_high in
    places s.memory base (base + 28) (omega arith) remainder_code base h.words refl h.base_even (omega arith) (omega arith)

pub remainder_answers : Computes Umod16 (words_of_code remainder_code)
remainder_answers denied base x y s h d =
    let placed = remainder_placed denied base x y s h in
    remainder_back denied base x y (x / y) (x % y) s h placed (divides denied (RoutineReads base 28 (s.regs 1)) (RoutineWrites (s.regs 1)) base (base + 28) (owns base 28 (s.regs 1)) base (s.regs 1) (s.regs 11) s.regs s.memory rest_part placed x y s.regs (omega (arith, d)) h.second_word h.first_word h.place refl h.first h.second refl (kept_self always_kept s.regs))

pub remainder_returns : Returns Umod16 (words_of_code remainder_code)
remainder_returns denied base x y s h = by_case (cases_eq y 0)
  where
    by_case : ((y ≡ 0) ⊎ (y ≡ 0 → ⊥)) → (answer : ℕ) × Answers Umod16 denied (words_of_code remainder_code) base answer s
    by_case (inr d) = (x % y, remainder_answers denied base x y s h d)
    by_case (inl e) =
        let placed = remainder_placed denied base x y s h in
        let z = divides_none denied (RoutineReads base 28 (s.regs 1)) (RoutineWrites (s.regs 1)) base (base + 28) (owns base 28 (s.regs 1)) base (s.regs 1) (s.regs 11) s.regs s.memory rest_part placed x s.regs h.first_word h.place refl h.first (h.second ∙ e) refl (kept_self always_kept s.regs) in
        (z.1, remainder_back denied base x 0 z.0 z.1 s (subst (λ (k : ℕ). IsCall denied (words_of_code remainder_code) base x k s) e h) placed z.2)

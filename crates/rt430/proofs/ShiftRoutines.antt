-- The three routines that shift.
use Rattle.std.proofs.Common.{◌≡◌, ℕ, zero, suc, ◌+◌, ◌*◌, ◌/◌, ◌%◌, ◌<◌, refl, sym, ap, ◌∙◌, subst, arith, Bool, false, [], ◌∷◌}
use Rattle.std.specs.Prelude.{◌^◌, ℤ, pos, negsuc}
use Rattle.isa430.specs.declared.instr.TwoOp.TheVariants.{Add}
use Rattle.isa430.specs.declared.instr.OneOp.TheVariants.{Rra, Rrc}
use Rattle.isa430.specs.declared.instr.Gen.TheVariants.{Zero}
use Rattle.isa430.specs.declared.instr.Src.TheVariants.{Reg, Constant}
use Rattle.isa430.specs.declared.instr.Dst.TheVariants.{Reg as ToReg}
use Rattle.isa430.specs.declared.instr.Instr.TheVariants.{Two, One}
use Rattle.base16.specs.Integer.{signed, wrapped}
use Rattle.core430.specs.Arithmetic.{shifted, is_negative}
use Rattle.core430.specs.Step.{State}
use Rattle.run430.specs.Code.{words_of_code}
use Rattle.run430.specs.Routine.{IsCall, RoutineReads, RoutineWrites}
use Rattle.run430.proofs.Placing.{places, moved}
use Rattle.rt430.specs.Operators.{signed_right_shifted, halved}
use Rattle.rt430.specs.declared.words.Helper.TheVariants.{Shl, Shr, Sar}
use Rattle.rt430.specs.Routines.{kept_by, Answers, Returns, Computes}
use Rattle.run430.proofs.Return.{kept_self}
use Rattle.rt430.proofs.Stretch.{owns, comes_back}
use Rattle.std.proofs.Math.Nat.{div-div-eq-div-mul}
use Rattle.std.proofs.lemmas.Nat.{mul-mod_first}
use Rattle.std.proofs.lemmas.Bool.Decides.{nat_tests}
use Rattle.rt430.proofs.Shifts.{return_part, turn_part, times, left_code, right_code, signed_right_code, whole, one_left, one_right, one_signed_right}

-- ---- so many places

left_times : (k x : ℕ) → x < 65536 → times (λ x. (2 * x) % 65536) k x ≡ (x * 2 ^ k) % 65536
left_times zero x l = let e : x ≡ (x * 1) % 65536 = omega arith in e
left_times (suc k) x l =
    let e : times (λ x. (2 * x) % 65536) k ((2 * x) % 65536) ≡ ((2 * x) % 65536 * 2 ^ k) % 65536 = left_times k ((2 * x) % 65536) (omega arith) in
    let d : 2 ^ suc k ≡ 2 * 2 ^ k = omega arith in
    e ∙ mul-mod_first (2 * x) (2 ^ k) 65536 ∙ ap (λ (i : ℕ). i % 65536) (let f : 2 * x * 2 ^ k ≡ x * (2 * 2 ^ k) = omega arith in f ∙ ap (λ (i : ℕ). x * i) (sym d))

right_times : (k x : ℕ) → times (λ x. x / 2) k x ≡ x / 2 ^ k
right_times zero x = let e : x ≡ x / 1 = omega arith in e
right_times (suc k) x =
    let d : 2 * 2 ^ k ≡ 2 ^ suc k = omega arith in
    right_times k (x / 2) ∙ div-div-eq-div-mul x 2 (2 ^ k) ∙ ap (λ (i : ℕ). x / i) d

-- one place of a signed word
halves_word : (x : ℕ) → x < 65536 → signed (shifted false (is_negative false x) x) ≡ halved (signed x) 1
halves_word x l = grind (arith, nat_tests)

halved_twice : (z : ℤ) (k : ℕ) → halved (halved z 1) k ≡ halved z (suc k)
halved_twice (pos n) k =
    let d : 2 * 2 ^ k ≡ 2 ^ suc k = omega arith in
    ap (λ (i : ℕ). pos i) (div-div-eq-div-mul n 2 (2 ^ k) ∙ ap (λ (i : ℕ). n / i) d)
halved_twice (negsuc n) k =
    let d : 2 * 2 ^ k ≡ 2 ^ suc k = omega arith in
    ap (λ (i : ℕ). negsuc i) (div-div-eq-div-mul n 2 (2 ^ k) ∙ ap (λ (i : ℕ). n / i) d)

word_back : (x : ℕ) → x < 65536 → wrapped (signed x) ≡ x
word_back x l = grind (arith, nat_tests)

halved_none : (z : ℤ) → halved z 0 ≡ z
halved_none (pos n) = ap (λ (i : ℕ). pos i) (let e : n / 1 ≡ n = omega arith in e)
halved_none (negsuc n) = ap (λ (i : ℕ). negsuc i) (let e : n / 1 ≡ n = omega arith in e)

word_kept : (x : ℕ) → x < 65536 → shifted false (is_negative false x) x < 65536
word_kept x l = grind (arith, nat_tests)

signed_right_times : (k x : ℕ) → x < 65536 → times (λ x. shifted false (is_negative false x) x) k x ≡ signed_right_shifted x k
signed_right_times zero x l = sym (word_back x l) ∙ ap wrapped (sym (halved_none (signed x)))
signed_right_times (suc k) x l = signed_right_times k (shifted false (is_negative false x) x) (word_kept x l) ∙ ap (λ (z : ℤ). wrapped (halved z k)) (halves_word x l) ∙ ap wrapped (halved_twice (signed x) k)

-- ---- the routines

count_is : (y : ℕ) → y < 16 → y % 16 ≡ y
count_is y l = omega arith

left_goes : (denied : ℕ → Bool) (base x y : ℕ) (s : State) → IsCall denied (words_of_code left_code) base x y s → Answers Shl denied (words_of_code left_code) base (times (λ x. (2 * x) % 65536) (y % 16) x) s
left_goes denied base x y s h =
    let high = h.base_high in
    let top : base + 14 < 65280 = omega arith in
    let p = places s.memory base (base + 14) top left_code base h.words refl h.base_even (omega arith) (omega arith) in
    let e4 : base + 4 + 2 ≡ base + 6 = omega arith in
    let e6 : base + 4 + 2 + 2 ≡ base + 6 + 2 = omega arith in
    let e12 : base + 6 + 2 + 4 ≡ base + 12 = omega arith in
    let shift = moved s.memory base (base + 14) _ _ (Two Add false (Reg 12) (ToReg 12) ∷ []) e4 (p.1.1.0, tt) in
    let turn = moved s.memory base (base + 14) _ _ (turn_part (negsuc 2)) e6 p.1.1.1 in
    let e10 : base + 6 + 2 + 2 + 2 ≡ base + 6 + 2 + 4 = omega arith in
    let back = moved s.memory base (base + 14) _ _ return_part e10 turn.1.1 in
    let one = one_left denied (RoutineReads base 14 (s.regs 1)) (RoutineWrites (s.regs 1)) base (base + 14) (owns base 14 (s.regs 1)) base (s.regs 1) s.regs s.memory shift.0 in
    comes_back denied base 14 (base + 6 + 2 + 4) 62 _ (kept_by Shl) s (λ r a b c k. k) h.stack_even (omega arith) back.0
    (whole denied (RoutineReads base 14 (s.regs 1)) (RoutineWrites (s.regs 1)) base (base + 14) (owns base 14 (s.regs 1)) base (s.regs 1) s.regs s.memory (λ x. (2 * x) % 65536) 2 2 3 p.0 p.1.0 turn.0 turn.1.0 refl refl (omega arith) one x y s.regs h.first_word h.place refl h.first h.second (kept_self (kept_by Shl) s.regs))

pub left_returns : Returns Shl (words_of_code left_code)
left_returns denied base x y s h = (times (λ x. (2 * x) % 65536) (y % 16) x, left_goes denied base x y s h)

pub left_answers : Computes Shl (words_of_code left_code)
left_answers denied base x y s h l = subst (λ (k : ℕ). Answers Shl denied (words_of_code left_code) base k s) (ap (λ (k : ℕ). times (λ x. (2 * x) % 65536) k x) (count_is y l) ∙ left_times y x h.first_word) (left_goes denied base x y s h)

signed_right_goes : (denied : ℕ → Bool) (base x y : ℕ) (s : State) → IsCall denied (words_of_code signed_right_code) base x y s → Answers Sar denied (words_of_code signed_right_code) base (times (λ x. shifted false (is_negative false x) x) (y % 16) x) s
signed_right_goes denied base x y s h =
    let high = h.base_high in
    let top : base + 14 < 65280 = omega arith in
    let p = places s.memory base (base + 14) top signed_right_code base h.words refl h.base_even (omega arith) (omega arith) in
    let e4 : base + 4 + 2 ≡ base + 6 = omega arith in
    let e6 : base + 4 + 2 + 2 ≡ base + 6 + 2 = omega arith in
    let shift = moved s.memory base (base + 14) _ _ (One Rra false (Reg 12) ∷ []) e4 (p.1.1.0, tt) in
    let turn = moved s.memory base (base + 14) _ _ (turn_part (negsuc 2)) e6 p.1.1.1 in
    let e10 : base + 6 + 2 + 2 + 2 ≡ base + 6 + 2 + 4 = omega arith in
    let back = moved s.memory base (base + 14) _ _ return_part e10 turn.1.1 in
    let one = one_signed_right denied (RoutineReads base 14 (s.regs 1)) (RoutineWrites (s.regs 1)) base (base + 14) (owns base 14 (s.regs 1)) base (s.regs 1) s.regs s.memory shift.0 in
    comes_back denied base 14 (base + 6 + 2 + 4) 62 _ (kept_by Sar) s (λ r a b c k. k) h.stack_even (omega arith) back.0
    (whole denied (RoutineReads base 14 (s.regs 1)) (RoutineWrites (s.regs 1)) base (base + 14) (owns base 14 (s.regs 1)) base (s.regs 1) s.regs s.memory (λ x. shifted false (is_negative false x) x) 2 2 3 p.0 p.1.0 turn.0 turn.1.0 refl refl (omega arith) one x y s.regs h.first_word h.place refl h.first h.second (kept_self (kept_by Shl) s.regs))

pub signed_right_returns : Returns Sar (words_of_code signed_right_code)
signed_right_returns denied base x y s h = (times (λ x. shifted false (is_negative false x) x) (y % 16) x, signed_right_goes denied base x y s h)

pub signed_right_answers : Computes Sar (words_of_code signed_right_code)
signed_right_answers denied base x y s h l = subst (λ (k : ℕ). Answers Sar denied (words_of_code signed_right_code) base k s) (ap (λ (k : ℕ). times (λ x. shifted false (is_negative false x) x) k x) (count_is y l) ∙ signed_right_times y x h.first_word) (signed_right_goes denied base x y s h)

right_goes : (denied : ℕ → Bool) (base x y : ℕ) (s : State) → IsCall denied (words_of_code right_code) base x y s → Answers Shr denied (words_of_code right_code) base (times (λ x. x / 2) (y % 16) x) s
right_goes denied base x y s h =
    let high = h.base_high in
    let top : base + 16 < 65280 = omega arith in
    let p = places s.memory base (base + 16) top right_code base h.words refl h.base_even (omega arith) (omega arith) in
    let e4 : base + 4 + 2 ≡ base + 6 = omega arith in
    let e8 : base + 4 + 2 + 2 ≡ base + 8 = omega arith in
    let e6 : base + 4 + 2 + 2 + 2 ≡ base + 6 + 4 = omega arith in
    let shift = moved s.memory base (base + 16) _ _ (Two Add false (Constant Zero) (ToReg 12) ∷ []) e4 (p.1.1.0, tt) in
    let shift2 = moved s.memory base (base + 16) _ _ (One Rrc false (Reg 12) ∷ []) e8 (p.1.1.1.0, tt) in
    let turn = moved s.memory base (base + 16) _ _ (turn_part (negsuc 3)) e6 p.1.1.1.1 in
    let e10 : base + 6 + 4 + 2 + 2 ≡ base + 6 + 4 + 4 = omega arith in
    let back = moved s.memory base (base + 16) _ _ return_part e10 turn.1.1 in
    let one = one_right denied (RoutineReads base 16 (s.regs 1)) (RoutineWrites (s.regs 1)) base (base + 16) (owns base 16 (s.regs 1)) base (s.regs 1) s.regs s.memory shift.0 shift2.0 in
    comes_back denied base 16 (base + 6 + 4 + 4) 62 _ (kept_by Shr) s (λ r a b c k. k) h.stack_even (omega arith) back.0
    (whole denied (RoutineReads base 16 (s.regs 1)) (RoutineWrites (s.regs 1)) base (base + 16) (owns base 16 (s.regs 1)) base (s.regs 1) s.regs s.memory (λ x. x / 2) 4 3 4 p.0 p.1.0 turn.0 turn.1.0 refl refl (omega arith) one x y s.regs h.first_word h.place refl h.first h.second (kept_self (kept_by Shl) s.regs))

pub right_returns : Returns Shr (words_of_code right_code)
right_returns denied base x y s h = (times (λ x. x / 2) (y % 16) x, right_goes denied base x y s h)

pub right_answers : Computes Shr (words_of_code right_code)
right_answers denied base x y s h l = subst (λ (k : ℕ). Answers Shr denied (words_of_code right_code) base k s) (ap (λ (k : ℕ). times (λ x. x / 2) k x) (count_is y l) ∙ right_times y x) (right_goes denied base x y s h)

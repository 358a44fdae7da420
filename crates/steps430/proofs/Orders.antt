-- Comparisons of two numbers.
use Rattle.std.proofs.Common.{◌≡◌, ℕ, ◌+◌, ◌-◌, ◌<◌, refl, sym, ap, ◌∙◌, subst, arith, Bool, true, false, not, List, ◌∷◌, ◌++◌, drop, Ok, if◌then◌else◌}
use Rattle.std.proofs.lemmas.Int.{ints}
use Rattle.std.proofs.lemmas.Bool.Decides.{nat_tests}
use Rattle.std.proofs.lemmas.List.{append_assoc}
use Rattle.std.specs.Prelude.{ℤ, pos, negsuc, nat_eq, nat_lt, nat_le, int_lt, int_le}
use Rattle.base16.specs.Integer.{wrapped, signed}
use Rattle.base16.specs.declared.integer.IntType.{IntType}
use Rattle.base16.specs.declared.integer.IntType.TheVariants as int
use Rattle.base16.specs.declared.operator.BinaryOp.{BinaryOp}
use Rattle.base16.specs.declared.operator.BinaryOp.TheVariants as op
use Rattle.isa430.specs.declared.instr.TwoOp.TheVariants.{Cmp}
use Rattle.isa430.specs.declared.instr.Cond.{Cond}
use Rattle.isa430.specs.declared.instr.Cond.TheVariants.{Nz, Z, Nc, C, Ge, Less}
use Rattle.isa430.specs.declared.instr.Src.TheVariants.{Reg}
use Rattle.isa430.specs.declared.instr.Dst.TheVariants.{Reg as ToReg}
use Rattle.isa430.specs.declared.instr.Instr.TheVariants.{Two}
use Rattle.core430.specs.Arithmetic.{difference_status}
use Rattle.core430.specs.Registers.{set_reg}
use Rattle.core430.specs.Instructions.{is_taken}
use Rattle.run430.proofs.FlagLemmas.{signed_less, compare_carry, compare_zero, compare_less, compare_greater_or_equal}
use Rattle.c_run.specs.Actions.{kept}
use Rattle.c_values.specs.Operators.{number, truth, int_eq, binary}
use Rattle.c_values.specs.Values.{right_type}
use Rattle.c_values.specs.declared.value.Value.{Value}
use Rattle.cells430.specs.Stretch.{Course, outside}
use Rattle.ir.specs.declared.control.Temporary.TheVariants as temporary
use Rattle.ir.specs.declared.control.Control.TheVariants.{At}
use Rattle.ir.specs.declared.form.IrFunction.{IrFunction}
use Rattle.ir.specs.declared.form.Operand.{Operand}
use Rattle.ir.specs.declared.form.Operation.TheVariants as operation
use Rattle.ir.specs.declared.form.StepKind.TheVariants as step
use Rattle.ir.specs.Machine.{computed}
use Rattle.ir.specs.Table.{taken}
use Rattle.matching.specs.Matches.{Placed, placed}
use Rattle.select430.specs.Frames.{temporaries_at}
use Rattle.select430.specs.declared.part.Part.{Part}
use Rattle.select430.specs.declared.part.Part.TheVariants.{Do}
use Rattle.select430.specs.Code.{bring, keep, operate, is_signed, truth_where}
use Rattle.steps430.specs.Setting.{Setting, function_of, step_at, IsLaid}
use Rattle.steps430.specs.Holds.{is_missing, HasCode, value_code}
use Rattle.steps430.specs.Standing.{StandsAt}
use Rattle.steps430.specs.Follows.{DoesStep}
use Rattle.steps430.proofs.Moves.{From, from_do, level}
use Rattle.steps430.proofs.Outcomes.{depth_follows, asked_follows}
use Rattle.steps430.proofs.Steps.{begins, falls, keeps_last}
use Rattle.steps430.proofs.Plain.{room_of}
use Rattle.steps430.proofs.Pairs.{operands_follow, brings_two}
use Rattle.steps430.proofs.Words.{wrapped_small}
use Rattle.steps430.proofs.Sums.{are_numbers, good, same_number}
use Rattle.steps430.proofs.Conditions.{flag, truth_sets, compares, compares_back}

-- ---- the order of numbers and of their words

signed_from : (a b : ℕ) (c d : Bool) → a < 65536 → b < 65536 → nat_lt a 32768 ≡ c → nat_lt b 32768 ≡ d
    → int_lt (if c then pos a else negsuc (65535 - a)) (if d then pos b else negsuc (65535 - b)) ≡ signed_less false a b
signed_from a b true true small_a small_b e f = grind (arith, nat_tests, ints)
signed_from a b true false small_a small_b e f = grind (arith, nat_tests, ints)
signed_from a b false true small_a small_b e f = grind (arith, nat_tests, ints)
signed_from a b false false small_a small_b e f = grind (arith, nat_tests, ints)

pub signed_order : (a b : ℕ) → a < 65536 → b < 65536 → int_lt (signed a) (signed b) ≡ signed_less false a b
signed_order a b small_a small_b = signed_from a b (nat_lt a 32768) (nat_lt b 32768) small_a small_b refl refl

pub not_above : (x y : ℤ) → int_le x y ≡ not (int_lt y x)
not_above x y = grind (arith, ints)

same_from : (a b : ℕ) (c d : Bool) → a < 65536 → b < 65536 → nat_lt a 32768 ≡ c → nat_lt b 32768 ≡ d
    → int_eq (if c then pos a else negsuc (65535 - a)) (if d then pos b else negsuc (65535 - b)) ≡ nat_eq a b
same_from a b true true small_a small_b e f = grind (arith, nat_tests, ints)
same_from a b true false small_a small_b e f = grind (arith, nat_tests, ints)
same_from a b false true small_a small_b e f = grind (arith, nat_tests, ints)
same_from a b false false small_a small_b e f = grind (arith, nat_tests, ints)

pub same_numbers : (t : IntType) (i j : ℤ) → int_eq (number t i) (number t j) ≡ nat_eq (wrapped i) (wrapped j)
unfolding number
same_numbers int.Int i j =
    same_from (wrapped i) (wrapped j) (nat_lt (wrapped i) 32768) (nat_lt (wrapped j) 32768) (wrapped_small i)
    (wrapped_small j) refl refl
same_numbers int.UInt i j = unsigned_same (wrapped i) (wrapped j)
  where
    unsigned_same : (a b : ℕ) → int_eq (pos a) (pos b) ≡ nat_eq a b
    unsigned_same a b = grind (arith, nat_tests, ints)
same_numbers int.Char i j = unsigned_same (wrapped i) (wrapped j)
  where
    unsigned_same : (a b : ℕ) → int_eq (pos a) (pos b) ≡ nat_eq a b
    unsigned_same a b = grind (arith, nat_tests, ints)

unsigned_order : (a b : ℕ) → int_lt (pos a) (pos b) ≡ nat_lt a b
unsigned_order a b = grind (arith, nat_tests, ints)

pub below_carry : (status a b : ℕ) → is_taken Nc (difference_status false status false a b) ≡ nat_lt a b
below_carry status a b = ap not (compare_carry false status a b) ∙ turn a b
  where
    turn : (a b : ℕ) → not (nat_le b a) ≡ nat_lt a b
    turn a b = grind (arith, nat_tests)

-- the words of two numbers are compared: the first is less
pub less_taken : (t : IntType) (i j : ℤ) (status : ℕ)
    → is_taken (if is_signed t then Less else Nc) (difference_status false status false (wrapped i) (wrapped j))
    ≡ int_lt (number t i) (number t j)
unfolding number
less_taken int.Int i j status =
    compare_less false status (wrapped i) (wrapped j) (wrapped_small i) (wrapped_small j)
    ∙ sym (signed_order (wrapped i) (wrapped j) (wrapped_small i) (wrapped_small j))
less_taken int.UInt i j status = below_carry status (wrapped i) (wrapped j) ∙ sym (unsigned_order (wrapped i) (wrapped j))
less_taken int.Char i j status = below_carry status (wrapped i) (wrapped j) ∙ sym (unsigned_order (wrapped i) (wrapped j))

-- the first is not less
pub reach_taken : (t : IntType) (i j : ℤ) (status : ℕ)
    → is_taken (if is_signed t then Ge else C) (difference_status false status false (wrapped i) (wrapped j))
    ≡ not (int_lt (number t i) (number t j))
unfolding number
reach_taken int.Int i j status =
    compare_greater_or_equal false status (wrapped i) (wrapped j) (wrapped_small i) (wrapped_small j)
    ∙ ap not (sym (signed_order (wrapped i) (wrapped j) (wrapped_small i) (wrapped_small j)))
reach_taken int.UInt i j status =
    compare_carry false status (wrapped i) (wrapped j) ∙ turn (wrapped i) (wrapped j)
    ∙ ap not (sym (unsigned_order (wrapped i) (wrapped j)))
  where
    turn : (a b : ℕ) → nat_le b a ≡ not (nat_lt a b)
    turn a b = grind (arith, nat_tests)
reach_taken int.Char i j status =
    compare_carry false status (wrapped i) (wrapped j) ∙ turn (wrapped i) (wrapped j)
    ∙ ap not (sym (unsigned_order (wrapped i) (wrapped j)))
  where
    turn : (a b : ℕ) → nat_le b a ≡ not (nat_lt a b)
    turn a b = grind (arith, nat_tests)

pub same_taken : (t : IntType) (i j : ℤ) (status : ℕ)
    → is_taken Z (difference_status false status false (wrapped i) (wrapped j)) ≡ int_eq (number t i) (number t j)
same_taken t i j status =
    compare_zero false status (wrapped i) (wrapped j) (wrapped_small i) (wrapped_small j) ∙ sym (same_numbers t i j)

pub flag_word : (b : Bool) → wrapped (truth b) ≡ flag b
flag_word true = refl
flag_word false = refl

pub answer : (b c : Bool) (k : ℤ) → good (truth b) ≡ good k → c ≡ b → wrapped k ≡ flag c
answer b c k e f = ap wrapped (sym (same_number (truth b) k e)) ∙ flag_word b ∙ ap flag (sym f)

-- ---- the step

module _ (p : Setting) (lay : IsLaid p) where
  -- the flags of R12 against R13 tell
  compare_front : (d : ℕ) (o : BinaryOp) (t own : IntType) (left right : Operand) (cond : Cond)
      → operate o t ≡ Do (Two Cmp false (Reg 13) (ToReg 12)) ∷ truth_where cond
      → ((i j k : ℤ) (status : ℕ) → binary o t (number t i) (number (right_type o t own) j) ≡ Ok k
      → wrapped k ≡ flag (is_taken cond (difference_status false status false (wrapped i) (wrapped j))))
      → DoesStep p 7 (step.Binary d (operation.Integers o t own) left right)
  compare_front d o t kind left right cond same test f q first ts ls node r u e h =
      begins p lay 7 _ (step.Binary d (operation.Integers o t kind) left right) f q first node ts ls r u e h
      (λ all own segment sp ps rr m st y stage low stands code.
      operands_follow p 7 _ node first left right ts _ r (λ a b us ws g k.
      depth_follows p 7 _ d ws _ r (λ depth.
      asked_follows p 7 _ node (λ s. computed s (operation.Integers o t kind) a b) _ r (λ c ok.
      let fn : IrFunction = function_of p f in
      let end : ℕ = step_at p f (q + 1) in
      let alive : List Placed = placed p.core (kept r.state) in
      let num = are_numbers o t kind a b c ok in
      let room = room_of (temporaries_at fn) d (taken left + taken right) 1 fn.frame stands.room (omega arith) in
      let there_a : is_missing a ≡ false = ap is_missing num.is_left in
      let there_b : is_missing b ≡ false = ap is_missing num.is_right in
      let whole = falls p lay (step.Binary d (operation.Integers o t kind) left right) f q node (rr 0) tt stands code in
      let split : From p f (rr 0) (bring p.ir fn left d 12 ++ (bring p.ir fn right (d + taken left) 13 ++
      (operate o t ++ keep p.ir fn d 12))) end =
      subst (λ (parts : List Part). From p f (rr 0) parts end)
      (append_assoc (bring p.ir fn left d 12) (bring p.ir fn right (d + taken left) 13)
      (operate o t ++ keep p.ir fn d 12)) whole in
      let parts : From p f (rr 0) (bring p.ir fn left d 12 ++ (bring p.ir fn right (d + taken left) 13
      ++ (Do (Two Cmp false (Reg 13) (ToReg 12)) ∷ (truth_where cond ++ keep p.ir fn d 12)))) end =
      subst (λ (xs : List Part). From p f (rr 0) (bring p.ir fn left d 12 ++ (bring p.ir fn right (d + taken left) 13 ++
      (xs ++ keep p.ir fn d 12))) end)
      same split in
      let Q = StandsAt p (At f (q + 1) first (temporary.Value c ∷ ws) ls) r in
      let x : Course = outside r.state.marks (drop r.used p.readings) in
      brings_two p lay Q r.state r.next all own segment sp ps rr m st x y f q first ls 5 left right ts us ws a b d 12 13 end
      (Do (Two Cmp false (Reg 13) (ToReg 12)) ∷
      (truth_where cond ++ keep p.ir fn d 12)) stage g k there_a there_b depth stands.named parts
      (omega arith) (omega arith)
      (λ v w pc pc2 st2 y2 has_a has_b code2 stage2.
      let r1 : ℕ → ℕ = set_reg (set_reg (set_reg (set_reg rr 0 pc) 12 v) 0 pc2) 13 w in
      let here = from_do p f pc2 (Two Cmp false (Reg 13) (ToReg 12)) (truth_where cond ++ keep p.ir fn d 12) end code2 in
      let is_a : v ≡ wrapped num.left = subst (λ (z : Value). HasCode (value_code alive z) v) num.is_left has_a in
      let is_b : w ≡ wrapped num.right = subst (λ (z : Value). HasCode (value_code alive z) w) num.is_right has_b in
      compares p Q 4 r.state r.next (level f q first ws ∷ ls) all own segment sp sp ps r1 m st2 x y2 stage2 here.0
      (λ r2 st3 y3 at_pc in_flags stage3.
      let status : r2 2 ≡ difference_status false (r1 2) false (wrapped num.left) (wrapped num.right) =
      in_flags ∙ ap (λ (z : ℕ). difference_status false (r1 2) false z w) is_a
      ∙ ap (λ (z : ℕ). difference_status false (r1 2) false (wrapped num.left) z) is_b in
      truth_sets p Q 1 r.state r.next (level f q first ws ∷ ls) all own segment sp sp ps r2 m st3 x y3 f cond (is_taken cond
      (r2 2))
      (keep p.ir fn d 12) end stage3 refl
      (subst (λ (z : ℕ). From p f z (truth_where cond ++ keep p.ir fn d 12) end) (sym at_pc) here.1)
      (λ r3 st4 y4 in_r12 code4 stage4.
      let word : r3 12 ≡ wrapped num.result =
      in_r12 ∙ ap (λ (z : ℕ). flag (is_taken cond z)) status ∙ sym (test num.left num.right num.result (r1 2) num.computes) in
      let has : HasCode (value_code alive c) (r3 12) =
      subst (λ (z : Value). HasCode (value_code alive z) (r3 12)) (sym num.is_result) word in
      keeps_last p lay 0 f q (q + 1) first d 12 (r3 12) (temporary.Value c) ws ls r all own segment sp ps r3 m st4 y4 stage4 low
      code4 depth room refl has)))))))

  -- those of R13 against R12 tell
  compare_back : (d : ℕ) (o : BinaryOp) (t own : IntType) (left right : Operand) (cond : Cond)
      → operate o t ≡ Do (Two Cmp false (Reg 12) (ToReg 13)) ∷ truth_where cond
      → ((i j k : ℤ) (status : ℕ) → binary o t (number t i) (number (right_type o t own) j) ≡ Ok k
      → wrapped k ≡ flag (is_taken cond (difference_status false status false (wrapped j) (wrapped i))))
      → DoesStep p 7 (step.Binary d (operation.Integers o t own) left right)
  compare_back d o t kind left right cond same test f q first ts ls node r u e h =
      begins p lay 7 _ (step.Binary d (operation.Integers o t kind) left right) f q first node ts ls r u e h
      (λ all own segment sp ps rr m st y stage low stands code.
      operands_follow p 7 _ node first left right ts _ r (λ a b us ws g k.
      depth_follows p 7 _ d ws _ r (λ depth.
      asked_follows p 7 _ node (λ s. computed s (operation.Integers o t kind) a b) _ r (λ c ok.
      let fn : IrFunction = function_of p f in
      let end : ℕ = step_at p f (q + 1) in
      let alive : List Placed = placed p.core (kept r.state) in
      let num = are_numbers o t kind a b c ok in
      let room = room_of (temporaries_at fn) d (taken left + taken right) 1 fn.frame stands.room (omega arith) in
      let there_a : is_missing a ≡ false = ap is_missing num.is_left in
      let there_b : is_missing b ≡ false = ap is_missing num.is_right in
      let whole = falls p lay (step.Binary d (operation.Integers o t kind) left right) f q node (rr 0) tt stands code in
      let split : From p f (rr 0) (bring p.ir fn left d 12 ++ (bring p.ir fn right (d + taken left) 13 ++
      (operate o t ++ keep p.ir fn d 12))) end =
      subst (λ (parts : List Part). From p f (rr 0) parts end)
      (append_assoc (bring p.ir fn left d 12) (bring p.ir fn right (d + taken left) 13)
      (operate o t ++ keep p.ir fn d 12)) whole in
      let parts : From p f (rr 0) (bring p.ir fn left d 12 ++ (bring p.ir fn right (d + taken left) 13
      ++ (Do (Two Cmp false (Reg 12) (ToReg 13)) ∷ (truth_where cond ++ keep p.ir fn d 12)))) end =
      subst (λ (xs : List Part). From p f (rr 0) (bring p.ir fn left d 12 ++ (bring p.ir fn right (d + taken left) 13 ++
      (xs ++ keep p.ir fn d 12))) end)
      same split in
      let Q = StandsAt p (At f (q + 1) first (temporary.Value c ∷ ws) ls) r in
      let x : Course = outside r.state.marks (drop r.used p.readings) in
      brings_two p lay Q r.state r.next all own segment sp ps rr m st x y f q first ls 5 left right ts us ws a b d 12 13 end
      (Do (Two Cmp false (Reg 12) (ToReg 13)) ∷
      (truth_where cond ++ keep p.ir fn d 12)) stage g k there_a there_b depth stands.named parts
      (omega arith) (omega arith)
      (λ v w pc pc2 st2 y2 has_a has_b code2 stage2.
      let r1 : ℕ → ℕ = set_reg (set_reg (set_reg (set_reg rr 0 pc) 12 v) 0 pc2) 13 w in
      let here = from_do p f pc2 (Two Cmp false (Reg 12) (ToReg 13)) (truth_where cond ++ keep p.ir fn d 12) end code2 in
      let is_a : v ≡ wrapped num.left = subst (λ (z : Value). HasCode (value_code alive z) v) num.is_left has_a in
      let is_b : w ≡ wrapped num.right = subst (λ (z : Value). HasCode (value_code alive z) w) num.is_right has_b in
      compares_back p Q 4 r.state r.next (level f q first ws ∷ ls) all own segment sp sp ps r1 m st2 x y2 stage2 here.0
      (λ r2 st3 y3 at_pc in_flags stage3.
      let status : r2 2 ≡ difference_status false (r1 2) false (wrapped num.right) (wrapped num.left) =
      in_flags ∙ ap (λ (z : ℕ). difference_status false (r1 2) false w z) is_a
      ∙ ap (λ (z : ℕ). difference_status false (r1 2) false z (wrapped num.left)) is_b in
      truth_sets p Q 1 r.state r.next (level f q first ws ∷ ls) all own segment sp sp ps r2 m st3 x y3 f cond (is_taken cond
      (r2 2))
      (keep p.ir fn d 12) end stage3 refl
      (subst (λ (z : ℕ). From p f z (truth_where cond ++ keep p.ir fn d 12) end) (sym at_pc) here.1)
      (λ r3 st4 y4 in_r12 code4 stage4.
      let word : r3 12 ≡ wrapped num.result =
      in_r12 ∙ ap (λ (z : ℕ). flag (is_taken cond z)) status ∙ sym (test num.left num.right num.result (r1 2) num.computes) in
      let has : HasCode (value_code alive c) (r3 12) =
      subst (λ (z : Value). HasCode (value_code alive z) (r3 12)) (sym num.is_result) word in
      keeps_last p lay 0 f q (q + 1) first d 12 (r3 12) (temporary.Value c) ws ls r all own segment sp ps r3 m st4 y4 stage4 low
      code4 depth room refl has)))))))

  pub less_does : (d : ℕ) (t own : IntType) (left right : Operand)
      → DoesStep p 7 (step.Binary d (operation.Integers op.Less t own) left right)
  unfolding binary
  less_does d t own left right =
      compare_front d op.Less t own left right (if is_signed t then Less else Nc) refl
      (λ i j k status e. answer (int_lt (number t i) (number t j)) _ k e (less_taken t i j status))

  pub greater_does : (d : ℕ) (t own : IntType) (left right : Operand)
      → DoesStep p 7 (step.Binary d (operation.Integers op.Greater t own) left right)
  unfolding binary
  greater_does d t own left right =
      compare_back d op.Greater t own left right (if is_signed t then Less else Nc) refl
      (λ i j k status e. answer (int_lt (number t j) (number t i)) _ k e (less_taken t j i status))

  pub less_equal_does : (d : ℕ) (t own : IntType) (left right : Operand)
      → DoesStep p 7 (step.Binary d (operation.Integers op.LessEq t own) left right)
  unfolding binary
  less_equal_does d t own left right =
      compare_back d op.LessEq t own left right (if is_signed t then Ge else C) refl
      (λ i j k status e. answer (int_le (number t i) (number t j)) _ k e
      (reach_taken t j i status ∙ sym (not_above (number t i) (number t j))))

  pub greater_equal_does : (d : ℕ) (t own : IntType) (left right : Operand)
      → DoesStep p 7 (step.Binary d (operation.Integers op.GreaterEq t own) left right)
  unfolding binary
  greater_equal_does d t own left right =
      compare_front d op.GreaterEq t own left right (if is_signed t then Ge else C) refl
      (λ i j k status e. answer (int_le (number t j) (number t i)) _ k e
      (reach_taken t i j status ∙ sym (not_above (number t j) (number t i))))

  pub equal_does : (d : ℕ) (t own : IntType) (left right : Operand)
      → DoesStep p 7 (step.Binary d (operation.Integers op.Equal t own) left right)
  unfolding binary
  equal_does d t own left right =
      compare_front d op.Equal t own left right Z refl
      (λ i j k status e. answer (int_eq (number t i) (number t j)) _ k e (same_taken t i j status))

  pub not_equal_does : (d : ℕ) (t own : IntType) (left right : Operand)
      → DoesStep p 7 (step.Binary d (operation.Integers op.NotEqual t own) left right)
  unfolding binary
  not_equal_does d t own left right =
      compare_front d op.NotEqual t own left right Nz refl
      (λ i j k status e. answer (not (int_eq (number t i) (number t j))) _ k e (ap not (same_taken t i j status)))

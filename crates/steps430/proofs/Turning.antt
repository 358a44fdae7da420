-- Steps that turn the sign or the bits of a number, and those that make a char of it.
use Rattle.std.proofs.Common.{◌≡◌, ℕ, ◌+◌, ◌*◌, ◌-◌, ◌%◌, refl, sym, ap, ◌∙◌, subst, arith, true, false, List, ◌∷◌, ◌++◌, drop, Result, Ok, Err}
use Rattle.std.proofs.lemmas.Nat.{and_mask}
use Rattle.std.specs.Int.Bits.{xor_add_and}
use Rattle.std.specs.Prelude.{ℤ, pos, negsuc, ◌-ℤ◌, bit_and, bit_xor}
use Rattle.base16.specs.Integer.{wrapped}
use Rattle.base16.specs.declared.integer.IntType.{IntType}
use Rattle.base16.specs.declared.integer.IntType.TheVariants as int
use Rattle.base16.specs.declared.operator.UnaryOp.{UnaryOp}
use Rattle.base16.specs.declared.operator.UnaryOp.TheVariants as un
use Rattle.isa430.specs.declared.instr.TwoOp.TheVariants.{Mov, Xor}
use Rattle.isa430.specs.declared.instr.Src.TheVariants.{Reg}
use Rattle.isa430.specs.declared.instr.Dst.TheVariants.{Reg as ToReg}
use Rattle.isa430.specs.declared.instr.Instr.TheVariants.{Two}
use Rattle.core430.specs.Registers.{set_reg}
use Rattle.c_run.specs.Actions.{kept}
use Rattle.c_values.specs.Operators.{as_type, number, unary}
use Rattle.c_values.specs.Values.{int_value, operated_alone, operated_one, converted}
use Rattle.c_values.specs.declared.state.State.{State}
use Rattle.c_values.specs.declared.value.Value.{Value}
use Rattle.c_values.specs.declared.value.Value.TheVariants.{Int, Pointer, Null, Undefined}
use Rattle.cells430.specs.Stretch.{Course, outside}
use Rattle.ir.specs.declared.control.Temporary.TheVariants as temporary
use Rattle.ir.specs.declared.control.Control.TheVariants.{At}
use Rattle.ir.specs.declared.form.IrFunction.{IrFunction}
use Rattle.ir.specs.declared.form.Operand.{Operand}
use Rattle.ir.specs.declared.form.StepKind.TheVariants as step
use Rattle.ir.specs.Table.{taken}
use Rattle.ir.specs.Typed.{IsWide}
use Rattle.matching.specs.Matches.{Placed, placed}
use Rattle.select430.specs.Frames.{temporaries_at}
use Rattle.select430.specs.declared.part.Part.TheVariants.{Do}
use Rattle.select430.specs.Code.{constant, keep, negated}
use Rattle.steps430.specs.Setting.{Setting, function_of, step_at, IsLaid}
use Rattle.steps430.specs.Holds.{is_missing, HasCode, value_code}
use Rattle.steps430.specs.Standing.{StandsAt}
use Rattle.steps430.specs.Follows.{DoesStep}
use Rattle.steps430.proofs.Moves.{From, from_do, level}
use Rattle.steps430.proofs.Outcomes.{operand_follows, depth_follows, asked_follows, given_follows}
use Rattle.steps430.proofs.Values.{number_is}
use Rattle.steps430.proofs.Operands.{brings_value}
use Rattle.steps430.proofs.Steps.{begins, falls, keeps_last, left_by}
use Rattle.steps430.proofs.Plain.{room_of}
use Rattle.steps430.proofs.Words.{wrapped_small, wrapped_number, wrapped_type, wrapped_settled, wrapped_difference}
use Rattle.steps430.proofs.Numbers.{Turns, operates_number}
use Rattle.steps430.proofs.Stores.{narrows}
use Rattle.steps430.proofs.Scaled.{negates}

-- ---- one number that is computed with

abbrev fine : Value → Result Value ℕ
fine v = Ok v

abbrev wrong : ℕ → Result Value ℕ
wrong n = Err n

abbrev good : ℤ → Result ℤ ℕ
good z = Ok z

same_number : (a b : ℤ) → good a ≡ good b → a ≡ b
same_number a b e = cc

same_value : (a b : Value) → fine a ≡ fine b → a ≡ b
same_value a b e = cc

no_value : {A : Type 0} (n : ℕ) (c : Value) → wrong n ≡ fine c → A
no_value n c e = absurd (differ e)
  where
    differ : wrong n ≡ fine c → ⊥
    differ k = cc

record IsNumber (o : UnaryOp) (t : IntType) (v c : Value) : Type 0 where
  pub plain : ℤ
  pub result : ℤ
  pub is : v ≡ Int plain
  pub value : Int result ≡ c
  pub computes : unary o t (number t plain) ≡ Ok result

number_alone : (o : UnaryOp) (t : IntType) (v c : Value) → operated_alone o t v ≡ Ok c → IsNumber o t v c
number_alone o t (Int z) c e = from (unary o t (number t z)) refl e
  where
    from : (x : Result ℤ ℕ) → unary o t (number t z) ≡ x → int_value x ≡ fine c → IsNumber o t (Int z) c
    from (Ok k) i h = record { plain = z; result = k; is = refl; value = same_value (Int k) c h; computes = i }
    from (Err n) i h = no_value n c h
number_alone o t (Pointer n offset) c e = no_value 0 c e
number_alone o t Null c e = no_value 0 c e
number_alone o t Undefined c e = no_value 11 c e

minus_number : (s : State) (t : IntType) (v c : Value) → operated_one s un.Minus t v ≡ Ok c → IsNumber un.Minus t v c
unfolding operated_one
minus_number s t v c e = number_alone un.Minus t v c e

complement_number : (s : State) (t : IntType) (v c : Value) → operated_one s un.Complement t v ≡ Ok c
    → IsNumber un.Complement t v c
unfolding operated_one
complement_number s t v c e = number_alone un.Complement t v c e

minus_word : (t : IntType) (z k : ℤ) (w : ℕ) → IsWide t → unary un.Minus t (number t z) ≡ Ok k → w ≡ wrapped z
    → (65536 - w) % 65536 ≡ wrapped k
unfolding unary
minus_word t z k w wide e is =
    let s = wrapped_settled t (pos 0 -ℤ number t z) k wide e in
    let difference = wrapped_difference (pos 0) (number t z) in
    let same = wrapped_number t z in
    omega arith

complement_word : (t : IntType) (z k : ℤ) (w : ℕ) → IsWide t → unary un.Complement t (number t z) ≡ Ok k → w ≡ wrapped z
    → bit_xor w 65535 ≡ wrapped k
unfolding unary
complement_word t z k w wide e is =
    let s = wrapped_type t (negsuc 0 -ℤ number t z) wide in
    let whole : wrapped (as_type t (negsuc 0 -ℤ number t z)) ≡ wrapped k = ap wrapped (same_number _ k e) in
    let difference = wrapped_difference (negsuc 0) (number t z) in
    let same = wrapped_number t z in
    let small = wrapped_small z in
    let a : bit_xor w 65535 + bit_and w 65535 * 2 ≡ w + 65535 = xor_add_and w 65535 in
    let b : bit_and w 65535 ≡ w % 65536 = and_mask w 16 in
    omega arith

module _ (p : Setting) (lay : IsLaid p) where
  pub minus_does : (d : ℕ) (t : IntType) (x : Operand) → IsWide t → DoesStep p 4 (step.Unary d un.Minus t x)
  minus_does d t x wide f q first ts ls node r u e h =
      begins p lay 4 _ (step.Unary d un.Minus t x) f q first node ts ls r u e h
      (λ all own segment sp ps rr m st y stage low stands code.
      operand_follows p 4 _ node first x ts _ r (λ v us g.
      depth_follows p 4 _ d us _ r (λ depth.
      asked_follows p 4 _ node (λ s. operated_one s un.Minus t v) _ r (λ c ok.
      let fn : IrFunction = function_of p f in
      let end : ℕ = step_at p f (q + 1) in
      let alive : List Placed = placed p.core (kept r.state) in
      let num = minus_number r.state t v c ok in
      let room = room_of (temporaries_at fn) d (taken x) 1 fn.frame stands.room (omega arith) in
      let Q = StandsAt p (At f (q + 1) first (temporary.Value c ∷ us) ls) r in
      let z : Course = outside r.state.marks (drop r.used p.readings) in
      brings_value p lay Q r.state r.next all own segment sp ps rr m st z y f q first ls 3 x ts v us d 12 end
      (negated ++ keep p.ir fn d 12) stage g (ap is_missing num.is) depth stands.named
      (falls p lay (step.Unary d un.Minus t x) f q node (rr 0) tt stands code) (omega arith)
      (λ w pc st2 y2 has code2 stage2.
      let r1 : ℕ → ℕ = set_reg (set_reg rr 0 pc) 12 w in
      let word : w ≡ wrapped num.plain = subst (λ (k : Value). HasCode (value_code alive k) w) num.is has in
      negates p lay Q r.state r.next (level f q first ts ∷ ls) all own segment sp sp ps z f end (keep p.ir fn d 12) 1 r1 m st2 y2
      stage2 code2
      (λ r2 m2 st3 y3 in_r12 same spares code3 stage3.
      keeps_last p lay 0 f q (q + 1) first d 12 (r2 12) (temporary.Value c) us ls r all own segment sp ps r2 m2 st3 y3
      (left_by p r.state r.next all own segment sp sp ps r2 m2 st3 f q first x ts v us ls g stage3) low code3 depth room refl
      (subst (λ (k : Value). HasCode (value_code alive k) (r2 12)) num.value
      (in_r12 ∙ minus_word t num.plain num.result w wide num.computes word))))))))

  pub complement_does : (d : ℕ) (t : IntType) (x : Operand) → IsWide t → DoesStep p 3 (step.Unary d un.Complement t x)
  complement_does d t x wide f q first ts ls node r u e h =
      begins p lay 3 _ (step.Unary d un.Complement t x) f q first node ts ls r u e h
      (λ all own segment sp ps rr m st y stage low stands code.
      operand_follows p 3 _ node first x ts _ r (λ v us g.
      depth_follows p 3 _ d us _ r (λ depth.
      asked_follows p 3 _ node (λ s. operated_one s un.Complement t v) _ r (λ c ok.
      let fn : IrFunction = function_of p f in
      let end : ℕ = step_at p f (q + 1) in
      let alive : List Placed = placed p.core (kept r.state) in
      let num = complement_number r.state t v c ok in
      let room = room_of (temporaries_at fn) d (taken x) 1 fn.frame stands.room (omega arith) in
      let Q = StandsAt p (At f (q + 1) first (temporary.Value c ∷ us) ls) r in
      let z : Course = outside r.state.marks (drop r.used p.readings) in
      brings_value p lay Q r.state r.next all own segment sp ps rr m st z y f q first ls 2 x ts v us d 12 end
      (Do (Two Xor false (constant (negsuc 0)) (ToReg 12)) ∷ keep p.ir fn d 12) stage g (ap is_missing num.is) depth stands.named
      (falls p lay (step.Unary d un.Complement t x) f q node (rr 0) tt stands code) (omega arith)
      (λ w pc st2 y2 has code2 stage2.
      let r1 : ℕ → ℕ = set_reg (set_reg rr 0 pc) 12 w in
      let word : w ≡ wrapped num.plain = subst (λ (k : Value). HasCode (value_code alive k) w) num.is has in
      let i = from_do p f pc (Two Xor false (constant (negsuc 0)) (ToReg 12)) (keep p.ir fn d 12) end code2 in
      operates_number p Q 1 r.state r.next (level f q first ts ∷ ls) all own segment sp sp ps r1 m st2 z y2 Xor
      (constant (negsuc 0)) (wrapped (negsuc 0)) Turns (number_is (negsuc 0)) stage2 i.0
      (λ r2 st3 y3 at_pc in_r12 stage3.
      keeps_last p lay 0 f q (q + 1) first d 12 (r2 12) (temporary.Value c) us ls r all own segment sp ps r2 m st3 y3
      (left_by p r.state r.next all own segment sp sp ps r2 m st3 f q first x ts v us ls g stage3) low
      (subst (λ (k : ℕ). From p f k (keep p.ir fn d 12) end) (sym at_pc) i.1) depth room refl
      (subst (λ (k : Value). HasCode (value_code alive k) (r2 12)) num.value
      (in_r12 ∙ complement_word t num.plain num.result w wide num.computes word))))))))

  -- ---- a char

  char_there : (v c : Value) → converted int.Char v ≡ Ok c → is_missing v ≡ false
  unfolding converted
  char_there (Int z) c e = refl
  char_there (Pointer n offset) c e = no_value 0 c e
  char_there Null c e = no_value 0 c e
  char_there Undefined c e = no_value 11 c e

  char_fit : (alive : List Placed) (v c : Value) (w : ℕ) → converted int.Char v ≡ Ok c
      → HasCode (value_code alive v) w → HasCode (value_code alive c) (w % 256)
  unfolding converted as_type
  char_fit alive (Int z) c w e has =
      let small = wrapped_small z in
      subst (λ (k : Value). HasCode (value_code alive k) (w % 256)) (same_value (Int (as_type int.Char z)) c e)
      (let same : w % 256 ≡ wrapped z % 256 % 65536 = omega arith in same)
  char_fit alive (Pointer n offset) c w e has = no_value 0 c e
  char_fit alive Null c w e has = no_value 0 c e
  char_fit alive Undefined c w e has = no_value 11 c e

  pub convert_char_does : (d : ℕ) (x : Operand) → DoesStep p 3 (step.Convert d int.Char x)
  convert_char_does d x f q first ts ls node r u e h =
      begins p lay 3 _ (step.Convert d int.Char x) f q first node ts ls r u e h
      (λ all own segment sp ps rr m st y stage low stands code.
      operand_follows p 3 _ node first x ts _ r (λ v us g.
      depth_follows p 3 _ d us _ r (λ depth.
      given_follows p 3 _ node (converted int.Char v) _ r (λ c ok.
      let fn : IrFunction = function_of p f in
      let end : ℕ = step_at p f (q + 1) in
      let alive : List Placed = placed p.core (kept r.state) in
      let room = room_of (temporaries_at fn) d (taken x) 1 fn.frame stands.room (omega arith) in
      let Q = StandsAt p (At f (q + 1) first (temporary.Value c ∷ us) ls) r in
      let z : Course = outside r.state.marks (drop r.used p.readings) in
      brings_value p lay Q r.state r.next all own segment sp ps rr m st z y f q first ls 2 x ts v us d 12 end
      (Do (Two Mov true (Reg 12) (ToReg 12)) ∷ keep p.ir fn d 12) stage g (char_there v c ok) depth stands.named
      (falls p lay (step.Convert d int.Char x) f q node (rr 0) tt stands code) (omega arith)
      (λ w pc st2 y2 has code2 stage2.
      let r1 : ℕ → ℕ = set_reg (set_reg rr 0 pc) 12 w in
      let i = from_do p f pc (Two Mov true (Reg 12) (ToReg 12)) (keep p.ir fn d 12) end code2 in
      narrows p Q 1 r.state r.next (level f q first ts ∷ ls) all own segment sp sp ps r1 m st2 z y2 12 stage2 i.0 (omega arith)
      (λ st3 y3 stage3.
      let r2 : ℕ → ℕ = set_reg (set_reg r1 0 (pc + 2)) 12 (w % 256) in
      keeps_last p lay 0 f q (q + 1) first d 12 (w % 256) (temporary.Value c) us ls r all own segment sp ps r2 m st3 y3
      (left_by p r.state r.next all own segment sp sp ps r2 m st3 f q first x ts v us ls g stage3) low i.1 depth room refl
      (char_fit alive v c w ok has)))))))

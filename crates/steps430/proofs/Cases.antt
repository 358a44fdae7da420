-- A jump where a number is a given one.
use Rattle.std.proofs.Common.{◌≡◌, ℕ, suc, ◌+◌, ◌≤◌, refl, sym, ap, ◌∙◌, subst, arith, Bool, true, false, not, List, [], ◌∷◌, length, drop, Result, Ok, Err, if◌then◌else◌}
use Rattle.std.specs.Prelude.{ℤ, nat_eq}
use Rattle.base16.specs.Board.{segment_start}
use Rattle.base16.specs.Integer.{wrapped}
use Rattle.base16.specs.declared.integer.IntType.{IntType}
use Rattle.isa430.specs.declared.instr.TwoOp.TheVariants.{Mov, Cmp}
use Rattle.isa430.specs.declared.instr.Cond.TheVariants.{Nz}
use Rattle.isa430.specs.declared.instr.Src.{Src}
use Rattle.isa430.specs.declared.instr.Src.TheVariants.{Indexed, Immediate, Constant}
use Rattle.isa430.specs.declared.instr.Dst.TheVariants.{Reg as ToReg}
use Rattle.isa430.specs.declared.instr.Instr.TheVariants.{Two}
use Rattle.isa430.specs.Table.{size_of}
use Rattle.core430.specs.declared.operand.Place.TheVariants.{InRegister, Given}
use Rattle.core430.specs.Arithmetic.{difference_status}
use Rattle.core430.specs.Operands.{constant_of}
use Rattle.core430.specs.Registers.{set_reg}
use Rattle.core430.specs.Instructions.{is_taken}
use Rattle.run430.specs.Code.{Here}
use Rattle.run430.proofs.FlagLemmas.{compare_zero}
use Rattle.run430.proofs.Operands.{to_register, given, constant as generated}
use Rattle.ideal430.specs.Ideal.{Ideal, Meter}
use Rattle.ideal430.specs.Settled.{Bytes}
use Rattle.c_run.specs.Actions.{kept}
use Rattle.c_run.specs.Runs.{Went}
use Rattle.c_values.specs.Operators.{number, int_eq}
use Rattle.c_values.specs.Values.{numbered, integer}
use Rattle.c_values.specs.declared.state.State.{State}
use Rattle.c_values.specs.declared.value.Value.{Value}
use Rattle.c_values.specs.declared.value.Value.TheVariants.{Int, Pointer, Null, Undefined}
use Rattle.cells430.specs.Cells.{Cells}
use Rattle.cells430.specs.Stretch.{Course, outside, at, Leads}
use Rattle.cells430.proofs.Lift.{sets, leads_now}
use Rattle.ir.specs.declared.control.Temporary.{Temporary}
use Rattle.ir.specs.declared.control.Temporary.TheVariants as temporary
use Rattle.ir.specs.declared.control.Frame.{Frame}
use Rattle.ir.specs.declared.control.Control.TheVariants.{At}
use Rattle.ir.specs.declared.form.StepKind.TheVariants as step
use Rattle.ir.specs.Machine.{act}
use Rattle.matching.specs.Matches.{Placed, placed}
use Rattle.select430.specs.Frames.{temporary_at}
use Rattle.select430.specs.declared.part.Part.TheVariants.{Do, GoUnless}
use Rattle.select430.specs.Code.{constant}
use Rattle.steps430.specs.Setting.{Setting, function_of, step_at, IsLaid}
use Rattle.steps430.specs.Holds.{is_missing, HasCode, value_code}
use Rattle.steps430.specs.Standing.{StandsAt, Stage}
use Rattle.steps430.specs.Follows.{Follows, DoesStep}
use Rattle.steps430.proofs.Moves.{From, from_do, level, with_regs, with_level, without_top}
use Rattle.steps430.proofs.Outcomes.{value_follows, depth_follows, given_follows}
use Rattle.steps430.proofs.Values.{IsNumber, Own, Generated, number_is}
use Rattle.steps430.proofs.Operands.{brings_top}
use Rattle.steps430.proofs.Steps.{begins, falls, stands_next}
use Rattle.steps430.proofs.Words.{wrapped_small}
use Rattle.steps430.proofs.Orders.{same_numbers}
use Rattle.steps430.proofs.Branches.{goes_unless}

-- R12 is compared with a number
module _ (p : Setting) (Q : Ideal → Type 0) (n : ℕ) (s : State) (next : ℕ) (frames : List Frame) (all own : Cells)
    (segment base sp : ℕ) (ps r m : ℕ → ℕ) (st : Bytes) (x : Course) (y : Meter) where
  abbrev after : (size w : ℕ) → (ℕ → ℕ)
  after size w = set_reg (set_reg r 0 (r 0 + size)) 2 (difference_status false (r 2) false (r 12) w)

  pub compares_number : (src : Src) (w : ℕ) → IsNumber src w → Stage p s next frames all own segment base sp ps r m st
      → Here p.code p.low p.high (r 0) (Two Cmp false src (ToReg 12))
      → ((r2 : ℕ → ℕ) (st2 : Bytes) (y2 : Meter) → r2 0 ≡ r 0 + size_of (Two Cmp false src (ToReg 12))
      → r2 2 ≡ difference_status false (r 2) false (r 12) w
      → Stage p s next frames all own segment base sp ps r2 m st2 → Leads n (at segment ps r2 m st2 x y2) Q)
      → Leads (suc n) (at segment ps r m st x y) Q
  compares_number src w Own h here more =
      sets p.code p.low p.high segment sp ps h.ground Q n all h.shape r m st x y Cmp false (Immediate w) (ToReg 12) (Given w)
      (InRegister 12) (after 4 w) h.facts h.words here given to_register refl tt tt refl h.stack
      (λ st2 y2 facts wide. more (after 4 w) st2 y2 refl refl
      (with_regs p s next all own segment base sp ps frames r m (after 4 w) st st2 h.stack wide facts h))
  compares_number src w (Generated g) h here more =
      sets p.code p.low p.high segment sp ps h.ground Q n all h.shape r m st x y Cmp false (Constant g) (ToReg 12) (Given
      (constant_of g))
      (InRegister 12) (after 2 (constant_of g)) h.facts h.words here generated to_register refl tt tt refl h.stack
      (λ st2 y2 facts wide. more (after 2 (constant_of g)) st2 y2 refl refl
      (with_regs p s next all own segment base sp ps frames r m (after 2 (constant_of g)) st st2 h.stack wide facts h))

-- ---- the number of a value

abbrev fine : ℤ → Result ℤ ℕ
fine z = Ok z

abbrev wrong : ℕ → Result ℤ ℕ
wrong n = Err n

pub record IsInteger (of : IntType) (v : Value) (z : ℤ) : Type 0 where
  pub plain : ℤ
  pub is : v ≡ Int plain
  pub same : number of plain ≡ z

never : {A : Type 0} (n : ℕ) (z : ℤ) → wrong n ≡ fine z → A
never n z k = absurd (differ k)
  where
    differ : wrong n ≡ fine z → ⊥
    differ j = cc

same_integer : (a b : ℤ) → fine a ≡ fine b → a ≡ b
same_integer a b k = cc

is_integer : (of : IntType) (v : Value) (z : ℤ) → integer (numbered of v) ≡ Ok z → IsInteger of v z
is_integer of (Int k) z e = record { plain = k; is = refl; same = same_integer (number of k) z e }
is_integer of (Pointer n o) z e = never 0 z e
is_integer of Null z e = never 0 z e
is_integer of Undefined z e = never 11 z e

module _ (p : Setting) (lay : IsLaid p) where
  -- the number is one of its type
  pub case_does : (d : ℕ) (of : IntType) (n : ℤ) (to : ℕ) → number of n ≡ n → DoesStep p 4 (step.Case d of n to)
  case_does d of n to typed f q first ts ls node r u e h =
      begins p lay 4 (act p.ir p.readings node (step.Case d of n to) f q first ts ls r)
      (step.Case d of n to) f q first node ts ls r u e h
      (λ all own segment sp ps rr m st y stage low stands code.
      value_follows p 4 _ ts _ r (λ v us is.
      depth_follows p 4 _ d us _ r (λ depth.
      given_follows p 4 _ node (integer (numbered of v)) _ r (λ z ok.
      chosen v us is depth z ok (int_eq z n) refl all own segment sp ps rr m st y stage low
      (falls p lay (step.Case d of n to) f q node (rr 0) tt stands code)))))
    where
      x : Course
      x = outside r.state.marks (drop r.used p.readings)

      ended : (v : Value) (us : List Temporary) (b : Bool) (all own : Cells) (segment sp : ℕ) (ps r3 m : ℕ
          → ℕ) (st : Bytes) (y : Meter)
          → Stage p r.state r.next (level f q first (temporary.Value v ∷ us) ∷ ls) all own segment sp sp ps r3 m st
          → segment_start segment + 4 ≤ sp → r3 0 ≡ (if not b then step_at p f (q + 1) else step_at p f to)
          → StandsAt p (if b then At f to first us ls else At f (q + 1) first (temporary.Value v ∷ us) ls) r
          (at segment ps r3 m st (outside r.state.marks (drop r.used p.readings)) y)
      ended v us true all own segment sp ps r3 m st y stage low pc =
          stands_next p lay f to first us ls r all own segment sp ps r3 m st y
          (without_top p r.state r.next all own segment sp sp ps f q to first (temporary.Value v) us ls r3 m st stage) low pc
      ended v us false all own segment sp ps r3 m st y stage low pc =
          stands_next p lay f (q + 1) first (temporary.Value v ∷ us) ls r all own segment sp ps r3 m st y
          (with_level p r.state r.next all own segment sp sp ps f q (q + 1) first (temporary.Value v ∷ us)
          (temporary.Value v ∷ us) ls
          r3 m st (λ a k. k) stage) low pc

      chosen : (v : Value) (us : List Temporary) → ts ≡ temporary.Value v ∷ us → length us ≡ d → (z : ℤ)
          → integer (numbered of v) ≡ Ok z → (b : Bool) → int_eq z n ≡ b
          → (all own : Cells) (segment sp : ℕ) (ps rr m : ℕ → ℕ) (st : Bytes) (y : Meter)
          → Stage p r.state r.next (level f q first ts ∷ ls) all own segment sp sp ps rr m st → segment_start segment + 4 ≤ sp
          → From p f (rr 0) (Do (Two Mov false (Indexed 1 (temporary_at (function_of p f) d)) (ToReg 12))
          ∷ Do (Two Cmp false (constant n) (ToReg 12)) ∷ GoUnless Nz to ∷ []) (step_at p f (q + 1))
          → Follows p 4 (Went (if b then At f to first us ls else At f (q + 1) first (temporary.Value v ∷ us) ls) r)
          (at segment ps rr m st (outside r.state.marks (drop r.used p.readings)) y)
      chosen v us is depth z ok b sure all own segment sp ps rr m st y stage low code =
          let alive : List Placed = placed p.core (kept r.state) in
          let end : ℕ = step_at p f (q + 1) in
          let num = is_integer of v z ok in
          let Q : Ideal → Type 0 = StandsAt p (if b then At f to first us ls else At f (q + 1) first
          (temporary.Value v ∷ us) ls) r in
          brings_top p lay Q r.state r.next all own segment sp ps rr m st x y f q first ls 3 (temporary.Value v) us d 12 end
          (Do (Two Cmp false (constant n) (ToReg 12)) ∷ GoUnless Nz to ∷ [])
          (subst (λ (xs : List Temporary). Stage p r.state r.next
          (level f q first xs ∷ ls) all own segment sp sp ps rr m st) is stage)
          (ap (λ (k : Value). not (is_missing k)) num.is) depth code (omega arith) (λ w pc st2 y2 has code2 stage2.
          let r1 : ℕ → ℕ = set_reg (set_reg rr 0 pc) 12 w in
          let c = from_do p f pc (Two Cmp false (constant n) (ToReg 12)) (GoUnless Nz to ∷ []) end code2 in
          let word : w ≡ wrapped num.plain = subst (λ (k : Value). HasCode (value_code alive k) w) num.is has in
          compares_number p Q 2 r.state r.next (level f q first
          (temporary.Value v ∷ us) ∷ ls) all own segment sp sp ps r1 m st2 x y2
          (constant n) (wrapped n) (number_is n) stage2 c.0 (λ r2 st3 y3 at_pc in_flags stage3.
          let equal : int_eq (number of num.plain) (number of n) ≡ nat_eq (wrapped num.plain)
          (wrapped n) = same_numbers of num.plain n in
          let told : b ≡ nat_eq (wrapped num.plain) (wrapped n) =
          sym sure ∙ ap (λ (k : ℤ). int_eq k n) (sym num.same) ∙ ap (λ (k : ℤ). int_eq (number of num.plain) k) (sym typed)
          ∙ equal in
          let flags : is_taken Nz (r2 2) ≡ not b =
          ap (λ (k : ℕ). is_taken Nz k) (in_flags ∙ ap (λ (k : ℕ). difference_status false (r1 2) false k (wrapped n)) word)
          ∙ ap not (compare_zero false (r1 2) (wrapped num.plain) (wrapped n) (wrapped_small num.plain) (wrapped_small n))
          ∙ ap not (sym told) in
          goes_unless p lay Q 0 r.state r.next (level f q first
          (temporary.Value v ∷ us) ∷ ls) all own segment sp sp ps r2 m st3 x y3 f to
          end Nz (not b) stage3 flags (subst (λ (k : ℕ). From p f k (GoUnless Nz to ∷ []) end) (sym at_pc) c.1)
          (λ r3 st4 y4 at_target stage4. leads_now 0 _ Q (ended v us b all own segment sp ps r3 m st4 y4 stage4 low at_target))))

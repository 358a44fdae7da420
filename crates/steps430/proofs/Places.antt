-- Steps on places: a pointer is made of a place, and a scalar is read at a place.
use Rattle.std.proofs.Common.{◌≡◌, ℕ, suc, ◌+◌, ◌*◌, ◌%◌, ◌<◌, ◌≤◌, refl, ap, ◌∙◌, subst, arith, Bool, true, false, not, List, ◌∷◌, length, drop, Option, Some, None, Result, Ok, Err, if◌then◌else◌}
use Rattle.std.proofs.lemmas.Bool.{lt-ltb, eqb-true}
use Rattle.std.proofs.lemmas.Bool.Decides.{nat_tests}
use Rattle.std.specs.Prelude.{nat_eq, nat_lt, nat_le}
use Rattle.base16.specs.declared.image.Kind.{Kind}
use Rattle.isa430.specs.declared.instr.TwoOp.TheVariants.{Mov}
use Rattle.isa430.specs.declared.instr.Src.TheVariants.{Indexed, Indirect}
use Rattle.isa430.specs.declared.instr.Dst.TheVariants.{Reg as ToReg}
use Rattle.isa430.specs.declared.instr.Instr.TheVariants.{Two}
use Rattle.isa430.specs.Table.{size_of}
use Rattle.core430.specs.declared.operand.Place.TheVariants.{InRegister, InMemory}
use Rattle.core430.specs.Registers.{set_reg}
use Rattle.core430.specs.Instructions.{Sets}
use Rattle.run430.proofs.Rules.{Source, next as next_regs}
use Rattle.run430.proofs.Operands.{from_pointer, byte_from_pointer}
use Rattle.ideal430.specs.Ideal.{Ideal, Meter}
use Rattle.ideal430.specs.Settled.{Bytes}
use Rattle.c_run.specs.Actions.{kept}
use Rattle.c_values.specs.Objects.{accessed, object_of}
use Rattle.c_values.specs.Pointers.{end_of, pointer_within, address_in, address_from, address}
use Rattle.c_values.specs.declared.state.Object.{Object}
use Rattle.c_values.specs.declared.state.State.{State}
use Rattle.c_values.specs.declared.value.Location.{Location}
use Rattle.c_values.specs.declared.value.Value.{Value}
use Rattle.c_values.specs.declared.value.Value.TheVariants.{Pointer, Null}
use Rattle.cells430.specs.Cells.{Cell, Word, Cells, Shape}
use Rattle.cells430.specs.Stretch.{Course, outside, at, Leads}
use Rattle.cells430.proofs.Cells.{live_below}
use Rattle.cells430.proofs.Lift.{two_given}
use Rattle.ir.specs.declared.control.Temporary.{Temporary}
use Rattle.ir.specs.declared.control.Temporary.TheVariants as temporary
use Rattle.ir.specs.declared.control.Frame.{Frame}
use Rattle.ir.specs.declared.control.Control.TheVariants.{At}
use Rattle.ir.specs.declared.form.IrFunction.{IrFunction}
use Rattle.ir.specs.declared.form.StepKind.TheVariants as step
use Rattle.matching.specs.Covering.{cell_by, cell_of}
use Rattle.matching.specs.Matches.{Placed, address_of, pointer_code, placed}
use Rattle.select430.specs.Frames.{temporaries_at, temporary_at}
use Rattle.select430.specs.declared.part.Part.{Part}
use Rattle.select430.specs.declared.part.Part.TheVariants.{Do}
use Rattle.select430.specs.Code.{is_char, keep}
use Rattle.steps430.specs.Setting.{Setting, function_of, step_at, IsLaid}
use Rattle.steps430.specs.Holds.{is_missing, HasCode, object_address, place_code, value_code, CallHolds}
use Rattle.steps430.specs.Standing.{StandsAt, Stage}
use Rattle.steps430.specs.Follows.{DoesStep}
use Rattle.steps430.proofs.Moves.{From, from_do, level, with_level, without_top}
use Rattle.steps430.proofs.Outcomes.{place_follows, depth_follows, asked_follows, load_follows}
use Rattle.steps430.proofs.Reading.{reads}
use Rattle.steps430.proofs.Values.{brings_cell, narrow_kind}
use Rattle.steps430.proofs.Operands.{brings_top}
use Rattle.steps430.proofs.Steps.{begins, falls, stands_now, keeps_last}
use Rattle.steps430.proofs.Plain.{room_of}
use Rattle.steps430.proofs.Passing.{turned}

-- ---- a pointer to a place

abbrev fine : Value → Result Value ℕ
fine v = Ok v

abbrev wrong : ℕ → Result Value ℕ
wrong n = Err n

same_value : (a b : Value) → fine a ≡ fine b → a ≡ b
same_value a b e = cc

no_value : {A : Type 0} (n : ℕ) (b : Value) → wrong n ≡ fine b → A
no_value n b e = absurd (differ e)
  where
    differ : wrong n ≡ fine b → ⊥
    differ k = cc

-- the code of a place at an offset of an object
abbrev code_at : List Placed → Option ℕ → ℕ → Option ℕ
code_at alive x offset = if nat_lt offset 65536 then pointer_code (object_address alive x) offset else None

within_fit : (alive : List Placed) (n offset end w : ℕ) (v : Value) → end ≤ 65535 → pointer_within n offset end ≡ Ok v
    → HasCode (code_at alive (Some n) offset) w → HasCode (value_code alive v) w
within_fit alive n offset end w v most e has = from (nat_le offset end) refl e
  where
    small : nat_le offset end ≡ true → nat_lt offset 65536 ≡ true
    small k = grind (arith, nat_tests)

    from : (b : Bool) → nat_le offset end ≡ b → (if b then fine (Pointer n offset) else wrong 4) ≡ fine v
        → HasCode (value_code alive v) w
    from true k j =
        subst (λ (x : Value). HasCode (value_code alive x) w) (same_value (Pointer n offset) v j)
        (subst (λ (b : Bool). HasCode (if b then pointer_code (address_of alive n) offset else None) w) (small k) has)
    from false k j = no_value 4 v j

point_fit : (alive : List Placed) (s : State) (x : Option ℕ) (offset w : ℕ) (v : Value) → address_from s offset x ≡ Ok v
    → HasCode (code_at alive x offset) w → HasCode (value_code alive v) w
point_fit alive s None offset w v e has = from (nat_eq offset 0) refl e
  where
    from : (b : Bool) → nat_eq offset 0 ≡ b → (if b then fine Null else wrong 12) ≡ fine v → HasCode (value_code alive v) w
    from true k j =
        subst (λ (y : Value). HasCode (value_code alive y) w) (same_value Null v j)
        (subst (λ (o : ℕ). HasCode (code_at alive None o) w) (eqb-true offset 0 k) has)
    from false k j = no_value 12 v j
point_fit alive s (Some n) offset w v e has = from (object_of s n) e
  where
    from : (o : Option Object) → address_in n offset o ≡ fine v → HasCode (value_code alive v) w
    from None j = within_fit alive n offset 65535 w v (omega arith) j has
    from (Some o) j = within_fit alive n offset (end_of o) w v (omega arith) j has

pointed_at : (alive : List Placed) (s : State) (l : Location) (w : ℕ) (v : Value) → address s l ≡ Ok v
    → HasCode (place_code alive l) w
    → HasCode (value_code alive v) w
unfolding address
pointed_at alive s l w v e has = point_fit alive s l.object l.offset w v e has

module _ (p : Setting) (lay : IsLaid p) where
  pub point_does : (d : ℕ) → DoesStep p 0 (step.PointTo d)
  point_does d f q first ts ls node r t e h =
      begins p lay 0 _ (step.PointTo d) f q first node ts ls r t e h (λ all own segment sp ps rr m st y stage low stands code.
      place_follows p 0 _ ts _ r (λ l us is.
      depth_follows p 0 _ d us _ r (λ depth.
      asked_follows p 0 _ node (λ s. address s l) _ r (λ v ok.
      let alive : List Placed = placed p.core (kept r.state) in
      stands_now p lay 0 f q (q + 1) first ts (temporary.Value v ∷ us) ls r all own segment sp ps rr m st y
      (with_level p r.state r.next all own segment sp sp ps f q (q + 1) first ts (temporary.Value v ∷ us) ls rr m st
      (λ a k. turned all alive (function_of p f) a (temporary.Place l) (temporary.Value v) us refl
      (λ w has. pointed_at alive r.state l w v ok has)
      (subst (λ (xs : List Temporary). CallHolds all alive (function_of p f) a xs) is k)) stage)
      low (falls p lay (step.PointTo d) f q node (rr 0) tt stands code)))))

-- ---- a scalar at a place

-- a place that is accessed has the address of the scalar
place_address : (alive : List Placed) (l : Location) (n base w : ℕ) → l.object ≡ Some n → address_of alive n ≡ Some base
    → base + l.offset < 65536 → HasCode (place_code alive l) w → w ≡ base + l.offset
place_address alive l n base w e there small has =
    let low : nat_lt l.offset 65536 ≡ true = lt-ltb l.offset 65536 (omega arith) in
    let code : place_code alive l ≡ Some ((base + l.offset) % 65536) =
    ap (λ (b : Bool). if b then pointer_code (object_address alive l.object) l.offset else None) low
    ∙ ap (λ (x : Option ℕ). pointer_code (object_address alive x) l.offset) e
    ∙ ap (λ (x : Option ℕ). pointer_code x l.offset) there in
    let is : w ≡ (base + l.offset) % 65536 = subst (λ (x : Option ℕ). HasCode x w) code has in
    omega arith

source_through : (byte : Bool) (segment sp : ℕ) (ps r : ℕ → ℕ) (all : Cells) (a w : ℕ) → Shape segment sp ps all → r 12 ≡ a
    → all a ≡ Some (cell_by (not byte) (Some w))
    → Source byte (next_regs (Two Mov byte (Indirect 12) (ToReg 12)) r) (Indirect 12) (InMemory a)
source_through false segment sp ps r all a w h is cell = from_pointer is (h.fits a (Word (Some w)) cell).0
source_through true segment sp ps r all a w h is cell = byte_from_pointer is

effect_through : (byte : Bool) (r m : ℕ → ℕ) (w : ℕ)
    → two_given Mov byte (Indirect 12) (ToReg 12) r m (InRegister 12) w
    ≡ Sets (set_reg (set_reg r 0 (r 0 + size_of (Two Mov byte (Indirect 12) (ToReg 12)))) 12 w)
effect_through false r m w = refl
effect_through true r m w = refl

module _ (p : Setting) (lay : IsLaid p) (Q : Ideal → Type 0) where
  -- the scalar at the place on top comes into R12
  pub reads_place : (n : ℕ) (s : State) (next : ℕ) (all own : Cells) (segment sp : ℕ) (ps r m : ℕ → ℕ) (st : Bytes) (x : Course)
      (y : Meter) (f q first : ℕ) (ls : List Frame) (l : Location) (us : List Temporary) (kd : Kind) (v : Value) (d end : ℕ)
      (more : List Part) → Stage p s next (level f q first (temporary.Place l ∷ us) ∷ ls) all own segment sp sp ps r m st
      → accessed s l kd ≡ Ok v → is_missing v ≡ false → length us ≡ d
      → From p f (r 0) (Do (Two Mov false (Indexed 1 (temporary_at (function_of p f) d)) (ToReg 12))
      ∷ Do (Two Mov (is_char kd) (Indirect 12) (ToReg 12)) ∷ more) end
      → ((r2 : ℕ → ℕ) (w : ℕ) (st2 : Bytes) (y2 : Meter) → r2 12 ≡ w → HasCode (value_code (placed p.core (kept s)) v) w
      → From p f (r2 0) more end
      → Stage p s next (level f q first (temporary.Place l ∷ us) ∷ ls) all own segment sp sp ps r2 m st2
      → Leads n (at segment ps r2 m st2 x y2) Q)
      → Leads (suc (suc n)) (at segment ps r m st x y) Q
  reads_place n s next all own segment sp ps r m st x y f q first ls l us kd v d end more h e defined depth code go =
      let alive : List Placed = placed p.core (kept s) in
      let rd = reads p.core s own l kd v e defined h.covered h.filled h.whole in
      let one = rd.3 in
      let a : ℕ = rd.2 + l.offset in
      let cell : all a ≡ Some (cell_by (not (is_char kd)) (Some one.word)) =
      h.part a (cell_of kd (Some one.word)) one.cell ∙ ap (λ (z : Cell). Some z) (narrow_kind kd (Some one.word)) in
      let low = live_below segment sp ps a (h.shape.live a (cell_by (not (is_char kd)) (Some one.word)) cell) in
      let i = Two Mov (is_char kd) (Indirect 12) (ToReg 12) in
      brings_top p lay Q s next all own segment sp ps r m st x y f q first ls (suc n) (temporary.Place l) us d 12 end
      (Do (Two Mov (is_char kd) (Indirect 12) (ToReg 12)) ∷ more) h refl depth code (omega arith) (λ w pc st2 y2 has code2 stage2.
      let is : w ≡ a = place_address alive l rd.0 rd.2 w rd.1 one.address (omega arith) has in
      let r1 : ℕ → ℕ = set_reg (set_reg r 0 pc) 12 w in
      let c = from_do p f pc (Two Mov (is_char kd) (Indirect 12) (ToReg 12)) more end code2 in
      brings_cell p Q n s next (level f q first (temporary.Place l ∷ us) ∷ ls) all own segment sp sp ps r1 m st2 x y2 (is_char kd)
      (Indirect 12) a 12 one.word stage2 c.0 (omega arith)
      (source_through (is_char kd) segment sp ps r1 all a one.word h.shape is cell) (effect_through
      (is_char kd) r1 m one.word) cell
      (λ st3 y3 stage3.
      go (set_reg (set_reg r1 0 (pc + size_of (Two Mov (is_char kd) (Indirect 12)
      (ToReg 12)))) 12 one.word) one.word st3 y3 refl one.code
      c.1 stage3))

module _ (p : Setting) (lay : IsLaid p) where
  pub load_does : (d : ℕ) (k : Kind) → DoesStep p 3 (step.Load d k)
  load_does d k f q first ts ls node r t e h =
      begins p lay 3 _ (step.Load d k) f q first node ts ls r t e h (λ all own segment sp ps rr m st y stage low stands code.
      place_follows p 3 _ ts _ r (λ l us is.
      depth_follows p 3 _ d us _ r (λ depth.
      load_follows p 3 _ node l k _ r (λ v ok there.
      let fn : IrFunction = function_of p f in
      let room = room_of (temporaries_at fn) d 1 1 fn.frame stands.room (omega arith) in
      reads_place p lay (StandsAt p (At f (q + 1) first
      (temporary.Value v ∷ us) ls) r) 1 r.state r.next all own segment sp ps rr m st
      (outside r.state.marks (drop r.used p.readings)) y f q first ls l us k v d (step_at p f (q + 1)) (keep p.ir fn d 12)
      (subst (λ (xs : List Temporary). Stage p r.state r.next
      (level f q first xs ∷ ls) all own segment sp sp ps rr m st) is stage)
      ok there depth (falls p lay (step.Load d k) f q node (rr 0) tt stands code) (λ r2 w st2 y2 in_r12 has code2 stage2.
      keeps_last p lay 0 f q (q + 1) first d 12 w (temporary.Value v) us ls r all own segment sp ps r2 m st2 y2
      (without_top p r.state r.next all own segment sp sp ps f q q first (temporary.Place l) us ls r2 m st2 stage2)
      low code2 depth room in_r12 has)))))

  pub peek_does : (d : ℕ) (k : Kind) → DoesStep p 3 (step.Peek d k)
  peek_does d k f q first ts ls node r t e h =
      begins p lay 3 _ (step.Peek d k) f q first node ts ls r t e h (λ all own segment sp ps rr m st y stage low stands code.
      place_follows p 3 _ ts _ r (λ l us is.
      depth_follows p 3 _ d us _ r (λ depth.
      load_follows p 3 _ node l k _ r (λ v ok there.
      let fn : IrFunction = function_of p f in
      let room : temporaries_at fn + 2 * suc d + 2 ≤ fn.frame = let h2 = stands.room in omega arith in
      reads_place p lay (StandsAt p (At f (q + 1) first
      (temporary.Value v ∷ temporary.Place l ∷ us) ls) r) 1 r.state r.next all own segment
      sp ps rr m st
      (outside r.state.marks (drop r.used p.readings)) y f q first ls l us k v d (step_at p f (q + 1)) (keep p.ir fn (suc d) 12)
      (subst (λ (xs : List Temporary). Stage p r.state r.next
      (level f q first xs ∷ ls) all own segment sp sp ps rr m st) is stage)
      ok there depth (falls p lay (step.Peek d k) f q node (rr 0) tt stands code) (λ r2 w st2 y2 in_r12 has code2 stage2.
      keeps_last p lay 0 f q (q + 1) first (suc d) 12 w (temporary.Value v)
      (temporary.Place l ∷ us) ls r all own segment sp ps r2 m st2 y2
      stage2 low code2 (ap suc depth) room in_r12 has)))))

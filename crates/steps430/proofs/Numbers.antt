-- A number is added to a register, and what follows of it: members of places, addresses, and values converted.
use Rattle.std.proofs.Common.{◌≡◌, ℕ, suc, ◌+◌, ◌%◌, ◌<◌, refl, sym, ◌∙◌, subst, arith, Bool, true, false, List, ◌∷◌, drop, reverse, Option, Some, None, Result, Ok, Err, if◌then◌else◌}
use Rattle.std.proofs.lemmas.Bool.{lt-ltb}
use Rattle.std.proofs.lemmas.Bool.Decides.{nat_tests}
use Rattle.std.specs.Prelude.{pos, nat_lt, slice_get}
use Rattle.base16.specs.Integer.{wrapped}
use Rattle.base16.specs.declared.integer.IntType.{IntType}
use Rattle.base16.specs.declared.integer.IntType.TheVariants as int
use Rattle.isa430.specs.declared.instr.TwoOp.{TwoOp}
use Rattle.isa430.specs.declared.instr.TwoOp.TheVariants.{Mov, Add, Xor}
use Rattle.isa430.specs.declared.instr.Src.{Src}
use Rattle.isa430.specs.declared.instr.Src.TheVariants.{Reg, Immediate, Constant}
use Rattle.isa430.specs.declared.instr.Dst.TheVariants.{Reg as ToReg}
use Rattle.isa430.specs.declared.instr.Instr.TheVariants.{Two}
use Rattle.isa430.specs.Table.{size_of}
use Rattle.core430.specs.declared.operand.Place.TheVariants.{InRegister, Given}
use Rattle.core430.specs.Operands.{constant_of}
use Rattle.core430.specs.Registers.{set_reg}
use Rattle.core430.specs.Instructions.{two_status, flagged}
use Rattle.run430.specs.Code.{Here}
use Rattle.run430.proofs.Operands.{in_register, to_register, given, constant as generated}
use Rattle.ideal430.specs.Ideal.{Ideal, Meter}
use Rattle.ideal430.specs.Settled.{Bytes}
use Rattle.c_run.specs.Actions.{kept}
use Rattle.c_values.specs.Operators.{as_type}
use Rattle.c_values.specs.Pointers.{at as place_at, capped, member_at}
use Rattle.c_values.specs.Values.{converted}
use Rattle.c_values.specs.declared.state.State.{State}
use Rattle.c_values.specs.declared.value.Location.{Location}
use Rattle.c_values.specs.declared.value.Value.{Value}
use Rattle.c_values.specs.declared.value.Value.TheVariants.{Int, Pointer, Null, Undefined}
use Rattle.cells430.specs.Cells.{Cells}
use Rattle.cells430.specs.Stretch.{Course, outside, at, Leads}
use Rattle.cells430.proofs.Lift.{sets}
use Rattle.ir.specs.declared.control.Temporary.{Temporary}
use Rattle.ir.specs.declared.control.Temporary.TheVariants as temporary
use Rattle.ir.specs.declared.control.Frame.{Frame}
use Rattle.ir.specs.declared.control.Control.TheVariants.{At}
use Rattle.ir.specs.declared.form.Base.{Base}
use Rattle.ir.specs.declared.form.Base.TheVariants as base
use Rattle.ir.specs.declared.form.IrFunction.{IrFunction}
use Rattle.ir.specs.declared.form.Operand.{Operand}
use Rattle.ir.specs.declared.form.StepKind.TheVariants as step
use Rattle.ir.specs.Machine.{known}
use Rattle.ir.specs.Table.{taken}
use Rattle.ir.specs.Typed.{IsWide}
use Rattle.matching.specs.Matches.{Placed, address_of, pointer_code, placed}
use Rattle.select430.specs.Frames.{word, temporaries_at, local_at, global_at, offset_or, address_or}
use Rattle.select430.specs.declared.part.Part.TheVariants.{Do}
use Rattle.select430.specs.Code.{constant, keep}
use Rattle.steps430.specs.Setting.{Setting, function_of, step_at, IsLaid}
use Rattle.steps430.specs.Holds.{is_missing, HasCode, object_address, place_code, value_code}
use Rattle.steps430.specs.Standing.{StandsAt, Stage}
use Rattle.steps430.specs.Follows.{DoesStep}
use Rattle.steps430.proofs.Moves.{From, from_do, level, with_regs, without_top}
use Rattle.steps430.proofs.Outcomes.{place_follows, depth_follows, operand_follows, given_follows}
use Rattle.steps430.proofs.Reading.{local_found, global_found}
use Rattle.steps430.proofs.Values.{IsNumber, Own, Generated, number_is, brings_number}
use Rattle.steps430.proofs.Operands.{brings_top}
use Rattle.steps430.proofs.Steps.{begins, falls, keeps_last}
use Rattle.steps430.proofs.Plain.{room_of, placing}
use Rattle.steps430.proofs.Passing.{passes}
use Rattle.steps430.proofs.Words.{wrapped_type}
use Rattle.steps430.proofs.Sums.{result}

-- ---- an instruction with a number

pub data TakesNumber : TwoOp → Type 0 where
  Adds : TakesNumber Add
  Turns : TakesNumber Xor

module _ (p : Setting) (Q : Ideal → Type 0) (n : ℕ) (s : State) (next : ℕ) (frames : List Frame) (all own : Cells)
    (segment base sp : ℕ) (ps r m : ℕ → ℕ) (st : Bytes) (x : Course) (y : Meter) where
  abbrev after : TwoOp → (size w : ℕ) → (ℕ → ℕ)
  after i size w = set_reg (flagged (set_reg r 0 (r 0 + size)) (two_status i false (r 2) (r 12) w)) 12 (result i (r 12) w)

  pub operates_number : (i : TwoOp) (src : Src) (w : ℕ) → TakesNumber i → IsNumber src w
      → Stage p s next frames all own segment base sp ps r m st → Here p.code p.low p.high (r 0) (Two i false src (ToReg 12))
      → ((r2 : ℕ → ℕ) (st2 : Bytes) (y2 : Meter) → r2 0 ≡ r 0 + size_of (Two i false src (ToReg 12)) → r2 12 ≡ result i (r 12) w
      → Stage p s next frames all own segment base sp ps r2 m st2 → Leads n (at segment ps r2 m st2 x y2) Q)
      → Leads (suc n) (at segment ps r m st x y) Q
  operates_number i src w Adds Own h here more =
      sets p.code p.low p.high segment sp ps h.ground Q n all h.shape r m st x y Add false (Immediate w) (ToReg 12) (Given w)
      (InRegister 12) (after Add 4 w) h.facts h.words here given to_register refl tt tt refl h.stack
      (λ st2 y2 facts wide. more (after Add 4 w) st2 y2 refl refl
      (with_regs p s next all own segment base sp ps frames r m (after Add 4 w) st st2 h.stack wide facts h))
  operates_number i src w Adds (Generated g) h here more =
      sets p.code p.low p.high segment sp ps h.ground Q n all h.shape r m st x y Add false (Constant g) (ToReg 12) (Given
      (constant_of g))
      (InRegister 12) (after Add 2 (constant_of g)) h.facts h.words here generated to_register refl tt tt refl h.stack
      (λ st2 y2 facts wide. more (after Add 2 (constant_of g)) st2 y2 refl refl
      (with_regs p s next all own segment base sp ps frames r m (after Add 2 (constant_of g)) st st2 h.stack wide facts h))
  operates_number i src w Turns Own h here more =
      sets p.code p.low p.high segment sp ps h.ground Q n all h.shape r m st x y Xor false (Immediate w) (ToReg 12) (Given w)
      (InRegister 12) (after Xor 4 w) h.facts h.words here given to_register refl tt tt refl h.stack
      (λ st2 y2 facts wide. more (after Xor 4 w) st2 y2 refl refl
      (with_regs p s next all own segment base sp ps frames r m (after Xor 4 w) st st2 h.stack wide facts h))
  operates_number i src w Turns (Generated g) h here more =
      sets p.code p.low p.high segment sp ps h.ground Q n all h.shape r m st x y Xor false (Constant g) (ToReg 12) (Given
      (constant_of g))
      (InRegister 12) (after Xor 2 (constant_of g)) h.facts h.words here generated to_register refl tt tt refl h.stack
      (λ st2 y2 facts wide. more (after Xor 2 (constant_of g)) st2 y2 refl refl
      (with_regs p s next all own segment base sp ps frames r m (after Xor 2 (constant_of g)) st st2 h.stack wide facts h))

-- ---- members

member_fit : (alive : List Placed) (l : Location) (offset w v : ℕ) → HasCode (place_code alive l) w
    → v ≡ result Add w (wrapped (pos (word offset))) → HasCode (place_code alive (member_at l offset)) v
member_fit alive l offset w v has is = from (nat_lt (capped (l.offset + offset)) 65536) refl
  where
    small : nat_lt (capped (l.offset + offset)) 65536 ≡ true
        → (capped (l.offset + offset) ≡ l.offset + offset) × (l.offset < 65536)
    small e = (one e, two e)
      where
        one : nat_lt (capped (l.offset + offset)) 65536 ≡ true → capped (l.offset + offset) ≡ l.offset + offset
        one e = grind (arith, nat_tests)

        two : nat_lt (capped (l.offset + offset)) 65536 ≡ true → l.offset < 65536
        two e = grind (arith, nat_tests)

    at_object : (x : Option ℕ) → l.offset < 65536 → capped (l.offset + offset) ≡ l.offset + offset
        → HasCode (pointer_code x l.offset) w
        → HasCode (pointer_code x (capped (l.offset + offset))) v
    at_object None k j h = tt
    at_object (Some b) k j h = omega arith

    from : (b : Bool) → nat_lt (capped (l.offset + offset)) 65536 ≡ b
        → HasCode (if b then pointer_code (object_address alive l.object) (capped (l.offset + offset)) else None) v
    from false e = tt
    from true e =
        let k = small e in
        at_object (object_address alive l.object) k.1 k.0
        (subst (λ (b : Bool). HasCode (if b then pointer_code (object_address alive l.object) l.offset else None) w)
        (lt-ltb l.offset 65536 k.1) has)

module _ (p : Setting) (lay : IsLaid p) where
  pub member_does : (d offset : ℕ) → DoesStep p 3 (step.Member d offset)
  member_does d offset f q first ts ls node r t e h =
      begins p lay 3 _ (step.Member d offset) f q first node ts ls r t e h
      (λ all own segment sp ps rr m st y stage low stands code.
      place_follows p 3 _ ts _ r (λ l us is.
      depth_follows p 3 _ d us _ r (λ depth.
      let fn : IrFunction = function_of p f in
      let end : ℕ = step_at p f (q + 1) in
      let alive : List Placed = placed p.core (kept r.state) in
      let room = room_of (temporaries_at fn) d 1 1 fn.frame stands.room (omega arith) in
      let Q = StandsAt p (At f (q + 1) first (temporary.Place (member_at l offset) ∷ us) ls) r in
      let x : Course = outside r.state.marks (drop r.used p.readings) in
      let src : Src = constant (pos (word offset)) in
      brings_top p lay Q r.state r.next all own segment sp ps rr m st x y f q first ls 2 (temporary.Place l) us d 12 end
      (Do (Two Add false (constant (pos (word offset))) (ToReg 12)) ∷ keep p.ir fn d 12)
      (subst (λ (xs : List Temporary). Stage p r.state r.next
      (level f q first xs ∷ ls) all own segment sp sp ps rr m st) is stage)
      refl depth (falls p lay (step.Member d offset) f q node (rr 0) tt stands code) (omega arith)
      (λ w pc st2 y2 has code2 stage2.
      let r1 : ℕ → ℕ = set_reg (set_reg rr 0 pc) 12 w in
      let c = from_do p f pc (Two Add false (constant (pos (word offset))) (ToReg 12)) (keep p.ir fn d 12) end code2 in
      operates_number p Q 1 r.state r.next (level f q first
      (temporary.Place l ∷ us) ∷ ls) all own segment sp sp ps r1 m st2 x y2 Add
      (constant (pos (word offset))) (wrapped (pos (word offset))) Adds (number_is (pos (word offset))) stage2 c.0
      (λ r2 st3 y3 at_pc in_r12 stage3.
      keeps_last p lay 0 f q (q + 1) first d 12 (r2 12) (temporary.Place
      (member_at l offset)) us ls r all own segment sp ps r2 m st3 y3
      (without_top p r.state r.next all own segment sp sp ps f q q first (temporary.Place l) us ls r2 m st3 stage3) low
      (subst (λ (z : ℕ). From p f z (keep p.ir fn d 12) end) (sym at_pc) c.1) depth room refl
      (member_fit alive l offset w (r2 12) has in_r12))))))

  -- ---- addresses

  -- the code of a place at an offset of an object that is alive
  known_fit : (alive : List Placed) (n base offset v : ℕ) → address_of alive n ≡ Some base → v ≡ (base + offset) % 65536
      → HasCode (place_code alive (place_at n offset)) v
  known_fit alive n base offset v e is = from (nat_lt offset 65536)
    where
      from : (b : Bool) → HasCode (if b then pointer_code (address_of alive n) offset else None) v
      from true = subst (λ (x : Option ℕ). HasCode (pointer_code x offset) v) (sym e) is
      from false = tt

  address_local : (d i offset : ℕ) → DoesStep p 3 (step.Address d (base.Local i) offset)
  address_local d i offset f q first ts ls node r t e h =
      begins p lay 3 _ (step.Address d (base.Local i) offset) f q first node ts ls r t e h
      (λ all own segment sp ps rr m st y stage low stands code.
      depth_follows p 3 _ d ts _ r (λ depth.
      let fn : IrFunction = function_of p f in
      let end : ℕ = step_at p f (q + 1) in
      let alive : List Placed = placed p.core (kept r.state) in
      let room = room_of (temporaries_at fn) d 0 1 fn.frame stands.room (omega arith) in
      let l : Location = known first (base.Local i) offset in
      let Q = StandsAt p (At f (q + 1) first (temporary.Place l ∷ ts) ls) r in
      let x : Course = outside r.state.marks (drop r.used p.readings) in
      let o : ℕ = local_at fn i offset in
      let there = local_found p lay r.state r.next all own segment sp f q first i ts ls (reverse r.state.calls) stage.made refl
      stage.stacked stands.named.0 in
      let c0 = from_do p f (rr 0) (Two Mov false (Reg 1) (ToReg 12)) (Do (Two Add false (constant (pos o))
      (ToReg 12)) ∷ keep p.ir fn d 12)
      end (falls p lay (step.Address d (base.Local i) offset) f q node (rr 0) tt stands code) in
      let r1 : ℕ → ℕ = set_reg (set_reg rr 0 (rr 0 + 2)) 12 (rr 1) in
      let stack = stage.stack in
      sets p.code p.low p.high segment sp ps stage.ground Q 2 all stage.shape rr m st x y Mov false (Reg 1) (ToReg 12)
      (InRegister 1)
      (InRegister 12) r1 stage.facts stage.words c0.0 in_register to_register refl tt tt refl stage.stack (λ st2 y2 facts wide.
      let stage2 = with_regs p r.state r.next all own segment sp sp ps
      (level f q first ts ∷ ls) rr m r1 st st2 stage.stack wide facts stage in
      let c = from_do p f (rr 0 + 2) (Two Add false (constant (pos o)) (ToReg 12)) (keep p.ir fn d 12) end c0.1 in
      operates_number p Q 1 r.state r.next (level f q first ts ∷ ls) all own segment sp sp ps r1 m st2 x y2 Add
      (constant (pos o)) (wrapped (pos o)) Adds (number_is (pos o)) stage2 c.0
      (λ r2 st3 y3 at_pc in_r12 stage3.
      let is : r2 12 ≡ (sp + offset_or (slice_get fn.locals i) + offset) % 65536 = omega arith in
      keeps_last p lay 0 f q (q + 1) first d 12 (r2 12) (temporary.Place l) ts ls r all own segment sp ps r2 m st3 y3 stage3 low
      (subst (λ (z : ℕ). From p f z (keep p.ir fn d 12) end) (sym at_pc) c.1) depth room refl
      (known_fit alive (first + i) (sp + offset_or (slice_get fn.locals i)) offset (r2 12) there is)))))

  address_global : (d i offset : ℕ) → DoesStep p 3 (step.Address d (base.Global i) offset)
  address_global d i offset f q first ts ls node r t e h =
      begins p lay 3 _ (step.Address d (base.Global i) offset) f q first node ts ls r t e h
      (λ all own segment sp ps rr m st y stage low stands code.
      depth_follows p 3 _ d ts _ r (λ depth.
      let fn : IrFunction = function_of p f in
      let end : ℕ = step_at p f (q + 1) in
      let alive : List Placed = placed p.core (kept r.state) in
      let room = room_of (temporaries_at fn) d 0 1 fn.frame stands.room (omega arith) in
      let l : Location = known first (base.Global i) offset in
      let Q = StandsAt p (At f (q + 1) first (temporary.Place l ∷ ts) ls) r in
      let x : Course = outside r.state.marks (drop r.used p.readings) in
      let o : ℕ = global_at p.ir i offset in
      let there = global_found p lay r.state r.next i stage.made stands.named.0 in
      let c = from_do p f (rr 0) (Two Mov false (constant (pos o)) (ToReg 12)) (keep p.ir fn d 12) end
      (falls p lay (step.Address d (base.Global i) offset) f q node (rr 0) tt stands code) in
      let pc : ℕ = rr 0 + size_of (Two Mov false (constant (pos o)) (ToReg 12)) in
      brings_number p Q 2 r.state r.next (level f q first ts ∷ ls) all own segment sp sp ps rr m st x y (constant (pos o)) 12
      (wrapped (pos o))
      stage (number_is (pos o)) c.0 (omega arith) (λ st2 y2 stage2.
      let is : wrapped (pos o) ≡ (address_or (slice_get p.ir.globals i) + offset) % 65536 = omega arith in
      keeps_last p lay 1 f q (q + 1) first d 12 (wrapped (pos o)) (temporary.Place l) ts ls r all own segment sp ps
      (set_reg (set_reg rr 0 pc) 12 (wrapped (pos o))) m st2 y2 stage2 low c.1 depth room refl
      (known_fit alive i (address_or (slice_get p.ir.globals i)) offset (wrapped (pos o)) there is))))

  pub address_does : (d : ℕ) (of : Base) (offset : ℕ) → DoesStep p 3 (step.Address d of offset)
  address_does d (base.Local i) offset = address_local d i offset
  address_does d (base.Global i) offset = address_global d i offset

  -- ---- conversions

  abbrev fine : Value → Result Value ℕ
  fine v = Ok v

  abbrev wrong : ℕ → Result Value ℕ
  wrong n = Err n

  same_value : (a b : Value) → fine a ≡ fine b → a ≡ b
  same_value a b k = cc

  not_missing : (t : IntType) (v c : Value) → converted t v ≡ Ok c → is_missing v ≡ false
  unfolding converted
  not_missing t (Int z) c k = refl
  not_missing t (Pointer n o) c k = refl
  not_missing t Null c k = refl
  not_missing t Undefined c k = absurd (differ k)
    where
      differ : wrong 11 ≡ fine c → ⊥
      differ j = cc

  convert_fit : (alive : List Placed) (t : IntType) (v c : Value) (w : ℕ) → IsWide t → converted t v ≡ Ok c
      → HasCode (value_code alive v) w
      → HasCode (value_code alive c) w
  unfolding converted
  convert_fit alive t (Int z) c w wide k has =
      subst (λ (y : Value). HasCode (value_code alive y) w) (same_value (Int (as_type t z)) c k) (has
      ∙ sym (wrapped_type t z wide))
  convert_fit alive int.Char (Pointer n o) c w wide k has = absurd wide
  convert_fit alive int.Int (Pointer n o) c w wide k has =
      subst (λ (y : Value). HasCode (value_code alive y) w) (same_value (Pointer n o) c k) has
  convert_fit alive int.UInt (Pointer n o) c w wide k has =
      subst (λ (y : Value). HasCode (value_code alive y) w) (same_value (Pointer n o) c k) has
  convert_fit alive int.Char Null c w wide k has = absurd wide
  convert_fit alive int.Int Null c w wide k has =
      subst (λ (y : Value). HasCode (value_code alive y) w) (same_value Null c k) has
  convert_fit alive int.UInt Null c w wide k has =
      subst (λ (y : Value). HasCode (value_code alive y) w) (same_value Null c k) has
  convert_fit alive t Undefined c w wide k has = absurd (differ k)
    where
      differ : wrong 11 ≡ fine c → ⊥
      differ j = cc

  pub convert_int_does : (d : ℕ) (x : Operand) → DoesStep p (placing x) (step.Convert d int.Int x)
  convert_int_does d x f q first ts ls node r t e h =
      begins p lay (placing x) _ (step.Convert d int.Int x) f q first node ts ls r t e h
      (λ all own segment sp ps rr m st y stage low stands code.
      operand_follows p (placing x) _ node first x ts _ r (λ v us g.
      depth_follows p (placing x) _ d us _ r (λ depth.
      given_follows p (placing x) _ node (converted int.Int v) _ r (λ c ok.
      let fn : IrFunction = function_of p f in
      let room = room_of (temporaries_at fn) d (taken x) 1 fn.frame stands.room (omega arith) in
      passes p lay f q (q + 1) first ls r all own segment sp ps rr m st y x d ts v us (temporary.Value c) stage low
      (falls p lay (step.Convert d int.Int x) f q node (rr 0) tt stands code) g
      (not_missing int.Int v c ok) depth stands.named room
      (λ w has. convert_fit (placed p.core (kept r.state)) int.Int v c w tt ok has)))))

  pub convert_unsigned_does : (d : ℕ) (x : Operand) → DoesStep p (placing x) (step.Convert d int.UInt x)
  convert_unsigned_does d x f q first ts ls node r t e h =
      begins p lay (placing x) _ (step.Convert d int.UInt x) f q first node ts ls r t e h
      (λ all own segment sp ps rr m st y stage low stands code.
      operand_follows p (placing x) _ node first x ts _ r (λ v us g.
      depth_follows p (placing x) _ d us _ r (λ depth.
      given_follows p (placing x) _ node (converted int.UInt v) _ r (λ c ok.
      let fn : IrFunction = function_of p f in
      let room = room_of (temporaries_at fn) d (taken x) 1 fn.frame stands.room (omega arith) in
      passes p lay f q (q + 1) first ls r all own segment sp ps rr m st y x d ts v us (temporary.Value c) stage low
      (falls p lay (step.Convert d int.UInt x) f q node (rr 0) tt stands code) g
      (not_missing int.UInt v c ok) depth stands.named room
      (λ w has. convert_fit (placed p.core (kept r.state)) int.UInt v c w tt ok has)))))

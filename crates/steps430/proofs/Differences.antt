-- Differences of two pointers: how many elements of a size lie between them.
use Rattle.std.proofs.Common.{◌≡◌, ◌≢◌, ℕ, suc, ◌+◌, ◌-◌, ◌/◌, ◌%◌, ◌<◌, ◌≤◌, refl, sym, ap, ◌∙◌, subst, arith, Bool, true, false, List, [], ◌∷◌, ◌++◌, Option, Some, None, Result, Ok, Err, if◌then◌else◌}
use Rattle.std.proofs.lemmas.Bool.{eqb-true}
use Rattle.std.proofs.lemmas.Bool.Decides.{nat_tests}
use Rattle.std.proofs.lemmas.Int.{ints}
use Rattle.std.specs.Prelude.{ℤ, pos, negsuc, neg_ℤ, ◌-ℤ◌, int_div, int_rem, nat_eq, nat_le, nat_lt, is_none, ◌&&◌, ◌||◌}
use Rattle.base16.specs.Board.{segment_start}
use Rattle.base16.specs.Integer.{wrapped, signed}
use Rattle.isa430.specs.declared.instr.TwoOp.TheVariants.{Mov, Sub}
use Rattle.isa430.specs.declared.instr.Src.TheVariants.{Reg}
use Rattle.isa430.specs.declared.instr.Dst.TheVariants.{Reg as ToReg}
use Rattle.isa430.specs.declared.instr.Instr.TheVariants.{Two}
use Rattle.isa430.specs.Table.{size_of}
use Rattle.core430.specs.declared.operand.Place.TheVariants.{InRegister}
use Rattle.core430.specs.Registers.{set_reg}
use Rattle.core430.specs.Instructions.{two_status, flagged}
use Rattle.run430.proofs.Operands.{in_register, to_register}
use Rattle.rt430.specs.declared.words.Helper.TheVariants.{Sdiv16}
use Rattle.ideal430.specs.Ideal.{Ideal, Meter}
use Rattle.ideal430.specs.Settled.{Bytes}
use Rattle.c_run.specs.Actions.{kept}
use Rattle.c_values.specs.Objects.{object_of}
use Rattle.c_values.specs.Operators.{is_zero}
use Rattle.c_values.specs.Pointers.{difference, difference_alive, divided, gone}
use Rattle.c_values.specs.declared.state.Object.{Object}
use Rattle.c_values.specs.declared.state.State.{State}
use Rattle.c_values.specs.declared.value.Value.{Value}
use Rattle.c_values.specs.declared.value.Value.TheVariants.{Int, Pointer, Null, Undefined}
use Rattle.cells430.specs.Cells.{Cells}
use Rattle.cells430.specs.Stretch.{Course, at, Leads}
use Rattle.cells430.proofs.Lift.{sets, leads_weaker}
use Rattle.core_tree.specs.declared.program.Core.{Core}
use Rattle.ir.specs.declared.control.Frame.{Frame}
use Rattle.matching.specs.Laid.{IsMade}
use Rattle.matching.specs.Matches.{Placed, placed, address_of, pointer_code}
use Rattle.matching.specs.Spacing.{LiesWhole}
use Rattle.select430.specs.Frames.{word}
use Rattle.select430.specs.declared.part.Part.{Part}
use Rattle.select430.specs.declared.part.Part.TheVariants.{Helps}
use Rattle.select430.specs.Code.{constant, two, set, counted}
use Rattle.steps430.specs.Setting.{Setting, IsLaid}
use Rattle.steps430.specs.Holds.{HasCode, value_code}
use Rattle.steps430.specs.Lying.{StaysInside, StayInside, ObjectsLie}
use Rattle.steps430.specs.Standing.{Stage}
use Rattle.steps430.proofs.Moves.{From, from_do, with_regs}
use Rattle.steps430.proofs.Scalars.{found_object}
use Rattle.steps430.proofs.Values.{number_is, brings_number}
use Rattle.steps430.proofs.Words.{wrapped_difference}
use Rattle.steps430.proofs.Routines.{from_helps, helps_with}
use Rattle.steps430.proofs.Scaled.{Spares}

-- ---- two pointers into one object

abbrev fine : ℤ → Result ℤ ℕ
fine z = Ok z

abbrev wrong : ℕ → Result ℤ ℕ
wrong n = Err n

pub same_number : (a b : ℤ) → fine a ≡ fine b → a ≡ b
same_number a b e = cc

pub no_number : {A : Type 0} (n : ℕ) (b : ℤ) → wrong n ≡ fine b → A
no_number n b e = absurd (differ e)
  where
    differ : wrong n ≡ fine b → ⊥
    differ k = cc

pub record IsDifference (s : State) (size : ℕ) (a b : Value) (k : ℤ) : Type 0 where
  pub object : ℕ
  pub left : ℕ
  pub right : ℕ
  pub is_left : a ≡ Pointer object left
  pub is_right : b ≡ Pointer object right
  pub alive : is_none (object_of s object) ≡ false
  pub some : size ≢ 0
  pub few : size < 32768
  pub quotient : int_div (pos left -ℤ pos right) (pos size) ≡ k

divided_is : (z : ℤ) (size : ℕ) (k : ℤ) → divided z size ≡ Ok k
    → (size ≢ 0) × (size < 32768) × (int_div z (pos size) ≡ k)
divided_is z size k e = from (nat_eq size 0) refl (nat_le size 32767) refl (is_zero (int_rem z (pos size))) e
  where
    from : (b : Bool) → nat_eq size 0 ≡ b → (d : Bool) → nat_le size 32767 ≡ d → (c : Bool)
        → (if b then wrong 0 else (if d && c then fine (int_div z (pos size)) else wrong 9)) ≡ fine k
        → (size ≢ 0) × (size < 32768) × (int_div z (pos size) ≡ k)
    from true i d l c h = no_number 0 k h
    from false i true l true h =
        let few : size < 32768 = grind (arith, nat_tests) in
        ((λ j. grind (arith, nat_tests)), few, same_number (int_div z (pos size)) k h)
    from false i true l false h = no_number 9 k h
    from false i false l c h = no_number 9 k h

pub not_gone : (b : Bool) (x : Result ℤ ℕ) (k : ℤ) → (if b then wrong 6 else x) ≡ fine k → (b ≡ false) × (x ≡ fine k)
not_gone true x k e = no_number 6 k e
not_gone false x k e = (refl, e)

pub first_false : (b c : Bool) → (b || c) ≡ false → b ≡ false
first_false false c e = refl
first_false true c e = e

alive_is : (s : State) (size : ℕ) (a b : Value) (k : ℤ) → (gone s a || gone s b) ≡ false → difference_alive size a b ≡ fine k
    → IsDifference s size a b k
alive_is s size (Pointer m x) (Pointer n y) k out e = from (nat_eq m n) refl e
  where
    from : (c : Bool) → nat_eq m n ≡ c → (if c then divided (pos x -ℤ pos y) size else wrong 9) ≡ fine k
        → IsDifference s size (Pointer m x) (Pointer n y) k
    from true i h =
        let d = divided_is (pos x -ℤ pos y) size k h in
        record {
          object = m;
          left = x;
          right = y;
          is_left = refl;
          is_right = ap (λ (z : ℕ). Pointer z y) (sym (eqb-true m n i));
          alive = first_false (is_none (object_of s m)) (is_none (object_of s n)) out;
          some = d.0;
          few = d.1;
          quotient = d.2;
        }
    from false i h = no_number 9 k h
alive_is s size (Pointer m x) (Int j) k out e = no_number _ k e
alive_is s size (Pointer m x) Null k out e = no_number _ k e
alive_is s size (Pointer m x) Undefined k out e = no_number _ k e
alive_is s size (Int i) (Pointer n y) k out e = no_number _ k e
alive_is s size (Int i) (Int j) k out e = no_number _ k e
alive_is s size (Int i) Null k out e = no_number _ k e
alive_is s size (Int i) Undefined k out e = no_number _ k e
alive_is s size Null (Pointer n y) k out e = no_number _ k e
alive_is s size Null (Int j) k out e = no_number _ k e
alive_is s size Null Null k out e = no_number _ k e
alive_is s size Null Undefined k out e = no_number _ k e
alive_is s size Undefined (Pointer n y) k out e = no_number _ k e
alive_is s size Undefined (Int j) k out e = no_number _ k e
alive_is s size Undefined Null k out e = no_number _ k e
alive_is s size Undefined Undefined k out e = no_number _ k e

pub difference_is : (s : State) (size : ℕ) (a b : Value) (k : ℤ) → difference s size a b ≡ Ok k → IsDifference s size a b k
unfolding difference
difference_is s size a b k e =
    let h = not_gone (gone s a || gone s b) (difference_alive size a b) k e in
    alive_is s size a b k h.0 h.1

-- ---- words

alive_address : (core : Core) (s : State) (n : ℕ) → is_none (object_of s n) ≡ false
    → (base : ℕ) × (address_of (placed core (kept s)) n ≡ Some base)
alive_address core s n e = from (object_of s n) refl e
  where
    from : (o : Option Object) → object_of s n ≡ o → is_none o ≡ false
        → (base : ℕ) × (address_of (placed core (kept s)) n ≡ Some base)
    from (Some o) i h = let found = found_object core s n o i in (found.0, found.1.address)
    from None i h = absurd (differ h)
      where
        differ : true ≡ false → ⊥
        differ j = cc

difference_word : (base x y v w : ℕ) → v ≡ (base + x) % 65536 → w ≡ (base + y) % 65536
    → (v + 65536 - (w + 0)) % 65536 ≡ wrapped (pos x -ℤ pos y)
difference_word base x y v w e h = let d = wrapped_difference (pos x) (pos y) in omega (arith, d, e, h)

whole_quotient : (z : ℤ) → wrapped z ≡ wrapped (int_div z (pos 1))
whole_quotient (pos n) = ap wrapped (let e : pos n ≡ pos (n / 1) = ap pos (let h : n ≡ n / 1 = omega arith in h) in e)
whole_quotient (negsuc n) = ap wrapped (let h : suc n ≡ suc n / 1 = omega arith in ap (λ (m : ℕ). neg_ℤ (pos m)) h)

signed_low : (n : ℕ) → n < 32768 → signed (n % 65536) ≡ pos n
signed_low n small = from (nat_lt (n % 65536) 32768) refl
  where
    from : (b : Bool) → nat_lt (n % 65536) 32768 ≡ b → (if b then pos (n % 65536) else negsuc (65535 - n % 65536)) ≡ pos n
    from true e = ap pos (let h : n % 65536 ≡ n = omega arith in h)
    from false e = absurd (let h : ⊥ = grind (arith, nat_tests) in h)

signed_high : (n : ℕ) → n < 32768 → signed (65535 - n % 65536) ≡ negsuc n
signed_high n small = from (nat_lt (65535 - n % 65536) 32768) refl
  where
    from : (b : Bool) → nat_lt (65535 - n % 65536) 32768 ≡ b
        → (if b then pos (65535 - n % 65536) else negsuc (65535 - (65535 - n % 65536))) ≡ negsuc n
    from true e = absurd (let h : ⊥ = grind (arith, nat_tests) in h)
    from false e = ap negsuc (let h : 65535 - (65535 - n % 65536) ≡ n = omega arith in h)

-- a difference of small offsets is what its word says
signed_difference : (x y : ℕ) (z : ℤ) → x < 32768 → y < 32768 → pos x -ℤ pos y ≡ z → signed (wrapped z) ≡ z
signed_difference x y (pos n) few_x few_y e = signed_low n (omega (arith, ints, e))
signed_difference x y (negsuc n) few_x few_y e = signed_high n (omega (arith, ints, e))

-- ---- code

-- how many instructions it takes
abbrev pub counting : ℕ → ℕ
counting size = if nat_eq size 1 then 0 else 402

-- an offset in an object that is alive and lies whole is what a signed word says
near_offset : (p : Setting) → ObjectsLie p → (s : State) (next n offset : ℕ) → IsMade p.core next (kept s)
    → is_none (object_of s n) ≡ false → StaysInside s (Pointer n offset) → offset < 32768
near_offset p lie s next n offset made there inside = from (object_of s n) refl there
  where
    from : (o : Option Object) → object_of s n ≡ o → is_none o ≡ false → offset < 32768
    from None i h = absurd (differ h)
      where
        differ : true ≡ false → ⊥
        differ j = cc
    from (Some o) i h =
        let found = found_object p.core s n o i in
        let whole : LiesWhole (record { object = o; address = found.0 }) =
        found.1.among LiesWhole (lie.whole next (kept s) made) in
        let most = inside o i in
        let least = whole.from in
        let last = whole.to in
        omega arith

counted_is : (size : ℕ) → nat_eq size 1 ≡ false → counted size ≡ set (pos (word size)) 13 ∷ Helps Sdiv16 ∷ []
counted_is size e = ap (λ (b : Bool). if b then [] else set (pos (word size)) 13 ∷ Helps Sdiv16 ∷ []) e

quotient_value : (z k : ℤ) (size : ℕ) → size < 32768 → signed (wrapped z) ≡ z → int_div z (pos size) ≡ k
    → wrapped (int_div (signed (wrapped z)) (signed (wrapped (pos (word size))))) ≡ wrapped k
quotient_value z k size few small e =
    let twice : wrapped (pos (word size)) ≡ size % 65536 = omega arith in
    let divisor : signed (wrapped (pos (word size))) ≡ pos size = ap signed twice ∙ signed_low size few in
    ap (λ (i : ℤ). wrapped (int_div i (signed (wrapped (pos (word size)))))) small
    ∙ ap (λ (i : ℤ). wrapped (int_div z i)) divisor ∙ ap wrapped e

module _ (p : Setting) (lay : IsLaid p) (lie : ObjectsLie p) (Q : Ideal → Type 0) (n : ℕ) (s : State) (next : ℕ)
    (frames : List Frame) (all own : Cells) (segment base sp : ℕ) (ps : ℕ → ℕ) (x : Course) (f end : ℕ) (more : List Part) where
  abbrev Counts : (r : ℕ → ℕ) (k : ℤ) → Type 0
  Counts r k =
      (r2 m2 : ℕ → ℕ) (st2 : Bytes) (y2 : Meter) → r2 12 ≡ wrapped k → Spares r r2 → From p f (r2 0) more end
      → Stage p s next frames all own segment base sp ps r2 m2 st2 → Leads n (at segment ps r2 m2 st2 x y2) Q

  by_division : (size : ℕ) (z k : ℤ) (r m : ℕ → ℕ) (st : Bytes) (y : Meter) → segment_start segment + 4 ≤ sp
      → Stage p s next frames all own segment base sp ps r m st → r 12 ≡ wrapped z → size ≢ 0 → size < 32768
      → signed (wrapped z) ≡ z → int_div z (pos size) ≡ k
      → From p f (r 0) (set (pos (word size)) 13 ∷ Helps Sdiv16 ∷ more) end → Counts r k
      → Leads (suc (suc (400 + n))) (at segment ps r m st x y) Q
  by_division size z k r m st y low h is some few small quotient code go =
      let c = from_do p f (r 0) (Two Mov false (constant (pos (word size))) (ToReg 13)) (Helps Sdiv16 ∷ more) end code in
      let pc : ℕ = r 0 + size_of (Two Mov false (constant (pos (word size))) (ToReg 13)) in
      let r1 : ℕ → ℕ = set_reg (set_reg r 0 pc) 13 (wrapped (pos (word size))) in
      let d = from_helps p f pc Sdiv16 more end c.1 in
      let there : wrapped (pos (word size)) ≢ 0 = omega arith in
      brings_number p Q (suc (400 + n)) s next frames all own segment base sp ps r m st x y (constant (pos (word size))) 13
      (wrapped (pos (word size))) h (number_is (pos (word size))) c.0 (omega arith) (λ st2 y2 stage2.
      helps_with p lay Q n s next frames all own segment base sp ps r1 m st2 x y2 Sdiv16 f (wrapped z)
      (wrapped (pos (word size))) stage2
      low d.0 is refl there
      (λ r2 m2 st3 y3 at_pc in_r12 same stage3.
      let k0 = same.1 in
      go r2 m2 st3 y3 (in_r12 ∙ quotient_value z k size few small quotient)
      (record { nine = k0.1.1.1.1.1.1.0; ten = k0.1.1.1.1.1.1.1.0 })
      (subst (λ (i : ℕ). From p f i more end) (sym at_pc) d.1) stage3))

  counts : (size : ℕ) (z k : ℤ) (r m : ℕ → ℕ) (st : Bytes) (y : Meter) → segment_start segment + 4 ≤ sp
      → Stage p s next frames all own segment base sp ps r m st → r 12 ≡ wrapped z → size ≢ 0
      → size < 32768 → signed (wrapped z) ≡ z → int_div z (pos size) ≡ k
      → From p f (r 0) (counted size ++ more) end → Counts r k
      → Leads (counting size + n) (at segment ps r m st x y) Q
  counts size z k r m st y low h is some few small quotient code go = from (nat_eq size 1) refl
    where
      Result : ℕ → Type 0
      Result i =
          int_div z (pos i) ≡ k → From p f (r 0) (counted i ++ more) end → Leads (counting i + n) (at segment ps r m st x y) Q

      one : Result 1
      one quotient1 code1 =
          leads_weaker n (counting 1 + n) _ Q Q (omega arith) (λ u k. k)
          (go r m st y (is ∙ whole_quotient z ∙ ap wrapped quotient1) (record { nine = refl; ten = refl }) code1 h)

      from : (b : Bool) → nat_eq size 1 ≡ b → Leads (counting size + n) (at segment ps r m st x y) Q
      from true e = subst Result (sym (eqb-true size 1 e)) one quotient code
      from false e =
          let many : counting size ≡ 402 = ap (λ (b : Bool). if b then 0 else 402) e in
          leads_weaker (suc (suc (400 + n))) (counting size + n) _ Q Q (omega (arith, many)) (λ u k. k)
          (by_division size z k r m st y low h is some few small quotient
          (subst (λ (parts : List Part). From p f (r 0) (parts ++ more) end) (counted_is size e) code) go)

  -- two pointers in R12 and R13
  pub differs : (size : ℕ) (a b : Value) (k : ℤ) (r m : ℕ → ℕ) (st : Bytes) (y : Meter) → segment_start segment + 4 ≤ sp
      → Stage p s next frames all own segment base sp ps r m st → IsDifference s size a b k → StayInside s a b
      → HasCode (value_code (placed p.core (kept s)) a) (r 12) → HasCode (value_code (placed p.core (kept s)) b) (r 13)
      → From p f (r 0) (two Sub 13 12 ∷ (counted size ++ more)) end → Counts r k
      → Leads (suc (counting size + n)) (at segment ps r m st x y) Q
  differs size a b k r m st y low h diff inside has_a has_b code go =
      let alive : List Placed = placed p.core (kept s) in
      let z : ℤ = pos diff.left -ℤ pos diff.right in
      let found = alive_address p.core s diff.object diff.alive in
      let is_a : r 12 ≡ (found.0 + diff.left) % 65536 =
      subst (λ (o : Option ℕ). HasCode (pointer_code o diff.left) (r 12)) found.1
      (subst (λ (v : Value). HasCode (value_code alive v) (r 12)) diff.is_left has_a) in
      let is_b : r 13 ≡ (found.0 + diff.right) % 65536 =
      subst (λ (o : Option ℕ). HasCode (pointer_code o diff.right) (r 13)) found.1
      (subst (λ (v : Value). HasCode (value_code alive v) (r 13)) diff.is_right has_b) in
      let in_left : StaysInside s (Pointer diff.object diff.left) =
      subst (λ (v : Value). StaysInside s v) diff.is_left inside.0 in
      let in_right : StaysInside s (Pointer diff.object diff.right) =
      subst (λ (v : Value). StaysInside s v) diff.is_right inside.1 in
      let near_left = near_offset p lie s next diff.object diff.left h.made diff.alive in_left in
      let near_right = near_offset p lie s next diff.object diff.right h.made diff.alive in_right in
      let c = from_do p f (r 0) (Two Sub false (Reg 13) (ToReg 12)) (counted size ++ more) end code in
      let r1 : ℕ → ℕ = set_reg (flagged (set_reg r 0 (r 0 + 2)) (two_status Sub false (r 2) (r 12) (r 13))) 12
      ((r 12 + 65536 - (r 13 + 0)) % 65536) in
      sets p.code p.low p.high segment sp ps h.ground Q (counting size + n) all h.shape r m st x y Sub false (Reg 13) (ToReg 12)
      (InRegister 13) (InRegister 12) r1 h.facts h.words c.0 in_register to_register refl tt tt refl h.stack
      (λ st2 y2 facts wide.
      counts size z k r1 m st2 y2 low (with_regs p s next all own segment base sp ps frames r m r1 st st2 h.stack wide facts h)
      (difference_word found.0 diff.left diff.right (r 12) (r 13) is_a is_b) diff.some
      diff.few (signed_difference diff.left diff.right z near_left near_right refl) diff.quotient c.1
      (λ r2 m2 st3 y3 in_r12 spares code3 stage3.
      go r2 m2 st3 y3 in_r12 (record { nine = spares.nine; ten = spares.ten }) code3 stage3))

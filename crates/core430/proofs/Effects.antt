-- An instruction depends on the bytes that it uses alone.
use Rattle.std.proofs.Common.{◌≡◌, ℕ, ◌+◌, ◌%◌, Bool, true, false, ◌&&◌, nat_eq, refl, ap, ◌∙◌, subst, arith, Option, Some, None, if◌then◌else◌}
use Rattle.std.proofs.lemmas.Bool.Decides.{nat_tests}
use Rattle.isa430.specs.declared.instr.TwoOp.{TwoOp}
use Rattle.isa430.specs.declared.instr.TwoOp.TheVariants.{Mov}
use Rattle.isa430.specs.declared.instr.OneOp.{OneOp}
use Rattle.isa430.specs.declared.instr.OneOp.TheVariants.{Rrc, Swpb, Rra, Sxt, Push, Call}
use Rattle.isa430.specs.declared.instr.Instr.{Instr}
use Rattle.isa430.specs.declared.instr.Instr.TheVariants.{Two, One, Jump}
use Rattle.core430.specs.declared.operand.Place.{Place}
use Rattle.core430.specs.declared.operand.Place.TheVariants.{InRegister, InMemory, Given}
use Rattle.core430.specs.Bytes.{word_address, with_byte}
use Rattle.core430.specs.Operands.{src_place, dst_place, raised, value_at, odd_of}
use Rattle.core430.specs.Instructions.{Effect, Sets, Stores, Faults, is_kept, lowered, fault_or, when_even, deliver, settle, switches_off, two_effect, one_effect}
use Rattle.core430.specs.Uses.{access_bytes, place_bytes, uses_destination, one_changes, IsWithin, joined, SameOn, AreAlike, DependsOnUses}
use Rattle.core430.proofs.Truths.{or-left, or-right, and-both}
use Rattle.core430.proofs.SameBytes.{same-no_more, same-word, same-put, same-put_byte}

pub even-of : (a : ℕ) → odd_of false (InMemory a) ≡ None → a % 2 ≡ 0
even-of a h = by (nat_eq (a % 2) 0) refl h
  where
    by : (t : Bool) → nat_eq (a % 2) 0 ≡ t → (if t then None else Some a) ≡ None → a % 2 ≡ 0
    by true e k = grind (arith, nat_tests)
    by false e k = absurd (differ k)
      where
        differ : Some a ≡ None → ⊥
        differ q = cc

-- ---- results that go to their places

deliver-alike : (p : ℕ → Bool) (m k : ℕ → ℕ) (byte : Bool) (r : ℕ → ℕ) (q : Place) (v : ℕ) → SameOn p m k → odd_of byte q ≡ None → AreAlike (joined p (place_bytes byte q)) m k (deliver byte r m q v) (deliver byte r k q v)
deliver-alike p m k byte r (InRegister n) v s e = (refl, same-no_more p m k s)
deliver-alike p m k true r (InMemory a) v s e = (with_byte a (k (word_address a)) v, refl, same-put_byte p m k a v s)
deliver-alike p m k false r (InMemory a) v s e = (v, refl, same-put p m k a v s (even-of a e))
deliver-alike p m k byte r (Given x) v s e = (refl, same-no_more p m k s)

if-alike : (p : ℕ → Bool) (m k : ℕ → ℕ) (t : Bool) (a : ℕ) (e f : Effect) → AreAlike p m k e f → AreAlike p m k (if t then Faults a else e) (if t then Faults a else f)
if-alike p m k true a e f h = refl
if-alike p m k false a e f h = h

settle-alike : (p : ℕ → Bool) (m k : ℕ → ℕ) (byte : Bool) (pc : ℕ) (r : ℕ → ℕ) (q : Place) (v : ℕ) → SameOn p m k → odd_of byte q ≡ None → AreAlike (joined p (place_bytes byte q)) m k (settle byte pc r m q v) (settle byte pc r k q v)
settle-alike p m k byte pc r q v s e = if-alike _ m k (switches_off q v) pc _ _ (deliver-alike p m k byte r q v s e)

kept-alike : (p w : ℕ → Bool) (m k : ℕ → ℕ) (t : Bool) (r : ℕ → ℕ) (e f : Effect) → SameOn p m k → AreAlike (joined p w) m k e f → AreAlike (joined p (λ b. t && w b)) m k (if t then e else Sets r) (if t then f else Sets r)
kept-alike p w m k true r e f s h = h
kept-alike p w m k false r e f s h = (refl, same-no_more p m k s)

fault-alike : (p : ℕ → Bool) (m k : ℕ → ℕ) (o : Option ℕ) (e f : Effect) → (o ≡ None → AreAlike p m k e f) → AreAlike p m k (fault_or o e) (fault_or o f)
fault-alike p m k None e f h = h refl
fault-alike p m k (Some a) e f h = refl

even-alike : (p : ℕ → Bool) (m k : ℕ → ℕ) (byte : Bool) (q : Place) (e f : Effect) → (odd_of byte q ≡ None → AreAlike p m k e f) → AreAlike p m k (when_even byte q e) (when_even byte q f)
even-alike p m k byte q e f h = fault-alike p m k (odd_of byte q) e f h

self : (a : ℕ) → nat_eq a a ≡ true
self a = grind (arith, nat_tests)

-- what stands at a place
value-same : (p : ℕ → Bool) (m k : ℕ → ℕ) (byte : Bool) (r : ℕ → ℕ) (q : Place) → SameOn p m k → odd_of byte q ≡ None → IsWithin (place_bytes byte q) p → value_at byte r m q ≡ value_at byte r k q
value-same p m k true r (InRegister n) s e h = refl
value-same p m k false r (InRegister n) s e h = refl
value-same p m k true r (InMemory a) s e h = s.at a (h a (or-left (nat_eq a a) _ (self a)))
value-same p m k false r (InMemory a) s e h = same-word p m k a s (even-of a e) (h a (or-left (nat_eq a a) _ (self a))) (h (a + 1) (or-right (nat_eq (a + 1) a) _ (self (a + 1))))
value-same p m k true r (Given v) s e h = refl
value-same p m k false r (Given v) s e h = refl

-- ---- instructions of two operands

-- MOV does not use what stands at its destination
destination-same : (op : TwoOp) (byte : Bool) (pc : ℕ) (r k : ℕ → ℕ) (status : ℕ) (q : Place) (d e s : ℕ) → (uses_destination op ≡ true → d ≡ e) → two_effect op byte pc r k status q d s ≡ two_effect op byte pc r k status q e s
destination-same Mov byte pc r k status q d e s h = refl
destination-same op byte pc r k status q d e s h = ap (λ x. two_effect op byte pc r k status q x s) (h refl)

two-alike : (p : ℕ → Bool) (m k : ℕ → ℕ) (op : TwoOp) (byte : Bool) (pc : ℕ) (r : ℕ → ℕ) (status : ℕ) (q : Place) (d s : ℕ) → SameOn p m k → odd_of byte q ≡ None → AreAlike (joined p (λ b. is_kept op && place_bytes byte q b)) m k (two_effect op byte pc r m status q d s) (two_effect op byte pc r k status q d s)
two-alike p m k op byte pc r status q d s a e = kept-alike p (place_bytes byte q) m k (is_kept op) _ _ _ a (settle-alike p m k byte pc _ q _ a e)

-- ---- and of one

word-alike : (p : ℕ → Bool) (m k : ℕ → ℕ) (a x : ℕ) (r : ℕ → ℕ) → SameOn p m k → AreAlike (joined p (access_bytes false a)) m k (when_even false (InMemory a) (Stores r a x)) (when_even false (InMemory a) (Stores r a x))
word-alike p m k a x r s = even-alike _ m k false (InMemory a) (Stores r a x) (Stores r a x) (λ e. (x, refl, same-put p m k a x s (even-of a e)))

one-alike : (p : ℕ → Bool) (m k : ℕ → ℕ) (op : OneOp) (byte : Bool) (r : ℕ → ℕ) (status : ℕ) (q : Place) (v : ℕ) → SameOn p m k → odd_of byte q ≡ None → AreAlike (joined p (one_changes op byte r q)) m k (one_effect op byte r m status q v) (one_effect op byte r k status q v)
one-alike p m k Rrc byte r status q v s e = deliver-alike p m k byte _ q _ s e
one-alike p m k Swpb byte r status q v s e = deliver-alike p m k byte _ q _ s e
one-alike p m k Rra byte r status q v s e = deliver-alike p m k byte _ q _ s e
one-alike p m k Sxt byte r status q v s e = deliver-alike p m k byte _ q _ s e
one-alike p m k Push byte r status q v s e = word-alike p m k (lowered (r 1)) v _ s
one-alike p m k Call byte r status q v s e = word-alike p m k (lowered (r 1)) (r 0) _ s

-- ---- every instruction

pub depends : (pc : ℕ) (i : Instr) (r : ℕ → ℕ) → DependsOnUses pc i r
depends pc (Two op byte src dst) r p m k s h =
    let x = src_place r src in
    let q = dst_place r dst in
    even-alike _ m k byte x _ _ (λ ex. even-alike _ m k byte q _ _ (λ eq.
    let e : value_at byte r m x ≡ value_at byte r k x = value-same p m k byte r x s ex (λ b j. h b (or-left _ _ j)) in
    let f : uses_destination op ≡ true → value_at byte r m q ≡ value_at byte r k q = λ u. value-same p m k byte r q s eq (λ b j. h b (or-right (place_bytes byte x b) _ (and-both u j))) in
    let g = destination-same op byte pc (raised byte r src) k (r 2) q (value_at byte r m q) (value_at byte r k q) (value_at byte r k x) f in
    subst (AreAlike (joined p (λ b. is_kept op && place_bytes byte q b)) m k (two_effect op byte pc (raised byte r src) m (r 2) q (value_at byte r m q) (value_at byte r m x)))
    (ap (λ v. two_effect op byte pc (raised byte r src) k (r 2) q (value_at byte r m q) v) e ∙ g)
    (two-alike p m k op byte pc (raised byte r src) (r 2) q (value_at byte r m q) (value_at byte r m x) s eq)))
depends pc (One op byte src) r p m k s h =
    let x = src_place r src in
    even-alike _ m k byte x _ _ (λ ex.
    let e : value_at byte r m x ≡ value_at byte r k x = value-same p m k byte r x s ex h in
    subst (AreAlike (joined p (one_changes op byte (raised byte r src) x)) m k (one_effect op byte (raised byte r src) m (r 2) x (value_at byte r m x)))
    (ap (λ v. one_effect op byte (raised byte r src) k (r 2) x v) e)
    (one-alike p m k op byte (raised byte r src) (r 2) x (value_at byte r m x) s ex))
depends pc (Jump cond offset) r p m k s h = (refl, same-no_more p m k s)

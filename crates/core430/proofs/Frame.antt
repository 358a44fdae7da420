-- A step changes no byte but those of its set.
use Rattle.std.proofs.Common.{◌≡◌, ℕ, ◌+◌, ◌-◌, ◌/◌, ◌%◌, ◌<◌, refl, arith, Bool, true, false, ◌&&◌, Option, Some, None, if◌then◌else◌, nat_eq}
use Rattle.base16.specs.Memory.{put}
use Rattle.isa430.specs.declared.instr.TwoOp.{TwoOp}
use Rattle.isa430.specs.declared.instr.TwoOp.TheVariants.{Mov, Add, Addc, Subc, Sub, Cmp, Bit, Bic, Bis, Xor, And}
use Rattle.isa430.specs.declared.instr.OneOp.{OneOp}
use Rattle.isa430.specs.declared.instr.OneOp.TheVariants.{Rrc, Swpb, Rra, Sxt, Push, Call}
use Rattle.isa430.specs.declared.instr.Instr.{Instr}
use Rattle.isa430.specs.declared.instr.Instr.TheVariants.{Two, One, Jump}
use Rattle.isa430.proofs.Formats.{decoded}
use Rattle.core430.specs.declared.operand.Place.{Place}
use Rattle.core430.specs.declared.operand.Place.TheVariants.{InRegister, InMemory, Given}
use Rattle.core430.specs.Conditions.{HasWidth, HasOperands}
use Rattle.core430.specs.Bytes.{word_address, byte_in, byte_at}
use Rattle.core430.specs.Operands.{src_place, dst_place, raised, value_at, odd_of}
use Rattle.core430.specs.Status.{carry_of}
use Rattle.core430.specs.Arithmetic.{complement_of, is_negative}
use Rattle.core430.specs.Instructions.{Effect, Sets, Stores, Faults, is_kept, lowered, fault_or, when_even, deliver, switches_off, two_result, one_result, two_effect, one_effect, effect_of}
use Rattle.core430.specs.Step.{State, Next, Service, Wild, is_service, arrive, finish, past, execute_if, fetched, step}
use Rattle.core430.specs.Uses.{access_bytes, place_bytes, one_changes, operand_changes, changes_if, AreWords, IsLeft, ChangesItsBytes}
use Rattle.core430.proofs.SameBytes.{put-left, put_byte-left}
use Rattle.core430.proofs.Effects.{even-of}
use Rattle.core430.proofs.Validity.{operands_there}
use Rattle.core430.proofs.Widths.{and_fits, or_fits, xor_fits}

-- ---- bytes are below 256

pub byte_small : (a w : ℕ) → w < 65536 → byte_in a w < 256
byte_small a w l = at (nat_eq (a % 2) 0)
  where
    at : (t : Bool) → (if t then w % 256 else w / 256) < 256
    at true = omega arith
    at false = omega arith

value_small : (r m : ℕ → ℕ) (p : Place) → AreWords m → value_at true r m p < 256
value_small r m (InRegister n) h = omega arith
value_small r m (InMemory a) h = byte_small a (m (word_address a)) (h (word_address a))
value_small r m (Given v) h = omega arith

two_small : (op : TwoOp) (c : Bool) (d s : ℕ) → d < 256 → s < 256 → two_result op true c d s < 256
two_small Mov c d s ld ls = ls
two_small Add c d s ld ls = omega arith
two_small Addc c d s ld ls = omega arith
two_small Subc c d s ld ls = omega arith
two_small Sub c d s ld ls = omega arith
two_small Cmp c d s ld ls = omega arith
two_small Bit c d s ld ls = and_fits true d s ld
two_small Bic c d s ld ls = and_fits true d (complement_of true s) ld
two_small Bis c d s ld ls = or_fits true d s ld ls
two_small Xor c d s ld ls = xor_fits true d s ld ls
two_small And c d s ld ls = and_fits true d s ld

shifted_small : (v : ℕ) (t : Bool) → v < 256 → v / 2 + (if t then 128 else 0) < 256
shifted_small v true l = omega arith
shifted_small v false l = omega arith

words_only : {A : Type 0} → true ≡ false → A
words_only h = absurd (differ h)
  where
    differ : true ≡ false → ⊥
    differ k = cc

one_small : (op : OneOp) (c : Bool) (v : ℕ) → HasWidth op true → v < 256 → one_result op true c v < 256
one_small Rrc c v h l = shifted_small v c l
one_small Swpb c v h l = words_only h
one_small Rra c v h l = shifted_small v (is_negative true v) l
one_small Sxt c v h l = words_only h
one_small Push c v h l = l
one_small Call c v h l = l

-- ---- effects

-- a byte after an effect
abbrev pub IsLeftBy : (ℕ → ℕ) → ℕ → Effect → Type 0
IsLeftBy m b (Sets r) = Unit {0}
IsLeftBy m b (Stores r a w) = byte_at (put m a w) b ≡ byte_at m b
IsLeftBy m b (Faults a) = Unit {0}

-- a byte that is delivered is below 256
abbrev pub IsNarrow : Bool → ℕ → Type 0
IsNarrow true v = v < 256
IsNarrow false v = Unit {0}

deliver_left : (byte : Bool) (r m : ℕ → ℕ) (p : Place) (v b : ℕ) → IsNarrow byte v → odd_of byte p ≡ None → place_bytes byte p b ≡ false → IsLeftBy m b (deliver byte r m p v)
deliver_left byte r m (InRegister n) v b l e h = tt
deliver_left true r m (InMemory a) v b l e h = put_byte-left m a v b l h
deliver_left false r m (InMemory a) v b l e h = put-left m a v b (even-of a e) h
deliver_left byte r m (Given x) v b l e h = tt

if_left : (m : ℕ → ℕ) (b : ℕ) (t : Bool) (e f : Effect) → (t ≡ true → IsLeftBy m b e) → (t ≡ false → IsLeftBy m b f) → IsLeftBy m b (if t then e else f)
if_left m b true e f h k = h refl
if_left m b false e f h k = k refl

fault_left : (m : ℕ → ℕ) (b : ℕ) (o : Option ℕ) (e : Effect) → (o ≡ None → IsLeftBy m b e) → IsLeftBy m b (fault_or o e)
fault_left m b None e h = h refl
fault_left m b (Some a) e h = tt

even_left : (m : ℕ → ℕ) (b : ℕ) (byte : Bool) (p : Place) (e : Effect) → (odd_of byte p ≡ None → IsLeftBy m b e) → IsLeftBy m b (when_even byte p e)
even_left m b byte p e h = fault_left m b (odd_of byte p) e h

used : (t q : Bool) → (t && q) ≡ false → t ≡ true → q ≡ false
used true q h e = h
used false q h e = absurd (differ e)
  where
    differ : false ≡ true → ⊥
    differ k = cc

two_left : (op : TwoOp) (byte : Bool) (pc : ℕ) (r m : ℕ → ℕ) (status : ℕ) (q : Place) (d s b : ℕ) → ((c : Bool) → IsNarrow byte (two_result op byte c d s)) → odd_of byte q ≡ None → (is_kept op && place_bytes byte q b) ≡ false → IsLeftBy m b (two_effect op byte pc r m status q d s)
two_left op byte pc r m status q d s b l e h =
    if_left m b (is_kept op) _ (Sets _) (λ k. if_left m b (switches_off q (two_result op byte (carry_of status) d s)) (Faults pc) _ (λ _. tt) (λ _. deliver_left byte _ m q _ b (l (carry_of status)) e (used (is_kept op) _ h k))) (λ _. tt)

word_left : (m : ℕ → ℕ) (r : ℕ → ℕ) (a x b : ℕ) → access_bytes false a b ≡ false → IsLeftBy m b (when_even false (InMemory a) (Stores r a x))
word_left m r a x b h = even_left m b false (InMemory a) (Stores r a x) (λ e. put-left m a x b (even-of a e) h)

one_left : (op : OneOp) (byte : Bool) (r m : ℕ → ℕ) (status : ℕ) (q : Place) (v b : ℕ) → ((c : Bool) → IsNarrow byte (one_result op byte c v)) → odd_of byte q ≡ None → one_changes op byte r q b ≡ false → IsLeftBy m b (one_effect op byte r m status q v)
one_left Rrc byte r m status q v b l e h = deliver_left byte _ m q _ b (l (carry_of status)) e h
one_left Swpb byte r m status q v b l e h = deliver_left byte _ m q _ b (l (carry_of status)) e h
one_left Rra byte r m status q v b l e h = deliver_left byte _ m q _ b (l (carry_of status)) e h
one_left Sxt byte r m status q v b l e h = deliver_left byte _ m q _ b (l (carry_of status)) e h
one_left Push byte r m status q v b l e h = word_left m _ (lowered (r 1)) v b h
one_left Call byte r m status q v b l e h = word_left m _ (lowered (r 1)) (r 0) b h

pub two_narrow : (op : TwoOp) (byte : Bool) (r m : ℕ → ℕ) (p q : Place) → AreWords m → (c : Bool) → IsNarrow byte (two_result op byte c (value_at byte r m q) (value_at byte r m p))
two_narrow op true r m p q h c = two_small op c _ _ (value_small r m q h) (value_small r m p h)
two_narrow op false r m p q h c = tt

pub one_narrow : (op : OneOp) (byte : Bool) (r m : ℕ → ℕ) (p : Place) → HasWidth op byte → AreWords m → (c : Bool) → IsNarrow byte (one_result op byte c (value_at byte r m p))
one_narrow op true r m p w h c = one_small op c _ w (value_small r m p h)
one_narrow op false r m p w h c = tt

pub effect_left : (pc : ℕ) (i : Instr) (r m : ℕ → ℕ) (b : ℕ) → HasOperands i → AreWords m → operand_changes i r b ≡ false → IsLeftBy m b (effect_of pc i r m)
effect_left pc (Two op byte src dst) r m b w h k =
    even_left m b byte (src_place r src) _ (λ es. even_left m b byte (dst_place r dst) _ (λ ed.
    two_left op byte pc (raised byte r src) m (r 2) (dst_place r dst) _ _ b (two_narrow op byte r m (src_place r src) (dst_place r dst) h) ed k))
effect_left pc (One op byte src) r m b w h k =
    even_left m b byte (src_place r src) _ (λ es.
    one_left op byte (raised byte r src) m (r 2) (src_place r src) _ b (one_narrow op byte r m (src_place r src) w.0 h) es k)
effect_left pc (Jump cond offset) r m b w h k = tt

-- ---- the step

arrive_left : (m r k : ℕ → ℕ) (b : ℕ) → byte_at k b ≡ byte_at m b → IsLeft m b (arrive r k)
arrive_left m r k b h = at (is_service (r 0))
  where
    at : (t : Bool) → IsLeft m b (if t then Service ((r 0 - 65280) / 2) (record { regs = r; memory = k }) else Next (record { regs = r; memory = k }))
    at true = h
    at false = h

finish_left : (denied : ℕ → Bool) (m : ℕ → ℕ) (b : ℕ) (e : Effect) → IsLeftBy m b e → IsLeft m b (finish denied m e)
finish_left denied m b (Sets r) h = arrive_left m r m b refl
finish_left denied m b (Stores r a w) h = at (denied a)
  where
    at : (t : Bool) → IsLeft m b (if t then Wild a else arrive r (put m a w))
    at true = tt
    at false = arrive_left m r (put m a w) b h
finish_left denied m b (Faults a) h = tt

pub step_left : (denied : ℕ → Bool) (s : State) → ChangesItsBytes denied s
unfolding step
step_left denied s words b h = at (nat_eq (s.regs 0 % 2) 0) h
  where
    by_fetch : (o : Option Instr) → fetched s ≡ o → changes_if o s b ≡ false → IsLeft s.memory b (execute_if denied o s)
    by_fetch None e k = tt
    by_fetch (Some i) e k = finish_left denied s.memory b _ (effect_left (s.regs 0) i (past i s.regs) s.memory b (operands_there i ((decoded _ _ _ i e).is_valid)) words k)

    at : (t : Bool) → (t && changes_if (fetched s) s b) ≡ false → IsLeft s.memory b (if t then execute_if denied (fetched s) s else Wild (s.regs 0))
    at true k = by_fetch (fetched s) refl k
    at false k = tt

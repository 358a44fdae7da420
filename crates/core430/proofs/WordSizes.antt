-- A step leaves words of 16 bits where it found such words.
use Rattle.std.proofs.Common.{◌≡◌, ◌≤◌, ℕ, ◌+◌, ◌-◌, ◌*◌, ◌/◌, ◌%◌, ◌<◌, refl, subst, arith, Bool, true, false, Option, Some, None, if◌then◌else◌, nat_eq, ℤ, pos, negsuc}
use Rattle.base16.specs.Memory.{put}
use Rattle.isa430.specs.declared.instr.TwoOp.{TwoOp}
use Rattle.isa430.specs.declared.instr.TwoOp.TheVariants.{Mov, Add, Addc, Subc, Sub, Cmp, Bit, Bic, Bis, Xor, And}
use Rattle.isa430.specs.declared.instr.OneOp.{OneOp}
use Rattle.isa430.specs.declared.instr.OneOp.TheVariants.{Rrc, Swpb, Rra, Sxt, Push, Call}
use Rattle.isa430.specs.declared.instr.Gen.{Gen}
use Rattle.isa430.specs.declared.instr.Gen.TheVariants.{Zero, One as ConstantOne, Two as ConstantTwo, Four, Eight, MinusOne}
use Rattle.isa430.specs.declared.instr.Src.{Src}
use Rattle.isa430.specs.declared.instr.Src.TheVariants.{Reg, Indexed, Absolute, Indirect, Increment, Immediate, Constant}
use Rattle.isa430.specs.declared.instr.Dst.{Dst}
use Rattle.isa430.specs.declared.instr.Dst.TheVariants.{Reg as ToReg, Indexed as ToIndexed, Absolute as ToAbsolute}
use Rattle.isa430.specs.declared.instr.Instr.{Instr}
use Rattle.isa430.specs.declared.instr.Instr.TheVariants.{Two, One, Jump}
use Rattle.isa430.specs.Table.{size_of, code_of, decode_of, WordsAt}
use Rattle.isa430.proofs.Formats.{stands, decoded}
use Rattle.core430.specs.declared.operand.Place.{Place}
use Rattle.core430.specs.declared.operand.Place.TheVariants.{InRegister, InMemory, Given}
use Rattle.core430.specs.Conditions.{HasOperands}
use Rattle.core430.specs.Registers.{set_reg, write_reg}
use Rattle.core430.specs.Bytes.{word_address, with_byte}
use Rattle.core430.specs.Status.{bit, with_flags, carry_of}
use Rattle.core430.specs.Arithmetic.{complement_of, is_negative}
use Rattle.core430.specs.Operands.{constant_of, src_place, dst_place, raise_of, raised, value_at, odd_of}
use Rattle.core430.specs.Instructions.{Effect, Sets, Stores, Faults, flagged, is_kept, is_taken, jump_target, lowered, fault_or, when_even, deliver, switches_off, two_result, two_status, one_result, one_status, two_effect, one_effect, effect_of}
use Rattle.core430.specs.Step.{State, Next, Service, Wild, is_service, arrive, finish, past, execute_if, fetched, step}
use Rattle.core430.specs.Uses.{AreWords, LeavesWords, KeepsWords}
use Rattle.core430.proofs.Validity.{operands_there}
use Rattle.core430.proofs.Flags.{bit_below}
use Rattle.core430.proofs.Widths.{and_fits, or_fits, xor_fits}
use Rattle.core430.proofs.Frame.{IsNarrow, byte_small, two_narrow, one_narrow}

-- ---- registers and memory

if_word : (t : Bool) (x y : ℕ) → x < 65536 → y < 65536 → (if t then x else y) < 65536
if_word true x y h k = h
if_word false x y h k = k

pub words_set : (r : ℕ → ℕ) (n v : ℕ) → AreWords r → v < 65536 → AreWords (set_reg r n v)
words_set r n v h l k = if_word (nat_eq k n) v (r k) l (h k)

words_write : (r : ℕ → ℕ) (n v : ℕ) → AreWords r → v < 65536 → AreWords (write_reg r n v)
words_write r n v h l = at (nat_eq n 3)
  where
    at : (t : Bool) → AreWords (if t then r else set_reg r n v)
    at true = h
    at false = words_set r n v h l

pub words_put : (m : ℕ → ℕ) (a w : ℕ) → AreWords m → w < 65536 → AreWords (put m a w)
unfolding put
words_put m a w h l b = if_word (nat_eq b a) w (m b) l (h b)

-- ---- status

flags_word : (status : ℕ) (c z n v : Bool) → status < 65536 → with_flags status c z n v < 65536
unfolding with_flags
flags_word status c z n v l =
    let a = bit_below c in let b = bit_below z in let d = bit_below n in let e = bit_below v in
    sum (status / 512) (bit v) (status / 8 % 32) (bit n) (bit z) (bit c) (omega arith) e (omega arith) d b a
  where
    sum : (h v l n z c : ℕ) → h ≤ 127 → v ≤ 1 → l < 32 → n ≤ 1 → z ≤ 1 → c ≤ 1 → h * 512 + v * 256 + l * 8 + n * 4 + z * 2 + c < 65536
    sum h v l n z c lh lv ll ln lz lc = omega arith

words_two_flags : (op : TwoOp) (byte : Bool) (r : ℕ → ℕ) (status d s : ℕ) → AreWords r → status < 65536 → AreWords (flagged r (two_status op byte status d s))
words_two_flags Mov byte r status d s h l = h
words_two_flags Add byte r status d s h l = words_set r 2 _ h (flags_word status _ _ _ _ l)
words_two_flags Addc byte r status d s h l = words_set r 2 _ h (flags_word status _ _ _ _ l)
words_two_flags Subc byte r status d s h l = words_set r 2 _ h (flags_word status _ _ _ _ l)
words_two_flags Sub byte r status d s h l = words_set r 2 _ h (flags_word status _ _ _ _ l)
words_two_flags Cmp byte r status d s h l = words_set r 2 _ h (flags_word status _ _ _ _ l)
words_two_flags Bit byte r status d s h l = words_set r 2 _ h (flags_word status _ _ _ _ l)
words_two_flags Bic byte r status d s h l = h
words_two_flags Bis byte r status d s h l = h
words_two_flags Xor byte r status d s h l = words_set r 2 _ h (flags_word status _ _ _ _ l)
words_two_flags And byte r status d s h l = words_set r 2 _ h (flags_word status _ _ _ _ l)

words_one_flags : (op : OneOp) (byte : Bool) (r : ℕ → ℕ) (status v : ℕ) → AreWords r → status < 65536 → AreWords (flagged r (one_status op byte status v))
words_one_flags Rrc byte r status v h l = words_set r 2 _ h (flags_word status _ _ _ _ l)
words_one_flags Swpb byte r status v h l = h
words_one_flags Rra byte r status v h l = words_set r 2 _ h (flags_word status _ _ _ _ l)
words_one_flags Sxt byte r status v h l = words_set r 2 _ h (flags_word status _ _ _ _ l)
words_one_flags Push byte r status v h l = h
words_one_flags Call byte r status v h l = h

-- ---- results

two_word : (op : TwoOp) (byte c : Bool) (d s : ℕ) → d < 65536 → s < 65536 → two_result op byte c d s < 65536
two_word Mov byte c d s ld ls = ls
two_word Add true c d s ld ls = omega arith
two_word Add false c d s ld ls = omega arith
two_word Addc true c d s ld ls = omega arith
two_word Addc false c d s ld ls = omega arith
two_word Subc true c d s ld ls = omega arith
two_word Subc false c d s ld ls = omega arith
two_word Sub true c d s ld ls = omega arith
two_word Sub false c d s ld ls = omega arith
two_word Cmp true c d s ld ls = omega arith
two_word Cmp false c d s ld ls = omega arith
two_word Bit byte c d s ld ls = and_fits false d s ld
two_word Bic byte c d s ld ls = and_fits false d (complement_of byte s) ld
two_word Bis byte c d s ld ls = or_fits false d s ld ls
two_word Xor byte c d s ld ls = xor_fits false d s ld ls
two_word And byte c d s ld ls = and_fits false d s ld

shifted_word : (byte : Bool) (v : ℕ) (t : Bool) → v < 65536 → v / 2 + (if t then (if byte then 128 else 32768) else 0) < 65536
shifted_word true v true l = omega arith
shifted_word true v false l = omega arith
shifted_word false v true l = omega arith
shifted_word false v false l = omega arith

rotated_word : (byte : Bool) (v : ℕ) (c : Bool) → v < 65536 → one_result Rrc byte c v < 65536
rotated_word true v c l = shifted_word true v c l
rotated_word false v c l = shifted_word false v c l

halved_word : (byte : Bool) (v : ℕ) (c : Bool) → v < 65536 → one_result Rra byte c v < 65536
halved_word true v c l = shifted_word true v (is_negative true v) l
halved_word false v c l = shifted_word false v (is_negative false v) l

extended_word : (v : ℕ) (t : Bool) → v % 256 + (if t then 65280 else 0) < 65536
extended_word v true = omega arith
extended_word v false = omega arith

one_word : (op : OneOp) (byte c : Bool) (v : ℕ) → v < 65536 → one_result op byte c v < 65536
one_word Rrc byte c v l = rotated_word byte v c l
one_word Swpb byte c v l = omega arith
one_word Rra byte c v l = halved_word byte v c l
one_word Sxt byte c v l = extended_word v _
one_word Push byte c v l = l
one_word Call byte c v l = l

-- ---- operands

-- a word that the instruction gives
abbrev IsGivenWord : Place → Type 0
IsGivenWord (InRegister n) = Unit {0}
IsGivenWord (InMemory a) = Unit {0}
IsGivenWord (Given v) = v < 65536

value_word : (byte : Bool) (r m : ℕ → ℕ) (p : Place) → AreWords r → AreWords m → IsGivenWord p → value_at byte r m p < 65536
value_word true r m (InRegister n) hr hm g = omega arith
value_word false r m (InRegister n) hr hm g = hr n
value_word true r m (InMemory a) hr hm g = let b = byte_small a (m (word_address a)) (hm (word_address a)) in omega arith
value_word false r m (InMemory a) hr hm g = hm a
value_word true r m (Given v) hr hm g = omega arith
value_word false r m (Given v) hr hm g = g

words_raised : (byte : Bool) (r : ℕ → ℕ) (s : Src) → AreWords r → AreWords (raised byte r s)
words_raised byte r (Reg n) h = h
words_raised byte r (Indexed n x) h = h
words_raised byte r (Absolute a) h = h
words_raised byte r (Indirect n) h = h
words_raised byte r (Increment n) h = words_set r n ((r n + raise_of byte n) % 65536) h (omega arith)
words_raised byte r (Immediate v) h = h
words_raised byte r (Constant g) h = h

constant_word : (g : Gen) → constant_of g < 65536
constant_word Zero = omega arith
constant_word ConstantOne = omega arith
constant_word ConstantTwo = omega arith
constant_word Four = omega arith
constant_word Eight = omega arith
constant_word MinusOne = omega arith

given_dst : (r : ℕ → ℕ) (d : Dst) → IsGivenWord (dst_place r d)
given_dst r (ToReg n) = tt
given_dst r (ToIndexed n x) = tt
given_dst r (ToAbsolute a) = tt

-- ---- effects

-- the registers and the word of an effect
abbrev LeavesWordsBy : Effect → Type 0
LeavesWordsBy (Sets r) = AreWords r
LeavesWordsBy (Stores r a w) = AreWords r × (w < 65536)
LeavesWordsBy (Faults a) = Unit {0}

with_byte_word : (a w v : ℕ) → v < 256 → w < 65536 → with_byte a w v < 65536
with_byte_word a w v l h = at (nat_eq (a % 2) 0)
  where
    at : (t : Bool) → (if t then w / 256 * 256 + v else w % 256 + v * 256) < 65536
    at true = omega arith
    at false = omega arith

deliver_words : (byte : Bool) (r m : ℕ → ℕ) (p : Place) (v : ℕ) → AreWords r → AreWords m → v < 65536 → IsNarrow byte v → LeavesWordsBy (deliver byte r m p v)
deliver_words byte r m (InRegister n) v hr hm l n2 = words_write r n v hr l
deliver_words true r m (InMemory a) v hr hm l n = (hr, with_byte_word a (m (word_address a)) v n (hm (word_address a)))
deliver_words false r m (InMemory a) v hr hm l n = (hr, l)
deliver_words byte r m (Given x) v hr hm l n = hr

if_words : (t : Bool) (e f : Effect) → LeavesWordsBy e → LeavesWordsBy f → LeavesWordsBy (if t then e else f)
if_words true e f h k = h
if_words false e f h k = k

fault_words : (o : Option ℕ) (e : Effect) → LeavesWordsBy e → LeavesWordsBy (fault_or o e)
fault_words None e h = h
fault_words (Some a) e h = tt

even_words : (byte : Bool) (p : Place) (e : Effect) → LeavesWordsBy e → LeavesWordsBy (when_even byte p e)
even_words byte p e h = fault_words (odd_of byte p) e h

two_words : (op : TwoOp) (byte : Bool) (pc : ℕ) (r m : ℕ → ℕ) (status : ℕ) (q : Place) (d s : ℕ) → AreWords r → AreWords m → status < 65536 → d < 65536 → s < 65536 → ((c : Bool) → IsNarrow byte (two_result op byte c d s)) → LeavesWordsBy (two_effect op byte pc r m status q d s)
two_words op byte pc r m status q d s hr hm l ld ls n =
    let f : AreWords (flagged r (two_status op byte status d s)) = words_two_flags op byte r status d s hr l in
    if_words (is_kept op) _ (Sets _) (if_words (switches_off q (two_result op byte (carry_of status) d s)) (Faults pc) _ tt (deliver_words byte _ m q _ f hm (two_word op byte (carry_of status) d s ld ls) (n (carry_of status)))) f

one_words : (op : OneOp) (byte : Bool) (r m : ℕ → ℕ) (status : ℕ) (q : Place) (v : ℕ) → AreWords r → AreWords m → status < 65536 → v < 65536 → ((c : Bool) → IsNarrow byte (one_result op byte c v)) → LeavesWordsBy (one_effect op byte r m status q v)
one_words Rrc byte r m status q v hr hm l lv n = deliver_words byte _ m q _ (words_one_flags Rrc byte r status v hr l) hm (one_word Rrc byte (carry_of status) v lv) (n (carry_of status))
one_words Swpb byte r m status q v hr hm l lv n = deliver_words byte _ m q _ (words_one_flags Swpb byte r status v hr l) hm (one_word Swpb byte (carry_of status) v lv) (n (carry_of status))
one_words Rra byte r m status q v hr hm l lv n = deliver_words byte _ m q _ (words_one_flags Rra byte r status v hr l) hm (one_word Rra byte (carry_of status) v lv) (n (carry_of status))
one_words Sxt byte r m status q v hr hm l lv n = deliver_words byte _ m q _ (words_one_flags Sxt byte r status v hr l) hm (one_word Sxt byte (carry_of status) v lv) (n (carry_of status))
one_words Push byte r m status q v hr hm l lv n = even_words false (InMemory (lowered (r 1))) _ (words_set r 1 (lowered (r 1)) hr (omega arith), lv)
one_words Call byte r m status q v hr hm l lv n = even_words false (InMemory (lowered (r 1))) _ (words_set _ 0 v (words_set r 1 (lowered (r 1)) hr (omega arith)) lv, hr 0)

target_word : (next : ℕ) (o : ℤ) → jump_target next o < 65536
target_word next (pos n) = omega arith
target_word next (negsuc n) = omega arith

jump_words : (t : Bool) (r : ℕ → ℕ) (a : ℕ) → AreWords r → a < 65536 → AreWords (if t then set_reg r 0 a else r)
jump_words true r a h l = words_set r 0 a h l
jump_words false r a h l = h

-- the words that an instruction gives are words
abbrev pub GivesWords : Instr → (ℕ → ℕ) → Type 0
GivesWords (Two op byte src dst) r = IsGivenWord (src_place r src)
GivesWords (One op byte src) r = IsGivenWord (src_place r src)
GivesWords (Jump cond offset) r = Unit {0}

pub effect_words : (pc : ℕ) (i : Instr) (r m : ℕ → ℕ) → HasOperands i → AreWords r → AreWords m → GivesWords i r → LeavesWordsBy (effect_of pc i r m)
effect_words pc (Two op byte src dst) r m w hr hm g =
    even_words byte (src_place r src) _ (even_words byte (dst_place r dst) _
    (two_words op byte pc (raised byte r src) m (r 2) (dst_place r dst) _ _ (words_raised byte r src hr) hm (hr 2) (value_word byte r m (dst_place r dst) hr hm (given_dst r dst)) (value_word byte r m (src_place r src) hr hm g) (two_narrow op byte r m (src_place r src) (dst_place r dst) hm)))
effect_words pc (One op byte src) r m w hr hm g =
    even_words byte (src_place r src) _
    (one_words op byte (raised byte r src) m (r 2) (src_place r src) _ (words_raised byte r src hr) hm (hr 2) (value_word byte r m (src_place r src) hr hm g) (one_narrow op byte r m (src_place r src) w.0 hm))
effect_words pc (Jump cond offset) r m w hr hm g = jump_words (is_taken cond (r 2)) r (jump_target (r 0) offset) hr (target_word (r 0) offset)

-- ---- the step

-- three words as a memory
abbrev three : ℕ → ℕ → ℕ → (ℕ → ℕ)
three w0 w1 w2 = λ a. if nat_eq a 0 then w0 else (if nat_eq a 2 then w1 else w2)

-- what an instruction gives is the word that follows its first
decoded_words : (w0 w1 w2 : ℕ) (i : Instr) (r : ℕ → ℕ) → w1 < 65536 → decode_of w0 w1 w2 ≡ Some i → GivesWords i r
decoded_words w0 w1 w2 i r l d = at i (stands (three w0 w1 w2) 0 i d)
  where
    at : (j : Instr) → WordsAt (three w0 w1 w2) 0 (code_of j) → GivesWords j r
    at (Two op byte (Reg n) dst) h = tt
    at (Two op byte (Indexed n y) dst) h = tt
    at (Two op byte (Absolute y) dst) h = tt
    at (Two op byte (Indirect n) dst) h = tt
    at (Two op byte (Increment n) dst) h = tt
    at (Two op byte (Immediate v) dst) h = subst (λ (x : ℕ). x < 65536) h.1.0 l
    at (Two op byte (Constant g) dst) h = constant_word g
    at (One op byte (Reg n)) h = tt
    at (One op byte (Indexed n y)) h = tt
    at (One op byte (Absolute y)) h = tt
    at (One op byte (Indirect n)) h = tt
    at (One op byte (Increment n)) h = tt
    at (One op byte (Immediate v)) h = subst (λ (x : ℕ). x < 65536) h.1.0 l
    at (One op byte (Constant g)) h = constant_word g
    at (Jump cond offset) h = tt

arrive_words : (r m : ℕ → ℕ) → AreWords r → AreWords m → LeavesWords (arrive r m)
arrive_words r m hr hm = at (is_service (r 0))
  where
    at : (t : Bool) → LeavesWords (if t then Service ((r 0 - 65280) / 2) (record { regs = r; memory = m }) else Next (record { regs = r; memory = m }))
    at true = (hr, hm)
    at false = (hr, hm)

finish_words : (denied : ℕ → Bool) (m : ℕ → ℕ) (e : Effect) → AreWords m → LeavesWordsBy e → LeavesWords (finish denied m e)
finish_words denied m (Sets r) hm h = arrive_words r m h hm
finish_words denied m (Stores r a w) hm h = at (denied a)
  where
    at : (t : Bool) → LeavesWords (if t then Wild a else arrive r (put m a w))
    at true = tt
    at false = arrive_words r (put m a w) h.0 (words_put m a w hm h.1)
finish_words denied m (Faults a) hm h = tt

pub step_words : (denied : ℕ → Bool) (s : State) → KeepsWords denied s
unfolding step
step_words denied s hr hm = at (nat_eq (s.regs 0 % 2) 0)
  where
    by_fetch : (o : Option Instr) → fetched s ≡ o → LeavesWords (execute_if denied o s)
    by_fetch None e = tt
    by_fetch (Some i) e =
        let after : AreWords (past i s.regs) = words_set s.regs 0 ((s.regs 0 + size_of i) % 65536) hr (omega arith) in
        finish_words denied s.memory _ hm (effect_words (s.regs 0) i (past i s.regs) s.memory (operands_there i ((decoded _ _ _ i e).is_valid)) after hm (decoded_words _ _ _ i (past i s.regs) (hm ((s.regs 0 + 2) % 65536)) e))

    at : (t : Bool) → LeavesWords (if t then execute_if denied (fetched s) s else Wild (s.regs 0))
    at true = by_fetch (fetched s) refl
    at false = tt

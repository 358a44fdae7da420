-- Rules for running code that stands in memory: one for each way in which a step ends. Each takes the rest of the run
-- last, so that a proof is a chain of rules with one line for an instruction.
use Rattle.std.proofs.Common.{◌≡◌, ℕ, suc, ◌+◌, ◌*◌, ◌%◌, ◌<◌, ◌≤◌, refl, sym, ap, ◌∙◌, subst, arith, Bool, true, false, ◌&&◌, Option, Some, None, inl, inr, length}
use Rattle.std.proofs.lemmas.Bool.{eq-eqb, lt-leb}
use Rattle.std.proofs.lemmas.Bool.Decides.{nat_tests}
use Rattle.std.specs.Prelude.{nat_eq, nat_lt, if◌then◌else◌, ℤ}
use Rattle.base16.specs.Memory.{put}
use Rattle.isa430.specs.declared.instr.TwoOp.{TwoOp}
use Rattle.isa430.specs.declared.instr.OneOp.{OneOp}
use Rattle.isa430.specs.declared.instr.OneOp.TheVariants.{Rrc, Swpb, Rra, Sxt, Push, Call}
use Rattle.isa430.specs.declared.instr.Src.{Src}
use Rattle.isa430.specs.declared.instr.Dst.{Dst}
use Rattle.isa430.specs.declared.instr.Cond.{Cond}
use Rattle.isa430.specs.declared.instr.Instr.{Instr}
use Rattle.isa430.specs.declared.instr.Instr.TheVariants.{Two, One, Jump}
use Rattle.isa430.specs.Table.{size_of, code_of}
use Rattle.isa430.proofs.InMemory.{decodes}
use Rattle.isa430.proofs.Formats.{code_size}
use Rattle.core430.specs.declared.operand.Place.{Place}
use Rattle.core430.specs.declared.operand.Place.TheVariants.{InRegister, InMemory, Given}
use Rattle.core430.specs.Conditions.{IsReachable}
use Rattle.core430.specs.Registers.{set_reg}
use Rattle.core430.specs.Status.{carry_of}
use Rattle.core430.specs.Bytes.{word_address}
use Rattle.core430.specs.Operands.{src_place, dst_place, raised, value_at}
use Rattle.core430.specs.Instructions.{Effect, Sets, Stores, Faults, fault_or, when_even, flagged, deliver, settle, is_kept, lowered, two_result, two_status, two_effect, one_effect, is_taken, jump_target, effect_of}
use Rattle.core430.specs.Step.{State, Next, arrive, finish, past, fetched, step}
use Rattle.core430.specs.Uses.{access_bytes, place_bytes, uses_destination, operand_uses, one_changes, operand_changes, own_bytes, uses_if, changes_if}
use Rattle.core430.proofs.Truths.{or-true, and-left, and-right}
use Rattle.core430.proofs.Sizes.{size_range}
use Rattle.run430.specs.Run.{AreIn, Touches, StepTo, Runs, Covers, CoversIf, CoversChange}
use Rattle.run430.specs.Code.{Agrees, Here, Owns}
use Rattle.run430.proofs.Words.{set_reg-twice}
use Rattle.run430.proofs.Placing.{words_agree}

-- ---- footprints

in_access : (a b : ℕ) → access_bytes false a b ≡ true → (a ≤ b) × (b ≤ a + 1)
in_access a b h = (low a b h, high a b h)
  where
    low : (a b : ℕ) → access_bytes false a b ≡ true → a ≤ b
    low a b h = grind (arith, nat_tests)

    high : (a b : ℕ) → access_bytes false a b ≡ true → b ≤ a + 1
    high a b h = grind (arith, nat_tests)

more : (k size : ℕ) → nat_lt k size ≡ true → k < size
more k size h = grind (arith, nat_tests)

-- an instruction's own bytes, where they do not wrap
pub own_within : (pc size b : ℕ) → pc + size < 65536 → 2 ≤ size → size % 2 ≡ 0 → own_bytes pc size b ≡ true → (pc ≤ b) × (b < pc + size)
own_within pc size b h two even o = elim (or-true (access_bytes false pc b) _ o) [
  | inl x ↦ let i = in_access pc b x in (i.0, omega (arith, i.1, two))
  | inr y ↦ elim (or-true (nat_lt 2 size && access_bytes false ((pc + 2) % 65536) b) _ y) [
    | inl z ↦ second (more 2 size (and-left _ _ z)) (in_access ((pc + 2) % 65536) b (and-right (nat_lt 2 size) _ z))
    | inr z ↦ third (more 4 size (and-left _ _ z)) (in_access ((pc + 4) % 65536) b (and-right (nat_lt 4 size) _ z))
  ]
]
  where
    second : 2 < size → ((pc + 2) % 65536 ≤ b) × (b ≤ (pc + 2) % 65536 + 1) → (pc ≤ b) × (b < pc + size)
    second l i = let lo = i.0 in let hi = i.1 in (omega arith, omega arith)

    third : 4 < size → ((pc + 4) % 65536 ≤ b) × (b ≤ (pc + 4) % 65536 + 1) → (pc ≤ b) × (b < pc + size)
    third l i = let lo = i.0 in let hi = i.1 in (omega arith, omega arith)

even_size : (i : Instr) → size_of i % 2 ≡ 0
even_size i = let e = code_size i in omega arith

never : {A : Type 0} → false ≡ true → A
never h = absurd (differ h)
  where
    differ : false ≡ true → ⊥
    differ k = cc

this_byte : (a b : ℕ) → access_bytes true a b ≡ true → a ≡ b
this_byte a b h = grind (arith, nat_tests)

either_byte : (P : ℕ → Type 0) (a b : ℕ) → P a → P (a + 1) → access_bytes false a b ≡ true → P b
either_byte P a b h k e = elim (or-true (nat_eq b a) _ e) [ inl x ↦ subst P (sym (equal b a x)) h | inr x ↦ subst P (sym (equal b (a + 1) x)) k ]
  where
    equal : (x y : ℕ) → nat_eq x y ≡ true → x ≡ y
    equal x y q = grind (arith, nat_tests)

pub place_in : (P : ℕ → Type 0) (byte : Bool) (q : Place) → Covers P byte q → AreIn (place_bytes byte q) P
place_in P byte (InRegister n) h b e = never e
place_in P true (InMemory a) h b e = subst P (this_byte a b e) h
place_in P false (InMemory a) h b e = either_byte P a b h.0 h.1 e
place_in P byte (Given v) h b e = never e

place_in_if : (P : ℕ → Type 0) (t byte : Bool) (q : Place) → CoversIf P t byte q → (b : ℕ) → (t && place_bytes byte q b) ≡ true → P b
place_in_if P true byte q h b e = place_in P byte q h b e
place_in_if P false byte q h b e = never e

-- ---- operands

when_even-reachable : (byte : Bool) (p : Place) (e : Effect) → IsReachable byte p → when_even byte p e ≡ e
when_even-reachable true p e h = refl
when_even-reachable false (InRegister n) e h = refl
when_even-reachable false (InMemory a) e h = simp (eq-eqb (a % 2) 0 h)
when_even-reachable false (Given v) e h = refl

-- where a source is, which an access of this width may go to
pub record Source (byte : Bool) (r : ℕ → ℕ) (src : Src) (p : Place) : Type 0 where
  pub is : src_place r src ≡ p
  pub reachable : IsReachable byte p

-- where a destination is
pub record Target (byte : Bool) (r : ℕ → ℕ) (dst : Dst) (p : Place) : Type 0 where
  pub is : dst_place r dst ≡ p
  pub reachable : IsReachable byte p

-- the registers as an instruction finds them
abbrev pub next : Instr → (ℕ → ℕ) → (ℕ → ℕ)
next i r = set_reg r 0 (r 0 + size_of i)

-- what an instruction of two operands at these places comes to
abbrev pub two_at : TwoOp → Bool → Src → Dst → (ℕ → ℕ) → (ℕ → ℕ) → Place → Place → Effect
two_at op byte src dst r m p q =
    two_effect op byte (r 0) (raised byte (next (Two op byte src dst) r) src) m (r 2) q (value_at byte (next (Two op byte src dst) r) m q) (value_at byte (next (Two op byte src dst) r) m p)

-- and one of one operand
abbrev pub one_at : OneOp → Bool → Src → (ℕ → ℕ) → (ℕ → ℕ) → Place → Effect
one_at op byte src r m p =
    one_effect op byte (raised byte (next (One op byte src) r) src) m (r 2) p (value_at byte (next (One op byte src) r) m p)

pub two_comes : (op : TwoOp) (byte : Bool) (src : Src) (dst : Dst) (r m : ℕ → ℕ) (p q : Place) → Source byte (next (Two op byte src dst) r) src p → Target byte (next (Two op byte src dst) r) dst q → effect_of (r 0) (Two op byte src dst) (next (Two op byte src dst) r) m ≡ two_at op byte src dst r m p q
two_comes op byte src dst r m p q s d =
    rw (s.is, d.is) (when_even-reachable byte p _ s.reachable ∙ when_even-reachable byte q _ d.reachable)

pub one_comes : (op : OneOp) (byte : Bool) (src : Src) (r m : ℕ → ℕ) (p : Place) → Source byte (next (One op byte src) r) src p → effect_of (r 0) (One op byte src) (next (One op byte src) r) m ≡ one_at op byte src r m p
one_comes op byte src r m p s = rw (s.is) (when_even-reachable byte p _ s.reachable)

pub arrive_next : (r m : ℕ → ℕ) → r 0 < 65280 → arrive r m ≡ Next (record { regs = r; memory = m })
arrive_next r m h = simp (lt-leb 65280 (r 0) h)

jumped : (b : Bool) (r : ℕ → ℕ) (x y : ℕ) → (if b then set_reg (set_reg r 0 x) 0 y else set_reg r 0 x) ≡ set_reg r 0 (if b then y else x)
jumped true r x y = set_reg-twice r 0 x y
jumped false r x y = refl

if_below : (b : Bool) (x y : ℕ) → x < 65280 → y < 65280 → (if b then x else y) < 65280
if_below true x y h k = h
if_below false x y h k = k

-- ---- the instruction at PC

-- the instruction that stands at PC is the one that is fetched
pub fetches : (c : ℕ → ℕ) (lo hi : ℕ) (s : State) (i : Instr) → Agrees c lo hi s.memory → Here c lo hi (s.regs 0) i → fetched s ≡ Some i
fetches c lo hi s i g h =
    let pc = s.regs 0 in
    let low = h.high in
    let top = h.top in
    let size = size_range i in
    let e2 : (s.regs 0 + 2) % 65536 ≡ s.regs 0 + 2 = omega arith in
    let e4 : (s.regs 0 + 4) % 65536 ≡ s.regs 0 + 2 + 2 = omega arith in
    let length : s.regs 0 + 2 * length (code_of i) ≤ hi = omega (arith, code_size i) in
    rw (e2, e4) (decodes i s.memory pc h.is_valid (words_agree s.memory c lo hi g (code_of i) pc h.low length h.words))

pub steps_by : (denied : ℕ → Bool) (c : ℕ → ℕ) (lo hi : ℕ) (s : State) (i : Instr) → Agrees c lo hi s.memory → Here c lo hi (s.regs 0) i → step denied s ≡ finish denied s.memory (effect_of (s.regs 0) i (next i s.regs) s.memory)
unfolding step
steps_by denied c lo hi s i g h =
    let high = h.high in
    let top = h.top in
    let e : (s.regs 0 + size_of i) % 65536 ≡ s.regs 0 + size_of i = omega arith in
    let even = eq-eqb (s.regs 0 % 2) 0 h.even in
    let fetch = fetches c lo hi s i g h in
    rw even (rw fetch (ap (λ a. finish denied s.memory (effect_of (s.regs 0) i (set_reg s.regs 0 a) s.memory)) e))

-- what a step touches
pub touches_by : (R W : ℕ → Type 0) (c : ℕ → ℕ) (lo hi : ℕ) (own : Owns R lo hi) (r m : ℕ → ℕ) (i : Instr) → Agrees c lo hi m → Here c lo hi (r 0) i → AreIn (operand_uses i (next i r)) R → AreIn (operand_changes i (next i r)) W → Touches R W (record { regs = r; memory = m })
touches_by R W c lo hi own r m i g h uses changes =
    let s : State = record { regs = r; memory = m } in
    let high = h.high in
    let top = h.top in
    let low = h.low in
    let size = size_range i in
    let even = even_size i in
    let pc : r 0 + size_of i ≡ (r 0 + size_of i) % 65536 = omega arith in
    let fits : r 0 + size_of i < 65536 = omega arith in
    let found = fetches c lo hi s i g h in
    let uses2 : AreIn (operand_uses i (past i r)) R = subst (λ (a : ℕ). AreIn (operand_uses i (set_reg r 0 a)) R) pc uses in
    let changes2 : AreIn (operand_changes i (past i r)) W = subst (λ (a : ℕ). AreIn (operand_changes i (set_reg r 0 a)) W) pc changes in
    let all : AreIn (uses_if (Some i) s) R = λ b e. elim (or-true (own_bytes (r 0) (size_of i) b) _ e) [
      | inl x ↦ let w = own_within (r 0) (size_of i) b fits size.0 even x in own b (omega (arith, w.0, low)) (omega (arith, w.1, high))
      | inr x ↦ uses2 b x
    ] in
    let use_all : AreIn (uses_if (fetched s) s) R = subst (λ (o : Option Instr). AreIn (uses_if o s) R) (sym found) all in
    let change_all : AreIn (changes_if (fetched s) s) W = subst (λ (o : Option Instr). AreIn (changes_if o s) W) (sym found) changes2 in
    (λ b e. use_all b (and-right (nat_eq (r 0 % 2) 0) _ e), λ b e. change_all b (and-right (nat_eq (r 0 % 2) 0) _ e))

-- ---- what ends in registers changes nothing

stores_not : {A : Type 0} (r : ℕ → ℕ) (a w : ℕ) (r2 : ℕ → ℕ) → Stores r a w ≡ Sets r2 → A
stores_not r a w r2 h = absurd (differ h)
  where
    differ : Stores r a w ≡ Sets r2 → ⊥
    differ k = cc

delivered : (byte : Bool) (r m : ℕ → ℕ) (q : Place) (v b : ℕ) (r2 : ℕ → ℕ) → deliver byte r m q v ≡ Sets r2 → place_bytes byte q b ≡ true → ⊥
delivered byte r m (InRegister n) v b r2 h e = never e
delivered true r m (InMemory a) v b r2 h e = stores_not r (word_address a) _ r2 h
delivered false r m (InMemory a) v b r2 h e = stores_not r a v r2 h
delivered byte r m (Given x) v b r2 h e = never e

settled : (byte : Bool) (pc : ℕ) (r m : ℕ → ℕ) (q : Place) (v b : ℕ) (r2 : ℕ → ℕ) → settle byte pc r m q v ≡ Sets r2 → place_bytes byte q b ≡ true → ⊥
settled byte pc r m (InRegister n) v b r2 h e = never e
settled byte pc r m (InMemory a) v b r2 h e = delivered byte r m (InMemory a) v b r2 h e
settled byte pc r m (Given x) v b r2 h e = never e

two_changes_none : (op : TwoOp) (byte : Bool) (pc : ℕ) (r m : ℕ → ℕ) (status : ℕ) (q : Place) (d s b : ℕ) (r2 : ℕ → ℕ) → two_effect op byte pc r m status q d s ≡ Sets r2 → (is_kept op && place_bytes byte q b) ≡ true → ⊥
two_changes_none op byte pc r m status q d s b r2 h e = at (is_kept op) h e
  where
    at : (t : Bool) → (if t then settle byte pc (flagged r (two_status op byte status d s)) m q (two_result op byte (carry_of status) d s) else Sets (flagged r (two_status op byte status d s))) ≡ Sets r2 → (t && place_bytes byte q b) ≡ true → ⊥
    at true k f = settled byte pc _ m q _ b r2 k f
    at false k f = never f

fault_not : (a b w : ℕ) (r r2 : ℕ → ℕ) → when_even false (InMemory a) (Stores r b w) ≡ Sets r2 → ⊥
fault_not a b w r r2 h = at (nat_eq (a % 2) 0) h
  where
    at : (t : Bool) → fault_or (if t then None else Some a) (Stores r b w) ≡ Sets r2 → ⊥
    at true k = stores_not r b w r2 k
    at false k = absurd (differ k)
      where
        differ : Faults a ≡ Sets r2 → ⊥
        differ q = cc

one_changes_none : (op : OneOp) (byte : Bool) (r m : ℕ → ℕ) (status : ℕ) (q : Place) (v b : ℕ) (r2 : ℕ → ℕ) → one_effect op byte r m status q v ≡ Sets r2 → one_changes op byte r q b ≡ true → ⊥
one_changes_none Rrc byte r m status q v b r2 h e = delivered byte _ m q _ b r2 h e
one_changes_none Swpb byte r m status q v b r2 h e = delivered byte _ m q _ b r2 h e
one_changes_none Rra byte r m status q v b r2 h e = delivered byte _ m q _ b r2 h e
one_changes_none Sxt byte r m status q v b r2 h e = delivered byte _ m q _ b r2 h e
one_changes_none Push byte r m status q v b r2 h e = fault_not (lowered (r 1)) (lowered (r 1)) v _ r2 h
one_changes_none Call byte r m status q v b r2 h e = fault_not (lowered (r 1)) (lowered (r 1)) (r 0) _ r2 h

change_in : (P : ℕ → Type 0) (op : OneOp) (byte : Bool) (r : ℕ → ℕ) (q : Place) → CoversChange P op byte r q → AreIn (one_changes op byte r q) P
change_in P Rrc byte r q h b e = place_in P byte q h b e
change_in P Swpb byte r q h b e = place_in P byte q h b e
change_in P Rra byte r q h b e = place_in P byte q h b e
change_in P Sxt byte r q h b e = place_in P byte q h b e
change_in P Push byte r q h b e = place_in P false (InMemory (lowered (r 1))) h b e
change_in P Call byte r q h b e = place_in P false (InMemory (lowered (r 1))) h b e

-- ---- one step

module _ (denied : ℕ → Bool) (R W : ℕ → Type 0) (c : ℕ → ℕ) (lo hi : ℕ) (own : Owns R lo hi) where
  -- one step, from its effect
  pub effect_step : (r m : ℕ → ℕ) (i : Instr) (e : Effect) (u : State) → Agrees c lo hi m → Here c lo hi (r 0) i → effect_of (r 0) i (next i r) m ≡ e → AreIn (operand_uses i (next i r)) R → AreIn (operand_changes i (next i r)) W → finish denied m e ≡ Next u → StepTo denied R W (record { regs = r; memory = m }) u
  effect_step r m i e u g h is uses changes ends =
      record {
        goes = steps_by denied c lo hi (record { regs = r; memory = m }) i g h ∙ ap (finish denied m) is ∙ ends;
        touches = touches_by R W c lo hi own r m i g h uses changes;
      }

  two_uses : (op : TwoOp) (byte : Bool) (src : Src) (dst : Dst) (r : ℕ → ℕ) (p q : Place) → src_place r src ≡ p → dst_place r dst ≡ q → Covers R byte p → CoversIf R (uses_destination op) byte q → AreIn (operand_uses (Two op byte src dst) r) R
  two_uses op byte src dst r p q s d a b x e = elim (or-true (place_bytes byte (src_place r src) x) _ e) [
    | inl y ↦ place_in R byte p a x (subst (λ (z : Place). place_bytes byte z x ≡ true) s y)
    | inr y ↦ place_in_if R (uses_destination op) byte q b x (subst (λ (z : Place). (uses_destination op && place_bytes byte z x) ≡ true) d y)
  ]

  two_sets_none : (op : TwoOp) (byte : Bool) (src : Src) (dst : Dst) (r m : ℕ → ℕ) (p q : Place) (r2 : ℕ → ℕ) → Target byte (next (Two op byte src dst) r) dst q → two_at op byte src dst r m p q ≡ Sets r2 → AreIn (operand_changes (Two op byte src dst) (next (Two op byte src dst) r)) W
  two_sets_none op byte src dst r m p q r2 dp x b e = absurd (two_changes_none op byte (r 0) _ m (r 2) q _ _ b r2 x (subst (λ (z : Place). (is_kept op && place_bytes byte z b) ≡ true) dp.is e))

  two_stores_in : (op : TwoOp) (byte : Bool) (src : Src) (dst : Dst) (r : ℕ → ℕ) (q : Place) → dst_place r dst ≡ q → Covers W byte q → AreIn (operand_changes (Two op byte src dst) r) W
  two_stores_in op byte src dst r q d h b e = place_in W byte q h b (subst (λ (z : Place). place_bytes byte z b ≡ true) d (and-right (is_kept op) _ e))

  one_uses : (op : OneOp) (byte : Bool) (src : Src) (r : ℕ → ℕ) (p : Place) → src_place r src ≡ p → Covers R byte p → AreIn (operand_uses (One op byte src) r) R
  one_uses op byte src r p s h b e = place_in R byte p h b (subst (λ (z : Place). place_bytes byte z b ≡ true) s e)

  one_sets_none : (op : OneOp) (byte : Bool) (src : Src) (r m : ℕ → ℕ) (p : Place) (r2 : ℕ → ℕ) → Source byte (next (One op byte src) r) src p → one_at op byte src r m p ≡ Sets r2 → AreIn (operand_changes (One op byte src) (next (One op byte src) r)) W
  one_sets_none op byte src r m p r2 sp x b e = absurd (one_changes_none op byte _ m (r 2) p _ b r2 x (subst (λ (z : Place). one_changes op byte (raised byte (next (One op byte src) r) src) z b ≡ true) sp.is e))

  one_stores_in : (op : OneOp) (byte : Bool) (src : Src) (r : ℕ → ℕ) (p : Place) → src_place r src ≡ p → CoversChange W op byte (raised byte r src) p → AreIn (operand_changes (One op byte src) r) W
  one_stores_in op byte src r p s h b e = change_in W op byte (raised byte r src) p h b (subst (λ (z : Place). one_changes op byte (raised byte r src) z b ≡ true) s e)

  bounded : {pc x : ℕ} {i : Instr} → Here c lo hi pc i → x ≡ pc + size_of i → x < 65280
  bounded h e = let high = h.high in let top = h.top in omega arith

  -- an instruction of two operands that ends in registers, and PC comes to the next
  pub two_sets : (n : ℕ) (r m : ℕ → ℕ) (t : State) (op : TwoOp) (byte : Bool) (src : Src) (dst : Dst) (p q : Place) (r2 : ℕ → ℕ) → Agrees c lo hi m → Here c lo hi (r 0) (Two op byte src dst) → Source byte (next (Two op byte src dst) r) src p → Target byte (next (Two op byte src dst) r) dst q → two_at op byte src dst r m p q ≡ Sets r2 → Covers R byte p → CoversIf R (uses_destination op) byte q → r2 0 ≡ r 0 + size_of (Two op byte src dst) → Runs denied R W n (record { regs = r2; memory = m }) t → Runs denied R W (suc n) (record { regs = r; memory = m }) t
  two_sets n r m t op byte src dst p q r2 g h sp dp x ra rb low rest =
      (_, effect_step r m (Two op byte src dst) (Sets r2) _ g h (two_comes op byte src dst r m p q sp dp ∙ x) (two_uses op byte src dst _ p q sp.is dp.is ra rb) (two_sets_none op byte src dst r m p q r2 dp x) (arrive_next r2 m (bounded h low)), rest)

  -- one that stores
  pub two_stores : (n : ℕ) (r m : ℕ → ℕ) (t : State) (op : TwoOp) (byte : Bool) (src : Src) (dst : Dst) (p q : Place) (r2 : ℕ → ℕ) (a w : ℕ) → Agrees c lo hi m → Here c lo hi (r 0) (Two op byte src dst) → Source byte (next (Two op byte src dst) r) src p → Target byte (next (Two op byte src dst) r) dst q → two_at op byte src dst r m p q ≡ Stores r2 a w → Covers R byte p → CoversIf R (uses_destination op) byte q → Covers W byte q → denied a ≡ false → r2 0 ≡ r 0 + size_of (Two op byte src dst) → Runs denied R W n (record { regs = r2; memory = put m a w }) t → Runs denied R W (suc n) (record { regs = r; memory = m }) t
  two_stores n r m t op byte src dst p q r2 a w g h sp dp x ra rb wa ok low rest =
      (_, effect_step r m (Two op byte src dst) (Stores r2 a w) _ g h (two_comes op byte src dst r m p q sp dp ∙ x) (two_uses op byte src dst _ p q sp.is dp.is ra rb) (two_stores_in op byte src dst _ q dp.is wa) (rw ok (arrive_next r2 (put m a w) (bounded h low))), rest)

  -- one that sets PC: a return, or a branch to an address
  pub two_goes : (n : ℕ) (r m : ℕ → ℕ) (t : State) (op : TwoOp) (byte : Bool) (src : Src) (dst : Dst) (p q : Place) (r2 : ℕ → ℕ) → Agrees c lo hi m → Here c lo hi (r 0) (Two op byte src dst) → Source byte (next (Two op byte src dst) r) src p → Target byte (next (Two op byte src dst) r) dst q → two_at op byte src dst r m p q ≡ Sets r2 → Covers R byte p → CoversIf R (uses_destination op) byte q → r2 0 < 65280 → Runs denied R W n (record { regs = r2; memory = m }) t → Runs denied R W (suc n) (record { regs = r; memory = m }) t
  two_goes n r m t op byte src dst p q r2 g h sp dp x ra rb low rest =
      (_, effect_step r m (Two op byte src dst) (Sets r2) _ g h (two_comes op byte src dst r m p q sp dp ∙ x) (two_uses op byte src dst _ p q sp.is dp.is ra rb) (two_sets_none op byte src dst r m p q r2 dp x) (arrive_next r2 m low), rest)

  -- an instruction of one operand that changes a register
  pub one_sets : (n : ℕ) (r m : ℕ → ℕ) (t : State) (op : OneOp) (byte : Bool) (src : Src) (p : Place) (r2 : ℕ → ℕ) → Agrees c lo hi m → Here c lo hi (r 0) (One op byte src) → Source byte (next (One op byte src) r) src p → one_at op byte src r m p ≡ Sets r2 → Covers R byte p → r2 0 ≡ r 0 + size_of (One op byte src) → Runs denied R W n (record { regs = r2; memory = m }) t → Runs denied R W (suc n) (record { regs = r; memory = m }) t
  one_sets n r m t op byte src p r2 g h sp x ra low rest =
      (_, effect_step r m (One op byte src) (Sets r2) _ g h (one_comes op byte src r m p sp ∙ x) (one_uses op byte src _ p sp.is ra) (one_sets_none op byte src r m p r2 sp x) (arrive_next r2 m (bounded h low)), rest)

  -- one that stores: an operand in memory that is changed, or a push
  pub one_stores : (n : ℕ) (r m : ℕ → ℕ) (t : State) (op : OneOp) (byte : Bool) (src : Src) (p : Place) (r2 : ℕ → ℕ) (a w : ℕ) → Agrees c lo hi m → Here c lo hi (r 0) (One op byte src) → Source byte (next (One op byte src) r) src p → one_at op byte src r m p ≡ Stores r2 a w → Covers R byte p → CoversChange W op byte (raised byte (next (One op byte src) r) src) p → denied a ≡ false → r2 0 < 65280 → Runs denied R W n (record { regs = r2; memory = put m a w }) t → Runs denied R W (suc n) (record { regs = r; memory = m }) t
  one_stores n r m t op byte src p r2 a w g h sp x ra wa ok low rest =
      (_, effect_step r m (One op byte src) (Stores r2 a w) _ g h (one_comes op byte src r m p sp ∙ x) (one_uses op byte src _ p sp.is ra) (one_stores_in op byte src (next (One op byte src) r) p sp.is wa) (rw ok (arrive_next r2 (put m a w) low)), rest)

  -- a jump, to either side
  pub jump : (n : ℕ) (r m : ℕ → ℕ) (t : State) (k : Cond) (o : ℤ) (b : Bool) (a : ℕ) → Agrees c lo hi m → Here c lo hi (r 0) (Jump k o) → is_taken k (r 2) ≡ b → jump_target (r 0 + 2) o ≡ a → a < 65280 → Runs denied R W n (record { regs = set_reg r 0 (if b then a else (r 0 + 2)); memory = m }) t → Runs denied R W (suc n) (record { regs = r; memory = m }) t
  jump n r m t k o b a g h is at low rest =
      let to : ℕ = if b then a else (r 0 + 2) in
      let high = h.high in let top = h.top in
      let below : to < 65280 = if_below b a (r 0 + 2) low (omega arith) in
      let e : (if b then set_reg (set_reg r 0 (r 0 + 2)) 0 (jump_target (r 0 + 2) o) else set_reg r 0 (r 0 + 2)) ≡ set_reg r 0 to = jumped b r (r 0 + 2) (jump_target (r 0 + 2) o) ∙ ap (λ x. set_reg r 0 (if b then x else (r 0 + 2))) at in
      (_, effect_step r m (Jump k o) (Sets (set_reg r 0 to)) _ g h (rw is (ap Sets e)) (λ b y. never y) (λ b y. never y) (arrive_next (set_reg r 0 to) m below), rest)

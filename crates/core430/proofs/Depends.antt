-- A step depends on the bytes that it uses alone, and a gate only refuses.
use Rattle.std.proofs.Common.{◌≡◌, ◌≢◌, ◌≤◌, ℕ, ◌+◌, ◌-◌, ◌*◌, ◌/◌, ◌%◌, refl, sym, ap, ◌∙◌, subst, arith, Bool, true, false, ◌&&◌, ◌⊎◌, inl, inr, List, [], ◌∷◌, length, Option, Some, None, ◌<◌, if◌then◌else◌, nat_eq, nat_lt}
use Rattle.std.proofs.lemmas.Bool.{ne_eqb, eq-eqb, lt-ltb, cases_eq}
use Rattle.base16.specs.Memory.{put}
use Rattle.isa430.specs.declared.instr.Instr.{Instr}
use Rattle.isa430.specs.Table.{size_of, code_of, decode_of, in_table, instr_of, WordsAt}
use Rattle.isa430.proofs.Formats.{stands, code_size, decoded}
use Rattle.isa430.proofs.InMemory.{decodes}
use Rattle.core430.specs.Instructions.{Effect, Sets, Stores, Faults, effect_of}
use Rattle.core430.specs.Step.{State, Next, Service, Wild, is_service, arrive, finish, past, execute_if, instr_at, fetched, step}
use Rattle.core430.specs.Uses.{access_bytes, operand_changes, own_bytes, uses_if, changes_if, step_changes, IsWithin, joined, SameOn, AreAlike, EndAlike, StepDependsOnUses, OnlyRefuses, FollowsUnderGate}
use Rattle.core430.proofs.Truths.{or-left, or-right, and-both}
use Rattle.core430.proofs.SameBytes.{same-word}
use Rattle.core430.proofs.Sizes.{size_range}
use Rattle.core430.proofs.Effects.{depends}

-- ---- ends of a step

arrive-alike : (p : ℕ → Bool) (r m k : ℕ → ℕ) → SameOn p m k → EndAlike p (arrive r m) (arrive r k)
arrive-alike p r m k s = at (is_service (r 0))
  where
    at : (t : Bool) → EndAlike p (if t then Service ((r 0 - 65280) / 2) (record { regs = r; memory = m }) else Next (record { regs = r; memory = m })) (if t then Service ((r 0 - 65280) / 2) (record { regs = r; memory = k }) else Next (record { regs = r; memory = k }))
    at true = (record { regs = r; memory = k }, refl, refl, s)
    at false = (record { regs = r; memory = k }, refl, refl, s)

pub finish-alike : (p : ℕ → Bool) (denied : ℕ → Bool) (m k : ℕ → ℕ) (e f : Effect) → AreAlike p m k e f → EndAlike p (finish denied m e) (finish denied k f)
finish-alike p denied m k (Sets r) f h = subst (λ x. EndAlike p (arrive r m) (finish denied k x)) (sym h.0) (arrive-alike p r m k h.1)
finish-alike p denied m k (Stores r a x) f h = subst (λ y. EndAlike p (finish denied m (Stores r a x)) (finish denied k y)) (sym h.1) (at (denied a))
  where
    at : (t : Bool) → EndAlike p (if t then Wild a else arrive r (put m a x)) (if t then Wild a else arrive r (put k a h.0))
    at true = refl
    at false = arrive-alike p r (put m a x) (put k a h.0) h.2
finish-alike p denied m k (Faults a) f h = subst (λ x. EndAlike p (Wild a) (finish denied k x)) (sym h) refl

-- ---- the instruction

-- three words as a memory
abbrev three : ℕ → ℕ → ℕ → (ℕ → ℕ)
three w0 w1 w2 = λ a. if nat_eq a 0 then w0 else (if nat_eq a 2 then w1 else w2)

carried : (m k : ℕ → ℕ) (ws : List ℕ) (a : ℕ) → ((j : ℕ) → j < length ws → m (a + 2 * j) ≡ k (a + 2 * j)) → WordsAt m a ws → WordsAt k a ws
carried m k [] a f h = tt
carried m k (w ∷ ws) a f h =
    let first : a + 2 * 0 ≡ a = omega arith in
    let here : m a ≡ k a = sym (ap m first) ∙ f 0 (omega arith) ∙ ap k first in
    (sym here ∙ h.0, carried m k ws (a + 2) (λ j l. let e : a + 2 * (j + 1) ≡ a + 2 + 2 * j = omega arith in sym (ap m e) ∙ f (j + 1) (omega arith) ∙ ap k e) h.1)

three_same : (w0 w1 w2 v0 v1 v2 n : ℕ) → n < 4 → w0 ≡ v0 → (1 < n → w1 ≡ v1) → (2 < n → w2 ≡ v2) → (j : ℕ) → j < n → three w0 w1 w2 (0 + 2 * j) ≡ three v0 v1 v2 (0 + 2 * j)
three_same w0 w1 w2 v0 v1 v2 n l e0 e1 e2 j h = by_case (cases_eq j 0) (cases_eq j 1)
  where
    by_case : ((j ≡ 0) ⊎ (j ≡ 0 → ⊥)) → ((j ≡ 1) ⊎ (j ≡ 1 → ⊥)) → three w0 w1 w2 (0 + 2 * j) ≡ three v0 v1 v2 (0 + 2 * j)
    by_case (inl z) o = rw z e0
    by_case (inr z) (inl o) = rw o (e1 (omega (arith, o, h)))
    by_case (inr z) (inr o) =
        let n0 : 0 + 2 * j ≢ 0 = omega arith in
        let n2 : 0 + 2 * j ≢ 2 = omega arith in
        rw (ne_eqb (0 + 2 * j) 0 n0, ne_eqb (0 + 2 * j) 2 n2) (e2 (omega arith))

-- only the words that the instruction takes count
decode_same : (w0 w1 w2 v0 v1 v2 : ℕ) (i : Instr) → decode_of w0 w1 w2 ≡ Some i → w0 ≡ v0 → (2 < size_of i → w1 ≡ v1) → (4 < size_of i → w2 ≡ v2) → decode_of v0 v1 v2 ≡ Some i
decode_same w0 w1 w2 v0 v1 v2 i d e0 e1 e2 =
    let size = code_size i in
    let range = size_range i in
    let high : size_of i ≤ 6 = range.1 in
    let here : WordsAt (three w0 w1 w2) 0 (code_of i) = stands (three w0 w1 w2) 0 i d in
    let there : WordsAt (three v0 v1 v2) 0 (code_of i) = carried (three w0 w1 w2) (three v0 v1 v2) (code_of i) 0 (three_same w0 w1 w2 v0 v1 v2 (length (code_of i)) (omega arith) e0 (λ l. e1 (omega arith)) (λ l. e2 (omega arith))) here in
    decodes i (three v0 v1 v2) 0 ((decoded w0 w1 w2 i d).is_valid) there

-- outside the table the first word decides
none_same : (w0 w1 w2 v0 v1 v2 : ℕ) → decode_of w0 w1 w2 ≡ None → w0 ≡ v0 → decode_of v0 v1 v2 ≡ None
unfolding decode_of
none_same w0 w1 w2 v0 v1 v2 d e = rw (← e) (at (in_table w0) d)
  where
    differ : (x : Instr) → Some x ≡ None → ⊥
    differ x k = cc

    at : (b : Bool) → (if b then Some (instr_of w0 w1 w2) else None) ≡ None → (if b then Some (instr_of w0 v1 v2) else None) ≡ None
    at true k = absurd (differ _ k)
    at false k = refl

self : (a : ℕ) → nat_eq a a ≡ true
self a = eq-eqb a a refl

-- memories that agree on both bytes of an even word
word_there : (p : ℕ → Bool) (m k : ℕ → ℕ) (a : ℕ) → SameOn p m k → a % 2 ≡ 0 → IsWithin (access_bytes false a) p → m a ≡ k a
word_there p m k a s e h = same-word p m k a s e (h a (or-left (nat_eq a a) _ (self a))) (h (a + 1) (or-right (nat_eq (a + 1) a) _ (self (a + 1))))

same_fetch : (p : ℕ → Bool) (m k : ℕ → ℕ) (pc : ℕ) (i : Instr) → SameOn p m k → pc % 2 ≡ 0 → instr_at m pc ≡ Some i → IsWithin (own_bytes pc (size_of i)) p → instr_at k pc ≡ Some i
same_fetch p m k pc i s even d h =
    let e2 : ((pc + 2) % 65536) % 2 ≡ 0 = omega arith in
    let e4 : ((pc + 4) % 65536) % 2 ≡ 0 = omega arith in
    decode_same _ _ _ _ _ _ i d
    (word_there p m k pc s even (λ b j. h b (or-left (access_bytes false pc b) _ j)))
    (λ l. word_there p m k ((pc + 2) % 65536) s e2 (λ b j. h b (or-right (access_bytes false pc b) _ (or-left _ _ (and-both (lt-ltb 2 (size_of i) l) j)))))
    (λ l. word_there p m k ((pc + 4) % 65536) s e4 (λ b j. h b (or-right (access_bytes false pc b) _ (or-right (nat_lt 2 (size_of i) && access_bytes false ((pc + 2) % 65536) b) _ (and-both (lt-ltb 4 (size_of i) l) j)))))

-- ---- the step

pub step_depends : (denied : ℕ → Bool) (s : State) → StepDependsOnUses denied s
unfolding step
step_depends denied s p k same h = elim (cases_eq (s.regs 0 % 2) 0) [
  | inl e ↦ at (nat_eq (s.regs 0 % 2) 0) (eq-eqb (s.regs 0 % 2) 0 e) e h
  | inr d ↦ rw (ne_eqb (s.regs 0 % 2) 0 d) refl
]
  where
    t : State
    t = record { regs = s.regs; memory = k }

    by_fetch : (o : Option Instr) → s.regs 0 % 2 ≡ 0 → fetched s ≡ o → IsWithin (uses_if o s) p → EndAlike (joined p (changes_if o s)) (execute_if denied o s) (execute_if denied (instr_at k (s.regs 0)) (record { regs = s.regs; memory = k }))
    by_fetch None even e a =
        let none : instr_at k (s.regs 0) ≡ None = none_same _ _ _ _ _ _ e (word_there p s.memory k (s.regs 0) same even a) in
        rw none refl
    by_fetch (Some i) even e a =
        let some : instr_at k (s.regs 0) ≡ Some i = same_fetch p s.memory k (s.regs 0) i same even e (λ b j. a b (or-left _ _ j)) in
        rw some (finish-alike (joined p (operand_changes i (past i s.regs))) denied s.memory k _ _ (depends (s.regs 0) i (past i s.regs) p s.memory k same (λ b j. a b (or-right (own_bytes (s.regs 0) (size_of i) b) _ j))))

    at : (b : Bool) → b ≡ true → s.regs 0 % 2 ≡ 0 → IsWithin (λ x. b && uses_if (fetched s) s x) p → EndAlike (joined p (λ x. b && changes_if (fetched s) s x)) (if b then execute_if denied (fetched s) s else Wild (s.regs 0)) (if b then execute_if denied (instr_at k (s.regs 0)) (record { regs = s.regs; memory = k }) else Wild (s.regs 0))
    at true y e a = by_fetch (fetched s) e refl a
    at false y e a = absurd (differ y)
      where
        differ : false ≡ true → ⊥
        differ z = cc

-- ---- the gate

finish_gated : (d e : ℕ → Bool) (m : ℕ → ℕ) (x : Effect) → ((a : ℕ) → e a ≡ true → d a ≡ true) → (finish d m x ≡ finish e m x) ⊎ ((a : ℕ) × (d a ≡ true) × (e a ≡ false) × (finish d m x ≡ Wild a))
finish_gated d e m (Sets r) f = inl refl
finish_gated d e m (Faults a) f = inl refl
finish_gated d e m (Stores r a w) f = at (d a) refl (e a) refl
  where
    differ : true ≡ false → ⊥
    differ k = cc

    at : (b : Bool) → d a ≡ b → (c : Bool) → e a ≡ c → (finish d m (Stores r a w) ≡ finish e m (Stores r a w)) ⊎ ((x : ℕ) × (d x ≡ true) × (e x ≡ false) × (finish d m (Stores r a w) ≡ Wild x))
    at true p true q = inl (rw (p, q) refl)
    at true p false q = inr (a, p, q, rw p refl)
    at false p true q = absurd (differ (sym (f a q) ∙ p))
    at false p false q = inl (rw (p, q) refl)

pub only_refuses : (d e : ℕ → Bool) (s : State) → OnlyRefuses d e s
unfolding step
only_refuses d e s f = at (nat_eq (s.regs 0 % 2) 0)
  where
    by_fetch : (o : Option Instr) → (execute_if d o s ≡ execute_if e o s) ⊎ ((a : ℕ) × (d a ≡ true) × (e a ≡ false) × (execute_if d o s ≡ Wild a))
    by_fetch None = inl refl
    by_fetch (Some i) = finish_gated d e s.memory (effect_of (s.regs 0) i (past i s.regs) s.memory) f

    at : (b : Bool) → ((if b then execute_if d (fetched s) s else Wild (s.regs 0)) ≡ (if b then execute_if e (fetched s) s else Wild (s.regs 0))) ⊎ ((a : ℕ) × (d a ≡ true) × (e a ≡ false) × ((if b then execute_if d (fetched s) s else Wild (s.regs 0)) ≡ Wild a))
    at true = by_fetch (fetched s)
    at false = inl refl

-- over a memory that agrees on the bytes that the step uses
pub follows_under_gate : (d e : ℕ → Bool) (s : State) → FollowsUnderGate d e s
follows_under_gate d e s f p k same h = at (only_refuses d e t f)
  where
    t : State
    t = record { regs = s.regs; memory = k }

    Q : Type 0
    Q = EndAlike (joined p (step_changes s)) (step e s) (step d t) ⊎ ((a : ℕ) × (d a ≡ true) × (e a ≡ false) × (step d t ≡ Wild a))

    at : (step d t ≡ step e t) ⊎ ((a : ℕ) × (d a ≡ true) × (e a ≡ false) × (step d t ≡ Wild a)) → Q
    at (inl x) = inl (subst (EndAlike (joined p (step_changes s)) (step e s)) (sym x) (step_depends e s p k same h))
    at (inr x) = inr x

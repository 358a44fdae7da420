-- Rules of the core as rules of the machine with unbroken power. Each takes the rest of the stretch last. Registers stay
-- exact; of memory, settled bytes and the meter all is forgotten but what is known of the cells.
use Rattle.std.proofs.Common.{◌≡◌, ℕ, zero, suc, ◌+◌, ◌-◌, ◌*◌, ◌%◌, ◌<◌, ◌≤◌, refl, sym, ap, ◌∙◌, subst, arith, Bool, true, false, List, [], ◌∷◌, length, Option, Some}
use Rattle.std.proofs.lemmas.Bool.{eq-eqb}
use Rattle.std.specs.Prelude.{nat_eq, if◌then◌else◌, ℤ}
use Rattle.base16.specs.Board.{segment_start, segment_top}
use Rattle.base16.specs.Memory.{put}
use Rattle.base16.proofs.Writes.{put-same}
use Rattle.isa430.specs.declared.instr.TwoOp.{TwoOp}
use Rattle.isa430.specs.declared.instr.TwoOp.TheVariants.{Mov}
use Rattle.isa430.specs.declared.instr.Src.{Src}
use Rattle.isa430.specs.declared.instr.Dst.{Dst}
use Rattle.isa430.specs.declared.instr.Cond.{Cond}
use Rattle.isa430.specs.declared.instr.Instr.{Instr}
use Rattle.isa430.specs.declared.instr.Instr.TheVariants.{Two, Jump}
use Rattle.isa430.specs.Table.{size_of, code_of, WordsAt}
use Rattle.isa430.proofs.Formats.{code_size}
use Rattle.core430.specs.declared.operand.Place.{Place}
use Rattle.core430.specs.declared.operand.Place.TheVariants.{InMemory}
use Rattle.core430.specs.Registers.{set_reg}
use Rattle.core430.specs.Bytes.{with_byte}
use Rattle.core430.specs.Operands.{raised, value_at}
use Rattle.core430.specs.Instructions.{Effect, Sets, Stores, two_effect, is_taken, jump_target}
use Rattle.core430.specs.Step.{State, Outcome, Next, step, past, fetched}
use Rattle.core430.specs.Uses.{AreWords, access_bytes, place_bytes, uses_destination, operand_changes, changes_if, step_changes}
use Rattle.core430.proofs.Truths.{and-both, or-left, or-right}
use Rattle.run430.specs.Run.{StepTo, Runs, Covers, CoversIf}
use Rattle.run430.specs.Code.{Here, Owns, put_byte}
use Rattle.run430.proofs.Words.{Agrees-self, small}
use Rattle.run430.proofs.Compose.{step-words}
use Rattle.run430.proofs.Rules.{Source, Target, next as next_regs, two_at, fetches, two_sets, two_stores, two_goes, jump}
use Rattle.ideal430.specs.Places.{is_in_segment}
use Rattle.ideal430.specs.Settled.{Bytes, settled_after}
use Rattle.ideal430.specs.Ideal.{Ideal, Meter, moved, after, free, next_if, next}
use Rattle.ideal430.specs.Uses.{UsesAfter, UsesIf}
use Rattle.ideal430.specs.declared.state.IdealEnd.{IdealEnd}
use Rattle.ideal430.specs.declared.state.IdealEnd.TheVariants.{Running}
use Rattle.cells430.specs.Cells.{Word, Byte, Cells, set_cell, Shape, HasCode, Facts}
use Rattle.cells430.specs.Stretch.{Course, at, Ground, StepsTo, IdealRuns, Leads}
use Rattle.cells430.proofs.Settling.{code_fixed, in_segment}
use Rattle.cells430.proofs.Cells.{facts_settle, facts_put, facts_put_byte}

abbrev pub IsSettled : Bytes → ℕ → Type 0
IsSettled settled b = settled b ≡ true

abbrev pub InSegment : ℕ → ℕ → Type 0
InSegment segment b = is_in_segment segment b ≡ true

-- ---- one step

pub next_is : (t : Ideal) (o : Outcome) → t.status ≡ Running → step free t.core ≡ o → next t ≡ after t o
next_is t o run e = ap (λ (s : IdealEnd). next_if s t) run ∙ ap (after t) e

-- a step of the core that goes on
pub lift_next : (t : Ideal) (u : State) → t.status ≡ Running → StepTo free (IsSettled t.settled) (InSegment t.segment) t.core u
    → StepsTo t (moved t u)
lift_next t u run h = record {
  goes = next_is t (Next u) run h.goes;
  running = run;
  uses = subst (λ (s : IdealEnd). UsesIf s t) (sym run) (h.touches.0, subst (UsesAfter t) (sym h.goes) tt);
  writes = h.touches.1;
}

pub one_step : (R W : ℕ → Type 0) (s t : State) → Runs free R W 1 s t → StepTo free R W s t
one_step R W s t h = subst (λ (x : State). StepTo free R W s x) h.2 h.1

-- ---- stretches

pub leads_step : (n : ℕ) (t u : Ideal) (Q : Ideal → Type 0) → StepsTo t u → Leads n u Q → Leads (suc n) t Q
leads_step n t u Q s h = record {
  steps = suc h.steps;
  within = omega (arith, h.within);
  end = h.end;
  runs =
      (u, s, h.runs);
  so = h.so;
}

pub leads_now : (n : ℕ) (t : Ideal) (Q : Ideal → Type 0) → Q t → Leads n t Q
leads_now n t Q h = record { steps = 0; within = omega arith; end = t; runs = refl; so = h }

pub runs_append : (n k : ℕ) (s t u : Ideal) → IdealRuns n s t → IdealRuns k t u → IdealRuns (n + k) s u
runs_append zero k s t u a b =
    let e : k ≡ 0 + k = omega arith in
    subst (λ (x : ℕ). IdealRuns x s u) e (subst (λ (x : Ideal). IdealRuns k x u) (sym a) b)
runs_append (suc n) k s t u a b =
    let e : suc (n + k) ≡ suc n + k = omega arith in
    subst (λ (x : ℕ). IdealRuns x s u) e (a.0, a.1, runs_append n k a.0 t u a.2 b)

-- one stretch after another: the limits add up
pub leads_then : (j k : ℕ) (t : Ideal) (P Q : Ideal → Type 0) → Leads j t P → ((u : Ideal) → P u → Leads k u Q)
    → Leads (j + k) t Q
leads_then j k t P Q a more =
    let b = more a.end a.so in
    record {
      steps = a.steps + b.steps;
      within = omega (arith, a.within, b.within);
      end = b.end;
      runs =
          runs_append a.steps b.steps t a.end b.end a.runs b.runs;
      so = b.so;
    }

-- a larger limit, and less that is so
pub leads_weaker : (j k : ℕ) (t : Ideal) (P Q : Ideal → Type 0) → j ≤ k → ((u : Ideal) → P u → Q u) → Leads j t P → Leads k t Q
leads_weaker j k t P Q l g a = record {
  steps = a.steps;
  within = omega (arith, a.within, l);
  end = a.end;
  runs = a.runs;
  so =
      g a.end a.so;
}

-- ---- code in memory

words_now : (c : ℕ → ℕ) (lo hi : ℕ) (m : ℕ → ℕ) → HasCode c lo hi m → (ws : List ℕ) (a : ℕ) → a % 2 ≡ 0 → lo ≤ a
    → a + 2 * length ws ≤ hi → WordsAt c a ws → WordsAt m a ws
words_now c lo hi m h [] a e l k w = tt
words_now c lo hi m h (x ∷ ws) a e l k w = (
  h.at a e l (omega arith)
      ∙ w.0,
  words_now c lo hi m h ws (a + 2) (omega arith) (omega arith) (omega arith) w.1,
)

pub words_stand : (c : ℕ → ℕ) (lo hi : ℕ) (m : ℕ → ℕ) → HasCode c lo hi m → (ws : List ℕ) (a : ℕ) → a % 2 ≡ 0 → lo ≤ a
    → a + 2 * length ws ≤ hi → WordsAt c a ws → WordsAt m a ws
words_stand c lo hi m h ws a e l k w = words_now c lo hi m h ws a e l k w

-- an instruction stands in memory where it was placed
pub here_now : (c : ℕ → ℕ) (lo hi : ℕ) (m : ℕ → ℕ) (pc : ℕ) (i : Instr) → HasCode c lo hi m → Here c lo hi pc i
    → Here m lo hi pc i
here_now c lo hi m pc i h k =
    let high = k.high in
    let size = code_size i in
    record {
      words = words_now c lo hi m h (code_of i) pc k.even k.low (omega arith) k.words;
      even = k.even;
      low =
          k.low;
      high = k.high;
      top = k.top;
      is_valid = k.is_valid;
    }

-- the bytes that the instruction at PC changes
pub changes_are : (lo hi : ℕ) (r m : ℕ → ℕ) (i : Instr) (b : ℕ) → Here m lo hi (r 0) i
    → operand_changes i (next_regs i r) b ≡ true → step_changes (record { regs = r; memory = m }) b ≡ true
changes_are lo hi r m i b h e =
    let high = h.high in let top = h.top in
    let pc : r 0 + size_of i ≡ (r 0 + size_of i) % 65536 = omega arith in
    let found = fetches m lo hi (record { regs = r; memory = m }) i (Agrees-self m lo hi) h in
    let past_e : operand_changes i (past i r) b ≡ true = subst (λ (a : ℕ). operand_changes i (set_reg r 0 a) b ≡ true) pc e in
    let if_e : changes_if (fetched (record { regs = r; memory = m })) (record { regs = r; memory = m }) b ≡ true =
    subst (λ (o : Option Instr). changes_if o (record { regs = r; memory = m }) b ≡ true) (sym found) past_e in
    and-both (eq-eqb (r 0 % 2) 0 h.even) if_e

pub first_byte : (a : ℕ) → access_bytes false a a ≡ true
first_byte a = or-left (nat_eq a a) _ (eq-eqb a a refl)

pub last_byte : (a : ℕ) → access_bytes false a (a + 1) ≡ true
last_byte a = or-right (nat_eq (a + 1) a) _ (and-both refl (eq-eqb (a + 1) (a + 1) refl))

pub only_byte : (a : ℕ) → access_bytes true a a ≡ true
only_byte a = or-left (nat_eq a a) _ (eq-eqb a a refl)

-- ---- rules

-- what an instruction of two operands comes to whose source has this value
abbrev pub two_given : TwoOp → Bool → Src → Dst → (r m : ℕ → ℕ) → Place → (value : ℕ) → Effect
two_given op byte src dst r m d value =
    two_effect op byte (r 0) (raised byte (next_regs (Two op byte src dst) r) src) m (r 2) d
    (value_at byte (next_regs (Two op byte src dst) r) m d) value

module _ (c : ℕ → ℕ) (lo hi seg sp : ℕ) (ps : ℕ → ℕ) (g : Ground lo hi seg sp) (Q : Ideal → Type 0) where
  pub own : (f : Cells) (m : ℕ → ℕ) (st : Bytes) → Facts c lo hi f m st → Owns (IsSettled st) lo hi
  own f m st h a l k = let low = g.low in let high = g.high in h.lasting a (code_fixed a (omega arith) (omega arith))

  -- a step of the core, and what stands then
  pub went : (n : ℕ) (f2 : Cells) (r m : ℕ → ℕ) (st : Bytes) (x : Course) (q : Meter) (u : State)
      → StepTo free (IsSettled st) (InSegment seg) (record { regs = r; memory = m }) u → AreWords r → AreWords m
      → (AreWords u.memory → Facts c lo hi f2 u.memory (settled_after seg (u.regs 1) ps
      (step_changes (record { regs = r; memory = m })) st))
      → ((st2 : Bytes) (q2 : Meter) → Facts c lo hi f2 u.memory st2 → AreWords u.regs
      → Leads n (at seg ps u.regs u.memory st2 x q2) Q) → Leads (suc n) (at seg ps r m st x q) Q
  went n f2 r m st x q u s wr wm facts more =
      let t : Ideal = at seg ps r m st x q in
      let v = moved t u in
      let wide = step-words free (IsSettled st) (InSegment seg) (record { regs = r; memory = m }) u wr wm s in
      leads_step n t v Q (lift_next t u refl s) (more v.settled v.meter (facts wide.1) wide.0)

  -- an instruction that ends in registers
  pub sets : (n : ℕ) (f : Cells) (s : Shape seg sp ps f) (r m : ℕ → ℕ) (st : Bytes) (x : Course) (q : Meter) (op : TwoOp)
      (byte : Bool) (src : Src) (dst : Dst) (p d : Place) (r2 : ℕ → ℕ) → Facts c lo hi f m st → AreWords r
      → Here c lo hi (r 0) (Two op byte src dst)
      → Source byte (next_regs (Two op byte src dst) r) src p → Target byte (next_regs (Two op byte src dst) r) dst d
      → two_at op byte src dst r m p d ≡ Sets r2
      → Covers (IsSettled st) byte p → CoversIf (IsSettled st) (uses_destination op) byte d
      → r2 0 ≡ r 0 + size_of (Two op byte src dst) → r2 1 ≡ sp
      → ((st2 : Bytes) (q2 : Meter) → Facts c lo hi f m st2 → AreWords r2 → Leads n (at seg ps r2 m st2 x q2) Q)
      → Leads (suc n) (at seg ps r m st x q) Q
  sets n f s r m st x q op byte src dst p d r2 h wr here sp1 tp e ra rb pc stack more =
      let t : State = record { regs = r2; memory = m } in
      let run = two_sets free (IsSettled st) (InSegment seg) m lo hi (own f m st h) 0 r m t op byte src dst p d r2
      (Agrees-self m lo hi) (here_now c lo hi m (r 0) (Two op byte src dst) h.code here) sp1 tp e ra rb pc refl in
      went n f r m st x q t (one_step (IsSettled st) (InSegment seg) (record { regs = r; memory = m }) t run) wr h.words
      (λ k. facts_settle c lo hi f seg sp ps s (r2 1) _ m st (omega (arith, stack)) h) more

  -- MOV to a word of the working segment that is a cell's
  pub stores : (n : ℕ) (f : Cells) (s : Shape seg sp ps f) (r m : ℕ → ℕ) (st : Bytes) (x : Course) (q : Meter) (src : Src)
      (dst : Dst) (p : Place) (r2 : ℕ → ℕ) (a w : ℕ) (old : Option ℕ) → Facts c lo hi f m st → AreWords r
      → Here c lo hi (r 0) (Two Mov false src dst)
      → Source false (next_regs (Two Mov false src dst) r) src p
      → Target false (next_regs (Two Mov false src dst) r) dst (InMemory a)
      → two_at Mov false src dst r m p (InMemory a) ≡ Stores r2 a w
      → Covers (IsSettled st) false p → f a ≡ Some (Word old) → segment_start seg ≤ a → a < segment_top seg
      → r2 0 ≡ r 0 + size_of (Two Mov false src dst) → r2 1 ≡ sp
      → ((m2 : ℕ → ℕ) (st2 : Bytes) (q2 : Meter) → Facts c lo hi (set_cell f a (Word (Some w))) m2 st2 → AreWords r2
      → Leads n (at seg ps r2 m2 st2 x q2) Q) → Leads (suc n) (at seg ps r m st x q) Q
  stores n f s r m st x q src dst p r2 a w old h wr here sp1 tp e ra cell base top pc stack more =
      let t : State = record { regs = r2; memory = put m a w } in
      let i : Instr = Two Mov false src dst in
      let now = here_now c lo hi m (r 0) i h.code here in
      let even = (s.fits a (Word old) cell).0 in
      let within : Covers (InSegment seg) false (InMemory a) =
      (in_segment seg a base top, in_segment seg (a + 1) (omega arith) (omega arith)) in
      let run = two_stores free (IsSettled st) (InSegment seg) m lo hi (own f m st h) 0 r m t Mov false src dst p
      (InMemory a) r2 a w (Agrees-self m lo hi) now sp1 tp e ra tt within refl pc refl in
      let changed : (b : ℕ) → access_bytes false a b ≡ true
      → step_changes (record { regs = r; memory = m }) b ≡ true =
      λ b k. changes_are lo hi r m i b now (subst (λ (y : Place). place_bytes false y b ≡ true) (sym tp.is) k) in
      went n (set_cell f a (Word (Some w))) r m st x q t (one_step (IsSettled st) (InSegment seg)
      (record { regs = r; memory = m }) t run) wr h.words
      (λ k. let small : w < 65536 = subst (λ (y : ℕ). y < 65536) (put-here m a w) (k a) in
      subst (λ (y : ℕ). Facts c lo hi (set_cell f a (Word (Some w))) (put m a w)
      (settled_after seg y ps (step_changes (record { regs = r; memory = m })) st)) (sym stack)
      (facts_put c lo hi seg sp ps g.low f s (step_changes (record { regs = r; memory = m })) m st a w old cell
      (changed a (first_byte a)) (changed (a + 1) (last_byte a)) small h))
      (λ st2 q2. more (put m a w) st2 q2)
    where
      put-here : (m : ℕ → ℕ) (a w : ℕ) → put m a w a ≡ w
      put-here m a w = put-same m a w

  -- MOV.B to a byte of the working segment that is a cell's; the other byte of its word may be another's
  pub stores_byte : (n : ℕ) (f : Cells) (s : Shape seg sp ps f) (r m : ℕ → ℕ) (st : Bytes) (x : Course) (q : Meter) (src : Src)
      (dst : Dst) (p : Place) (r2 : ℕ → ℕ) (a v : ℕ) (old : Option ℕ) → Facts c lo hi f m st → AreWords r
      → Here c lo hi (r 0) (Two Mov true src dst)
      → Source true (next_regs (Two Mov true src dst) r) src p
      → Target true (next_regs (Two Mov true src dst) r) dst (InMemory a)
      → two_at Mov true src dst r m p (InMemory a) ≡ Stores r2 (a - a % 2) (with_byte a (m (a - a % 2)) v)
      → Covers (IsSettled st) true p → f a ≡ Some (Byte old) → v < 256 → segment_start seg ≤ a → a < segment_top seg
      → r2 0 ≡ r 0 + size_of (Two Mov true src dst) → r2 1 ≡ sp
      → ((m2 : ℕ → ℕ) (st2 : Bytes) (q2 : Meter) → Facts c lo hi (set_cell f a (Byte (Some v))) m2 st2 → AreWords r2
      → Leads n (at seg ps r2 m2 st2 x q2) Q) → Leads (suc n) (at seg ps r m st x q) Q
  stores_byte n f s r m st x q src dst p r2 a v old h wr here sp1 tp e ra cell small base top pc stack more =
      let t : State = record { regs = r2; memory = put_byte m a v } in
      let i : Instr = Two Mov true src dst in
      let now = here_now c lo hi m (r 0) i h.code here in
      let within : Covers (InSegment seg) true (InMemory a) = in_segment seg a base top in
      let run = two_stores free (IsSettled st) (InSegment seg) m lo hi (own f m st h) 0 r m t Mov true src dst p
      (InMemory a) r2 (a - a % 2) (with_byte a (m (a - a % 2)) v)
      (Agrees-self m lo hi) now sp1 tp e ra tt within refl pc refl in
      let changed : step_changes (record { regs = r; memory = m }) a ≡ true =
      changes_are lo hi r m i a now (subst (λ (y : Place). place_bytes true y a ≡ true) (sym tp.is) (only_byte a)) in
      went n (set_cell f a (Byte (Some v))) r m st x q t (one_step (IsSettled st) (InSegment seg)
      (record { regs = r; memory = m }) t run) wr h.words
      (λ k. subst (λ (y : ℕ). Facts c lo hi (set_cell f a (Byte (Some v))) (put_byte m a v)
      (settled_after seg y ps (step_changes (record { regs = r; memory = m })) st)) (sym stack)
      (facts_put_byte c lo hi seg sp ps g.low f s (step_changes (record { regs = r; memory = m })) m st a v old cell changed
      small h))
      (λ st2 q2. more (put_byte m a v) st2 q2)

  -- a jump, to either side
  pub jumps : (n : ℕ) (f : Cells) (s : Shape seg sp ps f) (r m : ℕ → ℕ) (st : Bytes) (x : Course) (q : Meter) (k : Cond)
      (o : ℤ) (b : Bool) (a : ℕ) → Facts c lo hi f m st → AreWords r → Here c lo hi (r 0) (Jump k o) → r 1 ≡ sp
      → is_taken k (r 2) ≡ b → jump_target (r 0 + 2) o ≡ a → a < 65280
      → ((st2 : Bytes) (q2 : Meter) → Facts c lo hi f m st2 → AreWords (set_reg r 0 (if b then a else (r 0 + 2)))
      → Leads n (at seg ps (set_reg r 0 (if b then a else (r 0 + 2))) m st2 x q2) Q)
      → Leads (suc n) (at seg ps r m st x q) Q
  jumps n f s r m st x q k o b a h wr here stack is to low more =
      let r2 : ℕ → ℕ = set_reg r 0 (if b then a else (r 0 + 2)) in
      let t : State = record { regs = r2; memory = m } in
      let run = jump free (IsSettled st) (InSegment seg) m lo hi (own f m st h) 0 r m t k o b a (Agrees-self m lo hi)
      (here_now c lo hi m (r 0) (Jump k o) h.code here) is to low refl in
      went n f r m st x q t (one_step (IsSettled st) (InSegment seg) (record { regs = r; memory = m }) t run) wr h.words
      (λ y. facts_settle c lo hi f seg sp ps s (r 1) _ m st (omega (arith, stack)) h) more

  -- an instruction that sets PC
  pub goes : (n : ℕ) (f : Cells) (s : Shape seg sp ps f) (r m : ℕ → ℕ) (st : Bytes) (x : Course) (q : Meter) (op : TwoOp)
      (byte : Bool) (src : Src) (dst : Dst) (p d : Place) (r2 : ℕ → ℕ) → Facts c lo hi f m st → AreWords r
      → Here c lo hi (r 0) (Two op byte src dst)
      → Source byte (next_regs (Two op byte src dst) r) src p → Target byte (next_regs (Two op byte src dst) r) dst d
      → two_at op byte src dst r m p d ≡ Sets r2
      → Covers (IsSettled st) byte p → CoversIf (IsSettled st) (uses_destination op) byte d → r2 0 < 65280 → r2 1 ≡ sp
      → ((st2 : Bytes) (q2 : Meter) → Facts c lo hi f m st2 → AreWords r2 → Leads n (at seg ps r2 m st2 x q2) Q)
      → Leads (suc n) (at seg ps r m st x q) Q
  goes n f s r m st x q op byte src dst p d r2 h wr here sp1 tp e ra rb pc stack more =
      let t : State = record { regs = r2; memory = m } in
      let run = two_goes free (IsSettled st) (InSegment seg) m lo hi (own f m st h) 0 r m t op byte src dst p d r2
      (Agrees-self m lo hi) (here_now c lo hi m (r 0) (Two op byte src dst) h.code here) sp1 tp e ra rb pc refl in
      went n f r m st x q t (one_step (IsSettled st) (InSegment seg) (record { regs = r; memory = m }) t run) wr h.words
      (λ k. facts_settle c lo hi f seg sp ps s (r2 1) _ m st (omega (arith, stack)) h) more

  -- an instruction whose source is a word that is a cell's
  pub loads : (n : ℕ) (f : Cells) (s : Shape seg sp ps f) (r m : ℕ → ℕ) (st : Bytes) (x : Course) (q : Meter) (op : TwoOp)
      (src : Src) (dst : Dst) (a : ℕ) (d : Place) (w : ℕ) (r2 : ℕ → ℕ) → Facts c lo hi f m st → AreWords r
      → Here c lo hi (r 0) (Two op false src dst)
      → Source false (next_regs (Two op false src dst) r) src (InMemory a)
      → Target false (next_regs (Two op false src dst) r) dst d → f a ≡ Some (Word (Some w))
      → two_given op false src dst r m d w ≡ Sets r2
      → CoversIf (IsSettled st) (uses_destination op) false d → r2 0 ≡ r 0 + size_of (Two op false src dst) → r2 1 ≡ sp
      → ((st2 : Bytes) (q2 : Meter) → Facts c lo hi f m st2 → AreWords r2 → Leads n (at seg ps r2 m st2 x q2) Q)
      → Leads (suc n) (at seg ps r m st x q) Q
  loads n f s r m st x q op src dst a d w r2 h wr here sp1 tp cell e rb pc stack more =
      let value = h.stands a (Word (Some w)) cell in
      sets n f s r m st x q op false src dst (InMemory a) d r2 h wr here sp1 tp
      (ap (λ (y : ℕ). two_given op false src dst r m d y) value.0 ∙ e) (value.1, value.2) rb pc stack more

  -- the same of a byte: the other byte of its word need not be settled
  pub loads_byte : (n : ℕ) (f : Cells) (s : Shape seg sp ps f) (r m : ℕ → ℕ) (st : Bytes) (x : Course) (q : Meter) (op : TwoOp)
      (src : Src) (dst : Dst) (a : ℕ) (d : Place) (v : ℕ) (r2 : ℕ → ℕ) → Facts c lo hi f m st → AreWords r
      → Here c lo hi (r 0) (Two op true src dst)
      → Source true (next_regs (Two op true src dst) r) src (InMemory a)
      → Target true (next_regs (Two op true src dst) r) dst d → f a ≡ Some (Byte (Some v))
      → two_given op true src dst r m d v ≡ Sets r2
      → CoversIf (IsSettled st) (uses_destination op) true d → r2 0 ≡ r 0 + size_of (Two op true src dst) → r2 1 ≡ sp
      → ((st2 : Bytes) (q2 : Meter) → Facts c lo hi f m st2 → AreWords r2 → Leads n (at seg ps r2 m st2 x q2) Q)
      → Leads (suc n) (at seg ps r m st x q) Q
  loads_byte n f s r m st x q op src dst a d v r2 h wr here sp1 tp cell e rb pc stack more =
      let value = h.stands a (Byte (Some v)) cell in
      sets n f s r m st x q op true src dst (InMemory a) d r2 h wr here sp1 tp
      (ap (λ (y : ℕ). two_given op true src dst r m d y) value.0 ∙ e) value.1 rb pc stack more

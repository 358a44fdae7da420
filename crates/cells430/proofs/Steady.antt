-- Runs of a routine, from the call to behind its return, as stretches of the machine with unbroken power.
use Rattle.std.proofs.Common.{◌≡◌, ◌≢◌, ℕ, zero, suc, ◌+◌, ◌-◌, ◌*◌, ◌/◌, ◌%◌, ◌<◌, ◌≤◌, refl, sym, ap, ◌∙◌, subst, arith, Bool, true, false, ◌&&◌, inl, inr, List, length, Some, None, if◌then◌else◌}
use Rattle.std.proofs.lemmas.Bool.{eq-eqb, ne_eqb}
use Rattle.std.proofs.lemmas.Bool.Decides.{nat_tests}
use Rattle.std.specs.Prelude.{nat_le, nat_lt}
use Rattle.base16.specs.Board.{segment_start, code_start, code_end}
use Rattle.isa430.specs.declared.instr.OneOp.TheVariants.{Call}
use Rattle.isa430.specs.declared.instr.Src.TheVariants.{Immediate}
use Rattle.isa430.specs.declared.instr.Instr.TheVariants.{One}
use Rattle.isa430.specs.Table.{WordsAt}
use Rattle.core430.specs.Registers.{set_reg}
use Rattle.core430.specs.Bytes.{byte_in, byte_at}
use Rattle.core430.specs.Instructions.{lowered}
use Rattle.core430.specs.Step.{State}
use Rattle.core430.specs.Uses.{AreWords, step_changes}
use Rattle.run430.specs.Run.{StepTo, SteadyRuns}
use Rattle.run430.specs.Code.{Here}
use Rattle.run430.specs.Routine.{IsCall, IsKept, ComesBack, RoutineReads, RoutineWrites}
use Rattle.run430.proofs.Compose.{Touches-wider, step-kept, step-words}
use Rattle.run430.proofs.Rules.{arrive_next}
use Rattle.run430.proofs.Stack.{lowered_is}
use Rattle.ideal430.specs.Settled.{Bytes, settled_after}
use Rattle.ideal430.specs.Ideal.{Ideal, Meter, free, moved}
use Rattle.rt430.specs.declared.words.Helper.{Helper}
use Rattle.rt430.specs.declared.words.Helper.TheVariants.{Mul16, Udiv16, Umod16, Sdiv16, Smod16, Shl, Shr, Sar}
use Rattle.rt430.specs.Operators.{value, HasValue}
use Rattle.rt430.specs.Routines.{Computes, kept_by}
use Rattle.cells430.specs.Cells.{Cell, Word, Byte, Cells, CellAt, set_cell, Live, OfOutput, OfData, OfFrame, OfOlder, Fits, Shape, Facts, dropped}
use Rattle.cells430.specs.Stretch.{Course, at, Ground, StepsTo, IdealRuns, Leads}
use Rattle.cells430.proofs.Settling.{code_fixed, in_segment}
use Rattle.cells430.proofs.Cells.{set_cell-same, set_cell-other, live_next, facts_settle, facts_fewer}
use Rattle.cells430.proofs.Lift.{IsSettled, InSegment, lift_next, runs_append, words_stand}
use Rattle.cells430.proofs.Calls.{calls, pushed_shape, then_comes}
use Rattle.cells430.proofs.Frames.{facts_dropped}

-- ---- a word is known by its two bytes

low_byte : (m : ℕ → ℕ) (a : ℕ) → a % 2 ≡ 0 → byte_at m a ≡ m a % 256
low_byte m a e =
    let here : a - a % 2 ≡ a = omega arith in
    ap (λ (k : ℕ). byte_in a (m k)) here ∙ ap (λ (t : Bool). if t then m a % 256 else m a / 256) (eq-eqb (a % 2) 0 e)

high_byte : (m : ℕ → ℕ) (a : ℕ) → a % 2 ≡ 0 → byte_at m (a + 1) ≡ m a / 256
high_byte m a e =
    let here : a + 1 - (a + 1) % 2 ≡ a = omega arith in
    let odd : (a + 1) % 2 ≢ 0 = omega arith in
    ap (λ (k : ℕ). byte_in (a + 1) (m k)) here ∙ ap (λ (t : Bool). if t then m a % 256 else m a / 256)
    (ne_eqb ((a + 1) % 2) 0 odd)

same_word : (m k : ℕ → ℕ) (a : ℕ) → a % 2 ≡ 0 → byte_at k a ≡ byte_at m a → byte_at k (a + 1) ≡ byte_at m (a + 1) → k a ≡ m a
same_word m k a e low high =
    let l : k a % 256 ≡ m a % 256 = sym (low_byte k a e) ∙ low ∙ low_byte m a e in
    let h : k a / 256 ≡ m a / 256 = sym (high_byte k a e) ∙ high ∙ high_byte m a e in
    omega arith

-- ---- a stretch in a stretch

pub leads_runs : (j k n : ℕ) (t u : Ideal) (Q : Ideal → Type 0) → k ≤ j → IdealRuns k t u → Leads n u Q → Leads (j + n) t Q
leads_runs j k n t u Q l runs h = record {
  steps = k + h.steps;
  within = omega (arith, h.within, l);
  end = h.end;
  runs =
      runs_append k h.steps t u h.end runs h.runs;
  so = h.so;
}

module _ (c : ℕ → ℕ) (lo hi seg sp : ℕ) (ps : ℕ → ℕ) (g : Ground lo hi seg sp) (f : Cells) (s : Shape seg sp ps f) where
  -- memory differs in the word below the stack pointer alone
  pub facts_same : (m k : ℕ → ℕ) (st : Bytes) → ((b : ℕ) → b ≢ sp - 2 → b ≢ sp - 2 + 1 → byte_at k b ≡ byte_at m b)
      → AreWords k → Facts c lo hi f m st → Facts c lo hi f k st
  facts_same m k st same words h = record {
    code = record { at = λ a e l t. code_at a e l t };
    stands = λ b x e. cell_at b x (s.live b x e) (s.fits b x e) (h.stands b x e);
    lasting = h.lasting;
    words = words;
  }
    where
      apart : (b : ℕ) → Live seg sp ps b → (b ≢ sp - 2) × (b ≢ sp - 2 + 1)
      apart b (OfOutput p q) = let base = g.base in (omega arith, omega arith)
      apart b (OfData p q) = let base = g.base in let top = g.top in let last = g.last in let even = g.even in
          (omega arith, omega arith)
      apart b (OfFrame p q r t) = let base = g.base in (omega arith, omega arith)
      apart b (OfOlder p q r t) = let base = g.base in (omega arith, omega arith)

      far : (b : ℕ) → code_start ≤ b → (b ≢ sp - 2) × (b ≢ sp - 2 + 1)
      far b l = let base = g.base in let top = g.top in let last = g.last in let even = g.even in (omega arith, omega arith)

      code_at : (a : ℕ) → a % 2 ≡ 0 → lo ≤ a → a < hi → k a ≡ c a
      code_at a e l t =
          let low = g.low in
          let f1 = far a (omega arith) in
          let f2 = far (a + 1) (omega arith) in
          same_word m k a e (same a f1.0 f1.1) (same (a + 1) f2.0 f2.1) ∙ h.code.at a e l t

      word_at : (b w : ℕ) → b % 2 ≡ 0 → Live seg sp ps b → CellAt m st b (Word (Some w)) → CellAt k st b (Word (Some w))
      word_at b w e live y =
          let a1 = apart b live in
          let a2 = apart (b + 1) (live_next seg sp ps b e live) in
          (same_word m k b e (same b a1.0 a1.1) (same (b + 1) a2.0 a2.1) ∙ y.0, y.1, y.2)

      cell_at : (b : ℕ) (x : Cell) → Live seg sp ps b → Fits f b x → CellAt m st b x → CellAt k st b x
      cell_at b (Word (Some w)) live fit y = word_at b w fit.0 live y
      cell_at b (Byte (Some v)) live fit y = let a1 = apart b live in (same b a1.0 a1.1 ∙ y.0, y.1)
      cell_at b (Word None) live fit y = tt
      cell_at b (Byte None) live fit y = tt

  module _ (base size ret : ℕ) (low : code_start ≤ base) (high : base + size ≤ code_end)
      (cell : f sp ≡ Some (Word (Some ret))) where
    -- a routine uses settled bytes, and writes to the working segment
    reads : (m : ℕ → ℕ) (st : Bytes) → Facts c lo hi f m st → (b : ℕ) → RoutineReads base size sp b → st b ≡ true
    reads m st h b (inl k) = let k0 = k.0 in let k1 = k.1 in h.lasting b (code_fixed b (omega arith) (omega arith))
    reads m st h b (inr (inl e)) = subst (λ (x : ℕ). st x ≡ true) (sym e) ((h.stands sp (Word (Some ret)) cell).1)
    reads m st h b (inr (inr e)) = subst (λ (x : ℕ). st x ≡ true) (sym e) ((h.stands sp (Word (Some ret)) cell).2)

    below : lowered sp ≡ sp - 2
    below = let t = g.top in let l = g.last in let b = g.base in lowered_is refl (omega arith) (omega arith)

    writes : (b : ℕ) → RoutineWrites sp b → InSegment seg b
    writes b (inl e) = let is : b ≡ sp - 2 = e ∙ below in let t = g.top in let k = g.base in
        in_segment seg b (omega arith) (omega arith)
    writes b (inr e) = let is : b ≡ sp - 2 + 1 = e ∙ ap (λ (x : ℕ). x + 1) below in let t = g.top in let k = g.base in
        in_segment seg b (omega arith) (omega arith)

    -- one step of it
    pub one : (t u : State) (st : Bytes) (x : Course) (q : Meter) → Facts c lo hi f t.memory st
        → StepTo free (RoutineReads base size sp) (RoutineWrites sp) t u
        → StepsTo (at seg ps t.regs t.memory st x q) (moved (at seg ps t.regs t.memory st x q) u)
    one t u st x q h step =
        lift_next (at seg ps t.regs t.memory st x q) u refl
        (record {
          goes = step.goes;
          touches = Touches-wider (RoutineReads base size sp) (IsSettled st) (RoutineWrites sp)
              (InSegment seg) (reads t.memory st h) writes t step.touches;
        })

    pub kept : (t u : State) (st : Bytes) → AreWords t.regs → Facts c lo hi f t.memory st
        → StepTo free (RoutineReads base size sp) (RoutineWrites sp) t u → Facts c lo hi f u.memory st × AreWords u.regs
    kept t u st wr h step =
        let wide = step-words free (RoutineReads base size sp) (RoutineWrites sp) t u wr h.words step in
        let none : (b : ℕ) → b ≢ sp - 2 → b ≢ sp - 2 + 1 → RoutineWrites sp b → ⊥ = λ b n1 n2 w. off b n1 n2 w in (
          facts_same t.memory u.memory st (λ b n1 n2. step-kept free (RoutineReads base size sp)
              (RoutineWrites sp) t u b h.words step (none b n1 n2)) wide.1 h,
          wide.0,
        )
      where
        off : (b : ℕ) → b ≢ sp - 2 → b ≢ sp - 2 + 1 → RoutineWrites sp b → ⊥
        off b n1 n2 (inl e) = n1 (e ∙ below)
        off b n1 n2 (inr e) = n2 (e ∙ ap (λ (x : ℕ). x + 1) below)

    -- a run of the routine is a stretch that leaves all cells
    pub steady : (n : ℕ) (t u : State) (st : Bytes) (x : Course) (q : Meter)
        → SteadyRuns free (RoutineReads base size sp) (RoutineWrites sp) sp n t u → AreWords t.regs
        → Facts c lo hi f t.memory st
        → (st2 : Bytes) × (q2 : Meter) × IdealRuns n (at seg ps t.regs t.memory st x q)
        (at seg ps u.regs u.memory st2 x q2) × Facts c lo hi f u.memory st2 × AreWords u.regs
    steady zero t u st x q h wr facts = (
      st,
      q,
      ap (λ (y : State). at seg ps y.regs y.memory st x q) h,
      subst
          (λ (y : State). Facts c lo hi f y.memory st) h facts,
      subst (λ (y : State). AreWords y.regs) h wr,
    )
    steady (suc n) t u st x q h wr facts =
        let v = h.0 in
        let step = h.1 in
        let next = moved (at seg ps t.regs t.memory st x q) v in
        let k = kept t v st wr facts step in
        let facts2 : Facts c lo hi f v.memory next.settled =
        facts_settle c lo hi f seg sp ps s (v.regs 1) (step_changes t) v.memory st h.2 k.0 in
        let more = steady n v u next.settled x next.meter h.3 k.1 facts2 in
        (more.0, more.1, (next, one t v st x q facts step, more.2), more.3, more.4)

    -- and the return, after which the return word is no cell
    pub comes_back : (limit answer : ℕ) (same : List ℕ) (t : State) (st : Bytes) (x : Course) (q : Meter) → t.regs 1 ≡ sp
        → ret < 65280 → ComesBack free (RoutineReads base size (t.regs 1)) (RoutineWrites (t.regs 1)) limit answer same t
        → AreWords t.regs → Facts c lo hi f t.memory st
        → (n : ℕ) (Q : Ideal → Type 0) → ((r2 m2 : ℕ → ℕ) (st2 : Bytes) (q2 : Meter) → r2 0 ≡ ret → r2 1 ≡ sp + 2
        → r2 12 ≡ answer → IsKept same t.regs r2 → Facts c lo hi (dropped seg (sp + 2) f) m2 st2 → AreWords r2
        → Leads n (at seg ps r2 m2 st2 x q2) Q)
        → Leads (limit + n) (at seg ps t.regs t.memory st x q) Q
    comes_back limit answer same t st x q e small back wr facts n Q more =
        let top = g.top in let last = g.last in
        let b = subst (λ (k : ℕ). ComesBack free (RoutineReads base size k) (RoutineWrites k) limit answer same t) e back in
        let runs = subst (λ (k : ℕ). SteadyRuns free (RoutineReads base size sp) (RoutineWrites sp) k b.steps t b.last) e
        b.runs in
        let went = steady b.steps t b.last st x q runs wr facts in
        let there : t.memory sp ≡ ret = (facts.stands sp (Word (Some ret)) cell).0 in
        let pc : b.end.regs 0 ≡ ret = b.back ∙ ap t.memory e ∙ there in
        let low_pc : b.end.regs 0 < 65280 = omega (arith, pc) in
        let up : b.end.regs 1 ≡ sp + 2 = omega (arith, b.stack, e) in
        let step : StepTo free (RoutineReads base size sp) (RoutineWrites sp) b.last b.end =
        record { goes = b.returns ∙ arrive_next b.end.regs b.end.memory low_pc; touches = b.touches } in
        let k = kept b.last b.end went.0 went.4 went.3 step in
        let here : Ideal = at seg ps b.last.regs b.last.memory went.0 x went.1 in
        let next = moved here b.end in
        let facts2 : Facts c lo hi (dropped seg (sp + 2) f) b.end.memory
        (settled_after seg (sp + 2) ps (step_changes b.last) went.0) =
        facts_dropped c lo hi seg sp (sp + 2) ps f (step_changes b.last) b.end.memory went.0 s k.0 in
        let facts3 : Facts c lo hi (dropped seg (sp + 2) f) b.end.memory next.settled =
        subst (λ (y : ℕ). Facts c lo hi (dropped seg (sp + 2) f) b.end.memory
        (settled_after seg y ps (step_changes b.last) went.0)) (sym up) facts2 in
        let all : IdealRuns (b.steps + 1) (at seg ps t.regs t.memory st x q) next =
        runs_append b.steps 1 _ here next went.2 (next, one b.last b.end went.0 x went.1 went.3 step, refl) in
        leads_runs limit (b.steps + 1) n _ next Q (omega (arith, b.within)) all
        (more b.end.regs b.end.memory next.settled next.meter pc up b.answers b.kept facts3 k.1)

-- what a routine keeps, from before its call
same_kept : (which : Helper) (r r2 : ℕ → ℕ) (pc k to : ℕ) → IsKept (kept_by which)
    (set_reg (set_reg (set_reg r 0 pc) 1 k) 0 to) r2 → IsKept (kept_by which) r r2
same_kept Mul16 r r2 pc k to h = h
same_kept Udiv16 r r2 pc k to h = h
same_kept Umod16 r r2 pc k to h = h
same_kept Sdiv16 r r2 pc k to h = h
same_kept Smod16 r r2 pc k to h = h
same_kept Shl r r2 pc k to h = h
same_kept Shr r r2 pc k to h = h
same_kept Sar r r2 pc k to h = h

-- ---- the helper routines

module _ (c : ℕ → ℕ) (lo hi seg sp : ℕ) (ps : ℕ → ℕ) (g : Ground lo hi seg sp) (f : Cells) (s : Shape seg sp ps f)
    (which : Helper) (ws : List ℕ) (does : Computes which ws) (base : ℕ) (even : base % 2 ≡ 0) (low : lo ≤ base)
    (high : base + 2 * length ws ≤ hi) (words : WordsAt c base ws) where
  -- the routine runs, with its operands in R12 and R13, up to behind its return
  pub routine_runs : (r m : ℕ → ℕ) (st : Bytes) (x : Course) (q : Meter) (a b ret : ℕ) → Facts c lo hi f m st → AreWords r
      → f sp ≡ Some (Word (Some ret)) → ret < 65280 → r 0 ≡ base → r 1 ≡ sp → r 12 ≡ a → r 13 ≡ b → HasValue which a b
      → (n : ℕ) (Q : Ideal → Type 0) → ((r2 m2 : ℕ → ℕ) (st2 : Bytes) (q2 : Meter) → r2 0 ≡ ret → r2 1 ≡ sp + 2
      → r2 12 ≡ value which a b → IsKept (kept_by which) r r2 → Facts c lo hi (dropped seg (sp + 2) f) m2 st2 → AreWords r2
      → Leads n (at seg ps r2 m2 st2 x q2) Q)
      → Leads (400 + n) (at seg ps r m st x q) Q
  routine_runs r m st x q a b ret h wr cell small pc e first second has n Q more =
      let top = g.top in let last = g.last in let start = g.base in
      let low2 = g.low in let high2 = g.high in
      let even_sp = g.even in
      let t : State = record { regs = r; memory = m } in
      let down : lowered (r 1) ≡ sp - 2 = lowered_is e (omega arith) (omega arith) in
      let call : IsCall free ws base a b t = record {
        words = words_stand c lo hi m h.code ws base even low high words;
        place = pc;
        base_even = even;
        base_low = omega arith;
        base_high = omega arith;
        stack_word = wr 1;
        stack_even = omega (arith, e);
        stack_apart = inl (omega (arith, e));
        below_apart = inl (omega (arith, down));
        stack_may = refl;
        below_may = refl;
        first = first;
        first_word = subst (λ (k : ℕ). k < 65536) first (wr 12);
        second = second;
        second_word = subst (λ (k : ℕ). k < 65536) second (wr 13);
      } in
      comes_back c lo hi seg sp ps g f s base (2 * length ws) ret (omega arith) (omega arith) cell 400 (value which a b)
      (kept_by which) t st x q e small (does free base a b t call has) wr h n Q more

-- the cells are there again once a return word is popped
called_cells : (c : ℕ → ℕ) (lo hi seg sp : ℕ) (ps : ℕ → ℕ) (g : Ground lo hi seg sp) (f : Cells) (s : Shape seg sp ps f)
    (y : Cell) (b : ℕ) (x : Cell) → f b ≡ Some x → dropped seg (sp - 2 + 2) (set_cell f (sp - 2) y) b ≡ Some x
called_cells c lo hi seg sp ps g f s y b x e =
    let out = outside (s.live b x e) in
    ap (λ (t : Bool). if t then None else set_cell f (sp - 2) y b) out.0 ∙ set_cell-other f (sp - 2) b y out.1 ∙ e
  where
    outside : Live seg sp ps b → ((nat_le (segment_start seg) b && nat_lt b (sp - 2 + 2)) ≡ false) × (b ≢ sp - 2)
    outside (OfOutput p q) = let base = g.base in (grind (arith, nat_tests), omega arith)
    outside (OfData p q) = let base = g.base in let top = g.top in let last = g.last in (grind (arith, nat_tests), omega arith)
    outside (OfFrame p q r t) = let base = g.base in (grind (arith, nat_tests), omega arith)
    outside (OfOlder p q r t) = let base = g.base in (grind (arith, nat_tests), omega arith)

module _ (c : ℕ → ℕ) (lo hi seg sp : ℕ) (ps : ℕ → ℕ) (g : Ground lo hi seg sp) (room : segment_start seg + 4 ≤ sp) (f : Cells)
    (s : Shape seg sp ps f) (which : Helper) (ws : List ℕ) (does : Computes which ws) (base : ℕ) (even : base % 2 ≡ 0)
    (low : lo ≤ base) (high : base + 2 * length ws ≤ hi) (words : WordsAt c base ws) where
  -- CALL #base, and the routine: R12 has the value, and all cells stand
  pub calls_routine : (r m : ℕ → ℕ) (st : Bytes) (x : Course) (q : Meter) (a b : ℕ) → Facts c lo hi f m st → AreWords r
      → Here c lo hi (r 0) (One Call false (Immediate base)) → r 1 ≡ sp → r 12 ≡ a → r 13 ≡ b → HasValue which a b
      → (n : ℕ) (Q : Ideal → Type 0) → ((r2 m2 : ℕ → ℕ) (st2 : Bytes) (q2 : Meter) → r2 0 ≡ r 0 + 4 → r2 1 ≡ sp
      → r2 12 ≡ value which a b → IsKept (kept_by which) r r2 → Facts c lo hi f m2 st2 → AreWords r2
      → Leads n (at seg ps r2 m2 st2 x q2) Q)
      → Leads (suc (400 + n)) (at seg ps r m st x q) Q
  calls_routine r m st x q a b h wr here e first second has n Q more =
      let start = g.base in let top = g.top in let last = g.last in let even_sp = g.even in let high2 = g.high in
      let end = here.high in let tops = here.top in
      let ret : ℕ = r 0 + 4 in
      let f2 : Cells = set_cell f (sp - 2) (Word (Some ret)) in
      let g2 : Ground lo hi seg (sp - 2) = record {
        low = g.low;
        high = g.high;
        base = omega arith;
        top = omega arith;
        last =
            g.last;
        even = omega arith;
      } in
      let s2 : Shape seg (sp - 2) ps f2 = pushed_shape c lo hi seg sp ps g f s (Some ret) in
      let r1 : ℕ → ℕ = set_reg (set_reg (set_reg r 0 (r 0 + 4)) 1 (sp - 2)) 0 base in
      let up : sp - 2 + 2 ≡ sp = omega arith in
      then_comes c lo hi (400 + n) (at seg ps r m st x q) seg ps r1 x f2 Q
      (calls c lo hi seg sp ps g f s r m st x q base h wr here e (omega arith))
      (λ m1 st1 q1 h1 w1. routine_runs c lo hi seg (sp - 2) ps g2 f2 s2 which ws does base even low high words r1 m1 st1 x q1 a
      b ret h1 w1 (set_cell-same f (sp - 2) (sp - 2) (Word (Some ret)) refl) (omega arith) refl refl first second has n Q
      (λ r2 m2 st2 q2 pc sp2 answer kept facts wide. more r2 m2 st2 q2 pc (sp2 ∙ up) answer
      (same_kept which r r2 (r 0 + 4) (sp - 2) base kept)
      (facts_fewer c lo hi (dropped seg (sp - 2 + 2) f2) f m2 st2
      (λ k y i. called_cells c lo hi seg sp ps g f s (Word (Some ret)) k y i) facts) wide))

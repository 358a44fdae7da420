-- Calls of services, each as one step. Those that store ask that no block is open.
use Rattle.std.proofs.Common.{◌≡◌, ◌≢◌, ℕ, ◌+◌, ◌-◌, ◌*◌, ◌%◌, ◌<◌, ◌≤◌, refl, sym, ap, ◌∙◌, subst, arith, Bool, true, false, not, ◌&&◌, ◌⊎◌, inl, inr, List, [], ◌∷◌, ◌++◌, drop, Option, Some, None, if◌then◌else◌}
use Rattle.std.proofs.Math.Path.{fun_ext}
use Rattle.std.proofs.lemmas.Bool.{ne_eqb, eq-eqb, cases_eq}
use Rattle.std.proofs.lemmas.List.{append-nil}
use Rattle.std.proofs.lemmas.Bool.Decides.{nat_tests}
use Rattle.std.specs.Prelude.{nat_lt}
use Rattle.base16.specs.Board.{service_entry}
use Rattle.base16.specs.Memory.{put}
use Rattle.base16.specs.declared.reading.Reading.{Reading}
use Rattle.base16.specs.declared.reading.Reading.TheVariants as reading
use Rattle.base16.specs.declared.end.EndKind.{EndKind}
use Rattle.base16.specs.declared.end.EndKind.TheVariants.{Done}
use Rattle.base16.proofs.Writes.{put-same}
use Rattle.isa430.specs.declared.instr.OneOp.TheVariants.{Call}
use Rattle.isa430.specs.declared.instr.Src.TheVariants.{Immediate}
use Rattle.isa430.specs.declared.instr.Instr.TheVariants.{One}
use Rattle.core430.specs.Registers.{set_reg}
use Rattle.core430.specs.Step.{State, Service as Calls}
use Rattle.core430.specs.Uses.{AreWords, step_changes, IsWithin}
use Rattle.core430.proofs.Truths.{and-both, or-left}
use Rattle.run430.specs.Run.{CallsService}
use Rattle.run430.specs.Code.{Here}
use Rattle.run430.proofs.Words.{Agrees-self}
use Rattle.run430.proofs.Stack.{into_service}
use Rattle.ideal430.specs.Places.{is_even, may_store, is_in_word}
use Rattle.ideal430.specs.Service.{Block, service_at, has_stack, wild_where, own_wild, own_full, popped, refusal_or, refusal_of, Effect, mark, own_ask, stores_in, is_open, Stays, block_by, block_after}
use Rattle.ideal430.specs.Settled.{Bytes, no_bytes, stores_bytes, settled_after}
use Rattle.ideal430.specs.Ideal.{Ideal, Meter, stopped, moved, settled_popped, settled_old, did, served, free, with_left, earlier_after}
use Rattle.ideal430.specs.Uses.{UsesAfter, UsesIf, uses_at}
use Rattle.ideal430.specs.At.{effect_here, sensed_value}
use Rattle.ideal430.specs.declared.service.Ask.TheVariants.{Nothing, Sensor}
use Rattle.ideal430.specs.declared.service.Service.{Service}
use Rattle.ideal430.specs.declared.service.Service.TheVariants.{Turn, StoreWord, StoreByte, Sense, Checkpoint}
use Rattle.ideal430.specs.declared.service.Store.{Store}
use Rattle.ideal430.specs.declared.service.Store.TheVariants.{Word as StoresWord, Byte as StoresByte}
use Rattle.ideal430.specs.declared.state.IdealEnd.{IdealEnd}
use Rattle.ideal430.specs.declared.state.IdealEnd.TheVariants.{Running, Ended, NeedsReading}
use Rattle.ideal430.proofs.Serving.{refusal_here, served-nothing, served-sensed, served-missing}
use Rattle.cells430.specs.Cells.{Word, Byte, Cells, set_cell, Shape, Facts}
use Rattle.cells430.specs.Stretch.{with_mark, reached_regs, behind, Course, outside, at, Ground, StepsTo, Comes}
use Rattle.cells430.proofs.Settling.{in_segment, settle-new}
use Rattle.cells430.proofs.Cells.{live_lower, live_next, live_below, second_byte, facts_more, facts_settle, facts_set, facts_set_byte, facts_below}
use Rattle.cells430.proofs.Lift.{IsSettled, InSegment, next_is, own, here_now, first_byte, last_byte, only_byte}
use Rattle.cells430.proofs.Calls.{words_set, pushed_settled, pushed_within}

-- ---- a service is reached

-- the machine as service n is reached: its return word stands below the stack pointer
abbrev pub reached_state : (n sp : ℕ) (r m : ℕ → ℕ) → State
reached_state n sp r m = record { regs = reached_regs n sp r; memory = put m (sp - 2) (r 0 + 4) }

abbrev pub reached : (n seg sp : ℕ) (ps r m : ℕ → ℕ) → Bytes → Course → Meter → Ideal
reached n seg sp ps r m st x q = moved (at seg ps r m st x q) (reached_state n sp r m)

pub popped_is : (n sp : ℕ) (r m : ℕ → ℕ) → r 1 ≡ sp → 2 ≤ sp
    → popped (reached_regs n sp r) (put m (sp - 2) (r 0 + 4)) ≡ behind r
popped_is n sp r m e two = fun_ext (λ k. at_k k (cases_eq k 0) (cases_eq k 1))
  where
    at_k : (k : ℕ) → ((k ≡ 0) ⊎ (k ≡ 0 → ⊥)) → ((k ≡ 1) ⊎ (k ≡ 1 → ⊥))
        → popped (reached_regs n sp r) (put m (sp - 2) (r 0 + 4)) k ≡ behind r k
    at_k k (inl a) b = let d : k ≢ 1 = omega arith in simp (ne_eqb k 1 d, eq-eqb k 0 a) (put-same m (sp - 2) (r 0 + 4))
    at_k k (inr a) (inl b) = let up : sp - 2 + 2 ≡ sp = omega arith in
        simp (ne_eqb k 0 a, eq-eqb k 1 b) (up ∙ sym e ∙ ap r (sym b))
    at_k k (inr a) (inr b) = simp (ne_eqb k 0 a, ne_eqb k 1 b)

-- a step that calls a service
pub lift_served : (n : ℕ) (t : Ideal) (s : State) (u : Ideal) → t.status ≡ Running
    → CallsService free (IsSettled t.settled) (InSegment t.segment) n t.core s
    → IsWithin (uses_at n s.regs s.memory t.segment) (moved t s).settled → served n (moved t s) ≡ u → StepsTo t u
lift_served n t s u run h used is = record {
  goes = next_is t (Calls n s) run h.calls ∙ is;
  running = run;
  uses = subst (λ (k : IdealEnd). UsesIf k t) (sym run) (h.touches.0, subst (UsesAfter t) (sym h.calls) used);
  writes = h.touches.1;
}

pub not_refused : (service : Service) (r m : ℕ → ℕ) (seg : ℕ) (block : Block) → has_stack seg (r 1) ≡ true
    → own_wild service r m seg block ≡ None → refusal_of service r m seg block ≡ own_full service (popped r m) m seg block
not_refused service r m seg block stack own =
    ap (λ (b : Bool). refusal_or (wild_where (not b) (r 1) (own_wild service r m seg block))
    (own_full service (popped r m) m seg block)) stack
    ∙ ap (λ (o : Option ℕ). refusal_or o (own_full service (popped r m) m seg block)) own

-- ---- marks in the working segment

-- what a mark does that leaves the segment: it may ask for a checkpoint, and it may end the run
abbrev pub marked : (ℕ → ℕ) → ℕ → List Store → (asks ends : Bool) → Effect
marked r seg stores asks ends = record (mark r seg stores) { asks = asks; ends = ends }

abbrev pub ending : Bool → IdealEnd
ending ends = if ends then Ended Done else Running

not_less : (n : ℕ) → nat_lt n n ≡ false
not_less n = grind (arith, nat_tests)

-- the last stack pointers of older segments, after a service that leaves this segment working
pub stays : (seg sp : ℕ) (ps : ℕ → ℕ) → (if nat_lt seg seg then set_reg ps seg (sp - 2 + 2) else ps) ≡ ps
stays seg sp ps = ap (λ (b : Bool). if b then set_reg ps seg (sp - 2 + 2) else ps) (not_less seg)

-- the course after a mark
abbrev pub course_after : Ideal → Effect → Course
course_after t e = record {
  marks = t.marks + 1;
  left = t.left;
  block = block_after e t.core.memory t.block;
  earlier =
      earlier_after t e;
}

same_block : (m : ℕ → ℕ) (o : Block) → block_by Stays true [] m o ≡ o
same_block m None = refl
same_block m (Some words) = ap Some (append-nil words)

same_earlier : (b : Bool) (l : List Bytes) → (if b then l ++ [] else l) ≡ l
same_earlier true l = append-nil l
same_earlier false l = refl

-- a mark that stores nothing leaves the block as it was
pub quiet_course : (n seg sp : ℕ) (ps r m : ℕ → ℕ) (st : Bytes) (x : Course) (q : Meter) (g2 : ℕ) (r2 : ℕ → ℕ)
    (asks ends : Bool) → course_after (reached n seg sp ps r m st x q) (marked r2 g2 [] asks ends) ≡ with_mark x
quiet_course n seg sp ps r m st x q g2 r2 asks ends =
    ap (λ (o : Block). record {
      marks = x.marks + 1;
      left = x.left;
      block = o;
      earlier =
          if is_open x.block && true then x.earlier ++ [] else x.earlier;
    }) (same_block (put m (sp - 2) (r 0 + 4)) x.block)
    ∙ ap (λ (l : List Bytes). record { marks = x.marks + 1; left = x.left; block = x.block; earlier = l })
    (same_earlier (is_open x.block && true) x.earlier)

module _ (c : ℕ → ℕ) (lo hi seg sp : ℕ) (ps : ℕ → ℕ) (g : Ground lo hi seg sp) where
  stack_there : has_stack seg (sp - 2) ≡ true
  stack_there =
      let base = g.base in let top = g.top in let even = g.even in
      and-both (eq-eqb ((sp - 2) % 2) 0 (omega arith)) (in_segment seg (sp - 2) (omega arith) (omega arith))

  -- why a service is refused, if it is not Wild
  pub refusal_is : (service : Service) (n : ℕ) (r m : ℕ → ℕ) (st : Bytes) (x : Course) (q : Meter) (o : Option EndKind)
      → r 1 ≡ sp → own_wild service (reached_regs n sp r) (put m (sp - 2) (r 0 + 4)) seg x.block ≡ None
      → own_full service (behind r) (put m (sp - 2) (r 0 + 4)) seg x.block ≡ o
      → refusal_here service (reached n seg sp ps r m st x q) ≡ o
  refusal_is service n r m st x q o e wild full =
      let base = g.base in
      not_refused service (reached_regs n sp r) (put m (sp - 2) (r 0 + 4)) seg x.block stack_there wild
      ∙ ap (λ (k : ℕ → ℕ). own_full service k (put m (sp - 2) (r 0 + 4)) seg x.block) (popped_is n sp r m e (omega arith))
      ∙ full

  -- the call of a service, whatever comes of it
  pub calls_service : (n : ℕ) (f : Cells) (r m : ℕ → ℕ) (st : Bytes) (x : Course) (q : Meter) (u : Ideal) → n < 15
      → Facts c lo hi f m st → Here c lo hi (r 0) (One Call false (Immediate (65280 + 2 * n))) → r 1 ≡ sp
      → IsWithin (uses_at n (reached_regs n sp r) (put m (sp - 2) (r 0 + 4)) seg) (reached n seg sp ps r m st x q).settled
      → served n (reached n seg sp ps r m st x q) ≡ u → StepsTo (at seg ps r m st x q) u
  calls_service n f r m st x q u few h here e used is =
      let base = g.base in let top = g.top in let last = g.last in let even = g.even in
      let now = here_now c lo hi m (r 0) (One Call false (Immediate (65280 + 2 * n))) h.code here in
      let call = into_service free (IsSettled st) (InSegment seg) m lo hi
      (own c lo hi seg sp ps g (λ y. Unit {0}) f m st h) n sp r m (Agrees-self m lo hi) now (omega arith) e (omega arith)
      (omega arith) even (pushed_within c lo hi seg sp ps g) refl in
      lift_served n (at seg ps r m st x q) (reached_state n sp r m) u refl call used is

  -- the return word of a service is settled as it is reached
  pub return_settled : (n : ℕ) (f : Cells) (r m : ℕ → ℕ) (st : Bytes) (x : Course) (q : Meter) → Facts c lo hi f m st
      → Here c lo hi (r 0) (One Call false (Immediate (65280 + 2 * n))) → r 1 ≡ sp
      → IsWithin (is_in_word (sp - 2)) (reached n seg sp ps r m st x q).settled
  return_settled n f r m st x q h here e b k =
      pushed_settled c lo hi seg sp ps g r m st (65280 + 2 * n) b
      (here_now c lo hi m (r 0) (One Call false (Immediate (65280 + 2 * n))) h.code here) e k

  module _ (f : Cells) (s : Shape seg sp ps f) where
    -- what stands as a service is reached
    pub facts_reached : (n : ℕ) (r m : ℕ → ℕ) (st : Bytes) (x : Course) (q : Meter) → r 0 + 4 < 65536 → Facts c lo hi f m st
        → Facts c lo hi f (put m (sp - 2) (r 0 + 4)) (reached n seg sp ps r m st x q).settled
    facts_reached n r m st x q small h =
        let base = g.base in let top = g.top in let even = g.even in
        facts_settle c lo hi f seg sp ps s (sp - 2) (step_changes (record { regs = r; memory = m }))
        (put m (sp - 2) (r 0 + 4)) st (omega arith)
        (facts_below c lo hi seg sp ps g.low f s m st (sp - 2) (r 0 + 4) (omega arith) (omega arith)
        (omega arith) top g.last small h)

    -- and with its return word popped
    pub facts_back : (n : ℕ) (r m : ℕ → ℕ) (st : Bytes) (x : Course) (q : Meter) (e : Effect) → e.noted ≡ true
        → r 0 + 4 < 65536 → Facts c lo hi f m st → Facts c lo hi f (put m (sp - 2) (r 0 + 4))
        (settled_old (reached n seg sp ps r m st x q) e)
    facts_back n r m st x q e noted small h =
        let base = g.base in
        let t : Ideal = reached n seg sp ps r m st x q in
        let up : (b : ℕ) → settled_popped t b ≡ true → settled_old t e b ≡ true = λ b k. and-both k (or-left e.noted _ noted) in
        let half = facts_settle c lo hi f seg sp ps s (sp - 2 + 2) no_bytes (put m (sp - 2) (r 0 + 4)) t.settled (omega arith)
        (facts_reached n r m st x q small h) in
        facts_more c lo hi f seg sp ps s (put m (sp - 2) (r 0 + 4)) (settled_popped t) (settled_old t e) (λ b l k. up b k)
        (λ b k. up b (half.lasting b k)) half

  -- what a mark comes to
  pub did_is : (n : ℕ) (r m : ℕ → ℕ) (st : Bytes) (x : Course) (q : Meter) (g2 : ℕ) (ps2 r2 : ℕ → ℕ)
      (stores : List Store) (asks ends : Bool) (x2 : Course) →
      let t : Ideal = reached n seg sp ps r m st x q in
      let e : Effect = marked r2 g2 stores asks ends in
      (if nat_lt seg g2 then set_reg ps seg (sp - 2 + 2) else ps) ≡ ps2 → course_after t e ≡ x2
      → did t e ≡ stopped (at g2 ps2 r2 (stores_in (put m (sp - 2) (r 0 + 4)) stores)
      (settled_after g2 (r2 1) ps2 (stores_bytes stores) (settled_old t e)) x2 (did t e).meter)
      (ending ends)
  did_is n r m st x q g2 ps2 r2 stores asks ends x2 moves course =
      let t : Ideal = reached n seg sp ps r m st x q in
      let e : Effect = marked r2 g2 stores asks ends in
      ap (λ (p : ℕ → ℕ). stopped (at g2 p r2 (stores_in (put m (sp - 2) (r 0 + 4)) stores)
      (settled_after g2 (r2 1) p (stores_bytes stores) (settled_old t e)) (course_after t e) (did t e).meter)
      (ending ends)) moves
      ∙ ap (λ (k : Course). stopped (at g2 ps2 r2 (stores_in (put m (sp - 2) (r 0 + 4)) stores)
      (settled_after g2 (r2 1) ps2 (stores_bytes stores) (settled_old t e)) k (did t e).meter) (ending ends)) course

  -- a service that asks nothing and is a mark
  pub comes_marked : (service : Service) (n : ℕ) (f f2 : Cells) (r m : ℕ → ℕ) (st : Bytes) (x : Course)
      (q : Meter) (g2 : ℕ) (ps2 r2 : ℕ → ℕ) (stores : List Store) (asks ends : Bool) (x2 : Course) →
      let t : Ideal = reached n seg sp ps r m st x q in
      (if nat_lt seg g2 then set_reg ps seg (sp - 2 + 2) else ps) ≡ ps2 → course_after t (marked r2 g2 stores asks ends) ≡ x2
      → service_at n ≡ Some service → n < 15 → Facts c lo hi f m st
      → Here c lo hi (r 0) (One Call false (Immediate (65280 + 2 * n))) → r 1 ≡ sp
      → refusal_here service t ≡ None → own_ask service (reached_regs n sp r) ≡ Nothing
      → effect_here service 0 t ≡ marked r2 g2 stores asks ends
      → IsWithin (uses_at n (reached_regs n sp r) (put m (sp - 2) (r 0 + 4)) seg) t.settled
      → Facts c lo hi f2 (stores_in (put m (sp - 2) (r 0 + 4)) stores)
      (settled_after g2 (r2 1) ps2 (stores_bytes stores) (settled_old t (marked r2 g2 stores asks ends))) → AreWords r2
      → Comes c lo hi (at seg ps r m st x q) (ending ends) g2 ps2 r2 x2 f2
  comes_marked service n f f2 r m st x q g2 ps2 r2 stores asks ends x2 moves course at_n few h here e free_of quiet effect used
      facts wide =
      let t : Ideal = reached n seg sp ps r m st x q in
      let ef : Effect = marked r2 g2 stores asks ends in
      let u = did t ef in
      record {
        memory = stores_in (put m (sp - 2) (r 0 + 4)) stores;
        settled = settled_after g2 (r2 1) ps2 (stores_bytes stores) (settled_old t ef);
        meter = u.meter;
        step = calls_service n f r m st x q _ few h here e used
            (served-nothing n t service at_n free_of quiet ∙ ap (did t) effect
            ∙ did_is n r m st x q g2 ps2 r2 stores asks ends x2 moves course);
        facts = facts;
        words = wide;
      }

  module _ (f : Cells) (s : Shape seg sp ps f) where
    -- the registers behind a call have 16 bits
    pub behind_words : (r : ℕ → ℕ) (n : ℕ) → Here c lo hi (r 0) (One Call false (Immediate n)) → AreWords r
        → AreWords (behind r)
    behind_words r n here h = let high = here.high in let top = here.top in words_set r 0 (r 0 + 4) (omega arith) h

    pub small_return : (r : ℕ → ℕ) (n : ℕ) → Here c lo hi (r 0) (One Call false (Immediate n)) → r 0 + 4 < 65536
    small_return r n here = let high = here.high in let top = here.top in omega arith

    -- what stands after a mark that stores nothing
    pub facts_quiet : (n : ℕ) (r m : ℕ → ℕ) (st : Bytes) (x : Course) (q : Meter) (r2 : ℕ → ℕ) (asks ends : Bool) → r2 1 ≤ sp
        → r 0 + 4 < 65536 → Facts c lo hi f m st
        → Facts c lo hi f (put m (sp - 2) (r 0 + 4)) (settled_after seg (r2 1) ps (stores_bytes [])
        (settled_old (reached n seg sp ps r m st x q) (marked r2 seg [] asks ends)))
    facts_quiet n r m st x q r2 asks ends low small h =
        facts_settle c lo hi f seg sp ps s (r2 1) (stores_bytes []) (put m (sp - 2) (r 0 + 4))
        (settled_old (reached n seg sp ps r m st x q) (marked r2 seg [] asks ends)) low
        (facts_back f s n r m st x q (marked r2 seg [] asks ends) refl small h)

    -- and those that a service finds
    pub reached_words : (r : ℕ → ℕ) (n k : ℕ) → Here c lo hi (r 0) (One Call false (Immediate k)) → r 1 ≡ sp → n < 15
        → AreWords r → AreWords (reached_regs n sp r)
    reached_words r n k here e few h =
        let top = g.top in let last = g.last in
        words_set (set_reg (behind r) 1 (sp - 2)) 0 (65280 + 2 * n) (omega arith)
        (words_set (behind r) 1 (sp - 2) (omega arith) (behind_words r k here h))

    -- turn of a loop
    pub turns : (r m : ℕ → ℕ) (st : Bytes) (x : Course) (q : Meter) → Facts c lo hi f m st → AreWords r
        → Here c lo hi (r 0) (One Call false (Immediate 65286)) → r 1 ≡ sp
        → Comes c lo hi (at seg ps r m st x q) Running seg ps (behind r) (with_mark x) f
    turns r m st x q h wr here e =
        let base = g.base in
        comes_marked Turn 3 f f r m st x q seg ps (behind r) [] false false (with_mark x) (stays seg sp ps)
        (quiet_course 3 seg sp ps r m st x q seg (behind r) false false) refl
        (omega arith) h here e
        (refusal_is Turn 3 r m st x q None e refl refl) refl
        (ap (λ (k : ℕ → ℕ). mark k seg []) (popped_is 3 sp r m e (omega arith)))
        (return_settled 3 f r m st x q h here e)
        (facts_quiet 3 r m st x q (behind r) false false (omega (arith, e)) (small_return r 65286 here) h)
        (behind_words r 65286 here wr)

    -- a checkpoint is asked for
    pub checkpoints : (r m : ℕ → ℕ) (st : Bytes) (x : Course) (q : Meter) → Facts c lo hi f m st
        → AreWords r → Here c lo hi (r 0) (One Call false (Immediate 65308)) → r 1 ≡ sp
        → Comes c lo hi (at seg ps r m st x q) Running seg ps (behind r) (with_mark x) f
    checkpoints r m st x q h wr here e =
        let base = g.base in
        comes_marked Checkpoint 14 f f r m st x q seg ps (behind r) [] true false (with_mark x) (stays seg sp ps)
        (quiet_course 14 seg sp ps r m st x q seg (behind r) true false) refl
        (omega arith) h here e
        (refusal_is Checkpoint 14 r m st x q None e refl refl) refl
        (ap (λ (k : ℕ → ℕ). record (mark k seg []) { asks = true }) (popped_is 14 sp r m e (omega arith)))
        (return_settled 14 f r m st x q h here e)
        (facts_quiet 14 r m st x q (behind r) true false (omega (arith, e)) (small_return r 65308 here) h)
        (behind_words r 65308 here wr)

    good_word : (a : ℕ) → a % 2 ≡ 0 → may_store seg a ≡ true → (is_even a && may_store seg a) ≡ true
    good_word a even may = and-both (eq-eqb (a % 2) 0 even) may

    -- the word in R13 is stored at the address in R14
    pub stores16 : (r m : ℕ → ℕ) (st : Bytes) (marks : ℕ) (left : List Reading) (q : Meter) (a : ℕ) (old : Option ℕ)
        → Facts c lo hi f m st → AreWords r → Here c lo hi (r 0) (One Call false (Immediate 65288)) → r 1 ≡ sp → r 14 ≡ a
        → may_store seg a ≡ true → f a ≡ Some (Word old)
        → Comes c lo hi (at seg ps r m st (outside marks left) q) Running seg ps (behind r) (outside (marks + 1) left)
        (set_cell f a (Word (Some (r 13))))
    stores16 r m st marks left q a old h wr here e to may cell =
        let base = g.base in
        let even = (s.fits a (Word old) cell).0 in
        let none = (s.fits a (Word old) cell).1 in
        let live = s.live a (Word old) cell in
        let low = g.low in
        let under = live_below seg sp ps a live in
        let stores : List Store = StoresWord a (r 13) ∷ [] in
        let m1 : ℕ → ℕ = put m (sp - 2) (r 0 + 4) in
        let w : Bytes = stores_bytes stores in
        let before : Bytes = settled_old (reached 4 seg sp ps r m st (outside marks left) q)
        (marked (behind r) seg stores false false) in
        let st2 : Bytes = settled_after seg (r 1) ps w before in
        let down : r 1 ≤ sp = omega (arith, e) in
        let live2 = live_lower seg sp (r 1) ps a down live in
        let back = facts_settle c lo hi f seg sp ps s (r 1) w m1 before down
        (facts_back f s 4 r m st (outside marks left) q (marked (behind r) seg stores false false) refl
        (small_return r 65288 here) h) in
        comes_marked StoreWord 4 f (set_cell f a (Word (Some (r 13)))) r m st (outside marks left) q seg ps (behind r) stores
        false false (outside (marks + 1) left) (stays seg sp ps) refl refl (omega arith) h here e
        (refusal_is StoreWord 4 r m st (outside marks left) q None e
        (ap (λ (k : ℕ). wild_where (not (is_even k && may_store seg k)) k None) to
        ∙ ap (λ (b : Bool). wild_where (not b) a None) (good_word a even may)) refl) refl
        (ap (λ (k : ℕ → ℕ). mark k seg (StoresWord (k 14) (k 13) ∷ [])) (popped_is 4 sp r m e (omega arith))
        ∙ ap (λ (k : ℕ). mark (behind r) seg (StoresWord k (r 13) ∷ [])) to)
        (return_settled 4 f r m st (outside marks left) q h here e)
        (facts_set c lo hi f m1 st2 a (r 13) even (omega arith) none
        (settle-new seg (r 1) ps w before a live2 (or-left _ _ (first_byte a)))
        (settle-new seg (r 1) ps w before (a + 1) (live_next seg (r 1) ps a even live2) (or-left _ _ (last_byte a)))
        (wr 13) back)
        (behind_words r 65288 here wr)

    -- the low byte of R13 is stored at the address in R14
    pub stores8 : (r m : ℕ → ℕ) (st : Bytes) (marks : ℕ) (left : List Reading) (q : Meter) (a : ℕ) (old : Option ℕ)
        → Facts c lo hi f m st → AreWords r → Here c lo hi (r 0) (One Call false (Immediate 65290)) → r 1 ≡ sp → r 14 ≡ a
        → may_store seg a ≡ true → f a ≡ Some (Byte old)
        → Comes c lo hi (at seg ps r m st (outside marks left) q) Running seg ps (behind r) (outside (marks + 1) left)
        (set_cell f a (Byte (Some (r 13 % 256))))
    stores8 r m st marks left q a old h wr here e to may cell =
        let base = g.base in
        let live = s.live a (Byte old) cell in
        let low = g.low in
        let under = live_below seg sp ps a live in
        let stores : List Store = StoresByte a (r 13 % 256) ∷ [] in
        let m1 : ℕ → ℕ = put m (sp - 2) (r 0 + 4) in
        let w : Bytes = stores_bytes stores in
        let before : Bytes = settled_old (reached 5 seg sp ps r m st (outside marks left) q)
        (marked (behind r) seg stores false false) in
        let st2 : Bytes = settled_after seg (r 1) ps w before in
        let down : r 1 ≤ sp = omega (arith, e) in
        let live2 = live_lower seg sp (r 1) ps a down live in
        let back = facts_settle c lo hi f seg sp ps s (r 1) w m1 before down
        (facts_back f s 5 r m st (outside marks left) q (marked (behind r) seg stores false false) refl
        (small_return r 65290 here) h) in
        comes_marked StoreByte 5 f (set_cell f a (Byte (Some (r 13 % 256)))) r m st (outside marks left) q seg ps
        (behind r) stores false false (outside (marks + 1) left) (stays seg sp ps) refl refl (omega arith) h here e
        (refusal_is StoreByte 5 r m st (outside marks left) q None e
        (ap (λ (k : ℕ). wild_where (not (may_store seg k)) k None) to ∙ ap (λ (b : Bool). wild_where (not b) a None) may)
        refl) refl
        (ap (λ (k : ℕ → ℕ). mark k seg (StoresByte (k 14) (k 13 % 256) ∷ [])) (popped_is 5 sp r m e (omega arith))
        ∙ ap (λ (k : ℕ). mark (behind r) seg (StoresByte k (r 13 % 256) ∷ [])) to)
        (return_settled 5 f r m st (outside marks left) q h here e)
        (facts_set_byte c lo hi f m1 st2 a (r 13 % 256) (omega arith)
        (λ b y k. second_byte seg sp ps f s a b (Byte old) y cell k) (λ b y k. (s.fits b (Word y) k).0)
        (settle-new seg (r 1) ps w before a live2 (or-left _ _ (only_byte a))) (omega arith) back)
        (behind_words r 65290 here wr)

    -- ---- sensors

    few_channels : (r : ℕ → ℕ) (channel : ℕ) → r 15 ≡ channel → channel < 16
        → wild_where (nat_lt 15 (r 15)) (service_entry 8) None ≡ None
    few_channels r channel is few =
        let least : nat_lt 15 channel ≡ false = grind (arith, nat_tests) in
        ap (λ (k : ℕ). wild_where (nat_lt 15 k) (service_entry 8) None) is
        ∙ ap (λ (b : Bool). wild_where b (service_entry 8) None) least

    -- R12 becomes the next reading, which is of the channel in R15
    pub senses : (r m : ℕ → ℕ) (st : Bytes) (x : Course) (channel value : ℕ) (rest : List Reading) (q : Meter)
        → Facts c lo hi f m st
        → AreWords r → Here c lo hi (r 0) (One Call false (Immediate 65296)) → r 1 ≡ sp → r 15 ≡ channel → channel < 16
        → value < 65536 → x.left ≡ reading.Sense channel value ∷ rest
        → Comes c lo hi (at seg ps r m st x q) Running seg ps (set_reg (behind r) 12 value)
        (record (with_mark x) { left = rest }) f
    senses r m st x channel value rest q h wr here e is few small next =
        let base = g.base in
        let t : Ideal = reached 8 seg sp ps r m st x q in
        let x2 : Course = record x { left = rest } in
        let t2 : Ideal = reached 8 seg sp ps r m st x2 q in
        let r2 : ℕ → ℕ = set_reg (behind r) 12 value in
        let ef : Effect = marked r2 seg [] false false in
        let u = did t2 ef in
        record {
          memory = put m (sp - 2) (r 0 + 4);
          settled = settled_after seg (r2 1) ps (stores_bytes []) (settled_old t2 ef);
          meter = u.meter;
          step = calls_service 8 f r m st x q _ (omega arith) h here e (return_settled 8 f r m st x q h here e)
              (served-sensed 8 t Sense channel value refl (refusal_is Sense 8 r m st x q None e
              (few_channels r channel is few) refl) (ap Sensor is)
              (ap (sensed_value channel) next ∙ ap (λ (b : Bool). if b then Some value else None) (eq-eqb channel channel refl))
              ∙ ap (λ (l : List Reading). did (with_left t (drop 1 l)) (effect_here Sense value t)) next
              ∙ ap (λ (k : ℕ → ℕ). did t2 (mark (set_reg k 12 value) seg [])) (popped_is 8 sp r m e (omega arith))
              ∙ did_is 8 r m st x2 q seg ps r2 [] false false (with_mark x2) (stays seg sp ps)
              (quiet_course 8 seg sp ps r m st x2 q seg r2 false false));
          facts = facts_quiet 8 r m st x2 q r2 false false (omega (arith, e)) (small_return r 65296 here) h;
          words = words_set (behind r) 12 value small (behind_words r 65296 here wr);
        }

    -- the reading is missing, or it is of another channel
    pub sense_lacks : (r m : ℕ → ℕ) (st : Bytes) (x : Course) (channel : ℕ) (q : Meter) → Facts c lo hi f m st
        → AreWords r → Here c lo hi (r 0) (One Call false (Immediate 65296)) → r 1 ≡ sp → r 15 ≡ channel → channel < 16
        → sensed_value channel x.left ≡ None
        → Comes c lo hi (at seg ps r m st x q) NeedsReading seg ps (reached_regs 8 sp r) x f
    sense_lacks r m st x channel q h wr here e is few lacks =
        let t : Ideal = reached 8 seg sp ps r m st x q in
        record {
          memory = put m (sp - 2) (r 0 + 4);
          settled = t.settled;
          meter = t.meter;
          step = calls_service 8 f r m st x q _ (omega arith) h here e
              (return_settled 8 f r m st x q h here e)
              (served-missing 8 t Sense channel refl (refusal_is Sense 8 r m st x q None e
              (few_channels r channel is few) refl) (ap Sensor is) lacks);
          facts = facts_reached f s 8 r m st x q (small_return r 65296 here) h;
          words = reached_words r 8 65296 here e (omega arith) wr;
        }

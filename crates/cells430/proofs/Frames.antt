-- Frames: enter in the working segment, leave in it, the end of main, and no place for a frame.
use Rattle.std.proofs.Common.{◌≡◌, ◌≢◌, ℕ, ◌+◌, ◌-◌, ◌%◌, ◌<◌, ◌≤◌, refl, sym, ap, ◌∙◌, subst, arith, Bool, true, false, not, ◌&&◌, ◌||◌, inl, inr, [], ◌∷◌, Some, None, if◌then◌else◌}
use Rattle.std.proofs.lemmas.Bool.{ne_eqb, eq-eqb, le-leb, lt-leb}
use Rattle.std.proofs.lemmas.Bool.Decides.{nat_tests}
use Rattle.std.specs.Prelude.{nat_eq, nat_lt, nat_le}
use Rattle.base16.specs.Board.{segment_start, segment_top, segment_count}
use Rattle.base16.specs.Memory.{put}
use Rattle.base16.specs.declared.end.EndKind.TheVariants.{StackFull}
use Rattle.isa430.specs.declared.instr.OneOp.TheVariants.{Call}
use Rattle.isa430.specs.declared.instr.Src.TheVariants.{Immediate}
use Rattle.isa430.specs.declared.instr.Instr.TheVariants.{One}
use Rattle.core430.specs.Registers.{set_reg}
use Rattle.core430.specs.Uses.{AreWords, IsWithin}
use Rattle.core430.proofs.Truths.{and-both, or-true, and-left}
use Rattle.run430.specs.Code.{Here}
use Rattle.ideal430.specs.Places.{is_in_word}
use Rattle.ideal430.specs.Service.{Block, is_frame, is_linked, is_bad_link, is_link, wild_where, own_wild, has_place, mark, link_address, enter_effect, returned, leave_effect}
use Rattle.ideal430.specs.Settled.{Bytes, stores_bytes, settled_after}
use Rattle.ideal430.specs.Ideal.{Ideal, Meter, settled_old}
use Rattle.ideal430.specs.Uses.{uses_at}
use Rattle.ideal430.specs.declared.service.Service.TheVariants.{Enter, Leave}
use Rattle.ideal430.specs.declared.service.Store.TheVariants.{Link}
use Rattle.ideal430.specs.declared.state.IdealEnd.TheVariants.{Running, Ended}
use Rattle.ideal430.proofs.Serving.{served-refused}
use Rattle.cells430.specs.Cells.{Cell, Word, Byte, Cells, Live, OfOutput, OfData, OfFrame, OfOlder, Fits, Shape, Facts, dropped}
use Rattle.cells430.specs.Stretch.{with_mark, reached_regs, behind, Course, at, Ground, Comes}
use Rattle.cells430.proofs.Cells.{facts_settle, facts_fewer, word_small}
use Rattle.cells430.proofs.Calls.{of_word, words_set}
use Rattle.cells430.proofs.Services.{quiet_course, reached, popped_is, marked, ending, stays, refusal_is, calls_service, return_settled, facts_reached, facts_back, comes_marked, behind_words, small_return, facts_quiet, reached_words}

-- ---- cells of a frame that is left

pub kept_cell : (seg sp b : ℕ) (f : Cells) (x : Cell) → dropped seg sp f b ≡ Some x
    → (f b ≡ Some x) × (segment_start seg ≤ b → sp ≤ b)
kept_cell seg sp b f x e = from (nat_le (segment_start seg) b && nat_lt b sp) refl e
  where
    none : None ≡ Some x → ⊥
    none k = cc

    above : nat_le (segment_start seg) b && nat_lt b sp ≡ false → segment_start seg ≤ b → sp ≤ b
    above k l = grind (arith, nat_tests)

    from : (t : Bool) → nat_le (segment_start seg) b && nat_lt b sp ≡ t → (if t then None else f b) ≡ Some x
        → (f b ≡ Some x) × (segment_start seg ≤ b → sp ≤ b)
    from true k h = absurd (none h)
    from false k h = (h, above k)

live_higher : (seg sp sp2 : ℕ) (ps : ℕ → ℕ) (b : ℕ) → (segment_start seg ≤ b → sp2 ≤ b) → Live seg sp ps b → Live seg sp2 ps b
live_higher seg sp sp2 ps b h (OfOutput l k) = OfOutput l k
live_higher seg sp sp2 ps b h (OfData l k) = OfData l k
live_higher seg sp sp2 ps b h (OfFrame l k t m) = OfFrame l k t (h l)
live_higher seg sp sp2 ps b h (OfOlder l k t m) = OfOlder l k t m

fits_dropped : (seg sp b : ℕ) (f : Cells) (x : Cell) → Fits f b x → Fits (dropped seg sp f) b x
fits_dropped seg sp b f (Word v) h = (h.0, none (nat_le (segment_start seg) (b + 1) && nat_lt (b + 1) sp))
  where
    none : (t : Bool) → (if t then None else f (b + 1)) ≡ None
    none true = refl
    none false = h.1
fits_dropped seg sp b f (Byte v) h = tt

pub shape_dropped : (seg sp sp2 : ℕ) (ps : ℕ → ℕ) (f : Cells) → Shape seg sp ps f → Shape seg sp2 ps (dropped seg sp2 f)
shape_dropped seg sp sp2 ps f h = record {
  live = λ b x e. let k = kept_cell seg sp2 b f x e in live_higher seg sp sp2 ps b k.1 (h.live b x k.0);
  fits = λ b x e. let k = kept_cell seg sp2 b f x e in fits_dropped seg sp2 b f x (h.fits b x k.0);
}

pub facts_dropped : (c : ℕ → ℕ) (lo hi seg sp sp2 : ℕ) (ps : ℕ → ℕ) (f : Cells) (w : Bytes) (m : ℕ → ℕ) (st : Bytes)
    → Shape seg sp ps f → Facts c lo hi f m st → Facts c lo hi (dropped seg sp2 f) m (settled_after seg sp2 ps w st)
facts_dropped c lo hi seg sp sp2 ps f w m st s h =
    facts_settle c lo hi (dropped seg sp2 f) seg sp2 ps (shape_dropped seg sp sp2 ps f s) sp2 w m st (omega arith)
    (facts_fewer c lo hi f (dropped seg sp2 f) m st (λ b x e. (kept_cell seg sp2 b f x e).0) h)

-- ---- the bytes of a frame

pub good_frame : (bytes : ℕ) → bytes % 2 ≡ 0 → 4 ≤ bytes → bytes ≤ 240 → is_frame bytes ≡ true
good_frame bytes even four most = and-both (eq-eqb (bytes % 2) 0 even) (and-both (le-leb 4 bytes four) (le-leb bytes 240 most))

module _ (c : ℕ → ℕ) (lo hi seg sp : ℕ) (ps : ℕ → ℕ) (g : Ground lo hi seg sp) (f : Cells) (s : Shape seg sp ps f) where
  -- enter is not Wild
  pub enter_free : (r m : ℕ → ℕ) (block : Block) (bytes : ℕ) → r 15 ≡ bytes → bytes % 2 ≡ 0 → 4 ≤ bytes → bytes ≤ 240
      → sp < segment_top seg
      → own_wild Enter (reached_regs 1 sp r) (put m (sp - 2) (r 0 + 4)) seg block ≡ None
  enter_free r m block bytes is even four most below =
      let base = g.base in
      let apart : sp - 2 + 2 ≢ segment_top seg = omega arith in
      ap (λ (k : ℕ). wild_where (not (is_frame k)) (sp - 2) (wild_where (nat_eq (sp - 2 + 2) (segment_top seg)) (sp - 2) None))
      is
      ∙ ap (λ (b : Bool). wild_where (not b) (sp - 2) (wild_where (nat_eq (sp - 2 + 2) (segment_top seg)) (sp - 2) None))
      (good_frame bytes even four most)
      ∙ ap (λ (b : Bool). wild_where b (sp - 2) None) (ne_eqb (sp - 2 + 2) (segment_top seg) apart)

  -- the frame's place is known by SP and R15
  pub placed : (r : ℕ → ℕ) (bytes : ℕ) (b : Bool) → r 1 ≡ sp → r 15 ≡ bytes → has_place seg sp bytes ≡ b
      → has_place seg (r 1) (r 15) ≡ b
  placed r bytes b e is k = ap (λ (x : ℕ). has_place seg x (r 15)) e ∙ ap (has_place seg sp) is ∙ k

  pub enter_does : (r m : ℕ → ℕ) (bytes : ℕ) (b : Bool) → r 1 ≡ sp → r 15 ≡ bytes → has_place seg sp bytes ≡ b
      → enter_effect (behind r) seg ≡ (if b then mark (set_reg (behind r) 1 (sp - bytes)) seg [] else mark
      (set_reg (behind r) 1 (link_address seg - bytes)) (seg + 1) (Link (link_address seg) sp ∷ []))
  enter_does r m bytes b e is k =
      ap (λ (x : ℕ). if has_place seg x (r 15) then mark (set_reg (behind r) 1 (x - r 15)) seg [] else mark
      (set_reg (behind r) 1 (link_address seg - r 15)) (seg + 1) (Link (link_address seg) x ∷ [])) e
      ∙ ap (λ (x : ℕ). if has_place seg sp x then mark (set_reg (behind r) 1 (sp - x)) seg [] else mark
      (set_reg (behind r) 1 (link_address seg - x)) (seg + 1) (Link (link_address seg) sp ∷ [])) is
      ∙ ap (λ (t : Bool). if t then mark (set_reg (behind r) 1 (sp - bytes)) seg [] else mark
      (set_reg (behind r) 1 (link_address seg - bytes)) (seg + 1) (Link (link_address seg) sp ∷ [])) k

  -- a frame of so many bytes below the return word, in this segment
  pub enters : (r m : ℕ → ℕ) (st : Bytes) (x : Course) (q : Meter) (bytes : ℕ) → Facts c lo hi f m st
      → AreWords r → Here c lo hi (r 0) (One Call false (Immediate 65282)) → r 1 ≡ sp → r 15 ≡ bytes → bytes % 2 ≡ 0
      → 4 ≤ bytes → bytes ≤ 240
      → segment_start seg + bytes + 4 ≤ sp → sp < segment_top seg
      → Comes c lo hi (at seg ps r m st x q) Running seg ps (set_reg (behind r) 1 (sp - bytes))
      (with_mark x) f
  enters r m st x q bytes h wr here e is even four most fits below =
      let base = g.base in let last = g.last in
      let r2 : ℕ → ℕ = set_reg (behind r) 1 (sp - bytes) in
      let small = small_return c lo hi seg sp ps g f s r 65282 here in
      let place : has_place seg sp bytes ≡ true = le-leb (segment_start seg + bytes + 4) sp fits in
      comes_marked c lo hi seg sp ps g Enter 1 f f r m st x q seg ps r2 [] false false (with_mark x) (stays seg sp ps)
      (quiet_course 1 seg sp ps r m st x q seg r2 false false) refl
      (omega arith) h here e
      (refusal_is c lo hi seg sp ps g Enter 1 r m st x q None e (enter_free r m x.block bytes is even four most below)
      (ap (λ (b : Bool). if b || not (nat_eq seg (segment_count - 1)) then None else Some StackFull)
      (placed r bytes true e is place))) refl
      (ap (λ (k : ℕ → ℕ). enter_effect k seg) (popped_is 1 sp r m e (omega arith)) ∙ enter_does r m bytes true e is place)
      (return_settled c lo hi seg sp ps g 1 f r m st x q h here e)
      (facts_quiet c lo hi seg sp ps g f s 1 r m st x q r2 false false (omega arith) small h)
      (words_set (behind r) 1 (sp - bytes) (omega arith) (behind_words c lo hi seg sp ps g f s r 65282 here wr))

  -- no segment is left for a frame
  pub enter_full : (r m : ℕ → ℕ) (st : Bytes) (x : Course) (q : Meter) (bytes : ℕ) → Facts c lo hi f m st
      → AreWords r → Here c lo hi (r 0) (One Call false (Immediate 65282)) → r 1 ≡ sp → r 15 ≡ bytes → bytes % 2 ≡ 0
      → 4 ≤ bytes → bytes ≤ 240
      → sp < segment_start seg + bytes + 4 → sp < segment_top seg → seg ≡ 31
      → Comes c lo hi (at seg ps r m st x q) (Ended StackFull) seg ps (reached_regs 1 sp r) x f
  enter_full r m st x q bytes h wr here e is even four most full below top =
      let t : Ideal = reached 1 seg sp ps r m st x q in
      let place : has_place seg sp bytes ≡ false = lt-leb (segment_start seg + bytes + 4) sp full in
      record {
        memory = put m (sp - 2) (r 0 + 4);
        settled = t.settled;
        meter = t.meter;
        step = calls_service c lo hi seg sp ps g 1 f r m st x q _ (omega arith) h here e
            (return_settled c lo hi seg sp ps g 1 f r m st x q h here e)
            (served-refused 1 t Enter StackFull refl (refusal_is c lo hi seg sp ps g Enter 1 r m st x q (Some StackFull) e
            (enter_free r m x.block bytes is even four most below)
            (ap (λ (b : Bool). if b || not (nat_eq seg (segment_count - 1)) then None else Some StackFull)
            (placed r bytes false e is place)
            ∙ ap (λ (b : Bool). if not b then None else Some StackFull) (eq-eqb seg 31 top))));
        facts = facts_reached c lo hi seg sp ps g f s 1 r m st x q (small_return c lo hi seg sp ps g f s r 65282 here) h;
        words = reached_words c lo hi seg sp ps g f s r 1 65282 here e (omega arith) wr;
      }

  -- leave is not Wild
  pub leave_free : (r m : ℕ → ℕ) (block : Block) (bytes end : ℕ) → r 15 ≡ bytes → bytes % 2 ≡ 0 → 4 ≤ bytes → bytes ≤ 240
      → sp + bytes ≡ end
      → end + 2 ≤ segment_top seg → is_bad_link (put m (sp - 2) (r 0 + 4)) seg end ≡ false
      → own_wild Leave (reached_regs 2 sp r) (put m (sp - 2) (r 0 + 4)) seg block ≡ None
  leave_free r m block bytes end is even four most ends below link =
      let base = g.base in
      let m1 : ℕ → ℕ = put m (sp - 2) (r 0 + 4) in
      let at_end : sp - 2 + 2 + r 15 ≡ end = omega (arith, is, ends) in
      let over : nat_lt (segment_top seg) (end + 2) ≡ false = grind (arith, nat_tests) in
      ap (λ (k : ℕ). wild_where (not (is_frame k)) (sp - 2)
      (wild_where (nat_lt (segment_top seg) (sp - 2 + 2 + r 15 + 2)) (sp - 2)
      (wild_where (is_bad_link m1 seg (sp - 2 + 2 + r 15)) (sp - 2) None))) is
      ∙ ap (λ (b : Bool). wild_where (not b) (sp - 2) (wild_where (nat_lt (segment_top seg) (sp - 2 + 2 + r 15 + 2)) (sp - 2)
      (wild_where (is_bad_link m1 seg (sp - 2 + 2 + r 15)) (sp - 2) None))) (good_frame bytes even four most)
      ∙ ap (λ (k : ℕ). wild_where (nat_lt (segment_top seg) (k + 2)) (sp - 2)
      (wild_where (is_bad_link m1 seg k) (sp - 2) None)) at_end
      ∙ ap (λ (b : Bool). wild_where b (sp - 2) (wild_where (is_bad_link m1 seg end) (sp - 2) None)) over
      ∙ ap (λ (b : Bool). wild_where b (sp - 2) None) link

  -- what leave does where the frame ends here, by the registers behind the call
  pub leave_does : (r m : ℕ → ℕ) (bytes end : ℕ) (b : Bool) → r 1 ≡ sp → r 15 ≡ bytes → sp + bytes ≡ end → is_linked seg end ≡ b
      → leave_effect (behind r) m seg (r 1 + r 15) ≡ (if b then mark (returned (behind r) m (m end)) (seg - 1) [] else record
      (mark (returned (behind r) m end) seg []) { ends = nat_eq seg 0 && nat_eq end 0x20FE })
  leave_does r m bytes end b e is ends k =
      let at_end : r 1 + r 15 ≡ end = omega (arith, is, ends, e) in
      ap (λ (x : ℕ). leave_effect (behind r) m seg x) at_end
      ∙ ap (λ (t : Bool). if t then mark (returned (behind r) m (m end)) (seg - 1) [] else record
      (mark (returned (behind r) m end) seg []) { ends = nat_eq seg 0 && nat_eq end 0x20FE }) k

  -- The frame is left, and the function's return word goes to PC. The outermost main is the one whose return word stands
  -- at the top of segment 0; leaving it ends the run.
  pub leaves : (r m : ℕ → ℕ) (st : Bytes) (x : Course) (q : Meter) (bytes end ret : ℕ) (outermost : Bool)
      → Facts c lo hi f m st → AreWords r → Here c lo hi (r 0) (One Call false (Immediate 65284)) → r 1 ≡ sp → r 15 ≡ bytes
      → bytes % 2 ≡ 0 → 4 ≤ bytes → bytes ≤ 240
      → sp + bytes ≡ end → end + 2 ≤ segment_top seg → is_linked seg end ≡ false
      → (nat_eq seg 0 && nat_eq end 0x20FE) ≡ outermost → f end ≡ Some (Word (Some ret))
      → Comes c lo hi (at seg ps r m st x q) (ending outermost) seg ps
      (set_reg (set_reg (behind r) 0 ret) 1 (end + 2)) (with_mark x) (dropped seg (end + 2) f)
  leaves r m st x q bytes end ret outermost h wr here e is even four most ends below no_link outer cell =
      let base = g.base in let last = g.last in
      let t : Ideal = reached 2 seg sp ps r m st x q in
      let m1 : ℕ → ℕ = put m (sp - 2) (r 0 + 4) in
      let r2 : ℕ → ℕ = set_reg (set_reg (behind r) 0 ret) 1 (end + 2) in
      let small = small_return c lo hi seg sp ps g f s r 65284 here in
      let now = facts_reached c lo hi seg sp ps g f s 2 r m st x q small h in
      let there = now.stands end (Word (Some ret)) cell in
      let at_end : sp - 2 + 2 + r 15 ≡ end = omega (arith, is, ends) in
      let bad : is_bad_link m1 seg end ≡ false = ap (λ (b : Bool). b && not (is_link seg (m1 end))) no_link in
      let used : IsWithin (uses_at 2 (reached_regs 2 sp r) m1 seg) t.settled =
      λ b k. elim (or-true (is_in_word (sp - 2 + 2 + r 15) b) _ k) [
        | inl y ↦ of_word (λ (a : ℕ). t.settled a ≡ true) end b there.1 there.2
            (subst (λ (a : ℕ). is_in_word a b ≡ true) at_end y)
        | inr y ↦ unlinked_use (is_linked seg end) (is_in_word (m1 end) b)
            (subst (λ (a : ℕ). (is_linked seg a && is_in_word (m1 a) b) ≡ true) at_end y) no_link
      ] in
      comes_marked c lo hi seg sp ps g Leave 2 f (dropped seg (end + 2) f) r m st x q seg ps r2 [] false outermost
      (with_mark x) (stays seg sp ps) (quiet_course 2 seg sp ps r m st x q seg r2 false outermost) refl (omega arith) h here e
      (refusal_is c lo hi seg sp ps g Leave 2 r m st x q None e
      (leave_free r m x.block bytes end is even four most ends below bad) refl) refl
      (ap (λ (k : ℕ → ℕ). leave_effect k m1 seg (k 1 + k 15)) (popped_is 2 sp r m e (omega arith))
      ∙ leave_does r m1 bytes end false e is ends no_link
      ∙ ap (λ (w : ℕ). record (mark (set_reg (set_reg (behind r) 0 w) 1 (end + 2)) seg [])
      { ends = nat_eq seg 0 && nat_eq end 0x20FE }) there.0
      ∙ ap (λ (b : Bool). record (mark r2 seg []) { ends = b }) outer)
      used
      (facts_dropped c lo hi seg sp (end + 2) ps f (stores_bytes []) m1 (settled_old t (marked r2 seg [] false outermost)) s
      (facts_back c lo hi seg sp ps g f s 2 r m st x q (marked r2 seg [] false outermost) refl small h))
      (words_set (set_reg (behind r) 0 ret) 1 (end + 2) (omega arith)
      (words_set (behind r) 0 ret (word_small c lo hi f m st end ret cell h)
      (behind_words c lo hi seg sp ps g f s r 65284 here wr)))
    where
      never : {A : Type 0} → false ≡ true → A
      never k = absurd (differ k)
        where
          differ : false ≡ true → ⊥
          differ j = cc

      unlinked_use : {A : Type 0} (y z : Bool) → (y && z) ≡ true → y ≡ false → A
      unlinked_use y z k n = never (sym n ∙ and-left y z k)

-- no frame of segment 0 has a link word behind it
pub no_link_below : (seg end : ℕ) → seg ≡ 0 → is_linked seg end ≡ false
no_link_below seg end e = ap (λ (k : ℕ). is_linked k end) e

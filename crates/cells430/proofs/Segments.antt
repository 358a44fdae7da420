-- enter into the next segment, and leave into the one below.
use Rattle.std.proofs.Common.{◌≡◌, ◌≢◌, ℕ, ◌+◌, ◌-◌, ◌%◌, ◌<◌, ◌≤◌, refl, ap, ◌∙◌, subst, arith, Bool, true, false, not, ◌&&◌, ◌||◌, inl, inr, List, [], ◌∷◌, Option, Some, None, if◌then◌else◌}
use Rattle.std.proofs.lemmas.Bool.{ne_eqb, eq-eqb, lt-ltb, lt-leb}
use Rattle.std.proofs.lemmas.Bool.Decides.{nat_tests}
use Rattle.std.specs.Prelude.{nat_eq, nat_lt, nat_le}
use Rattle.base16.specs.Board.{stack_end, segment_start, segment_top, segment_count, code_start}
use Rattle.base16.specs.Memory.{put}
use Rattle.base16.specs.declared.reading.Reading.{Reading}
use Rattle.base16.specs.declared.end.EndKind.TheVariants.{StackFull}
use Rattle.isa430.specs.declared.instr.OneOp.TheVariants.{Call}
use Rattle.isa430.specs.declared.instr.Src.TheVariants.{Immediate}
use Rattle.isa430.specs.declared.instr.Instr.TheVariants.{One}
use Rattle.core430.specs.Registers.{set_reg}
use Rattle.core430.specs.Uses.{AreWords, IsWithin}
use Rattle.core430.proofs.Truths.{and-both, and-right, or-true, or-left}
use Rattle.run430.specs.Code.{Here}
use Rattle.ideal430.specs.Places.{is_in_word, segment_of}
use Rattle.ideal430.specs.Service.{has_stack, has_place, is_linked, is_bad_link, is_link, mark, link_address, enter_effect, returned, leave_effect}
use Rattle.ideal430.specs.Settled.{Bytes, stores_bytes, settled_after}
use Rattle.ideal430.specs.Ideal.{Ideal, Meter, settled_old}
use Rattle.ideal430.specs.Uses.{uses_at}
use Rattle.ideal430.specs.declared.service.Service.TheVariants.{Enter, Leave}
use Rattle.ideal430.specs.declared.service.Store.{Store}
use Rattle.ideal430.specs.declared.service.Store.TheVariants.{Link}
use Rattle.ideal430.specs.declared.state.IdealEnd.TheVariants.{Running}
use Rattle.cells430.specs.Cells.{Cell, Word, Byte, Cells, set_cell, Live, OfOutput, OfData, OfFrame, OfOlder, Fits, Shape, Facts, unlinked}
use Rattle.cells430.specs.Stretch.{with_mark, reached_regs, behind, Course, outside, at, Ground, Comes}
use Rattle.cells430.proofs.Settling.{in_segment, settle-fixed, settle-kept, settle-new}
use Rattle.cells430.proofs.Cells.{shape_put, facts_more, facts_settle, facts_fewer, facts_set, word_small}
use Rattle.cells430.proofs.Lift.{first_byte, last_byte}
use Rattle.cells430.proofs.Calls.{of_word, words_set}
use Rattle.cells430.proofs.Services.{quiet_course, reached, popped_is, marked, refusal_is, return_settled, facts_reached, facts_back, comes_marked, behind_words, small_return}
use Rattle.cells430.proofs.Frames.{enter_free, placed, enter_does, leave_free, leave_does}

-- ---- the next segment works

module _ (seg sp : ℕ) (ps : ℕ → ℕ) (last : seg < 31) where
  -- what was live stays so
  pub live_up : (sp2 b : ℕ) → Live seg sp ps b → Live (seg + 1) sp2 (set_reg ps seg sp) b
  live_up sp2 b (OfOutput l k) = OfOutput l k
  live_up sp2 b (OfData l k) = OfData l k
  live_up sp2 b (OfFrame l k t m) =
      let is : segment_of b ≡ seg = omega arith in
      let here : set_reg ps seg sp (segment_of b) ≡ sp = ap (λ (x : Bool). if x then sp else ps (segment_of b))
      (eq-eqb (segment_of b) seg is) in
      OfOlder (omega arith) (omega arith) (omega arith) (omega (arith, here))
  live_up sp2 b (OfOlder l k t m) =
      let other : segment_of b ≢ seg = omega arith in
      let there : set_reg ps seg sp (segment_of b) ≡ ps (segment_of b) =
      ap (λ (x : Bool). if x then sp else ps (segment_of b)) (ne_eqb (segment_of b) seg other) in
      OfOlder l (omega arith) (omega arith) (omega (arith, there))

  pub shape_up : (sp2 : ℕ) (f : Cells) → Shape seg sp ps f → Shape (seg + 1) sp2 (set_reg ps seg sp) f
  shape_up sp2 f s = record { live = λ b x e. live_up sp2 b (s.live b x e); fits = s.fits }

  -- no cell lies in the segments above
  pub none_above : (f : Cells) → Shape seg sp ps f → (b : ℕ) → segment_top seg ≤ b → b < stack_end → f b ≡ None
  none_above f s b l h = from (f b) refl
    where
      never : Live seg sp ps b → ⊥
      never (OfOutput p q) = omega arith
      never (OfData p q) = omega arith
      never (OfFrame p q r t) = omega arith
      never (OfOlder p q r t) = omega arith

      from : (o : Option Cell) → f b ≡ o → f b ≡ None
      from None e = e
      from (Some x) e = absurd (never (s.live b x e))

  module _ (f : Cells) (s : Shape seg sp ps f) (bytes : ℕ) (few : bytes ≤ 240) where
    link_live : Live (seg + 1) (link_address seg - bytes) (set_reg ps seg sp) (link_address seg)
    link_live = OfFrame (omega arith) (omega arith) (omega arith) (omega arith)

    link_next : Live (seg + 1) (link_address seg - bytes) (set_reg ps seg sp) (link_address seg + 1)
    link_next = OfFrame (omega arith) (omega arith) (omega arith) (omega arith)

    -- the link word is a cell at the top of the segment
    pub linked_shape : (v : Option ℕ) → Shape (seg + 1) (link_address seg - bytes) (set_reg ps seg sp)
        (set_cell f (link_address seg) (Word v))
    linked_shape v =
        shape_put (seg + 1) (link_address seg - bytes) (set_reg ps seg sp) f (shape_up (link_address seg - bytes) f s)
        (link_address seg) (Word v) link_live
        (omega arith, none_above f s (link_address seg + 1) (omega arith) (omega arith))
        (λ b y e k. let even = (s.fits b (Word y) e).0 in omega arith)

    pub linked_facts : (c : ℕ → ℕ) (lo hi : ℕ) (w : Bytes) (m : ℕ → ℕ) (st : Bytes) (v : ℕ) → code_start ≤ lo → v < 65536
        → w (link_address seg) ≡ true → w (link_address seg + 1) ≡ true → Facts c lo hi f m st
        → Facts c lo hi (set_cell f (link_address seg) (Word (Some v))) (put m (link_address seg) v)
        (settled_after (seg + 1) (link_address seg - bytes) (set_reg ps seg sp) w st)
    linked_facts c lo hi w m st v low small w1 w2 h =
        let st2 : Bytes = settled_after (seg + 1) (link_address seg - bytes) (set_reg ps seg sp) w st in
        facts_set c lo hi f m st2 (link_address seg) v (omega arith) (omega arith)
        (none_above f s (link_address seg + 1) (omega arith) (omega arith))
        (settle-new (seg + 1) (link_address seg - bytes) (set_reg ps seg sp) w st (link_address seg) link_live w1)
        (settle-new (seg + 1) (link_address seg - bytes) (set_reg ps seg sp) w st (link_address seg + 1) link_next w2) small
        (facts_more c lo hi f seg sp ps s m st st2
        (λ b l e. settle-kept (seg + 1) (link_address seg - bytes) (set_reg ps seg sp) w st b
        (live_up (link_address seg - bytes) b l) e)
        (λ b e. settle-fixed (seg + 1) (link_address seg - bytes) (set_reg ps seg sp) w st b e) h)

module _ (c : ℕ → ℕ) (lo hi seg sp : ℕ) (ps : ℕ → ℕ) (g : Ground lo hi seg sp) (f : Cells) (s : Shape seg sp ps f) where
  -- a frame that does not fit goes to the next segment, below the link word
  pub enters_next : (r m : ℕ → ℕ) (st : Bytes) (marks : ℕ) (left : List Reading) (q : Meter) (bytes : ℕ) → Facts c lo hi f m st
      → AreWords r → Here c lo hi (r 0) (One Call false (Immediate 65282)) → r 1 ≡ sp → r 15 ≡ bytes → bytes % 2 ≡ 0
      → 4 ≤ bytes → bytes ≤ 240
      → sp < segment_start seg + bytes + 4 → sp < segment_top seg → seg < 31
      → Comes c lo hi (at seg ps r m st (outside marks left) q) Running (seg + 1) (set_reg ps seg sp)
      (set_reg (behind r) 1 (link_address seg - bytes)) (outside (marks + 1) left)
      (set_cell f (link_address seg) (Word (Some sp)))
  enters_next r m st marks left q bytes h wr here e is even four most full below next =
      let base = g.base in let last = g.last in
      let x : Course = outside marks left in
      let m1 : ℕ → ℕ = put m (sp - 2) (r 0 + 4) in
      let r2 : ℕ → ℕ = set_reg (behind r) 1 (link_address seg - bytes) in
      let stores : List Store = Link (link_address seg) sp ∷ [] in
      let small = small_return c lo hi seg sp ps g f s r 65282 here in
      let place : has_place seg sp bytes ≡ false = lt-leb (segment_start seg + bytes + 4) sp full in
      let apart : seg ≢ 31 = omega arith in
      let up : sp - 2 + 2 ≡ sp = omega arith in
      let moves : (if nat_lt seg (seg + 1) then set_reg ps seg (sp - 2 + 2) else ps) ≡ set_reg ps seg sp =
      ap (λ (b : Bool). if b then set_reg ps seg (sp - 2 + 2) else ps) (lt-ltb seg (seg + 1) (omega arith))
      ∙ ap (set_reg ps seg) up in
      comes_marked c lo hi seg sp ps g Enter 1 f (set_cell f (link_address seg) (Word (Some sp))) r m st x q (seg + 1)
      (set_reg ps seg sp) r2 stores false false (outside (marks + 1) left) moves refl refl (omega arith) h here e
      (refusal_is c lo hi seg sp ps g Enter 1 r m st x q None e
      (enter_free c lo hi seg sp ps g f s r m None bytes is even four most below)
      (ap (λ (b : Bool). if b || not (nat_eq seg (segment_count - 1)) then None else Some StackFull)
      (placed c lo hi seg sp ps g f s r bytes false e is place)
      ∙ ap (λ (b : Bool). if not b then None else Some StackFull) (ne_eqb seg 31 apart))) refl
      (ap (λ (k : ℕ → ℕ). enter_effect k seg) (popped_is 1 sp r m e (omega arith))
      ∙ enter_does c lo hi seg sp ps g f s r m bytes false e is place)
      (return_settled c lo hi seg sp ps g 1 f r m st x q h here e)
      (linked_facts seg sp ps next f s bytes most c lo hi (stores_bytes stores) m1
      (settled_old (reached 1 seg sp ps r m st x q) (marked r2 (seg + 1) stores false false)) sp g.low (omega arith)
      (or-left _ _ (first_byte (link_address seg))) (or-left _ _ (last_byte (link_address seg)))
      (facts_back c lo hi seg sp ps g f s 1 r m st x q (marked r2 (seg + 1) stores false false) refl small h))
      (words_set (behind r) 1 (link_address seg - bytes) (omega arith) (behind_words c lo hi seg sp ps g f s r 65282 here wr))

-- ---- the segment below works

gone_cell : (s1 sp b : ℕ) (f : Cells) (x : Cell) → unlinked s1 sp f b ≡ Some x
    → (f b ≡ Some x) × (segment_start s1 ≤ b → sp ≤ b) × (b < stack_end → b < segment_top s1)
gone_cell s1 sp b f x e = from ((nat_le (segment_start s1) b && nat_lt b sp) ||
    (nat_le (segment_top s1) b && nat_lt b stack_end)) refl e
  where
    none : None ≡ Some x → ⊥
    none k = cc

    above : ((nat_le (segment_start s1) b && nat_lt b sp) || (nat_le (segment_top s1) b && nat_lt b stack_end)) ≡ false
        → segment_start s1 ≤ b → sp ≤ b
    above k l = grind (arith, nat_tests)

    under : ((nat_le (segment_start s1) b && nat_lt b sp) || (nat_le (segment_top s1) b && nat_lt b stack_end)) ≡ false
        → b < stack_end → b < segment_top s1
    under k l = grind (arith, nat_tests)

    from : (t : Bool) → ((nat_le (segment_start s1) b && nat_lt b sp) || (nat_le (segment_top s1) b && nat_lt b stack_end)) ≡ t
        → (if t then None else f b) ≡ Some x → (f b ≡ Some x) × (segment_start s1 ≤ b → sp ≤ b) ×
        (b < stack_end → b < segment_top s1)
    from true k h = absurd (none h)
    from false k h = (h, above k, under k)

-- what is left live
live_down : (s1 sp sp2 : ℕ) (ps : ℕ → ℕ) (b : ℕ) → segment_top s1 ≤ stack_end → (segment_start s1 ≤ b → sp2 ≤ b)
    → (b < stack_end → b < segment_top s1) → Live (s1 + 1) sp ps b → Live s1 sp2 ps b
live_down s1 sp sp2 ps b top up under (OfOutput l k) = OfOutput l k
live_down s1 sp sp2 ps b top up under (OfData l k) = OfData l k
live_down s1 sp sp2 ps b top up under (OfFrame l k t m) = absurd (let u = under (omega arith) in omega arith)
live_down s1 sp sp2 ps b top up under (OfOlder l k t m) = from (nat_le (segment_start s1) b) refl
  where
    inside : nat_le (segment_start s1) b ≡ true → segment_start s1 ≤ b
    inside e = grind (arith, nat_tests)

    lower : nat_le (segment_start s1) b ≡ false → b < segment_start s1
    lower e = grind (arith, nat_tests)

    from : (x : Bool) → nat_le (segment_start s1) b ≡ x → Live s1 sp2 ps b
    from true e = let i = inside e in OfFrame i (omega arith) top (up i)
    from false e = let o = lower e in OfOlder l o (omega arith) m

gone_fits : (s1 sp b : ℕ) (f : Cells) (x : Cell) → Fits f b x → Fits (unlinked s1 sp f) b x
gone_fits s1 sp b f (Word v) h = (
  h.0,
  none ((nat_le (segment_start s1) (b + 1) && nat_lt (b + 1) sp) ||
      (nat_le (segment_top s1) (b + 1) && nat_lt (b + 1) stack_end)),
)
  where
    none : (t : Bool) → (if t then None else f (b + 1)) ≡ None
    none true = refl
    none false = h.1
gone_fits s1 sp b f (Byte v) h = tt

pub shape_unlinked : (s1 sp sp2 : ℕ) (ps : ℕ → ℕ) (f : Cells) → segment_top s1 ≤ stack_end → Shape (s1 + 1) sp ps f
    → Shape s1 sp2 ps (unlinked s1 sp2 f)
shape_unlinked s1 sp sp2 ps f top h = record {
  live = λ b x e. let k = gone_cell s1 sp2 b f x e in live_down s1 sp sp2 ps b top k.1 k.2 (h.live b x k.0);
  fits = λ b x e. let k = gone_cell s1 sp2 b f x e in gone_fits s1 sp2 b f x (h.fits b x k.0);
}

pub facts_unlinked : (c : ℕ → ℕ) (lo hi s1 sp sp2 : ℕ) (ps : ℕ → ℕ) (f : Cells) (w : Bytes) (m : ℕ → ℕ) (st : Bytes)
    → segment_top s1 ≤ stack_end → Shape (s1 + 1) sp ps f → Facts c lo hi f m st
    → Facts c lo hi (unlinked s1 sp2 f) m (settled_after s1 sp2 ps w st)
facts_unlinked c lo hi s1 sp sp2 ps f w m st top s h =
    facts_settle c lo hi (unlinked s1 sp2 f) s1 sp2 ps (shape_unlinked s1 sp sp2 ps f top s) sp2 w m st (omega arith)
    (facts_fewer c lo hi f (unlinked s1 sp2 f) m st (λ b x e. (gone_cell s1 sp2 b f x e).0) h)

module _ (c : ℕ → ℕ) (lo hi s1 sp : ℕ) (ps : ℕ → ℕ) (g : Ground lo hi (s1 + 1) sp) (f : Cells)
    (s : Shape (s1 + 1) sp ps f) where
  -- the frame that ends below the link word is left, and with it its segment: the link word says where the return word is
  pub leaves_link : (r m : ℕ → ℕ) (st : Bytes) (x : Course) (q : Meter) (bytes end p ret : ℕ)
      → Facts c lo hi f m st → AreWords r → Here c lo hi (r 0) (One Call false (Immediate 65284)) → r 1 ≡ sp → r 15 ≡ bytes
      → bytes % 2 ≡ 0 → 4 ≤ bytes → bytes ≤ 240
      → sp + bytes ≡ end → end + 2 ≡ segment_top (s1 + 1) → f end ≡ Some (Word (Some p)) → segment_start s1 ≤ p
      → p < segment_top s1 → f p ≡ Some (Word (Some ret))
      → Comes c lo hi (at (s1 + 1) ps r m st x q) Running s1 ps
      (set_reg (set_reg (behind r) 0 ret) 1 (p + 2)) (with_mark x) (unlinked s1 (p + 2) f)
  leaves_link r m st x q bytes end p ret h wr here e is even four most ends top_end link_cell low_p high_p ret_cell =
      let base = g.base in let last = g.last in
      let t : Ideal = reached 2 (s1 + 1) sp ps r m st x q in
      let m1 : ℕ → ℕ = put m (sp - 2) (r 0 + 4) in
      let r2 : ℕ → ℕ = set_reg (set_reg (behind r) 0 ret) 1 (p + 2) in
      let small = small_return c lo hi (s1 + 1) sp ps g f s r 65284 here in
      let now = facts_reached c lo hi (s1 + 1) sp ps g f s 2 r m st x q small h in
      let link_there = now.stands end (Word (Some p)) link_cell in
      let ret_there = now.stands p (Word (Some ret)) ret_cell in
      let even_p = (s.fits p (Word (Some ret)) ret_cell).0 in
      let down : s1 + 1 - 1 ≡ s1 = omega arith in
      let at_end : sp - 2 + 2 + r 15 ≡ end = omega (arith, is, ends) in
      let linked : is_linked (s1 + 1) end ≡ true = and-both (lt-ltb 0 (s1 + 1) (omega arith))
      (eq-eqb (end + 2) (segment_top (s1 + 1)) top_end) in
      let link_good : has_stack s1 p ≡ true = and-both (eq-eqb (p % 2) 0 even_p) (in_segment s1 p low_p high_p) in
      let bad : is_bad_link m1 (s1 + 1) end ≡ false =
      ap (λ (b : Bool). b && not (is_link (s1 + 1) (m1 end))) linked
      ∙ ap (λ (k : ℕ). not (has_stack (s1 + 1 - 1) k)) link_there.0
      ∙ ap (λ (k : ℕ). not (has_stack k p)) down
      ∙ ap not link_good in
      let no_more : nat_lt (s1 + 1) s1 ≡ false = grind (arith, nat_tests) in
      let moves : (if nat_lt (s1 + 1) s1 then set_reg ps (s1 + 1) (sp - 2 + 2) else ps) ≡ ps =
      ap (λ (b : Bool). if b then set_reg ps (s1 + 1) (sp - 2 + 2) else ps) no_more in
      let used : IsWithin (uses_at 2 (reached_regs 2 sp r) m1 (s1 + 1)) t.settled =
      λ b k. elim (or-true (is_in_word (sp - 2 + 2 + r 15) b) _ k) [
        | inl y ↦ of_word (λ (a : ℕ). t.settled a ≡ true) end b link_there.1 link_there.2
            (subst (λ (a : ℕ). is_in_word a b ≡ true) at_end y)
        | inr y ↦ of_word (λ (a : ℕ). t.settled a ≡ true) p b ret_there.1 ret_there.2
            (subst (λ (a : ℕ). is_in_word a b ≡ true) (ap m1 at_end ∙ link_there.0)
            (and-right (is_linked (s1 + 1) (sp - 2 + 2 + r 15)) _ y))
      ] in
      comes_marked c lo hi (s1 + 1) sp ps g Leave 2 f (unlinked s1 (p + 2) f) r m st x q s1 ps r2 [] false false
      (with_mark x) moves (quiet_course 2 (s1 + 1) sp ps r m st x q s1 r2 false false) refl (omega arith) h here e
      (refusal_is c lo hi (s1 + 1) sp ps g Leave 2 r m st x q None e
      (leave_free c lo hi (s1 + 1) sp ps g f s r m x.block bytes end is even four most ends (omega arith) bad) refl) refl
      (ap (λ (k : ℕ → ℕ). leave_effect k m1 (s1 + 1) (k 1 + k 15)) (popped_is 2 sp r m e (omega arith))
      ∙ leave_does c lo hi (s1 + 1) sp ps g f s r m1 bytes end true e is ends linked
      ∙ ap (λ (k : ℕ). mark (returned (behind r) m1 k) (s1 + 1 - 1) []) link_there.0
      ∙ ap (λ (k : ℕ). mark (returned (behind r) m1 p) k []) down
      ∙ ap (λ (w : ℕ). mark (set_reg (set_reg (behind r) 0 w) 1 (p + 2)) s1 []) ret_there.0)
      used
      (facts_unlinked c lo hi s1 sp (p + 2) ps f (stores_bytes []) m1 (settled_old t (marked r2 s1 [] false false))
      (omega arith) s (facts_back c lo hi (s1 + 1) sp ps g f s 2 r m st x q (marked r2 s1 [] false false) refl small h))
      (words_set (set_reg (behind r) 0 ret) 1 (p + 2) (omega arith)
      (words_set (behind r) 0 ret (word_small c lo hi f m st p ret ret_cell h)
      (behind_words c lo hi (s1 + 1) sp ps g f s r 65284 here wr)))

-- Outputs: the service that appends a word, and the end of the run where there is no place for one.
use Rattle.std.proofs.Common.{◌≡◌, ◌≢◌, ℕ, ◌+◌, ◌-◌, ◌*◌, ◌<◌, ◌≤◌, refl, ap, ◌∙◌, arith, Bool, true, false, inl, inr, List, Option, Some, None, if◌then◌else◌}
use Rattle.std.proofs.lemmas.Bool.{lt-ltb}
use Rattle.std.specs.Prelude.{nat_lt, min}
use Rattle.base16.specs.Board.{outputs_start, most_outputs}
use Rattle.base16.specs.Memory.{put}
use Rattle.base16.specs.declared.reading.Reading.{Reading}
use Rattle.base16.specs.declared.end.EndKind.TheVariants.{OutputFull}
use Rattle.isa430.specs.declared.instr.OneOp.TheVariants.{Call}
use Rattle.isa430.specs.declared.instr.Src.TheVariants.{Immediate}
use Rattle.isa430.specs.declared.instr.Instr.TheVariants.{One}
use Rattle.core430.specs.Uses.{AreWords, IsWithin}
use Rattle.core430.proofs.Truths.{or-true, or-left, or-right}
use Rattle.run430.specs.Code.{Here}
use Rattle.ideal430.specs.Places.{is_in_word}
use Rattle.ideal430.specs.Service.{full_block, outputs_of, mark, emit_stores}
use Rattle.ideal430.specs.Settled.{Bytes, stores_bytes, settled_after}
use Rattle.ideal430.specs.Ideal.{Ideal, Meter, settled_old}
use Rattle.ideal430.specs.Uses.{uses_at}
use Rattle.ideal430.specs.declared.service.Service.TheVariants.{Emit}
use Rattle.ideal430.specs.declared.service.Store.{Store}
use Rattle.ideal430.specs.declared.state.IdealEnd.TheVariants.{Running, Ended}
use Rattle.ideal430.proofs.Serving.{served-refused}
use Rattle.cells430.specs.Cells.{Word, Cells, set_cell, Shape, Facts}
use Rattle.cells430.specs.Stretch.{reached_regs, behind, Course, outside, at, Ground, Comes}
use Rattle.cells430.proofs.Settling.{settle-new}
use Rattle.cells430.proofs.Cells.{set_cell-other, live_lower, live_next, live_below, facts_settle, facts_set}
use Rattle.cells430.proofs.Lift.{first_byte, last_byte}
use Rattle.cells430.proofs.Calls.{of_word}
use Rattle.cells430.proofs.Services.{reached, popped_is, marked, stays, refusal_is, calls_service, return_settled, facts_reached, facts_back, comes_marked, behind_words, small_return, reached_words}

fewer : (n : ℕ) → n < 256 → min n most_outputs ≡ n
fewer n l = omega arith

module _ (c : ℕ → ℕ) (lo hi seg sp : ℕ) (ps : ℕ → ℕ) (g : Ground lo hi seg sp) (f : Cells) (s : Shape seg sp ps f) where
  -- emit uses its return word and the length of the outputs
  emit_used : (r m : ℕ → ℕ) (st : Bytes) (x : Course) (q : Meter) (n : ℕ) → Facts c lo hi f m st
      → Here c lo hi (r 0) (One Call false (Immediate 65298)) → r 1 ≡ sp → f outputs_start ≡ Some (Word (Some n))
      → IsWithin (uses_at 9 (reached_regs 9 sp r) (put m (sp - 2) (r 0 + 4)) seg) (reached 9 seg sp ps r m st x q).settled
  emit_used r m st x q n h here e length b k =
      let t : Ideal = reached 9 seg sp ps r m st x q in
      let there = (facts_reached c lo hi seg sp ps g f s 9 r m st x q
      (small_return c lo hi seg sp ps g f s r 65298 here) h).stands outputs_start (Word (Some n)) length in
      elim (or-true (is_in_word (sp - 2) b) _ k) [
        | inl y ↦ return_settled c lo hi seg sp ps g 9 f r m st x q h here e b y
        | inr y ↦ of_word (λ (a : ℕ). t.settled a ≡ true) outputs_start b there.1 there.2 y
      ]

  length_now : (r m : ℕ → ℕ) (st : Bytes) (x : Course) (q : Meter) (n : ℕ) → Facts c lo hi f m st
      → Here c lo hi (r 0) (One Call false (Immediate 65298)) → f outputs_start ≡ Some (Word (Some n))
      → put m (sp - 2) (r 0 + 4) outputs_start ≡ n
  length_now r m st x q n h here length =
      ((facts_reached c lo hi seg sp ps g f s 9 r m st x q (small_return c lo hi seg sp ps g f s r 65298 here) h).stands
      outputs_start (Word (Some n)) length).0

  -- the word in R13 is the next output, and there is one more
  pub emits : (r m : ℕ → ℕ) (st : Bytes) (marks : ℕ) (left : List Reading) (q : Meter) (n : ℕ) (old : Option ℕ)
      → Facts c lo hi f m st → AreWords r → Here c lo hi (r 0) (One Call false (Immediate 65298)) → r 1 ≡ sp
      → f outputs_start ≡ Some (Word (Some n)) → n < 256
      → f (outputs_start + 2 + 2 * n) ≡ Some (Word old)
      → Comes c lo hi (at seg ps r m st (outside marks left) q) Running seg ps (behind r) (outside (marks + 1) left)
      (set_cell (set_cell f (outputs_start + 2 + 2 * n) (Word (Some (r 13)))) outputs_start (Word (Some (n + 1))))
  emits r m st marks left q n old h wr here e length room cell =
      let base = g.base in
      let low = g.low in
      let a : ℕ = outputs_start + 2 + 2 * n in
      let m1 : ℕ → ℕ = put m (sp - 2) (r 0 + 4) in
      let stores : List Store = emit_stores n (r 13) in
      let w : Bytes = stores_bytes stores in
      let x : Course = outside marks left in
      let small = small_return c lo hi seg sp ps g f s r 65298 here in
      let before : Bytes = settled_old (reached 9 seg sp ps r m st x q) (marked (behind r) seg stores false false) in
      let st2 : Bytes = settled_after seg (r 1) ps w before in
      let down : r 1 ≤ sp = omega (arith, e) in
      let live1 = live_lower seg sp (r 1) ps a down (s.live a (Word old) cell) in
      let live2 = live_lower seg sp (r 1) ps outputs_start down (s.live outputs_start (Word (Some n)) length) in
      let fit = s.fits a (Word old) cell in
      let none = (s.fits outputs_start (Word (Some n)) length).1 in
      let under = live_below seg (r 1) ps a live1 in
      let count : outputs_of m1 ≡ n = ap (λ (k : ℕ). min k most_outputs) (length_now r m st x q n h here length)
      ∙ fewer n room in
      let back = facts_settle c lo hi f seg sp ps s (r 1) w m1 before down
      (facts_back c lo hi seg sp ps g f s 9 r m st x q (marked (behind r) seg stores false false) refl small h) in
      let one : Facts c lo hi (set_cell f a (Word (Some (r 13)))) (put m1 a (r 13)) st2 =
      facts_set c lo hi f m1 st2 a (r 13) fit.0 (omega arith) fit.1
      (settle-new seg (r 1) ps w before a live1 (or-left _ _ (first_byte a)))
      (settle-new seg (r 1) ps w before (a + 1) (live_next seg (r 1) ps a fit.0 live1) (or-left _ _ (last_byte a)))
      (wr 13) back in
      let apart : outputs_start + 1 ≢ a = omega (arith, fit.0) in
      comes_marked c lo hi seg sp ps g Emit 9 f (set_cell (set_cell f a (Word (Some (r 13)))) outputs_start
      (Word (Some (n + 1)))) r m st x q seg ps (behind r) stores false false (outside (marks + 1) left)
      (stays seg sp ps) refl refl (omega arith) h here e
      (refusal_is c lo hi seg sp ps g Emit 9 r m st x q None e refl
      (ap (λ (k : ℕ). if nat_lt k most_outputs then None else Some OutputFull) count
      ∙ ap (λ (b : Bool). if b then None else Some OutputFull) (lt-ltb n most_outputs room))) refl
      (ap (λ (k : ℕ → ℕ). mark k seg (emit_stores (outputs_of m1) (k 13))) (popped_is 9 sp r m e (omega arith))
      ∙ ap (λ (k : ℕ). mark (behind r) seg (emit_stores k (r 13))) count)
      (emit_used r m st x q n h here e length)
      (facts_set c lo hi (set_cell f a (Word (Some (r 13)))) (put m1 a (r 13)) st2 outputs_start (n + 1) refl (omega arith)
      (set_cell-other f a (outputs_start + 1) (Word (Some (r 13))) apart ∙ none)
      (settle-new seg (r 1) ps w before outputs_start live2 (or-right _ _ (or-left _ false (first_byte outputs_start))))
      (settle-new seg (r 1) ps w before (outputs_start + 1) (live_next seg (r 1) ps outputs_start refl live2)
      (or-right _ _ (or-left _ false (last_byte outputs_start)))) (omega arith) one)
      (behind_words c lo hi seg sp ps g f s r 65298 here wr)

  -- and with 256 outputs there the run ends
  pub emit_full : (r m : ℕ → ℕ) (st : Bytes) (x : Course) (q : Meter) → Facts c lo hi f m st → AreWords r
      → Here c lo hi (r 0) (One Call false (Immediate 65298)) → r 1 ≡ sp → f outputs_start ≡ Some (Word (Some 256))
      → Comes c lo hi (at seg ps r m st x q) (Ended OutputFull) seg ps (reached_regs 9 sp r)
      x f
  emit_full r m st x q h wr here e length =
      let t : Ideal = reached 9 seg sp ps r m st x q in
      let m1 : ℕ → ℕ = put m (sp - 2) (r 0 + 4) in
      let count : outputs_of m1 ≡ 256 = ap (λ (k : ℕ). min k most_outputs) (length_now r m st x q 256 h here length) in
      record {
        memory = m1;
        settled = t.settled;
        meter = t.meter;
        step = calls_service c lo hi seg sp ps g 9 f r m st x q _ (omega arith) h here e
            (emit_used r m st x q 256 h here e length)
            (served-refused 9 t Emit OutputFull refl (refusal_is c lo hi seg sp ps g Emit 9 r m st x q (Some OutputFull) e refl
            (ap (λ (k : ℕ). if nat_lt k most_outputs then full_block x.block 2 else Some OutputFull) count)));
        facts = facts_reached c lo hi seg sp ps g f s 9 r m st x q (small_return c lo hi seg sp ps g f s r 65298 here) h;
        words = reached_words c lo hi seg sp ps g f s r 9 65298 here e (omega arith) wr;
      }

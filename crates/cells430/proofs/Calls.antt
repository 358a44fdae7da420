-- Calls of routines and functions: the return word becomes a cell below the stack pointer.
use Rattle.std.proofs.Common.{◌≡◌, ℕ, suc, ◌+◌, ◌-◌, ◌<◌, refl, sym, subst, arith, Bool, true, false, Option, Some, inl, inr}
use Rattle.std.proofs.lemmas.Bool.Decides.{nat_tests}
use Rattle.std.specs.Prelude.{nat_eq, if◌then◌else◌}
use Rattle.base16.specs.Memory.{put}
use Rattle.isa430.specs.declared.instr.OneOp.TheVariants.{Call}
use Rattle.isa430.specs.declared.instr.Src.TheVariants.{Immediate}
use Rattle.isa430.specs.declared.instr.Instr.TheVariants.{One}
use Rattle.core430.specs.declared.operand.Place.TheVariants.{InMemory, Given}
use Rattle.core430.specs.Registers.{set_reg}
use Rattle.core430.specs.Step.{State}
use Rattle.core430.specs.Uses.{AreWords, access_bytes, step_changes}
use Rattle.core430.proofs.Truths.{or-true}
use Rattle.run430.specs.Run.{StepTo, Covers}
use Rattle.run430.specs.Code.{Here}
use Rattle.run430.proofs.Words.{Agrees-self}
use Rattle.run430.proofs.Operands.{given}
use Rattle.run430.proofs.Stack.{lowered_is, call}
use Rattle.run430.proofs.Compose.{step-words}
use Rattle.ideal430.specs.Settled.{Bytes, settled_after}
use Rattle.ideal430.specs.Ideal.{Ideal, Meter, free, moved}
use Rattle.ideal430.specs.declared.state.IdealEnd.TheVariants.{Running}
use Rattle.cells430.specs.Cells.{Word, Cells, set_cell, Live, OfFrame, Shape, Facts}
use Rattle.cells430.specs.Stretch.{Course, at, Ground, Leads, Comes}
use Rattle.cells430.proofs.Settling.{in_segment, settle-new}
use Rattle.cells430.proofs.Cells.{shape_lower, shape_put, facts_settle, facts_set, none_below}
use Rattle.cells430.proofs.Lift.{IsSettled, InSegment, lift_next, one_step, leads_step, own, here_now, changes_are, first_byte, last_byte}

-- the bytes of a word
pub of_word : (P : ℕ → Type 0) (a b : ℕ) → P a → P (a + 1) → access_bytes false a b ≡ true → P b
of_word P a b h k e = elim (or-true (nat_eq b a) _ e) [
  | inl x ↦ subst P (sym (equal b a x)) h
  | inr x ↦ subst P
      (sym (equal b (a + 1) x)) k
]
  where
    equal : (x y : ℕ) → nat_eq x y ≡ true → x ≡ y
    equal x y q = grind (arith, nat_tests)

-- registers of 16 bits, when one is set
pub words_set : (r : ℕ → ℕ) (n v : ℕ) → v < 65536 → AreWords r → AreWords (set_reg r n v)
words_set r n v l h k = at_k (nat_eq k n)
  where
    at_k : (b : Bool) → (if b then v else r k) < 65536
    at_k true = l
    at_k false = h k

-- a step in a stretch
pub then_comes : (c : ℕ → ℕ) (lo hi n : ℕ) (t : Ideal) (seg : ℕ) (ps r : ℕ → ℕ) (x : Course) (f : Cells) (Q : Ideal → Type 0)
    → Comes c lo hi t Running seg ps r x f
    → ((m : ℕ → ℕ) (st : Bytes) (q : Meter) → Facts c lo hi f m st → AreWords r → Leads n (at seg ps r m st x q) Q)
    → Leads (suc n) t Q
then_comes c lo hi n t seg ps r x f Q h more =
    leads_step n t (at seg ps r h.memory h.settled x h.meter) Q h.step (more h.memory h.settled h.meter h.facts h.words)

module _ (c : ℕ → ℕ) (lo hi seg sp : ℕ) (ps : ℕ → ℕ) (g : Ground lo hi seg sp) where
  -- the word below the stack pointer is live once SP is there
  pub pushed_live : Live seg (sp - 2) ps (sp - 2)
  pushed_live = let base = g.base in let top = g.top in OfFrame (omega arith) (omega arith) g.last (omega arith)

  pub pushed_next : Live seg (sp - 2) ps (sp - 2 + 1)
  pushed_next = let base = g.base in let top = g.top in let even = g.even in
      OfFrame (omega arith) (omega arith) g.last (omega arith)

  pub pushed_within : Covers (InSegment seg) false (InMemory (sp - 2))
  pushed_within =
      let base = g.base in let top = g.top in let even = g.even in
      (in_segment seg (sp - 2) (omega arith) (omega arith), in_segment seg (sp - 2 + 1) (omega arith) (omega arith))

  -- the bytes that a call changes
  pub call_changes : (r m : ℕ → ℕ) (a b : ℕ) → Here m lo hi (r 0) (One Call false (Immediate a)) → r 1 ≡ sp
      → access_bytes false (sp - 2) b ≡ true → step_changes (record { regs = r; memory = m }) b ≡ true
  call_changes r m a b here e h =
      let base = g.base in let top = g.top in let last = g.last in
      changes_are lo hi r m (One Call false (Immediate a)) b here
      (subst (λ (k : ℕ). access_bytes false k b ≡ true) (sym (lowered_is e (omega arith) (omega arith))) h)

  -- and they are settled then
  pub pushed_settled : (r m : ℕ → ℕ) (st : Bytes) (a b : ℕ) → Here m lo hi (r 0) (One Call false (Immediate a)) → r 1 ≡ sp
      → access_bytes false (sp - 2) b ≡ true → settled_after seg (sp - 2) ps
      (step_changes (record { regs = r; memory = m })) st b ≡ true
  pushed_settled r m st a b here e h =
      settle-new seg (sp - 2) ps (step_changes (record { regs = r; memory = m })) st b
      (of_word (Live seg (sp - 2) ps) (sp - 2) b pushed_live pushed_next h)
      (call_changes r m a b here e h)

  module _ (f : Cells) (s : Shape seg sp ps f) where
    pub pushed_shape : (v : Option ℕ) → Shape seg (sp - 2) ps (set_cell f (sp - 2) (Word v))
    pushed_shape v =
        let base = g.base in let top = g.top in let even = g.even in
        shape_put seg (sp - 2) ps f (shape_lower seg sp (sp - 2) ps f (omega arith) s) (sp - 2) (Word v) pushed_live
        (omega arith, none_below c lo hi seg sp ps g.low f s (sp - 2 + 1) (omega arith) (omega arith) top g.last)
        (λ b y e k. let fit = s.fits b (Word y) e in let even2 = fit.0 in omega arith)

    -- CALL #a: the address behind it becomes a cell
    pub calls : (r m : ℕ → ℕ) (st : Bytes) (x : Course) (q : Meter) (a : ℕ) → Facts c lo hi f m st → AreWords r
        → Here c lo hi (r 0) (One Call false (Immediate a)) → r 1 ≡ sp → a < 65280
        → Comes c lo hi (at seg ps r m st x q) Running seg ps (set_reg (set_reg (set_reg r 0 (r 0 + 4)) 1 (sp - 2)) 0 a) x
        (set_cell f (sp - 2) (Word (Some (r 0 + 4))))
    calls r m st x q a h wr here e low =
        let base = g.base in let top = g.top in let last = g.last in let even = g.even in
        let end = here.high in let tops = here.top in
        let t : State = record {
          regs = set_reg (set_reg (set_reg r 0 (r 0 + 4)) 1 (sp - 2)) 0 a;
          memory =
              put m (sp - 2) (r 0 + 4);
        } in
        let w : Bytes = step_changes (record { regs = r; memory = m }) in
        let now = here_now c lo hi m (r 0) (One Call false (Immediate a)) h.code here in
        let run = call free (IsSettled st) (InSegment seg) m lo hi (own c lo hi seg sp ps g (λ y. Unit {0}) f m st h) 0 r m t
        (Immediate a) (Given a) sp a (Agrees-self m lo hi) now given refl e low (omega arith)
        (omega arith) even tt pushed_within refl refl in
        let one : StepTo free (IsSettled st) (InSegment seg) (record { regs = r; memory = m }) t =
        one_step (IsSettled st) (InSegment seg) (record { regs = r; memory = m }) t run in
        let wide = step-words free (IsSettled st) (InSegment seg) (record { regs = r; memory = m }) t wr h.words one in
        let v = moved (at seg ps r m st x q) t in
        let st2 : Bytes = settled_after seg (sp - 2) ps w st in
        record {
          memory = put m (sp - 2) (r 0 + 4);
          settled = st2;
          meter = v.meter;
          step = lift_next (at seg ps r m st x q) t refl one;
          facts = facts_set c lo hi f m st2 (sp - 2) (r 0 + 4) (omega arith) (let low2 = g.low in omega arith)
              (none_below c lo hi seg sp ps g.low f s (sp - 2 + 1) (omega arith) (omega arith) top g.last)
              (pushed_settled r m st a (sp - 2) now e (first_byte (sp - 2)))
              (pushed_settled r m st a (sp - 2 + 1) now e (last_byte (sp - 2))) (omega arith)
              (facts_settle c lo hi f seg sp ps s (sp - 2) w m st (omega arith) h);
          words = wide.0;
        }

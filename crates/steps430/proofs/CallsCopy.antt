-- One argument is copied: the word that R14 leads to becomes a word of the frame, or its low byte a byte.
use Rattle.std.proofs.Common.{◌≡◌, ℕ, suc, ◌+◌, ◌-◌, ◌/◌, ◌%◌, ◌<◌, ◌≤◌, refl, ap, ◌∙◌, subst, arith, true, false, List, Option, Some, if◌then◌else◌}
use Rattle.std.proofs.lemmas.Bool.{eq-eqb}
use Rattle.base16.specs.Board.{segment_start, segment_top}
use Rattle.isa430.specs.declared.instr.TwoOp.TheVariants.{Mov}
use Rattle.isa430.specs.declared.instr.Src.TheVariants.{Indexed}
use Rattle.isa430.specs.declared.instr.Dst.TheVariants.{Indexed as ToIndexed}
use Rattle.isa430.specs.declared.instr.Instr.TheVariants.{Two}
use Rattle.core430.specs.Bytes.{byte_at, byte_in, with_byte, word_address}
use Rattle.core430.specs.Instructions.{Stores}
use Rattle.core430.specs.Registers.{set_reg}
use Rattle.core430.specs.Uses.{AreWords}
use Rattle.core430.specs.declared.operand.Place.TheVariants.{InMemory}
use Rattle.run430.specs.Code.{Here}
use Rattle.run430.proofs.Operands.{from_at, to_at, byte_from_at, byte_to_at}
use Rattle.run430.proofs.Rules.{Source, Target, next as next_regs, two_at}
use Rattle.ideal430.specs.Ideal.{Ideal, Meter}
use Rattle.ideal430.specs.Settled.{Bytes}
use Rattle.c_values.specs.declared.state.State.{State}
use Rattle.cells430.specs.Cells.{Word, Byte, Cells, Facts, set_cell}
use Rattle.cells430.specs.Stretch.{Course, at, Leads}
use Rattle.cells430.proofs.Lift.{stores, stores_byte}
use Rattle.ir.specs.declared.control.Frame.{Frame}
use Rattle.steps430.specs.Setting.{Setting}
use Rattle.steps430.specs.Standing.{Stage}

-- the byte at an even address is the low one of its word
low_byte : (m : ℕ → ℕ) (a w : ℕ) → a % 2 ≡ 0 → m a ≡ w → byte_at m a ≡ w % 256
low_byte m a w even h =
    let at_a : word_address a ≡ a = omega arith in
    ap (λ (b : ℕ). byte_in a (m b)) at_a ∙ ap (λ (b : ℕ). byte_in a b) h
    ∙ ap (λ t. if t then w % 256 else w / 256) (eq-eqb (a % 2) 0 even)

module _ (p : Setting) (Q : Ideal → Type 0) (n : ℕ) (s : State) (next : ℕ) (frames : List Frame) (all own : Cells)
    (segment base sp : ℕ) (ps r m : ℕ → ℕ) (st : Bytes) (x : Course) (y : Meter)
    (h : Stage p s next frames all own segment base sp ps r m st) (i o from a w : ℕ) (old : Option ℕ) where
  pub copies_word : Here p.code p.low p.high (r 0) (Two Mov false (Indexed 14 i) (ToIndexed 1 o)) → r 14 + i ≡ from → from < 65536
      → sp + o ≡ a → segment_start segment ≤ a → a < segment_top segment → all from ≡ Some (Word (Some w))
      → all a ≡ Some (Word old)
      → ((m2 : ℕ → ℕ) (st2 : Bytes) (y2 : Meter) → Facts p.code p.low p.high (set_cell all a (Word (Some w))) m2 st2
      → AreWords (set_reg r 0 (r 0 + 6)) → Leads n (at segment ps (set_reg r 0 (r 0 + 6)) m2 st2 x y2) Q)
      → Leads (suc n) (at segment ps r m st x y) Q
  copies_word here is small to low top cell place more =
      let there = h.facts.stands from (Word (Some w)) cell in
      let last = h.ground.last in
      let even : from % 2 ≡ 0 = (h.shape.fits from (Word (Some w)) cell).0 in
      let even2 : a % 2 ≡ 0 = (h.shape.fits a (Word old) place).0 in
      let source : Source false (next_regs (Two Mov false (Indexed 14 i) (ToIndexed 1 o)) r) (Indexed 14 i) (InMemory from) =
      subst (λ (b : ℕ). Source false (next_regs (Two Mov false (Indexed 14 i) (ToIndexed 1 o)) r) (Indexed 14 i) (InMemory b)) is
      (from_at refl (omega arith) (omega arith)) in
      let target : Target false (next_regs (Two Mov false (Indexed 14 i) (ToIndexed 1 o)) r) (ToIndexed 1 o) (InMemory a) =
      subst (λ (b : ℕ). Target false (next_regs (Two Mov false (Indexed 14 i) (ToIndexed 1 o)) r) (ToIndexed 1 o) (InMemory b)) to
      (to_at h.stack (omega arith) (omega arith)) in
      let effect : two_at Mov false (Indexed 14 i) (ToIndexed 1 o) r m (InMemory from) (InMemory a) ≡ Stores (set_reg r 0
      (r 0 + 6)) a w =
      ap (λ (v : ℕ). Stores (set_reg r 0 (r 0 + 6)) a v) there.0 in
      stores p.code p.low p.high segment sp ps h.ground Q n all h.shape r m st x y (Indexed 14 i) (ToIndexed 1 o) (InMemory from)
      (set_reg r 0 (r 0 + 6)) a w old h.facts h.words here source target effect (there.1, there.2) place low top refl h.stack more

  pub copies_byte : Here p.code p.low p.high (r 0) (Two Mov true (Indexed 14 i) (ToIndexed 1 o)) → r 14 + i ≡ from → from < 65536
      → sp + o ≡ a → segment_start segment ≤ a → a < segment_top segment → all from ≡ Some (Word (Some w))
      → all a ≡ Some (Byte old)
      → ((m2 : ℕ → ℕ) (st2 : Bytes) (y2 : Meter) → Facts p.code p.low p.high (set_cell all a (Byte (Some (w % 256)))) m2 st2
      → AreWords (set_reg r 0 (r 0 + 6)) → Leads n (at segment ps (set_reg r 0 (r 0 + 6)) m2 st2 x y2) Q)
      → Leads (suc n) (at segment ps r m st x y) Q
  copies_byte here is small to low top cell place more =
      let there = h.facts.stands from (Word (Some w)) cell in
      let last = h.ground.last in
      let even : from % 2 ≡ 0 = (h.shape.fits from (Word (Some w)) cell).0 in
      let few : w % 256 < 256 = omega arith in
      let source : Source true (next_regs (Two Mov true (Indexed 14 i) (ToIndexed 1 o)) r) (Indexed 14 i) (InMemory from) =
      subst (λ (b : ℕ). Source true (next_regs (Two Mov true (Indexed 14 i) (ToIndexed 1 o)) r) (Indexed 14 i) (InMemory b)) is
      (byte_from_at refl (omega arith)) in
      let target : Target true (next_regs (Two Mov true (Indexed 14 i) (ToIndexed 1 o)) r) (ToIndexed 1 o) (InMemory a) =
      subst (λ (b : ℕ). Target true (next_regs (Two Mov true (Indexed 14 i) (ToIndexed 1 o)) r) (ToIndexed 1 o) (InMemory b)) to
      (byte_to_at h.stack (omega arith)) in
      let effect : two_at Mov true (Indexed 14 i) (ToIndexed 1 o) r m (InMemory from) (InMemory a)
      ≡ Stores (set_reg r 0 (r 0 + 6)) (a - a % 2) (with_byte a (m (a - a % 2)) (w % 256)) =
      ap (λ (v : ℕ). Stores (set_reg r 0 (r 0 + 6)) (a - a % 2) (with_byte a (m (a - a % 2)) v))
      (low_byte m from w even there.0) in
      stores_byte p.code p.low p.high segment sp ps h.ground Q n all h.shape r m st x y (Indexed 14 i) (ToIndexed 1 o)
      (InMemory from)
      (set_reg r 0 (r 0 + 6)) a (w % 256) old h.facts h.words here source target effect there.1 place few low top refl h.stack
      more

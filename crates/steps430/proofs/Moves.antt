-- The two moves of temporaries: the word of a depth comes into a register, and a register becomes the word of a depth.
use Rattle.std.proofs.Common.{◌≡◌, ◌≢◌, ℕ, suc, ◌+◌, ◌*◌, ◌%◌, ◌<◌, ◌≤◌, refl, sym, ap, ◌∙◌, subst, arith, false, ◌⊎◌, inl, inr, List, [], ◌∷◌, length, reverse, Some, None}
use Rattle.std.proofs.lemmas.Bool.{ne_eqb}
use Rattle.base16.specs.Board.{segment_start, segment_top}
use Rattle.isa430.specs.declared.instr.TwoOp.TheVariants.{Mov}
use Rattle.isa430.specs.declared.instr.Src.TheVariants.{Reg, Indexed}
use Rattle.isa430.specs.declared.instr.Dst.TheVariants.{Reg as ToReg, Indexed as ToIndexed}
use Rattle.isa430.specs.declared.instr.Instr.{Instr}
use Rattle.isa430.specs.declared.instr.Instr.TheVariants.{Two}
use Rattle.isa430.specs.Table.{size_of}
use Rattle.core430.specs.declared.operand.Place.TheVariants.{InRegister, InMemory}
use Rattle.core430.specs.Registers.{set_reg}
use Rattle.core430.specs.Instructions.{Sets, Stores}
use Rattle.core430.specs.Uses.{AreWords}
use Rattle.run430.specs.Code.{Here, Placed}
use Rattle.run430.proofs.Rules.{Target, Source, next as next_regs, two_at}
use Rattle.run430.proofs.Operands.{in_register, to_register, from_at, to_at}
use Rattle.ideal430.specs.Ideal.{Ideal, Meter}
use Rattle.ideal430.specs.Settled.{Bytes}
use Rattle.c_run.specs.Actions.{kept}
use Rattle.c_values.specs.declared.state.Call.{Call}
use Rattle.c_values.specs.declared.state.State.{State}
use Rattle.cells430.specs.Cells.{Word, Cells, set_cell, Facts}
use Rattle.cells430.specs.Stretch.{Course, at, Leads}
use Rattle.cells430.proofs.Cells.{set_cell-other, some_none, shape_set}
use Rattle.cells430.proofs.Lift.{two_given, stores, loads}
use Rattle.ir.specs.declared.form.IrFunction.{IrFunction}
use Rattle.ir.specs.declared.control.Temporary.{Temporary}
use Rattle.ir.specs.declared.control.Frame.{Frame}
use Rattle.matching.specs.Matches.{Placed as Alive, placed}
use Rattle.select430.specs.Frames.{temporaries_at, temporary_at}
use Rattle.select430.specs.Parts.{parts_code}
use Rattle.select430.specs.declared.part.Part.{Part}
use Rattle.select430.specs.declared.part.Part.TheVariants.{Do}
use Rattle.core_tree.specs.LawfulCore.{Every}
use Rattle.steps430.specs.Setting.{Setting, HasItsRoutine, function_of, code_bytes}
use Rattle.steps430.specs.Holds.{HasCode, is_defined, temporary_code, CallHolds, Holds}
use Rattle.steps430.specs.Standing.{ReturnsHere, ReturnsBelow, Stacked, return_to, Stage}
use Rattle.steps430.proofs.Keeping.{Lower, Higher, here_off, below_off, stack_off, holds_off, call_push, held_set}

-- ---- code

-- parts stand from an address on, up to another
pub record From (p : Setting) (g pc : ℕ) (parts : List Part) (end : ℕ) : Type 0 where
  pub code : Placed p.code p.low p.high pc (parts_code (p.addresses g) parts)
  pub size : pc + code_bytes (parts_code (p.addresses g) parts) ≡ end
  pub helpers : Every (HasItsRoutine p g) parts

-- the first is an instruction
pub from_do : (p : Setting) (g pc : ℕ) (i : Instr) (more : List Part) (end : ℕ) → From p g pc (Do i ∷ more) end
    → Here p.code p.low p.high pc i × From p g (pc + size_of i) more end
from_do p g pc i more end h = let e = h.size in (h.code.0, record { code = h.code.1; size = omega arith; helpers = h.helpers.1 })

-- none are left
pub from_none : (p : Setting) (g pc end : ℕ) → From p g pc [] end → pc ≡ end
from_none p g pc end h = let e = h.size in omega arith

-- ---- the youngest call

abbrev pub level : (f q first : ℕ) → List Temporary → Frame
level f q first ts = record { function = f; position = q; first = first; temporaries = ts }

-- a call whose frame begins at sp
pub record IsTop (all own : Cells) (alive : List Alive) (fn : IrFunction) (segment sp : ℕ) (ts : List Temporary) : Type 0 where
  pub below : sp + fn.frame + 2 ≤ segment_top segment
  pub objects : temporaries_at fn ≤ fn.frame
  pub clear : (b : ℕ) → sp + temporaries_at fn ≤ b → b < sp + fn.frame + 2 → own b ≡ None
  pub holds : CallHolds all alive fn sp ts

pub top_of : (p : Setting) (all own : Cells) (alive : List Alive) (segment sp f q first : ℕ) (ts : List Temporary)
    (ls : List Frame)
    (cs : List Call) → Stacked p all own segment sp (level f q first ts ∷ ls) cs
    → Holds p.ir all alive (level f q first ts ∷ ls) cs
    → IsTop all own alive (function_of p f) segment sp ts
top_of p all own alive segment sp f q first ts ls [] s h = absurd s
top_of p all own alive segment sp f q first ts ls (c ∷ cs) s h =
    record {
      below = top s.1;
      objects = s.0.objects;
      clear = s.0.clear;
      holds = subst (λ (a : ℕ). CallHolds all alive (function_of p f) a ts) s.0.frame h.0;
    }
  where
    end : ℕ
    end = sp + (function_of p f).frame

    top : ((ReturnsHere all (return_to p ls) segment end × Stacked p all own segment (end + 2) ls cs)
        ⊎ ((older : ℕ) × (b : ℕ) × ReturnsBelow all own (return_to p ls) segment end older b
        × Stacked p all own older (b + 2) ls cs))
        → end + 2 ≤ segment_top segment
    top (inl k) = k.0.below
    top (inr k) = let e = k.2.top in omega arith

-- the youngest call at another place, with other temporaries
pub stacked_at : (p : Setting) (all own : Cells) (segment sp f q q2 first : ℕ) (ts us : List Temporary) (ls : List Frame)
    (cs : List Call) → Stacked p all own segment sp (level f q first ts ∷ ls) cs
    → Stacked p all own segment sp (level f q2 first us ∷ ls) cs
stacked_at p all own segment sp f q q2 first ts us ls [] h = h
stacked_at p all own segment sp f q q2 first ts us ls (c ∷ cs) h = (
  record {
    frame = h.0.frame;
    function = h.0.function;
    numbers = h.0.numbers;
    locals = h.0.locals;
    objects = h.0.objects;
    clear = h.0.clear;
  },
  h.1,
)

pub holds_at : (p : Setting) (all : Cells) (alive : List Alive) (f q q2 first : ℕ) (ts us : List Temporary) (ls : List Frame)
    (cs : List Call)
    → ((a : ℕ) → CallHolds all alive (function_of p f) a ts → CallHolds all alive (function_of p f) a us)
    → Holds p.ir all alive (level f q first ts ∷ ls) cs → Holds p.ir all alive (level f q2 first us ∷ ls) cs
holds_at p all alive f q q2 first ts us ls [] g h = h
holds_at p all alive f q q2 first ts us ls (c ∷ cs) g h = (g c.frame h.0, h.1)

-- ---- a temporary is put on top

module _ (p : Setting) (own : Cells) (alive : List Alive) (all : Cells) (segment sp f q q2 first : ℕ) (t : Temporary)
    (us : List Temporary) (ls : List Frame) (w : ℕ) (base : segment_start segment ≤ sp)
    (room : temporaries_at (function_of p f) + 2 * length us + 2 ≤ (function_of p f).frame) where
  abbrev a : ℕ
  a = sp + temporaries_at (function_of p f) + 2 * length us

  abbrev after : Cells
  after = set_cell all a (Word (Some w))

  pushed_stack : (cs : List Call) → Stacked p all own segment sp (level f q first us ∷ ls) cs
      → Stacked p after own segment sp (level f q2 first (t ∷ us) ∷ ls) cs
  pushed_stack [] h = h
  pushed_stack (c ∷ cs) h = (
    record {
      frame = h.0.frame;
      function = h.0.function;
      numbers = h.0.numbers;
      locals = h.0.locals;
      objects = h.0.objects;
      clear = h.0.clear;
    },
    from h.1,
  )
    where
      end : ℕ
      end = sp + (function_of p f).frame

      from : ((ReturnsHere all (return_to p ls) segment end × Stacked p all own segment (end + 2) ls cs)
          ⊎ ((older : ℕ) × (b : ℕ) × ReturnsBelow all own (return_to p ls) segment end older b
          × Stacked p all own older (b + 2) ls cs))
          → ((ReturnsHere after (return_to p ls) segment end × Stacked p after own segment (end + 2) ls cs)
          ⊎ ((older : ℕ) × (b : ℕ) × ReturnsBelow after own (return_to p ls) segment end older b
          × Stacked p after own older (b + 2) ls cs))
      from (inl k) = inl (
        here_off all a (Word (Some w)) (return_to p ls) segment (a + 1) end (omega arith) (Lower (omega arith) (omega arith)) k.0,
        stack_off p own a (Word (Some w)) all segment (end + 2) ls cs (Lower (omega arith) (omega arith)) k.1,
      )
      from (inr k) =
          let next = k.2.next in
          inr (
            k.0,
            k.1,
            below_off all own a (Word (Some w)) (return_to p ls) segment (a + 1) end k.0 k.1 (omega arith) (Lower
                (omega arith) (omega arith)) k.2,
            stack_off p own a (Word (Some w)) all k.0 (k.1 + 2) ls cs (Higher (omega arith)) k.3,
          )

  pushed_holds : (cs : List Call) → HasCode (temporary_code alive t) w → Stacked p all own segment sp (level f q first us ∷ ls) cs
      → Holds p.ir all alive (level f q first us ∷ ls) cs → Holds p.ir after alive (level f q2 first (t ∷ us) ∷ ls) cs
  pushed_holds [] code s h = h
  pushed_holds (c ∷ cs) code s h = (mine, from s.1)
    where
      end : ℕ
      end = sp + (function_of p f).frame

      mine : CallHolds after alive (function_of p f) c.frame (t ∷ us)
      mine = subst (λ (b : ℕ). CallHolds after alive (function_of p f) b (t ∷ us)) (sym s.0.frame)
          (call_push all alive (function_of p f) sp t us w room (held_set all a (is_defined t) (temporary_code alive t) w code)
          (subst (λ (b : ℕ). CallHolds all alive (function_of p f) b us) s.0.frame h.0))

      from : ((ReturnsHere all (return_to p ls) segment end × Stacked p all own segment (end + 2) ls cs)
          ⊎ ((older : ℕ) × (b : ℕ) × ReturnsBelow all own (return_to p ls) segment end older b
          × Stacked p all own older (b + 2) ls cs))
          → Holds p.ir after alive ls cs
      from (inl k) = holds_off p own a (Word (Some w)) all all alive segment (end + 2) ls cs (Lower (omega arith)
          (omega arith)) k.1 h.1
      from (inr k) =
          let next = k.2.next in
          holds_off p own a (Word (Some w)) all all alive k.0 (k.1 + 2) ls cs (Higher (omega arith)) k.3 h.1

-- ---- stages

module _ (p : Setting) (s : State) (next : ℕ) (all own : Cells) (segment base sp : ℕ) (ps : ℕ → ℕ) where
  -- other registers
  pub with_regs : (frames : List Frame) (r m r2 : ℕ → ℕ) (st st2 : Bytes) → r2 1 ≡ sp → AreWords r2
      → Facts p.code p.low p.high all m st2 → Stage p s next frames all own segment base sp ps r m st
      → Stage p s next frames all own segment base sp ps r2 m st2
  with_regs frames r m r2 st st2 e wide facts h = record {
    ground = h.ground;
    shape = h.shape;
    facts = facts;
    words = wide;
    stack = e;
    part = h.part;
    covered = h.covered;
    made = h.made;
    filled = h.filled;
    whole = h.whole;
    outputs = h.outputs;
    stacked = h.stacked;
    holds = h.holds;
    no_block = h.no_block;
  }

  -- the youngest call at another step, with other temporaries
  pub with_level : (f q q2 first : ℕ) (ts us : List Temporary) (ls : List Frame) (r m : ℕ → ℕ) (st : Bytes)
      → ((a : ℕ) → CallHolds all (placed p.core (kept s)) (function_of p f) a ts
      → CallHolds all (placed p.core (kept s)) (function_of p f) a us)
      → Stage p s next (level f q first ts ∷ ls) all own segment base sp ps r m st
      → Stage p s next (level f q2 first us ∷ ls) all own segment base sp ps r m st
  with_level f q q2 first ts us ls r m st g h = record {
    ground = h.ground;
    shape = h.shape;
    facts = h.facts;
    words = h.words;
    stack = h.stack;
    part = h.part;
    covered = h.covered;
    made = h.made;
    filled = h.filled;
    whole = h.whole;
    outputs = h.outputs;
    stacked = stacked_at p all own segment base f q q2 first ts us ls (reverse s.calls) h.stacked;
    holds = holds_at p all (placed p.core (kept s)) f q q2 first ts us ls (reverse s.calls) g h.holds;
    no_block = h.no_block;
  }

  -- the topmost temporary is taken away
  pub without_top : (f q q2 first : ℕ) (t : Temporary) (us : List Temporary) (ls : List Frame) (r m : ℕ → ℕ) (st : Bytes)
      → Stage p s next (level f q first (t ∷ us) ∷ ls) all own segment base sp ps r m st
      → Stage p s next (level f q2 first us ∷ ls) all own segment base sp ps r m st
  without_top f q q2 first t us ls r m st h =
      with_level f q q2 first (t ∷ us) us ls r m st
      (λ a k. let room = k.room in record { words = k.words; room = omega arith; held = k.held.1 }) h

-- ---- the moves

module _ (p : Setting) (Q : Ideal → Type 0) where
  -- a word comes into a register
  pub brings_word : (n : ℕ) (s : State) (next : ℕ) (frames : List Frame) (all own : Cells) (segment base sp : ℕ) (ps r m : ℕ
      → ℕ) (st : Bytes)
      (x : Course) (y : Meter) (o a k w : ℕ) → Stage p s next frames all own segment base sp ps r m st
      → Here p.code p.low p.high (r 0) (Two Mov false (Indexed 1 o) (ToReg k)) → sp + o ≡ a → a < 65536 → 4 ≤ k
      → all a ≡ Some (Word (Some w))
      → ((st2 : Bytes) (y2 : Meter) → Stage p s next frames all own segment base sp ps (set_reg (set_reg r 0 (r 0 + 4)) k w) m st2
      → Leads n (at segment ps (set_reg (set_reg r 0 (r 0 + 4)) k w) m st2 x y2) Q)
      → Leads (suc n) (at segment ps r m st x y) Q
  brings_word n s next frames all own segment base sp ps r m st x y o a k w h here is low four cell more =
      let even : a % 2 ≡ 0 = (h.shape.fits a (Word (Some w)) cell).0 in
      let n2 : k ≢ 2 = omega arith in
      let n3 : k ≢ 3 = omega arith in
      let n0 : 0 ≢ k = omega arith in
      let n1 : 1 ≢ k = omega arith in
      let r2 : ℕ → ℕ = set_reg (set_reg r 0 (r 0 + 4)) k w in
      let pc : r2 0 ≡ r 0 + 4 = simp (ne_eqb 0 k n0) in
      let stack : r2 1 ≡ sp = simp (ne_eqb 1 k n1) (h.stack) in
      let source : Source false (next_regs (Two Mov false (Indexed 1 o) (ToReg k)) r) (Indexed 1 o) (InMemory a) =
      subst (λ (b : ℕ). Source false (next_regs (Two Mov false (Indexed 1 o) (ToReg k)) r) (Indexed 1 o) (InMemory b)) is
      (from_at h.stack (omega arith) (omega arith)) in
      let effect : two_given Mov false (Indexed 1 o) (ToReg k) r m (InRegister k) w ≡ Sets r2 =
      simp (ne_eqb k 2 n2, ne_eqb k 3 n3) in
      loads p.code p.low p.high segment sp ps h.ground Q n all h.shape r m st x y Mov (Indexed 1 o) (ToReg k) a
      (InRegister k) w r2
      h.facts h.words here source to_register cell effect tt pc stack
      (λ st2 y2 facts wide. more st2 y2 (with_regs p s next all own segment base sp ps frames r m r2 st st2 stack wide facts h))

  -- a register becomes the temporary on top
  pub keeps : (n : ℕ) (s : State) (next : ℕ) (all own : Cells) (segment sp : ℕ) (ps r m : ℕ → ℕ) (st : Bytes)
      (x : Course) (y : Meter) (f q q2 first d k w : ℕ) (t : Temporary) (us : List Temporary) (ls : List Frame)
      → Stage p s next (level f q first us ∷ ls) all own segment sp sp ps r m st
      → Here p.code p.low p.high (r 0) (Two Mov false (Reg k) (ToIndexed 1 (temporary_at (function_of p f) d)))
      → length us ≡ d → temporaries_at (function_of p f) + 2 * length us + 2 ≤ (function_of p f).frame
      → set_reg r 0 (r 0 + 4) k ≡ w → HasCode (temporary_code (placed p.core (kept s)) t) w
      → ((all2 : Cells) (m2 : ℕ → ℕ) (st2 : Bytes) (y2 : Meter)
      → Stage p s next (level f q2 first (t ∷ us) ∷ ls) all2 own segment sp sp ps (set_reg r 0 (r 0 + 4)) m2 st2
      → Leads n (at segment ps (set_reg r 0 (r 0 + 4)) m2 st2 x y2) Q)
      → Leads (suc n) (at segment ps r m st x y) Q
  keeps n s next all own segment sp ps r m st x y f q q2 first d k w t us ls h here depth room is code more =
      let fn : IrFunction = function_of p f in
      let alive : List Alive = placed p.core (kept s) in
      let a : ℕ = sp + temporaries_at fn + 2 * length us in
      let o : ℕ = temporary_at fn d in
      let top = top_of p all own alive segment sp f q first us ls (reverse s.calls) h.stacked h.holds in
      let below = top.below in
      let low = h.ground.base in
      let last = h.ground.last in
      let old = top.holds.words (length us) room in
      let even : a % 2 ≡ 0 = (h.shape.fits a (Word old.0) old.1).0 in
      let same : sp + o ≡ a = omega arith in
      let none : own a ≡ None = top.clear a (omega arith) (omega arith) in
      let r2 : ℕ → ℕ = set_reg r 0 (r 0 + 4) in
      let target : Target false (next_regs (Two Mov false (Reg k) (ToIndexed 1 o)) r) (ToIndexed 1 o) (InMemory a) =
      subst (λ (b : ℕ). Target false (next_regs (Two Mov false (Reg k) (ToIndexed 1 o)) r) (ToIndexed 1 o) (InMemory b)) same
      (to_at h.stack (omega arith) (omega arith)) in
      let effect : two_at Mov false (Reg k) (ToIndexed 1 o) r m (InRegister k) (InMemory a) ≡ Stores r2 a w =
      ap (λ (v : ℕ). Stores r2 a v) is in
      stores p.code p.low p.high segment sp ps h.ground Q n all h.shape r m st x y (Reg k) (ToIndexed 1 o)
      (InRegister k) r2 a w old.0
      h.facts h.words here in_register target effect tt old.1 (omega arith) (omega arith) refl h.stack
      (λ m2 st2 y2 facts wide. more (set_cell all a (Word (Some w))) m2 st2 y2 (record {
        ground = h.ground;
        shape = shape_set segment sp ps all h.shape a old.0 (Some w) old.1;
        facts = facts;
        words = wide;
        stack = h.stack;
        part = λ b z e. let other : b ≢ a = λ j. some_none (own b) z e (ap own j ∙ none) in
            set_cell-other all a b (Word (Some w)) other ∙ h.part b z e;
        covered = h.covered;
        made = h.made;
        filled = h.filled;
        whole = h.whole;
        outputs = λ b l u. let other : b ≢ a = omega arith in set_cell-other all a b (Word (Some w)) other ∙ h.outputs b l u;
        stacked = pushed_stack p own alive all segment sp f q q2 first t us ls w (omega arith) room (reverse s.calls) h.stacked;
        holds = pushed_holds p own alive all segment sp f q q2 first t us ls w (omega arith) room
            (reverse s.calls) code h.stacked h.holds;
        no_block = h.no_block;
      }))

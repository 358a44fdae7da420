-- A helper routine is called in a step: R12 and R13 have its operands, and R12 gets the operator's value.
use Rattle.std.proofs.Common.{◌≡◌, ℕ, suc, ◌+◌, ◌≤◌, arith, List, ◌∷◌}
use Rattle.base16.specs.Board.{segment_start}
use Rattle.asm430.specs.Assembly.{call}
use Rattle.core430.specs.Uses.{AreWords}
use Rattle.run430.specs.Code.{Here}
use Rattle.run430.specs.Routine.{IsKept}
use Rattle.rt430.specs.declared.words.Helper.{Helper}
use Rattle.rt430.specs.Operators.{value, HasValue}
use Rattle.rt430.specs.Routines.{kept_by}
use Rattle.ideal430.specs.Ideal.{Ideal, Meter}
use Rattle.ideal430.specs.Settled.{Bytes}
use Rattle.c_values.specs.declared.state.State.{State}
use Rattle.cells430.specs.Cells.{Cells, Facts}
use Rattle.cells430.specs.Stretch.{Course, at, Leads}
use Rattle.cells430.proofs.Steady.{calls_routine}
use Rattle.ir.specs.declared.control.Frame.{Frame}
use Rattle.select430.specs.declared.part.Part.{Part}
use Rattle.select430.specs.declared.part.Part.TheVariants.{Helps}
use Rattle.steps430.specs.Routines.{HasRoutine}
use Rattle.steps430.specs.Setting.{Setting, IsLaid}
use Rattle.steps430.specs.Standing.{Stage}
use Rattle.steps430.proofs.Moves.{From}

-- a routine is called, and stands there
pub record CallsIt (p : Setting) (g pc : ℕ) (which : Helper) : Type 0 where
  pub here : Here p.code p.low p.high pc (call ((p.addresses g).helper which))
  pub routine : HasRoutine p.code p.low p.high ((p.addresses g).helper which) which

-- the first of the parts calls a routine
pub from_helps : (p : Setting) (g pc : ℕ) (which : Helper) (more : List Part) (end : ℕ) → From p g pc (Helps which ∷ more) end
    → CallsIt p g pc which × From p g (pc + 4) more end
from_helps p g pc which more end h =
    let e = h.size in (
      record { here = h.code.0; routine = h.helpers.0 },
      record { code = h.code.1; size = omega arith; helpers = h.helpers.1 },
    )

-- other registers and other memory
pub with_memory : (p : Setting) (s : State) (next : ℕ) (frames : List Frame) (all own : Cells) (segment base sp : ℕ)
    (ps r m r2 m2 : ℕ → ℕ)
    (st st2 : Bytes) → r2 1 ≡ sp → AreWords r2 → Facts p.code p.low p.high all m2 st2
    → Stage p s next frames all own segment base sp ps r m st → Stage p s next frames all own segment base sp ps r2 m2 st2
with_memory p s next frames all own segment base sp ps r m r2 m2 st st2 e wide facts h = record {
  ground = h.ground;
  shape = h.shape;
  facts = facts;
  words = wide;
  stack = e;
  part = h.part;
  covered = h.covered;
  made = h.made;
  filled = h.filled;
  whole = h.whole;
  outputs = h.outputs;
  stacked = h.stacked;
  holds = h.holds;
  no_block = h.no_block;
}

module _ (p : Setting) (lay : IsLaid p) (Q : Ideal → Type 0) (n : ℕ) (s : State) (next : ℕ) (frames : List Frame)
    (all own : Cells)
    (segment base sp : ℕ) (ps r m : ℕ → ℕ) (st : Bytes) (x : Course) (y : Meter) where
  pub helps_with : (which : Helper) (f a b : ℕ) → Stage p s next frames all own segment base sp ps r m st
      → segment_start segment + 4 ≤ sp
      → CallsIt p f (r 0) which → r 12 ≡ a → r 13 ≡ b → HasValue which a b
      → ((r2 m2 : ℕ → ℕ) (st2 : Bytes) (y2 : Meter) → r2 0 ≡ r 0 + 4 → r2 12 ≡ value which a b → IsKept (kept_by which) r r2
      → Stage p s next frames all own segment base sp ps r2 m2 st2 → Leads n (at segment ps r2 m2 st2 x y2) Q)
      → Leads (suc (400 + n)) (at segment ps r m st x y) Q
  helps_with which f a b h low here first second has go =
      let stands = here.routine in
      calls_routine p.code p.low p.high segment sp ps h.ground low all h.shape which stands.words stands.computes
      ((p.addresses f).helper which) stands.even stands.from stands.to stands.stands r m st x y a b h.facts h.words here.here h.stack
      first
      second has n Q
      (λ r2 m2 st2 y2 pc stack answer kept facts wide.
      go r2 m2 st2 y2 pc answer kept
      (with_memory p s next frames all own segment base sp ps r m r2 m2 st st2 stack wide facts h))

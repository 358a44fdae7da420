-- What stays of the stack and of the temporaries when a cell is set.
use Rattle.std.proofs.Common.{◌≡◌, ◌≢◌, ℕ, ◌+◌, ◌*◌, ◌<◌, ◌≤◌, refl, ◌∙◌, arith, Bool, true, false, ◌⊎◌, inl, inr, List, [], ◌∷◌, length, Option, Some}
use Rattle.std.proofs.lemmas.Bool.{cases_eq}
use Rattle.base16.specs.Board.{segment_start, segment_top}
use Rattle.c_values.specs.declared.state.Call.{Call}
use Rattle.cells430.specs.Cells.{Cell, Word, Cells, set_cell}
use Rattle.cells430.proofs.Cells.{set_cell-same, set_cell-other}
use Rattle.ir.specs.declared.form.IrFunction.{IrFunction}
use Rattle.ir.specs.declared.control.Temporary.{Temporary}
use Rattle.ir.specs.declared.control.Frame.{Frame}
use Rattle.matching.specs.Matches.{Placed}
use Rattle.select430.specs.Frames.{temporaries_at}
use Rattle.steps430.specs.Setting.{Setting, function_of}
use Rattle.steps430.specs.Holds.{IsWord, HasCode, is_defined, temporary_code, IsHeld, AreHeld, CallHolds, Holds}
use Rattle.steps430.specs.Standing.{ReturnsHere, ReturnsBelow, Stacked, return_to}

-- ---- temporaries

pub held_off : (f : Cells) (a : ℕ) (x : Cell) (b : ℕ) (d : Bool) (o : Option ℕ) → b ≢ a → IsHeld f b d o
    → IsHeld (set_cell f a x) b d o
held_off f a x b true o n h = (h.0, set_cell-other f a b x n ∙ h.1, h.2)
held_off f a x b false o n h = (h.0, set_cell-other f a b x n ∙ h.1)

pub all_held_off : (f : Cells) (alive : List Placed) (a : ℕ) (x : Cell) (base : ℕ) (ts : List Temporary)
    → ((d : ℕ) → d < length ts → base + 2 * d ≢ a) → AreHeld f alive base ts → AreHeld (set_cell f a x) alive base ts
all_held_off f alive a x base [] n h = tt
all_held_off f alive a x base (t ∷ ts) n h = (
  held_off f a x (base + 2 * length ts) (is_defined t) (temporary_code alive t) (n (length ts) (omega arith)) h.0,
  all_held_off f alive a x base ts (λ d k. n d (omega arith)) h.1,
)

pub call_off : (f : Cells) (alive : List Placed) (fn : IrFunction) (sp : ℕ) (ts : List Temporary) (a : ℕ) (x : Cell)
    → ((b : ℕ) → sp + temporaries_at fn ≤ b → b < sp + fn.frame → b ≢ a)
    → CallHolds f alive fn sp ts → CallHolds (set_cell f a x) alive fn sp ts
call_off f alive fn sp ts a x apart h =
    let room = h.room in
    record {
      words = λ d k. let w = h.words d k in (w.0, set_cell-other f a _ x (apart _ (omega arith) (omega arith)) ∙ w.1);
      room = h.room;
      held = all_held_off f alive a x (sp + temporaries_at fn) ts (λ d k. apart _ (omega arith) (omega arith)) h.held;
    }

-- a temporary is put on top of others
pub call_push : (f : Cells) (alive : List Placed) (fn : IrFunction) (sp : ℕ) (t : Temporary) (us : List Temporary) (w : ℕ)
    → temporaries_at fn + 2 * length us + 2 ≤ fn.frame
    → IsHeld (set_cell f (sp + temporaries_at fn + 2 * length us) (Word (Some w)))
    (sp + temporaries_at fn + 2 * length us) (is_defined t) (temporary_code alive t)
    → CallHolds f alive fn sp us
    → CallHolds (set_cell f (sp + temporaries_at fn + 2 * length us) (Word (Some w))) alive fn sp (t ∷ us)
call_push f alive fn sp t us w room here h =
    record {
      words = λ d k. word d k (cases_eq d (length us));
      room = omega arith;
      held = (
        here,
        all_held_off f alive (sp + temporaries_at fn + 2 * length us) (Word (Some w)) (sp + temporaries_at fn) us
            (λ d k. omega arith) h.held,
      );
    }
  where
    word : (d : ℕ) → temporaries_at fn + 2 * d + 2 ≤ fn.frame → ((d ≡ length us) ⊎ (d ≡ length us → ⊥))
        → IsWord (set_cell f (sp + temporaries_at fn + 2 * length us) (Word (Some w))) (sp + temporaries_at fn + 2 * d)
    word d k (inl e) =
        let same : sp + temporaries_at fn + 2 * d ≡ sp + temporaries_at fn + 2 * length us = omega arith in
        (Some w, set_cell-same f _ _ (Word (Some w)) same)
    word d k (inr n) =
        let v = h.words d k in
        let other : sp + temporaries_at fn + 2 * d ≢ sp + temporaries_at fn + 2 * length us = omega arith in
        (v.0, set_cell-other f _ _ (Word (Some w)) other ∙ v.1)

-- a word that is set holds a temporary that has its code
pub held_set : (f : Cells) (a : ℕ) (d : Bool) (o : Option ℕ) (w : ℕ) → HasCode o w → IsHeld (set_cell f a (Word (Some w))) a d o
held_set f a true o w h = (w, set_cell-same f a a (Word (Some w)) refl, h)
held_set f a false o w h = (Some w, set_cell-same f a a (Word (Some w)) refl)

-- ---- an address off the stack, from a frame on

pub data Off (a segment sp : ℕ) : Type 0 where
  Lower : segment_start segment ≤ a → a < sp → Off a segment sp
  Higher : segment_top segment ≤ a → Off a segment sp

off_on : (a g sp sp2 : ℕ) → sp ≤ sp2 → Off a g sp → Off a g sp2
off_on a g sp sp2 h (Lower k l) = Lower k (omega arith)
off_on a g sp sp2 h (Higher k) = Higher k

off_older : (a g older sp sp2 : ℕ) → g ≡ older + 1 → Off a g sp → Off a older sp2
off_older a g older sp sp2 e (Lower k l) = Higher (omega arith)
off_older a g older sp sp2 e (Higher k) = Higher (omega arith)

off_at : (a g sp b : ℕ) → sp ≤ b → b < segment_top g → Off a g sp → b ≢ a
off_at a g sp b h top (Lower k l) = omega arith
off_at a g sp b h top (Higher k) = omega arith

off_below : (a g older sp b : ℕ) → g ≡ older + 1 → b < segment_top older → Off a g sp → b ≢ a
off_below a g older sp b e top (Lower k l) = omega arith
off_below a g older sp b e top (Higher k) = omega arith

pub here_off : (f : Cells) (a : ℕ) (x : Cell) (to g sp end : ℕ) → sp ≤ end → Off a g sp → ReturnsHere f to g end
    → ReturnsHere (set_cell f a x) to g end
here_off f a x to g sp end l off h =
    let below = h.below in
    record {
      word = set_cell-other f a end x (off_at a g sp end l (omega arith) off)
          ∙ h.word;
      below = h.below;
      no_link = h.no_link;
    }

pub below_off : (f own : Cells) (a : ℕ) (x : Cell) (to g sp end older b : ℕ) → sp ≤ end → Off a g sp
    → ReturnsBelow f own to g end older b
    → ReturnsBelow (set_cell f a x) own to g end older b
below_off f own a x to g sp end older b l off h =
    let top = h.top in let high = h.high in
    record {
      next = h.next;
      top = h.top;
      link = set_cell-other f a end x (off_at a g sp end l (omega arith) off) ∙ h.link;
      low = h.low;
      high = h.high;
      word = set_cell-other f a b x (off_below a g older sp b h.next (omega arith) off) ∙ h.word;
      clear = h.clear;
    }

module _ (p : Setting) (own : Cells) (a : ℕ) (x : Cell) where
  -- the stack stays
  pub stack_off : (all : Cells) (g sp : ℕ) (ls : List Frame) (cs : List Call) → Off a g sp → Stacked p all own g sp ls cs
      → Stacked p (set_cell all a x) own g sp ls cs
  stack_off all g sp [] [] off h = h
  stack_off all g sp (l ∷ ls) (c ∷ cs) off h = (h.0, from (λ g2 sp2 o k. stack_off all g2 sp2 ls cs o k) h.1)
    where
      end : ℕ
      end = sp + (function_of p l.function).frame

      from : ((g2 sp2 : ℕ) → Off a g2 sp2 → Stacked p all own g2 sp2 ls cs → Stacked p (set_cell all a x) own g2 sp2 ls cs)
          → ((ReturnsHere all (return_to p ls) g end × Stacked p all own g (end + 2) ls cs)
          ⊎ ((older : ℕ) × (b : ℕ) × ReturnsBelow all own (return_to p ls) g end older b × Stacked p all own older (b + 2) ls cs))
          → ((ReturnsHere (set_cell all a x) (return_to p ls) g end × Stacked p (set_cell all a x) own g (end + 2) ls cs)
          ⊎ ((older : ℕ) × (b : ℕ) × ReturnsBelow (set_cell all a x) own (return_to p ls) g end older b
          × Stacked p (set_cell all a x) own older (b + 2) ls cs))
      from more (inl k) = inl (
        here_off all a x (return_to p ls) g sp end (omega arith) off k.0,
        more g (end + 2)
            (off_on a g sp (end + 2) (omega arith) off) k.1,
      )
      from more (inr k) = inr (
        k.0,
        k.1,
        below_off all own a x (return_to p ls) g sp end k.0 k.1 (omega arith) off k.2,
        more k.0 (k.1 + 2) (off_older a g k.0 sp (k.1 + 2) k.2.next off) k.3,
      )
  stack_off all g sp [] (c ∷ cs) off h = h
  stack_off all g sp (l ∷ ls) [] off h = h

  -- and so do the temporaries of its calls
  pub holds_off : (all f : Cells) (alive : List Placed) (g sp : ℕ) (ls : List Frame) (cs : List Call) → Off a g sp
      → Stacked p all own g sp ls cs → Holds p.ir f alive ls cs → Holds p.ir (set_cell f a x) alive ls cs
  holds_off all f alive g sp [] [] off s h = tt
  holds_off all f alive g sp (l ∷ ls) (c ∷ cs) off s h = from (λ g2 sp2 o k. holds_off all f alive g2 sp2 ls cs o k h.1) s.1
    where
      end : ℕ
      end = sp + (function_of p l.function).frame

      mine : end + 2 ≤ segment_top g → CallHolds (set_cell f a x) alive (function_of p l.function) c.frame l.temporaries
      mine top = let e = s.0.frame in call_off f alive (function_of p l.function) c.frame l.temporaries a x
          (λ b k j. off_at a g sp b (omega arith) (omega arith) off) h.0

      from : ((g2 sp2 : ℕ) → Off a g2 sp2 → Stacked p all own g2 sp2 ls cs → Holds p.ir (set_cell f a x) alive ls cs)
          → ((ReturnsHere all (return_to p ls) g end × Stacked p all own g (end + 2) ls cs)
          ⊎ ((older : ℕ) × (b : ℕ) × ReturnsBelow all own (return_to p ls) g end older b × Stacked p all own older (b + 2) ls cs))
          → Holds p.ir (set_cell f a x) alive (l ∷ ls) (c ∷ cs)
      from more (inl k) = (mine k.0.below, more g (end + 2) (off_on a g sp (end + 2) (omega arith) off) k.1)
      from more (inr k) =
          let top = k.2.top in
          (mine (omega arith), more k.0 (k.1 + 2) (off_older a g k.0 sp (k.1 + 2) k.2.next off) k.3)
  holds_off all f alive g sp [] (c ∷ cs) off s h = absurd s
  holds_off all f alive g sp (l ∷ ls) [] off s h = absurd s

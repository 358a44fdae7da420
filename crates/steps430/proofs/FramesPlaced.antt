-- Where a new frame is placed, and the cells that it has.
use Rattle.std.proofs.Common.{◌≡◌, ◌≢◌, ℕ, ◌+◌, ◌-◌, ◌*◌, ◌/◌, ◌%◌, ◌<◌, ◌≤◌, refl, sym, ap, ◌∙◌, subst, arith, Bool, true, false, ◌&&◌, ◌⊎◌, inl, inr, List, [], ◌∷◌, ◌++◌, reverse, Option, Some, None, if◌then◌else◌}
use Rattle.std.proofs.lemmas.Bool.{le-leb, lt-ltb, lt-leb, eq-eqb, ne_eqb}
use Rattle.std.proofs.lemmas.Bool.Decides.{nat_tests}
use Rattle.std.proofs.lemmas.List.{reverse-reverse}
use Rattle.std.specs.Prelude.{nat_eq, nat_lt, nat_le}
use Rattle.base16.specs.Board.{stack_start, stack_end, segment_start, segment_top, first_stack_pointer}
use Rattle.base16.specs.Placement.{frame_below}
use Rattle.core430.proofs.Truths.{and-both}
use Rattle.ideal430.specs.Service.{link_address}
use Rattle.c_run.specs.Actions.{top_from, top_of}
use Rattle.c_values.specs.declared.state.Call.{Call}
use Rattle.c_values.specs.declared.state.State.{State}
use Rattle.cells430.specs.Cells.{Cell, Word, Byte, Cells, Fits, IsBlank, IsLayout, framed}
use Rattle.cells430.proofs.Framed.{framed_in, framed_out}
use Rattle.ir.specs.declared.control.Frame.{Frame}
use Rattle.ir.specs.declared.form.IrFunction.{IrFunction}
use Rattle.select430.specs.Frames.{temporaries_at}
use Rattle.steps430.specs.Setting.{Setting, FrameFits}
use Rattle.steps430.specs.Standing.{Stacked}
use Rattle.steps430.proofs.FramesStay.{last_is, On}
use Rattle.steps430.proofs.FramesGrown.{IsGrown}

-- ---- the place

if_true : {A : Type 0} (b : Bool) (x y : A) → b ≡ true → (if b then x else y) ≡ x
if_true b x y e = ap (λ (t : Bool). if t then x else y) e

if_false : {A : Type 0} (b : Bool) (x y : A) → b ≡ false → (if b then x else y) ≡ y
if_false b x y e = ap (λ (t : Bool). if t then x else y) e

pub placed_here : (g sp bytes : ℕ) → segment_start g ≤ sp → sp < segment_top g → bytes ≤ 240 → segment_start g + bytes + 4 ≤ sp
    → frame_below (sp + 2) bytes ≡ Some (sp - bytes)
unfolding frame_below
placed_here g sp bytes low high few room =
    let w : ℕ = sp + 2 - 2 in
    let most : nat_lt 240 bytes ≡ false = lt-leb _ _ (omega arith) in
    let fits : nat_le (w / 256 * 256 + bytes + 4) w ≡ true = le-leb (w / 256 * 256 + bytes + 4) w (omega arith) in
    let is : w - bytes ≡ sp - bytes = omega arith in
    if_false (nat_lt 240 bytes) _ _ most ∙ if_true (nat_le (w / 256 * 256 + bytes + 4) w) _ _ fits ∙ ap (λ (k : ℕ). Some k) is

pub placed_next : (g sp bytes : ℕ) → segment_start g ≤ sp → sp < segment_top g → bytes ≤ 240
    → sp < segment_start g + bytes + 4 → g < 31
    → frame_below (sp + 2) bytes ≡ Some (link_address g - bytes)
unfolding frame_below
placed_next g sp bytes low high few room next =
    let w : ℕ = sp + 2 - 2 in
    let most : nat_lt 240 bytes ≡ false = lt-leb _ _ (omega arith) in
    let full : nat_le (w / 256 * 256 + bytes + 4) w ≡ false = lt-leb _ _ (omega arith) in
    let more : nat_lt (w / 256 * 256) (segment_start 31) ≡ true = lt-ltb (w / 256 * 256) (segment_start 31) (omega arith) in
    let is : w / 256 * 256 + 2 * 256 - 2 - bytes ≡ link_address g - bytes = omega arith in
    if_false (nat_lt 240 bytes) _ _ most ∙ if_false (nat_le (w / 256 * 256 + bytes + 4) w) _ _ full
    ∙ if_true (nat_lt (w / 256 * 256) (segment_start 31)) _ _ more ∙ ap (λ (k : ℕ). Some k) is

pub placed_nowhere : (g sp bytes : ℕ) → segment_start g ≤ sp → sp < segment_top g → bytes ≤ 240
    → sp < segment_start g + bytes + 4 → g ≡ 31
    → frame_below (sp + 2) bytes ≡ None
unfolding frame_below
placed_nowhere g sp bytes low high few room last =
    let w : ℕ = sp + 2 - 2 in
    let most : nat_lt 240 bytes ≡ false = lt-leb _ _ (omega arith) in
    let full : nat_le (w / 256 * 256 + bytes + 4) w ≡ false = lt-leb _ _ (omega arith) in
    let none : nat_lt (w / 256 * 256) (segment_start 31) ≡ false = lt-leb _ _ (omega arith) in
    if_false (nat_lt 240 bytes) _ _ most ∙ if_false (nat_le (w / 256 * 256 + bytes + 4) w) _ _ full
    ∙ if_false (nat_lt (w / 256 * 256) (segment_start 31)) _ _ none

top_last : (sp : ℕ) (xs : List Call) (c : Call) → top_from sp (xs ++ c ∷ []) ≡ c.frame
top_last sp [] c = refl
top_last sp (x ∷ xs) c = top_last x.frame xs c

-- the stack pointer of the youngest call
pub top_is : (p : Setting) (all own : Cells) (g base : ℕ) (ls : List Frame) (s : State)
    → Stacked p all own g base ls (reverse s.calls)
    → top_of s ≡ base
top_is p all own g base ls s h = from ls (reverse s.calls) refl h
  where
    from : (ks : List Frame) (zs : List Call) → reverse s.calls ≡ zs → Stacked p all own g base ks zs → top_of s ≡ base
    from [] [] e k = ap (top_from first_stack_pointer) (sym (reverse-reverse s.calls) ∙ ap reverse e) ∙ sym k.1
    from (l ∷ ks) (c ∷ cs) e k =
        ap (top_from first_stack_pointer) (last_is s.calls cs c e) ∙ top_last first_stack_pointer (reverse cs) c ∙ k.0.frame
    from [] (c ∷ cs) e k = absurd k
    from (l ∷ ks) [] e k = absurd k

-- ---- the cells

abbrev pub is_temporary : IrFunction → ℕ → Bool
is_temporary fn o = nat_lt (o + 1) fn.frame && nat_eq ((o - temporaries_at fn) % 2) 0

-- locals, then the words of the temporaries
abbrev pub frame_cells : IrFunction → Cells → Cells
frame_cells fn inner o = if nat_lt o (temporaries_at fn) then inner o else (if is_temporary fn o then Some (Word None) else None)

module _ (fn : IrFunction) (inner : Cells) (fits : FrameFits fn) (law : IsLayout (temporaries_at fn) inner) where
  abbrev t : ℕ
  t = temporaries_at fn

  even_start : t % 2 ≡ 0
  even_start = omega arith

  frame_low : (o : ℕ) → o < t → frame_cells fn inner o ≡ inner o
  frame_low o l = if_true (nat_lt o t) _ _ (lt-ltb o t l)

  frame_high : (o : ℕ) → t ≤ o → frame_cells fn inner o ≡ (if is_temporary fn o then Some (Word None) else None)
  frame_high o l = if_false (nat_lt o t) _ _ (le-ltb o t l)
    where
      le-ltb : (a b : ℕ) → b ≤ a → nat_lt a b ≡ false
      le-ltb a b h = grind (arith, nat_tests)

  pub frame_word : (d : ℕ) → t + 2 * d + 2 ≤ fn.frame → frame_cells fn inner (t + 2 * d) ≡ Some (Word None)
  frame_word d l =
      let two : nat_eq ((t + 2 * d - t) % 2) 0 ≡ true = eq-eqb ((t + 2 * d - t) % 2) 0 (omega arith) in
      frame_high (t + 2 * d) (omega arith)
      ∙ if_true (is_temporary fn (t + 2 * d)) _ _ (and-both (lt-ltb (t + 2 * d + 1) fn.frame (omega arith)) two)

  -- a cell is that of a local or of a temporary
  data IsCell (o : ℕ) (x : Cell) : Type 0 where
    OfLocal : o < t → inner o ≡ Some x → IsCell o x
    OfTemporary : t ≤ o → o + 1 < fn.frame → (o - t) % 2 ≡ 0 → x ≡ Word None → IsCell o x

  is_cell : (o : ℕ) (x : Cell) → frame_cells fn inner o ≡ Some x → IsCell o x
  is_cell o x e = from (nat_lt o t) (is_temporary fn o) refl refl e
    where
      same : (y : Cell) → Some y ≡ Some x → x ≡ y
      same y k = cc

      never : {A : Type 0} → None ≡ Some x → A
      never k = absurd (differ k)
        where
          differ : None ≡ Some x → ⊥
          differ j = cc

      lower : nat_lt o t ≡ true → o < t
      lower k = grind (arith, nat_tests)

      upper : nat_lt o t ≡ false → t ≤ o
      upper k = grind (arith, nat_tests)

      inside : is_temporary fn o ≡ true → o + 1 < fn.frame
      inside k = grind (arith, nat_tests)

      two : is_temporary fn o ≡ true → (o - t) % 2 ≡ 0
      two k = grind (arith, nat_tests)

      from : (a b : Bool) → nat_lt o t ≡ a → is_temporary fn o ≡ b → (if a then inner o else (if b then Some (Word None) else
          None)) ≡ Some x
          → IsCell o x
      from true b i j k = OfLocal (lower i) k
      from false true i j k = OfTemporary (upper i) (inside j) (two j) (same (Word None) k)
      from false false i j k = never k

  pub frame_layout : IsLayout fn.frame (frame_cells fn inner)
  frame_layout = record {
    even = fits.even;
    within = λ o x e. within o x (is_cell o x e);
    fits = λ o x e. fit o x (is_cell o x e);
    blank = λ o x e. blank o x (is_cell o x e);
  }
    where
      within : (o : ℕ) (x : Cell) → IsCell o x → o < fn.frame
      within o x (OfLocal l e) = let k = fits.objects in omega arith
      within o x (OfTemporary l h two e) = omega arith

      local : (o : ℕ) (x : Cell) → o < t → Fits inner o x → Fits (frame_cells fn inner) o x
      local o (Word v) l h = let a = h.0 in let b = even_start in (h.0, frame_low (o + 1) (omega arith) ∙ h.1)
      local o (Byte v) l h = tt

      fit : (o : ℕ) (x : Cell) → IsCell o x → Fits (frame_cells fn inner) o x
      fit o x (OfLocal l e) = local o x l (law.fits o x e)
      fit o x (OfTemporary l h two e) =
          let start = even_start in
          let odd : (o + 1 - t) % 2 ≢ 0 = omega arith in
          let no_word : is_temporary fn (o + 1) ≡ false = not_second (nat_lt (o + 1 + 1) fn.frame) _ (ne_eqb ((o + 1 - t) % 2) 0
          odd) in
          subst (Fits (frame_cells fn inner) o) (sym e)
          (omega arith, frame_high (o + 1) (omega arith) ∙ if_false (is_temporary fn (o + 1)) _ _ no_word)
        where
          not_second : (a b : Bool) → b ≡ false → (a && b) ≡ false
          not_second true b k = k
          not_second false b k = refl

      blank : (o : ℕ) (x : Cell) → IsCell o x → IsBlank x
      blank o x (OfLocal l e) = law.blank o x e
      blank o x (OfTemporary l h two e) = subst IsBlank (sym e) tt

  -- ---- the cells with a frame at an address: `before` are all cells but those of the frame

  module _ (all before own : Cells) (g base frame : ℕ) (start : stack_start ≤ frame) (top : frame + fn.frame ≤ stack_end)
      (off : (b : ℕ) → On g base b → (b < frame) ⊎ (frame + fn.frame ≤ b))
      (on_same : (b : ℕ) → On g base b → before b ≡ all b) (low_same : (b : ℕ) → b < stack_start → before b ≡ all b)
      (among : (b : ℕ) (x : Cell) → own b ≡ Some x → before b ≡ Some x)
      (empty : (b : ℕ) → frame ≤ b → b < frame + fn.frame → before b ≡ None) where
    abbrev pub all_with : Cells
    all_with = framed frame fn.frame (frame_cells fn inner) before

    abbrev pub own_with : Cells
    own_with = framed frame t inner own

    narrower : (b : ℕ) → (b < frame) ⊎ (frame + fn.frame ≤ b) → (b < frame) ⊎ (frame + t ≤ b)
    narrower b (inl h) = inl h
    narrower b (inr h) = let k = fits.objects in inr (omega arith)

    none_own : (b : ℕ) → before b ≡ None → own b ≡ None
    none_own b e = from (own b) refl
      where
        differ : (x : Cell) → None ≡ Some x → ⊥
        differ x k = cc

        from : (o : Option Cell) → own b ≡ o → own b ≡ None
        from None k = k
        from (Some x) k = absurd (differ x (sym e ∙ among b x k))

    pub clear_with : (b : ℕ) → frame + t ≤ b → b < frame + fn.frame → own_with b ≡ None
    clear_with b l h = framed_out frame t inner own b (inr l) ∙ none_own b (empty b (omega arith) h)

    pub above_with : (b : ℕ) → frame + fn.frame ≤ b → own_with b ≡ own b
    above_with b l = framed_out frame t inner own b (narrower b (inr l))

    part_with : (b : ℕ) (x : Cell) → own_with b ≡ Some x → all_with b ≡ Some x
    part_with b x e = by (nat_le frame b) (nat_lt b (frame + t)) (nat_lt b (frame + fn.frame)) refl refl refl
      where
        differ : None ≡ Some x → ⊥
        differ k = cc

        out : (b < frame) ⊎ (frame + fn.frame ≤ b) → all_with b ≡ Some x
        out o =
            framed_out frame fn.frame (frame_cells fn inner) before b o
            ∙ among b x (sym (framed_out frame t inner own b (narrower b o)) ∙ e)

        inside : frame ≤ b → b < frame + t → all_with b ≡ Some x
        inside l h =
            let k = fits.objects in
            framed_in frame fn.frame (frame_cells fn inner) before b l (omega arith) ∙ frame_low (b - frame) (omega arith)
            ∙ sym (framed_in frame t inner own b l h) ∙ e

        le : nat_le frame b ≡ true → frame ≤ b
        le k = grind (arith, nat_tests)

        gt : nat_le frame b ≡ false → b < frame
        gt k = grind (arith, nat_tests)

        lt1 : nat_lt b (frame + t) ≡ true → b < frame + t
        lt1 k = grind (arith, nat_tests)

        ge1 : nat_lt b (frame + t) ≡ false → frame + t ≤ b
        ge1 k = grind (arith, nat_tests)

        lt2 : nat_lt b (frame + fn.frame) ≡ true → b < frame + fn.frame
        lt2 k = grind (arith, nat_tests)

        ge2 : nat_lt b (frame + fn.frame) ≡ false → frame + fn.frame ≤ b
        ge2 k = grind (arith, nat_tests)

        by : (i j k : Bool) → nat_le frame b ≡ i → nat_lt b (frame + t) ≡ j → nat_lt b (frame + fn.frame) ≡ k
            → all_with b ≡ Some x
        by false j k a c d = out (inl (gt a))
        by true true k a c d = inside (le a) (lt1 c)
        by true false true a c d = absurd (differ (sym (clear_with b (ge1 c) (lt2 d)) ∙ e))
        by true false false a c d = out (inr (ge2 d))

    pub grows_with : IsGrown all own all_with own_with g base frame fn inner
    grows_with =
        let objects = fits.objects in
        record {
          all_on = λ b k. framed_out frame fn.frame (frame_cells fn inner) before b (off b k) ∙ on_same b k;
          own_on = λ b k. framed_out frame t inner own b (narrower b (off b k));
          all_low = λ b k. framed_out frame fn.frame (frame_cells fn inner) before b (inl (omega arith)) ∙ low_same b k;
          own_low = λ b k. framed_out frame t inner own b (inl (omega arith));
          own_high = λ b k. framed_out frame t inner own b (inr (omega arith));
          part = λ b x e. part_with b x e;
          locals = λ o x e.
              let l = law.within o x e in
              let is : frame + o - frame ≡ o = omega arith in
              framed_in frame t inner own (frame + o) (omega arith) (omega arith) ∙ ap inner is ∙ e;
          words = λ d l.
              let is : frame + t + 2 * d - frame ≡ t + 2 * d = omega arith in (
                None,
                framed_in frame fn.frame (frame_cells fn inner) before (frame + t + 2 * d) (omega arith) (omega arith)
                    ∙ ap (frame_cells fn inner) is ∙ frame_word d l,
              );
        }

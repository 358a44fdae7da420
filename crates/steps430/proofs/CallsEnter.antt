-- A function is entered: its frame comes into the same segment or the next one, or the run ends where it has no place.
use Rattle.std.proofs.Common.{◌≡◌, ◌≢◌, ℕ, ◌+◌, ◌-◌, ◌%◌, ◌<◌, ◌≤◌, refl, sym, ap, ◌∙◌, subst, arith, Bool, true, false, ◌⊎◌, inl, inr, List, [], ◌∷◌, reverse, drop, Option, Some, None}
use Rattle.std.proofs.lemmas.Bool.Decides.{nat_tests}
use Rattle.std.specs.Prelude.{nat_eq, nat_lt, slice_get}
use Rattle.base16.specs.Board.{stack_start, stack_end, segment_start, segment_top}
use Rattle.base16.specs.Placement.{frame_below}
use Rattle.base16.specs.declared.end.EndKind.TheVariants.{StackFull, Done, Wild}
use Rattle.base16.specs.declared.reading.Reading.{Reading}
use Rattle.isa430.specs.declared.instr.OneOp.TheVariants.{Call}
use Rattle.isa430.specs.declared.instr.Src.TheVariants.{Immediate}
use Rattle.isa430.specs.declared.instr.Instr.TheVariants.{One}
use Rattle.core430.specs.Registers.{set_reg}
use Rattle.run430.specs.Code.{Here}
use Rattle.ideal430.specs.Ideal.{Ideal, Meter, stopped}
use Rattle.ideal430.specs.Service.{is_linked, link_address}
use Rattle.ideal430.specs.Settled.{Bytes}
use Rattle.ideal430.specs.declared.state.IdealEnd.TheVariants.{Ended}
use Rattle.c_run.specs.Actions.{kept, top_of}
use Rattle.c_values.specs.declared.state.Call.{Call as CCall}
use Rattle.c_values.specs.declared.state.State.{State}
use Rattle.c_values.specs.declared.value.Value.{Value}
use Rattle.cells430.specs.Cells.{Cell, Word, Cells, Shape, set_cell}
use Rattle.cells430.specs.Stretch.{StepsTo, outside, at, Leads}
use Rattle.cells430.proofs.Cells.{set_cell-same, set_cell-other, none_below}
use Rattle.cells430.proofs.Framed.{framed_out, framed_shape, framed_facts}
use Rattle.cells430.proofs.Frames.{enters, enter_full}
use Rattle.cells430.proofs.Lift.{leads_now}
use Rattle.cells430.proofs.Segments.{none_above, linked_shape, enters_next}
use Rattle.ir.specs.declared.control.Frame.{Frame}
use Rattle.ir.specs.declared.form.IrFunction.{IrFunction}
use Rattle.ir.specs.declared.form.Step.{Step}
use Rattle.matching.specs.Matches.{placed}
use Rattle.select430.specs.Frames.{temporaries_at}
use Rattle.steps430.specs.Setting.{Setting, FrameFits, function_of, or_none}
use Rattle.steps430.specs.Holds.{Holds, calling}
use Rattle.steps430.specs.Standing.{ReturnsHere, Stacked, return_to, Stage}
use Rattle.steps430.specs.Follows.{HasEnded}
use Rattle.steps430.specs.Calls.{FramesLaid, AreKnown}
use Rattle.steps430.proofs.FramesStay.{On, InHere, InOlder}
use Rattle.steps430.proofs.FramesGrown.{stacked_without, after_enter, next_after, held_then, stack_then, entered_stage}
use Rattle.steps430.proofs.FramesLeft.{no_cell, matches_by}
use Rattle.steps430.proofs.Moves.{level}
use Rattle.steps430.proofs.FramesPlaced.{placed_here, placed_next, placed_nowhere, top_is, frame_cells, frame_layout, all_with, own_with, clear_with, above_with, grows_with}
use Rattle.steps430.proofs.CallsReturn.{inner_below}

full_fair : (a : ℕ) → StackFull ≡ Wild a → ⊥
full_fair a k = cc

full_left : StackFull ≡ Done → ⊥
full_left k = cc

-- ---- the callers

base_top : (p : Setting) (all own : Cells) (g sp : ℕ) (ls : List Frame) (cs : List CCall) → Stacked p all own g sp ls cs
    → sp ≤ segment_top g
base_top p all own g sp [] [] h = let a = h.0 in let b = h.1 in omega arith
base_top p all own g sp (l ∷ ls) cs h = let a = inner_below p all own g sp l ls cs h in omega arith
base_top p all own g sp [] (c ∷ cs) h = absurd h

no_link_at : (p : Setting) (all own : Cells) (g sp end : ℕ) (ls : List Frame) (cs : List CCall)
    → Stacked p all own g (sp + 2) ls cs
    → end ≡ sp → is_linked g end ≡ false
no_link_at p all own g sp end [] [] h e = let a = h.0 in grind (arith, nat_tests)
no_link_at p all own g sp end (l ∷ ls) cs h e = let a = inner_below p all own g (sp + 2) l ls cs h in grind (arith, nat_tests)
no_link_at p all own g sp end [] (c ∷ cs) h e = absurd h

-- a word behind a frame
behind_frame : (P : ℕ → Type 0) (low end b : ℕ) → ((a : ℕ) → low ≤ a → a < end → P a) → P end → P (end + 1) → low ≤ b
    → b < end + 2 → P b
behind_frame P low end b inside first second l h = by (nat_lt b end) (nat_eq b end) refl refl
  where
    lower : nat_lt b end ≡ true → b < end
    lower k = grind (arith, nat_tests)

    same : nat_eq b end ≡ true → b ≡ end
    same k = grind (arith, nat_tests)

    next : nat_lt b end ≡ false → nat_eq b end ≡ false → b ≡ end + 1
    next k j = grind (arith, nat_tests)

    by : (i j : Bool) → nat_lt b end ≡ i → nat_eq b end ≡ j → P b
    by true j a c = inside b l (lower a)
    by false true a c = subst P (sym (same c)) first
    by false false a c = subst P (sym (next a c)) second

abbrev no_steps : List Step
no_steps = []

pub has_function : (p : Setting) (f q : ℕ) (x : Step) → slice_get (function_of p f).steps q ≡ Some x
    → slice_get p.ir.functions f ≡ Some (function_of p f)
has_function p f q x e = from (slice_get p.ir.functions f) refl
  where
    no_step : slice_get no_steps q ≡ Some x → ⊥
    no_step k = cc

    from : (o : Option IrFunction) → slice_get p.ir.functions f ≡ o → slice_get p.ir.functions f ≡ Some (or_none (slice_get
        p.ir.functions f))
    from (Some fn) is = is ∙ ap (λ (k : Option IrFunction). Some (or_none k)) (sym is)
    from None is = absurd (no_step (ap (λ (k : Option IrFunction). slice_get (or_none k).steps q) (sym is) ∙ e))

-- ---- the frame comes

-- one instruction enters the function: the frame of the call is there, and the arguments are where they were
pub record IsEntered (p : Setting) (s : State) (next f : ℕ) (args : List Value) (below : List Frame) (r : ℕ → ℕ) (marks : ℕ)
    (rest : List Reading) (t : Ideal) : Type 0 where
  pub frame : ℕ
  pub place : frame_below (top_of s) (function_of p f).frame ≡ Some frame
  pub all : Cells
  pub own : Cells
  pub segment : ℕ
  pub pointers : ℕ → ℕ
  pub registers : ℕ → ℕ
  pub m : ℕ → ℕ
  pub settled : Bytes
  pub meter : Meter
  pub step : StepsTo t (at segment pointers registers m settled (outside (marks + 1) rest) meter)
  pub stage : Stage p (after_enter p f frame next s) (next_after p f next) (level f 1 next [] ∷ below) all own segment frame
      frame pointers
      registers m settled
  pub low : segment_start segment + 4 ≤ frame
  pub pc : registers 0 ≡ r 0 + 4
  pub argument : registers 14 ≡ r 14
  pub held : Holds p.ir all (placed p.core (kept (after_enter p f frame next s))) (calling args below) (reverse s.calls)

module _ (p : Setting) (laid : FramesLaid p) (s : State) (next f : ℕ) (args : List Value) (below : List Frame)
    (is_one : slice_get p.ir.functions f ≡ Some (function_of p f)) (fits : FrameFits (function_of p f))
    (known : AreKnown p.core next s (calling args below)) (all own : Cells) (sp : ℕ) (ps r m : ℕ
    → ℕ) (st : Bytes) (rest : List Reading)
    (y : Meter) (here : Here p.code p.low p.high (r 0) (One Call false (Immediate 65282))) (is : r 15 ≡ (function_of p f).frame)
    (g : ℕ) (h : Stage p s next (calling args below) all own g (sp + 2) sp ps r m st)
    (back : all sp ≡ Some (Word (Some (return_to p below)))) (free : own sp ≡ None) where
  abbrev fn : IrFunction
  fn = function_of p f

  stack : Stacked p all own g (sp + 2) below (reverse s.calls)
  stack = stacked_without p all own g (sp + 2) args below (reverse s.calls) h.stacked

  under : sp + 2 ≤ segment_top g
  under = base_top p all own g (sp + 2) below (reverse s.calls) stack

  top_at : top_of s ≡ sp + 2
  top_at = top_is p all own g (sp + 2) below s stack

  even_sp : sp % 2 ≡ 0
  even_sp = (h.shape.fits sp (Word (Some (return_to p below))) back).0

  -- in the same segment
  pub enters_here : segment_start g + fn.frame + 4 ≤ sp
      → IsEntered p s next f args below r s.marks rest (at g ps r m st (outside s.marks rest) y)
  enters_here room =
      let local = laid.locals f fn is_one in
      let bytes : ℕ = fn.frame in
      let frame : ℕ = sp - bytes in
      let inner : Cells = local.inner in
      let base = h.ground.base in
      let last = h.ground.last in
      let top = h.ground.top in
      let u = under in
      let even = even_sp in
      let even2 = fits.even in
      let objects = fits.objects in
      let start : stack_start ≤ frame = omega arith in
      let end : frame + bytes ≡ sp = omega arith in
      let high : frame + bytes ≤ stack_end = omega arith in
      let empty : (b : ℕ) → frame ≤ b → b < frame + bytes → all b ≡ None =
      (λ b l k. none_below p.code p.low p.high g sp ps h.ground.low all h.shape b (omega arith) (omega arith) top last) in
      let off : (b : ℕ) → On g (sp + 2) b → (b < frame) ⊎ (frame + bytes ≤ b) = off_here frame (omega arith) (omega arith) in
      let all2 : Cells = all_with fn inner fits local.layout all all own g (sp + 2) frame start high off (λ b k. refl) (λ b k.
      refl) h.part empty in
      let own2 : Cells = own_with fn inner fits local.layout all all own g (sp + 2) frame start high off (λ b k. refl) (λ b k.
      refl) h.part empty in
      let grows = grows_with fn inner fits local.layout all all own g (sp + 2) frame start high off (λ b k. refl) (λ b k. refl)
      h.part empty in
      let layout = frame_layout fn inner fits local.layout in
      let place : frame_below (top_of s) bytes ≡ Some frame =
      ap (λ (k : ℕ). frame_below k bytes) top_at ∙ placed_here g sp bytes (omega arith) (omega arith) fits.most room in
      let above : (b : ℕ) → frame + bytes ≤ b → own2 b ≡ own b =
      (λ b l. above_with fn inner fits local.layout all all own g (sp + 2) frame start high off (λ b k. refl) (λ b k. refl)
      h.part empty b l) in
      let clear : (b : ℕ) → frame + temporaries_at fn ≤ b → b < frame + bytes + 2 → own2 b ≡ None =
      (λ b l k. behind_frame (λ (a : ℕ). own2 a ≡ None) (frame + temporaries_at fn) (frame + bytes) b
      (λ a i j. clear_with fn inner fits local.layout all all own g (sp + 2) frame start high off (λ b k. refl) (λ b k. refl)
      h.part empty a i j)
      (above (frame + bytes) (omega arith) ∙ ap own end ∙ free)
      (above (frame + bytes + 1) (omega arith) ∙ ap (λ (a : ℕ). own (a + 1)) end
      ∙ no_cell all own (sp + 1) h.part (h.shape.fits sp (Word (Some (return_to p below))) back).1) l k) in
      let r2 : ℕ → ℕ = set_reg (set_reg r 0 (r 0 + 4)) 1 (sp - bytes) in
      let come = enters p.code p.low p.high g sp ps h.ground all h.shape r m st (outside s.marks rest) y bytes h.facts h.words
      here h.stack is
      fits.even fits.least fits.most room (omega arith) in
      record {
        frame = frame;
        place = place;
        all = all2;
        own = own2;
        segment = g;
        pointers = ps;
        registers = r2;
        m = come.memory;
        settled = come.settled;
        meter = come.meter;
        step = come.step;
        stage = entered_stage p laid s next f frame args below is_one fits all own all2 own2 g (sp + 2) local grows known sp g ps
            ps r r2 m
            come.memory st come.settled h place clear
            (inl (subst (λ (k : ℕ). ReturnsHere all2 (return_to p below) g k
            × Stacked p all2 own2 g (k + 2) below (reverse s.calls)) (sym end) (
              record {
                word = framed_out frame bytes (frame_cells fn inner) all sp (inr (omega arith)) ∙ back;
                below = u;
                no_link = no_link_at p all own g sp sp below (reverse s.calls) stack refl;
              },
              stack_then p laid s next f frame args below is_one fits all own all2 own2 g (sp + 2) local grows known h.stacked,
            )))
            (record {
              low = h.ground.low;
              high = h.ground.high;
              base = omega arith;
              top = omega arith;
              last = last;
              even = omega
                  arith;
            })
            (framed_shape frame bytes (frame_cells fn inner) all layout g ps (omega arith) (omega arith) (omega arith) last
            (subst (λ (k : ℕ). Shape g k ps all) (sym end) h.shape))
            (framed_facts frame bytes (frame_cells fn inner) all layout p.code p.low p.high come.memory come.settled come.facts)
            come.words refl;
        low = omega arith;
        pc = refl;
        argument = refl;
        held = held_then p laid s next f frame args below is_one fits all own all2 own2 g (sp + 2) local grows known h.stacked
            h.holds;
      }
    where
      off_here : (frame : ℕ) → segment_start g ≤ frame → frame + fn.frame ≤ sp → (b : ℕ) → On g (sp + 2) b
          → (b < frame) ⊎ (frame + fn.frame ≤ b)
      off_here frame low high b (InHere k l) = inr (omega arith)
      off_here frame low high b (InOlder k l) = inl (omega arith)

  -- in the next one
  pub enters_above : sp < segment_start g + fn.frame + 4 → g < 31
      → IsEntered p s next f args below r s.marks rest (at g ps r m st (outside s.marks rest) y)
  enters_above full more =
      let local = laid.locals f fn is_one in
      let bytes : ℕ = fn.frame in
      let link : ℕ = link_address g in
      let frame : ℕ = link - bytes in
      let inner : Cells = local.inner in
      let base = h.ground.base in
      let top = h.ground.top in
      let u = under in
      let even = even_sp in
      let even2 = fits.even in
      let most = fits.most in
      let least = fits.least in
      let objects = fits.objects in
      let before : Cells = set_cell all link (Word (Some sp)) in
      let start : stack_start ≤ frame = omega arith in
      let end : frame + bytes ≡ link = omega arith in
      let high : frame + bytes ≤ stack_end = omega arith in
      let nothing : (b : ℕ) → segment_top g ≤ b → b < stack_end → all b ≡ None = (λ b l k. none_above g sp ps more all h.shape b
      l k) in
      let other : (b : ℕ) → b ≢ link → before b ≡ all b = (λ b k. set_cell-other all link b (Word (Some sp)) k) in
      let empty : (b : ℕ) → frame ≤ b → b < frame + bytes → before b ≡ None =
      (λ b l k. let n : b ≢ link = omega arith in other b n ∙ nothing b (omega arith) (omega arith)) in
      let none_link : own link ≡ None = no_cell all own link h.part (nothing link (omega arith) (omega arith)) in
      let among : (b : ℕ) (x : Cell) → own b ≡ Some x → before b ≡ Some x =
      (λ b x e. let n : b ≢ link = λ j. differ x (sym none_link ∙ ap own (sym j) ∙ e) in other b n ∙ h.part b x e) in
      let off : (b : ℕ) → On g (sp + 2) b → (b < frame) ⊎ (frame + bytes ≤ b) = off_above frame (omega arith) in
      let on_same : (b : ℕ) → On g (sp + 2) b → before b ≡ all b = (λ b k. other b (not_link link (omega arith) b k)) in
      let low_same : (b : ℕ) → b < stack_start → before b ≡ all b = (λ b k. let n : b ≢ link = omega arith in other b n) in
      let all2 : Cells = all_with fn inner fits local.layout all before own g (sp + 2) frame start high off on_same low_same
      among empty in
      let own2 : Cells = own_with fn inner fits local.layout all before own g (sp + 2) frame start high off on_same low_same
      among empty in
      let grows = grows_with fn inner fits local.layout all before own g (sp + 2) frame start high off on_same low_same among
      empty in
      let layout = frame_layout fn inner fits local.layout in
      let place : frame_below (top_of s) bytes ≡ Some frame =
      ap (λ (k : ℕ). frame_below k bytes) top_at ∙ placed_next g sp bytes (omega arith) (omega arith) fits.most full more in
      let above : (b : ℕ) → frame + bytes ≤ b → own2 b ≡ own b =
      (λ b l. above_with fn inner fits local.layout all before own g (sp + 2) frame start high off on_same low_same among empty b
      l) in
      let clear : (b : ℕ) → frame + temporaries_at fn ≤ b → b < frame + bytes + 2 → own2 b ≡ None =
      (λ b l k. behind_frame (λ (a : ℕ). own2 a ≡ None) (frame + temporaries_at fn) (frame + bytes) b
      (λ a i j. clear_with fn inner fits local.layout all before own g (sp + 2) frame start high off on_same low_same among empty
      a i j)
      (above (frame + bytes) (omega arith) ∙ ap own end ∙ none_link)
      (above (frame + bytes + 1) (omega arith) ∙ ap (λ (a : ℕ). own (a + 1)) end
      ∙ no_cell all own (link + 1) h.part (nothing (link + 1) (omega arith) (omega arith))) l k) in
      let r2 : ℕ → ℕ = set_reg (set_reg r 0 (r 0 + 4)) 1 (link - bytes) in
      let ps2 : ℕ → ℕ = set_reg ps g sp in
      let come = enters_next p.code p.low p.high g sp ps h.ground all h.shape r m st s.marks rest y bytes h.facts h.words here
      h.stack is
      fits.even fits.least fits.most full (omega arith) more in
      let at_link : link - 0 ≡ frame + bytes = omega arith in
      let below_frame : sp < frame = omega arith in
      record {
        frame = frame;
        place = place;
        all = all2;
        own = own2;
        segment = g + 1;
        pointers = ps2;
        registers = r2;
        m = come.memory;
        settled = come.settled;
        meter = come.meter;
        step = come.step;
        stage = entered_stage p laid s next f frame args below is_one fits all own all2 own2 g (sp + 2) local grows known sp (g +
            1) ps ps2 r r2 m
            come.memory st come.settled h place clear
            (inr (
              g,
              sp,
              record {
                next = refl;
                top = omega arith;
                link = framed_out frame bytes (frame_cells fn inner) before (frame + bytes) (inr (omega arith)) ∙ ap before end
                    ∙ set_cell-same all link link (Word (Some sp)) refl;
                low = base;
                high = omega arith;
                word = framed_out frame bytes (frame_cells fn inner) before sp (inl below_frame)
                    ∙ other sp (let n : sp ≢ link = omega arith in n) ∙ back;
                clear = framed_out frame (temporaries_at fn) inner own sp (inl below_frame) ∙ free;
              },
              stack_then p laid s next f frame args below is_one fits all own all2 own2 g (sp + 2) local grows known h.stacked,
            ))
            (record {
              low = h.ground.low;
              high = h.ground.high;
              base = omega arith;
              top = omega arith;
              last = omega arith;
              even =
                  omega arith;
            })
            (framed_shape frame bytes (frame_cells fn inner) before layout (g + 1) ps2 (omega arith) (omega arith) (omega arith)
            (omega arith)
            (subst (λ (k : ℕ). Shape (g + 1) k ps2 before) at_link (linked_shape g sp ps more all h.shape 0 (omega arith) (Some
            sp))))
            (framed_facts frame bytes (frame_cells fn inner) before layout p.code p.low p.high come.memory come.settled
            come.facts) come.words refl;
        low = omega arith;
        pc = refl;
        argument = refl;
        held = held_then p laid s next f frame args below is_one fits all own all2 own2 g (sp + 2) local grows known h.stacked
            h.holds;
      }
    where
      differ : (x : Cell) → None ≡ Some x → ⊥
      differ x k = cc

      off_above : (frame : ℕ) → segment_top g ≤ frame → (b : ℕ) → On g (sp + 2) b → (b < frame) ⊎ (frame + fn.frame ≤ b)
      off_above frame low b (InHere k l) = inl (omega arith)
      off_above frame low b (InOlder k l) = inl (omega arith)

      not_link : (link : ℕ) → segment_top g ≤ link → (b : ℕ) → On g (sp + 2) b → b ≢ link
      not_link link low b (InHere k l) = omega arith
      not_link link low b (InOlder k l) = omega arith

  -- nowhere
  pub enters_nowhere : (used : ℕ) → rest ≡ drop used p.readings → sp < segment_start g + fn.frame + 4 → g ≡ 31
      → (frame_below (top_of s) fn.frame ≡ None)
      × Leads 0 (at g ps r m st (outside s.marks rest) y) (HasEnded p StackFull s used)
  enters_nowhere used readings full top =
      let base = h.ground.base in
      let u = under in
      let come = enter_full p.code p.low p.high g sp ps h.ground all h.shape r m st (outside s.marks rest) y fn.frame h.facts
      h.words here h.stack
      is fits.even fits.least fits.most full (omega arith) top in
      let r2 : ℕ → ℕ = set_reg (set_reg (set_reg r 0 (r 0 + 4)) 1 (sp - 2)) 0 65282 in
      let v : Ideal = stopped (at g ps r2 come.memory come.settled (outside s.marks rest) come.meter) (Ended StackFull) in (
        ap (λ (k : ℕ). frame_below k fn.frame) top_at ∙ placed_nowhere g sp fn.frame (omega arith) (omega arith) fits.most full
            top,
        leads_now 0 (at g ps r m st (outside s.marks rest) y) (HasEnded p StackFull s used) (record {
          next = v;
          step = come.step;
          ended = refl;
          marks = refl;
          taken = readings;
          matches = matches_by p.core s p.code p.low p.high g sp ps r2 come.memory come.settled all own s.marks (outside
              s.marks rest) come.meter
              (Ended StackFull) refl h.no_block h.shape come.facts h.part h.covered;
          fair = full_fair;
          left = λ k. absurd (full_left k);
        }),
      )

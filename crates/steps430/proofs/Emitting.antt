-- The step that emits a value: one output more, and the end of the run where there is no place for it.
use Rattle.std.proofs.Common.{◌≡◌, ◌≢◌, ℕ, zero, suc, ◌+◌, ◌*◌, ◌<◌, ◌≤◌, refl, sym, ap, ◌∙◌, subst, arith, Bool, true, false, ◌⊎◌, inl, inr, List, [], ◌∷◌, ◌++◌, length, length-append, reverse, drop, Option, Some, None, if◌then◌else◌}
use Rattle.std.proofs.Math.Path.{fun_ext}
use Rattle.std.proofs.lemmas.Bool.{cases_eq}
use Rattle.std.proofs.lemmas.Bool.Decides.{nat_tests}
use Rattle.std.specs.Prelude.{ℤ, nat_lt}
use Rattle.base16.specs.Board.{outputs_start, outputs_end, stack_start, segment_start}
use Rattle.base16.specs.Integer.{wrapped}
use Rattle.base16.specs.declared.end.EndKind.TheVariants.{OutputFull, Done, Wild}
use Rattle.core430.specs.Registers.{set_reg}
use Rattle.core430.specs.Uses.{AreWords}
use Rattle.core_tree.specs.Data.{stamp_address}
use Rattle.core_tree.specs.LawfulCore.{Every}
use Rattle.core_tree.specs.declared.program.Core.{Core}
use Rattle.ideal430.specs.Places.{is_between}
use Rattle.ideal430.specs.Ideal.{Ideal, Meter, stopped}
use Rattle.ideal430.specs.Settled.{Bytes}
use Rattle.c_run.specs.Actions.{kept, emit, count, count_in}
use Rattle.c_run.specs.Runs.{Run, Outcome, Action, ◌>>=◌, ◌>>◌, and_then, pure, changed, ended, counted, mark}
use Rattle.c_values.specs.declared.state.Call.{Call}
use Rattle.c_values.specs.declared.state.State.{State}
use Rattle.c_values.specs.declared.value.Cell.{Cell as Scalar}
use Rattle.cells430.specs.Cells.{Cell, Word, Cells, set_cell, Live, OfOutput, OfData, OfFrame, OfOlder, Shape, Facts, with_outputs}
use Rattle.cells430.proofs.Cells.{set_cell-same, set_cell-other}
use Rattle.cells430.proofs.OutputCells.{inside, where_is, outer, place_cell, outputs_shape, outputs_after}
use Rattle.ir.specs.declared.control.Frame.{Frame}
use Rattle.matching.specs.Covering.{ScalarsCovered, Covered, WordsCovered, StampsCovered}
use Rattle.matching.specs.Matches.{Placed, placed, encoded}
use Rattle.matching.proofs.Storing.{cell_stays}
use Rattle.select430.specs.Frames.{temporaries_at}
use Rattle.steps430.specs.Setting.{Setting, function_of, step_at, IsNamed, operand_bases, IsLaid}
use Rattle.steps430.specs.Holds.{is_defined, temporary_code, IsHeld, AreHeld, CallHolds, Holds}
use Rattle.steps430.specs.Standing.{IsFilled, AreFilled, return_to, IsFrame, ReturnsHere, ReturnsBelow, Stacked, Stage}
use Rattle.steps430.specs.Outside.{StandBehind, MeetsOutside}
use Rattle.ir.specs.declared.control.Temporary.{Temporary}
use Rattle.isa430.specs.declared.instr.OneOp.TheVariants.{Call as Calls}
use Rattle.isa430.specs.declared.instr.Src.TheVariants.{Immediate}
use Rattle.isa430.specs.declared.instr.Instr.TheVariants.{One}
use Rattle.run430.specs.Code.{Here}
use Rattle.ideal430.specs.declared.state.IdealEnd.TheVariants.{Running, Ended}
use Rattle.c_values.specs.declared.state.Saved.{Saved}
use Rattle.c_values.specs.declared.value.Value.{Value}
use Rattle.c_values.specs.declared.value.Value.TheVariants.{Int, Pointer, Null, Undefined}
use Rattle.cells430.specs.Stretch.{outside, at, Comes, Leads, behind, reached_regs}
use Rattle.cells430.proofs.Lift.{leads_now}
use Rattle.cells430.proofs.Outputs.{emits, emit_full}
use Rattle.ir.specs.declared.control.Temporary.TheVariants as temporary
use Rattle.ir.specs.declared.control.Control.{Control}
use Rattle.ir.specs.declared.form.IrFunction.{IrFunction}
use Rattle.ir.specs.declared.form.Operand.{Operand}
use Rattle.ir.specs.declared.form.StepKind.TheVariants as step
use Rattle.ir.specs.Machine.{gave}
use Rattle.ir.specs.Table.{taken}
use Rattle.select430.specs.Code.{bring, service}
use Rattle.steps430.specs.Follows.{Follows, DoesStep, HasEnded}
use Rattle.steps430.proofs.Moves.{From, from_do, level, with_level}
use Rattle.steps430.proofs.Outcomes.{Gives, operand_follows, depth_follows}
use Rattle.steps430.proofs.Operands.{brings_value}
use Rattle.steps430.proofs.Steps.{begins, falls, stands_now, left_by}
use Rattle.steps430.proofs.Plain.{room_of}
use Rattle.steps430.proofs.Marks.{follows_after}
use Rattle.steps430.proofs.Marking.{stage_matches, mark_in}

-- ---- the state of a mark

-- a stage with one mark more, other registers and another memory
marked_stage : (p : Setting) (s : State) (next : ℕ) (frames : List Frame) (all own : Cells) (segment base sp : ℕ)
    (ps r m r2 m2 : ℕ → ℕ)
    (st st2 : Bytes) → r2 1 ≡ sp → AreWords r2 → Facts p.code p.low p.high all m2 st2
    → Stage p s next frames all own segment base sp ps r m st → Stage p (counted s) next frames all own segment base sp ps r2 m2
    st2
marked_stage p s next frames all own segment base sp ps r m r2 m2 st st2 e wide facts h = record {
  ground = h.ground;
  shape = h.shape;
  facts = facts;
  words = wide;
  stack = e;
  part = h.part;
  covered = h.covered;
  made = h.made;
  filled = h.filled;
  whole = h.whole;
  outputs = h.outputs;
  stacked = h.stacked;
  holds = h.holds;
  no_block = h.no_block;
}

-- a temporary that is missing is put on top
with_missing : (p : Setting) (s : State) (next : ℕ) (all own : Cells) (segment base sp : ℕ) (ps : ℕ → ℕ) (f q q2 first : ℕ)
    (ts : List Temporary) (ls : List Frame) (r m : ℕ → ℕ) (st : Bytes)
    → temporaries_at (function_of p f) + 2 * length ts + 2 ≤ (function_of p f).frame
    → Stage p s next (level f q first ts ∷ ls) all own segment base sp ps r m st
    → Stage p s next (level f q2 first (temporary.Value Undefined ∷ ts) ∷ ls) all own segment base sp ps r m st
with_missing p s next all own segment base sp ps f q q2 first ts ls r m st room h =
    with_level p s next all own segment base sp ps f q q2 first ts (temporary.Value Undefined ∷ ts) ls r m st
    (λ a k. record { words = k.words; room = omega arith; held = (k.words (length ts) (omega arith), k.held) }) h

-- ---- the stack stays where cells below it change

module _ (p : Setting) (all all2 own own2 : Cells) (same : (b : ℕ) → stack_start ≤ b → all2 b ≡ all b)
    (same_own : (b : ℕ) → stack_start ≤ b → own2 b ≡ own b) where
  here_same : (to g end : ℕ) → stack_start ≤ end → ReturnsHere all to g end → ReturnsHere all2 to g end
  here_same to g end l h = record { word = same end l ∙ h.word; below = h.below; no_link = h.no_link }

  below_same : (to g end older b : ℕ) → stack_start ≤ end → ReturnsBelow all own to g end older b
      → ReturnsBelow all2 own2 to g end older b
  below_same to g end older b l h =
      let low = h.low in
      record {
        next = h.next;
        top = h.top;
        link = same end l ∙ h.link;
        low = h.low;
        high = h.high;
        word = same b (omega arith) ∙ h.word;
        clear = same_own b (omega arith) ∙ h.clear;
      }

  frame_same : (l : Frame) (c : Call) (sp : ℕ) → stack_start ≤ sp → IsFrame p own l c sp → IsFrame p own2 l c sp
  frame_same l c sp low h = record {
    frame = h.frame;
    function = h.function;
    numbers = h.numbers;
    locals = h.locals;
    objects = h.objects;
    clear = λ b i j. same_own b (omega arith) ∙ h.clear b i j;
  }

  stack_same : (g sp : ℕ) (ls : List Frame) (cs : List Call) → stack_start ≤ sp → Stacked p all own g sp ls cs
      → Stacked p all2 own2 g sp ls cs
  stack_same g sp [] [] low h = h
  stack_same g sp [] (c ∷ cs) low h = h
  stack_same g sp (l ∷ ls) [] low h = h
  stack_same g sp (l ∷ ls) (c ∷ cs) low h =
      (frame_same l c sp low h.0, from (λ g2 sp2 k j. stack_same g2 sp2 ls cs k j) h.1)
    where
      end : ℕ
      end = sp + (function_of p l.function).frame

      from : ((g2 sp2 : ℕ) → stack_start ≤ sp2 → Stacked p all own g2 sp2 ls cs → Stacked p all2 own2 g2 sp2 ls cs)
          → ((ReturnsHere all (return_to p ls) g end × Stacked p all own g (end + 2) ls cs)
          ⊎ ((older : ℕ) × (b : ℕ) × ReturnsBelow all own (return_to p ls) g end older b × Stacked p all own older (b + 2) ls cs))
          → ((ReturnsHere all2 (return_to p ls) g end × Stacked p all2 own2 g (end + 2) ls cs)
          ⊎ ((older : ℕ) × (b : ℕ) × ReturnsBelow all2 own2 (return_to p ls) g end older b × Stacked p all2 own2 older (b + 2)
          ls cs))
      from more (inl k) = inl (here_same (return_to p ls) g end (omega arith) k.0, more g (end + 2) (omega arith) k.1)
      from more (inr k) =
          let at = k.2.low in
          inr (k.0, k.1, below_same (return_to p ls) g end k.0 k.1 (omega arith) k.2, more k.0 (k.1 + 2) (omega arith) k.3)

  held_same : (b : ℕ) (d : Bool) (o : Option ℕ) → stack_start ≤ b → IsHeld all b d o → IsHeld all2 b d o
  held_same b true o l h = (h.0, same b l ∙ h.1, h.2)
  held_same b false o l h = (h.0, same b l ∙ h.1)

  all_held_same : (alive : List Placed) (base : ℕ) (ts : List Temporary) → stack_start ≤ base → AreHeld all alive base ts
      → AreHeld all2 alive base ts
  all_held_same alive base [] l h = tt
  all_held_same alive base (t ∷ ts) l h = (
    held_same (base + 2 * length ts) (is_defined t) (temporary_code alive t) (omega arith) h.0,
    all_held_same alive base ts l
        h.1,
  )

  holds_same : (alive : List Placed) (g sp : ℕ) (ls : List Frame) (cs : List Call) → stack_start ≤ sp → Stacked p all own g sp
      ls cs
      → Holds p.ir all alive ls cs → Holds p.ir all2 alive ls cs
  holds_same alive g sp [] [] low s h = tt
  holds_same alive g sp [] (c ∷ cs) low s h = absurd s
  holds_same alive g sp (l ∷ ls) [] low s h = absurd s
  holds_same alive g sp (l ∷ ls) (c ∷ cs) low s h = (mine, from (λ g2 sp2 k j. holds_same alive g2 sp2 ls cs k j h.1) s.1)
    where
      end : ℕ
      end = sp + (function_of p l.function).frame

      mine : CallHolds all2 alive (function_of p l.function) c.frame l.temporaries
      mine =
          let e = s.0.frame in
          record {
            words = λ d k. let w = h.0.words d k in (w.0, same _ (omega arith) ∙ w.1);
            room = h.0.room;
            held = all_held_same alive (c.frame + temporaries_at (function_of p l.function)) l.temporaries (omega arith) h.0.held;
          }

      from : ((g2 sp2 : ℕ) → stack_start ≤ sp2 → Stacked p all own g2 sp2 ls cs → Holds p.ir all2 alive ls cs)
          → ((ReturnsHere all (return_to p ls) g end × Stacked p all own g (end + 2) ls cs)
          ⊎ ((older : ℕ) × (b : ℕ) × ReturnsBelow all own (return_to p ls) g end older b × Stacked p all own older (b + 2) ls cs))
          → Holds p.ir all2 alive ls cs
      from more (inl k) = more g (end + 2) (omega arith) k.1
      from more (inr k) = let at = k.2.low in more k.0 (k.1 + 2) (omega arith) k.3

-- ---- a cell that is set before all scalars

set_part : (own all : Cells) (a : ℕ) (x : Cell) → ((b : ℕ) (y : Cell) → own b ≡ Some y → all b ≡ Some y)
    → (b : ℕ) (y : Cell) → set_cell own a x b ≡ Some y → set_cell all a x b ≡ Some y
set_part own all a x part b y e = from (cases_eq b a)
  where
    from : ((b ≡ a) ⊎ (b ≡ a → ⊥)) → set_cell all a x b ≡ Some y
    from (inl k) = set_cell-same all a b x k ∙ sym (set_cell-same own a b x k) ∙ e
    from (inr n) = set_cell-other all a b x n ∙ part b y (sym (set_cell-other own a b x n) ∙ e)

module _ (own : Cells) (a : ℕ) (x : Cell) (before : a < outputs_end) where
  scalars_set : (alive : List Placed) (base : ℕ) (cs : List Scalar) → Every (λ c. outputs_end ≤ base + c.offset) cs
      → ScalarsCovered own alive base cs → ScalarsCovered (set_cell own a x) alive base cs
  scalars_set alive base [] k h = tt
  scalars_set alive base (c ∷ cs) k h =
      let l = k.0 in (
        cell_stays own a (base + c.offset) x c.kind (encoded alive c.kind c.value) (omega arith) h.0,
        scalars_set alive base cs k.1 h.1,
      )

  objects_set : (alive ps : List Placed) → Every StandBehind ps → Covered own alive ps → Covered (set_cell own a x) alive ps
  objects_set alive [] k h = tt
  objects_set alive (q ∷ ps) k h = (scalars_set alive q.address q.object.cells k.0 h.0, objects_set alive ps k.1 h.1)

  stamps_set : (core : Core) (n : ℕ) (xs : List (Option ℕ)) → ((i : ℕ) → outputs_end ≤ stamp_address core i)
      → StampsCovered own core n xs → StampsCovered (set_cell own a x) core n xs
  stamps_set core n [] k h = tt
  stamps_set core n (s ∷ xs) k h =
      let l = k n in
      let n1 : stamp_address core n ≢ a = omega arith in
      let n2 : stamp_address core n + 2 ≢ a = omega arith in (
        record { low = set_cell-other own a _ x n1 ∙ h.0.low; high = set_cell-other own a _ x n2 ∙ h.0.high },
        stamps_set core (n + 1) xs k h.1,
      )

  cells_filled : (base : ℕ) (cs : List Scalar) → Every (λ c. outputs_end ≤ base + c.offset) cs → Every (IsFilled own base) cs
      → Every (IsFilled (set_cell own a x) base) cs
  cells_filled base [] k h = tt
  cells_filled base (c ∷ cs) k h =
      let l = k.0 in
      let n : base + c.offset ≢ a = omega arith in
      (record { word = λ e. let w = h.0.word e in (w.0, set_cell-other own a _ x n ∙ w.1) }, cells_filled base cs k.1 h.1)

  filled_set : (ps : List Placed) → Every StandBehind ps → AreFilled own ps → AreFilled (set_cell own a x) ps
  filled_set [] k h = tt
  filled_set (q ∷ ps) k h = (cells_filled q.address q.object.cells k.0 h.0, filled_set ps k.1 h.1)

-- ---- words of outputs

-- a cell that is set below words
words_below : (f : Cells) (b a : ℕ) (x : Cell) (ws : List ℕ) → b < a → WordsCovered f a ws → WordsCovered (set_cell f b x) a ws
words_below f b a x [] l h = tt
words_below f b a x (w ∷ ws) l h =
    let n : a ≢ b = omega arith in (set_cell-other f b a x n ∙ h.0, words_below f b (a + 2) x ws (omega arith) h.1)

-- and a word behind them
words_more : (f : Cells) (a c : ℕ) (ws : List ℕ) (w : ℕ) → c ≡ a + 2 * length ws → WordsCovered f a ws
    → WordsCovered (set_cell f c (Word (Some w))) a (ws ++ w ∷ [])
words_more f a c [] w e h = (set_cell-same f c a (Word (Some w)) (omega arith), tt)
words_more f a c (v ∷ ws) w e h =
    let n : a ≢ c = omega arith in
    (set_cell-other f c a (Word (Some w)) n ∙ h.0, words_more f (a + 2) c ws w (omega arith) h.1)

-- each word has its cell
word_at : (f : Cells) (a i : ℕ) (ws : List ℕ) → i < length ws → WordsCovered f a ws → (v : ℕ) ×
    (f (a + 2 * i) ≡ Some (Word (Some v)))
word_at f a i [] l h = absurd (none l)
  where
    none : i < 0 → ⊥
    none k = omega arith
word_at f a zero (w ∷ ws) l h = let e : a + 2 * 0 ≡ a = omega arith in (w, ap f e ∙ h.0)
word_at f a (suc i) (w ∷ ws) l h =
    let m = word_at f (a + 2) i ws (omega arith) h.1 in
    let e : a + 2 * suc i ≡ a + 2 + 2 * i = omega arith in (m.0, ap f e ∙ m.1)

-- behind the outputs and below the stack nothing lives
no_place : (segment sp : ℕ) (ps : ℕ → ℕ) → Live segment sp ps outputs_end → ⊥
no_place segment sp ps (OfOutput a b) = omega arith
no_place segment sp ps (OfData a b) = omega arith
no_place segment sp ps (OfFrame a b c d) = omega arith
no_place segment sp ps (OfOlder a b c d) = omega arith

-- ---- the stage behind an output

-- a state with one output more
abbrev pub with_output : ℕ → State → State
with_output w s = record s { outputs = s.outputs ++ w ∷ [] }

module _ (p : Setting) (out : MeetsOutside p) (s : State) (next : ℕ) (frames : List Frame) (all own : Cells) (segment base sp : ℕ)
    (ps r m : ℕ → ℕ) (st : Bytes) (h : Stage p s next frames all own segment base sp ps r m st)
    (low : stack_start ≤ base) where
  -- the cells of outputs are among the cells
  all_outputs : all ≡ with_outputs s.outputs all
  all_outputs = fun_ext (λ b. from b (where_is b))
    where
      from : (b : ℕ) → (((outputs_start ≤ b) × (b < outputs_end)) ⊎ (is_between outputs_start outputs_end b ≡ false))
          → all b ≡ with_outputs s.outputs all b
      from b (inl k) = h.outputs b k.0 k.1 ∙ sym (inside s.outputs all b k.0 k.1)
      from b (inr k) = sym (outer s.outputs all b k)

  -- no more than 256 outputs are there
  most : length s.outputs ≤ 256
  most = from (nat_lt 256 (length s.outputs)) refl
    where
      none : 256 < length s.outputs → length s.outputs ≤ 256
      none l =
          let w = word_at own (outputs_start + 2) 256 s.outputs l h.covered.outputs in
          let cell : all outputs_end ≡ Some (Word (Some w.0)) = h.part outputs_end (Word (Some w.0)) w.1 in
          absurd (no_place segment sp ps (h.shape.live outputs_end (Word (Some w.0)) cell))

      from : (b : Bool) → nat_lt 256 (length s.outputs) ≡ b → length s.outputs ≤ 256
      from true e = none (grind (arith, nat_tests))
      from false e = grind (arith, nat_tests)

  abbrev place : ℕ
  place = outputs_start + 2 + 2 * length s.outputs

  abbrev put_in : ℕ → Cells → Cells
  put_in w f = set_cell (set_cell f place (Word (Some w))) outputs_start (Word (Some (length s.outputs + 1)))

  put_is : (w : ℕ) → length s.outputs < 256 → put_in w all ≡ with_outputs (s.outputs ++ (w ∷ [])) all
  put_is w room = ap (put_in w) all_outputs ∙ outputs_after s.outputs all w room

  put_off : (w : ℕ) (f : Cells) (b : ℕ) → length s.outputs < 256 → stack_start ≤ b → put_in w f b ≡ f b
  put_off w f b room l =
      let n1 : b ≢ outputs_start = omega arith in
      let n2 : b ≢ place = omega arith in
      set_cell-other (set_cell f place (Word (Some w))) outputs_start b (Word (Some (length s.outputs + 1))) n1
      ∙ set_cell-other f place b (Word (Some w)) n2

  pub stage_emitted : (w : ℕ) (r2 m2 : ℕ → ℕ) (st2 : Bytes) → length s.outputs < 256 → r2 1 ≡ sp → AreWords r2
      → Facts p.code p.low p.high (put_in w all) m2 st2
      → Stage p (with_output w s) next frames (put_in w all) (put_in w own) segment base sp ps r2 m2 st2
  stage_emitted w r2 m2 st2 room e wide facts =
      let one : Cell = Word (Some w) in
      let count : Cell = Word (Some (length s.outputs + 1)) in
      let behind = out.scalars next (kept s) h.made in
      let first : place < outputs_end = omega arith in
      let zeroth : outputs_start < outputs_end = omega arith in
      record {
        ground = h.ground;
        shape = subst (Shape segment sp ps) (sym (put_is w room)) (outputs_shape segment sp ps (s.outputs ++ (w ∷ [])) all
            h.shape);
        facts = facts;
        words = wide;
        stack = e;
        part = set_part (set_cell own place one) (set_cell all place one) outputs_start count (set_part own all place one h.part);
        covered = record {
          objects = objects_set (set_cell own place one) outputs_start count zeroth (placed p.core (kept s))
              (placed p.core (kept s)) behind
              (objects_set own place one first (placed p.core (kept s)) (placed p.core (kept s)) behind h.covered.objects);
          stamps = stamps_set (set_cell own place one) outputs_start count zeroth p.core 0 s.stamps out.stamps
              (stamps_set own place one first p.core 0 s.stamps out.stamps h.covered.stamps);
          count = set_cell-same (set_cell own place one) outputs_start outputs_start count refl
              ∙ ap (λ (k : ℕ). Some (Word (Some k))) (sym (length-append s.outputs (w ∷ [])));
          outputs = words_below (set_cell own place one) outputs_start (outputs_start + 2) count (s.outputs ++ (w ∷ []))
              (omega arith)
              (words_more own (outputs_start + 2) place s.outputs w (omega arith) h.covered.outputs);
        };
        made = record { globals = h.made.globals; calls = h.made.calls; frames = h.made.frames };
        filled = filled_set (set_cell own place one) outputs_start count zeroth (placed p.core (kept s)) behind
            (filled_set own place one first (placed p.core (kept s)) behind h.filled);
        whole = h.whole;
        outputs = λ b i j. ap (λ (f : Cells). f b) (put_is w room) ∙ inside (s.outputs ++ (w ∷ [])) all b i j;
        stacked = stack_same p all (put_in w all) own (put_in w own) (λ b l. put_off w all b room l)
            (λ b l. put_off w own b room l)
            segment base frames (reverse s.calls) low h.stacked;
        holds = holds_same p all (put_in w all) own (put_in w own) (λ b l. put_off w all b room l) (λ b l. put_off w own b room l)
            (placed p.core (kept s)) segment base frames (reverse s.calls) low h.stacked h.holds;
        no_block = h.no_block;
      }

-- ---- the step

-- a stage with another memory
stage_in : (p : Setting) (s : State) (next : ℕ) (frames : List Frame) (all own : Cells) (segment base sp : ℕ) (ps r m m2 : ℕ → ℕ)
    (st st2 : Bytes) → Facts p.code p.low p.high all m2 st2
    → Stage p s next frames all own segment base sp ps r m st → Stage p s next frames all own segment base sp ps r m2 st2
stage_in p s next frames all own segment base sp ps r m m2 st st2 facts h = record {
  ground = h.ground;
  shape = h.shape;
  facts = facts;
  words = h.words;
  stack = h.stack;
  part = h.part;
  covered = h.covered;
  made = h.made;
  filled = h.filled;
  whole = h.whole;
  outputs = h.outputs;
  stacked = h.stacked;
  holds = h.holds;
  no_block = h.no_block;
}

abbrev done : Unit {0}
done = tt

full_fair : (a : ℕ) → OutputFull ≡ Wild a → ⊥
full_fair a k = cc

full_left : OutputFull ≡ Done → ⊥
full_left k = cc

-- what comes once there is room for an output
abbrev tells : ℤ → Action Value
tells z = changed (λ s. record s { outputs = s.outputs ++ wrapped z ∷ [] }) >> (mark >> pure Undefined)

module _ (p : Setting) (lay : IsLaid p) (out : MeetsOutside p) (node f q first : ℕ) (z : ℤ) (us : List Temporary)
    (ls : List Frame) (r : Run)
    (all own : Cells) (segment sp : ℕ) (ps rr m : ℕ → ℕ) (st : Bytes) (y : Meter)
    (stage : Stage p r.state r.next (level f q first us ∷ ls) all own segment sp sp ps rr m st)
    (low : segment_start segment + 4 ≤ sp)
    (is : rr 13 ≡ wrapped z) (room : temporaries_at (function_of p f) + 2 * length us + 2 ≤ (function_of p f).frame)
    (code : From p f (rr 0) (service 9 ∷ []) (step_at p f (q + 1))) where
  abbrev u : Ideal
  u = at segment ps rr m st (outside r.state.marks (drop r.used p.readings)) y

  abbrev os : List ℕ
  os = r.state.outputs

  abbrev rest : Value → Action Control
  rest = gave f q first ls us

  here : Here p.code p.low p.high (rr 0) (One Calls false (Immediate 65298)) × From p f (rr 0 + 4) [] (step_at p f (q + 1))
  here = from_do p f (rr 0) (One Calls false (Immediate 65298)) [] (step_at p f (q + 1)) code

  is_all : all ≡ with_outputs os all
  is_all = all_outputs p out r.state r.next (level f q first us ∷ ls) all own segment sp sp ps rr m st stage (omega arith)

  -- there is no place
  full : 256 ≤ length os → Leads 0 u (HasEnded p OutputFull r.state r.used)
  full l =
      let most : length os ≤ 256 = most p out r.state r.next (level f q first us ∷ ls) all own segment sp sp ps rr m st stage
      (omega arith) in
      let count : length os ≡ 256 = omega arith in
      let comes = emit_full p.code p.low p.high segment sp ps stage.ground all stage.shape rr m st
      (outside r.state.marks (drop r.used p.readings)) y stage.facts stage.words here.0 stage.stack
      (stage.outputs outputs_start (omega arith) (omega arith) ∙ ap (λ (k : ℕ). Some (Word (Some k))) count) in
      let t : Ideal = stopped (at segment ps (reached_regs 9 sp rr) comes.memory comes.settled
      (outside r.state.marks (drop r.used p.readings)) comes.meter) (Ended OutputFull) in
      leads_now 0 u (HasEnded p OutputFull r.state r.used) (record {
        next = t;
        step = comes.step;
        ended = refl;
        marks = refl;
        taken = refl;
        matches = stage_matches p r.state r.next (level f q first us ∷ ls) all own segment sp sp ps rr comes.memory
            comes.settled t
            refl refl refl (stage_in p r.state r.next (level f q first us ∷ ls) all own segment sp sp ps rr m comes.memory st
            comes.settled
            comes.facts stage);
        fair = full_fair;
        left = λ k. absurd (full_left k);
      })

  -- there is one
  told : length os < 256 → Follows p 1 (and_then (tells z r) rest) u
  told less =
      let w : ℕ = wrapped z in
      let s2 : State = with_output (wrapped z) r.state in
      let cells : Cells = set_cell (set_cell all (outputs_start + 2 + 2 * length os) (Word (Some (wrapped z)))) outputs_start
      (Word (Some (length os + 1))) in
      let own2 : Cells = set_cell (set_cell own (outputs_start + 2 + 2 * length os) (Word (Some (wrapped z)))) outputs_start
      (Word (Some (length os + 1))) in
      mark_in p 0 (λ o. and_then (and_then o (λ k. pure Undefined)) rest) (record r { state = s2 }) u r.next
      (level f q first us ∷ ls)
      cells own2 segment sp sp ps (behind rr) (λ s. refl) refl
      (subst (λ (k : ℕ). Comes p.code p.low p.high u Running segment ps (behind rr)
      (outside (r.state.marks + 1) (drop r.used p.readings))
      (set_cell (set_cell all (outputs_start + 2 + 2 * length os) (Word (Some k))) outputs_start (Word (Some (length os + 1)))))
      is
      (emits p.code p.low p.high segment sp ps stage.ground all stage.shape rr m st r.state.marks (drop r.used p.readings) y
      (length os) None
      stage.facts stage.words here.0 stage.stack (stage.outputs outputs_start (omega arith) (omega arith)) less
      (ap (λ (g : Cells). g (outputs_start + 2 + 2 * length os)) is_all ∙ place_cell os all less)))
      (λ m2 st2 facts wide.
      marked_stage p s2 r.next (level f q first us ∷ ls) cells own2 segment sp sp ps (behind rr) m2 (behind rr) m2 st2 st2
      stage.stack wide facts
      (stage_emitted p out r.state r.next (level f q first us ∷ ls) all own segment sp sp ps rr m st stage (omega arith)
      (wrapped z) (behind rr)
      m2 st2 less stage.stack wide facts))
      (λ m2 st2 y2 left stage2.
      stands_now p lay 0 f q (q + 1) first us (temporary.Value Undefined ∷ us) ls (record r { state = counted s2; left = left })
      cells own2
      segment sp ps (behind rr) m2 st2 y2
      (with_missing p (counted s2) r.next cells own2 segment sp sp ps f q (q + 1) first us ls (behind rr) m2 st2 room stage2)
      low here.1)

  emit_follows : Follows p 1 ((emit node (Int z) >>= rest) r) u
  unfolding emit count
  emit_follows = from (nat_lt (length os) 256) refl
    where
      counts : (o : Option Saved) → o ≡ None → length os < 256
          → Follows p 1 (and_then (and_then (count_in 2 o r.state r) (λ k. tells z)) rest) u
      counts None e l = told l
      counts (Some b) e l = absurd (differ e)
        where
          differ : Some b ≡ None → ⊥
          differ k = cc

      from : (b : Bool) → nat_lt (length os) 256 ≡ b
          → Follows p 1 (and_then (and_then ((if b then pure done else ended OutputFull) r) (λ k. count 2 >> tells z)) rest) u
      from true e = counts r.state.block stage.no_block (grind (arith, nat_tests))
      from false e = full (grind (arith, nat_tests))

module _ (p : Setting) (lay : IsLaid p) (out : MeetsOutside p) where
  -- a value is emitted, as a word
  pub emit_does : (d : ℕ) (x : Operand) → DoesStep p 2 (step.Emit d x)
  unfolding emit
  emit_does d x f q first ts ls node r t e h =
      begins p lay 2 _ (step.Emit d x) f q first node ts ls r t e h (λ all own segment sp ps rr m st y stage low stands code.
      operand_follows p 2 _ node first x ts _ r (λ v us g.
      depth_follows p 2 _ d us _ r (λ depth.
      let fn : IrFunction = function_of p f in
      let room = room_of (temporaries_at fn) d (taken x) 1 fn.frame stands.room (omega arith) in
      let c = falls p lay (step.Emit d x) f q node (rr 0) tt stands code in
      by v us g all own segment sp ps rr m st y stage low depth stands.named room c)))
    where
      by : (v : Value) (us : List Temporary) → Gives r.state first x ts v us
          → (all own : Cells) (segment sp : ℕ) (ps rr m : ℕ → ℕ) (st : Bytes) (y : Meter)
          → Stage p r.state r.next (level f q first ts ∷ ls) all own segment sp sp ps rr m st → segment_start segment + 4 ≤ sp
          → length us ≡ d → Every (IsNamed p.core (function_of p f)) (operand_bases x)
          → temporaries_at (function_of p f) + 2 * d + 2 ≤ (function_of p f).frame
          → From p f (rr 0) (bring p.ir (function_of p f) x d 13 ++ (service 9 ∷ [])) (step_at p f (q + 1))
          → Follows p 2 ((emit node v >>= gave f q first ls us) r)
          (at segment ps rr m st (outside r.state.marks (drop r.used p.readings)) y)
      by (Int z) us g all own segment sp ps rr m st y stage low depth named room c =
          let o : Outcome Control = (emit node (Int z) >>= gave f q first ls us) r in
          let Q : Ideal → Type 0 = λ u. (u.marks ≡ r.state.marks) × Follows p 1 o u in
          follows_after p 1 0 o (at segment ps rr m st (outside r.state.marks (drop r.used p.readings)) y)
          (brings_value p lay Q r.state r.next all own segment sp ps rr m st
          (outside r.state.marks (drop r.used p.readings)) y f q first ls 0 x ts (Int z) us d 13 (step_at p f (q + 1))
          (service 9 ∷ []) stage g
          refl depth named c (omega arith)
          (λ w pc st2 y2 has code2 stage2.
          let r2 : ℕ → ℕ = set_reg (set_reg rr 0 pc) 13 w in
          leads_now 0 _ Q (
            refl,
            emit_follows p lay out node f q first z us ls r all own segment sp ps r2 m st2 y2
                (left_by p r.state r.next all own segment sp sp ps r2 m st2 f q first x ts (Int z) us ls g stage2) low has
                (omega arith) code2,
          )))
      by (Pointer n o) us g all own segment sp ps rr m st y stage low depth named room c = tt
      by Null us g all own segment sp ps rr m st y stage low depth named room c = tt
      by Undefined us g all own segment sp ps rr m st y stage low depth named room c = tt

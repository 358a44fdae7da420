-- The youngest call is left: what stands then of the cells of a state.
use Rattle.std.proofs.Common.{◌≡◌, ℕ, ◌+◌, ◌<◌, ◌≤◌, refl, sym, ap, ◌∙◌, subst, arith, Bool, true, false, ◌&&◌, ◌||◌, ◌⊎◌, inl, inr, List, [], ◌∷◌, ◌++◌, reverse, Option, Some, None, if◌then◌else◌}
use Rattle.std.proofs.lemmas.Bool.Decides.{nat_tests}
use Rattle.std.proofs.lemmas.List.{append_assoc, reverse-reverse}
use Rattle.std.specs.Prelude.{nat_le, nat_lt}
use Rattle.base16.specs.Board.{outputs_start, stack_start, stack_end, segment_start, segment_top, data_start, data_end}
use Rattle.core430.specs.Uses.{AreWords}
use Rattle.ideal430.specs.Ideal.{Meter, stopped}
use Rattle.ideal430.specs.Settled.{Bytes}
use Rattle.ideal430.specs.declared.state.IdealEnd.{IdealEnd}
use Rattle.c_run.specs.Actions.{kept, left_call}
use Rattle.c_run.specs.Lists.{without_last}
use Rattle.c_run.specs.Runs.{counted}
use Rattle.c_values.specs.declared.state.Call.{Call}
use Rattle.c_values.specs.declared.state.State.{State}
use Rattle.c_values.specs.declared.value.Cell.{Cell as Scalar}
use Rattle.cells430.specs.Cells.{Cell, Word, Byte, Cells, Fits, Shape, Facts, dropped, unlinked}
use Rattle.cells430.specs.Stretch.{Course, Ground, at}
use Rattle.core_tree.specs.Data.{global_address}
use Rattle.core_tree.specs.LawfulCore.{Every}
use Rattle.core_tree.specs.declared.program.Core.{Core}
use Rattle.ir.specs.declared.control.Frame.{Frame}
use Rattle.matching.specs.Covering.{HasCell, ScalarsCovered, Covered, IsCovered}
use Rattle.matching.specs.Laid.{IsMade}
use Rattle.matching.specs.Matches.{Placed, placed_from, local_address, placed_in_calls, placed, encoded, BlockMatches}
use Rattle.matching.specs.Said.{OpeningCounts}
use Rattle.matching.specs.Simulates.{MachineMatches}
use Rattle.matching.proofs.CellsMatch.{cells_match}
use Rattle.steps430.specs.Setting.{Setting}
use Rattle.steps430.specs.Holds.{Holds}
use Rattle.steps430.specs.Standing.{IsWhole, IsFilled, Stacked, Stage}
use Rattle.steps430.specs.Calls.{LiesInFrame, FramesLaid}
use Rattle.steps430.proofs.FramesStay.{every_left, every_append, every_both, every_map, every_all, every_reverse, without_last_is, last_is, On, InHere, InOlder, FrameOn, frames_on, stack_same, CodeStays, holds_stay, Fewer, fewer_left, code_fewer, cell_fewer, calls_split, stamps_stay, outputs_stay}

-- ---- words match where cells stand

pub no_cell : (all own : Cells) (a : ℕ) → ((b : ℕ) (x : Cell) → own b ≡ Some x → all b ≡ Some x) → all a ≡ None → own a ≡ None
no_cell all own a part e = from (own a) refl
  where
    never : (x : Cell) → None ≡ Some x → ⊥
    never x k = cc

    from : (o : Option Cell) → own a ≡ o → own a ≡ None
    from None is = is
    from (Some x) is = absurd (never x (sym e ∙ part a x is))

part_fits : (all own : Cells) (a : ℕ) (x : Cell) → ((b : ℕ) (y : Cell) → own b ≡ Some y → all b ≡ Some y) → Fits all a x
    → Fits own a x
part_fits all own a (Word v) part h = (h.0, no_cell all own (a + 1) part h.1)
part_fits all own a (Byte v) part h = tt

pub matches_by : (core : Core) (s : State) (c : ℕ → ℕ) (lo hi segment sp : ℕ) (ps r m : ℕ → ℕ) (st : Bytes) (all own : Cells)
    (marks : ℕ) (x : Course) (y : Meter) (status : IdealEnd) → x.block ≡ None → s.block ≡ None → Shape segment sp ps all
    → Facts c lo hi all m st → ((b : ℕ) (z : Cell) → own b ≡ Some z → all b ≡ Some z) → IsCovered core (kept s) own
    → MachineMatches core s (stopped (at segment ps r m st x y) status)
matches_by core s c lo hi segment sp ps r m st all own marks x y status none none2 shape facts part covered =
    let w = cells_match own m st (λ a z e. facts.stands a z (part a z e)) (λ a z e. part_fits all own a z part (shape.fits a z
    (part a z e)))
    core (kept s) covered in
    record {
      matches = record {
        words = w.0;
        block = subst (λ b. BlockMatches core b x.block m) (sym none2) (subst (λ b. BlockMatches core None b m) (sym none) tt);
      };
      settled = w.1;
      opening = subst (λ b. OpeningCounts core b x.block x.earlier st) (sym none2) tt;
    }

-- ---- the cells that are left

-- cells of which some went with a frame
pub record IsCut (all own all2 own2 : Cells) (segment sp : ℕ) : Type 0 where
  pub all_on : (b : ℕ) → On segment sp b → all2 b ≡ all b
  pub own_on : (b : ℕ) → On segment sp b → own2 b ≡ own b
  pub all_low : (b : ℕ) → b < stack_start → all2 b ≡ all b
  pub own_low : (b : ℕ) → b < stack_start → own2 b ≡ own b
  pub own_high : (b : ℕ) → stack_end ≤ b → own2 b ≡ own b
  pub part : (b : ℕ) (x : Cell) → own2 b ≡ Some x → all2 b ≡ Some x

dropped_same : (g sp : ℕ) (f : Cells) (b : ℕ) → (b < segment_start g) ⊎ (sp ≤ b) → dropped g sp f b ≡ f b
dropped_same g sp f b (inl h) =
    let e : (nat_le (segment_start g) b && nat_lt b sp) ≡ false = grind (arith, nat_tests) in
    ap (λ (t : Bool). if t then None else f b) e
dropped_same g sp f b (inr h) =
    let e : (nat_le (segment_start g) b && nat_lt b sp) ≡ false = grind (arith, nat_tests) in
    ap (λ (t : Bool). if t then None else f b) e

part_if : (t : Bool) (o a : Option Cell) (x : Cell) → (o ≡ Some x → a ≡ Some x) → (if t then None else o) ≡ Some x
    → (if t then None else a) ≡ Some x
part_if true o a x h e = e
part_if false o a x h e = h e

pub cut_dropped : (all own : Cells) (g sp : ℕ) → sp ≤ segment_top g → segment_top g ≤ stack_end
    → ((b : ℕ) (x : Cell) → own b ≡ Some x → all b ≡ Some x)
    → IsCut all own (dropped g sp all) (dropped g sp own) g sp
cut_dropped all own g sp top last part = record {
  all_on = λ b k. dropped_same g sp all b (on b k);
  own_on = λ b k. dropped_same g sp own b (on b k);
  all_low = λ b k. dropped_same g sp all b (inl (omega arith));
  own_low = λ b k. dropped_same g sp own b (inl (omega arith));
  own_high = λ b k. dropped_same g sp own b (inr (omega arith));
  part = λ b x e. part_if (nat_le (segment_start g) b && nat_lt b sp) (own b) (all b) x (part b x) e;
}
  where
    on : (b : ℕ) → On g sp b → (b < segment_start g) ⊎ (sp ≤ b)
    on b (InHere k l) = inr k
    on b (InOlder k l) = inl l

unlinked_same : (g sp : ℕ) (f : Cells) (b : ℕ) → (b < segment_start g) ⊎ (((sp ≤ b) × (b < segment_top g)) ⊎ (stack_end ≤ b))
    → sp ≤ stack_end → unlinked g sp f b ≡ f b
unlinked_same g sp f b (inl h) top =
    let e : ((nat_le (segment_start g) b && nat_lt b sp) || (nat_le (segment_top g) b && nat_lt b stack_end)) ≡ false = grind
    (arith, nat_tests) in
    ap (λ (t : Bool). if t then None else f b) e
unlinked_same g sp f b (inr (inl h)) top =
    let h0 = h.0 in
    let h1 = h.1 in
    let e : ((nat_le (segment_start g) b && nat_lt b sp) || (nat_le (segment_top g) b && nat_lt b stack_end)) ≡ false = grind
    (arith, nat_tests) in
    ap (λ (t : Bool). if t then None else f b) e
unlinked_same g sp f b (inr (inr h)) top =
    let e : ((nat_le (segment_start g) b && nat_lt b sp) || (nat_le (segment_top g) b && nat_lt b stack_end)) ≡ false = grind
    (arith, nat_tests) in
    ap (λ (t : Bool). if t then None else f b) e

pub cut_unlinked : (all own : Cells) (g sp : ℕ) → sp ≤ segment_top g → segment_top g ≤ stack_end
    → ((b : ℕ) (x : Cell) → own b ≡ Some x → all b ≡ Some x)
    → IsCut all own (unlinked g sp all) (unlinked g sp own) g sp
cut_unlinked all own g sp top last part = record {
  all_on = λ b k. unlinked_same g sp all b (on b k) (omega arith);
  own_on = λ b k. unlinked_same g sp own b (on b k) (omega arith);
  all_low = λ b k. unlinked_same g sp all b (inl (omega arith)) (omega arith);
  own_low = λ b k. unlinked_same g sp own b (inl (omega arith)) (omega arith);
  own_high = λ b k. unlinked_same g sp own b (inr (inr k)) (omega arith);
  part = λ b x e. part_if ((nat_le (segment_start g) b && nat_lt b sp) || (nat_le (segment_top g) b && nat_lt b stack_end)) (own
      b) (all b) x
      (part b x) e;
}
  where
    on : (b : ℕ) → On g sp b → (b < segment_start g) ⊎ (((sp ≤ b) × (b < segment_top g)) ⊎ (stack_end ≤ b))
    on b (InHere k l) = inr (inl (k, l))
    on b (InOlder k l) = inl l

-- ---- the state that is left

abbrev pub after_leave : State → State
after_leave s = counted (left_call s)

module _ (p : Setting) (laid : FramesLaid p) (s : State) (next : ℕ) (c : Call) (cs : List Call) (e : reverse s.calls ≡ c ∷ cs)
    (made : IsMade p.core next (kept s)) (all own all2 own2 : Cells) (g sp : ℕ) (cut : IsCut all own all2 own2 g sp) where
  abbrev alive : List Placed
  alive = placed p.core (kept s)

  abbrev alive2 : List Placed
  alive2 = placed p.core (kept (after_leave s))

  abbrev mine : List Placed
  mine = placed_from (local_address p.core c) 0 c.locals ++ []

  abbrev variables : List Placed
  variables = placed_from (global_address p.core) 0 s.globals

  calls_are : s.calls ≡ reverse cs ++ c ∷ []
  calls_are = last_is s.calls cs c e

  rest_is : without_last s.calls ≡ reverse cs
  rest_is = ap without_last calls_are ∙ without_last_is (reverse cs) c

  pub rest_reversed : reverse (after_leave s).calls ≡ cs
  rest_reversed = ap reverse rest_is ∙ reverse-reverse cs

  split : alive ≡ alive2 ++ mine
  split =
      ap (λ k. variables ++ placed_in_calls p.core k) calls_are
      ∙ ap (λ k. variables ++ k) (calls_split p.core (reverse cs) c)
      ∙ sym (append_assoc variables (placed_in_calls p.core (reverse cs)) mine)
      ∙ ap (λ k. (variables ++ placed_in_calls p.core k) ++ mine) (sym rest_is)

  pub left_fewer : Fewer alive alive2
  left_fewer = subst (λ k. Fewer k alive2) (sym split) (fewer_left alive2 mine)

  pub of_left : (P : Placed → Type 0) → Every P alive → Every P alive2
  of_left P h = every_left P alive2 mine (subst (Every P) split h)

  -- the cells of the scalars that are left are as they were
  abbrev Stays : Placed → Type 0
  Stays q = Every (λ (x : Scalar). own2 (q.address + x.offset) ≡ own (q.address + x.offset)) q.object.cells

  calls_stay : (ys : List Call) → Every (LiesInFrame p) ys → Every (FrameOn p g sp) ys → Every Stays (placed_in_calls p.core ys)
  calls_stay [] h k = tt
  calls_stay (y ∷ ys) h k =
      every_append Stays (placed_from (local_address p.core y) 0 y.locals) (placed_in_calls p.core ys)
      (every_map (λ q. Every (λ (x : Scalar). (y.frame ≤ q.address + x.offset) × (q.address + x.offset < _)) q.object.cells) Stays
      (placed_from (local_address p.core y) 0 y.locals)
      (λ q j. every_map (λ (x : Scalar). (y.frame ≤ q.address + x.offset) × (q.address + x.offset < _))
      (λ (x : Scalar). own2 (q.address + x.offset) ≡ own (q.address + x.offset)) q.object.cells
      (λ x i. cut.own_on (q.address + x.offset) (k.0 (q.address + x.offset) i.0 i.1)) j) h.0)
      (calls_stay ys h.1 k.1)

  scalars_stay : Every (FrameOn p g sp) cs → Every Stays alive2
  scalars_stay on =
      every_append Stays variables (placed_in_calls p.core (without_last s.calls))
      (every_map (λ q. Every (λ (x : Scalar). (data_start ≤ q.address + x.offset)
      × (q.address + x.offset < data_end)) q.object.cells) Stays
      variables
      (λ q j. every_map (λ (x : Scalar). (data_start ≤ q.address + x.offset) × (q.address + x.offset < data_end))
      (λ (x : Scalar). own2 (q.address + x.offset) ≡ own (q.address + x.offset)) q.object.cells
      (λ x i. let l = i.0 in cut.own_high (q.address + x.offset) (omega arith)) j) (laid.variables next (kept s) made))
      (calls_stay (without_last s.calls)
      (subst (Every (LiesInFrame p)) (sym rest_is)
      (every_left (LiesInFrame p) (reverse cs) (c ∷ []) (subst (Every (LiesInFrame p)) calls_are (laid.frames next (kept s)
      made))))
      (subst (Every (FrameOn p g sp)) (sym rest_is) (every_reverse (FrameOn p g sp) cs on)))

  left_objects : Every Stays alive2 → Covered own alive alive → Covered own2 alive2 alive2
  left_objects off h =
      every_both (λ q. ScalarsCovered own alive q.address q.object.cells) Stays (λ q. ScalarsCovered own2 alive2 q.address
      q.object.cells) alive2
      (λ q j k. every_both (λ (x : Scalar). HasCell own (q.address + x.offset) x.kind (encoded alive x.kind x.value))
      (λ (x : Scalar). own2 (q.address + x.offset) ≡ own (q.address + x.offset))
      (λ (x : Scalar). HasCell own2 (q.address + x.offset) x.kind (encoded alive2 x.kind x.value)) q.object.cells
      (λ x a b. cell_fewer alive alive2 left_fewer own own2 (q.address + x.offset) x.kind x.value b a) j k)
      (of_left (λ q. ScalarsCovered own alive q.address q.object.cells) h) off

  left_filled : Every Stays alive2 → Every (λ q. Every (IsFilled own q.address) q.object.cells) alive
      → Every (λ q. Every (IsFilled own2 q.address) q.object.cells) alive2
  left_filled off h =
      every_both (λ q. Every (IsFilled own q.address) q.object.cells) Stays (λ q. Every (IsFilled own2 q.address) q.object.cells)
      alive2
      (λ q j k. every_both (IsFilled own q.address) (λ (x : Scalar). own2 (q.address + x.offset) ≡ own (q.address + x.offset))
      (IsFilled own2 q.address) q.object.cells
      (λ x a b. record { word = λ d. let w = a.word d in (w.0, b ∙ w.1) }) j k)
      (of_left (λ q. Every (IsFilled own q.address) q.object.cells) h) off

  pub left_covered : (segment sp0 : ℕ) (ps : ℕ → ℕ) → Every (FrameOn p g sp) cs → Shape segment sp0 ps all
      → ((b : ℕ) (x : Cell) → own b ≡ Some x → all b ≡ Some x) → IsCovered p.core (kept s) own
      → IsCovered p.core (kept (after_leave s)) own2
  left_covered segment sp0 ps on shape part h = record {
    objects = left_objects (scalars_stay on) h.objects;
    stamps = stamps_stay own own2 p.core 0 s.stamps (λ b k. cut.own_high b (omega arith)) laid.stamps h.stamps;
    count = cut.own_low outputs_start (omega arith) ∙ h.count;
    outputs = outputs_stay segment sp0 ps all own own2 shape part (λ b k. cut.own_low b k) s.outputs (outputs_start + 2) refl
        (omega arith)
        (omega arith) h.outputs;
  }

  -- the stage of the calls that are left
  pub left_stage : (l : Frame) (ls : List Frame) (segment base sp0 : ℕ) (ps ps2 r r2 m m2 : ℕ → ℕ) (st st2 : Bytes)
      → Stage p s next (l ∷ ls) all own segment base sp0 ps r m st → Stacked p all own g sp ls cs
      → Holds p.ir all alive ls cs
      → Ground p.low p.high g sp → Shape g sp ps2 all2 → Facts p.code p.low p.high all2 m2 st2 → AreWords r2 → r2 1 ≡ sp
      → Stage p (after_leave s) next ls all2 own2 g sp sp ps2 r2 m2 st2
  left_stage l ls segment base sp0 ps ps2 r r2 m m2 st st2 h stack holds ground shape facts wide is =
      let on = frames_on p all own g sp ls cs stack in
      let off = scalars_stay on in
      record {
        ground = ground;
        shape = shape;
        facts = facts;
        words = wide;
        stack = is;
        part = cut.part;
        covered = left_covered segment sp0 ps on h.shape h.part h.covered;
        made = laid.left next s made;
        filled = left_filled off h.filled;
        whole = of_left (λ q. Every IsWhole q.object.cells) h.whole;
        outputs = λ b k j. cut.all_low b (omega arith) ∙ h.outputs b k j;
        stacked = subst (Stacked p all2 own2 g sp ls) (sym rest_reversed)
            (stack_same p all all2 own own2 g sp ls cs (λ b k. (cut.all_on b k, λ j. cut.own_on b k ∙ j)) stack);
        holds = subst (Holds p.ir all2 alive2 ls) (sym rest_reversed)
            (holds_stay alive alive2 p all own all all2 g sp ls cs (λ b k. cut.all_on b k)
            (every_all (λ (f : Frame). Every (CodeStays alive alive2) f.temporaries) ls
            (λ f. every_all (CodeStays alive alive2) f.temporaries (λ t. code_fewer alive alive2 left_fewer t)))
            stack holds);
        no_block = h.no_block;
      }

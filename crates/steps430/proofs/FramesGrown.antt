-- A frame comes for a call: what stands then of the cells of a state.
use Rattle.std.proofs.Common.{◌≡◌, ◌≢◌, ℕ, suc, ◌+◌, ◌*◌, ◌<◌, ◌≤◌, refl, sym, ap, ◌∙◌, subst, arith, Bool, true, false, ◌⊎◌, List, [], ◌∷◌, ◌++◌, length, map, reverse, Option, Some, None, if◌then◌else◌}
use Rattle.std.proofs.lemmas.Bool.{ne_eqb}
use Rattle.std.proofs.lemmas.List.{append_assoc, reverse-append, reverse-reverse, length-map}
use Rattle.std.specs.Prelude.{nat_eq, nat_lt, ℤ, slice_get}
use Rattle.base16.specs.Board.{outputs_start, stack_start, stack_end, data_start, data_end}
use Rattle.base16.specs.Placement.{frame_below}
use Rattle.base16.specs.declared.image.Kind.{Kind}
use Rattle.core430.specs.Uses.{AreWords}
use Rattle.ideal430.specs.Settled.{Bytes}
use Rattle.c_run.specs.Actions.{kept, top_of, with_call}
use Rattle.c_run.specs.Making.{fresh_cell, fresh_objects}
use Rattle.c_run.specs.Runs.{counted}
use Rattle.c_values.specs.declared.state.Call.{Call}
use Rattle.c_values.specs.declared.state.State.{State}
use Rattle.c_values.specs.declared.value.Cell.{Cell as Scalar}
use Rattle.c_values.specs.declared.value.Value.{Value}
use Rattle.c_values.specs.declared.value.Value.TheVariants.{Int, Pointer, Null, Undefined}
use Rattle.cells430.specs.Cells.{Cell, Cells, Shape, Facts}
use Rattle.cells430.specs.Stretch.{Ground}
use Rattle.core_tree.specs.Data.{global_address}
use Rattle.core_tree.specs.LawfulCore.{Every}
use Rattle.core_tree.specs.declared.types.Slot.{Slot}
use Rattle.ir.specs.declared.control.Frame.{Frame}
use Rattle.ir.specs.declared.control.Temporary.{Temporary}
use Rattle.ir.specs.declared.control.Temporary.TheVariants as temporary
use Rattle.ir.specs.declared.form.IrFunction.{IrFunction}
use Rattle.ir.specs.Machine.{objects_of}
use Rattle.matching.specs.Covering.{cell_of, HasCell, ScalarsCovered, Covered}
use Rattle.matching.specs.Laid.{IsMade}
use Rattle.matching.specs.Matches.{Placed, placed_from, local_address, placed_in_calls, placed, address_of, offset_in, pointer_code, encoded}
use Rattle.select430.specs.Frames.{temporaries_at}
use Rattle.steps430.specs.Setting.{Setting, NumberedFrom, FrameFits, function_of}
use Rattle.steps430.specs.Holds.{IsWord, HasCode, object_address, value_code, AreHeld, Holds, with_args, calling}
use Rattle.steps430.specs.Standing.{IsWhole, IsFilled, ReturnsHere, ReturnsBelow, Stacked, return_to, Stage}
use Rattle.steps430.specs.Calls.{LiesInFrame, FramesLaid, LocalsLaid, HaveCells, new_call, IsKnownValue, IsKnownNumber, IsKnownTemporary, AreKnown}
use Rattle.steps430.proofs.Moves.{level}
use Rattle.steps430.proofs.FramesStay.{every_append, every_both, every_map, every_reverse, On, FrameOn, frames_on, stack_same, CodeStays, holds_stay, calls_split, stamps_stay, outputs_stay}

-- ---- the arguments of a call lie above other temporaries

args_less : (args : List Value) (ts : List Temporary) → length ts ≤ length (with_args args ts)
args_less [] ts = omega arith
args_less (v ∷ vs) ts = let k = args_less vs (temporary.Value v ∷ ts) in omega arith

pub args_held : (f : Cells) (alive : List Placed) (base : ℕ) (args : List Value) (ts : List Temporary)
    → AreHeld f alive base (with_args args ts) → AreHeld f alive base ts
args_held f alive base [] ts h = h
args_held f alive base (v ∷ vs) ts h = (args_held f alive base vs (temporary.Value v ∷ ts) h).1

args_every : (P : Temporary → Type 0) (args : List Value) (ts : List Temporary) → Every P (with_args args ts) → Every P ts
args_every P [] ts h = h
args_every P (v ∷ vs) ts h = (args_every P vs (temporary.Value v ∷ ts) h).1

pub stacked_without : (p : Setting) (all own : Cells) (g sp : ℕ) (args : List Value) (ls : List Frame) (cs : List Call)
    → Stacked p all own g sp (calling args ls) cs → Stacked p all own g sp ls cs
stacked_without p all own g sp args [] cs h = h
stacked_without p all own g sp args (b ∷ ls) [] h = h
stacked_without p all own g sp args (b ∷ ls) (c ∷ cs) h = (
  record {
    frame = h.0.frame;
    function = h.0.function;
    numbers = h.0.numbers;
    locals = h.0.locals;
    objects = h.0.objects;
    clear = h.0.clear;
  },
  h.1,
)

pub holds_without : (p : Setting) (f : Cells) (alive : List Placed) (args : List Value) (ls : List Frame) (cs : List Call)
    → Holds p.ir f alive (calling args ls) cs → Holds p.ir f alive ls cs
holds_without p f alive args [] cs h = h
holds_without p f alive args (b ∷ ls) [] h = h
holds_without p f alive args (b ∷ ls) (c ∷ cs) h =
    let less = args_less args b.temporaries in
    let room = h.0.room in (
      record {
        words = h.0.words;
        room = omega arith;
        held = args_held f alive (c.frame + temporaries_at (function_of p b.function)) args b.temporaries h.0.held;
      },
      h.1,
    )

-- ---- objects that come to life

-- the objects that were alive are where they were
abbrev pub Grown : (next : ℕ) → (alive alive2 : List Placed) → Type 0
Grown next alive alive2 = (n : ℕ) → n < next → address_of alive2 n ≡ address_of alive n

none_later : (next n : ℕ) (qs : List Placed) → n < next → Every (λ (q : Placed). next ≤ q.object.number) qs
    → address_of qs n ≡ None
none_later next n [] l h = refl
none_later next n (q ∷ qs) l h =
    let first = h.0 in
    let other : q.object.number ≢ n = omega arith in
    ap (λ (t : Bool). if t then Some q.address else address_of qs n) (ne_eqb q.object.number n other) ∙ none_later next n qs l h.1

pub grown_right : (next : ℕ) (ps qs : List Placed) → Every (λ (q : Placed). next ≤ q.object.number) qs → Grown next ps (ps ++ qs)
grown_right next [] qs h n l = none_later next n qs l h
grown_right next (q ∷ ps) qs h n l = ap (λ (o : Option ℕ). if nat_eq q.object.number n then Some q.address else o) (grown_right
    next ps qs h n l)

module _ (next : ℕ) (alive alive2 : List Placed) (grown : Grown next alive alive2) where
  pointer_grown : (n o w : ℕ) → n < next → HasCode (pointer_code (address_of alive n) o) w
      → HasCode (pointer_code (address_of alive2 n) o) w
  pointer_grown n o w l h = subst (λ (x : Option ℕ). HasCode (pointer_code x o) w) (sym (grown n l)) h

  pub value_grown : (v : Value) (w : ℕ) → IsKnownValue next v → HasCode (value_code alive v) w → HasCode (value_code alive2 v) w
  value_grown (Int z) w k h = h
  value_grown (Pointer n o) w k h = pointer_grown n o w k h
  value_grown Null w k h = h
  value_grown Undefined w k h = tt

  place_grown : (x : Option ℕ) (o w : ℕ) (b : Bool) → (n : ℕ) → (x ≡ Some n) → n < next
      → HasCode (if b then pointer_code (object_address alive x) o else None) w
      → HasCode (if b then pointer_code (object_address alive2 x) o else None) w
  place_grown x o w false n e k h = tt
  place_grown x o w true n e k h =
      subst (λ (z : Option ℕ). HasCode (pointer_code (object_address alive2 z) o) w) (sym e)
      (pointer_grown n o w k (subst (λ (z : Option ℕ). HasCode (pointer_code (object_address alive z) o) w) e h))

  pub code_grown : (t : Temporary) → IsKnownTemporary next t → CodeStays alive alive2 t
  code_grown (temporary.Value v) k w h = value_grown v w k h
  code_grown (temporary.Place l) k w h = from l.object refl k
    where
      null : (x : Option ℕ) (b : Bool) → x ≡ None → HasCode (if b then pointer_code (object_address alive x) l.offset else None) w
          → HasCode (if b then pointer_code (object_address alive2 x) l.offset else None) w
      null x false e j = tt
      null x true e j =
          subst (λ (z : Option ℕ). HasCode (pointer_code (object_address alive2 z) l.offset) w) (sym e)
          (subst (λ (z : Option ℕ). HasCode (pointer_code (object_address alive z) l.offset) w) e j)

      from : (x : Option ℕ) → l.object ≡ x → IsKnownNumber next x → HasCode (if nat_lt l.offset 65536 then pointer_code
          (object_address alive2 l.object) l.offset else None) w
      from None e i = null l.object (nat_lt l.offset 65536) e h
      from (Some n) e i = place_grown l.object l.offset w (nat_lt l.offset 65536) n e i h

  has_again : (f f2 : Cells) (a : ℕ) (k : Kind) (x : Option ℕ) → f2 a ≡ f a → HasCell f a k x → HasCell f2 a k x
  has_again f f2 a k None e h = (h.0, e ∙ h.1)
  has_again f f2 a k (Some w) e h = e ∙ h

  pub cell_grown : (f f2 : Cells) (a : ℕ) (k : Kind) (v : Value) → f2 a ≡ f a → IsKnownValue next v
      → HasCell f a k (encoded alive k v)
      → HasCell f2 a k (encoded alive2 k v)
  cell_grown f f2 a k (Int z) e l h = e ∙ h
  cell_grown f f2 a k Null e l h = e ∙ h
  cell_grown f f2 a k Undefined e l h = (h.0, e ∙ h.1)
  cell_grown f f2 a k (Pointer n o) e l h =
      subst (λ (x : Option ℕ). HasCell f2 a k (pointer_code x o)) (sym (grown n l))
      (has_again f f2 a k (pointer_code (address_of alive n) o) e h)

-- new objects

pub numbered_fresh : (n : ℕ) (slots : List (List Slot)) → NumberedFrom n (fresh_objects n slots)
numbered_fresh n [] = tt
numbered_fresh n (x ∷ more) = (refl, numbered_fresh (n + 1) more)

pub length_fresh : (n : ℕ) (slots : List (List Slot)) → length (fresh_objects n slots) ≡ length slots
length_fresh n [] = refl
length_fresh n (x ∷ more) = ap suc (length_fresh (n + 1) more)

pub fresh_numbers : (address : ℕ → ℕ) (i n next : ℕ) (slots : List (List Slot)) → next ≤ n
    → Every (λ (q : Placed). next ≤ q.object.number) (placed_from address i (fresh_objects n slots))
fresh_numbers address i n next [] l = tt
fresh_numbers address i n next (x ∷ more) l = (l, fresh_numbers address (i + 1) (n + 1) next more (omega arith))

module _ (own : Cells) (alive : List Placed) (frame : ℕ) (offset : ℕ → ℕ) (inner : Cells)
    (there : (o : ℕ) (x : Cell) → inner o ≡ Some x → own (frame + o) ≡ Some x) where
  fresh_scalars : (i : ℕ) (slots : List Slot) → Every (λ (s : Slot). inner (offset i + s.offset) ≡ Some (cell_of s.kind None))
      slots
      → ScalarsCovered own alive (frame + offset i) (map fresh_cell slots)
  fresh_scalars i [] h = tt
  fresh_scalars i (s ∷ more) h =
      let same : frame + offset i + s.offset ≡ frame + (offset i + s.offset) = omega arith in
      ((None, ap own same ∙ there (offset i + s.offset) (cell_of s.kind None) h.0), fresh_scalars i more h.1)

  pub fresh_covered : (i n : ℕ) (slots : List (List Slot)) → HaveCells inner offset i slots
      → Covered own alive (placed_from (λ j. frame + offset j) i (fresh_objects n slots))
  fresh_covered i n [] h = tt
  fresh_covered i n (x ∷ more) h = (fresh_scalars i x h.0, fresh_covered (i + 1) (n + 1) more h.1)

never_false : {A : Type 0} → true ≡ false → A
never_false k = absurd (differ k)
  where
    differ : true ≡ false → ⊥
    differ j = cc

fresh_filled_one : (own : Cells) (a : ℕ) (slots : List Slot) → Every (IsFilled own a) (map fresh_cell slots)
fresh_filled_one own a [] = tt
fresh_filled_one own a (s ∷ more) = (record { word = λ k. never_false k }, fresh_filled_one own a more)

pub fresh_filled : (own : Cells) (address : ℕ → ℕ) (i n : ℕ) (slots : List (List Slot))
    → Every (λ (q : Placed). Every (IsFilled own q.address) q.object.cells) (placed_from address i (fresh_objects n slots))
fresh_filled own address i n [] = tt
fresh_filled own address i n (x ∷ more) = (fresh_filled_one own (address i) x, fresh_filled own address (i + 1) (n + 1) more)

never_int : {A : Type 0} (z : ℤ) → Undefined ≡ Int z → A
never_int z k = absurd (differ k)
  where
    differ : Undefined ≡ Int z → ⊥
    differ j = cc

fresh_whole_one : (slots : List Slot) → Every IsWhole (map fresh_cell slots)
fresh_whole_one [] = tt
fresh_whole_one (s ∷ more) = (record { same = λ z k. never_int z k }, fresh_whole_one more)

pub fresh_whole : (address : ℕ → ℕ) (i n : ℕ) (slots : List (List Slot))
    → Every (λ (q : Placed). Every IsWhole q.object.cells) (placed_from address i (fresh_objects n slots))
fresh_whole address i n [] = tt
fresh_whole address i n (x ∷ more) = (fresh_whole_one x, fresh_whole address (i + 1) (n + 1) more)

-- ---- the cells with a new frame

-- cells with those of a new frame: g and sp say where the frames of the callers are
pub record IsGrown (all own all2 own2 : Cells) (g sp frame : ℕ) (fn : IrFunction) (inner : Cells) : Type 0 where
  pub all_on : (b : ℕ) → On g sp b → all2 b ≡ all b
  pub own_on : (b : ℕ) → On g sp b → own2 b ≡ own b
  pub all_low : (b : ℕ) → b < stack_start → all2 b ≡ all b
  pub own_low : (b : ℕ) → b < stack_start → own2 b ≡ own b
  pub own_high : (b : ℕ) → stack_end ≤ b → own2 b ≡ own b
  pub part : (b : ℕ) (x : Cell) → own2 b ≡ Some x → all2 b ≡ Some x
  pub locals : (o : ℕ) (x : Cell) → inner o ≡ Some x → own2 (frame + o) ≡ Some x
  pub words : (d : ℕ) → temporaries_at fn + 2 * d + 2 ≤ fn.frame → IsWord all2 (frame + temporaries_at fn + 2 * d)

abbrev pub after_enter : Setting → (f frame next : ℕ) → State → State
after_enter p f frame next s = counted (with_call (new_call (function_of p f) f frame next) s)

abbrev pub next_after : Setting → (f next : ℕ) → ℕ
next_after p f next = next + length (objects_of (function_of p f))

module _ (p : Setting) (laid : FramesLaid p) (s : State) (next f frame : ℕ) (args : List Value) (below : List Frame)
    (is_one : slice_get p.ir.functions f ≡ Some (function_of p f)) (fits : FrameFits (function_of p f))
    (all own all2 own2 : Cells) (g base : ℕ) (local : LocalsLaid p f)
    (grows : IsGrown all own all2 own2 g base frame (function_of p f) local.inner) (known : AreKnown p.core next s (calling args
    below)) where
  abbrev fn : IrFunction
  fn = function_of p f

  abbrev c : Call
  c = new_call fn f frame next

  abbrev alive : List Placed
  alive = placed p.core (kept s)

  abbrev pub alive_then : List Placed
  alive_then = placed p.core (kept (after_enter p f frame next s))

  abbrev mine : List Placed
  mine = placed_from (local_address p.core c) 0 (fresh_objects next (objects_of fn)) ++ []

  abbrev variables : List Placed
  variables = placed_from (global_address p.core) 0 s.globals

  split : alive_then ≡ alive ++ mine
  split =
      ap (λ k. variables ++ k) (calls_split p.core s.calls c)
      ∙ sym (append_assoc variables (placed_in_calls p.core s.calls) mine)

  pub grown : Grown next alive alive_then
  grown = subst (Grown next alive) (sym split)
      (grown_right next alive mine (every_append (λ (q : Placed). next ≤ q.object.number) _ []
      (fresh_numbers (local_address p.core c) 0 next next (objects_of fn) (omega arith)) tt))

  both : (P : Placed → Type 0) → Every P alive → Every P (placed_from (local_address p.core c) 0 (fresh_objects next (objects_of
      fn)))
      → Every P alive_then
  both P h k = subst (Every P) (sym split) (every_append P alive mine h (every_append P _ [] k tt))

  abbrev Stays : Placed → Type 0
  Stays q = Every (λ (x : Scalar). own2 (q.address + x.offset) ≡ own (q.address + x.offset)) q.object.cells

  calls_stay : (ys : List Call) → Every (LiesInFrame p) ys → Every (FrameOn p g base) ys → Every Stays (placed_in_calls p.core ys)
  calls_stay [] h k = tt
  calls_stay (y ∷ ys) h k =
      every_append Stays (placed_from (local_address p.core y) 0 y.locals) (placed_in_calls p.core ys)
      (every_map (λ q. Every (λ (x : Scalar). (y.frame ≤ q.address + x.offset) × (q.address + x.offset < _)) q.object.cells) Stays
      (placed_from (local_address p.core y) 0 y.locals)
      (λ q j. every_map (λ (x : Scalar). (y.frame ≤ q.address + x.offset) × (q.address + x.offset < _))
      (λ (x : Scalar). own2 (q.address + x.offset) ≡ own (q.address + x.offset)) q.object.cells
      (λ x i. grows.own_on (q.address + x.offset) (k.0 (q.address + x.offset) i.0 i.1)) j) h.0)
      (calls_stay ys h.1 k.1)

  scalars_stay : IsMade p.core next (kept s) → Every (FrameOn p g base) s.calls → Every Stays alive
  scalars_stay made on =
      every_append Stays variables (placed_in_calls p.core s.calls)
      (every_map (λ q. Every (λ (x : Scalar). (data_start ≤ q.address + x.offset)
      × (q.address + x.offset < data_end)) q.object.cells) Stays
      variables
      (λ q j. every_map (λ (x : Scalar). (data_start ≤ q.address + x.offset) × (q.address + x.offset < data_end))
      (λ (x : Scalar). own2 (q.address + x.offset) ≡ own (q.address + x.offset)) q.object.cells
      (λ x i. let l = i.0 in grows.own_high (q.address + x.offset) (omega arith)) j) (laid.variables next (kept s) made))
      (calls_stay s.calls (laid.frames next (kept s) made) on)

  old_objects : Every Stays alive → Covered own alive alive → Covered own2 alive_then alive
  old_objects off h =
      every_both (λ q. Every (λ (x : Scalar). IsKnownValue next x.value) q.object.cells)
      (λ q. ScalarsCovered own alive q.address q.object.cells × Stays q) (λ q. ScalarsCovered own2 alive_then q.address
      q.object.cells) alive
      (λ q i j. every_both (λ (x : Scalar). IsKnownValue next x.value)
      (λ (x : Scalar). HasCell own (q.address + x.offset) x.kind (encoded alive x.kind x.value)
      × (own2 (q.address + x.offset) ≡ own (q.address + x.offset)))
      (λ (x : Scalar). HasCell own2 (q.address + x.offset) x.kind (encoded alive_then x.kind x.value)) q.object.cells
      (λ x a b. cell_grown next alive alive_then grown own own2 (q.address + x.offset) x.kind x.value b.1 a b.0) i
      (every_both (λ (x : Scalar). HasCell own (q.address + x.offset) x.kind (encoded alive x.kind x.value))
      (λ (x : Scalar). own2 (q.address + x.offset) ≡ own (q.address + x.offset)) _ q.object.cells (λ x a b. (a, b)) j.0 j.1))
      known.scalars
      (every_both (λ q. ScalarsCovered own alive q.address q.object.cells) Stays _ alive (λ q a b. (a, b)) h off)

  old_filled : Every Stays alive → Every (λ q. Every (IsFilled own q.address) q.object.cells) alive
      → Every (λ q. Every (IsFilled own2 q.address) q.object.cells) alive
  old_filled off h =
      every_both (λ q. Every (IsFilled own q.address) q.object.cells) Stays (λ q. Every (IsFilled own2 q.address) q.object.cells)
      alive
      (λ q j k. every_both (IsFilled own q.address) (λ (x : Scalar). own2 (q.address + x.offset) ≡ own (q.address + x.offset))
      (IsFilled own2 q.address) q.object.cells
      (λ x a b. record { word = λ d. let w = a.word d in (w.0, b ∙ w.1) }) j k)
      h off

  -- the temporaries of the callers stay, and so the arguments
  pub held_then : Stacked p all own g base (calling args below) (reverse s.calls)
      → Holds p.ir all alive (calling args below) (reverse s.calls)
      → Holds p.ir all2 alive_then (calling args below) (reverse s.calls)
  held_then stack holds =
      holds_stay alive alive_then p all own all all2 g base (calling args below) (reverse s.calls) (λ b k. grows.all_on b k)
      (every_map (λ (l : Frame). Every (IsKnownTemporary next) l.temporaries) (λ (l : Frame). Every (CodeStays alive alive_then)
      l.temporaries)
      (calling args below)
      (λ l k. every_map (IsKnownTemporary next) (CodeStays alive alive_then) l.temporaries (λ t j. code_grown next alive
      alive_then grown t j) k)
      known.temporaries)
      stack holds

  pub stack_then : Stacked p all own g base (calling args below) (reverse s.calls)
      → Stacked p all2 own2 g base below (reverse s.calls)
  stack_then stack =
      stacked_without p all2 own2 g base args below (reverse s.calls)
      (stack_same p all all2 own own2 g base (calling args below) (reverse s.calls) (λ b k. (
        grows.all_on b k,
        λ j. grows.own_on
            b k ∙ j,
      )) stack)

  -- the stage of the call that is entered
  pub entered_stage : (sp g2 : ℕ) (ps ps2 r r2 m m2 : ℕ → ℕ) (st st2 : Bytes)
      → Stage p s next (calling args below) all own g base sp ps r m st → frame_below (top_of s) fn.frame ≡ Some frame
      → ((b : ℕ) → frame + temporaries_at fn ≤ b → b < frame + fn.frame + 2 → own2 b ≡ None)
      → ((ReturnsHere all2 (return_to p below) g2 (frame + fn.frame) × Stacked p all2 own2 g2 (frame + fn.frame + 2) below
      (reverse s.calls))
      ⊎ ((older : ℕ) × (at : ℕ) × ReturnsBelow all2 own2 (return_to p below) g2 (frame + fn.frame) older at
      × Stacked p all2 own2 older (at + 2) below (reverse s.calls)))
      → Ground p.low p.high g2 frame → Shape g2 frame ps2 all2 → Facts p.code p.low p.high all2 m2 st2 → AreWords r2
      → r2 1 ≡ frame
      → Stage p (after_enter p f frame next s) (next_after p f next) (level f 1 next [] ∷ below) all2 own2 g2 frame frame ps2 r2
      m2 st2
  entered_stage sp g2 ps ps2 r r2 m m2 st st2 h place clear back ground shape facts wide is =
      let on = every_reverse (FrameOn p g base) (reverse s.calls) (frames_on p all own g base (calling args below) (reverse
      s.calls) h.stacked) in
      let off = scalars_stay h.made (subst (Every (FrameOn p g base)) (reverse-reverse s.calls) on) in
      let turned : reverse (after_enter p f frame next s).calls ≡ c ∷ reverse s.calls = reverse-append s.calls (c ∷ []) in
      record {
        ground = ground;
        shape = shape;
        facts = facts;
        words = wide;
        stack = is;
        part = grows.part;
        covered = record {
          objects = both (λ q. ScalarsCovered own2 alive_then q.address q.object.cells) (old_objects off h.covered.objects)
              (fresh_covered own2 alive_then frame (offset_in p.core.structs (slice_get p.core.functions f)) local.inner
              grows.locals 0 next
              (objects_of fn) local.cells);
          stamps = stamps_stay own own2 p.core 0 s.stamps (λ b k. grows.own_high b (omega arith)) laid.stamps h.covered.stamps;
          count = grows.own_low outputs_start (omega arith) ∙ h.covered.count;
          outputs = outputs_stay g sp ps all own own2 h.shape h.part (λ b k. grows.own_low b k) s.outputs (outputs_start + 2)
              refl (omega arith)
              (omega arith) h.covered.outputs;
        };
        made = laid.entered next s f frame fn is_one place h.made;
        filled = both (λ q. Every (IsFilled own2 q.address) q.object.cells) (old_filled off h.filled)
            (fresh_filled own2 (local_address p.core c) 0 next (objects_of fn));
        whole = both (λ q. Every IsWhole q.object.cells) h.whole (fresh_whole (local_address p.core c) 0 next (objects_of fn));
        outputs = λ b k j. grows.all_low b (omega arith) ∙ h.outputs b k j;
        stacked = subst (Stacked p all2 own2 g2 frame (level f 1 next [] ∷ below)) (sym turned) (
          record {
            frame = refl;
            function = refl;
            numbers = numbered_fresh next (objects_of fn);
            locals = length_fresh next (objects_of fn) ∙ length-map fn.locals (λ l. l.scalars);
            objects = fits.objects;
            clear = clear;
          },
          back,
        );
        holds = subst (Holds p.ir all2 alive_then (level f 1 next [] ∷ below)) (sym turned) (
          record {
            words = grows.words;
            room = (let o = fits.objects in let z : temporaries_at fn + 2 * 0 ≤ fn.frame = omega arith in z);
            held = tt;
          },
          holds_without p all2 alive_then args below (reverse s.calls) (held_then h.stacked h.holds),
        );
        no_block = h.no_block;
      }

-- One argument is copied: the parameter has its value, and the arguments are where they were.
use Rattle.std.proofs.Common.{◌≡◌, ◌≢◌, ℕ, zero, suc, ◌+◌, ◌*◌, ◌<◌, ◌≤◌, refl, sym, ap, ◌∙◌, subst, arith, Bool, true, false, not, List, [], ◌∷◌, length, map, reverse, Option, Some, None, Ok, if◌then◌else◌}
use Rattle.std.proofs.lemmas.Option.{slice_get-map, slice_get_within}
use Rattle.std.specs.Prelude.{slice_get, option_map, nat_eq}
use Rattle.base16.specs.Board.{segment_start, segment_top}
use Rattle.base16.specs.declared.image.Kind.{Kind}
use Rattle.isa430.specs.declared.instr.TwoOp.TheVariants.{Mov}
use Rattle.isa430.specs.declared.instr.Src.TheVariants.{Indexed}
use Rattle.isa430.specs.declared.instr.Dst.TheVariants.{Indexed as ToIndexed}
use Rattle.isa430.specs.declared.instr.Instr.TheVariants.{Two}
use Rattle.core430.specs.Registers.{set_reg}
use Rattle.core430.specs.Uses.{AreWords}
use Rattle.run430.specs.Code.{Here}
use Rattle.ideal430.specs.Ideal.{Ideal, Meter}
use Rattle.ideal430.specs.Settled.{Bytes}
use Rattle.c_run.specs.Actions.{kept}
use Rattle.c_values.specs.Objects.{put_cell, put_object, with_scalar, accessed}
use Rattle.c_values.specs.Pointers.{at as place_at}
use Rattle.c_values.specs.Values.{fit}
use Rattle.c_values.specs.declared.state.Call.{Call}
use Rattle.c_values.specs.declared.state.Object.{Object}
use Rattle.c_values.specs.declared.state.State.{State}
use Rattle.c_values.specs.declared.value.Value.{Value}
use Rattle.cells430.specs.Cells.{Cell, Word, Cells, set_cell, Facts}
use Rattle.cells430.specs.Stretch.{Course, at, Leads}
use Rattle.cells430.proofs.Cells.{set_cell-other, some_none, live_below}
use Rattle.core_tree.specs.declared.types.Slot.{Slot}
use Rattle.ir.specs.declared.control.Frame.{Frame}
use Rattle.ir.specs.declared.control.Temporary.{Temporary}
use Rattle.ir.specs.declared.control.Temporary.TheVariants as temporary
use Rattle.ir.specs.declared.form.IrFunction.{IrFunction}
use Rattle.ir.specs.declared.form.IrLocal.{IrLocal}
use Rattle.ir.specs.Machine.{objects_of}
use Rattle.matching.specs.Covering.{cell_by, cell_of}
use Rattle.matching.specs.Laid.{IsMade}
use Rattle.matching.specs.Matches.{Placed, placed, encoded}
use Rattle.select430.specs.Code.{is_char}
use Rattle.select430.specs.Frames.{word, temporaries_at, offset_or}
use Rattle.steps430.specs.Setting.{Setting, function_of, IsLaid}
use Rattle.steps430.specs.Holds.{is_missing, is_defined, HasCode, value_code, IsHeld, AreHeld, with_args}
use Rattle.steps430.specs.Standing.{Stacked, Stage}
use Rattle.steps430.proofs.CallsCopy.{copies_word, copies_byte}
use Rattle.steps430.proofs.CallsEntry.{HasArguments}
use Rattle.steps430.proofs.CallsObjects.{HaveScalars, stored_have, param_there}
use Rattle.steps430.proofs.FramesGrown.{args_held}
use Rattle.steps430.proofs.Keeping.{call_off}
use Rattle.steps430.proofs.Moves.{level, top_of}
use Rattle.steps430.proofs.Reading.{local_stands}
use Rattle.steps430.proofs.Stored.{changed, placed_changed, held_same, accessed_cell, stage_set}
use Rattle.steps430.proofs.Stores.{low, fit_whole, fit_code, local_low, in_segment}
use Rattle.steps430.proofs.Values.{narrow_kind}

-- ---- the word of an argument

abbrev no_values : List Value
no_values = []

never_value : {A : Type 0} (i : ℕ) (v : Value) → slice_get no_values i ≡ Some v → A
never_value i v e = absurd (differ e)
  where
    differ : slice_get no_values i ≡ Some v → ⊥
    differ k = cc

same_value : (a b : Value) → Some a ≡ Some b → a ≡ b
same_value a b e = cc

defined_word : (f : Cells) (a : ℕ) (alive : List Placed) (v : Value) → is_missing v ≡ false
    → IsHeld f a (is_defined (temporary.Value v)) (value_code alive v)
    → (w : ℕ) × (f a ≡ Some (Word (Some w))) × HasCode (value_code alive v) w
defined_word f a alive v there h = subst (λ (t : Bool). IsHeld f a t (value_code alive v)) (ap not there) h

-- an argument is as deep as many others are before it
arg_word : (f : Cells) (alive : List Placed) (base : ℕ) (args : List Value) (ts : List Temporary) (i : ℕ) (v : Value)
    → AreHeld f alive base (with_args args ts) → slice_get args i ≡ Some v → is_missing v ≡ false
    → (w : ℕ) × (f (base + 2 * (length ts + i)) ≡ Some (Word (Some w))) × HasCode (value_code alive v) w
arg_word f alive base [] ts i v h e there = never_value i v e
arg_word f alive base (x ∷ vs) ts zero v h e there =
    let same : base + 2 * length ts ≡ base + 2 * (length ts + 0) = omega arith in
    let mine : IsHeld f (base + 2 * length ts) (is_defined (temporary.Value x)) (value_code alive x) =
    (args_held f alive base vs (temporary.Value x ∷ ts) h).0 in
    let k = defined_word f (base + 2 * length ts) alive v there
    (subst (λ (z : Value). IsHeld f (base + 2 * length ts) (is_defined (temporary.Value z)) (value_code alive z))
    (same_value x v e) mine) in
    (k.0, ap f (sym same) ∙ k.1, k.2)
arg_word f alive base (x ∷ vs) ts (suc j) v h e there =
    let m = arg_word f alive base vs (temporary.Value x ∷ ts) j v h e there in
    let same : base + 2 * (suc (length ts) + j) ≡ base + 2 * (length ts + suc j) = omega arith in
    (m.0, ap f (sym same) ∙ m.1, m.2)

-- the arguments stay where a scalar is set
args_stay : (p : Setting) (all own : Cells) (g : Object → Object) → ((o : Object) → (g o).number ≡ o.number)
    → (ps : List Placed) (a : ℕ) (x old : Cell) → own a ≡ Some old → (args : List Value) (below : List Frame) (w : ℕ)
    → HasArguments p all own ps args below w
    → HasArguments p (set_cell all a x) (set_cell own a x) (map (changed g) ps) args below w
args_stay p all own g number ps a x old there args [] w h = h
args_stay p all own g number ps a x old there args (b ∷ ls) w h =
    let fn : IrFunction = function_of p b.function in
    let us : List Temporary = with_args args b.temporaries in
    let holds = call_off all ps fn h.0 us a x (λ c l k. off c (h.2 c l k)) h.3 in (
      h.0,
      h.1,
      λ c l k. set_cell-other own a c x (off c (h.2 c l k)) ∙ h.2 c l k,
      record {
        words = holds.words;
        room = holds.room;
        held = held_same g number (set_cell all a x) ps (h.0 + temporaries_at fn) us holds.held;
      },
    )
  where
    off : (c : ℕ) → own c ≡ None → c ≢ a
    off c none e = some_none (own c) old (ap own e ∙ there) none

-- ---- the copy

module _ (p : Setting) (Q : Ideal → Type 0) (j : ℕ) (s : State) (next : ℕ) (frames : List Frame) (all own : Cells)
    (segment base sp : ℕ) (ps r m : ℕ → ℕ) (st : Bytes) (x : Course) (y : Meter) where
  copies_cell : (byte : Bool) (i o from a w : ℕ) (old : Option ℕ) → Stage p s next frames all own segment base sp ps r m st
      → Here p.code p.low p.high (r 0) (Two Mov byte (Indexed 14 i) (ToIndexed 1 o)) → r 14 + i ≡ from → from < 65536
      → sp + o ≡ a → segment_start segment ≤ a → a < segment_top segment → all from ≡ Some (Word (Some w))
      → all a ≡ Some (cell_by (not byte) old)
      → ((m2 : ℕ → ℕ) (st2 : Bytes) (y2 : Meter)
      → Facts p.code p.low p.high (set_cell all a (cell_by (not byte) (Some (low byte w)))) m2 st2
      → AreWords (set_reg r 0 (r 0 + 6)) → Leads j (at segment ps (set_reg r 0 (r 0 + 6)) m2 st2 x y2) Q)
      → Leads (suc j) (at segment ps r m st x y) Q
  copies_cell false i o from a w old h =
      copies_word p Q j s next frames all own segment base sp ps r m st x y h i o from a w old
  copies_cell true i o from a w old h =
      copies_byte p Q j s next frames all own segment base sp ps r m st x y h i o from a w old

module _ (p : Setting) (lay : IsLaid p) (Q : Ideal → Type 0) (f i first : ℕ) (l : IrLocal) (k : Kind)
    (is_local : slice_get (function_of p f).locals i ≡ Some l) (single : l.scalars ≡ record { offset = 0; kind = k } ∷ [])
  where
    abbrev fn : IrFunction
    fn = function_of p f

    slots_there : slice_get (objects_of fn) i ≡ Some (record { offset = 0; kind = k } ∷ [])
    slots_there =
        slice_get-map (λ (z : IrLocal). z.scalars) fn.locals i ∙ ap (option_map (λ (z : IrLocal). z.scalars)) is_local
        ∙ ap (λ (z : List Slot). Some z) single

    old_value : (s : State) (next : ℕ) (all own : Cells) (segment sp : ℕ) (below : List Frame) (cs : List Call)
        → reverse s.calls ≡ cs → IsMade p.core next (kept s) → Stacked p all own segment sp (level f 1 first [] ∷ below) cs
        → HaveScalars (objects_of fn) cs → (old : Value) × (accessed s (place_at (first + i) 0) k ≡ Ok old)
    old_value s next all own segment sp below [] e made stack have = absurd stack
    old_value s next all own segment sp below (c ∷ cs) e made stack have =
        param_there p.core next s first i k c cs e made (lay.numbered next (kept s) made).1 stack.0.numbers
        (ap (λ (z : List (List Slot)). slice_get z i) have ∙ slots_there)

    -- the argument is there, and the parameter gets of it what fits
    pub copies_one : (j : ℕ) (v w : Value) (args : List Value) (below : List Frame) (s : State) (next : ℕ) (all own : Cells)
        (segment sp : ℕ) (ps r m : ℕ → ℕ) (st : Bytes) (x : Course) (y : Meter) → slice_get args i ≡ Some v → is_missing v ≡ false
        → fit k v ≡ w
        → HaveScalars (objects_of (function_of p f)) (reverse s.calls)
        → Stage p s next (level f 1 first [] ∷ below) all own segment sp sp ps r m st
        → HasArguments p all own (placed p.core (kept s)) args below (r 14)
        → Here p.code p.low p.high (r 0) (Two Mov (is_char k) (Indexed 14 (word (2 * i))) (ToIndexed 1 (word l.offset)))
        → ((all2 own2 : Cells) (m2 : ℕ → ℕ) (st2 : Bytes) (y2 : Meter)
        → HaveScalars (objects_of (function_of p f)) (reverse (with_scalar (first + i) 0 w s).calls)
        → Stage p (with_scalar (first + i) 0 w s) next (level f 1 first [] ∷ below) all2 own2 segment sp sp ps
        (set_reg r 0 (r 0 + 6)) m2 st2
        → HasArguments p all2 own2 (placed p.core (kept (with_scalar (first + i) 0 w s))) args below (r 14)
        → Leads j (at segment ps (set_reg r 0 (r 0 + 6)) m2 st2 x y2) Q)
        → Leads (suc j) (at segment ps r m st x y) Q
    unfolding with_scalar
    copies_one j v w args [] s next all own segment sp ps r m st x y is_arg there_v fits have h given here go =
        never_value i v (ap (λ (z : List Value). slice_get z i) (sym given) ∙ is_arg)
    copies_one j v w args (b ∷ ls) s next all own segment sp ps r m st x y is_arg there_v fits have h given here go =
        let alive : List Placed = placed p.core (kept s) in
        let frames : List Frame = level f 1 first [] ∷ b ∷ ls in
        let fb : IrFunction = function_of p b.function in
        let old = old_value s next all own segment sp (b ∷ ls) (reverse s.calls) refl h.made h.stacked have in
        let al = lay.alone next s (first + i) 0 k old.0 h.made old.1 in
        let a : ℕ = al.address + 0 in
        let few : i < length fn.locals = slice_get_within fn.locals i l is_local in
        let base = local_stands p lay s all own segment sp f 1 first i [] (b ∷ ls) al.address 0 k
        (reverse s.calls) refl h.stacked few al.apart in
        let offset : offset_or (slice_get fn.locals i) ≡ l.offset = ap offset_or is_local in
        let there = accessed_cell p.core s own (first + i) 0 k old.0 old.1 h.covered al.address al.is in
        let cell : all a ≡ Some (cell_by (not (is_char k)) there.0) =
        h.part a (cell_of k there.0) there.1 ∙ ap (λ (z : Cell). Some z) (narrow_kind k there.0) in
        let top = top_of p all own alive segment sp f 1 first [] (b ∷ ls) (reverse s.calls) h.stacked h.holds in
        let least = local_low fn.locals i in
        let objects = top.objects in
        let start = h.ground.base in
        let last = h.ground.last in
        let high = in_segment segment sp ps al.address 0 fn.frame (omega arith) (omega arith)
        (omega arith) top.below h.ground.last al.site
        (h.shape.live a (cell_by (not (is_char k)) there.0) cell) in
        let to : sp + word l.offset ≡ a = omega arith in
        let from : ℕ = given.0 + temporaries_at fb + 2 * (length b.temporaries + i) in
        let wd = arg_word all alive (given.0 + temporaries_at fb) args b.temporaries i v given.3.held is_arg
        there_v in
        let small = live_below segment sp ps from (h.shape.live from (Word (Some wd.0)) wd.1) in
        let at_14 = given.1 in
        let source : r 14 + word (2 * i) ≡ from = omega arith in
        let new : ℕ = low (is_char k) wd.0 in
        copies_cell p Q j s next frames all own segment sp sp ps r m st x y (is_char k) (word (2 * i)) (word l.offset) from a wd.0
        there.0 h here source (omega arith) to (omega arith) high wd.1 cell (λ m2 st2 y2 facts wide.
        go (set_cell all a (cell_of k (Some new))) (set_cell own a (cell_of k (Some new))) m2 st2 y2
        (stored_have (objects_of fn) (first + i) 0 w s have)
        (stage_set p lay s next frames all own segment sp sp ps r m (set_reg r 0 (r 0 + 6)) m2 st st2
        (first + i) 0 k old.0 w new h old.1 (λ z is. fit_whole k v z (fits ∙ is))
        (subst (λ (z : Value). HasCode (encoded alive k z) new) fits (fit_code alive k v wd.0 wd.2)) h.stack wide
        (subst (λ (z : Cell). Facts p.code p.low p.high (set_cell all a z) m2 st2) (sym (narrow_kind k (Some new))) facts))
        (subst (λ (qs : List Placed). HasArguments p (set_cell all a (cell_of k (Some new)))
        (set_cell own a (cell_of k (Some new))) qs args (b ∷ ls) (r 14))
        (sym (placed_changed (put_object (first + i) 0 w) p.core s))
        (args_stay p all own (put_object (first + i) 0 w) same_number alive a (cell_of k (Some new)) (cell_of k there.0) there.1
        args (b ∷ ls) (r 14) given)))
      where
        same_number : (o : Object) → (put_object (first + i) 0 w o).number ≡ o.number
        same_number o = from (nat_eq o.number (first + i))
          where
            from : (t : Bool) → (if t then record o { cells = map (put_cell 0 w) o.cells } else o).number ≡ o.number
            from true = refl
            from false = refl

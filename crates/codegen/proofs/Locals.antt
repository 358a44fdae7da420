-- The scalars of a function's parameters and locals have cells in its frame, below the temporaries, wherever the frame is.
use Rattle.std.proofs.Common.{◌≡◌, ℕ, ◌+◌, ◌-◌, ◌*◌, ◌%◌, ◌<◌, ◌≤◌, refl, sym, ap, ◌∙◌, subst, arith, Bool, true, false, List, [], ◌∷◌, ◌++◌, length, map, Some, None, if◌then◌else◌}
use Rattle.std.proofs.lemmas.Bool.Decides.{nat_tests}
use Rattle.std.specs.Prelude.{slice_get, nat_lt, nat_le}
use Rattle.base16.specs.Board.{segment_bytes, segment_count, segment_start, most_frame_bytes, first_stack_pointer}
use Rattle.base16.specs.Placement.{frame_below}
use Rattle.c_meaning.specs.After.{start, objects_of}
use Rattle.c_run.specs.Actions.{kept}
use Rattle.c_values.specs.declared.state.Call.{Call}
use Rattle.c_values.specs.declared.state.Object.{Object}
use Rattle.c_values.specs.declared.state.State.{State}
use Rattle.c_values.specs.declared.value.Cell.{Cell as Scalar}
use Rattle.cells430.specs.Cells.{Cell, Word, Byte, Cells, Fits, IsBlank, IsLayout}
use Rattle.core_layout.specs.Frames.{PlacedFramesLieApart}
use Rattle.core_layout.specs.Laws.{SlotsFit, SlotsRise, SlotsAligned}
use Rattle.core_tree.specs.Data.{global_address}
use Rattle.core_tree.specs.Heights.{frame_bytes}
use Rattle.core_tree.specs.LawfulCore.{Every}
use Rattle.core_tree.specs.declared.program.Core.{Core}
use Rattle.core_tree.specs.declared.program.Function.{Function}
use Rattle.core_tree.specs.declared.types.Slot.{Slot}
use Rattle.core_tree.specs.declared.types.Ty.{Ty}
use Rattle.ir.specs.declared.form.Ir.{Ir}
use Rattle.ir.specs.declared.form.IrFunction.{IrFunction}
use Rattle.ir.specs.Machine as machine
use Rattle.ir_gen.specs.Serves.{Serves}
use Rattle.matching.specs.Covering.{cell_by, cell_of}
use Rattle.matching.specs.Laid.{slot_of, AreMade, AreLaid, IsAligned, IsMade}
use Rattle.matching.specs.Laws.{fresh_call, with_fresh}
use Rattle.matching.specs.Matches.{Placed, placed_from, offset_in, local_address}
use Rattle.matching.proofs.Even.{made_aligned}
use Rattle.matching.proofs.Lying.{laid_made}
use Rattle.matching.proofs.Making.{start_made, entered_made}
use Rattle.select430.specs.Frames.{temporaries_at}
use Rattle.steps430.specs.Calls.{LieIn, HaveCells}
use Rattle.codegen.specs.declared.data.Datum.{Datum}
use Rattle.codegen.specs.Words.{scalar_data, object_data}
use Rattle.follows430.proofs.Served.{served}
use Rattle.codegen.proofs.Calls.{at_number, same_objects, calls_in}
use Rattle.codegen.proofs.Chart.{Distinct, AreDistinct, IsEven, chart, charted, of_all, all_fit}
use Rattle.codegen.proofs.DataWords.{objects_distinct, objects_even}
use Rattle.codegen.proofs.Lists.{same_some, every_split}

-- ---- data without values

abbrev blank : Datum → Datum
blank d = record { address = d.address; wide = d.wide; code = None }

every_blank : (P : Datum → Type 0) (ds : List Datum) → Every (λ d. P (blank d)) ds → Every P (map blank ds)
every_blank P [] h = tt
every_blank P (d ∷ ds) h = (h.0, every_blank P ds h.1)

of_blank : (P : Datum → Type 0) (ds : List Datum) → Every P (map blank ds) → Every (λ d. P (blank d)) ds
of_blank P [] h = tt
of_blank P (d ∷ ds) h = (h.0, of_blank P ds h.1)

still_distinct : (ds : List Datum) → AreDistinct ds → AreDistinct (map blank ds)
still_distinct [] h = tt
still_distinct (d ∷ ds) h = (every_blank (Distinct (blank d)) ds h.0, still_distinct ds h.1)

all_blank : (ds : List Datum) → Every (λ d. IsBlank (cell_by d.wide d.code)) (map blank ds)
all_blank [] = tt
all_blank (d ∷ ds) = (one d.wide, all_blank ds)
  where
    one : (w : Bool) → IsBlank (cell_by w None)
    one true = tt
    one false = tt

-- ---- objects and their data

every_tail : {A : Type 0} (P : A → Type 0) (xs ys : List A) → Every P (xs ++ ys) → Every P ys
every_tail P xs ys h = (every_split P xs ys h).1

laid_tail : (ps qs : List Placed) → AreLaid (ps ++ qs) → AreLaid qs
laid_tail [] qs h = h
laid_tail (p ∷ ps) qs h = laid_tail ps qs h.2

laid_head : (ps qs : List Placed) → AreLaid (ps ++ qs) → AreLaid ps
laid_head [] qs h = tt
laid_head (p ∷ ps) qs h = (h.0, (every_split _ ps qs h.1).0, laid_head ps qs h.2)

cells_below : (alive : List Placed) (low high address : ℕ) (cs : List Scalar) (more : List Datum)
    → Every (λ (c : Scalar). (low ≤ address + c.offset) × (address + c.offset < high)) cs
    → Every (λ (d : Datum). d.address < high) more
    → Every (λ (d : Datum). d.address < high) (scalar_data alive address cs ++ more)
cells_below alive low high address [] more k h = h
cells_below alive low high address (c ∷ cs) more k h = (k.0.1, cells_below alive low high address cs more k.1 h)

below : (alive : List Placed) (low high : ℕ) (ps : List Placed) → LieIn low high ps
    → Every (λ (d : Datum). d.address < high) (object_data alive ps)
below alive low high [] h = tt
below alive low high (p ∷ ps) h = cells_below alive low high p.address p.object.cells (object_data alive ps) h.0
    (below alive low high ps h.1)

-- cells at the addresses of objects are those of their scalars, by their offsets
module _ (f : Cells) (frame : ℕ) (offset : ℕ → ℕ) where
  abbrev Stands : Datum → Type 0
  Stands d = f d.address ≡ Some (cell_by d.wide None)

  of_cells : (a : ℕ) (cs : List Scalar) (slots : List Slot) → map slot_of cs ≡ slots
      → Every Stands (scalar_data [] (frame + a) cs)
      → Every (λ (s : Slot). f (frame + (a + s.offset)) ≡ Some (cell_of s.kind None)) slots
  of_cells a cs slots e h =
      subst (λ (ss : List Slot). Every (λ (s : Slot). f (frame + (a + s.offset)) ≡ Some (cell_of s.kind None)) ss) e (from cs h)
    where
      from : (ds : List Scalar) → Every Stands (scalar_data [] (frame + a) ds)
          → Every (λ (s : Slot). f (frame + (a + s.offset)) ≡ Some (cell_of s.kind None)) (map slot_of ds)
      from [] k = tt
      from (d ∷ ds) k =
          (ap f (let z : frame + (a + d.offset) ≡ frame + a + d.offset = omega arith in z) ∙ k.0, from ds k.1)

  have_cells : (n first : ℕ) (xs : List (List Slot)) (os : List Object) → AreMade first xs os
      → Every Stands (object_data [] (placed_from (λ i. frame + offset i) n os)) → HaveCells (λ o. f (frame + o)) offset n xs
  have_cells n first [] os made h = tt
  have_cells n first (slots ∷ xs) [] made h = absurd made
  have_cells n first (slots ∷ xs) (o ∷ os) made h =
      let rest : List Datum = object_data [] (placed_from (λ i. frame + offset i) (n + 1) os) in
      let two = every_split Stands (scalar_data [] (frame + offset n) o.cells) rest h in
      (of_cells (offset n) o.cells slots made.1 two.0, have_cells (n + 1) (first + 1) xs os made.2 two.1)

-- ---- one call

not_above : (bytes : ℕ) → bytes ≤ 240 → nat_lt most_frame_bytes bytes ≡ false
not_above bytes l = grind (arith, nat_tests)

room : (bytes : ℕ) → bytes ≤ 240 → nat_le (0x2000 + bytes + 4) 0x20FE ≡ true
room bytes l = grind (arith, nat_tests)

first_frame : (bytes : ℕ) → bytes ≤ 240 → frame_below first_stack_pointer bytes ≡ Some (0x20FE - bytes)
unfolding frame_below
first_frame bytes l =
    ap (λ (t : Bool). if t then None
    else (if nat_le (0x2000 + bytes + 4) 0x20FE then Some (0x20FE - bytes)
    else (if nat_lt 0x2000 (segment_start (segment_count - 1)) then Some (0x2000 + 2 * segment_bytes - 2 - bytes) else None)))
    (not_above bytes l)
    ∙ ap (λ (t : Bool). if t then Some (0x20FE - bytes)
    else (if nat_lt 0x2000 (segment_start (segment_count - 1)) then Some (0x2000 + 2 * segment_bytes - 2 - bytes) else None))
    (room bytes l)

module _ (core : Core) (fit : (t : Ty) → SlotsFit core.structs t) (rise : (t : Ty) → SlotsRise core.structs t)
    (apart : (frames addresses : List ℕ) → PlacedFramesLieApart frames addresses)
    (aligned : (t : Ty) → SlotsAligned core.structs t) (ir : Ir) (serves : Serves core ir) where
  -- the variables alone
  abbrev alone : State
  alone = record { globals = (start core).globals; calls = []; stamps = []; outputs = []; block = None; marks = 0 }

  alone_made : IsMade core (length core.globals) (kept alone)
  alone_made = record { globals = (start_made core).globals; calls = omega arith; frames = refl }

  module _ (g : ℕ) (fn : IrFunction) (e : slice_get ir.functions g ≡ Some fn) (most : fn.frame ≤ 240)
      (even : fn.frame % 2 ≡ 0) where
    abbrev x : Function
    x = (served core ir serves g fn e).function

    abbrev frame : ℕ
    frame = 0x20FE - frame_bytes core.structs x

    abbrev next : ℕ
    next = length core.globals

    abbrev call : Call
    call = fresh_call core next g frame x

    abbrev state : State
    state = with_fresh core next g frame x alone

    bytes : fn.frame ≡ frame_bytes core.structs x
    bytes = (served core ir serves g fn e).serves.frame

    made : IsMade core (next + length (objects_of core.structs x)) (kept state)
    made = entered_made core next alone g frame x (served core ir serves g fn e).is
        (first_frame (frame_bytes core.structs x) (let b = bytes in omega arith)) alone_made

    abbrev ps : List Placed
    ps = placed_from (local_address core call) 0 call.locals

    abbrev globals : List Placed
    globals = placed_from (global_address core) 0 alone.globals

    laid : AreLaid ps
    laid = laid_head ps [] (laid_tail globals (ps ++ [])
        (laid_made core fit rise apart (next + length (objects_of core.structs x)) (kept state) made))

    are_aligned : Every IsAligned ps
    are_aligned = (every_split IsAligned ps [] (every_tail IsAligned globals (ps ++ [])
        (made_aligned core aligned (next + length (objects_of core.structs x)) (kept state) made))).0

    lie : LieIn frame (frame + temporaries_at fn) ps
    lie = subst (λ (k : IrFunction). LieIn frame (frame + temporaries_at k) ps) (at_number ir g fn e)
        (calls_in core ir serves (length core.globals) (next + length (objects_of core.structs x)) (call ∷ []) made.calls).0

    abbrev data_in : List Datum
    data_in = map blank (object_data [] ps)

    distinct : AreDistinct data_in
    distinct = still_distinct (object_data [] ps) (objects_distinct [] ps laid)

    abbrev pub inner : Cells
    inner = λ o. chart data_in (frame + o)

    even_frame : frame % 2 ≡ 0
    even_frame = let b = bytes in omega arith

    abbrev FitsAt : ℕ → Cell → Type 0
    FitsAt b c = Fits (chart data_in) b c

    all_even : Every IsEven data_in
    all_even = every_blank IsEven (object_data [] ps) (objects_even [] ps are_aligned)

    shifted : (o : ℕ) (c : Cell) → FitsAt (frame + o) c → Fits inner o c
    shifted o (Word v) h =
        let z = h.0 in
        let f = even_frame in
        (omega arith, ap (chart data_in) (let y : frame + (o + 1) ≡ frame + o + 1 = omega arith in y) ∙ h.1)
    shifted o (Byte v) h = tt

    pub layout : IsLayout (temporaries_at fn) inner
    layout = record {
      even = omega arith;
      within = λ o c k.
          let l = of_all (λ b y. b < frame + temporaries_at fn) data_in
          (every_blank (λ d. d.address < frame + temporaries_at fn) (object_data [] ps)
          (below [] frame (frame + temporaries_at fn) ps lie)) (frame + o) c k in
          omega arith;
      fits = λ o c k. shifted o c (of_all FitsAt data_in (all_fit data_in distinct all_even) (frame + o) c k);
      blank = λ o c k. of_all (λ b y. IsBlank y) data_in (all_blank (object_data [] ps)) (frame + o) c k;
    }

    stands : Every (λ d. chart data_in d.address ≡ Some (cell_by d.wide None)) (object_data [] ps)
    stands = of_blank (λ d. chart data_in d.address ≡ Some (cell_by d.wide d.code)) (object_data [] ps) (charted data_in distinct)

    pub cells : HaveCells inner (offset_in core.structs (slice_get core.functions g)) 0 (machine.objects_of fn)
    cells = subst (λ (xs : List (List Slot)). HaveCells inner (offset_in core.structs (slice_get core.functions g)) 0 xs)
        (sym (same_objects core x fn (served core ir serves g fn e).serves))
        (have_cells (chart data_in) frame (offset_in core.structs (slice_get core.functions g)) 0 made.calls.0.first
        (objects_of core.structs x) call.locals made_objects stands)
      where
        made_objects : AreMade made.calls.0.first (objects_of core.structs x) call.locals
        made_objects = subst (λ (f : Function). AreMade made.calls.0.first (objects_of core.structs f) call.locals)
            (same_some made.calls.0.function x (sym made.calls.0.is ∙ (served core ir serves g fn e).is)) made.calls.0.objects

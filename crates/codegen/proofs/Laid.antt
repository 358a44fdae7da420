-- The setting of a program that is not refused is laid out as the program says.
use Rattle.std.proofs.Common.{◌≡◌, ℕ, ◌<◌, ◌≤◌, refl, sym, ap, ◌∙◌, subst, arith, List, length, Option, Some, None}
use Rattle.std.proofs.lemmas.List.{length-map}
use Rattle.std.specs.Prelude.{Ok, slice_get}
use Rattle.base16.specs.Board.{code_end, data_end}
use Rattle.base16.specs.Readings.{IsReadings}
use Rattle.base16.specs.declared.image.Kind.{Kind}
use Rattle.base16.specs.declared.reading.Reading.{Reading}
use Rattle.c_meaning.specs.Stamps.{slots_of}
use Rattle.c_run.specs.Actions.{kept}
use Rattle.c_values.specs.Objects.{accessed}
use Rattle.c_values.specs.Pointers.{at}
use Rattle.c_values.specs.declared.state.Saved.{Saved}
use Rattle.c_values.specs.declared.state.State.{State}
use Rattle.c_values.specs.declared.value.Value.{Value}
use Rattle.core_layout.specs.Frames.{PlacedFramesLieApart}
use Rattle.core_layout.specs.Laws.{SlotsFit, SlotsRise, SlotsAligned}
use Rattle.core_layout.specs.Variables.{StampsLie}
use Rattle.core_tree.specs.Data.{global_address, stamps_start}
use Rattle.core_tree.specs.LawfulCore.{Every}
use Rattle.core_tree.specs.declared.program.Core.{Core}
use Rattle.core_tree.specs.declared.types.Ty.{Ty}
use Rattle.asm430.specs.declared.item.Item.{Item}
use Rattle.placed430.specs.Assembled.{IsAssembled}
use Rattle.placed430.proofs.Assembled.{placed, part_size}
use Rattle.rt430.specs.declared.words.Helper.{Helper}
use Rattle.ideal430.specs.Loaded.{loaded}
use Rattle.ir.specs.declared.form.Ir.{Ir}
use Rattle.ir.specs.declared.form.IrFunction.{IrFunction}
use Rattle.ir.specs.declared.form.Step.{Step}
use Rattle.ir.specs.declared.form.StepKind.TheVariants as step
use Rattle.matching.specs.Laid.{IsMade}
use Rattle.matching.specs.Matches.{placed as alive, offset_in, address_of}
use Rattle.matching.proofs.Making.{left_made}
use Rattle.cells430.specs.Cells.{Cells, IsLayout}
use Rattle.ir.specs.Machine.{objects_of}
use Rattle.select430.specs.Code.{code_of_step}
use Rattle.select430.specs.Frames.{address_or, offset_or, temporaries_at}
use Rattle.select430.specs.Laying.{Stands}
use Rattle.select430.proofs.Standing.{stands}
use Rattle.steps430.specs.Calls.{HaveCells, LocalsLaid, FramesLaid}
use Rattle.steps430.specs.Outside.{MeetsOutside}
use Rattle.steps430.specs.Routines.{HasRoutine}
use Rattle.steps430.specs.Setting.{Setting, function_at, or_none, function_of, step_at, FrameFits, StepStands, StandsAlone, NumberedFrom, IsLaid}
use Rattle.codegen.specs.Program.{start_items, routines_of, back_items, items_of, labels_end}
use Rattle.codegen.specs.Words.{global_words}
use Rattle.codegen.specs.Laid.{setting_of, IsProgram}
use Rattle.codegen.proofs.Assembled.{assembled, short_code}
use Rattle.codegen.proofs.Bounds.{step_within}
use Rattle.codegen.proofs.Called.{placed_for, have_routines}
use Rattle.follows430.proofs.Served.{served, many_variables}
use Rattle.codegen.proofs.Calls.{at_number, local_stands, calls_in, entered}
use Rattle.codegen.proofs.Faultless.{few_functions, names_inside, is_faultless}
use Rattle.codegen.proofs.Frames.{temporaries_fit, frame_fits}
use Rattle.codegen.proofs.LabelsLeft.{leaves}
use Rattle.codegen.proofs.Lists.{none_some}
use Rattle.codegen.proofs.Locals.{inner, layout, cells}
use Rattle.codegen.proofs.Named.{named}
use Rattle.codegen.proofs.Objects.{numbered, as_many, found, stands_alone, variables_in_data, behind_outputs, stamps_in_data}
use Rattle.codegen.proofs.RoutinesStand.{IsAmong, routine_stands}
use Rattle.codegen.proofs.Sizes.{AreSmall, all_small, data_ends, variables_stand}
use Rattle.codegen.proofs.Steps.{NamesInside, code_stands, code_before}

-- a function that has a step is there
has_function : (ir : Ir) (g q : ℕ) (s : Step) → slice_get (function_at ir g).steps q ≡ Some s
    → slice_get ir.functions g ≡ Some (function_at ir g)
has_function ir g q s k = from (slice_get ir.functions g) k
  where
    from : (o : Option IrFunction) → slice_get (or_none o).steps q ≡ Some s → o ≡ Some (or_none o)
    from None h = absurd (none_some s h)
    from (Some fn) h = refl

module _ (routine : Helper → List ℕ) (core : Core) (ir : Ir) (code : List ℕ) (readings : List Reading)
    (h : IsProgram routine core ir code)
    (fit : (t : Ty) → SlotsFit core.structs t) (rise : (t : Ty) → SlotsRise core.structs t)
    (even : (t : Ty) → SlotsAligned core.structs t)
    (apart : (frames addresses : List ℕ) → PlacedFramesLieApart frames addresses) (behind : StampsLie core) where
  abbrev p : Setting
  p = setting_of routine core ir code readings

  abbrev items : List Item
  items = items_of routine core ir

  abbrev m : ℕ → ℕ
  m = loaded code (global_words core)

  is_assembled : IsAssembled items code m
  is_assembled = assembled routine core ir code (global_words core) h.words (is_faultless routine core ir code h)

  small : AreSmall core
  small = all_small core h.fine

  pub room : stamps_start core ≤ data_end
  room = let l = data_ends core small.variables in omega arith

  few : length ir.functions ≤ 65536
  few = few_functions routine core ir code h

  steps_stand : (g : ℕ) (fn : IrFunction) (q : ℕ) (s : Step) → slice_get ir.functions g ≡ Some fn → slice_get fn.steps q ≡ Some s
      → Stands ir items m g fn q s
  steps_stand g fn q s e k =
      stands ir (start_items ir) (back_items routine core ir) (labels_end ir) (leaves routine core ir few h.few)
      g fn q s
      e k m (placed items code m is_assembled) (part_size items)

  inside : (g : ℕ) (fn : IrFunction) → slice_get ir.functions g ≡ Some fn → NamesInside ir fn
  inside = names_inside routine core ir code h

  -- ---- code

  pub high : p.high ≤ code_end
  high = let l = short_code items (is_faultless routine core ir code h) in omega arith

  pub below : (g q : ℕ) → step_at p g q < 65280
  below g q = let l = step_within ir items m steps_stand inside g q in let k = high in omega arith

  pub first : (g f : ℕ) → (p.addresses f).function g ≡ step_at p g 0
  first g f = refl

  -- a routine that is used stands where it is called
  pub helper_stands : (g : ℕ) (which : Helper) → IsAmong which (routines_of ir)
      → HasRoutine p.code p.low p.high ((p.addresses g).helper which) which
  helper_stands g which among =
      routine_stands routine core ir few h.few code m is_assembled which (h.computes which) among

  pub step_stands : (g q : ℕ) (s : Step) → slice_get (function_of p g).steps q ≡ Some s → StepStands p g q s
  step_stands g q s k =
      let fn : IrFunction = function_at ir g in
      let e : slice_get ir.functions g ≡ Some fn = has_function ir g q s k in
      let x = served core ir h.serves g fn e in
      let inner_room = temporaries_fit core fit x.function fn x.serves in
      let reach = x.serves.depths q s k in
      record {
        code = code_stands ir items m steps_stand g fn e (inside g fn e) q s k;
        next = λ f. code_before ir items m steps_stand g fn e (inside g fn e) q s k;
        room = omega arith;
        named = named core ir fn as_many_globals s.kind ((inside g fn e).names q s k);
        helpers = have_routines p g (code_of_step ir fn s.kind)
            (λ which c. helper_stands g which (placed_for ir g q fn s which e k c));
      }
    where
      as_many_globals : length ir.globals ≡ length core.globals
      as_many_globals = many_variables core ir h.serves

  pub frames_fit : (g : ℕ) (fn : IrFunction) → slice_get p.ir.functions g ≡ Some fn → FrameFits fn
  frames_fit g fn e =
      let x = served core ir h.serves g fn e in
      let bytes = x.serves.frame in
      let most = small.frames g x.function x.is in
      frame_fits core fit x.function fn x.serves (omega arith)

  -- ---- objects

  pub globals_stand : (n : ℕ) → n < length p.core.globals → address_or (slice_get p.ir.globals n) ≡ global_address p.core n
  globals_stand = variables_stand core ir h.serves.globals small.variables

  pub locals_stand : (g n : ℕ) → n < length (function_of p g).locals
      → offset_or (slice_get (function_of p g).locals n) ≡ offset_in p.core.structs (slice_get p.core.functions g) n
  locals_stand = local_stands core ir h.serves

  pub all_numbered : (next : ℕ) (s : Saved) → IsMade p.core next s
      → NumberedFrom 0 s.globals × (length s.globals ≡ length p.core.globals)
  all_numbered next s made = (
    numbered 0 _ s.globals made.globals,
    as_many 0 _ s.globals made.globals ∙ length-map core.globals (slots_of core.structs),
  )

  pub all_found : (next : ℕ) (s : Saved) → IsMade p.core next s
      → Every (λ q. address_of (alive p.core s) q.object.number ≡ Some q.address) (alive p.core s)
  all_found = found core fit rise apart behind room

  pub all_alone : (next : ℕ) (s : State) (n offset : ℕ) (k : Kind) (v : Value) → IsMade p.core next (kept s)
      → accessed s (at n offset) k ≡ Ok v → StandsAlone p.core s n offset k
  all_alone = stands_alone core fit rise apart behind room

  -- all of it: the setting is laid out as the program says
  pub is_laid : IsLaid p
  is_laid = record {
    low = omega arith;
    high = high;
    steps = step_stands;
    first = first;
    below = below;
    frames = frames_fit;
    globals = globals_stand;
    locals = locals_stand;
    numbered = all_numbered;
    found = all_found;
    alone = all_alone;
  }

  -- ---- frames, and what a program meets outside

  pub frames_laid : FramesLaid p
  frames_laid = record {
    variables = variables_in_data core fit rise apart behind room;
    frames = λ next s made. calls_in core ir h.serves (length core.globals) next s.calls made.calls;
    stamps = stamps_in_data core fit rise apart behind room;
    locals = λ g fn e. locals_laid g fn e;
    left = λ next s made. left_made core next s made;
    entered = entered core ir h.serves;
    counts = counts;
  }
    where
      locals_laid : (g : ℕ) (fn : IrFunction) → slice_get ir.functions g ≡ Some fn → LocalsLaid p g
      locals_laid g fn e =
          let f = frames_fit g fn e in
          let same = at_number ir g fn e in
          let own : Cells = inner core fit rise apart even ir h.serves g fn e f.most f.even in
          record {
            inner = own;
            layout = subst (λ (k : IrFunction). IsLayout (temporaries_at k) own) (sym same)
                (layout core fit rise apart even ir h.serves g fn e f.most f.even);
            cells = subst (λ (k : IrFunction). HaveCells own (offset_in core.structs (slice_get core.functions g))
                0 (objects_of k))
                (sym same) (cells core fit rise apart even ir h.serves g fn e f.most f.even);
          }

      counts : (f q node d g n : ℕ) → slice_get (function_at ir f).steps q ≡ Some (record { node = node; kind = step.Call d g n })
          → n ≡ (function_at ir g).params
      counts f q node d g n k =
          let fn : IrFunction = function_at ir f in
          let s : Step = record { node = node; kind = step.Call d g n } in
          let e = has_function ir f q s k in
          let x = served core ir h.serves f fn e in
          let c = h.serves.names h.lawful f x.function fn x.is e q s k in
          sym c.2 ∙ ap (λ (y : IrFunction). y.params) (sym (at_number ir g c.0 c.1))

  pub meets_outside : IsReadings readings → MeetsOutside p
  meets_outside r = record {
    readings = r;
    scalars = behind_outputs core fit rise apart behind room;
    stamps = λ n. let l = stamps_in_data core fit rise apart behind room n in omega arith;
  }

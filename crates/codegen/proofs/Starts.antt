-- The first instruction calls `main`, and behind that call stands the one that ends a run.
use Rattle.std.proofs.Common.{◌≡◌, ◌≢◌, ℕ, ◌+◌, ◌-◌, ◌<◌, ◌≤◌, refl, sym, ap, ◌∙◌, subst, arith, List, [], ◌∷◌, length, Some, None}
use Rattle.base16.specs.Board.{code_start, code_end, outputs_start, outputs_end, first_stack_pointer}
use Rattle.base16.specs.declared.reading.Reading.{Reading}
use Rattle.c_meaning.specs.After as meaning
use Rattle.c_run.specs.Actions.{kept}
use Rattle.c_values.specs.declared.state.State.{State}
use Rattle.cells430.specs.Cells.{Cell, Word, Cells, Shape, Facts, set_cell, output_cell}
use Rattle.cells430.specs.Stretch.{Comes, Ground, outside, at}
use Rattle.cells430.proofs.Calls.{calls, pushed_shape}
use Rattle.cells430.proofs.Cells.{set_cell-same, set_cell-other, none_below}
use Rattle.cells430.proofs.Lift.{here_now}
use Rattle.cells430.proofs.OutputCells.{inside, outputs_shape}
use Rattle.cells430.proofs.Start.{start_words, loaded_words, start_facts, start_outputs, loaded_outputs}
use Rattle.core430.specs.Registers.{set_reg}
use Rattle.core_layout.specs.Frames.{PlacedFramesLieApart}
use Rattle.core_layout.specs.Laws.{SlotsFit, SlotsRise, SlotsAligned}
use Rattle.core_layout.specs.Variables.{StampsLie}
use Rattle.core_tree.specs.declared.program.Core.{Core}
use Rattle.core_tree.specs.declared.types.Ty.{Ty}
use Rattle.isa430.proofs.InMemory.{decodes}
use Rattle.run430.specs.Code.{Placed}
use Rattle.asm430.specs.declared.item.Item.{Item}
use Rattle.asm430.specs.Assembly.{place_of, address, call}
use Rattle.placed430.specs.Assembled.{IsAssembled, end_of}
use Rattle.placed430.proofs.Assembled.{placed}
use Rattle.rt430.specs.declared.words.Helper.{Helper}
use Rattle.ideal430.specs.Ideal.{Ideal, Meter}
use Rattle.ideal430.specs.Loaded.{loaded, start_of, start_registers}
use Rattle.ideal430.specs.Places.{is_fixed}
use Rattle.ideal430.specs.declared.state.IdealEnd.TheVariants.{Running}
use Rattle.ir.specs.declared.form.Ir.{Ir}
use Rattle.ir.specs.Machine as machine
use Rattle.matching.specs.Covering.{IsCovered}
use Rattle.matching.specs.Laid.{IsMade}
use Rattle.matching.specs.Matches.{placed as alive}
use Rattle.matching.specs.Simulates.{MachineMatches, last_call}
use Rattle.matching.proofs.CellsMatch.{matched}
use Rattle.matching.proofs.Making.{start_made}
use Rattle.select430.specs.Labels.{function_label}
use Rattle.steps430.specs.Setting.{Setting}
use Rattle.steps430.specs.Standing.{AreWhole, AreFilled, Stage, Entering}
use Rattle.steps430.specs.Whole.{StartsRight, EndsRight}
use Rattle.follows430.proofs.Served.{same_start, many_variables}
use Rattle.codegen.specs.Program.{start_items, items_of}
use Rattle.codegen.specs.Words.{global_words}
use Rattle.codegen.specs.Laid.{setting_of, IsProgram}
use Rattle.codegen.proofs.Assembled.{assembled, short_code}
use Rattle.codegen.proofs.Faultless.{is_faultless}
use Rattle.codegen.proofs.First.{cells, own, shape, covered, filled, words_small, has_values}
use Rattle.codegen.proofs.Laid.{below}
use Rattle.codegen.proofs.Lists.{none_some}
use Rattle.codegen.proofs.Lawful.{main_alone, starts_narrow}
use Rattle.codegen.proofs.Sizes.{AreSmall, all_small}
use Rattle.codegen.proofs.Values.{whole_start}

module _ (routine : Helper → List ℕ) (core : Core) (ir : Ir) (code : List ℕ) (readings : List Reading)
    (h : IsProgram routine core ir code)
    (fit : (t : Ty) → SlotsFit core.structs t) (rise : (t : Ty) → SlotsRise core.structs t)
    (even : (t : Ty) → SlotsAligned core.structs t)
    (apart : (frames addresses : List ℕ) → PlacedFramesLieApart frames addresses) (behind : StampsLie core) where
  abbrev p : Setting
  p = setting_of routine core ir code readings

  abbrev items : List Item
  items = items_of routine core ir

  abbrev m : ℕ → ℕ
  m = loaded code (global_words core)

  abbrev hi : ℕ
  hi = end_of items

  small : AreSmall core
  small = all_small core h.fine

  top : hi ≤ code_end
  top = let l = short_code items (is_faultless routine core ir code h) in omega arith

  -- ---- the first two instructions

  abbrev main_at : ℕ
  main_at = address (place_of items (function_label ir.main))

  first_two : Placed m 0x8000 hi 0x8000 (call main_at ∷ last_call ∷ [])
  first_two =
      let a : IsAssembled items code m = assembled routine core ir code (global_words core) h.words (is_faultless routine core ir code h) in
      placed items code m a [] (start_items ir) _ refl refl

  pub ends_right : EndsRight p
  ends_right n has =
      let here = here_now m code_start hi n 0x8004 last_call has first_two.1.0 in
      decodes last_call n 0x8004 here.is_valid here.words

  -- ---- the start

  abbrev none : ℕ → ℕ
  none = λ k. 0

  abbrev own_cells : Cells
  own_cells = own core fit rise even apart behind small.variables

  abbrev meter : Meter
  meter = record { ticks = 0; entries = 0; commits = 0; due_ticks = 0; due_entries = 0; length = 0; period = 0 }

  ground : Ground code_start hi 0 first_stack_pointer
  ground = record { low = omega arith; high = top; base = omega arith; top = omega arith; last = omega arith; even = refl }

  data_shape : Shape 0 first_stack_pointer none (cells core fit rise even apart behind small.variables)
  data_shape = shape core fit rise even apart behind small.variables

  own_shape : Shape 0 first_stack_pointer none own_cells
  own_shape = outputs_shape 0 first_stack_pointer none [] (cells core fit rise even apart behind small.variables) data_shape

  facts : Facts m code_start hi own_cells m is_fixed
  facts =
      let f : Cells = cells core fit rise even apart behind small.variables in
      start_outputs m code_start hi m f (loaded_outputs code (global_words core))
      (start_facts m code_start hi m none f data_shape (record { at = λ a e l k. refl })
      (loaded_words code (global_words core) h.wide (words_small core fit rise even apart behind small.variables))
      (has_values core fit rise even apart behind small.variables code (starts_narrow core h.lawful)))

  abbrev start : Ideal
  start = start_of m readings

  -- ---- the call of main

  main_low : main_at < 65280
  main_low =
      let l = below routine core ir code readings h fit rise even apart behind ir.main 0 in
      omega arith

  abbrev regs : ℕ → ℕ
  regs = set_reg (set_reg (set_reg start_registers 0 (start_registers 0 + 4)) 1 (first_stack_pointer - 2)) 0 main_at

  comes : Comes m code_start hi (at 0 none start_registers m is_fixed (outside 0 readings) meter) Running 0 none regs
      (outside 0 readings)
      (set_cell own_cells (first_stack_pointer - 2) (Word (Some (start_registers 0 + 4))))
  comes = calls m code_start hi 0 first_stack_pointer none ground own_cells own_shape start_registers m is_fixed
      (outside 0 readings) meter main_at facts start_words first_two.0 refl main_low

  abbrev all : Cells
  all = set_cell own_cells (first_stack_pointer - 2) (Word (Some 0x8004))

  nothing_below : own_cells (first_stack_pointer - 2) ≡ None
  nothing_below =
      none_below m code_start hi 0 first_stack_pointer none ground.low own_cells own_shape (first_stack_pointer - 2)
      (omega arith) (omega arith) (omega arith) (omega arith)

  among : (b : ℕ) (x : Cell) → own_cells b ≡ Some x → all b ≡ Some x
  among b x e = set_cell-other own_cells (first_stack_pointer - 2) b (Word (Some 0x8004)) off ∙ e
    where
      off : b ≢ first_stack_pointer - 2
      off k = none_some x (sym nothing_below ∙ ap own_cells (sym k) ∙ e)

  -- ---- the state

  same : machine.start ir ≡ meaning.start core
  same = same_start core ir h.serves

  is_covered : IsCovered core (kept (machine.start ir)) own_cells
  is_covered = subst (λ (s : State). IsCovered core (kept s) own_cells) (sym same)
      (covered core fit rise even apart behind small.variables)

  matches_program : MachineMatches core (meaning.start core) start
  unfolding meaning.start
  matches_program =
      let t = matched core (kept (meaning.start core)) own_cells 0 first_stack_pointer none own_shape m code_start hi
      m is_fixed facts
      (covered core fit rise even apart behind small.variables) in
      record { matches = record { words = t.0; block = tt }; settled = t.1; opening = tt }

  matches : MachineMatches core (machine.start ir) start
  matches = subst (λ (s : State). MachineMatches core s start) (sym same) matches_program

  many : length core.globals ≡ length ir.globals
  many = sym (many_variables core ir h.serves)

  made : IsMade core (length ir.globals) (kept (machine.start ir))
  made = subst (λ (n : ℕ). IsMade core n (kept (machine.start ir))) many
      (subst (λ (s : State). IsMade core (length core.globals) (kept s)) (sym same) (start_made core))

  is_filled : AreFilled own_cells (alive core (kept (machine.start ir)))
  is_filled = subst (λ (s : State). AreFilled own_cells (alive core (kept s))) (sym same)
      (filled core fit rise even apart behind small.variables)

  is_whole : AreWhole (alive core (kept (machine.start ir)))
  is_whole = subst (λ (s : State). AreWhole (alive core (kept s))) (sym same) (whole_start core)

  in_outputs : (b : ℕ) → outputs_start ≤ b → b < outputs_end → all b ≡ output_cell [] b
  in_outputs b l u =
      set_cell-other own_cells (first_stack_pointer - 2) b (Word (Some 0x8004)) (λ e. omega arith)
      ∙ inside [] (cells core fit rise even apart behind small.variables) b l u

  stage : Stage p (machine.start ir) (length ir.globals) [] all own_cells 0 first_stack_pointer (first_stack_pointer - 2)
      none regs
      comes.memory comes.settled
  unfolding machine.start
  stage = record {
    ground = record { low = omega arith; high = top; base = omega arith; top = omega arith; last = omega arith; even = refl };
    shape = pushed_shape m code_start hi 0 first_stack_pointer none ground own_cells own_shape (Some 0x8004);
    facts = comes.facts;
    words = comes.words;
    stack = refl;
    part = among;
    covered = is_covered;
    made = made;
    filled = is_filled;
    whole = is_whole;
    outputs = in_outputs;
    stacked = (refl, refl);
    holds = tt;
    no_block = refl;
  }

  no_marks : (machine.start ir).marks ≡ 0
  unfolding machine.start
  no_marks = refl

  pub starts_right : StartsRight p start
  starts_right = record {
    first = at 0 none regs comes.memory comes.settled (outside 0 readings) comes.meter;
    step = comes.step;
    marks = refl;
    taken = refl;
    matches = matches;
    stands = λ left. record {
      all = all;
      own = own_cells;
      segment = 0;
      base = first_stack_pointer;
      sp = first_stack_pointer - 2;
      pointers = none;
      r = regs;
      m = comes.memory;
      settled = comes.settled;
      meter = comes.meter;
      is = ap (λ (n : ℕ). at 0 none regs comes.memory comes.settled (outside n readings) comes.meter) (sym no_marks);
      stage = stage;
      point = Entering refl (set_cell-same own_cells (first_stack_pointer - 2) (first_stack_pointer - 2)
          (Word (Some 0x8004)) refl)
          nothing_below (let z : main_at ≡ main_at + 0 = omega arith in z) tt refl (λ e. refl) (sym (main_alone core ir h.lawful h.serves));
    };
  }

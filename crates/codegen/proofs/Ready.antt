-- The machine at the start of a program's image is ready: its code does each step of the form that serves the program.
use Rattle.std.proofs.Common.{ℕ, List, []}
use Rattle.base16.specs.Readings.{IsReadings}
use Rattle.base16.specs.declared.reading.Reading.{Reading}
use Rattle.core_layout.specs.Frames.{PlacedFramesLieApart}
use Rattle.core_layout.specs.Laws.{SlotsFit, SlotsRise, SlotsAligned, SizeIsEven}
use Rattle.core_layout.specs.Variables.{StampsLie}
use Rattle.core_tree.specs.declared.program.Core.{Core}
use Rattle.core_tree.specs.declared.types.Ty.{Ty}
use Rattle.rt430.specs.declared.words.Helper.{Helper}
use Rattle.ideal430.specs.Loaded.{loaded, start_of}
use Rattle.ir.specs.declared.form.Ir.{Ir}
use Rattle.matching.specs.Simulates.{Simulates}
use Rattle.matching.proofs.Spacing.{lie_whole}
use Rattle.steps430.specs.Lying.{ObjectsLie}
use Rattle.steps430.specs.Whole.{IsReady}
use Rattle.steps430.proofs.Lying.{objects_lie}
use Rattle.steps430.proofs.Simulated.{simulates}
use Rattle.follows430.proofs.Whole.{does_all}
use Rattle.codegen.specs.Laid.{setting_of, IsProgram}
use Rattle.codegen.specs.Words.{global_words}
use Rattle.codegen.proofs.Laid.{room, is_laid, frames_laid, meets_outside}
use Rattle.codegen.proofs.Shortly.{stays_short}
use Rattle.codegen.proofs.Starts.{starts_right, ends_right}
use Rattle.codegen.proofs.Stops.{stops_alike}

module _ (routine : Helper → List ℕ) (core : Core) (ir : Ir) (code : List ℕ) (h : IsProgram routine core ir code)
    (fit : (t : Ty) → SlotsFit core.structs t) (rise : (t : Ty) → SlotsRise core.structs t)
    (even : (t : Ty) → SlotsAligned core.structs t) (whole : (t : Ty) → SizeIsEven core.structs t)
    (apart : (frames addresses : List ℕ) → PlacedFramesLieApart frames addresses) (behind : StampsLie core) where
  lie : (readings : List Reading) → ObjectsLie (setting_of routine core ir code readings)
  lie readings = objects_lie (setting_of routine core ir code readings) (lie_whole core fit whole apart behind)
      (room routine core ir code readings h fit rise even apart behind)

  pub is_ready : (readings : List Reading) → IsReadings readings
      → IsReady (setting_of routine core ir code readings) (start_of (loaded code (global_words core)) readings)
  is_ready readings are = record {
    all = does_all (setting_of routine core ir code readings)
        (is_laid routine core ir code readings h fit rise even apart behind)
        (frames_laid routine core ir code readings h fit rise even apart behind)
        (meets_outside routine core ir code readings h fit rise even apart behind are)
        (lie readings) h.lawful h.plain h.serves;
    short = stays_short routine core ir code readings h;
    starts = starts_right routine core ir code readings h fit rise even apart behind;
    ends = ends_right routine core ir code readings h fit rise even apart behind;
    same = stops_alike routine core ir code readings h;
  }

  -- the image of a program simulates it
  pub image_simulates : Simulates core code (global_words core)
  image_simulates = simulates (setting_of routine core ir code []) code (global_words core) is_ready

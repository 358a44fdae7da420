-- The run of a program's form stops as the program does.
use Rattle.std.proofs.Common.{ℕ, List}
use Rattle.base16.specs.declared.reading.Reading.{Reading}
use Rattle.core_tree.specs.declared.program.Core.{Core}
use Rattle.rt430.specs.declared.words.Helper.{Helper}
use Rattle.ir.specs.declared.form.Ir.{Ir}
use Rattle.steps430.specs.Whole.{SameStops}
use Rattle.codegen.specs.Laid.{IsProgram, setting_of}

pub stops_alike : (routine : Helper → List ℕ) (core : Core) (ir : Ir) (code : List ℕ) (readings : List Reading)
    → IsProgram routine core ir code → SameStops (setting_of routine core ir code readings)
stops_alike routine core ir code readings h = h.serves.stops readings

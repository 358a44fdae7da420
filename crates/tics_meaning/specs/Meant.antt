-- What a program means on the readings of a file, and which files it is asked about.
use Rattle.std.specs.Prelude.{◌≡◌, ℕ, ◌<◌, ◌≤◌, ◌⊎◌, List, [], ◌∷◌, ◌++◌, length, codes, Option, Some, Ok, Err}
use Rattle.std.specs.Fmt.{decimal}
use Rattle.base16.specs.declared.reading.Reading.{Reading}
use Rattle.edge.specs.Told.{Drive}
use Rattle.world.specs.ReadingsFile.{readings_of}
use Rattle.world.specs.declared.error.TraceErr.TheVariants as trace
use Rattle.c_tree.specs.declared.unit.Tree.{Tree}
use Rattle.core_tree.specs.declared.program.Typed.{Typed}
use Rattle.c_meaning.specs.After.{after}
use Rattle.report_state.specs.StateText.{state_text}
use Rattle.tics_front.specs.declared.fault.SourceFault.{SourceFault}
use Rattle.tics_front.specs.Held.{HoldsAt}
use Rattle.tics_front.specs.Source.{IsTyped, IsAnnotated, IsRefused}
use Rattle.tics_meaning.specs.declared.fault.ReadingsFault.{ReadingsFault}
use Rattle.tics_meaning.specs.declared.fault.ReadingsFault.TheVariants.{BadLine, TooLong}

-- ---- readings

-- most bytes of a readings file
abbrev pub most_readings_bytes : ℕ
most_readings_bytes = 1048576

-- The text says these readings.
abbrev pub IsReadingsOf : List ℕ → List Reading → Type 0
IsReadingsOf text readings = readings_of text ≡ Ok readings

-- The text is refused as readings: above the most bytes it is too long, whatever its lines are.
abbrev pub IsReadingsRefused : List ℕ → ReadingsFault → Type 0
IsReadingsRefused text (BadLine line) = (length text ≤ most_readings_bytes) × (readings_of text ≡ Err (trace.BadLine line))
IsReadingsRefused text TooLong = (most_readings_bytes < length text) ⊎ (readings_of text ≡ Err trace.TooLong)

-- the line of a refusal
abbrev pub readings_text : ReadingsFault → List ℕ
readings_text (BadLine line) = codes "readings W1 line " ++ decimal line ++ 10 ∷ []
readings_text TooLong = codes "readings W2" ++ 10 ∷ []

-- ---- files: the names are those of the source and of the readings

-- The source is refused for this reason.
abbrev pub Refuses : Option Drive → List ℕ × List ℕ → SourceFault → Type 0
Refuses files names fault = HoldsAt files names.0 (λ text. IsRefused text fault)

-- The source is this program by the rules of the language.
pub record IsProgramAt (files : Option Drive) (name : List ℕ) (typed : Typed) : Type 0 where
  pub tree : Tree
  pub source : HoldsAt files name (λ text. IsTyped text tree typed)

-- The source is this program, and the other file says these readings.
pub record IsAsked (files : Option Drive) (names : List ℕ × List ℕ) (typed : Typed) (readings : List Reading) : Type 0 where
  pub program : IsProgramAt files names.0 typed
  pub told : HoldsAt files names.1 (λ text. IsReadingsOf text readings)

-- The source is a program, and the readings are refused.
pub record RefusesReadings (files : Option Drive) (names : List ℕ × List ℕ) (fault : ReadingsFault) : Type 0 where
  pub typed : Typed
  pub program : IsProgramAt files names.0 typed
  pub refused : HoldsAt files names.1 (λ text. IsReadingsRefused text fault)

-- The source has annotations about time, whose meaning is not built yet.
abbrev pub HasNoMeaning : Option Drive → List ℕ × List ℕ → Type 0
HasNoMeaning files names = HoldsAt files names.0 IsAnnotated

-- The read that failed is that of the source, or that of the readings of a source that is a program.
abbrev pub NamesMeaningRead : Option Drive → List ℕ × List ℕ → Option (List ℕ) → Type 0
NamesMeaningRead files names last =
    (last ≡ Some names.0) ⊎ ((last ≡ Some names.1) × (typed : Typed) × IsProgramAt files names.0 typed)

-- ---- the text

-- how many marks a meaning is looked at behind
abbrev pub meaning_marks : ℕ
meaning_marks = 4000000

-- what is printed: the state just after that many marks, or how the run stopped earlier
abbrev pub meaning_text : Typed → List Reading → List ℕ
meaning_text typed readings = state_text typed.core (after typed.core readings meaning_marks)

-- The text of a readings file: what each line says, and what all lines say.
use Rattle.std.specs.Prelude.{◌≡◌, ℕ, ◌+◌, ◌<◌, ◌^◌, ◌&&◌, Bool, List, [], ◌∷◌, ◌++◌, Option, Some, None, Result, Ok, Err, codes, length, nat_le, if◌then◌else◌}
use Rattle.std.specs.Option.{option_map, option_and_then}
use Rattle.std.specs.Str.{bytes_eq}
use Rattle.std.specs.Str.Lines.{lines}
use Rattle.base16.specs.Readings.{IsReadings}
use Rattle.base16.specs.declared.reading.Reading.{Reading}
use Rattle.base16.specs.declared.reading.Reading.TheVariants.{Sense, Clock}
use Rattle.world.specs.World.{last_clock_of}
use Rattle.world.specs.Text.{fields, is_padded, is_skipped, number_in}
use Rattle.world.specs.declared.error.TraceErr.{TraceErr}
use Rattle.world.specs.declared.error.TraceErr.TheVariants.{BadLine, TooLong}
use Rattle.world.specs.declared.readings_draft.ReadingsDraft.{ReadingsDraft}

-- `sense CHANNEL VALUE`
abbrev pub sensed_with : Option ℕ → Option ℕ → Option Reading
sensed_with channel value = option_and_then (λ c. option_map (λ v. Sense c v) value) channel

abbrev pub sensed_of : List (List ℕ) → Option Reading
sensed_of [] = None
sensed_of (channel ∷ []) = None
sensed_of (channel ∷ value ∷ []) = sensed_with (number_in 0 15 channel) (number_in 0 65535 value)
sensed_of (channel ∷ value ∷ more ∷ args) = None

-- `clock MS`
abbrev pub clock_of : List (List ℕ) → Option Reading
clock_of [] = None
clock_of (ms ∷ []) = option_map (λ n. Clock n) (number_in 0 2147483647 ms)
clock_of (ms ∷ more ∷ args) = None

-- what the fields of a line say, if they say a reading
unfoldable pub reading_of : List (List ℕ) → Option Reading
reading_of [] = None
reading_of (word ∷ args) =
    if bytes_eq word (codes "sense") then sensed_of args
    else if bytes_eq word (codes "clock") then clock_of args
    else None

-- the ranges of a reading
abbrev pub IsInRange : Reading → Type 0
IsInRange (Sense channel value) = (channel < 16) × (value < 2 ^ 16)
IsInRange (Clock ms) = ms < 2 ^ 31

-- The readings so far and their last clock, or 0. A clock below the last one is no reading.
abbrev pub with_reading : ReadingsDraft → Reading → Option ReadingsDraft
with_reading d (Sense channel value) = Some (record d { readings = d.readings ++ Sense channel value ∷ [] })
with_reading d (Clock ms) = if nat_le d.clock ms then Some (record {
  readings = d.readings ++ Clock ms ∷ [];
  clock =
      ms;
}) else None

unfoldable pub with_reading_line : ReadingsDraft → List ℕ → Option ReadingsDraft
with_reading_line d line =
    if is_skipped line then Some d else if is_padded line then None else option_and_then (with_reading d)
    (reading_of (fields line))

-- what the lines from number n on say after d, or the first bad one
abbrev pub or_bad_line : ℕ → (ReadingsDraft → Result ReadingsDraft TraceErr) → Option ReadingsDraft
    → Result ReadingsDraft TraceErr
or_bad_line n next None = Err (BadLine n)
or_bad_line n next (Some d) = next d

abbrev pub readings_from : ℕ → ReadingsDraft → List (List ℕ) → Result ReadingsDraft TraceErr
readings_from n d [] = Ok d
readings_from n d (line ∷ more) = or_bad_line n (λ next. readings_from (n + 1) next more) (with_reading_line d line)

abbrev pub no_reading : ReadingsDraft
no_reading = record { readings = []; clock = 0 }

abbrev pub readings_within : Bool → List Reading → Result (List Reading) TraceErr
readings_within short readings = if short && nat_le (length readings) 65536 then Ok readings else Err TooLong

abbrev pub readings_read : Bool → Result ReadingsDraft TraceErr → Result (List Reading) TraceErr
readings_read short (Ok d) = readings_within short d.readings
readings_read short (Err e) = Err e

-- the readings that a readings file says, or why it is refused: the first bad line, and where no line is bad a total
-- that is passed
unfoldable pub readings_of : List ℕ → Result (List Reading) TraceErr
readings_of text = readings_read (nat_le (length text) 1048576) (readings_from 1 no_reading (lines text))

-- what the draft keeps
pub record IsKept (d : ReadingsDraft) : Type 0 where
  pub readings : IsReadings d.readings
  pub clock : last_clock_of 0 d.readings ≡ d.clock

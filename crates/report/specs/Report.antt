-- The printed report of a history: one line for each record, and after a commit one for each of its sets.
use Rattle.std.specs.Prelude.{ℕ, List, [], ◌∷◌, ◌++◌, map, Option, Some, None, slice_get, if◌then◌else◌, nat_lt, codes}
use Rattle.std.specs.List.{flat_map, concat}
use Rattle.std.specs.Fmt.{decimal, signed_decimal}
use Rattle.base16.specs.Hexadecimal.{hex4}
use Rattle.base16.specs.Integer.{signed}
use Rattle.base16.specs.declared.end.EndKind.{EndKind}
use Rattle.base16.specs.declared.end.EndKind.TheVariants.{Done, Power, StackFull, BlockFull, OutputFull, Wild}
use Rattle.base16.specs.declared.image.Kind.{Kind}
use Rattle.base16.specs.declared.image.Kind.TheVariants.{Char, Int, UInt, Pointer}
use Rattle.base16.specs.declared.image.Scalar.{Scalar}
use Rattle.base16.specs.declared.reading.Reading.{Reading}
use Rattle.base16.specs.declared.reading.Reading.TheVariants.{Sense, Clock}
use Rattle.world.specs.declared.history.Record.{Record}
use Rattle.world.specs.declared.history.Record.TheVariants.{On, Read, Commit, Off, End}
use Rattle.world.specs.declared.history.Shown.{Shown}
use Rattle.world.specs.declared.history.Shown.TheVariants.{Value, Stamp, Outs, Out}

-- ---- words
-- a word as the value of a scalar
abbrev pub value_text : Kind → ℕ → List ℕ
value_text Char w = decimal w
value_text Int w = signed_decimal (signed w)
value_text UInt w = decimal w
value_text Pointer w = hex4 w

abbrev pub end_word : EndKind → List ℕ
end_word Done = codes "done"
end_word Power = codes "power"
end_word StackFull = codes "stack"
end_word BlockFull = codes "block"
end_word OutputFull = codes "output"
end_word (Wild address) = codes "wild " ++ hex4 address

-- ---- lines
-- a line feed ends each line
abbrev pub line : List ℕ → List ℕ
line text = text ++ 10 ∷ []

abbrev pub stamp_text : Option ℕ → List ℕ
stamp_text None = codes "none"
stamp_text (Some ms) = decimal ms

-- what is printed of a set, given its scalar
abbrev pub value_line : Option Scalar → ℕ → List ℕ
value_line None w = []
value_line (Some scalar) w = line (codes "set " ++ scalar.name ++ codes " " ++ value_text scalar.kind w)

abbrev pub stamp_line : Option Scalar → Option ℕ → List ℕ
stamp_line None ms = []
stamp_line (Some scalar) ms = line (codes "stamp " ++ scalar.name ++ codes " " ++ stamp_text ms)

abbrev pub shown_line : List Scalar → Shown → List ℕ
shown_line scalars (Value scalar word) = value_line (slice_get scalars scalar) word
shown_line scalars (Stamp scalar ms) = stamp_line (slice_get scalars scalar) ms
shown_line scalars (Outs length) = line (codes "outs " ++ decimal length)
shown_line scalars (Out index word) = line (codes "out " ++ decimal index ++ codes " " ++ decimal word)

abbrev pub reading_line : Reading → List ℕ
reading_line (Sense channel value) = line (codes "sense " ++ decimal channel ++ codes " " ++ decimal value)
reading_line (Clock ms) = line (codes "clock " ++ decimal ms)

abbrev pub commit_line : (number marks instrs pc sp words log : ℕ) → List ℕ
commit_line number marks instrs pc sp words log =
    line (codes "commit " ++ decimal number ++ codes " marks " ++ decimal marks ++ codes " instrs " ++ decimal
    instrs ++ codes " pc " ++ hex4 pc
    ++ codes " sp " ++ hex4 sp ++ codes " words " ++ decimal words ++ codes " log " ++ decimal log)

abbrev pub record_lines : List Scalar → Record → List (List ℕ)
record_lines scalars (On cycle) = line (codes "on " ++ decimal cycle) ∷ []
record_lines scalars (Read reading) = reading_line reading ∷ []
record_lines scalars (Commit number marks instrs pc sp words log sets) =
    commit_line number marks instrs pc sp words log ∷ map (shown_line scalars) sets
record_lines scalars Off = line (codes "off") ∷ []
record_lines scalars (End kind) = line (codes "end " ++ end_word kind) ∷ []

abbrev pub report_lines : List Scalar → List Record → List (List ℕ)
report_lines scalars records = flat_map (record_lines scalars) records

-- the bytes of the report
abbrev pub report : List Scalar → List Record → List ℕ
report scalars records = concat (report_lines scalars records)

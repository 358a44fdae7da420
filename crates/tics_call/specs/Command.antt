-- The command line.
use Rattle.std.specs.Prelude.{ℕ, List, [], ◌∷◌, map, Option, Some, None, Bool, false, not, ◌&&◌, ◌==◌, if◌then◌else◌, codes}
use Rattle.std.specs.Str.{bytes_eq}
use Rattle.std.specs.String.{string_bytes}
use Rattle.std.specs.declared.string.String.{String}
use Rattle.std.specs.declared.alloc.Global.{Global}
use Rattle.tics_call.specs.declared.command.Verb.{Verb}
use Rattle.tics_call.specs.declared.command.Verb.TheVariants as verb

abbrev pub texts : List (String Global) → List (List ℕ)
texts words = map string_bytes words

-- not empty, and not beginning with `-`
abbrev pub is_file_name : List ℕ → Bool
is_file_name [] = false
is_file_name (b ∷ bs) = not (b == 45)

abbrev pub are_file_names : List ℕ → List ℕ → Bool
are_file_names first second = is_file_name first && is_file_name second

-- what the first word asks for
abbrev pub verb_of : List ℕ → Option Verb
verb_of word =
    if bytes_eq word (codes "run") then Some verb.Run
    else if bytes_eq word (codes "meaning") then Some verb.Meaning
    else None

-- what the words ask for: a run of a source under a trace, or the meaning of a source on readings, each with the names of
-- its two files
pub data Order : Type 0 where
  Run : List ℕ × List ℕ → Order
  Meaning : List ℕ × List ℕ → Order

abbrev pub ordered : Verb → List ℕ × List ℕ → Order
ordered verb.Run names = Run names
ordered verb.Meaning names = Meaning names

abbrev pub named : Option Verb → List ℕ → List ℕ → Option Order
named None first second = None
named (Some v) first second = if are_file_names first second then Some (ordered v (first, second)) else None

-- `run SOURCE TRACE` or `meaning SOURCE READINGS`
abbrev pub command_of : List (List ℕ) → Option Order
command_of (word ∷ first ∷ second ∷ []) = named (verb_of word) first second
command_of words = None

-- ---- what is said of an order that there is

-- A run is asked for, and P holds of its files.
abbrev pub IsRunOf : Option Order → (List ℕ × List ℕ → Type 0) → Type 0
IsRunOf (Some (Run names)) P = P names
IsRunOf order P = ⊥

-- A meaning is asked for, and P holds of its files.
abbrev pub IsMeaningOf : Option Order → (List ℕ × List ℕ → Type 0) → Type 0
IsMeaningOf (Some (Meaning names)) P = P names
IsMeaningOf order P = ⊥

-- Either is asked for: P holds of the files of a run, Q of those of a meaning.
abbrev pub IsEitherOf : Option Order → (List ℕ × List ℕ → Type 0) → (List ℕ × List ℕ → Type 0) → Type 0
IsEitherOf None P Q = ⊥
IsEitherOf (Some (Run names)) P Q = P names
IsEitherOf (Some (Meaning names)) P Q = Q names

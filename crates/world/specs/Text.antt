-- Fields and numbers of the text files that stand for the outside. Lines are std's: a line ends with a line feed, a
-- carriage return just before it is dropped, and the last line may lack its end.
use Rattle.std.specs.Prelude.{ℕ, ◌+◌, ◌-◌, ◌*◌, ◌==◌, ◌&&◌, ◌||◌, Bool, true, List, [], ◌∷◌, Option, Some, None, length, filter, fold, not, nat_lt, nat_le, slice_index, if◌then◌else◌}
use Rattle.std.specs.List.{slice_split, list_all}
use Rattle.std.specs.Str.Lines.{lines, lines_of_parts}
use Rattle.std.proofs.Common.{◌≤◌, arith}
use Rattle.std.proofs.lemmas.Bool.Decides.{nat_tests}
use Rattle.std.proofs.lemmas.List.Splits.{length-slice_split}
use Rattle.std.proofs.lemmas.List.Sums.{count_by-le-length}
use Rattle.std.specs.Char.{is_ascii_digit}

abbrev pub is_space : ℕ → Bool
is_space b = b == 32

-- the fields of a line stand apart by one or more spaces
abbrev pub fields : List ℕ → List (List ℕ)
fields line = filter (λ field. not (length field == 0)) (slice_split is_space line)

-- a line may not begin or end with a space
abbrev pub is_padded : List ℕ → Bool
is_padded line = is_space (slice_index line 0) || is_space (slice_index line (length line - 1))

-- an empty line and a comment say nothing
abbrev pub is_skipped : List ℕ → Bool
is_skipped [] = true
is_skipped (b ∷ bs) = b == 35

-- the number that digits write
abbrev pub decimal : List ℕ → ℕ
decimal digits = fold (λ n b. 10 * n + (b - 48)) 0 digits

-- 1 to 10 decimal digits
abbrev pub is_number : List ℕ → Bool
is_number field = nat_lt 0 (length field) && nat_le (length field) 10 && list_all is_ascii_digit field

-- the number that a field says, where it is one and lies in a range
unfoldable pub number_in : ℕ → ℕ → List ℕ → Option ℕ
number_in least most field = if is_number field && nat_le least (decimal field) && nat_le (decimal field) most then Some (decimal field) else None

-- A text has no more lines than line feeds and one, so a text of n bytes has at most n + 1.
length-lines_of_parts : (parts : List (List ℕ)) → length (lines_of_parts parts) ≤ length parts
length-lines_of_parts [] = omega arith
length-lines_of_parts (x ∷ []) = grind (arith, nat_tests)
length-lines_of_parts (x ∷ y ∷ parts) = omega (arith, length-lines_of_parts (y ∷ parts))

pub length-lines : (text : List ℕ) → length (lines text) ≤ length text + 1
length-lines text =
    omega (arith, length-lines_of_parts (slice_split (λ b. b == 10) text), length-slice_split (λ b. b == 10) text, count_by-le-length (λ b. b == 10) text)

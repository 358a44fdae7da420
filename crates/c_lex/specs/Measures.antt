-- What the code computes: the length of the longest piece, and the tokens behind it.
use Rattle.std.specs.Prelude.{ℕ, zero, suc, ◌+◌, Bool, ◌&&◌, ◌||◌, if◌then◌else◌, ◌==◌, List, [], ◌∷◌, length, take, min, ◌++◌, Option, Some, None, Result, Ok, Err, is_some, unwrap_or}
use Rattle.c_lex.specs.declared.token.Token.{Token as AToken}
use Rattle.c_lex.specs.declared.item.Item.{Item}
use Rattle.c_lex.specs.declared.item.Item.TheVariants.{Skip, Token, Bad}
use Rattle.c_lex.specs.declared.item.LexErr.{LexErr}
use Rattle.c_lex.specs.declared.item.LexErr.TheVariants.{BadByte}
use Rattle.c_lex.specs.Spelling.{Text}
use Rattle.c_lex.specs.Bytes.{is_digit, is_letter, continues, in_line, is_blank}
use Rattle.c_lex.specs.Pieces.{short, close, digit_follows}
use Rattle.c_lex.specs.Tokens.{refusal}

-- how many items in front pass the test
unfoldable pub span : {A : Type 0} → (A → Bool) → List A → ℕ
span p [] = 0
span p (x ∷ xs) = if p x then suc (span p xs) else 0

-- the greatest length up to n of a front that passes the test, and 0 without one
unfoldable pub greatest : (Text → Bool) → ℕ → Text → ℕ
greatest p zero text = 0
greatest p (suc n) text = if p (take (suc n) text) then suc n else greatest p n text

-- whether a text is such a piece
abbrev pub is_short : Text → Bool
is_short text = is_some (short text)

-- how many bytes a character constant, an annotation or a mark has at most, by its first one
abbrev pub most : ℕ → ℕ
most a = if a == 39 then 6 else (if a == 64 then 14 else 3)

unfoldable pub short_len : Text → ℕ
short_len [] = 0
short_len (a ∷ more) = greatest is_short (min (most a) (length (a ∷ more))) (a ∷ more)

-- the length of the longest piece that is `/` and bytes of this text
unfoldable pub slash_len : Text → ℕ
slash_len [] = short_len (47 ∷ [])
slash_len (b ∷ more) =
    if b == 42 then 2 + unwrap_or (close 0 more) (length more)
    else (if b == 47 then 2 + span in_line more else short_len (47 ∷ b ∷ more))

-- the length of the longest piece, and 0 where none begins
unfoldable pub piece_len : Bool → Text → ℕ
piece_len fresh [] = 0
piece_len fresh (a ∷ more) =
    if is_letter a || is_digit a then 1 + span continues more
    else (if is_blank a then 1 + span is_blank more
    else (if a == 35 then (if fresh && digit_follows more then 1 + span in_line more else 0)
    else (if a == 47 then slash_len more else short_len (a ∷ more))))

-- the tokens behind a piece with this span and line, or the refusal at its first byte
abbrev pub kept : Option Item → (at end line : ℕ) → List AToken → Result (List AToken) LexErr
kept None at end line found = Err (BadByte at)
kept (Some Skip) at end line found = Ok found
kept (Some (Token kind)) at end line found = Ok (found ++ record { kind = kind; start = at; end = end; line = line } ∷ [])
kept (Some (Bad f)) at end line found = Err (refusal f at)

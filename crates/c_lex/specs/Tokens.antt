-- The tokens that a source is, and the first place where it is none.
use Rattle.std.specs.Prelude.{◌≡◌, ℕ, ◌+◌, ◌-◌, ◌<◌, ◌≤◌, min, Option, Some, None, Bool, true, ◌&&◌, ◌||◌, ◌==◌, ◌⊎◌, List, [], ◌∷◌, length, take, drop, fold, count_by, slice_get, slice_range}
use Rattle.c_lex.specs.declared.token.Token.{Token as AToken}
use Rattle.c_lex.specs.declared.token.TokenKind.{TokenKind}
use Rattle.c_lex.specs.declared.token.TokenKind.TheVariants.{Word, Keyword, Number, Char, Note, Mark}
use Rattle.c_lex.specs.declared.item.Item.TheVariants.{Skip, Token, Bad}
use Rattle.c_lex.specs.declared.item.Fault.{Fault}
use Rattle.c_lex.specs.declared.item.Fault.TheVariants as fault
use Rattle.c_lex.specs.declared.item.LexErr.{LexErr}
use Rattle.c_lex.specs.declared.item.LexErr.TheVariants.{BadByte, OpenComment, BadNumber, BadChar}
use Rattle.c_lex.specs.Spelling.{Text, keyword_text, note_text, mark_text}
use Rattle.c_lex.specs.Bytes.{is_blank}
use Rattle.c_lex.specs.Pieces.{Longest, Stuck}

-- how many line feeds there are
abbrev pub line_feeds : Text → ℕ
line_feeds = count_by (λ b. b == 10)

-- the line of a place, from 1
abbrev pub line_at : Text → ℕ → ℕ
line_at source at = 1 + line_feeds (take at source)

-- whether these bytes leave a line with nothing but blanks, where they begin in a line that is so or not
abbrev pub blank_after : Bool → Text → Bool
blank_after = fold (λ blank b. b == 10 || (blank && is_blank b))

-- whether nothing but blanks stands before a place in its line
abbrev pub fresh_at : Text → ℕ → Bool
fresh_at source at = blank_after true (take at source)

-- the token of n bytes at a place
abbrev pub token_at : Text → (at n : ℕ) → TokenKind → AToken
token_at source at n kind = record { kind = kind; start = at; end = at + n; line = line_at source at }

-- From a place on the source is these tokens: at each place the longest piece is taken; blanks, comments and line
-- markers are skipped.
pub data Lexes (source : Text) : ℕ → List AToken → Type 0 where
  done : {at : ℕ} → length source ≤ at → Lexes source at []
  skip : {at n : ℕ} {ts : List AToken} → Longest (fresh_at source at) (drop at source) n Skip → Lexes source (at + n) ts
      → Lexes source at ts
  one : {at n : ℕ} {kind : TokenKind} {ts : List AToken} → Longest (fresh_at source at) (drop at source) n (Token kind)
      → Lexes source (at + n) ts
      → Lexes source at (token_at source at n kind ∷ ts)

-- how a fault is answered
abbrev pub refusal : Fault → ℕ → LexErr
refusal fault.OpenComment at = OpenComment at
refusal fault.BadNumber at = BadNumber at
refusal fault.BadChar at = BadChar at

-- From a place on the source is no tokens: behind pieces that are read there is a place where no piece begins, or one
-- that is none.
pub data Refuses (source : Text) : ℕ → LexErr → Type 0 where
  stuck : {at : ℕ} → at < length source → Stuck (fresh_at source at) (drop at source) → Refuses source at (BadByte at)
  broken : {at n : ℕ} {f : Fault} → Longest (fresh_at source at) (drop at source) n (Bad f) → Refuses source at (refusal f at)
  behind_skip : {at n : ℕ} {e : LexErr} → Longest (fresh_at source at) (drop at source) n Skip → Refuses source (at + n) e
      → Refuses source at e
  behind_token : {at n : ℕ} {kind : TokenKind} {e : LexErr} → Longest (fresh_at source at) (drop at source) n (Token kind)
      → Refuses source (at + n) e
      → Refuses source at e

-- from a place on the source is tokens, or it has a refusal
abbrev pub IsDecided : Text → ℕ → Type 0
IsDecided source at = ((ts : List AToken) × Lexes source at ts) ⊎ ((e : LexErr) × Refuses source at e)

-- ---- the line of a token by its number

abbrev pub line_or_first : Option AToken → ℕ
line_or_first None = 1
line_or_first (Some t) = t.line

-- The line of the token of this number, from 0; past the last token the last one's line; 1 where there are no tokens.
abbrev pub line_of_token : List AToken → ℕ → ℕ
line_of_token tokens number = line_or_first (slice_get tokens (min (length tokens - 1) number))

-- ---- what follows for each token

-- the spans of tokens are within the source and in order, from a place on
abbrev pub InOrder : Text → ℕ → List AToken → Type 0
InOrder source at [] = Unit {0}
InOrder source at (t ∷ ts) = (at ≤ t.start) × (t.start < t.end) × (t.end ≤ length source) × InOrder source t.end ts

-- a token's text, for the kinds that have one text
abbrev pub IsWritten : TokenKind → Text → Type 0
IsWritten (Word name) text = name ≡ text
IsWritten (Keyword x) text = keyword_text x ≡ text
IsWritten (Note x) text = note_text x ≡ text
IsWritten (Mark x) text = mark_text x ≡ text
IsWritten (Number v d u) text = Unit {0}
IsWritten (Char v) text = Unit {0}

-- the text of each token is the slice of its source
abbrev pub AreSlices : Text → List AToken → Type 0
AreSlices source [] = Unit {0}
AreSlices source (t ∷ ts) = IsWritten t.kind (slice_range source t.start t.end) × AreSlices source ts

-- the line of each token is that of its first byte
abbrev pub AreCounted : Text → List AToken → Type 0
AreCounted source [] = Unit {0}
AreCounted source (t ∷ ts) = (t.line ≡ line_at source t.start) × AreCounted source ts

-- What a string of bytes is, all of them as one piece, and the longest piece in front of a text.
use Rattle.std.specs.Prelude.{◌≡◌, ℕ, suc, ◌-◌, ◌<◌, ◌≤◌, Bool, true, false, ◌&&◌, ◌||◌, not, if◌then◌else◌, ◌==◌, nat_le, [], ◌∷◌, length, take, slice_index, Option, Some, None, option_map}
use Rattle.std.specs.List.{list_all}
use Rattle.c_lex.specs.declared.token.TokenKind.{TokenKind}
use Rattle.c_lex.specs.declared.token.TokenKind.TheVariants.{Word, Keyword, Number, Char, Note, Mark}
use Rattle.c_lex.specs.declared.token.Keyword.{Keyword as AKeyword}
use Rattle.c_lex.specs.declared.token.Note.{Note as ANote}
use Rattle.c_lex.specs.declared.token.Mark.{Mark as AMark}
use Rattle.c_lex.specs.declared.item.Item.{Item}
use Rattle.c_lex.specs.declared.item.Item.TheVariants.{Skip, Token, Bad}
use Rattle.c_lex.specs.declared.item.Fault.TheVariants as fault
use Rattle.c_lex.specs.Spelling.{Text, keyword_of, note_of, mark_of}
use Rattle.c_lex.specs.Bytes.{is_digit, is_letter, continues, in_line, is_line_blank, is_blank, is_digit_of, value}

-- bytes of one class
abbrev pub run : (ℕ → Bool) → Text → Item → Option Item
run p text item = if list_all p text then Some item else None

-- ---- names and keywords (C99 6.4.1, 6.4.2)

abbrev pub word_kind : Option AKeyword → Text → TokenKind
word_kind None text = Word text
word_kind (Some x) text = Keyword x

abbrev pub word : Text → TokenKind
word text = word_kind (keyword_of text) text

-- ---- numbers (C99 6.4.4.1), with values to 65535

abbrev pub numeral : (base : ℕ) (decimal unsigned : Bool) → Text → Item
numeral base decimal unsigned digits =
    if not (length digits == 0) && list_all (is_digit_of base) digits && nat_le (value base digits) 65535
    then Token (Number (value base digits) decimal unsigned) else Bad fault.BadNumber

-- `0` alone is decimal, `0x` begins a hexadecimal number, another `0` an octal one
abbrev pub constant : Bool → Text → Item
constant unsigned [] = Bad fault.BadNumber
constant unsigned (a ∷ []) = numeral 10 true unsigned (a ∷ [])
constant unsigned (a ∷ b ∷ more) =
    if a == 48 then (if b == 120 || b == 88 then numeral 16 false unsigned more else numeral 8 false unsigned (a ∷ b ∷ more))
    else numeral 10 true unsigned (a ∷ b ∷ more)

-- whether the last byte is `u` or `U`
abbrev pub has_suffix : Text → Bool
has_suffix text = let last = slice_index text (length text - 1) in last == 117 || last == 85

abbrev pub number : Text → Item
number text = if has_suffix text then constant true (take (length text - 1) text) else constant false text

-- ---- character constants (C99 6.4.4.4), with values to 255

-- `\n \t \r \a \b \f \v \\ \' \" \?`
abbrev pub simple_escape : ℕ → Option ℕ
simple_escape e =
    if e == 110 then Some 10 else (
    if e == 116 then Some 9 else (
    if e == 114 then Some 13 else (
    if e == 97 then Some 7 else (
    if e == 98 then Some 8 else (
    if e == 102 then Some 12 else (
    if e == 118 then Some 11 else (
    if e == 92 || e == 39 || e == 34 || e == 63 then Some e else None)))))))

-- at least one and at most so many digits
abbrev pub code : (base most : ℕ) → Text → Option ℕ
code base most digits =
    if not (length digits == 0) && nat_le (length digits) most && list_all (is_digit_of base) digits && nat_le
    (value base digits) 255
    then Some (value base digits) else None

-- what stands behind the backslash: a letter or a mark, `x` and one or two hexadecimal digits, or one to three octal digits
abbrev pub escaped : Text → Option ℕ
escaped [] = None
escaped (e ∷ []) = if is_digit_of 8 e then code 8 3 (e ∷ []) else simple_escape e
escaped (e ∷ f ∷ more) = if e == 120 then code 16 2 (f ∷ more) else code 8 3 (e ∷ f ∷ more)

-- what stands between the quotes: one printable byte of ASCII other than `'` and `\`, or an escape
abbrev pub character : Text → Option ℕ
character [] = None
character (c ∷ []) = if nat_le 32 c && nat_le c 126 && not (c == 39) && not (c == 92) then Some c else None
character (c ∷ d ∷ more) = if c == 92 then escaped (d ∷ more) else None

abbrev pub character_item : Option ℕ → Option Item
character_item None = None
character_item (Some v) = Some (Token (Char v))

-- A `'` and these bytes. The quote alone is a piece that is no token: it is the longest where no constant begins.
abbrev pub quoted : Text → Option Item
quoted text =
    if length text == 0 then Some (Bad fault.BadChar)
    else (if slice_index text (length text - 1) == 39 then character_item (character (take (length text - 1) text)) else None)

-- ---- annotations and marks

abbrev pub note_item : Option ANote → Option Item
note_item None = None
note_item (Some x) = Some (Token (Note x))

abbrev pub mark_item : Option AMark → Option Item
mark_item None = None
mark_item (Some x) = Some (Token (Mark x))

-- a piece that begins with no letter, digit, blank or `#`, and that is no comment
unfoldable pub short : Text → Option Item
short [] = None
short (a ∷ more) =
    if a == 39 then quoted more
    else (if a == 64 then note_item (note_of (a ∷ more)) else mark_item (mark_of (a ∷ more)))

-- ---- comments (C99 6.4.9)

-- whether this byte and the one behind it are `*/`
abbrev pub ends_here : ℕ → ℕ → Bool
ends_here last b = last == 42 && b == 47

-- how many bytes there are up to the end of the first `*/`, where this byte stands before the text; nothing without one
unfoldable pub close : ℕ → Text → Option ℕ
close last [] = None
close last (b ∷ rest) = if ends_here last b then Some 1 else option_map suc (close b rest)

-- `/*` and so many bytes: a comment has its first `*/` at its end, and one without any is open
abbrev pub comment : Option ℕ → ℕ → Option Item
comment None n = Some (Bad fault.OpenComment)
comment (Some m) n = if m == n then Some Skip else None

-- a `/` and these bytes
abbrev pub slash : Text → Option Item
slash [] = short (47 ∷ [])
slash (b ∷ more) =
    if b == 42 then comment (close 0 more) (length more)
    else (if b == 47 then run in_line more Skip else short (47 ∷ b ∷ more))

-- ---- line markers

-- blanks, and then a decimal digit
unfoldable pub digit_follows : Text → Bool
digit_follows [] = false
digit_follows (b ∷ rest) = is_digit b || (is_line_blank b && digit_follows rest)

-- a `#` and these bytes, if nothing but blanks stands before it in its line
abbrev pub marker : Bool → Text → Option Item
marker fresh text = if fresh && digit_follows text then run in_line text Skip else None

-- ---- all pieces

-- What these bytes are, all of them as one piece, behind a line that is blank so far or not.
unfoldable pub piece : Bool → Text → Option Item
piece fresh [] = None
piece fresh (a ∷ more) =
    if is_letter a then run continues more (Token (word (a ∷ more)))
    else (if is_digit a then run continues more (number (a ∷ more))
    else (if is_blank a then run is_blank more Skip
    else (if a == 35 then marker fresh more
    else (if a == 47 then slash more
    else short (a ∷ more)))))

-- The first n bytes are a piece, and no longer front of the text is one.
pub record Longest (fresh : Bool) (text : Text) (n : ℕ) (item : Item) : Type 0 where
  pub within : n ≤ length text
  pub is : piece fresh (take n text) ≡ Some item
  pub longest : (k : ℕ) → n < k → k ≤ length text → piece fresh (take k text) ≡ None

-- no front of the text is a piece
abbrev pub Stuck : Bool → Text → Type 0
Stuck fresh text = (k : ℕ) → k ≤ length text → piece fresh (take k text) ≡ None

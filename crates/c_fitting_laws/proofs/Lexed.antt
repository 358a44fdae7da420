-- The tokens of a text are in range.
use Rattle.std.proofs.Common.{◌≡◌, ℕ, ◌-◌, ◌≤◌, nat_le, ◌==◌, Bool, true, false, cond, not, ◌&&◌, ◌||◌, List, [], ◌∷◌, length, take, drop, Option, Some, None, refl, sym, ap, ◌∙◌, arith, rules}
use Rattle.std.proofs.lemmas.Bool.{le-leb, leb-true, eqb-true}
use Rattle.std.specs.List.{list_all}
use Rattle.c_lex.specs.declared.token.Token.{Token as AToken}
use Rattle.c_lex.specs.declared.token.TokenKind.{TokenKind}
use Rattle.c_lex.specs.declared.token.TokenKind.TheVariants.{Number}
use Rattle.c_lex.specs.declared.token.Keyword.{Keyword as AKeyword}
use Rattle.c_lex.specs.declared.token.Note.{Note as ANote}
use Rattle.c_lex.specs.declared.token.Mark.{Mark as AMark}
use Rattle.c_lex.specs.declared.item.Item.{Item}
use Rattle.c_lex.specs.declared.item.Item.TheVariants.{Skip, Token, Bad}
use Rattle.c_lex.specs.declared.item.Fault.TheVariants as fault
use Rattle.c_lex.specs.Spelling.{Text, keyword_of, note_of, mark_of}
use Rattle.c_lex.specs.Bytes.{is_digit, is_letter, continues, in_line, is_blank, is_digit_of, value}
use Rattle.c_lex.specs.Pieces.{run, word_kind, word, numeral, constant, has_suffix, number, simple_escape, code, escaped, character, character_item, quoted, note_item, mark_item, short, close, comment, slash, digit_follows, marker, piece, Longest}
use Rattle.c_lex.specs.Tokens.{Lexes, fresh_at}
use Rattle.c_tree.specs.declared.unit.Tree.{Tree}
use Rattle.c_fitting_laws.specs.Spelled.{kind_in_range, InRange, LexedInRange, SourceFits}
use Rattle.c_fitting_laws.proofs.Sources.{spelled_fits}

-- ---- words

third : (p q r : Bool) → (p && q && r) ≡ true → r ≡ true
third true true r h = h
third true false r h = absurd (search rules)
third false q r h = absurd (search rules)

fourth : (p q r s : Bool) → (p && q && r && s) ≡ true → s ≡ true
fourth true true true s h = h
fourth true true false s h = absurd (search rules)
fourth true false r s h = absurd (search rules)
fourth false q r s h = absurd (search rules)

second : (p q r s : Bool) → (p && q && r && s) ≡ true → q ≡ true
second true true r s h = refl
second true false r s h = absurd (search rules)
second false q r s h = absurd (search rules)

one_of : (p q r s : Bool) (g : Bool) → (p ≡ true → g ≡ true) → (q ≡ true → g ≡ true) → (r ≡ true → g ≡ true)
    → (s ≡ true → g ≡ true) → (p || q || r || s) ≡ true → g ≡ true
one_of true q r s g a b c d h = a refl
one_of false true r s g a b c d h = b refl
one_of false false true s g a b c d h = c refl
one_of false false false true g a b c d h = d refl
one_of false false false false g a b c d h = absurd (search rules)

-- ---- what is in range

abbrev item_in_range : Item → Bool
item_in_range Skip = true
item_in_range (Token kind) = kind_in_range kind
item_in_range (Bad f) = true

abbrev piece_in_range : Option Item → Bool
piece_in_range None = true
piece_in_range (Some i) = item_in_range i

abbrev byte_in_range : Option ℕ → Bool
byte_in_range None = true
byte_in_range (Some c) = nat_le c 255

-- of two, by a test
either_piece : (b : Bool) (x y : Option Item) → piece_in_range x ≡ true → piece_in_range y ≡ true
    → piece_in_range (cond b x y) ≡ true
either_piece true x y h g = h
either_piece false x y h g = g

either_item : (b : Bool) (x y : Item) → (b ≡ true → item_in_range x ≡ true) → item_in_range y ≡ true
    → item_in_range (cond b x y) ≡ true
either_item true x y h g = h refl
either_item false x y h g = g

either_byte : (b : Bool) (x y : Option ℕ) → (b ≡ true → byte_in_range x ≡ true) → byte_in_range y ≡ true
    → byte_in_range (cond b x y) ≡ true
either_byte true x y h g = h refl
either_byte false x y h g = g

-- ---- pieces

run_ok : (p : ℕ → Bool) (text : Text) (i : Item) → item_in_range i ≡ true → piece_in_range (run p text i) ≡ true
run_ok p text i h = either_piece (list_all p text) (Some i) None h refl

word_ok : (o : Option AKeyword) (text : Text) → kind_in_range (word_kind o text) ≡ true
word_ok None text = refl
word_ok (Some x) text = refl

numeral_ok : (base : ℕ) (decimal unsigned : Bool) (digits : Text) → item_in_range (numeral base decimal unsigned digits) ≡ true
numeral_ok base decimal unsigned digits =
    either_item (not (length digits == 0) && list_all (is_digit_of base) digits && nat_le (value base digits) 65535)
    (Token (Number (value base digits) decimal unsigned)) (Bad fault.BadNumber)
    (third (not (length digits == 0)) (list_all (is_digit_of base) digits) (nat_le (value base digits) 65535)) refl

constant_ok : (unsigned : Bool) (text : Text) → item_in_range (constant unsigned text) ≡ true
constant_ok unsigned [] = refl
constant_ok unsigned (a ∷ []) = numeral_ok 10 true unsigned (a ∷ [])
constant_ok unsigned (a ∷ b ∷ more) =
    either_item (a == 48) (cond (b == 120 || b == 88) (numeral 16 false unsigned more) (numeral 8 false unsigned (a ∷ b ∷ more)))
    (numeral 10 true unsigned (a ∷ b ∷ more))
    (λ h. either_item (b == 120 || b == 88) (numeral 16 false unsigned more) (numeral 8 false unsigned (a ∷ b ∷ more))
    (λ g. numeral_ok 16 false unsigned more) (numeral_ok 8 false unsigned (a ∷ b ∷ more)))
    (numeral_ok 10 true unsigned (a ∷ b ∷ more))

number_ok : (text : Text) → item_in_range (number text) ≡ true
number_ok text =
    either_item (has_suffix text) (constant true (take (length text - 1) text)) (constant false text)
    (λ h. constant_ok true (take (length text - 1) text)) (constant_ok false text)

-- ---- characters

byte_is : (e n : ℕ) → n ≤ 255 → (e == n) ≡ true → nat_le e 255 ≡ true
byte_is e n small h = let is : e ≡ n = eqb-true e n h in le-leb e 255 (omega arith)

itself_ok : (e : ℕ) → (e == 92 || e == 39 || e == 34 || e == 63) ≡ true → nat_le e 255 ≡ true
itself_ok e h =
    one_of (e == 92) (e == 39) (e == 34) (e == 63) (nat_le e 255) (byte_is e 92 (omega arith)) (byte_is e 39 (omega arith))
    (byte_is e 34 (omega arith)) (byte_is e 63 (omega arith)) h

simple_ok : (e : ℕ) → byte_in_range (simple_escape e) ≡ true
simple_ok e =
    either_byte (e == 110) (Some 10) _ (λ h. refl) (
    either_byte (e == 116) (Some 9) _ (λ h. refl) (
    either_byte (e == 114) (Some 13) _ (λ h. refl) (
    either_byte (e == 97) (Some 7) _ (λ h. refl) (
    either_byte (e == 98) (Some 8) _ (λ h. refl) (
    either_byte (e == 102) (Some 12) _ (λ h. refl) (
    either_byte (e == 118) (Some 11) _ (λ h. refl) (
    either_byte (e == 92 || e == 39 || e == 34 || e == 63) (Some e) None (itself_ok e) refl)))))))

code_ok : (base most : ℕ) (digits : Text) → byte_in_range (code base most digits) ≡ true
code_ok base most digits =
    either_byte (not (length digits == 0) && nat_le (length digits) most && list_all (is_digit_of base) digits && nat_le
    (value base digits) 255) (Some (value base digits)) None
    (fourth (not (length digits == 0)) (nat_le (length digits) most) (list_all (is_digit_of base) digits)
    (nat_le (value base digits) 255)) refl

escaped_ok : (text : Text) → byte_in_range (escaped text) ≡ true
escaped_ok [] = refl
escaped_ok (e ∷ []) =
    either_byte (is_digit_of 8 e) (code 8 3 (e ∷ [])) (simple_escape e) (λ h. code_ok 8 3 (e ∷ [])) (simple_ok e)
escaped_ok (e ∷ f ∷ more) =
    either_byte (e == 120) (code 16 2 (f ∷ more)) (code 8 3 (e ∷ f ∷ more)) (λ h. code_ok 16 2 (f ∷ more))
    (code_ok 8 3 (e ∷ f ∷ more))

character_ok : (text : Text) → byte_in_range (character text) ≡ true
character_ok [] = refl
character_ok (c ∷ []) =
    either_byte (nat_le 32 c && nat_le c 126 && not (c == 39) && not (c == 92)) (Some c) None
    (λ h.
    let below : c ≤ 126 =
    leb-true c 126 (second (nat_le 32 c) (nat_le c 126) (not (c == 39)) (not (c == 92)) h) in
    le-leb c 255 (omega arith)) refl
character_ok (c ∷ d ∷ more) = either_byte (c == 92) (escaped (d ∷ more)) None (λ h. escaped_ok (d ∷ more)) refl

character_item_ok : (o : Option ℕ) → byte_in_range o ≡ true → piece_in_range (character_item o) ≡ true
character_item_ok None h = refl
character_item_ok (Some c) h = h

quoted_ok : (text : Text) → piece_in_range (quoted text) ≡ true
quoted_ok text =
    either_piece (length text == 0) (Some (Bad fault.BadChar)) _ refl
    (either_piece _ (character_item (character (take (length text - 1) text))) None
    (character_item_ok (character (take (length text - 1) text)) (character_ok (take (length text - 1) text))) refl)

-- ---- the rest

note_ok : (o : Option ANote) → piece_in_range (note_item o) ≡ true
note_ok None = refl
note_ok (Some x) = refl

mark_ok : (o : Option AMark) → piece_in_range (mark_item o) ≡ true
mark_ok None = refl
mark_ok (Some x) = refl

short_ok : (text : Text) → piece_in_range (short text) ≡ true
unfolding short
short_ok [] = refl
short_ok (a ∷ more) =
    either_piece (a == 39) (quoted more) _ (quoted_ok more)
    (either_piece (a == 64) (note_item (note_of (a ∷ more))) (mark_item (mark_of (a ∷ more))) (note_ok (note_of (a ∷ more)))
    (mark_ok (mark_of (a ∷ more))))

comment_ok : (o : Option ℕ) (n : ℕ) → piece_in_range (comment o n) ≡ true
comment_ok None n = refl
comment_ok (Some m) n = either_piece (m == n) (Some Skip) None refl refl

slash_ok : (text : Text) → piece_in_range (slash text) ≡ true
slash_ok [] = short_ok (47 ∷ [])
slash_ok (b ∷ more) =
    either_piece (b == 42) (comment (close 0 more) (length more)) _ (comment_ok (close 0 more) (length more))
    (either_piece (b == 47) (run in_line more Skip) (short (47 ∷ b ∷ more)) (run_ok in_line more Skip refl)
    (short_ok (47 ∷ b ∷ more)))

marker_ok : (fresh : Bool) (text : Text) → piece_in_range (marker fresh text) ≡ true
marker_ok fresh text = either_piece (fresh && digit_follows text) (run in_line text Skip) None (run_ok in_line text Skip refl) refl

piece_ok : (fresh : Bool) (text : Text) → piece_in_range (piece fresh text) ≡ true
unfolding piece
piece_ok fresh [] = refl
piece_ok fresh (a ∷ more) =
    either_piece (is_letter a) (run continues more (Token (word (a ∷ more)))) _
    (run_ok continues more (Token (word (a ∷ more))) (word_ok (keyword_of (a ∷ more)) (a ∷ more))) (
    either_piece (is_digit a) (run continues more (number (a ∷ more))) _
    (run_ok continues more (number (a ∷ more)) (number_ok (a ∷ more))) (
    either_piece (is_blank a) (run is_blank more Skip) _ (run_ok is_blank more Skip refl) (
    either_piece (a == 35) (marker fresh more) _ (marker_ok fresh more) (
    either_piece (a == 47) (slash more) (short (a ∷ more)) (slash_ok more) (short_ok (a ∷ more))))))

-- ---- tokens

token_ok : (fresh : Bool) (text : Text) (n : ℕ) (kind : TokenKind) → Longest fresh text n (Token kind)
    → kind_in_range kind ≡ true
token_ok fresh text n kind is = sym (ap piece_in_range is.is) ∙ piece_ok fresh (take n text)

lexed : {source : Text} {at : ℕ} {ts : List AToken} → Lexes source at ts → InRange ts
lexed (Lexes.done past) = tt
lexed (Lexes.skip is more) = lexed more
lexed {source = source} (Lexes.one {at} {n} {kind} is more) =
    (token_ok (fresh_at source at) (drop at source) n kind is, lexed more)

pub lexed_in_range : (source : Text) (at : ℕ) (ts : List AToken) → LexedInRange source at ts
lexed_in_range source at ts is = lexed is

pub source_fits : (source : Text) (tree : Tree) (ts : List AToken) → SourceFits source tree ts
source_fits source tree ts is spells none = spelled_fits tree ts (lexed is) spells none

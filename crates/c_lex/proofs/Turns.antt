-- A turn of the lexer's loop over its variables.
use Rattle.std.proofs.Common.{◌≡◌, ℕ, ◌+◌, ◌-◌, ◌<◌, ◌≤◌, Bool, List, [], ◌++◌, length, take, drop, Option, Ok, Err, ◌==◌, refl, sym, subst, arith, append-nil, length-take, length-drop}
use Rattle.std.specs.Prelude.{count_by, if◌then◌else◌, true}
use Rattle.std.proofs.Math.Seq.{take-add}
use Rattle.std.proofs.lemmas.List.{take_rest}
use Rattle.std.proofs.lemmas.List.Sums.{fold-append, count_by-le-length, sum_by-append}
use Rattle.c_lex.specs.declared.token.Token.{Token as AToken}
use Rattle.c_lex.specs.declared.item.Item.{Item}
use Rattle.c_lex.specs.declared.item.LexErr.{LexErr}
use Rattle.c_lex.specs.Spelling.{Text}
use Rattle.c_lex.specs.Pieces.{piece}
use Rattle.c_lex.specs.Tokens.{line_feeds, line_at, blank_after, fresh_at, Lexes, done, Refuses}
use Rattle.c_lex.specs.Measures.{piece_len, kept}
use Rattle.c_lex.proofs.LexLaws.{Reached, Turn, next_turn, goes_on, ends}

-- what is left of a source, as the loop writes it
abbrev pub left : Text → ℕ → Text
left source at = take (length source - at) (drop at source)

line_is : (source : Text) (at lines : ℕ) → lines ≡ line_feeds (take at source) → lines + 1 ≡ line_at source at
line_is source at lines e = omega arith

the_turn : (source : Text) (at n : ℕ) {lines : ℕ} {fresh : Bool} {found : List AToken} {item : Option Item}
    → Reached source at found → at < length source
    → lines ≡ line_feeds (take at source) → fresh ≡ fresh_at source at → n ≡ piece_len fresh (left source at)
    → item ≡ piece fresh (take n (left source at))
    → Turn source at n (kept item at (at + n) (lines + 1) found)
the_turn source at n {lines} {fresh} {found} {item} r some counted is size told =
    let same = take_rest source at in
    let size' : n ≡ piece_len (fresh_at source at) (drop at source) = (rw (← same, ← is) size) in
    let told' : item ≡ piece (fresh_at source at) (take n (drop at source)) = (rw (← is, told, same) refl) in
    let line : lines + 1 ≡ line_at source at = line_is source at lines counted in
    rw (told', line) (next_turn source at found r some n size')

pub kept_on : (source : Text) (at n : ℕ) {lines : ℕ} {fresh : Bool} {found ts : List AToken} {item : Option Item}
    → Reached source at found → at < length source
    → lines ≡ line_feeds (take at source) → fresh ≡ fresh_at source at → n ≡ piece_len fresh (left source at)
    → item ≡ piece fresh (take n (left source at))
    → kept item at (at + n) (lines + 1) found ≡ Ok ts → (0 < n) × Reached source (at + n) ts
kept_on source at n r some counted is size told e = goes_on (the_turn source at n r some counted is size told) e

pub kept_off : (source : Text) (at n : ℕ) {lines : ℕ} {fresh : Bool} {found : List AToken} {e : LexErr} {item : Option Item}
    → Reached source at found → at < length source
    → lines ≡ line_feeds (take at source) → fresh ≡ fresh_at source at → n ≡ piece_len fresh (left source at)
    → item ≡ piece fresh (take n (left source at))
    → kept item at (at + n) (lines + 1) found ≡ Err e → Refuses source 0 e
kept_off source at n r some counted is size told e = ends (the_turn source at n r some counted is size told) e

-- all is read
pub read_all : {source : Text} {at : ℕ} {found : List AToken} → Reached source at found → length source ≤ at
    → Lexes source 0 found
read_all {source} {at} {found} r h = subst (Lexes source 0) (append-nil found) (r.lexes [] (done h))

-- ---- the line and its blanks behind a piece

count-append : (p : ℕ → Bool) (xs ys : Text) → count_by p (xs ++ ys) ≡ count_by p xs + count_by p ys
count-append p xs ys = sum_by-append (λ x. if p x then 1 else 0) xs ys

pub feeds_next : (source : Text) (at n m lines : ℕ) → lines ≡ line_feeds (take at source)
    → m ≡ line_feeds (take n (left source at))
    → lines + m ≡ line_feeds (take (at + n) source)
feeds_next source at n m lines e f =
    let same = take_rest source at in
    rw (e, f, same, take-add at n source, count-append (λ b. b == 10) (take at source) (take n (drop at source))) refl

pub fresh_next : (source : Text) (at n : ℕ) (fresh after : Bool) → fresh ≡ fresh_at source at
    → after ≡ blank_after fresh (take n (left source at))
    → after ≡ fresh_at source (at + n)
fresh_next source at n fresh after e f =
    let same = take_rest source at in
    rw (f, e, same, take-add at n source) (sym (fold-append _ true (take at source) (take n (drop at source))))

pub few_feeds : (text : Text) (n : ℕ) → line_feeds (take n text) ≤ n
few_feeds text n = omega (arith, count_by-le-length (λ b. b == 10) (take n text), length-take n text)

pub length-left : (source : Text) (at : ℕ) → length (left source at) ≡ length source - at
length-left source at = rw (take_rest source at) (length-drop at source)

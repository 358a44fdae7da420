-- The spans, texts and lines of the tokens that a source is.
use Rattle.std.proofs.Common.{◌≡◌, ℕ, ◌+◌, ◌-◌, ◌<◌, ◌≤◌, Bool, true, false, cond, ◌==◌, List, [], ◌∷◌, length, take, drop, Option, Some, None, refl, ap, sym, subst, arith, length-drop}
use Rattle.std.specs.Prelude.{find, slice_range}
use Rattle.std.specs.List.{list_all}
use Rattle.std.specs.Str.{bytes_eq}
use Rattle.std.proofs.lemmas.Slice.Eq.{bytes_eq-Decides}
use Rattle.std.proofs.lemmas.Bool.{eqb-true}
use Rattle.c_lex.specs.declared.token.Token.{Token as AToken}
use Rattle.c_lex.specs.declared.token.TokenKind.{TokenKind}
use Rattle.c_lex.specs.declared.token.TokenKind.TheVariants.{Number}
use Rattle.c_lex.specs.declared.token.Keyword.{Keyword as AKeyword}
use Rattle.c_lex.specs.declared.token.Note.{Note as ANote}
use Rattle.c_lex.specs.declared.token.Mark.{Mark as AMark}
use Rattle.c_lex.specs.declared.item.Item.{Item}
use Rattle.c_lex.specs.declared.item.Item.TheVariants.{Skip, Token, Bad}
use Rattle.c_lex.specs.declared.item.Fault.TheVariants as fault
use Rattle.c_lex.specs.Spelling.{keywords, notes, marks}
use Rattle.c_lex.specs.Spelling.{Text, keyword_text, note_text, mark_text, keyword_of, note_of, mark_of}
use Rattle.c_lex.specs.Bytes.{is_letter, is_digit, is_blank, continues, in_line, value}
use Rattle.c_lex.specs.Pieces.{piece, word_kind, word, numeral, constant, number, quoted, character, character_item, note_item, mark_item, short, comment, close, slash, marker}
use Rattle.c_lex.specs.Tokens.{Lexes, done, skip, one, InOrder, IsWritten, AreSlices, AreCounted}
use Rattle.c_lex.proofs.LexLaws.{positive}

-- ---- what is looked up in a table is written so

found_at : {X : Type 0} (text : X → Text) (t : Text) (y x : X) (xs : List X) (b : Bool) → bytes_eq (text y) t ≡ b
    → (find (λ x. bytes_eq (text x) t) xs ≡ Some x → text x ≡ t)
    → cond b (Some y) (find (λ x. bytes_eq (text x) t) xs) ≡ Some x → text x ≡ t
found_at text t y x xs true e next is = let same : y ≡ x = (cc) in
    subst (λ z. text z ≡ t) same ((bytes_eq-Decides (text y) t).0 e)
found_at text t y x xs false e next is = next is

found_text : {X : Type 0} (text : X → Text) (t : Text) (x : X) (xs : List X) → find (λ x. bytes_eq (text x) t) xs ≡ Some x
    → text x ≡ t
found_text text t x [] is = cc
found_text text t x (y ∷ xs) is = found_at text t y x xs (bytes_eq (text y) t) refl (λ e. found_text text t x xs e) is

keyword_written : (t : Text) (x : AKeyword) → keyword_of t ≡ Some x → keyword_text x ≡ t
unfolding keyword_of
keyword_written t x e = found_text keyword_text t x keywords e

note_written : (t : Text) (x : ANote) → note_of t ≡ Some x → note_text x ≡ t
unfolding note_of
note_written t x e = found_text note_text t x notes e

mark_written : (t : Text) (x : AMark) → mark_of t ≡ Some x → mark_text x ≡ t
unfolding mark_of
mark_written t x e = found_text mark_text t x marks e

-- ---- a piece that is a token is written as that token is

abbrev Written : Text → Option Item → Type 0
Written t None = Unit {0}
Written t (Some Skip) = Unit {0}
Written t (Some (Bad f)) = Unit {0}
Written t (Some (Token kind)) = IsWritten kind t

word_by : (t : Text) (o : Option AKeyword) → keyword_of t ≡ o → IsWritten (word_kind o t) t
word_by t None e = refl
word_by t (Some x) e = keyword_written t x e

word_if : (t : Text) (b : Bool) → Written t (cond b (Some (Token (word t))) None)
word_if t true = word_by t (keyword_of t) refl
word_if t false = tt

numeral_if : (t : Text) (b d u : Bool) (v : ℕ) → Written t (Some (cond b (Token (Number v d u)) (Bad fault.BadNumber)))
numeral_if t true d u v = tt
numeral_if t false d u v = tt

two_ways : (t : Text) (b : Bool) (i j : Item) → Written t (Some i) → Written t (Some j) → Written t (Some (cond b i j))
two_ways t true i j h g = h
two_ways t false i j h g = g

numeral_written : (t : Text) (base : ℕ) (d u : Bool) (digits : Text) → Written t (Some (numeral base d u digits))
numeral_written t base d u digits = numeral_if t _ d u (value base digits)

constant_written : (t : Text) (u : Bool) (digits : Text) → Written t (Some (constant u digits))
constant_written t u [] = tt
constant_written t u (a ∷ []) = numeral_written t 10 true u (a ∷ [])
constant_written t u (a ∷ b ∷ more) =
    two_ways t (a == 48) _ _ (two_ways t _ _ _ (numeral_written t 16 false u more)
    (numeral_written t 8 false u (a ∷ b ∷ more))) (numeral_written t 10 true u (a ∷ b ∷ more))

number_written : (t u : Text) → Written t (Some (number u))
number_written t u = two_ways t _ _ _ (constant_written t true (take (length u - 1) u)) (constant_written t false u)

number_if : (t u : Text) (b : Bool) → Written t (cond b (Some (number u)) None)
number_if t u true = number_written t u
number_if t u false = tt

skip_if : (t : Text) (b : Bool) → Written t (cond b (Some Skip) None)
skip_if t true = tt
skip_if t false = tt

character_by : (t : Text) (o : Option ℕ) → Written t (character_item o)
character_by t None = tt
character_by t (Some v) = tt

either : (t : Text) (b : Bool) (o p : Option Item) → Written t o → Written t p → Written t (cond b o p)
either t true o p h g = h
either t false o p h g = g

quoted_written : (t u : Text) → Written t (quoted u)
quoted_written t u = either t (length u == 0) _ _ tt (either t _ _ None (character_by t (character (take (length u - 1) u))) tt)

note_by : (t : Text) (o : Option ANote) → note_of t ≡ o → Written t (note_item o)
note_by t None e = tt
note_by t (Some x) e = note_written t x e

mark_by : (t : Text) (o : Option AMark) → mark_of t ≡ o → Written t (mark_item o)
mark_by t None e = tt
mark_by t (Some x) e = mark_written t x e

short_written : (t : Text) → Written t (short t)
unfolding short
short_written [] = tt
short_written (a ∷ more) =
    either (a ∷ more) (a == 39) _ _ (quoted_written (a ∷ more) more)
    (either (a ∷ more) (a == 64) _ _ (note_by (a ∷ more) (note_of (a ∷ more)) refl)
    (mark_by (a ∷ more) (mark_of (a ∷ more)) refl))

comment_by : (t : Text) (o : Option ℕ) (n : ℕ) → Written t (comment o n)
comment_by t None n = tt
comment_by t (Some m) n = skip_if t (m == n)

slash_written : (more : Text) → Written (47 ∷ more) (slash more)
slash_written [] = short_written (47 ∷ [])
slash_written (b ∷ more) =
    either (47 ∷ b ∷ more) (b == 42) _ _ (comment_by (47 ∷ b ∷ more) (close 0 more) (length more))
    (either (47 ∷ b ∷ more) (b == 47) _ _ (skip_if (47 ∷ b ∷ more) (list_all in_line more)) (short_written (47 ∷ b ∷ more)))

slash_by : (a : ℕ) (more : Text) (b : Bool) → (a == 47) ≡ b → Written (a ∷ more) (cond b (slash more) (short (a ∷ more)))
slash_by a more true e = subst (λ x. Written (x ∷ more) (slash more)) (sym (eqb-true a 47 e)) (slash_written more)
slash_by a more false e = short_written (a ∷ more)

marker_written : (t more : Text) (fresh : Bool) → Written t (marker fresh more)
marker_written t more fresh = either t _ _ None (skip_if t (list_all in_line more)) tt

piece_written : (fresh : Bool) (t : Text) → Written t (piece fresh t)
unfolding piece
piece_written fresh [] = tt
piece_written fresh (a ∷ more) =
    let t = a ∷ more in
    either t (is_letter a) _ _ (word_if t (list_all continues more))
    (either t (is_digit a) _ _ (number_if t t (list_all continues more))
    (either t (is_blank a) _ _ (skip_if t (list_all is_blank more))
    (either t (a == 35) _ _ (marker_written t more fresh) (slash_by a more (a == 47) refl))))

token_written : (fresh : Bool) (t : Text) (kind : TokenKind) → piece fresh t ≡ Some (Token kind) → IsWritten kind t
token_written fresh t kind e = subst (Written t) e (piece_written fresh t)

-- ---- the tokens of a source

slice_is : (source : Text) (at n : ℕ) → slice_range source at (at + n) ≡ take n (drop at source)
slice_is source at n = let e : at + n - at ≡ n = omega arith in ap (λ k. take k (drop at source)) e

pub slices : {source : Text} {at : ℕ} {ts : List AToken} → Lexes source at ts → AreSlices source ts
slices (done h) = tt
slices (skip m l) = slices l
slices {source} {at} (one {n} {kind} m l) =
    (subst (IsWritten kind) (sym (slice_is source at n)) (token_written _ _ kind m.is), slices l)

pub counted : {source : Text} {at : ℕ} {ts : List AToken} → Lexes source at ts → AreCounted source ts
counted (done h) = tt
counted (skip m l) = counted l
counted (one m l) = (refl, counted l)

earlier : (source : Text) (a b : ℕ) (ts : List AToken) → a ≤ b → InOrder source b ts → InOrder source a ts
earlier source a b [] h o = tt
earlier source a b (t ∷ ts) h o = let p = o.0 in (omega arith, o.1, o.2, o.3)

end_within : (source : Text) (at n : ℕ) → 0 < n → n ≤ length (drop at source) → at + n ≤ length source
end_within source at n p h = omega (arith, length-drop at source)

pub in_order : {source : Text} {at : ℕ} {ts : List AToken} → Lexes source at ts → InOrder source at ts
in_order (done h) = tt
in_order {source} {at} {ts} (skip {n} m l) = earlier source at (at + n) ts (omega arith) (in_order l)
in_order {source} {at} (one {n} m l) = let p = positive m in
    (omega arith, omega arith, end_within source at n p m.within, in_order l)

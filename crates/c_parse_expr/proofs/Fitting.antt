-- What the tests on tokens say.
use Rattle.std.proofs.Common.{◌≡◌, true, false, refl, ap, rules}
use denote.Enum.Bare.{same_true, true_same, false_same}
use Rattle.c_lex.specs.declared.token.Keyword.{Keyword as AKeyword}
use Rattle.c_lex.specs.declared.token.Mark.{Mark as AMark}
use Rattle.c_lex.specs.declared.token.Note.{Note as ANote}
use Rattle.c_lex.specs.declared.token.TokenKind.{TokenKind}
use Rattle.c_lex.specs.declared.token.TokenKind.TheVariants.{Keyword, Mark, Note}
use Rattle.c_lex.specs.contracts.token.Keyword.{the_type as keyword_type}
use Rattle.c_lex.specs.contracts.token.Mark.{the_type as mark_type}
use Rattle.c_lex.specs.contracts.token.Note.{the_type as note_type}
use Rattle.c_parse_expr.specs.declared.wanted.Wanted.{Wanted}
use Rattle.c_parse_expr.specs.declared.wanted.Wanted.TheVariants as want
use Rattle.c_parse_expr.specs.Expected.{same_mark, same_keyword, same_note, kind_of, fits}

mark_is : (x y : AMark) → same_mark y x ≡ true → y ≡ x
unfolding same_mark
mark_is x y e = same_true mark_type (search rules) y x e

keyword_is : (x y : AKeyword) → same_keyword y x ≡ true → y ≡ x
unfolding same_keyword
keyword_is x y e = same_true keyword_type (search rules) y x e

note_is : (x y : ANote) → same_note y x ≡ true → y ≡ x
unfolding same_note
note_is x y e = same_true note_type (search rules) y x e

same_marks : (x : AMark) → same_mark x x ≡ true
unfolding same_mark
same_marks x = true_same mark_type x x refl

same_keywords : (x : AKeyword) → same_keyword x x ≡ true
unfolding same_keyword
same_keywords x = true_same keyword_type x x refl

same_notes : (x : ANote) → same_note x x ≡ true
unfolding same_note
same_notes x = true_same note_type x x refl

other_mark : (x y : AMark) → (y ≡ x → ⊥) → same_mark y x ≡ false
unfolding same_mark
other_mark x y h = false_same mark_type (search rules) y x h

other_keyword : (x y : AKeyword) → (y ≡ x → ⊥) → same_keyword y x ≡ false
unfolding same_keyword
other_keyword x y h = false_same keyword_type (search rules) y x h

other_note : (x y : ANote) → (y ≡ x → ⊥) → same_note y x ≡ false
unfolding same_note
other_note x y h = false_same note_type (search rules) y x h

pub fits_is : (x : Wanted) (t : TokenKind) → fits x t ≡ true → t ≡ kind_of x
fits_is (want.Mark x) (Mark y) e = ap Mark (mark_is x y e)
fits_is (want.Keyword x) (Keyword y) e = ap Keyword (keyword_is x y e)
fits_is (want.Note x) (Note y) e = ap Note (note_is x y e)
fits_is x t e = cc

fits_itself : (x : Wanted) → fits x (kind_of x) ≡ true
fits_itself (want.Mark x) = same_marks x
fits_itself (want.Keyword x) = same_keywords x
fits_itself (want.Note x) = same_notes x

pub it_fits : (x : Wanted) (t : TokenKind) → t ≡ kind_of x → fits x t ≡ true
it_fits x t e = rw e (fits_itself x)

pub fits_not : (x : Wanted) (t : TokenKind) → (t ≡ kind_of x → ⊥) → fits x t ≡ false
fits_not (want.Mark x) (Mark y) h = other_mark x y (λ e. h (ap Mark e))
fits_not (want.Keyword x) (Keyword y) h = other_keyword x y (λ e. h (ap Keyword e))
fits_not (want.Note x) (Note y) h = other_note x y (λ e. h (ap Note e))
fits_not x t h = refl

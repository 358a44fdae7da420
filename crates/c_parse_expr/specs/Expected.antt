-- Tests on tokens.
use Rattle.std.specs.Prelude.{Bool, false}
use denote.Enum.Bare.{sameb}
use Rattle.c_lex.specs.declared.token.Keyword.{Keyword as AKeyword}
use Rattle.c_lex.specs.declared.token.Mark.{Mark as AMark}
use Rattle.c_lex.specs.declared.token.Note.{Note as ANote}
use Rattle.c_lex.specs.declared.token.TokenKind.{TokenKind}
use Rattle.c_lex.specs.declared.token.TokenKind.TheVariants.{Keyword, Mark, Note}
use Rattle.c_lex.specs.contracts.token.Keyword.{the_type as keyword_type}
use Rattle.c_lex.specs.contracts.token.Mark.{the_type as mark_type}
use Rattle.c_lex.specs.contracts.token.Note.{the_type as note_type}
use Rattle.c_parse_expr.specs.declared.wanted.Wanted.{Wanted}
use Rattle.c_parse_expr.specs.declared.wanted.Wanted.TheVariants as want

-- `==`
unfoldable pub same_mark : AMark → AMark → Bool
same_mark = sameb mark_type

unfoldable pub same_keyword : AKeyword → AKeyword → Bool
same_keyword = sameb keyword_type

unfoldable pub same_note : ANote → ANote → Bool
same_note = sameb note_type

-- the token that is wanted
abbrev pub kind_of : Wanted → TokenKind
kind_of (want.Mark x) = Mark x
kind_of (want.Keyword x) = Keyword x
kind_of (want.Note x) = Note x

-- whether a token is the one that is wanted
abbrev pub fits : Wanted → TokenKind → Bool
fits (want.Mark x) (Mark y) = same_mark y x
fits (want.Keyword x) (Keyword y) = same_keyword y x
fits (want.Note x) (Note y) = same_note y x
fits _ _ = false

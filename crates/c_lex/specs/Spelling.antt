-- How each keyword, annotation and mark is written, and which one a text is.
use Rattle.std.specs.Prelude.{◌≡◌, ℕ, List, [], ◌∷◌, Option, Some, find, codes}
use Rattle.std.specs.Str.{bytes_eq}
use Rattle.c_lex.specs.declared.token.Keyword.{Keyword}
use Rattle.c_lex.specs.declared.token.Keyword.TheVariants as w
use Rattle.c_lex.specs.declared.token.Note.{Note}
use Rattle.c_lex.specs.declared.token.Note.TheVariants as n
use Rattle.c_lex.specs.declared.token.Mark.{Mark}
use Rattle.c_lex.specs.declared.token.Mark.TheVariants as m

-- a string of bytes
abbrev pub Text : Type 0
Text = List ℕ

-- the keywords of C99 (6.4.1)
abbrev pub keyword_text : Keyword → Text
keyword_text w.Auto = codes "auto"
keyword_text w.Break = codes "break"
keyword_text w.Case = codes "case"
keyword_text w.Char = codes "char"
keyword_text w.Const = codes "const"
keyword_text w.Continue = codes "continue"
keyword_text w.Default = codes "default"
keyword_text w.Do = codes "do"
keyword_text w.Double = codes "double"
keyword_text w.Else = codes "else"
keyword_text w.Enum = codes "enum"
keyword_text w.Extern = codes "extern"
keyword_text w.Float = codes "float"
keyword_text w.For = codes "for"
keyword_text w.Goto = codes "goto"
keyword_text w.If = codes "if"
keyword_text w.Inline = codes "inline"
keyword_text w.Int = codes "int"
keyword_text w.Long = codes "long"
keyword_text w.Register = codes "register"
keyword_text w.Restrict = codes "restrict"
keyword_text w.Return = codes "return"
keyword_text w.Short = codes "short"
keyword_text w.Signed = codes "signed"
keyword_text w.Sizeof = codes "sizeof"
keyword_text w.Static = codes "static"
keyword_text w.Struct = codes "struct"
keyword_text w.Switch = codes "switch"
keyword_text w.Typedef = codes "typedef"
keyword_text w.Union = codes "union"
keyword_text w.Unsigned = codes "unsigned"
keyword_text w.Void = codes "void"
keyword_text w.Volatile = codes "volatile"
keyword_text w.While = codes "while"
keyword_text w.Bool = codes "_Bool"
keyword_text w.Complex = codes "_Complex"
keyword_text w.Imaginary = codes "_Imaginary"

-- the annotations
abbrev pub note_text : Note → Text
note_text n.ExpiresAfter = codes "@expires_after"
note_text n.Expires = codes "@expires"
note_text n.Timely = codes "@timely"
note_text n.StampedAssign = codes "@="

-- the marks (C99 6.4.6)
abbrev pub mark_text : Mark → Text
mark_text m.LeftBrace = codes "{"
mark_text m.RightBrace = codes "}"
mark_text m.LeftParen = codes "("
mark_text m.RightParen = codes ")"
mark_text m.LeftBracket = codes "["
mark_text m.RightBracket = codes "]"
mark_text m.Semicolon = codes ";"
mark_text m.Comma = codes ","
mark_text m.Dot = codes "."
mark_text m.Arrow = codes "->"
mark_text m.PlusPlus = codes "++"
mark_text m.MinusMinus = codes "--"
mark_text m.Ampersand = codes "&"
mark_text m.Star = codes "*"
mark_text m.Plus = codes "+"
mark_text m.Minus = codes "-"
mark_text m.Tilde = codes "~"
mark_text m.Exclamation = codes "!"
mark_text m.Slash = codes "/"
mark_text m.Percent = codes "%"
mark_text m.ShiftLeft = codes "<<"
mark_text m.ShiftRight = codes ">>"
mark_text m.Less = codes "<"
mark_text m.Greater = codes ">"
mark_text m.LessEqual = codes "<="
mark_text m.GreaterEqual = codes ">="
mark_text m.EqualEqual = codes "=="
mark_text m.NotEqual = codes "!="
mark_text m.Caret = codes "^"
mark_text m.Bar = codes "|"
mark_text m.AndAnd = codes "&&"
mark_text m.OrOr = codes "||"
mark_text m.Question = codes "?"
mark_text m.Colon = codes ":"
mark_text m.Assign = codes "="
mark_text m.StarAssign = codes "*="
mark_text m.SlashAssign = codes "/="
mark_text m.PercentAssign = codes "%="
mark_text m.PlusAssign = codes "+="
mark_text m.MinusAssign = codes "-="
mark_text m.ShiftLeftAssign = codes "<<="
mark_text m.ShiftRightAssign = codes ">>="
mark_text m.AmpersandAssign = codes "&="
mark_text m.CaretAssign = codes "^="
mark_text m.BarAssign = codes "|="

-- ---- all of them

abbrev pub keywords : List Keyword
keywords =
    w.Auto ∷ w.Break ∷ w.Case ∷ w.Char ∷ w.Const ∷ w.Continue ∷ w.Default ∷ w.Do ∷ w.Double ∷ w.Else ∷ w.Enum
    ∷ w.Extern ∷ w.Float ∷ w.For ∷ w.Goto ∷ w.If ∷ w.Inline ∷ w.Int ∷ w.Long ∷ w.Register ∷ w.Restrict
    ∷ w.Return ∷ w.Short ∷ w.Signed ∷ w.Sizeof ∷ w.Static ∷ w.Struct ∷ w.Switch ∷ w.Typedef ∷ w.Union
    ∷ w.Unsigned ∷ w.Void ∷ w.Volatile ∷ w.While ∷ w.Bool ∷ w.Complex ∷ w.Imaginary ∷ []

abbrev pub notes : List Note
notes =
    n.ExpiresAfter ∷ n.Expires ∷ n.Timely ∷ n.StampedAssign ∷ []

abbrev pub marks : List Mark
marks =
    m.LeftBrace ∷ m.RightBrace ∷ m.LeftParen ∷ m.RightParen ∷ m.LeftBracket ∷ m.RightBracket ∷ m.Semicolon
    ∷ m.Comma ∷ m.Dot ∷ m.Arrow ∷ m.PlusPlus ∷ m.MinusMinus ∷ m.Ampersand ∷ m.Star ∷ m.Plus ∷ m.Minus ∷ m.Tilde
    ∷ m.Exclamation ∷ m.Slash ∷ m.Percent ∷ m.ShiftLeft ∷ m.ShiftRight ∷ m.Less ∷ m.Greater ∷ m.LessEqual
    ∷ m.GreaterEqual ∷ m.EqualEqual ∷ m.NotEqual ∷ m.Caret ∷ m.Bar ∷ m.AndAnd ∷ m.OrOr ∷ m.Question ∷ m.Colon
    ∷ m.Assign ∷ m.StarAssign ∷ m.SlashAssign ∷ m.PercentAssign ∷ m.PlusAssign ∷ m.MinusAssign
    ∷ m.ShiftLeftAssign ∷ m.ShiftRightAssign ∷ m.AmpersandAssign ∷ m.CaretAssign ∷ m.BarAssign ∷ []

-- the keyword that is written so
unfoldable pub keyword_of : Text → Option Keyword
keyword_of t = find (λ x. bytes_eq (keyword_text x) t) keywords

-- the annotation that is written so
unfoldable pub note_of : Text → Option Note
note_of t = find (λ x. bytes_eq (note_text x) t) notes

-- the mark that is written so
unfoldable pub mark_of : Text → Option Mark
mark_of t = find (λ x. bytes_eq (mark_text x) t) marks

-- each keyword, annotation and mark is the one that its text is read as
abbrev pub AreKeywordsRead : Type 0
AreKeywordsRead = (x : Keyword) → keyword_of (keyword_text x) ≡ Some x

abbrev pub AreNotesRead : Type 0
AreNotesRead = (x : Note) → note_of (note_text x) ≡ Some x

abbrev pub AreMarksRead : Type 0
AreMarksRead = (x : Mark) → mark_of (mark_text x) ≡ Some x

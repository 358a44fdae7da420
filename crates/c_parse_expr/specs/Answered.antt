-- What the parser answers for a whole source.
use Rattle.std.specs.Prelude.{◌≡◌, Option, Some, None, Result, Ok, Err}
use Rattle.c_parse_expr.specs.declared.error.ParseErr.{ParseErr}
use Rattle.c_parse_expr.specs.declared.error.ParseErr.TheVariants.{Syntax, NoMemory}

-- the value, unless memory runs out
abbrev pub Answers : {A : Type 0} → Option A → Result A ParseErr → Type 0
Answers o (Ok a) = o ≡ Some a
Answers o (Err (Syntax _)) = o ≡ None
Answers o (Err NoMemory) = Unit {0}

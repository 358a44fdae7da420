-- What a function of the parser ensures, and a function value that reads what stands inside, to a depth.
use Rattle.std.specs.Prelude.{◌≡◌, ℕ, Some, None, Result, Ok, Err}
use Rattle.std.specs.declared.alloc.Global.{Global}
use denote.Ref.{MutBor}
use Rattle.c_tree.specs.declared.expression.Expr.{Expr}
use Rattle.c_parse_expr.specs.declared.error.ParseErr.{ParseErr}
use Rattle.c_parse_expr.specs.declared.error.ParseErr.TheVariants.{Syntax, NoMemory}
use Rattle.c_parse_expr.specs.TypeWords.{Tokens}
use Rattle.c_parse_expr.specs.Steps.{Outcome}
use Rattle.c_parse_expr.specs.Reading.{expr}

-- the outcome, unless memory runs out
abbrev pub Reads : {A : Type 0} → Outcome A → Result A ParseErr → Tokens → Type 0
Reads outcome (Ok a) new = outcome ≡ Some (a, new)
Reads outcome (Err (Syntax _)) new = outcome ≡ None
Reads outcome (Err NoMemory) new = Unit {0}

abbrev pub IsSyntax : ParseErr → Type 0
IsSyntax (Syntax _) = Unit {0}
IsSyntax NoMemory = ⊥

pub record Nests (depth : ℕ) (pre : Global → MutBor Tokens → ℕ → ℕ → Type 0)
    (post : Global → MutBor Tokens → ℕ → ℕ → Result Expr ParseErr → MutBor Tokens → Type 0) : Type 0 where
  pub callable : (alloc : Global) (old : MutBor Tokens) (least : ℕ) → pre alloc old depth least
  pub reads : (alloc : Global) (old new : MutBor Tokens) (least : ℕ) (r : Result Expr ParseErr) → post alloc old depth least r new
      → Reads (expr depth least old.now) r new.now

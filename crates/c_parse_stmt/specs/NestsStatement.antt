-- A function value that reads the statements inside, to a depth.
use Rattle.std.specs.Prelude.{ℕ, Bool, Result}
use Rattle.std.specs.declared.alloc.Global.{Global}
use denote.Ref.{MutBor}
use Rattle.c_tree.specs.declared.statements.Statement.{Statement}
use Rattle.c_parse_expr.specs.declared.error.ParseErr.{ParseErr}
use Rattle.c_parse_expr.specs.TypeWords.{Tokens}
use Rattle.c_parse_expr.specs.Nests.{Reads}
use Rattle.c_parse_stmt.specs.StatementReading.{statement}

pub record NestsStatement (depth : ℕ) (pre : Global → MutBor Tokens → ℕ → Bool → Bool → Type 0)
    (post : Global → MutBor Tokens → ℕ → Bool → Bool → Result Statement ParseErr → MutBor Tokens → Type 0) : Type 0 where
  pub callable : (alloc : Global) (old : MutBor Tokens) (b c : Bool) → pre alloc old depth b c
  pub reads : (alloc : Global) (old new : MutBor Tokens) (b c : Bool) (r : Result Statement ParseErr) → post alloc old depth b c r new
      → Reads (statement depth b c old.now) r new.now

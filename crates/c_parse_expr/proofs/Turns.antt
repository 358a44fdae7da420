-- A recursion on a height, beside a depth that goes down.
use Rattle.std.proofs.Common.{◌≡◌, ℕ, suc, ◌-◌, ◌<◌, ap, arith, None, Err}
use Rattle.c_parse_expr.specs.declared.error.ParseErr.{ParseErr}
use Rattle.c_parse_expr.specs.declared.error.ParseErr.TheVariants.{Syntax, NoMemory}
use Rattle.c_parse_expr.specs.TypeWords.{Tokens}
use Rattle.c_parse_expr.specs.Steps.{Outcome}
use Rattle.c_parse_expr.specs.Nests.{Reads}

pub deeper : {X : Type 0} (f : ℕ → X) (n : ℕ) → 0 < n → f n ≡ f (suc (n - 1))
deeper f n some = let e : n ≡ suc (n - 1) = omega arith in ap f e

pub refused : {A : Type 0} {o : Outcome A} (e : ParseErr) (new : Tokens) → o ≡ None → Reads o (Err e) new
refused (Syntax _) new is = is
refused NoMemory new is = tt

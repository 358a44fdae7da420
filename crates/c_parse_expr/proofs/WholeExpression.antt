-- A list of tokens as one expression: what is answered is spelled, and what is spelled is answered.
use Rattle.std.proofs.Common.{◌≡◌, ◌≤◌, [], ◌∷◌, Some, None, Result, Ok, Err, IfOk, MatchResult, refl, ap, subst, arith}
use Rattle.c_tree.specs.declared.expression.Expr.{Expr}
use Rattle.c_tree.specs.Measure.{expr_height}
use Rattle.c_parse_expr.specs.declared.error.ParseErr.{ParseErr}
use Rattle.c_parse_expr.specs.declared.error.ParseErr.TheVariants.{Syntax, NoMemory}
use Rattle.c_parse_expr.specs.TypeWords.{Tokens}
use Rattle.c_parse_expr.specs.Answered.{Answers}
use Rattle.c_parse_expr.specs.Grammar.{Spells}
use Rattle.c_parse_expr.specs.Steps.{Outcome}
use Rattle.c_parse_expr.specs.Reading.{expr, reach}
use Rattle.c_parse_expr.specs.ExpressionReading.{at_end, whole}
use Rattle.c_parse_expr.proofs.RankOf.{rank_high}
use Rattle.c_parse_expr.proofs.AfterSteps.{After, holds}
use Rattle.c_parse_expr.proofs.Sound.{Reads, expr_sound}
use Rattle.c_parse_expr.proofs.Complete.{expr_again}

at_end_is : {A : Type 0} (o : Outcome A) (a : A) → at_end o ≡ Some a → o ≡ Some (a, [])
at_end_is None a e = cc
at_end_is (Some (b, [])) a e = let z : b ≡ a = cc in ap (λ x. Some (x, [])) z
at_end_is (Some (b, t ∷ ts)) a e = cc

whole_reads : (ts : Tokens) (e : Expr) → whole ts ≡ Some e → Reads 400 1 e ts []
unfolding whole
whole_reads ts e is = holds (subst (After (λ x rest. Reads 400 1 x ts rest)) (at_end_is (expr 400 1 ts) e is) (expr_sound 400 1 ts))

nothing_reaches : reach [] ≡ 0
unfolding reach
nothing_reaches = refl

whole_again : (ts : Tokens) (e : Expr) → Spells e ts [] → expr_height e ≤ 400 → whole ts ≡ Some e
unfolding whole
whole_again ts e s low = ap at_end (expr_again 400 1 e ts [] s (rank_high e.kind) low (omega (arith, nothing_reaches)))

pub spelled : (ts : Tokens) (r : Result Expr ParseErr) → Answers (whole ts) r → IfOk r (λ e. Spells e ts [])
spelled ts (Ok e) is = (whole_reads ts e is).spelled
spelled ts (Err x) is = tt

pub low : (ts : Tokens) (r : Result Expr ParseErr) → Answers (whole ts) r → IfOk r (λ e. expr_height e ≤ 400)
low ts (Ok e) is = (whole_reads ts e is).low
low ts (Err x) is = tt

pub only : (ts : Tokens) (r : Result Expr ParseErr) → Answers (whole ts) r → (e : Expr) → Spells e ts [] → expr_height e ≤ 400
    → MatchResult r (λ found. found ≡ e) (λ fault. fault ≡ NoMemory)
only ts (Ok x) is e s h = let z = whole_again ts e s h in cc
only ts (Err (Syntax n)) is e s h = let z = whole_again ts e s h in cc
only ts (Err NoMemory) is e s h = refl

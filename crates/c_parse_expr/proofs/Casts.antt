-- Where a cast does not bind tightly enough, nothing begins with a parenthesis and a type.
use Rattle.std.proofs.Common.{◌≡◌, ℕ, ◌<◌, Bool, true, false, List, [], ◌∷◌, Some, None, refl, arith}
use Rattle.std.specs.Prelude.{◌&&◌, nat_le}
use Rattle.c_lex.specs.declared.token.Token.{Token}
use Rattle.c_lex.specs.declared.token.TokenKind.TheVariants.{Mark}
use Rattle.c_lex.specs.declared.token.Mark.TheVariants as m
use Rattle.c_tree.specs.declared.expression.Expr.{Expr}
use Rattle.c_tree.specs.declared.expression.ExprKind.{ExprKind}
use Rattle.c_parse_expr.specs.declared.wanted.Wanted.TheVariants as want
use Rattle.c_parse_expr.specs.Expected.{fits}
use Rattle.c_parse_expr.specs.Ranks.{cast_rank, rank_of}
use Rattle.c_parse_expr.specs.TypeWords.{Tokens}
use Rattle.c_parse_expr.specs.Steps.{Parser, Outcome, and_then, closing}
use Rattle.c_parse_expr.specs.Reading as r
use Rattle.std.proofs.lemmas.Bool.Decides.{nat_tests}
use Rattle.c_parse_expr.proofs.Fitting.{fits_is}
use Rattle.c_parse_expr.proofs.RankOf as ranks
use Rattle.c_parse_expr.proofs.AfterSteps.{After, nothing, just, after_then}

anything : {A : Type 0} (o : Outcome A) → After (λ _ _. Unit {0}) o
anything None = nothing
anything (Some p) = just tt

cast_ranked : (rec : ℕ → Parser Expr) (ts : Tokens) → After (λ kind _. rank_of kind ≡ cast_rank) (r.cast rec ts)
unfolding r.cast
cast_ranked rec ts = after_then (anything (r.type_name rec ts)) (λ ty mid _.
    after_then (anything (closing m.RightParen mid)) (λ u others _.
    after_then (anything (rec cast_rank others)) (λ e rest _. just (ranks.rank-Cast ty e))))

below : (a b : ℕ) → b < a → nat_le a b ≡ false
below a b h = grind (arith, nat_tests)

unbound : (rec : ℕ → Parser Expr) (least line : ℕ) (o : Outcome ExprKind) → After (λ kind _. rank_of kind ≡ cast_rank) o → cast_rank < least
    → and_then o (λ kind. r.binding rec least (r.at_line line kind)) ≡ None
unbound rec least line None nothing h = refl
unbound rec least line (Some p) (just {x} e) h = let f : nat_le least (rank_of x) ≡ false = below least (rank_of x) (omega arith) in rw f refl

begun_by_cast : (rec : ℕ → Parser Expr) (t : Token) (ts : Tokens) → t.kind ≡ Mark m.LeftParen → r.type_next ts ≡ true
    → After (λ kind _. rank_of kind ≡ cast_rank) (r.begin rec (t ∷ ts))
unfolding r.begin r.paren_or_cast
begun_by_cast rec t ts is next = rw (is, next) (cast_ranked rec ts)

enclosed : (rec : ℕ → Parser Expr) (t : Token) (ts : Tokens) (b c : Bool) → fits (want.Mark m.LeftParen) t.kind ≡ b → r.type_next ts ≡ c → b && c ≡ true
    → After (λ kind _. rank_of kind ≡ cast_rank) (r.begin rec (t ∷ ts))
enclosed rec t ts true true e f h = begun_by_cast rec t ts (fits_is (want.Mark m.LeftParen) t.kind e) f
enclosed rec t ts true false e f h = absurd (cc)
enclosed rec t ts false c e f h = absurd (cc)

pub no_cast : (rec : ℕ → Parser Expr) (least line : ℕ) (ts : Tokens) → cast_rank < least → r.type_enclosed ts ≡ true
    → r.first rec least line ts ≡ None
unfolding r.first
no_cast rec least line [] h e = absurd (cc)
no_cast rec least line (t ∷ ts) h e =
    unbound rec least line (r.begin rec (t ∷ ts)) (enclosed rec t ts (fits (want.Mark m.LeftParen) t.kind) (r.type_next ts) refl refl e) h

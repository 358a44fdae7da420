-- Expressions that have lists of expressions in them.
use Rattle.std.proofs.Common.{◌≡◌, ℕ, List, [], ◌∷◌, Option, map, refl, ap, ◌∙◌, rules}
use Rattle.c_tree.specs.declared.expression.Expr.{Expr}
use Rattle.c_tree.specs.declared.expression.ExprKind.{ExprKind, fold-ExprKind, the_lemmas}
use Rattle.c_tree.specs.declared.expression.ExprKind.TheVariants as k
use Rattle.c_tree.specs.declared.expression.ExprKind.TheOpen.{ExprKind-F}
use Rattle.c_tree.specs.declared.expression.Typename.{Typename, out-Typename}
use Rattle.c_checking.specs.Calls.{Seen, or_later, in_seen, in_expr, in_exprs, called_at, seen, seen_step}

abbrev kind_seen : List (List ℕ) → ExprKind → ℕ → Seen
kind_seen names =
    fold-ExprKind (ℕ → Seen) Seen (Option ℕ) (seen_step names) (λ x. x.kind x.line) (λ t. in_seen t.bounds)

all_seen : (names : List (List ℕ)) (es : List Expr) → in_seen (map (seen names) es) ≡ in_exprs names es
all_seen names [] = refl
all_seen names (e ∷ es) = ap (or_later (in_expr names e)) (all_seen names es)

-- for any step, which does not compute
module _ (step : ExprKind-F (ℕ → Seen) Seen (Option ℕ) → ℕ → Seen) where
  abbrev seen_by : Expr → Seen
  seen_by e = fold-ExprKind (ℕ → Seen) Seen (Option ℕ) step (λ x. x.kind x.line) (λ t. in_seen t.bounds) e.kind e.line

  fold-Call : (callee : Expr) (arguments : List Expr) (line : ℕ)
      → fold-ExprKind (ℕ → Seen) Seen (Option ℕ) step (λ x. x.kind x.line) (λ t. in_seen t.bounds) (k.Call callee arguments) line
      ≡ step (ExprKind-F.Call (seen_by callee) (map seen_by arguments)) line
  fold-Call callee arguments line = search (rules, the_lemmas)

step-Call : (names : List (List ℕ)) (callee : Expr) (arguments : List Expr) (line : ℕ)
    → (kind_seen names (k.Call callee arguments) line).first
    ≡ or_later (called_at names line (seen names callee).name) (or_later (in_expr names callee) (in_seen (map (seen names) arguments)))
step-Call names callee arguments line = ap (λ (s : Seen). s.first) (fold-Call (seen_step names) callee arguments line)

step-SizeofType : (names : List (List ℕ)) (of : Typename) (line : ℕ)
    → kind_seen names (k.SizeofType of) line
    ≡ seen_step {K = ℕ → Seen} names (ExprKind-F.SizeofType (in_seen (map (seen names) (out-Typename of).bounds))) line
step-SizeofType names of line = search (rules, the_lemmas)

step-Cast : (names : List (List ℕ)) (to : Typename) (of : Expr) (line : ℕ)
    → (kind_seen names (k.Cast to of) line).first ≡ or_later (in_seen (map (seen names) (out-Typename to).bounds)) (in_expr names of)
step-Cast names to of line = search (rules, the_lemmas)

pub call_is : (names : List (List ℕ)) (e callee : Expr) (arguments : List Expr) → e.kind ≡ k.Call callee arguments
    → in_expr names e
    ≡ or_later (called_at names e.line (seen names callee).name) (or_later (in_expr names callee) (in_exprs names arguments))
call_is names e callee arguments is =
    ap (λ (kind : ExprKind). (kind_seen names kind e.line).first) is
    ∙ step-Call names callee arguments e.line
    ∙ ap (λ (found : Option ℕ). or_later (called_at names e.line (seen names callee).name) (or_later (in_expr names callee) found))
    (all_seen names arguments)

pub sizeof_is : (names : List (List ℕ)) (e : Expr) (of : Typename) → e.kind ≡ k.SizeofType of
    → in_expr names e ≡ in_exprs names (out-Typename of).bounds
sizeof_is names e of is =
    ap (λ (kind : ExprKind). (kind_seen names kind e.line).first) is
    ∙ ap (λ (s : Seen). s.first) (step-SizeofType names of e.line)
    ∙ all_seen names (out-Typename of).bounds

pub cast_is : (names : List (List ℕ)) (e : Expr) (to : Typename) (of : Expr) → e.kind ≡ k.Cast to of
    → in_expr names e ≡ or_later (in_exprs names (out-Typename to).bounds) (in_expr names of)
cast_is names e to of is =
    ap (λ (kind : ExprKind). (kind_seen names kind e.line).first) is
    ∙ step-Cast names to of e.line
    ∙ ap (λ (found : Option ℕ). or_later found (in_expr names of)) (all_seen names (out-Typename to).bounds)

-- Expressions that fit but for what they call, and call only what is defined, fit.
use Rattle.std.proofs.Common.{◌≡◌, ℕ, Bool, true, false, ◌&&◌, ◌||◌, cond, List, [], ◌∷◌, map, is_some, Option, Some, None, refl, sym, ap, subst, ◌∙◌, rules}
use Rattle.c_tree.specs.declared.expression.Expr.{Expr, Expr-F, roll-Expr}
use Rattle.c_tree.specs.declared.expression.ExprKind.{ExprKind, roll-ExprKind, map-ExprKind, fold-ExprKind, ind-ExprKind, the_lemmas}
use Rattle.c_tree.specs.declared.expression.ExprKind.TheOpen.{ExprKind-F}
use Rattle.c_tree.specs.declared.expression.Typename.{Typename, fold-Typename}
use Rattle.c_typing.specs.Calls.{builtin_named}
use Rattle.c_typing_laws.specs.Sound.{Fitting, fitting_step, fitting, fits, all_fit, called_fits}
use Rattle.c_checking.specs.Externals.{is_one_of}
use Rattle.c_checking.specs.Calls.{Seen, seen_step, in_seen, in_expr, called_at, or_later}
use Rattle.c_checking_laws.specs.Fitting.{is_known}
use Rattle.c_fitting_laws.specs.Spelled.{any}

-- ---- words

pub both_hold : (a b : Bool) → (a && b) ≡ true → (a ≡ true) × (b ≡ true)
both_hold true b h = (refl, h)
both_hold false b h = absurd (search rules)

pub both_are : (a b : Bool) → a ≡ true → b ≡ true → (a && b) ≡ true
both_are true b e f = f
both_are false b e f = absurd (search rules)

pub neither : (a b : Option ℕ) → or_later a b ≡ None → (a ≡ None) × (b ≡ None)
neither None b h = (refl, h)
neither (Some line) b h = absurd (search rules)

none_called : (b : Bool) (line : ℕ) → cond b None (Some line) ≡ None → b ≡ true
none_called true line h = refl
none_called false line h = absurd (search rules)

module _ (names : List (List ℕ)) where
  abbrev pub known : List ℕ → Bool
  known = is_known names

  abbrev pub kind_seen : ExprKind → ℕ → Seen
  kind_seen = fold-ExprKind (ℕ → Seen) Seen (Option ℕ) (seen_step names) (λ x. x.kind x.line) (λ t. in_seen t.bounds)

  abbrev typename_seen : Typename → Option ℕ
  typename_seen = fold-Typename (ℕ → Seen) Seen (Option ℕ) (seen_step names) (λ x. x.kind x.line) (λ t. in_seen t.bounds)

  abbrev expr_seen : Expr → Seen
  expr_seen e = kind_seen e.kind e.line

  abbrev expr_fitting : (List ℕ → Bool) → Expr → Fitting
  expr_fitting calls e = fitting calls e.kind

  -- what the induction shows of the kind of an expression: it fits, and its name is that of the search
  pub record KindFits (kind : ExprKind) : Type 0 where
    pub fits : (line : ℕ) → fits any kind ≡ true → (kind_seen kind line).first ≡ None → fits known kind ≡ true
    pub name : (line : ℕ) → (fitting known kind).name ≡ (kind_seen kind line).name

  abbrev ExprFits : Expr → Type 0
  ExprFits e = KindFits e.kind

  called_known : (line : ℕ) (name : Option (List ℕ)) → called_at names line name ≡ None → called_fits known name ≡ true
  called_known line None h = refl
  called_known line (Some name) h = none_called (is_one_of names name || is_some (builtin_named name)) line h

  module _ {A B C : Type 0} (fa : A → ExprKind) (fb : B → Expr) (fc : C → Typename) (exprs : (b : B) → ExprFits (fb b)) where
    abbrev opened : ExprKind-F A B C → ExprKind-F ExprKind Expr Typename
    opened y = map-ExprKind A B C ExprKind Expr Typename fa fb fc y

    abbrev seen_of : ExprKind-F A B C → ℕ → Seen
    seen_of y = seen_step names (map-ExprKind ExprKind Expr Typename (ℕ → Seen) Seen (Option ℕ) kind_seen expr_seen typename_seen
        (opened y))

    abbrev fitting_of : (List ℕ → Bool) → ExprKind-F A B C → Fitting
    fitting_of calls y = fitting_step calls (map-ExprKind ExprKind Expr Typename Fitting Fitting Bool (fitting calls)
        (expr_fitting calls) (λ t. true) (opened y))

    abbrev fit : (List ℕ → Bool) → B → Bool
    fit calls b = fits calls (fb b).kind

    one_fits : (b : B) → fit any b ≡ true → (expr_seen (fb b)).first ≡ None → fit known b ≡ true
    one_fits b = (exprs b).fits (fb b).line

    two_fit : (a b : B) → (fit any a && fit any b) ≡ true
        → or_later (expr_seen (fb a)).first (expr_seen (fb b)).first ≡ None → (fit known a && fit known b) ≡ true
    two_fit a b h none =
        let v = both_hold (fit any a) (fit any b) h in
        let w = neither (expr_seen (fb a)).first (expr_seen (fb b)).first none in
        both_are (fit known a) (fit known b) (one_fits a v.0 w.0) (one_fits b v.1 w.1)

    each_fits : (bs : List B) → all_fit (map (expr_fitting any) (map fb bs)) ≡ true → in_seen (map expr_seen (map fb bs)) ≡ None
        → all_fit (map (expr_fitting known) (map fb bs)) ≡ true
    each_fits [] h none = refl
    each_fits (b ∷ bs) h none =
        let v = both_hold (fit any b) (all_fit (map (expr_fitting any) (map fb bs))) h in
        let w = neither (expr_seen (fb b)).first (in_seen (map expr_seen (map fb bs))) none in
        both_are (fit known b) (all_fit (map (expr_fitting known) (map fb bs))) (one_fits b v.0 w.0) (each_fits bs v.1 w.1)

    layer_fits : (y : ExprKind-F A B C) (line : ℕ) → (fitting_of any y).fits ≡ true → (seen_of y line).first ≡ None
        → (fitting_of known y).fits ≡ true
    layer_fits (ExprKind-F.Name n) line h none = refl
    layer_fits (ExprKind-F.Number n decimal unsigned) line h none = h
    layer_fits (ExprKind-F.Char c) line h none = h
    layer_fits (ExprKind-F.Paren b) line h none = one_fits b h none
    layer_fits (ExprKind-F.Index a b) line h none = two_fit a b h none
    layer_fits (ExprKind-F.Call b bs) line h none =
        let v = both_hold (fit any b) (all_fit (map (expr_fitting any) (map fb bs)))
        (both_hold (called_fits any (expr_fitting any (fb b)).name)
        (fit any b && all_fit (map (expr_fitting any) (map fb bs))) h).1 in
        let called = called_at names line (expr_seen (fb b)).name in
        let w = neither called (or_later (expr_seen (fb b)).first (in_seen (map expr_seen (map fb bs)))) none in
        let u = neither (expr_seen (fb b)).first (in_seen (map expr_seen (map fb bs))) w.1 in
        let same : (expr_fitting known (fb b)).name ≡ (expr_seen (fb b)).name = (exprs b).name (fb b).line in
        both_are (called_fits known (expr_fitting known (fb b)).name)
        (fit known b && all_fit (map (expr_fitting known) (map fb bs)))
        (subst (λ name. called_fits known name ≡ true) (sym same) (called_known line (expr_seen (fb b)).name w.0))
        (both_are (fit known b) (all_fit (map (expr_fitting known) (map fb bs))) (one_fits b v.0 u.0) (each_fits bs v.1 u.1))
    layer_fits (ExprKind-F.Member b n) line h none = one_fits b h none
    layer_fits (ExprKind-F.Arrow b n) line h none = one_fits b h none
    layer_fits (ExprKind-F.PostIncrement b) line h none = one_fits b h none
    layer_fits (ExprKind-F.PostDecrement b) line h none = one_fits b h none
    layer_fits (ExprKind-F.PreIncrement b) line h none = one_fits b h none
    layer_fits (ExprKind-F.PreDecrement b) line h none = one_fits b h none
    layer_fits (ExprKind-F.AddressOf b) line h none = one_fits b h none
    layer_fits (ExprKind-F.Deref b) line h none = one_fits b h none
    layer_fits (ExprKind-F.Unary op b) line h none = one_fits b h none
    layer_fits (ExprKind-F.SizeofExpr b) line h none = one_fits b h none
    layer_fits (ExprKind-F.SizeofType c) line h none = refl
    layer_fits (ExprKind-F.Cast c b) line h none =
        one_fits b h (neither (typename_seen (fc c)) (expr_seen (fb b)).first none).1
    layer_fits (ExprKind-F.Binary a op b) line h none = two_fit a b h none
    layer_fits (ExprKind-F.And a b) line h none = two_fit a b h none
    layer_fits (ExprKind-F.Or a b) line h none = two_fit a b h none
    layer_fits (ExprKind-F.Conditional t a b) line h none =
        let v = both_hold (fit any t) (fit any a && fit any b) h in
        let w = neither (expr_seen (fb t)).first (or_later (expr_seen (fb a)).first (expr_seen (fb b)).first) none in
        both_are (fit known t) (fit known a && fit known b) (one_fits t v.0 w.0) (two_fit a b v.1 w.1)
    layer_fits (ExprKind-F.Assign a op b) line h none = two_fit a b h none
    layer_fits (ExprKind-F.Comma a b) line h none = two_fit a b h none

    layer_name : (y : ExprKind-F A B C) (line : ℕ) → (fitting_of known y).name ≡ (seen_of y line).name
    layer_name (ExprKind-F.Name n) line = refl
    layer_name (ExprKind-F.Paren b) line = (exprs b).name (fb b).line
    layer_name _ line = refl

  -- ---- unrolled

  seen_unrolled : (z : ExprKind-F ExprKind Expr Typename) → kind_seen (roll-ExprKind z)
      ≡ seen_step names (map-ExprKind ExprKind Expr Typename (ℕ → Seen) Seen (Option ℕ) kind_seen expr_seen typename_seen z)
  seen_unrolled z = search (rules, the_lemmas)

  fitting_unrolled : (calls : List ℕ → Bool) (z : ExprKind-F ExprKind Expr Typename) → fitting calls (roll-ExprKind z)
      ≡ fitting_step calls (map-ExprKind ExprKind Expr Typename Fitting Fitting Bool (fitting calls) (expr_fitting calls)
      (λ t. true) z)
  fitting_unrolled calls z = search (rules, the_lemmas)

  kind_by : {A B C : Type 0} (fa : A → ExprKind) (fb : B → Expr) (fc : C → Typename) → ((b : B) → ExprFits (fb b))
      → (y : ExprKind-F A B C) → KindFits (roll-ExprKind (map-ExprKind A B C ExprKind Expr Typename fa fb fc y))
  kind_by {A} {B} {C} fa fb fc exprs y =
      let z = map-ExprKind A B C ExprKind Expr Typename fa fb fc y in
      record {
        fits = λ line h none.
            ap (λ (f : Fitting). f.fits) (fitting_unrolled known z)
            ∙ layer_fits fa fb fc exprs y line (sym (ap (λ (f : Fitting). f.fits) (fitting_unrolled any z)) ∙ h)
            (sym (ap (λ (s : ℕ → Seen). (s line).first) (seen_unrolled z)) ∙ none);
        name = λ line.
            ap (λ (f : Fitting). f.name) (fitting_unrolled known z) ∙ layer_name fa fb fc exprs y line
            ∙ sym (ap (λ (s : ℕ → Seen). (s line).name) (seen_unrolled z));
      }

  kind_fits : (kind : ExprKind) → KindFits kind
  kind_fits = ind-ExprKind KindFits ExprFits (λ t. Unit {0})
      (λ x y is. subst (λ (z : ExprKind-F ExprKind Expr Typename). KindFits (roll-ExprKind z)) is
      (kind_by (λ e. e.0) (λ e. e.0) (λ e. e.0) (λ e. e.1) y))
      (λ x y is. subst (λ (z : Expr-F ExprKind Expr Typename). ExprFits (roll-Expr z)) is y.kind.1)
      (λ x y is. tt)

  pub expr_known : (e : Expr) → fits any e.kind ≡ true → in_expr names e ≡ None → fits known e.kind ≡ true
  expr_known e h none = (kind_fits e.kind).fits e.line h none

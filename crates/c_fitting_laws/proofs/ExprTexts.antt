-- What a text spells fits but for what it calls: expressions.
use Rattle.std.proofs.Common.{◌≡◌, ℕ, nat_le, Bool, true, ◌&&◌, List, map, Option, Some, None, refl, sym, ap, subst, ◌∙◌, rules}
use Rattle.base16.specs.declared.operator.UnaryOp.{UnaryOp}
use Rattle.base16.specs.declared.operator.UnaryOp.TheVariants as un
use Rattle.base16.specs.declared.operator.BinaryOp.{BinaryOp}
use Rattle.base16.specs.declared.operator.BinaryOp.TheVariants as op
use Rattle.c_lex.specs.declared.token.TokenKind.{TokenKind}
use Rattle.c_lex.specs.declared.token.TokenKind.TheVariants.{Mark}
use Rattle.c_lex.specs.declared.token.Mark.{Mark as AMark}
use Rattle.c_lex.specs.declared.token.Mark.TheVariants as m
use Rattle.c_tree.specs.declared.expression.Expr.{Expr}
use Rattle.c_tree.specs.declared.expression.ExprKind.{ExprKind, fold-ExprKind, the_lemmas}
use Rattle.c_tree.specs.declared.expression.ExprKind.TheVariants as k
use Rattle.c_tree.specs.declared.expression.ExprKind.TheOpen.{ExprKind-F}
use Rattle.c_tree.specs.declared.expression.Typename.{Typename}
use Rattle.c_parse_expr.specs.Tables.{Prefix, mark_prefix, prefix, Joint, mark_joint, joint}
use Rattle.c_parse_expr.specs.TypeWords.{Tokens}
use Rattle.c_parse_expr.specs.Grammar.{Spells, Begins, GoesOn, SpellsArguments, SpellsList, NamesType, SpellsBounds}
use Rattle.c_typing_laws.specs.Sound.{Fitting, fitting_step, fitting, fits, all_fit, called_fits}
use Rattle.c_fitting_laws.specs.Spelled.{kind_in_range, InRange, any}
use Rattle.c_fitting_laws.proofs.ExprCalls.{both_are}
use Rattle.c_fitting_laws.proofs.Rests.{spec_rest, stars_rest}

abbrev pub fit : Expr → Bool
fit e = fits any e.kind

-- ---- whether each kind fits

-- for any step, which does not compute
module _ (step : ExprKind-F Fitting Fitting Bool → Fitting) where
  abbrev by : ExprKind → Fitting
  by = fold-ExprKind Fitting Fitting Bool step (λ e. e.kind) (λ t. true)

  by-Call : (f : Expr) (args : List Expr)
      → by (k.Call f args) ≡ step (ExprKind-F.Call (by f.kind) (map (λ e. by e.kind) args))
  by-Call f args = search (rules, the_lemmas)

abbrev arguments : List Expr → Bool
arguments args = all_fit (map (λ (e : Expr). fitting any e.kind) args)

any_called : (name : Option (List ℕ)) → called_fits any name ≡ true
any_called None = refl
any_called (Some name) = refl

fits-Call : (f : Expr) (args : List Expr) → fit f ≡ true → arguments args ≡ true → fits any (k.Call f args) ≡ true
fits-Call f args h g =
    ap (λ (x : Fitting). x.fits) (by-Call (fitting_step any) f args)
    ∙ both_are (called_fits any (fitting any f.kind).name) (fit f && arguments args) (any_called (fitting any f.kind).name)
    (both_are (fit f) (arguments args) h g)

fits-Name : (n : List ℕ) → fits any (k.Name n) ≡ true
fits-Name n = search (rules, the_lemmas)

fits-Number : (n : ℕ) (a b : Bool) → fits any (k.Number n a b) ≡ nat_le n 65535
fits-Number n a b = search (rules, the_lemmas)

fits-Char : (c : ℕ) → fits any (k.Char c) ≡ nat_le c 255
fits-Char c = search (rules, the_lemmas)

fits-Paren : (e : Expr) → fits any (k.Paren e) ≡ fit e
fits-Paren e = search (rules, the_lemmas)

fits-Index : (a b : Expr) → fits any (k.Index a b) ≡ (fit a && fit b)
fits-Index a b = search (rules, the_lemmas)

fits-Member : (e : Expr) (n : List ℕ) → fits any (k.Member e n) ≡ fit e
fits-Member e n = search (rules, the_lemmas)

fits-Arrow : (e : Expr) (n : List ℕ) → fits any (k.Arrow e n) ≡ fit e
fits-Arrow e n = search (rules, the_lemmas)

fits-PostIncrement : (e : Expr) → fits any (k.PostIncrement e) ≡ fit e
fits-PostIncrement e = search (rules, the_lemmas)

fits-PostDecrement : (e : Expr) → fits any (k.PostDecrement e) ≡ fit e
fits-PostDecrement e = search (rules, the_lemmas)

fits-PreIncrement : (e : Expr) → fits any (k.PreIncrement e) ≡ fit e
fits-PreIncrement e = search (rules, the_lemmas)

fits-PreDecrement : (e : Expr) → fits any (k.PreDecrement e) ≡ fit e
fits-PreDecrement e = search (rules, the_lemmas)

fits-AddressOf : (e : Expr) → fits any (k.AddressOf e) ≡ fit e
fits-AddressOf e = search (rules, the_lemmas)

fits-Deref : (e : Expr) → fits any (k.Deref e) ≡ fit e
fits-Deref e = search (rules, the_lemmas)

fits-Unary : (o : UnaryOp) (e : Expr) → fits any (k.Unary o e) ≡ fit e
fits-Unary o e = search (rules, the_lemmas)

fits-SizeofExpr : (e : Expr) → fits any (k.SizeofExpr e) ≡ fit e
fits-SizeofExpr e = search (rules, the_lemmas)

fits-SizeofType : (t : Typename) → fits any (k.SizeofType t) ≡ true
fits-SizeofType t = search (rules, the_lemmas)

fits-Cast : (t : Typename) (e : Expr) → fits any (k.Cast t e) ≡ fit e
fits-Cast t e = search (rules, the_lemmas)

fits-Binary : (o : BinaryOp) (a b : Expr) → fits any (k.Binary a o b) ≡ (fit a && fit b)
fits-Binary o a b = search (rules, the_lemmas)

fits-And : (a b : Expr) → fits any (k.And a b) ≡ (fit a && fit b)
fits-And a b = search (rules, the_lemmas)

fits-Or : (a b : Expr) → fits any (k.Or a b) ≡ (fit a && fit b)
fits-Or a b = search (rules, the_lemmas)

fits-Conditional : (t a b : Expr) → fits any (k.Conditional t a b) ≡ (fit t && (fit a && fit b))
fits-Conditional t a b = search (rules, the_lemmas)

fits-Assign : (o : Option BinaryOp) (a b : Expr) → fits any (k.Assign a o b) ≡ (fit a && fit b)
fits-Assign o a b = search (rules, the_lemmas)

fits-Comma : (a b : Expr) → fits any (k.Comma a b) ≡ (fit a && fit b)
fits-Comma a b = search (rules, the_lemmas)

-- ---- the tables of operators

abbrev Keeps : Option Prefix → Type 0
Keeps None = Unit {0}
Keeps (Some p) = (e : Expr) → fits any (p.make e) ≡ fit e

mark_keeps : (x : AMark) → Keeps (mark_prefix x)
mark_keeps m.PlusPlus = fits-PreIncrement
mark_keeps m.MinusMinus = fits-PreDecrement
mark_keeps m.Ampersand = fits-AddressOf
mark_keeps m.Star = fits-Deref
mark_keeps m.Plus = fits-Unary un.Plus
mark_keeps m.Minus = fits-Unary un.Minus
mark_keeps m.Tilde = fits-Unary un.Complement
mark_keeps m.Exclamation = fits-Unary un.Not
mark_keeps _ = tt

keeps : (x : TokenKind) → Keeps (prefix x)
keeps (Mark x) = mark_keeps x
keeps _ = tt

abbrev Joins : Option Joint → Type 0
Joins None = Unit {0}
Joins (Some j) = (a b : Expr) → fits any (j.make a b) ≡ (fit a && fit b)

mark_joins : (x : AMark) → Joins (mark_joint x)
mark_joins m.Comma = fits-Comma
mark_joins m.OrOr = fits-Or
mark_joins m.AndAnd = fits-And
mark_joins m.Bar = fits-Binary op.Or
mark_joins m.Caret = fits-Binary op.Xor
mark_joins m.Ampersand = fits-Binary op.And
mark_joins m.EqualEqual = fits-Binary op.Equal
mark_joins m.NotEqual = fits-Binary op.NotEqual
mark_joins m.Less = fits-Binary op.Less
mark_joins m.Greater = fits-Binary op.Greater
mark_joins m.LessEqual = fits-Binary op.LessEq
mark_joins m.GreaterEqual = fits-Binary op.GreaterEq
mark_joins m.ShiftLeft = fits-Binary op.Shl
mark_joins m.ShiftRight = fits-Binary op.Shr
mark_joins m.Plus = fits-Binary op.Add
mark_joins m.Minus = fits-Binary op.Sub
mark_joins m.Star = fits-Binary op.Mul
mark_joins m.Slash = fits-Binary op.Div
mark_joins m.Percent = fits-Binary op.Rem
mark_joins m.Assign = fits-Assign None
mark_joins m.StarAssign = fits-Assign (Some op.Mul)
mark_joins m.SlashAssign = fits-Assign (Some op.Div)
mark_joins m.PercentAssign = fits-Assign (Some op.Rem)
mark_joins m.PlusAssign = fits-Assign (Some op.Add)
mark_joins m.MinusAssign = fits-Assign (Some op.Sub)
mark_joins m.ShiftLeftAssign = fits-Assign (Some op.Shl)
mark_joins m.ShiftRightAssign = fits-Assign (Some op.Shr)
mark_joins m.AmpersandAssign = fits-Assign (Some op.And)
mark_joins m.CaretAssign = fits-Assign (Some op.Xor)
mark_joins m.BarAssign = fits-Assign (Some op.Or)
mark_joins _ = tt

joins : (x : TokenKind) → Joins (joint x)
joins (Mark x) = mark_joins x
joins _ = tt

-- ---- the induction

mutual
  -- an expression fits, and the tokens behind it are in range
  pub spells_fit : {e : Expr} {ts rest : Tokens} → Spells e ts rest → InRange ts → (fit e ≡ true) × InRange rest
  spells_fit (Spells.begun b) in_range = begins_fit b in_range
  spells_fit (Spells.gone_on s g) in_range = let w = spells_fit s in_range in goes_fit g w.0 w.1

  begins_fit : {kind : ExprKind} {ts rest : Tokens} → Begins kind ts rest → InRange ts → (fits any kind ≡ true) × InRange rest
  begins_fit (Begins.name {n} is) in_range = (fits-Name n, in_range.1)
  begins_fit (Begins.number {n} {decimal = a} {suffixed = b} is) in_range =
      (fits-Number n a b ∙ (sym (ap kind_in_range is) ∙ in_range.0), in_range.1)
  begins_fit (Begins.character {n} is) in_range = (fits-Char n ∙ (sym (ap kind_in_range is) ∙ in_range.0), in_range.1)
  begins_fit (Begins.paren {e} is s close) in_range = let w = spells_fit s in_range.1 in (fits-Paren e ∙ w.0, w.1.1)
  begins_fit (Begins.cast {ty} {e} is a close s b) in_range =
      let v = type_rest a in_range.1 in
      let w = spells_fit s v.1 in (fits-Cast ty e ∙ w.0, w.1)
  begins_fit (Begins.prefixed {t} {e} is s b) in_range =
      let w = spells_fit s in_range.1 in (subst Keeps is (keeps t.kind) e ∙ w.0, w.1)
  begins_fit (Begins.sizeof_expr {e} is s b) in_range = let w = spells_fit s in_range.1 in (fits-SizeofExpr e ∙ w.0, w.1)
  begins_fit (Begins.sizeof_type {ty} is opened a close) in_range = (fits-SizeofType ty, (type_rest a in_range.1.1).1)

  goes_fit : {e : Expr} {kind : ExprKind} {ts rest : Tokens} → GoesOn e kind ts rest → fit e ≡ true → InRange ts
      → (fits any kind ≡ true) × InRange rest
  goes_fit (GoesOn.joined {l = a} {r = x} {t} is b s c) h in_range =
      let w = spells_fit s in_range.1 in (subst Joins is (joins t.kind) a x ∙ both_are (fit a) (fit x) h w.0, w.1)
  goes_fit (GoesOn.conditional {test} {then = y} {other = n} is b s colon z c) h in_range =
      let w = spells_fit s in_range.1 in
      let v = spells_fit z w.1.1 in
      (fits-Conditional test y n ∙ both_are (fit test) (fit y && fit n) h (both_are (fit y) (fit n) w.0 v.0), v.1)
  goes_fit (GoesOn.index {e} {at} is b s close) h in_range =
      let w = spells_fit s in_range.1 in (fits-Index e at ∙ both_are (fit e) (fit at) h w.0, w.1.1)
  goes_fit (GoesOn.call {f} {args} is b a) h in_range =
      let w = arguments_fit a in_range.1 in (fits-Call f args h w.0, w.1)
  goes_fit (GoesOn.member {e} {n} is b a) h in_range = (fits-Member e n ∙ h, in_range.1.1)
  goes_fit (GoesOn.arrow {e} {n} is b a) h in_range = (fits-Arrow e n ∙ h, in_range.1.1)
  goes_fit (GoesOn.increment {e} is b) h in_range = (fits-PostIncrement e ∙ h, in_range.1)
  goes_fit (GoesOn.decrement {e} is b) h in_range = (fits-PostDecrement e ∙ h, in_range.1)

  arguments_fit : {es : List Expr} {ts rest : Tokens} → SpellsArguments es ts rest → InRange ts
      → (arguments es ≡ true) × InRange rest
  arguments_fit (SpellsArguments.none is) in_range = (refl, in_range.1)
  arguments_fit (SpellsArguments.some l is) in_range = let w = listed_fit l in_range in (w.0, w.1.1)

  listed_fit : {es : List Expr} {ts rest : Tokens} → SpellsList es ts rest → InRange ts → (arguments es ≡ true) × InRange rest
  listed_fit (SpellsList.last {e} s b) in_range = let w = spells_fit s in_range in (both_are (fit e) true w.0 refl, w.1)
  listed_fit (SpellsList.further {e} {es} s b is l) in_range =
      let w = spells_fit s in_range in
      let v = listed_fit l w.1.1 in (both_are (fit e) (arguments es) w.0 v.0, v.1)

  type_rest : {ty : Typename} {ts rest : Tokens} → NamesType ty ts rest → InRange ts → InRange rest
  type_rest (NamesType.names a b c) in_range = bounds_rest c (stars_rest b (spec_rest a in_range))

  pub bounds_rest : {es : List Expr} {ts rest : Tokens} → SpellsBounds es ts rest → InRange ts → InRange rest
  bounds_rest SpellsBounds.no_bound in_range = in_range
  bounds_rest (SpellsBounds.a_bound is s b close more) in_range = bounds_rest more (spells_fit s in_range.1).1.1

-- What is spelled is read.
use Rattle.std.proofs.Common.{◌≡◌, ℕ, zero, suc, ◌+◌, ◌<◌, ◌≤◌, Bool, true, false, List, [], ◌∷◌, ◌++◌, max, length, Option, Some, None, refl, sym, ap, ◌∙◌, append_assoc, append-nil, subst, arith, ◌⊎◌, inl, inr}
use Rattle.std.proofs.lemmas.Bool.{le-leb, lt-leb}
use Rattle.c_lex.specs.declared.token.Token.{Token}
use Rattle.c_lex.specs.declared.token.TokenKind.{TokenKind}
use Rattle.c_lex.specs.declared.token.TokenKind.TheVariants.{Word, Number, Char, Keyword, Mark}
use Rattle.c_lex.specs.declared.token.Keyword.TheVariants as w
use Rattle.c_lex.specs.declared.token.Mark.{Mark as AMark}
use Rattle.c_lex.specs.declared.token.Mark.TheVariants as m
use Rattle.c_tree.specs.declared.expression.Expr.{Expr}
use Rattle.c_tree.specs.declared.expression.ExprKind.{ExprKind}
use Rattle.c_tree.specs.declared.expression.Typename.{Typename}
use Rattle.c_tree.specs.Measure.{all, expr_height, expr_kind_measure, typename_measure}
use Rattle.c_tree.proofs.ExprMeasures as measure
use Rattle.c_parse_expr.specs.declared.wanted.Wanted.TheVariants as want
use Rattle.c_parse_expr.specs.Expected.{fits}
use Rattle.c_parse_expr.specs.Ranks.{conditional_rank, cast_rank, unary_rank, rank, rank_of}
use Rattle.c_parse_expr.specs.Tables.{Prefix, prefix, Joint, joint}
use Rattle.c_parse_expr.specs.TypeWords.{Tokens, line_at}
use Rattle.c_parse_expr.specs.Grammar.{node, Spells, begun, gone_on, Begins, name, number, character, paren, cast, prefixed, sizeof_expr, sizeof_type, GoesOn, joined, conditional, index, call, member, arrow, increment, decrement, SpellsArguments, none, some, SpellsList, last, further, NamesType, names, SpellsBounds, no_bound, a_bound}
use Rattle.c_parse_expr.specs.Steps.{Parser}
use Rattle.c_parse_expr.specs.TypeReading.{names_type}
use Rattle.c_parse_expr.specs.Reading as r
use Rattle.c_parse_expr.proofs.Fitting.{fits_not, it_fits}
use Rattle.c_parse_expr.proofs.RankOf as ranks
use Rattle.c_parse_expr.proofs.Sound.{typename_high}
use Rattle.c_parse_expr.proofs.AfterSteps.{expect_found, take_found, Lacks, take_lacking, other_token, word_found}
use Rattle.c_parse_expr.proofs.Operators.{tabled_up, tabled, Ends, right_same, right_tight, IsJoint, is_joint, are_joints, IsPrefix, is_prefix, are_prefixes}
use Rattle.c_parse_expr.proofs.TypeComplete.{spec_shorter, stars_shorter, spec_start, spec_again, Untyped, untyped_unqualified, stars_untyped, all_stars_again}

-- ---- each part takes a token

mutual
  pub spells_shorter : {e : Expr} {ts rest : Tokens} → Spells e ts rest → length rest < length ts
  spells_shorter (begun b) = begins_shorter b
  spells_shorter (gone_on s g) = omega (arith, spells_shorter s, goes_shorter g)

  begins_shorter : {kind : ExprKind} {ts rest : Tokens} → Begins kind ts rest → length rest < length ts
  begins_shorter (name is) = omega arith
  begins_shorter (number is) = omega arith
  begins_shorter (character is) = omega arith
  begins_shorter (paren is s close) = omega (arith, spells_shorter s)
  begins_shorter (cast is a close s b) = omega (arith, names_shorter a, spells_shorter s)
  begins_shorter (prefixed is s b) = omega (arith, spells_shorter s)
  begins_shorter (sizeof_expr is s b) = omega (arith, spells_shorter s)
  begins_shorter (sizeof_type is a b c) = omega (arith, names_shorter b)

  goes_shorter : {e : Expr} {kind : ExprKind} {ts rest : Tokens} → GoesOn e kind ts rest → length rest < length ts
  goes_shorter (joined is b s c) = omega (arith, spells_shorter s)
  goes_shorter (conditional is b s colon t c) = omega (arith, spells_shorter s, spells_shorter t)
  goes_shorter (index is b s close) = omega (arith, spells_shorter s)
  goes_shorter (call is b a) = omega (arith, arguments_shorter a)
  goes_shorter (member is b a) = omega arith
  goes_shorter (arrow is b a) = omega arith
  goes_shorter (increment is b) = omega arith
  goes_shorter (decrement is b) = omega arith

  arguments_shorter : {es : List Expr} {ts rest : Tokens} → SpellsArguments es ts rest → length rest < length ts
  arguments_shorter (none is) = omega arith
  arguments_shorter (some l is) = omega (arith, listed_shorter l)

  listed_shorter : {es : List Expr} {ts rest : Tokens} → SpellsList es ts rest → length rest + length es ≤ length ts
  listed_shorter (last s b) = omega (arith, spells_shorter s)
  listed_shorter (further s b is l) = omega (arith, spells_shorter s, listed_shorter l)

  pub names_shorter : {ty : Typename} {ts rest : Tokens} → NamesType ty ts rest → length rest < length ts
  names_shorter (names a b c) = omega (arith, spec_shorter a, stars_shorter b, bounds_shorter c)

  pub bounds_shorter : {es : List Expr} {ts rest : Tokens} → SpellsBounds es ts rest → length rest + length es ≤ length ts
  bounds_shorter no_bound = omega arith
  bounds_shorter (a_bound is s b close x) = omega (arith, spells_shorter s, bounds_shorter x)

-- ---- each node is higher than its parts

prefix_high : (e : Expr) (p : Prefix) → IsPrefix (Some p) → 0 < expr_kind_measure max (p.make e)
prefix_high e p (is_prefix tight fixed) = omega (arith, (fixed e).height)

begins_high : {kind : ExprKind} {ts rest : Tokens} → Begins kind ts rest → 0 < expr_kind_measure max kind
begins_high (name {n} is) = omega (arith, measure.measure-Name max n)
begins_high (number {n} {decimal = a} {suffixed = b} is) = omega (arith, measure.measure-Number max n a b)
begins_high (character {n} is) = omega (arith, measure.measure-Char max n)
begins_high (paren {e} is s close) = omega (arith, measure.measure-Paren max e)
begins_high (cast {ty} {e} is a close s b) = omega (arith, measure.measure-Cast max ty e)
begins_high (prefixed {t} {p} {e} is s b) = prefix_high e p (subst IsPrefix is (are_prefixes t.kind))
begins_high (sizeof_expr {e} is s b) = omega (arith, measure.measure-SizeofExpr max e)
begins_high (sizeof_type {ty} is a b c) = omega (arith, measure.measure-SizeofType max ty)

joint_high : (e x : Expr) (j : Joint) → IsJoint (Some j) → 0 < expr_kind_measure max (j.make e x)
joint_high e x j (is_joint p right rank_is) = omega (arith, (rank_is e x).height)

goes_high : {e : Expr} {kind : ExprKind} {ts rest : Tokens} → GoesOn e kind ts rest → 0 < expr_kind_measure max kind
goes_high (joined {l} {r = x} {t} {j} is b s c) = joint_high l x j (subst IsJoint is (are_joints t.kind))
goes_high (conditional {test} {then = y} {other = n} is b s colon z c) = omega (arith, measure.measure-Conditional max test y n)
goes_high (index {e} {at} is b s close) = omega (arith, measure.measure-Index max e at)
goes_high (call {f} {args} is b a) = omega (arith, measure.measure-Call max f args)
goes_high (member {e} {n} is b a) = omega (arith, measure.measure-Member max e n)
goes_high (arrow {e} {n} is b a) = omega (arith, measure.measure-Arrow max e n)
goes_high (increment {e} is b) = omega (arith, measure.measure-PostIncrement max e)
goes_high (decrement {e} is b) = omega (arith, measure.measure-PostDecrement max e)

pub spells_high : {e : Expr} {ts rest : Tokens} → Spells e ts rest → 0 < expr_height e
spells_high (begun b) = begins_high b
spells_high (gone_on s g) = goes_high g

-- ---- what an expression begins with

abbrev starts_by : Option Prefix → Bool
starts_by None = false
starts_by (Some _) = true

abbrev pub starts : TokenKind → Bool
starts (Word _) = true
starts (Number _ _ _) = true
starts (Char _) = true
starts (Keyword w.Sizeof) = true
starts (Mark m.LeftParen) = true
starts x = starts_by (prefix x)

abbrev pub Starts : Tokens → Type 0
Starts [] = ⊥
Starts (t ∷ _) = starts t.kind ≡ true

prefix_starts : (x : TokenKind) (p : Prefix) → prefix x ≡ Some p → starts x ≡ true
prefix_starts (Word n) p is = refl
prefix_starts (Number n a b) p is = refl
prefix_starts (Char n) p is = refl
prefix_starts (Keyword w.Sizeof) p is = refl
prefix_starts (Mark m.LeftParen) p is = refl
prefix_starts x p is = ap starts_by is

begins_start : {kind : ExprKind} {ts rest : Tokens} → Begins kind ts rest → Starts ts
begins_start (name is) = rw is refl
begins_start (number is) = rw is refl
begins_start (character is) = rw is refl
begins_start (paren is s close) = rw is refl
begins_start (cast is a close s b) = rw is refl
begins_start (prefixed {t} {p} is s b) = prefix_starts t.kind p is
begins_start (sizeof_expr is s b) = rw is refl
begins_start (sizeof_type is a b c) = rw is refl

pub spells_start : {e : Expr} {ts rest : Tokens} → Spells e ts rest → Starts ts
spells_start (begun b) = begins_start b
spells_start (gone_on s g) = spells_start s

listed_start : {es : List Expr} {ts rest : Tokens} → SpellsList es ts rest → Starts ts
listed_start (last s b) = spells_start s
listed_start (further s b is l) = spells_start s

lacks_kind : (x : AMark) (t : TokenKind) → starts t ≡ true → starts (Mark x) ≡ false → fits (want.Mark x) t ≡ false
lacks_kind x t s n = fits_not (want.Mark x) t (λ is. let e = ap starts is in cc)

-- a mark with which no expression begins
pub lacks : (x : AMark) (ts : Tokens) → Starts ts → starts (Mark x) ≡ false → Lacks (want.Mark x) ts
lacks x [] s n = tt
lacks x (t ∷ ts) s n = lacks_kind x t.kind s n

kind_untyped : (x : TokenKind) → starts x ≡ true → names_type x ≡ false
kind_untyped (Keyword w.Const) e = cc
kind_untyped (Keyword w.Volatile) e = cc
kind_untyped (Keyword w.Void) e = cc
kind_untyped (Keyword w.Char) e = cc
kind_untyped (Keyword w.Struct) e = cc
kind_untyped (Keyword w.Int) e = cc
kind_untyped (Keyword w.Signed) e = cc
kind_untyped (Keyword w.Unsigned) e = cc
kind_untyped (Keyword w.Short) e = cc
kind_untyped _ e = refl

pub starts_untyped : (ts : Tokens) → Starts ts → r.type_next ts ≡ false
starts_untyped [] h = absurd h
starts_untyped (t ∷ ts) h = kind_untyped t.kind h

pub names_start : {ty : Typename} {ts rest : Tokens} → NamesType ty ts rest → r.type_next ts ≡ true
names_start (names a b c) = spec_start a

-- a mark that closes does not go on with what stands before it
pub closes : (x : AMark) (t : Token) (rest : Tokens) → t.kind ≡ Mark x → (n : ℕ) → r.reach_of (Mark x) < n → r.reach (t ∷ rest) < n
unfolding r.reach
closes x t rest is n h = rw is h

ends_up : {n p x y : ℕ} → n ≤ p → (x < n) ⊎ (y ≤ p) → (x < p) ⊎ (y ≤ p)
ends_up h (inl a) = inl (omega arith)
ends_up h (inr a) = inr a

-- ---- what the table says of a token in it

reach_joint : (x : TokenKind) (j : Joint) → joint x ≡ Some j → r.reach_of x ≡ j.rank
reach_joint (Mark m.Question) j is = cc
reach_joint (Mark m.LeftParen) j is = cc
reach_joint (Mark m.LeftBracket) j is = cc
reach_joint (Mark m.Dot) j is = cc
reach_joint (Mark m.Arrow) j is = cc
reach_joint (Mark m.PlusPlus) j is = cc
reach_joint (Mark m.MinusMinus) j is = cc
reach_joint x j is = ap r.joint_reach is

need_joint : (x : TokenKind) (j : Joint) → joint x ≡ Some j → r.need_of x ≡ j.left
need_joint (Mark m.Question) j is = cc
need_joint (Mark m.LeftParen) j is = cc
need_joint (Mark m.LeftBracket) j is = cc
need_joint (Mark m.Dot) j is = cc
need_joint (Mark m.Arrow) j is = cc
need_joint (Mark m.PlusPlus) j is = cc
need_joint (Mark m.MinusMinus) j is = cc
need_joint x j is = ap r.joint_need is

record Goes (e : Expr) (kind : ExprKind) (ts : Tokens) : Type 0 where
  reaches : r.reach ts ≡ rank_of kind
  needs : r.need ts ≤ rank e
  higher : expr_height e < expr_kind_measure max kind

joined_test : (e x : Expr) (t : Token) (j : Joint) {ts : Tokens} → joint t.kind ≡ Some j → j.left ≤ rank e → IsJoint (Some j) → Goes e (j.make e x) (t ∷ ts)
unfolding r.reach r.need
joined_test e x t j is b (is_joint p right rank_is) = record {
  reaches = reach_joint t.kind j is ∙ sym (rank_is e x).rank;
  needs = rw (need_joint t.kind j is) b;
  higher = omega (arith, (rank_is e x).height);
}

goes_test : (e : Expr) (kind : ExprKind) (ts rest : Tokens) → GoesOn e kind ts rest → Goes e kind ts
unfolding r.reach r.need
goes_test e kind ts rest (joined {r = x} {t} {j} is b s c) = joined_test e x t j is b (subst IsJoint is (are_joints t.kind))
goes_test e kind ts rest (conditional {then = y} {other = n} {t} is b s colon z c) =
    record { reaches = rw is (sym (ranks.rank-Conditional e y n)); needs = rw is b; higher = omega (arith, measure.measure-Conditional max e y n) }
goes_test e kind ts rest (index {at} is b s close) =
    record { reaches = rw is (sym (ranks.rank-Index e at)); needs = rw is b; higher = omega (arith, measure.measure-Index max e at) }
goes_test e kind ts rest (call {args} is b a) =
    record { reaches = rw is (sym (ranks.rank-Call e args)); needs = rw is b; higher = omega (arith, measure.measure-Call max e args) }
goes_test e kind ts rest (member {n} is b a) =
    record { reaches = rw is (sym (ranks.rank-Member e n)); needs = rw is b; higher = omega (arith, measure.measure-Member max e n) }
goes_test e kind ts rest (arrow {n} is b a) =
    record { reaches = rw is (sym (ranks.rank-Arrow e n)); needs = rw is b; higher = omega (arith, measure.measure-Arrow max e n) }
goes_test e kind ts rest (increment is b) =
    record { reaches = rw is (sym (ranks.rank-PostIncrement e)); needs = rw is b; higher = omega (arith, measure.measure-PostIncrement max e) }
goes_test e kind ts rest (decrement is b) =
    record { reaches = rw is (sym (ranks.rank-PostDecrement e)); needs = rw is b; higher = omega (arith, measure.measure-PostDecrement max e) }

-- ---- what binds as tightly as a unary expression does not begin with a type in parentheses

unenclosed : (t : Token) (ts : Tokens) (x : TokenKind) → t.kind ≡ x → (x ≡ Mark m.LeftParen → ⊥) → r.type_enclosed (t ∷ ts) ≡ false
unenclosed t ts x is ne = let e = other_token (want.Mark m.LeftParen) t x is ne in rw e refl

prefix_paren : (x : TokenKind) (p : Prefix) → prefix x ≡ Some p → x ≡ Mark m.LeftParen → ⊥
prefix_paren x p is e = let z : prefix x ≡ None = ap prefix e in cc

begins_tight : {kind : ExprKind} {ts rest : Tokens} → Begins kind ts rest → unary_rank ≤ rank_of kind → r.type_enclosed ts ≡ false
begins_tight (name {t} {n} {rest} is) h = unenclosed t rest (Word n) is (λ e. cc)
begins_tight (number {t} {n} {decimal = a} {suffixed = b} {rest} is) h = unenclosed t rest (Number n a b) is (λ e. cc)
begins_tight (character {t} {n} {rest} is) h = unenclosed t rest (Char n) is (λ e. cc)
begins_tight (paren {t} {ts} is s close) h =
    let a = it_fits (want.Mark m.LeftParen) t.kind is in let b = starts_untyped ts (spells_start s) in rw (a, b) refl
begins_tight (cast {ty} {e} is a close s b) h = absurd (omega (arith, ranks.rank-Cast ty e))
begins_tight (prefixed {t} {p} {ts} is s b) h = unenclosed t ts t.kind refl (prefix_paren t.kind p is)
begins_tight (sizeof_expr {t} {ts} is s b) h = unenclosed t ts (Keyword w.Sizeof) is (λ e. cc)
begins_tight (sizeof_type {t} {u} {ts} is a b c) h = unenclosed t (u ∷ ts) (Keyword w.Sizeof) is (λ e. cc)

spells_tight : {e : Expr} {ts rest : Tokens} → Spells e ts rest → unary_rank ≤ rank e → r.type_enclosed ts ≡ false
spells_tight (begun b) h = begins_tight b h
spells_tight (gone_on {e} {kind} {others} {rest} s g) h =
    let t = goes_test e kind others rest g in spells_tight s (omega (arith, t.reaches, t.needs, tabled_up (tabled others)))

pub bounds_untyped : {es : List Expr} {ts rest : Tokens} → SpellsBounds es ts rest → Untyped rest → Untyped ts
bounds_untyped no_bound h = h
bounds_untyped (a_bound is s b close x) h = rw is refl

pub bounds_lack : (x : AMark) {es : List Expr} {ts rest : Tokens} → (m.LeftBracket ≡ x → ⊥) → SpellsBounds es ts rest → Lacks (want.Mark x) rest → Lacks (want.Mark x) ts
bounds_lack x ne no_bound h = h
bounds_lack x ne (a_bound {t} is s b close y) h = other_token (want.Mark x) t (Mark m.LeftBracket) is (λ e. ne (let z : Mark m.LeftBracket ≡ Mark x = e in cc))

-- a mark that is no word of a type
pub mark_untyped : (x : AMark) (t : Token) → t.kind ≡ Mark x → names_type t.kind ≡ false
mark_untyped x t is = rw is refl

pub another_mark : (x y : AMark) (t : Token) → t.kind ≡ Mark y → (y ≡ x → ⊥) → fits (want.Mark x) t.kind ≡ false
another_mark x y t is ne = other_token (want.Mark x) t (Mark y) is (λ e. ne (let z : Mark y ≡ Mark x = e in cc))

module _ (rec : ℕ → Parser Expr) (d : ℕ)
    (complete : (n : ℕ) (e : Expr) (ts rest : Tokens) → Spells e ts rest → n ≤ rank e → expr_height e ≤ d → r.reach rest < n → rec n ts ≡ Some (e, rest)) where
  -- an expression before a mark that closes it
  inside : (x : AMark) {e : Expr} {u : Token} {ts rest : Tokens} → Spells e ts (u ∷ rest) → u.kind ≡ Mark x → (n : ℕ) → n ≤ rank e → r.reach_of (Mark x) < n → expr_height e ≤ d
      → rec n ts ≡ Some (e, u ∷ rest)
  inside x {e} {u} {ts} {rest} s is n b z h = complete n e ts (u ∷ rest) s b h (closes x u rest is n z)

  enclosed : (x : AMark) {e : Expr} {u : Token} {ts rest : Tokens} → Spells e ts (u ∷ rest) → u.kind ≡ Mark x → r.reach_of (Mark x) < 1 → expr_height e ≤ d
      → rec 1 ts ≡ Some (e, u ∷ rest)
  enclosed x {e} s is z h = inside x s is 1 (ranks.rank_high e.kind) z h

  -- ---- lists
  listed_again : (n : ℕ) (found es : List Expr) (ts rest : Tokens) → SpellsList es ts rest → length es ≤ n → all max expr_height es ≤ d → r.reach rest < 2 → Lacks (want.Mark m.Comma) rest
      → r.listed rec n found ts ≡ Some (found ++ es, rest)
  unfolding r.listed
  listed_again zero found es ts rest (last s b) long low ends un = absurd (omega arith)
  listed_again zero found es ts rest (further s b is l) long low ends un = absurd (omega arith)
  listed_again (suc n) found es ts rest (last {e} s b) long low ends un =
      let a = complete 2 e ts rest s b (omega arith) ends in rw (a, take_lacking (want.Mark m.Comma) rest un) refl
  listed_again (suc n) found es ts rest (further {e} {es = others} {t} {others = behind} s b is l) long low ends un =
      let a = inside m.Comma s is 2 b (omega arith) (omega arith) in
      rw (a, take_found (want.Mark m.Comma) t behind is)
      (listed_again n (found ++ e ∷ []) others behind rest l (omega arith) (omega arith) ends un ∙ ap (λ z. Some (z, rest)) (append_assoc found (e ∷ []) others))

  arguments_again : (es : List Expr) (ts rest : Tokens) → SpellsArguments es ts rest → all max expr_height es ≤ d → r.arguments rec ts ≡ Some (es, rest)
  unfolding r.arguments r.some_arguments r.all_listed
  arguments_again es ts rest (none {t} is) low = rw (take_found (want.Mark m.RightParen) t rest is) refl
  arguments_again es ts rest (some {t} l is) low =
      let long = listed_shorter l in
      let a = listed_again (length ts) [] es ts (t ∷ rest) l (omega arith) low (closes m.RightParen t rest is 2 (omega arith)) (another_mark m.Comma m.RightParen t is (λ e. cc)) in
      rw (take_lacking (want.Mark m.RightParen) ts (lacks m.RightParen ts (listed_start l) refl), a, expect_found (want.Mark m.RightParen) t rest is) refl

  -- ---- the sizes of arrays, and the names of types
  bounds_found : (n : ℕ) (found es : List Expr) (ts rest : Tokens) → SpellsBounds es ts rest → length es ≤ n → all max expr_height es ≤ d → Lacks (want.Mark m.LeftBracket) rest
      → r.bounds rec n found ts ≡ Some (found ++ es, rest)
  unfolding r.bounds r.bound
  bounds_found zero found es ts rest no_bound long low un = ap (λ z. Some (z, rest)) (sym (append-nil found))
  bounds_found zero found es ts rest (a_bound is s b close x) long low un = absurd (omega arith)
  bounds_found (suc n) found es ts rest no_bound long low un = rw (take_lacking (want.Mark m.LeftBracket) rest un) (ap (λ z. Some (z, rest)) (sym (append-nil found)))
  bounds_found (suc n) found es ts rest (a_bound {e} {es = others} {t} {u} {ts = behind} {mid} is s b close x) long low un =
      let a = inside m.RightBracket s close conditional_rank b (omega arith) (omega arith) in
      rw (take_found (want.Mark m.LeftBracket) t behind is, a, expect_found (want.Mark m.RightBracket) u mid close)
      (bounds_found n (found ++ e ∷ []) others mid rest x (omega arith) (omega arith) un ∙ ap (λ z. Some (z, rest)) (append_assoc found (e ∷ []) others))

  pub all_bounds_again : (es : List Expr) (ts rest : Tokens) → SpellsBounds es ts rest → all max expr_height es ≤ d → Lacks (want.Mark m.LeftBracket) rest → r.all_bounds rec ts ≡ Some (es, rest)
  unfolding r.all_bounds
  all_bounds_again es ts rest x low un = bounds_found (length ts) [] es ts rest x (omega (arith, bounds_shorter x)) low un

  -- a type before the parenthesis that closes
  type_again : (ty : Typename) (u : Token) (ts rest : Tokens) → NamesType ty ts (u ∷ rest) → u.kind ≡ Mark m.RightParen → typename_measure max ty ≤ d → r.type_name rec ts ≡ Some (ty, u ∷ rest)
  unfolding r.type_name
  type_again ty u ts rest (names {spec} {stars} {bounds} {mid} {others} a b c) is low =
      let free = bounds_untyped c (mark_untyped m.RightParen u is) in
      let one = spec_again spec ts mid a (stars_untyped b free) in
      let two = all_stars_again stars mid others b (untyped_unqualified others free) (bounds_lack m.Star (λ e. cc) c (another_mark m.Star m.RightParen u is (λ e. cc))) in
      let three = all_bounds_again bounds others (u ∷ rest) c (omega (arith, typename_high spec stars bounds)) (another_mark m.LeftBracket m.RightParen u is (λ e. cc)) in
      rw (one, two, three) refl

  -- ---- what begins with a token of its own
  by_prefix : (x : TokenKind) (p : Prefix) (ts : Tokens) → prefix x ≡ Some p → r.begin_by rec x ts ≡ r.prefixed rec (Some p) ts
  by_prefix (Word n) p ts is = cc
  by_prefix (Number n a b) p ts is = cc
  by_prefix (Char n) p ts is = cc
  by_prefix (Keyword w.Sizeof) p ts is = cc
  by_prefix (Mark m.LeftParen) p ts is = cc
  by_prefix x p ts is = ap (λ o. r.prefixed rec o ts) is

  prefixed_again : (p : Prefix) (e : Expr) (ts rest : Tokens) → Spells e ts rest → p.operand ≤ rank e → expr_kind_measure max (p.make e) ≤ suc d → Ends (rank_of (p.make e)) rest
      → IsPrefix (Some p) → r.prefixed rec (Some p) ts ≡ Some (p.make e, rest)
  unfolding r.prefixed
  prefixed_again p e ts rest s b low ends (is_prefix tight fixed) =
      let free = right_tight 15 (tabled rest) (inr refl) (subst (λ z. Ends z rest) (fixed e).rank ends) in
      let a = complete p.operand e ts rest s b (omega (arith, (fixed e).height)) (omega arith) in rw a refl

  begin_again : (kind : ExprKind) (ts rest : Tokens) → Begins kind ts rest → expr_kind_measure max kind ≤ suc d → Ends (rank_of kind) rest → r.begin rec ts ≡ Some (kind, rest)
  unfolding r.begin r.paren r.cast r.paren_or_cast r.size r.sizeof_type r.sizeof_expr
  begin_again kind ts rest (name is) low ends = rw is refl
  begin_again kind ts rest (number is) low ends = rw is refl
  begin_again kind ts rest (character is) low ends = rw is refl
  begin_again kind ts rest (paren {t} {u} {e} {ts = behind} is s close) low ends =
      let a = enclosed m.RightParen s close (omega arith) (omega (arith, measure.measure-Paren max e)) in
      let b = starts_untyped behind (spells_start s) in
      rw (is, b, a, expect_found (want.Mark m.RightParen) u rest close) refl
  begin_again kind ts rest (cast {t} {u} {ty} {e} {ts = behind} {mid} is a close s b) low ends =
      let high = measure.measure-Cast max ty e in
      let one = names_start a in
      let two = type_again ty u behind mid a close (omega arith) in
      let free = right_tight 14 (tabled rest) (inl refl) (subst (λ p. Ends p rest) (ranks.rank-Cast ty e) ends) in
      let three = complete cast_rank e mid rest s b (omega arith) free in
      rw (is, one, two, expect_found (want.Mark m.RightParen) u mid close, three) refl
  begin_again kind ts rest (prefixed {t} {p} {e} {ts = behind} is s b) low ends =
      by_prefix t.kind p behind is ∙ prefixed_again p e behind rest s b low ends (subst IsPrefix is (are_prefixes t.kind))
  begin_again kind ts rest (sizeof_expr {t} {e} {ts = behind} is s b) low ends =
      let free = right_tight 15 (tabled rest) (inr refl) (subst (λ p. Ends p rest) (ranks.rank-SizeofExpr e) ends) in
      let one = spells_tight s b in
      let two = complete unary_rank e behind rest s b (omega (arith, measure.measure-SizeofExpr max e)) (omega arith) in
      rw (is, one, two) refl
  begin_again kind ts rest (sizeof_type {t} {u} {v} {ty} {ts = behind} is a b close) low ends =
      let one = it_fits (want.Mark m.LeftParen) u.kind a in
      let two = names_start b in
      let three = type_again ty v behind rest b close (omega (arith, measure.measure-SizeofType max ty)) in
      rw (is, one, two, expect_found (want.Mark m.LeftParen) u behind a, three, expect_found (want.Mark m.RightParen) v rest close) refl

  -- ---- what goes on with an expression
  by_joint : (x : TokenKind) (e : Expr) (j : Joint) (ts : Tokens) → joint x ≡ Some j → r.go_on_by rec e x ts ≡ r.joined rec e (Some j) ts
  by_joint (Mark m.Question) e j ts is = cc
  by_joint (Mark m.LeftParen) e j ts is = cc
  by_joint (Mark m.LeftBracket) e j ts is = cc
  by_joint (Mark m.Dot) e j ts is = cc
  by_joint (Mark m.Arrow) e j ts is = cc
  by_joint (Mark m.PlusPlus) e j ts is = cc
  by_joint (Mark m.MinusMinus) e j ts is = cc
  by_joint x e j ts is = ap (λ o. r.joined rec e o ts) is

  joined_again : (e x : Expr) (j : Joint) (behind rest : Tokens) → Spells x behind rest → j.right ≤ rank x → expr_kind_measure max (j.make e x) ≤ suc d → Ends (rank_of (j.make e x)) rest
      → IsJoint (Some j) → r.joined rec e (Some j) behind ≡ Some (j.make e x, rest)
  unfolding r.joined
  joined_again e x j behind rest s c low ends (is_joint p right rank_is) =
      let a = complete j.right x behind rest s c (omega (arith, (rank_is e x).height)) (right _ _ (tabled rest) (subst (λ p. Ends p rest) (rank_is e x).rank ends)) in rw a refl

  go_on_again : (e : Expr) (kind : ExprKind) (ts rest : Tokens) → GoesOn e kind ts rest → expr_kind_measure max kind ≤ suc d → Ends (rank_of kind) rest → r.go_on rec e ts ≡ Some (kind, rest)
  unfolding r.go_on r.joined r.conditional r.call r.index r.member r.arrow
  go_on_again e kind ts rest (joined {r = x} {t} {j} {ts = behind} is b s c) low ends =
      by_joint t.kind e j behind is ∙ joined_again e x j behind rest s c low ends (subst IsJoint is (are_joints t.kind))
  go_on_again e kind ts rest (conditional {then = y} {other = n} {t} {u} {ts = behind} {mid} is b s colon z c) low ends =
      let high = measure.measure-Conditional max e y n in
      let one = enclosed m.Colon s colon (omega arith) (omega arith) in
      let two = complete conditional_rank n mid rest z c (omega arith) (right_same 3 (tabled rest) (inr refl) (subst (λ p. Ends p rest) (ranks.rank-Conditional e y n) ends)) in
      rw (is, one, expect_found (want.Mark m.Colon) u mid colon, two) refl
  go_on_again e kind ts rest (index {at} {t} {u} is b s close) low ends =
      let one = enclosed m.RightBracket s close (omega arith) (omega (arith, measure.measure-Index max e at)) in
      rw (is, one, expect_found (want.Mark m.RightBracket) u rest close) refl
  go_on_again e kind ts rest (call {args} {ts = behind} is b a) low ends =
      let one = arguments_again args behind rest a (omega (arith, measure.measure-Call max e args)) in rw (is, one) refl
  go_on_again e kind ts rest (member {n} {t} {u} is b a) low ends = let one = word_found u n rest a in rw (is, one) refl
  go_on_again e kind ts rest (arrow {n} {t} {u} is b a) low ends = let one = word_found u n rest a in rw (is, one) refl
  go_on_again e kind ts rest (increment is b) low ends = rw is refl
  go_on_again e kind ts rest (decrement is b) low ends = rw is refl

  -- ---- the loop. From its start the reader comes to the loop behind e, with enough turns left.
  record Climbs (least : ℕ) (e : Expr) (ts rest : Tokens) : Type 0 where
    turns : ℕ
    enough : suc d ≤ turns + expr_height e
    same : r.tree rec (suc d) least ts ≡ r.climb rec (suc d) least (line_at ts) turns e rest

  climb_turn : (turns least : ℕ) (e : Expr) (kind : ExprKind) (ts mid rest : Tokens) → Spells e ts mid → Goes e kind mid → r.go_on rec e mid ≡ Some (kind, rest)
      → least ≤ rank_of kind → expr_kind_measure max kind ≤ suc d → suc d ≤ turns + expr_height e → r.tree rec (suc d) least ts ≡ r.climb rec (suc d) least (line_at ts) turns e mid
      → Climbs least (node kind ts) ts rest
  unfolding r.climb r.grow
  climb_turn zero least e kind ts mid rest s g is b low long same = absurd (omega (arith, g.higher))
  climb_turn (suc turns) least e kind ts mid rest s g is b low long same = record {
    turns = turns;
    enough = omega (arith, g.higher);
    same = same ∙ (let t = le-leb least (r.reach mid) (omega (arith, g.reaches)) in let u = le-leb (r.need mid) (rank e) g.needs in
        let h = le-leb (expr_kind_measure max kind) (suc d) low in rw (t, u, is, h) refl);
  }

  spine : (least : ℕ) (e : Expr) (ts rest : Tokens) → Spells e ts rest → least ≤ rank e → expr_height e ≤ suc d → (r.reach rest < least) ⊎ (r.need rest ≤ rank e) → Climbs least e ts rest
  unfolding r.tree r.first
  spine least e ts rest (begun {kind} g) b low ends = record {
    turns = suc d;
    enough = omega arith;
    same = let a = begin_again kind ts rest g low (ends_up b ends) in let h = le-leb least (rank_of kind) b in rw (a, h) refl;
  }
  spine least e ts rest (gone_on {e = x} {kind} {others = mid} s g) b low ends =
      let t = goes_test x kind mid rest g in
      let up = tabled_up (tabled mid) in
      let c = spine least x ts mid s (omega (arith, t.reaches, t.needs, up)) (omega (arith, t.higher)) (inr t.needs) in
      climb_turn c.turns least x kind ts mid rest s t (go_on_again x kind mid rest g low (ends_up b ends)) b low c.enough c.same

  climb_stops : (turns least : ℕ) (line : ℕ) (e : Expr) (rest : Tokens) → r.reach rest < least → r.climb rec (suc d) least line turns e rest ≡ Some (e, rest)
  unfolding r.climb
  climb_stops zero least line e rest h = refl
  climb_stops (suc turns) least line e rest h = let t = lt-leb least (r.reach rest) h in rw t refl

  pub tree_again : (least : ℕ) (e : Expr) (ts rest : Tokens) → Spells e ts rest → least ≤ rank e → expr_height e ≤ suc d → r.reach rest < least
      → r.tree rec (suc d) least ts ≡ Some (e, rest)
  tree_again least e ts rest s b low ends = let c = spine least e ts rest s b low (inl ends) in c.same ∙ climb_stops c.turns least (line_at ts) e rest ends

-- What is spelled is read, where what comes next does not go on with it.
pub expr_again : (d least : ℕ) (e : Expr) (ts rest : Tokens) → Spells e ts rest → least ≤ rank e → expr_height e ≤ d → r.reach rest < least → r.expr d least ts ≡ Some (e, rest)
unfolding r.expr
expr_again zero least e ts rest s b low ends = absurd (omega (arith, spells_high s))
expr_again (suc d) least e ts rest s b low ends = tree_again (r.expr d) d (expr_again d) least e ts rest s b low ends

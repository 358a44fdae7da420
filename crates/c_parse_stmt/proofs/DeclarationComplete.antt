-- The declarations that stand there are read.
use Rattle.std.proofs.Common.{◌≡◌, ℕ, zero, suc, ◌+◌, ◌<◌, ◌≤◌, Bool, true, false, List, [], ◌∷◌, ◌++◌, max, length, Option, Some, refl, ap, ◌∙◌, append_assoc, arith}
use Rattle.c_lex.specs.declared.token.Token.{Token}
use Rattle.c_lex.specs.declared.token.TokenKind.TheVariants.{Word, Mark}
use Rattle.c_lex.specs.declared.token.Mark.{Mark as AMark}
use Rattle.c_lex.specs.declared.token.Mark.TheVariants as m
use Rattle.c_tree.specs.declared.qualified.Qual.{Qual}
use Rattle.c_tree.specs.declared.qualified.Spec.{Spec}
use Rattle.c_tree.specs.declared.expression.Expr.{Expr}
use Rattle.c_tree.specs.declared.declarations.TimeUnit.{TimeUnit}
use Rattle.c_tree.specs.declared.declarations.TimeUnit.TheVariants as unit
use Rattle.c_tree.specs.declared.declarations.Duration.{Duration}
use Rattle.c_tree.specs.declared.declarations.Declr.{Declr}
use Rattle.c_tree.specs.declared.declarations.Initial.{Initial}
use Rattle.c_tree.specs.declared.declarations.Initial.TheVariants as initial
use Rattle.c_tree.specs.declared.declarations.Init.{Init}
use Rattle.c_tree.specs.declared.declarations.Declaration.{Declaration}
use Rattle.c_tree.specs.Measure.{all, optional, expr_height, initial_measure, init_measure, declaration_measure}
use Rattle.c_tree.proofs.StatementMeasures as measure
use Rattle.c_parse_expr.specs.declared.wanted.Wanted.TheVariants as want
use Rattle.c_parse_expr.specs.Expected.{fits}
use Rattle.c_parse_expr.specs.Ranks.{assign_rank}
use Rattle.c_parse_expr.specs.TypeWords.{Tokens, line_at, SpellsStars}
use Rattle.c_parse_expr.specs.Grammar.{SpellsBounds}
use Rattle.c_parse_stmt.specs.Repeats.{SpellsCommas, last, further}
use Rattle.c_parse_stmt.specs.Declarations.{unit_text, Lasts, lasts, Declares, declares, SpellsInitial, valued, braced, SpellsInitials, last_item, last_comma, next_item, Initialises, without, with_value, SpellsInit, inits, SpellsDeclaration, declaring}
use Rattle.c_parse_expr.specs.Steps.{Parser, mark_next}
use Rattle.c_parse_expr.specs.Reading as e
use Rattle.c_parse_expr.specs.TypeReading as types
use Rattle.c_parse_stmt.specs.DeclarationReading as r
use Rattle.c_parse_expr.proofs.Fitting.{it_fits}
use Rattle.c_parse_stmt.proofs.Repeated.{commas_again, commas_shorter, more_commas_none, more_commas_some}
use Rattle.c_parse_expr.proofs.TypeComplete.{spec_shorter, stars_shorter, spec_again, Untyped, Unqualified, stars_untyped, all_stars_again}
use Rattle.c_parse_expr.proofs.Complete.{spells_shorter, bounds_shorter, spells_high, spells_start, lacks, closes, another_mark, expr_again, all_bounds_again}
use Rattle.c_parse_expr.proofs.AfterSteps.{expect_found, take_found, Lacks, take_lacking, other_token, word_found}

-- ---- durations

unit_again : (x : TimeUnit) (ts : Tokens) → r.unit_by_text (unit_text x) ts ≡ Some (x, ts)
unit_again unit.Milliseconds ts = refl
unit_again unit.Seconds ts = refl
unit_again unit.Minutes ts = refl

pub duration_again : (x : Duration) (ts rest : Tokens) → Lasts x ts rest → r.duration ts ≡ Some (x, rest)
unfolding r.duration r.duration_rest r.time_unit
duration_again x ts rest (lasts {u} {x = y} is a) = rw (is, word_found u (unit_text y) rest a, unit_again y rest) refl

pub lasts_shorter : {x : Duration} {ts rest : Tokens} → Lasts x ts rest → length rest < length ts
lasts_shorter (lasts is a) = omega arith

-- ---- each part takes a token

mutual
  values_shorter : {i : Initial} {ts rest : Tokens} → SpellsInitial i ts rest → length rest < length ts
  values_shorter (valued s b) = omega (arith, spells_shorter s)
  values_shorter (braced is l close) = omega (arith, lists_shorter l)

  lists_shorter : {is : List Initial} {comma : Bool} {ts rest : Tokens} → SpellsInitials is comma ts rest → length rest + length is ≤ length ts
  lists_shorter (last_item v) = omega (arith, values_shorter v)
  lists_shorter (last_comma v is) = omega (arith, values_shorter v)
  lists_shorter (next_item v is l) = omega (arith, values_shorter v, lists_shorter l)

pub declares_shorter : {x : Declr} {ts rest : Tokens} → Declares x ts rest → length rest < length ts
declares_shorter (declares a is b) = omega (arith, stars_shorter a, bounds_shorter b)

initialised_shorter : {i : Option Initial} {ts rest : Tokens} → Initialises i ts rest → length rest ≤ length ts
initialised_shorter without = omega arith
initialised_shorter (with_value is v) = omega (arith, values_shorter v)

pub inits_shorter : (i : Init) (ts rest : Tokens) → SpellsInit i ts rest → length rest < length ts
inits_shorter i ts rest (inits a b) = omega (arith, declares_shorter a, initialised_shorter b)

pub declaring_shorter : {x : Declaration} {ts rest : Tokens} → SpellsDeclaration x ts rest → length rest < length ts
declaring_shorter (declaring a b is) = omega (arith, spec_shorter a, commas_shorter inits_shorter b)

-- ---- initialisers

values_high : {i : Initial} {ts rest : Tokens} → SpellsInitial i ts rest → 0 < initial_measure max i
values_high (valued {e} s b) = omega (arith, spells_high s, measure.measure-initial-Assign max e)
values_high (braced {t} {is} {comma} a l close) = omega (arith, measure.measure-initial-List max is comma t.line)

pub start_open : (x : AMark) (ts : Tokens) → Lacks (want.Mark x) ts → mark_next x ts ≡ false
start_open x [] h = refl
start_open x (t ∷ ts) h = h

values_start : {i : Initial} {ts rest : Tokens} → SpellsInitial i ts rest → mark_next m.RightBrace ts ≡ false
values_start (valued {ts} s b) = start_open m.RightBrace ts (lacks m.RightBrace ts (spells_start s) refl)
values_start (braced {t} a l close) = another_mark m.RightBrace m.LeftBrace t a (λ x. cc)

lists_start : {is : List Initial} {comma : Bool} {ts rest : Tokens} → SpellsInitials is comma ts rest → mark_next m.RightBrace ts ≡ false
lists_start (last_item v) = values_start v
lists_start (last_comma v is) = values_start v
lists_start (next_item v is l) = values_start v

fits_brace : (u : Token) → u.kind ≡ Mark m.RightBrace → fits (want.Mark m.RightBrace) u.kind ≡ true
fits_brace u is = it_fits (want.Mark m.RightBrace) u.kind is

module _ (one : Parser Initial) (d : ℕ)
    (again : (i : Initial) (ts rest : Tokens) → SpellsInitial i ts rest → initial_measure max i ≤ d → e.reach rest < 2 → one ts ≡ Some (i, rest)) where
  items_again : (n : ℕ) (found is : List Initial) (comma : Bool) (u : Token) (ts rest : Tokens) → SpellsInitials is comma ts (u ∷ rest) → u.kind ≡ Mark m.RightBrace → length is ≤ n
      → all max (initial_measure max) is ≤ d → r.items one n found ts ≡ Some ((found ++ is, comma), u ∷ rest)
  unfolding r.items
  items_again zero found is comma u ts rest (last_item v) close long low = absurd (omega arith)
  items_again zero found is comma u ts rest (last_comma v a) close long low = absurd (omega arith)
  items_again zero found is comma u ts rest (next_item v a l) close long low = absurd (omega arith)
  items_again (suc n) found is comma u ts rest (last_item {i} v) close long low =
      let x = again i ts (u ∷ rest) v (omega arith) (closes m.RightBrace u rest close 2 (omega arith)) in
      let y : Lacks (want.Mark m.Comma) (u ∷ rest) = another_mark m.Comma m.RightBrace u close (λ z. cc) in
      rw (x, take_lacking (want.Mark m.Comma) (u ∷ rest) y) refl
  items_again (suc n) found is comma u ts rest (last_comma {i} {t} v a) close long low =
      let x = again i ts (t ∷ u ∷ rest) v (omega arith) (closes m.Comma t (u ∷ rest) a 2 (omega arith)) in
      let y = fits_brace u close in
      rw (x, take_found (want.Mark m.Comma) t (u ∷ rest) a, y) refl
  items_again (suc n) found is comma u ts rest (next_item {i} {is = behind} {t} {others} v a l) close long low =
      let x = again i ts (t ∷ others) v (omega arith) (closes m.Comma t others a 2 (omega arith)) in
      let y = lists_start l in
      rw (x, take_found (want.Mark m.Comma) t others a, y)
      (items_again n (found ++ i ∷ []) behind comma u others rest l close (omega arith) (omega arith) ∙ ap (λ z. Some ((z, comma), u ∷ rest)) (append_assoc found (i ∷ []) behind))

  list_again : (is : List Initial) (comma : Bool) (line : ℕ) (u : Token) (ts rest : Tokens) → SpellsInitials is comma ts (u ∷ rest) → u.kind ≡ Mark m.RightBrace
      → all max (initial_measure max) is ≤ d → r.brace_list one line ts ≡ Some (initial.List is comma line, rest)
  unfolding r.brace_list
  list_again is comma line u ts rest l close low =
      let x = items_again (length ts) [] is comma u ts rest l close (omega (arith, lists_shorter l)) low in rw (x, expect_found (want.Mark m.RightBrace) u rest close) refl

pub initialiser_again : (d : ℕ) (i : Initial) (ts rest : Tokens) → SpellsInitial i ts rest → initial_measure max i ≤ d → e.reach rest < 2 → r.initialiser d ts ≡ Some (i, rest)
unfolding r.initialiser r.valued
initialiser_again zero i ts rest v low ends = absurd (omega (arith, values_high v))
initialiser_again (suc d) i ts rest (valued {e = x} s b) low ends =
    let a = take_lacking (want.Mark m.LeftBrace) ts (lacks m.LeftBrace ts (spells_start s) refl) in
    let c = expr_again (suc d) assign_rank x ts rest s b (omega (arith, measure.measure-initial-Assign max x)) ends in rw (a, c) refl
initialiser_again (suc d) i ts rest (braced {t} {u} {is} {comma} {ts = behind} a l close) low ends =
    let x = take_found (want.Mark m.LeftBrace) t behind a in
    let y = list_again (r.initialiser d) d (initialiser_again d) is comma t.line u behind rest l close (omega (arith, measure.measure-initial-List max is comma t.line)) in rw (x, y) refl

-- ---- declarators

-- a declarator of a declaration may end here
pub record EndsInit (rest : Tokens) : Type 0 where
  pub bounds : Lacks (want.Mark m.LeftBracket) rest
  pub assign : Lacks (want.Mark m.Assign) rest
  pub reach : e.reach rest < 2

pub ends_init : (x : AMark) (t : Token) (rest : Tokens) → t.kind ≡ Mark x → (x ≡ m.LeftBracket → ⊥) → (x ≡ m.Assign → ⊥) → e.reach_of (Mark x) < 2 → EndsInit (t ∷ rest)
ends_init x t rest is a b c = record { bounds = another_mark m.LeftBracket x t is a; assign = another_mark m.Assign x t is b; reach = closes x t rest is 2 c }

word_unqualified : (t : Token) (n : List ℕ) (rest : Tokens) → t.kind ≡ Word n → Unqualified (t ∷ rest)
word_unqualified t n rest is = rw is refl

pub word_lacks : (x : AMark) (t : Token) (n : List ℕ) → t.kind ≡ Word n → fits (want.Mark x) t.kind ≡ false
word_lacks x t n is = other_token (want.Mark x) t (Word n) is (λ y. cc)

-- the stars before a name
pub stars_before : (stars : List (List Qual)) (t : Token) (n : List ℕ) (ts mid : Tokens) → SpellsStars stars ts (t ∷ mid) → t.kind ≡ Word n → types.all_stars ts ≡ Some (stars, t ∷ mid)
stars_before stars t n ts mid a is = all_stars_again stars ts (t ∷ mid) a (word_unqualified t n mid is) (word_lacks m.Star t n is)

pub untyped_word : (t : Token) (n : List ℕ) (rest : Tokens) → t.kind ≡ Word n → Untyped (t ∷ rest)
untyped_word t n rest is = rw is refl

pub declares_untyped : {x : Declr} {ts rest : Tokens} → Declares x ts rest → Untyped ts
declares_untyped (declares {n} {t} {mid} a is b) = stars_untyped a (untyped_word t n mid is)

inits_untyped : {i : Init} {ts rest : Tokens} → SpellsInit i ts rest → Untyped ts
inits_untyped (inits a b) = declares_untyped a

pub commas_untyped : {is : List Init} {ts rest : Tokens} → SpellsCommas SpellsInit is ts rest → Untyped ts
commas_untyped (last a) = inits_untyped a
commas_untyped (further a is b) = inits_untyped a

-- the first of one or more declarators, and what follows it
pub data Behind (i : Init) : List Init → Tokens → Tokens → Tokens → Type 0 where
  alone : {ts rest : Tokens} → Behind i [] ts rest rest
  followed : {is : List Init} {t : Token} {ts others rest : Tokens} → t.kind ≡ Mark m.Comma → SpellsCommas SpellsInit is others rest → Behind i is ts (t ∷ others) rest

pub behind_ends : {i : Init} {is : List Init} {u : Token} {ts behind rest : Tokens} → Behind i is ts behind (u ∷ rest) → u.kind ≡ Mark m.Semicolon → EndsInit behind
behind_ends {u} {rest} alone close = ends_init m.Semicolon u rest close (λ z. cc) (λ z. cc) (omega arith)
behind_ends (followed {t} {others} comma b) close = ends_init m.Comma t others comma (λ z. cc) (λ z. cc) (omega arith)

moved : {i : Init} {is : List Init} {ts other behind rest : Tokens} → Behind i is ts behind rest → Behind i is other behind rest
moved alone = alone
moved (followed comma b) = followed comma b

module _ (d : ℕ) where
  initialised_again : (i : Option Initial) (ts rest : Tokens) → Initialises i ts rest → optional (initial_measure max) i ≤ d → EndsInit rest → r.initialised d ts ≡ Some (i, rest)
  unfolding r.initialised
  initialised_again i ts rest without low ends = rw (take_lacking (want.Mark m.Assign) rest ends.assign) refl
  initialised_again i ts rest (with_value {i = x} {t} {ts = behind} is v) low ends =
      let a = take_found (want.Mark m.Assign) t behind is in let b = initialiser_again d x behind rest v low ends.reach in rw (a, b) refl

  initialised_lacks : {i : Option Initial} {ts rest : Tokens} → Initialises i ts rest → EndsInit rest → Lacks (want.Mark m.LeftBracket) ts
  initialised_lacks without ends = ends.bounds
  initialised_lacks (with_value {t} is v) ends = another_mark m.LeftBracket m.Assign t is (λ z. cc)

  -- behind the name
  pub init_rest_again : (line : ℕ) (stars : List (List Qual)) (n : List ℕ) (bounds : List Expr) (i : Option Initial) (ts mid rest : Tokens) → SpellsBounds bounds ts mid → Initialises i mid rest
      → all max expr_height bounds ≤ d → optional (initial_measure max) i ≤ d → EndsInit rest
      → r.init_rest d line stars n ts ≡ Some (record { declr = record { stars = stars; name = n; bounds = bounds }; initial = i; line = line }, rest)
  unfolding r.init_rest
  init_rest_again line stars n bounds i ts mid rest a b low high ends =
      let x = all_bounds_again (e.expr d) d (expr_again d) bounds ts mid a low (initialised_lacks b ends) in
      let y = initialised_again i mid rest b high ends in rw (x, y) refl

  pub init_again : (i : Init) (ts rest : Tokens) → SpellsInit i ts rest → init_measure max i ≤ suc d → EndsInit rest → r.init d ts ≡ Some (i, rest)
  unfolding r.init r.init_at
  init_again i ts rest (inits {i = value} {mid = after} (declares {stars} {n} {bounds} {t} {mid} a is b) c) low ends =
      let x = stars_before stars t n ts mid a is in
      let z = init_rest_again (line_at ts) stars n bounds value mid after rest b c (omega arith) (omega arith) ends in
      rw (x, word_found t n mid is, z) refl

  -- behind the first declarator
  pub after_first_again : (s : Spec) (i : Init) (is : List Init) (u : Token) (ts behind rest : Tokens) → Behind i is ts behind (u ∷ rest) → u.kind ≡ Mark m.Semicolon
      → all max (init_measure max) is ≤ suc d → r.after_first d s i behind ≡ Some (record { spec = s; inits = i ∷ is }, rest)
  unfolding r.after_first
  after_first_again s i is u ts behind rest (alone) close low =
      let x : Lacks (want.Mark m.Comma) (u ∷ rest) = another_mark m.Comma m.Semicolon u close (λ z. cc) in
      rw (more_commas_none (r.init d) i (u ∷ rest) x, expect_found (want.Mark m.Semicolon) u rest close) refl
  after_first_again s i is u ts behind rest (followed {t} {others} comma b) close low =
      let x : Lacks (want.Mark m.Comma) (u ∷ rest) = another_mark m.Comma m.Semicolon u close (λ z. cc) in
      let y = commas_again (r.init d) SpellsInit (init_measure max) (suc d) EndsInit inits_shorter init_again
      (λ t rest is. ends_init m.Comma t rest is (λ z. cc) (λ z. cc) (omega arith)) is others (u ∷ rest) b low
      (ends_init m.Semicolon u rest close (λ z. cc) (λ z. cc) (omega arith)) x in
      rw (more_commas_some (r.init d) i is t others (u ∷ rest) comma y, expect_found (want.Mark m.Semicolon) u rest close) refl

  -- behind the base type, the stars and the name of the first
  pub declaration_rest_again : (s : Spec) (line : ℕ) (stars : List (List Qual)) (n : List ℕ) (bounds : List Expr) (i : Option Initial) (is : List Init) (u : Token)
      (ts mid behind rest : Tokens) → SpellsBounds bounds ts mid → Initialises i mid behind
      → Behind (record { declr = record { stars = stars; name = n; bounds = bounds }; initial = i; line = line }) is ts behind (u ∷ rest) → u.kind ≡ Mark m.Semicolon
      → all max expr_height bounds ≤ d → optional (initial_measure max) i ≤ d → all max (init_measure max) is ≤ suc d
      → r.declaration_rest d s line stars n ts
      ≡ Some (record { spec = s; inits = record { declr = record { stars = stars; name = n; bounds = bounds }; initial = i; line = line } ∷ is }, rest)
  unfolding r.declaration_rest
  declaration_rest_again s line stars n bounds i is u ts mid behind rest a b c close low high all_low =
      let x = init_rest_again line stars n bounds i ts mid behind a b low high (behind_ends c close) in
      let first : Init = record { declr = record { stars = stars; name = n; bounds = bounds }; initial = i; line = line } in
      let y = after_first_again s first is u ts behind rest c close all_low in rw x y

  declared_at_again : (s : Spec) (i : Init) (is : List Init) (u : Token) (ts behind rest : Tokens) → SpellsInit i ts behind → Behind i is ts behind (u ∷ rest)
      → u.kind ≡ Mark m.Semicolon → init_measure max i ≤ suc d → all max (init_measure max) is ≤ suc d → r.declared_at d s (line_at ts) ts ≡ Some (record { spec = s; inits = i ∷ is }, rest)
  unfolding r.declared_at
  declared_at_again s i is u ts behind rest (inits {i = value} {mid = after} (declares {stars} {n} {bounds} {t} {mid} a word_is b) c) x close low all_low =
      let one = stars_before stars t n ts mid a word_is in
      let two = declaration_rest_again s (line_at ts) stars n bounds value is u mid after behind rest b c (moved x) close (omega arith) (omega arith) all_low in
      rw (one, word_found t n mid word_is, two) refl

  declared_all : (s : Spec) (is : List Init) (u : Token) (ts rest : Tokens) → SpellsCommas SpellsInit is ts (u ∷ rest) → u.kind ≡ Mark m.Semicolon → all max (init_measure max) is ≤ suc d
      → r.declared_at d s (line_at ts) ts ≡ Some (record { spec = s; inits = is }, rest)
  declared_all s is u ts rest (last {x} a) close low = declared_at_again s x [] u ts (u ∷ rest) rest a alone close (omega arith) (omega arith)
  declared_all s is u ts rest (further {x} {xs} {t} {others} a comma b) close low =
      declared_at_again s x xs u ts (t ∷ others) rest a (followed comma b) close (omega arith) (omega arith)

commas_high : {is : List Init} {ts rest : Tokens} → SpellsCommas SpellsInit is ts rest → 0 < all max (init_measure max) is
commas_high (last a) = omega arith
commas_high (further a is b) = omega arith

pub declaration_again : (d : ℕ) (x : Declaration) (ts rest : Tokens) → SpellsDeclaration x ts rest → declaration_measure max x ≤ d → r.declaration d ts ≡ Some (x, rest)
unfolding r.declaration
declaration_again zero x ts rest (declaring a b is) low = absurd (omega (arith, commas_high b))
declaration_again (suc d) x ts rest (declaring {spec} {is = all_inits} {t} {mid} a b is) low =
    let one = spec_again spec ts mid a (commas_untyped b) in
    let two = declared_all d spec all_inits t mid rest b is low in rw (one, two) refl

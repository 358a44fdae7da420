-- The declarations that are read stand there.
use Rattle.std.proofs.Common.{◌≡◌, ℕ, zero, suc, ◌≤◌, Bool, true, false, List, [], ◌∷◌, ◌++◌, max, length, Option, Some, refl, sym, ap, ◌∙◌, append_assoc, subst, arith, codes, bytes_eq}
use Rattle.c_lex.specs.declared.token.Token.{Token}
use Rattle.c_lex.specs.declared.token.TokenKind.{TokenKind}
use Rattle.c_lex.specs.declared.token.TokenKind.TheVariants.{Word, Number, Mark}
use Rattle.c_lex.specs.declared.token.Mark.TheVariants as m
use Rattle.c_tree.specs.declared.qualified.Qual.{Qual}
use Rattle.c_tree.specs.declared.qualified.Spec.{Spec}
use Rattle.c_tree.specs.declared.expression.Expr.{Expr}
use Rattle.c_tree.specs.declared.declarations.TimeUnit.{TimeUnit}
use Rattle.c_tree.specs.declared.declarations.TimeUnit.TheVariants as unit
use Rattle.c_tree.specs.declared.declarations.Initial.{Initial}
use Rattle.c_tree.specs.declared.declarations.Initial.TheVariants as initial
use Rattle.c_tree.specs.declared.declarations.Init.{Init}
use Rattle.c_tree.specs.declared.declarations.Declaration.{Declaration}
use Rattle.c_tree.specs.Measure.{all, optional, initial_measure, init_measure, declaration_measure}
use Rattle.c_tree.proofs.StatementMeasures as measure
use Rattle.c_parse_expr.specs.declared.wanted.Wanted.TheVariants as want
use Rattle.c_parse_expr.specs.Ranks.{assign_rank}
use Rattle.c_parse_expr.specs.TypeWords.{Tokens, line_at, SpellsSpec, SpellsStars}
use Rattle.c_parse_stmt.specs.Repeats.{SpellsCommas}
use Rattle.c_parse_stmt.specs.Declarations.{unit_text, Lasts, lasts, declares, SpellsInitial, valued, braced, SpellsInitials, last_item, last_comma, next_item, Initialises, without, with_value, SpellsInit, inits, SpellsDeclaration, declaring}
use Rattle.c_parse_expr.specs.Steps.{Parser, mark_next}
use Rattle.c_parse_expr.specs.Reading as e
use Rattle.c_parse_stmt.specs.DeclarationReading as r
use Rattle.c_parse_stmt.proofs.Texts.{text_is}
use Rattle.c_parse_stmt.proofs.Repeated.{commas_weaken, commas_low, more_commas_sound}
use Rattle.c_parse_expr.proofs.TypeSound.{spec_sound, all_stars_sound}
use Rattle.c_parse_expr.proofs.Sound.{expr_sound, AllBounds, all_bounds_sound}
use Rattle.c_parse_expr.proofs.AfterSteps.{After, nothing, just, after_then, after_if, after_branch, weaken, Found, found_at, after_expect, Worded, worded, after_word}

-- ---- durations

data IsUnit (n : List ℕ) (ts : Tokens) : TimeUnit → Tokens → Type 0 where
  is_unit : {x : TimeUnit} → n ≡ unit_text x → IsUnit n ts x ts

unit_by_sound : (n : List ℕ) (ts : Tokens) → After (IsUnit n ts) (r.unit_by_text n ts)
unit_by_sound n ts = after_if (bytes_eq n (codes "ms")) (λ h. just (is_unit {x = unit.Milliseconds} (text_is n (codes "ms") h)))
    (λ _. after_if (bytes_eq n (codes "s")) (λ h. just (is_unit {x = unit.Seconds} (text_is n (codes "s") h)))
    (λ _. after_if (bytes_eq n (codes "min")) (λ h. just (is_unit {x = unit.Minutes} (text_is n (codes "min") h))) (λ _. nothing)))

data SpellsUnit : TimeUnit → Tokens → Tokens → Type 0 where
  timed : {x : TimeUnit} {t : Token} {rest : Tokens} → t.kind ≡ Word (unit_text x) → SpellsUnit x (t ∷ rest) rest

timed_made : {n : List ℕ} {x : TimeUnit} {ts mid rest : Tokens} → Worded n ts mid → IsUnit n mid x rest → SpellsUnit x ts rest
timed_made (worded is) (is_unit e) = timed (is ∙ ap Word e)

unit_sound : (ts : Tokens) → After (λ x rest. SpellsUnit x ts rest) (r.time_unit ts)
unfolding r.time_unit
unit_sound ts = after_then (after_word ts) (λ n mid a. weaken (unit_by_sound n mid) (λ x rest b. timed_made a b))

lasts_made : {t : Token} {n : ℕ} {decimal suffixed : Bool} {x : TimeUnit} {ts rest : Tokens} → t.kind ≡ Number n decimal suffixed → SpellsUnit x ts rest
    → Lasts (record { value = n; decimal = decimal; unsigned = suffixed; unit = x }) (t ∷ ts) rest
lasts_made is (timed a) = lasts is a

duration_rest_sound : (t : Token) (ts : Tokens) (n : ℕ) (a b : Bool) → t.kind ≡ Number n a b → After (λ x rest. Lasts x (t ∷ ts) rest) (r.duration_rest n a b ts)
unfolding r.duration_rest
duration_rest_sound t ts n a b is = after_then (unit_sound ts) (λ x rest u. just (lasts_made is u))

duration_by_sound : (t : Token) (ts : Tokens) (k : TokenKind) → t.kind ≡ k → After (λ x rest. Lasts x (t ∷ ts) rest) (r.duration_by k ts)
duration_by_sound t ts (Number n a b) is = duration_rest_sound t ts n a b is
duration_by_sound t ts _ is = nothing

pub duration_sound : (ts : Tokens) → After (λ x rest. Lasts x ts rest) (r.duration ts)
unfolding r.duration
duration_sound [] = nothing
duration_sound (t ∷ ts) = duration_by_sound t ts t.kind refl

-- ---- initialisers

pub record Valued (d : ℕ) (i : Initial) (ts rest : Tokens) : Type 0 where
  pub values : SpellsInitial i ts rest
  pub low : initial_measure max i ≤ d

module _ (one : Parser Initial) (d : ℕ) (sound : (ts : Tokens) → After (λ i rest. Valued d i ts rest) (one ts)) where
  record IsItems (found : List Initial) (ts : Tokens) (found_all : List Initial × Bool) (rest : Tokens) : Type 0 where
    is : List Initial
    same : found_all.0 ≡ found ++ is
    lists : SpellsInitials is found_all.1 ts rest
    low : all max (initial_measure max) is ≤ d

  items_last : {i : Initial} {found : List Initial} {ts mid : Tokens} → Valued d i ts mid → IsItems found ts (found ++ i ∷ [], false) mid
  items_last {i} a = record { is = i ∷ []; same = refl; lists = last_item a.values; low = omega (arith, a.low) }

  items_comma : {i : Initial} {found : List Initial} {ts mid rest : Tokens} → Valued d i ts mid → Found (want.Mark m.Comma) mid rest → IsItems found ts (found ++ i ∷ [], true) rest
  items_comma {i} a (found_at c) = record { is = i ∷ []; same = refl; lists = last_comma a.values c; low = omega (arith, a.low) }

  items_more : {i : Initial} {found : List Initial} {x : List Initial × Bool} {ts mid others rest : Tokens} → Valued d i ts mid → Found (want.Mark m.Comma) mid others
      → IsItems (found ++ i ∷ []) others x rest → IsItems found ts x rest
  items_more {i} {found} a (found_at c) l = record {
    is = i ∷ l.is;
    same = l.same ∙ append_assoc found (i ∷ []) l.is;
    lists = next_item a.values c l.lists;
    low = omega (arith, a.low, l.low);
  }

  items_sound : (n : ℕ) (found : List Initial) (ts : Tokens) → After (IsItems found ts) (r.items one n found ts)
  unfolding r.items
  items_sound zero found ts = nothing
  items_sound (suc n) found ts = after_then (sound ts) (λ i mid a. after_branch (want.Mark m.Comma) mid _ _
      (λ behind f. after_if (mark_next m.RightBrace behind) (λ h. just (items_comma a f))
      (λ h. weaken (items_sound n (found ++ i ∷ []) behind) (λ x rest l. items_more a f l)))
      (just (items_last a)))

  braced_made : {t : Token} {x : List Initial × Bool} {ts mid rest : Tokens} → t.kind ≡ Mark m.LeftBrace → IsItems [] ts x mid → Found (want.Mark m.RightBrace) mid rest
      → Valued (suc d) (initial.List x.0 x.1 t.line) (t ∷ ts) rest
  braced_made {t} {x} {ts} {mid} is a (found_at {t = u} {rest} c) = record {
    values = braced is (subst (λ z. SpellsInitials z x.1 ts (u ∷ rest)) (sym a.same) a.lists) c;
    low = let h = subst (λ z. all max (initial_measure max) z ≤ d) (sym a.same) a.low in omega (arith, h, measure.measure-initial-List max x.0 x.1 t.line);
  }

  pub list_sound : (t : Token) (ts : Tokens) → t.kind ≡ Mark m.LeftBrace → After (λ i rest. Valued (suc d) i (t ∷ ts) rest) (r.brace_list one t.line ts)
  unfolding r.brace_list
  list_sound t ts is = after_then (items_sound (length ts) [] ts) (λ x mid a. after_then (after_expect (want.Mark m.RightBrace) mid) (λ u rest c. just (braced_made is a c)))

value_sound : (d : ℕ) (ts : Tokens) → After (λ i rest. Valued (suc d) i ts rest) (r.valued (e.expr (suc d)) ts)
unfolding r.valued
value_sound d ts = after_then (expr_sound (suc d) assign_rank ts) (λ x rest s. just (record {
  values = valued s.spelled s.binds;
  low = omega (arith, s.low, measure.measure-initial-Assign max x);
}))

list_found : (d : ℕ) {ts behind : Tokens} → ((t : Token) (ts : Tokens) → t.kind ≡ Mark m.LeftBrace → After (λ i rest. Valued (suc d) i (t ∷ ts) rest) (r.brace_list (r.initialiser d) t.line ts))
    → Found (want.Mark m.LeftBrace) ts behind → After (λ i rest. Valued (suc d) i ts rest) (r.brace_list (r.initialiser d) (line_at ts) behind)
list_found d h (found_at {t} {rest} is) = h t rest is

pub initialiser_sound : (d : ℕ) (ts : Tokens) → After (λ i rest. Valued d i ts rest) (r.initialiser d ts)
unfolding r.initialiser
initialiser_sound zero ts = nothing
initialiser_sound (suc d) ts = after_branch (want.Mark m.LeftBrace) ts _ _
    (λ behind f. list_found d (list_sound (r.initialiser d) d (initialiser_sound d)) f) (value_sound d ts)

-- ---- declarators

pub record Made (d : ℕ) (i : Init) (ts rest : Tokens) : Type 0 where
  pub inits : SpellsInit i ts rest
  pub low : init_measure max i ≤ d

pub record Declared (d : ℕ) (x : Declaration) (ts rest : Tokens) : Type 0 where
  pub declaring : SpellsDeclaration x ts rest
  pub low : declaration_measure max x ≤ d

module _ (d : ℕ) where
  record IsInitialised (ts : Tokens) (i : Option Initial) (rest : Tokens) : Type 0 where
    initialised : Initialises i ts rest
    low : optional (initial_measure max) i ≤ d

  given_made : {i : Initial} {ts mid rest : Tokens} → Found (want.Mark m.Assign) ts mid → Valued d i mid rest → IsInitialised ts (Some i) rest
  given_made (found_at is) a = record { initialised = with_value is a.values; low = a.low }

  initialised_sound : (ts : Tokens) → After (IsInitialised ts) (r.initialised d ts)
  unfolding r.initialised
  initialised_sound ts = after_branch (want.Mark m.Assign) ts _ _
      (λ mid f. after_then (initialiser_sound d mid) (λ i rest a. just (given_made f a)))
      (just (record { initialised = without; low = omega arith }))

  -- the stars and the name of a declarator
  pub data Named (stars : List (List Qual)) (n : List ℕ) : Tokens → Tokens → Type 0 where
    named : {t : Token} {ts mid : Tokens} → SpellsStars stars ts (t ∷ mid) → t.kind ≡ Word n → Named stars n ts mid

  pub named_made : {stars : List (List Qual)} {n : List ℕ} {ts mid rest : Tokens} → SpellsStars stars ts mid → Worded n mid rest → Named stars n ts rest
  named_made a (worded is) = named a is

  init_made : {stars : List (List Qual)} {n : List ℕ} {es : List Expr} {i : Option Initial} {ts mid others rest : Tokens} → Named stars n ts mid
      → AllBounds (e.expr d) d (expr_sound d) mid es others → IsInitialised others i rest
      → Made (suc d) (record { declr = record { stars = stars; name = n; bounds = es }; initial = i; line = line_at ts }) ts rest
  init_made (named a is) b c = record { inits = inits (declares a is b.bounds) c.initialised; low = omega (arith, b.low, c.low) }

  init_rest_sound : (stars : List (List Qual)) (n : List ℕ) (ts mid : Tokens) → Named stars n ts mid → After (λ i rest. Made (suc d) i ts rest) (r.init_rest d (line_at ts) stars n mid)
  unfolding r.init_rest
  init_rest_sound stars n ts mid a = after_then (all_bounds_sound (e.expr d) d (expr_sound d) mid) (λ es others b. after_then (initialised_sound others) (λ i rest c.
      just (init_made a b c)))

  pub init_sound : (ts : Tokens) → After (λ i rest. Made (suc d) i ts rest) (r.init d ts)
  unfolding r.init r.init_at
  init_sound ts = after_then (all_stars_sound ts) (λ stars mid a. after_then (after_word mid) (λ n others b. init_rest_sound stars n ts others (named_made a b)))

  declaration_made : {s : Spec} {is : List Init} {ts mid others rest : Tokens} → SpellsSpec s ts mid → SpellsCommas (Made (suc d)) is mid others → Found (want.Mark m.Semicolon) others rest
      → Declared (suc d) (record { spec = s; inits = is }) ts rest
  declaration_made a b (found_at is) = record {
    declaring = declaring a (commas_weaken (λ i ts rest x. x.inits) b) is;
    low = commas_low (init_measure max) (suc d) (λ i ts rest x. x.low) b;
  }

  pub declaration_rest_sound : (s : Spec) (stars : List (List Qual)) (n : List ℕ) (ts mid others : Tokens) → SpellsSpec s ts mid → Named stars n mid others
      → After (λ x rest. Declared (suc d) x ts rest) (r.declaration_rest d s (line_at mid) stars n others)
  unfolding r.declaration_rest r.after_first
  declaration_rest_sound s stars n ts mid others a b = after_then (init_rest_sound stars n mid others b) (λ first behind c.
      after_then (more_commas_sound (r.init d) (Made (suc d)) init_sound first mid behind c) (λ is at f.
      after_then (after_expect (want.Mark m.Semicolon) at) (λ u rest g. just (declaration_made a f g))))

  declared_at_sound : (s : Spec) (ts mid : Tokens) → SpellsSpec s ts mid → After (λ x rest. Declared (suc d) x ts rest) (r.declared_at d s (line_at mid) mid)
  unfolding r.declared_at
  declared_at_sound s ts mid a = after_then (all_stars_sound mid) (λ stars others b. after_then (after_word others) (λ n behind c.
      declaration_rest_sound s stars n ts mid behind a (named_made b c)))

pub declaration_sound : (d : ℕ) (ts : Tokens) → After (λ x rest. Declared d x ts rest) (r.declaration d ts)
unfolding r.declaration
declaration_sound zero ts = nothing
declaration_sound (suc d) ts = after_then (spec_sound ts) (λ s mid a. declared_at_sound d s ts mid a)

-- The statements that stand there are read.
use Rattle.std.proofs.Common.{◌≡◌, ℕ, zero, suc, ◌<◌, ◌≤◌, Bool, true, false, List, [], ◌∷◌, max, length, Option, Some, None, refl, ap, ◌∙◌, arith, codes}
use Rattle.std.proofs.lemmas.Bool.{le-leb}
use Rattle.c_lex.specs.declared.token.Token.{Token}
use Rattle.c_lex.specs.declared.token.TokenKind.{TokenKind}
use Rattle.c_lex.specs.declared.token.TokenKind.TheVariants.{Word, Keyword, Mark, Note}
use Rattle.c_lex.specs.declared.token.Keyword.TheVariants as w
use Rattle.c_lex.specs.declared.token.Mark.{Mark as AMark}
use Rattle.c_lex.specs.declared.token.Mark.TheVariants as m
use Rattle.c_lex.specs.declared.token.Note.TheVariants as note
use Rattle.c_tree.specs.declared.expression.Expr.{Expr}
use Rattle.c_tree.specs.declared.declarations.Duration.{Duration}
use Rattle.c_tree.specs.declared.declarations.Declaration.{Declaration}
use Rattle.c_tree.specs.declared.statements.Tname.{Tname}
use Rattle.c_tree.specs.declared.statements.Label.{Label}
use Rattle.c_tree.specs.declared.statements.First.{First}
use Rattle.c_tree.specs.declared.statements.Statement.{Statement}
use Rattle.c_tree.specs.declared.statements.StatementKind.{StatementKind}
use Rattle.c_tree.specs.declared.statements.StatementKind.TheVariants as k
use Rattle.c_tree.specs.declared.statements.BlockItem.{BlockItem}
use Rattle.c_tree.specs.declared.statements.Compound.{Compound}
use Rattle.c_tree.specs.declared.statements.Group.{Group}
use Rattle.c_tree.specs.Measure.{all, optional, expr_height, tname_measure, label_measure, first_measure, statement_measure, statement_kind_measure, block_item_measure, compound_measure, group_measure}
use Rattle.c_tree.proofs.StatementMeasures as measure
use Rattle.c_parse_expr.specs.declared.wanted.Wanted.TheVariants as want
use Rattle.c_parse_expr.specs.Ranks.{assign_rank, conditional_rank, unary_rank, rank}
use Rattle.c_parse_expr.specs.TypeWords.{Tokens}
use Rattle.c_parse_expr.specs.Grammar.{Spells}
use Rattle.c_parse_stmt.specs.Repeats.{SpellsCommas, SpellsMany, no_more, one_more}
use Rattle.c_parse_stmt.specs.Declarations.{SpellsDeclaration, declaring}
use Rattle.c_parse_stmt.specs.Statements.{compound, NoElse, SpellsOptional, absent, given, SpellsTest, tested, NamesTimed, plain, indexed, Labels, case_of, default, SpellsFirst, by_expr, by_declaration, States, states, Forms, a_compound, expression, if_alone, if_else, while_do, do_while, for_do, switch_on, break_out, continue_on, return_with, stamped, timely_alone, timely_else, expires, SpellsLimit, timed, Composes, composes, SpellsItems, no_item, an_item, IsItem, a_declaration, a_statement, SpellsGroups, no_group, a_group, IsGroup, is_group, RunsOn, no_statement, next_statement}
use Rattle.c_parse_expr.specs.Steps.{Parser, take_if, mark_next}
use Rattle.c_parse_expr.specs.TypeReading.{names_type}
use Rattle.c_parse_expr.specs.Reading as e
use Rattle.c_parse_stmt.specs.Repeats as lists
use Rattle.c_parse_stmt.specs.DeclarationReading as decl
use Rattle.c_parse_stmt.specs.StatementReading as r
use Rattle.c_parse_expr.proofs.Fitting.{it_fits, fits_not}
use Rattle.c_parse_expr.proofs.RankOf.{rank_high}
use Rattle.c_parse_stmt.proofs.Repeated.{commas_again, commas_shorter, Apart, at_end, apart, Anywhere, many_apart, many_again, many_shorter}
use Rattle.c_parse_expr.proofs.TypeComplete.{spec_start}
use Rattle.c_parse_expr.proofs.Complete.{starts, Starts, spells_start, starts_untyped, spells_shorter, lacks, closes, another_mark, expr_again}
use Rattle.c_parse_stmt.proofs.DeclarationComplete.{duration_again, lasts_shorter, declaring_shorter, declaration_again, start_open}
use Rattle.c_parse_stmt.proofs.StatementSound.{compound_high, group_high}
use Rattle.c_parse_expr.proofs.AfterSteps.{expect_found, take_found, Lacks, take_lacking, other_token, word_found}

-- ---- each part takes a token

given_shorter : {v : Option Expr} {ts rest : Tokens} → SpellsOptional v ts rest → length rest ≤ length ts
given_shorter absent = omega arith
given_shorter (given s) = omega (arith, spells_shorter s)

tested_shorter : {v : Expr} {ts rest : Tokens} → SpellsTest v ts rest → length rest < length ts
tested_shorter (tested a s b) = omega (arith, spells_shorter s)

names_shorter : (x : Tname) (ts rest : Tokens) → NamesTimed x ts rest → length rest < length ts
names_shorter x ts rest (plain is) = omega arith
names_shorter x ts rest (indexed is a s h b) = omega (arith, spells_shorter s)

labelled_shorter : (x : Label) (ts rest : Tokens) → Labels x ts rest → length rest < length ts
labelled_shorter x ts rest (case_of is s h b) = omega (arith, spells_shorter s)
labelled_shorter x ts rest (default is b) = omega arith

firsts_shorter : {x : First} {ts rest : Tokens} → SpellsFirst x ts rest → length rest ≤ length ts
firsts_shorter (by_expr g is) = omega (arith, given_shorter g)
firsts_shorter (by_declaration a) = omega (arith, declaring_shorter a)

timed_shorter : {v : Expr} {limit : Duration} {ts rest : Tokens} → SpellsLimit v limit ts rest → length rest < length ts
timed_shorter (timed a s h b l c) = omega (arith, spells_shorter s, lasts_shorter l)

mutual
  pub states_shorter : {b c : Bool} {y : Statement} {ts rest : Tokens} → States b c y ts rest → length rest < length ts
  states_shorter (states f) = forms_shorter f

  forms_shorter : {b c : Bool} {kind : StatementKind} {ts rest : Tokens} → Forms b c kind ts rest → length rest < length ts
  forms_shorter (a_compound x) = omega (arith, composes_shorter x)
  forms_shorter (expression g is) = omega (arith, given_shorter g)
  forms_shorter (if_alone is t y h) = omega (arith, tested_shorter t, states_shorter y)
  forms_shorter (if_else is t y f n) = omega (arith, tested_shorter t, states_shorter y, states_shorter n)
  forms_shorter (while_do is t y) = omega (arith, tested_shorter t, states_shorter y)
  forms_shorter (do_while is y f t g) = omega (arith, tested_shorter t, states_shorter y)
  forms_shorter (for_do is f x g h i j y) = omega (arith, firsts_shorter x, given_shorter g, given_shorter i, states_shorter y)
  forms_shorter (switch_on is t f g h) = omega (arith, tested_shorter t, groups_shorter g)
  forms_shorter (break_out is f) = omega arith
  forms_shorter (continue_on is f) = omega arith
  forms_shorter (return_with is g f) = omega (arith, given_shorter g)
  forms_shorter (stamped s h f z i g) = omega (arith, spells_shorter s, spells_shorter z)
  forms_shorter (timely_alone is t y h) = omega (arith, timed_shorter t, states_shorter y)
  forms_shorter (timely_else is t y f n) = omega (arith, timed_shorter t, states_shorter y, states_shorter n)
  forms_shorter (expires is f l g x h y) = omega (arith, commas_shorter names_shorter l, composes_shorter x, composes_shorter y)

  pub composes_shorter : {b c : Bool} {x : Compound} {ts rest : Tokens} → Composes b c x ts rest → length rest < length ts
  composes_shorter (composes is l close) = omega (arith, items_shorter l)

  items_shorter : {b c : Bool} {xs : List BlockItem} {ts rest : Tokens} → SpellsItems b c xs ts rest → length rest ≤ length ts
  items_shorter no_item = omega arith
  items_shorter (an_item x xs) = omega (arith, item_shorter x, items_shorter xs)

  item_shorter : {b c : Bool} {x : BlockItem} {ts rest : Tokens} → IsItem b c x ts rest → length rest < length ts
  item_shorter (a_declaration x) = omega (arith, declaring_shorter x)
  item_shorter (a_statement y) = omega (arith, states_shorter y)

  groups_shorter : {c : Bool} {gs : List Group} {ts rest : Tokens} → SpellsGroups c gs ts rest → length rest ≤ length ts
  groups_shorter no_group = omega arith
  groups_shorter (a_group g gs) = omega (arith, group_shorter g, groups_shorter gs)

  group_shorter : {c : Bool} {g : Group} {ts rest : Tokens} → IsGroup c g ts rest → length rest < length ts
  group_shorter (is_group l y ys) = omega (arith, many_shorter labelled_shorter l, states_shorter y, run_shorter ys)

  run_shorter : {c : Bool} {ys : List Statement} {ts rest : Tokens} → RunsOn c ys ts rest → length rest ≤ length ts
  run_shorter no_statement = omega arith
  run_shorter (next_statement y ys) = omega (arith, states_shorter y, run_shorter ys)

-- ---- what a statement begins with

abbrev opens : TokenKind → Bool
opens (Mark m.LeftBrace) = true
opens (Mark m.Semicolon) = true
opens (Keyword w.If) = true
opens (Keyword w.While) = true
opens (Keyword w.Do) = true
opens (Keyword w.For) = true
opens (Keyword w.Switch) = true
opens (Keyword w.Break) = true
opens (Keyword w.Continue) = true
opens (Keyword w.Return) = true
opens (Note note.Timely) = true
opens (Note note.Expires) = true
opens x = starts x

abbrev Opens : Tokens → Type 0
Opens [] = ⊥
Opens (t ∷ _) = opens t.kind ≡ true

kind_opens : (x : TokenKind) → starts x ≡ true → opens x ≡ true
kind_opens (Mark m.LeftBrace) h = refl
kind_opens (Mark m.Semicolon) h = refl
kind_opens (Keyword w.If) h = refl
kind_opens (Keyword w.While) h = refl
kind_opens (Keyword w.Do) h = refl
kind_opens (Keyword w.For) h = refl
kind_opens (Keyword w.Switch) h = refl
kind_opens (Keyword w.Break) h = refl
kind_opens (Keyword w.Continue) h = refl
kind_opens (Keyword w.Return) h = refl
kind_opens (Note note.Timely) h = refl
kind_opens (Note note.Expires) h = refl
kind_opens x h = h

starts_open : (ts : Tokens) → Starts ts → Opens ts
starts_open [] h = absurd h
starts_open (t ∷ ts) h = kind_opens t.kind h

given_open : {v : Option Expr} {t : Token} {ts rest : Tokens} → SpellsOptional v ts (t ∷ rest) → t.kind ≡ Mark m.Semicolon → Opens ts
given_open absent is = rw is refl
given_open (given {ts} s) is = starts_open ts (spells_start s)

composes_open : {b c : Bool} {x : Compound} {ts rest : Tokens} → Composes b c x ts rest → Opens ts
composes_open (composes is l close) = rw is refl

forms_open : {b c : Bool} {kind : StatementKind} {ts rest : Tokens} → Forms b c kind ts rest → Opens ts
forms_open (a_compound x) = composes_open x
forms_open (expression g is) = given_open g is
forms_open (if_alone is t y h) = rw is refl
forms_open (if_else is t y f n) = rw is refl
forms_open (while_do is t y) = rw is refl
forms_open (do_while is y f t g) = rw is refl
forms_open (for_do is f x g h i j y) = rw is refl
forms_open (switch_on is t f g h) = rw is refl
forms_open (break_out is f) = rw is refl
forms_open (continue_on is f) = rw is refl
forms_open (return_with is g f) = rw is refl
forms_open (stamped {ts} s h f z i g) = starts_open ts (spells_start s)
forms_open (timely_alone is t y h) = rw is refl
forms_open (timely_else is t y f n) = rw is refl
forms_open (expires is f l g x h y) = rw is refl

states_open : {b c : Bool} {y : Statement} {ts rest : Tokens} → States b c y ts rest → Opens ts
states_open (states f) = forms_open f

kind_untyped : (x : TokenKind) → opens x ≡ true → names_type x ≡ false
kind_untyped (Keyword w.Const) h = cc
kind_untyped (Keyword w.Volatile) h = cc
kind_untyped (Keyword w.Void) h = cc
kind_untyped (Keyword w.Char) h = cc
kind_untyped (Keyword w.Struct) h = cc
kind_untyped (Keyword w.Int) h = cc
kind_untyped (Keyword w.Signed) h = cc
kind_untyped (Keyword w.Unsigned) h = cc
kind_untyped (Keyword w.Short) h = cc
kind_untyped _ h = refl

open_untyped : (ts : Tokens) → Opens ts → e.type_next ts ≡ false
open_untyped [] h = absurd h
open_untyped (t ∷ ts) h = kind_untyped t.kind h

open_unclosed : (ts : Tokens) → Opens ts → r.unclosed ts ≡ true
open_unclosed [] h = absurd h
open_unclosed (t ∷ ts) h = let a = fits_not (want.Mark m.RightBrace) t.kind (λ is. let x = ap opens is in cc) in rw a refl

kind_unlabelled : (x : TokenKind) → opens x ≡ true → r.is_label x ≡ false
kind_unlabelled (Keyword w.Case) h = cc
kind_unlabelled (Keyword w.Default) h = cc
kind_unlabelled _ h = refl

open_unlabelled : (ts : Tokens) → Opens ts → r.label_next ts ≡ false
open_unlabelled [] h = absurd h
open_unlabelled (t ∷ ts) h = kind_unlabelled t.kind h

open_runs : (ts : Tokens) → Opens ts → r.runs_on ts ≡ true
open_runs ts h = let a = open_unclosed ts h in let b = open_unlabelled ts h in rw (a, b) refl

pub type_unclosed : (ts : Tokens) → e.type_next ts ≡ true → r.unclosed ts ≡ true
type_unclosed [] h = cc
type_unclosed (t ∷ ts) h = let a = fits_not (want.Mark m.RightBrace) t.kind (λ is. let x = ap names_type is in cc) in rw a refl

declaring_start : {x : Declaration} {ts rest : Tokens} → SpellsDeclaration x ts rest → e.type_next ts ≡ true
declaring_start (declaring a b is) = spec_start a

item_unclosed : {b c : Bool} {x : BlockItem} {ts rest : Tokens} → IsItem b c x ts rest → r.unclosed ts ≡ true
item_unclosed (a_declaration {ts} x) = type_unclosed ts (declaring_start x)
item_unclosed (a_statement {ts} y) = open_unclosed ts (states_open y)

label_unclosed : {x : Label} {ts rest : Tokens} → Labels x ts rest → r.unclosed ts ≡ true
label_unclosed (case_of is s h b) = rw is refl
label_unclosed (default is b) = rw is refl

label_found : {x : Label} {ts rest : Tokens} → Labels x ts rest → r.label_next ts ≡ true
label_found (case_of is s h b) = rw is refl
label_found (default is b) = rw is refl

label_ends : {x : Label} {ts rest : Tokens} → Labels x ts rest → r.runs_on ts ≡ false
label_ends (case_of is s h b) = rw is refl
label_ends (default is b) = rw is refl

group_unclosed : {c : Bool} {g : Group} {ts rest : Tokens} → IsGroup c g ts rest → r.unclosed ts ≡ true
group_unclosed (is_group (one_more l ls) y ys) = label_unclosed l

group_ends : {c : Bool} {g : Group} {ts rest : Tokens} → IsGroup c g ts rest → r.runs_on ts ≡ false
group_ends (is_group (one_more l ls) y ys) = label_ends l

abbrev Ended : Tokens → Type 0
Ended ts = r.runs_on ts ≡ false

groups_end : {c : Bool} {gs : List Group} {ts rest : Tokens} → SpellsGroups c gs ts rest → Ended rest → Ended ts
groups_end no_group h = h
groups_end (a_group g gs) h = group_ends g

groups_apart : {c : Bool} {gs : List Group} {ts rest : Tokens} → SpellsGroups c gs ts rest → Ended rest → Apart (IsGroup c) Ended gs ts rest
groups_apart no_group h = at_end
groups_apart (a_group g gs) h = apart g (groups_end gs h) (groups_apart gs h)

items_apart : {b c : Bool} {xs : List BlockItem} {ts rest : Tokens} → SpellsItems b c xs ts rest → Apart (IsItem b c) Anywhere xs ts rest
items_apart no_item = at_end
items_apart (an_item x xs) = apart x tt (items_apart xs)

run_apart : {c : Bool} {ys : List Statement} {ts rest : Tokens} → RunsOn c ys ts rest → Apart (States true c) Anywhere ys ts rest
run_apart no_statement = at_end
run_apart (next_statement y ys) = apart y tt (run_apart ys)

pub brace_closes : (u : Token) (rest : Tokens) → u.kind ≡ Mark m.RightBrace → r.unclosed (u ∷ rest) ≡ false
brace_closes u rest is = let a = it_fits (want.Mark m.RightBrace) u.kind is in rw a refl

-- a compound does not begin with a semicolon
pub composes_unclosed : {b c : Bool} {x : Compound} {ts rest : Tokens} → Composes b c x ts rest → mark_next m.Semicolon ts ≡ false
composes_unclosed (composes {t} is l close) = another_mark m.Semicolon m.LeftBrace t is (λ z. cc)

brace_ends : (u : Token) (rest : Tokens) → u.kind ≡ Mark m.RightBrace → Ended (u ∷ rest)
brace_ends u rest is = let a = it_fits (want.Mark m.RightBrace) u.kind is in rw a refl

-- ---- small parts

catch_again : (t : Token) (rest : Tokens) → t.kind ≡ Word (codes "catch") → r.catch_word (t ∷ rest) ≡ Some (tt, rest)
unfolding r.catch_word
catch_again t rest is = rw (word_found t (codes "catch") rest is) refl

no_else : (ts : Tokens) → NoElse ts → take_if (want.Keyword w.Else) ts ≡ Some (false, ts)
unfolding take_if
no_else [] h = refl
no_else (t ∷ ts) h = rw h refl

-- `@=` does not go on with an expression
stamp_ends : (t : Token) (rest : Tokens) → t.kind ≡ Note note.StampedAssign → e.reach (t ∷ rest) < 1
unfolding e.reach
stamp_ends t rest is = rw is (omega arith)

abbrev Unbracketed : Tokens → Type 0
Unbracketed ts = Lacks (want.Mark m.LeftBracket) ts

module _ (d : ℕ) where
  -- an expression before a mark that closes it
  enclosed : (x : AMark) {v : Expr} {u : Token} {ts rest : Tokens} → Spells v ts (u ∷ rest) → u.kind ≡ Mark x → e.reach_of (Mark x) < 1 → expr_height v ≤ d
      → e.expr d 1 ts ≡ Some (v, u ∷ rest)
  enclosed x {v} {u} {ts} {rest} s is z h = expr_again d 1 v ts (u ∷ rest) s (rank_high v.kind) h (closes x u rest is 1 z)

  inside : (x : AMark) (n : ℕ) {v : Expr} {u : Token} {ts rest : Tokens} → Spells v ts (u ∷ rest) → u.kind ≡ Mark x → n ≤ rank v → e.reach_of (Mark x) < n → expr_height v ≤ d
      → e.expr d n ts ≡ Some (v, u ∷ rest)
  inside x n {v} {u} {ts} {rest} s is b z h = expr_again d n v ts (u ∷ rest) s b h (closes x u rest is n z)

  given_again : (x : AMark) (v : Option Expr) (u : Token) (ts rest : Tokens) → SpellsOptional v ts (u ∷ rest) → u.kind ≡ Mark x → starts (Mark x) ≡ false → e.reach_of (Mark x) < 1
      → optional expr_height v ≤ d → r.given d x ts ≡ Some (v, u ∷ rest)
  unfolding r.given r.some_expr
  given_again x v u ts rest absent is n z low = let a = it_fits (want.Mark x) u.kind is in rw a refl
  given_again x v u ts rest (given {e = y} s) is n z low =
      let a = start_open x ts (lacks x ts (spells_start s) n) in let b = enclosed x s is z low in rw (a, b) refl

  tested_again : (v : Expr) (ts rest : Tokens) → SpellsTest v ts rest → expr_height v ≤ d → r.tested d ts ≡ Some (v, rest)
  unfolding r.tested
  tested_again v ts rest (tested {t} {u} {ts = behind} a s b) low =
      let x = enclosed m.RightParen s b (omega arith) low in
      rw (expect_found (want.Mark m.LeftParen) t behind a, x, expect_found (want.Mark m.RightParen) u rest b) refl

  tname_again : (x : Tname) (ts rest : Tokens) → NamesTimed x ts rest → tname_measure max x ≤ d → Lacks (want.Mark m.LeftBracket) rest → r.tname d ts ≡ Some (x, rest)
  unfolding r.tname r.tname_index
  tname_again x ts rest (plain {n} {t} is) low ends = rw (word_found t n rest is, take_lacking (want.Mark m.LeftBracket) rest ends) refl
  tname_again x ts rest (indexed {n} {e = v} {t} {u} {v = z} {ts = behind} is a s h b) low ends =
      let y = inside m.RightBracket conditional_rank s b h (omega arith) low in
      rw (word_found t n (u ∷ behind) is, take_found (want.Mark m.LeftBracket) u behind a, y, expect_found (want.Mark m.RightBracket) z rest b) refl

  label_again : (x : Label) (ts rest : Tokens) → Labels x ts rest → label_measure max x ≤ d → Anywhere rest → r.a_label d ts ≡ Some (x, rest)
  unfolding r.a_label r.case_rest r.default_rest
  label_again x ts rest (case_of {t} {u} is s h b) low any =
      let y = inside m.Colon conditional_rank s b h (omega arith) low in rw (is, y, expect_found (want.Mark m.Colon) u rest b) refl
  label_again x ts rest (default {t} {u} is b) low any = rw (is, expect_found (want.Mark m.Colon) u rest b) refl

  given_untyped : {v : Option Expr} {t : Token} {ts rest : Tokens} → SpellsOptional v ts (t ∷ rest) → t.kind ≡ Mark m.Semicolon → e.type_next ts ≡ false
  given_untyped absent is = rw is refl
  given_untyped (given {ts} s) is = starts_untyped ts (spells_start s)

  first_again : (x : First) (ts rest : Tokens) → SpellsFirst x ts rest → first_measure max x ≤ d → r.for_first d ts ≡ Some (x, rest)
  unfolding r.for_first r.first_expr r.first_declaration
  first_again x ts rest (by_expr {e = v} {t} g is) low =
      let a = given_untyped g is in let b = given_again m.Semicolon v t ts rest g is refl (omega arith) low in
      rw (a, b, expect_found (want.Mark m.Semicolon) t rest is) refl
  first_again x ts rest (by_declaration {x = y} a) low =
      let b = declaring_start a in let c = declaration_again d y ts rest a low in rw (b, c) refl

  timed_again : (v : Expr) (limit : Duration) (ts rest : Tokens) → SpellsLimit v limit ts rest → expr_height v ≤ d → r.timed d ts ≡ Some ((v, limit), rest)
  unfolding r.timed
  timed_again v limit ts rest (timed {t} {u} {v = z} {ts = behind} {mid} a s h b l c) low =
      let x = inside m.Comma unary_rank s b h (omega arith) low in
      let y = duration_again limit mid (z ∷ rest) l in
      rw (expect_found (want.Mark m.LeftParen) t behind a, x, expect_found (want.Mark m.Comma) u mid b, y, expect_found (want.Mark m.RightParen) z rest c) refl

-- ---- the token that a statement begins with says which it is

module _ (d : ℕ) (stmt : Bool → Bool → Parser Statement)
    (again : (b c : Bool) (y : Statement) (ts rest : Tokens) → States b c y ts rest → statement_measure max y ≤ d → stmt b c ts ≡ Some (y, rest)) where
  by_start : (b c : Bool) (x : TokenKind) (ts behind : Tokens) → starts x ≡ true → r.form_by d stmt b c x ts behind ≡ r.expression d stmt ts
  by_start b c (Mark m.LeftBrace) ts behind h = cc
  by_start b c (Keyword w.If) ts behind h = cc
  by_start b c (Keyword w.While) ts behind h = cc
  by_start b c (Keyword w.Do) ts behind h = cc
  by_start b c (Keyword w.For) ts behind h = cc
  by_start b c (Keyword w.Switch) ts behind h = cc
  by_start b c (Keyword w.Break) ts behind h = cc
  by_start b c (Keyword w.Continue) ts behind h = cc
  by_start b c (Keyword w.Return) ts behind h = cc
  by_start b c (Note note.Timely) ts behind h = cc
  by_start b c (Note note.Expires) ts behind h = cc
  by_start b c _ ts behind h = refl

  by_semicolon : (b c : Bool) (x : TokenKind) (ts behind : Tokens) → x ≡ Mark m.Semicolon → r.form_by d stmt b c x ts behind ≡ r.expression d stmt ts
  by_semicolon b c x ts behind is = rw is refl

  form_expression : (b c : Bool) (ts : Tokens) → Starts ts → r.form d stmt b c ts ≡ r.expression d stmt ts
  unfolding r.form
  form_expression b c [] h = absurd h
  form_expression b c (t ∷ ts) h = by_start b c t.kind (t ∷ ts) ts h

  item_again : (b c : Bool) (x : BlockItem) (ts rest : Tokens) → IsItem b c x ts rest → block_item_measure max x ≤ d → Anywhere rest → r.an_item d stmt b c ts ≡ Some (x, rest)
  unfolding r.an_item r.item_declaration r.item_statement
  item_again b c x ts rest (a_declaration {x = y} a) low any =
      let h = declaring_start a in let z = declaration_again d y ts rest a (omega (arith, measure.measure-item-Declaration max y)) in rw (h, z) refl
  item_again b c x ts rest (a_statement {y} a) low any =
      let h = open_untyped ts (states_open a) in let z = again b c y ts rest a (omega (arith, measure.measure-item-Statement max y)) in rw (h, z) refl

  items_again : (b c : Bool) (items : List BlockItem) (u : Token) (ts rest : Tokens) → SpellsItems b c items ts (u ∷ rest) → u.kind ≡ Mark m.RightBrace → compound_measure max (compound items) ≤ d
      → r.compound_rest d stmt b c ts ≡ Some (compound items, rest)
  unfolding r.compound_rest
  items_again b c items u ts rest l close low =
      let x = many_again (r.an_item d stmt b c) (IsItem b c) (block_item_measure max) d Anywhere (λ x ts rest a. item_shorter a) (item_again b c) r.unclosed
      (λ x ts rest a. item_unclosed a) items ts (u ∷ rest) (items_apart l) (omega (arith, compound_high items)) (brace_closes u rest close) in
      rw (x, expect_found (want.Mark m.RightBrace) u rest close) refl

  pub compound_again : (b c : Bool) (body : Compound) (ts rest : Tokens) → Composes b c body ts rest → compound_measure max body ≤ d → r.a_compound d stmt b c ts ≡ Some (body, rest)
  unfolding r.a_compound
  compound_again b c body ts rest (composes {items} {t} {u} {ts = behind} is l close) low =
      let x = items_again b c items u behind rest l close low in rw (expect_found (want.Mark m.LeftBrace) t behind is, x) refl

  compound_form_again : (b c : Bool) (body : Compound) (ts rest : Tokens) → Composes b c body ts rest → compound_measure max body ≤ d
      → r.form d stmt b c ts ≡ Some (k.Compound body, rest)
  unfolding r.form r.compound_form
  compound_form_again b c body ts rest (composes {items} {t} {u} {ts = behind} is l close) low =
      let x = items_again b c items u behind rest l close low in rw (is, x) refl

  no_else_part : (b c : Bool) (ts : Tokens) → NoElse ts → r.else_part d stmt b c ts ≡ Some (None, ts)
  unfolding r.else_part
  no_else_part b c ts h = let x = no_else ts h in rw x refl

  an_else_part : (b c : Bool) (n : Statement) (u : Token) (ts rest : Tokens) → u.kind ≡ Keyword w.Else → States b c n ts rest → statement_measure max n ≤ d
      → r.else_part d stmt b c (u ∷ ts) ≡ Some (Some n, rest)
  unfolding r.else_part r.other_branch
  an_else_part b c n u ts rest is a low = let x = again b c n ts rest a low in rw (take_found (want.Keyword w.Else) u ts is, x) refl

  labels_again : (l : Label) (ls : List Label) (ts p mid : Tokens) → Labels l ts p → SpellsMany Labels ls p mid → all max (label_measure max) ls ≤ d → r.label_next mid ≡ false
      → lists.all_many (r.a_label d) r.label_next p ≡ Some (ls, mid)
  labels_again l ls ts p mid a b low h = many_again (r.a_label d) Labels (label_measure max) d Anywhere labelled_shorter (label_again d) r.label_next (λ x ts rest a. label_found a)
      ls p mid (many_apart b) low h

  run_again : (c : Bool) (ys : List Statement) (ts rest : Tokens) → RunsOn c ys ts rest → all max (statement_measure max) ys ≤ d → Ended rest
      → lists.all_many (stmt true c) r.runs_on ts ≡ Some (ys, rest)
  run_again c ys ts rest a low h = many_again (stmt true c) (States true c) (statement_measure max) d Anywhere (λ x ts rest a. states_shorter a)
      (λ y ts rest a low any. again true c y ts rest a low) r.runs_on (λ x ts rest a. open_runs ts (states_open a)) ys ts rest (run_apart a) low h

  group_again : (c : Bool) (g : Group) (ts rest : Tokens) → IsGroup c g ts rest → group_measure max g ≤ d → Ended rest → r.a_group d stmt c ts ≡ Some (g, rest)
  unfolding r.a_group
  group_again c g ts rest (is_group {l} {ls} {y} {ys} {mid} {others} (one_more {mid = p} a b) s x) low h =
      let high = group_high (l ∷ ls) (y ∷ ys) in
      let one = label_again d l ts p a (omega arith) tt in
      let two = labels_again l ls ts p mid a b (omega arith) (open_unlabelled mid (states_open s)) in
      let three = again true c y mid others s (omega arith) in
      let four = run_again c ys others rest x (omega arith) h in rw (one, two, three, four) refl

  groups_again : (c : Bool) (gs : List Group) (u : Token) (ts rest : Tokens) → SpellsGroups c gs ts (u ∷ rest) → u.kind ≡ Mark m.RightBrace → all max (group_measure max) gs ≤ d
      → lists.all_many (r.a_group d stmt c) r.unclosed ts ≡ Some (gs, u ∷ rest)
  groups_again c gs u ts rest a close low = many_again (r.a_group d stmt c) (IsGroup c) (group_measure max) d Ended (λ x ts rest a. group_shorter a) (group_again c) r.unclosed
      (λ x ts rest a. group_unclosed a) gs ts (u ∷ rest) (groups_apart a (brace_ends u rest close)) low (brace_closes u rest close)

  names_again : (names : List Tname) (u : Token) (ts rest : Tokens) → SpellsCommas NamesTimed names ts (u ∷ rest) → u.kind ≡ Mark m.RightParen → all max (tname_measure max) names ≤ d
      → lists.all_commas (r.tname d) ts ≡ Some (names, u ∷ rest)
  names_again names u ts rest a close low = commas_again (r.tname d) NamesTimed (tname_measure max) d Unbracketed names_shorter (tname_again d)
      (λ t rest is. another_mark m.LeftBracket m.Comma t is (λ z. cc)) names ts (u ∷ rest) a low (another_mark m.LeftBracket m.RightParen u close (λ z. cc))
      (another_mark m.Comma m.RightParen u close (λ z. cc))

  plain_again : (b c : Bool) (v : Option Expr) (t : Token) (ts rest : Tokens) → SpellsOptional v ts (t ∷ rest) → t.kind ≡ Mark m.Semicolon → optional expr_height v ≤ d
      → r.form d stmt b c ts ≡ Some (k.Expr v, rest)
  unfolding r.form r.expression r.plain r.begun_by_expr r.after_expression
  plain_again b c v t ts rest absent is low =
      let a = it_fits (want.Mark m.Semicolon) t.kind is in
      by_semicolon b c t.kind (t ∷ rest) rest is ∙ rw (a, expect_found (want.Mark m.Semicolon) t rest is) refl
  plain_again b c v t ts rest (given {e = x} s) is low =
      let a = start_open m.Semicolon ts (lacks m.Semicolon ts (spells_start s) refl) in
      let y = enclosed d m.Semicolon s is (omega arith) low in
      let z : Lacks (want.Note note.StampedAssign) (t ∷ rest) = other_token (want.Note note.StampedAssign) t (Mark m.Semicolon) is (λ h. cc) in
      form_expression b c ts (spells_start s) ∙ rw (a, y, take_lacking (want.Note note.StampedAssign) (t ∷ rest) z, expect_found (want.Mark m.Semicolon) t rest is) refl

  form_again : (b c : Bool) (kind : StatementKind) (ts rest : Tokens) → Forms b c kind ts rest → statement_kind_measure max kind ≤ suc d → r.form d stmt b c ts ≡ Some (kind, rest)
  unfolding r.form r.if_rest r.while_rest r.do_rest r.for_rest r.switch_rest r.break_rest r.continue_rest r.return_rest r.timely_rest r.expires_rest r.expression r.begun_by_expr r.after_expression r.stamped r.stamped_rest
  form_again b c kind ts rest (a_compound {body} a) low = compound_form_again b c body ts rest a (omega (arith, measure.measure-Compound max body))
  form_again b c kind ts rest (expression {e = v} {t} g is) low = plain_again b c v t ts rest g is (omega (arith, measure.measure-Expr max v))
  form_again b c kind ts rest (if_alone {e = x} {y} {t} {ts = behind} {mid} is z s h) low =
      let high = measure.measure-If max x y None in
      let one = tested_again d x behind mid z (omega arith) in
      let two = again b c y mid rest s (omega arith) in
      let three = no_else_part b c rest h in rw (is, one, two, three) refl
  form_again b c kind ts rest (if_else {e = x} {y} {n} {t} {u} {ts = behind} {mid} {others} is z s f o) low =
      let high = measure.measure-If max x y (Some n) in
      let one = tested_again d x behind mid z (omega arith) in
      let two = again b c y mid (u ∷ others) s (omega arith) in
      let three = an_else_part b c n u others rest f o (omega arith) in rw (is, one, two, three) refl
  form_again b c kind ts rest (while_do {e = x} {y} {t} {ts = behind} {mid} is z s) low =
      let high = measure.measure-While max x y in
      let one = tested_again d x behind mid z (omega arith) in
      let two = again true true y mid rest s (omega arith) in rw (is, one, two) refl
  form_again b c kind ts rest (do_while {e = x} {y} {t} {u} {v} {ts = behind} {mid} is s f z g) low =
      let high = measure.measure-Do max y x in
      let one = again true true y behind (u ∷ mid) s (omega arith) in
      let two = tested_again d x mid (v ∷ rest) z (omega arith) in
      rw (is, one, expect_found (want.Keyword w.While) u mid f, two, expect_found (want.Mark m.Semicolon) v rest g) refl
  form_again b c kind ts rest (for_do {x} {e = v} {s = q} {y} {t} {u} {v = p} {z = p2} {ts = behind} {mid} {others} {behind = last} is f a g h i j s) low =
      let high = measure.measure-For max x v q y in
      let one = first_again d x behind mid a (omega arith) in
      let two = given_again d m.Semicolon v p mid others g h refl (omega arith) (omega arith) in
      let three = given_again d m.RightParen q p2 others last i j refl (omega arith) (omega arith) in
      let four = again true true y last rest s (omega arith) in
      rw (is, expect_found (want.Mark m.LeftParen) u behind f, one, two, expect_found (want.Mark m.Semicolon) p others h, three, expect_found (want.Mark m.RightParen) p2 last j, four) refl
  form_again b c kind ts rest (switch_on {e = x} {gs} {t} {u} {v} {ts = behind} {mid} is z f g h) low =
      let high = measure.measure-Switch max x gs in
      let one = tested_again d x behind (u ∷ mid) z (omega arith) in
      let two = groups_again c gs v mid rest g h (omega arith) in
      rw (is, one, expect_found (want.Mark m.LeftBrace) u mid f, two, expect_found (want.Mark m.RightBrace) v rest h) refl
  form_again b c kind ts rest (break_out {t} {u} is f) low = rw (is, expect_found (want.Mark m.Semicolon) u rest f) refl
  form_again b c kind ts rest (continue_on {t} {u} is f) low = rw (is, expect_found (want.Mark m.Semicolon) u rest f) refl
  form_again b c kind ts rest (return_with {e = v} {t} {u} {ts = behind} is g f) low =
      let one = given_again d m.Semicolon v u behind rest g f refl (omega arith) (omega (arith, measure.measure-Return max v)) in
      rw (is, one, expect_found (want.Mark m.Semicolon) u rest f) refl
  form_again b c kind ts rest (stamped {place} {value} {t} {u} {mid} s h f z i g) low =
      let high = measure.measure-Stamped max place value in
      let one = start_open m.Semicolon ts (lacks m.Semicolon ts (spells_start s) refl) in
      let two = expr_again d 1 place ts (t ∷ mid) s (rank_high place.kind) (omega arith) (stamp_ends t mid f) in
      let three = le-leb conditional_rank (rank place) h in
      let four = inside d m.Semicolon assign_rank z g i (omega arith) (omega arith) in
      form_expression b c ts (spells_start s) ∙ rw (one, two, take_found (want.Note note.StampedAssign) t mid f, three, four, expect_found (want.Mark m.Semicolon) u rest g) refl
  form_again b c kind ts rest (timely_alone {e = x} {limit} {y} {t} {ts = behind} {mid} is z s h) low =
      let high = measure.measure-Timely max x limit y None in
      let one = timed_again d x limit behind mid z (omega arith) in
      let two = again b c y mid rest s (omega arith) in
      let three = no_else_part b c rest h in rw (is, one, two, three) refl
  form_again b c kind ts rest (timely_else {e = x} {limit} {y} {n} {t} {u} {ts = behind} {mid} {others} is z s f o) low =
      let high = measure.measure-Timely max x limit y (Some n) in
      let one = timed_again d x limit behind mid z (omega arith) in
      let two = again b c y mid (u ∷ others) s (omega arith) in
      let three = an_else_part b c n u others rest f o (omega arith) in rw (is, one, two, three) refl
  form_again b c kind ts rest (expires {names} {body} {caught} {t} {u} {v} {z = p} {ts = behind} {mid} {others} is f l g x h y) low =
      let high = measure.measure-Expires max names body caught in
      let one = names_again names v behind mid l g (omega arith) in
      let two = compound_again b c body mid (p ∷ others) x (omega arith) in
      let three = catch_again p others h in
      let four = compound_again b c caught others rest y (omega arith) in
      rw (is, expect_found (want.Mark m.LeftParen) u behind f, one, expect_found (want.Mark m.RightParen) v mid g, two, three, four) refl

  pub formed_again : (b c : Bool) (y : Statement) (ts rest : Tokens) → States b c y ts rest → statement_measure max y ≤ suc d → r.formed d stmt b c ts ≡ Some (y, rest)
  unfolding r.formed
  formed_again b c y ts rest (states {kind} f) low = let one = form_again b c kind ts rest f low in rw one refl

forms_high : {b c : Bool} {kind : StatementKind} {ts rest : Tokens} → Forms b c kind ts rest → 0 < statement_kind_measure max kind
forms_high (a_compound {body} a) = omega (arith, measure.measure-Compound max body)
forms_high (expression {e = v} g is) = omega (arith, measure.measure-Expr max v)
forms_high (if_alone {e = x} {y} is z s h) = omega (arith, measure.measure-If max x y None)
forms_high (if_else {e = x} {y} {n} is z s f o) = omega (arith, measure.measure-If max x y (Some n))
forms_high (while_do {e = x} {y} is z s) = omega (arith, measure.measure-While max x y)
forms_high (do_while {e = x} {y} is s f z g) = omega (arith, measure.measure-Do max y x)
forms_high (for_do {x} {e = v} {s = q} {y} is f a g h i j s) = omega (arith, measure.measure-For max x v q y)
forms_high (switch_on {e = x} {gs} is z f g h) = omega (arith, measure.measure-Switch max x gs)
forms_high (break_out is f) = omega (arith, measure.measure-Break max)
forms_high (continue_on is f) = omega (arith, measure.measure-Continue max)
forms_high (return_with {e = v} is g f) = omega (arith, measure.measure-Return max v)
forms_high (stamped {place} {value} s h f z i g) = omega (arith, measure.measure-Stamped max place value)
forms_high (timely_alone {e = x} {limit} {y} is z s h) = omega (arith, measure.measure-Timely max x limit y None)
forms_high (timely_else {e = x} {limit} {y} {n} is z s f o) = omega (arith, measure.measure-Timely max x limit y (Some n))
forms_high (expires {names} {body} {caught} is f l g x h y) = omega (arith, measure.measure-Expires max names body caught)

states_high : {b c : Bool} {y : Statement} {ts rest : Tokens} → States b c y ts rest → 0 < statement_measure max y
states_high (states f) = forms_high f

pub statement_again : (d : ℕ) (b c : Bool) (y : Statement) (ts rest : Tokens) → States b c y ts rest → statement_measure max y ≤ d → r.statement d b c ts ≡ Some (y, rest)
unfolding r.statement
statement_again zero b c y ts rest a low = absurd (omega (arith, states_high a))
statement_again (suc d) b c y ts rest a low = formed_again d (r.statement d) (statement_again d) b c y ts rest a low

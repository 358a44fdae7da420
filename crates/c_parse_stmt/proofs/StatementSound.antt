-- The statements that are read stand there.
use Rattle.std.proofs.Common.{◌≡◌, ℕ, zero, suc, ◌≤◌, Bool, true, false, List, [], ◌∷◌, max, Option, Some, None, refl, arith, rules, cond, codes, bytes_eq, nat_le, ◌∙◌, ap}
use Rattle.std.proofs.lemmas.Bool.{leb-true}
use Rattle.c_lex.specs.declared.token.Token.{Token}
use Rattle.c_lex.specs.declared.token.TokenKind.{TokenKind}
use Rattle.c_lex.specs.declared.token.TokenKind.TheVariants.{Word, Keyword, Mark, Note}
use Rattle.c_lex.specs.declared.token.Keyword.TheVariants as w
use Rattle.c_lex.specs.declared.token.Mark.{Mark as AMark}
use Rattle.c_lex.specs.declared.token.Mark.TheVariants as m
use Rattle.c_lex.specs.declared.token.Note.TheVariants as note
use Rattle.c_tree.specs.declared.expression.Expr.{Expr}
use Rattle.c_tree.specs.declared.declarations.Duration.{Duration}
use Rattle.c_tree.specs.declared.statements.Tname.{Tname}
use Rattle.c_tree.specs.declared.statements.Label.{Label}
use Rattle.c_tree.specs.declared.statements.First.{First}
use Rattle.c_tree.specs.declared.statements.First.TheVariants as first
use Rattle.c_tree.specs.declared.statements.Label.TheVariants as label
use Rattle.c_tree.specs.declared.statements.Statement.{Statement}
use Rattle.c_tree.specs.declared.statements.StatementKind.{StatementKind, the_lemmas}
use Rattle.c_tree.specs.declared.statements.StatementKind.TheVariants as k
use Rattle.c_tree.specs.declared.statements.BlockItem.{BlockItem}
use Rattle.c_tree.specs.declared.statements.Compound.{Compound}
use Rattle.c_tree.specs.declared.statements.Group.{Group}
use Rattle.c_tree.specs.Measure.{all, optional, expr_height, tname_measure, label_measure, first_measure, statement_measure, statement_kind_measure, block_item_measure, compound_measure, group_measure}
use Rattle.c_tree.proofs.StatementMeasures as measure
use Rattle.c_parse_expr.specs.declared.wanted.Wanted.TheVariants as want
use Rattle.c_parse_expr.specs.Expected.{fits}
use Rattle.c_parse_expr.specs.Ranks.{assign_rank, conditional_rank, unary_rank, rank}
use Rattle.c_parse_expr.specs.TypeWords.{Tokens}
use Rattle.c_parse_stmt.specs.Repeats.{SpellsCommas, SpellsMany, no_more, one_more}
use Rattle.c_parse_stmt.specs.Declarations.{Lasts}
use Rattle.c_parse_stmt.specs.Statements.{compound, group, NoElse, SpellsOptional, absent, given, SpellsTest, tested, NamesTimed, plain, indexed, Labels, case_of, default, SpellsFirst, by_expr, by_declaration, States, states, Forms, a_compound, expression, if_alone, if_else, while_do, do_while, for_do, switch_on, break_out, continue_on, return_with, stamped, timely_alone, timely_else, expires, SpellsLimit, timed, Composes, composes, SpellsItems, no_item, an_item, IsItem, a_declaration, a_statement, SpellsGroups, no_group, a_group, IsGroup, is_group, RunsOn, no_statement, next_statement}
use Rattle.c_parse_expr.specs.Steps.{Parser, take_if, mark_next}
use Rattle.c_parse_expr.specs.Reading as e
use Rattle.c_parse_stmt.specs.DeclarationReading as decl
use Rattle.c_parse_stmt.specs.StatementReading as r
use Rattle.c_parse_expr.proofs.Fitting.{fits_is}
use Rattle.c_parse_stmt.proofs.Texts.{text_is}
use Rattle.c_parse_stmt.proofs.Repeated.{commas_weaken, commas_low, commas_sound, many_weaken, many_low, many_sound}
use Rattle.c_parse_expr.proofs.Sound.{Reads, expr_sound}
use Rattle.c_parse_stmt.proofs.DeclarationSound.{declaration_sound, duration_sound}
use Rattle.c_parse_expr.proofs.AfterSteps.{After, nothing, just, after_then, after_if, after_branch, Found, found_at, after_expect, Worded, worded, after_word}

-- ---- small parts

pub record IsGiven (d : ℕ) (v : Option Expr) (ts rest : Tokens) : Type 0 where
  pub given : SpellsOptional v ts rest
  pub low : optional expr_height v ≤ d

pub record IsTested (d : ℕ) (v : Expr) (ts rest : Tokens) : Type 0 where
  pub tested : SpellsTest v ts rest
  pub low : expr_height v ≤ d

pub record IsNamed (d : ℕ) (x : Tname) (ts rest : Tokens) : Type 0 where
  pub names : NamesTimed x ts rest
  pub low : tname_measure max x ≤ d

pub record IsLabelled (d : ℕ) (x : Label) (ts rest : Tokens) : Type 0 where
  pub labelled : Labels x ts rest
  pub low : label_measure max x ≤ d

pub record IsFirst (d : ℕ) (x : First) (ts rest : Tokens) : Type 0 where
  pub firsts : SpellsFirst x ts rest
  pub low : first_measure max x ≤ d

pub record IsTimed (d : ℕ) (x : Expr × Duration) (ts rest : Tokens) : Type 0 where
  pub timed : SpellsLimit x.0 x.1 ts rest
  pub low : expr_height x.0 ≤ d

data IsCatch : Tokens → Tokens → Type 0 where
  is_catch : {t : Token} {rest : Tokens} → t.kind ≡ Word (codes "catch") → IsCatch (t ∷ rest) rest

catch_made : {n : List ℕ} {ts rest : Tokens} → Worded n ts rest → n ≡ codes "catch" → IsCatch ts rest
catch_made (worded is) e = is_catch (is ∙ ap Word e)

catch_sound : (ts : Tokens) → After {A = Unit {0}} (λ _ rest. IsCatch ts rest) (r.catch_word ts)
unfolding r.catch_word
catch_sound ts = after_then (after_word ts) (λ n mid a. after_if (bytes_eq n (codes "catch")) (λ h. just (catch_made a (text_is n (codes "catch") h))) (λ h. nothing))

module _ (d : ℕ) where
  some_sound : (ts : Tokens) → After (λ v rest. IsGiven d v ts rest) (r.some_expr d ts)
  unfolding r.some_expr
  some_sound ts = after_then (expr_sound d 1 ts) (λ x rest s. just (record { given = given s.spelled; low = s.low }))

  given_sound : (x : AMark) (ts : Tokens) → After (λ v rest. IsGiven d v ts rest) (r.given d x ts)
  unfolding r.given
  given_sound x ts = after_if (mark_next x ts) (λ h. just (record { given = absent; low = omega arith })) (λ h. some_sound ts)

  tested_made : {v : Expr} {ts mid others rest : Tokens} → Found (want.Mark m.LeftParen) ts mid → Reads d 1 v mid others → Found (want.Mark m.RightParen) others rest → IsTested d v ts rest
  tested_made (found_at a) s (found_at b) = record { tested = tested a s.spelled b; low = s.low }

  tested_sound : (ts : Tokens) → After (λ v rest. IsTested d v ts rest) (r.tested d ts)
  unfolding r.tested
  tested_sound ts = after_then (after_expect (want.Mark m.LeftParen) ts) (λ u mid a. after_then (expr_sound d 1 mid) (λ x others s.
      after_then (after_expect (want.Mark m.RightParen) others) (λ v rest b. just (tested_made a s b))))

  plain_made : {n : List ℕ} {ts rest : Tokens} → Worded n ts rest → IsNamed d (record { name = n; index = None }) ts rest
  plain_made (worded is) = record { names = plain is; low = omega arith }

  indexed_made : {n : List ℕ} {v : Expr} {ts mid others behind rest : Tokens} → Worded n ts mid → Found (want.Mark m.LeftBracket) mid others → Reads d conditional_rank v others behind
      → Found (want.Mark m.RightBracket) behind rest → IsNamed d (record { name = n; index = Some v }) ts rest
  indexed_made (worded is) (found_at a) s (found_at b) = record { names = indexed is a s.spelled s.binds b; low = s.low }

  index_sound : (n : List ℕ) {ts mid others : Tokens} → Worded n ts mid → Found (want.Mark m.LeftBracket) mid others → After (λ x rest. IsNamed d x ts rest) (r.tname_index d n others)
  unfolding r.tname_index
  index_sound n {ts} {mid} {others} is a = after_then (expr_sound d conditional_rank others) (λ v behind s.
      after_then (after_expect (want.Mark m.RightBracket) behind) (λ u rest b. just (indexed_made is a s b)))

  tname_sound : (ts : Tokens) → After (λ x rest. IsNamed d x ts rest) (r.tname d ts)
  unfolding r.tname
  tname_sound ts = after_then (after_word ts) (λ n mid a. after_branch (want.Mark m.LeftBracket) mid _ _ (λ rest f. index_sound n a f) (just (plain_made a)))

  case_made : {v : Expr} {t : Token} {ts mid rest : Tokens} → t.kind ≡ Keyword w.Case → Reads d conditional_rank v ts mid → Found (want.Mark m.Colon) mid rest
      → IsLabelled d (label.Case v) (t ∷ ts) rest
  case_made is s (found_at c) = record { labelled = case_of is s.spelled s.binds c; low = s.low }

  case_sound : (t : Token) (ts : Tokens) → t.kind ≡ Keyword w.Case → After (λ x rest. IsLabelled d x (t ∷ ts) rest) (r.case_rest d ts)
  unfolding r.case_rest
  case_sound t ts is = after_then (expr_sound d conditional_rank ts) (λ v mid s. after_then (after_expect (want.Mark m.Colon) mid) (λ u rest c. just (case_made is s c)))

  default_made : {t : Token} {ts rest : Tokens} → t.kind ≡ Keyword w.Default → Found (want.Mark m.Colon) ts rest → IsLabelled d label.Default (t ∷ ts) rest
  default_made is (found_at c) = record { labelled = default is c; low = omega arith }

  default_sound : (t : Token) (ts : Tokens) → t.kind ≡ Keyword w.Default → After (λ x rest. IsLabelled d x (t ∷ ts) rest) (r.default_rest d ts)
  unfolding r.default_rest
  default_sound t ts is = after_then (after_expect (want.Mark m.Colon) ts) (λ u rest c. just (default_made is c))

  label_by_sound : (t : Token) (ts : Tokens) (x : TokenKind) → t.kind ≡ x → After (λ l rest. IsLabelled d l (t ∷ ts) rest) (r.label_by d x ts)
  label_by_sound t ts (Keyword w.Case) is = case_sound t ts is
  label_by_sound t ts (Keyword w.Default) is = default_sound t ts is
  label_by_sound t ts _ is = nothing

  label_sound : (ts : Tokens) → After (λ l rest. IsLabelled d l ts rest) (r.a_label d ts)
  unfolding r.a_label
  label_sound [] = nothing
  label_sound (t ∷ ts) = label_by_sound t ts t.kind refl

  first_expr_made : {v : Option Expr} {ts mid rest : Tokens} → IsGiven d v ts mid → Found (want.Mark m.Semicolon) mid rest → IsFirst d (first.Expr v) ts rest
  first_expr_made a (found_at is) = record { firsts = by_expr a.given is; low = a.low }

  first_expr_sound : (ts : Tokens) → After (λ x rest. IsFirst d x ts rest) (r.first_expr d ts)
  unfolding r.first_expr
  first_expr_sound ts = after_then (given_sound m.Semicolon ts) (λ v mid a. after_then (after_expect (want.Mark m.Semicolon) mid) (λ u rest b. just (first_expr_made a b)))

  first_declaration_sound : (ts : Tokens) → After (λ x rest. IsFirst d x ts rest) (r.first_declaration d ts)
  unfolding r.first_declaration
  first_declaration_sound ts = after_then (declaration_sound d ts) (λ x rest a. just (record { firsts = by_declaration a.declaring; low = a.low }))

  first_sound : (ts : Tokens) → After (λ x rest. IsFirst d x ts rest) (r.for_first d ts)
  unfolding r.for_first
  first_sound ts = after_if (e.type_next ts) (λ h. first_declaration_sound ts) (λ h. first_expr_sound ts)

  timed_made : {v : Expr} {limit : Duration} {ts a b c f rest : Tokens} → Found (want.Mark m.LeftParen) ts a → Reads d unary_rank v a b → Found (want.Mark m.Comma) b c
      → Lasts limit c f → Found (want.Mark m.RightParen) f rest → IsTimed d (v, limit) ts rest
  timed_made (found_at x) s (found_at y) l (found_at z) = record { timed = timed x s.spelled s.binds y l z; low = s.low }

  timed_sound : (ts : Tokens) → After (λ x rest. IsTimed d x ts rest) (r.timed d ts)
  unfolding r.timed
  timed_sound ts = after_then (after_expect (want.Mark m.LeftParen) ts) (λ u a x. after_then (expr_sound d unary_rank a) (λ v b s.
      after_then (after_expect (want.Mark m.Comma) b) (λ u c y. after_then (duration_sound c) (λ limit f l. after_then (after_expect (want.Mark m.RightParen) f) (λ u rest z.
      just (timed_made x s y l z))))))

-- ---- statements

pub record Stated (d : ℕ) (b c : Bool) (y : Statement) (ts rest : Tokens) : Type 0 where
  pub states : States b c y ts rest
  pub low : statement_measure max y ≤ d

pub record Formed (d : ℕ) (b c : Bool) (ts : Tokens) (kind : StatementKind) (rest : Tokens) : Type 0 where
  pub forms : Forms b c kind ts rest
  pub low : statement_kind_measure max kind ≤ d

pub record Composed (d : ℕ) (b c : Bool) (body : Compound) (ts rest : Tokens) : Type 0 where
  pub composes : Composes b c body ts rest
  pub low : compound_measure max body ≤ d

record IsAnItem (d : ℕ) (b c : Bool) (x : BlockItem) (ts rest : Tokens) : Type 0 where
  item : IsItem b c x ts rest
  low : block_item_measure max x ≤ d

record IsAGroup (d : ℕ) (c : Bool) (g : Group) (ts rest : Tokens) : Type 0 where
  group : IsGroup c g ts rest
  low : group_measure max g ≤ d

pub compound_high : (items : List BlockItem) → compound_measure max (compound items) ≡ all max (block_item_measure max) items
compound_high items = search (rules, the_lemmas)

pub group_high : (labels : List Label) (ys : List Statement) → group_measure max (group labels ys) ≡ max (all max (label_measure max) labels) (all max (statement_measure max) ys)
group_high labels ys = search (rules, the_lemmas)

many_items : {d : ℕ} {b c : Bool} {xs : List BlockItem} {ts rest : Tokens} → SpellsMany (IsAnItem d b c) xs ts rest → SpellsItems b c xs ts rest
many_items no_more = no_item
many_items (one_more a x) = an_item a.item (many_items x)

many_groups : {d : ℕ} {c : Bool} {gs : List Group} {ts rest : Tokens} → SpellsMany (IsAGroup d c) gs ts rest → SpellsGroups c gs ts rest
many_groups no_more = no_group
many_groups (one_more a x) = a_group a.group (many_groups x)

many_run : {d : ℕ} {c : Bool} {ys : List Statement} {ts rest : Tokens} → SpellsMany (Stated d true c) ys ts rest → RunsOn c ys ts rest
many_run no_more = no_statement
many_run (one_more a x) = next_statement a.states (many_run x)

-- `else` and the statement behind it, or neither
data Elsed (d : ℕ) (b c : Bool) : Option Statement → Tokens → Tokens → Type 0 where
  no_else : {ts : Tokens} → NoElse ts → Elsed d b c None ts ts
  an_else : {n : Statement} {t : Token} {ts rest : Tokens} → t.kind ≡ Keyword w.Else → Stated d b c n ts rest → Elsed d b c (Some n) (t ∷ ts) rest

data Seen : Tokens → Bool → Tokens → Type 0 where
  seen : {t : Token} {rest : Tokens} → t.kind ≡ Keyword w.Else → Seen (t ∷ rest) true rest
  unseen : {ts : Tokens} → NoElse ts → Seen ts false ts

see_else : (ts : Tokens) → After (λ b rest. Seen ts b rest) (take_if (want.Keyword w.Else) ts)
unfolding take_if
see_else [] = just (unseen tt)
see_else (t ∷ ts) = after_if (fits (want.Keyword w.Else) t.kind) (λ h. just (seen (fits_is (want.Keyword w.Else) t.kind h))) (λ h. just (unseen h))

module _ (d : ℕ) (stmt : Bool → Bool → Parser Statement) (sound : (b c : Bool) (ts : Tokens) → After (λ y rest. Stated d b c y ts rest) (stmt b c ts)) where
  item_declaration_sound : (b c : Bool) (ts : Tokens) → After (λ x rest. IsAnItem d b c x ts rest) (r.item_declaration d stmt ts)
  unfolding r.item_declaration
  item_declaration_sound b c ts = after_then (declaration_sound d ts) (λ x rest a. just (record { item = a_declaration a.declaring; low = omega (arith, a.low, measure.measure-item-Declaration max x) }))

  item_statement_sound : (b c : Bool) (ts : Tokens) → After (λ x rest. IsAnItem d b c x ts rest) (r.item_statement d stmt b c ts)
  unfolding r.item_statement
  item_statement_sound b c ts = after_then (sound b c ts) (λ y rest a. just (record { item = a_statement a.states; low = omega (arith, a.low, measure.measure-item-Statement max y) }))

  item_sound : (b c : Bool) (ts : Tokens) → After (λ x rest. IsAnItem d b c x ts rest) (r.an_item d stmt b c ts)
  unfolding r.an_item
  item_sound b c ts = after_if (e.type_next ts) (λ h. item_declaration_sound b c ts) (λ h. item_statement_sound b c ts)

  compound_made : {b c : Bool} {items : List BlockItem} {ts a mid rest : Tokens} → Found (want.Mark m.LeftBrace) ts a → SpellsMany (IsAnItem d b c) items a mid
      → Found (want.Mark m.RightBrace) mid rest → Composed d b c (compound items) ts rest
  compound_made {items} (found_at x) l (found_at y) = record {
    composes = composes x (many_items l) y;
    low = omega (arith, compound_high items, many_low (block_item_measure max) d (λ x ts rest a. a.low) l);
  }

  compound_rest_sound : (b c : Bool) (ts behind : Tokens) → Found (want.Mark m.LeftBrace) ts behind → After (λ body rest. Composed d b c body ts rest) (r.compound_rest d stmt b c behind)
  unfolding r.compound_rest
  compound_rest_sound b c ts behind f = after_then (many_sound (r.an_item d stmt b c) (IsAnItem d b c) (item_sound b c) r.unclosed behind) (λ items mid l.
      after_then (after_expect (want.Mark m.RightBrace) mid) (λ u rest g. just (compound_made f l g)))

  pub compound_sound : (b c : Bool) (ts : Tokens) → After (λ body rest. Composed d b c body ts rest) (r.a_compound d stmt b c ts)
  unfolding r.a_compound
  compound_sound b c ts = after_then (after_expect (want.Mark m.LeftBrace) ts) (λ u behind f. compound_rest_sound b c ts behind f)

  compound_form_sound : (b c : Bool) (t : Token) (ts : Tokens) → t.kind ≡ Mark m.LeftBrace → After (Formed (suc d) b c (t ∷ ts)) (r.compound_form d stmt b c ts)
  unfolding r.compound_form
  compound_form_sound b c t ts is = after_then (compound_rest_sound b c (t ∷ ts) ts (found_at is)) (λ body rest a. just (record {
    forms = a_compound a.composes;
    low = omega (arith, measure.measure-Compound max body, a.low);
  }))

  other_made : {b c : Bool} {n : Statement} {ts mid rest : Tokens} → Seen ts true mid → Stated d b c n mid rest → Elsed d b c (Some n) ts rest
  other_made (seen is) a = an_else is a

  other_sound : (b c : Bool) {ts mid : Tokens} → Seen ts true mid → After (λ n rest. Elsed d b c n ts rest) (r.other_branch d stmt b c mid)
  unfolding r.other_branch
  other_sound b c {ts} {mid} f = after_then (sound b c mid) (λ n rest a. just (other_made f a))

  none_made : {b c : Bool} {ts rest : Tokens} → Seen ts false rest → Elsed d b c None ts rest
  none_made (unseen h) = no_else h

  else_turn : (b c : Bool) {ts : Tokens} (found : Bool) (mid : Tokens) → Seen ts found mid
      → After (λ n rest. Elsed d b c n ts rest) (cond found (r.other_branch d stmt b c) (λ ts. Some (None, ts)) mid)
  else_turn b c true mid f = other_sound b c f
  else_turn b c false mid f = just (none_made f)

  else_sound : (b c : Bool) (ts : Tokens) → After (λ n rest. Elsed d b c n ts rest) (r.else_part d stmt b c ts)
  unfolding r.else_part
  else_sound b c ts = after_then (see_else ts) (λ found mid f. else_turn b c found mid f)

  if_made : {b c : Bool} {t : Token} {x : Expr} {y : Statement} {n : Option Statement} {ts a mid rest : Tokens} → t.kind ≡ Keyword w.If → IsTested d x ts a → Stated d b c y a mid
      → Elsed d b c n mid rest → Formed (suc d) b c (t ∷ ts) (k.If x y n) rest
  if_made {x} {y} is s z (no_else h) = record { forms = if_alone is s.tested z.states h; low = omega (arith, measure.measure-If max x y None, s.low, z.low) }
  if_made {x} {y} is s z (an_else {n = other} f o) = record {
    forms = if_else is s.tested z.states f o.states;
    low = omega (arith, measure.measure-If max x y (Some other), s.low, z.low, o.low);
  }

  if_sound : (b c : Bool) (t : Token) (ts : Tokens) → t.kind ≡ Keyword w.If → After (Formed (suc d) b c (t ∷ ts)) (r.if_rest d stmt b c ts)
  unfolding r.if_rest
  if_sound b c t ts is = after_then (tested_sound d ts) (λ x a s. after_then (sound b c a) (λ y mid z. after_then (else_sound b c mid) (λ n rest o. just (if_made is s z o))))

  while_sound : (b c : Bool) (t : Token) (ts : Tokens) → t.kind ≡ Keyword w.While → After (Formed (suc d) b c (t ∷ ts)) (r.while_rest d stmt ts)
  unfolding r.while_rest
  while_sound b c t ts is = after_then (tested_sound d ts) (λ x a s. after_then (sound true true a) (λ y rest z. just (record {
    forms = while_do is s.tested z.states;
    low = omega (arith, measure.measure-While max x y, s.low, z.low);
  })))

  do_made : {b c : Bool} {t : Token} {x : Expr} {y : Statement} {ts a mid others rest : Tokens} → t.kind ≡ Keyword w.Do → Stated d true true y ts a → Found (want.Keyword w.While) a mid
      → IsTested d x mid others → Found (want.Mark m.Semicolon) others rest → Formed (suc d) b c (t ∷ ts) (k.Do y x) rest
  do_made {x} {y} is z (found_at f) s (found_at g) = record { forms = do_while is z.states f s.tested g; low = omega (arith, measure.measure-Do max y x, s.low, z.low) }

  do_sound : (b c : Bool) (t : Token) (ts : Tokens) → t.kind ≡ Keyword w.Do → After (Formed (suc d) b c (t ∷ ts)) (r.do_rest d stmt ts)
  unfolding r.do_rest
  do_sound b c t ts is = after_then (sound true true ts) (λ y a z. after_then (after_expect (want.Keyword w.While) a) (λ u mid f. after_then (tested_sound d mid) (λ x others s.
      after_then (after_expect (want.Mark m.Semicolon) others) (λ v rest g. just (do_made is z f s g)))))

  for_made : {b c : Bool} {t : Token} {x : First} {v s : Option Expr} {y : Statement} {ts p q p2 q2 p3 q3 rest : Tokens} → t.kind ≡ Keyword w.For
      → Found (want.Mark m.LeftParen) ts p → IsFirst d x p q → IsGiven d v q p2 → Found (want.Mark m.Semicolon) p2 q2 → IsGiven d s q2 p3
      → Found (want.Mark m.RightParen) p3 q3 → Stated d true true y q3 rest → Formed (suc d) b c (t ∷ ts) (k.For x v s y) rest
  for_made {x} {v} {s} {y} is (found_at f) a g (found_at h) i (found_at j) z = record {
    forms = for_do is f a.firsts g.given h i.given j z.states;
    low = omega (arith, measure.measure-For max x v s y, a.low, g.low, i.low, z.low);
  }

  for_sound : (b c : Bool) (t : Token) (ts : Tokens) → t.kind ≡ Keyword w.For → After (Formed (suc d) b c (t ∷ ts)) (r.for_rest d stmt ts)
  unfolding r.for_rest
  for_sound b c t ts is = after_then (after_expect (want.Mark m.LeftParen) ts) (λ u p f. after_then (first_sound d p) (λ x q a. after_then (given_sound d m.Semicolon q) (λ v p2 g.
      after_then (after_expect (want.Mark m.Semicolon) p2) (λ u q2 h. after_then (given_sound d m.RightParen q2) (λ s p3 i.
      after_then (after_expect (want.Mark m.RightParen) p3) (λ u q3 j. after_then (sound true true q3) (λ y rest z. just (for_made is f a g h i j z))))))))

  group_made : {c : Bool} {l : Label} {ls : List Label} {y : Statement} {ys : List Statement} {ts p q p2 rest : Tokens} → IsLabelled d l ts p → SpellsMany (IsLabelled d) ls p q
      → Stated d true c y q p2 → SpellsMany (Stated d true c) ys p2 rest → IsAGroup d c (group (l ∷ ls) (y ∷ ys)) ts rest
  group_made {l} {ls} {y} {ys} a b z x = record {
    group = is_group (one_more a.labelled (many_weaken (λ l ts rest a. a.labelled) b)) z.states (many_run x);
    low = omega (
      arith,
      group_high (l ∷ ls) (y ∷ ys),
      a.low,
      many_low (label_measure max) d (λ l ts rest a. a.low) b,
      z.low,
      many_low (statement_measure max) d (λ y ts rest a. a.low) x,
    );
  }

  group_sound : (c : Bool) (ts : Tokens) → After (λ g rest. IsAGroup d c g ts rest) (r.a_group d stmt c ts)
  unfolding r.a_group
  group_sound c ts = after_then (label_sound d ts) (λ l p a. after_then (many_sound (r.a_label d) (IsLabelled d) (label_sound d) r.label_next p) (λ ls q b.
      after_then (sound true c q) (λ y p2 z. after_then (many_sound (stmt true c) (Stated d true c) (sound true c) r.runs_on p2) (λ ys rest x. just (group_made a b z x)))))

  switch_made : {b c : Bool} {t : Token} {v : Expr} {gs : List Group} {ts p q p2 rest : Tokens} → t.kind ≡ Keyword w.Switch → IsTested d v ts p → Found (want.Mark m.LeftBrace) p q
      → SpellsMany (IsAGroup d c) gs q p2 → Found (want.Mark m.RightBrace) p2 rest → Formed (suc d) b c (t ∷ ts) (k.Switch v gs) rest
  switch_made {v} {gs} is s (found_at f) l (found_at g) = record {
    forms = switch_on is s.tested f (many_groups l) g;
    low = omega (arith, measure.measure-Switch max v gs, s.low, many_low (group_measure max) d (λ g ts rest a. a.low) l);
  }

  switch_sound : (b c : Bool) (t : Token) (ts : Tokens) → t.kind ≡ Keyword w.Switch → After (Formed (suc d) b c (t ∷ ts)) (r.switch_rest d stmt c ts)
  unfolding r.switch_rest
  switch_sound b c t ts is = after_then (tested_sound d ts) (λ v p s. after_then (after_expect (want.Mark m.LeftBrace) p) (λ u q f.
      after_then (many_sound (r.a_group d stmt c) (IsAGroup d c) (group_sound c) r.unclosed q) (λ gs p2 l. after_then (after_expect (want.Mark m.RightBrace) p2) (λ u rest g.
      just (switch_made is s f l g)))))

  break_made : {c : Bool} {t : Token} {ts rest : Tokens} → t.kind ≡ Keyword w.Break → Found (want.Mark m.Semicolon) ts rest → Formed (suc d) true c (t ∷ ts) k.Break rest
  break_made is (found_at f) = record { forms = break_out is f; low = omega (arith, measure.measure-Break max) }

  break_sound : (b c : Bool) (t : Token) (ts : Tokens) → t.kind ≡ Keyword w.Break → After (Formed (suc d) b c (t ∷ ts)) (r.break_rest b ts)
  unfolding r.break_rest
  break_sound false c t ts is = nothing
  break_sound true c t ts is = after_then (after_expect (want.Mark m.Semicolon) ts) (λ u rest f. just (break_made is f))

  continue_made : {b : Bool} {t : Token} {ts rest : Tokens} → t.kind ≡ Keyword w.Continue → Found (want.Mark m.Semicolon) ts rest → Formed (suc d) b true (t ∷ ts) k.Continue rest
  continue_made is (found_at f) = record { forms = continue_on is f; low = omega (arith, measure.measure-Continue max) }

  continue_sound : (b c : Bool) (t : Token) (ts : Tokens) → t.kind ≡ Keyword w.Continue → After (Formed (suc d) b c (t ∷ ts)) (r.continue_rest c ts)
  unfolding r.continue_rest
  continue_sound b false t ts is = nothing
  continue_sound b true t ts is = after_then (after_expect (want.Mark m.Semicolon) ts) (λ u rest f. just (continue_made is f))

  return_made : {b c : Bool} {t : Token} {v : Option Expr} {ts mid rest : Tokens} → t.kind ≡ Keyword w.Return → IsGiven d v ts mid → Found (want.Mark m.Semicolon) mid rest
      → Formed (suc d) b c (t ∷ ts) (k.Return v) rest
  return_made {v} is a (found_at f) = record { forms = return_with is a.given f; low = omega (arith, measure.measure-Return max v, a.low) }

  return_sound : (b c : Bool) (t : Token) (ts : Tokens) → t.kind ≡ Keyword w.Return → After (Formed (suc d) b c (t ∷ ts)) (r.return_rest d stmt ts)
  unfolding r.return_rest
  return_sound b c t ts is = after_then (given_sound d m.Semicolon ts) (λ v mid a. after_then (after_expect (want.Mark m.Semicolon) mid) (λ u rest f. just (return_made is a f)))

  timely_made : {b c : Bool} {t : Token} {x : Expr × Duration} {y : Statement} {n : Option Statement} {ts a mid rest : Tokens} → t.kind ≡ Note note.Timely → IsTimed d x ts a
      → Stated d b c y a mid → Elsed d b c n mid rest → Formed (suc d) b c (t ∷ ts) (k.Timely x.0 x.1 y n) rest
  timely_made {x} {y} is s z (no_else h) = record { forms = timely_alone is s.timed z.states h; low = omega (arith, measure.measure-Timely max x.0 x.1 y None, s.low, z.low) }
  timely_made {x} {y} is s z (an_else {n = other} f o) = record {
    forms = timely_else is s.timed z.states f o.states;
    low = omega (arith, measure.measure-Timely max x.0 x.1 y (Some other), s.low, z.low, o.low);
  }

  timely_sound : (b c : Bool) (t : Token) (ts : Tokens) → t.kind ≡ Note note.Timely → After (Formed (suc d) b c (t ∷ ts)) (r.timely_rest d stmt b c ts)
  unfolding r.timely_rest
  timely_sound b c t ts is = after_then (timed_sound d ts) (λ x a s. after_then (sound b c a) (λ y mid z. after_then (else_sound b c mid) (λ n rest o. just (timely_made is s z o))))

  expires_made : {b c : Bool} {t : Token} {names : List Tname} {body caught : Compound} {ts p q p2 q2 p3 rest : Tokens} → t.kind ≡ Note note.Expires
      → Found (want.Mark m.LeftParen) ts p → SpellsCommas (IsNamed d) names p q → Found (want.Mark m.RightParen) q p2 → Composed d b c body p2 q2 → IsCatch q2 p3
      → Composed d b c caught p3 rest → Formed (suc d) b c (t ∷ ts) (k.Expires names body caught) rest
  expires_made {names} {body} {caught} is (found_at f) l (found_at g) x (is_catch h) y = record {
    forms = expires is f (commas_weaken (λ x ts rest a. a.names) l) g x.composes h y.composes;
    low = omega (arith, measure.measure-Expires max names body caught, commas_low (tname_measure max) d (λ x ts rest a. a.low) l, x.low, y.low);
  }

  expires_sound : (b c : Bool) (t : Token) (ts : Tokens) → t.kind ≡ Note note.Expires → After (Formed (suc d) b c (t ∷ ts)) (r.expires_rest d stmt b c ts)
  unfolding r.expires_rest
  expires_sound b c t ts is = after_then (after_expect (want.Mark m.LeftParen) ts) (λ u p f. after_then (commas_sound (r.tname d) (IsNamed d) (tname_sound d) p) (λ names q l.
      after_then (after_expect (want.Mark m.RightParen) q) (λ u p2 g. after_then (compound_sound b c p2) (λ body q2 x. after_then (catch_sound q2) (λ u p3 h.
      after_then (compound_sound b c p3) (λ caught rest y. just (expires_made is f l g x h y)))))))

  stamped_made : {b c : Bool} {place value : Expr} {ts a mid others rest : Tokens} → Reads d 1 place ts a → conditional_rank ≤ rank place → Found (want.Note note.StampedAssign) a mid
      → Reads d assign_rank value mid others → Found (want.Mark m.Semicolon) others rest → Formed (suc d) b c ts (k.Stamped place value) rest
  stamped_made {place} {value} s h (found_at f) z (found_at g) = record {
    forms = stamped s.spelled h f z.spelled z.binds g;
    low = omega (arith, measure.measure-Stamped max place value, s.low, z.low);
  }

  stamped_rest_sound : (b c : Bool) {place : Expr} {ts a mid : Tokens} → Reads d 1 place ts a → conditional_rank ≤ rank place → Found (want.Note note.StampedAssign) a mid
      → After (Formed (suc d) b c ts) (r.stamped_rest d stmt place mid)
  unfolding r.stamped_rest
  stamped_rest_sound b c {place} {ts} {a} {mid} s h f = after_then (expr_sound d assign_rank mid) (λ v others z.
      after_then (after_expect (want.Mark m.Semicolon) others) (λ u rest g. just (stamped_made s h f z g)))

  stamped_sound : (b c : Bool) {place : Expr} {ts a mid : Tokens} → Reads d 1 place ts a → Found (want.Note note.StampedAssign) a mid
      → After (Formed (suc d) b c ts) (r.stamped d stmt place mid)
  unfolding r.stamped
  stamped_sound b c {place} s f = after_if (nat_le conditional_rank (rank place)) (λ h. stamped_rest_sound b c s (leb-true conditional_rank (rank place) h) f) (λ h. nothing)

  plain_form : {b c : Bool} {v : Option Expr} {ts mid rest : Tokens} → IsGiven d v ts mid → Found (want.Mark m.Semicolon) mid rest → Formed (suc d) b c ts (k.Expr v) rest
  plain_form {v} a (found_at f) = record { forms = expression a.given f; low = omega (arith, measure.measure-Expr max v, a.low) }

  plain_sound : (b c : Bool) (v : Option Expr) (ts mid : Tokens) → IsGiven d v ts mid → After (Formed (suc d) b c ts) (r.plain d stmt v mid)
  unfolding r.plain
  plain_sound b c v ts mid a = after_then (after_expect (want.Mark m.Semicolon) mid) (λ u rest f. just (plain_form a f))

  begun_sound : (b c : Bool) (ts : Tokens) → After (Formed (suc d) b c ts) (r.begun_by_expr d stmt ts)
  unfolding r.begun_by_expr r.after_expression
  begun_sound b c ts = after_then (expr_sound d 1 ts) (λ x mid s. after_branch (want.Note note.StampedAssign) mid _ _ (λ rest f. stamped_sound b c s f)
      (plain_sound b c (Some x) ts mid (record { given = given s.spelled; low = s.low })))

  expression_sound : (b c : Bool) (ts : Tokens) → After (Formed (suc d) b c ts) (r.expression d stmt ts)
  unfolding r.expression
  expression_sound b c ts = after_if (mark_next m.Semicolon ts) (λ h. plain_sound b c None ts ts (record { given = absent; low = omega arith })) (λ h. begun_sound b c ts)

  form_by_sound : (b c : Bool) (t : Token) (ts : Tokens) (x : TokenKind) → t.kind ≡ x → After (Formed (suc d) b c (t ∷ ts)) (r.form_by d stmt b c x (t ∷ ts) ts)
  form_by_sound b c t ts (Mark m.LeftBrace) is = compound_form_sound b c t ts is
  form_by_sound b c t ts (Keyword w.If) is = if_sound b c t ts is
  form_by_sound b c t ts (Keyword w.While) is = while_sound b c t ts is
  form_by_sound b c t ts (Keyword w.Do) is = do_sound b c t ts is
  form_by_sound b c t ts (Keyword w.For) is = for_sound b c t ts is
  form_by_sound b c t ts (Keyword w.Switch) is = switch_sound b c t ts is
  form_by_sound b c t ts (Keyword w.Break) is = break_sound b c t ts is
  form_by_sound b c t ts (Keyword w.Continue) is = continue_sound b c t ts is
  form_by_sound b c t ts (Keyword w.Return) is = return_sound b c t ts is
  form_by_sound b c t ts (Note note.Timely) is = timely_sound b c t ts is
  form_by_sound b c t ts (Note note.Expires) is = expires_sound b c t ts is
  form_by_sound b c t ts _ is = expression_sound b c (t ∷ ts)

  form_sound : (b c : Bool) (ts : Tokens) → After (Formed (suc d) b c ts) (r.form d stmt b c ts)
  unfolding r.form
  form_sound b c [] = nothing
  form_sound b c (t ∷ ts) = form_by_sound b c t ts t.kind refl

  pub formed_sound : (b c : Bool) (ts : Tokens) → After (λ y rest. Stated (suc d) b c y ts rest) (r.formed d stmt b c ts)
  unfolding r.formed
  formed_sound b c ts = after_then (form_sound b c ts) (λ kind rest f. just (record { states = states f.forms; low = f.low }))

pub statement_sound : (d : ℕ) (b c : Bool) (ts : Tokens) → After (λ y rest. Stated d b c y ts rest) (r.statement d b c ts)
unfolding r.statement
statement_sound zero b c ts = nothing
statement_sound (suc d) b c ts = formed_sound d (r.statement d) (statement_sound d) b c ts

-- The source that stands there is read.
use Rattle.std.proofs.Common.{◌≡◌, ℕ, suc, ◌+◌, ◌<◌, ◌≤◌, Bool, true, false, List, [], ◌∷◌, max, length, Option, Some, None, refl, sym, ap, ◌∙◌, arith}
use Rattle.c_lex.specs.declared.token.Token.{Token}
use Rattle.c_lex.specs.declared.token.TokenKind.{TokenKind}
use Rattle.c_lex.specs.declared.token.TokenKind.TheVariants.{Word, Keyword, Mark, Note}
use Rattle.c_lex.specs.declared.token.Keyword.{Keyword as AKeyword}
use Rattle.c_lex.specs.declared.token.Keyword.TheVariants as w
use Rattle.c_lex.specs.declared.token.Mark.{Mark as AMark}
use Rattle.c_lex.specs.declared.token.Mark.TheVariants as m
use Rattle.c_lex.specs.declared.token.Note.TheVariants as note
use Rattle.c_tree.specs.declared.qualified.Qual.{Qual}
use Rattle.c_tree.specs.declared.qualified.Base.{Base}
use Rattle.c_tree.specs.declared.qualified.Spec.{Spec}
use Rattle.c_tree.specs.declared.expression.Expr.{Expr}
use Rattle.c_tree.specs.declared.declarations.Duration.{Duration}
use Rattle.c_tree.specs.declared.declarations.Declr.{Declr}
use Rattle.c_tree.specs.declared.declarations.Initial.{Initial}
use Rattle.c_tree.specs.declared.declarations.Init.{Init}
use Rattle.c_tree.specs.declared.declarations.Declaration.{Declaration}
use Rattle.c_tree.specs.declared.statements.Compound.{Compound}
use Rattle.c_tree.specs.declared.unit.Member.{Member}
use Rattle.c_tree.specs.declared.unit.Struct.{Struct}
use Rattle.c_tree.specs.declared.unit.Param.{Param}
use Rattle.c_tree.specs.declared.unit.Params.{Params}
use Rattle.c_tree.specs.declared.unit.Function.{Function}
use Rattle.c_tree.specs.declared.unit.External.{External}
use Rattle.c_tree.specs.declared.unit.External.TheVariants as external
use Rattle.c_tree.specs.declared.unit.Tree.{Tree}
use Rattle.c_tree.specs.Measure.{all, optional, expr_height, declr_measure, init_measure, member_measure, struct_measure, param_measure, params_measure, compound_measure, function_measure, external_measure, height}
use Rattle.c_parse_expr.specs.declared.wanted.Wanted.TheVariants as want
use Rattle.c_parse_expr.specs.Expected.{fits}
use Rattle.c_parse_expr.specs.Ranks.{conditional_rank}
use Rattle.c_parse_expr.specs.TypeWords.{Tokens, line_at, qual_of, SpellsQuals, no_qual, a_qual, SpellsKeyword, said, unsaid, no_sign, signed, unsigned, SpellsBase, void, char, unsigned_char, struct, int, signed_alone, unsigned_int, short, SpellsSpec, specified, SpellsStars, no_star, a_star}
use Rattle.c_parse_expr.specs.Grammar.{SpellsBounds}
use Rattle.c_parse_stmt.specs.Repeats.{SpellsCommas, last, further, one_more}
use Rattle.c_parse_stmt.specs.Declarations.{Declares, declares, Initialises, without, with_value, SpellsInit, inits, SpellsDeclaration, declaring}
use Rattle.c_parse.specs.Externals.{SpellsMember, members, SpellsStruct, structure, SpellsTitle, untitled, titled, SpellsSize, unsized, sized, SpellsBrackets, no_bracket, a_bracket, Parametrises, parametrises, void_alone, Takes, nothing_taken, taken, Ends, prototype, with_body, SpellsFunction, function, SpellsLifetime, for_ever, expires_after, SpellsInits, no_inits, some_inits, SpellsExternal, a_struct, a_function, a_declaration, SpellsTree, spells_tree}
use Rattle.c_parse_expr.specs.Steps.{take_if, mark_next}
use Rattle.c_parse_expr.specs.TypeReading.{names_type}
use Rattle.c_parse_expr.specs.Reading as e
use Rattle.c_parse_stmt.specs.DeclarationReading as decl
use Rattle.c_parse_stmt.specs.StatementReading as stmt
use Rattle.c_parse.specs.ExternalReading as r
use Rattle.c_parse_expr.proofs.Fitting.{it_fits, fits_not}
use Rattle.c_parse_stmt.proofs.Repeated.{commas_again, commas_shorter, Anywhere, many_apart, many_again, many_shorter}
use Rattle.c_parse_expr.proofs.TypeComplete.{spec_shorter, spec_start, spec_again, stars_shorter, Untyped, untyped_unqualified, stars_untyped, all_stars_again}
use Rattle.c_parse_expr.proofs.Complete.{spells_start, spells_shorter, bounds_shorter, lacks, closes, another_mark, bounds_lack, expr_again, all_bounds_again}
use Rattle.c_parse_stmt.proofs.DeclarationComplete.{declares_shorter, inits_shorter, declaring_shorter, lasts_shorter, start_open, duration_again, EndsInit, ends_init, stars_before, word_lacks, untyped_word, declares_untyped, Behind, alone, followed, init_again, declaration_rest_again, declaration_again}
use Rattle.c_parse_stmt.proofs.StatementComplete.{composes_shorter, composes_unclosed, type_unclosed, brace_closes, compound_again, statement_again}
use Rattle.c_parse_expr.proofs.AfterSteps.{expect_found, take_found, Lacks, take_lacking, other_token, word_found}

-- ---- each part takes a token

members_shorter : (x : Member) (ts rest : Tokens) → SpellsMember x ts rest → length rest < length ts
members_shorter x ts rest (members a b is) = omega (arith, spec_shorter a, commas_shorter (λ x ts rest a. declares_shorter a) b)

structures_shorter : {x : Struct} {ts rest : Tokens} → SpellsStruct x ts rest → length rest < length ts
structures_shorter (structure a b c l f) = omega (arith, many_shorter members_shorter l)

titled_shorter : {n : Option (List ℕ)} {ts rest : Tokens} → SpellsTitle n ts rest → length rest ≤ length ts
titled_shorter untitled = omega arith
titled_shorter (titled is) = omega arith

sized_shorter : {x : Option Expr} {ts rest : Tokens} → SpellsSize x ts rest → length rest ≤ length ts
sized_shorter unsized = omega arith
sized_shorter (sized s b) = omega (arith, spells_shorter s)

bracketed_shorter : {x : Option (Option Expr)} {es : List Expr} {ts rest : Tokens} → SpellsBrackets x es ts rest
    → length rest ≤ length ts
bracketed_shorter no_bracket = omega arith
bracketed_shorter (a_bracket f a g b) = omega (arith, sized_shorter a, bounds_shorter b)

param_shorter : (x : Param) (ts rest : Tokens) → Parametrises x ts rest → length rest < length ts
param_shorter x ts rest (parametrises a b c f) =
    omega (arith, spec_shorter a, stars_shorter b, titled_shorter c, bracketed_shorter f)

said_shorter : {x : AKeyword} {b : Bool} {ts rest : Tokens} → SpellsKeyword x b ts rest → length rest ≤ length ts
said_shorter (said is) = omega arith
said_shorter unsaid = omega arith

takes_shorter : {x : Params} {ts rest : Tokens} → Takes x ts rest → length rest ≤ length ts
takes_shorter (nothing_taken a) = said_shorter a
takes_shorter (taken l h) = omega (arith, commas_shorter param_shorter l)

ends_shorter : {ps : Params} {x : Option Compound} {ts rest : Tokens} → Ends ps x ts rest → length rest < length ts
ends_shorter (prototype is) = omega arith
ends_shorter (with_body h a) = composes_shorter a

functions_shorter : {x : Function} {ts rest : Tokens} → SpellsFunction x ts rest → length rest < length ts
functions_shorter (function a b is f l g x) = omega (arith, spec_shorter a, stars_shorter b, takes_shorter l, ends_shorter x)

lifetimes_shorter : {x : Option Duration} {ts rest : Tokens} → SpellsLifetime x ts rest → length rest ≤ length ts
lifetimes_shorter for_ever = omega arith
lifetimes_shorter (expires_after f g l h) = omega (arith, lasts_shorter l)

some_shorter : {is : List Init} {ts rest : Tokens} → SpellsInits is ts rest → length rest ≤ length ts
some_shorter no_inits = omega arith
some_shorter (some_inits l) = omega (arith, commas_shorter inits_shorter l)

externals_shorter : (x : External) (ts rest : Tokens) → SpellsExternal x ts rest → length rest < length ts
externals_shorter x ts rest (a_struct a l is) = omega (arith, structures_shorter a, some_shorter l)
externals_shorter x ts rest (a_function a f) = omega (arith, said_shorter a, functions_shorter f)
externals_shorter x ts rest (a_declaration a l f) = omega (arith, said_shorter a, lifetimes_shorter l, declaring_shorter f)

-- ---- what comes next

type_lacks : (x : AKeyword) (ts : Tokens) → e.type_next ts ≡ true → names_type (Keyword x) ≡ false → Lacks (want.Keyword x) ts
type_lacks x [] h n = tt
type_lacks x (t ∷ ts) h n = fits_not (want.Keyword x) t.kind (λ is. let z = ap names_type is in cc)

type_lifetime : (ts : Tokens) → e.type_next ts ≡ true → r.lifetime_next ts ≡ false
type_lifetime [] h = refl
type_lifetime (t ∷ ts) h = fits_not (want.Note note.ExpiresAfter) t.kind (λ is. let z = ap names_type is in cc)

type_mark : (x : AMark) (ts : Tokens) → e.type_next ts ≡ true → mark_next x ts ≡ false
type_mark x [] h = refl
type_mark x (t ∷ ts) h = fits_not (want.Mark x) t.kind (λ is. let z = ap names_type is in cc)

-- no brace comes next
abbrev Unbraced : Tokens → Type 0
Unbraced ts = mark_next m.LeftBrace ts ≡ false

not_struct : (t : Token) (ts : Tokens) → fits (want.Keyword w.Struct) t.kind ≡ false → r.struct_next (t ∷ ts) ≡ false
not_struct t [] h = refl
not_struct t (u ∷ ts) h = rw h refl

other_start : (t : Token) (ts : Tokens) (x : AKeyword) → t.kind ≡ Keyword x → (x ≡ w.Struct → ⊥) → r.struct_next (t ∷ ts) ≡ false
other_start t ts x is ne = not_struct t ts
    (other_token (want.Keyword w.Struct) t (Keyword x) is (λ z. ne (let y : Keyword x ≡ Keyword w.Struct = z in cc)))

qual_start : (t : Token) (ts : Tokens) (q : Qual) → qual_of t.kind ≡ Some q → r.struct_next (t ∷ ts) ≡ false
qual_start t ts q is = not_struct t ts (fits_not (want.Keyword w.Struct) t.kind (λ x. let z = ap qual_of x in cc))

quals_unbraced : {qs : List Qual} {ts rest : Tokens} → SpellsQuals qs ts rest → Unbraced rest → Unbraced ts
quals_unbraced no_qual h = h
quals_unbraced (a_qual {t} is x) h = fits_not (want.Mark m.LeftBrace) t.kind (λ y. let z = ap qual_of y in cc)

base_start : {b : Base} {ts rest : Tokens} → SpellsBase b ts rest → Unbraced rest → r.struct_next ts ≡ false
base_start (void {t} {rest} is) h = other_start t rest w.Void is (λ z. cc)
base_start (char {t} {rest} is) h = other_start t rest w.Char is (λ z. cc)
base_start (unsigned_char {t} {u} {rest} is a) h = other_start t (u ∷ rest) w.Unsigned is (λ z. cc)
base_start (struct {t} {u} {rest} is a) h = let x = it_fits (want.Keyword w.Struct) t.kind is in rw (x, h) refl
base_start (int {t} {rest} (said {t = s} a) is) h = other_start s (t ∷ rest) w.Signed a (λ z. cc)
base_start (int {t} {rest} unsaid is) h = other_start t rest w.Int is (λ z. cc)
base_start (signed_alone {t} {rest} is) h = other_start t rest w.Signed is (λ z. cc)
base_start (unsigned_int {t} {ts} is a) h = other_start t ts w.Unsigned is (λ z. cc)
base_start (short {t} {mid} no_sign is a) h = other_start t mid w.Short is (λ z. cc)
base_start (short {t} {mid} (signed {t = s} z) is a) h = other_start s (t ∷ mid) w.Signed z (λ y. cc)
base_start (short {t} {mid} (unsigned {t = s} z) is a) h = other_start s (t ∷ mid) w.Unsigned z (λ y. cc)

spec_struct : {s : Spec} {ts rest : Tokens} → SpellsSpec s ts rest → Unbraced rest → r.struct_next ts ≡ false
spec_struct (specified no_qual b c) h = base_start b (quals_unbraced c h)
spec_struct (specified (a_qual {q} {t} {ts} is x) b c) h = qual_start t ts q is

word_unbraced : (t : Token) (n : List ℕ) (rest : Tokens) → t.kind ≡ Word n → Unbraced (t ∷ rest)
word_unbraced t n rest is = word_lacks m.LeftBrace t n is

stars_unbraced : {qss : List (List Qual)} {ts rest : Tokens} → SpellsStars qss ts rest → Unbraced rest → Unbraced ts
stars_unbraced no_star h = h
stars_unbraced (a_star {t} is q s) h = another_mark m.LeftBrace m.Star t is (λ z. cc)

inits_unbraced : {is : List Init} {ts rest : Tokens} → SpellsCommas SpellsInit is ts rest → Unbraced ts
inits_unbraced (last (inits (declares {n} {t} {mid} a is b) c)) = stars_unbraced a (word_unbraced t n mid is)
inits_unbraced (further (inits (declares {n} {t} {mid} a is b) c) comma f) = stars_unbraced a (word_unbraced t n mid is)

declaring_struct : {x : Declaration} {ts rest : Tokens} → SpellsDeclaration x ts rest → r.struct_next ts ≡ false
declaring_struct (declaring a b is) = spec_struct a (inits_unbraced b)

declaring_start : {x : Declaration} {ts rest : Tokens} → SpellsDeclaration x ts rest → e.type_next ts ≡ true
declaring_start (declaring a b is) = spec_start a

functions_struct : {x : Function} {ts rest : Tokens} → SpellsFunction x ts rest → r.struct_next ts ≡ false
functions_struct (function {n} {t} {u} {others} a b is f l g x) =
    spec_struct a (stars_unbraced b (word_unbraced t n (u ∷ others) is))

functions_start : {x : Function} {ts rest : Tokens} → SpellsFunction x ts rest → e.type_next ts ≡ true
functions_start (function a b is f l g x) = spec_start a

-- ---- parts

-- no name comes next
abbrev pub Unnamed : Tokens → Type 0
Unnamed [] = Unit {0}
Unnamed (t ∷ _) = (n : List ℕ) → t.kind ≡ Word n → ⊥

title_none : (x : TokenKind) (ts behind : Tokens) → ((n : List ℕ) → x ≡ Word n → ⊥) → r.title_by x ts behind ≡ Some (None, ts)
title_none (Word n) ts behind h = absurd (h n refl)
title_none _ ts behind h = refl

-- a parameter may end here
record EndsParam (rest : Tokens) : Type 0 where
  bounds : Lacks (want.Mark m.LeftBracket) rest
  star : Lacks (want.Mark m.Star) rest
  typed : Untyped rest
  named : Unnamed rest

mark_unnamed : (x : AMark) (t : Token) → t.kind ≡ Mark x → (n : List ℕ) → t.kind ≡ Word n → ⊥
mark_unnamed x t is n e = let z : Mark x ≡ Word n = sym is ∙ e in cc

ends_param : (x : AMark) (t : Token) (rest : Tokens) → t.kind ≡ Mark x → (x ≡ m.LeftBracket → ⊥) → (x ≡ m.Star → ⊥)
    → EndsParam (t ∷ rest)
ends_param x t rest is a b = record {
  bounds = another_mark m.LeftBracket x t is a;
  star = another_mark m.Star x t is b;
  typed = rw is refl;
  named = mark_unnamed x t is;
}

-- what follows the name of a parameter
record EndsName (rest : Tokens) : Type 0 where
  star : Lacks (want.Mark m.Star) rest
  typed : Untyped rest
  named : Unnamed rest

bracketed_ends : {x : Option (Option Expr)} {es : List Expr} {ts rest : Tokens} → SpellsBrackets x es ts rest → EndsParam rest
    → EndsName ts
bracketed_ends no_bracket h = record { star = h.star; typed = h.typed; named = h.named }
bracketed_ends (a_bracket {t} f a g b) h =
    record { star = another_mark m.Star m.LeftBracket t f (λ z. cc); typed = rw f refl; named = mark_unnamed m.LeftBracket t f }

titled_untyped : {n : Option (List ℕ)} {ts rest : Tokens} → SpellsTitle n ts rest → EndsName rest → Untyped ts
titled_untyped untitled h = h.typed
titled_untyped (titled {n} {t} {rest} is) h = untyped_word t n rest is

titled_star : {n : Option (List ℕ)} {ts rest : Tokens} → SpellsTitle n ts rest → EndsName rest → Lacks (want.Mark m.Star) ts
titled_star untitled h = h.star
titled_star (titled {n} {t} is) h = word_lacks m.Star t n is

param_start : {x : Param} {ts rest : Tokens} → Parametrises x ts rest → e.type_next ts ≡ true
param_start (parametrises a b c f) = spec_start a

params_open : {ps : List Param} {ts rest : Tokens} → SpellsCommas Parametrises ps ts rest → mark_next m.RightParen ts ≡ false
params_open (last {ts} a) = type_mark m.RightParen ts (param_start a)
params_open (further {ts} a is b) = type_mark m.RightParen ts (param_start a)

paren_no_void : (u : Token) (rest : Tokens) → u.kind ≡ Mark m.RightParen → void_alone (u ∷ rest) ≡ false
paren_no_void u [] is = refl
paren_no_void u (t ∷ rest) is = let a = other_token (want.Keyword w.Void) u (Mark m.RightParen) is (λ z. cc) in rw a refl

star_or_word : {stars : List (List Qual)} (n : List ℕ) (t : Token) (mid : Tokens) {ts : Tokens}
    → SpellsStars stars ts (t ∷ mid) → t.kind ≡ Word n → mark_next m.Semicolon ts ≡ false
star_or_word n t mid no_star is = word_lacks m.Semicolon t n is
star_or_word n t mid (a_star {t = s} a q b) is = another_mark m.Semicolon m.Star s a (λ z. cc)

abbrev Unbracketed : Tokens → Type 0
Unbracketed ts = Lacks (want.Mark m.LeftBracket) ts

structure_next : {x : Struct} {ts rest : Tokens} → SpellsStruct x ts rest → r.struct_next ts ≡ true
structure_next (structure {t} {v} f g h l i) = let a = it_fits (want.Keyword w.Struct) t.kind f in let b =
    it_fits (want.Mark m.LeftBrace) v.kind h in rw (a, b) refl

-- a declarator is no function: no parenthesis stands behind its name
behind_lacks : {i : Init} {is : List Init} {u : Token} {ts behind rest : Tokens} → Behind i is ts behind (u ∷ rest)
    → u.kind ≡ Mark m.Semicolon → Lacks (want.Mark m.LeftParen) behind
behind_lacks {u} alone close = another_mark m.LeftParen m.Semicolon u close (λ z. cc)
behind_lacks (followed {t} comma b) close = another_mark m.LeftParen m.Comma t comma (λ z. cc)

init_lacks : {bounds : List Expr} {value : Option Initial} {i : Init} {is : List Init} {u : Token}
    {ts mid at behind rest : Tokens} → SpellsBounds bounds mid at → Initialises value at behind
    → Behind i is ts behind (u ∷ rest) → u.kind ≡ Mark m.Semicolon → Lacks (want.Mark m.LeftParen) mid
init_lacks b without z close = bounds_lack m.LeftParen (λ x. cc) b (behind_lacks z close)
init_lacks b (with_value {t} is v) z close =
    bounds_lack m.LeftParen (λ x. cc) b (another_mark m.LeftParen m.Assign t is (λ x. cc))

passed : {i : Init} {is : List Init} {ts other behind rest : Tokens} → Behind i is ts behind rest → Behind i is other behind rest
passed alone = alone
passed (followed comma b) = followed comma b

shorter_left : (ts rest : Tokens) → length rest < length ts → r.some_left ts ≡ true
shorter_left [] rest h = absurd (omega arith)
shorter_left (t ∷ ts) rest h = refl

same_some : {A : Type 0} {x y : A} → Some x ≡ Some y → x ≡ y
same_some e = cc

title_again : (n : Option (List ℕ)) (ts rest : Tokens) → SpellsTitle n ts rest → Unnamed rest → r.title ts ≡ Some (n, rest)
unfolding r.title
title_again n [] rest untitled h = refl
title_again n (t ∷ ts) rest untitled h = title_none t.kind (t ∷ ts) ts h
title_again n ts rest (titled is) h = rw is refl

module _ (d : ℕ) where
  declr_again : (x : Declr) (ts rest : Tokens) → Declares x ts rest → declr_measure max x ≤ d
      → Lacks (want.Mark m.LeftBracket) rest → r.declr d ts ≡ Some (x, rest)
  unfolding r.declr
  declr_again x ts rest (declares {stars} {n} {bounds} {t} {mid} a is b) low ends =
      let one = stars_before stars t n ts mid a is in
      let two = all_bounds_again (e.expr d) d (expr_again d) bounds mid rest b low ends in
      rw (one, word_found t n mid is, two) refl

  declr_list_untyped : {ds : List Declr} {ts rest : Tokens} → SpellsCommas Declares ds ts rest → Untyped ts
  declr_list_untyped (last a) = declares_untyped a
  declr_list_untyped (further a is b) = declares_untyped a

  member_again : (x : Member) (ts rest : Tokens) → SpellsMember x ts rest → member_measure max x ≤ d → Anywhere rest
      → r.member d ts ≡ Some (x, rest)
  unfolding r.member
  member_again x ts rest (members {spec} {ds} {t} {mid} a b is) low any =
      let one = spec_again spec ts mid a (declr_list_untyped b) in
      let two = commas_again (r.declr d) Declares (declr_measure max) d Unbracketed (λ x ts rest a. declares_shorter a)
      declr_again
      (λ t rest is. another_mark m.LeftBracket m.Comma t is (λ z. cc)) ds mid (t ∷ rest) b low
      (another_mark m.LeftBracket m.Semicolon t is (λ z. cc))
      (another_mark m.Comma m.Semicolon t is (λ z. cc)) in
      rw (one, two, expect_found (want.Mark m.Semicolon) t rest is) refl

  member_unclosed : (x : Member) (ts rest : Tokens) → SpellsMember x ts rest → stmt.unclosed ts ≡ true
  member_unclosed x ts rest (members a b is) = type_unclosed ts (spec_start a)

  structure_again : (x : Struct) (ts rest : Tokens) → SpellsStruct x ts rest → struct_measure max x ≤ suc d
      → r.structure_at d (line_at ts) ts ≡ Some (x, rest)
  unfolding r.structure_at
  structure_again x ts rest (structure {n} {x = y} {xs = ys} {t} {u} {v} {z} {ts = behind} f g h (one_more {mid} a l) i) low =
      let one = member_again y behind mid a (omega arith) tt in
      let two = many_again (r.member d) SpellsMember (member_measure max) d Anywhere members_shorter member_again stmt.unclosed
      member_unclosed ys mid (z ∷ rest) (many_apart l)
      (omega arith) (brace_closes z rest i) in
      rw (
        expect_found (want.Keyword w.Struct) t (u ∷ v ∷ behind) f,
        word_found u n (v ∷ behind) g,
        expect_found (want.Mark m.LeftBrace) v behind h,
        one,
        two,
        expect_found (want.Mark m.RightBrace) z rest i,
      ) refl

  commas_open : {is : List Init} {ts rest : Tokens} → SpellsCommas SpellsInit is ts rest → mark_next m.Semicolon ts ≡ false
  commas_open (last (inits (declares {n} {t} {mid} a is b) c)) = star_or_word n t mid a is
  commas_open (further (inits (declares {n} {t} {mid} a is b) c) comma f) = star_or_word n t mid a is

  inits_again : (is : List Init) (u : Token) (ts rest : Tokens) → SpellsInits is ts (u ∷ rest) → u.kind ≡ Mark m.Semicolon
      → all max (init_measure max) is ≤ suc d
      → r.some_inits d ts ≡ Some (is, u ∷ rest)
  unfolding r.some_inits
  inits_again is u ts rest no_inits close low = let a = it_fits (want.Mark m.Semicolon) u.kind close in rw a refl
  inits_again is u ts rest (some_inits l) close low =
      let a = commas_open l in
      let b = commas_again (decl.init d) SpellsInit (init_measure max) (suc d) EndsInit inits_shorter (init_again d)
      (λ t rest is. ends_init m.Comma t rest is (λ z. cc) (λ z. cc) (omega arith)) is ts (u ∷ rest) l low
      (ends_init m.Semicolon u rest close (λ z. cc) (λ z. cc) (omega arith))
      (another_mark m.Comma m.Semicolon u close (λ z. cc)) in rw (a, b) refl

  struct_external_again : (s : Struct) (is : List Init) (u : Token) (ts mid rest : Tokens) → SpellsStruct s ts mid
      → SpellsInits is mid (u ∷ rest) → u.kind ≡ Mark m.Semicolon
      → max (struct_measure max s) (all max (init_measure max) is) ≤ suc d
      → r.struct_external d (line_at ts) ts ≡ Some (external.Struct s is, rest)
  unfolding r.struct_external
  struct_external_again s is u ts mid rest a l close low =
      let one = structure_again s ts mid a (omega arith) in
      let two = inits_again is u mid rest l close (omega arith) in
      rw (one, two, expect_found (want.Mark m.Semicolon) u rest close) refl

  -- ---- parameters
  size_again : (x : Option Expr) (u : Token) (ts rest : Tokens) → SpellsSize x ts (u ∷ rest) → u.kind ≡ Mark m.RightBracket
      → optional expr_height x ≤ d → r.size d ts ≡ Some (x, u ∷ rest)
  unfolding r.size r.given_size
  size_again x u ts rest unsized is low = let a = it_fits (want.Mark m.RightBracket) u.kind is in rw a refl
  size_again x u ts rest (sized {e = v} s b) is low =
      let a = start_open m.RightBracket ts (lacks m.RightBracket ts (spells_start s) refl) in
      let c = expr_again d conditional_rank v ts (u ∷ rest) s b low
      (closes m.RightBracket u rest is conditional_rank (omega arith)) in rw (a, c) refl

  brackets_again : (x : Option (Option Expr)) (es : List Expr) (ts rest : Tokens) → SpellsBrackets x es ts rest
      → max (optional (optional expr_height) x) (all max expr_height es) ≤ d → Lacks (want.Mark m.LeftBracket) rest
      → r.brackets d ts ≡ Some ((x, es), rest)
  unfolding r.brackets r.bracket_rest
  brackets_again x es ts rest no_bracket low ends = rw (take_lacking (want.Mark m.LeftBracket) rest ends) refl
  brackets_again x es ts rest (a_bracket {e = y} {t} {u} {ts = behind} {mid} f a g b) low ends =
      let one = size_again y u behind mid a g (omega arith) in
      let two = all_bounds_again (e.expr d) d (expr_again d) es mid rest b (omega arith) ends in
      rw (take_found (want.Mark m.LeftBracket) t behind f, one, expect_found (want.Mark m.RightBracket) u mid g, two) refl

  param_again : (x : Param) (ts rest : Tokens) → Parametrises x ts rest → param_measure max x ≤ d → EndsParam rest
      → r.param d ts ≡ Some (x, rest)
  unfolding r.param
  param_again x ts rest (parametrises {spec} {stars} {name} {size} {es} {mid} {others} {behind} a b c f) low ends =
      let after_name = bracketed_ends f ends in
      let free = titled_untyped c after_name in
      let one = spec_again spec ts mid a (stars_untyped b free) in
      let two = all_stars_again stars mid others b (untyped_unqualified others free) (titled_star c after_name) in
      let three = title_again name others behind c after_name.named in
      let four = brackets_again size es behind rest f (omega arith) ends.bounds in rw (one, two, three, four) refl

  params_again : (x : Params) (u : Token) (ts rest : Tokens) → Takes x ts (u ∷ rest) → u.kind ≡ Mark m.RightParen
      → params_measure max x ≤ d → r.takes d ts ≡ Some (x, u ∷ rest)
  unfolding r.takes r.void_param r.param_list
  params_again x u ts rest (nothing_taken (said {t} f)) is low =
      let a = it_fits (want.Keyword w.Void) t.kind f in let b = it_fits (want.Mark m.RightParen) u.kind is in
      rw (a, b, expect_found (want.Keyword w.Void) t (u ∷ rest) f) refl
  params_again x u ts rest (nothing_taken unsaid) is low =
      let a = paren_no_void u rest is in let b = it_fits (want.Mark m.RightParen) u.kind is in rw (a, b) refl
  params_again x u ts rest (taken {ps} l h) is low =
      let a = params_open l in
      let b = commas_again (r.param d) Parametrises (param_measure max) d EndsParam param_shorter param_again
      (λ t rest is. ends_param m.Comma t rest is (λ z. cc) (λ z. cc))
      ps ts (u ∷ rest) l low (ends_param m.RightParen u rest is (λ z. cc) (λ z. cc))
      (another_mark m.Comma m.RightParen u is (λ z. cc)) in rw (h, a, b) refl

  -- ---- functions and declarations
  end_again : (ps : Params) (x : Option Compound) (ts rest : Tokens) → Ends ps x ts rest
      → optional (compound_measure max) x ≤ d → r.function_end d ps ts ≡ Some (x, rest)
  unfolding r.function_end r.no_body r.body
  end_again ps x ts rest (prototype {t} is) low =
      let a = it_fits (want.Mark m.Semicolon) t.kind is in rw (a, expect_found (want.Mark m.Semicolon) t rest is) refl
  end_again ps x ts rest (with_body {body} h a) low =
      let b = composes_unclosed a in
      let c = compound_again d (stmt.statement d) (statement_again d) false false body ts rest a low in rw (b, h, c) refl

  function_again : (b : Bool) (f : Function) (ts rest : Tokens) → SpellsFunction f ts rest → function_measure max f ≤ suc d
      → r.front d b (line_at ts) ts ≡ Some (external.Function b f, rest)
  unfolding r.front r.front_rest r.function_rest
  function_again b f ts rest (function {spec} {stars} {n} {ps} {body} {t} {u} {v} {mid} {others} {behind} a s is g l h x) low =
      let one = spec_again spec ts mid a (stars_untyped s (untyped_word t n (u ∷ others) is)) in
      let two = stars_before stars t n mid (u ∷ others) s is in
      let three = params_again ps v others behind l h (omega arith) in
      let four = end_again ps body behind rest x (omega arith) in
      rw (
        one,
        two,
        word_found t n (u ∷ others) is,
        take_found (want.Mark m.LeftParen) u others g,
        three,
        expect_found
            (want.Mark m.RightParen) v behind h,
        four,
      ) refl

  static_function : (b : Bool) (f : Function) (ts rest : Tokens) → SpellsFunction f ts rest → function_measure max f ≤ suc d
      → r.static_rest d b ts ≡ Some (external.Function b f, rest)
  unfolding r.static_rest
  static_function b f ts rest g low = let h = type_lifetime ts (functions_start g) in let x =
      function_again b f ts rest g low in rw (h, x) refl

  declared_again : (b : Bool) (s : Spec) (i : Init) (is : List Init) (u : Token) (ts mid behind rest : Tokens)
      → SpellsSpec s ts mid → SpellsInit i mid behind
      → Behind i is mid behind (u ∷ rest) → u.kind ≡ Mark m.Semicolon → init_measure max i ≤ suc d
      → all max (init_measure max) is ≤ suc d
      → r.front d b (line_at ts) ts ≡ Some (external.Declaration b None (record { spec = s; inits = i ∷ is }), rest)
  unfolding r.front r.front_rest r.plain_declaration
  declared_again b s i is u ts mid behind rest a
      (inits {i = value} {mid = last_one} (declares {stars} {n} {bounds} {t} {mid = after} x word_is y) c) z close low all_low =
      let one = spec_again s ts mid a (stars_untyped x (untyped_word t n after word_is)) in
      let two = stars_before stars t n mid after x word_is in
      let free = init_lacks y c z close in
      let three = declaration_rest_again d s (line_at mid) stars n bounds value is u after last_one behind rest y c (passed z)
      close (omega arith) (omega arith) all_low in
      rw (one, two, word_found t n after word_is, take_lacking (want.Mark m.LeftParen) after free, three) refl

  plain_again : (b : Bool) (x : Declaration) (ts rest : Tokens) → SpellsDeclaration x ts rest
      → all max (init_measure max) x.inits ≤ suc d
      → r.front d b (line_at ts) ts ≡ Some (external.Declaration b None x, rest)
  plain_again b x ts rest (declaring {spec} {t} {mid} a (last {x = i} c) is) low =
      declared_again b spec i [] t ts mid (t ∷ rest) rest a c alone is (omega arith) (omega arith)
  plain_again b x ts rest (declaring {spec} {t} {mid} a (further {x = i} {xs} {t = q} {others} c comma f) is) low =
      declared_again b spec i xs t ts mid (q ∷ others) rest a c (followed comma f) is (omega arith) (omega arith)

  declaration_again_here : (b : Bool) (life : Option Duration) (x : Declaration) (ts mid rest : Tokens)
      → SpellsLifetime life ts mid → SpellsDeclaration x mid rest
      → all max (init_measure max) x.inits ≤ suc d → r.static_rest d b ts ≡ Some (external.Declaration b life x, rest)
  unfolding r.static_rest r.timed_declaration
  declaration_again_here b life x ts mid rest for_ever a low = let h = type_lifetime ts (declaring_start a) in let y =
      plain_again b x ts rest a low in rw (h, y) refl
  declaration_again_here b life x ts mid rest (expires_after {x = time} {t} {u} {v} {ts = behind} f g l h) a low =
      let one = it_fits (want.Note note.ExpiresAfter) t.kind f in
      let two = duration_again time behind (v ∷ mid) l in
      let three = declaration_again (suc d) x mid rest a low in
      rw (
        one,
        expect_found (want.Note note.ExpiresAfter) t (u ∷ behind) f,
        expect_found (want.Mark m.LeftParen) u behind g,
        two,
        expect_found (want.Mark m.RightParen) v mid h,
        three,
      ) refl

  static_again : (b : Bool) (ts mid : Tokens) → SpellsKeyword w.Static b ts mid → Lacks (want.Keyword w.Static) mid
      → take_if (want.Keyword w.Static) ts ≡ Some (b, mid)
  static_again b ts mid (said {t} is) h = take_found (want.Keyword w.Static) t mid is
  static_again b ts mid unsaid h = take_lacking (want.Keyword w.Static) mid h

  static_struct : {b : Bool} {ts mid : Tokens} → SpellsKeyword w.Static b ts mid → r.struct_next mid ≡ false
      → r.struct_next ts ≡ false
  static_struct (said {t} {rest} is) h = other_start t rest w.Static is (λ z. cc)
  static_struct unsaid h = h

  lifetimes_lack : {life : Option Duration} {x : Declaration} {ts mid rest : Tokens} → SpellsLifetime life ts mid
      → SpellsDeclaration x mid rest → Lacks (want.Keyword w.Static) ts
  lifetimes_lack (for_ever {ts}) a = type_lacks w.Static ts (declaring_start a) refl
  lifetimes_lack (expires_after {t} f g l h) a = other_token (want.Keyword w.Static) t (Note note.ExpiresAfter) f (λ z. cc)

  lifetimes_struct : {life : Option Duration} {x : Declaration} {ts mid rest : Tokens} → SpellsLifetime life ts mid
      → SpellsDeclaration x mid rest → r.struct_next ts ≡ false
  lifetimes_struct for_ever a = declaring_struct a
  lifetimes_struct (expires_after {t} {u} {ts} f g l h) a =
      not_struct t (u ∷ ts) (other_token (want.Keyword w.Struct) t (Note note.ExpiresAfter) f (λ z. cc))

  pub external_again : (x : External) (ts rest : Tokens) → SpellsExternal x ts rest → external_measure max x ≤ suc d
      → Anywhere rest → r.an_external d ts ≡ Some (x, rest)
  unfolding r.an_external r.plain_external
  external_again x ts rest (a_struct {s} {is} {t} {mid} a l close) low any =
      let one = structure_next a in let two = struct_external_again s is t ts mid rest a l close low in rw (one, two) refl
  external_again x ts rest (a_function {b} {f} {mid} a g) low any =
      let one = static_struct a (functions_struct g) in
      let two = static_again b ts mid a (type_lacks w.Static mid (functions_start g) refl) in
      let three = static_function b f mid rest g low in rw (one, two, three) refl
  external_again x ts rest (a_declaration {b} {life} {x = y} {mid} {others} a l g) low any =
      let one = static_struct a (lifetimes_struct l g) in
      let two = static_again b ts mid a (lifetimes_lack l g) in
      let three = declaration_again_here b life y mid others rest l g low in rw (one, two, three) refl

some_front : (x : External) (ts rest : Tokens) → SpellsExternal x ts rest → r.some_left ts ≡ true
some_front x ts rest a = shorter_left ts rest (externals_shorter x ts rest a)

-- Every tree of this height that the tokens spell is read.
pub source_again : (d : ℕ) (x : Tree) (ts : Tokens) → SpellsTree x ts → height x ≤ suc d → r.source d ts ≡ Some x
unfolding r.source
source_again d x ts (spells_tree {xs} l) low =
    let a = many_again (r.an_external d) SpellsExternal (external_measure max) (suc d) Anywhere externals_shorter
    (external_again d) r.some_left some_front xs ts [] (many_apart l) low refl in
    rw a refl

-- No two trees of bounded height spell the same tokens, and so no two trees do.
pub one_tree : (x y : Tree) (ts : Tokens) → SpellsTree x ts → SpellsTree y ts → x ≡ y
one_tree x y ts a b =
    let p = source_again (height x + height y) x ts a (omega arith) in
    let q = source_again (height x + height y) y ts b (omega arith) in same_some (sym p ∙ q)

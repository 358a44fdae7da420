-- The words of a type that stand there are read.
use Rattle.std.proofs.Common.{◌≡◌, ℕ, zero, suc, ◌+◌, ◌<◌, ◌≤◌, Bool, true, false, List, [], ◌∷◌, ◌++◌, length, Option, Some, None, refl, sym, ap, ◌∙◌, append_assoc, append-nil, arith}
use Rattle.c_lex.specs.declared.token.TokenKind.{TokenKind}
use Rattle.c_lex.specs.declared.token.TokenKind.TheVariants.{Keyword}
use Rattle.c_lex.specs.declared.token.Keyword.{Keyword as AKeyword}
use Rattle.c_lex.specs.declared.token.Keyword.TheVariants as w
use Rattle.c_lex.specs.declared.token.Mark.TheVariants as m
use Rattle.c_tree.specs.declared.qualified.Qual.{Qual}
use Rattle.c_tree.specs.declared.qualified.Sign.{Sign}
use Rattle.c_tree.specs.declared.qualified.Sign.TheVariants as sign
use Rattle.c_tree.specs.declared.qualified.Base.{Base}
use Rattle.c_tree.specs.declared.qualified.Base.TheVariants as base
use Rattle.c_tree.specs.declared.qualified.Spec.{Spec}
use Rattle.c_parse_expr.specs.declared.wanted.Wanted.TheVariants as want
use Rattle.c_parse_expr.specs.TypeWords.{Tokens, qual_of, SpellsQuals, no_qual, a_qual, SpellsKeyword, said, unsaid, SpellsSign, no_sign, signed, unsigned, SpellsBase, void, char, unsigned_char, struct, int, signed_alone, unsigned_int, short, SpellsSpec, specified, SpellsStars, no_star, a_star}
use Rattle.c_parse_expr.specs.Steps.{take_if}
use Rattle.c_parse_expr.specs.TypeReading as r
use Rattle.c_parse_expr.specs.TypeReading.{names_type}
use Rattle.c_parse_expr.specs.Reading.{type_next}
use Rattle.c_parse_expr.proofs.Fitting.{fits_not}
use Rattle.c_parse_expr.proofs.AfterSteps.{take_found, take_lacking, Lacks, other_token, word_found}

-- ---- what comes next

-- no qualifier
abbrev pub Unqualified : Tokens → Type 0
Unqualified [] = Unit {0}
Unqualified (t ∷ _) = qual_of t.kind ≡ None

-- no word of a type
abbrev pub Untyped : Tokens → Type 0
Untyped [] = Unit {0}
Untyped (t ∷ _) = names_type t.kind ≡ false

-- no word that may go on with a base
abbrev goes_on_base : TokenKind → Bool
goes_on_base (Keyword w.Int) = true
goes_on_base (Keyword w.Char) = true
goes_on_base (Keyword w.Short) = true
goes_on_base _ = false

abbrev Unextended : Tokens → Type 0
Unextended [] = Unit {0}
Unextended (t ∷ _) = goes_on_base t.kind ≡ false

kind_unqualified : (x : TokenKind) → names_type x ≡ false → qual_of x ≡ None
kind_unqualified (Keyword w.Const) e = cc
kind_unqualified (Keyword w.Volatile) e = cc
kind_unqualified _ e = refl

pub untyped_unqualified : (ts : Tokens) → Untyped ts → Unqualified ts
untyped_unqualified [] h = tt
untyped_unqualified (t ∷ ts) h = kind_unqualified t.kind h

kind_unextended : (x : TokenKind) → names_type x ≡ false → goes_on_base x ≡ false
kind_unextended (Keyword w.Int) e = cc
kind_unextended (Keyword w.Char) e = cc
kind_unextended (Keyword w.Short) e = cc
kind_unextended _ e = refl

untyped_unextended : (ts : Tokens) → Untyped ts → Unextended ts
untyped_unextended [] h = tt
untyped_unextended (t ∷ ts) h = kind_unextended t.kind h

qual_unextended : (x : TokenKind) (q : Qual) → qual_of x ≡ Some q → goes_on_base x ≡ false
qual_unextended (Keyword w.Int) q e = cc
qual_unextended (Keyword w.Char) q e = cc
qual_unextended (Keyword w.Short) q e = cc
qual_unextended _ q e = refl

quals_unextended : {qs : List Qual} {ts rest : Tokens} → SpellsQuals qs ts rest → Untyped rest → Unextended ts
quals_unextended (no_qual {ts}) h = untyped_unextended ts h
quals_unextended (a_qual {q} {t} is x) h = qual_unextended t.kind q is

lacks_extension : (x : AKeyword) (ts : Tokens) → goes_on_base (Keyword x) ≡ true → Unextended ts → Lacks (want.Keyword x) ts
lacks_extension x [] e h = tt
lacks_extension x (t ∷ ts) e h = fits_not (want.Keyword x) t.kind (λ is. let z = ap goes_on_base is in cc)

-- ---- each word is a token

pub quals_shorter : {qs : List Qual} {ts rest : Tokens} → SpellsQuals qs ts rest → length rest ≤ length ts
quals_shorter no_qual = omega arith
quals_shorter (a_qual is x) = omega (arith, quals_shorter x)

said_shorter : {x : AKeyword} {b : Bool} {ts rest : Tokens} → SpellsKeyword x b ts rest → length rest ≤ length ts
said_shorter (said is) = omega arith
said_shorter unsaid = omega arith

signs_shorter : {s : Option Sign} {ts rest : Tokens} → SpellsSign s ts rest → length rest ≤ length ts
signs_shorter no_sign = omega arith
signs_shorter (signed is) = omega arith
signs_shorter (unsigned is) = omega arith

based_shorter : {b : Base} {ts rest : Tokens} → SpellsBase b ts rest → length rest < length ts
based_shorter (void is) = omega arith
based_shorter (char is) = omega arith
based_shorter (unsigned_char is a) = omega arith
based_shorter (struct is a) = omega arith
based_shorter (int a is) = omega (arith, said_shorter a)
based_shorter (signed_alone is) = omega arith
based_shorter (unsigned_int is a) = omega (arith, said_shorter a)
based_shorter (short s is a) = omega (arith, signs_shorter s, said_shorter a)

pub spec_shorter : {s : Spec} {ts rest : Tokens} → SpellsSpec s ts rest → length rest < length ts
spec_shorter (specified a b c) = omega (arith, quals_shorter a, based_shorter b, quals_shorter c)

pub stars_shorter : {qss : List (List Qual)} {ts rest : Tokens} → SpellsStars qss ts rest → length rest + length qss ≤ length ts
stars_shorter no_star = omega arith
stars_shorter (a_star is q s) = omega (arith, quals_shorter q, stars_shorter s)

-- ---- what a type begins with

qual_names : (x : TokenKind) (q : Qual) → qual_of x ≡ Some q → names_type x ≡ true
qual_names (Keyword w.Const) q e = refl
qual_names (Keyword w.Volatile) q e = refl
qual_names (Keyword w.Void) q e = refl
qual_names (Keyword w.Char) q e = refl
qual_names (Keyword w.Struct) q e = refl
qual_names (Keyword w.Int) q e = refl
qual_names (Keyword w.Signed) q e = refl
qual_names (Keyword w.Unsigned) q e = refl
qual_names (Keyword w.Short) q e = refl
qual_names _ q e = cc

based_start : {b : Base} {ts rest : Tokens} → SpellsBase b ts rest → type_next ts ≡ true
based_start (void is) = rw is refl
based_start (char is) = rw is refl
based_start (unsigned_char is a) = rw is refl
based_start (struct is a) = rw is refl
based_start (int (said a) is) = rw a refl
based_start (int unsaid is) = rw is refl
based_start (signed_alone is) = rw is refl
based_start (unsigned_int is a) = rw is refl
based_start (short no_sign is a) = rw is refl
based_start (short (signed s) is a) = rw s refl
based_start (short (unsigned s) is a) = rw s refl

based_unqualified : {b : Base} {ts rest : Tokens} → SpellsBase b ts rest → Unqualified ts
based_unqualified (void is) = rw is refl
based_unqualified (char is) = rw is refl
based_unqualified (unsigned_char is a) = rw is refl
based_unqualified (struct is a) = rw is refl
based_unqualified (int (said a) is) = rw a refl
based_unqualified (int unsaid is) = rw is refl
based_unqualified (signed_alone is) = rw is refl
based_unqualified (unsigned_int is a) = rw is refl
based_unqualified (short no_sign is a) = rw is refl
based_unqualified (short (signed s) is a) = rw s refl
based_unqualified (short (unsigned s) is a) = rw s refl

pub spec_start : {s : Spec} {ts rest : Tokens} → SpellsSpec s ts rest → type_next ts ≡ true
spec_start (specified no_qual b c) = based_start b
spec_start (specified (a_qual {q} {t} is x) b c) = qual_names t.kind q is

-- ---- qualifiers

quals_found : (found qs : List Qual) (ts rest : Tokens) → SpellsQuals qs ts rest → Unqualified rest → r.quals found ts ≡ Some (found ++ qs, rest)
unfolding r.quals
quals_found found qs [] rest no_qual h = ap (λ z. Some (z, [])) (sym (append-nil found))
quals_found found qs (t ∷ ts) rest no_qual h = rw h (ap (λ z. Some (z, t ∷ ts)) (sym (append-nil found)))
quals_found found qs ts rest (a_qual {q} {qs = others} {t} {ts = behind} is x) h =
    rw is (quals_found (found ++ q ∷ []) others behind rest x h ∙ ap (λ z. Some (z, rest)) (append_assoc found (q ∷ []) others))

pub quals_again : (qs : List Qual) (ts rest : Tokens) → SpellsQuals qs ts rest → Unqualified rest → r.quals [] ts ≡ Some (qs, rest)
quals_again qs ts rest x h = quals_found [] qs ts rest x h

-- ---- the base

int_again : (b : Bool) (ts rest : Tokens) → SpellsKeyword w.Int b ts rest → Unextended rest → take_if (want.Keyword w.Int) ts ≡ Some (b, rest)
int_again b ts rest (said {t} is) h = take_found (want.Keyword w.Int) t rest is
int_again b ts rest unsaid h = take_lacking (want.Keyword w.Int) rest (lacks_extension w.Int rest refl h)

short_again : (s : Option Sign) (b : Bool) (ts rest : Tokens) → SpellsKeyword w.Int b ts rest → Unextended rest → r.short_rest s ts ≡ Some (base.Short s b, rest)
unfolding r.short_rest
short_again s b ts rest a h = let e = int_again b ts rest a h in rw e refl

-- behind `unsigned` only `int` may come, or nothing of a base
lacks_before : (x : AKeyword) {b : Bool} (ts : Tokens) {rest : Tokens} → goes_on_base (Keyword x) ≡ true → (w.Int ≡ x → ⊥) → SpellsKeyword w.Int b ts rest → Unextended rest
    → Lacks (want.Keyword x) ts
lacks_before x ts e ne (said {t} is) h = other_token (want.Keyword x) t (Keyword w.Int) is (λ z. ne (let y : Keyword w.Int ≡ Keyword x = z in cc))
lacks_before x ts e ne (unsaid) h = lacks_extension x ts e h

base_again : (b : Base) (ts rest : Tokens) → SpellsBase b ts rest → Unextended rest → r.a_base ts ≡ Some (b, rest)
unfolding r.a_base r.struct_rest r.signed_rest r.unsigned_rest r.unsigned_int
base_again b ts rest (void is) h = rw is refl
base_again b ts rest (char is) h = rw is refl
base_again b ts rest (unsigned_char {u} is a) h = let e = take_found (want.Keyword w.Char) u rest a in rw (is, e) refl
base_again b ts rest (struct {u} {n} is a) h = let e = word_found u n rest a in rw (is, e) refl
base_again b ts rest (int {t} (said {t = s} a) is) h = let e = take_found (want.Keyword w.Int) t rest is in rw (a, e) refl
base_again b ts rest (int unsaid is) h = rw is refl
base_again b ts rest (signed_alone is) h =
    let e = take_lacking (want.Keyword w.Int) rest (lacks_extension w.Int rest refl h) in
    let f = take_lacking (want.Keyword w.Short) rest (lacks_extension w.Short rest refl h) in rw (is, e, f) refl
base_again b ts rest (unsigned_int {b = c} {ts = behind} is a) h =
    let e = take_lacking (want.Keyword w.Char) behind (lacks_before w.Char behind refl (λ z. cc) a h) in
    let f = take_lacking (want.Keyword w.Short) behind (lacks_before w.Short behind refl (λ z. cc) a h) in
    let g = int_again c behind rest a h in rw (is, e, f, g) refl
base_again b ts rest (short {b = c} {t} {mid} no_sign is a) h = rw is (short_again None c mid rest a h)
base_again b ts rest (short {b = c} {t} {mid} (signed {t = s} z) is a) h =
    let e = take_lacking (want.Keyword w.Int) (t ∷ mid) (other_token (want.Keyword w.Int) t (Keyword w.Short) is (λ y. cc)) in
    let f = take_found (want.Keyword w.Short) t mid is in rw (z, e, f) (short_again (Some sign.Signed) c mid rest a h)
base_again b ts rest (short {b = c} {t} {mid} (unsigned {t = s} z) is a) h =
    let e = take_lacking (want.Keyword w.Char) (t ∷ mid) (other_token (want.Keyword w.Char) t (Keyword w.Short) is (λ y. cc)) in
    let f = take_found (want.Keyword w.Short) t mid is in rw (z, e, f) (short_again (Some sign.Unsigned) c mid rest a h)

pub spec_again : (s : Spec) (ts rest : Tokens) → SpellsSpec s ts rest → Untyped rest → r.spec ts ≡ Some (s, rest)
unfolding r.spec
spec_again s ts rest (specified {before} {after = behind} {b} {mid} {others} x y z) h =
    let e = quals_again before ts mid x (based_unqualified y) in
    let f = base_again b mid others y (quals_unextended z h) in
    let g = quals_again behind others rest z (untyped_unqualified rest h) in rw (e, f, g) refl

-- ---- stars

stars_unqualified : {qss : List (List Qual)} {ts rest : Tokens} → SpellsStars qss ts rest → Unqualified rest → Unqualified ts
stars_unqualified no_star h = h
stars_unqualified (a_star is q s) h = rw is refl

pub stars_untyped : {qss : List (List Qual)} {ts rest : Tokens} → SpellsStars qss ts rest → Untyped rest → Untyped ts
stars_untyped no_star h = h
stars_untyped (a_star is q s) h = rw is refl

stars_found : (n : ℕ) (found qss : List (List Qual)) (ts rest : Tokens) → SpellsStars qss ts rest → length qss ≤ n → Unqualified rest → Lacks (want.Mark m.Star) rest
    → r.stars n found ts ≡ Some (found ++ qss, rest)
unfolding r.stars
stars_found zero found qss ts rest no_star long h l = ap (λ z. Some (z, rest)) (sym (append-nil found))
stars_found zero found qss ts rest (a_star is q s) long h l = absurd (omega arith)
stars_found (suc n) found qss ts rest no_star long h l = rw (take_lacking (want.Mark m.Star) rest l) (ap (λ z. Some (z, rest)) (sym (append-nil found)))
stars_found (suc n) found qss ts rest (a_star {qs} {qss = others} {t} {ts = behind} {mid} is q s) long h l =
    let e = quals_again qs behind mid q (stars_unqualified s h) in
    rw (take_found (want.Mark m.Star) t behind is, e)
    (stars_found n (found ++ qs ∷ []) others mid rest s (omega arith) h l ∙ ap (λ z. Some (z, rest)) (append_assoc found (qs ∷ []) others))

pub all_stars_again : (qss : List (List Qual)) (ts rest : Tokens) → SpellsStars qss ts rest → Unqualified rest → Lacks (want.Mark m.Star) rest → r.all_stars ts ≡ Some (qss, rest)
unfolding r.all_stars
all_stars_again qss ts rest s h l = stars_found (length ts) [] qss ts rest s (omega (arith, stars_shorter s)) h l

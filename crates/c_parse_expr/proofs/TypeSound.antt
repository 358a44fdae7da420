-- The words of a type that are read are those that stand there.
use Rattle.std.proofs.Common.{◌≡◌, ℕ, zero, suc, Bool, true, List, [], ◌∷◌, ◌++◌, length, Option, Some, None, refl, sym, ◌∙◌, append_assoc, append-nil, subst}
use Rattle.c_lex.specs.declared.token.Token.{Token}
use Rattle.c_lex.specs.declared.token.TokenKind.{TokenKind}
use Rattle.c_lex.specs.declared.token.TokenKind.TheVariants.{Keyword}
use Rattle.c_lex.specs.declared.token.Keyword.{Keyword as AKeyword}
use Rattle.c_lex.specs.declared.token.Keyword.TheVariants as w
use Rattle.c_lex.specs.declared.token.Mark.TheVariants as m
use Rattle.c_tree.specs.declared.qualified.Qual.{Qual}
use Rattle.c_tree.specs.declared.qualified.Sign.{Sign}
use Rattle.c_tree.specs.declared.qualified.Base.TheVariants as base
use Rattle.c_parse_expr.specs.declared.wanted.Wanted.TheVariants as want
use Rattle.c_parse_expr.specs.TypeWords.{Tokens, qual_of, SpellsQuals, no_qual, a_qual, SpellsKeyword, said, unsaid, SpellsSign, no_sign, signed, unsigned, SpellsBase, void, char, unsigned_char, struct, int, signed_alone, unsigned_int, short, SpellsSpec, specified, SpellsStars, no_star, a_star}
use Rattle.c_parse_expr.specs.TypeReading as r
use Rattle.c_parse_expr.proofs.AfterSteps.{After, nothing, just, after_then, after_branch, weaken, Found, found_at, Taken, taken, left, after_take, Worded, worded, after_word}

-- ---- qualifiers

record IsQuals (found : List Qual) (ts : Tokens) (all : List Qual) (rest : Tokens) : Type 0 where
  qs : List Qual
  is : all ≡ found ++ qs
  quals : SpellsQuals qs ts rest

quals_turn : (o : Option Qual) (found : List Qual) (t : Token) (ts : Tokens) → qual_of t.kind ≡ o → ((found : List Qual) → After (IsQuals found ts) (r.quals found ts))
    → After (IsQuals found (t ∷ ts)) (r.quals_by (λ more. r.quals more ts) o found (t ∷ ts))
quals_turn None found t ts is again = just (record { qs = []; is = sym (append-nil found); quals = no_qual })
quals_turn (Some q) found t ts is again = weaken (again (found ++ q ∷ [])) (λ all rest x. record {
  qs = q ∷ x.qs;
  is = x.is ∙ append_assoc found (q ∷ []) x.qs;
  quals = a_qual is x.quals;
})

quals_found : (found : List Qual) (ts : Tokens) → After (IsQuals found ts) (r.quals found ts)
unfolding r.quals
quals_found found [] = just (record { qs = []; is = sym (append-nil found); quals = no_qual })
quals_found found (t ∷ ts) = quals_turn (qual_of t.kind) found t ts refl (λ found. quals_found found ts)

pub quals_sound : (ts : Tokens) → After (λ qs rest. SpellsQuals qs ts rest) (r.quals [] ts)
quals_sound ts = weaken (quals_found [] ts) (λ all rest x. subst (λ z. SpellsQuals z ts rest) (sym x.is) x.quals)

-- ---- the base

pub is_said : {x : AKeyword} {b : Bool} {ts rest : Tokens} → Taken (want.Keyword x) ts b rest → SpellsKeyword x b ts rest
is_said (taken is) = said is
is_said left = unsaid

short_made : {s : Option Sign} {b : Bool} {t : Token} {ts mid rest : Tokens} → SpellsSign s (t ∷ ts) ts → Found (want.Keyword w.Short) ts mid → SpellsKeyword w.Int b mid rest
    → SpellsBase (base.Short s b) (t ∷ ts) rest
short_made s (found_at is) b = short s is b

signed_int : {t : Token} {ts rest : Tokens} → t.kind ≡ Keyword w.Signed → Found (want.Keyword w.Int) ts rest → SpellsBase (base.Int true) (t ∷ ts) rest
signed_int is (found_at a) = int (said is) a

unsigned_chars : {t : Token} {ts rest : Tokens} → t.kind ≡ Keyword w.Unsigned → Found (want.Keyword w.Char) ts rest → SpellsBase base.UnsignedChar (t ∷ ts) rest
unsigned_chars is (found_at a) = unsigned_char is a

struct_made : {t : Token} {n : List ℕ} {ts rest : Tokens} → t.kind ≡ Keyword w.Struct → Worded n ts rest → SpellsBase (base.Struct n) (t ∷ ts) rest
struct_made is (worded a) = struct is a

signed_short : {s : Option Sign} {t : Token} {ts mid : Tokens} → SpellsSign s (t ∷ ts) ts → Found (want.Keyword w.Short) ts mid
    → After (λ b rest. SpellsBase b (t ∷ ts) rest) (r.short_rest s mid)
unfolding r.short_rest
signed_short {mid} s f = after_then (after_take (want.Keyword w.Int) mid) (λ b rest a. just (short_made s f (is_said a)))

signed_sound : (t : Token) (ts : Tokens) → t.kind ≡ Keyword w.Signed → After (λ b rest. SpellsBase b (t ∷ ts) rest) (r.signed_rest ts)
unfolding r.signed_rest
signed_sound t ts is = after_branch (want.Keyword w.Int) ts _ _ (λ rest f. just (signed_int is f))
    (after_branch (want.Keyword w.Short) ts _ _ (λ mid f. signed_short (signed is) f) (just (signed_alone is)))

unsigned_ints : (t : Token) (ts : Tokens) → t.kind ≡ Keyword w.Unsigned → After (λ b rest. SpellsBase b (t ∷ ts) rest) (r.unsigned_int ts)
unfolding r.unsigned_int
unsigned_ints t ts is = after_then (after_take (want.Keyword w.Int) ts) (λ b rest a. just (unsigned_int is (is_said a)))

unsigned_sound : (t : Token) (ts : Tokens) → t.kind ≡ Keyword w.Unsigned → After (λ b rest. SpellsBase b (t ∷ ts) rest) (r.unsigned_rest ts)
unfolding r.unsigned_rest
unsigned_sound t ts is = after_branch (want.Keyword w.Char) ts _ _ (λ rest f. just (unsigned_chars is f))
    (after_branch (want.Keyword w.Short) ts _ _ (λ mid f. signed_short (unsigned is) f) (unsigned_ints t ts is))

struct_sound : (t : Token) (ts : Tokens) → t.kind ≡ Keyword w.Struct → After (λ b rest. SpellsBase b (t ∷ ts) rest) (r.struct_rest ts)
unfolding r.struct_rest
struct_sound t ts is = after_then (after_word ts) (λ n rest a. just (struct_made is a))

short_sound : (t : Token) (ts : Tokens) → t.kind ≡ Keyword w.Short → After (λ b rest. SpellsBase b (t ∷ ts) rest) (r.short_rest None ts)
unfolding r.short_rest
short_sound t ts is = after_then (after_take (want.Keyword w.Int) ts) (λ b rest a. just (short no_sign is (is_said a)))

base_by_sound : (t : Token) (ts : Tokens) (k : TokenKind) → t.kind ≡ k → After (λ b rest. SpellsBase b (t ∷ ts) rest) (r.base_by k ts)
base_by_sound t ts (Keyword w.Void) is = just (void is)
base_by_sound t ts (Keyword w.Char) is = just (char is)
base_by_sound t ts (Keyword w.Struct) is = struct_sound t ts is
base_by_sound t ts (Keyword w.Int) is = just (int unsaid is)
base_by_sound t ts (Keyword w.Signed) is = signed_sound t ts is
base_by_sound t ts (Keyword w.Unsigned) is = unsigned_sound t ts is
base_by_sound t ts (Keyword w.Short) is = short_sound t ts is
base_by_sound t ts _ is = nothing

base_sound : (ts : Tokens) → After (λ b rest. SpellsBase b ts rest) (r.a_base ts)
unfolding r.a_base
base_sound [] = nothing
base_sound (t ∷ ts) = base_by_sound t ts t.kind refl

pub spec_sound : (ts : Tokens) → After (λ s rest. SpellsSpec s ts rest) (r.spec ts)
unfolding r.spec
spec_sound ts = after_then (quals_sound ts) (λ before mid a. after_then (base_sound mid) (λ b others c. after_then (quals_sound others) (λ behind rest e.
    just (specified a c e))))

-- ---- stars

record IsStars (found : List (List Qual)) (ts : Tokens) (all : List (List Qual)) (rest : Tokens) : Type 0 where
  qss : List (List Qual)
  is : all ≡ found ++ qss
  stars : SpellsStars qss ts rest

stars_none : (found : List (List Qual)) (ts : Tokens) → IsStars found ts found ts
stars_none found ts = record { qss = []; is = sym (append-nil found); stars = no_star }

stars_more : {qs : List Qual} {found all : List (List Qual)} {ts mid others rest : Tokens} → Found (want.Mark m.Star) ts mid → SpellsQuals qs mid others
    → IsStars (found ++ qs ∷ []) others all rest → IsStars found ts all rest
stars_more {qs} {found} (found_at is) a x = record { qss = qs ∷ x.qss; is = x.is ∙ append_assoc found (qs ∷ []) x.qss; stars = a_star is a x.stars }

stars_sound : (n : ℕ) (found : List (List Qual)) (ts : Tokens) → After (IsStars found ts) (r.stars n found ts)
unfolding r.stars
stars_sound zero found ts = just (stars_none found ts)
stars_sound (suc n) found ts = after_branch (want.Mark m.Star) ts _ _
    (λ mid f. after_then (quals_sound mid) (λ qs others a. weaken (stars_sound n (found ++ qs ∷ []) others) (λ all rest x. stars_more f a x)))
    (just (stars_none found ts))

pub all_stars_sound : (ts : Tokens) → After (λ qss rest. SpellsStars qss ts rest) (r.all_stars ts)
unfolding r.all_stars
all_stars_sound ts = weaken (stars_sound (length ts) [] ts) (λ all rest x. subst (λ z. SpellsStars z ts rest) (sym x.is) x.stars)

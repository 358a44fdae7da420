-- The members of a struct one after another, and what a struct is when they are known.
use Rattle.std.proofs.Common.{◌≡◌, ℕ, ◌+◌, ◌<◌, ◌≤◌, Bool, List, [], ◌∷◌, ◌++◌, map, length, get_or, drop, Option, None, Some, Ok, Err, refl, sym, ap, subst, ◌∙◌, append-nil, append_assoc}
use Rattle.std.proofs.lemmas.List.{drop_all}
use Rattle.std.specs.Prelude.{◌&&◌}
use Rattle.c_tree.specs.declared.qualified.Spec.{Spec}
use Rattle.c_tree.specs.declared.declarations.Declr.{Declr}
use Rattle.c_tree.specs.declared.unit.Member.{Member as SourceMember}
use Rattle.c_tree.specs.declared.unit.Struct.{Struct as SourceStruct}
use Rattle.core_tree.specs.declared.types.Member.{Member}
use Rattle.c_typing.specs.declared.fault.Rule.{Rule}
use Rattle.c_typing.specs.declared.fault.Fault.{Fault}
use Rattle.c_typing.specs.declared.fault.Stop.{Stop}
use Rattle.c_typing.specs.declared.fault.Stop.TheVariants.{Broken}
use Rattle.c_typing.specs.declared.environment.Env.{Env}
use Rattle.c_typing.specs.Outcome.{Answers, Outcome, ◌>>=◌, broken}
use Rattle.c_typing.specs.Scopes.{is_sized}
use Rattle.c_typing.specs.TypeNames.{Qualified}
use Rattle.c_checking.specs.declared.draft.Draft.{Draft}
use Rattle.c_checking.specs.Declarators.{base_of, declared_type}
use Rattle.c_checking.specs.Externals.{Field, fields_of, fields, are_sized, struct_rule, unless, checked_fields, defining, completed, structure}
use Rattle.c_externals.specs.declared.structs.Fields.{Fields}
use Rattle.c_externals.specs.Drafting.{member, no_fields, with_fields, behind, members_sized, rule_of, completed_with, structured}
use Rattle.c_externals.proofs.Turns.{next_is}

-- ---- lists of members

abbrev pub field_as : List ℕ → Qualified → Field
field_as name t = record { name = name; ty = t.ty; readonly = t.readonly }

map_both : {A B : Type 0} (f : A → B) (xs ys : List A) → map f (xs ++ ys) ≡ map f xs ++ map f ys
map_both f [] ys = refl
map_both f (x ∷ xs) ys = ap (λ zs. f x ∷ zs) (map_both f xs ys)

abbrev both : List Member → List Bool → Fields
both ms cs = record { members = ms; constants = cs }

with_both : (made : Fields) (xs ys : List Field) → with_fields made (xs ++ ys) ≡ with_fields (with_fields made xs) ys
with_both made xs ys =
    ap (λ zs. both (made.members ++ zs) (made.constants ++ map (λ (f : Field). f.readonly) (xs ++ ys))) (map_both member xs ys)
    ∙ (ap (λ zs. both (made.members ++ (map member xs ++ map member ys)) (made.constants ++ zs)) (map_both (λ (f : Field). f.readonly) xs ys)
    ∙ (ap (λ zs. both zs (made.constants ++ (map (λ (f : Field). f.readonly) xs ++ map (λ (f : Field). f.readonly) ys)))
    (sym (append_assoc made.members (map member xs) (map member ys)))
    ∙ ap (λ zs. both ((made.members ++ map member xs) ++ map member ys) zs)
    (sym (append_assoc made.constants (map (λ (f : Field). f.readonly) xs) (map (λ (f : Field). f.readonly) ys)))))

one_behind : (made : Fields) (x : Field) (o : Outcome (List Field))
    → behind made (o >>= λ xs. Ok (x ∷ xs)) ≡ behind (with_fields made (x ∷ [])) o
one_behind made x (Err f) = refl
one_behind made x (Ok xs) = ap (λ fs. Ok fs) (with_both made (x ∷ []) xs)

all_behind : (made : Fields) (xs : List Field) (o : Outcome (List Field))
    → behind made (o >>= λ ys. Ok (xs ++ ys)) ≡ behind (with_fields made xs) o
all_behind made xs (Err f) = refl
all_behind made xs (Ok ys) = ap (λ fs. Ok fs) (with_both made xs ys)

nothing_behind : (made : Fields) → behind made (Ok []) ≡ Ok made
nothing_behind made =
    ap (λ zs. Ok (both zs (made.constants ++ []))) (append-nil made.members)
    ∙ ap (λ zs. Ok (both made.members zs)) (append-nil made.constants)

-- ---- the members of one base type

pub field_turn : (env : Env) (line : ℕ) (sp : Spec) (made : Fields) (all : List Declr) (i : ℕ) (x : Declr) (t : Qualified)
    → i < length all → x ≡ get_or all i x → declared_type env line (base_of env sp) x.stars x.bounds ≡ Ok t
    → behind made (fields_of env line sp (drop i all))
    ≡ behind (with_fields made (field_as x.name t ∷ [])) (fields_of env line sp (drop (i + 1) all))
field_turn env line sp made all i x t h here is =
    rw (next_is all i x h here) (rw is (one_behind made (field_as x.name t) (fields_of env line sp (drop (i + 1) all))))

pub field_break : (env : Env) (line : ℕ) (sp : Spec) (made : Fields) (all : List Declr) (i : ℕ) (x : Declr) (f : Fault)
    → i < length all → x ≡ get_or all i x → declared_type env line (base_of env sp) x.stars x.bounds ≡ Err f
    → behind made (fields_of env line sp (drop i all)) ≡ Err f
field_break env line sp made all i x f h here is = rw (next_is all i x h here) (rw is refl)

pub fields_of_end : (env : Env) (line : ℕ) (sp : Spec) (made : Fields) (all : List Declr) (i : ℕ) → length all ≤ i
    → behind made (fields_of env line sp (drop i all)) ≡ Ok made
fields_of_end env line sp made all i h = rw (drop_all i all h) (nothing_behind made)

-- ---- the members of a struct

member_more : (made now : Fields) (o rest : Outcome (List Field)) → behind made o ≡ Ok now
    → behind made (o >>= λ xs. rest >>= λ ys. Ok (xs ++ ys)) ≡ behind now rest
member_more made now (Err f) rest is = absurd (cc)
member_more made now (Ok xs) rest is =
    let e : with_fields made xs ≡ now = cc in
    all_behind made xs rest ∙ ap (λ m. behind m rest) e

member_stops : (made : Fields) (f : Fault) (o rest : Outcome (List Field)) → behind made o ≡ Err f
    → behind made (o >>= λ xs. rest >>= λ ys. Ok (xs ++ ys)) ≡ Err f
member_stops made f (Err g) rest is = is
member_stops made f (Ok xs) rest is = absurd (cc)

pub member_turn : (env : Env) (line : ℕ) (made now : Fields) (all : List SourceMember) (i : ℕ) (x : SourceMember)
    → i < length all → x ≡ get_or all i x → behind made (fields_of env line x.spec x.declrs) ≡ Ok now
    → behind made (fields env line (drop i all)) ≡ behind now (fields env line (drop (i + 1) all))
member_turn env line made now all i x h here is =
    rw (next_is all i x h here)
    (member_more made now (fields_of env line x.spec x.declrs) (fields env line (drop (i + 1) all)) is)

pub member_break : (env : Env) (line : ℕ) (made : Fields) (all : List SourceMember) (i : ℕ) (x : SourceMember) (f : Fault)
    → i < length all → x ≡ get_or all i x → behind made (fields_of env line x.spec x.declrs) ≡ Err f
    → behind made (fields env line (drop i all)) ≡ Err f
member_break env line made all i x f h here is =
    rw (next_is all i x h here)
    (member_stops made f (fields_of env line x.spec x.declrs) (fields env line (drop (i + 1) all)) is)

pub fields_end : (env : Env) (line : ℕ) (made : Fields) (all : List SourceMember) (i : ℕ) → length all ≤ i
    → behind made (fields env line (drop i all)) ≡ Ok made
fields_end env line made all i h = rw (drop_all i all h) (nothing_behind made)

-- ---- the rule that a struct breaks

names_are : (fs : List Field) → map (λ (m : Member). m.name) (map member fs) ≡ map (λ (f : Field). f.name) fs
names_are [] = refl
names_are (f ∷ more) = ap (λ ns. f.name ∷ ns) (names_are more)

sized_are : (env : Env) (fs : List Field) → members_sized env (map member fs) ≡ are_sized env fs
sized_are env [] = refl
sized_are env (f ∷ more) = ap (λ b. is_sized env f.ty && b) (sized_are env more)

rule_is : (env : Env) (tag : List ℕ) (fs : List Field) → struct_rule env tag fs ≡ rule_of env tag (map member fs)
rule_is env tag fs = rw (names_are fs, sized_are env fs) refl

ruled : (line : ℕ) (fs : List Field) (made : Fields) (rule : Option Rule) → with_fields no_fields fs ≡ made → rule ≡ None
    → behind no_fields (unless line rule fs) ≡ Ok made
ruled line fs made rule is none = rw none (ap (λ m. Ok m) is)

checked_case : (env : Env) (line : ℕ) (tag : List ℕ) (made : Fields) (o : Outcome (List Field))
    → behind no_fields o ≡ Ok made → rule_of env tag made.members ≡ None
    → behind no_fields (o >>= λ fs. unless line (struct_rule env tag fs) fs) ≡ Ok made
checked_case env line tag made (Err f) is none = absurd (cc)
checked_case env line tag made (Ok fs) is none =
    let e : with_fields no_fields fs ≡ made = cc in
    let m : map member fs ≡ made.members = ap (λ (x : Fields). x.members) e in
    ruled line fs made (struct_rule env tag fs) e (rule_is env tag fs ∙ (ap (λ ms. rule_of env tag ms) m ∙ none))

ruled_case : (env : Env) (line : ℕ) (tag : List ℕ) (made : Fields) (rule : Rule) (o : Outcome (List Field))
    → behind no_fields o ≡ Ok made → rule_of env tag made.members ≡ Some rule
    → behind no_fields (o >>= λ fs. unless line (struct_rule env tag fs) fs) ≡ broken rule line
ruled_case env line tag made rule (Err f) is breaks = absurd (cc)
ruled_case env line tag made rule (Ok fs) is breaks =
    let e : with_fields no_fields fs ≡ made = cc in
    let m : map member fs ≡ made.members = ap (λ (x : Fields). x.members) e in
    let r : struct_rule env tag fs ≡ Some rule = rule_is env tag fs ∙ (ap (λ ms. rule_of env tag ms) m ∙ breaks) in
    rw r refl

broken_case : (line : ℕ) (f : Fault) (rule : List Field → Option Rule) (o : Outcome (List Field)) → behind no_fields o ≡ Err f
    → behind no_fields (o >>= λ fs. unless line (rule fs) fs) ≡ Err f
broken_case line f rule (Err g) is = is
broken_case line f rule (Ok fs) is = absurd (cc)

pub checked_is : (env : Env) (s : SourceStruct) (made : Fields)
    → behind no_fields (fields env s.line s.members) ≡ Ok made → rule_of env s.name made.members ≡ None
    → behind no_fields (checked_fields env s) ≡ Ok made
checked_is env s made is none = checked_case env s.line s.name made (fields env s.line s.members) is none

checked_ruled : (env : Env) (s : SourceStruct) (made : Fields) (rule : Rule)
    → behind no_fields (fields env s.line s.members) ≡ Ok made → rule_of env s.name made.members ≡ Some rule
    → behind no_fields (checked_fields env s) ≡ Err (record { rule = rule; line = s.line })
checked_ruled env s made rule is breaks = ruled_case env s.line s.name made rule (fields env s.line s.members) is breaks

pub checked_stops : (env : Env) (s : SourceStruct) (made : Fields) (ms : List Member) (found : Option Rule) (rule : Rule) (stop : Stop)
    → behind no_fields (fields env s.line s.members) ≡ Ok made → ms ≡ made.members → found ≡ rule_of env s.name ms
    → found ≡ Some rule → stop ≡ Broken (record { rule = rule; line = s.line })
    → Answers (behind no_fields (checked_fields env s)) (Err stop)
checked_stops env s made ms found rule stop is all rules breaks told =
    let r : rule_of env s.name made.members ≡ Some rule =
    ap (λ xs. rule_of env s.name xs) (sym all) ∙ (sym rules ∙ breaks) in
    subst (λ x. Answers (behind no_fields (checked_fields env s)) (Err x)) (sym told) (checked_ruled env s made rule is r)

pub checked_broken : (env : Env) (s : SourceStruct) (f : Fault) → behind no_fields (fields env s.line s.members) ≡ Err f
    → behind no_fields (checked_fields env s) ≡ Err f
checked_broken env s f is = broken_case s.line f (λ fs. struct_rule env s.name fs) (fields env s.line s.members) is

-- ---- what is declared behind a struct

completed_case : (tag : List ℕ) (env : Env) (made : Fields) (o : Outcome (List Field)) → behind no_fields o ≡ Ok made
    → (o >>= λ fs. Ok (completed tag fs env)) ≡ Ok (completed_with tag made env)
completed_case tag env made (Err f) is = absurd (cc)
completed_case tag env made (Ok fs) is =
    let e : with_fields no_fields fs ≡ made = cc in
    ap (λ m. Ok (completed_with tag m env)) e

completed_broken : (tag : List ℕ) (env : Env) (f : Fault) (o : Outcome (List Field)) → behind no_fields o ≡ Err f
    → (o >>= λ fs. Ok (completed tag fs env)) ≡ Err f
completed_broken tag env f (Err g) is =
    let e : g ≡ f = cc in
    ap (λ x. Err x) e
completed_broken tag env f (Ok fs) is = absurd (cc)

pub structured_is : (s : SourceStruct) (env : Env) (made : Fields)
    → behind no_fields (checked_fields (defining s.name env) s) ≡ Ok made
    → structured s env ≡ Ok (completed_with s.name made env)
structured_is s env made is = completed_case s.name env made (checked_fields (defining s.name env) s) is

pub structured_broken : (s : SourceStruct) (env : Env) (f : Fault)
    → behind no_fields (checked_fields (defining s.name env) s) ≡ Err f → structured s env ≡ Err f
structured_broken s env f is = completed_broken s.name env f (checked_fields (defining s.name env) s) is

-- ---- in a draft

draft_case : (d : Draft) (tag : List ℕ) (env : Env) (o : Outcome (List Field)) → (o >>= λ fs. Ok (completed tag fs d.env)) ≡ Ok env
    → (o >>= λ fs. Ok (record d { env = completed tag fs d.env })) ≡ Ok (record d { env = env })
draft_case d tag env (Err f) is = absurd (cc)
draft_case d tag env (Ok fs) is =
    let e : completed tag fs d.env ≡ env = cc in
    ap (λ x. Ok (record d { env = x })) e

draft_broken : (d : Draft) (tag : List ℕ) (f : Fault) (o : Outcome (List Field)) → (o >>= λ fs. Ok (completed tag fs d.env)) ≡ Err f
    → (o >>= λ fs. Ok (record d { env = completed tag fs d.env })) ≡ Err f
draft_broken d tag f (Err g) is =
    let e : g ≡ f = cc in
    ap (λ x. Err x) e
draft_broken d tag f (Ok fs) is = absurd (cc)

pub structure_is : (s : SourceStruct) (d : Draft) (env : Env) → structured s d.env ≡ Ok env
    → structure s d ≡ Ok (record d { env = env })
unfolding structure
structure_is s d env is = draft_case d s.name env (checked_fields (defining s.name d.env) s) is

pub structure_broken : (s : SourceStruct) (d : Draft) (f : Fault) → structured s d.env ≡ Err f → structure s d ≡ Err f
unfolding structure
structure_broken s d f is = draft_broken d s.name f (checked_fields (defining s.name d.env) s) is

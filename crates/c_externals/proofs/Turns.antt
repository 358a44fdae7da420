-- A turn of the loops over names, members and declarators.
use Rattle.std.proofs.Common.{◌≡◌, ℕ, suc, ◌+◌, ◌<◌, ◌≤◌, true, false, List, [], ◌∷◌, ◌++◌, map, length, get_or, drop, None, Some, Result, Ok, Err, refl, sym, ap, subst, ◌∙◌, append-nil, append_assoc, arith}
use Rattle.std.proofs.Math.Seq.{drop-cons}
use Rattle.std.proofs.lemmas.List.{drop_all}
use Rattle.std.specs.Prelude.{bytes_eq}
use Rattle.c_tree.specs.declared.qualified.Spec.{Spec}
use Rattle.c_tree.specs.declared.qualified.Qual.{Qual}
use Rattle.c_tree.specs.declared.expression.Expr.{Expr}
use Rattle.c_tree.specs.declared.declarations.Init.{Init}
use Rattle.core_tree.specs.declared.types.Member.{Member}
use Rattle.core_tree.specs.declared.types.Struct.{Struct}
use Rattle.core_tree.specs.declared.types.Ty.TheVariants as ty
use Rattle.c_typing.specs.declared.fault.Rule.{Rule}
use Rattle.c_typing.specs.declared.fault.Fault.{Fault}
use Rattle.c_typing.specs.declared.fault.Stop.{Stop}
use Rattle.c_typing.specs.declared.fault.Stop.TheVariants as stop
use Rattle.c_typing.specs.declared.environment.Env.{Env}
use Rattle.c_typing.specs.Outcome.{Outcome, ◌>>=◌}
use Rattle.c_typing.specs.Scopes.{tag_from, is_sized}
use Rattle.c_typing.specs.TypeNames.{Qualified}
use Rattle.c_declarators.specs.Shapes.{shaped}
use Rattle.c_checking.specs.declared.draft.Draft.{Draft}
use Rattle.c_checking.specs.Declarators.{base_of, declared_type}
use Rattle.c_checking.specs.Externals.{Step, is_one_of, has_twice, global, globals, struct_base}
use Rattle.c_externals.specs.Drafting.{Becomes, members_sized, declared_as}

pub next_is : {A : Type 0} (all : List A) (i : ℕ) (x : A) → i < length all → x ≡ get_or all i x → drop i all ≡ x ∷ drop (i + 1) all
next_is all i x h here =
    let n : suc i ≡ i + 1 = omega arith in
    drop-cons all i x h ∙ (ap (λ y. y ∷ drop (suc i) all) (sym here) ∙ ap (λ k. x ∷ drop k all) n)

-- ---- names

pub twice_turn : (all : List (List ℕ)) (i : ℕ) (x : List ℕ) → i < length all → x ≡ get_or all i x
    → is_one_of (drop (i + 1) all) x ≡ false → has_twice (drop i all) ≡ has_twice (drop (i + 1) all)
twice_turn all i x h here once = rw (next_is all i x h here, once) refl

pub twice_here : (all : List (List ℕ)) (i : ℕ) (x : List ℕ) → i < length all → x ≡ get_or all i x
    → is_one_of (drop (i + 1) all) x ≡ true → has_twice (drop i all) ≡ true
twice_here all i x h here again = rw (next_is all i x h here, again) refl

pub twice_nowhere : (all : List (List ℕ)) (i : ℕ) → length all ≤ i → has_twice (drop i all) ≡ false
twice_nowhere all i h = rw (drop_all i all h) refl

pub tag_turn : (all : List Struct) (i : ℕ) (s : Struct) (tag : List ℕ) → i < length all → s ≡ get_or all i s
    → bytes_eq s.name tag ≡ false → tag_from i tag (drop i all) ≡ tag_from (i + 1) tag (drop (i + 1) all)
tag_turn all i s tag h here other = rw (next_is all i s h here, other) refl

pub tag_here : (all : List Struct) (i : ℕ) (s : Struct) (tag : List ℕ) → i < length all → s ≡ get_or all i s
    → bytes_eq s.name tag ≡ true → tag_from i tag (drop i all) ≡ Some i
tag_here all i s tag h here same = rw (next_is all i s h here, same) refl

pub tag_nowhere : (all : List Struct) (i : ℕ) (tag : List ℕ) → length all ≤ i → tag_from i tag (drop i all) ≡ None
tag_nowhere all i tag h = rw (drop_all i all h) refl

abbrev pub names : List Member → List (List ℕ)
names ms = map (λ (m : Member). m.name) ms

pub names_turn : (found : List (List ℕ)) (all : List Member) (i : ℕ) (m : Member) → i < length all → m ≡ get_or all i m
    → found ++ names (drop i all) ≡ (found ++ m.name ∷ []) ++ names (drop (i + 1) all)
names_turn found all i m h here =
    rw (next_is all i m h here) (sym (append_assoc found (m.name ∷ []) (names (drop (i + 1) all))))

pub names_end : (found : List (List ℕ)) (all : List Member) (i : ℕ) → length all ≤ i → found ++ names (drop i all) ≡ found
names_end found all i h = rw (drop_all i all h) (append-nil found)

-- ---- types of members

pub sized_turn : (env : Env) (all : List Member) (i : ℕ) (m : Member) → i < length all → m ≡ get_or all i m
    → is_sized env m.ty ≡ true → members_sized env (drop i all) ≡ members_sized env (drop (i + 1) all)
sized_turn env all i m h here is = rw (next_is all i m h here, is) refl

pub sized_not : (env : Env) (all : List Member) (i : ℕ) (m : Member) → i < length all → m ≡ get_or all i m
    → is_sized env m.ty ≡ false → members_sized env (drop i all) ≡ false
sized_not env all i m h here is = rw (next_is all i m h here, is) refl

pub sized_end : (env : Env) (all : List Member) (i : ℕ) → length all ≤ i → members_sized env (drop i all) ≡ true
sized_end env all i h = rw (drop_all i all h) refl

-- ---- variables

same_becomes : {S A : Type 0} (o p : Outcome S) (r : Result A Stop) (e : S) → o ≡ p → Becomes p r e → Becomes o r e
same_becomes o p r e is h = subst (λ x. Becomes x r e) (sym is) h

global_is : (sp : Spec) (i : Init) (t : Qualified) (d : Draft)
    → declared_type d.env i.line (base_of d.env sp) i.declr.stars i.declr.bounds ≡ Ok t
    → global (λ env. base_of env sp) i d ≡ declared_as t i d
unfolding global
global_is sp i t d is = rw is refl

pub global_becomes : {A : Type 0} (sp : Spec) (i : Init) (stars : List (List Qual)) (bounds : List Expr) (t : Qualified)
    (d behind : Draft) (r : Result A Stop) → stars ≡ i.declr.stars → bounds ≡ i.declr.bounds
    → declared_type d.env i.line (base_of d.env sp) stars bounds ≡ Ok t → Becomes (declared_as t i d) r behind
    → Becomes (global (λ env. base_of env sp) i d) r behind
global_becomes sp i stars bounds t d behind r s b is h =
    let typed : declared_type d.env i.line (base_of d.env sp) i.declr.stars i.declr.bounds ≡ Ok t =
    ap (λ x. declared_type d.env i.line (base_of d.env sp) x i.declr.bounds) (sym s)
    ∙ (ap (λ x. declared_type d.env i.line (base_of d.env sp) stars x) (sym b) ∙ is) in
    same_becomes (global (λ env. base_of env sp) i d) (declared_as t i d) r behind (global_is sp i t d typed) h

pub global_broken : (sp : Spec) (i : Init) (f : Fault) (d : Draft)
    → declared_type d.env i.line (base_of d.env sp) i.declr.stars i.declr.bounds ≡ Err f
    → global (λ env. base_of env sp) i d ≡ Err f
unfolding global
global_broken sp i f d is = rw is refl

abbrev pub struct_object : ℕ → Qualified
struct_object tag = record { ty = ty.Struct tag; readonly = false }

struct_global_is : (tag : ℕ) (i : Init) (t : Qualified) (d : Draft)
    → shaped d.env (struct_object tag) i.declr.stars i.declr.bounds ≡ Ok t
    → global (struct_base tag) i d ≡ declared_as t i d
unfolding global
struct_global_is tag i t d is = rw is refl

pub struct_global_becomes : {A : Type 0} (tag : ℕ) (i : Init) (stars : List (List Qual)) (bounds : List Expr) (t : Qualified)
    (d behind : Draft) (r : Result A Stop) → stars ≡ i.declr.stars → bounds ≡ i.declr.bounds
    → shaped d.env (struct_object tag) stars bounds ≡ Ok t → Becomes (declared_as t i d) r behind
    → Becomes (global (struct_base tag) i d) r behind
struct_global_becomes tag i stars bounds t d behind r s b is h =
    let made : shaped d.env (struct_object tag) i.declr.stars i.declr.bounds ≡ Ok t =
    ap (λ x. shaped d.env (struct_object tag) x i.declr.bounds) (sym s)
    ∙ (ap (λ x. shaped d.env (struct_object tag) stars x) (sym b) ∙ is) in
    same_becomes (global (struct_base tag) i d) (declared_as t i d) r behind (struct_global_is tag i t d made) h

pub struct_global_broken : (tag : ℕ) (i : Init) (f : Fault) (d : Draft)
    → shaped d.env (struct_object tag) i.declr.stars i.declr.bounds ≡ Err f
    → global (struct_base tag) i d ≡ Err f
unfolding global
struct_global_broken tag i f d is = rw is refl

pub globals_turn : (base : Env → Result Qualified Rule) (all : List Init) (i : ℕ) (x : Init) (d between : Draft)
    → i < length all → x ≡ get_or all i x → global base x d ≡ Ok between
    → globals base (drop i all) d ≡ globals base (drop (i + 1) all) between
globals_turn base all i x d between h here is = rw (next_is all i x h here, is) refl

pub globals_break : (base : Env → Result Qualified Rule) (all : List Init) (i : ℕ) (x : Init) (f : Fault) (d : Draft)
    → i < length all → x ≡ get_or all i x → global base x d ≡ Err f
    → globals base (drop i all) d ≡ Err f
globals_break base all i x f d h here is = rw (next_is all i x h here, is) refl

stopped : (A : Type 0) (o : Outcome Draft) (next : Step) (stop : Stop) (behind d : Draft)
    → Becomes {A = A} o (Err stop) behind → Becomes {A = A} (o >>= next) (Err stop) d
stopped A o next (stop.Broken f) behind d h = rw h refl
stopped A o next stop.NoMemory behind d h = tt

pub globals_stop : {A : Type 0} (base : Env → Result Qualified Rule) (all : List Init) (i : ℕ) (x : Init) (o : Outcome Draft)
    (d behind e : Draft) (stop : Stop) (r : Result A Stop)
    → o ≡ globals base (drop i all) d → i < length all → x ≡ get_or all i x
    → Becomes {A = A} (global base x d) (Err stop) behind → r ≡ Err stop → Becomes o r e
globals_stop {A = A} base all i x o d behind e stop r so_far h here stops told =
    let next : o ≡ (global base x d >>= globals base (drop (i + 1) all)) =
    so_far ∙ ap (λ xs. globals base xs d) (next_is all i x h here) in
    subst (λ y. Becomes o y e) (sym told)
    (same_becomes {A = A} o (global base x d >>= globals base (drop (i + 1) all)) (Err stop) e next
    (stopped A (global base x d) (globals base (drop (i + 1) all)) stop behind e stops))

pub globals_end : (base : Env → Result Qualified Rule) (all : List Init) (i : ℕ) (d : Draft) → length all ≤ i
    → globals base (drop i all) d ≡ Ok d
globals_end base all i d h = rw (drop_all i all h) refl

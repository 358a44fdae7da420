-- Rows on places and names: of lawful operands they make lawful operands.
use Rattle.std.proofs.Common.{◌≡◌, ℕ, suc, ◌+◌, Bool, true, false, cond, ◌||◌, List, [], ◌∷◌, bytes_eq, slice_get, Option, Some, None, Ok, refl, sym, ap, ◌∙◌, rules, arith}
use Rattle.core_tree.specs.declared.types.Ty.{Ty, out-Ty, the_lemmas}
use Rattle.core_tree.specs.declared.types.Ty.TheVariants as ty
use Rattle.core_tree.specs.declared.types.Ty.TheOpen.{Ty-F}
use Rattle.core_tree.specs.declared.types.Member.{Member}
use Rattle.core_tree.specs.declared.expressions.Expr.{Expr}
use Rattle.core_tree.specs.declared.expressions.Place.{Place}
use Rattle.core_tree.specs.declared.expressions.PlaceKind.{PlaceKind, the_lemmas as place_lemmas}
use Rattle.core_tree.specs.declared.expressions.PlaceKind.TheVariants as pk
use Rattle.core_tree.specs.declared.expressions.ExprKind.{the_lemmas as kind_lemmas}
use Rattle.core_tree.specs.declared.expressions.ExprKind.TheVariants as k
use Rattle.core_tree.specs.Layout.{members_of}
use Rattle.core_tree.specs.Rules.{is_integer}
use Rattle.core_tree.specs.Lawful.{Scope, IsExpr, LawfulExpr, IsPlace, is_place, HasPlaceType, is_const, is_constant, points_to_const, either_const, local, global, pointed, member as a_member, element as an_element, pointer_at, at_pointer}
use Rattle.c_typing.specs.declared.fault.Rule.TheVariants.{WrongType, Incomplete}
use Rattle.c_typing.specs.declared.operand.Operand.{Operand}
use Rattle.c_typing.specs.declared.operand.Operand.TheVariants as operand
use Rattle.c_typing.specs.declared.operand.Builtin.{Builtin}
use Rattle.c_typing.specs.declared.environment.Env.{Env}
use Rattle.c_typing.specs.declared.environment.What.{What}
use Rattle.c_typing.specs.declared.environment.What.TheVariants as w
use Rattle.c_typing.specs.Scopes.{Found, member_from, is_const_member, is_complete, lookup}
use Rattle.c_typing.specs.Values.{typed, placed, value}
use Rattle.c_typing.specs.Places.{pointed_at, at_by, at_values, element, indexed_by, indexed, member_place, member_by, member_in, member, arrow_by, arrow, deref_by, deref, address_by, address}
use Rattle.c_typing.specs.Calls.{or_builtin, builtin_named, named}
use Rattle.c_typing.proofs.LawfulOperands.{address_lawful}
use Rattle.c_typing_laws.specs.Sound.{Agrees, SoundValue, SoundOperand}
use Rattle.c_typing_laws.proofs.Conversions.{at_layer}
use Rattle.c_typing_laws.proofs.Operators.{complete_lawful}
use Rattle.c_typing_laws.proofs.Values.{granted, SoundOption, value_sound, integer_is}

place_made : (s : Scope) (line : ℕ) (t : Ty) (kind : PlaceKind) → HasPlaceType s kind t → IsPlace s (placed line t kind) t
place_made s line t kind has = is_place (placed line t kind) t refl has

-- a place as an operand
sound_place : (env : Env) (s : Scope) (line : ℕ) (t : Ty) (kind : PlaceKind) (readonly : Bool) → HasPlaceType s kind t
    → (is_const kind ≡ true → readonly ≡ true) → SoundOperand env s (operand.Place (placed line t kind) readonly)
sound_place env s line t kind readonly has said = (place_made s line t kind has, said)

-- ---- an index

or_false : (r : Bool) → (r || false) ≡ r
or_false true = refl
or_false false = refl

const_at : (a b : Expr) → is_const (pk.At a b) ≡ either_const a.ty b.ty
const_at a b = search (rules, place_lemmas)

pointed_at_sound : (env : Env) (s : Scope) (line : ℕ) (to : Ty) (readonly : Bool) (a b : Expr) (x : Operand)
    → Agrees env s → (is_complete env to ≡ true → HasPlaceType s (pk.At a b) to)
    → (is_const (pk.At a b) ≡ true → readonly ≡ true) → pointed_at env line to readonly a b ≡ Ok x
    → SoundOperand env s x
pointed_at_sound env s line to readonly a b x agree has said is =
    let g = granted (is_complete env to) (operand.Place (placed line to (pk.At a b)) readonly) x Incomplete is in
    rw (← g.1) (sound_place env s line to (pk.At a b) readonly (has g.0) said)

at_by_sound : (env : Env) (s : Scope) (line : ℕ) (l m : Ty-F Ty) (a b : Expr) (x : Operand) → Agrees env s
    → out-Ty a.ty ≡ l → out-Ty b.ty ≡ m → LawfulExpr s a → LawfulExpr s b → at_by env line l a m b ≡ Ok x
    → SoundOperand env s x
at_by_sound env s line (Ty-F.Pointer to r) (Ty-F.Num t) a b x agree at_a at_b i j is =
    let g : a.ty ≡ ty.Pointer to r = search (rules, the_lemmas) in
    let h : b.ty ≡ ty.Num t = search (rules, the_lemmas) in
    let c : is_const (pk.At a b) ≡ r = const_at a b ∙ rw (at_a, at_b) (or_false r) in
    pointed_at_sound env s line to r a b x agree
    (λ whole. pointer_at a b to r t (complete_lawful env s agree to whole) (at_layer s a _ g i) (at_layer s b _ h j))
    (λ said. sym c ∙ said) is
at_by_sound env s line (Ty-F.Num t) (Ty-F.Pointer to r) a b x agree at_a at_b i j is =
    let g : a.ty ≡ ty.Num t = search (rules, the_lemmas) in
    let h : b.ty ≡ ty.Pointer to r = search (rules, the_lemmas) in
    let c : is_const (pk.At a b) ≡ r = const_at a b ∙ rw (at_a, at_b) refl in
    pointed_at_sound env s line to r a b x agree
    (λ whole. at_pointer a b to r t (complete_lawful env s agree to whole) (at_layer s a _ g i) (at_layer s b _ h j))
    (λ said. sym c ∙ said) is
at_by_sound env s line l m a b x agree at_a at_b i j is = absurd (search rules)

at_values_sound : (env : Env) (s : Scope) (line : ℕ) (a b : Option Expr) (x : Operand) → Agrees env s
    → SoundOption s a → SoundOption s b → at_values env line a b ≡ Ok x → SoundOperand env s x
unfolding at_values
at_values_sound env s line (Some a) (Some b) x agree sa sb is =
    at_by_sound env s line (out-Ty a.ty) (out-Ty b.ty) a b x agree refl refl (sa a refl).0 (sb b refl).0 is
at_values_sound env s line (Some a) None x agree sa sb is = absurd (search rules)
at_values_sound env s line None b x agree sa sb is = absurd (search rules)

const_element : (p : Place) (i : Expr) → is_const (pk.Element p i) ≡ is_const p.kind
const_element p i = search (rules, place_lemmas)

element_sound : (env : Env) (s : Scope) (line : ℕ) (p : Place) (readonly : Bool) (of : Ty) (n : ℕ) (i : Option Expr)
    (x : Operand) → IsPlace s p (ty.Array of n) → (is_const p.kind ≡ true → readonly ≡ true) → SoundOption s i
    → element line p readonly of i ≡ Ok x → SoundOperand env s x
unfolding element
element_sound env s line p readonly of n None x at_p said si is = absurd (search rules)
element_sound env s line p readonly of n (Some i) x at_p said si is =
    let g = granted (is_integer i.ty) (operand.Place (placed line of (pk.Element p i)) readonly) x WrongType is in
    let t = integer_is i.ty g.0 in
    let j : IsExpr s i (ty.Num t.0) = at_layer s i (ty.Num t.0) t.1 (si i refl).0 in
    rw (← g.1) (sound_place env s line of (pk.Element p i) readonly (an_element p i of n t.0 at_p j)
    (λ c. said (sym (const_element p i) ∙ c)))

indexed_by_sound : (env : Env) (s : Scope) (line : ℕ) (p : Place) (readonly : Bool) (l : Ty-F Ty) (i : Option Expr)
    (x : Operand) → Agrees env s → out-Ty p.ty ≡ l → SoundOperand env s (operand.Place p readonly) → SoundOption s i
    → indexed_by env line p readonly l i ≡ Ok x → SoundOperand env s x
indexed_by_sound env s line p readonly (Ty-F.Array of n) i x agree at_p sp si is =
    let h : p.ty ≡ ty.Array of n = search (rules, the_lemmas) in
    let here : IsPlace s p (ty.Array of n) = rw (← h) sp.0 in
    element_sound env s line p readonly of n i x here sp.1 si is
indexed_by_sound env s line p readonly l i x agree at_p sp si is =
    at_values_sound env s line (value (operand.Place p readonly)) i x agree
    (value_sound env s (operand.Place p readonly) agree sp) si is

pub indexed_row : (env : Env) (s : Scope) (line : ℕ) (a : Operand) (i : Option Expr) (x : Operand) → Agrees env s
    → SoundOperand env s a → SoundOption s i → indexed env line a i ≡ Ok x → SoundOperand env s x
unfolding indexed
indexed_row env s line (operand.Place p readonly) i x agree sa si is =
    indexed_by_sound env s line p readonly (out-Ty p.ty) i x agree refl sa si is
indexed_row env s line (operand.Value e) i x agree sa si is =
    at_values_sound env s line (value (operand.Value e)) i x agree (value_sound env s (operand.Value e) agree sa) si is
indexed_row env s line (operand.Function place) i x agree sa si is =
    at_values_sound env s line (value (operand.Function place)) i x agree
    (value_sound env s (operand.Function place) agree sa) si is
indexed_row env s line (operand.Builtin b) i x agree sa si is =
    at_values_sound env s line (value (operand.Builtin b)) i x agree (value_sound env s (operand.Builtin b) agree sa) si is

-- ---- members

-- a member that is found, counted from a number
record FoundAt (start : ℕ) (ms : List Member) (f : Found) : Type 0 where
  index : ℕ
  it : Member
  place : f.number ≡ start + index
  stands : slice_get ms index ≡ Some it
  same : it.ty ≡ f.ty

behind_one : (m : Member) (ms : List Member) (i : ℕ) (it : Member) → slice_get ms i ≡ Some it
    → slice_get (m ∷ ms) (suc i) ≡ Some it
behind_one m ms i it is = is

member_found_by : (b : Bool) (n : ℕ) (name : List ℕ) (m : Member) (ms : List Member) (f : Found)
    → (member_from (n + 1) name ms ≡ Some f → FoundAt (n + 1) ms f)
    → cond b (Some (record { number = n; ty = m.ty })) (member_from (n + 1) name ms) ≡ Some f → FoundAt n (m ∷ ms) f
member_found_by true n name m ms f deeper is =
    let h : record { number = n; ty = m.ty } ≡ f = cc in
    rw (← h) (record { index = 0; it = m; place = omega arith; stands = refl; same = refl })
member_found_by false n name m ms f deeper is =
    let d = deeper is in
    let at_index : f.number ≡ n + suc d.index = omega (arith, d.place) in
    record { index = suc d.index; it = d.it; place = at_index; stands = behind_one m ms d.index d.it d.stands; same = d.same }

member_found : (n : ℕ) (name : List ℕ) (ms : List Member) (f : Found) → member_from n name ms ≡ Some f → FoundAt n ms f
member_found n name [] f is = absurd (search rules)
member_found n name (m ∷ ms) f is =
    member_found_by (bytes_eq m.name name) n name m ms f (λ deeper. member_found (n + 1) name ms f deeper) is

const_member : (p : Place) (tag n : ℕ) → is_const (pk.Member p tag n) ≡ is_const p.kind
const_member p tag n = search (rules, place_lemmas)

or_said : (c r q : Bool) → (c ≡ true → r ≡ true) → c ≡ true → (r || q) ≡ true
or_said c r q said is = let h : r ≡ true = said is in rw h refl

member_by_sound : (env : Env) (s : Scope) (line : ℕ) (name : List ℕ) (p : Place) (readonly : Bool) (tag : ℕ)
    (f : Option Found) (x : Operand) → Agrees env s → member_from 0 name (members_of env.structs tag) ≡ f
    → IsPlace s p (ty.Struct tag) → (is_const p.kind ≡ true → readonly ≡ true)
    → member_by env line p readonly tag f ≡ Ok x → SoundOperand env s x
member_by_sound env s line name p readonly tag None x agree found at_p said is = absurd (search rules)
member_by_sound env s line name p readonly tag (Some f) x agree found at_p said is =
    let d = member_found 0 name (members_of env.structs tag) f found in
    let n : d.index ≡ f.number = omega (arith, d.place) in
    let here : slice_get (members_of env.structs tag) f.number ≡ Some d.it =
    ap (λ i. slice_get (members_of env.structs tag) i) (sym n) ∙ d.stands in
    let has : HasPlaceType s (pk.Member p tag f.number) d.it.ty =
    a_member p tag f.number d.it at_p (agree.members tag f.number d.it here) in
    let t : d.it.ty ≡ f.ty = d.same in
    let whole : member_place env line p readonly tag f ≡ x = cc in
    rw (← whole) (sound_place env s line f.ty (pk.Member p tag f.number)
    (readonly || is_const_member env tag f.number) (rw (← t) has)
    (λ c. or_said (is_const p.kind) readonly (is_const_member env tag f.number) said (sym (const_member p tag f.number) ∙ c)))

member_in_sound : (env : Env) (s : Scope) (line : ℕ) (name : List ℕ) (p : Place) (readonly : Bool) (l : Ty-F Ty)
    (x : Operand) → Agrees env s → out-Ty p.ty ≡ l → IsPlace s p p.ty → (is_const p.kind ≡ true → readonly ≡ true)
    → member_in env line name p readonly l ≡ Ok x → SoundOperand env s x
member_in_sound env s line name p readonly (Ty-F.Struct tag) x agree at_l at_p said is =
    let h : p.ty ≡ ty.Struct tag = search (rules, the_lemmas) in
    let here : IsPlace s p (ty.Struct tag) = rw (← h) at_p in
    member_by_sound env s line name p readonly tag _ x agree refl here said is
member_in_sound env s line name p readonly l x agree at_l at_p said is = absurd (search rules)

pub member_row : (env : Env) (s : Scope) (line : ℕ) (name : List ℕ) (a x : Operand) → Agrees env s
    → SoundOperand env s a → member env line name a ≡ Ok x → SoundOperand env s x
unfolding member
member_row env s line name (operand.Place p readonly) x agree sa is =
    member_in_sound env s line name p readonly (out-Ty p.ty) x agree refl sa.0 sa.1 is
member_row env s line name (operand.Value e) x agree sa is = absurd (search rules)
member_row env s line name (operand.Function place) x agree sa is = absurd (search rules)
member_row env s line name (operand.Builtin b) x agree sa is = absurd (search rules)

-- ---- `->`, `*` and `&`

const_deref : (e : Expr) → is_const (pk.Deref e) ≡ points_to_const (out-Ty e.ty)
const_deref e = search (rules, place_lemmas)

-- what a pointer points to
deref_place : (s : Scope) (line : ℕ) (e : Expr) (to : Ty) (r : Bool) → out-Ty e.ty ≡ Ty-F.Pointer to r → LawfulExpr s e
    → IsPlace s (placed line to (pk.Deref e)) to × (is_const (pk.Deref e) ≡ true → r ≡ true)
deref_place s line e to r at_e i =
    let h : e.ty ≡ ty.Pointer to r = search (rules, the_lemmas) in
    let c : is_const (pk.Deref e) ≡ r = const_deref e ∙ ap points_to_const at_e in
    (place_made s line to (pk.Deref e) (pointed e to r (at_layer s e _ h i)), λ said. sym c ∙ said)

arrow_by_sound : (env : Env) (s : Scope) (line : ℕ) (name : List ℕ) (e : Expr) (l : Ty-F Ty) (x : Operand)
    → Agrees env s → out-Ty e.ty ≡ l → LawfulExpr s e → arrow_by env line name e l ≡ Ok x → SoundOperand env s x
arrow_by_sound env s line name e (Ty-F.Pointer to r) x agree at_e i is =
    let d = deref_place s line e to r at_e i in
    member_in_sound env s line name (placed line to (pk.Deref e)) r (out-Ty to) x agree refl d.0 d.1 is
arrow_by_sound env s line name e l x agree at_e i is = absurd (search rules)

pub arrow_row : (env : Env) (s : Scope) (line : ℕ) (name : List ℕ) (a : Option Expr) (x : Operand) → Agrees env s
    → SoundOption s a → arrow env line name a ≡ Ok x → SoundOperand env s x
unfolding arrow
arrow_row env s line name None x agree sa is = absurd (search rules)
arrow_row env s line name (Some e) x agree sa is =
    arrow_by_sound env s line name e (out-Ty e.ty) x agree refl (sa e refl).0 is

deref_by_sound : (env : Env) (s : Scope) (line : ℕ) (e : Expr) (l : Ty-F Ty) (x : Operand) → out-Ty e.ty ≡ l
    → LawfulExpr s e → deref_by line e l ≡ Ok x → SoundOperand env s x
deref_by_sound env s line e (Ty-F.Pointer to r) x at_e i is =
    let whole : operand.Place (placed line to (pk.Deref e)) r ≡ x = cc in
    rw (← whole) (deref_place s line e to r at_e i)
deref_by_sound env s line e l x at_e i is = absurd (search rules)

pub deref_row : (env : Env) (s : Scope) (line : ℕ) (a : Option Expr) (x : Operand) → SoundOption s a
    → deref line a ≡ Ok x → SoundOperand env s x
unfolding deref
deref_row env s line None x sa is = absurd (search rules)
deref_row env s line (Some e) x sa is = deref_by_sound env s line e (out-Ty e.ty) x refl (sa e refl).0 is

address_by_plain : (line : ℕ) (p : Place) (readonly : Bool) (l : Ty-F Ty) (v : Expr) → address_by line p readonly l ≡ Ok v
    → is_constant v.kind ≡ false
address_by_plain line p readonly (Ty-F.Array of n) v is = absurd (search rules)
address_by_plain line p readonly l v is =
    let e : typed line (ty.Pointer p.ty readonly) (k.Address p) ≡ v = cc in rw (← e) (search (rules, kind_lemmas))

pub address_row : (env : Env) (s : Scope) (line : ℕ) (a : Operand) (v : Expr) → Agrees env s → SoundOperand env s a
    → address line a ≡ Ok v → SoundValue s v
unfolding address
address_row env s line (operand.Place p readonly) v agree sa is = (
  address_lawful s line p readonly v agree.early sa is,
  λ pointer. address_by_plain line p readonly (out-Ty p.ty) v is,
)
address_row env s line (operand.Value e) v agree sa is = absurd (search rules)
address_row env s line (operand.Function place) v agree sa is = absurd (search rules)
address_row env s line (operand.Builtin b) v agree sa is = absurd (search rules)

-- ---- names

const_local : (n : ℕ) → is_const (pk.Local n) ≡ false
const_local n = search (rules, place_lemmas)

const_global : (n : ℕ) → is_const (pk.Global n) ≡ false
const_global n = search (rules, place_lemmas)

never : (c : Bool) (r : Bool) → c ≡ false → c ≡ true → r ≡ true
never c r plain said = absurd (search rules)

builtin_sound : (env : Env) (s : Scope) (b : Option Builtin) (x : Operand) → or_builtin b ≡ Ok x → SoundOperand env s x
builtin_sound env s None x is = absurd (search rules)
builtin_sound env s (Some b) x is = let e : operand.Builtin b ≡ x = cc in rw (← e) tt

pub named_row : (env : Env) (s : Scope) (line : ℕ) (name : List ℕ) (what : Option What) (x : Operand) → Agrees env s
    → lookup env.names name ≡ what → named line name what ≡ Ok x → SoundOperand env s x
unfolding named
named_row env s line name None x agree found is = builtin_sound env s (builtin_named name) x is
named_row env s line name (Some (w.Local n t readonly)) x agree found is =
    let e : operand.Place (placed line t (pk.Local n)) readonly ≡ x = cc in
    rw (← e) (sound_place env s line t (pk.Local n) readonly (local n t (agree.locals name n t readonly found))
    (never (is_const (pk.Local n)) readonly (const_local n)))
named_row env s line name (Some (w.Global n t readonly)) x agree found is =
    let g = agree.globals name n t readonly found in
    let of : g.0.ty ≡ t = g.2 in
    let has : HasPlaceType s (pk.Global n) t = rw (← of) (global n g.0 g.1) in
    let e : operand.Place (placed line t (pk.Global n)) readonly ≡ x = cc in
    rw (← e) (sound_place env s line t (pk.Global n) readonly has (never (is_const (pk.Global n)) readonly (const_global n)))
named_row env s line name (Some (w.Function place)) x agree found is =
    let e : operand.Function place ≡ x = cc in
    rw (← e) tt

-- Names that are made one step after the other.
use Rattle.std.proofs.Common.{◌≡◌, ℕ, zero, suc, ◌+◌, ◌<◌, ◌≤◌, List, [], ◌∷◌, ◌++◌, length, get_or, take, ap, sym, refl, ◌∙◌, arith, rules, append_assoc}
use Rattle.std.specs.Prelude.{Option, Some, None, IfSome}
use Rattle.std.proofs.lemmas.List.{take_more, map_more, map-append, get_or_past, append-nil}
use Rattle.std.specs.List.{AllZip}
use Rattle.std.proofs.Common.{Bool}
use Rattle.base16.specs.declared.integer.IntType.{IntType}
use Rattle.core_tree.specs.declared.types.Struct.{Struct}
use Rattle.core_tree.specs.declared.types.Member.{Member}
use Rattle.core_tree.specs.declared.types.Ty.{Ty, the_lemmas}
use Rattle.core_tree.specs.declared.types.Ty.TheVariants as ty
use Rattle.core_tree.specs.Data.{Text, behind, indexed, index_text, member_text, names_in, member_names, struct_names_from, struct_names}
use Rattle.core_layout.specs.declared.names.Prefix.{Prefix}
use Rattle.core_layout.specs.Laid.{across, Keeps, IsNamed}
use Rattle.core_layout.specs.Prefixes.{behind_prefix, IsInElements}
use Rattle.core_layout.proofs.Zipped.{zip_at, zip-last, length-zip}

pub behind_turn : (before : Text) (texts : List Text) (i : ℕ) (d : Text) → i < length texts
    → behind before (take (i + 1) texts) ≡ behind before (take i texts) ++ (before ++ get_or texts i d) ∷ []
behind_turn before texts i d h = map_more (λ (text : Text). before ++ text) texts i d h

across_append : (xs ys texts : List Text) → across (xs ++ ys) texts ≡ across xs texts ++ across ys texts
across_append [] ys texts = refl
across_append (x ∷ xs) ys texts =
    ap (λ l. behind x texts ++ l) (across_append xs ys texts)
    ∙ sym (append_assoc (behind x texts) (across xs texts) (across ys texts))

pub across_turn : (befores texts : List Text) (i : ℕ) (d : Text) → i < length befores
    → across (take (i + 1) befores) texts ≡ across (take i befores) texts ++ behind (get_or befores i d) texts
across_turn befores texts i d h =
    ap (λ l. across l texts) (take_more befores i d h) ∙ across_append (take i befores) (get_or befores i d ∷ []) texts
    ∙ ap (λ l. across (take i befores) texts ++ l) (append-nil (behind (get_or befores i d) texts))

pub extended_turn : (befores : List Text) (text : Text) (i : ℕ) (d : Text) → i < length befores
    → across (take (i + 1) befores) (text ∷ []) ≡ across (take i befores) (text ∷ []) ++ (get_or befores i d ++ text) ∷ []
extended_turn befores text i d h = across_turn befores (text ∷ []) i d h

indexed-last : (n at : ℕ) (texts : List Text) → indexed (n + 1) at texts
    ≡ indexed n at texts ++ behind (index_text (at + n)) texts
indexed-last zero at texts =
    let z : at ≡ at + 0 = omega arith in
    append-nil (behind (index_text at) texts) ∙ ap (λ (k : ℕ). behind (index_text k) texts) z
indexed-last (suc n) at texts =
    let more : suc n + 1 ≡ suc (n + 1) = omega arith in
    let next : at + 1 + n ≡ at + suc n = omega arith in
    let first : List Text = behind (index_text at) texts in
    let rest : List Text = indexed n (at + 1) texts in
    ap (λ (k : ℕ). indexed k at texts) more ∙ ap (λ (l : List Text). first ++ l) (indexed-last n (at + 1) texts)
    ∙ ap (λ (k : ℕ). first ++ (rest ++ behind (index_text k) texts)) next
    ∙ sym (append_assoc first rest (behind (index_text (at + suc n)) texts))

pub indexed_turn : (n : ℕ) → indexed (n + 1) 0 ([] ∷ []) ≡ indexed n 0 ([] ∷ []) ++ index_text n ∷ []
indexed_turn n =
    let z : 0 + n ≡ n = omega arith in
    let before : List Text = indexed n 0 ([] ∷ []) in
    indexed-last n 0 ([] ∷ []) ∙ ap (λ (k : ℕ). before ++ (index_text k ++ []) ∷ []) z
    ∙ ap (λ (t : Text). before ++ t ∷ []) (append-nil (index_text n))

-- ---- texts behind texts behind texts

behind_append : (x : Text) (ys zs : List Text) → behind x (ys ++ zs) ≡ behind x ys ++ behind x zs
behind_append x ys zs = map-append (λ (t : Text). x ++ t) ys zs

behind_behind : (x y : Text) (zs : List Text) → behind (x ++ y) zs ≡ behind x (behind y zs)
behind_behind x y [] = refl
behind_behind x y (z ∷ zs) =
    ap (λ (t : Text). t ∷ behind (x ++ y) zs) (append_assoc x y z)
    ∙ ap (λ (l : List Text). (x ++ (y ++ z)) ∷ l) (behind_behind x y zs)

across_behind : (x : Text) (ys zs : List Text) → across (behind x ys) zs ≡ behind x (across ys zs)
across_behind x [] zs = refl
across_behind x (y ∷ ys) zs =
    ap (λ (l : List Text). l ++ across (behind x ys) zs) (behind_behind x y zs)
    ∙ ap (λ (l : List Text). behind x (behind y zs) ++ l) (across_behind x ys zs)
    ∙ sym (behind_append x (behind y zs) (across ys zs))

across_across : (xs ys zs : List Text) → across (across xs ys) zs ≡ across xs (across ys zs)
across_across [] ys zs = refl
across_across (x ∷ xs) ys zs =
    across_append (behind x ys) (across xs ys) zs
    ∙ ap (λ (l : List Text). l ++ across (across xs ys) zs) (across_behind x ys zs)
    ∙ ap (λ (l : List Text). behind x (across ys zs) ++ l) (across_across xs ys zs)

behind_none : (xs : List Text) → behind [] xs ≡ xs
behind_none [] = refl
behind_none (x ∷ xs) = ap (λ (l : List Text). x ∷ l) (behind_none xs)

across_one : (xs : List Text) → across ([] ∷ []) xs ≡ xs
across_one xs = append-nil (behind [] xs) ∙ behind_none xs

pub across_none : (xs : List Text) → across xs [] ≡ []
across_none [] = refl
across_none (x ∷ xs) = across_none xs

across_empty : (xs : List Text) → across xs ([] ∷ []) ≡ xs
across_empty [] = refl
across_empty (x ∷ xs) =
    ap (λ (t : Text). t ∷ across xs ([] ∷ [])) (append-nil x) ∙ ap (λ (l : List Text). x ∷ l) (across_empty xs)

across_indexed : (n at : ℕ) (texts : List Text) → across (indexed n at ([] ∷ [])) texts ≡ indexed n at texts
across_indexed zero at texts = refl
across_indexed (suc n) at texts =
    ap (λ (t : Text). behind t texts ++ across (indexed n (at + 1) ([] ∷ [])) texts) (append-nil (index_text at))
    ∙ ap (λ (l : List Text). behind (index_text at) texts ++ l) (across_indexed n (at + 1) texts)

-- ---- the names in a type

names-Void : (known : List (List Text)) → names_in known ty.Void ≡ []
names-Void known = search (rules, the_lemmas)

names-Num : (known : List (List Text)) (t : IntType) → names_in known (ty.Num t) ≡ [] ∷ []
names-Num known t = search (rules, the_lemmas)

names-Pointer : (known : List (List Text)) (to : Ty) (readonly : Bool) → names_in known (ty.Pointer to readonly) ≡ [] ∷ []
names-Pointer known to readonly = search (rules, the_lemmas)

names-Array : (known : List (List Text)) (of : Ty) (count : ℕ) → names_in known (ty.Array of count)
    ≡ indexed count 0 (names_in known of)
names-Array known of count = search (rules, the_lemmas)

names-Struct : (known : List (List Text)) (tag : ℕ) → names_in known (ty.Struct tag) ≡ get_or known tag []
names-Struct known tag = search (rules, the_lemmas)

pub in_void : (known : List (List Text)) (t : Ty) (p : Prefix) (whole : List Text) → t ≡ ty.Void
    → behind_prefix p (names_in known t) ≡ whole → [] ≡ whole
in_void known t p whole e h =
    sym (across_none p.befores) ∙ ap (behind_prefix p) (sym (ap (names_in known) e ∙ names-Void known)) ∙ h

in_scalar : (p : Prefix) (made names whole : List Text) → made ≡ across p.befores (p.text ∷ []) → names ≡ [] ∷ []
    → behind_prefix p names ≡ whole → made ≡ whole
in_scalar p made names whole m e h =
    m ∙ ap (λ (t : Text). across p.befores (t ∷ [])) (sym (append-nil p.text)) ∙ ap (behind_prefix p) (sym e) ∙ h

pub in_num : (known : List (List Text)) (t : Ty) (of : IntType) (p : Prefix) (made whole : List Text) → t ≡ ty.Num of
    → made ≡ across p.befores (p.text ∷ []) → behind_prefix p (names_in known t) ≡ whole → made ≡ whole
in_num known t of p made whole e m h = in_scalar p made (names_in known t) whole m
    (ap (names_in known) e ∙ names-Num known of) h

pub in_pointer : (known : List (List Text)) (t to : Ty) (readonly : Bool) (p : Prefix) (made whole : List Text)
    → t ≡ ty.Pointer to readonly
    → made ≡ across p.befores (p.text ∷ []) → behind_prefix p (names_in known t) ≡ whole → made ≡ whole
in_pointer known t to readonly p made whole e m h =
    in_scalar p made (names_in known t) whole m (ap (names_in known) e ∙ names-Pointer known to readonly) h

across_text : (befores : List Text) (text : Text) (names : List Text)
    → across (across befores (text ∷ [])) names ≡ across befores (behind text names)
across_text befores text names =
    across_across befores (text ∷ []) names ∙ ap (across befores) (append-nil (behind text names))

pub in_struct : (known : List (List Text)) (t : Ty) (tag : ℕ) (p : Prefix) (befores made whole : List Text) → t ≡ ty.Struct tag
    → befores ≡ across p.befores (p.text ∷ []) → made ≡ across befores (get_or known tag [])
    → behind_prefix p (names_in known t) ≡ whole → made ≡ whole
in_struct known t tag p befores made whole e b m h =
    m ∙ ap (λ (l : List Text). across l (get_or known tag [])) b ∙ across_text p.befores p.text (get_or known tag [])
    ∙ ap (behind_prefix p) (sym (ap (names_in known) e ∙ names-Struct known tag)) ∙ h

pub in_array : (known : List (List Text)) (t of : Ty) (count : ℕ) (p q : Prefix) (whole : List Text) → t ≡ ty.Array of count
    → IsInElements p count q → behind_prefix p (names_in known t) ≡ whole → behind_prefix q (names_in known of) ≡ whole
in_array known t of count p q whole e s h =
    s (names_in known of) ∙ ap (behind_prefix p) (sym (ap (names_in known) e ∙ names-Array known of count)) ∙ h

-- one element makes the text behind all longer
pub in_one : (p q : Prefix) (count : ℕ) → count ≡ 1 → q.befores ≡ p.befores → q.text ≡ p.text ++ index_text 0
    → IsInElements p count q
in_one p q count c b e names =
    let zero_th : List Text = behind (index_text 0) names in
    ap (λ (l : List Text). across l (behind q.text names)) b
    ∙ ap (λ (t : Text). across p.befores (behind t names)) e
    ∙ ap (across p.befores) (behind_behind p.text (index_text 0) names ∙ ap (behind p.text) (sym (append-nil zero_th)))
    ∙ ap (λ (n : ℕ). behind_prefix p (indexed n 0 names)) (sym c)

-- more elements make more texts
pub in_many : (p q : Prefix) (count : ℕ) → q.text ≡ []
    → q.befores ≡ across p.befores (behind p.text (indexed count 0 ([] ∷ []))) → IsInElements p count q
in_many p q count e b names =
    let steps : List Text = indexed count 0 ([] ∷ []) in
    ap (λ (t : Text). across q.befores (behind t names)) e ∙ ap (across q.befores) (behind_none names)
    ∙ ap (λ (l : List Text). across l names) b ∙ across_across p.befores (behind p.text steps) names
    ∙ ap (across p.befores) (across_behind p.text steps names ∙ ap (behind p.text) (across_indexed count 0 names))

pub across_through : (befores texts steps : List Text) (text : Text) → texts ≡ across befores (text ∷ [])
    → across texts steps ≡ across befores (behind text steps)
across_through befores texts steps text e = ap (λ (l : List Text). across l steps) e ∙ across_text befores text steps

pub at_first : (p : Prefix) (names : List Text) → p.befores ≡ [] ∷ [] → p.text ≡ [] → behind_prefix p names ≡ names
at_first p names b e =
    ap (λ (l : List Text). across l (behind p.text names)) b ∙ across_one (behind p.text names)
    ∙ ap (λ (t : Text). behind t names) e ∙ behind_none names

-- ---- the names in structs

members_append : (known : List (List Text)) (ms more : List Member)
    → member_names known (ms ++ more) ≡ member_names known ms ++ member_names known more
members_append known [] more = refl
members_append known (m ∷ ms) more =
    ap (λ (l : List Text). behind (member_text m.name) (names_in known m.ty) ++ l) (members_append known ms more)
    ∙ sym (append_assoc (behind (member_text m.name) (names_in known m.ty)) (member_names known ms) (member_names known more))

pub members_step : (known : List (List Text)) (ms : List Member) (i : ℕ) (m : Member) (text : Text) (all names more : List Text)
    → i < length ms → m ≡ get_or ms i m → all ≡ member_names known (take i ms) → names ≡ names_in known m.ty
    → text ≡ 46 ∷ m.name → more ≡ all ++ behind text names → more ≡ member_names known (take (i + 1) ms)
members_step known ms i m text all names more h is a n t e =
    let here : List Text = behind (member_text m.name) (names_in known m.ty) in
    let part : behind text names ≡ here =
    ap (λ (l : List Text). behind text l) n ∙ ap (λ (w : Text). behind w (names_in known m.ty)) t in
    let cut : take (i + 1) ms ≡ take i ms ++ m ∷ [] = take_more ms i m h ∙ ap (λ (x : Member). take i ms ++ x ∷ []) (sym is) in
    let last : member_names known (m ∷ []) ≡ here = append-nil here in
    e ∙ ap (λ (l : List Text). l ++ behind text names) a
    ∙ ap (λ (l : List Text). member_names known (take i ms) ++ l) (part ∙ sym last)
    ∙ sym (members_append known (take i ms) (m ∷ [])) ∙ ap (member_names known) (sym cut)

struct_names-last : (known : List (List Text)) (ss : List Struct) (s : Struct)
    → struct_names_from known (ss ++ s ∷ [])
    ≡ struct_names_from known ss ++ member_names (struct_names_from known ss) s.members ∷ []
struct_names-last known [] s = refl
struct_names-last known (t ∷ ss) s = struct_names-last (known ++ member_names known t.members ∷ []) ss s

abbrev Same : Option (List Text) → List Text → Type 0
Same = Keeps (λ names. names)

pub named_at : (structs : List Struct) (named : List (Option (List Text))) (at : ℕ) (kept : Option (List Text))
    (names : List Text)
    → IsNamed named structs → at < length named → kept ≡ get_or named at kept → kept ≡ Some names
    → names ≡ get_or (struct_names structs) at []
named_at structs named at kept names all h is some =
    let here : Same (get_or named at kept) (get_or (struct_names structs) at []) =
    zip_at Same named (struct_names structs) at kept [] all.kept h in
    let found : get_or named at kept ≡ Some names = sym is ∙ some in
    rw found at here

pub named_past : (structs : List Struct) (named : List (Option (List Text))) (at : ℕ) → IsNamed named structs
    → length named ≤ at
    → get_or (struct_names structs) at [] ≡ []
named_past structs named at all h =
    let same : length named ≡ length (struct_names structs) = length-zip Same named (struct_names structs) all.kept in
    get_or_past (struct_names structs) at [] (omega arith)

is_same : (kept : Option (List Text)) (names : List Text) → IfSome kept (λ made. made ≡ names) → Same kept names
is_same None names h = tt
is_same (Some made) names h = h

pub structs_step : (structs : List Struct) (named more : List (Option (List Text))) (i : ℕ) (of : Struct)
    (kept : Option (List Text))
    → i < length structs → of ≡ get_or structs i of → IsNamed named (take i structs)
    → IfSome kept (λ made. made ≡ member_names (struct_names (take i structs)) of.members)
    → more ≡ named ++ kept ∷ [] → IsNamed more (take (i + 1) structs)
structs_step structs named more i of kept h is all one e =
    let before : List (List Text) = struct_names (take i structs) in
    let these : AllZip Same (named ++ kept ∷ []) (before ++ member_names before of.members ∷ []) =
    zip-last Same named before kept (member_names before of.members) all.kept
    (is_same kept (member_names before of.members) one) in
    let cut : take (i + 1) structs ≡ take i structs ++ of ∷ [] =
    take_more structs i of h ∙ ap (λ (x : Struct). take i structs ++ x ∷ []) (sym is) in
    let whole : struct_names (take (i + 1) structs) ≡ before ++ member_names before of.members ∷ [] =
    ap struct_names cut ∙ struct_names-last [] (take i structs) of in
    record { kept = rw (e, whole) these }

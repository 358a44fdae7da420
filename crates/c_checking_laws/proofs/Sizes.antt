-- Types keep what they are where structs are added: what is an object stays one, with its size, its slots and the types of its
-- scalars.
use Rattle.std.proofs.Common.{append_assoc, append-nil, add-zero, ◌≡◌, ℕ, ◌+◌, ◌*◌, ◌<◌, ◌≤◌, min, Bool, true, false, ◌&&◌, cond, nat_lt, nat_le, List, [], ◌∷◌, ◌++◌, map, length, length-append, get_or, Option, Some, None, refl, sym, ap, ◌∙◌, rules, tests, arith}
use Rattle.std.proofs.lemmas.List.{get_or_append_left}
use Rattle.base16.specs.declared.integer.IntType.{IntType}
use Rattle.core_tree.specs.declared.types.Ty.{Ty, ind-Ty, roll-Ty, map-Ty, fold-Ty, the_lemmas}
use Rattle.core_tree.specs.declared.types.Ty.TheVariants as ty
use Rattle.core_tree.specs.declared.types.Ty.TheOpen.{Ty-F}
use Rattle.core_tree.specs.declared.types.Struct.{Struct}
use Rattle.core_tree.specs.declared.types.Member.{Member}
use Rattle.core_tree.specs.declared.program.Core.{Core}
use Rattle.core_tree.specs.Layout.{Layout, nothing, copies, layout_in, layouts_from, layouts, layout, size_of, struct_layout, stride}
use Rattle.core_tree.specs.LawfulCore.{is_object, IsObject, IsSmall, Leaves, repeated, leaf_step, leaves_in, struct_leaves, scalar_types}
use Rattle.core_tree.specs.Reaching.{joined}
use Rattle.c_typing.specs.declared.environment.Env.{Env}
use Rattle.c_typing.specs.declared.fault.Rule.TheVariants.{Incomplete, TooBig}
use Rattle.c_typing.specs.Scopes.{is_sized, tags, count_of_defining}
use Rattle.c_typing_laws.proofs.Same.{both_hold}
use Rattle.c_checking.specs.Declarators.{object_rule}
use Rattle.c_checking_laws.specs.Standing.{Begins}
use Rattle.c_checking_laws.specs.Accepted.{ObjectIsWhole}
use Rattle.c_checking_laws.proofs.Lists.{length_begins}

-- ---- objects

test_less : (n m k : ℕ) → m ≤ k → nat_lt n m ≡ true → nat_lt n k ≡ true
test_less n m k le is = grind (arith, tests)

both_true : (p q : Bool) → p ≡ true → q ≡ true → (p && q) ≡ true
both_true true true p q = refl
both_true true false p q = q
both_true false q p r = p

abbrev StaysObject : Ty → Type 0
StaysObject t = (all all' below below' : ℕ) → all ≤ all' → below ≤ below' → is_object all t below ≡ true
    → is_object all' t below' ≡ true

module _ {A : Type 0} (inner : A → Ty) (deeper : (a : A) → StaysObject (inner a)) where
  object_layer : (x : Ty-F Ty) (y : Ty-F A) → map-Ty A Ty inner y ≡ x → StaysObject (roll-Ty x)
  object_layer x Ty-F.Void is all all' below below' p q o =
      let h : roll-Ty x ≡ ty.Void = search (rules, the_lemmas) in
      let g : is_object all ty.Void below ≡ true = rw h at o in absurd (search (rules, the_lemmas))
  object_layer x (Ty-F.Num t) is all all' below below' p q o =
      let h : roll-Ty x ≡ ty.Num t = search (rules, the_lemmas) in
      rw h (search (rules, the_lemmas))
  object_layer x (Ty-F.Pointer to r) is all all' below below' p q o =
      let h : roll-Ty x ≡ ty.Pointer (inner to) r = search (rules, the_lemmas) in
      let g : is_object all (ty.Pointer (inner to) r) below ≡ true = rw h at o in
      let i : is_object all (inner to) all ≡ true = search (rules, the_lemmas) in
      let j : is_object all' (inner to) all' ≡ true = deeper to all all' all all' p p i in
      rw h (search (rules, the_lemmas))
  object_layer x (Ty-F.Array of n) is all all' below below' p q o =
      let h : roll-Ty x ≡ ty.Array (inner of) n = search (rules, the_lemmas) in
      let g : is_object all (ty.Array (inner of) n) below ≡ true = rw h at o in
      let i : (nat_le 1 n && nat_le n 32767 && is_object all (inner of) below) ≡ true = search (rules, the_lemmas) in
      let w = both_hold (nat_le 1 n && nat_le n 32767) (is_object all (inner of) below) i in
      let j : is_object all' (inner of) below' ≡ true = deeper of all all' below below' p q w.1 in
      let k : (nat_le 1 n && nat_le n 32767 && is_object all' (inner of) below') ≡ true =
      both_true (nat_le 1 n && nat_le n 32767) (is_object all' (inner of) below') w.0 j in
      rw h (search (rules, the_lemmas))
  object_layer x (Ty-F.Struct tag) is all all' below below' p q o =
      let h : roll-Ty x ≡ ty.Struct tag = search (rules, the_lemmas) in
      let g : is_object all (ty.Struct tag) below ≡ true = rw h at o in
      let i : nat_lt tag below ≡ true = search (rules, the_lemmas) in
      let j : nat_lt tag below' ≡ true = test_less tag below below' q i in
      rw h (search (rules, the_lemmas))

pub object_stays : (t : Ty) → StaysObject t
object_stays = ind-Ty StaysObject (λ x y is. object_layer (λ e. e.0) (λ e. e.1) x y is)

-- ---- tables of structs

pub layouts_more : (known : List Layout) (ss : List Struct) → Begins known (layouts_from known ss)
layouts_more known [] = ([], sym (append-nil known))
layouts_more known (s ∷ ss) =
    let w = layouts_more (known ++ struct_layout known s ∷ []) ss in
    (struct_layout known s ∷ w.0, w.1 ∙ append_assoc known (struct_layout known s ∷ []) w.0)

layouts_split : (known : List Layout) (ss more : List Struct)
    → layouts_from known (ss ++ more) ≡ layouts_from (layouts_from known ss) more
layouts_split known [] more = refl
layouts_split known (s ∷ ss) more = layouts_split (known ++ struct_layout known s ∷ []) ss more

pub layouts_count : (known : List Layout) (ss : List Struct) → length (layouts_from known ss) ≡ length known + length ss
layouts_count known [] = omega arith
layouts_count known (s ∷ ss) =
    let h = layouts_count (known ++ struct_layout known s ∷ []) ss in
    let g : length (known ++ struct_layout known s ∷ []) ≡ length known + 1 =
    length-append known (struct_layout known s ∷ []) in omega arith

pub layouts_begin : (ss all : List Struct) → Begins ss all → Begins (layouts ss) (layouts all)
layouts_begin ss all b =
    let w = layouts_more (layouts ss) b.0 in
    (w.0, ap layouts b.1 ∙ layouts_split [] ss b.0 ∙ w.1)

leaves_more : (known : List (List Ty)) (ss : List Struct) → Begins known (struct_leaves known ss)
leaves_more known [] = ([], sym (append-nil known))
leaves_more known (s ∷ ss) =
    let own : List Ty = joined (map (λ (m : Member). leaves_in known m.ty) s.members) in
    let w = leaves_more (known ++ own ∷ []) ss in
    (own ∷ w.0, w.1 ∙ append_assoc known (own ∷ []) w.0)

leaves_split : (known : List (List Ty)) (ss more : List Struct)
    → struct_leaves known (ss ++ more) ≡ struct_leaves (struct_leaves known ss) more
leaves_split known [] more = refl
leaves_split known (s ∷ ss) more =
    leaves_split (known ++ joined (map (λ (m : Member). leaves_in known m.ty) s.members) ∷ []) ss more

leaves_count : (known : List (List Ty)) (ss : List Struct) → length (struct_leaves known ss) ≡ length known + length ss
leaves_count known [] = omega arith
leaves_count known (s ∷ ss) =
    let own : List Ty = joined (map (λ (m : Member). leaves_in known m.ty) s.members) in
    let h = leaves_count (known ++ own ∷ []) ss in
    let g : length (known ++ own ∷ []) ≡ length known + 1 = length-append known (own ∷ []) in omega arith

leaves_begin : (ss all : List Struct) → Begins ss all → Begins (struct_leaves [] ss) (struct_leaves [] all)
leaves_begin ss all b =
    let w = leaves_more (struct_leaves [] ss) b.0 in
    (w.0, ap (struct_leaves []) b.1 ∙ leaves_split [] ss b.0 ∙ w.1)

-- ---- layouts and leaves of a type, where tables grow

abbrev KeepsLayout : Ty → Type 0
KeepsLayout t = (all below : ℕ) (known more : List Layout) → below ≤ length known → is_object all t below ≡ true
    → layout_in (known ++ more) t ≡ layout_in known t

abbrev array_layout : ℕ → Layout → Layout
array_layout n of = record { size = n * of.size; even = of.even; slots = copies n 0 of }

pub test_below : (n m : ℕ) → nat_lt n m ≡ true → n < m
test_below n m is = grind (arith, tests)

module _ {A : Type 0} (inner : A → Ty) (deeper : (a : A) → KeepsLayout (inner a)) where
  layout_layer : (x : Ty-F Ty) (y : Ty-F A) → map-Ty A Ty inner y ≡ x → KeepsLayout (roll-Ty x)
  layout_layer x Ty-F.Void is all below known more p o =
      let h : roll-Ty x ≡ ty.Void = search (rules, the_lemmas) in
      rw h (search (rules, the_lemmas))
  layout_layer x (Ty-F.Num t) is all below known more p o =
      let h : roll-Ty x ≡ ty.Num t = search (rules, the_lemmas) in
      rw h (search (rules, the_lemmas))
  layout_layer x (Ty-F.Pointer to r) is all below known more p o =
      let h : roll-Ty x ≡ ty.Pointer (inner to) r = search (rules, the_lemmas) in
      rw h (search (rules, the_lemmas))
  layout_layer x (Ty-F.Array of n) is all below known more p o =
      let h : roll-Ty x ≡ ty.Array (inner of) n = search (rules, the_lemmas) in
      let g : is_object all (ty.Array (inner of) n) below ≡ true = rw h at o in
      let i : (nat_le 1 n && nat_le n 32767 && is_object all (inner of) below) ≡ true = search (rules, the_lemmas) in
      let w = both_hold (nat_le 1 n && nat_le n 32767) (is_object all (inner of) below) i in
      let j : layout_in (known ++ more) (inner of) ≡ layout_in known (inner of) = deeper of all below known more p w.1 in
      let a : layout_in (known ++ more) (ty.Array (inner of) n) ≡ array_layout n (layout_in (known ++ more) (inner of)) =
      search (rules, the_lemmas) in
      let b : layout_in known (ty.Array (inner of) n) ≡ array_layout n (layout_in known (inner of)) =
      search (rules, the_lemmas) in
      rw h (a ∙ ap (array_layout n) j ∙ sym b)
  layout_layer x (Ty-F.Struct tag) is all below known more p o =
      let h : roll-Ty x ≡ ty.Struct tag = search (rules, the_lemmas) in
      let g : is_object all (ty.Struct tag) below ≡ true = rw h at o in
      let i : nat_lt tag below ≡ true = search (rules, the_lemmas) in
      let j : tag < length known = let k : tag < below = test_below tag below i in omega arith in
      let a : layout_in (known ++ more) (ty.Struct tag) ≡ get_or (known ++ more) tag nothing = search (rules, the_lemmas) in
      let b : layout_in known (ty.Struct tag) ≡ get_or known tag nothing = search (rules, the_lemmas) in
      rw h (a ∙ get_or_append_left known more nothing tag j ∙ sym b)

layout_kept : (t : Ty) → KeepsLayout t
layout_kept = ind-Ty KeepsLayout (λ x y is. layout_layer (λ e. e.0) (λ e. e.1) x y is)

-- an object keeps its layout
pub layout_stays : (ss all : List Struct) (n : ℕ) (t : Ty) → Begins ss all → is_object n t (length ss) ≡ true
    → layout all t ≡ layout ss t
layout_stays ss all n t b o =
    let w = layouts_begin ss all b in
    let e : length (layouts ss) ≡ length ss = layouts_count [] ss ∙ (omega arith) in
    let k : length ss ≤ length (layouts ss) = omega arith in
    ap (λ l. layout_in l t) w.1 ∙ layout_kept t n (length ss) (layouts ss) w.0 k o

abbrev KeepsLeaves : Ty → Type 0
KeepsLeaves t = (all below : ℕ) (known more : List (List Ty)) → below ≤ length known → is_object all t below ≡ true
    → leaves_in (known ++ more) t ≡ leaves_in known t

-- a type is its own whole
abbrev IsWhole : Ty → Type 0
IsWhole t = (known : List (List Ty)) → (fold-Ty Leaves (leaf_step known) t).whole ≡ t

module _ {A : Type 0} (inner : A → Ty) (deeper : (a : A) → IsWhole (inner a)) where
  whole_layer : (x : Ty-F Ty) (y : Ty-F A) → map-Ty A Ty inner y ≡ x → IsWhole (roll-Ty x)
  whole_layer x Ty-F.Void is known =
      let h : roll-Ty x ≡ ty.Void = search (rules, the_lemmas) in
      rw h (search (rules, the_lemmas))
  whole_layer x (Ty-F.Num t) is known =
      let h : roll-Ty x ≡ ty.Num t = search (rules, the_lemmas) in
      rw h (search (rules, the_lemmas))
  whole_layer x (Ty-F.Pointer to r) is known =
      let h : roll-Ty x ≡ ty.Pointer (inner to) r = search (rules, the_lemmas) in
      let d = deeper to known in
      let a : (fold-Ty Leaves (leaf_step known) (ty.Pointer (inner to) r)).whole
      ≡ ty.Pointer (fold-Ty Leaves (leaf_step known) (inner to)).whole r = search (rules, the_lemmas) in
      rw h (a ∙ ap (λ u. ty.Pointer u r) d)
  whole_layer x (Ty-F.Array of n) is known =
      let h : roll-Ty x ≡ ty.Array (inner of) n = search (rules, the_lemmas) in
      let d = deeper of known in
      let a : (fold-Ty Leaves (leaf_step known) (ty.Array (inner of) n)).whole
      ≡ ty.Array (fold-Ty Leaves (leaf_step known) (inner of)).whole n = search (rules, the_lemmas) in
      rw h (a ∙ ap (λ u. ty.Array u n) d)
  whole_layer x (Ty-F.Struct tag) is known =
      let h : roll-Ty x ≡ ty.Struct tag = search (rules, the_lemmas) in
      rw h (search (rules, the_lemmas))

pub is_whole : (t : Ty) → IsWhole t
is_whole = ind-Ty IsWhole (λ x y is. whole_layer (λ e. e.0) (λ e. e.1) x y is)

-- the scalars of each kind of type
pub leaves-Void : (known : List (List Ty)) → leaves_in known ty.Void ≡ []
leaves-Void known = search (rules, the_lemmas)

pub leaves-Num : (known : List (List Ty)) (t : IntType) → leaves_in known (ty.Num t) ≡ ty.Num t ∷ []
leaves-Num known t = search (rules, the_lemmas)

pub leaves-Pointer : (known : List (List Ty)) (to : Ty) (r : Bool)
    → leaves_in known (ty.Pointer to r) ≡ ty.Pointer to r ∷ []
leaves-Pointer known to r =
    let w = is_whole to known in
    let a : leaves_in known (ty.Pointer to r) ≡ ty.Pointer (fold-Ty Leaves (leaf_step known) to).whole r ∷ [] =
    search (rules, the_lemmas) in
    a ∙ ap (λ u. ty.Pointer u r ∷ []) w

pub leaves-Array : (known : List (List Ty)) (of : Ty) (n : ℕ)
    → leaves_in known (ty.Array of n) ≡ repeated n (leaves_in known of)
leaves-Array known of n = search (rules, the_lemmas)

pub leaves-Struct : (known : List (List Ty)) (tag : ℕ) → leaves_in known (ty.Struct tag) ≡ get_or known tag []
leaves-Struct known tag = search (rules, the_lemmas)

module _ {A : Type 0} (inner : A → Ty) (deeper : (a : A) → KeepsLeaves (inner a)) where
  leaves_layer : (x : Ty-F Ty) (y : Ty-F A) → map-Ty A Ty inner y ≡ x → KeepsLeaves (roll-Ty x)
  leaves_layer x Ty-F.Void is all below known more p o =
      let h : roll-Ty x ≡ ty.Void = search (rules, the_lemmas) in
      rw h (leaves-Void (known ++ more) ∙ sym (leaves-Void known))
  leaves_layer x (Ty-F.Num t) is all below known more p o =
      let h : roll-Ty x ≡ ty.Num t = search (rules, the_lemmas) in
      rw h (leaves-Num (known ++ more) t ∙ sym (leaves-Num known t))
  leaves_layer x (Ty-F.Pointer to r) is all below known more p o =
      let h : roll-Ty x ≡ ty.Pointer (inner to) r = search (rules, the_lemmas) in
      rw h (leaves-Pointer (known ++ more) (inner to) r ∙ sym (leaves-Pointer known (inner to) r))
  leaves_layer x (Ty-F.Array of n) is all below known more p o =
      let h : roll-Ty x ≡ ty.Array (inner of) n = search (rules, the_lemmas) in
      let g : is_object all (ty.Array (inner of) n) below ≡ true = rw h at o in
      let i : (nat_le 1 n && nat_le n 32767 && is_object all (inner of) below) ≡ true = search (rules, the_lemmas) in
      let w = both_hold (nat_le 1 n && nat_le n 32767) (is_object all (inner of) below) i in
      let j = deeper of all below known more p w.1 in
      rw h (leaves-Array (known ++ more) (inner of) n ∙ ap (repeated n) j ∙ sym (leaves-Array known (inner of) n))
  leaves_layer x (Ty-F.Struct tag) is all below known more p o =
      let h : roll-Ty x ≡ ty.Struct tag = search (rules, the_lemmas) in
      let g : is_object all (ty.Struct tag) below ≡ true = rw h at o in
      let i : nat_lt tag below ≡ true = search (rules, the_lemmas) in
      let j : tag < length known = let k : tag < below = test_below tag below i in omega arith in
      rw h (leaves-Struct (known ++ more) tag ∙ get_or_append_left known more [] tag j ∙ sym (leaves-Struct known tag))

leaves_kept : (t : Ty) → KeepsLeaves t
leaves_kept = ind-Ty KeepsLeaves (λ x y is. leaves_layer (λ e. e.0) (λ e. e.1) x y is)

-- an object keeps the types of its scalars
pub scalars_stay : (ss all : List Struct) (n : ℕ) (t : Ty) → Begins ss all → is_object n t (length ss) ≡ true
    → leaves_in (struct_leaves [] all) t ≡ leaves_in (struct_leaves [] ss) t
scalars_stay ss all n t b o =
    let w = leaves_begin ss all b in
    let e : length (struct_leaves [] ss) ≡ length ss = leaves_count [] ss ∙ (omega arith) in
    let k : length ss ≤ length (struct_leaves [] ss) = omega arith in
    ap (λ l. leaves_in l t) w.1 ∙ leaves_kept t n (length ss) (struct_leaves [] ss) w.0 k o

-- ---- objects of declarators

-- a type that breaks no rule of objects is one of the program, as small there
pub record Object (core : Core) (structs : List Struct) (t : Ty) : Type 0 where
  pub object : IsObject core t
  pub small : IsSmall core t
  pub same_layout : layout core.structs t ≡ layout structs t
  pub same_scalars : scalar_types core t ≡ leaves_in (struct_leaves [] structs) t

small_by : (env : Env) (t : Ty) (big : Bool) → nat_lt 16383 (stride env.structs t) ≡ big
    → cond big (Some TooBig) None ≡ None → size_of env.structs t ≤ 16383
unfolding stride
small_by env t true at_big is = absurd cc
small_by env t false at_big is =
    let h : min (size_of env.structs t) 65536 ≤ 16383 = not_less 16383 (min (size_of env.structs t) 65536) at_big in
    omega arith
  where
    not_less : (n m : ℕ) → nat_lt n m ≡ false → m ≤ n
    not_less n m is = grind (arith, tests)

object_by : (core : Core) (env : Env) (t : Ty) (sized : Bool) → Begins env.structs core.structs → env.defining ≡ None
    → is_sized env t ≡ sized
    → cond sized (cond (nat_lt 16383 (stride env.structs t)) (Some TooBig) None) (Some Incomplete) ≡ None
    → Object core env.structs t
unfolding is_sized
object_by core env t false b alone at_sized is = absurd cc
object_by core env t true b alone at_sized is =
    let small = small_by env t (nat_lt 16383 (stride env.structs t)) refl is in
    let n : tags env ≤ length core.structs =
    let l : length env.structs ≤ length core.structs = length_begins env.structs core.structs b in
    let m : tags env ≡ length env.structs = tags_alone env alone in omega arith in
    let same : layout core.structs t ≡ layout env.structs t =
    layout_stays env.structs core.structs (tags env) t b at_sized in
    record {
      object = object_stays t (tags env) (length core.structs) (length env.structs) (length core.structs) n
          (length_begins env.structs core.structs b) at_sized;
      small = still_small (size_of core.structs t) (size_of env.structs t) (ap (λ (l : Layout). l.size) same) small;
      same_layout = same;
      same_scalars = scalars_stay env.structs core.structs (tags env) t b at_sized;
    }
  where
    still_small : (n m : ℕ) → n ≡ m → m ≤ 16383 → n ≤ 16383
    still_small n m same small = omega arith

    tags_alone : (env : Env) → env.defining ≡ None → tags env ≡ length env.structs
    tags_alone env alone =
        ap (λ (o : Option (List ℕ)). length env.structs + count_of_defining o) alone ∙ add-zero (length env.structs)

pub object_of : (core : Core) (env : Env) (t : Ty) → Begins env.structs core.structs → env.defining ≡ None
    → object_rule env t ≡ None → Object core env.structs t
object_of core env t b alone is = object_by core env t (is_sized env t) b alone refl is

pub object_whole : (core : Core) (env : Env) (t : Ty) → ObjectIsWhole core env t
object_whole core env t b alone is =
    let o = object_of core env t b alone is in ((o.object, o.small), o.same_layout, o.same_scalars)

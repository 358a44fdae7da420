-- A place that is an address lies inside a variable of the program.
use Rattle.std.proofs.Common.{◌≡◌, ℕ, ◌+◌, ◌*◌, ◌<◌, ◌≤◌, nat_lt, Bool, true, false, cond, List, slice_get, Option, Some, None, ℤ, pos, negsuc, refl, sym, ap, subst, ◌∙◌, rules, arith}
use Rattle.std.proofs.lemmas.Nat.{mul-le}
use Rattle.core_tree.specs.declared.types.Ty.{Ty, out-Ty, the_lemmas as type_lemmas}
use Rattle.core_tree.specs.declared.types.Ty.TheVariants as ty
use Rattle.core_tree.specs.declared.types.Ty.TheOpen.{Ty-F}
use Rattle.core_tree.specs.declared.types.Struct.{Struct}
use Rattle.core_tree.specs.declared.types.Member.{Member}
use Rattle.core_tree.specs.declared.expressions.Expr.{Expr}
use Rattle.core_tree.specs.declared.expressions.Place.{Place}
use Rattle.core_tree.specs.declared.expressions.ExprKind.{ExprKind, fold-ExprKind, the_lemmas}
use Rattle.core_tree.specs.declared.expressions.PlaceKind.{PlaceKind, fold-PlaceKind}
use Rattle.core_tree.specs.declared.expressions.PlaceKind.TheVariants as pk
use Rattle.core_tree.specs.declared.expressions.ExprKind.TheOpen.{ExprKind-F, PlaceKind-F}
use Rattle.core_tree.specs.declared.program.Global.{Global}
use Rattle.core_tree.specs.Layout.{size_of, members_of, offset_of, stride, member_stride, int_type_of}
use Rattle.core_tree.specs.Lawful.{Scope, IsPlace, HasPlaceType}
use Rattle.core_tree.specs.LawfulCore.{Every, IsObject, AreStructs}
use Rattle.c_rules.specs.Constants.{known_layer, value_at}
use Rattle.c_checking.specs.Constants.{Address, Located, moved, indexed_by, element, place_step, no_places, address_kind}
use Rattle.c_checking_laws.specs.Standing.{Begins}
use Rattle.c_checking_laws.proofs.Lists.{every_at}
use Rattle.c_checking_laws.proofs.Sizes.{test_below}
use Rattle.c_checking_laws.proofs.Extents.{size_of_array, member_ends, member_object, element_object, stride_below, member_stride_below}

-- ---- each kind of place as an address

abbrev Where : Type 0
Where = Ty → Option Address

-- for any meaning of expressions and of places
module _ {K E : Type 0} (step : ExprKind-F K Where E Located → K) (at : PlaceKind-F K Where E Located → Where)
    (part : Ty → K → E) where
  abbrev kind_by : ExprKind → K
  kind_by =
      fold-ExprKind K Where E Located step at (λ e. part e.ty e.kind) (λ p. record { ty = p.ty; address = p.kind p.ty })

  abbrev place_by : PlaceKind → Where
  place_by =
      fold-PlaceKind K Where E Located step at (λ e. part e.ty e.kind) (λ p. record { ty = p.ty; address = p.kind p.ty })

  abbrev part_by : Expr → E
  part_by e = part e.ty (kind_by e.kind)

  abbrev located_by : Place → Located
  located_by p = record { ty = p.ty; address = place_by p.kind p.ty }

  fold-Local : (n : ℕ) → place_by (pk.Local n) ≡ at (PlaceKind-F.Local n)
  fold-Local n = search (rules, the_lemmas)

  fold-Global : (n : ℕ) → place_by (pk.Global n) ≡ at (PlaceKind-F.Global n)
  fold-Global n = search (rules, the_lemmas)

  fold-Deref : (e : Expr) → place_by (pk.Deref e) ≡ at (PlaceKind-F.Deref (part_by e))
  fold-Deref e = search (rules, the_lemmas)

  fold-At : (l r : Expr) → place_by (pk.At l r) ≡ at (PlaceKind-F.At (part_by l) (part_by r))
  fold-At l r = search (rules, the_lemmas)

  fold-Member : (of : Place) (tag n : ℕ) → place_by (pk.Member of tag n) ≡ at (PlaceKind-F.Member (located_by of) tag n)
  fold-Member of tag n = search (rules, the_lemmas)

  fold-Element : (of : Place) (i : Expr) → place_by (pk.Element of i) ≡ at (PlaceKind-F.Element (located_by of) (part_by i))
  fold-Element of i = search (rules, the_lemmas)

module _ (structs : List Struct) where
  address-Local : (n : ℕ) (t : Ty) → address_kind structs (pk.Local n) t ≡ None
  address-Local n t =
      ap (λ (f : Where). f t) (fold-Local (λ e. known_layer (no_places e))
      (place_step (λ index. value_at index.at index.known) structs)
      (λ t known. record { at = int_type_of t; known = known t }) n)

  address-Global : (n : ℕ) (t : Ty) → address_kind structs (pk.Global n) t ≡ Some (record { global = n; offset = 0 })
  address-Global n t =
      ap (λ (f : Where). f t) (fold-Global (λ e. known_layer (no_places e))
      (place_step (λ index. value_at index.at index.known) structs)
      (λ t known. record { at = int_type_of t; known = known t }) n)

  address-Deref : (e : Expr) (t : Ty) → address_kind structs (pk.Deref e) t ≡ None
  address-Deref e t =
      ap (λ (f : Where). f t) (fold-Deref (λ e. known_layer (no_places e))
      (place_step (λ index. value_at index.at index.known) structs)
      (λ t known. record { at = int_type_of t; known = known t }) e)

  address-At : (l r : Expr) (t : Ty) → address_kind structs (pk.At l r) t ≡ None
  address-At l r t =
      ap (λ (f : Where). f t) (fold-At (λ e. known_layer (no_places e))
      (place_step (λ index. value_at index.at index.known) structs)
      (λ t known. record { at = int_type_of t; known = known t }) l r)

  address-Member : (of : Place) (tag n : ℕ) (t : Ty)
      → address_kind structs (pk.Member of tag n) t
      ≡ moved (member_stride structs tag n) (address_kind structs of.kind of.ty)
  address-Member of tag n t =
      ap (λ (f : Where). f t) (fold-Member (λ e. known_layer (no_places e))
      (place_step (λ index. value_at index.at index.known) structs)
      (λ t known. record { at = int_type_of t; known = known t }) of tag n)

  -- of an index only its value is looked at
  address-Element : (of : Place) (i : Expr) (t : Ty)
      → (v : Option ℤ) × (address_kind structs (pk.Element of i) t
      ≡ element (stride structs t) (out-Ty of.ty) v (address_kind structs of.kind of.ty))
  address-Element of i t = (
    _,
    ap (λ (f : Where). f t) (fold-Element (λ e. known_layer (no_places e))
        (place_step (λ index. value_at index.at index.known) structs)
        (λ t known. record { at = int_type_of t; known = known t }) of i),
  )

-- ---- what is moved

-- an address that is another one moved by some bytes
record Moved (by : ℕ) (o : Option Address) (a : Address) : Type 0 where
  from : Address
  is_from : o ≡ Some from
  global : a.global ≡ from.global
  offset : a.offset ≡ from.offset + by

moved_is : (by : ℕ) (o : Option Address) (a : Address) → moved by o ≡ Some a → Moved by o a
moved_is by None a is = absurd (search rules)
moved_is by (Some b) a is =
    let e : record { global = b.global; offset = b.offset + by } ≡ a = cc in
    record {
      from = b;
      is_from = refl;
      global = sym (ap (λ (z : Address). z.global) e);
      offset = sym (ap (λ (z : Address). z.offset) e);
    }

-- an element is one of those that there are
record Indexed (size count : ℕ) (o : Option Address) (a : Address) : Type 0 where
  index : ℕ
  below : index < count
  moves : Moved (index * size) o a

indexed_is : (size count : ℕ) (v : Option ℤ) (o : Option Address) (a : Address) → indexed_by size count v o ≡ Some a
    → Indexed size count o a
indexed_is size count None o a is = absurd (search rules)
indexed_is size count (Some (negsuc n)) o a is = absurd (search rules)
indexed_is size count (Some (pos n)) o a is = by (nat_lt n count) refl is
  where
    by : (b : Bool) → nat_lt n count ≡ b → cond b (moved (n * size) o) None ≡ Some a → Indexed size count o a
    by true at_b is = record { index = n; below = test_below n count at_b; moves = moved_is (n * size) o a is }
    by false at_b is = absurd (search rules)

-- ---- places of a scope

own_type : (s : Scope) (p : Place) (t : Ty) → IsPlace s p t → p.ty ≡ t
own_type s _ _ (IsPlace.is_place p t at has) = at

-- the part of a variable that a place is
pub record Inside (s : Scope) (t : Ty) (a : Address) : Type 0 where
  pub variable : Global
  pub is_variable : slice_get s.core.globals a.global ≡ Some variable
  pub ends : a.offset + size_of s.core.structs t ≤ size_of s.core.structs variable.ty
  pub object : IsObject s.core t

element_ends : (index count size offset from by whole : ℕ) → index < count → by ≤ size → offset ≡ from + index * by
    → from + count * size ≤ whole → offset + size ≤ whole
element_ends index count size offset from by whole below small is h =
    let a : index * by ≤ index * size = mul-le index by index size (omega arith) small in
    let b : (index + 1) * size ≤ count * size = mul-le (index + 1) size count size (omega arith) (omega arith) in
    let c : (index + 1) * size ≡ index * size + size = omega arith in omega (arith, a, b, c)

member_ends_by : (offset from by start size struct whole : ℕ) → offset ≡ from + by → by ≤ start → start + size ≤ struct
    → from + struct ≤ whole → offset + size ≤ whole
member_ends_by offset from by start size struct whole is small inside h = omega arith

module _ (s : Scope) (structs : List Struct) (first : Begins structs s.core.structs)
    (all : AreStructs s.core 0 s.core.structs)
    (variables : Every (λ (g : Global). IsObject s.core g.ty) s.core.globals) where
  not_there : {o : Option Address} (a : Address) → o ≡ None → o ≡ Some a → ⊥
  not_there a none is = let h : ◌≡◌ {A = Option Address} None (Some a) = sym none ∙ is in cc

  global_inside : (n : ℕ) (g : Global) (a : Address) → slice_get s.core.globals n ≡ Some g
      → ◌≡◌ {A = Option Address} (Some (record { global = n; offset = 0 })) (Some a) → Inside s g.ty a
  global_inside n g a found is =
      let e : ◌≡◌ {A = Address} (record { global = n; offset = 0 }) a = cc in
      rw (← e) (record {
        variable = g;
        is_variable = found;
        ends = none_plus (size_of s.core.structs g.ty);
        object = every_at (λ (g : Global). IsObject s.core g.ty) s.core.globals n g variables found;
      })
    where
      none_plus : (n : ℕ) → 0 + n ≤ n
      none_plus n = omega arith

  member_in : (a : Address) (tag n : ℕ) (m : Member) (o : Option Address) (w : Moved (member_stride structs tag n) o a)
      → slice_get (members_of s.core.structs tag) n ≡ Some m → Inside s (ty.Struct tag) w.from → Inside s m.ty a
  member_in a tag n m o w found i = record {
    variable = i.variable;
    is_variable = ap (slice_get s.core.globals) w.global ∙ i.is_variable;
    ends = member_ends_by a.offset w.from.offset (member_stride structs tag n) (offset_of s.core.structs tag n)
        (size_of s.core.structs m.ty) (size_of s.core.structs (ty.Struct tag)) (size_of s.core.structs i.variable.ty) w.offset
        (member_stride_below structs s.core.structs tag n first) (member_ends s.core all tag n m found) i.ends;
    object = member_object s.core all tag n m found;
  }

  element_is : (p : Place) (of : Ty) (count : ℕ) (v : Option ℤ) (o : Option Address) (a : Address) → p.ty ≡ ty.Array of count
      → element (stride structs of) (out-Ty p.ty) v o ≡ Some a → Indexed (stride structs of) count o a
  element_is p of count v o a at is =
      let h : out-Ty (ty.Array of count) ≡ Ty-F.Array of count = search (rules, type_lemmas) in
      let g : out-Ty p.ty ≡ Ty-F.Array of count = ap out-Ty at ∙ h in
      indexed_is (stride structs of) count v o a (sym (ap (λ l. element (stride structs of) l v o) g) ∙ is)

  element_in : (a : Address) (of : Ty) (count : ℕ) (o : Option Address) (w : Indexed (stride structs of) count o a)
      → Inside s (ty.Array of count) w.moves.from → Inside s of a
  element_in a of count o w i = record {
    variable = i.variable;
    is_variable = ap (slice_get s.core.globals) w.moves.global ∙ i.is_variable;
    ends = element_ends w.index count (size_of s.core.structs of) a.offset w.moves.from.offset (stride structs of)
        (size_of s.core.structs i.variable.ty) w.below (stride_below structs s.core.structs of first) w.moves.offset
        (subst (λ k. w.moves.from.offset + k ≤ size_of s.core.structs i.variable.ty) (size_of_array s.core.structs of count)
        i.ends);
    object = element_object s.core of count i.object;
  }

  mutual
    pub place_inside : (p : Place) (t : Ty) (a : Address) → IsPlace s p t → address_kind structs p.kind p.ty ≡ Some a
        → Inside s t a
    place_inside _ _ a (IsPlace.is_place p t at has) is =
        kind_inside p.kind t a has (ap (address_kind structs p.kind) (sym at) ∙ is)

    kind_inside : (kind : PlaceKind) (t : Ty) (a : Address) → HasPlaceType s kind t → address_kind structs kind t ≡ Some a
        → Inside s t a
    kind_inside _ _ a (HasPlaceType.local n t found) is = absurd (not_there a (address-Local structs n t) is)
    kind_inside _ _ a (HasPlaceType.global n g found) is = global_inside n g a found (sym (address-Global structs n g.ty) ∙ is)
    kind_inside _ _ a (HasPlaceType.pointed e to r i) is = absurd (not_there a (address-Deref structs e to) is)
    kind_inside _ _ a (HasPlaceType.member p tag n m i found) is =
        let w = moved_is (member_stride structs tag n) (address_kind structs p.kind p.ty) a
        (sym (address-Member structs p tag n m.ty) ∙ is) in
        member_in a tag n m (address_kind structs p.kind p.ty) w found (place_inside p (ty.Struct tag) w.from i w.is_from)
    kind_inside _ _ a (HasPlaceType.element p i of count t j k) is =
        let v = address-Element structs p i of in
        let o : Option Address = address_kind structs p.kind p.ty in
        let w = element_is p of count v.0 o a (own_type s p (ty.Array of count) j) (sym v.1 ∙ is) in
        element_in a of count o w (place_inside p (ty.Array of count) w.moves.from j w.moves.is_from)
    kind_inside _ _ a (HasPlaceType.pointer_at l r to c t whole i j) is = absurd (not_there a (address-At structs l r to) is)
    kind_inside _ _ a (HasPlaceType.at_pointer l r to c t whole i j) is = absurd (not_there a (address-At structs l r to) is)

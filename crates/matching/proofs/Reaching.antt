-- How far the scalars of a type reach: to its end, but for a pad byte. So an object reaches as far as its type says.
use Rattle.std.proofs.Common.{◌≡◌, ℕ, zero, suc, ◌+◌, ◌*◌, ◌%◌, ◌<◌, ◌≤◌, max, min, Bool, true, false, ◌||◌, if◌then◌else◌, List, [], ◌∷◌, ◌++◌, map, get_or, refl, sym, ap, ◌∙◌, subst, arith, rules}
use Rattle.base16.specs.declared.image.Kind.TheVariants as kind
use Rattle.base16.specs.declared.integer.IntType.{IntType}
use Rattle.base16.specs.declared.integer.IntType.TheVariants as int
use Rattle.c_values.specs.Objects.{wide, reach_of, some_wide, object_size}
use Rattle.c_values.specs.Pointers.{end_of}
use Rattle.c_values.specs.declared.state.Object.{Object}
use Rattle.c_values.specs.declared.value.Cell.{Cell as Scalar}
use Rattle.core_layout.specs.Laws.{width}
use Rattle.core_tree.specs.Layout.{Layout, copies, moved_by, aligned, nothing, scalar, integer, layout, layouts, layout_in, closed, with_member, with_members, member_layouts, layouts_from, struct_layout, size_of}
use Rattle.core_tree.specs.LawfulCore.{Every}
use Rattle.core_tree.specs.declared.types.Member.{Member}
use Rattle.core_tree.specs.declared.types.Slot.{Slot}
use Rattle.core_tree.specs.declared.types.Struct.{Struct}
use Rattle.core_tree.specs.declared.types.Ty.{Ty, the_lemmas, roll-Ty, map-Ty, ind-Ty}
use Rattle.core_tree.specs.declared.types.Ty.TheOpen.{Ty-F}
use Rattle.matching.proofs.Lying.{each_append}
use Rattle.matching.proofs.Spacing.{same_width}
use Rattle.matching.specs.Laid.{slot_of}

-- ---- where the last of some scalars ends

abbrev pub reach_slots : List Slot → ℕ
reach_slots [] = 0
reach_slots (s ∷ ss) = max (s.offset + width s.kind) (reach_slots ss)

moved_one : (by o w q all : ℕ) → (1 ≤ q → by + q ≤ all) → by + max (o + w) q ≤ max (o + by + w) all
moved_one by o w zero all h = omega arith
moved_one by o w (suc q) all h = let more : by + suc q ≤ all = h (omega arith) in omega arith

moved_reach : (by : ℕ) (xs : List Slot) → 1 ≤ reach_slots xs → by + reach_slots xs ≤ reach_slots (map (moved_by by) xs)
moved_reach by [] h = absurd (omega arith)
moved_reach by (x ∷ xs) h =
    moved_one by x.offset (width x.kind) (reach_slots xs) (reach_slots (map (moved_by by) xs)) (moved_reach by xs)

left_reach : (xs ys : List Slot) → reach_slots xs ≤ reach_slots (xs ++ ys)
left_reach [] ys = omega arith
left_reach (x ∷ xs) ys = more (x.offset + width x.kind) (reach_slots xs) (reach_slots (xs ++ ys)) (left_reach xs ys)
  where
    more : (a b c : ℕ) → b ≤ c → max a b ≤ max a c
    more a b c h = omega arith

right_reach : (xs ys : List Slot) → reach_slots ys ≤ reach_slots (xs ++ ys)
right_reach [] ys = omega arith
right_reach (x ∷ xs) ys = more (x.offset + width x.kind) (reach_slots ys) (reach_slots (xs ++ ys)) (right_reach xs ys)
  where
    more : (a b c : ℕ) → b ≤ c → b ≤ max a c
    more a b c h = omega arith

-- ---- layouts

abbrev IsClosed : Bool → ℕ → Type 0
IsClosed even size = even ≡ true → size % 2 ≡ 0

-- of members side by side
abbrev Reaches : Layout → Type 0
Reaches l = l.size ≤ aligned l.even (reach_slots l.slots)

-- of a type
record IsFull (l : Layout) : Type 0 where
  whole : IsClosed l.even l.size
  reaches : Reaches l

differ : false ≡ true → ⊥
differ e = cc

full_nothing : IsFull nothing
full_nothing = record { whole = λ e. absurd (differ e); reaches = omega arith }

full_integer : (t : IntType) → IsFull (integer t)
full_integer int.Char = record { whole = λ e. absurd (differ e); reaches = omega arith }
full_integer int.Int = record { whole = λ e. omega arith; reaches = omega arith }
full_integer int.UInt = record { whole = λ e. omega arith; reaches = omega arith }

full_pointer : IsFull (scalar kind.Pointer 2 true)
full_pointer = record { whole = λ e. omega arith; reaches = omega arith }

-- ---- members

none_reached : (e : Bool) (s : ℕ) → s ≤ aligned e 0 → s ≡ 0
none_reached true s h = omega arith
none_reached false s h = omega arith

-- sizes and reaches of what stands before, of a member, and of both
member_reach : (b e : Bool) (size s r q all : ℕ) → size ≤ aligned b r → s ≤ aligned e q → r ≤ all
    → (1 ≤ q → aligned e size + q ≤ all) → aligned e size + s ≤ aligned (b || e) all
member_reach true true size s r zero all h k l m = let z : s ≡ 0 = none_reached true s k in omega arith
member_reach true true size s r (suc q) all h k l m = let n : size + size % 2 + suc q ≤ all = m (omega arith) in omega arith
member_reach true false size s r zero all h k l m = let z : s ≡ 0 = none_reached false s k in omega arith
member_reach true false size s r (suc q) all h k l m = let n : size + suc q ≤ all = m (omega arith) in omega arith
member_reach false true size s r zero all h k l m = let z : s ≡ 0 = none_reached true s k in omega arith
member_reach false true size s r (suc q) all h k l m = let n : size + size % 2 + suc q ≤ all = m (omega arith) in omega arith
member_reach false false size s r zero all h k l m = let z : s ≡ 0 = none_reached false s k in omega arith
member_reach false false size s r (suc q) all h k l m = let n : size + suc q ≤ all = m (omega arith) in omega arith

member_reaches : (before m : Layout) → Reaches before → Reaches m → Reaches (with_member before m)
member_reaches before m h k =
    let at : ℕ = aligned m.even before.size in
    let moved : List Slot = map (moved_by at) m.slots in
    member_reach before.even m.even before.size m.size (reach_slots before.slots) (reach_slots m.slots)
    (reach_slots (before.slots ++ moved)) h k (left_reach before.slots moved)
    (λ some. let a : at + reach_slots m.slots ≤ reach_slots moved = moved_reach at m.slots some in
    let b : reach_slots moved ≤ reach_slots (before.slots ++ moved) = right_reach before.slots moved in
    omega (arith, a, b))

members_reach : (before : Layout) (ms : List Layout) → Reaches before → Every IsFull ms → Reaches (with_members before ms)
members_reach before [] h k = h
members_reach before (m ∷ ms) h k =
    members_reach (with_member before m) ms (member_reaches before m h k.0.reaches) k.1

aligned_closed : (even : Bool) (n : ℕ) → IsClosed even (aligned even n)
aligned_closed true n e = omega arith
aligned_closed false n e = absurd (differ e)

aligned_reaches : (even : Bool) (n r : ℕ) → n ≤ aligned even r → aligned even n ≤ aligned even r
aligned_reaches true n r h = omega arith
aligned_reaches false n r h = h

full_closed : (l : Layout) → Reaches l → IsFull (closed l)
full_closed l h = record {
  whole = aligned_closed l.even l.size;
  reaches = aligned_reaches l.even l.size (reach_slots l.slots) h;
}

-- ---- arrays

times_closed : (even : Bool) (n size : ℕ) → IsClosed even size → IsClosed even (n * size)
times_closed even zero size h e = let z : 0 * size ≡ 0 = omega arith in omega arith
times_closed even (suc n) size h e =
    let s : suc n * size ≡ size + n * size = omega arith in
    let one : size % 2 ≡ 0 = h e in
    let more : n * size % 2 ≡ 0 = times_closed even n size h e in
    sum (suc n * size) size (n * size) s one more
  where
    sum : (all a b : ℕ) → all ≡ a + b → a % 2 ≡ 0 → b % 2 ≡ 0 → all % 2 ≡ 0
    sum all a b s h k = omega arith

copies_reach : (n at : ℕ) (of : Layout) → 1 ≤ reach_slots of.slots
    → at + n * of.size + reach_slots of.slots ≤ reach_slots (copies (suc n) at of)
copies_reach zero at of h =
    let first : List Slot = map (moved_by at) of.slots in
    let a : at + reach_slots of.slots ≤ reach_slots first = moved_reach at of.slots h in
    let b : reach_slots first ≤ reach_slots (first ++ []) = left_reach first [] in
    let z : 0 * of.size ≡ 0 = omega arith in
    omega (arith, a, b, z)
copies_reach (suc n) at of h =
    let first : List Slot = map (moved_by at) of.slots in
    let more : List Slot = copies (suc n) (at + of.size) of in
    let a : at + of.size + n * of.size + reach_slots of.slots ≤ reach_slots more = copies_reach n (at + of.size) of h in
    let b : reach_slots more ≤ reach_slots (first ++ more) = right_reach first more in
    let s : suc n * of.size ≡ of.size + n * of.size = omega arith in
    omega (arith, a, b, s)

-- the size of an array by its last element: those before take even sizes where it is even
array_reach : (e : Bool) (size rest q all : ℕ) → size ≤ aligned e q → IsClosed e rest → rest + q ≤ all
    → size + rest ≤ aligned e all
array_reach true size rest q all h c k = let even : rest % 2 ≡ 0 = c refl in omega arith
array_reach false size rest q all h c k = omega arith

array_of : (count : ℕ) (of : Layout) → IsFull of → count * of.size ≤ aligned of.even (reach_slots (copies count 0 of))
array_of zero of h = let z : 0 * of.size ≡ 0 = omega arith in omega arith
array_of (suc n) of h = from (reach_slots of.slots) refl
  where
    from : (q : ℕ) → reach_slots of.slots ≡ q
        → suc n * of.size ≤ aligned of.even (reach_slots (copies (suc n) 0 of))
    from zero e =
        let none : of.size ≡ 0 = none_reached of.even of.size
        (subst (λ (k : ℕ). of.size ≤ aligned of.even k) e h.reaches) in
        let product : suc n * of.size ≡ suc n * 0 = ap (λ (k : ℕ). suc n * k) none in
        let z : suc n * 0 ≡ 0 = omega arith in
        omega (arith, product, z)
    from (suc q) e =
        let s : of.size + n * of.size ≡ suc n * of.size = omega arith in
        let last : 0 + n * of.size + reach_slots of.slots ≤ reach_slots (copies (suc n) 0 of) =
        copies_reach n 0 of (omega (arith, e)) in
        let part : n * of.size + reach_slots of.slots ≤ reach_slots (copies (suc n) 0 of) = omega (arith, last) in
        subst (λ (k : ℕ). k ≤ aligned of.even (reach_slots (copies (suc n) 0 of))) s
        (array_reach of.even of.size (n * of.size) (reach_slots of.slots) (reach_slots (copies (suc n) 0 of)) h.reaches
        (times_closed of.even n of.size h.whole) part)

full_array : (count : ℕ) (of : Layout) → IsFull of
    → IsFull (record { size = count * of.size; even = of.even; slots = copies count 0 of })
full_array count of h = record {
  whole = times_closed of.even count of.size h.whole;
  reaches = array_of count of h;
}

-- ---- types

at_full : (xs : List Layout) (i : ℕ) → Every IsFull xs → IsFull (get_or xs i nothing)
at_full [] i h = full_nothing
at_full (x ∷ xs) zero h = h.0
at_full (x ∷ xs) (suc i) h = at_full xs i h.1

module _ (known : List Layout) (all : Every IsFull known) where
  layer : {A : Type 0} (fa : A → Ty) → ((a : A) → IsFull (layout_in known (fa a))) → (y : Ty-F A)
      → IsFull (layout_in known (roll-Ty (map-Ty A Ty fa y)))
  layer fa ha Ty-F.Void =
      let e : layout_in known (roll-Ty Ty-F.Void) ≡ nothing = search (rules, the_lemmas) in rw e full_nothing
  layer fa ha (Ty-F.Num t) =
      let e : layout_in known (roll-Ty (Ty-F.Num t)) ≡ integer t = search (rules, the_lemmas) in rw e (full_integer t)
  layer fa ha (Ty-F.Pointer to readonly) =
      let e : layout_in known (roll-Ty (Ty-F.Pointer (fa to) readonly)) ≡ scalar kind.Pointer 2 true =
      search (rules, the_lemmas) in
      rw e full_pointer
  layer fa ha (Ty-F.Array of count) =
      let inner : Layout = layout_in known (fa of) in
      let e : layout_in known (roll-Ty (Ty-F.Array (fa of) count))
      ≡ record { size = count * inner.size; even = inner.even; slots = copies count 0 inner } =
      search (rules, the_lemmas) in
      rw e (full_array count inner (ha of))
  layer fa ha (Ty-F.Struct tag) =
      let e : layout_in known (roll-Ty (Ty-F.Struct tag)) ≡ get_or known tag nothing = search (rules, the_lemmas) in
      rw e (at_full known tag all)

  type_full : (t : Ty) → IsFull (layout_in known t)
  type_full = ind-Ty (λ t. IsFull (layout_in known t)) (λ x y is. subst (λ z. IsFull (layout_in known (roll-Ty z))) is
      (layer (λ e. e.0) (λ e. e.1) y))

  all_full : (ms : List Member) → Every IsFull (member_layouts known ms)
  all_full [] = tt
  all_full (m ∷ ms) = (type_full m.ty, all_full ms)

structs_full : (known : List Layout) (ss : List Struct) → Every IsFull known → Every IsFull (layouts_from known ss)
structs_full known [] all = all
structs_full known (s ∷ ss) all =
    structs_full (known ++ struct_layout known s ∷ []) ss
    (each_append IsFull known (struct_layout known s ∷ []) all (
      full_closed (with_members nothing (member_layouts known s.members))
          (members_reach nothing (member_layouts known s.members) full_nothing.reaches (all_full known all s.members)),
      tt,
    ))

-- the scalars of a type reach to its end but for a byte
pub size_reached : (structs : List Struct) (t : Ty) → size_of structs t ≤ reach_slots (layout structs t).slots + 1
size_reached structs t =
    let l : Layout = layout structs t in
    by l.even l.size (reach_slots l.slots) (type_full (layouts structs) (structs_full [] structs tt) t).reaches
  where
    by : (even : Bool) (n r : ℕ) → n ≤ aligned even r → n ≤ r + 1
    by true n r h = omega arith
    by false n r h = omega arith

-- ---- objects

reach_cells : (cs : List Scalar) → reach_slots (map slot_of cs) ≡ reach_of cs
reach_cells [] = refl
reach_cells (c ∷ cs) =
    ap (λ (n : ℕ). max (c.offset + n) (reach_slots (map slot_of cs))) (sym (same_width c.kind))
    ∙ ap (λ (n : ℕ). max (c.offset + (if wide c.kind then 2 else 1)) n) (reach_cells cs)

-- the pad byte of an object only adds to it
reach_within : (o : Object) → reach_of o.cells ≤ object_size o
reach_within o = by (some_wide o.cells) (reach_of o.cells)
  where
    by : (b : Bool) (n : ℕ) → n ≤ (if b then n + n % 2 else n)
    by true n = omega arith
    by false n = omega arith

-- an offset inside a type is no further than the end of an object that has its scalars
pub end_reached : (structs : List Struct) (t : Ty) (o : Object) (offset : ℕ) → map slot_of o.cells ≡ (layout structs t).slots
    → size_of structs t ≤ 65535 → offset < size_of structs t → offset ≤ end_of o
end_reached structs t o offset slots small inside =
    let far : size_of structs t ≤ reach_slots (layout structs t).slots + 1 = size_reached structs t in
    let same : reach_of o.cells ≡ reach_slots (layout structs t).slots = sym (reach_cells o.cells) ∙ ap reach_slots slots in
    by (size_of structs t) (reach_slots (layout structs t).slots) (reach_of o.cells) (object_size o) far same (reach_within o)
    small inside
  where
    by : (size r s n : ℕ) → size ≤ r + 1 → s ≡ r → s ≤ n → size ≤ 65535 → offset < size → offset ≤ min n 65535
    by size r s n far same least small inside = omega arith

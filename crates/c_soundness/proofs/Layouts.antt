-- The scalars of a type: their offsets rise, pointers stand where their types are pointers, and an object has a size.
use Rattle.std.proofs.Common.{append_assoc, append-nil, ◌≡◌, ℕ, zero, suc, ◌+◌, ◌*◌, ◌<◌, ◌≤◌, min, Bool, true, false, ◌&&◌, nat_le, nat_lt, List, [], ◌∷◌, ◌++◌, map, length, length-append, get_or, refl, sym, ap, subst, ◌∙◌, rules, arith, tests}
use Rattle.std.specs.Prelude.{nat_eq}
use Rattle.base16.specs.declared.integer.IntType.{IntType}
use Rattle.base16.specs.declared.integer.IntType.TheVariants as int
use Rattle.base16.specs.declared.image.Kind.{Kind}
use Rattle.base16.specs.declared.image.Kind.TheVariants as kind
use Rattle.core_tree.specs.declared.types.Ty.{Ty, out-Ty, ind-Ty, roll-Ty, map-Ty, fold-Ty, the_lemmas}
use Rattle.core_tree.specs.declared.types.Ty.TheVariants as ty
use Rattle.core_tree.specs.declared.types.Ty.TheOpen.{Ty-F}
use Rattle.core_tree.specs.declared.types.Slot.{Slot}
use Rattle.core_tree.specs.declared.types.Struct.{Struct}
use Rattle.core_tree.specs.declared.types.Member.{Member}
use Rattle.core_tree.specs.declared.program.Core.{Core}
use Rattle.core_tree.specs.Layout.{Layout, nothing, scalar, integer, copies, moved_by, aligned, layout_in, layouts_from, layouts, layout, size_of, with_member, with_members, member_layouts, struct_layout, stride, kind_of}
use Rattle.core_tree.specs.Reaching.{joined}
use Rattle.core_tree.specs.LawfulCore.{Every, is_object, IsObject, Leaves, repeated, leaf_step, leaves_in, struct_leaves, scalar_types, AreStructs}
use Rattle.core_tree.specs.Rules.{is_scalar, scalar_layer}
use Rattle.c_soundness.specs.Shapes.{holds_pointer}
use Rattle.c_soundness.proofs.Cells.{every_more}
use Rattle.c_soundness.proofs.Expressions.{KindsAre}

-- ---- words

every_at : {A : Type 0} (P : A → Type 0) (xs : List A) (i : ℕ) (d : A) → Every P xs → P d → P (get_or xs i d)
every_at P [] i d hs h = h
every_at P (x ∷ xs) zero d hs h = hs.0
every_at P (x ∷ xs) (suc i) d hs h = every_at P xs i d hs.1 h

-- ---- offsets rise

-- scalars in order between two offsets
abbrev pub Lie : ℕ → ℕ → List Slot → Type 0
Lie from end [] = from ≤ end
Lie from end (s ∷ ss) = (from ≤ s.offset) × Lie (s.offset + 1) end ss

lie_lower : (from low end : ℕ) (xs : List Slot) → from ≤ low → Lie low end xs → Lie from end xs
lie_lower from low end [] h l = omega (arith, l)
lie_lower from low end (x ∷ xs) h l = (omega (arith, l.0), l.1)

lie_append : (from mid low end : ℕ) (xs ys : List Slot) → Lie from mid xs → mid ≤ low → Lie low end ys → Lie from end (xs ++ ys)
lie_append from mid low end [] ys l h k = lie_lower from low end ys (omega (arith, l)) k
lie_append from mid low end (x ∷ xs) ys l h k = (l.0, lie_append (x.offset + 1) mid low end xs ys l.1 h k)

lie_moved : (by from end : ℕ) (xs : List Slot) → Lie from end xs → Lie (from + by) (end + by) (map (moved_by by) xs)
lie_moved by from end [] l = omega (arith, l)
lie_moved by from end (x ∷ xs) l =
    let start : from + by ≤ x.offset + by = omega (arith, l.0) in
    let back : x.offset + 1 + by ≡ x.offset + by + 1 = omega arith in
    let rest : Lie (x.offset + 1 + by) (end + by) (map (moved_by by) xs) = lie_moved by (x.offset + 1) end xs l.1 in
    (start, subst (λ (n : ℕ). Lie n (end + by) (map (moved_by by) xs)) back rest)

lie_copies : (n from : ℕ) (of : Layout) → Lie 0 of.size of.slots → Lie from (from + n * of.size) (copies n from of)
lie_copies zero from of l = omega arith
lie_copies (suc n) from of l =
    let first : Lie (0 + from) (of.size + from) (map (moved_by from) of.slots) = lie_moved from 0 of.size of.slots l in
    let start : 0 + from ≡ from = omega arith in
    let end : from + of.size + n * of.size ≡ from + suc n * of.size = omega arith in
    let rest : Lie (from + of.size) (from + of.size + n * of.size) (copies n (from + of.size) of) =
    lie_copies n (from + of.size) of l in
    let P : ℕ → Type 0 = λ m. Lie m (of.size + from) (map (moved_by from) of.slots) in
    let Q : ℕ → Type 0 = λ m. Lie (from + of.size) m (copies n (from + of.size) of) in
    lie_append from (of.size + from) (from + of.size) (from + suc n * of.size) (map (moved_by from) of.slots)
    (copies n (from + of.size) of)
    (subst P start first) (omega arith) (subst Q end rest)

past_aligned : (even : Bool) (n : ℕ) → n ≤ aligned even n
past_aligned true n = omega arith
past_aligned false n = omega arith

lie_with : (before m : Layout) → Lie 0 before.size before.slots → Lie 0 m.size m.slots
    → Lie 0 (with_member before m).size (with_member before m).slots
lie_with before m b l =
    let from : ℕ = aligned m.even before.size in
    let start : 0 + from ≡ from = omega arith in
    let end : m.size + from ≡ from + m.size = omega arith in
    let moved : Lie (0 + from) (m.size + from) (map (moved_by from) m.slots) = lie_moved from 0 m.size m.slots l in
    let P : ℕ → Type 0 = λ n. Lie n (m.size + from) (map (moved_by from) m.slots) in
    let Q : ℕ → Type 0 = λ n. Lie from n (map (moved_by from) m.slots) in
    lie_append 0 before.size from (from + m.size) before.slots (map (moved_by from) m.slots) b (past_aligned m.even before.size)
    (subst Q end (subst P start moved))

lie_longer : (from end more : ℕ) (xs : List Slot) → end ≤ more → Lie from end xs → Lie from more xs
lie_longer from end more [] h l = omega (arith, l)
lie_longer from end more (x ∷ xs) h l = (l.0, lie_longer (x.offset + 1) end more xs h l.1)

abbrev Lies : Layout → Type 0
Lies l = Lie 0 l.size l.slots

lies_members : (before : Layout) (ms : List Layout) → Lies before → Every Lies ms → Lies (with_members before ms)
lies_members before [] b hs = b
lies_members before (m ∷ ms) b hs = lies_members (with_member before m) ms (lie_with before m b hs.0) hs.1

lies_scalar : (k : Kind) (size : ℕ) (even : Bool) → 1 ≤ size → Lies (scalar k size even)
lies_scalar k size even h = (omega arith, omega (arith, h))

lies_integer : (t : IntType) → Lies (integer t)
lies_integer int.Char = lies_scalar kind.Char 1 false (omega arith)
lies_integer int.Int = lies_scalar kind.Int 2 true (omega arith)
lies_integer int.UInt = lies_scalar kind.UInt 2 true (omega arith)

abbrev array : ℕ → Layout → Layout
array count of = record { size = count * of.size; even = of.even; slots = copies count 0 of }

lies_array : (n : ℕ) (of : Layout) → Lies of → Lies (array n of)
lies_array n of l =
    let z : 0 + n * of.size ≡ n * of.size = omega arith in
    subst (λ (m : ℕ). Lie 0 m (copies n 0 of)) z (lie_copies n 0 of l)

layout-Void : (known : List Layout) → layout_in known ty.Void ≡ nothing
layout-Void known = search (rules, the_lemmas)

layout-Num : (known : List Layout) (t : IntType) → layout_in known (ty.Num t) ≡ integer t
layout-Num known t = search (rules, the_lemmas)

layout-Pointer : (known : List Layout) (to : Ty) (r : Bool) → layout_in known (ty.Pointer to r) ≡ scalar kind.Pointer 2 true
layout-Pointer known to r = search (rules, the_lemmas)

layout-Array : (known : List Layout) (of : Ty) (n : ℕ) → layout_in known (ty.Array of n) ≡ array n (layout_in known of)
layout-Array known of n = search (rules, the_lemmas)

layout-Struct : (known : List Layout) (tag : ℕ) → layout_in known (ty.Struct tag) ≡ get_or known tag nothing
layout-Struct known tag = search (rules, the_lemmas)

-- a claim on types that holds where it holds of what they are made of
module _ (P : Ty → Type 0) (void : P ty.Void) (num : (t : IntType) → P (ty.Num t))
    (pointer : (to : Ty) (r : Bool) → P to → P (ty.Pointer to r))
    (array_of : (of : Ty) (n : ℕ) → P of → P (ty.Array of n)) (struct : (tag : ℕ) → P (ty.Struct tag)) where
  layer : {A : Type 0} (fa : A → Ty) → ((a : A) → P (fa a)) → (y : Ty-F A) → P (roll-Ty (map-Ty A Ty fa y))
  layer fa ha Ty-F.Void = let e : roll-Ty Ty-F.Void ≡ ty.Void = search (rules, the_lemmas) in subst P (sym e) void
  layer fa ha (Ty-F.Num t) = let e : roll-Ty (Ty-F.Num t) ≡ ty.Num t = search (rules, the_lemmas) in subst P (sym e) (num t)
  layer fa ha (Ty-F.Pointer to r) =
      let e : roll-Ty (Ty-F.Pointer (fa to) r) ≡ ty.Pointer (fa to) r = search (rules, the_lemmas) in
      subst P (sym e) (pointer (fa to) r (ha to))
  layer fa ha (Ty-F.Array of n) =
      let e : roll-Ty (Ty-F.Array (fa of) n) ≡ ty.Array (fa of) n = search (rules, the_lemmas) in
      subst P (sym e) (array_of (fa of) n (ha of))
  layer fa ha (Ty-F.Struct tag) = let e : roll-Ty (Ty-F.Struct tag) ≡ ty.Struct tag = search (rules, the_lemmas) in subst P
      (sym e) (struct tag)

  by_types : (t : Ty) → P t
  by_types = ind-Ty P (λ x y is. subst (λ (z : Ty-F Ty). P (roll-Ty z)) is (layer (λ e. e.0) (λ e. e.1) y))

module _ (known : List Layout) (all : Every Lies known) where
  lies_type : (t : Ty) → Lies (layout_in known t)
  lies_type = by_types (λ t. Lies (layout_in known t))
      (rw (layout-Void known) (omega arith))
      (λ t. rw (layout-Num known t) (lies_integer t))
      (λ to r h. rw (layout-Pointer known to r) (lies_scalar kind.Pointer 2 true (omega arith)))
      (λ of n h. rw (layout-Array known of n) (lies_array n (layout_in known of) h))
      (λ tag. rw (layout-Struct known tag) (every_at Lies known tag nothing all (omega arith)))

  lies_row : (ms : List Member) → Every Lies (member_layouts known ms)
  lies_row [] = tt
  lies_row (m ∷ ms) = (lies_type m.ty, lies_row ms)

  lies_struct : (s : Struct) → Lies (struct_layout known s)
  lies_struct s =
      let l : Layout = with_members nothing (member_layouts known s.members) in
      lie_longer 0 l.size (aligned l.even l.size) l.slots (past_aligned l.even l.size)
      (lies_members nothing (member_layouts known s.members) (omega arith) (lies_row s.members))

lies_structs : (known : List Layout) (ss : List Struct) → Every Lies known → Every Lies (layouts_from known ss)
lies_structs known [] all = all
lies_structs known (s ∷ ss) all =
    lies_structs (known ++ struct_layout known s ∷ []) ss
    (every_more Lies known (struct_layout known s ∷ []) all (lies_struct known all s, tt))

-- the offsets of a type's scalars rise
pub rising : (structs : List Struct) (t : Ty) → Lies (layout structs t)
rising structs t = lies_type (layouts structs) (lies_structs [] structs tt) t

-- ---- pointers stand where the types are pointers

kinds_moved : (by : ℕ) (ss : List Slot) (ts : List Ty) → KindsAre ss ts → KindsAre (map (moved_by by) ss) ts
kinds_moved by [] [] h = tt
kinds_moved by [] (t ∷ ts) h = absurd h
kinds_moved by (s ∷ ss) [] h = absurd h
kinds_moved by (s ∷ ss) (t ∷ ts) h = (h.0, kinds_moved by ss ts h.1)

kinds_more : (ss : List Slot) (ts : List Ty) (rs : List Slot) (us : List Ty) → KindsAre ss ts → KindsAre rs us → KindsAre
    (ss ++ rs) (ts ++ us)
kinds_more [] [] rs us h i = i
kinds_more [] (t ∷ ts) rs us h i = absurd h
kinds_more (s ∷ ss) [] rs us h i = absurd h
kinds_more (s ∷ ss) (t ∷ ts) rs us h i = (h.0, kinds_more ss ts rs us h.1 i)

kinds_copies : (n from : ℕ) (of : Layout) (ts : List Ty) → KindsAre of.slots ts → KindsAre (copies n from of) (repeated n ts)
kinds_copies zero from of ts h = tt
kinds_copies (suc n) from of ts h =
    kinds_more (map (moved_by from) of.slots) ts (copies n (from + of.size) of) (repeated n ts) (kinds_moved from of.slots ts h)
    (kinds_copies n (from + of.size) of ts h)

abbrev TablesAre : List Layout → List (List Ty) → Type 0
TablesAre [] [] = Unit {0}
TablesAre [] (ts ∷ tables) = ⊥
TablesAre (l ∷ known) [] = ⊥
TablesAre (l ∷ known) (ts ∷ tables) = KindsAre l.slots ts × TablesAre known tables

tables_at : (known : List Layout) (tables : List (List Ty)) (tag : ℕ) → TablesAre known tables
    → KindsAre (get_or known tag nothing).slots (get_or tables tag [])
tables_at [] [] tag h = tt
tables_at [] (ts ∷ tables) tag h = absurd h
tables_at (l ∷ known) [] tag h = absurd h
tables_at (l ∷ known) (ts ∷ tables) zero h = h.0
tables_at (l ∷ known) (ts ∷ tables) (suc tag) h = tables_at known tables tag h.1

tables_last : (known : List Layout) (tables : List (List Ty)) (l : Layout) (ts : List Ty) → TablesAre known tables
    → KindsAre l.slots ts
    → TablesAre (known ++ l ∷ []) (tables ++ ts ∷ [])
tables_last [] [] l ts h i = (i, tt)
tables_last [] (us ∷ tables) l ts h i = absurd h
tables_last (m ∷ known) [] l ts h i = absurd h
tables_last (m ∷ known) (us ∷ tables) l ts h i = (h.0, tables_last known tables l ts h.1 i)

leaves-Void : (known : List (List Ty)) → leaves_in known ty.Void ≡ []
leaves-Void known = search (rules, the_lemmas)

leaves-Num : (known : List (List Ty)) (t : IntType) → leaves_in known (ty.Num t) ≡ ty.Num t ∷ []
leaves-Num known t = search (rules, the_lemmas)

leaves-Pointer : (known : List (List Ty)) (to : Ty) (r : Bool)
    → leaves_in known (ty.Pointer to r) ≡ ty.Pointer (fold-Ty Leaves (leaf_step known) to).whole r ∷ []
leaves-Pointer known to r = search (rules, the_lemmas)

leaves-Array : (known : List (List Ty)) (of : Ty) (n : ℕ) → leaves_in known (ty.Array of n) ≡ repeated n (leaves_in known of)
leaves-Array known of n = search (rules, the_lemmas)

leaves-Struct : (known : List (List Ty)) (tag : ℕ) → leaves_in known (ty.Struct tag) ≡ get_or known tag []
leaves-Struct known tag = search (rules, the_lemmas)

kind_pointer : (to : Ty) (r : Bool) → kind_of (ty.Pointer to r) ≡ kind.Pointer
unfolding kind_of
kind_pointer to r = search (rules, the_lemmas)

char_kind : kind_of (ty.Num int.Char) ≡ kind.Char
unfolding kind_of
char_kind = search (rules, the_lemmas)

int_kind : kind_of (ty.Num int.Int) ≡ kind.Int
unfolding kind_of
int_kind = search (rules, the_lemmas)

uint_kind : kind_of (ty.Num int.UInt) ≡ kind.UInt
unfolding kind_of
uint_kind = search (rules, the_lemmas)

kinds_integer : (t : IntType) → KindsAre (integer t).slots (ty.Num t ∷ [])
kinds_integer int.Char = (sym (ap holds_pointer char_kind), tt)
kinds_integer int.Int = (sym (ap holds_pointer int_kind), tt)
kinds_integer int.UInt = (sym (ap holds_pointer uint_kind), tt)

module _ (known : List Layout) (tables : List (List Ty)) (all : TablesAre known tables) where
  kinds_type : (t : Ty) → KindsAre (layout_in known t).slots (leaves_in tables t)
  kinds_type = by_types (λ t. KindsAre (layout_in known t).slots (leaves_in tables t))
      (rw (layout-Void known, leaves-Void tables) tt)
      (λ t. rw (layout-Num known t, leaves-Num tables t) (kinds_integer t))
      (λ to r h. rw (layout-Pointer known to r, leaves-Pointer tables to r)
      (sym (ap holds_pointer (kind_pointer (fold-Ty Leaves (leaf_step tables) to).whole r)), tt))
      (λ of n h. rw (layout-Array known of n, leaves-Array tables of n)
      (kinds_copies n 0 (layout_in known of) (leaves_in tables of) h))
      (λ tag. rw (layout-Struct known tag, leaves-Struct tables tag) (tables_at known tables tag all))

  kinds_members : (before : Layout) (ts : List Ty) (ms : List Member) → KindsAre before.slots ts
      → KindsAre (with_members before (member_layouts known ms)).slots
      (ts ++ joined (map (λ (m : Member). leaves_in tables m.ty) ms))
  kinds_members before ts [] h = subst (λ (us : List Ty). KindsAre before.slots us) (sym (append-nil ts)) h
  kinds_members before ts (m ∷ ms) h =
      let l : Layout = layout_in known m.ty in
      subst (λ (us : List Ty). KindsAre (with_members (with_member before l) (member_layouts known ms)).slots us)
      (append_assoc ts (leaves_in tables m.ty) (joined (map (λ (m : Member). leaves_in tables m.ty) ms)))
      (kinds_members (with_member before l) (ts ++ leaves_in tables m.ty) ms
      (kinds_more before.slots ts (map (moved_by (aligned l.even before.size)) l.slots) (leaves_in tables m.ty) h
      (kinds_moved (aligned l.even before.size) l.slots (leaves_in tables m.ty) (kinds_type m.ty))))

kinds_structs : (known : List Layout) (tables : List (List Ty)) (ss : List Struct) → TablesAre known tables
    → TablesAre (layouts_from known ss) (struct_leaves tables ss)
kinds_structs known tables [] h = h
kinds_structs known tables (s ∷ ss) h =
    kinds_structs (known ++ struct_layout known s ∷ []) (tables ++ joined
    (map (λ (m : Member). leaves_in tables m.ty) s.members) ∷ []) ss
    (tables_last known tables (struct_layout known s) (joined (map (λ (m : Member). leaves_in tables m.ty) s.members)) h
    (kinds_members known tables h nothing [] s.members tt))

pub kinds_are : (core : Core) (t : Ty) → KindsAre (layout core.structs t).slots (scalar_types core t)
kinds_are core t = kinds_type (layouts core.structs) (struct_leaves [] core.structs) (kinds_structs [] [] core.structs tt) t

-- ---- a scalar type has one scalar

slots_integer : (t : IntType) → (integer t).slots ≡ record { offset = 0; kind = kind_of (ty.Num t) } ∷ []
slots_integer int.Char = rw char_kind refl
slots_integer int.Int = rw int_kind refl
slots_integer int.UInt = rw uint_kind refl

scalar_by : (structs : List Struct) (l : Ty-F Ty) (t : Ty) → out-Ty t ≡ l → scalar_layer l ≡ true
    → (layout structs t).slots ≡ record { offset = 0; kind = kind_of t } ∷ []
scalar_by structs (Ty-F.Num a) t e h =
    let is : t ≡ ty.Num a = search (rules, the_lemmas) in
    rw is (ap (λ (l : Layout). l.slots) (layout-Num (layouts structs) a) ∙ slots_integer a)
scalar_by structs (Ty-F.Pointer to r) t e h =
    let is : t ≡ ty.Pointer to r = search (rules, the_lemmas) in
    rw is (ap (λ (l : Layout). l.slots) (layout-Pointer (layouts structs) to r) ∙ (rw (kind_pointer to r) refl))
scalar_by structs Ty-F.Void t e h = absurd cc
scalar_by structs (Ty-F.Array of n) t e h = absurd cc
scalar_by structs (Ty-F.Struct tag) t e h = absurd cc

pub scalar_slots : (structs : List Struct) (t : Ty) → is_scalar t ≡ true → (layout structs t).slots ≡ record
    { offset = 0; kind = kind_of t } ∷ []
unfolding is_scalar
scalar_slots structs t h = scalar_by structs (out-Ty t) t refl h

-- ---- objects

both_hold : (p q : Bool) → (p && q) ≡ true → (p ≡ true) × (q ≡ true)
both_hold true true e = (refl, refl)
both_hold true false e = absurd (search rules)
both_hold false q e = absurd (search rules)

both_true : (p q : Bool) → p ≡ true → q ≡ true → (p && q) ≡ true
both_true true true p q = refl
both_true true false p q = q
both_true false q p r = p

object-Array : (all : ℕ) (of : Ty) (n below : ℕ) → is_object all (ty.Array of n) below ≡
    (nat_le 1 n && nat_le n 32767 && is_object all of below)
object-Array all of n below = search (rules, the_lemmas)

object-Struct : (all tag below : ℕ) → is_object all (ty.Struct tag) below ≡ nat_lt tag below
object-Struct all tag below = search (rules, the_lemmas)

object-Num : (all : ℕ) (t : IntType) (below : ℕ) → is_object all (ty.Num t) below ≡ true
object-Num all t below = search (rules, the_lemmas)

object-Void : (all below : ℕ) → is_object all ty.Void below ≡ false
object-Void all below = search (rules, the_lemmas)

object-Pointer : (all : ℕ) (to : Ty) (r : Bool) (below : ℕ) → is_object all (ty.Pointer to r) below ≡ is_object all to all
object-Pointer all to r below = search (rules, the_lemmas)

test_less : (n m k : ℕ) → m ≤ k → nat_lt n m ≡ true → nat_lt n k ≡ true
test_less n m k le is = grind (arith, tests)

-- an object stays one where more structs are known
abbrev Widens : ℕ → Ty → Type 0
Widens all t = (below more : ℕ) → below ≤ more → is_object all t below ≡ true → is_object all t more ≡ true

pub object_widens : (all : ℕ) (t : Ty) → Widens all t
object_widens all = by_types (Widens all)
    (λ below more le o. absurd (let h : false ≡ true = sym (object-Void all below) ∙ o in cc))
    (λ t below more le o. object-Num all t more)
    (λ to r h below more le o. object-Pointer all to r more ∙ sym (object-Pointer all to r below) ∙ o)
    (λ of n h below more le o.
    let w = both_hold (nat_le 1 n && nat_le n 32767) (is_object all of below) (sym (object-Array all of n below) ∙ o) in
    object-Array all of n more ∙ both_true (nat_le 1 n && nat_le n 32767) (is_object all of more) w.0 (h below more le w.1))
    (λ tag below more le o. object-Struct all tag more ∙ test_less tag below more le (sym (object-Struct all tag below) ∙ o))

-- ---- sizes

-- the first structs have bytes
abbrev Sized : List Layout → ℕ → Type 0
Sized known below = (tag : ℕ) → tag < below → 1 ≤ (get_or known tag nothing).size

size_integer : (t : IntType) → 1 ≤ (integer t).size
size_integer int.Char = omega arith
size_integer int.Int = omega arith
size_integer int.UInt = omega arith

is_less : (n m : ℕ) → nat_lt n m ≡ true → n < m
is_less n m is = grind (arith, tests)

is_least : (n m : ℕ) → nat_le n m ≡ true → n ≤ m
is_least n m is = grind (arith, tests)

product : (n m : ℕ) → 1 ≤ n → 1 ≤ m → 1 ≤ n * m
product zero m h i = absurd (omega (arith, h))
product (suc n) m h i = omega (arith, i)

module _ (all : ℕ) (known : List Layout) (below : ℕ) (sized : Sized known below) where
  abbrev HasBytes : Ty → Type 0
  HasBytes t = is_object all t below ≡ true → 1 ≤ (layout_in known t).size

  bytes_type : (t : Ty) → HasBytes t
  bytes_type = by_types HasBytes
      (λ o. absurd (let h : false ≡ true = sym (object-Void all below) ∙ o in cc))
      (λ t o. rw (layout-Num known t) (size_integer t))
      (λ to r h o. rw (layout-Pointer known to r) (omega arith))
      (λ of n h o.
      let w = both_hold (nat_le 1 n && nat_le n 32767) (is_object all of below) (sym (object-Array all of n below) ∙ o) in
      let v = both_hold (nat_le 1 n) (nat_le n 32767) w.0 in
      rw (layout-Array known of n) (product n (layout_in known of).size (is_least 1 n v.0) (h w.1)))
      (λ tag o. rw (layout-Struct known tag) (sized tag (is_less tag below (sym (object-Struct all tag below) ∙ o))))

grows : (before : Layout) (ms : List Layout) → before.size ≤ (with_members before ms).size
grows before [] = omega arith
grows before (m ∷ ms) =
    let a : before.size ≤ aligned m.even before.size = past_aligned m.even before.size in
    let b : (with_member before m).size ≤ (with_members (with_member before m) ms).size = grows (with_member before m) ms in
    omega (arith, a, b)

bytes_members : (known : List Layout) (ms : List Member) → 1 ≤ length ms → Every
    (λ (m : Member). 1 ≤ (layout_in known m.ty).size) ms
    → 1 ≤ (with_members nothing (member_layouts known ms)).size
bytes_members known [] h all = absurd (omega (arith, h))
bytes_members known (m ∷ ms) h all =
    let l : Layout = layout_in known m.ty in
    let a : (with_member nothing l).size ≤ (with_members (with_member nothing l) (member_layouts known ms)).size =
    grows (with_member nothing l) (member_layouts known ms) in
    let b : 1 ≤ l.size = all.0 in
    omega (arith, a, b)

every_bytes : (all : ℕ) (known : List Layout) (below : ℕ) → Sized known below → (ms : List Member)
    → Every (λ (m : Member). is_object all m.ty below ≡ true) ms → Every (λ (m : Member). 1 ≤ (layout_in known m.ty).size) ms
every_bytes all known below sized [] h = tt
every_bytes all known below sized (m ∷ ms) h =
    (bytes_type all known below sized m.ty h.0, every_bytes all known below sized ms h.1)

sized_last : (known : List Layout) (l : Layout) → Sized known (length known) → 1 ≤ l.size → Sized (known ++ l ∷ [])
    (length (known ++ l ∷ []))
sized_last [] l h i zero lt = i
sized_last [] l h i (suc tag) lt = absurd (omega (arith, lt))
sized_last (k ∷ known) l h i zero lt = h zero (omega arith)
sized_last (k ∷ known) l h i (suc tag) lt = sized_last known l (λ t le. h (suc t) (omega (arith, le))) i tag (omega (arith, lt))

sized_structs : (core : Core) (known : List Layout) (n : ℕ) (ss : List Struct) → n ≡ length known → Sized known (length known)
    → AreStructs core n ss → Sized (layouts_from known ss) (length (layouts_from known ss))
sized_structs core known n [] e h all = h
sized_structs core known n (s ∷ ss) e h all =
    let l : Layout = with_members nothing (member_layouts known s.members) in
    let objects : Every (λ (m : Member). is_object (length core.structs) m.ty (length known) ≡ true) s.members =
    subst (λ (own : ℕ). Every (λ (m : Member). is_object (length core.structs) m.ty own ≡ true) s.members) e all.0.members in
    let a : 1 ≤ l.size = bytes_members known s.members all.0.some (every_bytes (length core.structs) known
    (length known) h s.members objects) in
    let b : l.size ≤ aligned l.even l.size = past_aligned l.even l.size in
    sized_structs core (known ++ struct_layout known s ∷ []) (n + 1) ss
    (rw (length-append known (struct_layout known s ∷ [])) (omega (arith, e)))
    (sized_last known (struct_layout known s) h (omega (arith, a, b))) all.1

layouts_count : (known : List Layout) (ss : List Struct) → length (layouts_from known ss) ≡ length known + length ss
layouts_count known [] = omega arith
layouts_count known (s ∷ ss) =
    layouts_count (known ++ struct_layout known s ∷ []) ss ∙ (rw (length-append known (struct_layout known s ∷ [])) (omega arith))

not_none : (n : ℕ) → 1 ≤ n → nat_eq (min n 65536) 0 ≡ false
not_none zero h = absurd (omega (arith, h))
not_none (suc n) h = grind (arith, tests)

-- an object of a lawful program has bytes
pub has_stride : (core : Core) (t : Ty) → AreStructs core 0 core.structs → IsObject core t → nat_eq (stride core.structs t) 0
    ≡ false
unfolding stride
has_stride core t all o =
    let sized : Sized (layouts core.structs) (length (layouts core.structs)) =
    sized_structs core [] 0 core.structs refl (λ tag lt. absurd (omega (arith, lt))) all in
    let many : length core.structs ≡ length (layouts core.structs) = sym (layouts_count [] core.structs ∙ (omega arith)) in
    let is : is_object (length core.structs) t (length (layouts core.structs)) ≡ true =
    subst (λ (n : ℕ). is_object (length core.structs) t n ≡ true) many o in
    not_none (size_of core.structs t) (bytes_type (length core.structs) (layouts core.structs)
    (length (layouts core.structs)) sized t is)

-- A member of a struct lies inside it, each object has a byte at least, and no type is smaller where more structs are known.
use Rattle.std.proofs.Common.{◌≡◌, ℕ, zero, suc, ◌+◌, ◌*◌, ◌<◌, ◌≤◌, min, Bool, true, false, ◌&&◌, nat_lt, nat_le, List, [], ◌∷◌, ◌++◌, map, take, length, length-append, get_or, slice_get, Option, Some, None, refl, sym, ap, subst, ◌∙◌, rules, tests, arith}
use Rattle.std.proofs.lemmas.Nat.{mul-le}
use Rattle.std.proofs.lemmas.Option.{slice_get_within, get_or_from_slice_get}
use Rattle.base16.specs.declared.integer.IntType.{IntType}
use Rattle.base16.specs.declared.integer.IntType.TheVariants.{Char, Int, UInt}
use Rattle.core_tree.specs.declared.types.Ty.{Ty, ind-Ty, roll-Ty, map-Ty, the_lemmas}
use Rattle.core_tree.specs.declared.types.Ty.TheVariants as ty
use Rattle.core_tree.specs.declared.types.Ty.TheOpen.{Ty-F}
use Rattle.core_tree.specs.declared.types.Struct.{Struct}
use Rattle.core_tree.specs.declared.types.Member.{Member}
use Rattle.core_tree.specs.declared.program.Core.{Core}
use Rattle.core_tree.specs.Layout.{Layout, nothing, aligned, integer, layout_in, layouts_from, layouts, layout, size_of, with_member, with_members, closed, member_layouts, struct_layout, start_of, member_offset, members_in, members_of, offset_of, stride, member_stride}
use Rattle.core_tree.specs.LawfulCore.{Every, is_object, IsObject, IsStruct, AreStructs}
use Rattle.c_typing_laws.proofs.Same.{both_hold}
use Rattle.c_checking_laws.specs.Standing.{Begins}
use Rattle.c_checking_laws.proofs.Lists.{begins_more, get_in, get_last, every_more, every_at}
use Rattle.c_checking_laws.proofs.Sizes.{object_stays, test_below, layouts_more, layouts_count, layouts_begin, layout_stays}

-- ---- members one after another

past_aligned : (even : Bool) (n : ℕ) → n ≤ aligned even n
past_aligned true n = omega arith
past_aligned false n = omega arith

size_grows : (before : Layout) (ls : List Layout) → before.size ≤ (with_members before ls).size
size_grows before [] = omega arith
size_grows before (l ∷ ls) =
    let a : before.size ≤ aligned l.even before.size = past_aligned l.even before.size in
    let b : (with_member before l).size ≤ (with_members (with_member before l) ls).size =
    size_grows (with_member before l) ls in omega (arith, a, b)

-- each ends inside what they are together
ends_inside : (before : Layout) (ls : List Layout) (n : ℕ) (l : Layout) → slice_get ls n ≡ Some l
    → aligned (get_or ls n nothing).even (with_members before (take n ls)).size + l.size ≤ (with_members before ls).size
ends_inside before [] n l is = absurd (search rules)
ends_inside before (k ∷ ls) zero l is =
    let e : k ≡ l = cc in
    subst (λ (j : Layout). aligned k.even before.size + j.size ≤ (with_members (with_member before k) ls).size) e
    (size_grows (with_member before k) ls)
ends_inside before (k ∷ ls) (suc n) l is = ends_inside (with_member before k) ls n l is

mapped_get : {A B : Type 0} (f : A → B) (xs : List A) (n : ℕ) (x : A) → slice_get xs n ≡ Some x
    → slice_get (map f xs) n ≡ Some (f x)
mapped_get f [] n x is = absurd (search rules)
mapped_get f (y ∷ xs) zero x is = let e : y ≡ x = cc in ap (λ z. Some (f z)) e
mapped_get f (y ∷ xs) (suc n) x is = mapped_get f xs n x is

member_inside : (known : List Layout) (s : Struct) (n : ℕ) (m : Member) → slice_get s.members n ≡ Some m
    → member_offset known s.members n + (layout_in known m.ty).size ≤ (struct_layout known s).size
member_inside known s n m is =
    let all : Layout = with_members nothing (member_layouts known s.members) in
    let a : member_offset known s.members n + (layout_in known m.ty).size ≤ all.size =
    ends_inside nothing (member_layouts known s.members) n (layout_in known m.ty)
    (mapped_get (λ (m : Member). layout_in known m.ty) s.members n m is) in
    let b : all.size ≤ aligned all.even all.size = past_aligned all.even all.size in omega (arith, a, b)

-- ---- the layout of a struct in the table of all

get_begins : {A : Type 0} (xs ys : List A) (d : A) (n : ℕ) (x : A) → Begins xs ys → slice_get xs n ≡ Some x
    → get_or ys n d ≡ x
get_begins xs ys d n x b is = get_or_from_slice_get ys n x d (get_in xs ys n x b is)

table_from : (known : List Layout) (ss : List Struct) (n k : ℕ) (s : Struct) → slice_get ss n ≡ Some s
    → k ≡ length known + n
    → get_or (layouts_from known ss) k nothing ≡ struct_layout (layouts_from known (take n ss)) s
table_from known [] n k s is at = absurd (search rules)
table_from known (x ∷ ss) zero k s is at =
    let own : Layout = struct_layout known x in
    let w = layouts_more (known ++ own ∷ []) ss in
    let e : x ≡ s = cc in
    let f : k ≡ length known = omega arith in
    ap (λ i. get_or (layouts_from (known ++ own ∷ []) ss) i nothing) f
    ∙ get_begins (known ++ own ∷ []) (layouts_from (known ++ own ∷ []) ss) nothing (length known) own w (get_last known own)
    ∙ ap (struct_layout known) e
table_from known (x ∷ ss) (suc n) k s is at =
    let own : Layout = struct_layout known x in
    let e : length (known ++ own ∷ []) ≡ length known + 1 = length-append known (own ∷ []) in
    let f : k ≡ length (known ++ own ∷ []) + n = omega arith in table_from (known ++ own ∷ []) ss n k s is f

table_at : (ss : List Struct) (n : ℕ) (s : Struct) → slice_get ss n ≡ Some s
    → get_or (layouts ss) n nothing ≡ struct_layout (layouts (take n ss)) s
table_at ss n s is = table_from [] ss n n s is (none_plus n)
  where
    none_plus : (n : ℕ) → n ≡ 0 + n
    none_plus n = omega arith

-- ---- structs of a program

structs_at : (core : Core) (k : ℕ) (ss : List Struct) (n : ℕ) (s : Struct) → AreStructs core k ss → slice_get ss n ≡ Some s
    → IsStruct core (k + n) s
structs_at core k [] n s all is = absurd (search rules)
structs_at core k (x ∷ ss) zero s all is =
    let e : x ≡ s = cc in
    let f : k ≡ k + 0 = omega arith in
    subst (λ z. IsStruct core (k + 0) z) e (subst (λ m. IsStruct core m x) f all.0)
structs_at core k (x ∷ ss) (suc n) s all is =
    let f : k + 1 + n ≡ k + suc n = omega arith in
    subst (λ m. IsStruct core m s) f (structs_at core (k + 1) ss n s all.1 is)

taken_begins : {A : Type 0} (n : ℕ) (xs : List A) → Begins (take n xs) xs
taken_begins zero xs = (xs, refl)
taken_begins (suc n) [] = ([], refl)
taken_begins (suc n) (x ∷ xs) = let w = taken_begins n xs in (w.0, ap (λ l. x ∷ l) w.1)

taken_length : {A : Type 0} (xs : List A) (n : ℕ) (x : A) → slice_get xs n ≡ Some x → length (take n xs) ≡ n
taken_length [] n x is = absurd (search rules)
taken_length (y ∷ xs) zero x is = refl
taken_length (y ∷ xs) (suc n) x is = ap (λ m. suc m) (taken_length xs n x is)

-- the struct of which there is a member
struct_with : (o : Option Struct) (n : ℕ) (m : Member) → slice_get (members_in o) n ≡ Some m
    → (s : Struct) × (o ≡ Some s) × (slice_get s.members n ≡ Some m)
struct_with None n m is = absurd (search rules)
struct_with (Some s) n m is = (s, refl, is)

size_of_struct : (structs : List Struct) (tag : ℕ) → size_of structs (ty.Struct tag) ≡ (get_or (layouts structs) tag nothing).size
size_of_struct structs tag = search (rules, the_lemmas)

module _ (core : Core) (all : AreStructs core 0 core.structs) where
  record MemberOf (tag n : ℕ) (m : Member) : Type 0 where
    struct : Struct
    is_struct : slice_get core.structs tag ≡ Some struct
    is_member : slice_get struct.members n ≡ Some m
    object : is_object (length core.structs) m.ty tag ≡ true

  member_of : (tag n : ℕ) (m : Member) → slice_get (members_of core.structs tag) n ≡ Some m → MemberOf tag n m
  member_of tag n m is =
      let w = struct_with (slice_get core.structs tag) n m is in
      let own : IsStruct core tag w.0 =
      subst (λ k. IsStruct core k w.0) (none_plus tag) (structs_at core 0 core.structs tag w.0 all w.1) in
      record {
        struct = w.0;
        is_struct = w.1;
        is_member = w.2;
        object = every_at (λ (m : Member). is_object (length core.structs) m.ty tag ≡ true) (w.0).members n m own.members w.2;
      }
    where
      none_plus : (n : ℕ) → 0 + n ≡ n
      none_plus n = omega arith

  -- a member of a struct lies inside it
  pub member_ends : (tag n : ℕ) (m : Member) → slice_get (members_of core.structs tag) n ≡ Some m
      → offset_of core.structs tag n + size_of core.structs m.ty ≤ size_of core.structs (ty.Struct tag)
  member_ends tag n m is =
      let w = member_of tag n m is in
      let before : List Struct = take tag core.structs in
      let count : length before ≡ tag = taken_length core.structs tag w.struct w.is_struct in
      let same : layout core.structs m.ty ≡ layout before m.ty =
      layout_stays before core.structs (length core.structs) m.ty (taken_begins tag core.structs)
      (subst (λ k. is_object (length core.structs) m.ty k ≡ true) (sym count) w.object) in
      let offset : offset_of core.structs tag n ≡ member_offset (layouts before) w.struct.members n =
      ap (λ o. member_offset (layouts before) (members_in o) n) w.is_struct in
      let size : size_of core.structs m.ty ≡ size_of before m.ty = ap (λ (l : Layout). l.size) same in
      let whole : size_of core.structs (ty.Struct tag) ≡ (struct_layout (layouts before) w.struct).size =
      size_of_struct core.structs tag ∙ ap (λ (l : Layout). l.size) (table_at core.structs tag w.struct w.is_struct) in
      let inside : member_offset (layouts before) w.struct.members n + size_of before m.ty
      ≤ (struct_layout (layouts before) w.struct).size = member_inside (layouts before) w.struct n m w.is_member in
      joined (offset_of core.structs tag n) (member_offset (layouts before) w.struct.members n) (size_of core.structs m.ty)
      (size_of before m.ty) (size_of core.structs (ty.Struct tag)) (struct_layout (layouts before) w.struct).size offset size
      whole inside
    where
      joined : (a b c d e f : ℕ) → a ≡ b → c ≡ d → e ≡ f → b + d ≤ f → a + c ≤ e
      joined a b c d e f p q r h = omega arith

  -- and is an object as it is
  pub member_object : (tag n : ℕ) (m : Member) → slice_get (members_of core.structs tag) n ≡ Some m → IsObject core m.ty
  member_object tag n m is =
      let w = member_of tag n m is in
      let below : tag < length core.structs = slice_get_within core.structs tag w.struct w.is_struct in
      object_stays m.ty (length core.structs) (length core.structs) tag (length core.structs) (omega arith) (omega arith)
      w.object

-- ---- arrays

pub size_of_array : (structs : List Struct) (of : Ty) (n : ℕ) → size_of structs (ty.Array of n) ≡ n * size_of structs of
size_of_array structs of n = search (rules, the_lemmas)

-- what an array that is an object consists of is one
pub element_object : (core : Core) (of : Ty) (n : ℕ) → IsObject core (ty.Array of n) → IsObject core of
element_object core of n o =
    let all : ℕ = length core.structs in
    let i : (nat_le 1 n && nat_le n 32767 && is_object all of all) ≡ true = search (rules, the_lemmas) in
    (both_hold (nat_le 1 n && nat_le n 32767) (is_object all of all) i).1

-- ---- a byte at least

abbrev HasByte : Layout → Type 0
HasByte l = 1 ≤ l.size

byte_at : (known : List Layout) (n : ℕ) → n < length known → Every HasByte known → HasByte (get_or known n nothing)
byte_at [] n h all = absurd (omega arith)
byte_at (l ∷ known) zero h all = all.0
byte_at (l ∷ known) (suc n) h all = byte_at known n (omega arith) all.1

integer_byte : (t : IntType) → HasByte (integer t)
integer_byte Char = omega arith
integer_byte Int = omega arith
integer_byte UInt = omega arith

from_one : (n : ℕ) → nat_le 1 n ≡ true → 1 ≤ n
from_one n is = grind (arith, tests)

product_from_one : (n m : ℕ) → 1 ≤ n → 1 ≤ m → 1 ≤ n * m
product_from_one n m p q = mul-le 1 1 n m p q

abbrev IsSized : Ty → Type 0
IsSized t = (all below : ℕ) (known : List Layout) → below ≤ length known → Every HasByte known
    → is_object all t below ≡ true → HasByte (layout_in known t)

module _ {A : Type 0} (inner : A → Ty) (deeper : (a : A) → IsSized (inner a)) where
  sized_layer : (x : Ty-F Ty) (y : Ty-F A) → map-Ty A Ty inner y ≡ x → IsSized (roll-Ty x)
  sized_layer x Ty-F.Void is all below known p bytes o =
      let h : roll-Ty x ≡ ty.Void = search (rules, the_lemmas) in
      let g : is_object all ty.Void below ≡ true = rw h at o in absurd (search (rules, the_lemmas))
  sized_layer x (Ty-F.Num t) is all below known p bytes o =
      let h : roll-Ty x ≡ ty.Num t = search (rules, the_lemmas) in
      let a : layout_in known (ty.Num t) ≡ integer t = search (rules, the_lemmas) in
      rw h (subst HasByte (sym a) (integer_byte t))
  sized_layer x (Ty-F.Pointer to r) is all below known p bytes o =
      let h : roll-Ty x ≡ ty.Pointer (inner to) r = search (rules, the_lemmas) in
      let a : (layout_in known (ty.Pointer (inner to) r)).size ≡ 2 = search (rules, the_lemmas) in
      rw h (omega (arith, a))
  sized_layer x (Ty-F.Array of n) is all below known p bytes o =
      let h : roll-Ty x ≡ ty.Array (inner of) n = search (rules, the_lemmas) in
      let g : is_object all (ty.Array (inner of) n) below ≡ true = rw h at o in
      let i : (nat_le 1 n && nat_le n 32767 && is_object all (inner of) below) ≡ true = search (rules, the_lemmas) in
      let w = both_hold (nat_le 1 n && nat_le n 32767) (is_object all (inner of) below) i in
      let v = both_hold (nat_le 1 n) (nat_le n 32767) w.0 in
      let j : 1 ≤ n * (layout_in known (inner of)).size =
      product_from_one n (layout_in known (inner of)).size (from_one n v.0) (deeper of all below known p bytes w.1) in
      let a : (layout_in known (ty.Array (inner of) n)).size ≡ n * (layout_in known (inner of)).size =
      search (rules, the_lemmas) in
      rw h (subst (λ k. 1 ≤ k) (sym a) j)
  sized_layer x (Ty-F.Struct tag) is all below known p bytes o =
      let h : roll-Ty x ≡ ty.Struct tag = search (rules, the_lemmas) in
      let g : is_object all (ty.Struct tag) below ≡ true = rw h at o in
      let i : nat_lt tag below ≡ true = search (rules, the_lemmas) in
      let j : tag < length known = let k : tag < below = test_below tag below i in omega arith in
      let a : layout_in known (ty.Struct tag) ≡ get_or known tag nothing = search (rules, the_lemmas) in
      rw h (subst HasByte (sym a) (byte_at known tag j bytes))

is_sized : (t : Ty) → IsSized t
is_sized = ind-Ty IsSized (λ x y is. sized_layer (λ e. e.0) (λ e. e.1) x y is)

struct_byte : (core : Core) (known : List Layout) (s : Struct) (ms : List Member) (own : ℕ) → s.members ≡ ms
    → own ≡ length known → Every HasByte known
    → Every (λ (m : Member). is_object (length core.structs) m.ty own ≡ true) ms → 1 ≤ length ms
    → HasByte (struct_layout known s)
struct_byte core known s [] own at count bytes objects some = absurd (omega arith)
struct_byte core known s (m ∷ ms) own at count bytes objects some =
    let first : 1 ≤ (layout_in known m.ty).size =
    is_sized m.ty (length core.structs) own known (omega arith) bytes objects.0 in
    let one : Layout = with_member nothing (layout_in known m.ty) in
    let a : (layout_in known m.ty).size ≤ one.size = last_inside nothing (layout_in known m.ty) in
    let b : one.size ≤ (with_members one (member_layouts known ms)).size = size_grows one (member_layouts known ms) in
    let all : Layout = with_members nothing (member_layouts known (m ∷ ms)) in
    let c : all.size ≤ aligned all.even all.size = past_aligned all.even all.size in
    let d : 1 ≤ aligned all.even all.size = omega (arith, first, a, b, c) in
    subst (λ (l : List Member). HasByte (closed (with_members nothing (member_layouts known l)))) (sym at) d
  where
    last_inside : (before l : Layout) → l.size ≤ (with_member before l).size
    last_inside before l = omega arith

table_bytes : (core : Core) (known : List Layout) (ss : List Struct) (n : ℕ) → n ≡ length known → Every HasByte known
    → AreStructs core n ss → Every HasByte (layouts_from known ss)
table_bytes core known [] n count bytes all = bytes
table_bytes core known (s ∷ ss) n count bytes all =
    let own : Layout = struct_layout known s in
    let e : length (known ++ own ∷ []) ≡ length known + 1 = length-append known (own ∷ []) in
    let f : n + 1 ≡ length (known ++ own ∷ []) = omega arith in
    let g : HasByte own = struct_byte core known s s.members n refl count bytes (all.0).members (all.0).some in
    table_bytes core (known ++ own ∷ []) ss (n + 1) f (every_more HasByte known (own ∷ []) bytes (g, tt)) all.1

-- an object of a program has a byte at least
pub object_byte : (core : Core) (t : Ty) → AreStructs core 0 core.structs → IsObject core t → 1 ≤ size_of core.structs t
object_byte core t all o =
    let e : length (layouts core.structs) ≡ length core.structs = layouts_count [] core.structs ∙ (omega arith) in
    is_sized t (length core.structs) (length core.structs) (layouts core.structs) (omega arith)
    (table_bytes core [] core.structs 0 refl tt all) o

-- ---- where fewer structs are known

abbrev Grows : Ty → Type 0
Grows t = (known more : List Layout) → (layout_in known t).size ≤ (layout_in (known ++ more) t).size

size_at : (known more : List Layout) (n : ℕ) → (get_or known n nothing).size ≤ (get_or (known ++ more) n nothing).size
size_at [] more n = omega arith
size_at (l ∷ known) more zero = omega arith
size_at (l ∷ known) more (suc n) = size_at known more n

as_large : (a b : Layout) → a ≡ b → a.size ≤ b.size
as_large a b e = let h : a.size ≡ b.size = ap (λ (l : Layout). l.size) e in omega arith

module _ {A : Type 0} (inner : A → Ty) (deeper : (a : A) → Grows (inner a)) where
  grows_layer : (x : Ty-F Ty) (y : Ty-F A) → map-Ty A Ty inner y ≡ x → Grows (roll-Ty x)
  grows_layer x Ty-F.Void is known more =
      let h : roll-Ty x ≡ ty.Void = search (rules, the_lemmas) in
      let a : layout_in known ty.Void ≡ layout_in (known ++ more) ty.Void = search (rules, the_lemmas) in
      rw h (as_large (layout_in known ty.Void) (layout_in (known ++ more) ty.Void) a)
  grows_layer x (Ty-F.Num t) is known more =
      let h : roll-Ty x ≡ ty.Num t = search (rules, the_lemmas) in
      let a : layout_in known (ty.Num t) ≡ layout_in (known ++ more) (ty.Num t) = search (rules, the_lemmas) in
      rw h (as_large (layout_in known (ty.Num t)) (layout_in (known ++ more) (ty.Num t)) a)
  grows_layer x (Ty-F.Pointer to r) is known more =
      let h : roll-Ty x ≡ ty.Pointer (inner to) r = search (rules, the_lemmas) in
      let t : Ty = ty.Pointer (inner to) r in
      let a : layout_in known t ≡ layout_in (known ++ more) t = search (rules, the_lemmas) in
      rw h (as_large (layout_in known t) (layout_in (known ++ more) t) a)
  grows_layer x (Ty-F.Array of n) is known more =
      let h : roll-Ty x ≡ ty.Array (inner of) n = search (rules, the_lemmas) in
      let a : (layout_in known (ty.Array (inner of) n)).size ≡ n * (layout_in known (inner of)).size =
      search (rules, the_lemmas) in
      let b : (layout_in (known ++ more) (ty.Array (inner of) n)).size ≡ n * (layout_in (known ++ more) (inner of)).size =
      search (rules, the_lemmas) in
      rw h (subst (λ k. k ≤ (layout_in (known ++ more) (ty.Array (inner of) n)).size) (sym a)
      (subst (λ k. n * (layout_in known (inner of)).size ≤ k) (sym b)
      (mul-le n (layout_in known (inner of)).size n (layout_in (known ++ more) (inner of)).size (omega arith)
      (deeper of known more))))
  grows_layer x (Ty-F.Struct tag) is known more =
      let h : roll-Ty x ≡ ty.Struct tag = search (rules, the_lemmas) in
      let a : layout_in known (ty.Struct tag) ≡ get_or known tag nothing = search (rules, the_lemmas) in
      let b : layout_in (known ++ more) (ty.Struct tag) ≡ get_or (known ++ more) tag nothing = search (rules, the_lemmas) in
      rw h (subst (λ (l : Layout). l.size ≤ (layout_in (known ++ more) (ty.Struct tag)).size) (sym a)
      (subst (λ (l : Layout). (get_or known tag nothing).size ≤ l.size) (sym b) (size_at known more tag)))

grows : (t : Ty) → Grows t
grows = ind-Ty Grows (λ x y is. grows_layer (λ e. e.0) (λ e. e.1) x y is)

pub stride_below : (ss all : List Struct) (t : Ty) → Begins ss all → stride ss t ≤ size_of all t
unfolding stride
stride_below ss all t b =
    let w = layouts_begin ss all b in
    let g : size_of ss t ≤ (layout_in (layouts ss ++ w.0) t).size = grows t (layouts ss) w.0 in
    let e : size_of all t ≡ (layout_in (layouts ss ++ w.0) t).size = ap (λ l. (layout_in l t).size) w.1 in
    below_min (size_of ss t) (size_of all t) (layout_in (layouts ss ++ w.0) t).size g e
  where
    below_min : (a b c : ℕ) → a ≤ c → b ≡ c → min a 65536 ≤ b
    below_min a b c p q = omega arith

first_of_none : (n : ℕ) → start_of [] n ≡ 0
first_of_none zero = refl
first_of_none (suc n) = refl

taken_same : {A : Type 0} (xs more : List A) (n : ℕ) (x : A) → slice_get xs n ≡ Some x → take n (xs ++ more) ≡ take n xs
taken_same [] more n x is = absurd (search rules)
taken_same (y ∷ xs) more zero x is = refl
taken_same (y ∷ xs) more (suc n) x is = ap (λ l. y ∷ l) (taken_same xs more n x is)

offset_by : (ss more : List Struct) (tag n : ℕ) (o : Option Struct) → slice_get ss tag ≡ o
    → member_offset (layouts (take tag ss)) (members_in o) n ≤ offset_of (ss ++ more) tag n
offset_by ss more tag n None at =
    let e : start_of [] n ≡ 0 = first_of_none n in
    below (start_of [] n) (offset_of (ss ++ more) tag n) e
  where
    below : (a b : ℕ) → a ≡ 0 → a ≤ b
    below a b e = omega arith
offset_by ss more tag n (Some s) at =
    let h : slice_get (ss ++ more) tag ≡ Some s = get_in ss (ss ++ more) tag s (begins_more ss more) at in
    let e : offset_of (ss ++ more) tag n ≡ member_offset (layouts (take tag ss)) s.members n =
    ap (λ o. member_offset (layouts (take tag (ss ++ more))) (members_in o) n) h
    ∙ ap (λ l. member_offset (layouts l) s.members n) (taken_same ss more tag s at) in
    same (member_offset (layouts (take tag ss)) s.members n) (offset_of (ss ++ more) tag n) e
  where
    same : (a b : ℕ) → b ≡ a → a ≤ b
    same a b e = omega arith

pub member_stride_below : (ss all : List Struct) (tag n : ℕ) → Begins ss all → member_stride ss tag n ≤ offset_of all tag n
unfolding member_stride
member_stride_below ss all tag n b =
    let h : offset_of ss tag n ≤ offset_of (ss ++ b.0) tag n = offset_by ss b.0 tag n (slice_get ss tag) refl in
    let e : offset_of all tag n ≡ offset_of (ss ++ b.0) tag n = ap (λ l. offset_of l tag n) b.1 in
    below_min (offset_of ss tag n) (offset_of all tag n) (offset_of (ss ++ b.0) tag n) h e
  where
    below_min : (a b c : ℕ) → a ≤ c → b ≡ c → min a 65536 ≤ b
    below_min a b c p q = omega arith

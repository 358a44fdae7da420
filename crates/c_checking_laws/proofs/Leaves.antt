-- The scalars of an object as its initialiser sees them are those of its type, as many as its slots.
use Rattle.std.proofs.Common.{◌≡◌, ℕ, zero, suc, ◌+◌, Bool, List, [], ◌∷◌, ◌++◌, map, length, length-append, get_or, refl, sym, ap, ap₂, ◌∙◌, rules, arith}
use Rattle.std.proofs.lemmas.List.{length-map}
use Rattle.base16.specs.declared.integer.IntType.{IntType}
use Rattle.base16.specs.declared.integer.IntType.TheVariants.{Char, Int, UInt}
use Rattle.core_tree.specs.declared.types.Ty.{Ty, ind-Ty, roll-Ty, map-Ty, fold-Ty, the_lemmas}
use Rattle.core_tree.specs.declared.types.Ty.TheVariants as ty
use Rattle.core_tree.specs.declared.types.Ty.TheOpen.{Ty-F}
use Rattle.core_tree.specs.declared.types.Struct.{Struct}
use Rattle.core_tree.specs.declared.types.Member.{Member}
use Rattle.core_tree.specs.declared.types.Slot.{Slot}
use Rattle.core_tree.specs.Layout.{Layout, nothing, integer, copies, moved_by, layout_in, layouts_from, layouts, layout, with_member, with_members, struct_layout, member_layouts, aligned}
use Rattle.core_tree.specs.LawfulCore.{Every, repeated as times, leaves_in as types_in, struct_leaves as struct_types}
use Rattle.core_tree.specs.Reaching.{joined}
use Rattle.c_checking.specs.Initialisers.{Leaf, alone, together, repeated, Parts, leaf_step, leaves_in, struct_leaves, leaves}
use Rattle.c_checking_laws.proofs.Sizes.{leaves-Void, leaves-Num, leaves-Pointer, leaves-Array, leaves-Struct}

-- ---- types of scalars

abbrev pub types : List Leaf → List Ty
types ls = map (λ (l : Leaf). l.ty) ls

abbrev pub all_types : List (List Leaf) → List (List Ty)
all_types known = map (λ ls. types ls) known

types_more : (xs ys : List Leaf) → types (xs ++ ys) ≡ types xs ++ types ys
types_more [] ys = refl
types_more (x ∷ xs) ys = ap (λ ts. x.ty ∷ ts) (types_more xs ys)

types_together : (ls : List Leaf) → types (together ls) ≡ types ls
types_together [] = refl
types_together (l ∷ ls) = refl

types_repeated : (n : ℕ) (ls : List Leaf) → types (repeated n ls) ≡ times n (types ls)
types_repeated zero ls = refl
types_repeated (suc n) ls = types_more ls (repeated n ls) ∙ ap (λ ts. types ls ++ ts) (types_repeated n ls)

types_at : (known : List (List Leaf)) (tag : ℕ) → types (get_or known tag []) ≡ get_or (all_types known) tag []
types_at [] tag = refl
types_at (ls ∷ known) zero = refl
types_at (ls ∷ known) (suc tag) = types_at known tag

abbrev IsWhole : Ty → Type 0
IsWhole t = (known : List (List Leaf)) → (fold-Ty Parts (leaf_step known) t).whole ≡ t

module _ {A : Type 0} (inner : A → Ty) (deeper : (a : A) → IsWhole (inner a)) where
  whole_layer : (x : Ty-F Ty) (y : Ty-F A) → map-Ty A Ty inner y ≡ x → IsWhole (roll-Ty x)
  whole_layer x Ty-F.Void is known =
      let h : roll-Ty x ≡ ty.Void = search (rules, the_lemmas) in
      rw h (search (rules, the_lemmas))
  whole_layer x (Ty-F.Num t) is known =
      let h : roll-Ty x ≡ ty.Num t = search (rules, the_lemmas) in
      rw h (search (rules, the_lemmas))
  whole_layer x (Ty-F.Pointer to r) is known =
      let h : roll-Ty x ≡ ty.Pointer (inner to) r = search (rules, the_lemmas) in
      let d = deeper to known in
      let a : (fold-Ty Parts (leaf_step known) (ty.Pointer (inner to) r)).whole
      ≡ ty.Pointer (fold-Ty Parts (leaf_step known) (inner to)).whole r = search (rules, the_lemmas) in
      rw h (a ∙ ap (λ u. ty.Pointer u r) d)
  whole_layer x (Ty-F.Array of n) is known =
      let h : roll-Ty x ≡ ty.Array (inner of) n = search (rules, the_lemmas) in
      let d = deeper of known in
      let a : (fold-Ty Parts (leaf_step known) (ty.Array (inner of) n)).whole
      ≡ ty.Array (fold-Ty Parts (leaf_step known) (inner of)).whole n = search (rules, the_lemmas) in
      rw h (a ∙ ap (λ u. ty.Array u n) d)
  whole_layer x (Ty-F.Struct tag) is known =
      let h : roll-Ty x ≡ ty.Struct tag = search (rules, the_lemmas) in
      rw h (search (rules, the_lemmas))

is_whole : (t : Ty) → IsWhole t
is_whole = ind-Ty IsWhole (λ x y is. whole_layer (λ e. e.0) (λ e. e.1) x y is)

scalars-Void : (known : List (List Leaf)) → leaves_in known ty.Void ≡ []
scalars-Void known = search (rules, the_lemmas)

scalars-Num : (known : List (List Leaf)) (t : IntType) → leaves_in known (ty.Num t) ≡ alone (ty.Num t)
scalars-Num known t = search (rules, the_lemmas)

scalars-Pointer : (known : List (List Leaf)) (to : Ty) (r : Bool) → leaves_in known (ty.Pointer to r) ≡ alone (ty.Pointer to r)
scalars-Pointer known to r =
    let w = is_whole to known in
    let a : leaves_in known (ty.Pointer to r) ≡ alone (ty.Pointer (fold-Ty Parts (leaf_step known) to).whole r) =
    search (rules, the_lemmas) in
    a ∙ ap (λ u. alone (ty.Pointer u r)) w

scalars-Array : (known : List (List Leaf)) (of : Ty) (n : ℕ)
    → leaves_in known (ty.Array of n) ≡ together (repeated n (leaves_in known of))
scalars-Array known of n = search (rules, the_lemmas)

scalars-Struct : (known : List (List Leaf)) (tag : ℕ) → leaves_in known (ty.Struct tag) ≡ get_or known tag []
scalars-Struct known tag = search (rules, the_lemmas)

abbrev HasTypes : Ty → Type 0
HasTypes t = (known : List (List Leaf)) → types (leaves_in known t) ≡ types_in (all_types known) t

module _ {A : Type 0} (inner : A → Ty) (deeper : (a : A) → HasTypes (inner a)) where
  types_layer : (x : Ty-F Ty) (y : Ty-F A) → map-Ty A Ty inner y ≡ x → HasTypes (roll-Ty x)
  types_layer x Ty-F.Void is known =
      let h : roll-Ty x ≡ ty.Void = search (rules, the_lemmas) in
      rw h (ap types (scalars-Void known) ∙ sym (leaves-Void (all_types known)))
  types_layer x (Ty-F.Num t) is known =
      let h : roll-Ty x ≡ ty.Num t = search (rules, the_lemmas) in
      rw h (ap types (scalars-Num known t) ∙ sym (leaves-Num (all_types known) t))
  types_layer x (Ty-F.Pointer to r) is known =
      let h : roll-Ty x ≡ ty.Pointer (inner to) r = search (rules, the_lemmas) in
      rw h (ap types (scalars-Pointer known (inner to) r) ∙ sym (leaves-Pointer (all_types known) (inner to) r))
  types_layer x (Ty-F.Array of n) is known =
      let h : roll-Ty x ≡ ty.Array (inner of) n = search (rules, the_lemmas) in
      rw h (ap types (scalars-Array known (inner of) n) ∙ types_together (repeated n (leaves_in known (inner of)))
      ∙ types_repeated n (leaves_in known (inner of)) ∙ ap (times n) (deeper of known)
      ∙ sym (leaves-Array (all_types known) (inner of) n))
  types_layer x (Ty-F.Struct tag) is known =
      let h : roll-Ty x ≡ ty.Struct tag = search (rules, the_lemmas) in
      rw h (ap types (scalars-Struct known tag) ∙ types_at known tag ∙ sym (leaves-Struct (all_types known) tag))

has_types : (t : Ty) → HasTypes t
has_types = ind-Ty HasTypes (λ x y is. types_layer (λ e. e.0) (λ e. e.1) x y is)

members_types : (known : List (List Leaf)) (ms : List Member)
    → types (joined (map (λ (m : Member). leaves_in known m.ty) ms))
    ≡ joined (map (λ (m : Member). types_in (all_types known) m.ty) ms)
members_types known [] = refl
members_types known (m ∷ ms) =
    types_more (leaves_in known m.ty) (joined (map (λ (m : Member). leaves_in known m.ty) ms))
    ∙ ap₂ (λ xs ys. xs ++ ys) (has_types m.ty known) (members_types known ms)

all_types_more : (xs ys : List (List Leaf)) → all_types (xs ++ ys) ≡ all_types xs ++ all_types ys
all_types_more [] ys = refl
all_types_more (x ∷ xs) ys = ap (λ ts. types x ∷ ts) (all_types_more xs ys)

structs_types : (known : List (List Leaf)) (ss : List Struct)
    → all_types (struct_leaves known ss) ≡ struct_types (all_types known) ss
structs_types known [] = refl
structs_types known (s ∷ ss) =
    let own : List Leaf = together (joined (map (λ (m : Member). leaves_in known m.ty) s.members)) in
    let e : types own ≡ joined (map (λ (m : Member). types_in (all_types known) m.ty) s.members) =
    types_together (joined (map (λ (m : Member). leaves_in known m.ty) s.members)) ∙ members_types known s.members in
    structs_types (known ++ own ∷ []) ss
    ∙ ap (λ k. struct_types k ss) (all_types_more known (own ∷ []) ∙ ap (λ ts. all_types known ++ ts ∷ []) e)

-- the types of the scalars that an initialiser sees
pub leaves_types : (structs : List Struct) (t : Ty) → types (leaves structs t) ≡ types_in (struct_types [] structs) t
leaves_types structs t = has_types t (struct_leaves [] structs) ∙ ap (λ k. types_in k t) (structs_types [] structs)

-- ---- the first scalar of an object says how many it has

abbrev pub Counted : List Leaf → Type 0
Counted [] = Unit {0}
Counted (l ∷ ls) = (inside : List ℕ) × (l.begins ≡ length (l ∷ ls) ∷ inside)

counted_together : (ls : List Leaf) → Counted (together ls)
counted_together [] = tt
counted_together (l ∷ ls) = (l.begins, refl)

counted_at : (known : List (List Leaf)) (tag : ℕ) → Every Counted known → Counted (get_or known tag [])
counted_at [] tag all = tt
counted_at (ls ∷ known) zero all = all.0
counted_at (ls ∷ known) (suc tag) all = counted_at known tag all.1

abbrev IsCounted : Ty → Type 0
IsCounted t = (known : List (List Leaf)) → Every Counted known → Counted (leaves_in known t)

module _ {A : Type 0} (inner : A → Ty) where
  counted_layer : (x : Ty-F Ty) (y : Ty-F A) → map-Ty A Ty inner y ≡ x → IsCounted (roll-Ty x)
  counted_layer x Ty-F.Void is known all =
      let h : roll-Ty x ≡ ty.Void = search (rules, the_lemmas) in
      rw h (rw (scalars-Void known) tt)
  counted_layer x (Ty-F.Num t) is known all =
      let h : roll-Ty x ≡ ty.Num t = search (rules, the_lemmas) in
      rw h (rw (scalars-Num known t) ([], refl))
  counted_layer x (Ty-F.Pointer to r) is known all =
      let h : roll-Ty x ≡ ty.Pointer (inner to) r = search (rules, the_lemmas) in
      rw h (rw (scalars-Pointer known (inner to) r) ([], refl))
  counted_layer x (Ty-F.Array of n) is known all =
      let h : roll-Ty x ≡ ty.Array (inner of) n = search (rules, the_lemmas) in
      rw h (rw (scalars-Array known (inner of) n) (counted_together (repeated n (leaves_in known (inner of)))))
  counted_layer x (Ty-F.Struct tag) is known all =
      let h : roll-Ty x ≡ ty.Struct tag = search (rules, the_lemmas) in
      rw h (rw (scalars-Struct known tag) (counted_at known tag all))

is_counted : (t : Ty) → IsCounted t
is_counted = ind-Ty IsCounted (λ x y is. counted_layer (λ e. e.0) x y is)

counted_more : (xs ys : List (List Leaf)) → Every Counted xs → Every Counted ys → Every Counted (xs ++ ys)
counted_more [] ys p q = q
counted_more (x ∷ xs) ys p q = (p.0, counted_more xs ys p.1 q)

counted_structs : (known : List (List Leaf)) (ss : List Struct) → Every Counted known
    → Every Counted (struct_leaves known ss)
counted_structs known [] all = all
counted_structs known (s ∷ ss) all =
    let own : List Leaf = together (joined (map (λ (m : Member). leaves_in known m.ty) s.members)) in
    counted_structs (known ++ own ∷ []) ss (counted_more known (own ∷ []) all
    (counted_together (joined (map (λ (m : Member). leaves_in known m.ty) s.members)), tt))

pub leaves_counted : (structs : List Struct) (t : Ty) → Counted (leaves structs t)
leaves_counted structs t = is_counted t (struct_leaves [] structs) (counted_structs [] structs tt)

-- ---- as many scalars as slots

abbrev counts : List Layout → List ℕ
counts known = map (λ (l : Layout). length l.slots) known

abbrev lengths : List (List Ty) → List ℕ
lengths known = map (λ (ts : List Ty). length ts) known

slots_at : (known : List Layout) (tag : ℕ) → length (get_or known tag nothing).slots ≡ get_or (counts known) tag 0
slots_at [] tag = refl
slots_at (l ∷ known) zero = refl
slots_at (l ∷ known) (suc tag) = slots_at known tag

lengths_at : (known : List (List Ty)) (tag : ℕ) → length (get_or known tag []) ≡ get_or (lengths known) tag 0
lengths_at [] tag = refl
lengths_at (l ∷ known) zero = refl
lengths_at (l ∷ known) (suc tag) = lengths_at known tag

copies_count : (n at : ℕ) (of : Layout) (ts : List Ty) → length of.slots ≡ length ts
    → length (copies n at of) ≡ length (times n ts)
copies_count zero at of ts same = refl
copies_count (suc n) at of ts same =
    let a : length (map (moved_by at) of.slots ++ copies n (at + of.size) of)
    ≡ length (map (moved_by at) of.slots) + length (copies n (at + of.size) of) =
    length-append (map (moved_by at) of.slots) (copies n (at + of.size) of) in
    let b : length (ts ++ times n ts) ≡ length ts + length (times n ts) = length-append ts (times n ts) in
    let c : length (map (moved_by at) of.slots) ≡ length of.slots = length-map of.slots (moved_by at) in
    let d = copies_count n (at + of.size) of ts same in
    a ∙ ap₂ (λ p q. p + q) (c ∙ same) d ∙ sym b

abbrev HasCount : Ty → Type 0
HasCount t = (known : List Layout) (tables : List (List Ty)) → counts known ≡ lengths tables
    → length (layout_in known t).slots ≡ length (types_in tables t)

integer_slots : (t : IntType) → length (integer t).slots ≡ 1
integer_slots Char = refl
integer_slots Int = refl
integer_slots UInt = refl

module _ {A : Type 0} (inner : A → Ty) (deeper : (a : A) → HasCount (inner a)) where
  count_layer : (x : Ty-F Ty) (y : Ty-F A) → map-Ty A Ty inner y ≡ x → HasCount (roll-Ty x)
  count_layer x Ty-F.Void is known tables same =
      let h : roll-Ty x ≡ ty.Void = search (rules, the_lemmas) in
      let a : layout_in known ty.Void ≡ nothing = search (rules, the_lemmas) in
      rw h (ap (λ (l : Layout). length l.slots) a ∙ sym (ap (λ (ts : List Ty). length ts) (leaves-Void tables)))
  count_layer x (Ty-F.Num t) is known tables same =
      let h : roll-Ty x ≡ ty.Num t = search (rules, the_lemmas) in
      let a : layout_in known (ty.Num t) ≡ integer t = search (rules, the_lemmas) in
      rw h (ap (λ (l : Layout). length l.slots) a ∙ integer_slots t
      ∙ sym (ap (λ (ts : List Ty). length ts) (leaves-Num tables t)))
  count_layer x (Ty-F.Pointer to r) is known tables same =
      let h : roll-Ty x ≡ ty.Pointer (inner to) r = search (rules, the_lemmas) in
      let a : length (layout_in known (ty.Pointer (inner to) r)).slots ≡ 1 = search (rules, the_lemmas) in
      rw h (a ∙ sym (ap (λ (ts : List Ty). length ts) (leaves-Pointer tables (inner to) r)))
  count_layer x (Ty-F.Array of n) is known tables same =
      let h : roll-Ty x ≡ ty.Array (inner of) n = search (rules, the_lemmas) in
      let a : (layout_in known (ty.Array (inner of) n)).slots ≡ copies n 0 (layout_in known (inner of)) =
      search (rules, the_lemmas) in
      rw h (ap (λ (s : List Slot). length s) a
      ∙ copies_count n 0 (layout_in known (inner of)) (types_in tables (inner of)) (deeper of known tables same)
      ∙ sym (ap (λ (ts : List Ty). length ts) (leaves-Array tables (inner of) n)))
  count_layer x (Ty-F.Struct tag) is known tables same =
      let h : roll-Ty x ≡ ty.Struct tag = search (rules, the_lemmas) in
      let a : layout_in known (ty.Struct tag) ≡ get_or known tag nothing = search (rules, the_lemmas) in
      rw h (ap (λ (l : Layout). length l.slots) a ∙ slots_at known tag ∙ ap (λ ns. get_or ns tag 0) same
      ∙ sym (lengths_at tables tag) ∙ sym (ap (λ (ts : List Ty). length ts) (leaves-Struct tables tag)))

has_count : (t : Ty) → HasCount t
has_count = ind-Ty HasCount (λ x y is. count_layer (λ e. e.0) (λ e. e.1) x y is)

members_count : (known : List Layout) (tables : List (List Ty)) (before : Layout) (ms : List Member)
    → counts known ≡ lengths tables
    → length (with_members before (member_layouts known ms)).slots
    ≡ length before.slots + length (joined (map (λ (m : Member). types_in tables m.ty) ms))
members_count known tables before [] same = omega arith
members_count known tables before (m ∷ ms) same =
    let l : Layout = layout_in known m.ty in
    let by : ℕ = aligned l.even before.size in
    let deeper = members_count known tables (with_member before l) ms same in
    let own = has_count m.ty known tables same in
    let a : length (before.slots ++ map (moved_by by) l.slots) ≡ length before.slots + length (map (moved_by by) l.slots) =
    length-append before.slots (map (moved_by by) l.slots) in
    let b : length (map (moved_by by) l.slots) ≡ length l.slots = length-map l.slots (moved_by by) in
    let c : length (types_in tables m.ty ++ joined (map (λ (m : Member). types_in tables m.ty) ms))
    ≡ length (types_in tables m.ty) + length (joined (map (λ (m : Member). types_in tables m.ty) ms)) =
    length-append (types_in tables m.ty) (joined (map (λ (m : Member). types_in tables m.ty) ms)) in
    deeper ∙ ap (λ n. n + length (joined (map (λ (m : Member). types_in tables m.ty) ms))) (a ∙ ap (λ n. length before.slots + n) (b ∙ own))
    ∙ sum_right (length before.slots) (length (types_in tables m.ty)) (length (joined (map (λ (m : Member). types_in tables m.ty) ms)))
    ∙ ap (λ n. length before.slots + n) (sym c)
  where
    sum_right : (p q r : ℕ) → p + q + r ≡ p + (q + r)
    sum_right p q r = omega arith

counts_more : (xs ys : List Layout) → counts (xs ++ ys) ≡ counts xs ++ counts ys
counts_more [] ys = refl
counts_more (x ∷ xs) ys = ap (λ ns. length x.slots ∷ ns) (counts_more xs ys)

lengths_more : (xs ys : List (List Ty)) → lengths (xs ++ ys) ≡ lengths xs ++ lengths ys
lengths_more [] ys = refl
lengths_more (x ∷ xs) ys = ap (λ ns. length x ∷ ns) (lengths_more xs ys)

structs_count : (known : List Layout) (tables : List (List Ty)) (ss : List Struct) → counts known ≡ lengths tables
    → counts (layouts_from known ss) ≡ lengths (struct_types tables ss)
structs_count known tables [] same = same
structs_count known tables (s ∷ ss) same =
    let own : List Ty = joined (map (λ (m : Member). types_in tables m.ty) s.members) in
    let e : length (struct_layout known s).slots ≡ length own = members_count known tables nothing s.members same ∙ zero_left (length own) in
    structs_count (known ++ struct_layout known s ∷ []) (tables ++ own ∷ []) ss
    (counts_more known (struct_layout known s ∷ []) ∙ ap₂ (λ xs ys. xs ++ ys) same (ap (λ n. n ∷ []) e)
    ∙ sym (lengths_more tables (own ∷ [])))
  where
    zero_left : (n : ℕ) → 0 + n ≡ n
    zero_left n = omega arith

pub slots_count : (structs : List Struct) (t : Ty)
    → length (layout structs t).slots ≡ length (types_in (struct_types [] structs) t)
slots_count structs t = has_count t (layouts structs) (struct_types [] structs) (structs_count [] [] structs refl)

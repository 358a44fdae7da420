-- Extents follow layouts step by step.
use Rattle.std.proofs.Common.{append_assoc, ◌≡◌, ℕ, zero, suc, ◌+◌, ◌*◌, ◌<◌, ◌≤◌, min, Bool, true, false, ◌||◌, List, [], ◌∷◌, ◌++◌, map, take, length, length-append, length-take, drop, set, get_or, refl, inl, inr, ap, sym, ◌∙◌, arith, rules}
use Rattle.std.proofs.lemmas.List.{take_more, take_more_set, take_all, map-append, map_more, get_or-take, get_or_past, length-map, take-append-le, take-append-drop, length-take-le, take_min, take-map}
use Rattle.std.proofs.lemmas.List.{get_or-map as at_map}
use Rattle.std.proofs.Math.ListN.{get_or-map}
use Rattle.std.proofs.lemmas.Bool.{cases_lt}
use Rattle.std.proofs.Math.Nat.{le-mul_of_pos_right, mul_assoc, zero-mul, mul-zero}
use Rattle.base16.specs.declared.integer.IntType.{IntType}
use Rattle.core_tree.specs.declared.types.Ty.{Ty, the_lemmas}
use Rattle.core_tree.specs.declared.types.Ty.TheVariants as ty
use Rattle.core_tree.specs.declared.types.Struct.{Struct}
use Rattle.core_tree.specs.declared.types.Member.{Member}
use Rattle.core_tree.specs.declared.extent.Extent.{Extent}
use Rattle.core_tree.specs.Layout.{Layout, nothing, integer, aligned, layout_in, with_member, with_members, closed, member_layouts, member_offset, struct_layout, layouts_from, layouts}
use Rattle.core_tree.specs.Heights.{capped}
use Rattle.core_tree.specs.Extents.{told, table}

-- ---- what a type is made of

pub layout-Void : (known : List Layout) → layout_in known ty.Void ≡ nothing
layout-Void known = search (rules, the_lemmas)

pub layout-Num : (known : List Layout) (t : IntType) → layout_in known (ty.Num t) ≡ integer t
layout-Num known t = search (rules, the_lemmas)

pub layout-Array-size : (known : List Layout) (of : Ty) (n : ℕ)
    → (layout_in known (ty.Array of n)).size ≡ n * (layout_in known of).size
layout-Array-size known of n = search (rules, the_lemmas)

pub layout-Array-even : (known : List Layout) (of : Ty) (n : ℕ)
    → (layout_in known (ty.Array of n)).even ≡ (layout_in known of).even
layout-Array-even known of n = search (rules, the_lemmas)

pub layout-Struct : (known : List Layout) (tag : ℕ) → layout_in known (ty.Struct tag) ≡ get_or known tag nothing
layout-Struct known tag = search (rules, the_lemmas)

pub layout_of_struct : (known : List Layout) (t : Ty) (tag : ℕ) → t ≡ ty.Struct tag
    → layout_in known t ≡ get_or known tag nothing
layout_of_struct known t tag e = rw e (layout-Struct known tag)

-- ---- rows of things

pub with_last : (before : Layout) (ls : List Layout) (l : Layout)
    → with_members before (ls ++ l ∷ []) ≡ with_member (with_members before ls) l
with_last before [] l = refl
with_last before (k ∷ ls) l = with_last (with_member before k) ls l

pub layouts-last : (known : List Layout) (ss : List Struct) (s : Struct)
    → layouts_from known (ss ++ s ∷ []) ≡ layouts_from known ss ++ struct_layout (layouts_from known ss) s ∷ []
layouts-last known [] s = refl
layouts-last known (t ∷ ss) s = layouts-last (known ++ struct_layout known t ∷ []) ss s

-- ---- numbers that stand still

pub capped_sum : (a b : ℕ) → capped (capped a + capped b) ≡ capped (a + b)
capped_sum a b = omega arith

both_over : (k x y : ℕ) → k ≤ x → k ≤ y → min x k ≡ min y k
both_over k x y h i = omega arith

over_left : (k a b : ℕ) → k ≤ a → 0 < b → k ≤ a * b
over_left k a b h p = omega (arith, le-mul_of_pos_right {m = b} a p)

over_right : (k a b : ℕ) → k ≤ b → 0 < a → k ≤ a * b
over_right k a b h p = omega (arith, le-mul_of_pos_right {m = a} b p)

min_positive : (k a b : ℕ) → 0 < k → 0 < a → 0 < b → min (min a k * min b k) k ≡ min (a * b) k
min_positive k a b pk pa pb = elim (cases_lt k a) [
  | inl big ↦ both_over k _ _
      (let e : min a k ≡ k = omega arith in let q : 0 < min b k = omega arith in rw e (over_left k k (min b k) (omega arith) q))
      (over_left k a b (omega arith) pb)
  | inr small ↦ elim (cases_lt k b) [
    | inl big ↦ both_over k _ _
        (let e : min b k ≡ k = omega arith in let q : 0 < min a k = omega arith in rw e (over_right k (min a k) k (omega arith) q))
        (over_right k a b (omega arith) pa)
    | inr low ↦ let e : min a k ≡ a = omega arith in let f : min b k ≡ b = omega arith in rw (e, f) refl
  ]
]

min_product : (k a b : ℕ) → 0 < k → min (min a k * min b k) k ≡ min (a * b) k
min_product k zero b p = let e : min 0 k ≡ 0 = omega arith in rw (e, zero-mul (min b k), zero-mul b) refl
min_product k (suc a) zero p = let e : min 0 k ≡ 0 = omega arith in rw (e, mul-zero (min (suc a) k), mul-zero (suc a)) refl
min_product k (suc a) (suc b) p = min_positive k (suc a) (suc b) p (omega arith) (omega arith)

pub capped_product : (a b : ℕ) → capped (capped a * capped b) ≡ capped (a * b)
capped_product a b = min_product 4294967295 a b (omega arith)

capped_twice : (a : ℕ) → capped (capped a) ≡ capped a
capped_twice a = omega arith

pub capped_factor : (a b : ℕ) → capped (capped a * b) ≡ capped (a * b)
capped_factor a b = sym (capped_product (capped a) b) ∙ (rw (capped_twice a) (capped_product a b))

pub capped_factor_right : (a b : ℕ) → capped (a * capped b) ≡ capped (a * b)
capped_factor_right a b = sym (capped_product a (capped b)) ∙ (rw (capped_twice b) (capped_product a b))

pub same_extent : (x y : Extent) → x.size ≡ y.size → x.even ≡ y.even → x ≡ y
same_extent x y p q =
    let mk : ℕ → Bool → Extent = λ s e. record { size = s; even = e } in
    ap (λ (s : ℕ). mk s x.even) p ∙ ap (λ (e : Bool). mk y.size e) q

told_with_size : (a b : ℕ) (even : Bool) → capped (aligned even (capped a) + capped b) ≡ capped (aligned even a + b)
told_with_size a b true = omega arith
told_with_size a b false = omega arith

pub told_with : (a b : Layout) (x y z : Extent) → x ≡ told a → y ≡ told b
    → z.size ≡ capped (aligned y.even x.size + y.size) → z.even ≡ (x.even || y.even) → z ≡ told (with_member a b)
told_with a b x y z e f g h = same_extent z _
    (g ∙ (rw (e, f) (told_with_size a.size b.size b.even)))
    (h ∙ rw (e, f) refl)

told_closed_size : (n : ℕ) (even : Bool) → capped (aligned even (capped n)) ≡ capped (aligned even n)
told_closed_size n true = omega arith
told_closed_size n false = omega arith

pub told_closed : (a : Layout) (x z : Extent) → x ≡ told a → z.size ≡ capped (aligned x.even x.size) → z.even ≡ x.even
    → z ≡ told (closed a)
told_closed a x z e g h = same_extent z _ (g ∙ rw e (told_closed_size a.size a.even)) (h ∙ rw e refl)

-- so many of what stands in a type make the type
pub record Times (count : ℕ) (inner whole : Layout) : Type 0 where
  pub size : capped (count * inner.size) ≡ capped whole.size
  pub even : inner.even ≡ whole.even

pub times_once : (whole : Layout) → Times 1 whole whole
times_once whole = record { size = omega arith; even = refl }

pub times_more : (count more next : ℕ) (of inner whole : Layout) → Times count inner whole → inner.size ≡ more * of.size
    → inner.even ≡ of.even
    → next ≡ capped (count * more) → Times next of whole
times_more count more next of inner whole t g h e = record {
  size = rw (e, capped_factor (count * more) of.size, mul_assoc count more of.size, ← g) t.size;
  even = sym h ∙ t.even;
}

pub times_told : (count : ℕ) (inner whole : Layout) (x z : Extent) → Times count inner whole → x ≡ told inner
    → z.size ≡ capped (count * x.size) → z.even ≡ x.even → z ≡ told whole
times_told count inner whole x z t e g h = same_extent z _
    (g ∙ (rw (e, capped_factor_right count inner.size) t.size))
    (h ∙ (rw e t.even))

pub times_array : (known : List Layout) (t of inner : Ty) (count more next : ℕ) (whole : Layout)
    → Times count (layout_in known t) whole
    → t ≡ ty.Array of more → inner ≡ of → next ≡ capped (count * more) → Times next (layout_in known inner) whole
times_array known t of inner count more next whole times e i n =
    rw i (times_more count more next (layout_in known of) (layout_in known t) whole times
    (rw e (layout-Array-size known of more)) (rw e (layout-Array-even known of more)) n)

-- ---- the table of structs

pub table_at : (structs : List Struct) (known : List Extent) (tag : ℕ) → known ≡ table structs → tag < 65536
    → get_or known tag (told nothing) ≡ told (get_or (layouts structs) tag nothing)
unfolding table
table_at structs known tag e small =
    rw e (get_or-take 65536 (map told (layouts structs)) tag (told nothing) small ∙ get_or-map told (layouts structs) tag nothing)

pub known_at : (structs : List Struct) (known : List Extent) (tag at : ℕ) → known ≡ table structs → tag < 65536 → at ≡ tag
    → get_or known at (told nothing) ≡ told (get_or (layouts structs) tag nothing)
known_at structs known tag at e small h = rw h (table_at structs known tag e small)

pub known_past : (structs : List Struct) (known : List Extent) (tag at : ℕ) → known ≡ table structs → tag < 65536 → at ≡ tag
    → length known ≤ at
    → told nothing ≡ told (get_or (layouts structs) tag nothing)
known_past structs known tag at e small h past =
    sym (get_or_past known at (told nothing) past) ∙ known_at structs known tag at e small h

-- ---- the members of a struct, one more

pub members_turn : (known : List Layout) (ms : List Member) (i : ℕ) (d : Member) → i < length ms
    → with_members nothing (member_layouts known (take (i + 1) ms)) ≡ with_member (with_members nothing (member_layouts known (take i ms))) (layout_in known (get_or ms i d).ty)
members_turn known ms i d h =
    rw (map_more (λ (m : Member). layout_in known m.ty) ms i d h) (with_last nothing (member_layouts known (take i ms)) (layout_in known (get_or ms i d).ty))

-- ---- the structs, one more

pub layouts_turn : (ss : List Struct) (i : ℕ) (d : Struct) → i < length ss
    → layouts (take (i + 1) ss) ≡ layouts (take i ss) ++ struct_layout (layouts (take i ss)) (get_or ss i d) ∷ []
layouts_turn ss i d h = rw (take_more ss i d h) (layouts-last [] (take i ss) (get_or ss i d))

length-layouts_from : (known : List Layout) (ss : List Struct) → length (layouts_from known ss) ≡ length known + length ss
length-layouts_from known [] = omega arith
length-layouts_from known (s ∷ ss) =
    length-layouts_from (known ++ struct_layout known s ∷ []) ss ∙ (rw (length-append known (struct_layout known s ∷ [])) (omega arith))

pub length-layouts : (ss : List Struct) → length (layouts ss) ≡ length ss
length-layouts ss = length-layouts_from [] ss ∙ (omega arith)

-- the table of the first structs is whole
pub table_front : (ss : List Struct) (known : List Extent) (i : ℕ) → i < 65536 → known ≡ map told (layouts (take i ss))
    → known ≡ table (take i ss)
unfolding table
table_front ss known i small e = e ∙ sym (take_all 65536 (map told (layouts (take i ss)))
    (rw (length-map (layouts (take i ss)) told) (rw (length-layouts (take i ss)) (omega (arith, length-take i ss)))))

layouts_kept : (known : List Layout) (ss : List Struct) (n : ℕ) → n ≤ length known
    → take n (layouts_from known ss) ≡ take n known
layouts_kept known [] n h = refl
layouts_kept known (s ∷ ss) n h =
    layouts_kept (known ++ struct_layout known s ∷ []) ss n (rw (length-append known (struct_layout known s ∷ [])) (omega arith))
    ∙ take-append-le n known (struct_layout known s ∷ []) h

layouts-append : (known : List Layout) (ss more : List Struct)
    → layouts_from known (ss ++ more) ≡ layouts_from (layouts_from known ss) more
layouts-append known [] more = refl
layouts-append known (s ∷ ss) more = layouts-append (known ++ struct_layout known s ∷ []) ss more

pub layouts_front : (ss : List Struct) (n : ℕ) → n ≤ length ss → take n (layouts ss) ≡ layouts (take n ss)
layouts_front ss n h =
    let whole : layouts ss ≡ layouts_from (layouts (take n ss)) (drop n ss) =
    ap (layouts_from []) (sym (take-append-drop n ss)) ∙ layouts-append [] (take n ss) (drop n ss) in
    let long : length (layouts (take n ss)) ≡ n = length-layouts (take n ss) ∙ length-take-le n ss h in
    rw whole (layouts_kept (layouts (take n ss)) (drop n ss) n (omega arith) ∙ take_all n (layouts (take n ss)) (omega arith))

-- the whole table
table_by : (ss : List Struct) (known : List Extent) (n m : ℕ) → n ≡ min (length ss) m → known ≡ map told (layouts (take n ss))
    → known ≡ take m (map told (layouts ss))
table_by ss known n m e k =
    let short : n ≡ min m (length (map told (layouts ss))) = rw (length-map (layouts ss) told) (rw (length-layouts ss) (omega arith)) in
    k ∙ ap (map told) (sym (layouts_front ss n (omega arith))) ∙ sym (take-map told n (layouts ss)) ∙ (rw short (take_min m (map told (layouts ss))))

pub table_whole : (ss : List Struct) (known : List Extent) (n : ℕ) → n ≡ min (length ss) 65536
    → known ≡ map told (layouts (take n ss)) → known ≡ table ss
unfolding table
table_whole ss known n e k = table_by ss known n 65536 e k

-- ---- turns of the loops

pub struct_turn : (known : List Layout) (ms items : List Member) (i : ℕ) (m : Member) (sum part next : Extent) → items ≡ ms
    → i < length items → m ≡ get_or items i m
    → sum ≡ told (with_members nothing (member_layouts known (take i ms))) → part ≡ told (layout_in known m.ty)
    → next.size ≡ capped (aligned part.even sum.size + part.size) → next.even ≡ (sum.even || part.even)
    → next ≡ told (with_members nothing (member_layouts known (take (i + 1) ms)))
struct_turn known ms items i m sum part next e h is s p g f =
    let here : m ≡ get_or ms i m = rw (← e) is in
    let lt : i < length ms = rw (← e) h in
    rw (members_turn known ms i m lt) (told_with (with_members nothing (member_layouts known (take i ms))) (layout_in known (get_or ms i m).ty) sum part next s (p ∙ ap (λ (x : Member). told (layout_in known x.ty)) here) g f)

pub fill_turn : (ss : List Struct) (known : List Extent) (i : ℕ) (s : Struct) (e : Extent) → i < length known → i < length ss
    → s ≡ get_or ss i s
    → take i known ≡ map told (layouts (take i ss)) → e ≡ told (struct_layout (layouts (take i ss)) s)
    → take (i + 1) (set known i e) ≡ map told (layouts (take (i + 1) ss))
fill_turn ss known i s e h k is t w =
    rw (take_more_set known i e h, layouts_turn ss i s k, map-append told (layouts (take i ss)) (struct_layout (layouts (take i ss)) (get_or ss i s) ∷ []), t)
    (ap (λ (x : Extent). map told (layouts (take i ss)) ++ x ∷ []) (w ∙ ap (λ (x : Struct). told (struct_layout (layouts (take i ss)) x)) is))

pub fill_end : (ss : List Struct) (known : List Extent) (i : ℕ) → length known ≡ min (length ss) 65536 → length known ≤ i
    → i ≤ length known
    → take i known ≡ map told (layouts (take i ss)) → known ≡ table ss
fill_end ss known i e h k t =
    table_whole ss known i (let same : i ≡ length known = omega arith in same ∙ e) (sym (take_all i known h) ∙ t)

-- ---- where a member begins

pub offset_here : (known : List Layout) (ms : List Member) (n : ℕ) (m : Member) (here sum : Extent) (r : ℕ) → n < length ms
    → here ≡ told (layout_in known (get_or ms n m).ty) → sum ≡ told (with_members nothing (member_layouts known (take n ms)))
    → r ≡ capped (aligned here.even sum.size) → r ≡ capped (member_offset known ms n)
offset_here known ms n m here sum r h e s p =
    let one : get_or (member_layouts known ms) n nothing ≡ layout_in known (get_or ms n m).ty =
    at_map (λ (x : Member). layout_in known x.ty) ms n m nothing h in
    p ∙ (rw (e, s, one, take-map (λ (x : Member). layout_in known x.ty) n ms)
    (told_closed_size (with_members nothing (member_layouts known (take n ms))).size (layout_in known (get_or ms n m).ty).even))

pub offset_past : (known : List Layout) (ms : List Member) (n : ℕ) (sum : Extent) → length ms ≤ n
    → sum ≡ told (with_members nothing (member_layouts known ms)) → sum.size ≡ capped (member_offset known ms n)
offset_past known ms n sum h s =
    let long : length (member_layouts known ms) ≤ n = rw (length-map ms (λ (x : Member). layout_in known x.ty)) h in
    rw (s, get_or_past (member_layouts known ms) n nothing long, take_all n (member_layouts known ms) long) refl

-- ---- objects side by side

pub row_turn : (known : List Layout) (before ts : List Ty) (i : ℕ) (t : Ty) (sum part next : Extent) → i < length ts
    → t ≡ get_or ts i t
    → sum ≡ told (with_members nothing (map (layout_in known) (before ++ take i ts))) → part ≡ told (layout_in known t)
    → next.size ≡ capped (aligned part.even sum.size + part.size) → next.even ≡ (sum.even || part.even)
    → next ≡ told (with_members nothing (map (layout_in known) (before ++ take (i + 1) ts)))
row_turn known before ts i t sum part next h is s p g f =
    let f_of : Ty → Layout = layout_in known in
    let more : map f_of (before ++ take (i + 1) ts) ≡ map f_of (before ++ take i ts) ++ f_of t ∷ [] =
    rw (take_more ts i t h, ← is, ← append_assoc before (take i ts) (t ∷ []), map-append f_of (before ++ take i ts) (t ∷ [])) refl in
    rw (more, with_last nothing (map f_of (before ++ take i ts)) (f_of t))
    (told_with (with_members nothing (map f_of (before ++ take i ts))) (f_of t) sum part next s p g f)

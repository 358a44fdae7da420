-- Layouts that are made one step after the other.
use Rattle.std.proofs.Common.{◌≡◌, ℕ, zero, suc, ◌+◌, ◌-◌, ◌*◌, ◌<◌, ◌≤◌, min, List, [], ◌∷◌, ◌++◌, length, length-append, get_or, take, map, ap, sym, refl, ◌∙◌, arith, rules, append_assoc}
use Rattle.std.specs.Prelude.{Option, Some, None, Result, Ok, IfOk, IfSome}
use Rattle.std.proofs.lemmas.List.{take_more, map_more, map-append, get_or_past}
use Rattle.std.specs.List.{AllZip}
use Rattle.core_layout.proofs.Zipped.{zip_at, zip-last, length-zip}
use Rattle.core_tree.specs.declared.types.Slot.{Slot}
use Rattle.core_tree.specs.declared.types.Struct.{Struct}
use Rattle.core_tree.specs.declared.types.Member.{Member}
use Rattle.core_tree.specs.declared.types.Ty.{Ty, the_lemmas}
use Rattle.core_tree.specs.declared.types.Ty.TheVariants as ty
use Rattle.core_tree.specs.Layout.{Layout, copies, moved_by, nothing, layout_in, with_member, with_members, member_layouts, layouts_from, layouts, struct_layout}
use Rattle.core_layout.specs.declared.layouts.Laid.{Laid}
use Rattle.core_layout.specs.declared.layouts.Unlaid.{Unlaid}
use Rattle.core_layout.specs.Laid.{layout_of, array, Keeps, IsLaid}

pub moved_turn : (slots : List Slot) (by i : ℕ) (d : Slot) → i < length slots
    → map (moved_by by) (take (i + 1) slots) ≡ map (moved_by by) (take i slots) ++ moved_by by (get_or slots i d) ∷ []
moved_turn slots by i d h = map_more (moved_by by) slots i d h

copies_turn : (n i at : ℕ) (of : Layout) → i < n
    → copies (n - i) at of ≡ map (moved_by at) of.slots ++ copies (n - (i + 1)) (at + of.size) of
copies_turn n i at of h = let s : n - i ≡ suc (n - (i + 1)) = omega arith in ap (λ k. copies k at of) s

pub copies_step : (n i at by next : ℕ) (of : Layout) (total slots more : List Slot) → i < n
    → total ≡ slots ++ copies (n - i) at of
    → by ≡ at → more ≡ slots ++ map (moved_by by) of.slots → next ≡ by + of.size → total ≡ more ++ copies (n - (i + 1)) next of
copies_step n i at by next of total slots more h e same f g =
    let start : next ≡ at + of.size = omega arith in
    let now : more ≡ slots ++ map (moved_by at) of.slots = rw same at f in
    e ∙ ap (λ xs. slots ++ xs) (copies_turn n i at of h)
    ∙ (rw (now, start) (sym (append_assoc slots (map (moved_by at) of.slots) (copies (n - (i + 1)) (at + of.size) of))))

pub copies_end : (n i at : ℕ) (of : Layout) → n ≤ i → copies (n - i) at of ≡ []
copies_end n i at of h = let s : n - i ≡ 0 = omega arith in ap (λ k. copies k at of) s

-- ---- arrays in arrays

moved_twice : (by at : ℕ) (xs : List Slot) → map (moved_by by) (map (moved_by at) xs) ≡ map (moved_by (at + by)) xs
moved_twice by at [] = refl
moved_twice by at (x ∷ xs) =
    let o : x.offset + at + by ≡ x.offset + (at + by) = omega arith in
    let slot : ℕ → Slot = λ n. record { offset = n; kind = x.kind } in
    ap (λ (n : ℕ). slot n ∷ map (moved_by by) (map (moved_by at) xs)) o
    ∙ ap (λ ys. moved_by (at + by) x ∷ ys) (moved_twice by at xs)

moved_copies : (n at by : ℕ) (of : Layout) → map (moved_by by) (copies n at of) ≡ copies n (at + by) of
moved_copies zero at by of = refl
moved_copies (suc n) at by of =
    let o : at + of.size + by ≡ at + by + of.size = omega arith in
    map-append (moved_by by) (map (moved_by at) of.slots) (copies n (at + of.size) of)
    ∙ (rw (moved_twice by at of.slots, moved_copies n (at + of.size) by of, o) refl)

copies_sum : (m n at : ℕ) (of : Layout) → copies (m + n) at of ≡ copies m at of ++ copies n (at + m * of.size) of
copies_sum zero n at of = let z : at + 0 * of.size ≡ at = omega arith in let s : 0 + n ≡ n = omega arith in rw (z, s) refl
copies_sum (suc m) n at of =
    let s : suc m + n ≡ suc (m + n) = omega arith in
    let o : at + of.size + m * of.size ≡ at + suc m * of.size = omega arith in
    rw (s, copies_sum m n (at + of.size) of, o)
    (sym (append_assoc (map (moved_by at) of.slots) (copies m (at + of.size) of) (copies n (at + suc m * of.size) of)))

copies_product : (n m at : ℕ) (of : Layout) → copies n at (array m of) ≡ copies (n * m) at of
copies_product zero m at of = let z : 0 * m ≡ 0 = omega arith in rw z refl
copies_product (suc n) m at of =
    let s : suc n * m ≡ m + n * m = omega arith in
    let z : 0 + at ≡ at = omega arith in
    rw (s, copies_sum m (n * m) at of, moved_copies m 0 at of, z, copies_product n m (at + m * of.size) of) refl

array_array : (n m : ℕ) (of : Layout) → array n (array m of) ≡ array (n * m) of
array_array n m of =
    let made : ℕ → List Slot → Layout = λ s xs. record { size = s; even = of.even; slots = xs } in
    let e : n * (m * of.size) ≡ n * m * of.size = omega arith in
    ap (λ (s : ℕ). made s (copies n 0 (array m of))) e
    ∙ ap (λ (xs : List Slot). made (n * m * of.size) xs) (copies_product n m 0 of)

moved_none : (xs : List Slot) → map (moved_by 0) xs ++ [] ≡ xs
moved_none [] = refl
moved_none (x ∷ xs) =
    let o : x.offset + 0 ≡ x.offset = omega arith in
    let slot : ℕ → Slot = λ n. record { offset = n; kind = x.kind } in
    ap (λ (n : ℕ). slot n ∷ (map (moved_by 0) xs ++ [])) o ∙ ap (λ ys. x ∷ ys) (moved_none xs)

pub array_one : (of : Layout) → array 1 of ≡ of
array_one of =
    let made : ℕ → List Slot → Layout = λ s xs. record { size = s; even = of.even; slots = xs } in
    let e : 1 * of.size ≡ of.size = omega arith in
    ap (λ (s : ℕ). made s (copies 1 0 of)) e ∙ ap (λ (xs : List Slot). made of.size xs) (moved_none of.slots)

pub counted : (a b x y p n : ℕ) → x ≡ a → y ≡ b → p ≡ min (x * y) 4294967295 → n ≡ p → n < 65536 → n ≡ a * b
counted a b x y p n e f g h small =
    let whole : n ≡ min (a * b) 4294967295 = rw (← e, ← f) (h ∙ g) in omega arith

layout-Array : (known : List Layout) (of : Ty) (more : ℕ) → layout_in known (ty.Array of more) ≡ array more (layout_in known of)
layout-Array known of more = search (rules, the_lemmas)

-- an array's elements, as many as those of all arrays around them
pub array_in : (known : List Layout) (t of : Ty) (count more n : ℕ) (whole : Layout) → t ≡ ty.Array of more → n ≡ count * more
    → array count (layout_in known t) ≡ whole → array n (layout_in known of) ≡ whole
array_in known t of count more n whole e m h =
    let one : layout_in known t ≡ array more (layout_in known of) = ap (layout_in known) e ∙ layout-Array known of more in
    ap (λ (k : ℕ). array k (layout_in known of)) m ∙ sym (array_array count more (layout_in known of))
    ∙ ap (array count) (sym one) ∙ h

-- ---- what is kept of the structs

length-layouts_from : (known : List Layout) (ss : List Struct) → length (layouts_from known ss) ≡ length known + length ss
length-layouts_from known [] = omega arith
length-layouts_from known (s ∷ ss) =
    length-layouts_from (known ++ struct_layout known s ∷ []) ss
    ∙ (rw (length-append known (struct_layout known s ∷ [])) (omega arith))

length-layouts : (ss : List Struct) → length (layouts ss) ≡ length ss
length-layouts ss = length-layouts_from [] ss ∙ (omega arith)

layouts-last : (known : List Layout) (ss : List Struct) (s : Struct)
    → layouts_from known (ss ++ s ∷ []) ≡ layouts_from known ss ++ struct_layout (layouts_from known ss) s ∷ []
layouts-last known [] s = refl
layouts-last known (t ∷ ss) s = layouts-last (known ++ struct_layout known t ∷ []) ss s

layouts_turn : (ss : List Struct) (i : ℕ) (d : Struct) → i < length ss
    → layouts (take (i + 1) ss) ≡ layouts (take i ss) ++ struct_layout (layouts (take i ss)) (get_or ss i d) ∷ []
layouts_turn ss i d h = rw (take_more ss i d h) (layouts-last [] (take i ss) (get_or ss i d))

-- the struct that is kept at a number
pub kept_at : (structs : List Struct) (known : List (Option Laid)) (at : ℕ) (kept : Option Laid) (made : Laid)
    → IsLaid known structs → at < length known → kept ≡ get_or known at kept → kept ≡ Some made
    → layout_of made ≡ get_or (layouts structs) at nothing
kept_at structs known at kept made all h is some =
    let here : Keeps layout_of (get_or known at kept) (get_or (layouts structs) at nothing) =
    zip_at (Keeps layout_of) known (layouts structs) at kept nothing all.kept h in
    let found : get_or known at kept ≡ Some made = sym is ∙ some in
    rw found at here

pub kept_past : (structs : List Struct) (known : List (Option Laid)) (at : ℕ) → IsLaid known structs → length known ≤ at
    → nothing ≡ get_or (layouts structs) at nothing
kept_past structs known at all h =
    let same : length known ≡ length (layouts structs) = length-zip (Keeps layout_of) known (layouts structs) all.kept in
    sym (get_or_past (layouts structs) at nothing (omega arith))

is_kept : (kept : Option Laid) (next : Result Laid Unlaid) (l : Layout) → IfOk next (λ made. layout_of made ≡ l)
    → IfSome kept (λ made. next ≡ Ok made) → Keeps layout_of kept l
is_kept None next l all one = tt
is_kept (Some made) next l all one = rw one at all

pub structs_step : (structs : List Struct) (known more : List (Option Laid)) (i : ℕ) (of : Struct) (kept : Option Laid)
    (next : Result Laid Unlaid)
    → i < length structs → of ≡ get_or structs i of → IsLaid known (take i structs)
    → IfOk next (λ made. layout_of made ≡ struct_layout (layouts (take i structs)) of)
    → IfSome kept (λ made. next ≡ Ok made) → more ≡ known ++ kept ∷ [] → IsLaid more (take (i + 1) structs)
structs_step structs known more i of kept next h is all made one e =
    let l : Layout = struct_layout (layouts (take i structs)) of in
    let these : AllZip (Keeps layout_of) (known ++ kept ∷ []) (layouts (take i structs) ++ l ∷ []) =
    zip-last (Keeps layout_of) known (layouts (take i structs)) kept l all.kept (is_kept kept next l made one) in
    let whole : layouts (take (i + 1) structs) ≡ layouts (take i structs) ++ l ∷ [] =
    layouts_turn structs i of h
    ∙ ap (λ (s : Struct). layouts (take i structs) ++ struct_layout (layouts (take i structs)) s ∷ []) (sym is) in
    record { kept = rw (e, whole) these }

with_last : (before : Layout) (ls : List Layout) (l : Layout)
    → with_members before (ls ++ l ∷ []) ≡ with_member (with_members before ls) l
with_last before [] l = refl
with_last before (k ∷ ls) l = with_last (with_member before k) ls l

members_turn : (known : List Layout) (ms : List Member) (i : ℕ) (d : Member) → i < length ms
    → with_members nothing (member_layouts known (take (i + 1) ms))
    ≡ with_member (with_members nothing (member_layouts known (take i ms))) (layout_in known (get_or ms i d).ty)
members_turn known ms i d h =
    rw (map_more (λ (m : Member). layout_in known m.ty) ms i d h)
    (with_last nothing (member_layouts known (take i ms)) (layout_in known (get_or ms i d).ty))

pub members_step : (known : List Layout) (ms : List Member) (i : ℕ) (m : Member) (sum next more : Layout) → i < length ms
    → m ≡ get_or ms i m → sum ≡ with_members nothing (member_layouts known (take i ms)) → next ≡ layout_in known m.ty
    → more ≡ with_member sum next → more ≡ with_members nothing (member_layouts known (take (i + 1) ms))
members_step known ms i m sum next more h is e f g =
    let before : Layout = with_members nothing (member_layouts known (take i ms)) in
    g ∙ ap (λ (l : Layout). with_member l next) e ∙ ap (with_member before) (f ∙ ap (λ (x : Member). layout_in known x.ty) is)
    ∙ sym (members_turn known ms i m h)

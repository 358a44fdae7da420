-- What is printed one after the other.
use Rattle.std.proofs.Common.{◌≡◌, ℕ, ◌+◌, ◌<◌, ◌≤◌, cond, List, [], ◌∷◌, ◌++◌, length, get_or, drop, map, ap, ap₂, sym, refl, ◌∙◌, add-one, drop-cons, codes}
use Rattle.std.proofs.lemmas.List.{drop_all, append-nil}
use Rattle.std.specs.List.{flat_map}
use Rattle.std.specs.Option.{is_some}
use Rattle.std.specs.Fmt.{decimal}
use Rattle.base16.specs.declared.image.Scalar.{Scalar}
use Rattle.core_tree.specs.Data.{Text}
use Rattle.c_values.specs.declared.value.Cell.{Cell}
use Rattle.c_values.specs.declared.state.Object.{Object}
use Rattle.report.specs.Report.{line}
use Rattle.report_state.specs.StateText.{for_each, object_values, timed, out_lines}

cut_at : {A : Type 0} (xs : List A) (i : ℕ) (x : A) → i < length xs → x ≡ get_or xs i x → drop i xs ≡ x ∷ drop (i + 1) xs
cut_at xs i x h is =
    let cut : drop i xs ≡ get_or xs i x ∷ drop (i + 1) xs = rw (add-one) (drop-cons xs i x h) in
    cut ∙ ap (λ y. y ∷ drop (i + 1) xs) (sym is)

pub cells_turn : (cs : List Cell) (i : ℕ) (c : Cell) → i < length cs → c ≡ get_or cs i c
    → map (λ (c : Cell). c.value) (drop i cs) ≡ c.value ∷ map (λ (c : Cell). c.value) (drop (i + 1) cs)
cells_turn cs i c h is = ap (map (λ (c : Cell). c.value)) (cut_at cs i c h is)

pub objects_turn : (os : List Object) (i : ℕ) (o : Object) → i < length os → o ≡ get_or os i o
    → flat_map object_values (drop i os) ≡ object_values o ++ flat_map object_values (drop (i + 1) os)
objects_turn os i o h is = ap (flat_map object_values) (cut_at os i o h is)

pub outputs_turn : (ws : List ℕ) (i w : ℕ) → i < length ws → w ≡ get_or ws i 0
    → out_lines i (drop i ws) ≡ line (codes "out " ++ decimal i ++ codes " " ++ decimal w) ++ out_lines (i + 1) (drop (i + 1) ws)
outputs_turn ws i w h is =
    let cut : drop i ws ≡ get_or ws i 0 ∷ drop (i + 1) ws = rw (add-one) (drop-cons ws i 0 h) in
    ap (out_lines i) (cut ∙ ap (λ y. y ∷ drop (i + 1) ws) (sym is))

-- ---- scalars and what belongs to them

nothing_left : {A : Type 0} (f : Scalar → A → Text) (xs : List Scalar) → for_each f xs [] ≡ []
nothing_left f [] = refl
nothing_left f (x ∷ xs) = refl

pub pairs_none : {A : Type 0} (f : Scalar → A → Text) (xs : List Scalar) (others : List A) (k : ℕ) → length others ≤ k
    → for_each f xs (drop k others) ≡ []
pairs_none f xs others k h = ap (for_each f xs) (drop_all k others h) ∙ nothing_left f xs

pub pairs_next : {A : Type 0} (f : Scalar → A → Text) (x : Scalar) (xs : List Scalar) (others : List A) (k : ℕ) (a : A)
    → k < length others → a ≡ get_or others k a
    → for_each f (x ∷ xs) (drop k others) ≡ f x a ++ for_each f xs (drop (k + 1) others)
pairs_next f x xs others k a h is = ap (for_each f (x ∷ xs)) (cut_at others k a h is)

pub pairs_turn : {A : Type 0} (f : Scalar → A → Text) (xs : List Scalar) (others : List A) (i : ℕ) (x : Scalar) (a : A)
    → i < length xs → i < length others → x ≡ get_or xs i x → a ≡ get_or others i a
    → for_each f (drop i xs) (drop i others) ≡ f x a ++ for_each f (drop (i + 1) xs) (drop (i + 1) others)
pairs_turn f xs others i x a h k x_is a_is = ap₂ (for_each f) (cut_at xs i x h x_is) (cut_at others i a k a_is)

pub timed_turn : (xs : List Scalar) (i : ℕ) (x : Scalar) → i < length xs → x ≡ get_or xs i x
    → timed (drop i xs) ≡ cond (is_some x.stamp) (x ∷ timed (drop (i + 1) xs)) (timed (drop (i + 1) xs))
timed_turn xs i x h is = ap timed (cut_at xs i x h is)

pub sets_done : {A : Type 0} (f : Scalar → A → Text) (xs : List Scalar) (others : List A) (k : ℕ) (before now : Text)
    → before ++ for_each f xs others ≡ now ++ for_each f (drop k xs) (drop k others) → length others ≤ k
    → now ≡ before ++ for_each f xs others
sets_done f xs others k before now e h =
    sym (e ∙ ap (λ more. now ++ more) (pairs_none f (drop k xs) others k h) ∙ append-nil now)

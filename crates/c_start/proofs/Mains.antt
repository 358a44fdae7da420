-- The function `main` and the kinds of parameters, one after the other.
use Rattle.std.proofs.Common.{◌≡◌, ℕ, ◌+◌, ◌<◌, cond, List, ◌∷◌, length, get_or, drop, map, Some, ap, sym, ◌∙◌, add-one, drop-cons}
use Rattle.core_tree.specs.declared.program.Function.{Function}
use Rattle.core_tree.specs.declared.types.Ty.{Ty}
use Rattle.core_tree.specs.Layout.{kind_of}
use Rattle.c_meaning.specs.After.{is_main, main_from}

pub main_turn : (fs : List Function) (i : ℕ) (f : Function) → i < length fs → f ≡ get_or fs i f
    → main_from i (drop i fs) ≡ cond (is_main f) (Some i) (main_from (i + 1) (drop (i + 1) fs))
main_turn fs i f h is =
    let cut : drop i fs ≡ get_or fs i f ∷ drop (i + 1) fs = rw (add-one) (drop-cons fs i f h) in
    ap (λ xs. main_from i xs) cut
    ∙ ap (λ (y : Function). cond (is_main y) (Some i) (main_from (i + 1) (drop (i + 1) fs))) (sym is)

pub kinds_turn : (ts : List Ty) (i : ℕ) (t : Ty) → i < length ts → t ≡ get_or ts i t
    → map kind_of (drop i ts) ≡ kind_of t ∷ map kind_of (drop (i + 1) ts)
kinds_turn ts i t h is =
    let cut : drop i ts ≡ get_or ts i t ∷ drop (i + 1) ts = rw (add-one) (drop-cons ts i t h) in
    ap (λ xs. map kind_of xs) cut ∙ ap (λ (y : Ty). kind_of y ∷ map kind_of (drop (i + 1) ts)) (sym is)

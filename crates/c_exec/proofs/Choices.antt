-- Which groups of a switch are run, by the number of the first.
use Rattle.std.proofs.Common.{◌≡◌, ℕ, ◌+◌, ◌<◌, ◌≤◌, ℤ, Bool, cond, List, [], ◌∷◌, drop, length, get_or, Option, refl, arith, ap, sym, ◌∙◌, add-one, drop-cons}
use Rattle.std.proofs.lemmas.List.{drop_all, length-drop}
use Rattle.core_tree.specs.declared.statements.Group.{Group, out-Group}
use Rattle.c_meaning.specs.Statements.{has_case, has_default}
use Rattle.c_exec.specs.Groups.{groups_from, or_default, chosen}

pub from_turn : (p : List (Option ℤ) → Bool) (gs : List Group) (i : ℕ) (g : Group) → i < length gs → g ≡ get_or gs i g
    → groups_from p (drop i gs) ≡ cond (p (out-Group g).labels) (drop i gs) (groups_from p (drop (i + 1) gs))
from_turn p gs i g h is =
    let cut : drop i gs ≡ g ∷ drop (i + 1) gs =
    rw (add-one) (drop-cons gs i g h) ∙ ap (λ (x : Group). x ∷ drop (i + 1) gs) (sym is) in
    ap (groups_from p) cut ∙ ap (λ (x : List Group). cond (p (out-Group g).labels) x (groups_from p (drop (i + 1) gs))) (sym cut)

pub from_end : (p : List (Option ℤ) → Bool) (gs : List Group) (i : ℕ) → length gs ≤ i → groups_from p (drop i gs) ≡ drop i gs
from_end p gs i h = let cut = drop_all i gs h in ap (groups_from p) cut ∙ sym cut

kept : (found gs : List Group) → 0 < length found → or_default found gs ≡ found
kept [] gs h = absurd (omega arith)
kept (g ∷ more) gs h = refl

pub chosen_case : (v : ℤ) (gs : List Group) (i : ℕ) → i < length gs → groups_from (has_case v) gs ≡ drop i gs → chosen v gs ≡ drop i gs
chosen_case v gs i h is =
    ap (λ (f : List Group). or_default f gs) is ∙ kept (drop i gs) gs (omega (arith, length-drop i gs))

pub chosen_default : (v : ℤ) (gs : List Group) (i j : ℕ) → length gs ≤ i → groups_from (has_case v) gs ≡ drop i gs
    → groups_from has_default gs ≡ drop j gs → chosen v gs ≡ drop j gs
chosen_default v gs i j h is other = ap (λ (f : List Group). or_default f gs) (is ∙ drop_all i gs h) ∙ other

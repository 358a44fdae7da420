-- A turn of the loops over the labels of a `switch`.
use Rattle.std.proofs.Common.{◌≡◌, ℕ, suc, ◌+◌, ◌<◌, ◌≤◌, List, [], ◌∷◌, ◌++◌, length, get_or, drop, Option, Ok, Err, refl, sym, ap, ◌∙◌, append-nil, append_assoc, arith}
use Rattle.std.specs.Prelude.{ℤ, ◌||◌, false}
use Rattle.std.proofs.Math.Bool.{or_assoc}
use Rattle.std.proofs.Math.Seq.{drop-cons}
use Rattle.std.proofs.lemmas.List.{drop_all}
use Rattle.base16.specs.declared.integer.IntType.{IntType}
use Rattle.c_tree.specs.declared.statements.Label.{Label}
use Rattle.c_typing.specs.declared.fault.Fault.{Fault}
use Rattle.c_typing.specs.declared.environment.Env.{Env}
use Rattle.c_typing.specs.Outcome.{Outcome, ◌>>=◌}
use Rattle.c_checking.specs.Statements.{label_of, labels_of, stands_in, same_label}
use Rattle.c_stmt_parts.specs.Sources.{behind_labels}

next_is : {A : Type 0} (all : List A) (i : ℕ) (x : A) → i < length all → x ≡ get_or all i x → drop i all ≡ x ∷ drop (i + 1) all
next_is all i x h here =
    let n : suc i ≡ i + 1 = omega arith in
    drop-cons all i x h ∙ (ap (λ y. y ∷ drop (suc i) all) (sym here) ∙ ap (λ k. x ∷ drop k all) n)

-- ---- labels

pub stands_in_both : (before found : List (Option ℤ)) (l : Option ℤ) → stands_in (before ++ found) l
    ≡ (stands_in before l || stands_in found l)
stands_in_both [] found l = refl
stands_in_both (m ∷ before) found l =
    ap (λ b. same_label m l || b) (stands_in_both before found l) ∙ sym (or_assoc (same_label m l) (stands_in before l)
    (stands_in found l))

pub label_next : (labels : List (Option ℤ)) (i : ℕ) (x l : Option ℤ) → i < length labels → x ≡ get_or labels i x
    → stands_in (drop i labels) l ≡ (same_label x l || stands_in (drop (i + 1) labels) l)
label_next labels i x l h here = rw (next_is labels i x h here) refl

pub no_label_left : (labels : List (Option ℤ)) (i : ℕ) (l : Option ℤ) → length labels ≤ i → stands_in (drop i labels) l ≡ false
no_label_left labels i l h = rw (drop_all i labels h) refl

labels_more : (found : List (Option ℤ)) (x : Option ℤ) (o : Outcome (List (Option ℤ)))
    → behind_labels found (o >>= λ xs. Ok (x ∷ xs)) ≡ behind_labels (found ++ x ∷ []) o
labels_more found x (Err f) = refl
labels_more found x (Ok xs) = ap (λ ys. Ok ys) (sym (append_assoc found (x ∷ []) xs))

pub labels_turn : (env : Env) (line : ℕ) (t : IntType) (before found : List (Option ℤ)) (all : List Label) (i : ℕ)
    (x : Label) (y : Option ℤ) → i < length all → x ≡ get_or all i x → label_of env line t (before ++ found) x ≡ Ok y
    → behind_labels found (labels_of env line t (before ++ found) (drop i all))
    ≡ behind_labels (found ++ y ∷ []) (labels_of env line t (before ++ (found ++ y ∷ [])) (drop (i + 1) all))
labels_turn env line t before found all i x y h here is =
    rw (next_is all i x h here) (rw is
    (labels_more found y (labels_of env line t ((before ++ found) ++ y ∷ []) (drop (i + 1) all))
    ∙ ap (λ bs. behind_labels (found ++ y ∷ []) (labels_of env line t bs (drop (i + 1) all)))
    (append_assoc before found (y ∷ []))))

pub labels_break : (env : Env) (line : ℕ) (t : IntType) (before found : List (Option ℤ)) (all : List Label) (i : ℕ)
    (x : Label) (f : Fault) → i < length all → x ≡ get_or all i x → label_of env line t (before ++ found) x ≡ Err f
    → behind_labels found (labels_of env line t (before ++ found) (drop i all)) ≡ Err f
labels_break env line t before found all i x f h here is = rw (next_is all i x h here) (rw is refl)

pub labels_end : (env : Env) (line : ℕ) (t : IntType) (before found : List (Option ℤ)) (all : List Label) (i : ℕ)
    → length all ≤ i
    → behind_labels found (labels_of env line t (before ++ found) (drop i all)) ≡ Ok found
labels_end env line t before found all i h = rw (drop_all i all h) (ap (λ ys. Ok ys) (append-nil found))

pub no_labels_yet : (o : Outcome (List (Option ℤ))) → behind_labels [] o ≡ o
no_labels_yet (Err f) = refl
no_labels_yet (Ok xs) = refl

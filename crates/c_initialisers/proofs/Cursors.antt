-- The scalars in front of a cursor.
use Rattle.std.proofs.Common.{◌≡◌, ℕ, zero, suc, ◌+◌, ◌-◌, ◌<◌, ◌≤◌, min, List, [], ◌∷◌, length, get_or, take, drop, Bool, true, Some, None, refl, ap, sym, ◌∙◌, arith}
use Rattle.std.specs.Prelude.{slice_get}
use Rattle.std.proofs.lemmas.List.{take_all, take-take, drop-take, drop-drop, drop_more, length-take, length-drop}
use Rattle.core_tree.specs.declared.types.Ty.{Ty}
use Rattle.c_checking.specs.Initialisers.{Leaf}
use Rattle.c_initialisers.specs.declared.lists.Cursor.{Cursor}
use Rattle.c_initialisers.specs.Scalars.{no_leaf}
use Rattle.c_initialisers.specs.Lists.{opened, ahead, IsParted}

pub opened-none : (ls : List Leaf) → opened 0 ls ≡ ls
opened-none [] = refl
opened-none (l ∷ ls) = refl

length-opened : (outer : ℕ) (ls : List Leaf) → length (opened outer ls) ≡ length ls
length-opened outer [] = refl
length-opened outer (l ∷ ls) = refl

pub length-ahead : (all : List Leaf) (c : Cursor) → c.to ≤ length all → length (ahead all c) ≡ c.to - c.from
length-ahead all c h =
    length-opened c.outer (take (c.to - c.from) (drop c.from all))
    ∙ (length-take (c.to - c.from) (drop c.from all)
    ∙ (ap (λ n. min (c.to - c.from) n) (length-drop c.from all) ∙ omega arith))

pub ahead_none : (all : List Leaf) (c : Cursor) → c.to ≤ c.from → ahead all c ≡ []
ahead_none all c h =
    let z : c.to - c.from ≡ 0 = omega arith in ap (λ n. opened c.outer (take n (drop c.from all))) z

pub ahead_all : (all : List Leaf) (n : ℕ) (fits : Bool) → n ≡ length all
    → ahead all (record { from = 0; to = n; outer = 0; fits = fits }) ≡ all
ahead_all all n fits e =
    let z : n - 0 ≡ n = omega arith in
    ap (λ k. opened 0 (take k all)) z ∙ (opened-none (take n all) ∙ take_all n all (omega arith))

-- a scalar and those behind it
abbrev leaf_at : List Leaf → ℕ → ℕ → Leaf
leaf_at all from outer = record { ty = (get_or all from no_leaf).ty; begins = drop outer (get_or all from no_leaf).begins }

ahead_suc : (all : List Leaf) (from to outer k : ℕ) → to - from ≡ suc k → from < length all
    → opened outer (take (to - from) (drop from all)) ≡ leaf_at all from outer ∷ take k (drop (from + 1) all)
ahead_suc all from to outer k e h =
    ap (λ n. opened outer (take n (drop from all))) e
    ∙ ap (λ ls. opened outer (take (suc k) ls)) (drop_more all from no_leaf h)

-- those behind the first
pub ahead_next : (all : List Leaf) (c : Cursor) (fits : Bool) → c.from < c.to → c.from < length all
    → ahead all c ≡ leaf_at all c.from c.outer ∷ ahead all (record { from = c.from + 1; to = c.to; outer = 0; fits = fits })
ahead_next all c fits low h =
    let k : ℕ = c.to - (c.from + 1) in
    let e : c.to - c.from ≡ suc k = omega arith in
    ahead_suc all c.from c.to c.outer k e h
    ∙ ap (λ ls. leaf_at all c.from c.outer ∷ ls) (sym (opened-none (take k (drop (c.from + 1) all))))

begins_at : (begins : List ℕ) (outer n : ℕ) → slice_get begins outer ≡ Some n → drop outer begins ≡ n ∷ drop (suc outer) begins
begins_at [] outer n e = absurd (cc)
begins_at (b ∷ bs) zero n e = let same : b ≡ n = cc in ap (λ x. x ∷ bs) same
begins_at (b ∷ bs) (suc outer) n e = begins_at bs outer n e

begins_past : (begins : List ℕ) (outer : ℕ) → slice_get begins outer ≡ None → drop outer begins ≡ []
begins_past [] zero e = refl
begins_past [] (suc outer) e = refl
begins_past (b ∷ bs) zero e = absurd (cc)
begins_past (b ∷ bs) (suc outer) e = begins_past bs outer e

-- what is asked of the first scalar
pub ahead_lost : (all : List Leaf) (c : Cursor) (fits : Bool) → c.from < c.to → c.from < length all
    → slice_get (get_or all c.from no_leaf).begins c.outer ≡ None
    → ahead all c ≡ record { ty = (get_or all c.from no_leaf).ty; begins = [] }
    ∷ ahead all (record { from = c.from + 1; to = c.to; outer = 0; fits = fits })
ahead_lost all c fits low h none =
    ahead_next all c fits low h
    ∙ ap (λ bs. record { ty = (get_or all c.from no_leaf).ty; begins = bs }
    ∷ ahead all (record { from = c.from + 1; to = c.to; outer = 0; fits = fits }))
    (begins_past (get_or all c.from no_leaf).begins c.outer none)

-- an object that begins at the first scalar: with it around, inside it, and behind it
pub record IsOpen (all : List Leaf) (c inner after : Cursor) (count : ℕ) (t : Ty) (begins : List ℕ) (rest : List Leaf) : Type 0 where
  pub around : ahead all c ≡ record { ty = t; begins = count ∷ begins } ∷ rest
  pub inside : take count (record { ty = t; begins = begins } ∷ rest) ≡ ahead all inner
  pub behind : drop count (record { ty = t; begins = count ∷ begins } ∷ rest) ≡ ahead all after

open_case : (all : List Leaf) (from to outer n : ℕ) (fits more : Bool) → from < length all → from + suc n ≤ to
    → slice_get (get_or all from no_leaf).begins outer ≡ Some (suc n)
    → IsOpen all (record { from = from; to = to; outer = outer; fits = fits })
    (record { from = from; to = from + suc n; outer = outer + 1; fits = more })
    (record { from = from + suc n; to = to; outer = 0; fits = fits }) (suc n)
    (get_or all from no_leaf).ty (drop (suc outer) (get_or all from no_leaf).begins)
    (take (to - (from + 1)) (drop (from + 1) all))
open_case all from to outer n fits more h fit is =
    let l : Leaf = get_or all from no_leaf in
    let k : ℕ = to - (from + 1) in
    let m : ℕ = to - (from + suc n) in
    let e : to - from ≡ suc k = omega arith in
    let i : from + suc n - from ≡ suc n = omega arith in
    let sum : k ≡ n + m = omega arith in
    let low : n ≤ k = omega arith in
    let place : from + 1 + n ≡ from + suc n = omega arith in
    let up : outer + 1 ≡ suc outer = omega arith in
    let tail : List Leaf = drop (from + 1) all in
    record {
      around = ahead_suc all from to outer k e h
          ∙ ap (λ bs. record { ty = l.ty; begins = bs } ∷ take k tail) (begins_at l.begins outer (suc n) is);
      inside = ap (λ ls. record { ty = l.ty; begins = drop (suc outer) l.begins } ∷ ls) (take-take n k tail low)
          ∙ sym (ahead_suc all from (from + suc n) (outer + 1) n i h
          ∙ ap (λ o. record { ty = l.ty; begins = drop o l.begins } ∷ take n tail) up);
      behind = ap (λ j. drop n (take j tail)) sum ∙ (drop-take n m tail
          ∙ (ap (take m) (drop-drop n (from + 1) all ∙ ap (λ j. drop j all) place) ∙ sym (opened-none (take m (drop (from + suc n) all)))));
    }

count_case : (all : List Leaf) (from to outer count : ℕ) (fits more : Bool) → 0 < count → from < length all → from + count ≤ to
    → slice_get (get_or all from no_leaf).begins outer ≡ Some count
    → IsOpen all (record { from = from; to = to; outer = outer; fits = fits })
    (record { from = from; to = from + count; outer = outer + 1; fits = more })
    (record { from = from + count; to = to; outer = 0; fits = fits }) count
    (get_or all from no_leaf).ty (drop (suc outer) (get_or all from no_leaf).begins)
    (take (to - (from + 1)) (drop (from + 1) all))
count_case all from to outer zero fits more some h fit is = absurd (omega arith)
count_case all from to outer (suc n) fits more some h fit is = open_case all from to outer n fits more h fit is

pub open_at : (all : List Leaf) (c inner after : Cursor) (count : ℕ) → IsParted c count inner after → c.from < length all
    → slice_get (get_or all c.from no_leaf).begins c.outer ≡ Some count
    → IsOpen all c inner after count (get_or all c.from no_leaf).ty (drop (suc c.outer) (get_or all c.from no_leaf).begins)
    (take (c.to - (c.from + 1)) (drop (c.from + 1) all))
open_at all c inner after count p h is =
    rw (p.inner_is, p.after_is) (count_case all c.from c.to c.outer count c.fits true p.some h p.fit is)

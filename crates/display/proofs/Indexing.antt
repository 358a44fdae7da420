-- An index as it grows by one scalar after the other.
use Rattle.std.specs.Prelude.{◌≡◌, ◌≢◌, ◌⊎◌, ℕ, ◌+◌, ◌<◌, ◌≤◌, ◌==◌, Bool, true, false, nat_lt, List, [], ◌∷◌, ◌++◌, Option, Some, None, IfSome, slice_get, slice_set, slice_index_or, is_none, length, take, zero, suc, refl}
use Rattle.std.proofs.Common.{sym, ◌∙◌, ap, subst, inl, inr, arith, cond, get_or, eqb}
use Rattle.std.proofs.lemmas.Bool.Decides.{nat_tests}
use Rattle.std.proofs.lemmas.List.{get_or-set_same, get_or-set_other, get_or_past, take_more, length-take-le}
use Rattle.std.proofs.lemmas.List.Folds.{position_or_len_push}
use Rattle.std.proofs.lemmas.List.Sums.{prefix_len-le-length}
use Rattle.std.proofs.lemmas.Option.{slice_get-get_or, slice_get_within, slice_get_read, get_or_from_slice_get}
use Rattle.std.proofs.Math.ListN.{length-set}
use Rattle.std.specs.List.{position, position_or_len}
use Rattle.base16.specs.Board.{data_end}
use Rattle.base16.specs.declared.image.Scalar.{Scalar}
use Rattle.display.specs.Display.{AreInData, IsInData, LiesInData, stamp_bytes}
use Rattle.display.specs.Index.{noted}
use Rattle.display.proofs.Numbers.{value_bytes-some, test_of}

-- ---- positions in a list with one element more

length_more : {X : Type 0} (xs : List X) (x : X) → length (xs ++ x ∷ []) ≡ length xs + 1
length_more [] x = omega arith
length_more (y ∷ ys) x = let h = length_more ys x in omega arith

more_found : (n len j : ℕ) (b : Bool) → n < len → n ≡ j
    → cond (nat_lt (cond (eqb n len) (len + cond b 0 1) n) (len + 1)) (Some (cond (eqb n len) (len + cond b 0 1) n)) None ≡ Some j
more_found n len j b l e =
    let other : eqb n len ≡ false = grind (arith, nat_tests) in
    let within : nat_lt n (len + 1) ≡ true = grind (arith, nat_tests) in
    ap (λ t. cond (nat_lt (cond t (len + cond b 0 1) n) (len + 1)) (Some (cond t (len + cond b 0 1) n)) None) other
    ∙ ap (λ t. cond t (Some n) None) within ∙ ap Some e

more_new : (len : ℕ) → cond (nat_lt (cond (eqb len len) (len + cond true 0 1) len) (len + 1))
    (Some (cond (eqb len len) (len + cond true 0 1) len)) None ≡ Some len
more_new len =
    let same : eqb len len ≡ true = grind (arith, nat_tests) in
    let here : len + 0 ≡ len = omega arith in
    let within : nat_lt len (len + 1) ≡ true = grind (arith, nat_tests) in
    ap (λ t. cond (nat_lt (cond t (len + 0) len) (len + 1)) (Some (cond t (len + 0) len)) None) same
    ∙ ap (λ n. cond (nat_lt n (len + 1)) (Some n) None) here ∙ ap (λ t. cond t (Some len) None) within

more_none : (len : ℕ) → cond (nat_lt (cond (eqb len len) (len + cond false 0 1) len) (len + 1))
    (Some (cond (eqb len len) (len + cond false 0 1) len)) None ≡ None
more_none len =
    let same : eqb len len ≡ true = grind (arith, nat_tests) in
    let past : nat_lt (len + 1) (len + 1) ≡ false = grind (arith, nat_tests) in
    ap (λ t. cond (nat_lt (cond t (len + 1) len) (len + 1)) (Some (cond t (len + 1) len)) None) same
    ∙ ap (λ t. cond t (Some (len + 1)) None) past

none_of : (b : Bool) (n : ℕ) → cond b (Some n) None ≡ None → b ≡ false
none_of true n e = cc
none_of false n e = refl

push_is : {X : Type 0} (p : X → Bool) (xs : List X) (x : X) → position p (xs ++ x ∷ [])
    ≡ cond (nat_lt (cond (eqb (position_or_len p xs) (length xs)) (length xs + cond (p x) 0 1) (position_or_len p xs))
    (length xs + 1)) (Some (cond (eqb (position_or_len p xs) (length xs)) (length xs + cond (p x) 0 1) (position_or_len p xs)))
    None
push_is p xs x =
    ap (λ n. cond (nat_lt n (length (xs ++ x ∷ []))) (Some n) None) (position_or_len_push p xs x)
    ∙ ap (λ len. cond (nat_lt (cond (eqb (position_or_len p xs) (length xs)) (length xs + cond (p x) 0 1)
    (position_or_len p xs)) len)
    (Some (cond (eqb (position_or_len p xs) (length xs)) (length xs + cond (p x) 0 1) (position_or_len p xs))) None)
    (length_more xs x)

pub push-found : {X : Type 0} (p : X → Bool) (xs : List X) (x : X) (j : ℕ) → position p xs ≡ Some j
    → position p (xs ++ x ∷ []) ≡ Some j
push-found p xs x j e =
    let t = test_of (nat_lt (position_or_len p xs) (length xs)) (position_or_len p xs) j e in
    push_is p xs x ∙ more_found (position_or_len p xs) (length xs) j (p x) (lower (position_or_len p xs) (length xs) t.0) t.1
  where
    lower : (a b : ℕ) → nat_lt a b ≡ true → a < b
    lower a b h = grind (arith, nat_tests)

not_found : {X : Type 0} (p : X → Bool) (xs : List X) → position p xs ≡ None → position_or_len p xs ≡ length xs
not_found p xs e =
    meets (position_or_len p xs) (length xs) (prefix_len-le-length _ xs)
    (none_of (nat_lt (position_or_len p xs) (length xs)) (position_or_len p xs) e)
  where
    meets : (a b : ℕ) → a ≤ b → nat_lt a b ≡ false → a ≡ b
    meets a b l h = grind (arith, nat_tests)

pub push-new : {X : Type 0} (p : X → Bool) (xs : List X) (x : X) → position p xs ≡ None → p x ≡ true
    → position p (xs ++ x ∷ []) ≡ Some (length xs)
push-new p xs x e h =
    push_is p xs x
    ∙ ap (λ n. cond (nat_lt (cond (eqb n (length xs)) (length xs + cond (p x) 0 1) n) (length xs + 1))
    (Some (cond (eqb n (length xs)) (length xs + cond (p x) 0 1) n)) None) (not_found p xs e)
    ∙ ap (λ b. cond (nat_lt (cond (eqb (length xs) (length xs)) (length xs + cond b 0 1) (length xs)) (length xs + 1))
    (Some (cond (eqb (length xs) (length xs)) (length xs + cond b 0 1) (length xs))) None) h ∙ more_new (length xs)

pub push-none : {X : Type 0} (p : X → Bool) (xs : List X) (x : X) → position p xs ≡ None → p x ≡ false
    → position p (xs ++ x ∷ []) ≡ None
push-none p xs x e h =
    push_is p xs x
    ∙ ap (λ n. cond (nat_lt (cond (eqb n (length xs)) (length xs + cond (p x) 0 1) n) (length xs + 1))
    (Some (cond (eqb n (length xs)) (length xs + cond (p x) 0 1) n)) None) (not_found p xs e)
    ∙ ap (λ b. cond (nat_lt (cond (eqb (length xs) (length xs)) (length xs + cond b 0 1) (length xs)) (length xs + 1))
    (Some (cond (eqb (length xs) (length xs)) (length xs + cond b 0 1) (length xs))) None) h ∙ more_none (length xs)

-- a scalar that does not pass changes no position
pub push-other : {X : Type 0} (p : X → Bool) (xs : List X) (x : X) → p x ≡ false → position p (xs ++ x ∷ []) ≡ position p xs
push-other p xs x h = other (position p xs) refl
  where
    other : (o : Option ℕ) → position p xs ≡ o → position p (xs ++ x ∷ []) ≡ position p xs
    other None e = push-none p xs x e h ∙ sym e
    other (Some j) e = push-found p xs x j e ∙ sym e

-- ---- a number noted

set_other : {X : Type 0} (places : List X) (place a : ℕ) (v : X) → place ≢ a → a < length places
    → slice_get (slice_set places place v) a ≡ slice_get places a
set_other places place a v ne l =
    let k : a < length (slice_set places place v) = omega (arith, l, length-set places place v) in
    slice_get-get_or (slice_set places place v) a v k ∙ ap Some (get_or-set_other places place a v v (λ e. ne (sym e)))
    ∙ sym (slice_get-get_or places a v l)

set_same : {X : Type 0} (places : List X) (place : ℕ) (v : X) → place < length places
    → slice_get (slice_set places place v) place ≡ Some v
set_same places place v l =
    let k : place < length (slice_set places place v) = omega (arith, l, length-set places place v) in
    slice_get-get_or (slice_set places place v) place v k ∙ ap Some (get_or-set_same places place v v l)

noted_other : (b : Bool) (places : List (Option ℕ)) (place a : ℕ) (v : Option ℕ) → place ≢ a → a < length places
    → slice_get (cond b (slice_set places place v) places) a ≡ slice_get places a
noted_other true places place a v ne l = set_other places place a v ne l
noted_other false places place a v ne l = refl

noted_here : (places : List (Option ℕ)) (place n : ℕ) (o : Option ℕ) → slice_get places place ≡ Some o
    → slice_get (noted places place n) place ≡ Some (cond (is_none o) (Some n) o)
noted_here places place n None e =
    ap (λ q. slice_get (cond (is_none q) (slice_set places place (Some n)) places) place)
    (get_or_from_slice_get places place None None e)
    ∙ set_same places place (Some n) (slice_get_within places place None e)
noted_here places place n (Some j) e =
    ap (λ q. slice_get (cond (is_none q) (slice_set places place (Some n)) places) place)
    (get_or_from_slice_get places place (Some j) None e) ∙ e

-- What is told of the scalars before one is told of it, too, once its number is noted.
pub noted-tells : (key : Scalar → ℕ → Bool) (places more : List (Option ℕ)) (xs : List Scalar) (x : Scalar) (place n a : ℕ)
    → ((b : ℕ) → b < data_end → slice_get places b ≡ Some (position (λ y. key y b) xs)) → place < data_end
    → ((b : ℕ) → key x b ≡ (place == b)) → n ≡ length xs → more ≡ noted places place n → a < data_end
    → slice_get more a ≡ Some (position (λ y. key y a) (xs ++ x ∷ []))
noted-tells key places more xs x place n a tells within stands count is l =
    ap (λ ps. slice_get ps a) is ∙ elim (same_or_not place a) [
      | inl e ↦ at_place (position (λ y. key y a) xs) refl e
      | inr ne ↦
          noted_other (is_none (slice_index_or places place None)) places place a (Some n) ne
          (slice_get_within places a (position (λ y. key y a) xs) (tells a l)) ∙ tells a l
          ∙ ap Some (sym (push-other (λ y. key y a) xs x (stands a ∙ differs place a ne)))
    ]
  where
    same_or_not : (p q : ℕ) → (p ≡ q) ⊎ (p ≢ q)
    same_or_not p q = grind (arith, nat_tests)

    differs : (p q : ℕ) → p ≢ q → (p == q) ≡ false
    differs p q ne = grind (arith, nat_tests)

    equals : (p q : ℕ) → p ≡ q → (p == q) ≡ true
    equals p q e = grind (arith, nat_tests)

    at_place : (o : Option ℕ) → position (λ y. key y a) xs ≡ o → place ≡ a
        → slice_get (noted places place n) a ≡ Some (position (λ y. key y a) (xs ++ x ∷ []))
    at_place None e same =
        let here = subst (λ b. slice_get places b ≡ Some None) (sym same) (tells a l ∙ ap Some e) in
        subst (λ b. slice_get (noted places place n) b ≡ Some (Some n)) same (noted_here places place n None here)
        ∙ ap Some (ap Some count ∙ sym (push-new (λ y. key y a) xs x e (stands a ∙ equals place a same)))
    at_place (Some j) e same =
        let here = subst (λ b. slice_get places b ≡ Some (Some j)) (sym same) (tells a l ∙ ap Some e) in
        subst (λ b. slice_get (noted places place n) b ≡ Some (Some j)) same (noted_here places place n (Some j) here)
        ∙ ap Some (sym (push-found (λ y. key y a) xs x j e))

-- A scalar without a place needs no note.
pub unnoted-tells : (key : Scalar → ℕ → Bool) (places : List (Option ℕ)) (xs : List Scalar) (x : Scalar) (a : ℕ)
    → ((b : ℕ) → b < data_end → slice_get places b ≡ Some (position (λ y. key y b) xs)) → ((b : ℕ) → key x b ≡ false)
    → a < data_end → slice_get places a ≡ Some (position (λ y. key y a) (xs ++ x ∷ []))
unnoted-tells key places xs x a tells stands l = tells a l ∙ ap Some (sym (push-other (λ y. key y a) xs x (stands a)))

-- ---- a blank index, and the scalars so far

default_more : (xs : List (Option ℕ)) (a : ℕ) → get_or (xs ++ None ∷ []) a None ≡ get_or xs a None
default_more [] zero = refl
default_more [] (suc a) = refl
default_more (x ∷ xs) zero = refl
default_more (x ∷ xs) (suc a) = default_more xs a

none_at : (xs : List (Option ℕ)) (a : ℕ) → ((b : ℕ) → b < length xs → slice_get xs b ≡ Some None) → get_or xs a None ≡ None
none_at xs a h = elim (below_or a (length xs)) [
  | inl l ↦ get_or_from_slice_get xs a None None (h a l)
  | inr l ↦ get_or_past xs a None l
]
  where
    below_or : (p q : ℕ) → (p < q) ⊎ (q ≤ p)
    below_or p q = grind arith

-- One blank place more.
pub blank-more : (xs ys : List (Option ℕ)) → ys ≡ xs ++ None ∷ [] → ((a : ℕ) → a < length xs → slice_get xs a ≡ Some None)
    → (a : ℕ) → a < length ys → slice_get ys a ≡ Some None
blank-more xs ys e h a l =
    slice_get-get_or ys a None l
    ∙ ap Some (ap (λ (zs : List (Option ℕ)). get_or zs a None) e ∙ default_more xs a ∙ none_at xs a h)

pub one_scalar_more : (scalars : List Scalar) (n : ℕ) (x : Scalar) → n < length scalars → x ≡ get_or scalars n x
    → take (n + 1) scalars ≡ take n scalars ++ x ∷ []
one_scalar_more scalars n x l e = take_more scalars n x l ∙ ap (λ y. take n scalars ++ y ∷ []) (sym e)

pub so_many : (scalars : List Scalar) (n : ℕ) → n ≤ length scalars → length (take n scalars) ≡ n
so_many scalars n l = length-take-le n scalars l

-- ---- where a scalar stands

pub placed_at : (scalars : List Scalar) → AreInData scalars → (n : ℕ) (x : Scalar) → n < length scalars → x ≡ get_or scalars n x
    → IsInData x
placed_at scalars placed n x l e = placed.placed n x (slice_get_read scalars (length scalars) n x refl l e)

pub value_below : (scalars : List Scalar) → AreInData scalars → (n : ℕ) (x : Scalar) → n < length scalars → x ≡ get_or scalars n x
    → x.address < data_end
value_below scalars placed n x l e =
    let high = (placed_at scalars placed n x l e).value.high in
    let some = value_bytes-some x.kind in
    omega arith

pub stamp_below : (scalars : List Scalar) → AreInData scalars → (n : ℕ) (x : Scalar) (a : ℕ) → n < length scalars
    → x ≡ get_or scalars n x → x.stamp ≡ Some a → a < data_end
stamp_below scalars placed n x a l e timed =
    let lies = subst (λ o. IfSome o (λ b. LiesInData b stamp_bytes)) timed (placed_at scalars placed n x l e).stamp in
    omega (arith, lies.high)

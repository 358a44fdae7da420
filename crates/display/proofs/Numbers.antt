-- Which scalar stands at an address.
use Rattle.std.specs.Prelude.{◌≡◌, ℕ, ◌<◌, ◌≤◌, ◌==◌, ◌⊎◌, Bool, true, false, nat_lt, List, [], Option, Some, None, slice_get, length, refl}
use Rattle.std.proofs.Common.{sym, ◌∙◌, ap, subst, inl, inr, arith, cond, not, get_or}
use Rattle.std.proofs.lemmas.Bool.Decides.{nat_tests}
use Rattle.std.proofs.lemmas.List.Quantifiers.{position-Some}
use Rattle.std.proofs.lemmas.List.Sums.{prefix_len_passes}
use Rattle.std.proofs.lemmas.Option.{slice_get_within, get_or_from_slice_get, slice_get_cases}
use Rattle.std.specs.List.{position, position_or_len}
use Rattle.base16.specs.declared.image.Kind.{Kind}
use Rattle.base16.specs.declared.image.Kind.TheVariants.{Char, Int, UInt, Pointer}
use Rattle.base16.specs.declared.image.Scalar.{Scalar}
use Rattle.display.specs.Display.{value_bytes, is_of_value, is_of_stamp, is_within, AreInData}
use Rattle.display.specs.Sets.{value_number, begins_at, stamp_number}

-- ---- positions in a list

pub test_of : (b : Bool) (n i : ℕ) → cond b (Some n) None ≡ Some i → (b ≡ true) × (n ≡ i)
test_of true n i e = (refl, cc)
test_of false n i e = cc

position_within : {X : Type 0} (p : X → Bool) (xs : List X) (i : ℕ) → position p xs ≡ Some i → i < length xs
position_within p xs i e =
    let t = test_of (nat_lt (position_or_len p xs) (length xs)) (position_or_len p xs) i e in
    let n : position_or_len p xs ≡ i = t.1 in
    let l : nat_lt (position_or_len p xs) (length xs) ≡ true = t.0 in
    grind (arith, nat_tests)

passes_in : {X : Type 0} (p : X → Bool) (xs : List X) (i : ℕ) → i < length xs → position p xs ≡ Some i
    → ((x : X) × (i < length xs) × (slice_get xs i ≡ Some x) × (get_or xs i x ≡ x)) ⊎ ((length xs ≤ i) × (slice_get xs i ≡ None))
    → (x : X) × (slice_get xs i ≡ Some x) × (p x ≡ true)
passes_in p xs i l e (inl w) = (w.0, w.2, ap p (sym w.3) ∙ (position-Some p xs i w.0 e).1)
passes_in p xs i l e (inr w) = absurd (omega (arith, l, w.0))

-- What is found passes.
pub position-passes : {X : Type 0} (p : X → Bool) (xs : List X) (i : ℕ) → position p xs ≡ Some i
    → (x : X) × (slice_get xs i ≡ Some x) × (p x ≡ true)
position-passes p xs i e = passes_in p xs i (position_within p xs i e) e (slice_get_cases xs i).1

not_true : (b : Bool) → not b ≡ true → b ≡ true → ⊥
not_true true h k = cc
not_true false h k = cc

below_or : (n i : ℕ) → (i < n) ⊎ (n ≤ i)
below_or n i = grind arith

-- One is found where one passes.
pub position-finds : {X : Type 0} (p : X → Bool) (xs : List X) (i : ℕ) (x : X) → slice_get xs i ≡ Some x → p x ≡ true
    → (j : ℕ) × (position p xs ≡ Some j)
position-finds p xs i x e h =
    let l : i < length xs = slice_get_within xs i x e in
    let here : get_or xs i x ≡ x = get_or_from_slice_get xs i x x e in
    let low : position_or_len p xs ≤ i = elim (below_or (position_or_len p xs) i) [
      | inl k ↦ absurd (not_true (p (get_or xs i x)) (prefix_len_passes (λ y. not (p y)) xs i x k) (ap p here ∙ h))
      | inr k ↦ k
    ] in
    let found : nat_lt (position_or_len p xs) (length xs) ≡ true = grind (arith, nat_tests) in
    (position_or_len p xs, ap (λ b. cond b (Some (position_or_len p xs)) None) found)

-- ---- scalars in the data

pub value_bytes-some : (k : Kind) → 0 < value_bytes k
value_bytes-some Char = omega arith
value_bytes-some Int = omega arith
value_bytes-some UInt = omega arith
value_bytes-some Pointer = omega arith

begins : (k : Kind) (a : ℕ) → is_of_value (Some (record { name = []; address = a; kind = k; stamp = None })) a ≡ true
begins Char a = grind (arith, nat_tests)
begins Int a = grind (arith, nat_tests)
begins UInt a = grind (arith, nat_tests)
begins Pointer a = grind (arith, nat_tests)

has_first : (o : Option Scalar) (x : Scalar) → o ≡ Some x → is_of_value o x.address ≡ true
has_first o x e = subst (λ p. is_of_value p x.address ≡ true) (sym e) (begins x.kind x.address)

within_first : (a : ℕ) → is_within (Some a) a ≡ true
within_first a = grind (arith, nat_tests)

has_first_stamp : (o : Option Scalar) (x : Scalar) (a : ℕ) → o ≡ Some x → x.stamp ≡ Some a → is_of_stamp o a ≡ true
has_first_stamp o x a e h =
    subst (λ p. is_of_stamp p a ≡ true) (sym e) (subst (λ p. is_within p a ≡ true) (sym h) (within_first a))

stands_at : (a b : ℕ) → (a == b) ≡ true → a ≡ b
stands_at a b h = grind (arith, nat_tests)

stands_here : (a : ℕ) → (a == a) ≡ true
stands_here a = grind (arith, nat_tests)

stamp_stands : (o : Option ℕ) (a : ℕ) → begins_at o a ≡ true → o ≡ Some a
stamp_stands None a h = cc
stamp_stands (Some b) a h = ap Some (stands_at b a h)

-- The scalar of a number found at an address stands there; each scalar is found where it stands.
pub value_number-stands : (scalars : List Scalar) (a s : ℕ) → value_number scalars a ≡ Some s
    → (x : Scalar) × (slice_get scalars s ≡ Some x) × (x.address ≡ a)
value_number-stands scalars a s e =
    let p = position-passes (λ (x : Scalar). x.address == a) scalars s e in
    (p.0, p.1, stands_at p.0.address a p.2)

pub value_number-found : (scalars : List Scalar) → AreInData scalars → (s : ℕ) (x : Scalar) → slice_get scalars s ≡ Some x
    → value_number scalars x.address ≡ Some s
value_number-found scalars d s x e =
    let f = position-finds (λ (y : Scalar). y.address == x.address) scalars s x e (stands_here x.address) in
    let w = value_number-stands scalars x.address f.0 f.1 in
    let there = subst (λ a. is_of_value (slice_get scalars f.0) a ≡ true) w.2 (has_first (slice_get scalars f.0) w.0 w.1) in
    let same : f.0 ≡ s = d.values f.0 s x.address there (has_first (slice_get scalars s) x e) in
    f.1 ∙ ap Some same

-- the same of stamps
pub stamp_number-stands : (scalars : List Scalar) (a s : ℕ) → stamp_number scalars a ≡ Some s
    → (x : Scalar) × (slice_get scalars s ≡ Some x) × (x.stamp ≡ Some a)
stamp_number-stands scalars a s e =
    let p = position-passes (λ (x : Scalar). begins_at x.stamp a) scalars s e in
    (p.0, p.1, stamp_stands p.0.stamp a p.2)

pub stamp_number-found : (scalars : List Scalar) → AreInData scalars → (s a : ℕ) (x : Scalar) → slice_get scalars s ≡ Some x
    → x.stamp ≡ Some a → stamp_number scalars a ≡ Some s
stamp_number-found scalars d s a x e h =
    let here : begins_at x.stamp a ≡ true = subst (λ o. begins_at o a ≡ true) (sym h) (stands_here a) in
    let f = position-finds (λ (y : Scalar). begins_at y.stamp a) scalars s x e here in
    let w = stamp_number-stands scalars a f.0 f.1 in
    let same : f.0 ≡ s =
    d.stamps f.0 s a (has_first_stamp (slice_get scalars f.0) w.0 a w.1 w.2)
    (has_first_stamp (slice_get scalars s) x a e h) in
    f.1 ∙ ap Some same

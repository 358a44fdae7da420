-- The data of a program at its start: scalars of its variables, then stamps. They share no byte, words stand at even addresses,
-- and the words of the image are theirs.
use Rattle.std.proofs.Common.{◌≡◌, ℕ, zero, suc, ◌+◌, ◌*◌, ◌/◌, ◌%◌, ◌<◌, ◌≤◌, refl, ap, ◌∙◌, arith, true, ◌⊎◌, inl, inr, List, [], ◌∷◌, ◌++◌, length, map, Option, Some, None}
use Rattle.std.specs.Prelude.{ℤ, pos, negsuc, slice_index}
use Rattle.base16.specs.Integer.{wrapped}
use Rattle.base16.specs.declared.image.Kind.{Kind}
use Rattle.base16.specs.declared.image.Kind.TheVariants as kind
use Rattle.c_values.specs.Objects.{wide}
use Rattle.c_values.specs.declared.value.Cell.{Cell as Scalar}
use Rattle.c_values.specs.declared.value.Value.{Value}
use Rattle.c_values.specs.declared.value.Value.TheVariants.{Int, Pointer, Null, Undefined}
use Rattle.core_layout.specs.Laws.{width, end_of, Rise}
use Rattle.core_tree.specs.Data.{stamp_address, stamps_start}
use Rattle.core_tree.specs.LawfulCore.{Every}
use Rattle.core_tree.specs.declared.program.Core.{Core}
use Rattle.core_tree.specs.declared.types.Slot.{Slot}
use Rattle.matching.specs.Laid.{slot_of, EndsBefore, AreApart, AreLaid, LiesIn, IsAligned}
use Rattle.matching.specs.Matches.{Placed, address_of, number_code, pointer_code, encoded, stamp_code}
use Rattle.matching.proofs.Lying.{each, each_append}
use Rattle.codegen.specs.declared.data.Datum.{Datum}
use Rattle.codegen.specs.Words.{scalar_data, object_data, stamp_data, code_or_zero, word_of, words_from}
use Rattle.codegen.proofs.Chart.{end, Distinct, AreDistinct, IsEven, IsSmall, size_by, word_small}

-- ---- lists

pub distinct_append : (xs ys : List Datum) → AreDistinct xs → AreDistinct ys → Every (λ x. Every (Distinct x) ys) xs
    → AreDistinct (xs ++ ys)
distinct_append [] ys h k c = k
distinct_append (x ∷ xs) ys h k c = (each_append (Distinct x) xs ys h.0 c.0, distinct_append xs ys h.1 k c.1)

-- ---- scalars

size_is : (k : Kind) → size_by (wide k) ≡ width k
size_is kind.Char = refl
size_is kind.Int = refl
size_is kind.UInt = refl
size_is kind.Pointer = refl

word_is : (k : Kind) → wide k ≡ true → width k ≡ 2
word_is kind.Char e = cc
word_is kind.Int e = refl
word_is kind.UInt e = refl
word_is kind.Pointer e = refl

module _ (alive : List Placed) where
  abbrev pub datum : (address : ℕ) → Scalar → Datum
  datum address c = record { address = address + c.offset; wide = wide c.kind; code = encoded alive c.kind c.value }

  -- what holds of each scalar holds of its datum
  of_scalars : (P : Datum → Type 0) (address : ℕ) (cs : List Scalar) → Every (λ c. P (datum address c)) cs
      → Every P (scalar_data alive address cs)
  of_scalars P address [] h = tt
  of_scalars P address (c ∷ cs) h = (h.0, of_scalars P address cs h.1)

  of_slots : (P : Slot → Type 0) (cs : List Scalar) → Every P (map slot_of cs) → Every (λ c. P (slot_of c)) cs
  of_slots P [] h = tt
  of_slots P (c ∷ cs) h = (h.0, of_slots P cs h.1)

  -- in one object
  in_order : (address : ℕ) (cs : List Scalar) → Rise (map slot_of cs) → AreDistinct (scalar_data alive address cs)
  in_order address [] h = tt
  in_order address (c ∷ cs) h = (
    of_scalars (Distinct (datum address c)) address cs
        (each (λ (d : Scalar). end_of (slot_of c) ≤ d.offset) (λ (d : Scalar). Distinct (datum address c) (datum address d)) cs
        (λ d l. let same = size_is c.kind in inl (omega arith))
        (of_slots (λ (s : Slot). end_of (slot_of c) ≤ s.offset) cs h.0)),
    in_order address cs h.1,
  )

  -- of two objects
  all_from : (address low : ℕ) (cs : List Scalar) → low ≤ address
      → Every (λ (d : Datum). low ≤ d.address) (scalar_data alive address cs)
  all_from address low [] l = tt
  all_from address low (c ∷ cs) l = (omega arith, all_from address low cs l)

  all_to : (address high : ℕ) (cs : List Scalar) → Every (λ s. address + end_of s ≤ high) (map slot_of cs)
      → Every (λ (d : Datum). end d ≤ high) (scalar_data alive address cs)
  all_to address high [] h = tt
  all_to address high (c ∷ cs) h =
      let same = size_is c.kind in let here = h.0 in (omega arith, all_to address high cs h.1)

pub below_above : (mid : ℕ) (xs ys : List Datum) → Every (λ (d : Datum). end d ≤ mid) xs
    → Every (λ (d : Datum). mid ≤ d.address) ys
    → Every (λ x. Every (Distinct x) ys) xs
below_above mid xs ys h k =
    each (λ (d : Datum). end d ≤ mid) (λ x. Every (Distinct x) ys) xs
    (λ x l. each (λ (d : Datum). mid ≤ d.address) (Distinct x) ys (λ y m. inl (omega arith)) k) h

above_below : (mid : ℕ) (xs ys : List Datum) → Every (λ (d : Datum). mid ≤ d.address) xs → Every (λ (d : Datum). end d ≤ mid) ys
    → Every (λ x. Every (Distinct x) ys) xs
above_below mid xs ys h k =
    each (λ (d : Datum). mid ≤ d.address) (λ x. Every (Distinct x) ys) xs
    (λ x l. each (λ (d : Datum). end d ≤ mid) (Distinct x) ys (λ y m. inr (omega arith)) k) h

module _ (alive : List Placed) where
  abbrev of_one : Placed → List Datum
  of_one p = scalar_data alive p.address p.object.cells

  two_objects : (p q : Placed) → AreApart p q → Every (λ x. Every (Distinct x) (of_one q)) (of_one p)
  two_objects p q a = from a.bytes
    where
      from : (EndsBefore q.address p) ⊎ (EndsBefore p.address q) → Every (λ x. Every (Distinct x) (of_one q)) (of_one p)
      from (inl h) = below_above q.address (of_one p) (of_one q) (all_to alive p.address q.address p.object.cells h)
          (all_from alive q.address q.address q.object.cells (omega arith))
      from (inr h) = above_below p.address (of_one p) (of_one q) (all_from alive p.address p.address p.object.cells (omega arith))
          (all_to alive q.address p.address q.object.cells h)

  -- each of some data is distinct from two lists, so from both together
  join : (xs ys zs : List Datum) → Every (λ x. Every (Distinct x) ys) xs → Every (λ x. Every (Distinct x) zs) xs
      → Every (λ x. Every (Distinct x) (ys ++ zs)) xs
  join [] ys zs h k = tt
  join (x ∷ xs) ys zs h k = (each_append (Distinct x) ys zs h.0 k.0, join xs ys zs h.1 k.1)

  none_behind : (xs : List Datum) → Every (λ x. Every (Distinct x) []) xs
  none_behind [] = tt
  none_behind (x ∷ xs) = (tt, none_behind xs)

  from_others : (p : Placed) (qs : List Placed) → Every (AreApart p) qs
      → Every (λ x. Every (Distinct x) (object_data alive qs)) (of_one p)
  from_others p [] h = none_behind (of_one p)
  from_others p (q ∷ qs) h =
      join (of_one p) (of_one q) (object_data alive qs) (two_objects p q h.0) (from_others p qs h.1)

  pub objects_distinct : (ps : List Placed) → AreLaid ps → AreDistinct (object_data alive ps)
  objects_distinct [] h = tt
  objects_distinct (p ∷ ps) h =
      distinct_append (of_one p) (object_data alive ps) (in_order alive p.address p.object.cells h.0) (objects_distinct ps h.2)
      (from_others p ps h.1)

  -- between two addresses
  pub objects_between : (low high : ℕ) (ps : List Placed) → Every (LiesIn low high) ps
      → Every (λ (d : Datum). low ≤ d.address) (object_data alive ps) × Every (λ (d : Datum). end d ≤ high) (object_data alive ps)
  objects_between low high [] h = (tt, tt)
  objects_between low high (p ∷ ps) h =
      let more = objects_between low high ps h.1 in (
        each_append (λ (d : Datum). low ≤ d.address) (of_one p) (object_data alive ps)
            (all_from alive p.address low p.object.cells h.0.from) more.0,
        each_append (λ (d : Datum). end d ≤ high) (of_one p) (object_data alive ps)
            (all_to alive p.address high p.object.cells h.0.to) more.1,
      )

  one_even : (p : Placed) → IsAligned p → Every IsEven (of_one p)
  one_even p h =
      of_scalars alive IsEven p.address p.object.cells
      (each (λ (c : Scalar). width (slot_of c).kind ≡ 2 → (p.address + (slot_of c).offset) % 2 ≡ 0)
      (λ (c : Scalar). wide c.kind ≡ true → (p.address + c.offset) % 2 ≡ 0) p.object.cells
      (λ c k w. k (word_is c.kind w))
      (of_slots alive (λ (s : Slot). width s.kind ≡ 2 → (p.address + s.offset) % 2 ≡ 0) p.object.cells h))

  pub objects_even : (ps : List Placed) → Every IsAligned ps → Every IsEven (object_data alive ps)
  objects_even [] h = tt
  objects_even (p ∷ ps) h = each_append IsEven (of_one p) (object_data alive ps) (one_even p h.0) (objects_even ps h.1)

  -- codes are words
  wrapped_small : (z : ℤ) → wrapped z < 65536
  wrapped_small (pos n) = omega arith
  wrapped_small (negsuc n) = omega arith

  number_small : (k : Kind) (z : ℤ) → number_code k z < 65536
  number_small kind.Char z = let l = wrapped_small z in omega arith
  number_small kind.Int z = wrapped_small z
  number_small kind.UInt z = wrapped_small z
  number_small kind.Pointer z = wrapped_small z

  code_small : (k : Kind) (v : Value) → code_or_zero (encoded alive k v) < 65536
  code_small k (Int z) = number_small k z
  code_small k (Pointer n o) = from (address_of alive n)
    where
      from : (a : Option ℕ) → code_or_zero (pointer_code a o) < 65536
      from None = omega arith
      from (Some a) = omega arith
  code_small k Null = omega arith
  code_small k Undefined = omega arith

  cells_small : (address : ℕ) (cs : List Scalar) → Every IsSmall (scalar_data alive address cs)
  cells_small address [] = tt
  cells_small address (c ∷ cs) = (code_small c.kind c.value, cells_small address cs)

  pub objects_small : (ps : List Placed) → Every IsSmall (object_data alive ps)
  objects_small [] = tt
  objects_small (p ∷ ps) =
      each_append IsSmall (of_one p) (object_data alive ps) (cells_small p.address p.object.cells) (objects_small ps)

-- ---- stamps

-- where no stamp is set yet
abbrev pub AreNone : List (Option ℕ) → Type 0
AreNone xs = Every (λ x. x ≡ None) xs

module _ (core : Core) where
  pub stamps_from : (n : ℕ) (xs : List (Option ℕ))
      → Every (λ (d : Datum). stamps_start core + 4 * n ≤ d.address) (stamp_data core n xs)
  unfolding stamp_address
  stamps_from n [] = tt
  stamps_from n (x ∷ xs) = (
    omega arith,
    (
      omega arith,
      each (λ (d : Datum). stamps_start core + 4 * (n + 1) ≤ d.address) (λ (d : Datum). stamps_start core + 4 * n ≤ d.address)
          (stamp_data core (n + 1) xs) (λ d l. omega arith) (stamps_from (n + 1) xs),
    ),
  )

  pub stamps_to : (n : ℕ) (xs : List (Option ℕ))
      → Every (λ (d : Datum). end d ≤ stamps_start core + 4 * (n + length xs)) (stamp_data core n xs)
  unfolding stamp_address
  stamps_to n [] = tt
  stamps_to n (x ∷ xs) =
      let long : length (x ∷ xs) ≡ suc (length xs) = refl in (
        omega arith,
        (
          omega arith,
          each (λ (d : Datum). end d ≤ stamps_start core + 4 * (n + 1 + length xs))
              (λ (d : Datum). end d ≤ stamps_start core + 4 * (n + length (x ∷ xs)))
              (stamp_data core (n + 1) xs) (λ d l. omega arith) (stamps_to (n + 1) xs),
        ),
      )

  pub stamps_distinct : (n : ℕ) (xs : List (Option ℕ)) → AreDistinct (stamp_data core n xs)
  unfolding stamp_address
  stamps_distinct n [] = tt
  stamps_distinct n (x ∷ xs) =
      let more = stamps_from (n + 1) xs in
      let rest : List Datum = stamp_data core (n + 1) xs in (
        (
          inl (omega arith),
          each (λ (d : Datum). stamps_start core + 4 * (n + 1) ≤ d.address)
              (Distinct (record { address = stamp_address core n; wide = true; code = Some (stamp_code x % 65536) })) rest
              (λ d l. inl (omega arith)) more,
        ),
        (
          each (λ (d : Datum). stamps_start core + 4 * (n + 1) ≤ d.address)
              (Distinct (record { address = stamp_address core n + 2; wide = true; code = Some (stamp_code x / 65536) })) rest
              (λ d l. inl (omega arith)) more,
          stamps_distinct (n + 1) xs,
        ),
      )

  pub stamps_even : stamps_start core % 2 ≡ 0 → (n : ℕ) (xs : List (Option ℕ)) → Every IsEven (stamp_data core n xs)
  unfolding stamp_address
  stamps_even even n [] = tt
  stamps_even even n (x ∷ xs) = ((λ w. omega arith), ((λ w. omega arith), stamps_even even (n + 1) xs))

  stamp_small : (x : Option ℕ) → x ≡ None → stamp_code x / 65536 < 65536
  stamp_small None e = omega arith
  stamp_small (Some ms) e = cc

  pub stamps_small : (n : ℕ) (xs : List (Option ℕ)) → AreNone xs → Every IsSmall (stamp_data core n xs)
  stamps_small n [] h = tt
  stamps_small n (x ∷ xs) h = (omega arith, (stamp_small x h.0, stamps_small (n + 1) xs h.1))

-- ---- words

pub word_at : (ds : List Datum) (a n k : ℕ) → k < n → slice_index (words_from ds a n) k ≡ word_of ds (a + 2 * k)
word_at ds a zero k l = absurd (omega arith)
word_at ds a (suc n) zero l = ap (word_of ds) (let z : a ≡ a + 2 * 0 = omega arith in z)
word_at ds a (suc n) (suc k) l =
    word_at ds (a + 2) n k (omega arith) ∙ ap (word_of ds) (let z : a + 2 + 2 * k ≡ a + 2 * suc k = omega arith in z)

pub words_wide : (ds : List Datum) → Every IsSmall ds → (a n k : ℕ) → slice_index (words_from ds a n) k < 65536
words_wide ds h a zero k = omega arith
words_wide ds h a (suc n) zero = word_small ds h a
words_wide ds h a (suc n) (suc k) = words_wide ds h (a + 2) n k

pub words_count : (ds : List Datum) (a n : ℕ) → length (words_from ds a n) ≡ n
words_count ds a zero = refl
words_count ds a (suc n) = ap suc (words_count ds (a + 2) n)

-- The walk from one logged word to the next: what lies between has not changed.
use Rattle.std.specs.Prelude.{◌≡◌, ◌⊎◌, ℕ, ◌+◌, ◌*◌, ◌-◌, ◌<◌, ◌≤◌, ◌%◌, ◌==◌, Bool, true, false, if◌then◌else◌, nat_eq, nat_le, List, [], ◌∷◌, ◌++◌, Option, Some, None, IfSome, slice_get, length, zero, suc, refl}
use Rattle.std.proofs.Common.{sym, ◌∙◌, ap, subst, inl, inr, arith, cond, append_assoc, add-one}
use Rattle.std.proofs.lemmas.Bool.Decides.{nat_tests}
use Rattle.std.proofs.lemmas.Option.{slice_get_within}
use Rattle.std.specs.Option.{option_eq}
use Rattle.base16.specs.Board.{data_end}
use Rattle.base16.specs.declared.image.Scalar.{Scalar}
use Rattle.board_map.specs.Map.{undo_address}
use Rattle.core430.specs.Bytes.{word_address}
use Rattle.ideal430.specs.Service.{stamp_at}
use Rattle.world.specs.History.{Display}
use Rattle.world.specs.declared.history.Shown.{Shown}
use Rattle.world.specs.declared.history.Shown.TheVariants.{Value, Stamp}
use Rattle.display.specs.Display.{display_of, value_in, value_if, stamp_if, stamp_of, LiesInData, AreInData, stamp_bytes}
use Rattle.display.specs.Log.{before, shown_before, IsEntered, NoneEntered, entries_from}
use Rattle.display.specs.Sets.{value_number, stamp_number, value_change, stamp_change, value_set, stamp_set, all_below}
use Rattle.display.proofs.Before.{put_back-unlogged}
use Rattle.display.proofs.Numbers.{value_number-stands, stamp_number-stands}

-- ---- lists one behind another

pub all_below-more : (f : ℕ → List Shown) (n : ℕ) → all_below f (n + 1) ≡ all_below f n ++ f n
unfolding all_below
all_below-more f n = rw add-one refl

pub all_below-quiet : (f : ℕ → List Shown) (n k : ℕ) → n ≤ k → ((a : ℕ) → n ≤ a → a < k → f a ≡ [])
    → all_below f k ≡ all_below f n
unfolding all_below
all_below-quiet f n zero l quiet = let e : n ≡ 0 = omega arith in ap (all_below f) (sym e)
all_below-quiet f n (suc k) l quiet = elim (at_or_below n k l) [
  | inl e ↦ ap (all_below f) (sym e)
  | inr below ↦
      ap (λ xs. all_below f k ++ xs) (quiet k below (omega arith)) ∙ append_nil (all_below f k)
      ∙ all_below-quiet f n k below (λ a low high. quiet a low (omega arith))
]
  where
    at_or_below : (n k : ℕ) → n ≤ suc k → (n ≡ suc k) ⊎ (n ≤ k)
    at_or_below n k l = grind arith

    append_nil : (xs : List Shown) → xs ++ [] ≡ xs
    append_nil [] = refl
    append_nil (x ∷ xs) = ap (λ ys. x ∷ ys) (append_nil xs)

-- ---- entries left

pub entries_from-few : (n : ℕ) (m : ℕ → ℕ) (low : ℕ) → entries_from n m low ≤ n
entries_from-few zero m low = omega arith
entries_from-few (suc n) m low = few (nat_le low (m (undo_address n))) (entries_from n m low) n (entries_from-few n m low)
  where
    few : (b : Bool) (k n : ℕ) → k ≤ n → k + cond b 1 0 ≤ suc n
    few true k n h = omega arith
    few false k n h = omega arith

entries_from-falls-weakly : (n : ℕ) (m : ℕ → ℕ) (low high : ℕ) → low ≤ high → entries_from n m high ≤ entries_from n m low
entries_from-falls-weakly zero m low high l = omega arith
entries_from-falls-weakly (suc n) m low high l =
    let k = entries_from-falls-weakly n m low high l in
    grind (arith, nat_tests)

falls : (m : ℕ → ℕ) (low high a n i : ℕ) → i < n → m (undo_address i) ≡ a → low ≤ a → a < high
    → entries_from n m high + 1 ≤ entries_from n m low
falls m low high a zero i l e h k = absurd (omega arith)
falls m low high a (suc n) i l e h k = elim (last_or_before i n l) [
  | inl s ↦
      let weak = entries_from-falls-weakly n m low high (omega (arith, h, k)) in
      let here : m (undo_address n) ≡ a = ap (λ j. m (undo_address j)) (sym s) ∙ e in
      grind (arith, nat_tests)
  | inr s ↦
      let rest = falls m low high a n i s e h k in
      grind (arith, nat_tests)
]
  where
    last_or_before : (i n : ℕ) → i < suc n → (i ≡ n) ⊎ (i < n)
    last_or_before i n l = grind arith

-- Behind an address with an entry there are fewer.
pub entries_from-falls : (n : ℕ) (m : ℕ → ℕ) (low high a : ℕ) → IsEntered n m low a → a < high
    → entries_from n m high + 1 ≤ entries_from n m low
entries_from-falls n m low high a h k = falls m low high a n h.index h.below h.address h.from k

-- ---- words without an entry

pub before-unlogged : (log : ℕ) (m : ℕ → ℕ) (low high b : ℕ) → NoneEntered log m low high → b % 2 ≡ 0 → low ≤ b → b < high
    → before log m b ≡ m b
before-unlogged log m low high b none even l h =
    put_back-unlogged (λ i. m (undo_address i)) (λ i. m (undo_address i + 2)) log m b
    (λ i k e. let past : high ≤ m (undo_address i) = none i k (omega (arith, e, l)) (ap (λ a. a % 2) e ∙ even) in
    absurd (omega (arith, past, e, h)))

same_is_nothing : {A : Type 0} (v w : ℕ) (x y : List A) → v ≡ w → (if v == w then x else y) ≡ x
same_is_nothing v w x y e = ap (λ b. cond b x y) (same_test v w e)
  where
    same_test : (v w : ℕ) → v ≡ w → (v == w) ≡ true
    same_test v w e = grind (arith, nat_tests)

option_itself : (o : Option ℕ) → option_eq nat_eq o o ≡ true
option_itself None = refl
option_itself (Some v) = itself v
  where
    itself : (v : ℕ) → nat_eq v v ≡ true
    itself v = grind (arith, nat_tests)

value_quiet : (scalars : List Scalar) (log : ℕ) (m : ℕ → ℕ) (a : ℕ) (o : Option ℕ)
    → before log m (word_address a) ≡ m (word_address a) → value_number scalars a ≡ o
    → value_change (shown_before scalars log m) (display_of scalars m) o ≡ []
value_quiet scalars log m a None h e = refl
value_quiet scalars log m a (Some s) h e =
    let w = value_number-stands scalars a s e in
    let d = shown_before scalars log m in
    let f = display_of scalars m in
    let there : before log m (word_address w.0.address) ≡ m (word_address w.0.address) =
    subst (λ b. before log m (word_address b) ≡ m (word_address b)) (sym w.2) h in
    let same : d.values s ≡ f.values s =
    ap (value_if (before log m)) w.1 ∙ ap (value_in w.0.kind w.0.address) there ∙ sym (ap (value_if m) w.1) in
    same_is_nothing (d.values s) (f.values s) [] (Value s (f.values s) ∷ []) same

-- No value in a word without an entry differs.
pub value_set-quiet : (scalars : List Scalar) (log : ℕ) (m : ℕ → ℕ) (done at a : ℕ) → done % 2 ≡ 0 → NoneEntered log m done at
    → done ≤ a → a < at → value_set scalars (shown_before scalars log m) (display_of scalars m) a ≡ []
value_set-quiet scalars log m done at a even none low high =
    value_quiet scalars log m a (value_number scalars a)
    (before-unlogged log m done at (word_address a) none (omega arith) (omega arith) (omega arith)) refl

values_between : (scalars : List Scalar) (log : ℕ) (m : ℕ → ℕ) (done at : ℕ) → done % 2 ≡ 0 → NoneEntered log m done at
    → done ≤ at → all_below (value_set scalars (shown_before scalars log m) (display_of scalars m)) at
    ≡ all_below (value_set scalars (shown_before scalars log m) (display_of scalars m)) done
values_between scalars log m done at even none l =
    all_below-quiet (value_set scalars (shown_before scalars log m) (display_of scalars m)) done at l
    (λ a low high. value_set-quiet scalars log m done at a even none low high)

-- ---- the walk

nothing_behind : (xs : List Shown) → xs ++ [] ≡ xs
nothing_behind [] = refl
nothing_behind (x ∷ xs) = ap (λ ys. x ∷ ys) (nothing_behind xs)

-- Before the walk nothing is shown.
pub walk-starts : (f : ℕ → List Shown) (xs : List Shown) → xs ≡ xs ++ all_below f 0
unfolding all_below
walk-starts f xs = sym (nothing_behind xs)

-- What is shown behind nothing more is the same.
pub shown-nothing : (xs ys : List Shown) → ys ≡ [] → xs ≡ xs ++ ys
shown-nothing xs ys e = sym (ap (λ zs. xs ++ zs) e ∙ nothing_behind xs)

-- At the end all is shown up to the end.
pub values-end : (scalars : List Scalar) (log : ℕ) (m : ℕ → ℕ) (done at : ℕ) (xs zs : List Shown) → done % 2 ≡ 0
    → NoneEntered log m done at → done ≤ at
    → zs ≡ xs ++ all_below (value_set scalars (shown_before scalars log m) (display_of scalars m)) done
    → zs ≡ xs ++ all_below (value_set scalars (shown_before scalars log m) (display_of scalars m)) at
values-end scalars log m done at xs zs even none l shown =
    shown ∙ ap (λ ys. xs ++ ys) (sym (values_between scalars log m done at even none l))

one_more : (f : ℕ → List Shown) (xs s t p : List Shown) (n : ℕ) → s ≡ xs ++ all_below f n → t ≡ s ++ p → p ≡ f n
    → t ≡ xs ++ all_below f (n + 1)
one_more f xs s t p n h k e =
    k ∙ ap (λ ys. ys ++ p) h ∙ append_assoc xs (all_below f n) p ∙ ap (λ ys. xs ++ (all_below f n ++ ys)) e
    ∙ ap (λ ys. xs ++ ys) (sym (all_below-more f n))

two_more : (f : ℕ → List Shown) (xs s t u p q : List Shown) (n : ℕ) → s ≡ xs ++ all_below f n → t ≡ s ++ p → p ≡ f n
    → u ≡ t ++ q → q ≡ f (n + 1) → u ≡ xs ++ all_below f (n + 2)
two_more f xs s t u p q n h k e l d =
    let next : n + 1 + 1 ≡ n + 2 = omega arith in
    one_more f xs t u q (n + 1) (one_more f xs s t p n h k e) l d ∙ ap (λ j. xs ++ all_below f j) next

found_number : (xs : List (Option ℕ)) (a : ℕ) (r n : Option ℕ) → slice_get xs a ≡ Some r → slice_get xs a ≡ Some n → r ≡ n
found_number xs a r n h k = cc

-- A turn shows the values of the next logged word, which are those that the index names.
pub values-turn : (scalars : List Scalar) (log : ℕ) (m : ℕ → ℕ) (done at : ℕ) (xs s t u : List Shown)
    (index : List (Option ℕ)) (r q : Option ℕ) → done % 2 ≡ 0 → NoneEntered log m done at → done ≤ at
    → at + 1 < data_end → ((a : ℕ) → a < data_end → slice_get index a ≡ Some (value_number scalars a))
    → s ≡ xs ++ all_below (value_set scalars (shown_before scalars log m) (display_of scalars m)) done
    → slice_get index at ≡ Some r → slice_get index (at + 1) ≡ Some q
    → t ≡ s ++ value_change (shown_before scalars log m) (display_of scalars m) r
    → u ≡ t ++ value_change (shown_before scalars log m) (display_of scalars m) q
    → u ≡ xs ++ all_below (value_set scalars (shown_before scalars log m) (display_of scalars m)) (at + 2)
values-turn scalars log m done at xs s t u index r q even none l below tells shown first second pushed again =
    let d = shown_before scalars log m in
    let e = display_of scalars m in
    two_more (value_set scalars d e) xs s t u (value_change d e r) (value_change d e q) at
    (values-end scalars log m done at xs s even none l shown) pushed
    (ap (value_change d e) (found_number index at r (value_number scalars at) first (tells at (omega arith)))) again
    (ap (value_change d e) (found_number index (at + 1) q (value_number scalars (at + 1)) second (tells (at + 1) below)))

-- ---- stamps

stamp_place : (scalars : List Scalar) → AreInData scalars → (a s : ℕ) → stamp_number scalars a ≡ Some s → LiesInData a stamp_bytes
stamp_place scalars placed a s e =
    let w = stamp_number-stands scalars a s e in
    subst (λ o. IfSome o (λ b. LiesInData b stamp_bytes)) w.2 (placed.placed s w.0 w.1).stamp

stamp_same : (scalars : List Scalar) (log : ℕ) (m : ℕ → ℕ) (a s : ℕ) → stamp_number scalars a ≡ Some s
    → before log m a ≡ m a → before log m (a + 2) ≡ m (a + 2)
    → stamp_change (shown_before scalars log m) (display_of scalars m) (Some s) ≡ []
stamp_same scalars log m a s e low high =
    let w = stamp_number-stands scalars a s e in
    let d = shown_before scalars log m in
    let f = display_of scalars m in
    let at : stamp_at (before log m) a ≡ stamp_at m a =
    ap (λ v. cond (nat_le 0x8000 (before log m (a + 2))) None (Some (v + 65536 * before log m (a + 2)))) low
    ∙ ap (λ v. cond (nat_le 0x8000 v) None (Some (m a + 65536 * v))) high in
    let same : d.stamps s ≡ f.stamps s =
    ap (stamp_if (before log m)) w.1 ∙ ap (stamp_of (before log m)) w.2 ∙ at
    ∙ sym (ap (stamp_of m) w.2) ∙ sym (ap (stamp_if m) w.1) in
    ap (λ o. cond (option_eq nat_eq o (f.stamps s)) [] (Stamp s (f.stamps s) ∷ [])) same
    ∙ ap (λ b. cond b [] (Stamp s (f.stamps s) ∷ [])) (option_itself (f.stamps s))

even_or_odd : (a : ℕ) → (a % 2 ≡ 0) ⊎ (a % 2 ≡ 1)
even_or_odd a = grind arith

stamp_quiet : (scalars : List Scalar) (log : ℕ) (m : ℕ → ℕ) (done at a : ℕ) (o : Option ℕ) → AreInData scalars
    → NoneEntered log m done at → done ≤ a → (a + stamp_bytes ≤ data_end → a + 2 < at) → stamp_number scalars a ≡ o
    → stamp_change (shown_before scalars log m) (display_of scalars m) o ≡ []
stamp_quiet scalars log m done at a None placed none low high e = refl
stamp_quiet scalars log m done at a (Some s) placed none low high e =
    let lies = stamp_place scalars placed a s e in
    let even : a % 2 ≡ 0 = lies.even (omega arith) in
    let k : a + 2 < at = high lies.high in
    let next : (a + 2) % 2 ≡ 0 = omega arith in
    stamp_same scalars log m a s e (before-unlogged log m done at a none even low (omega arith))
    (before-unlogged log m done at (a + 2) none next (omega arith) k)

-- No stamp with both its words without an entry differs.
stamps_between : (scalars : List Scalar) (log : ℕ) (m : ℕ → ℕ) (done at high : ℕ) → AreInData scalars
    → NoneEntered log m done at → done ≤ high → ((a : ℕ) → a < high → a + stamp_bytes ≤ data_end → a + 2 < at)
    → all_below (stamp_set scalars (shown_before scalars log m) (display_of scalars m)) high
    ≡ all_below (stamp_set scalars (shown_before scalars log m) (display_of scalars m)) done
stamps_between scalars log m done at high placed none l past =
    all_below-quiet (stamp_set scalars (shown_before scalars log m) (display_of scalars m)) done high l
    (λ a low below. stamp_quiet scalars log m done at a (stamp_number scalars a) placed none low (past a below) refl)

pub stamps-end : (scalars : List Scalar) (log : ℕ) (m : ℕ → ℕ) (done at : ℕ) (xs zs : List Shown) → AreInData scalars
    → NoneEntered log m done at → done ≤ at → data_end ≤ at
    → zs ≡ xs ++ all_below (stamp_set scalars (shown_before scalars log m) (display_of scalars m)) done
    → zs ≡ xs ++ all_below (stamp_set scalars (shown_before scalars log m) (display_of scalars m)) at
stamps-end scalars log m done at xs zs placed none l end shown =
    shown ∙ ap (λ ys. xs ++ ys) (sym (stamps_between scalars log m done at at placed none l (λ a k h. omega (arith, h, end))))

odd_quiet : (scalars : List Scalar) (d e : Display) (a : ℕ) (o : Option ℕ) → AreInData scalars → a % 2 ≡ 1
    → stamp_number scalars a ≡ o → stamp_change d e o ≡ []
odd_quiet scalars d e a None placed odd h = refl
odd_quiet scalars d e a (Some s) placed odd h =
    let lies = stamp_place scalars placed a s h in
    let even : a % 2 ≡ 0 = lies.even (omega arith) in
    absurd (omega (arith, even, odd))

-- one more stamp, and none at the odd address behind it
stamp_more : (scalars : List Scalar) (d e : Display) (xs s t : List Shown) (at : ℕ) (r : Option ℕ) → AreInData scalars
    → at % 2 ≡ 0 → r ≡ stamp_number scalars at → s ≡ xs ++ all_below (stamp_set scalars d e) at
    → t ≡ s ++ stamp_change d e r → t ≡ xs ++ all_below (stamp_set scalars d e) (at + 2)
stamp_more scalars d e xs s t at r placed even named shown pushed =
    two_more (stamp_set scalars d e) xs s t t (stamp_change d e r) [] at shown pushed (ap (stamp_change d e) named)
    (shown-nothing t [] refl)
    (sym (odd_quiet scalars d e (at + 1) (stamp_number scalars (at + 1)) placed (omega arith) refl))

-- A turn shows first the stamp whose second word is the next logged one, if it is not shown yet.
pub stamps-before : (scalars : List Scalar) (log : ℕ) (m : ℕ → ℕ) (done at : ℕ) (xs s t : List Shown)
    (index : List (Option ℕ)) (r : Option ℕ) → AreInData scalars → at % 2 ≡ 0 → NoneEntered log m done at → done + 2 ≤ at
    → at < data_end → ((a : ℕ) → a < data_end → slice_get index a ≡ Some (stamp_number scalars a))
    → s ≡ xs ++ all_below (stamp_set scalars (shown_before scalars log m) (display_of scalars m)) done
    → slice_get index (at - 2) ≡ Some r
    → t ≡ s ++ stamp_change (shown_before scalars log m) (display_of scalars m) r
    → t ≡ xs ++ all_below (stamp_set scalars (shown_before scalars log m) (display_of scalars m)) at
stamps-before scalars log m done at xs s t index r placed even none l below tells shown first pushed =
    let d = shown_before scalars log m in
    let e = display_of scalars m in
    let back : at - 2 + 2 ≡ at = omega arith in
    stamp_more scalars d e xs s t (at - 2) r placed (omega arith)
    (found_number index (at - 2) r (stamp_number scalars (at - 2)) first (tells (at - 2) (omega arith)))
    (shown ∙ ap (λ ys. xs ++ ys) (sym (stamps_between scalars log m done at (at - 2) placed none (omega arith)
    (λ a k h. omega (arith, k, l))))) pushed
    ∙ ap (λ j. xs ++ all_below (stamp_set scalars d e) j) back

-- Then it shows the one whose first word is the next logged one.
pub stamps-turn : (scalars : List Scalar) (d e : Display) (at : ℕ) (xs s t : List Shown) (index : List (Option ℕ))
    (r : Option ℕ) → AreInData scalars → at % 2 ≡ 0 → at < data_end
    → ((a : ℕ) → a < data_end → slice_get index a ≡ Some (stamp_number scalars a))
    → s ≡ xs ++ all_below (stamp_set scalars d e) at → slice_get index at ≡ Some r → t ≡ s ++ stamp_change d e r
    → t ≡ xs ++ all_below (stamp_set scalars d e) (at + 2)
stamps-turn scalars d e at xs s t index r placed even below tells shown first pushed =
    stamp_more scalars d e xs s t at r placed even
    (found_number index at r (stamp_number scalars at) first (tells at below)) shown pushed

-- ---- room

-- the index has a number for each address of the data
pub indexed : (index : List (Option ℕ)) (number : ℕ → Option ℕ) → ((a : ℕ) → a < data_end → slice_get index a ≡ Some (number a))
    → (a : ℕ) → a < data_end → a < length index
indexed index number tells a l = slice_get_within index a (number a) (tells a l)

-- A logged word leaves room for two changes more.
pub walk-room : (log : ℕ) (m : ℕ → ℕ) (done at count first capacity now : ℕ) → IsEntered log m done at
    → count + 2 * entries_from log m done ≤ first + 2 * log → first + 2 * log ≤ capacity → capacity ≤ now → count + 2 ≤ now
walk-room log m done at count first capacity now h left room kept =
    let less = entries_from-falls log m done (at + 2) at h (omega arith) in
    omega arith

-- It is one entry less that is left.
pub walk-left : (log : ℕ) (m : ℕ → ℕ) (done at count next bound : ℕ) → IsEntered log m done at
    → count + 2 * entries_from log m done ≤ bound → next ≤ count + 2 → next + 2 * entries_from log m (at + 2) ≤ bound
walk-left log m done at count next bound h left more =
    let less = entries_from-falls log m done (at + 2) at h (omega arith) in
    omega arith

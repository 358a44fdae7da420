-- Lines, fields and numbers, a step at a time.
use Rattle.std.proofs.Common.{◌≡◌, ℕ, ◌+◌, ◌-◌, ◌*◌, ◌<◌, ◌≤◌, ◌^◌, ◌==◌, Bool, true, false, cond, not, Some, None, List, [], ◌∷◌, length, take, drop, get_or, filter, min, All, subst, length-drop, position, nat_lt, refl, sym, ◌∙◌, ap, arith}
use Rattle.std.specs.List.{slice_split, position_or_len}
use Rattle.std.specs.Str.Lines.{lines, lines_of_parts, strip_carriage_return}
use Rattle.std.proofs.lemmas.List.Splits.{slice_split_first, slice_split_none, length-slice_split}
use Rattle.std.proofs.lemmas.List.Sums.{fold_more, prefix_len_passes}
use Rattle.std.proofs.lemmas.List.{take_all}
use borrow.Author.Tests.{ltb-true, ltb-false}
use Rattle.world.specs.Text.{fields, decimal, length-lines}

some_test : (b : Bool) (n k : ℕ) → cond b (Some n) None ≡ Some k → (b ≡ true) × (n ≡ k)
some_test true n k h = (refl, cc)
some_test false n k h = cc

none_test : (b : Bool) (n : ℕ) → cond b (Some n) None ≡ None → b ≡ false
none_test true n h = cc
none_test false n h = refl

-- the place that `position` finds is within the list, and is where the first part ends
pub place_found : (p : ℕ → Bool) (xs : List ℕ) (k : ℕ) → position p xs ≡ Some k → (position_or_len p xs ≡ k) × (k < length xs)
place_found p xs k h =
    let t = some_test (nat_lt (position_or_len p xs) (length xs)) (position_or_len p xs) k h in
    let lt : position_or_len p xs < length xs = ltb-true (position_or_len p xs) (length xs) t.0 in
    (t.1, omega (arith, lt, t.1))

pub place_none : (p : ℕ → Bool) (xs : List ℕ) → position p xs ≡ None → length xs ≤ position_or_len p xs
place_none p xs h = ltb-false (position_or_len p xs) (length xs) (none_test (nat_lt (position_or_len p xs) (length xs)) (position_or_len p xs) h)

pub split_found : (p : ℕ → Bool) (xs : List ℕ) (k : ℕ) → position p xs ≡ Some k → slice_split p xs ≡ take k xs ∷ slice_split p (take (length xs - (k + 1)) (drop (k + 1) xs))
split_found p xs k h =
    let f = place_found p xs k h in
    let lt : position_or_len p xs < length xs = omega (arith, f.0, f.1) in
    subst (λ (n : ℕ). slice_split p xs ≡ take n xs ∷ slice_split p (take (length xs - (n + 1)) (drop (n + 1) xs))) f.0
    (slice_split_first p xs 0 lt ∙ ap (λ (ys : List ℕ). take (position_or_len p xs) xs ∷ slice_split p ys)
    (sym (take_all (length xs - (position_or_len p xs + 1)) (drop (position_or_len p xs + 1) xs) (omega (arith, length-drop (position_or_len p xs + 1) xs)))))

fails_by_not : (b : Bool) → not b ≡ true → b ≡ false
fails_by_not true h = cc
fails_by_not false h = refl

all_fail : (p : ℕ → Bool) (xs : List ℕ) → length xs ≤ position_or_len p xs → All (λ x. p x ≡ false) xs
all_fail p xs h k d lt = fails_by_not (p (get_or xs k d)) (prefix_len_passes (λ x. not (p x)) xs k d (omega (arith, lt, h)))

pub split_none : (p : ℕ → Bool) (xs : List ℕ) → position p xs ≡ None → slice_split p xs ≡ xs ∷ []
split_none p xs h = slice_split_none p xs (all_fail p xs (place_none p xs h))

before_more : (x : List ℕ) (ps : List (List ℕ)) → 0 < length ps → lines_of_parts (x ∷ ps) ≡ strip_carriage_return x ∷ lines_of_parts ps
before_more x [] h = absurd (omega arith)
before_more x (p ∷ ps) h = refl

-- the first part of a text is its first line
pub lines_more : (xs x ys : List ℕ) → slice_split (λ b. b == 10) xs ≡ x ∷ slice_split (λ b. b == 10) ys → lines xs ≡ strip_carriage_return x ∷ lines ys
lines_more xs x ys h =
    let more : 0 < length (slice_split (λ b. b == 10) ys) = omega (arith, length-slice_split (λ b. b == 10) ys) in
    ap lines_of_parts h ∙ before_more x (slice_split (λ b. b == 10) ys) more

pub lines_last : (xs : List ℕ) → slice_split (λ b. b == 10) xs ≡ xs ∷ [] → lines xs ≡ cond (length xs == 0) [] (xs ∷ [])
lines_last xs h = ap lines_of_parts h

not_cond : {A : Type 0} (b : Bool) (x y : A) → cond (not b) x y ≡ cond b y x
not_cond true x y = refl
not_cond false x y = refl

-- the first part of a line is a field unless it is empty
pub fields_more : (xs x ys : List ℕ) → slice_split (λ b. b == 32) xs ≡ x ∷ slice_split (λ b. b == 32) ys → fields xs ≡ cond (length x == 0) (fields ys) (x ∷ fields ys)
fields_more xs x ys h = ap (filter (λ field. not (length field == 0))) h ∙ not_cond (length x == 0) (x ∷ fields ys) (fields ys)

pub fields_last : (xs : List ℕ) → slice_split (λ b. b == 32) xs ≡ xs ∷ [] → fields xs ≡ cond (length xs == 0) [] (xs ∷ [])
fields_last xs h = ap (filter (λ field. not (length field == 0))) h ∙ not_cond (length xs == 0) (xs ∷ []) []

-- one digit more
pub decimal_more : (xs : List ℕ) (i : ℕ) → i < length xs → decimal (take (i + 1) xs) ≡ 10 * decimal (take i xs) + (get_or xs i 0 - 48)
decimal_more xs i h = fold_more (λ n b. 10 * n + (b - 48)) 0 xs i 0 h

pub capped_more : (n m d most : ℕ) → n ≡ min m most → min (min (n * 10) most + d) most ≡ min (10 * m + d) most
capped_more n m d most h = grind arith

-- a text of fewer than 2^32 - 1 bytes has fewer than 2^32 lines
pub few_lines : (text : List ℕ) → length text < 2 ^ 32 - 1 → length (lines text) < 2 ^ 32
few_lines text h = omega (arith, length-lines text)

-- Steps of the loops that look for a comment's end, for a line marker's digit and for the greatest front.
use Rattle.std.proofs.Common.{◌≡◌, ℕ, zero, suc, ◌+◌, ◌-◌, ◌<◌, ◌≤◌, Bool, true, false, length, take, drop, get_or, Option, Some, None, refl, ap, sym, ◌∙◌, arith}
use Rattle.std.specs.Prelude.{option_map}
use Rattle.std.proofs.Math.Seq.{drop-cons}
use Rattle.std.proofs.lemmas.List.{drop_all}
use Rattle.c_lex.specs.Spelling.{Text}
use Rattle.c_lex.specs.Bytes.{is_digit, is_line_blank}
use Rattle.c_lex.specs.Pieces.{ends_here, close, digit_follows}
use Rattle.c_lex.specs.Measures.{greatest}
use Rattle.c_lex.proofs.Fronts.{close_here, close_later, close_nil, follows-cons, follows_nil}

-- so many bytes more
abbrev pub shifted : ℕ → Option ℕ → Option ℕ
shifted i o = option_map (λ n. i + n) o

shifted-suc : (i : ℕ) (o : Option ℕ) → shifted i (option_map suc o) ≡ shifted (i + 1) o
shifted-suc i None = refl
shifted-suc i (Some n) = ap Some (omega arith)

pub close_more : (xs : Text) (i d last : ℕ) → i < length xs → ends_here last (get_or xs i d) ≡ false
    → shifted i (close last (drop i xs)) ≡ shifted (i + 1) (close (get_or xs i d) (drop (i + 1) xs))
close_more xs i d last h e =
    let n : suc i ≡ i + 1 = omega arith in
    ap (λ t. shifted i (close last t)) (drop-cons xs i d h)
    ∙ (rw (
      close_later last (get_or xs i d) (drop (suc i) xs) e,
      shifted-suc i (close (get_or xs i d) (drop (suc i) xs)),
      n,
    ) refl)

pub close_stops : (xs : Text) (i d last : ℕ) → i < length xs → ends_here last (get_or xs i d) ≡ true
    → shifted i (close last (drop i xs)) ≡ Some (i + 1)
close_stops xs i d last h t =
    ap (λ t. shifted i (close last t)) (drop-cons xs i d h) ∙ (rw (close_here last (get_or xs i d) (drop (suc i) xs) t) refl)

pub close_ends : (xs : Text) (i last : ℕ) → length xs ≤ i → shifted i (close last (drop i xs)) ≡ None
close_ends xs i last h = rw (drop_all i xs h, close_nil last) refl

pub follows_more : (xs : Text) (i d : ℕ) → i < length xs → is_digit (get_or xs i d) ≡ false → is_line_blank (get_or xs i d) ≡ true
    → digit_follows (drop i xs) ≡ digit_follows (drop (i + 1) xs)
follows_more xs i d h e f =
    let n : suc i ≡ i + 1 = omega arith in
    ap digit_follows (drop-cons xs i d h) ∙ (rw (follows-cons (get_or xs i d) (drop (suc i) xs), e, f, n) refl)

pub follows_here : (xs : Text) (i d : ℕ) → i < length xs → is_digit (get_or xs i d) ≡ true → digit_follows (drop i xs) ≡ true
follows_here xs i d h e = ap digit_follows (drop-cons xs i d h) ∙ (rw (follows-cons (get_or xs i d) (drop (suc i) xs), e) refl)

pub follows_stops : (xs : Text) (i d : ℕ) → i < length xs → is_digit (get_or xs i d) ≡ false
    → is_line_blank (get_or xs i d) ≡ false → digit_follows (drop i xs) ≡ false
follows_stops xs i d h e f = ap digit_follows (drop-cons xs i d h)
    ∙ (rw (follows-cons (get_or xs i d) (drop (suc i) xs), e, f) refl)

pub follows_ends : (xs : Text) (i : ℕ) → length xs ≤ i → digit_follows (drop i xs) ≡ false
follows_ends xs i h = rw (drop_all i xs h) follows_nil

-- ---- the greatest front, from the greatest length down

pub greatest_here : (p : Text → Bool) (n : ℕ) (text : Text) → 0 < n → p (take n text) ≡ true → greatest p n text ≡ n
unfolding greatest
greatest_here p zero text h e = absurd (omega arith)
greatest_here p (suc n) text h e = rw e refl

below : (p : Text → Bool) (n : ℕ) (text : Text) → p (take (suc n) text) ≡ false → greatest p (suc n) text ≡ greatest p n text
unfolding greatest
below p n text e = rw e refl

pub greatest_below : (p : Text → Bool) (n : ℕ) (text : Text) → 0 < n → p (take n text) ≡ false
    → greatest p n text ≡ greatest p (n - 1) text
greatest_below p zero text h e = absurd (omega arith)
greatest_below p (suc n) text h e = let z : suc n - 1 ≡ n = omega arith in below p n text e ∙ ap (λ k. greatest p k text) (sym z)

pub greatest_none : (p : Text → Bool) (n : ℕ) (text : Text) → n ≡ 0 → greatest p n text ≡ n
unfolding greatest
greatest_none p zero text h = refl
greatest_none p (suc n) text h = absurd (omega arith)

-- The value of digits, cut at 65536, one digit on.
use Rattle.std.proofs.Common.{◌≡◌, ℕ, ◌+◌, ◌*◌, ◌<◌, ◌≤◌, ◌⊎◌, inl, inr, [], ◌∷◌, ◌++◌, length, take, get_or, min, refl, ap, ◌∙◌, arith}
use Rattle.std.proofs.lemmas.Bool.{cases_lt}
use Rattle.std.proofs.lemmas.List.{take_more}
use Rattle.std.proofs.lemmas.List.Sums.{fold-append}
use Rattle.std.proofs.Math.Nat.{mul-le-mul_left}
use Rattle.c_lex.specs.Spelling.{Text}
use Rattle.c_lex.specs.Bytes.{value, digit_value}

-- what is cut already stays cut
cut : (base n d : ℕ) → 2 ≤ base → (n < 65536) ⊎ (65536 ≤ n) → min (base * min n 65536 + d) 65536 ≡ min (base * n + d) 65536
cut base n d h (inl low) = let e : min n 65536 ≡ n = omega arith in rw e refl
cut base n d h (inr high) =
    let e : min n 65536 ≡ 65536 = omega arith in
    let g : base * 65536 ≤ base * n = mul-le-mul_left base high in
    rw e (omega arith)

value_push : (base : ℕ) (xs : Text) (x : ℕ) → value base (xs ++ x ∷ []) ≡ base * value base xs + digit_value x
value_push base xs x = fold-append (λ n b. base * n + digit_value b) 0 xs (x ∷ [])

pub value_more : (base : ℕ) (xs : Text) (i : ℕ) (d n : ℕ) → 2 ≤ base → i < length xs → n ≡ min (value base (take i xs)) 65536
    → min (value base (take (i + 1) xs)) 65536 ≡ min (base * n + digit_value (get_or xs i d)) 65536
value_more base xs i d n h w e =
    ap (λ t. min (value base t) 65536) (take_more xs i d w)
    ∙ (rw (
      value_push base (take i xs) (get_or xs i d),
      e,
      cut base (value base (take i xs)) (digit_value (get_or xs i d))
          h (cases_lt (value base (take i xs)) 65536),
    ) refl)

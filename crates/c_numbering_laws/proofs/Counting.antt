-- Numbers that count on, one part after another.
use Rattle.std.proofs.Common.{◌≡◌, ℕ, ◌+◌, List, [], ◌∷◌, ◌++◌, length, length-append, refl, subst, arith}
use Rattle.core_tree.specs.LawfulCore.{CountsFrom}
use Rattle.c_numbering_laws.specs.Counted.{Counts}

pub counts_none : (n : ℕ) → Counts n n []
counts_none n = record { counted = tt; length = omega arith }

counted_both : (n m : ℕ) (xs ys : List ℕ) → CountsFrom n xs → m ≡ n + length xs → CountsFrom m ys → CountsFrom n (xs ++ ys)
counted_both n m [] ys p at q = let e : m ≡ n = omega arith in subst (λ i. CountsFrom i ys) e q
counted_both n m (x ∷ xs) ys p at q = (p.0, counted_both (n + 1) m xs ys p.1 (omega arith) q)

pub counts_both : (n m l : ℕ) (xs ys : List ℕ) → Counts n m xs → Counts m l ys → Counts n l (xs ++ ys)
counts_both n m l xs ys p q = record {
  counted = counted_both n m xs ys p.counted p.length q.counted;
  length =
      let a : m ≡ n + length xs = p.length in
      let b : l ≡ m + length ys = q.length in
      let c : length (xs ++ ys) ≡ length xs + length ys = length-append xs ys in omega arith;
}

-- a node before its parts
pub counts_node : (n m : ℕ) (xs : List ℕ) → Counts (n + 1) m xs → Counts n m (n ∷ xs)
counts_node n m xs p = record {
  counted = (refl, p.counted);
  length = let a : m ≡ (n + 1) + length xs = p.length in omega arith;
}

pub counts_last : (n m : ℕ) (xs : List ℕ) → Counts n m xs → Counts n m (xs ++ [])
counts_last n m xs p = counts_both n m m xs [] p (counts_none m)

pub counts_three : (n m l o : ℕ) (xs ys zs : List ℕ) → Counts n m xs → Counts m l ys → Counts l o zs
    → Counts n o (xs ++ ys ++ zs)
counts_three n m l o xs ys zs p q r = counts_both n l o (xs ++ ys) zs (counts_both n m l xs ys p q) r

pub counts_four : (n m l o i : ℕ) (xs ys zs ws : List ℕ) → Counts n m xs → Counts m l ys → Counts l o zs → Counts o i ws
    → Counts n i (xs ++ ys ++ zs ++ ws)
counts_four n m l o i xs ys zs ws p q r s = counts_both n o i (xs ++ ys ++ zs) ws (counts_three n m l o xs ys zs p q r) s

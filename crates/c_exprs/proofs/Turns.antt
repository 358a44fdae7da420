-- Turns of the loops over arguments and sizes.
use Rattle.std.proofs.Common.{◌≡◌, ℕ, suc, ◌+◌, ◌<◌, ◌≤◌, List, [], ◌∷◌, ◌++◌, length, get_or, drop, Ok, Err, refl, sym, ap, ◌∙◌, arith, append_assoc, append-nil}
use Rattle.std.proofs.Math.Seq.{drop-cons}
use Rattle.std.proofs.lemmas.List.{drop_all}
use Rattle.c_tree.specs.declared.expression.Expr.{Expr as Source}
use Rattle.c_typing.specs.declared.fault.Fault.{Fault}
use Rattle.c_typing.specs.declared.operand.Operand.{Operand}
use Rattle.c_typing.specs.declared.environment.Env.{Env}
use Rattle.c_typing.specs.Outcome.{Outcome, ◌>>=◌}
use Rattle.c_typing.specs.Expressions.{means}
use Rattle.c_exprs.specs.Parts.{means_all, judged, judged_all, size, sizes}

next_is : {A : Type 0} (all : List A) (i : ℕ) (x : A) → i < length all → x ≡ get_or all i x → drop i all
    ≡ x ∷ drop (i + 1) all
next_is all i x h here =
    let n : suc i ≡ i + 1 = omega arith in
    drop-cons all i x h ∙ (ap (λ y. y ∷ drop (suc i) all) (sym here) ∙ ap (λ k. x ∷ drop k all) n)

-- what is found so far and what the rest gives
module _ {A : Type 0} where
  abbrev pub behind : List A → Outcome (List A) → Outcome (List A)
  behind found rest = rest >>= λ xs. Ok (found ++ xs)

  longer : (found : List A) (a : Outcome A) (rest : Outcome (List A)) (x : A) → a ≡ Ok x
      → behind found (a >>= λ b. rest >>= λ more. Ok (b ∷ more)) ≡ behind (found ++ x ∷ []) rest
  longer found a (Err f) x is = rw is refl
  longer found a (Ok xs) x is =
      rw is (let e : found ++ (x ∷ xs)
      ≡ (found ++ x ∷ []) ++ xs = simp append_assoc in ap (λ ys. let o : Outcome (List A) = Ok ys in o) e)

  broken_off : (found : List A) (a : Outcome A) (rest : Outcome (List A)) (f : Fault) → a ≡ Err f
      → behind found (a >>= λ b. rest >>= λ more. Ok (b ∷ more)) ≡ Err f
  broken_off found a rest f is = rw is refl

  nothing_left : (found : List A) → behind found (Ok []) ≡ Ok found
  nothing_left found = let e : found ++ []
      ≡ found = append-nil found in ap (λ ys. let o : Outcome (List A) = Ok ys in o) e

module _ (env : Env) where
  pub arguments_turn : (found : List Operand) (all : List Source) (i : ℕ) (a : Source) (x : Operand)
      → i < length all → a ≡ get_or all i a → means env a ≡ Ok x
      → behind found (means_all env (drop i all))
      ≡ behind (found ++ x ∷ []) (means_all env (drop (i + 1) all))
  arguments_turn found all i a x h here is =
      rw (next_is all i a h here) (longer found (means env a) (means_all env (drop (i + 1) all)) x is)

  pub arguments_break : (found : List Operand) (all : List Source) (i : ℕ) (a : Source) (f : Fault)
      → i < length all → a ≡ get_or all i a → means env a ≡ Err f
      → behind found (means_all env (drop i all)) ≡ Err f
  arguments_break found all i a f h here is =
      rw (next_is all i a h here) (broken_off found (means env a) (means_all env (drop (i + 1) all)) f is)

  pub arguments_end : (found : List Operand) (all : List Source) (i : ℕ)
      → length all ≤ i → behind found (means_all env (drop i all)) ≡ Ok found
  arguments_end found all i h = rw (drop_all i all h) (nothing_left found)

  pub bounds_turn : (found : List Operand) (all : List Source) (i : ℕ) (a : Source) (x : Operand)
      → i < length all → a ≡ get_or all i a → judged env a ≡ Ok x
      → behind found (judged_all env (drop i all))
      ≡ behind (found ++ x ∷ []) (judged_all env (drop (i + 1) all))
  bounds_turn found all i a x h here is =
      rw (next_is all i a h here) (longer found (judged env a) (judged_all env (drop (i + 1) all)) x is)

  pub bounds_break : (found : List Operand) (all : List Source) (i : ℕ) (a : Source) (f : Fault)
      → i < length all → a ≡ get_or all i a → judged env a ≡ Err f
      → behind found (judged_all env (drop i all)) ≡ Err f
  bounds_break found all i a f h here is =
      rw (next_is all i a h here) (broken_off found (judged env a) (judged_all env (drop (i + 1) all)) f is)

  pub bounds_end : (found : List Operand) (all : List Source) (i : ℕ)
      → length all ≤ i → behind found (judged_all env (drop i all)) ≡ Ok found
  bounds_end found all i h = rw (drop_all i all h) (nothing_left found)

  pub sizes_turn : (found : List ℕ) (all : List Source) (i : ℕ) (a : Source) (n : ℕ)
      → i < length all → a ≡ get_or all i a → size env a ≡ Ok n
      → behind found (sizes env (drop i all)) ≡ behind (found ++ n ∷ []) (sizes env (drop (i + 1) all))
  sizes_turn found all i a n h here is =
      rw (next_is all i a h here) (longer found (size env a) (sizes env (drop (i + 1) all)) n is)

  pub sizes_break : (found : List ℕ) (all : List Source) (i : ℕ) (a : Source) (f : Fault)
      → i < length all → a ≡ get_or all i a → size env a ≡ Err f
      → behind found (sizes env (drop i all)) ≡ Err f
  sizes_break found all i a f h here is =
      rw (next_is all i a h here) (broken_off found (size env a) (sizes env (drop (i + 1) all)) f is)

  pub sizes_end : (found : List ℕ) (all : List Source) (i : ℕ)
      → length all ≤ i → behind found (sizes env (drop i all)) ≡ Ok found
  sizes_end found all i h = rw (drop_all i all h) (nothing_left found)

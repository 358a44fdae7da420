-- Lists that others begin with, and what a name stands for among names.
use Rattle.std.proofs.Common.{append_assoc, append-nil, bytes_eq, ◌≡◌, ℕ, zero, suc, ◌+◌, ◌≤◌, Bool, true, false, cond, fold, List, [], ◌∷◌, ◌++◌, take, length, length-append, slice_get, Option, Some, None, refl, sym, ap, ◌∙◌, rules, arith}
use Rattle.std.proofs.Math.Seq.{take-append_seam}
use Rattle.std.proofs.lemmas.Slice.Eq.{bytes_eq-Decides}
use Rattle.std.proofs.lemmas.List.Sums.{fold-append}
use Rattle.core_tree.specs.LawfulCore.{Every}
use Rattle.c_typing.specs.declared.environment.Named.{Named}
use Rattle.c_typing.specs.declared.environment.What.{What}
use Rattle.c_typing.specs.Scopes.{lookup}
use Rattle.c_checking_laws.specs.Standing.{Begins}

-- ---- one list begins with another

module _ {A : Type 0} where
  pub begins_itself : (xs : List A) → Begins xs xs
  begins_itself xs = ([], sym (append-nil xs))

  pub begins_more : (xs ys : List A) → Begins xs (xs ++ ys)
  begins_more xs ys = (ys, refl)

  pub begins_on : (xs ys zs : List A) → Begins xs ys → Begins ys zs → Begins xs zs
  begins_on xs ys zs p q = (p.0 ++ q.0, q.1 ∙ ap (λ l. l ++ q.0) p.1 ∙ append_assoc xs p.0 q.0)

  pub begins_at : (xs ys zs : List A) → ys ≡ zs → Begins xs ys → Begins xs zs
  begins_at xs ys zs e p = (p.0, sym e ∙ p.1)

  get_in_more : (xs ys : List A) (n : ℕ) (x : A) → slice_get xs n ≡ Some x → slice_get (xs ++ ys) n ≡ Some x
  get_in_more [] ys n x is = absurd (search rules)
  get_in_more (z ∷ zs) ys zero x is = is
  get_in_more (z ∷ zs) ys (suc n) x is = get_in_more zs ys n x is

  pub get_in : (xs ys : List A) (n : ℕ) (x : A) → Begins xs ys → slice_get xs n ≡ Some x → slice_get ys n ≡ Some x
  get_in xs ys n x p is = rw p.1 (get_in_more xs p.0 n x is)

  pub get_last : (xs : List A) (x : A) → slice_get (xs ++ x ∷ []) (length xs) ≡ Some x
  get_last [] x = refl
  get_last (z ∷ zs) x = get_last zs x

  pub length_begins : (xs ys : List A) → Begins xs ys → length xs ≤ length ys
  length_begins xs ys p = let e : length ys ≡ length xs + length p.0 = ap length p.1 ∙ length-append xs p.0 in omega arith

  pub take_begins : (xs ys : List A) → Begins xs ys → take (length xs) ys ≡ xs
  take_begins xs ys p = rw p.1 (take-append_seam xs p.0)

  -- ---- each one

  module _ (P : A → Type 0) where
    pub every_more : (xs ys : List A) → Every P xs → Every P ys → Every P (xs ++ ys)
    every_more [] ys p q = q
    every_more (x ∷ xs) ys p q = (p.0, every_more xs ys p.1 q)

    pub every_first : (xs ys : List A) → Every P (xs ++ ys) → Every P xs
    every_first [] ys p = tt
    every_first (x ∷ xs) ys p = (p.0, every_first xs ys p.1)

    pub every_rest : (xs ys : List A) → Every P (xs ++ ys) → Every P ys
    every_rest [] ys p = p
    every_rest (x ∷ xs) ys p = every_rest xs ys p.1

    pub every_begins : (xs ys : List A) → Begins xs ys → Every P ys → Every P xs
    every_begins xs ys b p = every_first xs b.0 (rw b.1 at p)

    pub every_at : (xs : List A) (n : ℕ) (x : A) → Every P xs → slice_get xs n ≡ Some x → P x
    every_at [] n x p is = absurd (search rules)
    every_at (y ∷ ys) zero x p is = let e : y ≡ x = cc in rw (← e) p.0
    every_at (y ∷ ys) (suc n) x p is = every_at ys n x p.1 is

  pub every_map : (P Q : A → Type 0) (xs : List A) → ((x : A) → P x → Q x) → Every P xs → Every Q xs
  every_map P Q [] f p = tt
  every_map P Q (x ∷ xs) f p = (f x p.0, every_map P Q xs f p.1)

-- ---- the innermost declaration of a name

abbrev step : List ℕ → Option What → Named → Option What
step name = λ found d. cond (bytes_eq d.name name) (Some d.what) found

pub lookup-last : (names : List Named) (d : Named) (name : List ℕ)
    → lookup (names ++ d ∷ []) name ≡ cond (bytes_eq d.name name) (Some d.what) (lookup names name)
lookup-last names d name = fold-append (step name) None names (d ∷ [])

module _ (P : List ℕ → What → Type 0) (name : List ℕ) where
  abbrev HoldsFor : Option What → Type 0
  HoldsFor found = (what : What) → found ≡ Some what → P name what

  found_by : (d : Named) (found : Option What) (b : Bool) → bytes_eq d.name name ≡ b → P d.name d.what → HoldsFor found
      → HoldsFor (cond b (Some d.what) found)
  found_by d found true same p so what is =
      let e : d.name ≡ name = (bytes_eq-Decides d.name name).0 same in
      let f : d.what ≡ what = cc in rw (← e, ← f) p
  found_by d found false same p so what is = so what is

  found_in : (names : List Named) (found : Option What) → Every (λ (d : Named). P d.name d.what) names → HoldsFor found
      → HoldsFor (fold (step name) found names)
  found_in [] found all so = so
  found_in (d ∷ ds) found all so =
      found_in ds (step name found d) all.1 (found_by d found (bytes_eq d.name name) refl all.0 so)

  -- what is so of each declaration is so of what a name stands for
  pub looked_up : (names : List Named) (what : What) → Every (λ (d : Named). P d.name d.what) names
      → lookup names name ≡ Some what → P name what
  looked_up names what all is = found_in names None all (λ w e. absurd (search rules)) what is

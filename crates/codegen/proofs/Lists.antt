-- Lists and options.
use Rattle.std.proofs.Common.{◌≡◌, ℕ, ◌<◌, ◌≤◌, arith, ◌⊎◌, inl, inr, List, [], ◌∷◌, ◌++◌, length, Some, None}
use Rattle.std.proofs.lemmas.Option.{slice_get_cases}
use Rattle.std.specs.Prelude.{slice_get, get_or}
use Rattle.core_tree.specs.LawfulCore.{Every}

pub same_some : {A : Type 0} (x y : A) → Some x ≡ Some y → x ≡ y
same_some x y e = cc

pub none_some : {A : Type 0} (x : A) → None ≡ Some x → ⊥
none_some x e = cc

pub some_none : {A : Type 0} (x : A) → Some x ≡ None → ⊥
some_none x e = cc

pub some_at : {A : Type 0} (xs : List A) (n : ℕ) → n < length xs → (x : A) × (slice_get xs n ≡ Some x)
some_at {A = A} xs n l = from (slice_get_cases xs n).1
  where
    from : ((x : A) × (n < length xs) × (slice_get xs n ≡ Some x) × (get_or xs n x ≡ x))
        ⊎ ((length xs ≤ n) × (slice_get xs n ≡ None))
        → (x : A) × (slice_get xs n ≡ Some x)
    from (inl h) = (h.0, h.2)
    from (inr h) = let past = h.0 in absurd (omega arith)

pub every_split : {A : Type 0} (P : A → Type 0) (xs ys : List A) → Every P (xs ++ ys) → Every P xs × Every P ys
every_split P [] ys h = (tt, h)
every_split P (x ∷ xs) ys h = let more = every_split P xs ys h.1 in ((h.0, more.0), more.1)

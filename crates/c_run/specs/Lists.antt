-- Lists of which one element is changed, or the last is taken away.
use Rattle.std.specs.Prelude.{ℕ, zero, suc, List, [], ◌∷◌}

-- a list in which f is applied to what stands at a place
abbrev pub changed_at : {A : Type 0} → (A → A) → ℕ → List A → List A
changed_at f i [] = []
changed_at f zero (x ∷ xs) = f x ∷ xs
changed_at f (suc i) (x ∷ xs) = x ∷ changed_at f i xs

abbrev pub without_last : {A : Type 0} → List A → List A
without_last [] = []
without_last (x ∷ []) = []
without_last (x ∷ (y ∷ ys)) = x ∷ without_last (y ∷ ys)

-- One frame more, in the order in which frames are placed.
use Rattle.std.proofs.Common.{◌≡◌, ◌++◌, List, [], ◌∷◌, ℕ, Option, Some, None, refl, sym, ap, ◌∙◌, append_assoc}
use Rattle.base16.specs.Placement.{frame_below, placed_from, or_else_none}

-- the places before these frames, and theirs
abbrev pub placed_behind : List ℕ → Option (List ℕ) → Option (List ℕ)
placed_behind done rest = or_else_none rest (λ more. Some (done ++ more))

behind_one : (done : List ℕ) (at : ℕ) (rest : Option (List ℕ))
    → placed_behind done (or_else_none rest (λ more. Some (at ∷ more))) ≡ placed_behind (done ++ at ∷ []) rest
behind_one done at None = refl
behind_one done at (Some more) = ap Some (sym (append_assoc done (at ∷ []) more))

pub place_turn : (done : List ℕ) (sp bytes at : ℕ) (more : List ℕ) → frame_below sp bytes ≡ Some at
    → placed_behind done (placed_from sp (bytes ∷ more)) ≡ placed_behind (done ++ at ∷ []) (placed_from at more)
place_turn done sp bytes at more is =
    ap (λ f. placed_behind done (or_else_none f (λ a. or_else_none (placed_from a more) (λ rest. Some (a ∷ rest))))) is
    ∙ behind_one done at (placed_from at more)

pub place_none : (done : List ℕ) (sp bytes : ℕ) (more : List ℕ) → frame_below sp bytes ≡ None
    → placed_behind done (placed_from sp (bytes ∷ more)) ≡ None
place_none done sp bytes more is =
    ap (λ f. placed_behind done (or_else_none f (λ a. or_else_none (placed_from a more) (λ rest. Some (a ∷ rest))))) is

pub place_all : (done : List ℕ) (sp : ℕ) → placed_behind done (placed_from sp []) ≡ Some done
place_all [] sp = refl
place_all (x ∷ done) sp = ap (λ f. or_else_none f (λ more. Some (x ∷ more))) (place_all done sp)

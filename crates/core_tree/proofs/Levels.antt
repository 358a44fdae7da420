-- Levels are put around a type one by one, from the inside.
use Rattle.std.proofs.Common.{◌≡◌, ◌<◌, List, [], ◌∷◌, ◌++◌, length, ap, refl, arith, length-append}
use Rattle.core_tree.specs.declared.types.Ty.{Ty}
use Rattle.core_tree.specs.declared.whole_types.Level.{Level}
use Rattle.core_tree.specs.Types.{around, wrapped_in}

pub wrapped_last : (ls : List Level) (l : Level) (t : Ty) → wrapped_in (ls ++ l ∷ []) t ≡ wrapped_in ls (around l t)
wrapped_last [] l t = refl
wrapped_last (k ∷ ls) l t = ap (around k) (wrapped_last ls l t)

-- the levels that are left when the last one is taken
pub wrapped_turn : (all ls : List Level) (l : Level) (t u made whole : Ty) → all ≡ ls ++ l ∷ [] → wrapped_in all t ≡ whole
    → made ≡ around l t → wrapped_in ls made ≡ whole
wrapped_turn all ls l t u made whole e w m = rw m (let h = wrapped_last ls l t in cc)

pub fewer_levels : (all ls : List Level) (l : Level) → all ≡ ls ++ l ∷ [] → length ls < length all
fewer_levels all ls l e = rw e (omega (arith, length-append ls (l ∷ [])))

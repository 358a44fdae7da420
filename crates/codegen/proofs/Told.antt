-- The functions of an image are told as they stand.
use Rattle.std.proofs.Common.{◌≡◌, ℕ, zero, suc, ◌+◌, ◌<◌, List, [], ◌∷◌, length, get_or, drop, refl, arith, add-one}
use Rattle.core_tree.specs.declared.program.Core.{Core}
use Rattle.core_tree.specs.declared.program.Function.{Function}
use Rattle.codegen.specs.Symbols.{symbol, symbols}

-- at the place of a walk the next function is told, then the others
turn : (core : Core) (starts : List ℕ) (fs : List Function) (i n d : ℕ) (f : Function) → i < length fs → length starts ≡ length fs
    → symbols core n (drop i starts) (drop i fs)
    ≡ symbol core n (get_or fs i f).name (get_or starts i d) ∷ symbols core (suc n) (drop (suc i) starts) (drop (suc i) fs)
turn core starts [] i n d f h e = absurd (omega arith)
turn core [] (x ∷ xs) i n d f h e = absurd (omega arith)
turn core (s ∷ ss) (x ∷ xs) zero n d f h e = refl
turn core (s ∷ ss) (x ∷ xs) (suc i) n d f h e = turn core ss xs i n d f (omega arith) (omega arith)

pub symbols_turn : (core : Core) (starts : List ℕ) (fs : List Function) (i d : ℕ) (f : Function) → i < length fs
    → length starts ≡ length fs
    → symbols core i (drop i starts) (drop i fs)
    ≡ symbol core i (get_or fs i f).name (get_or starts i d) ∷ symbols core (i + 1) (drop (i + 1) starts) (drop (i + 1) fs)
symbols_turn core starts fs i d f h e = rw (add-one) (turn core starts fs i i d f h e)

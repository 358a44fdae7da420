-- The functions of a program as an image tells them.
use Rattle.std.specs.Prelude.{ℕ, suc, ◌+◌, ◌*◌, ◌%◌, List, [], ◌∷◌}
use Rattle.base16.specs.declared.image.FuncSym.{FuncSym}
use Rattle.core_tree.specs.Heights.{told_frame}
use Rattle.core_tree.specs.declared.program.Core.{Core}
use Rattle.core_tree.specs.declared.program.Function.{Function}

-- one that begins behind so many words of code, with its address and frame modulo 2^16
abbrev pub symbol : Core → ℕ → List ℕ → (start : ℕ) → FuncSym
symbol core n name start =
    record { name = name; address = (0x8000 + 2 * start) % 65536; frame = told_frame core n % 65536 }

-- those from a number on
abbrev pub symbols : Core → ℕ → (starts : List ℕ) → List Function → List FuncSym
symbols core n starts [] = []
symbols core n [] (x ∷ xs) = []
symbols core n (start ∷ starts) (x ∷ xs) = symbol core n x.name start ∷ symbols core (suc n) starts xs

-- From a list of words in memory to instructions that stand there.
use Rattle.std.proofs.Common.{◌≡◌, ℕ, ◌+◌, ◌*◌, ◌%◌, ◌<◌, ◌≤◌, ◌∙◌, subst, arith, List, [], ◌∷◌, ◌++◌, length, length-append}
use Rattle.std.proofs.lemmas.Bool.{and_parts}
use Rattle.std.specs.Prelude.{IsTrue}
use Rattle.isa430.specs.declared.instr.Instr.{Instr}
use Rattle.isa430.specs.Table.{size_of, code_of, valid, WordsAt}
use Rattle.isa430.proofs.Formats.{code_size}
use Rattle.run430.specs.Code.{Agrees, Placed, words_of_code, are_valid}

pub WordsAt-front : (m : ℕ → ℕ) (xs ys : List ℕ) (a : ℕ) → WordsAt m a (xs ++ ys) → WordsAt m a xs
WordsAt-front m [] ys a h = tt
WordsAt-front m (x ∷ xs) ys a h = (h.0, WordsAt-front m xs ys (a + 2) h.1)

pub WordsAt-back : (m : ℕ → ℕ) (xs ys : List ℕ) (a : ℕ) → WordsAt m a (xs ++ ys) → WordsAt m (a + 2 * length xs) ys
WordsAt-back m [] ys a h = let e : a ≡ a + 0 = omega arith in subst (λ (k : ℕ). WordsAt m k ys) e h
WordsAt-back m (x ∷ xs) ys a h = let e : a + 2 + 2 * length xs ≡ a + 2 * length (x ∷ xs) = omega arith in subst (λ (k : ℕ). WordsAt m k ys) e (WordsAt-back m xs ys (a + 2) h.1)

-- words stand in every memory that agrees on their range
pub words_agree : (m c : ℕ → ℕ) (lo hi : ℕ) → Agrees c lo hi m → (ws : List ℕ) (a : ℕ) → lo ≤ a → a + 2 * length ws ≤ hi → WordsAt c a ws → WordsAt m a ws
words_agree m c lo hi g [] a l h w = tt
words_agree m c lo hi g (x ∷ ws) a l h w = (g.at a l (omega arith) ∙ w.0, words_agree m c lo hi g ws (a + 2) (omega arith) (omega arith) w.1)

-- the instructions stand where their words do
pub places : (c : ℕ → ℕ) (lo hi : ℕ) → hi < 65280 → (is : List Instr) (pc : ℕ) → WordsAt c pc (words_of_code is) → IsTrue (are_valid is) → pc % 2 ≡ 0 → lo ≤ pc → pc + 2 * length (words_of_code is) ≤ hi → Placed c lo hi pc is
places c lo hi top [] pc w v e l h = tt
places c lo hi top (i ∷ is) pc w v e l h =
    let n = length-append (code_of i) (words_of_code is) in
    let size : 2 * length (code_of i) ≡ size_of i = code_size i in
    let parts = and_parts (valid i) (are_valid is) v in
    let next : pc + 2 * length (code_of i) ≡ pc + size_of i = omega arith in (
      record { words = WordsAt-front c (code_of i) (words_of_code is) pc w; even = e; low = l; high = omega arith; top = top; is_valid = parts.0 },
      places c lo hi top is (pc + size_of i) (subst (λ (x : ℕ). WordsAt c x (words_of_code is)) next (WordsAt-back c (code_of i) (words_of_code is) pc w)) parts.1 (omega arith) (omega arith) (omega arith),
    )

-- the same code at an address that is equal
pub moved : (c : ℕ → ℕ) (lo hi pc pc2 : ℕ) (is : List Instr) → pc ≡ pc2 → Placed c lo hi pc is → Placed c lo hi pc2 is
moved c lo hi pc pc2 is e p = subst (λ (k : ℕ). Placed c lo hi k is) e p

-- Where functions begin among the numbers of the nodes.
use Rattle.std.proofs.Common.{◌≡◌, ℕ, zero, suc, ◌+◌, ◌≤◌, List, [], ◌∷◌, map, length, get_or, slice_get, Some, ap, arith, rules}
use Rattle.core_tree.specs.declared.program.Function.{Function}
use Rattle.core_tree.specs.declared.program.Global.{Global}
use Rattle.core_tree.specs.LawfulCore.{rises}
use Rattle.core_tree.specs.Numbers.{stmt_numbers, function_numbers}
use Rattle.core_tree.specs.Reaching.{joined}
use Rattle.c_checking.specs.Numbering.{each, stmt_numbered, function_numbered, global_numbered}
use Rattle.c_numbering_laws.specs.Counted.{Counts}
use Rattle.c_numbering_laws.proofs.Counting.{counts_none, counts_both, counts_node}
use Rattle.c_numbering_laws.proofs.StmtNumbers.{stmts_count}

-- functions numbered from a number on, and the next number
abbrev pub laid : List Function → ℕ → List Function × ℕ
laid fs m = each (map function_numbered fs) m

pub function_counts : (f : Function) (m : ℕ) → Counts m (function_numbered f m).1 (function_numbers (function_numbered f m).0)
function_counts f m =
    counts_node m (function_numbered f m).1 (joined (map stmt_numbers (each (map stmt_numbered f.body) (m + 1)).0))
    (stmts_count f.body (m + 1))

pub functions_count : (fs : List Function) (m : ℕ) → Counts m (laid fs m).1 (joined (map function_numbers (laid fs m).0))
functions_count [] m = counts_none m
functions_count (f ∷ fs) m =
    let o = (function_numbered f m).1 in
    counts_both m o (laid fs o).1 (function_numbers (function_numbered f m).0) (joined (map function_numbers (laid fs o).0))
    (function_counts f m) (functions_count fs o)

behind : (f : Function) (m : ℕ) → m ≤ (function_numbered f m).1
behind f m =
    let e : (function_numbered f m).1 ≡ m + length (function_numbers (function_numbered f m).0) = (function_counts f m).length in
    omega arith

-- the number at which the function at a place begins, or the next number where there is none
abbrev pub start : List Function → ℕ → ℕ → ℕ
start fs m i = get_or (map (λ (f : Function). f.node) (laid fs m).0) i (laid fs m).1

pub start_from : (fs : List Function) (m i : ℕ) → m ≤ start fs m i
start_from [] m zero = omega arith
start_from [] m (suc i) = omega arith
start_from (f ∷ fs) m zero = omega arith
start_from (f ∷ fs) m (suc i) =
    let o = (function_numbered f m).1 in
    let a : m ≤ o = behind f m in
    let b : o ≤ start fs o i = start_from fs o i in omega arith

pub start_to : (fs : List Function) (m i : ℕ) → start fs m i ≤ (laid fs m).1
start_to [] m zero = omega arith
start_to [] m (suc i) = omega arith
start_to (f ∷ fs) m zero =
    let e : (laid (f ∷ fs) m).1 ≡ m + length (joined (map function_numbers (laid (f ∷ fs) m).0)) =
    (functions_count (f ∷ fs) m).length in omega arith
start_to (f ∷ fs) m (suc i) = start_to fs (function_numbered f m).1 i

pub start_later : (fs : List Function) (m i j : ℕ) → i ≤ j → start fs m i ≤ start fs m j
start_later [] m zero zero h = omega arith
start_later [] m zero (suc j) h = omega arith
start_later [] m (suc i) zero h = omega arith
start_later [] m (suc i) (suc j) h = omega arith
start_later (f ∷ fs) m zero j h = start_from (f ∷ fs) m j
start_later (f ∷ fs) m (suc i) zero h = absurd (let g : suc i ≤ 0 = h in omega arith)
start_later (f ∷ fs) m (suc i) (suc j) h = start_later fs (function_numbered f m).1 i j (omega arith)

node_from : (fs : List Function) (m n : ℕ) (f : Function) → slice_get (laid fs m).0 n ≡ Some f → m ≤ f.node
node_from [] m n f is = absurd (search rules)
node_from (x ∷ fs) m zero f is =
    let e : (function_numbered x m).0 ≡ f = cc in
    let at : m ≡ f.node = ap (λ (y : Function). y.node) e in omega arith
node_from (x ∷ fs) m (suc n) f is =
    let o = (function_numbered x m).1 in
    let a : m ≤ o = behind x m in
    let b : o ≤ f.node = node_from fs o n f is in omega arith

-- a function that begins before another place begins ends there or before
pub whole_before : (fs : List Function) (m n i : ℕ) (f : Function) → slice_get (laid fs m).0 n ≡ Some f
    → f.node + 1 ≤ start fs m i → f.node + length (function_numbers f) ≤ start fs m i
whole_before [] m n i f is h = absurd (search rules)
whole_before (x ∷ fs) m zero zero f is h =
    let e : (function_numbered x m).0 ≡ f = cc in
    let at : m ≡ f.node = ap (λ (y : Function). y.node) e in
    let g : f.node + 1 ≤ m = h in absurd (omega arith)
whole_before (x ∷ fs) m zero (suc i) f is h =
    let e : (function_numbered x m).0 ≡ f = cc in
    let o = (function_numbered x m).1 in
    let at : m ≡ f.node = ap (λ (y : Function). y.node) e in
    let long : length (function_numbers (function_numbered x m).0) ≡ length (function_numbers f) =
    ap (λ (y : Function). length (function_numbers y)) e in
    let next : o ≡ m + length (function_numbers (function_numbered x m).0) = (function_counts x m).length in
    let b : o ≤ start fs o i = start_from fs o i in omega arith
whole_before (x ∷ fs) m (suc n) zero f is h =
    let o = (function_numbered x m).1 in
    let a : m ≤ o = behind x m in
    let b : o ≤ f.node = node_from fs o n f is in
    let g : f.node + 1 ≤ m = h in absurd (omega arith)
whole_before (x ∷ fs) m (suc n) (suc i) f is h = whole_before fs (function_numbered x m).1 n i f is h

-- variables rise by what stands before them
pub rises_on : (fs : List Function) (gs : List Global) (n low : ℕ) → low ≤ start fs 0 n → rises n gs
    → rises low (map (global_numbered (laid fs 0)) gs)
rises_on fs [] n low h up = tt
rises_on fs (g ∷ gs) n low h up =
    let a : start fs 0 n ≤ start fs 0 g.before = start_later fs 0 n g.before up.0 in
    (omega arith, rises_on fs gs g.before (start fs 0 g.before) (omega arith) up.1)

-- Variables stand behind each other, and stamps behind them.
use Rattle.std.proofs.Common.{◌≡◌, ℕ, ◌+◌, ◌%◌, ◌<◌, ◌≤◌, Bool, true, false, List, [], ◌∷◌, ◌++◌, length, get_or, take, ap, ◌∙◌, arith}
use Rattle.std.proofs.lemmas.List.{take_more, take_all, get_or-map, get_or_past, length-map}
use Rattle.std.proofs.lemmas.Option.{get_or_from_slice_get, slice_get_within}
use Rattle.base16.specs.Board.{data_start}
use Rattle.core_tree.specs.declared.program.Core.{Core}
use Rattle.core_tree.specs.declared.program.Global.{Global}
use Rattle.core_tree.specs.Data.{global_address, global_layout, global_layouts}
use Rattle.core_tree.specs.Layout.{Layout, aligned, nothing, with_members, start_of}
use Rattle.core_layout.specs.Variables.{VariableLies, StampsLie}
use Rattle.core_layout.proofs.Lying.{past_aligned}
use Rattle.core_layout.proofs.Placing.{with_last}

next_start : (ls : List Layout) (n : ℕ) (l : Layout) → n < length ls → get_or ls n nothing ≡ l
    → start_of ls n + l.size ≤ start_of ls (n + 1)
next_start ls n l h is =
    let before : ℕ = (with_members nothing (take n ls)).size in
    let cut : take (n + 1) ls ≡ take n ls ++ l ∷ [] =
    take_more ls n nothing h ∙ ap (λ (k : Layout). take n ls ++ k ∷ []) is in
    let whole : (with_members nothing (take (n + 1) ls)).size ≡ aligned l.even before + l.size =
    ap (λ (ks : List Layout). (with_members nothing ks).size) cut
    ∙ ap (λ (k : Layout). k.size) (with_last nothing (take n ls) l) in
    let here : start_of ls n ≡ aligned l.even before = ap (λ (k : Layout). aligned k.even before) is in
    let up : (with_members nothing (take (n + 1) ls)).size ≤ start_of ls (n + 1) =
    past_aligned (get_or ls (n + 1) nothing).even (with_members nothing (take (n + 1) ls)).size in
    omega (arith, whole, here, up)

even_start : (even : Bool) (n : ℕ) → even ≡ true → (data_start + aligned even n) % 2 ≡ 0
even_start true n e = omega arith
even_start false n e = absurd (cc)

pub variable_lies : (core : Core) (n : ℕ) (g : Global) → VariableLies core n g
unfolding global_address
variable_lies core n g e =
    let ls : List Layout = global_layouts core core.globals in
    let lt : n < length core.globals = slice_get_within core.globals n g e in
    let long : n < length ls = rw (length-map core.globals (global_layout core)) lt in
    let here : get_or ls n nothing ≡ global_layout core g =
    get_or-map (global_layout core) core.globals n g nothing lt
    ∙ ap (global_layout core) (get_or_from_slice_get core.globals n g g e) in
    let next : start_of ls n + (global_layout core g).size ≤ start_of ls (n + 1) =
    next_start ls n (global_layout core g) long here in
    record {
      aligned = λ even. even_start (get_or ls n nothing).even (with_members nothing (take n ls)).size
          (ap (λ (k : Layout). k.even) here ∙ even);
      before_next = omega (arith, next);
    }

pub stamps_lie : (core : Core) → StampsLie core
unfolding global_address
stamps_lie core =
    let ls : List Layout = global_layouts core core.globals in
    let n : ℕ = length core.globals in
    let same : length ls ≡ n = length-map core.globals (global_layout core) in
    let none : get_or ls n nothing ≡ nothing = get_or_past ls n nothing (omega arith) in
    let all : take n ls ≡ ls = take_all n ls (omega arith) in
    let end : start_of ls n ≡ (with_members nothing ls).size =
    ap (λ (k : Layout). aligned k.even (with_members nothing (take n ls)).size) none
    ∙ ap (λ (ks : List Layout). (with_members nothing ks).size) all in
    record { behind = omega (arith, end); aligned = omega arith }

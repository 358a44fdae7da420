-- Where the variables of a program stand, one behind the other.
use Rattle.std.proofs.Common.{◌≡◌, ℕ, zero, suc, ◌+◌, ◌*◌, ◌<◌, true, List, [], ◌∷◌, ◌++◌, length, get_or, take, drop, map, refl, sym, ap, ◌∙◌, arith, add-one, drop-cons}
use Rattle.std.proofs.lemmas.List.{map_more, map-append, length-map}
use Rattle.base16.specs.Board.{data_start}
use Rattle.core_layout.specs.Laid.{layout_of}
use Rattle.core_layout.specs.declared.layouts.Laid.{Laid}
use Rattle.core_tree.specs.Data.{global_address, global_layout, global_layouts, stamp_address, stamps_start, stamp_count, stamps_of, data_bytes}
use Rattle.core_tree.specs.Layout.{Layout, aligned, nothing, with_member, with_members}
use Rattle.core_tree.specs.declared.program.Core.{Core}
use Rattle.core_tree.specs.declared.program.Global.{Global}
use Rattle.codegen.specs.Standing.{addresses_from, variable_addresses, data_laid, addresses_behind, bytes_behind}
use Rattle.codegen.specs.declared.data.DataLaid.{DataLaid}

-- what is left of a list from an element on
pub next_is : {A : Type 0} (all : List A) (i : ℕ) (x : A) → i < length all → x ≡ get_or all i x
    → drop i all ≡ x ∷ drop (i + 1) all
next_is {A = A} all i x h is =
    let cut : drop i all ≡ get_or all i x ∷ drop (i + 1) all = rw (add-one) (drop-cons all i x h) in
    cut ∙ ap (λ (y : A). y ∷ drop (i + 1) all) (sym is)

-- ---- steps of the walks

pub laid_turn : (core : Core) (i : ℕ) (g : Global) (all more : List Laid) (made : Laid) → i < length core.globals
    → g ≡ get_or core.globals i g → map layout_of all ≡ global_layouts core (take i core.globals)
    → layout_of made ≡ global_layout core g
    → more ≡ all ++ made ∷ [] → map layout_of more ≡ global_layouts core (take (i + 1) core.globals)
laid_turn core i g all more made h is a m e =
    let turn : global_layouts core (take (i + 1) core.globals)
    ≡ global_layouts core (take i core.globals) ++ global_layout core (get_or core.globals i g) ∷ [] =
    map_more (global_layout core) core.globals i g h in
    ap (map layout_of) e ∙ map-append layout_of all (made ∷ []) ∙ ap (λ (ls : List Layout). ls ++ layout_of made ∷ []) a
    ∙ ap (λ (l : Layout). global_layouts core (take i core.globals) ++ l ∷ []) (m ∙ ap (global_layout core) is) ∙ sym turn

pub addresses_turn : (bytes : ℕ) (all : List Laid) (i : ℕ) (l : Laid) → i < length all → l ≡ get_or all i l
    → addresses_behind bytes (map layout_of (drop i all))
    ≡ (data_start + aligned l.even bytes) ∷ addresses_behind (aligned l.even bytes + l.size) (map layout_of (drop (i + 1) all))
addresses_turn bytes all i l h is = ap (λ (ls : List Laid). addresses_behind bytes (map layout_of ls)) (next_is all i l h is)

pub bytes_turn : (bytes : ℕ) (all : List Laid) (i : ℕ) (l : Laid) → i < length all → l ≡ get_or all i l
    → bytes_behind bytes (map layout_of (drop i all))
    ≡ bytes_behind (aligned l.even bytes + l.size) (map layout_of (drop (i + 1) all))
bytes_turn bytes all i l h is = ap (λ (ls : List Laid). bytes_behind bytes (map layout_of ls)) (next_is all i l h is)

pub stamps_turn : (core : Core) (gs : List Global) (i : ℕ) (g : Global) → i < length gs → g ≡ get_or gs i g
    → stamps_of core (drop i gs) ≡ stamp_count core g + stamps_of core (drop (i + 1) gs)
stamps_turn core gs i g h is = ap (λ (xs : List Global). stamps_of core xs) (next_is gs i g h is)

-- ---- the whole

size_is : (before : Layout) (row : List Layout) → (with_members before row).size ≡ bytes_behind before.size row
size_is before [] = refl
size_is before (l ∷ ls) = size_is (with_member before l) ls

address_in : (bytes : ℕ) (row : List Layout) (i : ℕ) → i < length row
    → get_or (addresses_behind bytes row) i 0
    ≡ data_start + aligned (get_or row i nothing).even (bytes_behind bytes (take i row))
address_in bytes [] i h = absurd (omega arith)
address_in bytes (l ∷ ls) zero h = refl
address_in bytes (l ∷ ls) (suc i) h = address_in (aligned l.even bytes + l.size) ls i (omega arith)

module _ (core : Core) where
  abbrev row : List Layout
  row = global_layouts core core.globals

  address_is : (i : ℕ) → i < length core.globals → get_or (addresses_behind 0 row) i 0 ≡ global_address core i
  unfolding global_address
  address_is i h =
      let long : length row ≡ length core.globals = length-map core.globals (global_layout core) in
      address_in 0 row i (omega arith)
      ∙ ap (λ (n : ℕ). data_start + aligned (get_or row i nothing).even n) (sym (size_is nothing (take i row)))

  all_from : (n bytes : ℕ) (gs : List Global)
      → ((i : ℕ) → i < length gs → get_or (addresses_behind bytes (global_layouts core gs)) i 0 ≡ global_address core (n + i))
      → addresses_behind bytes (global_layouts core gs) ≡ addresses_from core n gs
  all_from n bytes [] h = refl
  all_from n bytes (g ∷ gs) h =
      let l : Layout = global_layout core g in
      let next : ℕ = aligned l.even bytes + l.size in
      let long : length (g ∷ gs) ≡ suc (length gs) = refl in
      let one : data_start + aligned l.even bytes ≡ global_address core n =
      h 0 (omega arith) ∙ ap (global_address core) (let z : n + 0 ≡ n = omega arith in z) in
      let more : addresses_behind next (global_layouts core gs) ≡ addresses_from core (n + 1) gs =
      all_from (n + 1) next gs
      (λ i k. h (suc i) (omega arith) ∙ ap (global_address core) (let z : n + suc i ≡ n + 1 + i = omega arith in z)) in
      ap (λ (a : ℕ). a ∷ addresses_behind next (global_layouts core gs)) one
      ∙ ap (λ (xs : List ℕ). global_address core n ∷ xs) more

  addresses_are : addresses_behind 0 row ≡ variable_addresses core
  addresses_are =
      all_from 0 0 core.globals
      (λ i h. address_is i h ∙ ap (global_address core) (let z : i ≡ 0 + i = omega arith in z))

  pub laid_made : (addresses : List ℕ) (rounded stamps count bytes : ℕ) → addresses ≡ addresses_behind 0 row
      → rounded ≡ aligned true (bytes_behind 0 row) → stamps ≡ data_start + rounded → count ≡ stamps_of core core.globals
      → bytes ≡ rounded + 4 * count
      → (let made : DataLaid = record { addresses = addresses; stamps = stamps; bytes = bytes } in made) ≡ data_laid core
  unfolding data_bytes stamp_address
  laid_made addresses rounded stamps count bytes a r s c b =
      let size : (with_members nothing row).size ≡ bytes_behind 0 row = size_is nothing row in
      let start : stamps ≡ stamps_start core = omega arith in
      let all : bytes ≡ data_bytes core = omega arith in
      let made : List ℕ → ℕ → ℕ → DataLaid = λ xs n m. record { addresses = xs; stamps = n; bytes = m } in
      ap (λ (xs : List ℕ). made xs stamps bytes) (a ∙ addresses_are)
      ∙ ap (λ (n : ℕ). made (variable_addresses core) n bytes) start
      ∙ ap (λ (m : ℕ). made (variable_addresses core) (stamps_start core) m) all

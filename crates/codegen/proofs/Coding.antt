-- The data of a program at its start, one behind the other.
use Rattle.std.proofs.Common.{◌≡◌, ℕ, zero, suc, ◌+◌, ◌/◌, ◌%◌, ◌<◌, Bool, if◌then◌else◌, List, [], ◌∷◌, ◌++◌, length, get_or, drop, Option, Some, refl, sym, ap, subst, ◌∙◌, arith, append-nil, append_assoc, add-one, drop-cons}
use Rattle.std.proofs.lemmas.Bool.{eq-eqb, ne_eqb}
use Rattle.std.specs.Prelude.{slice_get}
use Rattle.c_meaning.specs.After.{start, initial_objects}
use Rattle.c_run.specs.Actions.{kept}
use Rattle.c_values.specs.declared.state.Object.{Object}
use Rattle.c_values.specs.declared.value.Cell.{Cell}
use Rattle.core_tree.specs.Data.{global_address, stamps_start, stamp_address}
use Rattle.core_tree.specs.declared.program.Core.{Core}
use Rattle.core_tree.specs.declared.program.Global.{Global}
use Rattle.matching.specs.Matches.{Placed, placed_from, placed, address_of, stamp_code}
use Rattle.codegen.specs.Standing.{addresses_from, variable_addresses}
use Rattle.codegen.specs.Words.{scalar_datum, scalar_data, object_data, word_datum, stamp_data, data_of}
use Rattle.codegen.specs.declared.data.Datum.{Datum}
use Rattle.codegen.proofs.Standing.{next_is}

-- ---- the addresses of variables

module _ (core : Core) where
  found_from : (n i : ℕ) (gs : List Global)
      → address_of (placed_from (global_address core) n (initial_objects core.structs n gs) ++ []) (n + i)
      ≡ slice_get (addresses_from core n gs) i
  found_from n i [] = refl
  found_from n zero (g ∷ gs) =
      ap (λ (b : Bool). if b then Some (global_address core n)
      else address_of (placed_from (global_address core) (n + 1) (initial_objects core.structs (n + 1) gs) ++ []) (n + 0))
      (eq-eqb n (n + 0) (omega arith))
  found_from n (suc i) (g ∷ gs) =
      let rest : List Placed =
      placed_from (global_address core) (n + 1) (initial_objects core.structs (n + 1) gs) ++ [] in
      ap (λ (b : Bool). if b then Some (global_address core n) else address_of rest (n + suc i))
      (ne_eqb n (n + suc i) (λ e. omega arith))
      ∙ ap (λ (k : ℕ). address_of rest k) (let z : n + suc i ≡ n + 1 + i = omega arith in z)
      ∙ found_from (n + 1) i gs

  pub variable_found : (n : ℕ) → address_of (placed core (kept (start core))) n ≡ slice_get (variable_addresses core) n
  unfolding start
  variable_found n =
      ap (address_of (placed core (kept (start core)))) (let z : n ≡ 0 + n = omega arith in z) ∙ found_from 0 n core.globals

  many_from : (n m : ℕ) (gs : List Global) → length (initial_objects core.structs n gs) ≡ length (addresses_from core m gs)
  many_from n m [] = refl
  many_from n m (g ∷ gs) = ap suc (many_from (n + 1) (m + 1) gs)

  pub as_many : length (start core).globals ≡ length (variable_addresses core)
  unfolding start
  as_many = many_from 0 0 core.globals

  address_from : (n i : ℕ) (gs : List Global) (d : ℕ) → i < length (addresses_from core n gs)
      → get_or (addresses_from core n gs) i d ≡ global_address core (n + i)
  address_from n i [] d h = absurd (omega arith)
  address_from n zero (g ∷ gs) d h = ap (global_address core) (let z : n ≡ n + 0 = omega arith in z)
  address_from n (suc i) (g ∷ gs) d h =
      address_from (n + 1) i gs d (omega arith) ∙ ap (global_address core) (let z : n + 1 + i ≡ n + suc i = omega arith in z)

  pub address_at : (i d : ℕ) → i < length (variable_addresses core) → get_or (variable_addresses core) i d ≡ global_address core i
  address_at i d h =
      address_from 0 i core.globals d h ∙ ap (global_address core) (let z : 0 + i ≡ i = omega arith in z)

-- ---- steps of the walks

pub scalars_turn : (alive : List Placed) (address : ℕ) (cs : List Cell) (i : ℕ) (c : Cell) → i < length cs → c ≡ get_or cs i c
    → scalar_data alive address (drop i cs) ≡ scalar_datum alive address c ∷ scalar_data alive address (drop (i + 1) cs)
scalars_turn alive address cs i c h is = ap (λ (xs : List Cell). scalar_data alive address xs) (next_is cs i c h is)

pub objects_turn : (alive : List Placed) (address : ℕ → ℕ) (os : List Object) (i : ℕ) (o : Object) → i < length os
    → o ≡ get_or os i o
    → object_data alive (placed_from address i (drop i os))
    ≡ scalar_data alive (address i) o.cells ++ object_data alive (placed_from address (i + 1) (drop (i + 1) os))
objects_turn alive address os i o h is =
    ap (λ (xs : List Object). object_data alive (placed_from address i xs)) (next_is os i o h is)

pub objects_step : (core : Core) (addresses : List ℕ) (os : List Object) (i : ℕ) (o : Object) (cells : List Cell)
    (before into more : List Datum) → i < length os → o ≡ get_or os i o → length os ≡ length addresses
    → addresses ≡ variable_addresses core
    → before
    ≡ into ++ object_data (placed core (kept (start core))) (placed_from (global_address core) i (drop i os))
    → cells ≡ o.cells
    → more ≡ into ++ scalar_data (placed core (kept (start core))) (get_or addresses i 0) cells
    → before
    ≡ more ++ object_data (placed core (kept (start core))) (placed_from (global_address core) (i + 1) (drop (i + 1) os))
objects_step core addresses os i o cells before into more h is many here b c m =
    let alive : List Placed = placed core (kept (start core)) in
    let rest : List Datum = object_data alive (placed_from (global_address core) (i + 1) (drop (i + 1) os)) in
    let long : i < length addresses = omega arith in
    let at : get_or addresses i 0 ≡ global_address core i =
    ap (λ (xs : List ℕ). get_or xs i 0) here
    ∙ address_at core i 0 (subst (λ (xs : List ℕ). i < length xs) here long) in
    let one : scalar_data alive (get_or addresses i 0) cells ≡ scalar_data alive (global_address core i) o.cells =
    ap (λ (a : ℕ). scalar_data alive a cells) at ∙ ap (λ (cs : List Cell). scalar_data alive (global_address core i) cs) c in
    let pushed : more ≡ into ++ scalar_data alive (global_address core i) o.cells =
    m ∙ ap (λ (xs : List Datum). into ++ xs) one in
    b ∙ ap (λ (xs : List Datum). into ++ xs) (objects_turn alive (global_address core) os i o h is)
    ∙ sym (append_assoc into (scalar_data alive (global_address core i) o.cells) rest)
    ∙ ap (λ (xs : List Datum). xs ++ rest) (sym pushed)

pub stamp_first : (core : Core) → stamps_start core ≡ stamp_address core 0
unfolding stamp_address
stamp_first core = omega arith

pub stamp_next : (core : Core) (i low next : ℕ) → low ≡ stamp_address core i → next ≡ low + 4
    → next ≡ stamp_address core (i + 1)
unfolding stamp_address
stamp_next core i low next l n = omega arith

pub stamps_step : (core : Core) (xs : List (Option ℕ)) (i : ℕ) (d : Option ℕ) (code low high : ℕ) (a b : Datum)
    (before into one two : List Datum) → i < length xs → code ≡ stamp_code (get_or xs i d) → low ≡ stamp_address core i
    → high ≡ low + 2 → a ≡ word_datum low (code % 65536) → b ≡ word_datum high (code / 65536)
    → before ≡ into ++ stamp_data core i (drop i xs) → one ≡ into ++ a ∷ [] → two ≡ one ++ b ∷ []
    → before ≡ two ++ stamp_data core (i + 1) (drop (i + 1) xs)
stamps_step core xs i d code low high a b before into one two h k l u s t e f g =
    let cut : drop i xs ≡ get_or xs i d ∷ drop (i + 1) xs = rw (add-one) (drop-cons xs i d h) in
    let rest : List Datum = stamp_data core (i + 1) (drop (i + 1) xs) in
    let first : a ≡ word_datum (stamp_address core i) (stamp_code (get_or xs i d) % 65536) =
    s ∙ ap (λ (n : ℕ). word_datum n (code % 65536)) l
    ∙ ap (λ (n : ℕ). word_datum (stamp_address core i) (n % 65536)) k in
    let second : b ≡ word_datum (stamp_address core i + 2) (stamp_code (get_or xs i d) / 65536) =
    t ∙ ap (λ (n : ℕ). word_datum n (code / 65536)) (u ∙ ap (λ (n : ℕ). n + 2) l)
    ∙ ap (λ (n : ℕ). word_datum (stamp_address core i + 2) (n / 65536)) k in
    let whole : two ≡ into ++ a ∷ b ∷ [] =
    g ∙ ap (λ (ds : List Datum). ds ++ b ∷ []) f ∙ append_assoc into (a ∷ []) (b ∷ []) in
    e ∙ ap (λ (ys : List (Option ℕ)). into ++ stamp_data core i ys) cut
    ∙ ap (λ (x : Datum). into ++ x ∷ word_datum (stamp_address core i + 2) (stamp_code (get_or xs i d) / 65536) ∷ rest) (sym first)
    ∙ ap (λ (x : Datum). into ++ a ∷ x ∷ rest) (sym second)
    ∙ sym (append_assoc into (a ∷ b ∷ []) rest)
    ∙ ap (λ (ds : List Datum). ds ++ rest) (sym whole)

-- ---- the whole

pub data_are : (core : Core) (objects all : List Datum)
    → objects ≡ [] ++ object_data (placed core (kept (start core))) (placed_from (global_address core) 0 (start core).globals)
    → all ≡ objects ++ stamp_data core 0 (start core).stamps → all ≡ data_of core
unfolding start
data_are core objects all o a =
    let alive : List Placed = placed core (kept (start core)) in
    let stamps : List Datum = stamp_data core 0 (start core).stamps in
    let same : placed_from (global_address core) 0 (start core).globals ≡ alive =
    sym (append-nil (placed_from (global_address core) 0 (start core).globals)) in
    a ∙ ap (λ (xs : List Datum). xs ++ stamps) (o ∙ ap (λ (ps : List Placed). object_data alive ps) same)

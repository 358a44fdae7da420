-- Where the objects of a state lie that a run makes: their numbers tell their addresses, a scalar that is accessed stands alone,
-- variables lie in the data, and those of a call in its frame below the temporaries.
use Rattle.std.proofs.Common.{◌≡◌, ◌≢◌, ℕ, suc, ◌+◌, ◌<◌, ◌≤◌, refl, ap, ◌∙◌, arith, Bool, ◌⊎◌, inl, inr, List, [], ◌∷◌, length, map, Some, if◌then◌else◌}
use Rattle.std.proofs.lemmas.Bool.{eq-eqb, ne_eqb}
use Rattle.std.specs.Prelude.{Ok}
use Rattle.base16.specs.Board.{outputs_end, data_start, data_end, stack_start, stack_end}
use Rattle.base16.specs.declared.image.Kind.{Kind}
use Rattle.base16.specs.declared.image.Kind.TheVariants as kind
use Rattle.c_run.specs.Actions.{kept}
use Rattle.c_values.specs.Objects.{accessed}
use Rattle.c_values.specs.Pointers.{at}
use Rattle.c_values.specs.declared.state.Object.{Object}
use Rattle.c_values.specs.declared.state.Saved.{Saved}
use Rattle.c_values.specs.declared.state.State.{State}
use Rattle.c_values.specs.declared.value.Cell.{Cell as Scalar}
use Rattle.c_values.specs.declared.value.Value.{Value}
use Rattle.core_layout.specs.Frames.{PlacedFramesLieApart}
use Rattle.core_layout.specs.Laws.{width, end_of, SlotsFit, SlotsRise}
use Rattle.core_layout.specs.Variables.{StampsLie}
use Rattle.core_tree.specs.Data.{global_address, stamps_start, stamp_address}
use Rattle.core_tree.specs.LawfulCore.{Every}
use Rattle.core_tree.specs.declared.program.Core.{Core}
use Rattle.core_tree.specs.declared.types.Slot.{Slot}
use Rattle.core_tree.specs.declared.types.Ty.{Ty}
use Rattle.matching.specs.Laid.{slot_of, AreApart, AreLaid, LiesIn, StandsAt, AreMade, IsMade}
use Rattle.matching.specs.Matches.{Placed, placed_from, placed, address_of}
use Rattle.matching.proofs.Finding.{accessed_found, laid_apart, ends}
use Rattle.matching.proofs.Lying.{each, laid_made, variables_lie}
use Rattle.matching.proofs.Whole.{Sited, all_sited}
use Rattle.steps430.specs.Calls.{LieIn}
use Rattle.steps430.specs.Outside.{StandBehind}
use Rattle.steps430.specs.Setting.{NumberedFrom, StandsAlone}

-- ---- numbers

pub numbered : (first : ℕ) (xs : List (List Slot)) (os : List Object) → AreMade first xs os → NumberedFrom first os
numbered first [] [] h = tt
numbered first [] (o ∷ os) h = absurd h
numbered first (x ∷ xs) [] h = absurd h
numbered first (x ∷ xs) (o ∷ os) h = (h.0, numbered (first + 1) xs os h.2)

pub as_many : (first : ℕ) (xs : List (List Slot)) (os : List Object) → AreMade first xs os → length os ≡ length xs
as_many first [] [] h = refl
as_many first [] (o ∷ os) h = absurd h
as_many first (x ∷ xs) [] h = absurd h
as_many first (x ∷ xs) (o ∷ os) h = ap suc (as_many (first + 1) xs os h.2)

-- an object is found by its number
later : (p : Placed) (all qs : List Placed) → Every (AreApart p) qs
    → Every (λ q. address_of all q.object.number ≡ Some q.address) qs
    → Every (λ q. address_of (p ∷ all) q.object.number ≡ Some q.address) qs
later p all [] a h = tt
later p all (q ∷ qs) a h = (
  ap (λ (b : Bool). if b then Some p.address else address_of all q.object.number)
      (ne_eqb p.object.number q.object.number a.0.numbers) ∙ h.0,
  later p all qs a.1 h.1,
)

pub all_found : (ps : List Placed) → AreLaid ps → Every (λ q. address_of ps q.object.number ≡ Some q.address) ps
all_found [] h = tt
all_found (p ∷ ps) h = (
  ap (λ (b : Bool). if b then Some p.address else address_of ps p.object.number) (eq-eqb p.object.number p.object.number refl),
  later p ps ps h.1 (all_found ps h.2),
)

-- ---- scalars between two addresses

pub some_width : (k : Kind) → 1 ≤ width k
some_width kind.Char = omega arith
some_width kind.Int = omega arith
some_width kind.UInt = omega arith
some_width kind.Pointer = omega arith

cells_lie : (low high address : ℕ) (cs : List Scalar) → low ≤ address
    → Every (λ s. address + end_of s ≤ high) (map slot_of cs)
    → Every (λ c. (low ≤ address + c.offset) × (address + c.offset < high)) cs
cells_lie low high address [] l h = tt
cells_lie low high address (c ∷ cs) l h =
    let here = h.0 in
    let some = some_width c.kind in
    ((omega arith, omega arith), cells_lie low high address cs l h.1)

pub lie_in : (low high top : ℕ) (ps : List Placed) → high ≤ top → Every (LiesIn low high) ps → LieIn low top ps
lie_in low high top [] u h = tt
lie_in low high top (p ∷ ps) u h = (
  each (λ (c : Scalar). (low ≤ p.address + c.offset) × (p.address + c.offset < high))
      (λ (c : Scalar). (low ≤ p.address + c.offset) × (p.address + c.offset < top)) p.object.cells
      (λ c k. let a = k.0 in let b = k.1 in (omega arith, omega arith))
      (cells_lie low high p.address p.object.cells h.0.from h.0.to),
  lie_in low high top ps u h.1,
)

all_behind : (address : ℕ) (cs : List Scalar) → outputs_end ≤ address → Every (λ c. outputs_end ≤ address + c.offset) cs
all_behind address [] l = tt
all_behind address (c ∷ cs) l = (omega arith, all_behind address cs l)

-- ---- one scalar

abbrev IsSpot : Core → (address offset : ℕ) → Type 0
IsSpot core address offset = ((data_start ≤ address) × (address + offset < stamps_start core))
    ⊎ ((stack_start ≤ address) × (address + offset < stack_end))

spot : (core : Core) (n address offset : ℕ) (k : Kind) (ps : List Placed) → Every (Sited core) ps
    → StandsAt n address offset k ps → IsSpot core address offset
spot core n address offset k [] h s = absurd s
spot core n address offset k (p ∷ ps) h (inr s) = spot core n address offset k ps h.1 s
spot core n address offset k (p ∷ ps) h (inl s) = from h.0
  where
    from : Sited core p → IsSpot core address offset
    from (inl l) =
        let end = ends p.address (stamps_start core) offset k p.object.cells l.to s.2 in
        let low = l.from in
        let same = s.1 in
        inl ((omega arith), (omega arith))
    from (inr l) =
        let end = ends p.address stack_end offset k p.object.cells l.to s.2 in
        let low = l.from in
        let same = s.1 in
        inr ((omega arith), (omega arith))

off_stamps : (core : Core) (address offset : ℕ) → IsSpot core address offset
    → (m : ℕ) → (stamp_address core m ≢ address + offset) × (stamp_address core m + 2 ≢ address + offset)
unfolding stamp_address
off_stamps core address offset (inl s) m = let l = s.1 in ((λ e. omega arith), (λ e. omega arith))
off_stamps core address offset (inr s) m = let l = s.1 in ((λ e. omega arith), (λ e. omega arith))

module _ (core : Core) (fit : (t : Ty) → SlotsFit core.structs t) (rise : (t : Ty) → SlotsRise core.structs t)
    (apart : (frames addresses : List ℕ) → PlacedFramesLieApart frames addresses) (behind : StampsLie core)
    (small : stamps_start core ≤ data_end) where
  pub found : (next : ℕ) (s : Saved) → IsMade core next s
      → Every (λ q. address_of (placed core s) q.object.number ≡ Some q.address) (placed core s)
  found next s made = all_found (placed core s) (laid_made core fit rise apart next s made)

  pub stands_alone : (next : ℕ) (s : State) (n offset : ℕ) (k : Kind) (v : Value) → IsMade core next (kept s)
      → accessed s (at n offset) k ≡ Ok v → StandsAlone core s n offset k
  stands_alone next s n offset k v made e =
      let ps = placed core (kept s) in
      let f = accessed_found core s n offset k v e in
      let here = spot core n f.address offset k ps (all_sited core fit rise apart behind next (kept s) made) f.stands in
      record {
        address = f.address;
        is = f.is;
        apart = laid_apart n f.address offset k ps (laid_made core fit rise apart next (kept s) made) f.stands;
        stamps = off_stamps core f.address offset here;
        site = in_data f.address offset here;
      }
    where
      in_data : (a o : ℕ) → IsSpot core a o
          → ((data_start ≤ a) × (a + o < data_end)) ⊎ ((stack_start ≤ a) × (a + o < stack_end))
      in_data a o (inl s) = let l = s.1 in inl (s.0, omega arith)
      in_data a o (inr s) = inr s

  pub variables_in_data : (next : ℕ) (s : Saved) → IsMade core next s
      → LieIn data_start data_end (placed_from (global_address core) 0 s.globals)
  variables_in_data next s made =
      lie_in data_start (stamps_start core) data_end (placed_from (global_address core) 0 s.globals) small
      (variables_lie core fit rise behind next s made)

  -- no scalar stands among the outputs, and no stamp
  pub behind_outputs : (next : ℕ) (s : Saved) → IsMade core next s → Every StandBehind (placed core s)
  behind_outputs next s made =
      each (Sited core) StandBehind (placed core s) one (all_sited core fit rise apart behind next s made)
    where
      one : (p : Placed) → Sited core p → StandBehind p
      one p (inl l) = let a = l.from in all_behind p.address p.object.cells (omega arith)
      one p (inr l) = let a = l.from in all_behind p.address p.object.cells (omega arith)

  pub stamps_in_data : (n : ℕ) → data_start ≤ stamp_address core n
  unfolding stamp_address
  stamps_in_data n = omega arith

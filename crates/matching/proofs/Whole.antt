-- A store keeps the whole state covered: no stamp and no output stands where an object does.
use Rattle.std.proofs.Common.{◌≡◌, ◌≢◌, ℕ, ◌+◌, ◌*◌, ◌<◌, ◌≤◌, ◌⊎◌, inl, inr, List, [], ◌∷◌, map, length, Option, ◌∙◌, arith}
use Rattle.base16.specs.Board.{outputs_start, data_start, stack_start, stack_end}
use Rattle.base16.specs.declared.image.Kind.{Kind}
use Rattle.c_run.specs.Actions.{kept}
use Rattle.c_values.specs.Objects.{with_scalar}
use Rattle.c_values.specs.declared.state.Call.{Call}
use Rattle.c_values.specs.declared.state.Saved.{Saved}
use Rattle.c_values.specs.declared.state.State.{State}
use Rattle.c_values.specs.declared.value.Value.{Value}
use Rattle.cells430.specs.Cells.{Cell, Cells, set_cell}
use Rattle.core_layout.specs.Frames.{LieApart, PlacedFramesLieApart}
use Rattle.core_layout.specs.Laws.{end_of, SlotsFit, SlotsRise}
use Rattle.core_layout.specs.Variables.{StampsLie}
use Rattle.core_tree.specs.Data.{global_address, stamps_start, stamp_address}
use Rattle.core_tree.specs.LawfulCore.{Every}
use Rattle.core_tree.specs.declared.program.Core.{Core}
use Rattle.core_tree.specs.declared.types.Slot.{Slot}
use Rattle.core_tree.specs.declared.types.Ty.{Ty}
use Rattle.matching.proofs.Finding.{accessed_found, laid_apart, ends}
use Rattle.matching.proofs.Lying.{each, each_append, laid_made, variables_lie, locals_lie}
use Rattle.matching.proofs.Storing.{set_other, store_matches}
use Rattle.matching.specs.Covering.{cell_of, WordsCovered, StampsCovered}
use Rattle.matching.specs.Laid.{slots_in, LiesIn, StandsAt, bytes_of, IsMade}
use Rattle.matching.specs.Laws.{StoreKeepsCovered}
use Rattle.matching.specs.Matches.{Placed, placed_from, local_address, placed_in_calls, placed, encoded}

-- ---- cells elsewhere

module _ (f : Cells) (a : ℕ) (x : Cell) where
  stamps_away : (core : Core) (n : ℕ) (xs : List (Option ℕ))
      → ((m : ℕ) → (stamp_address core m ≢ a) × (stamp_address core m + 2 ≢ a))
      → StampsCovered f core n xs → StampsCovered (set_cell f a x) core n xs
  stamps_away core n [] away h = tt
  stamps_away core n (y ∷ ys) away h =
      let two = away n in (
        record {
          low = set_other f a (stamp_address core n) x two.0 ∙ h.0.low;
          high = set_other f a (stamp_address core n + 2) x two.1 ∙ h.0.high;
        },
        stamps_away core (n + 1) ys away h.1,
      )

  pub words_away : (start : ℕ) (ws : List ℕ) → start + 2 * length ws ≤ a → WordsCovered f start ws
      → WordsCovered (set_cell f a x) start ws
  words_away start [] l h = tt
  words_away start (w ∷ ws) l h =
      let long : length (w ∷ ws) ≡ length ws + 1 = omega arith in
      let off : start ≢ a = omega arith in
      (set_other f a start x off ∙ h.0, words_away (start + 2) ws (omega arith) h.1)

-- ---- where objects lie

abbrev pub Sited : Core → Placed → Type 0
Sited core p = LiesIn data_start (stamps_start core) p ⊎ LiesIn stack_start stack_end p

abbrev IsSite : Core → ℕ → Type 0
IsSite core a = ((data_start ≤ a) × (a < stamps_start core)) ⊎ ((stack_start ≤ a) × (a < stack_end))

site : (core : Core) (n address offset : ℕ) (k : Kind) (ps : List Placed) → Every (Sited core) ps → StandsAt n address offset k ps
    → IsSite core (address + offset)
site core n address offset k [] h s = absurd s
site core n address offset k (p ∷ ps) h (inr s) = site core n address offset k ps h.1 s
site core n address offset k (p ∷ ps) h (inl s) = from h.0
  where
    from : Sited core p → IsSite core (address + offset)
    from (inl l) =
        let end = ends p.address (stamps_start core) offset k p.object.cells l.to s.2 in
        let low = l.from in
        let same = s.1 in
        inl ((omega arith), (omega arith))
    from (inr l) =
        let end = ends p.address stack_end offset k p.object.cells l.to s.2 in
        let low = l.from in
        let same = s.1 in
        inr ((omega arith), (omega arith))

in_stack : (frame bytes : ℕ) (p : Placed) → stack_start ≤ frame → frame + bytes ≤ stack_end → LiesIn frame (frame + bytes) p
    → LiesIn stack_start stack_end p
in_stack frame bytes p low high l = record {
  from = let k = l.from in omega arith;
  to = each (λ (s : Slot). p.address + end_of s ≤ frame + bytes) (λ (s : Slot). p.address + end_of s ≤ stack_end) (slots_in p)
      (λ s k. omega arith) l.to;
}

calls_sited : (core : Core) (cs : List Call) → LieApart (map (bytes_of core) cs) (map (λ (c : Call). c.frame) cs)
    → Every (λ c. Every (LiesIn c.frame (c.frame + bytes_of core c)) (placed_from (local_address core c) 0 c.locals)) cs
    → Every (Sited core) (placed_in_calls core cs)
calls_sited core [] z h = tt
calls_sited core (c ∷ cs) z h =
    let low = z.0.above_start in
    let high = z.0.below_end in
    each_append (Sited core) (placed_from (local_address core c) 0 c.locals) (placed_in_calls core cs)
    (each (LiesIn c.frame (c.frame + bytes_of core c)) (Sited core) (placed_from (local_address core c) 0 c.locals)
    (λ p l. inr (in_stack c.frame (bytes_of core c) p low high l)) h.0)
    (calls_sited core cs z.2 h.1)

module _ (core : Core) (fit : (t : Ty) → SlotsFit core.structs t) (rise : (t : Ty) → SlotsRise core.structs t)
    (apart : (frames addresses : List ℕ) → PlacedFramesLieApart frames addresses) (behind : StampsLie core) where
  pub all_sited : (next : ℕ) (s : Saved) → IsMade core next s → Every (Sited core) (placed core s)
  all_sited next s h =
      each_append (Sited core) (placed_from (global_address core) 0 s.globals) (placed_in_calls core s.calls)
      (each (LiesIn data_start (stamps_start core)) (Sited core) (placed_from (global_address core) 0 s.globals) (λ p l. inl l)
      (variables_lie core fit rise behind next s h))
      (calls_sited core s.calls (apart (map (bytes_of core) s.calls) (map (λ (c : Call). c.frame) s.calls) h.frames)
      (locals_lie core fit rise (length core.globals) next s.calls h.calls))

  off_stamps : (a : ℕ) → IsSite core a → (m : ℕ) → (stamp_address core m ≢ a) × (stamp_address core m + 2 ≢ a)
  unfolding stamp_address
  off_stamps a (inl s) m = let l = s.1 in ((λ e. omega arith), (λ e. omega arith))
  off_stamps a (inr s) m = let l = s.1 in ((λ e. omega arith), (λ e. omega arith))

  above_outputs : (a : ℕ) → IsSite core a → stack_start ≤ a
  above_outputs a (inl s) = let l = s.0 in omega arith
  above_outputs a (inr s) = s.0

  -- a store keeps each scalar, stamp and output covered
  pub store_covered : (next : ℕ) (s : State) (f : Cells) (n offset : ℕ) (k : Kind) (old v : Value)
      → StoreKeepsCovered core next s f n offset k old v
  unfolding with_scalar
  store_covered next s f n offset k old v made few h e =
      let ps = placed core (kept s) in
      let found = accessed_found core s n offset k old e in
      let alone = laid_apart n found.address offset k ps (laid_made core fit rise apart next (kept s) made) found.stands in
      let a = found.address + offset in
      let x : Cell = cell_of k (encoded ps k v) in
      let spot = site core n found.address offset k ps (all_sited next (kept s) made) found.stands in
      let low = above_outputs a spot in
      let off : outputs_start ≢ a = omega arith in
      let room : outputs_start + 2 + 2 * length s.outputs ≤ a = omega arith in (
        record { address = found.address; is = found.is; apart = alone },
        record {
          objects = store_matches core s f n found.address offset v k alone h.objects;
          stamps = stamps_away f a x core 0 s.stamps (off_stamps a spot) h.stamps;
          count = set_other f a outputs_start x off ∙ h.count;
          outputs = words_away f a x (outputs_start + 2) s.outputs room h.outputs;
        },
      )

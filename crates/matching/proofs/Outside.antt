-- A stamp that is set and an output that is appended are two cells set.
use Rattle.std.proofs.Common.{◌≡◌, ◌≢◌, ℕ, zero, suc, ◌+◌, ◌*◌, ◌/◌, ◌%◌, ◌<◌, ◌≤◌, ◌⊎◌, inl, inr, List, [], ◌∷◌, ◌++◌, map, length, Option, Some, refl, sym, ap, ◌∙◌, arith}
use Rattle.std.proofs.lemmas.List.{length-append}
use Rattle.std.specs.Prelude.{slice_set}
use Rattle.base16.specs.Board.{outputs_start, data_start, stack_start, stack_end}
use Rattle.c_run.specs.Actions.{kept}
use Rattle.c_values.specs.declared.state.State.{State}
use Rattle.c_values.specs.declared.value.Cell.{Cell as Scalar}
use Rattle.cells430.specs.Cells.{Cell, Word, Cells, set_cell}
use Rattle.core_layout.specs.Frames.{PlacedFramesLieApart}
use Rattle.core_layout.specs.Laws.{end_of, SlotsFit, SlotsRise}
use Rattle.core_layout.specs.Variables.{StampsLie}
use Rattle.core_tree.specs.Data.{stamps_start, stamp_address}
use Rattle.core_tree.specs.LawfulCore.{Every}
use Rattle.core_tree.specs.declared.program.Core.{Core}
use Rattle.core_tree.specs.declared.types.Ty.{Ty}
use Rattle.matching.proofs.Finding.{width_some}
use Rattle.matching.proofs.Keeping.{objects_elsewhere}
use Rattle.matching.proofs.Storing.{set_same, set_other}
use Rattle.matching.proofs.Whole.{Sited, all_sited, words_away}
use Rattle.matching.specs.Covering.{SameCells, WordsCovered, StampCovered, StampsCovered}
use Rattle.matching.specs.Laid.{slot_of}
use Rattle.matching.specs.Laws.{StampSetsCells, OutputSetsCells}
use Rattle.matching.specs.Matches.{Placed, placed}

-- ---- objects stand elsewhere

-- an address at which no object can stand
abbrev IsOutside : Core → ℕ → Type 0
IsOutside core a = (a < stack_start) ⊎ ((stack_end ≤ a) × (stamps_start core ≤ a))

between : (low high a : ℕ) (p : Placed) (cs : List Scalar) → low ≤ p.address → Every (λ s. p.address + end_of s ≤ high)
    (map slot_of cs)
    → (a < low) ⊎ (high ≤ a) → Every (λ c. p.address + c.offset ≢ a) cs
between low high a p [] l h o = tt
between low high a p (c ∷ cs) l h o = (from o, between low high a p cs l h.1 o)
  where
    from : (a < low) ⊎ (high ≤ a) → p.address + c.offset ≢ a
    from (inl k) e = omega arith
    from (inr k) e = let w = width_some c.kind in let m = h.0 in omega arith

off_object : (core : Core) (a : ℕ) (p : Placed) → IsOutside core a → Sited core p → Every (λ c. p.address + c.offset ≢ a)
    p.object.cells
off_object core a p (inl o) (inl l) = between data_start (stamps_start core) a p p.object.cells l.from l.to (inl (omega arith))
off_object core a p (inl o) (inr l) = between stack_start stack_end a p p.object.cells l.from l.to (inl o)
off_object core a p (inr o) (inl l) = between data_start (stamps_start core) a p p.object.cells l.from l.to (inr o.1)
off_object core a p (inr o) (inr l) = between stack_start stack_end a p p.object.cells l.from l.to (inr o.0)

same_scalars : (f : Cells) (a : ℕ) (x : Cell) (address : ℕ) (cs : List Scalar) → Every (λ c. address + c.offset ≢ a) cs
    → Every (λ c. set_cell f a x (address + c.offset) ≡ f (address + c.offset)) cs
same_scalars f a x address [] h = tt
same_scalars f a x address (c ∷ cs) h = (set_other f a (address + c.offset) x h.0, same_scalars f a x address cs h.1)

same_cells : (core : Core) (f : Cells) (a : ℕ) (x : Cell) (ps : List Placed) → IsOutside core a → Every (Sited core) ps
    → SameCells f (set_cell f a x) ps
same_cells core f a x [] o h = tt
same_cells core f a x (p ∷ ps) o h =
    (same_scalars f a x p.address p.object.cells (off_object core a p o h.0), same_cells core f a x ps o h.1)

-- ---- stamps

stamp_apart : (core : Core) (i j : ℕ) → (i < j) ⊎ (j < i) → (stamp_address core i ≢ stamp_address core j)
    × (stamp_address core i + 2 ≢ stamp_address core j) × (stamp_address core i ≢ stamp_address core j + 2)
unfolding stamp_address
stamp_apart core i j (inl l) = ((λ e. omega arith), (λ e. omega arith), (λ e. omega arith))
stamp_apart core i j (inr l) = ((λ e. omega arith), (λ e. omega arith), (λ e. omega arith))

stamp_outside : (core : Core) (n : ℕ) → IsOutside core (stamp_address core n)
unfolding stamp_address
stamp_outside core n = inr ((omega arith), (omega arith))

stamp_outside_high : (core : Core) (n : ℕ) → IsOutside core (stamp_address core n + 2)
unfolding stamp_address
stamp_outside_high core n = inr ((omega arith), (omega arith))

stamp_above : (core : Core) (n : ℕ) → stack_end ≤ stamp_address core n
unfolding stamp_address
stamp_above core n = omega arith

-- the cells of a stamp set
abbrev stamp_set : Core → Cells → (n now : ℕ) → Cells
stamp_set core f n now =
    set_cell (set_cell f (stamp_address core n) (Word (Some (now % 65536)))) (stamp_address core n + 2)
    (Word (Some (now / 65536)))

stamp_stays : (core : Core) (f : Cells) (n now i : ℕ) (x : Option ℕ) → (i < n) ⊎ (n < i) → StampCovered f (stamp_address core i) x
    → StampCovered (stamp_set core f n now) (stamp_address core i) x
stamp_stays core f n now i x apart h =
    let k = stamp_apart core i n apart in
    let a = stamp_address core n in
    let low : Cell = Word (Some (now % 65536)) in
    let high : Cell = Word (Some (now / 65536)) in
    let both : stamp_address core i + 2 ≢ a + 2 = λ e. k.0 (omega arith) in
    record {
      low = set_other (set_cell f a low) (a + 2) (stamp_address core i) high k.2 ∙ set_other f a (stamp_address core i) low
          k.0 ∙ h.low;
      high = set_other (set_cell f a low) (a + 2) (stamp_address core i + 2) high both
          ∙ set_other f a (stamp_address core i + 2) low k.1 ∙ h.high;
    }

stamps_later : (core : Core) (f : Cells) (n now i : ℕ) (xs : List (Option ℕ)) → n < i → StampsCovered f core i xs
    → StampsCovered (stamp_set core f n now) core i xs
stamps_later core f n now i [] l h = tt
stamps_later core f n now i (x ∷ xs) l h =
    (stamp_stays core f n now i x (inr l) h.0, stamps_later core f n now (i + 1) xs (omega arith) h.1)

stamps_set : (core : Core) (f : Cells) (k n now i : ℕ) (xs : List (Option ℕ)) → n ≡ i + k → StampsCovered f core i xs
    → StampsCovered (stamp_set core f n now) core i (slice_set xs k (Some now))
stamps_set core f k n now i [] e h = tt
stamps_set core f zero n now i (x ∷ xs) e h =
    let same : i ≡ n = omega arith in
    let a = stamp_address core n in
    let low : Cell = Word (Some (now % 65536)) in
    let high : Cell = Word (Some (now / 65536)) in
    let at : stamp_address core i ≡ a = ap (stamp_address core) same in
    let above : stamp_address core i + 2 ≡ a + 2 = ap (λ (b : ℕ). b + 2) at in
    let off : stamp_address core i ≢ a + 2 = omega arith in (
      record {
        low = set_other (set_cell f a low) (a + 2) (stamp_address core i) high off ∙ set_same f a (stamp_address core i) low at;
        high = set_same (set_cell f a low) (a + 2) (stamp_address core i + 2) high above;
      },
      stamps_later core f n now (i + 1) xs (omega arith) h.1,
    )
stamps_set core f (suc k) n now i (x ∷ xs) e h =
    (stamp_stays core f n now i x (inl (omega arith)) h.0, stamps_set core f k n now (i + 1) xs (omega arith) h.1)

-- ---- outputs

words_before : (f : Cells) (a : ℕ) (x : Cell) (start : ℕ) (ws : List ℕ) → a < start → WordsCovered f start ws
    → WordsCovered (set_cell f a x) start ws
words_before f a x start [] l h = tt
words_before f a x start (w ∷ ws) l h =
    let off : start ≢ a = omega arith in
    (set_other f a start x off ∙ h.0, words_before f a x (start + 2) ws (omega arith) h.1)

words_push : (f : Cells) (start : ℕ) (ws : List ℕ) (w : ℕ) → WordsCovered f start ws
    → f (start + 2 * length ws) ≡ Some (Word (Some w)) → WordsCovered f start (ws ++ w ∷ [])
words_push f start [] w h e =
    let none : List ℕ = [] in
    let same : start ≡ start + 2 * length none = omega arith in
    (ap f same ∙ e, tt)
words_push f start (v ∷ ws) w h e =
    let long : length (v ∷ ws) ≡ length ws + 1 = omega arith in
    let same : start + 2 + 2 * length ws ≡ start + 2 * length (v ∷ ws) = omega arith in
    (h.0, words_push f (start + 2) ws w h.1 (ap f same ∙ e))

-- ---- states

module _ (core : Core) (fit : (t : Ty) → SlotsFit core.structs t) (rise : (t : Ty) → SlotsRise core.structs t)
    (apart : (frames addresses : List ℕ) → PlacedFramesLieApart frames addresses) (behind : StampsLie core) where
  pub stamp_covered : (next : ℕ) (s : State) (f : Cells) (n now : ℕ) → StampSetsCells core next s f n now
  stamp_covered next s f n now made few h =
      let ps = placed core (kept s) in
      let sites = all_sited core fit rise apart behind next (kept s) made in
      let a = stamp_address core n in
      let low : Cell = Word (Some (now % 65536)) in
      let high : Cell = Word (Some (now / 65536)) in
      let g = set_cell f a low in
      let top = stamp_above core n in
      let off : outputs_start ≢ a = omega arith in
      let off_high : outputs_start ≢ a + 2 = omega arith in
      record {
        objects = objects_elsewhere g (set_cell g (a + 2) high) ps ps
            (same_cells core g (a + 2) high ps (stamp_outside_high core n) sites)
            (objects_elsewhere f g ps ps (same_cells core f a low ps (stamp_outside core n) sites) h.objects);
        stamps = stamps_set core f n n now 0 s.stamps (omega arith) h.stamps;
        count = set_other g (a + 2) outputs_start high off_high ∙ set_other f a outputs_start low off ∙ h.count;
        outputs = words_away g (a + 2) high (outputs_start + 2) s.outputs (omega arith)
            (words_away f a low (outputs_start + 2) s.outputs (omega arith) h.outputs);
      }

  stamps_off : (f : Cells) (a : ℕ) (x : Cell) (n : ℕ) (xs : List (Option ℕ)) → a < stack_start → StampsCovered f core n xs
      → StampsCovered (set_cell f a x) core n xs
  stamps_off f a x n [] l h = tt
  stamps_off f a x n (y ∷ ys) l h =
      let top = stamp_above core n in
      let low : stamp_address core n ≢ a = omega arith in
      let high : stamp_address core n + 2 ≢ a = omega arith in (
        record {
          low = set_other f a (stamp_address core n) x low ∙ h.0.low;
          high = set_other f a (stamp_address core n + 2) x
              high ∙ h.0.high;
        },
        stamps_off f a x (n + 1) ys l h.1,
      )

  pub output_covered : (next : ℕ) (s : State) (f : Cells) (w : ℕ) → OutputSetsCells core next s f w
  output_covered next s f w made room h =
      let ps = placed core (kept s) in
      let sites = all_sited core fit rise apart behind next (kept s) made in
      let a = outputs_start + 2 + 2 * length s.outputs in
      let x : Cell = Word (Some w) in
      let y : Cell = Word (Some (length s.outputs + 1)) in
      let g = set_cell f a x in
      let low : a < stack_start = omega arith in
      let below : outputs_start < stack_start = omega arith in
      let long : length (s.outputs ++ w ∷ []) ≡ length s.outputs + 1 = length-append s.outputs (w ∷ []) in
      record {
        objects = objects_elsewhere g (set_cell g outputs_start y) ps ps (same_cells core g outputs_start y ps (inl below) sites)
            (objects_elsewhere f g ps ps (same_cells core f a x ps (inl low) sites) h.objects);
        stamps = stamps_off g outputs_start y 0 s.stamps below (stamps_off f a x 0 s.stamps low h.stamps);
        count = set_same g outputs_start outputs_start y refl ∙ ap (λ (n : ℕ). Some (Word (Some n))) (sym long);
        outputs = words_before g outputs_start y (outputs_start + 2) (s.outputs ++ w ∷ []) (omega arith)
            (words_push g (outputs_start + 2) s.outputs w
            (words_away f a x (outputs_start + 2) s.outputs (omega arith) h.outputs) (set_same f a a x refl));
      }

-- Cells that stand make the words match, by settled bytes.
use Rattle.std.proofs.Common.{◌≡◌, ◌≢◌, ℕ, ◌+◌, ◌/◌, ◌%◌, true, false, Bool, not, ◌||◌, List, [], ◌∷◌, length, Option, Some, None, refl, ap, ◌∙◌, arith}
use Rattle.std.proofs.lemmas.Bool.{eqb-true, eq-eqb, ne_eqb}
use Rattle.std.specs.Prelude.{nat_eq, if◌then◌else◌}
use Rattle.base16.specs.Board.{outputs_start}
use Rattle.base16.specs.declared.image.Kind.{Kind}
use Rattle.c_values.specs.Objects.{wide}
use Rattle.c_values.specs.declared.state.Saved.{Saved}
use Rattle.c_values.specs.declared.value.Cell.{Cell as Scalar}
use Rattle.cells430.specs.Cells.{Cell, Cells, CellAt, Fits}
use Rattle.core430.specs.Bytes.{byte_in, word_address}
use Rattle.core430.specs.Uses.{IsWithin, access_bytes}
use Rattle.core_tree.specs.Data.{stamp_address}
use Rattle.core_tree.specs.declared.program.Core.{Core}
use Rattle.ideal430.specs.Places.{is_in_word}
use Rattle.ideal430.specs.Settled.{Bytes}
use Rattle.matching.specs.Covering.{cell_by, HasCell, ScalarsCovered, Covered, WordsCovered, StampsCovered, IsCovered}
use Rattle.matching.specs.Laws.{CellsMatch}
use Rattle.matching.specs.Matches.{Placed, placed, encoded, stamp_code, WordStands, CodeStands, Says, ScalarsStand, ObjectsStand, StampsStand, WordsStand, WordsAre}
use Rattle.matching.specs.Said.{code_said, scalars_said, objects_said, stamps_said, words_said, said}

-- ---- sets of bytes

pub either_within : (p q st : Bytes) → IsWithin p st → IsWithin q st → IsWithin (λ b. p b || q b) st
either_within p q st one other b e = from (p b) refl e
  where
    from : (t : Bool) → p b ≡ t → (t || q b) ≡ true → st b ≡ true
    from true is h = one b is
    from false is h = other b h

none_within : (st : Bytes) → IsWithin (λ b. false) st
none_within st b e = cc

-- the two bytes of a word
word_within : (a : ℕ) (st : Bytes) → st a ≡ true → st (a + 1) ≡ true → IsWithin (is_in_word a) st
word_within a st low high =
    either_within (λ b. nat_eq b a) (λ b. nat_eq b (a + 1)) st
    (λ b e. ap st (eqb-true b a e) ∙ low) (λ b e. ap st (eqb-true b (a + 1) e) ∙ high)

byte_within : (a : ℕ) (st : Bytes) → st a ≡ true → IsWithin (access_bytes true a) st
byte_within a st h =
    either_within (λ b. nat_eq b a) (λ b. false) st (λ b e. ap st (eqb-true b a e) ∙ h) (none_within st)

-- ---- one cell

word_is : (m : ℕ → ℕ) (a w : ℕ) → a % 2 ≡ 0 → m a ≡ w → WordStands m a w
word_is m a w even h =
    let odd : (a + 1) % 2 ≢ 0 = omega arith in
    let at : word_address a ≡ a = omega arith in
    let above : word_address (a + 1) ≡ a = omega arith in
    record {
      low = ap (λ x. byte_in a (m x)) at ∙ ap (λ x. byte_in a x) h
          ∙ ap (λ t. if t then w % 256 else w / 256) (eq-eqb (a % 2) 0 even);
      high = ap (λ x. byte_in (a + 1) (m x)) above ∙ ap (λ x. byte_in (a + 1) x) h
          ∙ ap (λ t. if t then w % 256 else w / 256) (ne_eqb ((a + 1) % 2) 0 odd);
    }

-- a code stands at an address, by settled bytes
pub record Counts (m : ℕ → ℕ) (st : Bytes) (wide : Bool) (a code : ℕ) : Type 0 where
  pub stands : CodeStands m wide a code
  pub settled : IsWithin (access_bytes (not wide) a) st

cell_counts : (f : Cells) (m : ℕ → ℕ) (st : Bytes) (wide : Bool) (a code : ℕ) → CellAt m st a (cell_by wide (Some code))
    → Fits f a (cell_by wide (Some code)) → Counts m st wide a code
cell_counts f m st true a code h fit = record { stands = word_is m a code fit.0 h.0; settled = word_within a st h.1 h.2 }
cell_counts f m st false a code h fit = record { stands = h.0; settled = byte_within a st h.1 }

module _ (f : Cells) (m : ℕ → ℕ) (st : Bytes) (stands : (a : ℕ) (x : Cell) → f a ≡ Some x → CellAt m st a x)
    (fits : (a : ℕ) (x : Cell) → f a ≡ Some x → Fits f a x) where
  counts : (wide : Bool) (a code : ℕ) → f a ≡ Some (cell_by wide (Some code)) → Counts m st wide a code
  counts wide a code e =
      cell_counts f m st wide a code (stands a (cell_by wide (Some code)) e) (fits a (cell_by wide (Some code)) e)

  says : (k : Kind) (a : ℕ) (o : Option ℕ) → HasCell f a k o → Says m k a o × IsWithin (code_said k a o) st
  says k a None h = (tt, none_within st)
  says k a (Some code) h = let c = counts (wide k) a code h in (c.stands, c.settled)

  scalars : (alive : List Placed) (a : ℕ) (cs : List Scalar) → ScalarsCovered f alive a cs
      → ScalarsStand m alive a cs × IsWithin (scalars_said alive a cs) st
  scalars alive a [] h = (tt, none_within st)
  scalars alive a (c ∷ cs) h =
      let one = says c.kind (a + c.offset) (encoded alive c.kind c.value) h.0 in
      let more = scalars alive a cs h.1 in
      let own : Bytes = code_said c.kind (a + c.offset) (encoded alive c.kind c.value) in
      ((one.0, more.0), either_within own (scalars_said alive a cs) st one.1 more.1)

  -- each scalar of these objects stands, by settled bytes
  pub objects_match : (alive ps : List Placed) → Covered f alive ps
      → ObjectsStand m alive ps × IsWithin (objects_said alive ps) st
  objects_match alive [] h = (tt, none_within st)
  objects_match alive (p ∷ ps) h =
      let one = scalars alive p.address p.object.cells h.0 in
      let more = objects_match alive ps h.1 in
      ((one.0, more.0), either_within (scalars_said alive p.address p.object.cells) (objects_said alive ps) st one.1 more.1)

  stamps : (core : Core) (n : ℕ) (xs : List (Option ℕ)) → StampsCovered f core n xs
      → StampsStand m core n xs × IsWithin (stamps_said core n xs) st
  stamps core n [] h = (tt, none_within st)
  stamps core n (x ∷ xs) h =
      let a = stamp_address core n in
      let low = counts true a (stamp_code x % 65536) h.0.low in
      let high = counts true (a + 2) (stamp_code x / 65536) h.0.high in
      let more = stamps core (n + 1) xs h.1 in (
        (record { low = low.stands; high = high.stands }, more.0),
        either_within (is_in_word a) (λ b. is_in_word (a + 2) b || stamps_said core (n + 1) xs b) st low.settled
            (either_within (is_in_word (a + 2)) (stamps_said core (n + 1) xs) st high.settled more.1),
      )

  words : (a : ℕ) (ws : List ℕ) → WordsCovered f a ws → WordsStand m a ws × IsWithin (words_said a ws) st
  words a [] h = (tt, none_within st)
  words a (w ∷ ws) h =
      let one = counts true a w h.0 in
      let more = words (a + 2) ws h.1 in
      ((one.stands, more.0), either_within (is_in_word a) (words_said (a + 2) ws) st one.settled more.1)

  -- the words match a state that has its cells, by settled bytes
  pub cells_match : (core : Core) (s : Saved) → IsCovered core s f → WordsAre core s m × IsWithin (said core s) st
  cells_match core s h =
      let objects = objects_match (placed core s) (placed core s) h.objects in
      let stamp = stamps core 0 s.stamps h.stamps in
      let count = counts true outputs_start (length s.outputs) h.count in
      let outs = words (outputs_start + 2) s.outputs h.outputs in
      let of_stamps : Bytes = stamps_said core 0 s.stamps in
      let of_count : Bytes = is_in_word outputs_start in
      let of_words : Bytes = words_said (outputs_start + 2) s.outputs in
      let outputs = either_within of_count of_words st count.settled outs.1 in
      let rest = either_within of_stamps (λ b. of_count b || of_words b) st stamp.1 outputs in (
        record { objects = objects.0; stamps = stamp.0; outputs = record { count = count.stands; words = outs.0 } },
        either_within (objects_said (placed core s) (placed core s)) (λ b. of_stamps b || (of_count b || of_words b)) st
            objects.1 rest,
      )

pub matched : (core : Core) (s : Saved) (f : Cells) → CellsMatch core s f
matched core s f segment sp pointers shape c low high m settled facts h =
    cells_match f m settled facts.stands shape.fits core s h

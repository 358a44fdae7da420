-- Each kind of write that a call makes.
use Rattle.std.proofs.Common.{◌≡◌, ℕ, ◌+◌, ◌-◌, ◌<◌, ◌≤◌, ◌⊎◌, true, false, suc, refl, sym, ◌∙◌, ap, subst, inl, inr, arith}
use Rattle.std.proofs.lemmas.Bool.Decides.{nat_tests}
use Rattle.base16.proofs.Writes.{put-same, put-other}
use Rattle.base16.specs.Board.{outputs_start, stack_end, segment_count, segment_start, segment_top}
use Rattle.base16.specs.Memory.{put}
use Rattle.board_map.specs.Map.{gate_address, magic_address, version_address, slot_words, undo_entries, block_entries}
use Rattle.board_map.specs.Map.{segment_place, block_open_place, block_length_place, block_log_start, slot_address}
use Rattle.board_map.specs.Map.{count_address, undo_address, block_address, gate_of, slot_of, current, count_of}
use Rattle.board_map.specs.Map.{segment_of, open_of, length_of, in_segment, IsLoggable, IsOutside}
use Rattle.board_map.specs.Recovered.{is_live, lives, put_back, undone, registers_in, state_in, of_slot, recovered}
use Rattle.board_map.specs.WellFormed.{IsState, IsWellFormed}
use Rattle.board_map.proofs.Writes.{put_undone, same_or_not, put_back-cong, of_slot-same, live-low, loggable-range}
use Rattle.board_map.proofs.Writes.{IsQuiet, gate-kept, current-kept}

pub in_segment-true : (s a : ℕ) → segment_start s ≤ a → a < segment_top s → in_segment s a ≡ true
in_segment-true s a h k = grind (arith, nat_tests)

pub outside-true : (s a : ℕ) → IsOutside s a → in_segment s a ≡ false
outside-true s a h = elim h [ inl l ↦ below s a l | inr r ↦ above s a r ]
  where
    below : (s a : ℕ) → a < segment_start s → in_segment s a ≡ false
    below s a h = grind (arith, nat_tests)

    above : (s a : ℕ) → segment_top s ≤ a → in_segment s a ≡ false
    above s a h = grind (arith, nat_tests)

pub in_segment-range : (s a : ℕ) → in_segment s a ≡ true → (segment_start s ≤ a) × (a < segment_top s)
in_segment-range s a h = (grind (arith, nat_tests), grind (arith, nat_tests))

dead-low : (m : ℕ → ℕ) (a : ℕ) → a < block_log_start → lives m a ≡ false
dead-low m a h = dead (registers_in (current m)) (state_in (current m)) a h
  where
    dead : (r s : ℕ → ℕ) (a : ℕ) → a < block_log_start → is_live r s a ≡ false
    dead r s a h = grind (arith, nat_tests)

-- what lies past the logs and the control words, and in memory
pub quiet-word : (m : ℕ → ℕ) (a : ℕ) → IsWellFormed m → outputs_start ≤ a
    → (in_segment (segment_of m) a ≡ true) ⊎ ((i : ℕ) × (i < count_of m) × (m (undo_address i) ≡ a)) → IsQuiet m a
quiet-word m a f low c =
    let g : gate_of m < 2 = f.gate in
    let n : count_of m ≤ 256 = f.count in
    let l : length_of m ≤ 128 = f.length in record {
      gate = λ e. omega arith;
      magic = λ e. omega arith;
      version = λ e. omega arith;
      slot = λ i k e. omega arith;
      count = λ e. omega arith;
      undo = λ i k e. omega arith;
      old = λ i k e. omega arith;
      block = λ i k e. omega arith;
      covered = inr c;
    }

-- a word of the working segment
pub quiet-plain : (m : ℕ → ℕ) (a : ℕ) → IsWellFormed m → segment_start (segment_of m) ≤ a → a < segment_top (segment_of m)
    → IsQuiet m a
quiet-plain m a f low high = quiet-word m a f (omega arith) (inl (in_segment-true (segment_of m) a low high))

-- a word that has a valid entry
pub quiet-logged : (m : ℕ → ℕ) (i : ℕ) → IsWellFormed m → i < count_of m → IsQuiet m (m (undo_address i))
quiet-logged m i f l = quiet-word m (m (undo_address i)) f (loggable-range (m (undo_address i)) (f.undo i l).0).0
    (inr (i, l, refl))

-- a word of the first entry that is not valid
pub quiet-entry : (m : ℕ → ℕ) (a : ℕ) → IsWellFormed m → undo_address (count_of m) ≤ a → a < block_log_start → IsQuiet m a
quiet-entry m a f low high =
    let g : gate_of m < 2 = f.gate in
    let n : count_of m ≤ 256 = f.count in
    let l : length_of m ≤ 128 = f.length in record {
      gate = λ e. omega arith;
      magic = λ e. omega arith;
      version = λ e. omega arith;
      slot = λ i k e. omega arith;
      count = λ e. omega arith;
      undo = λ i k e. omega arith;
      old = λ i k e. omega arith;
      block = λ i k e. omega arith;
      covered = inl (dead-low m a high);
    }

-- a word of the other slot
pub quiet-slot : (m : ℕ → ℕ) (i : ℕ) → IsWellFormed m → i < slot_words → IsQuiet m (slot_address (1 - gate_of m) i)
quiet-slot m i f h =
    let g : gate_of m < 2 = f.gate in
    let n : count_of m ≤ 256 = f.count in
    let l : length_of m ≤ 128 = f.length in record {
      gate = λ e. omega arith;
      magic = λ e. omega arith;
      version = λ e. omega arith;
      slot = λ j k e. omega arith;
      count = λ e. omega arith;
      undo = λ j k e. omega arith;
      old = λ j k e. omega arith;
      block = λ j k e. omega arith;
      covered = inl (dead-low m (slot_address (1 - gate_of m) i) (omega arith));
    }

-- the other slot's count
pub quiet-count : (m : ℕ → ℕ) → IsWellFormed m → IsQuiet m (count_address (1 - gate_of m))
quiet-count m f =
    let g : gate_of m < 2 = f.gate in
    let n : count_of m ≤ 256 = f.count in
    let l : length_of m ≤ 128 = f.length in record {
      gate = λ e. omega arith;
      magic = λ e. omega arith;
      version = λ e. omega arith;
      slot = λ j k e. omega arith;
      count = λ e. omega arith;
      undo = λ j k e. omega arith;
      old = λ j k e. omega arith;
      block = λ j k e. omega arith;
      covered = inl (dead-low m (count_address (1 - gate_of m)) (omega arith));
    }

-- the current count is written
count_is : (m : ℕ → ℕ) (v : ℕ) → IsWellFormed m → count_of (put m (count_address (gate_of m)) v) ≡ v
count_is m v f =
    let g : gate_of m < 2 = f.gate in
    ap (λ x. put m (count_address (gate_of m)) v (count_address x))
    (gate-kept m (count_address (gate_of m)) v (λ e. omega arith)) ∙ put-same m (count_address (gate_of m)) v

slot_kept : (m : ℕ → ℕ) (v i : ℕ) → IsWellFormed m → i < slot_words
    → current (put m (count_address (gate_of m)) v) i ≡ current m i
slot_kept m v i f h = let g : gate_of m < 2 = f.gate in current-kept m (count_address (gate_of m)) v i (λ e. omega arith)
    (λ e. omega arith)

pub entry_kept : (m : ℕ → ℕ) (v a : ℕ) → IsWellFormed m → 0x1014 ≤ a → put m (count_address (gate_of m)) v a ≡ m a
entry_kept m v a f h = let g : gate_of m < 2 = f.gate in put-other m (count_address (gate_of m)) v a (λ e. omega arith)

-- the control words, the slot and the block entries are kept, and each entry that is valid then is loggable
count-well_formed : (m : ℕ → ℕ) (v : ℕ) → IsWellFormed m → v ≤ 256
    → ((i : ℕ) → i < v → IsLoggable (m (undo_address i)) × IsOutside (segment_of m) (m (undo_address i)))
    → IsWellFormed (put m (count_address (gate_of m)) v)
count-well_formed m v f most entries =
    let g : gate_of m < 2 = f.gate in
    let same : gate_of (put m (count_address (gate_of m)) v) ≡ gate_of m =
    gate-kept m (count_address (gate_of m)) v (λ e. omega arith) in
    let sg : segment_of (put m (count_address (gate_of m)) v) ≡ segment_of m = slot_kept m v segment_place f (omega arith) in
    let op : open_of (put m (count_address (gate_of m)) v) ≡ open_of m = slot_kept m v block_open_place f (omega arith) in
    let ln : length_of (put m (count_address (gate_of m)) v) ≡ length_of m = slot_kept m v block_length_place f (omega arith) in
    let c : count_of (put m (count_address (gate_of m)) v) ≡ v = count_is m v f in record {
      magic = put-other m (count_address (gate_of m)) v magic_address (λ e. omega arith) ∙ f.magic;
      version = put-other m (count_address (gate_of m)) v version_address (λ e. omega arith) ∙ f.version;
      gate = subst (λ x. x < 2) (sym same) f.gate;
      count = subst (λ x. x ≤ 256) (sym c) most;
      undo = λ i l. let k : i < v = subst (λ x. i < x) c l in
          subst (λ s. IsLoggable (put m (count_address (gate_of m)) v (undo_address i)) × IsOutside s
          (put m (count_address (gate_of m)) v (undo_address i))) (sym sg)
          (subst (λ x. IsLoggable x × IsOutside (segment_of m) x) (sym (entry_kept m v (undo_address i) f (omega arith)))
          (entries i k));
      segment = subst (λ x. x < 32) (sym sg) f.segment;
      block_open = subst (λ x. x < 2) (sym op) f.block_open;
      length = subst (λ x. x ≤ 128) (sym ln) f.length;
      block = λ i l. let k : i < length_of m = subst (λ x. i < x) ln l in subst IsLoggable
          (sym (entry_kept m v (block_address i) f (omega arith))) (f.block i k);
    }

-- The count is raised over an entry that is the word that stands.
pub raised-well_formed : (m : ℕ → ℕ) → IsWellFormed m → count_of m < 256 → IsLoggable (m (undo_address (count_of m)))
    → IsOutside (segment_of m) (m (undo_address (count_of m)))
    → IsWellFormed (put m (count_address (gate_of m)) (suc (count_of m)))
raised-well_formed m f room loggable outside = count-well_formed m (suc (count_of m)) f (omega arith)
    (λ i l. elim (same_or_not i (count_of m)) [
      | inl e ↦ subst (λ n. IsLoggable (m (undo_address n)) × IsOutside (segment_of m) (m (undo_address n))) (sym e)
          (loggable, outside)
      | inr d ↦ f.undo i (omega arith)
    ])

raised-undone : (m : ℕ → ℕ) (b : ℕ) → IsWellFormed m → m (undo_address (count_of m) + 2) ≡ m (m (undo_address (count_of m)))
    → block_log_start ≤ b → undone (put m (count_address (gate_of m)) (suc (count_of m))) b ≡ undone m b
raised-undone m b f old h =
    let g : gate_of m < 2 = f.gate in
    let w = put m (count_address (gate_of m)) (suc (count_of m)) in
    ap (λ n. put_back (λ i. w (undo_address i)) (λ i. w (undo_address i + 2)) n w b) (count_is m (suc (count_of m)) f)
    ∙ put_back-cong (λ i. w (undo_address i)) (λ i. m (undo_address i)) (λ i. w (undo_address i + 2))
    (λ i. m (undo_address i + 2)) (suc (count_of m)) w w b
    (λ i l. entry_kept m (suc (count_of m)) (undo_address i) f (omega arith))
    (λ i l. entry_kept m (suc (count_of m)) (undo_address i + 2) f (omega arith)) refl
    ∙ put_back-cong (λ i. m (undo_address i)) (λ i. m (undo_address i)) (λ i. m (undo_address i + 2))
    (λ i. m (undo_address i + 2)) (count_of m) (put w (m (undo_address (count_of m))) (m (undo_address (count_of m) + 2)))
    m b
    (λ i l. refl) (λ i l. refl) (put_undone m (count_address (gate_of m)) (suc (count_of m)) (m (undo_address (count_of m)))
    (m (undo_address (count_of m) + 2)) b (λ e. omega arith) old)

pub raised-recovered : (m : ℕ → ℕ) → IsWellFormed m → m (undo_address (count_of m) + 2) ≡ m (m (undo_address (count_of m)))
    → recovered (put m (count_address (gate_of m)) (suc (count_of m))) ≡ recovered m
raised-recovered m f old =
    of_slot-same (current (put m (count_address (gate_of m)) (suc (count_of m)))) (current m)
    (undone (put m (count_address (gate_of m)) (suc (count_of m)))) (undone m)
    (λ i l. slot_kept m (suc (count_of m)) i f l) (λ b alive outside. raised-undone m b f old
    (live-low (registers_in (current m)) (state_in (current m)) b alive))

-- The count is cleared where each old word stands again.
pub cleared-well_formed : (m : ℕ → ℕ) → IsWellFormed m → IsWellFormed (put m (count_address (gate_of m)) 0)
cleared-well_formed m f = count-well_formed m 0 f (omega arith) (λ i l. absurd (omega arith))

pub cleared-count : (m : ℕ → ℕ) → IsWellFormed m → count_of (put m (count_address (gate_of m)) 0) ≡ 0
cleared-count m f = count_is m 0 f

pub cleared-recovered : (m : ℕ → ℕ) → IsWellFormed m → ((b : ℕ) → lives m b ≡ true → in_segment (segment_of m) b ≡ false
    → m b ≡ undone m b) → recovered (put m (count_address (gate_of m)) 0) ≡ recovered m
cleared-recovered m f back =
    let w = put m (count_address (gate_of m)) 0 in
    of_slot-same (current w) (current m) (undone w) (undone m) (λ i l. slot_kept m 0 i f l) (λ b alive outside.
    ap (λ n. put_back (λ i. w (undo_address i)) (λ i. w (undo_address i + 2)) n w b) (count_is m 0 f)
    ∙ entry_kept m 0 b f (let x : block_log_start ≤ b = live-low (registers_in (current m)) (state_in (current m)) b
    alive in omega arith) ∙ back b alive outside)

pub raised-count : (m : ℕ → ℕ) → IsWellFormed m → count_of (put m (count_address (gate_of m)) (suc (count_of m))) ≡ suc
    (count_of m)
raised-count m f = count_is m (suc (count_of m)) f

-- The gate names the other slot, whose count is 0.
pub gate-count : (m : ℕ → ℕ) (h : ℕ) → h < 2 → m (count_address h) ≡ 0 → count_of (put m gate_address h) ≡ 0
gate-count m h two none = ap (λ x. put m gate_address h (count_address x)) (put-same m gate_address h)
    ∙ put-other m gate_address h (count_address h) (λ e. omega arith) ∙ none

pub gate-current : (m : ℕ → ℕ) (h i : ℕ) → h < 2 → i < slot_words → current (put m gate_address h) i ≡ slot_of m h i
gate-current m h i two l = ap (λ x. put m gate_address h (slot_address x i)) (put-same m gate_address h)
    ∙ put-other m gate_address h (slot_address h i) (λ e. omega arith)

pub gate-recovered : (m : ℕ → ℕ) (h : ℕ) → h < 2 → m (count_address h) ≡ 0
    → recovered (put m gate_address h) ≡ of_slot (slot_of m h) m
gate-recovered m h two none =
    let w = put m gate_address h in
    of_slot-same (current w) (slot_of m h) (undone w) m
    (λ i l. gate-current m h i two l)
    (λ b alive outside. ap (λ k. put_back (λ i. w (undo_address i)) (λ i. w (undo_address i + 2)) k w b)
    (gate-count m h two none)
    ∙ put-other m gate_address h b (λ e. let x : block_log_start ≤ b =
    live-low (registers_in (slot_of m h)) (state_in (slot_of m h)) b alive in omega arith))

pub gate-well_formed : (m : ℕ → ℕ) (h : ℕ) → IsWellFormed m → h < 2 → m (count_address h) ≡ 0 → IsState (slot_of m h) m
    → IsWellFormed (put m gate_address h)
gate-well_formed m h f two none state =
    let n : count_of (put m gate_address h) ≡ 0 = gate-count m h two none in record {
      magic = put-other m gate_address h magic_address (λ e. omega arith) ∙ f.magic;
      version = put-other m gate_address h version_address (λ e. omega arith) ∙ f.version;
      gate = subst (λ x. x < 2) (sym (put-same m gate_address h)) two;
      count = subst (λ x. x ≤ undo_entries) (sym n) (omega arith);
      undo = λ i l. absurd (omega (arith, n, l));
      segment = subst (λ x. x < segment_count) (sym (gate-current m h segment_place two (omega arith))) state.segment;
      block_open = subst (λ x. x < 2) (sym (gate-current m h block_open_place two (omega arith))) state.block_open;
      length = subst (λ x. x ≤ block_entries) (sym (gate-current m h block_length_place two (omega arith))) state.length;
      block = λ i l.
          let k : i < slot_of m h block_length_place = subst (λ x. i < x)
          (gate-current m h block_length_place two (omega arith)) l in
          subst IsLoggable (sym (put-other m gate_address h (block_address i) (λ e. omega arith))) (state.block i k);
    }

-- a word that does not live, past the undo log
live-entry : (r s : ℕ → ℕ) (i a : ℕ) → i < s 2 → s 2 ≤ block_entries → a ≡ block_address i → is_live r s a ≡ true
live-entry r s i a h k e = grind (arith, nat_tests)

pub quiet-dead : (m : ℕ → ℕ) (a : ℕ) → IsWellFormed m → block_log_start ≤ a → lives m a ≡ false → IsQuiet m a
quiet-dead m a f low dead =
    let g : gate_of m < 2 = f.gate in
    let n : count_of m ≤ undo_entries = f.count in
    let l : length_of m ≤ block_entries = f.length in record {
      gate = λ e. omega arith;
      magic = λ e. omega arith;
      version = λ e. omega arith;
      slot = λ i k e. omega arith;
      count = λ e. omega arith;
      undo = λ i k e. omega arith;
      old = λ i k e. omega arith;
      block = λ i k e. let t : lives m a ≡ true = live-entry (registers_in (current m)) (state_in (current m)) i a k l e in cc;
      covered = inl dead;
    }

-- a word of a segment above the working one, as the link word of a new segment is
pub above-dead : (m : ℕ → ℕ) (a : ℕ) → IsWellFormed m → segment_top (segment_of m) ≤ a → a < stack_end → lives m a ≡ false
above-dead m a f low high = dead (registers_in (current m)) (state_in (current m)) a f.length low high
  where
    dead : (r s : ℕ → ℕ) (a : ℕ) → s 2 ≤ block_entries → segment_top (s 0) ≤ a → a < stack_end → is_live r s a ≡ false
    dead r s a h low high = grind (arith, nat_tests)

-- a word of the block log at or past its length
pub past-dead : (m : ℕ → ℕ) (a : ℕ) → block_address (length_of m) ≤ a → a < outputs_start → lives m a ≡ false
past-dead m a low high = dead (registers_in (current m)) (state_in (current m)) a low high
  where
    dead : (r s : ℕ → ℕ) (a : ℕ) → block_address (s 2) ≤ a → a < outputs_start → is_live r s a ≡ false
    dead r s a low high = grind (arith, nat_tests)

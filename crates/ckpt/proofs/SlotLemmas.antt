-- The slot is filled word by word, and then the gate names it.
use Rattle.std.proofs.Common.{◌≡◌, ℕ, ◌+◌, ◌-◌, ◌*◌, ◌/◌, ◌%◌, ◌<◌, ◌≤◌, Bool, true, false, cond, List, slice_index}
use Rattle.std.proofs.Common.{refl, sym, ◌∙◌, ap, subst, inl, inr, arith, nat_lt}
use Rattle.std.proofs.lemmas.Bool.Decides.{nat_tests}
use Rattle.base16.proofs.Writes.{put-same, put-other}
use Rattle.base16.specs.Board.{segment_start}
use Rattle.base16.specs.Memory.{put}
use Rattle.board_map.specs.Map.{undo_log_start, gate_address, segment_place, block_length_place, slot_address}
use Rattle.board_map.specs.Map.{count_address, block_address, gate_of, slot_of, count_of, in_segment, IsLoggable}
use Rattle.board_map.specs.Recovered.{first, with_segment, registers_in, state_in, of_slot, recovered, machine_of}
use Rattle.board_map.specs.Ticks.{slot_word, gate_word, Keeps}
use Rattle.board_map.specs.WellFormed.{IsState, IsWellFormed}
use Rattle.board_map.proofs.TickKinds.{tick_keeps}
use Rattle.board_map.proofs.Undoing.{segment-place}
use Rattle.board_map.proofs.Writes.{same_or_not, first_same, machine_same, live-low, live-even}
use Rattle.ckpt.specs.Slot.{slot_value, StaysElsewhere, Fills}

value_same : (r s : List ℕ) (m w : ℕ → ℕ) (i : ℕ) → ((b : ℕ) → undo_log_start ≤ b → w b ≡ m b)
    → slot_value r s w i ≡ slot_value r s m i
value_same r s m w i h = choose (nat_lt i 128) (w (segment_start (slice_index s 0) + 2 * i))
    (m (segment_start (slice_index s 0) + 2 * i)) (cond (nat_lt i 144) (slice_index r (i - 128)) (slice_index s (i - 144)))
    (h (segment_start (slice_index s 0) + 2 * i) (omega arith))
  where
    choose : (b : Bool) (x y z : ℕ) → x ≡ y → cond b x z ≡ cond b y z
    choose b x y z e = ap (λ k. cond b k z) e

-- what lies past the slots is elsewhere
pub past : (m w : ℕ → ℕ) (slot : ℕ) → slot < 2 → StaysElsewhere slot m w → (b : ℕ) → undo_log_start ≤ b → w b ≡ m b
past m w slot small h b l = h b (record { word = λ i k e. omega arith; count = λ e. omega arith; gate = λ e. omega arith })

pub fill_start : (m : ℕ → ℕ) (slot : ℕ) (r s : List ℕ) → IsWellFormed m → Fills slot r s 0 m m
fill_start m slot r s f = record {
  well_formed = f;
  recovered = refl;
  gate = refl;
  count = refl;
  elsewhere = λ b h. refl;
  words_are = λ i h. absurd (omega arith);
}

pub fill_step : (m w u : ℕ → ℕ) (slot : ℕ) (r s : List ℕ) (n x : ℕ) → Fills slot r s n m w → n < 153 → slot ≡ 1 - gate_of m
    → x ≡ slot_value r s w n → u ≡ put w (slot_address slot n) x → Fills slot r s (n + 1) m u
fill_step m w u slot r s n x h within other value was =
    let o : slot ≡ 1 - gate_of w = omega (arith, other, h.gate) in
    let t : Keeps slot_word w (put w (slot_address slot n) x) =
    tick_keeps slot_word w (slot_address slot n) x h.well_formed (inl (n, within, ap (λ k. slot_address k n) o)) in
    let g : gate_of w < 2 = h.well_formed.gate in
    let small : slot < 2 = omega arith in
    subst (Fills slot r s (n + 1) m) (sym was) (record {
      well_formed = t.well_formed;
      recovered = t.recovered ∙ h.recovered;
      gate = t.gate ∙ h.gate;
      count = t.entries ∙ h.count;
      elsewhere = λ b l. put-other w (slot_address slot n) x b (l.word n within) ∙ h.elsewhere b l;
      words_are = λ i l. elim (same_or_not i n) [
        | inl e ↦ ap (λ k. put w (slot_address slot n) x (slot_address slot k)) e ∙ put-same w (slot_address slot n) x ∙ value
            ∙ value_same r s m w n (past m w slot small h.elsewhere) ∙ ap (slot_value r s m) (sym e)
        | inr d ↦ put-other w (slot_address slot n) x (slot_address slot i) (λ e. d (omega arith)) ∙ h.words_are i (omega arith)
      ];
    })

pub fill_none : (m w : ℕ → ℕ) (slot : ℕ) (r s : List ℕ) (n : ℕ) → Fills slot r s n m w → Fills slot r s 0 m w
fill_none m w slot r s n h = record {
  well_formed = h.well_formed;
  recovered = h.recovered;
  gate = h.gate;
  count = h.count;
  elsewhere = h.elsewhere;
  words_are = λ i l. absurd (omega arith);
}

value_segment : (r s : List ℕ) (m : ℕ → ℕ) (i : ℕ) → i < 128 → slot_value r s m i ≡ m (segment_start (slice_index s 0) + 2 * i)
value_segment r s m i h = grind (arith, nat_tests)

value_register : (r s : List ℕ) (m : ℕ → ℕ) (k : ℕ) → k < 16 → slot_value r s m (128 + k) ≡ slice_index r k
value_register r s m k h =
    let e : 128 + k - 128 ≡ k = omega arith in
    choose (nat_lt (128 + k) 128) (nat_lt (128 + k) 144) (m (segment_start (slice_index s 0) + 2 * (128 + k)))
    (slice_index r (128 + k - 128)) (slice_index s (128 + k - 144)) (slice_index r k) (grind (arith, nat_tests))
    (grind (arith, nat_tests)) (ap (slice_index r) e)
  where
    choose : (p q : Bool) (x y z v : ℕ) → p ≡ false → q ≡ true → y ≡ v → cond p x (cond q y z) ≡ v
    choose true q x y z v h k e = cc
    choose false true x y z v h k e = e
    choose false false x y z v h k e = cc

value_state : (r s : List ℕ) (m : ℕ → ℕ) (k : ℕ) → k < 9 → slot_value r s m (144 + k) ≡ slice_index s k
value_state r s m k h =
    let e : 144 + k - 144 ≡ k = omega arith in
    choose (nat_lt (144 + k) 128) (nat_lt (144 + k) 144) (m (segment_start (slice_index s 0) + 2 * (144 + k)))
    (slice_index r (144 + k - 128)) (slice_index s (144 + k - 144)) (slice_index s k) (grind (arith, nat_tests))
    (grind (arith, nat_tests)) (ap (slice_index s) e)
  where
    choose : (p q : Bool) (x y z v : ℕ) → p ≡ false → q ≡ false → z ≡ v → cond p x (cond q y z) ≡ v
    choose true q x y z v h k e = cc
    choose false true x y z v h k e = cc
    choose false false x y z v h k e = e

by_test : (q : Bool) (u x y : ℕ) → (q ≡ true → u ≡ y) → (q ≡ false → x ≡ y) → cond q u x ≡ y
by_test true u x y h k = h refl
by_test false u x y h k = k refl

-- a segment whose copy has its words stands for itself
copied : (x b : ℕ) (f v m : ℕ → ℕ) → b % 2 ≡ 0 → ((i : ℕ) → i < 128 → f i ≡ m (segment_start x + 2 * i)) → v b ≡ m b
    → with_segment x f v b ≡ m b
copied x b f v m even copy here = by_test (in_segment x b) (f ((b - segment_start x) / 2)) (v b) (m b)
    (λ inside. let p = segment-place x b even inside in copy ((b - segment_start x) / 2) p.0 ∙ ap m p.1) (λ outside. here)

-- the machine of a filled slot
pub slot_machine : (r s : List ℕ) (m v f : ℕ → ℕ) → ((i : ℕ) → i < 153 → f i ≡ slot_value r s m i)
    → ((b : ℕ) → undo_log_start ≤ b → v b ≡ m b) → of_slot f v ≡ machine_of r s m
slot_machine r s m v f words past =
    let R = first 16 (λ k. slice_index r k) in
    let S = first 9 (λ k. slice_index s k) in
    machine_same (registers_in f) (state_in f) R S (with_segment (f segment_place) f v) m
    (first_same 16 (λ k. f (128 + k)) (λ k. slice_index r k) (λ k h. words (128 + k) (omega arith) ∙ value_register r s m k h))
    (first_same 9 (λ k. f (144 + k)) (λ k. slice_index s k) (λ k h. words (144 + k) (omega arith) ∙ value_state r s m k h))
    (λ b alive.
    let low = live-low R S b alive in
    ap (λ x. with_segment x f v b) (words 144 (omega arith) ∙ value_state r s m 0 (omega arith))
    ∙ copied (slice_index s 0) b f v m (live-even R S b alive) (λ i l. words i (omega arith) ∙ value_segment r s m i l)
    (past b (omega (arith, low))))

-- the count of the other slot is cleared
pub count_step : (m w u : ℕ → ℕ) (slot : ℕ) (r s : List ℕ) → Fills slot r s 153 m w → slot ≡ 1 - gate_of m
    → u ≡ put w (count_address slot) 0 → Fills slot r s 153 m u
count_step m w u slot r s h other was =
    let o : slot ≡ 1 - gate_of w = omega (arith, other, h.gate) in
    let t : Keeps slot_word w (put w (count_address slot) 0) =
    tick_keeps slot_word w (count_address slot) 0 h.well_formed (inr (ap count_address o)) in
    let g : gate_of w < 2 = h.well_formed.gate in
    let small : slot < 2 = omega arith in
    subst (Fills slot r s 153 m) (sym was) (record {
      well_formed = t.well_formed;
      recovered = t.recovered ∙ h.recovered;
      gate = t.gate ∙ h.gate;
      count = t.entries ∙ h.count;
      elsewhere = λ b l. put-other w (count_address slot) 0 b l.count ∙ h.elsewhere b l;
      words_are = λ i l. put-other w (count_address slot) 0 (slot_address slot i) (λ e. omega arith) ∙ h.words_are i l;
    })

-- the gate is written
pub record Switched (slot : ℕ) (r s : List ℕ) (m new : ℕ → ℕ) : Type 0 where
  pub well_formed : IsWellFormed new
  pub recovered : recovered new ≡ machine_of r s m
  pub count : count_of new ≡ 0
  pub elsewhere : StaysElsewhere slot m new

-- the state words in the filled slot are in their ranges
filled_state : (m v f : ℕ → ℕ) (r s : List ℕ) → ((i : ℕ) → i < 153 → f i ≡ slot_value r s m i)
    → ((b : ℕ) → undo_log_start ≤ b → v b ≡ m b)
    → slice_index s 0 < 32 → slice_index s 1 < 2 → slice_index s 2 ≤ 128
    → ((i : ℕ) → i < slice_index s 2 → IsLoggable (m (block_address i))) → IsState f v
filled_state m v f r s words past segment opened len block =
    let l : f block_length_place ≡ slice_index s 2 = words 146 (omega arith) ∙ value_state r s m 2 (omega arith) in record {
      segment = subst (λ x. x < 32) (sym (words 144 (omega arith) ∙ value_state r s m 0 (omega arith))) segment;
      block_open = subst (λ x. x < 2) (sym (words 145 (omega arith) ∙ value_state r s m 1 (omega arith))) opened;
      length = subst (λ x. x ≤ 128) (sym l) len;
      block = λ i k. let n : i < slice_index s 2 = subst (λ x. i < x) l k in subst IsLoggable
          (sym (past (block_address i) (omega arith))) (block i n);
    }

pub gate_step : (m w v u : ℕ → ℕ) (slot : ℕ) (r s : List ℕ) → Fills slot r s 153 m w → slot ≡ 1 - gate_of m
    → v ≡ put w (count_address slot) 0 → u ≡ put v gate_address slot
    → slice_index s 0 < 32 → slice_index s 1 < 2 → slice_index s 2 ≤ 128
    → ((i : ℕ) → i < slice_index s 2 → IsLoggable (m (block_address i))) → Switched slot r s m u
gate_step m w v u slot r s h other was1 was2 segment opened len block =
    let k : Fills slot r s 153 m v = count_step m w v slot r s h other was1 in
    let o : slot ≡ 1 - gate_of v = omega (arith, other, k.gate) in
    let small : slot < 2 = omega arith in
    let none : v (count_address slot) ≡ 0 = ap (λ (f : ℕ → ℕ). f (count_address slot)) was1
    ∙ put-same w (count_address slot) 0 in
    let state : IsState (slot_of v slot) v = filled_state m v (slot_of v slot) r s k.words_are
    (past m v slot small k.elsewhere) segment opened len block in
    let t : Keeps gate_word v (put v gate_address slot) = tick_keeps gate_word v gate_address slot k.well_formed
    (record {
      place = refl;
      value = o;
      count = subst (λ i. v (count_address i) ≡ 0) o none;
      state =
          subst (λ i. IsState (slot_of v i) v) o state;
    }) in
    subst (Switched slot r s m) (sym was2) (record {
      well_formed = t.well_formed;
      recovered = t.recovered ∙ ap (λ i. of_slot (slot_of v i) v) (sym o)
          ∙ slot_machine r s m v (slot_of v slot) k.words_are (past m v slot small k.elsewhere);
      count = t.entries;
      elsewhere = λ b l. put-other v gate_address slot b l.gate ∙ k.elsewhere b l;
    })

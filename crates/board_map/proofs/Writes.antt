-- What one word written does to a memory: each kind of write keeps it well formed, and has a known effect on the machine
-- to which it recovers.
use Rattle.std.proofs.Common.{◌≡◌, ◌≢◌, ℕ, ◌+◌, ◌-◌, ◌/◌, ◌%◌, ◌<◌, ◌≤◌, ◌⊎◌, Bool, true, false, cond, zero, suc, refl}
use Rattle.std.proofs.Common.{sym, ◌∙◌, ap, subst, inl, inr, arith}
use Rattle.std.proofs.Math.Path.{fun_ext}
use Rattle.std.proofs.lemmas.Bool.Decides.{nat_tests}
use Rattle.base16.proofs.Writes.{put-other}
use Rattle.base16.specs.Board.{outputs_start, data_end, segment_start}
use Rattle.base16.specs.Memory.{put}
use Rattle.board_map.specs.Map.{gate_address, magic_address, version_address, block_log_start, slot_words}
use Rattle.board_map.specs.Map.{segment_place, slot_address, count_address, undo_address, block_address, gate_of}
use Rattle.board_map.specs.Map.{current, count_of, segment_of, open_of, length_of, in_segment, IsLoggable, IsOutside}
use Rattle.board_map.specs.Recovered.{Machine, first, is_live, lives, machine, with_segment, put_back, undone}
use Rattle.board_map.specs.Recovered.{registers_in, state_in, of_slot, recovered}
use Rattle.board_map.specs.WellFormed.{IsWellFormed}

pub put_cong : (m w : ℕ → ℕ) (b a c v x : ℕ) → m b ≡ w b → a ≡ c → v ≡ x → put m a v b ≡ put w c x b
unfolding put
put_cong m w b a c v x h e f = grind (arith, nat_tests)

put_covered : (m w : ℕ → ℕ) (a v b : ℕ) → a ≡ b → put m a v b ≡ put w a v b
unfolding put
put_covered m w a v b e = grind (arith, nat_tests)

pub put_undone : (m : ℕ → ℕ) (a v t o b : ℕ) → b ≢ a → o ≡ m t → put (put m a v) t o b ≡ m b
unfolding put
put_undone m a v t o b ne e = grind (arith, nat_tests)

-- a number is another or not
pub same_or_not : (b a : ℕ) → (b ≡ a) ⊎ (b ≢ a)
same_or_not b a = grind (arith, nat_tests)

-- what is put back at an address counts the entries' words, and the word there before
pub put_back-cong : (p q o r : ℕ → ℕ) (n : ℕ) (m w : ℕ → ℕ) (b : ℕ) → ((i : ℕ) → i < n → p i ≡ q i)
    → ((i : ℕ) → i < n → o i ≡ r i) → m b ≡ w b → put_back p o n m b ≡ put_back q r n w b
put_back-cong p q o r zero m w b hp ho h = h
put_back-cong p q o r (suc n) m w b hp ho h =
    put_back-cong p q o r n (put m (p n) (o n)) (put w (q n) (r n)) b (λ i l. hp i (omega arith)) (λ i l. ho i (omega arith))
    (put_cong m w b (p n) (q n) (o n) (r n) h (hp n (omega arith)) (ho n (omega arith)))

-- at an address that has an entry the word before does not count
pub put_back-covered : (p o : ℕ → ℕ) (n : ℕ) (m w : ℕ → ℕ) (b i : ℕ) → i < n → p i ≡ b → put_back p o n m b ≡ put_back p o n w b
put_back-covered p o zero m w b i l e = absurd (omega arith)
put_back-covered p o (suc n) m w b i l e = elim (same_or_not i n) [
  | inl s ↦ put_back-cong p p o o n (put m (p n) (o n)) (put w (p n) (o n)) b (λ k lt. refl) (λ k lt. refl)
      (put_covered m w (p n) (o n) b (ap p (sym s) ∙ e))
  | inr d ↦ put_back-covered p o n (put m (p n) (o n)) (put w (p n) (o n)) b i (omega arith) e
]

pub first_same : (n : ℕ) (f g : ℕ → ℕ) → ((k : ℕ) → k < n → f k ≡ g k) → first n f ≡ first n g
first_same n f g h = fun_ext (λ k. first_same_at n f g k h)
  where
    first_same_at : (n : ℕ) (f g : ℕ → ℕ) (k : ℕ) → ((k : ℕ) → k < n → f k ≡ g k) → first n f k ≡ first n g k
    first_same_at n f g k h = grind (arith, nat_tests, h k)

-- a machine counts its registers, its state words and the words that live
if_live : (p : Bool) (x y : ℕ) → (p ≡ true → x ≡ y) → cond p x 0 ≡ cond p y 0
if_live true x y h = h refl
if_live false x y h = refl

pub machine_same : (r s t u m w : ℕ → ℕ) → r ≡ t → s ≡ u → ((b : ℕ) → is_live t u b ≡ true → m b ≡ w b)
    → machine r s m ≡ machine t u w
machine_same r s t u m w e f h =
    ap (λ (q : ℕ → ℕ). machine q s m) e ∙ ap (λ (q : ℕ → ℕ). machine t q m) f
    ∙ ap of_memory (fun_ext (λ b. if_live (is_live t u b) (m b) (w b) (h b)))
  where
    of_memory : (ℕ → ℕ) → Machine
    of_memory k = record { registers = t; state = u; memory = k }

-- a machine counts the slot's 153 words, and the words that live outside its working segment
in_segment-index : (s b : ℕ) → in_segment s b ≡ true → (b - segment_start s) / 2 < slot_words
in_segment-index s b h = grind (arith, nat_tests)

with_segment-same : (x : ℕ) (s t m w : ℕ → ℕ) (b : ℕ) → ((i : ℕ) → i < slot_words → s i ≡ t i)
    → (in_segment x b ≡ false → m b ≡ w b) → with_segment x s m b ≡ with_segment x t w b
with_segment-same x s t m w b hs hm = by_test (in_segment x b) (s ((b - segment_start x) / 2)) (t ((b - segment_start x) / 2))
    (m b) (w b) (λ h. hs ((b - segment_start x) / 2) (in_segment-index x b h)) hm
  where
    by_test : (q : Bool) (u v x y : ℕ) → (q ≡ true → u ≡ v) → (q ≡ false → x ≡ y) → cond q u x ≡ cond q v y
    by_test true u v x y h k = h refl
    by_test false u v x y h k = k refl

pub of_slot-same : (s t m w : ℕ → ℕ) → ((i : ℕ) → i < slot_words → s i ≡ t i)
    → ((b : ℕ) → is_live (registers_in t) (state_in t) b ≡ true → in_segment (t segment_place) b ≡ false → m b ≡ w b)
    → of_slot s m ≡ of_slot t w
of_slot-same s t m w hs hm =
    machine_same (registers_in s) (state_in s) (registers_in t) (state_in t) (with_segment (s segment_place) s m)
    (with_segment (t segment_place) t w)
    (first_same 16 (λ k. s (128 + k)) (λ k. t (128 + k)) (λ k l. hs (128 + k) (omega arith)))
    (first_same 9 (λ k. s (144 + k)) (λ k. t (144 + k)) (λ k l. hs (144 + k) (omega arith)))
    (λ b alive. ap (λ x. with_segment x s m b) (hs segment_place (omega arith))
    ∙ with_segment-same (t segment_place) s t m w b hs (hm b alive))

pub live-low : (r s : ℕ → ℕ) (b : ℕ) → is_live r s b ≡ true → block_log_start ≤ b
live-low r s b h = grind (arith, nat_tests)

pub live-even : (r s : ℕ → ℕ) (b : ℕ) → is_live r s b ≡ true → b % 2 ≡ 0
live-even r s b h = grind (arith, nat_tests)

pub loggable-range : (a : ℕ) → IsLoggable a → (outputs_start ≤ a) × (a < data_end) × (a % 2 ≡ 0)
loggable-range a h = elim h.range [ inl r ↦ (omega arith, omega arith, h.even) | inr r ↦ (omega arith, omega arith, h.even) ]

-- A write in one of the places where it changes nothing that counts: a dead word, a word of the working segment, a word
-- that has a valid entry.
pub record IsQuiet (m : ℕ → ℕ) (a : ℕ) : Type 0 where
  pub gate : a ≢ gate_address
  pub magic : a ≢ magic_address
  pub version : a ≢ version_address
  pub slot : (i : ℕ) → i < slot_words → a ≢ slot_address (gate_of m) i
  pub count : a ≢ count_address (gate_of m)
  pub undo : (i : ℕ) → i < count_of m → a ≢ undo_address i
  pub old : (i : ℕ) → i < count_of m → a ≢ undo_address i + 2
  pub block : (i : ℕ) → i < length_of m → a ≢ block_address i
  pub covered : (lives m a ≡ false) ⊎ (in_segment (segment_of m) a ≡ true)
      ⊎ ((i : ℕ) × (i < count_of m) × (m (undo_address i) ≡ a))

-- the control words, the current slot and the valid entries after a write elsewhere
pub gate-kept : (m : ℕ → ℕ) (a v : ℕ) → a ≢ gate_address → gate_of (put m a v) ≡ gate_of m
gate-kept m a v h = put-other m a v gate_address (λ e. h (sym e))

pub current-kept : (m : ℕ → ℕ) (a v i : ℕ) → a ≢ gate_address → a ≢ slot_address (gate_of m) i
    → current (put m a v) i ≡ current m i
current-kept m a v i h k = ap (λ x. put m a v (slot_address x i)) (gate-kept m a v h)
    ∙ put-other m a v (slot_address (gate_of m) i) (λ e. k (sym e))

pub count-kept : (m : ℕ → ℕ) (a v : ℕ) → a ≢ gate_address → a ≢ count_address (gate_of m) → count_of (put m a v) ≡ count_of m
count-kept m a v h k = ap (λ x. put m a v (count_address x)) (gate-kept m a v h)
    ∙ put-other m a v (count_address (gate_of m)) (λ e. k (sym e))

-- a memory stays well formed where all that counts for it is kept
pub well_formed-kept : (m w : ℕ → ℕ) → IsWellFormed m → w magic_address ≡ m magic_address
    → w version_address ≡ m version_address → gate_of w ≡ gate_of m → count_of w ≡ count_of m → segment_of w ≡ segment_of m
    → open_of w ≡ open_of m → length_of w ≡ length_of m → ((i : ℕ) → i < count_of m → w (undo_address i) ≡ m (undo_address i))
    → ((i : ℕ) → i < length_of m → w (block_address i) ≡ m (block_address i)) → IsWellFormed w
well_formed-kept m w f magic version gate count segment opened len undo block = record {
  magic = magic ∙ f.magic;
  version = version ∙ f.version;
  gate = subst (λ x. x < 2) (sym gate) f.gate;
  count = subst (λ x. x ≤ 256) (sym count) f.count;
  undo = λ i l. let k : i < count_of m = subst (λ x. i < x) count l in
      subst (λ s. IsLoggable (w (undo_address i)) × IsOutside s (w (undo_address i))) (sym segment)
      (subst (λ x. IsLoggable x × IsOutside (segment_of m) x) (sym (undo i k)) (f.undo i k));
  segment = subst (λ x. x < 32) (sym segment) f.segment;
  block_open = subst (λ x. x < 2) (sym opened) f.block_open;
  length = subst (λ x. x ≤ 128) (sym len) f.length;
  block = λ i l. let k : i < length_of m = subst (λ x. i < x) len l in subst IsLoggable (sym (block i k)) (f.block i k);
}

pub quiet-well_formed : (m : ℕ → ℕ) (a v : ℕ) → IsWellFormed m → IsQuiet m a → IsWellFormed (put m a v)
quiet-well_formed m a v f q =
    well_formed-kept m (put m a v) f (put-other m a v magic_address (λ e. q.magic (sym e)))
    (put-other m a v version_address (λ e. q.version (sym e)))
    (gate-kept m a v q.gate) (count-kept m a v q.gate q.count)
    (current-kept m a v 144 q.gate (q.slot 144 (omega arith))) (current-kept m a v 145 q.gate (q.slot 145 (omega arith)))
    (current-kept m a v 146 q.gate (q.slot 146 (omega arith)))
    (λ i l. put-other m a v (undo_address i) (λ e. q.undo i l (sym e)))
    (λ i l. put-other m a v (block_address i) (λ e. q.block i l (sym e)))

-- what is put back after a write of anything but the count
undone-put : (m : ℕ → ℕ) (a v b : ℕ) → IsQuiet m a → undone (put m a v) b ≡ put_back (λ i. m (undo_address i))
    (λ i. m (undo_address i + 2)) (count_of m) (put m a v) b
undone-put m a v b q =
    ap (λ n. put_back (λ i. put m a v (undo_address i)) (λ i. put m a v (undo_address i + 2)) n (put m a v) b)
    (count-kept m a v q.gate q.count)
    ∙ put_back-cong (λ i. put m a v (undo_address i)) (λ i. m (undo_address i)) (λ i. put m a v (undo_address i + 2))
    (λ i. m (undo_address i + 2)) (count_of m) (put m a v) (put m a v) b
    (λ i l. put-other m a v (undo_address i) (λ e. q.undo i l (sym e)))
    (λ i l. put-other m a v (undo_address i + 2) (λ e. q.old i l (sym e))) refl

put_back-other : (p o : ℕ → ℕ) (n : ℕ) (m : ℕ → ℕ) (a v b : ℕ) → b ≢ a → put_back p o n (put m a v) b ≡ put_back p o n m b
put_back-other p o n m a v b h = put_back-cong p p o o n (put m a v) m b (λ i l. refl) (λ i l. refl) (put-other m a v b h)

pub differ_by : (f : ℕ → Bool) (b a : ℕ) → f b ≡ true → f a ≡ false → b ≢ a
differ_by f b a t u e = let s : f b ≡ f a = ap f e in cc

differ_by' : (f : ℕ → Bool) (b a : ℕ) → f b ≡ false → f a ≡ true → b ≢ a
differ_by' f b a t u e = let s : f b ≡ f a = ap f e in cc

pub quiet-undone : (m : ℕ → ℕ) (a v b : ℕ) → IsQuiet m a → lives m b ≡ true → in_segment (segment_of m) b ≡ false
    → undone (put m a v) b ≡ undone m b
quiet-undone m a v b q alive outside = undone-put m a v b q ∙ elim q.covered [
  | inl dead ↦ put_back-other (λ i. m (undo_address i)) (λ i. m (undo_address i + 2)) (count_of m) m a v b
      (differ_by (lives m) b a alive dead)
  | inr (inl inside) ↦ put_back-other (λ i. m (undo_address i)) (λ i. m (undo_address i + 2)) (count_of m) m a v b
      (differ_by' (in_segment (segment_of m)) b a outside inside)
  | inr (inr logged) ↦ elim (same_or_not b a) [
    | inl e ↦ put_back-covered (λ i. m (undo_address i)) (λ i. m (undo_address i + 2)) (count_of m) (put m a v) m b logged.0
        logged.1 (logged.2 ∙ sym e)
    | inr d ↦ put_back-other (λ i. m (undo_address i)) (λ i. m (undo_address i + 2)) (count_of m) m a v b d
  ]
]

pub quiet-recovered : (m : ℕ → ℕ) (a v : ℕ) → IsQuiet m a → recovered (put m a v) ≡ recovered m
quiet-recovered m a v q =
    of_slot-same (current (put m a v)) (current m) (undone (put m a v)) (undone m)
    (λ i l. current-kept m a v i q.gate (q.slot i l)) (λ b alive outside. quiet-undone m a v b q alive outside)

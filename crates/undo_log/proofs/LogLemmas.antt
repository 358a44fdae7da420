-- An entry is made in three writes.
use Rattle.std.proofs.Common.{◌≡◌, ◌≢◌, ◌⊎◌, inl, inr, ℕ, ◌+◌, ◌<◌, ◌≤◌, refl, sym, ◌∙◌, ap, subst, arith}
use Rattle.std.proofs.lemmas.Bool.Decides.{nat_tests}
use Rattle.base16.proofs.Writes.{put-same, put-other}
use Rattle.base16.specs.Board.{segment_start, segment_top}
use Rattle.base16.specs.Memory.{put}
use Rattle.board_map.specs.Costs.{entries_within}
use Rattle.board_map.specs.Map.{count_address, undo_address, block_log_start, gate_of, count_of, segment_of, IsLoggable}
use Rattle.board_map.specs.Map.{IsOutside}
use Rattle.board_map.specs.Recovered.{recovered}
use Rattle.board_map.specs.Ticks.{plain_word, entry_word, count_raised, logged_word, Keeps}
use Rattle.board_map.specs.WellFormed.{IsWellFormed}
use Rattle.board_map.proofs.TickKinds.{tick_keeps}
use Rattle.board_map.proofs.WriteKinds.{in_segment-true, entry_kept}
use Rattle.board_map.proofs.Writes.{put_cong, loggable-range}
use Rattle.undo_log.specs.Log.{Enters, IsApart, Logs, Prepares, Sets}

pub prepares-none : (m w : ℕ → ℕ) → IsWellFormed m → w ≡ m → Prepares m w
prepares-none m w f e = subst (Prepares m) (sym e) (record {
  well_formed = f;
  recovered = refl;
  gate = refl;
  count =
      refl;
  past = λ b h. refl;
  others = λ b p q. refl;
})

pub prepares-join : {m w v : ℕ → ℕ} → Prepares m w → Prepares w v → Prepares m v
prepares-join h k = record {
  well_formed = k.well_formed;
  recovered = k.recovered ∙ h.recovered;
  gate = k.gate ∙ h.gate;
  count = k.count ∙ h.count;
  past = λ b l. k.past b l ∙ h.past b l;
  others = λ b p q. k.others b (λ e. p (e ∙ ap undo_address h.count)) (λ e. q (e ∙ ap (λ n. undo_address n + 2) h.count))
      ∙ h.others b p q;
}

-- a word of the entry
prepares-word : (m : ℕ → ℕ) (a v : ℕ) → IsWellFormed m → count_of m < 256
    → (a ≡ undo_address (count_of m)) ⊎ (a ≡ undo_address (count_of m) + 2) → Prepares m (put m a v)
prepares-word m a v f room c =
    let low : undo_address (count_of m) ≤ a = elim c [ inl s ↦ omega (arith, s) | inr t ↦ omega (arith, t) ] in
    let high : a < block_log_start = elim c [ inl s ↦ omega (arith, s, room) | inr t ↦ omega (arith, t, room) ] in
    let k : Keeps entry_word m (put m a v) = tick_keeps entry_word m a v f (low, high) in record {
      well_formed = k.well_formed;
      recovered = k.recovered;
      gate = k.gate;
      count = k.entries;
      past = λ b l. put-other m a v b (λ e. omega arith);
      others = λ b x y. put-other m a v b (λ e. elim c [ inl s ↦ x (e ∙ s) | inr t ↦ y (e ∙ t) ]);
    }

-- the address word
pub log_first : (m w : ℕ → ℕ) (n a : ℕ) → IsWellFormed m → n ≡ count_of m → n < 256 → w ≡ put m (undo_address n) a
    → Prepares m w
log_first m w n a f e room was = subst (Prepares m) (sym was)
    (prepares-word m (undo_address n) a f (omega (arith, e)) (inl (ap undo_address e)))

-- the old word
pub log_second : (m w v : ℕ → ℕ) (n old : ℕ) → Prepares m w → n ≡ count_of m → n < 256 → v ≡ put w (undo_address n + 2) old
    → Prepares m v
log_second m w v n old k e room was =
    let c : count_of w ≡ count_of m = k.count in
    prepares-join k (subst (Prepares w) (sym was) (prepares-word w (undo_address n + 2) old k.well_formed (omega (arith, e))
    (inr (ap (λ x. undo_address x + 2) (e ∙ sym c)))))

-- the count
raise : (m v : ℕ → ℕ) (a : ℕ) → Prepares m v → count_of m < 256 → IsLoggable a → IsOutside (segment_of m) a
    → v (undo_address (count_of m)) ≡ a → v (undo_address (count_of m) + 2) ≡ m a
    → Logs a m (put v (count_address (gate_of v)) (count_of v + 1))
raise m v a k room loggable outside entry old =
    let f = k.well_formed in
    let e : v (undo_address (count_of v)) ≡ a = ap (λ n. v (undo_address n)) k.count ∙ entry in
    let s : segment_of v ≡ segment_of m = ap (λ r. r.state 0) k.recovered in
    let high : block_log_start ≤ a = (let r = loggable-range a loggable in omega (arith, r.0)) in
    let c : count_of v ≡ count_of m = k.count in
    let t : Keeps count_raised v (put v (count_address (gate_of v)) (count_of v + 1)) =
    tick_keeps count_raised v (count_address (gate_of v)) (count_of v + 1) f (record {
      place = refl;
      value = refl;
      room = omega arith;
      loggable = subst IsLoggable (sym e) loggable;
      outside = subst (λ x. IsOutside x (v (undo_address (count_of v)))) (sym s)
          (subst (IsOutside (segment_of m)) (sym e) outside);
      old = ap (λ n. v (undo_address n + 2)) k.count ∙ old ∙ sym (k.past a high) ∙ ap v (sym e);
    }) in
    record {
      well_formed = t.well_formed;
      recovered = t.recovered ∙ k.recovered;
      gate = t.gate ∙ k.gate;
      count = t.entries ∙ ap (λ n. n + 1) c;
      entry = record {
        address_is = entry_kept v (count_of v + 1) (undo_address (count_of m)) f (omega arith) ∙ entry;
        word_is = entry_kept v (count_of v + 1) (undo_address (count_of m) + 2) f (omega arith) ∙ old;
      };
      past = λ b l. entry_kept v (count_of v + 1) b f (omega arith) ∙ k.past b l;
      others = λ b p q r. put-other v (count_address (gate_of v)) (count_of v + 1) b (λ x. r (x ∙ ap count_address k.gate))
          ∙ k.others b p q;
    }

pub log_third : (m w v u : ℕ → ℕ) (n g a old : ℕ) → IsWellFormed m → n ≡ count_of m → n < 256 → g ≡ gate_of m → IsLoggable a
    → IsOutside (segment_of m) a → old ≡ m a
    → w ≡ put m (undo_address n) a → v ≡ put w (undo_address n + 2) old → u ≡ put v (count_address g) (n + 1) → Logs a m u
log_third m w v u n g a old f e room gate loggable outside stood was1 was2 was3 =
    let k1 : Prepares m w = log_first m w n a f e room was1 in
    let k2 : Prepares m v = log_second m w v n old k1 e room was2 in
    let entry : v (undo_address (count_of m)) ≡ a =
    ap (λ x. v (undo_address x)) (sym e) ∙ ap (λ (h : ℕ → ℕ). h (undo_address n)) was2
    ∙ put-other w (undo_address n + 2) old (undo_address n) (λ x. omega arith)
    ∙ ap (λ (h : ℕ → ℕ). h (undo_address n)) was1 ∙ put-same m (undo_address n) a in
    let kept : v (undo_address (count_of m) + 2) ≡ m a =
    ap (λ x. v (undo_address x + 2)) (sym e) ∙ ap (λ (h : ℕ → ℕ). h (undo_address n + 2)) was2
    ∙ put-same w (undo_address n + 2) old ∙ stood in
    let small : count_of m < 256 = omega arith in
    let place : count_address g ≡ count_address (gate_of v) = ap count_address (gate ∙ sym k2.gate) in
    let value : n + 1 ≡ count_of v + 1 = ap (λ x. x + 1) (e ∙ sym k2.count) in
    subst (Logs a m) (sym (was3 ∙ ap (λ x. put v x (n + 1)) place ∙ ap (λ x. put v (count_address (gate_of v)) x) value))
    (raise m v a k2 small loggable outside entry kept)

-- the new word, of which there is an entry
pub record Stored (a x : ℕ) (old new : ℕ → ℕ) : Type 0 where
  pub well_formed : IsWellFormed new
  pub recovered : recovered new ≡ recovered old
  pub count : count_of new ≡ count_of old + 1
  pub set : Sets a x old new
  pub entry : Enters a old new
  pub others : (b : ℕ) → IsApart old a b → new b ≡ old b

pub store_done : (m w u : ℕ → ℕ) (a x : ℕ) → Logs a m w → IsLoggable a → u ≡ put w a x → Stored a x m u
store_done m w u a x k loggable was =
    let high : 0x1A00 ≤ a = (loggable-range a loggable).0 in
    let most : count_of w ≤ 256 = k.well_formed.count in
    let c : count_of w ≡ count_of m + 1 = k.count in
    let t : Keeps logged_word w (put w a x) = tick_keeps logged_word w a x k.well_formed
    (count_of m, omega arith, k.entry.address_is) in
    subst (Stored a x m) (sym was) (record {
      well_formed = t.well_formed;
      recovered = t.recovered ∙ k.recovered;
      count = t.entries ∙ k.count;
      set = λ b l. put_cong w m b a a x x (k.past b l) refl refl;
      entry = record {
        address_is = put-other w a x (undo_address (count_of m)) (λ e. omega arith) ∙ k.entry.address_is;
        word_is = put-other w a x (undo_address (count_of m) + 2) (λ e. omega arith) ∙ k.entry.word_is;
      };
      others = λ b h. put-other w a x b h.place ∙ k.others b h.entry h.old h.count;
    })

-- a word of the working segment
pub record Written (a x : ℕ) (old new : ℕ → ℕ) : Type 0 where
  pub well_formed : IsWellFormed new
  pub recovered : recovered new ≡ recovered old
  pub count : count_of new ≡ count_of old
  pub set : Sets a x old new
  pub others : (b : ℕ) → b ≢ a → new b ≡ old b

pub written : (m u : ℕ → ℕ) (a x : ℕ) → IsWellFormed m → segment_start (segment_of m) ≤ a → a < segment_top (segment_of m)
    → u ≡ put m a x → Written a x m u
written m u a x f low high was =
    let t : Keeps plain_word m (put m a x) = tick_keeps plain_word m a x f (in_segment-true (segment_of m) a low high) in
    subst (Written a x m) (sym was) (record {
      well_formed = t.well_formed;
      recovered = t.recovered;
      count = t.entries;
      set = λ b l. refl;
      others = λ b d. put-other m a x b d;
    })

pub within-one : (left : ℕ) → 3 ≤ left → entries_within left ≡ 1
within-one left h = grind (arith, nat_tests)

pub within-none : (left : ℕ) → left < 3 → entries_within left ≡ 0
within-none left h = grind (arith, nat_tests)

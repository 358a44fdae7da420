-- A tick of each kind keeps the memory well formed, and recovers to the machine that the kind says.
use Rattle.std.specs.Prelude.{◌≡◌, ◌⊎◌, ℕ, ◌-◌, ◌<◌, true}
use Rattle.std.proofs.Common.{suc, refl, sym, ◌∙◌, subst, inl, inr, arith}
use Rattle.base16.proofs.Writes.{put-same}
use Rattle.base16.specs.Memory.{put}
use Rattle.board_map.specs.Map.{gate_address, slot_words, count_address, slot_address, gate_of, count_of, segment_of}
use Rattle.board_map.specs.Map.{in_segment}
use Rattle.board_map.specs.Recovered.{recovered}
use Rattle.board_map.specs.Ticks.{TickKind, plain_word, entry_word, count_raised, logged_word, slot_word, gate_word}
use Rattle.board_map.specs.Ticks.{boot_word, count_cleared, dead_word, IsLogged, IsRaised, IsSwitched, IsCleared}
use Rattle.board_map.specs.Ticks.{MayWrite, machine_after, gate_after, entries_after, Keeps}
use Rattle.board_map.specs.WellFormed.{IsWellFormed}
use Rattle.board_map.proofs.Undoing.{recovered-outside}
use Rattle.board_map.proofs.Writes.{IsQuiet, gate-kept, count-kept, quiet-well_formed, quiet-recovered}
use Rattle.board_map.proofs.WriteKinds.{in_segment-range, quiet-plain, quiet-logged, quiet-entry, quiet-slot}
use Rattle.board_map.proofs.WriteKinds.{quiet-count, quiet-dead, raised-well_formed, raised-recovered, raised-count}
use Rattle.board_map.proofs.WriteKinds.{cleared-well_formed, cleared-recovered, cleared-count, gate-well_formed}
use Rattle.board_map.proofs.WriteKinds.{gate-recovered, gate-count}

quiet-keeps : (kind : TickKind) (m : ℕ → ℕ) (a v : ℕ) → machine_after kind m ≡ recovered m → gate_after kind m ≡ gate_of m
    → entries_after kind m ≡ count_of m → IsWellFormed m → IsQuiet m a → Keeps kind m (put m a v)
quiet-keeps kind m a v e g n f q = record {
  well_formed = quiet-well_formed m a v f q;
  recovered = quiet-recovered m a v q ∙ sym e;
  gate = gate-kept m a v q.gate ∙ sym g;
  entries = count-kept m a v q.gate q.count ∙ sym n;
}

quiet-inside : (m : ℕ → ℕ) (a : ℕ) → IsWellFormed m → in_segment (segment_of m) a ≡ true → IsQuiet m a
quiet-inside m a f h = let r = in_segment-range (segment_of m) a h in quiet-plain m a f r.0 r.1

quiet-entered : (m : ℕ → ℕ) (a : ℕ) → IsWellFormed m → IsLogged m a → IsQuiet m a
quiet-entered m a f h = subst (IsQuiet m) h.2 (quiet-logged m h.0 f h.1)

quiet-other : (m : ℕ → ℕ) (a : ℕ) → IsWellFormed m → ((i : ℕ) × (i < slot_words) × (a ≡ slot_address (1 - gate_of m)
    i)) ⊎ (a ≡ count_address (1 - gate_of m)) → IsQuiet m a
quiet-other m a f h = elim h [
  | inl word ↦ subst (IsQuiet m) (sym word.2) (quiet-slot m word.0 f word.1)
  | inr count ↦ subst (IsQuiet m) (sym count) (quiet-count m f)
]

quiet-boot : (m : ℕ → ℕ) (a : ℕ) → IsWellFormed m → IsLogged m a ⊎ (in_segment (segment_of m) a ≡ true) → IsQuiet m a
quiet-boot m a f h = elim h [ inl logged ↦ quiet-entered m a f logged | inr inside ↦ quiet-inside m a f inside ]

-- the word at an address that are known only by equations
at_place : (kind : TickKind) (m : ℕ → ℕ) (a b v x : ℕ) → a ≡ b → v ≡ x → Keeps kind m (put m b x) → Keeps kind m (put m a v)
at_place kind m a b v x e f h = subst (λ k. Keeps kind m (put m k v)) (sym e) (subst (λ y. Keeps kind m (put m b y)) (sym f) h)

current_gate : (m : ℕ → ℕ) (v : ℕ) → IsWellFormed m → gate_of (put m (count_address (gate_of m)) v) ≡ gate_of m
current_gate m v f = let g : gate_of m < 2 = f.gate in gate-kept m (count_address (gate_of m)) v (λ e. omega arith)

raised-keeps : (m : ℕ → ℕ) (a v : ℕ) → IsWellFormed m → IsRaised m a v → Keeps count_raised m (put m a v)
raised-keeps m a v f r =
    let one : v ≡ suc (count_of m) = r.value ∙ omega arith in
    at_place count_raised m a (count_address (gate_of m)) v (suc (count_of m)) r.place one (record {
      well_formed = raised-well_formed m f r.room r.loggable r.outside;
      recovered = raised-recovered m f r.old;
      gate = current_gate m (suc (count_of m)) f;
      entries = raised-count m f ∙ omega arith;
    })

switched-keeps : (m : ℕ → ℕ) (a v : ℕ) → IsWellFormed m → IsSwitched m a v → Keeps gate_word m (put m a v)
switched-keeps m a v f s =
    let two : 1 - gate_of m < 2 = omega arith in
    at_place gate_word m a gate_address v (1 - gate_of m) s.place s.value (record {
      well_formed = gate-well_formed m (1 - gate_of m) f two s.count s.state;
      recovered = gate-recovered m (1 - gate_of m) two s.count;
      gate = put-same m gate_address (1 - gate_of m);
      entries = gate-count m (1 - gate_of m) two s.count;
    })

cleared-keeps : (m : ℕ → ℕ) (a v : ℕ) → IsWellFormed m → IsCleared m a v → Keeps count_cleared m (put m a v)
cleared-keeps m a v f c =
    at_place count_cleared m a (count_address (gate_of m)) v 0 c.place c.value (record {
      well_formed = cleared-well_formed m f;
      recovered = cleared-recovered m f (λ b alive outside. c.back b alive outside ∙ recovered-outside m b alive outside);
      gate = current_gate m 0 f;
      entries = cleared-count m f;
    })

pub tick_keeps : (kind : TickKind) (m : ℕ → ℕ) (a v : ℕ) → IsWellFormed m → MayWrite kind m a v → Keeps kind m (put m a v)
tick_keeps plain_word m a v f h = quiet-keeps plain_word m a v refl refl refl f (quiet-inside m a f h)
tick_keeps entry_word m a v f h = quiet-keeps entry_word m a v refl refl refl f (quiet-entry m a f h.0 h.1)
tick_keeps count_raised m a v f h = raised-keeps m a v f h
tick_keeps logged_word m a v f h = quiet-keeps logged_word m a v refl refl refl f (quiet-entered m a f h)
tick_keeps slot_word m a v f h = quiet-keeps slot_word m a v refl refl refl f (quiet-other m a f h)
tick_keeps gate_word m a v f h = switched-keeps m a v f h
tick_keeps boot_word m a v f h = quiet-keeps boot_word m a v refl refl refl f (quiet-boot m a f h)
tick_keeps count_cleared m a v f h = cleared-keeps m a v f h
tick_keeps dead_word m a v f h = quiet-keeps dead_word m a v refl refl refl f (quiet-dead m a f h.0 h.1)

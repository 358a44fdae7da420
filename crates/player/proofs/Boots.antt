-- After a boot the board is where the machine is to which its memory recovers.
use Rattle.std.proofs.Common.{◌≡◌, ℕ, zero, suc, ◌+◌, ◌<◌, ◌≤◌, Bool, true, false, nat_lt, refl, sym, ap, ◌∙◌, subst, arith, Option, Some, None, List, [], ◌++◌, length, slice_index, append-nil, inl, if◌then◌else◌}
use Rattle.std.proofs.Math.Path.{fun_ext}
use Rattle.std.proofs.lemmas.Bool.Decides.{nat_tests}
use Rattle.std.proofs.lemmas.List.{get_or_past}
use Rattle.base16.specs.Memory.{words_of}
use Rattle.board_map.specs.Costs.{boot_cost}
use Rattle.board_map.specs.Map.{current, count_of}
use Rattle.board_map.specs.Recovered.{Machine, is_live, recovered}
use Rattle.board_map.specs.declared.work.Work.{Work}
use Rattle.boot.specs.Restoring.{AreRegisters, IsWork, IsMemory}
use Rattle.core430.specs.Bytes.{word_address, byte_in}
use Rattle.core430.specs.Registers.{view_of}
use Rattle.fram.specs.Contents.{Contents}
use Rattle.ideal430.specs.Agreement.{Agrees, Claim, may_settle}
use Rattle.ideal430.specs.Ideal.{Ideal}
use Rattle.services.specs.Following.{Fits}
use Rattle.world.specs.History.{Attempt, taken_in}
use Rattle.world.specs.World.{WorldState, Spends}
use Rattle.world.specs.declared.history.Record.{Record}
use Rattle.player.specs.Playing.{Origin, marks_of, commits_of, kept_in, story_in, HasRecovered, IsRunning, OnGoing, readings_so_far, now}
use Rattle.player.specs.Turning.{IsInCycle, Begins, HasCome, Goes, IsCut}
use Rattle.player.proofs.Keeping.{claim-map, IsStill, calm-spends, keeps-on}

-- the word of a byte that may count lives
settled-live : (r s : ℕ → ℕ) (segment b : ℕ) → s 0 ≡ segment → may_settle segment b ≡ true → is_live r s (word_address b) ≡ true
settled-live r s segment b e h = grind (arith, nat_tests)

all-registers : (registers : List ℕ) (f : ℕ → ℕ) → length registers ≡ 16 → ((k : ℕ) → k < 16 → slice_index registers k ≡ f k)
    → ((k : ℕ) → 16 ≤ k → f k ≡ 0) → f ≡ view_of registers
all-registers registers f size low high = fun_ext (λ k. at k (nat_lt k 16) refl)
  where
    at : (k : ℕ) (b : Bool) → nat_lt k 16 ≡ b → f k ≡ slice_index registers k
    at k true h = let below : k < 16 = grind (arith, nat_tests) in sym (low k below)
    at k false h = let past : 16 ≤ k = grind (arith, nat_tests) in high k past ∙ sym (get_or_past registers k 0 (omega arith))

none-past : (f : ℕ → ℕ) (k : ℕ) → 16 ≤ k → (if nat_lt k 16 then f k else 0) ≡ 0
none-past f k h = at (nat_lt k 16) refl
  where
    at : (b : Bool) → nat_lt k 16 ≡ b → (if b then f k else 0) ≡ 0
    at true e = let below : k < 16 = grind (arith, nat_tests) in absurd (omega arith)
    at false e = refl

pub boot-agrees : (t : Ideal) (registers : List ℕ) (work : Work) (m m2 : ℕ → ℕ) → Fits t m → length registers ≡ 16
    → AreRegisters registers (recovered m) → IsWork work (recovered m) → IsMemory m2 (recovered m)
    → Agrees t (view_of registers) m2 work.segment None work.marks
boot-agrees t registers work m m2 a size regs is memory = record {
  regs_are = a.regs_are ∙ all-registers registers (recovered m).registers size regs
      (λ k h. none-past (λ j. current m (128 + j)) k h);
  memory = record {
    at = λ b h. a.memory.at b h ∙ ap (byte_in b) (sym (memory (word_address b)
        (settled-live (recovered m).registers (recovered m).state ((recovered m).state 0) b refl (a.within b h))));
  };
  segment_is = a.segment_is ∙ sym is.segment;
  block_is = a.block_is;
  marks_are = a.marks_are ∙ sym is.marks;
  fixed = a.fixed;
  within = λ b h. subst (λ x. may_settle x b ≡ true) (sym is.segment) (a.within b h);
}

-- the machine has come to where a boot leaves the board
boot-come : (o : Origin) (registers : List ℕ) (work : Work) (m m2 : ℕ → ℕ) (w : WorldState) (t : Ideal)
    → HasRecovered IsRunning o.world.period m t → length registers ≡ 16 → AreRegisters registers (recovered m)
    → IsWork work (recovered m) → IsMemory m2 (recovered m) → count_of m2 ≡ 0 → work.since ≡ w.spent → work.block_length ≡ 0
    → w.period ≡ o.world.period → HasCome registers work m2 w t
boot-come o registers work m m2 w t h size regs is memory none since length_is period =
    let ticks : t.meter.ticks ≡ 0 = h.fresh.ticks in
    record {
      runs = h.stands;
      agrees = boot-agrees t registers work m m2 h.fits size regs is memory;
      counts = record {
        ticks = omega arith;
        entries = h.fresh.entries ∙ sym none;
        commits = h.fresh.commits_are ∙ sym is.commits;
        length = h.fresh.length ∙ sym length_is;
        period = h.fresh.period_is ∙ sym period;
      };
    }

closed-by : (b : Bool) → (if b then suc zero else zero) ≡ zero → b ≡ false
closed-by true h = absurd (omega arith)
closed-by false h = refl

going-any : (g : Option Attempt) → OnGoing g (λ a. a.readings ≡ []) → OnGoing g (λ a. Unit {0})
going-any None h = h
going-any (Some a) h = tt

going-none : (g : Option Attempt) → OnGoing g (λ a. a.readings ≡ []) → taken_in g ≡ []
going-none None h = absurd h
going-none (Some a) h = h

booted-at : (cost at span since left spent2 left2 : ℕ) → at ≡ cost → span ≡ left → since ≡ spent2 → left ≡ left2 + cost
    → since + span ≡ spent2 + left2 + at
booted-at cost at span since left spent2 left2 a s e l = omega arith

pub boot-goes : (o : Origin) (instrs : ℕ) (records : List Record) (f f2 : Contents) (w w2 : WorldState)
    (registers : List ℕ) (work : Work) → Begins o instrs (now records f w) → IsStill f f2
    → Spends (boot_cost (words_of f.words)) w w2
    → count_of (words_of f2.words) ≡ 0 → work.since ≡ w2.spent → length registers ≡ 16
    → AreRegisters registers (kept_in f) → IsWork work (kept_in f) → IsMemory (words_of f2.words) (kept_in f)
    → Goes o instrs instrs registers work (now records f2 w2)
boot-goes o instrs records f f2 w w2 registers work b still spends none since size regs is memory =
    let k = b.rests.keeps in
    let cost = boot_cost (words_of f.words) in
    let s = story_in o records in
    let calm = calm-spends cost w w2 spends in
    let on = keeps-on o (IsInCycle o records) IsRunning b.cursor records f f2 w w2 still calm k.form_is.1 k in
    let length_is : work.block_length ≡ 0 = is.block_length ∙ k.shut.length in
    let none_open : work.block_open ≡ false = closed-by work.block_open (is.block_open ∙ k.shut.block) in
    let marks : work.marks ≡ marks_of (kept_in f) = is.marks in
    let later : w.spent ≤ w2.spent = calm.later in
    let readings : readings_so_far s ≡ s.last.readings = ap (λ r. s.last.readings ++ r) (going-none s.going b.going)
    ∙ append-nil s.last.readings in
    let made : s.last.instrs ≡ instrs = b.rests.instrs_are in
    record {
      cursor = b.cursor;
      rests = record { keeps = on; instrs_are = b.rests.instrs_are };
      since = booted-at cost b.cursor.at b.cursor.span work.since w.left w2.spent w2.left b.at b.span since spends.left;
      later = omega (arith, since);
      going = going-any s.going b.going;
      ready = record {
        segment = is.segment ∙ sym (ap (λ (r : Machine). r.state 0) still.recovered);
        room = omega arith;
        closed = record { block = none_open; length = length_is };
      };
      number = is.commits ∙ sym (ap commits_of still.recovered);
      marks_later = subst (λ n. n + o.world.spent ≤ marks_of (kept_in o.fram) + w2.spent) (sym marks)
          (omega (arith, k.marks_later));
      here_later = subst (λ n. n + o.world.spent ≤ w2.spent) made (omega (arith, k.instrs_later));
      machine = λ start t.
          subst (λ r. Claim start r instrs (HasCome registers work (words_of f2.words) w2)) (sym readings)
          (subst (λ n. Claim start s.last.readings n (HasCome registers work (words_of f2.words) w2)) made
          (claim-map start s.last.readings s.last.instrs (HasRecovered IsRunning o.world.period (words_of f.words))
          (HasCome registers work (words_of f2.words) w2)
          (λ u h. boot-come o registers work (words_of f.words) (words_of f2.words) w2 u h size regs is memory none since
          length_is
          (calm.period ∙ k.period)) (k.machine start t)));
    }

cut-before : (left cost span at : ℕ) → left < cost → span ≡ left → at ≡ cost → span < at
cut-before left cost span at few s a = omega arith

-- a boot that was cut
pub boot-cut : (o : Origin) (instrs : ℕ) (records : List Record) (f f2 : Contents) (w w2 : WorldState)
    → Begins o instrs (now records f w) → IsStill f f2 → count_of (words_of f2.words) ≡ count_of (words_of f.words)
    → w.left < boot_cost (words_of f.words) → w2.left ≡ 0 → Spends w.left w w2 → IsCut o instrs (now records f2 w2)
boot-cut o instrs records f f2 w w2 b still same few none spends =
    let k = b.rests.keeps in
    record {
      cursor = b.cursor;
      rests = record {
        keeps = keeps-on o (IsInCycle o records) IsRunning b.cursor records f f2 w w2 still (calm-spends w.left w w2 spends)
            k.form_is.1 k;
        instrs_are = b.rests.instrs_are;
      };
      none = none;
      off = record {
        behind = refl;
        fits = still.well_formed.count;
        how = inl (record {
          within = cut-before w.left (boot_cost (words_of f.words)) b.cursor.span b.cursor.at few b.span b.at;
          none = b.going;
          same = same ∙ b.valid;
        });
      };
    }

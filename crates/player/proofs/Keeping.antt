-- What stays from moment to moment: time goes on, a record is added.
use Rattle.std.proofs.Common.{◌≡◌, ℕ, ◌+◌, ◌*◌, ◌<◌, ◌≤◌, refl, sym, ap, ◌∙◌, subst, arith, None, List, [], ◌∷◌, ◌++◌, length, sum, append_assoc, append-nil, length-append}
use Rattle.base16.specs.Memory.{words_of}
use Rattle.base16.specs.declared.reading.Reading.{Reading}
use Rattle.board_map.specs.Recovered.{Machine, recovered}
use Rattle.board_map.specs.WellFormed.{IsWellFormed}
use Rattle.display.specs.Display.{display_of, ShowsSame, AreInData}
use Rattle.display.proofs.Same.{ShowsSame-join}
use Rattle.fram.specs.Contents.{Contents}
use Rattle.ideal430.specs.Agreement.{Agrees, Claim}
use Rattle.ideal430.specs.Ideal.{Ideal}
use Rattle.ideal430.specs.declared.state.IdealEnd.{IdealEnd}
use Rattle.world.specs.History.{Point, Story, after}
use Rattle.world.specs.World.{WorldState, Spends}
use Rattle.world.specs.declared.history.Record.{Record}
use Rattle.world.specs.declared.history.Record.TheVariants.{Read, Commit}
use Rattle.world.specs.declared.history.Shown.{Shown}
use Rattle.player.specs.Form.{Phase, phase_after, cycles_in, read_in, reads_of}
use Rattle.player.specs.Playing.{Origin, marks_of, commits_of, kept_in, shown_in, shown_with, added_in, story_in, IsFresh, HasRecovered, IsAny, Always, left_of, Powers, IsShut, IsPrinted, IsRight, readings_so_far, Moment, now, Keeps}
use Rattle.player.specs.Ticks.{Cursor, committed}
use Rattle.player.specs.Turning.{IsInCycle, read_records}
use Rattle.player.proofs.Records.{cycles-more, in_cycle-more, adds-more, story-more, phase-more, reads-more, right-more, IsQuiet, quiet-last, quiet-earlier}
use Rattle.player.proofs.Showing.{Leads, agrees-shows}

-- ---- claims

pub claim-map : (start : Ideal) (readings : List Reading) (n : ℕ) (P Q : Ideal → Type 0) → ((t : Ideal) → P t → Q t)
    → Claim start readings n P → Claim start readings n Q
claim-map start readings n P Q f c = λ clean. let h = c clean in (h.0, f _ h.1)

pub has-still : (S : IdealEnd → Type 0) (period : ℕ) (m m2 : ℕ → ℕ) (t : Ideal) → recovered m2 ≡ recovered m
    → HasRecovered S period m t → HasRecovered S period m2 t
has-still S period m m2 t e h = record {
  fits = subst (λ (r : Machine). Agrees t r.registers r.memory (r.state 0) None (r.state 3 + 65536 * r.state 4)) (sym e) h.fits;
  fresh = subst (λ (r : Machine). IsFresh t.meter (commits_of r) period) (sym e) h.fresh;
  stands = h.stands;
}

pub has-as : (S S2 : IdealEnd → Type 0) (period : ℕ) (m : ℕ → ℕ) (t : Ideal) → ((status : IdealEnd) → S status → S2 status)
    → HasRecovered S period m t → HasRecovered S2 period m t
has-as S S2 period m t goes h = record { fits = h.fits; fresh = h.fresh; stands = goes t.status h.stands }

-- ---- time goes on

-- The memory recovers as before.
pub record IsStill (f f2 : Contents) : Type 0 where
  pub well_formed : IsWellFormed (words_of f2.words)
  pub recovered : kept_in f2 ≡ kept_in f
  pub poked : f2.poked ≡ f.poked

pub still-same : (f : Contents) → IsWellFormed (words_of f.words) → IsStill f f
still-same f h = record { well_formed = h; recovered = refl; poked = refl }

pub still-join : (f g h : Contents) → IsStill f g → IsStill g h → IsStill f h
still-join f g h a b = record { well_formed = b.well_formed; recovered = b.recovered ∙ a.recovered; poked = b.poked ∙ a.poked }

-- Ticks may be spent, in one power cycle, and nothing is given.
pub record Calm (w w2 : WorldState) : Type 0 where
  pub later : w.spent ≤ w2.spent
  pub whole : w2.spent + w2.left ≡ w.spent + w.left
  pub spans : w2.spans ≡ w.spans
  pub cycles : w2.cycles ≡ w.cycles
  pub readings : w2.readings ≡ w.readings
  pub period : w2.period ≡ w.period

pub calm-spends : (n : ℕ) (w w2 : WorldState) → Spends n w w2 → Calm w w2
calm-spends n w w2 k =
    let spent : w2.spent ≡ w.spent + n = k.spent in
    let left : w.left ≡ w2.left + n = k.left in
    record {
      later = omega arith;
      whole = omega arith;
      spans = k.spans;
      cycles = k.cycles;
      readings = k.readings;
      period = k.period;
    }

ticks-calm : (begun : List ℕ) (before spent left spent2 left2 : ℕ) → 0 < length begun → spent2 + left2 ≡ spent + left
    → spent + left_of begun left ≡ before + sum begun → spent2 + left_of begun left2 ≡ before + sum begun
ticks-calm [] before spent left spent2 left2 some e h = absurd (omega arith)
ticks-calm (x ∷ rest) before spent left spent2 left2 some e h = e ∙ h

pub powers-calm : (o : Origin) (begun : List ℕ) (records : List Record) (w w2 : WorldState)
    → cycles_in o.records < cycles_in records → Calm w w2 → Powers o begun records w → Powers o begun records w2
powers-calm o begun records w w2 some c p =
    let n : cycles_in records ≡ cycles_in o.records + length begun = p.counted in
    record {
      spans = c.spans ∙ p.spans;
      ticks = ticks-calm begun o.world.spent w.spent w.left w2.spent w2.left (omega arith) c.whole p.ticks;
      cycles = ap (λ k. k + length begun) c.cycles ∙ p.cycles;
      counted = p.counted;
    }

pub keeps-on : (o : Origin) (form : Phase → Type 0) (S : IdealEnd → Type 0) (c : Cursor) (records : List Record) (f f2 : Contents)
    (w w2 : WorldState) → IsStill f f2 → Calm w w2 → cycles_in o.records < cycles_in records
    → Keeps o form S c (now records f w) → Keeps o form S c (now records f2 w2)
keeps-on o form S c records f f2 w w2 still calm some k =
    let m = words_of f.words in
    let m2 = words_of f2.words in
    let later : w.spent ≤ w2.spent = calm.later in
    record {
      added = k.added;
      form_is = k.form_is;
      reads = calm.readings ∙ k.reads;
      power = powers-calm o c.begun records w w2 some calm k.power;
      right = k.right;
      number = k.number ∙ sym (ap commits_of still.recovered);
      marks = k.marks ∙ sym (ap marks_of still.recovered);
      shown = subst (λ (x : Machine). ShowsSame (story_in o records).last.display (display_of o.scalars x.memory))
          (sym still.recovered) k.shown;
      uncommitted = λ n. still.recovered ∙ k.uncommitted n;
      machine = λ start s. claim-map start (story_in o records).last.readings (story_in o records).last.instrs
          (HasRecovered S o.world.period m) (HasRecovered S o.world.period m2)
          (λ t h. has-still S o.world.period m m2 t still.recovered h) (k.machine start s);
      instrs_later = omega (arith, k.instrs_later);
      marks_later = subst (λ (x : Machine). marks_of x + o.world.spent ≤ marks_of (kept_in o.fram) + w2.spent)
          (sym still.recovered) (omega (arith, k.marks_later));
      commits_later = subst (λ (x : Machine). commits_of x + o.world.spent ≤ commits_of (kept_in o.fram) + w2.spent)
          (sym still.recovered) (omega (arith, k.commits_later));
      period = calm.period ∙ k.period;
      well_formed = still.well_formed;
      shut = subst (λ (x : Machine). IsShut x) (sym still.recovered) k.shut;
      poked = still.poked ∙ k.poked;
    }

-- ---- a record that is no commit

pub keeps-push : (o : Origin) (form form2 : Phase → Type 0) (S : IdealEnd → Type 0) (c d : Cursor) (records : List Record)
    (x : Record) (f : Contents) (w w2 : WorldState) → IsQuiet x → IsRight o (story_in o records) c x d
    → ((p : Phase) → form p → form2 (phase_after p x))
    → w2.readings ≡ w.readings ++ read_in x → Powers o d.begun (records ++ x ∷ []) w2 → w.spent ≤ w2.spent
    → w2.period ≡ w.period → Keeps o form S c (now records f w) → Keeps o form2 S d (now (records ++ x ∷ []) f w2)
keeps-push o form form2 S c d records x f w w2 quiet right goes reads power later period k =
    let s = story_in o records in
    let last : (story_in o (records ++ x ∷ [])).last ≡ s.last = ap (λ (v : Story). v.last) (story-more o records x k.added)
    ∙ quiet-last s x quiet in
    let earlier : (story_in o (records ++ x ∷ [])).earlier ≡ s.earlier =
    ap (λ (v : Story). v.earlier) (story-more o records x k.added) ∙ quiet-earlier s x quiet in
    record {
      added = adds-more o records x k.added;
      form_is = subst form2 (sym (phase-more o (cycles_in o.records) records x k.added)) (goes _ k.form_is);
      reads = reads ∙ ap (λ r. r ++ read_in x) k.reads ∙ append_assoc o.world.readings (reads_of (added_in o records)) (read_in x)
          ∙ ap (λ r. o.world.readings ++ r) (sym (reads-more o records x k.added));
      power = power;
      right = right-more o c d records x k.added k.right right;
      number = ap (λ (p : Point). p.number) last ∙ k.number;
      marks = ap (λ (p : Point). p.marks) last ∙ k.marks;
      shown = subst (λ (p : Point). ShowsSame p.display (shown_in o.scalars f)) (sym last) k.shown;
      uncommitted = λ n. k.uncommitted (sym (ap length earlier) ∙ n);
      machine = λ start t. subst (λ (p : Point). Claim start p.readings p.instrs
          (HasRecovered S o.world.period (words_of f.words))) (sym last) (k.machine start t);
      instrs_later = subst (λ (p : Point). p.instrs + o.world.spent ≤ w2.spent) (sym last) (omega (arith, k.instrs_later));
      marks_later = omega (arith, k.marks_later);
      commits_later = omega (arith, k.commits_later);
      period = period ∙ k.period;
      well_formed = k.well_formed;
      shut = k.shut;
      poked = k.poked;
    }

pub keeps-as : (o : Origin) (form form2 : Phase → Type 0) (S S2 : IdealEnd → Type 0) (c : Cursor) (a : Moment)
    → ((p : Phase) → form p → form2 p) → ((status : IdealEnd) → S status → S2 status) → Keeps o form S c a
    → Keeps o form2 S2 c a
keeps-as o form form2 S S2 c a goes stands k = record {
  added = k.added;
  form_is = goes _ k.form_is;
  reads = k.reads;
  power = k.power;
  right = k.right;
  number = k.number;
  marks = k.marks;
  shown = k.shown;
  uncommitted = k.uncommitted;
  machine = λ start s. claim-map start (story_in o a.records).last.readings (story_in o a.records).last.instrs
      (HasRecovered S o.world.period (words_of a.fram.words)) (HasRecovered S2 o.world.period (words_of a.fram.words))
      (λ t h. has-as S S2 o.world.period (words_of a.fram.words) t stands h) (k.machine start s);
  instrs_later = k.instrs_later;
  marks_later = k.marks_later;
  commits_later = k.commits_later;
  period = k.period;
  well_formed = k.well_formed;
  shut = k.shut;
  poked = k.poked;
}

pub keeps-any : (o : Origin) (form form2 : Phase → Type 0) (S : IdealEnd → Type 0) (c : Cursor) (a : Moment)
    → ((p : Phase) → form p → form2 p) → Keeps o form S c a → Keeps o form2 IsAny c a
keeps-any o form form2 S c a goes k = keeps-as o form form2 S IsAny c a goes (λ status h. tt) k

-- ---- readings

pub keeps-reads : (o : Origin) (S : IdealEnd → Type 0) (c : Cursor) (records : List Record) (f : Contents) (w : WorldState)
    (rs : List Reading) → Keeps o (IsInCycle o records) S c (now records f w)
    → Keeps o (IsInCycle o (records ++ read_records rs)) S c
    (now (records ++ read_records rs) f (record w { readings = w.readings ++ rs }))
keeps-reads o S c records f w [] k =
    subst (λ (r : List Record). Keeps o (IsInCycle o r) S c (now r f (record w { readings = w.readings ++ [] })))
    (sym (append-nil records))
    (subst (λ (r : List Reading). Keeps o (IsInCycle o records) S c (now records f (record w { readings = r })))
    (sym (append-nil w.readings)) k)
keeps-reads o S c records f w (r ∷ rs) k =
    let p : Powers o c.begun (records ++ Read r ∷ []) (record w { readings = w.readings ++ r ∷ [] }) = record {
      spans = k.power.spans;
      ticks = k.power.ticks;
      cycles = k.power.cycles;
      counted = cycles-more records (Read r) ∙ k.power.counted;
    } in
    let one : Keeps o (IsInCycle o (records ++ Read r ∷ [])) S c
    (now (records ++ Read r ∷ []) f (record w { readings = w.readings ++ r ∷ [] })) =
    keeps-push o (IsInCycle o records) (IsInCycle o (records ++ Read r ∷ [])) S c c records (Read r) f w
    (record w { readings = w.readings ++ r ∷ [] }) tt refl (λ q h. in_cycle-more o records (Read r) q refl (λ n. refl) h) refl p
    (omega arith) refl k in
    subst (λ (x : List Record). Keeps o (IsInCycle o x) S c (now x f (record w { readings = w.readings ++ r ∷ rs })))
    (append_assoc records (Read r ∷ []) (read_records rs))
    (subst (λ (x : List Reading). Keeps o (IsInCycle o ((records ++ Read r ∷ []) ++ read_records rs)) S c
    (now ((records ++ Read r ∷ []) ++ read_records rs) f (record w { readings = x })))
    (append_assoc w.readings (r ∷ []) rs)
    (keeps-reads o S c (records ++ Read r ∷ []) f (record w { readings = w.readings ++ r ∷ [] }) rs one))

-- ---- a commit

some-earlier : (earlier : List Point) (p : Point) → length (earlier ++ p ∷ []) ≡ 0 → ⊥
some-earlier earlier p h =
    let n : length (earlier ++ p ∷ []) ≡ length earlier + 1 = length-append earlier (p ∷ []) in
    omega arith

pub keeps-commit : (o : Origin) (S S2 : IdealEnd → Type 0) (c : Cursor) (records : List Record) (f f2 : Contents)
    (w w2 : WorldState) (number marks i pc sp log ticks : ℕ) (sets : List Shown)
    → Keeps o (IsInCycle o records) S c (now records f w) → Calm w w2
    → cycles_in o.records < cycles_in records
    → IsWellFormed (words_of f2.words) → f2.poked ≡ f.poked → IsShut (kept_in f2) → number ≡ commits_of (kept_in f) + 1
    → commits_of (kept_in f2) ≡ number → marks_of (kept_in f2) ≡ marks
    → marks + o.world.spent ≤ marks_of (kept_in o.fram) + w2.spent
    → number + o.world.spent ≤ commits_of (kept_in o.fram) + w2.spent
    → i + o.world.spent ≤ w2.spent → log ≤ 256 → c.at + ticks ≤ c.span
    → AreInData o.scalars → Leads o.scalars (story_in o records).last.display sets (kept_in f2).memory
    → Always o (readings_so_far (story_in o records)) i
    (λ t. HasRecovered S2 o.world.period (words_of f2.words) t × IsPrinted number marks pc sp log ticks t)
    → Keeps o (IsInCycle o (records ++ Commit number marks i pc sp 155 log sets ∷ [])) S2 (committed c ticks)
    (now (records ++ Commit number marks i pc sp 155 log sets ∷ []) f2 w2)
keeps-commit o S S2 c records f f2 w w2 number marks i pc sp log ticks sets k calm some formed poked shut next commits_are
    marks_are low high later fits within placed led is =
    let x = Commit number marks i pc sp 155 log sets in
    let s = story_in o records in
    let told : story_in o (records ++ x ∷ []) ≡ after s x = story-more o records x k.added in
    let p : Powers o c.begun records w2 = powers-calm o c.begun records w w2 some calm k.power in
    record {
      added = adds-more o records x k.added;
      form_is = subst (IsInCycle o (records ++ x ∷ [])) (sym (phase-more o (cycles_in o.records) records x k.added))
          (in_cycle-more o records x _ refl (λ n. refl) k.form_is);
      reads = calm.readings ∙ k.reads
          ∙ ap (λ r. o.world.readings ++ r) (sym (reads-more o records x k.added ∙ append-nil (reads_of (added_in o records))));
      power = record {
        spans = p.spans;
        ticks = p.ticks;
        cycles = p.cycles;
        counted = cycles-more records x ∙ p.counted;
      };
      right = right-more o c (committed c ticks) records x k.added k.right (record {
        number_is = next ∙ ap (λ n. n + 1) (sym k.number);
        words_are = refl;
        log_fits = fits;
        ticks = ticks;
        machine = λ start t. claim-map start (readings_so_far s) i
            (λ u. HasRecovered S2 o.world.period (words_of f2.words) u × IsPrinted number marks pc sp log ticks u)
            (IsPrinted number marks pc sp log ticks) (λ u h. h.1) (is start t);
        within = within;
        behind = refl;
        sets_are = led.sets_are;
        shown = λ start t. claim-map start (readings_so_far s) i
            (λ u. HasRecovered S2 o.world.period (words_of f2.words) u × IsPrinted number marks pc sp log ticks u)
            (λ u. ShowsSame (shown_with s sets) (display_of o.scalars u.core.memory))
            (λ u h. ShowsSame-join led.shows (agrees-shows o.scalars u (kept_in f2).registers (kept_in f2).memory
            ((kept_in f2).state 0) None ((kept_in f2).state 3 + 65536 * (kept_in f2).state 4) placed h.0.fits)) (is start t);
      });
      number = ap (λ (v : Story). v.last.number) told ∙ sym commits_are;
      marks = ap (λ (v : Story). v.last.marks) told ∙ sym marks_are;
      shown = subst (λ (v : Story). ShowsSame v.last.display (shown_in o.scalars f2)) (sym told) led.shows;
      uncommitted = λ n. absurd (some-earlier s.earlier s.last (sym (ap (λ (v : Story). length v.earlier) told) ∙ n));
      machine = λ start t. subst (λ (v : Story). Claim start v.last.readings v.last.instrs
          (HasRecovered S2 o.world.period (words_of f2.words))) (sym told)
          (claim-map start (readings_so_far s) i
          (λ u. HasRecovered S2 o.world.period (words_of f2.words) u × IsPrinted number marks pc sp log ticks u)
          (HasRecovered S2 o.world.period (words_of f2.words)) (λ u h. h.0) (is start t));
      instrs_later = subst (λ (v : Story). v.last.instrs + o.world.spent ≤ w2.spent) (sym told) later;
      marks_later = subst (λ n. n + o.world.spent ≤ marks_of (kept_in o.fram) + w2.spent) (sym marks_are) low;
      commits_later = subst (λ n. n + o.world.spent ≤ commits_of (kept_in o.fram) + w2.spent) (sym commits_are) high;
      period = calm.period ∙ k.period;
      well_formed = formed;
      shut = shut;
      poked = poked ∙ k.poked;
    }

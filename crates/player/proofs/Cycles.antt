-- From power cycle to power cycle: where a playing begins, power comes, power fails, the run ends.
use Rattle.std.proofs.Common.{◌≡◌, ℕ, suc, ◌+◌, ◌*◌, ◌≤◌, Bool, true, false, ◌⊎◌, inl, inr, refl, sym, ap, ◌∙◌, subst, arith, List, [], ◌∷◌, ◌++◌, length, sum, append_assoc, append-nil, length-append, if◌then◌else◌}
use Rattle.std.proofs.lemmas.List.{drop_all}
use Rattle.std.proofs.lemmas.List.Sums.{fold-append}
use Rattle.base16.specs.Memory.{words_of}
use Rattle.base16.specs.declared.end.EndKind.{EndKind}
use Rattle.base16.specs.declared.end.EndKind.TheVariants.{Done, Power, StackFull, BlockFull, OutputFull, Wild}
use Rattle.base16.specs.declared.reading.Reading.{Reading}
use Rattle.board_map.specs.Map.{count_of}
use Rattle.board_map.specs.Recovered.{recovered}
use Rattle.board_map.specs.WellFormed.{IsWellFormed}
use Rattle.display.specs.Display.{ShowsSame}
use Rattle.display.proofs.Same.{ShowsSame-itself}
use Rattle.fram.specs.Contents.{Contents}
use Rattle.ideal430.specs.Agreement.{Claim}
use Rattle.ideal430.specs.Ideal.{Ideal, with_left}
use Rattle.ideal430.specs.declared.state.IdealEnd.{IdealEnd}
use Rattle.world.specs.History.{Story, beginning, after, story}
use Rattle.world.specs.World.{WorldState, Wakes}
use Rattle.world.specs.declared.history.Record.{Record}
use Rattle.world.specs.declared.history.Record.TheVariants.{On, Off, End}
use Rattle.player.specs.Form.{Phase, Between, Within, IsWhole, IsAtRest, IsOver, is_power, phase_after, phase_of, is_on, cycles_in, reads_of}
use Rattle.player.specs.Playing.{Origin, kept_in, shown_in, IsShut, first_point, first_cursor, added_in, story_in, HasRecovered, IsRunning, IsAny, IsBehind, OnGoing, AreRight, left_of, Powers, IsSpent, now, Keeps, Plays}
use Rattle.player.specs.Ticks.{woken as woken_at, cut as cut_at}
use Rattle.player.specs.Turning.{IsIdle, IsBetweenCycles, IsInCycle, RestsWithin, RestsBetween, Begins, IsCut, Ends}
use Rattle.player.proofs.Records.{cycles-more, story-more, on-phase, off-phase, end-phase}
use Rattle.player.proofs.Keeping.{keeps-push, keeps-as}
use Rattle.player.proofs.Moves.{agrees-left}

-- ---- where a playing begins

added-none : (o : Origin) → added_in o o.records ≡ []
added-none o = drop_all (length o.records) o.records (omega arith)

has-left : (S : IdealEnd → Type 0) (period : ℕ) (m : ℕ → ℕ) (t : Ideal) (rest : List Reading) → HasRecovered S period m t
    → HasRecovered S period m (with_left t rest)
has-left S period m t rest h = record {
  fits = agrees-left t rest (recovered m).registers (recovered m).memory ((recovered m).state 0)
      ((recovered m).state 3 + 65536 * (recovered m).state 4) h.fits;
  fresh = record {
    ticks = h.fresh.ticks;
    entries = h.fresh.entries;
    commits_are = h.fresh.commits_are;
    length = h.fresh.length;
    period_is = h.fresh.period_is;
  };
  stands = h.stands;
}

pub begins : (o : Origin) → IsWellFormed (words_of o.fram.words) → IsShut (kept_in o.fram)
    → RestsBetween o 0 (now o.records o.fram o.world)
begins o formed shut =
    let none = added-none o in
    let told : story_in o o.records ≡ beginning (first_point o) = ap (story (first_point o)) none in
    record {
      cursor = first_cursor o;
      rests = record {
        keeps = record {
          added = sym (append-nil o.records) ∙ ap (λ r. o.records ++ r) (sym none);
          form_is = ap (phase_of (cycles_in o.records)) none;
          reads = sym (append-nil o.world.readings) ∙ ap (λ r. o.world.readings ++ reads_of r) (sym none);
          power = record {
            spans = sym (append-nil o.world.spans);
            ticks = refl;
            cycles = let e : o.world.cycles + 0 ≡ o.world.cycles = omega arith in e;
            counted = let e : cycles_in o.records ≡ cycles_in o.records + 0 = omega arith in e;
          };
          right = subst (λ x. AreRight o (beginning (first_point o)) (first_cursor o) x (first_cursor o)) (sym none) refl;
          number = ap (λ (s : Story). s.last.number) told;
          marks = ap (λ (s : Story). s.last.marks) told;
          shown = subst (λ (s : Story). ShowsSame s.last.display (shown_in o.scalars o.fram)) (sym told)
              (ShowsSame-itself (shown_in o.scalars o.fram));
          uncommitted = λ n. refl;
          machine = λ start s. subst (λ (v : Story). Claim start v.last.readings v.last.instrs
              (HasRecovered IsRunning o.world.period (words_of o.fram.words))) (sym told)
              (λ clean. (
                ap (λ r. r ++ []) s.left,
                has-left IsRunning o.world.period (words_of o.fram.words) start (start.left ++ []) s.at,
              ));
          instrs_later = subst (λ (v : Story). v.last.instrs + o.world.spent ≤ o.world.spent) (sym told) (omega arith);
          marks_later = omega arith;
          commits_later = omega arith;
          period = refl;
          well_formed = formed;
          shut = shut;
          poked = refl;
        };
        instrs_are = ap (λ (s : Story). s.last.instrs) told;
      };
      valid = refl;
    }

-- ---- power comes

pub cycles-total : (o : Origin) (begun : List ℕ) (records : List Record) (w : WorldState) → Powers o begun records w
    → w.cycles + cycles_in records ≡ o.world.cycles + cycles_in o.records
cycles-total o begun records w p =
    let a : w.cycles + length begun ≡ o.world.cycles = p.cycles in
    let b : cycles_in records ≡ cycles_in o.records + length begun = p.counted in
    omega arith

idle-left : (begun : List ℕ) (n k left : ℕ) → n ≡ k + length begun → (n ≡ k) ⊎ (left ≡ 0) → left_of begun left ≡ 0
idle-left [] n k left e h = refl
idle-left (x ∷ rest) n k left e h = elim h [ inl same ↦ absurd (no same) | inr none ↦ none ]
  where
    no : n ≡ k → ⊥
    no same = let f : n ≡ k + suc (length rest) = e in omega arith

left-last : (begun : List ℕ) (x left : ℕ) → left_of (begun ++ x ∷ []) left ≡ left
left-last [] x left = refl
left-last (y ∷ rest) x left = refl

sum-last : (xs : List ℕ) (x : ℕ) → sum (xs ++ x ∷ []) ≡ sum xs + x
sum-last xs x = fold-append (λ (a y : ℕ). a + y) 0 xs (x ∷ [])

powers-woken : (o : Origin) (begun : List ℕ) (records : List Record) (cycle : ℕ) (w w2 : WorldState) → Powers o begun records w
    → IsIdle o records w → Wakes w w2 → Powers o (begun ++ w2.left ∷ []) (records ++ On cycle ∷ []) w2
powers-woken o begun records cycle w w2 p idle k =
    let none : left_of begun w.left ≡ 0 = idle-left begun (cycles_in records) (cycles_in o.records) w.left p.counted idle in
    let before : w.spent + left_of begun w.left ≡ o.world.spent + sum begun = p.ticks in
    let spent : w2.spent ≡ w.spent = k.spent in
    let last : left_of (begun ++ w2.left ∷ []) w2.left ≡ w2.left = left-last begun w2.left w2.left in
    let total : sum (begun ++ w2.left ∷ []) ≡ sum begun + w2.left = sum-last begun w2.left in
    let longer : length (begun ++ w2.left ∷ []) ≡ length begun + 1 = length-append begun (w2.left ∷ []) in
    let fewer : w.cycles ≡ w2.cycles + 1 = k.cycles in
    let all : w.cycles + length begun ≡ o.world.cycles = p.cycles in
    let more : cycles_in (records ++ On cycle ∷ []) ≡ cycles_in records + 1 = cycles-more records (On cycle) in
    let counted : cycles_in records ≡ cycles_in o.records + length begun = p.counted in
    record {
      spans = k.spans ∙ ap (λ x. x ++ w2.left ∷ []) p.spans ∙ append_assoc o.world.spans begun (w2.left ∷ []);
      ticks = omega arith;
      cycles = omega arith;
      counted = omega arith;
    }

on-within : (o : Origin) (records : List Record) (p : Phase) (n : ℕ) → n ≡ cycles_in records
    → cycles_in o.records ≤ cycles_in records → IsBetweenCycles records p
    → IsInCycle o (records ++ On (n + 1) ∷ []) (phase_after p (On (n + 1)))
on-within o records p n is low h =
    let more : cycles_in (records ++ On (n + 1) ∷ []) ≡ cycles_in records + 1 = cycles-more records (On (n + 1)) in
    (on-phase p n (h ∙ ap Between (sym is)) ∙ ap Within (ap (λ x. x + 1) is ∙ sym more), omega arith)

pub woken : (o : Origin) (instrs number : ℕ) (records records2 : List Record) (f : Contents) (w w2 : WorldState)
    → RestsBetween o instrs (now records f w) → IsIdle o records w → number ≡ cycles_in records → Wakes w w2
    → records2 ≡ records ++ On (number + 1) ∷ [] → Begins o instrs (now records2 f w2)
woken o instrs number records records2 f w w2 r idle n k e =
    let c = r.cursor in
    let keeps = r.rests.keeps in
    let told : story_in o (records ++ On (number + 1) ∷ []) ≡ after (story_in o records) (On (number + 1)) =
    story-more o records (On (number + 1)) keeps.added in
    let counted : cycles_in records ≡ cycles_in o.records + length c.begun = keeps.power.counted in
    let spent : w2.spent ≡ w.spent = k.spent in
    let done : Begins o instrs (now (records ++ On (number + 1) ∷ []) f w2) = record {
      cursor = woken_at c w2.left;
      rests = record {
        keeps = keeps-push o (IsBetweenCycles records) (IsInCycle o (records ++ On (number + 1) ∷ [])) IsRunning c
            (woken_at c w2.left) records (On (number + 1)) f w w2 tt refl
            (λ p h. on-within o records p number n (omega arith) h)
            (k.readings ∙ sym (append-nil w.readings)) (powers-woken o c.begun records (number + 1) w w2 keeps.power idle k)
            (omega arith)
            k.period keeps;
        instrs_are = ap (λ (s : Story). s.last.instrs) told ∙ r.rests.instrs_are;
      };
      going = subst (λ (s : Story). OnGoing s.going (λ a. a.readings ≡ [])) (sym told) refl;
      span = refl;
      at = ap (λ x. x + 129) (sym r.valid);
      valid = r.valid;
    } in
    subst (λ x. Begins o instrs (now x f w2)) (sym e) done

-- ---- power fails, and the run ends

powers-quiet : (o : Origin) (begun : List ℕ) (records : List Record) (x : Record) (w : WorldState) → is_on x ≡ false
    → Powers o begun records w → Powers o begun (records ++ x ∷ []) w
powers-quiet o begun records x w plain p = record {
  spans = p.spans;
  ticks = p.ticks;
  cycles = p.cycles;
  counted = cycles-more records x ∙ ap (λ b. if b then cycles_in records + 1 else cycles_in records) plain ∙ p.counted;
}

pub cut : (o : Origin) (instrs : ℕ) (records records2 : List Record) (f : Contents) (w : WorldState)
    → IsCut o instrs (now records f w) → records2 ≡ records ++ Off ∷ [] → RestsBetween o instrs (now records2 f w)
cut o instrs records records2 f w c e =
    let k = c.rests.keeps in
    let d = cut_at c.cursor (count_of (words_of f.words)) in
    let same : cycles_in (records ++ Off ∷ []) ≡ cycles_in records = cycles-more records Off in
    let done : RestsBetween o instrs (now (records ++ Off ∷ []) f w) = record {
      cursor = d;
      rests = record {
        keeps = keeps-push o (IsInCycle o records) (IsBetweenCycles (records ++ Off ∷ [])) IsRunning c.cursor d records Off f w
            w tt c.off (λ p h. off-phase p (cycles_in records) h.0 ∙ ap Between (sym same)) (sym (append-nil w.readings))
            (powers-quiet o c.cursor.begun records Off w refl k.power) (omega arith) refl k;
        instrs_are = ap (λ (s : Story). s.last.instrs) (story-more o records Off k.added) ∙ c.rests.instrs_are;
      };
      valid = refl;
    } in
    subst (λ x. RestsBetween o instrs (now x f w)) (sym e) done

pub not-both : (b : Bool) → b ≡ false → b ≡ true → ⊥
not-both true h k = cc
not-both false h k = cc

behind-own : (kind : EndKind) → is_power kind ≡ false → (status : IdealEnd) → IsAny status → IsBehind kind status
behind-own Done own status h = h
behind-own Power own status h = absurd (not-both true own refl)
behind-own StackFull own status h = h
behind-own BlockFull own status h = h
behind-own OutputFull own status h = h
behind-own (Wild address) own status h = h

pub over : (o : Origin) (kind : EndKind) (records records2 : List Record) (f : Contents) (w : WorldState)
    → Ends o kind (now records f w) → records2 ≡ records ++ End kind ∷ []
    → Plays o (IsOver kind) (IsBehind kind) (now records2 f w)
over o kind records records2 f w h e =
    let c = h.cursor in
    let keeps : Keeps o (IsOver kind) (IsBehind kind) c (now (records ++ End kind ∷ []) f w) =
    keeps-push o (IsInCycle o records) (IsOver kind) (IsBehind kind) c c records (End kind) f w w tt (h.cause, refl)
    (λ p i. end-phase p (cycles_in records) kind i.0 h.own) (sym (append-nil w.readings))
    (powers-quiet o c.begun records (End kind) w refl h.keeps.power) (omega arith) refl
    (keeps-as o (IsInCycle o records) (IsInCycle o records) IsAny (IsBehind kind) c (now records f w) (λ p i. i)
    (behind-own kind h.own) h.keeps) in
    subst (λ x. Plays o (IsOver kind) (IsBehind kind) (now x f w)) (sym e) (record {
      cursor = c;
      keeps = keeps;
      valid = λ rest. absurd (not-both (is_power kind) h.own (subst IsAtRest keeps.form_is rest));
    })

pub out_of_power : (o : Origin) (instrs : ℕ) (records records2 : List Record) (f : Contents) (w w2 : WorldState)
    → RestsBetween o instrs (now records f w) → records2 ≡ records ++ End Power ∷ [] → w2 ≡ w
    → Plays o (IsOver Power) IsRunning (now records2 f w2)
out_of_power o instrs records records2 f w w2 r e same =
    let c = r.cursor in
    let k = r.rests.keeps in
    subst (λ v. Plays o (IsOver Power) IsRunning (now records2 f v)) (sym same)
    (subst (λ x. Plays o (IsOver Power) IsRunning (now x f w)) (sym e) (record {
      cursor = c;
      keeps = keeps-push o (IsBetweenCycles records) (IsOver Power) IsRunning c c records (End Power) f w w tt (tt, refl)
          (λ p h. ap (λ q. phase_after q (End Power)) h) (sym (append-nil w.readings))
          (powers-quiet o c.begun records (End Power) w refl k.power) (omega arith) refl k;
      valid = λ rest. r.valid;
    }))

-- no cycle is left, and no tick of one that began
pub spent-out : (o : Origin) (begun : List ℕ) (records : List Record) (w w2 : WorldState) → Powers o begun records w
    → IsIdle o records w → w.cycles ≡ 0 → w2 ≡ w → IsSpent o.world w2
spent-out o begun records w w2 p idle none same =
    let left : left_of begun w.left ≡ 0 = idle-left begun (cycles_in records) (cycles_in o.records) w.left p.counted idle in
    let ticks : w.spent + left_of begun w.left ≡ o.world.spent + sum begun = p.ticks in
    subst (IsSpent o.world) (sym same) (record { none = none; begun = begun; spans = p.spans; ticks = omega arith })

-- ---- want of memory

pub whole-between : (o : Origin) (instrs : ℕ) (records records2 : List Record) (f : Contents) (w : WorldState)
    → RestsBetween o instrs (now records f w) → records2 ≡ records → Plays o IsWhole IsRunning (now records2 f w)
whole-between o instrs records records2 f w r e =
    subst (λ x. Plays o IsWhole IsRunning (now x f w)) (sym e) (record {
      cursor = r.cursor;
      keeps = keeps-as o (IsBetweenCycles records) IsWhole IsRunning IsRunning r.cursor (now records f w)
          (λ p h. subst IsWhole (sym h) tt) (λ status h. h) r.rests.keeps;
      valid = λ rest. r.valid;
    })

pub whole-within : (o : Origin) (instrs : ℕ) (records : List Record) (f : Contents) (w : WorldState)
    → RestsWithin o instrs (now records f w) → Plays o IsWhole IsRunning (now records f w)
whole-within o instrs records f w r = record {
  cursor = r.0;
  keeps = keeps-as o (IsInCycle o records) IsWhole IsRunning IsRunning r.0 (now records f w)
      (λ p h. subst IsWhole (sym h.0) tt) (λ status h. h) r.1.keeps;
  valid = λ rest. absurd (subst IsAtRest r.1.keeps.form_is.0 rest);
}

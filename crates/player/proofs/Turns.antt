-- A turn in which a service was called, served and recorded.
use Rattle.std.proofs.Common.{◌≡◌, ℕ, suc, ◌+◌, ◌-◌, ◌*◌, ◌/◌, ◌%◌, ◌<◌, ◌≤◌, inr, refl, sym, ap, ◌∙◌, subst, arith, Option, Some, None, List, [], ◌∷◌, ◌++◌, length, slice_index, append_assoc, append-nil, add-one, if◌then◌else◌}
use Rattle.std.specs.Prelude.{IfSome, fold}
use Rattle.base16.specs.Memory.{words_of}
use Rattle.base16.specs.declared.end.EndKind.{EndKind}
use Rattle.base16.specs.declared.end.EndKind.TheVariants.{Done, Power, StackFull, BlockFull, OutputFull, Wild}
use Rattle.base16.specs.declared.reading.Reading.{Reading}
use Rattle.board_map.specs.Map.{count_of}
use Rattle.board_map.specs.Recovered.{Machine, recovered}
use Rattle.board_map.specs.declared.work.Work.{Work}
use Rattle.core430.specs.Registers.{view_of}
use Rattle.core430.specs.Shown.{AtMostOnePut}
use Rattle.core430.specs.Step.{Service as Calls, step}
use Rattle.display.specs.Display.{AreInData}
use Rattle.fram.specs.Contents.{Contents}
use Rattle.ideal430.specs.Agreement.{Agrees, Claim}
use Rattle.ideal430.specs.Ideal.{Ideal, moved, served as served_by, next, run, with_more}
use Rattle.ideal430.specs.Service.{taken_of}
use Rattle.ideal430.specs.Uses.{UsesAfter}
use Rattle.ideal430.specs.declared.state.IdealEnd.{IdealEnd}
use Rattle.ideal430.specs.declared.state.IdealEnd.TheVariants.{Running, Ended}
use Rattle.ideal430.proofs.Running.{next-running}
use Rattle.ideal430.proofs.Runs.{claim-next, claim-step}
use Rattle.services.specs.Following.{StandsAt, Follows, Counts, CountsDue, CountsAlike, ticks_behind, CutsShort}
use Rattle.services.specs.Serving.{ask_found, IsClosed, IsReady, IsCommitted, OnCommit, OnPower, OnCut, OnGoes, committed_in, Serves, Tells}
use Rattle.services.specs.declared.acting.Committed.{Committed}
use Rattle.services.specs.declared.serving.Served.{Served}
use Rattle.services.specs.declared.serving.Served.TheVariants as served
use Rattle.services.proofs.Counting.{counted, cut_short}
use Rattle.services.proofs.Fitting.{fits}
use Rattle.services.proofs.Machines.{follows}
use Rattle.world.specs.History.{Attempt, Story, taken_in, with_taken, after}
use Rattle.world.specs.World.{WorldState, Spends}
use Rattle.world.specs.declared.history.Record.{Record}
use Rattle.world.specs.declared.history.Record.TheVariants.{Read, Commit}
use Rattle.player.specs.Playing.{Origin, marks_of, commits_of, kept_in, IsShut, story_in, HasRecovered, IsRunning, IsAny, Always, AlwaysNext, IsPrinted, readings_so_far, OnGoing, HasEnded, IsCause, now, Keeps}
use Rattle.player.specs.Ticks.{Cursor, committed as committed_at, EndsWithin, StopsWithin}
use Rattle.player.specs.Turning.{IsInCycle, RestsAt, HasCome, Goes, IsCut, Ends, Turned, turn_of, read_records, sets_behind, commit_records, instrs_after, IsServed}
use Rattle.player.specs.declared.turning.Turn.{Turn}
use Rattle.player.proofs.Records.{Adds, story-append, story-more}
use Rattle.player.proofs.Keeping.{claim-map, IsStill, Calm, keeps-on, keeps-any, keeps-reads, keeps-commit}
use Rattle.player.proofs.Moves.{gate, IsWritten, written, still-written, come-left, uses-running, arrives-call}
use Rattle.player.proofs.Served.{IsStepped, IsAnswer, answers}
use Rattle.player.proofs.Showing.{Leads, leads}

-- ---- readings are recorded

-- one story goes on to another by these readings
pub record IsTold (s v : Story) (rs : List Reading) : Type 0 where
  pub last : v.last ≡ s.last
  pub going : OnGoing v.going (λ a. Unit {0})
  pub readings : taken_in v.going ≡ taken_in s.going ++ rs

going-taken : (g : Option Attempt) (r : Reading) → OnGoing g (λ a. Unit {0}) → OnGoing (with_taken r g) (λ a. Unit {0})
going-taken None r h = h
going-taken (Some a) r h = tt

taken-more : (g : Option Attempt) (r : Reading) → OnGoing g (λ a. Unit {0}) → taken_in (with_taken r g) ≡ taken_in g ++ r ∷ []
taken-more None r h = absurd h
taken-more (Some a) r h = refl

told-reads : (s : Story) (rs : List Reading) → OnGoing s.going (λ a. Unit {0}) → IsTold s (fold after s (read_records rs)) rs
told-reads s [] h = record { last = refl; going = h; readings = sym (append-nil (taken_in s.going)) }
told-reads s (r ∷ rs) h =
    let n = told-reads (after s (Read r)) rs (going-taken s.going r h) in
    record {
      last = n.last;
      going = n.going;
      readings = n.readings ∙ ap (λ x. x ++ rs) (taken-more s.going r h) ∙ append_assoc (taken_in s.going) (r ∷ []) rs;
    }

pub told : (o : Origin) (records : List Record) (rs : List Reading) → Adds o records
    → OnGoing (story_in o records).going (λ a. Unit {0})
    → IsTold (story_in o records) (story_in o (records ++ read_records rs)) rs
told o records rs adds h =
    subst (λ (v : Story). IsTold (story_in o records) v rs) (sym (story-append o records (read_records rs) adds))
    (told-reads (story_in o records) rs h)

pub so_far : (s v : Story) (rs : List Reading) → IsTold s v rs → readings_so_far v ≡ readings_so_far s ++ rs
so_far s v rs h =
    ap (λ r. v.last.readings ++ r) h.readings ∙ ap (λ p. p.readings ++ (taken_in s.going ++ rs)) h.last
    ∙ sym (append_assoc s.last.readings (taken_in s.going) rs)

-- Ticks are spent in one power cycle, and these readings are given.
pub record IsPassed (w w2 : WorldState) (rs : List Reading) : Type 0 where
  pub later : w.spent ≤ w2.spent
  pub whole : w2.spent + w2.left ≡ w.spent + w.left
  pub spans : w2.spans ≡ w.spans
  pub cycles : w2.cycles ≡ w.cycles
  pub readings : w2.readings ≡ w.readings ++ rs
  pub period : w2.period ≡ w.period

pub keeps-passed : (o : Origin) (S : IdealEnd → Type 0) (c : Cursor) (records : List Record) (f f2 : Contents) (w w2 : WorldState)
    (rs : List Reading) → IsStill f f2 → IsPassed w w2 rs → Keeps o (IsInCycle o records) S c (now records f w)
    → Keeps o (IsInCycle o (records ++ read_records rs)) S c (now (records ++ read_records rs) f2 w2)
keeps-passed o S c records f f2 w w2 rs still p k =
    let mid : WorldState = record w2 { readings = w.readings } in
    let calm : Calm w mid = record {
      later = p.later;
      whole = p.whole;
      spans = p.spans;
      cycles = p.cycles;
      readings = refl;
      period = p.period;
    } in
    let on = keeps-on o (IsInCycle o records) S c records f f2 w mid still calm k.form_is.1 k in
    subst (λ r. Keeps o (IsInCycle o (records ++ read_records rs)) S c
    (now (records ++ read_records rs) f2 (record w2 { readings = r }))) (sym p.readings)
    (keeps-reads o S c records f2 mid rs on)

-- ---- the machine's service

-- the machine stands where the board does, behind a commit if one was made, and its run stands so
pub record HasStood (end : IdealEnd) (c : Option Committed) (since : ℕ) (registers : List ℕ) (work : Work) (m : ℕ → ℕ)
    (w : WorldState) (t : Ideal) : Type 0 where
  pub status : t.status ≡ end
  pub agrees : Agrees t (view_of registers) m work.segment None work.marks
  pub counts : Counts t m work w
  pub due : IfSome c (CountsDue since t.meter w)

pub stood-claim : (o : Origin) (n here : ℕ) (registers registers1 registers2 : List ℕ) (work work2 : Work)
    (m m1 m2 : ℕ → ℕ) (w w1 w2 : WorldState) (readings : List Reading) (answer : Served) (end : IdealEnd)
    → Always o readings here (HasCome registers work m w) → count_of m1 ≡ count_of m → Spends 1 w w1
    → Calls n (record { regs = view_of registers1; memory = m1 })
    ≡ step (gate work.segment) (record { regs = view_of registers; memory = m })
    → (sv : Serves n registers1 m1 work w1 answer registers2 m2 work2 w2)
    → ((t : Ideal) → Follows answer t [] registers2 m2 work2 → StandsAt t end [] registers2 m2 work2)
    → ((P : Type 0) → OnPower answer P → P)
    → Always o (readings ++ taken_of (ask_found n registers1 m1 work) sv.value) (here + 1)
    (HasStood end (committed_in answer) work.since registers2 work2 m2 w2)
stood-claim o n here registers registers1 registers2 work work2 m m1 m2 w w1 w2 readings answer end now_at count spends e sv
    stands power =
    λ start s.
    let rs = taken_of (ask_found n registers1 m1 work) sv.value in
    subst (λ k. Claim start (readings ++ rs) k (HasStood end (committed_in answer) work.since registers2 work2 m2 w2))
    (sym (add-one here))
    (claim-step start readings rs here (HasCome registers work m w)
    (HasStood end (committed_in answer) work.since registers2 work2 m2 w2) (λ t h. h.runs)
    (λ t left h uses.
    let u = with_more t rs in
    let come : HasCome registers work m w u = come-left t (t.left ++ rs) registers work m w h in
    let a = arrives-call n u registers registers1 work m m1 w w1 come uses count spends e in
    let v = moved u a.s in
    let own : UsesAfter u (Calls n a.s) = subst (UsesAfter u) a.is (uses-running u come.runs uses).1 in
    let taken : v.left ≡ rs ++ [] = ap (λ r. r ++ rs) left ∙ sym (append-nil rs) in
    let at : StandsAt v Running (rs ++ []) registers1 m1 work =
    record { agrees = a.come.agrees; left = taken; status = a.come.runs } in
    let there = stands (served_by n v)
    (follows n registers1 registers2 m1 m2 work work2 w1 w2 answer sv v [] at own) in
    let alike : CountsAlike v (served_by n v) answer work m2 work2 w2 =
    power _ (counted n registers1 registers2 m1 m2 work work2 w1 w2 answer sv v [] at own a.come.counts) in
    let is : next u ≡ served_by n v = next-running u (Calls n a.s) come.runs a.is in
    subst (λ (x : Ideal). (x.left ≡ []) × HasStood end (committed_in answer) work.since registers2 work2 m2 w2 x) (sym is)
    (there.left, record { status = there.status; agrees = there.agrees; counts = alike.counts; due = alike.due }))
    (now_at start s))

-- ---- power fails in the service

past-span : (at span since spent left spent2 x : ℕ) → since + span ≡ spent + left + at → spent2 ≡ spent + left
    → spent2 < since + x → span < at + x
past-span at span since spent left spent2 x s e l = omega arith

all-spent : (spent left spent1 left1 spent2 left2 n : ℕ) → spent1 ≡ spent + 1 → left ≡ left1 + 1 → spent2 ≡ spent1 + n
    → left1 ≡ left2 + n → left2 ≡ 0 → spent2 ≡ spent + left
all-spent spent left spent1 left1 spent2 left2 n a b c d e = omega arith

behind-tick : (at span since spent left left1 ticks : ℕ) → since + span ≡ spent + left + at → left ≡ left1 + 1
    → since + ticks ≡ spent → at + (ticks + 1) + left1 ≡ span
behind-tick at span since spent left left1 ticks s e t = omega arith

pub stops-claim : (o : Origin) (n here : ℕ) (registers registers1 registers2 : List ℕ) (work work2 : Work)
    (m m1 m2 : ℕ → ℕ) (w w1 w2 : WorldState) (readings : List Reading) (answer : Served) (c : Cursor) (number : ℕ)
    → Always o readings here (HasCome registers work m w) → count_of m1 ≡ count_of m → Spends 1 w w1
    → Calls n (record { regs = view_of registers1; memory = m1 })
    ≡ step (gate work.segment) (record { regs = view_of registers; memory = m })
    → (sv : Serves n registers1 m1 work w1 answer registers2 m2 work2 w2) → ((P : Type 0) → OnCut answer P → P)
    → w2.left ≡ 0 → work.commits ≡ number → work.since + c.span ≡ w.spent + w.left + c.at
    → AlwaysNext o (readings ++ taken_of (ask_found n registers1 m1 work) sv.value) here (StopsWithin c number (count_of m2))
stops-claim o n here registers registers1 registers2 work work2 m m1 m2 w w1 w2 readings answer c number now_at count spends e sv
    power none commits since =
    λ start s.
    let rs = taken_of (ask_found n registers1 m1 work) sv.value in
    claim-next start readings rs here (HasCome registers work m w) (StopsWithin c number (count_of m2)) (λ t h. h.runs)
    (λ t left h uses.
    let u = with_more t rs in
    let come : HasCome registers work m w u = come-left t (t.left ++ rs) registers work m w h in
    let a = arrives-call n u registers registers1 work m m1 w w1 come uses count spends e in
    let v = moved u a.s in
    let own : UsesAfter u (Calls n a.s) = subst (UsesAfter u) a.is (uses-running u come.runs uses).1 in
    let taken : v.left ≡ rs ++ [] = ap (λ r. r ++ rs) left ∙ sym (append-nil rs) in
    let at : StandsAt v Running (rs ++ []) registers1 m1 work =
    record { agrees = a.come.agrees; left = taken; status = a.come.runs } in
    let short : CutsShort v (served_by n v) [] work w1 m2 w2 =
    power _ (cut_short n registers1 registers2 m1 m2 work work2 w1 w2 answer sv v [] at own a.come.counts) in
    let is : next u ≡ served_by n v = next-running u (Calls n a.s) come.runs a.is in
    let whole : w2.spent ≡ w.spent + w.left =
    all-spent w.spent w.left w1.spent w1.left w2.spent w2.left _ spends.spent spends.left sv.passes.spent sv.passes.left none in
    let beyond : c.span < c.at + ticks_behind work.commits (served_by n v).meter =
    past-span c.at c.span work.since w.spent w.left w2.spent (ticks_behind work.commits (served_by n v).meter) since whole
    short.ticks in (
      ap (λ (x : Ideal). x.left) (is ∙ short.is),
      record {
        runs = come.runs;
        commits = come.counts.commits ∙ commits;
        n = n;
        s = a.s;
        calls = a.is;
        effect = short.effect;
        is = is ∙ short.is;
        left = w1.left;
        ticks = behind-tick c.at c.span work.since w.spent w.left w1.left u.meter.ticks since spends.left come.counts.ticks;
        beyond = subst (λ (x : Ideal). c.span < c.at + ticks_behind number x.meter) (sym is)
            (subst (λ k. c.span < c.at + ticks_behind k (served_by n v).meter) commits beyond);
        entries = sym short.valid;
      },
    )) (now_at start s)

-- ---- a commit

marks-joined : (n : ℕ) → n % 65536 + 65536 * (n / 65536) ≡ n
marks-joined n = omega arith

pub committed-marks : (registers : List ℕ) (work : Work) (m : ℕ → ℕ) (w w2 : WorldState) → IsCommitted w w2 registers work m
    → marks_of (recovered m) ≡ work.marks
committed-marks registers work m w w2 c = ap marks_of c.is ∙ marks-joined work.marks

pub committed-commits : (registers : List ℕ) (work : Work) (m : ℕ → ℕ) (w w2 : WorldState) → IsCommitted w w2 registers work m
    → commits_of (recovered m) ≡ work.commits
committed-commits registers work m w w2 c = ap commits_of c.is ∙ marks-joined work.commits

pub committed-shut : (registers : List ℕ) (work : Work) (m : ℕ → ℕ) (w w2 : WorldState) → IsCommitted w w2 registers work m
    → IsClosed work → IsShut (recovered m)
committed-shut registers work m w w2 c h = record {
  block = ap (λ (x : Machine). x.state 1) c.is ∙ ap (λ b. if b then 1 else 0) h.block;
  length = ap (λ (x : Machine). x.state 2) c.is ∙ h.length;
}

same-ticks : (since ticks ticks2 spent : ℕ) → since + ticks2 ≡ spent → since + ticks ≡ spent → ticks2 ≡ ticks
same-ticks since ticks ticks2 spent h k = omega arith

-- where the machine has counted what the board has, which has just committed, it stands as behind a commit
pub stood-printed : (S : IdealEnd → Type 0) (end : IdealEnd) (c : Committed) (since ticks : ℕ) (registers : List ℕ) (work : Work)
    (m : ℕ → ℕ) (w w1 w2 : WorldState) (period : ℕ) (t : Ideal) → S end → IsCommitted w1 w2 registers work m
    → length registers ≡ 16 → since + ticks ≡ w2.spent → work.since ≡ w2.spent
    → work.block_length ≡ 0 → w2.period ≡ period → HasStood end (Some c) since registers work m w2 t
    → HasRecovered S period m t
    × IsPrinted work.commits work.marks (slice_index registers 0) (slice_index registers 1) c.log ticks t
stood-printed S end c since ticks registers work m w w1 w2 period t standing is size took since_is length_is same h =
    let counted : work.since + t.meter.ticks ≡ w2.spent = h.counts.ticks in
    let none : t.meter.ticks ≡ 0 = omega arith in (
      record {
        fits = fits registers m work w1 w2 is size t h.agrees;
        fresh = record {
          ticks = none;
          entries = h.counts.entries ∙ is.no_entries;
          commits_are = h.counts.commits ∙ sym (committed-commits registers work m w1 w2 is);
          length = h.counts.length ∙ length_is;
          period_is = h.counts.period ∙ same;
        };
        stands = subst S (sym h.status) standing;
      },
      record {
        due = none;
        ticks_are = same-ticks since ticks t.meter.due_ticks w2.spent h.due.ticks took;
        log_is = h.due.entries;
        number_is = h.counts.commits;
        marks_are = h.agrees.marks_are;
        pc_is = ap (λ (r : ℕ → ℕ). r 0) h.agrees.regs_are;
        sp_is = ap (λ (r : ℕ → ℕ). r 1) h.agrees.regs_are;
      },
    )

-- ---- the end of a run

cause : (o : Origin) (s : Story) (c : Cursor) (kind : EndKind) → HasEnded o s c kind → IsCause o s c kind
cause o s c Done h = h
cause o s c Power h = tt
cause o s c StackFull h = h
cause o s c BlockFull h = h
cause o s c OutputFull h = h
cause o s c (Wild address) h = tt

within-span : (since span spent left at ticks : ℕ) → since + span ≡ spent + left + at → since + ticks ≡ spent → at + ticks ≤ span
within-span since span spent left at ticks s t = omega arith

-- it ended within the power cycle
pub stood-ends : (c : Cursor) (number : ℕ) (kind : EndKind) (k : Option Committed) (since : ℕ) (registers : List ℕ) (work : Work)
    (m : ℕ → ℕ) (w : WorldState) (t : Ideal) → work.commits ≡ number → work.since + c.span ≡ w.spent + w.left + c.at
    → HasStood (Ended kind) k since registers work m w t → EndsWithin c number kind t
stood-ends c number kind k since registers work m w t same at h = record {
  status = h.status;
  commits = h.counts.commits ∙ same;
  within = within-span work.since c.span w.spent w.left c.at t.meter.ticks at h.counts.ticks;
}

-- ---- the whole turn

come-stood : (c : Option Committed) (since : ℕ) (registers : List ℕ) (work : Work) (m : ℕ → ℕ) (w : WorldState) (t : Ideal)
    → HasStood Running c since registers work m w t → HasCome registers work m w t
come-stood c since registers work m w t h = record { runs = h.status; agrees = h.agrees; counts = h.counts }

-- the work state's tick of the last commit goes on to the next
since-same : (since since2 span spent left at spent2 left2 : ℕ) → since2 ≡ since → since + span ≡ spent + left + at
    → spent2 + left2 ≡ spent + left → since2 + span ≡ spent2 + left2 + at
since-same since since2 span spent left at spent2 left2 e s k = omega arith

since-next : (since since2 span spent left at spent2 left2 ticks : ℕ) → since2 ≡ spent2 → since + span ≡ spent + left + at
    → spent2 + left2 ≡ spent + left → since + ticks ≡ spent2 → since2 + span ≡ spent2 + left2 + (at + ticks)
since-next since since2 span spent left at spent2 left2 ticks e s k t = omega arith

ticks-within : (since span spent left at spent2 left2 ticks : ℕ) → since + span ≡ spent + left + at
    → spent2 + left2 ≡ spent + left → since + ticks ≡ spent2 → at + ticks ≤ span
ticks-within since span spent left at spent2 left2 ticks s k t = omega arith

later-same : (since since2 spent spent2 : ℕ) → since2 ≡ since → since ≤ spent → spent ≤ spent2 → since2 ≤ spent2
later-same since since2 spent spent2 e h k = omega arith

later-next : (since spent : ℕ) → since ≡ spent → since ≤ spent
later-next since spent e = omega arith

ticks-between : (since spent : ℕ) → since ≤ spent → since + (spent - since) ≡ spent
ticks-between since spent h = omega arith

-- Service n is called, served and recorded, so many instructions and its own after the program goes so.
pub served-turned : (o : Origin) (instrs here n : ℕ) (registers registers1 registers2 : List ℕ) (work work2 : Work)
    (records records2 : List Record) (f f1 f2 : Contents) (w w1 w2 : WorldState) (instrs2 : ℕ) (result : Turn)
    → Goes o instrs here registers work (now records f w)
    → AtMostOnePut (gate work.segment) (words_of f.words) (words_of f1.words) → f1.poked ≡ f.poked → Spends 1 w w1
    → Calls n (record { regs = view_of registers1; memory = words_of f1.words })
    ≡ step (gate work.segment) (record { regs = view_of registers; memory = words_of f.words })
    → AreInData o.scalars
    → IsServed o.scalars n (here + 1) registers1 work (now records f1 w1) instrs result registers2 work2
    (now records2 f2 w2) instrs2
    → Turned result o instrs2 (here + 1) registers2 work2 (now records2 f2 w2)
served-turned o instrs here n registers registers1 registers2 work work2 records records2 f f1 f2 w w1 w2 instrs2 result g put
    poked spends e placed v =
    subst (λ r. Turned r o instrs2 (here + 1) registers2 work2 (now records2 f2 w2)) (sym v.result_is)
    (subst (λ i. Turned (turn_of v.answer) o i (here + 1) registers2 work2 (now records2 f2 w2)) (sym v.instrs_are)
    (subst (λ r. Turned (turn_of v.answer) o (instrs_after (committed_in v.answer) instrs (here + 1)) (here + 1) registers2 work2
    (now r f2 w2)) (sym v.records_are) (by v.answer refl)))
  where
    rs : List Reading
    rs = taken_of (ask_found n registers1 (words_of f1.words) work) v.serves.value

    behind : List Record
    behind = records ++ read_records rs

    k : Keeps o (IsInCycle o records) IsRunning g.cursor (now records f w)
    k = g.rests.keeps

    is_written : IsWritten (words_of f.words) (words_of f1.words)
    is_written = written work.segment (words_of f.words) (words_of f1.words) put k.well_formed g.ready.segment

    still1 : IsStill f f1
    still1 = still-written f f1 is_written poked

    read_all : w2.readings ≡ w.readings ++ rs
    read_all = v.serves.passes.readings ∙ ap (λ r. r ++ rs) spends.readings

    passed : IsPassed w w2 rs
    passed =
        let a : w1.spent ≡ w.spent + 1 = spends.spent in
        let b : w.left ≡ w1.left + 1 = spends.left in
        record {
          later = omega (arith, a, v.serves.passes.spent);
          whole = omega (arith, a, b, v.serves.passes.spent, v.serves.passes.left);
          spans = v.serves.passes.spans ∙ spends.spans;
          cycles = v.serves.passes.cycles ∙ spends.cycles;
          readings = read_all;
          period = v.serves.passes.period ∙ spends.period;
        }

    -- the outside after the instruction, with the reading that the service takes
    mid : WorldState
    mid = record w1 { readings = w2.readings }

    passed_mid : IsPassed w mid rs
    passed_mid =
        let a : w1.spent ≡ w.spent + 1 = spends.spent in
        let b : w.left ≡ w1.left + 1 = spends.left in
        record {
          later = omega (arith, a);
          whole = omega (arith, a, b);
          spans = spends.spans;
          cycles = spends.cycles;
          readings = read_all;
          period = spends.period;
        }

    calm_mid : Calm mid w2
    calm_mid = record {
      later = omega (arith, v.serves.passes.spent);
      whole = omega (arith, v.serves.passes.spent, v.serves.passes.left);
      spans = v.serves.passes.spans;
      cycles = v.serves.passes.cycles;
      readings = refl;
      period = v.serves.passes.period;
    }

    answer : IsAnswer work work2 w2 v.answer
    answer = answers n registers1 registers2 (words_of f1.words) (words_of f2.words) work work2 w1 w2 v.answer
        (subst (λ x. x + 8 + work.block_length ≤ 256) (sym is_written.count) g.ready.room) v.serves

    told_here : IsTold (story_in o records) (story_in o behind) rs
    told_here = told o records rs k.added g.going

    -- without a commit the memory recovers as before
    plain : committed_in v.answer ≡ None → IsStill f f2
    plain c = record {
      well_formed = v.serves.well_formed;
      recovered = subst (λ x. OnCommit x (IsCommitted w1 w2 registers2 work2 (words_of f2.words))
          (recovered (words_of f2.words) ≡ recovered (words_of f1.words))) c v.serves.recovers ∙ still1.recovered;
      poked = v.poked ∙ poked;
    }

    keeps_plain : committed_in v.answer ≡ None → Keeps o (IsInCycle o behind) IsRunning g.cursor (now behind f2 w2)
    keeps_plain c = keeps-passed o IsRunning g.cursor records f f2 w w2 rs (plain c) passed k

    -- and with one as the last one was, up to there
    keeps_mid : Keeps o (IsInCycle o behind) IsRunning g.cursor (now behind f1 mid)
    keeps_mid = keeps-passed o IsRunning g.cursor records f f1 w mid rs still1 passed_mid k

    number_here : work.commits ≡ (story_in o behind).last.number
    number_here = g.number ∙ sym k.number ∙ sym (ap (λ p. p.number) told_here.last)

    -- the ticks of an attempt that ends here
    took : ℕ
    took = w2.spent - work.since

    took_is : work.since + took ≡ w2.spent
    took_is = ticks-between work.since w2.spent (omega (arith, g.later, passed.later))

    rests_plain : committed_in v.answer ≡ None → RestsAt o instrs g.cursor (now behind f2 w2)
    rests_plain c = record { keeps = keeps_plain c; instrs_are = ap (λ p. p.instrs) told_here.last ∙ g.rests.instrs_are }

    stood : (end : IdealEnd)
        → ((t : Ideal) → Follows v.answer t [] registers2 (words_of f2.words) work2
        → StandsAt t end [] registers2 (words_of f2.words) work2)
        → ((P : Type 0) → OnPower v.answer P → P)
        → Always o (readings_so_far (story_in o behind)) (here + 1)
        (HasStood end (committed_in v.answer) work.since registers2 work2 (words_of f2.words) w2)
    stood end stands power = λ start s.
        subst (λ r. Claim start r (here + 1)
        (HasStood end (committed_in v.answer) work.since registers2 work2 (words_of f2.words) w2))
        (sym (so_far (story_in o records) (story_in o behind) rs told_here))
        (stood-claim o n here registers registers1 registers2 work work2 (words_of f.words) (words_of f1.words)
        (words_of f2.words) w w1 w2 (readings_so_far (story_in o records)) v.answer end g.machine is_written.count spends e
        v.serves stands power start s)

    -- where the machine went on, or where it ended so
    stood_on : (c : Option Committed) → v.answer ≡ served.Done c
        → Always o (readings_so_far (story_in o behind)) (here + 1)
        (HasStood Running c work.since registers2 work2 (words_of f2.words) w2)
    stood_on c q = λ start s.
        subst (λ x. Claim start (readings_so_far (story_in o behind)) (here + 1)
        (HasStood Running x work.since registers2 work2 (words_of f2.words) w2)) (ap committed_in q)
        (stood Running (λ t h. subst (λ a. Follows a t [] registers2 (words_of f2.words) work2) q h)
        (λ P h. subst (λ a. OnPower a P) q h) start s)

    stood_over : (kind : EndKind) (c : Option Committed) → v.answer ≡ served.End kind c
        → Always o (readings_so_far (story_in o behind)) (here + 1)
        (HasStood (Ended kind) c work.since registers2 work2 (words_of f2.words) w2)
    stood_over kind c q = λ start s.
        subst (λ x. Claim start (readings_so_far (story_in o behind)) (here + 1)
        (HasStood (Ended kind) x work.since registers2 work2 (words_of f2.words) w2)) (ap committed_in q)
        (stood (Ended kind) (λ t h. subst (λ a. Follows a t [] registers2 (words_of f2.words) work2) q h)
        (λ P h. subst (λ a. OnPower a P) q h) start s)

    ended_over : (kind : EndKind) (c : Option Committed) (d : Cursor) (number : ℕ) → v.answer ≡ served.End kind c
        → work2.commits ≡ number → work2.since + d.span ≡ w2.spent + w2.left + d.at
        → Always o (readings_so_far (story_in o behind)) (here + 1) (EndsWithin d number kind)
    ended_over kind c d number q same at = λ start s. claim-map start (readings_so_far (story_in o behind)) (here + 1)
        (HasStood (Ended kind) c work.since registers2 work2 (words_of f2.words) w2) (EndsWithin d number kind)
        (λ t h. stood-ends d number kind c work.since registers2 work2 (words_of f2.words) w2 t same at h)
        (stood_over kind c q start s)

    -- the board's last commit within the power cycle
    since_plain : IsStepped work work2 w2.spent None → work2.since + g.cursor.span ≡ w2.spent + w2.left + g.cursor.at
    since_plain st = since-same work.since work2.since g.cursor.span w.spent w.left g.cursor.at w2.spent w2.left st.since g.since
        passed.whole

    since_committed : (c : Committed) → IsStepped work work2 w2.spent (Some c)
        → work2.since + g.cursor.span ≡ w2.spent + w2.left + (g.cursor.at + took)
    since_committed c st = since-next work.since work2.since g.cursor.span w.spent w.left g.cursor.at w2.spent w2.left took
        st.since g.since passed.whole took_is

    -- the story with a commit, and its readings
    now_told : (c : Committed)
        → story_in o (behind ++ commit_records o.scalars (Some c) registers2 work2 (here + 1) (words_of f2.words))
        ≡ after (story_in o behind) (Commit work2.commits work2.marks (here + 1) (slice_index registers2 0)
        (slice_index registers2 1) c.words c.log (sets_behind o.scalars c.log (words_of f2.words)))
    now_told c = story-more o behind _ keeps_mid.added

    so : (c : Committed)
        → readings_so_far (story_in o (behind ++ commit_records o.scalars (Some c) registers2 work2 (here + 1)
        (words_of f2.words)))
        ≡ readings_so_far (story_in o behind)
    so c = ap readings_so_far (now_told c) ∙ append-nil (readings_so_far (story_in o behind))

    later : here + 1 + o.world.spent ≤ w2.spent
    later =
        let a : w1.spent ≡ w.spent + 1 = spends.spent in
        omega (arith, a, v.serves.passes.spent, g.here_later)

    marks_later : (c : Option Committed) → IsStepped work work2 w2.spent c
        → work2.marks + o.world.spent ≤ marks_of (kept_in o.fram) + w2.spent
    marks_later c st =
        let a : w1.spent ≡ w.spent + 1 = spends.spent in
        omega (arith, a, v.serves.passes.spent, g.marks_later, st.marks)

    closed : (c : Option Committed) → IsStepped work work2 w2.spent c → IsClosed work2
    closed c st = record { block = st.block ∙ g.ready.closed.block; length = st.length_is ∙ g.ready.closed.length }

    committed : (c : Committed) → committed_in v.answer ≡ Some c → IsCommitted w1 w2 registers2 work2 (words_of f2.words)
    committed c q =
        subst (λ x. OnCommit x (IsCommitted w1 w2 registers2 work2 (words_of f2.words))
        (recovered (words_of f2.words) ≡ recovered (words_of f1.words))) q v.serves.recovers

    -- its changes lead from what was shown to what the memory recovers to
    led : (c : Committed) → committed_in v.answer ≡ Some c
        → Leads o.scalars (story_in o behind).last.display (sets_behind o.scalars c.log (words_of f2.words)) (kept_in f2).memory
    led c q =
        leads o.scalars (story_in o behind).last.display c.log (words_of f1.words) (words_of f2.words) registers2 work2 w1 w2
        placed is_written.well_formed
        (subst (λ x. IfSome x (λ a. Tells a.log (words_of f1.words) (words_of f2.words))) q v.serves.tells) (committed c q)
        keeps_mid.shown

    keeps_committed : (S : IdealEnd → Type 0) (end : IdealEnd) (c : Committed) → S end → committed_in v.answer ≡ Some c
        → IsStepped work work2 w2.spent (Some c)
        → Always o (readings_so_far (story_in o behind)) (here + 1)
        (HasStood end (Some c) work.since registers2 work2 (words_of f2.words) w2)
        → Keeps o (IsInCycle o (behind ++ commit_records o.scalars (Some c) registers2 work2 (here + 1) (words_of f2.words))) S
        (committed_at g.cursor took)
        (now (behind ++ commit_records o.scalars (Some c) registers2 work2 (here + 1) (words_of f2.words)) f2 w2)
    keeps_committed S end c standing q st claim =
        let is = committed c q in
        let number : work2.commits ≡ commits_of (kept_in f) + 1 = st.commits ∙ ap (λ x. x + 1) g.number in
        let a : w1.spent ≡ w.spent + 1 = spends.spent in
        let shut = closed (Some c) st in
        let sets = sets_behind o.scalars c.log (words_of f2.words) in
        subst (λ x. Keeps o (IsInCycle o (behind ++ Commit work2.commits work2.marks (here + 1) (slice_index registers2 0)
        (slice_index registers2 1) x c.log sets ∷ [])) S (committed_at g.cursor took)
        (now (behind ++ Commit work2.commits work2.marks (here + 1) (slice_index registers2 0) (slice_index registers2 1) x c.log
        sets ∷ []) f2 w2)) (sym st.words)
        (keeps-commit o IsRunning S g.cursor behind f1 f2 mid w2 work2.commits work2.marks (here + 1) (slice_index registers2 0)
        (slice_index registers2 1) c.log took sets keeps_mid calm_mid
        keeps_mid.form_is.1 v.serves.well_formed v.poked (committed-shut registers2 work2 (words_of f2.words) w1 w2 is shut)
        (number ∙ ap (λ (x : Machine). commits_of x + 1) (sym still1.recovered))
        (committed-commits registers2 work2 (words_of f2.words) w1 w2 is)
        (committed-marks registers2 work2 (words_of f2.words) w1 w2 is) (marks_later (Some c) st)
        (omega (arith, number, a, v.serves.passes.spent, k.commits_later)) later st.log
        (ticks-within work.since g.cursor.span w.spent w.left g.cursor.at w2.spent w2.left took g.since passed.whole took_is)
        placed (led c q)
        (λ start s. claim-map start (readings_so_far (story_in o behind)) (here + 1)
        (HasStood end (Some c) work.since registers2 work2 (words_of f2.words) w2)
        (λ t. HasRecovered S o.world.period (words_of f2.words) t
        × IsPrinted work2.commits work2.marks (slice_index registers2 0) (slice_index registers2 1) c.log took t)
        (λ t h. stood-printed S end c work.since took registers2 work2 (words_of f2.words) w w1 w2 o.world.period t standing is
        v.sixteen took_is st.since shut.length (passed.period ∙ k.period) h) (claim start s)))

    -- power failed in the service
    stops : v.answer ≡ served.Off
        → AlwaysNext o (readings_so_far (story_in o behind)) here
        (StopsWithin g.cursor (story_in o behind).last.number (count_of (words_of f2.words)))
    stops q = λ start s.
        let number = (story_in o behind).last.number in
        subst (λ r. Claim start r (suc here)
        (StopsWithin g.cursor number (count_of (words_of f2.words)) (run here (with_more start r))))
        (sym (so_far (story_in o records) (story_in o behind) rs told_here))
        (stops-claim o n here registers registers1 registers2 work work2 (words_of f.words) (words_of f1.words)
        (words_of f2.words) w w1 w2 (readings_so_far (story_in o records)) v.answer g.cursor number g.machine is_written.count
        spends e v.serves (λ P h. subst (λ a. OnCut a P) q h) (answer.none q) number_here g.since start s)

    by : (a : Served) → v.answer ≡ a
        → Turned (turn_of a) o (instrs_after (committed_in a) instrs (here + 1)) (here + 1) registers2 work2
        (now (behind ++ commit_records o.scalars (committed_in a) registers2 work2 (here + 1) (words_of f2.words)) f2 w2)
    by served.Off q =
        subst (λ r. IsCut o instrs (now r f2 w2)) (sym (append-nil behind)) (record {
          cursor = g.cursor;
          rests = rests_plain (ap committed_in q);
          none = answer.none q;
          off = record { behind = refl; fits = v.serves.well_formed.count; how = inr (inr (here, stops q)) };
        })
    by (served.End kind None) q =
        let st : IsStepped work work2 w2.spent None = subst (λ a. OnPower a (IsStepped work work2 w2.spent (committed_in a))) q
        answer.stepped in
        subst (λ r. Ends o kind (now r f2 w2)) (sym (append-nil behind)) (record {
          cursor = g.cursor;
          keeps = keeps-any o (IsInCycle o behind) (IsInCycle o behind) IsRunning g.cursor (now behind f2 w2) (λ p h. h)
              (keeps_plain (ap committed_in q));
          own = answer.own kind None q;
          cause = cause o (story_in o behind) g.cursor kind (record {
            instrs = here + 1;
            ended = ended_over kind None g.cursor (story_in o behind).last.number q (st.commits ∙ number_here) (since_plain st);
          });
        })
    by (served.End kind (Some c)) q =
        let st : IsStepped work work2 w2.spent (Some c) =
        subst (λ a. OnPower a (IsStepped work work2 w2.spent (committed_in a))) q answer.stepped in
        let d = committed_at g.cursor took in
        let story2 = story_in o (behind ++ commit_records o.scalars (Some c) registers2 work2 (here + 1) (words_of f2.words)) in
        record {
          cursor = d;
          keeps = keeps_committed IsAny (Ended kind) c tt (ap committed_in q) st (stood_over kind (Some c) q);
          own = answer.own kind (Some c) q;
          cause = cause o story2 d kind (record {
            instrs = here + 1;
            ended = λ start s. subst (λ r. Claim start r (here + 1) (EndsWithin d story2.last.number kind)) (sym (so c))
                (ended_over kind (Some c) d story2.last.number q (sym (ap (λ (x : Story). x.last.number) (now_told c)))
                (since_committed c st) start s);
          });
        }
    by (served.Done None) q =
        let st : IsStepped work work2 w2.spent None = subst (λ a. OnPower a (IsStepped work work2 w2.spent (committed_in a))) q
        answer.stepped in
        let still = plain (ap committed_in q) in
        let goes : Goes o instrs (here + 1) registers2 work2 (now behind f2 w2) = record {
          cursor = g.cursor;
          rests = rests_plain (ap committed_in q);
          since = since_plain st;
          later = later-same work.since work2.since w.spent w2.spent st.since g.later passed.later;
          going = told_here.going;
          ready = subst (λ a. OnGoes a (IsReady (words_of f2.words) work2)) q v.serves.ready;
          number = st.commits ∙ g.number ∙ sym (ap commits_of still.recovered);
          marks_later = marks_later None st;
          here_later = later;
          machine = λ start s. claim-map start (readings_so_far (story_in o behind)) (here + 1)
              (HasStood Running None work.since registers2 work2 (words_of f2.words) w2)
              (HasCome registers2 work2 (words_of f2.words) w2)
              (come-stood None work.since registers2 work2 (words_of f2.words) w2) (stood_on None q start s);
        } in
        subst (λ r. Goes o instrs (here + 1) registers2 work2 (now r f2 w2)) (sym (append-nil behind)) goes
    by (served.Done (Some c)) q =
        let st : IsStepped work work2 w2.spent (Some c) =
        subst (λ a. OnPower a (IsStepped work work2 w2.spent (committed_in a))) q answer.stepped in
        record {
          cursor = committed_at g.cursor took;
          rests = record {
            keeps = keeps_committed IsRunning Running c refl (ap committed_in q) st (stood_on (Some c) q);
            instrs_are = ap (λ (s : Story). s.last.instrs) (now_told c);
          };
          since = since_committed c st;
          later = later-next work2.since w2.spent st.since;
          going = subst (λ (s : Story). OnGoing s.going (λ a. Unit {0})) (sym (now_told c)) tt;
          ready = subst (λ a. OnGoes a (IsReady (words_of f2.words) work2)) q v.serves.ready;
          number = sym (committed-commits registers2 work2 (words_of f2.words) w1 w2 (committed c (ap committed_in q)));
          marks_later = marks_later (Some c) st;
          here_later = later;
          machine = λ start s. subst (λ r. Claim start r (here + 1) (HasCome registers2 work2 (words_of f2.words) w2))
              (sym (so c))
              (claim-map start (readings_so_far (story_in o behind)) (here + 1)
              (HasStood Running (Some c) work.since registers2 work2 (words_of f2.words) w2)
              (HasCome registers2 work2 (words_of f2.words) w2)
              (come-stood (Some c) work.since registers2 work2 (words_of f2.words) w2) (stood_on (Some c) q start s));
        }

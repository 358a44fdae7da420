-- One instruction under the write gate, on the board and on the machine.
use Rattle.std.proofs.Common.{◌≡◌, ℕ, suc, ◌+◌, ◌-◌, ◌^◌, ◌<◌, ◌≤◌, Bool, true, false, not, refl, sym, ap, ◌∙◌, subst, arith, inl, inr, None, List, [], ◌++◌, length, append-nil, add-one}
use Rattle.base16.specs.Memory.{put, words_of}
use Rattle.base16.specs.declared.reading.Reading.{Reading}
use Rattle.board_map.specs.Map.{count_of, segment_of, in_segment}
use Rattle.board_map.specs.Recovered.{Machine, recovered}
use Rattle.board_map.specs.Ticks.{plain_word}
use Rattle.board_map.specs.WellFormed.{IsWellFormed}
use Rattle.board_map.specs.declared.work.Work.{Work}
use Rattle.board_map.proofs.TickKinds.{tick_keeps}
use Rattle.core430.specs.Registers.{view_of}
use Rattle.core430.specs.Shown.{AtMostOnePut, NoPut, OnePut}
use Rattle.core430.specs.Step.{State, Outcome, Next, Service as Calls, Wild, step}
use Rattle.core430.specs.Uses.{IsWithin, SameOn, joined, EndAlike, step_uses, step_changes}
use Rattle.core430.proofs.Depends.{follows_under_gate}
use Rattle.fram.specs.Contents.{Contents}
use Rattle.ideal430.specs.Agreement.{Agrees, GoesAlong, Claim}
use Rattle.ideal430.specs.Ideal.{Ideal, moved, free, next, with_left, with_more}
use Rattle.ideal430.specs.Uses.{UsesIf, UsesSettled}
use Rattle.ideal430.specs.declared.state.IdealEnd.{IdealEnd}
use Rattle.ideal430.specs.declared.state.IdealEnd.TheVariants.{Running}
use Rattle.ideal430.proofs.Along.{moved-along}
use Rattle.ideal430.proofs.Running.{next-running}
use Rattle.ideal430.proofs.Runs.{claim-step}
use Rattle.base16.specs.declared.end.EndKind.TheVariants.{Wild as WildAt}
use Rattle.services.specs.Serving.{IsReady}
use Rattle.world.specs.World.{WorldState, IsLawful, Spends}
use Rattle.world.specs.declared.history.Record.{Record}
use Rattle.player.specs.Playing.{Origin, commits_of, kept_in, story_in, IsRunning, IsPlayable, readings_so_far, now}
use Rattle.player.specs.Ticks.{Cursor, StopsAt}
use Rattle.player.specs.Turning.{IsInCycle, HasCome, Goes, IsCut, Ends}
use Rattle.player.proofs.Keeping.{claim-map, IsStill, calm-spends, keeps-on, keeps-any}

-- the write gate of a segment
abbrev pub gate : (segment : ℕ) → ℕ → Bool
gate segment a = not (in_segment segment a)

-- ---- the board

-- what an instruction writes is a word of the working segment, of which the slot has a copy
pub record IsWritten (m m2 : ℕ → ℕ) : Type 0 where
  pub well_formed : IsWellFormed m2
  pub recovered : recovered m2 ≡ recovered m
  pub count : count_of m2 ≡ count_of m

inside : (b : Bool) → not b ≡ false → b ≡ true
inside true h = refl
inside false h = cc

pub written : (segment : ℕ) (m m2 : ℕ → ℕ) → AtMostOnePut (gate segment) m m2 → IsWellFormed m → segment ≡ segment_of m
    → IsWritten m m2
written segment m m2 (NoPut e) f s = subst (IsWritten m) (sym e) (record { well_formed = f; recovered = refl; count = refl })
written segment m m2 (OnePut a v even d e) f s =
    let i : in_segment (segment_of m) a ≡ true = subst (λ x. in_segment x a ≡ true) s (inside (in_segment segment a) d) in
    let k = tick_keeps plain_word m a v f i in
    subst (IsWritten m) (sym e) (record { well_formed = k.well_formed; recovered = k.recovered; count = k.entries })

pub still-written : (f f2 : Contents) → IsWritten (words_of f.words) (words_of f2.words) → f2.poked ≡ f.poked → IsStill f f2
still-written f f2 h p = record { well_formed = h.well_formed; recovered = h.recovered; poked = p }

-- ---- the machine

-- the machine's step comes to the state s, which agrees with the board's on settled bytes
record IsAlike (p : ℕ → Bool) (kind : State → Outcome) (o : Outcome) (board : State) : Type 0 where
  s : State
  is : o ≡ kind s
  regs : s.regs ≡ board.regs
  memory : SameOn p s.memory board.memory

no-service : (s t : State) (n : ℕ) → Next s ≡ Calls n t → ⊥
no-service s t n h = cc

no-wild : (s : State) (a : ℕ) → Next s ≡ Wild a → ⊥
no-wild s a h = cc

no-wild_call : (n : ℕ) (s : State) (a : ℕ) → Calls n s ≡ Wild a → ⊥
no-wild_call n s a h = cc

same-next : (s t : State) → Next s ≡ Next t → s ≡ t
same-next s t h = cc

same-call : (n k : ℕ) (s t : State) → Calls n s ≡ Calls k t → s ≡ t
same-call n k s t h = cc

same-number : (n k : ℕ) (s t : State) → Calls n s ≡ Calls k t → n ≡ k
same-number n k s t h = cc

alike-next : (p : ℕ → Bool) (o : Outcome) (board : State) → EndAlike p o (Next board) → IsAlike p Next o board
alike-next p (Next s) board (t, e, r, m) =
    let q : t ≡ board = sym (same-next board t e) in
    record {
      s = s;
      is = refl;
      regs = r ∙ ap (λ (x : State). x.regs) q;
      memory = subst (λ (x : State). SameOn p s.memory x.memory) q m;
    }
alike-next p (Calls n s) board (t, e, r, m) = absurd (no-service board t n e)
alike-next p (Wild a) board e = absurd (no-wild board a e)

alike-call : (p : ℕ → Bool) (n : ℕ) (o : Outcome) (board : State) → EndAlike p o (Calls n board) → IsAlike p (Calls n) o board
alike-call p n (Next s) board (t, e, r, m) = absurd (no-service t board n (sym e))
alike-call p n (Calls k s) board (t, e, r, m) =
    let q : t ≡ board = sym (same-call n k board t e) in
    record {
      s = s;
      is = ap (λ x. Calls x s) (sym (same-number n k board t e));
      regs = r ∙ ap (λ (x : State). x.regs) q;
      memory = subst (λ (x : State). SameOn p s.memory x.memory) q m;
    }
alike-call p n (Wild a) board e = absurd (no-wild_call n board a e)

never-denied : (a : ℕ) (P : Type 0) → free a ≡ true → P
never-denied a P h = cc

-- the step of the machine, where the board's was not refused
steps-alike : (segment : ℕ) (t : Ideal) (registers : ℕ → ℕ) (m : ℕ → ℕ) (o : Outcome) → t.core.regs ≡ registers
    → SameOn t.settled t.core.memory m → IsWithin (step_uses t.core) t.settled
    → o ≡ step (gate segment) (record { regs = registers; memory = m }) → ((a : ℕ) → o ≡ Wild a → ⊥)
    → EndAlike (joined t.settled (step_changes t.core)) (step free t.core) o
steps-alike segment t registers m o regs same uses e tame =
    let here : o ≡ step (gate segment) (record { regs = t.core.regs; memory = m }) =
    e ∙ ap (λ (r : ℕ → ℕ). step (gate segment) (record { regs = r; memory = m })) (sym regs) in
    elim (follows_under_gate (gate segment) free t.core (λ a h. never-denied a (gate segment a ≡ true) h) t.settled m same uses) [
      | inl x ↦ subst (EndAlike (joined t.settled (step_changes t.core)) (step free t.core)) (sym here) x
      | inr x ↦ absurd (tame x.0 (here ∙ x.3))
    ]

-- what is left to read does not matter
pub agrees-left : (t : Ideal) (rest : List Reading) (r m : ℕ → ℕ) (segment marks : ℕ) → Agrees t r m segment None marks
    → Agrees (with_left t rest) r m segment None marks
agrees-left t rest r m segment marks a = record {
  regs_are = a.regs_are;
  memory = a.memory;
  segment_is = a.segment_is;
  block_is = a.block_is;
  marks_are = a.marks_are;
  fixed = a.fixed;
  within = a.within;
}

-- the machine with what the board has
abbrev at_board : Ideal → (registers : List ℕ) (m : ℕ → ℕ) → Work → Ideal
at_board t registers m work = record t {
  core = record { regs = view_of registers; memory = m };
  segment = work.segment;
  block = None;
  marks = work.marks;
}

-- the machine after its instruction is where the board is
moved-come : (t : Ideal) (s : State) (registers registers2 : List ℕ) (work : Work) (m m2 : ℕ → ℕ) (w w2 : WorldState)
    → HasCome registers work m w t → s.regs ≡ view_of registers2 → SameOn (joined t.settled (step_changes t.core)) s.memory m2
    → count_of m2 ≡ count_of m → Spends 1 w w2 → HasCome registers2 work m2 w2 (moved t s)
moved-come t s registers registers2 work m m2 w w2 h regs memory count spends =
    let b = at_board t registers m work in
    let g : GoesAlong t b = record { agrees = h.agrees; left = refl; status = refl } in
    let along = moved-along t b s (record { regs = view_of registers2; memory = m2 }) regs memory g in
    let ticks : work.since + t.meter.ticks ≡ w.spent = h.counts.ticks in
    let spent : w2.spent ≡ w.spent + 1 = spends.spent in
    record {
      runs = h.runs;
      agrees = along.agrees;
      counts = record {
        ticks = omega arith;
        entries = h.counts.entries ∙ sym count;
        commits = h.counts.commits;
        length = h.counts.length;
        period = h.counts.period ∙ sym spends.period;
      };
    }

-- The machine, with these readings to take, comes by its next instruction to where the board does.
pub record Arrives (t : Ideal) (kind : State → Outcome) (registers : List ℕ) (work : Work) (m : ℕ → ℕ)
    (w : WorldState) : Type 0 where
  pub s : State
  pub is : step free t.core ≡ kind s
  pub come : HasCome registers work m w (moved t s)

pub come-left : (t : Ideal) (rest : List Reading) (registers : List ℕ) (work : Work) (m : ℕ → ℕ) (w : WorldState)
    → HasCome registers work m w t → HasCome registers work m w (with_left t rest)
come-left t rest registers work m w h = record {
  runs = h.runs;
  agrees = agrees-left t rest (view_of registers) m work.segment work.marks h.agrees;
  counts = record {
    ticks = h.counts.ticks;
    entries = h.counts.entries;
    commits = h.counts.commits;
    length = h.counts.length;
    period = h.counts.period;
  };
}

arrives : (t : Ideal) (kind : State → Outcome) (registers registers2 : List ℕ) (work : Work) (m m2 : ℕ → ℕ) (w w2 : WorldState)
    → HasCome registers work m w t → count_of m2 ≡ count_of m → Spends 1 w w2
    → IsAlike (joined t.settled (step_changes t.core)) kind (step free t.core) (record { regs = view_of registers2; memory = m2 })
    → Arrives t kind registers2 work m2 w2
arrives t kind registers registers2 work m m2 w w2 h count spends a = record {
  s = a.s;
  is = a.is;
  come = moved-come t a.s registers registers2 work m m2 w w2 h a.regs a.memory count spends;
}

pub uses-running : (t : Ideal) → t.status ≡ Running → UsesSettled t → UsesIf Running t
uses-running t e h = subst (λ (s : IdealEnd). UsesIf s t) e h

pub arrives-next : (t : Ideal) (registers registers2 : List ℕ) (work : Work) (m m2 : ℕ → ℕ) (w w2 : WorldState)
    → HasCome registers work m w t → UsesSettled t → count_of m2 ≡ count_of m → Spends 1 w w2
    → Next (record { regs = view_of registers2; memory = m2 })
    ≡ step (gate work.segment) (record { regs = view_of registers; memory = m })
    → Arrives t Next registers2 work m2 w2
arrives-next t registers registers2 work m m2 w w2 h uses count spends e =
    arrives t Next registers registers2 work m m2 w w2 h count spends
    (alike-next _ (step free t.core) _
    (steps-alike work.segment t (view_of registers) m _ h.agrees.regs_are h.agrees.memory (uses-running t h.runs uses).0 e
    (λ a x. no-wild _ a x)))

pub arrives-call : (n : ℕ) (t : Ideal) (registers registers2 : List ℕ) (work : Work) (m m2 : ℕ → ℕ) (w w2 : WorldState)
    → HasCome registers work m w t → UsesSettled t → count_of m2 ≡ count_of m → Spends 1 w w2
    → Calls n (record { regs = view_of registers2; memory = m2 })
    ≡ step (gate work.segment) (record { regs = view_of registers; memory = m })
    → Arrives t (Calls n) registers2 work m2 w2
arrives-call n t registers registers2 work m m2 w w2 h uses count spends e =
    arrives t (Calls n) registers registers2 work m m2 w w2 h count spends
    (alike-call _ n (step free t.core) _
    (steps-alike work.segment t (view_of registers) m _ h.agrees.regs_are h.agrees.memory (uses-running t h.runs uses).0 e
    (λ a x. no-wild_call n _ a x)))

-- ---- an instruction that calls no service

pub next-goes : (o : Origin) (instrs here : ℕ) (registers registers2 : List ℕ) (work : Work) (records : List Record)
    (f f2 : Contents) (w w2 : WorldState) → Goes o instrs here registers work (now records f w)
    → AtMostOnePut (gate work.segment) (words_of f.words) (words_of f2.words) → f2.poked ≡ f.poked → Spends 1 w w2
    → Next (record { regs = view_of registers2; memory = words_of f2.words })
    ≡ step (gate work.segment) (record { regs = view_of registers; memory = words_of f.words })
    → Goes o instrs (here + 1) registers2 work (now records f2 w2)
next-goes o instrs here registers registers2 work records f f2 w w2 g put poked spends e =
    let m = words_of f.words in
    let m2 = words_of f2.words in
    let k = g.rests.keeps in
    let written_is = written work.segment m m2 put k.well_formed g.ready.segment in
    let still = still-written f f2 written_is poked in
    let calm = calm-spends 1 w w2 spends in
    let spent : w2.spent ≡ w.spent + 1 = spends.spent in
    let readings = readings_so_far (story_in o records) in
    record {
      cursor = g.cursor;
      rests = record {
        keeps = keeps-on o (IsInCycle o records) IsRunning g.cursor records f f2 w w2 still calm k.form_is.1 k;
        instrs_are = g.rests.instrs_are;
      };
      since = omega (arith, g.since, calm.whole);
      later = omega (arith, g.later);
      going = g.going;
      ready = record {
        segment = g.ready.segment ∙ sym (ap (λ (r : Machine). r.state 0) written_is.recovered);
        room = subst (λ n. n + 8 + work.block_length ≤ 256) (sym written_is.count) g.ready.room;
        closed = g.ready.closed;
      };
      number = g.number ∙ sym (ap commits_of written_is.recovered);
      marks_later = omega (arith, g.marks_later);
      here_later = omega (arith, g.here_later);
      machine = λ start s. subst (λ n. Claim start readings n (HasCome registers2 work m2 w2)) (sym (add-one here))
          (subst (λ r. Claim start r (suc here) (HasCome registers2 work m2 w2)) (append-nil readings)
          (claim-step start readings [] here (HasCome registers work m w) (HasCome registers2 work m2 w2) (λ t h. h.runs)
          (λ t left h uses.
          let u = with_more t [] in
          let come : HasCome registers work m w u = come-left t (t.left ++ []) registers work m w h in
          let a = arrives-next u registers registers2 work m m2 w w2 come uses written_is.count spends e in
          let is : next u ≡ moved u a.s = next-running u (Next a.s) come.runs a.is in
          subst (λ (x : Ideal). (x.left ≡ []) × HasCome registers2 work m2 w2 x) (sym is)
          (ap (λ r. r ++ []) left, a.come)) (g.machine start s)));
    }

-- ---- an access that is refused ends the run

pub wild-ends : (o : Origin) (instrs here : ℕ) (registers : List ℕ) (work : Work) (records : List Record) (f f2 : Contents)
    (w w2 : WorldState) (address : ℕ) → Goes o instrs here registers work (now records f w)
    → AtMostOnePut (gate work.segment) (words_of f.words) (words_of f2.words) → f2.poked ≡ f.poked → Spends 1 w w2
    → Ends o (WildAt address) (now records f2 w2)
wild-ends o instrs here registers work records f f2 w w2 address g put poked spends =
    let k = g.rests.keeps in
    let still = still-written f f2 (written work.segment (words_of f.words) (words_of f2.words) put k.well_formed g.ready.segment)
    poked in
    record {
      cursor = g.cursor;
      keeps = keeps-any o (IsInCycle o records) (IsInCycle o records) IsRunning g.cursor (now records f2 w2) (λ p h. h)
          (keeps-on o (IsInCycle o records) IsRunning g.cursor records f f2 w w2 still (calm-spends 1 w w2 spends) k.form_is.1 k);
      own = refl;
      cause = tt;
    }

-- ---- power fails before an instruction

stops-at : (c : Cursor) (number : ℕ) (registers : List ℕ) (work : Work) (m : ℕ → ℕ) (w : WorldState) (t : Ideal)
    → work.commits ≡ number → work.since + c.span ≡ w.spent + w.left + c.at → w.left ≡ 0 → HasCome registers work m w t
    → StopsAt c number (count_of m) t
stops-at c number registers work m w t same since none h =
    let ticks : work.since + t.meter.ticks ≡ w.spent = h.counts.ticks in
    record {
      runs = h.runs;
      commits = h.counts.commits ∙ same;
      ticks = omega (arith, since, none, ticks);
      entries = h.counts.entries;
    }

pub tick-cut : (o : Origin) (instrs here : ℕ) (registers : List ℕ) (work : Work) (records : List Record) (f : Contents)
    (w : WorldState) → Goes o instrs here registers work (now records f w) → w.left ≡ 0 → IsCut o instrs (now records f w)
tick-cut o instrs here registers work records f w g none =
    let k = g.rests.keeps in
    let s = story_in o records in
    let m = words_of f.words in
    record {
      cursor = g.cursor;
      rests = g.rests;
      none = none;
      off = record {
        behind = refl;
        fits = k.well_formed.count;
        how = inr (inl (
          here,
          λ start st. claim-map start (readings_so_far s) here (HasCome registers work m w)
              (StopsAt g.cursor s.last.number (count_of m))
              (λ t h. stops-at g.cursor s.last.number registers work m w t (g.number ∙ sym k.number) g.since none h)
              (g.machine start st),
        ));
      };
    }

-- ---- an instruction that calls a service leaves the board ready for it

pub record MayCall (work : Work) (m : ℕ → ℕ) (w : WorldState) : Type 0 where
  pub well_formed : IsWellFormed m
  pub ready : IsReady m work
  pub marks : work.marks < 2 ^ 32 - 1
  pub commits : work.commits < 2 ^ 32 - 1
  pub given : length w.readings < w.spent

pub may-call : (o : Origin) (instrs here : ℕ) (registers : List ℕ) (work : Work) (records : List Record) (f f2 : Contents)
    (w w2 : WorldState) → Goes o instrs here registers work (now records f w)
    → AtMostOnePut (gate work.segment) (words_of f.words) (words_of f2.words) → Spends 1 w w2
    → IsPlayable (kept_in o.fram) → IsLawful w → MayCall work (words_of f2.words) w2
may-call o instrs here registers work records f f2 w w2 g put spends p l =
    let k = g.rests.keeps in
    let h = written work.segment (words_of f.words) (words_of f2.words) put k.well_formed g.ready.segment in
    let spent : w2.spent ≡ w.spent + 1 = spends.spent in
    let number : work.commits ≡ commits_of (kept_in f) = g.number in
    let same : length w2.readings ≡ length w.readings = ap length spends.readings in
    record {
      well_formed = h.well_formed;
      ready = record {
        segment = g.ready.segment ∙ sym (ap (λ (r : Machine). r.state 0) h.recovered);
        room = subst (λ n. n + 8 + work.block_length ≤ 256) (sym h.count) g.ready.room;
        closed = g.ready.closed;
      };
      marks = omega (arith, g.marks_later, p.marks, l.spent);
      commits = omega (arith, k.commits_later, p.commits, l.spent);
      given = omega (arith, l.given);
    }

-- An effect on the board: its stores, its mark, and its commit where one is due.
use Rattle.std.proofs.Common.{◌≡◌, ℕ, ◌+◌, ◌-◌, ◌<◌, ◌≤◌, Bool, true, false, not, ◌&&◌, nat_eq, List, refl, sym, ap, ◌∙◌, subst, arith, Option, Some, None, Result, Ok, Err, IfOk, IfSome, if◌then◌else◌}
use Rattle.std.proofs.lemmas.Result.{on_ok_weaker, on_err_weaker}
use Rattle.board_map.specs.Map.{undo_log_start, count_of}
use Rattle.board_map.specs.Recovered.{recovered, machine_of, state_words, first}
use Rattle.board_map.specs.WellFormed.{IsWellFormed}
use Rattle.board_map.specs.declared.work.Work.{Work}
use Rattle.board_map.proofs.Writes.{live-low, machine_same}
use Rattle.fram.proofs.Outcomes.{always_ok}
use Rattle.fram.proofs.TickLemmas.{takes_after, off_before}
use Rattle.ideal430.specs.Costs.{is_due, commit_ticks, effect_ticks, effect_entries}
use Rattle.ideal430.specs.Service.{Effect}
use Rattle.ideal430.specs.Shown.{effect_shown}
use Rattle.ideal430.specs.declared.deed.Deed.{Deed}
use Rattle.std.specs.Prelude.{slice_index}
use Rattle.world.specs.World.{WorldState, IsLawful, Spends, Spends-none}
use Rattle.world.specs.declared.outside.Off.{Off}
use Rattle.services.specs.Serving.{due_at, committed_of, moved, committed_work, IsCommitted, IsUncommitted, OnCommit, Tells, Settles, Acts}
use Rattle.services.specs.declared.acting.Committed.{Committed}
use Rattle.services.proofs.Logs.{tells}
use Rattle.services.specs.Serving.{MadeStores}

-- ---- a commit, where one is due

pub settled-none : (due : Bool) (registers : List ℕ) (m : ℕ → ℕ) (work : Work) (s : WorldState) → due ≡ false → IsWellFormed m
    → IsLawful s
    → Settles due registers m work s (Ok None) m work s
settled-none due registers m work s e f lawful = subst (λ b. Settles b registers m work s (Ok None) m work s) (sym e) (record {
  takes = Spends-none s;
  past = λ b l. refl;
  work_is = refl;
  answer = refl;
  recovers = record { recovered = refl; count = refl };
  off = tt;
  well_formed = f;
  lawful = lawful;
})

-- a commit recovers to what stands
committed-is : (registers : List ℕ) (w w2 : Work) (m n : ℕ → ℕ) (s t : WorldState) → s.clock ≤ t.clock
    → w2 ≡ record w { commits = w.commits + 1; since = t.spent }
    → recovered n ≡ machine_of registers
    (state_words w.segment (if w.block_open then 1 else 0) w.block_length w.marks (w.commits + 1) s.clock) m
    → ((b : ℕ) → 0x1400 ≤ b → n b ≡ m b) → count_of n ≡ 0 → IsCommitted s t registers w2 n
committed-is registers w w2 m n s t later e r past none =
    let state = state_words w.segment (if w.block_open then 1 else 0) w.block_length w.marks (w.commits + 1) s.clock in
    let R = first 16 (λ k. slice_index registers k) in
    let S = first 9 (λ k. slice_index state k) in
    let same : machine_of registers state m ≡ machine_of registers state n =
    machine_same R S R S m n refl refl (λ b live. let low = live-low R S b live in sym (past b (omega arith))) in
    subst (λ w. IsCommitted s t registers w n) (sym e)
    (record { clock = s.clock; begun = omega arith; over = later; is = r ∙ same; no_entries = none })

pub settled-done : (due : Bool) (log : ℕ) (registers : List ℕ) (m m2 : ℕ → ℕ) (work work2 : Work) (s t : WorldState) → due ≡ true
    → log ≡ count_of m → Spends 155 s t → work2 ≡ record work { commits = work.commits + 1; since = t.spent }
    → recovered m2 ≡ machine_of registers
    (state_words work.segment (if work.block_open then 1 else 0) work.block_length work.marks (work.commits + 1) s.clock) m
    → count_of m2 ≡ 0 → ((b : ℕ) → 0x1400 ≤ b → m2 b ≡ m b) → IsWellFormed m2 → IsLawful t
    → Settles due registers m work s (Ok (Some (record { words = 155; log = log }))) m2 work2 t
settled-done due log registers m m2 work work2 s t e same ticks wk rec none past f lawful =
    subst (λ b. Settles b registers m work s (Ok (Some (record { words = 155; log = log }))) m2 work2 t) (sym e) (record {
      takes = ticks;
      past = past;
      work_is = wk;
      answer = ap (λ (n : ℕ). committed_of true n) same;
      recovers = committed-is registers work work2 m m2 s t ticks.later wk rec past none;
      off = tt;
      well_formed = f;
      lawful = lawful;
    })

pub settled-off : (due : Bool) (x : Off) (registers : List ℕ) (m m2 : ℕ → ℕ) (work work2 : Work) (s t : WorldState) → due ≡ true
    → (s.left < 155) × (t.left ≡ 0) × Spends s.left s t → recovered m2 ≡ recovered m → count_of m2 ≡ count_of m
    → ((b : ℕ) → 0x1400 ≤ b → m2 b ≡ m b) → IsWellFormed m2 → IsLawful t → Settles due registers m work s (Err x) m2 work2 t
settled-off due x registers m m2 work work2 s t e ticks rec count past f lawful =
    subst (λ b. Settles b registers m work s (Err x) m2 work2 t) (sym e) (record {
      takes = ticks;
      past = past;
      work_is = tt;
      answer = tt;
      recovers = tt;
      off = record { recovered = rec; count = count };
      well_formed = f;
      lawful = lawful;
    })

-- ---- the whole

pub acted-cut : {T : Type 0} (x y : Off) (e : Effect) (due : Bool) (registers : List ℕ) (m m2 : ℕ → ℕ) (work work2 : Work)
    (s t : WorldState)
    → MadeStores {T = T} work.segment e.stores (Err x) m m2 s t → Acts e due registers m work s (Err y) m2 work2 t
acted-cut x y e due registers m m2 work work2 s t h = record {
  takes = off_before (effect_ticks work.segment None e) (if due then commit_ticks else 0) s t h.takes;
  memory = tt;
  work_is = tt;
  answer = tt;
  recovers = tt;
  tells = tt;
  off = record { recovered = h.recovered; count = h.valid };
  well_formed = h.well_formed;
  lawful = h.lawful;
}

-- a commit that was made after some ticks was made after none
pub committed-later : (s t u : WorldState) (registers : List ℕ) (work : Work) (m : ℕ → ℕ) → s.clock ≤ t.clock
    → IsCommitted t u registers work m → IsCommitted s u registers work m
committed-later s t u registers work m later h = record {
  clock = h.clock;
  begun = let b : t.clock ≤ h.clock = h.begun in omega arith;
  over = h.over;
  is = h.is;
  no_entries = h.no_entries;
}

carried : (s t u : WorldState) (registers : List ℕ) (work : Work) (m m1 m2 : ℕ → ℕ) (n : ℕ) (r : Result (Option Committed) Off)
    → s.clock ≤ t.clock → recovered m1 ≡ recovered m → count_of m1 ≡ n
    → IfOk r (λ c. OnCommit c (IsCommitted t u registers work m2) (IsUncommitted m1 m2 (count_of m1)))
    → IfOk r (λ c. OnCommit c (IsCommitted s u registers work m2) (IsUncommitted m m2 n))
carried s t u registers work m m1 m2 n (Ok None) later e k h = record { recovered = h.recovered ∙ e; count = h.count ∙ k }
carried s t u registers work m m1 m2 n (Ok (Some c)) later e k h = committed-later s t u registers work m2 later h
carried s t u registers work m m1 m2 n (Err x) later e k h = tt

log-is : (due : Bool) (entries : ℕ) (c : Committed) → Some c ≡ committed_of due entries → c.log ≡ entries
log-is true entries c h = let same : c ≡ record { words = 155; log = entries } = cc in ap (λ (x : Committed). x.log) same
log-is false entries c h = cc

tells-after : (due : Bool) (m m1 m2 : ℕ → ℕ) (r : Result (Option Committed) Off) → recovered m1 ≡ recovered m
    → IfOk r (λ c. c ≡ committed_of due (count_of m1)) → ((b : ℕ) → undo_log_start ≤ b → m2 b ≡ m1 b)
    → IfOk r (λ c. IfSome c (λ k. Tells k.log m m2))
tells-after due m m1 m2 (Ok None) e h past = tt
tells-after due m m1 m2 (Ok (Some c)) e h past = tells m m1 m2 c.log e (log-is due (count_of m1) c h) past
tells-after due m m1 m2 (Err x) e h past = tt

pub acted-settled : {T : Type 0} (x : T) (e : Effect) (due : Bool) (registers : List ℕ) (m m1 m2 : ℕ → ℕ)
    (work work1 work2 : Work) (s t u : WorldState)
    (r : Result (Option Committed) Off) → MadeStores work.segment e.stores (Ok x) m m1 s t → work1 ≡ moved e work
    → Settles due registers m1 work1 t r m2 work2 u → Acts e due registers m work s r m2 work2 u
acted-settled x e due registers m m1 m2 work work1 work2 s t u r h w k = record {
  takes = takes_after (effect_ticks work.segment None e) (if due then commit_ticks else 0) s t u r h.takes k.takes;
  memory = always_ok r (λ b l. k.past b (omega arith) ∙ h.memory b l);
  work_is = on_ok_weaker r (λ (q : work2 ≡ committed_work due u.spent work1). q ∙ ap (committed_work due u.spent) w) k.work_is;
  answer = subst (λ n. IfOk r (λ c. c ≡ committed_of due n)) h.count k.answer;
  recovers = carried s t u registers work2 m m1 m2 _ r h.takes.later h.recovered h.count k.recovers;
  tells = tells-after due m m1 m2 r h.recovered k.answer k.past;
  off = on_err_weaker r
      (λ (q : IsUncommitted m1 m2 (count_of m1)).
      record { recovered = q.recovered ∙ h.recovered; count = q.count ∙ h.valid }) k.off;
  well_formed = k.well_formed;
  lawful = k.lawful;
}

-- what is due after the stores is what is due by what the service found
pub due-is : (d : Deed) (work : Work) (s t : WorldState) (entries count ticks before : ℕ) (due : Bool) → Spends ticks s t
    → ticks ≡ effect_ticks work.segment None (effect_shown d) → count ≡ entries + effect_entries work.segment (effect_shown d)
    → before ≡ s.spent
    → due ≡ (d.marks && is_due ((before - work.since) + (t.spent - before)) t.period count work.block_length
    (not (nat_eq d.segment work.segment)) d.asks d.ends false)
    → due ≡ due_at (effect_shown d) work s entries
due-is d work s t entries count ticks before due h e c b q =
    let later : t.spent ≡ s.spent + ticks = h.spent in
    let spent : before - work.since ≡ s.spent - work.since = ap (λ k. k - work.since) b in
    let passed : t.spent - before ≡ effect_ticks work.segment None (effect_shown d) =
    (let z : t.spent - before ≡ ticks = omega arith in z) ∙ e in
    let changes = not (nat_eq d.segment work.segment) in
    q
    ∙ ap (λ k. d.marks && is_due (k + (t.spent - before)) t.period count work.block_length changes d.asks d.ends false) spent
    ∙ ap (λ k. d.marks && is_due ((s.spent - work.since) + k) t.period count work.block_length changes d.asks d.ends false) passed
    ∙ ap (λ k. d.marks && is_due
    ((s.spent - work.since) + effect_ticks work.segment None
    (effect_shown d)) k count work.block_length changes d.asks d.ends false) h.period
    ∙ ap (λ k. d.marks && is_due
    ((s.spent - work.since) + effect_ticks work.segment None
    (effect_shown d)) s.period k work.block_length changes d.asks d.ends false) c

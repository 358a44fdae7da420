-- A machine that is ready follows the program, and so the image simulates it.
use Rattle.std.proofs.Common.{◌≡◌, ℕ, ◌+◌, ◌-◌, ◌<◌, ◌≤◌, refl, sym, ap, ◌∙◌, subst, arith, ◌⊎◌, inl, inr, List, drop, Bool, true, false}
use Rattle.std.proofs.lemmas.Bool.Decides.{nat_tests}
use Rattle.std.specs.Prelude.{nat_lt}
use Rattle.base16.specs.Readings.{IsReadings}
use Rattle.base16.specs.declared.end.EndKind.{EndKind}
use Rattle.base16.specs.declared.end.EndKind.TheVariants.{Wild}
use Rattle.base16.specs.declared.reading.Reading.{Reading}
use Rattle.c_meaning.specs.After as meaning
use Rattle.c_meaning.specs.Laws.{IsStopped}
use Rattle.c_meaning.proofs.Shown.{stays_stopped}
use Rattle.c_meaning.specs.declared.outcome.CState.{CState}
use Rattle.c_meaning.specs.declared.outcome.CState.TheVariants as state
use Rattle.c_run.specs.Runs.{Stop, Live, Ended as Over, NeedsReading as Lacks, Undefined, Wrong}
use Rattle.c_values.specs.declared.state.State.{State}
use Rattle.cells430.specs.Stretch.{IdealRuns}
use Rattle.cells430.proofs.Counting.{marks_later, runs_are, runs_each, runs_clean}
use Rattle.ideal430.specs.Ideal.{Ideal, run}
use Rattle.ideal430.specs.Loaded.{loaded, start_of}
use Rattle.ideal430.specs.declared.state.IdealEnd.{IdealEnd}
use Rattle.ideal430.specs.declared.state.IdealEnd.TheVariants.{Running, Ended, NeedsReading}
use Rattle.ir.specs.Ends.{IsFine, live, ended, needs}
use Rattle.ir.specs.Machine.{stop_at}
use Rattle.core430.specs.Step.{instr_at}
use Rattle.matching.specs.Simulates.{MachineMatches, GoesWell, IsBehindMark, HasEnded, LacksReading, IsLive as IsLiveState, IsWhere, Follows, Simulates}
use Rattle.steps430.specs.Setting.{Setting}
use Rattle.steps430.specs.Whole.{HasCome, IsLive, IsOver, IsLacking, IsWhereFormIs, IsReady}
use Rattle.steps430.proofs.Bursts.{form_is_followed}

-- three ways of one number to another
order : (a b : ℕ) → (a < b) ⊎ ((a ≡ b) ⊎ (b < a))
order a b = from (nat_lt a b) (nat_lt b a) refl refl
  where
    from : (x y : Bool) → nat_lt a b ≡ x → nat_lt b a ≡ y → (a < b) ⊎ ((a ≡ b) ⊎ (b < a))
    from true y e g = inl (grind (arith, nat_tests))
    from false true e g = inr (inr (grind (arith, nat_tests)))
    from false false e g = inr (inl (grind (arith, nat_tests)))

running_ended : (kind : EndKind) → Running ≡ Ended kind → ⊥
running_ended kind e = cc

running_lacks : Running ≡ NeedsReading → ⊥
running_lacks e = cc

ended_lacks : (kind : EndKind) → Ended kind ≡ NeedsReading → ⊥
ended_lacks kind e = cc

abbrev kind_of : EndKind → IdealEnd → EndKind
kind_of d (Ended kind) = kind
kind_of d Running = d
kind_of d NeedsReading = d

module _ (p : Setting) (start : Ideal) (ready : IsReady p start) where
  abbrev Asked : ℕ → Stop
  Asked s = meaning.stop_at p.core p.readings s

  -- the machine is where the run of the program stops, if that breaks no rule
  form_at : (s : ℕ) → (n : ℕ) × IsWhereFormIs p start s (stop_at p.ir p.readings s) n
  form_at s = form_is_followed p start ready.all ready.short ready.starts s

  live_at : (s : ℕ) (c : State) (u : ℕ) → Asked s ≡ Live c u → (n : ℕ) × IsLive p start s n c u
  live_at s c u e = subst (λ (x : Stop). (n : ℕ) × IsWhereFormIs p start s x n)
      (ready.same s (subst IsFine (sym e) live) ∙ e) (form_at s)

  over_at : (s : ℕ) (kind : EndKind) (c : State) (u : ℕ) → Asked s ≡ Over kind c u → (n : ℕ) × IsOver p start n kind c u
  over_at s kind c u e = subst (λ (x : Stop). (n : ℕ) × IsWhereFormIs p start s x n)
      (ready.same s (subst IsFine (sym e) ended) ∙ e) (form_at s)

  lacking_at : (s : ℕ) → Asked s ≡ Lacks → (n : ℕ) × IsLacking p start s n
  lacking_at s e = subst (λ (x : Stop). (n : ℕ) × IsWhereFormIs p start s x n)
      (ready.same s (subst IsFine (sym e) needs) ∙ e) (form_at s)

  well : (n : ℕ) (t : Ideal) → HasCome p start n t → ((a : ℕ) → t.status ≡ Ended (Wild a) → ⊥) → GoesWell p.core start n
  well n t h never = record {
    running = λ k l. (runs_each n k start t h.runs l).running;
    never_wild = λ a e. never a (ap (λ (x : Ideal). x.status) (sym (runs_are n start t h.runs)) ∙ e);
    clean = runs_clean n start t h.runs;
    inside = λ k l. (runs_each n k start t h.runs l).writes;
    bounded = h.bounded;
  }

  used_is : (s : ℕ) (x : Stop) → Asked s ≡ x → meaning.used p.core p.readings s ≡ meaning.used_in x
  used_is s x e = ap meaning.used_in e

  behind : (s n : ℕ) (c : State) (u : ℕ) → Asked s ≡ Live c u → IsLive p start s n c u
      → IsBehindMark p.core p.readings s c start n
  behind s n c u e h =
      let is : run n start ≡ h.end = runs_are n start h.end h.come.runs in
      let all : h.end.marks ≡ s = h.marks ∙ h.counted in
      record {
        well = well n h.end h.come (λ a k. running_ended (Wild a) (sym h.running ∙ k));
        running = ap (λ (x : Ideal). x.status) is ∙ h.running;
        marks = ap (λ (x : Ideal). x.marks) is ∙ all;
        first = λ k l. subst (λ (m : ℕ). (run k start).marks < m) all (h.first k l);
        matches = subst (MachineMatches p.core c) (sym is) h.matches;
        taken = ap (λ (x : Ideal). x.left) is ∙ h.taken ∙ ap (λ (m : ℕ). drop m p.readings) (sym (used_is s (Live c u) e));
      }

  over : (s n : ℕ) (kind : EndKind) (c : State) (u : ℕ) → Asked s ≡ Over kind c u → IsOver p start n kind c u
      → HasEnded p.core p.readings s kind c start n
  over s n kind c u e h =
      let is : run n start ≡ h.end = runs_are n start h.end h.come.runs in
      record {
        well = well n h.end h.come (λ a k. h.fair a (ap (kind_of kind) (sym h.ended ∙ k)));
        ended = ap (λ (x : Ideal). x.status) is ∙ h.ended;
        marks = ap (λ (x : Ideal). x.marks) is ∙ h.marks;
        matches = subst (MachineMatches p.core c) (sym is) h.matches;
        taken = ap (λ (x : Ideal). x.left) is ∙ h.taken ∙ ap (λ (m : ℕ). drop m p.readings) (sym (used_is s (Over kind c u) e));
        left = λ d. let k = h.left d in record {
          first = λ i l. subst (λ (m : ℕ). (run i start).marks < m) h.marks (k.0 i l);
          pc = ap (λ (x : Ideal). x.core.regs 0) is ∙ k.1;
          code = ap (λ (x : Ideal). instr_at x.core.memory (x.core.regs 0)) is
              ∙ ap (λ (a : ℕ). instr_at h.end.core.memory a) k.1 ∙ ready.ends h.end.core.memory k.2;
        };
      }

  -- where a reading is lacking, the run of the program that is asked for fewer marks is live or lacks it as well
  fewer : (s k : ℕ) → k ≤ s → Asked s ≡ Lacks → ((c : State) × (u : ℕ) × (Asked k ≡ Live c u)) ⊎ (Asked k ≡ Lacks)
  fewer s k l e = from (Asked k) refl
    where
      lacks : meaning.after p.core p.readings s ≡ state.NeedsReading
      lacks = ap meaning.shown e

      sum : k + (s - k) ≡ s
      sum = omega arith

      stays : (x : CState) → meaning.after p.core p.readings k ≡ x → IsStopped x → x ≡ state.NeedsReading
      stays x g h = sym g ∙ sym (stays_stopped p.core p.readings k (subst IsStopped (sym g) h) (s - k)).0
          ∙ ap (λ (i : ℕ). meaning.after p.core p.readings i) sum ∙ lacks

      no_end : (kind : EndKind) (c : State) → state.Ended kind c ≡ state.NeedsReading → ⊥
      no_end kind c g = cc

      no_rule : (rule node : ℕ) → state.Undefined rule node ≡ state.NeedsReading → ⊥
      no_rule rule node g = cc

      from : (x : Stop) → Asked k ≡ x → ((c : State) × (u : ℕ) × (Asked k ≡ Live c u)) ⊎ (Asked k ≡ Lacks)
      from (Live c u) g = inl (c, u, g)
      from Lacks g = inr g
      from (Over kind c u) g = absurd (no_end kind c (stays (state.Ended kind c) (ap meaning.shown g) tt))
      from (Undefined rule node) g = absurd (no_rule rule node (stays (state.Undefined rule node) (ap meaning.shown g) tt))
      from Wrong g = absurd (no_rule 0 0 (stays (state.Undefined 0 0) (ap meaning.shown g) tt))

  -- before it has stopped the machine runs
  runs_on : (n k : ℕ) (t : Ideal) → IdealRuns n start t → k < n → (run k start).status ≡ Running
  runs_on n k t h l = (runs_each n k start t h l).running

  lacking : (s n : ℕ) → Asked s ≡ Lacks → IsLacking p start s n → LacksReading p.core p.readings start n
  lacking s n e h = record {
    well = well n h.end h.come (λ a k. ended_lacks (Wild a) (sym k ∙ h.lacks));
    lacks = status;
    live = live_there (fewer s m (let l = below in omega arith) e);
    lacking = lacks_there (fewer s (m + 1) (let l = below in omega arith) e);
  }
    where
      is : run n start ≡ h.end
      is = runs_are n start h.end h.come.runs

      status : (run n start).status ≡ NeedsReading
      status = ap (λ (x : Ideal). x.status) is ∙ h.lacks

      m : ℕ
      m = (run n start).marks

      below : m < s
      below = subst (λ (x : Ideal). x.marks < s) (sym is) h.marks

      live_there : ((c : State) × (u : ℕ) × (Asked m ≡ Live c u)) ⊎ (Asked m ≡ Lacks)
          → IsLiveState (meaning.after p.core p.readings m)
      live_there (inl x) = subst IsLiveState (sym (ap meaning.shown x.2)) tt
      live_there (inr g) = absurd (from (order k.0 n))
        where
          k : (i : ℕ) × IsLacking p start m i
          k = lacking_at m g

          from : (k.0 < n) ⊎ ((k.0 ≡ n) ⊎ (n < k.0)) → ⊥
          from (inl l) = running_lacks (sym (runs_on n k.0 h.end h.come.runs l)
              ∙ ap (λ (x : Ideal). x.status) (runs_are k.0 start k.1.end k.1.come.runs) ∙ k.1.lacks)
          from (inr (inl same)) =
              let less : k.1.end.marks < m = k.1.marks in
              let there : (run k.0 start).marks ≡ k.1.end.marks = ap (λ (x : Ideal). x.marks)
              (runs_are k.0 start k.1.end k.1.come.runs) in
              let one : (run k.0 start).marks ≡ m = ap (λ (i : ℕ). (run i start).marks) same in
              omega arith
          from (inr (inr l)) = running_lacks (sym (runs_on k.0 n k.1.end k.1.come.runs l) ∙ status)

      lacks_there : ((c : State) × (u : ℕ) × (Asked (m + 1) ≡ Live c u)) ⊎ (Asked (m + 1) ≡ Lacks)
          → meaning.after p.core p.readings (m + 1) ≡ state.NeedsReading
      lacks_there (inr g) = ap meaning.shown g
      lacks_there (inl x) = absurd (from (order n k.0))
        where
          k : (i : ℕ) × IsLive p start (m + 1) i x.0 x.1
          k = live_at (m + 1) x.0 x.1 x.2

          there : (run k.0 start).marks ≡ m + 1
          there = ap (λ (y : Ideal). y.marks) (runs_are k.0 start k.1.end k.1.come.runs) ∙ k.1.marks ∙ k.1.counted

          early : k.0 ≤ n → ⊥
          early l =
              let at = there in
              let later : (run k.0 start).marks ≤ m = marks_later k.0 n start l in
              omega arith

          from : (n < k.0) ⊎ ((n ≡ k.0) ⊎ (k.0 < n)) → ⊥
          from (inl l) = running_lacks (sym (runs_on k.0 n k.1.end k.1.come.runs l) ∙ status)
          from (inr (inl same)) = early (omega arith)
          from (inr (inr l)) = early (omega arith)

  -- the machine follows the run of the program
  pub follows : Follows p.core p.readings start
  follows s = from (Asked s) refl
    where
      there : (x : Stop) → (n : ℕ) × IsWhere p.core p.readings s (meaning.shown x) start n → Asked s ≡ x
          → (n : ℕ) × IsWhere p.core p.readings s (meaning.after p.core p.readings s) start n
      there x h e = subst (λ (y : Stop). (n : ℕ) × IsWhere p.core p.readings s (meaning.shown y) start n) (sym e) h

      from : (x : Stop) → Asked s ≡ x → (n : ℕ) × IsWhere p.core p.readings s (meaning.after p.core p.readings s) start n
      from (Live c u) e = let k = live_at s c u e in there (Live c u) (k.0, behind s k.0 c u e k.1) e
      from (Over kind c u) e = let k = over_at s kind c u e in there (Over kind c u) (k.0, over s k.0 kind c u e k.1) e
      from Lacks e = let k = lacking_at s e in there Lacks (k.0, lacking s k.0 e k.1) e
      from (Undefined rule node) e = there (Undefined rule node) (0, tt) e
      from Wrong e = there Wrong (0, tt) e

-- the form with other readings to take
abbrev pub with_readings : Setting → List Reading → Setting
with_readings p readings = record p { readings = readings }

-- An image whose machine is ready on all readings simulates the program.
pub simulates : (p : Setting) (code globals : List ℕ)
    → ((readings : List Reading) → IsReadings readings → IsReady (with_readings p readings) (start_of
    (loaded code globals) readings))
    → Simulates p.core code globals
simulates p code globals ready readings are =
    follows (with_readings p readings) (start_of (loaded code globals) readings) (ready readings are)

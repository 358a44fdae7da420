-- The machine counts what the board counts.
use Rattle.std.proofs.Common.{◌≡◌, ℕ, ◌+◌, ◌-◌, ◌<◌, ◌≤◌, Bool, true, false, nat_eq, nat_lt, min, refl, sym, ap, ◌∙◌, subst, arith, Option, Some, None, is_some, List, ◌++◌, if◌then◌else◌}
use Rattle.std.proofs.lemmas.Bool.Decides.{nat_tests}
use Rattle.std.specs.Prelude.{IfSome}
use Rattle.base16.specs.declared.reading.Reading.{Reading}
use Rattle.world.specs.World.{WorldState}
use Rattle.core430.specs.Registers.{view_of}
use Rattle.core430.specs.Uses.{IsWithin}
use Rattle.board_map.specs.Map.{count_of}
use Rattle.board_map.specs.declared.work.Work.{Work}
use Rattle.ideal430.specs.Costs.{due_of, effect_ticks, effect_entries, length_by, is_noting, commit_ticks}
use Rattle.ideal430.specs.Service.{Block, Effect, BlockChange, Stays, Deed, Refuses, Does, OnDoes, deed_at, ask_at, taken_of}
use Rattle.ideal430.specs.Settled.{Bytes}
use Rattle.ideal430.specs.Ideal.{Meter, Ideal, doing, with_left, deed_here, ask_here, asking, served, is_due_at}
use Rattle.ideal430.specs.Uses.{uses_at}
use Rattle.ideal430.specs.Agreement.{Agrees, BlocksAgree}
use Rattle.ideal430.specs.declared.state.IdealEnd.TheVariants.{Running}
use Rattle.ideal430.proofs.Along.{blocks-words}
use Rattle.ideal430.proofs.Deeds.{deed-same, ask-same}
use Rattle.services.specs.Following.{StandsAt, Counts, CountsDue, CountsAlike, ticks_behind, CutsShort}
use Rattle.services.specs.Serving.{due_at, ticks_at, committed_of, deed_found, ask_found, ended, answer_of, OnCommit, OnPower, OnCut, OnRefused, stores_cut, committed_in, Passes, Effected, Serves}
use Rattle.services.specs.declared.acting.Committed.{Committed}
use Rattle.services.specs.declared.serving.Served.{Served}
use Rattle.services.specs.declared.serving.Served.TheVariants as served_as
use Rattle.services.proofs.Machines.{deed-stays, asking-taken, power-in}
use Rattle.services.proofs.Whole.{committed-ended}

-- ---- the machine's deed is the board's

closed : (f : List Bytes) (b : Block) → BlocksAgree f b None → b ≡ None
closed f None h = refl
closed f (Some xs) h = absurd h

deed-is : (n value : ℕ) (t : Ideal) (registers : List ℕ) (m : ℕ → ℕ) (work : Work)
    → Agrees t (view_of registers) m work.segment None work.marks
    → IsWithin (uses_at n t.core.regs t.core.memory t.segment) t.settled
    → deed_here n value t ≡ deed_found n value registers m work
deed-is n value t registers m work a clean =
    deed-same t.settled t.core.memory m n value t.core.regs t.segment t.block None a.memory clean
    (blocks-words t.earlier t.block None a.block_is)
    ∙ ap (λ (r : ℕ → ℕ). deed_at n value r m t.segment None) a.regs_are
    ∙ ap (λ s. deed_at n value (view_of registers) m s None) a.segment_is

ask-is : (n : ℕ) (t : Ideal) (registers : List ℕ) (m : ℕ → ℕ) (work : Work)
    → Agrees t (view_of registers) m work.segment None work.marks
    → IsWithin (uses_at n t.core.regs t.core.memory t.segment) t.settled
    → ask_here n t ≡ ask_found n registers m work
ask-is n t registers m work a clean =
    ask-same t.settled t.core.memory m n t.core.regs t.segment t.block None a.memory clean
    (blocks-words t.earlier t.block None a.block_is)
    ∙ ap (λ (r : ℕ → ℕ). ask_at n r m t.segment None) a.regs_are
    ∙ ap (λ s. ask_at n (view_of registers) m s None) a.segment_is

-- ---- over numbers

ticks-after : (due : Bool) (since since2 ticks ticks2 k spent spent2 : ℕ) → since + ticks ≡ spent
    → spent2 ≡ spent + (k + (if due then commit_ticks else 0)) → since2 ≡ (if due then spent2 else since)
    → ticks2 ≡ (if due then 0 else ticks + k) → since2 + ticks2 ≡ spent2
ticks-after true since since2 ticks ticks2 k spent spent2 h e f g = omega arith
ticks-after false since since2 ticks ticks2 k spent spent2 h e f g = omega arith

entries-after : (due : Bool) (entries entries2 n n2 k log : ℕ) → entries ≡ n
    → OnCommit (committed_of due log) (n2 ≡ 0) (n2 ≡ n + k)
    → entries2 ≡ (if due then 0 else entries + k) → entries2 ≡ n2
entries-after true entries entries2 n n2 k log h e f = f ∙ sym e
entries-after false entries entries2 n n2 k log h e f = f ∙ ap (λ x. x + k) h ∙ sym e

commits-after : (due : Bool) (a b c d : ℕ) → a ≡ b → c ≡ (if due then a + 1 else a) → d ≡ (if due then b + 1 else b) → c ≡ d
commits-after true a b c d h e f = e ∙ ap (λ x. x + 1) h ∙ sym f
commits-after false a b c d h e f = e ∙ h ∙ sym f

some-due : (due : Bool) (log : ℕ) → is_some (committed_of due log) ≡ due
some-due true log = refl
some-due false log = refl

enough : (left ticks : ℕ) → nat_lt left ticks ≡ false → min left ticks ≡ ticks
enough left ticks h = let l : ticks ≤ left = grind (arith, nat_tests) in omega arith

due-after : (due : Bool) (since ticks k t2 spent spent2 : ℕ) → since + ticks ≡ spent
    → spent2 ≡ spent + (k + (if due then commit_ticks else 0)) → (x : ℕ) → x ≡ (if due then ticks + k + commit_ticks else t2)
    → due ≡ true → since + x ≡ spent2
due-after true since ticks k t2 spent spent2 h e x f is = omega arith
due-after false since ticks k t2 spent spent2 h e x f is = cc

logged-after : (due : Bool) (entries n k e2 x : ℕ) → entries ≡ n → x ≡ (if due then entries + k else e2) → due ≡ true
    → x ≡ n + k
logged-after true entries n k e2 x h f is = f ∙ ap (λ y. y + k) h
logged-after false entries n k e2 x h f is = cc

due-counted : (due : Bool) (since log : ℕ) (meter : Meter) (u : WorldState) → (due ≡ true → since + meter.due_ticks ≡ u.spent)
    → (due ≡ true → meter.due_entries ≡ log) → IfSome (committed_of due log) (CountsDue since meter u)
due-counted true since log meter u ticks entries = record { ticks = ticks refl; entries = entries refl }
due-counted false since log meter u ticks entries = tt

-- the ticks behind the commit before, with those of a mark that was due
behind-after : (due : Bool) (commits number ticks k t2 : ℕ) → commits ≡ number
    → (if nat_eq (if due then commits + 1 else commits) number then (if due then 0 else ticks + k)
    else (if due then ticks + k + commit_ticks else t2))
    ≡ ticks + (k + (if due then commit_ticks else 0))
behind-after true commits number ticks k t2 h =
    let other : nat_eq (commits + 1) number ≡ false = grind (arith, nat_tests) in
    let all : ticks + k + commit_ticks ≡ ticks + (k + commit_ticks) = omega arith in
    ap (λ b. if b then 0 else ticks + k + commit_ticks) other ∙ all
behind-after false commits number ticks k t2 h =
    let same : nat_eq commits number ≡ true = grind (arith, nat_tests) in
    let all : ticks + k ≡ ticks + (k + 0) = omega arith in
    ap (λ b. if b then ticks + k else t2) same ∙ all

past-left : (k left spent spent2 : ℕ) → nat_lt left k ≡ true → spent2 ≡ spent + min left k → spent2 < spent + k
past-left k left spent spent2 h e = let l : left < k = grind (arith, nat_tests) in omega arith

past-since : (k ticks since spent spent2 : ℕ) → spent2 < spent + k → since + ticks ≡ spent → spent2 < since + (ticks + k)
past-since k ticks since spent spent2 h e = omega arith

length-stays : (b : BlockChange) (notes : Bool) (stores before : ℕ) → b ≡ Stays → notes ≡ false
    → length_by b notes stores before ≡ before
length-stays b notes stores before e f =
    ap (λ x. length_by x notes stores before) e ∙ ap (λ x. length_by Stays x stores before) f

-- what is due by the machine's numbers is due by the board's
due-alike : (t : Ideal) (e : Effect) (m : ℕ → ℕ) (work : Work) (s : WorldState) → Counts t m work s → t.segment ≡ work.segment
    → t.block ≡ None
    → is_due_at t e ≡ due_at e work s (count_of m)
due-alike t e m work s c seg none =
    let ticks : t.meter.ticks ≡ s.spent - work.since = let h : work.since + t.meter.ticks ≡ s.spent = c.ticks in omega arith in
    ap (λ x. due_of x t.block e t.meter.ticks t.meter.period t.meter.entries t.meter.length) seg
    ∙ ap (λ x. due_of work.segment x e t.meter.ticks t.meter.period t.meter.entries t.meter.length) none
    ∙ ap (λ x. due_of work.segment None e x t.meter.period t.meter.entries t.meter.length) ticks
    ∙ ap (λ x. due_of work.segment None e (s.spent - work.since) x t.meter.entries t.meter.length) c.period
    ∙ ap (λ x. due_of work.segment None e (s.spent - work.since) s.period x t.meter.length) c.entries
    ∙ ap (λ x. due_of work.segment None e (s.spent - work.since) s.period (count_of m) x) c.length

ticks-alike : (t : Ideal) (e : Effect) (work : Work) → t.segment ≡ work.segment → t.block ≡ None
    → effect_ticks t.segment t.block e ≡ effect_ticks work.segment None e
ticks-alike t e work seg none = ap (λ x. effect_ticks x t.block e) seg ∙ ap (λ x. effect_ticks work.segment x e) none

-- ---- a service

counts-done : (e : Effect) (due : Bool) (t : Ideal) (rest : List Reading) (m m2 : ℕ → ℕ) (work work2 : Work) (s u : WorldState)
    (answer : Served) (registers2 : List ℕ) → is_due_at t e ≡ due
    → committed_in answer ≡ committed_of due (count_of m + effect_entries work.segment e)
    → u.spent ≡ s.spent + (effect_ticks work.segment None e + (if due then commit_ticks else 0)) → u.period ≡ s.period
    → work2.since ≡ (if due then u.spent else work.since) → work2.commits ≡ (if due then work.commits + 1 else work.commits)
    → work2.block_length ≡ work.block_length
    → OnCommit (committed_in answer) (count_of m2 ≡ 0) (count_of m2 ≡ count_of m + effect_entries work.segment e)
    → e.block ≡ Stays → t.segment ≡ work.segment → t.block ≡ None → Counts t m work s
    → CountsAlike t (doing (with_left t rest) (Does e)) answer work m2 work2 u
counts-done e due t rest m m2 work work2 s u answer registers2 is committed spent period since commits length entries
    stays seg none c =
    let log = count_of m + effect_entries work.segment e in
    let ticks2 : (if is_due_at t e then 0 else t.meter.ticks + effect_ticks t.segment t.block e) ≡
    (if due then 0 else t.meter.ticks + effect_ticks work.segment None e) =
    ap (λ d. if d then 0 else t.meter.ticks + effect_ticks t.segment t.block e) is
    ∙ ap (λ k. if due then 0 else t.meter.ticks + k) (ticks-alike t e work seg none) in
    let entries2 : (if is_due_at t e then 0 else t.meter.entries + effect_entries t.segment e) ≡
    (if due then 0 else t.meter.entries + effect_entries work.segment e) =
    ap (λ d. if d then 0 else t.meter.entries + effect_entries t.segment e) is
    ∙ ap (λ x. if due then 0 else t.meter.entries + effect_entries x e) seg in
    let commits2 : (if is_due_at t e then t.meter.commits + 1 else t.meter.commits) ≡
    (if due then t.meter.commits + 1 else t.meter.commits) =
    ap (λ d. if d then t.meter.commits + 1 else t.meter.commits) is in
    let due_ticks2 : (if is_due_at t e then t.meter.ticks + effect_ticks t.segment t.block e + commit_ticks
    else t.meter.due_ticks) ≡ (if due then t.meter.ticks + effect_ticks work.segment None e + commit_ticks
    else t.meter.due_ticks) =
    ap (λ d. if d then t.meter.ticks + effect_ticks t.segment t.block e + commit_ticks else t.meter.due_ticks) is
    ∙ ap (λ k. if due then t.meter.ticks + k + commit_ticks else t.meter.due_ticks) (ticks-alike t e work seg none) in
    let due_entries2 : (if is_due_at t e then t.meter.entries + effect_entries t.segment e else t.meter.due_entries) ≡
    (if due then t.meter.entries + effect_entries work.segment e else t.meter.due_entries) =
    ap (λ d. if d then t.meter.entries + effect_entries t.segment e else t.meter.due_entries) is
    ∙ ap (λ x. if due then t.meter.entries + effect_entries x e else t.meter.due_entries) seg in
    record {
      counts = record {
        ticks = ticks-after due work.since work2.since t.meter.ticks _
            (effect_ticks work.segment None e) s.spent u.spent c.ticks spent since ticks2;
        entries = entries-after due t.meter.entries _ (count_of m) (count_of m2) (effect_entries work.segment e) log c.entries
            (subst (λ x. OnCommit x (count_of m2 ≡ 0) (count_of m2 ≡ log)) committed entries) entries2;
        commits = commits-after due t.meter.commits work.commits _ work2.commits c.commits commits2 commits;
        length = length-stays e.block (is_noting t.block e) _ t.meter.length stays (ap (λ b. is_noting b e) none) ∙ c.length
            ∙ sym length;
        period = c.period ∙ sym period;
      };
      commits = commits2 ∙ ap (λ d. if d then t.meter.commits + 1 else t.meter.commits)
          (sym (ap is_some committed ∙ some-due due log));
      due = subst (λ c. IfSome c (CountsDue work.since (doing (with_left t rest) (Does e)).meter u)) (sym committed)
          (due-counted due work.since log (doing (with_left t rest) (Does e)).meter u
          (due-after due work.since t.meter.ticks (effect_ticks work.segment None e) t.meter.due_ticks s.spent u.spent c.ticks
          spent _ due_ticks2)
          (logged-after due t.meter.entries (count_of m) (effect_entries work.segment e) t.meter.due_entries _ c.entries
          due_entries2));
    }

counts-deed : (d : Deed) (t : Ideal) (rest taken : List Reading) (registers registers2 : List ℕ) (m m2 : ℕ → ℕ)
    (work work2 : Work)
    (s u : WorldState) (answer : Served) → answer ≡ answer_of d work s (count_of m)
    → OnRefused d ((registers2 ≡ registers) × (m2 ≡ m) × (work2 ≡ work))
    → OnDoes d (λ e. OnPower answer (Effected e m work s (committed_in answer) registers2 m2 work2 u))
    → OnDoes d (λ e. e.block ≡ Stays) → Passes (min s.left (ticks_at d work s (count_of m))) taken s u
    → t.segment ≡ work.segment → t.block ≡ None → Counts t m work s
    → OnPower answer (CountsAlike t (doing (with_left t rest) d) answer work m2 work2 u)
counts-deed (Refuses kind) t rest taken registers registers2 m m2 work work2 s u answer is refused effect stays p seg none c =
    let spent : u.spent ≡ s.spent = let h : u.spent ≡ s.spent + min s.left 0 = p.spent in omega arith in
    subst (λ a. OnPower a (CountsAlike t (doing (with_left t rest) (Refuses kind)) a work m2 work2 u)) (sym is)
    (subst (λ (k : ℕ → ℕ). CountsAlike t (doing (with_left t rest) (Refuses kind)) (served_as.End kind None) work k work2 u)
    (sym refused.1)
    (subst (λ w. CountsAlike t (doing (with_left t rest) (Refuses kind)) (served_as.End kind None) work m w u) (sym refused.2)
    (record {
      counts = record {
        ticks = c.ticks ∙ sym spent;
        entries = c.entries;
        commits = c.commits;
        length = c.length;
        period = c.period ∙ sym p.period;
      };
      commits = refl;
      due = tt;
    })))
counts-deed (Does e) t rest taken registers registers2 m m2 work work2 s u answer is refused effect stays p seg none c =
    by (nat_lt s.left (ticks_at (Does e) work s (count_of m))) refl is
  where
    by : (b : Bool) → nat_lt s.left (ticks_at (Does e) work s (count_of m)) ≡ b
        → answer ≡ (if b then served_as.Off else ended e.ends
        (committed_of (due_at e work s (count_of m)) (count_of m + effect_entries work.segment e)))
        → OnPower answer (CountsAlike t (doing (with_left t rest) (Does e)) answer work m2 work2 u)
    by true f k = subst (λ a. OnPower a (CountsAlike t (doing (with_left t rest) (Does e)) a work m2 work2 u)) (sym k) tt
    by false f k =
        let due = due_at e work s (count_of m) in
        let log = count_of m + effect_entries work.segment e in
        let x : Effected e m work s (committed_in answer) registers2 m2 work2 u = power-in e.ends
        (committed_of due log) answer _ k effect in
        let committed : committed_in answer ≡ committed_of due log = ap committed_in k
        ∙ committed-ended e.ends (committed_of due log) in
        let spent : u.spent ≡ s.spent + ticks_at (Does e) work s (count_of m) =
        p.spent ∙ ap (λ n. s.spent + n) (enough s.left (ticks_at (Does e) work s (count_of m)) f) in
        let done : CountsAlike t (doing (with_left t rest) (Does e)) answer work m2 work2 u =
        counts-done e due t rest m m2 work work2 s u answer registers2
        (due-alike t e m work s c seg none) committed spent p.period
        (ap (λ (w : Work). w.since) x.work_is) (ap (λ (w : Work). w.commits) x.work_is)
        (ap (λ (w : Work). w.block_length) x.work_is)
        x.entries stays seg none c in
        power-out e.ends (committed_of due log) answer _ k done
      where
        power-out : (b : Bool) (c : Option Committed) (answer : Served) (P : Type 0) → answer ≡ ended b c → P → OnPower answer P
        power-out true c answer P k h = subst (λ a. OnPower a P) (sym k) h
        power-out false c answer P k h = subst (λ a. OnPower a P) (sym k) h

-- power fails in it
cut-deed : (d : Deed) (t : Ideal) (rest taken : List Reading) (m m2 : ℕ → ℕ) (work : Work) (s u : WorldState) (answer : Served)
    → answer ≡ answer_of d work s (count_of m)
    → OnDoes d (λ e. OnCut answer (count_of m2 ≡ count_of m + stores_cut work.segment e.stores s.left))
    → Passes (min s.left (ticks_at d work s (count_of m))) taken s u
    → t.segment ≡ work.segment → t.block ≡ None → Counts t m work s
    → OnCut answer (CutsShort t (doing (with_left t rest) d) rest work s m2 u)
cut-deed (Refuses kind) t rest taken m m2 work s u answer is cut p seg none c =
    subst (λ a. OnCut a (CutsShort t (doing (with_left t rest) (Refuses kind)) rest work s m2 u)) (sym is) tt
cut-deed (Does e) t rest taken m m2 work s u answer is cut p seg none c =
    by (nat_lt s.left (ticks_at (Does e) work s (count_of m))) refl is
  where
    ends-uncut : (b : Bool) (c : Option Committed) (P : Type 0) → OnCut (ended b c) P
    ends-uncut true c P = tt
    ends-uncut false c P = tt

    by : (b : Bool) → nat_lt s.left (ticks_at (Does e) work s (count_of m)) ≡ b
        → answer ≡ (if b then served_as.Off else ended e.ends
        (committed_of (due_at e work s (count_of m)) (count_of m + effect_entries work.segment e)))
        → OnCut answer (CutsShort t (doing (with_left t rest) (Does e)) rest work s m2 u)
    by false f k =
        subst (λ a. OnCut a (CutsShort t (doing (with_left t rest) (Does e)) rest work s m2 u)) (sym k) (ends-uncut e.ends _ _)
    by true f k =
        let v = doing (with_left t rest) (Does e) in
        let due = due_at e work s (count_of m) in
        let behind : ticks_behind work.commits v.meter ≡ t.meter.ticks + ticks_at (Does e) work s (count_of m) =
        behind-after (is_due_at t e) t.meter.commits work.commits t.meter.ticks (effect_ticks t.segment t.block e)
        t.meter.due_ticks c.commits
        ∙ ap (λ b. t.meter.ticks + (effect_ticks t.segment t.block e + (if b then commit_ticks else 0)))
        (due-alike t e m work s c seg none)
        ∙ ap (λ n. t.meter.ticks + (n + (if due then commit_ticks else 0))) (ticks-alike t e work seg none) in
        let past : u.spent < s.spent + ticks_at (Does e) work s (count_of m) =
        past-left (ticks_at (Does e) work s (count_of m)) s.left s.spent u.spent f p.spent in
        let longer : u.spent < work.since + (t.meter.ticks + ticks_at (Does e) work s (count_of m)) =
        past-since (ticks_at (Does e) work s (count_of m)) t.meter.ticks work.since s.spent u.spent past c.ticks in
        subst (λ a. OnCut a (CutsShort t v rest work s m2 u)) (sym k) (record {
          effect = e;
          is = refl;
          ticks = subst (λ n. u.spent < work.since + n) (sym behind) longer;
          valid = subst (λ a. OnCut a (count_of m2 ≡ count_of m + stores_cut work.segment e.stores s.left)) k cut
              ∙ ap (λ n. n + stores_cut work.segment e.stores s.left) (sym c.entries)
              ∙ ap (λ n. t.meter.entries + stores_cut n e.stores s.left) (sym seg);
        })

there-served : (n : ℕ) (registers registers2 : List ℕ) (m m2 : ℕ → ℕ) (work work2 : Work) (s u : WorldState) (answer : Served)
    (h : Serves n registers m work s answer registers2 m2 work2 u) (t : Ideal) (rest : List Reading)
    → StandsAt t Running (taken_of (ask_found n registers m work) h.value ++ rest) registers m work
    → IsWithin (uses_at n t.core.regs t.core.memory t.segment) t.settled
    → served n t ≡ doing (with_left t rest) (deed_found n h.value registers m work)
there-served n registers registers2 m m2 work work2 s u answer h t rest stands clean =
    let a = stands.agrees in
    ap (asking n t) (ask-is n t registers m work a clean)
    ∙ asking-taken (ask_found n registers m work) n h.value t rest stands.left h.nothing
    ∙ ap (doing (with_left t rest)) (deed-is n h.value t registers m work a clean)

pub counted : (n : ℕ) (registers registers2 : List ℕ) (m m2 : ℕ → ℕ) (work work2 : Work) (s u : WorldState) (answer : Served)
    (h : Serves n registers m work s answer registers2 m2 work2 u) (t : Ideal) (rest : List Reading)
    → StandsAt t Running (taken_of (ask_found n registers m work) h.value ++ rest) registers m work
    → IsWithin (uses_at n t.core.regs t.core.memory t.segment) t.settled → Counts t m work s
    → OnPower answer (CountsAlike t (served n t) answer work m2 work2 u)
counted n registers registers2 m m2 work work2 s u answer h t rest stands clean c =
    let a = stands.agrees in
    subst (λ v. OnPower answer (CountsAlike t v answer work m2 work2 u))
    (sym (there-served n registers registers2 m m2 work work2 s u answer h t rest stands clean))
    (counts-deed (deed_found n h.value registers m work) t rest
    (taken_of (ask_found n registers m work) h.value) registers registers2
    m m2 work work2 s u answer h.answers h.refused h.effect
    (deed-stays n h.value (view_of registers) m work.segment None) h.passes a.segment_is (closed t.earlier t.block a.block_is) c)

pub cut_short : (n : ℕ) (registers registers2 : List ℕ) (m m2 : ℕ → ℕ) (work work2 : Work) (s u : WorldState) (answer : Served)
    (h : Serves n registers m work s answer registers2 m2 work2 u) (t : Ideal) (rest : List Reading)
    → StandsAt t Running (taken_of (ask_found n registers m work) h.value ++ rest) registers m work
    → IsWithin (uses_at n t.core.regs t.core.memory t.segment) t.settled → Counts t m work s
    → OnCut answer (CutsShort t (served n t) rest work s m2 u)
cut_short n registers registers2 m m2 work work2 s u answer h t rest stands clean c =
    let a = stands.agrees in
    subst (λ v. OnCut answer (CutsShort t v rest work s m2 u))
    (sym (there-served n registers registers2 m m2 work work2 s u answer h t rest stands clean))
    (cut-deed (deed_found n h.value registers m work) t rest (taken_of (ask_found n registers m work) h.value) m m2 work s u
    answer h.answers h.cut h.passes a.segment_is (closed t.earlier t.block a.block_is) c)

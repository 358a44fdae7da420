-- A service, put together from its reading, its stores and its commit.
use Rattle.std.proofs.Common.{◌≡◌, ℕ, ◌+◌, ◌-◌, ◌<◌, ◌≤◌, Bool, true, false, not, ◌&&◌, ◌||◌, nat_lt, nat_le, nat_eq, min, refl, sym, ap, ◌∙◌, subst, arith, Option, Some, None, List, [], ◌∷◌, Ok, Err, IfSome, if◌then◌else◌}
use Rattle.std.proofs.lemmas.Bool.{lt-ltb, le-ltb}
use Rattle.std.proofs.lemmas.Bool.Decides.{nat_tests}
use Rattle.std.proofs.lemmas.List.{append-nil}
use Rattle.base16.specs.Board.{service_entry}
use Rattle.base16.specs.declared.reading.Reading.{Reading}
use Rattle.base16.specs.declared.end.EndKind.{EndKind}
use Rattle.base16.specs.declared.end.EndKind.TheVariants.{Wild}
use Rattle.world.specs.World.{WorldState, IsLawful, Spends, Gives}
use Rattle.world.specs.declared.outside.Off.{Off}
use Rattle.core430.specs.Registers.{view_of}
use Rattle.board_map.specs.Map.{count_of, segment_of}
use Rattle.board_map.specs.Recovered.{Machine, recovered}
use Rattle.board_map.specs.WellFormed.{IsWellFormed}
use Rattle.board_map.specs.declared.work.Work.{Work}
use Rattle.ideal430.specs.Costs.{due_of, effect_ticks, effect_entries}
use Rattle.ideal430.specs.Service.{Effect, Refuses, Does, popped, service_at, is_built, own_ask, own_effect, refusal_of, deed_if, deed_if_built, ask_if, ask_if_built, taken_of, IsNothing, OnDoes}
use Rattle.ideal430.specs.Shown.{effect_shown}
use Rattle.ideal430.specs.declared.deed.Deed.{Deed as CodeDeed}
use Rattle.ideal430.specs.declared.service.Ask.{Ask}
use Rattle.ideal430.specs.declared.service.Ask.TheVariants.{Nothing, Sensor, Clock}
use Rattle.ideal430.specs.declared.service.Service.{Service}
use Rattle.services.specs.Serving.{due_at, ticks_at, ticks_of, committed_of, work_after, IsClosed, IsCommitted, IsUncommitted, OnCommit, Acts, Passes, Gets, deed_found, ask_found, ended, answer_of, OnPower, OnCut, OnGoes, OnRefused, committed_in, Effected, IsReady, Serves, Tells, stores_cut}
use Rattle.services.specs.declared.acting.Committed.{Committed}
use Rattle.services.specs.declared.serving.Served.{Served}
use Rattle.services.specs.declared.serving.Served.TheVariants as served
use Rattle.services.proofs.Commits.{committed-later}
use Rattle.services.proofs.Deeds.{deed-marks}

-- ---- readings and ticks

gets-nothing : (a : Ask) (value : ℕ) (s t : WorldState) → Gets a value s t → IsNothing a value
gets-nothing Nothing value s t h = h.0
gets-nothing (Sensor channel) value s t h = tt
gets-nothing Clock value s t h = tt

passes-none : (s : WorldState) → Passes 0 [] s s
passes-none s = record {
  spent = omega arith;
  left = omega arith;
  later = omega arith;
  still = λ z. refl;
  readings = sym (append-nil s.readings);
  times = sym (append-nil s.times);
  plan = refl;
  period = refl;
  cycles = refl;
  spans = refl;
  firsts = refl;
}

gives-passes : (r : Reading) (s t : WorldState) → Gives r s t → Passes 0 (r ∷ []) s t
gives-passes r s t h = record {
  spent = h.spent ∙ (let e : s.spent ≡ s.spent + 0 = omega arith in e);
  left = sym h.left ∙ (let e : t.left ≡ t.left + 0 = omega arith in e);
  later = let e : t.clock ≡ s.clock = h.clock in omega arith;
  still = λ z. h.clock;
  readings = h.readings;
  times = h.times;
  plan = h.plan;
  period = h.period;
  cycles = h.cycles;
  spans = h.spans;
  firsts = h.firsts;
}

gets-passes : (a : Ask) (value : ℕ) (s t : WorldState) → Gets a value s t → Passes 0 (taken_of a value) s t
gets-passes Nothing value s t h = subst (Passes 0 [] s) (sym h.1) (passes-none s)
gets-passes (Sensor channel) value s t h = gives-passes _ s t h
gets-passes Clock value s t h = gives-passes _ s t h

passes-spends : (n : ℕ) (taken : List Reading) (s t u : WorldState) → Passes 0 taken s t → Spends n t u → Passes n taken s u
passes-spends n taken s t u h k = record {
  spent = let e : t.spent ≡ s.spent + 0 = h.spent in let f : u.spent ≡ t.spent + n = k.spent in omega arith;
  left = let e : s.left ≡ t.left + 0 = h.left in let f : t.left ≡ u.left + n = k.left in omega arith;
  later = let e : s.clock ≤ t.clock = h.later in let f : t.clock ≤ u.clock = k.later in omega arith;
  still = λ z. k.still z ∙ h.still refl;
  readings = k.readings ∙ h.readings;
  times = k.times ∙ h.times;
  plan = k.plan ∙ h.plan;
  period = k.period ∙ h.period;
  cycles = k.cycles ∙ h.cycles;
  spans = k.spans ∙ h.spans;
  firsts = k.firsts ∙ h.firsts;
}

-- what is due is the same before and after the reading
due-same : (e : Effect) (work : Work) (s t : WorldState) (entries : ℕ) → t.spent ≡ s.spent → t.period ≡ s.period
    → due_at e work t entries ≡ due_at e work s entries
due-same e work s t entries h k =
    ap (λ x. due_of work.segment None e (x - work.since) t.period entries work.block_length) h
    ∙ ap (λ x. due_of work.segment None e (s.spent - work.since) x entries work.block_length) k

not-off : (left ticks : ℕ) (x : Served) → ticks ≤ left → (if nat_lt left ticks then served.Off else x) ≡ x
not-off left ticks x h = simp (le-ltb left ticks h)

is-off : (left ticks : ℕ) (x : Served) → left < ticks → (if nat_lt left ticks then served.Off else x) ≡ served.Off
is-off left ticks x h = simp (lt-ltb left ticks h)

min-right : (a b : ℕ) → b ≤ a → min a b ≡ b
min-right a b h = omega arith

min-left : (a b : ℕ) → a < b → min a b ≡ a
min-left a b h = omega arith

pub committed-ended : (b : Bool) (c : Option Committed) → committed_in (ended b c) ≡ c
committed-ended true c = refl
committed-ended false c = refl

power-ended : (b : Bool) (c : Option Committed) (P : Type 0) → P → OnPower (ended b c) P
power-ended true c P h = h
power-ended false c P h = h

cut-ended : (b : Bool) (c : Option Committed) (P : Type 0) → OnCut (ended b c) P
cut-ended true c P = tt
cut-ended false c P = tt

-- ---- refused

serves-refused : (n : ℕ) (registers : List ℕ) (m : ℕ → ℕ) (work : Work) (s : WorldState) (kind : EndKind)
    → deed_found n 0 registers m work ≡ Refuses kind
    → ask_found n registers m work ≡ Nothing → IsWellFormed m → IsLawful s
    → Serves n registers m work s (served.End kind None) registers m work s
serves-refused n registers m work s kind d a f lawful = record {
  value = 0;
  nothing = subst (λ x. IsNothing x 0) (sym a) refl;
  answers = ap (λ x. answer_of x work s (count_of m)) (sym d);
  passes = subst (λ x. Passes (min s.left (ticks_at x work s (count_of m))) (taken_of (ask_found n registers m work) 0) s s)
      (sym d)
      (subst (λ x. Passes x (taken_of (ask_found n registers m work) 0) s s) (sym (min-right s.left 0 (omega arith)))
      (subst (λ x. Passes 0 (taken_of x 0) s s) (sym a) (passes-none s)));
  refused = subst (λ x. OnRefused x ((registers ≡ registers) × (m ≡ m) × (work ≡ work))) (sym d) (refl, refl, refl);
  effect = subst (λ x. OnDoes x (λ e. OnPower (served.End kind None) (Effected e m work s None registers m work s))) (sym d) tt;
  cut = subst (λ x. OnDoes x
      (λ e. OnCut (served.End kind None) (count_of m ≡ count_of m + stores_cut work.segment e.stores s.left))) (sym d) tt;
  recovers = refl;
  tells = tt;
  ready = tt;
  well_formed = f;
  lawful = lawful;
}

pub serves-none : (n : ℕ) (registers : List ℕ) (m : ℕ → ℕ) (work : Work) (s : WorldState) → service_at n ≡ None
    → IsWellFormed m → IsLawful s
    → Serves n registers m work s (served.End (Wild (service_entry n)) None) registers m work s
serves-none n registers m work s none f lawful =
    serves-refused n registers m work s (Wild (service_entry n))
    (ap (λ o. deed_if_built o n 0 (view_of registers) m work.segment None) none)
    (ap (λ o. ask_if_built o (view_of registers) m work.segment None) none) f lawful

pub serves-refuses : (n : ℕ) (service : Service) (registers : List ℕ) (m : ℕ → ℕ) (work : Work) (s : WorldState)
    (kind : EndKind) → service_at n ≡ Some service
    → refusal_of service (view_of registers) m work.segment None ≡ Some kind → IsWellFormed m → IsLawful s
    → Serves n registers m work s (served.End kind None) registers m work s
serves-refuses n service registers m work s kind some refused f lawful =
    serves-refused n registers m work s kind
    (ap (λ o. deed_if_built o n 0 (view_of registers) m work.segment None) some
    ∙ ap (λ o. deed_if o (own_effect service 0 (popped (view_of registers) m) m work.segment None)) refused)
    (ap (λ o. ask_if_built o (view_of registers) m work.segment None) some
    ∙ ap (λ o. ask_if o (own_ask service (view_of registers))) refused)
    f lawful

-- ---- what a service that is not refused does and asks

deed-does : (n value : ℕ) (service : Service) (registers : List ℕ) (m : ℕ → ℕ) (work : Work) (e : Effect)
    → service_at n ≡ Some service
    → refusal_of service (view_of registers) m work.segment None ≡ None
    → e ≡ own_effect service value (popped (view_of registers) m) m work.segment None
    → deed_found n value registers m work ≡ Does e
deed-does n value service registers m work e some none is =
    ap (λ o. deed_if_built o n value (view_of registers) m work.segment None) some
    ∙ ap (λ o. deed_if o (own_effect service value (popped (view_of registers) m) m work.segment None)) none ∙ ap Does (sym is)

asks : (n : ℕ) (service : Service) (registers : List ℕ) (m : ℕ → ℕ) (work : Work) → service_at n ≡ Some service
    → refusal_of service (view_of registers) m work.segment None ≡ None
    → ask_found n registers m work ≡ own_ask service (view_of registers)
asks n service registers m work some none =
    ap (λ o. ask_if_built o (view_of registers) m work.segment None) some
    ∙ ap (λ o. ask_if o (own_ask service (view_of registers))) none

-- ---- where it goes on

-- of a mark that is not due: the segment is the same, and there is room for the next service
not-due-same : (marks late changes full rest : Bool) → marks ≡ true → (marks && (late || (changes || (full || rest)))) ≡ false
    → changes ≡ false
not-due-same true false false full rest e h = refl
not-due-same true false true full rest e h = cc
not-due-same true true changes full rest e h = cc
not-due-same false late changes full rest e h = cc

not-due-room : (marks late changes full rest : Bool) → marks ≡ true → (marks && (late || (changes || (full || rest)))) ≡ false
    → full ≡ false
not-due-room true false false false rest e h = refl
not-due-room true false false true rest e h = cc
not-due-room true false true full rest e h = cc
not-due-room true true changes full rest e h = cc
not-due-room false late changes full rest e h = cc

same-segment : (a b : ℕ) → not (nat_eq a b) ≡ false → a ≡ b
same-segment a b h = grind (arith, nat_tests)

has-room : (n length : ℕ) → nat_lt 256 (n + 8 + length) ≡ false → n + 8 + length ≤ 256
has-room n length h = grind (arith, nat_tests)

some-commit : (x : Committed) → Some x ≡ None → ⊥
some-commit x h = cc

moved-closed : (e : Effect) (work work2 : Work) (due : Bool) (spent : ℕ) → work2 ≡ work_after e due spent work → IsClosed work
    → IsClosed work2
moved-closed e work work2 due spent w h = subst IsClosed (sym w) (record { block = h.block; length = h.length })

-- without a commit nothing was due
ready-plain : (d : CodeDeed) (m m2 : ℕ → ℕ) (work work2 : Work) (t u : WorldState) (due : Bool)
    → due_at (effect_shown d) work t (count_of m) ≡ due
    → None ≡ committed_of due (count_of m + effect_entries work.segment (effect_shown d)) → d.marks ≡ true
    → work.segment ≡ segment_of m → IsClosed work
    → work2 ≡ work_after (effect_shown d) due u.spent work
    → IsUncommitted m m2 (count_of m + effect_entries work.segment (effect_shown d)) → IsReady m2 work2
ready-plain d m m2 work work2 t u true is answer marks seg closed wk rec = absurd (some-commit _ (sym answer))
ready-plain d m m2 work work2 t u false is answer marks seg closed wk rec =
    let late = nat_le t.period (t.spent - work.since + effect_ticks work.segment None (effect_shown d)) in
    let changes = not (nat_eq d.segment work.segment) in
    let full = nat_lt 256 (count_of m + effect_entries work.segment (effect_shown d) + 8 + work.block_length) in
    let rest = d.asks || (d.ends || false) in
    let same : d.segment ≡ work.segment = same-segment d.segment work.segment
    (not-due-same d.marks late changes full rest marks is) in
    let room : count_of m + effect_entries work.segment (effect_shown d) + 8 + work.block_length ≤ 256 = has-room
    (count_of m + effect_entries work.segment (effect_shown d)) work.block_length
    (not-due-room d.marks late changes full rest marks is) in
    let segment : work2.segment ≡ d.segment = ap (λ (w : Work). w.segment) wk in
    let length : work2.block_length ≡ work.block_length = ap (λ (w : Work). w.block_length) wk in
    let count : count_of m2 ≡ count_of m + effect_entries work.segment (effect_shown d) = rec.count in
    record {
      segment = segment ∙ same ∙ seg ∙ sym (ap (λ (x : Machine). x.state 0) rec.recovered);
      room = omega arith;
      closed = moved-closed (effect_shown d) work work2 false u.spent wk closed;
    }

-- after a commit the memory recovers to what stands
ready-committed : (registers : List ℕ) (m2 : ℕ → ℕ) (work2 : Work) (t u : WorldState) → IsClosed work2
    → IsCommitted t u registers work2 m2 → IsReady m2 work2
ready-committed registers m2 work2 t u closed rec =
    let length : work2.block_length ≡ 0 = closed.length in
    let count : count_of m2 ≡ 0 = rec.no_entries in
    record {
      segment = sym (ap (λ (x : Machine). x.state 0) rec.is);
      room = omega arith;
      closed = closed;
    }

ready-after : (d : CodeDeed) (c : Option Committed) (registers : List ℕ) (m m2 : ℕ → ℕ) (work work2 : Work) (t u : WorldState)
    → c ≡ committed_of (due_at (effect_shown d) work t (count_of m))
    (count_of m + effect_entries work.segment (effect_shown d)) → d.marks ≡ true
    → work.segment ≡ segment_of m → IsClosed work
    → work2 ≡ work_after (effect_shown d) (due_at (effect_shown d) work t (count_of m)) u.spent work
    → OnCommit c (IsCommitted t u registers work2 m2)
    (IsUncommitted m m2 (count_of m + effect_entries work.segment (effect_shown d))) → IsReady m2 work2
ready-after d None registers m m2 work work2 t u answer marks seg closed wk rec =
    ready-plain d m m2 work work2 t u (due_at (effect_shown d) work t (count_of m)) refl answer marks seg closed wk rec
ready-after d (Some c) registers m m2 work work2 t u answer marks seg closed wk rec =
    ready-committed registers m2 work2 t u
    (moved-closed (effect_shown d) work work2 (due_at (effect_shown d) work t (count_of m)) u.spent wk closed) rec

recovers-after : (c : Option Committed) (s t u : WorldState) (registers : List ℕ) (work2 : Work) (m m2 : ℕ → ℕ) (n : ℕ)
    → s.clock ≤ t.clock
    → OnCommit c (IsCommitted t u registers work2 m2) (IsUncommitted m m2 n)
    → OnCommit c (IsCommitted s u registers work2 m2) (recovered m2 ≡ recovered m)
recovers-after None s t u registers work2 m m2 n later h = h.recovered
recovers-after (Some c) s t u registers work2 m m2 n later h = committed-later s t u registers work2 m2 later h

entries-after : (c : Option Committed) (t u : WorldState) (registers : List ℕ) (work2 : Work) (m m2 : ℕ → ℕ) (n : ℕ)
    → OnCommit c (IsCommitted t u registers work2 m2) (IsUncommitted m m2 n) → OnCommit c (count_of m2 ≡ 0) (count_of m2 ≡ n)
entries-after None t u registers work2 m m2 n h = h.count
entries-after (Some c) t u registers work2 m m2 n h = h.no_entries

goes-ended : (b : Bool) (c : Option Committed) (P : Type 0) → (b ≡ false → P) → OnGoes (ended b c) P
goes-ended true c P h = tt
goes-ended false c P h = h refl

-- ---- its stores and its commit were made, or power failed

pub serves-acted : (n value : ℕ) (service : Service) (registers registers2 : List ℕ) (m m2 : ℕ → ℕ) (work work2 : Work)
    (s t u : WorldState) (d : CodeDeed) (ends : Bool) (c : Option Committed)
    → service_at n ≡ Some service → is_built service ≡ true → refusal_of service (view_of registers) m work.segment None ≡ None
    → effect_shown d ≡ own_effect service value (popped (view_of registers) m) m work.segment None → d.ends ≡ ends
    → Gets (own_ask service (view_of registers)) value s t → registers2 ≡ d.regs.r → work.segment ≡ segment_of m → IsClosed work
    → Acts (effect_shown d) (due_at (effect_shown d) work t (count_of m)) registers2 m work t (Ok c) m2 work2 u
    → Serves n registers m work s (ended ends c) registers2 m2 work2 u
serves-acted n value service registers registers2 m m2 work work2 s t u d ends c some built none is e g regs seg closed h =
    let entries = count_of m + effect_entries work.segment (effect_shown d) in
    let p = gets-passes (own_ask service (view_of registers)) value s t g in
    let spent : t.spent ≡ s.spent = let x : t.spent ≡ s.spent + 0 = p.spent in omega arith in
    let left : s.left ≡ t.left = let x : s.left ≡ t.left + 0 = p.left in omega arith in
    let due : due_at (effect_shown d) work t (count_of m) ≡ due_at (effect_shown d) work s (count_of m) = due-same
    (effect_shown d) work s t (count_of m) spent p.period in
    let ticks = ticks_at (Does (effect_shown d)) work s (count_of m) in
    let takes : Spends ticks t u = subst (λ x. Spends (ticks_of x (effect_shown d) work) t u) due h.takes in
    let enough : ticks ≤ s.left = let x : t.left ≡ u.left + ticks = takes.left in omega arith in
    let does = deed-does n value service registers m work (effect_shown d) some none is in
    let asked = asks n service registers m work some none in
    let answer : answer_of (Does (effect_shown d)) work s (count_of m) ≡ ended d.ends c =
    not-off s.left ticks (ended d.ends (committed_of (due_at (effect_shown d) work s (count_of m)) entries)) enough
    ∙ ap (λ x. ended d.ends (committed_of x entries)) (sym due) ∙ ap (ended d.ends) (sym h.answer) in
    let marks : d.ends ≡ false
    → d.marks ≡ true = deed-marks service value (view_of registers) m work.segment (effect_shown d) built is in
    subst (λ x. Serves n registers m work s (ended x c) registers2 m2 work2 u) e (record {
      value = value;
      nothing = subst (λ x. IsNothing x value) (sym asked) (gets-nothing (own_ask service (view_of registers)) value s t g);
      answers = sym answer ∙ ap (λ x. answer_of x work s (count_of m)) (sym does);
      passes = subst (λ x. Passes (min s.left (ticks_at x work s (count_of m)))
          (taken_of (ask_found n registers m work) value) s u) (sym does)
          (subst (λ x. Passes (min s.left ticks) (taken_of x value) s u) (sym asked)
          (subst (λ x. Passes x (taken_of (own_ask service (view_of registers)) value) s u) (sym (min-right s.left ticks enough))
          (passes-spends ticks (taken_of (own_ask service (view_of registers)) value) s t u p takes)));
      refused = subst (λ x. OnRefused x ((registers2 ≡ registers) × (m2 ≡ m) × (work2 ≡ work))) (sym does) tt;
      effect = subst (λ x. OnDoes x
          (λ e. OnPower (ended d.ends c) (Effected e m work s (committed_in (ended d.ends c)) registers2 m2 work2 u))) (sym does)
          (power-ended d.ends c _ (record {
            registers_are = ap view_of regs;
            memory = h.memory;
            work_is = h.work_is ∙ ap (λ x. work_after (effect_shown d) x u.spent work) due;
            entries = subst (λ x. OnCommit x (count_of m2 ≡ 0) (count_of m2 ≡ entries)) (sym (committed-ended d.ends c))
                (entries-after c t u registers2 work2 m m2 entries h.recovers);
          }));
      cut = subst (λ x. OnDoes x
          (λ e. OnCut (ended d.ends c) (count_of m2 ≡ count_of m + stores_cut work.segment e.stores s.left))) (sym does)
          (cut-ended d.ends c _);
      recovers = subst (λ x. OnCommit x (IsCommitted s u registers2 work2 m2) (recovered m2 ≡ recovered m))
          (sym (committed-ended d.ends c))
          (recovers-after c s t u registers2 work2 m m2 entries p.later h.recovers);
      tells = subst (λ x. IfSome x (λ k. Tells k.log m m2)) (sym (committed-ended d.ends c)) h.tells;
      ready = goes-ended d.ends c _
          (λ goes. ready-after d c registers2 m m2 work work2 t u h.answer (marks goes) seg closed h.work_is h.recovers);
      well_formed = h.well_formed;
      lawful = h.lawful;
    })

pub serves-off : (n value : ℕ) (service : Service) (registers registers2 : List ℕ) (m m2 : ℕ → ℕ) (work work2 : Work)
    (s t u : WorldState) (d : CodeDeed) (x : Off)
    → service_at n ≡ Some service → refusal_of service (view_of registers) m work.segment None ≡ None
    → effect_shown d ≡ own_effect service value (popped (view_of registers) m) m work.segment None
    → Gets (own_ask service (view_of registers)) value s t
    → Acts (effect_shown d) (due_at (effect_shown d) work t (count_of m)) registers2 m work t (Err x) m2 work2 u
    → Serves n registers m work s served.Off registers2 m2 work2 u
serves-off n value service registers registers2 m m2 work work2 s t u d x some none is g h =
    let p = gets-passes (own_ask service (view_of registers)) value s t g in
    let spent : t.spent ≡ s.spent = let x : t.spent ≡ s.spent + 0 = p.spent in omega arith in
    let left : s.left ≡ t.left = let x : s.left ≡ t.left + 0 = p.left in omega arith in
    let due : due_at (effect_shown d) work t (count_of m) ≡ due_at (effect_shown d) work s (count_of m) = due-same
    (effect_shown d) work s t (count_of m) spent p.period in
    let ticks = ticks_at (Does (effect_shown d)) work s (count_of m) in
    let less0 : t.left < ticks = subst (λ x. t.left < ticks_of x (effect_shown d) work) due h.takes.0 in
    let less : s.left < ticks = omega arith in
    let does = deed-does n value service registers m work (effect_shown d) some none is in
    let asked = asks n service registers m work some none in
    record {
      value = value;
      nothing = subst (λ x. IsNothing x value) (sym asked) (gets-nothing (own_ask service (view_of registers)) value s t g);
      answers = sym (is-off s.left ticks _ less) ∙ ap (λ x. answer_of x work s (count_of m)) (sym does);
      passes = subst (λ x. Passes (min s.left (ticks_at x work s (count_of m)))
          (taken_of (ask_found n registers m work) value) s u) (sym does)
          (subst (λ x. Passes (min s.left ticks) (taken_of x value) s u) (sym asked)
          (subst (λ x. Passes x (taken_of (own_ask service (view_of registers)) value) s u)
          (sym left ∙ sym (min-left s.left ticks less))
          (passes-spends t.left (taken_of (own_ask service (view_of registers)) value) s t u p h.takes.2)));
      refused = subst (λ x. OnRefused x ((registers2 ≡ registers) × (m2 ≡ m) × (work2 ≡ work))) (sym does) tt;
      effect = subst (λ x. OnDoes x (λ e. OnPower served.Off (Effected e m work s None registers2 m2 work2 u))) (sym does) tt;
      cut = subst (λ x. OnDoes x (λ e. OnCut served.Off (count_of m2 ≡ count_of m + stores_cut work.segment e.stores s.left)))
          (sym does)
          (h.off.count ∙ ap (λ l. count_of m + stores_cut work.segment (effect_shown d).stores l) (sym left));
      recovers = h.off.recovered;
      tells = tt;
      ready = tt;
      well_formed = h.well_formed;
      lawful = h.lawful;
    }

-- what a service gets that asks nothing
pub gets-none : (a : Ask) (s : WorldState) → a ≡ Nothing → Gets a 0 s s
gets-none a s e = subst (λ x. Gets x 0 s s) (sym e) (refl, refl)

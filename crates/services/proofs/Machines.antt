-- A service on the board leads to where the machine's own service does.
use Rattle.std.proofs.Common.{◌≡◌, ℕ, ◌+◌, ◌≤◌, Bool, true, false, nat_lt, eq-eqb, refl, sym, ap, ◌∙◌, subst, arith, Option, Some, None, List, ◌++◌, if◌then◌else◌}
use Rattle.std.proofs.lemmas.Bool.Decides.{nat_tests}
use Rattle.base16.specs.declared.reading.Reading.{Reading}
use Rattle.base16.specs.declared.end.EndKind.{EndKind}
use Rattle.base16.specs.declared.end.EndKind.TheVariants.{Done}
use Rattle.world.specs.World.{WorldState}
use Rattle.core430.specs.Bytes.{word_address, byte_in}
use Rattle.core430.specs.Registers.{view_of}
use Rattle.core430.specs.Uses.{IsWithin, SameOn}
use Rattle.board_map.specs.Map.{block_log_start, count_of}
use Rattle.board_map.specs.declared.work.Work.{Work}
use Rattle.ideal430.specs.Costs.{effect_entries}
use Rattle.ideal430.specs.Service.{Block, Effect, Stays, Deed, Refuses, Does, OnDoes, popped, has_place, is_linked, own_effect, is_built, service_at, refusal_of, deed_if, deed_if_built, deed_at, block_by, taken_of, IsNothing}
use Rattle.ideal430.specs.Settled.{Bytes}
use Rattle.ideal430.specs.Ideal.{Ideal, doing, with_left, deed_here, ask_here, sensing, timing, asking, served}
use Rattle.ideal430.specs.Uses.{uses_at}
use Rattle.ideal430.specs.Agreement.{Agrees, BlocksAgree, GoesAlong, may_settle}
use Rattle.ideal430.specs.declared.service.Ask.{Ask}
use Rattle.ideal430.specs.declared.service.Ask.TheVariants.{Nothing, Sensor, Clock}
use Rattle.ideal430.specs.declared.service.Service.{Service}
use Rattle.ideal430.specs.declared.service.Service.TheVariants.{Halt, Enter, Leave, Turn, StoreWord, StoreByte, StampWord, StampByte, Sense, Emit, Open, Check, Close, Timely, Checkpoint}
use Rattle.ideal430.specs.declared.state.IdealEnd.TheVariants.{Running, Ended}
use Rattle.ideal430.proofs.Along.{served-along}
use Rattle.ideal430.proofs.Effects.{no-built}
use Rattle.ideal430.proofs.Serving.{service_at-built}
use Rattle.services.specs.Following.{StandsAt, Follows}
use Rattle.services.specs.Serving.{due_at, ticks_at, committed_of, deed_found, ask_found, ended, answer_of, OnPower, OnRefused, committed_in, Effected, Serves}
use Rattle.services.specs.declared.acting.Committed.{Committed}
use Rattle.services.specs.declared.serving.Served.{Served}
use Rattle.services.specs.declared.serving.Served.TheVariants as served_as

-- ---- no service that is built opens or closes a block

if-stays : (c : Bool) (e f : Effect) → e.block ≡ Stays → f.block ≡ Stays → (if c then e else f).block ≡ Stays
if-stays true e f h k = h
if-stays false e f h k = k

own_effect-stays : (service : Service) (value : ℕ) (r m : ℕ → ℕ) (segment : ℕ) (b : Block) → is_built service ≡ true
    → (own_effect service value r m segment b).block ≡ Stays
own_effect-stays Halt value r m segment b built = refl
own_effect-stays Enter value r m segment b built = if-stays (has_place segment (r 1) (r 15)) _ _ refl refl
own_effect-stays Leave value r m segment b built = if-stays (is_linked segment (r 1 + r 15)) _ _ refl refl
own_effect-stays Turn value r m segment b built = refl
own_effect-stays StoreWord value r m segment b built = refl
own_effect-stays StoreByte value r m segment b built = refl
own_effect-stays StampWord value r m segment b built = refl
own_effect-stays StampByte value r m segment b built = refl
own_effect-stays Sense value r m segment b built = refl
own_effect-stays Emit value r m segment b built = refl
own_effect-stays Open value r m segment b built = no-built built
own_effect-stays Check value r m segment b built = no-built built
own_effect-stays Close value r m segment b built = no-built built
own_effect-stays Timely value r m segment b built = refl
own_effect-stays Checkpoint value r m segment b built = refl

deed_if-stays : (o : Option EndKind) (e : Effect) → e.block ≡ Stays → OnDoes (deed_if o e) (λ e. e.block ≡ Stays)
deed_if-stays None e h = h
deed_if-stays (Some kind) e h = tt

pub deed-stays : (n value : ℕ) (r m : ℕ → ℕ) (segment : ℕ) (b : Block)
    → OnDoes (deed_at n value r m segment b) (λ e. e.block ≡ Stays)
deed-stays n value r m segment b = by (service_at n) refl
  where
    by : (o : Option Service) → service_at n ≡ o → OnDoes (deed_if_built o n value r m segment b) (λ e. e.block ≡ Stays)
    by None is = tt
    by (Some service) is = deed_if-stays (refusal_of service r m segment b) _
        (own_effect-stays service value (popped r m) m segment b (service_at-built n service is))

-- ---- the machine over the board's memory

-- the machine with what the board has
abbrev at_board : Ideal → (registers : List ℕ) (m : ℕ → ℕ) → Work → Ideal
at_board t registers m work = record t {
  core = record { regs = view_of registers; memory = m };
  segment = work.segment;
  block = None;
  marks = work.marks;
}

sensed : (n channel value : ℕ) (u : Ideal) (rest : List Reading)
    → sensing n u channel (taken_of (Sensor channel) value ++ rest) ≡ doing (with_left u rest) (deed_here n value u)
sensed n channel value u rest = rw (eq-eqb channel channel refl)

-- with the reading that it takes as the next one, its service does the deed
pub asking-taken : (a : Ask) (n value : ℕ) (u : Ideal) (rest : List Reading) → u.left ≡ taken_of a value ++ rest
    → IsNothing a value → asking n u a ≡ doing (with_left u rest) (deed_here n value u)
asking-taken Nothing n value u rest l z =
    ap (λ v. doing u (deed_here n v u)) (sym z) ∙ ap (λ x. doing (with_left u x) (deed_here n value u)) l
asking-taken (Sensor channel) n value u rest l z = ap (sensing n u channel) l ∙ sensed n channel value u rest
asking-taken Clock n value u rest l z = ap (timing n u) l

-- ---- where it stands then

may-low : (segment b : ℕ) → may_settle segment b ≡ true → 0x1A00 ≤ b
may-low segment b h = grind (arith, nat_tests)

same-past : (p : Bytes) (segment : ℕ) (m m2 : ℕ → ℕ) → IsWithin p (may_settle segment)
    → ((b : ℕ) → block_log_start ≤ b → m2 b ≡ m b)
    → SameOn p m m2
same-past p segment m m2 within past = record {
  at = λ b h.
      let low : 0x1A00 ≤ b = may-low segment b (within b h) in
      let even : block_log_start ≤ word_address b = omega arith in
      ap (byte_in b) (sym (past (word_address b) even));
}

agrees-to : (t : Ideal) (r r2 m m2 : ℕ → ℕ) (segment segment2 : ℕ) (block : Block) (marks marks2 : ℕ) → r2 ≡ r
    → ((b : ℕ) → block_log_start ≤ b → m2 b ≡ m b) → segment2 ≡ segment → block ≡ None → marks2 ≡ marks
    → Agrees t r m segment block marks → Agrees t r2 m2 segment2 None marks2
agrees-to t r r2 m m2 segment segment2 block marks marks2 e past f k g a =
    let same : SameOn t.settled m m2 = same-past t.settled segment m m2 a.within past in
    record {
      regs_are = a.regs_are ∙ sym e;
      memory = record { at = λ b h. a.memory.at b h ∙ same.at b h };
      segment_is = a.segment_is ∙ sym f;
      block_is = subst (BlocksAgree t.earlier t.block) k a.block_is;
      marks_are = a.marks_are ∙ sym g;
      fixed = a.fixed;
      within = λ b h. subst (λ x. may_settle x b ≡ true) (sym f) (a.within b h);
    }

follows-ended : (b : Bool) (c : Option Committed) (t : Ideal) (rest : List Reading) (registers : List ℕ) (m : ℕ → ℕ) (work : Work)
    → StandsAt t (if b then Ended Done else Running) rest registers m work → Follows (ended b c) t rest registers m work
follows-ended true c t rest registers m work h = h
follows-ended false c t rest registers m work h = h

pub power-in : (b : Bool) (c : Option Committed) (answer : Served) (P : Type 0) → answer ≡ ended b c → OnPower answer P → P
power-in b c answer P k h = by b (subst (λ a. OnPower a P) k h)
  where
    by : (b : Bool) → OnPower (ended b c) P → P
    by true x = x
    by false x = x

follows-done : (e : Effect) (c c2 : Option Committed) (t v : Ideal) (rest : List Reading) (registers registers2 : List ℕ)
    (m m2 : ℕ → ℕ)
    (work work2 : Work) (s u : WorldState) → Effected e m work s c2 registers2 m2 work2 u → e.block ≡ Stays
    → GoesAlong v (doing (with_left (at_board t registers m work) rest) (Does e))
    → Follows (ended e.ends c) v rest registers2 m2 work2
follows-done e c c2 t v rest registers registers2 m m2 work work2 s u x stays go =
    follows-ended e.ends c v rest registers2 m2 work2 (record {
      agrees = agrees-to v e.regs (view_of registers2) _ m2 e.segment work2.segment _ _ work2.marks x.registers_are x.memory
          (ap (λ (w : Work). w.segment) x.work_is) (ap (λ k. block_by k e.noted e.stores m None) stays)
          (ap (λ (w : Work). w.marks) x.work_is) go.agrees;
      left = go.left;
      status = go.status;
    })

follows-deed : (d : Deed) (t v : Ideal) (rest : List Reading) (registers registers2 : List ℕ) (m m2 : ℕ → ℕ) (work work2 : Work)
    (s u : WorldState) (answer : Served) → answer ≡ answer_of d work s (count_of m)
    → OnRefused d ((registers2 ≡ registers) × (m2 ≡ m) × (work2 ≡ work))
    → OnDoes d (λ e. OnPower answer (Effected e m work s (committed_in answer) registers2 m2 work2 u))
    → OnDoes d (λ e. e.block ≡ Stays) → GoesAlong v (doing (with_left (at_board t registers m work) rest) d)
    → Follows answer v rest registers2 m2 work2
follows-deed (Refuses kind) t v rest registers registers2 m m2 work work2 s u answer is refused effect stays go =
    subst (λ a. Follows a v rest registers2 m2 work2) (sym is)
    (subst (λ r. StandsAt v (Ended kind) rest r m2 work2) (sym refused.0)
    (subst (λ (k : ℕ → ℕ). StandsAt v (Ended kind) rest registers k work2) (sym refused.1)
    (subst (λ w. StandsAt v (Ended kind) rest registers m w) (sym refused.2)
    (record { agrees = go.agrees; left = go.left; status = go.status }))))
follows-deed (Does e) t v rest registers registers2 m m2 work work2 s u answer is refused effect stays go =
    by (nat_lt s.left (ticks_at (Does e) work s (count_of m))) is
  where
    by : (b : Bool) → answer ≡
        (if b then served_as.Off else ended e.ends
        (committed_of (due_at e work s (count_of m)) (count_of m + effect_entries work.segment e)))
        → Follows answer v rest registers2 m2 work2
    by true k = subst (λ a. Follows a v rest registers2 m2 work2) (sym k) tt
    by false k = subst (λ a. Follows a v rest registers2 m2 work2) (sym k)
        (follows-done e _ (committed_in answer) t v rest registers registers2 m m2 work work2 s u
        (power-in e.ends _ answer _ k effect) stays go)

pub follows : (n : ℕ) (registers registers2 : List ℕ) (m m2 : ℕ → ℕ) (work work2 : Work) (s u : WorldState) (answer : Served)
    (h : Serves n registers m work s answer registers2 m2 work2 u) (t : Ideal) (rest : List Reading)
    → StandsAt t Running (taken_of (ask_found n registers m work) h.value ++ rest) registers m work
    → IsWithin (uses_at n t.core.regs t.core.memory t.segment) t.settled → Follows answer (served n t) rest registers2 m2 work2
follows n registers registers2 m m2 work work2 s u answer h t rest stands clean =
    let b = at_board t registers m work in
    let g : GoesAlong t b = record { agrees = stands.agrees; left = refl; status = refl } in
    let there : served n b ≡ doing (with_left b rest) (deed_found n h.value registers m work) =
    asking-taken (ask_here n b) n h.value b rest stands.left h.nothing in
    let go : GoesAlong (served n t) (doing (with_left b rest) (deed_found n h.value registers m work)) =
    subst (GoesAlong (served n t)) there (served-along t b n g clean) in
    follows-deed (deed_found n h.value registers m work) t
    (served n t) rest registers registers2 m m2 work work2 s u answer h.answers
    h.refused h.effect (deed-stays n h.value (view_of registers) m work.segment None) go

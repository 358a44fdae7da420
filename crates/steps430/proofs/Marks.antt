-- Marks: what follows a mark, whether or not it is the last of a run, and the steps that make a mark and nothing else.
use Rattle.std.proofs.Common.{◌≡◌, ℕ, zero, suc, ◌+◌, ◌-◌, refl, sym, subst, arith, false, List, [], ◌∷◌, length, drop, Option, Some, None}
use Rattle.base16.specs.declared.reading.Reading.{Reading}
use Rattle.isa430.specs.declared.instr.OneOp.TheVariants.{Call}
use Rattle.isa430.specs.declared.instr.Src.TheVariants.{Immediate}
use Rattle.isa430.specs.declared.instr.Instr.TheVariants.{One}
use Rattle.core430.specs.Uses.{AreWords}
use Rattle.ideal430.specs.Ideal.{Ideal, Meter}
use Rattle.ideal430.specs.Settled.{Bytes}
use Rattle.ideal430.specs.declared.state.IdealEnd.TheVariants.{Running}
use Rattle.c_run.specs.Actions.{kept}
use Rattle.c_run.specs.Runs.{Run, Stop, Live, Ended as Over, NeedsReading as Lacks, Undefined, Wrong, Outcome, Went, Stopped, Action, and_then, ◌>>◌, counted, mark_by, mark}
use Rattle.c_values.specs.declared.state.Saved.{Saved}
use Rattle.c_values.specs.declared.state.State.{State}
use Rattle.c_values.specs.declared.value.Value.TheVariants.{Undefined as Missing}
use Rattle.cells430.specs.Cells.{Cell, Word, Byte, Cells, Fits, Shape, Facts}
use Rattle.cells430.specs.Stretch.{outside, at, Leads, Comes, behind}
use Rattle.cells430.proofs.Cells.{some_none, facts_fewer}
use Rattle.cells430.proofs.Lift.{leads_step, leads_now, leads_then}
use Rattle.cells430.proofs.Services.{turns, checkpoints}
use Rattle.core_tree.specs.declared.program.Core.{Core}
use Rattle.ir.specs.declared.control.Temporary.TheVariants as temporary
use Rattle.ir.specs.declared.control.Frame.{Frame}
use Rattle.ir.specs.declared.control.Control.{Control}
use Rattle.ir.specs.declared.control.Control.TheVariants.{At}
use Rattle.ir.specs.declared.form.IrFunction.{IrFunction}
use Rattle.ir.specs.declared.form.StepKind.TheVariants as step
use Rattle.ir.specs.Machine.{act}
use Rattle.matching.specs.Covering.{IsCovered}
use Rattle.matching.specs.Matches.{BlockMatches}
use Rattle.matching.specs.Said.{OpeningCounts}
use Rattle.matching.specs.Simulates.{MachineMatches}
use Rattle.matching.proofs.CellsMatch.{cells_match}
use Rattle.select430.specs.Frames.{temporaries_at}
use Rattle.steps430.specs.Setting.{Setting, function_of, step_at, IsLaid}
use Rattle.steps430.specs.Standing.{StandsAt, Stage}
use Rattle.steps430.specs.Follows.{MakesMark, HasEnded, LacksReading, Follows, DoesStep}
use Rattle.steps430.proofs.Moves.{from_do, level, with_level}
use Rattle.steps430.proofs.Outcomes.{depth_follows}
use Rattle.steps430.proofs.Steps.{begins, falls, stands_now}
use Rattle.steps430.proofs.Plain.{room_of}

-- cells of the state among the cells that stand
pub own_facts : (c : ℕ → ℕ) (lo hi : ℕ) (all own : Cells) (m : ℕ → ℕ) (st : Bytes)
    → ((b : ℕ) (x : Cell) → own b ≡ Some x → all b ≡ Some x) → Facts c lo hi all m st → Facts c lo hi own m st
own_facts c lo hi all own m st part h = facts_fewer c lo hi all own m st part h

pub none_in : (all own : Cells) (b : ℕ) → ((y : Cell) → own b ≡ Some y → all b ≡ Some y) → all b ≡ None → own b ≡ None
none_in all own b part e = from (own b) refl
  where
    from : (o : Option Cell) → own b ≡ o → own b ≡ None
    from None k = k
    from (Some y) k = some_none (all b) y (part y k) e

pub own_shape : (segment sp : ℕ) (ps : ℕ → ℕ) (all own : Cells) → ((b : ℕ) (x : Cell) → own b ≡ Some x → all b ≡ Some x)
    → Shape segment sp ps all → Shape segment sp ps own
own_shape segment sp ps all own part h = record {
  live = λ a x e. h.live a x (part a x e);
  fits = λ a x e. fit a x (h.fits a x (part a x e));
}
  where
    fit : (a : ℕ) (x : Cell) → Fits all a x → Fits own a x
    fit a (Word v) k = (k.0, none_in all own (a + 1) (λ y j. part (a + 1) y j) k.1)
    fit a (Byte v) k = tt

-- the words match a state whose cells stand, where no block is open
pub matches_now : (core : Core) (s : State) (all own : Cells) (c : ℕ → ℕ) (lo hi segment sp : ℕ) (ps r m : ℕ → ℕ) (st : Bytes)
    (marks : ℕ) (left : List Reading) (y : Meter) → IsCovered core (kept s) own → ((b : ℕ) (x : Cell) → own b ≡ Some x
    → all b ≡ Some x)
    → Shape segment sp ps all → Facts c lo hi all m st → s.block ≡ None
    → MachineMatches core s (at segment ps r m st (outside marks left) y)
matches_now core s all own c lo hi segment sp ps r m st marks left y covered part shape facts closed =
    let mine = own_shape segment sp ps all own part shape in
    let both = cells_match own m st (own_facts c lo hi all own m st part facts).stands mine.fits core (kept s) covered in
    record {
      matches = record {
        words = both.0;
        block = subst (λ (b : Option Saved). BlockMatches core b None m) (sym closed) tt;
      };
      settled = both.1;
      opening = subst (λ (b : Option Saved). OpeningCounts core b None [] st) (sym closed) tt;
    }

-- ---- what follows a mark

-- The machine makes a mark by its next instruction. Where the run ends with this mark its words match, and else it goes on.
pub mark_by_follows : (p : Setting) (k : ℕ) (r : Run) (o : Outcome (Unit {0}) → Outcome Control) (segment segment2 sp2 : ℕ)
    (ps ps2 rr r2 m : ℕ → ℕ) (st : Bytes) (left : List Reading) (y : Meter) (all own : Cells)
    → Comes p.code p.low p.high (at segment ps rr m st (outside r.state.marks left) y) Running segment2 ps2 r2
    (outside (r.state.marks + 1) (drop r.used p.readings)) all
    → IsCovered p.core (kept r.state) own → ((b : ℕ) (x : Cell) → own b ≡ Some x → all b ≡ Some x) → Shape segment2 sp2 ps2 all
    → r.state.block ≡ None → ((s : Stop) → o (Stopped s) ≡ Stopped s)
    → ((n : ℕ) → (c : Control) × (q : Run) × (o (Went tt (record r { state = counted r.state; left = n })) ≡ Went c q)
    × ((m2 : ℕ → ℕ) (st2 : Bytes) (y2 : Meter) → Facts p.code p.low p.high all m2 st2 → AreWords r2
    → Leads k (at segment2 ps2 r2 m2 st2 (outside (r.state.marks + 1) (drop r.used p.readings)) y2) (StandsAt p c q)))
    → Follows p (suc k) (o (mark_by r.left r)) (at segment ps rr m st (outside r.state.marks left) y)
mark_by_follows p k r o segment segment2 sp2 ps ps2 rr r2 m st left y all own comes covered part shape closed stops more = from
    r.left
  where
    t : Ideal
    t = at segment ps rr m st (outside r.state.marks left) y

    u : Ideal
    u = at segment2 ps2 r2 comes.memory comes.settled (outside (r.state.marks + 1) (drop r.used p.readings)) comes.meter

    from : (budget : ℕ) → Follows p (suc k) (o (mark_by budget r)) t
    from zero =
        subst (λ (z : Outcome Control). Follows p (suc k) z t) (sym (stops (Live (counted r.state) r.used)))
        (leads_now (suc k - 1) t (MakesMark p (counted r.state) r.used) (record {
          next = u;
          step = comes.step;
          running = refl;
          before = refl;
          marks = refl;
          taken = refl;
          matches = matches_now p.core
              (counted r.state) all own p.code p.low p.high segment2 sp2 ps2 r2 comes.memory comes.settled
              (r.state.marks + 1) (drop r.used p.readings) comes.meter covered part shape comes.facts closed;
        }))
    from (suc n) =
        let g = more n in
        subst (λ (z : Outcome Control). Follows p (suc k) z t) (sym g.2)
        (leads_step k t u (StandsAt p g.0 g.1) comes.step (g.3 comes.memory comes.settled comes.meter comes.facts comes.words))

-- the same where nothing else is done of the run
pub mark_follows : (p : Setting) (k : ℕ) (r : Run) (go : Action Control) (segment segment2 sp2 : ℕ) (ps ps2 rr r2 m : ℕ
    → ℕ) (st : Bytes)
    (y : Meter) (all own : Cells)
    → Comes p.code p.low p.high (at segment ps rr m st (outside r.state.marks (drop r.used p.readings)) y) Running segment2 ps2 r2
    (outside (r.state.marks + 1) (drop r.used p.readings)) all
    → IsCovered p.core (kept r.state) own → ((b : ℕ) (x : Cell) → own b ≡ Some x → all b ≡ Some x) → Shape segment2 sp2 ps2 all
    → r.state.block ≡ None
    → ((n : ℕ) → (c : Control) × (q : Run) × (go (record r { state = counted r.state; left = n }) ≡ Went c q)
    × ((m2 : ℕ → ℕ) (st2 : Bytes) (y2 : Meter) → Facts p.code p.low p.high all m2 st2 → AreWords r2
    → Leads k (at segment2 ps2 r2 m2 st2 (outside (r.state.marks + 1) (drop r.used p.readings)) y2) (StandsAt p c q)))
    → Follows p (suc k) ((mark >> go) r) (at segment ps rr m st (outside r.state.marks (drop r.used p.readings)) y)
unfolding mark
mark_follows p k r go segment segment2 sp2 ps ps2 rr r2 m st y all own comes covered part shape closed more =
    mark_by_follows p k r (λ x. and_then x
    (λ _. go)) segment segment2 sp2 ps ps2 rr r2 m st (drop r.used p.readings) y all own comes covered
    part shape closed (λ s. refl) more

-- what follows after some instructions that make no mark
pub follows_after : (p : Setting) (j k : ℕ) (o : Outcome Control) (t : Ideal)
    → Leads j t (λ u. (u.marks ≡ t.marks) × Follows p (suc k) o u) → Follows p (j + suc k) o t
follows_after p j k (Went c q) t h =
    leads_then j (suc k) t (λ u. (u.marks ≡ t.marks) × Follows p (suc k) (Went c q) u) (StandsAt p c q) h (λ u l. l.1)
follows_after p j k (Stopped (Live s used)) t h =
    let e : j + (suc k - 1) ≡ j + suc k - 1 = omega arith in
    subst (λ (i : ℕ). Leads i t (MakesMark p s used)) e
    (leads_then j (suc k - 1) t (λ u. (u.marks ≡ t.marks) × Follows p (suc k) (Stopped (Live s used)) u) (MakesMark p s used) h
    (λ u l. l.1))
follows_after p j k (Stopped (Over kind s used)) t h =
    let e : j + (suc k - 1) ≡ j + suc k - 1 = omega arith in
    subst (λ (i : ℕ). Leads i t (HasEnded p kind s used)) e
    (leads_then j (suc k - 1) t (λ u. (u.marks ≡ t.marks) × Follows p (suc k) (Stopped (Over kind s used)) u)
    (HasEnded p kind s used) h (λ u l. l.1))
follows_after p j k (Stopped Lacks) t h =
    leads_then j (suc k) t (λ u. (u.marks ≡ t.marks) × Follows p (suc k) (Stopped Lacks) u) (LacksReading t.marks) h
    (λ u l. subst (λ (n : ℕ). Leads (suc k) u (LacksReading n)) l.0 l.1)
follows_after p j k (Stopped (Undefined rule node)) t h = tt
follows_after p j k (Stopped Wrong) t h = tt

-- ---- steps that do nothing else

-- one mark more leaves what stands
pub counted_stage : (p : Setting) (s : State) (next : ℕ) (frames : List Frame) (all own : Cells) (segment base sp : ℕ)
    (ps r m r2 m2 : ℕ → ℕ)
    (st st2 : Bytes) → r2 1 ≡ sp → AreWords r2 → Facts p.code p.low p.high all m2 st2
    → Stage p s next frames all own segment base sp ps r m st
    → Stage p (counted s) next frames all own segment base sp ps r2 m2 st2
counted_stage p s next frames all own segment base sp ps r m r2 m2 st st2 e wide facts h = record {
  ground = h.ground;
  shape = h.shape;
  facts = facts;
  words = wide;
  stack = e;
  part = h.part;
  covered = h.covered;
  made = h.made;
  filled = h.filled;
  whole = h.whole;
  outputs = h.outputs;
  stacked = h.stacked;
  holds = h.holds;
  no_block = h.no_block;
}

module _ (p : Setting) (lay : IsLaid p) where
  pub turn_does : DoesStep p 1 step.Turn
  turn_does f q first ts ls node r t e h =
      begins p lay 1 (act p.ir p.readings node step.Turn f q first ts ls r) step.Turn f q first node ts ls r t e h
      (λ all own segment sp ps rr m st y stage low stands code.
      let end : ℕ = step_at p f (q + 1) in
      let c = from_do p f (rr 0) (One Call false (Immediate 65286)) [] end (falls p lay step.Turn f q node
      (rr 0) tt stands code) in
      mark_follows p 0 r _ segment segment sp ps ps rr (behind rr) m st y all own
      (turns p.code p.low p.high segment sp ps stage.ground all stage.shape rr m st (outside r.state.marks
      (drop r.used p.readings)) y
      stage.facts stage.words c.0 stage.stack)
      stage.covered stage.part stage.shape stage.no_block
      (λ n. (
        At f (q + 1) first ts ls,
        record r { state = counted r.state; left = n },
        refl,
        (λ m2 st2 y2 facts wide.
            stands_now p lay 0 f q (q + 1) first ts ts ls (record r { state = counted r.state; left = n }) all own segment sp ps
            (behind rr) m2 st2 y2
            (with_level p (counted r.state) r.next all own segment sp sp ps f q (q + 1) first ts ts ls (behind rr) m2 st2
            (λ a k. k)
            (counted_stage p r.state r.next (level f q first ts ∷ ls) all own segment sp sp ps rr m
            (behind rr) m2 st st2 stage.stack wide facts
            stage)) low c.1),
      )))

  pub checkpoint_does : (d : ℕ) → DoesStep p 1 (step.Checkpoint d)
  checkpoint_does d f q first ts ls node r t e h =
      begins p lay 1 (act p.ir p.readings node (step.Checkpoint d) f q first ts ls r)
      (step.Checkpoint d) f q first node ts ls r t e h
      (λ all own segment sp ps rr m st y stage low stands code.
      depth_follows p 1 _ d ts _ r (λ depth.
      let fn : IrFunction = function_of p f in
      let end : ℕ = step_at p f (q + 1) in
      let room = room_of (temporaries_at fn) d 0 1 fn.frame stands.room (omega arith) in
      let c = from_do p f (rr 0) (One Call false (Immediate 65308)) [] end
      (falls p lay (step.Checkpoint d) f q node (rr 0) tt stands code) in
      mark_follows p 0 r _ segment segment sp ps ps rr (behind rr) m st y all own
      (checkpoints p.code p.low p.high segment sp ps stage.ground all stage.shape rr m st (outside r.state.marks
      (drop r.used p.readings))
      y stage.facts stage.words c.0 stage.stack)
      stage.covered stage.part stage.shape stage.no_block
      (λ n. (
        At f (q + 1) first (temporary.Value Missing ∷ ts) ls,
        record r { state = counted r.state; left = n },
        refl,
        (λ m2 st2 y2 facts wide.
            stands_now p lay 0 f q (q + 1) first ts (temporary.Value Missing ∷ ts) ls
            (record r { state = counted r.state; left = n }) all own
            segment sp ps (behind rr) m2 st2 y2
            (with_level p (counted r.state) r.next all own segment sp sp ps f q (q + 1) first ts (temporary.Value Missing ∷ ts) ls
            (behind rr)
            m2 st2 (λ a k. record { words = k.words; room = omega arith; held = (k.words (length ts) (omega arith), k.held) })
            (counted_stage p r.state r.next (level f q first ts ∷ ls) all own segment sp sp ps rr m
            (behind rr) m2 st st2 stage.stack wide facts
            stage)) low c.1),
      ))))

-- A reading of a sensor, given or lacking.
use Rattle.std.proofs.Common.{◌≡◌, ℕ, zero, suc, ◌+◌, ◌*◌, ◌<◌, ◌≤◌, refl, sym, ap, ◌∙◌, arith, Bool, true, false, List, [], ◌∷◌, length, drop, Option, Some, None, if◌then◌else◌}
use Rattle.std.proofs.lemmas.Bool.{eqb-true, eqb-false, ne_eqb}
use Rattle.std.specs.Prelude.{pos, nat_eq, slice_get}
use Rattle.base16.specs.Board.{segment_start}
use Rattle.base16.specs.Integer.{wrapped}
use Rattle.base16.specs.Readings.{AreReadingsFrom, IsReadings}
use Rattle.base16.specs.declared.reading.Reading.{Reading}
use Rattle.base16.specs.declared.reading.Reading.TheVariants as reading
use Rattle.isa430.specs.declared.instr.TwoOp.TheVariants.{Mov}
use Rattle.isa430.specs.declared.instr.OneOp.TheVariants.{Call}
use Rattle.isa430.specs.declared.instr.Src.TheVariants.{Immediate}
use Rattle.isa430.specs.declared.instr.Dst.TheVariants.{Reg as ToReg}
use Rattle.isa430.specs.declared.instr.Instr.TheVariants.{Two, One}
use Rattle.isa430.specs.Table.{size_of}
use Rattle.core430.specs.Registers.{set_reg}
use Rattle.ideal430.specs.At.{sensed_value}
use Rattle.ideal430.specs.Ideal.{Ideal, Meter}
use Rattle.ideal430.specs.Settled.{Bytes}
use Rattle.c_run.specs.Actions.{taken, sensed, sense_reading, sense}
use Rattle.c_run.specs.Runs.{Run, Outcome, Stopped, NeedsReading as Lacks, Action, and_then, ◌>>=◌, counted, mark_by, mark, pure, stop}
use Rattle.c_values.specs.declared.value.Value.{Value}
use Rattle.c_values.specs.declared.value.Value.TheVariants.{Int}
use Rattle.cells430.specs.Cells.{Cells}
use Rattle.cells430.specs.Stretch.{Course, outside, at, behind}
use Rattle.cells430.proofs.Lift.{leads_step, leads_now}
use Rattle.cells430.proofs.Services.{senses, sense_lacks}
use Rattle.ir.specs.declared.control.Temporary.{Temporary}
use Rattle.ir.specs.declared.control.Temporary.TheVariants as temporary
use Rattle.ir.specs.declared.control.Frame.{Frame}
use Rattle.ir.specs.declared.control.Control.{Control}
use Rattle.ir.specs.declared.control.Control.TheVariants.{At}
use Rattle.ir.specs.declared.form.IrFunction.{IrFunction}
use Rattle.ir.specs.declared.form.StepKind.TheVariants as step
use Rattle.ir.specs.Machine.{act, gave}
use Rattle.select430.specs.Frames.{temporaries_at}
use Rattle.select430.specs.declared.part.Part.TheVariants.{Do}
use Rattle.select430.specs.Code.{constant, keep}
use Rattle.steps430.specs.Setting.{Setting, function_of, step_at, IsLaid}
use Rattle.steps430.specs.Standing.{Stage}
use Rattle.steps430.specs.Follows.{LacksReading, Follows, DoesStep}
use Rattle.steps430.proofs.Moves.{From, from_do, level}
use Rattle.steps430.proofs.Outcomes.{depth_follows}
use Rattle.steps430.proofs.Values.{number_is, brings_number}
use Rattle.steps430.proofs.Steps.{begins, falls, keeps_last}
use Rattle.steps430.proofs.Plain.{room_of}
use Rattle.steps430.proofs.Marks.{mark_by_follows, follows_after, counted_stage}

-- ---- readings

none_some : {A : Type 0} (x : Reading) → None ≡ Some x → A
none_some x e = absurd (differ e)
  where
    differ : None ≡ Some x → ⊥
    differ k = cc

same_reading : (x y : Reading) → Some x ≡ Some y → x ≡ y
same_reading x y e = cc

pub reading_next : (rs : List Reading) (n : ℕ) (x : Reading) → slice_get rs n ≡ Some x → drop n rs ≡ x ∷ drop (n + 1) rs
reading_next [] n x e = none_some x e
reading_next (y ∷ ys) zero x e = ap (λ (z : Reading). z ∷ ys) (same_reading y x e)
reading_next (y ∷ ys) (suc n) x e =
    let plain : suc (n + 1) ≡ suc n + 1 = omega arith in
    reading_next ys n x e ∙ ap (λ (k : ℕ). x ∷ drop k (y ∷ ys)) plain

pub reading_none : (rs : List Reading) (n : ℕ) → slice_get rs n ≡ None → drop n rs ≡ []
reading_none [] zero e = refl
reading_none [] (suc n) e = refl
reading_none (y ∷ ys) zero e = none_some y (sym e)
reading_none (y ∷ ys) (suc n) e = reading_none ys n e

pub reading_small : (low : ℕ) (rs : List Reading) (n c v : ℕ) → AreReadingsFrom low rs → slice_get rs n ≡ Some (reading.Sense c v)
    → v < 65536
reading_small low [] n c v h e = none_some (reading.Sense c v) e
reading_small low (reading.Sense d w ∷ rest) zero c v h e =
    let same : w ≡ v = value (same_reading (reading.Sense d w) (reading.Sense c v) e) in
    let small = h.1 in
    omega arith
  where
    value : reading.Sense d w ≡ reading.Sense c v → w ≡ v
    value k = cc
reading_small low (reading.Clock ms ∷ rest) zero c v h e = cc
reading_small low (reading.Sense d w ∷ rest) (suc n) c v h e = reading_small low rest n c v h.2 e
reading_small low (reading.Clock ms ∷ rest) (suc n) c v h e = reading_small ms rest n c v h.2 e

abbrev picked : Bool → ℕ → Action ℕ
picked b v = if b then taken v else stop Lacks

-- ---- the step

module _ (p : Setting) (lay : IsLaid p) (real : IsReadings p.readings) where
  -- R15 has the channel
  module _ (d channel : ℕ) (few : channel < 16) (f q first : ℕ) (ts : List Temporary) (ls : List Frame) (r : Run)
      (depth : length ts ≡ d)
      (room : temporaries_at (function_of p f) + 2 * d + 2 ≤ (function_of p f).frame)
      (all own : Cells) (segment sp : ℕ) (ps rr m : ℕ → ℕ) (st : Bytes) (y : Meter)
      (stage : Stage p r.state r.next (level f q first ts ∷ ls) all own segment sp sp ps rr m st)
      (low : segment_start segment + 4 ≤ sp)
      (is : rr 15 ≡ channel)
      (code : From p f (rr 0) (Do (One Call false (Immediate 65296)) ∷ keep p.ir (function_of p f) d 12) (step_at p f
      (q + 1))) where
    abbrev t : Ideal
    t = at segment ps rr m st (outside r.state.marks (drop r.used p.readings)) y

    abbrev rest : Value → Action Control
    rest v = gave f q first ls ts v

    given_reading : (v : ℕ) → slice_get p.readings r.used ≡ Some (reading.Sense channel v)
        → Follows p 2 (and_then (and_then (mark_by r.left (record r { used = r.used + 1 })) (λ x. pure (Int (pos v)))) rest) t
    given_reading v there =
        let fn : IrFunction = function_of p f in
        let end : ℕ = step_at p f (q + 1) in
        let small = reading_small 0 p.readings r.used channel v real there in
        let next_one = reading_next p.readings r.used (reading.Sense channel v) there in
        let c = from_do p f (rr 0) (One Call false (Immediate 65296)) (keep p.ir fn d 12) end code in
        let r2 : ℕ → ℕ = set_reg (behind rr) 12 v in
        let plain : v ≡ wrapped (pos v) = omega arith in
        mark_by_follows p 1 (record r { used = r.used + 1 }) (λ x. and_then (and_then x
        (λ z. pure (Int (pos v)))) rest) segment segment sp
        ps ps rr r2 m st (drop r.used p.readings) y all own
        (senses p.code p.low p.high segment sp ps stage.ground all stage.shape rr m st (outside r.state.marks
        (drop r.used p.readings))
        channel v (drop (r.used + 1) p.readings) y stage.facts stage.words c.0 stage.stack is few small next_one)
        stage.covered stage.part stage.shape stage.no_block (λ s. refl)
        (λ n. (
          At f (q + 1) first (temporary.Value (Int (pos v)) ∷ ts) ls,
          record r { used = r.used + 1; state = counted r.state; left = n },
          refl,
          (λ m2 st2 y2 facts wide.
              keeps_last p lay 0 f q (q + 1) first d 12 v (temporary.Value (Int (pos v))) ts ls
              (record r { used = r.used + 1; state = counted r.state; left = n }) all own segment sp ps r2 m2 st2 y2
              (counted_stage p r.state r.next
              (level f q first ts ∷ ls) all own segment sp sp ps rr m r2 m2 st st2 stage.stack wide facts stage)
              low c.1 depth room refl plain),
        ))

    lacking : sensed_value channel (drop r.used p.readings) ≡ None → Follows p 2 (Stopped Lacks) t
    lacking none =
        let fn : IrFunction = function_of p f in
        let c = from_do p f (rr 0) (One Call false (Immediate 65296)) (keep p.ir fn d 12) (step_at p f (q + 1)) code in
        let comes = sense_lacks p.code p.low p.high segment sp ps stage.ground all stage.shape rr m st
        (outside r.state.marks (drop r.used p.readings)) channel y stage.facts stage.words c.0 stage.stack is few none in
        leads_step 1 t _ (LacksReading r.state.marks) comes.step
        (leads_now 1 _ (LacksReading r.state.marks) (record { lacks = refl; marks = refl }))

    on_reading : (x : Option Reading) → slice_get p.readings r.used ≡ x
        → Follows p 2 (and_then (and_then (sensed channel x r) (λ v. λ u. and_then (mark_by u.left u)
        (λ z. pure (Int (pos v))))) rest) t
    on_reading None e = lacking (ap (sensed_value channel) (reading_none p.readings r.used e))
    on_reading (Some (reading.Clock ms)) e = lacking (ap (sensed_value channel) (reading_next p.readings r.used
        (reading.Clock ms) e))
    on_reading (Some (reading.Sense c v)) e = from (nat_eq c channel) refl
      where
        from : (b : Bool) → nat_eq c channel ≡ b
            → Follows p 2 (and_then (and_then (picked b v r) (λ w. λ u. and_then (mark_by u.left u) (λ z. pure (Int (pos w)))))
            rest) t
        from true k = given_reading v (e ∙ ap (λ (z : ℕ). Some (reading.Sense z v)) (eqb-true c channel k))
        from false k =
            lacking (ap (sensed_value channel) (reading_next p.readings r.used (reading.Sense c v) e)
            ∙ ap (λ (b : Bool). if b then Some v else None) (ne_eqb c channel (eqb-false c channel k)))

  pub sense_does : (d channel : ℕ) → channel < 16 → DoesStep p 3 (step.Sense d channel)
  unfolding sense sense_reading mark
  sense_does d channel few f q first ts ls node r t e h =
      begins p lay 3 (act p.ir p.readings node (step.Sense d channel) f q first ts ls r)
      (step.Sense d channel) f q first node ts ls r t e h
      (λ all own segment sp ps rr m st y stage low stands code.
      depth_follows p 3 _ d ts _ r (λ depth.
      let fn : IrFunction = function_of p f in
      let end : ℕ = step_at p f (q + 1) in
      let room = room_of (temporaries_at fn) d 0 1 fn.frame stands.room (omega arith) in
      let c = from_do p f (rr 0) (Two Mov false (constant (pos channel)) (ToReg 15))
      (Do (One Call false (Immediate 65296)) ∷ keep p.ir fn d 12) end (falls p lay (step.Sense d channel) f q node
      (rr 0) tt stands code) in
      let pc : ℕ = rr 0 + size_of (Two Mov false (constant (pos channel)) (ToReg 15)) in
      let x : Course = outside r.state.marks (drop r.used p.readings) in
      let o : Outcome Control = (sense p.readings channel >>= gave f q first ls ts) r in
      let Q : Ideal → Type 0 = λ u. (u.marks ≡ r.state.marks) × Follows p 2 o u in
      follows_after p 1 1 o (at segment ps rr m st x y)
      (brings_number p Q 0 r.state r.next (level f q first ts ∷ ls) all own segment sp sp ps rr m st x y
      (constant (pos channel)) 15 (wrapped (pos channel)) stage (number_is (pos channel)) c.0 (omega arith) (λ st2 y2 stage2.
      let is : wrapped (pos channel) ≡ channel = omega arith in
      leads_now 0 _ Q (
        refl,
        on_reading d channel few f q first ts ls r depth room all own segment sp ps (set_reg (set_reg rr 0 pc) 15 (wrapped
            (pos channel))) m
            st2 y2 stage2 low is c.1 (slice_get p.readings r.used) refl,
      )))))

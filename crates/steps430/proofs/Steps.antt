-- How the proof of a step begins and ends.
use Rattle.std.proofs.Common.{◌≡◌, ℕ, suc, ◌+◌, ◌*◌, ◌≤◌, refl, sym, ap, ◌∙◌, subst, arith, false, List, [], ◌∷◌, length, drop, Some}
use Rattle.std.specs.Prelude.{slice_get}
use Rattle.base16.specs.Board.{segment_start}
use Rattle.isa430.specs.declared.instr.TwoOp.TheVariants.{Mov}
use Rattle.isa430.specs.declared.instr.Src.TheVariants.{Reg}
use Rattle.isa430.specs.declared.instr.Dst.TheVariants.{Indexed as ToIndexed}
use Rattle.isa430.specs.declared.instr.Instr.TheVariants.{Two}
use Rattle.core430.specs.Registers.{set_reg}
use Rattle.run430.specs.Code.{Placed}
use Rattle.ideal430.specs.Ideal.{Ideal, Meter}
use Rattle.ideal430.specs.Settled.{Bytes}
use Rattle.c_run.specs.Actions.{kept}
use Rattle.c_run.specs.Runs.{Run, Outcome}
use Rattle.c_values.specs.declared.state.State.{State}
use Rattle.c_values.specs.declared.value.Value.{Value}
use Rattle.cells430.specs.Cells.{Cells}
use Rattle.cells430.specs.Stretch.{outside, at, Leads}
use Rattle.cells430.proofs.Lift.{leads_now}
use Rattle.ir.specs.declared.control.Temporary.{Temporary}
use Rattle.ir.specs.declared.control.Temporary.TheVariants as temporary
use Rattle.ir.specs.declared.control.Frame.{Frame}
use Rattle.ir.specs.declared.control.Control.{Control}
use Rattle.ir.specs.declared.control.Control.TheVariants.{At}
use Rattle.ir.specs.declared.form.Operand.{Operand}
use Rattle.ir.specs.declared.form.StepKind.{StepKind}
use Rattle.matching.specs.Matches.{placed}
use Rattle.select430.specs.Frames.{temporaries_at, temporary_at}
use Rattle.select430.specs.Code.{code_of_step, keep}
use Rattle.steps430.specs.Setting.{Setting, function_of, step_at, step_code, code_bytes, Falls, StepStands, IsLaid}
use Rattle.steps430.specs.Holds.{HasCode, temporary_code}
use Rattle.steps430.specs.Standing.{Stage, IsAt, Between, StandsAt}
use Rattle.steps430.specs.Follows.{Follows}
use Rattle.steps430.proofs.Moves.{From, from_do, from_none, level, without_top, keeps}
use Rattle.steps430.proofs.Outcomes.{Gives, OfTop, OfConstant, OfNull, OfScalar}

module _ (p : Setting) (lay : IsLaid p) where
  -- a step that is made next stands in code
  pub begins : (limit : ℕ) (o : Outcome Control) (k : StepKind) (f q first node : ℕ) (ts : List Temporary) (ls : List Frame)
      (r : Run) (t : Ideal) → slice_get (function_of p f).steps q ≡ Some (record { node = node; kind = k })
      → StandsAt p (At f q first ts ls) r t
      → ((all own : Cells) (segment sp : ℕ) (ps rr m : ℕ → ℕ) (st : Bytes) (y : Meter)
      → Stage p r.state r.next (level f q first ts ∷ ls) all own segment sp sp ps rr m st → segment_start segment + 4 ≤ sp
      → StepStands p f q (record { node = node; kind = k })
      → From p f (rr 0) (code_of_step p.ir (function_of p f) k) (step_at p f q + code_bytes (step_code p f k))
      → Follows p limit o (at segment ps rr m st (outside r.state.marks (drop r.used p.readings)) y))
      → Follows p limit o t
  begins limit o k f q first node ts ls r t e h go = subst (Follows p limit o) (sym h.is) (from h.base h.stage h.point)
    where
      stands : StepStands p f q (record { node = node; kind = k })
      stands = lay.steps f q (record { node = node; kind = k }) e

      from : (base : ℕ) → Stage p r.state r.next
          (level f q first ts ∷ ls) h.all h.own h.segment base h.sp h.pointers h.r h.m h.settled
          → IsAt p (placed p.core (kept r.state)) h.all h.own h.segment base h.sp h.r (At f q first ts ls)
          → Follows p limit o (at h.segment h.pointers h.r h.m h.settled (outside r.state.marks (drop r.used p.readings)) h.meter)
      from base stage (Between b low pc) =
          go h.all h.own h.segment h.sp h.pointers h.r h.m h.settled h.meter
          (subst (λ (x : ℕ). Stage p r.state r.next
          (level f q first ts ∷ ls) h.all h.own h.segment x h.sp h.pointers h.r h.m h.settled) b stage)
          low stands
          (record {
            code = subst (λ (x : ℕ). Placed p.code p.low p.high x (step_code p f k)) (sym pc) stands.code;
            size = ap (λ (x : ℕ). x + code_bytes (step_code p f k)) pc;
            helpers = stands.helpers;
          })

  -- and where it falls through, the next one behind it
  pub falls : (k : StepKind) (f q node pc : ℕ) → Falls k → StepStands p f q (record { node = node; kind = k })
      → From p f pc (code_of_step p.ir (function_of p f) k) (step_at p f q + code_bytes (step_code p f k))
      → From p f pc (code_of_step p.ir (function_of p f) k) (step_at p f (q + 1))
  falls k f q node pc fall stands h = record { code = h.code; size = h.size ∙ sym (stands.next fall); helpers = h.helpers }

  -- the run stands at a step of the same call
  pub stands_next : (f q first : ℕ) (ts : List Temporary) (ls : List Frame) (r : Run) (all own : Cells) (segment sp : ℕ)
      (ps rr m : ℕ → ℕ) (st : Bytes) (y : Meter)
      → Stage p r.state r.next (level f q first ts ∷ ls) all own segment sp sp ps rr m st → segment_start segment + 4 ≤ sp
      → rr 0 ≡ step_at p f q
      → StandsAt p (At f q first ts ls) r (at segment ps rr m st (outside r.state.marks (drop r.used p.readings)) y)
  stands_next f q first ts ls r all own segment sp ps rr m st y stage low pc = record {
    all = all;
    own = own;
    segment = segment;
    base = sp;
    sp = sp;
    pointers = ps;
    r = rr;
    m = m;
    settled = st;
    meter = y;
    is = refl;
    stage = stage;
    point = Between refl low pc;
  }

  -- nothing is left to do
  pub stands_now : (n f q q2 first : ℕ) (ts us : List Temporary) (ls : List Frame) (r : Run) (all own : Cells) (segment sp : ℕ)
      (ps rr m : ℕ → ℕ) (st : Bytes) (y : Meter)
      → Stage p r.state r.next (level f q2 first us ∷ ls) all own segment sp sp ps rr m st → segment_start segment + 4 ≤ sp
      → From p f (rr 0) [] (step_at p f q2)
      → Leads n (at segment ps rr m st (outside r.state.marks (drop r.used p.readings)) y) (StandsAt p (At f q2 first us ls) r)
  stands_now n f q q2 first ts us ls r all own segment sp ps rr m st y stage low code =
      leads_now n _ (StandsAt p (At f q2 first us ls) r)
      (stands_next f q2 first us ls r all own segment sp ps rr m st y stage low (from_none p f (rr 0) (step_at p f q2) code))

  -- the last instruction keeps a temporary
  pub keeps_last : (n f q q2 first d k w : ℕ) (t : Temporary) (us : List Temporary) (ls : List Frame) (r : Run) (all own : Cells)
      (segment sp : ℕ) (ps rr m : ℕ → ℕ) (st : Bytes) (y : Meter)
      → Stage p r.state r.next (level f q first us ∷ ls) all own segment sp sp ps rr m st → segment_start segment + 4 ≤ sp
      → From p f (rr 0) (keep p.ir (function_of p f) d k) (step_at p f q2) → length us ≡ d
      → temporaries_at (function_of p f) + 2 * d + 2 ≤ (function_of p f).frame
      → set_reg rr 0 (rr 0 + 4) k ≡ w → HasCode (temporary_code (placed p.core (kept r.state)) t) w
      → Leads (suc n) (at segment ps rr m st (outside r.state.marks (drop r.used p.readings)) y) (StandsAt p (At f q2 first
      (t ∷ us) ls) r)
  keeps_last n f q q2 first d k w t us ls r all own segment sp ps rr m st y stage low code depth room is has =
      let c = from_do p f (rr 0) (Two Mov false (Reg k) (ToIndexed 1 (temporary_at (function_of p f) d))) []
      (step_at p f q2) code in
      keeps p (StandsAt p (At f q2 first (t ∷ us) ls) r) n r.state r.next all own segment sp ps rr m st
      (outside r.state.marks (drop r.used p.readings)) y f q q2 first d k w t us ls stage c.0 depth (omega arith) is has
      (λ all2 m2 st2 y2 stage2.
      stands_now n f q2 q2 first (t ∷ us) (t ∷ us) ls r all2 own segment sp ps (set_reg rr 0 (rr 0 + 4)) m2 st2 y2 stage2 low c.1)

-- the temporaries that an operand leaves
pub left_by : (p : Setting) (s : State) (next : ℕ) (all own : Cells) (segment base sp : ℕ) (ps r m : ℕ → ℕ) (st : Bytes)
    (f q first : ℕ) (X : Operand) (ts : List Temporary) (v : Value) (us : List Temporary) (ls : List Frame)
    → Gives s first X ts v us
    → Stage p s next (level f q first ts ∷ ls) all own segment base sp ps r m st
    → Stage p s next (level f q first us ∷ ls) all own segment base sp ps r m st
left_by p s next all own segment base sp ps r m st f q first X ts v us ls OfTop h =
    without_top p s next all own segment base sp ps f q q first (temporary.Value v) us ls r m st h
left_by p s next all own segment base sp ps r m st f q first X ts v us ls (OfConstant z) h = h
left_by p s next all own segment base sp ps r m st f q first X ts v us ls OfNull h = h
left_by p s next all own segment base sp ps r m st f q first X ts v us ls (OfScalar of offset k e d) h = h

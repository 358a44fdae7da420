-- What a call gave is taken behind the call.
use Rattle.std.proofs.Common.{◌≡◌, ℕ, ◌+◌, ◌≤◌, refl, sym, ap, subst, arith, true, false, List, ◌∷◌, drop, Some}
use Rattle.std.specs.Prelude.{slice_get}
use Rattle.base16.specs.Board.{segment_start}
use Rattle.run430.specs.Code.{Placed}
use Rattle.ideal430.specs.Ideal.{Ideal, Meter}
use Rattle.ideal430.specs.Settled.{Bytes}
use Rattle.c_run.specs.Actions.{kept}
use Rattle.c_run.specs.Runs.{Run}
use Rattle.c_values.specs.declared.value.Value.{Value}
use Rattle.cells430.specs.Cells.{Cells}
use Rattle.cells430.specs.Stretch.{outside, at}
use Rattle.ir.specs.declared.control.Temporary.TheVariants as temporary
use Rattle.ir.specs.declared.control.Frame.{Frame}
use Rattle.ir.specs.declared.control.Control.TheVariants.{Returning}
use Rattle.ir.specs.declared.form.IrFunction.{IrFunction}
use Rattle.ir.specs.declared.form.StepKind.{StepKind}
use Rattle.ir.specs.declared.form.StepKind.TheVariants as step
use Rattle.ir.specs.Machine.{act_result}
use Rattle.matching.specs.Matches.{placed}
use Rattle.select430.specs.Frames.{temporaries_at}
use Rattle.select430.specs.Code.{code_of_step}
use Rattle.steps430.specs.Setting.{Setting, function_of, step_at, step_code, code_bytes, StepStands, IsLaid}
use Rattle.steps430.specs.Holds.{HasCode, value_code}
use Rattle.steps430.specs.Standing.{Stage, IsAt, Behind, StandsAt}
use Rattle.steps430.specs.Follows.{Follows}
use Rattle.steps430.specs.Calls.{DoesResult}
use Rattle.steps430.proofs.Moves.{From, with_level}
use Rattle.steps430.proofs.Outcomes.{depth_follows}
use Rattle.steps430.proofs.Steps.{falls, stands_now, keeps_last}
use Rattle.steps430.proofs.Plain.{room_of}

module _ (p : Setting) (lay : IsLaid p) where
  -- the step behind a call stands in code
  pub begins_behind : (limit : ℕ) (k : StepKind) (v : Value) (b : Frame) (ls : List Frame) (node : ℕ) (r : Run) (t : Ideal)
      → slice_get (function_of p b.function).steps b.position ≡ Some (record { node = node; kind = k })
      → StandsAt p (Returning v (b ∷ ls)) r t
      → ((all own : Cells) (segment sp : ℕ) (ps rr m : ℕ → ℕ) (st : Bytes) (y : Meter)
      → Stage p r.state r.next (b ∷ ls) all own segment sp sp ps rr m st → segment_start segment + 4 ≤ sp
      → HasCode (value_code (placed p.core (kept r.state)) v) (rr 12)
      → StepStands p b.function b.position (record { node = node; kind = k })
      → From p b.function (rr 0) (code_of_step p.ir (function_of p b.function) k)
      (step_at p b.function b.position + code_bytes (step_code p b.function k))
      → Follows p limit (act_result p.ir p.readings k v b ls r) (at segment ps rr m st (outside r.state.marks
      (drop r.used p.readings)) y))
      → Follows p limit (act_result p.ir p.readings k v b ls r) t
  begins_behind limit k v b ls node r t e h go =
      subst (Follows p limit (act_result p.ir p.readings k v b ls r)) (sym h.is) (from h.base h.stage h.point)
    where
      stands : StepStands p b.function b.position (record { node = node; kind = k })
      stands = lay.steps b.function b.position (record { node = node; kind = k }) e

      from : (base : ℕ) → Stage p r.state r.next (b ∷ ls) h.all h.own h.segment base h.sp h.pointers h.r h.m h.settled
          → IsAt p (placed p.core (kept r.state)) h.all h.own h.segment base h.sp h.r (Returning v (b ∷ ls))
          → Follows p limit (act_result p.ir p.readings k v b ls r)
          (at h.segment h.pointers h.r h.m h.settled (outside r.state.marks (drop r.used p.readings)) h.meter)
      from base stage (Behind same low pc has) =
          go h.all h.own h.segment h.sp h.pointers h.r h.m h.settled h.meter
          (subst (λ (x : ℕ). Stage p r.state r.next
          (b ∷ ls) h.all h.own h.segment x h.sp h.pointers h.r h.m h.settled) same stage)
          low has stands
          (record {
            code = subst (λ (x : ℕ). Placed p.code p.low p.high x (step_code p b.function k)) (sym pc) stands.code;
            size = ap (λ (x : ℕ). x + code_bytes (step_code p b.function k)) pc;
            helpers = stands.helpers;
          })

  pub result_kept_does : (d : ℕ) → DoesResult p 1 (step.Result d true)
  result_kept_does d v b ls node r t e h =
      begins_behind 1 (step.Result d true) v b ls node r t e h (λ all own segment sp ps rr m st y stage low has stands code.
      depth_follows p 1 _ d b.temporaries _ r (λ depth.
      let fn : IrFunction = function_of p b.function in
      let room = room_of (temporaries_at fn) d 0 1 fn.frame stands.room (omega arith) in
      keeps_last p lay 0 b.function b.position (b.position + 1) b.first d 12 (rr 12)
      (temporary.Value v) b.temporaries ls r all own segment
      sp ps rr m st y stage low (falls p lay (step.Result d true) b.function b.position node
      (rr 0) tt stands code) depth room refl has))

  pub result_left_does : (d : ℕ) → DoesResult p 0 (step.Result d false)
  result_left_does d v b ls node r t e h =
      begins_behind 0 (step.Result d false) v b ls node r t e h (λ all own segment sp ps rr m st y stage low has stands code.
      depth_follows p 0 _ d b.temporaries _ r (λ depth.
      stands_now p lay 0 b.function b.position
      (b.position + 1) b.first b.temporaries b.temporaries ls r all own segment sp ps rr m st y
      (with_level p r.state r.next all own segment sp sp ps b.function b.position
      (b.position + 1) b.first b.temporaries b.temporaries ls rr m
      st (λ a k. k) stage)
      low (falls p lay (step.Result d false) b.function b.position node (rr 0) tt stands code)))

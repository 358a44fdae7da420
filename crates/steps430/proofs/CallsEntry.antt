-- The step at the entry of a function does its step, where the arguments are copied behind it.
use Rattle.std.proofs.Common.{◌≡◌, ℕ, zero, suc, ◌+◌, ◌-◌, ◌%◌, ◌<◌, ◌≤◌, refl, sym, ap, ◌∙◌, subst, arith, Bool, true, false, ◌⊎◌, inl, inr, List, [], ◌∷◌, length, take, reverse, drop, Option, Some, None, Ok}
use Rattle.std.proofs.lemmas.List.{reverse-append}
use Rattle.std.proofs.lemmas.Bool.Decides.{nat_tests}
use Rattle.std.specs.Prelude.{nat_lt, nat_le, pos, slice_get}
use Rattle.base16.specs.Board.{segment_start}
use Rattle.base16.specs.Placement.{frame_below}
use Rattle.base16.specs.declared.end.EndKind.TheVariants.{StackFull}
use Rattle.isa430.specs.declared.instr.TwoOp.TheVariants.{Mov}
use Rattle.isa430.specs.declared.instr.OneOp.TheVariants.{Call}
use Rattle.isa430.specs.declared.instr.Src.TheVariants.{Immediate}
use Rattle.isa430.specs.declared.instr.Dst.TheVariants.{Reg as ToReg}
use Rattle.isa430.specs.declared.instr.Instr.TheVariants.{Two, One}
use Rattle.run430.specs.Code.{Here, Placed}
use Rattle.ideal430.specs.Ideal.{Ideal, Meter}
use Rattle.ideal430.specs.Settled.{Bytes}
use Rattle.ideal430.specs.declared.state.IdealEnd.TheVariants.{Running}
use Rattle.c_run.specs.Actions.{kept, top_of, entered, enter, with_call, with_params}
use Rattle.c_run.specs.Runs.{Run, ◌>>=◌, ◌>>◌, and_then, pure, changed, mark, mark_by}
use Rattle.c_values.specs.Values.{all_present}
use Rattle.c_values.specs.declared.state.Call.{Call as CCall}
use Rattle.c_values.specs.declared.value.Value.{Value}
use Rattle.cells430.specs.Cells.{Word, Cells}
use Rattle.cells430.specs.Stretch.{Course, outside, at, Leads}
use Rattle.cells430.proofs.Lift.{leads_now, leads_step, leads_weaker}
use Rattle.ir.specs.declared.control.Control.TheVariants.{At, Calling}
use Rattle.ir.specs.declared.control.Frame.{Frame}
use Rattle.ir.specs.declared.form.IrFunction.{IrFunction}
use Rattle.ir.specs.declared.form.StepKind.TheVariants as step
use Rattle.ir.specs.Machine.{objects_of, param_kinds, act_enter}
use Rattle.ir.specs.Typed.{HasParameters}
use Rattle.matching.specs.Matches.{Placed as Alive, placed}
use Rattle.select430.specs.Code.{constant, service, copies}
use Rattle.select430.specs.Frames.{word, temporaries_at, temporary_at}
use Rattle.steps430.specs.Setting.{Setting, FrameFits, function_of, step_at, step_code, code_bytes, IsLaid, StepStands}
use Rattle.steps430.specs.Holds.{CallHolds, Holds, with_args, calling}
use Rattle.steps430.specs.Standing.{ReturnsHere, ReturnsBelow, Stacked, return_to, arguments_at, Stage, IsAt, Entering, StandsAt}
use Rattle.steps430.specs.Follows.{MakesMark, HasEnded, Follows}
use Rattle.steps430.specs.Calls.{FramesLaid, AreKnown, new_call, DoesEnter}
use Rattle.steps430.proofs.FramesGrown.{after_enter, next_after}
use Rattle.steps430.proofs.FramesLeft.{matches_by}
use Rattle.steps430.proofs.Moves.{From, from_do, level}
use Rattle.steps430.proofs.CallsEnter.{has_function, IsEntered, enters_here, enters_above, enters_nowhere}
use Rattle.steps430.proofs.CallsReturn.{frame_fits}
use Rattle.steps430.proofs.CallsObjects.{HaveScalars, fresh_have}
use Rattle.steps430.proofs.Values.{number_is, brings_number}

-- ---- the arguments

-- the arguments of a call lie in the frame of the caller, from an address on, where no scalar stands
abbrev pub HasArguments : Setting → (all own : Cells) → List Alive → (args : List Value) → (below : List Frame) → (address : ℕ)
    → Type 0
HasArguments p all own alive args [] a = args ≡ []
HasArguments p all own alive args (b ∷ below) a =
    (base : ℕ) × (a ≡ base + temporary_at (function_of p b.function) (length b.temporaries))
    × ((c : ℕ) → base + temporaries_at (function_of p b.function) ≤ c → c < base + (function_of p b.function).frame
    → own c ≡ None)
    × CallHolds all alive (function_of p b.function) base (with_args args b.temporaries)

-- The code that copies the arguments gives the parameters their values.
abbrev pub CopiesArguments : Setting → (f n limit : ℕ) → Type 0
CopiesArguments p f n limit = (args : List Value) (below : List Frame) (first : ℕ) (r : Run) (all own : Cells) (segment sp : ℕ)
    (ps rr m : ℕ → ℕ) (st : Bytes) (y : Meter)
    → Stage p r.state r.next (level f 1 first [] ∷ below) all own segment sp sp ps rr m st → segment_start segment + 4 ≤ sp
    → HaveScalars (objects_of (function_of p f)) (reverse r.state.calls)
    → length args ≡ (function_of p f).params → all_present args ≡ Ok tt
    → HasArguments p all own (placed p.core (kept r.state)) args below (rr 14)
    → From p f (rr 0) (copies p.ir (function_of p f) 0 (take n (function_of p f).locals)) (step_at p f 1)
    → Leads limit (at segment ps rr m st (outside r.state.marks (drop r.used p.readings)) y)
    (StandsAt p (At f 1 first [] below) (record r { state = with_params first (param_kinds (function_of p f)) args r.state }))

-- no scalar stands at the temporaries of the caller
below_clear : (p : Setting) (all own : Cells) (g sp : ℕ) (l b : Frame) (ls : List Frame) (c d : CCall) (cs : List CCall)
    → Stacked p all own g sp (l ∷ b ∷ ls) (c ∷ d ∷ cs) → (a : ℕ) → d.frame + temporaries_at (function_of p b.function) ≤ a
    → a < d.frame + (function_of p b.function).frame → own a ≡ None
below_clear p all own g sp l b ls c d cs s a low high = from s.1
  where
    end : ℕ
    end = sp + (function_of p l.function).frame

    from : ((ReturnsHere all (return_to p (b ∷ ls)) g end × Stacked p all own g (end + 2) (b ∷ ls) (d ∷ cs))
        ⊎ ((older : ℕ) × (at : ℕ) × ReturnsBelow all own (return_to p (b ∷ ls)) g end older at
        × Stacked p all own older (at + 2) (b ∷ ls) (d ∷ cs)))
        → own a ≡ None
    from (inl k) = let e = k.1.0.frame in k.1.0.clear a (omega arith) (omega arith)
    from (inr k) = let e = k.3.0.frame in k.3.0.clear a (omega arith) (omega arith)

arguments_held : (p : Setting) (all own all2 own2 : Cells) (alive2 : List Alive) (g g2 base base2 d : ℕ) (args : List Value)
    (l : Frame) (below : List Frame) (c : CCall) (cs : List CCall) (w : ℕ) → Stacked p all own g base (calling args below) cs
    → Stacked p all2 own2 g2 base2 (l ∷ below) (c ∷ cs) → Holds p.ir all2 alive2 (calling args below) cs
    → arguments_at p base d below w → (below ≡ [] → args ≡ []) → HasArguments p all2 own2 alive2 args below w
arguments_held p all own all2 own2 alive2 g g2 base base2 d args l [] c cs w s s2 h a n = n refl
arguments_held p all own all2 own2 alive2 g g2 base base2 d args l (b ∷ ls) c [] w s s2 h a n = absurd s
arguments_held p all own all2 own2 alive2 g g2 base base2 d args l (b ∷ ls) c (e ∷ cs) w s s2 h a n = (
  e.frame,
  subst (λ (x : ℕ). w ≡ x + temporary_at (function_of p b.function) (length b.temporaries)) (sym s.0.frame) a,
  below_clear p all2 own2 g2 base2 l b ls c e cs s2,
  h.0,
)

-- ---- the step

same_place : (a b : ℕ) → Some a ≡ Some b → a ≡ b
same_place a b e = cc

no_place : {A : Type 0} (a : ℕ) → None ≡ Some a → A
no_place a e = absurd (differ e)
  where
    differ : None ≡ Some a → ⊥
    differ k = cc

module _ (p : Setting) (lay : IsLaid p) (laid : FramesLaid p) (n k f d : ℕ) (args : List Value) (below : List Frame) (node : ℕ)
    (r : Run)
    (e : slice_get (function_of p f).steps 0 ≡ Some (record { node = node; kind = step.Enter n }))
    (known : AreKnown p.core r.next r.state (calling args below)) (all own : Cells) (g sp : ℕ) (ps rr m : ℕ
    → ℕ) (st : Bytes) (y : Meter)
    (stage : Stage p r.state r.next (calling args below) all own g (sp + 2) sp ps rr m st)
    (back : all sp ≡ Some (Word (Some (return_to p below)))) (free : own sp ≡ None) (pc : rr 0 ≡ step_at p f 0)
    (argument : arguments_at p (sp + 2) d below (rr 14)) (none_given : below ≡ [] → args ≡ [])
    (count : length args ≡ (function_of p f).params) (given : all_present args ≡ Ok tt)
    (copied : CopiesArguments p f n k) where
  abbrev fn : IrFunction
  fn = function_of p f

  abbrev x : Course
  x = outside r.state.marks (drop r.used p.readings)

  abbrev begin : Ideal
  begin = at g ps rr m st x y

  abbrev run : (frame left : ℕ) → Run
  run frame left = record r { state = after_enter p f frame r.next r.state; left = left; next = next_after p f r.next }

  abbrev ended : (frame left : ℕ) → Run
  ended frame left =
      record (run frame left) { state = with_params r.next (param_kinds fn) args (after_enter p f frame r.next r.state) }

  fits : FrameFits (function_of p f)
  fits = frame_fits p lay f 0 (record { node = node; kind = step.Enter n }) e

  is_one : slice_get p.ir.functions f ≡ Some (function_of p f)
  is_one = has_function p f 0 (record { node = node; kind = step.Enter n }) e

  stands : StepStands p f 0 (record { node = node; kind = step.Enter n })
  stands = lay.steps f 0 (record { node = node; kind = step.Enter n }) e

  abbrev Entry : ℕ → (Ideal → Type 0) → Type 0
  Entry i Q = (r2 : ℕ → ℕ) (st2 : Bytes) (y2 : Meter) → Stage p r.state r.next (calling args below) all own g (sp + 2) sp ps r2 m
      st2
      → Here p.code p.low p.high (r2 0) (One Call false (Immediate 65282)) → r2 15 ≡ fn.frame → r2 14 ≡ rr 14
      → From p f (r2 0 + 4) (copies p.ir fn 0 (take n fn.locals)) (step_at p f 1) → Leads i (at g ps r2 m st2 x y2) Q

  -- R15 gets the bytes of the frame
  told : (i : ℕ) (Q : Ideal → Type 0) → Entry i Q → Leads (suc i) begin Q
  told i Q go =
      let most = fits.most in
      let src = constant (pos (word fn.frame)) in
      let next_is = stands.next tt in
      let code : Placed p.code p.low p.high (rr 0) (step_code p f (step.Enter n)) =
      subst (λ (a : ℕ). Placed p.code p.low p.high a (step_code p f (step.Enter n))) (sym pc) stands.code in
      let c = from_do p f (rr 0) (Two Mov false src (ToReg 15)) (service 1 ∷ copies p.ir fn 0 (take n fn.locals)) (step_at p f 1)
      (record {
        code = code;
        size = ap (λ (a : ℕ). a + code_bytes (step_code p f (step.Enter n))) pc ∙ sym next_is;
        helpers = stands.helpers;
      }) in
      let z = from_do p f _ (One Call false (Immediate 65282)) (copies p.ir fn 0 (take n fn.locals)) (step_at p f 1) c.1 in
      let is : fn.frame % 65536 % 65536 ≡ fn.frame = omega arith in
      brings_number p Q i r.state r.next (calling args below) all own g (sp + 2) sp ps rr m st x y src 15 (fn.frame % 65536 %
      65536) stage
      (number_is (pos (word fn.frame))) c.0 (omega arith)
      (λ st2 y2 stage3. go _ st2 y2 stage3 z.0 is refl z.1)

  -- a frame comes, or has no place
  abbrev Came : (r2 : ℕ → ℕ) → Bytes → Meter → Type 0
  Came r2 st2 y2 =
      IsEntered p r.state r.next f args below r2 r.state.marks (drop r.used p.readings) (at g ps r2 m st2 x y2)
      ⊎ ((frame_below (top_of r.state) fn.frame ≡ None) × Leads 0 (at g ps r2 m st2 x y2) (HasEnded p StackFull r.state r.used))

  comes : (r2 : ℕ → ℕ) (st2 : Bytes) (y2 : Meter) → Stage p r.state r.next (calling args below) all own g (sp + 2) sp ps r2 m st2
      → Here p.code p.low p.high (r2 0) (One Call false (Immediate 65282)) → r2 15 ≡ fn.frame → Came r2 st2 y2
  comes r2 st2 y2 stage3 here is = cases (nat_le (segment_start g + fn.frame + 4) sp) (nat_lt g 31) refl refl
    where
      room : nat_le (segment_start g + fn.frame + 4) sp ≡ true → segment_start g + fn.frame + 4 ≤ sp
      room j = grind (arith, nat_tests)

      full : nat_le (segment_start g + fn.frame + 4) sp ≡ false → sp < segment_start g + fn.frame + 4
      full j = grind (arith, nat_tests)

      more : nat_lt g 31 ≡ true → g < 31
      more j = grind (arith, nat_tests)

      least : nat_lt g 31 ≡ false → 31 ≤ g
      least j = grind (arith, nat_tests)

      cases : (i j : Bool) → nat_le (segment_start g + fn.frame + 4) sp ≡ i → nat_lt g 31 ≡ j → Came r2 st2 y2
      cases true j u v =
          inl (enters_here p laid r.state r.next f args below is_one fits known all own sp ps r2 m st2 (drop r.used p.readings)
          y2 here is g
          stage3 back free (room u))
      cases false true u v =
          inl (enters_above p laid r.state r.next f args below is_one fits known all own sp ps r2 m st2 (drop r.used p.readings)
          y2 here is g
          stage3 back free (full u) (more v))
      cases false false u v =
          let top = stage3.ground.last in
          let l = least v in
          inr (enters_nowhere p laid r.state r.next f args below is_one fits known all own sp ps r2 m st2 (drop r.used
          p.readings) y2 here is g
          stage3 back free r.used refl (full u) (omega arith))

  without : frame_below (top_of r.state) fn.frame ≡ None → Leads (suc k) begin (HasEnded p StackFull r.state r.used)
  without place =
      told k (HasEnded p StackFull r.state r.used) (λ r2 st2 y2 stage3 here is same code.
      elim (comes r2 st2 y2 stage3 here is) [
        | inl i ↦ no_place i.frame (sym place ∙ i.place)
        | inr i ↦ leads_weaker 0 k (at g ps r2 m st2 x y2) (HasEnded p StackFull r.state r.used) (HasEnded p StackFull
            r.state r.used)
            (omega arith) (λ u j. j) i.1
      ])

  -- the mark is the last one
  marks : (frame : ℕ) → frame_below (top_of r.state) fn.frame ≡ Some frame
      → Leads (suc k) begin (MakesMark p (after_enter p f frame r.next r.state) r.used)
  marks frame place =
      told k (MakesMark p (after_enter p f frame r.next r.state) r.used) (λ r2 st2 y2 stage3 here is same code.
      elim (comes r2 st2 y2 stage3 here is) [
        | inl i ↦ subst (λ (a : ℕ). Leads k (at g ps r2 m st2 x y2) (MakesMark p (after_enter p f a r.next r.state) r.used))
            (same_place i.frame frame (sym i.place ∙ place))
            (leads_now k (at g ps r2 m st2 x y2) (MakesMark p (after_enter p f i.frame r.next r.state) r.used) (record {
              next = at i.segment i.pointers i.registers i.m i.settled (outside (r.state.marks + 1) (drop r.used p.readings))
                  i.meter;
              step = i.step;
              running = refl;
              before = refl;
              marks = refl;
              taken = refl;
              matches = matches_by p.core (after_enter p f i.frame r.next r.state) p.code p.low p.high i.segment i.frame
                  i.pointers i.registers
                  i.m i.settled i.all i.own (r.state.marks + 1) (outside (r.state.marks + 1) (drop r.used p.readings)) i.meter
                  Running refl
                  i.stage.no_block i.stage.shape i.stage.facts i.stage.part i.stage.covered;
            }))
        | inr i ↦ no_place frame (sym i.0 ∙ place)
      ])

  turned : (frame : ℕ) → reverse (after_enter p f frame r.next r.state).calls ≡ new_call fn f frame r.next ∷ reverse r.state.calls
  turned frame = reverse-append r.state.calls (new_call fn f frame r.next ∷ [])

  -- the run goes on: the arguments are copied
  goes_on : (frame left : ℕ) → frame_below (top_of r.state) fn.frame ≡ Some frame
      → Leads (suc (suc k)) begin (StandsAt p (At f 1 r.next [] below) (ended frame left))
  goes_on frame left place =
      told (suc k) (StandsAt p (At f 1 r.next [] below) (ended frame left)) (λ r2 st2 y2 stage3 here is same code.
      elim (comes r2 st2 y2 stage3 here is) [
        | inl i ↦ subst (λ (a : ℕ). Leads (suc k) (at g ps r2 m st2 x y2) (StandsAt p (At f 1 r.next [] below) (ended a left)))
            (same_place i.frame frame (sym i.place ∙ place))
            (leads_step k (at g ps r2 m st2 x y2)
            (at i.segment i.pointers i.registers i.m i.settled (outside (r.state.marks + 1) (drop r.used p.readings)) i.meter)
            (StandsAt p (At f 1 r.next [] below) (ended i.frame left)) i.step
            (copied args below r.next (run i.frame left) i.all i.own i.segment i.frame i.pointers i.registers i.m i.settled
            i.meter i.stage i.low
            (subst (HaveScalars (objects_of fn)) (sym (turned i.frame)) (fresh_have r.next (objects_of fn))) count given
            (arguments_held p all own i.all i.own (placed p.core (kept (after_enter p f i.frame r.next r.state))) g i.segment
            (sp + 2) i.frame d args (level f 1 r.next []) below (new_call fn f i.frame r.next)
            (reverse r.state.calls) (i.registers 14) stage3.stacked
            (subst (Stacked p i.all i.own i.segment i.frame (level f 1 r.next [] ∷ below)) (turned i.frame) i.stage.stacked)
            i.held
            (subst (arguments_at p (sp + 2) d below) (sym (i.argument ∙ same)) argument) none_given)
            (subst (λ (a : ℕ). From p f a (copies p.ir fn 0 (take n fn.locals)) (step_at p f 1)) (sym i.pc) code)))
        | inr i ↦ no_place frame (sym i.0 ∙ place)
      ])

  pub enters_follow : Follows p (suc (suc k)) ((enter f fn.frame (objects_of fn) >>= (λ first.
      changed (with_params first (param_kinds fn) args) >> pure (At f 1 first [] below))) r) begin
  unfolding enter mark
  enters_follow = by (frame_below (top_of r.state) fn.frame) refl
    where
      left_of : (frame left : ℕ) → frame_below (top_of r.state) fn.frame ≡ Some frame
          → Follows p (suc (suc k)) (and_then (and_then (mark_by left (record r {
            state = with_call (new_call fn f frame r.next) r.state;
            next = next_after p f r.next;
          }))
          (λ u. pure r.next)) (λ first. changed (with_params first (param_kinds fn) args) >> pure (At f 1 first [] below))) begin
      left_of frame zero place =
          let less : suc k ≡ suc (suc k) - 1 = omega arith in
          subst (λ (j : ℕ). Leads j begin (MakesMark p (after_enter p f frame r.next r.state) r.used)) less (marks frame place)
      left_of frame (suc left) place = goes_on frame left place

      by : (o : Option ℕ) → frame_below (top_of r.state) fn.frame ≡ o
          → Follows p (suc (suc k)) (and_then (and_then (entered f (objects_of fn) o r) (λ first. (λ q. mark_by q.left q) >> pure
          first)) (λ first.
          changed (with_params first (param_kinds fn) args) >> pure (At f 1 first [] below))) begin
      by None place =
          let less : suc k ≡ suc (suc k) - 1 = omega arith in
          subst (λ (j : ℕ). Leads j begin (HasEnded p StackFull r.state r.used)) less (without place)
      by (Some frame) place = left_of frame r.left place

pub enter_does : (p : Setting) (lay : IsLaid p) (laid : FramesLaid p) (n k : ℕ)
    → ((f : ℕ) → HasParameters (function_of p f) n → CopiesArguments p f n k) → DoesEnter p (suc (suc k)) (step.Enter n)
enter_does p lay laid n k copied f d args below node r t typed e known h =
    subst (Follows p (suc (suc k)) (act_enter p.ir p.readings (step.Enter n) f (function_of p f) args below r)) (sym h.is) (from
    h.base h.stage h.point)
  where
    from : (base : ℕ) → Stage p r.state r.next (calling args below) h.all h.own h.segment base h.sp h.pointers h.r h.m h.settled
        → IsAt p (placed p.core (kept r.state)) h.all h.own h.segment base h.sp h.r (Calling f d args below)
        → Follows p (suc (suc k)) (act_enter p.ir p.readings (step.Enter n) f (function_of p f) args below r)
        (at h.segment h.pointers h.r h.m h.settled (outside r.state.marks (drop r.used p.readings)) h.meter)
    from base stage (Entering b back free pc argument present none_given count) =
        enters_follow p lay laid n k f d args below node r e known h.all h.own h.segment h.sp h.pointers h.r h.m h.settled h.meter
        (subst (λ (z : ℕ). Stage p r.state r.next (calling args below) h.all h.own h.segment z h.sp h.pointers h.r h.m h.settled)
        b stage)
        back free pc (subst (λ (z : ℕ). arguments_at p z d below (h.r 14)) b argument) none_given count present (copied f typed)

-- A call returns: to the frame above it in its segment, to the one that the link word names, or, of the outermost, to the end.
use Rattle.std.proofs.Common.{◌≡◌, ℕ, zero, suc, ◌+◌, ◌-◌, ◌%◌, ◌≤◌, refl, sym, ap, ◌∙◌, subst, arith, true, false, ◌&&◌, ◌⊎◌, inl, inr, List, [], ◌∷◌, reverse, drop, Option, Some, None, Ok, Err, Result}
use Rattle.std.proofs.lemmas.Bool.{eq-eqb}
use Rattle.std.proofs.lemmas.Bool.Decides.{nat_tests}
use Rattle.std.specs.Prelude.{nat_eq, pos, slice_get}
use Rattle.base16.specs.Board.{segment_start, segment_top, first_stack_pointer}
use Rattle.base16.specs.declared.end.EndKind.TheVariants.{Done, Wild}
use Rattle.base16.specs.declared.reading.Reading.{Reading}
use Rattle.isa430.specs.declared.instr.TwoOp.TheVariants.{Mov}
use Rattle.isa430.specs.declared.instr.OneOp.TheVariants.{Call}
use Rattle.isa430.specs.declared.instr.Src.TheVariants.{Immediate}
use Rattle.isa430.specs.declared.instr.Dst.TheVariants.{Reg as ToReg}
use Rattle.isa430.specs.declared.instr.Instr.TheVariants.{Two, One}
use Rattle.core430.specs.Registers.{set_reg}
use Rattle.core430.proofs.Truths.{and-both}
use Rattle.run430.specs.Code.{Here}
use Rattle.ideal430.specs.Ideal.{Ideal, Meter, stopped}
use Rattle.ideal430.specs.Settled.{Bytes}
use Rattle.ideal430.specs.declared.state.IdealEnd.TheVariants.{Running, Ended}
use Rattle.c_run.specs.Actions.{kept, left_call, leave, finish}
use Rattle.c_run.specs.Runs.{Run, and_then, pure, mark, mark_by}
use Rattle.c_values.specs.Values.{present}
use Rattle.c_values.specs.declared.state.Call.{Call as CCall}
use Rattle.c_values.specs.declared.state.State.{State}
use Rattle.c_values.specs.declared.value.Value.{Value}
use Rattle.c_values.specs.declared.value.Value.TheVariants.{Int, Pointer, Null, Undefined}
use Rattle.cells430.specs.Cells.{Word, Cells, dropped, unlinked}
use Rattle.cells430.specs.Stretch.{StepsTo, outside, at, Leads}
use Rattle.cells430.proofs.Lift.{leads_now, leads_step}
use Rattle.cells430.proofs.Frames.{leaves, shape_dropped}
use Rattle.cells430.proofs.Segments.{leaves_link, shape_unlinked}
use Rattle.ir.specs.declared.control.Control.TheVariants.{Returning}
use Rattle.ir.specs.declared.control.Frame.{Frame}
use Rattle.ir.specs.declared.control.Temporary.{Temporary}
use Rattle.ir.specs.declared.form.IrFunction.{IrFunction}
use Rattle.ir.specs.declared.form.Operand.{Operand}
use Rattle.ir.specs.declared.form.Step.{Step}
use Rattle.ir.specs.declared.form.StepKind.TheVariants as step
use Rattle.ir.specs.Machine.{left}
use Rattle.matching.specs.Matches.{placed}
use Rattle.select430.specs.Code.{framed, constant}
use Rattle.select430.specs.Frames.{word}
use Rattle.steps430.specs.Setting.{Setting, FrameFits, function_of, or_none, IsLaid}
use Rattle.steps430.specs.Holds.{is_missing, HasCode, value_code, Holds}
use Rattle.steps430.specs.Standing.{ReturnsHere, ReturnsBelow, Stacked, return_to, Stage, Behind, StandsAt}
use Rattle.steps430.specs.Follows.{MakesMark, HasEnded, Follows, DoesStep}
use Rattle.steps430.specs.Calls.{FramesLaid}
use Rattle.steps430.proofs.FramesStay.{frame_top}
use Rattle.steps430.proofs.FramesLeft.{matches_by, IsCut, cut_dropped, cut_unlinked, after_leave, left_fewer, left_covered, left_stage}
use Rattle.steps430.proofs.FramesStay.{value_fewer}
use Rattle.steps430.proofs.Moves.{From, from_do, level}
use Rattle.steps430.proofs.Outcomes.{given_follows, operand_follows, depth_follows}
use Rattle.steps430.proofs.Values.{number_is, brings_number}
use Rattle.steps430.proofs.Operands.{brings_value}
use Rattle.steps430.proofs.Steps.{begins}

-- ---- the frame of a function that has steps

abbrev none : List Step
none = []

no_step : (q : ℕ) (x : Step) → slice_get none q ≡ Some x → ⊥
no_step q x e = cc

pub frame_fits : (p : Setting) → IsLaid p → (f q : ℕ) (x : Step) → slice_get (function_of p f).steps q ≡ Some x
    → FrameFits (function_of p f)
frame_fits p lay f q x e = from (slice_get p.ir.functions f) refl
  where
    from : (o : Option IrFunction) → slice_get p.ir.functions f ≡ o → FrameFits (function_of p f)
    from (Some fn) is = subst (λ (k : Option IrFunction). FrameFits (or_none k)) (sym is) (lay.frames f fn is)
    from None is = absurd (no_step q x (ap (λ (k : Option IrFunction). slice_get (or_none k).steps q) (sym is) ∙ e))

abbrev fine : Value → Result Value ℕ
fine v = Ok v

abbrev failed : ℕ → Result Value ℕ
failed n = Err n

same : (v w : Value) → fine v ≡ fine w → v ≡ w
same v w e = cc

wrong : (w : Value) → failed 11 ≡ fine w → ⊥
wrong w e = cc

-- the call below begins below the top of its segment
pub inner_below : (p : Setting) (all own : Cells) (g sp : ℕ) (b : Frame) (ls : List Frame) (cs : List CCall)
    → Stacked p all own g sp (b ∷ ls) cs → sp + 2 ≤ segment_top g
inner_below p all own g sp b ls [] h = absurd h
inner_below p all own g sp b ls (c ∷ cs) h =
    let top = frame_top p all own g (sp + (function_of p b.function).frame) ls cs h.1 in omega arith

-- a call is left for the one below it
pub record IsLeft (p : Setting) (s : State) (next : ℕ) (ls : List Frame) (pointers r : ℕ → ℕ) (marks : ℕ) (rest : List Reading)
    (t : Ideal) : Type 0 where
  pub all : Cells
  pub own : Cells
  pub segment : ℕ
  pub sp : ℕ
  pub registers : ℕ → ℕ
  pub m : ℕ → ℕ
  pub settled : Bytes
  pub meter : Meter
  pub step : StepsTo t (at segment pointers registers m settled (outside (marks + 1) rest) meter)
  pub stage : Stage p (after_leave s) next ls all own segment sp sp pointers registers m settled
  pub low : segment_start segment + 4 ≤ sp
  pub pc : registers 0 ≡ return_to p ls
  pub result : registers 12 ≡ r 12
  pub value : (v : Value) (w : ℕ) → HasCode (value_code (placed p.core (kept s)) v) w
      → HasCode (value_code (placed p.core (kept (after_leave s))) v) w

module _ (p : Setting) (laid : FramesLaid p) (s : State) (next : ℕ) (l : Frame) (all own : Cells) (sp : ℕ) (ps r m : ℕ
    → ℕ) (st : Bytes)
    (marks : ℕ) (rest : List Reading) (y : Meter) (fits : FrameFits (function_of p l.function))
    (here : Here p.code p.low p.high (r 0) (One Call false (Immediate 65284))) (is : r 15 ≡ (function_of p l.function).frame)
  where
    abbrev end : ℕ
    end = sp + (function_of p l.function).frame

    -- in the same segment
    left_here : (segment : ℕ) (b : Frame) (ls : List Frame) (c : CCall) (cs : List CCall) → reverse s.calls ≡ c ∷ cs
        → Stage p s next (l ∷ b ∷ ls) all own segment sp sp ps r m st → segment_start segment + 4 ≤ sp
        → ReturnsHere all (return_to p (b ∷ ls)) segment end → Stacked p all own segment (end + 2) (b ∷ ls) cs
        → Holds p.ir all (placed p.core (kept s)) (b ∷ ls) cs
        → IsLeft p s next (b ∷ ls) ps r marks rest (at segment ps r m st (outside marks rest) y)
    left_here segment b ls c cs e h low back stack holds =
        let ret : ℕ = return_to p (b ∷ ls) in
        let below = back.below in
        let more = inner_below p all own segment (end + 2) b ls cs stack in
        let last = h.ground.last in
        let outer : (nat_eq segment 0 && nat_eq end 8446) ≡ false = grind (arith, nat_tests) in
        let even = (h.shape.fits end (Word (Some ret)) back.word).0 in
        let come = leaves p.code p.low p.high segment sp ps h.ground all h.shape r m st (outside marks rest) y (function_of p
        l.function).frame end ret
        false h.facts h.words here h.stack is fits.even fits.least fits.most refl below back.no_link outer back.word in
        let all2 : Cells = dropped segment (end + 2) all in
        let own2 : Cells = dropped segment (end + 2) own in
        let cut : IsCut all own all2 own2 segment (end + 2) = cut_dropped all own segment (end + 2) below last h.part in
        record {
          all = all2;
          own = own2;
          segment = segment;
          sp = end + 2;
          registers = _;
          m = come.memory;
          settled = come.settled;
          meter = come.meter;
          step = come.step;
          stage = left_stage p laid s next c cs e h.made all own all2 own2 segment (end + 2) cut l
              (b ∷ ls) segment sp sp ps ps r _
              m come.memory
              st come.settled h stack holds
              (record {
                low = h.ground.low;
                high = h.ground.high;
                base = omega arith;
                top = below;
                last = last;
                even = omega arith;
              })
              (shape_dropped segment sp (end + 2) ps all h.shape) come.facts come.words refl;
          low = omega arith;
          pc = refl;
          result = refl;
          value = value_fewer (placed p.core (kept s)) (placed p.core (kept (after_leave s)))
              (left_fewer p laid s next c cs e h.made all own all2 own2 segment (end + 2) cut);
        }

    -- in the segment below
    left_below : (older a : ℕ) (b : Frame) (ls : List Frame) (c : CCall) (cs : List CCall) → reverse s.calls ≡ c ∷ cs
        → Stage p s next (l ∷ b ∷ ls) all own (older + 1) sp sp ps r m st
        → ReturnsBelow all own (return_to p (b ∷ ls)) (older + 1) end older a → Stacked p all own older (a + 2) (b ∷ ls) cs
        → Holds p.ir all (placed p.core (kept s)) (b ∷ ls) cs
        → IsLeft p s next (b ∷ ls) ps r marks rest (at (older + 1) ps r m st (outside marks rest) y)
    left_below older a b ls c cs e h back stack holds =
        let ret : ℕ = return_to p (b ∷ ls) in
        let low = back.low in
        let high = back.high in
        let last = h.ground.last in
        let even = (h.shape.fits a (Word (Some ret)) back.word).0 in
        let come = leaves_link p.code p.low p.high older sp ps h.ground all h.shape r m st (outside marks rest) y (function_of p
        l.function).frame end a
        ret h.facts h.words here h.stack is fits.even fits.least fits.most refl back.top back.link (omega arith) (omega arith)
        back.word in
        let all2 : Cells = unlinked older (a + 2) all in
        let own2 : Cells = unlinked older (a + 2) own in
        let cut : IsCut all own all2 own2 older (a + 2) = cut_unlinked all own older (a + 2) (omega arith) (omega arith) h.part in
        record {
          all = all2;
          own = own2;
          segment = older;
          sp = a + 2;
          registers = _;
          m = come.memory;
          settled = come.settled;
          meter = come.meter;
          step = come.step;
          stage = left_stage p laid s next c cs e h.made all own all2 own2 older (a + 2) cut l (b ∷ ls)
              (older + 1) sp sp ps ps r _
              m come.memory
              st come.settled h stack holds
              (record {
                low = h.ground.low;
                high = h.ground.high;
                base = omega arith;
                top = omega arith;
                last = omega arith;
                even =
                    omega arith;
              })
              (shape_unlinked older sp (a + 2) ps all (omega arith) h.shape) come.facts come.words refl;
          low = omega arith;
          pc = refl;
          result = refl;
          value = value_fewer (placed p.core (kept s)) (placed p.core (kept (after_leave s)))
              (left_fewer p laid s next c cs e h.made all own all2 own2 older (a + 2) cut);
        }

    pub leaves_call : (segment : ℕ) (b : Frame) (ls : List Frame) → Stage p s next (l ∷ b ∷ ls) all own segment sp sp ps r m st
        → segment_start segment + 4 ≤ sp
        → IsLeft p s next (b ∷ ls) ps r marks rest (at segment ps r m st (outside marks rest) y)
    leaves_call segment b ls h low = from (reverse s.calls) refl h.stacked h.holds
      where
        from : (zs : List CCall) → reverse s.calls ≡ zs → Stacked p all own segment sp (l ∷ b ∷ ls) zs
            → Holds p.ir all (placed p.core (kept s)) (l ∷ b ∷ ls) zs
            → IsLeft p s next (b ∷ ls) ps r marks rest (at segment ps r m st (outside marks rest) y)
        from [] e k j = absurd k
        from (c ∷ cs) e k j = by k.1
          where
            by : ((ReturnsHere all (return_to p (b ∷ ls)) segment end × Stacked p all own segment (end + 2) (b ∷ ls) cs)
                ⊎ ((older : ℕ) × (a : ℕ) × ReturnsBelow all own (return_to p (b ∷ ls)) segment end older a
                × Stacked p all own older (a + 2) (b ∷ ls) cs))
                → IsLeft p s next (b ∷ ls) ps r marks rest (at segment ps r m st (outside marks rest) y)
            by (inl i) = left_here segment b ls c cs e h low i.0 i.1 j.1
            by (inr i) =
                let next_is = i.2.next in
                subst (λ (g : ℕ). IsLeft p s next (b ∷ ls) ps r marks rest (at g ps r m st (outside marks rest) y)) (sym next_is)
                (left_below i.0 i.1 b ls c cs e (subst
                (λ (g : ℕ). Stage p s next (l ∷ b ∷ ls) all own g sp sp ps r m st) next_is h)
                (subst (λ (g : ℕ). ReturnsBelow all own (return_to p (b ∷ ls)) g end i.0 i.1) next_is i.2) i.3 j.1)

-- ---- the end of the run

done_fair : (a : ℕ) → Done ≡ Wild a → ⊥
done_fair a k = cc

module _ (p : Setting) (laid : FramesLaid p) (s : State) (next : ℕ) (l : Frame) (all own : Cells) (sp : ℕ) (ps r m : ℕ
    → ℕ) (st : Bytes)
    (rest : List Reading) (used : ℕ) (y : Meter) (fits : FrameFits (function_of p l.function))
    (here : Here p.code p.low p.high (r 0) (One Call false (Immediate 65284))) (is : r 15 ≡ (function_of p l.function).frame)
  where
    -- the outermost call is left, and the run is over
    pub leaves_last : (segment : ℕ) → Stage p s next (l ∷ []) all own segment sp sp ps r m st → rest ≡ drop used p.readings
        → Leads 0 (at segment ps r m st (outside s.marks rest) y) (HasEnded p Done (after_leave s) used)
    leaves_last segment h readings = from (reverse s.calls) refl h.stacked
      where
        end : ℕ
        end = sp + (function_of p l.function).frame

        ends : (c : CCall) → reverse s.calls ≡ c ∷ [] → ReturnsHere all (return_to p []) segment end → segment ≡ 0
            → end + 2 ≡ first_stack_pointer
            → Leads 0 (at segment ps r m st (outside s.marks rest) y) (HasEnded p Done (after_leave s) used)
        ends c e back zero_is top =
            let below = back.below in
            let last = h.ground.last in
            let at_top : end ≡ 8446 = omega arith in
            let outer : (nat_eq segment 0 && nat_eq end 8446) ≡ true = and-both (eq-eqb segment 0 zero_is)
            (eq-eqb end 8446 at_top)
            in
            let come = leaves p.code p.low p.high segment sp ps h.ground all h.shape r m st (outside s.marks rest) y
            (function_of p l.function).frame end (return_to p [])
            true h.facts h.words here h.stack is fits.even fits.least fits.most refl below back.no_link outer back.word in
            let all2 : Cells = dropped segment (end + 2) all in
            let own2 : Cells = dropped segment (end + 2) own in
            let cut : IsCut all own all2 own2 segment (end + 2) = cut_dropped all own segment (end + 2) below last h.part in
            let covered = left_covered p laid s next c [] e h.made all own all2 own2 segment
            (end + 2) cut segment sp ps tt h.shape
            h.part
            h.covered in
            let r2 : ℕ → ℕ = set_reg (set_reg (set_reg r 0 (r 0 + 4)) 0 (return_to p [])) 1 (end + 2) in
            let u : Ideal = stopped (at segment ps r2 come.memory come.settled (outside (s.marks + 1) rest) come.meter) (Ended
            Done) in
            leads_now 0 (at segment ps r m st (outside s.marks rest) y) (HasEnded p Done (after_leave s) used) (record {
              next = u;
              step = come.step;
              ended = refl;
              marks = refl;
              taken = readings;
              matches = matches_by p.core (after_leave s) p.code p.low p.high segment
                  (end + 2) ps r2 come.memory come.settled all2
                  own2
                  (s.marks + 1) (outside (s.marks + 1) rest) come.meter (Ended Done) refl h.no_block
                  (shape_dropped segment sp (end + 2) ps all h.shape) come.facts cut.part covered;
              fair = done_fair;
              left = λ k. (refl, refl, come.facts.code);
            })

        from : (zs : List CCall) → reverse s.calls ≡ zs → Stacked p all own segment sp (l ∷ []) zs
            → Leads 0 (at segment ps r m st (outside s.marks rest) y) (HasEnded p Done (after_leave s) used)
        from [] e k = absurd k
        from (c ∷ []) e k = by k.1
          where
            by : ((ReturnsHere all (return_to p []) segment end × Stacked p all own segment (end + 2) [] [])
                ⊎ ((older : ℕ) × (a : ℕ) × ReturnsBelow all own (return_to p []) segment end older a
                × Stacked p all own older (a + 2) [] []))
                → Leads 0 (at segment ps r m st (outside s.marks rest) y) (HasEnded p Done (after_leave s) used)
            by (inl i) = ends c e i.0 i.1.0 i.1.1
            by (inr i) =
                let high = i.2.high in
                let zero_is = i.3.0 in
                let top = i.3.1 in
                absurd (let bad : ⊥ = omega arith in bad)
        from (c ∷ (d ∷ cs)) e k = absurd (by k.1)
          where
            by : ((ReturnsHere all (return_to p []) segment end × Stacked p all own segment (end + 2) [] (d ∷ cs))
                ⊎ ((older : ℕ) × (a : ℕ) × ReturnsBelow all own (return_to p []) segment end older a
                × Stacked p all own older (a + 2) [] (d ∷ cs)))
                → ⊥
            by (inl i) = i.1
            by (inr i) = i.3

-- ---- how a step that leaves comes out

module _ (p : Setting) (lay : IsLaid p) (laid : FramesLaid p) where
  -- the machine stands before the code that leaves, with what the call gives in R12
  abbrev pub Ready : (f q first : ℕ) (ts : List Temporary) (ls : List Frame) (r : Run) (all own : Cells) (segment sp : ℕ) (ps : ℕ
      → ℕ)
      (v : Value) (end n : ℕ) → (Ideal → Type 0) → Type 0
  Ready f q first ts ls r all own segment sp ps v end n Q =
      (rr m : ℕ → ℕ) (st : Bytes) (y : Meter) → Stage p r.state r.next (level f q first ts ∷ ls) all own segment sp sp ps rr m st
      → HasCode (value_code (placed p.core (kept r.state)) v) (rr 12) → From p f (rr 0) (framed p.ir (function_of p f) 2) end
      → Leads n (at segment ps rr m st (outside r.state.marks (drop r.used p.readings)) y) Q

  -- R15 gets the bytes of the frame
  told : (n f q first : ℕ) (ts : List Temporary) (ls : List Frame) (r : Run) (all own : Cells) (segment sp : ℕ) (ps : ℕ
      → ℕ) (v : Value)
      (end : ℕ) (Q : Ideal → Type 0) → FrameFits (function_of p f)
      → ((rr m : ℕ → ℕ) (st : Bytes) (y : Meter) → Stage p r.state r.next (level f q first ts ∷ ls) all own segment sp sp ps rr m
      st
      → HasCode (value_code (placed p.core (kept r.state)) v) (rr 12) → Here p.code p.low p.high (rr 0) (One Call false
      (Immediate 65284))
      → rr 15 ≡ (function_of p f).frame
      → Leads n (at segment ps rr m st (outside r.state.marks (drop r.used p.readings)) y) Q)
      → Ready f q first ts ls r all own segment sp ps v end (suc n) Q
  told n f q first ts ls r all own segment sp ps v end Q fits go rr m st y stage code from =
      let bytes : ℕ = (function_of p f).frame in
      let most = fits.most in
      let src = constant (pos (word bytes)) in
      let c = from_do p f (rr 0) (Two Mov false src (ToReg 15)) _ end from in
      let d = from_do p f _ (One Call false (Immediate 65284)) [] end c.1 in
      let is : bytes % 65536 % 65536 ≡ bytes = omega arith in
      brings_number p Q n r.state r.next (level f q first ts ∷ ls) all own segment sp sp ps rr m st
      (outside r.state.marks (drop r.used p.readings)) y src 15 (bytes % 65536 % 65536) stage (number_is (pos (word bytes))) c.0
      (omega arith)
      (λ st2 y2 stage2. go _ m st2 y2 stage2 code d.0 is)

  pub left_follows : (limit f q first : ℕ) (ts : List Temporary) (ls : List Frame) (r : Run) (all own : Cells) (segment sp : ℕ)
      (ps : ℕ → ℕ)
      (v : Value) (end : ℕ) (t : Ideal) → FrameFits (function_of p f) → segment_start segment + 4 ≤ sp
      → ((Q : Ideal → Type 0) → Ready f q first ts ls r all own segment sp ps v end 2 Q → Leads limit t Q)
      → ((Q : Ideal → Type 0) → Ready f q first ts ls r all own segment sp ps v end 1 Q → Leads (limit - 1) t Q)
      → Follows p limit (left v ls r) t
  unfolding left finish leave mark
  left_follows limit f q first ts [] r all own segment sp ps v end t fits low whole short =
      short (HasEnded p Done (after_leave r.state) r.used)
      (told 0 f q first ts [] r all own segment sp ps v end _ fits (λ rr m st y stage code here is.
      leaves_last p laid r.state r.next (level f q first ts) all own sp ps rr m st (drop r.used p.readings) r.used y fits here is
      segment
      stage refl))
  left_follows limit f q first ts (b ∷ ls) r all own segment sp ps v end t fits low whole short = from r.left
    where
      from : (n : ℕ) → Follows p limit (and_then (mark_by n (record r { state = left_call r.state })) (λ u. pure (Returning v (b
          ∷ ls)))) t
      from zero =
          short (MakesMark p (after_leave r.state) r.used)
          (told 0 f q first ts (b ∷ ls) r all own segment sp ps v end _ fits (λ rr m st y stage code here is.
          let k = leaves_call p laid r.state r.next (level f q first ts) all own sp ps rr m st r.state.marks (drop r.used
          p.readings) y fits
          here is segment b ls stage low in
          leads_now 0 _ (MakesMark p (after_leave r.state) r.used) (record {
            next = _;
            step = k.step;
            running = refl;
            before = refl;
            marks = refl;
            taken = refl;
            matches = matches_by p.core (after_leave r.state) p.code p.low p.high k.segment k.sp ps k.registers k.m k.settled
                k.all k.own
                (r.state.marks + 1) (outside (r.state.marks + 1) (drop r.used p.readings)) k.meter Running refl k.stage.no_block
                k.stage.shape k.stage.facts k.stage.part k.stage.covered;
          })))
      from (suc n) =
          let run : Run = record r { state = after_leave r.state; left = n } in
          whole (StandsAt p (Returning v (b ∷ ls)) run)
          (told 1 f q first ts (b ∷ ls) r all own segment sp ps v end _ fits (λ rr m st y stage code here is.
          let k = leaves_call p laid r.state r.next (level f q first ts) all own sp ps rr m st r.state.marks (drop r.used
          p.readings) y fits
          here is segment b ls stage low in
          let u : Ideal = at k.segment ps k.registers k.m k.settled (outside (r.state.marks + 1) (drop r.used p.readings))
          k.meter in
          leads_step 0 _ u (StandsAt p (Returning v (b ∷ ls)) run) k.step
          (leads_now 0 u (StandsAt p (Returning v (b ∷ ls)) run) (record {
            all = k.all;
            own = k.own;
            segment = k.segment;
            base = k.sp;
            sp = k.sp;
            pointers = ps;
            r = k.registers;
            m = k.m;
            settled = k.settled;
            meter = k.meter;
            is = refl;
            stage = k.stage;
            point = Behind refl k.low k.pc (subst (HasCode (value_code (placed p.core (kept (after_leave r.state))) v)) (sym
                k.result)
                (k.value v (rr 12) code));
          }))))

  -- ---- the steps

  pub return_nothing_does : DoesStep p 2 step.ReturnNothing
  return_nothing_does f q first ts ls node r t e h =
      begins p lay 2 _ step.ReturnNothing f q first node ts ls r t e h (λ all own segment sp ps rr m st y stage low stands code.
      left_follows 2 f q first ts ls r all own segment sp ps Undefined _ _ (frame_fits p lay f q _ e) low
      (λ Q go. go rr m st y stage tt code) (λ Q go. go rr m st y stage tt code))

  present_is : (v w : Value) → present v ≡ Ok w → (v ≡ w) × (is_missing v ≡ false)
  present_is (Int z) w e = (same (Int z) w e, refl)
  present_is (Pointer n o) w e = (same (Pointer n o) w e, refl)
  present_is Null w e = (same Null w e, refl)
  present_is Undefined w e = absurd (wrong w e)

  pub return_does : (d : ℕ) (x : Operand) → DoesStep p 3 (step.Return d x)
  return_does d x f q first ts ls node r t e h =
      begins p lay 3 _ (step.Return d x) f q first node ts ls r t e h (λ all own segment sp ps rr m st y stage low stands code.
      operand_follows p 3 _ node first x ts _ r (λ v us g.
      depth_follows p 3 _ d us _ r (λ depth.
      given_follows p 3 _ node (present v) (λ w. left w ls) r (λ w is.
      let k = present_is v w is in
      subst (λ (z : Value). Follows p 3 (left z ls r) (at segment ps rr m st (outside r.state.marks (drop r.used p.readings)) y))
      k.0
      (left_follows 3 f q first ts ls r all own segment sp ps v _ _ (frame_fits p lay f q _ e) low
      (λ Q go. brings_value p lay Q r.state r.next all own segment sp ps rr m st (outside r.state.marks (drop r.used p.readings))
      y f q first
      ls 2 x ts v us d 12 _ (framed p.ir (function_of p f) 2) stage g k.1 depth stands.named code (omega arith)
      (λ c pc st2 y2 has code2 stage2. go _ m st2 y2 stage2 has code2))
      (λ Q go. brings_value p lay Q r.state r.next all own segment sp ps rr m st (outside r.state.marks (drop r.used p.readings))
      y f q first
      ls 1 x ts v us d 12 _ (framed p.ir (function_of p f) 2) stage g k.1 depth stands.named code (omega arith)
      (λ c pc st2 y2 has code2 stage2. go _ m st2 y2 stage2 has code2)))))))

-- A function is called: R14 gets the address of the arguments, which are defined, and the return word is pushed.
use Rattle.std.proofs.Common.{◌≡◌, ◌≢◌, ℕ, zero, suc, ◌+◌, ◌-◌, ◌%◌, ◌<◌, ◌≤◌, refl, sym, ap, ◌∙◌, subst, arith, false, List, [], ◌∷◌, length, reverse, drop, Some, None}
use Rattle.std.specs.Prelude.{pos}
use Rattle.base16.specs.Board.{segment_start}
use Rattle.isa430.specs.declared.instr.TwoOp.TheVariants.{Mov, Add}
use Rattle.isa430.specs.declared.instr.OneOp.TheVariants.{Call}
use Rattle.isa430.specs.declared.instr.Src.{Src}
use Rattle.isa430.specs.declared.instr.Src.TheVariants.{Reg, Immediate, Constant}
use Rattle.isa430.specs.declared.instr.Dst.TheVariants.{Reg as ToReg}
use Rattle.isa430.specs.declared.instr.Instr.TheVariants.{Two, One}
use Rattle.isa430.specs.Table.{size_of}
use Rattle.core430.specs.declared.operand.Place.TheVariants.{InRegister, Given}
use Rattle.core430.specs.Operands.{constant_of}
use Rattle.core430.specs.Registers.{set_reg}
use Rattle.core430.specs.Instructions.{flagged, two_status, two_result}
use Rattle.core430.specs.Uses.{AreWords}
use Rattle.run430.specs.Code.{Here}
use Rattle.run430.proofs.Operands.{in_register, to_register, given, constant as generated}
use Rattle.ideal430.specs.Ideal.{Ideal, Meter}
use Rattle.ideal430.specs.Settled.{Bytes}
use Rattle.c_run.specs.Actions.{kept}
use Rattle.c_run.specs.Runs.{Run, Action}
use Rattle.c_values.specs.Values.{all_present}
use Rattle.c_values.specs.declared.state.State.{State}
use Rattle.c_values.specs.declared.value.Value.{Value}
use Rattle.cells430.specs.Cells.{Cell, Word, Cells, Facts, set_cell}
use Rattle.cells430.specs.Stretch.{Course, outside, at, Leads}
use Rattle.cells430.proofs.Cells.{set_cell-same, set_cell-other, none_below}
use Rattle.cells430.proofs.Lift.{sets, leads_now}
use Rattle.cells430.proofs.Calls.{calls, pushed_shape, then_comes}
use Rattle.core_tree.specs.LawfulCore.{Every}
use Rattle.ir.specs.declared.control.Control.{Control}
use Rattle.ir.specs.declared.control.Control.TheVariants.{Calling}
use Rattle.ir.specs.declared.control.Frame.{Frame}
use Rattle.ir.specs.declared.control.Temporary.{Temporary}
use Rattle.ir.specs.declared.form.IrFunction.{IrFunction}
use Rattle.ir.specs.declared.form.StepKind.TheVariants as step
use Rattle.ir.specs.Machine.{on_args, waiting}
use Rattle.matching.specs.Matches.{Placed as Alive, placed}
use Rattle.select430.specs.declared.part.Part.TheVariants.{Enters}
use Rattle.select430.specs.Code.{constant}
use Rattle.select430.specs.Frames.{temporary_at}
use Rattle.steps430.specs.Setting.{Setting, function_of, IsLaid}
use Rattle.steps430.specs.Holds.{with_args}
use Rattle.steps430.specs.Standing.{Stage, Entering, StandsAt}
use Rattle.steps430.specs.Follows.{Follows, DoesStep}
use Rattle.steps430.specs.Calls.{FramesLaid}
use Rattle.steps430.proofs.FramesStay.{every_all, On, InHere, InOlder, stack_same, CodeStays, holds_stay}
use Rattle.steps430.proofs.FramesLeft.{no_cell}
use Rattle.steps430.proofs.Moves.{From, from_do, level, top_of, stacked_at, holds_at, with_regs}
use Rattle.steps430.proofs.Outcomes.{value_follows, depth_follows, given_follows}
use Rattle.steps430.proofs.Values.{IsNumber, Own, Generated, number_is}
use Rattle.steps430.proofs.Steps.{begins, falls}

-- ---- the arguments

module _ (p : Setting) (limit : ℕ) (t : Ideal) where
  -- the topmost values are the arguments, the last of them on top
  pub args_follow : (n : ℕ) (ts : List Temporary) (taken : List Value) (go : List Value → List Temporary
      → Action Control) (r : Run)
      → ((args : List Value) (us : List Temporary) → with_args taken ts ≡ with_args args us
      → length args ≡ n + length taken → Follows p limit (go args us r) t)
      → Follows p limit (on_args n ts taken go r) t
  unfolding on_args
  args_follow zero ts taken go r more = more taken ts refl (omega arith)
  args_follow (suc n) ts taken go r more =
      value_follows p limit t ts (λ v us. on_args n us (v ∷ taken) go) r
      (λ v us e. args_follow n us (v ∷ taken) go r (λ args ws k c. more args ws (ap (with_args taken) e ∙ k) (omega arith)))

-- ---- R14

module _ (p : Setting) (Q : Ideal → Type 0) (n : ℕ) (s : State) (next : ℕ) (frames : List Frame) (all own : Cells)
    (segment base sp : ℕ) (ps r m : ℕ → ℕ) (st : Bytes) (x : Course) (y : Meter) where
  -- R14 gets the stack pointer
  pub takes_stack : Stage p s next frames all own segment base sp ps r m st
      → Here p.code p.low p.high (r 0) (Two Mov false (Reg 1) (ToReg 14))
      → ((st2 : Bytes) (y2 : Meter) → Stage p s next frames all own segment base sp ps (set_reg (set_reg r 0 (r 0 + 2)) 14 (r 1))
      m st2
      → Leads n (at segment ps (set_reg (set_reg r 0 (r 0 + 2)) 14 (r 1)) m st2 x y2) Q)
      → Leads (suc n) (at segment ps r m st x y) Q
  takes_stack h here more =
      let r2 : ℕ → ℕ = set_reg (set_reg r 0 (r 0 + 2)) 14 (r 1) in
      sets p.code p.low p.high segment sp ps h.ground Q n all h.shape r m st x y Mov false (Reg 1) (ToReg 14) (InRegister 1)
      (InRegister 14)
      r2 h.facts h.words here in_register to_register refl tt tt refl h.stack
      (λ st2 y2 facts wide. more st2 y2 (with_regs p s next all own segment base sp ps frames r m r2 st st2 h.stack wide facts h))

  abbrev added : (size w : ℕ) → (ℕ → ℕ)
  added size w = set_reg (flagged (set_reg r 0 (r 0 + size)) (two_status Add false (r 2) (r 14) w)) 14 (two_result Add false
      false (r 14) w)

  -- and a number more
  pub adds_number : (src : Src) (w : ℕ) → Stage p s next frames all own segment base sp ps r m st → IsNumber src w
      → Here p.code p.low p.high (r 0) (Two Add false src (ToReg 14)) → r 14 + w < 65536
      → ((r2 : ℕ → ℕ) (st2 : Bytes) (y2 : Meter) → r2 0 ≡ r 0 + size_of (Two Add false src (ToReg 14)) → r2 14 ≡ r 14 + w
      → Stage p s next frames all own segment base sp ps r2 m st2 → Leads n (at segment ps r2 m st2 x y2) Q)
      → Leads (suc n) (at segment ps r m st x y) Q
  adds_number src w h Own here small more =
      let sum : two_result Add false false (r 14) w ≡ r 14 + w = omega arith in
      sets p.code p.low p.high segment sp ps h.ground Q n all h.shape r m st x y Add false (Immediate w) (ToReg 14) (Given w)
      (InRegister 14)
      (added 4 w) h.facts h.words here given to_register refl tt tt refl h.stack
      (λ st2 y2 facts wide. more (added 4 w) st2 y2 refl sum
      (with_regs p s next all own segment base sp ps frames r m (added 4 w) st st2 h.stack wide facts h))
  adds_number src v h (Generated g) here small more =
      let w : ℕ = constant_of g in
      let sum : two_result Add false false (r 14) w ≡ r 14 + w = omega arith in
      sets p.code p.low p.high segment sp ps h.ground Q n all h.shape r m st x y Add false (Constant g) (ToReg 14) (Given w)
      (InRegister 14)
      (added 2 w) h.facts h.words here generated to_register refl tt tt refl h.stack
      (λ st2 y2 facts wide. more (added 2 w) st2 y2 refl sum
      (with_regs p s next all own segment base sp ps frames r m (added 2 w) st st2 h.stack wide facts h))

-- ---- the return word

module _ (p : Setting) (s : State) (next f q q2 first : ℕ) (ts : List Temporary) (ls : List Frame) (all own : Cells) (segment sp
    : ℕ)
    (ps r m : ℕ → ℕ) (st : Bytes) (h : Stage p s next (level f q first ts ∷ ls) all own segment sp sp ps r m st)
    (low : segment_start segment + 4 ≤ sp) (w : ℕ) where
  abbrev pub pushed : Cells
  pushed = set_cell all (sp - 2) (Word (Some w))

  pub nothing_there : own (sp - 2) ≡ None
  nothing_there =
      let top = h.ground.top in
      no_cell all own (sp - 2) h.part
      (none_below p.code p.low p.high segment sp ps h.ground.low all h.shape (sp - 2) (omega arith) (omega arith) top
      h.ground.last)

  same_on : (b : ℕ) → On segment sp b → pushed b ≡ all b
  same_on b (InHere k l) =
      let other : b ≢ sp - 2 = omega arith in set_cell-other all (sp - 2) b (Word (Some w)) other
  same_on b (InOlder k l) =
      let other : b ≢ sp - 2 = omega arith in set_cell-other all (sp - 2) b (Word (Some w)) other

  -- the stage at the entry of a function
  pub pushed_stage : (r2 m2 : ℕ → ℕ) (st2 : Bytes) → Facts p.code p.low p.high pushed m2 st2 → AreWords r2 → r2 1 ≡ sp - 2
      → Stage p s next (level f q2 first ts ∷ ls) pushed own segment sp (sp - 2) ps r2 m2 st2
  pushed_stage r2 m2 st2 facts wide is =
      let top = h.ground.top in
      let even = h.ground.even in
      let alive : List Alive = placed p.core (kept s) in
      let none = nothing_there in
      record {
        ground = record {
          low = h.ground.low;
          high = h.ground.high;
          base = omega arith;
          top = omega arith;
          last = h.ground.last;
          even = omega arith;
        };
        shape = pushed_shape p.code p.low p.high segment sp ps h.ground all h.shape (Some w);
        facts = facts;
        words = wide;
        stack = is;
        part = λ b z e. part_at b z e none;
        covered = h.covered;
        made = h.made;
        filled = h.filled;
        whole = h.whole;
        outputs = λ b k j. let other : b ≢ sp - 2 = omega arith in set_cell-other all (sp - 2) b (Word (Some w)) other
            ∙ h.outputs b k j;
        stacked = stack_same p all pushed own own segment sp (level f q2 first ts ∷ ls) (reverse s.calls)
            (λ b k. (same_on b k, λ j. j)) (stacked_at p all own segment sp f q q2 first ts ts ls (reverse s.calls) h.stacked);
        holds = holds_at p pushed alive f q q2 first ts ts ls (reverse s.calls) (λ a k. k)
            (holds_stay alive alive p all own all pushed segment sp (level f q first ts ∷ ls) (reverse s.calls) (λ b k. same_on b
            k)
            (every_all (λ (l : Frame). Every (CodeStays alive alive) l.temporaries) (level f q first ts ∷ ls)
            (λ l. every_all (CodeStays alive alive) l.temporaries (λ t c k. k)))
            h.stacked h.holds);
        no_block = h.no_block;
      }
    where
      differ : (z : Cell) → None ≡ Some z → ⊥
      differ z k = cc

      part_at : (b : ℕ) (z : Cell) → own b ≡ Some z → own (sp - 2) ≡ None → pushed b ≡ Some z
      part_at b z e none =
          let other : b ≢ sp - 2 = λ j. differ z (sym none ∙ ap own (sym j) ∙ e) in
          set_cell-other all (sp - 2) b (Word (Some w)) other ∙ h.part b z e

-- ---- the step

module _ (p : Setting) (lay : IsLaid p) (laid : FramesLaid p) where
  pub call_does : (d g n : ℕ) → DoesStep p 3 (step.Call d g n)
  call_does d g n f q first ts ls node r t e h =
      begins p lay 3 _ (step.Call d g n) f q first node ts ls r t e h (λ all own segment sp ps rr m st y stage low stands code.
      args_follow p 3 _ n ts [] _ r (λ args us same count.
      depth_follows p 3 _ d us _ r (λ depth.
      given_follows p 3 _ node (all_present args) _ r (λ u present.
      let fn : IrFunction = function_of p f in
      let b : Frame = waiting f q first us in
      let Q : Ideal → Type 0 = StandsAt p (Calling g d args (b ∷ ls)) r in
      let x : Course = outside r.state.marks (drop r.used p.readings) in
      let a : ℕ = (p.addresses f).function g in
      let o : ℕ = temporary_at fn d in
      let code2 = falls p lay (step.Call d g n) f q node (rr 0) tt stands code in
      let one = from_do p f (rr 0) (Two Mov false (Reg 1) (ToReg 14)) _ _ code2 in
      let two = from_do p f _ (Two Add false (constant (pos o)) (ToReg 14)) _ _ one.1 in
      let top = top_of p all own (placed p.core (kept r.state)) segment sp f q first ts ls (reverse r.state.calls) stage.stacked
      stage.holds in
      let below = top.below in
      let objects = top.objects in
      let room = stands.room in
      let last = stage.ground.last in
      let is = stage.stack in
      takes_stack p Q 2 r.state r.next (level f q first ts ∷ ls) all own segment sp sp ps rr m st x y stage one.0 (λ st2 y2
      stage2.
      adds_number p Q 1 r.state r.next (level f q first ts ∷ ls) all own segment sp sp ps (set_reg (set_reg rr 0 (rr 0 + 2)) 14
      (rr 1)) m st2 x
      y2 (constant (pos o)) (o % 65536) stage2 (number_is (pos o)) two.0 (omega arith) (λ r3 st3 y3 pc argument stage3.
      let three = called p f g r3 _ _ pc two.1 in
      let w : ℕ = r3 0 + 4 in
      let come = calls p.code p.low p.high segment sp ps stage3.ground all stage3.shape r3 m st3 x y3 a stage3.facts stage3.words
      three.0
      stage3.stack (subst (λ (k : ℕ). k < 65280) (sym (lay.first g f)) (lay.below g 0)) in
      let r4 : ℕ → ℕ = set_reg (set_reg (set_reg r3 0 (r3 0 + 4)) 1 (sp - 2)) 0 a in
      then_comes p.code p.low p.high 0 (at segment ps r3 m st3 x y3) segment ps r4 x (pushed p r.state r.next f q (q + 1) first
      ts ls all own
      segment sp ps r3 m st3 stage3 low w) Q come (λ m4 st4 y4 facts4 wide4.
      leads_now 0 _ Q (record {
        all = pushed p r.state r.next f q (q + 1) first ts ls all own segment sp ps r3 m st3 stage3 low w;
        own = own;
        segment = segment;
        base = sp;
        sp = sp - 2;
        pointers = ps;
        r = r4;
        m = m4;
        settled = st4;
        meter = y4;
        is = refl;
        stage = subst (λ (zs : List Temporary). Stage p r.state r.next (level f (q + 1) first zs ∷ ls)
            (pushed p r.state r.next f q (q + 1) first ts ls all own segment sp ps r3 m st3 stage3 low w) own segment sp (sp - 2)
            ps r4 m4 st4)
            same (pushed_stage p r.state r.next f q (q + 1) first ts ls all own segment sp ps r3 m st3 stage3 low w r4 m4 st4
            facts4 wide4 refl);
        point = Entering (omega arith)
            (set_cell-same all (sp - 2) (sp - 2) (Word (Some w)) refl ∙ ap (λ (k : ℕ). Some (Word (Some k))) three.1)
            (nothing_there p r.state r.next f q (q + 1) first ts ls all own segment sp ps r3 m st3 stage3 low w)
            (lay.first g f) (argument ∙ (let v : rr 1 + o % 65536 ≡ sp + o = omega arith in v)
            ∙ ap (λ (k : ℕ). sp + temporary_at fn k) (sym depth)) present
            (λ k. no_frame b ls k)
            (count ∙ (let z : n + 0 ≡ n = omega arith in z) ∙ laid.counts f q node d g n e);
      }))))))))
    where
      no_frame : {A : Type 0} (b : Frame) (xs : List Frame) → b ∷ xs ≡ [] → A
      no_frame b xs k = absurd (differ k)
        where
          differ : b ∷ xs ≡ [] → ⊥
          differ j = cc

      called : (q : Setting) (f h : ℕ) (r : ℕ → ℕ) (pc end : ℕ) → r 0 ≡ pc → From q f pc (Enters h ∷ []) end
          → Here q.code q.low q.high (r 0) (One Call false (Immediate ((q.addresses f).function h))) × (r 0 + 4 ≡ end)
      called q f h r pc end e k =
          let is = k.size in (
            subst (λ (b : ℕ). Here q.code q.low q.high b (One Call false (Immediate ((q.addresses f).function h)))) (sym e)
                k.code.0,
            omega arith,
          )

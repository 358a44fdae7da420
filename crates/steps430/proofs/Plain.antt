-- Steps without a mark that put, take away or pass on: values as they are, and jumps.
use Rattle.std.proofs.Common.{◌≡◌, ℕ, ◌+◌, ◌*◌, ◌≤◌, refl, subst, arith, false, List, ◌∷◌, ◌++◌, length, drop, max}
use Rattle.isa430.specs.declared.instr.TwoOp.TheVariants.{Mov}
use Rattle.isa430.specs.declared.instr.Src.TheVariants.{Immediate}
use Rattle.isa430.specs.declared.instr.Dst.TheVariants.{Reg as ToReg}
use Rattle.core430.specs.declared.operand.Place.TheVariants.{InRegister, Given}
use Rattle.core430.specs.Registers.{set_reg}
use Rattle.run430.proofs.Operands.{given, to_register}
use Rattle.ideal430.specs.Settled.{Bytes}
use Rattle.c_values.specs.declared.state.State.{State}
use Rattle.c_values.specs.declared.value.Value.{Value}
use Rattle.c_values.specs.declared.value.Value.TheVariants.{Undefined}
use Rattle.cells430.specs.Cells.{Cells}
use Rattle.cells430.specs.Stretch.{outside}
use Rattle.cells430.proofs.Lift.{goes}
use Rattle.ir.specs.declared.control.Temporary.{Temporary}
use Rattle.ir.specs.declared.control.Temporary.TheVariants as temporary
use Rattle.ir.specs.declared.control.Control.TheVariants.{At}
use Rattle.ir.specs.declared.form.IrFunction.{IrFunction}
use Rattle.ir.specs.declared.form.Operand.{Operand}
use Rattle.ir.specs.declared.form.Operand.TheVariants as operand
use Rattle.ir.specs.declared.form.StepKind.TheVariants as step
use Rattle.ir.specs.Machine.{act}
use Rattle.ir.specs.Table.{taken}
use Rattle.select430.specs.Frames.{temporaries_at}
use Rattle.select430.specs.declared.part.Part.{Part}
use Rattle.select430.specs.Code.{bring, keep, put}
use Rattle.steps430.specs.Setting.{Setting, function_of, step_at, IsLaid}
use Rattle.steps430.specs.Holds.{is_missing}
use Rattle.steps430.specs.Standing.{StandsAt, Stage}
use Rattle.steps430.specs.Follows.{DoesStep}
use Rattle.steps430.proofs.Moves.{From, level, with_regs, with_level, without_top}
use Rattle.steps430.proofs.Outcomes.{Gives, OfTop, OfConstant, OfNull, OfScalar, operand_follows, depth_follows, any_follows}
use Rattle.steps430.proofs.Operands.{brings_value}
use Rattle.steps430.proofs.Steps.{begins, falls, stands_now, keeps_last, left_by}

-- ---- room for what a step gives

pub room_of : (base d a b frame : ℕ) → base + 2 * (d + max a b) ≤ frame → 1 ≤ b → base + 2 * d + 2 ≤ frame
room_of base d a b frame h one = let k : b ≤ max a b = omega arith in omega arith

-- how many instructions it takes to put an operand on the stack: the topmost temporary is there already
abbrev pub placing : Operand → ℕ
placing operand.Temporary = 0
placing x = 2

module _ (p : Setting) (lay : IsLaid p) where
  -- a value that is not on the stack yet
  put_value : (d : ℕ) (x : Operand)
      → ((fn : IrFunction) → put p.ir fn x d ≡ bring p.ir fn x d 12 ++ keep p.ir fn d 12)
      → ((s : State) (first : ℕ) (ts : List Temporary) (v : Value) (us : List Temporary) → Gives s first x ts v us
      → is_missing v ≡ false)
      → DoesStep p 2 (step.Put d x)
  put_value d x same there f q first ts ls node r t e h =
      begins p lay 2 _ (step.Put d x) f q first node ts ls r t e h (λ all own segment sp ps rr m st y stage low stands code.
      operand_follows p 2 _ node first x ts _ r (λ v us g.
      depth_follows p 2 _ d us _ r (λ depth.
      let fn : IrFunction = function_of p f in
      let end : ℕ = step_at p f (q + 1) in
      let room = room_of (temporaries_at fn) d (taken x) 1 fn.frame stands.room (omega arith) in
      let c : From p f (rr 0) (bring p.ir fn x d 12 ++ keep p.ir fn d 12) end =
      subst (λ (parts : List Part). From p f (rr 0) parts end) (same fn) (falls p lay (step.Put d x) f q node
      (rr 0) tt stands code) in
      brings_value p lay (StandsAt p (At f (q + 1) first
      (temporary.Value v ∷ us) ls) r) r.state r.next all own segment sp ps rr m st
      (outside r.state.marks (drop r.used p.readings)) y f q first ls 1 x ts v us d 12 end (keep p.ir fn d 12) stage g
      (there r.state first ts v us g) depth stands.named c (omega arith) (λ w pc st2 y2 has code2 stage2.
      keeps_last p lay 0 f q (q + 1) first d 12 w (temporary.Value v) us ls r all own segment sp ps
      (set_reg (set_reg rr 0 pc) 12 w) m st2 y2
      (left_by p r.state r.next all own segment sp sp ps (set_reg (set_reg rr 0 pc) 12 w) m st2 f q first x ts v us ls g stage2)
      low code2 depth room refl has))))

  -- the topmost temporary is there already
  put_top : (d : ℕ) → DoesStep p 0 (step.Put d operand.Temporary)
  put_top d f q first ts ls node r t e h =
      begins p lay 0 _ (step.Put d operand.Temporary) f q first node ts ls r t e h
      (λ all own segment sp ps rr m st y stage low stands code.
      operand_follows p 0 _ node first operand.Temporary ts _ r (λ v us g.
      depth_follows p 0 _ d us _ r (λ depth.
      stands_now p lay 0 f q (q + 1) first ts (temporary.Value v ∷ us) ls r all own segment sp ps rr m st y
      (put_there ts v us g all own segment sp ps rr m st stage) low
      (falls p lay (step.Put d operand.Temporary) f q node (rr 0) tt stands code))))
    where
      put_there : (xs : List Temporary) (v : Value) (us : List Temporary) → Gives r.state first operand.Temporary xs v us
          → (all own : Cells) (segment sp : ℕ) (ps rr m : ℕ → ℕ) (st : Bytes)
          → Stage p r.state r.next (level f q first xs ∷ ls) all own segment sp sp ps rr m st
          → Stage p r.state r.next (level f (q + 1) first (temporary.Value v ∷ us) ∷ ls) all own segment sp sp ps rr m st
      put_there xs v us OfTop all own segment sp ps rr m st stage =
          with_level p r.state r.next all own segment sp sp ps f q (q + 1) first xs xs ls rr m st (λ a k. k) stage

  pub put_does : (d : ℕ) (x : Operand) → DoesStep p (placing x) (step.Put d x)
  put_does d operand.Temporary = put_top d
  put_does d (operand.Constant z) = put_value d (operand.Constant z) (λ fn. refl) there
    where
      there : (s : State) (first : ℕ) (ts : List Temporary) (v : Value) (us : List Temporary)
          → Gives s first (operand.Constant z) ts v us → is_missing v ≡ false
      there s first ts v us (OfConstant n) = refl
  put_does d operand.Null = put_value d operand.Null (λ fn. refl) there
    where
      there : (s : State) (first : ℕ) (ts : List Temporary) (v : Value) (us : List Temporary)
          → Gives s first operand.Null ts v us → is_missing v ≡ false
      there s first ts v us OfNull = refl
  put_does d (operand.Scalar of offset k) = put_value d (operand.Scalar of offset k) (λ fn. refl) there
    where
      there : (s : State) (first : ℕ) (ts : List Temporary) (v : Value) (us : List Temporary)
          → Gives s first (operand.Scalar of offset k) ts v us → is_missing v ≡ false
      there s first ts v us (OfScalar b o n i j) = j

  pub nothing_does : (d : ℕ) → DoesStep p 0 (step.Nothing d)
  nothing_does d f q first ts ls node r t e h =
      begins p lay 0 _ (step.Nothing d) f q first node ts ls r t e h (λ all own segment sp ps rr m st y stage low stands code.
      depth_follows p 0 _ d ts _ r (λ depth.
      let fn : IrFunction = function_of p f in
      let room = room_of (temporaries_at fn) d 0 1 fn.frame stands.room (omega arith) in
      stands_now p lay 0 f q (q + 1) first ts (temporary.Value Undefined ∷ ts) ls r all own segment sp ps rr m st y
      (with_level p r.state r.next all own segment sp sp ps f q (q + 1) first ts (temporary.Value Undefined ∷ ts) ls rr m st
      (λ a k. record { words = k.words; room = omega arith; held = (k.words (length ts) (omega arith), k.held) }) stage)
      low (falls p lay (step.Nothing d) f q node (rr 0) tt stands code)))

  pub drop_does : (d : ℕ) → DoesStep p 0 (step.Drop d)
  drop_does d f q first ts ls node r t e h =
      begins p lay 0 _ (step.Drop d) f q first node ts ls r t e h (λ all own segment sp ps rr m st y stage low stands code.
      any_follows p 0 _ ts _ r (λ u us is.
      depth_follows p 0 _ d us _ r (λ depth.
      stands_now p lay 0 f q (q + 1) first ts us ls r all own segment sp ps rr m st y
      (without_top p r.state r.next all own segment sp sp ps f q (q + 1) first u us ls rr m st
      (subst (λ (xs : List Temporary). Stage p r.state r.next
      (level f q first xs ∷ ls) all own segment sp sp ps rr m st) is stage))
      low (falls p lay (step.Drop d) f q node (rr 0) tt stands code))))

  pub jump_does : (to : ℕ) → DoesStep p 1 (step.Jump to)
  jump_does to f q first ts ls node r t e h =
      begins p lay 1 (act p.ir p.readings node (step.Jump to) f q first ts ls r) (step.Jump to) f q first node ts ls r t e h
      (λ all own segment sp ps rr m st y stage low stands code.
      let a : ℕ = step_at p f to in
      let r2 : ℕ → ℕ = set_reg (set_reg rr 0 (rr 0 + 4)) 0 a in
      goes p.code p.low p.high segment sp ps stage.ground (StandsAt p (At f to first ts ls) r) 0 all stage.shape rr m st
      (outside r.state.marks (drop r.used p.readings)) y Mov false (Immediate a) (ToReg 0) (Given a) (InRegister 0) r2 stage.facts
      stage.words code.code.0 given to_register refl tt tt (lay.below f to) stage.stack
      (λ st2 y2 facts wide.
      stands_now p lay 0 f q to first ts ts ls r all own segment sp ps r2 m st2 y2
      (with_regs p r.state r.next all own segment sp sp ps (level f to first ts ∷ ls) rr m r2 st st2 stage.stack wide facts
      (with_level p r.state r.next all own segment sp sp ps f q to first ts ts ls rr m st (λ b k. k) stage))
      low (record { code = tt; size = (let z : a + 0 ≡ a = omega arith in z); helpers = tt })))

-- Updates: a scalar gets what is computed of it and a value.
use Rattle.std.proofs.Common.{◌≡◌, ◌≢◌, ℕ, suc, ◌+◌, ◌*◌, ◌<◌, ◌≤◌, refl, sym, ◌∙◌, subst, arith, false, List, ◌∷◌, ◌++◌, length, drop, max, Ok}
use Rattle.std.proofs.lemmas.Bool.{eq-eqb, ne_eqb}
use Rattle.base16.specs.Board.{segment_start}
use Rattle.base16.specs.declared.image.Kind.{Kind}
use Rattle.isa430.specs.declared.instr.TwoOp.TheVariants.{Mov}
use Rattle.isa430.specs.declared.instr.Src.TheVariants.{Reg}
use Rattle.isa430.specs.declared.instr.Dst.TheVariants.{Reg as ToReg, Indexed as ToIndexed}
use Rattle.isa430.specs.declared.instr.Instr.TheVariants.{Two}
use Rattle.core430.specs.declared.operand.Place.TheVariants.{InRegister}
use Rattle.core430.specs.Registers.{set_reg}
use Rattle.run430.proofs.Operands.{in_register, to_register}
use Rattle.ideal430.specs.Ideal.{Ideal, Meter}
use Rattle.ideal430.specs.Settled.{Bytes}
use Rattle.c_run.specs.Actions.{kept, load, store}
use Rattle.c_run.specs.Runs.{Run, Outcome, Went, Stopped, Action, ◌>>=◌, and_then, asked}
use Rattle.c_values.specs.Objects.{with_scalar, accessed}
use Rattle.c_values.specs.Pointers.{at as place_at}
use Rattle.c_values.specs.Values.{fitted}
use Rattle.c_values.specs.declared.state.State.{State}
use Rattle.c_values.specs.declared.value.Value.{Value}
use Rattle.cells430.specs.Cells.{Cells}
use Rattle.cells430.specs.Stretch.{Course, outside, at, Leads}
use Rattle.cells430.proofs.Lift.{sets, leads_weaker}
use Rattle.ir.specs.declared.control.Control.{Control}
use Rattle.ir.specs.declared.control.Control.TheVariants.{At}
use Rattle.ir.specs.declared.control.Frame.{Frame}
use Rattle.ir.specs.declared.control.Temporary.{Temporary}
use Rattle.ir.specs.declared.control.Temporary.TheVariants as temporary
use Rattle.ir.specs.declared.form.Base.TheVariants as base
use Rattle.ir.specs.declared.form.IrFunction.{IrFunction}
use Rattle.ir.specs.declared.form.Keep.{Keep}
use Rattle.ir.specs.declared.form.Keep.TheVariants as keeping
use Rattle.ir.specs.declared.form.Operand.{Operand}
use Rattle.ir.specs.declared.form.Operand.TheVariants as operand
use Rattle.ir.specs.declared.form.Operation.{Operation}
use Rattle.ir.specs.declared.form.StepKind.TheVariants as step
use Rattle.ir.specs.Machine.{act, computed, update, kept as left_values}
use Rattle.ir.specs.Table.{taken, left_by as left_of}
use Rattle.matching.specs.Matches.{Placed, placed}
use Rattle.select430.specs.Frames.{temporaries_at, local_at}
use Rattle.select430.specs.declared.part.Part.{Part}
use Rattle.select430.specs.declared.part.Part.TheVariants.{Do}
use Rattle.select430.specs.Code.{is_char, bring, saved, perform, left_register, right_register, kept_update}
use Rattle.steps430.specs.Setting.{Setting, function_of, step_at, IsLaid}
use Rattle.steps430.specs.Holds.{is_missing, HasCode, value_code}
use Rattle.steps430.specs.Standing.{StandsAt, Stage}
use Rattle.steps430.specs.Follows.{Follows, DoesStep}
use Rattle.steps430.proofs.Computing.{Anything, Computes}
use Rattle.steps430.proofs.Finding.{Finds, DoesWhere, where_always}
use Rattle.steps430.proofs.Moves.{From, from_do, level, with_regs, with_level}
use Rattle.steps430.proofs.Operands.{brings_value}
use Rattle.steps430.proofs.Outcomes.{Gives, OfScalar, operand_follows, depth_follows, asked_follows, load_follows}
use Rattle.steps430.proofs.Plain.{room_of}
use Rattle.steps430.proofs.Steps.{begins, falls, stands_now, keeps_last, left_by}
use Rattle.steps430.proofs.Stores.{low, stored_code, code_after, store_follows, writes_local, ForValue, Twelve, ends_stored}

-- ---- what an action of an update comes to

module _ (p : Setting) (limit : ℕ) (t : Ideal) where
  -- actions one after the other
  pub chained : {A B : Type 0} (x : Outcome A) (f : A → Action B) (go : B → Action Control)
      → Follows p limit (and_then x (λ a. f a >>= go)) t → Follows p limit (and_then (and_then x f) go) t
  chained (Went a q) f go h = h
  chained (Stopped s) f go h = h

  pub update_follows : (node n offset : ℕ) (k : Kind) (op : Operation) (v : Value) (go : Value × Value → Action Control) (r : Run)
      → ((before after w : Value) → accessed r.state (place_at n offset) k ≡ Ok before → is_missing before ≡ false
      → computed r.state op before v ≡ Ok after → fitted k after ≡ Ok w
      → Follows p limit (go (w, before) (record r { state = with_scalar n offset w r.state })) t)
      → Follows p limit ((update node (place_at n offset) k op v false >>= go) r) t
  unfolding update
  update_follows node n offset k op v go r more =
      chained (load node (place_at n offset) k r) _ go
      (load_follows p limit t node (place_at n offset) k _ r (λ before e there.
      chained (asked node (λ s. computed s op before v) r) _ go
      (asked_follows p limit t node (λ s. computed s op before v) _ r (λ after is.
      chained (store node (place_at n offset) k after false r) _ go
      (store_follows p limit t node n offset k after _ r (λ old w e2 fit. more before after w e there is fit))))))

-- ---- the value from before

-- how many instructions it takes to save it, and to keep what an update leaves
abbrev pub saving : Keep → ℕ
saving keeping.Before = 1
saving keeps = 0

abbrev pub leaving : Keep → ℕ
leaving keeping.Nothing = 0
leaving keeping.Stored = 2
leaving keeping.Before = 1

-- it stands in a register, if it is kept
abbrev pub SavedIn : Keep → List Placed → Value → (word : ℕ) → Type 0
SavedIn keeping.Before alive b w = HasCode (value_code alive b) w
SavedIn keeps alive b w = Unit {0}

pub saved_after : (p : Setting) (s : State) (n offset : ℕ) (w : Value) (keeps : Keep) (b : Value) (c : ℕ)
    → SavedIn keeps (placed p.core (kept s)) b c → SavedIn keeps (placed p.core (kept (with_scalar n offset w s))) b c
saved_after p s n offset w keeping.Nothing b c h = tt
saved_after p s n offset w keeping.Stored b c h = tt
saved_after p s n offset w keeping.Before b c h = code_after p s n offset w b c h

module _ (p : Setting) (Q : Ideal → Type 0) (j : ℕ) (s : State) (next : ℕ) (frames : List Frame) (all own : Cells)
    (segment base sp : ℕ) (ps r m : ℕ → ℕ) (st : Bytes) (x : Course) (y : Meter) where
  pub saves : (f end i : ℕ) (keeps : Keep) (b : Value) (more : List Part) → 10 < i
      → Stage p s next frames all own segment base sp ps r m st
      → HasCode (value_code (placed p.core (kept s)) b) (r i)
      → From p f (r 0) (saved p.ir (function_of p f) keeps i ++ more) end
      → ((r2 : ℕ → ℕ) (st2 : Bytes) (y2 : Meter) → HasCode (value_code (placed p.core (kept s)) b) (r2 i) → r2 9 ≡ r 9
      → SavedIn keeps (placed p.core (kept s)) b (r2 10)
      → From p f (r2 0) more end → Stage p s next frames all own segment base sp ps r2 m st2
      → Leads j (at segment ps r2 m st2 x y2) Q)
      → Leads (saving keeps + j) (at segment ps r m st x y) Q
  saves f end i keeping.Nothing b more above h has code go =
      leads_weaker j (0 + j) (at segment ps r m st x y) Q Q (omega arith) (λ u z. z) (go r st y has refl tt code h)
  saves f end i keeping.Stored b more above h has code go =
      leads_weaker j (0 + j) (at segment ps r m st x y) Q Q (omega arith) (λ u z. z) (go r st y has refl tt code h)
  saves f end i keeping.Before b more above h has code go =
      let alive : List Placed = placed p.core (kept s) in
      let n0 : i ≢ 0 = omega arith in
      let n10 : i ≢ 10 = omega arith in
      let c = from_do p f (r 0) (Two Mov false (Reg i) (ToReg 10)) more end code in
      let v : ℕ = set_reg r 0 (r 0 + 2) i in
      let same : v ≡ r i = simp (ne_eqb i 0 n0) in
      let r2 : ℕ → ℕ = set_reg (set_reg r 0 (r 0 + 2)) 10 v in
      let stays : r2 i ≡ r i = simp (ne_eqb i 10 n10, ne_eqb i 0 n0) in
      leads_weaker (suc j) (1 + j) (at segment ps r m st x y) Q Q (omega arith) (λ u z. z)
      (sets p.code p.low p.high segment sp ps h.ground Q j all h.shape r m st x y Mov false (Reg i) (ToReg 10) (InRegister i)
      (InRegister 10) r2 h.facts h.words c.0 in_register to_register refl tt tt refl h.stack
      (λ st2 y2 facts wide. go r2 st2 y2 (subst (λ (z : ℕ). HasCode (value_code alive b) z) (sym stays) has) refl
      (subst (λ (z : ℕ). HasCode (value_code alive b) z) (sym same) has) c.1
      (with_regs p s next all own segment base sp ps frames r m r2 st st2 h.stack wide facts h)))

module _ (p : Setting) (lay : IsLaid p) (f q q2 first : ℕ) (ls : List Frame) (r : Run) (all own : Cells) (segment sp : ℕ)
    (ps rr m : ℕ → ℕ) (st : Bytes) (y : Meter) where
  -- what an update leaves
  pub ends_update : (d g : ℕ) (k : Kind) (keeps : Keep) (b w : Value) (us : List Temporary) (c : ℕ) → ForValue g
      → Stage p r.state r.next (level f q first us ∷ ls) all own segment sp sp ps rr m st → segment_start segment + 4 ≤ sp
      → From p f (rr 0) (kept_update p.ir (function_of p f) keeps k d g) (step_at p f q2) → length us ≡ d
      → temporaries_at (function_of p f) + 2 * (d + max c (left_of keeps)) ≤ (function_of p f).frame
      → HasCode (value_code (placed p.core (kept r.state)) w) (low (is_char k) (rr g))
      → SavedIn keeps (placed p.core (kept r.state)) b (rr 10)
      → Leads (leaving keeps) (at segment ps rr m st (outside r.state.marks (drop r.used p.readings)) y)
      (StandsAt p (At f q2 first (left_values keeps w b us) ls) r)
  ends_update d g k keeping.Nothing b w us c is stage start code depth room has before =
      stands_now p lay 0 f q q2 first us us ls r all own segment sp ps rr m st y
      (with_level p r.state r.next all own segment sp sp ps f q q2 first us us ls rr m st (λ a z. z) stage) start code
  ends_update d g k keeping.Stored b w us c is stage start code depth room has before =
      ends_stored p lay f q q2 first ls r all own segment sp ps rr m st y d g k w us is stage start code depth
      (room_of (temporaries_at (function_of p f)) d c 1 (function_of p f).frame room (omega arith)) has
  ends_update d g k keeping.Before b w us c is stage start code depth room has before =
      keeps_last p lay 0 f q q2 first d 10 (rr 10)
      (temporary.Value b) us ls r all own segment sp ps rr m st y stage start code depth
      (room_of (temporaries_at (function_of p f)) d c 1 (function_of p f).frame room (omega arith)) refl before

-- ---- an update of a local

pub saved_same : (keeps : Keep) (alive : List Placed) (b : Value) (a c : ℕ) → a ≡ c → SavedIn keeps alive b c
    → SavedIn keeps alive b a
saved_same keeps alive b a c e h = subst (λ (z : ℕ). SavedIn keeps alive b z) (sym e) h

-- the value of a local and that of an operand are such
abbrev pub FindsLocal : (n offset : ℕ) → Kind → Operand → (State → Value → Value → Type 0) → Finds
FindsLocal n offset k x IsFine s first ts = (before v : Value) (us : List Temporary) → Gives s first x ts v us
    → accessed s (place_at (first + n) offset) k ≡ Ok before → IsFine s before v

module _ (p : Setting) (lay : IsLaid p) where
  pub update_local_if : (cost d n offset : ℕ) (k : Kind) (op : Operation) (x : Operand) (keeps : Keep)
      (IsFine : State → Value → Value → Type 0) → Computes p cost op IsFine
      → DoesWhere p (cost + 3 + (saving keeps + leaving keeps)) (step.UpdateLocal d n offset k op x keeps)
      (FindsLocal n offset k x IsFine)
  unfolding with_scalar
  update_local_if cost d n offset k op x keeps IsFine does f q first ts ls node r t e h finds =
      let limit : ℕ = cost + 3 + (saving keeps + leaving keeps) in
      begins p lay limit (act p.ir p.readings node (step.UpdateLocal d n offset k op x keeps) f q first ts ls r)
      (step.UpdateLocal d n offset k op x keeps) f q first node ts ls r t e h
      (λ all own segment sp ps rr m st y stage start stands code.
      operand_follows p limit _ node first x ts _ r (λ v us g.
      depth_follows p limit _ d us _ r (λ depth.
      update_follows p limit _ node (first + n) offset k op v _ r (λ before after w there is_there is fit.
      let fn : IrFunction = function_of p f in
      let end : ℕ = step_at p f (q + 1) in
      let i : ℕ = left_register op in
      let j : ℕ = right_register op in
      let above_i = does.first in
      let above_j = does.second in
      let n0 : i ≢ 0 = omega arith in
      let n0i : 0 ≢ i = omega arith in
      let n0j : 0 ≢ j = omega arith in
      let n10j : 10 ≢ j = omega arith in
      let r3 : Run = record r { state = with_scalar (first + n) offset w r.state } in
      let Q = StandsAt p (At f (q + 1) first (left_values keeps w before us) ls) r3 in
      let way : Course = outside r.state.marks (drop r.used p.readings) in
      let alive : List Placed = placed p.core (kept r.state) in
      let rest : List Part = kept_update p.ir fn keeps k d 12 in
      let writing : List Part = Do (Two Mov (is_char k) (Reg 12) (ToIndexed 1 (local_at fn n offset))) ∷ rest in
      let value : List Part = bring p.ir fn x d j ++ (perform op ++ writing) in
      let fine = finds before v us g there in
      leads_weaker (suc (saving keeps + suc (cost + suc (leaving keeps)))) limit (at segment ps rr m st way y) Q Q (omega arith)
      (λ u z. z)
      (brings_value p lay Q r.state r.next all own segment sp ps rr m st way y f q first ls
      (saving keeps + suc (cost + suc (leaving keeps)))
      (operand.Scalar (base.Local n) offset k) ts before ts (length ts) i end (saved p.ir fn keeps i ++ value)
      stage (OfScalar (base.Local n) offset k there is_there) is_there refl (stands.named.0, tt)
      (falls p lay (step.UpdateLocal d n offset k op x keeps) f q node (rr 0) tt stands code) (omega arith)
      (λ c pc st1 y1 has1 code2 stage1.
      let r1 : ℕ → ℕ = set_reg (set_reg rr 0 pc) i c in
      let at1 : r1 0 ≡ pc = simp (ne_eqb 0 i n0i) in
      let in1 : r1 i ≡ c = simp (eq-eqb i i refl) in
      saves p Q (suc (cost + suc (leaving keeps))) r.state r.next (level f q first ts ∷ ls) all own segment sp sp ps r1 m st1 way
      y1 f end i keeps before value does.first stage1
      (subst (λ (z : ℕ). HasCode (value_code alive before) z) (sym in1) has1)
      (subst (λ (z : ℕ). From p f z (saved p.ir fn keeps i ++ value) end) (sym at1) code2)
      (λ r2 st2 y2 has2 nine kept2 code3 stage2.
      brings_value p lay Q r.state r.next all own segment sp ps r2 m st2 way y2 f q first ls (cost + suc (leaving keeps)) x ts v
      us d j end (perform op ++ writing) stage2 g (does.there r.state before v after fine is).1 depth stands.named.1 code3
      (omega arith)
      (λ c2 pc2 st3 y3 has3 code4 stage3.
      let r4 : ℕ → ℕ = set_reg (set_reg r2 0 pc2) j c2 in
      let at4 : r4 0 ≡ pc2 = simp (ne_eqb 0 j n0j) in
      let in4 : r4 j ≡ c2 = simp (eq-eqb j j refl) in
      let stays4 : r4 i ≡ r2 i = simp (ne_eqb i j does.apart, ne_eqb i 0 n0) in
      let ten4 : r4 10 ≡ r2 10 = simp (ne_eqb 10 j n10j) in
      does.performs Q (suc (leaving keeps)) r.state r.next
      (level f q first us ∷ ls) all own segment sp sp ps r4 m st3 way y3 f end writing before v after start
      (left_by p r.state r.next all own segment sp sp ps r4 m st3 f q first x ts v us ls g stage3) fine is
      (subst (λ (z : ℕ). HasCode (value_code alive before) z) (sym stays4) has2)
      (subst (λ (z : ℕ). HasCode (value_code alive v) z) (sym in4) has3)
      (subst (λ (z : ℕ). From p f z (perform op ++ writing) end) (sym at4) code4)
      (λ r5 m5 st5 y5 has5 spares code5 stage5.
      writes_local p lay Q (leaving keeps) r.state r.next all own segment sp ps r5 m5 st5 way y5 f q first us ls n offset k before
      after w end rest stage5
      stands.named.0 there fit has5 code5 (λ all2 own2 m6 st6 y6 code6 stage6.
      ends_update p lay f q (q + 1) first ls r3 all2 own2 segment sp ps (set_reg r5 0
      (r5 0 + 4)) m6 st6 y6 d 12 k keeps before w us (taken x)
      Twelve stage6 start code6 depth stands.room
      (code_after p r.state (first + n) offset w w (low (is_char k) (r5 12)) (stored_code alive k after w (r5 12) fit has5).1)
      (saved_after p r.state (first + n) offset w keeps before (r5 10) (saved_same keeps alive before (r5 10)
      (r2 10) (spares.ten ∙ ten4) kept2))))))))))))

  pub update_local_does : (cost d n offset : ℕ) (k : Kind) (op : Operation) (x : Operand) (keeps : Keep)
      → Computes p cost op Anything
      → DoesStep p (cost + 3 + (saving keeps + leaving keeps)) (step.UpdateLocal d n offset k op x keeps)
  update_local_does cost d n offset k op x keeps does =
      where_always p (cost + 3 + (saving keeps + leaving keeps)) (step.UpdateLocal d n offset k op x keeps)
      (FindsLocal n offset k x Anything) (λ s first ts before v us g e. tt)
      (update_local_if cost d n offset k op x keeps Anything does)

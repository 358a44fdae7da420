-- Updates with a mark.
use Rattle.std.proofs.Common.{◌≡◌, ◌≢◌, ℕ, suc, ◌+◌, ◌<◌, refl, sym, ap, ◌∙◌, subst, arith, Bool, true, false, not, List, ◌∷◌, ◌++◌, length, drop, Some, None, Ok}
use Rattle.std.proofs.lemmas.Bool.{eq-eqb, ne_eqb}
use Rattle.base16.specs.declared.image.Kind.{Kind}
use Rattle.isa430.specs.declared.instr.TwoOp.TheVariants.{Mov}
use Rattle.isa430.specs.declared.instr.Src.TheVariants.{Reg, Indirect}
use Rattle.isa430.specs.declared.instr.Dst.TheVariants.{Reg as ToReg}
use Rattle.isa430.specs.declared.instr.Instr.TheVariants.{Two}
use Rattle.isa430.specs.Table.{size_of}
use Rattle.core430.specs.declared.operand.Place.TheVariants.{InRegister, InMemory}
use Rattle.core430.specs.Instructions.{Sets}
use Rattle.core430.specs.Registers.{set_reg}
use Rattle.run430.proofs.Operands.{in_register, to_register, from_pointer, byte_from_pointer}
use Rattle.run430.proofs.Rules.{Source, next as next_regs}
use Rattle.ideal430.specs.Ideal.{Ideal, Meter}
use Rattle.ideal430.specs.Settled.{Bytes}
use Rattle.c_run.specs.Actions.{kept, load, store}
use Rattle.c_run.specs.Runs.{Run, Outcome, Action, ◌>>=◌, asked, pure, counted, mark_by}
use Rattle.c_values.specs.Objects.{with_scalar, accessed}
use Rattle.c_values.specs.Pointers.{at as place_at}
use Rattle.c_values.specs.Values.{fitted}
use Rattle.c_values.specs.declared.state.State.{State}
use Rattle.c_values.specs.declared.value.Location.{Location}
use Rattle.c_values.specs.declared.value.Value.{Value}
use Rattle.cells430.specs.Cells.{Cell, Word, Cells, Shape}
use Rattle.cells430.specs.Stretch.{Course, outside, at, Leads, behind}
use Rattle.cells430.proofs.Cells.{live_below}
use Rattle.cells430.proofs.Lift.{two_given, sets, leads_now, leads_weaker}
use Rattle.ir.specs.declared.control.Control.{Control}
use Rattle.ir.specs.declared.control.Control.TheVariants.{At}
use Rattle.ir.specs.declared.control.Frame.{Frame}
use Rattle.ir.specs.declared.control.Temporary.{Temporary}
use Rattle.ir.specs.declared.control.Temporary.TheVariants as temporary
use Rattle.ir.specs.declared.form.IrFunction.{IrFunction}
use Rattle.ir.specs.declared.form.Keep.{Keep}
use Rattle.ir.specs.declared.form.Operand.{Operand}
use Rattle.ir.specs.declared.form.Operation.{Operation}
use Rattle.ir.specs.declared.form.StepKind.TheVariants as step
use Rattle.ir.specs.declared.form.Target.{Target}
use Rattle.ir.specs.Machine.{act, computed, update, next as next_step, kept as left_values}
use Rattle.ir.specs.Table.{taken, target_taken}
use Rattle.matching.specs.Covering.{cell_by, cell_of}
use Rattle.matching.specs.Matches.{Placed, placed}
use Rattle.select430.specs.declared.part.Part.{Part}
use Rattle.select430.specs.declared.part.Part.TheVariants.{Do}
use Rattle.select430.specs.Code.{is_char, bring, saved, perform, left_register, right_register, service, store_service, kept_update}
use Rattle.steps430.specs.Setting.{Setting, function_of, step_at, IsNamed, target_bases, operand_bases, IsLaid}
use Rattle.steps430.specs.Holds.{is_missing, HasCode, place_code, value_code}
use Rattle.steps430.specs.Standing.{Stage}
use Rattle.steps430.specs.Follows.{Follows, DoesStep}
use Rattle.steps430.proofs.Computing.{Anything, Computes}
use Rattle.steps430.proofs.Finding.{Finds, DoesWhere, where_always}
use Rattle.steps430.proofs.Marked.{behind_mark, marked_follows, IsTarget, OfPlace, OfKnown, target_length, target_follows, Nine, brings_target, bases_left, bases_right, place_address, serves_store}
use Rattle.steps430.proofs.Marks.{follows_after}
use Rattle.steps430.proofs.Moves.{From, from_do, level, with_regs, without_top}
use Rattle.steps430.proofs.Operands.{brings_value}
use Rattle.steps430.proofs.Outcomes.{Gives, operand_follows, depth_follows, asked_follows, load_follows}
use Rattle.steps430.proofs.Reading.{reads}
use Rattle.steps430.proofs.Steps.{begins, falls, left_by}
use Rattle.steps430.proofs.Stores.{low, stored_code, code_after, Thirteen}
use Rattle.steps430.proofs.Updates.{chained, saving, leaving, saved_after, saved_same, saves, ends_update}
use Rattle.steps430.proofs.Values.{brings_cell, narrow_kind}

-- what a marked update comes to
pub update_marked_follows : (p : Setting) (limit : ℕ) (t : Ideal) (node : ℕ) (l : Location) (k : Kind) (op : Operation)
    (v : Value)
    (go : Value × Value → Action Control) (r : Run) → r.state.block ≡ None
    → ((n : ℕ) (before after old w : Value) → l.object ≡ Some n → accessed r.state l k ≡ Ok before → is_missing before ≡ false
    → computed r.state op before v ≡ Ok after → accessed r.state (place_at n l.offset) k ≡ Ok old → fitted k after ≡ Ok w
    → Follows p limit (behind_mark w (λ stored. pure (stored, before) >>= go)
    (mark_by r.left (record r { state = with_scalar n l.offset w r.state }))) t)
    → Follows p limit ((update node l k op v true >>= go) r) t
unfolding update
update_marked_follows p limit t node l k op v go r closed more =
    chained p limit t (load node l k r) _ go
    (load_follows p limit t node l k _ r (λ before e there.
    chained p limit t (asked node (λ s. computed s op before v) r) _ go
    (asked_follows p limit t node (λ s. computed s op before v) _ r (λ after is.
    chained p limit t (store node l k after true r) _ go
    (marked_follows p limit t node l k after _ r closed
    (λ n old w object e2 fit. more n before after old w object e there is e2 fit))))))

-- ---- moves

source_nine : (byte : Bool) (segment sp : ℕ) (ps r : ℕ → ℕ) (all : Cells) (i a w : ℕ) → Shape segment sp ps all → r 9 ≡ a
    → all a ≡ Some (cell_by (not byte) (Some w))
    → Source byte (next_regs (Two Mov byte (Indirect 9) (ToReg i)) r) (Indirect 9) (InMemory a)
source_nine false segment sp ps r all i a w h is cell = from_pointer is (h.fits a (Word (Some w)) cell).0
source_nine true segment sp ps r all i a w h is cell = byte_from_pointer is

effect_nine : (byte : Bool) (r m : ℕ → ℕ) (i w : ℕ) → i ≢ 2 → i ≢ 3
    → two_given Mov byte (Indirect 9) (ToReg i) r m (InRegister i) w
    ≡ Sets (set_reg (set_reg r 0 (r 0 + size_of (Two Mov byte (Indirect 9) (ToReg i)))) i w)
effect_nine false r m i w n2 n3 = simp (ne_eqb i 2 n2, ne_eqb i 3 n3)
effect_nine true r m i w n2 n3 = simp (ne_eqb i 2 n2, ne_eqb i 3 n3)

module _ (p : Setting) (Q : Ideal → Type 0) (j : ℕ) (s : State) (next : ℕ) (frames : List Frame) (all own : Cells)
    (segment base sp : ℕ) (ps r m : ℕ → ℕ) (st : Bytes) (x : Course) (y : Meter) where
  -- the scalar at the place in R9 comes into a register
  reads_nine : (f end i : ℕ) (l : Location) (k : Kind) (v : Value) (more : List Part) → 10 < i
      → Stage p s next frames all own segment base sp ps r m st
      → accessed s l k ≡ Ok v → is_missing v ≡ false → HasCode (place_code (placed p.core (kept s)) l) (r 9)
      → From p f (r 0) (Do (Two Mov (is_char k) (Indirect 9) (ToReg i)) ∷ more) end
      → ((r2 : ℕ → ℕ) (st2 : Bytes) (y2 : Meter) → HasCode (value_code (placed p.core (kept s)) v) (r2 i) → r2 9 ≡ r 9
      → From p f (r2 0) more end → Stage p s next frames all own segment base sp ps r2 m st2
      → Leads j (at segment ps r2 m st2 x y2) Q)
      → Leads (suc j) (at segment ps r m st x y) Q
  reads_nine f end i l k v more above h e there has code go =
      let n2 : i ≢ 2 = omega arith in
      let n3 : i ≢ 3 = omega arith in
      let n0 : 0 ≢ i = omega arith in
      let n9 : 9 ≢ i = omega arith in
      let alive : List Placed = placed p.core (kept s) in
      let rd = reads p.core s own l k v e there h.covered h.filled h.whole in
      let one = rd.3 in
      let a : ℕ = rd.2 + l.offset in
      let cell : all a ≡ Some (cell_by (not (is_char k)) (Some one.word)) =
      h.part a (cell_of k (Some one.word)) one.cell ∙ ap (λ (z : Cell). Some z) (narrow_kind k (Some one.word)) in
      let low = live_below segment sp ps a (h.shape.live a (cell_by (not (is_char k)) (Some one.word)) cell) in
      let is : r 9 ≡ a = place_address alive l rd.0 rd.2 (r 9) rd.1 one.address (omega arith) has in
      let pc : ℕ = r 0 + size_of (Two Mov (is_char k) (Indirect 9) (ToReg i)) in
      let r2 : ℕ → ℕ = set_reg (set_reg r 0 pc) i one.word in
      let at2 : r2 0 ≡ pc = simp (ne_eqb 0 i n0) in
      let in2 : r2 i ≡ one.word = simp (eq-eqb i i refl) in
      let nine : r2 9 ≡ r 9 = simp (ne_eqb 9 i n9) in
      let c = from_do p f (r 0) (Two Mov (is_char k) (Indirect 9) (ToReg i)) more end code in
      brings_cell p Q j s next frames all own segment base sp ps r m st x y (is_char k) (Indirect 9) a i one.word h c.0
      (omega arith)
      (source_nine (is_char k) segment sp ps r all i a one.word h.shape is cell)
      (effect_nine (is_char k) r m i one.word n2 n3) cell
      (λ st2 y2 stage2.
      go r2 st2 y2 (subst (λ (z : ℕ). HasCode (value_code alive v) z) (sym in2) one.code) nine
      (subst (λ (z : ℕ). From p f z more end) (sym at2) c.1) stage2)

  -- the value goes to R13
  gives_value : (f end : ℕ) (more : List Part) → Stage p s next frames all own segment base sp ps r m st
      → From p f (r 0) (Do (Two Mov false (Reg 12) (ToReg 13)) ∷ more) end
      → ((st2 : Bytes) (y2 : Meter) → From p f (r 0 + 2) more end
      → Stage p s next frames all own segment base sp ps (set_reg (set_reg r 0 (r 0 + 2)) 13 (r 12)) m st2
      → Leads j (at segment ps (set_reg (set_reg r 0 (r 0 + 2)) 13 (r 12)) m st2 x y2) Q)
      → Leads (suc j) (at segment ps r m st x y) Q
  gives_value f end more h code go =
      let c = from_do p f (r 0) (Two Mov false (Reg 12) (ToReg 13)) more end code in
      let r2 : ℕ → ℕ = set_reg (set_reg r 0 (r 0 + 2)) 13 (r 12) in
      sets p.code p.low p.high segment sp ps h.ground Q j all h.shape r m st x y Mov false (Reg 12) (ToReg 13) (InRegister 12)
      (InRegister 13) r2 h.facts h.words c.0 in_register to_register refl tt tt refl h.stack
      (λ st2 y2 facts wide. go st2 y2 c.1
      (with_regs p s next all own segment base sp ps frames r m r2 st st2 h.stack wide facts h))

  -- and the address to R14
  gives_address : (f end : ℕ) (more : List Part) → Stage p s next frames all own segment base sp ps r m st
      → From p f (r 0) (Do (Two Mov false (Reg 9) (ToReg 14)) ∷ more) end
      → ((st2 : Bytes) (y2 : Meter) → From p f (r 0 + 2) more end
      → Stage p s next frames all own segment base sp ps (set_reg (set_reg r 0 (r 0 + 2)) 14 (r 9)) m st2
      → Leads j (at segment ps (set_reg (set_reg r 0 (r 0 + 2)) 14 (r 9)) m st2 x y2) Q)
      → Leads (suc j) (at segment ps r m st x y) Q
  gives_address f end more h code go =
      let c = from_do p f (r 0) (Two Mov false (Reg 9) (ToReg 14)) more end code in
      let r2 : ℕ → ℕ = set_reg (set_reg r 0 (r 0 + 2)) 14 (r 9) in
      sets p.code p.low p.high segment sp ps h.ground Q j all h.shape r m st x y Mov false (Reg 9) (ToReg 14) (InRegister 9)
      (InRegister 14) r2 h.facts h.words c.0 in_register to_register refl tt tt refl h.stack
      (λ st2 y2 facts wide. go st2 y2 c.1
      (with_regs p s next all own segment base sp ps frames r m r2 st st2 h.stack wide facts h))

-- ---- the step

-- the temporaries below a target
without_target : (p : Setting) (s : State) (next : ℕ) (all own : Cells) (segment base sp : ℕ) (ps r m : ℕ → ℕ) (st : Bytes)
    (f q first : ℕ) (to : Target) (us ws : List Temporary) (l : Location) (ls : List Frame) → IsTarget first to us l ws
    → Stage p s next (level f q first us ∷ ls) all own segment base sp ps r m st
    → Stage p s next (level f q first ws ∷ ls) all own segment base sp ps r m st
without_target p s next all own segment base sp ps r m st f q first to us ws l ls OfPlace h =
    without_top p s next all own segment base sp ps f q q first (temporary.Place l) ws ls r m st h
without_target p s next all own segment base sp ps r m st f q first to us ws l ls (OfKnown of offset) h = h

-- the value of a scalar that is updated and that of an operand are such
abbrev pub FindsPlace : Target → Kind → Operand → (State → Value → Value → Type 0) → Finds
FindsPlace to k x IsFine s first ts = (before v : Value) (l : Location) (us ws : List Temporary) → Gives s first x ts v us
    → IsTarget first to us l ws → accessed s l k ≡ Ok before → IsFine s before v

module _ (p : Setting) (lay : IsLaid p) where
  pub update_if : (cost d : ℕ) (to : Target) (k : Kind) (op : Operation) (x : Operand) (keeps : Keep)
      (IsFine : State → Value → Value → Type 0) → Computes p cost op IsFine
      → DoesWhere p (cost + 6 + saving keeps + suc (leaving keeps)) (step.Update d to k op x keeps) (FindsPlace to k x IsFine)
  unfolding with_scalar
  update_if cost d to k op x keeps IsFine does f q first ts ls node r t e h finds =
      let limit : ℕ = cost + 6 + saving keeps + suc (leaving keeps) in
      begins p lay limit (act p.ir p.readings node (step.Update d to k op x keeps) f q first ts ls r)
      (step.Update d to k op x keeps) f q first node ts ls r t e h (λ all own segment sp ps rr m st y stage start stands code.
      operand_follows p limit _ node first x ts _ r (λ v us g.
      target_follows p limit _ first to us _ r (λ l ws aim.
      depth_follows p limit _ d ws _ r (λ depth.
      update_marked_follows p limit _ node l k op v _ r stage.no_block
      (λ n before after old w object there is_there is found fit.
      let fn : IrFunction = function_of p f in
      let end : ℕ = step_at p f (q + 1) in
      let i : ℕ = left_register op in
      let j : ℕ = right_register op in
      let above_i = does.first in
      let above_j = does.second in
      let n0 : i ≢ 0 = omega arith in
      let n0j : 0 ≢ j = omega arith in
      let n9j : 9 ≢ j = omega arith in
      let n10j : 10 ≢ j = omega arith in
      let way : Course = outside r.state.marks (drop r.used p.readings) in
      let alive : List Placed = placed p.core (kept r.state) in
      let go : Value × Value → Action Control = λ z. next_step f q first ls (left_values keeps z.0 z.1 ws) in
      let o : Value → Action Control = λ stored. pure (stored, before) >>= go in
      let s2 : State = with_scalar n l.offset w r.state in
      let O : Outcome Control = behind_mark w o (mark_by r.left (record r { state = s2 })) in
      let Q : Ideal → Type 0 = λ u. (u.marks ≡ r.state.marks) × Follows p (suc (leaving keeps)) O u in
      let c : Control = At f (q + 1) first (left_values keeps w before ws) ls in
      let top : ℕ = d + target_taken to in
      let deep : length us ≡ top = target_length first to us l ws aim ∙ ap (λ (i : ℕ). i + target_taken to) depth in
      let rest : List Part = kept_update p.ir fn keeps k d 13 in
      let storing : List Part = Do (Two Mov false (Reg 12) (ToReg 13)) ∷ Do (Two Mov false (Reg 9) (ToReg 14))
      ∷ service (store_service k) ∷ rest in
      let value : List Part = bring p.ir fn x top j ++ (perform op ++ storing) in
      let fine = finds before v l us ws g aim there in
      follows_after p (cost + 6 + saving keeps) (leaving keeps) O (at segment ps rr m st way y)
      (leads_weaker (suc (suc (suc (saving keeps + suc (cost + 2))))) (cost + 6 + saving keeps) (at segment ps rr m st way y) Q Q
      (omega arith) (λ u z. z)
      (brings_target p lay Q r.state r.next all own segment sp ps rr m st way y f q first ls
      (suc (saving keeps + suc (cost + 2))) 9 d end to us ws l
      (Do (Two Mov (is_char k) (Indirect 9) (ToReg i)) ∷ (saved p.ir fn keeps i ++ value)) Nine
      (left_by p r.state r.next all own segment sp sp ps rr m st f q first x ts v us ls g stage) aim depth
      (bases_left (IsNamed p.core fn) (target_bases to) (operand_bases x) stands.named)
      (falls p lay (step.Update d to k op x keeps) f q node (rr 0) tt stands code) (λ r1 st1 y1 has_place code2 stage1.
      reads_nine p Q (saving keeps + suc (cost + 2)) r.state r.next
      (level f q first us ∷ ls) all own segment sp sp ps r1 m st1 way y1 f end i l k before
      (saved p.ir fn keeps i ++ value) does.first stage1 there is_there has_place code2
      (λ r2 st2 y2 has_before nine2 code3 stage2.
      saves p Q (suc (cost + 2)) r.state r.next
      (level f q first us ∷ ls) all own segment sp sp ps r2 m st2 way y2 f end i keeps before value
      does.first stage2 has_before code3 (λ r3 st3 y3 has_before3 nine3 kept3 code4 stage3.
      brings_value p lay Q r.state r.next all own segment sp ps r3 m st3 way y3 f q first ls (cost + 2) x ts v us top j end
      (perform op ++ storing)
      (with_regs p r.state r.next all own segment sp sp ps
      (level f q first ts ∷ ls) rr m r3 st st3 stage3.stack stage3.words stage3.facts stage)
      g (does.there r.state before v after fine is).1 deep (bases_right (IsNamed p.core fn) (target_bases to)
      (operand_bases x) stands.named)
      code4 (omega arith) (λ z pc st4 y4 has4 code5 stage4.
      let r4 : ℕ → ℕ = set_reg (set_reg r3 0 pc) j z in
      let at4 : r4 0 ≡ pc = simp (ne_eqb 0 j n0j) in
      let in4 : r4 j ≡ z = simp (eq-eqb j j refl) in
      let stays4 : r4 i ≡ r3 i = simp (ne_eqb i j does.apart, ne_eqb i 0 n0) in
      let nine4 : r4 9 ≡ r3 9 = simp (ne_eqb 9 j n9j) in
      let ten4 : r4 10 ≡ r3 10 = simp (ne_eqb 10 j n10j) in
      does.performs Q 2 r.state r.next
      (level f q first us ∷ ls) all own segment sp sp ps r4 m st4 way y4 f end storing before v after start
      (left_by p r.state r.next all own segment sp sp ps r4 m st4 f q first x ts v us ls g stage4) fine is
      (subst (λ (i : ℕ). HasCode (value_code alive before) i) (sym stays4) has_before3)
      (subst (λ (i : ℕ). HasCode (value_code alive v) i) (sym in4) has4)
      (subst (λ (i : ℕ). From p f i (perform op ++ storing) end) (sym at4) code5)
      (λ r5 m5 st5 y5 has5 spares code6 stage5.
      gives_value p Q 1 r.state r.next (level f q first us ∷ ls) all own segment sp sp ps r5 m5 st5 way y5 f end
      (Do (Two Mov false (Reg 9) (ToReg 14)) ∷ service (store_service k) ∷ rest) stage5 code6 (λ st6 y6 code7 stage6.
      let r6 : ℕ → ℕ = set_reg (set_reg r5 0 (r5 0 + 2)) 13 (r5 12) in
      gives_address p Q 0 r.state r.next (level f q first us ∷ ls) all own segment sp sp ps r6 m5 st6 way y6 f end
      (service (store_service k) ∷ rest) stage6 code7 (λ st7 y7 code8 stage7.
      let r7 : ℕ → ℕ = set_reg (set_reg r6 0 (r6 0 + 2)) 14 (r6 9) in
      leads_now 0 (at segment ps r7 m5 st7 way y7) Q (
        refl,
        serves_store p lay f q first ls us r all own segment sp ps r7 m5 st7 y7 (leaving keeps) l n k old after w
            (behind_mark w o) c rest end stage7 object
            found fit (subst (λ (i : ℕ). HasCode (place_code alive l) i) (sym (spares.nine ∙ nine4 ∙ nine3
            ∙ nine2)) has_place) has5 code8 (λ i. refl) (λ i. refl)
            (λ budget all2 own2 m8 st8 y8 code9 stage8.
            ends_update p lay f q (q + 1) first ls (record r { state = counted s2; left = budget }) all2 own2 segment sp ps
            (behind r7) m8 st8 y8
            d 13 k keeps before w ws (target_taken to + taken x) Thirteen
            (without_target p (counted s2) r.next all2 own2 segment sp sp ps
            (behind r7) m8 st8 f q first to us ws l ls aim stage8) start code9 depth
            stands.room
            (code_after p r.state n l.offset w w (low (is_char k) (r5 12)) (stored_code alive k after w (r5 12) fit has5).1)
            (saved_after p r.state n l.offset w keeps before (r5 10) (saved_same keeps alive before (r5 10)
            (r3 10) (spares.ten ∙ ten4) kept3))),
      )))))))))))))))

  pub update_does : (cost d : ℕ) (to : Target) (k : Kind) (op : Operation) (x : Operand) (keeps : Keep)
      → Computes p cost op Anything
      → DoesStep p (cost + 6 + saving keeps + suc (leaving keeps)) (step.Update d to k op x keeps)
  update_does cost d to k op x keeps does =
      where_always p (cost + 6 + saving keeps + suc (leaving keeps)) (step.Update d to k op x keeps)
      (FindsPlace to k x Anything) (λ s first ts before v l us ws g aim e. tt)
      (update_if cost d to k op x keeps Anything does)

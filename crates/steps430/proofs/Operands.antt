-- An operand comes into a register, whatever it is.
use Rattle.std.proofs.Common.{◌≡◌, ◌≢◌, ℕ, suc, ◌+◌, ◌*◌, ◌%◌, ◌<◌, ◌≤◌, refl, sym, ap, ◌∙◌, subst, arith, Bool, true, false, not, List, ◌∷◌, ◌++◌, length, reverse, Some}
use Rattle.std.proofs.lemmas.Bool.{ne_eqb}
use Rattle.std.specs.Prelude.{pos, Ok}
use Rattle.base16.specs.Integer.{wrapped}
use Rattle.base16.specs.declared.image.Kind.{Kind}
use Rattle.isa430.specs.declared.instr.TwoOp.TheVariants.{Mov}
use Rattle.isa430.specs.declared.instr.Src.TheVariants.{Indexed, Absolute}
use Rattle.isa430.specs.declared.instr.Dst.TheVariants.{Reg as ToReg}
use Rattle.isa430.specs.declared.instr.Instr.TheVariants.{Two}
use Rattle.isa430.specs.Table.{size_of}
use Rattle.core430.specs.declared.operand.Place.TheVariants.{InRegister, InMemory}
use Rattle.core430.specs.Registers.{set_reg}
use Rattle.core430.specs.Instructions.{Sets}
use Rattle.run430.proofs.Rules.{Source, next as next_regs}
use Rattle.run430.proofs.Operands.{from_at, byte_from_at, from_address, byte_from_address}
use Rattle.ideal430.specs.Ideal.{Ideal, Meter}
use Rattle.ideal430.specs.Settled.{Bytes}
use Rattle.c_run.specs.Actions.{kept}
use Rattle.c_values.specs.Objects.{accessed}
use Rattle.c_values.specs.declared.state.State.{State}
use Rattle.c_values.specs.declared.value.Value.{Value}
use Rattle.cells430.specs.Cells.{Cell, Word, Cells, Shape}
use Rattle.cells430.specs.Stretch.{Course, at, Leads}
use Rattle.cells430.proofs.Cells.{live_below}
use Rattle.cells430.proofs.Lift.{two_given}
use Rattle.core_tree.specs.LawfulCore.{Every}
use Rattle.ir.specs.declared.control.Temporary.{Temporary}
use Rattle.ir.specs.declared.control.Temporary.TheVariants as temporary
use Rattle.ir.specs.declared.control.Frame.{Frame}
use Rattle.ir.specs.declared.form.Base.{Base}
use Rattle.ir.specs.declared.form.Base.TheVariants as base
use Rattle.ir.specs.declared.form.IrFunction.{IrFunction}
use Rattle.ir.specs.declared.form.Operand.{Operand}
use Rattle.ir.specs.Machine.{known}
use Rattle.matching.specs.Covering.{cell_by, cell_of}
use Rattle.matching.specs.Matches.{Placed as Alive, placed, address_of}
use Rattle.select430.specs.Frames.{temporaries_at, temporary_at, local_at, global_at}
use Rattle.select430.specs.declared.part.Part.{Part}
use Rattle.select430.specs.declared.part.Part.TheVariants.{Do}
use Rattle.select430.specs.Code.{constant, is_char, scalar, read, bring}
use Rattle.steps430.specs.Setting.{Setting, function_of, IsNamed, operand_bases, IsLaid}
use Rattle.steps430.specs.Holds.{is_missing, is_defined, HasCode, value_code, temporary_code, IsHeld}
use Rattle.steps430.specs.Standing.{Stage}
use Rattle.steps430.proofs.Moves.{From, from_do, level, top_of, brings_word}
use Rattle.steps430.proofs.Outcomes.{Gives, OfTop, OfConstant, OfNull, OfScalar}
use Rattle.steps430.proofs.Reading.{reads, same_address, local_stands, global_stands}
use Rattle.steps430.proofs.Values.{number_is, brings_number, brings_cell, narrow_kind}

-- ---- where a scalar is read

even_cell : (segment sp : ℕ) (ps : ℕ → ℕ) (all : Cells) (a w : ℕ) → Shape segment sp ps all → all a ≡ Some (cell_by true (Some w))
    → a % 2 ≡ 0
even_cell segment sp ps all a w h cell = (h.fits a (Word (Some w)) cell).0

source_at : (byte : Bool) (segment sp : ℕ) (ps r : ℕ → ℕ) (all : Cells) (o a w k : ℕ) → Shape segment sp ps all → r 1 ≡ sp
    → sp + o ≡ a
    → a < 65536 → all a ≡ Some (cell_by (not byte) (Some w))
    → Source byte (next_regs (Two Mov byte (Indexed 1 o) (ToReg k)) r) (Indexed 1 o) (InMemory a)
source_at false segment sp ps r all o a w k h stack is low cell =
    let even = even_cell segment sp ps all a w h cell in
    subst (λ (b : ℕ). Source false (next_regs (Two Mov false (Indexed 1 o) (ToReg k)) r) (Indexed 1 o) (InMemory b)) is
    (from_at stack (omega arith) (omega arith))
source_at true segment sp ps r all o a w k h stack is low cell =
    subst (λ (b : ℕ). Source true (next_regs (Two Mov true (Indexed 1 o) (ToReg k)) r) (Indexed 1 o) (InMemory b)) is
    (byte_from_at stack (omega arith))

effect_at : (byte : Bool) (r m : ℕ → ℕ) (o w k : ℕ) → k ≢ 2 → k ≢ 3
    → two_given Mov byte (Indexed 1 o) (ToReg k) r m (InRegister k) w
    ≡ Sets (set_reg (set_reg r 0 (r 0 + size_of (Two Mov byte (Indexed 1 o) (ToReg k)))) k w)
effect_at false r m o w k n2 n3 = simp (ne_eqb k 2 n2, ne_eqb k 3 n3)
effect_at true r m o w k n2 n3 = simp (ne_eqb k 2 n2, ne_eqb k 3 n3)

source_of : (byte : Bool) (segment sp : ℕ) (ps r : ℕ → ℕ) (all : Cells) (g a w k : ℕ) → Shape segment sp ps all → g ≡ a
    → all a ≡ Some (cell_by (not byte) (Some w))
    → Source byte (next_regs (Two Mov byte (Absolute g) (ToReg k)) r) (Absolute g) (InMemory a)
source_of false segment sp ps r all g a w k h is cell =
    let even = even_cell segment sp ps all a w h cell in
    subst (λ (b : ℕ). Source false (next_regs (Two Mov false (Absolute g) (ToReg k)) r) (Absolute g) (InMemory b)) is
    (from_address (omega arith))
source_of true segment sp ps r all g a w k h is cell =
    subst (λ (b : ℕ). Source true (next_regs (Two Mov true (Absolute g) (ToReg k)) r) (Absolute g)
    (InMemory b)) is byte_from_address

effect_of : (byte : Bool) (r m : ℕ → ℕ) (g w k : ℕ) → k ≢ 2 → k ≢ 3
    → two_given Mov byte (Absolute g) (ToReg k) r m (InRegister k) w
    ≡ Sets (set_reg (set_reg r 0 (r 0 + size_of (Two Mov byte (Absolute g) (ToReg k)))) k w)
effect_of false r m g w k n2 n3 = simp (ne_eqb k 2 n2, ne_eqb k 3 n3)
effect_of true r m g w k n2 n3 = simp (ne_eqb k 2 n2, ne_eqb k 3 n3)

-- ---- operands

module _ (p : Setting) (lay : IsLaid p) (Q : Ideal → Type 0) (s : State) (next : ℕ) (all own : Cells) (segment sp : ℕ)
    (ps r m : ℕ → ℕ) (st : Bytes) (x : Course) (y : Meter) (f q first : ℕ) (ls : List Frame) where
  -- what comes then, where a register has a value
  abbrev pub Then : (n k : ℕ) → (ts : List Temporary) → Value → List Part → (end : ℕ) → Type 0
  Then n k ts v more end =
      (w pc : ℕ) (st2 : Bytes) (y2 : Meter) → HasCode (value_code (placed p.core (kept s)) v) w → From p f pc more end
      → Stage p s next (level f q first ts ∷ ls) all own segment sp sp ps (set_reg (set_reg r 0 pc) k w) m st2
      → Leads n (at segment ps (set_reg (set_reg r 0 pc) k w) m st2 x y2) Q

  brings_scalar : (n : ℕ) (ts : List Temporary) (of : Base) (offset : ℕ) (kd : Kind) (v : Value) (k end : ℕ) (more : List Part)
      → Stage p s next (level f q first ts ∷ ls) all own segment sp sp ps r m st
      → accessed s (known first of offset) kd ≡ Ok v → is_missing v ≡ false → IsNamed p.core (function_of p f) of
      → From p f (r 0) (read kd (scalar p.ir (function_of p f) of offset) k ∷ more) end → 4 ≤ k
      → Then n k ts v more end → Leads (suc n) (at segment ps r m st x y) Q
  brings_scalar n ts (base.Local i) offset kd v k end more h e defined few code four go =
      let fn : IrFunction = function_of p f in
      let o : ℕ = local_at fn i offset in
      let rd = reads p.core s own (known first (base.Local i) offset) kd v e defined h.covered h.filled h.whole in
      let al = lay.alone next s (first + i) offset kd v h.made e in
      let number : first + i ≡ rd.0 = same_address (first + i) rd.0 rd.1 in
      let one = rd.3 in
      let same : al.address ≡ rd.2 = same_address al.address rd.2
      (sym al.is ∙ ap (λ (j : ℕ). address_of (placed p.core (kept s)) j) number ∙ one.address) in
      let base = local_stands p lay s all own segment sp f q first i ts ls al.address offset kd
      (reverse s.calls) refl h.stacked few al.apart in
      let cell : all (rd.2 + offset) ≡ Some (cell_by (not (is_char kd)) (Some one.word)) =
      h.part (rd.2 + offset) (cell_of kd (Some one.word)) one.cell ∙ ap (λ (z : Cell). Some z) (narrow_kind kd (Some one.word)) in
      let low = live_below segment sp ps (rd.2 + offset) (h.shape.live (rd.2 + offset) (cell_by (not (is_char kd))
      (Some one.word)) cell) in
      let is : sp + o ≡ rd.2 + offset = omega arith in
      let d = from_do p f (r 0) (Two Mov (is_char kd) (Indexed 1 o) (ToReg k)) more end code in
      let n2 : k ≢ 2 = omega arith in
      let n3 : k ≢ 3 = omega arith in
      brings_cell p Q n s next (level f q first ts ∷ ls) all own segment sp sp ps r m st x y (is_char kd) (Indexed 1 o)
      (rd.2 + offset) k
      one.word h d.0 four
      (source_at (is_char kd) segment sp ps r all o (rd.2 + offset) one.word k h.shape h.stack is (omega arith) cell)
      (effect_at (is_char kd) r m o one.word k n2 n3) cell
      (λ st2 y2 t. go one.word (r 0 + size_of (Two Mov (is_char kd) (Indexed 1 o) (ToReg k))) st2 y2 one.code d.1 t)
  brings_scalar n ts (base.Global i) offset kd v k end more h e defined few code four go =
      let g : ℕ = global_at p.ir i offset in
      let rd = reads p.core s own (known first (base.Global i) offset) kd v e defined h.covered h.filled h.whole in
      let al = lay.alone next s i offset kd v h.made e in
      let number : i ≡ rd.0 = same_address i rd.0 rd.1 in
      let one = rd.3 in
      let same : al.address ≡ rd.2 = same_address al.address rd.2
      (sym al.is ∙ ap (λ (j : ℕ). address_of (placed p.core (kept s)) j) number ∙ one.address) in
      let base = global_stands p lay s next i al.address offset kd h.made few al.apart in
      let cell : all (rd.2 + offset) ≡ Some (cell_by (not (is_char kd)) (Some one.word)) =
      h.part (rd.2 + offset) (cell_of kd (Some one.word)) one.cell ∙ ap (λ (z : Cell). Some z) (narrow_kind kd (Some one.word)) in
      let low = live_below segment sp ps (rd.2 + offset) (h.shape.live (rd.2 + offset) (cell_by (not (is_char kd))
      (Some one.word)) cell) in
      let is : g ≡ rd.2 + offset = omega arith in
      let d = from_do p f (r 0) (Two Mov (is_char kd) (Absolute g) (ToReg k)) more end code in
      let n2 : k ≢ 2 = omega arith in
      let n3 : k ≢ 3 = omega arith in
      brings_cell p Q n s next (level f q first ts ∷ ls) all own segment sp sp ps r m st x y (is_char kd) (Absolute g)
      (rd.2 + offset) k
      one.word h d.0 four
      (source_of (is_char kd) segment sp ps r all g (rd.2 + offset) one.word k h.shape is cell)
      (effect_of (is_char kd) r m g one.word k n2 n3) cell
      (λ st2 y2 t. go one.word (r 0 + size_of (Two Mov (is_char kd) (Absolute g) (ToReg k))) st2 y2 one.code d.1 t)

  -- the temporary on top
  pub brings_top : (n : ℕ) (t : Temporary) (us : List Temporary) (d k end : ℕ) (more : List Part)
      → Stage p s next (level f q first (t ∷ us) ∷ ls) all own segment sp sp ps r m st → is_defined t ≡ true → length us ≡ d
      → From p f (r 0) (Do (Two Mov false (Indexed 1 (temporary_at (function_of p f) d)) (ToReg k)) ∷ more) end → 4 ≤ k
      → ((w pc : ℕ) (st2 : Bytes) (y2 : Meter) → HasCode (temporary_code (placed p.core (kept s)) t) w → From p f pc more end
      → Stage p s next (level f q first (t ∷ us) ∷ ls) all own segment sp sp ps (set_reg (set_reg r 0 pc) k w) m st2
      → Leads n (at segment ps (set_reg (set_reg r 0 pc) k w) m st2 x y2) Q)
      → Leads (suc n) (at segment ps r m st x y) Q
  brings_top n t us d k end more h defined depth code four go =
      let fn : IrFunction = function_of p f in
      let alive : List Alive = placed p.core (kept s) in
      let o : ℕ = temporary_at fn d in
      let a : ℕ = sp + temporaries_at fn + 2 * length us in
      let top = top_of p all own alive segment sp f q first (t ∷ us) ls (reverse s.calls) h.stacked h.holds in
      let held : IsHeld all a true (temporary_code alive t) =
      subst (λ (b : Bool). IsHeld all a b (temporary_code alive t)) defined top.holds.held.0 in
      let below = top.below in
      let last = h.ground.last in
      let room = top.holds.room in
      let is : sp + o ≡ a = omega arith in
      let c = from_do p f (r 0) (Two Mov false (Indexed 1 o) (ToReg k)) more end code in
      brings_word p Q n s next (level f q first (t ∷ us) ∷ ls) all own segment sp sp ps r m st x y o a k held.0 h c.0 is
      (omega arith) four
      held.1 (λ st2 y2 u. go held.0 (r 0 + 4) st2 y2 held.2 c.1 u)

  -- an operand that is there
  pub brings_value : (n : ℕ) (X : Operand) (ts : List Temporary) (v : Value) (us : List Temporary) (d k end : ℕ)
      (more : List Part)
      → Stage p s next (level f q first ts ∷ ls) all own segment sp sp ps r m st
      → Gives s first X ts v us → is_missing v ≡ false → length us ≡ d
      → Every (IsNamed p.core (function_of p f)) (operand_bases X)
      → From p f (r 0) (bring p.ir (function_of p f) X d k ++ more) end → 4 ≤ k
      → Then n k ts v more end → Leads (suc n) (at segment ps r m st x y) Q
  brings_value n X ts v us d k end more h OfTop defined depth named code four go =
      brings_top n (temporary.Value v) us d k end more h (ap not defined) depth code four go
  brings_value n X ts v us d k end more h (OfConstant z) defined depth named code four go =
      let c = from_do p f (r 0) (Two Mov false (constant z) (ToReg k)) more end code in
      brings_number p Q n s next (level f q first ts ∷ ls) all own segment sp sp ps r m st x y (constant z) k (wrapped z) h
      (number_is z) c.0
      four (λ st2 y2 u. go (wrapped z) (r 0 + size_of (Two Mov false (constant z) (ToReg k))) st2 y2 refl c.1 u)
  brings_value n X ts v us d k end more h OfNull defined depth named code four go =
      let c = from_do p f (r 0) (Two Mov false (constant (pos 0)) (ToReg k)) more end code in
      brings_number p Q n s next (level f q first ts ∷ ls) all own segment sp sp ps r m st x y (constant (pos 0)) k (wrapped
      (pos 0)) h
      (number_is (pos 0)) c.0
      four (λ st2 y2 u. go (wrapped (pos 0)) (r 0 + size_of (Two Mov false (constant (pos 0)) (ToReg k))) st2 y2 refl c.1 u)
  brings_value n X ts v us d k end more h (OfScalar of offset kd e there) defined depth named code four go =
      brings_scalar n ts of offset kd v k end more h e there named.0 code four go

-- Two operands come into R12 and R13.
use Rattle.std.proofs.Common.{◌≡◌, ◌≢◌, ℕ, suc, ◌+◌, ◌≤◌, sym, subst, arith, false, List, [], ◌∷◌, ◌++◌, length}
use Rattle.std.proofs.lemmas.Bool.{ne_eqb}
use Rattle.core430.specs.Registers.{set_reg}
use Rattle.ideal430.specs.Ideal.{Ideal, Meter}
use Rattle.ideal430.specs.Settled.{Bytes}
use Rattle.c_run.specs.Actions.{kept}
use Rattle.c_run.specs.Runs.{Run, Action}
use Rattle.c_values.specs.declared.state.State.{State}
use Rattle.c_values.specs.declared.value.Value.{Value}
use Rattle.cells430.specs.Cells.{Cells}
use Rattle.cells430.specs.Stretch.{Course, at, Leads}
use Rattle.core_tree.specs.LawfulCore.{Every}
use Rattle.ir.specs.declared.control.Control.{Control}
use Rattle.ir.specs.declared.control.Temporary.{Temporary}
use Rattle.ir.specs.declared.control.Frame.{Frame}
use Rattle.ir.specs.declared.form.Base.{Base}
use Rattle.ir.specs.declared.form.IrFunction.{IrFunction}
use Rattle.ir.specs.declared.form.Operand.{Operand}
use Rattle.ir.specs.Machine.{on_operands}
use Rattle.ir.specs.Table.{taken}
use Rattle.matching.specs.Matches.{placed}
use Rattle.select430.specs.declared.part.Part.{Part}
use Rattle.select430.specs.Code.{bring}
use Rattle.steps430.specs.Setting.{Setting, function_of, IsNamed, operand_bases, IsLaid}
use Rattle.steps430.specs.Holds.{is_missing, HasCode, value_code}
use Rattle.steps430.specs.Standing.{Stage}
use Rattle.steps430.specs.Follows.{Follows}
use Rattle.steps430.proofs.Moves.{From, level, with_regs}
use Rattle.steps430.proofs.Outcomes.{Gives, OfTop, OfConstant, OfNull, OfScalar, operand_follows}
use Rattle.steps430.proofs.Operands.{brings_value}
use Rattle.steps430.proofs.Steps.{left_by}

-- two operands, the right one on top
pub operands_follow : (p : Setting) (limit : ℕ) (t : Ideal) (node first : ℕ) (left right : Operand) (ts : List Temporary)
    (go : Value → Value → List Temporary → Action Control) (r : Run)
    → ((a b : Value) (us ws : List Temporary) → Gives r.state first right ts b us → Gives r.state first left us a ws
    → Follows p limit (go a b ws r) t) → Follows p limit (on_operands node first left right ts go r) t
unfolding on_operands
operands_follow p limit t node first left right ts go r more =
    operand_follows p limit t node first right ts _ r (λ b us g.
    operand_follows p limit t node first left us (λ a ws. go a b ws) r (λ a ws k. more a b us ws g k))

-- how many temporaries an operand takes
pub gives_length : (s : State) (first : ℕ) (X : Operand) (ts : List Temporary) (v : Value) (us : List Temporary)
    → Gives s first X ts v us → length ts ≡ length us + taken X
gives_length s first X ts v us OfTop = omega arith
gives_length s first X ts v us (OfConstant z) = omega arith
gives_length s first X ts v us OfNull = omega arith
gives_length s first X ts v us (OfScalar of offset k e d) = omega arith

every_left : (P : Base → Type 0) (xs ys : List Base) → Every P (xs ++ ys) → Every P xs
every_left P [] ys h = tt
every_left P (x ∷ xs) ys h = (h.0, every_left P xs ys h.1)

every_right : (P : Base → Type 0) (xs ys : List Base) → Every P (xs ++ ys) → Every P ys
every_right P [] ys h = h
every_right P (x ∷ xs) ys h = every_right P xs ys h.1

module _ (p : Setting) (lay : IsLaid p) (Q : Ideal → Type 0) (s : State) (next : ℕ) (all own : Cells) (segment sp : ℕ)
    (ps r m : ℕ → ℕ) (st : Bytes) (x : Course) (y : Meter) (f q first : ℕ) (ls : List Frame) where
  -- two values come into two registers, and their temporaries are taken away
  pub brings_two : (n : ℕ) (left right : Operand) (ts us ws : List Temporary) (a b : Value) (d i j end : ℕ) (more : List Part)
      → Stage p s next (level f q first ts ∷ ls) all own segment sp sp ps r m st
      → Gives s first right ts b us → Gives s first left us a ws → is_missing a ≡ false → is_missing b ≡ false → length ws ≡ d
      → Every (IsNamed p.core (function_of p f)) (operand_bases left ++ operand_bases right)
      → From p f (r 0) (bring p.ir (function_of p f) left d i ++ (bring p.ir (function_of p f) right
      (d + taken left) j ++ more)) end
      → 4 ≤ i → 4 ≤ j
      → ((v w pc pc2 : ℕ) (st2 : Bytes) (y2 : Meter) → HasCode (value_code (placed p.core (kept s)) a) v
      → HasCode (value_code (placed p.core (kept s)) b) w → From p f pc2 more end
      → Stage p s next (level f q first ws ∷ ls) all own segment sp sp ps
      (set_reg (set_reg (set_reg (set_reg r 0 pc) i v) 0 pc2) j w) m st2
      → Leads n (at segment ps (set_reg (set_reg (set_reg (set_reg r 0 pc) i v) 0 pc2) j w) m st2 x y2) Q)
      → Leads (suc (suc n)) (at segment ps r m st x y) Q
  brings_two n left right ts us ws a b d i j end more h g k there_a there_b depth named code four_i four_j go =
      let fn : IrFunction = function_of p f in
      let deep = gives_length s first left us a ws k in
      let named_left = every_left (IsNamed p.core fn) (operand_bases left) (operand_bases right) named in
      let named_right = every_right (IsNamed p.core fn) (operand_bases left) (operand_bases right) named in
      brings_value p lay Q s next all own segment sp ps r m st x y f q first ls (suc n) left us a ws d i end
      (bring p.ir fn right (d + taken left) j ++ more)
      (left_by p s next all own segment sp sp ps r m st f q first right ts b us ls g h) k there_a depth named_left code four_i
      (λ v pc st2 y2 has code2 stage2.
      let r1 : ℕ → ℕ = set_reg (set_reg r 0 pc) i v in
      let n0 : 0 ≢ i = omega arith in
      let at_pc : r1 0 ≡ pc = simp (ne_eqb 0 i n0) in
      brings_value p lay Q s next all own segment sp ps r1 m st2 x y2 f q first ls n right ts b us (d + taken left) j end more
      (with_regs p s next all own segment sp sp ps
      (level f q first ts ∷ ls) r m r1 st st2 stage2.stack stage2.words stage2.facts h)
      g there_b (omega arith) named_right
      (subst (λ (c : ℕ). From p f c (bring p.ir fn right (d + taken left) j ++ more) end) (sym at_pc) code2) four_j
      (λ w pc2 st3 y3 has2 code3 stage3.
      go v w pc pc2 st3 y3 has has2 code3
      (left_by p s next all own segment sp sp ps (set_reg (set_reg r1 0 pc2) j w) m st3 f q first left us a ws ls k
      (left_by p s next all own segment sp sp ps (set_reg (set_reg r1 0 pc2) j w) m st3 f q first right ts b us ls g stage3))))

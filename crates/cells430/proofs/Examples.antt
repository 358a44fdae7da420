-- Small pieces of code over cells: a sum of two words of the frame, a byte, and a call of a function with its frame.
use Rattle.std.proofs.Common.{◌≡◌, ◌≢◌, ℕ, ◌+◌, ◌-◌, ◌%◌, ◌<◌, ◌≤◌, refl, sym, ap, ◌∙◌, subst, arith, Bool, true, false, ◌&&◌, ◌⊎◌, inl, inr, List, [], ◌∷◌, Option, Some, None, if◌then◌else◌}
use Rattle.std.proofs.lemmas.Bool.{eq-eqb, cases_lt}
use Rattle.std.proofs.lemmas.Bool.Decides.{nat_tests}
use Rattle.std.specs.Prelude.{nat_eq}
use Rattle.base16.specs.Board.{segment_start, segment_top}
use Rattle.base16.specs.declared.reading.Reading.{Reading}
use Rattle.isa430.specs.declared.instr.TwoOp.TheVariants.{Mov, Add}
use Rattle.isa430.specs.declared.instr.OneOp.TheVariants.{Call}
use Rattle.isa430.specs.declared.instr.Src.TheVariants.{Reg, Indexed, Immediate}
use Rattle.isa430.specs.declared.instr.Dst.TheVariants.{Reg as ToReg, Indexed as ToIndexed}
use Rattle.isa430.specs.declared.instr.Instr.TheVariants.{Two, One}
use Rattle.core430.specs.declared.operand.Place.TheVariants.{InRegister}
use Rattle.core430.specs.Registers.{set_reg}
use Rattle.core430.specs.Uses.{AreWords}
use Rattle.run430.specs.Code.{Placed}
use Rattle.run430.proofs.Operands.{in_register, to_register, given, from_at, to_at, byte_from_at, byte_to_register}
use Rattle.ideal430.specs.Service.{is_linked}
use Rattle.ideal430.specs.Settled.{Bytes}
use Rattle.ideal430.specs.Ideal.{Ideal, Meter}
use Rattle.cells430.specs.Cells.{Cell, Word, Byte, Cells, set_cell, Fits, Shape, Facts, dropped, IsBlank, IsLayout, framed}
use Rattle.cells430.specs.Stretch.{Course, outside, at, Ground, Leads}
use Rattle.cells430.proofs.Cells.{set_cell-same, set_cell-other, same_cell, shape_set}
use Rattle.cells430.proofs.Lift.{sets, loads, loads_byte, stores}
use Rattle.cells430.proofs.Calls.{calls, pushed_shape, then_comes}
use Rattle.cells430.proofs.Frames.{enters, leaves}
use Rattle.cells430.proofs.Framed.{framed_in, framed_out, framed_shape, framed_facts, facts_return}

module _ (c : ℕ → ℕ) (lo hi seg sp : ℕ) (ps : ℕ → ℕ) (g : Ground lo hi seg sp) (f : Cells) (s : Shape seg sp ps f)
    (Q : Ideal → Type 0) where
  -- MOV 4(SP),R12; ADD 6(SP),R12; MOV R12,8(SP)
  adds : (r m : ℕ → ℕ) (st : Bytes) (x : Course) (q : Meter) (a b : ℕ) (old : Option ℕ) → Facts c lo hi f m st → AreWords r
      → r 1 ≡ sp
      → Placed c lo hi (r 0) (Two Mov false (Indexed 1 4) (ToReg 12) ∷ Two Add false (Indexed 1 6) (ToReg 12) ∷ Two Mov false
      (Reg 12) (ToIndexed 1 8) ∷ [])
      → f (sp + 4) ≡ Some (Word (Some a)) → f (sp + 6) ≡ Some (Word (Some b)) → f (sp + 8) ≡ Some (Word old)
      → sp + 10 ≤ segment_top seg
      → ((r2 m2 : ℕ → ℕ) (st2 : Bytes) (q2 : Meter) → r2 0 ≡ r 0 + 12 → r2 1 ≡ sp
      → Facts c lo hi (set_cell f (sp + 8) (Word (Some ((a + b + 0) % 65536)))) m2 st2 → AreWords r2
      → Leads 0 (at seg ps r2 m2 st2 x q2) Q)
      → Leads 3 (at seg ps r m st x q) Q
  adds r m st x q a b old h wr stack p one two three room more =
      let base = g.base in let top = g.top in let last = g.last in let even = g.even in
      loads c lo hi seg sp ps g Q 2 f s r m st x q Mov (Indexed 1 4) (ToReg 12) (sp + 4) (InRegister 12) a _ h wr p.0
      (from_at stack (omega arith) (omega arith)) to_register one refl tt refl stack (λ st1 q1 h1 w1.
      loads c lo hi seg sp ps g Q 1 f s _ m st1 x q1 Add (Indexed 1 6) (ToReg 12) (sp + 6) (InRegister 12) b _ h1 w1 p.1.0
      (from_at stack (omega arith) (omega arith)) to_register two refl tt refl stack (λ st2 q2 h2 w2.
      stores c lo hi seg sp ps g Q 0 f s _ m st2 x q2 (Reg 12) (ToIndexed 1 8) (InRegister 12) _
      (sp + 8) _ old h2 w2 p.1.1.0 in_register (to_at stack (omega arith) (omega arith)) refl tt three (omega arith)
      (omega arith) refl stack (λ m3 st3 q3 h3 w3.
      more _ m3 st3 q3 (omega arith) stack h3 w3)))

  -- MOV.B 5(SP),R12
  takes_byte : (r m : ℕ → ℕ) (st : Bytes) (x : Course) (q : Meter) (v : ℕ) → Facts c lo hi f m st → AreWords r → r 1 ≡ sp
      → Placed c lo hi (r 0) (Two Mov true (Indexed 1 5) (ToReg 12) ∷ []) → f (sp + 5) ≡ Some (Byte (Some v))
      → ((st2 : Bytes) (q2 : Meter) → Facts c lo hi f m st2 → AreWords (set_reg (set_reg r 0 (r 0 + 4)) 12 v)
      → Leads 0 (at seg ps (set_reg (set_reg r 0 (r 0 + 4)) 12 v) m st2 x q2) Q)
      → Leads 1 (at seg ps r m st x q) Q
  takes_byte r m st x q v h wr stack p one more =
      let top = g.top in let last = g.last in
      loads_byte c lo hi seg sp ps g Q 0 f s r m st x q Mov (Indexed 1 5) (ToReg 12) (sp + 5) (InRegister 12) v _ h wr p.0
      (byte_from_at stack (omega arith)) byte_to_register one refl tt refl stack more

-- ---- a function with a frame of 8 bytes, which has one word of its own, and gives 7

abbrev one_word : Cells
one_word o = if nat_eq o 0 then Some (Word None) else None

one_word_layout : IsLayout 8 one_word
one_word_layout = record {
  even = refl;
  within = λ o x e. within o (nat_eq o 0) refl x e;
  fits =
      λ o x e. fits o (nat_eq o 0) refl x e;
  blank = λ o x e. blank (nat_eq o 0) x e;
}
  where
    none : {A : Type 0} (x : Cell) → None ≡ Some x → A
    none x e = absurd (differ e)
      where
        differ : None ≡ Some x → ⊥
        differ k = cc

    zero_is : (o : ℕ) → nat_eq o 0 ≡ true → o ≡ 0
    zero_is o e = grind (arith, nat_tests)

    within : (o : ℕ) (t : Bool) → nat_eq o 0 ≡ t → (x : Cell) → (if t then Some (Word None) else None) ≡ Some x → o < 8
    within o true k x e = let z = zero_is o k in omega arith
    within o false k x e = none x e

    first : (o : ℕ) (x : Cell) → o ≡ 0 → Word None ≡ x → Fits one_word o x
    first o x z e = subst (Fits one_word o) e (subst (λ (k : ℕ). Fits one_word k (Word None)) (sym z) (refl, refl))

    fits : (o : ℕ) (t : Bool) → nat_eq o 0 ≡ t → (x : Cell) → (if t then Some (Word None) else None) ≡ Some x
        → Fits one_word o x
    fits o true k x e = first o x (zero_is o k) (same_cell (Word None) x e)
    fits o false k x e = none x e

    blank : (t : Bool) (x : Cell) → (if t then Some (Word None) else None) ≡ Some x → IsBlank x
    blank true x e = subst IsBlank (same_cell (Word None) x e) tt
    blank false x e = none x e

module _ (c : ℕ → ℕ) (lo hi seg sp : ℕ) (ps : ℕ → ℕ) (g : Ground lo hi seg sp) (f : Cells) (s : Shape seg sp ps f)
    (Q : Ideal → Type 0) (fn : ℕ) where
  gives_seven : (r m : ℕ → ℕ) (st : Bytes) (marks : ℕ) (left : List Reading) (q : Meter) → Facts c lo hi f m st → AreWords r
      → r 1 ≡ sp → Placed c lo hi (r 0) (One Call false (Immediate fn) ∷ []) → fn < 65280
      → Placed c lo hi fn (Two Mov false (Immediate 8) (ToReg 15) ∷ One Call false (Immediate 65282) ∷ Two Mov false
      (Immediate 7) (ToReg 12) ∷ Two Mov false (Reg 12) (ToIndexed 1 0) ∷ Two Mov false (Immediate 8)
      (ToReg 15) ∷ One Call false (Immediate 65284) ∷ [])
      → segment_start seg + 14 ≤ sp → sp + 2 ≤ segment_top seg
      → ((r2 m2 : ℕ → ℕ) (st2 : Bytes) (q2 : Meter) → r2 0 ≡ r 0 + 4 → r2 1 ≡ sp → r2 12 ≡ 7 → Facts c lo hi f m2 st2
      → AreWords r2 → Leads 0 (at seg ps r2 m2 st2 (outside (marks + 1 + 1) left) q2) Q)
      → Leads 7 (at seg ps r m st (outside marks left) q) Q
  gives_seven r m st marks left q h wr stack p low body room under more =
      let base = g.base in let top = g.top in let last = g.last in let even = g.even in
      let f1 : Cells = set_cell f (sp - 2) (Word (Some (r 0 + 4))) in
      let g1 : Ground lo hi seg (sp - 2) = record {
        low = g.low;
        high = g.high;
        base = omega arith;
        top = omega arith;
        last =
            g.last;
        even = omega arith;
      } in
      let s1 : Shape seg (sp - 2) ps f1 = pushed_shape c lo hi seg sp ps g f s (Some (r 0 + 4)) in
      let g2 : Ground lo hi seg (sp - 2 - 8) = record {
        low = g.low;
        high = g.high;
        base = omega arith;
        top =
            omega arith;
        last = g.last;
        even = omega arith;
      } in
      let f2 : Cells = framed (sp - 2 - 8) 8 one_word f1 in
      let back : sp - 2 ≡ sp - 2 - 8 + 8 = omega arith in
      let s2 : Shape seg (sp - 2 - 8) ps f2 = framed_shape (sp - 2 - 8) 8 one_word f1 one_word_layout seg ps (omega arith)
      (omega arith) (omega arith) g.last (subst (λ (k : ℕ). Shape seg k ps f1) back s1) in
      let local : f2 (sp - 2 - 8 + 0) ≡ Some (Word None) =
      framed_in (sp - 2 - 8) 8 one_word f1 (sp - 2 - 8 + 0) (omega arith) (omega arith)
      ∙ here (sp - 2 - 8 + 0 - (sp - 2 - 8)) (omega arith) in
      let f3 : Cells = set_cell f2 (sp - 2 - 8 + 0) (Word (Some 7)) in
      let s3 : Shape seg (sp - 2 - 8) ps f3 = shape_set seg (sp - 2 - 8) ps f2 s2 (sp - 2 - 8 + 0) None (Some 7) local in
      let apart : sp - 2 ≢ sp - 2 - 8 + 0 = omega arith in
      let ret : f3 (sp - 2) ≡ Some (Word (Some (r 0 + 4))) = set_cell-other f2 (sp - 2 - 8 + 0) (sp - 2) (Word (Some 7)) apart
      ∙ framed_out (sp - 2 - 8) 8 one_word f1 (sp - 2) (inr (omega arith))
      ∙ set_cell-same f (sp - 2) (sp - 2) (Word (Some (r 0 + 4))) refl in
      let up : sp - 2 + 2 ≡ sp = omega arith in
      then_comes c lo hi 6 _ seg ps _ (outside marks left) f1 Q
      (calls c lo hi seg sp ps g f s r m st (outside marks left) q fn h wr p.0 stack low) (λ m1 st1 q1 h1 w1.
      sets c lo hi seg (sp - 2) ps g1 Q 5 f1 s1 _ m1 st1 (outside marks left) q1 Mov false (Immediate 8)
      (ToReg 15) _ _ _ h1 w1 body.0 given to_register refl tt tt refl refl (λ st2 q2 h2 w2.
      then_comes c lo hi 4 _ seg ps _ (outside (marks + 1) left) f1 Q
      (enters c lo hi seg (sp - 2) ps g1 f1 s1 _ m1 st2 (outside marks left) q2 8 h2 w2 body.1.0 refl refl refl (omega arith)
      (omega arith) (omega arith) (omega arith)) (λ m3 st3 q3 h3 w3.
      sets c lo hi seg (sp - 2 - 8) ps g2 Q 3 f2 s2 _ m3 st3 (outside (marks + 1) left) q3 Mov false (Immediate 7)
      (ToReg 12) _ _ _ (framed_facts (sp - 2 - 8) 8 one_word f1 one_word_layout c lo hi m3 st3 h3) w3 body.1.1.0 given
      to_register refl tt tt refl refl (λ st4 q4 h4 w4.
      stores c lo hi seg (sp - 2 - 8) ps g2 Q 2 f2 s2 _ m3 st4 (outside (marks + 1) left) q4 (Reg 12) (ToIndexed 1 0)
      (InRegister 12) _ (sp - 2 - 8 + 0) _ None h4 w4 body.1.1.1.0 in_register
      (to_at refl (omega arith) (omega arith)) refl tt local (omega arith) (omega arith) refl refl (λ m5 st5 q5 h5 w5.
      sets c lo hi seg (sp - 2 - 8) ps g2 Q 1 f3 s3 _ m5 st5 (outside (marks + 1) left) q5 Mov false (Immediate 8)
      (ToReg 15) _ _ _ h5 w5 body.1.1.1.1.0 given to_register refl tt tt refl refl (λ st6 q6 h6 w6.
      then_comes c lo hi 0 _ seg ps _ (outside (marks + 1 + 1) left) (dropped seg (sp - 2 + 2) f3) Q
      (leaves c lo hi seg (sp - 2 - 8) ps g2 f3 s3 _ m5 st6 (outside (marks + 1) left) q6 8 (sp - 2)
      (r 0 + 4) false h6 w6 body.1.1.1.1.1.0 refl refl refl (omega arith) (omega arith) (omega arith) (omega arith)
      (not_top seg sp under room) (not_outermost seg sp under) ret) (λ m7 st7 q7 h7 w7.
      more _ m7 st7 q7 refl up refl (facts_return seg sp ps f f3 (omega arith) top last s
      (λ b k t. as_before b k) c lo hi m7 st7 (subst (λ (k : ℕ). Facts c lo hi (dropped seg k f3) m7 st7) up h7)) w7)))))))
    where
      here : (o : ℕ) → o ≡ 0 → one_word o ≡ Some (Word None)
      here o e = ap (λ (t : Bool). if t then Some (Word None) else None) (eq-eqb o 0 e)

      not_top : (seg sp : ℕ) → sp + 2 ≤ segment_top seg → segment_start seg + 14 ≤ sp → is_linked seg (sp - 2) ≡ false
      not_top seg sp h l = grind (arith, nat_tests)

      not_outermost : (seg sp : ℕ) → sp + 2 ≤ segment_top seg → (nat_eq seg 0 && nat_eq (sp - 2) 0x20FE) ≡ false
      not_outermost seg sp h = grind (arith, nat_tests)

      as_before : (b : ℕ) → (segment_start seg ≤ b → sp ≤ b)
          → set_cell (framed (sp - 2 - 8) 8 one_word (set_cell f (sp - 2) (Word (Some (r 0 + 4))))) (sp - 2 - 8 + 0)
          (Word (Some 7)) b ≡ f b
      as_before b k =
          let base = g.base in
          let n1 : b ≢ sp - 2 - 8 + 0 = away b (sp - 2 - 8 + 0) k (omega arith) (omega arith) in
          let n2 : b ≢ sp - 2 = away b (sp - 2) k (omega arith) (omega arith) in
          set_cell-other (framed (sp - 2 - 8) 8 one_word (set_cell f (sp - 2) (Word (Some (r 0 + 4))))) (sp - 2 - 8 + 0) b
          (Word (Some 7)) n1
          ∙ framed_out (sp - 2 - 8) 8 one_word (set_cell f (sp - 2) (Word (Some (r 0 + 4)))) b (beyond b k)
          ∙ set_cell-other f (sp - 2) b (Word (Some (r 0 + 4))) n2
        where
          away : (b a : ℕ) → (segment_start seg ≤ b → sp ≤ b) → segment_start seg ≤ a → a < sp → b ≢ a
          away b a k l h e = let i = k (omega arith) in omega arith

          beyond : (b : ℕ) → (segment_start seg ≤ b → sp ≤ b) → (b < sp - 2 - 8) ⊎ (sp - 2 - 8 + 8 ≤ b)
          beyond b k = elim (cases_lt b (sp - 2 - 8)) [ inl l ↦ inl l | inr l ↦ inr (let i = k (omega arith) in omega arith) ]

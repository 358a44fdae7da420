-- Pushes, calls and returns.
use Rattle.std.proofs.Common.{◌≡◌, ℕ, suc, ◌+◌, ◌-◌, ◌*◌, ◌/◌, ◌%◌, ◌<◌, ◌≤◌, sym, ap, ◌∙◌, subst, arith, Bool, true, false, inl, inr}
use Rattle.std.proofs.lemmas.Bool.{eq-eqb, le-leb, lt-ltb}
use Rattle.std.specs.Prelude.{nat_eq, nat_lt, nat_le}
use Rattle.base16.specs.Memory.{put}
use Rattle.isa430.specs.declared.instr.TwoOp.TheVariants.{Mov}
use Rattle.isa430.specs.declared.instr.OneOp.TheVariants.{Push, Call}
use Rattle.isa430.specs.declared.instr.Src.{Src}
use Rattle.isa430.specs.declared.instr.Src.TheVariants.{Increment, Immediate}
use Rattle.isa430.specs.declared.instr.Dst.TheVariants.{Reg as ToReg}
use Rattle.isa430.specs.declared.instr.Instr.TheVariants.{Two, One}
use Rattle.isa430.specs.Table.{size_of}
use Rattle.core430.specs.declared.operand.Place.{Place}
use Rattle.core430.specs.declared.operand.Place.TheVariants.{InRegister, InMemory, Given}
use Rattle.core430.specs.Registers.{set_reg}
use Rattle.core430.specs.Operands.{raised, value_at}
use Rattle.core430.specs.Instructions.{Sets, Stores, lowered, push_effect, call_effect, effect_of}
use Rattle.core430.specs.Step.{State, arrive, finish, step}
use Rattle.core430.specs.Uses.{access_bytes, operand_uses}
use Rattle.core430.proofs.Truths.{or-true}
use Rattle.run430.specs.Run.{AreIn, Covers, Touches, Runs, CallsService}
use Rattle.run430.specs.Code.{Agrees, Here, Owns}
use Rattle.run430.proofs.Rules.{Source, next, place_in, one_stores, steps_by, touches_by, two_comes, one_comes}
use Rattle.run430.proofs.Operands.{given, from_top, to_register}

-- SP less 2, where it does not wrap
pub lowered_is : {k sp : ℕ} → k ≡ sp → 2 ≤ sp → sp < 65536 → lowered k ≡ sp - 2
lowered_is e l h = omega arith

pub push_is : (r : ℕ → ℕ) (sp w : ℕ) → r 1 ≡ sp → 2 ≤ sp → sp < 65536 → sp % 2 ≡ 0 → push_effect r w ≡ Stores (set_reg r 1 (sp - 2)) (sp - 2) w
push_is r sp w e l h even =
    let down : lowered (r 1) ≡ sp - 2 = lowered_is e l h in
    let even2 : (sp - 2) % 2 ≡ 0 = omega arith in
    rw down (simp (eq-eqb ((sp - 2) % 2) 0 even2))

pub call_is : (r : ℕ → ℕ) (sp a : ℕ) → r 1 ≡ sp → 2 ≤ sp → sp < 65536 → sp % 2 ≡ 0 → call_effect r a ≡ Stores (set_reg (set_reg r 1 (sp - 2)) 0 a) (sp - 2) (r 0)
call_is r sp a e l h even =
    let down : lowered (r 1) ≡ sp - 2 = lowered_is e l h in
    let even2 : (sp - 2) % 2 ≡ 0 = omega arith in
    rw down (simp (eq-eqb ((sp - 2) % 2) 0 even2))

-- the word below SP, by its address
below_covered : (P : ℕ → Type 0) (k sp : ℕ) → k ≡ sp → 2 ≤ sp → sp < 65536 → Covers P false (InMemory (sp - 2)) → Covers P false (InMemory (lowered k))
below_covered P k sp e l h w = subst (λ (x : ℕ). P x × P (x + 1)) (sym (lowered_is e l h)) w

never : {A : Type 0} → false ≡ true → A
never h = absurd (differ h)
  where
    differ : false ≡ true → ⊥
    differ k = cc

module _ (denied : ℕ → Bool) (R W : ℕ → Type 0) (c : ℕ → ℕ) (lo hi : ℕ) (own : Owns R lo hi) where
  below_top : (pc x size : ℕ) → pc + size ≤ hi → hi < 65280 → x ≡ pc + size → x < 65280
  below_top pc x size h t e = omega arith

  -- PUSH: the word goes to the address SP less 2
  pub push : (n : ℕ) (r m : ℕ → ℕ) (t : State) (src : Src) (p : Place) (sp w : ℕ) → Agrees c lo hi m → Here c lo hi (r 0) (One Push false src) → Source false (next (One Push false src) r) src p → value_at false (next (One Push false src) r) m p ≡ w → raised false (next (One Push false src) r) src 1 ≡ sp → raised false (next (One Push false src) r) src 0 ≡ r 0 + size_of (One Push false src) → 2 ≤ sp → sp < 65536 → sp % 2 ≡ 0 → Covers R false p → Covers W false (InMemory (sp - 2)) → denied (sp - 2) ≡ false → Runs denied R W n (record { regs = set_reg (raised false (next (One Push false src) r) src) 1 (sp - 2); memory = put m (sp - 2) w }) t → Runs denied R W (suc n) (record { regs = r; memory = m }) t
  push n r m t src p sp w g h s v e pc l high even ra wa may rest =
      let high2 = h.high in let top = h.top in
      one_stores denied R W c lo hi own n r m t Push false src p _ _ w g h s (push_is _ sp _ e l high even ∙ ap (λ (x : ℕ). Stores (set_reg (raised false (next (One Push false src) r) src) 1 (sp - 2)) (sp - 2) x) v) ra (below_covered W _ sp e l high wa) may (below_top _ _ _ high2 top pc) rest

  -- CALL: the address of the next instruction goes to SP less 2, and PC to a
  pub call : (n : ℕ) (r m : ℕ → ℕ) (t : State) (src : Src) (p : Place) (sp a : ℕ) → Agrees c lo hi m → Here c lo hi (r 0) (One Call false src) → Source false (next (One Call false src) r) src p → value_at false (next (One Call false src) r) m p ≡ a → raised false (next (One Call false src) r) src 1 ≡ sp → a < 65280 → 2 ≤ sp → sp < 65536 → sp % 2 ≡ 0 → Covers R false p → Covers W false (InMemory (sp - 2)) → denied (sp - 2) ≡ false → Runs denied R W n (record { regs = set_reg (set_reg (raised false (next (One Call false src) r) src) 1 (sp - 2)) 0 a; memory = put m (sp - 2) (raised false (next (One Call false src) r) src 0) }) t → Runs denied R W (suc n) (record { regs = r; memory = m }) t
  call n r m t src p sp a g h s v e low l high even ra wa may rest =
      one_stores denied R W c lo hi own n r m t Call false src p _ _ _ g h s (call_is _ sp _ e l high even ∙ ap (λ (x : ℕ). Stores (set_reg (set_reg (raised false (next (One Call false src) r) src) 1 (sp - 2)) 0 x) (sp - 2) (raised false (next (One Call false src) r) src 0)) v) ra (below_covered W _ sp e l high wa) may low rest

  -- CALL of the entry of service n
  pub into_service : (n sp : ℕ) (r m : ℕ → ℕ) → Agrees c lo hi m → Here c lo hi (r 0) (One Call false (Immediate (65280 + 2 * n))) → n < 32 → r 1 ≡ sp → 2 ≤ sp → sp < 65536 → sp % 2 ≡ 0 → Covers W false (InMemory (sp - 2)) → denied (sp - 2) ≡ false → CallsService denied R W n (record { regs = r; memory = m }) (record { regs = set_reg (set_reg (set_reg r 0 (r 0 + 4)) 1 (sp - 2)) 0 (65280 + 2 * n); memory = put m (sp - 2) (r 0 + 4) })
  into_service n sp r m g h l s two high even wa may =
      let low : nat_le 65280 (65280 + 2 * n) ≡ true = le-leb 65280 (65280 + 2 * n) (omega arith) in
      let below : nat_lt (65280 + 2 * n) 65344 ≡ true = lt-ltb (65280 + 2 * n) 65344 (omega arith) in
      let even3 : nat_eq ((65280 + 2 * n) % 2) 0 ≡ true = eq-eqb ((65280 + 2 * n) % 2) 0 (omega arith) in
      let number : (65280 + 2 * n - 65280) / 2 ≡ n = omega arith in
      let e : effect_of (r 0) (One Call false (Immediate (65280 + 2 * n))) (next (One Call false (Immediate (65280 + 2 * n))) r) m ≡ Stores (set_reg (set_reg (set_reg r 0 (r 0 + 4)) 1 (sp - 2)) 0 (65280 + 2 * n)) (sp - 2) (r 0 + 4) = one_comes Call false (Immediate (65280 + 2 * n)) r m (Given (65280 + 2 * n)) given ∙ call_is (set_reg r 0 (r 0 + 4)) sp (65280 + 2 * n) s two high even in
      record {
        calls = steps_by denied c lo hi (record { regs = r; memory = m }) (One Call false (Immediate (65280 + 2 * n))) g h ∙ ap (finish denied m) e ∙ simp (may, low, below, even3, number);
        touches = touches_by R W c lo hi own r m (One Call false (Immediate (65280 + 2 * n))) g h (λ b x. never x) (λ b x. place_in W false (InMemory (lowered (r 1))) (below_covered W (r 1) sp s two high wa) b x);
      }

  -- RET, which is MOV @SP+, PC: the word at SP goes to PC, whatever it is
  pub returns : (sp : ℕ) (r m : ℕ → ℕ) → Agrees c lo hi m → Here c lo hi (r 0) (Two Mov false (Increment 1) (ToReg 0)) → r 1 ≡ sp → sp % 2 ≡ 0 → Covers R false (InMemory sp) → (step denied (record { regs = r; memory = m }) ≡ arrive (set_reg (set_reg (set_reg r 0 (r 0 + 2)) 1 ((sp + 2) % 65536)) 0 (m sp)) m) × Touches R W (record { regs = r; memory = m })
  returns sp r m g h s even reads =
      let r1 : ℕ → ℕ = set_reg r 0 (r 0 + 2) in
      let e : effect_of (r 0) (Two Mov false (Increment 1) (ToReg 0)) (next (Two Mov false (Increment 1) (ToReg 0)) r) m ≡ Sets (set_reg (set_reg (set_reg r 0 (r 0 + 2)) 1 ((sp + 2) % 65536)) 0 (m sp)) = two_comes Mov false (Increment 1) (ToReg 0) r m (InMemory sp) (InRegister 0) (from_top s even) to_register ∙ ap (λ (k : ℕ). Sets (set_reg (set_reg (set_reg r 0 (r 0 + 2)) 1 ((k + 2) % 65536)) 0 (m sp))) s in
      let at_top : AreIn (operand_uses (Two Mov false (Increment 1) (ToReg 0)) (next (Two Mov false (Increment 1) (ToReg 0)) r)) R = λ b x. elim (or-true (access_bytes false (r 1) b) false x) [
        | inl y ↦ place_in R false (InMemory sp) reads b (subst (λ (k : ℕ). access_bytes false k b ≡ true) s y)
        | inr y ↦ never y
      ] in
      (steps_by denied c lo hi (record { regs = r; memory = m }) (Two Mov false (Increment 1) (ToReg 0)) g h ∙ ap (finish denied m) e, touches_by R W c lo hi own r m (Two Mov false (Increment 1) (ToReg 0)) g h at_top (λ b x. never x))

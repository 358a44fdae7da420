-- One step, by how it ends.
use Rattle.std.proofs.Common.{◌≡◌, ◌≢◌, ℕ, ◌+◌, ◌%◌, ap, refl, subst, Bool, Some, None}
use Rattle.std.proofs.lemmas.Bool.{ne_eqb, eq-eqb}
use Rattle.isa430.specs.declared.instr.Instr.{Instr}
use Rattle.isa430.specs.Table.{size_of}
use Rattle.core430.specs.Registers.{set_reg}
use Rattle.core430.specs.Instructions.{Effect, effect_of}
use Rattle.core430.specs.Step.{Wild, instr_at, finish, execute, step}

pub odd_step : (D : ℕ → Bool) (r m : ℕ → ℕ) (pc : ℕ) → pc ≡ r 0 → pc % 2 ≢ 0 → Wild pc ≡ step D (record { regs = r; memory = m })
unfolding step
odd_step D r m pc e h = rw (← e, ne_eqb (pc % 2) 0 h)

pub no_step : (D : ℕ → Bool) (r m : ℕ → ℕ) (pc : ℕ) → pc ≡ r 0 → pc % 2 ≡ 0 → instr_at m pc ≡ None → Wild pc ≡ step D (record { regs = r; memory = m })
unfolding step
no_step D r m pc e h d = rw (← e, eq-eqb (pc % 2) 0 h, d) (ap Wild e)

pub some_step : (D : ℕ → Bool) (r m p : ℕ → ℕ) (pc size : ℕ) (i : Instr) (x : Effect) → pc ≡ r 0 → pc % 2 ≡ 0 → instr_at m pc ≡ Some i → size ≡ size_of i → p ≡ set_reg r 0 ((pc + size) % 65536) → x ≡ effect_of pc i p m → finish D m x ≡ step D (record { regs = r; memory = m })
unfolding step
some_step D r m p pc size i x e h d es ep ex = rw (← e, eq-eqb (pc % 2) 0 h, d, ← es, ← e, ← ep, ← ex)

-- a step is the execution of the instruction at PC
pub fetched_step : (D : ℕ → Bool) (r m : ℕ → ℕ) (pc : ℕ) (i : Instr) → pc ≡ r 0 → pc % 2 ≡ 0 → instr_at m pc ≡ Some i → execute D i (record { regs = r; memory = m }) ≡ step D (record { regs = r; memory = m })
unfolding step
fetched_step D r m pc i e h d = at (subst (λ (x : ℕ). x % 2 ≡ 0) e h) (subst (λ (x : ℕ). instr_at m x ≡ Some i) e d)
  where
    at : r 0 % 2 ≡ 0 → instr_at m (r 0) ≡ Some i → execute D i (record { regs = r; memory = m }) ≡ step D (record { regs = r; memory = m })
    at k f = rw (eq-eqb (r 0 % 2) 0 k, f) refl

-- an execution, from its effect
pub executed : (D : ℕ → Bool) (r m p : ℕ → ℕ) (pc size : ℕ) (i : Instr) (x : Effect) → pc ≡ r 0 → size ≡ size_of i → p ≡ set_reg r 0 ((pc + size) % 65536) → x ≡ effect_of pc i p m → finish D m x ≡ execute D i (record { regs = r; memory = m })
executed D r m p pc size i x e es ep ex = rw (← es, ← e, ← ep, ← ex) refl

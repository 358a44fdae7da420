-- Stretches of a routine that writes nothing, and its return.
use Rattle.std.proofs.Common.{◌≡◌, ℕ, suc, ◌+◌, ◌-◌, ◌%◌, ◌<◌, ◌≤◌, refl, sym, ap, ◌∙◌, subst, arith, Bool, true, false, not, List, inl, inr}
use Rattle.std.proofs.lemmas.Bool.{ne_eqb, eq-eqb, lt-leb, le-leb}
use Rattle.isa430.specs.declared.instr.TwoOp.TheVariants.{Mov}
use Rattle.isa430.specs.declared.instr.Src.TheVariants.{Increment}
use Rattle.isa430.specs.declared.instr.Dst.TheVariants.{Reg as ToReg}
use Rattle.isa430.specs.declared.instr.Instr.TheVariants.{Two}
use Rattle.core430.specs.Registers.{set_reg}
use Rattle.core430.specs.Status.{carry_of, zero_of, with_flags}
use Rattle.core430.specs.Arithmetic.{sum_status, difference_status}
use Rattle.core430.specs.Step.{State}
use Rattle.run430.specs.Run.{SteadyRuns}
use Rattle.run430.specs.Code.{Here, Owns}
use Rattle.run430.specs.Routine.{without_flags, IsKept, ComesBack, RoutineReads, RoutineWrites}
use Rattle.run430.proofs.Words.{Agrees-self}
use Rattle.run430.proofs.Stack.{returns}
use Rattle.run430.proofs.Compose.{SteadyRuns-append}
use Rattle.run430.proofs.Return.{without_flags-with_flags}
use Rattle.run430.proofs.FlagLemmas.{sum_carry, difference_zero}

-- ---- branches

pub no_carry : (status d s : ℕ) → d + s < 65536 → carry_of (sum_status false status false d s) ≡ false
no_carry status d s l = sum_carry false status false d s ∙ lt-leb 65536 (d + s + 0) (omega arith)

pub carries : (status d s : ℕ) → 65536 ≤ d + s → carry_of (sum_status false status false d s) ≡ true
carries status d s l = sum_carry false status false d s ∙ le-leb 65536 (d + s + 0) (omega arith)

-- a count of 1 comes to 0
pub counted_out : (status d : ℕ) → d ≡ 1 → not (zero_of (difference_status false status false d 1)) ≡ false
counted_out status d e = ap not (difference_zero false status false d 1 ∙ eq-eqb ((d + 65536 - (1 + 0)) % 65536) 0 (omega arith))

-- and a larger one does not
pub counts_on : (status d k : ℕ) → d ≡ suc k → 0 < k → k < 65535 → not (zero_of (difference_status false status false d 1)) ≡ true
counts_on status d k e h l = ap not (difference_zero false status false d 1 ∙ ne_eqb ((d + 65536 - (1 + 0)) % 65536) 0 (omega arith))

pub one_less : (d k : ℕ) → d ≡ suc k → k < 65535 → (d + 65536 - (1 + 0)) % 65536 ≡ k
one_less d k e l = omega arith

-- ---- what stays

pub at_most : {a b : ℕ} → a ≡ b → a ≤ b
at_most e = omega arith

-- SR but for its flags, after an instruction that sets these
pub new_flags : (status : ℕ) (c z n v : Bool) (before : ℕ) → without_flags status ≡ before → without_flags (with_flags status c z n v) ≡ before
new_flags status c z n v before e = without_flags-with_flags status c z n v ∙ e

-- ---- stretches

-- at most so many steps, with SP at sp or below, that leave memory as it was
pub record Went (denied : ℕ → Bool) (R W : ℕ → Type 0) (sp : ℕ) (m : ℕ → ℕ) (limit : ℕ) (r : ℕ → ℕ) (Q : (ℕ → ℕ) → Type 0) : Type 0 where
  pub steps : ℕ
  pub within : steps ≤ limit
  pub end : ℕ → ℕ
  pub runs : SteadyRuns denied R W sp steps (record { regs = r; memory = m }) (record { regs = end; memory = m })
  pub so : Q end

pub then_went : (denied : ℕ → Bool) (R W : ℕ → Type 0) (sp : ℕ) (m : ℕ → ℕ) (j k : ℕ) (r : ℕ → ℕ) (P Q : (ℕ → ℕ) → Type 0) → Went denied R W sp m j r P → ((t : ℕ → ℕ) → P t → Went denied R W sp m k t Q) → Went denied R W sp m (j + k) r Q
then_went denied R W sp m j k r P Q a more =
    let b = more a.end a.so in
    record { steps = a.steps + b.steps; within = omega (arith, a.within, b.within); end = b.end; runs = SteadyRuns-append denied R W sp a.steps b.steps _ _ _ a.runs b.runs; so = b.so }

-- ---- the return

-- at the return, with the answer
pub record AtReturn (pc sp answer : ℕ) (same : List ℕ) (q r : ℕ → ℕ) : Type 0 where
  pub place : r 0 ≡ pc
  pub stack : r 1 ≡ sp
  pub answers : r 12 ≡ answer
  pub kept : IsKept same q r

pub owns : (base size sp : ℕ) → Owns (RoutineReads base size sp) base (base + size)
owns base size sp a l h = inl (l, h)

pub comes_back : (denied : ℕ → Bool) (base size pc limit answer : ℕ) (same : List ℕ) (s : State) → ((r : ℕ → ℕ) (a b c : ℕ) → IsKept same s.regs r → IsKept same s.regs (set_reg (set_reg (set_reg r 0 a) 1 b) 0 c)) → s.regs 1 % 2 ≡ 0 → limit < 400 → Here s.memory base (base + size) pc (Two Mov false (Increment 1) (ToReg 0)) → Went denied (RoutineReads base size (s.regs 1)) (RoutineWrites (s.regs 1)) (s.regs 1) s.memory limit s.regs (AtReturn pc (s.regs 1) answer same s.regs) → ComesBack denied (RoutineReads base size (s.regs 1)) (RoutineWrites (s.regs 1)) 400 answer same s
comes_back denied base size pc limit answer same s stay even few h w =
    let m = s.memory in
    let sp = s.regs 1 in
    let here = subst (λ (k : ℕ). Here s.memory base (base + size) k (Two Mov false (Increment 1) (ToReg 0))) (sym w.so.place) h in
    let back = returns denied (RoutineReads base size (s.regs 1)) (RoutineWrites (s.regs 1)) s.memory base (base + size) (owns base size (s.regs 1)) (s.regs 1) w.end s.memory (Agrees-self s.memory base (base + size)) here w.so.stack even (inr (inl refl), inr (inr refl)) in
    record {
      steps = w.steps;
      within = omega (arith, w.within, few);
      last = record { regs = w.end; memory = s.memory };
      runs = w.runs;
      end = record { regs = set_reg (set_reg (set_reg w.end 0 (w.end 0 + 2)) 1 ((s.regs 1 + 2) % 65536)) 0 (s.memory (s.regs 1)); memory = s.memory };
      returns = back.0;
      touches = back.1;
      back = refl;
      stack = refl;
      answers = w.so.answers;
      kept = stay w.end (w.end 0 + 2) ((s.regs 1 + 2) % 65536) (s.memory (s.regs 1)) w.so.kept;
    }

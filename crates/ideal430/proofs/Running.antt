-- Runs, and where the code's machine is after an instruction.
use Rattle.std.proofs.Common.{◌≡◌, ℕ, zero, suc, ◌+◌, ◌-◌, ◌≤◌, refl, sym, ap, ◌∙◌, subst, arith, List, length, add-zero, add-suc, add-one}
use Rattle.base16.specs.Memory.{words_of}
use Rattle.base16.specs.declared.reading.Reading.{Reading}
use Rattle.base16.specs.declared.end.EndKind.TheVariants.{Wild as WildAt}
use Rattle.base16.specs.declared.registers.Regs.{Regs}
use Rattle.core430.specs.Registers.{view_of}
use Rattle.core430.specs.Step.{Outcome, Next, Service as Calls, Wild, step}
use Rattle.ideal430.specs.Ideal.{Ideal, stopped, moved, served, after, free, next_if, next, run}
use Rattle.ideal430.specs.At.{IsAt, IsStateOf}
use Rattle.ideal430.specs.declared.machine.Machine.{Machine}
use Rattle.ideal430.specs.declared.memory.Ram.{Ram}
use Rattle.ideal430.specs.declared.state.IdealEnd.{IdealEnd}
use Rattle.ideal430.specs.declared.state.IdealEnd.TheVariants.{Running, Ended, NeedsReading}

-- ---- a machine that has stopped stays as it is

next_if-stopped : (status : IdealEnd) (t : Ideal) → (status ≡ Running → ⊥) → next_if status t ≡ t
next_if-stopped Running t h = absurd (h refl)
next_if-stopped (Ended kind) t h = refl
next_if-stopped NeedsReading t h = refl

pub next-stopped : (t : Ideal) → (t.status ≡ Running → ⊥) → next t ≡ t
next-stopped t h = next_if-stopped t.status t h

run-more : (n k : ℕ) (t : Ideal) → ((run n t).status ≡ Running → ⊥) → run (n + k) t ≡ run n t
run-more n zero t h = ap (λ (x : ℕ). run x t) (add-zero n)
run-more n (suc k) t h =
    let e = run-more n k t h in
    ap (λ (x : ℕ). run x t) (add-suc n k) ∙ ap next e ∙ next-stopped (run n t) h

pub run-stopped : (n i : ℕ) (t : Ideal) → n ≤ i → ((run n t).status ≡ Running → ⊥) → run i t ≡ run n t
run-stopped n i t l h = let e : i ≡ n + (i - n) = omega arith in ap (λ (x : ℕ). run x t) e ∙ run-more n (i - n) t h

-- ---- an instruction

pub next-running : (t : Ideal) (o : Outcome) → t.status ≡ Running → step free t.core ≡ o → next t ≡ after t o
next-running t o runs e = ap (λ (s : IdealEnd). next_if s t) runs ∙ ap (after t) e

step-at : (t : Ideal) (machine : Machine) (readings : List Reading) (o : Outcome) → IsAt t machine readings
    → o ≡ step free (record { regs = view_of machine.regs.r; memory = words_of machine.memory }) → step free t.core ≡ o
step-at t machine readings o at e =
    ap (λ (r : ℕ → ℕ). step free (record { regs = r; memory = t.core.memory })) at.regs
    ∙ ap (λ (m : ℕ → ℕ). step free (record { regs = view_of machine.regs.r; memory = m })) at.memory ∙ sym e

next-at : (t : Ideal) (machine : Machine) (readings : List Reading) (o : Outcome) → IsAt t machine readings
    → machine.end ≡ Running
    → o ≡ step free (record { regs = view_of machine.regs.r; memory = words_of machine.memory }) → next t ≡ after t o
next-at t machine readings o at runs e = next-running t o (at.status ∙ runs) (step-at t machine readings o at e)

-- the code's machine with other registers and another memory
abbrev pub moved_to : Machine → Regs → Ram → Machine
moved_to machine regs memory = record machine { regs = regs; memory = memory }

moved-at : (t : Ideal) (machine : Machine) (readings : List Reading) (regs : Regs) (memory : Ram) → IsAt t machine readings
    → IsAt (moved t (record { regs = view_of regs.r; memory = words_of memory })) (moved_to machine regs memory) readings
moved-at t machine readings regs memory at = record {
  regs = refl;
  memory = refl;
  segment = at.segment;
  block = at.block;
  marks = at.marks;
  left = at.left;
  status = at.status;
  small = at.small;
  within = at.within;
}

pub turned_on : (t : Ideal) (machine : Machine) (readings : List Reading) (regs : Regs) (memory : Ram) → IsAt t machine readings
    → machine.end ≡ Running
    → Next (record { regs = view_of regs.r; memory = words_of memory })
    ≡ step free (record { regs = view_of machine.regs.r; memory = words_of machine.memory })
    → IsAt (next t) (moved_to machine regs memory) readings
turned_on t machine readings regs memory at runs e =
    subst (λ (u : Ideal). IsAt u (moved_to machine regs memory) readings) (sym (next-at t machine readings _ at runs e))
    (moved-at t machine readings regs memory at)

pub turned_to_service : (n : ℕ) (t : Ideal) (machine new : Machine) (readings : List Reading) (regs : Regs) (memory : Ram)
    → IsAt t machine readings
    → machine.end ≡ Running
    → Calls n (record { regs = view_of regs.r; memory = words_of memory })
    ≡ step free (record { regs = view_of machine.regs.r; memory = words_of machine.memory })
    → ((u : Ideal) → IsAt u (moved_to machine regs memory) readings → IsAt (served n u) new readings) → IsAt (next t) new readings
turned_to_service n t machine new readings regs memory at runs e go =
    subst (λ (u : Ideal). IsAt u new readings) (sym (next-at t machine readings _ at runs e))
    (go _ (moved-at t machine readings regs memory at))

refused-at : (t : Ideal) (machine : Machine) (readings : List Reading) (regs : Regs) (memory : Ram) → regs ≡ machine.regs
    → words_of memory ≡ words_of machine.memory → IsAt t machine readings → IsAt t (moved_to machine regs memory) readings
refused-at t machine readings regs memory r m at = record {
  regs = at.regs ∙ sym (ap (λ (x : Regs). view_of x.r) r);
  memory = at.memory ∙ sym m;
  segment = at.segment;
  block = at.block;
  marks = at.marks;
  left = at.left;
  status = at.status;
  small = at.small;
  within = at.within;
}

pub turned_wild : (a : ℕ) (t : Ideal) (machine new : Machine) (readings : List Reading) (regs : Regs) (memory : Ram)
    → IsAt t machine readings
    → machine.end ≡ Running → regs ≡ machine.regs → words_of memory ≡ words_of machine.memory
    → Wild a ≡ step free (record { regs = view_of machine.regs.r; memory = words_of machine.memory })
    → ((u : Ideal) → IsAt u (moved_to machine regs memory) readings → IsAt (stopped u (Ended (WildAt a))) new readings)
    → IsAt (next t) new readings
turned_wild a t machine new readings regs memory at runs r m e go =
    subst (λ (u : Ideal). IsAt u new readings) (sym (next-at t machine readings _ at runs e))
    (go t (refused-at t machine readings regs memory r m at))

-- ---- the loop

pub run_turn : (n : ℕ) (t : Ideal) (machine new : Machine) (readings : List Reading) → IsAt (run n t) machine readings
    → ((u : Ideal) → IsAt u machine readings → IsAt (next u) new readings) → IsAt (run (n + 1) t) new readings
run_turn n t machine new readings at go =
    subst (λ (x : ℕ). IsAt (run x t) new readings) (sym (add-one n)) (go (run n t) at)

pub run_over : (n i : ℕ) (t : Ideal) (machine : Machine) (readings : List Reading) → n ≤ i → IsAt (run n t) machine readings
    → (machine.end ≡ Running → ⊥) → IsAt (run i t) machine readings
run_over n i t machine readings l at h =
    subst (λ (u : Ideal). IsAt u machine readings) (sym (run-stopped n i t l (λ e. h (sym at.status ∙ e)))) at

-- the answer of a run
pub state_of-at : (t : Ideal) (machine : Machine) (readings : List Reading) (words : List ℕ) → IsAt t machine readings
    → words ≡ machine.memory
    → length words ≡ 32768 → IsStateOf t
    (record { regs = machine.regs; words = words; services = machine.marks; end = machine.end })
state_of-at t machine readings words at e l = record {
  regs = sym at.regs;
  memory = ap words_of e ∙ sym at.memory;
  words = l;
  services = sym at.marks;
  end = sym at.status;
}

-- Runs of several steps, and which bytes they use and change.
use Rattle.std.specs.Prelude.{◌≡◌, ◌<◌, ◌≤◌, ℕ, ◌+◌, zero, suc, Bool, true, false, IsTrue}
use Rattle.isa430.specs.declared.instr.OneOp.{OneOp}
use Rattle.isa430.specs.declared.instr.OneOp.TheVariants.{Rrc, Swpb, Rra, Sxt, Push, Call}
use Rattle.core430.specs.declared.machine.Stepped.{Stepped}
use Rattle.core430.specs.declared.machine.Stepped.TheVariants.{Next as WentOn, Service as Called, Wild as WentWild}
use Rattle.core430.specs.declared.operand.Place.{Place}
use Rattle.core430.specs.declared.operand.Place.TheVariants.{InRegister, InMemory, Given}
use Rattle.core430.specs.Instructions.{lowered}
use Rattle.core430.specs.Step.{State, Outcome, Next, Service, Wild, step}
use Rattle.core430.specs.Uses.{step_uses, step_changes}

-- what comes after an outcome that goes on
abbrev pub then_run : Outcome → (State → Outcome) → Outcome
then_run (Next s) go = go s
then_run (Service n s) go = Service n s
then_run (Wild a) go = Wild a

-- at most n instructions: fewer where a service is called or an access is refused
abbrev pub run : (ℕ → Bool) → ℕ → State → Outcome
run denied zero s = Next s
run denied (suc n) s = then_run (step denied s) (run denied n)

-- every byte of this set is such
abbrev pub AreIn : (ℕ → Bool) → (ℕ → Type 0) → Type 0
AreIn p P = (b : ℕ) → p b ≡ true → P b

-- the next step uses only bytes of R, those of its own words among them, and changes only bytes of W
abbrev pub Touches : (ℕ → Type 0) → (ℕ → Type 0) → State → Type 0
Touches R W s = AreIn (step_uses s) R × AreIn (step_changes s) W

-- one step goes from s to t and touches only such bytes
pub record StepTo (denied : ℕ → Bool) (R W : ℕ → Type 0) (s t : State) : Type 0 where
  pub goes : step denied s ≡ Next t
  pub touches : Touches R W s

-- n steps go from s to t and touch only such bytes
abbrev pub Runs : (ℕ → Bool) → (ℕ → Type 0) → (ℕ → Type 0) → ℕ → State → State → Type 0
Runs denied R W zero s t = s ≡ t
Runs denied R W (suc n) s t = (u : State) × StepTo denied R W s u × Runs denied R W n u t

-- the same, with SP at most at this address after each step
abbrev pub SteadyRuns : (ℕ → Bool) → (ℕ → Type 0) → (ℕ → Type 0) → ℕ → ℕ → State → State → Type 0
SteadyRuns denied R W top zero s t = s ≡ t
SteadyRuns denied R W top (suc n) s t = (u : State) × StepTo denied R W s u × (u.regs 1 ≤ top) × SteadyRuns denied R W top n u t

-- one step calls service n, and t is what the service finds
pub record CallsService (denied : ℕ → Bool) (R W : ℕ → Type 0) (n : ℕ) (s t : State) : Type 0 where
  pub calls : step denied s ≡ Service n t
  pub touches : Touches R W s

-- a state that fewer than n steps lead to, and whose next step is refused at an address
abbrev pub IsRefused : (ℕ → Bool) → ℕ → State → State → ℕ → Type 0
IsRefused denied n s t a = (k : ℕ) × (k < n) × (run denied k s ≡ Next t) × (step denied t ≡ Wild a)

-- a run that was refused left the state that the refused step found
abbrev pub OnRefusal : Stepped → (ℕ → Bool) → ℕ → State → State → Type 0
OnRefusal WentOn denied n s t = Unit {0}
OnRefusal (Called number) denied n s t = Unit {0}
OnRefusal (WentWild address) denied n s t = IsRefused denied n s t address

-- every byte
abbrev pub AnyByte : ℕ → Type 0
AnyByte b = Unit {0}

-- the addresses that a test names
abbrev pub Named : (ℕ → Bool) → ℕ → Type 0
Named test b = IsTrue (test b)

-- all bytes that an access of this width takes at a place are such
abbrev pub Covers : (ℕ → Type 0) → Bool → Place → Type 0
Covers P byte (InRegister n) = Unit {0}
Covers P true (InMemory a) = P a
Covers P false (InMemory a) = P a × P (a + 1)
Covers P byte (Given v) = Unit {0}

-- the same, where the place counts
abbrev pub CoversIf : (ℕ → Type 0) → Bool → Bool → Place → Type 0
CoversIf P true byte p = Covers P byte p
CoversIf P false byte p = Unit {0}

-- the place that an instruction of one operand changes: for PUSH and CALL the word below SP
abbrev pub CoversChange : (ℕ → Type 0) → OneOp → Bool → (ℕ → ℕ) → Place → Type 0
CoversChange P Rrc byte r p = Covers P byte p
CoversChange P Swpb byte r p = Covers P byte p
CoversChange P Rra byte r p = Covers P byte p
CoversChange P Sxt byte r p = Covers P byte p
CoversChange P Push byte r p = Covers P false (InMemory (lowered (r 1)))
CoversChange P Call byte r p = Covers P false (InMemory (lowered (r 1)))

-- What the code's types stand for.
use Rattle.std.specs.Prelude.{◌≡◌, ℕ, ◌%◌, Bool, false}
use Rattle.base16.specs.Memory.{put}
use Rattle.core430.specs.declared.change.Change.{Change}
use Rattle.core430.specs.declared.change.Change.TheVariants.{Sets as SetsRegisters, Stores as StoresWord, Faults as FaultsAt}
use Rattle.core430.specs.declared.machine.Stepped.{Stepped}
use Rattle.core430.specs.declared.machine.Stepped.TheVariants.{Next as WentOn, Service as Called, Wild as WentWild}
use Rattle.core430.specs.Instructions.{Effect, Sets, Stores, Faults}
use Rattle.core430.specs.Step.{Outcome, Next, Service, Wild}

-- a change, with the registers that it leaves
abbrev pub effect_shown : Change → (ℕ → ℕ) → Effect
effect_shown SetsRegisters r = Sets r
effect_shown (StoresWord address word) r = Stores r address word
effect_shown (FaultsAt address) r = Faults address

-- an answer, with the registers and the memory that it leaves
abbrev pub outcome_shown : Stepped → (ℕ → ℕ) → (ℕ → ℕ) → Outcome
outcome_shown WentOn r m = Next (record { regs = r; memory = m })
outcome_shown (Called number) r m = Service number (record { regs = r; memory = m })
outcome_shown (WentWild address) r m = Wild address

-- a fact for a service that was called, of its number
abbrev pub OnService : Stepped → (ℕ → Type 0) → Type 0
OnService WentOn P = Unit {0}
OnService (Called number) P = P number
OnService (WentWild address) P = Unit {0}

-- a fact for an access that was refused
abbrev pub OnWild : Stepped → Type 0 → Type 0
OnWild WentOn P = Unit {0}
OnWild (Called number) P = Unit {0}
OnWild (WentWild address) P = P

-- nothing was refused
abbrev pub IsTame : Stepped → Type 0
IsTame WentOn = Unit {0}
IsTame (Called number) = Unit {0}
IsTame (WentWild address) = ⊥

-- a memory before and after: the same, or with one word put at an even address that is not denied
pub data AtMostOnePut (denied : ℕ → Bool) (before after : ℕ → ℕ) : Type 0 where
  NoPut : after ≡ before → AtMostOnePut denied before after
  OnePut : (address word : ℕ) → address % 2 ≡ 0 → denied address ≡ false → after ≡ put before address word → AtMostOnePut denied before after

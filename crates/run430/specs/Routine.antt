-- Stretches of a run, and what a routine does that is called with arguments in R12 and R13 and answers in R12.
use Rattle.std.specs.Prelude.{◌≡◌, ◌⊎◌, ◌<◌, ◌≤◌, ℕ, ◌+◌, ◌*◌, ◌/◌, ◌%◌, Bool, false, List, [], ◌∷◌, length}
use Rattle.isa430.specs.Table.{WordsAt}
use Rattle.core430.specs.Instructions.{lowered}
use Rattle.core430.specs.Step.{State, arrive, step}
use Rattle.run430.specs.Run.{Runs, SteadyRuns, Touches}

-- at most so many steps lead to a state that is such
pub record Goes (denied : ℕ → Bool) (R W : ℕ → Type 0) (limit : ℕ) (s : State) (Q : State → Type 0) : Type 0 where
  pub steps : ℕ
  pub within : steps ≤ limit
  pub end : State
  pub runs : Runs denied R W steps s end
  pub so : Q end

-- a call of the routine whose words stand at base, in the code range, with x in R12 and y in R13. The return word and
-- the word below it may be written and lie outside the routine's words
pub record IsCall (denied : ℕ → Bool) (ws : List ℕ) (base x y : ℕ) (s : State) : Type 0 where
  pub words : WordsAt s.memory base ws
  pub place : s.regs 0 ≡ base
  pub base_even : base % 2 ≡ 0
  pub base_low : 32768 ≤ base
  pub base_high : base + 2 * length ws ≤ 61440
  pub stack_word : s.regs 1 < 65536
  pub stack_even : s.regs 1 % 2 ≡ 0
  pub stack_apart : (s.regs 1 < base) ⊎ (base + 2 * length ws ≤ s.regs 1)
  pub below_apart : (lowered (s.regs 1) < base) ⊎ (base + 2 * length ws ≤ lowered (s.regs 1))
  pub stack_may : denied (s.regs 1) ≡ false
  pub below_may : denied (lowered (s.regs 1)) ≡ false
  pub first : s.regs 12 ≡ x
  pub first_word : x < 65536
  pub second : s.regs 13 ≡ y
  pub second_word : y < 65536

-- the bytes that a routine may use: those of its own words and of its return word
abbrev pub RoutineReads : ℕ → ℕ → ℕ → ℕ → Type 0
RoutineReads base size sp b = ((base ≤ b) × (b < base + size)) ⊎ ((b ≡ sp) ⊎ (b ≡ sp + 1))

-- the bytes of the word below its return word are all that it may change
abbrev pub RoutineWrites : ℕ → ℕ → Type 0
RoutineWrites sp b = (b ≡ lowered sp) ⊎ (b ≡ lowered sp + 1)

-- the bits of SR that are no flags: all but C, Z, N and V
unfoldable pub without_flags : ℕ → ℕ
without_flags status = status / 512 * 512 + status / 8 % 32 * 8

-- these registers are as they were
abbrev pub Keeps : List ℕ → (ℕ → ℕ) → (ℕ → ℕ) → Type 0
Keeps [] before r = Unit {0}
Keeps (n ∷ ns) before r = (r n ≡ before n) × Keeps ns before r

-- and so is SR but for its flags
abbrev pub IsKept : List ℕ → (ℕ → ℕ) → (ℕ → ℕ) → Type 0
IsKept ns before r = (without_flags (r 2) ≡ without_flags (before 2)) × Keeps ns before r

-- fewer steps than this, after each of which SP is at the return word or below it, and then one that takes the return word
-- to PC and leaves SP just past it. The answer is in R12. The registers of the list `same` and all of SR but its flags are
-- as they were; of the others nothing is said
pub record ComesBack (denied : ℕ → Bool) (R W : ℕ → Type 0) (limit answer : ℕ) (same : List ℕ) (s : State) : Type 0 where
  pub steps : ℕ
  pub within : steps < limit
  pub last : State
  pub runs : SteadyRuns denied R W (s.regs 1) steps s last
  pub end : State
  pub returns : step denied last ≡ arrive end.regs end.memory
  pub touches : Touches R W last
  pub back : end.regs 0 ≡ s.memory (s.regs 1)
  pub stack : end.regs 1 ≡ (s.regs 1 + 2) % 65536
  pub answers : end.regs 12 ≡ answer
  pub kept : IsKept same s.regs end.regs

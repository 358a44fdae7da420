-- What the words of each helper routine do, wherever they are placed and from wherever they are called.
use Rattle.std.specs.Prelude.{ℕ, ◌+◌, ◌*◌, Bool, List, [], ◌∷◌, length}
use Rattle.core430.specs.Step.{State}
use Rattle.run430.specs.Routine.{IsCall, ComesBack, RoutineReads, RoutineWrites}
use Rattle.rt430.specs.declared.words.Helper.{Helper}
use Rattle.rt430.specs.declared.words.Helper.TheVariants.{Mul16, Udiv16, Umod16, Sdiv16, Smod16, Shl, Shr, Sar}
use Rattle.rt430.specs.Operators.{value, HasValue}

-- the registers that each routine leaves as they were
abbrev pub always_kept : List ℕ
always_kept = 3 ∷ 4 ∷ 5 ∷ 6 ∷ 7 ∷ 8 ∷ 9 ∷ 10 ∷ []

abbrev pub kept_by : Helper → List ℕ
kept_by Mul16 = 11 ∷ 15 ∷ always_kept
kept_by Udiv16 = 11 ∷ 13 ∷ always_kept
kept_by Umod16 = 11 ∷ 13 ∷ always_kept
kept_by Sdiv16 = always_kept
kept_by Smod16 = always_kept
kept_by Shl = 11 ∷ 14 ∷ 15 ∷ always_kept
kept_by Shr = 11 ∷ 14 ∷ 15 ∷ always_kept
kept_by Sar = 11 ∷ 14 ∷ 15 ∷ always_kept

-- it comes back with this answer in R12 within 400 instructions and keeps these registers and SR but for its flags. From
-- the call to the return SP is at the return word or below it, no byte is used but those of its own words and of its return
-- word, and none changed but, at most, those of the word below that
abbrev pub Answers : Helper → (ℕ → Bool) → List ℕ → ℕ → ℕ → State → Type 0
Answers which denied ws base answer s =
    ComesBack denied (RoutineReads base (2 * length ws) (s.regs 1)) (RoutineWrites (s.regs 1)) 400 answer (kept_by which) s

-- it comes back for any arguments at all
abbrev pub Returns : Helper → List ℕ → Type 0
Returns which ws = (denied : ℕ → Bool) (base x y : ℕ) (s : State) → IsCall denied ws base x y s → (answer : ℕ) × Answers which denied ws base answer s

-- and with the operator's value, where it has one
abbrev pub Computes : Helper → List ℕ → Type 0
Computes which ws = (denied : ℕ → Bool) (base x y : ℕ) (s : State) → IsCall denied ws base x y s → HasValue which x y → Answers which denied ws base (value which x y) s

-- how many words each routine has
abbrev pub size : Helper → ℕ
size Mul16 = 11
size Udiv16 = 13
size Umod16 = 14
size Sdiv16 = 27
size Smod16 = 27
size Shl = 7
size Shr = 8
size Sar = 7

-- and all eight
abbrev pub total_size : ℕ
total_size = size Mul16 + size Udiv16 + size Umod16 + size Sdiv16 + size Smod16 + size Shl + size Shr + size Sar

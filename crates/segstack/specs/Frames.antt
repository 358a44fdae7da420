-- The services `enter` and `leave` as a stack of frames, each where the placement says.
use Rattle.std.specs.Prelude.{◌≡◌, ℕ, ◌+◌, ◌-◌, ◌%◌, ◌≤◌, ◌⊎◌, nat_eq, if◌then◌else◌, List, [], ◌∷◌, Option, Some, None}
use Rattle.base16.specs.Board.{stack_start, stack_end, segment_bytes, first_stack_pointer}
use Rattle.base16.specs.declared.end.EndKind.TheVariants.{StackFull}
use Rattle.core430.specs.Registers.{set_reg}
use Rattle.ideal430.specs.Places.{segment_of}
use Rattle.ideal430.specs.Service.{Deed, Refuses, Does, mark, popped}
use Rattle.ideal430.specs.declared.service.Store.TheVariants.{Link}

-- Where SP stands in a function that calls: at the first address of its frame, or at the top of segment 0 before `main`. The
-- return words of the call and of its service fit below it in the same segment.
pub record IsCaller (sp : ℕ) : Type 0 where
  pub even : sp % 2 ≡ 0
  pub above : stack_start + 4 ≤ sp
  pub below : sp ≤ stack_end
  pub room : 4 ≤ (sp - 2) % segment_bytes + 2
  -- only in segment 0 does nothing stand above, as the link word of a later segment does
  pub top : sp % segment_bytes ≡ 0 → sp ≡ first_stack_pointer

-- the segment that works then: that of the word below SP
abbrev pub working : (sp : ℕ) → ℕ
working sp = segment_of (sp - 2)

-- What `enter` does where its frame goes to an address: SP goes there, and the segment of the frame works. Where that is the
-- next one, the link word behind the frame says where the function's return word stands.
abbrev pub entered : (r m : ℕ → ℕ) → Option ℕ → Deed
entered r m None = Refuses StackFull
entered r m (Some at) =
    Does (mark (set_reg (popped r m) 1 at) (working at)
    (if nat_eq (working at) (working (r 1 + 4)) then [] else Link (at + r 15) (r 1 + 2) ∷ []))

-- a frame in the same segment as its return word, or with the link word behind it
abbrev pub IsLinked : (m : ℕ → ℕ) (sp at bytes : ℕ) → Type 0
IsLinked m sp at bytes = (working at ≡ working sp) ⊎ (m (at + bytes) ≡ sp - 2)

-- What `leave` does: SP goes back to where it stood in the caller, the caller's segment works, and the function's return
-- word is the program counter. The run is over where the outermost function was left.
abbrev pub left : (r m : ℕ → ℕ) (sp : ℕ) → Deed
left r m sp =
    Does (record (mark (set_reg (set_reg (popped r m) 0 (m (sp - 2))) 1 sp) (working sp) [])
    { ends = nat_eq sp first_stack_pointer })

-- where the youngest of these frames stands, or SP where there is none
abbrev pub youngest : (sp : ℕ) → List ℕ → ℕ
youngest sp [] = sp
youngest sp (at ∷ rest) = youngest at rest

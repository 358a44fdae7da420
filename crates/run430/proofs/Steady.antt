-- The rules once more for runs that keep SP at or below an address: each takes the fact that SP is there after its step.
use Rattle.std.proofs.Common.{◌≡◌, ℕ, suc, ◌+◌, ◌<◌, ◌≤◌, refl, Bool, false}
use Rattle.std.specs.Prelude.{if◌then◌else◌, ℤ}
use Rattle.base16.specs.Memory.{put}
use Rattle.isa430.specs.declared.instr.TwoOp.{TwoOp}
use Rattle.isa430.specs.declared.instr.OneOp.{OneOp}
use Rattle.isa430.specs.declared.instr.Src.{Src}
use Rattle.isa430.specs.declared.instr.Dst.{Dst}
use Rattle.isa430.specs.declared.instr.Cond.{Cond}
use Rattle.isa430.specs.declared.instr.Instr.TheVariants.{Two, One, Jump}
use Rattle.isa430.specs.Table.{size_of}
use Rattle.core430.specs.declared.operand.Place.{Place}
use Rattle.core430.specs.Registers.{set_reg}
use Rattle.core430.specs.Operands.{raised}
use Rattle.core430.specs.Instructions.{Sets, Stores, is_taken, jump_target}
use Rattle.core430.specs.Step.{State}
use Rattle.core430.specs.Uses.{uses_destination}
use Rattle.run430.specs.Run.{SteadyRuns, Covers, CoversIf, CoversChange}
use Rattle.run430.specs.Code.{Agrees, Here, Owns}
use Rattle.run430.proofs.Compose.{steadily}
use Rattle.run430.proofs.Rules.{Source, Target, next, two_at, one_at, two_sets, two_stores, two_goes, one_sets, one_stores, jump}

module _ (denied : ℕ → Bool) (R W : ℕ → Type 0) (c : ℕ → ℕ) (lo hi : ℕ) (own : Owns R lo hi) (top : ℕ) where
  pub steady_sets : (n : ℕ) (r m : ℕ → ℕ) (t : State) (op : TwoOp) (byte : Bool) (src : Src) (dst : Dst) (p q : Place) (r2 : ℕ → ℕ) → Agrees c lo hi m → Here c lo hi (r 0) (Two op byte src dst) → Source byte (next (Two op byte src dst) r) src p → Target byte (next (Two op byte src dst) r) dst q → two_at op byte src dst r m p q ≡ Sets r2 → Covers R byte p → CoversIf R (uses_destination op) byte q → r2 0 ≡ r 0 + size_of (Two op byte src dst) → r2 1 ≤ top → SteadyRuns denied R W top n (record { regs = r2; memory = m }) t → SteadyRuns denied R W top (suc n) (record { regs = r; memory = m }) t
  steady_sets n r m t op byte src dst p q r2 g h sp dp x ra rb low up rest =
      steadily denied R W top n _ _ t (two_sets denied R W c lo hi own 0 r m (record { regs = r2; memory = m }) op byte src dst p q r2 g h sp dp x ra rb low refl) up rest

  pub steady_stores : (n : ℕ) (r m : ℕ → ℕ) (t : State) (op : TwoOp) (byte : Bool) (src : Src) (dst : Dst) (p q : Place) (r2 : ℕ → ℕ) (a w : ℕ) → Agrees c lo hi m → Here c lo hi (r 0) (Two op byte src dst) → Source byte (next (Two op byte src dst) r) src p → Target byte (next (Two op byte src dst) r) dst q → two_at op byte src dst r m p q ≡ Stores r2 a w → Covers R byte p → CoversIf R (uses_destination op) byte q → Covers W byte q → denied a ≡ false → r2 0 ≡ r 0 + size_of (Two op byte src dst) → r2 1 ≤ top → SteadyRuns denied R W top n (record { regs = r2; memory = put m a w }) t → SteadyRuns denied R W top (suc n) (record { regs = r; memory = m }) t
  steady_stores n r m t op byte src dst p q r2 a w g h sp dp x ra rb wa ok low up rest =
      steadily denied R W top n _ _ t (two_stores denied R W c lo hi own 0 r m (record { regs = r2; memory = put m a w }) op byte src dst p q r2 a w g h sp dp x ra rb wa ok low refl) up rest

  pub steady_goes : (n : ℕ) (r m : ℕ → ℕ) (t : State) (op : TwoOp) (byte : Bool) (src : Src) (dst : Dst) (p q : Place) (r2 : ℕ → ℕ) → Agrees c lo hi m → Here c lo hi (r 0) (Two op byte src dst) → Source byte (next (Two op byte src dst) r) src p → Target byte (next (Two op byte src dst) r) dst q → two_at op byte src dst r m p q ≡ Sets r2 → Covers R byte p → CoversIf R (uses_destination op) byte q → r2 0 < 65280 → r2 1 ≤ top → SteadyRuns denied R W top n (record { regs = r2; memory = m }) t → SteadyRuns denied R W top (suc n) (record { regs = r; memory = m }) t
  steady_goes n r m t op byte src dst p q r2 g h sp dp x ra rb low up rest =
      steadily denied R W top n _ _ t (two_goes denied R W c lo hi own 0 r m (record { regs = r2; memory = m }) op byte src dst p q r2 g h sp dp x ra rb low refl) up rest

  pub steady_one_sets : (n : ℕ) (r m : ℕ → ℕ) (t : State) (op : OneOp) (byte : Bool) (src : Src) (p : Place) (r2 : ℕ → ℕ) → Agrees c lo hi m → Here c lo hi (r 0) (One op byte src) → Source byte (next (One op byte src) r) src p → one_at op byte src r m p ≡ Sets r2 → Covers R byte p → r2 0 ≡ r 0 + size_of (One op byte src) → r2 1 ≤ top → SteadyRuns denied R W top n (record { regs = r2; memory = m }) t → SteadyRuns denied R W top (suc n) (record { regs = r; memory = m }) t
  steady_one_sets n r m t op byte src p r2 g h sp x ra low up rest =
      steadily denied R W top n _ _ t (one_sets denied R W c lo hi own 0 r m (record { regs = r2; memory = m }) op byte src p r2 g h sp x ra low refl) up rest

  pub steady_one_stores : (n : ℕ) (r m : ℕ → ℕ) (t : State) (op : OneOp) (byte : Bool) (src : Src) (p : Place) (r2 : ℕ → ℕ) (a w : ℕ) → Agrees c lo hi m → Here c lo hi (r 0) (One op byte src) → Source byte (next (One op byte src) r) src p → one_at op byte src r m p ≡ Stores r2 a w → Covers R byte p → CoversChange W op byte (raised byte (next (One op byte src) r) src) p → denied a ≡ false → r2 0 < 65280 → r2 1 ≤ top → SteadyRuns denied R W top n (record { regs = r2; memory = put m a w }) t → SteadyRuns denied R W top (suc n) (record { regs = r; memory = m }) t
  steady_one_stores n r m t op byte src p r2 a w g h sp x ra wa ok low up rest =
      steadily denied R W top n _ _ t (one_stores denied R W c lo hi own 0 r m (record { regs = r2; memory = put m a w }) op byte src p r2 a w g h sp x ra wa ok low refl) up rest

  pub steady_jump : (n : ℕ) (r m : ℕ → ℕ) (t : State) (k : Cond) (o : ℤ) (b : Bool) (a : ℕ) → Agrees c lo hi m → Here c lo hi (r 0) (Jump k o) → is_taken k (r 2) ≡ b → jump_target (r 0 + 2) o ≡ a → a < 65280 → r 1 ≤ top → SteadyRuns denied R W top n (record { regs = set_reg r 0 (if b then a else (r 0 + 2)); memory = m }) t → SteadyRuns denied R W top (suc n) (record { regs = r; memory = m }) t
  steady_jump n r m t k o b a g h is at low up rest =
      steadily denied R W top n _ _ t (jump denied R W c lo hi own 0 r m (record { regs = set_reg r 0 (if b then a else (r 0 + 2)); memory = m }) k o b a g h is at low refl) up rest

-- R3 to R10 stay with every routine.
use Rattle.std.proofs.Common.{◌≡◌, ℕ, ◌<◌, ◌≤◌, arith}
use Rattle.std.specs.Prelude.{nat_eq, IsTrue}
use Rattle.std.specs.List.{list_any}
use Rattle.std.proofs.lemmas.Bool.Decides.{nat_tests}
use Rattle.run430.specs.Routine.{Keeps}
use Rattle.run430.proofs.Return.{keeps}
use Rattle.rt430.specs.declared.words.Helper.{Helper}
use Rattle.rt430.specs.declared.words.Helper.TheVariants.{Mul16, Udiv16, Umod16, Sdiv16, Smod16, Shl, Shr, Sar}
use Rattle.rt430.specs.Routines.{always_kept, kept_by}

listed : (n : ℕ) → 3 ≤ n → n < 11 → IsTrue (list_any (nat_eq n) always_kept)
listed n l h = grind (arith, nat_tests)

pub always_keeps : (which : Helper) (n : ℕ) (before r : ℕ → ℕ) → 3 ≤ n → n < 11 → Keeps (kept_by which) before r → r n ≡ before n
always_keeps Mul16 n before r l h k = keeps always_kept n before r (listed n l h) k.1.1
always_keeps Udiv16 n before r l h k = keeps always_kept n before r (listed n l h) k.1.1
always_keeps Umod16 n before r l h k = keeps always_kept n before r (listed n l h) k.1.1
always_keeps Sdiv16 n before r l h k = keeps always_kept n before r (listed n l h) k
always_keeps Smod16 n before r l h k = keeps always_kept n before r (listed n l h) k
always_keeps Shl n before r l h k = keeps always_kept n before r (listed n l h) k.1.1.1
always_keeps Shr n before r l h k = keeps always_kept n before r (listed n l h) k.1.1.1
always_keeps Sar n before r l h k = keeps always_kept n before r (listed n l h) k.1.1.1

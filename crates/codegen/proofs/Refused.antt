-- The walk that looks for a frame that is too big.
use Rattle.std.proofs.Common.{◌≡◌, ℕ, zero, suc, ◌+◌, ◌<◌, ◌≤◌, List, [], ◌∷◌, length, drop, slice_get, ap, arith, add-one, Bool, true, false, nat_lt, if◌then◌else◌}
use Rattle.std.proofs.lemmas.Bool.Decides.{nat_tests}
use Rattle.std.specs.Prelude.{Some}
use Rattle.core_tree.specs.Heights.{frame_bytes, capped, of_function, told_frame}
use Rattle.core_tree.specs.declared.program.Core.{Core}
use Rattle.core_tree.specs.declared.program.Function.{Function}
use Rattle.core_tree.specs.declared.types.Struct.{Struct}
use Rattle.codegen.specs.Refused.{big_frame}

over : (n : ℕ) → 240 < capped n → nat_lt 240 n ≡ true
over n l = grind (arith, nat_tests)

within : (n : ℕ) → capped n ≤ 240 → nat_lt 240 n ≡ false
within n l = grind (arith, nat_tests)

found : (structs : List Struct) (fs : List Function) (i n : ℕ) → i < length fs
    → 240 < of_function (frame_bytes structs) (slice_get fs i) → big_frame structs n (drop i fs) ≡ Some n
found structs [] i n h b = absurd (omega arith)
found structs (x ∷ xs) zero n h b =
    ap (λ (t : Bool). if t then Some n else big_frame structs (suc n) xs) (over (frame_bytes structs x) b)
found structs (x ∷ xs) (suc i) n h b = found structs xs i n (omega arith) b

past : (structs : List Struct) (fs : List Function) (i n : ℕ) → i < length fs
    → of_function (frame_bytes structs) (slice_get fs i) ≤ 240
    → big_frame structs n (drop i fs) ≡ big_frame structs (suc n) (drop (suc i) fs)
past structs [] i n h b = absurd (omega arith)
past structs (x ∷ xs) zero n h b =
    ap (λ (t : Bool). if t then Some n else big_frame structs (suc n) xs) (within (frame_bytes structs x) b)
past structs (x ∷ xs) (suc i) n h b = past structs xs i n (omega arith) b

-- at the place of a walk a frame that is too big is the first one
pub frame_found : (core : Core) (i : ℕ) → i < length core.functions → 240 < told_frame core i
    → big_frame core.structs i (drop i core.functions) ≡ Some i
unfolding told_frame
frame_found core i h b = found core.structs core.functions i i h b

-- and one that is not is passed over
pub frame_past : (core : Core) (i : ℕ) → i < length core.functions → told_frame core i ≤ 240
    → big_frame core.structs i (drop i core.functions) ≡ big_frame core.structs (i + 1) (drop (i + 1) core.functions)
unfolding told_frame
frame_past core i h b = rw (add-one) (past core.structs core.functions i i h b)

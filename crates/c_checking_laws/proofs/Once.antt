-- The names at file scope stand once each, and `main` is there.
use Rattle.std.proofs.Common.{bytes_eq, codes, ◌≡◌, ℕ, suc, Bool, true, false, ◌&&◌, ◌||◌, cond, List, [], ◌∷◌, slice_get, Some, Ok, refl, subst, rules}
use Rattle.std.proofs.lemmas.Slice.Eq.{bytes_eq-Decides}
use Rattle.base16.specs.declared.integer.IntType.TheVariants.{Int}
use Rattle.core_tree.specs.declared.types.Ty.{Ty}
use Rattle.core_tree.specs.declared.types.Ty.TheVariants as ty
use Rattle.core_tree.specs.declared.program.Function.{Function}
use Rattle.core_tree.specs.LawfulCore.{IsMain}
use Rattle.core_tree.specs.Types.{same}
use Rattle.c_typing_laws.proofs.Same.{both_hold, same_is}
use Rattle.c_typing.specs.declared.fault.Rule.TheVariants.{NoMain}
use Rattle.c_typing.specs.Outcome.{broken}
use Rattle.c_checking.specs.declared.draft.Draft.{Draft}
use Rattle.c_checking.specs.Checked.{is_empty, is_main, has_main}
use Rattle.c_checking_laws.specs.Walked.{MainIsThere}

-- ---- `main`

no_params : (ts : List Ty) → is_empty ts ≡ true → ts ≡ []
no_params [] is = refl
no_params (t ∷ ts) is = absurd (search rules)

main_by : (f : Function) → is_main f ≡ true → IsMain f
main_by f is =
    let v = both_hold (bytes_eq f.name (codes "main") && is_empty f.params) (same f.result (ty.Num Int)) is in
    let w = both_hold (bytes_eq f.name (codes "main")) (is_empty f.params) v.0 in
    ((bytes_eq-Decides f.name (codes "main")).0 w.0, no_params f.params w.1, same_is f.result (ty.Num Int) v.1)

abbrev HasMain : List Function → Type 0
HasMain fs = (n : ℕ) × ((f : Function) × ((slice_get fs n ≡ Some f) × IsMain f))

main_of : (f : Function) (fs : List Function) (b : Bool) → is_main f ≡ b → (b || has_main fs) ≡ true
    → (has_main fs ≡ true → HasMain fs) → HasMain (f ∷ fs)
main_of f fs true at_b is deeper = (0, (f, (refl, main_by f at_b)))
main_of f fs false at_b is deeper = let w = deeper is in (suc w.0, w.1)

main_in : (fs : List Function) → has_main fs ≡ true → HasMain fs
main_in [] is = absurd (search rules)
main_in (f ∷ fs) is = main_of f fs (is_main f) refl is (λ at. main_in fs at)

with_main_by : (d last : Draft) (b : Bool) → has_main d.functions ≡ b → cond b (Ok d) (broken NoMain 0) ≡ Ok last
    → (has_main d.functions ≡ true) × (d ≡ last)
with_main_by d last true at_b is = (at_b, cc)
with_main_by d last false at_b is = absurd (search rules)

pub main_is_there : (d last : Draft) → MainIsThere d last
main_is_there d last is =
    let w = with_main_by d last (has_main d.functions) refl is in
    subst (λ (z : Draft). HasMain z.functions) w.1 (main_in d.functions w.0)

-- A run of which no mark is asked, and one of a program that has no `main`.
use Rattle.std.proofs.Common.{◌≡◌, ℕ, suc, ◌-◌, ◌<◌, List, slice_get, Some, None, ap, ◌∙◌, refl, arith}
use Rattle.base16.specs.declared.reading.Reading.{Reading}
use Rattle.core_tree.specs.declared.program.Core.{Core}
use Rattle.c_meaning.specs.declared.outcome.CState.TheVariants as state
use Rattle.c_meaning.specs.After.{main_in, main_run, main_from, start, start_run, stop_of, stop_at, shown, after}

module _ (K : Core) (R : List Reading) where
  pub at_start : (s : ℕ) → s ≡ 0 → after K R s ≡ state.Live (start K)
  unfolding stop_at
  at_start s e = ap (λ k. after K R k) e

  pub no_main : (s : ℕ) → 0 < s → main_from 0 K.functions ≡ None → after K R s ≡ state.Undefined 0 0
  unfolding stop_at main_run
  no_main s h e =
      let more : s ≡ suc (s - 1) = omega arith in
      ap (λ k. after K R k) more ∙ ap (λ o. shown (stop_of K R (main_run K R o (start_run K R (s - 1))))) e

  pub no_function : (s n : ℕ) → 0 < s → main_from 0 K.functions ≡ Some n → slice_get K.functions n ≡ None → after K R s ≡ state.Undefined 0 0
  unfolding stop_at main_run main_in
  no_function s n h e none =
      let more : s ≡ suc (s - 1) = omega arith in
      ap (λ k. after K R k) more
      ∙ ap (λ o. shown (stop_of K R (main_run K R o (start_run K R (s - 1))))) e
      ∙ ap (λ o. shown (stop_of K R (main_in K R n o (start_run K R (s - 1))))) none

pub starts_unmarked : (K : Core) → (start K).marks ≡ 0
unfolding start
starts_unmarked K = refl

-- How the run stops, in another way: at a greater number of marks, with more depth and turns, and with other readings
-- behind those that were taken.
use Rattle.std.proofs.Common.{◌≡◌, ℕ, zero, suc, ◌+◌, ◌≤◌, ◌<◌, Bool, true, false, List, [], ◌∷◌, ◌++◌, Option, Some, None, subst, sym, ap, ◌∙◌, refl, arith}
use Rattle.std.specs.Prelude.{slice_get, length}
use Rattle.base16.specs.declared.reading.Reading.{Reading}
use Rattle.core_tree.specs.declared.program.Core.{Core}
use Rattle.core_tree.specs.declared.program.Function.{Function}
use Rattle.c_values.specs.declared.value.Value.{Value}
use Rattle.c_values.specs.declared.state.State.{State}
use Rattle.c_run.specs.Runs.{Run, Stop, Live, Ended, NeedsReading, Undefined, Wrong, Outcome, Went, Stopped, Action}
use Rattle.c_run.proofs.Counting.{IsOver}
use Rattle.c_meaning.specs.declared.flow.Flow.{Flow}
use Rattle.c_meaning.specs.Meaning.{Calls}
use Rattle.c_meaning.specs.Statements.{Text, turns, loop}
use Rattle.c_meaning.specs.After.{body, called, calls, main_in, main_run, main_of, start_run, stop_of, stop_at, shown, used_in, after, used}
use Rattle.c_run.proofs.Growing.{Way, later, Follows, went, same, live, lack, past, FineStop, PastStop, Past, Goes, Agree, both, neither, lacking, beyond, Reads, goes_then, goes_seq, goes_of, marks_fewer, goes_pure, goes_wrong, marks_enter, goes_leave, goes_finish, goes_params}
use Rattle.c_meaning.proofs.GrowingStatements.{goes_stmts, goes_turns}

module _ (K : Core) {w : Way} {R T : List Reading} (reads : Reads w R T) where
  pub goes_body : {b : ℕ} {C D : Calls} → ((f : ℕ) (vs : List Value) → Goes w b (C f vs) (D f vs)) → (f : Function) (args : List Value) (first : ℕ)
      → Goes w b (body K R C f args first) (body K T D f args first)
  unfolding body
  goes_body h f args first = goes_seq (goes_params first _ args) (goes_stmts K reads first h f.body None)

  goes_called : {b : ℕ} {C D : Calls} → ((f : ℕ) (vs : List Value) → Goes w b (C f vs) (D f vs)) → (n : ℕ) (o : Option Function) (args : List Value)
      → Goes w (suc b) (called K R C n o args) (called K T D n o args)
  unfolding called
  goes_called h n None args = goes_wrong
  goes_called h n (Some f) args =
      goes_of (marks_fewer (marks_enter n _ _) (λ first. goes_then (goes_body h f args first) (λ flow. goes_seq goes_leave (goes_pure _))))

  -- as much depth as marks are left is enough on both sides
  pub goes_calls : (b d e : ℕ) → b ≤ d → b + w.more ≤ e → (n : ℕ) (args : List Value) → Goes w b (calls K R d n args) (calls K T e n args)
  unfolding calls
  goes_calls zero d e h i n args = record { runs = λ r x. absurd (omega (arith, x)) }
  goes_calls (suc b) zero e h i n args = absurd (omega (arith, h))
  goes_calls (suc b) (suc d) zero h i n args = absurd (omega (arith, i))
  goes_calls (suc b) (suc d) (suc e) h i n args =
      goes_called (goes_calls b d e (omega (arith, h)) (omega (arith, i))) n (slice_get K.functions n) args

  goes_main_in : {b : ℕ} (n : ℕ) (o : Option Function) → Goes w b (main_in K R n o) (main_in K T n o)
  unfolding main_in
  goes_main_in n None = goes_wrong
  goes_main_in n (Some f) =
      goes_then (goes_of (marks_enter n _ _)) (λ first. goes_seq
      (record { runs = λ r l. (goes_body (goes_calls (suc r.left) (suc r.left) (suc (r.left + w.more)) (omega arith) (omega arith)) f [] first).runs r (omega arith) })
      goes_finish)

  goes_main : {b : ℕ} (o : Option ℕ) → Goes w b (main_run K R o) (main_run K T o)
  unfolding main_run
  goes_main None = goes_wrong
  goes_main (Some n) = goes_main_in n (slice_get K.functions n)

  pub run_follows : (n : ℕ) → Follows w (suc n) 0 (main_run K R (main_of K) (start_run K R n)) (main_run K T (main_of K) (start_run K T (n + w.more)))
  run_follows n = (goes_main {b = suc n} (main_of K)).runs (start_run K R n) (omega arith)

-- ---- the two lists of readings

agree_same : (w : Way) (i : ℕ) (xs : List Reading) (j : ℕ) → (j < length xs → i < w.size) → Agree w i (slice_get xs j) (slice_get xs j)
agree_same w i [] j h = neither
agree_same w i (x ∷ xs) zero h = both (h (omega arith))
agree_same w i (x ∷ xs) (suc j) h = agree_same w i xs j (λ l. h (omega (arith, l)))

agree_more : (w : Way) (i : ℕ) (xs ys : List Reading) (j : ℕ) → w.lacks ≡ true → (j < length xs → i < w.size) → Agree w i (slice_get xs j) (slice_get (xs ++ ys) j)
agree_more w i [] ys j e h = lacking e
agree_more w i (x ∷ xs) ys zero e h = both (h (omega arith))
agree_more w i (x ∷ xs) ys (suc j) e h = agree_more w i xs ys j e (λ l. h (omega (arith, l)))

data Side (i n : ℕ) : Type 0 where
  below : i < n → Side i n
  behind : n ≤ i → Side i n

side_of : (i n : ℕ) → Side i n
side_of i zero = behind (omega arith)
side_of zero (suc n) = below (omega arith)
side_of (suc i) (suc n) = next_side (side_of i n)
  where
    next_side : {i n : ℕ} → Side i n → Side (suc i) (suc n)
    next_side (below h) = below (omega (arith, h))
    next_side (behind h) = behind (omega (arith, h))

agree_cut : (w : Way) (i : ℕ) (R T : List Reading) → w.cuts ≡ true → (i < length R → i < w.size) → (i < w.keep → slice_get R i ≡ slice_get T i) → Side i w.keep
    → Agree w i (slice_get R i) (slice_get T i)
agree_cut w i R T c h e (below l) = subst (λ (x : Option Reading). Agree w i (slice_get R i) x) (e l) (agree_same w i R i h)
agree_cut w i R T c h e (behind l) = beyond c l

-- ---- a greater number of marks

abbrev pub with_marks : ℕ → List Reading → Way
with_marks k R = record { more = k; size = length R; keep = 0; lacks = false; cuts = false }

with_marks_reads : (k : ℕ) (R : List Reading) → Reads (with_marks k R) R R
with_marks_reads k R = record { at = λ i. agree_same _ i R i (λ l. l) }

module _ (K : Core) where
  kept_stop : {k left : ℕ} (R : List Reading) {o other : Outcome (Unit {0})} → Follows (with_marks k R) left 0 o other → IsOver (stop_of K R o) → stop_of K R other ≡ stop_of K R o
  kept_stop R (went l i) h = refl
  kept_stop R (same i) h = refl
  kept_stop R (live l i) h = absurd h
  kept_stop R (lack e) h = cc
  kept_stop R (past c i) h = cc

  suc_sum : (n k : ℕ) → suc n + k ≡ suc (n + k)
  suc_sum n k = omega arith

  -- a run that stopped by itself stops in the same way wherever a later mark is asked for
  pub stop_stays : (R : List Reading) (s k : ℕ) → IsOver (stop_at K R s) → stop_at K R (s + k) ≡ stop_at K R s
  unfolding stop_at
  stop_stays R zero k h = absurd h
  stop_stays R (suc n) k h =
      ap (λ (m : ℕ). stop_at K R m) (suc_sum n k) ∙ kept_stop R (run_follows K (with_marks_reads k R) n) h

  -- so it is live at every mark before one at which it is live
  pub live_before : (R : List Reading) (s k : ℕ) (st : State) (x : ℕ) → stop_at K R (s + k) ≡ Live st x → IsOver (stop_at K R s) → ⊥
  live_before R s k st x e h = subst IsOver (sym (stop_stays R s k h) ∙ e) h

  pub after_stays : (R : List Reading) (s k : ℕ) → IsOver (stop_at K R s) → after K R (s + k) ≡ after K R s
  after_stays R s k h = ap shown (stop_stays R s k h)

  pub used_stays : (R : List Reading) (s k : ℕ) → IsOver (stop_at K R s) → used K R (s + k) ≡ used K R s
  used_stays R s k h = ap used_in (stop_stays R s k h)

  -- ---- more depth and more turns

  later_none : (r : Run) → later 0 r ≡ r
  later_none r = ap (λ (n : ℕ). record r { left = n }) (omega arith)

  same_outcome : {A : Type 0} {left u : ℕ} (R : List Reading) {o other : Outcome A} → Follows (with_marks 0 R) left u o other → other ≡ o
  same_outcome R (went {a} {t} l i) = ap (λ (x : Run). Went a x) (later_none t)
  same_outcome R (same i) = refl
  same_outcome R (live l i) = absurd (omega (arith, l))
  same_outcome R (lack e) = cc
  same_outcome R (past c i) = cc

  pub calls_more : (R : List Reading) (d e n : ℕ) (args : List Value) (r : Run) → r.left < d → r.left < e → calls K R d n args r ≡ calls K R e n args r
  calls_more R d e n args r h i =
      sym (same_outcome R ((goes_calls K (with_marks_reads 0 R) (suc r.left) d e (omega (arith, h)) (omega (arith, i)) n args).runs r (omega arith)))
      ∙ ap (λ (x : Run). calls K R e n args x) (later_none r)

  pub turns_more : (R : List Reading) (text : Text) (test : Action Bool) (one : Action Flow) (step : Action (Unit {0})) (k : ℕ) (r : Run)
      → Goes (with_marks 0 R) (suc r.left) test test → Goes (with_marks 0 R) (suc r.left) one one → Goes (with_marks 0 R) (suc r.left) step step
      → r.left < k → loop R text test one step r ≡ turns R text test one step k r
  unfolding loop
  turns_more R text test one step k r ct cb cs h =
      sym (same_outcome R ((goes_turns (with_marks_reads 0 R) text ct cb cs (suc r.left) k (suc r.left) (omega arith) (omega (arith, h)) (omega arith)).runs r (omega arith)))
      ∙ ap (λ (x : Run). turns R text test one step k x) (later_none r)

  -- ---- readings

  used_fine : {size : ℕ} (st : Stop) → FineStop size 0 st → used_in st ≤ size
  used_fine (Live s x) h = h.1 (omega arith)
  used_fine (Ended k s x) h = h.1 (omega arith)
  used_fine NeedsReading h = omega arith
  used_fine (Undefined rule node) h = omega arith
  used_fine Wrong h = omega arith

  used_bound : {left : ℕ} (R : List Reading) {o other : Outcome (Unit {0})} → Follows (with_marks 0 R) left 0 o other → used_in (stop_of K R o) ≤ length R
  used_bound R (went l i) = omega arith
  used_bound R (same {st} i) = used_fine st i
  used_bound R (live l i) = absurd (omega (arith, l))
  used_bound R (lack e) = omega arith
  used_bound R (past c i) = absurd (clash c)
    where
      clash : false ≡ true → ⊥
      clash e = cc

  -- no more readings are taken than there are
  pub used_at_most : (R : List Reading) (s : ℕ) → used K R s ≤ length R
  unfolding stop_at
  used_at_most R zero = omega arith
  used_at_most R (suc n) = used_bound R (run_follows K (with_marks_reads 0 R) n)

  -- more readings change nothing where none was lacking
  abbrev with_more : List Reading → Way
  with_more R = record { more = 0; size = length R; keep = 0; lacks = true; cuts = false }

  more_stop : {left : ℕ} (R T : List Reading) {o other : Outcome (Unit {0})} → Follows (with_more R) left 0 o other
      → (stop_of K R o ≡ NeedsReading → ⊥) → stop_of K T other ≡ stop_of K R o
  more_stop R T (went l i) h = refl
  more_stop R T (same i) h = refl
  more_stop R T (live l i) h = absurd (omega (arith, l))
  more_stop R T (lack e) h = absurd (h refl)
  more_stop R T (past c i) h = cc

  same_left : (T : List Reading) (n : ℕ) → stop_of K T (main_run K T (main_of K) (start_run K T (n + 0))) ≡ stop_of K T (main_run K T (main_of K) (start_run K T n))
  same_left T n = ap (λ (m : ℕ). stop_of K T (main_run K T (main_of K) (start_run K T m))) (omega arith)

  pub readings_more : (R more : List Reading) (s : ℕ) → (stop_at K R s ≡ NeedsReading → ⊥) → stop_at K (R ++ more) s ≡ stop_at K R s
  unfolding stop_at
  readings_more R more zero h = refl
  readings_more R more (suc n) h =
      sym (same_left (R ++ more) n) ∙ more_stop R (R ++ more) (run_follows K {w = with_more R} (record { at = λ i. agree_more _ i R more i refl (λ l. l) }) n) h

  -- other readings behind the first n change nothing where no more than these were taken
  abbrev with_others : List Reading → ℕ → Way
  with_others R n = record { more = 0; size = length R; keep = n; lacks = false; cuts = true }

  abbrev pub Took : ℕ → Stop → Type 0
  Took n (Live s x) = x ≤ n
  Took n (Ended k s x) = x ≤ n
  Took n _ = ⊥

  past_took : (n : ℕ) (st : Stop) → PastStop n st → Took n st → ⊥
  past_took n (Live s x) h i = omega (arith, h, i)
  past_took n (Ended k s x) h i = omega (arith, h, i)
  past_took n NeedsReading h i = i
  past_took n (Undefined rule node) h i = i
  past_took n Wrong h i = i

  past_stop : (n left : ℕ) (R T : List Reading) (o other : Outcome (Unit {0})) → Past left n o → Took n (stop_of K R o) → stop_of K T other ≡ stop_of K R o
  past_stop n left R T (Went a t) other h i = absurd i
  past_stop n left R T (Stopped st) other h i = absurd (past_took n st h i)

  others_stop : {n left : ℕ} (R T : List Reading) {o other : Outcome (Unit {0})} → Follows (with_others R n) left 0 o other
      → Took n (stop_of K R o) → stop_of K T other ≡ stop_of K R o
  others_stop R T (went l i) h = refl
  others_stop R T (same i) h = refl
  others_stop R T (live l i) h = absurd (omega (arith, l))
  others_stop R T (lack e) h = cc
  others_stop R T (past {o} {other} c i) h = past_stop _ _ R T o other i h

  pub readings_other : (R T : List Reading) (n s : ℕ) → ((i : ℕ) → i < n → slice_get R i ≡ slice_get T i) → Took n (stop_at K R s) → stop_at K T s ≡ stop_at K R s
  unfolding stop_at
  readings_other R T n zero e h = refl
  readings_other R T n (suc m) e h =
      sym (same_left T m) ∙ others_stop R T (run_follows K {w = with_others R n} (record { at = λ i. agree_cut _ i R T refl (λ l. l) (e i) (side_of i n) }) m) h

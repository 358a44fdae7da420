-- Marks: a stage makes the words match, and behind the service of a mark the run stops at this mark, or goes on.
use Rattle.std.proofs.Common.{◌≡◌, ℕ, zero, suc, ◌+◌, ◌-◌, refl, sym, ap, ◌∙◌, subst, List, drop, Option, Some, None}
use Rattle.core430.specs.Uses.{AreWords, IsWithin}
use Rattle.ideal430.specs.Ideal.{Ideal, Meter}
use Rattle.ideal430.specs.Settled.{Bytes}
use Rattle.ideal430.specs.Service.{Block}
use Rattle.ideal430.specs.declared.state.IdealEnd.TheVariants.{Running}
use Rattle.c_run.specs.Actions.{kept}
use Rattle.c_run.specs.Runs.{Run, Stop, Live, Outcome, Went, Stopped, Action, ◌>>=◌, and_then, counted, mark, mark_by}
use Rattle.c_values.specs.declared.state.Saved.{Saved}
use Rattle.c_values.specs.declared.state.State.{State}
use Rattle.cells430.specs.Cells.{Cell, Word, Byte, Cells, Fits, Facts}
use Rattle.cells430.specs.Stretch.{outside, at, StepsTo, Comes, Leads}
use Rattle.cells430.proofs.Lift.{leads_now, leads_step}
use Rattle.ir.specs.declared.control.Frame.{Frame}
use Rattle.ir.specs.declared.control.Control.{Control}
use Rattle.matching.specs.Matches.{WordsAre, BlockMatches}
use Rattle.matching.specs.Said.{said, OpeningCounts}
use Rattle.matching.specs.Simulates.{MachineMatches}
use Rattle.matching.proofs.CellsMatch.{cells_match}
use Rattle.steps430.specs.Setting.{Setting}
use Rattle.steps430.specs.Standing.{Stage, StandsAt}
use Rattle.steps430.specs.Follows.{MakesMark, Follows}

-- ---- a stage makes the words match

-- cells that are among others fit as these do
fits_part : (own all : Cells) (a : ℕ) (x : Cell) → ((b : ℕ) (y : Cell) → own b ≡ Some y → all b ≡ Some y) → Fits all a x → Fits
    own a x
fits_part own all a (Byte v) part h = tt
fits_part own all a (Word v) part h = (h.0, from (own (a + 1)) refl)
  where
    from : (o : Option Cell) → own (a + 1) ≡ o → own (a + 1) ≡ None
    from None e = e
    from (Some y) e = absurd (differ (sym (part (a + 1) y e) ∙ h.1))
      where
        differ : Some y ≡ None → ⊥
        differ k = cc

module _ (p : Setting) (s : State) (next : ℕ) (frames : List Frame) (all own : Cells) (segment base sp : ℕ) (ps r m : ℕ → ℕ)
    (st : Bytes) where
  -- the words of a machine that stands match the state, by settled bytes
  pub stage_matches : (u : Ideal) → u.core.memory ≡ m → u.settled ≡ st → u.block ≡ None
      → Stage p s next frames all own segment base sp ps r m st → MachineMatches p.core s u
  stage_matches u em es eb h = record { matches = record { words = words; block = block }; settled = settled; opening = opening }
    where
      both : WordsAre p.core (kept s) m × IsWithin (said p.core (kept s)) st
      both = cells_match own m st (λ a x e. h.facts.stands a x (h.part a x e))
          (λ a x e. fits_part own all a x h.part (h.shape.fits a x (h.part a x e))) p.core (kept s) h.covered

      words : WordsAre p.core (kept s) u.core.memory
      words = subst (λ (k : ℕ → ℕ). WordsAre p.core (kept s) k) (sym em) both.0

      settled : IsWithin (said p.core (kept s)) u.settled
      settled = subst (λ (k : Bytes). IsWithin (said p.core (kept s)) k) (sym es) both.1

      block : BlockMatches p.core s.block u.block u.core.memory
      block = subst (λ (o : Option Saved). BlockMatches p.core o u.block u.core.memory) (sym h.no_block)
          (subst (λ (o : Block). BlockMatches p.core None o u.core.memory) (sym eb) tt)

      opening : OpeningCounts p.core s.block u.block u.earlier u.settled
      opening = subst (λ (o : Option Saved). OpeningCounts p.core o u.block u.earlier u.settled) (sym h.no_block) tt

-- ---- the instruction that makes the mark

module _ (p : Setting) where
  -- a step goes on, in at most so many instructions
  abbrev pub GoesOn : (n : ℕ) → Outcome Control → Ideal → Type 0
  GoesOn n (Went c q) u = Leads n u (StandsAt p c q)
  GoesOn n (Stopped s) u = ⊥

  goes_follows : (n : ℕ) (o : Outcome Control) (t u : Ideal) → StepsTo t u → GoesOn n o u → Follows p (suc n) o t
  goes_follows n (Went c q) t u s h = leads_step n t u (StandsAt p c q) s h
  goes_follows n (Stopped s) t u k h = absurd h

  -- The next instruction calls the service of a mark, behind which these cells and registers stand, those of the marked
  -- state. `K` is the rest of the step: it passes on how a run stops, and goes on behind the mark.
  pub mark_in : (n : ℕ) (K : Outcome (Unit {0}) → Outcome Control) (q : Run) (t : Ideal) (next : ℕ) (frames : List Frame)
      (all own : Cells) (segment base sp : ℕ) (ps r : ℕ → ℕ) → ((s : Stop) → K (Stopped s) ≡ Stopped s)
      → t.marks ≡ q.state.marks
      → Comes p.code p.low p.high t Running segment ps r (outside (q.state.marks + 1) (drop q.used p.readings)) all
      → ((m : ℕ → ℕ) (st : Bytes) → Facts p.code p.low p.high all m st → AreWords r
      → Stage p (counted q.state) next frames all own segment base sp ps r m st)
      → ((m : ℕ → ℕ) (st : Bytes) (y : Meter) (left : ℕ) → Stage p (counted q.state) next frames all own segment base sp ps r m st
      → GoesOn n (K (Went tt (record q { state = counted q.state; left = left })))
      (at segment ps r m st (outside (q.state.marks + 1) (drop q.used p.readings)) y))
      → Follows p (suc n) (K (mark q)) t
  unfolding mark
  mark_in n K q t next frames all own segment base sp ps r passes marks comes stage more = from q.left
    where
      u : Ideal
      u = at segment ps r comes.memory comes.settled (outside (q.state.marks + 1) (drop q.used p.readings)) comes.meter

      there : Stage p (counted q.state) next frames all own segment base sp ps r comes.memory comes.settled
      there = stage comes.memory comes.settled comes.facts comes.words

      from : (left : ℕ) → Follows p (suc n) (K (mark_by left q)) t
      from zero = subst (λ (o : Outcome Control). Follows p (suc n) o t) (sym (passes (Live (counted q.state) q.used)))
          (leads_now (suc n - 1) t (MakesMark p (counted q.state) q.used) (record {
            next = u;
            step = comes.step;
            running = refl;
            before = ap (λ (k : ℕ). k + 1) marks;
            marks = refl;
            taken = refl;
            matches = stage_matches p (counted q.state) next frames all own segment base sp ps r comes.memory comes.settled u
                refl refl refl there;
          }))
      from (suc left) = goes_follows n (K (mark_by (suc left) q)) t u comes.step
          (more comes.memory comes.settled comes.meter left there)

  -- a mark, and what comes behind it
  pub mark_follows : (n : ℕ) (go : Unit {0} → Action Control) (q : Run) (t : Ideal) (next : ℕ) (frames : List Frame)
      (all own : Cells) (segment base sp : ℕ) (ps r : ℕ → ℕ) → t.marks ≡ q.state.marks
      → Comes p.code p.low p.high t Running segment ps r (outside (q.state.marks + 1) (drop q.used p.readings)) all
      → ((m : ℕ → ℕ) (st : Bytes) → Facts p.code p.low p.high all m st → AreWords r
      → Stage p (counted q.state) next frames all own segment base sp ps r m st)
      → ((m : ℕ → ℕ) (st : Bytes) (y : Meter) (left : ℕ) → Stage p (counted q.state) next frames all own segment base sp ps r m st
      → GoesOn n (go tt (record q { state = counted q.state; left = left }))
      (at segment ps r m st (outside (q.state.marks + 1) (drop q.used p.readings)) y))
      → Follows p (suc n) ((mark >>= go) q) t
  mark_follows n go q t next frames all own segment base sp ps r marks comes stage more =
      mark_in n (λ o. and_then o go) q t next frames all own segment base sp ps r (λ s. refl) marks comes stage more

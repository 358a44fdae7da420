-- From mark to mark, and so to where the run of a form stops.
use Rattle.std.proofs.Common.{◌≡◌, ℕ, zero, suc, ◌+◌, ◌-◌, ◌<◌, ◌≤◌, refl, sym, ap, ◌∙◌, subst, arith, cond, Bool, true, false, inl, inr, List, [], ◌∷◌, Option, Some, None}
use Rattle.std.proofs.lemmas.Bool.Decides.{nat_tests}
use Rattle.std.specs.Prelude.{nat_eq}
use Rattle.c_run.specs.Runs.{Run, Stop, Live, Ended as Over, NeedsReading as Lacks, Undefined, Wrong, Outcome, Went, Stopped}
use Rattle.cells430.specs.Stretch.{StepsTo, IdealRuns, Leads}
use Rattle.cells430.proofs.Counting.{marks_later, runs_are}
use Rattle.ideal430.specs.Ideal.{Ideal, run}
use Rattle.ir.specs.declared.control.Control.{Control}
use Rattle.ir.specs.declared.control.Control.TheVariants.{Calling}
use Rattle.ir.specs.Between.{Site, site_of}
use Rattle.ir.specs.Machine.{one_step, after_step, burst, run_from, stop_at, start, start_run, steps_in}
use Rattle.matching.specs.Simulates.{most_between_marks}
use Rattle.steps430.specs.Setting.{Setting}
use Rattle.steps430.specs.Standing.{StandsAt}
use Rattle.steps430.specs.Follows.{Follows}
use Rattle.steps430.specs.Whole.{DoesAll, Since, begun, no_mark, a_mark, most_at, most_in, most_behind, StaysShort, HasCome, IsFirst, IsWhereFormIs, StartsRight}
use Rattle.steps430.proofs.Counted.{runs_append, Few, Near, few_more, near_still, near_new}
use Rattle.steps430.proofs.Singly.{Counts, counts_marks}

same_number : (x : ℕ) → nat_eq x x ≡ true
same_number x = grind (arith, nat_tests)

lower_number : (x : ℕ) → nat_eq x (suc x) ≡ false
lower_number x = grind (arith, nat_tests)

module _ (p : Setting) (begin : Ideal) where
  abbrev Reached : Run → Control → Run → Option Site → List Site → Type 0
  Reached r0 c r last made = Since p.ir p.readings (Calling p.ir.main 0 [] []) r0 c r last made

  abbrev most : ℕ
  most = most_between_marks p.core

  -- the machine stands at a point of the run that was asked for so many marks
  record Now (asked : ℕ) (c : Control) (r : Run) : Type 0 where
    time : ℕ
    end : Ideal
    runs : IdealRuns time begin end
    stands : StandsAt p c r end
    begun_with : ℕ
    last : Option Site
    made : List Site
    since : Reached (start_run p.ir begun_with) c r last made
    few : Few begin most time
    near : Near begin (most_behind p last + most_in p made) time
    count : r.state.marks + suc r.left ≡ asked

  abbrev Arrives : (asked : ℕ) → Stop → Type 0
  Arrives asked s = (n : ℕ) × IsWhereFormIs p begin asked s n

  marks_of : (c : Control) (r : Run) (t : Ideal) → StandsAt p c r t → t.marks ≡ r.state.marks
  marks_of c r t h = ap (λ (x : Ideal). x.marks) h.is

  marks_at : (n : ℕ) (t : Ideal) → IdealRuns n begin t → (run n begin).marks ≡ t.marks
  marks_at n t h = ap (λ (x : Ideal). x.marks) (runs_are n begin t h)

  -- the last instruction makes a mark: all before were made after fewer
  first_so : (n : ℕ) (t u : Ideal) → IdealRuns n begin t → t.marks + 1 ≡ u.marks → IsFirst begin (n + 1) u.marks
  first_so n t u h e k l =
      let later : (run k begin).marks ≤ (run n begin).marks = marks_later k n begin (omega arith) in
      let there : (run n begin).marks ≡ t.marks = marks_at n t h in
      omega arith

  module _ (all : DoesAll p) (short : StaysShort p) where
    module _ (asked : ℕ) (c : Control) (r : Run) (w : Now asked c r) where
      abbrev limit : ℕ
      limit = most_at p (site_of c)

      abbrev spent : ℕ
      spent = most_behind p w.last + most_in p w.made

      room : spent + limit < most
      room = let few = short c (start_run p.ir w.begun_with) r w.last w.made w.since in omega arith

      -- so many more
      later : (k : ℕ) (u : Ideal) → k ≤ limit → IdealRuns k w.end u → IdealRuns (w.time + k) begin u
      later k u l h = runs_append w.time k (w.time + k) begin w.end u refl w.runs h

      few_later : (k : ℕ) → k ≤ limit + 1 → Few begin most (w.time + k)
      few_later k l = few_more begin most spent w.time k limit w.few w.near l room

      -- and one that stops at a mark or at an end
      one_later : (k : ℕ) (u v : Ideal) → k ≤ limit - 1 → IdealRuns k w.end u → StepsTo u v → IdealRuns (w.time + k + 1) begin v
      one_later k u v l h s = runs_append (w.time + k) 1 (w.time + k + 1) begin u v refl (later k u (omega arith) h) (v, s, refl)

      come_one : (k : ℕ) (u v : Ideal) → k ≤ limit - 1 → IdealRuns k w.end u → StepsTo u v → HasCome p begin (w.time + k + 1) v
      come_one k u v l h s =
          let same : w.time + (k + 1) ≡ w.time + k + 1 = omega arith in
          record {
            runs = one_later k u v l h s;
            bounded = subst (λ (n : ℕ). Few begin most n) same (few_later (k + 1) (omega arith));
          }

      stands_marks : w.end.marks ≡ r.state.marks
      stands_marks = marks_of c r w.end w.stands

      stopped_so : (s : Stop) → Follows p limit (Stopped s) w.end → Counts r (Stopped s) → Arrives asked s
      stopped_so (Live s used) h k =
          let m = h.so in (
            w.time + h.steps + 1,
            record {
              end = m.next;
              come = come_one h.steps h.end m.next h.within h.runs m.step;
              running = m.running;
              counted = k ∙ w.count;
              marks = m.marks;
              first = first_so (w.time + h.steps) h.end m.next (later h.steps h.end
                  (let l = h.within in omega arith) h.runs) m.before;
              matches = m.matches;
              taken = m.taken;
            },
          )
      stopped_so (Over kind s used) h k =
          let m = h.so in (
            w.time + h.steps + 1,
            record {
              end = m.next;
              come = come_one h.steps h.end m.next h.within h.runs m.step;
              ended = m.ended;
              marks = m.marks;
              matches = m.matches;
              taken = m.taken;
              fair = m.fair;
              left = λ d. (
                first_so (w.time + h.steps) h.end m.next (later h.steps h.end (let l = h.within in omega arith) h.runs)
                    (m.left d).0,
                (m.left d).1,
                (m.left d).2,
              );
            },
          )
      stopped_so Lacks h k =
          let m = h.so in (
            w.time + h.steps,
            record {
              end = h.end;
              come = record {
                runs = later h.steps h.end h.within h.runs;
                bounded = few_later h.steps
                    (let l = h.within in omega arith);
              };
              lacks = m.lacks;
              marks = let same = m.marks in let stand = stands_marks in let count = w.count in omega arith;
            },
          )
      stopped_so (Undefined rule node) h k = (0, tt)
      stopped_so Wrong h k = (0, tt)

      still : (d : Control) (q : Run) → one_step p.ir p.readings c r ≡ Went d q → Leads limit w.end (StandsAt p d q)
          → q.left ≡ r.left → q.state.marks ≡ r.state.marks → Now asked d q
      still d q e h left marks =
          let runs : IdealRuns (w.time + h.steps) begin h.end = later h.steps h.end h.within h.runs in
          let there : (run (w.time + h.steps) begin).marks ≡ h.end.marks = marks_at (w.time + h.steps) h.end runs in
          let here : (run w.time begin).marks ≡ w.end.marks = marks_at w.time w.end w.runs in
          let one = stands_marks in
          let two = marks_of d q h.end h.so in
          let no : (run (w.time + h.steps) begin).marks ≡ (run w.time begin).marks = omega arith in
          let sum : limit + spent ≡ most_behind p w.last + most_in p (site_of c ∷ w.made) = omega arith in
          record {
            time = w.time + h.steps;
            end = h.end;
            runs = runs;
            stands = h.so;
            begun_with = w.begun_with;
            last = w.last;
            made = site_of c ∷ w.made;
            since = no_mark w.since e left;
            few = few_later h.steps (let l = h.within in omega arith);
            near = subst (λ (n : ℕ). Near begin n (w.time + h.steps)) sum
                (near_still begin spent w.time h.steps limit w.near h.within no);
            count = let count = w.count in omega arith;
          }

      anew : (d : Control) (q : Run) → one_step p.ir p.readings c r ≡ Went d q → Leads limit w.end (StandsAt p d q)
          → suc q.left ≡ r.left → q.state.marks ≡ r.state.marks + 1 → Now asked d q
      anew d q e h left marks =
          let runs : IdealRuns (w.time + h.steps) begin h.end = later h.steps h.end h.within h.runs in
          let there : (run (w.time + h.steps) begin).marks ≡ h.end.marks = marks_at (w.time + h.steps) h.end runs in
          let here : (run w.time begin).marks ≡ w.end.marks = marks_at w.time w.end w.runs in
          let one = stands_marks in
          let two = marks_of d q h.end h.so in
          let more : (run (w.time + h.steps) begin).marks ≡ (run w.time begin).marks + 1 = omega arith in
          let sum : limit ≡ most_behind p (Some (site_of c)) + most_in p [] = omega arith in
          record {
            time = w.time + h.steps;
            end = h.end;
            runs = runs;
            stands = h.so;
            begun_with = w.begun_with;
            last = Some (site_of c);
            made = [];
            since = a_mark w.since e left;
            few = few_later h.steps (let l = h.within in omega arith);
            near = subst (λ (n : ℕ). Near begin n (w.time + h.steps)) sum (near_new begin w.time h.steps limit h.within more);
            count = let count = w.count in omega arith;
          }

      -- one step, and what follows without a mark and behind one
      step_goes : (on again : Control → Run → Stop)
          → ((d : Control) (q : Run) → q.left ≡ r.left → Now asked d q → Arrives asked (on d q))
          → ((d : Control) (q : Run) → suc q.left ≡ r.left → Now asked d q → Arrives asked (again d q))
          → Arrives asked (after_step r.left on again (one_step p.ir p.readings c r))
      step_goes on again go behind =
          from (one_step p.ir p.readings c r) refl (all w.begun_with c r w.last w.made w.end w.since w.stands)
          (counts_marks p.ir p.readings c r)
        where
          from : (o : Outcome Control) → one_step p.ir p.readings c r ≡ o → Follows p limit o w.end → Counts r o
              → Arrives asked (after_step r.left on again o)
          from (Went d q) e f (inl k) =
              let same : nat_eq q.left r.left ≡ true = ap (λ (n : ℕ). nat_eq q.left n) (sym k.0) ∙ same_number q.left in
              subst (λ (b : Bool). Arrives asked (cond b (on d q) (again d q))) (sym same) (go d q k.0 (still d q e f k.0 k.1))
          from (Went d q) e f (inr k) =
              let less : nat_eq q.left r.left ≡ false = ap (λ (n : ℕ). nat_eq q.left n) (sym k.0) ∙ lower_number q.left in
              subst (λ (b : Bool). Arrives asked (cond b (on d q) (again d q))) (sym less) (behind d q k.0 (anew d q e f k.0 k.1))
          from (Stopped s) e f k = stopped_so s f k

    -- to the next mark
    burst_goes : (n : ℕ) (asked : ℕ) (again : Control → Run → Stop) (c : Control) (r : Run) → Now asked c r
        → ((d : Control) (q : Run) → suc q.left ≡ r.left → Now asked d q → Arrives asked (again d q))
        → Arrives asked (burst p.ir p.readings n again c r)
    burst_goes zero asked again c r w behind = (0, tt)
    burst_goes (suc n) asked again c r w behind =
        step_goes asked c r w (burst p.ir p.readings n again) again
        (λ d q e v. burst_goes n asked again d q v (λ x y l z. behind x y (l ∙ e) z)) behind

    -- and on to where the run stops
    run_goes : (k : ℕ) (asked : ℕ) (c : Control) (r : Run) → Now asked c r → r.left ≡ k
        → Arrives asked (run_from p.ir p.readings k c r)
    run_goes zero asked c r w e = burst_goes (steps_in p.ir.functions) asked (λ c r. Wrong) c r w (λ d q l z. (0, tt))
    run_goes (suc k) asked c r w e =
        burst_goes (steps_in p.ir.functions) asked (run_from p.ir p.readings k) c r w
        (λ d q l z. run_goes k asked d q z (omega arith))

    at_entry : StartsRight p begin → (n : ℕ) → Now (suc n) (Calling p.ir.main 0 [] []) (start_run p.ir n)
    unfolding start
    at_entry h n = record {
      time = 1;
      end = h.first;
      runs = (h.first, h.step, refl);
      stands = h.stands n;
      begun_with = n;
      last = None;
      made = [];
      since = begun;
      few = λ i j le l e. let some = short (Calling p.ir.main 0 [] []) (start_run p.ir n)
          (start_run p.ir n) None [] begun in omega arith;
      near = λ a l e. omega arith;
      count = let e : 0 + suc n ≡ suc n = omega arith in e;
    }

    -- The machine is where the run of the form stops, whatever number of marks that is asked for.
    pub form_is_followed : StartsRight p begin → (asked : ℕ) → (n : ℕ) × IsWhereFormIs p begin asked
        (stop_at p.ir p.readings asked) n
    unfolding stop_at start
    form_is_followed h zero = (
      0,
      record {
        end = begin;
        come = record { runs = refl; bounded = λ i j le l e. absurd (omega arith) };
        running = h.step.running;
        counted = refl;
        marks = h.marks;
        first = λ k l. absurd (omega arith);
        matches = h.matches;
        taken = h.taken;
      },
    )
    form_is_followed h (suc n) = run_goes n (suc n) (Calling p.ir.main 0 [] []) (start_run p.ir n) (at_entry h n) refl

-- Which actions make a mark, and which make none.
use Rattle.std.proofs.Common.{◌≡◌, ℕ, zero, suc, ◌+◌, List, [], ◌∷◌, ◌++◌, Option, Some, None, Result, Ok, Err, Bool, true, false, refl, sym, ap, ◌∙◌, subst, cond}
use Rattle.std.specs.Prelude.{slice_get, nat_lt, nat_eq, length, pos, not}
use Rattle.base16.specs.declared.image.Kind.{Kind}
use Rattle.base16.specs.declared.end.EndKind.TheVariants.{BlockFull, OutputFull}
use Rattle.base16.specs.declared.reading.Reading.{Reading}
use Rattle.base16.specs.declared.reading.Reading.TheVariants as reading
use Rattle.base16.specs.Placement.{frame_below}
use Rattle.base16.specs.Integer.{wrapped}
use Rattle.core_tree.specs.declared.types.Slot.{Slot}
use Rattle.c_values.specs.declared.value.Value.{Value}
use Rattle.c_values.specs.declared.value.Value.TheVariants.{Int, Undefined}
use Rattle.c_values.specs.declared.value.Location.{Location}
use Rattle.c_values.specs.declared.state.State.{State}
use Rattle.c_values.specs.declared.state.Saved.{Saved}
use Rattle.c_values.specs.Objects.{accessed}
use Rattle.c_values.specs.Values.{if_accessed, fitted, integer}
use Rattle.c_run.specs.declared.timed.Timed.{Timed}
use Rattle.c_run.specs.Runs.{Run, Stop, Outcome, Went, Stopped, Action, and_then, pure, stop, NeedsReading, ◌>>=◌, ◌>>◌, given, asked, changed, ended, mark, mark_by}
use Rattle.c_run.specs.Actions as act

-- no mark
pub data Keeps {A : Type 0} (left : ℕ) : Outcome A → Type 0 where
  kept : {a : A} {q : Run} → q.left ≡ left → Keeps left (Went a q)
  kept_stop : {s : Stop} → Keeps left (Stopped s)

-- one mark
pub data Marks {A : Type 0} (left : ℕ) : Outcome A → Type 0 where
  marked : {a : A} {q : Run} → suc q.left ≡ left → Marks left (Went a q)
  marked_stop : {s : Stop} → Marks left (Stopped s)

pub keeps_then : {A B : Type 0} (left : ℕ) (o : Outcome A) (k : A → Action B) → Keeps left o → ((a : A) (q : Run)
    → q.left ≡ left → Keeps left (k a q)) → Keeps left (and_then o k)
keeps_then left (Went a q) k (kept e) h = h a q e
keeps_then left (Stopped s) k w h = kept_stop

pub keeps_marks : {A B : Type 0} (left : ℕ) (o : Outcome A) (k : A → Action B) → Keeps left o → ((a : A) (q : Run)
    → q.left ≡ left → Marks left (k a q)) → Marks left (and_then o k)
keeps_marks left (Went a q) k (kept e) h = h a q e
keeps_marks left (Stopped s) k w h = marked_stop

pub marks_then : {A B : Type 0} (left : ℕ) (o : Outcome A) (k : A → Action B) → Marks left o → ((a : A) (q : Run)
    → Keeps q.left (k a q)) → Marks left (and_then o k)
marks_then left (Went a q) k (marked e) h = still (k a q) (h a q)
  where
    still : {B : Type 0} (o : Outcome B) → Keeps q.left o → Marks left o
    still (Went b q2) (kept e2) = marked (ap suc e2 ∙ e)
    still (Stopped s) w = marked_stop
marks_then left (Stopped s) k w h = marked_stop

pub keeps_at : {A : Type 0} (x y : ℕ) (o : Outcome A) → x ≡ y → Keeps x o → Keeps y o
keeps_at x y o e h = subst (λ l. Keeps l o) e h

pub marks_at : {A : Type 0} (x y : ℕ) (o : Outcome A) → x ≡ y → Marks x o → Marks y o
marks_at x y o e h = subst (λ l. Marks l o) e h

-- the same of an action that follows where no mark was made
after_kept : {A B : Type 0} (r : Run) (o : Outcome A) (k : A → Action B) → Keeps r.left o → ((a : A) (q : Run)
    → Marks q.left (k a q)) → Marks r.left (and_then o k)
after_kept r o k h g = keeps_marks r.left o k h (λ a q e. marks_at q.left r.left _ e (g a q))

-- ---- the actions

pub given_keeps : {A : Type 0} (node : ℕ) (x : Result A ℕ) (r : Run) → Keeps r.left (given node x r)
given_keeps node (Ok a) r = kept refl
given_keeps node (Err e) r = kept_stop

pub mark_marks : (r : Run) → Marks r.left (mark r)
unfolding mark
mark_marks r = by_left r.left refl
  where
    by_left : (n : ℕ) → r.left ≡ n → Marks r.left (mark_by n r)
    by_left zero e = marked_stop
    by_left (suc n) e = marked (sym e)

either_keeps : {A : Type 0} (left : ℕ) (x : Bool) (a b : Action A) (r : Run) → Keeps left (a r) → Keeps left (b r)
    → Keeps left (cond x a b r)
either_keeps left true a b r h g = h
either_keeps left false a b r h g = g

count_keeps : (n : ℕ) (r : Run) → Keeps r.left (act.count n r)
unfolding act.count
count_keeps n r = by_block r.state.block
  where
    by_block : (o : Option Saved) → Keeps r.left (act.count_in n o r.state r)
    by_block None = kept refl
    by_block (Some b) = either_keeps r.left (nat_lt 128 (b.words + n)) (ended BlockFull) (changed
        (λ s. record s { block = Some (record b { words = b.words + n }) })) r kept_stop (kept refl)

pub load_keeps : (node : ℕ) (l : Location) (k : Kind) (r : Run) → Keeps r.left (act.load node l k r)
unfolding act.load
load_keeps node l k r = given_keeps node _ r

pub store_keeps : (node : ℕ) (l : Location) (k : Kind) (v : Value) (r : Run) → Keeps r.left (act.store node l k v false r)
unfolding act.store
store_keeps node l k v r =
    keeps_then r.left (asked node (λ s. if_accessed (accessed s l k) (fitted k v)) r) (λ x. changed
    (act.put_at l.object l.offset x) >> pure x) (given_keeps node _ r) (λ a q e. kept e)

pub store_marks : (node : ℕ) (l : Location) (k : Kind) (v : Value) (r : Run) → Marks r.left (act.store node l k v true r)
unfolding act.store
store_marks node l k v r =
    after_kept r _ _ (given_keeps node _ r) (λ a q.
    marks_then q.left _ (λ u. pure a) (after_kept q _ (λ u. mark) (keeps_then q.left _ (λ u. changed
    (act.put_at l.object l.offset a)) (count_keeps 1 q) (λ u q2 e2. kept e2)) (λ u q2. mark_marks q2)) (λ u q2. kept refl))

pub sense_marks : (rs : List Reading) (channel : ℕ) (r : Run) → Marks r.left (act.sense rs channel r)
unfolding act.sense act.sense_reading
sense_marks rs channel r =
    after_kept r (act.sense_reading rs channel r) (λ v. mark >> pure (Int (pos v))) (read (slice_get rs r.used))
    (λ v q. marks_then q.left _ (λ u. pure (Int (pos v))) (mark_marks q) (λ u q2. kept refl))
  where
    read : (o : Option Reading) → Keeps r.left (act.sensed channel o r)
    read (Some (reading.Sense c v)) = either_keeps r.left (nat_eq c channel) (act.taken v) (stop NeedsReading) r
        (kept refl) kept_stop
    read (Some (reading.Clock ms)) = kept_stop
    read None = kept_stop

pub emit_marks : (node : ℕ) (v : Value) (r : Run) → Marks r.left (act.emit node v r)
unfolding act.emit
emit_marks node v r =
    after_kept r _ _ (given_keeps node (integer v) r) (λ z q.
    after_kept q (act.output_room q) _ (either_keeps q.left (nat_lt (length q.state.outputs) 256) (pure tt)
    (ended OutputFull) q (kept refl) kept_stop) (λ u q1.
    after_kept q1 (act.count 2 q1) _ (count_keeps 2 q1) (λ u q2.
    after_kept q2 (changed (λ s. record s { outputs = s.outputs ++ wrapped z ∷ [] }) q2) _ (kept refl) (λ u q3.
    marks_then q3.left (mark q3) (λ u. pure Undefined) (mark_marks q3) (λ u q4. kept refl)))))

pub enter_marks : (f bytes : ℕ) (slots : List (List Slot)) (r : Run) → Marks r.left (act.enter f bytes slots r)
unfolding act.enter
enter_marks f bytes slots r =
    after_kept r (act.entered f slots (frame_below (act.top_of r.state) bytes) r) (λ first. mark >> pure first) (placed
    (frame_below (act.top_of r.state) bytes)) (λ first q. marks_then q.left _ (λ u. pure first) (mark_marks q)
    (λ u q2. kept refl))
  where
    placed : (o : Option ℕ) → Keeps r.left (act.entered f slots o r)
    placed None = kept_stop
    placed (Some frame) = kept refl

pub leave_marks : (r : Run) → Marks r.left (act.leave r)
unfolding act.leave
leave_marks r = after_kept r (changed act.left_call r) (λ u. mark) (kept refl) (λ u q. mark_marks q)

-- ---- time

clock_keeps : (rs : List Reading) (r : Run) → Keeps r.left (act.clock_reading rs r)
unfolding act.clock_reading
clock_keeps rs r = read (slice_get rs r.used)
  where
    read : (o : Option Reading) → Keeps r.left (act.clocked o r)
    read (Some (reading.Sense c v)) = kept_stop
    read (Some (reading.Clock ms)) = kept refl
    read None = kept_stop

pub stamped_marks : (rs : List Reading) (node : ℕ) (l : Location) (k : Kind) (stamp : ℕ) (v : Value) (r : Run)
    → Marks r.left (act.stamped rs node l k stamp v r)
unfolding act.stamped
stamped_marks rs node l k stamp v r =
    after_kept r _ _ (given_keeps node _ r) (λ stored q.
    after_kept q _ _ (count_keeps 3 q) (λ u q1.
    after_kept q1 _ _ (clock_keeps rs q1) (λ now q2.
    after_kept q2 (changed (act.put_at l.object l.offset stored) q2) _ (kept refl) (λ u q3.
    after_kept q3 (changed (act.with_stamp stamp now) q3) _ (kept refl) (λ u q4. mark_marks q4)))))

pub timely_marks : (rs : List Reading) (node : ℕ) (l : Location) (k : Kind) (stamp limit : ℕ) (r : Run)
    → Marks r.left (act.timely rs node l k stamp limit r)
unfolding act.timely
timely_marks rs node l k stamp limit r =
    after_kept r _ _ (given_keeps node _ r) (λ v q.
    after_kept q _ _ (clock_keeps rs q) (λ now q1.
    marks_then q1.left (mark q1) _ (mark_marks q1) (λ u q2.
    keeps_then q2.left (asked node (λ s. Ok (not (act.is_older now limit stamp s.stamps))) q2) (pure {A = Bool})
    (given_keeps node (Ok (not (act.is_older now limit stamp q2.state.stamps))) q2) (λ young q3 e. kept e))))

-- a check of a block: what becomes of the state depends on whether something has expired
check_marks : (rs : List Reading) (names : List Timed) (f : Bool → State → State) (r : Run)
    → Marks r.left ((act.clock_reading rs >>= λ now. act.expired now names >>= λ late. changed
    (f late) >>= λ u. mark >>= λ u. pure (not late)) r)
check_marks rs names f r =
    after_kept r _ _ (clock_keeps rs r) (λ now q.
    after_kept q (act.expired now names q) _ (kept refl) (λ late q1.
    after_kept q1 (changed (f late) q1) _ (kept refl) (λ u q2.
    marks_then q2.left (mark q2) (λ u. pure (not late)) (mark_marks q2) (λ u q3. kept refl))))

pub open_marks : (rs : List Reading) (names : List Timed) (r : Run) → Marks r.left (act.open_block rs names r)
unfolding act.open_block
open_marks rs names r = check_marks rs names (λ late s. cond late s (act.opened s)) r

pub checked_marks : (rs : List Reading) (names : List Timed) (r : Run) → Marks r.left (act.check_block rs names r)
unfolding act.check_block
checked_marks rs names r = check_marks rs names (λ late s. cond late (act.undone s) s) r

pub close_marks : (rs : List Reading) (names : List Timed) (r : Run) → Marks r.left (act.close_block rs names r)
unfolding act.close_block
close_marks rs names r = check_marks rs names (λ late s. cond late (act.undone s) (act.closed_block s)) r

-- Marks are conserved: what a run has made and may still make stays one sum, and a run that stops at the mark that
-- was asked for has made exactly so many.
use Rattle.std.proofs.Common.{◌≡◌, ℕ, zero, suc, ◌+◌, ◌≤◌, ◌<◌, Bool, true, false, cond, List, [], ◌∷◌, Option, Some, None, refl, arith, rules, ap, sym, ◌∙◌}
use Rattle.std.specs.Prelude.{Result, Ok, Err, slice_get, nat_lt, nat_eq, length, not}
use Rattle.base16.specs.declared.end.EndKind.TheVariants.{BlockFull, OutputFull, StackFull}
use Rattle.base16.specs.declared.end.EndKind.{EndKind}
use Rattle.base16.specs.declared.image.Kind.{Kind}
use Rattle.base16.specs.declared.reading.Reading.{Reading}
use Rattle.base16.specs.declared.reading.Reading.TheVariants.{Sense, Clock}
use Rattle.base16.specs.Placement.{frame_below}
use Rattle.c_values.specs.declared.value.Value.{Value}
use Rattle.c_values.specs.declared.value.Location.{Location}
use Rattle.c_values.specs.declared.state.State.{State}
use Rattle.c_values.specs.declared.state.Saved.{Saved}
use Rattle.c_values.specs.Objects.{with_scalar, with_cleared}
use Rattle.core_tree.specs.declared.types.Slot.{Slot}
use Rattle.c_run.specs.Runs.{Run, Stop, Live, Ended, NeedsReading, Undefined, Wrong, Outcome, Went, Stopped, Action, and_then, ◌>>=◌, ◌>>◌, pure, stop, broken, given, asked, changed, ended, counted, mark_by, mark}
use Rattle.c_run.specs.declared.timed.Timed.{Timed}
use Rattle.c_values.specs.Values.{integer, fit}
use Rattle.c_run.specs.Actions.{put_at, count_words, count_in, count, load, store, taken, sensed, sense_reading, sense, output_room, emit, clocked, clock_reading, stamped, with_stamp, is_older, timely, expired, opened, undone, undone_to, closed_block, open_block, check_block, close_block, top_of, entered, enter, left_call, leave, with_params}

abbrev pub IsOver : Stop → Type 0
IsOver (Live s used) = ⊥
IsOver _ = Unit {0}

pub data Counts {A : Type 0} (all left : ℕ) : Outcome A → Type 0 where
  went : {a : A} {r : Run} → r.state.marks + r.left ≡ all → r.left ≤ left → Counts all left (Went a r)
  live : {s : State} {used : ℕ} → s.marks ≡ all + 1 → Counts all left (Stopped (Live s used))
  over : {st : Stop} → IsOver st → Counts all left (Stopped st)

-- an action that conserves marks
abbrev pub Counting : {A : Type 0} → Action A → Type 0
Counting p = (r : Run) → Counts (r.state.marks + r.left) r.left (p r)

lowered : {A : Type 0} {all left below : ℕ} {o : Outcome A} → below ≤ left → Counts all below o → Counts all left o
lowered h (went e l) = went e (omega (arith, h, l))
lowered h (live e) = live e
lowered h (over e) = over e

same_sum : {A : Type 0} {all other left : ℕ} {o : Outcome A} → all ≡ other → Counts all left o → Counts other left o
same_sum e c = rw (sym e) c

pub counts_then : {A B : Type 0} {all left : ℕ} {o : Outcome A} {f : A → Action B} → Counts all left o
    → ((a : A) → Counting (f a)) → Counts all left (and_then o f)
counts_then (went {a} {r} e l) h = lowered l (same_sum e (h a r))
counts_then (live e) h = live e
counts_then (over e) h = over e

pub counting_then : {A B : Type 0} (p : Action A) (f : A → Action B) → Counting p → ((a : A) → Counting (f a)) → Counting (p >>= f)
counting_then p f c h = λ r. counts_then (c r) h

pub counting_pure : {A : Type 0} (a : A) → Counting (pure a)
counting_pure a = λ r. went refl (omega arith)

pub counting_stop : {A : Type 0} (s : Stop) → IsOver s → Counting (stop {A = A} s)
counting_stop s h = λ r. over h

broken_over : (rule node : ℕ) → IsOver (broken rule node)
broken_over zero node = tt
broken_over (suc rule) node = tt

pub counting_given : {A : Type 0} (node : ℕ) (found : Result A ℕ) → Counting (given node found)
counting_given node (Ok a) = counting_pure a
counting_given node (Err rule) = λ r. over (broken_over rule node)

pub counting_asked : {A : Type 0} (node : ℕ) (f : State → Result A ℕ) → Counting (asked node f)
counting_asked node f = λ r. counting_given node (f r.state) r

pub counting_changed : (f : State → State) → ((s : State) → (f s).marks ≡ s.marks) → Counting (changed f)
counting_changed f h = λ r. went (ap (λ n. n + r.left) (h r.state)) (omega arith)

counting_mark_by : (left : ℕ) (r : Run) → r.left ≡ left → Counts (r.state.marks + r.left) r.left (mark_by left r)
counting_mark_by zero r e = live (omega (arith, e))
counting_mark_by (suc n) r e = went (omega (arith, e)) (omega (arith, e))

pub counting_mark : Counting mark
unfolding mark
counting_mark = λ r. counting_mark_by r.left r refl

pub counting_if : {A : Type 0} (b : Bool) (p q : Action A) → Counting p → Counting q → Counting (cond b p q)
counting_if true p q c d = c
counting_if false p q c d = d

pub counting_load : (node : ℕ) (l : Location) (k : Kind) → Counting (load node l k)
unfolding load
counting_load node l k = counting_asked node _

pub counting_seq : {A B : Type 0} (p : Action A) (q : Action B) → Counting p → Counting q → Counting (p >> q)
counting_seq p q c d = counting_then p (λ _. q) c (λ _. d)

counting_ended : {A : Type 0} (kind : EndKind) → Counting (ended {A = A} kind)
counting_ended kind = λ r. over tt

counting_count_in : (words : ℕ) (b : Option Saved) (s : State) → Counting (count_in words b s)
counting_count_in words None s = counting_pure tt
counting_count_in words (Some b) s =
    counting_if (nat_lt 128 (b.words + words)) _ _ (counting_ended BlockFull)
    (counting_changed (λ s. record s { block = Some (record b { words = b.words + words }) }) (λ s. refl))

pub counting_count : (words : ℕ) → Counting (count words)
unfolding count
counting_count words = λ r. counting_count_in words r.state.block r.state r

put_marks : (o : Option ℕ) (offset : ℕ) (v : Value) (s : State) → (put_at o offset v s).marks ≡ s.marks
unfolding with_scalar
put_marks None offset v s = refl
put_marks (Some n) offset v s = refl

pub counting_store : (node : ℕ) (l : Location) (k : Kind) (v : Value) (marked : Bool) → Counting (store node l k v marked)
unfolding store
counting_store node l k v marked =
    counting_then _ _ (counting_asked node _) (λ stored.
    let put = counting_changed (put_at l.object l.offset stored) (put_marks l.object l.offset stored) in
    counting_if marked _ _
    (counting_seq _ _ (counting_seq _ _ (counting_seq _ _ (counting_count 1) put) counting_mark) (counting_pure stored))
    (counting_seq _ _ put (counting_pure stored)))

counting_taken : {A : Type 0} (a : A) → Counting (taken a)
counting_taken a = λ r. went refl (omega arith)

counting_sensed : (channel : ℕ) (o : Option Reading) → Counting (sensed channel o)
counting_sensed channel None = counting_stop NeedsReading tt
counting_sensed channel (Some (Clock ms)) = counting_stop NeedsReading tt
counting_sensed channel (Some (Sense c v)) = counting_if (nat_eq c channel) _ _ (counting_taken v) (counting_stop NeedsReading tt)

pub counting_sense : (readings : List Reading) (channel : ℕ) → Counting (sense readings channel)
unfolding sense sense_reading
counting_sense readings channel =
    counting_then _ _ (λ r. counting_sensed channel (slice_get readings r.used) r) (λ v. counting_seq _ _ counting_mark (counting_pure _))

-- two ways to go on that agree on all that is left to a run give the same
pub same_then : {A B : Type 0} {all left : ℕ} {o : Outcome A} (f g : A → Action B) → Counts all left o
    → ((a : A) (r : Run) → r.left ≤ left → f a r ≡ g a r) → and_then o f ≡ and_then o g
same_then f g (went {a} {r} e l) h = h a r l
same_then f g (live e) h = refl
same_then f g (over e) h = refl

counting_room : Counting output_room
counting_room = λ r. counting_if (nat_lt (length r.state.outputs) 256) _ _ (counting_pure tt) (counting_ended OutputFull) r

pub counting_emit : (node : ℕ) (v : Value) → Counting (emit node v)
unfolding emit
counting_emit node v =
    counting_then _ _ (counting_given node (integer v)) (λ z.
    counting_seq _ _ counting_room (counting_seq _ _ (counting_count 2) (counting_seq _ _ (counting_changed _ (λ s. refl)) (counting_seq _ _ counting_mark (counting_pure _)))))

counting_clocked : (o : Option Reading) → Counting (clocked o)
counting_clocked None = counting_stop NeedsReading tt
counting_clocked (Some (Clock ms)) = counting_taken ms
counting_clocked (Some (Sense c v)) = counting_stop NeedsReading tt

counting_clock : (readings : List Reading) → Counting (clock_reading readings)
unfolding clock_reading
counting_clock readings = λ r. counting_clocked (slice_get readings r.used) r

pub counting_stamped : (readings : List Reading) (node : ℕ) (l : Location) (k : Kind) (stamp : ℕ) (v : Value)
    → Counting (stamped readings node l k stamp v)
unfolding stamped
counting_stamped readings node l k stamp v =
    counting_then _ _ (counting_asked node _) (λ stored. counting_seq _ _ (counting_count 3) (counting_then _ _ (counting_clock readings) (λ now.
    counting_seq _ _ (counting_changed (put_at l.object l.offset stored) (put_marks l.object l.offset stored)) (counting_seq _ _ (counting_changed (with_stamp stamp now) (λ s. refl)) counting_mark))))

pub counting_timely : (readings : List Reading) (node : ℕ) (l : Location) (k : Kind) (stamp limit : ℕ)
    → Counting (timely readings node l k stamp limit)
unfolding timely
counting_timely readings node l k stamp limit =
    counting_then _ _ (counting_asked node _) (λ v. counting_then _ _ (counting_clock readings) (λ now.
    counting_seq _ _ counting_mark (counting_then _ _ (counting_asked node (λ s. Ok (not (is_older now limit stamp s.stamps)))) (λ young. counting_pure young))))

counting_expired : (now : ℕ) (names : List Timed) → Counting (expired now names)
counting_expired now names = λ r. went refl (omega arith)

either_marks : (b : Bool) (p q s : State) → p.marks ≡ s.marks → q.marks ≡ s.marks → (cond b p q).marks ≡ s.marks
either_marks true p q s h i = h
either_marks false p q s h i = i

undone_marks : (b : Option Saved) (s : State) → (undone_to b s).marks ≡ s.marks
undone_marks None s = refl
undone_marks (Some b) s = refl

pub counting_open : (readings : List Reading) (names : List Timed) → Counting (open_block readings names)
unfolding open_block
counting_open readings names =
    counting_then _ _ (counting_clock readings) (λ now. counting_then _ _ (counting_expired now names) (λ late.
    counting_seq _ _ (counting_changed (λ s. cond late s (opened s)) (λ s. either_marks late s (opened s) s refl refl)) (counting_seq _ _ counting_mark (counting_pure (not late)))))

pub counting_check : (readings : List Reading) (names : List Timed) → Counting (check_block readings names)
unfolding check_block
counting_check readings names =
    counting_then _ _ (counting_clock readings) (λ now. counting_then _ _ (counting_expired now names) (λ late.
    counting_seq _ _ (counting_changed (λ s. cond late (undone s) s) (λ s. either_marks late (undone s) s s (undone_marks s.block s) refl)) (counting_seq _ _ counting_mark (counting_pure (not late)))))

pub counting_close : (readings : List Reading) (names : List Timed) → Counting (close_block readings names)
unfolding close_block
counting_close readings names =
    counting_then _ _ (counting_clock readings) (λ now. counting_then _ _ (counting_expired now names) (λ late.
    counting_seq _ _ (counting_changed (λ s. cond late (undone s) (closed_block s)) (λ s. either_marks late (undone s) (closed_block s) s (undone_marks s.block s) refl)) (counting_seq _ _ counting_mark (counting_pure (not late)))))

pub counting_cleared : (n : ℕ) → Counting (changed (with_cleared n))
unfolding with_cleared
counting_cleared n = counting_changed (with_cleared n) (λ s. refl)

counting_entered : (function : ℕ) (slots : List (List Slot)) (o : Option ℕ) → Counting (entered function slots o)
counting_entered function slots None = counting_ended StackFull
counting_entered function slots (Some frame) = λ r. went refl (omega arith)

pub counting_enter : (function bytes : ℕ) (slots : List (List Slot)) → Counting (enter function bytes slots)
unfolding enter
counting_enter function bytes slots =
    counting_then _ _ (λ r. counting_entered function slots (frame_below (top_of r.state) bytes) r) (λ first. counting_seq _ _ counting_mark (counting_pure first))

pub counting_leave : Counting leave
unfolding leave
counting_leave = counting_seq _ _ (counting_changed left_call (λ s. refl)) counting_mark

params_marks : (n : ℕ) (ks : List Kind) (vs : List Value) (s : State) → (with_params n ks vs s).marks ≡ s.marks
unfolding with_scalar
params_marks n [] vs s = refl
params_marks n (k ∷ ks) [] s = refl
params_marks n (k ∷ ks) (v ∷ vs) s = params_marks (n + 1) ks vs (with_scalar n 0 (fit k v) s)

pub counting_params : (n : ℕ) (ks : List Kind) (vs : List Value) → Counting (changed (with_params n ks vs))
counting_params n ks vs = counting_changed (with_params n ks vs) (params_marks n ks vs)

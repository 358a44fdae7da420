-- Two ways to do the same: with more marks left, with more fuel, and with other readings behind those that are taken.
use Rattle.std.proofs.Common.{◌≡◌, ℕ, zero, suc, ◌+◌, ◌≤◌, ◌<◌, Bool, true, false, cond, List, [], ◌∷◌, Option, Some, None, subst, refl, arith, rules, ap, sym, ◌∙◌}
use Rattle.std.specs.Prelude.{Result, Ok, Err, slice_get, nat_lt, nat_eq, length, not}
use Rattle.base16.specs.declared.end.EndKind.TheVariants.{BlockFull, OutputFull, StackFull}
use Rattle.base16.specs.declared.end.EndKind.{EndKind}
use Rattle.base16.specs.declared.image.Kind.{Kind}
use Rattle.base16.specs.declared.reading.Reading.{Reading}
use Rattle.base16.specs.declared.reading.Reading.TheVariants.{Sense, Clock}
use Rattle.base16.specs.Placement.{frame_below}
use Rattle.c_values.specs.declared.value.Value.{Value}
use Rattle.c_values.specs.declared.value.Location.{Location}
use Rattle.c_values.specs.declared.state.State.{State}
use Rattle.c_values.specs.declared.state.Saved.{Saved}
use Rattle.c_values.specs.Objects.{with_cleared}
use Rattle.core_tree.specs.declared.types.Slot.{Slot}
use Rattle.c_run.specs.Runs.{Run, Stop, Live, Ended, NeedsReading, Undefined, Wrong, Outcome, Went, Stopped, Action, and_then, ◌>>=◌, ◌>>◌, pure, stop, broken, given, asked, changed, ended, counted, mark_by, mark}
use Rattle.c_run.specs.declared.timed.Timed.{Timed}
use Rattle.c_values.specs.Values.{integer}
use Rattle.c_run.specs.Actions.{put_at, count_words, count_in, count, load, store, taken, sensed, sense_reading, sense, output_room, emit, clocked, clock_reading, stamped, with_stamp, is_older, timely, expired, opened, undone, closed_block, open_block, check_block, close_block, top_of, entered, enter, left_call, leave, finish, with_params}

-- how the other run differs: so many more marks are left to it; it has readings where this one lacks them; its readings
-- are its own from the number `keep` on. `size` is how many readings this one has.
pub record Way : Type 0 where
  pub more : ℕ
  pub size : ℕ
  pub keep : ℕ
  pub lacks : Bool
  pub cuts : Bool

abbrev pub later : ℕ → Run → Run
later k r = record r { left = r.left + k }

-- readings taken: no fewer than before, and no more than there are
abbrev pub Fine : ℕ → ℕ → ℕ → Type 0
Fine size u x = (u ≤ x) × (u ≤ size → x ≤ size)

abbrev pub FineStop : ℕ → ℕ → Stop → Type 0
FineStop size u (Live s x) = Fine size u x
FineStop size u (Ended k s x) = Fine size u x
FineStop size u _ = Unit {0}

-- more than `keep` readings were taken
abbrev pub PastStop : ℕ → Stop → Type 0
PastStop keep (Live s x) = keep < x
PastStop keep (Ended k s x) = keep < x
PastStop keep _ = Unit {0}

abbrev pub Past : {A : Type 0} → ℕ → ℕ → Outcome A → Type 0
Past left keep (Went a t) = (t.left < left) × (keep < t.used)
Past left keep (Stopped st) = PastStop keep st

-- the outcomes of the two; what goes on has fewer than `left` marks left
pub data Follows {A : Type 0} (w : Way) (left u : ℕ) : Outcome A → Outcome A → Type 0 where
  went : {a : A} {t : Run} → t.left < left → Fine w.size u t.used → Follows w left u (Went a t) (Went a (later w.more t))
  same : {st : Stop} → FineStop w.size u st → Follows w left u (Stopped st) (Stopped st)
  live : {s : State} {x : ℕ} {o : Outcome A} → 0 < w.more → Fine w.size u x → Follows w left u (Stopped (Live s x)) o
  lack : {o : Outcome A} → w.lacks ≡ true → Follows w left u (Stopped NeedsReading) o
  past : {o other : Outcome A} → w.cuts ≡ true → Past left w.keep o → Follows w left u o other

-- from every run with fewer than `b` marks left
pub record Goes {A : Type 0} (w : Way) (b : ℕ) (p q : Action A) : Type 0 where
  pub runs : (r : Run) → r.left < b → Follows w (suc r.left) r.used (p r) (q (later w.more r))

-- the same of an action that makes a mark, wherever it goes on
pub record Marks {A : Type 0} (w : Way) (b : ℕ) (p q : Action A) : Type 0 where
  pub runs : (r : Run) → r.left < b → Follows w r.left r.used (p r) (q (later w.more r))

-- ---- one after the other

fine_stop : {size u v : ℕ} (st : Stop) → Fine size u v → FineStop size v st → FineStop size u st
fine_stop (Live s x) h i = (omega (arith, h.0, i.0), λ l. i.1 (h.1 l))
fine_stop (Ended k s x) h i = (omega (arith, h.0, i.0), λ l. i.1 (h.1 l))
fine_stop NeedsReading h i = tt
fine_stop (Undefined rule node) h i = tt
fine_stop Wrong h i = tt

past_lower : {A : Type 0} {left below : ℕ} (keep : ℕ) (o : Outcome A) → below ≤ left → Past below keep o → Past left keep o
past_lower keep (Went a t) h i = (omega (arith, h, i.0), i.1)
past_lower keep (Stopped st) h i = i

lowered : {A : Type 0} {w : Way} {left below u v : ℕ} {o other : Outcome A} → below ≤ left → Fine w.size u v
    → Follows w below v o other → Follows w left u o other
lowered h f (went l i) = went (omega (arith, h, l)) (omega (arith, f.0, i.0), λ x. i.1 (f.1 x))
lowered h f (same {st} i) = same (fine_stop st f i)
lowered h f (live k i) = live k (omega (arith, f.0, i.0), λ x. i.1 (f.1 x))
lowered h f (lack e) = lack e
lowered h f (past {o} c i) = past c (past_lower _ o h i)

stop_past : (size u keep : ℕ) (st : Stop) → keep < u → FineStop size u st → PastStop keep st
stop_past size u keep (Live s x) h i = omega (arith, h, i.0)
stop_past size u keep (Ended k s x) h i = omega (arith, h, i.0)
stop_past size u keep NeedsReading h i = tt
stop_past size u keep (Undefined rule node) h i = tt
stop_past size u keep Wrong h i = tt

past_of : {A : Type 0} {w : Way} {left u : ℕ} {o other : Outcome A} → w.keep < u → Follows w left u o other → Past left w.keep o
past_of h (went l i) = (l, omega (arith, h, i.0))
past_of h (same {st} i) = stop_past _ _ _ st h i
past_of h (live k i) = omega (arith, h, i.0)
past_of h (lack e) = tt
past_of h (past c i) = i

past_then : {A B : Type 0} {w : Way} {left : ℕ} {f : A → Action B} (g : A → Action B) (o : Outcome A) → Past left w.keep o
    → ((a : A) (t : Run) → t.left < left → Follows w (suc t.left) t.used (f a t) (g a (later w.more t))) → Past left w.keep (and_then o f)
past_then g (Went a t) i h = past_lower _ _ (omega (arith, i.0)) (past_of i.1 (h a t i.0))
past_then g (Stopped st) i h = i

pub follows_then : {A B : Type 0} {w : Way} {left u : ℕ} {o other : Outcome A} {f : A → Action B} (g : A → Action B) → Follows w left u o other
    → ((a : A) (t : Run) → t.left < left → Follows w (suc t.left) t.used (f a t) (g a (later w.more t)))
    → Follows w left u (and_then o f) (and_then other g)
follows_then g (went {a} {t} l i) h = lowered (omega (arith, l)) i (h a t l)
follows_then g (same i) h = same i
follows_then g (live k i) h = live k i
follows_then g (lack e) h = lack e
follows_then g (past {o} c i) h = past c (past_then g o i h)

module _ {A B : Type 0} {w : Way} {b : ℕ} {p q : Action A} {f g : A → Action B} where
  pub goes_then : Goes w b p q → ((a : A) → Goes w b (f a) (g a)) → Goes w b (p >>= f) (q >>= g)
  goes_then c h = record { runs = λ r l. follows_then _ (c.runs r l) (λ a t i. (h a).runs t (omega (arith, l, i))) }

  -- the mark is the first's
  pub marks_then : Marks w b p q → ((a : A) → Goes w b (f a) (g a)) → Marks w b (p >>= f) (q >>= g)
  marks_then c h = record { runs = λ r l. follows_then _ (c.runs r l) (λ a t i. (h a).runs t (omega (arith, l, i))) }

pub goes_seq : {A B : Type 0} {w : Way} {b : ℕ} {p q : Action A} {f g : Action B} → Goes w b p q → Goes w b f g → Goes w b (p >> f) (q >> g)
goes_seq c d = goes_then c (λ _. d)

-- the same where the second makes a mark
past_marks : {A B : Type 0} {w : Way} {left : ℕ} {f : A → Action B} (g : A → Action B) (o : Outcome A) → Past (suc left) w.keep o
    → ((a : A) (t : Run) → t.left < suc left → Follows w t.left t.used (f a t) (g a (later w.more t))) → Past left w.keep (and_then o f)
past_marks g (Went a t) i h = past_lower _ _ (omega (arith, i.0)) (past_of i.1 (h a t i.0))
past_marks g (Stopped st) i h = i

marks_after : {A B : Type 0} {w : Way} {left u : ℕ} {o other : Outcome A} (f g : A → Action B) → Follows w (suc left) u o other
    → ((a : A) (t : Run) → t.left < suc left → Follows w t.left t.used (f a t) (g a (later w.more t)))
    → Follows w left u (and_then o f) (and_then other g)
marks_after f g (went {a} {t} l i) h = lowered (omega (arith, l)) i (h a t l)
marks_after f g (same i) h = same i
marks_after f g (live k i) h = live k i
marks_after f g (lack e) h = lack e
marks_after f g (past {o} c i) h = past c (past_marks g o i h)

-- with fewer marks left
pub fewer : {A : Type 0} {w : Way} {b c : ℕ} {p q : Action A} → c ≤ b → Goes w b p q → Goes w c p q
fewer h g = record { runs = λ r l. g.runs r (omega (arith, h, l)) }

pub goes_of : {A : Type 0} {w : Way} {b : ℕ} {p q : Action A} → Marks w b p q → Goes w b p q
goes_of m = record { runs = λ r l. lowered (omega arith) (omega arith, λ x. x) (m.runs r l) }

-- the mark is the second's
pub then_marks : {A B : Type 0} {w : Way} {b : ℕ} {p q : Action A} {f g : A → Action B} → Goes w b p q
    → ((a : A) → Marks w b (f a) (g a)) → Marks w b (p >>= f) (q >>= g)
then_marks c h = record { runs = λ r l. marks_after _ _ (c.runs r l) (λ a t i. (h a).runs t (omega (arith, l, i))) }

-- what makes a mark is followed by what is asked of fewer marks only
pub marks_fewer : {A B : Type 0} {w : Way} {b : ℕ} {p q : Action A} {f g : A → Action B} → Marks w (suc b) p q
    → ((a : A) → Goes w b (f a) (g a)) → Marks w (suc b) (p >>= f) (q >>= g)
marks_fewer c h = record { runs = λ r l. follows_then _ (c.runs r l) (λ a t i. (h a).runs t (omega (arith, l, i))) }

-- ---- the actions

pub goes_pure : {A : Type 0} {w : Way} {b : ℕ} (a : A) → Goes w b (pure a) (pure a)
goes_pure a = record { runs = λ r l. went (omega arith) (omega arith, λ x. x) }

pub goes_wrong : {A : Type 0} {w : Way} {b : ℕ} → Goes {A = A} w b (stop Wrong) (stop Wrong)
goes_wrong = record { runs = λ r l. same tt }

pub goes_lacks : {A : Type 0} {w : Way} {b : ℕ} → Goes {A = A} w b (stop NeedsReading) (stop NeedsReading)
goes_lacks = record { runs = λ r l. same tt }

broken_fine : (size u rule node : ℕ) → FineStop size u (broken rule node)
broken_fine size u zero node = tt
broken_fine size u (suc rule) node = tt

pub goes_given : {A : Type 0} {w : Way} {b : ℕ} (node : ℕ) (found : Result A ℕ) → Goes w b (given node found) (given node found)
goes_given node (Ok a) = goes_pure a
goes_given node (Err rule) = record { runs = λ r l. same (broken_fine _ _ rule node) }

pub goes_asked : {A : Type 0} {w : Way} {b : ℕ} (node : ℕ) (f : State → Result A ℕ) → Goes w b (asked node f) (asked node f)
goes_asked node f = record { runs = λ r l. (goes_given node (f r.state)).runs r l }

pub goes_changed : {w : Way} {b : ℕ} (f : State → State) → Goes w b (changed f) (changed f)
goes_changed f = record { runs = λ r l. went (omega arith) (omega arith, λ x. x) }

pub goes_ended : {A : Type 0} {w : Way} {b : ℕ} (kind : EndKind) → Goes {A = A} w b (ended kind) (ended kind)
goes_ended kind = record { runs = λ r l. same (omega arith, λ x. x) }

last_mark : {w : Way} (k : ℕ) (r : Run) → w.more ≡ k → Follows w zero r.used (Stopped (Live (counted r.state) r.used)) (mark_by k (later w.more r))
last_mark zero r e = same (omega arith, λ x. x)
last_mark (suc k) r e = live (omega (arith, e)) (omega arith, λ x. x)

mark_goes : {w : Way} (n m : ℕ) (r : Run) → r.left ≡ n → n + w.more ≡ m → Follows w n r.used (mark_by n r) (mark_by m (later w.more r))
mark_goes zero m r e f = last_mark m r (omega (arith, f))
mark_goes (suc n) zero r e f = absurd (omega (arith, f))
mark_goes {w} (suc n) (suc m) r e f =
    subst (λ (x : ℕ). Follows w (suc n) r.used (mark_by (suc n) r) (Went tt (record r { state = counted r.state; left = x }))) (omega (arith, f))
    (went (omega arith) (omega arith, λ x. x))

pub marks_mark : {w : Way} {b : ℕ} → Marks w b mark mark
unfolding mark
marks_mark = record { runs = λ r l. mark_goes r.left (r.left + _) r refl refl }

pub goes_mark : {w : Way} {b : ℕ} → Goes w b mark mark
goes_mark = goes_of marks_mark

pub goes_if : {A : Type 0} {w : Way} {b : ℕ} (x : Bool) {p q f g : Action A} → Goes w b p q → Goes w b f g → Goes w b (cond x p f) (cond x q g)
goes_if true c d = c
goes_if false c d = d

pub goes_load : {w : Way} {b : ℕ} (node : ℕ) (l : Location) (k : Kind) → Goes w b (load node l k) (load node l k)
unfolding load
goes_load node l k = goes_asked node _

goes_count_in : {w : Way} {b : ℕ} (words : ℕ) (o : Option Saved) (s : State) → Goes w b (count_in words o s) (count_in words o s)
goes_count_in words None s = goes_pure tt
goes_count_in words (Some o) s =
    goes_if (nat_lt 128 (o.words + words)) (goes_ended BlockFull) (goes_changed (λ s. record s { block = Some (record o { words = o.words + words }) }))

pub goes_count : {w : Way} {b : ℕ} (words : ℕ) → Goes w b (count words) (count words)
unfolding count
goes_count words = record { runs = λ r l. (goes_count_in words r.state.block r.state).runs r l }

pub goes_store : {w : Way} {b : ℕ} (node : ℕ) (l : Location) (k : Kind) (v : Value) (marked : Bool)
    → Goes w b (store node l k v marked) (store node l k v marked)
unfolding store
goes_store node l k v marked =
    goes_then (goes_asked node _) (λ stored. goes_if marked
    (goes_seq (goes_seq (goes_seq (goes_count 1) (goes_changed (put_at l.object l.offset stored))) goes_mark) (goes_pure stored))
    (goes_seq (goes_changed (put_at l.object l.offset stored)) (goes_pure stored)))

-- ---- readings

-- a reading of the two
pub data Agree (w : Way) (i : ℕ) : Option Reading → Option Reading → Type 0 where
  both : {x : Reading} → i < w.size → Agree w i (Some x) (Some x)
  neither : Agree w i None None
  lacking : {o : Option Reading} → w.lacks ≡ true → Agree w i None o
  beyond : {o other : Option Reading} → w.cuts ≡ true → w.keep ≤ i → Agree w i o other

pub record Reads (w : Way) (R Q : List Reading) : Type 0 where
  pub at : (i : ℕ) → Agree w i (slice_get R i) (slice_get Q i)

took : {A : Type 0} {w : Way} (a : A) (r : Run) → r.used < w.size → Follows w (suc r.left) r.used (taken a r) (taken a (later w.more r))
took a r h = went (omega arith) (omega arith, λ x. omega (arith, h))

sensed_if : {w : Way} (x : Bool) (v : ℕ) (r : Run) → r.used < w.size
    → Follows w (suc r.left) r.used (cond x (taken v) (stop NeedsReading) r) (cond x (taken v) (stop NeedsReading) (later w.more r))
sensed_if true v r h = took v r h
sensed_if false v r h = same tt

past_if : (keep : ℕ) (x : Bool) (v : ℕ) (r : Run) → keep ≤ r.used → Past (suc r.left) keep (cond x (taken v) (stop NeedsReading) r)
past_if keep true v r h = (omega arith, omega (arith, h))
past_if keep false v r h = tt

sensed_past : (keep channel : ℕ) (o : Option Reading) (r : Run) → keep ≤ r.used → Past (suc r.left) keep (sensed channel o r)
sensed_past keep channel None r h = tt
sensed_past keep channel (Some (Clock ms)) r h = tt
sensed_past keep channel (Some (Sense c v)) r h = past_if keep (nat_eq c channel) v r h

sensed_follows : {w : Way} {o other : Option Reading} (channel : ℕ) (r : Run) → Agree w r.used o other
    → Follows w (suc r.left) r.used (sensed channel o r) (sensed channel other (later w.more r))
sensed_follows channel r (both {x = Clock ms} h) = same tt
sensed_follows channel r (both {x = Sense c v} h) = sensed_if (nat_eq c channel) v r h
sensed_follows channel r neither = same tt
sensed_follows channel r (lacking e) = lack e
sensed_follows channel r (beyond {o} c h) = past c (sensed_past _ channel o r h)

clocked_past : (keep : ℕ) (o : Option Reading) (r : Run) → keep ≤ r.used → Past (suc r.left) keep (clocked o r)
clocked_past keep None r h = tt
clocked_past keep (Some (Clock ms)) r h = (omega arith, omega (arith, h))
clocked_past keep (Some (Sense c v)) r h = tt

clocked_follows : {w : Way} {o other : Option Reading} (r : Run) → Agree w r.used o other
    → Follows w (suc r.left) r.used (clocked o r) (clocked other (later w.more r))
clocked_follows r (both {x = Clock ms} h) = took ms r h
clocked_follows r (both {x = Sense c v} h) = same tt
clocked_follows r neither = same tt
clocked_follows r (lacking e) = lack e
clocked_follows r (beyond {o} c h) = past c (clocked_past _ o r h)

module _ {w : Way} {b : ℕ} {R Q : List Reading} (reads : Reads w R Q) where
  pub goes_sense : (channel : ℕ) → Goes w b (sense R channel) (sense Q channel)
  unfolding sense sense_reading
  goes_sense channel =
      goes_then (record { runs = λ r l. sensed_follows channel r (reads.at r.used) }) (λ v. goes_seq goes_mark (goes_pure _))

  pub goes_clock : Goes w b (clock_reading R) (clock_reading Q)
  unfolding clock_reading
  goes_clock = record { runs = λ r l. clocked_follows r (reads.at r.used) }

  pub goes_stamped : (node : ℕ) (l : Location) (k : Kind) (stamp : ℕ) (v : Value) → Goes w b (stamped R node l k stamp v) (stamped Q node l k stamp v)
  unfolding stamped
  goes_stamped node l k stamp v =
      goes_then (goes_asked node _) (λ stored. goes_seq (goes_count 3) (goes_then goes_clock (λ now.
      goes_seq (goes_changed (put_at l.object l.offset stored)) (goes_seq (goes_changed (with_stamp stamp now)) goes_mark))))

  pub goes_timely : (node : ℕ) (l : Location) (k : Kind) (stamp limit : ℕ) → Goes w b (timely R node l k stamp limit) (timely Q node l k stamp limit)
  unfolding timely
  goes_timely node l k stamp limit =
      goes_then (goes_asked node _) (λ v. goes_then goes_clock (λ now.
      goes_seq goes_mark (goes_then (goes_asked node (λ s. Ok (not (is_older now limit stamp s.stamps)))) (λ young. goes_pure young))))

  goes_expired : (now : ℕ) (names : List Timed) → Goes w b (expired now names) (expired now names)
  goes_expired now names = record { runs = λ r l. went (omega arith) (omega arith, λ x. x) }

  pub goes_open : (names : List Timed) → Goes w b (open_block R names) (open_block Q names)
  unfolding open_block
  goes_open names =
      goes_then goes_clock (λ now. goes_then (goes_expired now names) (λ late.
      goes_seq (goes_changed (λ s. cond late s (opened s))) (goes_seq goes_mark (goes_pure (not late)))))

  pub marks_check : (names : List Timed) → Marks w b (check_block R names) (check_block Q names)
  unfolding check_block
  marks_check names =
      then_marks goes_clock (λ now. then_marks (goes_expired now names) (λ late.
      marks_then (then_marks (goes_changed (λ s. cond late (undone s) s)) (λ _. marks_mark)) (λ _. goes_pure (not late))))

  pub goes_close : (names : List Timed) → Goes w b (close_block R names) (close_block Q names)
  unfolding close_block
  goes_close names =
      goes_then goes_clock (λ now. goes_then (goes_expired now names) (λ late.
      goes_seq (goes_changed (λ s. cond late (undone s) (closed_block s))) (goes_seq goes_mark (goes_pure (not late)))))

module _ {w : Way} {b : ℕ} where
  goes_room : Goes w b output_room output_room
  goes_room = record { runs = λ r l. (goes_if (nat_lt (length r.state.outputs) 256) (goes_pure tt) (goes_ended OutputFull)).runs r l }

  pub goes_emit : (node : ℕ) (v : Value) → Goes w b (emit node v) (emit node v)
  unfolding emit
  goes_emit node v =
      goes_then (goes_given node (integer v)) (λ z.
      goes_seq goes_room (goes_seq (goes_count 2) (goes_seq (goes_changed _) (goes_seq goes_mark (goes_pure _)))))

  pub goes_cleared : (n : ℕ) → Goes w b (changed (with_cleared n)) (changed (with_cleared n))
  goes_cleared n = goes_changed (with_cleared n)

  goes_entered : (function : ℕ) (slots : List (List Slot)) (o : Option ℕ) → Goes w b (entered function slots o) (entered function slots o)
  goes_entered function slots None = goes_ended StackFull
  goes_entered function slots (Some frame) = record { runs = λ r l. went (omega arith) (omega arith, λ x. x) }

  pub marks_enter : (function bytes : ℕ) (slots : List (List Slot)) → Marks w b (enter function bytes slots) (enter function bytes slots)
  unfolding enter
  marks_enter function bytes slots =
      then_marks (record { runs = λ r l. (goes_entered function slots (frame_below (top_of r.state) bytes)).runs r l })
      (λ first. marks_then marks_mark (λ _. goes_pure first))

  pub goes_leave : Goes w b leave leave
  unfolding leave
  goes_leave = goes_seq (goes_changed left_call) goes_mark

  pub goes_finish : {A : Type 0} → Goes {A = A} w b finish finish
  unfolding finish
  goes_finish = goes_seq (goes_seq (goes_changed left_call) (goes_changed (λ s. record s { marks = s.marks + 1 }))) (goes_ended _)

  pub goes_params : (n : ℕ) (ks : List Kind) (vs : List Value) → Goes w b (changed (with_params n ks vs)) (changed (with_params n ks vs))
  goes_params n ks vs = goes_changed (with_params n ks vs)

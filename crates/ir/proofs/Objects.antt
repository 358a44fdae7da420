-- Objects keep their scalars: whatever a run of a form does, each object that is alive has the offsets and kinds with which
-- it came to life, and the objects of a call those of its function.
use Rattle.std.proofs.Common.{◌≡◌, ℕ, zero, suc, ◌+◌, ◌<◌, List, [], ◌∷◌, ◌++◌, length, map, get_or, Option, Some, None, Result, Ok, Err, Bool, true, false, refl, sym, ap, ◌∙◌, subst, arith, cond, append_assoc, length-append}
use Rattle.std.proofs.Math.Seq.{get_or-append_seam}
use Rattle.std.proofs.lemmas.Bool.Decides.{nat_tests}
use Rattle.std.specs.Prelude.{slice_get, nat_lt, nat_eq, pos, not}
use Rattle.base16.specs.declared.image.Kind.{Kind}
use Rattle.base16.specs.declared.end.EndKind.{EndKind}
use Rattle.base16.specs.declared.end.EndKind.TheVariants.{BlockFull, OutputFull}
use Rattle.base16.specs.declared.reading.Reading.{Reading}
use Rattle.base16.specs.declared.reading.Reading.TheVariants as reading
use Rattle.base16.specs.Integer.{wrapped}
use Rattle.base16.specs.Placement.{frame_below}
use Rattle.core_tree.specs.declared.types.Slot.{Slot}
use Rattle.core_tree.specs.LawfulCore.{Every}
use Rattle.c_values.specs.declared.value.Value.{Value}
use Rattle.c_values.specs.declared.value.Value.TheVariants.{Int, Undefined}
use Rattle.c_values.specs.declared.value.Location.{Location}
use Rattle.c_values.specs.declared.value.Cell.{Cell}
use Rattle.c_values.specs.declared.state.Object.{Object}
use Rattle.c_values.specs.declared.state.Call.{Call}
use Rattle.c_values.specs.declared.state.Saved.{Saved}
use Rattle.c_values.specs.declared.state.State.{State}
use Rattle.c_values.specs.Objects as objects
use Rattle.c_values.specs.Values.{fit, integer}
use Rattle.c_run.specs.declared.timed.Timed.{Timed}
use Rattle.c_run.specs.Lists.{without_last}
use Rattle.c_run.specs.Making.{fresh_cell, fresh_objects}
use Rattle.c_run.specs.Runs.{Run, Stop, Outcome, Went, Stopped, Action, and_then, pure, stop, ◌>>=◌, ◌>>◌, given, asked, changed, ended, counted, mark, mark_by}
use Rattle.c_run.specs.Actions as act

-- the scalars that cells are
abbrev pub slot_of : Cell → Slot
slot_of c = record { offset = c.offset; kind = c.kind }

abbrev pub slots_of : List Cell → List Slot
slots_of cs = map slot_of cs

-- what a change leaves true of each
every_map : {A : Type 0} (P : A → Type 0) (f : A → A) → ((a : A) → P a → P (f a)) → (xs : List A) → Every P xs
    → Every P (map f xs)
every_map P f h [] e = tt
every_map P f h (x ∷ xs) e = (h x e.0, every_map P f h xs e.1)

every_as : {A : Type 0} {P Q : A → Type 0} → ((a : A) → P a → Q a) → (xs : List A) → Every P xs → Every Q xs
every_as h [] e = tt
every_as h (x ∷ xs) e = (h x e.0, every_as h xs e.1)

every_and_last : {A : Type 0} (P : A → Type 0) (xs : List A) (y : A) → Every P xs → P y → Every P (xs ++ y ∷ [])
every_and_last P [] y e p = (p, tt)
every_and_last P (x ∷ xs) y e p = (e.0, every_and_last P xs y e.1 p)

every_but_last : {A : Type 0} (P : A → Type 0) (xs : List A) → Every P xs → Every P (without_last xs)
every_but_last P [] e = tt
every_but_last P (x ∷ []) e = tt
every_but_last P (x ∷ (y ∷ ys)) e = (e.0, every_but_last P (y ∷ ys) e.1)

-- ---- a state, where the objects that came to life had these scalars, in order

pub record Has (born : List (List Slot)) (o : Object) : Type 0 where
  pub known : o.number < length born
  pub slots : slots_of o.cells ≡ get_or born o.number []

abbrev pub CallHas : List (List Slot) → Call → Type 0
CallHas born c = Every (Has born) c.locals

abbrev pub SavedHas : List (List Slot) → Option Saved → Type 0
SavedHas born None = Unit {0}
SavedHas born (Some b) = Every (Has born) b.globals × Every (CallHas born) b.calls

pub record StateHas (born : List (List Slot)) (s : State) : Type 0 where
  pub globals : Every (Has born) s.globals
  pub calls : Every (CallHas born) s.calls
  pub block : SavedHas born s.block

-- more objects come to life

pub first_of : (a b : List (List Slot)) (n : ℕ) → n < length a → get_or (a ++ b) n [] ≡ get_or a n []
first_of [] b n h = absurd (omega (arith, h))
first_of (x ∷ a) b zero h = refl
first_of (x ∷ a) b (suc n) h = first_of a b n (omega (arith, h))

module _ (born more : List (List Slot)) where
  then_has : (o : Object) → Has born o → Has (born ++ more) o
  then_has o h = record {
    known = omega (arith, h.known, length-append born more);
    slots = h.slots ∙ sym (first_of born more o.number h.known);
  }

  then_call : (c : Call) → CallHas born c → CallHas (born ++ more) c
  then_call c h = every_as then_has c.locals h

  then_saved : (o : Option Saved) → SavedHas born o → SavedHas (born ++ more) o
  then_saved None h = tt
  then_saved (Some b) h = (every_as then_has b.globals h.0, every_as then_call b.calls h.1)

  then_state : (s : State) → StateHas born s → StateHas (born ++ more) s
  then_state s h = record {
    globals = every_as then_has s.globals h.globals;
    calls = every_as then_call s.calls h.calls;
    block = then_saved s.block h.block;
  }

fresh_slots : (ss : List Slot) → slots_of (map fresh_cell ss) ≡ ss
fresh_slots [] = refl
fresh_slots (s ∷ ss) = ap (λ l. s ∷ l) (fresh_slots ss)

-- objects that come to life have their scalars
fresh_has : (slots born : List (List Slot)) (n : ℕ) → n ≡ length born → Every (Has (born ++ slots)) (fresh_objects n slots)
fresh_has [] born n e = tt
fresh_has (s ∷ more) born n e =
    let long : n + 1 ≡ length (born ++ s ∷ []) = omega (arith, e, length-append born (s ∷ [])) in (
      record {
        known = omega (arith, e, length-append born (s ∷ more));
        slots = fresh_slots s ∙ sym (ap (λ k. get_or (born ++ s ∷ more) k []) e ∙ get_or-append_seam born s more []);
      },
      subst (λ l. Every (Has l) (fresh_objects (n + 1) more)) (append_assoc born (s ∷ []) more)
          (fresh_has more (born ++ s ∷ []) (n + 1) long),
    )

-- ---- changes that leave the scalars where they are

pub record Still (f : Object → Object) : Type 0 where
  pub number : (o : Object) → (f o).number ≡ o.number
  pub slots : (o : Object) → slots_of (f o).cells ≡ slots_of o.cells

still_has : {born : List (List Slot)} (f : Object → Object) → Still f → (o : Object) → Has born o → Has born (f o)
still_has {born} f t o h = record {
  known = subst (λ n. n < length born) (sym (t.number o)) h.known;
  slots = t.slots o ∙ (h.slots ∙ ap (λ n. get_or born n []) (sym (t.number o)));
}

same_slots : (f : Cell → Cell) → ((c : Cell) → slot_of (f c) ≡ slot_of c) → (cs : List Cell) → slots_of (map f cs) ≡ slots_of cs
same_slots f h [] = refl
same_slots f h (c ∷ cs) = ap (λ s. s ∷ slots_of (map f cs)) (h c) ∙ ap (λ l. slot_of c ∷ l) (same_slots f h cs)

put_slot : (offset : ℕ) (v : Value) (c : Cell) → slot_of (objects.put_cell offset v c) ≡ slot_of c
put_slot offset v c = by_bool (nat_eq c.offset offset)
  where
    by_bool : (b : Bool) → slot_of (cond b (record c { value = v }) c) ≡ slot_of c
    by_bool true = refl
    by_bool false = refl

put_still : (n offset : ℕ) (v : Value) → Still (objects.put_object n offset v)
put_still n offset v = record { number = λ o. by_number o (nat_eq o.number n); slots = λ o. by_slots o (nat_eq o.number n) }
  where
    by_number : (o : Object) (b : Bool)
        → (cond b (record o { cells = map (objects.put_cell offset v) o.cells }) o).number ≡ o.number
    by_number o true = refl
    by_number o false = refl

    by_slots : (o : Object) (b : Bool)
        → slots_of (cond b (record o { cells = map (objects.put_cell offset v) o.cells }) o).cells ≡ slots_of o.cells
    by_slots o true = same_slots (objects.put_cell offset v) (put_slot offset v) o.cells
    by_slots o false = refl

clear_still : (n : ℕ) → Still (objects.clear_object n)
clear_still n = record { number = λ o. by_number o (nat_eq o.number n); slots = λ o. by_slots o (nat_eq o.number n) }
  where
    by_number : (o : Object) (b : Bool) → (cond b (record o { cells = map objects.cleared_cell o.cells }) o).number ≡ o.number
    by_number o true = refl
    by_number o false = refl

    by_slots : (o : Object) (b : Bool)
        → slots_of (cond b (record o { cells = map objects.cleared_cell o.cells }) o).cells ≡ slots_of o.cells
    by_slots o true = same_slots objects.cleared_cell (λ c. refl) o.cells
    by_slots o false = refl

module _ (born : List (List Slot)) where
  put_has : (n offset : ℕ) (v : Value) (s : State) → StateHas born s → StateHas born (objects.with_scalar n offset v s)
  unfolding objects.with_scalar
  put_has n offset v s h = record {
    globals = every_map (Has born) (objects.put_object n offset v) (still_has _ (put_still n offset v)) s.globals h.globals;
    calls = every_map (CallHas born) (objects.put_call n offset v) (λ c e.
        every_map (Has born) (objects.put_object n offset v) (still_has _ (put_still n offset v)) c.locals e) s.calls h.calls;
    block = h.block;
  }

  pub clear_has : (n : ℕ) (s : State) → StateHas born s → StateHas born (objects.with_cleared n s)
  unfolding objects.with_cleared
  clear_has n s h = record {
    globals = every_map (Has born) (objects.clear_object n) (still_has _ (clear_still n)) s.globals h.globals;
    calls = every_map (CallHas born) (objects.clear_call n) (λ c e.
        every_map (Has born) (objects.clear_object n) (still_has _ (clear_still n)) c.locals e) s.calls h.calls;
    block = h.block;
  }

  put_at_has : (o : Option ℕ) (offset : ℕ) (v : Value) (s : State) → StateHas born s → StateHas born (act.put_at o offset v s)
  put_at_has None offset v s h = h
  put_at_has (Some n) offset v s h = put_has n offset v s h

  pub params_has : (n : ℕ) (ks : List Kind) (vs : List Value) (s : State) → StateHas born s
      → StateHas born (act.with_params n ks vs s)
  params_has n [] vs s h = h
  params_has n (k ∷ ks) [] s h = h
  params_has n (k ∷ ks) (v ∷ vs) s h = params_has (n + 1) ks vs (objects.with_scalar n 0 (fit k v) s)
      (put_has n 0 (fit k v) s h)

  undone_has : (o : Option Saved) (s : State) → SavedHas born o → StateHas born s → StateHas born (act.undone_to o s)
  undone_has None s b h = h
  undone_has (Some saved) s b h = record { globals = b.0; calls = b.1; block = tt }

  -- what stands beside the objects may change
  beside_has : (s t : State) → t.globals ≡ s.globals → t.calls ≡ s.calls → t.block ≡ s.block → StateHas born s
      → StateHas born t
  beside_has s t g c b h = record {
    globals = subst (Every (Has born)) (sym g) h.globals;
    calls = subst (Every (CallHas born)) (sym c) h.calls;
    block = subst (SavedHas born) (sym b) h.block;
  }

  -- ---- actions, that bring no object to life

  pub record Sound (r : Run) : Type 0 where
    pub many : length born ≡ r.next
    pub state : StateHas born r.state

  pub data Keeps {A : Type 0} (P : A → Type 0) : Outcome A → Type 0 where
    went : {a : A} {q : Run} → Sound q → P a → Keeps P (Went a q)
    stopped : {s : Stop} → Keeps P (Stopped s)

  pub record Safe {A : Type 0} (P : A → Type 0) (p : Action A) : Type 0 where
    pub runs : (r : Run) → Sound r → Keeps P (p r)

abbrev pub Any : {A : Type 0} → A → Type 0
Any a = Unit {0}

module _ {born : List (List Slot)} where
  pub keeps_then : {A B : Type 0} {P : A → Type 0} {Q : B → Type 0} (o : Outcome A) (k : A → Action B) → Keeps born P o
      → ((a : A) → P a → Safe born Q (k a)) → Keeps born Q (and_then o k)
  keeps_then (Went a q) k (went s p) h = (h a p).runs q s
  keeps_then (Stopped s) k w h = stopped

  pub safe_then : {A B : Type 0} {P : A → Type 0} {Q : B → Type 0} {p : Action A} {k : A → Action B} → Safe born P p
      → ((a : A) → P a → Safe born Q (k a)) → Safe born Q (p >>= k)
  safe_then {p = p} {k = k} h g = record { runs = λ r s. keeps_then (p r) k (h.runs r s) g }

  safe_seq : {A B : Type 0} {P : A → Type 0} {Q : B → Type 0} {p : Action A} {k : Action B} → Safe born P p → Safe born Q k
      → Safe born Q (p >> k)
  safe_seq h g = safe_then h (λ a e. g)

  pub safe_pure : {A : Type 0} {P : A → Type 0} (a : A) → P a → Safe born P (pure a)
  safe_pure a p = record { runs = λ r s. went s p }

  pub safe_stop : {A : Type 0} {P : A → Type 0} {t : Stop} → Safe born P (stop t)
  safe_stop = record { runs = λ r s. stopped }

  safe_ended : {A : Type 0} {P : A → Type 0} (kind : EndKind) → Safe born P (ended kind)
  safe_ended kind = record { runs = λ r s. stopped }

  pub safe_given : {A : Type 0} (node : ℕ) (x : Result A ℕ) → Safe born Any (given node x)
  safe_given node (Ok a) = safe_pure a tt
  safe_given node (Err e) = safe_stop

  pub safe_asked : {A : Type 0} (node : ℕ) (f : State → Result A ℕ) → Safe born Any (asked node f)
  safe_asked node f = record { runs = λ r s. (safe_given node (f r.state)).runs r s }

  pub safe_changed : (f : State → State) → ((s : State) → StateHas born s → StateHas born (f s)) → Safe born Any (changed f)
  safe_changed f h = record { runs = λ r s. went (record { many = s.many; state = h r.state s.state }) tt }

  pub safe_if : {A : Type 0} {P : A → Type 0} (b : Bool) {p q : Action A} → Safe born P p → Safe born P q
      → Safe born P (cond b p q)
  safe_if true h g = h
  safe_if false h g = g

  pub safe_mark : Safe born Any mark
  unfolding mark
  safe_mark = record { runs = λ r s. by_left r.left r s }
    where
      by_left : (n : ℕ) (r : Run) → Sound born r → Keeps born Any (mark_by n r)
      by_left zero r s = stopped
      by_left (suc n) r s =
          went (record { many = s.many; state = beside_has born r.state (counted r.state) refl refl refl s.state }) tt

  pub safe_load : (node : ℕ) (l : Location) (k : Kind) → Safe born Any (act.load node l k)
  unfolding act.load
  safe_load node l k = safe_asked node _

  safe_count : (words : ℕ) → Safe born Any (act.count words)
  unfolding act.count
  safe_count words = record { runs = λ r s. by_block r s r.state.block s.state.block }
    where
      by_block : (r : Run) → Sound born r → (o : Option Saved) → SavedHas born o
          → Keeps born Any (act.count_in words o r.state r)
      by_block r s None b = went s tt
      by_block r s (Some saved) b = (safe_if (nat_lt 128 (saved.words + words)) (safe_ended BlockFull)
          (safe_changed (λ t. record t { block = Some (record saved { words = saved.words + words }) })
          (λ t h. record { globals = h.globals; calls = h.calls; block = b }))).runs r s

  pub safe_store : (node : ℕ) (l : Location) (k : Kind) (v : Value) (marked : Bool)
      → Safe born Any (act.store node l k v marked)
  unfolding act.store
  safe_store node l k v marked = safe_then (safe_asked node _) (λ stored e. safe_if marked
      (safe_seq (safe_seq (safe_seq (safe_count 1) (safe_put l stored)) safe_mark) (safe_pure stored tt))
      (safe_seq (safe_put l stored) (safe_pure stored tt)))
    where
      safe_put : (l : Location) (v : Value) → Safe born Any (changed (act.put_at l.object l.offset v))
      safe_put l v = safe_changed _ (put_at_has born l.object l.offset v)

  -- ---- the outside

  safe_taken : {A : Type 0} (a : A) → Safe born Any (act.taken a)
  safe_taken a = record { runs = λ r s. went (record { many = s.many; state = s.state }) tt }

  pub safe_sense : (rs : List Reading) (channel : ℕ) → Safe born Any (act.sense rs channel)
  unfolding act.sense act.sense_reading
  safe_sense rs channel = safe_then (record { runs = λ r s. (read (slice_get rs r.used)).runs r s })
      (λ v e. safe_seq safe_mark (safe_pure (Int (pos v)) tt))
    where
      read : (o : Option Reading) → Safe born Any (act.sensed channel o)
      read None = safe_stop
      read (Some (reading.Clock ms)) = safe_stop
      read (Some (reading.Sense c v)) = safe_if (nat_eq c channel) (safe_taken v) safe_stop

  safe_clock : (rs : List Reading) → Safe born Any (act.clock_reading rs)
  unfolding act.clock_reading
  safe_clock rs = record { runs = λ r s. (read (slice_get rs r.used)).runs r s }
    where
      read : (o : Option Reading) → Safe born Any (act.clocked o)
      read None = safe_stop
      read (Some (reading.Sense c v)) = safe_stop
      read (Some (reading.Clock ms)) = safe_taken ms

  pub safe_emit : (node : ℕ) (v : Value) → Safe born Any (act.emit node v)
  unfolding act.emit
  safe_emit node v = safe_then (safe_given node (integer v)) (λ z e. safe_seq room (safe_seq (safe_count 2)
      (safe_seq (safe_changed (λ s. record s { outputs = s.outputs ++ wrapped z ∷ [] })
      (λ s h. beside_has born s (record s { outputs = s.outputs ++ wrapped z ∷ [] }) refl refl refl h))
      (safe_seq safe_mark (safe_pure Undefined tt)))))
    where
      room : Safe born Any act.output_room
      room = record {
        runs = λ r s.
            (safe_if (nat_lt (length r.state.outputs) 256) (safe_pure tt tt) (safe_ended OutputFull)).runs r s;
      }

  -- ---- calls

  pub safe_leave : Safe born Any act.leave
  unfolding act.leave
  safe_leave = safe_seq (safe_changed act.left_call
      (λ s h. record { globals = h.globals; calls = every_but_last (CallHas born) s.calls h.calls; block = h.block })) safe_mark

  pub safe_finish : {A : Type 0} {P : A → Type 0} → Safe born P act.finish
  unfolding act.finish
  safe_finish = record { runs = λ r s. stopped }

  -- ---- time

  pub safe_stamped : (rs : List Reading) (node : ℕ) (l : Location) (k : Kind) (stamp : ℕ) (v : Value)
      → Safe born Any (act.stamped rs node l k stamp v)
  unfolding act.stamped
  safe_stamped rs node l k stamp v =
      safe_then (safe_asked node _) (λ stored e. safe_seq (safe_count 3) (safe_then (safe_clock rs) (λ now e2.
      safe_seq (safe_changed (act.put_at l.object l.offset stored) (put_at_has born l.object l.offset stored))
      (safe_seq (safe_changed (act.with_stamp stamp now)
      (λ s h. beside_has born s (act.with_stamp stamp now s) refl refl refl h)) safe_mark))))

  pub safe_timely : (rs : List Reading) (node : ℕ) (l : Location) (k : Kind) (stamp limit : ℕ)
      → Safe born Any (act.timely rs node l k stamp limit)
  unfolding act.timely
  safe_timely rs node l k stamp limit =
      safe_then (safe_asked node _) (λ v e. safe_then (safe_clock rs) (λ now e2. safe_seq safe_mark
      (safe_then (safe_asked node (λ s. Ok (not (act.is_older now limit stamp s.stamps)))) (λ young e3.
      safe_pure young tt))))

  safe_expired : (now : ℕ) (names : List Timed) → Safe born Any (act.expired now names)
  safe_expired now names = record { runs = λ r s. went s tt }

  -- a check of a block: what becomes of the state depends on whether something has expired
  safe_check : (rs : List Reading) (names : List Timed) (f : Bool → State → State)
      → ((late : Bool) (s : State) → StateHas born s → StateHas born (f late s))
      → Safe born Any (act.clock_reading rs >>= λ now. act.expired now names >>= λ late. changed
      (f late) >>= λ u. mark >>= λ u. pure (not late))
  safe_check rs names f h = safe_then (safe_clock rs) (λ now e. safe_then (safe_expired now names) (λ late e2.
      safe_then (safe_changed (f late) (h late)) (λ u e3. safe_then safe_mark (λ u2 e4. safe_pure (not late) tt))))

  pub safe_open : (rs : List Reading) (names : List Timed) → Safe born Any (act.open_block rs names)
  unfolding act.open_block
  safe_open rs names = safe_check rs names (λ late s. cond late s (act.opened s)) by_late
    where
      by_late : (late : Bool) (s : State) → StateHas born s → StateHas born (cond late s (act.opened s))
      by_late true s h = h
      by_late false s h = record { globals = h.globals; calls = h.calls; block = (h.globals, h.calls) }

  pub safe_checked : (rs : List Reading) (names : List Timed) → Safe born Any (act.check_block rs names)
  unfolding act.check_block
  safe_checked rs names = safe_check rs names (λ late s. cond late (act.undone s) s) by_late
    where
      by_late : (late : Bool) (s : State) → StateHas born s → StateHas born (cond late (act.undone s) s)
      by_late true s h = undone_has born s.block s h.block h
      by_late false s h = h

  pub safe_close : (rs : List Reading) (names : List Timed) → Safe born Any (act.close_block rs names)
  unfolding act.close_block
  safe_close rs names = safe_check rs names (λ late s. cond late (act.undone s) (act.closed_block s)) by_late
    where
      by_late : (late : Bool) (s : State) → StateHas born s → StateHas born (cond late (act.undone s) (act.closed_block s))
      by_late true s h = undone_has born s.block s h.block h
      by_late false s h = record { globals = h.globals; calls = h.calls; block = tt }

-- ---- the action that brings objects to life

abbrev entered_call : (function frame next : ℕ) → List (List Slot) → Call
entered_call function frame next slots = record { function = function; frame = frame; locals = fresh_objects next slots }

-- a function is entered: its objects are those behind the ones before
pub enter_keeps : (born : List (List Slot)) (function bytes : ℕ) (slots : List (List Slot)) (r : Run) → Sound born r
    → Keeps (born ++ slots) (λ first. first ≡ length born) (act.enter function bytes slots r)
unfolding act.enter
enter_keeps born function bytes slots r s = by_frame (frame_below (act.top_of r.state) bytes)
  where
    by_frame : (o : Option ℕ) → Keeps (born ++ slots) (λ first. first ≡ length born)
        (and_then (act.entered function slots o r) (λ first. mark >> pure first))
    by_frame None = stopped
    by_frame (Some frame) =
        let old = then_state born slots r.state s.state in
        (safe_seq safe_mark (safe_pure r.next (sym s.many))).runs
        (record r {
          state = act.with_call (entered_call function frame r.next slots) r.state;
          next = r.next + length slots;
        })
        (record {
          many = omega (arith, length-append born slots, s.many);
          state = record {
            globals = old.globals;
            calls = every_and_last (CallHas (born ++ slots)) r.state.calls (entered_call function frame r.next slots) old.calls
                (fresh_has slots born r.next (sym s.many));
            block = old.block;
          };
        })

-- ---- the object of a number

found_has : {born : List (List Slot)} (n : ℕ) (os : List Object) (o : Object) → Every (Has born) os
    → objects.find_object n os ≡ Some o → (o.number ≡ n) × Has born o
found_has n [] o h e = absurd (grind (arith, e))
found_has {born} n (x ∷ os) o h e = by_bool (λ f. found_has n os o h.1 f) (nat_eq x.number n) refl e
  where
    or_this : Object → Option Object → Object
    or_this d None = d
    or_this d (Some z) = z

    by_bool : (objects.find_object n os ≡ Some o → (o.number ≡ n) × Has born o) → (b : Bool) → nat_eq x.number n ≡ b
        → cond b (Some x) (objects.find_object n os) ≡ Some o → (o.number ≡ n) × Has born o
    by_bool more true t f =
        let same : x ≡ o = ap (or_this x) f in
        let number : x.number ≡ n = grind (arith, nat_tests, t) in
        (subst (λ z. z.number ≡ n) same number, subst (λ z. Has born z) same h.0)
    by_bool more false t f = more f

either_found : (o : Object) (a b : Option Object) → objects.or_else a b ≡ Some o → (P : Type 0) → (a ≡ Some o → P)
    → (b ≡ Some o → P) → P
either_found o (Some x) b e P h g = h e
either_found o None b e P h g = g e

local_has : {born : List (List Slot)} (n : ℕ) (cs : List Call) (o : Object) → Every (CallHas born) cs
    → objects.find_local n cs ≡ Some o → (o.number ≡ n) × Has born o
local_has n [] o h e = absurd (grind (arith, e))
local_has {born} n (c ∷ cs) o h e = either_found o (objects.find_object n c.locals) (objects.find_local n cs) e
    ((o.number ≡ n) × Has born o) (found_has n c.locals o h.0) (local_has n cs o h.1)

-- what is found has the scalars of that number
pub object_has : {born : List (List Slot)} (s : State) (n : ℕ) (o : Object) → StateHas born s
    → objects.object_of s n ≡ Some o → slots_of o.cells ≡ get_or born n []
unfolding objects.object_of
object_has {born} s n o h e =
    let found = either_found o (objects.find_object n s.globals) (objects.find_local n s.calls) e
    ((o.number ≡ n) × Has born o) (found_has n s.globals o h.globals) (local_has n s.calls o h.calls) in
    found.1.slots ∙ ap (λ k. get_or born k []) found.0

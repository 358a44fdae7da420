-- What each action does from runs that stand: they go on standing, with a value of its shape.
use Rattle.std.proofs.Common.{◌<◌, ◌≡◌, ℕ, zero, suc, ◌+◌, ◌≤◌, Bool, true, false, cond, List, [], ◌∷◌, ◌++◌, Option, Some, None, refl, sym, subst, arith}
use Rattle.std.specs.Prelude.{pos, Result, Ok, Err, nat_eq, nat_lt, length, slice_get, not}
use Rattle.base16.specs.declared.end.EndKind.{EndKind}
use Rattle.base16.specs.declared.end.EndKind.TheVariants.{BlockFull, OutputFull}
use Rattle.base16.specs.declared.image.Kind.{Kind}
use Rattle.base16.specs.declared.reading.Reading.{Reading}
use Rattle.base16.specs.declared.reading.Reading.TheVariants.{Sense, Clock}
use Rattle.base16.specs.Integer.{wrapped}
use Rattle.core_tree.specs.declared.types.Ty.{Ty}
use Rattle.core_tree.specs.declared.program.Core.{Core}
use Rattle.core_tree.specs.Layout.{kind_of}
use Rattle.core_tree.specs.LawfulCore.{IsObject}
use Rattle.c_values.specs.declared.value.Value.{Value}
use Rattle.c_values.specs.declared.value.Value.TheVariants.{Int, Pointer, Null, Undefined}
use Rattle.c_values.specs.declared.value.Location.{Location}
use Rattle.c_values.specs.declared.state.Saved.{Saved}
use Rattle.c_values.specs.declared.state.State.{State}
use Rattle.c_values.specs.Objects.{object_of, value_of, accessed_in, accessed, with_cleared}
use Rattle.c_values.specs.Values.{defined, if_accessed, fitted, integer}
use Rattle.c_run.specs.Runs.{Run, NeedsReading, Outcome, Action, changed, ended, mark_by, mark}
use Rattle.c_run.specs.declared.timed.Timed.{Timed}
use Rattle.c_run.specs.Actions.{put_at, count_in, count, load, store, taken, sensed, sense_reading, sense, output_room, emit, clocked, clock_reading, stamped, with_stamp, is_older, timely, expired, opened, undone, undone_to, closed_block, open_block, check_block, close_block, left_call, leave, finish}
use Rattle.c_soundness.specs.Shapes.{IsInteger, IsIn, IsAt, Has, MayStand, holds_pointer}
use Rattle.c_soundness.specs.Standing.{Kinds, CallStands, SavedStands, StateStands, Frame, StandsBy, Stands}
use Rattle.c_soundness.proofs.Triples.{Granted, Any, Sound, goes_on, stops, Triple, Keeps, t_from, t_then, t_seq, t_pure, t_value, t_given, t_asked, t_if, t_changed, t_stop, granted_weak}
use Rattle.c_soundness.proofs.Operators.{granted_integer, fitted_stands}
use Rattle.c_soundness.proofs.Types.{has_of_kind, has_stands, has_fitted}
use Rattle.c_soundness.proofs.Cells.{every_but_last, Found, found_value, set_state, clear_state}

-- ---- wherever pointers stand

sound_any : {A : Type 0} {many : ℕ} {P : A → Type 0} {kinds : Kinds} {frames : List Frame} {below : ℕ} {o : Outcome A}
    → Sound many (StandsBy kinds frames below) P o → Sound many (Stands frames below) P o
sound_any {kinds} (goes_on h w) = goes_on h (record { kinds = kinds; by = w })
sound_any (stops h) = stops h

-- what holds for all kinds
pub t_any : {A : Type 0} {many : ℕ} {P : A → Type 0} {fs gs : List Frame} {b c : ℕ} {p : Action A}
    → ((kinds : Kinds) → Triple many (StandsBy kinds fs b) (StandsBy kinds gs c) P p) → Triple many (Stands fs b)
    (Stands gs c) P p
t_any h = record { runs = λ r w. sound_any ((h w.kinds).runs r w.by) }

-- fewer marks are left than any greater number
pub lower : {kinds : Kinds} {frames : List Frame} (b c : ℕ) (r : Run) → b ≤ c → StandsBy kinds frames b r
    → StandsBy kinds frames c r
lower b c r h w = record { state = w.state; calls = w.calls; left = omega (arith, h, w.left) }

-- ---- values

granted_defined : (P : Value → Type 0) (x : Result Value ℕ) → Granted P x → Granted P (defined x)
granted_defined P (Ok (Int z)) h = h
granted_defined P (Ok (Pointer n offset)) h = h
granted_defined P (Ok Null) h = h
granted_defined P (Ok Undefined) h = refl
granted_defined P (Err n) h = h

-- a value that may be put in a place
abbrev pub Puts : Kinds → Kind → (Value → Type 0) → ℕ → Option ℕ → Value → Type 0
Puts kinds k P offset None v = ⊥
Puts kinds k P offset (Some n) v = P v × (kinds n offset ≡ holds_pointer k)

puts_value : (kinds : Kinds) (k : Kind) (P : Value → Type 0) (offset : ℕ) (o : Option ℕ) (v : Value) → Puts kinds k P offset o v
    → P v
puts_value kinds k P offset None v h = absurd h
puts_value kinds k P offset (Some n) v h = h.0

module _ (kinds : Kinds) where
  has_accessed : (core : Core) (t : Ty) (offset : ℕ) (o : Option ℕ) (next : ℕ) (s : State) → IsIn (IsObject core t) o
      → StateStands kinds next s
      → Granted (Has core t) (accessed_in s offset (kind_of t) o)
  has_accessed core t offset None next s at w = refl
  has_accessed core t offset (Some n) next s at w =
      granted_weak (value_of offset (kind_of t) (object_of s n)) (λ v f. has_of_kind core t v at f.0)
      (found_value kinds next n offset (kind_of t) s w)

  both_granted : (n offset : ℕ) (k : Kind) (P : Value → Type 0) (x y : Result Value ℕ) → Granted (Found kinds 0 n offset k) x
      → Granted P y
      → Granted (Puts kinds k P offset (Some n)) (if_accessed x y)
  both_granted n offset k P (Ok a) (Ok v) h i = (i, h.1)
  both_granted n offset k P (Ok a) (Err e) h i = i
  both_granted n offset k P (Err e) y h i = h

  puts_accessed : (k : Kind) (P : Value → Type 0) (v : Value) (offset : ℕ) (o : Option ℕ) (next : ℕ) (s : State)
      → Granted P (fitted k v) → StateStands kinds next s
      → Granted (Puts kinds k P offset o) (if_accessed (accessed_in s offset k o) (fitted k v))
  puts_accessed k P v offset None next s h w = refl
  puts_accessed k P v offset (Some n) next s h w =
      both_granted n offset k P (value_of offset k (object_of s n)) (fitted k v) (found_value kinds next n offset k s w) h

  put_stands : (k : Kind) (P : Value → Type 0) → ((v : Value) → P v → MayStand (holds_pointer k) v) → (offset : ℕ) (o : Option ℕ)
      (v : Value) (next : ℕ) (s : State) → Puts kinds k P offset o v → StateStands kinds next s
      → StateStands kinds next (put_at o offset v s)
  put_stands k P f offset None v next s h w = absurd h
  put_stands k P f offset (Some n) v next s h w =
      set_state kinds next n offset v (subst (λ (x : Bool). MayStand x v) (sym h.1) (f v h.0)) s w

  accessed_any : (core : Core) (t : Ty) (l : Location) (next : ℕ) (s : State) → IsAt core t l → StateStands kinds next s
      → Granted {A = Value} Any (accessed s l (kind_of t))
  unfolding accessed
  accessed_any core t l next s at w = granted_weak (accessed s l (kind_of t)) (λ v h. tt)
      (has_accessed core t l.offset l.object next s at w)

  either_stands : (late : Bool) (next : ℕ) (s t u : State) → StateStands kinds next t → StateStands kinds next u
      → StateStands kinds next (cond late t u)
  either_stands true next s t u h i = h
  either_stands false next s t u h i = i

  opened_stands : (next : ℕ) (s : State) → StateStands kinds next s → StateStands kinds next (opened s)
  opened_stands next s w = record { globals = w.globals; calls = w.calls; saved = (w.globals, w.calls) }

  closed_stands : (next : ℕ) (s : State) → StateStands kinds next s → StateStands kinds next (closed_block s)
  closed_stands next s w = record { globals = w.globals; calls = w.calls; saved = tt }

  undone_stands : (next : ℕ) (o : Option Saved) (s : State) → SavedStands kinds next o → StateStands kinds next s
      → StateStands kinds next (undone_to o s)
  undone_stands next None s h w = w
  undone_stands next (Some o) s h w = record { globals = h.0; calls = h.1; saved = tt }

  left_stands : (next : ℕ) (s : State) → StateStands kinds next s → StateStands kinds next (left_call s)
  left_stands next s w = record {
    globals = w.globals;
    calls = every_but_last
        (CallStands kinds next) s.calls w.calls;
    saved = w.saved;
  }

module _ {many : ℕ} {kinds : Kinds} {frames : List Frame} where
  -- ---- marks

  marked_by : (b n : ℕ) (r : Run) → r.left ≡ n → StandsBy kinds frames (suc b) r → Sound many (StandsBy kinds frames b) Any
      (mark_by n r)
  marked_by b zero r e w = stops tt
  marked_by b (suc n) r e w = goes_on tt (record {
    state = record { globals = w.state.globals; calls = w.state.calls; saved = w.state.saved };
    calls = w.calls;
    left = omega (arith, e, w.left);
  })

  pub falls_mark : (b : ℕ) → Triple many (StandsBy kinds frames (suc b)) (StandsBy kinds frames b) Any mark
  unfolding mark
  falls_mark b = record { runs = λ r w. marked_by b r.left r refl w }

  pub t_mark : {b : ℕ} → Keeps many (StandsBy kinds frames b) Any mark
  t_mark {b} = t_from (λ r w. lower b (suc b) r (omega arith) w) (falls_mark b)

  module _ {b : ℕ} where
    pub t_state : (f : State → State) → ((next : ℕ) (s : State) → StateStands kinds next s → StateStands kinds next (f s))
        → Keeps many (StandsBy kinds frames b) Any (changed f)
    t_state f h = t_changed f (λ r w. record { state = h r.next r.state w.state; calls = w.calls; left = w.left })

    -- ---- scalars

    pub t_load : (core : Core) (node : ℕ) → node < many → (l : Location) (t : Ty) → IsAt core t l → Keeps many
        (StandsBy kinds frames b) (Has core t)
        (load node l (kind_of t))
    unfolding load accessed
    t_load core node own l t at =
        t_asked node own _ (λ r w. granted_defined (Has core t) (accessed r.state l (kind_of t))
        (has_accessed kinds core t l.offset l.object r.next r.state at w.state))

    t_put : (k : Kind) (P : Value → Type 0) → ((v : Value) → P v → MayStand (holds_pointer k) v) → (l : Location) (v : Value)
        → Puts kinds k P l.offset l.object v → Keeps many (StandsBy kinds frames b) Any (changed (put_at l.object l.offset v))
    t_put k P f l v h = t_state (put_at l.object l.offset v) (λ next s w. put_stands kinds k P f l.offset l.object v next s h w)

    counted_if : (x : Bool) (words : ℕ) (o : Saved) (r : Run) → StandsBy kinds frames b r → SavedStands kinds r.next (Some o)
        → Sound many (StandsBy kinds frames b) Any (cond x (ended {A = Unit {0}} BlockFull)
        (changed (λ s. record s { block = Some (record o { words = o.words + words }) })) r)
    counted_if true words o r w h = stops tt
    counted_if false words o r w h = goes_on tt (record {
      state = record { globals = w.state.globals; calls = w.state.calls; saved = h };
      calls = w.calls;
      left = w.left;
    })

    counted_in : (words : ℕ) (o : Option Saved) (r : Run) → r.state.block ≡ o → StandsBy kinds frames b r → Sound many
        (StandsBy kinds frames b) Any (count_in words o r.state r)
    counted_in words None r e w = goes_on tt w
    counted_in words (Some o) r e w =
        counted_if (nat_lt 128 (o.words + words)) words o r w (subst
        (λ (x : Option Saved). SavedStands kinds r.next x) e w.state.saved)

    pub t_count : (words : ℕ) → Keeps many (StandsBy kinds frames b) Any (count words)
    unfolding count
    t_count words = record { runs = λ r w. counted_in words r.state.block r refl w }

    t_store_by : (node : ℕ) → node < many → (l : Location) (k : Kind) (v : Value) (marked : Bool) (P : Value → Type 0) → Granted P
        (fitted k v)
        → ((w : Value) → P w → MayStand (holds_pointer k) w)
        → Keeps many (StandsBy kinds frames b) P (store node l k v marked)
    unfolding store accessed
    t_store_by node own l k v marked P h f =
        t_then (t_asked {P = Puts kinds k P l.offset l.object} node own _
        (λ r w. puts_accessed kinds k P v l.offset l.object r.next r.state h w.state)) (λ a i.
        t_if marked
        (t_seq (t_seq (t_seq (t_count 1) (t_put k P f l a i)) t_mark) (t_pure a (puts_value kinds k P l.offset l.object a i)))
        (t_seq (t_put k P f l a i) (t_pure a (puts_value kinds k P l.offset l.object a i))))

    -- a value of a type is stored to a place of it
    pub t_store : (core : Core) (node : ℕ) → node < many → (l : Location) (t : Ty) (v : Value) (marked : Bool) → Has core t v
        → Keeps many (StandsBy kinds frames b) (Has core t) (store node l (kind_of t) v marked)
    t_store core node own l t v marked h =
        t_store_by node own l (kind_of t) v marked (Has core t) (has_fitted core t v h) (λ w i. has_stands core t w i)

    -- a value of a kind is stored where the kind stands
    pub t_store_kind : (node : ℕ) → node < many → (l : Location) (k : Kind) (v : Value) (marked : Bool) → MayStand
        (holds_pointer k) v
        → Keeps many (StandsBy kinds frames b) Any (store node l k v marked)
    t_store_kind node own l k v marked h =
        t_value (λ w i. tt) (t_store_by node own l k v marked (MayStand (holds_pointer k)) (fitted_stands k v h) (λ w i. i))

    -- ---- the outside

    t_taken : {A : Type 0} (a : A) → Keeps many (StandsBy kinds frames b) Any (taken a)
    t_taken a = record { runs = λ r w. goes_on tt (record { state = w.state; calls = w.calls; left = w.left }) }

    t_sensed : (channel : ℕ) (o : Option Reading) → Keeps many (StandsBy kinds frames b) Any (sensed channel o)
    t_sensed channel None = t_stop NeedsReading tt
    t_sensed channel (Some (Clock ms)) = t_stop NeedsReading tt
    t_sensed channel (Some (Sense c v)) = t_if (nat_eq c channel) (t_taken v) (t_stop NeedsReading tt)

    pub t_sense : (readings : List Reading) (channel : ℕ) → Keeps many (StandsBy kinds frames b) IsInteger
        (sense readings channel)
    unfolding sense sense_reading
    t_sense readings channel =
        t_then (record { runs = λ r w. (t_sensed channel (slice_get readings r.used)).runs r w })
        (λ v _. t_seq t_mark (t_pure (Int (pos v)) tt))

    t_clocked : (o : Option Reading) → Keeps many (StandsBy kinds frames b) Any (clocked o)
    t_clocked None = t_stop NeedsReading tt
    t_clocked (Some (Clock ms)) = t_taken ms
    t_clocked (Some (Sense c v)) = t_stop NeedsReading tt

    t_clock : (readings : List Reading) → Keeps many (StandsBy kinds frames b) Any (clock_reading readings)
    unfolding clock_reading
    t_clock readings = record { runs = λ r w. (t_clocked (slice_get readings r.used)).runs r w }

    t_ended : {A : Type 0} {P : A → Type 0} (kind : EndKind) → Keeps many (StandsBy kinds frames b) P (ended {A = A} kind)
    t_ended kind = record { runs = λ r w. stops tt }

    t_room : Keeps many (StandsBy kinds frames b) Any output_room
    t_room = record { runs = λ r w. (t_if (nat_lt (length r.state.outputs) 256) (t_pure tt tt) (t_ended OutputFull)).runs r w }

    pub t_emit : (node : ℕ) → node < many → (v : Value) → IsInteger v → Keeps many (StandsBy kinds frames b) IsInteger
        (emit node v)
    unfolding emit
    t_emit node own v h =
        t_then (t_given node own (integer v) (granted_integer v h)) (λ z _.
        t_seq t_room (t_seq (t_count 2)
        (t_seq (t_state (λ s. record s { outputs = s.outputs ++ wrapped z ∷ [] })
        (λ next s w. record { globals = w.globals; calls = w.calls; saved = w.saved })) (t_seq t_mark (t_pure Undefined tt)))))

    -- ---- time

    t_stamp : (stamp now : ℕ) → Keeps many (StandsBy kinds frames b) Any (changed (with_stamp stamp now))
    t_stamp stamp now = t_state (with_stamp stamp now) (λ next s w. record
        { globals = w.globals; calls = w.calls; saved = w.saved })

    pub t_stamped : (core : Core) (readings : List Reading) (node : ℕ) → node < many → (l : Location) (t : Ty) (stamp : ℕ)
        (v : Value)
        → Has core t v
        → Keeps many (StandsBy kinds frames b) Any (stamped readings node l (kind_of t) stamp v)
    unfolding stamped accessed
    t_stamped core readings node own l t stamp v h =
        let k : Kind = kind_of t in
        let P : Value → Type 0 = Has core t in
        t_then (t_asked {P = Puts kinds k P l.offset l.object} node own _
        (λ r w. puts_accessed kinds k P v l.offset l.object r.next r.state (has_fitted core t v h) w.state)) (λ a i.
        t_seq (t_count 3) (t_then (t_clock readings) (λ now _.
        t_seq (t_put k P (λ w j. has_stands core t w j) l a i) (t_seq (t_stamp stamp now) t_mark))))

    pub t_timely : (core : Core) (readings : List Reading) (node : ℕ) → node < many → (l : Location) (t : Ty) (stamp limit : ℕ)
        → IsAt core t l
        → Keeps many (StandsBy kinds frames b) Any (timely readings node l (kind_of t) stamp limit)
    unfolding timely
    t_timely core readings node own l t stamp limit at =
        t_then (t_asked {P = Any} node own _ (λ r w. accessed_any kinds core t l r.next r.state at w.state))
        (λ v _. t_then (t_clock readings) (λ now _.
        t_seq t_mark (t_then (t_asked {P = Any} node own (λ s. Ok (not (is_older now limit stamp s.stamps))) (λ r w. tt))
        (λ young _. t_pure young tt))))

    t_expired : (now : ℕ) (names : List Timed) → Keeps many (StandsBy kinds frames b) Any (expired now names)
    t_expired now names = record { runs = λ r w. goes_on tt w }

  -- a check at a block's beginning, in its text and at its end: each makes a mark
  pub falls_open : (b : ℕ) (readings : List Reading) (names : List Timed)
      → Triple many (StandsBy kinds frames (suc b)) (StandsBy kinds frames b) Any (open_block readings names)
  unfolding open_block
  falls_open b readings names =
      t_then (t_clock readings) (λ now _. t_then (t_expired now names) (λ late _.
      t_seq (t_state (λ s. cond late s (opened s)) (λ next s w. either_stands kinds late next s s (opened s) w
      (opened_stands kinds next s w)))
      (t_seq (falls_mark b) (t_pure (not late) tt))))

  pub falls_check : (b : ℕ) (readings : List Reading) (names : List Timed)
      → Triple many (StandsBy kinds frames (suc b)) (StandsBy kinds frames b) Any (check_block readings names)
  unfolding check_block
  falls_check b readings names =
      t_then (t_clock readings) (λ now _. t_then (t_expired now names) (λ late _.
      t_seq (t_state (λ s. cond late (undone s) s) (λ next s w. either_stands kinds late next s (undone s) s
      (undone_stands kinds next s.block s w.saved w) w))
      (t_seq (falls_mark b) (t_pure (not late) tt))))

  pub falls_close : (b : ℕ) (readings : List Reading) (names : List Timed)
      → Triple many (StandsBy kinds frames (suc b)) (StandsBy kinds frames b) Any (close_block readings names)
  unfolding close_block
  falls_close b readings names =
      t_then (t_clock readings) (λ now _. t_then (t_expired now names) (λ late _.
      t_seq (t_state (λ s. cond late (undone s) (closed_block s))
      (λ next s w. either_stands kinds late next s (undone s) (closed_block s) (undone_stands kinds next s.block s w.saved w)
      (closed_stands kinds next s w)))
      (t_seq (falls_mark b) (t_pure (not late) tt))))

  -- ---- calls

  pub t_leave : {b : ℕ} → Keeps many (StandsBy kinds frames b) Any leave
  unfolding leave
  t_leave = t_seq (t_state left_call (left_stands kinds)) t_mark

  pub t_cleared : {b : ℕ} (n : ℕ) → Keeps many (StandsBy kinds frames b) Any (changed (with_cleared n))
  t_cleared n = t_state (with_cleared n) (λ next s w. clear_state kinds next n s w)

-- the outermost call ends the run
pub t_finish : {A : Type 0} {many : ℕ} {V W : Run → Type 0} → Triple many V W (λ _. ⊥) (finish {A = A})
unfolding finish
t_finish = record { runs = λ r w. stops tt }

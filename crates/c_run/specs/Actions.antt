-- What a program does, one action each: accesses, readings, outputs, calls and time. The tree's meaning and the
-- three-address form are both made of these.
use Rattle.std.specs.Prelude.{ℕ, ◌+◌, ◌-◌, pos, nat_eq, nat_lt, Bool, true, false, ◌||◌, not, if◌then◌else◌, List, [], ◌∷◌, ◌++◌, length, get_or, slice_get, slice_set, Option, Some, None, Ok}
use Rattle.base16.specs.declared.image.Kind.{Kind}
use Rattle.base16.specs.declared.end.EndKind.TheVariants.{Done, StackFull, BlockFull, OutputFull}
use Rattle.base16.specs.declared.reading.Reading.{Reading}
use Rattle.base16.specs.declared.reading.Reading.TheVariants.{Sense, Clock}
use Rattle.base16.specs.Board.{most_outputs, first_stack_pointer}
use Rattle.base16.specs.Integer.{wrapped}
use Rattle.base16.specs.Placement.{frame_below}
use Rattle.core_tree.specs.declared.types.Slot.{Slot}
use Rattle.c_values.specs.declared.value.Value.{Value}
use Rattle.c_values.specs.declared.value.Value.TheVariants.{Int, Undefined}
use Rattle.c_values.specs.declared.value.Location.{Location}
use Rattle.c_values.specs.declared.state.Call.{Call}
use Rattle.c_values.specs.declared.state.Saved.{Saved}
use Rattle.c_values.specs.declared.state.State.{State}
use Rattle.c_values.specs.Objects.{accessed, with_scalar}
use Rattle.c_values.specs.Values.{defined, if_accessed, fitted, fit, integer}
use Rattle.c_run.specs.declared.timed.Timed.{Timed}
use Rattle.c_run.specs.Lists.{without_last}
use Rattle.c_run.specs.Making.{fresh_objects}
use Rattle.c_run.specs.Runs.{Went, NeedsReading, Action, ◌>>=◌, ◌>>◌, pure, stop, given, asked, changed, ended, mark}

-- ---- scalars

-- the value of a scalar
unfoldable pub load : ℕ → Location → Kind → Action Value
load node l k = asked node (λ s. defined (accessed s l k))

abbrev pub put_at : Option ℕ → ℕ → Value → State → State
put_at None offset v s = s
put_at (Some n) offset v s = with_scalar n offset v s

-- a block's marks store at most so many words
abbrev pub most_block_words : ℕ
most_block_words = 128

-- where a block is open, the words that a mark stores are counted; more than fit end the run
abbrev pub count_words : ℕ → Saved → State → Action (Unit {0})
count_words words b s =
    if nat_lt most_block_words (b.words + words) then ended BlockFull
    else changed (λ s. record s { block = Some (record b { words = b.words + words }) })

abbrev pub count_in : ℕ → Option Saved → State → Action (Unit {0})
count_in words None s = pure tt
count_in words (Some b) s = count_words words b s

unfoldable pub count : ℕ → Action (Unit {0})
count words = λ r. count_in words r.state.block r.state r

-- a store, which answers the value that the scalar then has
unfoldable pub store : ℕ → Location → Kind → Value → Bool → Action Value
store node l k v marked = do
  stored ← asked node (λ s. if_accessed (accessed s l k) (fitted k v))
  if marked
      then (count 1 >> changed (put_at l.object l.offset stored) >> mark >> pure stored)
      else (changed (put_at l.object l.offset stored) >> pure stored)

-- the objects of parameters, numbered from the first, get their values
abbrev pub with_params : ℕ → List Kind → List Value → State → State
with_params n [] vs s = s
with_params n (k ∷ ks) [] s = s
with_params n (k ∷ ks) (v ∷ vs) s = with_params (n + 1) ks vs (with_scalar n 0 (fit k v) s)

-- ---- the outside

abbrev pub taken : {A : Type 0} → A → Action A
taken a = λ r. Went a (record r { used = r.used + 1 })

abbrev pub sensed : ℕ → Option Reading → Action ℕ
sensed channel (Some (Sense c v)) = if nat_eq c channel then taken v else stop NeedsReading
sensed channel _ = stop NeedsReading

abbrev pub clocked : Option Reading → Action ℕ
clocked (Some (Clock ms)) = taken ms
clocked _ = stop NeedsReading

-- the next reading, of a channel or of the clock
unfoldable pub sense_reading : List Reading → ℕ → Action ℕ
sense_reading readings channel = λ r. sensed channel (slice_get readings r.used) r

unfoldable pub clock_reading : List Reading → Action ℕ
clock_reading readings = λ r. clocked (slice_get readings r.used) r

unfoldable pub sense : List Reading → ℕ → Action Value
sense readings channel = do
  v ← sense_reading readings channel
  mark
  pure (Int (pos v))

-- there is room for one more output
abbrev pub output_room : Action (Unit {0})
output_room = λ r. (if nat_lt (length r.state.outputs) most_outputs then pure tt else ended OutputFull) r

unfoldable pub emit : ℕ → Value → Action Value
emit node v = do
  z ← given node (integer v)
  output_room
  count 2
  changed (λ s. record s { outputs = s.outputs ++ wrapped z ∷ [] })
  mark
  pure Undefined

-- ---- calls

abbrev pub top_from : ℕ → List Call → ℕ
top_from sp [] = sp
top_from sp (c ∷ cs) = top_from c.frame cs

-- the stack pointer of the youngest call
abbrev pub top_of : State → ℕ
top_of s = top_from first_stack_pointer s.calls

abbrev pub with_call : Call → State → State
with_call c s = record s { calls = s.calls ++ c ∷ [] }

abbrev pub entered : ℕ → List (List Slot) → Option ℕ → Action ℕ
entered function slots None = ended StackFull
entered function slots (Some frame) = λ r. Went r.next (record r {
  state = with_call (record { function = function; frame = frame; locals = fresh_objects r.next slots }) r.state;
  next = r.next + length slots;
})

-- a function is entered: its frame is placed and its objects come to life. The answer is the number of the first.
unfoldable pub enter : ℕ → ℕ → List (List Slot) → Action ℕ
enter function bytes slots = do
  first ← (λ r. entered function slots (frame_below (top_of r.state) bytes) r)
  mark
  pure first

-- the youngest call is over and its objects are gone
abbrev pub left_call : State → State
left_call s = record s { calls = without_last s.calls }

unfoldable pub leave : Action (Unit {0})
leave = changed left_call >> mark

-- the outermost call is over, and with it the run
unfoldable pub finish : {A : Type 0} → Action A
finish = changed left_call >> changed (λ s. record s { marks = s.marks + 1 }) >> ended Done

-- ---- time

-- whether a stamp is lacking or older than a limit in milliseconds
abbrev pub older : ℕ → ℕ → Option ℕ → Bool
older now limit None = true
older now limit (Some t) = nat_lt limit (now - t)

abbrev pub is_older : ℕ → ℕ → ℕ → List (Option ℕ) → Bool
is_older now limit stamp stamps = older now limit (get_or stamps stamp None)

abbrev pub some_expired : ℕ → List Timed → List (Option ℕ) → Bool
some_expired now [] stamps = false
some_expired now (x ∷ xs) stamps = is_older now x.lifetime x.stamp stamps || some_expired now xs stamps

abbrev pub with_stamp : ℕ → ℕ → State → State
with_stamp stamp now s = record s { stamps = slice_set s.stamps stamp (Some now) }

-- a stamped assignment
unfoldable pub stamped : List Reading → ℕ → Location → Kind → ℕ → Value → Action (Unit {0})
stamped readings node l k stamp v = do
  stored ← asked node (λ s. if_accessed (accessed s l k) (fitted k v))
  count 3
  now ← clock_reading readings
  changed (put_at l.object l.offset stored)
  changed (with_stamp stamp now)
  mark

-- whether the stamp of a place is young enough
unfoldable pub timely : List Reading → ℕ → Location → Kind → ℕ → ℕ → Action Bool
timely readings node l k stamp limit = do
  _value ← asked node (λ s. accessed s l k)
  now ← clock_reading readings
  mark
  young ← asked node (λ s. Ok (not (is_older now limit stamp s.stamps)))
  pure young

abbrev pub kept : State → Saved
kept s = record { globals = s.globals; calls = s.calls; stamps = s.stamps; outputs = s.outputs; words = 0 }

abbrev pub opened : State → State
opened s = record s { block = Some (kept s) }

abbrev pub closed_block : State → State
closed_block s = record s { block = None }

abbrev pub undone_to : Option Saved → State → State
undone_to None s = s
undone_to (Some b) s = record s { globals = b.globals; calls = b.calls; stamps = b.stamps; outputs = b.outputs; block = None }

abbrev pub undone : State → State
undone s = undone_to s.block s

abbrev pub expired : ℕ → List Timed → Action Bool
expired now names = λ r. Went (some_expired now names r.state.stamps) r

-- whether a block opened, which it does where nothing has expired
unfoldable pub open_block : List Reading → List Timed → Action Bool
open_block readings names = do
  now ← clock_reading readings
  late ← expired now names
  changed (λ s. if late then s else opened s)
  mark
  pure (not late)

-- whether nothing has expired; where something has, the block is undone
unfoldable pub check_block : List Reading → List Timed → Action Bool
check_block readings names = do
  now ← clock_reading readings
  late ← expired now names
  changed (λ s. if late then undone s else s)
  mark
  pure (not late)

-- the check at the block's end, which also closes it
unfoldable pub close_block : List Reading → List Timed → Action Bool
close_block readings names = do
  now ← clock_reading readings
  late ← expired now names
  changed (λ s. if late then undone s else closed_block s)
  mark
  pure (not late)

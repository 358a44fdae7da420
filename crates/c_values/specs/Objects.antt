-- Objects: where a scalar is found, and a scalar set (C99 6.2.4 and 6.5).
use Rattle.std.specs.Prelude.{ℕ, ◌+◌, ◌%◌, max, nat_eq, Bool, true, false, ◌||◌, if◌then◌else◌, List, [], ◌∷◌, map, Option, Some, None, Result, Ok, Err}
use Rattle.base16.specs.declared.image.Kind.{Kind}
use Rattle.base16.specs.declared.image.Kind.TheVariants as kind
use Rattle.c_values.specs.declared.value.Value.{Value}
use Rattle.c_values.specs.declared.value.Value.TheVariants.{Undefined}
use Rattle.c_values.specs.declared.value.Cell.{Cell}
use Rattle.c_values.specs.declared.value.Location.{Location}
use Rattle.c_values.specs.declared.state.Object.{Object}
use Rattle.c_values.specs.declared.state.Call.{Call}
use Rattle.c_values.specs.declared.state.State.{State}

abbrev pub same_kind : Kind → Kind → Bool
same_kind kind.Char kind.Char = true
same_kind kind.Int kind.Int = true
same_kind kind.UInt kind.UInt = true
same_kind kind.Pointer kind.Pointer = true
same_kind _ _ = false

-- ---- finding

abbrev pub find_object : ℕ → List Object → Option Object
find_object n [] = None
find_object n (o ∷ os) = if nat_eq o.number n then Some o else find_object n os

abbrev pub or_else : {A : Type 0} → Option A → Option A → Option A
or_else (Some a) other = Some a
or_else None other = other

abbrev pub find_local : ℕ → List Call → Option Object
find_local n [] = None
find_local n (c ∷ cs) = or_else (find_object n c.locals) (find_local n cs)

-- the object of a number, if it is alive
unfoldable pub object_of : State → ℕ → Option Object
object_of s n = or_else (find_object n s.globals) (find_local n s.calls)

abbrev pub find_cell : ℕ → List Cell → Option Cell
find_cell offset [] = None
find_cell offset (c ∷ cs) = if nat_eq c.offset offset then Some c else find_cell offset cs

-- ---- setting

abbrev pub put_cell : ℕ → Value → Cell → Cell
put_cell offset v c = if nat_eq c.offset offset then record c { value = v } else c

abbrev pub put_object : ℕ → ℕ → Value → Object → Object
put_object n offset v o = if nat_eq o.number n then record o { cells = map (put_cell offset v) o.cells } else o

abbrev pub put_call : ℕ → ℕ → Value → Call → Call
put_call n offset v c = record c { locals = map (put_object n offset v) c.locals }

-- a state with the scalar at an offset of an object set
unfoldable pub with_scalar : ℕ → ℕ → Value → State → State
with_scalar n offset v s = record s {
  globals = map (put_object n offset v) s.globals;
  calls = map (put_call n offset v) s.calls;
}

-- ---- clearing

-- the scalars of an object undefined
abbrev pub cleared_cell : Cell → Cell
cleared_cell c = record c { value = Undefined }

abbrev pub clear_object : ℕ → Object → Object
clear_object n o = if nat_eq o.number n then record o { cells = map cleared_cell o.cells } else o

abbrev pub clear_call : ℕ → Call → Call
clear_call n c = record c { locals = map (clear_object n) c.locals }

unfoldable pub with_cleared : ℕ → State → State
with_cleared n s = record s { globals = map (clear_object n) s.globals; calls = map (clear_call n) s.calls }

-- ---- the size of an object, from its scalars

abbrev pub wide : Kind → Bool
wide kind.Char = false
wide _ = true

abbrev pub reach : Cell → ℕ
reach c = c.offset + (if wide c.kind then 2 else 1)

abbrev pub reach_of : List Cell → ℕ
reach_of [] = 0
reach_of (c ∷ cs) = max (reach c) (reach_of cs)

abbrev pub some_wide : List Cell → Bool
some_wide [] = false
some_wide (c ∷ cs) = wide c.kind || some_wide cs

-- an object with a two-byte scalar has an even size
abbrev pub object_size : Object → ℕ
object_size o = if some_wide o.cells then reach_of o.cells + reach_of o.cells % 2 else reach_of o.cells

-- ---- accesses: a value, or the rule that is broken: 5 no scalar of the kind stands there, 6 the object is gone,
-- 7 the null pointer

abbrev pub value_in : Kind → Option Cell → Result Value ℕ
value_in k None = Err 5
value_in k (Some c) = if same_kind c.kind k then Ok c.value else Err 5

abbrev pub value_of : ℕ → Kind → Option Object → Result Value ℕ
value_of offset k None = Err 6
value_of offset k (Some o) = value_in k (find_cell offset o.cells)

abbrev pub accessed_in : State → ℕ → Kind → Option ℕ → Result Value ℕ
accessed_in s offset k None = Err 7
accessed_in s offset k (Some n) = value_of offset k (object_of s n)

unfoldable pub accessed : State → Location → Kind → Result Value ℕ
accessed s l k = accessed_in s l.offset k l.object

abbrev pub kind_in : Option Cell → Result Kind ℕ
kind_in None = Err 5
kind_in (Some c) = Ok c.kind

abbrev pub kind_of_object : ℕ → Option Object → Result Kind ℕ
kind_of_object offset None = Err 6
kind_of_object offset (Some o) = kind_in (find_cell offset o.cells)

-- the kind of the scalar at an offset of an object
unfoldable pub kind_at : State → ℕ → ℕ → Result Kind ℕ
kind_at s n offset = kind_of_object offset (object_of s n)

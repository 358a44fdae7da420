-- The C run: the start, the calls, and the state after a number of marks.
use Rattle.std.specs.Prelude.{ℕ, zero, suc, ◌+◌, pos, nat_eq, Bool, true, false, ◌&&◌, if◌then◌else◌, List, [], ◌∷◌, ◌++◌, map, length, slice_get, codes, Option, Some, None}
use Rattle.base16.specs.declared.reading.Reading.{Reading}
use Rattle.base16.specs.declared.image.Kind.{Kind}
use Rattle.base16.specs.declared.image.Kind.TheVariants as scalar
use Rattle.core_tree.specs.declared.types.Struct.{Struct}
use Rattle.core_tree.specs.declared.program.Core.{Core}
use Rattle.core_tree.specs.declared.program.Global.{Global}
use Rattle.core_tree.specs.declared.program.Initial.{Initial}
use Rattle.core_tree.specs.declared.program.Initial.TheVariants as initial
use Rattle.core_tree.specs.declared.program.Function.{Function}
use Rattle.core_tree.specs.declared.types.Slot.{Slot}
use Rattle.core_tree.specs.Layout.{layout, kind_of}
use Rattle.core_tree.specs.Heights.{frame_bytes}
use Rattle.c_values.specs.declared.value.Value.{Value}
use Rattle.c_values.specs.declared.value.Value.TheVariants.{Int, Pointer, Null, Undefined}
use Rattle.c_values.specs.declared.value.Cell.{Cell}
use Rattle.c_values.specs.declared.state.Object.{Object}
use Rattle.c_values.specs.declared.state.State.{State}
use Rattle.c_run.specs.Runs.{Run, Stop, Outcome, Went, Stopped, Live, Ended, NeedsReading, Undefined as Broken, Wrong, Action, ◌>>=◌, ◌>>◌, pure, stop, changed}
use Rattle.c_values.specs.Values.{fit}
use Rattle.c_run.specs.Actions.{with_params, enter, leave, finish}
use Rattle.c_meaning.specs.declared.outcome.CState.{CState}
use Rattle.c_meaning.specs.declared.outcome.CState.TheVariants as state
use Rattle.c_meaning.specs.Meaning.{Calls}
use Rattle.c_meaning.specs.declared.flow.Flow.{Flow}
use Rattle.c_meaning.specs.declared.flow.Flow.TheVariants.{Return}
use Rattle.c_meaning.specs.Statements.{stmts}
use Rattle.c_meaning.specs.Stamps.{slots_of, stamps_of}

-- ---- the start

abbrev pub initial_value : Kind → Initial → Value
initial_value scalar.Pointer (initial.Int v) = Null
initial_value k (initial.Int v) = fit k (Int v)
initial_value k (initial.Address global offset) = Pointer global offset

abbrev pub initial_cells : List Slot → List Initial → List Cell
initial_cells [] is = []
initial_cells (s ∷ ss) [] = record { offset = s.offset; kind = s.kind; value = Undefined } ∷ initial_cells ss []
initial_cells (s ∷ ss) (i ∷ is) = record { offset = s.offset; kind = s.kind; value = initial_value s.kind i } ∷ initial_cells ss is

abbrev pub initial_objects : List Struct → ℕ → List Global → List Object
initial_objects structs n [] = []
initial_objects structs n (g ∷ gs) =
    record { number = n; cells = initial_cells (slots_of structs g) g.init } ∷ initial_objects structs (n + 1) gs

abbrev pub no_stamps : ℕ → List (Option ℕ)
no_stamps zero = []
no_stamps (suc n) = None ∷ no_stamps n

abbrev pub initial_stamps : List Struct → List Global → List (Option ℕ)
initial_stamps structs [] = []
initial_stamps structs (g ∷ gs) = no_stamps (stamps_of structs g) ++ initial_stamps structs gs

unfoldable pub start : Core → State
start core = record {
  globals = initial_objects core.structs 0 core.globals;
  calls = [];
  stamps = initial_stamps core.structs core.globals;
  outputs = [];
  block = None;
  marks = 0;
}

-- ---- calls

abbrev pub same_bytes : List ℕ → List ℕ → Bool
same_bytes [] [] = true
same_bytes (a ∷ more) (b ∷ others) = nat_eq a b && same_bytes more others
same_bytes _ _ = false

abbrev pub is_main : Function → Bool
is_main f = same_bytes f.name (codes "main")

-- the number of the function main
abbrev pub main_from : ℕ → List Function → Option ℕ
main_from n [] = None
main_from n (f ∷ fs) = if is_main f then Some n else main_from (n + 1) fs

abbrev pub main_of : Core → Option ℕ
main_of core = main_from 0 core.functions

-- the objects of a call: its parameters and locals
abbrev pub objects_of : List Struct → Function → List (List Slot)
objects_of structs f = map (λ t. (layout structs t).slots) (f.params ++ f.locals)

-- the value of a call, by how the body left; main gives 0 at its end
abbrev pub result_of : Bool → Flow → Value
result_of main (Return v) = v
result_of true f = Int (pos 0)
result_of false f = Undefined

module _ (core : Core) (readings : List Reading) where
  -- the body of a function whose call has been entered, from its first object
  unfoldable pub body : Calls → Function → List Value → ℕ → Action Flow
  body call f args first = do
    changed (with_params first (map kind_of f.params) args)
    stmts core readings call first f.body None

  unfoldable pub called : Calls → ℕ → Option Function → List Value → Action Value
  called call n None args = stop Wrong
  called call n (Some f) args = do
    first ← enter n (frame_bytes core.structs f) (objects_of core.structs f)
    flow ← body call f args first
    leave
    pure (result_of (is_main f) flow)

  -- calls, at most this many one in the other
  unfoldable pub calls : ℕ → Calls
  calls zero n args = stop Wrong
  calls (suc depth) n args = called (calls depth) n (slice_get core.functions n) args

  -- the outermost call of main; each call makes a mark, so those that are left are enough
  unfoldable pub main_in : ℕ → Option Function → Action (Unit {0})
  main_in n None = stop Wrong
  main_in n (Some f) = do
    first ← enter n (frame_bytes core.structs f) (objects_of core.structs f)
    (λ r. (body (calls (suc r.left)) f [] first) r)
    finish

  unfoldable pub main_run : Option ℕ → Action (Unit {0})
  main_run None = stop Wrong
  main_run (Some n) = main_in n (slice_get core.functions n)

  abbrev pub start_run : ℕ → Run
  start_run left = record { state = start core; used = 0; left = left; next = length core.globals }

  -- how the run stops, where the mark of this number is asked for
  abbrev pub stop_of : Outcome (Unit {0}) → Stop
  stop_of (Went _ r) = Wrong
  stop_of (Stopped s) = s

  unfoldable pub stop_at : ℕ → Stop
  stop_at zero = Live (start core) 0
  stop_at (suc n) = stop_of (main_run (main_of core) (start_run n))

-- what is shown of a stop; no lawful program meets `Wrong`
abbrev pub shown : Stop → CState
shown (Live s used) = state.Live s
shown (Ended kind s used) = state.Ended kind s
shown NeedsReading = state.NeedsReading
shown (Broken rule node) = state.Undefined rule node
shown Wrong = state.Undefined 0 0

abbrev pub used_in : Stop → ℕ
used_in (Live s used) = used
used_in (Ended kind s used) = used
used_in _ = 0

-- the state just after a number of marks, or how the run stopped earlier
abbrev pub after : Core → List Reading → ℕ → CState
after core readings s = shown (stop_at core readings s)

-- how many readings were taken by then
abbrev pub used : Core → List Reading → ℕ → ℕ
used core readings s = used_in (stop_at core readings s)

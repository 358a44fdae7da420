-- Pointers of a run: they are to objects that came to life, and go no further than to the end of one that is alive. A run without
-- blocks keeps this.
use Rattle.std.specs.Prelude.{◌≡◌, ℕ, ◌<◌, ◌≤◌, List, Option, Some, None}
use Rattle.core_tree.specs.LawfulCore.{Every}
use Rattle.c_run.specs.Runs.{Run}
use Rattle.c_values.specs.Objects.{object_of}
use Rattle.c_values.specs.Pointers.{end_of}
use Rattle.c_values.specs.declared.state.Call.{Call}
use Rattle.c_values.specs.declared.state.Object.{Object}
use Rattle.c_values.specs.declared.state.State.{State}
use Rattle.c_values.specs.declared.value.Cell.{Cell}
use Rattle.c_values.specs.declared.value.Value.{Value}
use Rattle.c_values.specs.declared.value.Value.TheVariants.{Pointer}
use Rattle.ir.specs.declared.control.Control.{Control}
use Rattle.ir.specs.declared.control.Control.TheVariants.{At, Calling, Returning}
use Rattle.ir.specs.declared.control.Frame.{Frame}
use Rattle.ir.specs.declared.control.Temporary.{Temporary}
use Rattle.ir.specs.declared.control.Temporary.TheVariants as temporary

-- where so many objects came to life
module _ (s : State) (next : ℕ) where
  abbrev pub IsInside : Value → Type 0
  IsInside (Pointer n offset) = (n < next) × ((o : Object) → object_of s n ≡ Some o → offset ≤ end_of o)
  IsInside v = Unit {0}

  -- a place may lie far outside; a pointer to it is made only where it does not
  abbrev pub IsKnown : Option ℕ → Type 0
  IsKnown None = Unit {0}
  IsKnown (Some n) = n < next

  abbrev pub IsInsideTemporary : Temporary → Type 0
  IsInsideTemporary (temporary.Value v) = IsInside v
  IsInsideTemporary (temporary.Place l) = IsKnown l.object

  abbrev pub AreInside : List Temporary → Type 0
  AreInside ts = Every IsInsideTemporary ts

  abbrev pub AreInsideFrames : List Frame → Type 0
  AreInsideFrames frames = Every (λ (b : Frame). AreInside b.temporaries) frames

  -- what waits, is passed or is returned
  abbrev pub IsInsideControl : Control → Type 0
  IsInsideControl (At f p first ts below) = AreInside ts × AreInsideFrames below
  IsInsideControl (Calling f d args below) = Every IsInside args × AreInsideFrames below
  IsInsideControl (Returning v below) = IsInside v × AreInsideFrames below

  abbrev pub IsInsideObject : Object → Type 0
  IsInsideObject o = (o.number < next) × Every (λ (c : Cell). IsInside c.value) o.cells

-- where a run is at a control, all its pointers are inside, and no block is open
pub record PointsInside (c : Control) (r : Run) : Type 0 where
  pub globals : Every (IsInsideObject r.state r.next) r.state.globals
  pub calls : Every (λ (a : Call). Every (IsInsideObject r.state r.next) a.locals) r.state.calls
  pub control : IsInsideControl r.state r.next c
  pub no_block : r.state.block ≡ None

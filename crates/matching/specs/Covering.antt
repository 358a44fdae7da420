-- States as cells: where each scalar, stamp and output has its cell, cells that stand make the words match.
use Rattle.std.specs.Prelude.{◌≡◌, ℕ, ◌<◌, ◌+◌, ◌/◌, ◌%◌, Bool, true, false, List, [], ◌∷◌, length, Option, Some, None}
use Rattle.base16.specs.Board.{outputs_start}
use Rattle.base16.specs.declared.image.Kind.{Kind}
use Rattle.c_values.specs.Objects.{wide}
use Rattle.c_values.specs.declared.state.Saved.{Saved}
use Rattle.c_values.specs.declared.value.Cell.{Cell as Scalar}
use Rattle.c_values.specs.declared.value.Value.{Value}
use Rattle.c_values.specs.declared.value.Value.TheVariants.{Pointer}
use Rattle.cells430.specs.Cells.{Cell, Word, Byte, Cells}
use Rattle.core_tree.specs.Data.{stamp_address}
use Rattle.core_tree.specs.LawfulCore.{Every}
use Rattle.core_tree.specs.declared.program.Core.{Core}
use Rattle.matching.specs.Matches.{Placed, placed, encoded, stamp_code}

-- a char's cell is a byte, that of every other scalar a word
abbrev pub cell_by : (wide : Bool) → Option ℕ → Cell
cell_by true code = Word code
cell_by false code = Byte code

abbrev pub cell_of : Kind → Option ℕ → Cell
cell_of k code = cell_by (wide k) code

-- a scalar has a cell of its width, which holds its code if it has one, and else anything
abbrev pub HasCell : Cells → (address : ℕ) → Kind → Option ℕ → Type 0
HasCell f address k None = (held : Option ℕ) × (f address ≡ Some (cell_of k held))
HasCell f address k (Some code) = f address ≡ Some (cell_of k (Some code))

abbrev pub ScalarsCovered : Cells → (alive : List Placed) → (address : ℕ) → List Scalar → Type 0
ScalarsCovered f alive address cells =
    Every (λ c. HasCell f (address + c.offset) c.kind (encoded alive c.kind c.value)) cells

-- each scalar of these objects has its cell
abbrev pub Covered : Cells → (alive : List Placed) → List Placed → Type 0
Covered f alive objects = Every (λ p. ScalarsCovered f alive p.address p.object.cells) objects

-- words, one behind the other, have their cells
abbrev pub WordsCovered : Cells → (address : ℕ) → List ℕ → Type 0
WordsCovered f address [] = Unit {0}
WordsCovered f address (word ∷ more) = (f address ≡ Some (Word (Some word))) × WordsCovered f (address + 2) more

pub record StampCovered (f : Cells) (address : ℕ) (stamp : Option ℕ) : Type 0 where
  pub low : f address ≡ Some (Word (Some (stamp_code stamp % 65536)))
  pub high : f (address + 2) ≡ Some (Word (Some (stamp_code stamp / 65536)))

abbrev pub StampsCovered : Cells → Core → (n : ℕ) → List (Option ℕ) → Type 0
StampsCovered f core n [] = Unit {0}
StampsCovered f core n (stamp ∷ more) = StampCovered f (stamp_address core n) stamp × StampsCovered f core (n + 1) more

-- a state has its cells
pub record IsCovered (core : Core) (s : Saved) (f : Cells) : Type 0 where
  pub objects : Covered f (placed core s) (placed core s)
  pub stamps : StampsCovered f core 0 s.stamps
  pub count : f outputs_start ≡ Some (Word (Some (length s.outputs)))
  pub outputs : WordsCovered f (outputs_start + 2) s.outputs

-- each scalar of these objects has a cell of its width, whatever it holds
abbrev pub HaveCells : Cells → List Placed → Type 0
HaveCells f objects = Every (λ p. Every (λ c. HasCell f (p.address + c.offset) c.kind None) p.object.cells) objects

-- two maps have the same cells for the scalars of these objects
abbrev pub SameCells : (f g : Cells) → List Placed → Type 0
SameCells f g objects = Every (λ p. Every (λ c. g (p.address + c.offset) ≡ f (p.address + c.offset)) p.object.cells) objects

-- a pointer goes to one of so many objects that came to life
abbrev pub PointsBelow : (next : ℕ) → Value → Type 0
PointsBelow next (Pointer n offset) = n < next
PointsBelow next _ = Unit {0}

abbrev pub AllPointBelow : (next : ℕ) → List Placed → Type 0
AllPointBelow next objects = Every (λ p. Every (λ c. PointsBelow next c.value) p.object.cells) objects

-- ---- one scalar of one object

-- A scalar at offset o of the object n, which stands at an address: no other scalar stands at its place.
pub record IsOther (n base o : ℕ) (k : Kind) (p : Placed) (c : Scalar) : Type 0 where
  pub apart : p.address + c.offset ≡ base + o → (p.object.number ≡ n) × (c.offset ≡ o) × (c.kind ≡ k)

pub record Apart (n base o : ℕ) (k : Kind) (p : Placed) : Type 0 where
  pub here : p.object.number ≡ n → p.address ≡ base
  pub scalars : Every (IsOther n base o k p) p.object.cells

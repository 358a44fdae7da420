-- The bytes by which words match a state: those of each scalar whose value may not stand in any way, of the stamps and of the
-- outputs.
use Rattle.std.specs.Prelude.{ℕ, ◌+◌, false, not, ◌||◌, nat_eq, if◌then◌else◌, List, [], ◌∷◌, Option, Some, None}
use Rattle.base16.specs.Board.{outputs_start}
use Rattle.base16.specs.declared.image.Kind.{Kind}
use Rattle.c_values.specs.Objects.{wide}
use Rattle.c_values.specs.declared.state.Saved.{Saved}
use Rattle.c_values.specs.declared.value.Cell.{Cell}
use Rattle.core430.specs.Bytes.{word_address}
use Rattle.core430.specs.Uses.{IsWithin, access_bytes}
use Rattle.core_tree.specs.Data.{stamp_address}
use Rattle.core_tree.specs.declared.program.Core.{Core}
use Rattle.ideal430.specs.Places.{is_in_word}
use Rattle.ideal430.specs.Service.{Noted, Block}
use Rattle.ideal430.specs.Settled.{Bytes}
use Rattle.matching.specs.Matches.{Placed, placed, encoded}

-- those of a scalar of a kind
abbrev pub scalar_bytes : Kind → (address : ℕ) → Bytes
scalar_bytes k address b = access_bytes (not (wide k)) address b

abbrev pub code_said : Kind → (address : ℕ) → Option ℕ → Bytes
code_said k address None b = false
code_said k address (Some code) b = scalar_bytes k address b

abbrev pub scalars_said : (alive : List Placed) → (address : ℕ) → List Cell → Bytes
scalars_said alive address [] b = false
scalars_said alive address (c ∷ more) b =
    code_said c.kind (address + c.offset) (encoded alive c.kind c.value) b || scalars_said alive address more b

abbrev pub objects_said : (alive : List Placed) → List Placed → Bytes
objects_said alive [] b = false
objects_said alive (p ∷ more) b = scalars_said alive p.address p.object.cells b || objects_said alive more b

abbrev pub stamps_said : Core → (n : ℕ) → List (Option ℕ) → Bytes
stamps_said core n [] b = false
stamps_said core n (stamp ∷ more) b =
    is_in_word (stamp_address core n) b || (is_in_word (stamp_address core n + 2) b || stamps_said core (n + 1) more b)

abbrev pub words_said : (address : ℕ) → List ℕ → Bytes
words_said address [] b = false
words_said address (word ∷ more) b = is_in_word address b || words_said (address + 2) more b

-- the bytes by which words match a state
abbrev pub said : Core → Saved → Bytes
said core s b = objects_said (placed core s) (placed core s) b
    || (stamps_said core 0 s.stamps b || (is_in_word outputs_start b || words_said (outputs_start + 2) s.outputs b))

-- The bytes that count once the noted words are put back: of a noted word those that were settled before the first store
-- that was noted of it, of all others those that are settled. `earlier` has for each noted word the bytes that were settled
-- before its store.
abbrev pub settled_put_back : List Noted → (earlier : List Bytes) → (settled : Bytes) → Bytes
settled_put_back [] earlier settled b = settled b
settled_put_back (x ∷ later) [] settled b = false
settled_put_back (x ∷ later) (before ∷ earlier) settled b =
    if nat_eq (word_address b) x.address then before b else settled_put_back later earlier settled b

-- the bytes by which words match what a block kept at its opening count once the noted words are put back
abbrev pub OpeningCounts : Core → Option Saved → Block → (earlier : List Bytes) → (settled : Bytes) → Type 0
OpeningCounts core (Some opening) (Some noted) earlier settled =
    IsWithin (said core opening) (settled_put_back noted earlier settled)
OpeningCounts core _ _ earlier settled = Unit {0}

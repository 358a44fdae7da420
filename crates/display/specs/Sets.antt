-- The changes from one display to another, in the order in which they are printed.
use Rattle.std.specs.Prelude.{ℕ, ◌==◌, Bool, false, ◌&&◌, if◌then◌else◌, nat_eq, nat_lt, List, [], ◌∷◌, ◌++◌, Option, Some, None, zero, suc}
use Rattle.std.specs.List.{position}
use Rattle.std.specs.Option.{option_eq}
use Rattle.base16.specs.Board.{data_end}
use Rattle.base16.specs.declared.image.Scalar.{Scalar}
use Rattle.world.specs.History.{Display}
use Rattle.world.specs.declared.history.Shown.{Shown}
use Rattle.world.specs.declared.history.Shown.TheVariants.{Value, Stamp, Outs, Out}

-- the number of the scalar that stands at an address, and of the one whose stamp stands there
abbrev pub value_number : List Scalar → ℕ → Option ℕ
value_number scalars a = position (λ x. x.address == a) scalars

abbrev pub begins_at : Option ℕ → ℕ → Bool
begins_at None a = false
begins_at (Some at) a = at == a

abbrev pub stamp_number : List Scalar → ℕ → Option ℕ
stamp_number scalars a = position (λ x. begins_at x.stamp a) scalars

-- a value that differs, of the scalar of this number
abbrev pub value_change : (d e : Display) → Option ℕ → List Shown
value_change d e None = []
value_change d e (Some s) = if d.values s == e.values s then [] else Value s (e.values s) ∷ []

-- a stamp that differs
abbrev pub stamp_change : (d e : Display) → Option ℕ → List Shown
stamp_change d e None = []
stamp_change d e (Some s) = if option_eq nat_eq (d.stamps s) (e.stamps s) then [] else Stamp s (e.stamps s) ∷ []

-- the changes of what stands at an address
abbrev pub value_set : List Scalar → (d e : Display) → (address : ℕ) → List Shown
value_set scalars d e a = value_change d e (value_number scalars a)

abbrev pub stamp_set : List Scalar → (d e : Display) → (address : ℕ) → List Shown
stamp_set scalars d e a = stamp_change d e (stamp_number scalars a)

-- the number of outputs, if it differs
abbrev pub length_change : (d e : Display) → List Shown
length_change d e = if d.outputs == e.outputs then [] else Outs e.outputs ∷ []

-- an output that is new or differs
abbrev pub out_change : (d e : Display) → ℕ → List Shown
out_change d e i = if nat_lt i d.outputs && (d.outs i == e.outs i) then [] else Out i (e.outs i) ∷ []

-- what there is at each number below n, in order
unfoldable pub all_below : (ℕ → List Shown) → (n : ℕ) → List Shown
all_below f zero = []
all_below f (suc n) = all_below f n ++ f n

-- The values that differ, in the order of their addresses; the stamps that differ, in the order of theirs; the number of
-- outputs if it differs; the outputs that are new or differ.
abbrev pub sets_between : List Scalar → (d e : Display) → List Shown
sets_between scalars d e =
    all_below (value_set scalars d e) data_end
    ++ (all_below (stamp_set scalars d e) data_end
    ++ (length_change d e ++ all_below (out_change d e) e.outputs))

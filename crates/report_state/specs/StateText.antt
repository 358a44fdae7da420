-- The text of a state of a program: the marks made, each scalar of its variables with its value, each stamp, the outputs, and
-- how the run stands.
use Rattle.std.specs.Prelude.{ℕ, ◌+◌, List, [], ◌∷◌, ◌++◌, map, length, Option, Some, None, codes}
use Rattle.std.specs.List.{filter, flat_map}
use Rattle.std.specs.Option.{is_some}
use Rattle.std.specs.Fmt.{decimal}
use Rattle.base16.specs.Hexadecimal.{hex4}
use Rattle.base16.specs.Integer.{wrapped}
use Rattle.base16.specs.declared.image.Kind.{Kind}
use Rattle.base16.specs.declared.image.Scalar.{Scalar}
use Rattle.core_tree.specs.declared.program.Core.{Core}
use Rattle.core_tree.specs.Data.{Text, scalars, told_address}
use Rattle.c_values.specs.declared.value.Value.{Value}
use Rattle.c_values.specs.declared.value.Value.TheVariants.{Int, Pointer, Null, Undefined}
use Rattle.c_values.specs.declared.value.Cell.{Cell}
use Rattle.c_values.specs.declared.state.Object.{Object}
use Rattle.c_values.specs.declared.state.State.{State}
use Rattle.c_meaning.specs.declared.outcome.CState.{CState}
use Rattle.c_meaning.specs.declared.outcome.CState.TheVariants as state
use Rattle.report.specs.Report.{value_text, stamp_text, end_word, line}
use Rattle.report_state.specs.Addresses.{object_address}
use Rattle.report_state.specs.NodeLines.{line_of}

-- ---- values

-- a pointer into an object that begins at an address, or into one that is gone
abbrev pub pointer_text : Option ℕ → ℕ → Text
pointer_text None offset = codes "?"
pointer_text (Some at) offset = hex4 (told_address (at + offset))

abbrev pub shown_value : Core → State → Kind → Value → Text
shown_value core s kind (Int z) = value_text kind (wrapped z)
shown_value core s kind (Pointer n offset) = pointer_text (object_address core s n) offset
shown_value core s kind Null = hex4 0
shown_value core s kind Undefined = codes "?"

-- ---- lines

-- a text for each scalar of some and what belongs to it, in order
abbrev pub for_each : {A : Type 0} → (Scalar → A → Text) → List Scalar → List A → Text
for_each text [] others = []
for_each text (x ∷ xs) [] = []
for_each text (x ∷ xs) (other ∷ others) = text x other ++ for_each text xs others

abbrev pub set_line : Core → State → Scalar → Value → Text
set_line core s x v = line (codes "set " ++ x.name ++ codes " " ++ shown_value core s x.kind v)

abbrev pub object_values : Object → List Value
object_values o = map (λ (c : Cell). c.value) o.cells

-- the values of the variables' scalars, in order
abbrev pub values_of : State → List Value
values_of s = flat_map object_values s.globals

abbrev pub stamp_line : Scalar → Option ℕ → Text
stamp_line x stamp = line (codes "stamp " ++ x.name ++ codes " " ++ stamp_text stamp)

-- the scalars that have stamps
abbrev pub timed : List Scalar → List Scalar
timed xs = filter (λ x. is_some x.stamp) xs

-- outputs, the first with an index
abbrev pub out_lines : ℕ → List ℕ → Text
out_lines i [] = []
out_lines i (w ∷ ws) = line (codes "out " ++ decimal i ++ codes " " ++ decimal w) ++ out_lines (i + 1) ws

abbrev pub outputs_text : List ℕ → Text
outputs_text ws = line (codes "outs " ++ decimal (length ws)) ++ out_lines 0 ws

-- what stands in a state
abbrev pub contents : Core → State → Text
contents core s =
    line (codes "marks " ++ decimal s.marks)
    ++ for_each (set_line core s) (scalars core) (values_of s)
    ++ for_each stamp_line (timed (scalars core)) s.stamps
    ++ outputs_text s.outputs

-- ---- the whole

abbrev pub undefined_text : Core → ℕ → ℕ → Text
undefined_text core rule node = line (codes "end undefined U" ++ decimal rule ++ codes " line " ++ decimal (line_of core node))

unfoldable pub state_text : Core → CState → Text
state_text core (state.Live s) = contents core s ++ line (codes "end live")
state_text core (state.Ended kind s) = contents core s ++ line (codes "end " ++ end_word kind)
state_text core state.NeedsReading = line (codes "end reading")
state_text core (state.Undefined rule node) = undefined_text core rule node

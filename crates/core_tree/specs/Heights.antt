-- How many temporary words the expressions of a function take, and the bytes of its frame.
use Rattle.std.specs.Prelude.{ℕ, ◌+◌, ◌*◌, ◌%◌, min, max, List, [], ◌∷◌, ◌++◌, map, slice_get, Option, Some, None}
use Rattle.core_tree.specs.declared.types.Struct.{Struct}
use Rattle.core_tree.specs.declared.types.Ty.{Ty}
use Rattle.core_tree.specs.declared.expressions.Expr.{Expr}
use Rattle.core_tree.specs.declared.expressions.Place.{Place}
use Rattle.core_tree.specs.declared.expressions.ExprKind.{ExprKind, fold-ExprKind}
use Rattle.core_tree.specs.declared.expressions.PlaceKind.{PlaceKind, fold-PlaceKind}
use Rattle.core_tree.specs.declared.expressions.ExprKind.TheOpen.{ExprKind-F, PlaceKind-F}
use Rattle.core_tree.specs.declared.statements.Stmt.{Stmt}
use Rattle.core_tree.specs.declared.statements.StmtKind.{StmtKind, fold-StmtKind}
use Rattle.core_tree.specs.declared.statements.Group.{Group, fold-Group}
use Rattle.core_tree.specs.declared.statements.StmtKind.TheOpen.{StmtKind-F}
use Rattle.core_tree.specs.declared.statements.Init.{Init}
use Rattle.core_tree.specs.declared.program.Function.{Function}
use Rattle.core_tree.specs.declared.program.Core.{Core}
use Rattle.core_tree.specs.Layout.{layouts, with_members, layout_in, nothing, start_of, Layout}

abbrev pub tallest : List ℕ → ℕ
tallest [] = 0
tallest (n ∷ ns) = max n (tallest ns)

-- the arguments of a call, the i-th above i - 1 others; at least 1
abbrev pub tallest_from : ℕ → List ℕ → ℕ
tallest_from i [] = 1
tallest_from i (n ∷ ns) = max (i + n) (tallest_from (i + 1) ns)

-- the height of an expression from those of its parts
abbrev pub expr_step : ExprKind-F ℕ ℕ ℕ ℕ → ℕ
expr_step (ExprKind-F.Constant _) = 1
expr_step (ExprKind-F.Read place) = place
expr_step (ExprKind-F.Convert of) = of
expr_step (ExprKind-F.Unary _ of) = of
expr_step (ExprKind-F.Binary _ _ left right) = max left (1 + right)
expr_step (ExprKind-F.PointerPlus _ left right) = max left (1 + right)
expr_step (ExprKind-F.Difference left right) = max left (1 + right)
expr_step (ExprKind-F.ComparePointers _ left right) = max left (1 + right)
expr_step (ExprKind-F.And left right) = max left right
expr_step (ExprKind-F.Or left right) = max left right
expr_step (ExprKind-F.Conditional test one other) = max test (max one other)
expr_step (ExprKind-F.Assign place value _) = max place (1 + value)
expr_step (ExprKind-F.Update _ _ place value _ _) = max place (2 + value)
expr_step (ExprKind-F.Address place) = place
expr_step (ExprKind-F.Call _ args) = tallest_from 0 args
expr_step (ExprKind-F.Sense _) = 1
expr_step (ExprKind-F.Emit of) = of
expr_step ExprKind-F.Checkpoint = 1
expr_step (ExprKind-F.Comma left right) = max left (1 + right)

-- the height of a place from those of its parts
abbrev pub place_step : PlaceKind-F ℕ ℕ ℕ ℕ → ℕ
place_step (PlaceKind-F.Local _) = 1
place_step (PlaceKind-F.Global _) = 1
place_step (PlaceKind-F.Deref of) = of
place_step (PlaceKind-F.Member of _ _) = of
place_step (PlaceKind-F.Element of index) = max of (1 + index)
place_step (PlaceKind-F.At left right) = max left (1 + right)

abbrev pub expr_kind_height : ExprKind → ℕ
expr_kind_height = fold-ExprKind ℕ ℕ ℕ ℕ expr_step place_step (λ e. e.kind) (λ p. p.kind)

abbrev pub place_kind_height : PlaceKind → ℕ
place_kind_height = fold-PlaceKind ℕ ℕ ℕ ℕ expr_step place_step (λ e. e.kind) (λ p. p.kind)

abbrev pub expr_height : Expr → ℕ
expr_height e = expr_kind_height e.kind

abbrev pub place_height : Place → ℕ
place_height p = place_kind_height p.kind

-- a part that may be left out
abbrev pub optional : {A : Type 0} → (A → ℕ) → Option A → ℕ
optional measure None = 0
optional measure (Some x) = measure x

abbrev pub init_height : Init → ℕ
init_height i = optional expr_height i.value

-- the height of the expressions in a statement
abbrev pub stmt_step : StmtKind-F ℕ ℕ ℕ → ℕ
stmt_step (StmtKind-F.Expr e) = expr_height e
stmt_step (StmtKind-F.Block all) = tallest all
stmt_step (StmtKind-F.If test then other) = max (expr_height test) (max then (optional (λ n. n) other))
stmt_step (StmtKind-F.While test body) = max (expr_height test) body
stmt_step (StmtKind-F.Do body test) = max body (expr_height test)
stmt_step (StmtKind-F.For first test step body) =
    max (max (optional (λ n. n) first) (optional expr_height test)) (max (optional expr_height step) body)
stmt_step (StmtKind-F.Switch on groups) = max (expr_height on) (tallest groups)
stmt_step StmtKind-F.Break = 0
stmt_step StmtKind-F.Continue = 0
stmt_step (StmtKind-F.Return e) = optional expr_height e
stmt_step (StmtKind-F.Stamped place value) = max (place_height place) (1 + expr_height value)
stmt_step (StmtKind-F.Timely place _ then other) = max (place_height place) (max then (optional (λ n. n) other))
stmt_step (StmtKind-F.Expires names body caught) =
    max (tallest (map place_height names)) (max (tallest body) (tallest caught))
stmt_step (StmtKind-F.Declare _ init) = tallest (map init_height init)

abbrev pub stmt_kind_height : StmtKind → ℕ
stmt_kind_height = fold-StmtKind ℕ ℕ ℕ stmt_step (λ g. tallest g.body) (λ s. s.kind)

abbrev pub group_height : Group → ℕ
group_height = fold-Group ℕ ℕ ℕ stmt_step (λ g. tallest g.body) (λ s. s.kind)

abbrev pub stmt_height : Stmt → ℕ
stmt_height s = stmt_kind_height s.kind

-- 1 without any expression
abbrev pub height_of : Function → ℕ
height_of f = max 1 (tallest (map stmt_height f.body))

-- ---- frames: upwards from the stack pointer the parameters and the locals in order, each at its alignment, a pad byte
-- to an even size, and the temporary words

-- the objects of a function in order of their numbers, parameters first
abbrev pub objects_of : Function → List Ty
objects_of f = f.params ++ f.locals

abbrev pub object_layouts : List Struct → Function → List Layout
object_layouts structs f = map (layout_in (layouts structs)) (objects_of f)

-- where an object stands in the frame
abbrev pub local_offset : List Struct → Function → ℕ → ℕ
local_offset structs f n = start_of (object_layouts structs f) n

abbrev pub rounded : ℕ → ℕ
rounded n = n + n % 2

-- where the temporary words begin in the frame
abbrev pub object_bytes : List Struct → Function → ℕ
object_bytes structs f = rounded (with_members nothing (object_layouts structs f)).size

abbrev pub frame_bytes : List Struct → Function → ℕ
frame_bytes structs f = object_bytes structs f + 2 * (height_of f + 2)

-- ---- what the calls answer: 2^32 - 1 stands for every greater number, and 0 where there is no such function

abbrev pub most : ℕ
most = 4294967295

abbrev pub capped : ℕ → ℕ
capped n = min n most

abbrev pub of_function : (Function → ℕ) → Option Function → ℕ
of_function measure None = 0
of_function measure (Some f) = capped (measure f)

unfoldable pub told_height : Core → ℕ → ℕ
told_height core n = of_function height_of (slice_get core.functions n)

unfoldable pub told_frame : Core → ℕ → ℕ
told_frame core n = of_function (frame_bytes core.structs) (slice_get core.functions n)

-- Initialisers (C99 6.7.8): which expression is put into which scalar of an object, and where zero is.
use Rattle.std.specs.Prelude.{ℕ, zero, suc, Bool, true, false, ◌&&◌, ◌||◌, if◌then◌else◌, length, map, take, drop, get_or, List, [], ◌∷◌, ◌++◌, is_some, Option, Some, None, Result, Ok, Err, pos}
use Rattle.c_tree.specs.declared.declarations.Initial.{Initial as Source, fold-Initial, out-Initial}
use Rattle.c_tree.specs.declared.declarations.Initial.TheOpen.{Initial-F}
use Rattle.core_tree.specs.declared.types.Ty.{Ty, fold-Ty}
use Rattle.core_tree.specs.declared.types.Ty.TheVariants as ty
use Rattle.core_tree.specs.declared.types.Ty.TheOpen.{Ty-F}
use Rattle.core_tree.specs.declared.types.Slot.{Slot}
use Rattle.core_tree.specs.declared.types.Struct.{Struct}
use Rattle.core_tree.specs.declared.expressions.Expr.{Expr}
use Rattle.core_tree.specs.declared.statements.Init.{Init as Store}
use Rattle.core_tree.specs.declared.program.Initial.{Initial}
use Rattle.core_tree.specs.declared.program.Initial.TheVariants as initial
use Rattle.core_tree.specs.Reaching.{joined}
use Rattle.core_tree.specs.Layout.{layout}
use Rattle.c_typing.specs.declared.fault.Rule.{Rule}
use Rattle.c_typing.specs.declared.fault.Rule.TheVariants.{WrongType, NotConstant}
use Rattle.c_typing.specs.declared.environment.Env.{Env}
use Rattle.c_typing.specs.Outcome.{Outcome, ◌>>=◌, broken}
use Rattle.c_checking.specs.Declarators.{value_of, converted_value, object_rule, settled}
use Rattle.c_checking.specs.Constants.{initial_value}

-- ---- the scalars of an object

-- a scalar: its type, and how many scalars each object has that begins at it: the arrays and structs from the outside to
-- the inside, and the scalar itself
pub record Leaf : Type 0 where
  pub ty : Ty
  pub begins : List ℕ

abbrev pub alone : Ty → List Leaf
alone t = record { ty = t; begins = 1 ∷ [] } ∷ []

-- the scalars of an array or struct, which begins at the first
abbrev pub together : List Leaf → List Leaf
together [] = []
together (l ∷ ls) = record l { begins = length (l ∷ ls) ∷ l.begins } ∷ ls

abbrev pub repeated : ℕ → List Leaf → List Leaf
repeated zero ls = []
repeated (suc n) ls = ls ++ repeated n ls

-- a type and its scalars
pub record Parts : Type 0 where
  pub whole : Ty
  pub leaves : List Leaf

abbrev pub leaf_step : List (List Leaf) → Ty-F Parts → Parts
leaf_step known Ty-F.Void = record { whole = ty.Void; leaves = [] }
leaf_step known (Ty-F.Num t) = record { whole = ty.Num t; leaves = alone (ty.Num t) }
leaf_step known (Ty-F.Pointer to readonly) =
    record { whole = ty.Pointer to.whole readonly; leaves = alone (ty.Pointer to.whole readonly) }
leaf_step known (Ty-F.Array of count) =
    record { whole = ty.Array of.whole count; leaves = together (repeated count of.leaves) }
leaf_step known (Ty-F.Struct tag) = record { whole = ty.Struct tag; leaves = get_or known tag [] }

abbrev pub leaves_in : List (List Leaf) → Ty → List Leaf
leaves_in known t = (fold-Ty Parts (leaf_step known) t).leaves

-- those of all structs; each knows those before it
abbrev pub struct_leaves : List (List Leaf) → List Struct → List (List Leaf)
struct_leaves known [] = known
struct_leaves known (s ∷ more) =
    struct_leaves (known ++ together (joined (map (λ m. leaves_in known m.ty) s.members)) ∷ []) more

abbrev pub leaves : List Struct → Ty → List Leaf
leaves structs t = leaves_in (struct_leaves [] structs) t

-- ---- brace lists

-- an expression that is put into a scalar, and the line of the item
pub record Given : Type 0 where
  pub value : Expr
  pub line : ℕ

-- what items come to: what is put into each scalar that they pass, where zero is none; the scalars behind; and whether each
-- item had a scalar and converted to its type
pub record Filled : Type 0 where
  pub values : List (Option Given)
  pub rest : List Leaf
  pub fits : Bool

-- what an item comes to in front of scalars
abbrev pub Item : Type 0
Item = List Leaf → Outcome Filled

abbrev pub in_scalar : ℕ → Option Expr → List Leaf → Filled
in_scalar line None rest = record { values = None ∷ []; rest = rest; fits = false }
in_scalar line (Some e) rest = record { values = Some (record { value = e; line = line }) ∷ []; rest = rest; fits = true }

-- an expression is for the first scalar
abbrev pub put : ℕ → Option Expr → List Leaf → Filled
put line v [] = record { values = []; rest = []; fits = false }
put line v (l ∷ rest) = in_scalar line (converted_value l.ty v) rest

-- items one after another
abbrev pub each : List Item → Item
each [] leaves = Ok (record { values = []; rest = leaves; fits = true })
each (item ∷ items) leaves =
    item leaves >>= λ a. each items a.rest >>= λ b.
    Ok (record { values = a.values ++ b.values; rest = b.rest; fits = a.fits && b.fits })

-- that each value may stand here, or the line of the first that may not
abbrev pub allowed : (Expr → Bool) → List (Option Given) → Outcome (List (Option Given))
allowed may [] = Ok []
allowed may (None ∷ more) = allowed may more >>= λ vs. Ok (None ∷ vs)
allowed may (Some v ∷ more) =
    if may v.value then (allowed may more >>= λ vs. Ok (Some v ∷ vs)) else broken NotConstant v.line

abbrev pub zeros : List Leaf → List (Option Given)
zeros rest = map (λ l. None) rest

-- a list is judged at its line when its items are walked; the scalars that it leaves out are zero
abbrev pub judged : (Expr → Bool) → ℕ → Filled → Outcome (List (Option Given))
judged may line f = if f.fits then allowed may (f.values ++ zeros f.rest) else broken WrongType line

-- a list with no object for it; only what stands in it is walked
abbrev pub lost : List Leaf → List Item → Outcome Filled
lost leaves items = each items [] >>= λ f. Ok (record { values = []; rest = leaves; fits = false })

-- a list is for the outermost object that begins at the first scalar
abbrev pub opened : (Expr → Bool) → ℕ → List Item → Leaf → List ℕ → List Leaf → Outcome Filled
opened may line items l [] rest = lost (l ∷ rest) items
opened may line items l (n ∷ inside) rest =
    each items (take n (record { ty = l.ty; begins = inside } ∷ rest)) >>= λ f. judged may line f >>= λ vs.
    Ok (record { values = vs; rest = drop n (l ∷ rest); fits = true })

abbrev pub listed : (Expr → Bool) → ℕ → List Item → Item
listed may line items [] = lost [] items
listed may line items (l ∷ rest) = opened may line items l l.begins rest

abbrev pub item_step : Env → (Expr → Bool) → Initial-F Item → Item
item_step env may (Initial-F.Assign e) = λ leaves. value_of env e >>= λ v. Ok (put e.line v leaves)
item_step env may (Initial-F.List items last_comma line) = listed may line items

abbrev pub item : Env → (Expr → Bool) → Source → Item
item env may = fold-Initial Item (item_step env may)

-- ---- a whole initialiser

-- an expression for a scalar that is a whole object
abbrev pub whole : (Expr → Bool) → ℕ → Option Expr → Result (List (Option Given)) Rule
whole may line None = Err WrongType
whole may line (Some e) = if may e then Ok (Some (record { value = e; line = line }) ∷ []) else Err NotConstant

abbrev pub initialised_by : Env → (Expr → Bool) → Ty → Source → Initial-F Source → Outcome (Result (List (Option Given)) Rule)
initialised_by env may t i (Initial-F.Assign e) = value_of env e >>= λ v. Ok (whole may e.line (converted_value t v))
initialised_by env may t i (Initial-F.List items last_comma line) =
    item env may i (leaves env.structs t) >>= λ f. Ok (Ok f.values)

-- what is put into the scalars of an object of a type; nothing where there is no initialiser
abbrev pub initialised : Env → (Expr → Bool) → Ty → Option Source → Outcome (Result (List (Option Given)) Rule)
initialised env may t None = Ok (Ok [])
initialised env may t (Some i) = initialised_by env may t i (out-Initial i)

-- ---- locals: a store for each scalar

abbrev pub any : Expr → Bool
any e = true

abbrev pub value_in : Option Given → Option Expr
value_in None = None
value_in (Some v) = Some v.value

abbrev pub stores : Bool → List Slot → List (Option Given) → List Store
stores marked (slot ∷ slots) (v ∷ vs) =
    record { offset = slot.offset; value = value_in v; marked = marked } ∷ stores marked slots vs
stores marked _ _ = []

abbrev pub is_list_layer : {A : Type 0} → Initial-F A → Bool
is_list_layer (Initial-F.Assign e) = false
is_list_layer (Initial-F.List items last_comma line) = true

abbrev pub is_list : Option Source → Bool
is_list None = false
is_list (Some i) = is_list_layer (out-Initial i)

-- the stores of a brace list are marks
unfoldable pub stored : Env → ℕ → Ty → Option Source → Outcome (List Store)
stored env line t i =
    settled line (object_rule env t) (initialised env any t i) >>= λ vs.
    Ok (stores (env.inside || is_list i) (layout env.structs t).slots vs)

-- ---- file-scope variables: a constant for each scalar

abbrev pub is_constant : List Struct → Expr → Bool
is_constant structs e = is_some (initial_value structs e)

abbrev pub or_zero : Option Initial → Initial
or_zero None = initial.Int (pos 0)
or_zero (Some i) = i

abbrev pub initial_in : List Struct → Option Given → Initial
initial_in structs None = initial.Int (pos 0)
initial_in structs (Some v) = or_zero (initial_value structs v.value)

abbrev pub initials : List Struct → List Slot → List (Option Given) → List Initial
initials structs [] vs = []
initials structs (slot ∷ slots) [] = initial.Int (pos 0) ∷ initials structs slots []
initials structs (slot ∷ slots) (v ∷ vs) = initial_in structs v ∷ initials structs slots vs

unfoldable pub begun : Env → ℕ → Ty → Option Source → Outcome (List Initial)
begun env line t i =
    settled line (object_rule env t) (initialised env (is_constant env.structs) t i) >>= λ vs.
    Ok (initials env.structs (layout env.structs t).slots vs)

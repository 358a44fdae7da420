-- Which programs are lawful: statements, functions, variables, structs and the whole, each rule with its name.
use Rattle.std.specs.Prelude.{◌≡◌, ℕ, zero, suc, ◌+◌, ◌<◌, ◌≤◌, nat_le, nat_lt, Bool, true, false, not, ◌&&◌, ℤ, pos, List, [], ◌∷◌, ◌++◌, map, length, get_or, slice_get, Option, Some, None, codes}
use Rattle.base16.specs.declared.integer.IntType.{IntType}
use Rattle.base16.specs.declared.integer.IntType.TheVariants.{Int}
use Rattle.core_tree.specs.declared.types.Ty.{Ty, fold-Ty, out-Ty}
use Rattle.core_tree.specs.declared.types.Ty.TheVariants as ty
use Rattle.core_tree.specs.declared.types.Ty.TheOpen.{Ty-F}
use Rattle.core_tree.specs.declared.types.Slot.{Slot}
use Rattle.core_tree.specs.declared.types.Struct.{Struct}
use Rattle.core_tree.specs.declared.expressions.Expr.{Expr}
use Rattle.core_tree.specs.declared.expressions.Place.{Place}
use Rattle.core_tree.specs.declared.expressions.ExprKind.TheVariants as k
use Rattle.core_tree.specs.declared.expressions.PlaceKind.TheVariants as pk
use Rattle.core_tree.specs.declared.statements.Stmt.{Stmt}
use Rattle.core_tree.specs.declared.statements.StmtKind.{StmtKind}
use Rattle.core_tree.specs.declared.statements.StmtKind.TheVariants as sk
use Rattle.core_tree.specs.declared.statements.Group.{Group, out-Group}
use Rattle.core_tree.specs.declared.statements.Init.{Init}
use Rattle.core_tree.specs.declared.program.Core.{Core}
use Rattle.core_tree.specs.declared.program.Typed.{Typed}
use Rattle.core_tree.specs.declared.program.Global.{Global}
use Rattle.core_tree.specs.declared.program.Initial.{Initial}
use Rattle.core_tree.specs.declared.program.Initial.TheVariants as initial
use Rattle.core_tree.specs.declared.program.Function.{Function}
use Rattle.core_tree.specs.Layout.{size_of, layout}
use Rattle.core_tree.specs.Heights.{objects_of}
use Rattle.core_tree.specs.Numbers.{core_numbers, function_numbers}
use Rattle.core_tree.specs.Reaching.{joined}
use Rattle.core_tree.specs.Rules.{is_value, is_scalar}
use Rattle.core_tree.specs.Lawful.{Scope, IsComputed, IsExpr, IsPlace, IsTimedScalar, is_const}

-- ---- words

-- each one, by its place in the list
abbrev pub Every : {A : Type 0} → (A → Type 0) → List A → Type 0
Every P [] = Unit {0}
Every P (x ∷ xs) = P x × Every P xs

abbrev pub IsNone : {A : Type 0} → A → List A → Type 0
IsNone x [] = Unit {0}
IsNone x (y ∷ ys) = (x ≡ y → ⊥) × IsNone x ys

-- no two are equal
abbrev pub Apart : {A : Type 0} → List A → Type 0
Apart [] = Unit {0}
Apart (x ∷ xs) = IsNone x xs × Apart xs

abbrev pub OnSome : {A : Type 0} → (A → Type 0) → Option A → Type 0
OnSome P None = Unit {0}
OnSome P (Some x) = P x

-- these are the numbers from one on
abbrev pub CountsFrom : ℕ → List ℕ → Type 0
CountsFrom n [] = Unit {0}
CountsFrom n (m ∷ more) = (m ≡ n) × CountsFrom (n + 1) more

-- ---- types of objects

-- what an object may be: no `void` and no pointer to it anywhere, array sizes from 1 to 32,767; its structs outside
-- pointers are below a number, those behind pointers below that of all
abbrev pub object_step : ℕ → Ty-F (ℕ → Bool) → ℕ → Bool
object_step all Ty-F.Void below = false
object_step all (Ty-F.Num t) below = true
object_step all (Ty-F.Pointer to readonly) below = to all
object_step all (Ty-F.Array of count) below = nat_le 1 count && nat_le count 32767 && of below
object_step all (Ty-F.Struct tag) below = nat_lt tag below

abbrev pub is_object : ℕ → Ty → ℕ → Bool
is_object all = fold-Ty (ℕ → Bool) (object_step all)

-- an object of a program
abbrev pub IsObject : Core → Ty → Type 0
IsObject core t = is_object (length core.structs) t (length core.structs) ≡ true

abbrev pub IsSmall : Core → Ty → Type 0
IsSmall core t = size_of core.structs t ≤ 16383

-- ---- the types of the scalars in a type, in the order of its scalars

pub record Leaves : Type 0 where
  pub whole : Ty
  pub leaves : List Ty

abbrev pub repeated : ℕ → List Ty → List Ty
repeated zero ts = []
repeated (suc n) ts = ts ++ repeated n ts

abbrev pub leaf_step : List (List Ty) → Ty-F Leaves → Leaves
leaf_step known Ty-F.Void = record { whole = ty.Void; leaves = [] }
leaf_step known (Ty-F.Num t) = record { whole = ty.Num t; leaves = ty.Num t ∷ [] }
leaf_step known (Ty-F.Pointer to readonly) =
    record { whole = ty.Pointer to.whole readonly; leaves = ty.Pointer to.whole readonly ∷ [] }
leaf_step known (Ty-F.Array of count) = record { whole = ty.Array of.whole count; leaves = repeated count of.leaves }
leaf_step known (Ty-F.Struct tag) = record { whole = ty.Struct tag; leaves = get_or known tag [] }

abbrev pub leaves_in : List (List Ty) → Ty → List Ty
leaves_in known t = (fold-Ty Leaves (leaf_step known) t).leaves

abbrev pub struct_leaves : List (List Ty) → List Struct → List (List Ty)
struct_leaves known [] = known
struct_leaves known (s ∷ more) = struct_leaves (known ++ joined (map (λ m. leaves_in known m.ty) s.members) ∷ []) more

abbrev pub scalar_types : Core → Ty → List Ty
scalar_types core t = leaves_in (struct_leaves [] core.structs) t

-- ---- statements

-- what a statement stands in: where its function's parameters end, its result, and whether `break` and `continue` have
-- something to leave
pub record Text : Type 0 where
  pub scope : Scope
  pub params : ℕ
  pub result : Ty
  pub breaks : Bool
  pub continues : Bool

abbrev pub in_loop : Text → Text
in_loop x = record x { breaks = true; continues = true }

abbrev pub in_switch : Text → Text
in_switch x = record x { breaks = true }

-- the text of an `@expires` block, which no `break` and `continue` leaves once the annotations are checked
abbrev pub in_block : Text → Text
in_block x = record x {
  scope = record x.scope { inside = true };
  breaks = x.breaks && not x.scope.annotated;
  continues = x.continues && not x.scope.annotated;
}

-- a test takes an integer or a pointer
pub record IsTest (s : Scope) (e : Expr) : Type 0 where
  pub typed : IsExpr s e e.ty
  pub scalar : is_scalar e.ty ≡ true

abbrev pub Lawful : Scope → Expr → Type 0
Lawful s e = IsExpr s e e.ty

-- what an initialiser of a local stores: to each scalar in order, and all scalars or none
abbrev pub IsInit : Scope → Ty → Slot → Ty → Init → Type 0
IsInit s whole slot t i =
    (i.offset ≡ slot.offset) × OnSome (λ e. IsExpr s e t) i.value × (s.inside ≡ true → i.marked ≡ true) × (is_scalar whole ≡ false → i.marked ≡ true)

abbrev pub AreInits : Scope → Ty → List Slot → List Ty → List Init → Type 0
AreInits s whole [] [] [] = Unit {0}
AreInits s whole (slot ∷ slots) (t ∷ ts) (i ∷ is) = IsInit s whole slot t i × AreInits s whole slots ts is
AreInits s whole _ _ _ = ⊥

abbrev pub Initialised : Scope → Ty → List Init → Type 0
Initialised s t [] = Unit {0}
Initialised s t (i ∷ is) = AreInits s t (layout s.core.structs t).slots (scalar_types s.core t) (i ∷ is)

-- a place that `@expires` names: a timed variable or an element of one, with a constant index inside it
pub data IsNamed (s : Scope) : Place → Type 0 where
  unchecked : (p : Place) → s.annotated ≡ false → IsPlace s p p.ty → IsNamed s p
  variable : (p : Place) (n : ℕ) (t : IntType) → IsPlace s p (ty.Num t) → p.kind ≡ pk.Global n → IsTimedScalar s p → IsNamed s p
  indexed : (p of : Place) (i : Expr) (n : ℕ) (t : IntType) (count at : ℕ) → IsPlace s p (ty.Num t)
      → p.kind ≡ pk.Element of i → of.kind ≡ pk.Global n
      → of.ty ≡ ty.Array (ty.Num t) count → i.kind ≡ k.Constant (pos at) → (s.annotated ≡ true → at < count)
      → IsTimedScalar s p → IsNamed s p

abbrev pub all_labels : List Group → List (Option ℤ)
all_labels groups = joined (map (λ g. (out-Group g).labels) groups)

abbrev pub most_ms : ℕ
most_ms = 2147483647

pub data IsDeclaration : Stmt → Type 0 where
  is_declaration : (s : Stmt) (n : ℕ) (init : List Init) → s.kind ≡ sk.Declare n init → IsDeclaration s

-- the first part of a `for` is an expression or declarations
pub data IsFirst : StmtKind → Type 0 where
  first_expression : (e : Expr) → IsFirst (sk.Expr e)
  first_declarations : (all : List Stmt) → Every IsDeclaration all → IsFirst (sk.Block all)

-- no `return` and no other block stands in the text of an `@expires` block, once the annotations are checked
abbrev pub IsFree : Text → Type 0
IsFree x = x.scope.annotated ≡ true → x.scope.inside ≡ false

-- what `@timely` asks
pub record IsAsked (x : Text) (p : Place) (limit : ℕ) : Type 0 where
  pub place : IsPlace x.scope p p.ty
  pub timed : IsTimedScalar x.scope p
  pub scalar : x.scope.annotated ≡ true → is_scalar p.ty ≡ true
  pub short : x.scope.annotated ≡ true → limit ≤ most_ms

mutual
  pub data IsStmt : Text → StmtKind → Type 0 where
    expression : (x : Text) (e : Expr) → Lawful x.scope e → IsStmt x (sk.Expr e)
    block : (x : Text) (all : List Stmt) → AreStmts x all → IsStmt x (sk.Block all)
    if : (x : Text) (test : Expr) (one : Stmt) → IsTest x.scope test → IsStmt x one.kind → IsStmt x (sk.If test one None)
    if_else : (x : Text) (test : Expr) (one other : Stmt) → IsTest x.scope test → IsStmt x one.kind → IsStmt x other.kind
        → IsStmt x (sk.If test one (Some other))
    while : (x : Text) (test : Expr) (body : Stmt) → IsTest x.scope test → IsStmt (in_loop x) body.kind
        → IsStmt x (sk.While test body)
    do_while : (x : Text) (body : Stmt) (test : Expr) → IsStmt (in_loop x) body.kind → IsTest x.scope test
        → IsStmt x (sk.Do body test)
    for : (x : Text) (test step : Option Expr) (body : Stmt) → OnSome (IsTest x.scope) test → OnSome (Lawful x.scope) step
        → IsStmt (in_loop x) body.kind
        → IsStmt x (sk.For None test step body)
    for_first : (x : Text) (first : Stmt) (test step : Option Expr) (body : Stmt) → IsFirst first.kind → IsStmt x first.kind
        → OnSome (IsTest x.scope) test
        → OnSome (Lawful x.scope) step → IsStmt (in_loop x) body.kind → IsStmt x (sk.For (Some first) test step body)
    switch : (x : Text) (on : Expr) (groups : List Group) (t : IntType) → IsComputed t → IsExpr x.scope on (ty.Num t)
        → Apart (all_labels groups)
        → Every (OnSome (λ n. is_value t n ≡ true)) (all_labels groups) → AreGroups (in_switch x) groups
        → IsStmt x (sk.Switch on groups)
    break : (x : Text) → x.breaks ≡ true → IsStmt x sk.Break
    continue : (x : Text) → x.continues ≡ true → IsStmt x sk.Continue
    returned : (x : Text) → x.result ≡ ty.Void → IsFree x → IsStmt x (sk.Return None)
    returned_value : (x : Text) (e : Expr) → IsExpr x.scope e x.result → is_scalar x.result ≡ true → IsFree x
        → IsStmt x (sk.Return (Some e))
    stamped : (x : Text) (p : Place) (e : Expr) (t : Ty) → IsPlace x.scope p t → IsExpr x.scope e t → is_scalar t ≡ true
        → is_const p.kind ≡ false → IsTimedScalar x.scope p
        → IsStmt x (sk.Stamped p e)
    timely : (x : Text) (p : Place) (limit : ℕ) (one : Stmt) → IsAsked x p limit → IsStmt x one.kind
        → IsStmt x (sk.Timely p limit one None)
    timely_else : (x : Text) (p : Place) (limit : ℕ) (one other : Stmt) → IsAsked x p limit → IsStmt x one.kind
        → IsStmt x other.kind
        → IsStmt x (sk.Timely p limit one (Some other))
    expires : (x : Text) (p : Place) (names : List Place) (body caught : List Stmt) → Every (IsNamed x.scope) (p ∷ names)
        → IsFree x
        → AreStmts (in_block x) body → AreStmts x caught → IsStmt x (sk.Expires (p ∷ names) body caught)
    declared : (x : Text) (n : ℕ) (t : Ty) (init : List Init) → x.params ≤ n → slice_get x.scope.objects n ≡ Some t
        → Initialised x.scope t init
        → IsStmt x (sk.Declare n init)

  pub data AreStmts : Text → List Stmt → Type 0 where
    no_stmts : (x : Text) → AreStmts x []
    one_more : (x : Text) (s : Stmt) (more : List Stmt) → IsStmt x s.kind → AreStmts x more → AreStmts x (s ∷ more)

  -- each group has a label
  pub data AreGroups : Text → List Group → Type 0 where
    no_groups : (x : Text) → AreGroups x []
    one_group : (x : Text) (g : Group) (more : List Group) → 1 ≤ length (out-Group g).labels → AreStmts x (out-Group g).body
        → AreGroups x more
        → AreGroups x (g ∷ more)

-- ---- functions

abbrev pub scope_of : Core → Bool → Function → Scope
scope_of core annotated f = record { core = core; objects = objects_of f; inside = false; annotated = annotated }

abbrev pub text_of : Core → Bool → Function → Text
text_of core annotated f =
    record { scope = scope_of core annotated f; params = length f.params; result = f.result; breaks = false; continues = false }

abbrev pub result_layer : Core → Ty → Ty-F Ty → Type 0
result_layer core t Ty-F.Void = Unit {0}
result_layer core t _ = (is_scalar t ≡ true) × IsObject core t

pub record IsFunction (core : Core) (annotated : Bool) (f : Function) : Type 0 where
  -- a parameter is an integer or a pointer
  pub params : Every (λ t. (is_scalar t ≡ true) × IsObject core t) f.params
  -- a local is an object of at most 16,383 bytes
  pub locals : Every (λ t. IsObject core t × IsSmall core t) f.locals
  -- a result is `void`, an integer or a pointer
  pub result : result_layer core f.result (out-Ty f.result)
  pub body : AreStmts (text_of core annotated f) f.body

-- ---- variables

-- what a scalar of a variable begins with: a value of its type, the null pointer, or the address of a place inside a
-- variable that is declared by then
abbrev pub IsInitial : Core → ℕ → Ty-F Ty → Initial → Type 0
IsInitial core own (Ty-F.Num t) (initial.Int n) = is_value t n ≡ true
IsInitial core own (Ty-F.Pointer to readonly) (initial.Int n) = n ≡ pos 0
IsInitial core own (Ty-F.Pointer to readonly) (initial.Address n offset) =
    (n ≤ own) × ((g : Global) → slice_get core.globals n ≡ Some g → offset < size_of core.structs g.ty)
IsInitial core own _ _ = ⊥

abbrev pub AreInitials : Core → ℕ → List Ty → List Initial → Type 0
AreInitials core own [] [] = Unit {0}
AreInitials core own (t ∷ ts) (i ∷ is) = IsInitial core own (out-Ty t) i × AreInitials core own ts is
AreInitials core own _ _ = ⊥

-- what may be timed: an integer or an array of what may
abbrev pub timed_step : Ty-F Bool → Bool
timed_step (Ty-F.Num t) = true
timed_step (Ty-F.Array of count) = of
timed_step _ = false

abbrev pub may_be_timed : Ty → Bool
may_be_timed = fold-Ty Bool timed_step

pub record IsGlobal (core : Core) (annotated : Bool) (own : ℕ) (g : Global) : Type 0 where
  -- a variable is an object of at most 16,383 bytes
  pub object : IsObject core g.ty
  pub small : IsSmall core g.ty
  -- one value for each scalar in order
  pub init : AreInitials core own (scalar_types core g.ty) g.init
  -- a timed variable is an integer or an array of integers, and lives from 1 to 2^31 - 1 milliseconds
  pub timed : OnSome (λ t. may_be_timed g.ty ≡ true) g.lifetime
  pub lifetime : annotated ≡ true → OnSome (λ t. (1 ≤ t) × (t ≤ most_ms)) g.lifetime

abbrev pub AreGlobals : Core → Bool → ℕ → List Global → Type 0
AreGlobals core annotated n [] = Unit {0}
AreGlobals core annotated n (g ∷ more) = IsGlobal core annotated n g × AreGlobals core annotated (n + 1) more

-- how many nodes stand before a variable: no fewer than before the one in front of it, and a function's all or none
abbrev pub rises : ℕ → List Global → Type 0
rises n [] = Unit {0}
rises n (g ∷ more) = (n ≤ g.before) × rises g.before more

pub record IsBetween (core : Core) (g : Global) : Type 0 where
  pub whole : (f : Function) (n : ℕ) → slice_get core.functions n ≡ Some f → f.node + 1 ≤ g.before
      → f.node + length (function_numbers f) ≤ g.before
  pub within : g.before ≤ length (core_numbers core)

-- ---- structs

-- a struct's members are objects with names of their own; outside pointers they name only structs before it
pub record IsStruct (core : Core) (own : ℕ) (s : Struct) : Type 0 where
  pub members : Every (λ m. is_object (length core.structs) m.ty own ≡ true) s.members
  pub some : 1 ≤ length s.members
  pub names : Apart (map (λ m. m.name) s.members)

abbrev pub AreStructs : Core → ℕ → List Struct → Type 0
AreStructs core n [] = Unit {0}
AreStructs core n (s ∷ more) = IsStruct core n s × AreStructs core (n + 1) more

-- ---- the whole

-- the names at file scope: variables, functions, and those that the language has
abbrev pub file_names : Core → List (List ℕ)
file_names core =
    codes "sense" ∷ codes "emit" ∷ codes "checkpoint" ∷ (map (λ (g : Global). g.name) core.globals ++ map (λ (f : Function). f.name) core.functions)

abbrev pub IsMain : Function → Type 0
IsMain f = (f.name ≡ codes "main") × (f.params ≡ []) × (f.result ≡ ty.Num Int)

pub record IsLawful (annotated : Bool) (core : Core) : Type 0 where
  pub few_structs : length core.structs ≤ 20000
  pub few_functions : length core.functions ≤ 20000
  pub tags : Apart (map (λ (s : Struct). s.name) core.structs)
  pub names : Apart (file_names core)
  pub structs : AreStructs core 0 core.structs
  pub globals : AreGlobals core annotated 0 core.globals
  pub functions : Every (IsFunction core annotated) core.functions
  -- `int main(void)` is defined
  pub main : (n : ℕ) × ((f : Function) × ((slice_get core.functions n ≡ Some f) × IsMain f))
  -- the numbers of the nodes stand in the order of the text, from 0
  pub numbers : CountsFrom 0 (core_numbers core)
  -- and so do the variables among them
  pub order : rises 0 core.globals
  pub between : Every (IsBetween core) core.globals

-- a program whose annotations are checked
abbrev pub LawfulCore : Core → Type 0
LawfulCore core = IsLawful true core

-- a program whose annotations are not checked yet
abbrev pub LawfulTyped : Typed → Type 0
LawfulTyped typed = IsLawful false typed.core

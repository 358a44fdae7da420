-- Programs that store constants, and the trees and sources that are such programs.
use Rattle.std.specs.Prelude.{◌≡◌, ℕ, ◌<◌, ◌≤◌, ◌⊎◌, List, [], ◌∷◌, ◌++◌, length, Bool, true, false, not, ◌&&◌, nat_le, codes, IsTrue, Some, None}
use Rattle.std.specs.List.{list_any, list_all}
use Rattle.std.specs.Str.{bytes_eq}
use Rattle.c_tree.specs.declared.qualified.Spec.{Spec}
use Rattle.c_tree.specs.declared.qualified.Base.TheVariants as base
use Rattle.c_tree.specs.declared.expression.Expr.{Expr}
use Rattle.c_tree.specs.declared.expression.ExprKind.TheVariants as expr
use Rattle.c_tree.specs.declared.statements.StatementKind.TheVariants as statement
use Rattle.c_tree.specs.declared.statements.BlockItem.{BlockItem}
use Rattle.c_tree.specs.declared.statements.BlockItem.TheVariants as item
use Rattle.c_tree.specs.declared.statements.Compound.{Compound, roll-Compound}
use Rattle.c_tree.specs.declared.declarations.Init.{Init}
use Rattle.c_tree.specs.declared.declarations.Declaration.{Declaration}
use Rattle.c_tree.specs.declared.unit.Function.{Function}
use Rattle.c_tree.specs.declared.unit.Params.TheVariants as params
use Rattle.c_tree.specs.declared.unit.External.{External}
use Rattle.c_tree.specs.declared.unit.External.TheVariants as external
use Rattle.c_tree.specs.declared.unit.Tree.{Tree}
use Rattle.core_tree.specs.declared.program.Typed.{Typed}
use Rattle.tics_call.specs.declared.source.Program.{Program}
use Rattle.tics_call.specs.declared.source.Store.{Store}
use Rattle.tics_front.specs.Source.{IsTyped, IsAnnotated}

-- ---- programs

-- the functions that every program has
abbrev pub function_names : List (List ℕ)
function_names = codes "main" ∷ codes "sense" ∷ codes "emit" ∷ codes "checkpoint" ∷ []

abbrev pub is_function : List ℕ → Bool
is_function name = list_any (λ f. bytes_eq name f) function_names

-- a name that a variable may have
abbrev pub is_free : List ℕ → Bool
is_free name = not (is_function name)

-- no name stands twice
abbrev pub are_distinct : List (List ℕ) → Bool
are_distinct [] = true
are_distinct (name ∷ names) = not (list_any (λ n. bytes_eq n name) names) && are_distinct names

-- a store of a number up to 32767 to one of these names
abbrev pub is_store_to : List (List ℕ) → Store → Bool
is_store_to names store = list_any (λ n. bytes_eq n store.name) names && nat_le store.value 32767

pub record IsProgram (program : Program) : Type 0 where
  pub few_names : length program.names ≤ 100
  pub few_stores : length program.stores ≤ 200
  pub named : IsTrue (list_all is_free program.names)
  pub distinct : IsTrue (are_distinct program.names)
  pub declared : IsTrue (list_all (is_store_to program.names) program.stores)

-- ---- the parts of a tree, on any lines

-- `int` alone
abbrev pub plain_int : Spec
plain_int = record { before = []; base = base.Int false; after = [] }

-- `int NAME;`
abbrev pub declarator : List ℕ → ℕ → Init
declarator name line = record { declr = record { stars = []; name = name; bounds = [] }; initial = None; line = line }

abbrev pub declaration : List ℕ → ℕ → Declaration
declaration name line = record { spec = plain_int; inits = declarator name line ∷ [] }

pub record IsDeclaration (name : List ℕ) (part : External) : Type 0 where
  pub line : ℕ
  pub is : part ≡ external.Declaration false None (declaration name line)

-- `NAME=NUMBER;`, the number in decimal and in a word
pub record IsStore (store : Store) (part : BlockItem) : Type 0 where
  pub fits : store.value < 65536
  pub place : Expr
  pub number : Expr
  pub line : ℕ
  pub statement_line : ℕ
  pub is : part ≡ item.Statement (record {
    kind = statement.Expr
        (Some (record { kind = expr.Assign place None number; line = line }));
    line = statement_line;
  })
  pub named : place.kind ≡ expr.Name store.name
  pub numbered : number.kind ≡ expr.Number store.value true false

-- `return 0;`
pub record IsReturn (part : BlockItem) : Type 0 where
  pub number : Expr
  pub line : ℕ
  pub is : part ≡ item.Statement (record { kind = statement.Return (Some number); line = line })
  pub zero : number.kind ≡ expr.Number 0 true false

-- `int main(void){..}` with these parts
abbrev pub in_braces : List BlockItem → Compound
in_braces parts = roll-Compound (record { items = parts })

abbrev pub main_function : List BlockItem → ℕ → Function
main_function parts line = record {
  spec = plain_int;
  stars = [];
  name = codes "main";
  params = params.Void true;
  body =
      Some (in_braces parts);
  line = line;
}

pub record IsMain (parts : List BlockItem) (part : External) : Type 0 where
  pub line : ℕ
  pub is : part ≡ external.Function false (main_function parts line)

-- each of one list with the one at its place in the other
pub data Pairs {A B : Type 0} (R : A → B → Type 0) : List A → List B → Type 0 where
  none : Pairs R [] []
  more : {a : A} {b : B} {xs : List A} {ys : List B} → R a b → Pairs R xs ys → Pairs R (a ∷ xs) (b ∷ ys)

-- The tree is this program: a declaration of each name, and then main with each store and `return 0;`.
pub record IsTreeOf (program : Program) (tree : Tree) : Type 0 where
  pub declarations : List External
  pub stores : List BlockItem
  pub ending : BlockItem
  pub main : External
  pub externals : tree.externals ≡ declarations ++ main ∷ []
  pub declared : Pairs IsDeclaration program.names declarations
  pub is_main : IsMain (stores ++ ending ∷ []) main
  pub stored : Pairs IsStore program.stores stores
  pub ends : IsReturn ending

-- ---- sources

-- The text is this program: by the rules of the language, and of the form that is run so far.
pub record IsOfForm (text : List ℕ) (program : Program) : Type 0 where
  pub tree : Tree
  pub typed : Typed
  pub source : IsTyped text tree typed
  pub is : IsTreeOf program tree

-- The text is a program by the rules of the language, and none of the form that is run so far.
pub record IsOutOfForm (text : List ℕ) : Type 0 where
  pub tree : Tree
  pub typed : Typed
  pub source : IsTyped text tree typed
  pub is_none : (program : Program) → IsProgram program → IsTreeOf program tree → ⊥

-- The text has annotations, or it is a program that is not run so far.
abbrev pub IsOther : List ℕ → Type 0
IsOther text = IsAnnotated text ⊎ IsOutOfForm text

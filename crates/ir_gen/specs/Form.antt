-- The form of a program.
use Rattle.std.specs.Prelude.{◌≡◌, ℕ, true, ◌+◌, List, [], ◌∷◌, ◌++◌, map, length, Option, Some, None}
use Rattle.core_tree.specs.declared.program.Core.{Core}
use Rattle.core_tree.specs.declared.program.Function.{Function}
use Rattle.core_tree.specs.declared.program.Global.{Global}
use Rattle.core_tree.specs.declared.program.Initial.{Initial}
use Rattle.core_tree.specs.declared.types.Struct.{Struct}
use Rattle.core_tree.specs.declared.types.Ty.{Ty}
use Rattle.core_tree.specs.declared.types.Slot.{Slot}
use Rattle.core_tree.specs.Layout.{layout, kind_of}
use Rattle.core_tree.specs.Heights.{frame_bytes, local_offset}
use Rattle.core_tree.specs.Data.{global_address, told_address}
use Rattle.c_values.specs.declared.value.Value.{Value}
use Rattle.c_meaning.specs.After.{is_main, main_of, objects_of, initial_value}
use Rattle.c_meaning.specs.Stamps.{slots_of}
use Rattle.ir.specs.declared.form.Ir.{Ir}
use Rattle.ir.specs.declared.form.IrFunction.{IrFunction}
use Rattle.ir.specs.declared.form.IrGlobal.{IrGlobal}
use Rattle.ir.specs.declared.form.IrLocal.{IrLocal}
use Rattle.ir.specs.Machine.{first_kind}
use Rattle.ir_gen.specs.Body.{function_steps}
use Rattle.ir_gen.specs.Built.{stmts}
use Rattle.ir_gen.specs.Locals as locals

-- the objects of a function from a number on
abbrev pub locals_from : List Struct → Function → ℕ → List Ty → List IrLocal
locals_from structs x n [] = []
locals_from structs x n (t ∷ ts) =
    record { offset = local_offset structs x n; scalars = (layout structs t).slots } ∷ locals_from structs x (n + 1) ts

abbrev pub function_of : List Struct → Function → IrFunction
function_of structs x = record {
  frame = frame_bytes structs x;
  params = length x.params;
  locals = locals_from structs x 0 (x.params ++ x.locals);
  steps = function_steps structs (objects_of structs x) (is_main x) (length x.params) x.node x.body;
}

abbrev pub initial_values : List Slot → List Initial → List Value
initial_values [] is = []
initial_values (s ∷ ss) [] = []
initial_values (s ∷ ss) (i ∷ is) = initial_value s.kind i ∷ initial_values ss is

-- the variables from a number on
abbrev pub globals_from : Core → ℕ → List Global → List IrGlobal
globals_from core n [] = []
globals_from core n (g ∷ gs) =
    record {
      address = told_address (global_address core n);
      scalars = slots_of core.structs g;
      init = initial_values (slots_of core.structs g) g.init;
      lifetime = g.lifetime;
    }
    ∷ globals_from core (n + 1) gs

abbrev pub main_or : Option ℕ → ℕ
main_or None = 0
main_or (Some n) = n

-- blocks, which have the tables, are among the annotated statements
abbrev pub form_of : Core → Ir
form_of core = record {
  functions = map (function_of core.structs) core.functions;
  globals = globals_from core 0 core.globals;
  tables = [];
  main = main_or (main_of core);
}

-- ---- the programs of which a form is made

-- the parameters are scalars: each has one, of its kind
abbrev pub AreScalars : List Struct → List Ty → Type 0
AreScalars structs [] = Unit {0}
AreScalars structs (t ∷ ts) = (first_kind (layout structs t).slots ≡ kind_of t) × AreScalars structs ts

abbrev pub AreBuilt : List Struct → List Function → Type 0
AreBuilt structs [] = Unit {0}
AreBuilt structs (x ∷ xs) = AreScalars structs x.params × (stmts x.body ≡ true) × AreBuilt structs xs

-- the locals that a function declares are its own
abbrev pub DeclareTheirOwn : List Function → Type 0
DeclareTheirOwn [] = Unit {0}
DeclareTheirOwn (x ∷ xs) = (locals.stmts (length (x.params ++ x.locals)) x.body ≡ true) × DeclareTheirOwn xs

pub record IsBuilt (core : Core) : Type 0 where
  pub main : main_of core ≡ Some (main_or (main_of core))
  pub functions : AreBuilt core.structs core.functions
  pub locals : DeclareTheirOwn core.functions

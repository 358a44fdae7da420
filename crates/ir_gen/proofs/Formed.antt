-- The form that is made of a program serves it.
use Rattle.std.proofs.Common.{◌≡◌, ℕ, zero, suc, ◌+◌, ◌<◌, List, [], ◌∷◌, ◌++◌, length, map, take, Option, Some, None, true, refl, sym, ap, ◌∙◌, subst, arith, length-append}
use Rattle.std.specs.Prelude.{slice_get}
use Rattle.base16.specs.declared.image.Kind.{Kind}
use Rattle.core_tree.specs.declared.program.Core.{Core}
use Rattle.core_tree.specs.declared.program.Function.{Function}
use Rattle.core_tree.specs.declared.program.Global.{Global}
use Rattle.core_tree.specs.declared.program.Initial.{Initial}
use Rattle.core_tree.specs.declared.types.Struct.{Struct}
use Rattle.core_tree.specs.declared.types.Ty.{Ty}
use Rattle.core_tree.specs.declared.types.Slot.{Slot}
use Rattle.core_tree.specs.Layout.{layout, kind_of}
use Rattle.core_tree.specs.Numbers.{function_numbers}
use Rattle.core_tree.specs.Rules.{is_scalar}
use Rattle.core_tree.specs.LawfulCore.{Every, IsObject, IsFunction, LawfulCore, scope_of, text_of}
use Rattle.c_values.specs.declared.value.Value.TheVariants.{Undefined}
use Rattle.c_values.specs.declared.value.Cell.{Cell}
use Rattle.c_values.specs.declared.state.Object.{Object}
use Rattle.c_meaning.specs.After as after
use Rattle.c_meaning.specs.Stamps.{slots_of, stamps_if}
use Rattle.ir.specs.declared.form.IrFunction.{IrFunction}
use Rattle.ir.specs.declared.form.IrLocal.{IrLocal}
use Rattle.ir.specs.declared.form.Step.{Step}
use Rattle.ir.specs.declared.control.Control.TheVariants.{Calling}
use Rattle.ir.specs.Machine as m
use Rattle.ir.specs.Jumps.{JumpsAhead}
use Rattle.ir.specs.Typed.{IsSingle, HasParameters, AllTyped}
use Rattle.ir.proofs.Once.{steps_once}
use Rattle.ir_gen.specs.Built.{stmts}
use Rattle.ir_gen.specs.Form as f
use Rattle.ir_gen.specs.Locals as locals
use Rattle.ir_gen.specs.Form.{IsBuilt, AreBuilt, AreScalars, DeclareTheirOwn, form_of, function_of, locals_from, globals_from}
use Rattle.ir_gen.specs.Names.{AllNamed}
use Rattle.ir_gen.specs.Shapes.{HasShape, HaveShapes}
use Rattle.ir_gen.specs.Serves.{Serves, ServesFunction}
use Rattle.ir_gen.proofs.Calls.{Made, stands_self}
use Rattle.ir_gen.proofs.Order.{function_ordered}
use Rattle.ir_gen.proofs.StmtRows.{function_fits}
use Rattle.ir_gen.proofs.StmtDepths.{fits_frame, jumps_inside}
use Rattle.ir_gen.proofs.Owning.{owned_at, function_owned}
use Rattle.ir_gen.proofs.LawfulStatements.{scalar_slots}
use Rattle.ir_gen.proofs.Shaping.{HasScope}
use Rattle.ir_gen.proofs.Shapes.{shaped_names, shaped_typed}
use Rattle.ir_gen.proofs.StmtShaping.{function_shaped}
use Rattle.ir_gen.proofs.Shortness.{short, program_cost}
use Rattle.ir_gen.proofs.Served.{FormOf, same_states, same_stop}

abbrev slots_in : IrLocal → List Slot
slots_in l = l.scalars

all_slots : (structs : List Struct) (x : Function) (n : ℕ) (ts : List Ty) → map slots_in (locals_from structs x n ts)
    ≡ map (λ t. (layout structs t).slots) ts
all_slots structs x n [] = refl
all_slots structs x n (t ∷ ts) = ap (λ l. (layout structs t).slots ∷ l) (all_slots structs x (n + 1) ts)

abbrev kind_first : IrLocal → Kind
kind_first l = m.first_kind l.scalars

all_kinds : (structs : List Struct) (x : Function) (n : ℕ) (ps ls : List Ty) → AreScalars structs ps
    → map kind_first (take (length ps) (locals_from structs x n (ps ++ ls))) ≡ map kind_of ps
all_kinds structs x n [] ls h = refl
all_kinds structs x n (t ∷ ps) ls h =
    ap (λ k. k ∷ map kind_first (take (length ps) (locals_from structs x (n + 1) (ps ++ ls)))) h.0
    ∙ ap (λ l. kind_of t ∷ l) (all_kinds structs x (n + 1) ps ls h.1)

many_objects : (structs : List Struct) (ts : List Ty) → length ts ≡ length (map (λ t. (layout structs t).slots) ts)
many_objects structs [] = refl
many_objects structs (t ∷ ts) = ap suc (many_objects structs ts)

made_of : (core : Core) (x : Function) → AreScalars core.structs x.params → stmts x.body ≡ true
    → locals.stmts (length (x.params ++ x.locals)) x.body ≡ true → Made core x (function_of core.structs x)
made_of core x h fine ours = record {
  frame = refl;
  slots = all_slots core.structs x 0 (x.params ++ x.locals);
  kinds = all_kinds core.structs x 0 x.params x.locals h;
  steps = refl;
  built = fine;
  locals = subst (λ n. locals.stmts n x.body ≡ true) (many_objects core.structs (x.params ++ x.locals)) ours;
}

every_of : (P : ℕ → Type 0) (xs : List ℕ) → ((i n : ℕ) → slice_get xs i ≡ Some n → P n) → Every P xs
every_of P [] h = tt
every_of P (x ∷ xs) h = (h 0 x refl, every_of P xs (λ i n e. h (suc i) n e))

abbrev IsNode : Function → ℕ → Type 0
IsNode x n = (i : ℕ) × (slice_get (function_numbers x) i ≡ Some n)

serves_of : (core : Core) (x : Function) → ServesFunction core x (function_of core.structs x)
serves_of core x = record {
  frame = refl;
  params = refl;
  locals = refl;
  nodes = λ p s e. owned_at (IsNode x) p (function_of core.structs x).steps s
      (function_owned (IsNode x) core.structs (after.objects_of core.structs x) (after.is_main x) (length x.params) x
      (every_of (IsNode x) (function_numbers x) (λ i n is. (i, is)))) e;
  fits = record {
    bytes = λ w. (function_fits w core.structs (after.objects_of core.structs x) (after.is_main x) x).bytes_in;
    helpers = λ w. (function_fits w core.structs (after.objects_of core.structs x) (after.is_main x) x).helped_in;
  };
  depths = fits_frame core.structs (after.objects_of core.structs x) (after.is_main x) x;
  jumps = jumps_inside core.structs (after.objects_of core.structs x) (after.is_main x) x;
}

function_in : (structs : List Struct) (xs : List Function) (n : ℕ) (x : Function) → slice_get xs n ≡ Some x
    → slice_get (map (function_of structs) xs) n ≡ Some (function_of structs x)
function_in structs [] n x e = absurd (grind (arith, e))
function_in structs (y ∷ xs) zero x e = ap (λ z. Some (function_of structs z)) (ap (or_this y) e)
  where
    or_this : Function → Option Function → Function
    or_this d None = d
    or_this d (Some z) = z
function_in structs (y ∷ xs) (suc n) x e = function_in structs xs n x e

all_made : (core : Core) (xs : List Function) → AreBuilt core.structs xs → DeclareTheirOwn xs → (n : ℕ) (x : Function)
    → slice_get xs n ≡ Some x → Made core x (function_of core.structs x)
all_made core [] h own n x e = absurd (grind (arith, e))
all_made core (y ∷ xs) h own zero x e =
    let same : y ≡ x = ap (or_this y) e in
    made_of core x (subst (λ z. AreScalars core.structs z.params) same h.0) (subst (λ z. stmts z.body ≡ true) same h.1)
    (subst (λ z. locals.stmts (length (z.params ++ z.locals)) z.body ≡ true) same own.0)
  where
    or_this : Function → Option Function → Function
    or_this d None = d
    or_this d (Some z) = z
all_made core (y ∷ xs) h own (suc n) x e = all_made core xs h.2 own.1 n x e

ordered_in : (structs : List Struct) (xs : List Function) (n p : ℕ) (fn : IrFunction) (s : Step)
    → slice_get (map (function_of structs) xs) n ≡ Some fn → slice_get fn.steps p ≡ Some s → JumpsAhead fn p s.kind
ordered_in structs [] n p fn s e g = absurd (grind (arith, e))
ordered_in structs (y ∷ xs) zero p fn s e g =
    let same : fn ≡ function_of structs y = sym (ap (or_this fn) e) in
    function_ordered structs (after.objects_of structs y) (after.is_main y) (length y.params) y.node y.body fn
    (ap (λ (z : IrFunction). z.steps) same) (stands_self fn.steps) p s g
  where
    or_this : IrFunction → Option IrFunction → IrFunction
    or_this d None = d
    or_this d (Some z) = z
ordered_in structs (y ∷ xs) (suc n) p fn s e g = ordered_in structs xs n p fn s e g

no_values : (ss : List Slot) → m.initial_cells ss [] ≡ after.initial_cells ss []
no_values [] = refl
no_values (t ∷ ts) = ap (λ (l : List Cell). record { offset = t.offset; kind = t.kind; value = Undefined } ∷ l) (no_values ts)

same_cells : (ss : List Slot) (is : List Initial) → m.initial_cells ss (f.initial_values ss is) ≡ after.initial_cells ss is
same_cells [] is = refl
same_cells (s ∷ ss) [] = ap (λ (l : List Cell). record { offset = s.offset; kind = s.kind; value = Undefined } ∷ l)
    (no_values ss)
same_cells (s ∷ ss) (i ∷ is) = ap (λ (l : List Cell). record
    { offset = s.offset; kind = s.kind; value = after.initial_value s.kind i } ∷ l) (same_cells ss is)

same_objects : (core : Core) (n k : ℕ) (gs : List Global) → m.initial_objects n (globals_from core k gs)
    ≡ after.initial_objects core.structs n gs
same_objects core n k [] = refl
same_objects core n k (g ∷ gs) =
    ap (λ cs. record { number = n; cells = cs } ∷ m.initial_objects (n + 1) (globals_from core (k + 1) gs))
    (same_cells (slots_of core.structs g) g.init)
    ∙ ap (λ l. record { number = n; cells = after.initial_cells (slots_of core.structs g) g.init } ∷ l)
    (same_objects core (n + 1) (k + 1) gs)

same_none : (n : ℕ) → m.no_stamps n ≡ after.no_stamps n
same_none zero = refl
same_none (suc n) = ap (λ (l : List (Option ℕ)). None ∷ l) (same_none n)

same_count : (structs : List Struct) (g : Global) (o : Option ℕ) → m.stamps_if (slots_of structs g) o ≡ stamps_if structs g o
same_count structs g None = refl
same_count structs g (Some t) = refl

same_stamps : (core : Core) (k : ℕ) (gs : List Global) → m.initial_stamps (globals_from core k gs)
    ≡ after.initial_stamps core.structs gs
same_stamps core k [] = refl
same_stamps core k (g ∷ gs) =
    let rest = m.initial_stamps (globals_from core (k + 1) gs) in
    ap (λ n. m.no_stamps n ++ rest) (same_count core.structs g g.lifetime)
    ∙ (ap (λ l. l ++ rest) (same_none (stamps_if core.structs g g.lifetime))
    ∙ ap (λ l. after.no_stamps (stamps_if core.structs g g.lifetime) ++ l) (same_stamps core (k + 1) gs))

same_many : (core : Core) (k : ℕ) (gs : List Global) → length (globals_from core k gs) ≡ length gs
same_many core k [] = refl
same_many core k (g ∷ gs) = ap suc (same_many core (k + 1) gs)

same_start : (core : Core) → m.start (form_of core) ≡ after.start core
unfolding m.start after.start
same_start core =
    ap (λ (os : List Object). record {
      globals = os;
      calls = [];
      stamps
          = m.initial_stamps (globals_from core 0 core.globals);
      outputs = [];
      block = None;
      marks = 0;
    })
    (same_objects core 0 0 core.globals)
    ∙ ap (λ (l : List (Option ℕ)). record {
      globals = after.initial_objects core.structs 0 core.globals;
      calls = [];
      stamps
          = l;
      outputs = [];
      block = None;
      marks = 0;
    }) (same_stamps core 0 core.globals)

form_is : (core : Core) → IsBuilt core → FormOf core (form_of core)
form_is core h = record {
  functions = λ n x e. (
    function_of core.structs x,
    function_in core.structs core.functions n x e,
    all_made core core.functions
        h.functions h.locals n x e,
  );
  main = h.main;
  start = same_start core;
  objects = same_many core 0 core.globals;
  ordered = λ n p fn s e g. ordered_in core.structs core.functions n p fn s e g;
}

-- ---- what the steps name, and their types

within : {A : Type 0} (xs : List A) (n : ℕ) (x : A) → slice_get xs n ≡ Some x → n < length xs
within [] n x e = absurd (grind (arith, e))
within (y ∷ xs) zero x e = omega arith
within (y ∷ xs) (suc n) x e = omega (arith, within xs n x e)

every_at : {A : Type 0} (P : A → Type 0) (xs : List A) (n : ℕ) (x : A) → Every P xs → slice_get xs n ≡ Some x → P x
every_at P [] n x h e = absurd (grind (arith, e))
every_at {A} P (y ∷ xs) zero x h e = let same : y ≡ x = ap or_this e in subst P same h.0
  where
    or_this : Option A → A
    or_this None = y
    or_this (Some z) = z
every_at P (y ∷ xs) (suc n) x h e = every_at P xs n x h.1 e

locals_many : (structs : List Struct) (x : Function) (n : ℕ) (ts : List Ty) → length (locals_from structs x n ts) ≡ length ts
locals_many structs x n [] = refl
locals_many structs x n (t ∷ ts) = ap suc (locals_many structs x (n + 1) ts)

functions_many : (structs : List Struct) (xs : List Function) → length (map (function_of structs) xs) ≡ length xs
functions_many structs [] = refl
functions_many structs (x ∷ xs) = ap suc (functions_many structs xs)

has_scope : (core : Core) (x : Function) → HasScope (form_of core) (function_of core.structs x) (scope_of core true x)
has_scope core x = record {
  objects = λ n t e.
      omega (arith, within (x.params ++ x.locals) n t e, locals_many core.structs x 0 (x.params ++ x.locals));
  globals = λ n g e. omega (arith, within core.globals n g e, same_many core 0 core.globals);
  functions = λ n g e. (function_of core.structs g, function_in core.structs core.functions n g e, refl);
}

params_single : (core : Core) (x : Function) (n : ℕ) (ps ls : List Ty)
    → Every (λ t. (is_scalar t ≡ true) × IsObject core t) ps
    → Every IsSingle (take (length ps) (locals_from core.structs x n (ps ++ ls)))
params_single core x n [] ls h = tt
params_single core x n (t ∷ ps) ls h =
    ((kind_of t, scalar_slots core.structs t h.0.0), params_single core x (n + 1) ps ls h.1)

has_parameters : (core : Core) (x : Function) → Every (λ t. (is_scalar t ≡ true) × IsObject core t) x.params
    → HasParameters (function_of core.structs x) (length x.params)
has_parameters core x h = record {
  count = refl;
  among = omega (arith, locals_many core.structs x 0 (x.params ++ x.locals), length-append x.params x.locals);
  single = params_single core x 0 x.params x.locals h;
}

function_shapes : (core : Core) → LawfulCore core → (n : ℕ) (x : Function) → slice_get core.functions n ≡ Some x
    → HaveShapes (form_of core) (function_of core.structs x) (function_of core.structs x).steps
function_shapes core h n x e =
    let own = every_at (IsFunction core true) core.functions n x h.functions e in
    function_shaped (form_of core) (function_of core.structs x) core.structs (after.objects_of core.structs x)
    (after.is_main x) (text_of core true x) (length x.params) x.node x.body (has_parameters core x own.params) own.body
    (has_scope core x)

function_names : (core : Core) → LawfulCore core → (n : ℕ) (x : Function) → slice_get core.functions n ≡ Some x
    → AllNamed (form_of core) (function_of core.structs x)
function_names core h n x e = λ p s at_p.
    shaped_names (form_of core) (function_of core.structs x) s.kind
    (every_at (λ (s : Step). HasShape (form_of core) (function_of core.structs x) s.kind) (function_of core.structs x).steps p s
    (function_shapes core h n x e) at_p)

-- a function of the form is made of the one of the program in its place
module _ (core : Core) (n : ℕ) (x : Function) (fn : IrFunction) (e : slice_get core.functions n ≡ Some x)
    (g : slice_get (form_of core).functions n ≡ Some fn) where
  made_so : function_of core.structs x ≡ fn
  made_so = ap or_that (sym (function_in core.structs core.functions n x e) ∙ g)
    where
      or_that : Option IrFunction → IrFunction
      or_that None = fn
      or_that (Some z) = z

  names_of : LawfulCore core → AllNamed (form_of core) fn
  names_of h = subst (λ (z : IrFunction). AllNamed (form_of core) z) made_so (function_names core h n x e)

  types_of : LawfulCore core → AllTyped fn
  types_of h = subst (λ (z : IrFunction). AllTyped z) made_so
      (shaped_typed (form_of core) (function_of core.structs x) (function_of core.structs x).steps
      (function_shapes core h n x e))

-- the form that is made of a program serves it
pub form_serves : (core : Core) → IsBuilt core → Serves core (form_of core)
form_serves core h =
    let form = form_is core h in
    record {
      same = same_states core (form_of core) form;
      stops = same_stop core (form_of core) form;
      functions = λ n x e. (function_of core.structs x, function_in core.structs core.functions n x e, serves_of core x);
      many = functions_many core.structs core.functions;
      main = h.main;
      names = λ lawful n x fn e g. names_of core n x fn e g lawful;
      types = λ lawful plain n x fn e g. types_of core n x fn e g lawful;
      tables = λ plain. refl;
      globals = refl;
      once = λ rs. steps_once (form_of core) rs form.ordered;
      short = λ lawful rs c r q made other reach.
          let apart = steps_once (form_of core) rs form.ordered r c q made reach in
          let near = short (form_of core) rs (Calling (form_of core).main 0 [] []) c r q made reach apart in
          omega (arith, near, program_cost core lawful (form_of core) refl (function_names core lawful) other);
    }

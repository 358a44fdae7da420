-- A program with its nodes numbered.
use Rattle.std.proofs.Common.{◌≡◌, ℕ, zero, suc, ◌+◌, ◌≤◌, ◌<◌, false, List, [], ◌∷◌, map, length, slice_get, Some, refl, sym, ap, subst, arith, rules}
use Rattle.core_tree.specs.declared.types.Ty.{Ty, out-Ty}
use Rattle.core_tree.specs.declared.types.Ty.TheOpen.{Ty-F}
use Rattle.core_tree.specs.declared.types.Struct.{Struct}
use Rattle.core_tree.specs.declared.program.Core.{Core}
use Rattle.core_tree.specs.declared.program.Global.{Global}
use Rattle.core_tree.specs.declared.program.Function.{Function}
use Rattle.core_tree.specs.declared.program.Initial.{Initial}
use Rattle.core_tree.specs.declared.program.Initial.TheVariants as initial
use Rattle.core_tree.specs.LawfulCore.{Every, Apart, IsInitial, AreInitials, AreGlobals, AreStructs, result_layer, IsFunction, IsMain, IsBetween, file_names}
use Rattle.core_tree.specs.Layout.{size_of}
use Rattle.core_tree.specs.Numbers.{function_numbers, core_numbers}
use Rattle.core_tree.specs.Reaching.{joined}
use Rattle.c_checking.specs.Numbering.{function_numbered, functions_numbered, global_numbered, numbered}
use Rattle.c_numbering_laws.specs.Counted.{ProgramCounts}
use Rattle.c_numbering_laws.specs.Whole.{NumberedIsLawful}
use Rattle.c_numbering_laws.proofs.Statements.{stmts_stay}
use Rattle.c_numbering_laws.proofs.Starts.{laid, functions_count, start, start_to, whole_before, rises_on}

-- ---- the numbers

pub program_counts : (core : Core) → ProgramCounts core
unfolding numbered core_numbers
program_counts core = (functions_count core.functions 0).counted

within : (core : Core) (i : ℕ) → start core.functions 0 i ≤ length (core_numbers (numbered core))
unfolding numbered core_numbers
within core i =
    let e : (laid core.functions 0).1 ≡ 0 + length (joined (map function_numbers (laid core.functions 0).0)) =
    (functions_count core.functions 0).length in
    let h : start core.functions 0 i ≤ (laid core.functions 0).1 = start_to core.functions 0 i in omega arith

between_in : (core : Core) (gs : List Global)
    → Every (IsBetween (numbered core)) (map (global_numbered (functions_numbered core.functions)) gs)
unfolding numbered
between_in core [] = tt
between_in core (g ∷ gs) = (
  record {
    whole = λ f n is h. whole_before core.functions 0 n g.before f is h;
    within = within core g.before;
  },
  between_in core gs,
)

-- ---- the names

function_names : (fs : List Function) (m : ℕ)
    → map (λ (f : Function). f.name) (laid fs m).0 ≡ map (λ (f : Function). f.name) fs
function_names [] m = refl
function_names (f ∷ fs) m = ap (λ names. f.name ∷ names) (function_names fs (function_numbered f m).1)

global_names : (p : List Function × ℕ) (gs : List Global)
    → map (λ (g : Global). g.name) (map (global_numbered p) gs) ≡ map (λ (g : Global). g.name) gs
global_names p [] = refl
global_names p (g ∷ gs) = ap (λ names. g.name ∷ names) (global_names p gs)

many_functions : (fs : List Function) (m : ℕ) → length (laid fs m).0 ≡ length fs
many_functions [] m = refl
many_functions (f ∷ fs) m = let e = many_functions fs (function_numbered f m).1 in omega (arith, e)

names_in : (core : Core) → file_names (numbered core) ≡ file_names core
unfolding numbered
names_in core =
    rw (global_names (functions_numbered core.functions) core.globals, function_names core.functions 0) refl

-- ---- structs

structs_in : (core : Core) (n : ℕ) (ss : List Struct) → AreStructs core n ss → AreStructs (numbered core) n ss
unfolding numbered
structs_in core n [] are = tt
structs_in core n (s ∷ ss) are =
    (record { members = are.0.members; some = are.0.some; names = are.0.names }, structs_in core (n + 1) ss are.1)

-- ---- variables

global_back : (p : List Function × ℕ) (gs : List Global) (n : ℕ) (h : Global)
    → slice_get (map (global_numbered p) gs) n ≡ Some h → (g : Global) × (slice_get gs n ≡ Some g) × (h.ty ≡ g.ty)
global_back p [] n h is = absurd (search rules)
global_back p (x ∷ gs) zero h is =
    let e : global_numbered p x ≡ h = cc in (x, refl, sym (ap (λ (y : Global). y.ty) e))
global_back p (x ∷ gs) (suc n) h is = global_back p gs n h is

address_in : (core : Core) (n offset : ℕ)
    → ((g : Global) → slice_get core.globals n ≡ Some g → offset < size_of core.structs g.ty)
    → (h : Global) → slice_get (numbered core).globals n ≡ Some h → offset < size_of (numbered core).structs h.ty
unfolding numbered
address_in core n offset small h is =
    let g = global_back (functions_numbered core.functions) core.globals n h is in
    subst (λ t. offset < size_of core.structs t) (sym g.2) (small g.0 g.1)

initial_in : (core : Core) (own : ℕ) (l : Ty-F Ty) (i : Initial) → IsInitial core own l i → IsInitial (numbered core) own l i
initial_in core own (Ty-F.Num t) (initial.Int n) is = is
initial_in core own (Ty-F.Pointer to readonly) (initial.Int n) is = is
initial_in core own (Ty-F.Pointer to readonly) (initial.Address n offset) is = (is.0, address_in core n offset is.1)
initial_in core own l i is = absurd is

initials_in : (core : Core) (own : ℕ) (ts : List Ty) (is : List Initial) → AreInitials core own ts is
    → AreInitials (numbered core) own ts is
initials_in core own [] [] are = tt
initials_in core own [] (i ∷ is) are = absurd are
initials_in core own (t ∷ ts) [] are = absurd are
initials_in core own (t ∷ ts) (i ∷ is) are = (initial_in core own (out-Ty t) i are.0, initials_in core own ts is are.1)

globals_in : (core : Core) (n : ℕ) (gs : List Global) → AreGlobals core false n gs
    → AreGlobals (numbered core) false n (map (global_numbered (functions_numbered core.functions)) gs)
unfolding numbered
globals_in core n [] are = tt
globals_in core n (g ∷ gs) are = (
  record {
    object = are.0.object;
    small = are.0.small;
    init = initials_in core n _ g.init are.0.init;
    timed = are.0.timed;
    lifetime = are.0.lifetime;
  },
  globals_in core (n + 1) gs are.1,
)

-- ---- functions

result_in : (core : Core) (t : Ty) (l : Ty-F Ty) → result_layer core t l → result_layer (numbered core) t l
unfolding numbered
result_in core t Ty-F.Void is = is
result_in core t l is = is

function_in : (core : Core) (f : Function) (m : ℕ) → IsFunction core false f
    → IsFunction (numbered core) false (function_numbered f m).0
unfolding numbered
function_in core f m is = record {
  params = is.params;
  locals = is.locals;
  result = result_in core f.result (out-Ty f.result) is.result;
  body = stmts_stay is.body refl (m + 1);
}

functions_in : (core : Core) (fs : List Function) (m : ℕ) → Every (IsFunction core false) fs
    → Every (IsFunction (numbered core) false) (laid fs m).0
functions_in core [] m are = tt
functions_in core (f ∷ fs) m are = (function_in core f m are.0, functions_in core fs (function_numbered f m).1 are.1)

main_in : (fs : List Function) (m n : ℕ) (f : Function) → slice_get fs n ≡ Some f → IsMain f
    → (g : Function) × ((slice_get (laid fs m).0 n ≡ Some g) × IsMain g)
main_in [] m n f is main = absurd (search rules)
main_in (x ∷ fs) m zero f is main =
    let e : x ≡ f = cc in
    let own : IsMain x = subst IsMain (sym e) main in ((function_numbered x m).0, (refl, (own.0, own.1, own.2)))
main_in (x ∷ fs) m (suc n) f is main = main_in fs (function_numbered x m).1 n f is main

-- ---- the whole

pub numbered_lawful : (core : Core) → NumberedIsLawful core
unfolding numbered
numbered_lawful core is = record {
  few_structs = is.few_structs;
  few_functions =
      let e : length (laid core.functions 0).0 ≡ length core.functions = many_functions core.functions 0 in
      let h : length core.functions ≤ 20000 = is.few_functions in omega arith;
  tags = is.tags;
  names = subst (λ names. Apart names) (sym (names_in core)) is.names;
  structs = structs_in core 0 core.structs is.structs;
  globals = globals_in core 0 core.globals is.globals;
  functions = functions_in core core.functions 0 is.functions;
  main = (is.main.0, main_in core.functions 0 is.main.0 is.main.1.0 is.main.1.1.0 is.main.1.1.1);
  numbers = program_counts core;
  order = rises_on core.functions core.globals 0 0 (omega arith) is.order;
  between = between_in core core.globals;
}

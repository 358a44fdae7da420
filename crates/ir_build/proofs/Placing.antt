-- The parameters and locals of a function, and the variables of a program, one after the other.
use Rattle.std.proofs.Common.{◌≡◌, ℕ, zero, suc, ◌+◌, ◌<◌, ◌≤◌, min, List, [], ◌∷◌, ◌++◌, length, get_or, drop, take, map}
use Rattle.std.proofs.Common.{slice_get, Some, refl, ap, sym, ◌∙◌, arith, append_assoc, length-append, add-one}
use Rattle.std.proofs.lemmas.List.{append-nil, map-append, length-map}
use Rattle.std.proofs.lemmas.Grind.{common_steps}
use Rattle.core_tree.specs.declared.types.Ty.{Ty}
use Rattle.core_tree.specs.declared.types.Slot.{Slot}
use Rattle.core_tree.specs.declared.types.Struct.{Struct}
use Rattle.core_tree.specs.declared.program.Core.{Core}
use Rattle.core_tree.specs.declared.program.Function.{Function}
use Rattle.core_tree.specs.declared.program.Global.{Global}
use Rattle.core_tree.specs.declared.program.Initial.{Initial}
use Rattle.core_tree.specs.Layout.{Layout, layout, aligned, nothing, start_of, with_member, with_members}
use Rattle.core_tree.specs.Heights.{local_offset, object_layouts, frame_bytes, told_frame, of_function, capped}
use Rattle.core_tree.specs.Data.{global_address, told_address}
use Rattle.base16.specs.Board.{data_start}
use Rattle.core_layout.specs.Laid.{layout_of}
use Rattle.core_layout.specs.declared.layouts.Laid.{Laid}
use Rattle.c_values.specs.declared.value.Value.{Value}
use Rattle.c_meaning.specs.After.{is_main, objects_of, initial_value}
use Rattle.ir.specs.declared.form.IrGlobal.{IrGlobal}
use Rattle.ir.specs.declared.form.IrLocal.{IrLocal}
use Rattle.ir.specs.declared.form.IrFunction.{IrFunction}
use Rattle.ir.specs.declared.form.Step.{Step}
use Rattle.ir_gen.specs.Body.{function_steps}
use Rattle.ir_gen.specs.Form.{locals_from, globals_from, function_of, initial_values}
use Rattle.ir_build.proofs.CodeSizes.{next_is}
use Rattle.ir_build.specs.Laying.{slots_in, placed_from, variable_at, variables_from}

-- ---- rows of layouts

members_last : (base : Layout) (row : List Layout) (m : Layout)
    → with_members base (row ++ m ∷ []) ≡ with_member (with_members base row) m
members_last base [] m = refl
members_last base (l ∷ ls) m = members_last (with_member base l) ls m

read_at : (row more : List Layout) (m d : Layout) → get_or (row ++ m ∷ more) (length row) d ≡ m
read_at [] more m d = refl
read_at (l ∷ ls) more m d = read_at ls more m d

front_of : (row more : List Layout) → take (length row) (row ++ more) ≡ row
front_of [] more = refl
front_of (l ∷ ls) more = ap (λ (xs : List Layout). l ∷ xs) (front_of ls more)

start_at : (row more : List Layout) (m : Layout)
    → start_of (row ++ m ∷ more) (length row) ≡ aligned m.even (with_members nothing row).size
start_at row more m =
    ap (λ (l : Layout). aligned l.even (with_members nothing (take (length row) (row ++ m ∷ more))).size)
    (read_at row more m nothing)
    ∙ ap (λ (ls : List Layout). aligned m.even (with_members nothing ls).size) (front_of row (m ∷ more))

module _ {A : Type 0} (f : A → Layout) where
  start_in : (before after : List A) (t : A)
      → start_of (map f (before ++ t ∷ after)) (length before) ≡ aligned (f t).even (with_members nothing (map f before)).size
  start_in before after t =
      ap (λ (row : List Layout). start_of row (length before)) (map-append f before (t ∷ after))
      ∙ (ap (λ (n : ℕ). start_of (map f before ++ f t ∷ map f after) n) (sym (length-map before f))
      ∙ start_at (map f before) (map f after) (f t))

  bytes_in : (before : List A) (t : A)
      → (with_members nothing (map f (before ++ t ∷ []))).size
      ≡ aligned (f t).even (with_members nothing (map f before)).size + (f t).size
  bytes_in before t =
      ap (λ (row : List Layout). (with_members nothing row).size) (map-append f before (t ∷ []))
      ∙ ap (λ (l : Layout). l.size) (members_last nothing (map f before) (f t))

-- ---- parameters and locals

module _ (S : List Struct) (x : Function) where
  locals_behind : (before after : List Ty) → x.params ++ x.locals ≡ before ++ after
      → locals_from S x (length before) after
      ≡ placed_from (with_members nothing (map (layout S) before)).size (map (layout S) after)
  locals_behind before [] e = refl
  locals_behind before (t ∷ ts) e =
      let bytes = (with_members nothing (map (layout S) before)).size in
      let start : local_offset S x (length before) ≡ aligned (layout S t).even bytes =
      ap (λ (all : List Ty). start_of (map (layout S) all) (length before)) e ∙ start_in (layout S) before ts t in
      let more : locals_from S x (length (before ++ t ∷ [])) ts
      ≡ placed_from (with_members nothing (map (layout S) (before ++ t ∷ []))).size (map (layout S) ts) =
      locals_behind (before ++ t ∷ []) ts (e ∙ sym (append_assoc before (t ∷ []) ts)) in
      let rest : locals_from S x (length before + 1) ts
      ≡ placed_from (aligned (layout S t).even bytes + (layout S t).size) (map (layout S) ts) =
      ap (λ (n : ℕ). locals_from S x n ts) (sym (length-append before (t ∷ [])))
      ∙ (more ∙ ap (λ (n : ℕ). placed_from n (map (layout S) ts)) (bytes_in (layout S) before t)) in
      ap (λ (o : ℕ). record { offset = o; scalars = (layout S t).slots } ∷ locals_from S x (length before + 1) ts) start
      ∙ ap (λ (ls : List IrLocal). record { offset = aligned (layout S t).even bytes; scalars = (layout S t).slots } ∷ ls) rest

  pub locals_are : locals_from S x 0 (x.params ++ x.locals) ≡ placed_from 0 (object_layouts S x)
  locals_are = locals_behind [] (x.params ++ x.locals) refl

slots_of_row : (S : List Struct) (ts : List Ty) → map (λ t. (layout S t).slots) ts ≡ slots_in (map (layout S) ts)
slots_of_row S [] = refl
slots_of_row S (t ∷ ts) = ap (λ (ss : List (List Slot)). (layout S t).slots ∷ ss) (slots_of_row S ts)

pub objects_are : (S : List Struct) (x : Function) → objects_of S x ≡ slots_in (object_layouts S x)
objects_are S x = slots_of_row S (x.params ++ x.locals)

pub rows_are : (S : List Struct) (x : Function)
    → object_layouts S x ≡ map (layout S) x.params ++ map (layout S) x.locals
rows_are S x = map-append (layout S) x.params x.locals

pub laid_turn : (S : List Struct) (all : List Ty) (i : ℕ) (t : Ty) → i < length all → t ≡ get_or all i t
    → map (layout S) (drop i all) ≡ layout S t ∷ map (layout S) (drop (i + 1) all)
laid_turn S all i t h here = ap (λ (ts : List Ty). map (layout S) ts) (next_is all i t h here)

pub slots_turn : (all : List Laid) (i : ℕ) (l : Laid) → i < length all → l ≡ get_or all i l
    → slots_in (map layout_of (drop i all)) ≡ l.slots ∷ slots_in (map layout_of (drop (i + 1) all))
slots_turn all i l h here = ap (λ (ls : List Laid). slots_in (map layout_of ls)) (next_is all i l h here)

pub placed_turn : (bytes : ℕ) (all : List Laid) (i : ℕ) (l : Laid) → i < length all → l ≡ get_or all i l
    → placed_from bytes (map layout_of (drop i all))
    ≡ record { offset = aligned l.even bytes; scalars = l.slots }
    ∷ placed_from (aligned l.even bytes + l.size) (map layout_of (drop (i + 1) all))
placed_turn bytes all i l h here = ap (λ (ls : List Laid). placed_from bytes (map layout_of ls)) (next_is all i l h here)

pub functions_turn : (S : List Struct) (all : List Function) (i : ℕ) (x : Function) → i < length all → x ≡ get_or all i x
    → map (function_of S) (drop i all) ≡ function_of S x ∷ map (function_of S) (drop (i + 1) all)
functions_turn S all i x h here = ap (λ (fs : List Function). map (function_of S) fs) (next_is all i x h here)

pub frame_told : (core : Core) (n : ℕ) (x : Function) → slice_get core.functions n ≡ Some x
    → told_frame core n ≡ capped (frame_bytes core.structs x)
unfolding told_frame
frame_told core n x e = ap (of_function (frame_bytes core.structs)) e

-- ---- variables

address : (core : Core) (before after : List Global) (g : Global) → core.globals ≡ before ++ g ∷ after
    → global_address core (length before)
    ≡ data_start + aligned (layout core.structs g.ty).even
    (with_members nothing (map (λ (g : Global). layout core.structs g.ty) before)).size
unfolding global_address
address core before after g e =
    ap (λ (all : List Global). data_start + start_of (map (λ (g : Global). layout core.structs g.ty) all) (length before)) e
    ∙ ap (λ (n : ℕ). data_start + n) (start_in (λ (g : Global). layout core.structs g.ty) before after g)

abbrev with_address : List Struct → ℕ → Global → IrGlobal
with_address structs a g = record {
  address = told_address a;
  scalars = (layout structs g.ty).slots;
  init = initial_values (layout structs g.ty).slots g.init;
  lifetime = g.lifetime;
}

module _ (core : Core) where
  globals_behind : (before after : List Global) → core.globals ≡ before ++ after
      → globals_from core (length before) after
      ≡ variables_from core.structs (with_members nothing (map (λ (g : Global). layout core.structs g.ty) before)).size after
  globals_behind before [] e = refl
  globals_behind before (g ∷ gs) e =
      let S = core.structs in
      let bytes = (with_members nothing (map (λ (g : Global). layout S g.ty) before)).size in
      let start : global_address core (length before) ≡ data_start + aligned (layout S g.ty).even bytes =
      address core before gs g e in
      let more : globals_from core (length (before ++ g ∷ [])) gs
      ≡ variables_from S (with_members nothing (map (λ (g : Global). layout S g.ty) (before ++ g ∷ []))).size gs =
      globals_behind (before ++ g ∷ []) gs (e ∙ sym (append_assoc before (g ∷ []) gs)) in
      let rest : globals_from core (length before + 1) gs
      ≡ variables_from S (aligned (layout S g.ty).even bytes + (layout S g.ty).size) gs =
      ap (λ (n : ℕ). globals_from core n gs) (sym (length-append before (g ∷ [])))
      ∙ (more ∙ ap (λ (n : ℕ). variables_from S n gs) (bytes_in (λ (g : Global). layout S g.ty) before g)) in
      ap (λ (a : ℕ). with_address S a g ∷ globals_from core (length before + 1) gs) start
      ∙ ap (λ (ls : List IrGlobal). variable_at S (aligned (layout S g.ty).even bytes) g ∷ ls) rest

  pub globals_are : globals_from core 0 core.globals ≡ variables_from core.structs 0 core.globals
  globals_are = globals_behind [] core.globals refl

pub variables_turn : (S : List Struct) (bytes : ℕ) (all : List Global) (i : ℕ) (g : Global) → i < length all → g ≡ get_or all i g
    → variables_from S bytes (drop i all)
    ≡ variable_at S (aligned (layout S g.ty).even bytes) g
    ∷ variables_from S (aligned (layout S g.ty).even bytes + (layout S g.ty).size) (drop (i + 1) all)
variables_turn S bytes all i g h here = ap (λ (gs : List Global). variables_from S bytes gs) (next_is all i g h here)

values_next : (ss : List Slot) (is : List Initial) (i : ℕ) (s : Slot) (j : Initial) → i < length ss → i < length is
    → initial_values (drop i ss) (drop i is)
    ≡ initial_value (get_or ss i s).kind (get_or is i j) ∷ initial_values (drop (suc i) ss) (drop (suc i) is)
values_next [] is i s j h g = absurd (omega arith)
values_next (x ∷ xs) [] i s j h g = absurd (omega arith)
values_next (x ∷ xs) (y ∷ ys) zero s j h g = refl
values_next (x ∷ xs) (y ∷ ys) (suc i) s j h g = values_next xs ys i s j (omega arith) (omega arith)

pub values_turn : (ss : List Slot) (is : List Initial) (i : ℕ) (s : Slot) (j : Initial) → i < length ss → i < length is
    → initial_values (drop i ss) (drop i is)
    ≡ initial_value (get_or ss i s).kind (get_or is i j) ∷ initial_values (drop (i + 1) ss) (drop (i + 1) is)
values_turn ss is i s j h g = rw (add-one) (values_next ss is i s j h g)

pub values_end : (ss : List Slot) (is : List Initial) (i : ℕ) → i ≡ min (length ss) (length is)
    → initial_values (drop i ss) (drop i is) ≡ []
values_end [] is i h = grind (arith, common_steps, h)
values_end (x ∷ xs) [] i h = let e : i ≡ 0 = omega (arith, h) in ap (λ (n : ℕ). initial_values (drop n (x ∷ xs)) (drop n [])) e
values_end (x ∷ xs) (y ∷ ys) zero h = absurd (omega (arith, h))
values_end (x ∷ xs) (y ∷ ys) (suc i) h = values_end xs ys i (omega (arith, h))

pub values_done : (ss : List Slot) (is : List Initial) (values : List Value) (i : ℕ)
    → initial_values ss is ≡ values ++ initial_values (drop i ss) (drop i is) → i ≡ min (length ss) (length is)
    → values ≡ initial_values ss is
values_done ss is values i so_far all =
    sym (so_far ∙ (ap (λ (vs : List Value). values ++ vs) (values_end ss is i all) ∙ append-nil values))

-- ---- a function, and the variables

abbrev function_with : ℕ → ℕ → List IrLocal → List Step → IrFunction
function_with frame params locals steps = record { frame = frame; params = params; locals = locals; steps = steps }

pub function_made : (S : List Struct) (x : Function) (frame params : ℕ) (row : List Layout) (objects : List (List Slot))
    (locals : List IrLocal) (steps : List Step) → frame ≡ frame_bytes S x → params ≡ length x.params → row ≡ object_layouts S x
    → objects ≡ slots_in row → locals ≡ placed_from 0 row
    → steps ≡ function_steps S objects (is_main x) (length x.params) x.node x.body
    → function_with frame params locals steps ≡ function_of S x
function_made S x frame params row objects locals steps f p r o l s =
    let l2 : locals ≡ locals_from S x 0 (x.params ++ x.locals) =
    l ∙ (ap (λ (row : List Layout). placed_from 0 row) r ∙ sym (locals_are S x)) in
    let o2 : objects ≡ objects_of S x = o ∙ (ap (λ (row : List Layout). slots_in row) r ∙ sym (objects_are S x)) in
    let s2 : steps ≡ function_steps S (objects_of S x) (is_main x) (length x.params) x.node x.body =
    s ∙ ap (λ (objects : List (List Slot)). function_steps S objects (is_main x) (length x.params) x.node x.body) o2 in
    ap (λ (n : ℕ). function_with n params locals steps) f
    ∙ (ap (λ (n : ℕ). function_with (frame_bytes S x) n locals steps) p
    ∙ (ap (λ (ls : List IrLocal). function_with (frame_bytes S x) (length x.params) ls steps) l2
    ∙ ap (λ (ss : List Step). function_with (frame_bytes S x) (length x.params)
    (locals_from S x 0 (x.params ++ x.locals)) ss) s2))

pub globals_done : (core : Core) (all : List IrGlobal) (bytes i : ℕ)
    → variables_from core.structs 0 core.globals ≡ all ++ variables_from core.structs bytes (drop i core.globals)
    → length core.globals ≤ i → all ≡ globals_from core 0 core.globals
globals_done core all bytes i so_far end =
    let none : drop i core.globals ≡ [] = grind (arith, common_steps) in
    sym (globals_are core
    ∙ (so_far ∙ (ap (λ (gs : List Global). all ++ variables_from core.structs bytes gs) none ∙ append-nil all)))

pub variables_step : (S : List Struct) (gs : List Global) (i : ℕ) (g : Global) (laid : Laid) (all more : List IrGlobal)
    (bytes start next : ℕ) (whole : List IrGlobal) (made : IrGlobal) → i < length gs → g ≡ get_or gs i g
    → whole ≡ all ++ variables_from S bytes (drop i gs) → layout_of laid ≡ layout S g.ty → start ≡ aligned laid.even bytes
    → next ≡ start + laid.size → made ≡ variable_at S start g → more ≡ all ++ made ∷ []
    → whole ≡ more ++ variables_from S next (drop (i + 1) gs)
variables_step S gs i g laid all more bytes start next whole made h here so_far lies starts ends is pushed =
    let at : aligned (layout S g.ty).even bytes ≡ start =
    sym (starts ∙ ap (λ (l : Layout). aligned l.even bytes) lies) in
    let behind : aligned (layout S g.ty).even bytes + (layout S g.ty).size ≡ next =
    ap (λ (n : ℕ). n + (layout S g.ty).size) at ∙ (ap (λ (l : Layout). start + l.size) (sym lies) ∙ sym ends) in
    let rest = drop (i + 1) gs in
    so_far
    ∙ (ap (λ (vs : List IrGlobal). all ++ vs) (variables_turn S bytes gs i g h here)
    ∙ (ap (λ (n : ℕ). all ++ variable_at S n g
    ∷ variables_from S (aligned (layout S g.ty).even bytes + (layout S g.ty).size) rest) at
    ∙ (ap (λ (n : ℕ). all ++ variable_at S start g ∷ variables_from S n rest) behind
    ∙ (ap (λ (v : IrGlobal). all ++ v ∷ variables_from S next rest) (sym is)
    ∙ (sym (append_assoc all (made ∷ []) (variables_from S next rest))
    ∙ ap (λ (vs : List IrGlobal). vs ++ variables_from S next rest) (sym pushed))))))

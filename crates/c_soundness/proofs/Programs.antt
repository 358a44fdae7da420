-- What a lawful program gives to its runs, and how they begin.
use Rattle.std.proofs.Common.{◌≡◌, ℕ, zero, suc, ◌+◌, ◌≤◌, Bool, true, false, ◌&&◌, List, [], ◌∷◌, ◌++◌, map, length, slice_get, Option, Some, None, refl, sym, ap, subst, ◌∙◌, rules, arith, tests}
use Rattle.std.specs.Prelude.{codes, nat_eq}
use Rattle.std.proofs.lemmas.Bool.{eqb-true}
use Rattle.std.proofs.lemmas.List.{length-map}
use Rattle.base16.specs.declared.image.Kind.{Kind}
use Rattle.base16.specs.declared.image.Kind.TheVariants as kind
use Rattle.base16.specs.declared.reading.Reading.{Reading}
use Rattle.core_tree.specs.declared.types.Ty.{Ty, out-Ty}
use Rattle.core_tree.specs.declared.types.Ty.TheOpen.{Ty-F}
use Rattle.core_tree.specs.declared.types.Slot.{Slot}
use Rattle.core_tree.specs.declared.types.Struct.{Struct}
use Rattle.core_tree.specs.declared.types.Member.{Member}
use Rattle.core_tree.specs.declared.program.Core.{Core}
use Rattle.core_tree.specs.declared.program.Global.{Global}
use Rattle.core_tree.specs.declared.program.Initial.{Initial}
use Rattle.core_tree.specs.declared.program.Initial.TheVariants as initial
use Rattle.core_tree.specs.declared.program.Function.{Function}
use Rattle.core_tree.specs.Layout.{layout, kind_of, kind_of_layer, members_in}
use Rattle.core_tree.specs.Numbers.{stmt_numbers, function_numbers, core_numbers}
use Rattle.core_tree.specs.Reaching.{joined}
use Rattle.core_tree.specs.Rules.{is_scalar}
use Rattle.core_tree.specs.LawfulCore.{CountsFrom, Every, IsNone, Apart, is_object, IsObject, IsSmall, IsFunction, IsInitial, AreInitials, AreGlobals, AreStructs, IsMain, IsLawful, scalar_types}
use Rattle.c_values.specs.declared.value.Value.TheVariants.{Int}
use Rattle.c_values.specs.Values.{fit}
use Rattle.c_meaning.specs.Stamps.{slots_of}
use Rattle.c_meaning.specs.After.{initial_value, initial_cells, initial_objects, start, same_bytes, is_main, main_from, main_of, start_run}
use Rattle.c_soundness.specs.Shapes.{MayStand, holds_pointer}
use Rattle.c_soundness.specs.Standing.{Kinds, CellStands, ObjectStands, FrameStands, Stands}
use Rattle.c_soundness.proofs.Cells.{every_weak}
use Rattle.c_soundness.proofs.Expressions.{KindsAre, Whole, AllBelow, own_parts}
use Rattle.c_soundness.proofs.Layouts.{object_widens, has_stride, kinds_are, rising}
use Rattle.c_soundness.proofs.Frames.{extended, AllLie, frame_new, frame_first, frame_rest}
use Rattle.c_soundness.proofs.Calls.{Sane, fit_stands}

-- ---- lists

every_slice : {A : Type 0} (P : A → Type 0) (xs : List A) (n : ℕ) (x : A) → Every P xs → slice_get xs n ≡ Some x → P x
every_slice P [] n x all e = absurd (search rules)
every_slice P (y ∷ ys) zero x all e = let is : y ≡ x = cc in subst P is all.0
every_slice P (y ∷ ys) (suc n) x all e = every_slice P ys n x all.1 e

slice_more : {A : Type 0} (P : A → Type 0) (xs ys : List A) (n : ℕ) (x : A) → Every P xs → Every P ys → slice_get (xs ++ ys) n
    ≡ Some x → P x
slice_more P [] ys n x h i e = every_slice P ys n x i e
slice_more P (y ∷ xs) ys zero x h i e = let is : y ≡ x = cc in subst P is h.0
slice_more P (y ∷ xs) ys (suc n) x h i e = slice_more P xs ys n x h.1 i e

apart_behind : {A : Type 0} (xs ys : List A) → Apart (xs ++ ys) → Apart ys
apart_behind [] ys h = h
apart_behind (x ∷ xs) ys h = apart_behind xs ys h.1

-- ---- variables and structs

global_object : (core : Core) (annotated : Bool) (own : ℕ) (gs : List Global) (n : ℕ) (g : Global)
    → AreGlobals core annotated own gs
    → slice_get gs n ≡ Some g → IsObject core g.ty
global_object core annotated own [] n g all e = absurd (search rules)
global_object core annotated own (h ∷ gs) zero g all e = let is : h ≡ g = cc in subst
    (λ (x : Global). IsObject core x.ty) is all.0.object
global_object core annotated own (h ∷ gs) (suc n) g all e = global_object core annotated (own + 1) gs n g all.1 e

abbrev MembersOk : Core → List Member → Type 0
MembersOk core ms = Every (λ (m : Member). IsObject core m.ty) ms

members_widen : (core : Core) (own : ℕ) (ms : List Member) → own ≤ length core.structs
    → Every (λ (m : Member). is_object (length core.structs) m.ty own ≡ true) ms → MembersOk core ms
members_widen core own [] le all = tt
members_widen core own (m ∷ ms) le all =
    (object_widens (length core.structs) m.ty own (length core.structs) le all.0, members_widen core own ms le all.1)

struct_members : (core : Core) (own tag : ℕ) (ss : List Struct) (s : Struct) → own + length ss ≤ length core.structs
    → AreStructs core own ss
    → slice_get ss tag ≡ Some s → MembersOk core s.members
struct_members core own tag [] s le all e = absurd (search rules)
struct_members core own zero (t ∷ ss) s le all e =
    let is : t ≡ s = cc in
    subst (λ (x : Struct). MembersOk core x.members) is (members_widen core own t.members (omega (arith, le)) all.0.members)
struct_members core own (suc tag) (t ∷ ss) s le all e = struct_members core (own + 1) tag ss s (omega (arith, le)) all.1 e

members_by : (core : Core) (o : Option Struct) (n : ℕ) (m : Member) → ((s : Struct) → o ≡ Some s → MembersOk core s.members)
    → slice_get (members_in o) n ≡ Some m → IsObject core m.ty
members_by core None n m h e = absurd (search rules)
members_by core (Some s) n m h e = every_slice (λ (x : Member). IsObject core x.ty) s.members n m (h s refl) e

pub whole_of : (annotated : Bool) (core : Core) → IsLawful annotated core → Whole core
whole_of annotated core lawful = record {
  globals = λ n g e. global_object core annotated 0 core.globals n g lawful.globals e;
  members = λ tag n m e. members_by core (slice_get core.structs tag) n m
      (λ s at. struct_members core 0 tag core.structs s (omega arith) lawful.structs at) e;
  sizes = λ t o. has_stride core t lawful.structs o;
  kinds = λ t. kinds_are core t;
}

-- ---- main

same_name : (a b : List ℕ) → same_bytes a b ≡ true → a ≡ b
same_name [] [] e = refl
same_name [] (y ∷ ys) e = absurd cc
same_name (x ∷ xs) [] e = absurd cc
same_name (x ∷ xs) (y ∷ ys) e = same_by (nat_eq x y) x y xs ys refl e (same_name xs ys)
  where
    same_by : (b : Bool) (x y : ℕ) (xs ys : List ℕ) → nat_eq x y ≡ b → (b && same_bytes xs ys) ≡ true
        → (same_bytes xs ys ≡ true → xs ≡ ys) → x ∷ xs ≡ y ∷ ys
    same_by true x y xs ys is e more = cc (eqb-true x y is, more e)
    same_by false x y xs ys is e more = absurd cc

same_itself : (a : List ℕ) → same_bytes a a ≡ true
same_itself [] = refl
same_itself (x ∷ xs) = let e : nat_eq x x ≡ true = grind (arith, tests) in rw e (same_itself xs)

abbrev names_of : List Function → List (List ℕ)
names_of fs = map (λ (f : Function). f.name) fs

not_there : (name : List ℕ) (fs : List Function) (n : ℕ) (f : Function) → IsNone name (names_of fs) → slice_get fs n ≡ Some f
    → name ≡ f.name → ⊥
not_there name [] n f none e is = absurd (search rules)
not_there name (g ∷ fs) zero f none e is = let at : g ≡ f = cc in none.0 (is ∙ ap (λ (x : Function). x.name) (sym at))
not_there name (g ∷ fs) (suc n) f none e is = not_there name fs n f none.1 e is

one_name : (fs : List Function) (m n : ℕ) (f g : Function) → Apart (names_of fs) → slice_get fs m ≡ Some f → slice_get fs n
    ≡ Some g
    → f.name ≡ g.name → f ≡ g
one_name [] m n f g apart at_f at_g is = absurd (search rules)
one_name (h ∷ fs) zero zero f g apart at_f at_g is = cc
one_name (h ∷ fs) zero (suc n) f g apart at_f at_g is =
    let here : h ≡ f = cc in
    absurd (not_there h.name fs n g apart.0 at_g (ap (λ (x : Function). x.name) here ∙ is))
one_name (h ∷ fs) (suc m) zero f g apart at_f at_g is =
    let here : h ≡ g = cc in
    absurd (not_there h.name fs m f apart.0 at_f (ap (λ (x : Function). x.name) here ∙ sym is))
one_name (h ∷ fs) (suc m) (suc n) f g apart at_f at_g is = one_name fs m n f g apart.1 at_f at_g is

main_is : (annotated : Bool) (core : Core) → IsLawful annotated core → (n : ℕ) (f : Function) → slice_get core.functions n
    ≡ Some f
    → is_main f ≡ true → IsMain f
main_is annotated core lawful n f at main =
    let w = lawful.main in
    let names : Apart (names_of core.functions) =
    apart_behind (map (λ (g : Global). g.name) core.globals) (names_of core.functions) lawful.names.1.1.1 in
    let own : f.name ≡ codes "main" = same_name f.name (codes "main") main in
    let same : w.1.0 ≡ f = one_name core.functions w.0 n w.1.0 f names w.1.1.0 at (w.1.1.1.0 ∙ sym own) in
    subst (λ (x : Function). IsMain x) same w.1.1.1

-- ---- nodes

counts_below : (n : ℕ) (ns : List ℕ) → CountsFrom n ns → AllBelow (n + length ns) ns
counts_below n [] h = tt
counts_below n (m ∷ ns) h =
    let e : n + 1 + length ns ≡ n + length (m ∷ ns) = omega arith in
    (omega (arith, h.0), subst (λ (all : ℕ). AllBelow all ns) e (counts_below (n + 1) ns h.1))

numbers_below : (annotated : Bool) (core : Core) → IsLawful annotated core
    → AllBelow (length (core_numbers core)) (joined (map function_numbers core.functions))
unfolding core_numbers
numbers_below annotated core lawful =
    let none : 0 + length (core_numbers core) ≡ length (core_numbers core) = omega arith in
    subst (λ (all : ℕ). AllBelow all (core_numbers core)) none (counts_below 0 (core_numbers core) lawful.numbers)

function_own : (many : ℕ) (fs : List Function) (n : ℕ) (f : Function) → slice_get fs n ≡ Some f
    → AllBelow many (joined (map function_numbers fs)) → AllBelow many (joined (map stmt_numbers f.body))
function_own many [] n f e h = absurd (search rules)
function_own many (g ∷ fs) zero f e h =
    let is : g ≡ f = cc in
    let own = own_parts many (function_numbers g) (joined (map function_numbers fs)) h in
    subst (λ (x : Function). AllBelow many (joined (map stmt_numbers x.body))) is own.0.1
function_own many (g ∷ fs) (suc n) f e h =
    function_own many fs n f e (own_parts many (function_numbers g) (joined (map function_numbers fs)) h).1

pub sane_of : (annotated : Bool) (core : Core) → IsLawful annotated core → (n : ℕ) (f : Function) → slice_get core.functions n
    ≡ Some f
    → Sane (length (core_numbers core)) core f
sane_of annotated core lawful n f at =
    let ok : IsFunction core annotated f = every_slice (IsFunction core annotated) core.functions n f lawful.functions at in
    record {
      scalars = every_weak (λ (t : Ty). (is_scalar t ≡ true) × IsObject core t) (λ (t : Ty). is_scalar t ≡ true)
          (λ t h. h.0) f.params ok.params;
      objects = λ m t e. slice_more (λ (x : Ty). IsObject core x) f.params f.locals m t
          (every_weak (λ (t : Ty). (is_scalar t ≡ true) × IsObject core t) (λ (t : Ty). IsObject core t)
          (λ t h. h.1) f.params ok.params)
          (every_weak (λ (t : Ty). IsObject core t × IsSmall core t) (λ (t : Ty). IsObject core t)
          (λ t h. h.0) f.locals ok.locals) e;
      main = λ is. (main_is annotated core lawful n f at is).2;
      annotated = annotated;
      lawful = ok.body;
      own = function_own (length (core_numbers core)) core.functions n f at (numbers_below annotated core lawful);
    }

-- the function main is found
pub record Found (core : Core) : Type 0 where
  pub number : ℕ
  pub function : Function
  pub first : main_of core ≡ Some number
  pub there : slice_get core.functions number ≡ Some function
  pub none : function.params ≡ []

record From (n : ℕ) (fs : List Function) : Type 0 where
  place : ℕ
  function : Function
  first : main_from n fs ≡ Some (n + place)
  there : slice_get fs place ≡ Some function
  main : is_main function ≡ true

main_if : (b : Bool) (n m : ℕ) (f : Function) (fs : List Function) → is_main f ≡ b → slice_get (f ∷ fs) m ≡ Some f →
    (b ≡ false → From (n + 1) fs)
    → From n (f ∷ fs)
main_if true n m f fs is at more = record {
  place = 0;
  function = f;
  first = let zero_more : n + 0 ≡ n = omega arith in rw (is, zero_more) refl;
  there = refl;
  main = is;
}
main_if false n m f fs is at more =
    let w = more refl in
    record {
      place = suc w.place;
      function = w.function;
      first = let e : n + suc w.place ≡ n + 1 + w.place = omega arith in rw (is, e) w.first;
      there = w.there;
      main = w.main;
    }

main_found : (fs : List Function) (n m : ℕ) (f : Function) → slice_get fs m ≡ Some f → is_main f ≡ true → From n fs
main_found [] n m f at main = absurd (search rules)
main_found (g ∷ fs) n zero f at main =
    let is : g ≡ f = cc in
    main_if (is_main g) n zero g fs refl refl (λ no. absurd (let h : is_main g ≡ true = ap is_main is ∙ main in let e : false
    ≡ true = sym no ∙ h in cc))
main_found (g ∷ fs) n (suc m) f at main = main_if (is_main g) n zero g fs refl refl (λ no. main_found fs (n + 1) m f at main)

pub main_there : (annotated : Bool) (core : Core) → IsLawful annotated core → Found core
main_there annotated core lawful =
    let w = lawful.main in
    let named : w.1.0.name ≡ codes "main" = w.1.1.1.0 in
    let main : is_main w.1.0 ≡ true = rw named (same_itself (codes "main")) in
    let found = main_found core.functions 0 w.0 w.1.0 w.1.1.0 main in
    let none : 0 + found.place ≡ found.place = omega arith in
    record {
      number = found.place;
      function = found.function;
      first = rw (← none) found.first;
      there = found.there;
      none = (main_is annotated core lawful found.place found.function found.there found.main).1;
    }

-- ---- the start

initial_by : (core : Core) (own : ℕ) (l : Ty-F Ty) (i : Initial) (k : Kind) → holds_pointer k ≡ holds_pointer (kind_of_layer l)
    → IsInitial core own l i → MayStand (holds_pointer k) (initial_value k i)
initial_by core own (Ty-F.Num t) (initial.Int v) kind.Char e h = fit_stands kind.Char (Int v) tt
initial_by core own (Ty-F.Num t) (initial.Int v) kind.Int e h = fit_stands kind.Int (Int v) tt
initial_by core own (Ty-F.Num t) (initial.Int v) kind.UInt e h = fit_stands kind.UInt (Int v) tt
initial_by core own (Ty-F.Num t) (initial.Int v) kind.Pointer e h = tt
initial_by core own (Ty-F.Pointer to r) (initial.Int v) kind.Char e h = fit_stands kind.Char (Int v) tt
initial_by core own (Ty-F.Pointer to r) (initial.Int v) kind.Int e h = fit_stands kind.Int (Int v) tt
initial_by core own (Ty-F.Pointer to r) (initial.Int v) kind.UInt e h = fit_stands kind.UInt (Int v) tt
initial_by core own (Ty-F.Pointer to r) (initial.Int v) kind.Pointer e h = tt
initial_by core own (Ty-F.Pointer to r) (initial.Address n offset) kind.Char e h = absurd cc
initial_by core own (Ty-F.Pointer to r) (initial.Address n offset) kind.Int e h = absurd cc
initial_by core own (Ty-F.Pointer to r) (initial.Address n offset) kind.UInt e h = absurd cc
initial_by core own (Ty-F.Pointer to r) (initial.Address n offset) kind.Pointer e h = tt
initial_by core own (Ty-F.Num t) (initial.Address n offset) k e h = absurd h
initial_by core own Ty-F.Void i k e h = absurd h
initial_by core own (Ty-F.Array of count) i k e h = absurd h
initial_by core own (Ty-F.Struct tag) i k e h = absurd h

initial_stands : (core : Core) (own : ℕ) (t : Ty) (i : Initial) (k : Kind) → holds_pointer k ≡ holds_pointer (kind_of t)
    → IsInitial core own (out-Ty t) i → MayStand (holds_pointer k) (initial_value k i)
unfolding kind_of
initial_stands core own t i k e h = initial_by core own (out-Ty t) i k e h

cells_stand : (core : Core) (own n : ℕ) (kinds : Kinds) (slots : List Slot) (ts : List Ty) (is : List Initial)
    → Every (λ (s : Slot). kinds n s.offset ≡ holds_pointer s.kind) slots → KindsAre slots ts → AreInitials core own ts is
    → Every (CellStands kinds n) (initial_cells slots is)
cells_stand core own n kinds [] [] [] told fit ok = tt
cells_stand core own n kinds [] [] (i ∷ is) told fit ok = tt
cells_stand core own n kinds [] (t ∷ ts) is told fit ok = absurd fit
cells_stand core own n kinds (s ∷ ss) [] is told fit ok = absurd fit
cells_stand core own n kinds (s ∷ ss) (t ∷ ts) [] told fit ok = absurd ok
cells_stand core own n kinds (s ∷ ss) (t ∷ ts) (i ∷ is) told fit ok = (
  record {
    kind = sym told.0;
    value = subst (λ (p : Bool). MayStand p (initial_value s.kind i)) (sym told.0)
        (initial_stands core own t i s.kind fit.0 ok.0);
  },
  cells_stand core own n kinds ss ts is told.1 fit.1 ok.1,
)

objects_stand : (annotated : Bool) (core : Core) (kinds : Kinds) (next n own : ℕ) (gs : List Global)
    → FrameStands kinds next (record { first = n; objects = map (slots_of core.structs) gs }) → AreGlobals core annotated own gs
    → Every (ObjectStands kinds next) (initial_objects core.structs n gs)
objects_stand annotated core kinds next n own [] w all = tt
objects_stand annotated core kinds next n own (g ∷ gs) w all =
    let more : List (List Slot) = map (slots_of core.structs) gs in
    let h = frame_first kinds next n (slots_of core.structs g) more w in (
      record {
        made = h.0;
        cells = cells_stand core own n kinds (slots_of core.structs g) (scalar_types core g.ty) g.init h.1
            (kinds_are core g.ty) all.0.init;
      },
      objects_stand annotated core kinds next (n + 1) (own + 1) gs
          (frame_rest kinds next n (slots_of core.structs g) more w) all.1,
    )

globals_lie : (structs : List Struct) (gs : List Global) → AllLie (map (slots_of structs) gs)
globals_lie structs [] = tt
globals_lie structs (g ∷ gs) = (((layout structs g.ty).size, rising structs g.ty), globals_lie structs gs)

-- the run begins where each variable has the scalars of its type
pub start_stands : (annotated : Bool) (core : Core) → IsLawful annotated core → (readings : List Reading) (left : ℕ)
    → Stands [] (suc left) (start_run core readings left)
unfolding start
start_stands annotated core lawful readings left =
    let objects : List (List Slot) = map (slots_of core.structs) core.globals in
    let kinds : Kinds = extended (λ n offset. false) 0 objects in
    let new : FrameStands kinds (0 + length objects) (record { first = 0; objects = objects }) =
    frame_new (λ n offset. false) 0 objects (globals_lie core.structs core.globals) in
    let many : 0 + length objects ≡ length core.globals = rw (length-map core.globals (slots_of core.structs)) (omega arith) in
    let here : FrameStands kinds (length core.globals) (record { first = 0; objects = objects }) =
    subst (λ (n : ℕ). FrameStands kinds n (record { first = 0; objects = objects })) many new in
    record {
      kinds = kinds;
      by = record {
        state = record {
          globals = objects_stand annotated core kinds (length core.globals) 0 0 core.globals here lawful.globals;
          calls = tt;
          saved = tt;
        };
        calls = tt;
        left = omega arith;
      };
    }

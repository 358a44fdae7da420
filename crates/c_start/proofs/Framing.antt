-- What calls need to know of functions, one after the other, and what it is for one of them.
use Rattle.std.proofs.Common.{◌≡◌, ℕ, ◌+◌, ◌<◌, ◌≤◌, nat_lt, true, false, List, ◌∷◌, ◌++◌, length, get_or, drop, map, slice_get, Some, None, option_map, ap, sym, refl, ◌∙◌, arith, add-one, drop-cons}
use Rattle.std.proofs.lemmas.List.{map-append}
use Rattle.std.proofs.lemmas.Option.{slice_get-map, slice_get_within, get_or_from_slice_get}
use Rattle.base16.specs.Placement.{frame_below}
use Rattle.base16.specs.Board.{most_frame_bytes}
use Rattle.base16.specs.declared.end.EndKind.TheVariants.{StackFull}
use Rattle.core_tree.specs.declared.types.Ty.{Ty}
use Rattle.core_tree.specs.declared.types.Slot.{Slot}
use Rattle.core_tree.specs.declared.types.Struct.{Struct}
use Rattle.core_tree.specs.declared.program.Core.{Core}
use Rattle.core_tree.specs.declared.program.Function.{Function}
use Rattle.core_tree.specs.Layout.{layout}
use Rattle.core_tree.specs.Heights.{frame_bytes, told_frame, of_function, capped}
use Rattle.c_run.specs.Runs.{Run, Stopped, Ended, and_then, mark, pure, ◌>>=◌}
use Rattle.c_run.specs.Actions.{enter, entered, top_of}
use Rattle.c_meaning.specs.After.{objects_of}
use Rattle.c_start.specs.declared.frames.Frame.{Frame}
use Rattle.c_start.specs.Frames.{frame_of}

-- one more element of a mapped list
turned : {A B : Type 0} (f : A → B) (xs : List A) (i : ℕ) (x : A) → i < length xs → x ≡ get_or xs i x
    → map f (drop i xs) ≡ f x ∷ map f (drop (i + 1) xs)
turned f xs i x h is =
    let cut : drop i xs ≡ get_or xs i x ∷ drop (i + 1) xs = rw (add-one) (drop-cons xs i x h) in
    ap (map f) cut ∙ ap (λ y. f y ∷ map f (drop (i + 1) xs)) (sym is)

pub objects_turn : (structs : List Struct) (ts : List Ty) (i : ℕ) (t : Ty) → i < length ts → t ≡ get_or ts i t
    → map (λ t. (layout structs t).slots) (drop i ts)
    ≡ (layout structs t).slots ∷ map (λ t. (layout structs t).slots) (drop (i + 1) ts)
objects_turn structs ts i t h is = turned (λ t. (layout structs t).slots) ts i t h is

pub objects_are : (structs : List Struct) (f : Function)
    → objects_of structs f ≡ map (λ t. (layout structs t).slots) f.params ++ map (λ t. (layout structs t).slots) f.locals
objects_are structs f = map-append (λ t. (layout structs t).slots) f.params f.locals

pub frames_turn : (structs : List Struct) (fs : List Function) (i : ℕ) (f : Function) → i < length fs → f ≡ get_or fs i f
    → map (frame_of structs) (drop i fs) ≡ frame_of structs f ∷ map (frame_of structs) (drop (i + 1) fs)
frames_turn structs fs i f h is = turned (frame_of structs) fs i f h is

-- ---- the bytes of a frame as they are told

pub told_is : (core : Core) (n : ℕ) (f : Function) → slice_get core.functions n ≡ Some f
    → told_frame core n ≡ capped (frame_bytes core.structs f)
unfolding told_frame
told_is core n f e = ap (of_function (frame_bytes core.structs)) e

small : (n : ℕ) → capped n ≤ 240 → n ≡ capped n
small n h = grind arith

pub small_test : (n : ℕ) → capped n ≤ 240 → nat_lt most_frame_bytes n ≡ false
small_test n h = grind arith

pub large_test : (n : ℕ) → 240 < capped n → nat_lt most_frame_bytes n ≡ true
large_test n h = grind arith

-- ---- one of the frames

framed : (structs : List Struct) (fs : List Function) (n : ℕ) (f : Function) → slice_get fs n ≡ Some f
    → slice_get (map (frame_of structs) fs) n ≡ Some (frame_of structs f)
framed structs fs n f e = slice_get-map (frame_of structs) fs n ∙ ap (option_map (frame_of structs)) e

pub framed_within : (structs : List Struct) (fs : List Function) (n : ℕ) (f : Function) → slice_get fs n ≡ Some f
    → n < length (map (frame_of structs) fs)
framed_within structs fs n f e = slice_get_within (map (frame_of structs) fs) n (frame_of structs f) (framed structs fs n f e)

pub framed_at : (structs : List Struct) (fs : List Function) (n : ℕ) (f : Function) (d : Frame) → slice_get fs n ≡ Some f
    → get_or (map (frame_of structs) fs) n d ≡ frame_of structs f
framed_at structs fs n f d e =
    get_or_from_slice_get (map (frame_of structs) fs) n (frame_of structs f) d (framed structs fs n f e)

-- ---- entering

pub small_bytes : (n bytes : ℕ) → bytes ≡ capped n → bytes ≤ 240 → n ≡ bytes
small_bytes n bytes e h = grind arith

too_large : (sp bytes : ℕ) → 240 < capped bytes → frame_below sp bytes ≡ None
unfolding frame_below
too_large sp bytes h = rw (large_test bytes h) refl

pub large_stops : (n bytes : ℕ) (slots : List (List Slot)) (r : Run) → 240 < capped bytes
    → enter n bytes slots r ≡ Stopped (Ended StackFull r.state r.used)
unfolding enter
large_stops n bytes slots r h =
    ap (λ o. and_then (entered n slots o r) (λ first. mark >>= λ _. pure first)) (too_large (top_of r.state) bytes h)

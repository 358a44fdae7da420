-- Things side by side, one after the other.
use Rattle.std.proofs.Common.{◌≡◌, ℕ, ◌+◌, ◌<◌, List, [], ◌∷◌, ◌++◌, length, get_or, take, drop, map, Some, option_map, slice_get, append_assoc, ap, ap₂, sym, refl, ◌∙◌, add-one, drop-cons}
use Rattle.std.proofs.lemmas.List.{map-append, take-map, get_or-map}
use Rattle.std.specs.List.{position}
use Rattle.core_tree.specs.declared.types.Ty.{Ty}
use Rattle.core_tree.specs.declared.types.Struct.{Struct}
use Rattle.core_tree.specs.declared.program.Core.{Core}
use Rattle.core_tree.specs.declared.program.Global.{Global}
use Rattle.core_tree.specs.declared.program.Function.{Function}
use Rattle.core_tree.specs.Layout.{Layout, layout, aligned, with_members, with_member, nothing, start_of}
use Rattle.core_tree.specs.Heights.{object_layouts, local_offset}
use Rattle.core_tree.specs.Data.{global_layouts}
use Rattle.c_values.specs.declared.state.Call.{Call}
use Rattle.core_layout.specs.declared.layouts.Laid.{Laid}
use Rattle.core_layout.specs.Laid.{layout_of}
use Rattle.report_state.specs.Addresses.{frame_address, address_at, local_address, has_number}

-- the bytes behind things that are put behind so many bytes
abbrev pub bytes_behind : ℕ → List Layout → ℕ
bytes_behind bytes [] = bytes
bytes_behind bytes (l ∷ ls) = bytes_behind (aligned l.even bytes + l.size) ls

pub size_is : (before : Layout) (ls : List Layout) → (with_members before ls).size ≡ bytes_behind before.size ls
size_is before [] = refl
size_is before (l ∷ ls) = size_is (with_member before l) ls

cut_at : {A : Type 0} (xs : List A) (i : ℕ) (x : A) → i < length xs → x ≡ get_or xs i x → drop i xs ≡ x ∷ drop (i + 1) xs
cut_at xs i x h is =
    let cut : drop i xs ≡ get_or xs i x ∷ drop (i + 1) xs = rw (add-one) (drop-cons xs i x h) in
    cut ∙ ap (λ y. y ∷ drop (i + 1) xs) (sym is)

pub size_turn : (row : List Laid) (i bytes : ℕ) (l : Laid) → i < length row → l ≡ get_or row i l
    → bytes_behind bytes (map layout_of (drop i row))
    ≡ bytes_behind (aligned l.even bytes + l.size) (map layout_of (drop (i + 1) row))
size_turn row i bytes l h is = ap (λ ls. bytes_behind bytes (map layout_of ls)) (cut_at row i l h is)

pub start_is : (row : List Laid) (i bytes : ℕ) (l : Laid) → i < length row → l ≡ get_or row i l
    → bytes ≡ (with_members nothing (map layout_of (take i row))).size
    → start_of (map layout_of row) i ≡ aligned l.even bytes
start_is row i bytes l h is e =
    ap₂ (λ (x : Layout) n. aligned x.even n)
    (get_or-map layout_of row i l nothing h ∙ ap layout_of (sym is))
    (ap (λ ls. (with_members nothing ls).size) (take-map layout_of i row) ∙ sym e)

pub types_turn : (structs : List Struct) (ts : List Ty) (i : ℕ) (t : Ty) → i < length ts → t ≡ get_or ts i t
    → map (layout structs) (drop i ts) ≡ layout structs t ∷ map (layout structs) (drop (i + 1) ts)
types_turn structs ts i t h is = ap (map (layout structs)) (cut_at ts i t h is)

pub globals_turn : (core : Core) (gs : List Global) (i : ℕ) (g : Global) → i < length gs → g ≡ get_or gs i g
    → global_layouts core (drop i gs) ≡ layout core.structs g.ty ∷ global_layouts core (drop (i + 1) gs)
globals_turn core gs i g h is = ap (global_layouts core) (cut_at gs i g h is)

pub more_laid : (row : List Laid) (l : Laid) → map layout_of (row ++ l ∷ []) ≡ map layout_of row ++ layout_of l ∷ []
more_laid row l = map-append layout_of row (l ∷ [])

pub objects_are : (structs : List Struct) (f : Function)
    → object_layouts structs f ≡ map (layout structs) f.params ++ map (layout structs) f.locals
objects_are structs f = map-append (layout structs) f.params f.locals

pub frames_turn : (core : Core) (n : ℕ) (cs : List Call) (i : ℕ) (c : Call) → i < length cs → c ≡ get_or cs i c
    → frame_address core n (drop i cs)
    ≡ address_at (local_address core c) (position (has_number n) c.locals) (frame_address core n (drop (i + 1) cs))
frames_turn core n cs i c h is = ap (frame_address core n) (cut_at cs i c h is)

pub globals_more : (core : Core) (gs : List Global) (i : ℕ) (g : Global) (row now : List Laid) (made : Laid) (structs : List Struct)
    → i < length gs → g ≡ get_or gs i g → structs ≡ core.structs
    → global_layouts core gs ≡ map layout_of row ++ global_layouts core (drop i gs)
    → layout_of made ≡ layout structs g.ty → now ≡ row ++ made ∷ []
    → global_layouts core gs ≡ map layout_of now ++ global_layouts core (drop (i + 1) gs)
globals_more core gs i g row now made structs h is same e laid more =
    let rest : List Layout = global_layouts core (drop (i + 1) gs) in
    let one : Layout = layout core.structs g.ty in
    let made_is : layout_of made ≡ one = laid ∙ ap (λ ss. layout ss g.ty) same in
    let longer : map layout_of now ≡ map layout_of row ++ one ∷ [] =
    ap (map layout_of) more ∙ more_laid row made ∙ ap (λ l. map layout_of row ++ l ∷ []) made_is in
    e ∙ ap (λ ls. map layout_of row ++ ls) (globals_turn core gs i g h is)
    ∙ sym (append_assoc (map layout_of row) (one ∷ []) rest)
    ∙ ap (λ ls. ls ++ rest) (sym longer)

pub local_is : (core : Core) (c : Call) (f : Function) (at frame offset : ℕ) (structs : List Struct)
    → Some f ≡ slice_get core.functions c.function → structs ≡ core.structs → frame ≡ c.frame → offset ≡ local_offset structs f at
    → Some (frame + offset) ≡ local_address core c at
local_is core c f at frame offset structs found same frame_is offset_is =
    let o : offset ≡ local_offset core.structs f at = offset_is ∙ ap (λ ss. local_offset ss f at) same in
    ap₂ (λ a b. Some (a + b)) frame_is o
    ∙ ap (option_map (λ (g : Function). c.frame + local_offset core.structs g at)) found

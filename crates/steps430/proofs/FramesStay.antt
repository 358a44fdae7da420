-- What stays of the cells of calls when a frame comes or goes above them.
use Rattle.std.proofs.Common.{◌≡◌, ℕ, ◌+◌, ◌*◌, ◌%◌, ◌<◌, ◌≤◌, refl, sym, ap, ◌∙◌, subst, arith, Bool, true, false, ◌⊎◌, inl, inr, List, [], ◌∷◌, ◌++◌, length, reverse, Option, Some, None, if◌then◌else◌}
use Rattle.std.proofs.lemmas.List.{append_assoc, reverse-append, reverse-reverse}
use Rattle.std.specs.Prelude.{nat_eq, nat_lt}
use Rattle.base16.specs.Board.{outputs_start, outputs_end, stack_start, segment_start, segment_top, data_start}
use Rattle.base16.specs.declared.image.Kind.{Kind}
use Rattle.c_run.specs.Lists.{without_last}
use Rattle.c_values.specs.declared.state.Call.{Call}
use Rattle.c_values.specs.declared.value.Value.{Value}
use Rattle.c_values.specs.declared.value.Value.TheVariants.{Int, Pointer, Null, Undefined}
use Rattle.cells430.specs.Cells.{Cell, Word, Cells, Shape, Live, OfOutput, OfData, OfFrame, OfOlder}
use Rattle.core_tree.specs.LawfulCore.{Every}
use Rattle.core_tree.specs.Data.{stamp_address}
use Rattle.core_tree.specs.declared.program.Core.{Core}
use Rattle.ir.specs.declared.form.IrFunction.{IrFunction}
use Rattle.ir.specs.declared.control.Temporary.{Temporary}
use Rattle.ir.specs.declared.control.Temporary.TheVariants as temporary
use Rattle.ir.specs.declared.control.Frame.{Frame}
use Rattle.matching.specs.Covering.{cell_of, HasCell, WordsCovered, StampsCovered}
use Rattle.matching.specs.Matches.{Placed, placed_from, local_address, placed_in_calls, address_of, pointer_code, encoded}
use Rattle.select430.specs.Frames.{temporaries_at}
use Rattle.steps430.specs.Setting.{Setting, function_of}
use Rattle.steps430.specs.Holds.{HasCode, is_defined, object_address, value_code, temporary_code, IsHeld, AreHeld, CallHolds, Holds}
use Rattle.steps430.specs.Standing.{ReturnsHere, ReturnsBelow, Stacked, return_to}

-- ---- lists

pub every_left : {A : Type 0} (P : A → Type 0) (xs ys : List A) → Every P (xs ++ ys) → Every P xs
every_left P [] ys h = tt
every_left P (x ∷ xs) ys h = (h.0, every_left P xs ys h.1)

pub every_right : {A : Type 0} (P : A → Type 0) (xs ys : List A) → Every P (xs ++ ys) → Every P ys
every_right P [] ys h = h
every_right P (x ∷ xs) ys h = every_right P xs ys h.1

pub every_append : {A : Type 0} (P : A → Type 0) (xs ys : List A) → Every P xs → Every P ys → Every P (xs ++ ys)
every_append P [] ys h k = k
every_append P (x ∷ xs) ys h k = (h.0, every_append P xs ys h.1 k)

pub every_both : {A : Type 0} (P Q R : A → Type 0) (xs : List A) → ((x : A) → P x → Q x → R x) → Every P xs → Every Q xs
    → Every R xs
every_both P Q R [] f h k = tt
every_both P Q R (x ∷ xs) f h k = (f x h.0 k.0, every_both P Q R xs f h.1 k.1)

pub every_map : {A : Type 0} (P Q : A → Type 0) (xs : List A) → ((x : A) → P x → Q x) → Every P xs → Every Q xs
every_map P Q [] f h = tt
every_map P Q (x ∷ xs) f h = (f x h.0, every_map P Q xs f h.1)

pub every_all : {A : Type 0} (P : A → Type 0) (xs : List A) → ((x : A) → P x) → Every P xs
every_all P [] f = tt
every_all P (x ∷ xs) f = (f x, every_all P xs f)

pub every_reverse : {A : Type 0} (P : A → Type 0) (xs : List A) → Every P xs → Every P (reverse xs)
every_reverse P [] h = tt
every_reverse P (x ∷ xs) h =
    subst (Every P) (sym (reverse-append (x ∷ []) xs)) (every_append P (reverse xs) (x ∷ []) (every_reverse P xs h.1) (h.0, tt))

pub without_last_is : {A : Type 0} (xs : List A) (x : A) → without_last (xs ++ x ∷ []) ≡ xs
without_last_is [] x = refl
without_last_is (y ∷ []) x = refl
without_last_is (y ∷ (z ∷ xs)) x = ap (λ k. y ∷ k) (without_last_is (z ∷ xs) x)

-- a list of which the last is known
pub last_is : {A : Type 0} (xs ys : List A) (x : A) → reverse xs ≡ x ∷ ys → xs ≡ reverse ys ++ x ∷ []
last_is xs ys x e = sym (reverse-reverse xs) ∙ ap reverse e ∙ reverse-append (x ∷ []) ys

-- ---- an address of the stack, from sp on

pub data On (segment sp a : ℕ) : Type 0 where
  InHere : sp ≤ a → a < segment_top segment → On segment sp a
  InOlder : stack_start ≤ a → a < segment_start segment → On segment sp a

on_up : (a g sp sp2 : ℕ) → sp ≤ sp2 → On g sp2 a → On g sp a
on_up a g sp sp2 h (InHere k l) = InHere (omega arith) l
on_up a g sp sp2 h (InOlder k l) = InOlder k l

on_older : (a g older sp sp2 : ℕ) → g ≡ older + 1 → segment_start older ≤ sp2 → On older sp2 a → On g sp a
on_older a g older sp sp2 e h (InHere k l) = InOlder (omega arith) (omega arith)
on_older a g older sp sp2 e h (InOlder k l) = InOlder k (omega arith)

-- the frames of calls lie there
abbrev pub FrameOn : Setting → (segment sp : ℕ) → Call → Type 0
FrameOn p g sp c = (a : ℕ) → c.frame ≤ a → a < c.frame + temporaries_at (function_of p c.function) → On g sp a

-- a frame ends below the top of its segment
pub frame_top : (p : Setting) (all own : Cells) (g end : ℕ) (ls : List Frame) (cs : List Call)
    → ((ReturnsHere all (return_to p ls) g end × Stacked p all own g (end + 2) ls cs)
    ⊎ ((older : ℕ) × (b : ℕ) × ReturnsBelow all own (return_to p ls) g end older b × Stacked p all own older (b + 2) ls cs))
    → end + 2 ≤ segment_top g
frame_top p all own g end ls cs (inl k) = k.0.below
frame_top p all own g end ls cs (inr k) = let e = k.2.top in omega arith

pub frames_on : (p : Setting) (all own : Cells) (g sp : ℕ) (ls : List Frame) (cs : List Call) → Stacked p all own g sp ls cs
    → Every (FrameOn p g sp) cs
frames_on p all own g sp [] [] h = tt
frames_on p all own g sp (l ∷ ls) (c ∷ cs) h = (mine, from (λ g2 sp2 k. frames_on p all own g2 sp2 ls cs k) h.1)
  where
    end : ℕ
    end = sp + (function_of p l.function).frame

    mine : FrameOn p g sp c
    mine a low high =
        let frame = h.0.frame in
        let objects = h.0.objects in
        let function = ap (λ (f : ℕ). temporaries_at (function_of p f)) h.0.function in
        let top = frame_top p all own g end ls cs h.1 in
        InHere (omega arith) (omega arith)

    from : ((g2 sp2 : ℕ) → Stacked p all own g2 sp2 ls cs → Every (FrameOn p g2 sp2) cs)
        → ((ReturnsHere all (return_to p ls) g end × Stacked p all own g (end + 2) ls cs)
        ⊎ ((older : ℕ) × (b : ℕ) × ReturnsBelow all own (return_to p ls) g end older b × Stacked p all own older (b + 2) ls cs))
        → Every (FrameOn p g sp) cs
    from more (inl k) =
        every_map (FrameOn p g (end + 2)) (FrameOn p g sp) cs
        (λ x j a low high. on_up a g sp (end + 2) (omega arith) (j a low high)) (more g (end + 2) k.1)
    from more (inr k) =
        let low2 = k.2.low in
        every_map (FrameOn p k.0 (k.1 + 2)) (FrameOn p g sp) cs
        (λ x j a low high. on_older a g k.0 sp (k.1 + 2) k.2.next (omega arith) (j a low high)) (more k.0 (k.1 + 2) k.3)
frames_on p all own g sp [] (c ∷ cs) h = absurd h
frames_on p all own g sp (l ∷ ls) [] h = absurd h

-- ---- the stack stays where its cells do

module _ (p : Setting) (all all2 own own2 : Cells) where
  abbrev pub Same : (g sp : ℕ) → Type 0
  Same g sp = (b : ℕ) → On g sp b → (all2 b ≡ all b) × (own b ≡ None → own2 b ≡ None)

  pub stack_same : (g sp : ℕ) (ls : List Frame) (cs : List Call) → Same g sp → Stacked p all own g sp ls cs
      → Stacked p all2 own2 g sp ls cs
  stack_same g sp [] [] same h = h
  stack_same g sp (l ∷ ls) (c ∷ cs) same h = (
    record {
      frame = h.0.frame;
      function = h.0.function;
      numbers = h.0.numbers;
      locals = h.0.locals;
      objects = h.0.objects;
      clear = λ b low high. let top = frame_top p all own g end ls cs h.1 in
          (same b (InHere (omega arith) (omega arith))).1 (h.0.clear b low high);
    },
    from (λ g2 sp2 j k. stack_same g2 sp2 ls cs j k) h.1,
  )
    where
      end : ℕ
      end = sp + (function_of p l.function).frame

      from : ((g2 sp2 : ℕ) → Same g2 sp2 → Stacked p all own g2 sp2 ls cs → Stacked p all2 own2 g2 sp2 ls cs)
          → ((ReturnsHere all (return_to p ls) g end × Stacked p all own g (end + 2) ls cs)
          ⊎ ((older : ℕ) × (b : ℕ) × ReturnsBelow all own (return_to p ls) g end older b × Stacked p all own older (b + 2) ls cs))
          → ((ReturnsHere all2 (return_to p ls) g end × Stacked p all2 own2 g (end + 2) ls cs)
          ⊎ ((older : ℕ) × (b : ℕ) × ReturnsBelow all2 own2 (return_to p ls) g end older b
          × Stacked p all2 own2 older (b + 2) ls cs))
      from more (inl k) =
          let below = k.0.below in
          inl (
            record {
              word = (same end (InHere (omega arith) (omega arith))).0 ∙ k.0.word;
              below = k.0.below;
              no_link = k.0.no_link;
            },
            more g (end + 2) (λ b j. same b (on_up b g sp (end + 2) (omega arith) j)) k.1,
          )
      from more (inr k) =
          let r = k.2 in
          let next = r.next in
          let top = r.top in
          let low = r.low in
          let high = r.high in
          let there = same k.1 (InOlder (omega arith) (omega arith)) in
          inr (
            k.0,
            k.1,
            record {
              next = next;
              top = top;
              link = (same end (InHere (omega arith) (omega arith))).0 ∙ r.link;
              low = low;
              high = high;
              word = there.0 ∙ r.word;
              clear = there.1 r.clear;
            },
            more k.0 (k.1 + 2) (λ b j. same b (on_older b g k.0 sp (k.1 + 2) next (omega arith) j)) k.3,
          )
  stack_same g sp [] (c ∷ cs) same h = absurd h
  stack_same g sp (l ∷ ls) [] same h = absurd h

-- ---- and so do the temporaries, where their codes stay

module _ (alive alive2 : List Placed) where
  abbrev pub CodeStays : Temporary → Type 0
  CodeStays t = (w : ℕ) → HasCode (temporary_code alive t) w → HasCode (temporary_code alive2 t) w

  held_stays : (f f2 : Cells) (a : ℕ) (d : Bool) (t : Temporary) → f2 a ≡ f a → CodeStays t
      → IsHeld f a d (temporary_code alive t)
      → IsHeld f2 a d (temporary_code alive2 t)
  held_stays f f2 a true t e k h = (h.0, e ∙ h.1, k h.0 h.2)
  held_stays f f2 a false t e k h = (h.0, e ∙ h.1)

  all_held_stay : (f f2 : Cells) (base : ℕ) (ts : List Temporary) → ((d : ℕ) → d < length ts
      → f2 (base + 2 * d) ≡ f (base + 2 * d))
      → Every CodeStays ts → AreHeld f alive base ts → AreHeld f2 alive2 base ts
  all_held_stay f f2 base [] e k h = tt
  all_held_stay f f2 base (t ∷ ts) e k h = (
    held_stays f f2 (base + 2 * length ts) (is_defined t) t (e (length ts) (omega arith)) k.0 h.0,
    all_held_stay f f2 base ts (λ d j. e d (omega arith)) k.1 h.1,
  )

  pub call_stays : (f f2 : Cells) (fn : IrFunction) (sp : ℕ) (ts : List Temporary)
      → ((b : ℕ) → sp + temporaries_at fn ≤ b → b < sp + fn.frame → f2 b ≡ f b) → Every CodeStays ts
      → CallHolds f alive fn sp ts → CallHolds f2 alive2 fn sp ts
  call_stays f f2 fn sp ts e k h =
      let room = h.room in
      record {
        words = λ d j. let w = h.words d j in (w.0, e _ (omega arith) (omega arith) ∙ w.1);
        room = h.room;
        held = all_held_stay f f2 (sp + temporaries_at fn) ts (λ d j. e _ (omega arith) (omega arith)) k h.held;
      }

  pub holds_stay : (p : Setting) (all own f f2 : Cells) (g sp : ℕ) (ls : List Frame) (cs : List Call)
      → ((b : ℕ) → On g sp b → f2 b ≡ f b) → Every (λ (l : Frame). Every CodeStays l.temporaries) ls
      → Stacked p all own g sp ls cs → Holds p.ir f alive ls cs → Holds p.ir f2 alive2 ls cs
  holds_stay p all own f f2 g sp [] [] e k s h = tt
  holds_stay p all own f f2 g sp (l ∷ ls) (c ∷ cs) e k s h = (
    mine,
    from (λ g2 sp2 j i. holds_stay p all own f f2 g2 sp2 ls cs j
        k.1 i h.1) s.1,
  )
    where
      end : ℕ
      end = sp + (function_of p l.function).frame

      mine : CallHolds f2 alive2 (function_of p l.function) c.frame l.temporaries
      mine =
          let frame = s.0.frame in
          let top = frame_top p all own g end ls cs s.1 in
          call_stays f f2 (function_of p l.function) c.frame l.temporaries
          (λ b low high. e b (InHere (omega arith) (omega arith))) k.0 h.0

      from : ((g2 sp2 : ℕ) → ((b : ℕ) → On g2 sp2 b → f2 b ≡ f b) → Stacked p all own g2 sp2 ls cs → Holds p.ir f2 alive2 ls cs)
          → ((ReturnsHere all (return_to p ls) g end × Stacked p all own g (end + 2) ls cs)
          ⊎ ((older : ℕ) × (b : ℕ) × ReturnsBelow all own (return_to p ls) g end older b × Stacked p all own older (b + 2) ls cs))
          → Holds p.ir f2 alive2 ls cs
      from more (inl j) = more g (end + 2) (λ b i. e b (on_up b g sp (end + 2) (omega arith) i)) j.1
      from more (inr j) =
          let low = j.2.low in
          more j.0 (j.1 + 2) (λ b i. e b (on_older b g j.0 sp (j.1 + 2) j.2.next (omega arith) i)) j.3
  holds_stay p all own f f2 g sp [] (c ∷ cs) e k s h = absurd s
  holds_stay p all own f f2 g sp (l ∷ ls) [] e k s h = absurd s

-- ---- codes where objects go

-- of the objects that are left each is where it was
abbrev pub Fewer : (alive alive2 : List Placed) → Type 0
Fewer alive alive2 = (n : ℕ) → (address_of alive2 n ≡ None) ⊎ (address_of alive2 n ≡ address_of alive n)

pub fewer_left : (ps qs : List Placed) → Fewer (ps ++ qs) ps
fewer_left [] qs n = inl refl
fewer_left (q ∷ ps) qs n = from (nat_eq q.object.number n) (fewer_left ps qs n)
  where
    from : (t : Bool) → (address_of ps n ≡ None) ⊎ (address_of ps n ≡ address_of (ps ++ qs) n)
        → ((if t then Some q.address else address_of ps n) ≡ None)
        ⊎ ((if t then Some q.address else address_of ps n) ≡ (if t then Some q.address else address_of (ps ++ qs) n))
    from true h = inr refl
    from false h = h

module _ (alive alive2 : List Placed) (fewer : Fewer alive alive2) where
  pointer_fewer : (n o w : ℕ) → HasCode (pointer_code (address_of alive n) o) w → HasCode (pointer_code (address_of alive2 n) o) w
  pointer_fewer n o w h = from (fewer n)
    where
      from : ((address_of alive2 n ≡ None) ⊎ (address_of alive2 n ≡ address_of alive n))
          → HasCode (pointer_code (address_of alive2 n) o) w
      from (inl e) = subst (λ (x : Option ℕ). HasCode (pointer_code x o) w) (sym e) tt
      from (inr e) = subst (λ (x : Option ℕ). HasCode (pointer_code x o) w) (sym e) h

  pub value_fewer : (v : Value) (w : ℕ) → HasCode (value_code alive v) w → HasCode (value_code alive2 v) w
  value_fewer (Int z) w h = h
  value_fewer (Pointer n o) w h = pointer_fewer n o w h
  value_fewer Null w h = h
  value_fewer Undefined w h = tt

  place_fewer : (x : Option ℕ) (o w : ℕ) (b : Bool) → HasCode (if b then pointer_code (object_address alive x) o else None) w
      → HasCode (if b then pointer_code (object_address alive2 x) o else None) w
  place_fewer x o w false h = tt
  place_fewer None o w true h = h
  place_fewer (Some n) o w true h = pointer_fewer n o w h

  pub code_fewer : (t : Temporary) → CodeStays alive alive2 t
  code_fewer (temporary.Value v) w h = value_fewer v w h
  code_fewer (temporary.Place l) w h = place_fewer l.object l.offset w (nat_lt l.offset 65536) h

  some_cell : (f : Cells) (a : ℕ) (k : Kind) (x : Option ℕ) → HasCell f a k x → (held : Option ℕ) × (f a ≡ Some (cell_of k held))
  some_cell f a k None h = h
  some_cell f a k (Some w) h = (Some w, h)

  has_again : (f f2 : Cells) (a : ℕ) (k : Kind) (x : Option ℕ) → f2 a ≡ f a → HasCell f a k x → HasCell f2 a k x
  has_again f f2 a k None e h = (h.0, e ∙ h.1)
  has_again f f2 a k (Some w) e h = e ∙ h

  -- the cell of a scalar stays
  pub cell_fewer : (f f2 : Cells) (a : ℕ) (k : Kind) (v : Value) → f2 a ≡ f a → HasCell f a k (encoded alive k v)
      → HasCell f2 a k (encoded alive2 k v)
  cell_fewer f f2 a k (Int z) e h = e ∙ h
  cell_fewer f f2 a k Null e h = e ∙ h
  cell_fewer f f2 a k Undefined e h = (h.0, e ∙ h.1)
  cell_fewer f f2 a k (Pointer n o) e h = from (fewer n)
    where
      from : ((address_of alive2 n ≡ None) ⊎ (address_of alive2 n ≡ address_of alive n))
          → HasCell f2 a k (pointer_code (address_of alive2 n) o)
      from (inl i) =
          let c = some_cell f a k (pointer_code (address_of alive n) o) h in
          subst (λ (x : Option ℕ). HasCell f2 a k (pointer_code x o)) (sym i) (c.0, e ∙ c.1)
      from (inr i) =
          subst (λ (x : Option ℕ). HasCell f2 a k (pointer_code x o)) (sym i)
          (has_again f f2 a k (pointer_code (address_of alive n) o) e h)

-- ---- the objects of a call that is left

pub calls_split : (core : Core) (xs : List Call) (c : Call)
    → placed_in_calls core (xs ++ c ∷ []) ≡ placed_in_calls core xs ++ (placed_from (local_address core c) 0 c.locals ++ [])
calls_split core [] c = refl
calls_split core (x ∷ xs) c =
    ap (λ (k : List Placed). placed_from (local_address core x) 0 x.locals ++ k) (calls_split core xs c)
    ∙ sym (append_assoc (placed_from (local_address core x) 0 x.locals) (placed_in_calls core xs)
    (placed_from (local_address core c) 0 c.locals ++ []))

-- ---- stamps and outputs

pub stamps_stay : (f f2 : Cells) (core : Core) (n : ℕ) (stamps : List (Option ℕ)) → ((b : ℕ) → data_start ≤ b → f2 b ≡ f b)
    → ((n : ℕ) → data_start ≤ stamp_address core n) → StampsCovered f core n stamps → StampsCovered f2 core n stamps
stamps_stay f f2 core n [] same high h = tt
stamps_stay f f2 core n (x ∷ more) same high h =
    let low = high n in (
      record {
        low = same (stamp_address core n) low ∙ h.0.low;
        high = same (stamp_address core n + 2) (omega arith) ∙ h.0.high;
      },
      stamps_stay f f2 core (n + 1) more same high h.1,
    )

pub outputs_stay : (g sp : ℕ) (ps : ℕ → ℕ) (all own own2 : Cells) → Shape g sp ps all
    → ((b : ℕ) (x : Cell) → own b ≡ Some x → all b ≡ Some x) → ((b : ℕ) → b < stack_start → own2 b ≡ own b)
    → (ws : List ℕ) (a : ℕ) → a % 2 ≡ 0 → outputs_start ≤ a → a ≤ outputs_end → WordsCovered own a ws → WordsCovered own2 a ws
outputs_stay g sp ps all own own2 shape part same [] a even low high h = tt
outputs_stay g sp ps all own own2 shape part same (w ∷ ws) a even low high h =
    let inside = at_a (shape.live a (Word (Some w)) (part a (Word (Some w)) h.0)) in (
      same a (omega arith) ∙ h.0,
      outputs_stay g sp ps all own own2 shape part same ws (a + 2) (omega arith) (omega arith) (omega
          arith) h.1,
    )
  where
    at_a : Live g sp ps a → a < outputs_end
    at_a (OfOutput l k) = k
    at_a (OfData l k) = absurd (omega arith)
    at_a (OfFrame l k t m) = absurd (omega arith)
    at_a (OfOlder l k t m) = absurd (omega arith)

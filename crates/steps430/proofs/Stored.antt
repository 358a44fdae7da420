-- A store to one scalar of a state, of any object and through any pointer, is one cell set, and all else stands.
use Rattle.std.proofs.Common.{◌≡◌, ◌≢◌, ℕ, ◌+◌, ◌*◌, ◌%◌, ◌<◌, ◌≤◌, refl, sym, ap, ◌∙◌, subst, arith, Bool, true, false, ◌⊎◌, inl, inr, List, [], ◌∷◌, ◌++◌, map, length, reverse, Option, Some, None, Result, Ok, Err, if◌then◌else◌}
use Rattle.std.proofs.lemmas.Bool.{eqb-true, eqb-false}
use Rattle.std.proofs.lemmas.List.{length-map, reverse-append}
use Rattle.std.specs.Prelude.{ℤ, pos, nat_eq, nat_lt}
use Rattle.base16.specs.Board.{outputs_start, outputs_end, stack_start, stack_end, data_start, data_end}
use Rattle.base16.specs.Integer.{wrapped}
use Rattle.base16.specs.declared.image.Kind.{Kind}
use Rattle.base16.specs.declared.image.Kind.TheVariants as kind
use Rattle.core430.specs.Uses.{AreWords}
use Rattle.ideal430.specs.Settled.{Bytes}
use Rattle.c_run.specs.Actions.{kept}
use Rattle.c_values.specs.Objects.{wide as wide_kind, put_cell, put_object, with_scalar, accessed}
use Rattle.c_values.specs.Operators.{as_type}
use Rattle.c_values.specs.Pointers.{at as place_at}
use Rattle.c_values.specs.Values.{fitted}
use Rattle.c_values.specs.declared.state.Call.{Call}
use Rattle.c_values.specs.declared.state.Object.{Object}
use Rattle.c_values.specs.declared.state.State.{State}
use Rattle.c_values.specs.declared.value.Cell.{Cell as Scalar}
use Rattle.c_values.specs.declared.value.Value.{Value}
use Rattle.c_values.specs.declared.value.Value.TheVariants.{Int, Pointer, Null, Undefined}
use Rattle.cells430.specs.Cells.{Cell, Word, Cells, set_cell, Live, OfOutput, OfData, OfFrame, OfOlder, Shape, Facts}
use Rattle.cells430.proofs.Cells.{set_cell-same, set_cell-other, some_none, shape_set, shape_set_byte}
use Rattle.core_tree.specs.Data.{global_address, stamp_address}
use Rattle.core_tree.specs.LawfulCore.{Every}
use Rattle.core_tree.specs.declared.program.Core.{Core}
use Rattle.ir.specs.declared.control.Frame.{Frame}
use Rattle.ir.specs.declared.control.Temporary.{Temporary}
use Rattle.ir.specs.declared.control.Temporary.TheVariants as temporary
use Rattle.matching.specs.Covering.{cell_by, cell_of, HasCell, Covered, WordsCovered, StampsCovered, IsCovered, IsOther, Apart}
use Rattle.matching.specs.Matches.{Placed, placed_from, local_address, placed_in_calls, placed, address_of, number_code, pointer_code, encoded}
use Rattle.matching.proofs.Making.{stored_made}
use Rattle.matching.proofs.Storing.{cell_stays}
use Rattle.select430.specs.Frames.{temporaries_at}
use Rattle.steps430.specs.Setting.{Setting, NumberedFrom, function_of, StandsAlone, IsLaid}
use Rattle.steps430.specs.Holds.{is_defined, HasCode, object_address, temporary_code, IsHeld, AreHeld, CallHolds, Holds}
use Rattle.steps430.specs.Standing.{IsWhole, AreWhole, IsFilled, AreFilled, IsFrame, ReturnsHere, ReturnsBelow, Stacked, return_to, Stage}
use Rattle.steps430.proofs.Keeping.{call_off}
use Rattle.steps430.proofs.Scalars.{accesses}
use Rattle.steps430.proofs.Reading.{same_address}

-- ---- what is done to each object of a state

-- each object becomes another one
abbrev pub changed_call : (Object → Object) → Call → Call
changed_call f c = record c { locals = map f c.locals }

abbrev pub mapped : (Object → Object) → State → State
mapped f s = record s { globals = map f s.globals; calls = map (changed_call f) s.calls }

abbrev pub changed : (Object → Object) → Placed → Placed
changed f q = record { object = f q.object; address = q.address }

map_append : {A B : Type 0} (f : A → B) (xs ys : List A) → map f (xs ++ ys) ≡ map f xs ++ map f ys
map_append f [] ys = refl
map_append f (x ∷ xs) ys = ap (λ zs. f x ∷ zs) (map_append f xs ys)

pub reverse_map : {A B : Type 0} (f : A → B) (xs : List A) → reverse (map f xs) ≡ map f (reverse xs)
reverse_map f [] = refl
reverse_map f (x ∷ xs) =
    reverse-append (f x ∷ []) (map f xs) ∙ ap (λ ys. ys ++ f x ∷ []) (reverse_map f xs) ∙ sym (map_append f (reverse xs) (x ∷ []))
    ∙ ap (map f) (sym (reverse-append (x ∷ []) xs))

objects_changed : (f : Object → Object) (address : ℕ → ℕ) (i : ℕ) (xs : List Object)
    → placed_from address i (map f xs) ≡ map (changed f) (placed_from address i xs)
objects_changed f address i [] = refl
objects_changed f address i (x ∷ xs) =
    ap (λ (ps : List Placed). record { object = f x; address = address i } ∷ ps) (objects_changed f address (i + 1) xs)

calls_changed : (f : Object → Object) (core : Core) (cs : List Call)
    → placed_in_calls core (map (changed_call f) cs) ≡ map (changed f) (placed_in_calls core cs)
calls_changed f core [] = refl
calls_changed f core (c ∷ cs) =
    let more = placed_in_calls core (map (changed_call f) cs) in
    let own = placed_from (local_address core c) 0 c.locals in
    ap (λ (ps : List Placed). ps ++ more) (objects_changed f (local_address core c) 0 c.locals)
    ∙ ap (λ (ps : List Placed). map (changed f) own ++ ps) (calls_changed f core cs)
    ∙ sym (map_append (changed f) own (placed_in_calls core cs))

-- the objects that are alive are the changed ones, where they were
pub placed_changed : (f : Object → Object) (core : Core) (s : State)
    → placed core (kept (mapped f s)) ≡ map (changed f) (placed core (kept s))
placed_changed f core s =
    let more = placed_in_calls core (map (changed_call f) s.calls) in
    let own = placed_from (λ i. global_address core i) 0 s.globals in
    ap (λ (ps : List Placed). ps ++ more) (objects_changed f (λ i. global_address core i) 0 s.globals)
    ∙ ap (λ (ps : List Placed). map (changed f) own ++ ps) (calls_changed f core s.calls)
    ∙ sym (map_append (changed f) own (placed_in_calls core s.calls))

-- ---- addresses and codes stay, where numbers do

module _ (f : Object → Object) (number : (o : Object) → (f o).number ≡ o.number) where
  address_same : (ps : List Placed) (j : ℕ) → address_of (map (changed f) ps) j ≡ address_of ps j
  address_same [] j = refl
  address_same (q ∷ ps) j =
      ap (λ (x : ℕ). if nat_eq x j then Some q.address else address_of (map (changed f) ps) j) (number q.object)
      ∙ ap (λ (x : Option ℕ). if nat_eq q.object.number j then Some q.address else x) (address_same ps j)

  pub encoded_same : (ps : List Placed) (k : Kind) (v : Value) → encoded (map (changed f) ps) k v ≡ encoded ps k v
  encoded_same ps k (Int z) = refl
  encoded_same ps k (Pointer j offset) = ap (λ (x : Option ℕ). pointer_code x offset) (address_same ps j)
  encoded_same ps k Null = refl
  encoded_same ps k Undefined = refl

  place_same : (ps : List Placed) (x : Option ℕ) → object_address (map (changed f) ps) x ≡ object_address ps x
  place_same ps None = refl
  place_same ps (Some n) = address_same ps n

  pub temporary_same : (ps : List Placed) (t : Temporary) → temporary_code (map (changed f) ps) t ≡ temporary_code ps t
  temporary_same ps (temporary.Value v) = encoded_same ps kind.Int v
  temporary_same ps (temporary.Place l) =
      ap (λ (x : Option ℕ). if nat_lt l.offset 65536 then pointer_code x l.offset else None) (place_same ps l.object)

  pub held_same : (g : Cells) (ps : List Placed) (base : ℕ) (ts : List Temporary) → AreHeld g ps base ts
      → AreHeld g (map (changed f) ps) base ts
  held_same g ps base [] h = tt
  held_same g ps base (t ∷ ts) h = (
    subst (λ (x : Option ℕ). IsHeld g (base + 2 * length ts) (is_defined t) x) (sym (temporary_same ps t)) h.0,
    held_same g ps base ts h.1,
  )

  pub holds_same : (p : Setting) (g : Cells) (ps : List Placed) (ls : List Frame) (cs : List Call) → Holds p.ir g ps ls cs
      → Holds p.ir g (map (changed f) ps) ls (map (changed_call f) cs)
  holds_same p g ps [] [] h = tt
  holds_same p g ps (l ∷ ls) (c ∷ cs) h = (
    record {
      words = h.0.words;
      room = h.0.room;
      held = held_same g ps (c.frame + temporaries_at (function_of p l.function)) l.temporaries h.0.held;
    },
    holds_same p g ps ls cs h.1,
  )
  holds_same p g ps [] (c ∷ cs) h = absurd h
  holds_same p g ps (l ∷ ls) [] h = absurd h

  numbered_same : (n : ℕ) (os : List Object) → NumberedFrom n os → NumberedFrom n (map f os)
  numbered_same n [] h = tt
  numbered_same n (o ∷ os) h = (number o ∙ h.0, numbered_same (n + 1) os h.1)

  frame_same : (p : Setting) (own : Cells) (l : Frame) (c : Call) (sp : ℕ) → IsFrame p own l c sp
      → IsFrame p own l (changed_call f c) sp
  frame_same p own l c sp h = record {
    frame = h.frame;
    function = h.function;
    numbers = numbered_same l.first c.locals h.numbers;
    locals = length-map c.locals f ∙ h.locals;
    objects = h.objects;
    clear = h.clear;
  }

  pub stacked_same : (p : Setting) (all own : Cells) (segment sp : ℕ) (ls : List Frame) (cs : List Call)
      → Stacked p all own segment sp ls cs
      → Stacked p all own segment sp ls (map (changed_call f) cs)
  stacked_same p all own segment sp [] [] h = h
  stacked_same p all own segment sp (l ∷ ls) (c ∷ cs) h =
      (frame_same p own l c sp h.0, from (λ g2 sp2 k. stacked_same p all own g2 sp2 ls cs k) h.1)
    where
      end : ℕ
      end = sp + (function_of p l.function).frame

      from : ((g2 sp2 : ℕ) → Stacked p all own g2 sp2 ls cs → Stacked p all own g2 sp2 ls (map (changed_call f) cs))
          → ((ReturnsHere all (return_to p ls) segment end × Stacked p all own segment (end + 2) ls cs)
          ⊎ ((older : ℕ) × (b : ℕ) × ReturnsBelow all own (return_to p ls) segment end older b
          × Stacked p all own older (b + 2) ls cs))
          → ((ReturnsHere all (return_to p ls) segment end × Stacked p all own segment (end + 2) ls (map (changed_call f) cs))
          ⊎ ((older : ℕ) × (b : ℕ) × ReturnsBelow all own (return_to p ls) segment end older b
          × Stacked p all own older (b + 2) ls (map (changed_call f) cs)))
      from more (inl k) = inl (k.0, more segment (end + 2) k.1)
      from more (inr k) = inr (k.0, k.1, k.2, more k.0 (k.1 + 2) k.3)
  stacked_same p all own segment sp [] (c ∷ cs) h = h
  stacked_same p all own segment sp (l ∷ ls) [] h = h

-- ---- a cell of the state is set

module _ (p : Setting) (own : Cells) (a : ℕ) (x old : Cell) (there : own a ≡ Some old) where
  off : (b : ℕ) → own b ≡ None → b ≢ a
  off b none e = some_none (own b) old (ap own e ∙ there) none

  none_set : (b : ℕ) → own b ≡ None → set_cell own a x b ≡ None
  none_set b none = set_cell-other own a b x (off b none) ∙ none

  pub stacked_set : (all : Cells) (segment sp : ℕ) (ls : List Frame) (cs : List Call) → Stacked p all own segment sp ls cs
      → Stacked p (set_cell all a x) (set_cell own a x) segment sp ls cs
  stacked_set all segment sp [] [] h = h
  stacked_set all segment sp (l ∷ ls) (c ∷ cs) h = (
    record {
      frame = h.0.frame;
      function = h.0.function;
      numbers = h.0.numbers;
      locals = h.0.locals;
      objects = h.0.objects;
      clear = λ b i j. none_set b (h.0.clear b i j);
    },
    from (λ g2 sp2 k. stacked_set all g2 sp2 ls cs k) h.1,
  )
    where
      end : ℕ
      end = sp + (function_of p l.function).frame

      at_end : end ≢ a
      at_end = let few = h.0.objects in off end (h.0.clear end (omega arith) (omega arith))

      from : ((g2 sp2 : ℕ) → Stacked p all own g2 sp2 ls cs → Stacked p (set_cell all a x) (set_cell own a x) g2 sp2 ls cs)
          → ((ReturnsHere all (return_to p ls) segment end × Stacked p all own segment (end + 2) ls cs)
          ⊎ ((older : ℕ) × (b : ℕ) × ReturnsBelow all own (return_to p ls) segment end older b
          × Stacked p all own older (b + 2) ls cs))
          → ((ReturnsHere (set_cell all a x) (return_to p ls) segment end
          × Stacked p (set_cell all a x) (set_cell own a x) segment (end + 2) ls cs)
          ⊎ ((older : ℕ) × (b : ℕ) × ReturnsBelow (set_cell all a x) (set_cell own a x) (return_to p ls) segment end older b
          × Stacked p (set_cell all a x) (set_cell own a x) older (b + 2) ls cs))
      from more (inl k) = inl (
        record { word = set_cell-other all a end x at_end ∙ k.0.word; below = k.0.below; no_link = k.0.no_link },
        more segment (end + 2) k.1,
      )
      from more (inr k) = inr (
        k.0,
        k.1,
        record {
          next = k.2.next;
          top = k.2.top;
          link = set_cell-other all a end x at_end ∙ k.2.link;
          low = k.2.low;
          high = k.2.high;
          word = set_cell-other all a k.1 x (off k.1 k.2.clear) ∙ k.2.word;
          clear = none_set k.1 k.2.clear;
        },
        more k.0 (k.1 + 2) k.3,
      )
  stacked_set all segment sp [] (c ∷ cs) h = h
  stacked_set all segment sp (l ∷ ls) [] h = h

  pub holds_set : (all f : Cells) (alive : List Placed) (segment sp : ℕ) (ls : List Frame) (cs : List Call)
      → Stacked p all own segment sp ls cs → Holds p.ir f alive ls cs → Holds p.ir (set_cell f a x) alive ls cs
  holds_set all f alive segment sp [] [] s h = tt
  holds_set all f alive segment sp (l ∷ ls) (c ∷ cs) s h =
      (mine, from (λ g2 sp2 k. holds_set all f alive g2 sp2 ls cs k h.1) s.1)
    where
      end : ℕ
      end = sp + (function_of p l.function).frame

      mine : CallHolds (set_cell f a x) alive (function_of p l.function) c.frame l.temporaries
      mine =
          let e = s.0.frame in
          call_off f alive (function_of p l.function) c.frame l.temporaries a x
          (λ b i j. off b (s.0.clear b (omega arith) (omega arith))) h.0

      from : ((g2 sp2 : ℕ) → Stacked p all own g2 sp2 ls cs → Holds p.ir (set_cell f a x) alive ls cs)
          → ((ReturnsHere all (return_to p ls) segment end × Stacked p all own segment (end + 2) ls cs)
          ⊎ ((older : ℕ) × (b : ℕ) × ReturnsBelow all own (return_to p ls) segment end older b
          × Stacked p all own older (b + 2) ls cs))
          → Holds p.ir (set_cell f a x) alive ls cs
      from more (inl k) = more segment (end + 2) k.1
      from more (inr k) = more k.0 (k.1 + 2) k.3
  holds_set all f alive segment sp [] (c ∷ cs) s h = absurd h
  holds_set all f alive segment sp (l ∷ ls) [] s h = absurd h

-- ---- each scalar of each object, where one is set

module _ (n base o : ℕ) (k : Kind) (v : Value) (P Q : ℕ → Scalar → Type 0)
    (here : (b : ℕ) (c : Scalar) → b + c.offset ≡ base + o → c.kind ≡ k → P b c → Q b (record c { value = v }))
    (there : (b : ℕ) (c : Scalar) → b + c.offset ≢ base + o → P b c → Q b c) where
  in_object : (q : Placed) (cs : List Scalar) → q.object.number ≡ n → q.address ≡ base → Every (IsOther n base o k q) cs
      → Every (P q.address) cs → Every (Q q.address) (map (put_cell o v) cs)
  in_object q [] is at others h = tt
  in_object q (c ∷ cs) is at others h = (from (nat_eq c.offset o) refl, in_object q cs is at others.1 h.1)
    where
      from : (t : Bool) → nat_eq c.offset o ≡ t → Q q.address (if t then record c { value = v } else c)
      from true e =
          let offset : c.offset ≡ o = eqb-true c.offset o e in
          let same : q.address + c.offset ≡ base + o = omega arith in
          here q.address c same (others.0.apart same).2 h.0
      from false e =
          let offset : c.offset ≢ o = eqb-false c.offset o e in
          there q.address c (λ same. offset (others.0.apart same).1) h.0

  elsewhere : (q : Placed) (cs : List Scalar) → q.object.number ≢ n → Every (IsOther n base o k q) cs
      → Every (P q.address) cs → Every (Q q.address) cs
  elsewhere q [] other others h = tt
  elsewhere q (c ∷ cs) other others h =
      (there q.address c (λ same. other (others.0.apart same).0) h.0, elsewhere q cs other others.1 h.1)

  pub every_stored : (ps : List Placed) → Every (Apart n base o k) ps → Every (λ q. Every (P q.address) q.object.cells) ps
      → Every (λ q. Every (Q q.address) q.object.cells) (map (changed (put_object n o v)) ps)
  every_stored [] apart h = tt
  every_stored (q ∷ ps) apart h = (from (nat_eq q.object.number n) refl, every_stored ps apart.1 h.1)
    where
      from : (t : Bool) → nat_eq q.object.number n ≡ t
          → Every (Q q.address) (if t then record (q.object) { cells = map (put_cell o v) q.object.cells } else q.object).cells
      from true e =
          let is = eqb-true q.object.number n e in
          in_object q q.object.cells is (apart.0.here is) apart.0.scalars h.0
      from false e = elsewhere q q.object.cells (eqb-false q.object.number n e) apart.0.scalars h.0

-- ---- what a store leaves

abbrev fine : Value → Result Value ℕ
fine v = Ok v

abbrev wrong : ℕ → Result Value ℕ
wrong n = Err n

same_value : (a b : Value) → fine a ≡ fine b → a ≡ b
same_value a b e = cc

never : {A : Type 0} (n : ℕ) (b : Value) → wrong n ≡ fine b → A
never n b e = absurd (differ e)
  where
    differ : wrong n ≡ fine b → ⊥
    differ k = cc

same_int : (x y : ℤ) → Int x ≡ Int y → x ≡ y
same_int x y e = cc

-- a char that is stored is a byte
char_whole : (n : ℕ) → number_code kind.Char (pos (n % 256)) ≡ wrapped (pos (n % 256))
char_whole n = omega arith

pub fitted_whole : (k : Kind) (v w : Value) (z : ℤ) → fitted k v ≡ Ok w → w ≡ Int z → number_code k z ≡ wrapped z
unfolding fitted as_type
fitted_whole kind.Int v w z e is = refl
fitted_whole kind.UInt v w z e is = refl
fitted_whole kind.Pointer v w z e is = refl
fitted_whole kind.Char (Int y) w z e is =
    let same : pos (wrapped y % 256) ≡ z = same_int (pos (wrapped y % 256)) z (same_value (Int (pos (wrapped y % 256))) w e
    ∙ is) in
    subst (λ (i : ℤ). number_code kind.Char i ≡ wrapped i) same (char_whole (wrapped y))
fitted_whole kind.Char (Pointer n o) w z e is = never 0 w e
fitted_whole kind.Char Null w z e is = never 0 w e
fitted_whole kind.Char Undefined w z e is = never 11 w e

-- ---- the cell that is set

-- a scalar that is accessed has its cell
pub has_cell : (own : Cells) (b : ℕ) (k : Kind) (o : Option ℕ) → HasCell own b k o → (x : Option ℕ) × (own b ≡ Some (cell_of k x))
has_cell own b k None h = h
has_cell own b k (Some code) h = (Some code, h)

pub accessed_cell : (core : Core) (s : State) (own : Cells) (n offset : ℕ) (k : Kind) (v : Value)
    → accessed s (place_at n offset) k ≡ Ok v
    → IsCovered core (kept s) own → (base : ℕ) → address_of (placed core (kept s)) n ≡ Some base
    → (x : Option ℕ) × (own (base + offset) ≡ Some (cell_of k x))
accessed_cell core s own n offset k v e covered base is =
    let a = accesses core s (place_at n offset) k v e in
    let alive : List Placed = placed core (kept s) in
    let c : Scalar = a.scalar in
    let cell : HasCell own (a.base + c.offset) c.kind (encoded alive c.kind c.value) =
    a.is_scalar.among (λ x. HasCell own (a.base + x.offset) x.kind (encoded alive x.kind x.value))
    (a.is_found.among (λ q. Every (λ x. HasCell own (q.address + x.offset) x.kind (encoded alive x.kind x.value)) q.object.cells)
    covered.objects) in
    let some = has_cell own (a.base + c.offset) c.kind (encoded alive c.kind c.value) cell in
    let number : n ≡ a.number = same_address n a.number a.object in
    let base_is : base ≡ a.base = same_address base a.base
    (sym is ∙ ap (λ (j : ℕ). address_of alive j) number ∙ a.is_found.address) in (
      some.0,
      ap (λ (b : ℕ). own (b + offset)) base_is ∙ ap (λ (o : ℕ). own (a.base + o)) (sym a.is_scalar.place) ∙ some.1
          ∙ ap (λ (x : Kind). Some (cell_of x some.0)) a.is_scalar.kind,
    )

-- a cell of its width takes its place
shape_by : (segment sp : ℕ) (ps : ℕ → ℕ) (f : Cells) (a : ℕ) (wide : Bool) (x : Option ℕ) (code : ℕ) → Shape segment sp ps f
    → f a ≡ Some (cell_by wide x) → Shape segment sp ps (set_cell f a (cell_by wide (Some code)))
shape_by segment sp ps f a true x code h e = shape_set segment sp ps f h a x (Some code) e
shape_by segment sp ps f a false x code h e = shape_set_byte segment sp ps f h a x (Some code) e

-- ---- stamps and outputs stay

stamps_away : (f : Cells) (a : ℕ) (x : Cell) (core : Core) (n : ℕ) (xs : List (Option ℕ))
    → ((m : ℕ) → (stamp_address core m ≢ a) × (stamp_address core m + 2 ≢ a))
    → StampsCovered f core n xs → StampsCovered (set_cell f a x) core n xs
stamps_away f a x core n [] away h = tt
stamps_away f a x core n (y ∷ ys) away h =
    let two = away n in (
      record {
        low = set_cell-other f a (stamp_address core n) x two.0 ∙ h.0.low;
        high = set_cell-other f a (stamp_address core n + 2) x two.1 ∙ h.0.high;
      },
      stamps_away f a x core (n + 1) ys away h.1,
    )

-- where a cell may be that is not above the outputs
live_output : (segment sp : ℕ) (ps : ℕ → ℕ) (b : ℕ) → b ≤ outputs_end → Live segment sp ps b → b < outputs_end
live_output segment sp ps b few (OfOutput l h) = h
live_output segment sp ps b few (OfData l h) = absurd (omega arith)
live_output segment sp ps b few (OfFrame l h t k) = absurd (omega arith)
live_output segment sp ps b few (OfOlder l h t k) = absurd (omega arith)

words_away : (segment sp : ℕ) (ps : ℕ → ℕ) (f : Cells) (a : ℕ) (x : Cell) (b : ℕ) (ws : List ℕ) → outputs_end < a
    → b ≤ outputs_end
    → b % 2 ≡ 0 → ((c : ℕ) (y : Cell) → f c ≡ Some y → Live segment sp ps c)
    → WordsCovered f b ws → WordsCovered (set_cell f a x) b ws
words_away segment sp ps f a x b [] high few even live h = tt
words_away segment sp ps f a x b (w ∷ ws) high few even live h =
    let low : b < outputs_end = live_output segment sp ps b few (live b (Word (Some w)) h.0) in
    let other : b ≢ a = omega arith in (
      set_cell-other f a b x other ∙ h.0,
      words_away segment sp ps f a x (b + 2) ws high (omega arith) (omega arith) live h.1,
    )

-- ---- the stage

-- a scalar that is accessed lies above the outputs
pub above_outputs : (address offset : ℕ) → ((data_start ≤ address) × (address + offset < data_end))
    ⊎ ((stack_start ≤ address) × (address + offset < stack_end)) → outputs_end < address + offset
above_outputs address offset (inl h) = let k = h.0 in omega arith
above_outputs address offset (inr h) = let k = h.0 in omega arith

part_set : (all own : Cells) (a : ℕ) (x : Cell) → ((b : ℕ) (y : Cell) → own b ≡ Some y → all b ≡ Some y) → (b : ℕ) (y : Cell)
    → set_cell own a x b ≡ Some y → set_cell all a x b ≡ Some y
part_set all own a x part b y e = from (nat_eq b a) e
  where
    from : (t : Bool) → (if t then Some x else own b) ≡ Some y → (if t then Some x else all b) ≡ Some y
    from true k = k
    from false k = part b y k

cell_here : (f : Cells) (a b : ℕ) (k kd : Kind) (code : ℕ) (o : Option ℕ) → b ≡ a → kd ≡ k → HasCode o code
    → HasCell (set_cell f a (cell_of k (Some code))) b kd o
cell_here f a b k kd code None is kind has =
    (Some code, set_cell-same f a b (cell_of k (Some code)) is ∙ ap (λ (x : Kind). Some (cell_of x (Some code))) (sym kind))
cell_here f a b k kd code (Some c) is kind has =
    set_cell-same f a b (cell_of k (Some code)) is ∙ ap (λ (x : Kind). Some (cell_of x (Some code))) (sym kind)
    ∙ ap (λ (y : ℕ). Some (cell_of kd (Some y))) has

module _ (p : Setting) (lay : IsLaid p) (s : State) (next : ℕ) (frames : List Frame) (all own : Cells) (segment base sp : ℕ)
    (ps r m r2 m2 : ℕ → ℕ) (st st2 : Bytes) where
  -- a scalar that is accessed is set to a value that stands whole in it, or to none
  pub stage_set : (n offset : ℕ) (k : Kind) (old w : Value) (code : ℕ)
      (h : Stage p s next frames all own segment base sp ps r m st)
      (e : accessed s (place_at n offset) k ≡ Ok old) → ((z : ℤ) → w ≡ Int z → number_code k z ≡ wrapped z)
      → HasCode (encoded (placed p.core (kept s)) k w) code
      → r2 1 ≡ sp → AreWords r2
      → Facts p.code p.low p.high
      (set_cell all ((lay.alone next s n offset k old h.made e).address + offset) (cell_of k (Some code))) m2 st2
      → Stage p (with_scalar n offset w s) next frames
      (set_cell all ((lay.alone next s n offset k old h.made e).address + offset) (cell_of k (Some code)))
      (set_cell own ((lay.alone next s n offset k old h.made e).address + offset) (cell_of k (Some code)))
      segment base sp ps r2 m2 st2
  unfolding with_scalar
  stage_set n offset k old w code h e fits has stack wide facts = record {
    ground = h.ground;
    shape = shape_by segment sp ps all a (wide_kind k) there.0 code h.shape (h.part a (cell_of k there.0) there.1);
    facts = facts;
    words = wide;
    stack = stack;
    part = part_set all own a x h.part;
    covered = record {
      objects = subst (λ (qs : List Placed). Covered own2 qs qs) (sym (placed_changed f p.core s)) objects;
      stamps = stamps_away own a x p.core 0 s.stamps alone.stamps h.covered.stamps;
      count = set_cell-other own a outputs_start x off_count ∙ h.covered.count;
      outputs = words_away segment sp ps own a x (outputs_start + 2) s.outputs above (omega arith) (omega arith)
          (λ c y z. h.shape.live c y (h.part c y z)) h.covered.outputs;
    };
    made = stored_made p.core next s n offset w h.made;
    filled = subst (λ (qs : List Placed). AreFilled own2 qs) (sym (placed_changed f p.core s)) filled;
    whole = subst (λ (qs : List Placed). AreWhole qs) (sym (placed_changed f p.core s)) whole;
    outputs = λ b l u. let other : b ≢ a = omega (arith, above, u) in set_cell-other all a b x other ∙ h.outputs b l u;
    stacked = subst (λ (cs : List Call). Stacked p all2 own2 segment base frames cs) (sym (reverse_map (changed_call f) s.calls))
        (stacked_same f same p all2 own2 segment base frames (reverse s.calls)
        (stacked_set p own a x (cell_of k there.0) there.1 all segment base frames (reverse s.calls) h.stacked));
    holds = subst (λ (cs : List Call). Holds p.ir all2 (placed p.core (kept (mapped f s))) frames cs)
        (sym (reverse_map (changed_call f) s.calls))
        (subst (λ (qs : List Placed). Holds p.ir all2 qs frames (map (changed_call f) (reverse s.calls))) (sym
        (placed_changed f p.core s))
        (holds_same f same p all2 alive frames (reverse s.calls)
        (holds_set p own a x (cell_of k there.0) there.1 all all alive segment base frames (reverse s.calls) h.stacked h.holds)));
    no_block = h.no_block;
  }
    where
      alive : List Placed
      alive = placed p.core (kept s)

      f : Object → Object
      f = put_object n offset w

      same : (o : Object) → (put_object n offset w o).number ≡ o.number
      same o = from (nat_eq o.number n)
        where
          from : (t : Bool) → (if t then record o { cells = map (put_cell offset w) o.cells } else o).number ≡ o.number
          from true = refl
          from false = refl

      alone : StandsAlone p.core s n offset k
      alone = lay.alone next s n offset k old h.made e

      a : ℕ
      a = alone.address + offset

      x : Cell
      x = cell_of k (Some code)

      all2 : Cells
      all2 = set_cell all a x

      own2 : Cells
      own2 = set_cell own a x

      above : outputs_end < a
      above = above_outputs alone.address offset alone.site

      off_count : outputs_start ≢ a
      off_count = omega (arith, above)

      there : (y : Option ℕ) × (own a ≡ Some (cell_of k y))
      there = accessed_cell p.core s own n offset k old e h.covered alone.address alone.is

      objects : Covered own2 (map (changed f) alive) (map (changed f) alive)
      objects =
          every_stored n alone.address offset k w (λ b c. HasCell own (b + c.offset) c.kind (encoded alive c.kind c.value))
          (λ b c. HasCell own2 (b + c.offset) c.kind (encoded (map (changed f) alive) c.kind c.value))
          (λ b c is kind z. subst (λ (o : Option ℕ). HasCell own2 (b + c.offset) c.kind o) (sym
          (encoded_same f same alive c.kind w))
          (cell_here own a (b + c.offset) k c.kind code (encoded alive c.kind w) is kind
          (subst (λ (j : Kind). HasCode (encoded alive j w) code) (sym kind) has)))
          (λ b c other z. subst (λ (o : Option ℕ). HasCell own2 (b + c.offset) c.kind o) (sym
          (encoded_same f same alive c.kind c.value))
          (cell_stays own a (b + c.offset) x c.kind (encoded alive c.kind c.value) other z))
          alive alone.apart h.covered.objects

      filled : AreFilled own2 (map (changed f) alive)
      filled =
          every_stored n alone.address offset k w (IsFilled own) (IsFilled own2)
          (λ b c is kind z. record {
            word = λ d. (
              code,
              set_cell-same own a (b + c.offset) x is
                  ∙ ap (λ (j : Kind). Some (cell_of j (Some code))) (sym kind),
            );
          })
          (λ b c other z. record { word = λ d. let y = z.word d in (y.0, set_cell-other own a (b + c.offset) x other ∙ y.1) })
          alive alone.apart h.filled

      whole : AreWhole (map (changed f) alive)
      whole =
          every_stored n alone.address offset k w (λ b c. IsWhole c) (λ b c. IsWhole c)
          (λ b c is kind z. record {
            same = λ i j. subst
                (λ (q : Kind). number_code q i ≡ wrapped i) (sym kind) (fits i j);
          })
          (λ b c other z. record { same = z.same })
          alive alone.apart h.whole

  -- a store to a scalar that is accessed
  pub stage_stored : (n offset : ℕ) (k : Kind) (old v w : Value) (code : ℕ)
      (h : Stage p s next frames all own segment base sp ps r m st)
      (e : accessed s (place_at n offset) k ≡ Ok old) → fitted k v ≡ Ok w → HasCode (encoded (placed p.core (kept s)) k w) code
      → r2 1 ≡ sp → AreWords r2
      → Facts p.code p.low p.high
      (set_cell all ((lay.alone next s n offset k old h.made e).address + offset) (cell_of k (Some code))) m2 st2
      → Stage p (with_scalar n offset w s) next frames
      (set_cell all ((lay.alone next s n offset k old h.made e).address + offset) (cell_of k (Some code)))
      (set_cell own ((lay.alone next s n offset k old h.made e).address + offset) (cell_of k (Some code)))
      segment base sp ps r2 m2 st2
  stage_stored n offset k old v w code h e fit has stack wide facts =
      stage_set n offset k old w code h e (λ z is. fitted_whole k v w z fit is) has stack wide facts

-- The cell of a scalar that is read, and where it is.
use Rattle.std.proofs.Common.{◌≡◌, ℕ, ◌+◌, ◌<◌, refl, sym, ap, ◌∙◌, subst, arith, false, List, [], ◌∷◌, length, reverse, Option, Some, None}
use Rattle.std.specs.Prelude.{ℤ, Ok, slice_get}
use Rattle.base16.specs.Integer.{wrapped}
use Rattle.base16.specs.declared.image.Kind.{Kind}
use Rattle.base16.specs.declared.image.Kind.TheVariants as kind
use Rattle.c_run.specs.Actions.{kept}
use Rattle.c_values.specs.Objects.{accessed}
use Rattle.c_values.specs.declared.state.Call.{Call}
use Rattle.c_values.specs.declared.state.State.{State}
use Rattle.c_values.specs.declared.value.Cell.{Cell as Scalar}
use Rattle.c_values.specs.declared.value.Location.{Location}
use Rattle.c_values.specs.declared.value.Value.{Value}
use Rattle.c_values.specs.declared.value.Value.TheVariants.{Int, Pointer, Null, Undefined}
use Rattle.cells430.specs.Cells.{Cells}
use Rattle.core_tree.specs.Data.{global_address}
use Rattle.core_tree.specs.LawfulCore.{Every}
use Rattle.core_tree.specs.declared.program.Core.{Core}
use Rattle.ir.specs.declared.control.Frame.{Frame}
use Rattle.ir.specs.declared.control.Temporary.{Temporary}
use Rattle.matching.specs.Covering.{cell_of, HasCell, ScalarsCovered, IsCovered, Apart}
use Rattle.matching.specs.Laid.{IsMade}
use Rattle.matching.specs.Matches.{Placed, local_address, offset_in, placed, address_of, number_code, pointer_code, encoded}
use Rattle.select430.specs.Frames.{offset_or, address_or}
use Rattle.steps430.specs.Setting.{Setting, function_of, IsLaid}
use Rattle.steps430.specs.Holds.{is_missing, HasCode, value_code}
use Rattle.steps430.specs.Standing.{IsWhole, AreWhole, IsFilled, AreFilled, Stacked}
use Rattle.steps430.proofs.Moves.{level}
use Rattle.steps430.proofs.Scalars.{accesses, nth_object, in_youngest, in_globals}

-- ---- codes

same_word : (k : Kind) (w v : ℕ) → Some (cell_of k (Some w)) ≡ Some (cell_of k (Some v)) → w ≡ v
same_word kind.Char w v e = cc
same_word kind.Int w v e = cc
same_word kind.UInt w v e = cc
same_word kind.Pointer w v e = cc

-- a cell that has the code of a scalar has that of its value
code_in : (alive : List Placed) (k : Kind) (v : Value) (own : Cells) (a w : ℕ) → HasCell own a k (encoded alive k v)
    → own a ≡ Some (cell_of k (Some w)) → ((z : ℤ) → v ≡ Int z → number_code k z ≡ wrapped z) → HasCode (value_code alive v) w
code_in alive k (Int z) own a w h e whole = same_word k w (number_code k z) (sym e ∙ h) ∙ whole z refl
code_in alive k (Pointer n o) own a w h e whole = from (pointer_code (address_of alive n) o) h
  where
    from : (x : Option ℕ) → HasCell own a k x → HasCode x w
    from None j = tt
    from (Some code) j = same_word k w code (sym e ∙ j)
code_in alive k Null own a w h e whole = same_word k w 0 (sym e ∙ h)
code_in alive k Undefined own a w h e whole = tt

-- a scalar at an offset of an object that stands at an address, which is read
pub record IsRead (alive : List Placed) (own : Cells) (number base offset : ℕ) (k : Kind) (v : Value) : Type 0 where
  pub address : address_of alive number ≡ Some base
  pub word : ℕ
  pub cell : own (base + offset) ≡ Some (cell_of k (Some word))
  pub code : HasCode (value_code alive v) word

pub reads : (core : Core) (s : State) (own : Cells) (l : Location) (k : Kind) (v : Value) → accessed s l k ≡ Ok v
    → is_missing v ≡ false
    → IsCovered core (kept s) own → AreFilled own (placed core (kept s)) → AreWhole (placed core (kept s))
    → (n : ℕ) × (l.object ≡ Some n) × (base : ℕ) × IsRead (placed core (kept s)) own n base l.offset k v
reads core s own l k v e defined covered filled whole =
    let a = accesses core s l k v e in
    let alive : List Placed = placed core (kept s) in
    let c : Scalar = a.scalar in
    let cell : HasCell own (a.base + c.offset) c.kind (encoded alive c.kind c.value) =
    a.is_scalar.among (λ x. HasCell own (a.base + x.offset) x.kind (encoded alive x.kind x.value))
    (a.is_found.among (λ q. ScalarsCovered own alive q.address q.object.cells) covered.objects) in
    let full : IsFilled own a.base c =
    a.is_scalar.among (IsFilled own a.base) (a.is_found.among (λ q. Every (IsFilled own q.address) q.object.cells) filled) in
    let is_whole : IsWhole c = a.is_scalar.among IsWhole (a.is_found.among (λ q. Every IsWhole q.object.cells) whole) in
    let word = full.word (ap is_missing a.is_scalar.value ∙ defined) in
    let code : HasCode (value_code alive c.value) word.0 =
    code_in alive c.kind c.value own (a.base + c.offset) word.0 cell word.1 (λ z j. is_whole.same z j) in (
      a.number,
      a.object,
      a.base,
      record {
        address = a.is_found.address;
        word = word.0;
        cell = ap (λ (o : ℕ). own (a.base + o)) (sym a.is_scalar.place) ∙ word.1
            ∙ ap (λ (x : Kind). Some (cell_of x (Some word.0))) a.is_scalar.kind;
        code = subst (λ (x : Value). HasCode (value_code alive x) word.0) a.is_scalar.value code;
      },
    )

-- ---- addresses

pub same_address : (a b : ℕ) → Some a ≡ Some b → a ≡ b
same_address a b e = cc

-- a local of the youngest call stands in its frame
pub local_stands : (p : Setting) (lay : IsLaid p) (s : State) (all own : Cells) (segment sp f q first n : ℕ)
    (ts : List Temporary) (ls : List Frame) (base : ℕ) (o : ℕ) (k : Kind) (cs : List Call) → reverse s.calls ≡ cs
    → Stacked p all own segment sp (level f q first ts ∷ ls) cs → n < length (function_of p f).locals
    → Every (Apart (first + n) base o k) (placed p.core (kept s)) → base ≡ sp + offset_or (slice_get (function_of p f).locals n)
local_stands p lay s all own segment sp f q first n ts ls base o k [] e h few apart = absurd h
local_stands p lay s all own segment sp f q first n ts ls base o k (c ∷ cs) e h few apart =
    let mine = in_youngest p.core (Apart (first + n) base o k) s c cs e apart in
    let count = h.0.locals in
    let x = nth_object first (local_address p.core c) 0 n c.locals h.0.numbers (omega arith) in
    let is : local_address p.core c (0 + n) ≡ base = (x.among (Apart (first + n) base o k) mine).here x.number in
    let frame = h.0.frame in
    let function : offset_in p.core.structs (slice_get p.core.functions c.function) n
    ≡ offset_in p.core.structs (slice_get p.core.functions f) n =
    ap (λ (g : ℕ). offset_in p.core.structs (slice_get p.core.functions g) n) h.0.function in
    let local = lay.locals f n few in
    let plain : 0 + n ≡ n = omega arith in
    sym is ∙ ap (local_address p.core c) plain
    ∙ ap (λ (b : ℕ). b + offset_in p.core.structs (slice_get p.core.functions c.function) n) frame
    ∙ ap (λ (b : ℕ). sp + b) (function ∙ sym local)

-- a variable stands where the form has it
pub global_stands : (p : Setting) (lay : IsLaid p) (s : State) (next n base o : ℕ) (k : Kind) → IsMade p.core next (kept s)
    → n < length p.core.globals → Every (Apart n base o k) (placed p.core (kept s)) → base ≡ address_or (slice_get p.ir.globals n)
global_stands p lay s next n base o k made few apart =
    let mine = in_globals p.core (Apart n base o k) s apart in
    let plain : 0 + n ≡ n = omega arith in
    let numbers = lay.numbered next (kept s) made in
    let count = numbers.1 in
    let x = nth_object 0 (λ i. global_address p.core i) 0 n s.globals numbers.0 (omega arith) in
    let is : global_address p.core (0 + n) ≡ base = (x.among (Apart n base o k) mine).here (x.number ∙ plain) in
    sym is ∙ ap (λ (i : ℕ). global_address p.core i) plain ∙ sym (lay.globals n few)

-- the number of a local of the youngest call tells its address, and so does that of a variable
pub local_found : (p : Setting) (lay : IsLaid p) (s : State) (next : ℕ) (all own : Cells) (segment sp f q first n : ℕ)
    (ts : List Temporary) (ls : List Frame) (cs : List Call) → IsMade p.core next (kept s) → reverse s.calls ≡ cs
    → Stacked p all own segment sp (level f q first ts ∷ ls) cs → n < length (function_of p f).locals
    → address_of (placed p.core (kept s)) (first + n) ≡ Some (sp + offset_or (slice_get (function_of p f).locals n))
local_found p lay s next all own segment sp f q first n ts ls [] made e h few = absurd h
local_found p lay s next all own segment sp f q first n ts ls (c ∷ cs) made e h few =
    let alive : List Placed = placed p.core (kept s) in
    let mine = in_youngest p.core
    (λ x. address_of alive x.object.number ≡ Some x.address) s c cs e (lay.found next (kept s) made) in
    let count = h.0.locals in
    let x = nth_object first (local_address p.core c) 0 n c.locals h.0.numbers (omega arith) in
    let is : address_of alive x.object.number ≡ Some (local_address p.core c (0 + n)) =
    x.among (λ y. address_of alive y.object.number ≡ Some y.address) mine in
    let function : offset_in p.core.structs (slice_get p.core.functions c.function) n
    ≡ offset_in p.core.structs (slice_get p.core.functions f) n =
    ap (λ (g : ℕ). offset_in p.core.structs (slice_get p.core.functions g) n) h.0.function in
    let plain : 0 + n ≡ n = omega arith in
    let place : local_address p.core c (0 + n) ≡ sp + offset_or (slice_get (function_of p f).locals n) =
    ap (local_address p.core c) plain
    ∙ ap (λ (b : ℕ). b + offset_in p.core.structs (slice_get p.core.functions c.function) n) h.0.frame
    ∙ ap (λ (b : ℕ). sp + b) (function ∙ sym (lay.locals f n few)) in
    ap (address_of alive) (sym x.number) ∙ is ∙ ap (λ (a : ℕ). Some a) place

pub global_found : (p : Setting) (lay : IsLaid p) (s : State) (next n : ℕ) → IsMade p.core next (kept s)
    → n < length p.core.globals
    → address_of (placed p.core (kept s)) n ≡ Some (address_or (slice_get p.ir.globals n))
global_found p lay s next n made few =
    let alive : List Placed = placed p.core (kept s) in
    let mine = in_globals p.core (λ x. address_of alive x.object.number ≡ Some x.address) s (lay.found next (kept s) made) in
    let plain : 0 + n ≡ n = omega arith in
    let numbers = lay.numbered next (kept s) made in
    let count = numbers.1 in
    let x = nth_object 0 (λ i. global_address p.core i) 0 n s.globals numbers.0 (omega arith) in
    let is : address_of alive x.object.number ≡ Some (global_address p.core (0 + n)) =
    x.among (λ y. address_of alive y.object.number ≡ Some y.address) mine in
    ap (address_of alive) (sym (x.number ∙ plain)) ∙ is
    ∙ ap (λ (a : ℕ). Some a) (ap (λ (i : ℕ). global_address p.core i) plain ∙ sym (lay.globals n few))

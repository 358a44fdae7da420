-- A value that becomes a temporary as it is, as another value or as a place.
use Rattle.std.proofs.Common.{◌≡◌, ℕ, ◌+◌, ◌*◌, ◌≤◌, refl, ap, subst, arith, Bool, true, false, not, List, ◌∷◌, ◌++◌, length, drop, Option, Some, None, Result, Ok, Err, if◌then◌else◌}
use Rattle.std.specs.Prelude.{nat_lt}
use Rattle.base16.specs.Board.{segment_start}
use Rattle.core430.specs.Registers.{set_reg}
use Rattle.ideal430.specs.Ideal.{Meter}
use Rattle.ideal430.specs.Settled.{Bytes}
use Rattle.c_run.specs.Actions.{kept}
use Rattle.c_run.specs.Runs.{Run}
use Rattle.c_values.specs.Pointers.{at as place_at, pointed, through_null}
use Rattle.c_values.specs.declared.value.Location.{Location}
use Rattle.c_values.specs.declared.value.Value.{Value}
use Rattle.c_values.specs.declared.value.Value.TheVariants.{Int, Pointer, Null, Undefined}
use Rattle.cells430.specs.Cells.{Cells}
use Rattle.cells430.specs.Stretch.{outside, at, Leads}
use Rattle.core_tree.specs.LawfulCore.{Every}
use Rattle.ir.specs.declared.control.Temporary.{Temporary}
use Rattle.ir.specs.declared.control.Temporary.TheVariants as temporary
use Rattle.ir.specs.declared.control.Frame.{Frame}
use Rattle.ir.specs.declared.control.Control.TheVariants.{At}
use Rattle.ir.specs.declared.form.IrFunction.{IrFunction}
use Rattle.ir.specs.declared.form.Operand.{Operand}
use Rattle.ir.specs.declared.form.Operand.TheVariants as operand
use Rattle.ir.specs.declared.form.StepKind.TheVariants as step
use Rattle.ir.specs.Table.{taken}
use Rattle.matching.specs.Matches.{Placed, address_of, pointer_code, placed}
use Rattle.select430.specs.Frames.{temporaries_at}
use Rattle.select430.specs.declared.part.Part.{Part}
use Rattle.select430.specs.Code.{bring, keep, put}
use Rattle.steps430.specs.Setting.{Setting, function_of, step_at, IsNamed, operand_bases, IsLaid}
use Rattle.steps430.specs.Holds.{is_missing, is_defined, HasCode, value_code, place_code, temporary_code, IsHeld, CallHolds}
use Rattle.steps430.specs.Standing.{StandsAt, Stage}
use Rattle.steps430.specs.Follows.{DoesStep}
use Rattle.steps430.proofs.Moves.{From, level, with_level}
use Rattle.steps430.proofs.Outcomes.{Gives, OfTop, operand_follows, depth_follows, given_follows}
use Rattle.steps430.proofs.Operands.{brings_value}
use Rattle.steps430.proofs.Steps.{begins, falls, stands_now, keeps_last, left_by}
use Rattle.steps430.proofs.Plain.{room_of, placing}

-- the topmost temporary is taken as another one, which its word fits as well
held_as : (all : Cells) (a : ℕ) (d2 : Bool) (o o2 : Option ℕ) → ((w : ℕ) → HasCode o w → HasCode o2 w) → IsHeld all a true o
    → IsHeld all a d2 o2
held_as all a true o o2 fit h = (h.0, h.1, fit h.0 h.2)
held_as all a false o o2 fit h = (Some h.0, h.1)

pub turned : (all : Cells) (alive : List Placed) (fn : IrFunction) (a : ℕ) (t t2 : Temporary) (us : List Temporary)
    → is_defined t ≡ true → ((w : ℕ) → HasCode (temporary_code alive t) w → HasCode (temporary_code alive t2) w)
    → CallHolds all alive fn a (t ∷ us) → CallHolds all alive fn a (t2 ∷ us)
turned all alive fn a t t2 us defined fit h =
    let b : ℕ = a + temporaries_at fn + 2 * length us in
    let old : IsHeld all b true (temporary_code alive t) =
    subst (λ (d : Bool). IsHeld all b d (temporary_code alive t)) defined h.held.0 in
    record {
      words = h.words;
      room = h.room;
      held = (held_as all b (is_defined t2) (temporary_code alive t) (temporary_code alive t2) fit old, h.held.1);
    }

module _ (p : Setting) (lay : IsLaid p) (f q q2 first : ℕ) (ls : List Frame) (r : Run) (all own : Cells) (segment sp : ℕ)
    (ps rr m : ℕ → ℕ) (st : Bytes) (y : Meter) where
  -- what a value becomes that is put on the stack
  abbrev Passes : (limit : ℕ) → Operand → (d : ℕ) → Type 0
  Passes limit x d =
      (ts : List Temporary) (v : Value) (us : List Temporary) (t2 : Temporary)
      → Stage p r.state r.next (level f q first ts ∷ ls) all own segment sp sp ps rr m st → segment_start segment + 4 ≤ sp
      → From p f (rr 0) (put p.ir (function_of p f) x d) (step_at p f q2) → Gives r.state first x ts v us → is_missing v ≡ false
      → length us ≡ d → Every (IsNamed p.core (function_of p f)) (operand_bases x)
      → temporaries_at (function_of p f) + 2 * d + 2 ≤ (function_of p f).frame
      → ((w : ℕ) → HasCode (value_code (placed p.core (kept r.state)) v) w
      → HasCode (temporary_code (placed p.core (kept r.state)) t2) w)
      → Leads limit (at segment ps rr m st (outside r.state.marks (drop r.used p.readings)) y) (StandsAt p (At f q2 first
      (t2 ∷ us) ls) r)

  passes_on : (x : Operand) (d : ℕ)
      → put p.ir (function_of p f) x d ≡ bring p.ir (function_of p f) x d 12 ++ keep p.ir (function_of p f) d 12
      → Passes 2 x d
  passes_on x d same ts v us t2 stage low code g there depth named room fit =
      let fn : IrFunction = function_of p f in
      let end : ℕ = step_at p f q2 in
      let c : From p f (rr 0) (bring p.ir fn x d 12 ++ keep p.ir fn d 12) end =
      subst (λ (parts : List Part). From p f (rr 0) parts end) same code in
      brings_value p lay (StandsAt p (At f q2 first (t2 ∷ us) ls) r) r.state r.next all own segment sp ps rr m st
      (outside r.state.marks (drop r.used p.readings)) y f q first ls 1 x ts v us d 12 end (keep p.ir fn d 12) stage g
      there depth named c (omega arith) (λ w pc st2 y2 has code2 stage2.
      keeps_last p lay 0 f q q2 first d 12 w t2 us ls r all own segment sp ps
      (set_reg (set_reg rr 0 pc) 12 w) m st2 y2
      (left_by p r.state r.next all own segment sp sp ps (set_reg (set_reg rr 0 pc) 12 w) m st2 f q first x ts v us ls g stage2)
      low code2 depth room refl (fit w has))

  passes_top : (d : ℕ) → Passes 0 operand.Temporary d
  passes_top d ts v us t2 stage low code OfTop there depth named room fit =
      stands_now p lay 0 f q q2 first ts (t2 ∷ us) ls r all own segment sp ps rr m st y
      (with_level p r.state r.next all own segment sp sp ps f q q2 first (temporary.Value v ∷ us) (t2 ∷ us) ls rr m st
      (λ a k. turned all (placed p.core (kept r.state)) (function_of p f) a (temporary.Value v) t2 us
      (ap not there) fit k) stage) low code

  pub passes : (x : Operand) (d : ℕ) → Passes (placing x) x d
  passes operand.Temporary d = passes_top d
  passes (operand.Constant z) d = passes_on (operand.Constant z) d refl
  passes operand.Null d = passes_on operand.Null d refl
  passes (operand.Scalar of offset k) d = passes_on (operand.Scalar of offset k) d refl

-- ---- a pointer as a place

abbrev fine : Location → Result Location ℕ
fine l = Ok l

abbrev wrong : ℕ → Result Location ℕ
wrong n = Err n

same_place : (a b : Location) → fine a ≡ fine b → a ≡ b
same_place a b e = cc

no_place : {A : Type 0} (n : ℕ) (b : Location) → wrong n ≡ fine b → A
no_place n b e = absurd (differ e)
  where
    differ : wrong n ≡ fine b → ⊥
    differ k = cc

place_is : (alive : List Placed) (v : Value) (l : Location) (w : ℕ) → pointed v ≡ Ok l → HasCode (value_code alive v) w
    → (is_missing v ≡ false) × HasCode (place_code alive l) w
place_is alive (Pointer n o) l w e has =
    (refl, subst (λ (x : Location). HasCode (place_code alive x) w) (same_place (place_at n o) l e) (from (nat_lt o 65536)))
  where
    from : (b : Bool) → HasCode (if b then pointer_code (address_of alive n) o else None) w
    from true = has
    from false = tt
place_is alive Null l w e has = (refl, subst (λ (x : Location). HasCode (place_code alive x) w) (same_place through_null l e) has)
place_is alive Undefined l w e has = no_place 11 l e
place_is alive (Int z) l w e has = no_place 0 l e

is_there : (v : Value) (l : Location) → pointed v ≡ Ok l → is_missing v ≡ false
is_there (Pointer n o) l e = refl
is_there Null l e = refl
is_there Undefined l e = no_place 11 l e
is_there (Int z) l e = no_place 0 l e

module _ (p : Setting) (lay : IsLaid p) where
  pub follow_does : (d : ℕ) (x : Operand) → DoesStep p (placing x) (step.Follow d x)
  follow_does d x f q first ts ls node r t e h =
      begins p lay (placing x) _ (step.Follow d x) f q first node ts ls r t e h
      (λ all own segment sp ps rr m st y stage low stands code.
      operand_follows p (placing x) _ node first x ts _ r (λ v us g.
      depth_follows p (placing x) _ d us _ r (λ depth.
      given_follows p (placing x) _ node (pointed v) _ r (λ l is.
      let fn : IrFunction = function_of p f in
      let room = room_of (temporaries_at fn) d (taken x) 1 fn.frame stands.room (omega arith) in
      passes p lay f q (q + 1) first ls r all own segment sp ps rr m st y x d ts v us (temporary.Place l) stage low
      (falls p lay (step.Follow d x) f q node (rr 0) tt stands code) g (is_there v l is) depth stands.named room
      (λ w has. (place_is (placed p.core (kept r.state)) v l w is has).1)))))

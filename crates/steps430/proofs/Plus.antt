-- Sums of a pointer and a number, as places and as values.
use Rattle.std.proofs.Common.{◌≡◌, ℕ, suc, ◌+◌, ◌*◌, ◌≤◌, refl, sym, ap, ◌∙◌, subst, arith, Bool, true, false, List, ◌∷◌, ◌++◌, length, drop, Option, Some, Result, Ok, Err, if◌then◌else◌}
use Rattle.std.proofs.lemmas.List.{append_assoc}
use Rattle.base16.specs.Board.{segment_start}
use Rattle.base16.specs.declared.integer.IntType.{IntType}
use Rattle.core430.specs.Registers.{set_reg}
use Rattle.ideal430.specs.Ideal.{Meter}
use Rattle.ideal430.specs.Settled.{Bytes}
use Rattle.c_run.specs.Actions.{kept}
use Rattle.c_run.specs.Runs.{Run}
use Rattle.c_values.specs.Pointers.{sum_of, pointer_at, pointer_to}
use Rattle.c_values.specs.Values.{numbered}
use Rattle.c_values.specs.declared.state.State.{State}
use Rattle.c_values.specs.declared.value.Location.{Location}
use Rattle.c_values.specs.declared.value.Value.{Value}
use Rattle.cells430.specs.Cells.{Cells}
use Rattle.cells430.specs.Stretch.{Course, outside, at, Leads}
use Rattle.core_tree.specs.LawfulCore.{Every}
use Rattle.ir.specs.declared.control.Temporary.{Temporary}
use Rattle.ir.specs.declared.control.Temporary.TheVariants as temporary
use Rattle.ir.specs.declared.control.Frame.{Frame}
use Rattle.ir.specs.declared.control.Control.TheVariants.{At}
use Rattle.ir.specs.declared.form.IrFunction.{IrFunction}
use Rattle.ir.specs.declared.form.Operand.{Operand}
use Rattle.ir.specs.declared.form.Operation.TheVariants as operation
use Rattle.ir.specs.declared.form.StepKind.TheVariants as step
use Rattle.ir.specs.Machine.{computed, numbered_as}
use Rattle.ir.specs.Table.{taken}
use Rattle.matching.specs.Matches.{Placed, placed}
use Rattle.select430.specs.Frames.{temporaries_at}
use Rattle.select430.specs.declared.part.Part.{Part}
use Rattle.select430.specs.Code.{bring, keep, moved}
use Rattle.steps430.specs.Setting.{Setting, function_of, step_at, IsNamed, operand_bases, IsLaid}
use Rattle.steps430.specs.Holds.{is_missing, HasCode, value_code, temporary_code}
use Rattle.steps430.specs.Standing.{StandsAt, Stage}
use Rattle.steps430.specs.Follows.{DoesStep}
use Rattle.steps430.proofs.Moves.{From, level}
use Rattle.steps430.proofs.Outcomes.{Gives, depth_follows, asked_follows}
use Rattle.steps430.proofs.Steps.{begins, falls, keeps_last}
use Rattle.steps430.proofs.Plain.{room_of}
use Rattle.steps430.proofs.Pairs.{operands_follow, brings_two}
use Rattle.steps430.proofs.Scaled.{scaling}
use Rattle.steps430.proofs.Sliding.{PointsTo, IsSum, sum_with_is, numbered_code, numbered_missing, slides}

-- ---- where the pointer and the number are

abbrev pub one_of : {A : Type 0} → Bool → (left right : A) → A
one_of swapped left right = if swapped then right else left

abbrev pub registers : (swapped : Bool) (r : ℕ → ℕ) (pc v pc2 w : ℕ) → (ℕ → ℕ)
registers swapped r pc v pc2 w =
    set_reg (set_reg (set_reg (set_reg r 0 pc) (if swapped then 12 else 15) v) 0 pc2) (if swapped then 15 else 12) w

pub in_pointer : (swapped : Bool) (r : ℕ → ℕ) (pc v pc2 w : ℕ) → registers swapped r pc v pc2 w 15 ≡ one_of swapped v w
in_pointer true r pc v pc2 w = refl
in_pointer false r pc v pc2 w = refl

pub in_number : (swapped : Bool) (r : ℕ → ℕ) (pc v pc2 w : ℕ) → registers swapped r pc v pc2 w 12 ≡ one_of swapped w v
in_number true r pc v pc2 w = refl
in_number false r pc v pc2 w = refl

pub in_pc : (swapped : Bool) (r : ℕ → ℕ) (pc v pc2 w : ℕ) → registers swapped r pc v pc2 w 0 ≡ pc2
in_pc true r pc v pc2 w = refl
in_pc false r pc v pc2 w = refl

pub four_left : (swapped : Bool) → 4 ≤ (if swapped then 12 else 15)
four_left true = omega arith
four_left false = omega arith

pub four_right : (swapped : Bool) → 4 ≤ (if swapped then 15 else 12)
four_right true = omega arith
four_right false = omega arith

pub code_one : (swapped : Bool) (alive : List Placed) (a b : Value) (v w : ℕ) → HasCode (value_code alive a) v
    → HasCode (value_code alive b) w → HasCode (value_code alive (one_of swapped a b)) (one_of swapped v w)
code_one true alive a b v w h k = k
code_one false alive a b v w h k = h

pub code_other : (swapped : Bool) (alive : List Placed) (a b : Value) (v w : ℕ) → HasCode (value_code alive a) v
    → HasCode (value_code alive b) w → HasCode (value_code alive (one_of swapped b a)) (one_of swapped w v)
code_other true alive a b v w h k = h
code_other false alive a b v w h k = k

pub sum_is : (swapped : Bool) (s : State) (minus : Bool) (size : ℕ) (t u : Option IntType) (a b : Value) (l : Location)
    → sum_of s swapped minus size (numbered_as t a) (numbered_as u b) ≡ Ok l
    → IsSum s minus size (one_of swapped (numbered_as t a) (numbered_as u b))
    (one_of swapped (numbered_as u b) (numbered_as t a)) l
unfolding sum_of
sum_is true s minus size t u a b l e = sum_with_is s minus size (numbered_as u b) (numbered_as t a) l e
sum_is false s minus size t u a b l e = sum_with_is s minus size (numbered_as t a) (numbered_as u b) l e

-- both are there
pub both_there : (swapped : Bool) (s : State) (minus : Bool) (size : ℕ) (x y : Value) (l : Location)
    → IsSum s minus size (one_of swapped x y) (one_of swapped y x) l → (is_missing x ≡ false) × (is_missing y ≡ false)
both_there true s minus size x y l h = (ap is_missing h.is_number, ap is_missing h.is_pointer)
both_there false s minus size x y l h = (ap is_missing h.is_pointer, ap is_missing h.is_number)

-- ---- the steps

module _ (p : Setting) (lay : IsLaid p) (f q q2 first : ℕ) (ls : List Frame) (r : Run) (all own : Cells) (segment sp : ℕ)
    (ps rr m : ℕ → ℕ) (st : Bytes) (y : Meter) where
  -- two values are summed, and the sum is kept
  sums : (swapped minus : Bool) (size : ℕ) (t u : Option IntType) (left right : Operand) (ts us ws : List Temporary) (a b : Value)
      (d end : ℕ) (l : Location) (kept_as : Temporary)
      → Stage p r.state r.next (level f q first ts ∷ ls) all own segment sp sp ps rr m st → segment_start segment + 4 ≤ sp
      → Gives r.state first right ts b us → Gives r.state first left us a ws → length ws ≡ d
      → Every (IsNamed p.core (function_of p f)) (operand_bases left ++ operand_bases right)
      → temporaries_at (function_of p f) + 2 * d + 2 ≤ (function_of p f).frame
      → From p f (rr 0) (bring p.ir (function_of p f) left d (if swapped then 12 else 15)
      ++ (bring p.ir (function_of p f) right (d + taken left) (if swapped then 15 else 12)
      ++ (moved minus size ++ keep p.ir (function_of p f) d 12))) (step_at p f q2)
      → IsSum r.state minus size (one_of swapped (numbered_as t a) (numbered_as u b))
      (one_of swapped (numbered_as u b) (numbered_as t a)) l
      → ((w : ℕ) → PointsTo (placed p.core (kept r.state)) l w
      → HasCode (temporary_code (placed p.core (kept r.state)) kept_as) w)
      → Leads (suc (suc (scaling minus size + 2))) (at segment ps rr m st (outside r.state.marks (drop r.used p.readings)) y)
      (StandsAt p (At f q2 first (kept_as ∷ ws) ls) r)
  sums swapped minus size t u left right ts us ws a b d end l kept_as stage low g k depth named room code sum fit =
      let fn : IrFunction = function_of p f in
      let alive : List Placed = placed p.core (kept r.state) in
      let there = both_there swapped r.state minus size (numbered_as t a) (numbered_as u b) l sum in
      let Q = StandsAt p (At f q2 first (kept_as ∷ ws) ls) r in
      let x : Course = outside r.state.marks (drop r.used p.readings) in
      brings_two p lay Q r.state r.next all own segment sp ps rr m st x y f q first ls (scaling minus size + 2) left right ts us
      ws a b
      d (if swapped then 12 else 15) (if swapped then 15 else 12) (step_at p f q2) (moved minus size ++ keep p.ir fn d 12) stage
      g k
      (numbered_missing t a ∙ there.0) (numbered_missing u b ∙ there.1) depth named code (four_left swapped) (four_right swapped)
      (λ v w pc pc2 st2 y2 has_a has_b code2 stage2.
      let r1 : ℕ → ℕ = registers swapped rr pc v pc2 w in
      let code_a = numbered_code alive t a v has_a in
      let code_b = numbered_code alive u b w has_b in
      slides p lay Q 1 r.state r.next (level f q first ws ∷ ls) all own segment sp sp ps r1 m st2 x y2 f (step_at p f q2)
      (keep p.ir fn d 12) minus size (one_of swapped (numbered_as t a) (numbered_as u b))
      (one_of swapped (numbered_as u b) (numbered_as t a)) l low stage2 sum
      (subst (λ (z : ℕ). HasCode (value_code alive (one_of swapped (numbered_as t a) (numbered_as u b))) z)
      (sym (in_pointer swapped rr pc v pc2 w)) (code_one swapped alive (numbered_as t a) (numbered_as u b) v w code_a code_b))
      (subst (λ (z : ℕ). HasCode (value_code alive (one_of swapped (numbered_as u b) (numbered_as t a))) z)
      (sym (in_number swapped rr pc v pc2 w)) (code_other swapped alive (numbered_as t a) (numbered_as u b) v w code_a code_b))
      (subst (λ (z : ℕ). From p f z (moved minus size ++ keep p.ir fn d 12) (step_at p f q2))
      (sym (in_pc swapped rr pc v pc2 w)) code2)
      (λ r2 m2 st3 y3 points spares code3 stage3.
      keeps_last p lay 0 f q q2 first d 12 (r2 12) kept_as ws ls r all own segment sp ps r2 m2 st3 y3 stage3 low code3 depth
      room refl
      (fit (r2 12) points)))

abbrev fine : Value → Result Value ℕ
fine v = Ok v

abbrev wrong : ℕ → Result Value ℕ
wrong n = Err n

-- a pointer to a sum is of the sum
pub record IsPointerTo (x : Result Location ℕ) (c : Value) : Type 0 where
  pub location : Location
  pub is : x ≡ Ok location
  pub pointer : pointer_at location.offset location.object ≡ c

pub pointer_to_is : (x : Result Location ℕ) (c : Value) → pointer_to x ≡ Ok c → IsPointerTo x c
pointer_to_is (Ok l) c e = record { location = l; is = refl; pointer = same (pointer_at l.offset l.object) e }
  where
    same : (v : Value) → fine v ≡ fine c → v ≡ c
    same v k = cc
pointer_to_is (Err n) c e = absurd (differ e)
  where
    differ : wrong n ≡ fine c → ⊥
    differ k = cc

module _ (p : Setting) (lay : IsLaid p) where
  pub sum_does : (d size : ℕ) (t u : IntType) (swapped : Bool) (left right : Operand)
      → DoesStep p (suc (suc (scaling false size + 2))) (step.Sum d size t u swapped left right)
  sum_does d size t u swapped left right f q first ts ls node r o e h =
      let limit : ℕ = suc (suc (scaling false size + 2)) in
      begins p lay limit _ (step.Sum d size t u swapped left right) f q first node ts ls r o e h
      (λ all own segment sp ps rr m st y stage low stands code.
      operands_follow p limit _ node first left right ts _ r (λ a b us ws g k.
      depth_follows p limit _ d ws _ r (λ depth.
      asked_follows p limit _ node (λ s. sum_of s swapped false size (numbered t a) (numbered u b)) _ r (λ l ok.
      let fn : IrFunction = function_of p f in
      let room = room_of (temporaries_at fn) d (taken left + taken right) 1 fn.frame stands.room (omega arith) in
      sums p lay f q (q + 1) first ls r all own segment sp ps rr m st y swapped false size (Some t) (Some u) left right ts us ws
      a b d
      0 l (temporary.Place l) stage low g k depth stands.named room
      (falls p lay (step.Sum d size t u swapped left right) f q node (rr 0) tt stands code)
      (sum_is swapped r.state false size (Some t) (Some u) a b l ok)
      (λ w points. points.place)))))

  pub plus_does : (d : ℕ) (minus : Bool) (size : ℕ) (t u : Option IntType) (swapped : Bool) (left right : Operand)
      → DoesStep p (suc (suc (scaling minus size + 2))) (step.Binary d (operation.PointerPlus minus size t u swapped) left right)
  plus_does d minus size t u swapped left right f q first ts ls node r o e h =
      let limit : ℕ = suc (suc (scaling minus size + 2)) in
      begins p lay limit _ (step.Binary d (operation.PointerPlus minus size t u swapped) left right) f q first node ts ls r o e h
      (λ all own segment sp ps rr m st y stage low stands code.
      operands_follow p limit _ node first left right ts _ r (λ a b us ws g k.
      depth_follows p limit _ d ws _ r (λ depth.
      asked_follows p limit _ node (λ s. computed s (operation.PointerPlus minus size t u swapped) a b) _ r (λ c ok.
      let fn : IrFunction = function_of p f in
      let alive : List Placed = placed p.core (kept r.state) in
      let room = room_of (temporaries_at fn) d (taken left + taken right) 1 fn.frame stands.room (omega arith) in
      let to = pointer_to_is (sum_of r.state swapped minus size (numbered_as t a) (numbered_as u b)) c ok in
      let whole = falls p lay (step.Binary d (operation.PointerPlus minus size t u swapped) left right) f q node (rr 0) tt
      stands code in
      sums p lay f q (q + 1) first ls r all own segment sp ps rr m st y swapped minus size t u left right ts us ws a b d
      0 to.location (temporary.Value c) stage low g k depth stands.named room
      (subst (λ (parts : List Part). From p f (rr 0) parts (step_at p f (q + 1)))
      (append_assoc (bring p.ir fn left d (if swapped then 12 else 15))
      (bring p.ir fn right (d + taken left) (if swapped then 15 else 12)) (moved minus size ++ keep p.ir fn d 12)) whole)
      (sum_is swapped r.state minus size t u a b to.location to.is)
      (λ w points. subst (λ (v : Value). HasCode (value_code alive v) w) to.pointer points.value)))))

-- Elements of an array at a place.
use Rattle.std.proofs.Common.{◌≡◌, ℕ, suc, ◌+◌, ◌%◌, refl, ap, ◌∙◌, subst, arith, Bool, true, false, List, ◌∷◌, ◌++◌, length, drop, Option, Some, None, Result, Ok, Err, if◌then◌else◌}
use Rattle.std.proofs.lemmas.Bool.{lt-ltb}
use Rattle.std.specs.Prelude.{ℤ, pos, ◌+ℤ◌, ◌*ℤ◌}
use Rattle.base16.specs.Integer.{wrapped}
use Rattle.base16.specs.declared.integer.IntType.{IntType}
use Rattle.core430.specs.Registers.{set_reg}
use Rattle.c_run.specs.Actions.{kept}
use Rattle.c_values.specs.Pointers.{moved, moved_from, element, gone_at}
use Rattle.c_values.specs.Values.{numbered}
use Rattle.c_values.specs.declared.state.State.{State}
use Rattle.c_values.specs.declared.value.Location.{Location}
use Rattle.c_values.specs.declared.value.Value.{Value}
use Rattle.c_values.specs.declared.value.Value.TheVariants.{Int, Pointer, Null, Undefined}
use Rattle.cells430.specs.Stretch.{Course, outside}
use Rattle.ir.specs.declared.control.Temporary.{Temporary}
use Rattle.ir.specs.declared.control.Temporary.TheVariants as temporary
use Rattle.ir.specs.declared.control.Control.TheVariants.{At}
use Rattle.ir.specs.declared.form.IrFunction.{IrFunction}
use Rattle.ir.specs.declared.form.Operand.{Operand}
use Rattle.ir.specs.declared.form.StepKind.TheVariants as step
use Rattle.ir.specs.Table.{taken}
use Rattle.matching.specs.Matches.{Placed, placed, pointer_code}
use Rattle.select430.specs.Frames.{temporaries_at}
use Rattle.select430.specs.Code.{bring, keep, moved as moved_parts}
use Rattle.steps430.specs.Setting.{Setting, function_of, step_at, IsLaid}
use Rattle.steps430.specs.Holds.{is_missing, HasCode, object_address, value_code, place_code}
use Rattle.steps430.specs.Standing.{StandsAt}
use Rattle.steps430.specs.Follows.{DoesStep}
use Rattle.steps430.proofs.Moves.{level, with_regs, without_top}
use Rattle.steps430.proofs.Outcomes.{Gives, operand_follows, place_follows, depth_follows, asked_follows}
use Rattle.steps430.proofs.Operands.{brings_top, brings_value}
use Rattle.steps430.proofs.Steps.{begins, falls, keeps_last, left_by}
use Rattle.steps430.proofs.Plain.{room_of}
use Rattle.steps430.proofs.Scaled.{scaling, moves}
use Rattle.steps430.proofs.Sliding.{PointsTo, moved_near, within_points, numbered_code, numbered_missing}

abbrev fine : Location → Result Location ℕ
fine l = Ok l

abbrev wrong : ℕ → Result Location ℕ
wrong n = Err n

no_place : {A : Type 0} (n : ℕ) (b : Location) → wrong n ≡ fine b → A
no_place n b e = absurd (differ e)
  where
    differ : wrong n ≡ fine b → ⊥
    differ k = cc

-- an element has a number
record IsElement (s : State) (size : ℕ) (l : Location) (i : Value) (to : Location) : Type 0 where
  pub count : ℤ
  pub is : i ≡ Int count
  pub moves : moved s l (count *ℤ pos size) ≡ Ok to

element_is : (s : State) (size : ℕ) (l : Location) (i : Value) (to : Location) → element s size l i ≡ Ok to
    → IsElement s size l i to
element_is s size l (Int z) to e = record { count = z; is = refl; moves = e }
element_is s size l (Pointer n o) to e = no_place _ to e
element_is s size l Null to e = no_place _ to e
element_is s size l Undefined to e = from (gone_at s l.object) e
  where
    from : (b : Bool) → (if b then wrong 6 else wrong 11) ≡ fine to → IsElement s size l Undefined to
    from true k = no_place 6 to k
    from false k = no_place 11 to k

place_points : (alive : List Placed) (s : State) (x : Option ℕ) (offset : ℕ) (by : ℤ) (to : Location) (a v : ℕ)
    → moved_from s (pos offset +ℤ by) x ≡ Ok to → HasCode (pointer_code (object_address alive x) offset) a
    → v ≡ (wrapped by + a + 0) % 65536 → PointsTo alive to v
place_points alive s None offset by to a v e has is = no_place 12 to e
place_points alive s (Some n) offset by to a v e has is = within_points alive s n offset by to a v e has is

near_points : (alive : List Placed) (s : State) (l : Location) (by : ℤ) (to : Location) (a v : ℕ)
    → moved s l by ≡ Ok to → HasCode (place_code alive l) a → v ≡ (wrapped by + a + 0) % 65536 → PointsTo alive to v
near_points alive s l by to a v e has is =
    let h = moved_near s l by to e in
    place_points alive s l.object l.offset by to a v h.moves
    (subst (λ (b : Bool). HasCode (if b then pointer_code (object_address alive l.object) l.offset else None) a)
    (lt-ltb l.offset 65536 h.near) has) is

module _ (p : Setting) (lay : IsLaid p) where
  pub element_does : (d size : ℕ) (own : IntType) (X : Operand)
      → DoesStep p (suc (suc (scaling false size + 2))) (step.Element d size own X)
  element_does d size own X f q first ts ls node r o e h =
      let limit : ℕ = suc (suc (scaling false size + 2)) in
      begins p lay limit _ (step.Element d size own X) f q first node ts ls r o e h
      (λ all own_cells segment sp ps rr m st y stage low stands code.
      operand_follows p limit _ node first X ts _ r (λ i us g.
      place_follows p limit _ us _ r (λ l ws is.
      depth_follows p limit _ d ws _ r (λ depth.
      asked_follows p limit _ node (λ s. element s size l (numbered own i)) _ r (λ to ok.
      let fn : IrFunction = function_of p f in
      let end : ℕ = step_at p f (q + 1) in
      let alive : List Placed = placed p.core (kept r.state) in
      let room = room_of (temporaries_at fn) d (1 + taken X) 1 fn.frame stands.room (omega arith) in
      let el = element_is r.state size l (numbered own i) to ok in
      let there : is_missing i ≡ false = numbered_missing (Some own) i ∙ ap is_missing el.is in
      let g2 : Gives r.state first X ts i (temporary.Place l ∷ ws) =
      subst (λ (xs : List Temporary). Gives r.state first X ts i xs) is g in
      let deep : length (temporary.Place l ∷ ws) ≡ suc d = ap suc depth in
      let Q = StandsAt p (At f (q + 1) first (temporary.Place to ∷ ws) ls) r in
      let x : Course = outside r.state.marks (drop r.used p.readings) in
      brings_top p lay Q r.state r.next all own_cells segment sp ps rr m st x y f q first ls (suc (scaling false size + 2))
      (temporary.Place l) ws d 15 end (bring p.ir fn X (suc d) 12 ++ (moved_parts false size ++ keep p.ir fn d 12))
      (left_by p r.state r.next all own_cells segment sp sp ps rr m st f q first X ts i (temporary.Place l ∷ ws) ls g2 stage)
      refl depth (falls p lay (step.Element d size own X) f q node (rr 0) tt stands code) (omega arith)
      (λ w pc st2 y2 has code2 stage2.
      let r1 : ℕ → ℕ = set_reg (set_reg rr 0 pc) 15 w in
      brings_value p lay Q r.state r.next all own_cells segment sp ps r1 m st2 x y2 f q first ls (scaling false size + 2) X ts i
      (temporary.Place l ∷ ws) (suc d) 12 end (moved_parts false size ++ keep p.ir fn d 12)
      (with_regs p r.state r.next all own_cells segment sp sp ps (level f q first ts ∷ ls) rr m r1 st st2 stage2.stack
      stage2.words
      stage2.facts stage)
      g2 there deep stands.named code2 (omega arith)
      (λ v pc2 st3 y3 has2 code3 stage3.
      let r2 : ℕ → ℕ = set_reg (set_reg r1 0 pc2) 12 v in
      let word : v ≡ wrapped el.count =
      subst (λ (z : Value). HasCode (value_code alive z) v) el.is (numbered_code alive (Some own) i v has2) in
      moves p lay Q r.state r.next (level f q first ws ∷ ls) all own_cells segment sp sp ps x f end false size el.count
      (keep p.ir fn d 12) 1 r2 m st3 y3 low
      (without_top p r.state r.next all own_cells segment sp sp ps f q q first (temporary.Place l) ws ls r2 m st3
      (left_by p r.state r.next all own_cells segment sp sp ps r2 m st3 f q first X ts i (temporary.Place l ∷ ws) ls g2 stage3))
      word code3
      (λ r3 m3 st4 y4 in_r12 same spares code4 stage4.
      keeps_last p lay 0 f q (q + 1) first d 12 (r3 12) (temporary.Place to) ws ls r all own_cells segment sp ps r3 m3 st4 y4
      stage4
      low code4 depth room refl
      (near_points alive r.state l (el.count *ℤ pos size) to w (r3 12) el.moves has in_r12).place))))))))

-- Steps that ask whether a value is true: its word is 0 where it is not. A pointer that goes no further than to the end of its
-- object has a word other than 0.
use Rattle.std.proofs.Common.{◌≡◌, ℕ, ◌+◌, ◌*◌, ◌%◌, ◌<◌, ◌≤◌, refl, sym, ap, ◌∙◌, subst, arith, Bool, true, false, not, List, [], ◌∷◌, ◌++◌, length, drop, Option, Some, None, Result, Ok, Err, if◌then◌else◌}
use Rattle.std.proofs.lemmas.Bool.Decides.{nat_tests}
use Rattle.std.proofs.lemmas.List.{append_assoc}
use Rattle.std.specs.Prelude.{nat_eq, is_none}
use Rattle.base16.specs.Board.{segment_start, stack_start, data_end}
use Rattle.base16.specs.declared.integer.IntType.{IntType}
use Rattle.base16.specs.declared.operator.UnaryOp.TheVariants as un
use Rattle.isa430.specs.declared.instr.TwoOp.TheVariants.{Cmp}
use Rattle.isa430.specs.declared.instr.Cond.{Cond}
use Rattle.isa430.specs.declared.instr.Cond.TheVariants.{Nz, Z}
use Rattle.isa430.specs.declared.instr.Gen.TheVariants.{Zero}
use Rattle.isa430.specs.declared.instr.Src.TheVariants.{Constant}
use Rattle.isa430.specs.declared.instr.Dst.TheVariants.{Reg as ToReg}
use Rattle.isa430.specs.declared.instr.Instr.TheVariants.{Two}
use Rattle.core430.specs.Arithmetic.{difference_status}
use Rattle.core430.specs.Registers.{set_reg}
use Rattle.core430.specs.Instructions.{is_taken}
use Rattle.run430.proofs.FlagLemmas.{compare_zero}
use Rattle.ideal430.specs.Ideal.{Meter}
use Rattle.ideal430.specs.Settled.{Bytes}
use Rattle.c_run.specs.Actions.{kept}
use Rattle.c_run.specs.Runs.{Run}
use Rattle.c_values.specs.Objects.{object_of, object_size}
use Rattle.c_values.specs.Operators.{truth}
use Rattle.c_values.specs.Pointers.{truth_of}
use Rattle.c_values.specs.Values.{numbered, negated, operated_one}
use Rattle.c_values.specs.declared.state.Object.{Object}
use Rattle.c_values.specs.declared.state.State.{State}
use Rattle.c_values.specs.declared.value.Value.{Value}
use Rattle.c_values.specs.declared.value.Value.TheVariants.{Int, Pointer, Null, Undefined}
use Rattle.cells430.specs.Cells.{Cells}
use Rattle.cells430.specs.Stretch.{Course, outside, at, Leads}
use Rattle.cells430.proofs.Lift.{leads_now}
use Rattle.core_tree.specs.LawfulCore.{Every}
use Rattle.ir.specs.declared.control.Temporary.{Temporary}
use Rattle.ir.specs.declared.control.Temporary.TheVariants as temporary
use Rattle.ir.specs.declared.control.Frame.{Frame}
use Rattle.ir.specs.declared.control.Control.TheVariants.{At}
use Rattle.ir.specs.declared.form.IrFunction.{IrFunction}
use Rattle.ir.specs.declared.form.Operand.{Operand}
use Rattle.ir.specs.declared.form.StepKind.TheVariants as step
use Rattle.ir.specs.declared.form.Test.TheVariants as test
use Rattle.ir.specs.Machine.{act, on_test, branch}
use Rattle.ir.specs.Table.{taken}
use Rattle.matching.specs.Laid.{IsMade}
use Rattle.matching.specs.Matches.{Placed, placed, pointer_code}
use Rattle.matching.specs.Spacing.{LiesWhole}
use Rattle.select430.specs.Frames.{temporaries_at}
use Rattle.select430.specs.declared.part.Part.{Part}
use Rattle.select430.specs.declared.part.Part.TheVariants.{GoUnless}
use Rattle.select430.specs.Code.{bring, keep, against_zero, truth_where, opposite}
use Rattle.steps430.specs.Setting.{Setting, function_of, step_at, IsNamed, operand_bases, IsLaid}
use Rattle.steps430.specs.Holds.{is_missing, HasCode, value_code}
use Rattle.steps430.specs.Lying.{StaysInside, ObjectsLie}
use Rattle.steps430.specs.Standing.{StandsAt, Stage}
use Rattle.steps430.proofs.Moves.{From, from_do, level, with_level}
use Rattle.steps430.proofs.Outcomes.{Gives, operand_follows, depth_follows, asked_follows}
use Rattle.steps430.proofs.Scalars.{IsFound, found_object}
use Rattle.steps430.proofs.Values.{Generated}
use Rattle.steps430.proofs.Operands.{brings_value}
use Rattle.steps430.proofs.Steps.{begins, falls, stands_next, keeps_last, left_by}
use Rattle.steps430.proofs.Plain.{room_of}
use Rattle.steps430.proofs.Conditions.{flag, truth_sets}
use Rattle.steps430.proofs.Orders.{flag_word}
use Rattle.steps430.proofs.Branches.{goes_unless}
use Rattle.steps430.proofs.Cases.{compares_number}
use Rattle.steps430.proofs.Tests.{truth_word, target_is, stays}
use Rattle.steps430.proofs.Finding.{DoesWhere, FindsOne}

-- ---- pointers

-- a word is the address of a byte of an object, or just behind it
pub record IsInside (ps : List Placed) (s : State) (n offset w : ℕ) : Type 1 where
  pub object : Object
  pub alive : object_of s n ≡ Some object
  pub base : ℕ
  pub found : IsFound ps n object base
  pub low : stack_start ≤ base
  pub high : base + object_size object ≤ data_end
  pub within : offset ≤ object_size object
  pub word : w ≡ base + offset

no_object : {A : Type 1} → true ≡ false → A
no_object e = absurd (differ e)
  where
    differ : true ≡ false → ⊥
    differ k = cc

abbrev good : Bool → Result Bool ℕ
good b = Ok b

abbrev wrong : ℕ → Result Bool ℕ
wrong n = Err n

same_truth : (a b : Bool) → good a ≡ good b → a ≡ b
same_truth a b e = cc

no_truth : {A : Type 0} (n : ℕ) (b : Bool) → wrong n ≡ good b → A
no_truth n b e = absurd (differ e)
  where
    differ : wrong n ≡ good b → ⊥
    differ k = cc

-- a value that is asked is there
pub truth_there : (s : State) (of : IntType) (v : Value) (b : Bool) → truth_of s (numbered of v) ≡ Ok b → is_missing v ≡ false
unfolding truth_of
truth_there s of (Int k) b e = refl
truth_there s of (Pointer n offset) b e = refl
truth_there s of Null b e = refl
truth_there s of Undefined b e = no_truth 11 b e

module _ (p : Setting) (lie : ObjectsLie p) (s : State) (next : ℕ) (made : IsMade p.core next (kept s)) where
  pub pointer_inside : (n offset w : ℕ) → is_none (object_of s n) ≡ false → StaysInside s (Pointer n offset)
      → HasCode (value_code (placed p.core (kept s)) (Pointer n offset)) w
      → IsInside (placed p.core (kept s)) s n offset w
  pointer_inside n offset w there inside has = from (object_of s n) refl there
    where
      from : (o : Option Object) → object_of s n ≡ o → is_none o ≡ false → IsInside (placed p.core (kept s)) s n offset w
      from None i h = no_object h
      from (Some o) i h =
          let found = found_object p.core s n o i in
          let whole : LiesWhole (record { object = o; address = found.0 }) =
          found.1.among LiesWhole (lie.whole next (kept s) made) in
          let most = inside o i in
          let least = whole.from in
          let last = whole.to in
          let is : w ≡ (found.0 + offset) % 65536 =
          subst (λ (x : Option ℕ). HasCode (pointer_code x offset) w) found.1.address has in
          let within : offset ≤ object_size o = omega arith in
          record {
            object = o;
            alive = i;
            base = found.0;
            found = found.1;
            low = least;
            high = last;
            within = within;
            word = omega arith;
          }

  -- and its word tells
  pub truth_says : (of : IntType) (v : Value) (b : Bool) (w : ℕ) → StaysInside s v → truth_of s (numbered of v) ≡ Ok b
      → HasCode (value_code (placed p.core (kept s)) v) w → b ≡ not (nat_eq w 0)
  unfolding truth_of
  truth_says of (Int k) b w inside e has =
      truth_word s of (Int k) k b refl e ∙ ap (λ (z : ℕ). not (nat_eq z 0)) (sym has)
  truth_says of (Pointer n offset) b w inside e has = from (is_none (object_of s n)) refl e
    where
      from : (c : Bool) → is_none (object_of s n) ≡ c → (if c then wrong 6 else good true) ≡ good b → b ≡ not (nat_eq w 0)
      from true i h = no_truth 6 b h
      from false i h =
          let k = pointer_inside n offset w i inside has in
          let low = k.low in
          let word = k.word in
          let some : true ≡ not (nat_eq w 0) = grind (arith, nat_tests) in
          sym (same_truth true b h) ∙ some
  truth_says of Null b w inside e has = sym (same_truth false b e) ∙ ap (λ (z : ℕ). not (nat_eq z 0)) (sym has)
  truth_says of Undefined b w inside e has = no_truth 11 b e

-- ---- the operator that asks whether a value is not true

abbrev fine : Value → Result Value ℕ
fine v = Ok v

abbrev no : ℕ → Result Value ℕ
no n = Err n

record IsTurned (x : Result Bool ℕ) (c : Value) : Type 0 where
  pub yes : Bool
  pub is : x ≡ Ok yes
  pub value : Int (truth (not yes)) ≡ c

turned_is : (x : Result Bool ℕ) (c : Value) → negated x ≡ Ok c → IsTurned x c
turned_is (Ok b) c e = record { yes = b; is = refl; value = same (Int (truth (not b))) e }
  where
    same : (v : Value) → fine v ≡ fine c → v ≡ c
    same v k = cc
turned_is (Err n) c e = absurd (differ e)
  where
    differ : no n ≡ fine c → ⊥
    differ k = cc

turned_truth : (s : State) (t : IntType) (v c : Value) → operated_one s un.Not t v ≡ Ok c
    → IsTurned (truth_of s (numbered t v)) c
unfolding operated_one
turned_truth s t v c e = turned_is (truth_of s (numbered t v)) c e

twice : (b : Bool) → b ≡ not (not b)
twice true = refl
twice false = refl

-- ---- steps

module _ (p : Setting) (lay : IsLaid p) where
  -- R12 becomes 1 where a value is such against 0
  sets_truth : (cond : Cond) (b : Bool) (x : Operand) (d f q first : ℕ) (ts us : List Temporary) (v : Value) (ls : List Frame)
      (r : Run) (all own : Cells) (segment sp : ℕ) (ps rr m : ℕ → ℕ) (st : Bytes) (y : Meter)
      → Stage p r.state r.next (level f q first ts ∷ ls) all own segment sp sp ps rr m st → segment_start segment + 4 ≤ sp
      → From p f (rr 0) (bring p.ir (function_of p f) x d 12 ++ (against_zero ∷ (truth_where cond
      ++ keep p.ir (function_of p f) d 12))) (step_at p f (q + 1))
      → Gives r.state first x ts v us → is_missing v ≡ false → length us ≡ d
      → Every (IsNamed p.core (function_of p f)) (operand_bases x)
      → temporaries_at (function_of p f) + 2 * d + 2 ≤ (function_of p f).frame
      → ((w status : ℕ) → w < 65536 → HasCode (value_code (placed p.core (kept r.state)) v) w
      → is_taken cond (difference_status false status false w 0) ≡ b)
      → Leads 6 (at segment ps rr m st (outside r.state.marks (drop r.used p.readings)) y)
      (StandsAt p (At f (q + 1) first (temporary.Value (Int (truth b)) ∷ us) ls) r)
  sets_truth cond b x d f q first ts us v ls r all own segment sp ps rr m st y stage low code g there depth named room tells =
      let fn : IrFunction = function_of p f in
      let end : ℕ = step_at p f (q + 1) in
      let Q = StandsAt p (At f (q + 1) first (temporary.Value (Int (truth b)) ∷ us) ls) r in
      let z : Course = outside r.state.marks (drop r.used p.readings) in
      brings_value p lay Q r.state r.next all own segment sp ps rr m st z y f q first ls 5 x ts v us d 12 end
      (against_zero ∷ (truth_where cond ++ keep p.ir fn d 12)) stage g there depth named code (omega arith)
      (λ w pc st2 y2 has code2 stage2.
      let r1 : ℕ → ℕ = set_reg (set_reg rr 0 pc) 12 w in
      let c = from_do p f pc (Two Cmp false (Constant Zero) (ToReg 12)) (truth_where cond ++ keep p.ir fn d 12) end code2 in
      compares_number p Q 4 r.state r.next (level f q first ts ∷ ls) all own segment sp sp ps r1 m st2 z y2 (Constant Zero) 0
      (Generated Zero) stage2 c.0
      (λ r2 st3 y3 at_pc in_flags stage3.
      truth_sets p Q 1 r.state r.next (level f q first ts ∷ ls) all own segment sp sp ps r2 m st3 z y3 f cond
      (is_taken cond (r2 2)) (keep p.ir fn d 12) end stage3 refl
      (subst (λ (i : ℕ). From p f i (truth_where cond ++ keep p.ir fn d 12) end) (sym at_pc) c.1)
      (λ r3 st4 y4 in_r12 code4 stage4.
      let sure : is_taken cond (r2 2) ≡ b = ap (λ (i : ℕ). is_taken cond i) in_flags ∙ tells w (r1 2) (stage2.words 12) has in
      keeps_last p lay 0 f q (q + 1) first d 12 (r3 12) (temporary.Value (Int (truth b))) us ls r all own segment sp ps r3 m st4
      y4 (left_by p r.state r.next all own segment sp sp ps r3 m st4 f q first x ts v us ls g stage4) low code4 depth room refl
      (in_r12 ∙ ap flag sure ∙ sym (flag_word b)))))

module _ (p : Setting) (lay : IsLaid p) (lie : ObjectsLie p) where
  pub truth_does : (d : ℕ) (of : IntType) (x : Operand) → DoesWhere p 6 (step.Truth d of x) (FindsOne x StaysInside)
  truth_does d of x f q first ts ls node r t e h inside =
      begins p lay 6 _ (step.Truth d of x) f q first node ts ls r t e h
      (λ all own segment sp ps rr m st y stage low stands code.
      operand_follows p 6 _ node first x ts _ r (λ v us g.
      depth_follows p 6 _ d us _ r (λ depth.
      asked_follows p 6 _ node (λ s. truth_of s (numbered of v)) _ r (λ b ok.
      let fn : IrFunction = function_of p f in
      let room = room_of (temporaries_at fn) d (taken x) 1 fn.frame stands.room (omega arith) in
      sets_truth p lay Nz b x d f q first ts us v ls r all own segment sp ps rr m st y stage low
      (falls p lay (step.Truth d of x) f q node (rr 0) tt stands code) g
      (truth_there r.state of v b ok) depth stands.named room
      (λ w status small has. ap not (compare_zero false status w 0 small (omega arith))
      ∙ sym (truth_says p lie r.state r.next stage.made of v b w (inside v us g) ok has))))))

  pub not_does : (d : ℕ) (t : IntType) (x : Operand) → DoesWhere p 6 (step.Unary d un.Not t x) (FindsOne x StaysInside)
  not_does d t x f q first ts ls node r u e h inside =
      begins p lay 6 _ (step.Unary d un.Not t x) f q first node ts ls r u e h
      (λ all own segment sp ps rr m st y stage low stands code.
      operand_follows p 6 _ node first x ts _ r (λ v us g.
      depth_follows p 6 _ d us _ r (λ depth.
      asked_follows p 6 _ node (λ s. operated_one s un.Not t v) _ r (λ c ok.
      let fn : IrFunction = function_of p f in
      let room = room_of (temporaries_at fn) d (taken x) 1 fn.frame stands.room (omega arith) in
      let turned = turned_truth r.state t v c ok in
      subst (λ (k : Value). Leads 6 (at segment ps rr m st (outside r.state.marks (drop r.used p.readings)) y)
      (StandsAt p (At f (q + 1) first (temporary.Value k ∷ us) ls) r)) turned.value
      (sets_truth p lay Z (not turned.yes) x d f q first ts us v ls r all own segment sp ps rr m st y stage low
      (falls p lay (step.Unary d un.Not t x) f q node (rr 0) tt stands code) g
      (truth_there r.state t v turned.yes turned.is) depth stands.named room
      (λ w status small has. compare_zero false status w 0 small (omega arith) ∙ twice (nat_eq w 0)
      ∙ ap not (sym (truth_says p lie r.state r.next stage.made t v turned.yes w (inside v us g) turned.is has))))))))

  -- ---- jumps

  pub branch_value_does : (d : ℕ) (x : Operand) (of : IntType) (when : Bool) (to : ℕ)
      → DoesWhere p 4 (step.Branch d (test.Value x) of when to) (FindsOne x StaysInside)
  unfolding on_test
  branch_value_does d x of when to f q first ts ls node r t e h inside =
      begins p lay 4 (act p.ir p.readings node (step.Branch d (test.Value x) of when to) f q first ts ls r)
      (step.Branch d (test.Value x) of when to) f q first node ts ls r t e h
      (λ all own segment sp ps rr m st y stage low stands code.
      operand_follows p 4 _ node first x ts _ r (λ v us g.
      depth_follows p 4 _ d us _ r (λ depth.
      asked_follows p 4 _ node (λ s. truth_of s (numbered of v)) _ r (λ yes sure.
      let fn : IrFunction = function_of p f in
      let end : ℕ = step_at p f (q + 1) in
      let stay : Cond = if when then opposite Nz else Nz in
      let Q = StandsAt p (At f (branch yes when to (q + 1)) first us ls) r in
      let z : Course = outside r.state.marks (drop r.used p.readings) in
      let parts : From p f (rr 0) (bring p.ir fn x d 12 ++ (against_zero ∷ (GoUnless stay to ∷ []))) end =
      subst (λ (k : List Part). From p f (rr 0) k end)
      (append_assoc (bring p.ir fn x d 12) (against_zero ∷ []) (GoUnless stay to ∷ []))
      (falls p lay (step.Branch d (test.Value x) of when to) f q node (rr 0) tt stands code) in
      brings_value p lay Q r.state r.next all own segment sp ps rr m st z y f q first ls 3 x ts v us d 12 end
      (against_zero ∷ (GoUnless stay to ∷ [])) stage g (truth_there r.state of v yes sure) depth
      stands.named parts (omega arith)
      (λ w pc st2 y2 has code2 stage2.
      let r1 : ℕ → ℕ = set_reg (set_reg rr 0 pc) 12 w in
      let c = from_do p f pc (Two Cmp false (Constant Zero) (ToReg 12)) (GoUnless stay to ∷ []) end code2 in
      compares_number p Q 2 r.state r.next (level f q first ts ∷ ls) all own segment sp sp ps r1 m st2 z y2 (Constant Zero) 0
      (Generated Zero) stage2 c.0
      (λ r2 st3 y3 at_pc in_flags stage3.
      let says : yes ≡ not (nat_eq w 0) = truth_says p lie r.state r.next stage.made of v yes w (inside v us g) sure has in
      let skips : is_taken stay (r2 2) ≡ (if when then not yes else yes) =
      ap (λ (i : ℕ). is_taken stay i) in_flags ∙ stays when (r1 2) w (stage2.words 12)
      ∙ ap (λ (b : Bool). if when then not b else b) (sym says) in
      goes_unless p lay Q 0 r.state r.next (level f q first ts ∷ ls) all own segment sp sp ps r2 m st3 z y3 f to end stay
      (is_taken stay (r2 2)) stage3 refl (subst (λ (i : ℕ). From p f i (GoUnless stay to ∷ []) end) (sym at_pc) c.1)
      (λ r3 st4 y4 at_target stage4.
      leads_now 0 _ Q
      (stands_next p lay f (branch yes when to (q + 1)) first us ls r all own segment sp ps r3 m st4 y4
      (with_level p r.state r.next all own segment sp sp ps f q (branch yes when to (q + 1)) first us us ls r3 m st4
      (λ i j. j)
      (left_by p r.state r.next all own segment sp sp ps r3 m st4 f q first x ts v us ls g stage4)) low
      (at_target ∙ target_is p f to q yes (is_taken stay (r2 2)) when skips)))))))))

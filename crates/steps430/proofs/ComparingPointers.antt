-- Comparisons of pointers by their words: the order of two pointers into one object is that of their offsets, and pointers to
-- bytes of two objects differ.
use Rattle.std.proofs.Common.{◌≡◌, ℕ, ◌+◌, ◌<◌, ◌≤◌, refl, sym, ap, ◌∙◌, arith, Bool, true, false, not, ◌⊎◌, inl, inr, List, [], ◌∷◌, Result, Ok, if◌then◌else◌}
use Rattle.std.proofs.lemmas.Bool.{eqb-true}
use Rattle.std.proofs.lemmas.Bool.Decides.{nat_tests}
use Rattle.std.specs.Prelude.{ℤ, nat_eq, nat_lt, nat_le, is_none, ◌||◌}
use Rattle.base16.specs.Integer.{wrapped}
use Rattle.base16.specs.declared.integer.IntType.{IntType}
use Rattle.base16.specs.declared.operator.BinaryOp.{BinaryOp}
use Rattle.base16.specs.declared.operator.BinaryOp.TheVariants as op
use Rattle.core430.specs.Instructions.{is_taken}
use Rattle.run430.proofs.FlagLemmas.{compare_carry, compare_zero}
use Rattle.c_run.specs.Actions.{kept}
use Rattle.c_values.specs.Objects.{object_of, object_size}
use Rattle.c_values.specs.Operators.{truth}
use Rattle.c_values.specs.Pointers.{gone, end_of, at_end, compared, compared_alive, compared_offsets, unordered, apart}
use Rattle.c_values.specs.Values.{int_value}
use Rattle.c_values.specs.declared.state.Object.{Object}
use Rattle.c_values.specs.declared.state.State.{State}
use Rattle.c_values.specs.declared.value.Value.{Value}
use Rattle.c_values.specs.declared.value.Value.TheVariants.{Int, Pointer, Null, Undefined}
use Rattle.core_tree.specs.LawfulCore.{Every}
use Rattle.ir.specs.declared.form.Operand.{Operand}
use Rattle.ir.specs.declared.form.Operation.TheVariants as operation
use Rattle.ir.specs.declared.form.StepKind.TheVariants as step
use Rattle.ir.specs.declared.form.Test.TheVariants as test
use Rattle.matching.specs.Laid.{IsMade}
use Rattle.matching.specs.Matches.{Placed, placed, address_of}
use Rattle.matching.specs.Spacing.{AreSpaced}
use Rattle.select430.specs.declared.part.Part.{Part}
use Rattle.select430.specs.declared.part.Part.TheVariants.{Do}
use Rattle.select430.specs.Code.{flags, holds_where, truth_where}
use Rattle.steps430.specs.Setting.{Setting, IsLaid}
use Rattle.steps430.specs.Holds.{is_missing, HasCode, value_code}
use Rattle.steps430.specs.Lying.{StaysInside, StayInside, ObjectsLie}
use Rattle.steps430.proofs.Reading.{same_address}
use Rattle.steps430.proofs.Conditions.{flag}
use Rattle.steps430.proofs.Orders.{flag_word, below_carry}
use Rattle.steps430.proofs.Branches.{IsAsked, AskZ, AskNz, AskC, AskNc}
use Rattle.steps430.proofs.Minus.{count_is}
use Rattle.steps430.proofs.Differences.{same_number, no_number, not_gone, first_false}
use Rattle.steps430.proofs.Finding.{DoesWhere, FindsTwo, FindsTop}
use Rattle.steps430.proofs.Comparing.{comparing, flags_by, Tells, IsTold, binary_told, beside_told, branch_told}
use Rattle.steps430.proofs.Truths.{IsInside, pointer_inside}

-- ---- which comparison the flags tell

-- greater and not greater are told by the words in the other order
abbrev pub is_back : BinaryOp → Bool
is_back op.Greater = true
is_back op.LessEq = true
is_back o = false

pub flags_are : (o : BinaryOp) → flags o ≡ Do (comparing (is_back o))
flags_are op.Add = refl
flags_are op.Sub = refl
flags_are op.Mul = refl
flags_are op.Div = refl
flags_are op.Rem = refl
flags_are op.Shl = refl
flags_are op.Shr = refl
flags_are op.Less = refl
flags_are op.Greater = refl
flags_are op.LessEq = refl
flags_are op.GreaterEq = refl
flags_are op.Equal = refl
flags_are op.NotEqual = refl
flags_are op.And = refl
flags_are op.Xor = refl
flags_are op.Or = refl

asked_plain : (o : BinaryOp) → IsAsked (holds_where o false)
asked_plain op.Add = AskZ
asked_plain op.Sub = AskZ
asked_plain op.Mul = AskZ
asked_plain op.Div = AskZ
asked_plain op.Rem = AskZ
asked_plain op.Shl = AskZ
asked_plain op.Shr = AskZ
asked_plain op.Less = AskNc
asked_plain op.Greater = AskNc
asked_plain op.LessEq = AskC
asked_plain op.GreaterEq = AskC
asked_plain op.Equal = AskZ
asked_plain op.NotEqual = AskNz
asked_plain op.And = AskZ
asked_plain op.Xor = AskZ
asked_plain op.Or = AskZ

-- a comparison of words
abbrev holds : BinaryOp → ℕ → ℕ → Bool
holds op.Less a b = nat_lt a b
holds op.Greater a b = nat_lt b a
holds op.LessEq a b = nat_le a b
holds op.GreaterEq a b = nat_le b a
holds op.NotEqual a b = not (nat_eq a b)
holds o a b = nat_eq a b

flags_tell : (o : BinaryOp) (v w status : ℕ) → v < 65536 → w < 65536
    → is_taken (holds_where o false) (flags_by (is_back o) status v w) ≡ holds o v w
flags_tell op.Less v w status j k = below_carry status v w
flags_tell op.Greater v w status j k = below_carry status w v
flags_tell op.LessEq v w status j k = compare_carry false status w v
flags_tell op.GreaterEq v w status j k = compare_carry false status v w
flags_tell op.NotEqual v w status j k = ap not (compare_zero false status v w j k)
flags_tell op.Equal v w status j k = compare_zero false status v w j k
flags_tell op.Add v w status j k = compare_zero false status v w j k
flags_tell op.Sub v w status j k = compare_zero false status v w j k
flags_tell op.Mul v w status j k = compare_zero false status v w j k
flags_tell op.Div v w status j k = compare_zero false status v w j k
flags_tell op.Rem v w status j k = compare_zero false status v w j k
flags_tell op.Shl v w status j k = compare_zero false status v w j k
flags_tell op.Shr v w status j k = compare_zero false status v w j k
flags_tell op.And v w status j k = compare_zero false status v w j k
flags_tell op.Xor v w status j k = compare_zero false status v w j k
flags_tell op.Or v w status j k = compare_zero false status v w j k

-- ---- what comparisons of pointers give

less_behind : (base a b : ℕ) → nat_lt a b ≡ nat_lt (base + a) (base + b)
less_behind base a b = grind (arith, nat_tests)

reach_behind : (base a b : ℕ) → nat_le a b ≡ nat_le (base + a) (base + b)
reach_behind base a b = grind (arith, nat_tests)

same_behind : (base a b : ℕ) → nat_eq a b ≡ nat_eq (base + a) (base + b)
same_behind base a b = grind (arith, nat_tests)

-- within one object
offsets_tell : (o : BinaryOp) (base a b : ℕ) (z : ℤ) → compared_offsets o a b ≡ Ok z → z ≡ truth (holds o (base + a) (base + b))
offsets_tell op.Less base a b z e = sym (same_number _ z e) ∙ ap truth (less_behind base a b)
offsets_tell op.Greater base a b z e = sym (same_number _ z e) ∙ ap truth (less_behind base b a)
offsets_tell op.LessEq base a b z e = sym (same_number _ z e) ∙ ap truth (reach_behind base a b)
offsets_tell op.GreaterEq base a b z e = sym (same_number _ z e) ∙ ap truth (reach_behind base b a)
offsets_tell op.Equal base a b z e = sym (same_number _ z e) ∙ ap truth (same_behind base a b)
offsets_tell op.NotEqual base a b z e = sym (same_number _ z e) ∙ ap (λ (c : Bool). truth (not c)) (same_behind base a b)
offsets_tell op.Add base a b z e = no_number 0 z e
offsets_tell op.Sub base a b z e = no_number 0 z e
offsets_tell op.Mul base a b z e = no_number 0 z e
offsets_tell op.Div base a b z e = no_number 0 z e
offsets_tell op.Rem base a b z e = no_number 0 z e
offsets_tell op.Shl base a b z e = no_number 0 z e
offsets_tell op.Shr base a b z e = no_number 0 z e
offsets_tell op.And base a b z e = no_number 0 z e
offsets_tell op.Xor base a b z e = no_number 0 z e
offsets_tell op.Or base a b z e = no_number 0 z e

-- where pointers have no order
unordered_tells : (o : BinaryOp) (same : Bool) (rule v w : ℕ) (z : ℤ) → nat_eq v w ≡ same → unordered o same rule ≡ Ok z
    → z ≡ truth (holds o v w)
unordered_tells op.Equal same rule v w z h e = sym (same_number _ z e) ∙ ap truth (sym h)
unordered_tells op.NotEqual same rule v w z h e = sym (same_number _ z e) ∙ ap (λ (c : Bool). truth (not c)) (sym h)
unordered_tells op.Less same rule v w z h e = no_number rule z e
unordered_tells op.Greater same rule v w z h e = no_number rule z e
unordered_tells op.LessEq same rule v w z h e = no_number rule z e
unordered_tells op.GreaterEq same rule v w z h e = no_number rule z e
unordered_tells op.Add same rule v w z h e = no_number rule z e
unordered_tells op.Sub same rule v w z h e = no_number rule z e
unordered_tells op.Mul same rule v w z h e = no_number rule z e
unordered_tells op.Div same rule v w z h e = no_number rule z e
unordered_tells op.Rem same rule v w z h e = no_number rule z e
unordered_tells op.Shl same rule v w z h e = no_number rule z e
unordered_tells op.Shr same rule v w z h e = no_number rule z e
unordered_tells op.And same rule v w z h e = no_number rule z e
unordered_tells op.Xor same rule v w z h e = no_number rule z e
unordered_tells op.Or same rule v w z h e = no_number rule z e

-- pointers into two objects are not equal, and neither is at an end
apart_tells : (o : BinaryOp) (ends : Bool) (z : ℤ) → apart o ends ≡ Ok z → (ends ≡ false) × (unordered o false 9 ≡ Ok z)
apart_tells op.Equal true z e = no_number 10 z e
apart_tells op.Equal false z e = (refl, e)
apart_tells op.NotEqual true z e = no_number 10 z e
apart_tells op.NotEqual false z e = (refl, e)
apart_tells op.Less ends z e = no_number 9 z e
apart_tells op.Greater ends z e = no_number 9 z e
apart_tells op.LessEq ends z e = no_number 9 z e
apart_tells op.GreaterEq ends z e = no_number 9 z e
apart_tells op.Add ends z e = no_number 9 z e
apart_tells op.Sub ends z e = no_number 9 z e
apart_tells op.Mul ends z e = no_number 9 z e
apart_tells op.Div ends z e = no_number 9 z e
apart_tells op.Rem ends z e = no_number 9 z e
apart_tells op.Shl ends z e = no_number 9 z e
apart_tells op.Shr ends z e = no_number 9 z e
apart_tells op.And ends z e = no_number 9 z e
apart_tells op.Xor ends z e = no_number 9 z e
apart_tells op.Or ends z e = no_number 9 z e

second_false : (b c : Bool) → (b || c) ≡ false → c ≡ false
second_false false c e = e
second_false true c e = absurd (differ e)
  where
    differ : true ≡ false → ⊥
    differ k = cc

module _ (p : Setting) (lie : ObjectsLie p) (s : State) (next : ℕ) (made : IsMade p.core next (kept s)) where
  abbrev alive : List Placed
  alive = placed p.core (kept s)

  -- both values are there
  both_there : (o : BinaryOp) (a b : Value) (z : ℤ) → compared_alive s o a b ≡ Ok z
      → (is_missing a ≡ false) × (is_missing b ≡ false)
  both_there o (Pointer m x) (Pointer n y) z e = (refl, refl)
  both_there o (Pointer m x) (Int j) z e = (refl, refl)
  both_there o (Pointer m x) Null z e = (refl, refl)
  both_there o (Pointer m x) Undefined z e = no_number 11 z e
  both_there o (Int i) (Pointer n y) z e = (refl, refl)
  both_there o (Int i) (Int j) z e = (refl, refl)
  both_there o (Int i) Null z e = (refl, refl)
  both_there o (Int i) Undefined z e = no_number 11 z e
  both_there o Null (Pointer n y) z e = (refl, refl)
  both_there o Null (Int j) z e = (refl, refl)
  both_there o Null Null z e = (refl, refl)
  both_there o Null Undefined z e = no_number 11 z e
  both_there o Undefined (Pointer n y) z e = no_number 11 z e
  both_there o Undefined (Int j) z e = no_number 11 z e
  both_there o Undefined Null z e = no_number 11 z e
  both_there o Undefined Undefined z e = no_number 11 z e

  -- the words of two pointers to bytes of two objects differ
  words_differ : (m x n y v w : ℕ) → nat_eq m n ≡ false → IsInside alive s m x v → IsInside alive s n y w
      → at_end x (object_of s m) ≡ false → at_end y (object_of s n) ≡ false → StaysInside s (Pointer m x)
      → StaysInside s (Pointer n y) → nat_eq v w ≡ false
  words_differ m x n y v w other h k off_x off_y inside_x inside_y = from (spaced.bytes two)
    where
      spaced : AreSpaced (record { object = h.object; address = h.base }) (record { object = k.object; address = k.base })
      spaced = k.found.among (AreSpaced (record { object = h.object; address = h.base }))
          (h.found.among (λ q. Every (AreSpaced q) alive) (lie.spaced next (kept s) made))

      two : h.object.number ≡ k.object.number → ⊥
      two e =
          let same : m ≡ n = sym h.found.number ∙ e ∙ k.found.number in
          grind (arith, nat_tests)

      below : (offset : ℕ) (o : Object) → nat_eq offset (end_of o) ≡ false → offset ≤ end_of o → offset < object_size o
      below offset o off few =
          let less : offset < end_of o = grind (arith, nat_tests) in
          omega arith

      below_x : x < object_size h.object
      below_x = below x h.object (ap (at_end x) (sym h.alive) ∙ off_x) (inside_x h.object h.alive)

      below_y : y < object_size k.object
      below_y = below y k.object (ap (at_end y) (sym k.alive) ∙ off_y) (inside_y k.object k.alive)

      from : (h.base + object_size h.object ≤ k.base) ⊎ (k.base + object_size k.object ≤ h.base) → nat_eq v w ≡ false
      from (inl l) =
          let is_v = h.word in let is_w = k.word in let few = below_x in
          let less : v < w = omega arith in
          grind (arith, nat_tests)
      from (inr l) =
          let is_v = h.word in let is_w = k.word in let few = below_y in
          let less : w < v = omega arith in
          grind (arith, nat_tests)

  -- the words of two pointers tell
  two_tell : (o : BinaryOp) (m x n y v w : ℕ) (z : ℤ) → is_none (object_of s m) ≡ false → is_none (object_of s n) ≡ false
      → StaysInside s (Pointer m x) → StaysInside s (Pointer n y)
      → HasCode (value_code alive (Pointer m x)) v → HasCode (value_code alive (Pointer n y)) w
      → compared_alive s o (Pointer m x) (Pointer n y) ≡ Ok z → z ≡ truth (holds o v w)
  two_tell o m x n y v w z there_m there_n inside_x inside_y has_v has_w e = from (nat_eq m n) refl e
    where
      h : IsInside alive s m x v
      h = pointer_inside p lie s next made m x v there_m inside_x has_v

      k : IsInside alive s n y w
      k = pointer_inside p lie s next made n y w there_n inside_y has_w

      good : ℤ → Result ℤ ℕ
      good i = Ok i

      from : (c : Bool) → nat_eq m n ≡ c
          → (if c then compared_offsets o x y else apart o (at_end x (object_of s m) || at_end y (object_of s n))) ≡ good z
          → z ≡ truth (holds o v w)
      from true i f =
          let same : m ≡ n = eqb-true m n i in
          let one : h.base ≡ k.base = same_address h.base k.base
          (sym h.found.address ∙ ap (λ (j : ℕ). address_of alive j) same ∙ k.found.address) in
          let is_w : w ≡ h.base + y = k.word ∙ ap (λ (j : ℕ). j + y) (sym one) in
          offsets_tell o h.base x y z f
          ∙ ap (λ (j : ℕ). truth (holds o j (h.base + y))) (sym h.word)
          ∙ ap (λ (j : ℕ). truth (holds o v j)) (sym is_w)
      from false i f =
          let t = apart_tells o (at_end x (object_of s m) || at_end y (object_of s n)) z f in
          let differ = words_differ m x n y v w i h k
          (first_false (at_end x (object_of s m)) (at_end y (object_of s n)) t.0)
          (second_false (at_end x (object_of s m)) (at_end y (object_of s n)) t.0) inside_x inside_y in
          unordered_tells o false 9 v w z differ t.1

  alive_tells : (o : BinaryOp) (a b : Value) (v w : ℕ) (z : ℤ) → gone s a ≡ false → gone s b ≡ false
      → StaysInside s a → StaysInside s b → HasCode (value_code alive a) v → HasCode (value_code alive b) w
      → compared_alive s o a b ≡ Ok z → z ≡ truth (holds o v w)
  alive_tells o (Pointer m x) (Pointer n y) v w z there_a there_b inside_a inside_b has_a has_b e =
      two_tell o m x n y v w z there_a there_b inside_a inside_b has_a has_b e
  alive_tells o (Pointer m x) Null v w z there_a there_b inside_a inside_b has_a has_b e =
      let h = pointer_inside p lie s next made m x v there_a inside_a has_a in
      let low = h.low in let is_v = h.word in
      let is_w : w ≡ 0 = has_b in
      let some : nat_eq v w ≡ false = grind (arith, nat_tests) in
      unordered_tells o false 12 v w z some e
  alive_tells o Null (Pointer n y) v w z there_a there_b inside_a inside_b has_a has_b e =
      let k = pointer_inside p lie s next made n y w there_b inside_b has_b in
      let low = k.low in let is_w = k.word in
      let is_v : v ≡ 0 = has_a in
      let some : nat_eq v w ≡ false = grind (arith, nat_tests) in
      unordered_tells o false 12 v w z some e
  alive_tells o Null Null v w z there_a there_b inside_a inside_b has_a has_b e =
      let is_v : v ≡ 0 = has_a in
      let is_w : w ≡ 0 = has_b in
      let both : nat_eq v w ≡ true = grind (arith, nat_tests) in
      unordered_tells o true 12 v w z both e
  alive_tells o (Pointer m x) (Int j) v w z there_a there_b inside_a inside_b has_a has_b e = no_number 0 z e
  alive_tells o (Pointer m x) Undefined v w z there_a there_b inside_a inside_b has_a has_b e = no_number 11 z e
  alive_tells o (Int i) (Pointer n y) v w z there_a there_b inside_a inside_b has_a has_b e = no_number 0 z e
  alive_tells o (Int i) (Int j) v w z there_a there_b inside_a inside_b has_a has_b e = no_number 0 z e
  alive_tells o (Int i) Null v w z there_a there_b inside_a inside_b has_a has_b e = no_number 0 z e
  alive_tells o (Int i) Undefined v w z there_a there_b inside_a inside_b has_a has_b e = no_number 11 z e
  alive_tells o Null (Int j) v w z there_a there_b inside_a inside_b has_a has_b e = no_number 0 z e
  alive_tells o Null Undefined v w z there_a there_b inside_a inside_b has_a has_b e = no_number 11 z e
  alive_tells o Undefined (Pointer n y) v w z there_a there_b inside_a inside_b has_a has_b e = no_number 11 z e
  alive_tells o Undefined (Int j) v w z there_a there_b inside_a inside_b has_a has_b e = no_number 11 z e
  alive_tells o Undefined Null v w z there_a there_b inside_a inside_b has_a has_b e = no_number 11 z e
  alive_tells o Undefined Undefined v w z there_a there_b inside_a inside_b has_a has_b e = no_number 11 z e

  pointers_tell : (o : BinaryOp) (a b c : Value) → StaysInside s a × StaysInside s b → int_value (compared s o a b) ≡ Ok c
      → Tells alive (is_back o) (holds_where o false) a b c
  unfolding compared
  pointers_tell o a b c inside e =
      let n = count_is (compared s o a b) c e in
      let t = not_gone (gone s a || gone s b) (compared_alive s o a b) n.count n.is in
      let there = both_there o a b n.count t.1 in
      record {
        result = n.count;
        is = sym n.value;
        left = there.0;
        right = there.1;
        told = λ v w status small_v small_w has_a has_b.
            ap wrapped (alive_tells o a b v w n.count (first_false (gone s a) (gone s b) t.0)
            (second_false (gone s a) (gone s b) t.0) inside.0 inside.1 has_a has_b t.1)
            ∙ flag_word (holds o v w) ∙ ap flag (sym (flags_tell o v w status small_v small_w));
      }

pub pointers_told : (p : Setting) (lie : ObjectsLie p) (o : BinaryOp)
    → IsTold p (operation.ComparePointers o) (is_back o) (holds_where o false) StayInside
pointers_told p lie o = record {
  left = refl;
  right = refl;
  code = ap (λ (x : Part). x ∷ truth_where (holds_where o false)) (flags_are o);
  flags = ap (λ (x : Part). x ∷ []) (flags_are o);
  condition = refl;
  asked = asked_plain o;
  tells = λ s next a b c made inside e. pointers_tell p lie s next made o a b c inside e;
}

module _ (p : Setting) (lay : IsLaid p) (lie : ObjectsLie p) where
  pub compare_pointers_does : (d : ℕ) (o : BinaryOp) (left right : Operand)
      → DoesWhere p 7 (step.Binary d (operation.ComparePointers o) left right) (FindsTwo left right StayInside)
  compare_pointers_does d o left right =
      binary_told p lay (operation.ComparePointers o) (is_back o) (holds_where o false) StayInside (pointers_told p lie o) d left
      right

  pub branch_pointers_does : (d : ℕ) (o : BinaryOp) (left right : Operand) (of : IntType) (when : Bool) (to : ℕ)
      → DoesWhere p 5 (step.Branch d (test.Computed (operation.ComparePointers o) left right) of when to)
      (FindsTwo left right StayInside)
  branch_pointers_does d o left right of when to =
      branch_told p lay (operation.ComparePointers o) (is_back o) (holds_where o false) StayInside (pointers_told p lie o) d left
      right of when to

  pub beside_pointers_does : (d : ℕ) (o : BinaryOp)
      → DoesWhere p 7 (step.Beside d (operation.ComparePointers o)) (FindsTop StayInside)
  beside_pointers_does d o =
      beside_told p lay (operation.ComparePointers o) (is_back o) (holds_where o false) StayInside (pointers_told p lie o) d

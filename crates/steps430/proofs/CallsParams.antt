-- All arguments are copied, and so a function is entered.
use Rattle.std.proofs.Common.{◌≡◌, ℕ, zero, suc, ◌+◌, ◌*◌, ◌≤◌, refl, sym, ap, ◌∙◌, subst, arith, false, List, [], ◌∷◌, length, map, take, reverse, drop, Some, Result, Ok, Err}
use Rattle.std.proofs.lemmas.List.{length-take-le}
use Rattle.std.specs.Prelude.{slice_get}
use Rattle.base16.specs.Board.{segment_start}
use Rattle.base16.specs.declared.image.Kind.{Kind}
use Rattle.isa430.specs.declared.instr.TwoOp.TheVariants.{Mov}
use Rattle.isa430.specs.declared.instr.Src.TheVariants.{Indexed}
use Rattle.isa430.specs.declared.instr.Dst.TheVariants.{Indexed as ToIndexed}
use Rattle.isa430.specs.declared.instr.Instr.TheVariants.{Two}
use Rattle.core430.specs.Registers.{set_reg}
use Rattle.ideal430.specs.Ideal.{Meter}
use Rattle.ideal430.specs.Settled.{Bytes}
use Rattle.c_run.specs.Actions.{kept, with_params}
use Rattle.c_run.specs.Runs.{Run}
use Rattle.c_values.specs.Objects.{with_scalar}
use Rattle.c_values.specs.Values.{fit, all_present}
use Rattle.c_values.specs.declared.state.State.{State}
use Rattle.c_values.specs.declared.value.Value.{Value}
use Rattle.c_values.specs.declared.value.Value.TheVariants.{Int, Pointer, Null, Undefined}
use Rattle.cells430.specs.Cells.{Cells}
use Rattle.cells430.specs.Stretch.{Course, outside, at, Leads}
use Rattle.core_tree.specs.LawfulCore.{Every}
use Rattle.ir.specs.declared.control.Control.TheVariants.{At}
use Rattle.ir.specs.declared.control.Frame.{Frame}
use Rattle.ir.specs.declared.form.IrLocal.{IrLocal}
use Rattle.ir.specs.declared.form.StepKind.TheVariants as step
use Rattle.ir.specs.Machine.{objects_of, first_kind, param_kinds}
use Rattle.ir.specs.Typed.{IsSingle, HasParameters}
use Rattle.matching.specs.Matches.{placed}
use Rattle.select430.specs.Code.{is_char, copies}
use Rattle.select430.specs.Frames.{word}
use Rattle.steps430.specs.Setting.{Setting, function_of, step_at, IsLaid}
use Rattle.steps430.specs.Holds.{is_missing}
use Rattle.steps430.specs.Standing.{Stage, StandsAt}
use Rattle.steps430.specs.Calls.{FramesLaid, DoesEnter}
use Rattle.steps430.proofs.CallsEntry.{HasArguments, CopiesArguments, enter_does}
use Rattle.steps430.proofs.CallsObjects.{HaveScalars}
use Rattle.steps430.proofs.CallsOne.{copies_one}
use Rattle.steps430.proofs.Moves.{From, from_do, level}
use Rattle.steps430.proofs.Steps.{stands_now}

-- setting scalars makes no mark
scalar_marks : (n : ℕ) (v : Value) (s : State) → (with_scalar n 0 v s).marks ≡ s.marks
unfolding with_scalar
scalar_marks n v s = refl

pub params_marks : (n : ℕ) (ks : List Kind) (vs : List Value) (s : State) → (with_params n ks vs s).marks ≡ s.marks
params_marks n [] vs s = refl
params_marks n (k ∷ ks) [] s = refl
params_marks n (k ∷ ks) (v ∷ vs) s = params_marks (n + 1) ks vs (with_scalar n 0 (fit k v) s) ∙ scalar_marks n (fit k v) s

-- the rest of a list from a place on
abbrev pub IsRest : {A : Type 0} → (all : List A) → ℕ → (rest : List A) → Type 0
IsRest {A} all i rest = (j : ℕ) (x : A) → slice_get rest j ≡ Some x → slice_get all (i + j) ≡ Some x

abbrev kinds : List IrLocal → List Kind
kinds ls = map (λ (l : IrLocal). first_kind l.scalars) ls

abbrev fine : Result (Unit {0}) ℕ
fine = Ok tt

abbrev wrong : Result (Unit {0}) ℕ
wrong = Err 11

-- where all values are there, the first is, and so are the others
presents : (v : Value) (vs : List Value) → all_present (v ∷ vs) ≡ Ok tt → (is_missing v ≡ false) × (all_present vs ≡ Ok tt)
presents (Int z) vs e = (refl, e)
presents (Pointer n o) vs e = (refl, e)
presents Null vs e = (refl, e)
presents Undefined vs e = absurd (differ e)
  where
    differ : wrong ≡ fine → ⊥
    differ k = cc

module _ (p : Setting) (lay : IsLaid p) (f : ℕ) (args : List Value) (below : List Frame) (first : ℕ) (r : Run)
    (segment sp : ℕ) (ps : ℕ → ℕ) (low : segment_start segment + 4 ≤ sp) (x : Course) where
  -- from a parameter on
  copies_from : (ls : List IrLocal) (vs : List Value) (i : ℕ) (s : State) (all own : Cells) (rr m : ℕ
      → ℕ) (st : Bytes) (y : Meter)
      → length vs ≡ length ls → IsRest (function_of p f).locals i ls → IsRest args i vs → Every IsSingle ls
      → all_present vs ≡ Ok tt
      → HaveScalars (objects_of (function_of p f)) (reverse s.calls)
      → Stage p s r.next (level f 1 first [] ∷ below) all own segment sp sp ps rr m st
      → HasArguments p all own (placed p.core (kept s)) args below (rr 14)
      → From p f (rr 0) (copies p.ir (function_of p f) i ls) (step_at p f 1)
      → x ≡ outside (with_params (first + i) (kinds ls) vs s).marks (drop r.used p.readings)
      → Leads (length ls) (at segment ps rr m st x y)
      (StandsAt p (At f 1 first [] below) (record r { state = with_params (first + i) (kinds ls) vs s }))
  copies_from [] vs i s all own rr m st y same locals rest single there have stage held code is =
      subst (λ (c : Course). Leads 0 (at segment ps rr m st c y) (StandsAt p (At f 1 first [] below) (record r { state = s })))
      (sym is)
      (stands_now p lay 0 f 1 1 first [] [] below (record r { state = s }) all own segment sp ps rr m st y stage low code)
  copies_from (l ∷ ls) [] i s all own rr m st y same locals rest single there have stage held code is = absurd (differ same)
    where
      differ : 0 ≡ suc (length ls) → ⊥
      differ e = cc
  copies_from (l ∷ ls) (v ∷ vs) i s all own rr m st y same locals rest single there have stage held code is =
      let k : Kind = first_kind l.scalars in
      let one = single.0 in
      let are = presents v vs there in
      let kind_is : k ≡ one.0 = ap first_kind one.1 in
      let s2 : State = with_scalar (first + i) 0 (fit k v) s in
      let here_is : i + 0 ≡ i = omega arith in
      let fewer : length vs ≡ length ls = omega arith in
      let step : first + i + 1 ≡ first + suc i = omega arith in
      let c = from_do p f (rr 0) (Two Mov (is_char k) (Indexed 14 (word (2 * i))) (ToIndexed 1 (word l.offset)))
      (copies p.ir (function_of p f) (suc i) ls) (step_at p f 1) code in
      let after : State = with_params (first + i + 1) (kinds ls) vs s2 in
      let moved : with_params (first + suc i) (kinds ls) vs s2 ≡ after = ap
      (λ (j : ℕ). with_params j (kinds ls) vs s2) (sym step) in
      copies_one p lay (StandsAt p (At f 1 first [] below) (record r { state = after })) f i first l k
      (subst (λ (j : ℕ). slice_get (function_of p f).locals j ≡ Some l) here_is (locals 0 l refl))
      (one.1 ∙ ap (λ (z : Kind). record { offset = 0; kind = z } ∷ []) (sym kind_is))
      (length ls) v (fit k v) args below s r.next all own segment sp ps rr m st x y
      (subst (λ (j : ℕ). slice_get args j ≡ Some v) here_is (rest 0 v refl)) are.0 refl have stage held c.0
      (λ all2 own2 m2 st2 y2 have2 stage2 held2.
      subst (λ (z : State). Leads (length ls) (at segment ps (set_reg rr 0 (rr 0 + 6)) m2 st2 x y2)
      (StandsAt p (At f 1 first [] below) (record r { state = z }))) moved
      (copies_from ls vs (suc i) s2 all2 own2 (set_reg rr 0 (rr 0 + 6)) m2 st2 y2 fewer
      (λ j z e. let more : i + suc j ≡ suc i + j = omega arith in
      subst (λ (q : ℕ). slice_get (function_of p f).locals q ≡ Some z) more (locals (suc j) z e))
      (λ j z e. let more : i + suc j ≡ suc i + j = omega arith in
      subst (λ (q : ℕ). slice_get args q ≡ Some z) more (rest (suc j) z e))
      single.1 are.1 have2 stage2 held2 c.1
      (is ∙ ap (λ (z : State). outside z.marks (drop r.used p.readings)) (sym moved))))

-- ---- all of them

abbrev no_locals : List IrLocal
no_locals = []

never_local : (j : ℕ) (x : IrLocal) → slice_get no_locals j ≡ Some x → ⊥
never_local j x e = cc

take_gets : (n : ℕ) (xs : List IrLocal) (j : ℕ) (x : IrLocal) → slice_get (take n xs) j ≡ Some x → slice_get xs j ≡ Some x
take_gets zero xs j x e = absurd (never_local j x e)
take_gets (suc n) [] j x e = e
take_gets (suc n) (y ∷ xs) zero x e = e
take_gets (suc n) (y ∷ xs) (suc j) x e = take_gets n xs j x e

copies_all : (p : Setting) → IsLaid p → (f n : ℕ) → HasParameters (function_of p f) n → CopiesArguments p f n n
copies_all p lay f n params args below first r all own segment sp ps rr m st y stage low have count present there code =
    let ls : List IrLocal = take n (function_of p f).locals in
    let size : length ls ≡ n = length-take-le n (function_of p f).locals params.among in
    let start : first + 0 ≡ first = omega arith in
    let s2 : State = with_params (first + 0) (kinds ls) args r.state in
    let named : kinds ls ≡ param_kinds (function_of p f) =
    ap (λ (j : ℕ). kinds (take j (function_of p f).locals)) (sym params.count) in
    let same : s2 ≡ with_params first (param_kinds (function_of p f)) args r.state =
    ap (λ (j : ℕ). with_params j (kinds ls) args r.state) start
    ∙ ap (λ (ks : List Kind). with_params first ks args r.state) named in
    subst (λ (z : State). Leads n (at segment ps rr m st (outside r.state.marks (drop r.used p.readings)) y)
    (StandsAt p (At f 1 first [] below) (record r { state = z }))) same
    (subst (λ (j : ℕ). Leads j (at segment ps rr m st (outside r.state.marks (drop r.used p.readings)) y)
    (StandsAt p (At f 1 first [] below) (record r { state = s2 }))) size
    (copies_from p lay f args below first r segment sp ps low (outside r.state.marks (drop r.used p.readings)) ls args 0 r.state
    all own rr m st y (count ∙ params.count ∙ sym size)
    (λ j x e. let z : j ≡ 0 + j = omega arith in
    subst (λ (q : ℕ). slice_get (function_of p f).locals q ≡ Some x) z (take_gets n (function_of p f).locals j x e))
    (λ j x e. let z : j ≡ 0 + j = omega arith in subst (λ (q : ℕ). slice_get args q ≡ Some x) z e)
    params.single present have stage there code
    (ap (λ (k : ℕ). outside k (drop r.used p.readings)) (sym (params_marks (first + 0) (kinds ls) args r.state)))))

-- a function is entered, each parameter of which is one scalar
pub enter_params_does : (p : Setting) → IsLaid p → FramesLaid p → (n : ℕ) → DoesEnter p (suc (suc n)) (step.Enter n)
enter_params_does p lay laid n = enter_does p lay laid n n (λ f params. copies_all p lay f n params)

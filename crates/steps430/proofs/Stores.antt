-- Stores: a scalar gets what a register holds, and what a store leaves as a temporary.
use Rattle.std.proofs.Common.{◌≡◌, ◌≢◌, ℕ, zero, suc, ◌+◌, ◌*◌, ◌%◌, ◌<◌, ◌≤◌, refl, sym, ap, ◌∙◌, subst, arith, Bool, true, false, not, ◌⊎◌, inl, inr, List, [], ◌∷◌, ◌++◌, length, drop, reverse, max, Option, Some, Result, Ok, Err}
use Rattle.std.proofs.lemmas.Bool.{ne_eqb}
use Rattle.std.specs.Prelude.{ℤ, pos, slice_get}
use Rattle.base16.specs.Board.{segment_start, segment_top, stack_start, stack_end, data_start, data_end}
use Rattle.base16.specs.Integer.{wrapped, signed}
use Rattle.base16.specs.declared.image.Kind.{Kind}
use Rattle.base16.specs.declared.image.Kind.TheVariants as kind
use Rattle.isa430.specs.declared.instr.TwoOp.TheVariants.{Mov}
use Rattle.isa430.specs.declared.instr.Src.TheVariants.{Reg}
use Rattle.isa430.specs.declared.instr.Dst.TheVariants.{Reg as ToReg, Indexed as ToIndexed}
use Rattle.isa430.specs.declared.instr.Instr.TheVariants.{Two}
use Rattle.core430.specs.declared.operand.Place.TheVariants.{InRegister, InMemory}
use Rattle.core430.specs.Registers.{set_reg}
use Rattle.core430.specs.Instructions.{Sets}
use Rattle.core430.specs.Uses.{AreWords}
use Rattle.run430.specs.Code.{Here}
use Rattle.run430.proofs.Rules.{Target, next as next_regs, two_at}
use Rattle.run430.proofs.Operands.{in_register, byte_in_register, byte_to_register, to_at, byte_to_at}
use Rattle.ideal430.specs.Ideal.{Ideal, Meter}
use Rattle.ideal430.specs.Settled.{Bytes}
use Rattle.c_run.specs.Actions.{kept, store, put_at}
use Rattle.c_run.specs.Runs.{Run, Action, ◌>>=◌, ◌>>◌, and_then, pure, given, changed}
use Rattle.c_values.specs.Objects.{with_scalar, accessed}
use Rattle.c_values.specs.Operators.{as_type}
use Rattle.c_values.specs.Pointers.{at as place_at}
use Rattle.c_values.specs.Values.{fitted, fit, or_missing, if_accessed, present}
use Rattle.c_values.specs.declared.state.State.{State}
use Rattle.c_values.specs.declared.value.Value.{Value}
use Rattle.c_values.specs.declared.value.Value.TheVariants.{Int, Pointer, Null, Undefined}
use Rattle.cells430.specs.Cells.{Cell, Word, Cells, set_cell, Live, OfOutput, OfData, OfFrame, OfOlder, Facts}
use Rattle.cells430.specs.Stretch.{Course, outside, at, Leads}
use Rattle.cells430.proofs.Lift.{sets, stores, stores_byte, leads_weaker}
use Rattle.ir.specs.declared.control.Control.{Control}
use Rattle.ir.specs.declared.control.Control.TheVariants.{At}
use Rattle.ir.specs.declared.control.Frame.{Frame}
use Rattle.ir.specs.declared.control.Temporary.{Temporary}
use Rattle.ir.specs.declared.control.Temporary.TheVariants as temporary
use Rattle.ir.specs.declared.form.Base.{Base}
use Rattle.ir.specs.declared.form.Base.TheVariants as base
use Rattle.ir.specs.declared.form.IrFunction.{IrFunction}
use Rattle.ir.specs.declared.form.IrLocal.{IrLocal}
use Rattle.ir.specs.declared.form.Keep.{Keep}
use Rattle.ir.specs.declared.form.Keep.TheVariants as keeping
use Rattle.ir.specs.declared.form.Operand.{Operand}
use Rattle.ir.specs.declared.form.StepKind.TheVariants as step
use Rattle.ir.specs.declared.form.Target.TheVariants as target
use Rattle.ir.specs.Machine.{act, on_before, kept as left_values}
use Rattle.ir.specs.Table.{taken, before_taken, left_by as left_of}
use Rattle.matching.specs.Covering.{cell_by, cell_of}
use Rattle.matching.specs.Matches.{Placed, placed, number_code, encoded}
use Rattle.matching.proofs.Storing.{placed_stored, codes_stay}
use Rattle.select430.specs.Frames.{temporaries_at, local_at, locals_end, offset_or}
use Rattle.select430.specs.declared.part.Part.{Part}
use Rattle.select430.specs.declared.part.Part.TheVariants.{Do}
use Rattle.select430.specs.Code.{is_char, narrowed, keep, kept as kept_code}
use Rattle.steps430.specs.Setting.{Setting, function_of, step_at, IsLaid}
use Rattle.steps430.specs.Holds.{is_missing, HasCode, value_code}
use Rattle.steps430.specs.Standing.{StandsAt, Stage}
use Rattle.steps430.specs.Follows.{Follows, DoesStep}
use Rattle.steps430.proofs.Moves.{From, from_do, level, top_of, with_regs, with_level}
use Rattle.steps430.proofs.Outcomes.{operand_follows, depth_follows, value_follows, given_follows}
use Rattle.steps430.proofs.Reading.{local_stands}
use Rattle.steps430.proofs.Values.{narrow_kind}
use Rattle.steps430.proofs.Operands.{brings_value}
use Rattle.steps430.proofs.Plain.{room_of}
use Rattle.steps430.proofs.Steps.{begins, falls, stands_now, keeps_last, left_by}
use Rattle.steps430.proofs.Stored.{fitted_whole, accessed_cell, stage_stored}
use Rattle.steps430.proofs.Words.{wrapped_signed, wrapped_small}

-- ---- what is stored

abbrev fine : Value → Result Value ℕ
fine v = Ok v

abbrev wrong : ℕ → Result Value ℕ
wrong n = Err n

same_value : (a b : Value) → fine a ≡ fine b → a ≡ b
same_value a b e = cc

never : {A : Type 0} (n : ℕ) (b : Value) → wrong n ≡ fine b → A
never n b e = absurd (differ e)
  where
    differ : wrong n ≡ fine b → ⊥
    differ k = cc

-- what a byte or a word keeps of a word
abbrev pub low : (byte : Bool) → ℕ → ℕ
low true w = w % 256
low false w = w

-- what is stored is not missing
pub fitted_there : (k : Kind) (v w : Value) → fitted k v ≡ Ok w → is_missing v ≡ false
unfolding fitted
fitted_there k (Int z) w e = refl
fitted_there k (Pointer n o) w e = refl
fitted_there k Null w e = refl
fitted_there k Undefined w e = never 11 w e

byte_same : (c n : ℕ) → c ≡ n → c % 256 ≡ n % 256 % 65536
byte_same c n e = omega arith

byte_code : (c n : ℕ) → c ≡ n → c % 256 ≡ n % 256 % 65536 % 256
byte_code c n e = omega arith

word_same : (c n : ℕ) → n < 65536 → c ≡ n → c ≡ n % 65536
word_same c n few e = omega arith

-- the word of a value, as far as it fits, is that of what is stored, as a scalar and as a value
pub stored_code : (alive : List Placed) (k : Kind) (v w : Value) (c : ℕ) → fitted k v ≡ Ok w → HasCode (value_code alive v) c
    → HasCode (encoded alive k w) (low (is_char k) c) × HasCode (value_code alive w) (low (is_char k) c)
unfolding fitted as_type
stored_code alive kind.Char (Int z) w c e h =
    subst (λ (x : Value). HasCode (encoded alive kind.Char x) (c % 256) × HasCode (value_code alive x) (c % 256))
    (same_value (Int (pos (wrapped z % 256))) w e) (byte_code c (wrapped z) h, byte_same c (wrapped z) h)
stored_code alive kind.Char (Pointer n o) w c e h = never 0 w e
stored_code alive kind.Char Null w c e h = never 0 w e
stored_code alive kind.Char Undefined w c e h = never 11 w e
stored_code alive kind.Int (Int z) w c e h =
    let same : c ≡ wrapped (signed (wrapped z)) = h ∙ sym (wrapped_signed (wrapped z) (wrapped_small z)) in
    subst (λ (x : Value). HasCode (encoded alive kind.Int x) c × HasCode (value_code alive x) c)
    (same_value (Int (signed (wrapped z))) w e) (same, same)
stored_code alive kind.Int (Pointer n o) w c e h = never 0 w e
stored_code alive kind.Int Null w c e h = never 0 w e
stored_code alive kind.Int Undefined w c e h = never 11 w e
stored_code alive kind.UInt (Int z) w c e h =
    let same = word_same c (wrapped z) (wrapped_small z) h in
    subst (λ (x : Value). HasCode (encoded alive kind.UInt x) c × HasCode (value_code alive x) c)
    (same_value (Int (pos (wrapped z))) w e) (same, same)
stored_code alive kind.UInt (Pointer n o) w c e h = never 0 w e
stored_code alive kind.UInt Null w c e h = never 0 w e
stored_code alive kind.UInt Undefined w c e h = never 11 w e
stored_code alive kind.Pointer (Int z) w c e h = never 0 w e
stored_code alive kind.Pointer (Pointer n o) w c e h =
    subst (λ (x : Value). HasCode (encoded alive kind.Pointer x) c
    × HasCode (value_code alive x) c) (same_value (Pointer n o) w e) (h, h)
stored_code alive kind.Pointer Null w c e h =
    subst (λ (x : Value). HasCode (encoded alive kind.Pointer x) c × HasCode (value_code alive x) c) (same_value Null w e) (h, h)
stored_code alive kind.Pointer Undefined w c e h = never 11 w e

-- a parameter gets what fits it, and else no value
pub fit_whole : (k : Kind) (v : Value) (z : ℤ) → fit k v ≡ Int z → number_code k z ≡ wrapped z
fit_whole k v z is = from (fitted k v) refl is
  where
    missing : Undefined ≡ Int z → ⊥
    missing e = cc

    from : (x : Result Value ℕ) → fitted k v ≡ x → or_missing x ≡ Int z → number_code k z ≡ wrapped z
    from (Ok w) e i = fitted_whole k v w z e i
    from (Err n) e i = absurd (missing i)

pub fit_code : (alive : List Placed) (k : Kind) (v : Value) (c : ℕ) → HasCode (value_code alive v) c
    → HasCode (encoded alive k (fit k v)) (low (is_char k) c)
fit_code alive k v c h = from (fitted k v) refl
  where
    from : (x : Result Value ℕ) → fitted k v ≡ x → HasCode (encoded alive k (or_missing x)) (low (is_char k) c)
    from (Ok w) e = (stored_code alive k v w c e h).0
    from (Err n) e = tt

-- codes are the same in the state with a scalar set
pub code_after : (p : Setting) (s : State) (n offset : ℕ) (x w : Value) (c : ℕ)
    → HasCode (value_code (placed p.core (kept s)) w) c
    → HasCode (value_code (placed p.core (kept (with_scalar n offset x s))) w) c
code_after p s n offset x w c h =
    subst (λ (qs : List Placed). HasCode (value_code qs w) c) (sym (placed_stored n offset x p.core s))
    (subst (λ (o : Option ℕ). HasCode o c) (sym (codes_stay n offset x (placed p.core (kept s)) kind.Int w)) h)

-- ---- what an action of a store comes to

-- what stands below a value that is stored: the value from before is there, if it is kept
pub data IsBelow : Keep → Value → (left us : List Temporary) → Type 0 where
  OfNothing : {ws : List Temporary} → IsBelow keeping.Nothing Undefined ws ws
  OfStored : {ws : List Temporary} → IsBelow keeping.Stored Undefined ws ws
  OfBefore : {b : Value} {ws : List Temporary} → is_missing b ≡ false → IsBelow keeping.Before b ws (temporary.Value b ∷ ws)

pub below_length : (keeps : Keep) (b : Value) (ws us : List Temporary) → IsBelow keeps b ws us
    → length us ≡ length ws + before_taken keeps
below_length keeps b ws us OfNothing = omega arith
below_length keeps b ws us OfStored = omega arith
below_length keeps b ws us (OfBefore there) = omega arith

-- a value that is present is there, and is passed on as it is
present_is : (b w : Value) → present b ≡ Ok w → (is_missing b ≡ false) × (b ≡ w)
present_is (Int z) w e = (refl, same_value (Int z) w e)
present_is (Pointer n o) w e = (refl, same_value (Pointer n o) w e)
present_is Null w e = (refl, same_value Null w e)
present_is Undefined w e = never 11 w e

module _ (p : Setting) (limit : ℕ) (t : Ideal) where
  pub before_follows : (node : ℕ) (keeps : Keep) (us : List Temporary) (go : Value → List Temporary → Action Control) (r : Run)
      → ((b : Value) (ws : List Temporary) → IsBelow keeps b ws us → Follows p limit (go b ws r) t)
      → Follows p limit (on_before node keeps us go r) t
  unfolding on_before
  before_follows node keeping.Nothing us go r more = more Undefined us OfNothing
  before_follows node keeping.Stored us go r more = more Undefined us OfStored
  before_follows node keeping.Before us go r more =
      value_follows p limit t us _ r (λ b ws e.
      given_follows p limit t node (present b) _ r (λ w is.
      let there = present_is b w is in
      subst (λ (z : Value). Follows p limit (go z ws r) t) there.1
      (more b ws (subst (λ (xs : List Temporary). IsBelow keeping.Before b ws xs) (sym e) (OfBefore there.0)))))

  pub store_follows : (node : ℕ) (n offset : ℕ) (k : Kind) (v : Value) (go : Value → Action Control) (r : Run)
      → ((old w : Value) → accessed r.state (place_at n offset) k ≡ Ok old → fitted k v ≡ Ok w
      → Follows p limit (go w (record r { state = with_scalar n offset w r.state })) t)
      → Follows p limit ((store node (place_at n offset) k v false >>= go) r) t
  unfolding store
  store_follows node n offset k v go r more = from (accessed r.state (place_at n offset) k) (fitted k v) refl refl
    where
      from : (a z : Result Value ℕ) → accessed r.state (place_at n offset) k ≡ a → fitted k v ≡ z
          → Follows p limit (and_then (and_then (given node (if_accessed a z) r)
          (λ stored. changed (put_at (Some n) offset stored) >> pure stored)) go) t
      from (Ok old) (Ok w) e f = more old w e f
      from (Ok old) (Err zero) e f = tt
      from (Ok old) (Err (suc i)) e f = tt
      from (Err zero) z e f = tt
      from (Err (suc i)) z e f = tt

-- ---- a scalar of the frame is written

pub local_low : (ls : List IrLocal) (n : ℕ) → offset_or (slice_get ls n) ≤ locals_end ls
local_low [] n = omega arith
local_low (l ∷ ls) zero = omega arith
local_low (l ∷ ls) (suc n) = let k = local_low ls n in omega arith

-- a cell that belongs to the youngest frame lies in the working segment
pub in_segment : (segment sp : ℕ) (ps : ℕ → ℕ) (address offset frame : ℕ) → segment_start segment ≤ sp → sp ≤ address
    → address ≤ sp + frame → sp + frame + 2 ≤ segment_top segment → segment_top segment ≤ stack_end
    → ((data_start ≤ address) × (address + offset < data_end)) ⊎ ((stack_start ≤ address) × (address + offset < stack_end))
    → Live segment sp ps (address + offset) → address + offset < segment_top segment
in_segment segment sp ps address offset frame base low high top last site (OfOutput l h) = absurd (omega arith)
in_segment segment sp ps address offset frame base low high top last (inl site) (OfData l h) = let k = site.0 in absurd
    (omega arith)
in_segment segment sp ps address offset frame base low high top last (inr site) (OfData l h) = let k = site.1 in absurd
    (omega arith)
in_segment segment sp ps address offset frame base low high top last site (OfFrame l h t k) = h
in_segment segment sp ps address offset frame base low high top last site (OfOlder l h t k) = absurd (omega arith)

module _ (p : Setting) (Q : Ideal → Type 0) where
  -- a word of the frame, or a byte
  writes_cell : (j : ℕ) (s : State) (next : ℕ) (frames : List Frame) (all own : Cells) (segment base sp : ℕ) (ps r m : ℕ
      → ℕ) (st : Bytes)
      (x : Course) (y : Meter) (byte : Bool) (o a : ℕ) (old : Option ℕ) → Stage p s next frames all own segment base sp ps r m st
      → Here p.code p.low p.high (r 0) (Two Mov byte (Reg 12) (ToIndexed 1 o)) → sp + o ≡ a → segment_start segment ≤ a
      → a < segment_top segment → all a ≡ Some (cell_by (not byte) old)
      → ((m2 : ℕ → ℕ) (st2 : Bytes) (y2 : Meter)
      → Facts p.code p.low p.high (set_cell all a (cell_by (not byte) (Some (low byte (r 12))))) m2 st2
      → AreWords (set_reg r 0 (r 0 + 4)) → Leads j (at segment ps (set_reg r 0 (r 0 + 4)) m2 st2 x y2) Q)
      → Leads (suc j) (at segment ps r m st x y) Q
  writes_cell j s next frames all own segment base sp ps r m st x y false o a old h here is first top cell more =
      let even : a % 2 ≡ 0 = (h.shape.fits a (Word old) cell).0 in
      let last = h.ground.last in
      let target : Target false (next_regs (Two Mov false (Reg 12) (ToIndexed 1 o)) r) (ToIndexed 1 o) (InMemory a) =
      subst (λ (b : ℕ). Target false (next_regs (Two Mov false (Reg 12) (ToIndexed 1 o)) r) (ToIndexed 1 o) (InMemory b)) is
      (to_at h.stack (omega arith) (omega arith)) in
      stores p.code p.low p.high segment sp ps h.ground Q j all h.shape r m st x y (Reg 12) (ToIndexed 1 o) (InRegister 12)
      (set_reg r 0 (r 0 + 4)) a (r 12) old h.facts h.words here in_register target refl tt cell first top refl h.stack more
  writes_cell j s next frames all own segment base sp ps r m st x y true o a old h here is first top cell more =
      let last = h.ground.last in
      let small : r 12 % 256 < 256 = omega arith in
      let target : Target true (next_regs (Two Mov true (Reg 12) (ToIndexed 1 o)) r) (ToIndexed 1 o) (InMemory a) =
      subst (λ (b : ℕ). Target true (next_regs (Two Mov true (Reg 12) (ToIndexed 1 o)) r) (ToIndexed 1 o) (InMemory b)) is
      (byte_to_at h.stack (omega arith)) in
      stores_byte p.code p.low p.high segment sp ps h.ground Q j all h.shape r m st x y (Reg 12) (ToIndexed 1 o) (InRegister 12)
      (set_reg r 0 (r 0 + 4)) a (r 12 % 256) old h.facts h.words here byte_in_register target refl tt cell small first top refl
      h.stack more

  -- a register keeps the low byte of its word
  pub narrows : (j : ℕ) (s : State) (next : ℕ) (frames : List Frame) (all own : Cells) (segment base sp : ℕ) (ps r m : ℕ
      → ℕ) (st : Bytes)
      (x : Course) (y : Meter) (g : ℕ) → Stage p s next frames all own segment base sp ps r m st
      → Here p.code p.low p.high (r 0) (Two Mov true (Reg g) (ToReg g)) → 4 ≤ g
      → ((st2 : Bytes) (y2 : Meter) → Stage p s next frames all own segment base sp ps (set_reg (set_reg r 0 (r 0 + 2)) g
      (r g % 256)) m st2
      → Leads j (at segment ps (set_reg (set_reg r 0 (r 0 + 2)) g (r g % 256)) m st2 x y2) Q)
      → Leads (suc j) (at segment ps r m st x y) Q
  narrows j s next frames all own segment base sp ps r m st x y g h here four more =
      let n2 : g ≢ 2 = omega arith in
      let n3 : g ≢ 3 = omega arith in
      let n0 : 0 ≢ g = omega arith in
      let n1 : 1 ≢ g = omega arith in
      let g0 : g ≢ 0 = omega arith in
      let r2 : ℕ → ℕ = set_reg (set_reg r 0 (r 0 + 2)) g (r g % 256) in
      let pc : r2 0 ≡ r 0 + 2 = simp (ne_eqb 0 g n0) in
      let stack : r2 1 ≡ sp = simp (ne_eqb 1 g n1) (h.stack) in
      let effect : two_at Mov true (Reg g) (ToReg g) r m (InRegister g) (InRegister g) ≡ Sets r2 =
      simp (ne_eqb g 2 n2, ne_eqb g 3 n3, ne_eqb g 0 g0) in
      sets p.code p.low p.high segment sp ps h.ground Q j all h.shape r m st x y Mov true (Reg g) (ToReg g) (InRegister g)
      (InRegister g) r2
      h.facts h.words here byte_in_register byte_to_register effect tt tt pc stack
      (λ st2 y2 facts wide. more st2 y2 (with_regs p s next all own segment base sp ps frames r m r2 st st2 stack wide facts h))

-- how many instructions it takes to keep what a store leaves
abbrev pub keeping_few : Keep → ℕ
keeping_few keeping.Nothing = 0
keeping_few keeps = 2

-- where steps have a value that they keep
pub data ForValue : ℕ → Type 0 where
  Twelve : ForValue 12
  Thirteen : ForValue 13

module _ (p : Setting) (lay : IsLaid p) (Q : Ideal → Type 0) where
  -- a scalar of a local gets what R12 holds
  pub writes_local : (j : ℕ) (s : State) (next : ℕ) (all own : Cells) (segment sp : ℕ) (ps r m : ℕ
      → ℕ) (st : Bytes) (x : Course) (y : Meter)
      (f q first : ℕ) (us : List Temporary) (ls : List Frame) (n offset : ℕ) (k : Kind) (old v w : Value) (end : ℕ)
      (more : List Part)
      → Stage p s next (level f q first us ∷ ls) all own segment sp sp ps r m st → n < length (function_of p f).locals
      → accessed s (place_at (first + n) offset) k ≡ Ok old → fitted k v ≡ Ok w
      → HasCode (value_code (placed p.core (kept s)) v) (r 12)
      → From p f (r 0) (Do (Two Mov (is_char k) (Reg 12) (ToIndexed 1 (local_at (function_of p f) n offset))) ∷ more) end
      → ((all2 own2 : Cells) (m2 : ℕ → ℕ) (st2 : Bytes) (y2 : Meter) → From p f (r 0 + 4) more end
      → Stage p (with_scalar (first + n) offset w s) next (level f q first us ∷ ls) all2 own2 segment sp sp ps (set_reg r 0
      (r 0 + 4)) m2 st2
      → Leads j (at segment ps (set_reg r 0 (r 0 + 4)) m2 st2 x y2) Q)
      → Leads (suc j) (at segment ps r m st x y) Q
  writes_local j s next all own segment sp ps r m st x y f q first us ls n offset k old v w end more h few e fit has code go =
      let fn : IrFunction = function_of p f in
      let o : ℕ = local_at fn n offset in
      let alive : List Placed = placed p.core (kept s) in
      let al = lay.alone next s (first + n) offset k old h.made e in
      let a : ℕ = al.address + offset in
      let base = local_stands p lay s all own segment sp f q first n us ls al.address offset k
      (reverse s.calls) refl h.stacked few al.apart in
      let there = accessed_cell p.core s own (first + n) offset k old e h.covered al.address al.is in
      let cell : all a ≡ Some (cell_by (not (is_char k)) there.0) =
      h.part a (cell_of k there.0) there.1 ∙ ap (λ (z : Cell). Some z) (narrow_kind k there.0) in
      let top = top_of p all own alive segment sp f q first us ls (reverse s.calls) h.stacked h.holds in
      let least = local_low fn.locals n in
      let objects = top.objects in
      let start = h.ground.base in
      let last = h.ground.last in
      let high = in_segment segment sp ps al.address offset fn.frame (omega arith) (omega arith)
      (omega arith) top.below h.ground.last al.site
      (h.shape.live a (cell_by (not (is_char k)) there.0) cell) in
      let is : sp + o ≡ a = omega arith in
      let c = from_do p f (r 0) (Two Mov (is_char k) (Reg 12) (ToIndexed 1 o)) more end code in
      let new : ℕ = low (is_char k) (r 12) in
      writes_cell p Q j s next (level f q first us ∷ ls) all own segment sp sp ps r m st x y (is_char k) o a there.0 h c.0 is
      (omega arith) high
      cell (λ m2 st2 y2 facts wide.
      go (set_cell all a (cell_of k (Some new))) (set_cell own a (cell_of k (Some new))) m2 st2 y2 c.1
      (stage_stored p lay s next (level f q first us ∷ ls) all own segment sp sp ps r m (set_reg r 0 (r 0 + 4)) m2 st st2
      (first + n) offset k
      old v w new h e fit (stored_code alive k v w (r 12) fit has).0 h.stack wide
      (subst (λ (z : Cell). Facts p.code p.low p.high (set_cell all a z) m2 st2) (sym (narrow_kind k (Some new))) facts)))

module _ (p : Setting) (lay : IsLaid p) (f q q2 first : ℕ) (ls : List Frame) (r : Run) (all own : Cells) (segment sp : ℕ)
    (ps rr m : ℕ → ℕ) (st : Bytes) (y : Meter) where
  -- what is stored becomes a temporary
  pub ends_stored : (d g : ℕ) (k : Kind) (w : Value) (us : List Temporary) → ForValue g
      → Stage p r.state r.next (level f q first us ∷ ls) all own segment sp sp ps rr m st → segment_start segment + 4 ≤ sp
      → From p f (rr 0) (narrowed k g ++ keep p.ir (function_of p f) d g) (step_at p f q2) → length us ≡ d
      → temporaries_at (function_of p f) + 2 * d + 2 ≤ (function_of p f).frame
      → HasCode (value_code (placed p.core (kept r.state)) w) (low (is_char k) (rr g))
      → Leads 2 (at segment ps rr m st (outside r.state.marks (drop r.used p.readings)) y)
      (StandsAt p (At f q2 first (temporary.Value w ∷ us) ls) r)
  ends_stored d g kind.Char w us Twelve stage start code depth room has =
      let fn : IrFunction = function_of p f in
      let c = from_do p f (rr 0) (Two Mov true (Reg 12) (ToReg 12)) (keep p.ir fn d 12) (step_at p f q2) code in
      narrows p (StandsAt p (At f q2 first (temporary.Value w ∷ us) ls) r) 1 r.state r.next
      (level f q first us ∷ ls) all own segment sp sp
      ps rr m st (outside r.state.marks (drop r.used p.readings)) y 12 stage c.0 (omega arith) (λ st2 y2 stage2.
      keeps_last p lay 0 f q q2 first d 12 (rr 12 % 256) (temporary.Value w) us ls r all own segment sp ps
      (set_reg (set_reg rr 0 (rr 0 + 2)) 12 (rr 12 % 256)) m st2 y2 stage2 start c.1 depth room refl has)
  ends_stored d g kind.Char w us Thirteen stage start code depth room has =
      let fn : IrFunction = function_of p f in
      let c = from_do p f (rr 0) (Two Mov true (Reg 13) (ToReg 13)) (keep p.ir fn d 13) (step_at p f q2) code in
      narrows p (StandsAt p (At f q2 first (temporary.Value w ∷ us) ls) r) 1 r.state r.next
      (level f q first us ∷ ls) all own segment sp sp
      ps rr m st (outside r.state.marks (drop r.used p.readings)) y 13 stage c.0 (omega arith) (λ st2 y2 stage2.
      keeps_last p lay 0 f q q2 first d 13 (rr 13 % 256) (temporary.Value w) us ls r all own segment sp ps
      (set_reg (set_reg rr 0 (rr 0 + 2)) 13 (rr 13 % 256)) m st2 y2 stage2 start c.1 depth room refl has)
  ends_stored d g kind.Int w us Twelve stage start code depth room has =
      keeps_last p lay 1 f q q2 first d 12 (rr 12)
      (temporary.Value w) us ls r all own segment sp ps rr m st y stage start code depth room refl has
  ends_stored d g kind.Int w us Thirteen stage start code depth room has =
      keeps_last p lay 1 f q q2 first d 13 (rr 13)
      (temporary.Value w) us ls r all own segment sp ps rr m st y stage start code depth room refl has
  ends_stored d g kind.UInt w us Twelve stage start code depth room has =
      keeps_last p lay 1 f q q2 first d 12 (rr 12)
      (temporary.Value w) us ls r all own segment sp ps rr m st y stage start code depth room refl has
  ends_stored d g kind.UInt w us Thirteen stage start code depth room has =
      keeps_last p lay 1 f q q2 first d 13 (rr 13)
      (temporary.Value w) us ls r all own segment sp ps rr m st y stage start code depth room refl has
  ends_stored d g kind.Pointer w us Twelve stage start code depth room has =
      keeps_last p lay 1 f q q2 first d 12 (rr 12)
      (temporary.Value w) us ls r all own segment sp ps rr m st y stage start code depth room refl has
  ends_stored d g kind.Pointer w us Thirteen stage start code depth room has =
      keeps_last p lay 1 f q q2 first d 13 (rr 13)
      (temporary.Value w) us ls r all own segment sp ps rr m st y stage start code depth room refl has

  -- what a store to a known place leaves
  pub ends_kept : (d g : ℕ) (k : Kind) (of : Base) (offset : ℕ) (keeps : Keep) (b w : Value) (ws us : List Temporary) (c : ℕ)
      → ForValue g
      → IsBelow keeps b ws us
      → Stage p r.state r.next (level f q first us ∷ ls) all own segment sp sp ps rr m st → segment_start segment + 4 ≤ sp
      → From p f (rr 0) (kept_code p.ir (function_of p f) keeps k (target.Known of offset) d g) (step_at p f q2) → length ws ≡ d
      → temporaries_at (function_of p f) + 2 * (d + max c (left_of keeps)) ≤ (function_of p f).frame
      → HasCode (value_code (placed p.core (kept r.state)) w) (low (is_char k) (rr g))
      → Leads (keeping_few keeps) (at segment ps rr m st (outside r.state.marks (drop r.used p.readings)) y)
      (StandsAt p (At f q2 first (left_values keeps w b ws) ls) r)
  ends_kept d g k of offset keeps b w ws us c is OfNothing stage start code depth room has =
      stands_now p lay 0 f q q2 first us us ls r all own segment sp ps rr m st y
      (with_level p r.state r.next all own segment sp sp ps f q q2 first us us ls rr m st (λ a z. z) stage) start code
  ends_kept d g k of offset keeps b w ws us c is OfStored stage start code depth room has =
      ends_stored d g k w us is stage start code depth
      (room_of (temporaries_at (function_of p f)) d c 1 (function_of p f).frame room (omega arith)) has
  ends_kept d g k of offset keeps b w ws us c is (OfBefore there) stage start code depth room has =
      stands_now p lay 2 f q q2 first us us ls r all own segment sp ps rr m st y
      (with_level p r.state r.next all own segment sp sp ps f q q2 first us us ls rr m st (λ a z. z) stage) start code

module _ (p : Setting) (lay : IsLaid p) where
  pub local_does : (d n offset : ℕ) (k : Kind) (x : Operand) (keeps : Keep)
      → DoesStep p (keeping_few keeps + 2) (step.StoreLocal d n offset k x keeps)
  unfolding with_scalar
  local_does d n offset k x keeps f q first ts ls node r t e h =
      let limit : ℕ = keeping_few keeps + 2 in
      begins p lay limit (act p.ir p.readings node (step.StoreLocal d n offset k x keeps) f q first ts ls r)
      (step.StoreLocal d n offset k x keeps) f q first node ts ls r t e h
      (λ all own segment sp ps rr m st y stage start stands code.
      operand_follows p limit _ node first x ts _ r (λ v us g.
      before_follows p limit _ node keeps us _ r (λ b ws below.
      depth_follows p limit _ d ws _ r (λ depth.
      store_follows p limit _ node (first + n) offset k v _ r (λ old w there fit.
      let fn : IrFunction = function_of p f in
      let end : ℕ = step_at p f (q + 1) in
      let r3 : Run = record r { state = with_scalar (first + n) offset w r.state } in
      let Q = StandsAt p (At f (q + 1) first (left_values keeps w b ws) ls) r3 in
      let way : Course = outside r.state.marks (drop r.used p.readings) in
      let deep : length us ≡ d + before_taken keeps = below_length keeps b ws us below
      ∙ ap (λ (i : ℕ). i + before_taken keeps) depth in
      let rest : List Part = kept_code p.ir fn keeps k (target.Known (base.Local n) offset) d 12 in
      leads_weaker (suc (suc (keeping_few keeps))) limit (at segment ps rr m st way y) Q Q (omega arith) (λ u z. z)
      (brings_value p lay Q r.state r.next all own segment sp ps rr m st way y f q first ls (suc (keeping_few keeps)) x ts v us
      (d + before_taken keeps) 12 end
      (Do (Two Mov (is_char k) (Reg 12) (ToIndexed 1 (local_at fn n offset))) ∷ rest) stage g
      (fitted_there k v w fit) deep stands.named.1
      (falls p lay (step.StoreLocal d n offset k x keeps) f q node (rr 0) tt stands code) (omega arith)
      (λ c pc st2 y2 has code2 stage2.
      let r1 : ℕ → ℕ = set_reg (set_reg rr 0 pc) 12 c in
      writes_local p lay Q (keeping_few keeps) r.state r.next all own segment sp ps r1 m st2 way y2 f q first us ls n offset k
      old v w end rest (left_by p r.state r.next all own segment sp sp ps r1 m st2 f q first x ts v us ls g stage2)
      stands.named.0 there fit has code2
      (λ all2 own2 m2 st3 y3 code3 stage3.
      ends_kept p lay f q (q + 1) first ls r3 all2 own2 segment sp ps (set_reg r1 0 (pc + 4)) m2 st3 y3 d 12 k
      (base.Local n) offset keeps
      b w ws us (before_taken keeps + taken x) Twelve below stage3 start code3 depth stands.room
      (code_after p r.state (first + n) offset w w (low (is_char k) c)
      (stored_code (placed p.core (kept r.state)) k v w c fit has).1)))))))))

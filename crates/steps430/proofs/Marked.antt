-- Stores with a mark: the address comes into a register, and a service stores.
use Rattle.std.proofs.Common.{◌≡◌, ℕ, zero, suc, ◌+◌, ◌*◌, ◌%◌, ◌<◌, ◌≤◌, refl, sym, ap, ◌∙◌, subst, arith, Bool, true, false, not, List, [], ◌∷◌, ◌++◌, length, drop, reverse, max, Option, Some, None, Result, Ok, Err, if◌then◌else◌}
use Rattle.std.proofs.lemmas.Bool.{lt-ltb}
use Rattle.std.proofs.lemmas.Bool.Decides.{nat_tests}
use Rattle.std.specs.Prelude.{pos, nat_lt, slice_get}
use Rattle.base16.specs.Board.{outputs_end, segment_start, service_entry}
use Rattle.base16.specs.Integer.{wrapped}
use Rattle.base16.specs.declared.image.Kind.{Kind}
use Rattle.base16.specs.declared.image.Kind.TheVariants as kind
use Rattle.base16.specs.declared.reading.Reading.{Reading}
use Rattle.isa430.specs.declared.instr.OneOp.TheVariants.{Call as CallOp}
use Rattle.isa430.specs.declared.instr.TwoOp.TheVariants.{Mov, Add}
use Rattle.isa430.specs.declared.instr.Src.{Src}
use Rattle.isa430.specs.declared.instr.Src.TheVariants.{Reg, Immediate, Constant}
use Rattle.isa430.specs.declared.instr.Dst.TheVariants.{Reg as ToReg}
use Rattle.isa430.specs.declared.instr.Instr.TheVariants.{One, Two}
use Rattle.isa430.specs.Table.{size_of}
use Rattle.core430.specs.declared.operand.Place.TheVariants.{InRegister, Given}
use Rattle.core430.specs.Instructions.{Sets, flagged, two_status}
use Rattle.core430.specs.Operands.{constant_of}
use Rattle.core430.specs.Registers.{set_reg}
use Rattle.core430.specs.Uses.{AreWords}
use Rattle.run430.specs.Code.{Here}
use Rattle.run430.proofs.Operands.{in_register, to_register, given as is_given, constant as generated}
use Rattle.ideal430.specs.Ideal.{Ideal, Meter}
use Rattle.ideal430.specs.Places.{may_store}
use Rattle.ideal430.specs.Settled.{Bytes}
use Rattle.ideal430.specs.declared.state.IdealEnd.TheVariants.{Running}
use Rattle.c_run.specs.Actions.{kept, store, put_at, count, count_in}
use Rattle.c_run.specs.Runs.{Run, Stop, Outcome, Went, Stopped, Action, ◌>>=◌, ◌>>◌, and_then, pure, given, changed, counted, mark, mark_by}
use Rattle.c_values.specs.Objects.{with_scalar, accessed, accessed_in}
use Rattle.c_values.specs.Pointers.{at as place_at}
use Rattle.c_values.specs.Values.{fitted, if_accessed}
use Rattle.c_values.specs.declared.state.Saved.{Saved}
use Rattle.c_values.specs.declared.state.State.{State}
use Rattle.c_values.specs.declared.value.Location.{Location}
use Rattle.c_values.specs.declared.value.Value.{Value}
use Rattle.cells430.specs.Cells.{Cells, set_cell, Live, OfOutput, OfData, OfFrame, OfOlder, Shape, Facts}
use Rattle.cells430.specs.Stretch.{Course, Ground, outside, at, Leads, Comes, behind}
use Rattle.cells430.proofs.Cells.{live_below}
use Rattle.cells430.proofs.Lift.{sets, leads_now, leads_weaker}
use Rattle.cells430.proofs.Services.{stores16, stores8}
use Rattle.core_tree.specs.LawfulCore.{Every}
use Rattle.ir.specs.declared.control.Control.{Control}
use Rattle.ir.specs.declared.control.Control.TheVariants.{At}
use Rattle.ir.specs.declared.control.Frame.{Frame}
use Rattle.ir.specs.declared.control.Temporary.{Temporary}
use Rattle.ir.specs.declared.control.Temporary.TheVariants as temporary
use Rattle.ir.specs.declared.form.Base.{Base}
use Rattle.ir.specs.declared.form.Base.TheVariants as base
use Rattle.ir.specs.declared.form.IrFunction.{IrFunction}
use Rattle.ir.specs.declared.form.Keep.{Keep}
use Rattle.ir.specs.declared.form.Operand.{Operand}
use Rattle.ir.specs.declared.form.StepKind.TheVariants as step
use Rattle.ir.specs.declared.form.Target.{Target}
use Rattle.ir.specs.declared.form.Target.TheVariants as target
use Rattle.ir.specs.Machine.{act, known, on_target, next as next_step, kept as left_values}
use Rattle.ir.specs.Table.{taken, target_taken, before_taken, left_by as left_of}
use Rattle.matching.specs.Covering.{cell_of}
use Rattle.matching.specs.Matches.{Placed, address_of, pointer_code, placed}
use Rattle.select430.specs.Frames.{temporaries_at, local_at, global_at, offset_or, address_or}
use Rattle.select430.specs.declared.part.Part.{Part}
use Rattle.select430.specs.declared.part.Part.TheVariants.{Do}
use Rattle.select430.specs.Code.{constant, is_char, service, store_service, bring, bring_target, keep, kept as kept_code}
use Rattle.steps430.specs.Setting.{Setting, function_of, step_at, IsNamed, target_bases, operand_bases, IsLaid}
use Rattle.steps430.specs.Holds.{HasCode, object_address, place_code, value_code}
use Rattle.steps430.specs.Standing.{StandsAt, Stage}
use Rattle.steps430.specs.Follows.{Follows, DoesStep}
use Rattle.steps430.proofs.Marks.{mark_by_follows, follows_after, counted_stage}
use Rattle.steps430.proofs.Moves.{From, from_do, level, with_regs, without_top}
use Rattle.steps430.proofs.Operands.{brings_top, brings_value}
use Rattle.steps430.proofs.Outcomes.{operand_follows, depth_follows, place_follows}
use Rattle.steps430.proofs.Plain.{room_of}
use Rattle.steps430.proofs.Reading.{local_found, global_found}
use Rattle.steps430.proofs.Scalars.{accesses}
use Rattle.steps430.proofs.Steps.{begins, falls, stands_now, keeps_last, left_by}
use Rattle.steps430.proofs.Stored.{above_outputs, accessed_cell, stage_stored}
use Rattle.steps430.proofs.Stores.{low, fitted_there, stored_code, code_after, IsBelow, OfNothing, OfStored, OfBefore, below_length, before_follows, keeping_few, Thirteen, ends_stored, ends_kept}
use Rattle.steps430.proofs.Sums.{result}
use Rattle.steps430.proofs.Values.{IsNumber, Own, Generated, number_is, brings_number}

pub bases_left : (P : Base → Type 0) (xs ys : List Base) → Every P (xs ++ ys) → Every P xs
bases_left P [] ys h = tt
bases_left P (x ∷ xs) ys h = (h.0, bases_left P xs ys h.1)

pub bases_right : (P : Base → Type 0) (xs ys : List Base) → Every P (xs ++ ys) → Every P ys
bases_right P [] ys h = h
bases_right P (x ∷ xs) ys h = bases_right P xs ys h.1

-- ---- what a marked store comes to

at_number : (s : State) (l : Location) (k : Kind) (old : Value) (n : ℕ) → l.object ≡ Some n → accessed s l k ≡ Ok old
    → accessed s (place_at n l.offset) k ≡ Ok old
unfolding accessed
at_number s l k old n is e = ap (λ (x : Option ℕ). accessed_in s l.offset k x) (sym is) ∙ e

-- what follows the mark
abbrev pub behind_mark : (w : Value) → (Value → Action Control) → Outcome (Unit {0}) → Outcome Control
behind_mark w go x = and_then (and_then x (λ z. pure w)) go

module _ (p : Setting) (limit : ℕ) (t : Ideal) where
  pub marked_follows : (node : ℕ) (l : Location) (k : Kind) (v : Value) (go : Value → Action Control) (r : Run)
      → r.state.block ≡ None
      → ((n : ℕ) (old w : Value) → l.object ≡ Some n → accessed r.state (place_at n l.offset) k ≡ Ok old → fitted k v ≡ Ok w
      → Follows p limit (behind_mark w go (mark_by r.left (record r { state = with_scalar n l.offset w r.state }))) t)
      → Follows p limit ((store node l k v true >>= go) r) t
  unfolding store count mark
  marked_follows node l k v go r closed more = from (accessed r.state l k) (fitted k v) refl refl
    where
      from : (a z : Result Value ℕ) → accessed r.state l k ≡ a → fitted k v ≡ z
          → Follows p limit (and_then (and_then (given node (if_accessed a z) r)
          (λ stored. count 1 >> changed (put_at l.object l.offset stored) >> mark >> pure stored)) go) t
      from (Ok old) (Ok w) e f =
          let a = accesses p.core r.state l k old e in
          subst (λ (b : Option Saved). Follows p limit (and_then (and_then (and_then (and_then (count_in 1 b r.state r)
          (λ z. changed (put_at l.object l.offset w))) (λ z. mark)) (λ z. pure w)) go) t) (sym closed)
          (subst (λ (x : Option ℕ). Follows p limit (behind_mark w go (mark_by r.left
          (record r { state = put_at x l.offset w r.state }))) t)
          (sym a.object) (more a.number old w a.object (at_number r.state l k old a.number a.object e) f))
      from (Ok old) (Err zero) e f = tt
      from (Ok old) (Err (suc i)) e f = tt
      from (Err zero) z e f = tt
      from (Err (suc i)) z e f = tt

-- where a target is, and what temporaries it leaves
pub data IsTarget (first : ℕ) : Target → (ws : List Temporary) → Location → (left : List Temporary) → Type 0 where
  OfPlace : {l : Location} {xs : List Temporary} → IsTarget first target.Temporary (temporary.Place l ∷ xs) l xs
  OfKnown : (of : Base) (offset : ℕ) {xs : List Temporary} → IsTarget first (target.Known of offset) xs (known first of offset) xs

pub target_length : (first : ℕ) (to : Target) (ws : List Temporary) (l : Location) (xs : List Temporary)
    → IsTarget first to ws l xs
    → length ws ≡ length xs + target_taken to
target_length first to ws l xs OfPlace = omega arith
target_length first to ws l xs (OfKnown of offset) = omega arith

pub target_follows : (p : Setting) (limit : ℕ) (t : Ideal) (first : ℕ) (to : Target) (ws : List Temporary)
    (go : Location → List Temporary → Action Control) (r : Run)
    → ((l : Location) (xs : List Temporary) → IsTarget first to ws l xs → Follows p limit (go l xs r) t)
    → Follows p limit (on_target first to ws go r) t
unfolding on_target
target_follows p limit t first target.Temporary ws go r more =
    place_follows p limit t ws go r (λ l xs e. more l xs
    (subst (λ (us : List Temporary). IsTarget first target.Temporary us l xs) (sym e) OfPlace))
target_follows p limit t first (target.Known of offset) ws go r more = more (known first of offset) ws (OfKnown of offset)

-- ---- the address of a target comes into a register

-- where steps have an address
pub data ForPlace : ℕ → Type 0 where
  Nine : ForPlace 9
  Fourteen : ForPlace 14

known_fit : (alive : List Placed) (n base offset v : ℕ) → address_of alive n ≡ Some base → v ≡ (base + offset) % 65536
    → HasCode (place_code alive (place_at n offset)) v
known_fit alive n base offset v e is = from (nat_lt offset 65536)
  where
    from : (b : Bool) → HasCode (if b then pointer_code (address_of alive n) offset else None) v
    from true = subst (λ (x : Option ℕ). HasCode (pointer_code x offset) v) (sym e) is
    from false = tt

module _ (p : Setting) (Q : Ideal → Type 0) (j : ℕ) (s : State) (next : ℕ) (frames : List Frame) (all own : Cells)
    (segment base sp : ℕ) (ps r m : ℕ → ℕ) (st : Bytes) (x : Course) (y : Meter) where
  abbrev added : (g size w : ℕ) → (ℕ → ℕ)
  added g size w = set_reg (flagged (set_reg r 0 (r 0 + size)) (two_status Add false (r 2) (r g) w)) g (result Add (r g) w)

  adds_number : (src : Src) (g w : ℕ) → ForPlace g → IsNumber src w → Stage p s next frames all own segment base sp ps r m st
      → Here p.code p.low p.high (r 0) (Two Add false src (ToReg g))
      → ((r2 : ℕ → ℕ) (st2 : Bytes) (y2 : Meter) → r2 0 ≡ r 0 + size_of (Two Add false src (ToReg g)) → r2 g ≡ result Add (r g) w
      → Stage p s next frames all own segment base sp ps r2 m st2 → Leads j (at segment ps r2 m st2 x y2) Q)
      → Leads (suc j) (at segment ps r m st x y) Q
  adds_number src g w Nine Own h here more =
      sets p.code p.low p.high segment sp ps h.ground Q j all h.shape r m st x y Add false (Immediate w) (ToReg 9) (Given w)
      (InRegister 9) (added 9 4 w) h.facts h.words here is_given to_register refl tt tt refl h.stack
      (λ st2 y2 facts wide. more (added 9 4 w) st2 y2 refl refl
      (with_regs p s next all own segment base sp ps frames r m (added 9 4 w) st st2 h.stack wide facts h))
  adds_number src g w Nine (Generated c) h here more =
      sets p.code p.low p.high segment sp ps h.ground Q j all h.shape r m st x y Add false (Constant c) (ToReg 9) (Given
      (constant_of c))
      (InRegister 9) (added 9 2 (constant_of c)) h.facts h.words here generated to_register refl tt tt refl h.stack
      (λ st2 y2 facts wide. more (added 9 2 (constant_of c)) st2 y2 refl refl
      (with_regs p s next all own segment base sp ps frames r m (added 9 2 (constant_of c)) st st2 h.stack wide facts h))
  adds_number src g w Fourteen Own h here more =
      sets p.code p.low p.high segment sp ps h.ground Q j all h.shape r m st x y Add false (Immediate w) (ToReg 14) (Given w)
      (InRegister 14) (added 14 4 w) h.facts h.words here is_given to_register refl tt tt refl h.stack
      (λ st2 y2 facts wide. more (added 14 4 w) st2 y2 refl refl
      (with_regs p s next all own segment base sp ps frames r m (added 14 4 w) st st2 h.stack wide facts h))
  adds_number src g w Fourteen (Generated c) h here more =
      sets p.code p.low p.high segment sp ps h.ground Q j all h.shape r m st x y Add false (Constant c) (ToReg 14) (Given
      (constant_of c))
      (InRegister 14) (added 14 2 (constant_of c)) h.facts h.words here generated to_register refl tt tt refl h.stack
      (λ st2 y2 facts wide. more (added 14 2 (constant_of c)) st2 y2 refl refl
      (with_regs p s next all own segment base sp ps frames r m (added 14 2 (constant_of c)) st st2 h.stack wide facts h))

  -- the stack pointer is copied
  copies_stack : (g : ℕ) → ForPlace g → Stage p s next frames all own segment base sp ps r m st
      → Here p.code p.low p.high (r 0) (Two Mov false (Reg 1) (ToReg g))
      → ((st2 : Bytes) (y2 : Meter) → Stage p s next frames all own segment base sp ps (set_reg (set_reg r 0
      (r 0 + 2)) g sp) m st2
      → Leads j (at segment ps (set_reg (set_reg r 0 (r 0 + 2)) g sp) m st2 x y2) Q)
      → Leads (suc j) (at segment ps r m st x y) Q
  copies_stack g Nine h here more =
      let r2 : ℕ → ℕ = set_reg (set_reg r 0 (r 0 + 2)) 9 sp in
      sets p.code p.low p.high segment sp ps h.ground Q j all h.shape r m st x y Mov false (Reg 1) (ToReg 9) (InRegister 1)
      (InRegister 9) r2 h.facts h.words here in_register to_register
      (ap (λ (z : ℕ). Sets (set_reg (set_reg r 0 (r 0 + 2)) 9 z)) h.stack) tt tt refl h.stack
      (λ st2 y2 facts wide. more st2 y2 (with_regs p s next all own segment base sp ps frames r m r2 st st2 h.stack wide facts h))
  copies_stack g Fourteen h here more =
      let r2 : ℕ → ℕ = set_reg (set_reg r 0 (r 0 + 2)) 14 sp in
      sets p.code p.low p.high segment sp ps h.ground Q j all h.shape r m st x y Mov false (Reg 1) (ToReg 14) (InRegister 1)
      (InRegister 14) r2 h.facts h.words here in_register to_register
      (ap (λ (z : ℕ). Sets (set_reg (set_reg r 0 (r 0 + 2)) 14 z)) h.stack) tt tt refl h.stack
      (λ st2 y2 facts wide. more st2 y2 (with_regs p s next all own segment base sp ps frames r m r2 st st2 h.stack wide facts h))

module _ (p : Setting) (lay : IsLaid p) (Q : Ideal → Type 0) (s : State) (next : ℕ) (all own : Cells) (segment sp : ℕ)
    (ps r m : ℕ → ℕ) (st : Bytes) (x : Course) (y : Meter) (f q first : ℕ) (ls : List Frame) where
  -- what comes then, where a register has the address of a place
  abbrev pub ThenAt : (j g : ℕ) → List Temporary → Location → List Part → (end : ℕ) → Type 0
  ThenAt j g ws l more end =
      (r2 : ℕ → ℕ) (st2 : Bytes) (y2 : Meter) → HasCode (place_code (placed p.core (kept s)) l) (r2 g) → From p f (r2 0) more end
      → Stage p s next (level f q first ws ∷ ls) all own segment sp sp ps r2 m st2
      → Leads j (at segment ps r2 m st2 x y2) Q

  brings_local : (j g i offset end : ℕ) (ws : List Temporary) (more : List Part) → ForPlace g
      → Stage p s next (level f q first ws ∷ ls) all own segment sp sp ps r m st → i < length (function_of p f).locals
      → From p f (r 0) (Do (Two Mov false (Reg 1) (ToReg g))
      ∷ Do (Two Add false (constant (pos (local_at (function_of p f) i offset))) (ToReg g)) ∷ more) end
      → ThenAt j g ws (known first (base.Local i) offset) more end → Leads (suc (suc j)) (at segment ps r m st x y) Q
  brings_local j g i offset end ws more is h few code go =
      let fn : IrFunction = function_of p f in
      let alive : List Placed = placed p.core (kept s) in
      let o : ℕ = local_at fn i offset in
      let there = local_found p lay s next all own segment sp f q first i ws ls (reverse s.calls) h.made refl h.stacked few in
      let c0 = from_do p f (r 0) (Two Mov false (Reg 1) (ToReg g)) (Do (Two Add false (constant (pos o))
      (ToReg g)) ∷ more) end code in
      let c = from_do p f (r 0 + 2) (Two Add false (constant (pos o)) (ToReg g)) more end c0.1 in
      let r1 : ℕ → ℕ = set_reg (set_reg r 0 (r 0 + 2)) g sp in
      copies_stack p Q (suc j) s next (level f q first ws ∷ ls) all own segment sp sp ps r m st x y g is h c0.0 (λ st2 y2 stage2.
      adds_number p Q j s next (level f q first ws ∷ ls) all own segment sp sp ps r1 m st2 x y2 (constant (pos o)) g (wrapped
      (pos o)) is
      (number_is (pos o)) stage2 (subst
      (λ (z : ℕ). Here p.code p.low p.high z (Two Add false (constant (pos o)) (ToReg g))) (sym (pc g is)) c.0)
      (λ r2 st3 y3 at_pc at_g stage3.
      let value : r1 g ≡ sp = own_value g is in
      let sum : r2 g ≡ (sp + offset_or (slice_get fn.locals i) + offset) % 65536 = omega arith in
      go r2 st3 y3 (known_fit alive (first + i) (sp + offset_or (slice_get fn.locals i)) offset (r2 g) there sum)
      (subst (λ (z : ℕ). From p f z more end)
      (sym (at_pc ∙ ap (λ (z : ℕ). z + size_of (Two Add false (constant (pos o)) (ToReg g))) (pc g is))) c.1) stage3))
    where
      pc : (g : ℕ) → ForPlace g → set_reg (set_reg r 0 (r 0 + 2)) g sp 0 ≡ r 0 + 2
      pc g Nine = refl
      pc g Fourteen = refl

      own_value : (g : ℕ) → ForPlace g → set_reg (set_reg r 0 (r 0 + 2)) g sp g ≡ sp
      own_value g Nine = refl
      own_value g Fourteen = refl

  brings_global : (j g i offset end : ℕ) (ws : List Temporary) (more : List Part) → ForPlace g
      → Stage p s next (level f q first ws ∷ ls) all own segment sp sp ps r m st → i < length p.core.globals
      → From p f (r 0) (Do (Two Mov false (constant (pos (global_at p.ir i offset))) (ToReg g)) ∷ more) end
      → ThenAt j g ws (known first (base.Global i) offset) more end → Leads (suc j) (at segment ps r m st x y) Q
  brings_global j g i offset end ws more is h few code go =
      let alive : List Placed = placed p.core (kept s) in
      let o : ℕ = global_at p.ir i offset in
      let there = global_found p lay s next i h.made few in
      let c = from_do p f (r 0) (Two Mov false (constant (pos o)) (ToReg g)) more end code in
      let pc : ℕ = r 0 + size_of (Two Mov false (constant (pos o)) (ToReg g)) in
      let r2 : ℕ → ℕ = set_reg (set_reg r 0 pc) g (wrapped (pos o)) in
      brings_number p Q j s next (level f q first ws ∷ ls) all own segment sp sp ps r m st x y (constant (pos o)) g (wrapped
      (pos o)) h
      (number_is (pos o)) c.0 (four g is) (λ st2 y2 stage2.
      let value : r2 g ≡ wrapped (pos o) = own_value g is pc (wrapped (pos o)) in
      let sum : r2 g ≡ (address_or (slice_get p.ir.globals i) + offset) % 65536 = omega arith in
      go r2 st2 y2 (known_fit alive i (address_or (slice_get p.ir.globals i)) offset (r2 g) there sum)
      (subst (λ (z : ℕ). From p f z more end) (sym (at_pc g is pc (wrapped (pos o)))) c.1) stage2)
    where
      four : (g : ℕ) → ForPlace g → 4 ≤ g
      four g Nine = omega arith
      four g Fourteen = omega arith

      at_pc : (g : ℕ) → ForPlace g → (pc v : ℕ) → set_reg (set_reg r 0 pc) g v 0 ≡ pc
      at_pc g Nine pc v = refl
      at_pc g Fourteen pc v = refl

      own_value : (g : ℕ) → ForPlace g → (pc v : ℕ) → set_reg (set_reg r 0 pc) g v g ≡ v
      own_value g Nine pc v = refl
      own_value g Fourteen pc v = refl

  -- the target of a store
  pub brings_target : (j g d end : ℕ) (to : Target) (ws xs : List Temporary) (l : Location) (more : List Part) → ForPlace g
      → Stage p s next (level f q first ws ∷ ls) all own segment sp sp ps r m st → IsTarget first to ws l xs → length xs ≡ d
      → Every (IsNamed p.core (function_of p f)) (target_bases to)
      → From p f (r 0) (bring_target p.ir (function_of p f) to d g ++ more) end
      → ThenAt j g ws l more end → Leads (suc (suc j)) (at segment ps r m st x y) Q
  brings_target j g d end to ws xs l more is h OfPlace depth named code go = from g is code go
    where
      from : (g : ℕ) → ForPlace g → From p f (r 0) (bring_target p.ir (function_of p f) target.Temporary d g ++ more) end
          → ThenAt j g ws l more end → Leads (suc (suc j)) (at segment ps r m st x y) Q
      from g Nine code go =
          brings_top p lay Q s next all own segment sp ps r m st x y f q first ls (suc j)
          (temporary.Place l) xs d 9 end more h refl depth code
          (omega arith) (λ w pc st2 y2 has code2 stage2.
          leads_weaker j (suc j) _ Q Q (omega arith) (λ u z. z) (go (set_reg (set_reg r 0 pc) 9 w) st2 y2 has code2 stage2))
      from g Fourteen code go =
          brings_top p lay Q s next all own segment sp ps r m st x y f q first ls (suc j)
          (temporary.Place l) xs d 14 end more h refl depth code
          (omega arith) (λ w pc st2 y2 has code2 stage2.
          leads_weaker j (suc j) _ Q Q (omega arith) (λ u z. z) (go (set_reg (set_reg r 0 pc) 14 w) st2 y2 has code2 stage2))
  brings_target j g d end to ws xs l more is h (OfKnown (base.Local i) offset) depth named code go =
      brings_local j g i offset end ws more is h named.0 code go
  brings_target j g d end to ws xs l more is h (OfKnown (base.Global i) offset) depth named code go =
      leads_weaker (suc j) (suc (suc j)) _ Q Q (omega arith)
      (λ u z. z) (brings_global j g i offset end ws more is h named.0 code go)

-- ---- the service

-- the cells of a state lie where a program may store
may_be_stored : (segment sp : ℕ) (ps : ℕ → ℕ) (a : ℕ) → outputs_end < a → Live segment sp ps a → may_store segment a ≡ true
may_be_stored segment sp ps a high (OfOutput l h) = absurd (omega arith)
may_be_stored segment sp ps a high (OfData l h) = grind (arith, nat_tests)
may_be_stored segment sp ps a high (OfFrame l h t k) = grind (arith, nat_tests)
may_be_stored segment sp ps a high (OfOlder l h t k) = grind (arith, nat_tests)

-- a place that is accessed has the address of the scalar
pub place_address : (alive : List Placed) (l : Location) (n base w : ℕ) → l.object ≡ Some n → address_of alive n ≡ Some base
    → base + l.offset < 65536 → HasCode (place_code alive l) w → w ≡ base + l.offset
place_address alive l n base w e there small has =
    let few : nat_lt l.offset 65536 ≡ true = lt-ltb l.offset 65536 (omega arith) in
    let code : place_code alive l ≡ Some ((base + l.offset) % 65536) =
    ap (λ (b : Bool). if b then pointer_code (object_address alive l.object) l.offset else None) few
    ∙ ap (λ (x : Option ℕ). pointer_code (object_address alive x) l.offset) e
    ∙ ap (λ (x : Option ℕ). pointer_code x l.offset) there in
    let is : w ≡ (base + l.offset) % 65536 = subst (λ (x : Option ℕ). HasCode x w) code has in
    omega arith

module _ (p : Setting) (segment sp : ℕ) (ps r m : ℕ → ℕ) (st : Bytes) (marks : ℕ) (left : List Reading) (y : Meter) (all : Cells)
    (ground : Ground p.low p.high segment sp) (shape : Shape segment sp ps all) (facts : Facts p.code p.low p.high all m st)
    (wide : AreWords r) (stack : r 1 ≡ sp) where
  -- the scalar of a kind at the address in R14 gets what R13 holds
  comes_stored : (k : Kind) (a : ℕ) (old : Option ℕ)
      → Here p.code p.low p.high (r 0) (One CallOp false (Immediate (service_entry (store_service k)))) → r 14 ≡ a
      → may_store segment a ≡ true → all a ≡ Some (cell_of k old)
      → Comes p.code p.low p.high (at segment ps r m st (outside marks left) y) Running segment ps (behind r) (outside
      (marks + 1) left)
      (set_cell all a (cell_of k (Some (low (is_char k) (r 13)))))
  comes_stored kind.Char a old here is may cell =
      stores8 p.code p.low p.high segment sp ps ground all shape r m st marks left y a old facts wide here stack is may cell
  comes_stored kind.Int a old here is may cell =
      stores16 p.code p.low p.high segment sp ps ground all shape r m st marks left y a old facts wide here stack is may cell
  comes_stored kind.UInt a old here is may cell =
      stores16 p.code p.low p.high segment sp ps ground all shape r m st marks left y a old facts wide here stack is may cell
  comes_stored kind.Pointer a old here is may cell =
      stores16 p.code p.low p.high segment sp ps ground all shape r m st marks left y a old facts wide here stack is may cell

module _ (p : Setting) (lay : IsLaid p) (f q first : ℕ) (ls : List Frame) (us : List Temporary) (r : Run) (all own : Cells)
    (segment sp : ℕ) (ps rr m : ℕ → ℕ) (st : Bytes) (y : Meter) where
  -- the run with the scalar stored and the mark made
  abbrev pub marked_run : (n offset : ℕ) → Value → (budget : ℕ) → Run
  marked_run n offset w budget = record r { state = counted (with_scalar n offset w r.state); left = budget }

  -- the service stores what R13 holds at the address in R14, and what comes behind the mark
  pub serves_store : (j : ℕ) (l : Location) (n : ℕ) (k : Kind) (old v w : Value) (o : Outcome (Unit {0})
      → Outcome Control) (c : Control)
      (rest : List Part) (end : ℕ) → Stage p r.state r.next (level f q first us ∷ ls) all own segment sp sp ps rr m st
      → l.object ≡ Some n → accessed r.state (place_at n l.offset) k ≡ Ok old → fitted k v ≡ Ok w
      → HasCode (place_code (placed p.core (kept r.state)) l) (rr 14)
      → HasCode (value_code (placed p.core (kept r.state)) v) (rr 13)
      → From p f (rr 0) (service (store_service k) ∷ rest) end → ((s : Stop) → o (Stopped s) ≡ Stopped s)
      → ((budget : ℕ) → o (Went tt (marked_run n l.offset w budget)) ≡ Went c (marked_run n l.offset w budget))
      → ((budget : ℕ) (all2 own2 : Cells) (m2 : ℕ → ℕ) (st2 : Bytes) (y2 : Meter) → From p f (rr 0 + 4) rest end
      → Stage p (counted (with_scalar n l.offset w r.state)) r.next (level f q first us ∷ ls) all2 own2 segment sp sp ps
      (behind rr) m2 st2
      → Leads j (at segment ps (behind rr) m2 st2 (outside (r.state.marks + 1) (drop r.used p.readings)) y2)
      (StandsAt p c (marked_run n l.offset w budget)))
      → Follows p (suc j) (o (mark_by r.left (record r { state = with_scalar n l.offset w r.state })))
      (at segment ps rr m st (outside r.state.marks (drop r.used p.readings)) y)
  unfolding with_scalar
  serves_store j l n k old v w o c rest end stage object e fit has_place has code stops came more =
      let s : State = r.state in
      let alive : List Placed = placed p.core (kept s) in
      let al = lay.alone r.next s n l.offset k old stage.made e in
      let a : ℕ = al.address + l.offset in
      let there = accessed_cell p.core s own n l.offset k old e stage.covered al.address al.is in
      let cell : all a ≡ Some (cell_of k there.0) = stage.part a (cell_of k there.0) there.1 in
      let live = stage.shape.live a (cell_of k there.0) cell in
      let small = live_below segment sp ps a live in
      let is : rr 14 ≡ a = place_address alive l n al.address (rr 14) object al.is (omega arith) has_place in
      let new : ℕ = low (is_char k) (rr 13) in
      let frames : List Frame = level f q first us ∷ ls in
      let c0 = from_do p f (rr 0) (One CallOp false (Immediate (service_entry (store_service k)))) rest end code in
      let comes = comes_stored p segment sp ps rr m st s.marks
      (drop r.used p.readings) y all stage.ground stage.shape stage.facts stage.words
      stage.stack k a there.0 c0.0 is
      (may_be_stored segment sp ps a (above_outputs al.address l.offset al.site) live) cell in
      let s2 : State = with_scalar n l.offset w s in
      let all2 : Cells = set_cell all a (cell_of k (Some new)) in
      let own2 : Cells = set_cell own a (cell_of k (Some new)) in
      let stored : (m2 : ℕ → ℕ) (st2 : Bytes) → Facts p.code p.low p.high all2 m2 st2 → AreWords (behind rr)
      → Stage p s2 r.next frames all2 own2 segment sp sp ps (behind rr) m2 st2 =
      λ m2 st2 facts wide. stage_stored p lay s r.next frames all own segment sp sp ps rr m
      (behind rr) m2 st st2 n l.offset k old v w new stage
      e fit (stored_code alive k v w (rr 13) fit has).0 stage.stack wide facts in
      let now = stored comes.memory comes.settled comes.facts comes.words in
      mark_by_follows p j (record r { state = s2 }) o segment segment sp ps ps rr (behind rr) m st
      (drop r.used p.readings) y all2 own2 comes
      now.covered now.part now.shape now.no_block stops (λ budget. (
        c,
        marked_run n l.offset w budget,
        came budget,
        (λ m2 st2 y2 facts wide. more budget all2 own2 m2 st2 y2 c0.1
            (counted_stage p s2 r.next frames all2 own2 segment sp sp ps (behind rr) m2 (behind rr) m2 st2 st2
            stage.stack wide facts
            (stored m2 st2 facts wide))),
      ))

-- ---- what a marked store leaves

module _ (p : Setting) (lay : IsLaid p) (f q q2 first : ℕ) (ls : List Frame) (r : Run) (all own : Cells) (segment sp : ℕ)
    (ps rr m : ℕ → ℕ) (st : Bytes) (y : Meter) where
  ends_target : (d : ℕ) (k : Kind) (to : Target) (l : Location) (keeps : Keep) (b w : Value) (xs ws us : List Temporary) (c : ℕ)
      → IsBelow keeps b ws us → IsTarget first to ws l xs
      → Stage p r.state r.next (level f q first us ∷ ls) all own segment sp sp ps rr m st → segment_start segment + 4 ≤ sp
      → From p f (rr 0) (kept_code p.ir (function_of p f) keeps k to d 13) (step_at p f q2) → length xs ≡ d
      → temporaries_at (function_of p f) + 2 * (d + max c (left_of keeps)) ≤ (function_of p f).frame
      → HasCode (value_code (placed p.core (kept r.state)) w) (low (is_char k) (rr 13))
      → Leads (keeping_few keeps) (at segment ps rr m st (outside r.state.marks (drop r.used p.readings)) y)
      (StandsAt p (At f q2 first (left_values keeps w b xs) ls) r)
  ends_target d k to l keeps b w xs ws us c below (OfKnown of offset) stage start code depth room has =
      ends_kept p lay f q q2 first ls r all own segment sp ps rr m st y d 13 k of offset keeps b w ws us c Thirteen below stage
      start code
      depth room has
  ends_target d k to l keeps b w xs ws us c OfNothing OfPlace stage start code depth room has =
      stands_now p lay 0 f q q2 first us xs ls r all own segment sp ps rr m st y
      (without_top p r.state r.next all own segment sp sp ps f q q2 first (temporary.Place l) xs ls rr m st stage) start code
  ends_target d k to l keeps b w xs ws us c OfStored OfPlace stage start code depth room has =
      ends_stored p lay f q q2 first ls r all own segment sp ps rr m st y d 13 k w xs Thirteen
      (without_top p r.state r.next all own segment sp sp ps f q q first (temporary.Place l) xs ls rr m st stage) start code depth
      (room_of (temporaries_at (function_of p f)) d c 1 (function_of p f).frame room (omega arith)) has
  ends_target d k to l keeps b w xs ws us c (OfBefore there) OfPlace stage start code depth room has =
      let fn : IrFunction = function_of p f in
      brings_top p lay (StandsAt p (At f q2 first (temporary.Value b ∷ xs) ls) r) r.state r.next all own segment sp ps rr m st
      (outside r.state.marks (drop r.used p.readings)) y f q first ls 1 (temporary.Value b) (temporary.Place l ∷ xs) (suc d) 12
      (step_at p f q2) (keep p.ir fn d 12) stage (ap not there) (ap suc depth) code (omega arith)
      (λ z pc st2 y2 has2 code2 stage2.
      keeps_last p lay 0 f q q2 first d 12 z (temporary.Value b) xs ls r all own segment sp ps (set_reg
      (set_reg rr 0 pc) 12 z) m st2 y2
      (without_top p r.state r.next all own segment sp sp ps f q q first (temporary.Place l) xs ls (set_reg
      (set_reg rr 0 pc) 12 z) m st2
      (without_top p r.state r.next all own segment sp sp ps f q q first (temporary.Value b) (temporary.Place l ∷ xs) ls
      (set_reg (set_reg rr 0 pc) 12 z) m st2 stage2)) start code2 depth
      (room_of (temporaries_at fn) d c 1 fn.frame room (omega arith)) refl has2)

-- ---- the step

-- the temporaries below the value from before
without_before : (p : Setting) (s : State) (next : ℕ) (all own : Cells) (segment base sp : ℕ) (ps r m : ℕ → ℕ) (st : Bytes)
    (f q first : ℕ) (keeps : Keep) (b : Value) (ws us : List Temporary) (ls : List Frame) → IsBelow keeps b ws us
    → Stage p s next (level f q first us ∷ ls) all own segment base sp ps r m st
    → Stage p s next (level f q first ws ∷ ls) all own segment base sp ps r m st
without_before p s next all own segment base sp ps r m st f q first keeps b ws us ls OfNothing h = h
without_before p s next all own segment base sp ps r m st f q first keeps b ws us ls OfStored h = h
without_before p s next all own segment base sp ps r m st f q first keeps b ws us ls (OfBefore there) h =
    without_top p s next all own segment base sp ps f q q first (temporary.Value b) ws ls r m st h

module _ (p : Setting) (lay : IsLaid p) where
  pub store_does : (d : ℕ) (to : Target) (k : Kind) (x : Operand) (keeps : Keep)
      → DoesStep p (4 + keeping_few keeps) (step.Store d to k x keeps)
  unfolding with_scalar
  store_does d to k x keeps f q first ts ls node r t e h =
      let limit : ℕ = 4 + keeping_few keeps in
      let more_few : 3 + suc (keeping_few keeps) ≡ 4 + keeping_few keeps = omega arith in
      begins p lay limit (act p.ir p.readings node (step.Store d to k x keeps) f q first ts ls r)
      (step.Store d to k x keeps) f q first node ts ls r t e h (λ all own segment sp ps rr m st y stage start stands code.
      operand_follows p limit _ node first x ts _ r (λ v us g.
      before_follows p limit _ node keeps us _ r (λ b ws below.
      target_follows p limit _ first to ws _ r (λ l xs aim.
      depth_follows p limit _ d xs _ r (λ depth.
      marked_follows p limit _ node l k v _ r stage.no_block (λ n old w object there fit.
      let fn : IrFunction = function_of p f in
      let end : ℕ = step_at p f (q + 1) in
      let way : Course = outside r.state.marks (drop r.used p.readings) in
      let go : Value → Action Control = λ z. next_step f q first ls (left_values keeps z b xs) in
      let s2 : State = with_scalar n l.offset w r.state in
      let O : Outcome Control = behind_mark w go (mark_by r.left (record r { state = s2 })) in
      let c : Control = At f (q + 1) first (left_values keeps w b xs) ls in
      let rest : List Part = kept_code p.ir fn keeps k to d 13 in
      let top : ℕ = d + target_taken to + before_taken keeps in
      let deep : length us ≡ top = below_length keeps b ws us below
      ∙ ap (λ (i : ℕ). i + before_taken keeps) (target_length first to ws l xs aim ∙ ap (λ (i : ℕ). i + target_taken to) depth) in
      let left_stage = left_by p r.state r.next all own segment sp sp ps rr m st f q first x ts v us ls g stage in
      let Q : Ideal → Type 0 = λ u. (u.marks ≡ r.state.marks) × Follows p (suc (keeping_few keeps)) O u in
      subst (λ (i : ℕ). Follows p i O (at segment ps rr m st way y)) more_few
      (follows_after p 3 (keeping_few keeps) O (at segment ps rr m st way y)
      (brings_target p lay Q r.state r.next all own segment sp ps rr m st way y f q first ls 1 14 d end to ws xs l
      (bring p.ir fn x top 13 ++ (service (store_service k) ∷ rest)) Fourteen
      (without_before p r.state r.next all own segment sp sp ps rr m st f q first keeps b ws us ls below left_stage) aim depth
      (bases_left (IsNamed p.core fn) (target_bases to) (operand_bases x) stands.named)
      (falls p lay (step.Store d to k x keeps) f q node (rr 0) tt stands code) (λ r1 st2 y2 has_place code1 stage1.
      brings_value p lay Q r.state r.next all own segment sp ps r1 m st2 way y2 f q first ls 0 x ts v us top 13 end
      (service (store_service k) ∷ rest)
      (with_regs p r.state r.next all own segment sp sp ps
      (level f q first ts ∷ ls) rr m r1 st st2 stage1.stack stage1.words stage1.facts stage)
      g (fitted_there k v w fit) deep (bases_right (IsNamed p.core fn) (target_bases to) (operand_bases x) stands.named) code1
      (omega arith)
      (λ z pc st3 y3 has code2 stage2.
      let r2 : ℕ → ℕ = set_reg (set_reg r1 0 pc) 13 z in
      leads_now 0 _ Q (
        refl,
        serves_store p lay f q first ls us r all own segment sp ps r2 m st3 y3 (keeping_few keeps) l n k old v w
            (behind_mark w go) c rest end
            (left_by p r.state r.next all own segment sp sp ps r2 m st3 f q first x ts v us ls g stage2) object there fit
            has_place has code2
            (λ i. refl) (λ i. refl) (λ budget all2 own2 m2 st4 y4 code3 stage3.
            ends_target p lay f q (q + 1) first ls (record r { state = counted s2; left = budget }) all2 own2 segment sp ps
            (behind r2) m2 st4 y4
            d k to l keeps b w xs ws us (target_taken to + before_taken keeps + taken x) below aim
            stage3 start code3 depth stands.room (code_after p r.state n l.offset w w (low (is_char k) z)
            (stored_code (placed p.core (kept r.state)) k v w z fit has).1)),
      )))))))))))

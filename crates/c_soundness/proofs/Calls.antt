-- What a call does from runs that stand: its objects come to life, its parameters get their values, and they are gone when it
-- leaves. Calls nested in one another are fewer than the marks that are left.
use Rattle.std.proofs.Common.{◌≡◌, ℕ, zero, suc, ◌+◌, ◌≤◌, pos, Bool, true, false, List, [], ◌∷◌, ◌++◌, map, length, slice_get, Option, Some, None, refl, sym, subst, arith}
use Rattle.std.proofs.lemmas.List.{map-append}
use Rattle.std.specs.Prelude.{Result, Ok, Err}
use Rattle.base16.specs.declared.image.Kind.{Kind}
use Rattle.base16.specs.declared.integer.IntType.TheVariants as int
use Rattle.base16.specs.declared.reading.Reading.{Reading}
use Rattle.base16.specs.Placement.{frame_below}
use Rattle.core_tree.specs.declared.types.Ty.{Ty}
use Rattle.core_tree.specs.declared.types.Ty.TheVariants as ty
use Rattle.core_tree.specs.declared.types.Slot.{Slot}
use Rattle.core_tree.specs.declared.program.Core.{Core}
use Rattle.core_tree.specs.declared.program.Function.{Function}
use Rattle.core_tree.specs.Layout.{layout, kind_of}
use Rattle.core_tree.specs.Numbers.{stmt_numbers}
use Rattle.core_tree.specs.Reaching.{joined}
use Rattle.core_tree.specs.Heights.{frame_bytes}
use Rattle.core_tree.specs.Rules.{is_scalar}
use Rattle.core_tree.specs.LawfulCore.{Every, IsObject, AreStmts, text_of}
use Rattle.c_values.specs.declared.value.Value.{Value}
use Rattle.c_values.specs.declared.value.Value.TheVariants.{Int, Undefined}
use Rattle.c_values.specs.declared.state.State.{State}
use Rattle.c_values.specs.Objects.{with_scalar}
use Rattle.c_values.specs.Values.{fitted, fit, or_missing}
use Rattle.c_run.specs.Making.{fresh_objects}
use Rattle.c_run.specs.Runs.{Run, ◌>>=◌, ◌>>◌, pure, changed}
use Rattle.c_run.specs.Actions.{top_of, with_call, entered, enter, with_params, leave, finish}
use Rattle.c_meaning.specs.Meaning.{Calls}
use Rattle.c_meaning.specs.declared.flow.Flow.{Flow}
use Rattle.c_meaning.specs.declared.flow.Flow.TheVariants.{Normal, Break, Continue, Return, Caught}
use Rattle.c_meaning.specs.After.{is_main, objects_of, result_of, body, called, calls, main_in}
use Rattle.c_soundness.specs.Shapes.{Has, HaveAll, MayStand, holds_pointer}
use Rattle.c_soundness.specs.Standing.{Kinds, CallStands, StateStands, Frame, FrameStands, Stands}
use Rattle.c_soundness.proofs.Triples.{Granted, Any, Sound, goes_on, stops, Triple, Keeps, t_then, t_seq, t_pure, t_weak, t_changed, sound_weak}
use Rattle.c_soundness.proofs.Operators.{fitted_stands}
use Rattle.c_soundness.proofs.Types.{num_has, missing_has, has_stands}
use Rattle.c_soundness.proofs.Cells.{every_weak, every_more, set_state}
use Rattle.c_soundness.proofs.Actions.{t_any, falls_mark, t_leave, t_finish}
use Rattle.c_soundness.proofs.Expressions.{Whole, AllBelow}
use Rattle.c_soundness.proofs.Statements.{LeavesWith, stmts_do, stands_lower, stands_left, no_left}
use Rattle.c_soundness.proofs.Layouts.{rising, scalar_slots}
use Rattle.c_soundness.proofs.Frames.{extended, AllLie, state_kept, frame_kept, frame_new, frame_first, frame_rest, fresh_all}

-- ---- a function is entered

-- a run in which the next object has a number
record Entering (frames : List Frame) (below m : ℕ) (r : Run) : Type 0 where
  stands : Stands frames below r
  here : r.next ≡ m

abbrev entry : List (List Slot) → ℕ → Frame
entry slots m = record { first = m; objects = slots }

module _ (many : ℕ) (frames : List Frame) (below function : ℕ) (slots : List (List Slot))
    (lie : AllLie slots) where
  abbrev joined_by : Run → ℕ → Run
  joined_by r frame = record r {
    state = with_call (record { function = function; frame = frame; locals = fresh_objects r.next slots }) r.state;
    next = r.next + length slots;
  }

  entered_stands : (r : Run) (frame : ℕ) → Stands frames below r → Stands (entry slots r.next ∷ frames) below (joined_by r frame)
  entered_stands r frame w =
      let kinds : Kinds = extended w.kinds r.next slots in
      let new : FrameStands kinds (r.next + length slots) (entry slots r.next) = frame_new w.kinds r.next slots lie in
      let old : StateStands kinds (r.next + length slots) r.state = state_kept w.kinds r.next slots r.state w.by.state in
      record {
        kinds = kinds;
        by = record {
          state = record {
            globals = old.globals;
            calls = every_more (CallStands kinds (r.next + length slots)) r.state.calls
                (record { function = function; frame = frame; locals = fresh_objects r.next slots } ∷ []) old.calls
                (fresh_all kinds (r.next + length slots) r.next slots new, tt);
            saved = old.saved;
          };
          calls = (
            new,
            every_weak (FrameStands w.kinds r.next) (FrameStands kinds (r.next + length slots))
                (frame_kept w.kinds r.next slots) frames w.by.calls,
          );
          left = w.by.left;
        };
      }

  entered_by : (m : ℕ) (o : Option ℕ) (r : Run) → Entering frames below m r
      → Sound many (Stands (entry slots m ∷ frames) below) (λ (a : ℕ). a ≡ m) (entered function slots o r)
  entered_by m None r w = stops tt
  entered_by m (Some frame) r w =
      goes_on w.here (subst (λ (n : ℕ). Stands (entry slots n ∷ frames) below (joined_by r frame)) w.here
      (entered_stands r frame w.stands))

  t_entered : (m bytes : ℕ) → Triple many (Entering frames below m) (Stands (entry slots m ∷ frames) below) (λ (a : ℕ). a ≡ m)
      (λ r. entered function slots (frame_below (top_of r.state) bytes) r)
  t_entered m bytes = record { runs = λ r w. entered_by m (frame_below (top_of r.state) bytes) r w }

module _ (many : ℕ) (frames : List Frame) (b function : ℕ) (slots : List (List Slot))
    (lie : AllLie slots) where
  -- entering makes a mark
  falls_enter : (m bytes : ℕ) → Triple many (Entering frames (suc b) m) (Stands (entry slots m ∷ frames) b) (λ (a : ℕ). a ≡ m)
      (enter function bytes slots)
  unfolding enter
  falls_enter m bytes = t_then (t_entered many frames (suc b) function slots lie m bytes)
      (λ a e. t_seq (t_any (λ kinds. falls_mark b)) (t_pure a e))

-- ---- parameters

fit_by : (P : Value → Type 0) (x : Result Value ℕ) → P Undefined → Granted P x → P (or_missing x)
fit_by P (Ok w) h i = i
fit_by P (Err e) h i = h

may_miss : (pointer : Bool) → MayStand pointer Undefined
may_miss true = tt
may_miss false = tt

pub fit_stands : (k : Kind) (v : Value) → MayStand (holds_pointer k) v → MayStand (holds_pointer k) (fit k v)
fit_stands k v h = fit_by (MayStand (holds_pointer k)) (fitted k v) (may_miss (holds_pointer k)) (fitted_stands k v h)

module _ (K : Core) (kinds : Kinds) (next : ℕ) where
  abbrev slots_of : Ty → List Slot
  slots_of t = (layout K.structs t).slots

  abbrev tail_of : ℕ → List Ty → List (List Slot) → Frame
  tail_of n ts more = record { first = n; objects = map slots_of ts ++ more }

  params_stand : (n : ℕ) (ts : List Ty) (vs : List Value) (more : List (List Slot)) (s : State) → Every
      (λ (t : Ty). is_scalar t ≡ true) ts
      → HaveAll K ts vs → FrameStands kinds next (tail_of n ts more) → StateStands kinds next s
      → StateStands kinds next (with_params n (map kind_of ts) vs s)
  params_stand n [] [] more s scalars h f w = w
  params_stand n [] (v ∷ vs) more s scalars h f w = absurd h
  params_stand n (t ∷ ts) [] more s scalars h f w = absurd h
  params_stand n (t ∷ ts) (v ∷ vs) more s scalars h f w =
      let first = frame_first kinds next n (slots_of t) (map slots_of ts ++ more) f in
      let one : slots_of t ≡ record { offset = 0; kind = kind_of t } ∷ [] = scalar_slots K.structs t scalars.0 in
      let here = subst (λ (ss : List Slot). Every (λ (q : Slot). kinds n q.offset ≡ holds_pointer q.kind) ss) one first.1 in
      let value : MayStand (holds_pointer (kind_of t)) (fit (kind_of t) v) = fit_stands (kind_of t) v (has_stands K t v h.0) in
      params_stand (n + 1) ts vs more (with_scalar n 0 (fit (kind_of t) v) s) scalars.1 h.1
      (frame_rest kinds next n (slots_of t) (map slots_of ts ++ more) f)
      (set_state kinds next n 0 (fit (kind_of t) v) (subst (λ (p : Bool). MayStand p (fit (kind_of t) v)) (sym here.0) value) s w)

-- ---- functions

-- what a lawful program says of a function
pub record Sane (many : ℕ) (K : Core) (f : Function) : Type 0 where
  pub scalars : Every (λ (t : Ty). is_scalar t ≡ true) f.params
  pub objects : (n : ℕ) (t : Ty) → slice_get (f.params ++ f.locals) n ≡ Some t → IsObject K t
  pub main : is_main f ≡ true → f.result ≡ ty.Num int.Int
  pub annotated : Bool
  pub lawful : AreStmts (text_of K annotated f) f.body
  pub own : AllBelow many (joined (map stmt_numbers f.body))

pub all_lie : (K : Core) (ts : List Ty) → AllLie (map (λ (t : Ty). (layout K.structs t).slots) ts)
all_lie K [] = tt
all_lie K (t ∷ ts) = (((layout K.structs t).size, rising K.structs t), all_lie K ts)

module _ (many : ℕ) (K : Core) (whole : Whole K) (sane : (n : ℕ) (f : Function) → slice_get K.functions n ≡ Some f
    → Sane many K f) (R : List Reading) where
  abbrev Called : ℕ → Calls → Type 0
  Called b C = (frames : List Frame) (n : ℕ) (f : Function) (vs : List Value) → slice_get K.functions n ≡ Some f
      → HaveAll K f.params vs
      → Keeps many (Stands frames b) (Has K f.result) (C n vs)

  abbrev frame_of : Function → ℕ → Frame
  frame_of f first = entry (objects_of K.structs f) first

  params_does : (f : Function) → Sane many K f → (frames : List Frame) (b first : ℕ) (vs : List Value) → HaveAll K f.params vs
      → Keeps many (Stands (frame_of f first ∷ frames) b) Any (changed (with_params first (map kind_of f.params) vs))
  params_does f ok frames b first vs h = t_changed (with_params first (map kind_of f.params) vs) (λ r w. record {
    kinds = w.kinds;
    by = record {
      state = params_stand K w.kinds r.next first f.params vs (map
          (λ (t : Ty). (layout K.structs t).slots) f.locals) r.state ok.scalars h
          (subst (λ (os : List (List Slot)). FrameStands w.kinds r.next (record { first = first; objects = os }))
          (map-append (λ (t : Ty). (layout K.structs t).slots) f.params f.locals) w.by.calls.0) w.by.state;
      calls = w.by.calls;
      left = w.by.left;
    };
  })

  body_does : (f : Function) → Sane many K f → (frames : List Frame) (C : Calls) (u b first : ℕ) (vs : List Value)
      → HaveAll K f.params vs → b ≤ u
      → ((c : ℕ) → c ≤ u → Called c C)
      → Keeps many (Stands (frame_of f first ∷ frames) b) (LeavesWith K f.result) (body K R C f vs first)
  unfolding body
  body_does f ok frames C u b first vs h le called =
      t_seq (params_does f ok frames b first vs h)
      (stmts_do many K whole R C first (f.params ++ f.locals) f.result ok.objects frames u
      (λ c m. called c m (frame_of f first ∷ frames))
      (text_of K ok.annotated f) f.body ok.lawful
      (record { same = refl; same_objects = refl; same_result = refl }) ok.own None b le)

  main_value : (main : Bool) (t : Ty) → (main ≡ true → t ≡ ty.Num int.Int) → (flow : Flow) → Has K t (result_of main Normal)
      → LeavesWith K t flow → Has K t (result_of main flow)
  main_value true t is Normal n h = n
  main_value true t is Break n h = n
  main_value true t is Continue n h = n
  main_value true t is (Return v) n h = h
  main_value true t is Caught n h = n
  main_value false t is Normal n h = n
  main_value false t is Break n h = n
  main_value false t is Continue n h = n
  main_value false t is (Return v) n h = h
  main_value false t is Caught n h = n

  end_value : (main : Bool) (t : Ty) → (main ≡ true → t ≡ ty.Num int.Int) → Has K t (result_of main Normal)
  end_value true t is = subst (λ (u : Ty). Has K u (Int (pos 0))) (sym (is refl)) (num_has K int.Int (Int (pos 0)) tt)
  end_value false t is = missing_has K t

  drop_frame : (g : Frame) (frames : List Frame) (b : ℕ) (r : Run) → Stands (g ∷ frames) b r → Stands frames b r
  drop_frame g frames b r w = record {
    kinds = w.kinds;
    by = record
        { state = w.by.state; calls = w.by.calls.1; left = w.by.left };
  }

  -- the rest of a call, once its function is entered
  rest_does : (f : Function) → Sane many K f → (frames : List Frame) (C : Calls) (b first : ℕ) (vs : List Value)
      → HaveAll K f.params vs
      → ((c : ℕ) → c ≤ b → Called c C)
      → Triple many (Stands (frame_of f first ∷ frames) b) (Stands frames (suc b)) (Has K f.result)
      (body K R C f vs first >>= λ flow. leave >> pure (result_of (is_main f) flow))
  rest_does f ok frames C b first vs h called =
      t_then (body_does f ok frames C b b first vs h (omega arith) called) (λ flow g.
      t_weak (λ a i. i) (λ r w. stands_lower frames b (suc b) r (omega arith) (drop_frame (frame_of f first) frames b r w))
      (t_seq (t_any (λ kinds. t_leave)) (t_pure (result_of (is_main f) flow)
      (main_value (is_main f) f.result ok.main flow (end_value (is_main f) f.result ok.main) g))))

  t_called : (f : Function) → Sane many K f → (frames : List Frame) (C : Calls) (b n m : ℕ) (vs : List Value)
      → HaveAll K f.params vs
      → ((c : ℕ) → c ≤ b → Called c C)
      → Triple many (Entering frames (suc b) m) (Stands frames (suc b)) (Has K f.result) (called K R C n (Some f) vs)
  unfolding called
  t_called f ok frames C b n m vs h inner =
      t_then (falls_enter many frames b n (objects_of K.structs f) (all_lie K (f.params ++ f.locals)) m (frame_bytes K.structs f))
      (λ first e.
      subst (λ (k : ℕ). Triple many (Stands (frame_of f k ∷ frames) b) (Stands frames (suc b)) (Has K f.result)
      (body K R C f vs first >>= λ flow. leave >> pure (result_of (is_main f) flow))) e
      (rest_does f ok frames C b first vs h inner))

  called_by : (f : Function) → Sane many K f → (frames : List Frame) (C : Calls) (b n : ℕ) (vs : List Value)
      → HaveAll K f.params vs
      → ((c : ℕ) → c ≤ b → Called c C) → (r : Run) → Stands frames (suc b) r
      → Sound many (Stands frames (suc b)) (Has K f.result) (called K R C n (Some f) vs r)
  called_by f ok frames C b n vs h inner r w = (t_called f ok frames C b n r.next vs h inner).runs r
      (record { stands = w; here = refl })

  t_calls : (depth b : ℕ) → b ≤ depth → Called b (calls K R depth)
  unfolding calls
  t_calls zero zero le frames n f vs at h = no_left frames
  t_calls zero (suc c) le frames n f vs at h = absurd (omega (arith, le))
  t_calls (suc d) zero le frames n f vs at h = no_left frames
  t_calls (suc d) (suc c) le frames n f vs at h =
      subst (λ (o : Option Function). Keeps many (Stands frames (suc c)) (Has K f.result) (called K R (calls K R d) n o vs))
      (sym at)
      (record { runs = called_by f (sane n f at) frames (calls K R d) c n vs h (λ e m. t_calls d e (omega (arith, m, le))) })

  -- ---- the outermost call

  main_body : (f : Function) → Sane many K f → f.params ≡ [] → (b first : ℕ)
      → Keeps many (Stands (frame_of f first ∷ []) b) (LeavesWith K f.result)
      (λ r. (body K R (calls K R (suc r.left)) f [] first) r)
  main_body f ok none b first = record {
    runs = λ r w.
        let l : suc r.left ≤ b = omega (arith, w.by.left) in
        sound_weak (λ a i. i) (λ q v. stands_lower (frame_of f first ∷ []) (suc r.left) b q l v)
        ((body_does f ok [] (calls K R (suc r.left)) (suc r.left) (suc r.left) first []
        (subst (λ (ts : List Ty). HaveAll K ts []) (sym none) tt)
        (omega arith) (λ c m. t_calls (suc r.left) c m)).runs r (stands_left (frame_of f first ∷ []) b r w));
  }

  t_main_in : (f : Function) → Sane many K f → f.params ≡ [] → (b n m : ℕ)
      → Triple many (Entering [] (suc b) m) (Stands [] b) (λ _. ⊥) (main_in K R n (Some f))
  unfolding main_in
  t_main_in f ok none b n m =
      t_then (falls_enter many [] b n (objects_of K.structs f) (all_lie K (f.params ++ f.locals)) m (frame_bytes K.structs f))
      (λ first e.
      subst (λ (k : ℕ). Triple {A = Unit {0}} many (Stands (frame_of f k ∷ []) b) (Stands [] b) (λ _. ⊥)
      ((λ r. (body K R (calls K R (suc r.left)) f [] first) r) >> finish)) e (t_seq (main_body f ok none b first) t_finish))

  main_in_by : (f : Function) → Sane many K f → f.params ≡ [] → (b n : ℕ) (r : Run) → Stands [] (suc b) r
      → Sound many (Stands [] b) (λ _. ⊥) (main_in K R n (Some f) r)
  main_in_by f ok none b n r w = (t_main_in f ok none b n r.next).runs r (record { stands = w; here = refl })

  pub t_main : (n : ℕ) (f : Function) → slice_get K.functions n ≡ Some f → f.params ≡ [] → (b : ℕ)
      → Triple many (Stands [] (suc b)) (Stands [] b) (λ _. ⊥) (main_in K R n (slice_get K.functions n))
  t_main n f at none b =
      subst (λ (o : Option Function). Triple many (Stands [] (suc b)) (Stands [] b) (λ _. ⊥) (main_in K R n o)) (sym at)
      (record { runs = main_in_by f (sane n f at) none b n })

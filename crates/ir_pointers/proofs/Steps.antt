-- Each step of a form keeps pointers inside.
use Rattle.std.proofs.Common.{◌≡◌, ℕ, zero, suc, ◌+◌, ◌≤◌, List, [], ◌∷◌, length, Option, Some, None, Bool, true, false, refl, sym, ◌∙◌, subst, arith, cond}
use Rattle.std.proofs.lemmas.List.{length-map}
use Rattle.std.specs.Prelude.{nat_eq, slice_get}
use Rattle.base16.specs.declared.reading.Reading.{Reading}
use Rattle.core_tree.specs.LawfulCore.{Every}
use Rattle.c_values.specs.declared.value.Location.{Location}
use Rattle.c_values.specs.declared.value.Value.{Value}
use Rattle.c_values.specs.declared.value.Value.TheVariants.{Int, Null, Undefined}
use Rattle.c_values.specs.Objects.{with_cleared}
use Rattle.c_values.specs.Operators.{int_eq, truth}
use Rattle.c_values.specs.Pointers.{pointed, member_at, element, sum_of, address, truth_of}
use Rattle.c_values.specs.Values.{integer, numbered, present, all_present, operated_one, converted}
use Rattle.c_run.specs.Actions as act
use Rattle.c_run.specs.Runs.{Run, Went, Action, ◌>>=◌, given, asked, mark, pure}
use Rattle.ir.specs.declared.form.Base.{Base}
use Rattle.ir.specs.declared.form.Base.TheVariants as base
use Rattle.ir.specs.declared.form.Ir.{Ir}
use Rattle.ir.specs.declared.form.IrFunction.{IrFunction}
use Rattle.ir.specs.declared.form.IrLocal.{IrLocal}
use Rattle.ir.specs.declared.form.Keep.{Keep}
use Rattle.ir.specs.declared.form.Keep.TheVariants as keep
use Rattle.ir.specs.declared.form.Operand.{Operand}
use Rattle.ir.specs.declared.form.Operand.TheVariants as operand
use Rattle.ir.specs.declared.form.Step.{Step}
use Rattle.ir.specs.declared.form.StepKind.{StepKind}
use Rattle.ir.specs.declared.form.StepKind.TheVariants as step
use Rattle.ir.specs.declared.form.Target.{Target}
use Rattle.ir.specs.declared.form.Target.TheVariants as target
use Rattle.ir.specs.declared.form.Test.{Test}
use Rattle.ir.specs.declared.form.Test.TheVariants as test
use Rattle.ir.specs.declared.control.Control.{Control}
use Rattle.ir.specs.declared.control.Control.TheVariants.{At, Calling, Returning}
use Rattle.ir.specs.declared.control.Frame.{Frame}
use Rattle.ir.specs.declared.control.Temporary.{Temporary}
use Rattle.ir.specs.declared.control.Temporary.TheVariants as temporary
use Rattle.ir.specs.Inside.{IsInsideControl, PointsInside}
use Rattle.ir.specs.Machine as m
use Rattle.ir.specs.Typed.{IsTyped}
use Rattle.ir_pointers.specs.Staying.{HasBase, HasPlace, AllPlain, IsBegun, AreBegun, IsBegunControl, Inside, StaysInside}
use Rattle.ir_pointers.proofs.Growing.{every_as, some_is, IsIn, IsKnownIn, AreIn, AreInFrames, Fine, Came, came_then, came_here, came_cleared, in_on, temporaries_on, frames_on, values_on}
use Rattle.ir_pointers.proofs.Values.{IsKnownAt, present_in, one_in, converted_in, pointed_known, element_known, sum_known, address_in_object, computed_in}
use Rattle.ir_pointers.proofs.Doing.{Done, went, stopped, done_on, done_then, done_seq, done_gives, done_places, done_tells, done_load, done_mark, done_store, done_update, done_sense, done_emit, done_leave, done_enter, came_params}

-- ---- the parts of a step

module _ {r : Run} {Q : Run → Control → Type 0} where
  done_if : (b : Bool) (go : Action Control) → Done r Q (go r) → Done r Q (cond b go m.stuck r)
  done_if true go h = h
  done_if false go h = stopped

  done_depth : (d : ℕ) (ts : List Temporary) (go : Action Control) → Done r Q (go r) → Done r Q (m.at_depth d ts go r)
  unfolding m.at_depth
  done_depth d ts go h = done_if (nat_eq (length ts) d) go h

  done_value : (ts : List Temporary) (go : Value → List Temporary → Action Control) → AreIn r ts
      → ((v : Value) (us : List Temporary) → IsIn r v → AreIn r us → Done r Q (go v us r)) → Done r Q (m.on_value ts go r)
  unfolding m.on_value
  done_value (temporary.Value v ∷ ts) go h g = g v ts h.0 h.1
  done_value (temporary.Place l ∷ ts) go h g = stopped
  done_value [] go h g = stopped

  done_place : (ts : List Temporary) (go : Location → List Temporary → Action Control) → AreIn r ts
      → ((l : Location) (us : List Temporary) → IsKnownAt r l → AreIn r us → Done r Q (go l us r)) → Done r Q (m.on_place ts go r)
  unfolding m.on_place
  done_place (temporary.Place l ∷ ts) go h g = g l ts h.0 h.1
  done_place (temporary.Value v ∷ ts) go h g = stopped
  done_place [] go h g = stopped

  done_any : (ts : List Temporary) (go : Temporary → List Temporary → Action Control) → AreIn r ts
      → ((t : Temporary) (us : List Temporary) → AreIn r us → Done r Q (go t us r)) → Done r Q (m.on_any ts go r)
  unfolding m.on_any
  done_any (t ∷ ts) go h g = g t ts h.1
  done_any [] go h g = stopped

  done_args : (k : ℕ) (ts : List Temporary) (args : List Value) (go : List Value → List Temporary → Action Control)
      → AreIn r ts → Every (IsIn r) args
      → ((vs : List Value) (us : List Temporary) → Every (IsIn r) vs → AreIn r us → Done r Q (go vs us r))
      → Done r Q (m.on_args k ts args go r)
  unfolding m.on_args m.on_value
  done_args zero ts args go h i g = g args ts i h
  done_args (suc k) [] args go h i g = stopped
  done_args (suc k) (temporary.Place l ∷ ts) args go h i g = stopped
  done_args (suc k) (temporary.Value v ∷ ts) args go h i g = done_args k ts (v ∷ args) go h.1 (h.0, i) g

  module _ (fine : Fine r) where
    done_operand : (node first : ℕ) (x : Operand) (ts : List Temporary) (go : Value → List Temporary → Action Control)
        → AreIn r ts → ((v : Value) (us : List Temporary) → IsIn r v → AreIn r us → Done r Q (go v us r))
        → Done r Q (m.on_operand node first x ts go r)
    unfolding m.on_operand
    done_operand node first operand.Temporary ts go h g = done_value ts go h g
    done_operand node first (operand.Constant n) ts go h g = g (Int n) ts tt h
    done_operand node first operand.Null ts go h g = g Null ts tt h
    done_operand node first (operand.Scalar of offset k) ts go h g =
        done_load node (m.known first of offset) k (λ v. go v ts) fine (λ v i. g v ts i h)

    done_operands : (node first : ℕ) (x y : Operand) (ts : List Temporary)
        (go : Value → Value → List Temporary → Action Control) → AreIn r ts
        → ((v w : Value) (us : List Temporary) → IsIn r v → IsIn r w → AreIn r us → Done r Q (go v w us r))
        → Done r Q (m.on_operands node first x y ts go r)
    unfolding m.on_operands
    done_operands node first x y ts go h g =
        done_operand node first y ts (λ w us. m.on_operand node first x us (λ v ws. go v w ws)) h (λ w us j k.
        done_operand node first x us (λ v ws. go v w ws) k (λ v ws i l. g v w ws i j l))

    done_test : (node first : ℕ) (t : Test) (ts : List Temporary) (go : Value → List Temporary → Action Control) → AreIn r ts
        → ((v : Value) (us : List Temporary) → AreIn r us → Done r Q (go v us r)) → Done r Q (m.on_test node first t ts go r)
    unfolding m.on_test
    done_test node first (test.Value x) ts go h g = done_operand node first x ts go h (λ v us i k. g v us k)
    done_test node first (test.Computed op x y) ts go h g =
        done_operands node first x y ts (λ v w us. asked node (λ s. m.computed s op v w) >>= λ z. go z us) h
        (λ v w us i j k. done_tells node (m.computed r.state op v w) (λ z. go z us) (λ z. g z us k))

  done_target : (first : ℕ) (to : Target) (ts : List Temporary) (go : Location → List Temporary → Action Control) → AreIn r ts
      → ((l : Location) (us : List Temporary) → AreIn r us → Done r Q (go l us r)) → Done r Q (m.on_target first to ts go r)
  unfolding m.on_target
  done_target first target.Temporary ts go h g = done_place ts go h (λ l us i k. g l us k)
  done_target first (target.Known of offset) ts go h g = g (m.known first of offset) ts h

  done_before : (node : ℕ) (k : Keep) (ts : List Temporary) (go : Value → List Temporary → Action Control) → AreIn r ts
      → ((v : Value) (us : List Temporary) → IsIn r v → AreIn r us → Done r Q (go v us r))
      → Done r Q (m.on_before node k ts go r)
  unfolding m.on_before
  done_before node keep.Before ts go h g =
      done_value ts (λ b us. given node (present b) >>= λ w. go w us) h (λ b us i k.
      done_gives node (present b) (λ w. go w us) (present_in r b i) (λ w j. g w us j k))
  done_before node keep.Nothing ts go h g = g Undefined ts tt h
  done_before node keep.Stored ts go h g = g Undefined ts tt h

-- what a store leaves
kept_in : (q : Run) (k : Keep) (stored before : Value) (ts : List Temporary) → IsIn q stored → IsIn q before → AreIn q ts
    → AreIn q (m.kept k stored before ts)
kept_in q keep.Nothing stored before ts i j h = h
kept_in q keep.Stored stored before ts i j h = (i, h)
kept_in q keep.Before stored before ts i j h = (j, h)

-- ---- where a run stands behind a step

record Stands (ir : Ir) (q : Run) (c : Control) : Type 0 where
  inside : IsInsideControl q.state q.next c
  begun : IsBegunControl ir q.next c

begun_on : (ir : Ir) (n k : ℕ) (f first : ℕ) → n ≤ k → IsBegun ir n f first → IsBegun ir k f first
begun_on ir n k f first l b = λ fn e. omega (arith, l, b fn e)

all_begun_on : (ir : Ir) (n k : ℕ) (below : List Frame) → n ≤ k → AreBegun ir n below → AreBegun ir k below
all_begun_on ir n k below l h = every_as (λ b. IsBegun ir n b.function b.first) (λ b. IsBegun ir k b.function b.first)
    (λ b e. begun_on ir n k b.function b.first l e) below h

module _ (ir : Ir) (rs : List Reading) (r : Run) (fine : Fine r) where
  done_left : (v : Value) → IsIn r v → (below : List Frame) → AreInFrames r below → AreBegun ir r.next below
      → Done r (Stands ir) (m.left v below r)
  unfolding m.left act.finish
  done_left v i [] waits begun = stopped
  done_left v i (b ∷ below) waits begun =
      done_seq (act.leave r) (pure (Returning v (b ∷ below))) (done_leave r fine) (λ q c. went (came_here q c.fine) (record {
        inside = (in_on c.grows v i, frames_on c.grows (b ∷ below) waits);
        begun = all_begun_on ir r.next q.next (b ∷ below) c.grows.many begun;
      }))

  module _ (f first : ℕ) (below : List Frame) (begun : IsBegun ir r.next f first) (waits : AreInFrames r below)
      (all_begun : AreBegun ir r.next below) where
    -- on in the same call
    onward : (q : Run) → Came r q → (p : ℕ) (ts : List Temporary) → AreIn q ts
        → Done q (Stands ir) (Went (At f p first ts below) q)
    onward q c p ts h = went (came_here q c.fine) (record {
      inside = (h, frames_on c.grows below waits);
      begun = (begun_on ir r.next q.next f first c.grows.many begun, all_begun_on ir r.next q.next below c.grows.many all_begun);
    })

    on : (p : ℕ) (ts : List Temporary) → AreIn r ts → Done r (Stands ir) (Went (At f p first ts below) r)
    on p ts h = onward r (came_here r fine) p ts h

    gives : (p : ℕ) (ts : List Temporary) (v : Value) → IsIn r v → AreIn r ts
        → Done r (Stands ir) (Went (At f (p + 1) first (temporary.Value v ∷ ts) below) r)
    gives p ts v i h = on (p + 1) (temporary.Value v ∷ ts) (i, h)

    places : (p : ℕ) (ts : List Temporary) (l : Location) → IsKnownAt r l → AreIn r ts
        → Done r (Stands ir) (Went (At f (p + 1) first (temporary.Place l ∷ ts) below) r)
    places p ts l i h = on (p + 1) (temporary.Place l ∷ ts) (i, h)

    on_either : (b : Bool) (to p : ℕ) (ts : List Temporary) (v : Value) → IsIn r v → AreIn r ts
        → Done r (Stands ir) (Went (cond b (At f to first ts below) (At f (p + 1) first (temporary.Value v ∷ ts) below)) r)
    on_either true to p ts v i h = on to ts h
    on_either false to p ts v i h = gives p ts v i h

    done_result : (k : StepKind) (v : Value) (p : ℕ) (ts : List Temporary) → IsIn r v → AreIn r ts
        → Done r (Stands ir)
        (m.act_result ir rs k v (record { function = f; position = p; first = first; temporaries = ts }) below r)
    done_result (step.Result d true) v p ts i h = done_depth d ts _ (gives p ts v i h)
    done_result (step.Result d false) v p ts i h = done_depth d ts _ (on (p + 1) ts h)
    done_result k v p ts i h = stopped

    module _ (fn : IrFunction) (here : slice_get ir.functions f ≡ Some fn) (variables : length ir.globals ≤ r.next) where
      known_base : (of : Base) → HasBase ir fn of → IsKnownIn r (Some (m.base_number first of))
      known_base (base.Local n) l = omega (arith, l, begun fn here)
      known_base (base.Global n) l = omega (arith, l, variables)

      -- a step of each kind
      done_act : (node : ℕ) (k : StepKind) (p : ℕ) (ts : List Temporary) → IsTyped fn k → HasPlace ir fn k → AreIn r ts
          → Done r (Stands ir) (m.act ir rs node k f p first ts below r)
      done_act node (step.Put d x) p ts typed named h = done_operand fine node first x ts _ h (λ v us i hus.
          done_depth d us _ (gives p us v i hus))
      done_act node (step.Nothing d) p ts typed named h = done_depth d ts _ (gives p ts Undefined tt h)
      done_act node (step.Drop d) p ts typed named h = done_any ts _ h (λ t us hus. done_depth d us _ (on (p + 1) us hus))
      done_act node (step.Beside d op) p ts typed named h = done_value ts _ h (λ y us j hus. done_value us _ hus (λ x ws i hws.
          done_depth d ws _ (done_gives node (m.computed r.state op x y) _ (computed_in r op x y i j) (λ z k.
          gives p (temporary.Value x ∷ ws) z k (i, hws)))))
      done_act node (step.Convert d to x) p ts typed named h = done_operand fine node first x ts _ h (λ v us i hus.
          done_depth d us _ (done_gives node (converted to v) _ (converted_in r to v i) (λ w j. gives p us w j hus)))
      done_act node (step.Unary d op t x) p ts typed named h = done_operand fine node first x ts _ h (λ v us i hus.
          done_depth d us _ (done_gives node (operated_one r.state op t v) _ (one_in r op t v) (λ w j. gives p us w j hus)))
      done_act node (step.Binary d op x y) p ts typed named h = done_operands fine node first x y ts _ h (λ v w us i j hus.
          done_depth d us _ (done_gives node (m.computed r.state op v w) _ (computed_in r op v w i j) (λ z k.
          gives p us z k hus)))
      done_act node (step.Truth d of x) p ts typed named h = done_operand fine node first x ts _ h (λ v us i hus.
          done_depth d us _ (done_tells node (truth_of r.state (numbered of v)) _ (λ b. gives p us (Int (truth b)) tt hus)))
      done_act node (step.Address d of offset) p ts typed named h =
          done_depth d ts _ (places p ts (m.known first of offset) (known_base of named) h)
      done_act node (step.Follow d x) p ts typed named h = done_operand fine node first x ts _ h (λ v us i hus.
          done_depth d us _ (done_places node (pointed v) _ (pointed_known r v i) (λ l k. places p us l k hus)))
      done_act node (step.Member d offset) p ts typed named h = done_place ts _ h (λ l us k hus.
          done_depth d us _ (places p us (member_at l offset) k hus))
      done_act node (step.Element d size own x) p ts typed named h = done_operand fine node first x ts _ h (λ v us i hus.
          done_place us _ hus (λ l ws k hws. done_depth d ws _ (done_places node (element r.state size l (numbered own v))
          _ (element_known r size l own v k) (λ w j. places p ws w j hws))))
      done_act node (step.Sum d size t u swapped x y) p ts typed named h =
          done_operands fine node first x y ts _ h (λ v w us i j hus. done_depth d us _ (done_places node
          (sum_of r.state swapped false size (numbered t v) (numbered u w)) _ (sum_known r swapped size t u v w i j)
          (λ l k. places p us l k hus)))
      done_act node (step.PointTo d) p ts typed named h = done_place ts _ h (λ l us k hus.
          done_depth d us _ (done_gives node (address r.state l) _ (address_in_object r l k) (λ v i. gives p us v i hus)))
      done_act node (step.Load d k) p ts typed named h = done_place ts _ h (λ l us e hus.
          done_depth d us _ (done_load node l k _ fine (λ v i. gives p us v i hus)))
      done_act node (step.Peek d k) p ts typed named h = done_place ts _ h (λ l us e hus.
          done_depth d us _ (done_load node l k _ fine (λ v i. gives p (temporary.Place l ∷ us) v i (e, hus))))
      done_act node (step.Store d to k x keeps) p ts typed named h = done_operand fine node first x ts _ h (λ v us i hus.
          done_before node keeps us _ hus (λ b ws j hws. done_target first to ws _ hws (λ l xs hxs.
          done_depth d xs _ (done_then (act.store node l k v true r) _ (done_store r fine node l k v true i) (λ q w c e.
          onward q c (p + 1) (m.kept keeps w b xs)
          (kept_in q keeps w b xs e (in_on c.grows b j) (temporaries_on c.grows xs hxs)))))))
      done_act node (step.StoreLocal d n offset k x keeps) p ts typed named h =
          done_operand fine node first x ts _ h (λ v us i hus. done_before node keeps us _ hus (λ b ws j hws.
          done_depth d ws _ (done_then (act.store node _ k v false r) _ (done_store r fine node _ k v false i) (λ q w c e.
          onward q c (p + 1) (m.kept keeps w b ws)
          (kept_in q keeps w b ws e (in_on c.grows b j) (temporaries_on c.grows ws hws))))))
      done_act node (step.Update d to k op x keeps) p ts typed named h = done_operand fine node first x ts _ h (λ v us i hus.
          done_target first to us _ hus (λ l ws hws. done_depth d ws _ (done_then (m.update node l k op v true r) _
          (done_update r fine node l k op v true i) (λ q w c e. onward q c (p + 1) (m.kept keeps w.0 w.1 ws)
          (kept_in q keeps w.0 w.1 ws e.0 e.1 (temporaries_on c.grows ws hws))))))
      done_act node (step.UpdateLocal d n offset k op x keeps) p ts typed named h =
          done_operand fine node first x ts _ h (λ v us i hus. done_depth d us _ (done_then (m.update node _ k op v false r) _
          (done_update r fine node _ k op v false i) (λ q w c e. onward q c (p + 1) (m.kept keeps w.0 w.1 us)
          (kept_in q keeps w.0 w.1 us e.0 e.1 (temporaries_on c.grows us hus)))))
      done_act node (step.Undefine n) p ts typed named h =
          let u : Run = record r { state = with_cleared (first + n) r.state } in
          let c : Came r u = came_cleared r fine (first + n) in
          done_on c (onward u c (p + 1) ts (temporaries_on c.grows ts h))
      done_act node (step.Jump to) p ts typed named h = on to ts h
      done_act node (step.Branch d t of when to) p ts typed named h = done_test fine node first t ts _ h (λ v us hus.
          done_depth d us _ (done_tells node (truth_of r.state (numbered of v)) _ (λ b. on (m.branch b when to (p + 1)) us hus)))
      done_act node (step.Case d of n to) p ts typed named h = done_value ts _ h (λ v us i hus. done_depth d us _
          (done_tells node (integer (numbered of v)) _ (λ z. on_either (int_eq z n) to p us v i hus)))
      done_act node (step.Call d g k) p ts typed named h = done_args k ts [] _ h tt (λ vs us i hus. done_depth d us _
          (done_tells node (all_present vs) _ (λ u. went (came_here r fine) (record {
            inside = (i, (hus, waits));
            begun = (begun, all_begun);
          }))))
      done_act node (step.Return d x) p ts typed named h = done_operand fine node first x ts _ h (λ v us i hus.
          done_depth d us _ (done_gives node (present v) _ (present_in r v i) (λ w j.
          done_left w j below waits all_begun)))
      done_act node step.ReturnNothing p ts typed named h = done_left Undefined tt below waits all_begun
      done_act node step.Turn p ts typed named h = done_seq (mark r) _ (done_mark r fine) (λ q c.
          onward q c (p + 1) ts (temporaries_on c.grows ts h))
      done_act node (step.Sense d channel) p ts typed named h = done_depth d ts _ (done_then (act.sense rs channel r) _
          (done_sense r fine rs channel) (λ q v c e.
          onward q c (p + 1) (temporary.Value v ∷ ts) (e, temporaries_on c.grows ts h)))
      done_act node (step.Emit d x) p ts typed named h = done_operand fine node first x ts _ h (λ v us i hus. done_depth d us _
          (done_then (act.emit node v r) _ (done_emit r fine node v) (λ q w c e.
          onward q c (p + 1) (temporary.Value w ∷ us) (e, temporaries_on c.grows us hus))))
      done_act node (step.Checkpoint d) p ts typed named h = done_depth d ts _ (done_seq (mark r) _ (done_mark r fine) (λ q c.
          onward q c (p + 1) (temporary.Value Undefined ∷ ts) (tt, temporaries_on c.grows ts h)))
      done_act node (step.Stamp d n to k x) p ts typed named h = absurd typed
      done_act node (step.Timely d n from k limit to) p ts typed named h = absurd typed
      done_act node (step.Open t to) p ts typed named h = absurd typed
      done_act node (step.Check t to) p ts typed named h = absurd typed
      done_act node (step.Close t to) p ts typed named h = absurd typed
      done_act node k p ts typed named h = stopped

  -- the step that enters a function
  done_entry : (k : StepKind) (f : ℕ) (fn : IrFunction) (args : List Value) (below : List Frame)
      → slice_get ir.functions f ≡ Some fn → Every (IsIn r) args → AreInFrames r below → AreBegun ir r.next below
      → Done r (Stands ir) (m.act_enter ir rs k f fn args below r)
  done_entry (step.Enter n) f fn args below here passed waits begun =
      done_then (act.enter f fn.frame (m.objects_of fn) r) _ (done_enter r fine f fn.frame (m.objects_of fn)) (λ q first c e.
      entered q first c e (came_params q c.fine first (m.param_kinds fn) args (values_on c.grows args passed)))
    where
      entered : (q : Run) (first : ℕ) → Came r q → first + length (m.objects_of fn) ≤ q.next
          → Came q (record q { state = act.with_params first (m.param_kinds fn) args q.state })
          → Done q (Stands ir) (Went (At f 1 first [] below)
          (record q { state = act.with_params first (m.param_kinds fn) args q.state }))
      entered q first c e d = went d (record {
        inside = (tt, frames_on (came_then c d).grows below waits);
        begun = (
          λ gn g. subst (λ (x : IrFunction). first + length x.locals ≤ q.next) (some_is fn gn (sym here ∙ g))
              (omega (arith, e, length-map fn.locals (λ (l : IrLocal). l.scalars))),
          all_begun_on ir r.next q.next below c.grows.many begun,
        );
      })
  done_entry k f fn args below here passed waits begun = stopped

-- ---- a step of a run

every_at : {A : Type 0} (P : A → Type 0) (xs : List A) (i : ℕ) (x : A) → Every P xs → slice_get xs i ≡ Some x → P x
every_at P [] i x h e = absurd cc
every_at P (y ∷ ys) zero x h e = subst P (some_is y x e) h.0
every_at P (y ∷ ys) (suc i) x h e = every_at P ys i x h.1 e

module _ (ir : Ir) (rs : List Reading) (plain : AllPlain ir) where
  done_step_in : (r : Run) (f p : ℕ) (go : IrFunction → Step → Action Control)
      → ((fn : IrFunction) (s : Step) → slice_get ir.functions f ≡ Some fn → slice_get fn.steps p ≡ Some s
      → Done r (Stands ir) (go fn s r)) → Done r (Stands ir) (m.step_in ir rs f p go r)
  unfolding m.step_in m.found
  done_step_in r f p go h = by_function (slice_get ir.functions f) refl
    where
      by_step : (fn : IrFunction) → slice_get ir.functions f ≡ Some fn → (o : Option Step) → slice_get fn.steps p ≡ o
          → Done r (Stands ir) (m.found o (go fn) r)
      by_step fn is None e = stopped
      by_step fn is (Some s) e = h fn s is e

      by_function : (o : Option IrFunction) → slice_get ir.functions f ≡ o
          → Done r (Stands ir) (m.found o (λ fn. m.found (slice_get fn.steps p) (go fn)) r)
      by_function None e = stopped
      by_function (Some fn) e = by_step fn e (slice_get fn.steps p) refl

  fine_of : (c : Control) (r : Run) → PointsInside c r → Fine r
  fine_of c r h = record { globals = h.globals; calls = h.calls; no_block = h.no_block }

  done_step : (c : Control) (r : Run) → Inside ir c r → Done r (Stands ir) (m.one_step ir rs c r)
  done_step (At f p first ts below) r h = done_step_in r f p _ (λ fn s is at.
      done_act ir rs r (fine_of (At f p first ts below) r h.points) f first below h.begun.0 h.points.control.1 h.begun.1 fn is
      h.variables s.node s.kind p ts (every_at (λ (x : Step). IsTyped fn x.kind) fn.steps p s (plain f fn is).0 at)
      ((plain f fn is).1 p s at) h.points.control.0)
  done_step (Calling f d args below) r h = done_step_in r f 0 _ (λ fn s is at.
      done_entry ir rs r (fine_of (Calling f d args below) r h.points) s.kind f fn args below is h.points.control.0
      h.points.control.1 h.begun)
  done_step (Returning v []) r h = stopped
  done_step (Returning v (b ∷ below)) r h = done_step_in r b.function b.position _ (λ fn s is at.
      done_result ir rs r (fine_of (Returning v (b ∷ below)) r h.points) b.function b.first below h.begun.0
      h.points.control.1.1 h.begun.1 s.kind v b.position b.temporaries h.points.control.0 h.points.control.1.0)

  inside_of : (d : Control) (r q : Run) → length ir.globals ≤ r.next → Done r (Stands ir) (Went d q) → Inside ir d q
  inside_of d r q l (went c s) = record {
    points = record {
      globals = c.fine.globals;
      calls = c.fine.calls;
      control = s.inside;
      no_block = c.fine.no_block;
    };
    variables = omega (arith, l, c.grows.many);
    begun = s.begun;
  }

  -- each step keeps pointers inside
  pub stays : StaysInside ir rs
  stays c d r q h e = inside_of d r q h.variables (subst (Done r (Stands ir)) e (done_step c r h))

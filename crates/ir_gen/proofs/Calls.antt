-- The form of a program does what its calls mean.
use Rattle.std.proofs.Common.{◌≡◌, ℕ, zero, suc, ◌+◌, List, [], ◌∷◌, ◌++◌, length, map, Option, Some, None, Bool, true, false, ◌<◌, append_assoc, length-append, refl, sym, ap, ◌∙◌, subst, arith}
use Rattle.std.specs.Prelude.{slice_get, pos}
use Rattle.std.proofs.Math.Seq.{get_or-append_seam}
use Rattle.std.proofs.lemmas.Option.{slice_get-get_or}
use Rattle.base16.specs.declared.image.Kind.{Kind}
use Rattle.base16.specs.declared.reading.Reading.{Reading}
use Rattle.core_tree.specs.Layout.{kind_of}
use Rattle.core_tree.specs.Heights.{frame_bytes}
use Rattle.core_tree.specs.declared.program.Core.{Core}
use Rattle.core_tree.specs.declared.program.Function.{Function}
use Rattle.core_tree.specs.declared.types.Slot.{Slot}
use Rattle.c_values.specs.declared.value.Value.{Value}
use Rattle.c_values.specs.declared.value.Value.TheVariants.{Int, Undefined}
use Rattle.c_run.specs.Runs.{Run, Outcome, Went, Stopped, Action, and_then, pure, ◌>>=◌, ◌>>◌, changed}
use Rattle.c_run.specs.Actions.{enter, leave, finish, with_params}
use Rattle.c_meaning.specs.Meaning as mean
use Rattle.c_meaning.specs.Statements as st
use Rattle.c_meaning.specs.declared.flow.Flow.{Flow}
use Rattle.c_meaning.specs.declared.flow.Flow.TheVariants.{Normal, Break, Continue, Return, Caught}
use Rattle.c_meaning.specs.After as after
use Rattle.ir.specs.declared.form.Ir.{Ir}
use Rattle.ir.specs.declared.form.IrFunction.{IrFunction}
use Rattle.ir.specs.declared.form.Operand.TheVariants as operand
use Rattle.ir.specs.declared.form.Step.{Step}
use Rattle.ir.specs.declared.form.StepKind.TheVariants as step
use Rattle.ir.specs.declared.control.Control.{Control}
use Rattle.ir.specs.declared.control.Control.TheVariants.{At, Calling, Returning}
use Rattle.ir.specs.declared.control.Frame.{Frame}
use Rattle.ir.specs.Machine as m
use Rattle.ir.proofs.Leading.{Stands, stands_front, stands_back, Leads, leads_by, leads_same, leads_step, chain, led, past_wrong}
use Rattle.ir_gen.specs.Code.{at_node}
use Rattle.ir_gen.specs.Body as c
use Rattle.ir_gen.specs.Built as built
use Rattle.ir_gen.specs.Locals as locals
use Rattle.ir_gen.proofs.Expressions.{Served, put_constant}
use Rattle.ir_gen.proofs.Statements as s
use Rattle.ir_gen.proofs.StmtTree.{sim_stmts}

-- a function of the form that was made of a function of the tree
pub record Made (core : Core) (x : Function) (fn : IrFunction) : Type 0 where
  pub frame : fn.frame ≡ frame_bytes core.structs x
  pub slots : m.objects_of fn ≡ after.objects_of core.structs x
  pub kinds : m.param_kinds fn ≡ map kind_of x.params
  pub steps : fn.steps ≡ c.function_steps core.structs (after.objects_of core.structs x) (after.is_main x)
      (length x.params) x.node x.body
  pub built : built.stmts x.body ≡ true
  pub locals : locals.stmts (length (after.objects_of core.structs x)) x.body ≡ true

stands_all : (is pre : List Step) → Stands (pre ++ is) (length pre) is
stands_all [] pre = tt
stands_all (i ∷ is) pre =
    let within : length pre < length (pre ++ i ∷ is) = omega (arith, length-append pre (i ∷ is)) in
    let here = slice_get-get_or (pre ++ i ∷ is) (length pre) i within ∙ ap Some (get_or-append_seam pre i is i) in
    let n : length (pre ++ i ∷ []) ≡ length pre + 1 = omega (arith, length-append pre (i ∷ [])) in
    let rest = stands_all is (pre ++ i ∷ []) in
    let rest2 = subst (λ l. Stands l (length (pre ++ i ∷ [])) is) (append_assoc pre (i ∷ []) is) rest in
    (here, subst (λ k. Stands (pre ++ i ∷ is) k is) n rest2)

pub stands_self : (is : List Step) → Stands is 0 is
stands_self is = stands_all is []

result_given : (b : Bool) (v : Value) → after.result_of b (Return v) ≡ v
result_given true v = refl
result_given false v = refl

module _ (core : Core) (rs : List Reading) (ir : Ir)
    (all : (n : ℕ) (x : Function) → slice_get core.functions n ≡ Some x → (fn : IrFunction)
    × (slice_get ir.functions n ≡ Some fn) × Made core x fn) where
  module _ (n : ℕ) (x : Function) (fn : IrFunction) (is : slice_get ir.functions n ≡ Some fn) (mk : Made core x fn) where
    abbrev entry : ℕ → ℕ → List (List Slot) → List Kind → List Value → List Frame → Action Control
    entry n frame slots kinds vs below = enter n frame slots >>= λ first. changed (with_params first kinds vs)
        >>= λ u. pure (At n 1 first [] below)

    all_stand : Stands fn.steps 0 (c.function_steps core.structs (after.objects_of core.structs x) (after.is_main x)
        (length x.params) x.node x.body)
    all_stand = subst (λ l. Stands fn.steps 0 l) mk.steps (stands_self fn.steps)

    -- from the entry
    entered : (d : ℕ) (vs : List Value) (below : List Frame) (r : Run)
        → Leads ir rs (Went (Calling n d vs below) r)
        (entry n (frame_bytes core.structs x) (after.objects_of core.structs x) (map kind_of x.params) vs below r)
    unfolding m.step_in m.found
    entered d vs below r = subst (λ o. Leads ir rs (Went (Calling n d vs below) r) o) same
        (leads_step ir rs (Calling n d vs below) r)
      where
        same : m.one_step ir rs (Calling n d vs below) r
            ≡ entry n (frame_bytes core.structs x) (after.objects_of core.structs x) (map kind_of x.params) vs below r
        same = ap (λ o. m.found o (λ g. m.found (slice_get g.steps 0) (λ s. m.act_enter ir rs s.kind n g vs below)) r) is
            ∙ (ap (λ o. m.found o (λ s. m.act_enter ir rs s.kind n fn vs below) r) all_stand.0
            ∙ (ap (λ z. entry n z (m.objects_of fn) (m.param_kinds fn) vs below r) mk.frame
            ∙ (ap (λ z. entry n (frame_bytes core.structs x) z (m.param_kinds fn) vs below r) mk.slots
            ∙ ap (λ z. entry n (frame_bytes core.structs x) (after.objects_of core.structs x) z vs below r) mk.kinds)))

    abbrev size : ℕ
    size = (c.stmts core.structs (after.objects_of core.structs x) x.body).size

    -- the way a function's statements leave, and the leaving
    abbrev ending : List Frame → Flow → Action Control
    ending below w = m.left (after.result_of (after.is_main x) w) below

    at_end : (b : Bool) (first : ℕ) (below : List Frame) (w : Flow) (q : Run) → after.result_of b w ≡ after.result_of b Normal
        → Stands fn.steps (1 + size) (at_node x.node (c.end_step core.structs (after.objects_of core.structs x) b) ∷ [])
        → Leads ir rs (Went (At n (1 + size) first [] below) q) (m.left (after.result_of b w) below q)
    at_end true first below w q e h =
        subst (λ v. Leads ir rs (Went (At n (1 + size) first [] below) q) (m.left v below q)) (sym e)
        (s.one_step ir rs n fn is first below (1 + size) x.node (step.Return 0 (operand.Constant (pos 0))) [] q
        (m.left (Int (pos 0)) below) h.0 (put_constant x.node first 0 (pos 0) [] _ refl))
    at_end false first below w q e h =
        subst (λ v. Leads ir rs (Went (At n (1 + size) first [] below) q) (m.left v below q)) (sym e)
        (s.one_step ir rs n fn is first below (1 + size) x.node step.ReturnNothing [] q (m.left Undefined below) h.0 refl)

    abbrev Even : Type 0
    Even = length ((c.stmts core.structs (after.objects_of core.structs x) x.body).steps 1 (1 + size) (1 + size)) ≡ size

    end_stands : Even → Stands fn.steps (1 + size)
        (at_node x.node (c.end_step core.structs (after.objects_of core.structs x) (after.is_main x)) ∷ [])
    end_stands even = stands_back fn.steps 1 (1 + size)
        ((c.stmts core.structs (after.objects_of core.structs x) x.body).steps 1 (1 + size) (1 + size)) _
        (ap (λ k. 1 + k) even) all_stand.1

    gone : Even → (first : ℕ) (below : List Frame) (w : Flow) (q : Run)
        → Leads ir rs (s.go_to ir rs n fn is first below (1 + size) (1 + size) (1 + size) (1 + size) w q) (ending below w q)
    gone even first below Normal q = at_end (after.is_main x) first below Normal q refl (end_stands even)
    gone even first below Break q = at_end (after.is_main x) first below Break q (by_bool (after.is_main x)) (end_stands even)
      where
        by_bool : (b : Bool) → after.result_of b Break ≡ after.result_of b Normal
        by_bool true = refl
        by_bool false = refl
    gone even first below Continue q = at_end (after.is_main x) first below Continue q (by_bool (after.is_main x))
        (end_stands even)
      where
        by_bool : (b : Bool) → after.result_of b Continue ≡ after.result_of b Normal
        by_bool true = refl
        by_bool false = refl
    gone even first below (Return v) q = subst (λ z. Leads ir rs (m.left v below q) (m.left z below q))
        (sym (result_given (after.is_main x) v)) (leads_same ir rs (m.left v below q))
    gone even first below Caught q = at_end (after.is_main x) first below Caught q (by_bool (after.is_main x)) (end_stands even)
      where
        by_bool : (b : Bool) → after.result_of b Caught ≡ after.result_of b Normal
        by_bool true = refl
        by_bool false = refl

    module _ (call : mean.Calls) (first : ℕ) (below : List Frame)
        (served : Served ir rs call below) where
      -- the statements of a function, and its leaving
      run_body : (r : Run) → Leads ir rs (Went (At n 1 first [] below) r)
          (and_then (st.stmts core rs call first x.body None r) (ending below))
      run_body r =
          let h = sim_stmts core rs call first ir (after.objects_of core.structs x) n fn is below served mk.slots x.body mk.built
          mk.locals in
          let even = h.even 1 (1 + size) (1 + size) in
          let mine = stands_front fn.steps 1 ((c.stmts core.structs (after.objects_of core.structs x) x.body).steps 1 (1 + size)
          (1 + size)) _ all_stand.1 in
          leads_by ir rs _ _ _ (h.leads 1 (1 + size) (1 + size) (1 + size) (1 + size) r refl mine)
          (led ir rs (st.stmts core rs call first x.body None r)
          (s.go_to ir rs n fn is first below (1 + size) (1 + size) (1 + size) (1 + size)) (ending below)
          (λ w q. gone even first below w q))

      body_run : (vs : List Value) (r : Run)
          → Leads ir rs (and_then (changed (with_params first (map kind_of x.params) vs) r) (λ u. pure (At n 1 first [] below)))
          (and_then (after.body core rs call x vs first r) (ending below))
      unfolding after.body
      body_run vs r = run_body (record r { state = with_params first (map kind_of x.params) vs r.state })

    -- a call of the function that returns
    called_run : (call : mean.Calls) (d : ℕ) (vs : List Value) (b : Frame) (below : List Frame)
        → ((g d : ℕ) (vs : List Value) (b2 : Frame) (r : Run)
        → Leads ir rs (Went (Calling g d vs (b2 ∷ (b ∷ below))) r)
        (and_then (call g vs r) (λ v q. Went (Returning v (b2 ∷ (b ∷ below))) q)))
        → (r : Run) → Leads ir rs (Went (Calling n d vs (b ∷ below)) r)
        (and_then (after.called core rs call n (Some x) vs r) (λ v q. Went (Returning v (b ∷ below)) q))
    unfolding after.called m.left
    called_run call d vs b below served r =
        leads_by ir rs _ _ _ (entered d vs (b ∷ below) r)
        (chain ir rs (enter n (frame_bytes core.structs x) (after.objects_of core.structs x) r)
        (λ first. after.body core rs call x vs first >>= λ w. leave >> pure (after.result_of (after.is_main x) w))
        (λ v q. Went (Returning v (b ∷ below)) q)
        (λ first. changed (with_params first (map kind_of x.params) vs) >>= λ u. pure (At n 1 first [] (b ∷ below)))
        (λ first q. leads_by ir rs _ _ _ (body_run call first (b ∷ below) (λ g d2 vs2 b2 r2. served g d2 vs2 b2 r2) vs q)
        (chain ir rs (after.body core rs call x vs first q) (λ w. leave >> pure (after.result_of (after.is_main x) w))
        (λ v q2. Went (Returning v (b ∷ below)) q2) (ending (b ∷ below))
        (λ w q2. left_on w q2 (leave q2)))))
      where
        left_on : (w : Flow) (q : Run) (o : Outcome (Unit {0}))
            → Leads ir rs (and_then o (λ u. pure (Returning (after.result_of (after.is_main x) w) (b ∷ below))))
            (and_then (and_then o (λ u. pure (after.result_of (after.is_main x) w)))
            (λ v q2. Went (Returning v (b ∷ below)) q2))
        left_on w q (Went u q2) = leads_same ir rs _
        left_on w q (Stopped t) = leads_same ir rs (Stopped t)

  -- all calls, at most so many one in the other
  calls_run : (depth g d : ℕ) (vs : List Value) (b : Frame) (below : List Frame) (r : Run)
      → Leads ir rs (Went (Calling g d vs (b ∷ below)) r)
      (and_then (after.calls core rs depth g vs r) (λ v q. Went (Returning v (b ∷ below)) q))
  unfolding after.calls after.called
  calls_run zero g d vs b below r = past_wrong ir rs _
  calls_run (suc depth) g d vs b below r = by_function (λ g2 d2 vs2 b2 r2. calls_run depth g2 d2 vs2 b2 (b ∷ below) r2)
      (slice_get core.functions g) refl
    where
      by_function : ((g d : ℕ) (vs : List Value) (b2 : Frame) (r : Run)
          → Leads ir rs (Went (Calling g d vs (b2 ∷ (b ∷ below))) r)
          (and_then (after.calls core rs depth g vs r) (λ v q. Went (Returning v (b2 ∷ (b ∷ below))) q)))
          → (o : Option Function) → slice_get core.functions g ≡ o
          → Leads ir rs (Went (Calling g d vs (b ∷ below)) r)
          (and_then (after.called core rs (after.calls core rs depth) g o vs r)
          (λ v q. Went (Returning v (b ∷ below)) q))
      by_function next None e = past_wrong ir rs _
      by_function next (Some x) e = let a = all g x e in
          called_run g x a.0 a.1 a.2 (after.calls core rs depth) d vs b below next r

  -- the outermost call, with which the run is over
  pub main_run : (n : ℕ) (x : Function) → slice_get core.functions n ≡ Some x → (r : Run)
      → Leads ir rs (Went (Calling n 0 [] []) r) (and_then (after.main_in core rs n (Some x) r) (λ u. m.stuck))
  unfolding after.main_in m.left finish
  main_run n x e r =
      let a = all n x e in
      leads_by ir rs _ _ _ (entered n x a.0 a.1 a.2 0 [] [] r)
      (chain ir rs (enter n (frame_bytes core.structs x) (after.objects_of core.structs x) r)
      (λ first. (λ q. after.body core rs (after.calls core rs (suc q.left)) x [] first q) >>= λ w. finish) (λ u. m.stuck)
      (λ first. changed (with_params first (map kind_of x.params) []) >>= λ u. pure (At n 1 first [] []))
      (λ first q. leads_by ir rs _ _ _ (body_run n x a.0 a.1 a.2 (after.calls core rs (suc q.left)) first []
      (λ g d vs b r2. calls_run (suc q.left) g d vs b [] r2) [] q)
      (chain ir rs (after.body core rs (after.calls core rs (suc q.left)) x [] first q) (λ w. finish) (λ u. m.stuck)
      (ending n x a.0 a.1 a.2 []) (λ w q2. leads_same ir rs _))))

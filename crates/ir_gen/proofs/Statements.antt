-- The codes of statements do what these mean.
use Rattle.std.proofs.Common.{◌≡◌, ℕ, zero, suc, ◌+◌, List, [], ◌∷◌, ◌++◌, length, Some, None, Bool, true, false, refl, ap, ◌∙◌, subst, arith, cond, length-append}
use Rattle.std.specs.Prelude.{slice_get}
use Rattle.base16.specs.declared.integer.IntType.{IntType}
use Rattle.base16.specs.declared.reading.Reading.{Reading}
use Rattle.c_values.specs.declared.value.Value.{Value}
use Rattle.c_values.specs.declared.value.Value.TheVariants.{Undefined}
use Rattle.c_values.specs.Objects.{with_cleared}
use Rattle.c_values.specs.Values.{present}
use Rattle.c_run.specs.Runs.{Run, Outcome, Went, Stopped, Action, and_then, pure, ◌>>=◌, ◌>>◌, given, changed, mark}
use Rattle.c_meaning.specs.Statements as st
use Rattle.c_meaning.specs.declared.flow.Flow.{Flow}
use Rattle.c_meaning.specs.declared.flow.Flow.TheVariants.{Normal, Break, Continue, Return, Caught}
use Rattle.ir.specs.declared.form.Ir.{Ir}
use Rattle.ir.specs.declared.form.IrFunction.{IrFunction}
use Rattle.ir.specs.declared.form.Operand.TheVariants as operand
use Rattle.ir.specs.declared.form.StepKind.{StepKind}
use Rattle.ir.specs.declared.form.StepKind.TheVariants as step
use Rattle.ir.specs.declared.control.Control.{Control}
use Rattle.ir.specs.declared.control.Control.TheVariants.{At}
use Rattle.ir.specs.declared.control.Frame.{Frame}
use Rattle.ir.specs.declared.control.Temporary.{Temporary}
use Rattle.ir.specs.Machine as m
use Rattle.ir.proofs.Leading.{Stands, stands_front, stands_back, Leads, leads_by, leads_same, chain, led, made, past_wrong}
use Rattle.ir_gen.specs.Code as code
use Rattle.ir_gen.specs.Code.{Code, at_node}
use Rattle.ir_gen.specs.Body as c
use Rattle.ir_gen.specs.Body.{Body, Guard, Part}
use Rattle.ir_gen.proofs.Doing as d
use Rattle.ir_gen.proofs.Doing.{value, one_is, any_is}

module _ (ir : Ir) (rs : List Reading) (f : ℕ) (fn : IrFunction) (is : slice_get ir.functions f ≡ Some fn) (first : ℕ)
    (below : List Frame) where
  abbrev here : ℕ → Run → Outcome Control
  here p r = Went (At f p first [] below) r

  abbrev Leading : Outcome Control → Outcome Control → Type 0
  Leading = Leads ir rs

  abbrev Sim : (act : Action Value) (code : Code) → Type 0
  Sim = d.Sim ir rs f fn is first below value

  -- where a way to leave goes
  abbrev pub go_to : (end brk cont catch : ℕ) → Flow → Action Control
  go_to end brk cont catch Normal = here end
  go_to end brk cont catch Break = here brk
  go_to end brk cont catch Continue = here cont
  go_to end brk cont catch (Return v) = m.left v below
  go_to end brk cont catch Caught = here catch

  pub record SimStmt (act : Action Flow) (code : Body) : Type 0 where
    pub even : (p brk cont : ℕ) → length (code.steps p brk cont) ≡ code.size
    pub leads : (p end brk cont catch : ℕ) (r : Run) → p + code.size ≡ end → Stands fn.steps p (code.steps p brk cont)
        → Leading (here p r) (and_then (act r) (go_to end brk cont catch))

  pub record SimGuard (act : Action Bool) (code : Guard) : Type 0 where
    pub even : (p other : ℕ) → length (code.steps p other) ≡ code.size
    pub leads : (p end other : ℕ) (r : Run) → p + code.size ≡ end → Stands fn.steps p (code.steps p other)
        → Leading (here p r) (and_then (act r) (λ b. here (m.branch b false other end)))

  pub record SimPart (act : Action (Unit {0})) (code : Part) : Type 0 where
    pub even : (p : ℕ) → length (code.steps p) ≡ code.size
    pub leads : (p end : ℕ) (r : Run) → p + code.size ≡ end → Stands fn.steps p (code.steps p)
        → Leading (here p r) (and_then (act r) (λ u. here end))

  -- a step by itself
  pub one_step : (p node : ℕ) (k : StepKind) (ts : List Temporary) (r : Run) (a : Action Control) → slice_get fn.steps p
      ≡ Some (at_node node k) → m.act ir rs node k f p first ts below ≡ a → Leading (Went (At f p first ts below) r) (a r)
  one_step p node k ts r a at_ eq = subst (λ x. Leading (Went (At f p first ts below) r) (x r)) eq
      (made ir rs f fn is p first ts below r (at_node node k) at_)

  to_end : (x y : ℕ) (o : Outcome Control) (r : Run) → x ≡ y → Leading o (here x r) → Leading o (here y r)
  to_end x y o r e h = subst (λ z. Leading o (here z r)) e h

  -- ---- statements of one step

  pub sim_break : (node : ℕ) → SimStmt (pure Break) (c.one_body node (λ p brk cont. step.Jump brk))
  sim_break node = record {
    even = λ p brk cont. refl;
    leads = λ p end brk cont catch r he h. one_step p node (step.Jump brk) [] r (pure (At f brk first [] below)) h.0 refl;
  }

  pub sim_continue : (node : ℕ) → SimStmt (pure Continue) (c.one_body node (λ p brk cont. step.Jump cont))
  sim_continue node = record {
    even = λ p brk cont. refl;
    leads = λ p end brk cont catch r he h. one_step p node (step.Jump cont) [] r (pure (At f cont first [] below)) h.0 refl;
  }

  pub sim_return_nothing : (node : ℕ) → SimStmt (pure (Return Undefined)) (c.one_body node (λ p brk cont. step.ReturnNothing))
  sim_return_nothing node = record {
    even = λ p brk cont. refl;
    leads = λ p end brk cont catch r he h. one_step p node step.ReturnNothing [] r (m.left Undefined below) h.0 refl;
  }

  -- ---- an expression, and what becomes of its value

  pub sim_return : (a : Action Value) (ca : Code) (node : ℕ) → Sim a ca
      → SimStmt (a >>= λ v. given node (present v) >>= λ w. pure (Return w))
      (c.part_body (c.taken_by node (step.Return 0 operand.Temporary) ca))
  sim_return a ca node sa = record {
    even = λ p brk cont. length-append (ca.steps p 0) _ ∙ ap (λ n. n + 1) (sa.even p 0);
    leads = λ p end brk cont catch r he h.
        let h1 = stands_front fn.steps p (ca.steps p 0) _ h in
        let h2 = stands_back fn.steps p (p + ca.size) (ca.steps p 0) _ (ap (λ n. p + n) (sa.even p 0)) h in
        leads_by ir rs _ _ _ (sa.does p 0 (p + ca.size) [] r refl refl h1)
        (chain ir rs (a r) (λ v. given node (present v) >>= λ w. pure (Return w)) (go_to end brk cont catch)
        (λ v q. Went (At f (p + ca.size) first (value v ∷ []) below) q)
        (λ v q. leads_by ir rs _ _ _ (one_step (p + ca.size) node (step.Return 0 operand.Temporary) (value v ∷ []) q
        (given node (present v) >>= λ w. m.left w below) h2.0 (one_is node first 0 [] v _ refl))
        (chain ir rs (given node (present v) q) (λ w. pure (Return w)) (go_to end brk cont catch) (λ w. m.left w below)
        (λ w q2. leads_same ir rs (m.left w below q2)))));
  }

  -- an expression, and a step that takes its value and leaves nothing
  pub sim_taken : (a : Action Value) (ca : Code) (node : ℕ) (k : StepKind) (g : Value → Action (Unit {0})) → Sim a ca
      → ((v : Value) (p : ℕ) → m.act ir rs node k f p first (value v ∷ []) below
      ≡ (g v >>= λ u. pure (At f (p + 1) first [] below)))
      → SimPart (a >>= g) (c.taken_by node k ca)
  sim_taken a ca node k g sa acts = record {
    even = λ p. length-append (ca.steps p 0) _ ∙ ap (λ n. n + 1) (sa.even p 0);
    leads = λ p end r he h.
        let h1 = stands_front fn.steps p (ca.steps p 0) _ h in
        let h2 = stands_back fn.steps p (p + ca.size) (ca.steps p 0) _ (ap (λ n. p + n) (sa.even p 0)) h in
        let he2 : p + ca.size + 1 ≡ end = omega (arith, he) in
        leads_by ir rs _ _ _ (sa.does p 0 (p + ca.size) [] r refl refl h1)
        (chain ir rs (a r) g (λ u. here end) (λ v q. Went (At f (p + ca.size) first (value v ∷ []) below) q)
        (λ v q. subst (λ x. Leading (Went (At f (p + ca.size) first (value v ∷ []) below) q) (and_then (g v q) (λ u. here x)))
        he2
        (one_step (p + ca.size) node k (value v ∷ []) q (g v >>= λ u. pure (At f (p + ca.size + 1) first [] below)) h2.0
        (acts v (p + ca.size)))));
  }

  pub sim_dropped : (a : Action Value) (ca : Code) (node : ℕ) → Sim a ca → SimPart (a >>= λ v. pure tt) (c.dropped node ca)
  sim_dropped a ca node sa = sim_taken a ca node (step.Drop 0) (λ v. pure tt) sa (λ v p. any_is 0 [] (value v) _ refl)

  pub sim_one_part : (node : ℕ) (k : StepKind) (act : Action (Unit {0}))
      → ((p : ℕ) → m.act ir rs node k f p first [] below ≡ (act >>= λ u. pure (At f (p + 1) first [] below)))
      → SimPart act (c.one_part node k)
  sim_one_part node k act acts = record {
    even = λ p. refl;
    leads = λ p end r he h. subst (λ x. Leading (here p r) (and_then (act r) (λ u. here x))) he
        (one_step p node k [] r (act >>= λ u. pure (At f (p + 1) first [] below)) h.0 (acts p));
  }

  pub sim_then_part : (a b : Action (Unit {0})) (ca cb : Part) → SimPart a ca → SimPart b cb
      → SimPart (a >> b) (c.then_part ca cb)
  sim_then_part a b ca cb sa sb = record {
    even = λ p. omega (arith, length-append (ca.steps p) (cb.steps (p + ca.size)), sa.even p, sb.even (p + ca.size));
    leads = λ p end r he h.
        let h1 = stands_front fn.steps p (ca.steps p) _ h in
        let h2 = stands_back fn.steps p (p + ca.size) (ca.steps p) _ (ap (λ n. p + n) (sa.even p)) h in
        let he2 : p + ca.size + cb.size ≡ end = omega (arith, he) in
        leads_by ir rs _ _ _ (sa.leads p (p + ca.size) r refl h1)
        (chain ir rs (a r) (λ u. b) (λ u. here end) (λ u. here (p + ca.size)) (λ u q. sb.leads (p + ca.size) end q he2 h2));
  }

  -- what leaves nothing, as a statement
  pub sim_part : (a : Action (Unit {0})) (ca : Part) → SimPart a ca → SimStmt (a >> pure Normal) (c.part_body ca)
  sim_part a ca sa = record {
    even = λ p brk cont. sa.even p;
    leads = λ p end brk cont catch r he h. leads_by ir rs _ _ _ (sa.leads p end r he h)
        (chain ir rs (a r) (λ u. pure Normal) (go_to end brk cont catch) (λ u. here end)
        (λ u q. leads_same ir rs (here end q)));
  }

  pub sim_undefined : (node n : ℕ) → SimPart (changed (with_cleared (first + n))) (c.one_part node (step.Undefine n))
  sim_undefined node n = sim_one_part node (step.Undefine n) (changed (with_cleared (first + n))) (λ p. refl)

  pub sim_no_part : SimPart (pure tt) c.no_part
  sim_no_part = record {
    even = λ p. refl;
    leads =
        λ p end r he h. to_end p end (here p r) r (omega (arith, he)) (leads_same ir rs (here p r));
  }

  -- the value of an expression statement is not wanted
  pub sim_expression : (a : Action Value) (ca : Code) (node : ℕ) → Sim a ca
      → SimStmt (a >> pure Normal) (c.part_body (c.dropped node ca))
  sim_expression a ca node sa =
      let h = sim_dropped a ca node sa in
      record {
        even = λ p brk cont. h.even p;
        leads = λ p end brk cont catch r he hs. leads_by ir rs _ _ _ (h.leads p end r he hs) (same (a r) end brk cont catch);
      }
    where
      same : (o : Outcome Value) (end brk cont catch : ℕ)
          → Leading (and_then (and_then o (λ v. pure {A = Unit {0}} tt)) (λ u. here end))
          (and_then (and_then o (λ v. pure Normal)) (go_to end brk cont catch))
      same (Went v q) end brk cont catch = leads_same ir rs (here end q)
      same (Stopped t) end brk cont catch = leads_same ir rs (Stopped t)

  pub sim_guard : (a : Action Value) (ca : Code) (node : ℕ) (t : IntType) → Sim a ca
      → SimGuard (a >>= λ v. m.tested node t v) (c.guard node t ca)
  unfolding m.on_test
  sim_guard a ca node t sa = record {
    even = λ p other. length-append (ca.steps p 0) _ ∙ ap (λ n. n + 1) (sa.even p 0);
    leads = λ p end other r he h.
        let h1 = stands_front fn.steps p (ca.steps p 0) _ h in
        let h2 = stands_back fn.steps p (p + ca.size) (ca.steps p 0) _ (ap (λ n. p + n) (sa.even p 0)) h in
        let he2 : p + ca.size + 1 ≡ end = omega (arith, he) in
        leads_by ir rs _ _ _ (sa.does p 0 (p + ca.size) [] r refl refl h1)
        (chain ir rs (a r) (λ v. m.tested node t v) (λ b. here (m.branch b false other end))
        (λ v q. Went (At f (p + ca.size) first (value v ∷ []) below) q)
        (λ v q. subst (λ x. Leading (Went (At f (p + ca.size) first (value v ∷ []) below) q)
        (and_then (m.tested node t v q) (λ b. here (m.branch b false other x)))) he2
        (one_step (p + ca.size) node (code.unless t other 0) (value v ∷ []) q
        (m.tested node t v >>= λ b. pure (At f (m.branch b false other (p + ca.size + 1)) first [] below)) h2.0
        (one_is node first 0 [] v _ refl))));
  }

  pub sim_no_guard : SimGuard (pure true) c.no_guard
  sim_no_guard = record {
    even = λ p other. refl;
    leads
        = λ p end other r he h. to_end p end (here p r) r (omega (arith, he)) (leads_same ir rs (here p r));
  }

  -- ---- one after the other

  pub sim_nothing : SimStmt (pure Normal) c.no_body
  sim_nothing = record {
    even = λ p brk cont. refl;
    leads
        = λ p end brk cont catch r he h. to_end p end (here p r) r (omega (arith, he)) (leads_same ir rs (here p r));
  }

  pub sim_then : (a b : Action Flow) (ca cb : Body) → SimStmt a ca → SimStmt b cb
      → SimStmt (a >>= λ w. st.then_flow w b) (c.then_body ca cb)
  sim_then a b ca cb sa sb = record {
    even = λ p brk cont. omega (
      arith,
      length-append (ca.steps p brk cont)
          (cb.steps (p + ca.size) brk cont),
      sa.even p brk cont,
      sb.even (p + ca.size) brk cont,
    );
    leads = λ p end brk cont catch r he h.
        let h1 = stands_front fn.steps p (ca.steps p brk cont) _ h in
        let h2 = stands_back fn.steps p (p + ca.size) (ca.steps p brk cont) _ (ap (λ n. p + n) (sa.even p brk cont)) h in
        let he2 : p + ca.size + cb.size ≡ end = omega (arith, he) in
        leads_by ir rs _ _ _ (sa.leads p (p + ca.size) brk cont catch r refl h1)
        (chain ir rs (a r) (λ w. st.then_flow w b) (go_to end brk cont catch) (go_to (p + ca.size) brk cont catch)
        (λ w q. next p end brk cont catch w q he2 h2));
  }
    where
      next : (p end brk cont catch : ℕ) (w : Flow) (q : Run) → p + ca.size + cb.size ≡ end
          → Stands fn.steps (p + ca.size) (cb.steps (p + ca.size) brk cont)
          → Leading (go_to (p + ca.size) brk cont catch w q) (and_then (st.then_flow w b q) (go_to end brk cont catch))
      next p end brk cont catch Normal q he h = sb.leads (p + ca.size) end brk cont catch q he h
      next p end brk cont catch Break q he h = leads_same ir rs (here brk q)
      next p end brk cont catch Continue q he h = leads_same ir rs (here cont q)
      next p end brk cont catch (Return v) q he h = leads_same ir rs (m.left v below q)
      next p end brk cont catch Caught q he h = leads_same ir rs (here catch q)

  pub sim_if : (a : Action Bool) (one other : Action Flow) (g : Guard) (c1 c2 : Body) (node : ℕ) → SimGuard a g → SimStmt one c1
      → SimStmt other c2 → SimStmt (a >>= λ b. cond b one other) (c.if_body node g c1 c2)
  sim_if a one other g c1 c2 node sg s1 s2 = record {
    even = λ p brk cont. omega (
      arith,
      length-append (g.steps p (p + g.size + c1.size + 1))
          (c1.steps (p + g.size) brk cont ++ (at_node node (step.Jump (p + g.size + c1.size + 1 + c2.size))
          ∷ c2.steps (p + g.size + c1.size + 1) brk cont)),
      length-append (c1.steps (p + g.size) brk cont)
          (at_node node (step.Jump (p + g.size + c1.size + 1 + c2.size)) ∷ c2.steps (p + g.size + c1.size + 1) brk cont),
      sg.even p (p + g.size + c1.size + 1),
      s1.even (p + g.size) brk cont,
      s2.even
          (p + g.size + c1.size + 1) brk cont,
    );
    leads = λ p end brk cont catch r he h.
        let other_ = p + g.size + c1.size + 1 in
        let h1 = stands_front fn.steps p (g.steps p (p + g.size + c1.size + 1)) _ h in
        let h2 = stands_back fn.steps p (p + g.size) (g.steps p (p + g.size + c1.size + 1)) _
        (ap (λ n. p + n) (sg.even p (p + g.size + c1.size + 1))) h in
        let h3 = stands_front fn.steps (p + g.size) (c1.steps (p + g.size) brk cont) _ h2 in
        let h4 = stands_back fn.steps (p + g.size) (p + g.size + c1.size) (c1.steps (p + g.size) brk cont) _
        (ap (λ n. p + g.size + n) (s1.even (p + g.size) brk cont)) h2 in
        let he2 : p + g.size + c1.size + 1 + c2.size ≡ end = omega (arith, he) in
        leads_by ir rs _ _ _ (sg.leads p (p + g.size) (p + g.size + c1.size + 1) r refl h1)
        (chain ir rs (a r) (λ b. cond b one other) (go_to end brk cont catch)
        (λ b. here (m.branch b false (p + g.size + c1.size + 1) (p + g.size)))
        (λ b q. sides p end brk cont catch b q he2 h3 h4.0 h4.1));
  }
    where
      past : (p end brk cont catch : ℕ) (w : Flow) (q : Run) → p + g.size + c1.size + 1 + c2.size ≡ end
          → slice_get fn.steps (p + g.size + c1.size) ≡ Some (at_node node (step.Jump (p + g.size + c1.size + 1 + c2.size)))
          → Leading (go_to (p + g.size + c1.size) brk cont catch w q) (go_to end brk cont catch w q)
      past p end brk cont catch Normal q he h = to_end _ end _ q he
          (one_step (p + g.size + c1.size) node (step.Jump (p + g.size + c1.size + 1 + c2.size)) [] q
          (pure (At f (p + g.size + c1.size + 1 + c2.size) first [] below)) h refl)
      past p end brk cont catch Break q he h = leads_same ir rs (here brk q)
      past p end brk cont catch Continue q he h = leads_same ir rs (here cont q)
      past p end brk cont catch (Return v) q he h = leads_same ir rs (m.left v below q)
      past p end brk cont catch Caught q he h = leads_same ir rs (here catch q)

      sides : (p end brk cont catch : ℕ) (b : Bool) (q : Run) → p + g.size + c1.size + 1 + c2.size ≡ end
          → Stands fn.steps (p + g.size) (c1.steps (p + g.size) brk cont) → slice_get fn.steps (p + g.size + c1.size)
          ≡ Some (at_node node (step.Jump (p + g.size + c1.size + 1 + c2.size)))
          → Stands fn.steps (p + g.size + c1.size + 1) (c2.steps (p + g.size + c1.size + 1) brk cont)
          → Leading (here (m.branch b false (p + g.size + c1.size + 1) (p + g.size)) q)
          (and_then (cond b one other q) (go_to end brk cont catch))
      sides p end brk cont catch true q he h3 at_ h4
          = leads_by ir rs _ _ _ (s1.leads (p + g.size) (p + g.size + c1.size) brk cont catch q refl h3)
          (led ir rs (one q) (go_to (p + g.size + c1.size) brk cont catch) (go_to end brk cont catch)
          (λ w q2. past p end brk cont catch w q2 he at_))
      sides p end brk cont catch false q he h3 at_ h4 = s2.leads (p + g.size + c1.size + 1) end brk cont catch q he h4

  -- ---- loops
  module _ (test : Action Bool) (body : Action Flow) (part : Action (Unit {0})) (g : Guard) (cb : Body) (cp : Part) (node : ℕ)
      (sg : SimGuard test g) (sb : SimStmt body cb) (sp : SimPart part cp) where
    abbrev cont_of : ℕ → ℕ
    cont_of p = p + 1 + g.size + cb.size

    abbrev end_of : ℕ → ℕ
    end_of p = p + 1 + g.size + cb.size + cp.size + 1

    -- where the steps of a loop stand
    record Laid (p : ℕ) : Type 0 where
      at_turn : slice_get fn.steps p ≡ Some (at_node node step.Turn)
      at_guard : Stands fn.steps (p + 1) (g.steps (p + 1) (end_of p))
      at_body : Stands fn.steps (p + 1 + g.size) (cb.steps (p + 1 + g.size) (end_of p) (cont_of p))
      at_part : Stands fn.steps (cont_of p) (cp.steps (cont_of p))
      at_back : slice_get fn.steps (p + 1 + g.size + cb.size + cp.size) ≡ Some (at_node node (step.Jump p))

    laid : (p brk cont : ℕ) → Stands fn.steps p ((c.loop_body node g cb cp).steps p brk cont) → Laid p
    laid p brk cont h =
        let h2 = stands_back fn.steps (p + 1) (p + 1 + g.size) (g.steps (p + 1) (end_of p)) _
        (ap (λ n. p + 1 + n) (sg.even (p + 1) (end_of p))) h.1 in
        let h3 = stands_back fn.steps (p + 1 + g.size) (cont_of p) (cb.steps (p + 1 + g.size) (end_of p) (cont_of p)) _
        (ap (λ n. p + 1 + g.size + n) (sb.even (p + 1 + g.size) (end_of p) (cont_of p))) h2 in
        record {
          at_turn = h.0;
          at_guard = stands_front fn.steps (p + 1) (g.steps (p + 1) (end_of p)) _ h.1;
          at_body = stands_front fn.steps (p + 1 + g.size) (cb.steps (p + 1 + g.size) (end_of p) (cont_of p)) _ h2;
          at_part = stands_front fn.steps (cont_of p) (cp.steps (cont_of p)) _ h3;
          at_back = (stands_back fn.steps (cont_of p) (p + 1 + g.size + cb.size + cp.size) (cp.steps (cont_of p)) _
              (ap (λ n. cont_of p + n) (sp.even (cont_of p))) h3).0;
        }

    module _ (p brk cont catch : ℕ) (l : Laid p) where
      -- what is left of a run that leaves the loop
      abbrev left_by : Flow → Action Control
      left_by = go_to (end_of p) brk cont catch

      again : (n : ℕ) → ((r : Run) → Leading (here p r) (and_then (st.turns rs None test body part n r) left_by)) → (q : Run)
          → Leading (here (cont_of p) q) (and_then ((part >> st.turns rs None test body part n) q) left_by)
      again n next q =
          leads_by ir rs _ _ _ (sp.leads (cont_of p) (p + 1 + g.size + cb.size + cp.size) q refl l.at_part)
          (chain ir rs (part q) (λ u. st.turns rs None test body part n) left_by
          (λ u. here (p + 1 + g.size + cb.size + cp.size))
          (λ u q2. leads_by ir rs _ _ _ (one_step (p + 1 + g.size + cb.size + cp.size) node (step.Jump p) [] q2
          (pure (At f p first [] below)) l.at_back refl) (next q2)))

      after : (n : ℕ) → ((r : Run) → Leading (here p r) (and_then (st.turns rs None test body part n r) left_by))
          → (w : Flow) (q : Run)
          → Leading (go_to (cont_of p) (end_of p) (cont_of p) catch w q)
          (and_then (st.after_body w (part >> st.turns rs None test body part n) q) left_by)
      after n next Normal q = again n next q
      after n next Break q = leads_same ir rs (here (end_of p) q)
      after n next Continue q = again n next q
      after n next (Return v) q = leads_same ir rs (m.left v below q)
      after n next Caught q = leads_same ir rs (here catch q)

      -- a test that holds, and one that does not
      tested : (n : ℕ) → ((r : Run) → Leading (here p r) (and_then (st.turns rs None test body part n r) left_by))
          → (b : Bool) (q : Run)
          → Leading (here (m.branch b false (end_of p) (p + 1 + g.size)) q)
          (and_then (cond b (body >>= λ w. st.after_body w (part >> st.turns rs None test body part n)) (pure Normal) q)
          left_by)
      tested n next true q =
          leads_by ir rs _ _ _ (sb.leads (p + 1 + g.size) (cont_of p) (end_of p) (cont_of p) catch q refl l.at_body)
          (chain ir rs (body q) (λ w. st.after_body w (part >> st.turns rs None test body part n)) left_by
          (go_to (cont_of p) (end_of p) (cont_of p) catch) (λ w q2. after n next w q2))
      tested n next false q = leads_same ir rs (here (end_of p) q)

      abbrev turn_on : ℕ → Bool → Action Flow
      turn_on n b = cond b (test >>= λ more. cond more
          (body >>= λ w. st.after_body w (part >> st.turns rs None test body part n)) (pure Normal)) (pure Caught)

      turned : (n : ℕ) → ((r : Run) → Leading (here p r) (and_then (st.turns rs None test body part n r) left_by)) → (q : Run)
          → Leading (here (p + 1) q) (and_then (turn_on n true q) left_by)
      turned n next q =
          leads_by ir rs _ _ _ (sg.leads (p + 1) (p + 1 + g.size) (end_of p) q refl l.at_guard)
          (chain ir rs (test q) (λ more. cond more (body >>= λ w. st.after_body w (part >> st.turns rs None test body part n))
          (pure Normal)) left_by (λ b. here (m.branch b false (end_of p) (p + 1 + g.size))) (λ b q2. tested n next b q2))

      all_turns : (n : ℕ) (r : Run) → Leading (here p r) (and_then (st.turns rs None test body part n r) left_by)
      unfolding st.turns
      all_turns zero r = past_wrong ir rs (here p r)
      all_turns (suc n) r =
          leads_by ir rs _ _ _ (one_step p node step.Turn [] r
          (mark >>= λ u. pure (At f (p + 1) first [] below)) l.at_turn refl)
          (leads_by ir rs _ _ _ (chain ir rs (mark r) (λ u. pure true) (λ b q. and_then (turn_on n b q) left_by)
          (λ u. here (p + 1)) (λ u q. turned n (λ r2. all_turns n r2) q))
          (chain ir rs (and_then (mark r) (λ u. pure true)) (turn_on n) left_by (λ b q. and_then (turn_on n b q) left_by)
          (λ b q. leads_same ir rs (and_then (turn_on n b q) left_by))))

    loop_even : (p brk cont : ℕ) → length ((c.loop_body node g cb cp).steps p brk cont) ≡ (c.loop_body node g cb cp).size
    loop_even p brk cont = omega (
      arith,
      length-append (g.steps (p + 1) (end_of p)) (cb.steps (p + 1 + g.size) (end_of p) (cont_of p)
          ++ (cp.steps (cont_of p) ++ at_node node (step.Jump p) ∷ [])),
      length-append (cb.steps (p + 1 + g.size) (end_of p) (cont_of p))
          (cp.steps (cont_of p) ++ at_node node (step.Jump p) ∷ []),
      length-append (cp.steps (cont_of p)) (at_node node (step.Jump p) ∷ []),
      sg.even (p + 1) (end_of p),
      sb.even (p + 1 + g.size) (end_of p) (cont_of p),
      sp.even (cont_of p),
    )

    pub sim_loop : SimStmt (st.loop rs None test body part) (c.loop_body node g cb cp)
    unfolding st.loop
    sim_loop = record {
      even = loop_even;
      leads = λ p end brk cont catch r he h.
          let he2 : end_of p ≡ end = omega (arith, he) in
          subst (λ x. Leading (here p r) (and_then (st.turns rs None test body part (suc r.left) r) (go_to x brk cont catch)))
          he2 (all_turns p brk cont catch (laid p brk cont h) (suc r.left) r);
    }

-- ---- a loop that is begun at its body
module _ (ir : Ir) (rs : List Reading) (f : ℕ) (fn : IrFunction) (is : slice_get ir.functions f ≡ Some fn) (first : ℕ)
    (below : List Frame) where
  abbrev at_ : ℕ → Run → Outcome Control
  at_ p r = Went (At f p first [] below) r

  do_after : (test : Action Bool) (body : Action Flow) (g : Guard) (cb : Body) (node : ℕ)
      (sg : SimGuard ir rs f fn is first below test g) (sb : SimStmt ir rs f fn is first below body cb)
      (p brk cont catch : ℕ) (l : Laid ir rs f fn is first below test body (pure tt) g cb c.no_part node sg sb
      (sim_no_part ir rs f fn is first below) p) (w : Flow) (q : Run)
      → Leads ir rs (go_to ir rs f fn is first below (p + 1 + g.size + cb.size) (p + 1 + g.size + cb.size + 0 + 1)
      (p + 1 + g.size + cb.size) catch w q)
      (and_then (st.after_body w (st.loop rs None test body (pure tt)) q)
      (go_to ir rs f fn is first below (p + 1 + g.size + cb.size + 0 + 1) brk cont catch))
  unfolding st.loop
  do_after test body g cb node sg sb p brk cont catch l Normal q =
      again ir rs f fn is first below test body (pure tt) g cb c.no_part node sg sb
      (sim_no_part ir rs f fn is first below) p brk cont catch l (suc q.left)
      (all_turns ir rs f fn is first below test body (pure tt) g cb c.no_part node sg sb
      (sim_no_part ir rs f fn is first below) p brk cont catch l (suc q.left)) q
  do_after test body g cb node sg sb p brk cont catch l Break q = leads_same ir rs (at_ (p + 1 + g.size + cb.size + 0 + 1) q)
  do_after test body g cb node sg sb p brk cont catch l Continue q =
      again ir rs f fn is first below test body (pure tt) g cb c.no_part node sg sb
      (sim_no_part ir rs f fn is first below) p brk cont catch l (suc q.left)
      (all_turns ir rs f fn is first below test body (pure tt) g cb c.no_part node sg sb
      (sim_no_part ir rs f fn is first below) p brk cont catch l (suc q.left)) q
  do_after test body g cb node sg sb p brk cont catch l (Return v) q = leads_same ir rs (m.left v below q)
  do_after test body g cb node sg sb p brk cont catch l Caught q = leads_same ir rs (at_ catch q)

  pub sim_do : (test : Action Bool) (body : Action Flow) (g : Guard) (cb : Body) (node : ℕ)
      → SimGuard ir rs f fn is first below test g → SimStmt ir rs f fn is first below body cb
      → SimStmt ir rs f fn is first below (body >>= λ w. st.after_body w (st.loop rs None test body (pure tt)))
      (c.do_body node g cb)
  unfolding st.loop
  sim_do test body g cb node sg sb =
      let sp = sim_no_part ir rs f fn is first below in
      record {
        even = λ p brk cont. ap suc (loop_even ir rs f fn is first below test body (pure tt) g cb c.no_part node sg sb sp
            (p + 1) brk cont) ∙ omega arith;
        leads = λ p end brk cont catch r he h.
            let l = laid ir rs f fn is first below test body (pure tt) g cb c.no_part node sg sb sp (p + 1) brk cont h.1 in
            let he2 : end_of ir rs f fn is first below test body (pure tt) g cb c.no_part node sg sb sp (p + 1) ≡ end
            = omega (arith, he) in
            let co = cont_of ir rs f fn is first below test body (pure tt) g cb c.no_part node sg sb sp (p + 1) in
            let eo = end_of ir rs f fn is first below test body (pure tt) g cb c.no_part node sg sb sp (p + 1) in
            let done : Leads ir rs (at_ p r) (and_then
            (and_then (body r) (λ w. st.after_body w (st.loop rs None test body (pure tt))))
            (go_to ir rs f fn is first below eo brk cont catch)) =
            leads_by ir rs _ _ _ (one_step ir rs f fn is first below p node (step.Jump (p + 1 + 1 + g.size)) [] r
            (pure (At f (p + 1 + 1 + g.size) first [] below)) h.0 refl)
            (leads_by ir rs _ _ _ (sb.leads (p + 1 + 1 + g.size) co eo co catch r refl l.at_body)
            (chain ir rs (body r) (λ w. st.after_body w (st.loop rs None test body (pure tt)))
            (go_to ir rs f fn is first below eo brk cont catch) (go_to ir rs f fn is first below co eo co catch)
            (λ w q. do_after test body g cb node sg sb (p + 1) brk cont catch l w q))) in
            subst (λ x. Leads ir rs (at_ p r) (and_then
            (and_then (body r) (λ w. st.after_body w (st.loop rs None test body (pure tt))))
            (go_to ir rs f fn is first below x brk cont catch))) he2 done;
      }

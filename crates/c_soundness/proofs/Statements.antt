-- What a lawful statement does from runs that stand: they go on standing, and what it returns has the shape of the result.
use Rattle.std.proofs.Common.{◌++◌, ◌<◌, ◌≡◌, ℕ, zero, suc, ◌+◌, ◌≤◌, ℤ, Bool, true, false, cond, List, [], ◌∷◌, map, slice_get, Option, Some, None, sym, ap, subst, ◌∙◌, rules, arith}
use Rattle.std.proofs.lemmas.Option.{slice_get-map}
use Rattle.base16.specs.declared.image.Kind.{Kind}
use Rattle.base16.specs.declared.reading.Reading.{Reading}
use Rattle.core_tree.specs.declared.types.Ty.{Ty}
use Rattle.core_tree.specs.declared.types.Ty.TheVariants as ty
use Rattle.core_tree.specs.declared.types.Slot.{Slot}
use Rattle.core_tree.specs.declared.expressions.Expr.{Expr}
use Rattle.core_tree.specs.declared.expressions.Place.{Place}
use Rattle.core_tree.specs.declared.statements.Stmt.{Stmt}
use Rattle.core_tree.specs.declared.statements.Group.{Group, fold-Group, out-Group}
use Rattle.core_tree.specs.declared.statements.Group as the_group
use Rattle.core_tree.specs.declared.statements.StmtKind.{StmtKind, roll-StmtKind, map-StmtKind, the_lemmas}
use Rattle.core_tree.specs.declared.statements.StmtKind.TheOpen.{StmtKind-F}
use Rattle.core_tree.specs.declared.statements.StmtKind.TheVariants as k
use Rattle.core_tree.specs.declared.statements.Init.{Init}
use Rattle.core_tree.specs.declared.program.Core.{Core}
use Rattle.core_tree.specs.declared.program.Function.{Function}
use Rattle.core_tree.specs.Layout.{layout, kind_of, int_type_of}
use Rattle.core_tree.specs.Numbers.{expr_numbers, place_numbers, init_numbers, stmt_numbers}
use Rattle.core_tree.specs.Reaching.{joined, some_of}
use Rattle.core_tree.specs.Lawful.{Scope, IsExpr, IsPlace}
use Rattle.core_tree.specs.LawfulCore.{Every, OnSome, IsObject, scalar_types, Text, in_loop, in_switch, in_block, IsTest, AreInits, Initialised, IsNamed, IsStmt, AreStmts, AreGroups}
use Rattle.c_values.specs.declared.value.Value.{Value}
use Rattle.c_values.specs.declared.value.Value.TheVariants.{Undefined}
use Rattle.c_values.specs.Objects.{kind_at}
use Rattle.c_values.specs.Pointers.{at}
use Rattle.c_values.specs.Values.{integer, numbered, zero_of}
use Rattle.c_run.specs.declared.timed.Timed.{Timed}
use Rattle.c_run.specs.Runs.{Run, Action, ◌>>=◌, pure, given}
use Rattle.c_run.specs.Actions.{stamped, timely, open_block, close_block}
use Rattle.c_meaning.specs.Meaning.{Calls, tested}
use Rattle.c_meaning.specs.Stamps.{timed_at}
use Rattle.c_meaning.specs.declared.flow.Flow.{Flow}
use Rattle.c_meaning.specs.declared.flow.Flow.TheVariants.{Normal, Break, Continue, Return, Caught}
use Rattle.c_meaning.specs.Statements.{Text as Block, Step, Labelled, then_flow, in_order, or_nothing, after_body, turn, turns, loop, has_case, has_default, from_group, acts, or_default, selected, broken_out, optional, caught_unless, at_end, run_expr, run_place, run_test, loop_test, loop_step, init_value, initialised, declared, named, stmt_layer, stmt_kind, stmt, stmts}
use Rattle.c_meaning.proofs.StmtEquations.{stmt-Expr, stmt-Block, stmt-If, stmt-While, stmt-Do, stmt-Break, stmt-Continue, stmt-Return-None, stmt-Return-Some, stmt-Declare, stmt-For}
use Rattle.c_soundness.specs.Shapes.{Has, HaveAll, IsAt, MayStand, holds_pointer}
use Rattle.c_soundness.specs.Standing.{Kinds, Frame, FrameStands, Stands}
use Rattle.c_soundness.proofs.Triples.{Granted, Any, Triple, Keeps, t_then, t_seq, t_pure, t_weak, t_from, t_given, t_asked, t_if, granted_weak, sound_weak}
use Rattle.c_soundness.proofs.Operators.{granted_truth, granted_integer, numbered_integer, granted_present, zero_stands}
use Rattle.c_soundness.proofs.Types.{has_num, has_stands, missing_has}
use Rattle.c_soundness.proofs.Cells.{found_kind}
use Rattle.c_soundness.proofs.Actions.{t_any, lower, falls_mark, t_store_kind, t_stamped, t_timely, falls_open, falls_check, falls_close, t_cleared}
use Rattle.c_soundness.proofs.Numbers.{stmt_kind_numbers, group_numbers}
use Rattle.c_soundness.proofs.Numbers as nums
use Rattle.c_soundness.proofs.Expressions.{KindsAre, Whole, t_is, AllBelow, own_is, own_parts, expr_does, place_does}

-- ---- what statements do, one equation each of those that have none below

module _ (K : Core) (R : List Reading) (C : Calls) (F : ℕ) where
  abbrev group_meant : Group → Labelled
  group_meant = fold-Group (ℕ → Step) Labelled Step (stmt_layer K R C F)
      (λ g. record { labels = g.labels; act = in_order g.body }) (λ s. s.kind s.node)

  group_is : (g : Group) → group_meant g ≡ record { labels = (out-Group g).labels; act = stmts K R C F (out-Group g).body }
  group_is g = search (rules, the_group.the_lemmas)

  stmt-Switch : (on : Expr) (gs : List Group) (n : ℕ) (text : Block) → stmt_kind K R C F (k.Switch on gs) n text
      ≡ run_expr K R C F on >>= λ v. given n (integer (numbered (int_type_of on.ty) v)) >>= λ z. in_order
      (selected z (map group_meant gs)) text >>= λ f. pure (broken_out f)
  stmt-Switch on gs n text = search (rules, the_lemmas)

  stmt-Stamped : (p : Place) (e : Expr) (n : ℕ) (text : Block) → stmt_kind K R C F (k.Stamped p e) n text
      ≡ run_place K R C F p >>= λ l. run_expr K R C F e >>= λ v. stamped R n l (kind_of p.ty)
      (timed_at K l).stamp v >>= λ _. pure Normal
  stmt-Stamped p e n text = search (rules, the_lemmas)

  stmt-Timely : (p : Place) (limit : ℕ) (one : Stmt) (other : Option Stmt) (n : ℕ) (text : Block) → stmt_kind K R C F
      (k.Timely p limit one other) n text
      ≡ run_place K R C F p >>= λ l. timely R n l (kind_of p.ty) (timed_at K l).stamp limit >>= λ x. cond x
      (stmt K R C F one text) (or_nothing (stmt K R C F) other text)
  stmt-Timely p limit one other n text = search (rules, the_lemmas)

  unrolled : (z : StmtKind-F StmtKind Group Stmt) → stmt_kind K R C F (roll-StmtKind z)
      ≡ stmt_layer K R C F (map-StmtKind StmtKind Group Stmt (ℕ → Step) Labelled Step (stmt_kind K R C F) group_meant
      (stmt K R C F) z)
  unrolled z = search (rules, the_lemmas)

  rolled : (names : List Place) (inner caught : List Stmt) → roll-StmtKind (StmtKind-F.Expires names inner caught)
      ≡ k.Expires names inner caught
  rolled names inner caught = search (rules, the_lemmas)

  stmt-Expires : (names : List Place) (inner caught : List Stmt) (n : ℕ) (text : Block) → stmt_kind K R C F
      (k.Expires names inner caught) n text
      ≡ named K R C F names >>= λ ts. open_block R ts >>= λ is_open. cond is_open
      (stmts K R C F inner (Some ts) >>= λ f. at_end R ts f (stmts K R C F caught text)) (stmts K R C F caught text)
  stmt-Expires names inner caught n text =
      ap (λ (kind : StmtKind). stmt_kind K R C F kind n text) (sym (rolled names inner caught))
      ∙ ap (λ (act : ℕ → Step). act n text) (unrolled (StmtKind-F.Expires names inner caught))

-- ---- fewer marks

pub stands_lower : (frames : List Frame) (b c : ℕ) (r : Run) → b ≤ c → Stands frames b r → Stands frames c r
stands_lower frames b c r h w = record { kinds = w.kinds; by = lower b c r h w.by }

pub stands_left : (frames : List Frame) (b : ℕ) (r : Run) → Stands frames b r → Stands frames (suc r.left) r
stands_left frames b r w = record { kinds = w.kinds; by = record { state = w.by.state; calls = w.by.calls; left = omega arith } }

-- what makes a mark
pub from_fall : {A : Type 0} {many : ℕ} {P : A → Type 0} {frames : List Frame} {b : ℕ} {p : Action A}
    → Triple many (Stands frames (suc b)) (Stands frames b) P p → Keeps many (Stands frames b) P p
from_fall {frames} {b} h = t_from (λ r w. stands_lower frames b (suc b) r (omega arith) w) h

pub no_left : {A : Type 0} {many : ℕ} {W : Run → Type 0} {P : A → Type 0} {p : Action A} (frames : List Frame) → Triple many
    (Stands frames zero) W P p
no_left frames = record { runs = λ r w. absurd (omega (arith, w.by.left)) }

pub up_one : {A : Type 0} {many : ℕ} {V : Run → Type 0} {P : A → Type 0} {frames : List Frame} {b : ℕ} {p : Action A}
    → Triple many V (Stands frames b) P p → Triple many V (Stands frames (suc b)) P p
up_one {frames} {b} h = t_weak (λ a i. i) (λ r w. stands_lower frames b (suc b) r (omega arith) w) h

-- ---- loops

module _ (many : ℕ) (frames : List Frame) (P : Flow → Type 0) (normal : P Normal) (caught : P Caught) where
  t_turn : (R : List Reading) (text : Block) (b : ℕ) → Triple many (Stands frames (suc b)) (Stands frames b) Any (turn R text)
  t_turn R None b = t_seq (t_any (λ kinds. falls_mark b)) (t_pure true tt)
  t_turn R (Some names) b = t_any (λ kinds. falls_check b R names)

  t_after : {W : Run → Type 0} (f : Flow) {p : Action Flow} → P f → Keeps many W P p → Keeps many W P (after_body f p)
  t_after Normal h i = i
  t_after Continue h i = i
  t_after Break h i = t_pure Normal normal
  t_after (Return v) h i = t_pure (Return v) h
  t_after Caught h i = t_pure Caught h

  module _ (R : List Reading) (text : Block) (test : Action Bool) (body : Action Flow) (step : Action (Unit {0})) (u : ℕ)
      (tests : (b : ℕ) → b ≤ u → Keeps many (Stands frames b) Any test)
      (bodies : (b : ℕ) → b ≤ u → Keeps many (Stands frames b) P body)
      (steps : (b : ℕ) → b ≤ u → Keeps many (Stands frames b) Any step) where
    t_turns : (n b : ℕ) → b ≤ n → b ≤ u → Keeps many (Stands frames b) P (turns R text test body step n)
    unfolding turns
    t_turns zero zero le at_u = no_left frames
    t_turns zero (suc c) le at_u = absurd (omega (arith, le))
    t_turns (suc n) zero le at_u = no_left frames
    t_turns (suc n) (suc c) le at_u =
        up_one (t_then (t_turn R text c) (λ fine _. t_if fine
        (t_then (tests c (omega (arith, at_u))) (λ more _. t_if more
        (t_then (bodies c (omega (arith, at_u))) (λ f h. t_after f h
        (t_seq (steps c (omega (arith, at_u))) (t_turns n c (omega (arith, le)) (omega (arith, at_u))))))
        (t_pure Normal normal)))
        (t_pure Caught caught)))

    -- one more turn than the marks that are left are enough
    pub t_loop : (b : ℕ) → b ≤ u → Keeps many (Stands frames b) P (loop R text test body step)
    unfolding loop
    t_loop b at_u = record {
      runs = λ r w.
          let l : suc r.left ≤ b = omega (arith, w.by.left) in
          sound_weak (λ a i. i) (λ q v. stands_lower frames (suc r.left) b q l v)
          ((t_turns (suc r.left) (suc r.left) (omega arith) (omega (arith, l, at_u))).runs r (stands_left frames b r w));
    }

-- ---- statements

-- what stands in a place that `@expires` names
named_place : (s : Scope) (p : Place) → IsNamed s p → (t : Ty) × IsPlace s p t
named_place s _ (IsNamed.unchecked p e i) = (p.ty, i)
named_place s _ (IsNamed.variable p n t i e timed) = (ty.Num t, i)
named_place s _ (IsNamed.indexed p of e n t count m i a b c d l timed) = (ty.Num t, i)

place_type : (s : Scope) (p : Place) (t : Ty) → IsPlace s p t → p.ty ≡ t
place_type s _ _ (IsPlace.is_place p t e has) = e

-- what a statement returns has the shape of the function's result
abbrev pub LeavesWith : Core → Ty → Flow → Type 0
LeavesWith K result Normal = Unit {0}
LeavesWith K result Break = Unit {0}
LeavesWith K result Continue = Unit {0}
LeavesWith K result (Return v) = Has K result v
LeavesWith K result Caught = Unit {0}

-- a text of a function with these objects and this result
pub record Within (K : Core) (objects : List Ty) (result : Ty) (x : Text) : Type 0 where
  pub same : x.scope.core ≡ K
  pub same_objects : x.scope.objects ≡ objects
  pub same_result : x.result ≡ result

module _ {K : Core} {objects : List Ty} {result : Ty} where
  looped : (x : Text) → Within K objects result x → Within K objects result (in_loop x)
  looped x h = record { same = h.same; same_objects = h.same_objects; same_result = h.same_result }

  switched : (x : Text) → Within K objects result x → Within K objects result (in_switch x)
  switched x h = record { same = h.same; same_objects = h.same_objects; same_result = h.same_result }

  blocked : (x : Text) → Within K objects result x → Within K objects result (in_block x)
  blocked x h = record { same = h.same; same_objects = h.same_objects; same_result = h.same_result }

module _ (many : ℕ) (K : Core) (whole : Whole K) (R : List Reading) (C : Calls) (F : ℕ) (objects : List Ty) (result : Ty)
    (locals : (n : ℕ) (t : Ty) → slice_get objects n ≡ Some t → IsObject K t) (outer : List Frame) (u : ℕ) where
  abbrev slots_of : Ty → List Slot
  slots_of t = (layout K.structs t).slots

  abbrev here : Frame
  here = record { first = F; objects = map slots_of objects }

  abbrev frames : List Frame
  frames = here ∷ outer

  abbrev Leaves : Flow → Type 0
  Leaves = LeavesWith K result

  abbrev In : Text → Type 0
  In x = Within K objects result x

  module _ (called : (b : ℕ) → b ≤ u → (n : ℕ) (f : Function) (vs : List Value) → slice_get K.functions n ≡ Some f
      → HaveAll K f.params vs
      → Keeps many (Stands frames b) (Has K f.result) (C n vs)) where
    abbrev Own : List ℕ → Type 0
    Own ns = AllBelow many ns

    abbrev Does : {A : Type 0} → (A → Type 0) → Action A → Type 0
    Does P p = (b : ℕ) → b ≤ u → Keeps many (Stands frames b) P p

    locals_in : (x : Text) → In x → (n : ℕ) (t : Ty) → slice_get x.scope.objects n ≡ Some t → IsObject K t
    locals_in x h n t e = locals n t (subst (λ (ts : List Ty). slice_get ts n ≡ Some t) h.same_objects e)

    run_does : (x : Text) → In x → (e : Expr) (t : Ty) → IsExpr x.scope e t → Own (expr_numbers e) → Does (Has K t)
        (run_expr K R C F e)
    run_does x h e t i own b le = expr_does many K whole R C F frames b (called b le) x.scope h.same (locals_in x h) e t i own

    place_at : (x : Text) → In x → (p : Place) (t : Ty) → IsPlace x.scope p t → Own (place_numbers p) → Does (IsAt K t)
        (run_place K R C F p)
    place_at x h p t i own b le = place_does many K whole R C F frames b (called b le) x.scope h.same (locals_in x h) p t i own

    t_tested : (n : ℕ) → n < many → (t : Ty) (v : Value) → Does {A = Bool} Any (tested n t v)
    t_tested n own t v b le = t_asked n own _ (λ r w. granted_truth r.state (int_type_of t) v)

    test_does : (x : Text) → In x → (n : ℕ) → n < many → (e : Expr) → IsTest x.scope e → Own (expr_numbers e) → Does
        {A = Bool} Any (run_test K R C F n e)
    test_does x h n at_n e i own b le = t_then (run_does x h e e.ty i.typed own b le) (λ v _. t_tested n at_n e.ty v b le)

    loop_test_does : (x : Text) → In x → (n : ℕ) → n < many → (e : Option Expr) → OnSome (IsTest x.scope) e → Own
        (some_of expr_numbers e) → Does {A = Bool} Any (loop_test K R C F n e)
    loop_test_does x h n at_n None i own b le = t_pure true tt
    loop_test_does x h n at_n (Some e) i own b le = test_does x h n at_n e i own b le

    loop_step_does : (x : Text) → In x → (e : Option Expr) → OnSome (λ (y : Expr). IsExpr x.scope y y.ty) e
        → Own (some_of expr_numbers e) → Does {A = Unit {0}} Any (loop_step K R C F e)
    loop_step_does x h None i own b le = t_pure tt tt
    loop_step_does x h (Some e) i own b le = t_then (run_does x h e e.ty i own b le) (λ _ _. t_pure tt tt)

    t_flow : {W : Run → Type 0} (f : Flow) {p : Action Flow} → Leaves f → Keeps many W Leaves p → Keeps many W Leaves
        (then_flow f p)
    t_flow Normal h i = i
    t_flow Break h i = t_pure Break h
    t_flow Continue h i = t_pure Continue h
    t_flow (Return v) h i = t_pure (Return v) h
    t_flow Caught h i = t_pure Caught h

    leaves_out : (f : Flow) → Leaves f → Leaves (broken_out f)
    leaves_out Normal h = h
    leaves_out Break h = tt
    leaves_out Continue h = h
    leaves_out (Return v) h = h
    leaves_out Caught h = h

    -- ---- blocks

    t_unless : {W : Run → Type 0} (fine : Bool) {p : Action Flow} → Keeps many W Leaves p → Keeps many W Leaves
        (caught_unless fine p)
    t_unless fine h = t_if fine (t_pure Normal tt) h

    t_close : (ts : List Timed) → Does {A = Bool} Any (close_block R ts)
    t_close ts b le = from_fall (t_any (λ kinds. falls_close b R ts))

    t_end : (ts : List Timed) (f : Flow) (p : Action Flow) → Does Leaves p → Does Leaves (at_end R ts f p)
    t_end ts Caught p h b le = h b le
    t_end ts Normal p h b le = t_then (t_close ts b le) (λ fine _. t_unless fine (h b le))
    t_end ts Break p h b le = t_then (t_close ts b le) (λ fine _. t_unless fine (h b le))
    t_end ts Continue p h b le = t_then (t_close ts b le) (λ fine _. t_unless fine (h b le))
    t_end ts (Return v) p h b le = t_then (t_close ts b le) (λ fine _. t_unless fine (h b le))

    named_does : (x : Text) → In x → (ps : List Place) → Every (IsNamed x.scope) ps → Own (joined (map place_numbers ps)) → Does
        {A = List Timed} Any (named K R C F ps)
    named_does x h [] i own b le = t_pure [] tt
    named_does x h (p ∷ ps) i own b le =
        let w = named_place x.scope p i.0 in
        let parts = own_parts many (place_numbers p) (joined (map place_numbers ps)) own in
        t_then (place_at x h p w.0 w.1 parts.0 b le) (λ l _. t_then (named_does x h ps i.1 parts.1 b le)
        (λ ts _. t_pure (timed_at K l ∷ ts) tt))

    -- ---- declarations

    init_does : (x : Text) → In x → (t : Ty) (e : Option Expr) → OnSome (λ (y : Expr). IsExpr x.scope y t) e
        → Own (some_of expr_numbers e) → Does (OnSome (Has K t)) (init_value K R C F e)
    init_does x h t None i own b le = t_pure None tt
    init_does x h t (Some e) i own b le = t_then (run_does x h e t i own b le) (λ v j. t_pure (Some v) j)

    stored_fits : (t : Ty) (kind : Kind) (slot : Slot) (v : Option Value) → holds_pointer slot.kind ≡ holds_pointer (kind_of t)
        → holds_pointer kind ≡ holds_pointer slot.kind → OnSome (Has K t) v → MayStand (holds_pointer kind)
        (optional (zero_of kind) v)
    stored_fits t kind slot None e g h = zero_stands kind
    stored_fits t kind slot (Some v) e g h = subst (λ (p : Bool). MayStand p v) (sym (g ∙ e)) (has_stands K t v h)

    abbrev Known : ℕ → List Slot → Type 0
    Known n slots = (kinds : Kinds) (next : ℕ) → FrameStands kinds next here → Every
        (λ (s : Slot). kinds (F + n) s.offset ≡ holds_pointer s.kind) slots

    inits_do : (x : Text) → In x → (node : ℕ) → node < many → (n : ℕ) (t : Ty) (slots : List Slot) (ts : List Ty) (is : List Init)
        → AreInits x.scope t slots ts is
        → KindsAre slots ts → Known n slots → Own (joined (map init_numbers is)) → Does {A = Unit {0}} Any
        (initialised K R C F node (F + n) is)
    inits_do x h node at_node n t [] [] [] i fit known own b le = t_pure tt tt
    inits_do x h node at_node n t (s ∷ ss) (u ∷ us) (i ∷ is) ok fit known own b le =
        let one = ok.0 in
        let parts = own_parts many (init_numbers i) (joined (map init_numbers is)) own in
        t_then (init_does x h u i.value one.1 parts.0 b le) (λ v g.
        t_then (t_asked {P = λ (kind : Kind). holds_pointer kind ≡ holds_pointer s.kind} node at_node _ (λ r w.
        subst (λ (o : ℕ). Granted (λ (kind : Kind). holds_pointer kind ≡ holds_pointer s.kind) (kind_at r.state (F + n) o))
        (sym one.0)
        (granted_weak (kind_at r.state (F + n) s.offset) (λ kind e. e ∙ (known w.kinds r.next w.by.calls.0).0)
        (found_kind w.kinds r.next (F + n) s.offset r.state w.by.state)))) (λ kind e.
        t_seq (t_any (λ kinds. t_store_kind node at_node (at (F + n) i.offset) kind (optional (zero_of kind) v) i.marked
        (stored_fits u kind s v fit.0 e g)))
        (inits_do x h node at_node n t ss us is ok.1 fit.1 (λ kinds next f. (known kinds next f).1) parts.1 b le)))
    inits_do x h node at_node n t [] (u ∷ us) is ok fit known own b le = absurd fit
    inits_do x h node at_node n t (s ∷ ss) [] is ok fit known own b le = absurd fit
    inits_do x h node at_node n t [] [] (i ∷ is) ok fit known own b le = absurd ok
    inits_do x h node at_node n t (s ∷ ss) (u ∷ us) [] ok fit known own b le = absurd ok

    frame_known : (n : ℕ) (t : Ty) → slice_get objects n ≡ Some t → Known n (slots_of t)
    frame_known n t e kinds next f = f.slots n (slots_of t) (slice_get-map slots_of objects n ∙ ap
        (λ (o : Option Ty). map_some o) e)
      where
        map_some : Option Ty → Option (List Slot)
        map_some None = None
        map_some (Some t) = Some (slots_of t)

    initialised_does : (x : Text) → In x → (node : ℕ) → node < many → (n : ℕ) (t : Ty) (is : List Init) → slice_get objects n
        ≡ Some t
        → AreInits x.scope t (layout x.scope.core.structs t).slots (scalar_types x.scope.core t) is
        → Own (joined (map init_numbers is)) → Does {A = Unit {0}} Any (initialised K R C F node (F + n) is)
    initialised_does x h node at_node n t is e ok own b le =
        inits_do x h node at_node n t (slots_of t) (scalar_types K t) is
        (subst (λ (core : Core). AreInits x.scope t (layout core.structs t).slots (scalar_types core t) is) h.same ok)
        (whole.kinds t) (frame_known n t e) own b le

    declared_does : (x : Text) → In x → (node : ℕ) → node < many → (n : ℕ) (t : Ty) (is : List Init) → slice_get objects n
        ≡ Some t → Initialised x.scope t is
        → Own (joined (map init_numbers is)) → Does {A = Unit {0}} Any (declared K R C F node (F + n) is)
    declared_does x h node at_node n t [] e ok own b le = t_any (λ kinds. t_cleared (F + n))
    declared_does x h node at_node n t (i ∷ is) e ok own b le = initialised_does x h node at_node n t (i ∷ is) e ok own b le

    -- ---- groups of a switch

    abbrev Acts : Step → Type 0
    Acts act = (text : Block) → Does Leaves (act text)

    abbrev AllAct : List Labelled → Type 0
    AllAct gs = Every (λ (g : Labelled). Acts g.act) gs

    from_if : (b : Bool) (gs hs : List Labelled) → AllAct gs → AllAct hs → AllAct (cond b gs hs)
    from_if true gs hs h i = h
    from_if false gs hs h i = i

    from_act : (p : List (Option ℤ) → Bool) (gs : List Labelled) → AllAct gs → AllAct (from_group p gs)
    from_act p [] h = tt
    from_act p (g ∷ gs) h = from_if (p g.labels) (g ∷ gs) (from_group p gs) h (from_act p gs h.1)

    acts_do : (gs : List Labelled) → AllAct gs → Acts (in_order (acts gs))
    acts_do [] h text b le = t_pure Normal tt
    acts_do (g ∷ gs) h text b le = t_then (h.0 text b le) (λ f i. t_flow f i (acts_do gs h.1 text b le))

    default_act : (found gs : List Labelled) → AllAct found → AllAct gs → AllAct (or_default found gs)
    default_act [] gs h i = from_act has_default gs i
    default_act (g ∷ found) gs h i = h

    selected_do : (z : ℤ) (gs : List Labelled) → AllAct gs → Acts (in_order (selected z gs))
    selected_do z gs h = acts_do _ (default_act (from_group (has_case z) gs) gs (from_act (has_case z) gs h) h)

    -- ---- every statement

    abbrev StmtDoes : StmtKind → Type 0
    StmtDoes kind = (n : ℕ) (text : Block) → Own (stmt_kind_numbers kind n) → Does Leaves (stmt_kind K R C F kind n text)

    mutual
      stmt_does : (x : Text) (kind : StmtKind) → IsStmt x kind → In x → StmtDoes kind
      stmt_does _ _ (IsStmt.expression x e i) h n text mine b le =
          let all = own_is many (nums.stmt-Expr e n) mine in
          t_is (stmt-Expr K R C F e n text) (t_then (run_does x h e e.ty i all.1 b le) (λ _ _. t_pure Normal tt))
      stmt_does _ _ (IsStmt.block x ss i) h n text mine b le =
          let all = own_is many (nums.stmt-Block ss n) mine in
          t_is (stmt-Block K R C F ss n text) (stmts_do x ss i h all.1 text b le)
      stmt_does _ _ (IsStmt.if x test one i j) h n text mine b le =
          let all = own_is many (nums.stmt-If test one n) mine in
          let parts = own_parts many (expr_numbers test ++ stmt_numbers one) [] all.1 in
          let more = own_parts many (expr_numbers test) (stmt_numbers one) parts.0 in
          t_is (stmt-If K R C F test one None n text) (t_then (test_does x h n all.0 test i more.0 b le) (λ y _.
          t_if y (stmt_does x one.kind j h one.node text more.1 b le) (t_pure Normal tt)))
      stmt_does _ _ (IsStmt.if_else x test one other i j l) h n text mine b le =
          let all = own_is many (nums.stmt-Else test one other n) mine in
          let parts = own_parts many (expr_numbers test ++ stmt_numbers one) (stmt_numbers other) all.1 in
          let more = own_parts many (expr_numbers test) (stmt_numbers one) parts.0 in
          t_is (stmt-If K R C F test one (Some other) n text) (t_then (test_does x h n all.0 test i more.0 b le) (λ y _.
          t_if y (stmt_does x one.kind j h one.node text more.1 b le) (stmt_does x other.kind l h other.node text parts.1 b le)))
      stmt_does _ _ (IsStmt.while x test body i j) h n text mine b le =
          let all = own_is many (nums.stmt-While test body n) mine in
          let parts = own_parts many (expr_numbers test) (stmt_numbers body) all.1 in
          t_is (stmt-While K R C F test body n text)
          (t_loop many frames Leaves tt tt R text _ _ _ u (λ c m. test_does x h n all.0 test i parts.0 c m)
          (λ c m. stmt_does (in_loop x) body.kind j (looped x h) body.node text parts.1 c m) (λ c m. t_pure tt tt) b le)
      stmt_does _ _ (IsStmt.do_while x body test j i) h n text mine b le =
          let all = own_is many (nums.stmt-Do body test n) mine in
          let parts = own_parts many (stmt_numbers body) (expr_numbers test) all.1 in
          t_is (stmt-Do K R C F test body n text)
          (t_then (stmt_does (in_loop x) body.kind j (looped x h) body.node text parts.0 b le) (λ f g.
          t_after many frames Leaves tt tt f g
          (t_loop many frames Leaves tt tt R text _ _ _ u (λ c m. test_does x h n all.0 test i parts.1 c m)
          (λ c m. stmt_does (in_loop x) body.kind j (looped x h) body.node text parts.0 c m) (λ c m. t_pure tt tt) b le)))
      stmt_does _ _ (IsStmt.for x test step body i j l) h n text mine b le =
          let all = own_is many (nums.stmt-For test step body n) mine in
          let parts = own_parts many (some_of expr_numbers test ++ some_of expr_numbers step) (stmt_numbers body) all.1 in
          let more = own_parts many (some_of expr_numbers test) (some_of expr_numbers step) parts.0 in
          t_is (stmt-For K R C F None test step body n text) (t_then (t_pure Normal tt) (λ f g.
          t_flow f g (t_loop many frames Leaves tt tt R text _ _ _ u (λ c m. loop_test_does x h n all.0 test i more.0 c m)
          (λ c m. stmt_does (in_loop x) body.kind l (looped x h) body.node text parts.1 c m)
          (λ c m. loop_step_does x h step j more.1 c m) b le)))
      stmt_does _ _ (IsStmt.for_first x first test step body a o i j l) h n text mine b le =
          let all = own_is many (nums.stmt-First first test step body n) mine in
          let parts = own_parts many (stmt_numbers first ++ some_of expr_numbers test ++ some_of expr_numbers step)
          (stmt_numbers body) all.1 in
          let more = own_parts many (stmt_numbers first ++ some_of expr_numbers test) (some_of expr_numbers step) parts.0 in
          let front = own_parts many (stmt_numbers first) (some_of expr_numbers test) more.0 in
          t_is (stmt-For K R C F (Some first) test step body n text)
          (t_then (stmt_does x first.kind o h first.node text front.0 b le) (λ f g.
          t_flow f g (t_loop many frames Leaves tt tt R text _ _ _ u (λ c m. loop_test_does x h n all.0 test i front.1 c m)
          (λ c m. stmt_does (in_loop x) body.kind l (looped x h) body.node text parts.1 c m)
          (λ c m. loop_step_does x h step j more.1 c m) b le)))
      stmt_does _ _ (IsStmt.switch x on groups t computed i apart values j) h n text mine b le =
          let all = own_is many (nums.stmt-Switch on groups n) mine in
          let parts = own_parts many (expr_numbers on) (joined (map group_numbers groups)) all.1 in
          t_is (stmt-Switch K R C F on groups n text) (t_then (run_does x h on (ty.Num t) i parts.0 b le) (λ v g.
          t_then (t_given {P = Any} n all.0 _ (granted_integer _ (numbered_integer (int_type_of on.ty) v (has_num K t v g))))
          (λ z _.
          t_then (selected_do z _ (groups_do (in_switch x) groups j (switched x h) parts.1) text b le) (λ f o.
          t_pure (broken_out f) (leaves_out f o)))))
      stmt_does _ _ (IsStmt.break x i) h n text mine b le = t_is (stmt-Break K R C F n text) (t_pure Break tt)
      stmt_does _ _ (IsStmt.continue x i) h n text mine b le = t_is (stmt-Continue K R C F n text) (t_pure Continue tt)
      stmt_does _ _ (IsStmt.returned x i free) h n text mine b le =
          t_is (stmt-Return-None K R C F n text) (t_pure (Return Undefined) (missing_has K result))
      stmt_does _ _ (IsStmt.returned_value x e i scalar free) h n text mine b le =
          let all = own_is many (nums.stmt-Return e n) mine in
          t_is (stmt-Return-Some K R C F e n text) (t_then (run_does x h e x.result i all.1 b le) (λ v g.
          t_then (t_given n all.0 _ (granted_present (Has K x.result) v g)) (λ w o.
          t_pure (Return w) (subst (λ (t : Ty). Has K t w) h.same_result o))))
      stmt_does _ _ (IsStmt.stamped x p e t i j scalar free timed) h n text mine b le =
          let is : p.ty ≡ t = place_type x.scope p t i in
          let all = own_is many (nums.stmt-Stamped p e n) mine in
          let parts = own_parts many (place_numbers p) (expr_numbers e) all.1 in
          t_is (stmt-Stamped K R C F p e n text) (t_then (place_at x h p t i parts.0 b le) (λ l at.
          t_then (run_does x h e t j parts.1 b le) (λ v g.
          t_then (t_any (λ kinds. t_stamped K R n all.0 l p.ty (timed_at K l).stamp v (subst (λ (w : Ty). Has K w v) (sym is) g)))
          (λ _ _. t_pure Normal tt))))
      stmt_does _ _ (IsStmt.timely x p limit one i j) h n text mine b le =
          let all = own_is many (nums.stmt-Timely p limit one n) mine in
          let parts = own_parts many (place_numbers p ++ stmt_numbers one) [] all.1 in
          let more = own_parts many (place_numbers p) (stmt_numbers one) parts.0 in
          t_is (stmt-Timely K R C F p limit one None n text) (t_then (place_at x h p p.ty i.place more.0 b le) (λ l at.
          t_then (t_any (λ kinds. t_timely K R n all.0 l p.ty (timed_at K l).stamp limit at)) (λ y _.
          t_if y (stmt_does x one.kind j h one.node text more.1 b le) (t_pure Normal tt))))
      stmt_does _ _ (IsStmt.timely_else x p limit one other i j o) h n text mine b le =
          let all = own_is many (nums.stmt-Late p limit one other n) mine in
          let parts = own_parts many (place_numbers p ++ stmt_numbers one) (stmt_numbers other) all.1 in
          let more = own_parts many (place_numbers p) (stmt_numbers one) parts.0 in
          t_is (stmt-Timely K R C F p limit one (Some other) n text) (t_then (place_at x h p p.ty i.place more.0 b le) (λ l at.
          t_then (t_any (λ kinds. t_timely K R n all.0 l p.ty (timed_at K l).stamp limit at)) (λ y _.
          t_if y (stmt_does x one.kind j h one.node text more.1 b le) (stmt_does x other.kind o h other.node text parts.1 b le))))
      stmt_does _ _ (IsStmt.expires x p names body caught i free j o) h n text mine b le =
          let all = own_is many (nums.stmt-Expires (p ∷ names) body caught n) mine in
          let parts = own_parts many (joined (map place_numbers (p ∷ names)) ++ joined (map stmt_numbers body))
          (joined (map stmt_numbers caught)) all.1 in
          let more = own_parts many (joined (map place_numbers (p ∷ names))) (joined (map stmt_numbers body)) parts.0 in
          t_is (stmt-Expires K R C F (p ∷ names) body caught n text) (t_then (named_does x h (p ∷ names) i more.0 b le) (λ ts _.
          t_then (from_fall (t_any (λ kinds. falls_open b R ts))) (λ y _.
          t_if y (t_then (stmts_do (in_block x) body j (blocked x h) more.1 (Some ts) b le) (λ f g.
          t_end ts f _ (λ c m. stmts_do x caught o h parts.1 text c m) b le))
          (stmts_do x caught o h parts.1 text b le))))
      stmt_does _ _ (IsStmt.declared x i t init from e ok) h n text mine b le =
          let all = own_is many (nums.stmt-Declare i init n) mine in
          t_is (stmt-Declare K R C F i init n text) (t_then (declared_does x h n all.0 i t init
          (subst (λ (ts : List Ty). slice_get ts i ≡ Some t) h.same_objects e) ok all.1 b le) (λ _ _. t_pure Normal tt))

      pub stmts_do : (x : Text) (ss : List Stmt) → AreStmts x ss → In x → Own (joined (map stmt_numbers ss)) → Acts
          (stmts K R C F ss)
      stmts_do _ _ (AreStmts.no_stmts x) h own text b le = t_pure Normal tt
      stmts_do _ _ (AreStmts.one_more x s more i j) h own text b le =
          let parts = own_parts many (stmt_numbers s) (joined (map stmt_numbers more)) own in
          t_then (stmt_does x s.kind i h s.node text parts.0 b le) (λ f g. t_flow f g (stmts_do x more j h parts.1 text b le))

      groups_do : (x : Text) (gs : List Group) → AreGroups x gs → In x → Own (joined (map group_numbers gs))
          → AllAct (map (group_meant K R C F) gs)
      groups_do _ _ (AreGroups.no_groups x) h own = tt
      groups_do _ _ (AreGroups.one_group x g more some i j) h own =
          let parts = own_parts many (group_numbers g) (joined (map group_numbers more)) own in (
            (λ text b le. subst (λ (l : Labelled). Keeps many (Stands frames b) Leaves (l.act text)) (sym (group_is K R C F g))
                (stmts_do x (out-Group g).body i h (own_is many (nums.group_is g) parts.0) text b le)),
            groups_do x more j h parts.1,
          )

-- The steps of a `for` and of the groups of a `switch`, put together as they are written.
use Rattle.std.proofs.Common.{◌≡◌, ℕ, ◌+◌, ◌<◌, List, [], ◌∷◌, ◌++◌, Option, Some, None, length, get_or, drop, map, sym, ap, ◌∙◌}
use Rattle.std.proofs.Common.{arith, append_assoc, append-nil}
use Rattle.core_tree.specs.declared.types.Slot.{Slot}
use Rattle.core_tree.specs.declared.types.Struct.{Struct}
use Rattle.core_tree.specs.declared.expressions.Expr.{Expr}
use Rattle.core_tree.specs.declared.statements.Stmt.{Stmt}
use Rattle.core_tree.specs.declared.statements.StmtKind.TheVariants as k
use Rattle.core_tree.specs.declared.statements.Group.{Group, out-Group}
use Rattle.ir.specs.declared.form.Step.{Step}
use Rattle.ir.specs.declared.form.StepKind.TheVariants as step
use Rattle.ir_gen.specs.Code.{at_node}
use Rattle.ir_gen.specs.Body as b
use Rattle.ir_gen.specs.Body.{Body}
use Rattle.ir_build.specs.Grouping.{between, grouped}
use Rattle.ir_build.proofs.Joining.{loop_made, then_made}
use Rattle.ir_build.proofs.StmtEquations.{for_loop, for_none_is, for_some_is}
use Rattle.ir_build.proofs.StmtTurns.{groups_steps_turn, groups_size_turn}

module _ (S : List Struct) (O : List (List Slot)) where
  -- the loop, as it is written behind c0
  pub for_ends : (s : Stmt) (test part : Option Expr) (body b1 b2 : Stmt) (brk cont turn next end : ℕ) (c0 c1 c2 c3 : List Step)
      → b1 ≡ body → b2 ≡ body → turn ≡ length c0
      → c1 ≡ c0 ++ (at_node s.node step.Turn ∷ (b.optional_guard S O s.node test).steps (length c0 + 1) end)
      → length c1 ≡ length c0 + 1 + (b.optional_guard S O s.node test).size
      → next ≡ length c0 + 1 + (b.optional_guard S O s.node test).size + (b.stmt S O b1).size
      → end ≡ length c0 + 1 + (b.optional_guard S O s.node test).size + (b.stmt S O b1).size
      + (b.optional_part S O s.node part).size + 1
      → c2 ≡ between c1 (b.stmt S O b2) end next → length c2 ≡ length c1 + (b.stmt S O b2).size
      → c3 ≡ c2 ++ ((b.optional_part S O s.node part).steps (length c2) ++ (at_node s.node (step.Jump turn) ∷ []))
      → c3 ≡ between c0 (for_loop S O s test part body) brk cont
  for_ends s test part body b1 b2 brk cont turn next end c0 c1 c2 c3 same1 same2 is e1 l1 n e e2 l2 e3 =
      let g = b.optional_guard S O s.node test in
      let q = b.optional_part S O s.node part in
      let size1 : (b.stmt S O b1).size ≡ (b.stmt S O body).size = ap (λ (x : Stmt). (b.stmt S O x).size) same1 in
      let size2 : (b.stmt S O b2).size ≡ (b.stmt S O body).size = ap (λ (x : Stmt). (b.stmt S O x).size) same2 in
      let n2 : next ≡ length c0 + 1 + g.size + (b.stmt S O body).size = omega (arith, n, size1) in
      let end2 : end ≡ length c0 + 1 + g.size + (b.stmt S O body).size + q.size + 1 = omega (arith, e, size1) in
      let far : length c2 ≡ length c1 + (b.stmt S O body).size = omega (arith, l2, size2) in
      loop_made s.node g (b.stmt S O body) q brk cont next end c0 c1 c2 c3 e1 l1 n2 end2
      (e2 ∙ ap (λ (x : Stmt). c1 ++ (b.stmt S O x).steps (length c1) end next) same2) far
      (e3 ∙ ap (λ (m : ℕ). c2 ++ (q.steps (length c2) ++ (at_node s.node (step.Jump m) ∷ []))) is)

  pub for_none_made : (s : Stmt) (first : Option Stmt) (test part : Option Expr) (body : Stmt) (brk cont : ℕ) (c0 c3 : List Step)
      → s.kind ≡ k.For first test part body → first ≡ None → c3 ≡ between c0 (for_loop S O s test part body) brk cont
      → c3 ≡ between c0 (b.stmt S O s) brk cont
  for_none_made s first test part body brk cont c0 c3 is none e =
      then_made b.no_body (for_loop S O s test part body) brk cont c0 c0 c3 (sym (append-nil c0))
      (let z : length c0 ≡ length c0 + 0 = omega arith in z) e
      ∙ ap (λ (z : Body). between c0 z brk cont) (sym (for_none_is S O s first test part body is none))

  pub for_some_made : (s : Stmt) (first : Option Stmt) (f f1 : Stmt) (test part : Option Expr) (body : Stmt) (brk cont : ℕ)
      (c0 c1 c3 : List Step) → s.kind ≡ k.For first test part body → first ≡ Some f → f1 ≡ f
      → c1 ≡ between c0 (b.stmt S O f1) brk cont → length c1 ≡ length c0 + (b.stmt S O f1).size
      → c3 ≡ between c1 (for_loop S O s test part body) brk cont → c3 ≡ between c0 (b.stmt S O s) brk cont
  for_some_made s first f f1 test part body brk cont c0 c1 c3 is some same e1 l1 e =
      then_made (b.stmt S O f) (for_loop S O s test part body) brk cont c0 c1 c3
      (e1 ∙ ap (λ (x : Stmt). between c0 (b.stmt S O x) brk cont) same)
      (l1 ∙ ap (λ (x : Stmt). length c0 + (b.stmt S O x).size) same) e
      ∙ ap (λ (z : Body). between c0 z brk cont) (sym (for_some_is S O s first f test part body is some))

  -- ---- groups

  pub groups_made : (all : List Group) (i : ℕ) (x : Group) (body : List Stmt) (brk cont : ℕ) (whole before after : List Step)
      → i < length all → x ≡ get_or all i x → body ≡ (out-Group x).body
      → whole ≡ between before (b.groups_body (map (grouped S O) (drop i all))) brk cont
      → after ≡ between before (b.stmts S O body) brk cont → length after ≡ length before + (b.stmts S O body).size
      → whole ≡ between after (b.groups_body (map (grouped S O) (drop (i + 1) all))) brk cont
  groups_made all i x body brk cont whole before after h here inside so_far e l =
      let own = b.stmts S O (out-Group x).body in
      let rest = b.groups_body (map (grouped S O) (drop (i + 1) all)) in
      let made : after ≡ before ++ own.steps (length before) brk cont =
      e ∙ ap (λ (ss : List Stmt). before ++ (b.stmts S O ss).steps (length before) brk cont) inside in
      let far : length before + own.size ≡ length after =
      sym (l ∙ ap (λ (ss : List Stmt). length before + (b.stmts S O ss).size) inside) in
      so_far
      ∙ (ap (λ (z : List Step). before ++ z) (groups_steps_turn S O all i x (length before) brk cont h here)
      ∙ (sym (append_assoc before (own.steps (length before) brk cont) (rest.steps (length before + own.size) brk cont))
      ∙ (ap (λ (z : List Step). z ++ rest.steps (length before + own.size) brk cont) (sym made)
      ∙ ap (λ (m : ℕ). after ++ rest.steps m brk cont) far)))

  pub groups_sized : (all : List Group) (i : ℕ) (x : Group) (body : List Stmt) (whole before after : ℕ)
      → i < length all → x ≡ get_or all i x → body ≡ (out-Group x).body
      → whole ≡ before + (b.groups_body (map (grouped S O) (drop i all))).size → after ≡ before + (b.stmts S O body).size
      → whole ≡ after + (b.groups_body (map (grouped S O) (drop (i + 1) all))).size
  groups_sized all i x body whole before after h here inside so_far e =
      let rest = (b.groups_body (map (grouped S O) (drop (i + 1) all))).size in
      let turn = groups_size_turn S O all i x h here in
      let own : (b.stmts S O body).size ≡ (b.stmts S O (out-Group x).body).size =
      ap (λ (ss : List Stmt). (b.stmts S O ss).size) inside in
      omega (arith, so_far, turn, own, e)

-- Steps of a statement that stand one behind the other, put together.
use Rattle.std.proofs.Common.{◌≡◌, ℕ, ◌+◌, List, [], ◌∷◌, ◌++◌, length, ap, ◌∙◌, arith, append_assoc}
use Rattle.ir.specs.declared.form.Step.{Step}
use Rattle.ir.specs.declared.form.StepKind.TheVariants as step
use Rattle.ir_gen.specs.Code.{Code, at_node}
use Rattle.ir_gen.specs.Body.{Body, Guard, Part, Grouped, then_body, if_body, loop_body, do_body, no_body, no_part, switch_body}
use Rattle.ir_gen.specs.Body.{groups_body, groups_at, groups_end, cases, place_of}
use Rattle.c_meaning.specs.Statements.{has_default}
use Rattle.base16.specs.declared.integer.IntType.{IntType}
use Rattle.ir_build.specs.Grouping.{between, choosing}

same : (f : ℕ → List Step) (m n : ℕ) → m ≡ n → f m ≡ f n
same f m n h = ap f h

-- a list with three others behind it, one after the other
three : (a b c d : List Step) → ((a ++ b) ++ c) ++ d ≡ a ++ (b ++ (c ++ d))
three a b c d = append_assoc (a ++ b) c d ∙ append_assoc a b (c ++ d)

pub loop_made : (node : ℕ) (g : Guard) (body : Body) (part : Part) (brk cont next end : ℕ) (c0 c1 c2 c3 : List Step)
    → c1 ≡ c0 ++ (at_node node step.Turn ∷ g.steps (length c0 + 1) end) → length c1 ≡ length c0 + 1 + g.size
    → next ≡ length c0 + 1 + g.size + body.size → end ≡ length c0 + 1 + g.size + body.size + part.size + 1
    → c2 ≡ c1 ++ body.steps (length c1) end next → length c2 ≡ length c1 + body.size
    → c3 ≡ c2 ++ (part.steps (length c2) ++ (at_node node (step.Jump (length c0)) ∷ []))
    → c3 ≡ between c0 (loop_body node g body part) brk cont
loop_made node g body part brk cont next end c0 c1 c2 c3 e1 l1 n e e2 l2 e3 =
    e3
    ∙ ap (λ (z : List Step). z ++ (part.steps (length c2) ++ jump))
    (e2 ∙ ap (λ (z : List Step). z ++ body.steps (length c1) end next) e1)
    ∙ three c0 (at_node node step.Turn ∷ g.steps (p + 1) end) (body.steps (length c1) end next) (part.steps (length c2) ++ jump)
    ∙ ap (λ (m : ℕ). c0 ++ (at_node node step.Turn
    ∷ (g.steps (p + 1) m ++ (body.steps (length c1) m next ++ (part.steps (length c2) ++ jump))))) e
    ∙ ap (λ (m : ℕ). c0 ++ (at_node node step.Turn
    ∷ (g.steps (p + 1) last ++ (body.steps (length c1) last m ++ (part.steps (length c2) ++ jump))))) n
    ∙ ap (λ (m : ℕ). c0 ++ (at_node node step.Turn
    ∷ (g.steps (p + 1) last ++ (body.steps m last back ++ (part.steps (length c2) ++ jump))))) l1
    ∙ ap (λ (m : ℕ). c0 ++ (at_node node step.Turn
    ∷ (g.steps (p + 1) last ++ (body.steps (p + 1 + g.size) last back ++ (part.steps m ++ jump)))))
    (let z : length c2 ≡ back = omega (arith, l1, l2) in z)
  where
    p : ℕ
    p = length c0

    back : ℕ
    back = p + 1 + g.size + body.size

    last : ℕ
    last = p + 1 + g.size + body.size + part.size + 1

    jump : List Step
    jump = at_node node (step.Jump p) ∷ []

pub then_made : (a b : Body) (brk cont : ℕ) (c0 c1 c2 : List Step) → c1 ≡ between c0 a brk cont → length c1 ≡ length c0 + a.size
    → c2 ≡ between c1 b brk cont → c2 ≡ between c0 (then_body a b) brk cont
then_made a b brk cont c0 c1 c2 e1 l1 e2 =
    e2
    ∙ ap (λ (z : List Step). z ++ b.steps (length c1) brk cont) e1
    ∙ append_assoc c0 (a.steps (length c0) brk cont) (b.steps (length c1) brk cont)
    ∙ ap (λ (m : ℕ). c0 ++ (a.steps (length c0) brk cont ++ b.steps m brk cont)) l1

-- a jump over the turn and the test, and the loop
pub do_made : (node : ℕ) (g : Guard) (body : Body) (brk cont : ℕ) (c0 c1 c2 : List Step)
    → c1 ≡ c0 ++ (at_node node (step.Jump (length c0 + 1 + 1 + g.size)) ∷ []) → length c1 ≡ length c0 + 1
    → c2 ≡ between c1 (loop_body node g body no_part) brk cont → c2 ≡ between c0 (do_body node g body) brk cont
do_made node g body brk cont c0 c1 c2 e1 l1 e2 =
    e2
    ∙ ap (λ (z : List Step). z ++ loop.steps (length c1) brk cont) e1
    ∙ append_assoc c0 (at_node node (step.Jump (length c0 + 1 + 1 + g.size)) ∷ []) (loop.steps (length c1) brk cont)
    ∙ ap (λ (m : ℕ). c0 ++ ((at_node node (step.Jump (length c0 + 1 + 1 + g.size)) ∷ []) ++ loop.steps m brk cont)) l1
  where
    loop : Body
    loop = loop_body node g body no_part

pub one_side_made : (node : ℕ) (g : Guard) (one : Body) (brk cont other : ℕ) (c0 c1 c2 c3 : List Step)
    → c1 ≡ c0 ++ g.steps (length c0) other → length c1 ≡ length c0 + g.size → other ≡ length c0 + g.size + one.size + 1
    → c2 ≡ between c1 one brk cont → c3 ≡ c2 ++ (at_node node (step.Jump other) ∷ [])
    → c3 ≡ between c0 (if_body node g one no_body) brk cont
one_side_made node g one brk cont other c0 c1 c2 c3 e1 l1 o e2 e3 =
    e3
    ∙ ap (λ (z : List Step). z ++ (at_node node (step.Jump other) ∷ []))
    (e2 ∙ ap (λ (z : List Step). z ++ one.steps (length c1) brk cont) e1)
    ∙ three c0 (g.steps p other) (one.steps (length c1) brk cont) (at_node node (step.Jump other) ∷ [])
    ∙ ap (λ (m : ℕ). c0 ++ (g.steps p m ++ (one.steps (length c1) brk cont ++ (at_node node (step.Jump m) ∷ [])))) o
    ∙ ap (λ (m : ℕ). c0 ++ (g.steps p to ++ (one.steps m brk cont ++ (at_node node (step.Jump to) ∷ [])))) l1
    ∙ ap (λ (m : ℕ). c0 ++ (g.steps p to ++ (one.steps (p + g.size) brk cont ++ (at_node node (step.Jump m) ∷ []))))
    (let z : to ≡ to + 0 = omega arith in z)
  where
    p : ℕ
    p = length c0

    to : ℕ
    to = p + g.size + one.size + 1

pub both_sides_made : (node : ℕ) (g : Guard) (one two : Body) (brk cont other end : ℕ) (c0 c1 c2 c3 c4 : List Step)
    → c1 ≡ c0 ++ g.steps (length c0) other → length c1 ≡ length c0 + g.size → other ≡ length c0 + g.size + one.size + 1
    → end ≡ other + two.size
    → c2 ≡ between c1 one brk cont → length c2 ≡ length c1 + one.size → c3 ≡ c2 ++ (at_node node (step.Jump end) ∷ [])
    → length c3 ≡ length c2 + 1 → c4 ≡ between c3 two brk cont
    → c4 ≡ between c0 (if_body node g one two) brk cont
both_sides_made node g one two brk cont other end c0 c1 c2 c3 c4 e1 l1 o e e2 l2 e3 l3 e4 =
    e4
    ∙ ap (λ (z : List Step). z ++ two.steps (length c3) brk cont)
    (e3 ∙ ap (λ (z : List Step). z ++ (at_node node (step.Jump end) ∷ []))
    (e2 ∙ ap (λ (z : List Step). z ++ one.steps (length c1) brk cont) e1))
    ∙ append_assoc ((c0 ++ g.steps p other) ++ one.steps (length c1) brk cont) (at_node node (step.Jump end) ∷ [])
    (two.steps (length c3) brk cont)
    ∙ three c0 (g.steps p other) (one.steps (length c1) brk cont) (at_node node (step.Jump end) ∷ two.steps (length c3) brk cont)
    ∙ ap (λ (m : ℕ). c0 ++ (g.steps p m
    ++ (one.steps (length c1) brk cont ++ (at_node node (step.Jump end) ∷ two.steps (length c3) brk cont)))) o
    ∙ ap (λ (m : ℕ). c0 ++ (g.steps p to ++ (one.steps m brk cont
    ++ (at_node node (step.Jump end) ∷ two.steps (length c3) brk cont)))) l1
    ∙ ap (λ (m : ℕ). c0 ++ (g.steps p to
    ++ (one.steps (p + g.size) brk cont ++ (at_node node (step.Jump m) ∷ two.steps (length c3) brk cont))))
    (let z : end ≡ to + two.size = omega (arith, e, o) in z)
    ∙ ap (λ (m : ℕ). c0 ++ (g.steps p to
    ++ (one.steps (p + g.size) brk cont ++ (at_node node (step.Jump (to + two.size)) ∷ two.steps m brk cont))))
    (let z : length c3 ≡ to = omega (arith, l1, l2, l3) in z)
  where
    p : ℕ
    p = length c0

    to : ℕ
    to = p + g.size + one.size + 1

pub switch_made : (node : ℕ) (t : IntType) (on : Code) (groups : List Grouped) (brk cont end : ℕ) (c0 c1 c2 : List Step)
    → c1 ≡ c0 ++ choosing node t on groups (length c0) → length c1 ≡ groups_at (length c0) on groups
    → end ≡ groups_end (length c0) on groups → c2 ≡ between c1 (groups_body groups) end cont
    → c2 ≡ between c0 (switch_body node t on groups) brk cont
switch_made node t on groups brk cont end c0 c1 c2 e1 l1 e e2 =
    e2
    ∙ ap (λ (z : List Step). z ++ rest (length c1) end) e1
    ∙ append_assoc c0 (choosing node t on groups p) (rest (length c1) end)
    ∙ ap (λ (z : List Step). c0 ++ z) (inner (rest (length c1) end))
    ∙ ap (λ (m : ℕ). c0 ++ (on.steps p 0 ++ (cases node t (groups_at p on groups) groups ++ (drops ++ rest m end)))) l1
    ∙ ap (λ (m : ℕ). c0 ++ (on.steps p 0 ++ (cases node t (groups_at p on groups) groups
    ++ (drops ++ rest (groups_at p on groups) m)))) e
  where
    p : ℕ
    p = length c0

    rest : (from to : ℕ) → List Step
    rest from to = (groups_body groups).steps from to cont

    drops : List Step
    drops =
        at_node node (step.Drop 0) ∷ at_node node (step.Jump (place_of has_default (groups_at p on groups) groups)) ∷ []

    inner : (r : List Step) → choosing node t on groups p ++ r
        ≡ on.steps p 0 ++ (cases node t (groups_at p on groups) groups ++ (drops ++ r))
    inner r =
        append_assoc (on.steps p 0) (cases node t (groups_at p on groups) groups ++ drops) r
        ∙ ap (λ (z : List Step). on.steps p 0 ++ z) (append_assoc (cases node t (groups_at p on groups) groups) drops r)

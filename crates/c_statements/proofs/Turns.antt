-- A turn of the loops over the parts of blocks.
use Rattle.std.proofs.Common.{◌≡◌, ℕ, suc, ◌+◌, ◌<◌, ◌≤◌, List, [], ◌∷◌, ◌++◌, map, length, get_or, drop, Option, Ok, Err, refl, sym, ap, ◌∙◌, append-nil, append_assoc, arith, rules}
use Rattle.std.specs.Prelude.{ℤ}
use Rattle.std.proofs.Math.Seq.{drop-cons}
use Rattle.std.proofs.lemmas.List.{drop_all}
use Rattle.base16.specs.declared.integer.IntType.{IntType}
use Rattle.c_tree.specs.declared.qualified.Spec.{Spec}
use Rattle.c_tree.specs.declared.declarations.Init.{Init}
use Rattle.c_tree.specs.declared.statements.BlockItem.{BlockItem, the_lemmas}
use Rattle.c_tree.specs.declared.statements.Compound.{Compound, out-Compound}
use Rattle.c_tree.specs.declared.statements.Statement.{Statement}
use Rattle.c_tree.specs.declared.statements.Group.{Group, out-Group, the_lemmas as group_lemmas}
use Rattle.core_tree.specs.declared.statements.Group.{Group as CoreGroup}
use Rattle.core_tree.specs.declared.statements.Stmt.{Stmt}
use Rattle.c_typing.specs.declared.fault.Fault.{Fault}
use Rattle.c_typing.specs.declared.environment.Env.{Env}
use Rattle.c_typing.specs.Outcome.{Outcome}
use Rattle.c_checking.specs.Walk.{Walk, and_then, one_by_one, single}
use Rattle.c_checking.specs.Locals.{local}
use Rattle.c_checking.specs.Statements.{statement, block_item, compound, labels_of, groups_of, group_of}
use Rattle.c_statements.specs.Sources.{statements, behind, group_part}

next_is : {A : Type 0} (all : List A) (i : ℕ) (x : A) → i < length all → x ≡ get_or all i x → drop i all ≡ x ∷ drop (i + 1) all
next_is all i x h here =
    let n : suc i ≡ i + 1 = omega arith in
    drop-cons all i x h ∙ (ap (λ y. y ∷ drop (suc i) all) (sym here) ∙ ap (λ k. x ∷ drop k all) n)

-- ---- one part after another

behind_more : {A : Type 0} (found xs : List A) (o : Outcome (List A × Env))
    → behind found (and_then o (λ ys env. Ok (xs ++ ys, env))) ≡ behind (found ++ xs) o
behind_more found xs (Err f) = refl
behind_more found xs (Ok p) = ap (λ ys. Ok (ys, p.1)) (sym (append_assoc found xs p.0))

walked_first : {A : Type 0} (found xs : List A) (walk : Walk (List A)) (walks : List (Walk (List A))) (env between : Env)
    → walk env ≡ Ok (xs, between) → behind found (one_by_one (walk ∷ walks) env) ≡ behind (found ++ xs) (one_by_one walks between)
walked_first found xs walk walks env between is =
    rw is (behind_more found xs (one_by_one walks between))

walk_breaks : {A : Type 0} (found : List A) (walk : Walk (List A)) (walks : List (Walk (List A))) (env : Env) (f : Fault)
    → walk env ≡ Err f → behind found (one_by_one (walk ∷ walks) env) ≡ Err f
walk_breaks found walk walks env f is = rw is refl

pub nothing_yet : {A : Type 0} (o : Outcome (List A × Env)) → behind [] o ≡ o
nothing_yet (Err f) = refl
nothing_yet (Ok p) = refl

all_found : {A : Type 0} (found : List A) (env : Env) → behind found (one_by_one [] env) ≡ Ok (found, env)
all_found found env = ap (λ ys. Ok (ys, env)) (append-nil found)

one : {A : Type 0} (walk : Walk A) (x : A) (env between : Env) → walk env ≡ Ok (x, between) → single walk env ≡ Ok (x ∷ [], between)
one walk x env between is = rw is refl

none : {A : Type 0} (walk : Walk A) (env : Env) (f : Fault) → walk env ≡ Err f → single walk env ≡ Err f
none walk env f is = rw is refl

-- ---- declarators

abbrev locals_walks : Spec → List Init → List (Walk (List Stmt))
locals_walks sp inits = map (λ i. single (local sp i)) inits

pub locals_turn : (sp : Spec) (found : List Stmt) (all : List Init) (i : ℕ) (x : Init) (y : Stmt) (env between : Env)
    → i < length all → x ≡ get_or all i x → local sp x env ≡ Ok (y, between)
    → behind found (one_by_one (locals_walks sp (drop i all)) env)
    ≡ behind (found ++ y ∷ []) (one_by_one (locals_walks sp (drop (i + 1) all)) between)
locals_turn sp found all i x y env between h here is =
    rw (next_is all i x h here)
    (walked_first found (y ∷ []) (single (local sp x)) (locals_walks sp (drop (i + 1) all)) env between (one (local sp x) y env between is))

pub locals_break : (sp : Spec) (found : List Stmt) (all : List Init) (i : ℕ) (x : Init) (f : Fault) (env : Env)
    → i < length all → x ≡ get_or all i x → local sp x env ≡ Err f
    → behind found (one_by_one (locals_walks sp (drop i all)) env) ≡ Err f
locals_break sp found all i x f env h here is =
    rw (next_is all i x h here)
    (walk_breaks found (single (local sp x)) (locals_walks sp (drop (i + 1) all)) env f (none (local sp x) env f is))

pub locals_end : (sp : Spec) (found : List Stmt) (all : List Init) (i : ℕ) (env : Env) → length all ≤ i
    → behind found (one_by_one (locals_walks sp (drop i all)) env) ≡ Ok (found, env)
locals_end sp found all i env h = rw (drop_all i all h) (all_found found env)

-- ---- parts of a block

pub items_turn : (found : List Stmt) (all : List BlockItem) (i : ℕ) (x : BlockItem) (ys : List Stmt) (env between : Env)
    → i < length all → x ≡ get_or all i x → block_item x env ≡ Ok (ys, between)
    → behind found (one_by_one (map block_item (drop i all)) env) ≡ behind (found ++ ys) (one_by_one (map block_item (drop (i + 1) all)) between)
items_turn found all i x ys env between h here is =
    rw (next_is all i x h here) (walked_first found ys (block_item x) (map block_item (drop (i + 1) all)) env between is)

pub items_break : (found : List Stmt) (all : List BlockItem) (i : ℕ) (x : BlockItem) (f : Fault) (env : Env)
    → i < length all → x ≡ get_or all i x → block_item x env ≡ Err f
    → behind found (one_by_one (map block_item (drop i all)) env) ≡ Err f
items_break found all i x f env h here is =
    rw (next_is all i x h here) (walk_breaks found (block_item x) (map block_item (drop (i + 1) all)) env f is)

pub items_end : (found : List Stmt) (all : List BlockItem) (i : ℕ) (env : Env) → length all ≤ i
    → behind found (one_by_one (map block_item (drop i all)) env) ≡ Ok (found, env)
items_end found all i env h = rw (drop_all i all h) (all_found found env)

pub compound_is : (c : Compound) (env : Env) → compound c env ≡ one_by_one (map block_item (out-Compound c).items) env
compound_is c env = search (rules, the_lemmas)

-- ---- statements of a group

pub statements_turn : (found : List Stmt) (all : List Statement) (i : ℕ) (x : Statement) (y : Stmt) (env between : Env)
    → i < length all → x ≡ get_or all i x → statement x env ≡ Ok (y, between)
    → behind found (statements (drop i all) env) ≡ behind (found ++ y ∷ []) (statements (drop (i + 1) all) between)
statements_turn found all i x y env between h here is =
    rw (next_is all i x h here)
    (walked_first found (y ∷ []) (single (statement x)) (map single (map statement (drop (i + 1) all))) env between
    (one (statement x) y env between is))

pub statements_break : (found : List Stmt) (all : List Statement) (i : ℕ) (x : Statement) (f : Fault) (env : Env)
    → i < length all → x ≡ get_or all i x → statement x env ≡ Err f → behind found (statements (drop i all) env) ≡ Err f
statements_break found all i x f env h here is =
    rw (next_is all i x h here)
    (walk_breaks found (single (statement x)) (map single (map statement (drop (i + 1) all))) env f (none (statement x) env f is))

pub statements_end : (found : List Stmt) (all : List Statement) (i : ℕ) (env : Env) → length all ≤ i
    → behind found (statements (drop i all) env) ≡ Ok (found, env)
statements_end found all i env h = rw (drop_all i all h) (all_found found env)

-- ---- groups

pub group_part_is : (g : Group) → group_part g ≡ record { labels = (out-Group g).labels; body = statements (out-Group g).statements }
group_part_is g = search (rules, group_lemmas)

groups_more : {A : Type 0} (found : List A) (x : A) (o : Outcome (List A × Env))
    → behind found (and_then o (λ ys env. Ok (x ∷ ys, env))) ≡ behind (found ++ x ∷ []) o
groups_more found x (Err f) = refl
groups_more found x (Ok p) = ap (λ ys. Ok (ys, p.1)) (sym (append_assoc found (x ∷ []) p.0))

pub nothing_yet_groups : (o : Outcome (List CoreGroup × Env)) → behind [] o ≡ o
nothing_yet_groups o = nothing_yet o

pub groups_turn : (line : ℕ) (t : IntType) (before labels : List (Option ℤ)) (found : List CoreGroup) (all : List Group) (i : ℕ) (g : Group)
    (body : List Stmt) (env between : Env) → i < length all → g ≡ get_or all i g
    → labels_of env line t before (out-Group g).labels ≡ Ok labels → statements (out-Group g).statements env ≡ Ok (body, between)
    → behind found (groups_of line t before (map group_part (drop i all)) env)
    ≡ behind (found ++ group_of labels body ∷ []) (groups_of line t (before ++ labels) (map group_part (drop (i + 1) all)) between)
groups_turn line t before labels found all i g body env between h here of_labels of_body =
    rw (next_is all i g h here) (rw (group_part_is g) (rw of_labels (rw of_body
    (groups_more found (group_of labels body) (groups_of line t (before ++ labels) (map group_part (drop (i + 1) all)) between)))))

pub groups_label_break : (line : ℕ) (t : IntType) (before : List (Option ℤ)) (found : List CoreGroup) (all : List Group) (i : ℕ) (g : Group)
    (f : Fault) (env : Env) → i < length all → g ≡ get_or all i g → labels_of env line t before (out-Group g).labels ≡ Err f
    → behind found (groups_of line t before (map group_part (drop i all)) env) ≡ Err f
groups_label_break line t before found all i g f env h here is =
    rw (next_is all i g h here) (rw (group_part_is g) (rw is refl))

pub groups_body_break : (line : ℕ) (t : IntType) (before labels : List (Option ℤ)) (found : List CoreGroup) (all : List Group) (i : ℕ) (g : Group)
    (f : Fault) (env : Env) → i < length all → g ≡ get_or all i g → labels_of env line t before (out-Group g).labels ≡ Ok labels
    → statements (out-Group g).statements env ≡ Err f
    → behind found (groups_of line t before (map group_part (drop i all)) env) ≡ Err f
groups_body_break line t before labels found all i g f env h here of_labels is =
    rw (next_is all i g h here) (rw (group_part_is g) (rw of_labels (rw is refl)))

pub groups_end : (line : ℕ) (t : IntType) (before : List (Option ℤ)) (found : List CoreGroup) (all : List Group) (i : ℕ) (env : Env)
    → length all ≤ i → behind found (groups_of line t before (map group_part (drop i all)) env) ≡ Ok (found, env)
groups_end line t before found all i env h = rw (drop_all i all h) (ap (λ ys. Ok (ys, env)) (append-nil found))

-- Parts of statements one after another: the first of them, and those behind it.
use Rattle.std.proofs.Common.{◌≡◌, ℕ, ◌+◌, ◌<◌, ◌≤◌, Bool, false, List, [], ◌∷◌, ◌++◌, ◌≢◌, Option, Some, None, length, get_or}
use Rattle.std.proofs.Common.{drop, map, refl, ap, sym, ◌∙◌, cond, arith, append_assoc}
use Rattle.std.specs.Prelude.{ℤ}
use Rattle.std.proofs.lemmas.List.{get_or_past, get_or_default}
use Rattle.base16.specs.declared.image.Kind.TheVariants as kind
use Rattle.base16.specs.declared.integer.IntType.{IntType}
use Rattle.core_tree.specs.declared.types.Slot.{Slot}
use Rattle.core_tree.specs.declared.types.Struct.{Struct}
use Rattle.core_tree.specs.declared.statements.Stmt.{Stmt}
use Rattle.core_tree.specs.declared.statements.Init.{Init}
use Rattle.core_tree.specs.declared.statements.Group.{Group, out-Group}
use Rattle.c_meaning.specs.Statements.{has_default}
use Rattle.ir.specs.declared.form.Step.{Step}
use Rattle.ir.specs.declared.form.StepKind.TheVariants as step
use Rattle.ir_gen.specs.Code as c
use Rattle.ir_gen.specs.Body as b
use Rattle.ir_gen.specs.Body.{Body, Grouped}
use Rattle.ir_build.specs.Grouping.{grouped}
use Rattle.ir_build.proofs.CodeSizes.{next_is}
use Rattle.ir_build.proofs.StmtEquations.{group_is}

-- ---- labels and scalars

label_one : (node : ℕ) (t : IntType) (to : ℕ) (x : Option ℤ) (ls : List (Option ℤ))
    → b.label_cases node t to (x ∷ ls) ≡ b.label_cases node t to (x ∷ []) ++ b.label_cases node t to ls
label_one node t to None ls = refl
label_one node t to (Some n) ls = refl

count_one : (x : Option ℤ) (ls : List (Option ℤ)) → b.label_count (x ∷ ls) ≡ b.label_count (x ∷ []) + b.label_count ls
count_one None ls = omega arith
count_one (Some n) ls = omega arith

pub label_count_turn : (all : List (Option ℤ)) (i : ℕ) (d : Option ℤ) → i < length all
    → b.label_count (drop i all) ≡ b.label_count (get_or all i d ∷ []) + b.label_count (drop (i + 1) all)
label_count_turn all i d h =
    ap (λ (ls : List (Option ℤ)). b.label_count ls) (next_is all i (get_or all i d) h (get_or_default all i d (get_or all i d) h))
    ∙ count_one (get_or all i d) (drop (i + 1) all)

pub label_cases_turn : (node : ℕ) (t : IntType) (to : ℕ) (all : List (Option ℤ)) (i : ℕ) (d : Option ℤ) → i < length all
    → b.label_cases node t to (drop i all)
    ≡ b.label_cases node t to (get_or all i d ∷ []) ++ b.label_cases node t to (drop (i + 1) all)
label_cases_turn node t to all i d h =
    ap (λ (ls : List (Option ℤ)). b.label_cases node t to ls)
    (next_is all i (get_or all i d) h (get_or_default all i d (get_or all i d) h))
    ∙ label_one node t to (get_or all i d) (drop (i + 1) all)

pub default_turn : (all : List (Option ℤ)) (i : ℕ) (x : Option ℤ) → i < length all → x ≡ get_or all i x
    → has_default (drop i all) ≡ has_default (x ∷ drop (i + 1) all)
default_turn all i x h here = ap (λ (ls : List (Option ℤ)). has_default ls) (next_is all i x h here)

pub kind_turn : (offset : ℕ) (all : List Slot) (i : ℕ) (x : Slot) → i < length all → x ≡ get_or all i x
    → b.kind_in offset (drop i all) ≡ b.kind_in offset (x ∷ drop (i + 1) all)
kind_turn offset all i x h here = ap (λ (ss : List Slot). b.kind_in offset ss) (next_is all i x h here)

pub kind_past : (objects : List (List Slot)) (n offset : ℕ) → length objects ≤ n → b.local_kind objects n offset ≡ kind.Int
kind_past objects n offset h = ap (λ (ss : List Slot). b.kind_in offset ss) (get_or_past objects n [] h)

pub kind_there : (objects : List (List Slot)) (n offset : ℕ) (ss : List Slot) → n < length objects → ss ≡ get_or objects n ss
    → b.local_kind objects n offset ≡ b.kind_in offset ss
kind_there objects n offset ss h here =
    ap (λ (xs : List Slot). b.kind_in offset xs) (get_or_default objects n [] ss h ∙ sym here)

-- ---- initialisers and statements

module _ (S : List Struct) (O : List (List Slot)) where
  pub declare_none : (node n : ℕ) (init : List Init) → length init ≡ 0 → (b.declare_part S O node n init).size ≡ 1
  declare_none node n [] h = refl
  declare_none node n (i ∷ is) h = absurd (grind (arith, h))

  pub declare_some : (node n : ℕ) (init : List Init) → length init ≢ 0
      → (b.declare_part S O node n init).size ≡ (b.init_parts S O node n init).size
  declare_some node n [] h = absurd (h refl)
  declare_some node n (i ∷ is) h = refl

  pub declare_none_steps : (node n : ℕ) (init : List Init) (p : ℕ) → length init ≡ 0
      → (b.declare_part S O node n init).steps p ≡ c.at_node node (step.Undefine n) ∷ []
  declare_none_steps node n [] p h = refl
  declare_none_steps node n (i ∷ is) p h = absurd (grind (arith, h))

  pub declare_some_steps : (node n : ℕ) (init : List Init) (p : ℕ) → length init ≢ 0
      → (b.declare_part S O node n init).steps p ≡ (b.init_parts S O node n init).steps p
  declare_some_steps node n [] p h = absurd (h refl)
  declare_some_steps node n (i ∷ is) p h = refl

  pub inits_size_turn : (node n : ℕ) (all : List Init) (i : ℕ) (x : Init) → i < length all → x ≡ get_or all i x
      → (b.init_parts S O node n (drop i all)).size
      ≡ (b.init_value S O node n x.offset x.marked x.value).size + (b.init_parts S O node n (drop (i + 1) all)).size
  inits_size_turn node n all i x h here = ap (λ (xs : List Init). (b.init_parts S O node n xs).size) (next_is all i x h here)

  pub inits_steps_turn : (node n : ℕ) (all : List Init) (i : ℕ) (x : Init) (p : ℕ) → i < length all → x ≡ get_or all i x
      → (b.init_parts S O node n (drop i all)).steps p
      ≡ (b.init_value S O node n x.offset x.marked x.value).steps p
      ++ (b.init_parts S O node n (drop (i + 1) all)).steps (p + (b.init_value S O node n x.offset x.marked x.value).size)
  inits_steps_turn node n all i x p h here =
      ap (λ (xs : List Init). (b.init_parts S O node n xs).steps p) (next_is all i x h here)

  pub stmts_size_turn : (all : List Stmt) (i : ℕ) (x : Stmt) → i < length all → x ≡ get_or all i x
      → (b.stmts S O (drop i all)).size ≡ (b.stmt S O x).size + (b.stmts S O (drop (i + 1) all)).size
  stmts_size_turn all i x h here = ap (λ (xs : List Stmt). (b.stmts S O xs).size) (next_is all i x h here)

  pub stmts_steps_turn : (all : List Stmt) (i : ℕ) (x : Stmt) (p brk cont : ℕ) → i < length all → x ≡ get_or all i x
      → (b.stmts S O (drop i all)).steps p brk cont
      ≡ (b.stmt S O x).steps p brk cont ++ (b.stmts S O (drop (i + 1) all)).steps (p + (b.stmt S O x).size) brk cont
  stmts_steps_turn all i x p brk cont h here =
      ap (λ (xs : List Stmt). (b.stmts S O xs).steps p brk cont) (next_is all i x h here)

  -- ---- groups

  abbrev with_group : {B : Type 0} → (List Grouped → B) → Group → List Group → B
  with_group f x more = f (record { labels = (out-Group x).labels; body = b.stmts S O (out-Group x).body }
      ∷ map (grouped S O) more)

  groups_turn : {B : Type 0} (f : List Grouped → B) (all : List Group) (i : ℕ) (x : Group) → i < length all → x ≡ get_or all i x
      → f (map (grouped S O) (drop i all)) ≡ with_group f x (drop (i + 1) all)
  groups_turn f all i x h here =
      ap (λ (xs : List Group). f (map (grouped S O) xs)) (next_is all i x h here)
      ∙ ap (λ (g : Grouped). f (g ∷ map (grouped S O) (drop (i + 1) all))) (group_is S O x)

  pub case_count_turn : (all : List Group) (i : ℕ) (x : Group) → i < length all → x ≡ get_or all i x
      → b.case_count (map (grouped S O) (drop i all))
      ≡ b.label_count (out-Group x).labels + b.case_count (map (grouped S O) (drop (i + 1) all))
  case_count_turn all i x h here = groups_turn (λ (gs : List Grouped). b.case_count gs) all i x h here

  pub groups_size_turn : (all : List Group) (i : ℕ) (x : Group) → i < length all → x ≡ get_or all i x
      → (b.groups_body (map (grouped S O) (drop i all))).size
      ≡ (b.stmts S O (out-Group x).body).size + (b.groups_body (map (grouped S O) (drop (i + 1) all))).size
  groups_size_turn all i x h here = groups_turn (λ (gs : List Grouped). (b.groups_body gs).size) all i x h here

  pub groups_steps_turn : (all : List Group) (i : ℕ) (x : Group) (p brk cont : ℕ) → i < length all → x ≡ get_or all i x
      → (b.groups_body (map (grouped S O) (drop i all))).steps p brk cont
      ≡ (b.stmts S O (out-Group x).body).steps p brk cont
      ++ (b.groups_body (map (grouped S O) (drop (i + 1) all))).steps (p + (b.stmts S O (out-Group x).body).size) brk cont
  groups_steps_turn all i x p brk cont h here =
      groups_turn (λ (gs : List Grouped). (b.groups_body gs).steps p brk cont) all i x h here

  pub cases_turn : (node : ℕ) (t : IntType) (p : ℕ) (all : List Group) (i : ℕ) (x : Group) → i < length all → x ≡ get_or all i x
      → b.cases node t p (map (grouped S O) (drop i all))
      ≡ b.label_cases node t p (out-Group x).labels
      ++ b.cases node t (p + (b.stmts S O (out-Group x).body).size) (map (grouped S O) (drop (i + 1) all))
  cases_turn node t p all i x h here = groups_turn (λ (gs : List Grouped). b.cases node t p gs) all i x h here

  pub place_turn : (p : ℕ) (all : List Group) (i : ℕ) (x : Group) → i < length all → x ≡ get_or all i x
      → b.place_of has_default p (map (grouped S O) (drop i all))
      ≡ cond (has_default (out-Group x).labels) p
      (b.place_of has_default (p + (b.stmts S O (out-Group x).body).size) (map (grouped S O) (drop (i + 1) all)))
  place_turn p all i x h here = groups_turn (λ (gs : List Grouped). b.place_of has_default p gs) all i x h here

  -- the same with what code found
  pub place_step : (p next : ℕ) (all : List Group) (i : ℕ) (x : Group) (ls : List (Option ℤ)) (body : List Stmt) (count whole : ℕ)
      (has : Bool) → i < length all → x ≡ get_or all i x → whole ≡ b.place_of has_default p (map (grouped S O) (drop i all))
      → ls ≡ (out-Group x).labels → has ≡ has_default ls → has ≡ false → body ≡ (out-Group x).body
      → count ≡ (b.stmts S O body).size → next ≡ p + count
      → whole ≡ b.place_of has_default next (map (grouped S O) (drop (i + 1) all))
  place_step p next all i x ls body count whole has h here so_far own tests none inside counts sums =
      let rest = map (grouped S O) (drop (i + 1) all) in
      let size = (b.stmts S O (out-Group x).body).size in
      let no : has_default (out-Group x).labels ≡ false =
      sym (tests ∙ ap (λ (l : List (Option ℤ)). has_default l) own) ∙ none in
      let to : next ≡ p + size =
      sums ∙ ap (λ (n : ℕ). p + n) (counts ∙ ap (λ (ss : List Stmt). (b.stmts S O ss).size) inside) in
      so_far
      ∙ (place_turn p all i x h here
      ∙ (ap (λ (c : Bool). cond c p (b.place_of has_default (p + size) rest)) no
      ∙ ap (λ (n : ℕ). b.place_of has_default n rest) (sym to)))

  pub cases_step : (node : ℕ) (t : IntType) (p next : ℕ) (all : List Group) (i : ℕ) (x : Group) (ls : List (Option ℤ))
      (body : List Stmt) (count : ℕ) (whole before after : List Step) → i < length all → x ≡ get_or all i x
      → whole ≡ before ++ b.cases node t p (map (grouped S O) (drop i all)) → ls ≡ (out-Group x).labels
      → after ≡ before ++ b.label_cases node t p ls → body ≡ (out-Group x).body → count ≡ (b.stmts S O body).size
      → next ≡ p + count → whole ≡ after ++ b.cases node t next (map (grouped S O) (drop (i + 1) all))
  cases_step node t p next all i x ls body count whole before after h here so_far own writes inside counts sums =
      let rest = map (grouped S O) (drop (i + 1) all) in
      let size = (b.stmts S O (out-Group x).body).size in
      let labels = (out-Group x).labels in
      let to : next ≡ p + size =
      sums ∙ ap (λ (n : ℕ). p + n) (counts ∙ ap (λ (ss : List Stmt). (b.stmts S O ss).size) inside) in
      let written : after ≡ before ++ b.label_cases node t p labels =
      writes ∙ ap (λ (l : List (Option ℤ)). before ++ b.label_cases node t p l) own in
      so_far
      ∙ (ap (λ (ss : List Step). before ++ ss) (cases_turn node t p all i x h here)
      ∙ (sym (append_assoc before (b.label_cases node t p labels) (b.cases node t (p + size) rest))
      ∙ (ap (λ (ss : List Step). ss ++ b.cases node t (p + size) rest) (sym written)
      ∙ ap (λ (n : ℕ). after ++ b.cases node t n rest) (sym to))))

  pub counts_step : (all : List Group) (i : ℕ) (x : Group) (ls : List (Option ℤ)) (whole before after : ℕ) → i < length all
      → x ≡ get_or all i x → whole ≡ before + b.case_count (map (grouped S O) (drop i all)) → ls ≡ (out-Group x).labels
      → after ≡ before + b.label_count ls → whole ≡ after + b.case_count (map (grouped S O) (drop (i + 1) all))
  counts_step all i x ls whole before after h here so_far own writes =
      let rest = b.case_count (map (grouped S O) (drop (i + 1) all)) in
      let written : after ≡ before + b.label_count (out-Group x).labels =
      writes ∙ ap (λ (l : List (Option ℤ)). before + b.label_count l) own in
      let turn : b.case_count (map (grouped S O) (drop i all)) ≡ b.label_count (out-Group x).labels + rest =
      case_count_turn all i x h here in
      omega (arith, so_far, written, turn)

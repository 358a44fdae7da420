-- The parts of a tree that are stores.
use Rattle.std.proofs.Common.{◌≡◌, ◌≢◌, ℕ, ◌<◌, true, false, List, [], ◌∷◌, Option, Some, None, refl, sym, ap, ◌∙◌, subst, rules}
use Rattle.c_tree.specs.declared.expression.Expr.{Expr}
use Rattle.c_tree.specs.declared.expression.ExprKind.{ExprKind, out-ExprKind, the_lemmas}
use Rattle.c_tree.specs.declared.expression.ExprKind.TheOpen.{ExprKind-F}
use Rattle.c_tree.specs.declared.expression.ExprKind.TheVariants as expr
use Rattle.c_tree.specs.declared.statements.StatementKind.TheVariants as statement
use Rattle.c_tree.specs.declared.statements.BlockItem.{BlockItem}
use Rattle.c_tree.specs.declared.statements.BlockItem.TheVariants as item
use Rattle.tics_call.specs.declared.source.Store.{Store}
use Rattle.c_tree.specs.declared.statements.Compound.{Compound, out-Compound, the_lemmas as body_lemmas}
use Rattle.c_tree.specs.declared.declarations.Init.{Init}
use Rattle.c_tree.specs.declared.declarations.Declaration.{Declaration}
use Rattle.c_tree.specs.declared.qualified.Qual.{Qual}
use Rattle.c_tree.specs.declared.qualified.Spec.{Spec}
use Rattle.c_tree.specs.declared.unit.Params.{Params}
use Rattle.c_tree.specs.declared.unit.Params.TheVariants as params
use Rattle.c_tree.specs.declared.unit.Function.{Function}
use Rattle.c_tree.specs.declared.unit.External.{External}
use Rattle.c_tree.specs.declared.unit.External.TheVariants as external
use Rattle.std.specs.Prelude.{codes}
use Rattle.tics_call.specs.Form.{plain_int, declarator, declaration, in_braces, main_function, IsStore, IsDeclaration, IsMain}

opened : (p v : Expr) → out-ExprKind (expr.Assign p None v) ≡ ExprKind-F.Assign p None v
opened p v = search (rules, the_lemmas)

same_sides : (p v q w : Expr) → expr.Assign p None v ≡ expr.Assign q None w → (p ≡ q) × (v ≡ w)
same_sides p v q w h = let e : ExprKind-F.Assign p None v ≡ ExprKind-F.Assign q None w = sym (opened p v)
    ∙ (ap out-ExprKind h ∙ opened q w) in (cc, cc)

same_expr : (d e : Expr) (m n : ℕ) → item.Statement (record { kind = statement.Expr (Some d); line = m })
    ≡ item.Statement (record { kind = statement.Expr (Some e); line = n }) → d ≡ e
same_expr d e m n h = cc

-- the assignment of a store
stored : (s : Store) (part : BlockItem) (e p v : Expr) (line : ℕ) → IsStore s part
    → part ≡ item.Statement (record { kind = statement.Expr (Some e); line = line })
    → e.kind ≡ expr.Assign p None v → (p.kind ≡ expr.Name s.name) × (v.kind ≡ expr.Number s.value true false)
stored s part e p v line h i j =
    let d : Expr = record { kind = expr.Assign h.place None h.number; line = h.line } in
    let same : d ≡ e = same_expr d e h.statement_line line (sym h.is ∙ i) in
    let sides = same_sides h.place h.number p v (ap (λ (x : Expr). x.kind) same ∙ j) in (
      subst (λ (x : Expr). x.kind ≡ expr.Name s.name) sides.0 h.named,
      subst (λ (x : Expr). x.kind ≡ expr.Number s.value true false) sides.1 h.numbered,
    )

pub its_name : (s : Store) (part : BlockItem) (e p v : Expr) (line : ℕ) → IsStore s part
    → part ≡ item.Statement (record { kind = statement.Expr (Some e); line = line })
    → e.kind ≡ expr.Assign p None v → p.kind ≡ expr.Name s.name
its_name s part e p v line h i j = (stored s part e p v line h i j).0

pub its_number : (s : Store) (part : BlockItem) (e p v : Expr) (line : ℕ) → IsStore s part
    → part ≡ item.Statement (record { kind = statement.Expr (Some e); line = line })
    → e.kind ≡ expr.Assign p None v → v.kind ≡ expr.Number s.value true false
its_number s part e p v line h i j = (stored s part e p v line h i j).1

pub store_made : (part : BlockItem) (e p v : Expr) (name : List ℕ) (value line : ℕ) → value < 65536
    → part ≡ item.Statement (record { kind = statement.Expr (Some e); line = line })
    → e.kind ≡ expr.Assign p None v → p.kind ≡ expr.Name name → v.kind ≡ expr.Number value true false
    → IsStore (record { name = name; value = value }) part
store_made part e p v name value line small h i j k = record {
  fits = small;
  place = p;
  number = v;
  line = e.line;
  statement_line = line;
  is = subst (λ (k : ExprKind). part ≡ item.Statement (record {
    kind =
        statement.Expr (Some (record { kind = k; line = e.line }));
    line = line;
  })) i h;
  named = j;
  numbered = k;
}

-- ---- one reading each
opened_name : (n : List ℕ) → out-ExprKind (expr.Name n) ≡ ExprKind-F.Name n
opened_name n = search (rules, the_lemmas)

opened_number : (n : ℕ) → out-ExprKind (expr.Number n true false) ≡ ExprKind-F.Number n true false
opened_number n = search (rules, the_lemmas)

same_name : (m n : List ℕ) → expr.Name m ≡ expr.Name n → m ≡ n
same_name m n e = cc

same_number : (m n : ℕ) → expr.Number m true false ≡ expr.Number n true false → m ≡ n
same_number m n e = cc

made : List ℕ → ℕ → Store
made name value = record { name = name; value = value }

pub one_store : (s t : Store) (part : BlockItem) → IsStore s part → IsStore t part → s ≡ t
unfolding made
one_store s t part g h =
    let k = stored t part (record {
      kind = expr.Assign g.place None g.number;
      line =
          g.line;
    }) g.place g.number g.statement_line h g.is refl in
    let name : s.name ≡ t.name = same_name s.name t.name (sym g.named ∙ k.0) in
    let value : s.value ≡ t.value = same_number s.value t.value (sym g.numbered ∙ k.1) in
    ap (λ (n : List ℕ). made n s.value) name ∙ ap (λ (v : ℕ). made t.name v) value

pub one_declaration : (m n : List ℕ) (part : External) → IsDeclaration m part → IsDeclaration n part → m ≡ n
one_declaration m n part g h =
    let both : external.Declaration false None (declaration m g.line) ≡ external.Declaration false None
    (declaration n h.line) = sym g.is ∙ h.is in
    let same : declaration m g.line ≡ declaration n h.line = cc in
    let inits : declarator m g.line ∷ [] ≡ declarator n h.line ∷ [] = ap (λ (d : Declaration). d.inits) same in
    let one : declarator m g.line ≡ declarator n h.line = cc in
    ap (λ (i : Init). i.declr.name) one

opened_body : (xs : List BlockItem) → (out-Compound (in_braces xs)).items ≡ xs
opened_body xs = search (rules, body_lemmas)

pub one_main : (xs ys : List BlockItem) (part : External) → IsMain xs part → IsMain ys part → xs ≡ ys
one_main xs ys part g h =
    let both : external.Function false (main_function xs g.line) ≡ external.Function false (main_function ys h.line) =
    sym g.is ∙ h.is in
    let same : main_function xs g.line ≡ main_function ys h.line = cc in
    let bodies : Some (in_braces xs) ≡ Some (in_braces ys) = ap (λ (f : Function). f.body) same in
    let one : in_braces xs ≡ in_braces ys = cc in
    sym (opened_body xs) ∙ (ap (λ (c : Compound). (out-Compound c).items) one ∙ opened_body ys)

pub main_made : (f : Function) (xs : List BlockItem) → f.spec ≡ plain_int → f.stars ≡ [] → f.name ≡ codes "main"
    → f.params ≡ params.Void true → f.body ≡ Some (in_braces xs)
    → f ≡ main_function xs f.line
main_made f xs h i j k l =
    let made_of : Spec → List (List Qual) → List ℕ → Params → Option Compound → Function =
    λ s t n p b. record { spec = s; stars = t; name = n; params = p; body = b; line = f.line } in
    ap (λ (s : Spec). made_of s f.stars f.name f.params f.body) h
    ∙ (ap (λ (t : List (List Qual)). made_of plain_int t f.name f.params f.body) i
    ∙ (ap (λ (n : List ℕ). made_of plain_int [] n f.params f.body) j
    ∙ (ap (λ (p : Params). made_of plain_int [] (codes "main") p f.body) k
    ∙ ap (λ (b : Option Compound). made_of plain_int [] (codes "main") (params.Void true) b) l)))

pub part_made : (part : External) (f : Function) (xs : List BlockItem) (line : ℕ) → part ≡ external.Function false f
    → f ≡ main_function xs line → IsMain xs part
part_made part f xs line e h = record { line = line; is = e ∙ ap (λ (x : Function). external.Function false x) h }

pub no_main : (part : External) (f : Function) (xs : List BlockItem) → part ≡ external.Function false f
    → ((ys : List BlockItem) (line : ℕ) → f ≢ main_function ys line) → IsMain xs part → ⊥
no_main part f xs e none m =
    let both : external.Function false f ≡ external.Function false (main_function xs m.line) = sym e ∙ m.is in
    let same : f ≡ main_function xs m.line = cc in
    none xs m.line same

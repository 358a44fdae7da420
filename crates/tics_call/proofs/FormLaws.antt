-- A tree is one program, and its parts are those of the program.
use Rattle.std.proofs.Common.{◌≡◌, ℕ, List, [], ◌∷◌, ◌++◌, length, refl, sym, ap, ◌∙◌, subst, arith}
use Rattle.c_tree.specs.declared.statements.BlockItem.{BlockItem}
use Rattle.c_tree.specs.declared.unit.External.{External}
use Rattle.c_tree.specs.declared.unit.Tree.{Tree}
use Rattle.tics_call.specs.declared.source.Program.{Program}
use Rattle.tics_call.specs.declared.source.Store.{Store}
use Rattle.tics_call.specs.Form.{IsDeclaration, IsStore, IsReturn, IsMain, Pairs, IsTreeOf}
use Rattle.tics_call.proofs.PairedLaws.{same_last, one_pairing}
use Rattle.tics_call.proofs.PartLaws.{one_declaration, one_store, one_main}

pub no_last : {A : Type 0} (xs : List A) (x : A) → [] ≡ xs ++ x ∷ [] → ⊥
no_last [] x e = cc
no_last (a ∷ xs) x e = cc

none_of : {A : Type 0} (xs : List A) → length xs ≡ 0 → xs ≡ []
none_of [] e = refl
none_of (x ∷ xs) e = absurd (omega arith)

-- an empty tree is no program
pub nothing_in : (p : Program) (tree : Tree) → length tree.externals ≡ 0 → IsTreeOf p tree → ⊥
nothing_in p tree e h = no_last h.declarations h.main (sym (none_of tree.externals e) ∙ h.externals)

pub main_in : (p : Program) (tree : Tree) (ds : List External) (m : External) → tree.externals ≡ ds ++ m ∷ []
    → (h : IsTreeOf p tree) → IsMain (h.stores ++ h.ending ∷ []) m
main_in p tree ds m e h = subst (λ (x : External). IsMain (h.stores ++ h.ending ∷ []) x)
    (same_last h.declarations ds h.main m (sym h.externals ∙ e)).1 h.is_main

pub no_main_in : (p : Program) (tree : Tree) (ds : List External) (m : External) → tree.externals ≡ ds ++ m ∷ []
    → ((xs : List BlockItem) → IsMain xs m → ⊥) → IsTreeOf p tree → ⊥
no_main_in p tree ds m e none h = none (h.stores ++ h.ending ∷ []) (main_in p tree ds m e h)

pub names_in : (p : Program) (tree : Tree) (ds : List External) (m : External) → tree.externals ≡ ds ++ m ∷ []
    → IsTreeOf p tree → Pairs IsDeclaration p.names ds
names_in p tree ds m e h = subst (λ (xs : List External). Pairs IsDeclaration p.names xs)
    (same_last h.declarations ds h.main m (sym h.externals ∙ e)).0 h.declared

-- an empty body is no program's
pub no_body_in : (p : Program) (tree : Tree) (ds : List External) (m : External) (xs : List BlockItem)
    → tree.externals ≡ ds ++ m ∷ [] → IsMain xs m → length xs ≡ 0 → IsTreeOf p tree → ⊥
no_body_in p tree ds m xs e is none h = no_last h.stores h.ending (sym (none_of xs none)
    ∙ one_main xs (h.stores ++ h.ending ∷ []) m is (main_in p tree ds m e h))

pub body_in : (p : Program) (tree : Tree) (ds : List External) (m : External) (xs : List BlockItem) (x : BlockItem)
    → tree.externals ≡ ds ++ m ∷ [] → IsMain (xs ++ x ∷ []) m → IsTreeOf p tree
    → (Pairs IsStore p.stores xs) × IsReturn x
body_in p tree ds m xs x e is h =
    let same = same_last h.stores xs h.ending x (one_main (h.stores ++ h.ending ∷ []) (xs ++ x ∷ []) m
    (main_in p tree ds m e h) is) in
    (subst (λ (ys : List BlockItem). Pairs IsStore p.stores ys) same.0 h.stored, subst IsReturn same.1 h.ends)

made : List (List ℕ) → List Store → Program
made names stores = record { names = names; stores = stores }

pub one_program : (p q : Program) (tree : Tree) → IsTreeOf p tree → IsTreeOf q tree → p ≡ q
unfolding made
one_program p q tree g h =
    let names : p.names ≡ q.names = one_pairing IsDeclaration p.names q.names g.declarations one_declaration g.declared
    (names_in q tree g.declarations g.main g.externals h) in
    let body = body_in q tree g.declarations g.main g.stores g.ending g.externals g.is_main h in
    let stores : p.stores ≡ q.stores = one_pairing IsStore p.stores q.stores g.stores one_store g.stored body.0 in
    ap (λ (ns : List (List ℕ)). made ns p.stores) names ∙ ap (λ (ss : List Store). made q.names ss) stores

-- Before the variables of a source stand its functions so far.
use Rattle.std.proofs.Common.{◌≡◌, ℕ, ◌≤◌, List, [], ◌∷◌, ◌++◌, map, length, Some, None, Result, Ok, refl, sym, ap, subst, rules, arith}
use Rattle.c_tree.specs.declared.declarations.Init.{Init}
use Rattle.c_tree.specs.declared.unit.External.{External}
use Rattle.c_tree.specs.declared.unit.External.TheVariants as external
use Rattle.c_tree.specs.declared.unit.Tree.{Tree}
use Rattle.core_tree.specs.declared.program.Global.{Global}
use Rattle.core_tree.specs.declared.program.Function.{Function}
use Rattle.core_tree.specs.LawfulCore.{Every, rises}
use Rattle.c_typing.specs.declared.environment.Env.{Env}
use Rattle.c_typing.specs.declared.fault.Rule.{Rule}
use Rattle.c_typing.specs.Outcome.{Outcome}
use Rattle.c_typing.specs.TypeNames.{Qualified}
use Rattle.c_checking.specs.declared.draft.Draft.{Draft}
use Rattle.c_checking.specs.Declarators.{base_of, declared_type}
use Rattle.c_checking.specs.Initialisers.{begun}
use Rattle.c_checking.specs.Externals.{in_turn, entered_global, global, globals, structure, struct_base}
use Rattle.c_checking.specs.Calls.{definitions}
use Rattle.c_checking.specs.Checked.{external_step, at_start}
use Rattle.c_checking_laws.specs.Walked.{AtFileScope}
use Rattle.c_checking_laws.specs.Programs.{GlobalsInOrder}
use Rattle.c_checking_laws.proofs.Lists.{length_begins, every_more, every_map}
use Rattle.c_checking_laws.proofs.FileScope.{then_is, external_advances, starts}
use Rattle.c_checking_laws.proofs.Structs.{same_globals, function_globals}
use Rattle.c_checking_laws.proofs.Counts.{struct_functions}

done : {p q : Draft} → ◌≡◌ {A = Outcome Draft} (Ok p) (Ok q) → p ≡ q
done is = cc

-- no more than this stands before each
abbrev AtMost : ℕ → List Global → Type 0
AtMost n gs = Every (λ (g : Global). g.before ≤ n) gs

rises_more : (n : ℕ) (gs : List Global) (g : Global) → n ≤ g.before → AtMost g.before gs → rises n gs → rises n (gs ++ g ∷ [])
rises_more n [] g h most p = (h, tt)
rises_more n (x ∷ gs) g h most p = (p.0, rises_more x.before gs g most.0 most.1 p.1)

at_most_more : (n m : ℕ) (gs : List Global) → n ≤ m → AtMost n gs → AtMost m gs
at_most_more n m gs h p =
    every_map (λ (g : Global). g.before ≤ n) (λ (g : Global). g.before ≤ m) gs (λ g q. on g.before q) p
  where
    on : (k : ℕ) → k ≤ n → k ≤ m
    on k q = omega arith

abbrev InOrder : Draft → Type 0
InOrder d = rises 0 d.globals × AtMost (length d.functions) d.globals

order_kept : (d behind : Draft) → d.globals ≡ behind.globals → length d.functions ≤ length behind.functions → InOrder d
    → InOrder behind
order_kept d behind same more so =
    let p : rises 0 behind.globals = subst (λ gs. rises 0 gs) same so.0 in
    let q : AtMost (length d.functions) behind.globals = subst (λ gs. AtMost (length d.functions) gs) same so.1 in
    (p, at_most_more (length d.functions) (length behind.functions) behind.globals more q)

global_order : (base : Env → Result Qualified Rule) (i : Init) (d behind : Draft) → InOrder d → global base i d ≡ Ok behind
    → InOrder behind
unfolding global
global_order base i d behind so is =
    let t = then_is (declared_type d.env i.line (base d.env) i.declr.stars i.declr.bounds) _ behind is in
    let u = then_is (entered_global i.line i.declr.name t.first d) _ behind t.is_next in
    let v = then_is (begun u.first i.line t.first.ty i.initial) _ behind u.is_next in
    added d behind _ so refl (ap (λ (z : Draft). z.functions) (done v.is_next))
    (ap (λ (z : Draft). z.globals) (done v.is_next))
  where
    added : (d behind : Draft) (g : Global) → InOrder d → g.before ≡ length d.functions → d.functions ≡ behind.functions
        → d.globals ++ g ∷ [] ≡ behind.globals → InOrder behind
    added d behind g so at same more =
        let most : AtMost g.before d.globals = subst (λ n. AtMost n d.globals) (sym at) so.1 in
        let p : rises 0 (d.globals ++ g ∷ []) = rises_more 0 d.globals g (from_none g.before) most so.0 in
        let q : AtMost (length d.functions) (d.globals ++ g ∷ []) =
        every_more (λ (g : Global). g.before ≤ length d.functions) d.globals (g ∷ []) so.1
        (no_more g.before (length d.functions) at, tt) in
        let r : AtMost (length behind.functions) (d.globals ++ g ∷ []) =
        subst (λ (fs : List Function). AtMost (length fs) (d.globals ++ g ∷ [])) same q in
        (subst (λ gs. rises 0 gs) more p, subst (λ gs. AtMost (length behind.functions) gs) more r)
      where
        from_none : (n : ℕ) → 0 ≤ n
        from_none n = omega arith

        no_more : (n m : ℕ) → n ≡ m → n ≤ m
        no_more n m e = omega arith

globals_order : (base : Env → Result Qualified Rule) (is : List Init) (d behind : Draft) → InOrder d
    → globals base is d ≡ Ok behind → InOrder behind
globals_order base [] d behind so at = let e : d ≡ behind = cc in subst (λ z. InOrder z) e so
globals_order base (i ∷ is) d behind so at =
    let t = then_is (global base i d) _ behind at in
    globals_order base is t.first behind (global_order base i d t.first so t.is_first) t.is_next

module _ (names : List (List ℕ)) where
  external_order : (x : External) (d behind : Draft) → AtFileScope names d → InOrder d → external_step names x d ≡ Ok behind
      → InOrder behind
  external_order (external.Struct defined inits) d behind a so is =
      let t = then_is (structure defined d) _ behind is in
      globals_order (struct_base (length d.env.structs)) inits t.first behind
      (order_kept d t.first (same_globals defined d t.first t.is_first)
      (as_many (length d.functions) (length t.first.functions)
      (ap (λ (fs : List Function). length fs) (struct_functions defined d t.first t.is_first))) so) t.is_next
    where
      as_many : (n m : ℕ) → n ≡ m → n ≤ m
      as_many n m e = omega arith
  external_order (external.Function is_static f) d behind a so is =
      let v = external_advances names (external.Function is_static f) d behind a is in
      order_kept d behind (function_globals names f d behind is)
      (length_begins d.functions behind.functions v.grows.functions) so
  external_order (external.Declaration is_static None dec) d behind a so is =
      globals_order (λ env. base_of env dec.spec) dec.inits d behind so is
  external_order (external.Declaration is_static (Some lifetime) dec) d behind a so is = absurd (search rules)

  externals_order : (xs : List External) (d last : Draft) → AtFileScope names d → InOrder d
      → in_turn (map (external_step names) xs) d ≡ Ok last → InOrder last
  externals_order [] d last a so is = let e : d ≡ last = cc in subst (λ z. InOrder z) e so
  externals_order (x ∷ xs) d last a so is =
      let t = then_is (external_step names x d) _ last is in
      let u = external_advances names x d t.first a t.is_first in
      externals_order xs t.first last u.file (external_order x d t.first a so t.is_first) t.is_next

pub globals_in_order : (tree : Tree) (last : Draft) → GlobalsInOrder tree last
globals_in_order tree last is =
    externals_order (definitions tree) tree.externals at_start last (starts (definitions tree)) (tt, tt) is

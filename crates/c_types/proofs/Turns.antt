-- A turn of the loop over the parts of a source, and what a source is when its parts are known.
use Rattle.std.proofs.Common.{◌≡◌, ℕ, suc, ◌+◌, ◌<◌, ◌≤◌, true, false, List, ◌∷◌, length, get_or, drop, Option, Result, Ok, Err, refl, sym, ap, subst, ◌∙◌, arith}
use Rattle.std.proofs.Math.Seq.{drop-cons}
use Rattle.std.proofs.lemmas.List.{drop_all}
use Rattle.c_tree.specs.declared.unit.External.{External}
use Rattle.c_tree.specs.declared.unit.Tree.{Tree}
use Rattle.core_tree.specs.declared.program.Core.{Core}
use Rattle.core_tree.specs.declared.program.Typed.{Typed}
use Rattle.core_tree.specs.declared.program.Function.{Function}
use Rattle.c_typing.specs.declared.fault.Fault.{Fault}
use Rattle.c_typing.specs.declared.fault.Stop.{Stop}
use Rattle.c_typing.specs.declared.fault.Stop.TheVariants as stop
use Rattle.c_typing.specs.Outcome.{Outcome, ◌>>=◌, Answers}
use Rattle.c_checking.specs.declared.draft.Draft.{Draft}
use Rattle.c_checking.specs.Calls.{first_undefined}
use Rattle.c_checking.specs.Numbering.{numbered}
use Rattle.c_checking.specs.Checked.{external_step, walked, with_definitions, with_main, core_of, is_main, has_main, checked}
use Rattle.c_types.specs.Walked.{steps, finished}

next_is : {A : Type 0} (all : List A) (i : ℕ) (x : A) → i < length all → x ≡ get_or all i x → drop i all ≡ x ∷ drop (i + 1) all
next_is all i x h here =
    let n : suc i ≡ i + 1 = omega arith in
    drop-cons all i x h ∙ (ap (λ y. y ∷ drop (suc i) all) (sym here) ∙ ap (λ k. x ∷ drop k all) n)

-- ---- parts of a source

pub steps_turn : (names : List (List ℕ)) (all : List External) (i : ℕ) (x : External) (d between : Draft)
    → i < length all → x ≡ get_or all i x → external_step names x d ≡ Ok between
    → steps names (drop i all) d ≡ steps names (drop (i + 1) all) between
steps_turn names all i x d between h here is = rw (next_is all i x h here, is) refl

pub steps_break : (names : List (List ℕ)) (all : List External) (i : ℕ) (x : External) (f : Fault) (d : Draft)
    → i < length all → x ≡ get_or all i x → external_step names x d ≡ Err f → steps names (drop i all) d ≡ Err f
steps_break names all i x f d h here is = rw (next_is all i x h here, is) refl

pub steps_end : (names : List (List ℕ)) (all : List External) (i : ℕ) (d : Draft) → length all ≤ i
    → steps names (drop i all) d ≡ Ok d
steps_end names all i d h = rw (drop_all i all h) refl

-- ---- `main`

pub main_turn : (all : List Function) (i : ℕ) (x : Function) → i < length all → x ≡ get_or all i x → is_main x ≡ false
    → has_main (drop i all) ≡ has_main (drop (i + 1) all)
main_turn all i x h here is = rw (next_is all i x h here, is) refl

pub main_here : (all : List Function) (i : ℕ) (x : Function) → i < length all → x ≡ get_or all i x → is_main x ≡ true
    → has_main (drop i all) ≡ true
main_here all i x h here is = rw (next_is all i x h here, is) refl

pub main_nowhere : (all : List Function) (i : ℕ) → length all ≤ i → has_main (drop i all) ≡ false
main_nowhere all i h = rw (drop_all i all h) refl

-- ---- the whole

abbrev typed : Core → Typed
typed core = record { core = numbered core }

main_case : (core : Core) (o : Outcome Draft) → (o >>= λ d. Ok (core_of d)) ≡ Ok core → (o >>= λ d. Ok (typed (core_of d))) ≡ Ok (typed core)
main_case core (Err f) is = absurd (cc)
main_case core (Ok d) is =
    let e : core_of d ≡ core = cc in
    ap (λ c. Ok (typed c)) e

main_broken : (f : Fault) (o : Outcome Draft) → (o >>= λ d. Ok (core_of d)) ≡ Err f → (o >>= λ d. Ok (typed (core_of d))) ≡ Err f
main_broken f (Err g) is =
    let e : g ≡ f = cc in
    ap (λ x. Err x) e
main_broken f (Ok d) is = absurd (cc)

finished_case : (core : Core) (o : Outcome Draft) → (o >>= λ d. with_main d >>= λ d. Ok (core_of d)) ≡ Ok core
    → (o >>= λ d. with_main d >>= λ d. Ok (typed (core_of d))) ≡ Ok (typed core)
finished_case core (Err f) is = absurd (cc)
finished_case core (Ok d) is = main_case core (with_main d) is

finished_broken : (f : Fault) (o : Outcome Draft) → (o >>= λ d. with_main d >>= λ d. Ok (core_of d)) ≡ Err f
    → (o >>= λ d. with_main d >>= λ d. Ok (typed (core_of d))) ≡ Err f
finished_broken f (Err g) is =
    let e : g ≡ f = cc in
    ap (λ x. Err x) e
finished_broken f (Ok d) is = main_broken f (with_main d) is

pub checked_is : (tree : Tree) (undefined : Option ℕ) (draft : Draft) (core made : Core) → walked tree ≡ Ok draft
    → undefined ≡ first_undefined tree → finished undefined draft ≡ Ok core → made ≡ numbered core
    → checked tree ≡ Ok (record { core = made })
unfolding checked
checked_is tree undefined draft core made walk calls is nodes =
    let e : finished (first_undefined tree) draft ≡ Ok core = rw (← calls) is in
    rw (walk, nodes) (finished_case core (with_definitions (first_undefined tree) draft) e)

pub checked_broken : (tree : Tree) (draft : Draft) (f : Fault) → walked tree ≡ Ok draft
    → finished (first_undefined tree) draft ≡ Err f → checked tree ≡ Err f
unfolding checked
checked_broken tree draft f walk is = rw walk (finished_broken f (with_definitions (first_undefined tree) draft) is)

stopped : (tree : Tree) (draft : Draft) (stop : Stop) → walked tree ≡ Ok draft
    → Answers {A = Core} (finished (first_undefined tree) draft) (Err stop) → Answers {A = Typed} (checked tree) (Err stop)
stopped tree draft (stop.Broken f) walk told = checked_broken tree draft f walk told
stopped tree draft stop.NoMemory walk told = tt

pub checked_stops : (tree : Tree) (undefined : Option ℕ) (draft : Draft) (stop : Stop) (r : Result Typed Stop)
    → walked tree ≡ Ok draft → undefined ≡ first_undefined tree → Answers {A = Core} (finished undefined draft) (Err stop)
    → r ≡ Err stop → Answers (checked tree) r
checked_stops tree undefined draft stop r walk calls stops told =
    subst (λ (x : Result Typed Stop). Answers (checked tree) x) (sym told)
    (stopped tree draft stop walk (subst (λ (x : Option ℕ). Answers {A = Core} (finished x draft) (Err stop)) calls stops))

pub walk_broken : (tree : Tree) (f : Fault) → walked tree ≡ Err f → checked tree ≡ Err f
unfolding checked
walk_broken tree f walk = rw walk refl

-- What a text spells fits but for what it calls: declarations.
use Rattle.std.proofs.Common.{◌≡◌, ℕ, Bool, true, List, map, Option, refl, ◌∙◌, rules}
use Rattle.c_tree.specs.declared.declarations.Duration.{Duration}
use Rattle.c_tree.specs.declared.declarations.Declr.{Declr}
use Rattle.c_tree.specs.declared.declarations.Initial.{Initial, fold-Initial, the_lemmas}
use Rattle.c_tree.specs.declared.declarations.Initial.TheVariants as initial
use Rattle.c_tree.specs.declared.declarations.Initial.TheOpen.{Initial-F}
use Rattle.c_tree.specs.declared.declarations.Init.{Init}
use Rattle.c_tree.specs.declared.declarations.Declaration.{Declaration}
use Rattle.c_tree.specs.declared.expression.Expr.{Expr}
use Rattle.c_parse_expr.specs.TypeWords.{Tokens}
use Rattle.c_parse_stmt.specs.Repeats.{SpellsCommas}
use Rattle.c_parse_stmt.specs.Declarations.{Lasts, Declares, SpellsInitial, SpellsInitials, Initialises, SpellsInit, SpellsDeclaration}
use Rattle.c_checking_laws.specs.Fitting.{each_is, if_there, initial_step, initial_fits, init_fits, inits_fit}
use Rattle.c_fitting_laws.specs.Spelled.{InRange, any}
use Rattle.c_fitting_laws.proofs.ExprCalls.{both_are}
use Rattle.c_fitting_laws.proofs.Rests.{spec_rest, stars_rest}
use Rattle.c_fitting_laws.proofs.ExprTexts.{spells_fit, bounds_rest}

pub lasts_rest : {x : Duration} {ts rest : Tokens} → Lasts x ts rest → InRange ts → InRange rest
lasts_rest (Lasts.lasts is named) in_range = in_range.1.1

pub declares_rest : {d : Declr} {ts rest : Tokens} → Declares d ts rest → InRange ts → InRange rest
declares_rest (Declares.declares a is b) in_range = bounds_rest b (stars_rest a in_range).1

-- ---- initialisers

-- for any step, which does not compute
module _ (step : Initial-F Bool → Bool) where
  by-Assign : (e : Expr) → fold-Initial Bool step (initial.Assign e) ≡ step (Initial-F.Assign e)
  by-Assign e = search (rules, the_lemmas)

  by-List : (items : List Initial) (comma : Bool) (line : ℕ)
      → fold-Initial Bool step (initial.List items comma line)
      ≡ step (Initial-F.List (map (fold-Initial Bool step) items) comma line)
  by-List items comma line = search (rules, the_lemmas)

abbrev all_initials : List Initial → Bool
all_initials is = each_is (λ b. b) (map (initial_fits any) is)

mutual
  initial_fit : {i : Initial} {ts rest : Tokens} → SpellsInitial i ts rest → InRange ts
      → (initial_fits any i ≡ true) × InRange rest
  initial_fit (SpellsInitial.valued {e} s b) in_range =
      let w = spells_fit s in_range in (by-Assign (initial_step any) e ∙ w.0, w.1)
  initial_fit (SpellsInitial.braced {t} {is} {comma} opened s close) in_range =
      let w = initials_fit s in_range.1 in (by-List (initial_step any) is comma t.line ∙ w.0, w.1.1)

  initials_fit : {is : List Initial} {comma : Bool} {ts rest : Tokens} → SpellsInitials is comma ts rest → InRange ts
      → (all_initials is ≡ true) × InRange rest
  initials_fit (SpellsInitials.last_item {i} s) in_range =
      let w = initial_fit s in_range in (both_are (initial_fits any i) true w.0 refl, w.1)
  initials_fit (SpellsInitials.last_comma {i} s is) in_range =
      let w = initial_fit s in_range in (both_are (initial_fits any i) true w.0 refl, w.1.1)
  initials_fit (SpellsInitials.next_item {i} {is = more} s is others) in_range =
      let w = initial_fit s in_range in
      let v = initials_fit others w.1.1 in (both_are (initial_fits any i) (all_initials more) w.0 v.0, v.1)

initialises_fit : {i : Option Initial} {ts rest : Tokens} → Initialises i ts rest → InRange ts
    → (if_there (initial_fits any) i ≡ true) × InRange rest
initialises_fit Initialises.without in_range = (refl, in_range)
initialises_fit (Initialises.with_value is s) in_range = initial_fit s in_range.1

-- ---- declarators

init_fit : {i : Init} {ts rest : Tokens} → SpellsInit i ts rest → InRange ts → (init_fits any i ≡ true) × InRange rest
init_fit (SpellsInit.inits a b) in_range = initialises_fit b (declares_rest a in_range)

pub all_inits : {is : List Init} {ts rest : Tokens} → SpellsCommas SpellsInit is ts rest → InRange ts
    → (inits_fit any is ≡ true) × InRange rest
all_inits (SpellsCommas.last {x} s) in_range =
    let w = init_fit s in_range in (both_are (init_fits any x) true w.0 refl, w.1)
all_inits (SpellsCommas.further {x} {xs} s is more) in_range =
    let w = init_fit s in_range in
    let v = all_inits more w.1.1 in (both_are (init_fits any x) (inits_fit any xs) w.0 v.0, v.1)

pub declaration_fit : {x : Declaration} {ts rest : Tokens} → SpellsDeclaration x ts rest → InRange ts
    → (inits_fit any x.inits ≡ true) × InRange rest
declaration_fit (SpellsDeclaration.declaring a s is) in_range =
    let w = all_inits s (spec_rest a in_range) in (w.0, w.1.1)

-- What a text spells fits but for what it calls: whole sources.
use Rattle.std.proofs.Common.{◌≡◌, ℕ, nat_le, true, false, List, [], ◌∷◌, length, Option, refl}
use Rattle.c_tree.specs.declared.declarations.Duration.{Duration}
use Rattle.c_tree.specs.declared.declarations.Declr.{Declr}
use Rattle.c_tree.specs.declared.declarations.Init.{Init}
use Rattle.c_tree.specs.declared.expression.Expr.{Expr}
use Rattle.c_tree.specs.declared.statements.Compound.{Compound}
use Rattle.c_tree.specs.declared.unit.Member.{Member}
use Rattle.c_tree.specs.declared.unit.Struct.{Struct}
use Rattle.c_tree.specs.declared.unit.Param.{Param}
use Rattle.c_tree.specs.declared.unit.Params.{Params}
use Rattle.c_tree.specs.declared.unit.Params.TheVariants as params
use Rattle.c_tree.specs.declared.unit.Function.{Function}
use Rattle.c_tree.specs.declared.unit.External.{External}
use Rattle.c_tree.specs.declared.unit.Tree.{Tree}
use Rattle.c_parse_expr.specs.TypeWords.{Tokens}
use Rattle.c_parse_stmt.specs.Repeats.{SpellsCommas, SpellsMany}
use Rattle.c_parse_stmt.specs.Declarations.{Declares}
use Rattle.c_parse.specs.Externals.{SpellsMember, SpellsStruct, SpellsTitle, SpellsSize, SpellsBrackets, Parametrises, Takes, all_named, named_in, Ends, SpellsFunction, SpellsLifetime, SpellsInits, SpellsExternal, SpellsTree}
use Rattle.c_checking.specs.Functions.{listed}
use Rattle.c_checking_laws.specs.Fitting.{each_is, inits_fit, compound_fits, bounds_fit, param_fits, is_named, has_declr, struct_fits, body_fits, function_fits, external_fits}
use Rattle.c_fitting_laws.specs.Spelled.{InRange, any, TextFits, SpelledFits}
use Rattle.c_fitting_laws.proofs.ExprCalls.{both_are}
use Rattle.c_fitting_laws.proofs.Rests.{keyword_rest, spec_rest, stars_rest, commas_rest}
use Rattle.c_fitting_laws.proofs.ExprTexts.{spells_fit, bounds_rest}
use Rattle.c_fitting_laws.proofs.DeclarationTexts.{lasts_rest, declares_rest, all_inits, declaration_fit}
use Rattle.c_fitting_laws.proofs.StatementTexts.{composes_fit, one_or_more}
use Rattle.c_fitting_laws.proofs.StmtCalls.{calls_fit}

-- ---- structs

declr_rest : (x : Declr) (ts rest : Tokens) → Declares x ts rest → InRange ts → InRange rest
declr_rest x ts rest s in_range = declares_rest s in_range

some_declr : {ds : List Declr} {ts rest : Tokens} → SpellsCommas Declares ds ts rest → nat_le 1 (length ds) ≡ true
some_declr (SpellsCommas.last s) = one_or_more 0
some_declr (SpellsCommas.further {xs} s is more) = one_or_more (length xs)

member_fit : {x : Member} {ts rest : Tokens} → SpellsMember x ts rest → InRange ts → (has_declr x ≡ true) × InRange rest
member_fit (SpellsMember.members a s is) in_range =
    (some_declr s, (commas_rest declr_rest s (spec_rest a in_range)).1)

members_fit : {xs : List Member} {ts rest : Tokens} → SpellsMany SpellsMember xs ts rest → InRange ts
    → (each_is has_declr xs ≡ true) × InRange rest
members_fit SpellsMany.no_more in_range = (refl, in_range)
members_fit (SpellsMany.one_more {x} {xs} s more) in_range =
    let w = member_fit s in_range in
    let v = members_fit more w.1 in (both_are (has_declr x) (each_is has_declr xs) w.0 v.0, v.1)

struct_fit : {s : Struct} {ts rest : Tokens} → SpellsStruct s ts rest → InRange ts → (struct_fits s ≡ true) × InRange rest
struct_fit (SpellsStruct.structure {x} {xs} is named opened s close) in_range =
    let w = members_fit s in_range.1.1.1 in
    (both_are (nat_le 1 (length (x ∷ xs))) (each_is has_declr (x ∷ xs)) (one_or_more (length xs)) w.0, w.1.1)

-- ---- functions

title_rest : {n : Option (List ℕ)} {ts rest : Tokens} → SpellsTitle n ts rest → InRange ts → InRange rest
title_rest SpellsTitle.untitled in_range = in_range
title_rest (SpellsTitle.titled is) in_range = in_range.1

size_rest : {e : Option Expr} {ts rest : Tokens} → SpellsSize e ts rest → InRange ts → InRange rest
size_rest SpellsSize.unsized in_range = in_range
size_rest (SpellsSize.sized s b) in_range = (spells_fit s in_range).1

brackets_fit : {e : Option (Option Expr)} {es : List Expr} {ts rest : Tokens} → SpellsBrackets e es ts rest → InRange ts
    → (bounds_fit e es ≡ true) × InRange rest
brackets_fit SpellsBrackets.no_bracket in_range = (refl, in_range)
brackets_fit (SpellsBrackets.a_bracket opened s close b) in_range = (refl, bounds_rest b (size_rest s in_range.1).1)

param_fit : {p : Param} {ts rest : Tokens} → Parametrises p ts rest → InRange ts → (param_fits p ≡ true) × InRange rest
param_fit (Parametrises.parametrises a b n s) in_range =
    brackets_fit s (title_rest n (stars_rest b (spec_rest a in_range)))

params_fit : {ps : List Param} {ts rest : Tokens} → SpellsCommas Parametrises ps ts rest → InRange ts
    → (each_is param_fits ps ≡ true) × InRange rest
params_fit (SpellsCommas.last {x} s) in_range =
    let w = param_fit s in_range in (both_are (param_fits x) true w.0 refl, w.1)
params_fit (SpellsCommas.further {x} {xs} s is more) in_range =
    let w = param_fit s in_range in
    let v = params_fit more w.1.1 in (both_are (param_fits x) (each_is param_fits xs) w.0 v.0, v.1)

takes_fit : {ps : Params} {ts rest : Tokens} → Takes ps ts rest → InRange ts
    → (each_is param_fits (listed ps) ≡ true) × InRange rest
takes_fit (Takes.nothing_taken b) in_range = (refl, keyword_rest b in_range)
takes_fit (Takes.taken s plain) in_range = params_fit s in_range

same_named : (ps : List Param) → each_is is_named ps ≡ all_named ps
same_named [] = refl
same_named (p ∷ ps) = rw (same_named ps) refl

all_are_named : (ps : Params) → named_in ps ≡ true → each_is is_named (listed ps) ≡ true
all_are_named (params.Void is_written) h = refl
all_are_named (params.List ps) h = rw (same_named ps) h

ends_fit : {ps : Params} {body : Option Compound} {ts rest : Tokens} → Ends ps body ts rest → InRange ts
    → (body_fits any (listed ps) body ≡ true) × InRange rest
ends_fit (Ends.prototype is) in_range = (refl, in_range.1)
ends_fit (Ends.with_body {ps} {body} named s) in_range =
    let w = composes_fit s in_range in
    (both_are (each_is is_named (listed ps)) (compound_fits any body false false) (all_are_named ps named) w.0, w.1)

function_fit : {f : Function} {ts rest : Tokens} → SpellsFunction f ts rest → InRange ts
    → (function_fits any f ≡ true) × InRange rest
function_fit (SpellsFunction.function {ps} {body} a b is opened s close e) in_range =
    let w = takes_fit s (stars_rest b (spec_rest a in_range)).1.1 in
    let v = ends_fit e w.1.1 in
    (both_are (each_is param_fits (listed ps)) (body_fits any (listed ps) body) w.0 v.0, v.1)

-- ---- the whole

lifetime_rest : {life : Option Duration} {ts rest : Tokens} → SpellsLifetime life ts rest → InRange ts → InRange rest
lifetime_rest SpellsLifetime.for_ever in_range = in_range
lifetime_rest (SpellsLifetime.expires_after is opened s close) in_range = (lasts_rest s in_range.1.1).1

some_inits_fit : {is : List Init} {ts rest : Tokens} → SpellsInits is ts rest → InRange ts
    → (inits_fit any is ≡ true) × InRange rest
some_inits_fit SpellsInits.no_inits in_range = (refl, in_range)
some_inits_fit (SpellsInits.some_inits s) in_range = all_inits s in_range

external_fit : {x : External} {ts rest : Tokens} → SpellsExternal x ts rest → InRange ts
    → (external_fits any x ≡ true) × InRange rest
external_fit (SpellsExternal.a_struct {s = x} {is} s i close) in_range =
    let w = struct_fit s in_range in
    let v = some_inits_fit i w.1 in (both_are (struct_fits x) (inits_fit any is) w.0 v.0, v.1.1)
external_fit (SpellsExternal.a_function b s) in_range = function_fit s (keyword_rest b in_range)
external_fit (SpellsExternal.a_declaration b l s) in_range = declaration_fit s (lifetime_rest l (keyword_rest b in_range))

externals_fit : {xs : List External} {ts rest : Tokens} → SpellsMany SpellsExternal xs ts rest → InRange ts
    → each_is (external_fits any) xs ≡ true
externals_fit SpellsMany.no_more in_range = refl
externals_fit (SpellsMany.one_more {x} {xs} s more) in_range =
    let w = external_fit s in_range in
    both_are (external_fits any x) (each_is (external_fits any) xs) w.0 (externals_fit more w.1)

pub text_fits : (tree : Tree) (ts : Tokens) → TextFits tree ts
text_fits _ ts in_range (SpellsTree.spells_tree s) = externals_fit s in_range

pub spelled_fits : (tree : Tree) (ts : Tokens) → SpelledFits tree ts
spelled_fits tree ts in_range s none = calls_fit tree (text_fits tree ts in_range s) none

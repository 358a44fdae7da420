-- What a declarator comes to that a brace list initialises.
use Rattle.std.proofs.Common.{◌≡◌, ℕ, zero, suc, ◌+◌, ◌<◌, ◌≤◌, ◌⊎◌, inl, inr, min, Bool, true, false, List, [], ◌∷◌, ◌++◌, length, get_or, set, drop, Option, None, Some, Ok, Err, refl, ap, sym, ◌∙◌, arith, append_assoc, append-nil, rules}
use Rattle.std.specs.Prelude.{◌||◌, slice_get, Result}
use Rattle.std.proofs.lemmas.Bool.{cases_lt}
use Rattle.std.proofs.lemmas.List.{drop_all, drop_more, drop-set-lt, get_or_default}
use Rattle.std.proofs.lemmas.Option.{get_or_from_slice_get, slice_get_within, slice_get-get_or, slice_get_past}
use Rattle.base16.specs.declared.image.Kind.TheVariants as kind
use Rattle.c_tree.specs.declared.declarations.Initial.{Initial, out-Initial, the_lemmas}
use Rattle.c_tree.specs.declared.declarations.Initial.TheOpen.{Initial-F}
use Rattle.c_tree.specs.declared.declarations.Initial.TheVariants as source
use Rattle.core_tree.specs.declared.types.Ty.{Ty}
use Rattle.core_tree.specs.declared.types.Slot.{Slot}
use Rattle.core_tree.specs.declared.types.Struct.{Struct}
use Rattle.core_tree.specs.declared.expressions.Expr.{Expr}
use Rattle.core_tree.specs.declared.statements.Init.{Init as Store}
use Rattle.core_tree.specs.declared.program.Initial.{Initial as Value}
use Rattle.core_tree.specs.Layout.{layout}
use Rattle.c_typing.specs.declared.fault.Rule.{Rule}
use Rattle.c_typing.specs.declared.fault.Fault.{Fault}
use Rattle.c_typing.specs.declared.fault.Stop.{Stop}
use Rattle.c_typing.specs.declared.fault.Stop.TheVariants.{Broken, NoMemory}
use Rattle.c_typing.specs.declared.environment.Env.{Env}
use Rattle.c_typing.specs.Outcome.{Outcome, Answers, ◌>>=◌, broken}
use Rattle.c_checking.specs.Declarators.{settled, object_rule}
use Rattle.c_checking.specs.Initialisers.{Filled, Given, any, is_constant, is_list, is_list_layer, initialised, initialised_by, item, leaves, stores, stored, initials, begun, value_in}
use Rattle.c_initialisers.specs.declared.lists.Put.{Put}
use Rattle.c_initialisers.specs.Lists.{given_of, all_given, initial_at, initial_from, HasPut}

-- ---- stores

abbrev no_slot : Slot
no_slot = record { offset = 0; kind = kind.Int }

stores_turn : (slots : List Slot) (slot : Slot) (rest more : List (Option Put)) (at : ℕ) (p : Option Put) (made : List Store)
    (s : Store) → at < length slots → slot ≡ get_or slots at slot → slice_get rest at ≡ Some p → more ≡ set rest at None
    → s ≡ record { offset = slot.offset; value = value_in (given_of p); marked = true }
    → made ++ stores true (drop at slots) (all_given (drop at rest))
    ≡ (made ++ s ∷ []) ++ stores true (drop (at + 1) slots) (all_given (drop (at + 1) more))
stores_turn slots slot rest more at p made s h is found e store =
    let within : at < length rest = slice_get_within rest at p found in
    let here : get_or rest at None ≡ p = get_or_from_slice_get rest at p None found in
    let left : drop at slots ≡ slot ∷ drop (at + 1) slots =
    drop_more slots at slot h ∙ ap (λ x. x ∷ drop (at + 1) slots) (sym is) in
    let right : drop at rest ≡ p ∷ drop (at + 1) rest =
    drop_more rest at None within ∙ ap (λ x. x ∷ drop (at + 1) rest) here in
    let low : at < at + 1 = omega arith in
    let behind : drop (at + 1) rest ≡ drop (at + 1) more =
    sym (ap (drop (at + 1)) e ∙ drop-set-lt (at + 1) rest at None low) in
    ap (λ xs. made ++ stores true xs (all_given (drop at rest))) left
    ∙ (ap (λ ps. made ++ stores true (slot ∷ drop (at + 1) slots) (all_given ps)) right
    ∙ (ap (λ x. made ++ x ∷ stores true (drop (at + 1) slots) (all_given (drop (at + 1) rest))) (sym store)
    ∙ (ap (λ ps. made ++ s ∷ stores true (drop (at + 1) slots) (all_given ps)) behind
    ∙ sym (append_assoc made (s ∷ []) (stores true (drop (at + 1) slots) (all_given (drop (at + 1) more)))))))

pub stores_more : (slots : List Slot) (d : Slot) (rest more : List (Option Put)) (at : ℕ) (p : Option Put) (made all : List Store)
    (v : Option Expr) → at < length slots → slice_get rest at ≡ Some p → more ≡ set rest at None → v ≡ value_in (given_of p)
    → all ≡ made ++ record { offset = (get_or slots at d).offset; value = v; marked = true } ∷ []
    → made ++ stores true (drop at slots) (all_given (drop at rest))
    ≡ all ++ stores true (drop (at + 1) slots) (all_given (drop (at + 1) more))
stores_more slots d rest more at p made all v h found e value is =
    let slot : Slot = get_or slots at d in
    let s : Store = record { offset = slot.offset; value = v; marked = true } in
    let store : s ≡ record { offset = slot.offset; value = value_in (given_of p); marked = true } =
    ap (λ (x : Option Expr). let y : Store = record { offset = slot.offset; value = x; marked = true } in y) value in
    stores_turn slots slot rest more at p made s h (get_or_default slots at d slot h) found e store
    ∙ ap (λ (ss : List Store). ss ++ stores true (drop (at + 1) slots) (all_given (drop (at + 1) more))) (sym is)

stores_none : (slots : List Slot) → stores true slots [] ≡ []
stores_none [] = refl
stores_none (slot ∷ slots) = refl

stores_over : (slots : List Slot) (rest : List (Option Put)) (at : ℕ) → min (length slots) (length rest) ≤ at
    → stores true (drop at slots) (all_given (drop at rest)) ≡ []
stores_over [] rest zero h = refl
stores_over [] rest (suc at) h = refl
stores_over (slot ∷ slots) [] zero h = refl
stores_over (slot ∷ slots) [] (suc at) h = stores_none (drop at slots)
stores_over (slot ∷ slots) (p ∷ rest) zero h = absurd (omega arith)
stores_over (slot ∷ slots) (p ∷ rest) (suc at) h = stores_over slots rest at (omega arith)

pub stores_end : (slots : List Slot) (rest : List (Option Put)) (at : ℕ) (made : List Store) → min (length slots) (length rest) ≤ at
    → made ++ stores true (drop at slots) (all_given (drop at rest)) ≡ made
stores_end slots rest at made h = ap (λ ss. made ++ ss) (stores_over slots rest at h) ∙ append-nil made

-- ---- constants

initials_one : (structs : List Struct) (slot : Slot) (slots : List Slot) (vs : List (Option Given)) (at : ℕ)
    → (at < length vs) ⊎ (length vs ≤ at)
    → initials structs (slot ∷ slots) (drop at vs) ≡ initial_at structs vs at ∷ initials structs slots (drop (at + 1) vs)
initials_one structs slot slots vs at (inl low) =
    ap (initials structs (slot ∷ slots)) (drop_more vs at None low)
    ∙ ap (λ v. initial_from structs v ∷ initials structs slots (drop (at + 1) vs)) (sym (slice_get-get_or vs at None low))
initials_one structs slot slots vs at (inr high) =
    ap (initials structs (slot ∷ slots)) (drop_all at vs high)
    ∙ (ap (λ v. initial_from structs v ∷ initials structs slots []) (sym (slice_get_past vs at high))
    ∙ ap (λ xs. initial_at structs vs at ∷ initials structs slots xs) (sym (drop_all (at + 1) vs (omega arith))))

pub initials_turn : (structs : List Struct) (slots : List Slot) (vs : List (Option Given)) (at : ℕ) (made : List Value) (v : Value)
    → at < length slots → v ≡ initial_at structs vs at
    → made ++ initials structs (drop at slots) (drop at vs)
    ≡ (made ++ v ∷ []) ++ initials structs (drop (at + 1) slots) (drop (at + 1) vs)
initials_turn structs slots vs at made v h e =
    let more : List Slot = drop (at + 1) slots in
    ap (λ xs. made ++ initials structs xs (drop at vs)) (drop_more slots at no_slot h)
    ∙ (ap (λ xs. made ++ xs) (initials_one structs (get_or slots at no_slot) more vs at (cases_lt at (length vs)))
    ∙ (ap (λ x. made ++ x ∷ initials structs more (drop (at + 1) vs)) (sym e)
    ∙ sym (append_assoc made (v ∷ []) (initials structs more (drop (at + 1) vs)))))

pub initials_end : (structs : List Struct) (slots : List Slot) (vs : List (Option Given)) (at : ℕ) (made : List Value)
    → length slots ≤ at → made ++ initials structs (drop at slots) (drop at vs) ≡ made
initials_end structs slots vs at made h =
    ap (λ xs. made ++ initials structs xs (drop at vs)) (drop_all at slots h) ∙ append-nil made

-- ---- declarators

abbrev values : Outcome Filled → Outcome (List (Option Given))
values o = o >>= λ f. Ok f.values

module _ (env : Env) (line : ℕ) (t : Ty) (i : Initial) where
  abbrev put_by : (Expr → Bool) → Outcome Filled
  put_by may = item env may i (leaves env.structs t)

  list_layer : (may : Expr → Bool) (l : Initial-F Initial) → is_list_layer l ≡ true
      → initialised_by env may t i l ≡ (put_by may >>= λ f. Ok (Ok f.values))
  list_layer may (Initial-F.Assign e) h = absurd (cc)
  list_layer may (Initial-F.List items comma at) h = refl

  free_case : (o : Outcome Filled) → settled line None (o >>= λ f. Ok (Ok f.values)) ≡ values o
  free_case (Err f) = refl
  free_case (Ok a) = refl

  ruled_case : (rule : Rule) (o : Outcome Filled)
      → settled line (Some rule) (o >>= λ f. let x : Outcome (Result (List (Option Given)) Rule) = Ok (Ok f.values) in x) ≡ broken rule line
  ruled_case rule (Err f) = refl
  ruled_case rule (Ok a) = refl

  settled_free : (may : Expr → Bool) → is_list (Some i) ≡ true → object_rule env t ≡ None
      → settled line (object_rule env t) (initialised env may t (Some i)) ≡ values (put_by may)
  settled_free may h free =
      ap (λ rule. settled line rule (initialised env may t (Some i))) free
      ∙ (ap (settled line None) (list_layer may (out-Initial i) h) ∙ free_case (put_by may))

  settled_ruled : (may : Expr → Bool) (rule : Rule) → is_list (Some i) ≡ true → object_rule env t ≡ Some rule
      → settled line (object_rule env t) (initialised env may t (Some i)) ≡ broken rule line
  settled_ruled may rule h e =
      ap (λ r. settled line r (initialised env may t (Some i))) e
      ∙ (ap (settled line (Some rule)) (list_layer may (out-Initial i) h) ∙ ruled_case rule (put_by may))

  abbrev stores_in : Bool → Outcome (List (Option Given)) → Outcome (List Store)
  stores_in marked o = o >>= λ vs. Ok (stores marked (layout env.structs t).slots vs)

  or_true : (b c : Bool) → c ≡ true → (b || c) ≡ true
  or_true true c e = refl
  or_true false c e = e

  pub list_ruled : (rule : Rule) → is_list (Some i) ≡ true → object_rule env t ≡ Some rule
      → stored env line t (Some i) ≡ broken rule line
  unfolding stored
  list_ruled rule h e = ap (stores_in (env.inside || is_list (Some i))) (settled_ruled any rule h e)

  list_broken : (f : Fault) → is_list (Some i) ≡ true → object_rule env t ≡ None → put_by any ≡ Err f
      → stored env line t (Some i) ≡ Err f
  unfolding stored
  list_broken f h free e =
      ap (stores_in (env.inside || is_list (Some i))) (settled_free any h free ∙ ap values e)

  list_stored : (puts : List (Option Put)) → is_list (Some i) ≡ true → object_rule env t ≡ None
      → values (put_by any) ≡ Ok (all_given puts)
      → stored env line t (Some i) ≡ Ok (stores true (layout env.structs t).slots (all_given puts))
  unfolding stored
  list_stored puts h free e =
      ap (stores_in (env.inside || is_list (Some i))) (settled_free any h free ∙ e)
      ∙ ap (λ marked. stores_in marked (Ok (all_given puts))) (or_true env.inside (is_list (Some i)) h)

  pub list_made : (puts : List (Option Put)) (slots : List Slot) (made : List Store) → is_list (Some i) ≡ true
      → object_rule env t ≡ None → values (put_by any) ≡ Ok (all_given puts) → slots ≡ (layout env.structs t).slots
      → made ≡ stores true slots (all_given puts) → stored env line t (Some i) ≡ Ok made
  list_made puts slots made h free e at_slots is =
      list_stored puts h free e
      ∙ ap (λ ss. let o : Outcome (List Store) = Ok ss in o)
      (ap (λ xs. stores true xs (all_given puts)) (sym at_slots) ∙ sym is)

  pub list_stopped : (stop : Stop) → is_list (Some i) ≡ true → object_rule env t ≡ None → HasPut (put_by any) (Err stop)
      → Answers (stored env line t (Some i)) (Err stop)
  list_stopped (Broken f) h free e = list_broken f h free e
  list_stopped NoMemory h free e = tt

  abbrev initials_in : Outcome (List (Option Given)) → Outcome (List Value)
  initials_in o = o >>= λ vs. Ok (initials env.structs (layout env.structs t).slots vs)

  pub list_begun_ruled : (rule : Rule) → is_list (Some i) ≡ true → object_rule env t ≡ Some rule
      → begun env line t (Some i) ≡ broken rule line
  unfolding begun
  list_begun_ruled rule h e = ap initials_in (settled_ruled (is_constant env.structs) rule h e)

  list_begun_broken : (f : Fault) → is_list (Some i) ≡ true → object_rule env t ≡ None
      → put_by (is_constant env.structs) ≡ Err f → begun env line t (Some i) ≡ Err f
  unfolding begun
  list_begun_broken f h free e = ap initials_in (settled_free (is_constant env.structs) h free ∙ ap values e)

  list_begun : (puts : List (Option Put)) → is_list (Some i) ≡ true → object_rule env t ≡ None
      → values (put_by (is_constant env.structs)) ≡ Ok (all_given puts)
      → begun env line t (Some i) ≡ Ok (initials env.structs (layout env.structs t).slots (all_given puts))
  unfolding begun
  list_begun puts h free e = ap initials_in (settled_free (is_constant env.structs) h free ∙ e)

  pub list_valued : (puts : List (Option Put)) (slots : List Slot) (made : List Value) → is_list (Some i) ≡ true
      → object_rule env t ≡ None → values (put_by (is_constant env.structs)) ≡ Ok (all_given puts)
      → slots ≡ (layout env.structs t).slots → made ≡ initials env.structs slots (all_given puts)
      → begun env line t (Some i) ≡ Ok made
  list_valued puts slots made h free e at_slots is =
      list_begun puts h free e
      ∙ ap (λ ss. let o : Outcome (List Value) = Ok ss in o)
      (ap (λ xs. initials env.structs xs (all_given puts)) (sym at_slots) ∙ sym is)

  pub list_begun_stopped : (stop : Stop) → is_list (Some i) ≡ true → object_rule env t ≡ None
      → HasPut (put_by (is_constant env.structs)) (Err stop) → Answers (begun env line t (Some i)) (Err stop)
  list_begun_stopped (Broken f) h free e = list_begun_broken f h free e
  list_begun_stopped NoMemory h free e = tt

pub is_a_list : (i : Initial) (items : List Initial) (comma : Bool) (at : ℕ) → i ≡ source.List items comma at
    → is_list (Some i) ≡ true
is_a_list i items comma at h =
    let e : out-Initial (source.List items comma at) ≡ Initial-F.List items comma at = search (rules, the_lemmas) in
    ap (λ x. is_list (Some x)) h ∙ ap is_list_layer e

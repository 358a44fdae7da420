-- What a declarator comes to that is initialised by an expression or not at all, and where its one scalar lies.
use Rattle.std.proofs.Common.{◌≡◌, ℕ, ◌+◌, ◌<◌, ◌≤◌, Bool, true, false, List, [], ◌∷◌, ◌++◌, length, get_or, drop, Option, None, Some, Ok, Err, refl, ap, sym, ◌∙◌, rules, add-one, drop-cons, append_assoc, append-nil}
use Rattle.std.proofs.lemmas.List.{drop_all}
use Rattle.std.specs.Prelude.{if◌then◌else◌, ◌||◌, is_some, pos}
use Rattle.base16.specs.declared.integer.IntType.{IntType}
use Rattle.base16.specs.declared.integer.IntType.TheVariants as int
use Rattle.base16.specs.declared.image.Kind.TheVariants as kind
use Rattle.c_tree.specs.declared.expression.Expr.{Expr as Source}
use Rattle.c_tree.specs.declared.declarations.Initial.{Initial, out-Initial, the_lemmas as initial_lemmas}
use Rattle.c_tree.specs.declared.declarations.Initial.TheOpen.{Initial-F}
use Rattle.c_tree.specs.declared.declarations.Initial.TheVariants as source
use Rattle.core_tree.specs.declared.types.Ty.{Ty, out-Ty, map-Ty, the_lemmas}
use Rattle.core_tree.specs.declared.types.Ty.TheOpen.{Ty-F}
use Rattle.core_tree.specs.declared.types.Slot.{Slot}
use Rattle.core_tree.specs.declared.types.Struct.{Struct}
use Rattle.core_tree.specs.declared.expressions.Expr.{Expr}
use Rattle.core_tree.specs.declared.statements.Init.{Init as Store}
use Rattle.core_tree.specs.declared.program.Initial.{Initial as Value}
use Rattle.core_tree.specs.declared.program.Initial.TheVariants as initial
use Rattle.core_tree.specs.Layout.{Layout, layout, layouts, layout_in, layout_step, integer, kind_of_int, kind_of_layer}
use Rattle.c_typing.specs.declared.fault.Rule.{Rule}
use Rattle.c_typing.specs.declared.fault.Rule.TheVariants.{NotConstant}
use Rattle.c_typing.specs.declared.fault.Fault.{Fault}
use Rattle.c_typing.specs.declared.environment.Env.{Env}
use Rattle.c_typing.specs.Outcome.{Outcome, ◌>>=◌, broken}
use Rattle.c_typing.specs.Values.{converted, convert_by}
use Rattle.c_checking.specs.Declarators.{settled, object_rule, value_of, converted_value}
use Rattle.c_checking.specs.Constants.{initial_value}
use Rattle.c_checking.specs.Initialisers.{Given, any, whole, is_constant, is_list, is_list_layer, or_zero, initialised, initialised_by, stores, stored, initials, begun}
use Rattle.c_initialisers.specs.Found.{assigned, settled_value}

abbrev pub given : ℕ → Expr → List (Option Given)
given at e = Some (record { value = e; line = at }) ∷ []

-- its one value, where that may stand there
abbrev pub given_if : ℕ → ℕ → Bool → Expr → Outcome (List (Option Given))
given_if line at may e = if may then Ok (given at e) else broken NotConstant line

given_case : (line at : ℕ) (b : Bool) (e : Expr)
    → settled line None (Ok (if b then Ok (given at e) else Err NotConstant)) ≡ given_if line at b e
given_case line at true e = refl
given_case line at false e = refl

ruled_case : (line at : ℕ) (rule : Rule) (b : Bool) (e : Expr)
    → settled line (Some rule) (Ok (if b then Ok (given at e) else Err NotConstant)) ≡ broken rule line
ruled_case line at rule true e = refl
ruled_case line at rule false e = refl

whole_settled : (line at : ℕ) (rule : Option Rule) (may : Expr → Bool) (o : Outcome (Option Expr))
    → settled line rule (o >>= λ v. Ok (whole may at v))
    ≡ (settled_value line rule o >>= λ e. given_if line at (may e) e)
whole_settled line at None may (Err f) = refl
whole_settled line at None may (Ok None) = refl
whole_settled line at None may (Ok (Some e)) = given_case line at (may e) e
whole_settled line at (Some rule) may (Err f) = refl
whole_settled line at (Some rule) may (Ok None) = refl
whole_settled line at (Some rule) may (Ok (Some e)) = ruled_case line at rule (may e) e

passed : (env : Env) (t : Ty) (e : Source) (may : Expr → Bool) (o : Outcome (Option Expr))
    → (o >>= λ v. Ok (whole may e.line (converted_value t v)))
    ≡ ((o >>= λ v. Ok (converted_value t v)) >>= λ v. Ok (whole may e.line v))
passed env t e may (Err f) = refl
passed env t e may (Ok v) = refl

-- ---- the one scalar of what an expression is assigned to

abbrev pub alone : Ty-F Ty → List Slot
alone l = record { offset = 0; kind = kind_of_layer l } ∷ []

integer_case : (t : IntType) → (integer t).slots ≡ record { offset = 0; kind = kind_of_int t } ∷ []
integer_case int.Char = refl
integer_case int.Int = refl
integer_case int.UInt = refl

layer_case : (known : List Layout) (t : Ty) (l m : Ty-F Ty) (y x : Expr) → convert_by t l m y ≡ Some x
    → (layout_step known (map-Ty Ty Layout (layout_in known) l)).slots ≡ alone l
layer_case known t Ty-F.Void m y x h = absurd (cc)
layer_case known t (Ty-F.Num of) m y x h = integer_case of
layer_case known t (Ty-F.Pointer to readonly) m y x h = refl
layer_case known t (Ty-F.Array of count) m y x h = absurd (cc)
layer_case known t (Ty-F.Struct tag) m y x h = absurd (cc)

layout_opened : (known : List Layout) (t : Ty)
    → layout_in known t ≡ layout_step known (map-Ty Ty Layout (layout_in known) (out-Ty t))
layout_opened known t = search (rules, the_lemmas)

scalar_slots : (structs : List Struct) (t : Ty) (y x : Expr) → converted t y ≡ Some x
    → (layout structs t).slots ≡ alone (out-Ty t)
unfolding converted
scalar_slots structs t y x h =
    ap (λ (l : Layout). l.slots) (layout_opened (layouts structs) t)
    ∙ layer_case (layouts structs) t (out-Ty t) (out-Ty y.ty) y x h

assigned_slots : (structs : List Struct) (t : Ty) (x : Expr) (o : Outcome (Option Expr))
    → (o >>= λ v. Ok (converted_value t v)) ≡ Ok (Some x) → (layout structs t).slots ≡ alone (out-Ty t)
assigned_slots structs t x (Err f) h = absurd (cc)
assigned_slots structs t x (Ok None) h = absurd (cc)
assigned_slots structs t x (Ok (Some y)) h = scalar_slots structs t y x (cc)

settled_is : (line : ℕ) (rule : Option Rule) (o : Outcome (Option Expr)) (x : Expr) → settled_value line rule o ≡ Ok x
    → o ≡ Ok (Some x)
settled_is line None (Err f) x h = absurd (cc)
settled_is line None (Ok None) x h = absurd (cc)
settled_is line None (Ok (Some e)) x h = cc
settled_is line (Some rule) (Err f) x h = absurd (cc)
settled_is line (Some rule) (Ok None) x h = absurd (cc)
settled_is line (Some rule) (Ok (Some e)) x h = absurd (cc)

settled_slots : (env : Env) (line : ℕ) (t : Ty) (e : Source) (x : Expr)
    → settled_value line (object_rule env t) (assigned env t e) ≡ Ok x
    → (layout env.structs t).slots ≡ alone (out-Ty t)
settled_slots env line t e x h =
    assigned_slots env.structs t x (value_of env e) (settled_is line (object_rule env t) (assigned env t e) x h)

-- ---- initialised by an expression

module _ (env : Env) (line : ℕ) (t : Ty) (e : Source) where
  abbrev value_settled : Outcome Expr
  value_settled = settled_value line (object_rule env t) (assigned env t e)

  opened : out-Initial (source.Assign e) ≡ Initial-F.Assign e
  opened = search (rules, initial_lemmas)

  by_value : (may : Expr → Bool)
      → settled line (object_rule env t) (initialised env may t (Some (source.Assign e)))
      ≡ (value_settled >>= λ x. given_if line e.line (may x) x)
  by_value may =
      ap (λ l. settled line (object_rule env t) (initialised_by env may t (source.Assign e) l)) opened
      ∙ ap (settled line (object_rule env t)) (passed env t e may (value_of env e))
      ∙ whole_settled line e.line (object_rule env t) may (assigned env t e)

  or_false : (inside : Bool) → (inside || false) ≡ inside
  or_false true = refl
  or_false false = refl

  abbrev marked : Bool
  marked = env.inside || is_list (Some (source.Assign e))

  marked_case : marked ≡ env.inside
  marked_case = ap (λ (l : Initial-F Initial). env.inside || is_list_layer l) opened ∙ or_false env.inside

  abbrev stores_in : List Slot → List (Option Given) → Outcome (List Store)
  stores_in slots vs = Ok (stores marked slots vs)

  abbrev one_store : Bool → Expr → Outcome (List Store)
  one_store marked x = Ok (record { offset = 0; value = Some x; marked = marked } ∷ [])

  pub stored_is : (x : Expr) → value_settled ≡ Ok x
      → stored env line t (Some (source.Assign e)) ≡ Ok (record { offset = 0; value = Some x; marked = env.inside } ∷ [])
  unfolding stored
  stored_is x h =
      ap (λ vs. vs >>= stores_in (layout env.structs t).slots) (by_value any)
      ∙ (ap (λ v. (v >>= λ x. given_if line e.line (any x) x) >>= stores_in (layout env.structs t).slots) h
      ∙ (ap (λ slots. stores_in slots (given e.line x)) (settled_slots env line t e x h)
      ∙ ap (λ marked. one_store marked x) marked_case))

  pub stored_broken : (f : Fault) → value_settled ≡ Err f → stored env line t (Some (source.Assign e)) ≡ Err f
  unfolding stored
  stored_broken f h =
      ap (λ vs. vs >>= stores_in (layout env.structs t).slots) (by_value any)
      ∙ ap (λ v. (v >>= λ x. given_if line e.line (any x) x) >>= stores_in (layout env.structs t).slots) h

  abbrev initials_in : List Slot → List (Option Given) → Outcome (List Value)
  initials_in slots vs = Ok (initials env.structs slots vs)

  abbrev constant_if : Option Value → Expr → Outcome (List (Option Given))
  constant_if v x = given_if line e.line (is_some v) x

  by_constant : begun env line t (Some (source.Assign e))
      ≡ ((value_settled >>= λ x. constant_if (initial_value env.structs x) x) >>= initials_in (layout env.structs t).slots)
  unfolding begun
  by_constant = ap (λ vs. vs >>= initials_in (layout env.structs t).slots) (by_value (is_constant env.structs))

  at_value : (x : Expr) → value_settled ≡ Ok x → begun env line t (Some (source.Assign e))
      ≡ (constant_if (initial_value env.structs x) x >>= initials_in (alone (out-Ty t)))
  at_value x h =
      by_constant
      ∙ (ap (λ v. (v >>= λ x. constant_if (initial_value env.structs x) x) >>= initials_in (layout env.structs t).slots) h
      ∙ ap (λ slots. constant_if (initial_value env.structs x) x >>= initials_in slots) (settled_slots env line t e x h))

  pub begun_is : (x : Expr) (v : Value) → value_settled ≡ Ok x → initial_value env.structs x ≡ Some v
      → begun env line t (Some (source.Assign e)) ≡ Ok (v ∷ [])
  begun_is x v h constant =
      at_value x h
      ∙ (ap (λ c. constant_if c x >>= initials_in (alone (out-Ty t))) constant
      ∙ ap (λ c. let o : Outcome (List Value) = Ok (or_zero c ∷ []) in o) constant)

  pub begun_not : (x : Expr) → value_settled ≡ Ok x → initial_value env.structs x ≡ None
      → begun env line t (Some (source.Assign e)) ≡ broken NotConstant line
  begun_not x h constant = at_value x h ∙ ap (λ c. constant_if c x >>= initials_in (alone (out-Ty t))) constant

  pub begun_broken : (f : Fault) → value_settled ≡ Err f → begun env line t (Some (source.Assign e)) ≡ Err f
  begun_broken f h =
      by_constant
      ∙ ap (λ v. (v >>= λ x. constant_if (initial_value env.structs x) x) >>= initials_in (layout env.structs t).slots) h

-- ---- without an initialiser

stores_none : (m : Bool) (slots : List Slot) → stores m slots [] ≡ []
stores_none m [] = refl
stores_none m (slot ∷ slots) = refl

module _ (env : Env) (line : ℕ) (t : Ty) where
  pub stored_none : object_rule env t ≡ None → stored env line t None ≡ Ok []
  unfolding stored
  stored_none h =
      ap (λ (rule : Option Rule). settled line rule (Ok (Ok []))
      >>= λ vs. let o : Outcome (List Store) = Ok (stores (env.inside || false) (layout env.structs t).slots vs) in o) h
      ∙ ap (λ s. let o : Outcome (List Store) = Ok s in o) (stores_none (env.inside || false) (layout env.structs t).slots)

  pub stored_ruled : (rule : Rule) → object_rule env t ≡ Some rule → stored env line t None ≡ broken rule line
  unfolding stored
  stored_ruled rule h =
      ap (λ (rule : Option Rule). settled line rule (Ok (Ok []))
      >>= λ vs. let o : Outcome (List Store) = Ok (stores (env.inside || false) (layout env.structs t).slots vs) in o) h

  pub begun_none : object_rule env t ≡ None
      → begun env line t None ≡ Ok (initials env.structs (layout env.structs t).slots [])
  unfolding begun
  begun_none h =
      ap (λ (rule : Option Rule). settled line rule (Ok (Ok []))
      >>= λ vs. let o : Outcome (List Value) = Ok (initials env.structs (layout env.structs t).slots vs) in o) h

  pub begun_ruled : (rule : Rule) → object_rule env t ≡ Some rule → begun env line t None ≡ broken rule line
  unfolding begun
  begun_ruled rule h =
      ap (λ (rule : Option Rule). settled line rule (Ok (Ok []))
      >>= λ vs. let o : Outcome (List Value) = Ok (initials env.structs (layout env.structs t).slots vs) in o) h

-- ---- zeros

abbrev none : Slot
none = record { offset = 0; kind = kind.Int }

next_is : (slots : List Slot) (i : ℕ) → i < length slots → drop i slots ≡ get_or slots i none ∷ drop (i + 1) slots
next_is slots i h = rw (add-one) (drop-cons slots i none h)

pub zeros_turn : (structs : List Struct) (made : List Value) (slots : List Slot) (i : ℕ) → i < length slots
    → made ++ initials structs (drop i slots) []
    ≡ (made ++ initial.Int (pos 0) ∷ []) ++ initials structs (drop (i + 1) slots) []
zeros_turn structs made slots i h =
    rw (next_is slots i h) (sym (append_assoc made (initial.Int (pos 0) ∷ []) (initials structs (drop (i + 1) slots) [])))

pub zeros_end : (structs : List Struct) (made : List Value) (slots : List Slot) (i : ℕ) → length slots ≤ i
    → made ++ initials structs (drop i slots) [] ≡ made
zeros_end structs made slots i h = rw (drop_all i slots h) (append-nil made)

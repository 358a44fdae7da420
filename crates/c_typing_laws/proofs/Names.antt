-- Where an expression stands for a function, it is the function's name, in parentheses or not.
use Rattle.std.proofs.Common.{◌≡◌, ℕ, Bool, true, false, cond, List, [], ◌∷◌, map, length, ◌==◌, slice_get, Option, Some, None, Result, Ok, Err, ℤ, pos, negsuc, nat_lt, refl, sym, ap, ◌∙◌, rules}
use Rattle.c_tree.specs.declared.expression.Expr.{Expr as Source, Expr-F, map-Expr, roll-Expr, the_lemmas as expr_lemmas}
use Rattle.c_tree.specs.declared.expression.ExprKind.{ExprKind as SourceKind, out-ExprKind, roll-ExprKind, map-ExprKind, ind-ExprKind, the_lemmas}
use Rattle.c_tree.specs.declared.expression.ExprKind.TheOpen.{ExprKind-F}
use Rattle.c_tree.specs.declared.expression.ExprKind.TheVariants as k
use Rattle.c_tree.specs.declared.expression.Typename.{Typename}
use Rattle.base16.specs.declared.integer.IntType.TheVariants.{UInt}
use Rattle.base16.specs.declared.operator.BinaryOp.{BinaryOp}
use Rattle.core_tree.specs.declared.types.Ty.{Ty, out-Ty}
use Rattle.core_tree.specs.declared.types.Ty.TheVariants as ty
use Rattle.core_tree.specs.declared.types.Ty.TheOpen.{Ty-F}
use Rattle.core_tree.specs.declared.expressions.Expr.{Expr}
use Rattle.core_tree.specs.declared.expressions.Place.{Place}
use Rattle.core_tree.specs.Layout.{members_of}
use Rattle.core_tree.specs.Rules.{is_integer}
use Rattle.c_rules.specs.Constants.{value as constant_value}
use Rattle.c_typing.specs.declared.fault.Rule.{Rule}
use Rattle.c_typing.specs.declared.fault.Rule.TheVariants.{WrongType, WrongArgs, Incomplete}
use Rattle.c_typing.specs.declared.operand.Operand.{Operand}
use Rattle.c_typing.specs.declared.operand.Operand.TheVariants as operand
use Rattle.c_typing.specs.declared.operand.Builtin.{Builtin}
use Rattle.c_typing.specs.declared.operand.Builtin.TheVariants as builtin
use Rattle.c_typing.specs.declared.environment.Env.{Env}
use Rattle.c_typing.specs.declared.environment.Signature.{Signature}
use Rattle.c_typing.specs.declared.environment.What.{What}
use Rattle.c_typing.specs.declared.environment.What.TheVariants as w
use Rattle.c_typing.specs.Outcome.{Outcome, ◌>>=◌, told}
use Rattle.c_typing.specs.Scopes.{Found, lookup, member_from, is_complete}
use Rattle.c_typing.specs.Values.{placed, value, valued}
use Rattle.c_typing.specs.Places.{pointed_at, at_by, at_values, element, indexed_by, indexed, member_by, member_in, member, arrow_by, arrow, deref_by, deref}
use Rattle.c_typing.specs.Calls.{or_builtin, builtin_named, named, passed, call_of, function_call, channel, sensed, emitted, checkpointed, builtin_call, called}
use Rattle.c_typing.specs.Expressions.{sources, used, operands, channel_line, row, in_order, node, kind_means, means}
use Rattle.c_typing.proofs.Walked.{is_walked}
use Rattle.c_typing_laws.specs.Sound.{fitting}

abbrev pub IsNameOf : Env → Option (List ℕ) → ℕ → Type 0
IsNameOf env None place = ⊥
IsNameOf env (Some name) place = lookup env.names name ≡ Some (w.Function place)

-- ---- rows that make no function

abbrev Never : Result Operand Rule → Type 0
Never r = (place : ℕ) → r ≡ Ok (operand.Function place) → ⊥

never_valued : (m : Result Expr Rule) → Never (valued m)
never_valued (Err rule) place is = search rules
never_valued (Ok e) place is = cc

never_given : (b : Bool) (x : Operand) (rule : Rule) → ((place : ℕ) → x ≡ operand.Function place → ⊥)
    → Never (cond b (Ok x) (Err rule))
never_given true x rule other place is = other place cc
never_given false x rule other place is = search rules

never_pointed : (env : Env) (line : ℕ) (to : Ty) (r : Bool) (a b : Expr) → Never (pointed_at env line to r a b)
never_pointed env line to r a b = never_given (is_complete env to) _ Incomplete (λ place is. cc)

never_at_by : (env : Env) (line : ℕ) (l m : Ty-F Ty) (a b : Expr) → Never (at_by env line l a m b)
never_at_by env line (Ty-F.Pointer to r) (Ty-F.Num t) a b place is = never_pointed env line to r a b place is
never_at_by env line (Ty-F.Num t) (Ty-F.Pointer to r) a b place is = never_pointed env line to r a b place is
never_at_by env line _ _ a b place is = search rules

never_at : (env : Env) (line : ℕ) (a b : Option Expr) → Never (at_values env line a b)
unfolding at_values
never_at env line (Some a) (Some b) place is = never_at_by env line (out-Ty a.ty) (out-Ty b.ty) a b place is
never_at env line _ _ place is = search rules

never_element : (line : ℕ) (p : Place) (r : Bool) (of : Ty) (i : Option Expr) → Never (element line p r of i)
unfolding element
never_element line p r of None place is = search rules
never_element line p r of (Some i) place is = never_given (is_integer i.ty) _ WrongType (λ q at. cc) place is

never_indexed_by : (env : Env) (line : ℕ) (p : Place) (r : Bool) (l : Ty-F Ty) (i : Option Expr)
    → Never (indexed_by env line p r l i)
never_indexed_by env line p r (Ty-F.Array of count) i place is = never_element line p r of i place is
never_indexed_by env line p r _ i place is = never_at env line (value (operand.Place p r)) i place is

never_indexed : (env : Env) (line : ℕ) (a : Operand) (i : Option Expr) → Never (indexed env line a i)
unfolding indexed
never_indexed env line (operand.Place p r) i place is = never_indexed_by env line p r (out-Ty p.ty) i place is
never_indexed env line (operand.Value e) i place is = never_at env line (value (operand.Value e)) i place is
never_indexed env line (operand.Function f) i place is = never_at env line (value (operand.Function f)) i place is
never_indexed env line (operand.Builtin b) i place is = never_at env line (value (operand.Builtin b)) i place is

never_member_by : (env : Env) (line : ℕ) (p : Place) (r : Bool) (tag : ℕ) (m : Option Found)
    → Never (member_by env line p r tag m)
never_member_by env line p r tag None place is = search rules
never_member_by env line p r tag (Some m) place is = cc

never_member_in : (env : Env) (line : ℕ) (name : List ℕ) (p : Place) (r : Bool) (l : Ty-F Ty)
    → Never (member_in env line name p r l)
never_member_in env line name p r (Ty-F.Struct tag) place is =
    never_member_by env line p r tag (member_from 0 name (members_of env.structs tag)) place is
never_member_in env line name p r _ place is = search rules

never_member : (env : Env) (line : ℕ) (name : List ℕ) (a : Operand) → Never (member env line name a)
unfolding member
never_member env line name (operand.Place p r) place is = never_member_in env line name p r (out-Ty p.ty) place is
never_member env line name _ place is = search rules

never_arrow_by : (env : Env) (line : ℕ) (name : List ℕ) (e : Expr) (l : Ty-F Ty) → Never (arrow_by env line name e l)
never_arrow_by env line name e (Ty-F.Pointer to r) place is =
    never_member_in env line name (placed line to _) r (out-Ty to) place is
never_arrow_by env line name e _ place is = search rules

never_arrow : (env : Env) (line : ℕ) (name : List ℕ) (a : Option Expr) → Never (arrow env line name a)
unfolding arrow
never_arrow env line name None place is = search rules
never_arrow env line name (Some e) place is = never_arrow_by env line name e (out-Ty e.ty) place is

never_deref_by : (line : ℕ) (e : Expr) (l : Ty-F Ty) → Never (deref_by line e l)
never_deref_by line e (Ty-F.Pointer to r) place is = cc
never_deref_by line e _ place is = search rules

never_deref : (line : ℕ) (a : Option Expr) → Never (deref line a)
unfolding deref
never_deref line None place is = search rules
never_deref line (Some e) place is = never_deref_by line e (out-Ty e.ty) place is

never_call_of : (line : ℕ) (s : Signature) (args : Option (List Expr)) → Never (call_of line s args)
never_call_of line s None place is = search rules
never_call_of line s (Some args) place is =
    never_given (length args == length s.params) _ WrongArgs (λ q at. cc) place is

never_function_call : (line : ℕ) (s : Option Signature) (xs : List Operand) → Never (function_call line s xs)
never_function_call line None xs place is = search rules
never_function_call line (Some s) xs place is = never_call_of line s (passed s.params xs) place is

never_channel : (line : ℕ) (n : Option ℤ) → Never (channel line n)
never_channel line None place is = search rules
never_channel line (Some (pos n)) place is = never_given (nat_lt n 16) _ WrongArgs (λ q at. cc) place is
never_channel line (Some (negsuc n)) place is = search rules

never_sensed : (line : ℕ) (args : Option (List Expr)) → Never (sensed line args)
never_sensed line None place is = search rules
never_sensed line (Some []) place is = search rules
never_sensed line (Some (e ∷ [])) place is = never_channel line (constant_value e) place is
never_sensed line (Some (e ∷ f ∷ es)) place is = search rules

never_emitted : (line : ℕ) (args : Option (List Expr)) → Never (emitted line args)
never_emitted line None place is = search rules
never_emitted line (Some []) place is = search rules
never_emitted line (Some (e ∷ [])) place is = cc
never_emitted line (Some (e ∷ f ∷ es)) place is = search rules

never_checkpointed : (line : ℕ) (args : Option (List Expr)) → Never (checkpointed line args)
never_checkpointed line None place is = search rules
never_checkpointed line (Some []) place is = cc
never_checkpointed line (Some (e ∷ es)) place is = search rules

never_builtin : (line : ℕ) (b : Builtin) (xs : List Operand) → Never (builtin_call line b xs)
never_builtin line builtin.Sense xs place is = never_sensed line (passed [] xs) place is
never_builtin line builtin.Emit xs place is = never_emitted line (passed (ty.Num UInt ∷ []) xs) place is
never_builtin line builtin.Checkpoint xs place is = never_checkpointed line (passed [] xs) place is

never_called : (env : Env) (line : ℕ) (f : Operand) (xs : List Operand) → Never (called env line f xs)
never_called env line (operand.Function p) xs place is = never_function_call line (slice_get env.functions p) xs place is
never_called env line (operand.Builtin b) xs place is = never_builtin line b xs place is
never_called env line (operand.Value e) xs place is = search rules
never_called env line (operand.Place p r) xs place is = search rules

-- ---- names

function_builtin : (b : Option Builtin) → Never (or_builtin b)
function_builtin None place is = search rules
function_builtin (Some b) place is = cc

named_function : (line : ℕ) (name : List ℕ) (what : Option What) (place : ℕ)
    → named line name what ≡ Ok (operand.Function place) → what ≡ Some (w.Function place)
unfolding named
named_function line name None place is = absurd (function_builtin (builtin_named name) place is)
named_function line name (Some (w.Local n t r)) place is = absurd cc
named_function line name (Some (w.Global n t r)) place is = absurd cc
named_function line name (Some (w.Function p)) place is =
    let e : operand.Function p ≡ operand.Function place = cc in
    let f : p ≡ place = cc in ap (λ q. Some (w.Function q)) f

told_ok : (own channel : ℕ) (r : Result Operand Rule) (x : Operand) → told own channel r ≡ Ok x → r ≡ Ok x
told_ok own channel (Ok a) x is = let e : a ≡ x = cc in rw e refl
told_ok own channel (Err rule) x is = absurd (search rules)

record Granted (by : List Operand → Result Operand Rule) (x : Operand) : Type 0 where
  found : List Operand
  granted : by found ≡ Ok x

granted_of : (m : Outcome (List Operand)) (own channel : ℕ) (by : List Operand → Result Operand Rule) (x : Operand)
    → (m >>= λ xs. told own channel (by xs)) ≡ Ok x → Granted by x
granted_of (Err f) own channel by x is = absurd (search rules)
granted_of (Ok xs) own channel by x is = record { found = xs; granted = told_ok own channel (by xs) x is }

alone : (m : Outcome Operand) (line channel : ℕ) (by : List Operand → Result Operand Rule)
    → ((a : Operand) → by (a ∷ []) ≡ Ok a)
    → (in_order (m ∷ []) >>= λ xs. told line channel (by xs)) ≡ m
alone (Err f) line channel by own = refl
alone (Ok a) line channel by own = ap (told line channel) (own a)

module _ (calls : List ℕ → Bool) (env : Env) where
  -- a row that makes a function is that of a name or of parentheses
  abbrev row_of : ℕ → ExprKind-F SourceKind Source Typename → List Operand → Result Operand Rule
  row_of line layer = row (sources env) env line layer

  abbrev name_at : ExprKind-F SourceKind Source Typename → Option (List ℕ)
  name_at (ExprKind-F.Name name) = Some name
  name_at (ExprKind-F.Paren of) = (fitting calls of.kind).name
  name_at _ = None

  abbrev is_other : ExprKind-F SourceKind Source Typename → Bool
  is_other (ExprKind-F.Name name) = false
  is_other (ExprKind-F.Paren of) = false
  is_other _ = true

  store_never : (line : ℕ) (e f : Source) (o : Option BinaryOp) (a b : Operand)
      → Never (row_of line (ExprKind-F.Assign e o f) (a ∷ b ∷ []))
  store_never line e f None a b place is = never_valued _ place is
  store_never line e f (Some o) a b place is = never_valued _ place is

  never : (line : ℕ) (layer : ExprKind-F SourceKind Source Typename) (xs : List Operand) → is_other layer ≡ true
      → Never (row_of line layer xs)
  never line (ExprKind-F.Name name) xs other place is = search rules
  never line (ExprKind-F.Paren e) xs other place is = search rules
  never line (ExprKind-F.Number n d u) [] other place is = cc
  never line (ExprKind-F.Char c) [] other place is = cc
  never line (ExprKind-F.Index e f) (a ∷ b ∷ []) other place is = never_indexed env line a (value b) place is
  never line (ExprKind-F.Call callee arguments) (f ∷ xs) other place is = never_called env line f xs place is
  never line (ExprKind-F.Member e name) (a ∷ []) other place is = never_member env line name a place is
  never line (ExprKind-F.Arrow e name) (a ∷ []) other place is = never_arrow env line name (value a) place is
  never line (ExprKind-F.PostIncrement e) (a ∷ []) other place is = never_valued _ place is
  never line (ExprKind-F.PostDecrement e) (a ∷ []) other place is = never_valued _ place is
  never line (ExprKind-F.PreIncrement e) (a ∷ []) other place is = never_valued _ place is
  never line (ExprKind-F.PreDecrement e) (a ∷ []) other place is = never_valued _ place is
  never line (ExprKind-F.AddressOf e) (a ∷ []) other place is = never_valued _ place is
  never line (ExprKind-F.Deref e) (a ∷ []) other place is = never_deref line (value a) place is
  never line (ExprKind-F.Unary o e) (a ∷ []) other place is = never_valued _ place is
  never line (ExprKind-F.SizeofExpr e) (a ∷ []) other place is = never_valued _ place is
  never line (ExprKind-F.SizeofType t) xs other place is = never_valued _ place is
  never line (ExprKind-F.Cast t e) xs other place is = never_valued _ place is
  never line (ExprKind-F.Binary e o f) (a ∷ b ∷ []) other place is = never_valued _ place is
  never line (ExprKind-F.And e f) (a ∷ b ∷ []) other place is = never_valued _ place is
  never line (ExprKind-F.Or e f) (a ∷ b ∷ []) other place is = never_valued _ place is
  never line (ExprKind-F.Conditional e f g) (a ∷ b ∷ c ∷ []) other place is = never_valued _ place is
  never line (ExprKind-F.Assign e o f) (a ∷ b ∷ []) other place is = store_never line e f o a b place is
  never line (ExprKind-F.Comma e f) (a ∷ b ∷ []) other place is = never_valued _ place is
  never line _ _ other place is = search rules

  walk_at : (line : ℕ) (layer : ExprKind-F SourceKind Source Typename) (x : Operand)
      → node (sources env) env line layer ≡ Ok x → Granted (row_of line layer) x
  walk_at line layer x is =
      granted_of (in_order (map (used (sources env)) (operands (sources env) layer))) line
      (channel_line (sources env) line layer) (row_of line layer) x is

  other_node : (line : ℕ) (layer : ExprKind-F SourceKind Source Typename) (place : ℕ) → is_other layer ≡ true
      → node (sources env) env line layer ≡ Ok (operand.Function place) → ⊥
  other_node line layer place other is =
      let g = walk_at line layer (operand.Function place) is in never line layer g.found other place g.granted

  name_row : (line : ℕ) (n : List ℕ) (xs : List Operand) (place : ℕ)
      → row_of line (ExprKind-F.Name n) xs ≡ Ok (operand.Function place)
      → named line n (lookup env.names n) ≡ Ok (operand.Function place)
  name_row line n [] place is = is
  name_row line n (x ∷ xs) place is = absurd (search rules)

  -- what the induction shows
  abbrev KindNames : SourceKind → Type 0
  KindNames kind = (line : ℕ) (place : ℕ) → kind_means env kind line ≡ Ok (operand.Function place)
      → IsNameOf env (fitting calls kind).name place

  abbrev Names : Source → Type 0
  Names e = KindNames e.kind

  node_names : (kind : SourceKind) (layer : ExprKind-F SourceKind Source Typename) (line place : ℕ)
      → out-ExprKind kind ≡ layer → kind_means env kind line ≡ Ok (operand.Function place)
      → node (sources env) env line layer ≡ Ok (operand.Function place)
  node_names kind layer line place at_kind is =
      let e : Source = record { kind = kind; line = line } in
      let at_layer : kind_means env kind line ≡ node (sources env) env line layer =
      is_walked env e ∙ ap (node (sources env) env line) at_kind in
      sym at_layer ∙ is

  by_layer : (kind : SourceKind) (layer : ExprKind-F SourceKind Source Typename) → out-ExprKind kind ≡ layer
      → is_other layer ≡ true → KindNames kind
  by_layer kind layer at_kind other line place is =
      absurd (other_node line layer place other (node_names kind layer line place at_kind is))

  module _ {A B C : Type 0} (kind_of : A → SourceKind) (source : B → Source) (name : C → Typename)
      (deeper : (b : B) → Names (source b)) where
    layer_names : (x : ExprKind-F SourceKind Source Typename) (y : ExprKind-F A B C)
        → map-ExprKind A B C SourceKind Source Typename kind_of source name y ≡ x → KindNames (roll-ExprKind x)
    layer_names x (ExprKind-F.Name n) is line place at =
        let h : roll-ExprKind x ≡ k.Name n = search (rules, the_lemmas) in
        let o : out-ExprKind (roll-ExprKind x) ≡ ExprKind-F.Name n = search (rules, the_lemmas) in
        let g = walk_at line (ExprKind-F.Name n) (operand.Function place)
        (node_names (roll-ExprKind x) (ExprKind-F.Name n) line place o at) in
        let f : named line n (lookup env.names n) ≡ Ok (operand.Function place) = name_row line n g.found place g.granted in
        let c : (fitting calls (k.Name n)).name ≡ Some n = search (rules, the_lemmas) in
        rw h (rw c (named_function line n (lookup env.names n) place f))
    layer_names x (ExprKind-F.Paren b) is line place at =
        let h : roll-ExprKind x ≡ k.Paren (source b) = search (rules, the_lemmas) in
        let o : out-ExprKind (roll-ExprKind x) ≡ ExprKind-F.Paren (source b) = search (rules, the_lemmas) in
        let n = node_names (roll-ExprKind x) (ExprKind-F.Paren (source b)) line place o at in
        let m : means env (source b) ≡ Ok (operand.Function place) =
        sym (alone (means env (source b)) line line (row_of line (ExprKind-F.Paren (source b))) (λ a. refl)) ∙ n in
        let c : (fitting calls (k.Paren (source b))).name ≡ (fitting calls (source b).kind).name =
        search (rules, the_lemmas) in
        rw h (rw c (deeper b (source b).line place m))
    layer_names x (ExprKind-F.Number n d u) is line place at =
        by_layer (roll-ExprKind x) x (search (rules, the_lemmas)) (rw (← is) refl) line place at
    layer_names x (ExprKind-F.Char c) is line place at =
        by_layer (roll-ExprKind x) x (search (rules, the_lemmas)) (rw (← is) refl) line place at
    layer_names x (ExprKind-F.Index b c) is line place at =
        by_layer (roll-ExprKind x) x (search (rules, the_lemmas)) (rw (← is) refl) line place at
    layer_names x (ExprKind-F.Call b bs) is line place at =
        by_layer (roll-ExprKind x) x (search (rules, the_lemmas)) (rw (← is) refl) line place at
    layer_names x (ExprKind-F.Member b n) is line place at =
        by_layer (roll-ExprKind x) x (search (rules, the_lemmas)) (rw (← is) refl) line place at
    layer_names x (ExprKind-F.Arrow b n) is line place at =
        by_layer (roll-ExprKind x) x (search (rules, the_lemmas)) (rw (← is) refl) line place at
    layer_names x (ExprKind-F.PostIncrement b) is line place at =
        by_layer (roll-ExprKind x) x (search (rules, the_lemmas)) (rw (← is) refl) line place at
    layer_names x (ExprKind-F.PostDecrement b) is line place at =
        by_layer (roll-ExprKind x) x (search (rules, the_lemmas)) (rw (← is) refl) line place at
    layer_names x (ExprKind-F.PreIncrement b) is line place at =
        by_layer (roll-ExprKind x) x (search (rules, the_lemmas)) (rw (← is) refl) line place at
    layer_names x (ExprKind-F.PreDecrement b) is line place at =
        by_layer (roll-ExprKind x) x (search (rules, the_lemmas)) (rw (← is) refl) line place at
    layer_names x (ExprKind-F.AddressOf b) is line place at =
        by_layer (roll-ExprKind x) x (search (rules, the_lemmas)) (rw (← is) refl) line place at
    layer_names x (ExprKind-F.Deref b) is line place at =
        by_layer (roll-ExprKind x) x (search (rules, the_lemmas)) (rw (← is) refl) line place at
    layer_names x (ExprKind-F.Unary op b) is line place at =
        by_layer (roll-ExprKind x) x (search (rules, the_lemmas)) (rw (← is) refl) line place at
    layer_names x (ExprKind-F.SizeofExpr b) is line place at =
        by_layer (roll-ExprKind x) x (search (rules, the_lemmas)) (rw (← is) refl) line place at
    layer_names x (ExprKind-F.SizeofType t) is line place at =
        by_layer (roll-ExprKind x) x (search (rules, the_lemmas)) (rw (← is) refl) line place at
    layer_names x (ExprKind-F.Cast t b) is line place at =
        by_layer (roll-ExprKind x) x (search (rules, the_lemmas)) (rw (← is) refl) line place at
    layer_names x (ExprKind-F.Binary b op c) is line place at =
        by_layer (roll-ExprKind x) x (search (rules, the_lemmas)) (rw (← is) refl) line place at
    layer_names x (ExprKind-F.And b c) is line place at =
        by_layer (roll-ExprKind x) x (search (rules, the_lemmas)) (rw (← is) refl) line place at
    layer_names x (ExprKind-F.Or b c) is line place at =
        by_layer (roll-ExprKind x) x (search (rules, the_lemmas)) (rw (← is) refl) line place at
    layer_names x (ExprKind-F.Conditional b c d) is line place at =
        by_layer (roll-ExprKind x) x (search (rules, the_lemmas)) (rw (← is) refl) line place at
    layer_names x (ExprKind-F.Assign b op c) is line place at =
        by_layer (roll-ExprKind x) x (search (rules, the_lemmas)) (rw (← is) refl) line place at
    layer_names x (ExprKind-F.Comma b c) is line place at =
        by_layer (roll-ExprKind x) x (search (rules, the_lemmas)) (rw (← is) refl) line place at

    source_names : (x : Expr-F SourceKind Source Typename) (y : Expr-F A B C)
        → map-Expr A B C SourceKind Source Typename kind_of source name y ≡ x
        → ((a : A) → KindNames (kind_of a)) → Names (roll-Expr x)
    source_names x y is kinds =
        let h : (roll-Expr x).kind ≡ kind_of y.kind = search (rules, expr_lemmas) in
        rw h (kinds y.kind)

kind_named : (calls : List ℕ → Bool) (env : Env) (kind : SourceKind) → KindNames calls env kind
kind_named calls env =
    ind-ExprKind (KindNames calls env) (Names calls env) (λ t. Unit {0})
    (λ x y is. layer_names calls env (λ e. e.0) (λ e. e.0) (λ e. e.0) (λ e. e.1) x y is)
    (λ x y is. source_names calls env (λ e. e.0) (λ e. e.0) (λ e. e.0) (λ e. e.1) x y is (λ e. e.1))
    (λ x y is. tt)

pub function_named : (calls : List ℕ → Bool) (env : Env) (e : Source) (place : ℕ)
    → means env e ≡ Ok (operand.Function place) → IsNameOf env (fitting calls e.kind).name place
function_named calls env e place is = kind_named calls env e.kind e.line place is

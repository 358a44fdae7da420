-- What an initialiser puts into the scalars of an object is lawful there, and each scalar has its part or none has.
use Rattle.std.proofs.Common.{append_assoc, ◌≡◌, ℕ, zero, suc, Bool, true, false, ◌&&◌, cond, List, [], ◌∷◌, ◌++◌, map, take, drop, length, Option, Some, None, Result, Ok, Err, refl, sym, ap, subst, ◌∙◌, take-append-drop, rules}
use Rattle.c_tree.specs.declared.expression.Expr.{Expr as Source}
use Rattle.c_tree.specs.declared.declarations.Initial.{Initial, out-Initial, roll-Initial, map-Initial, ind-Initial, the_lemmas as initial_lemmas}
use Rattle.c_tree.specs.declared.declarations.Initial.TheOpen.{Initial-F}
use Rattle.c_tree.specs.declared.declarations.Initial.TheVariants as source
use Rattle.core_tree.specs.declared.types.Ty.{Ty}
use Rattle.core_tree.specs.declared.expressions.Expr.{Expr}
use Rattle.core_tree.specs.declared.program.Core.{Core}
use Rattle.core_tree.specs.Lawful.{Scope, IsExpr}
use Rattle.core_tree.specs.LawfulCore.{Every, OnSome, Text}
use Rattle.core_tree.specs.Rules.{is_scalar}
use Rattle.c_typing.specs.declared.fault.Rule.{Rule}
use Rattle.c_typing.specs.declared.fault.Rule.TheVariants.{WrongType, NotConstant}
use Rattle.c_typing.specs.declared.environment.Env.{Env}
use Rattle.c_typing.specs.Outcome.{Outcome, ◌>>=◌, broken}
use Rattle.c_typing_laws.specs.Sound.{fits}
use Rattle.c_typing_laws.proofs.Same.{both_hold}
use Rattle.c_checking.specs.Declarators.{value_of, converted_value, settled}
use Rattle.c_checking.specs.Initialisers.{is_list_layer, is_list, Leaf, leaves, Given, Filled, Item, in_scalar, put, each, allowed, zeros, judged, opened, listed, item, whole, initialised_by, initialised}
use Rattle.c_checking_laws.specs.Standing.{Begins, Declared, IsText}
use Rattle.c_checking_laws.specs.Fitting.{each_is, if_there, initial_fits}
use Rattle.c_checking_laws.proofs.Points.{converted_value_lawful}
use Rattle.c_checking_laws.proofs.Leaves.{types, Counted, leaves_counted}

-- ---- what a declarator comes to

pub record Settled {A : Type 0} (rule : Option Rule) (o : Outcome (Result A Rule)) (a : A) : Type 0 where
  pub keeps : rule ≡ None
  pub comes : o ≡ Ok (Ok a)

pub settled_is : {A : Type 0} (line : ℕ) (rule : Option Rule) (o : Outcome (Result A Rule)) (a : A)
    → settled line rule o ≡ Ok a → Settled rule o a
settled_is line None (Err f) a is = absurd (search rules)
settled_is line None (Ok (Ok b)) a is = let e : b ≡ a = cc in record { keeps = refl; comes = rw e refl }
settled_is line None (Ok (Err r)) a is = absurd (search rules)
settled_is line (Some rule) (Ok (Err WrongType)) a is = absurd (search rules)
settled_is line (Some rule) _ a is = absurd (search rules)

-- ---- values for scalars

module _ (s : Scope) where
  -- in each scalar stands nothing or a value of its type
  abbrev pub Puts : List Ty → List (Option Given) → Type 0
  Puts [] [] = Unit {0}
  Puts [] (v ∷ vs) = ⊥
  Puts (t ∷ ts) [] = ⊥
  Puts (t ∷ ts) (v ∷ vs) = OnSome (λ (g : Given). IsExpr s g.value t) v × Puts ts vs

  puts_more : (ts us : List Ty) (vs ws : List (Option Given)) → Puts ts vs → Puts us ws → Puts (ts ++ us) (vs ++ ws)
  puts_more [] us [] ws p q = q
  puts_more [] us (v ∷ vs) ws p q = absurd p
  puts_more (t ∷ ts) us [] ws p q = absurd p
  puts_more (t ∷ ts) us (v ∷ vs) ws p q = (p.0, puts_more ts us vs ws p.1 q)

  puts_zeros : (ls : List Leaf) → Puts (types ls) (zeros ls)
  puts_zeros [] = tt
  puts_zeros (l ∷ ls) = (tt, puts_zeros ls)

  -- what items come to in front of scalars: values for the first of them, the rest behind
  pub record Passes (ls : List Leaf) (f : Filled) : Type 0 where
    pub passed : List Ty
    pub all : types ls ≡ passed ++ types f.rest
    pub puts : Puts passed f.values

  abbrev IsItem : Item → Type 0
  IsItem i = (ls : List Leaf) (f : Filled) → i ls ≡ Ok f → f.fits ≡ true → Passes ls f

  -- ---- items one after another

  joined_by : (ls : List Leaf) (a : Filled) (o : Outcome Filled) (f : Filled)
      → (o >>= λ b. Ok (record { values = a.values ++ b.values; rest = b.rest; fits = a.fits && b.fits })) ≡ Ok f
      → (a.fits ≡ true → Passes ls a) → ((b : Filled) → o ≡ Ok b → b.fits ≡ true → Passes a.rest b) → f.fits ≡ true
      → Passes ls f
  joined_by ls a (Err g) f is first deeper fine = absurd (search rules)
  joined_by ls a (Ok b) f is first deeper fine =
      let e : record { values = a.values ++ b.values; rest = b.rest; fits = a.fits && b.fits } ≡ f = cc in
      let w = both_hold a.fits b.fits (rw (← e) at fine) in
      let p = first w.0 in
      let q = deeper b refl w.1 in
      rw (← e) (record {
        passed = p.passed ++ q.passed;
        all = p.all ∙ ap (λ ts. p.passed ++ ts) q.all ∙ sym (append_assoc p.passed q.passed (types b.rest));
        puts = puts_more p.passed q.passed a.values b.values p.puts q.puts;
      })

  each_by : (items : List Item) (ls : List Leaf) (o : Outcome Filled) (f : Filled)
      → (o >>= λ a. each items a.rest >>= λ b.
      Ok (record { values = a.values ++ b.values; rest = b.rest; fits = a.fits && b.fits })) ≡ Ok f
      → ((a : Filled) → o ≡ Ok a → a.fits ≡ true → Passes ls a)
      → IsItem (each items) → f.fits ≡ true → Passes ls f
  each_by items ls (Err g) f is first deeper fine = absurd (search rules)
  each_by items ls (Ok a) f is first deeper fine =
      joined_by ls a (each items a.rest) f is (first a refl) (λ b at so. deeper a.rest b at so) fine

  each_item : (items : List Item) → Every IsItem items → IsItem (each items)
  each_item [] all ls f is fine =
      let e : record { values = []; rest = ls; fits = true } ≡ f = cc in
      rw (← e) (record { passed = []; all = refl; puts = tt })
  each_item (i ∷ items) all ls f is fine =
      each_by items ls (i ls) f is (λ a at so. all.0 ls a at so) (each_item items all.1) fine

  -- ---- lists

  allowed_by : (may : Expr → Bool) (v : Option Given) (vs ws : List (Option Given)) (o : Outcome (List (Option Given)))
      → (o >>= λ us. Ok (v ∷ us)) ≡ Ok ws → ((us : List (Option Given)) → o ≡ Ok us → us ≡ vs) → ws ≡ v ∷ vs
  allowed_by may v vs ws (Err g) is same = absurd (search rules)
  allowed_by may v vs ws (Ok us) is same =
      let e : v ∷ us ≡ ws = cc in sym e ∙ ap (λ l. v ∷ l) (same us refl)

  allowed_given : (may : Expr → Bool) (v : Given) (vs ws : List (Option Given)) (b : Bool)
      → cond b (allowed may vs >>= λ us. Ok (Some v ∷ us)) (broken NotConstant v.line) ≡ Ok ws
      → ((us : List (Option Given)) → allowed may vs ≡ Ok us → us ≡ vs) → (ws ≡ Some v ∷ vs) × (b ≡ true)
  allowed_given may v vs ws true is same = (allowed_by may (Some v) vs ws (allowed may vs) is same, refl)
  allowed_given may v vs ws false is same = absurd (search rules)

  -- values that may stand are left as they are
  pub allowed_same : (may : Expr → Bool) (vs ws : List (Option Given)) → allowed may vs ≡ Ok ws → ws ≡ vs
  allowed_same may [] ws is = let e : [] ≡ ws = cc in sym e
  allowed_same may (None ∷ vs) ws is =
      allowed_by may None vs ws (allowed may vs) is (λ us at. allowed_same may vs us at)
  allowed_same may (Some v ∷ vs) ws is =
      (allowed_given may v vs ws (may v.value) is (λ us at. allowed_same may vs us at)).0

  judged_by : (may : Expr → Bool) (line : ℕ) (f : Filled) (b : Bool) (vs : List (Option Given)) → f.fits ≡ b
      → cond b (allowed may (f.values ++ zeros f.rest)) (broken WrongType line) ≡ Ok vs
      → (f.fits ≡ true) × (vs ≡ f.values ++ zeros f.rest)
  judged_by may line f true vs at_b is = (at_b, allowed_same may (f.values ++ zeros f.rest) vs is)
  judged_by may line f false vs at_b is = absurd (search rules)

  -- as many scalars as a list is for
  inside_types : (n : ℕ) (l : Leaf) (inside : List ℕ) (rest : List Leaf)
      → types (take n (record { ty = l.ty; begins = inside } ∷ rest)) ≡ types (take n (l ∷ rest))
  inside_types zero l inside rest = refl
  inside_types (suc n) l inside rest = refl

  types_more : (xs ys : List Leaf) → types (xs ++ ys) ≡ types xs ++ types ys
  types_more [] ys = refl
  types_more (x ∷ xs) ys = ap (λ ts. x.ty ∷ ts) (types_more xs ys)

  opened_by : (may : Expr → Bool) (line : ℕ) (l : Leaf) (n : ℕ) (inside : List ℕ) (rest : List Leaf) (f g : Filled)
      (o : Outcome (List (Option Given))) → judged may line f ≡ o
      → (o >>= λ vs. Ok (record { values = vs; rest = drop n (l ∷ rest); fits = true })) ≡ Ok g
      → (f.fits ≡ true → Passes (take n (record { ty = l.ty; begins = inside } ∷ rest)) f)
      → Passes (l ∷ rest) g × Puts (types (take n (l ∷ rest))) g.values
  opened_by may line l n inside rest f g (Err fault) at_o is deeper = absurd (search rules)
  opened_by may line l n inside rest f g (Ok vs) at_o is deeper =
      let e : record { values = vs; rest = drop n (l ∷ rest); fits = true } ≡ g = cc in
      let w = judged_by may line f f.fits vs refl at_o in
      let p = deeper w.0 in
      let q : Puts (p.passed ++ types f.rest) (f.values ++ zeros f.rest) =
      puts_more p.passed (types f.rest) f.values (zeros f.rest) p.puts (puts_zeros f.rest) in
      let h : types (take n (l ∷ rest)) ≡ p.passed ++ types f.rest = sym (inside_types n l inside rest) ∙ p.all in
      let r : Puts (types (take n (l ∷ rest))) vs =
      subst (λ ts. Puts ts vs) (sym h) (subst (λ us. Puts (p.passed ++ types f.rest) us) (sym w.1) q) in
      rw (← e) (
        record {
          passed = types (take n (l ∷ rest));
          all = sym (ap types (take-append-drop n (l ∷ rest))) ∙ types_more (take n (l ∷ rest)) (drop n (l ∷ rest));
          puts = r;
        },
        r,
      )

  open_walk : (may : Expr → Bool) (line : ℕ) (l : Leaf) (n : ℕ) (inside : List ℕ) (rest : List Leaf) (g : Filled)
      (o : Outcome Filled)
      → (o >>= λ f. judged may line f >>= λ vs. Ok (record { values = vs; rest = drop n (l ∷ rest); fits = true })) ≡ Ok g
      → ((f : Filled) → o ≡ Ok f → f.fits ≡ true → Passes (take n (record { ty = l.ty; begins = inside } ∷ rest)) f)
      → Passes (l ∷ rest) g × Puts (types (take n (l ∷ rest))) g.values
  open_walk may line l n inside rest g (Err fault) is deeper = absurd (search rules)
  open_walk may line l n inside rest g (Ok f) is deeper =
      opened_by may line l n inside rest f g (judged may line f) refl is (deeper f refl)

  lost_values : (ls : List Leaf) (o : Outcome Filled) (g : Filled)
      → (o >>= λ f. Ok (record { values = []; rest = ls; fits = false })) ≡ Ok g → (g.values ≡ []) × (g.fits ≡ false)
  lost_values ls (Err fault) g is = absurd (search rules)
  lost_values ls (Ok f) g is =
      let e : record { values = []; rest = ls; fits = false } ≡ g = cc in rw (← e) (refl, refl)

  opened_item : (may : Expr → Bool) (line : ℕ) (items : List Item) (l : Leaf) (begins : List ℕ) (rest : List Leaf)
      (g : Filled) → Every IsItem items → opened may line items l begins rest ≡ Ok g → g.fits ≡ true → Passes (l ∷ rest) g
  opened_item may line items l [] rest g all is fine =
      let w = lost_values (l ∷ rest) (each items []) g is in
      let h : true ≡ false = sym fine ∙ w.1 in absurd cc
  opened_item may line items l (n ∷ inside) rest g all is fine =
      (open_walk may line l n inside rest g (each items (take n (record { ty = l.ty; begins = inside } ∷ rest))) is
      (λ f at so. each_item items all (take n (record { ty = l.ty; begins = inside } ∷ rest)) f at so)).0

  listed_item : (may : Expr → Bool) (line : ℕ) (items : List Item) → Every IsItem items → IsItem (listed may line items)
  listed_item may line items all [] g is fine =
      let w = lost_values [] (each items []) g is in
      let h : true ≡ false = sym fine ∙ w.1 in absurd cc
  listed_item may line items all (l ∷ rest) g is fine = opened_item may line items l l.begins rest g all is fine

  -- a list for a whole object has a part for each of its scalars, or it is for no object
  whole_by : (may : Expr → Bool) (line : ℕ) (items : List Item) (l : Leaf) (rest : List Leaf) (begins inside : List ℕ)
      (g : Filled) → begins ≡ length (l ∷ rest) ∷ inside → Every IsItem items → opened may line items l begins rest ≡ Ok g
      → Puts (types (l ∷ rest)) g.values
  whole_by may line items l rest begins inside g at_begins all is =
      let h : opened may line items l (length (l ∷ rest) ∷ inside) rest ≡ Ok g = rw at_begins at is in
      let w = open_walk may line l (length (l ∷ rest)) inside rest g
      (each items (take (length (l ∷ rest)) (record { ty = l.ty; begins = inside } ∷ rest))) h
      (λ f at so. each_item items all (take (length (l ∷ rest)) (record { ty = l.ty; begins = inside } ∷ rest)) f at so) in
      subst (λ ls. Puts (types ls) g.values) (take_whole (l ∷ rest)) w.1
    where
      take_whole : (ls : List Leaf) → take (length ls) ls ≡ ls
      take_whole [] = refl
      take_whole (k ∷ ls) = ap (λ m. k ∷ m) (take_whole ls)

-- ---- the items of a source

module _ (calls : List ℕ → Bool) (core : Core) (env : Env) (x : Text) (d : Declared calls core env) (t : IsText core env x)
    (objects : Begins env.locals x.scope.objects) (may : Expr → Bool) where
  scalar_by : (line : ℕ) (e : Source) (l : Leaf) (rest : List Leaf) (v w : Option Expr) (f : Filled)
      → fits calls e.kind ≡ true → value_of env e ≡ Ok v → converted_value l.ty v ≡ w → in_scalar line w rest ≡ f
      → f.fits ≡ true → Passes x.scope (l ∷ rest) f
  scalar_by line e l rest v None f fine at_v at_w is so =
      let h : false ≡ true = ap (λ (z : Filled). z.fits) is ∙ so in absurd cc
  scalar_by line e l rest v (Some made) f fine at_v at_w is so =
      rw (← is) (record {
        passed = l.ty ∷ [];
        all = refl;
        puts = ((converted_value_lawful calls core env x d t objects l.ty e v made fine at_v at_w).0, tt);
      })

  put_by : (line : ℕ) (e : Source) (v : Option Expr) (ls : List Leaf) (f : Filled) → fits calls e.kind ≡ true
      → value_of env e ≡ Ok v → put line v ls ≡ f → f.fits ≡ true → Passes x.scope ls f
  put_by line e v [] f fine at_v is so = let h : false ≡ true = ap (λ (z : Filled). z.fits) is ∙ so in absurd cc
  put_by line e v (l ∷ rest) f fine at_v is so =
      scalar_by line e l rest v (converted_value l.ty v) f fine at_v refl is so

  assign_by : (e : Source) (o : Outcome (Option Expr)) (ls : List Leaf) (f : Filled) → fits calls e.kind ≡ true
      → value_of env e ≡ o → (o >>= λ v. Ok (put e.line v ls)) ≡ Ok f → f.fits ≡ true → Passes x.scope ls f
  assign_by e (Err fault) ls f fine at_o is so = absurd (search rules)
  assign_by e (Ok v) ls f fine at_o is so = let h : put e.line v ls ≡ f = cc in put_by e.line e v ls f fine at_o h so

  abbrev Fills : Initial → Type 0
  Fills i = initial_fits calls i ≡ true → IsItem x.scope (item env may i)

  item-Assign : (e : Source) → item env may (source.Assign e) ≡ (λ ls. value_of env e >>= λ v. Ok (put e.line v ls))
  item-Assign e = search (rules, initial_lemmas)

  item-List : (items : List Initial) (last : Bool) (line : ℕ)
      → item env may (source.List items last line) ≡ listed may line (map (item env may) items)
  item-List items last line = search (rules, initial_lemmas)

  module _ {A : Type 0} (inner : A → Initial) (deeper : (a : A) → Fills (inner a)) where
    all_fill : (items : List A) → each_is (λ b. b) (map (initial_fits calls) (map inner items)) ≡ true
        → Every (IsItem x.scope) (map (item env may) (map inner items))
    all_fill [] fine = tt
    all_fill (a ∷ items) fine =
        let w = both_hold (initial_fits calls (inner a)) (each_is (λ b. b) (map (initial_fits calls) (map inner items))) fine in
        (deeper a w.0, all_fill items w.1)

    fill_layer : (z : Initial-F Initial) (y : Initial-F A) → map-Initial A Initial inner y ≡ z → Fills (roll-Initial z)
    fill_layer z (Initial-F.Assign e) is fine =
        let h : roll-Initial z ≡ source.Assign e = search (rules, initial_lemmas) in
        let g : initial_fits calls (source.Assign e) ≡ true = rw h at fine in
        let k : fits calls e.kind ≡ true = search (rules, initial_lemmas) in
        rw h (rw item-Assign (λ ls f at so. assign_by e (value_of env e) ls f k refl at so))
    fill_layer z (Initial-F.List items last line) is fine =
        let h : roll-Initial z ≡ source.List (map inner items) last line = search (rules, initial_lemmas) in
        let g : initial_fits calls (source.List (map inner items) last line) ≡ true = rw h at fine in
        let k : each_is (λ b. b) (map (initial_fits calls) (map inner items)) ≡ true = search (rules, initial_lemmas) in
        rw h (rw item-List (listed_item x.scope may line (map (item env may) (map inner items)) (all_fill items k)))

  pub fills : (i : Initial) → Fills i
  fills = ind-Initial Fills (λ z y is. fill_layer (λ e. e.0) (λ e. e.1) z y is)

  -- ---- whole initialisers

  -- an initialiser puts a value or nothing into each scalar of an object, or nothing at all
  -- by a brace list, where the type is no scalar
  pub data PutsAll (u : Ty) : Bool → List (Option Given) → Type 0 where
    nothing : (by_list : Bool) → PutsAll u by_list []
    alone : (by_list : Bool) (g : Given) → is_scalar u ≡ true → IsExpr x.scope g.value u → may g.value ≡ true
        → PutsAll u by_list (Some g ∷ [])
    each_one : (vs : List (Option Given)) → Puts x.scope (types (leaves env.structs u)) vs → PutsAll u true vs

  whole_value : (line : ℕ) (u : Ty) (e : Source) (v w : Option Expr) (b : Bool) (vs : List (Option Given))
      → fits calls e.kind ≡ true → value_of env e ≡ Ok v → converted_value u v ≡ w → whole may line w ≡ Ok vs
      → PutsAll u b vs
  whole_value line u e v None b vs fine at_v at_w is = absurd (search rules)
  whole_value line u e v (Some made) b vs fine at_v at_w is =
      let p = converted_value_lawful calls core env x d t objects u e v made fine at_v at_w in
      may_stand (may made) refl p is
    where
      may_stand : (c : Bool) → may made ≡ c → IsExpr x.scope made u × (is_scalar u ≡ true)
          → cond c (Ok (Some (record { value = made; line = line }) ∷ [])) (Err NotConstant) ≡ Ok vs → PutsAll u b vs
      may_stand true at_c p got =
          let h : Some (record { value = made; line = line }) ∷ [] ≡ vs = cc in
          rw (← h) (alone b (record { value = made; line = line }) p.1 p.0 at_c)
      may_stand false at_c p got = absurd (search rules)

  same_whole : (r : Result (List (Option Given)) Rule) (vs : List (Option Given))
      → ◌≡◌ {A = Outcome (Result (List (Option Given)) Rule)} (Ok r) (Ok (Ok vs)) → r ≡ Ok vs
  same_whole r vs is = cc

  by_assign : (u : Ty) (e : Source) (o : Outcome (Option Expr)) (vs : List (Option Given)) → fits calls e.kind ≡ true
      → value_of env e ≡ o → (o >>= λ v. Ok (whole may e.line (converted_value u v))) ≡ Ok (Ok vs) → PutsAll u false vs
  by_assign u e (Err fault) vs fine at_o is = absurd (search rules)
  by_assign u e (Ok v) vs fine at_o is =
      let h : whole may e.line (converted_value u v) ≡ Ok vs = same_whole (whole may e.line (converted_value u v)) vs is in
      whole_value e.line u e v (converted_value u v) false vs fine at_o refl h

  list_by : (u : Ty) (line : ℕ) (items : List Item) (ls : List Leaf) (g : Filled) → Every (IsItem x.scope) items
      → leaves env.structs u ≡ ls → listed may line items ls ≡ Ok g → PutsAll u true g.values
  list_by u line items [] g all at_ls is =
      let w = lost_values x.scope [] (each items []) g is in rw w.0 (nothing true)
  list_by u line items (l ∷ rest) g all at_ls is =
      let c = counted (l ∷ rest) at_ls in
      each_one g.values (rw at_ls (whole_by x.scope may line items l rest l.begins c.0 g c.1 all is))
    where
      counted : (ls : List Leaf) → leaves env.structs u ≡ ls → Counted ls
      counted ls at_ls = rw at_ls at (leaves_counted env.structs u)

  same_values : (vs ws : List (Option Given))
      → ◌≡◌ {A = Outcome (Result (List (Option Given)) Rule)} (Ok (Ok vs)) (Ok (Ok ws)) → vs ≡ ws
  same_values vs ws is = cc

  given_list : (u : Ty) (o : Outcome Filled) (vs : List (Option Given))
      → ◌>>=◌ {A = Filled} {B = Result (List (Option Given)) Rule} o (λ f. Ok (Ok f.values)) ≡ Ok (Ok vs)
      → (g : Filled) × (o ≡ Ok g) × (g.values ≡ vs)
  given_list u (Err fault) vs is = absurd (search rules)
  given_list u (Ok g) vs is = (g, refl, same_values g.values vs is)

  by_layer : (u : Ty) (i : Initial) (l : Initial-F Initial) (vs : List (Option Given)) → out-Initial i ≡ l
      → initial_fits calls i ≡ true → initialised_by env may u i l ≡ Ok (Ok vs)
      → PutsAll u (is_list_layer l) vs
  by_layer u i (Initial-F.Assign e) vs at_i fine is =
      let h : i ≡ source.Assign e = search (rules, initial_lemmas) in
      let g : initial_fits calls (source.Assign e) ≡ true = rw h at fine in
      let k : fits calls e.kind ≡ true = search (rules, initial_lemmas) in
      by_assign u e (value_of env e) vs k refl is
  by_layer u i (Initial-F.List items last line) vs at_i fine is =
      let h : i ≡ source.List items last line = search (rules, initial_lemmas) in
      let g = given_list u (item env may i (leaves env.structs u)) vs is in
      let k : each_is (λ b. b) (map (initial_fits calls) items) ≡ true =
      let f : initial_fits calls (source.List items last line) ≡ true = rw h at fine in search (rules, initial_lemmas) in
      let m : listed may line (map (item env may) items) (leaves env.structs u) ≡ Ok g.0 =
      ap (λ (z : Item). z (leaves env.structs u)) (sym (ap (item env may) h ∙ item-List items last line)) ∙ g.1 in
      rw (← g.2) (list_by u line (map (item env may) items) (leaves env.structs u) g.0 (every_fill items k) refl m)
    where
      every_fill : (items : List Initial) → each_is (λ b. b) (map (initial_fits calls) items) ≡ true
          → Every (IsItem x.scope) (map (item env may) items)
      every_fill [] fine = tt
      every_fill (a ∷ items) fine =
          let w = both_hold (initial_fits calls a) (each_is (λ b. b) (map (initial_fits calls) items)) fine in
          (fills a w.0, every_fill items w.1)

  pub puts_of : (u : Ty) (i : Option Initial) (vs : List (Option Given)) → if_there (initial_fits calls) i ≡ true
      → initialised env may u i ≡ Ok (Ok vs) → PutsAll u (is_list i) vs
  puts_of u None vs fine is = let e : [] ≡ vs = cc in rw (← e) (nothing false)
  puts_of u (Some i) vs fine is = by_layer u i (out-Initial i) vs refl fine is

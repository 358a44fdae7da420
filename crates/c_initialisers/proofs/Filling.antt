-- Brace lists as the recursion meets them.
use Rattle.std.proofs.Common.{◌≡◌, ℕ, suc, ◌+◌, ◌-◌, ◌<◌, ◌≤◌, Bool, true, false, List, [], ◌∷◌, ◌++◌, length, get_or, take, drop, map, Option, None, Some, Result, Ok, Err, refl, ap, sym, ◌∙◌, subst, rules, arith, append_assoc, append-nil}
use Rattle.std.specs.Prelude.{◌&&◌, is_some, replicate, slice_get, if◌then◌else◌}
use Rattle.std.proofs.lemmas.List.{drop_all, drop_more, map-append, drop-map, take_at, drop_at, take-append-drop, length-map, replicate_more}
use Rattle.c_tree.specs.declared.expression.Expr.{Expr as Source}
use Rattle.c_tree.specs.declared.declarations.Initial.{Initial, fold-Initial, the_lemmas}
use Rattle.c_tree.specs.declared.declarations.Initial.TheOpen.{Initial-F}
use Rattle.c_tree.specs.declared.declarations.Initial.TheVariants as source
use Rattle.core_tree.specs.declared.types.Ty.{Ty}
use Rattle.core_tree.specs.declared.types.Struct.{Struct}
use Rattle.core_tree.specs.declared.expressions.Expr.{Expr}
use Rattle.c_typing.specs.declared.fault.Rule.TheVariants.{WrongType, NotConstant}
use Rattle.c_typing.specs.declared.fault.Fault.{Fault}
use Rattle.c_typing.specs.declared.fault.Stop.{Stop}
use Rattle.c_typing.specs.declared.fault.Stop.TheVariants.{Broken, NoMemory}
use Rattle.c_typing.specs.Outcome.{Outcome, Answers, ◌>>=◌, broken}
use Rattle.c_checking.specs.Declarators.{value_of, converted_value}
use Rattle.c_checking.specs.Initialisers as spec
use Rattle.c_checking.specs.Initialisers.{Leaf, Filled, Given, Item, put, in_scalar, listed, leaves, leaves_in, item_step, allowed, zeros, any, is_constant}
use Rattle.c_initialisers.specs.declared.lists.Put.{Put}
use Rattle.c_initialisers.specs.declared.lists.Object.{Object}
use Rattle.c_initialisers.specs.declared.lists.Cursor.{Cursor}
use Rattle.c_initialisers.specs.Scalars.{no_leaf, before, IsCounted}
use Rattle.c_initialisers.specs.Lists.{given_of, all_given, may_of, may, all_leaves, item, each, ahead, behind, Fills, value_given, bad_in, or_else, first_bad, IsObject, judged, unfit, assigned, walked, IsParted, HasPut, Puts}
use Rattle.c_initialisers.proofs.Counting.{counted_all}
use Rattle.c_initialisers.proofs.Cursors.{ahead_none, ahead_next, ahead_lost, ahead_all, length-ahead, open_at}

-- ---- an item, for any step, which does not compute

module _ (step : Initial-F Item → Item) where
  fold-Assign : (e : Source) → fold-Initial Item step (source.Assign e) ≡ step (Initial-F.Assign e)
  fold-Assign e = search (rules, the_lemmas)

  fold-List : (items : List Initial) (comma : Bool) (line : ℕ)
      → fold-Initial Item step (source.List items comma line)
      ≡ step (Initial-F.List (map (fold-Initial Item step) items) comma line)
  fold-List items comma line = search (rules, the_lemmas)

module _ (o : Object) where
  assign_is : (e : Source) (leaves : List Leaf)
      → item o (source.Assign e) leaves ≡ assigned o e leaves
  assign_is e leaves = ap (λ (i : Item). i leaves) (fold-Assign (item_step o.env.now (may o)) e)

  list_is : (items : List Initial) (comma : Bool) (line : ℕ) (leaves : List Leaf)
      → item o (source.List items comma line) leaves ≡ listed (may o) line (map (item o) items) leaves
  list_is items comma line leaves = ap (λ (i : Item). i leaves) (fold-List (item_step o.env.now (may o)) items comma line)

module _ (o : Object) (i : Initial) (all leaves : List Leaf) (found : List (Option Given)) (fits : Bool) (r : Result Cursor Stop)
    (puts : List (Option Put)) where
  pub assign_fills : (e : Source) → i ≡ source.Assign e → Fills all (behind found fits (assigned o e leaves)) r puts
      → Fills all (behind found fits (item o i leaves)) r puts
  assign_fills e is h =
      subst (λ x. Fills all (behind found fits x) r puts) (sym (ap (λ y. item o y leaves) is ∙ assign_is o e leaves)) h

  pub list_fills : (items : List Initial) (comma : Bool) (line : ℕ) → i ≡ source.List items comma line
      → Fills all (behind found fits (listed (may o) line (map (item o) items) leaves)) r puts
      → Fills all (behind found fits (item o i leaves)) r puts
  list_fills items comma line is h =
      subst (λ x. Fills all (behind found fits x) r puts) (sym (ap (λ y. item o y leaves) is ∙ list_is o items comma line leaves)) h

-- ---- one expression

and_false : (b : Bool) → (b && false) ≡ false
and_false true = refl
and_false false = refl

and_true : (b : Bool) → (b && true) ≡ b
and_true true = refl
and_true false = refl

abbrev outcome : List (Option Given) → List Leaf → Bool → Outcome Filled
outcome values rest fits = Ok (record { values = values; rest = rest; fits = fits })

put_none : (all : List Leaf) (found : List (Option Given)) (c : Cursor) (line : ℕ) (o : Outcome (Option Expr)) (v : Option Expr)
    → c.to ≤ c.from → o ≡ Ok v
    → behind found c.fits (o >>= λ v. Ok (put line v (ahead all c)))
    ≡ Ok (record { values = found; rest = ahead all (unfit c); fits = false })
put_none all found c line o v h e =
    ap (λ o. behind found c.fits (o >>= λ v. Ok (put line v (ahead all c)))) e
    ∙ (ap (λ ls. behind found c.fits (Ok (put line v ls))) (ahead_none all c h)
    ∙ (ap (λ vs. outcome vs [] (c.fits && false)) (append-nil found)
    ∙ (ap (λ b. outcome found [] b) (and_false c.fits) ∙ ap (λ ls. outcome found ls false) (sym (ahead_none all c h)))))

scalar_case : (line : ℕ) (v : Option Expr) (rest : List Leaf)
    → in_scalar line v rest ≡ record { values = value_given line v ∷ []; rest = rest; fits = is_some v }
scalar_case line None rest = refl
scalar_case line (Some e) rest = refl

put_one : (all : List Leaf) (found : List (Option Given)) (c : Cursor) (line : ℕ) (o : Outcome (Option Expr)) (v w : Option Expr)
    (t : Ty) → c.from < c.to → c.from < length all → o ≡ Ok v → t ≡ (get_or all c.from no_leaf).ty → w ≡ converted_value t v
    → behind found c.fits (o >>= λ v. Ok (put line v (ahead all c)))
    ≡ Ok (record {
      values = found ++ value_given line w ∷ [];
      rest = ahead all (record { from = c.from + 1; to = c.to; outer = 0; fits = c.fits && is_some w });
      fits = c.fits && is_some w;
    })
put_one all found c line o v w t low h e is converted =
    let more : Cursor = record { from = c.from + 1; to = c.to; outer = 0; fits = c.fits && is_some w } in
    let same : converted_value (get_or all c.from no_leaf).ty v ≡ w = ap (λ x. converted_value x v) (sym is) ∙ sym converted in
    ap (λ o. behind found c.fits (o >>= λ v. Ok (put line v (ahead all c)))) e
    ∙ (ap (λ ls. behind found c.fits (Ok (put line v ls))) (ahead_next all c (c.fits && is_some w) low h)
    ∙ (ap (λ x. behind found c.fits (Ok (in_scalar line x (ahead all more)))) same
    ∙ ap (λ (f : Filled). behind found c.fits (Ok f)) (scalar_case line w (ahead all more))))

pub given_push : (puts more : List (Option Put)) (p : Option Put) (v : Option Given) → more ≡ puts ++ p ∷ [] → given_of p ≡ v
    → all_given more ≡ all_given puts ++ v ∷ []
given_push puts more p v e f =
    ap all_given e ∙ (map-append given_of puts (p ∷ []) ∙ ap (λ x. all_given puts ++ x ∷ []) f)

module _ (o : Object) (c : Cursor) (e : Source) (v : Option Expr) (is : value_of o.env.now e ≡ Ok v) (puts : List (Option Put)) where
  pub assigned_none : (next : Cursor) → c.to ≤ c.from → next ≡ unfit c
      → behind (all_given puts) c.fits (assigned o e (ahead (all_leaves o) c))
      ≡ Ok (record { values = all_given puts; rest = ahead (all_leaves o) next; fits = next.fits })
  assigned_none next h at_next =
      put_none (all_leaves o) (all_given puts) c e.line (value_of o.env.now e) v h is
      ∙ ap (λ (x : Cursor). outcome (all_given puts) (ahead (all_leaves o) x) x.fits) (sym at_next)

  pub assigned_one : (more : List (Option Put)) (w : Option Expr) (p : Option Put) (t : Ty) (next : Cursor) → c.from < c.to
      → c.from < length (all_leaves o)
      → t ≡ (get_or (all_leaves o) c.from no_leaf).ty → w ≡ converted_value t v → given_of p ≡ value_given e.line w
      → more ≡ puts ++ p ∷ []
      → next ≡ record { from = c.from + 1; to = c.to; outer = 0; fits = c.fits && is_some w }
      → behind (all_given puts) c.fits (assigned o e (ahead (all_leaves o) c))
      ≡ Ok (record { values = all_given more; rest = ahead (all_leaves o) next; fits = next.fits })
  assigned_one more w p t next low h ty converted given pushed at_next =
      let all : List Leaf = all_leaves o in
      let after : Cursor = record { from = c.from + 1; to = c.to; outer = 0; fits = c.fits && is_some w } in
      put_one all (all_given puts) c e.line (value_of o.env.now e) v w t low h is ty converted
      ∙ (ap (λ vs. outcome vs (ahead all after) (c.fits && is_some w)) (sym (given_push puts more p (value_given e.line w) pushed given))
      ∙ ap (λ (x : Cursor). outcome (all_given more) (ahead all x) x.fits) (sym at_next))

-- ---- values that may not stand where they are put

cut : (puts : List (Option Put)) (i : ℕ) (p : Option Put) → i < length puts → p ≡ get_or puts i p
    → all_given (drop i puts) ≡ given_of p ∷ all_given (drop (i + 1) puts)
cut puts i p h is = ap all_given (drop_more puts i p h) ∙ ap (λ x. given_of x ∷ all_given (drop (i + 1) puts)) (sym is)

pub bad_turn : (structs : List Struct) (puts : List (Option Put)) (i : ℕ) (p : Option Put) → i < length puts → p ≡ get_or puts i p
    → bad_in (is_constant structs) (given_of p) ≡ None
    → first_bad (is_constant structs) (all_given (drop i puts)) ≡ first_bad (is_constant structs) (all_given (drop (i + 1) puts))
bad_turn structs puts i p h is none =
    ap (first_bad (is_constant structs)) (cut puts i p h is)
    ∙ ap (λ x. or_else x (first_bad (is_constant structs) (all_given (drop (i + 1) puts)))) none

pub bad_here : (structs : List Struct) (puts : List (Option Put)) (i line : ℕ) (p : Option Put) → i < length puts
    → p ≡ get_or puts i p → bad_in (is_constant structs) (given_of p) ≡ Some line
    → first_bad (is_constant structs) (all_given (drop i puts)) ≡ Some line
bad_here structs puts i line p h is some =
    ap (first_bad (is_constant structs)) (cut puts i p h is)
    ∙ ap (λ x. or_else x (first_bad (is_constant structs) (all_given (drop (i + 1) puts)))) some

pub bad_end : (structs : List Struct) (puts : List (Option Put)) (i : ℕ) → length puts ≤ i
    → first_bad (is_constant structs) (all_given (drop i puts)) ≡ None
bad_end structs puts i h = ap (λ x. first_bad (is_constant structs) (all_given x)) (drop_all i puts h)

any_case : (vs : List (Option Given)) → first_bad any vs ≡ None
any_case [] = refl
any_case (None ∷ vs) = any_case vs
any_case (Some v ∷ vs) = any_case vs

pub any_may : (structs : List Struct) (constant : Bool) (vs : List (Option Given)) → constant ≡ false
    → first_bad (may_of structs constant) vs ≡ None
any_may structs true vs e = absurd (cc)
any_may structs false vs e = any_case vs

-- ---- lists that are judged

abbrev allowed_by : List (Option Given) → Option ℕ → Outcome (List (Option Given))
allowed_by vs None = Ok vs
allowed_by vs (Some line) = broken NotConstant line

abbrev with_value : Option Given → Outcome (List (Option Given)) → Outcome (List (Option Given))
with_value v o = o >>= λ vs. Ok (v ∷ vs)

with_case : (v : Option Given) (vs : List (Option Given)) (bad : Option ℕ)
    → with_value v (allowed_by vs bad) ≡ allowed_by (v ∷ vs) bad
with_case v vs None = refl
with_case v vs (Some line) = refl

if_case : (v : Given) (vs : List (Option Given)) (b : Bool) (bad : Option ℕ)
    → (if b then with_value (Some v) (allowed_by vs bad) else broken NotConstant v.line)
    ≡ allowed_by (Some v ∷ vs) (or_else (if b then None else Some v.line) bad)
if_case v vs true bad = with_case (Some v) vs bad
if_case v vs false bad = refl

allowed_is : (may : Expr → Bool) (vs : List (Option Given)) → allowed may vs ≡ allowed_by vs (first_bad may vs)
allowed_is may [] = refl
allowed_is may (None ∷ vs) = ap (with_value None) (allowed_is may vs) ∙ with_case None vs (first_bad may vs)
allowed_is may (Some v ∷ vs) =
    ap (λ o. if may v.value then with_value (Some v) o else broken NotConstant v.line) (allowed_is may vs)
    ∙ if_case v vs (may v.value) (first_bad may vs)

bad_zeros : (may : Expr → Bool) (rest : List Leaf) → first_bad may (zeros rest) ≡ None
bad_zeros may [] = refl
bad_zeros may (l ∷ rest) = bad_zeros may rest

bad_padded : (may : Expr → Bool) (vs : List (Option Given)) (rest : List Leaf) → first_bad may (vs ++ zeros rest) ≡ first_bad may vs
bad_padded may [] rest = bad_zeros may rest
bad_padded may (v ∷ vs) rest = ap (or_else (bad_in may v)) (bad_padded may vs rest)

allowed_padded : (may : Expr → Bool) (vs : List (Option Given)) (rest : List Leaf) (bad : Option ℕ) → first_bad may vs ≡ bad
    → allowed may (vs ++ zeros rest) ≡ allowed_by (vs ++ zeros rest) bad
allowed_padded may vs rest bad e =
    allowed_is may (vs ++ zeros rest) ∙ ap (allowed_by (vs ++ zeros rest)) (bad_padded may vs rest ∙ e)

fits_case : {A : Type 0} (b : Bool) (x y : A) → b ≡ true → (if b then x else y) ≡ x
fits_case true x y e = refl
fits_case false x y e = absurd (cc)

unfit_case : {A : Type 0} (b : Bool) (x y : A) → b ≡ false → (if b then x else y) ≡ y
unfit_case true x y e = absurd (cc)
unfit_case false x y e = refl

abbrev kept : List (Option Given) → Outcome (List (Option Given)) → Outcome (List (Option Given))
kept front o = o >>= λ vs. Ok (front ++ vs)

module _ (o : Object) (line start : ℕ) (c : Cursor) (puts : List (Option Put)) where
  abbrev front : List (Option Given)
  front = take start (all_given puts)

  abbrev back : List (Option Given)
  back = drop start (all_given puts)

  abbrev rest : List Leaf
  rest = ahead (all_leaves o) c

  pub judged_unfit : c.fits ≡ false → judged o line start c puts ≡ broken WrongType line
  judged_unfit e = ap (kept front) (unfit_case c.fits (allowed (may o) (back ++ zeros rest)) (broken WrongType line) e)

  fit_judged : c.fits ≡ true → (bad : Option ℕ) → first_bad (may o) back ≡ bad
      → judged o line start c puts ≡ kept front (allowed_by (back ++ zeros rest) bad)
  fit_judged e bad is =
      ap (kept front) (fits_case c.fits (allowed (may o) (back ++ zeros rest)) (broken WrongType line) e
      ∙ allowed_padded (may o) back rest bad is)

  given_back : first_bad (may o) (all_given (drop start puts)) ≡ first_bad (may o) back
  given_back = ap (first_bad (may o)) (sym (drop-map given_of start puts))

  pub judged_bad : (bad : ℕ) → c.fits ≡ true → Some bad ≡ first_bad (may o) (all_given (drop start puts))
      → judged o line start c puts ≡ broken NotConstant bad
  judged_bad bad e is = fit_judged e (Some bad) (sym given_back ∙ sym is)

  judged_well : c.fits ≡ true → None ≡ first_bad (may o) (all_given (drop start puts))
      → judged o line start c puts ≡ Ok (all_given puts ++ zeros rest)
  judged_well e is =
      fit_judged e None (sym given_back ∙ sym is)
      ∙ (ap (λ vs. let x : Outcome (List (Option Given)) = Ok vs in x) (sym (append_assoc front back (zeros rest)))
      ∙ ap (λ vs. let x : Outcome (List (Option Given)) = Ok (vs ++ zeros rest) in x) (take-append-drop start (all_given puts)))

-- ---- zeros

pub zeros_turn : (puts more : List (Option Put)) (before : List (Option Given)) (n : ℕ) → more ≡ puts ++ None ∷ []
    → all_given puts ≡ before ++ replicate n None → all_given more ≡ before ++ replicate (n + 1) None
zeros_turn puts more before n e f =
    given_push puts more None None e refl
    ∙ (ap (λ vs. vs ++ None ∷ []) f
    ∙ (append_assoc before (replicate n None) (None ∷ []) ∙ ap (λ vs. before ++ vs) (replicate_more n None)))

zeros_are : (ls : List Leaf) → zeros ls ≡ replicate (length ls) None
zeros_are [] = refl
zeros_are (l ∷ ls) = ap (λ vs. None ∷ vs) (zeros_are ls)

pub zeros_ahead : (all : List Leaf) (c : Cursor) → c.to ≤ length all → zeros (ahead all c) ≡ replicate (c.to - c.from) None
zeros_ahead all c h = zeros_are (ahead all c) ∙ ap (λ n. replicate n None) (length-ahead all c h)

pub judged_ok : (o : Object) (line start : ℕ) (c : Cursor) (puts more : List (Option Put)) → IsObject o → c.to ≤ o.total
    → c.fits ≡ true → None ≡ first_bad (may o) (all_given (drop start puts))
    → all_given more ≡ all_given puts ++ replicate (c.to - c.from) None
    → judged o line start c puts ≡ Ok (all_given more)
judged_ok o line start c puts more is_object low fits none e =
    let within : c.to ≤ length (all_leaves o) = omega (arith, is_object.total) in
    judged_well o line start c puts fits none
    ∙ ap (λ vs. let x : Outcome (List (Option Given)) = Ok vs in x)
    (ap (λ vs. all_given puts ++ vs) (zeros_ahead (all_leaves o) c within) ∙ sym e)

-- ---- a list with no object

is_ok : (found : List (Option Given)) (fits : Bool) (o : Outcome Filled) (b : Filled) (c : Cursor) → behind found fits o ≡ Ok b
    → (o >>= λ f. Ok c) ≡ Ok c
is_ok found fits (Err f) b c e = absurd (cc)
is_ok found fits (Ok f) b c e = refl

is_err : (found : List (Option Given)) (fits : Bool) (o : Outcome Filled) (f : Fault) → behind found fits o ≡ Err f → o ≡ Err f
is_err found fits (Err g) f e = cc
is_err found fits (Ok a) f e = absurd (cc)

module _ (o : Object) (items : List Initial) (c : Cursor) (found : List (Option Given)) where
  pub lost_is : (b : Filled) (r : Cursor) → behind found true (each o items []) ≡ Ok b → r ≡ unfit c → walked o items c ≡ Ok r
  lost_is b r e is =
      is_ok found true (each o items []) b (unfit c) e ∙ ap (λ x. let y : Outcome Cursor = Ok x in y) (sym is)

  pub lost_stopped : (all : List Leaf) (stop : Stop) (puts : List (Option Put))
      → Fills all (behind found true (each o items [])) (Err stop) puts → Answers (walked o items c) (Err stop)
  lost_stopped all (Broken f) puts e = ap (λ x. x >>= λ g. Ok (unfit c)) (is_err found true (each o items []) f e)
  lost_stopped all NoMemory puts e = tt

lost_case : (found : List (Option Given)) (fits : Bool) (leaves : List Leaf) (c : Cursor) (x : Outcome Filled) (r : Result Cursor Stop)
    → Answers (x >>= λ f. Ok (unfit c)) r → (all : List Leaf) → leaves ≡ ahead all (unfit c) → (puts : List (Option Put))
    → found ≡ all_given puts
    → Fills all (behind found fits (x >>= λ f. Ok (record { values = []; rest = leaves; fits = false }))) r puts
lost_case found fits leaves c (Err f) (Ok r) a all e puts g = absurd (cc)
lost_case found fits leaves c (Ok b) (Ok r) a all e puts g =
    let same : r ≡ unfit c = cc in
    rw same (ap (λ vs. outcome vs leaves (fits && false)) (append-nil found)
    ∙ (ap (λ b. outcome found leaves b) (and_false fits)
    ∙ (ap (λ vs. outcome vs leaves false) g ∙ ap (λ ls. outcome (all_given puts) ls false) e)))
lost_case found fits leaves c (Err f) (Err (Broken g)) a all e puts h =
    let same : f ≡ g = cc in ap (λ x. let y : Outcome Filled = Err x in y) same
lost_case found fits leaves c (Ok b) (Err (Broken g)) a all e puts h = absurd (cc)
lost_case found fits leaves c x (Err NoMemory) a all e puts h = tt

-- no scalar is ahead
pub lost_nowhere : (o : Object) (line : ℕ) (items : List Initial) (c : Cursor) (r : Result Cursor Stop) (puts : List (Option Put))
    → Answers (walked o items c) r → c.to ≤ c.from
    → Fills (all_leaves o) (behind (all_given puts) c.fits (listed (may o) line (map (item o) items) (ahead (all_leaves o) c))) r puts
lost_nowhere o line items c r puts a h =
    let all : List Leaf = all_leaves o in
    let none : ahead all c ≡ [] = ahead_none all c h in
    let other : [] ≡ ahead all (unfit c) = sym none in
    subst (λ ls. Fills all (behind (all_given puts) c.fits (listed (may o) line (map (item o) items) ls)) r puts) (sym none)
    (lost_case (all_given puts) c.fits [] c (each o items []) r a all other puts refl)

-- no object is left that begins there
pub lost_here : (o : Object) (line : ℕ) (items : List Initial) (c : Cursor) (r : Result Cursor Stop) (puts : List (Option Put))
    → Answers (walked o items c) r → c.from < c.to → c.from < length (all_leaves o)
    → None ≡ slice_get (get_or (all_leaves o) c.from no_leaf).begins c.outer
    → Fills (all_leaves o) (behind (all_given puts) c.fits (listed (may o) line (map (item o) items) (ahead (all_leaves o) c))) r puts
lost_here o line items c r puts a low h none =
    let all : List Leaf = all_leaves o in
    let l : Leaf = record { ty = (get_or all c.from no_leaf).ty; begins = [] } in
    let more : List Leaf = ahead all (record { from = c.from + 1; to = c.to; outer = 0; fits = true }) in
    let is : ahead all c ≡ l ∷ more = ahead_lost all c true low h (sym none) in
    let other : l ∷ more ≡ ahead all (unfit c) = sym is in
    subst (λ ls. Fills all (behind (all_given puts) c.fits (listed (may o) line (map (item o) items) ls)) r puts) (sym is)
    (lost_case (all_given puts) c.fits (l ∷ more) c (each o items []) r a all other puts refl)

-- ---- a list for an object

abbrev list_outcome : (Expr → Bool) → ℕ → List Leaf → Outcome Filled → Outcome Filled
list_outcome may line after o = o >>= λ f. spec.judged may line f >>= λ vs. Ok (record { values = vs; rest = after; fits = true })

opened_outcome : (o : Object) (line count : ℕ) (items : List Initial) (c inner after : Cursor) → IsParted c count inner after
    → c.from < length (all_leaves o) → slice_get (get_or (all_leaves o) c.from no_leaf).begins c.outer ≡ Some count
    → listed (may o) line (map (item o) items) (ahead (all_leaves o) c)
    ≡ list_outcome (may o) line (ahead (all_leaves o) after) (each o items (ahead (all_leaves o) inner))
opened_outcome o line count items c inner after p h is =
    let all : List Leaf = all_leaves o in
    let is_open = open_at all c inner after count p h is in
    let first : Leaf = get_or all c.from no_leaf in
    let around : Leaf = record { ty = first.ty; begins = count ∷ drop (suc c.outer) first.begins } in
    let behind_it : List Leaf = take (c.to - (c.from + 1)) (drop (c.from + 1) all) in
    ap (listed (may o) line (map (item o) items)) is_open.around
    ∙ (ap (λ ls. list_outcome (may o) line (drop count (around ∷ behind_it)) (spec.each (map (item o) items) ls)) is_open.inside
    ∙ ap (λ ls. list_outcome (may o) line ls (each o items (ahead all inner))) is_open.behind)

opened_broken : (o : Object) (line count : ℕ) (items : List Initial) (c inner after : Cursor) (found : List (Option Given)) (f : Fault)
    → IsParted c count inner after
    → c.from < length (all_leaves o) → slice_get (get_or (all_leaves o) c.from no_leaf).begins c.outer ≡ Some count
    → behind found inner.fits (each o items (ahead (all_leaves o) inner)) ≡ Err f
    → behind found c.fits (listed (may o) line (map (item o) items) (ahead (all_leaves o) c)) ≡ Err f
opened_broken o line count items c inner after found f p h is e =
    ap (behind found c.fits) (opened_outcome o line count items c inner after p h is
    ∙ ap (list_outcome (may o) line (ahead (all_leaves o) after)) (is_err found inner.fits (each o items (ahead (all_leaves o) inner)) f e))

pub opened_stopped : (o : Object) (line count : ℕ) (items : List Initial) (c inner after : Cursor) (found : List (Option Given))
    (stop : Stop) (puts more : List (Option Put)) → IsParted c count inner after → c.from < length (all_leaves o)
    → slice_get (get_or (all_leaves o) c.from no_leaf).begins c.outer ≡ Some count
    → Fills (all_leaves o) (behind found inner.fits (each o items (ahead (all_leaves o) inner))) (Err stop) puts
    → Fills (all_leaves o) (behind found c.fits (listed (may o) line (map (item o) items) (ahead (all_leaves o) c))) (Err stop) more
opened_stopped o line count items c inner after found (Broken f) puts more p h is e =
    opened_broken o line count items c inner after found f p h is e
opened_stopped o line count items c inner after found NoMemory puts more p h is e = tt

-- what is behind the values before it
abbrev list_behind : (Expr → Bool) → ℕ → List Leaf → List (Option Given) → Bool → Filled → Outcome Filled
list_behind may line after found fits f =
    spec.judged may line f >>= λ vs. Ok (record { values = found ++ vs; rest = after; fits = fits })

list_case : (line : ℕ) (after : List Leaf) (found : List (Option Given)) (fits : Bool) (o : Outcome (List (Option Given)))
    → behind found fits (o >>= λ vs. Ok (record { values = vs; rest = after; fits = true }))
    ≡ (kept found o >>= λ vs. Ok (record { values = vs; rest = after; fits = fits }))
list_case line after found fits (Err f) = refl
list_case line after found fits (Ok vs) = ap (λ b. outcome (found ++ vs) after b) (and_true fits)

-- the values of the items stand behind those before
module _ (o : Object) (line : ℕ) (after : List Leaf) (old puts : List (Option Put)) (fits : Bool) (end : Cursor) (start : ℕ) where
  split_case : (f : Filled) → length old ≡ start → all_given old ++ f.values ≡ all_given puts → f.rest ≡ ahead (all_leaves o) end
      → f.fits ≡ end.fits
      → kept (all_given old) (spec.judged (may o) line f) ≡ judged o line start end puts
  split_case f long values rest fit =
      let long2 : length (all_given old) ≡ start = length-map old given_of ∙ long in
      let front_is : take start (all_given puts) ≡ all_given old =
      ap (take start) (sym values) ∙ take_at (all_given old) f.values start long2 in
      let back_is : drop start (all_given puts) ≡ f.values =
      ap (drop start) (sym values) ∙ drop_at (all_given old) f.values start long2 in
      let made : List (Option Given) → List Leaf → Bool → Filled = λ vs ls b. record { values = vs; rest = ls; fits = b } in
      ap (λ vs. kept vs (spec.judged (may o) line f)) (sym front_is)
      ∙ (ap (λ vs. kept (take start (all_given puts)) (spec.judged (may o) line (made vs f.rest f.fits))) (sym back_is)
      ∙ (ap (λ ls. kept (take start (all_given puts)) (spec.judged (may o) line (made (drop start (all_given puts)) ls f.fits))) rest
      ∙ ap (λ b. kept (take start (all_given puts))
      (spec.judged (may o) line (made (drop start (all_given puts)) (ahead (all_leaves o) end) b))) fit))

  walked_case : (x : Outcome Filled) → length old ≡ start
      → behind (all_given old) true x ≡ Ok (record { values = all_given puts; rest = ahead (all_leaves o) end; fits = end.fits })
      → behind (all_given old) fits (list_outcome (may o) line after x)
      ≡ (judged o line start end puts >>= λ vs. Ok (record { values = vs; rest = after; fits = fits }))
  walked_case (Err f) long e = absurd (cc)
  walked_case (Ok f) long e =
      let made : Filled = record { values = all_given old ++ f.values; rest = f.rest; fits = f.fits } in
      let wanted : Filled = record { values = all_given puts; rest = ahead (all_leaves o) end; fits = end.fits } in
      let same : made ≡ wanted = cc in
      list_case line after (all_given old) fits (spec.judged (may o) line f)
      ∙ ap (λ x. x >>= λ vs. Ok (record { values = vs; rest = after; fits = fits }))
      (split_case f long (ap (λ (x : Filled). x.values) same) (ap (λ (x : Filled). x.rest) same) (ap (λ (x : Filled). x.fits) same))

module _ (o : Object) (line count : ℕ) (items : List Initial) (c inner after end : Cursor) (old puts : List (Option Put)) (start : ℕ)
    (parted : IsParted c count inner after) (h : c.from < length (all_leaves o))
    (is : slice_get (get_or (all_leaves o) c.from no_leaf).begins c.outer ≡ Some count) (long : start ≡ length old)
    (walked : behind (all_given old) inner.fits (each o items (ahead (all_leaves o) inner))
    ≡ Ok (record { values = all_given puts; rest = ahead (all_leaves o) end; fits = end.fits })) where
  opened_judged : behind (all_given old) c.fits (listed (may o) line (map (item o) items) (ahead (all_leaves o) c))
      ≡ (judged o line start end puts >>= λ vs. Ok (record { values = vs; rest = ahead (all_leaves o) after; fits = c.fits }))
  opened_judged =
      let inside : inner.fits ≡ true = ap (λ (x : Cursor). x.fits) parted.inner_is in
      let from_true = subst (λ b. behind (all_given old) b (each o items (ahead (all_leaves o) inner))
      ≡ Ok (record { values = all_given puts; rest = ahead (all_leaves o) end; fits = end.fits })) inside walked in
      ap (behind (all_given old) c.fits) (opened_outcome o line count items c inner after parted h is)
      ∙ walked_case o line (ahead (all_leaves o) after) old puts c.fits end start
      (each o items (ahead (all_leaves o) inner)) (sym long) from_true

  opened_refused : (f : Fault) → judged o line start end puts ≡ Err f
      → behind (all_given old) c.fits (listed (may o) line (map (item o) items) (ahead (all_leaves o) c)) ≡ Err f
  opened_refused f e =
      opened_judged ∙ ap (λ x. x >>= λ vs. Ok (record { values = vs; rest = ahead (all_leaves o) after; fits = c.fits })) e

  pub opened_unjudged : (stop : Stop) (more last : List (Option Put)) → Puts (judged o line start end puts) (Err stop) more
      → Fills (all_leaves o) (behind (all_given old) c.fits (listed (may o) line (map (item o) items) (ahead (all_leaves o) c)))
      (Err stop) last
  opened_unjudged (Broken f) more last e = opened_refused f e
  opened_unjudged NoMemory more last e = tt

  pub opened_is : (more : List (Option Put)) → judged o line start end puts ≡ Ok (all_given more)
      → behind (all_given old) c.fits (listed (may o) line (map (item o) items) (ahead (all_leaves o) c))
      ≡ Ok (record { values = all_given more; rest = ahead (all_leaves o) after; fits = after.fits })
  opened_is more e =
      let same : c.fits ≡ after.fits = ap (λ (x : Cursor). x.fits) (sym parted.after_is) in
      opened_judged
      ∙ (ap (λ x. x >>= λ vs. Ok (record { values = vs; rest = ahead (all_leaves o) after; fits = c.fits })) e
      ∙ ap (λ b. outcome (all_given more) (ahead (all_leaves o) after) b) same)

-- ---- items one after another

and_assoc : (a b c : Bool) → (a && b) && c ≡ a && (b && c)
and_assoc true b c = refl
and_assoc false b c = refl

turn_case : (found : List (Option Given)) (fits : Bool) (a : Filled) (rest : Outcome Filled)
    → behind found fits (rest >>= λ b. Ok (record { values = a.values ++ b.values; rest = b.rest; fits = a.fits && b.fits }))
    ≡ behind (found ++ a.values) (fits && a.fits) rest
turn_case found fits a (Err f) = refl
turn_case found fits a (Ok b) =
    ap (λ vs. outcome vs b.rest (fits && (a.fits && b.fits))) (sym (append_assoc found a.values b.values))
    ∙ ap (λ f. outcome ((found ++ a.values) ++ b.values) b.rest f) (sym (and_assoc fits a.fits b.fits))

abbrev then_each : Outcome Filled → (List Leaf → Outcome Filled) → Outcome Filled
then_each x rest =
    x >>= λ a. rest a.rest >>= λ b. Ok (record { values = a.values ++ b.values; rest = b.rest; fits = a.fits && b.fits })

next_case : (found : List (Option Given)) (fits : Bool) (x : Outcome Filled) (rest : List Leaf → Outcome Filled) (s : Filled)
    → behind found fits x ≡ Ok s → behind found fits (then_each x rest) ≡ behind s.values s.fits (rest s.rest)
next_case found fits (Err f) rest s e = absurd (cc)
next_case found fits (Ok a) rest s e =
    let same : record { values = found ++ a.values; rest = a.rest; fits = fits && a.fits } ≡ s = cc in
    turn_case found fits a (rest a.rest) ∙ ap (λ (f : Filled). behind f.values f.fits (rest f.rest)) same

break_case : (found : List (Option Given)) (fits : Bool) (x : Outcome Filled) (rest : List Leaf → Outcome Filled) (f : Fault)
    → behind found fits x ≡ Err f → behind found fits (then_each x rest) ≡ Err f
break_case found fits x rest f e =
    let bad : x ≡ Err f = is_err found fits x f e in ap (λ o. behind found fits (then_each o rest)) bad

module _ (o : Object) (items : List Initial) (i : ℕ) (x : Initial) (here : i < length items) (is : x ≡ get_or items i x)
    (found : List (Option Given)) (c : Cursor) where
  each_cut : each o (drop i items) (ahead (all_leaves o) c)
      ≡ then_each (item o x (ahead (all_leaves o) c)) (each o (drop (i + 1) items))
  each_cut =
      ap (λ (all : List Initial). each o all (ahead (all_leaves o) c))
      (drop_more items i x here ∙ ap (λ y. y ∷ drop (i + 1) items) (sym is))

  pub each_turn : (next : Cursor) (puts : List (Option Put))
      → behind found c.fits (item o x (ahead (all_leaves o) c))
      ≡ Ok (record { values = all_given puts; rest = ahead (all_leaves o) next; fits = next.fits })
      → behind found c.fits (each o (drop i items) (ahead (all_leaves o) c))
      ≡ behind (all_given puts) next.fits (each o (drop (i + 1) items) (ahead (all_leaves o) next))
  each_turn next puts e =
      ap (behind found c.fits) each_cut
      ∙ next_case found c.fits (item o x (ahead (all_leaves o) c)) (each o (drop (i + 1) items))
      (record { values = all_given puts; rest = ahead (all_leaves o) next; fits = next.fits }) e

  each_break : (f : Fault) → behind found c.fits (item o x (ahead (all_leaves o) c)) ≡ Err f
      → behind found c.fits (each o (drop i items) (ahead (all_leaves o) c)) ≡ Err f
  each_break f e =
      ap (behind found c.fits) each_cut
      ∙ break_case found c.fits (item o x (ahead (all_leaves o) c)) (each o (drop (i + 1) items)) f e

pub each_stopped : (o : Object) (items : List Initial) (i : ℕ) (x : Initial) (before found : List (Option Given)) (first c : Cursor)
    (all : List Initial) (stop : Stop) (puts more : List (Option Put)) → i < length items → x ≡ get_or items i x
    → behind before first.fits (each o all (ahead (all_leaves o) first))
    ≡ behind found c.fits (each o (drop i items) (ahead (all_leaves o) c))
    → Fills (all_leaves o) (behind found c.fits (item o x (ahead (all_leaves o) c))) (Err stop) puts
    → Fills (all_leaves o) (behind before first.fits (each o all (ahead (all_leaves o) first))) (Err stop) more
each_stopped o items i x before found first c all (Broken f) puts more here is same e =
    same ∙ each_break o items i x here is found c f e
each_stopped o items i x before found first c all NoMemory puts more here is same e = tt

pub each_end : (o : Object) (items : List Initial) (i : ℕ) (found : List (Option Given)) (c : Cursor) → length items ≤ i
    → behind found c.fits (each o (drop i items) (ahead (all_leaves o) c))
    ≡ Ok (record { values = found; rest = ahead (all_leaves o) c; fits = c.fits })
each_end o items i found c h =
    ap (λ (all : List Initial). behind found c.fits (each o all (ahead (all_leaves o) c))) (drop_all i items h)
    ∙ (ap (λ vs. outcome vs (ahead (all_leaves o) c) (c.fits && true)) (append-nil found)
    ∙ ap (λ b. outcome found (ahead (all_leaves o) c) b) (and_true c.fits))

-- ---- a whole initialiser

whole_case : (x : Outcome Filled) (b : Filled) → behind [] true x ≡ Ok b → (x >>= λ f. Ok f.values) ≡ Ok b.values
whole_case (Err f) b e = absurd (cc)
whole_case (Ok a) b e =
    let same : record { values = a.values; rest = a.rest; fits = a.fits } ≡ b = cc in
    ap (λ (f : Filled). let y : Outcome (List (Option Given)) = Ok f.values in y) same

pub whole_is : (all : List Leaf) (x : Item) (n : ℕ) (next : Cursor) (start puts : List (Option Put)) → n ≡ length all → start ≡ []
    → behind (all_given start) true (x (ahead all (record { from = 0; to = n; outer = 0; fits = true })))
    ≡ Ok (record { values = all_given puts; rest = ahead all next; fits = next.fits })
    → (x all >>= λ f. Ok f.values) ≡ Ok (all_given puts)
whole_is all x n next start puts h none e =
    let first : behind [] true (x (ahead all (record { from = 0; to = n; outer = 0; fits = true })))
    ≡ Ok (record { values = all_given puts; rest = ahead all next; fits = next.fits }) =
    subst (λ ps. behind (all_given ps) true (x (ahead all (record { from = 0; to = n; outer = 0; fits = true })))
    ≡ Ok (record { values = all_given puts; rest = ahead all next; fits = next.fits })) none e in
    ap (λ ls. x ls >>= λ f. Ok f.values) (sym (ahead_all all n true h))
    ∙ whole_case (x (ahead all (record { from = 0; to = n; outer = 0; fits = true })))
    (record { values = all_given puts; rest = ahead all next; fits = next.fits }) first

whole_broken : (all : List Leaf) (x : Item) (n : ℕ) (f : Fault) (start : List (Option Put)) → n ≡ length all
    → behind (all_given start) true (x (ahead all (record { from = 0; to = n; outer = 0; fits = true }))) ≡ Err f → x all ≡ Err f
whole_broken all x n f start h e =
    ap x (sym (ahead_all all n true h))
    ∙ is_err (all_given start) true (x (ahead all (record { from = 0; to = n; outer = 0; fits = true }))) f e

pub whole_stopped : (all : List Leaf) (x : Item) (n : ℕ) (start puts : List (Option Put)) (stop : Stop) → n ≡ length all
    → Fills all (behind (all_given start) true (x (ahead all (record { from = 0; to = n; outer = 0; fits = true })))) (Err stop) puts
    → HasPut (x all) (Err stop)
whole_stopped all x n start puts (Broken f) h e = whole_broken all x n f start h e
whole_stopped all x n start puts NoMemory h e = tt

pub total_is : (structs more : List Struct) (known kept : List (Option (List ℕ))) (t : Ty) (total : ℕ) → more ≡ structs
    → kept ≡ known → length known ≡ length more → total ≡ length (leaves_in (before more (length kept)) t)
    → total ≡ length (leaves structs t)
total_is structs more known kept t total e f long h =
    counted_all structs known t total 0 0 (long ∙ ap length e)
    (h ∙ (ap (λ ss. length (leaves_in (before ss (length kept)) t)) e ∙ ap (λ k. length (leaves_in (before structs (length k)) t)) f))

pub is_object : (o : Object) (more : List Struct) (kept : List (Option (List ℕ))) → more ≡ o.env.now.structs → kept ≡ o.known
    → IsCounted o.known more → length o.known ≡ length more
    → o.total ≡ length (leaves_in (before more (length kept)) o.ty.now) → IsObject o
is_object o more kept e f counted long h = record {
  counted = subst (λ ss. IsCounted o.known ss) e counted;
  whole = long ∙ ap length e;
  total = total_is o.env.now.structs more o.known kept o.ty.now o.total e f long h;
}

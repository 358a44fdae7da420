-- The labels of a `switch` stand once each, and have values of its type.
use Rattle.std.proofs.Common.{append_assoc, ◌≡◌, ℕ, suc, ◌-◌, ◌%◌, ◌≤◌, ◌<◌, Bool, true, false, cond, ◌||◌, List, [], ◌∷◌, ◌++◌, length, nat_lt, ℤ, pos, negsuc, Option, Some, None, Ok, Err, refl, sym, ap, rules, tests, arith}
use Rattle.std.specs.Ordering.{int_eq}
use Rattle.std.proofs.lemmas.Bool.Decides.{Decides-int_eq}
use Rattle.base16.specs.Integer.{wrapped}
use Rattle.base16.specs.declared.integer.IntType.{IntType}
use Rattle.base16.specs.declared.integer.IntType.TheVariants.{Char, Int, UInt}
use Rattle.c_tree.specs.declared.statements.Label.{Label}
use Rattle.c_tree.specs.declared.statements.Label.TheVariants as label
use Rattle.core_tree.specs.declared.expressions.Expr.{Expr}
use Rattle.core_tree.specs.LawfulCore.{Every, IsNone, Apart, OnSome}
use Rattle.core_tree.specs.Rules.{is_value}
use Rattle.c_values.specs.Operators.{as_type}
use Rattle.c_typing.specs.declared.fault.Rule.TheVariants.{Twice}
use Rattle.c_typing.specs.declared.environment.Env.{Env}
use Rattle.c_typing.specs.Outcome.{Outcome, ◌>>=◌, at, broken}
use Rattle.c_typing.specs.TypeNames.{constant_of}
use Rattle.c_checking.specs.Declarators.{value_of}
use Rattle.c_checking.specs.Statements.{same_label, stands_in, case_value, once, label_of, labels_of}

-- ---- values of types

pub char_fits : (n : ℕ) → n ≤ 255 → is_value Char (pos n) ≡ true
char_fits n h = grind (arith, tests)

pub word_fits : (n : ℕ) → n ≤ 65535 → is_value UInt (pos n) ≡ true
word_fits n h = grind (arith, tests)

positive_fits : (n : ℕ) → n ≤ 32767 → is_value Int (pos n) ≡ true
positive_fits n h = grind (arith, tests)

negative_fits : (n : ℕ) → n ≤ 32767 → is_value Int (negsuc n) ≡ true
negative_fits n h = grind (arith, tests)

is_less : (n m : ℕ) → nat_lt n m ≡ true → n < m
is_less n m is = grind (arith, tests)

is_more : (n m : ℕ) → nat_lt n m ≡ false → m ≤ n
is_more n m is = grind (arith, tests)

pub signed_by : (n : ℕ) (b : Bool) → nat_lt n 32768 ≡ b → n < 65536 → is_value Int (cond b (pos n) (negsuc (65535 - n))) ≡ true
signed_by n true is h = let g : n < 32768 = is_less n 32768 is in positive_fits n (omega arith)
signed_by n false is h = let g : 32768 ≤ n = is_more n 32768 is in negative_fits (65535 - n) (omega arith)

pub wrapped_below : (n : ℤ) → wrapped n < 65536
wrapped_below (pos n) = omega arith
wrapped_below (negsuc n) = omega arith

pub as_type_fits : (t : IntType) (n : ℤ) → is_value t (as_type t n) ≡ true
unfolding as_type
as_type_fits Char n = char_fits (wrapped n % 256) (omega arith)
as_type_fits Int n = signed_by (wrapped n) (nat_lt (wrapped n) 32768) refl (wrapped_below n)
as_type_fits UInt n = let h : wrapped n < 65536 = wrapped_below n in word_fits (wrapped n) (omega arith)

-- ---- labels that do not stand before

apart_int : (m n : ℤ) → int_eq m n ≡ false → m ≡ n → ⊥
apart_int m n other is = let h : int_eq m n ≡ true = (Decides-int_eq m n).1 is in absurd (search rules)

apart_label : (m l : Option ℤ) → same_label m l ≡ false → m ≡ l → ⊥
apart_label None None other is = absurd (search rules)
apart_label None (Some n) other is = cc
apart_label (Some m) None other is = cc
apart_label (Some m) (Some n) other is = apart_int m n other cc

neither : (p q : Bool) → (p || q) ≡ false → (p ≡ false) × (q ≡ false)
neither true q is = absurd (search rules)
neither false q is = (refl, is)

is_none_of : (before : List (Option ℤ)) (l : Option ℤ) → stands_in before l ≡ false → IsNone l before
is_none_of [] l other = tt
is_none_of (m ∷ more) l other =
    let w = neither (same_label m l) (stands_in more l) other in
    ((λ is. apart_label m l w.0 (sym is)), is_none_of more l w.1)

pub none_first : {A : Type 0} (x : A) (xs ys : List A) → IsNone x (xs ++ ys) → IsNone x xs
none_first x [] ys p = tt
none_first x (z ∷ zs) ys p = (p.0, none_first x zs ys p.1)

pub none_rest : {A : Type 0} (x : A) (xs ys : List A) → IsNone x (xs ++ ys) → IsNone x ys
none_rest x [] ys p = p
none_rest x (z ∷ zs) ys p = none_rest x zs ys p.1

none_of_all : {A : Type 0} (x : A) (before ys : List A) → Every (λ y. IsNone y (before ++ x ∷ [])) ys → IsNone x ys
none_of_all x before [] p = tt
none_of_all x before (y ∷ ys) p =
    ((λ is. (none_rest y before (x ∷ []) p.0).0 (sym is)), none_of_all x before ys p.1)

fewer_before : {A : Type 0} (before more ys : List A) → Every (λ y. IsNone y (before ++ more)) ys
    → Every (λ y. IsNone y before) ys
fewer_before before more [] p = tt
fewer_before before more (y ∷ ys) p = (none_first y before more p.0, fewer_before before more ys p.1)

none_more : {A : Type 0} (x : A) (xs ys : List A) → IsNone x xs → IsNone x ys → IsNone x (xs ++ ys)
none_more x [] ys p q = q
none_more x (z ∷ zs) ys p q = (p.0, none_more x zs ys p.1 q)

none_of_those : {A : Type 0} (x : A) (before xs ys : List A) → Every (λ y. IsNone y (before ++ x ∷ xs)) ys → IsNone x ys
none_of_those x before xs [] p = tt
none_of_those x before xs (y ∷ ys) p =
    ((λ is. (none_rest y before (x ∷ xs) p.0).0 (sym is)), none_of_those x before xs ys p.1)

apart_more : {A : Type 0} (before xs ys : List A) → Apart xs → Apart ys → Every (λ y. IsNone y (before ++ xs)) ys
    → Apart (xs ++ ys)
apart_more before [] ys p q r = q
apart_more before (x ∷ xs) ys p q r = (
  none_more x xs ys p.0 (none_of_those x before xs ys r),
  apart_more (before ++ x ∷ []) xs ys p.1 q (rw (append_assoc before (x ∷ []) xs) r),
)

-- labels that stand once, none of them among those before, with values of a type
pub record AreLabels (t : IntType) (before ls : List (Option ℤ)) : Type 0 where
  pub apart : Apart ls
  pub new : Every (λ l. IsNone l before) ls
  pub values : Every (OnSome (λ n. is_value t n ≡ true)) ls

pub no_labels : (t : IntType) (before : List (Option ℤ)) → AreLabels t before []
no_labels t before = record { apart = tt; new = tt; values = tt }

every_both : {A : Type 0} (P : A → Type 0) (xs ys : List A) → Every P xs → Every P ys → Every P (xs ++ ys)
every_both P [] ys p q = q
every_both P (x ∷ xs) ys p q = (p.0, every_both P xs ys p.1 q)

pub more_labels : (t : IntType) (before xs ys : List (Option ℤ)) → AreLabels t before xs → AreLabels t (before ++ xs) ys
    → AreLabels t before (xs ++ ys)
more_labels t before xs ys p q = record {
  apart = apart_more before xs ys p.apart q.apart q.new;
  new = every_both (λ l. IsNone l before) xs ys p.new (fewer_before before xs ys q.new);
  values = every_both (OnSome (λ n. is_value t n ≡ true)) xs ys p.values q.values;
}

one_label : (t : IntType) (before : List (Option ℤ)) (l : Option ℤ) → IsNone l before
    → OnSome (λ n. is_value t n ≡ true) l → AreLabels t before (l ∷ [])
one_label t before l new within = record { apart = (tt, tt); new = (new, tt); values = (within, tt) }

once_by : (line : ℕ) (before : List (Option ℤ)) (l m : Option ℤ) (b : Bool) → stands_in before l ≡ b
    → cond b (broken Twice line) (Ok l) ≡ Ok m → (IsNone l before) × (l ≡ m)
once_by line before l m true at_b is = absurd (search rules)
once_by line before l m false at_b is = (is_none_of before l at_b, cc)

-- a label
label_is : (env : Env) (line : ℕ) (t : IntType) (before : List (Option ℤ)) (l : Label) (m : Option ℤ)
    → label_of env line t before l ≡ Ok m → AreLabels t before (m ∷ [])
unfolding label_of
label_is env line t before label.Default m is =
    let w = once_by line before None m (stands_in before None) refl is in
    rw (← w.1) (one_label t before None w.0 tt)
label_is env line t before (label.Case e) m is = by_value (value_of env e) is
  where
    by_case : (c : Option ℤ) → (at e.line (case_value t c) >>= λ n. once e.line before (Some n)) ≡ Ok m
        → AreLabels t before (m ∷ [])
    by_case None at_c = absurd (search rules)
    by_case (Some n) at_c =
        let w = once_by e.line before (Some (as_type t n)) m (stands_in before (Some (as_type t n))) refl at_c in
        rw (← w.1) (one_label t before (Some (as_type t n)) w.0 (as_type_fits t n))

    by_value : (o : Outcome (Option Expr))
        → (o >>= λ v. at e.line (case_value t (constant_of v)) >>= λ n. once e.line before (Some n)) ≡ Ok m
        → AreLabels t before (m ∷ [])
    by_value (Err f) at_o = absurd (search rules)
    by_value (Ok v) at_o = by_case (constant_of v) at_o

-- the labels of a group, as many as are written
abbrev pub LabelsAre : IntType → List (Option ℤ) → List (Option ℤ) → ℕ → Type 0
LabelsAre t before xs count = AreLabels t before xs × (length xs ≡ count)

labels_by_more : (t : IntType) (before xs : List (Option ℤ)) (count : ℕ) (m : Option ℤ) (o : Outcome (List (Option ℤ)))
    → AreLabels t before (m ∷ []) → ((ys : List (Option ℤ)) → o ≡ Ok ys → LabelsAre t (before ++ m ∷ []) ys count)
    → (o >>= λ ys. Ok (m ∷ ys)) ≡ Ok xs → LabelsAre t before xs (suc count)
labels_by_more t before xs count m (Err f) one deeper is = absurd (search rules)
labels_by_more t before xs count m (Ok ys) one deeper is =
    let e : m ∷ ys ≡ xs = cc in
    let w = deeper ys refl in
    rw (← e) (more_labels t before (m ∷ []) ys one w.0, ap (λ n. suc n) w.1)

labels_by_label : (env : Env) (line : ℕ) (t : IntType) (before xs : List (Option ℤ)) (l : Label) (ls : List Label)
    (o : Outcome (Option ℤ)) → label_of env line t before l ≡ o
    → ((m : Option ℤ) (ys : List (Option ℤ)) → labels_of env line t (before ++ m ∷ []) ls ≡ Ok ys
    → LabelsAre t (before ++ m ∷ []) ys (length ls))
    → (o >>= λ x. labels_of env line t (before ++ x ∷ []) ls >>= λ ys. Ok (x ∷ ys)) ≡ Ok xs
    → LabelsAre t before xs (suc (length ls))
labels_by_label env line t before xs l ls (Err f) at_l deeper is = absurd (search rules)
labels_by_label env line t before xs l ls (Ok m) at_l deeper is =
    labels_by_more t before xs (length ls) m (labels_of env line t (before ++ m ∷ []) ls)
    (label_is env line t before l m at_l) (deeper m) is

pub labels_are : (env : Env) (line : ℕ) (t : IntType) (before : List (Option ℤ)) (ls : List Label) (xs : List (Option ℤ))
    → labels_of env line t before ls ≡ Ok xs → LabelsAre t before xs (length ls)
labels_are env line t before [] xs is = let e : [] ≡ xs = cc in rw (← e) (no_labels t before, refl)
labels_are env line t before (l ∷ ls) xs is =
    labels_by_label env line t before xs l ls (label_of env line t before l) refl
    (λ m ys at. labels_are env line t (before ++ m ∷ []) ls ys at) is

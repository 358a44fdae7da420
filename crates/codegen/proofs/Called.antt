-- The helper routines that the steps of a program call are among those that are placed.
use Rattle.std.proofs.Common.{◌≡◌, ℕ, zero, suc, ◌+◌, Bool, true, false, ◌||◌, List, [], ◌∷◌, ◌++◌, Some, sym, subst, refl, nat_eq, inl, inr, arith}
use Rattle.std.proofs.lemmas.Bool.Decides.{nat_tests}
use Rattle.std.specs.Prelude.{slice_get, if◌then◌else◌}
use Rattle.core_tree.specs.LawfulCore.{Every}
use Rattle.asm430.specs.declared.item.Item.{Item}
use Rattle.rt430.specs.declared.words.Helper.{Helper}
use Rattle.rt430.specs.declared.words.Helper.TheVariants as helper
use Rattle.ir.specs.declared.form.Ir.{Ir}
use Rattle.ir.specs.declared.form.IrFunction.{IrFunction}
use Rattle.ir.specs.declared.form.Step.{Step}
use Rattle.select430.specs.declared.part.Part.{Part}
use Rattle.select430.specs.declared.part.Part.TheVariants as part
use Rattle.select430.specs.Code.{code_of_step}
use Rattle.select430.specs.Items.{block, steps_items, function_items, functions_items}
use Rattle.select430.specs.Labels.{function_label, helper_number, helper_label, first_helper_label}
use Rattle.select430.specs.Parts.{parts_items}
use Rattle.steps430.specs.Setting.{Setting, HasItsRoutine}
use Rattle.codegen.specs.Program.{is_call, has_call, called_of, all_helpers, routines_of}
use Rattle.codegen.proofs.Lists.{same_some, none_some}
use Rattle.codegen.proofs.RoutinesStand.{IsAmong}

-- ---- over truths

pub or_first : (a b : Bool) → a ≡ true → a || b ≡ true
or_first true b e = refl
or_first false b e = cc

pub or_second : (a b : Bool) → b ≡ true → a || b ≡ true
or_second true b e = refl
or_second false b e = e

-- ---- what is called

-- whether parts call a helper routine
abbrev pub parts_call : Helper → List Part → Bool
parts_call which [] = false
parts_call which (part.Helps other ∷ xs) = nat_eq (helper_number other) (helper_number which) || parts_call which xs
parts_call which (x ∷ xs) = parts_call which xs

call_left : (label : ℕ) (xs ys : List Item) → has_call label xs ≡ true → has_call label (xs ++ ys) ≡ true
call_left label [] ys c = cc
call_left label (x ∷ xs) ys c = from (is_call label x) (call_left label xs ys) c
  where
    from : (b : Bool) → (has_call label xs ≡ true → has_call label (xs ++ ys) ≡ true) → b || has_call label xs ≡ true
        → b || has_call label (xs ++ ys) ≡ true
    from true more c = refl
    from false more c = more c

call_right : (label : ℕ) (xs ys : List Item) → has_call label ys ≡ true → has_call label (xs ++ ys) ≡ true
call_right label [] ys c = c
call_right label (x ∷ xs) ys c = or_second (is_call label x) (has_call label (xs ++ ys)) (call_right label xs ys c)

same_label : (m n : ℕ) → nat_eq m n ≡ true → nat_eq (first_helper_label + m) (first_helper_label + n) ≡ true
same_label m n e = grind (arith, nat_tests)

-- parts call what their items call
in_parts : (g p : ℕ) (which : Helper) (xs : List Part) → parts_call which xs ≡ true
    → has_call (helper_label which) (parts_items g p xs) ≡ true
in_parts g p which [] c = cc
in_parts g p which (part.Helps x ∷ xs) c = from (nat_eq (helper_number x) (helper_number which)) refl (in_parts g p which xs) c
  where
    from : (b : Bool) → nat_eq (helper_number x) (helper_number which) ≡ b
        → (parts_call which xs ≡ true → has_call (helper_label which) (parts_items g p xs) ≡ true) → b || parts_call which xs ≡ true
        → nat_eq (helper_label x) (helper_label which) || has_call (helper_label which) (parts_items g p xs) ≡ true
    from true e more c = or_first (nat_eq (helper_label x) (helper_label which))
        (has_call (helper_label which) (parts_items g p xs)) (same_label (helper_number x) (helper_number which) e)
    from false e more c = or_second (nat_eq (helper_label x) (helper_label which))
        (has_call (helper_label which) (parts_items g p xs)) (more c)
in_parts g p which (part.Do i ∷ xs) c = in_parts g p which xs c
in_parts g p which (part.DoUnless t i ∷ xs) c = in_parts g p which xs c
in_parts g p which (part.Go to ∷ xs) c = in_parts g p which xs c
in_parts g p which (part.GoUnless t to ∷ xs) c = in_parts g p which xs c
in_parts g p which (part.Enters f ∷ xs) c =
    or_second (nat_eq (function_label f) (helper_label which)) (has_call (helper_label which) (parts_items g p xs))
    (in_parts g p which xs c)
in_parts g p which (part.Names t r ∷ xs) c = in_parts g p which xs c

in_steps : (ir : Ir) (fn : IrFunction) (which : Helper) (g p : ℕ) (ss : List Step) (q : ℕ) (s : Step) → slice_get ss q ≡ Some s
    → parts_call which (code_of_step ir fn s.kind) ≡ true → has_call (helper_label which) (steps_items ir fn g p ss) ≡ true
in_steps ir fn which g p [] q s e c = absurd (none_some s e)
in_steps ir fn which g p (x ∷ xs) zero s e c =
    let is : x ≡ s = same_some x s e in
    call_left (helper_label which) (block ir fn g p x) (steps_items ir fn g (suc p) xs)
    (in_parts g p which (code_of_step ir fn x.kind)
    (subst (λ (z : Step). parts_call which (code_of_step ir fn z.kind) ≡ true) (sym is) c))
in_steps ir fn which g p (x ∷ xs) (suc q) s e c =
    call_right (helper_label which) (block ir fn g p x) (steps_items ir fn g (suc p) xs)
    (in_steps ir fn which g (suc p) xs q s e c)

in_functions : (ir : Ir) (which : Helper) (g : ℕ) (fns : List IrFunction) (n : ℕ) (fn : IrFunction) (q : ℕ) (s : Step)
    → slice_get fns n ≡ Some fn → slice_get fn.steps q ≡ Some s → parts_call which (code_of_step ir fn s.kind) ≡ true
    → has_call (helper_label which) (functions_items ir g fns) ≡ true
in_functions ir which g [] n fn q s e k c = absurd (none_some fn e)
in_functions ir which g (x ∷ xs) zero fn q s e k c =
    let is : x ≡ fn = same_some x fn e in
    call_left (helper_label which) (function_items ir g x) (functions_items ir (suc g) xs)
    (subst (λ (z : IrFunction). has_call (helper_label which) (steps_items ir z g 0 z.steps) ≡ true) (sym is)
    (in_steps ir fn which g 0 fn.steps q s k c))
in_functions ir which g (x ∷ xs) (suc n) fn q s e k c =
    call_right (helper_label which) (function_items ir g x) (functions_items ir (suc g) xs)
    (in_functions ir which (suc g) xs n fn q s e k c)

-- ---- which of all is placed

among_if : (b : Bool) (x which : Helper) (hs : List Helper) → IsAmong which hs → IsAmong which (if b then x ∷ hs else hs)
among_if true x which hs a = inr a
among_if false x which hs a = a

here_if : (b : Bool) (which : Helper) (hs : List Helper) → b ≡ true → IsAmong which (if b then which ∷ hs else hs)
here_if true which hs e = inl refl
here_if false which hs e = cc

among_called : (items : List Item) (which : Helper) (hs : List Helper) → IsAmong which hs
    → has_call (helper_label which) items ≡ true → IsAmong which (called_of items hs)
among_called items which [] a c = absurd a
among_called items which (x ∷ xs) (inl e) c =
    subst (λ (z : Helper). IsAmong which (called_of items (z ∷ xs))) (sym e)
    (here_if (has_call (helper_label which) items) which (called_of items xs) c)
among_called items which (x ∷ xs) (inr a) c =
    among_if (has_call (helper_label x) items) x which (called_of items xs) (among_called items which xs a c)

among_all : (which : Helper) → IsAmong which all_helpers
among_all helper.Mul16 = inl refl
among_all helper.Udiv16 = inr (inl refl)
among_all helper.Umod16 = inr (inr (inl refl))
among_all helper.Sdiv16 = inr (inr (inr (inl refl)))
among_all helper.Smod16 = inr (inr (inr (inr (inl refl))))
among_all helper.Shl = inr (inr (inr (inr (inr (inl refl)))))
among_all helper.Shr = inr (inr (inr (inr (inr (inr (inl refl))))))
among_all helper.Sar = inr (inr (inr (inr (inr (inr (inr (inl refl)))))))

-- what a step calls is placed
pub placed_for : (ir : Ir) (g q : ℕ) (fn : IrFunction) (s : Step) (which : Helper) → slice_get ir.functions g ≡ Some fn
    → slice_get fn.steps q ≡ Some s → parts_call which (code_of_step ir fn s.kind) ≡ true → IsAmong which (routines_of ir)
placed_for ir g q fn s which e k c =
    among_called (functions_items ir 0 ir.functions) which all_helpers (among_all which)
    (in_functions ir which 0 ir.functions g fn q s e k c)

-- ---- parts

same_number : (n : ℕ) → nat_eq n n ≡ true
same_number n = grind (arith, nat_tests)

-- so each part has its routine, where those that the parts call stand
pub have_routines : (p : Setting) (g : ℕ) (xs : List Part)
    → ((which : Helper) → parts_call which xs ≡ true → HasItsRoutine p g (part.Helps which)) → Every (HasItsRoutine p g) xs
have_routines p g [] h = tt
have_routines p g (part.Helps x ∷ xs) h = (
  h x (or_first (nat_eq (helper_number x) (helper_number x)) (parts_call x xs) (same_number (helper_number x))),
  have_routines p g xs
      (λ which c. h which (or_second (nat_eq (helper_number x) (helper_number which)) (parts_call which xs) c)),
)
have_routines p g (part.Do i ∷ xs) h = (tt, have_routines p g xs h)
have_routines p g (part.DoUnless c i ∷ xs) h = (tt, have_routines p g xs h)
have_routines p g (part.Go to ∷ xs) h = (tt, have_routines p g xs h)
have_routines p g (part.GoUnless c to ∷ xs) h = (tt, have_routines p g xs h)
have_routines p g (part.Enters f ∷ xs) h = (tt, have_routines p g xs h)
have_routines p g (part.Names t r ∷ xs) h = (tt, have_routines p g xs h)

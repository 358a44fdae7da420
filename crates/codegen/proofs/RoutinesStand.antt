-- The helper routines that are used stand where their labels say, each with its words.
use Rattle.std.proofs.Common.{◌≡◌, ℕ, suc, ◌+◌, ◌*◌, ◌<◌, ◌≤◌, refl, sym, ap, ◌∙◌, subst, arith, Bool, true, false, ◌⊎◌, inl, inr, List, [], ◌∷◌, ◌++◌, length, append_assoc, Some, if◌then◌else◌}
use Rattle.std.specs.Prelude.{map, slice_get}
use Rattle.isa430.specs.Table.{WordsAt}
use Rattle.asm430.specs.declared.item.Item.{Item}
use Rattle.asm430.specs.declared.item.Item.TheVariants.{Label, Word}
use Rattle.asm430.specs.Assembly.{words_in, place_of, address}
use Rattle.asm430.specs.Instructions.{LabelsIn}
use Rattle.asm430.proofs.Labels.{words_append}
use Rattle.asm430.proofs.Laying.{labels_append, labels_wider, label_place}
use Rattle.core_tree.specs.declared.program.Core.{Core}
use Rattle.placed430.specs.Assembled.{IsAssembled, address_of, end_of}
use Rattle.placed430.proofs.Assembled.{words_placed}
use Rattle.rt430.specs.declared.words.Helper.{Helper}
use Rattle.rt430.specs.Routines.{Computes}
use Rattle.ir.specs.declared.form.Ir.{Ir}
use Rattle.ir.specs.declared.form.IrFunction.{IrFunction}
use Rattle.select430.specs.Items.{functions_items}
use Rattle.select430.specs.Labels.{function_label, helper_number, helper_label, first_helper_label}
use Rattle.select430.proofs.Places.{functions_labels}
use Rattle.steps430.specs.Routines.{HasRoutine}
use Rattle.codegen.specs.Program.{start_items, has_call, called_of, routines_of, all_helpers, routine_items, table_items, items_of, labels_end}
use Rattle.codegen.proofs.LabelsLeft.{words_labels, number_small, table_labels}

-- ---- their numbers rise

abbrev pub Rises : ℕ → List Helper → Type 0
Rises n [] = Unit {0}
Rises n (h ∷ hs) = (n ≤ helper_number h) × Rises (helper_number h + 1) hs

rises_lower : (m n : ℕ) (hs : List Helper) → m ≤ n → Rises n hs → Rises m hs
rises_lower m n [] l h = tt
rises_lower m n (x ∷ hs) l h = let k = h.0 in (omega arith, h.1)

or_not : (b : Bool) (n : ℕ) (w : Helper) (hs : List Helper) → n ≤ helper_number w → Rises (helper_number w + 1) hs
    → Rises n (if b then w ∷ hs else hs)
or_not true n w hs l h = (l, h)
or_not false n w hs l h = rises_lower n (helper_number w + 1) hs (omega arith) h

called_rise : (items : List Item) (n : ℕ) (hs : List Helper) → Rises n hs → Rises n (called_of items hs)
called_rise items n [] h = tt
called_rise items n (w ∷ ws) h =
    or_not (has_call (helper_label w) items) n w (called_of items ws) h.0 (called_rise items (helper_number w + 1) ws h.1)

pub routines_rise : (ir : Ir) → Rises 0 (routines_of ir)
routines_rise ir = called_rise (functions_items ir 0 ir.functions) 0 all_helpers
    (omega arith, (omega arith, (omega arith, (omega arith, (omega arith, (omega arith, (omega arith, (omega arith, tt))))))))

-- ---- one of them

abbrev pub IsAmong : Helper → List Helper → Type 0
IsAmong which [] = ⊥
IsAmong which (h ∷ hs) = (h ≡ which) ⊎ IsAmong which hs

above : (n : ℕ) (hs : List Helper) (which : Helper) → Rises n hs → IsAmong which hs → n ≤ helper_number which
above n [] which h a = absurd a
above n (x ∷ hs) which h (inl e) = subst (λ (y : Helper). n ≤ helper_number y) e h.0
above n (x ∷ hs) which h (inr a) = let more = above (helper_number x + 1) hs which h.1 a in let k = h.0 in omega arith

rising_labels : (words : Helper → List ℕ) (top n : ℕ) (hs : List Helper) → first_helper_label + 8 ≤ top → Rises n hs
    → LabelsIn (first_helper_label + n) top (routine_items words hs)
rising_labels words top n [] up h = tt
rising_labels words top n (x ∷ hs) up h =
    let small = number_small x in
    let low = h.0 in
    let lo : ℕ = first_helper_label + n in (
      (omega arith, omega arith),
      labels_append lo top (map Word (words x)) (routine_items words hs) (words_labels lo top (words x))
          (labels_wider (first_helper_label + (helper_number x + 1)) lo top top (routine_items words hs) (omega arith)
          (omega arith) (rising_labels words top (helper_number x + 1) hs up h.1)),
    )

record InRoutines (words : Helper → List ℕ) (top : ℕ) (hs : List Helper) (which : Helper) : Type 0 where
  pre : List Item
  post : List Item
  is : routine_items words hs ≡ pre ++ (Label (helper_label which) ∷ (map Word (words which) ++ post))
  before : LabelsIn first_helper_label (helper_label which) pre
  behind : LabelsIn (helper_label which + 1) top post

in_routines : (words : Helper → List ℕ) (top n : ℕ) (hs : List Helper) (which : Helper) → first_helper_label + 8 ≤ top
    → Rises n hs → IsAmong which hs → InRoutines words top hs which
in_routines words top n [] which up h a = absurd a
in_routines words top n (x ∷ hs) which up h (inl e) = subst (λ (y : Helper). InRoutines words top (x ∷ hs) y) e (record {
  pre = [];
  post = routine_items words hs;
  is = refl;
  before = tt;
  behind = labels_wider (first_helper_label + (helper_number x + 1)) (helper_label x + 1) top top (routine_items words hs)
      (omega arith) (omega arith) (rising_labels words top (helper_number x + 1) hs up h.1);
})
in_routines words top n (x ∷ hs) which up h (inr a) =
    let r = in_routines words top (helper_number x + 1) hs which up h.1 a in
    let high = above (helper_number x + 1) hs which h.1 a in
    let back : List Item = Label (helper_label which) ∷ (map Word (words which) ++ r.post) in
    record {
      pre = Label (helper_label x) ∷ (map Word (words x) ++ r.pre);
      post = r.post;
      is = ap (λ (k : List Item). Label (helper_label x) ∷ k)
          (ap (λ (k : List Item). map Word (words x) ++ k) r.is ∙ sym (append_assoc (map Word (words x)) r.pre back));
      before = (
        (omega arith, omega arith),
        labels_append first_helper_label (helper_label which) (map Word (words x)) r.pre
            (words_labels first_helper_label (helper_label which) (words x)) r.before,
      );
      behind = r.behind;
    }

-- ---- among all items

pub words_long : (ws : List ℕ) → words_in (map Word ws) ≡ length ws
words_long [] = refl
words_long (w ∷ ws) = let e = words_long ws in let l : length (w ∷ ws) ≡ suc (length ws) = refl in omega arith

module _ (words : Helper → List ℕ) (core : Core) (ir : Ir) (few : length ir.functions ≤ 65536)
    (short : (g : ℕ) (fn : IrFunction) → slice_get ir.functions g ≡ Some fn → length fn.steps < 4294967296)
    (code : List ℕ) (m : ℕ → ℕ) (assembled : IsAssembled (items_of words core ir) code m) where
  abbrev items : List Item
  items = items_of words core ir

  -- nested lists
  nested : (s f r p l w q t : List Item) → r ≡ p ++ (l ++ (w ++ q))
      → s ++ (f ++ (r ++ t)) ≡ (s ++ (f ++ p)) ++ (l ++ (w ++ (q ++ t)))
  nested s f r p l w q t e =
      ap (λ (k : List Item). s ++ (f ++ (k ++ t))) e
      ∙ ap (λ (k : List Item). s ++ (f ++ k)) (append_assoc p (l ++ (w ++ q)) t)
      ∙ ap (λ (k : List Item). s ++ (f ++ (p ++ k))) (append_assoc l (w ++ q) t)
      ∙ ap (λ (k : List Item). s ++ (f ++ (p ++ (l ++ k)))) (append_assoc w q t)
      ∙ ap (λ (k : List Item). s ++ k) (sym (append_assoc f p (l ++ (w ++ (q ++ t)))))
      ∙ sym (append_assoc s (f ++ p) (l ++ (w ++ (q ++ t))))

  pub routine_stands : (which : Helper) → Computes which (words which) → IsAmong which (routines_of ir)
      → HasRoutine m 0x8000 (end_of items) (address (place_of items (helper_label which))) which
  routine_stands which computes among =
      let top : ℕ = labels_end ir in
      let r = in_routines words top 0 (routines_of ir) which (omega arith) (routines_rise ir) among in
      let tables : List Item = table_items core 0 ir.tables in
      let front : List Item = start_items ir ++ (functions_items ir 0 ir.functions ++ r.pre) in
      let label : List Item = Label (helper_label which) ∷ [] in
      let body : List Item = map Word (words which) in
      let rest : List Item = r.post ++ tables in
      let low : ℕ = helper_label which in
      let cut : items ≡ front ++ (label ++ (body ++ rest)) =
      nested (start_items ir) (functions_items ir 0 ir.functions) (routine_items words (routines_of ir)) r.pre label body r.post
      tables r.is in
      let ahead : LabelsIn 0 low front =
      labels_append 0 low (start_items ir) (functions_items ir 0 ir.functions ++ r.pre) (tt, (tt, tt))
      (labels_append 0 low (functions_items ir 0 ir.functions) r.pre
      (labels_wider (function_label 0) 0 (function_label (0 + length ir.functions)) low (functions_items ir 0 ir.functions)
      (omega arith) (omega arith) (functions_labels ir 0 ir.functions short))
      (labels_wider first_helper_label 0 low low r.pre (omega arith) (omega arith) r.before)) in
      let small = number_small which in
      let after : LabelsIn (low + 1) top (body ++ rest) =
      labels_append (low + 1) top body rest (words_labels (low + 1) top (words which))
      (labels_append (low + 1) top r.post tables r.behind
      (table_labels core (low + 1) top 0 ir.tables (omega arith) (omega arith))) in
      let place : place_of items low ≡ Some (words_in front) =
      ap (λ (k : List Item). place_of k low) cut
      ∙ label_place low 0 low (low + 1) top front (body ++ rest) ahead after (omega arith) (omega arith) in
      let upto : List Item = front ++ label in
      let whole : items ≡ upto ++ (body ++ rest) = cut ∙ sym (append_assoc front label (body ++ rest)) in
      let w1 = words_append front label in
      let w2 = ap words_in whole in
      let w3 = words_append upto (body ++ rest) in
      let w4 = words_append body rest in
      let w5 = words_long (words which) in
      let base : address (place_of items low) ≡ 0x8000 + 2 * words_in front = ap address place in
      let same : address_of upto ≡ address (place_of items low) = omega arith in
      record {
        words = words which;
        computes = computes;
        even = omega arith;
        from = omega arith;
        to = omega arith;
        stands = subst (λ (a : ℕ). WordsAt m a (words which)) same
            (words_placed items code m assembled upto (words which) rest whole);
      }

-- What holds of the labels and of the items of each step: statements, which the laws of the crate show.
use Rattle.std.specs.Prelude.{◌≡◌, ℕ, ◌+◌, ◌*◌, ◌<◌, ◌≤◌, ◌⊎◌, if◌then◌else◌, List, [], ◌∷◌, Some, IsTrue}
use Rattle.asm430.specs.declared.item.Item.{Item}
use Rattle.asm430.specs.declared.item.Item.TheVariants.{Jump}
use Rattle.asm430.specs.Assembly.{words_of, words_in, place_of, used, are_formed}
use Rattle.asm430.specs.Instructions.{LabelsIn}
use Rattle.rt430.specs.declared.words.Helper.{Helper}
use Rattle.ir.specs.declared.form.Ir.{Ir}
use Rattle.ir.specs.declared.form.IrFunction.{IrFunction}
use Rattle.ir.specs.declared.form.StepKind.{StepKind}
use Rattle.ir.specs.declared.form.StepKind.TheVariants as step
use Rattle.ir.specs.Table.{size, uses_helper}
use Rattle.select430.specs.Labels.{function_label, step_label, inner_label, step_end, helper_label, table_label}
use Rattle.select430.specs.Parts.{Name, StepAt, Function, Table, label_of, helps}
use Rattle.select430.specs.Code.{code_of_step}
use Rattle.select430.specs.Items.{items_of}

-- ---- what has a label

pub data Labelled : Type 0 where
  AFunction : (g : ℕ) → Labelled
  AStep : (g p : ℕ) → Labelled
  AHelper : Helper → Labelled
  ATable : (t : ℕ) → Labelled

abbrev pub label : Labelled → ℕ
label (AFunction g) = function_label g
label (AStep g p) = step_label g p
label (AHelper which) = helper_label which
label (ATable t) = table_label t

abbrev pub IsInRange : Labelled → Type 0
IsInRange (AFunction g) = g < 65536
IsInRange (AStep g p) = (g < 65536) × (p < 4294967296)
IsInRange (AHelper which) = Unit {0}
IsInRange (ATable t) = t < 4294967296

-- a label is that of one thing
abbrev pub LabelsDiffer : Type 0
LabelsDiffer = (x y : Labelled) → IsInRange x → IsInRange y → label x ≡ label y → x ≡ y

-- and none of the labels that a step may use inside
abbrev pub InnerLabelsDiffer : Type 0
InnerLabelsDiffer = (g p l : ℕ) → g < 65536 → p < 4294967296 → inner_label g p ≤ l → l < step_end g p →
    ((x : Labelled) → IsInRange x → label x ≡ l → ⊥)
    × ((h q : ℕ) → h < 65536 → q < 4294967296 → inner_label h q ≤ l → l < step_end h q → (h ≡ g) × (q ≡ p))

-- ---- the items of a step

-- they take at most the bytes of its row
abbrev pub FitRow : Ir → IrFunction → (g p : ℕ) → StepKind → Type 0
FitRow ir fn g p k = 2 * words_in (items_of ir fn g p k) ≤ size k

-- a helper routine is called where the row says so, and then once
abbrev pub HelpsAsTold : Ir → IrFunction → StepKind → Type 0
HelpsAsTold ir fn k = helps (code_of_step ir fn k) ≡ (if uses_helper k then 1 else 0)

-- a jump goes ahead, to a label that stands once in the same list, within its reach
abbrev pub GoesAhead : List Item → (start : ℕ) → Item → Type 0
GoesAhead all start (Jump c l) = (n : ℕ) × (place_of all l ≡ Some (start + 1 + n)) × (n < 512)
GoesAhead all start item = Unit {0}

abbrev pub AllGoAhead : List Item → (start : ℕ) → List Item → Type 0
AllGoAhead all start [] = Unit {0}
AllGoAhead all start (x ∷ xs) = GoesAhead all start x × AllGoAhead all (start + words_of x) xs

-- what a step names
abbrev pub names_of : StepKind → List Name
names_of (step.Jump to) = StepAt to ∷ []
names_of (step.Branch d t of when to) = StepAt to ∷ []
names_of (step.Case d of n to) = StepAt to ∷ []
names_of (step.Call d g n) = Function g ∷ []
names_of (step.Timely d n from k limit to) = StepAt to ∷ []
names_of (step.Open t to) = Table t ∷ StepAt to ∷ []
names_of (step.Check t to) = Table t ∷ StepAt to ∷ []
names_of (step.Close t to) = Table t ∷ StepAt to ∷ []
names_of k = []

abbrev pub IsAmong : Name → List Name → Type 0
IsAmong n [] = ⊥
IsAmong n (x ∷ xs) = (n ≡ x) ⊎ IsAmong n xs

-- a label that an item uses is one inside the step, that of a helper routine, or that of what the step names
abbrev pub UsesNamed : (g p : ℕ) → List Name → Item → Type 0
UsesNamed g p ns item = (l : ℕ) → used item ≡ Some l →
    (l ≡ inner_label g p) ⊎ (((which : Helper) × (l ≡ helper_label which)) ⊎ ((n : Name) × IsAmong n ns × (l ≡ label_of g n)))

abbrev pub AllUseNamed : (g p : ℕ) → List Name → List Item → Type 0
AllUseNamed g p ns [] = Unit {0}
AllUseNamed g p ns (x ∷ xs) = UsesNamed g p ns x × AllUseNamed g p ns xs

-- their instructions are valid, and no label stands among them but those inside the step
pub record AreOwn (ir : Ir) (fn : IrFunction) (g p : ℕ) (k : StepKind) : Type 0 where
  pub formed : IsTrue (are_formed (items_of ir fn g p k))
  pub labels : LabelsIn (inner_label g p) (step_end g p) (items_of ir fn g p k)
  pub jumps : AllGoAhead (items_of ir fn g p k) 0 (items_of ir fn g p k)
  pub uses : AllUseNamed g p (names_of k) (items_of ir fn g p k)

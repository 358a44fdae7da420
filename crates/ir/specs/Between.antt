-- The steps that a run makes between two marks; the start and a stop count as marks.
use Rattle.std.specs.Prelude.{◌≡◌, ℕ, suc, List, [], ◌∷◌}
use Rattle.base16.specs.declared.reading.Reading.{Reading}
use Rattle.c_run.specs.Runs.{Run, Went}
use Rattle.ir.specs.declared.form.Ir.{Ir}
use Rattle.ir.specs.Machine.{Control, At, Calling, Returning, one_step}

-- a step by its function and its place there
pub record Site : Type 0 where
  pub function : ℕ
  pub position : ℕ

-- the step that is made next
abbrev pub site_of : Control → Site
site_of (At f p first ts below) = record { function = f; position = p }
site_of (Calling f d args below) = record { function = f; position = 0 }
site_of (Returning v []) = record { function = 0; position = 0 }
site_of (Returning v (b ∷ below)) = record { function = b.function; position = b.position }

-- where a run comes to, and the steps that it made since the last mark, the latest first. A step that makes a mark
-- belongs to what its mark ends.
pub data Reaches (ir : Ir) (rs : List Reading) (c0 : Control) (r0 : Run) : Control → Run → List Site → Type 0 where
  begun : Reaches ir rs c0 r0 c0 r0 []
  no_mark : {c d : Control} {r q : Run} {made : List Site} → Reaches ir rs c0 r0 c r made → one_step ir rs c r ≡ Went d q
      → q.left ≡ r.left → Reaches ir rs c0 r0 d q (site_of c ∷ made)
  a_mark : {c d : Control} {r q : Run} {made : List Site} → Reaches ir rs c0 r0 c r made → one_step ir rs c r ≡ Went d q
      → suc q.left ≡ r.left → Reaches ir rs c0 r0 d q []

abbrev pub Absent : Site → List Site → Type 0
Absent s [] = Unit {0}
Absent s (x ∷ xs) = (s ≡ x → ⊥) × Absent s xs

abbrev pub Distinct : List Site → Type 0
Distinct [] = Unit {0}
Distinct (x ∷ xs) = Absent x xs × Distinct xs

-- a run from here makes no step twice between two marks
abbrev pub MakesOnce : Ir → List Reading → Control → Run → Type 0
MakesOnce ir rs c0 r0 = (c : Control) (r : Run) (made : List Site) → Reaches ir rs c0 r0 c r made → Distinct (site_of c ∷ made)

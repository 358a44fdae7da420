-- The first values of variables: a number stands whole in its scalar.
use Rattle.std.proofs.Common.{◌≡◌, ℕ, ◌+◌, ◌%◌, refl, sym, subst, arith, List, [], ◌∷◌, append-nil}
use Rattle.std.specs.Prelude.{ℤ, pos}
use Rattle.base16.specs.Integer.{wrapped}
use Rattle.base16.specs.declared.image.Kind.{Kind}
use Rattle.base16.specs.declared.image.Kind.TheVariants as kind
use Rattle.c_meaning.specs.After.{start, initial_value, initial_cells, initial_objects}
use Rattle.c_meaning.specs.Stamps.{slots_of}
use Rattle.c_run.specs.Actions.{kept}
use Rattle.c_values.specs.Operators.{as_type}
use Rattle.c_values.specs.Values.{fitted}
use Rattle.c_values.specs.declared.value.Value.TheVariants.{Int}
use Rattle.core_tree.specs.Data.{global_address}
use Rattle.core_tree.specs.LawfulCore.{Every}
use Rattle.core_tree.specs.declared.program.Core.{Core}
use Rattle.core_tree.specs.declared.program.Global.{Global}
use Rattle.core_tree.specs.declared.program.Initial.{Initial}
use Rattle.core_tree.specs.declared.program.Initial.TheVariants as initial
use Rattle.core_tree.specs.declared.types.Slot.{Slot}
use Rattle.matching.specs.Matches.{placed_from, placed, number_code}
use Rattle.steps430.specs.Standing.{IsWhole, AreWhole}

same_number : (y z : ℤ) → Int y ≡ Int z → y ≡ z
same_number y z e = cc

whole_value : (k : Kind) (i : Initial) (z : ℤ) → initial_value k i ≡ Int z → number_code k z ≡ wrapped z
unfolding fitted as_type
whole_value kind.Char (initial.Int v) z e =
    let w : ℕ = wrapped v % 256 in
    let is : pos w ≡ z = same_number (pos w) z e in
    subst (λ (y : ℤ). number_code kind.Char y ≡ wrapped y) is (let s : w % 65536 % 256 ≡ w % 65536 = omega arith in s)
whole_value kind.Char (initial.Address n o) z e = absurd (cc)
whole_value kind.Int i z e = refl
whole_value kind.UInt i z e = refl
whole_value kind.Pointer i z e = refl

whole_cells : (slots : List Slot) (is : List Initial) → Every IsWhole (initial_cells slots is)
whole_cells [] is = tt
whole_cells (s ∷ ss) [] = (record { same = λ z e. absurd (cc) }, whole_cells ss [])
whole_cells (s ∷ ss) (i ∷ is) = (record { same = whole_value s.kind i }, whole_cells ss is)

module _ (core : Core) where
  whole_objects : (n : ℕ) (gs : List Global) → AreWhole (placed_from (global_address core) n (initial_objects core.structs n gs))
  whole_objects n [] = tt
  whole_objects n (g ∷ gs) = (whole_cells (slots_of core.structs g) g.init, whole_objects (n + 1) gs)

  pub whole_start : AreWhole (placed core (kept (start core)))
  unfolding start
  whole_start =
      subst AreWhole (sym (append-nil (placed_from (global_address core) 0 (initial_objects core.structs 0 core.globals))))
      (whole_objects 0 core.globals)

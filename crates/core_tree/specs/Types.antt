-- When two types are one (C99 6.2.7 in this profile), and the levels of a type.
use Rattle.std.specs.Prelude.{Bool, true, false, ◌&&◌, ◌==◌, List, [], ◌∷◌}
use Rattle.base16.specs.declared.integer.IntType.{IntType}
use Rattle.base16.specs.declared.integer.IntType.TheVariants.{Char, Int, UInt}
use Rattle.core_tree.specs.declared.types.Ty.{Ty, out-Ty, fold-Ty}
use Rattle.core_tree.specs.declared.types.Ty.TheOpen.{Ty-F}
use Rattle.core_tree.specs.declared.types.Ty.TheVariants as ty
use Rattle.core_tree.specs.declared.whole_types.Level.{Level}
use Rattle.core_tree.specs.declared.whole_types.Level.TheVariants as level

abbrev pub same_int : IntType → IntType → Bool
same_int Char Char = true
same_int Int Int = true
same_int UInt UInt = true
same_int _ _ = false

abbrev pub same_bool : Bool → Bool → Bool
same_bool true b = b
same_bool false true = false
same_bool false false = true

abbrev pub same_layer : Ty-F (Ty → Bool) → Ty-F Ty → Bool
same_layer Ty-F.Void Ty-F.Void = true
same_layer (Ty-F.Num a) (Ty-F.Num b) = same_int a b
same_layer (Ty-F.Pointer to readonly) (Ty-F.Pointer other other_readonly) = same_bool readonly other_readonly && to other
same_layer (Ty-F.Array of count) (Ty-F.Array other other_count) = count == other_count && of other
same_layer (Ty-F.Struct a) (Ty-F.Struct b) = a == b
same_layer _ _ = false

-- whether two types are one
abbrev pub same : Ty → Ty → Bool
same = fold-Ty (Ty → Bool) (λ a b. same_layer a (out-Ty b))

-- a level of a type around what stands in it
abbrev pub around : Level → Ty → Ty
around (level.PointerTo readonly) t = ty.Pointer t readonly
around (level.ArrayOf count) t = ty.Array t count

-- levels around a type, the outermost first
abbrev pub wrapped_in : List Level → Ty → Ty
wrapped_in [] t = t
wrapped_in (l ∷ ls) t = around l (wrapped_in ls t)

-- A program that is lawful but for the numbers of its nodes is lawful when they are numbered.
use Rattle.std.specs.Prelude.{◌≡◌, ℕ, ◌≤◌, false, map, length, slice_get, Some}
use Rattle.core_tree.specs.declared.types.Struct.{Struct}
use Rattle.core_tree.specs.declared.program.Core.{Core}
use Rattle.core_tree.specs.declared.program.Function.{Function}
use Rattle.core_tree.specs.LawfulCore.{Every, Apart, AreStructs, AreGlobals, IsFunction, IsMain, IsLawful, file_names, rises}
use Rattle.c_checking.specs.Numbering.{numbered}

-- what is lawful of a program whose nodes have no numbers yet and whose annotations are not checked, where `before` of a
-- variable says how many functions are defined before it
pub record IsLawfulUnnumbered (core : Core) : Type 0 where
  pub few_structs : length core.structs ≤ 20000
  pub few_functions : length core.functions ≤ 20000
  pub tags : Apart (map (λ (s : Struct). s.name) core.structs)
  pub names : Apart (file_names core)
  pub structs : AreStructs core 0 core.structs
  pub globals : AreGlobals core false 0 core.globals
  pub functions : Every (IsFunction core false) core.functions
  pub main : (n : ℕ) × ((f : Function) × ((slice_get core.functions n ≡ Some f) × IsMain f))
  -- before a variable stand no fewer functions than before the one in front of it
  pub order : rises 0 core.globals

abbrev pub NumberedIsLawful : Core → Type 0
NumberedIsLawful core = IsLawfulUnnumbered core → IsLawful false (numbered core)

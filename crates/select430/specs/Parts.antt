-- The code of a step is a list of parts: instructions, and what names a step, a function, a helper routine or a check table.
-- A part stands for items, where these are labels, and for instructions, where they are addresses.
use Rattle.std.specs.Prelude.{ℕ, suc, ◌+◌, List, [], ◌∷◌, ◌++◌, length, pos}
use Rattle.isa430.specs.declared.instr.Instr.{Instr}
use Rattle.isa430.specs.declared.instr.Instr.TheVariants.{Jump as JumpBy}
use Rattle.isa430.specs.Table.{code_of}
use Rattle.asm430.specs.declared.item.Item.{Item}
use Rattle.asm430.specs.declared.item.Item.TheVariants.{Instr as Plain, Label, Jump, Branch, CallTo, AddressOf}
use Rattle.asm430.specs.Assembly.{load, call}
use Rattle.rt430.specs.declared.words.Helper.{Helper}
use Rattle.select430.specs.declared.part.Part.{Part}
use Rattle.select430.specs.declared.part.Part.TheVariants.{Do, DoUnless, Go, GoUnless, Enters, Helps, Names}
use Rattle.select430.specs.Labels.{function_label, step_label, inner_label, helper_label, table_label}

-- ---- as items, for the step of a place in a function

abbrev pub part_items : (g p : ℕ) → Part → List Item
part_items g p (Do i) = Plain i ∷ []
part_items g p (DoUnless c i) = Jump c (inner_label g p) ∷ Plain i ∷ Label (inner_label g p) ∷ []
part_items g p (Go to) = Branch (step_label g to) ∷ []
part_items g p (GoUnless c to) = Jump c (inner_label g p) ∷ Branch (step_label g to) ∷ Label (inner_label g p) ∷ []
part_items g p (Enters h) = CallTo (function_label h) ∷ []
part_items g p (Helps which) = CallTo (helper_label which) ∷ []
part_items g p (Names t n) = AddressOf (table_label t) n ∷ []

abbrev pub parts_items : (g p : ℕ) → List Part → List Item
parts_items g p [] = []
parts_items g p (x ∷ xs) = part_items g p x ++ parts_items g p xs

-- ---- as instructions, where it is known what stands where

-- the byte addresses of the steps of a function, of functions, helper routines and check tables
pub record Addresses : Type 0 where
  pub step : ℕ → ℕ
  pub function : ℕ → ℕ
  pub helper : Helper → ℕ
  pub table : ℕ → ℕ

abbrev pub part_code : Addresses → Part → List Instr
part_code a (Do i) = i ∷ []
part_code a (DoUnless c i) = JumpBy c (pos (length (code_of i))) ∷ i ∷ []
part_code a (Go to) = load (a.step to) 0 ∷ []
part_code a (GoUnless c to) = JumpBy c (pos 2) ∷ load (a.step to) 0 ∷ []
part_code a (Enters h) = call (a.function h) ∷ []
part_code a (Helps which) = call (a.helper which) ∷ []
part_code a (Names t n) = load (a.table t) n ∷ []

abbrev pub parts_code : Addresses → List Part → List Instr
parts_code a [] = []
parts_code a (x ∷ xs) = part_code a x ++ parts_code a xs

-- ---- what is counted of parts

abbrev pub part_words : Part → ℕ
part_words (Do i) = length (code_of i)
part_words (DoUnless c i) = 1 + length (code_of i)
part_words (Go to) = 2
part_words (GoUnless c to) = 3
part_words (Enters h) = 2
part_words (Helps which) = 2
part_words (Names t n) = 2

abbrev pub parts_words : List Part → ℕ
parts_words [] = 0
parts_words (x ∷ xs) = part_words x + parts_words xs

-- how often something is skipped, and how often a helper routine is called
abbrev pub skips : List Part → ℕ
skips [] = 0
skips (DoUnless c i ∷ xs) = suc (skips xs)
skips (GoUnless c to ∷ xs) = suc (skips xs)
skips (_ ∷ xs) = skips xs

abbrev pub helps : List Part → ℕ
helps [] = 0
helps (Helps which ∷ xs) = suc (helps xs)
helps (_ ∷ xs) = helps xs

-- ---- what parts name

pub data Name : Type 0 where
  StepAt : (to : ℕ) → Name
  Function : (function : ℕ) → Name
  Table : (table : ℕ) → Name

abbrev pub part_names : Part → List Name
part_names (Do i) = []
part_names (DoUnless c i) = []
part_names (Go to) = StepAt to ∷ []
part_names (GoUnless c to) = StepAt to ∷ []
part_names (Enters h) = Function h ∷ []
part_names (Helps which) = []
part_names (Names t n) = Table t ∷ []

abbrev pub parts_names : List Part → List Name
parts_names [] = []
parts_names (x ∷ xs) = part_names x ++ parts_names xs

-- the label of what is named in a function
abbrev pub label_of : (g : ℕ) → Name → ℕ
label_of g (StepAt to) = step_label g to
label_of g (Function h) = function_label h
label_of g (Table t) = table_label t

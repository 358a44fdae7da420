-- The code of each step stands at its address, behind that of the steps before it.
use Rattle.std.proofs.Common.{◌≡◌, ℕ, zero, suc, ◌+◌, ◌*◌, ◌<◌, ◌≤◌, refl, sym, ap, ◌∙◌, subst, arith, List, [], ◌∷◌, ◌++◌, length, Some}
use Rattle.std.proofs.lemmas.Option.{slice_get_within}
use Rattle.std.specs.Prelude.{slice_get, pos}
use Rattle.isa430.specs.declared.instr.Instr.{Instr}
use Rattle.isa430.specs.declared.instr.Instr.TheVariants.{Jump as JumpBy}
use Rattle.isa430.specs.Table.{size_of}
use Rattle.isa430.proofs.Formats.{code_size}
use Rattle.run430.specs.Code.{Placed}
use Rattle.asm430.specs.declared.item.Item.{Item}
use Rattle.asm430.specs.Assembly.{place_of, address, load, call}
use Rattle.placed430.specs.Assembled.{size_of_code, end_of}
use Rattle.core_tree.specs.LawfulCore.{Every}
use Rattle.ir.specs.declared.form.Ir.{Ir}
use Rattle.ir.specs.declared.form.IrFunction.{IrFunction}
use Rattle.ir.specs.declared.form.Step.{Step}
use Rattle.ir.specs.declared.form.StepKind.{StepKind}
use Rattle.ir.specs.declared.form.StepKind.TheVariants as step
use Rattle.ir_gen.specs.Names.{HasNames, AllNamed}
use Rattle.ir_gen.specs.Ranges.{jump_of, JumpsInside}
use Rattle.select430.specs.declared.part.Part.{Part}
use Rattle.select430.specs.declared.part.Part.TheVariants.{Do, DoUnless, Go, GoUnless, Enters, Helps, Names}
use Rattle.select430.specs.Code.{code_of_step}
use Rattle.select430.specs.Labels.{function_label}
use Rattle.select430.specs.Laws.{names_of}
use Rattle.select430.specs.Laying.{addresses, Stands}
use Rattle.select430.specs.Parts.{Addresses, Name, StepAt, Function, Table, part_code, parts_code, part_names, parts_names, part_words, parts_words}
use Rattle.select430.proofs.Naming.{step_names}
use Rattle.steps430.specs.Setting.{function_at, or_none, code_bytes}
use Rattle.codegen.specs.Laid.{bytes_of_first, step_address, addresses_of}
use Rattle.codegen.proofs.Lists.{same_some, none_some, some_at, every_split}

-- ---- the bytes of parts, whatever they name

part_long : (a : Addresses) (x : Part) → code_bytes (part_code a x) ≡ 2 * part_words x
part_long a (Do i) = let s = code_size i in omega arith
part_long a (DoUnless c i) = let s = code_size i in omega arith
part_long a (Go to) = refl
part_long a (GoUnless c to) = refl
part_long a (Enters h) = refl
part_long a (Helps which) = refl
part_long a (Names t n) = refl

bytes_append : (xs ys : List Instr) → code_bytes (xs ++ ys) ≡ code_bytes xs + code_bytes ys
bytes_append [] ys = let e : code_bytes ys ≡ 0 + code_bytes ys = omega arith in e
bytes_append (x ∷ xs) ys = let e = bytes_append xs ys in omega arith

pub parts_long : (a : Addresses) (xs : List Part) → code_bytes (parts_code a xs) ≡ 2 * parts_words xs
parts_long a [] = refl
parts_long a (x ∷ xs) =
    let one = part_long a x in
    let more = parts_long a xs in
    let both = bytes_append (part_code a x) (parts_code a xs) in
    omega arith

same_bytes : (is : List Instr) → size_of_code is ≡ code_bytes is
same_bytes [] = refl
same_bytes (i ∷ is) = ap (λ (n : ℕ). size_of i + n) (same_bytes is)

-- ---- the bytes of steps

pub first_step : (ir : Ir) (fn : IrFunction) (q : ℕ) (ss : List Step) (s : Step) → slice_get ss q ≡ Some s
    → bytes_of_first ir fn (suc q) ss ≡ bytes_of_first ir fn q ss + 2 * parts_words (code_of_step ir fn s.kind)
first_step ir fn q [] s e = absurd (none_some s e)
first_step ir fn zero (x ∷ ss) s e =
    let same : x ≡ s = same_some x s e in
    let is : bytes_of_first ir fn 1 (x ∷ ss) ≡ 0 + 2 * parts_words (code_of_step ir fn x.kind) =
    none_more (bytes_of_first ir fn 0 ss) refl in
    is ∙ ap (λ (y : Step). 0 + 2 * parts_words (code_of_step ir fn y.kind)) same
  where
    none_more : (n : ℕ) → n ≡ 0
        → 2 * parts_words (code_of_step ir fn x.kind) + n ≡ 0 + 2 * parts_words (code_of_step ir fn x.kind)
    none_more n z = omega arith
first_step ir fn (suc q) (x ∷ ss) s e = let more = first_step ir fn q ss s e in omega arith

pub past_all : (ir : Ir) (fn : IrFunction) (q : ℕ) (ss : List Step) → length ss ≤ q
    → bytes_of_first ir fn (suc q) ss ≡ bytes_of_first ir fn q ss
past_all ir fn zero [] l = refl
past_all ir fn zero (x ∷ ss) l = let long : length (x ∷ ss) ≡ suc (length ss) = refl in absurd (omega arith)
past_all ir fn (suc q) [] l = refl
past_all ir fn (suc q) (x ∷ ss) l =
    let long : length (x ∷ ss) ≡ suc (length ss) = refl in
    ap (λ (n : ℕ). 2 * parts_words (code_of_step ir fn x.kind) + n) (past_all ir fn q ss (omega arith))

-- ---- what steps name

-- the steps of a function name what is there
pub record NamesInside (ir : Ir) (fn : IrFunction) : Type 0 where
  pub jumps : JumpsInside fn.steps
  pub names : AllNamed ir fn

-- what holds of all that is there holds of what a step names
module _ (P : Name → Type 0) (ir : Ir) (fn : IrFunction) (stays : (to : ℕ) → to < length fn.steps → P (StepAt to))
    (calls : (f : ℕ) (called : IrFunction) → slice_get ir.functions f ≡ Some called → P (Function f))
    (reads : (t : ℕ) → t < length ir.tables → P (Table t)) where
  pub names_hold : (k : StepKind) → jump_of k < length fn.steps → HasNames ir fn k → Every P (names_of k)
  names_hold (step.Put d x) j h = tt
  names_hold (step.Nothing d) j h = tt
  names_hold (step.Drop d) j h = tt
  names_hold (step.Beside d o) j h = tt
  names_hold (step.Convert d to x) j h = tt
  names_hold (step.Unary d o t x) j h = tt
  names_hold (step.Binary d o left right) j h = tt
  names_hold (step.Truth d of x) j h = tt
  names_hold (step.Address d of offset) j h = tt
  names_hold (step.Follow d x) j h = tt
  names_hold (step.Member d offset) j h = tt
  names_hold (step.Element d size own x) j h = tt
  names_hold (step.Sum d size left_type right_type swapped left right) j h = tt
  names_hold (step.PointTo d) j h = tt
  names_hold (step.Load d k) j h = tt
  names_hold (step.Peek d k) j h = tt
  names_hold (step.Store d to k x keeps) j h = tt
  names_hold (step.StoreLocal d n offset k x keeps) j h = tt
  names_hold (step.Update d to k o x keeps) j h = tt
  names_hold (step.UpdateLocal d n offset k o x keeps) j h = tt
  names_hold (step.Undefine n) j h = tt
  names_hold (step.Jump to) j h = (stays to j, tt)
  names_hold (step.Branch d t of when to) j h = (stays to j, tt)
  names_hold (step.Case d of n to) j h = (stays to j, tt)
  names_hold (step.Call d f n) j h = (calls f h.0 h.1, tt)
  names_hold (step.Result d keeps) j h = tt
  names_hold (step.Enter n) j h = tt
  names_hold (step.Return d x) j h = tt
  names_hold step.ReturnNothing j h = tt
  names_hold step.Turn j h = tt
  names_hold (step.Sense d channel) j h = tt
  names_hold (step.Emit d x) j h = tt
  names_hold (step.Checkpoint d) j h = tt
  names_hold (step.Stamp d n to k x) j h = tt
  names_hold (step.Timely d n from k limit to) j h = (stays to j, tt)
  names_hold (step.Open t to) j h = (reads t h, (stays to j, tt))
  names_hold (step.Check t to) j h = (reads t h, (stays to j, tt))
  names_hold (step.Close t to) j h = (reads t h, (stays to j, tt))

-- ---- where steps stand

pub one_function : (ir : Ir) (g : ℕ) (fn : IrFunction) → slice_get ir.functions g ≡ Some fn → function_at ir g ≡ fn
one_function ir g fn e = ap or_none e

module _ (ir : Ir) (items : List Item) (m : ℕ → ℕ)
    (stands : (g : ℕ) (fn : IrFunction) (q : ℕ) (s : Step) → slice_get ir.functions g ≡ Some fn → slice_get fn.steps q ≡ Some s
    → Stands ir items m g fn q s) where
  abbrev by_function : (g : ℕ) → IrFunction → ℕ → ℕ
  by_function g fn q = address (place_of items (function_label g)) + bytes_of_first ir fn q fn.steps

  of_function : (g : ℕ) (fn : IrFunction) (q : ℕ) → slice_get ir.functions g ≡ Some fn
      → step_address items ir g q ≡ by_function g fn q
  of_function g fn q e = ap (λ (f : IrFunction). by_function g f q) (one_function ir g fn e)

  -- a step stands where its label says
  labelled : (g : ℕ) (fn : IrFunction) (q : ℕ) (s : Step) → slice_get ir.functions g ≡ Some fn → slice_get fn.steps q ≡ Some s
      → by_function g fn q ≡ (addresses items g).step q
  labelled g fn zero s e k =
      let first = (stands g fn zero s e k).first refl in
      let none : address (place_of items (function_label g)) + 0 ≡ address (place_of items (function_label g)) = omega arith in
      none ∙ first
  labelled g fn (suc q) s e k =
      let here = slice_get_within fn.steps (suc q) s k in
      let x = some_at fn.steps q (omega arith) in
      let before = labelled g fn q x.0 e x.1 in
      let next = (stands g fn q x.0 e x.1).next s k in
      let code : List Instr = parts_code (addresses items g) (code_of_step ir fn x.0.kind) in
      let long : size_of_code code ≡ 2 * parts_words (code_of_step ir fn x.0.kind) =
      same_bytes code ∙ parts_long (addresses items g) (code_of_step ir fn x.0.kind) in
      let more = first_step ir fn q fn.steps x.0 x.1 in
      omega arith

  pub at_label : (g : ℕ) (fn : IrFunction) (q : ℕ) (s : Step) → slice_get ir.functions g ≡ Some fn
      → slice_get fn.steps q ≡ Some s → step_address items ir g q ≡ (addresses items g).step q
  at_label g fn q s e k = of_function g fn q e ∙ labelled g fn q s e k

  -- ---- what parts name

  abbrev IsThere : ℕ → Name → Type 0
  IsThere g (StepAt to) = step_address items ir g to ≡ (addresses items g).step to
  IsThere g (Function h) = Unit {0}
  IsThere g (Table t) = Unit {0}

  part_same : (g : ℕ) (x : Part) → Every (IsThere g) (part_names x)
      → part_code (addresses items g) x ≡ part_code (addresses_of items ir g) x
  part_same g (Do i) h = refl
  part_same g (DoUnless c i) h = refl
  part_same g (Go to) h = ap (λ (n : ℕ). load n 0 ∷ []) (sym h.0)
  part_same g (GoUnless c to) h = ap (λ (n : ℕ). JumpBy c (pos 2) ∷ load n 0 ∷ []) (sym h.0)
  part_same g (Enters f) h =
      let none : address (place_of items (function_label f)) ≡ address (place_of items (function_label f)) + 0 = omega arith in
      ap (λ (n : ℕ). call n ∷ []) none
  part_same g (Helps which) h = refl
  part_same g (Names t n) h = refl

  parts_same : (g : ℕ) (xs : List Part) → Every (IsThere g) (parts_names xs)
      → parts_code (addresses items g) xs ≡ parts_code (addresses_of items ir g) xs
  parts_same g [] h = refl
  parts_same g (x ∷ xs) h =
      let two = every_split (IsThere g) (part_names x) (parts_names xs) h in
      ap (λ (is : List Instr). is ++ parts_code (addresses items g) xs) (part_same g x two.0)
      ∙ ap (λ (is : List Instr). part_code (addresses_of items ir g) x ++ is) (parts_same g xs two.1)

  goes : (g : ℕ) (fn : IrFunction) → slice_get ir.functions g ≡ Some fn → (to : ℕ) → to < length fn.steps
      → step_address items ir g to ≡ (addresses items g).step to
  goes g fn e to l = let x = some_at fn.steps to l in at_label g fn to x.0 e x.1

  there : (g : ℕ) (fn : IrFunction) → slice_get ir.functions g ≡ Some fn → (k : StepKind) → jump_of k < length fn.steps
      → HasNames ir fn k → Every (IsThere g) (names_of k)
  there g fn e = names_hold (IsThere g) ir fn (goes g fn e) (λ h f i. tt) (λ t l. tt)

  -- ---- the code of a step

  module _ (g : ℕ) (fn : IrFunction) (e : slice_get ir.functions g ≡ Some fn) (inside : NamesInside ir fn) where
    pub same_code : (q : ℕ) (s : Step) → slice_get fn.steps q ≡ Some s
        → parts_code (addresses items g) (code_of_step ir fn s.kind)
        ≡ parts_code (addresses_of items ir g) (code_of_step ir fn s.kind)
    same_code q s k = parts_same g (code_of_step ir fn s.kind)
        (subst (Every (IsThere g)) (sym (step_names ir fn s.kind)) (there g fn e s.kind (inside.jumps q s k) (inside.names q s k)))

    pub code_stands : (q : ℕ) (s : Step) → slice_get fn.steps q ≡ Some s
        → Placed m 0x8000 (end_of items) (step_address items ir g q)
        (parts_code (addresses_of items ir g) (code_of_step ir fn s.kind))
    code_stands q s k =
        subst (λ (a : ℕ). Placed m 0x8000 (end_of items) a (parts_code (addresses_of items ir g) (code_of_step ir fn s.kind)))
        (sym (at_label g fn q s e k))
        (subst (λ (is : List Instr). Placed m 0x8000 (end_of items) ((addresses items g).step q) is) (same_code q s k)
        (stands g fn q s e k).code)

    -- behind it stands the next, or the function ends
    pub code_before : (q : ℕ) (s : Step) → slice_get fn.steps q ≡ Some s
        → step_address items ir g (q + 1)
        ≡ step_address items ir g q + code_bytes (parts_code (addresses_of items ir g) (code_of_step ir fn s.kind))
    code_before q s k =
        let long = parts_long (addresses_of items ir g) (code_of_step ir fn s.kind) in
        let more = first_step ir fn q fn.steps s k in
        let here = of_function g fn q e in
        let next : step_address items ir g (q + 1) ≡ by_function g fn (suc q) =
        of_function g fn (q + 1) e ∙ ap (λ (n : ℕ). by_function g fn n) (let p : q + 1 ≡ suc q = omega arith in p) in
        omega arith

-- The cells of a program's data at its start: what the image has in memory, each scalar and stamp with its value.
use Rattle.std.proofs.Common.{◌≡◌, ℕ, zero, suc, ◌+◌, ◌-◌, ◌*◌, ◌/◌, ◌%◌, ◌<◌, ◌≤◌, refl, sym, ap, ◌∙◌, subst, arith, Bool, true, false, ◌⊎◌, inl, inr, List, [], ◌∷◌, length, length-append, append-nil, map, Option, Some, None, if◌then◌else◌}
use Rattle.std.proofs.lemmas.Bool.Decides.{nat_tests}
use Rattle.std.proofs.lemmas.Bool.{cases_eq}
use Rattle.std.specs.Prelude.{slice_index, nat_eq}
use Rattle.base16.specs.Board.{data_start, data_end, outputs_start, outputs_end, first_stack_pointer}
use Rattle.base16.specs.declared.image.Kind.{Kind}
use Rattle.c_meaning.specs.After.{start, no_stamps, initial_stamps}
use Rattle.c_meaning.specs.Stamps.{stamps_of as stamps_in}
use Rattle.c_run.specs.Actions.{kept}
use Rattle.c_values.specs.Objects.{wide}
use Rattle.c_values.specs.declared.value.Cell.{Cell as Scalar}
use Rattle.cells430.specs.Cells.{Cell, Word, Byte, Cells, OfData, Fits, Shape, HasValues, with_outputs}
use Rattle.cells430.proofs.OutputCells.{outer, length_cell}
use Rattle.core430.specs.Bytes.{byte_at}
use Rattle.core430.specs.Uses.{AreWords}
use Rattle.core_layout.specs.Frames.{PlacedFramesLieApart}
use Rattle.core_layout.specs.Laws.{SlotsFit, SlotsRise, SlotsAligned}
use Rattle.core_layout.specs.Variables.{StampsLie}
use Rattle.core_tree.specs.Data.{global_address, stamp_address, stamps_start, stamps_of, data_bytes, stamp_count}
use Rattle.core_tree.specs.LawfulCore.{Every}
use Rattle.core_tree.specs.declared.program.Core.{Core}
use Rattle.core_tree.specs.declared.program.Global.{Global}
use Rattle.core_tree.specs.declared.types.Ty.{Ty}
use Rattle.ideal430.specs.Loaded.{loaded}
use Rattle.ideal430.specs.Places.{is_between}
use Rattle.matching.specs.Covering.{cell_by, HasCell, WordsCovered, StampsCovered, IsCovered}
use Rattle.matching.specs.Laid.{AreLaid, LiesIn}
use Rattle.matching.specs.Matches.{Placed, placed_from, placed, encoded}
use Rattle.matching.proofs.Even.{made_aligned}
use Rattle.matching.proofs.Lying.{each, each_append, laid_made, variables_lie}
use Rattle.matching.proofs.Making.{start_made}
use Rattle.steps430.specs.Standing.{IsFilled, AreFilled}
use Rattle.codegen.specs.declared.data.Datum.{Datum}
use Rattle.codegen.specs.Words.{scalar_data, object_data, stamp_data, data_of, code_or_zero, byte_of, word_of, global_words}
use Rattle.codegen.proofs.Assembled.{data_loaded}
use Rattle.codegen.proofs.Chart.{size_by, end, Distinct, AreDistinct, IsEven, IsSmall, HasBytes, chart, charted, of_all, all_fit, all_bytes, byte_small}
use Rattle.codegen.proofs.DataWords.{distinct_append, below_above, datum, objects_distinct, objects_between, objects_even, objects_small, stamps_from, stamps_to, stamps_distinct, stamps_even, AreNone, stamps_small, word_at, words_wide}
use Rattle.codegen.proofs.Lists.{every_split}

-- ---- stamps at the start

none_first : (n : ℕ) → AreNone (no_stamps n)
none_first zero = tt
none_first (suc n) = (refl, none_first n)

all_none : (core : Core) (gs : List Global) → AreNone (initial_stamps core.structs gs)
all_none core [] = tt
all_none core (g ∷ gs) =
    each_append (λ x. x ≡ None) (no_stamps (stamps_in core.structs g)) (initial_stamps core.structs gs)
    (none_first (stamps_in core.structs g)) (all_none core gs)

so_many : (n : ℕ) → length (no_stamps n) ≡ n
so_many zero = refl
so_many (suc n) = ap suc (so_many n)

one_count : (core : Core) (g : Global) (o : Option ℕ) → g.lifetime ≡ o → stamps_in core.structs g ≡ stamp_count core g
one_count core g None e = cc
one_count core g (Some t) e = cc

counted : (core : Core) (gs : List Global) → length (initial_stamps core.structs gs) ≡ stamps_of core gs
counted core [] = refl
counted core (g ∷ gs) =
    let more = counted core gs in
    let both = length-append (no_stamps (stamps_in core.structs g)) (initial_stamps core.structs gs) in
    let one = so_many (stamps_in core.structs g) in
    let same = one_count core g g.lifetime refl in
    omega arith

-- ---- cells with what memory holds

abbrev pub full : Datum → Datum
full d = record { address = d.address; wide = d.wide; code = Some (code_or_zero d.code) }

every_full : (P : Datum → Type 0) (ds : List Datum) → Every (λ d. P (full d)) ds → Every P (map full ds)
every_full P [] h = tt
every_full P (d ∷ ds) h = (h.0, every_full P ds h.1)

of_full : (P : Datum → Type 0) (ds : List Datum) → Every P (map full ds) → Every (λ d. P (full d)) ds
of_full P [] h = tt
of_full P (d ∷ ds) h = (h.0, of_full P ds h.1)

still_distinct : (ds : List Datum) → AreDistinct ds → AreDistinct (map full ds)
still_distinct [] h = tt
still_distinct (d ∷ ds) h = (every_full (Distinct (full d)) ds h.0, still_distinct ds h.1)

-- what holds of the data of objects holds of their scalars
to_cells : (alive : List Placed) (Q : Datum → Type 0) (ps : List Placed) → Every Q (object_data alive ps)
    → Every (λ (p : Placed). Every (λ (c : Scalar). Q (datum alive p.address c)) p.object.cells) ps
to_cells alive Q [] h = tt
to_cells alive Q (p ∷ ps) h =
    let two = every_split Q (scalar_data alive p.address p.object.cells) (object_data alive ps) h in
    (of_one p.object.cells two.0, to_cells alive Q ps two.1)
  where
    of_one : (cs : List Scalar) → Every Q (scalar_data alive p.address cs)
        → Every (λ (c : Scalar). Q (datum alive p.address c)) cs
    of_one [] k = tt
    of_one (c ∷ cs) k = (k.0, of_one cs k.1)

-- a cell that holds what memory does has the code of its scalar, if there is one
has_cell : (f : Cells) (a : ℕ) (k : Kind) (code : Option ℕ) → f a ≡ Some (cell_by (wide k) (Some (code_or_zero code)))
    → HasCell f a k code
has_cell f a k None e = (Some 0, e)
has_cell f a k (Some c) e = e

-- ---- bytes of a word

of_halves : (w : ℕ) → w % 256 + 256 * (w / 256) ≡ w
of_halves w = omega arith

low_byte : (m : ℕ → ℕ) (a low high : ℕ) → a % 2 ≡ 0 → m a ≡ low + 256 * high → low < 256 → byte_at m a ≡ low
low_byte m a low high e is l =
    let z : a - 0 ≡ a = omega arith in
    ap (λ (n : ℕ). (if nat_eq n 0 then m (a - n) % 256 else m (a - n) / 256)) e
    ∙ ap (λ (b : ℕ). m b % 256) z ∙ ap (λ (n : ℕ). n % 256) is ∙ (let y : (low + 256 * high) % 256 ≡ low = omega arith in y)

high_byte : (m : ℕ → ℕ) (a low high : ℕ) → a % 2 ≡ 1 → m (a - 1) ≡ low + 256 * high → low < 256 → byte_at m a ≡ high
high_byte m a low high e is l =
    ap (λ (n : ℕ). (if nat_eq n 0 then m (a - n) % 256 else m (a - n) / 256)) e
    ∙ ap (λ (n : ℕ). n / 256) is ∙ (let y : (low + 256 * high) / 256 ≡ high = omega arith in y)

module _ (core : Core) (fit : (t : Ty) → SlotsFit core.structs t) (rise : (t : Ty) → SlotsRise core.structs t)
    (even : (t : Ty) → SlotsAligned core.structs t)
    (apart : (frames addresses : List ℕ) → PlacedFramesLieApart frames addresses) (behind : StampsLie core)
    (small : data_bytes core ≤ 16384) where
  abbrev ps : List Placed
  ps = placed core (kept (start core))

  abbrev objects : List Datum
  objects = object_data ps ps

  abbrev stamps : List (Option ℕ)
  stamps = (start core).stamps

  abbrev ds : List Datum
  ds = data_of core

  variables_alone : ps ≡ placed_from (global_address core) 0 (start core).globals
  unfolding start
  variables_alone = append-nil (placed_from (global_address core) 0 (start core).globals)

  lie : Every (LiesIn data_start (stamps_start core)) ps
  lie = subst (Every (LiesIn data_start (stamps_start core))) (sym variables_alone)
      (variables_lie core fit rise behind (length core.globals) (kept (start core)) (start_made core))

  laid : AreLaid ps
  laid = laid_made core fit rise apart (length core.globals) (kept (start core)) (start_made core)

  are_none : AreNone stamps
  unfolding start
  are_none = all_none core core.globals

  many : length stamps ≡ stamps_of core core.globals
  unfolding start
  many = counted core core.globals

  behind_stamps : Every (λ (d : Datum). stamps_start core ≤ d.address) (stamp_data core 0 stamps)
  behind_stamps =
      each (λ (d : Datum). stamps_start core + 4 * 0 ≤ d.address) (λ (d : Datum). stamps_start core ≤ d.address)
      (stamp_data core 0 stamps) (λ d l. omega arith) (stamps_from core 0 stamps)

  pub distinct : AreDistinct ds
  distinct =
      distinct_append objects (stamp_data core 0 stamps) (objects_distinct ps ps laid) (stamps_distinct core 0 stamps)
      (below_above (stamps_start core) objects (stamp_data core 0 stamps)
      (objects_between ps data_start (stamps_start core) ps lie).1 behind_stamps)

  pub evens : Every IsEven ds
  evens =
      each_append IsEven objects (stamp_data core 0 stamps)
      (objects_even ps ps (made_aligned core even (length core.globals) (kept (start core)) (start_made core)))
      (stamps_even core behind.aligned 0 stamps)

  pub smalls : Every IsSmall ds
  smalls = each_append IsSmall objects (stamp_data core 0 stamps) (objects_small ps ps) (stamps_small core 0 stamps are_none)

  from_start : data_start ≤ stamps_start core
  from_start = omega arith

  pub froms : Every (λ (d : Datum). data_start ≤ d.address) ds
  froms =
      each_append (λ (d : Datum). data_start ≤ d.address) objects (stamp_data core 0 stamps)
      (objects_between ps data_start (stamps_start core) ps lie).0
      (each (λ (d : Datum). stamps_start core ≤ d.address) (λ (d : Datum). data_start ≤ d.address) (stamp_data core 0 stamps)
      (λ d l. omega arith) behind_stamps)

  bytes_are : data_start + data_bytes core ≡ stamps_start core + 4 * stamps_of core core.globals
  unfolding data_bytes stamp_address
  bytes_are = omega arith

  pub tos : Every (λ (d : Datum). end d ≤ data_start + data_bytes core) ds
  tos =
      let is = bytes_are in
      let so = many in
      each_append (λ (d : Datum). end d ≤ data_start + data_bytes core) objects (stamp_data core 0 stamps)
      (each (λ (d : Datum). end d ≤ stamps_start core) (λ (d : Datum). end d ≤ data_start + data_bytes core) objects
      (λ d l. omega arith) (objects_between ps data_start (stamps_start core) ps lie).1)
      (each (λ (d : Datum). end d ≤ stamps_start core + 4 * (0 + length stamps))
      (λ (d : Datum). end d ≤ data_start + data_bytes core) (stamp_data core 0 stamps)
      (λ d l. omega arith) (stamps_to core 0 stamps))

  -- ---- the cells

  abbrev pub cells : Cells
  cells = chart (map full ds)

  abbrev pub own : Cells
  own = with_outputs [] cells

  are_charted : Every (λ d. cells d.address ≡ Some (cell_by d.wide (Some (code_or_zero d.code)))) ds
  are_charted =
      of_full (λ d. cells d.address ≡ Some (cell_by d.wide d.code)) ds (charted (map full ds) (still_distinct ds distinct))

  not_output : (b : ℕ) → data_start ≤ b → is_between outputs_start outputs_end b ≡ false
  not_output b l = grind (arith, nat_tests)

  both : {A : Type 0} → (P Q R : A → Type 0) → (xs : List A) → ((x : A) → P x → Q x → R x) → Every P xs → Every Q xs → Every R xs
  both P Q R [] f h k = tt
  both P Q R (x ∷ xs) f h k = (f x h.0 k.0, both P Q R xs f h.1 k.1)

  abbrev IsOwn : Datum → Type 0
  IsOwn d = own d.address ≡ Some (cell_by d.wide (Some (code_or_zero d.code)))

  are_own : Every IsOwn ds
  are_own =
      both (λ (d : Datum). data_start ≤ d.address)
      (λ d. cells d.address ≡ Some (cell_by d.wide (Some (code_or_zero d.code)))) IsOwn ds
      (λ d l e. outer [] cells d.address (not_output d.address l) ∙ e) froms are_charted

  pub shape : Shape 0 first_stack_pointer (λ k. 0) cells
  shape = record {
    live = λ a x e.
        let l = of_all (λ b y. data_start ≤ b) (map full ds) (every_full (λ d. data_start ≤ d.address) ds froms) a x e in
        let u = of_all (λ b y. b < data_end) (map full ds) (every_full (λ d. d.address < data_end) ds
        (each (λ (d : Datum). end d ≤ data_start + data_bytes core) (λ (d : Datum). d.address < data_end) ds
        (λ d k. ends d.wide d.address k) tos)) a x e in
        OfData l u;
    fits = of_all (λ b y. Fits cells b y) (map full ds)
        (all_fit (map full ds) (still_distinct ds distinct) (every_full IsEven ds evens));
  }
    where
      ends : (w : Bool) (a : ℕ) → a + size_by w ≤ data_start + data_bytes core → a < data_end
      ends true a k = omega arith
      ends false a k = omega arith

  objects_own : Every IsOwn objects
  objects_own = (every_split IsOwn objects (stamp_data core 0 stamps) are_own).0

  stamps_own : (n : ℕ) (xs : List (Option ℕ)) → Every IsOwn (stamp_data core n xs) → StampsCovered own core n xs
  stamps_own n [] h = tt
  stamps_own n (x ∷ xs) h = (record { low = h.0; high = h.1.0 }, stamps_own (n + 1) xs h.1.1)

  no_outputs : own outputs_start ≡ Some (Word (Some (length (start core).outputs)))
  unfolding start
  no_outputs = length_cell [] cells

  none : WordsCovered own (outputs_start + 2) (start core).outputs
  unfolding start
  none = tt

  pub covered : IsCovered core (kept (start core)) own
  covered = record {
    objects = each (λ (p : Placed). Every (λ (c : Scalar). IsOwn (datum ps p.address c)) p.object.cells)
        (λ (p : Placed). Every (λ (c : Scalar). HasCell own (p.address + c.offset) c.kind (encoded ps c.kind c.value))
        p.object.cells)
        ps
        (λ p k. each (λ (c : Scalar). IsOwn (datum ps p.address c))
        (λ (c : Scalar). HasCell own (p.address + c.offset) c.kind (encoded ps c.kind c.value)) p.object.cells
        (λ c e. has_cell own (p.address + c.offset) c.kind (encoded ps c.kind c.value) e) k)
        (to_cells ps IsOwn ps objects_own);
    stamps = stamps_own 0 stamps (every_split IsOwn objects (stamp_data core 0 stamps) are_own).1;
    count = no_outputs;
    outputs = none;
  }

  pub filled : AreFilled own ps
  filled =
      each (λ (p : Placed). Every (λ (c : Scalar). IsOwn (datum ps p.address c)) p.object.cells)
      (λ (p : Placed). Every (IsFilled own p.address) p.object.cells) ps
      (λ p k. each (λ (c : Scalar). IsOwn (datum ps p.address c)) (IsFilled own p.address) p.object.cells
      (λ c e. record { word = λ h. (code_or_zero (encoded ps c.kind c.value), e) }) k)
      (to_cells ps IsOwn ps objects_own)

  -- ---- memory

  pub words_small : AreWords (slice_index (global_words core))
  words_small k = words_wide ds smalls data_start (data_bytes core / 2) k

  abbrev pub IsNarrow : Datum → Type 0
  IsNarrow d = d.wide ≡ false → code_or_zero d.code < 256

  module _ (code : List ℕ) (narrow : Every IsNarrow ds) where
    abbrev m : ℕ → ℕ
    m = loaded code (global_words core)

    word_there : (a : ℕ) → a % 2 ≡ 0 → data_start ≤ a → a < data_start + data_bytes core → m a ≡ word_of ds a
    word_there a e l u =
        let is = bytes_are in
        let z = behind.aligned in
        let k : ℕ = (a - data_start) / 2 in
        data_loaded code (global_words core) a e l (omega arith)
        ∙ word_at ds data_start (data_bytes core / 2) k (omega arith)
        ∙ ap (word_of ds) (let y : data_start + 2 * k ≡ a = omega arith in y)

    abbrev Holds : ℕ → Cell → Type 0
    Holds a (Word (Some w)) = m a ≡ w
    Holds a (Byte (Some v)) = byte_at m a ≡ v
    Holds a (Word None) = Unit {0}
    Holds a (Byte None) = Unit {0}

    byte_there : (a : ℕ) → data_start ≤ a → a < data_start + data_bytes core → byte_at m a ≡ byte_of ds a
    byte_there a l u = from (cases_eq (a % 2) 0)
      where
        from : ((a % 2 ≡ 0) ⊎ (a % 2 ≡ 0 → ⊥)) → byte_at m a ≡ byte_of ds a
        from (inl e) = low_byte m a (byte_of ds a) (byte_of ds (a + 1)) e (word_there a e l u) (byte_small ds smalls a)
        from (inr n) =
            let b : ℕ = a - 1 in
            let z : b + 1 ≡ a = omega arith in
            high_byte m a (byte_of ds b) (byte_of ds a) (omega arith)
            (word_there b (omega arith) (omega arith) (omega arith) ∙ ap (λ (n : ℕ). byte_of ds b + 256 * byte_of ds n) z)
            (byte_small ds smalls b)

    one_holds : (d : Datum) → HasBytes (byte_of ds) d → IsEven d → IsNarrow d → data_start ≤ d.address
        → end d ≤ data_start + data_bytes core → (w : Bool) → d.wide ≡ w
        → Holds d.address (cell_by w (Some (code_or_zero d.code)))
    one_holds d h e n l u true k =
        let c : ℕ = code_or_zero d.code in
        let long : size_by d.wide ≡ 2 = ap size_by k in
        let low = h.low in
        let high = h.high k in
        word_there d.address (e k) l (omega arith)
        ∙ (let y : byte_of ds d.address + 256 * byte_of ds (d.address + 1) ≡ c = omega arith in y)
    one_holds d h e n l u false k =
        let c : ℕ = code_or_zero d.code in
        let long : size_by d.wide ≡ 1 = ap size_by k in
        let few = n k in
        let low = h.low in
        byte_there d.address l (omega arith) ∙ (let y : byte_of ds d.address ≡ c = omega arith in y)

    all_hold : (xs : List Datum) → Every (HasBytes (byte_of ds)) xs → Every IsEven xs → Every IsNarrow xs
        → Every (λ (d : Datum). data_start ≤ d.address) xs → Every (λ (d : Datum). end d ≤ data_start + data_bytes core) xs
        → Every (λ d. Holds d.address (cell_by d.wide (Some (code_or_zero d.code)))) xs
    all_hold [] h e n l u = tt
    all_hold (d ∷ xs) h e n l u =
        (one_holds d h.0 e.0 n.0 l.0 u.0 d.wide refl, all_hold xs h.1 e.1 n.1 l.1 u.1)

    pub has_values : HasValues cells m
    has_values =
        let all = every_full (λ d. Holds d.address (cell_by d.wide d.code)) ds
        (all_hold ds (all_bytes ds distinct) evens narrow froms tos) in
        record {
          words = λ a w e. of_all Holds (map full ds) all a (Word (Some w)) e;
          bytes = λ a v e. of_all Holds (map full ds) all a (Byte (Some v)) e;
        }

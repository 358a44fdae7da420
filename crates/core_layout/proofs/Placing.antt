-- Where the variables stand, one after the other.
use Rattle.std.proofs.Common.{◌≡◌, ℕ, zero, suc, ◌+◌, ◌*◌, ◌%◌, ◌<◌, ◌≤◌, min, Bool, true, false, List, [], ◌∷◌, ◌++◌, length, get_or, take, drop, map, ap, sym, refl, ◌∙◌, arith, append_assoc, add-one, drop-cons}
use Rattle.std.specs.Prelude.{Option, Some, None}
use Rattle.std.proofs.lemmas.List.{take_more, map_more, map-append, take_all, length-map, length-take-le, get_or-map, append-nil}
use Rattle.base16.specs.declared.image.Scalar.{Scalar}
use Rattle.core_tree.specs.declared.types.Slot.{Slot}
use Rattle.core_tree.specs.declared.program.Global.{Global}
use Rattle.core_tree.specs.declared.program.Core.{Core}
use Rattle.base16.specs.Board.{data_start}
use Rattle.core_tree.specs.Data.{Text, stamp_at, scalars_at, scalars_from, scalars, global_scalars, global_address, global_layout, global_layouts, stamp_address, stamps_start, stamps_of, stamp_count, first_stamp, timed_slots, names}
use Rattle.core_tree.specs.Layout.{Layout, aligned, nothing, with_member, with_members, start_of}
use Rattle.core_layout.specs.declared.layouts.Laid.{Laid}
use Rattle.core_layout.specs.Laid.{layout_of}
use Rattle.core_layout.specs.Scalars.{scalar_of}

pub laid_turn : (core : Core) (i : ℕ) (g : Global) (all more : List Laid) (made : Laid) → i < length core.globals
    → g ≡ get_or core.globals i g → map layout_of all ≡ global_layouts core (take i core.globals)
    → layout_of made ≡ global_layout core g
    → more ≡ all ++ made ∷ [] → map layout_of more ≡ global_layouts core (take (i + 1) core.globals)
laid_turn core i g all more made h is a m e =
    let turn : global_layouts core (take (i + 1) core.globals)
    ≡ global_layouts core (take i core.globals) ++ global_layout core (get_or core.globals i g) ∷ [] =
    map_more (global_layout core) core.globals i g h in
    ap (map layout_of) e ∙ map-append layout_of all (made ∷ []) ∙ ap (λ (ls : List Layout). ls ++ layout_of made ∷ []) a
    ∙ ap (λ (l : Layout). global_layouts core (take i core.globals) ++ l ∷ []) (m ∙ ap (global_layout core) is) ∙ sym turn

pub with_last : (before : Layout) (ls : List Layout) (l : Layout)
    → with_members before (ls ++ l ∷ []) ≡ with_member (with_members before ls) l
with_last before [] l = refl
with_last before (k ∷ ls) l = with_last (with_member before k) ls l

low_aligned : (even : Bool) (a b : ℕ) → a ≡ b % 65536 → aligned even a % 65536 ≡ aligned even b % 65536
low_aligned true a b e = omega arith
low_aligned false a b e = omega arith

bytes_step : (ls : List Layout) (i : ℕ) (l : Layout) (bytes start more : ℕ) → i < length ls → l ≡ get_or ls i l
    → bytes ≡ (with_members nothing (take i ls)).size % 65536 → start ≡ aligned l.even bytes % 65536
    → more ≡ (start + l.size) % 65536
    → more ≡ (with_members nothing (take (i + 1) ls)).size % 65536
bytes_step ls i l bytes start more h is b s m =
    let before : Layout = with_members nothing (take i ls) in
    let cut : take (i + 1) ls ≡ take i ls ++ l ∷ [] = take_more ls i l h ∙ ap (λ (k : Layout). take i ls ++ k ∷ []) (sym is) in
    let whole : (with_members nothing (take (i + 1) ls)).size ≡ aligned l.even before.size + l.size =
    ap (λ (ks : List Layout). (with_members nothing ks).size) cut
    ∙ ap (λ (k : Layout). k.size) (with_last nothing (take i ls) l) in
    let low : start ≡ aligned l.even before.size % 65536 = s ∙ low_aligned l.even bytes before.size b in
    omega (arith, whole, low, m)

pub bytes_turn : (all : List Laid) (i : ℕ) (l : Laid) (bytes start more : ℕ) → i < length all → l ≡ get_or all i l
    → bytes ≡ (with_members nothing (take i (map layout_of all))).size % 65536 → start ≡ aligned l.even bytes % 65536
    → more ≡ (start + l.size) % 65536 → more ≡ (with_members nothing (take (i + 1) (map layout_of all))).size % 65536
bytes_turn all i l bytes start more h is b s m =
    let here : layout_of l ≡ get_or (map layout_of all) i (layout_of l) =
    ap layout_of is ∙ sym (get_or-map layout_of all i l (layout_of l) h) in
    let lt : i < length (map layout_of all) = rw (length-map all layout_of) h in
    bytes_step (map layout_of all) i (layout_of l) bytes start more lt here b s m

-- ---- the scalars of a variable

same_stamp : (lifetime : Option ℕ) (s t : ℕ) → s % 65536 ≡ t % 65536 → stamp_at lifetime s ≡ stamp_at lifetime t
same_stamp None s t e = refl
same_stamp (Some n) s t e = ap (λ (k : ℕ). Some k) e

same_scalar : (g : Global) (a b s t : ℕ) (slot : Slot) (name : Text) → a % 65536 ≡ b % 65536 → s % 65536 ≡ t % 65536
    → scalar_of g a s slot name ≡ scalar_of g b t slot name
same_scalar g a b s t slot name e f =
    let made : ℕ → Option ℕ → Scalar = λ n o. record { name = g.name ++ name; address = n; kind = slot.kind; stamp = o } in
    let o : (a + slot.offset) % 65536 ≡ (b + slot.offset) % 65536 = omega arith in
    ap (λ (n : ℕ). made n (stamp_at g.lifetime s)) o
    ∙ ap (λ (k : Option ℕ). made ((b + slot.offset) % 65536) k) (same_stamp g.lifetime s t f)

-- addresses modulo 2^16 are told the same
pub same_scalars : (g : Global) (a b s t : ℕ) (slots : List Slot) (texts : List Text) → a % 65536 ≡ b % 65536
    → s % 65536 ≡ t % 65536
    → scalars_at g a s slots texts ≡ scalars_at g b t slots texts
same_scalars g a b s t [] texts e f = refl
same_scalars g a b s t (x ∷ xs) [] e f = refl
same_scalars g a b s t (x ∷ xs) (n ∷ ns) e f =
    ap (λ (k : Scalar). k ∷ scalars_at g a (s + 4) xs ns) (same_scalar g a b s t x n e f)
    ∙ ap (λ (l : List Scalar). scalar_of g b t x n ∷ l) (same_scalars g a b (s + 4) (t + 4) xs ns e (omega arith))

pub scalars_step : (g : Global) (at here next i : ℕ) (slots : List Slot) (texts : List Text) (d : Slot) (text : Text)
    (one : Scalar)
    (whole into more : List Scalar)
    → i < length slots → i < length texts → text ≡ get_or texts i text
    → whole ≡ into ++ scalars_at g at here (drop i slots) (drop i texts) → one ≡ scalar_of g at here (get_or slots i d) text
    → more ≡ into ++ one ∷ [] → next ≡ (here + 4) % 65536
    → whole ≡ more ++ scalars_at g at next (drop (i + 1) slots) (drop (i + 1) texts)
scalars_step g at here next i slots texts d text one whole into more h k it w o m n =
    let slot : Slot = get_or slots i d in
    let left : drop i slots ≡ slot ∷ drop (i + 1) slots = rw (add-one) (drop-cons slots i d h) in
    let right : drop i texts ≡ text ∷ drop (i + 1) texts =
    (rw (add-one) (drop-cons texts i text k)) ∙ ap (λ (x : Text). x ∷ drop (i + 1) texts) (sym it) in
    let rest : List Scalar = scalars_at g at next (drop (i + 1) slots) (drop (i + 1) texts) in
    let low : scalars_at g at (here + 4) (drop (i + 1) slots) (drop (i + 1) texts) ≡ rest =
    same_scalars g at at (here + 4) next (drop (i + 1) slots) (drop (i + 1) texts) refl (omega arith) in
    w ∙ ap (λ (xs : List Slot). into ++ scalars_at g at here xs (drop i texts)) left
    ∙ ap (λ (ts : List Text). into ++ scalars_at g at here (slot ∷ drop (i + 1) slots) ts) right
    ∙ ap (λ (l : List Scalar). into ++ scalar_of g at here slot text ∷ l) low
    ∙ ap (λ (x : Scalar). into ++ x ∷ rest) (sym o)
    ∙ sym (append_assoc into (one ∷ []) rest)
    ∙ ap (λ (l : List Scalar). l ++ rest) (sym m)

no_names : (g : Global) (at s : ℕ) (xs : List Slot) → scalars_at g at s xs [] ≡ []
no_names g at s [] = refl
no_names g at s (x ∷ xs) = refl

scalars_end : (g : Global) (at s i : ℕ) (slots : List Slot) (texts : List Text) → min (length slots) (length texts) ≤ i
    → scalars_at g at s (drop i slots) (drop i texts) ≡ []
scalars_end g at s zero [] texts h = refl
scalars_end g at s (suc i) [] texts h = refl
scalars_end g at s zero (x ∷ xs) [] h = refl
scalars_end g at s (suc i) (x ∷ xs) [] h = no_names g at s (drop i xs)
scalars_end g at s zero (x ∷ xs) (n ∷ ns) h = absurd (omega arith)
scalars_end g at s (suc i) (x ∷ xs) (n ∷ ns) h = scalars_end g at s i xs ns (omega arith)

pub scalars_done : (g : Global) (at s i : ℕ) (slots : List Slot) (texts : List Text) (whole into : List Scalar)
    → min (length slots) (length texts) ≤ i → whole ≡ into ++ scalars_at g at s (drop i slots) (drop i texts) → into ≡ whole
scalars_done g at s i slots texts whole into h w =
    sym (w ∙ ap (λ (l : List Scalar). into ++ l) (scalars_end g at s i slots texts h) ∙ append-nil into)

-- ---- the variables of a program

scalars_append : (core : Core) (n m : ℕ) (gs more : List Global) → m ≡ n + length gs
    → scalars_from core n (gs ++ more) ≡ scalars_from core n gs ++ scalars_from core m more
scalars_append core n m [] more e =
    let z : n ≡ m = omega arith in ap (λ (k : ℕ). scalars_from core k more) z
scalars_append core n m (g ∷ gs) more e =
    ap (λ (l : List Scalar). global_scalars core n g ++ l) (scalars_append core (n + 1) m gs more (omega arith))
    ∙ sym (append_assoc (global_scalars core n g) (scalars_from core (n + 1) gs) (scalars_from core m more))

stamps_append : (core : Core) (gs more : List Global) → stamps_of core (gs ++ more) ≡ stamps_of core gs + stamps_of core more
stamps_append core [] more = omega arith
stamps_append core (g ∷ gs) more = omega (arith, stamps_append core gs more)

-- what is kept of the variables so far: how many bytes they have, and where the next stamp is
pub record Stands (core : Core) (i bytes stamp : ℕ) : Type 0 where
  pub bytes_are : bytes ≡ (with_members nothing (take i (global_layouts core core.globals))).size % 65536
  pub stamp_is : stamp ≡ (stamps_start core + 4 * stamps_of core (take i core.globals)) % 65536

pub stands_first : (core : Core) (stamp : ℕ) → stamp ≡ stamps_start core % 65536 → Stands core 0 0 stamp
stands_first core stamp e = record { bytes_are = refl; stamp_is = omega (arith, e) }

module _ (core : Core) (i : ℕ) (g : Global) (h : i < length core.globals) (is : g ≡ get_or core.globals i g) where
  cut : take (i + 1) core.globals ≡ take i core.globals ++ g ∷ []
  cut = take_more core.globals i g h ∙ ap (λ (x : Global). take i core.globals ++ x ∷ []) (sym is)

  here : get_or (global_layouts core core.globals) i nothing ≡ global_layout core g
  here = get_or-map (global_layout core) core.globals i g nothing h ∙ ap (global_layout core) (sym is)

  -- the layout that is read there
  pub laid_here : (all : List Laid) (l : Laid) → map layout_of all ≡ global_layouts core core.globals → l ≡ get_or all i l
      → layout_of l ≡ global_layout core g
  laid_here all l e r =
      let long : length all ≡ length core.globals =
      sym (length-map all layout_of) ∙ ap length e ∙ length-map core.globals (global_layout core) in
      let lt : i < length all = omega arith in
      ap layout_of r ∙ sym (get_or-map layout_of all i l nothing lt) ∙ ap (λ (ls : List Layout). get_or ls i nothing) e ∙ here

  pub stands_next : (l : Layout) (bytes stamp start more next : ℕ) → Stands core i bytes stamp → l ≡ global_layout core g
      → start ≡ aligned l.even bytes % 65536 → more ≡ (start + l.size) % 65536
      → next ≡ (stamp + 4 * timed_slots g.lifetime l.slots) % 65536 → Stands core (i + 1) more next
  stands_next l bytes stamp start more next s e f m n =
      let ls : List Layout = global_layouts core core.globals in
      let lt : i < length ls = rw (length-map core.globals (global_layout core)) h in
      let same : l ≡ get_or ls i l =
      e ∙ sym (get_or-map (global_layout core) core.globals i g l h ∙ ap (global_layout core) (sym is)) in
      let count : timed_slots g.lifetime l.slots ≡ stamp_count core g = ap (λ (k : Layout). timed_slots g.lifetime k.slots) e in
      let sum : stamps_of core (take (i + 1) core.globals) ≡ stamps_of core (take i core.globals) + stamp_count core g =
      ap (stamps_of core) cut ∙ stamps_append core (take i core.globals) (g ∷ [])
      ∙ (let z : stamp_count core g + 0 ≡ stamp_count core g = omega arith in
      ap (λ (k : ℕ). stamps_of core (take i core.globals) + k) z) in
      record {
        bytes_are = bytes_step ls i l bytes start more lt same s.bytes_are f m;
        stamp_is = omega (arith, s.stamp_is, n, count, sum);
      }

  address_is : (l : Layout) (bytes stamp start at : ℕ) → Stands core i bytes stamp → l ≡ global_layout core g
      → start ≡ aligned l.even bytes % 65536 → at ≡ (data_start + start) % 65536 → at % 65536 ≡ global_address core i % 65536
  unfolding global_address
  address_is l bytes stamp start at s e f a =
      let row : List Layout = global_layouts core core.globals in
      let even : l.even ≡ (get_or row i nothing).even = ap (λ (k : Layout). k.even) (e ∙ sym here) in
      let size : ℕ = (with_members nothing (take i row)).size in
      let low : start ≡ aligned l.even size % 65536 = f ∙ low_aligned l.even bytes size s.bytes_are in
      let same : aligned l.even size ≡ start_of row i = ap (λ (b : Bool). aligned b size) even in
      omega (arith, low, same, a)

  stamp_here : (bytes stamp : ℕ) → Stands core i bytes stamp → stamp % 65536 ≡ stamp_address core (first_stamp core i) % 65536
  unfolding stamp_address first_stamp
  stamp_here bytes stamp s = omega (arith, s.stamp_is)

  pub scalars_next : (l : Layout) (bytes stamp start at : ℕ) (texts : List Text) (all more : List Scalar)
      → Stands core i bytes stamp
      → l ≡ global_layout core g → start ≡ aligned l.even bytes % 65536 → at ≡ (data_start + start) % 65536
      → texts ≡ names core.structs g.ty → all ≡ scalars_from core 0 (take i core.globals)
      → more ≡ all ++ scalars_at g at stamp l.slots texts → more ≡ scalars_from core 0 (take (i + 1) core.globals)
  scalars_next l bytes stamp start at texts all more s e f a t b m =
      let low : scalars_at g at stamp l.slots texts
      ≡ scalars_at g (global_address core i) (stamp_address core (first_stamp core i)) l.slots texts =
      same_scalars g at (global_address core i) stamp (stamp_address core (first_stamp core i)) l.slots texts
      (address_is l bytes stamp start at s e f a) (stamp_here bytes stamp s) in
      let made : List Slot → List Text → List Scalar =
      λ slots ns. scalars_at g (global_address core i) (stamp_address core (first_stamp core i)) slots ns in
      let whole : made l.slots texts ≡ global_scalars core i g =
      ap (λ (k : Layout). made k.slots texts) e ∙ ap (λ (ns : List Text). made (global_layout core g).slots ns) t in
      let front : length (take i core.globals) ≡ i = length-take-le i core.globals (omega arith) in
      let long : i ≡ 0 + length (take i core.globals) = omega (arith, front) in
      let before : List Scalar = scalars_from core 0 (take i core.globals) in
      m ∙ ap (λ (k : List Scalar). k ++ scalars_at g at stamp l.slots texts) b
      ∙ ap (λ (k : List Scalar). before ++ k) (low ∙ whole ∙ sym (append-nil (global_scalars core i g)))
      ∙ sym (scalars_append core 0 i (take i core.globals) (g ∷ []) long) ∙ ap (scalars_from core 0) (sym cut)

pub all_of : (core : Core) (n : ℕ) (all : List Scalar) → length core.globals ≤ n
    → all ≡ scalars_from core 0 (take n core.globals)
    → all ≡ scalars core
unfolding scalars
all_of core n all h e = e ∙ ap (scalars_from core 0) (take_all n core.globals h)

-- What a commit shows: the changes lead from what the memory recovered to before, to what it recovers to.
use Rattle.std.proofs.Common.{◌≡◌, ℕ, ◌+◌, ◌-◌, ◌/◌, ◌%◌, ◌<◌, ◌==◌, true, ◌&&◌, nat_eq, nat_lt, if◌then◌else◌, refl, sym, ap, ◌∙◌, subst, arith, zero, suc, Option, Some, None, List, [], ◌∷◌, ◌++◌}
use Rattle.std.proofs.lemmas.Bool.Decides.{nat_tests}
use Rattle.std.specs.Option.{option_eq}
use Rattle.std.specs.Prelude.{fold}
use Rattle.base16.specs.Board.{data_end}
use Rattle.base16.specs.declared.image.Scalar.{Scalar}
use Rattle.board_map.specs.Recovered.{Machine, recovered, state_words, machine_of}
use Rattle.board_map.specs.WellFormed.{IsWellFormed}
use Rattle.board_map.specs.declared.work.Work.{Work}
use Rattle.core430.specs.Bytes.{byte_at}
use Rattle.display.specs.Display.{display_of, is_shown, ShowsSame, AreInData}
use Rattle.display.specs.Log.{before, shown_before}
use Rattle.display.specs.Sets.{value_number, stamp_number, value_change, stamp_change, value_set, stamp_set, length_change, out_change, all_below, sets_between}
use Rattle.display.proofs.Before.{before-recovered, machine-shows}
use Rattle.display.proofs.Law.{sets_between-lead}
use Rattle.display.proofs.Same.{ShowsSame-back, ShowsSame-join, all_below-same, display_of-same, sets_between-same}
use Rattle.ideal430.specs.Agreement.{Agrees}
use Rattle.ideal430.specs.Ideal.{Ideal}
use Rattle.ideal430.specs.Places.{is_fixed}
use Rattle.ideal430.specs.Service.{Block}
use Rattle.services.specs.Serving.{IsCommitted, Tells}
use Rattle.world.specs.History.{Display, changed}
use Rattle.world.specs.World.{WorldState}
use Rattle.world.specs.declared.history.Shown.{Shown}
use Rattle.world.specs.declared.history.Shown.TheVariants.{Value, Stamp, Outs, Out}

-- ---- the changes to a display that shows the same

all_below-up_to : (f g : ℕ → List Shown) (n : ℕ) → ((a : ℕ) → a < n → f a ≡ g a) → all_below f n ≡ all_below g n
unfolding all_below
all_below-up_to f g zero h = refl
all_below-up_to f g (suc n) h =
    ap (λ xs. xs ++ f n) (all_below-up_to f g n (λ a l. h a (omega arith)))
    ∙ ap (λ xs. all_below g n ++ xs) (h n (omega arith))

value_change-to : (d e f : Display) (o : Option ℕ) → ((s : ℕ) → e.values s ≡ f.values s)
    → value_change d e o ≡ value_change d f o
value_change-to d e f None h = refl
value_change-to d e f (Some s) h = ap (λ v. if d.values s == v then [] else Value s v ∷ []) (h s)

stamp_change-to : (d e f : Display) (o : Option ℕ) → ((s : ℕ) → e.stamps s ≡ f.stamps s)
    → stamp_change d e o ≡ stamp_change d f o
stamp_change-to d e f None h = refl
stamp_change-to d e f (Some s) h = ap (λ v. if option_eq nat_eq (d.stamps s) v then [] else Stamp s v ∷ []) (h s)

out_change-to : (d e f : Display) (i : ℕ) → e.outs i ≡ f.outs i → out_change d e i ≡ out_change d f i
out_change-to d e f i h = ap (λ v. if nat_lt i d.outputs && (d.outs i == v) then [] else Out i v ∷ []) h

pub sets_between-to : (scalars : List Scalar) (d e f : Display) → ShowsSame e f
    → sets_between scalars d e ≡ sets_between scalars d f
sets_between-to scalars d e f h =
    let p = all_below-same (value_set scalars d e) (value_set scalars d f) data_end
    (λ a. value_change-to d e f (value_number scalars a) h.values) in
    let q = all_below-same (stamp_set scalars d e) (stamp_set scalars d f) data_end
    (λ a. stamp_change-to d e f (stamp_number scalars a) h.stamps) in
    let r : length_change d e ≡ length_change d f = ap (λ n. if d.outputs == n then [] else Outs n ∷ []) h.outputs in
    let t : all_below (out_change d e) e.outputs ≡ all_below (out_change d f) f.outputs =
    ap (λ n. all_below (out_change d e) n) h.outputs
    ∙ all_below-up_to (out_change d e) (out_change d f) f.outputs (λ i l. out_change-to d e f i (h.outs i l)) in
    ap (λ xs. xs ++ (all_below (stamp_set scalars d e) data_end ++ (length_change d e ++ all_below (out_change d e) e.outputs))) p
    ∙ ap (λ xs. all_below (value_set scalars d f) data_end
    ++ (xs ++ (length_change d e ++ all_below (out_change d e) e.outputs))) q
    ∙ ap (λ xs. all_below (value_set scalars d f) data_end ++ (all_below (stamp_set scalars d f) data_end
    ++ (xs ++ all_below (out_change d e) e.outputs))) r
    ∙ ap (λ xs. all_below (value_set scalars d f) data_end ++ (all_below (stamp_set scalars d f) data_end
    ++ (length_change d f ++ xs))) t

-- ---- from commit to commit

-- These are the changes from a display, and they lead to what a memory shows.
pub record Leads (scalars : List Scalar) (d : Display) (sets : List Shown) (m : ℕ → ℕ) : Type 0 where
  pub sets_are : sets ≡ sets_between scalars d (fold changed d sets)
  pub shows : ShowsSame (fold changed d sets) (display_of scalars m)

-- A commit leads from whatever shows what the memory recovered to, to what it recovers to.
pub leads : (scalars : List Scalar) (d : Display) (log : ℕ) (old new : ℕ → ℕ) (registers : List ℕ) (work : Work)
    (w w2 : WorldState) → AreInData scalars → IsWellFormed old → Tells log old new → IsCommitted w w2 registers work new
    → ShowsSame d (display_of scalars (recovered old).memory)
    → Leads scalars d (sets_between scalars (shown_before scalars log new) (display_of scalars new)) (recovered new).memory
leads scalars d log old new registers work w w2 placed formed tells is same =
    let sets = sets_between scalars (shown_before scalars log new) (display_of scalars new) in
    let from : ShowsSame d (shown_before scalars log new) =
    ShowsSame-join same (ShowsSame-back (display_of-same scalars (before log new) (recovered old).memory placed
    (before-recovered log old new formed tells.back))) in
    let to : ShowsSame (fold changed d sets) (display_of scalars new) =
    sets_between-lead scalars (before log new) new d placed from in
    let state = state_words work.segment (if work.block_open then 1 else 0) work.block_length work.marks work.commits is.clock in
    let kept : ShowsSame (display_of scalars new) (display_of scalars (recovered new).memory) =
    subst (λ (r : Machine). ShowsSame (display_of scalars new) (display_of scalars r.memory)) (sym is.is)
    (display_of-same scalars new (machine_of registers state new).memory placed (machine-shows registers state new)) in
    record {
      sets_are = sets_between-same scalars (shown_before scalars log new) (display_of scalars new) d (ShowsSame-back from)
          ∙ sets_between-to scalars d (display_of scalars new) (fold changed d sets) (ShowsSame-back to);
      shows = ShowsSame-join to kept;
    }

-- ---- the machine

word-of : (v w : ℕ) → v % 256 ≡ w % 256 → v / 256 ≡ w / 256 → v ≡ w
word-of v w low high = omega arith

fixed-shown : (b : ℕ) → b % 2 ≡ 0 → is_shown b ≡ true → is_fixed b ≡ true
fixed-shown b even h = grind (arith, nat_tests)

fixed-behind : (b : ℕ) → b % 2 ≡ 0 → is_shown b ≡ true → is_fixed (b + 1) ≡ true
fixed-behind b even h = grind (arith, nat_tests)

low-byte : (m : ℕ → ℕ) (b : ℕ) → b % 2 ≡ 0 → byte_at m b ≡ m b % 256
low-byte m b even =
    let here : b - b % 2 ≡ b = omega arith in
    ap (λ k. if nat_eq k 0 then m (b - b % 2) % 256 else m (b - b % 2) / 256) even ∙ ap (λ k. m k % 256) here

high-byte : (m : ℕ → ℕ) (b : ℕ) → b % 2 ≡ 0 → byte_at m (b + 1) ≡ m b / 256
high-byte m b even =
    let odd : (b + 1) % 2 ≡ 1 = omega arith in
    let here : b + 1 - (b + 1) % 2 ≡ b = omega arith in
    ap (λ k. if nat_eq k 0 then m (b + 1 - (b + 1) % 2) % 256 else m (b + 1 - (b + 1) % 2) / 256) odd ∙ ap (λ k. m k / 256) here

-- Where the machine stands, its memory shows what the board's does.
pub agrees-shows : (scalars : List Scalar) (t : Ideal) (registers m : ℕ → ℕ) (segment : ℕ) (block : Block) (marks : ℕ)
    → AreInData scalars → Agrees t registers m segment block marks
    → ShowsSame (display_of scalars m) (display_of scalars t.core.memory)
agrees-shows scalars t registers m segment block marks placed a =
    let k = t.core.memory in
    display_of-same scalars m k placed (record {
      at = λ b even shown.
          word-of (m b) (k b)
          (sym (low-byte m b even) ∙ sym (a.memory.at b (a.fixed b (fixed-shown b even shown))) ∙ low-byte k b even)
          (sym (high-byte m b even) ∙ sym (a.memory.at (b + 1) (a.fixed (b + 1) (fixed-behind b even shown)))
          ∙ high-byte k b even);
    })

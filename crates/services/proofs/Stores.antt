-- The stores of a service, one after another.
use Rattle.std.proofs.Common.{◌≡◌, ℕ, ◌+◌, ◌-◌, ◌<◌, ◌≤◌, Bool, true, false, not, List, [], ◌∷◌, refl, sym, ap, ◌∙◌, subst, arith, Result, Ok, Err, OnOk, OnErr, if◌then◌else◌}
use Rattle.std.proofs.lemmas.Result.{on_ok_weaker}
use Rattle.base16.specs.Board.{segment_top}
use Rattle.base16.specs.Memory.{put}
use Rattle.core430.specs.Bytes.{word_address, with_byte}
use Rattle.board_map.specs.Costs.{put_cost, put_entries, put_entries_within, entries_within}
use Rattle.board_map.specs.Map.{block_log_start, count_of, segment_of, in_segment}
use Rattle.board_map.specs.Recovered.{recovered}
use Rattle.board_map.specs.Ticks.{dead_word, Keeps}
use Rattle.board_map.specs.WellFormed.{IsWellFormed}
use Rattle.board_map.proofs.TickKinds.{tick_keeps}
use Rattle.board_map.proofs.WriteKinds.{above-dead}
use Rattle.board_map.proofs.Writes.{put_cong, loggable-range}
use Rattle.fram.specs.Takes.{Takes}
use Rattle.fram.proofs.TickLemmas.{takes_after, off_before}
use Rattle.ideal430.specs.Costs.{store_ticks, stores_ticks, is_logged}
use Rattle.ideal430.specs.Service.{store_in}
use Rattle.ideal430.specs.declared.service.Store.{Store}
use Rattle.ideal430.specs.declared.service.Store.TheVariants.{Word, Byte, Link}
use Rattle.undo_log.specs.Log.{Sets}
use Rattle.world.specs.World.{WorldState, IsLawful, Spends, Spends-none}
use Rattle.world.specs.declared.outside.Off.{Off}
use Rattle.services.specs.Serving.{Made, MadeStore, MadeStores, IsPlaced, store_entries, store_cut, stores_cut}

-- ---- one store

ticks-turned : (b : Bool) → (if b then 1 else 4) ≡ (if not b then 4 else 1) + 0
ticks-turned true = refl
ticks-turned false = refl

turned : (b : Bool) (x : ℕ) → (if b then 0 else x) ≡ (if not b then x else 0)
turned true x = refl
turned false x = refl

-- a word that `put` set
pub made-word : {T : Type 0} (segment a w : ℕ) (m m2 : ℕ → ℕ) (s t : WorldState) (r : Result T Off) → segment ≡ segment_of m
    → Takes (put_cost m a) r s t → OnOk r (Sets a w m m2) → recovered m2 ≡ recovered m → IsWellFormed m2
    → count_of m2 ≡ count_of m + put_entries_within m a s.left → OnOk r (count_of m2 ≡ count_of m + put_entries m a) → IsLawful t
    → MadeStore segment (Word a w) r m m2 s t
made-word segment a w m m2 s t r e takes set rec f valid count lawful = record {
  takes = subst (λ k. Takes k r s t)
      (ap (λ i. if in_segment i a then 1 else 4) (sym e) ∙ ticks-turned (in_segment segment a)) takes;
  memory = set;
  recovered = rec;
  well_formed = f;
  count = on_ok_weaker r (λ h. h ∙ ap (λ k. count_of m + k)
      (ap (λ i. if in_segment i a then 0 else 1) (sym e) ∙ turned (in_segment segment a) 1)) count;
  valid = valid ∙ ap (λ k. count_of m + k)
      (ap (λ i. if in_segment i a then 0 else entries_within s.left) (sym e)
      ∙ turned (in_segment segment a) (entries_within s.left));
  lawful = lawful;
}

-- a byte is its word with the byte replaced
pub made-byte : {T : Type 0} (segment a v w : ℕ) (m m2 : ℕ → ℕ) (s t : WorldState) (r : Result T Off)
    → w ≡ with_byte a (m (word_address a)) v → MadeStore segment (Word (word_address a) w) r m m2 s t
    → MadeStore segment (Byte a v) r m m2 s t
made-byte segment a v w m m2 s t r e h =
    subst (λ x. Made (store_ticks segment false (Byte a v)) (store_entries segment (Byte a v))
    (store_cut segment (Byte a v) s.left)
    (put m (word_address a) x) r m m2 s t) e h

-- a link word is a dead word
pub made-link : {T : Type 0} (segment a w : ℕ) (m m2 : ℕ → ℕ) (s t : WorldState) (r : Result T Off) → segment ≡ segment_of m
    → IsWellFormed m
    → IsPlaced segment (Link a w) → OnOk r (m2 ≡ put m a w) → OnOk r (Spends 1 s t) → OnErr r (s.left ≡ 0) → OnErr r (m2 ≡ m)
    → OnErr r (t ≡ s)
    → IsLawful t → MadeStore segment (Link a w) r m m2 s t
made-link segment a w m m2 s t (Ok x) e f p memory tick off kept still lawful =
    let top : segment_top (segment_of m) ≤ a = subst (λ i. segment_top i ≤ a) e p.0 in
    let low : block_log_start ≤ a = omega arith in
    let k : Keeps dead_word m m2 = subst (Keeps dead_word m) (sym memory)
    (tick_keeps dead_word m a w f (low, above-dead m a f top p.1)) in
    record {
      takes = tick;
      memory = λ b l. ap (λ (g : ℕ → ℕ). g b) memory;
      recovered = k.recovered;
      well_formed = k.well_formed;
      count = k.entries ∙ (let z : count_of m ≡ count_of m + 0 = omega arith in z);
      valid = k.entries ∙ (let z : count_of m ≡ count_of m + 0 = omega arith in z);
      lawful = lawful;
    }
made-link segment a w m m2 s t (Err x) e f p memory tick off kept still lawful = record {
  takes = (
    let z : s.left ≡ 0 = off in omega arith,
    ap (λ (u : WorldState). u.left) still ∙ off,
    subst (λ k. Spends k s t) (sym off) (subst (Spends 0 s) (sym still) (Spends-none s)),
  );
  memory = tt;
  recovered = ap recovered kept;
  well_formed = subst IsWellFormed (sym kept) f;
  count = tt;
  valid = ap count_of kept ∙ (let z : count_of m ≡ count_of m + 0 = omega arith in z);
  lawful = lawful;
}

pub made-store : {T : Type 0} (segment : ℕ) (s u : Store) (m m2 : ℕ → ℕ) (w w2 : WorldState) (r : Result T Off) → s ≡ u
    → MadeStore segment u r m m2 w w2 → MadeStore segment s r m m2 w w2
made-store segment s u m m2 w w2 r e h = subst (λ x. MadeStore segment x r m m2 w w2) (sym e) h

pub placed-as : (segment : ℕ) (s u : Store) → s ≡ u → IsPlaced segment s → IsPlaced segment u
placed-as segment s u e h = subst (IsPlaced segment) e h

-- ---- several

pub made-none : {T : Type 0} (x : T) (segment : ℕ) (m : ℕ → ℕ) (s : WorldState) → IsWellFormed m → IsLawful s
    → MadeStores segment [] (Ok x) m m s s
made-none x segment m s f lawful = record {
  takes = Spends-none s;
  memory = λ b l. refl;
  recovered = refl;
  well_formed = f;
  count = let z : count_of m ≡ count_of m + 0 = omega arith in z;
  valid = let z : count_of m ≡ count_of m + 0 = omega arith in z;
  lawful = lawful;
}

made-as : {T : Type 0} (k k2 n n2 c c2 : ℕ) (g : ℕ → ℕ) (r : Result T Off) (m m2 : ℕ → ℕ) (s t : WorldState) → k ≡ k2 → n ≡ n2
    → c ≡ c2
    → Made k n c g r m m2 s t → Made k2 n2 c2 g r m m2 s t
made-as k k2 n n2 c c2 g r m m2 s t e e1 e2 h =
    subst (λ x. Made k2 n2 x g r m m2 s t) e2
    (subst (λ x. Made k2 x c g r m m2 s t) e1 (subst (λ x. Made x n c g r m m2 s t) e h))

pub made-stores : {T : Type 0} (segment : ℕ) (xs ys : List Store) (r : Result T Off) (m m2 : ℕ → ℕ) (s t : WorldState) → xs ≡ ys
    → MadeStores segment ys r m m2 s t → MadeStores segment xs r m m2 s t
made-stores segment xs ys r m m2 s t e h = subst (λ x. MadeStores segment x r m m2 s t) (sym e) h

plus-zero : (n : ℕ) → n ≡ n + 0
plus-zero n = omega arith

pub made-one : {T : Type 0} (segment : ℕ) (a : Store) (r : Result T Off) (m m2 : ℕ → ℕ) (s t : WorldState)
    → MadeStore segment a r m m2 s t → MadeStores segment (a ∷ []) r m m2 s t
made-one segment a r m m2 s t h =
    made-as (store_ticks segment false a) (store_ticks segment false a + 0) (store_entries segment a)
    (store_entries segment a + 0)
    (store_cut segment a s.left) (store_cut segment a s.left + 0) (store_in m a) r m m2 s t
    (plus-zero _) (plus-zero _) (plus-zero _) h

none-logged : (b : Bool) → (if b then entries_within 0 else 0) ≡ 0
none-logged true = refl
none-logged false = refl

-- with no tick left no entry is made
cut-zero : (segment : ℕ) (stores : List Store) (left : ℕ) → left ≡ 0 → stores_cut segment stores left ≡ 0
cut-zero segment [] left e = refl
cut-zero segment (s ∷ rest) left e =
    let none : store_cut segment s left ≡ 0 = ap (λ k. if is_logged segment s then entries_within k else 0) e
    ∙ none-logged (is_logged segment s) in
    let more : stores_cut segment rest (left - store_ticks segment false s) ≡ 0 = cut-zero segment rest
    (left - store_ticks segment false s) (omega arith) in
    omega arith

-- power fails in the first of them
pub made-cut : {T U : Type 0} (segment : ℕ) (a : Store) (rest : List Store) (x y : Off) (m m2 : ℕ → ℕ) (s t : WorldState)
    → MadeStore {T = T} segment a (Err x) m m2 s t → MadeStores {T = U} segment (a ∷ rest) (Err y) m m2 s t
made-cut segment a rest x y m m2 s t h =
    let less : s.left < store_ticks segment false a = h.takes.0 in
    let none : stores_cut segment rest (s.left - store_ticks segment false a) ≡ 0 = cut-zero segment rest _ (omega arith) in
    let valid : count_of m2 ≡ count_of m + store_cut segment a s.left = h.valid in
    record {
      takes = off_before (store_ticks segment false a) (stores_ticks segment false rest) s t h.takes;
      memory = tt;
      recovered = h.recovered;
      well_formed = h.well_formed;
      count = tt;
      valid = omega arith;
      lawful = h.lawful;
    }

store-cong : (segment : ℕ) (m w : ℕ → ℕ) (s : Store) → IsPlaced segment s → ((b : ℕ) → block_log_start ≤ b → w b ≡ m b)
    → (b : ℕ) → block_log_start ≤ b → store_in w s b ≡ store_in m s b
store-cong segment m w (Word a x) l h b k = put_cong w m b a a x x (h b k) refl refl
store-cong segment m w (Link a x) l h b k = put_cong w m b a a x x (h b k) refl refl
store-cong segment m w (Byte a v) l h b k =
    let r = loggable-range (word_address a) l in
    put_cong w m b (word_address a) (word_address a) _ _ (h b k) refl
    (ap (λ x. with_byte a x v) (h (word_address a) (omega (arith, r.0))))

pub made-two : {T U : Type 0} (x : U) (segment : ℕ) (a c : Store) (r : Result T Off) (m m1 m2 : ℕ → ℕ) (s t u : WorldState)
    → IsPlaced segment c
    → MadeStore segment a (Ok x) m m1 s t → MadeStore segment c r m1 m2 t u → MadeStores segment (a ∷ c ∷ []) r m m2 s u
made-two x segment a c r m m1 m2 s t u p h k =
    let spent : Spends (store_ticks segment false a) s t = h.takes in
    let left : s.left ≡ t.left + store_ticks segment false a = spent.left in
    let rest : t.left ≡ s.left - store_ticks segment false a = omega arith in
    let first : count_of m1 ≡ count_of m + store_entries segment a = h.count in
    let cut : count_of m1 ≡ count_of m + store_cut segment a s.left = h.valid in
    let cut2 : count_of m2 ≡ count_of m1 + store_cut segment c (s.left - store_ticks segment false a) =
    k.valid ∙ ap (λ l. count_of m1 + store_cut segment c l) rest in
    record {
      takes = takes_after (store_ticks segment false a) (store_ticks segment false c + 0) s t u r spent
          (subst (λ n. Takes n r t u) (plus-zero (store_ticks segment false c)) k.takes);
      memory = on_ok_weaker r (λ g b l. g b l ∙ store-cong segment (store_in m a) m1 c p h.memory b l) k.memory;
      recovered = k.recovered ∙ h.recovered;
      well_formed = k.well_formed;
      count = on_ok_weaker r (λ (g : count_of m2 ≡ count_of m1 + store_entries segment c).
          let z : count_of m2 ≡ count_of m +
          (store_entries segment a + (store_entries segment c + 0)) = omega arith in z) k.count;
      valid = omega arith;
      lawful = k.lawful;
    }

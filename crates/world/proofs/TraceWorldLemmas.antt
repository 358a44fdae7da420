-- Each step of the world that plays a trace keeps what it keeps.
use Rattle.std.proofs.Common.{◌≡◌, ◌≢◌, ℕ, ◌+◌, ◌-◌, ◌*◌, ◌/◌, ◌%◌, ◌<◌, ◌≤◌, ◌^◌, ◌⊎◌, Some, List, [], ◌∷◌, ◌++◌, length, map, take, filter, slice_get, get_or, set, replicate, cond, nat_le, suc, zero, refl, sym, ◌∙◌, ap, subst, inl, inr, arith}
use Rattle.std.proofs.lemmas.Nat.{div-add-mod', div-mul-add, le-div}
use Rattle.std.proofs.Math.Nat.{div-mul-le_self, div-eq_of_lt, mod-eq_of_lt}
use Rattle.std.proofs.lemmas.List.{take-append-le, take_more, map-append, length-append, length-map, length-take-le, take_all, get_or-set_same, get_or-set_other}
use Rattle.std.proofs.lemmas.List.Elements.{filter-append}
use Rattle.std.proofs.lemmas.Option.{slice_get_within, get_or_from_slice_get}
use Rattle.std.proofs.lemmas.Bool.Decides.{nat_tests}
use Rattle.std.proofs.lemmas.List.Sums.{length-filter, sum_by_more, sum_by-append, sum_by-take-le}
use Rattle.base16.specs.declared.reading.Reading.{Reading}
use Rattle.base16.specs.declared.reading.Reading.TheVariants.{Sense, Clock}
use Rattle.world.specs.Plan.{Plan, IsPlan, ticks_of, off_of}
use Rattle.world.specs.World.{IsLawful, Wakes}
use Rattle.world.proofs.ReadingsLemmas.{readings_sense, readings_clock, last_sense, last_clock}
use Rattle.world.specs.TraceWorld.{is_of, given_of, next_value, AreNext, clock_at, cycle_of, AreClocks, AreBegun, Follows, world_of, Kept}
use Rattle.world.specs.declared.cycle.PowerCycle.{PowerCycle}

-- one more than a number: the quotient is the same, or one more where the remainder was the last
pub div-next : (n r : ℕ) → n % r + 1 < r → ((n + 1) / r ≡ n / r) × ((n + 1) % r ≡ n % r + 1)
div-next n r h =
    let e : n + 1 ≡ n / r * r + (n % r + 1) = omega (arith, div-add-mod' n r) in
    let q : (n + 1) / r ≡ n / r = ap (λ (x : ℕ). x / r) e ∙ div-mul-add (n / r) r (n % r + 1) h in
    (q, omega (arith, div-add-mod' n r, div-add-mod' (n + 1) r, ap (λ (x : ℕ). x * r) q))

pub div-wrap : (n r : ℕ) → n % r + 1 ≡ r → ((n + 1) / r ≡ n / r + 1) × ((n + 1) % r ≡ 0)
div-wrap n r h =
    let e : n + 1 ≡ (n / r + 1) * r + 0 = omega (arith, div-add-mod' n r) in
    let pos : 0 < r = omega arith in
    let q : (n + 1) / r ≡ n / r + 1 = ap (λ (x : ℕ). x / r) e ∙ div-mul-add (n / r + 1) r 0 pos in
    (q, omega (arith, div-add-mod' n r, div-add-mod' (n + 1) r, ap (λ (x : ℕ). x * r) q))

pub div-mono : (m n r : ℕ) → 0 < r → m ≤ n → m / r ≤ n / r
div-mono m n r pos h = le-div (m / r) n r pos (omega (arith, div-mul-le_self m r))

-- a list with one element more, up to a place
take_before : {A : Type 0} (xs : List A) (x : A) (i : ℕ) → i ≤ length xs → take i (xs ++ x ∷ []) ≡ take i xs
take_before xs x i h = take-append-le i xs (x ∷ []) h

get_push : {A : Type 0} (xs : List A) (x y : A) (i : ℕ) → slice_get (xs ++ x ∷ []) i ≡ Some y
    → ((i < length xs) × (slice_get xs i ≡ Some y)) ⊎ ((i ≡ length xs) × (x ≡ y))
get_push [] x y zero h = inr (refl, cc)
get_push [] x y (suc i) h = cc
get_push (z ∷ xs) x y zero h = inl (omega arith, h)
get_push (z ∷ xs) x y (suc i) h = elim (get_push xs x y i h) [
  | inl p ↦ inl (
    omega (arith, p.0),
    p.1,
  )
  | inr p ↦ inr (ap suc p.0, p.1)
]

-- a value more of a channel
given_push : (channel : ℕ) (rs : List Reading) (r : Reading)
    → given_of channel (rs ++ r ∷ []) ≡ given_of channel rs + given_of channel (r ∷ [])
given_push channel rs r =
    sym (length-filter (is_of channel) (rs ++ r ∷ [])) ∙ ap length (filter-append (is_of channel) rs (r ∷ []))
    ∙ length-append (filter (is_of channel) rs) (filter (is_of channel) (r ∷ []))
    ∙ ap (λ (n : ℕ). n + length (filter (is_of channel) (r ∷ []))) (length-filter (is_of channel) rs)
    ∙ ap (λ (n : ℕ). given_of channel rs + n) (length-filter (is_of channel) (r ∷ []))

zeros : (n i : ℕ) → get_or {A = ℕ} (replicate {A = ℕ} n 0) i 0 ≡ zero
zeros zero i = refl
zeros (suc n) zero = refl
zeros (suc n) (suc i) = zeros n i

given_same : (channel value : ℕ) → given_of channel (Sense channel value ∷ []) ≡ 1
given_same channel value = grind (arith, nat_tests)

given_other : (q channel value : ℕ) → q ≢ channel → given_of q (Sense channel value ∷ []) ≡ 0
given_other q channel value h = grind (arith, nat_tests)

taken_push : (k : List ℕ) (rs : List Reading) (channel value : ℕ) → channel < length k
    → ((q : ℕ) → q < 16 → get_or k q 0 ≡ given_of q rs)
    → (q : ℕ) → q < 16 → (q ≡ channel) ⊎ (q ≢ channel) → get_or (set k channel (get_or k channel 0 + 1)) q 0
    ≡ given_of q (rs ++ Sense channel value ∷ [])
taken_push k rs channel value within h q small (inl e) =
    let here : get_or (set k channel (get_or k channel 0 + 1)) q 0 ≡ get_or k channel 0 + 1 =
    subst (λ (n : ℕ). get_or (set k channel (get_or k channel 0 + 1)) n 0 ≡ get_or k channel 0 + 1) (sym e)
    (get_or-set_same k channel (get_or k channel 0 + 1) 0 within) in
    let one : given_of q (Sense channel value ∷ []) ≡ 1 = subst (λ (n : ℕ). given_of q (Sense n value ∷ []) ≡ 1) e
    (given_same q value) in
    let was : get_or k channel 0 ≡ given_of q rs = subst (λ (n : ℕ). get_or k n 0 ≡ given_of q rs) e (h q small) in
    omega (arith, here, one, was, given_push q rs (Sense channel value))
taken_push k rs channel value within h q small (inr ne) =
    omega (
      arith,
      get_or-set_other k channel q (get_or k channel 0 + 1) 0 ne,
      given_other q channel value ne,
      h q small,
      given_push q rs (Sense channel value),
    )

same_or_not : (a b : ℕ) → (a ≡ b) ⊎ (a ≢ b)
same_or_not a b = grind arith

given_clock : (q : ℕ) (rs : List Reading) (ms : ℕ) → given_of q rs ≡ given_of q (rs ++ Clock ms ∷ [])
given_clock q rs ms = omega (arith, given_push q rs (Clock ms))

-- a sensor reading more
next_push : (p : Plan) (rs : List Reading) (channel value : ℕ) → value ≡ next_value p rs channel → AreNext p rs
    → AreNext p (rs ++ Sense channel value ∷ [])
next_push p rs channel value is h i ch v at =
    elim (get_push rs (Sense channel value) (Sense ch v) i at) [
      | inl q ↦ h i ch v q.1 ∙ ap (λ (zs : List Reading). next_value p zs ch)
          (sym (take_before rs (Sense channel value) i (omega (arith, q.0))))
      | inr q ↦
          let same : channel ≡ ch = (let e = q.1 in cc) in
          let equal : v ≡ value = (let e = q.1 in cc) in
          let all : take i (rs ++ Sense channel value ∷ []) ≡ rs = take_before rs (Sense channel value) i (omega (arith, q.0))
          ∙ take_all i rs (omega (arith, q.0)) in
          equal ∙ is ∙ ap (λ (n : ℕ). next_value p rs n) same ∙ ap (λ (zs : List Reading). next_value p zs ch) (sym all)
    ]

next_clock : (p : Plan) (rs : List Reading) (ms : ℕ) → AreNext p rs → AreNext p (rs ++ Clock ms ∷ [])
next_clock p rs ms h i ch v at =
    elim (get_push rs (Clock ms) (Sense ch v) i at) [
      | inl q ↦ h i ch v q.1 ∙ ap (λ (zs : List Reading). next_value p zs ch)
          (sym (take_before rs (Clock ms) i (omega (arith, q.0))))
      | inr q ↦ absurd (let e = q.1 in cc)
    ]

-- a clock reading more
clocks_sense : (p : Plan) (s : ℕ) (rs : List Reading) (ts fs : List ℕ) (channel value : ℕ) → length ts ≡ length rs
    → AreClocks p rs ts fs → AreClocks p (rs ++ Sense channel value ∷ []) (ts ++ s ∷ []) fs
clocks_sense p s rs ts fs channel value long h i ms t at told =
    elim (get_push rs (Sense channel value) (Clock ms) i at) [
      | inl q ↦ elim (get_push ts s t i told) [ inl r ↦ h i ms t q.1 r.1 | inr r ↦ absurd (omega (arith, q.0, r.0, long)) ]
      | inr q ↦ absurd (let e = q.1 in cc)
    ]

all_begun : (firsts : List ℕ) (given : ℕ) → AreBegun firsts given → cycle_of firsts given ≡ length firsts
all_begun [] given h = refl
all_begun (n ∷ firsts) given h =
    let e : ◌≡◌ {A = ℕ} (cycle_of (n ∷ firsts) given) (cycle_of (n ∷ []) given + cycle_of firsts given) =
    sum_by-append (λ x. cond (nat_le x given) 1 0) (n ∷ []) firsts in
    omega (arith, one_before n given h.0, e, all_begun firsts given h.1)
  where
    one_before : (n given : ℕ) → n ≤ given → ◌≡◌ {A = ℕ} (cycle_of (n ∷ []) given) 1
    one_before n given h = grind (arith, nat_tests)

begun_later : (firsts : List ℕ) (g k : ℕ) → g ≤ k → AreBegun firsts g → AreBegun firsts k
begun_later [] g k le h = tt
begun_later (n ∷ firsts) g k le h = (omega (arith, le, h.0), begun_later firsts g k le h.1)

begun_one : (firsts : List ℕ) (g : ℕ) → AreBegun firsts g → AreBegun (firsts ++ g ∷ []) g
begun_one [] g h = (omega arith, tt)
begun_one (n ∷ firsts) g h = (h.0, begun_one firsts g h.1)

clocks_now : (p : Plan) (s c : ℕ) (rs : List Reading) (ts fs : List ℕ) → length ts ≡ length rs → AreBegun fs (length rs)
    → c ≡ clock_at p s (length fs) → AreClocks p rs ts fs → AreClocks p (rs ++ Clock c ∷ []) (ts ++ s ∷ []) fs
clocks_now p s c rs ts fs long begun is h i ms t at told =
    elim (get_push rs (Clock c) (Clock ms) i at) [
      | inl q ↦ elim (get_push ts s t i told) [ inl r ↦ h i ms t q.1 r.1 | inr r ↦ absurd (omega (arith, q.0, r.0, long)) ]
      | inr q ↦ elim (get_push ts s t i told) [
        | inl r ↦ absurd (omega (arith, q.0, r.0, long))
        | inr r ↦
            let same : c ≡ ms = (let e = q.1 in cc) in
            sym same ∙ is ∙ ap (λ n. clock_at p n (length fs)) r.1
            ∙ ap (clock_at p t) (sym (ap (cycle_of fs) q.0 ∙ all_begun fs (length rs) begun))
      ]
    ]

one_later : (g i : ℕ) → i < g → ◌≡◌ {A = ℕ} (cycle_of (g ∷ []) i) 0
one_later g i h = grind (arith, nat_tests)

clocks_wake : (p : Plan) (rs : List Reading) (ts fs : List ℕ) → AreClocks p rs ts fs → AreClocks p rs ts (fs ++ length rs ∷ [])
clocks_wake p rs ts fs h i ms t at told =
    let within : i < length rs = slice_get_within rs i (Clock ms) at in
    let e : cycle_of (fs ++ length rs ∷ []) i ≡ cycle_of fs i = sum_by-append (λ n. cond (nat_le n i) 1 0) fs (length rs ∷ [])
    ∙ omega (arith, one_later (length rs) i within) in
    h i ms t at told ∙ ap (clock_at p t) (sym e)

pub kept_new : (p : Plan) → IsPlan p → Kept p 0 0 0 p.start p.rate (replicate 16 0) [] [] []
kept_new p h = record {
  plan = h;
  begun = omega arith;
  power = omega arith;
  clock = omega (arith, div-eq_of_lt h.rate);
  until = omega (arith, mod-eq_of_lt h.rate);
  given = omega arith;
  timed = refl;
  taken = λ channel small. zeros 16 channel;
  senses = λ i channel value at. cc;
  clocks = λ i ms spent at told. cc;
  firsts = refl;
  before = tt;
  readings = tt;
  last = omega arith;
}

pub kept_tick : (p : Plan) (b s l c u : ℕ) (k : List ℕ) (rs : List Reading) (ts fs : List ℕ) → 0 < l → 1 < u
    → Kept p b s l c u k rs ts fs → Kept p b (s + 1) (l - 1) c (u - 1) k rs ts fs
kept_tick p b s l c u k rs ts fs pos more h =
    let d = div-next s p.rate (omega (arith, h.until)) in
    record {
      plan = h.plan;
      begun = h.begun;
      power = omega (arith, h.power);
      clock = h.clock ∙ ap (λ (n : ℕ). p.start + n + off_of (take (b - 1) p.cycles)) (sym d.0);
      until = omega (arith, h.until, d.1);
      given = omega (arith, h.given);
      timed = h.timed;
      taken = h.taken;
      senses = h.senses;
      clocks = h.clocks;
      firsts = h.firsts;
      before = h.before;
      readings = h.readings;
      last = omega (arith, h.last);
    }

pub kept_turn : (p : Plan) (b s l c u r : ℕ) (k : List ℕ) (rs : List Reading) (ts fs : List ℕ) → 0 < l → u ≤ 1 → r ≡ p.rate
    → Kept p b s l c u k rs ts fs → Kept p b (s + 1) (l - 1) (c + 1) r k rs ts fs
kept_turn p b s l c u r k rs ts fs pos low is h =
    let one : u ≡ 1 = omega (arith, h.until, h.plan.rate) in
    let d = div-wrap s p.rate (omega (arith, h.until, one)) in
    record {
      plan = h.plan;
      begun = h.begun;
      power = omega (arith, h.power);
      clock = omega (arith, h.clock, d.0);
      until = omega (arith, d.1, is);
      given = omega (arith, h.given);
      timed = h.timed;
      taken = h.taken;
      senses = h.senses;
      clocks = h.clocks;
      firsts = h.firsts;
      before = h.before;
      readings = h.readings;
      last = omega (arith, h.last);
    }

pub kept_sense : (p : Plan) (b s l c u channel value : ℕ) (k : List ℕ) (rs : List Reading) (ts fs : List ℕ) → channel < 16
    → value < 2 ^ 16 → channel < length k
    → length rs < s → value ≡ next_value p rs channel
    → Kept p b s l c u k rs ts fs → Kept p b s l c u (set k channel (get_or k channel 0 + 1)) (rs ++ Sense channel value ∷ [])
    (ts ++ s ∷ []) fs
kept_sense p b s l c u channel value k rs ts fs small word within room is h = record {
  plan = h.plan;
  begun = h.begun;
  power = h.power;
  clock = h.clock;
  until = h.until;
  given = omega (arith, length-append rs (Sense channel value ∷ []));
  timed = omega (arith, h.timed, length-append rs (Sense channel value ∷ []), length-append ts (s ∷ []));
  taken = λ q below. taken_push k rs channel value within h.taken q below (same_or_not q channel);
  senses = next_push p rs channel value is h.senses;
  clocks = clocks_sense p s rs ts fs channel value h.timed h.clocks;
  firsts = h.firsts;
  before = begun_later fs (length rs) (length (rs ++ Sense channel value ∷ [])) (omega (
    arith,
    length-append rs (Sense channel value ∷ []),
  )) h.before;
  readings = readings_sense 0 rs channel value small word h.readings;
  last = omega (arith, last_sense 0 rs channel value, h.last);
}

-- the clock is below 2^31
clock_below : (p : Plan) (b s l c u : ℕ) (k : List ℕ) (rs : List Reading) (ts fs : List ℕ) → Kept p b s l c u k rs ts fs
    → c < 2 ^ 31
clock_below p b s l c u k rs ts fs h =
    let total : ticks_of (take b p.cycles) ≤ ticks_of p.cycles = sum_by-take-le (λ (x : PowerCycle). x.ticks) p.cycles b in
    let off : off_of (take (b - 1) p.cycles) ≤ off_of p.cycles = sum_by-take-le (λ (x : PowerCycle). x.off) p.cycles (b - 1) in
    let below : s / p.rate ≤ ticks_of p.cycles / p.rate = div-mono s (ticks_of p.cycles) p.rate h.plan.rate (omega (
      arith,
      h.power,
      total,
    )) in
    omega (arith, h.clock, off, below, h.plan.clock)

pub kept_now : (p : Plan) (b s l c u : ℕ) (k : List ℕ) (rs : List Reading) (ts fs : List ℕ) → length rs < s
    → Kept p b s l c u k rs ts fs → Kept p b s l c u k (rs ++ Clock c ∷ []) (ts ++ s ∷ []) fs
kept_now p b s l c u k rs ts fs room h = record {
  plan = h.plan;
  begun = h.begun;
  power = h.power;
  clock = h.clock;
  until = h.until;
  given = omega (arith, length-append rs (Clock c ∷ []));
  timed = omega (arith, h.timed, length-append rs (Clock c ∷ []), length-append ts (s ∷ []));
  taken = λ q below. h.taken q below ∙ given_clock q rs c;
  senses = next_clock p rs c h.senses;
  clocks = clocks_now p s c rs ts fs h.timed h.before (h.clock ∙ ap (clock_at p s) (sym h.firsts)) h.clocks;
  firsts = h.firsts;
  before = begun_later fs (length rs) (length (rs ++ Clock c ∷ [])) (omega (arith, length-append rs (Clock c ∷ []))) h.before;
  readings = readings_clock 0 rs c (clock_below p b s l c u k rs ts fs h) h.last h.readings;
  last = omega (arith, last_clock 0 rs c);
}

pub kept_wake : (p : Plan) (b s l c u off : ℕ) (cycle : PowerCycle) (k : List ℕ) (rs : List Reading) (ts fs : List ℕ)
    → slice_get p.cycles b ≡ Some cycle → off_of (take b p.cycles) ≡ off_of (take (b - 1) p.cycles) + off
    → Kept p b s l c u k rs ts fs → Kept p (b + 1) s cycle.ticks (c + off) u k rs ts (fs ++ length rs ∷ [])
kept_wake p b s l c u off cycle k rs ts fs at is h =
    let within : b < length p.cycles = slice_get_within p.cycles b cycle at in
    let last : get_or p.cycles b cycle ≡ cycle = get_or_from_slice_get p.cycles b cycle cycle at in
    let ticks : (get_or p.cycles b cycle).ticks ≡ cycle.ticks = ap (λ (x : PowerCycle). x.ticks) last in
    let e : b + 1 - 1 ≡ b = omega arith in
    record {
      plan = h.plan;
      begun = omega (arith, within);
      power = omega (arith, h.power, sum_by_more (λ (x : PowerCycle). x.ticks) p.cycles b cycle within, ticks);
      clock = omega (arith, h.clock, is, ap (λ (n : ℕ). off_of (take n p.cycles)) e);
      until = h.until;
      given = h.given;
      timed = h.timed;
      taken = h.taken;
      senses = h.senses;
      clocks = clocks_wake p rs ts fs h.clocks;
      firsts = omega (arith, length-append fs (length rs ∷ []), h.firsts);
      before = begun_one fs (length rs) h.before;
      readings = h.readings;
      last = omega (arith, h.last);
    }

pub kept_lawful : (p : Plan) (b s l c u : ℕ) (k : List ℕ) (rs : List Reading) (ts fs : List ℕ) → Kept p b s l c u k rs ts fs
    → IsLawful (world_of p b s l c rs ts fs)
kept_lawful p b s l c u k rs ts fs h =
    let total : ticks_of (take b p.cycles) ≤ ticks_of p.cycles = sum_by-take-le (λ (x : PowerCycle). x.ticks) p.cycles b in
    record {
      spent = omega (arith, h.power, total, h.plan.ticks);
      clock = clock_below p b s l c u k rs ts fs h;
      cycles = omega (arith, h.plan.cycles);
      given = h.given;
      timed = h.timed;
      readings = h.readings;
      last = h.last;
    }

pub kept_follows : (p : Plan) (b s l c u : ℕ) (k : List ℕ) (rs : List Reading) (ts fs : List ℕ) → Kept p b s l c u k rs ts fs
    → Follows (world_of p b s l c rs ts fs)
kept_follows p b s l c u k rs ts fs h =
    let e : length (map (λ (x : PowerCycle). x.ticks) (take b p.cycles)) ≡ b =
    length-map (take b p.cycles) (λ (x : PowerCycle). x.ticks) ∙ length-take-le b p.cycles h.begun in
    record {
      plan = h.plan;
      period = refl;
      cycles = omega (arith, e, h.begun);
      spans = ap (λ (n : ℕ). map (λ (x : PowerCycle). x.ticks) (take n p.cycles)) (sym e);
      power = subst (λ (n : ℕ). s + l ≤ ticks_of (take n p.cycles)) (sym e) h.power;
      clock = h.clock ∙ ap (λ (n : ℕ). clock_at p s n) (sym e);
      senses = h.senses;
      firsts = h.firsts ∙ sym e;
      clocks = h.clocks;
    }

-- the clock after one off time more is below 2^31
pub clock_after : (p : Plan) (b s l c u off : ℕ) (k : List ℕ) (rs : List Reading) (ts fs : List ℕ) → b ≤ length p.cycles
    → off_of (take b p.cycles) ≡ off_of (take (b - 1) p.cycles) + off
    → Kept p b s l c u k rs ts fs → c + off < 2 ^ 31
clock_after p b s l c u off k rs ts fs within is h =
    let total : ticks_of (take b p.cycles) ≤ ticks_of p.cycles = sum_by-take-le (λ (x : PowerCycle). x.ticks) p.cycles b in
    let all : off_of (take b p.cycles) ≤ off_of p.cycles = sum_by-take-le (λ (x : PowerCycle). x.off) p.cycles b in
    let below : s / p.rate ≤ ticks_of p.cycles / p.rate = div-mono s (ticks_of p.cycles) p.rate h.plan.rate (omega (
      arith,
      h.power,
      total,
    )) in
    omega (arith, h.clock, all, is, below, h.plan.clock)

-- the off time of the last of these cycles
pub off_last : (cycles : List PowerCycle) (b : ℕ) (cycle : PowerCycle) → 0 < b → slice_get cycles (b - 1) ≡ Some cycle
    → off_of (take b cycles) ≡ off_of (take (b - 1) cycles) + cycle.off
off_last cycles b cycle pos at =
    let within : b - 1 < length cycles = slice_get_within cycles (b - 1) cycle at in
    let last : (get_or cycles (b - 1) cycle).off ≡ cycle.off =
    ap (λ (x : PowerCycle). x.off) (get_or_from_slice_get cycles (b - 1) cycle cycle at) in
    let e : b - 1 + 1 ≡ b = omega arith in
    omega (
      arith,
      sum_by_more (λ (x : PowerCycle). x.off) cycles (b - 1) cycle within,
      last,
      ap (λ (n : ℕ). off_of (take n cycles)) e,
    )

-- one power cycle more has begun
pub wakes : (p : Plan) (b s l c off : ℕ) (cycle : PowerCycle) (rs : List Reading) (ts fs : List ℕ)
    → slice_get p.cycles b ≡ Some cycle → Wakes (world_of p b s l c rs ts fs)
    (world_of p (b + 1) s cycle.ticks (c + off) rs ts (fs ++ length rs ∷ []))
wakes p b s l c off cycle rs ts fs at =
    let within : b < length p.cycles = slice_get_within p.cycles b cycle at in
    let last : get_or p.cycles b cycle ≡ cycle = get_or_from_slice_get p.cycles b cycle cycle at in
    let ticks : PowerCycle → ℕ = λ x. x.ticks in
    let front : take (b + 1) p.cycles ≡ take b p.cycles ++ cycle ∷ [] = take_more p.cycles b cycle within
    ∙ ap (λ (x : PowerCycle). take b p.cycles ++ x ∷ []) last in
    record {
      plan = refl;
      cycles = omega (arith, within);
      spans = ap (map ticks) front ∙ map-append ticks (take b p.cycles) (cycle ∷ []);
      later = omega arith;
      spent = refl;
      period = refl;
      readings = refl;
      times = refl;
      firsts = refl;
    }

-- How much a service takes at most.
use Rattle.std.proofs.Common.{◌≡◌, ℕ, ◌+◌, ◌*◌, ◌≤◌, Bool, true, false, nat_lt, min, subst, sym, refl, arith, Option, Some, None, List, [], ◌∷◌, length, if◌then◌else◌}
use Rattle.base16.specs.declared.end.EndKind.{EndKind}
use Rattle.world.specs.World.{WorldState}
use Rattle.core430.specs.Registers.{view_of}
use Rattle.board_map.specs.Map.{count_of}
use Rattle.board_map.specs.declared.work.Work.{Work}
use Rattle.ideal430.specs.Costs.{is_logged, stores_ticks, stores_entries, effect_ticks, effect_entries, commit_ticks}
use Rattle.ideal430.specs.Service.{Effect, Deed, Refuses, Does, OnDoes, popped, has_place, is_linked, own_effect, is_built, service_at, refusal_of, deed_if, deed_if_built, deed_at}
use Rattle.ideal430.specs.declared.service.Service.{Service}
use Rattle.ideal430.specs.declared.service.Service.TheVariants.{Halt, Enter, Leave, Turn, StoreWord, StoreByte, StampWord, StampByte, Sense, Emit, Open, Check, Close, Timely, Checkpoint}
use Rattle.ideal430.specs.declared.service.Store.{Store}
use Rattle.ideal430.proofs.Effects.{no-built}
use Rattle.ideal430.proofs.Serving.{service_at-built}
use Rattle.services.specs.Bounds.{IsShort, SpendsFew}
use Rattle.services.specs.Serving.{due_at, ticks_at, committed_of, deed_found, ended, answer_of, OnPower, OnCommit, committed_in, Serves}
use Rattle.services.specs.declared.serving.Served.{Served}
use Rattle.services.specs.declared.serving.Served.TheVariants as served_as

-- ---- a store takes four ticks and makes one entry at most

few-ticks : (segment : ℕ) (stores : List Store) → stores_ticks segment false stores ≤ 4 * length stores
few-ticks segment [] = omega arith
few-ticks segment (s ∷ rest) = by (is_logged segment s) (few-ticks segment rest)
  where
    by : (b : Bool) → stores_ticks segment false rest ≤ 4 * length rest
        → (if b then 4 else 1) + 0 + stores_ticks segment false rest ≤ 4 * length (s ∷ rest)
    by true h = omega arith
    by false h = omega arith

few-entries : (segment : ℕ) (stores : List Store) → stores_entries segment stores ≤ length stores
few-entries segment [] = omega arith
few-entries segment (s ∷ rest) = by (is_logged segment s) (few-entries segment rest)
  where
    by : (b : Bool) → stores_entries segment rest ≤ length rest
        → (if b then 1 else 0) + stores_entries segment rest ≤ length (s ∷ rest)
    by true h = omega arith
    by false h = omega arith

-- ---- no service that is built makes more than two stores

if-two : (c : Bool) (e f : Effect) → length e.stores ≤ 2 → length f.stores ≤ 2 → length (if c then e else f).stores ≤ 2
if-two true e f h k = h
if-two false e f h k = k

none : 0 ≤ 2
none = omega arith

one : 1 ≤ 2
one = omega arith

own_effect-two : (service : Service) (value : ℕ) (r m : ℕ → ℕ) (segment : ℕ) → is_built service ≡ true
    → length (own_effect service value r m segment None).stores ≤ 2
own_effect-two Halt value r m segment built = none
own_effect-two Enter value r m segment built = if-two (has_place segment (r 1) (r 15)) _ _ none one
own_effect-two Leave value r m segment built = if-two (is_linked segment (r 1 + r 15)) _ _ none none
own_effect-two Turn value r m segment built = none
own_effect-two StoreWord value r m segment built = one
own_effect-two StoreByte value r m segment built = one
own_effect-two StampWord value r m segment built = no-built built
own_effect-two StampByte value r m segment built = no-built built
own_effect-two Sense value r m segment built = none
own_effect-two Emit value r m segment built = omega arith
own_effect-two Open value r m segment built = no-built built
own_effect-two Check value r m segment built = no-built built
own_effect-two Close value r m segment built = no-built built
own_effect-two Timely value r m segment built = no-built built
own_effect-two Checkpoint value r m segment built = none

short : (segment : ℕ) (e : Effect) → length e.stores ≤ 2 → IsShort segment e
short segment e h =
    let t : stores_ticks segment false e.stores ≤ 4 * length e.stores = few-ticks segment e.stores in
    let n : stores_entries segment e.stores ≤ length e.stores = few-entries segment e.stores in
    record { ticks = omega arith; entries = omega arith }

deed_if-short : (o : Option EndKind) (segment : ℕ) (e : Effect) → length e.stores ≤ 2
    → OnDoes (deed_if o e) (λ e. IsShort segment e)
deed_if-short None segment e h = short segment e h
deed_if-short (Some kind) segment e h = tt

pub deed-short : (n value : ℕ) (r m : ℕ → ℕ) (segment : ℕ)
    → OnDoes (deed_at n value r m segment None) (λ e. IsShort segment e)
deed-short n value r m segment = by (service_at n) refl
  where
    by : (o : Option Service) → service_at n ≡ o
        → OnDoes (deed_if_built o n value r m segment None) (λ e. IsShort segment e)
    by None is = tt
    by (Some service) is = deed_if-short (refusal_of service r m segment None) segment _
        (own_effect-two service value (popped r m) m segment (service_at-built n service is))

-- ---- what a service spends

answer-spends : (ends due : Bool) (log ticks left spent spent2 : ℕ) → ticks ≤ 8
    → spent2 ≡ spent + min left (ticks + (if due then commit_ticks else 0))
    → OnPower (ended ends (committed_of due log))
    (OnCommit (committed_in (ended ends (committed_of due log))) (Unit {0}) (spent2 ≤ spent + 8))
answer-spends true true log ticks left spent spent2 h e = tt
answer-spends true false log ticks left spent spent2 h e = omega arith
answer-spends false true log ticks left spent spent2 h e = tt
answer-spends false false log ticks left spent spent2 h e = omega arith

whole-spends : (due : Bool) (ticks left spent spent2 : ℕ) → ticks ≤ 8
    → spent2 ≡ spent + min left (ticks + (if due then commit_ticks else 0)) → spent2 ≤ spent + (8 + 155)
whole-spends true ticks left spent spent2 h e = omega arith
whole-spends false ticks left spent spent2 h e = omega arith

deed-spends : (d : Deed) (work : Work) (world world2 : WorldState) (entries : ℕ)
    → OnDoes d (λ e. IsShort work.segment e)
    → world2.spent ≡ world.spent + min world.left (ticks_at d work world entries)
    → SpendsFew (answer_of d work world entries) world world2
deed-spends (Refuses kind) work world world2 entries few h = record {
  alone = omega arith;
  whole = omega arith;
}
deed-spends (Does e) work world world2 entries few h = record {
  alone = by (nat_lt world.left (ticks_at (Does e) work world entries));
  whole = whole-spends (due_at e work world entries) (effect_ticks work.segment None e) world.left world.spent world2.spent
      few.ticks h;
}
  where
    by : (b : Bool) → OnPower (if b then served_as.Off else ended e.ends
        (committed_of (due_at e work world entries) (entries + effect_entries work.segment e)))
        (OnCommit (committed_in (if b then served_as.Off else ended e.ends
        (committed_of (due_at e work world entries) (entries + effect_entries work.segment e)))) (Unit {0}) (world2.spent ≤ world.spent + 8))
    by true = tt
    by false = answer-spends e.ends (due_at e work world entries) (entries + effect_entries work.segment e)
        (effect_ticks work.segment None e) world.left world.spent world2.spent few.ticks h

pub spends : (n : ℕ) (registers registers2 : List ℕ) (m m2 : ℕ → ℕ) (work work2 : Work) (world world2 : WorldState)
    (answer : Served) → Serves n registers m work world answer registers2 m2 work2 world2 → SpendsFew answer world world2
spends n registers registers2 m m2 work work2 world world2 answer h =
    subst (λ a. SpendsFew a world world2) (sym h.answers)
    (deed-spends (deed_found n h.value registers m work) work world world2 (count_of m)
    (deed-short n h.value (view_of registers) m work.segment) h.passes.spent)

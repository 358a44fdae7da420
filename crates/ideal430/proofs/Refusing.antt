-- How a service is refused, and what holds where it is not.
use Rattle.std.proofs.Common.{◌≡◌, ℕ, ◌+◌, ◌%◌, ◌<◌, ◌≤◌, Bool, true, false, not, nat_lt, Option, Some, None, refl, sym, ◌∙◌, subst, arith, if◌then◌else◌}
use Rattle.std.proofs.lemmas.Bool.Decides.{nat_tests}
use Rattle.base16.specs.Board.{segment_top}
use Rattle.base16.specs.declared.end.EndKind.{EndKind}
use Rattle.base16.specs.declared.end.EndKind.TheVariants.{OutputFull}
use Rattle.ideal430.specs.Service.{Block, Effect, own_effect, popped, has_stack, is_frame, is_bad_link, wild_where, own_wild, wild_of, own_full, refusal_or, refusal_of, outputs_of, full_block}
use Rattle.ideal430.specs.declared.service.Service.{Service}
use Rattle.ideal430.specs.declared.service.Service.TheVariants.{Enter, Leave, Emit}

-- SP is right, so the service's own causes count
pub wild_of-own : (service known : Service) (r m : ℕ → ℕ) (segment : ℕ) (block : Block) (holds : Bool) (o : Option ℕ)
    → o ≡ wild_where holds (r 1) None → has_stack segment (r 1) ≡ true → service ≡ known
    → own_wild known r m segment block ≡ wild_where holds (r 1) None → o ≡ wild_of service r m segment block
wild_of-own service known r m segment block holds o is stack same own =
    subst (λ (x : Service). o ≡ wild_of x r m segment block) (sym same)
    (subst (λ (b : Bool). o ≡ wild_where (not b) (r 1) (own_wild known r m segment block)) (sym stack) (is ∙ sym own))

-- ---- what is not refused

pub not_some : {A : Type 0} {x : A} → Some x ≡ None → ⊥
not_some h = cc

pub wild_where-first : (b : Bool) (a : ℕ) (rest : Option ℕ) → wild_where b a rest ≡ None → b ≡ false
wild_where-first true a rest h = absurd (not_some h)
wild_where-first false a rest h = refl

pub wild_where-rest : (b : Bool) (a : ℕ) (rest : Option ℕ) → wild_where b a rest ≡ None → rest ≡ None
wild_where-rest true a rest h = absurd (not_some h)
wild_where-rest false a rest h = h

pub not-false : (b : Bool) → not b ≡ false → b ≡ true
not-false true h = refl
not-false false h = cc

refusal_or-wild : (o : Option ℕ) (full : Option EndKind) → refusal_or o full ≡ None → o ≡ None
refusal_or-wild None full h = refl
refusal_or-wild (Some a) full h = absurd (not_some h)

refusal_or-full : (o : Option ℕ) (full : Option EndKind) → refusal_or o full ≡ None → full ≡ None
refusal_or-full None full h = h
refusal_or-full (Some a) full h = absurd (not_some h)

pub wild_of-stack : (service : Service) (r m : ℕ → ℕ) (segment : ℕ) (block : Block)
    → wild_of service r m segment block ≡ None → has_stack segment (r 1) ≡ true
wild_of-stack service r m segment block h = not-false _ (wild_where-first _ (r 1) (own_wild service r m segment block) h)

-- a service that is not refused is not Wild, and there is place for what it makes
pub record Allowed (service : Service) (r m : ℕ → ℕ) (segment : ℕ) (block : Block) : Type 0 where
  pub stack : has_stack segment (r 1) ≡ true
  pub own : own_wild service r m segment block ≡ None
  pub full : own_full service (popped r m) m segment block ≡ None

pub allowed_of : (service known : Service) (r m : ℕ → ℕ) (segment : ℕ) (block : Block) → service ≡ known
    → refusal_of service r m segment block ≡ None → Allowed known r m segment block
allowed_of service known r m segment block e h = subst (λ (x : Service). Allowed x r m segment block) e (record {
  stack = wild_of-stack service r m segment block (refusal_or-wild _ (own_full service (popped r m) m segment block) h);
  own = wild_where-rest _ (r 1) _ (refusal_or-wild _ (own_full service (popped r m) m segment block) h);
  full = refusal_or-full (wild_of service r m segment block) _ h;
})

-- ---- the services with causes of their own

pub enter-frame : (r m : ℕ → ℕ) (segment : ℕ) (block : Block) → Allowed Enter r m segment block → is_frame (r 15) ≡ true
enter-frame r m segment block h = not-false _ (wild_where-first _ (r 1) _ h.own)

pub leave-frame : (r m : ℕ → ℕ) (segment : ℕ) (block : Block) → Allowed Leave r m segment block → is_frame (r 15) ≡ true
leave-frame r m segment block h = not-false _ (wild_where-first _ (r 1) _ h.own)

pub leave-end : (r m : ℕ → ℕ) (segment : ℕ) (block : Block) → Allowed Leave r m segment block
    → r 1 + 2 + r 15 + 2 ≤ segment_top segment
leave-end r m segment block h =
    at (wild_where-first _ (r 1) _ (wild_where-rest (not (is_frame (r 15))) (r 1) _ h.own))
  where
    at : nat_lt (segment_top segment) (r 1 + 2 + r 15 + 2) ≡ false → r 1 + 2 + r 15 + 2 ≤ segment_top segment
    at k = grind (arith, nat_tests)

pub leave-link : (r m : ℕ → ℕ) (segment : ℕ) (block : Block) → Allowed Leave r m segment block
    → is_bad_link m segment (r 1 + 2 + r 15) ≡ false
leave-link r m segment block h =
    wild_where-first _ (r 1) None
    (wild_where-rest (nat_lt (segment_top segment) (r 1 + 2 + r 15 + 2)) (r 1) _
    (wild_where-rest (not (is_frame (r 15))) (r 1) _ h.own))

pub frame-even : (bytes : ℕ) → is_frame bytes ≡ true → bytes % 2 ≡ 0
frame-even bytes h = grind (arith, nat_tests)

pub stack-even : (segment sp : ℕ) → has_stack segment sp ≡ true → sp % 2 ≡ 0
stack-even segment sp h = grind (arith, nat_tests)

pub leave-even : (r m : ℕ → ℕ) (segment : ℕ) (block : Block) → Allowed Leave r m segment block → (r 1 + 2 + r 15) % 2 ≡ 0
leave-even r m segment block h =
    let f = frame-even (r 15) (leave-frame r m segment block h) in
    let s = stack-even segment (r 1) h.stack in
    omega arith

pub emit-place : (r m : ℕ → ℕ) (segment : ℕ) (block : Block) → Allowed Emit r m segment block → outputs_of m < 256
emit-place r m segment block h = at (nat_lt (outputs_of m) 256) refl h.full
  where
    at : (b : Bool) → nat_lt (outputs_of m) 256 ≡ b → (if b then full_block block 2 else Some OutputFull) ≡ None
        → outputs_of m < 256
    at true e k = grind (arith, nat_tests)
    at false e k = absurd (not_some k)

-- ---- with the return word popped

pub record EnterReady (q : ℕ → ℕ) (segment : ℕ) : Type 0 where
  pub frame : is_frame (q 15) ≡ true
  pub top : q 1 ≤ segment_top segment
  pub place : (m : ℕ → ℕ) (block : Block) → own_full Enter q m segment block ≡ None

stack-top : (segment sp : ℕ) → has_stack segment sp ≡ true → sp + 2 ≤ segment_top segment
stack-top segment sp h =
    let e = stack-even segment sp h in
    let l : sp < segment_top segment = grind (arith, nat_tests) in
    omega arith

pub enter_ready : (service : Service) (r m q : ℕ → ℕ) (segment : ℕ) → service ≡ Enter → refusal_of service r m segment None ≡ None
    → q ≡ popped r m → EnterReady q segment
enter_ready service r m q segment e h p =
    let a = allowed_of service Enter r m segment None e h in
    subst (λ (f : ℕ → ℕ). EnterReady f segment) (sym p) (record {
      frame = enter-frame r m segment None a;
      top = stack-top segment (r 1) a.stack;
      place = λ m2 block. a.full;
    })

pub record LeaveReady (q m : ℕ → ℕ) (segment : ℕ) : Type 0 where
  pub even : (q 1 + q 15) % 2 ≡ 0
  pub end : q 1 + q 15 + 2 ≤ segment_top segment
  pub link : is_bad_link m segment (q 1 + q 15) ≡ false

pub leave_ready : (service : Service) (r m q : ℕ → ℕ) (segment : ℕ) → service ≡ Leave → refusal_of service r m segment None ≡ None
    → q ≡ popped r m → LeaveReady q m segment
leave_ready service r m q segment e h p =
    let a = allowed_of service Leave r m segment None e h in
    subst (λ (f : ℕ → ℕ). LeaveReady f m segment) (sym p) (record {
      even = leave-even r m segment None a;
      end = leave-end r m segment None a;
      link = leave-link r m segment None a;
    })

pub emit_ready : (service : Service) (r m : ℕ → ℕ) (segment : ℕ) → service ≡ Emit → refusal_of service r m segment None ≡ None
    → outputs_of m < 256
emit_ready service r m segment e h = emit-place r m segment None (allowed_of service Emit r m segment None e h)

pub own_effect-at : (service known : Service) (value : ℕ) (r m q : ℕ → ℕ) (segment : ℕ) (block : Block) (e : Effect)
    → service ≡ known
    → q ≡ popped r m → e ≡ own_effect known value q m segment block → e ≡ own_effect service value (popped r m) m segment block
own_effect-at service known value r m q segment block e same p is =
    subst (λ (x : Service). e ≡ own_effect x value (popped r m) m segment block) (sym same)
    (subst (λ (f : ℕ → ℕ). e ≡ own_effect known value f m segment block) p is)

-- Ticks of calls one after another.
use Rattle.std.proofs.Common.{◌≡◌, ℕ, ◌+◌, ◌-◌, ◌<◌, ◌≤◌, sym, ◌∙◌, ap, subst, arith, Result, Ok, Err}
use Rattle.fram.specs.Takes.{Takes}
use Rattle.world.specs.World.{WorldState, Spends, Spends-none, Spends-join}
use Rattle.world.specs.declared.outside.Off.{Off}

-- What came after n ticks and takes m took n + m from the beginning, also where it is Off.
pub takes_after : {T : Type 0} (n m : ℕ) (a b c : WorldState) (r : Result T Off) → Spends n a b → Takes m r b c
    → Takes (n + m) r a c
takes_after n m a b c (Ok x) h k = Spends-join h k
takes_after n m a b c (Err e) h k =
    let all : Spends (n + b.left) a c = Spends-join h k.2 in
    let left : n + b.left ≡ a.left = omega (arith, h.left) in
    (omega (arith, h.left, k.0), k.1, subst (λ i. Spends i a c) left all)

-- Off at once is Off of the whole.
pub off_before : (n m : ℕ) (a b : WorldState) → (a.left < n) × (b.left ≡ 0) × Spends a.left a b
    → (a.left < n + m) × (b.left ≡ 0) × Spends a.left a b
off_before n m a b k = (omega (arith, k.0), k.1, k.2)

-- Off after n ticks of a call that takes more.
pub takes_err : (a b c : WorldState) (n cost : ℕ) → Spends n a b → b.left ≡ 0 → c ≡ b → n < cost
    → (a.left < cost) × (c.left ≡ 0) × Spends a.left a c
takes_err a b c n cost h off e less =
    let l : n ≡ a.left = omega (arith, h.left) in
    (omega (arith, h.left), ap (λ (s : WorldState). s.left) e ∙ off, subst (λ k. Spends k a c) l (subst (Spends n a) (sym e) h))

-- A loop that counts down from e to 0, one tick a turn, has spent e - left.
pub spends_start : (s : WorldState) (n e : ℕ) → n + e ≡ e → Spends n s s
spends_start s n e h = let z : 0 ≡ n = omega arith in subst (λ k. Spends k s s) z (Spends-none s)

pub spends_step : (a b c : WorldState) (left k e n : ℕ) → left ≡ k + 1 → left ≤ e → ((n : ℕ) → n + left ≡ e → Spends n a b)
    → Spends 1 b c → n + k ≡ e → Spends n a c
spends_step a b c left k e n l within before one h =
    let z : (e - left) + 1 ≡ n = omega arith in
    let y : (e - left) + left ≡ e = omega arith in
    subst (λ k. Spends k a c) z (Spends-join (before (e - left) y) one)

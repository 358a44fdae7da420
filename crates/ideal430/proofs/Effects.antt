-- What the effects of the services that are built have in common.
use Rattle.std.proofs.Common.{◌≡◌, ℕ, ◌+◌, ◌-◌, ◌%◌, ◌<◌, Bool, true, false, not, ◌&&◌, ◌||◌, nat_eq, Some, None, [], ◌∷◌, refl, arith, if◌then◌else◌}
use Rattle.std.proofs.lemmas.Bool.Decides.{nat_tests}
use Rattle.base16.specs.declared.end.EndKind.TheVariants.{StackFull}
use Rattle.core430.specs.Registers.{set_reg}
use Rattle.ideal430.specs.Service.{Block, mark, popped, has_place, is_linked, is_bad_word, own_full, own_effect, enter_effect, link_address, is_built, returned}
use Rattle.ideal430.specs.Shown.{AreEven}
use Rattle.ideal430.specs.declared.service.Service.{Service}
use Rattle.ideal430.specs.declared.service.Service.TheVariants.{Halt, Enter, Leave, Turn, StoreWord, StoreByte, StampWord, StampByte, Sense, Emit, Open, Check, Close, Timely, Checkpoint}
use Rattle.ideal430.specs.declared.service.Store.TheVariants.{Link}
use Rattle.ideal430.proofs.Refusing.{Allowed, wild_where-first, not_some}

pub no-built : {A : Type 0} → false ≡ true → A
no-built h = cc

-- ---- words are stored at even addresses

word-even : (segment a : ℕ) → is_bad_word segment a ≡ false → a % 2 ≡ 0
word-even segment a h = grind (arith, nat_tests)

enter-even : (r : ℕ → ℕ) (segment : ℕ) → AreEven (enter_effect r segment).stores
enter-even r segment = by (has_place segment (r 1) (r 15))
  where
    by : (b : Bool) → AreEven (if b then mark (set_reg r 1 (r 1 - r 15)) segment [] else mark
        (set_reg r 1 (link_address segment - r 15)) (segment + 1) (Link (link_address segment) (r 1) ∷ [])).stores
    by true = tt
    by false = (omega arith, tt)

pub own_effect-even : (service : Service) (value : ℕ) (r m : ℕ → ℕ) (segment : ℕ) (block : Block) → is_built service ≡ true
    → Allowed service r m segment block → AreEven (own_effect service value (popped r m) m segment block).stores
own_effect-even Halt value r m segment block b a = tt
own_effect-even Enter value r m segment block b a = enter-even (popped r m) segment
own_effect-even Leave value r m segment block b a = by (is_linked segment (r 1 + 2 + r 15))
  where
    by : (c : Bool) → AreEven (if c then mark (returned (popped r m) m (m (r 1 + 2 + r 15))) (segment - 1) [] else
        (record (mark (returned (popped r m) m (r 1 + 2 + r 15)) segment []) {
          ends = nat_eq segment 0 && nat_eq
              (r 1 + 2 + r 15) 0x20FE;
        })).stores
    by true = tt
    by false = tt
own_effect-even Turn value r m segment block b a = tt
own_effect-even StoreWord value r m segment block b a = (word-even segment (r 14) (wild_where-first _ (r 14) None a.own), tt)
own_effect-even StoreByte value r m segment block b a = (tt, tt)
own_effect-even StampWord value r m segment block b a = no-built b
own_effect-even StampByte value r m segment block b a = no-built b
own_effect-even Sense value r m segment block b a = tt
own_effect-even Emit value r m segment block b a = (omega arith, (refl, tt))
own_effect-even Open value r m segment block b a = no-built b
own_effect-even Check value r m segment block b a = no-built b
own_effect-even Close value r m segment block b a = no-built b
own_effect-even Timely value r m segment block b a = no-built b
own_effect-even Checkpoint value r m segment block b a = tt

-- ---- the working segment is one of the 32

enter-small : (r m : ℕ → ℕ) (segment : ℕ) (block : Block) → segment < 32 → own_full Enter r m segment block ≡ None
    → (enter_effect r segment).segment < 32
enter-small r m segment block l h = by (has_place segment (r 1) (r 15)) (nat_eq segment 31) refl h
  where
    by : (b c : Bool) → nat_eq segment 31 ≡ c → (if b || not c then None else Some StackFull) ≡ None
        → (if b then mark (set_reg r 1 (r 1 - r 15)) segment [] else mark (set_reg r 1 (link_address segment - r 15))
        (segment + 1) (Link (link_address segment) (r 1) ∷ [])).segment < 32
    by true c e k = l
    by false true e k = absurd (not_some k)
    by false false e k = grind (arith, nat_tests)

pub own_effect-small : (service : Service) (value : ℕ) (r m : ℕ → ℕ) (segment : ℕ) (block : Block) → is_built service ≡ true
    → segment < 32 → Allowed service r m segment block → (own_effect service value (popped r m) m segment block).segment < 32
own_effect-small Halt value r m segment block b l a = l
own_effect-small Enter value r m segment block b l a = enter-small (popped r m) m segment block l a.full
own_effect-small Leave value r m segment block b l a = by (is_linked segment (r 1 + 2 + r 15))
  where
    by : (c : Bool) → (if c then mark (returned (popped r m) m (m (r 1 + 2 + r 15))) (segment - 1) [] else
        (record (mark (returned (popped r m) m (r 1 + 2 + r 15)) segment []) {
          ends = nat_eq segment 0 && nat_eq
              (r 1 + 2 + r 15) 0x20FE;
        })).segment < 32
    by true = omega arith
    by false = l
own_effect-small Turn value r m segment block b l a = l
own_effect-small StoreWord value r m segment block b l a = l
own_effect-small StoreByte value r m segment block b l a = l
own_effect-small StampWord value r m segment block b l a = no-built b
own_effect-small StampByte value r m segment block b l a = no-built b
own_effect-small Sense value r m segment block b l a = l
own_effect-small Emit value r m segment block b l a = l
own_effect-small Open value r m segment block b l a = no-built b
own_effect-small Check value r m segment block b l a = no-built b
own_effect-small Close value r m segment block b l a = no-built b
own_effect-small Timely value r m segment block b l a = no-built b
own_effect-small Checkpoint value r m segment block b l a = l

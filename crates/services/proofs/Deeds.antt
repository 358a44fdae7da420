-- What holds of the deeds of the services that are built.
use Rattle.std.proofs.Common.{◌≡◌, ℕ, ◌+◌, ◌-◌, ◌*◌, ◌%◌, ◌<◌, ◌≤◌, Bool, true, false, not, ◌&&◌, ◌||◌, nat_eq, nat_lt, Some, None, [], ◌∷◌, refl, sym, ap, ◌∙◌, subst, arith, inl, inr, if◌then◌else◌}
use Rattle.std.proofs.lemmas.Bool.Decides.{nat_tests}
use Rattle.base16.specs.declared.end.EndKind.TheVariants.{StackFull}
use Rattle.core430.specs.Bytes.{word_address}
use Rattle.core430.specs.Registers.{set_reg}
use Rattle.board_map.specs.Map.{IsLoggable}
use Rattle.ideal430.specs.Places.{may_store}
use Rattle.ideal430.specs.Service.{Block, Effect, mark, popped, outputs_of, has_place, is_linked, is_bad_word, is_bad_byte, own_full, own_ask, own_effect, enter_effect, leave_effect, link_address, is_built, returned, refusal_of}
use Rattle.ideal430.specs.declared.service.Ask.TheVariants.{Nothing}
use Rattle.ideal430.specs.declared.service.Service.{Service}
use Rattle.ideal430.specs.declared.service.Service.TheVariants.{Halt, Enter, Leave, Turn, StoreWord, StoreByte, StampWord, StampByte, Sense, Emit, Open, Check, Close, Timely, Checkpoint}
use Rattle.ideal430.specs.declared.service.Store.TheVariants.{Link}
use Rattle.ideal430.proofs.Effects.{no-built}
use Rattle.ideal430.proofs.Refusing.{Allowed, allowed_of, wild_where-first, not_some, emit-place}
use Rattle.services.specs.Serving.{ArePlaced}

-- ---- where a service stores

stored-range : (segment a : ℕ) → segment < 32 → may_store segment a ≡ true → (0x2000 ≤ a) × (a < 0x8000)
stored-range segment a l h = (low segment a h, high segment a l h)
  where
    low : (segment a : ℕ) → may_store segment a ≡ true → 0x2000 ≤ a
    low segment a h = grind (arith, nat_tests)

    high : (segment a : ℕ) → segment < 32 → may_store segment a ≡ true → a < 0x8000
    high segment a l h = grind (arith, nat_tests)

loggable : (a : ℕ) → a % 2 ≡ 0 → 0x2000 ≤ a → a < 0x8000 → IsLoggable a
loggable a e l h = record { even = e; range = inr (l, h) }

bad-even : (segment a : ℕ) → is_bad_word segment a ≡ false → a % 2 ≡ 0
bad-even segment a h = grind (arith, nat_tests)

bad-stored : (segment a : ℕ) → is_bad_word segment a ≡ false → may_store segment a ≡ true
bad-stored segment a h = grind (arith, nat_tests)

byte-stored : (segment a : ℕ) → is_bad_byte segment a ≡ false → may_store segment a ≡ true
byte-stored segment a h = grind (arith, nat_tests)

word-placed : (segment a : ℕ) → segment < 32 → is_bad_word segment a ≡ false → IsLoggable a
word-placed segment a l h =
    let r = stored-range segment a l (bad-stored segment a h) in
    loggable a (bad-even segment a h) r.0 r.1

byte-placed : (segment a : ℕ) → segment < 32 → is_bad_byte segment a ≡ false → IsLoggable (word_address a)
byte-placed segment a l h =
    let r = stored-range segment a l (byte-stored segment a h) in
    let low : 0x2000 ≤ a = r.0 in
    let high : a < 0x8000 = r.1 in
    loggable (word_address a) (omega arith) (omega arith) (omega arith)

outputs-placed : (n : ℕ) → n < 256 → IsLoggable (0x1A00 + 2 + 2 * n)
outputs-placed n l = record { even = omega arith; range = inl (omega arith, omega arith) }

length-placed : IsLoggable 0x1A00
length-placed = record { even = refl; range = inl (omega arith, omega arith) }

enter-placed : (r m : ℕ → ℕ) (segment : ℕ) (block : Block) → segment < 32 → own_full Enter r m segment block ≡ None
    → ArePlaced segment (enter_effect r segment).stores
enter-placed r m segment block l h = by (has_place segment (r 1) (r 15)) (nat_eq segment 31) refl h
  where
    less : nat_eq segment 31 ≡ false → segment < 31
    less e = grind (arith, nat_tests)

    by : (b c : Bool) → nat_eq segment 31 ≡ c → (if b || not c then None else Some StackFull) ≡ None
        → ArePlaced segment (if b then mark (set_reg r 1 (r 1 - r 15)) segment [] else mark
        (set_reg r 1 (link_address segment - r 15)) (segment + 1) (Link (link_address segment) (r 1) ∷ [])).stores
    by true c e k = tt
    by false true e k = absurd (not_some k)
    by false false e k = let z = less e in ((omega arith, omega arith, omega arith), tt)

leave-placed : (r m : ℕ → ℕ) (segment end : ℕ) → ArePlaced segment (leave_effect r m segment end).stores
leave-placed r m segment end = by (is_linked segment end)
  where
    by : (c : Bool) → ArePlaced segment
        (if c then mark (returned r m (m end)) (segment - 1) [] else
        (record (mark (returned r m end) segment []) { ends = nat_eq segment 0 && nat_eq end 0x20FE })).stores
    by true = tt
    by false = tt

own_effect-placed : (service : Service) (value : ℕ) (r m : ℕ → ℕ) (segment : ℕ) (block : Block) → is_built service ≡ true
    → segment < 32
    → Allowed service r m segment block → ArePlaced segment (own_effect service value (popped r m) m segment block).stores
own_effect-placed Halt value r m segment block b l a = tt
own_effect-placed Enter value r m segment block b l a = enter-placed (popped r m) m segment block l a.full
own_effect-placed Leave value r m segment block b l a = leave-placed (popped r m) m segment (r 1 + 2 + r 15)
own_effect-placed Turn value r m segment block b l a = tt
own_effect-placed StoreWord value r m segment block b l a =
    (word-placed segment (r 14) l (wild_where-first _ (r 14) None a.own), tt)
own_effect-placed StoreByte value r m segment block b l a =
    (byte-placed segment (r 14) l (wild_where-first _ (r 14) None a.own), tt)
own_effect-placed StampWord value r m segment block b l a = no-built b
own_effect-placed StampByte value r m segment block b l a = no-built b
own_effect-placed Sense value r m segment block b l a = tt
own_effect-placed Emit value r m segment block b l a =
    (outputs-placed (outputs_of m) (emit-place r m segment block a), (length-placed, tt))
own_effect-placed Open value r m segment block b l a = no-built b
own_effect-placed Check value r m segment block b l a = no-built b
own_effect-placed Close value r m segment block b l a = no-built b
own_effect-placed Timely value r m segment block b l a = no-built b
own_effect-placed Checkpoint value r m segment block b l a = tt

pub deed-placed : (service : Service) (value : ℕ) (r m : ℕ → ℕ) (segment : ℕ) (e : Effect) → is_built service ≡ true
    → segment < 32
    → refusal_of service r m segment None ≡ None → e ≡ own_effect service value (popped r m) m segment None
    → ArePlaced segment e.stores
deed-placed service value r m segment e b l h is =
    subst (λ (x : Effect). ArePlaced segment x.stores) (sym is)
    (own_effect-placed service value r m segment None b l (allowed_of service service r m segment None refl h))

-- ---- what goes on is a mark

own_effect-marks : (service : Service) (value : ℕ) (r m : ℕ → ℕ) (segment : ℕ) (block : Block) → is_built service ≡ true
    → (own_effect service value r m segment block).ends ≡ false → (own_effect service value r m segment block).marks ≡ true
own_effect-marks Halt value r m segment block b h = cc
own_effect-marks Enter value r m segment block b h = by (has_place segment (r 1) (r 15))
  where
    by : (b : Bool) → (if b then mark (set_reg r 1 (r 1 - r 15)) segment [] else mark
        (set_reg r 1 (link_address segment - r 15)) (segment + 1) (Link (link_address segment) (r 1) ∷ [])).marks ≡ true
    by true = refl
    by false = refl
own_effect-marks Leave value r m segment block b h = by (is_linked segment (r 1 + r 15))
  where
    by : (c : Bool) → (if c then mark (returned r m (m (r 1 + r 15))) (segment - 1) [] else
        (record (mark (returned r m (r 1 + r 15)) segment []) {
          ends = nat_eq segment 0 && nat_eq
              (r 1 + r 15) 0x20FE;
        })).marks ≡ true
    by true = refl
    by false = refl
own_effect-marks Turn value r m segment block b h = refl
own_effect-marks StoreWord value r m segment block b h = refl
own_effect-marks StoreByte value r m segment block b h = refl
own_effect-marks StampWord value r m segment block b h = no-built b
own_effect-marks StampByte value r m segment block b h = no-built b
own_effect-marks Sense value r m segment block b h = refl
own_effect-marks Emit value r m segment block b h = refl
own_effect-marks Open value r m segment block b h = no-built b
own_effect-marks Check value r m segment block b h = no-built b
own_effect-marks Close value r m segment block b h = no-built b
own_effect-marks Timely value r m segment block b h = no-built b
own_effect-marks Checkpoint value r m segment block b h = refl

pub deed-marks : (service : Service) (value : ℕ) (r m : ℕ → ℕ) (segment : ℕ) (e : Effect) → is_built service ≡ true
    → e ≡ own_effect service value (popped r m) m segment None → e.ends ≡ false → e.marks ≡ true
deed-marks service value r m segment e b is h =
    ap (λ (x : Effect). x.marks) is
    ∙ own_effect-marks service value (popped r m) m segment None b (sym (ap (λ (x : Effect). x.ends) is) ∙ h)

-- ---- readings

pub sense-channel : (service : Service) (r m : ℕ → ℕ) (segment : ℕ) → refusal_of service r m segment None ≡ None
    → service ≡ Sense → r 15 < 16
sense-channel service r m segment h e =
    let a = allowed_of service Sense r m segment None e h in
    small (r 15) (wild_where-first (nat_lt 15 (r 15)) _ None a.own)
  where
    small : (n : ℕ) → nat_lt 15 n ≡ false → n < 16
    small n k = grind (arith, nat_tests)

-- a service that is not the sensor's asks nothing
pub asks-nothing : (service : Service) (r : ℕ → ℕ) → is_built service ≡ true → (service ≡ Sense → ⊥) → own_ask service r ≡ Nothing
asks-nothing Halt r b n = refl
asks-nothing Enter r b n = refl
asks-nothing Leave r b n = refl
asks-nothing Turn r b n = refl
asks-nothing StoreWord r b n = refl
asks-nothing StoreByte r b n = refl
asks-nothing StampWord r b n = no-built b
asks-nothing StampByte r b n = no-built b
asks-nothing Sense r b n = absurd (n refl)
asks-nothing Emit r b n = refl
asks-nothing Open r b n = no-built b
asks-nothing Check r b n = no-built b
asks-nothing Close r b n = no-built b
asks-nothing Timely r b n = no-built b
asks-nothing Checkpoint r b n = refl

-- A service of the machine, by how it ends.
use Rattle.std.proofs.Common.{◌≡◌, ℕ, ◌+◌, ◌<◌, ◌≤◌, Bool, true, false, nat_eq, Option, Some, None, List, [], ◌∷◌, length, drop, refl, sym, ap, ◌∙◌, subst, arith, ◌⊎◌, inl, inr, if◌then◌else◌}
use Rattle.std.proofs.lemmas.Bool.{cases_lt}
use Rattle.std.proofs.lemmas.Grind.{common_steps}
use Rattle.std.proofs.lemmas.List.{drop-drop}
use Rattle.base16.specs.Board.{service_entry}
use Rattle.base16.specs.Memory.{words_of}
use Rattle.base16.specs.declared.reading.Reading.{Reading}
use Rattle.base16.specs.declared.reading.Reading.TheVariants as reading
use Rattle.base16.specs.declared.end.EndKind.{EndKind}
use Rattle.base16.specs.declared.end.EndKind.TheVariants.{Wild}
use Rattle.core430.specs.Registers.{view_of}
use Rattle.ideal430.specs.Service.{Block, Effect, Refuses, popped, is_built, if_built, service_of, service_at, own_effect, own_ask, refusal_of, deed_if, deed_if_built, ask_if, ask_if_built}
use Rattle.ideal430.specs.Ideal.{Ideal, stopped, with_left, did, doing, deed_here, ask_here, sensing, asking, served}
use Rattle.ideal430.specs.Shown.{AreEven}
use Rattle.ideal430.specs.At.{IsAt, effect_here, sensed_value}
use Rattle.ideal430.specs.declared.machine.Machine.{Machine}
use Rattle.ideal430.specs.declared.service.Ask.TheVariants.{Nothing, Sensor}
use Rattle.ideal430.specs.declared.service.Service.{Service}
use Rattle.ideal430.specs.declared.service.Service.TheVariants.{Halt, Enter, Leave, Turn, StoreWord, StoreByte, StampWord, StampByte, Sense, Emit, Open, Check, Close, Timely, Checkpoint}
use Rattle.ideal430.specs.declared.state.IdealEnd.TheVariants.{Ended, NeedsReading}
use Rattle.ideal430.proofs.Refusing.{allowed_of}
use Rattle.ideal430.proofs.Effects.{own_effect-even, own_effect-small, no-built}

-- how a service is refused that finds the machine, if it is
abbrev pub refusal_here : Service → Ideal → Option EndKind
refusal_here service t = refusal_of service t.core.regs t.core.memory t.segment t.block

-- ---- what the machine asks and does, by the service of a number

ask-none : (n : ℕ) (t : Ideal) → service_at n ≡ None → ask_here n t ≡ Nothing
ask-none n t e = ap (λ (o : Option Service). ask_if_built o t.core.regs t.core.memory t.segment t.block) e

deed-none : (n value : ℕ) (t : Ideal) → service_at n ≡ None → deed_here n value t ≡ Refuses (Wild (service_entry n))
deed-none n value t e = ap (λ (o : Option Service). deed_if_built o n value t.core.regs t.core.memory t.segment t.block) e

ask-some : (n : ℕ) (t : Ideal) (service : Service) (o : Option EndKind) → service_at n ≡ Some service → refusal_here service t ≡ o
    → ask_here n t ≡ ask_if o (own_ask service t.core.regs)
ask-some n t service o e h =
    ap (λ (p : Option Service). ask_if_built p t.core.regs t.core.memory t.segment t.block) e
    ∙ ap (λ (q : Option EndKind). ask_if q (own_ask service t.core.regs)) h

deed-some : (n value : ℕ) (t : Ideal) (service : Service) (o : Option EndKind) → service_at n ≡ Some service
    → refusal_here service t ≡ o
    → deed_here n value t ≡ deed_if o (effect_here service value t)
deed-some n value t service o e h =
    ap (λ (p : Option Service). deed_if_built p n value t.core.regs t.core.memory t.segment t.block) e
    ∙ ap (λ (q : Option EndKind). deed_if q (effect_here service value t)) h

-- ---- how a service ends

pub served-none : (n : ℕ) (t : Ideal) → service_at n ≡ None → served n t ≡ stopped t (Ended (Wild (service_entry n)))
served-none n t e = ap (asking n t) (ask-none n t e) ∙ ap (doing t) (deed-none n 0 t e)

pub served-refused : (n : ℕ) (t : Ideal) (service : Service) (kind : EndKind) → service_at n ≡ Some service
    → refusal_here service t ≡ Some kind
    → served n t ≡ stopped t (Ended kind)
served-refused n t service kind e h =
    ap (asking n t) (ask-some n t service (Some kind) e h) ∙ ap (doing t) (deed-some n 0 t service (Some kind) e h)

pub served-nothing : (n : ℕ) (t : Ideal) (service : Service) → service_at n ≡ Some service → refusal_here service t ≡ None
    → own_ask service t.core.regs ≡ Nothing → served n t ≡ did t (effect_here service 0 t)
served-nothing n t service e h q =
    ap (asking n t) (ask-some n t service None e h ∙ q) ∙ ap (doing t) (deed-some n 0 t service None e h)

sensing-some : (n : ℕ) (t : Ideal) (channel value : ℕ) (left : List Reading) → sensed_value channel left ≡ Some value
    → sensing n t channel left ≡ doing (with_left t (drop 1 left)) (deed_here n value t)
sensing-some n t channel value [] h = absurd (no h)
  where
    no : None ≡ Some value → ⊥
    no k = cc
sensing-some n t channel value (reading.Sense c v ∷ rest) h = by (nat_eq c channel) h
  where
    by : (b : Bool) → (if b then Some v else None) ≡ Some value
        → (if b then doing (with_left t rest) (deed_here n v t) else stopped t NeedsReading)
        ≡ doing (with_left t rest) (deed_here n value t)
    by true k = let e : v ≡ value = cc in ap (λ (x : ℕ). doing (with_left t rest) (deed_here n x t)) e
    by false k = cc
sensing-some n t channel value (reading.Clock ms ∷ rest) h = absurd (no h)
  where
    no : None ≡ Some value → ⊥
    no k = cc

sensing-none : (n : ℕ) (t : Ideal) (channel : ℕ) (left : List Reading) → sensed_value channel left ≡ None
    → sensing n t channel left ≡ stopped t NeedsReading
sensing-none n t channel [] h = refl
sensing-none n t channel (reading.Sense c v ∷ rest) h = by (nat_eq c channel) h
  where
    by : (b : Bool) → (if b then Some v else None) ≡ None
        → (if b then doing (with_left t rest) (deed_here n v t) else stopped t NeedsReading) ≡ stopped t NeedsReading
    by true k = cc
    by false k = refl
sensing-none n t channel (reading.Clock ms ∷ rest) h = refl

pub served-sensed : (n : ℕ) (t : Ideal) (service : Service) (channel value : ℕ) → service_at n ≡ Some service
    → refusal_here service t ≡ None
    → own_ask service t.core.regs ≡ Sensor channel → sensed_value channel t.left ≡ Some value
    → served n t ≡ did (with_left t (drop 1 t.left)) (effect_here service value t)
served-sensed n t service channel value e h q s =
    ap (asking n t) (ask-some n t service None e h ∙ q) ∙ sensing-some n t channel value t.left s
    ∙ ap (doing (with_left t (drop 1 t.left))) (deed-some n value t service None e h)

pub served-missing : (n : ℕ) (t : Ideal) (service : Service) (channel : ℕ) → service_at n ≡ Some service
    → refusal_here service t ≡ None
    → own_ask service t.core.regs ≡ Sensor channel → sensed_value channel t.left ≡ None → served n t ≡ stopped t NeedsReading
served-missing n t service channel e h q s =
    ap (asking n t) (ask-some n t service None e h ∙ q) ∙ sensing-none n t channel t.left s

-- ---- the services that are built

-- those that ask no sensor ask nothing
pub own_ask-quiet : (service : Service) (r : ℕ → ℕ) → is_built service ≡ true
    → ((channel : ℕ) → own_ask service r ≡ Sensor channel → ⊥)
    → own_ask service r ≡ Nothing
own_ask-quiet Halt r b q = refl
own_ask-quiet Enter r b q = refl
own_ask-quiet Leave r b q = refl
own_ask-quiet Turn r b q = refl
own_ask-quiet StoreWord r b q = refl
own_ask-quiet StoreByte r b q = refl
own_ask-quiet StampWord r b q = no-built b
own_ask-quiet StampByte r b q = no-built b
own_ask-quiet Sense r b q = absurd (q (r 15) refl)
own_ask-quiet Emit r b q = refl
own_ask-quiet Open r b q = no-built b
own_ask-quiet Check r b q = no-built b
own_ask-quiet Close r b q = no-built b
own_ask-quiet Timely r b q = no-built b
own_ask-quiet Checkpoint r b q = refl

if_built-built : (o : Option Service) (service : Service) → if_built o ≡ Some service → is_built service ≡ true
if_built-built None service h = absurd (no h)
  where
    no : None ≡ Some service → ⊥
    no k = cc
if_built-built (Some s) service h = by (is_built s) refl h
  where
    by : (b : Bool) → is_built s ≡ b → (if b then Some s else None) ≡ Some service → is_built service ≡ true
    by true e k = let same : s ≡ service = cc in sym (ap is_built same) ∙ e
    by false e k = cc

pub service_at-built : (n : ℕ) (service : Service) → service_at n ≡ Some service → is_built service ≡ true
service_at-built n service h = if_built-built (service_of n) service h

-- ---- where the code's machine is

-- what the machine finds is what the code's machine finds
pub refusal-at : (t : Ideal) (machine : Machine) (readings : List Reading) (service : Service) (o : Option EndKind)
    → IsAt t machine readings
    → o ≡ refusal_of service (view_of machine.regs.r) (words_of machine.memory) machine.segment None → refusal_here service t ≡ o
refusal-at t machine readings service o at e =
    ap (λ (r : ℕ → ℕ). refusal_of service r t.core.memory t.segment t.block) at.regs
    ∙ ap (λ (m : ℕ → ℕ). refusal_of service (view_of machine.regs.r) m t.segment t.block) at.memory
    ∙ ap (λ (s : ℕ). refusal_of service (view_of machine.regs.r) (words_of machine.memory) s t.block) at.segment
    ∙ ap (λ (b : Block). refusal_of service (view_of machine.regs.r) (words_of machine.memory) machine.segment b) at.block
    ∙ sym e

pub effect-at : (t : Ideal) (machine : Machine) (readings : List Reading) (service : Service) (value : ℕ) (e : Effect)
    → IsAt t machine readings
    → e ≡ own_effect service value (popped (view_of machine.regs.r) (words_of machine.memory))
    (words_of machine.memory) machine.segment None
    → e ≡ effect_here service value t
effect-at t machine readings service value e at h =
    sym (ap (λ (r : ℕ → ℕ). own_effect service value (popped r t.core.memory) t.core.memory t.segment t.block) at.regs
    ∙ ap (λ (m : ℕ → ℕ). own_effect service value (popped (view_of machine.regs.r) m) m t.segment t.block) at.memory
    ∙ ap (λ (s : ℕ). own_effect service value (popped (view_of machine.regs.r) (words_of machine.memory))
    (words_of machine.memory) s t.block) at.segment
    ∙ ap (λ (b : Block). own_effect service value (popped (view_of machine.regs.r) (words_of machine.memory))
    (words_of machine.memory) machine.segment b) at.block
    ∙ sym h)

-- what is asked of a deed before it is done
pub deed-even : (service : Service) (value : ℕ) (r m : ℕ → ℕ) (segment : ℕ) (e : Effect) → is_built service ≡ true
    → refusal_of service r m segment None ≡ None → e ≡ own_effect service value (popped r m) m segment None → AreEven e.stores
deed-even service value r m segment e b h is =
    subst (λ (x : Effect). AreEven x.stores) (sym is)
    (own_effect-even service value r m segment None b (allowed_of service service r m segment None refl h))

pub deed-small : (service : Service) (value : ℕ) (r m : ℕ → ℕ) (segment : ℕ) (e : Effect) → is_built service ≡ true → segment < 32
    → refusal_of service r m segment None ≡ None → e ≡ own_effect service value (popped r m) m segment None → e.segment < 32
deed-small service value r m segment e b l h is =
    subst (λ (x : Effect). x.segment < 32) (sym is)
    (own_effect-small service value r m segment None b l (allowed_of service service r m segment None refl h))

-- ---- the code's machine after a service

drop-more : (readings : List Reading) (n : ℕ) → drop 1 (drop n readings) ≡ drop (n + 1) readings
drop-more readings n = drop-drop 1 n readings

-- a reading that was found is one more that was taken
sensed-within : (channel value : ℕ) (readings : List Reading) (n : ℕ) → sensed_value channel (drop n readings) ≡ Some value
    → n < length readings
sensed-within channel value readings n h = by (cases_lt n (length readings))
  where
    by : ((n < length readings) ⊎ (length readings ≤ n)) → n < length readings
    by (inl l) = l
    by (inr l) = absurd (no (sym (ap (sensed_value channel) (past l)) ∙ h))
      where
        past : length readings ≤ n → drop n readings ≡ []
        past l = grind (arith, common_steps)

        no : None ≡ Some value → ⊥
        no k = cc

pub took : (t : Ideal) (machine : Machine) (readings : List Reading) (channel value : ℕ) → IsAt t machine readings
    → sensed_value channel (drop machine.taken readings) ≡ Some value
    → IsAt (with_left t (drop 1 t.left)) (record machine { taken = machine.taken + 1 }) readings
took t machine readings channel value at h = record {
  regs = at.regs;
  memory = at.memory;
  segment = at.segment;
  block = at.block;
  marks = at.marks;
  left = ap (drop 1) at.left ∙ drop-more readings machine.taken;
  status = at.status;
  small = at.small;
  within = let l = sensed-within channel value readings machine.taken h in omega arith;
}

pub served_sensed : (n : ℕ) (t : Ideal) (machine new : Machine) (readings : List Reading) (service : Service) (channel value : ℕ)
    → IsAt t machine readings → service_at n ≡ Some service
    → refusal_of service (view_of machine.regs.r) (words_of machine.memory) machine.segment None ≡ None
    → own_ask service t.core.regs ≡ Sensor channel → Some value ≡ sensed_value channel (drop machine.taken readings)
    → ((u : Ideal) → IsAt u (record machine { taken = machine.taken + 1 }) readings
    → IsAt (did u (effect_here service value u)) new readings)
    → IsAt (served n t) new readings
served_sensed n t machine new readings service channel value at e h q s go =
    subst (λ (u : Ideal). IsAt u new readings)
    (sym (served-sensed n t service channel value e (refusal-at t machine readings service None at (sym h)) q
    (ap (sensed_value channel) at.left ∙ sym s)))
    (go (with_left t (drop 1 t.left)) (took t machine readings channel value at (sym s)))

pub served_missing : (n : ℕ) (t : Ideal) (machine new : Machine) (readings : List Reading) (service : Service) (channel : ℕ)
    → IsAt t machine readings → service_at n ≡ Some service
    → refusal_of service (view_of machine.regs.r) (words_of machine.memory) machine.segment None ≡ None
    → own_ask service t.core.regs ≡ Sensor channel → None ≡ sensed_value channel (drop machine.taken readings)
    → IsAt (stopped t NeedsReading) new readings → IsAt (served n t) new readings
served_missing n t machine new readings service channel at e h q s done =
    subst (λ (u : Ideal). IsAt u new readings)
    (sym (served-missing n t service channel e (refusal-at t machine readings service None at (sym h)) q
    (ap (sensed_value channel) at.left ∙ sym s)))
    done

pub served_none : (n : ℕ) (t : Ideal) (new : Machine) (readings : List Reading) → service_at n ≡ None
    → IsAt (stopped t (Ended (Wild (service_entry n)))) new readings → IsAt (served n t) new readings
served_none n t new readings e done = subst (λ (u : Ideal). IsAt u new readings) (sym (served-none n t e)) done

pub served_refused : (n : ℕ) (t : Ideal) (machine new : Machine) (readings : List Reading) (service : Service) (kind : EndKind)
    → IsAt t machine readings → service_at n ≡ Some service
    → Some kind ≡ refusal_of service (view_of machine.regs.r) (words_of machine.memory) machine.segment None
    → IsAt (stopped t (Ended kind)) new readings → IsAt (served n t) new readings
served_refused n t machine new readings service kind at e h done =
    subst (λ (u : Ideal). IsAt u new readings)
    (sym (served-refused n t service kind e (refusal-at t machine readings service (Some kind) at h))) done

pub served_nothing : (n : ℕ) (t : Ideal) (machine new : Machine) (readings : List Reading) (service : Service)
    → IsAt t machine readings
    → service_at n ≡ Some service → None
    ≡ refusal_of service (view_of machine.regs.r) (words_of machine.memory) machine.segment None
    → ((channel : ℕ) → own_ask service (view_of machine.regs.r) ≡ Sensor channel → ⊥)
    → IsAt (did t (effect_here service 0 t)) new readings → IsAt (served n t) new readings
served_nothing n t machine new readings service at e h q done =
    subst (λ (u : Ideal). IsAt u new readings)
    (sym (served-nothing n t service e (refusal-at t machine readings service None at h)
    (ap (own_ask service) at.regs ∙ own_ask-quiet service (view_of machine.regs.r) (service_at-built n service e) q)))
    done

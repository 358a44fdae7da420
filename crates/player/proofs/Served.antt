-- What the answer of a service says.
use Rattle.std.proofs.Common.{◌≡◌, ℕ, ◌+◌, ◌-◌, ◌<◌, ◌≤◌, min, Bool, true, false, not, ◌||◌, nat_eq, nat_lt, refl, sym, ap, ◌∙◌, subst, arith, Option, Some, None, List, length, if◌then◌else◌}
use Rattle.std.proofs.lemmas.Bool.Decides.{nat_tests}
use Rattle.std.specs.Prelude.{IfSome}
use Rattle.base16.specs.Board.{segment_count, most_outputs}
use Rattle.base16.specs.declared.end.EndKind.{EndKind}
use Rattle.base16.specs.declared.end.EndKind.TheVariants.{Done, StackFull, BlockFull, OutputFull}
use Rattle.board_map.specs.Map.{count_of}
use Rattle.board_map.specs.declared.work.Work.{Work}
use Rattle.core430.specs.Registers.{view_of}
use Rattle.ideal430.specs.Costs.{effect_entries}
use Rattle.ideal430.specs.Service.{Block, Effect, Deed, Refuses, Does, OnDoes, outputs_of, has_place, full_block, own_full, wild_of, refusal_or, refusal_of, popped, own_effect, service_at, deed_if, deed_if_built}
use Rattle.ideal430.specs.declared.service.Service.{Service}
use Rattle.ideal430.specs.declared.service.Service.TheVariants.{Halt, Enter, Leave, Turn, StoreWord, StoreByte, StampWord, StampByte, Sense, Emit, Open, Check, Close, Timely, Checkpoint}
use Rattle.services.specs.Bounds.{IsShort}
use Rattle.services.specs.Serving.{due_at, ticks_at, committed_of, work_after, deed_found, ended, answer_of, OnPower, OnCommit, OnRefused, committed_in, Effected, Serves}
use Rattle.services.specs.declared.acting.Committed.{Committed}
use Rattle.services.specs.declared.serving.Served.{Served}
use Rattle.services.specs.declared.serving.Served.TheVariants as served
use Rattle.services.proofs.Few.{deed-short}
use Rattle.services.proofs.Machines.{power-in}
use Rattle.world.specs.World.{WorldState}
use Rattle.player.specs.Form.{is_power}

-- ---- how a service is refused

abbrev NotPower : Option EndKind → Type 0
NotPower None = Unit {0}
NotPower (Some kind) = is_power kind ≡ false

if-kind : (b : Bool) (x y : Option EndKind) → NotPower x → NotPower y → NotPower (if b then x else y)
if-kind true x y h k = h
if-kind false x y h k = k

block-kind : (block : Block) (words : ℕ) → NotPower (full_block block words)
block-kind None words = tt
block-kind (Some noted) words = if-kind (nat_lt 128 (length noted + words)) (Some BlockFull) None refl tt

full-kind : (service : Service) (r m : ℕ → ℕ) (segment : ℕ) (block : Block) → NotPower (own_full service r m segment block)
full-kind Halt r m segment block = tt
full-kind Enter r m segment block =
    if-kind (has_place segment (r 1) (r 15) || not (nat_eq segment (segment_count - 1))) None (Some StackFull) tt refl
full-kind Leave r m segment block = tt
full-kind Turn r m segment block = tt
full-kind StoreWord r m segment block = block-kind block 1
full-kind StoreByte r m segment block = block-kind block 1
full-kind StampWord r m segment block = block-kind block 3
full-kind StampByte r m segment block = block-kind block 3
full-kind Sense r m segment block = tt
full-kind Emit r m segment block =
    if-kind (nat_lt (outputs_of m) most_outputs) (full_block block 2) (Some OutputFull) (block-kind block 2) refl
full-kind Open r m segment block = tt
full-kind Check r m segment block = tt
full-kind Close r m segment block = tt
full-kind Timely r m segment block = tt
full-kind Checkpoint r m segment block = tt

or-kind : (o : Option ℕ) (full : Option EndKind) → NotPower full → NotPower (refusal_or o full)
or-kind None full h = h
or-kind (Some address) full h = refl

abbrev DeedNotPower : Deed → Type 0
DeedNotPower (Refuses kind) = is_power kind ≡ false
DeedNotPower (Does e) = Unit {0}

deed_if-kind : (o : Option EndKind) (e : Effect) → NotPower o → DeedNotPower (deed_if o e)
deed_if-kind None e h = tt
deed_if-kind (Some kind) e h = h

deed-kind : (o : Option Service) (n value : ℕ) (r m : ℕ → ℕ) (segment : ℕ) (block : Block)
    → DeedNotPower (deed_if_built o n value r m segment block)
deed-kind None n value r m segment block = refl
deed-kind (Some service) n value r m segment block =
    deed_if-kind (refusal_of service r m segment block) (own_effect service value (popped r m) m segment block)
    (or-kind (wild_of service r m segment block) _ (full-kind service (popped r m) m segment block))

-- ---- the answer

-- From one work state to the next: at most one mark, and the commit that was made, of 155 words.
pub record IsStepped (work work2 : Work) (spent : ℕ) (c : Option Committed) : Type 0 where
  pub marks : work2.marks ≤ work.marks + 1
  pub block : work2.block_open ≡ work.block_open
  pub length_is : work2.block_length ≡ work.block_length
  pub commits : OnCommit c (work2.commits ≡ work.commits + 1) (work2.commits ≡ work.commits)
  pub since : OnCommit c (work2.since ≡ spent) (work2.since ≡ work.since)
  pub words : IfSome c (λ k. k.words ≡ 155)
  pub log : IfSome c (λ k. k.log ≤ 256)

pub record IsAnswer (work work2 : Work) (world2 : WorldState) (answer : Served) : Type 0 where
  pub stepped : OnPower answer (IsStepped work work2 world2.spent (committed_in answer))
  pub own : (kind : EndKind) (c : Option Committed) → answer ≡ served.End kind c → is_power kind ≡ false
  pub none : answer ≡ served.Off → world2.left ≡ 0

no-off : (kind : EndKind) (c : Option Committed) → served.End kind c ≡ served.Off → ⊥
no-off kind c h = cc

no-off_end : (kind : EndKind) (c : Option Committed) → served.Off ≡ served.End kind c → ⊥
no-off_end kind c h = cc

no-off_done : (c : Option Committed) → served.Done c ≡ served.Off → ⊥
no-off_done c h = cc

no-done_end : (kind : EndKind) (c d : Option Committed) → served.Done d ≡ served.End kind c → ⊥
no-done_end kind c d h = cc

same-kind : (k kind : EndKind) (c d : Option Committed) → served.End k d ≡ served.End kind c → kind ≡ k
same-kind k kind c d h = cc

if-mark : (b : Bool) (n : ℕ) → (if b then n + 1 else n) ≤ n + 1
if-mark true n = omega arith
if-mark false n = omega arith

refused-answer : (work work2 : Work) (world2 : WorldState) (kind : EndKind) → is_power kind ≡ false → work2 ≡ work
    → IsAnswer work work2 world2 (served.End kind None)
refused-answer work work2 world2 kind own same = record {
  stepped = subst (λ (x : Work). IsStepped work x world2.spent None) (sym same)
      (record { marks = omega arith; block = refl; length_is = refl; commits = refl; since = refl; words = tt; log = tt });
  own = λ k c e. ap is_power (same-kind kind k c None e) ∙ own;
  none = λ e. absurd (no-off kind None e);
}

cut-answer : (work work2 : Work) (world2 : WorldState) → world2.left ≡ 0 → IsAnswer work work2 world2 served.Off
cut-answer work work2 world2 none = record {
  stepped = tt;
  own = λ k c e. absurd (no-off_end k c e);
  none = λ e. none;
}

stepped-by : (e : Effect) (due : Bool) (entries : ℕ) (work : Work) (spent : ℕ) → entries ≤ 256
    → IsStepped work (work_after e due spent work) spent (committed_of due entries)
stepped-by e true entries work spent fits = record {
  marks = if-mark e.marks work.marks;
  block = refl;
  length_is = refl;
  commits = refl;
  since = refl;
  words = refl;
  log = fits;
}
stepped-by e false entries work spent fits = record {
  marks = if-mark e.marks work.marks;
  block = refl;
  length_is = refl;
  commits = refl;
  since = refl;
  words = tt;
  log = tt;
}

made-answer : (ends : Bool) (c : Option Committed) (work work2 : Work) (world2 : WorldState) → IsStepped work work2 world2.spent c
    → IsAnswer work work2 world2 (ended ends c)
made-answer true c work work2 world2 h = record {
  stepped = h;
  own = λ k d e. ap is_power (same-kind Done k d c e);
  none = λ e. absurd (no-off Done c e);
}
made-answer false c work work2 world2 h = record {
  stepped = h;
  own = λ k d e. absurd (no-done_end k d c e);
  none = λ e. absurd (no-off_done c e);
}

none-left : (k left left2 : ℕ) → left < k → left ≡ left2 + min left k → left2 ≡ 0
none-left k left left2 l e = omega arith

below : (a b : ℕ) → nat_lt a b ≡ true → a < b
below a b h = grind (arith, nat_tests)

by-deed : (d : Deed) (registers registers2 : List ℕ) (m m2 : ℕ → ℕ) (work work2 : Work) (w w2 : WorldState) (answer : Served)
    → DeedNotPower d → answer ≡ answer_of d work w (count_of m)
    → w.left ≡ w2.left + min w.left (ticks_at d work w (count_of m))
    → OnRefused d ((registers2 ≡ registers) × (m2 ≡ m) × (work2 ≡ work))
    → OnDoes d (λ e. OnPower answer (Effected e m work w (committed_in answer) registers2 m2 work2 w2))
    → OnDoes d (λ e. count_of m + effect_entries work.segment e ≤ 256) → IsAnswer work work2 w2 answer
by-deed (Refuses kind) registers registers2 m m2 work work2 w w2 answer own is left refused effect short =
    subst (IsAnswer work work2 w2) (sym is) (refused-answer work work2 w2 kind own refused.2)
by-deed (Does e) registers registers2 m m2 work work2 w w2 answer own is left refused effect short =
    at (nat_lt w.left (ticks_at (Does e) work w (count_of m))) refl is
  where
    at : (b : Bool) → nat_lt w.left (ticks_at (Does e) work w (count_of m)) ≡ b
        → answer ≡ (if b then served.Off else ended e.ends
        (committed_of (due_at e work w (count_of m)) (count_of m + effect_entries work.segment e)))
        → IsAnswer work work2 w2 answer
    at true f k = subst (IsAnswer work work2 w2) (sym k)
        (cut-answer work work2 w2 (none-left _ w.left w2.left (below _ _ f) left))
    at false f k =
        let due = due_at e work w (count_of m) in
        let log = count_of m + effect_entries work.segment e in
        let x : Effected e m work w (committed_in answer) registers2 m2 work2 w2 =
        power-in e.ends (committed_of due log) answer _ k effect in
        let h : IsStepped work work2 w2.spent (committed_of due log) =
        subst (λ (y : Work). IsStepped work y w2.spent (committed_of due log)) (sym x.work_is)
        (stepped-by e due log work w2.spent short) in
        subst (IsAnswer work work2 w2) (sym k) (made-answer e.ends (committed_of due log) work work2 w2 h)

few-entries : (d : Deed) (segment count : ℕ) → count + 8 ≤ 256 → OnDoes d (λ e. IsShort segment e)
    → OnDoes d (λ e. count + effect_entries segment e ≤ 256)
few-entries (Refuses kind) segment count room h = tt
few-entries (Does e) segment count room h = omega (arith, h.entries)

pub answers : (n : ℕ) (registers registers2 : List ℕ) (m m2 : ℕ → ℕ) (work work2 : Work) (w w2 : WorldState) (answer : Served)
    → count_of m + 8 + work.block_length ≤ 256 → Serves n registers m work w answer registers2 m2 work2 w2
    → IsAnswer work work2 w2 answer
answers n registers registers2 m m2 work work2 w w2 answer room s =
    by-deed (deed_found n s.value registers m work) registers registers2 m m2 work work2 w w2 answer
    (deed-kind (service_at n) n s.value (view_of registers) m work.segment None) s.answers s.passes.left s.refused s.effect
    (few-entries (deed_found n s.value registers m work) work.segment (count_of m) (omega arith)
    (deed-short n s.value (view_of registers) m work.segment))

-- a commit found at most 256 entries
pub log-fits : (n : ℕ) (registers registers2 : List ℕ) (m m2 : ℕ → ℕ) (work work2 : Work) (w w2 : WorldState) (answer : Served)
    (c : Option Committed) → count_of m + 8 + work.block_length ≤ 256
    → Serves n registers m work w answer registers2 m2 work2 w2
    → ((P : Type 0) → OnPower answer P → P) → committed_in answer ≡ c → IfSome c (λ k. k.log ≤ 256)
log-fits n registers registers2 m m2 work work2 w w2 answer c room s power same =
    subst (λ x. IfSome x (λ k. k.log ≤ 256)) same
    (power (IsStepped work work2 w2.spent (committed_in answer))
    (answers n registers registers2 m m2 work work2 w w2 answer room s).stepped).log

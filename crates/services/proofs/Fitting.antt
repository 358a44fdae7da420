-- What a commit leaves is where the machine stands.
use Rattle.std.proofs.Common.{◌≡◌, ℕ, ◌+◌, ◌*◌, ◌%◌, ◌/◌, ◌≤◌, Bool, true, false, nat_lt, List, None, length, slice_index, refl, sym, ap, ◌∙◌, subst, arith, if◌then◌else◌}
use Rattle.std.proofs.Math.Path.{fun_ext}
use Rattle.std.proofs.lemmas.Bool.Decides.{nat_tests}
use Rattle.std.proofs.lemmas.List.{get_or_past}
use Rattle.world.specs.World.{WorldState}
use Rattle.core430.specs.Bytes.{word_address, byte_in}
use Rattle.core430.specs.Registers.{view_of}
use Rattle.board_map.specs.Recovered.{Machine, first, is_live, recovered, state_words}
use Rattle.board_map.specs.declared.work.Work.{Work}
use Rattle.ideal430.specs.Ideal.{Ideal}
use Rattle.ideal430.specs.Agreement.{Agrees, may_settle}
use Rattle.services.specs.Following.{Fits}
use Rattle.services.specs.Serving.{IsCommitted}

-- the sixteen registers, and 0 behind them
all-registers : (registers : List ℕ) → length registers ≡ 16 → first 16 (λ k. slice_index registers k) ≡ view_of registers
all-registers registers e = fun_ext (λ k. at k (nat_lt k 16) refl)
  where
    at : (k : ℕ) (b : Bool) → nat_lt k 16 ≡ b → (if b then slice_index registers k else 0) ≡ slice_index registers k
    at k true h = refl
    at k false h = let past : 16 ≤ k = grind (arith, nat_tests) in sym (get_or_past registers k 0 (omega arith))

-- the word of a byte that may count lives
settled-live : (r s : ℕ → ℕ) (segment b : ℕ) → s 0 ≡ segment → may_settle segment b ≡ true → is_live r s (word_address b) ≡ true
settled-live r s segment b e h = grind (arith, nat_tests)

if-live : (p : Bool) (x : ℕ) → p ≡ true → (if p then x else 0) ≡ x
if-live true x h = refl
if-live false x h = cc

marks-joined : (marks : ℕ) → marks % 65536 + 65536 * (marks / 65536) ≡ marks
marks-joined marks = omega arith

pub fits : (registers : List ℕ) (m : ℕ → ℕ) (work : Work) (s u : WorldState) → IsCommitted s u registers work m
    → length registers ≡ 16
    → (t : Ideal) → Agrees t (view_of registers) m work.segment None work.marks → Fits t m
fits registers m work s u c size t a =
    let words = state_words work.segment (if work.block_open then 1 else 0) work.block_length work.marks work.commits c.clock in
    let R = first 16 (λ k. slice_index registers k) in
    let S = first 9 (λ k. slice_index words k) in
    let segment : (recovered m).state 0 ≡ work.segment = ap (λ (x : Machine). x.state 0) c.is in
    let low : (recovered m).state 3 ≡ work.marks % 65536 = ap (λ (x : Machine). x.state 3) c.is in
    let high : (recovered m).state 4 ≡ work.marks / 65536 = ap (λ (x : Machine). x.state 4) c.is in
    let joined : (recovered m).state 3 + 65536 * (recovered m).state 4 ≡ work.marks =
    ap (λ k. k + 65536 * (recovered m).state 4) low ∙ ap (λ k. work.marks % 65536 + 65536 * k) high
    ∙ marks-joined work.marks in
    record {
      regs_are = a.regs_are ∙ sym (ap (λ (x : Machine). x.registers) c.is ∙ all-registers registers size);
      memory = record {
        at = λ b h. a.memory.at b h
            ∙ ap (byte_in b) (sym (ap (λ (x : Machine). x.memory (word_address b)) c.is
            ∙ if-live (is_live R S (word_address b)) (m (word_address b)) (settled-live R S work.segment b refl (a.within b h))));
      };
      segment_is = a.segment_is ∙ sym segment;
      block_is = a.block_is;
      marks_are = a.marks_are ∙ sym joined;
      fixed = a.fixed;
      within = λ b h. subst (λ x. may_settle x b ≡ true) (sym segment) (a.within b h);
    }

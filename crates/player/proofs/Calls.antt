-- A service as it is recorded.
use Rattle.std.proofs.Common.{◌≡◌, ℕ, ◌+◌, ◌≤◌, sym, ap, ◌∙◌, arith, Option, List, ◌++◌, length, drop, length-append}
use Rattle.std.proofs.lemmas.List.{drop_at}
use Rattle.base16.specs.Memory.{words_of}
use Rattle.base16.specs.declared.image.Scalar.{Scalar}
use Rattle.board_map.specs.declared.work.Work.{Work}
use Rattle.fram.specs.Contents.{Contents}
use Rattle.ideal430.specs.Service.{taken_of}
use Rattle.ideal430.specs.declared.service.Ask.{Ask}
use Rattle.ideal430.specs.declared.service.Ask.TheVariants.{Nothing, Sensor, Clock}
use Rattle.services.specs.Serving.{ask_found, committed_in, Serves}
use Rattle.services.specs.declared.acting.Committed.{Committed}
use Rattle.services.specs.declared.serving.Served.{Served}
use Rattle.world.specs.World.{WorldState}
use Rattle.world.specs.declared.history.Record.{Record}
use Rattle.player.specs.Playing.{now}
use Rattle.player.specs.Turning.{turn_of, read_records, commit_records, instrs_after, IsServed}
use Rattle.player.specs.declared.turning.Turn.{Turn}

one-taken : (a : Ask) (value : ℕ) → length (taken_of a value) ≤ 1
one-taken Nothing value = omega arith
one-taken (Sensor channel) value = omega arith
one-taken Clock value = omega arith

-- a service takes at most one reading
pub given-one : (n : ℕ) (registers registers2 : List ℕ) (m m2 : ℕ → ℕ) (work work2 : Work) (w w2 : WorldState) (answer : Served)
    (before : ℕ) → Serves n registers m work w answer registers2 m2 work2 w2 → before ≡ length w.readings
    → length w2.readings ≤ before + 1
given-one n registers registers2 m m2 work work2 w w2 answer before s e =
    let taken = taken_of (ask_found n registers m work) s.value in
    let k : length w2.readings ≡ length w.readings + length taken = ap length s.passes.readings
    ∙ length-append w.readings taken in
    let one : length taken ≤ 1 = one-taken (ask_found n registers m work) s.value in
    omega arith

pub recorded : (scalars : List Scalar) (n here : ℕ) (registers registers2 : List ℕ) (work work2 : Work)
    (records records1 records2 : List Record)
    (f f2 : Contents) (w w2 : WorldState) (instrs instrs2 before : ℕ) (result : Turn) (answer : Served) (c : Option Committed)
    → Serves n registers (words_of f.words) work w answer registers2 (words_of f2.words) work2 w2 → turn_of answer ≡ result
    → committed_in answer ≡ c → before ≡ length w.readings → records1 ≡ records ++ read_records (drop before w2.readings)
    → records2 ≡ records1 ++ commit_records scalars c registers2 work2 here (words_of f2.words)
    → instrs2 ≡ instrs_after c instrs here
    → length registers2 ≡ 16 → f2.poked ≡ f.poked
    → IsServed scalars n here registers work (now records f w) instrs result registers2 work2 (now records2 f2 w2) instrs2
recorded scalars n here registers registers2 work work2 records records1 records2 f f2 w w2 instrs instrs2 before result answer c
    s t ec eb r1 r2 i size poked =
    let taken = taken_of (ask_found n registers (words_of f.words) work) s.value in
    let given : drop before w2.readings ≡ taken = ap (drop before) s.passes.readings ∙ drop_at w.readings taken before (sym eb) in
    record {
      answer = answer;
      result_is = sym t;
      serves = s;
      records_are = r2 ∙ ap (λ x. x ++ commit_records scalars c registers2 work2 here (words_of f2.words))
          (r1 ∙ ap (λ x. records ++ read_records x) given)
          ∙ ap (λ x. (records ++ read_records taken) ++ commit_records scalars x registers2 work2 here (words_of f2.words))
          (sym ec);
      instrs_are = i ∙ ap (λ x. instrs_after x instrs here) (sym ec);
      sixteen = size;
      poked = poked;
    }

-- Values that are taken one after the other.
use Rattle.std.proofs.Common.{◌≡◌, ℕ, suc, ◌+◌, ◌-◌, ◌<◌, ◌≤◌, List, [], ◌∷◌, ◌++◌, reverse, arith, ap, sym, ◌∙◌, subst, refl}
use Rattle.std.proofs.lemmas.List.{reverse-append}
use Rattle.c_values.specs.declared.value.Value.{Value}
use Rattle.c_run.specs.declared.halt.Halt.{Halt}
use Rattle.c_run.specs.declared.halt.Halt.TheVariants as halt
use Rattle.c_run.specs.Runs.{Run, Outcome, Went, Action, and_then}
use Rattle.c_run.specs.Gives.{Halts}
use Rattle.ir.specs.declared.control.Temporary.{Temporary}
use Rattle.ir_steps.specs.Doing as d
use Rattle.ir_steps.specs.Doing.{Taken}

one_more : (n : ℕ) (ts : List Temporary) (found : List Value) (r : Run)
    → d.top_values (suc n) ts found r ≡ and_then (d.top_value ts r) (λ a. d.top_values n a.rest (a.value ∷ found))
unfolding d.top_values
one_more n ts found r = refl

pub values_turn : (count i : ℕ) (ts us : List Temporary) (found more : List Value) (v : Value) (r : Run) → i < count
    → d.top_value ts r ≡ Went (record { value = v; rest = us }) r → more ≡ found ++ v ∷ []
    → d.top_values (count - i) ts (reverse found) r ≡ d.top_values (count - (i + 1)) us (reverse more) r
values_turn count i ts us found more v r h is e =
    let n : count - i ≡ suc (count - (i + 1)) = omega arith in
    let grown : v ∷ reverse found ≡ reverse more = sym (ap reverse e ∙ reverse-append found (v ∷ [])) in
    ap (λ k. d.top_values k ts (reverse found) r) n
    ∙ one_more (count - (i + 1)) ts (reverse found) r
    ∙ ap (λ (o : Outcome (Taken Value)). and_then o (λ a. d.top_values (count - (i + 1)) a.rest (a.value ∷ reverse found))) is
    ∙ ap (λ xs. d.top_values (count - (i + 1)) us xs r) grown

pub values_end : (count i : ℕ) (ts : List Temporary) (found : List Value) (r : Run) → count ≤ i
    → d.top_values (count - i) ts found r ≡ Went (record { value = found; rest = ts }) r
unfolding d.top_values
values_end count i ts found r h = let n : count - i ≡ 0 = omega arith in ap (λ k. d.top_values k ts found r) n

pub halts_on : {A B : Type 0} (o : Outcome A) (f : A → Action B) (h : Halt) (q : Run) → Halts o h q → Halts (and_then o f) h q
halts_on o f halt.Live q x = ap (λ z. and_then z f) x
halts_on o f (halt.Ended kind) q x = ap (λ z. and_then z f) x
halts_on o f halt.NeedsReading q x = ap (λ z. and_then z f) x
halts_on o f (halt.Broken rule node) q x = ap (λ z. and_then z f) x
halts_on o f halt.NoMemory q x = tt

pub values_stop : (count i : ℕ) (ts : List Temporary) (found : List Value) (r q : Run) (h : Halt) → i < count
    → Halts (d.top_value ts r) h q
    → Halts (d.top_values (count - i) ts found r) h q
values_stop count i ts found r q h less x =
    let n : count - i ≡ suc (count - (i + 1)) = omega arith in
    subst (λ k. Halts (d.top_values k ts found r) h q) (sym n)
    (subst (λ o. Halts o h q) (sym (one_more (count - (i + 1)) ts found r)) (halts_on (d.top_value ts r) _ h q x))

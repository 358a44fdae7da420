-- A loaded board is where a machine starts, and so is one on which a playing can go on.
use Rattle.std.proofs.Common.{◌≡◌, ℕ, refl, sym, subst, arith, None, []}
use Rattle.base16.specs.Memory.{words_of}
use Rattle.fram.specs.Contents.{Contents}
use Rattle.ideal430.specs.Agreement.{Agrees}
use Rattle.ideal430.specs.Ideal.{Ideal, run, with_more}
use Rattle.ideal430.specs.Loaded.{start_of}
use Rattle.ideal430.specs.Uses.{IsClean}
use Rattle.player.specs.Form.{Phase}
use Rattle.player.specs.Playing.{Origin, origin, marks_of, commits_of, kept_in, story_in, HasRecovered, IsRunning, IsPlayable, Starts, started, Moment, Plays}

pub load-playable : (f : Contents) → ((k : ℕ) → (kept_in f).state k ≡ 0) → IsPlayable (kept_in f)
load-playable f zero_state =
    let a : (kept_in f).state 3 ≡ 0 = zero_state 3 in
    let b : (kept_in f).state 4 ≡ 0 = zero_state 4 in
    let c : (kept_in f).state 5 ≡ 0 = zero_state 5 in
    let d : (kept_in f).state 6 ≡ 0 = zero_state 6 in
    record {
      marks = omega (arith, a, b);
      commits = omega (arith, c, d);
      shut = record { block = zero_state 1; length = zero_state 2 };
    }

pub load-starts : (o : Origin) → ((k : ℕ) → (kept_in o.fram).state k ≡ 0)
    → Agrees (start_of (words_of o.fram.words) []) (kept_in o.fram).registers (kept_in o.fram).memory 0 None 0
    → Starts (started (words_of o.fram.words) o.world.period) o
load-starts o zero_state a =
    let segment : (kept_in o.fram).state 0 ≡ 0 = zero_state 0 in
    let c : (kept_in o.fram).state 3 ≡ 0 = zero_state 3 in
    let d : (kept_in o.fram).state 4 ≡ 0 = zero_state 4 in
    let e : (kept_in o.fram).state 5 ≡ 0 = zero_state 5 in
    let f : (kept_in o.fram).state 6 ≡ 0 = zero_state 6 in
    let marks : 0 ≡ marks_of (kept_in o.fram) = omega arith in
    let commits : 0 ≡ commits_of (kept_in o.fram) = omega arith in
    let t = started (words_of o.fram.words) o.world.period in
    let whole : Agrees t (kept_in o.fram).registers (kept_in o.fram).memory 0 None 0 =
    record {
      regs_are = a.regs_are;
      memory = a.memory;
      segment_is = a.segment_is;
      block_is = a.block_is;
      marks_are = a.marks_are;
      fixed = a.fixed;
      within = a.within;
    } in
    record {
      left = refl;
      at = record {
        fits = subst (λ n. Agrees t (kept_in o.fram).registers (kept_in o.fram).memory ((kept_in o.fram).state 0) None n) marks
            (subst (λ n. Agrees t (kept_in o.fram).registers (kept_in o.fram).memory n None 0) (sym segment) whole);
        fresh = record { ticks = refl; entries = refl; commits_are = commits; length = refl; period_is = refl };
        stands = refl;
      };
    }

-- where a playing left a machine that runs, another one may begin
pub keeps-start : (o : Origin) (form : Phase → Type 0) (a : Moment) (start : Ideal) → Plays o form IsRunning a → Starts start o
    → IsClean (story_in o a.records).last.instrs (with_more start (story_in o a.records).last.readings)
    → Starts (run (story_in o a.records).last.instrs (with_more start (story_in o a.records).last.readings))
    (origin a.fram a.world a.records o.scalars)
keeps-start o form a start p s clean =
    let k = p.keeps in
    let h = k.machine start s clean in
    let t = run (story_in o a.records).last.instrs (with_more start (story_in o a.records).last.readings) in
    record {
      left = h.0;
      at = subst (λ n. HasRecovered IsRunning n (words_of a.fram.words) t) (sym k.period) h.1;
    }

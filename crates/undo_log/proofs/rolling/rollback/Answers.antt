-- One word is put back in each turn.
use Rattle.std.proofs.Common.{◌≡◌, ◌+◌, ◌-◌, ◌<◌, ◌≤◌, suc, sym, ◌∙◌, ap, subst, arith}
use Rattle.std.proofs.lemmas.Result.{err_from_is_err_and}
use Rattle.base16.specs.Memory.{words_of}
use Rattle.board_map.specs.Map.{count_of}
use Rattle.board_map.specs.Recovered.{recovered}
use Rattle.fram.proofs.TickLemmas.{spends_step, takes_err}
use Rattle.undo_log.proofs.RollLemmas.{Back, back_step}
use Rattle.undo_log.proofs.rolling.rollback.Goals as goal

pub loop-left-preserved : goal.loop-left-preserved
loop-left-preserved g c =
    let k : c.loop-left.left ≡ suc (c.loop-left.left - 1) = omega arith in
    let k1 : c.loop-left.left ≡ (c.loop-left.left - 1) + 1 = omega arith in
    let within : c.loop-left.left ≤ count_of (words_of c.args.fram.now.words) =
    omega (arith, c.loop-left.invariant.within, c.loop-left.invariant.entries) in
    record {
      back = back_step (words_of c.args.fram.now.words) (words_of c.loop-left.fram.words) (words_of c.write.new.self.words)
          c.loop-left.left (c.loop-left.left - 1)
          c.undo_entry-address.result.0 c.undo_entry-address.result.1 c.loop-left.invariant.back k within
          c.undo_entry-address.ensures.address c.undo_entry-address.ensures.old c.in_ok-write.ensures.memory;
      within = omega (arith, c.loop-left.invariant.within);
      entries = c.loop-left.invariant.entries;
      ticks = λ n h. spends_step (g.W.World.state c.args.world.now) (g.W.World.state c.loop-left.world)
          (g.W.World.state c.write.new.world) c.loop-left.left (c.loop-left.left - 1) c.count-entries.result n k1
          c.loop-left.invariant.within c.loop-left.invariant.ticks c.in_ok-write.ensures.tick h;
      poked = c.write.ensures.poked ∙ c.loop-left.invariant.poked;
    }

pub returns-in_err-write-clause-ticks : goal.returns-in_err-write-clause-ticks
returns-in_err-write-clause-ticks g c =
    let p = err_from_is_err_and c.from_residual.result c.from_residual.ensures.1 in
    let n : (c.count-entries.result - c.loop-left.left) + c.loop-left.left ≡ c.count-entries.result =
    omega (arith, c.loop-left.invariant.within) in
    let less : c.count-entries.result - c.loop-left.left < count_of (words_of c.args.fram.now.words) =
    omega (arith, c.loop-left.invariant.within, c.loop-left.invariant.entries) in
    rw p.1 (takes_err (g.W.World.state c.args.world.now) (g.W.World.state c.loop-left.world)
    (g.W.World.state c.write.new.world) (c.count-entries.result - c.loop-left.left)
    (count_of (words_of c.args.fram.now.words))
    (c.loop-left.invariant.ticks (c.count-entries.result - c.loop-left.left) n) c.in_err-write.ensures.off
    c.in_err-write.ensures.world_kept less)

pub returns-in_err-write-clause-recovered : goal.returns-in_err-write-clause-recovered
returns-in_err-write-clause-recovered g c = ap (λ ws. recovered (words_of ws)) c.in_err-write.ensures.kept
    ∙ c.loop-left.invariant.back.recovered

pub returns-clause-undone : goal.returns-clause-undone
returns-clause-undone g c = λ b.
    let z : 0 ≡ c.loop-left.left = omega arith in
    let h : Back (words_of c.args.fram.now.words) 0 (words_of c.loop-left.fram.words) =
    subst (λ n. Back (words_of c.args.fram.now.words) n (words_of c.loop-left.fram.words)) (sym z)
    c.loop-left.invariant.back in
    h.back b

pub returns-in_err-write-clause-others : goal.returns-in_err-write-clause-others
returns-in_err-write-clause-others g c = λ b h. ap (λ ws. words_of ws b) c.in_err-write.ensures.kept
    ∙ c.loop-left.invariant.back.others b h

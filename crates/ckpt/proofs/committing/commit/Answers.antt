use Rattle.std.proofs.Common.{◌+◌, ◌∙◌, ap}
use Rattle.base16.specs.Memory.{words_of}
use Rattle.board_map.specs.Recovered.{machine_of, state_words}
use Rattle.std.specs.Prelude.{if◌then◌else◌}
use Rattle.fram.proofs.Outcomes.{always_err}
use Rattle.ckpt.proofs.committing.commit.Goals as goal

pub returns-in_err-switch-clause-off : goal.returns-in_err-switch-clause-off
returns-in_err-switch-clause-off g c = always_err c.from_residual.result c.in_err-switch.ensures.off

pub returns-clause-committed : goal.returns-clause-committed
returns-clause-committed g c = c.in_ok-switch.ensures.committed
    ∙ ap (λ s. machine_of c.args.regs.now.r s (words_of c.args.fram.now.words))
    (c.state_of-state.ensures ∙ ap (λ k. state_words c.args.work.now.segment (if c.args.work.now.block_open then 1 else 0)
    c.args.work.now.block_length c.args.work.now.marks (c.args.work.now.commits + 1) k) c.clock-clock.ensures.value)

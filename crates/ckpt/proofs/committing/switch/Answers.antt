-- The slot, its count, and then the gate.
use Rattle.std.proofs.Common.{◌≡◌, ◌-◌, ◌∙◌, ap, subst, sym}
use Rattle.std.proofs.lemmas.Result.{on_ok_weaker, on_err_weaker}
use Rattle.base16.specs.Memory.{words_of}
use Rattle.board_map.specs.Recovered.{recovered}
use Rattle.board_map.specs.WellFormed.{IsWellFormed}
use Rattle.ckpt.specs.Slot.{Fills}
use Rattle.ckpt.proofs.SlotLemmas.{count_step, gate_step}
use Rattle.fram.proofs.Outcomes.{always_err, either}
use Rattle.ckpt.proofs.committing.switch.Goals as goal

pub returns-in_err-fill-clause-off : goal.returns-in_err-fill-clause-off
returns-in_err-fill-clause-off g c = always_err c.from_residual.result c.fill.ensures.kept.recovered

pub returns-in_err-write-clause-off : goal.returns-in_err-write-clause-off
returns-in_err-write-clause-off g c = always_err c.from_residual-in_err-write.result
    (ap (λ ws. recovered (words_of ws)) c.in_err-write.ensures.kept ∙ c.fill.ensures.kept.recovered)

pub returns-clause-committed : goal.returns-clause-committed
returns-clause-committed g c =
    on_ok_weaker c.write-2.result (λ e. (gate_step (words_of c.args.fram.now.words) (words_of c.fill.new.fram.words)
    (words_of c.write.new.self.words) (words_of c.write-2.new.self.words) (1 - c.gate-other.result) c.args.regs.now.r
    c.args.state.now
    c.in_ok-fill.ensures.filled (ap (λ n. 1 - n) c.gate-other.ensures) c.in_ok-write.ensures.memory e c.requires.segment
    c.requires.open c.requires.length c.requires.block).recovered) c.write-2.ensures.memory

pub returns-clause-off : goal.returns-clause-off
returns-clause-off g c =
    let k : Fills (1 - c.gate-other.result) c.args.regs.now.r c.args.state.now 153 (words_of c.args.fram.now.words)
    (words_of c.write.new.self.words) =
    count_step (words_of c.args.fram.now.words) (words_of c.fill.new.fram.words) (words_of c.write.new.self.words)
    (1 - c.gate-other.result) c.args.regs.now.r c.args.state.now c.in_ok-fill.ensures.filled
    (ap (λ n. 1 - n) c.gate-other.ensures) c.in_ok-write.ensures.memory in
    on_err_weaker c.write-2.result (λ (e : c.write-2.new.self.words ≡ c.write.new.self.words).
    ap (λ ws. recovered (words_of ws)) e ∙ k.recovered) c.write-2.ensures.kept

pub returns-clause-well_formed : goal.returns-clause-well_formed
returns-clause-well_formed g c =
    let k : Fills (1 - c.gate-other.result) c.args.regs.now.r c.args.state.now 153 (words_of c.args.fram.now.words)
    (words_of c.write.new.self.words) =
    count_step (words_of c.args.fram.now.words) (words_of c.fill.new.fram.words) (words_of c.write.new.self.words)
    (1 - c.gate-other.result) c.args.regs.now.r c.args.state.now c.in_ok-fill.ensures.filled
    (ap (λ n. 1 - n) c.gate-other.ensures) c.in_ok-write.ensures.memory in
    either c.write-2.result
    (on_ok_weaker c.write-2.result (λ e. (gate_step (words_of c.args.fram.now.words) (words_of c.fill.new.fram.words)
    (words_of c.write.new.self.words) (words_of c.write-2.new.self.words) (1 - c.gate-other.result) c.args.regs.now.r
    c.args.state.now
    c.in_ok-fill.ensures.filled (ap (λ n. 1 - n) c.gate-other.ensures) c.in_ok-write.ensures.memory e c.requires.segment
    c.requires.open c.requires.length c.requires.block).well_formed) c.write-2.ensures.memory)
    (on_err_weaker c.write-2.result (λ (e : c.write-2.new.self.words ≡ c.write.new.self.words).
    subst (λ ws. IsWellFormed (words_of ws)) (sym e) k.well_formed) c.write-2.ensures.kept)

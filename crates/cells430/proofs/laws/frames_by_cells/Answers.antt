use Rattle.std.proofs.Common.{◌≡◌, ℕ, ◌+◌, ◌≤◌, refl, sym, ap, ◌∙◌, subst, arith, true, false}
use Rattle.base16.specs.Board.{segment_top}
use Rattle.std.proofs.lemmas.Bool.{eq-eqb}
use Rattle.core430.proofs.Truths.{and-both}
use Rattle.ideal430.specs.declared.state.IdealEnd.TheVariants.{Running}
use Rattle.cells430.specs.Cells.{Shape, unlinked}
use Rattle.cells430.specs.Stretch.{outside, at, Ground, Comes}
use Rattle.cells430.specs.Scenes.{returned_to}
use Rattle.cells430.proofs.Frames.{enters, enter_full, leaves, no_link_below}
use Rattle.cells430.proofs.Segments.{enters_next, leaves_link}
use Rattle.cells430.proofs.laws.frames_by_cells.Goals as goal

pub returns-clause-enter : goal.returns-clause-enter
returns-clause-enter c = λ x h here frame below fits.
    enters x.code x.lo x.hi x.segment x.sp x.pointers h.grounded x.cells h.shape x.regs x.memory x.settled
    (outside x.marks x.left) x.meter (x.regs 15) h.facts h.words here h.stack refl frame.0 frame.1 frame.2 fits below

pub returns-clause-next : goal.returns-clause-next
returns-clause-next c = λ x h here frame below full few.
    enters_next x.code x.lo x.hi x.segment x.sp x.pointers h.grounded x.cells h.shape x.regs x.memory x.settled x.marks x.left
    x.meter (x.regs 15) h.facts h.words here h.stack refl frame.0 frame.1 frame.2 full below few

pub returns-clause-no_place : goal.returns-clause-no_place
returns-clause-no_place c = λ x h here frame below full top.
    enter_full x.code x.lo x.hi x.segment x.sp x.pointers h.grounded x.cells h.shape x.regs x.memory x.settled
    (outside x.marks x.left) x.meter (x.regs 15) h.facts h.words here h.stack refl frame.0 frame.1 frame.2 full below top

pub returns-clause-leave : goal.returns-clause-leave
returns-clause-leave c = λ x word h here frame below no_link inner cell.
    leaves x.code x.lo x.hi x.segment x.sp x.pointers h.grounded x.cells h.shape x.regs x.memory x.settled
    (outside x.marks x.left) x.meter (x.regs 15) (x.sp + x.regs 15) word false h.facts h.words here h.stack refl frame.0
    frame.1 frame.2 refl below no_link
    inner cell

pub returns-clause-end : goal.returns-clause-end
returns-clause-end c = λ x word h here frame first last cell.
    leaves x.code x.lo x.hi x.segment x.sp x.pointers h.grounded x.cells h.shape x.regs x.memory x.settled
    (outside x.marks x.left) x.meter (x.regs 15) (x.sp + x.regs 15) word true h.facts h.words here h.stack refl frame.0 frame.1
    frame.2 refl
    (top_is x.segment (x.sp + x.regs 15) first last) (no_link_below x.segment (x.sp + x.regs 15) first)
    (and-both (eq-eqb x.segment 0 first) (eq-eqb (x.sp + x.regs 15) 0x20FE last)) cell
  where
    top_is : (g end : ℕ) → g ≡ 0 → end ≡ 0x20FE → end + 2 ≤ segment_top g
    top_is g end e k = omega arith

pub returns-clause-back : goal.returns-clause-back
returns-clause-back c = λ x below link word h here frame up top cell low high cell2.
    subst (λ (k : ℕ). Comes x.code x.lo x.hi (at k x.pointers x.regs x.memory x.settled (outside x.marks x.left) x.meter)
    Running below x.pointers (returned_to x word link) (outside (x.marks + 1) x.left) (unlinked below (link + 2) x.cells))
    (sym up)
    (leaves_link x.code x.lo x.hi below x.sp x.pointers (subst (λ (k : ℕ). Ground x.lo x.hi k x.sp) up h.grounded) x.cells
    (subst (λ (k : ℕ). Shape k x.sp x.pointers x.cells) up h.shape) x.regs x.memory x.settled
    (outside x.marks x.left) x.meter (x.regs 15) (x.sp + x.regs 15) link word h.facts h.words here h.stack refl frame.0 frame.1
    frame.2 refl
    (top ∙ ap segment_top up) cell low high cell2)

-- A line more was put, or a front of it.
use Rattle.std.proofs.Common.{◌+◌, ◌++◌, List, ℕ, sym, subst, take, drop, arith}
use Rattle.std.specs.List.{concat}
use Rattle.edge.specs.Told.{Appends, AppendsFront}
use Rattle.tics_call.proofs.PrintLaws.{appends_more, front_more, front_failed, concat_more, concat_whole}
use Rattle.tics_call.proofs.print.print.Goals as goal

pub returns-in-Err-clause-front : goal.returns-in-Err-clause-front
returns-in-Err-clause-front g c =
    let lines = c.args.lines.now in
    let i = c.loop-line.line-index in
    let part = front_failed c.put.result (g.K.Sink.bytes c.loop-line.out)
    (g.K.Sink.bytes c.put.new.self) c.as_slice.result.now c.in-Err.error c.in-Err.is c.put.ensures.front
    c.put.ensures.no_memory in
    let front = front_more (g.K.Sink.bytes c.args.out.now) (g.K.Sink.bytes c.loop-line.out) (g.K.Sink.bytes c.put.new.self)
    (concat (take i lines)) c.as_slice.result.now (concat (drop (i + 1) lines)) c.loop-line.invariant.put part in
    subst (λ (t : List ℕ). AppendsFront (g.K.Sink.bytes c.args.out.now) (g.K.Sink.bytes c.put.new.self) t)
    (sym (concat_whole lines i c.line-item.result c.loop-line-test.true c.line-item.is))
    (subst (λ (t : List ℕ). AppendsFront (g.K.Sink.bytes c.args.out.now) (g.K.Sink.bytes c.put.new.self)
    (concat (take i lines) ++ (t ++ concat (drop (i + 1) lines)))) c.as_slice.ensures front)

pub loop-line-preserved : goal.loop-line-preserved
loop-line-preserved g c =
    let lines = c.args.lines.now in
    let i = c.loop-line.line-index in
    let put = appends_more (g.K.Sink.bytes c.args.out.now) (g.K.Sink.bytes c.loop-line.out) (g.K.Sink.bytes c.put.new.self)
    (concat (take i lines)) c.as_slice.result.now c.loop-line.invariant.put c.in-Ok.ensures.ok in
    record {
      put = subst (λ (t : List ℕ). Appends (g.K.Sink.bytes c.args.out.now) (g.K.Sink.bytes c.put.new.self) t)
          (sym (concat_more lines i c.line-item.result c.loop-line-test.true c.line-item.is))
          (subst (λ (t : List ℕ). Appends (g.K.Sink.bytes c.args.out.now) (g.K.Sink.bytes c.put.new.self)
          (concat (take i lines) ++ t)) c.as_slice.ensures put);
      rises = omega (arith, c.put.ensures.never_falls, c.loop-line.invariant.rises);
    }

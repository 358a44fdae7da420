-- One store more is made.
use Rattle.std.proofs.Common.{◌≡◌, ◌+◌, ◌∙◌, ap, sym, take, List, [], ◌∷◌, ◌++◌}
use Rattle.std.specs.Prelude.{map}
use Rattle.std.proofs.lemmas.List.{take_more}
use Rattle.tics_call.specs.declared.meaning.Variable.{Variable}
use Rattle.tics_call.specs.declared.source.Store.{Store}
use Rattle.tics_call.specs.Run.{global_after, assigned}
use Rattle.tics_call.proofs.RunLaws.{all_assigned}
use Rattle.tics_call.proofs.meaning.run.Goals as goal

pub loop-store-preserved : goal.loop-store-preserved
loop-store-preserved c =
    let more : take (c.loop-store.store-index + 1) c.as_slice-stores.result.now ≡ take c.loop-store.store-index
    c.as_slice-stores.result.now ++ c.store-item.result ∷ [] =
    take_more c.as_slice-stores.result.now c.loop-store.store-index c.store-item.result c.loop-store-test.true
    ∙ ap (λ (s : Store). take c.loop-store.store-index c.as_slice-stores.result.now ++ s ∷ []) (sym c.store-item.is) in
    c.assign.ensures ∙ (ap (λ (vs : List Variable). map (assigned c.store-item.result) vs) c.loop-store.invariant
    ∙ (all_assigned c.args.program.now.names (take c.loop-store.store-index c.as_slice-stores.result.now) c.store-item.result
    ∙ ap (λ (ss : List Store). map (global_after ss) c.args.program.now.names) (sym more)))

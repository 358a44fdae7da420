use Rattle.std.proofs.Common.{◌∙◌, sym, ap, subst, [], ◌∷◌}
use Rattle.base16.specs.Memory.{words_of}
use Rattle.board_map.specs.Recovered.{Machine}
use Rattle.ideal430.specs.Shown.{stores_shown}
use Rattle.services.specs.Serving.{ArePlaced}
use Rattle.services.proofs.Stores.{made-stores, made-none, made-one, made-two, made-cut}
use Rattle.services.proofs.storing.make_all.Goals as goal

pub make-requires-clause-placed : goal.make-requires-clause-placed
make-requires-clause-placed g c =
    (subst (λ s. ArePlaced c.args.work.now.segment (stores_shown s)) c.in-One.is c.requires.placed).0

pub make-requires-in-Two-clause-placed : goal.make-requires-in-Two-clause-placed
make-requires-in-Two-clause-placed g c =
    (subst (λ s. ArePlaced c.args.work.now.segment (stores_shown s)) c.in-Two.is c.requires.placed).0

pub make-requires-in-Ok-clause-placed : goal.make-requires-in-Ok-clause-placed
make-requires-in-Ok-clause-placed g c =
    (subst (λ s. ArePlaced c.args.work.now.segment (stores_shown s)) c.in-Two.is c.requires.placed).1.0

pub make-requires-in-Ok-clause-segment : goal.make-requires-in-Ok-clause-segment
make-requires-in-Ok-clause-segment g c = c.requires.segment
    ∙ sym (ap (λ (r : Machine). r.state 0) c.make-in-Two.ensures.made.recovered)

pub returns-in-NoStore-clause-made : goal.returns-in-NoStore-clause-made
returns-in-NoStore-clause-made g c =
    made-stores c.args.work.now.segment (stores_shown c.args.stores) [] _ _ _ _ _ (ap stores_shown c.in-NoStore.is)
    (made-none _ c.args.work.now.segment (words_of c.args.fram.now.words) _ c.requires.well_formed c.clock-clock.ensures.lawful)

pub returns-in-One-clause-made : goal.returns-in-One-clause-made
returns-in-One-clause-made g c =
    made-stores c.args.work.now.segment (stores_shown c.args.stores) (c.in-One.only ∷ []) _ _ _ _ _ (ap stores_shown c.in-One.is)
    (made-one c.args.work.now.segment c.in-One.only _ _ _ _ _ c.make.ensures.made)

pub returns-in-Ok-clause-made : goal.returns-in-Ok-clause-made
returns-in-Ok-clause-made g c =
    made-stores c.args.work.now.segment (stores_shown c.args.stores) (c.in-Two.first ∷ c.in-Two.second ∷ []) _ _ _ _ _
    (ap stores_shown c.in-Two.is)
    (made-two _ c.args.work.now.segment c.in-Two.first c.in-Two.second _ _ _ _ _ _ _
    (subst (λ s. ArePlaced c.args.work.now.segment
    (stores_shown s)) c.in-Two.is c.requires.placed).1.0 c.in-Ok.ensures.made c.make-in-Ok.ensures.made)

pub returns-in-Err-clause-made : goal.returns-in-Err-clause-made
returns-in-Err-clause-made g c =
    made-stores c.args.work.now.segment (stores_shown c.args.stores) (c.in-Two.first ∷ c.in-Two.second ∷ []) _ _ _ _ _
    (ap stores_shown c.in-Two.is)
    (made-cut c.args.work.now.segment c.in-Two.first (c.in-Two.second ∷ []) _ _ _ _ _ _ c.in-Err.ensures.made)

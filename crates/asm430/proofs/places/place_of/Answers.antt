use Rattle.std.proofs.Common.{◌∙◌, ap, subst, ℕ, Option}
use Rattle.std.specs.Prelude.{IfSome}
use Rattle.std.specs.BTreeMap.{BTreeMap}
use Rattle.asm430.specs.LabelTable.{HasLabels}
use Rattle.std.specs.Option.{option_flatten}
use Rattle.asm430.proofs.Labels.{looked_up, place_within, place_small}
use Rattle.asm430.proofs.places.place_of.Goals as goal

pub returns-in-Some-clause-value : goal.returns-in-Some-clause-value
returns-in-Some-clause-value c = c.flatten.ensures ∙ ap option_flatten (c.copied.ensures ∙ c.get.ensures.value) ∙ looked_up _ c.in-Some.table _ (subst (λ (o : Option (BTreeMap ℕ (Option ℕ))). IfSome o (HasLabels c.args.items.now)) c.in-Some.is c.requires.table)

pub returns-in-Some-clause-within : goal.returns-in-Some-clause-within
returns-in-Some-clause-within c = place_within _ c.args.label _ (returns-in-Some-clause-value c)

pub returns-in-Some-clause-small : goal.returns-in-Some-clause-small
returns-in-Some-clause-small c = place_small _ c.args.label _ c.requires.few (returns-in-Some-clause-value c)

pub returns-in-None-clause-within : goal.returns-in-None-clause-within
returns-in-None-clause-within c = place_within _ _ _ c.walked_place.ensures

pub returns-in-None-clause-small : goal.returns-in-None-clause-small
returns-in-None-clause-small c = place_small _ _ _ c.requires.few c.walked_place.ensures

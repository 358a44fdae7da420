-- What is no name or no number makes no store.
use Rattle.tics_call.proofs.PartLaws.{its_name, its_number}
use Rattle.tics_call.proofs.parts.store_of.Goals as goal

pub returns-in_default-name_of : goal.returns-in_default-name_of
returns-in_default-name_of c = λ s h. c.in_default-name_of.ensures s.name
    (its_name s _ _ _ _ _ h c.in-Some.ensures.1 c.in-Some-assignment_of.ensures)

pub returns-in_default-number_of : goal.returns-in_default-number_of
returns-in_default-number_of c = λ s h. c.in_default-number_of.ensures s.value h.fits
    (its_number s _ _ _ _ _ h c.in-Some.ensures.1 c.in-Some-assignment_of.ensures)

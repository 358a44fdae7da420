use Rattle.c_fitting_laws.proofs.Sources.{text_fits}
use Rattle.c_fitting_laws.proofs.laws.text_fits.Goals as goal

pub returns : goal.returns
returns c = text_fits

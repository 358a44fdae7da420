use Rattle.c_fitting_laws.proofs.Sources.{spelled_fits}
use Rattle.c_fitting_laws.proofs.laws.spelled_fits.Goals as goal

pub returns : goal.returns
returns c = spelled_fits

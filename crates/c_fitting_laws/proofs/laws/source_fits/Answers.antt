use Rattle.c_fitting_laws.proofs.Lexed.{source_fits}
use Rattle.c_fitting_laws.proofs.laws.source_fits.Goals as goal

pub returns : goal.returns
returns c = source_fits

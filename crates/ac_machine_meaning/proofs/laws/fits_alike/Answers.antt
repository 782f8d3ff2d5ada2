use Rattle.ac_machine_meaning.proofs.Fits.{fits_alike}
use Rattle.ac_machine_meaning.proofs.laws.fits_alike.Goals as goal

pub returns : goal.returns
returns c = fits_alike

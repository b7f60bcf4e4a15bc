use Rattle.mcf_lower.proofs.Circulations.{fits_cheapest}
use Rattle.mcf_lower.proofs.laws.fits_cheapest.Goals as goal

pub returns : goal.returns
returns c = fits_cheapest

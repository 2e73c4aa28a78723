use Rattle.wellformed.proofs.Fitting.{fits_are}
use Rattle.wellformed.proofs.fits.Goals as goal

pub returns : goal.returns
returns c = record { is = fits_are _ _ _ _ _ c.has_keys.ensures.is; low = c.has_keys.ensures.low }

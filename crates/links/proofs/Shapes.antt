-- What has passed the check is well formed.
use Rattle.model.specs.WellFormed.{WellFormed}
use Rattle.theory.proofs.Check.{check_sound}
use Rattle.links.specs.declared.types.Sound.{Sound}
use Rattle.links.specs.Bundles.{viewed}

pub sound_well : (s : Sound) → WellFormed (viewed s.view)
sound_well s = check_sound (viewed s.view) s.shaped

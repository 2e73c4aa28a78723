use Rattle.wellformed.proofs.Tallies.{stray_both}
use Rattle.wellformed.proofs.counts.is_stray.Goals as goal

pub returns : goal.returns
returns c = stray_both _ _ _

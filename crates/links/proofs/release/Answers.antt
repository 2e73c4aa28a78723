use Rattle.links.proofs.Writing.{released}
use Rattle.links.proofs.release.Goals as goal

pub returns : goal.returns
returns c =
    released c.set_links.ensures

use Rattle.removal.proofs.Detaching.{detached}
use Rattle.removal.proofs.detach.Goals as goal

pub returns : goal.returns
returns c =
    detached c.requires c.parent-parent.ensures c.adopt.ensures c.replace_child.ensures c.release.ensures

use Rattle.turns.proofs.Rotations.{rotated}
use Rattle.turns.proofs.rotate.Goals as goal

pub returns : goal.returns
returns c =
    rotated c.requires c.get-upper.ensures c.get-middle.ensures c.set.ensures c.adopt.ensures c.parent-parent.ensures
    c.set_parent.ensures c.replace_child.ensures c.set-2.ensures c.set_parent-2.ensures

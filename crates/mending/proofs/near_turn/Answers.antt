use Rattle.mending.proofs.Turning.{near_color, near_color_2, near_rotate, near_parent, near_parent_2, near_far}
use Rattle.mending.proofs.Turning.{near_turned}
use Rattle.mending.proofs.near_turn.Goals as goal

pub set_color-requires : goal.set_color-requires
set_color-requires c =
    near_color c.requires

pub set_color-requires-2 : goal.set_color-requires-2
set_color-requires-2 c =
    near_color_2 c.requires c.set_color.ensures

pub rotate-requires : goal.rotate-requires
rotate-requires c =
    near_rotate c.requires c.set_color.ensures c.set_color-2.ensures

pub parent-upper-requires : goal.parent-upper-requires
parent-upper-requires c =
    near_parent c.requires c.set_color.ensures c.set_color-2.ensures c.rotate.ensures

pub parent-parent-requires : goal.parent-parent-requires
parent-parent-requires c =
    near_parent_2 c.requires c.set_color.ensures c.set_color-2.ensures c.rotate.ensures c.parent-upper.ensures

pub far_turn-requires : goal.far_turn-requires
far_turn-requires c =
    near_far c.requires c.set_color.ensures c.set_color-2.ensures c.rotate.ensures c.parent-upper.ensures
    c.parent-parent.ensures

pub returns : goal.returns
returns c =
    near_turned c.requires c.set_color.ensures c.set_color-2.ensures c.rotate.ensures c.parent-upper.ensures
    c.parent-parent.ensures c.far_turn.ensures

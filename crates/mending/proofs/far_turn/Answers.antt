use Rattle.mending.proofs.Turning.{far_turned}
use Rattle.mending.proofs.far_turn.Goals as goal

pub returns : goal.returns
returns c =
    far_turned c.requires c.color-color.ensures c.set_color.ensures c.set_color-2.ensures c.get-outer.ensures
    c.set_color-3.ensures c.rotate.ensures

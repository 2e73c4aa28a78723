use Rattle.hanging.proofs.Settling.{settle_color, settle_rotate, settled}
use Rattle.hanging.proofs.settle.Goals as goal

pub set_color-requires-2 : goal.set_color-requires-2
set_color-requires-2 c =
    settle_color c.requires c.parent-parent.ensures c.set_color.ensures c.parent-grand.ensures

pub rotate-requires : goal.rotate-requires
rotate-requires c =
    settle_rotate c.requires c.parent-parent.ensures c.set_color.ensures c.parent-grand.ensures c.set_color-2.ensures

pub returns : goal.returns
returns c =
    settled c.requires c.parent-parent.ensures c.set_color.ensures c.parent-grand.ensures c.set_color-2.ensures
    c.rotate.ensures

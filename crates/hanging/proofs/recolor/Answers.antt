use Rattle.hanging.proofs.Uncles.{recolor_paint, recolor_done}
use Rattle.hanging.proofs.recolor.Goals as goal

pub paint_top-requires : goal.paint_top-requires
paint_top-requires c =
    recolor_paint c.requires c.parent-parent.ensures c.set_color.ensures c.parent-grand.ensures

pub returns : goal.returns
returns c =
    recolor_done c.requires c.parent-parent.ensures c.set_color.ensures c.parent-grand.ensures c.paint_top.ensures
    c.set_color-2.ensures

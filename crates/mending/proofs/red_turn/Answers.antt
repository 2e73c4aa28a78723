use Rattle.mending.proofs.Lowering.{red_color, red_color_2, red_rotate, red_get, red_get_2, red_turned}
use Rattle.mending.proofs.red_turn.Goals as goal

pub set_color-requires : goal.set_color-requires
set_color-requires c =
    red_color c.requires

pub set_color-requires-2 : goal.set_color-requires-2
set_color-requires-2 c =
    red_color_2 c.requires c.set_color.ensures

pub rotate-requires : goal.rotate-requires
rotate-requires c =
    red_rotate c.requires c.set_color.ensures c.set_color-2.ensures

pub get-below-requires : goal.get-below-requires
get-below-requires c =
    red_get c.requires c.set_color.ensures c.set_color-2.ensures c.rotate.ensures

pub get-requires : goal.get-requires
get-requires c =
    red_get_2 c.requires c.set_color.ensures c.set_color-2.ensures c.rotate.ensures c.get-below.ensures

pub returns : goal.returns
returns c =
    red_turned c.requires c.set_color.ensures c.set_color-2.ensures c.rotate.ensures c.get-below.ensures c.get.ensures

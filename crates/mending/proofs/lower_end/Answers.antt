use Rattle.mending.proofs.Lowering.{lower_get, lower_get_2, lower_red, lower_red_2, lower_far, lowered_far}
use Rattle.mending.proofs.Lowering.{lower_near, lowered_near, lower_color, lower_color_2, lowered_none}
use Rattle.mending.proofs.lower_end.Goals as goal

pub get-outer-requires : goal.get-outer-requires
get-outer-requires c =
    lower_get c.requires

pub is_red-requires : goal.is_red-requires
is_red-requires c =
    lower_red c.requires c.get-outer.ensures

pub far_turn-requires : goal.far_turn-requires
far_turn-requires c =
    lower_far c.requires c.get-outer.ensures c.is_red.ensures c.if-is_red.true

pub returns-then-is_red : goal.returns-then-is_red
returns-then-is_red c =
    lowered_far c.requires c.get-outer.ensures c.is_red.ensures c.if-is_red.true c.far_turn.ensures

pub get-inner-requires : goal.get-inner-requires
get-inner-requires c =
    lower_get_2 c.requires

pub is_red-requires-2 : goal.is_red-requires-2
is_red-requires-2 c =
    lower_red_2 c.requires c.get-inner.ensures

pub near_turn-requires : goal.near_turn-requires
near_turn-requires c =
    lower_near c.requires c.get-outer.ensures c.is_red.ensures c.if-is_red.false c.get-inner.ensures c.is_red-2.ensures
    c.if-is_red-2.true

pub returns-then-is_red-2 : goal.returns-then-is_red-2
returns-then-is_red-2 c =
    lowered_near c.requires c.get-outer.ensures c.is_red.ensures c.if-is_red.false c.get-inner.ensures
    c.is_red-2.ensures c.if-is_red-2.true c.near_turn.ensures

pub set_color-requires : goal.set_color-requires
set_color-requires c =
    lower_color c.requires

pub set_color-requires-2 : goal.set_color-requires-2
set_color-requires-2 c =
    lower_color_2 c.requires c.set_color.ensures

pub returns : goal.returns
returns c =
    lowered_none c.requires c.get-outer.ensures c.is_red.ensures c.if-is_red.false c.get-inner.ensures
    c.is_red-2.ensures c.if-is_red-2.false c.set_color.ensures c.set_color-2.ensures

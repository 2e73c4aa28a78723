use Rattle.wellformed.proofs.Tips.{tip_past, tip_count}
use Rattle.wellformed.proofs.end_check.Goals as goal

pub returns-then-view-at : goal.returns-then-view-at
returns-then-view-at c =
    tip_past _ c.requires c.pick-at.ensures _ _ c.if-view-at.true

pub returns : goal.returns
returns c =
    tip_count _ c.requires c.pick-at.ensures _ _ c.if-view-at.false c.is_red_end-good.ensures
    c.end_count.ensures

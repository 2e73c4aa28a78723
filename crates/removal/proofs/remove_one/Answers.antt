use Rattle.removal.proofs.Finishing.{one_color, one_sibling, one_detach, one_finish, one_done}
use Rattle.removal.proofs.remove_one.Goals as goal

pub color-color-requires : goal.color-color-requires
color-color-requires c =
    one_color c.requires

pub sibling-sibling-requires : goal.sibling-sibling-requires
sibling-sibling-requires c =
    one_sibling c.requires

pub detach-requires : goal.detach-requires
detach-requires c =
    one_detach c.requires

pub finish_remove-requires : goal.finish_remove-requires
finish_remove-requires c =
    one_finish c.requires c.color-color.ensures c.sibling-sibling.ensures
    c.or_none.result c.or_none.ensures c.detach.ensures

pub returns : goal.returns
returns c =
    one_done c.requires c.color-color.ensures c.sibling-sibling.ensures
    c.or_none.result c.or_none.ensures c.detach.ensures c.finish_remove.ensures

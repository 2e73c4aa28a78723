use Rattle.removal.proofs.Moving.{two_get, two_color, two_sibling, two_detach, two_replace, two_finish, two_done}
use Rattle.removal.proofs.remove_two.Goals as goal

pub get-child-requires : goal.get-child-requires
get-child-requires c =
    two_get c.requires

pub color-color-requires : goal.color-color-requires
color-color-requires c =
    two_color c.requires

pub sibling-sibling-requires : goal.sibling-sibling-requires
sibling-sibling-requires c =
    two_sibling c.requires

pub detach-requires : goal.detach-requires
detach-requires c =
    two_detach c.requires c.get-child.ensures

pub replace_with-requires : goal.replace_with-requires
replace_with-requires c =
    two_replace c.requires c.get-child.ensures c.detach.ensures

pub finish_remove-requires : goal.finish_remove-requires
finish_remove-requires c =
    two_finish c.requires c.get-child.ensures c.detach.ensures c.color-color.ensures c.sibling-sibling.ensures
    c.or_none.result c.or_none.ensures c.replace_with.ensures

pub returns : goal.returns
returns c =
    two_done c.requires c.get-child.ensures c.detach.ensures c.color-color.ensures c.sibling-sibling.ensures
    c.or_none.result c.or_none.ensures c.replace_with.ensures c.finish_remove.ensures

use Rattle.links.proofs.Writing.{links_set}
use Rattle.links.proofs.set_links.Goals as goal

pub returns : goal.returns
returns c =
    links_set c.set.ensures c.set-2.ensures c.set_parent_color.ensures

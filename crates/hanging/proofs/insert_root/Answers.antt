use Rattle.hanging.proofs.Inserting.{root_links, planted}
use Rattle.hanging.proofs.insert_root.Goals as goal

pub set_links-requires : goal.set_links-requires
set_links-requires c =
    root_links c.requires

pub returns : goal.returns
returns c =
    planted c.requires c.set_links.ensures

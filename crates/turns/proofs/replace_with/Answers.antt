use Rattle.turns.proofs.Replacing.{replaced_with}
use Rattle.turns.proofs.replace_with.Goals as goal

pub returns : goal.returns
returns c =
    replaced_with c.requires c.parent-parent.ensures c.color-color.ensures c.get-first.ensures c.get-second.ensures
    c.replace_child.ensures c.adopt.ensures c.adopt-2.ensures c.set_links.ensures c.release.ensures

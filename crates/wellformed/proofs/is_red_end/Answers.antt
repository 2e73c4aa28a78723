use Rattle.model.specs.Lent.{pc_of, child_of, key_of}
use Rattle.wellformed.proofs.Nodes.{tip_good}
use Rattle.wellformed.proofs.is_red_end.Goals as goal

pub returns : goal.returns
unfolding pc_of child_of key_of
returns c =
    tip_good _ _ _ _ _ c.number_at-mark.ensures c.number_at-left.ensures c.number_at-right.ensures
    c.key_of-key.ensures c.between.ensures

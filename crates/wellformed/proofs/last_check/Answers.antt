use Rattle.theory.specs.Quick.{black_ends}
use Rattle.wellformed.proofs.Nodes.{under_bad, under_good}
use Rattle.wellformed.proofs.Tips.{tips_fit}
use Rattle.wellformed.proofs.last_check.Goals as goal

pub returns-in_default : goal.returns-in_default
unfolding black_ends
returns-in_default c =
    under_bad c.node_at.ensures _ c.in_default.is

pub sum_of-requires : goal.sum_of-requires
sum_of-requires c =
    tips_fit _ _ _ _ _ _ _ c.end_check-x.ensures c.end_check-y.ensures

pub returns : goal.returns
unfolding black_ends
returns c =
    under_good c.node_at.ensures _ c.in-Some.is c.end_check-x.ensures
    c.end_check-y.ensures c.sum_of.ensures

use Rattle.std.proofs.Common.{rules}
use Rattle.walks.proofs.Neighbours.{walk_front, walk_step, walked_front, walked_step}
use Rattle.walks.proofs.walk.Goals as goal

pub front-requires : goal.front-requires
front-requires c =
    search (rules, walk_front)

pub step-requires : goal.step-requires
step-requires c =
    search (rules, walk_step)

pub returns-then-position-eq0 : goal.returns-then-position-eq0
returns-then-position-eq0 c =
    search (rules, walked_front)

pub returns : goal.returns
returns c =
    search (rules, walked_step)

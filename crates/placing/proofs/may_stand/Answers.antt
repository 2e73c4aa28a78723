use Rattle.std.proofs.Common.{rules}
use Rattle.placing.proofs.Positions.{stands_position}
use Rattle.placing.proofs.Gaps.{stand_fits}
use Rattle.placing.proofs.may_stand.Goals as goal

pub neighbour-earlier-requires : goal.neighbour-earlier-requires
neighbour-earlier-requires c =
    search (rules, stands_position)

pub neighbour-later-requires : goal.neighbour-later-requires
neighbour-later-requires c =
    search (rules, stands_position)

pub returns : goal.returns
returns c =
    search (rules, stand_fits)

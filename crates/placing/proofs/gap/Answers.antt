use Rattle.std.proofs.Common.{rules}
use Rattle.model.specs.Tree.{lft, rgt}
use Rattle.placing.proofs.Besides.{beside_pre}
use Rattle.placing.proofs.Gaps.{gap_found}
use Rattle.placing.proofs.Positions.{stands_position, step_found}
use Rattle.placing.proofs.gap.Goals as goal

pub neighbour-next-requires : goal.neighbour-next-requires
neighbour-next-requires c =
    stands_position c.requires

pub beside-requires : goal.beside-requires
beside-requires c =
    search (rules, beside_pre lft)

pub beside-requires-in-Right : goal.beside-requires-in-Right
beside-requires-in-Right c =
    search (rules, beside_pre rgt)

pub returns-in-Left : goal.returns-in-Left
returns-in-Left c =
    rw c.in-Left.is
    (gap_found lft c.requires (step_found lft c.requires (rw c.in-Left.is at c.neighbour-next.ensures))
    c.beside.ensures.is)

pub returns-in-Right : goal.returns-in-Right
returns-in-Right c =
    rw c.in-Right.is
    (gap_found rgt c.requires (step_found rgt c.requires (rw c.in-Right.is at c.neighbour-next.ensures))
    c.beside-in-Right.ensures.is)

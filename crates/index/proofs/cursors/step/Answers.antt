use Rattle.links.specs.Sides.{side_of}
use Rattle.index.proofs.cursors.Moving.{stands_there, stands_still}
use Rattle.index.proofs.cursors.step.Goals as goal

pub returns-in-Ok : goal.returns-in-Ok
returns-in-Ok c =
    stands_there (side_of c.args.side) _ _ _ c.in-Ok.ensures

pub returns-in_default : goal.returns-in_default
returns-in_default c =
    rw c.in_default.is (stands_still (side_of c.args.side) _ _ _ c.in_default.ensures)

use Rattle.std.proofs.Common.{rules}
use Rattle.placing.proofs.Hanging.{hang_vacant, hung_at}
use Rattle.placing.proofs.hang_at.Goals as goal

pub insert_at-requires : goal.insert_at-requires
insert_at-requires c =
    search (rules, hang_vacant)

pub returns : goal.returns
returns c =
    search (rules, hung_at)

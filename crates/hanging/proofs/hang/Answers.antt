use Rattle.hanging.proofs.Inserting.{hang_done}
use Rattle.std.proofs.Common.{rules}
use Rattle.hanging.proofs.hang.Goals as goal

pub returns : goal.returns
returns c =
    search (rules, hang_done)

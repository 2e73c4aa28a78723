use Rattle.turns.proofs.Rotations.{adopted_none, adopted_some}
use Rattle.std.proofs.Common.{rules}
use Rattle.turns.proofs.adopt.Goals as goal

pub returns-then-child-ne0 : goal.returns-then-child-ne0
returns-then-child-ne0 c =
    search (rules, adopted_some)

pub returns-else-child-ne0 : goal.returns-else-child-ne0
returns-else-child-ne0 c =
    search (rules, adopted_none)

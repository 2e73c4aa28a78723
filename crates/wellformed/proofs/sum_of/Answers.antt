use Rattle.wellformed.proofs.Nodes.{sum_none, sum_some}
use Rattle.wellformed.proofs.sum_of.Goals as goal

pub returns-then-x-y : goal.returns-then-x-y
returns-then-x-y c = sum_none _ _ c.if-x-y.true

pub returns-else-x-y : goal.returns-else-x-y
returns-else-x-y c = sum_some _ _ c.if-x-y.false

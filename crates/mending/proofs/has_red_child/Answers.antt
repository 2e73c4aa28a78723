use Rattle.mending.proofs.Passing.{child_left, child_right}
use Rattle.mending.proofs.has_red_child.Goals as goal

pub returns-then-is_red : goal.returns-then-is_red
returns-then-is_red c =
    child_left c.get-first.ensures c.is_red.ensures c.if-is_red.true

pub returns-else-is_red : goal.returns-else-is_red
returns-else-is_red c =
    child_right c.get-first.ensures c.is_red.ensures c.if-is_red.false c.get-second.ensures
    c.is_red-else-is_red.ensures

use Rattle.std.proofs.Common.{rules}
use Rattle.refusals.proofs.Tested.{position_null, position_node}
use Rattle.refusals.proofs.test_node.Goals as goal

pub returns-then-position-eq0 : goal.returns-then-position-eq0
returns-then-position-eq0 c =
    position_null c.if-position-eq0.true

pub returns : goal.returns
returns c =
    search (rules, position_node)

use Rattle.std.proofs.Common.{rules}
use Rattle.refusals.proofs.Tested.{position_null, position_past, position_linked, position_free}
use Rattle.refusals.proofs.test_position.Goals as goal

pub returns-then-position-eq0 : goal.returns-then-position-eq0
returns-then-position-eq0 c =
    position_null c.if-position-eq0.true

pub returns-then-pc-position : goal.returns-then-pc-position
returns-then-pc-position c =
    search (rules, position_past)

pub returns-then-is_linked : goal.returns-then-is_linked
returns-then-is_linked c =
    search (rules, position_linked)

pub returns-else-is_linked : goal.returns-else-is_linked
returns-else-is_linked c =
    search (rules, position_free)

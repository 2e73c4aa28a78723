use Rattle.std.proofs.Common.{rules}
use Rattle.refusals.proofs.Tested.{between_passed, between_refused}
use Rattle.refusals.proofs.in_order.Goals as goal

pub returns-then-up_to : goal.returns-then-up_to
returns-then-up_to c =
    search (rules, between_passed)

pub returns-else-up_to : goal.returns-else-up_to
returns-else-up_to c =
    search (rules, between_refused)

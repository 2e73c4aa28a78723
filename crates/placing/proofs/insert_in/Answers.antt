use Rattle.std.proofs.Common.{rules}
use borrow.Author.Tests.{not-true, not-false}
use Rattle.placing.proofs.Gaps.{in_refused, in_done}
use Rattle.placing.proofs.insert_in.Goals as goal

pub returns-then-not-in_order : goal.returns-then-not-in_order
returns-then-not-in_order c =
    search (rules, in_refused, not-true)

pub returns : goal.returns
returns c =
    search (rules, in_done, not-false)

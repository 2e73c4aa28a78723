use Rattle.std.proofs.Common.{rules}
use Rattle.model.specs.Answers.{slot_test}
use Rattle.model.specs.Lent.{capacity}
use Rattle.refusals.proofs.Tested.{slot_linked, slot_free}
use Rattle.refusals.proofs.test_new.Goals as goal

pub returns-then-slot-eq0 : goal.returns-then-slot-eq0
unfolding slot_test capacity
returns-then-slot-eq0 c =
    search rules

pub returns-then-is_linked : goal.returns-then-is_linked
returns-then-is_linked c =
    search (rules, slot_linked)

pub returns-else-is_linked : goal.returns-else-is_linked
returns-else-is_linked c =
    search (rules, slot_free)

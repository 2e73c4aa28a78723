use Rattle.std.proofs.Common.{rules}
use Rattle.walks.proofs.Neighbours.{step_get, step_end, step_climb, stepped_end, stepped_climb}
use Rattle.walks.proofs.step.Goals as goal

pub get-child-requires : goal.get-child-requires
get-child-requires c =
    search (rules, step_get)

pub end_of-requires : goal.end_of-requires
end_of-requires c =
    search (rules, step_end)

pub climb-requires : goal.climb-requires
climb-requires c =
    search (rules, step_climb)

pub returns-then-child-ne0 : goal.returns-then-child-ne0
returns-then-child-ne0 c =
    search (rules, stepped_end)

pub returns-else-child-ne0 : goal.returns-else-child-ne0
returns-else-child-ne0 c =
    search (rules, stepped_climb)

use Rattle.std.proofs.Common.{rules}
use Rattle.walks.proofs.Spines.{front_start, front_none, front_end}
use Rattle.walks.proofs.front.Goals as goal

pub returns-then-root-eq0 : goal.returns-then-root-eq0
returns-then-root-eq0 c =
    search (rules, front_none)

pub end_of-requires : goal.end_of-requires
end_of-requires c =
    search (rules, front_start)

pub returns : goal.returns
returns c =
    search (rules, front_end)

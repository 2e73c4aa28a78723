use Rattle.links.proofs.Writing.{is_set}
use Rattle.std.proofs.Common.{rules}
use Rattle.links.proofs.set.Goals as goal

pub returns : goal.returns
returns c =
    search (rules, is_set)

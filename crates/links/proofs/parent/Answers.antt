use Rattle.links.proofs.Reading.{got_parent}
use Rattle.std.proofs.Common.{rules}
use Rattle.links.proofs.parent.Goals as goal

pub returns : goal.returns
returns c =
    search (rules, got_parent)

use Rattle.links.proofs.Reading.{got}
use Rattle.std.proofs.Common.{rules}
use Rattle.links.proofs.get.Goals as goal

pub returns : goal.returns
returns c =
    search (rules, got)

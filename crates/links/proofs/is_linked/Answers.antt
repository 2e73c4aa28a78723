use Rattle.links.proofs.Reading.{got_linked}
use Rattle.std.proofs.Common.{rules}
use Rattle.links.proofs.is_linked.Goals as goal

pub returns : goal.returns
returns c =
    search (rules, got_linked)

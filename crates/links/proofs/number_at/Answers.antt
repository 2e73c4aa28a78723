use Rattle.std.proofs.Common.{rules}
use Rattle.links.proofs.Reading.{got_key}
use Rattle.links.proofs.number_at.Goals as goal

pub returns : goal.returns
returns c =
    search (rules, got_key)

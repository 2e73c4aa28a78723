use Rattle.links.proofs.Reading.{got_key}
use Rattle.std.proofs.Common.{rules}
use Rattle.links.proofs.key_of.Goals as goal

pub returns : goal.returns
returns c =
    search (rules, got_key)

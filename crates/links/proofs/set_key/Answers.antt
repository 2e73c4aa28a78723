use Rattle.links.proofs.Writing.{is_set_key}
use Rattle.std.proofs.Common.{rules}
use Rattle.links.proofs.set_key.Goals as goal

pub returns : goal.returns
returns c =
    search (rules, is_set_key)

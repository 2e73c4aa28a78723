use Rattle.std.proofs.Common.{rules}
use Rattle.refusals.proofs.Tested.{from_on_none, from_on_key}
use Rattle.refusals.proofs.from_on.Goals as goal

pub returns : goal.returns
returns c =
    search (rules, from_on_none, from_on_key)

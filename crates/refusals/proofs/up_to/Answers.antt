use Rattle.std.proofs.Common.{rules}
use Rattle.refusals.proofs.Tested.{up_to_none, up_to_key}
use Rattle.refusals.proofs.up_to.Goals as goal

pub returns : goal.returns
returns c =
    search (rules, up_to_none, up_to_key)

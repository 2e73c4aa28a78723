use Rattle.hanging.proofs.Uncles.{or_found}
use Rattle.hanging.proofs.red_or_none.Goals as goal

pub returns : goal.returns
returns c =
    or_found c.is_red.result c.is_red.ensures c.requires c.then_some.ensures

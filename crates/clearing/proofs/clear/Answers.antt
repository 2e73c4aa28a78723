use Rattle.clearing.proofs.Steps.{made_clear}
use Rattle.clearing.proofs.clear.Goals as goal

pub returns : goal.returns
returns c =
    made_clear c.clear_recurse.ensures

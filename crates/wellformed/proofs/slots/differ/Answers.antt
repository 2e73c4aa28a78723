use Rattle.wellformed.proofs.Nodes.{differ_either}
use Rattle.wellformed.proofs.slots.differ.Goals as goal

pub returns : goal.returns
returns c = search (differ_either, c.ne.ensures, c.eq.ensures)

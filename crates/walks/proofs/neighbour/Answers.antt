use Rattle.std.proofs.Common.{rules}
use Rattle.walks.proofs.Neighbours.{preceded, followed}
use Rattle.walks.proofs.neighbour.Goals as goal

pub returns-in-Left : goal.returns-in-Left
returns-in-Left c = search (rules, preceded)

pub returns-in-Right : goal.returns-in-Right
returns-in-Right c = search (rules, followed)

use Rattle.std.proofs.Common.{rules}
use Rattle.descent.proofs.Entering.{placed_none, placed_left, placed_right}
use Rattle.descent.proofs.place.Goals as goal

pub returns-then-leftward : goal.returns-then-leftward
returns-then-leftward c = search (rules, placed_left)

pub returns-else-leftward : goal.returns-else-leftward
returns-else-leftward c = search (rules, placed_none, placed_right)

use Rattle.std.proofs.Common.{rules}
use Rattle.descent.proofs.Entering.{entered_vacant, entered_occupied}
use Rattle.descent.proofs.entry.Goals as goal

pub returns-then-met-eq0 : goal.returns-then-met-eq0
returns-then-met-eq0 c = search (rules, entered_vacant)

pub returns-else-met-eq0 : goal.returns-else-met-eq0
returns-else-met-eq0 c = search (rules, entered_occupied)

use Rattle.hanging.proofs.Uncles.{painted_black, painted_red}
use Rattle.std.proofs.Common.{rules}
use Rattle.hanging.proofs.paint_top.Goals as goal

pub returns-then-parent-eq0 : goal.returns-then-parent-eq0
returns-then-parent-eq0 c =
    search (rules, painted_black)

pub returns-else-parent-eq0 : goal.returns-else-parent-eq0
returns-else-parent-eq0 c =
    search (rules, painted_red)

use Rattle.std.proofs.Common.{rules}
use Rattle.index.proofs.nodes.Ending.{walk_starts, walk_lost, walk_ends, walk_on, walk_spent}
use Rattle.index.proofs.nodes.end_over.Goals as goal

pub loop-init : goal.loop-init
loop-init c =
    search (rules, walk_starts)

pub returns-in_default : goal.returns-in_default
returns-in_default c =
    search (rules, walk_lost)

pub returns-then-child-eq0 : goal.returns-then-child-eq0
returns-then-child-eq0 c =
    search (rules, walk_ends)

pub loop-preserved : goal.loop-preserved
loop-preserved c =
    search (rules, walk_on)

pub returns : goal.returns
returns c =
    search (rules, walk_spent)
